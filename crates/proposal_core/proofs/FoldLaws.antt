-- Laws of the fold.
use Rattle.std.proofs.Common.{◌≡◌, ℕ, ◌+◌, ◌<◌, Bool, true, false, List, [], ◌∷◌, length, get_or, take, Option, Some, None, refl, sym, ap, subst, ◌∙◌}
use Rattle.std.specs.Prelude.{IsTrue, ◌&&◌, ◌||◌, ◌++◌}
use Rattle.std.proofs.lemmas.List.{take_more, map-append}
use Rattle.std.proofs.lemmas.List.Folds.{list_any-append}
use Rattle.rsct_packet.specs.declared.ids.ProviderId.{ProviderId}
use Rattle.rsct_packet.specs.Providers.{same_provider, among, without_all}
use Rattle.rsct_packet.proofs.ProviderLaws.{without_all-append}
use Rattle.proposal_core.specs.declared.proposal.Failure.{Failure}
use Rattle.rsct_packet.specs.declared.ids.ViewId.{ViewId}
use Rattle.group_attr.specs.declared.attrs.Attrs.{Attrs}
use Rattle.proposal_core.specs.declared.proposal.Proposal.{Proposal}
use Rattle.proposal_core.specs.declared.proposal.Proposal.TheVariants.{Join, Leave, Fail, Expel, State, Message, Attributes, Reflect}
use Rattle.proposal_core.specs.declared.entry.Entry.{Entry}
use Rattle.proposal_core.specs.declared.entry.Entry.TheVariants.{Once, Begin, Phase, Approve, Reject, Late}
use Rattle.proposal_core.specs.declared.group_state.GroupState.{GroupState}
use Rattle.proposal_core.specs.declared.group_state.Running.{Running}
use Rattle.proposal_core.specs.Fold.{fallen_of, without, can_begin, fits, effect, first_value, first_attrs, take_attrs, begun, replace_proposed, take_value, approve, apply_once, apply, reject, take_rejection, next_phase, advance, joiners_fit, joiners_fit_at}

pub nobody_off : (xs : List ProviderId) → without_all xs [] ≡ xs
nobody_off [] = refl
nobody_off (x ∷ xs) = ap (λ (ys : List ProviderId). x ∷ ys) (nobody_off xs)

-- one more is taken off
pub fallen_more : (xs : List ProviderId) (out : List Failure) (i : ℕ) (d : Failure) → i < length out → without_all xs (fallen_of (take (i + 1) out)) ≡ without_all (without_all xs (fallen_of (take i out))) ((get_or out i d).provider ∷ [])
fallen_more xs out i d lt =
    ap (λ (fs : List Failure). without_all xs (fallen_of fs)) (take_more out i d lt)
    ∙ ap (without_all xs) (map-append (λ (f : Failure). f.provider) (take i out) (get_or out i d ∷ []))
    ∙ without_all-append xs (fallen_of (take i out)) ((get_or out i d).provider ∷ [])

-- The members are the same whatever attributes come.
attrs_keep_members : (s : GroupState) (attrs : Option Attrs) → (take_attrs s attrs).members ≡ s.members
unfolding take_attrs
attrs_keep_members s None = refl
attrs_keep_members s (Some attrs) = refl

-- attributes and an effect that leaves them may change places
effect_then_attrs : (s : GroupState) (x : Proposal) (attrs : Option Attrs) → first_attrs s x ≡ attrs → effect (take_attrs s attrs) x ≡ take_attrs (effect s x) attrs
unfolding effect take_attrs first_attrs
effect_then_attrs s (Join ps a n) None e = refl
effect_then_attrs s (Join ps a n) (Some attrs) e = refl
effect_then_attrs s x None e = refl
effect_then_attrs s (Leave p r) (Some attrs) e = absurd cc
effect_then_attrs s (Fail out) (Some attrs) e = absurd cc
effect_then_attrs s (Expel p r out) (Some attrs) e = absurd cc
effect_then_attrs s (State p r value) (Some attrs) e = absurd cc
effect_then_attrs s (Message p r bytes) (Some attrs) e = absurd cc
effect_then_attrs s (Attributes p r a) (Some attrs) e = absurd cc
effect_then_attrs s (Reflect view place value) (Some attrs) e = absurd cc

idle : (s : GroupState) (attrs : Option Attrs) → s.running ≡ None → record (take_attrs s attrs) { running = None } ≡ take_attrs s attrs
unfolding take_attrs
idle s None e = ap (λ (r : Option Running). record s { running = r }) (sym e)
idle s (Some attrs) e = ap (λ (r : Option Running). record s { attrs = attrs; running = r }) (sym e)

-- a protocol of one phase is begun and approve at apply_once
pub once_is_applied : (s : GroupState) (v : ViewId) (i : ℕ) (x : Proposal) → s.running ≡ None → apply s v i (Once x) ≡ apply_once s v i x
unfolding apply approve begun apply_once replace_proposed
once_is_applied s v i x e =
    ap (λ (t : GroupState). take_value (effect t x) v i (first_value x)) (idle s (first_attrs s x) e)
    ∙ ap (λ (t : GroupState). take_value t v i (first_value x)) (effect_then_attrs s x (first_attrs s x) refl)

-- Once nothing runs, or what runs stays as it began, the joiners fit.
pub attrs_keep_beginning : (s : GroupState) (run : Option Running) (attrs : Option Attrs) (x : Proposal) → can_begin s x ≡ can_begin (record (take_attrs s attrs) { running = run }) x
unfolding can_begin take_attrs
attrs_keep_beginning s run None (Join ps a n) = refl
attrs_keep_beginning s run (Some attrs) (Join ps a n) = refl
attrs_keep_beginning s run None x = refl
attrs_keep_beginning s run (Some attrs) (Leave p r) = refl
attrs_keep_beginning s run (Some attrs) (Fail out) = refl
attrs_keep_beginning s run (Some attrs) (Expel p r out) = refl
attrs_keep_beginning s run (Some attrs) (State p r value) = refl
attrs_keep_beginning s run (Some attrs) (Message p r bytes) = refl
attrs_keep_beginning s run (Some attrs) (Attributes p r a) = refl
attrs_keep_beginning s run (Some attrs) (Reflect view place value) = refl

joiners_at_begin : (s : GroupState) (v : ViewId) (i : ℕ) (x : Proposal) → IsTrue (can_begin s x) → IsTrue (joiners_fit (begun s v i x))
unfolding joiners_fit joiners_fit_at begun
joiners_at_begin s v i x h = rw (← attrs_keep_beginning s _ (first_attrs s x) x) h

and_true : (a b : Bool) → IsTrue (a && b) → IsTrue b
and_true true b h = h
and_true false b h = absurd cc

idle_after : (s : GroupState) (v : ViewId) (i : ℕ) (value : Option (List ℕ)) → (take_value s v i value).running ≡ s.running
unfolding take_value
idle_after s v i None = refl
idle_after s v i (Some value) = refl

idle_effect : (s : GroupState) (x : Proposal) → (effect s x).running ≡ s.running
unfolding effect without
idle_effect s (Join ps attrs n) = refl
idle_effect s (Leave p r) = refl
idle_effect s (Fail out) = refl
idle_effect s (Expel p r out) = refl
idle_effect s (State p r value) = refl
idle_effect s (Message p r bytes) = refl
idle_effect s (Attributes p r attrs) = refl
idle_effect s (Reflect view place value) = refl

idle_rejection : (s : GroupState) (x : Proposal) → (take_rejection s x).running ≡ s.running
unfolding take_rejection without
idle_rejection s (Join ps attrs n) = refl
idle_rejection s (Leave p r) = refl
idle_rejection s (Fail out) = refl
idle_rejection s (Expel p r out) = refl
idle_rejection s (State p r value) = refl
idle_rejection s (Message p r bytes) = refl
idle_rejection s (Attributes p r attrs) = refl
idle_rejection s (Reflect view place value) = refl

pub joiners_where_idle : (s : GroupState) → s.running ≡ None → IsTrue (joiners_fit s)
unfolding joiners_fit joiners_fit_at
joiners_where_idle s e = rw e refl

pub idle_approved : (s : GroupState) (v : ViewId) (i : ℕ) (value : Option (List ℕ)) (run : Option Running) → s.running ≡ run → (approve s v i value run).running ≡ None
unfolding approve
idle_approved s v i value None e = e
idle_approved s v i value (Some run) e = idle_after _ v i _ ∙ idle_effect _ run.proposal

pub idle_rejected : (s : GroupState) (run : Option Running) → s.running ≡ run → (reject s run).running ≡ None
unfolding reject
idle_rejected s None e = e
idle_rejected s (Some run) e = idle_rejection _ run.proposal

joiners_of_run : (s : GroupState) (run next : Running) → run.proposal ≡ next.proposal → IsTrue (can_begin s run.proposal) → IsTrue (can_begin (record s { running = Some next }) next.proposal)
unfolding take_attrs can_begin
joiners_of_run s run next e h = let k : can_begin s run.proposal ≡ can_begin (record s { running = Some next }) run.proposal = attrs_keep_beginning s (Some next) None run.proposal in rw (← e) (subst IsTrue k h)

pub joiners_that_run : (s : GroupState) (running : Option Running) (run : Running) → running ≡ Some run → IsTrue (joiners_fit_at s running) → IsTrue (can_begin s run.proposal)
unfolding joiners_fit_at
joiners_that_run s None run e h = absurd cc
joiners_that_run s (Some r) run e h = let k : r ≡ run = cc in rw (← k) h

joiners_at_phase : (s : GroupState) (value : Option (List ℕ)) (run : Option Running) → s.running ≡ run → IsTrue (joiners_fit s) → IsTrue (joiners_fit (next_phase s value run))
unfolding joiners_fit next_phase joiners_fit_at advance
joiners_at_phase s value None e h = h
joiners_at_phase s value (Some run) e h = joiners_of_run s run _ refl (joiners_that_run s s.running run e h)

-- the joiners still fit after an entry that fits
pub joiners_fit_after : (s : GroupState) (v : ViewId) (i : ℕ) (e : Entry) → IsTrue (fits s e) → IsTrue (joiners_fit s) → IsTrue (joiners_fit (apply s v i e))
unfolding apply fits
joiners_fit_after s v i (Once x) f h = joiners_where_idle _ (idle_approved _ v i None _ refl)
joiners_fit_after s v i (Begin x) f h = joiners_at_begin s v i x (and_true _ _ f)
joiners_fit_after s v i (Phase c) f h = joiners_at_phase s c.value _ refl h
joiners_fit_after s v i (Approve c) f h = joiners_where_idle _ (idle_approved s v i c.value _ refl)
joiners_fit_after s v i (Reject c) f h = joiners_where_idle _ (idle_rejected s _ refl)
joiners_fit_after s v i (Late proto phase ps) f h = h

-- the providers of two lists
pub among_both : (xs ys : List ProviderId) (q : ProviderId) → among (xs ++ ys) q ≡ (among xs q || among ys q)
among_both xs ys q = list_any-append (λ (p : ProviderId). same_provider p q) xs ys
