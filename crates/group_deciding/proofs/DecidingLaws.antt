-- What the leader's decisions keep, and that a join which is not refused can wait.
use Rattle.std.proofs.Common.{◌≡◌, ℕ, Bool, true, false, List, [], ◌++◌, length, Option, Some, None, refl, sym, ap, ◌∙◌, arith, length-append}
use Rattle.std.specs.Prelude.{◌==◌, ◌||◌, ◌&&◌, not, nat_le, find}
use Rattle.std.proofs.lemmas.List.Folds.{list_any-append}
use Rattle.rsct_packet.specs.declared.ids.ProviderId.{ProviderId}
use Rattle.group_attr.specs.declared.attrs.Attrs.{Attrs}
use Rattle.group_attr.specs.declared.attrs.Phases.{Phases}
use Rattle.group_attr.specs.Agree.{agree}
use Rattle.proposal_core.specs.declared.proposal.Proposal.{Proposal}
use Rattle.proposal_core.specs.declared.proposal.Proposal.TheVariants.{Join, Leave, Fail, Expel, State, Message, Attributes, Reflect}
use Rattle.proposal_core.specs.Fold.{max_providers, present}
use Rattle.batch_rules.specs.Waiting.{WaitingView, same_instance, has_instance, max_waiting}
use Rattle.batch_rules.specs.Next.{added_as}
use Rattle.batch_rules.specs.declared.waiting.Added.TheVariants.{Queued}
use Rattle.client_callbacks.specs.declared.told.Why.{Why}
use Rattle.client_callbacks.specs.declared.votes.VoteItem.{VoteItem}
use Rattle.client_callbacks.specs.declared.told.Why.TheVariants as why
use Rattle.node_state.specs.declared.group.GroupRow.{GroupRow}
use Rattle.node_state.specs.declared.state.Core.{Core}
use Rattle.node_state.specs.State.{InNameOrder, row_of, row_found, with_led, led_of, state_of, has_name}
use Rattle.node_state.specs.Leading.{begins}
use Rattle.node_state.specs.HandOn.{Answering}
use Rattle.node_state.specs.Deciding.{keep_decision, refused, lacks_source, source_len, is_idle_empty, meant_attrs, join_refusal, wait_join, decide_join, other_refusal, decide_change, decided}
use Rattle.node_groups.specs.Places.{row_reached}
use Rattle.node_groups.specs.Keeps.{Keeps}
use Rattle.node_groups.proofs.KeepLaws.{keeps_then, keeps_as, led_keeps}
use Rattle.node_state.proofs.NameOrder.{row_here}
use Rattle.node_groups.proofs.RowLaws.{reached_found}
use Rattle.entry_delivery.specs.Received.{Handing}
use Rattle.entry_delivery.specs.Doing.{Does}
use Rattle.entry_delivery.proofs.DoingLaws.{does_after, does_as}
use Rattle.group_deciding.proofs.RefusingLaws.{decision_keeps}
use Rattle.group_leading.proofs.WorkLaws.{keeps_follows, kept_does}

-- ---- what is kept

pub waiting_keeps : (s t : Core) (g : List ℕ) (p : ProviderId) (r : ℕ) (a : Attrs) (idle : Bool) → t ≡ wait_join s g p r a idle → Keeps s t
unfolding wait_join
waiting_keeps s t g p r a idle e =
    keeps_as s (wait_join s g p r a idle) t e (keeps_then s (keep_decision s g p r None) _ (decision_keeps s g p r None) (led_keeps (keep_decision s g p r None) g _))

pub refused_does : (scripts : List (Option (List (Option VoteItem)))) (P : List Handing → Type 0) → P [] → (s t : Core) (g : List ℕ) (p : ProviderId) (r : ℕ) (phases : Phases) (x : Proposal) (y : Why) → Some y ≡ other_refusal s g p x
    → (t ≡ refused s g p r y) × Keeps s t → Does scripts P s t (λ f. decide_change f s g p r phases x (other_refusal s g p x))
unfolding decide_change
refused_does scripts P q s t g p r phases x y e refusal =
    kept_does scripts P q s t (λ f. decide_change f s g p r phases x (other_refusal s g p x)) (λ f. refusal.0 ∙ ap (decide_change f s g p r phases x) e) refusal.1

pub join_does : (scripts : List (Option (List (Option VoteItem)))) (P : List Handing → Type 0) → P [] → (s t : Core) (g : List ℕ) (p : ProviderId) (r : ℕ) (phases : Phases) (x : Proposal) (ps : List ProviderId) (a : Attrs) (n : Option ℕ) → x ≡ Join ps a n
    → (t ≡ decide_join s g p r a (join_refusal s g p a)) × Keeps s t → Does scripts P s t (λ f. decided f s g p r phases x)
unfolding decided
join_does scripts P q s t g p r phases x ps a n e joining =
    kept_does scripts P q s t (λ f. decided f s g p r phases x) (λ f. joining.0 ∙ ap (decided f s g p r phases) (sym e)) joining.1

other_decided : (f : Answering) (s : Core) (g : List ℕ) (p : ProviderId) (r : ℕ) (phases : Phases) (x : Proposal) → ((ps : List ProviderId) (a : Attrs) (n : Option ℕ) → x ≡ Join ps a n → ⊥) → decide_change f s g p r phases x (other_refusal s g p x) ≡ decided f s g p r phases x
unfolding decided
other_decided f s g p r phases (Join ps a n) h = absurd (h ps a n refl)
other_decided f s g p r phases (Leave q k) h = refl
other_decided f s g p r phases (Fail out) h = refl
other_decided f s g p r phases (Expel q k out) h = refl
other_decided f s g p r phases (State q k value) h = refl
other_decided f s g p r phases (Message q k bytes) h = refl
other_decided f s g p r phases (Attributes q k attrs) h = refl
other_decided f s g p r phases (Reflect view place value) h = refl

-- what is no join is decided as a change
pub change_does : (scripts : List (Option (List (Option VoteItem)))) (P : List Handing → Type 0) (s t : Core) (g : List ℕ) (p : ProviderId) (r : ℕ) (phases : Phases) (x : Proposal) → ((ps : List ProviderId) (a : Attrs) (n : Option ℕ) → x ≡ Join ps a n → ⊥)
    → Does scripts P s t (λ f. decide_change f s g p r phases x (other_refusal s g p x)) → Does scripts P s t (λ f. decided f s g p r phases x)
change_does scripts P s t g p r phases x other done = does_as scripts P s t _ (λ f. decided f s g p r phases x) (λ f. other_decided f s g p r phases x other) done

-- ---- a request that begins

pub granted : (scripts : List (Option (List (Option VoteItem)))) (P : List Handing → Type 0) (s t u : Core) (g : List ℕ) (p : ProviderId) (r : ℕ) (x : Proposal) (phases : Phases) → t ≡ keep_decision s g p r None → Keeps s t
    → Does scripts P t u (λ f. begins f t g x phases) → Does scripts P s u (λ f. begins f (keep_decision s g p r None) g x phases)
granted scripts P s t u g p r x phases kept keeps done =
    does_after scripts P s t u _ (keeps_follows s t keeps) (does_as scripts P t u _ _ (λ f. ap (λ (z : Core). begins f z g x phases) kept) done)

-- ---- a join that is not refused

not_refused : (attributes duplicate source full : Bool) (y1 y2 y3 y4 : Why) (rest : Option Why)
    → ◌≡◌ {A = Option Why} (elim attributes [ true ↦ Some y1 | false ↦ elim duplicate [ true ↦ Some y2 | false ↦ elim source [ true ↦ Some y3 | false ↦ elim full [ true ↦ Some y4 | false ↦ rest ] ] ] ]) None
    → (duplicate ≡ false) × (full ≡ false)
not_refused true duplicate source full y1 y2 y3 y4 rest e = absurd cc
not_refused false true source full y1 y2 y3 y4 rest e = absurd cc
not_refused false false true full y1 y2 y3 y4 rest e = absurd cc
not_refused false false false true y1 y2 y3 y4 rest e = absurd cc
not_refused false false false false y1 y2 y3 y4 rest e = (refl, refl)

or_false : (a b : Bool) → (a || b) ≡ false → b ≡ false
or_false true b e = absurd cc
or_false false b e = e

queued : (p : ProviderId) (ps : List ProviderId) (w : WaitingView) → has_instance (ps ++ w.joins) p ≡ false → nat_le max_providers (length (ps ++ w.joins)) ≡ false → added_as p [] w ≡ Queued
queued p ps w other room =
    let single : has_instance w.joins p ≡ false = or_false (has_instance ps p) (has_instance w.joins p) (sym (list_any-append (λ q. same_instance q p) ps w.joins) ∙ other) in
    let few : (length w.joins == max_waiting) ≡ false = grind (arith, length-append ps w.joins) in
    rw (single, few) refl

-- it can wait
pub join_free : (s : Core) (g : List ℕ) (p : ProviderId) (a : Attrs) → None ≡ join_refusal s g p a → added_as p [] (led_of s g).waiting ≡ Queued
unfolding join_refusal
join_free s g p a e =
    let st = state_of s g in
    let here : List ProviderId = present (state_of s g) ++ (led_of s g).waiting.joins in
    let source = (meant_attrs (state_of s g) a (is_idle_empty (state_of s g))).source in
    let h = not_refused (not (is_idle_empty (state_of s g)) && not (agree a (state_of s g).attrs)) (has_instance here p) (lacks_source s source p.node) (nat_le max_providers (length here))
    why.BadAttributes why.DuplicateInstance (why.NoSource (source_len s source)) (why.GroupFull 64) _ (sym e) in
    queued p (present (state_of s g)) (led_of s g).waiting h.0 h.1

-- a decision leaves what waits as it is
decision_waiting : (s : Core) (g : List ℕ) (p : ProviderId) (r : ℕ) (y : Option Why) → InNameOrder s.groups → (row_of (keep_decision s g p r y) g).led.waiting ≡ (row_of s g).led.waiting
unfolding keep_decision with_led
decision_waiting s g p r y o = ap (λ (x : GroupRow). x.led.waiting) (row_here g _ (λ x. refl) s o)

-- it can wait in the row that is reached once the decision is kept
pub still_free : (s t : Core) (g : List ℕ) (p : ProviderId) (r : ℕ) (x : GroupRow) → InNameOrder s.groups → t ≡ keep_decision s g p r None → added_as p [] (led_of s g).waiting ≡ Queued → x ≡ row_reached g t.groups → added_as p [] x.led.waiting ≡ Queued
unfolding led_of row_of
still_free s t g p r x o kept free reached =
    let ordered : InNameOrder t.groups = (keeps_as s (keep_decision s g p r None) t kept (decision_keeps s g p r None)).order o in
    let row : x ≡ row_found g (find (has_name g) t.groups) = reached ∙ reached_found g t.groups ordered in
    let waiting : x.led.waiting ≡ (row_of s g).led.waiting = ap (λ (z : GroupRow). z.led.waiting) row ∙ (ap (λ (u : Core). (row_of u g).led.waiting) kept ∙ decision_waiting s g p r None o) in
    rw waiting free
