-- A whole try in a group, from waiting failures on to waiting joins; and that nothing more begins where a group rests.
use Rattle.std.proofs.Common.{◌≡◌, ◌≤◌, ◌<◌, ℕ, zero, suc, ◌+◌, List, [], length, Option, Some, None, Bool, true, false, refl, sym, ap, ◌∙◌, subst, arith}
use Rattle.std.specs.Prelude.{◌&&◌, ◌||◌, not, filter, is_none, nat_le}
use Rattle.std.proofs.lemmas.Bool.{leb-false}
use Rattle.rsct_packet.specs.declared.ids.ProviderId.{ProviderId}
use Rattle.rsct_packet.specs.Lists.{is_empty}
use Rattle.group_attr.specs.declared.attrs.Attrs.{Attrs}
use Rattle.group_attr.specs.declared.attrs.Phases.{Phases}
use Rattle.proposal_core.specs.declared.proposal.Failure.{Failure}
use Rattle.proposal_core.specs.declared.proposal.Proposal.{Proposal}
use Rattle.proposal_core.specs.declared.proposal.Proposal.TheVariants.{Join, Fail, Reflect}
use Rattle.proposal_core.specs.declared.group_state.GroupState.{GroupState}
use Rattle.proposal_core.specs.GroupView.{GroupView}
use Rattle.proposal_core.specs.Lists.{max_places, max_bytes, list_or_new, is_at_limit}
use Rattle.batch_rules.specs.Waiting.{WaitingView, batches_joins, batches_failures, chosen_of, next_joins, joins_left}
use Rattle.source_target.specs.declared.Due.{Due}
use Rattle.source_target.specs.declared.Due.TheVariants as due
use Rattle.source_target.specs.Due as target
use Rattle.node_state.specs.declared.state.Core.{Core}
use Rattle.node_state.specs.State.{row_of, led_of, list_of, state_of}
use Rattle.node_state.specs.HandOn.{Answering}
use Rattle.node_state.specs.Leading.{with_waiting, begins}
use Rattle.node_state.specs.Deciding.{known_state, lacks_source}
use Rattle.node_state.specs.Ending.{Pass, quiet, begun_now, failures_begin, due_begins, source_begins, attrs_for, carried_len, source_refused, joins_begin, or_due, or_joins, may_begin, first_begins}
use Rattle.step_walk.proofs.Waiting.{joins_few}
use Rattle.provider_laws.proofs.resting.Orderly.{Orderly}
use Rattle.provider_laws.proofs.resting.Onward.{IsNamed, named_on}
use Rattle.provider_laws.proofs.resting.Trying.{fit_of, lists_of, due_fits, SettledDue, SettledBy, Settled, Rest, Still, still_self, still_then, Held, held_source, still_waiting, waiting_here, begins_on, begins_off, count, Outcome, Grown, Rests, Failing, Ends, Nothing, after_still, begins_try, left_bound, left_fewer, left_less, nothing_long, failures_try}

-- ---- joins

abbrev SettledAll : (List ℕ → Option GroupView) → List ℕ → Type 0
SettledAll ls g = (js : List ProviderId) → js ≡ [] → Settled ls g js

settled_on : (s t : Core) (g : List ℕ) → Still g s t → SettledAll (lists_of s) g → SettledAll (lists_of t) g
settled_on s t g a k = subst (λ ls. SettledAll ls g) (λ i. λ h. sym (a.lists h) i) k

joins_try : (n : ℕ) (f : Answering) (s : Core) (g : List ℕ) → Orderly s → IsNamed s g → (led_of s g).waiting.failures ≡ [] → SettledAll (lists_of s) g → length (led_of s g).waiting.joins ≤ n → Outcome g s (joins_begin n f s g)
unfolding joins_begin
joins_try zero f s g k named none settled few = Rests (still_self g s k) (λ e. (none, settled (led_of s g).waiting.joins (nothing_long (led_of s g).waiting.joins few)))
joins_try (suc n) f s g k named none settled few = by (is_empty ps) refl (joins_try n f t g a.onward.orderly (named_on s t g a.onward named) (ap (λ (z : WaitingView). z.failures) now ∙ none) (settled_on s t g a settled) fewer)
  where
    w : WaitingView
    w = (led_of s g).waiting

    b : Bool
    b = batches_joins (state_of s g).attrs.batch

    chosen : List ProviderId
    chosen = next_joins (state_of s g).attrs.batch w

    x : Attrs
    x = attrs_for (state_of s g) (led_of s g).join_attrs chosen

    ps : List ProviderId
    ps = filter (λ (p : ProviderId). not (lacks_source s x.source p.node)) chosen

    out : List ProviderId
    out = filter (λ (p : ProviderId). lacks_source s x.source p.node) chosen

    c : Core
    c = with_waiting s g (joins_left (state_of s g).attrs.batch)

    t : Core
    t = source_refused c g x.source out

    left : Still g s c
    left = still_waiting s g (joins_left (state_of s g).attrs.batch) (joins_few (state_of s g).attrs.batch) k named

    held : Held g c t
    held = held_source g x.source out c left.onward.orderly (named_on s c g left.onward named)

    a : Still g s t
    a = still_then g s c t left held.still

    now : (led_of t g).waiting ≡ joins_left (state_of s g).attrs.batch w
    now = held.waits ∙ waiting_here s g (joins_left (state_of s g).attrs.batch) k

    fewer : length (led_of t g).waiting.joins ≤ n
    fewer = subst (λ (z : WaitingView). length z.joins ≤ n) (sym now) (left_bound b w.joins n few)

    not_more : count t g ≤ count s g
    not_more = subst (λ (z : WaitingView). length z.failures + length z.joins ≤ count s g) (sym now) (let y = left_fewer b w.joins in omega (arith, y))

    by : (d : Bool) → is_empty ps ≡ d → Outcome g t (joins_begin n f t g) → Outcome g s (elim d as (λ _. Pass) [ true ↦ joins_begin n f t g | false ↦ begun_now (begins f t g (Join ps x (carried_len t x.source)) x.phases) ])
    by true e o = after_still g s t (joins_begin n f t g) a not_more o
    by false e o =
        begins_try f s t g (Join ps x (carried_len t x.source)) x.phases named a (subst (λ (z : WaitingView). length z.failures + length z.joins < count s g) (sym now) (let y = left_less (λ (p : ProviderId). not (lacks_source s x.source p.node)) b w.joins e in omega (arith, y)))

-- ---- what is due

pub data Owing (g : List ℕ) (s : Core) (q : Pass) : Type 0 where
  Owed : q.began ≡ true → Outcome g s q → Owing g s q
  Quits : q ≡ quiet s → SettledAll (lists_of s) g → Owing g s q

-- what is due begins, or it does not fit and the group rests
due_begun : (f : Answering) (s : Core) (g : List ℕ) (x : Proposal) (phases : Phases) → Orderly s → IsNamed s g → (fit_of (list_of s g) x phases ≡ false → Rest s g) → Outcome g s (begun_now (begins f s g x phases))
due_begun f s g x phases k named rest = by (fit_of (list_of s g) x phases) refl
  where
    by : (b : Bool) → fit_of (list_of s g) x phases ≡ b → Outcome g s (begun_now (begins f s g x phases))
    by true e = let m = begins_on f s g x phases k named e in Grown m.0 refl m.1
    by false e = subst (λ (c : Core). Outcome g s (begun_now c)) (sym (begins_off f s g x phases e)) (Rests (still_self g s k) (rest e))

source_try : (f : Answering) (s : Core) (g : List ℕ) → Orderly s → IsNamed s g → (led_of s g).waiting.failures ≡ [] → Owing g s (source_begins f s g (state_of s g) (state_of s g).attrs.source)
unfolding source_begins due_begins known_state state_of list_of
source_try f s g k named none = by (state_of s g).attrs.source refl
  where
    st : GroupState
    st = state_of s g

    rests : (h : List ℕ) (d : Due) → st.attrs.source ≡ Some h → target.due st (known_state s h) ≡ Some d → due_fits (lists_of s) g st h d ≡ false → Rest s g
    rests h d e q off =
        λ may. (none, subst (SettledBy (lists_of s) g st (led_of s g).waiting.joins) (sym e) (subst (SettledDue (lists_of s) g st (led_of s g).waiting.joins h) (sym q) off))

    at : (h : List ℕ) → st.attrs.source ≡ Some h → (o : Option Due) → target.due st (known_state s h) ≡ o → Owing g s (due_begins f s g st h o)
    at h e None q =
        Quits refl (λ js empty. subst (SettledBy (lists_of s) g st js) (sym e) (subst (SettledDue (lists_of s) g st js h) (sym q) empty))
    at h e (Some (due.CastOut out)) q = Owed refl (due_begun f s g (Fail (chosen_of (batches_failures st.attrs.batch) out)) st.attrs.phases k named (rests h (due.CastOut out) e q))
    at h e (Some (due.Reflect v i)) q = Owed refl (due_begun f s g (Reflect v i (state_of s h).value) st.attrs.source_phases k named (rests h (due.Reflect v i) e q))

    by : (o : Option (List ℕ)) → st.attrs.source ≡ o → Owing g s (source_begins f s g st o)
    by None e = Quits refl (λ js empty. subst (SettledBy (lists_of s) g st js) (sym e) empty)
    by (Some h) e = at h e (target.due st (known_state s h)) refl

-- ---- a whole try

due_kept : (f : Answering) (g : List ℕ) (q : Pass) → q.began ≡ true → or_due f g q ≡ q
unfolding or_due
due_kept f g q e = ap (λ b. elim b as (λ _. Pass) [ true ↦ q | false ↦ source_begins f q.core g (state_of q.core g) (state_of q.core g).attrs.source ]) e

due_next : (f : Answering) (g : List ℕ) (q : Pass) → q.began ≡ false → or_due f g q ≡ source_begins f q.core g (state_of q.core g) (state_of q.core g).attrs.source
unfolding or_due
due_next f g q e = ap (λ b. elim b as (λ _. Pass) [ true ↦ q | false ↦ source_begins f q.core g (state_of q.core g) (state_of q.core g).attrs.source ]) e

joins_kept : (f : Answering) (g : List ℕ) (q : Pass) → q.began ≡ true → or_joins f g q ≡ q
unfolding or_joins
joins_kept f g q e = ap (λ b. elim b as (λ _. Pass) [ true ↦ q | false ↦ joins_begin (length (led_of q.core g).waiting.joins) f q.core g ]) e

joins_next : (f : Answering) (g : List ℕ) (q : Pass) → q.began ≡ false → or_joins f g q ≡ joins_begin (length (led_of q.core g).waiting.joins) f q.core g
unfolding or_joins
joins_next f g q e = ap (λ b. elim b as (λ _. Pass) [ true ↦ q | false ↦ joins_begin (length (led_of q.core g).waiting.joins) f q.core g ]) e

try_on : (f : Answering) (s : Core) (g : List ℕ) (q : Pass) → IsNamed s g → Failing g s q → Outcome g s (or_joins f g (or_due f g q))
try_on f s g q named (Ends e o) = subst (λ (z : Pass). Outcome g s z) (sym (ap (or_joins f g) (due_kept f g q e) ∙ joins_kept f g q e)) o
try_on f s g q named (Nothing a e none less) = subst (λ (z : Pass). Outcome g s (or_joins f g z)) (sym (due_next f g q e)) (after_still g s q.core _ a less (owing (source_begins f q.core g (state_of q.core g) (state_of q.core g).attrs.source) (source_try f q.core g a.onward.orderly n none)))
  where
    n : IsNamed q.core g
    n = named_on s q.core g a.onward named

    owing : (p : Pass) → Owing g q.core p → Outcome g q.core (or_joins f g p)
    owing p (Owed b o) = subst (λ (z : Pass). Outcome g q.core z) (sym (joins_kept f g p b)) o
    owing p (Quits b settled) =
        subst (λ (z : Pass). Outcome g q.core (or_joins f g z)) (sym b) (subst (λ (z : Pass). Outcome g q.core z) (sym (joins_next f g (quiet q.core) refl)) (joins_try (length (led_of q.core g).waiting.joins) f q.core g a.onward.orderly n none settled (omega arith)))

pub first_try : (f : Answering) (s : Core) (g : List ℕ) → Orderly s → IsNamed s g → (may_begin (list_of s g) ≡ true → Outcome g s (first_begins f s g (row_of s g))) × (may_begin (list_of s g) ≡ false → first_begins f s g (row_of s g) ≡ quiet s)
unfolding first_begins list_of led_of
first_try f s g k named =
    let q : Pass = failures_begin (length (led_of s g).waiting.failures) f s g in
    let o : Outcome g s (or_joins f g (or_due f g q)) = try_on f s g q named (failures_try (length (led_of s g).waiting.failures) f s g k named (omega arith)) in
    (λ e. subst (λ b. Outcome g s (elim b as (λ _. Pass) [ false ↦ quiet s | true ↦ or_joins f g (or_due f g q) ])) (sym e) o, λ e. ap (λ b. elim b as (λ _. Pass) [ false ↦ quiet s | true ↦ or_joins f g (or_due f g q) ]) e)

-- below its limit
pub may_below : (l : GroupView) → may_begin l ≡ true → l.len < 4096
unfolding may_begin is_at_limit
may_below l e = by (is_none l.state.running) (nat_le max_places l.len) refl e
  where
    by : (a b : Bool) → nat_le max_places l.len ≡ b → a && not (b || nat_le max_bytes l.bytes) ≡ true → l.len < 4096
    by false b q r = absurd (cc)
    by true true q r = absurd (cc)
    by true false q r = leb-false max_places l.len q

-- ---- where a group rests, a try changes nothing

rest_joins : (f : Answering) (s : Core) (g : List ℕ) (p : Pass) → p ≡ quiet s → (led_of s g).waiting.joins ≡ [] → (or_joins f g p).core ≡ s
unfolding joins_begin
rest_joins f s g p e none =
    ap (λ (z : Pass). (or_joins f g z).core) e ∙ (ap (λ (z : Pass). z.core) (joins_next f g (quiet s) refl) ∙ ap (λ (js : List ProviderId). (joins_begin (length js) f s g).core) none)

rest_due : (f : Answering) (s : Core) (g : List ℕ) (h : List ℕ) (o : Option Due) → SettledDue (lists_of s) g (state_of s g) (led_of s g).waiting.joins h o → (or_joins f g (due_begins f s g (state_of s g) h o)).core ≡ s
unfolding due_begins state_of list_of
rest_due f s g h None k = rest_joins f s g (quiet s) refl k
rest_due f s g h (Some (due.CastOut out)) k =
    ap (λ (z : Pass). z.core) (joins_kept f g (begun_now (begins f s g (Fail (chosen_of (batches_failures (state_of s g).attrs.batch) out)) (state_of s g).attrs.phases)) refl) ∙ begins_off f s g (Fail (chosen_of (batches_failures (state_of s g).attrs.batch) out)) (state_of s g).attrs.phases k
rest_due f s g h (Some (due.Reflect v i)) k =
    ap (λ (z : Pass). z.core) (joins_kept f g (begun_now (begins f s g (Reflect v i (state_of s h).value) (state_of s g).attrs.source_phases)) refl) ∙ begins_off f s g (Reflect v i (state_of s h).value) (state_of s g).attrs.source_phases k

rest_source : (f : Answering) (s : Core) (g : List ℕ) (o : Option (List ℕ)) → SettledBy (lists_of s) g (state_of s g) (led_of s g).waiting.joins o → (or_joins f g (source_begins f s g (state_of s g) o)).core ≡ s
unfolding source_begins known_state
rest_source f s g None k = rest_joins f s g (quiet s) refl k
rest_source f s g (Some h) k = rest_due f s g h (target.due (state_of s g) (known_state s h)) k

rest_try : (f : Answering) (s : Core) (g : List ℕ) → (led_of s g).waiting.failures ≡ [] → Settled (lists_of s) g (led_of s g).waiting.joins → (or_joins f g (or_due f g (failures_begin (length (led_of s g).waiting.failures) f s g))).core ≡ s
unfolding failures_begin state_of list_of
rest_try f s g none k =
    ap (λ (xs : List Failure). (or_joins f g (or_due f g (failures_begin (length xs) f s g))).core) none ∙ (ap (λ (z : Pass). (or_joins f g z).core) (due_next f g (quiet s) refl) ∙ rest_source f s g (state_of s g).attrs.source k)

pub rest_first : (f : Answering) (s : Core) (g : List ℕ) → Rest s g → (first_begins f s g (row_of s g)).core ≡ s
unfolding first_begins led_of
rest_first f s g k = by (may_begin (list_or_new (row_of s g).list)) refl
  where
    by : (b : Bool) → may_begin (list_or_new (row_of s g).list) ≡ b → (elim b as (λ _. Pass) [ false ↦ quiet s | true ↦ or_joins f g (or_due f g (failures_begin (length (row_of s g).led.waiting.failures) f s g)) ]).core ≡ s
    by false e = refl
    by true e = rest_try f s g (k e).0 (k e).1
