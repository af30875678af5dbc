-- Along a list, a reflection that has begun stays behind the reflected place, or it runs: so a later one is greater.
use Rattle.std.proofs.Common.{◌≡◌, ◌⊎◌, ℕ, Option, Some, None, Bool, true, false, refl, sym, ap, ◌∙◌, subst, inl, inr, arith, ◌<◌}
use Rattle.std.specs.Prelude.{List, is_none, ◌&&◌, ◌||◌, nat_lt}
use Rattle.std.proofs.lemmas.Bool.{and_parts}
use Rattle.std.proofs.lemmas.Bool.Decides.{nat_tests}
use Rattle.rsct_packet.specs.declared.ids.ViewId.{ViewId}
use Rattle.rsct_packet.specs.declared.ids.ProtoId.{ProtoId}
use Rattle.rsct_packet.specs.Ids.{same_view, view_lt, proto_lt, place_lt}
use Rattle.group_attr.specs.declared.attrs.Attrs.{Attrs}
use Rattle.proposal_core.specs.declared.proposal.Proposal.{Proposal}
use Rattle.proposal_core.specs.declared.proposal.Proposal.TheVariants.{Join, Leave, Fail, Expel, State, Message, Attributes, Reflect}
use Rattle.proposal_core.specs.declared.entry.Entry.{Entry}
use Rattle.proposal_core.specs.declared.entry.Entry.TheVariants.{Once, Begin, Phase, Approve, Reject, Late}
use Rattle.proposal_core.specs.declared.group_state.GroupState.{GroupState}
use Rattle.proposal_core.specs.declared.group_state.Running.{Running}
use Rattle.proposal_core.specs.Fold.{can_begin, fits, without, effect, first_value, first_attrs, take_attrs, begun, replace_proposed, take_value, approve, take_rejection, reject, advance, next_phase, apply, after_if, after}
use Rattle.run_safety.specs.ViewOrder.{is_before, is_same, Lt}
use Rattle.run_safety.proofs.Order.{lt_trans, eq_true, eq_same}
use Rattle.entry_laws.specs.source_order.Sources.{OfBegun, Rises, reflected_by, reflects}

-- ---- the order of places

abbrev Before : ProtoId → ProtoId → Type 0
Before a b = Lt a.view b.view ⊎ ((a.view ≡ b.view) × (a.place < b.place))

before_of : (a b : ProtoId) → proto_lt a b ≡ true → Before a b
unfolding is_before is_same
before_of a b e = by (view_lt a.view b.view) (same_view a.view b.view) refl refl e
  where
    by : (l s : Bool) → view_lt a.view b.view ≡ l → same_view a.view b.view ≡ s → (l || (s && nat_lt a.place b.place)) ≡ true → Before a b
    by true s p q z = inl p
    by false true p q z = let l : a.place < b.place = grind (arith, nat_tests) in inr (eq_true a.view b.view q, l)
    by false false p q z = absurd (cc)

of_before : (a b : ProtoId) → Before a b → proto_lt a b ≡ true
unfolding is_before is_same
of_before a b (inl l) = ap (λ t. t || (same_view a.view b.view && nat_lt a.place b.place)) l
of_before a b (inr k) = by (view_lt a.view b.view)
  where
    both : (same_view a.view b.view && nat_lt a.place b.place) ≡ true
    both =
        let s : same_view a.view b.view ≡ true = ap (same_view a.view) (sym k.0) ∙ eq_same a.view in
        let l = k.1 in
        let t : nat_lt a.place b.place ≡ true = grind (arith, nat_tests) in (λ j. s j && t j)

    by : (l : Bool) → (l || (same_view a.view b.view && nat_lt a.place b.place)) ≡ true
    by true = refl
    by false = both

lt_then : (a b c : ProtoId) → proto_lt a b ≡ true → proto_lt b c ≡ true → proto_lt a c ≡ true
lt_then a b c p q = of_before a c (by (before_of a b p) (before_of b c q))
  where
    by : Before a b → Before b c → Before a c
    by (inl x) (inl y) = inl (lt_trans a.view b.view c.view x y)
    by (inl x) (inr y) = inl (subst (Lt a.view) y.0 x)
    by (inr x) (inl y) = inl (subst (λ v. Lt v c.view) (sym x.0) y)
    by (inr x) (inr y) = let l = x.1 in let m = y.1 in inr (x.0 ∙ y.0, omega arith)

-- ---- a reflection that began

-- not behind it
abbrev pub NotBehind : ProtoId → ProtoId → Type 0
NotBehind a c = (a ≡ c) ⊎ (proto_lt a c ≡ true)

abbrev pub Reached : ProtoId → Option ProtoId → Type 0
Reached a None = ⊥
Reached a (Some c) = NotBehind a c

within_then : (a b c : ProtoId) → NotBehind a b → proto_lt b c ≡ true → proto_lt a c ≡ true
within_then a b c (inl e) q = subst (λ z. proto_lt z c ≡ true) (sym e) q
within_then a b c (inr p) q = lt_then a b c p q

reached_then : (a : ProtoId) (o : Option ProtoId) (c : ProtoId) → Reached a o → place_lt o (Some c) ≡ true → proto_lt a c ≡ true
reached_then a None c k q = absurd k
reached_then a (Some b) c k q = within_then a b c k q

-- it began: it is not behind the one that runs, and it runs, or the reflected place has reached it
pub record Passed (a : ProtoId) (running : Option Running) (place : Option ProtoId) : Type 0 where
  pub runs : (r : Running) → running ≡ Some r → (c : ProtoId) → reflected_by r.proposal ≡ Some c → NotBehind a c
  pub done : Reached a place ⊎ ((r : Running) × (running ≡ Some r) × (reflected_by r.proposal ≡ Some a))

-- a running reflection is not behind the reflected place
abbrev pub Ahead : Option Running → Option ProtoId → Type 0
Ahead running place =
    (r : Running) (c a : ProtoId) → running ≡ Some r → reflected_by r.proposal ≡ Some c → place ≡ Some a → NotBehind a c

abbrev pub PassedIn : ProtoId → GroupState → Type 0
PassedIn a st = Passed a st.running st.reflected_at

-- ---- what the fold makes of the reflected place

pub attrs_place : (st : GroupState) (o : Option Attrs) → (take_attrs st o).reflected_at ≡ st.reflected_at
unfolding take_attrs
attrs_place st None = refl
attrs_place st (Some a) = refl

pub valued_same : (st : GroupState) (v : ViewId) (i : ℕ) (o : Option (List ℕ)) → ((take_value st v i o).reflected_at ≡ st.reflected_at) × ((take_value st v i o).running ≡ st.running)
unfolding take_value
valued_same st v i None = (refl, refl)
valued_same st v i (Some value) = (refl, refl)

-- what ends
abbrev pub place_after : Option ProtoId → Option ProtoId → Option ProtoId
place_after None old = old
place_after (Some c) old = Some c

pub effect_same : (st : GroupState) (x : Proposal) → ((effect st x).reflected_at ≡ place_after (reflected_by x) st.reflected_at) × ((effect st x).running ≡ st.running)
unfolding effect without
effect_same st (Join ps attrs n) = (refl, refl)
effect_same st (Leave p r) = (refl, refl)
effect_same st (Fail out) = (refl, refl)
effect_same st (Expel p r out) = (refl, refl)
effect_same st (State p r value) = (refl, refl)
effect_same st (Message p r bytes) = (refl, refl)
effect_same st (Attributes p r attrs) = (refl, refl)
effect_same st (Reflect v i value) = (refl, refl)

pub rejected_same : (st : GroupState) (x : Proposal) → ((take_rejection st x).reflected_at ≡ place_after (reflected_by x) st.reflected_at) × ((take_rejection st x).running ≡ st.running)
unfolding take_rejection without
rejected_same st (Join ps attrs n) = (refl, refl)
rejected_same st (Leave p r) = (refl, refl)
rejected_same st (Fail out) = (refl, refl)
rejected_same st (Expel p r out) = (refl, refl)
rejected_same st (State p r value) = (refl, refl)
rejected_same st (Message p r bytes) = (refl, refl)
rejected_same st (Attributes p r attrs) = (refl, refl)
rejected_same st (Reflect v i value) = (refl, refl)

begun_same : (st : GroupState) (v : ViewId) (i : ℕ) (x : Proposal) → (begun st v i x).reflected_at ≡ st.reflected_at
unfolding begun
begun_same st v i x = attrs_place st (first_attrs st x)

pub once_same : (st : GroupState) (v : ViewId) (i : ℕ) (x : Proposal) → ((apply st v i (Once x)).reflected_at ≡ place_after (reflected_by x) st.reflected_at) × ((apply st v i (Once x)).running ≡ None)
unfolding apply approve begun
once_same st v i x =
    let t : GroupState = record (begun st v i x) { running = None } in
    let k = effect_same t x in
    let o : Option (List ℕ) = replace_proposed None (first_value x) in
    let z = valued_same (effect t x) v i o in
    (z.0 ∙ k.0 ∙ ap (place_after (reflected_by x)) (attrs_place st (first_attrs st x)), z.1 ∙ k.1)

-- ---- each entry that fits, whose reflection rises

pub rises_place : (st : GroupState) (x : Proposal) (c : ProtoId) → reflected_by x ≡ Some c → Rises st x → place_lt st.reflected_at (Some c) ≡ true
rises_place st (Reflect v i value) c e k = let q : record { view = v; place = i } ≡ c = cc in subst (λ z. place_lt st.reflected_at (Some z) ≡ true) q k
rises_place st (Join ps attrs n) c e k = absurd (cc)
rises_place st (Leave p r) c e k = absurd (cc)
rises_place st (Fail out) c e k = absurd (cc)
rises_place st (Expel p r out) c e k = absurd (cc)
rises_place st (State p r value) c e k = absurd (cc)
rises_place st (Message p r bytes) c e k = absurd (cc)
rises_place st (Attributes p r attrs) c e k = absurd (cc)

pub idle_fits : (st : GroupState) (x : Proposal) → (is_none st.running && can_begin st x) ≡ true → st.running ≡ None
idle_fits st x e = by st.running (and_parts (is_none st.running) (can_begin st x) e).0
  where
    by : (o : Option Running) → is_none o ≡ true → o ≡ None
    by None q = refl
    by (Some run) q = absurd (cc)

-- where nothing runs it is done
done_idle : (a : ProtoId) (st : GroupState) → st.running ≡ None → PassedIn a st → Reached a st.reflected_at
done_idle a st idle k = by k.done
  where
    by : Reached a st.reflected_at ⊎ ((r : Running) × (st.running ≡ Some r) × (reflected_by r.proposal ≡ Some a)) → Reached a st.reflected_at
    by (inl z) = z
    by (inr z) = let q : None ≡ Some z.0 = sym idle ∙ z.1 in absurd (cc)

-- nothing runs, and the place has reached it
ended : (a : ProtoId) (place : Option ProtoId) → Reached a place → Passed a None place
ended a place k = record { runs = λ r e c q. absurd (cc); done = inl k }

passed_is : (a : ProtoId) (st : GroupState) (running : Option Running) (place : Option ProtoId) → st.running ≡ running → st.reflected_at ≡ place → Passed a running place → PassedIn a st
passed_is a st running place p q k = subst (λ (z : Option Running × Option ProtoId). Passed a z.0 z.1) (λ j. (sym p j, sym q j)) k

module _ (a : ProtoId) (st : GroupState) (v : ViewId) (i : ℕ) where
  -- a proposal that ends
  ends_place : (run : Running) → st.running ≡ Some run → PassedIn a st → Reached a (place_after (reflected_by run.proposal) st.reflected_at)
  ends_place run e k = by (reflected_by run.proposal) refl k.done
    where
      by : (o : Option ProtoId) → reflected_by run.proposal ≡ o → Reached a st.reflected_at ⊎ ((r : Running) × (st.running ≡ Some r) × (reflected_by r.proposal ≡ Some a)) → Reached a (place_after o st.reflected_at)
      by (Some c) q z = k.runs run e c q
      by None q (inl z) = z
      by None q (inr z) =
          let same : Some z.0 ≡ Some run = sym z.1 ∙ e in
          let r : z.0 ≡ run = cc in
          let w : None ≡ Some a = sym q ∙ ap (λ (y : Running). reflected_by y.proposal) (sym r) ∙ z.2 in absurd (cc)

  begins_passed : (x : Proposal) → st.running ≡ None → Rises st x → PassedIn a st → PassedIn a (begun st v i x)
  unfolding begun
  begins_passed x idle up k =
      passed_is a (begun st v i x) (Some (record { proto = record { view = v; place = i }; proposal = x; phase = 1; proposed = first_value x })) st.reflected_at refl (attrs_place st (first_attrs st x)) (record { runs = λ r e c q. runs r e c q; done = inl (done_idle a st idle k) })
    where
      runs : (r : Running) → Some (record { proto = record { view = v; place = i }; proposal = x; phase = 1; proposed = first_value x }) ≡ Some r → (c : ProtoId) → reflected_by r.proposal ≡ Some c → NotBehind a c
      runs r e c q =
          let p : x ≡ r.proposal = cc in
          inr (reached_then a st.reflected_at c (done_idle a st idle k) (rises_place st x c (ap reflected_by p ∙ q) up))

  once_passed : (x : Proposal) → st.running ≡ None → Rises st x → PassedIn a st → PassedIn a (apply st v i (Once x))
  once_passed x idle up k =
      let z = once_same st v i x in
      passed_is a (apply st v i (Once x)) None (place_after (reflected_by x) st.reflected_at) z.1 z.0 (ended a (place_after (reflected_by x) st.reflected_at) (by (reflected_by x) refl))
    where
      by : (o : Option ProtoId) → reflected_by x ≡ o → Reached a (place_after o st.reflected_at)
      by None q = done_idle a st idle k
      by (Some c) q = inr (reached_then a st.reflected_at c (done_idle a st idle k) (rises_place st x c q up))

  approves_passed : (value : Option (List ℕ)) (o : Option Running) → st.running ≡ o → PassedIn a st → PassedIn a (approve st v i value o)
  unfolding approve
  approves_passed value None e k = k
  approves_passed value (Some run) e k =
      let t : GroupState = record st { running = None } in
      let z = effect_same t run.proposal in
      let y = valued_same (effect t run.proposal) v i (replace_proposed value run.proposed) in
      passed_is a (take_value (effect t run.proposal) v i (replace_proposed value run.proposed)) None (place_after (reflected_by run.proposal) st.reflected_at) (y.1 ∙ z.1) (y.0 ∙ z.0) (ended a (place_after (reflected_by run.proposal) st.reflected_at) (ends_place run e k))

  rejects_passed : (o : Option Running) → st.running ≡ o → PassedIn a st → PassedIn a (reject st o)
  unfolding reject
  rejects_passed None e k = k
  rejects_passed (Some run) e k =
      let t : GroupState = record st { running = None } in
      let z = rejected_same t run.proposal in
      passed_is a (take_rejection t run.proposal) None (place_after (reflected_by run.proposal) st.reflected_at) z.1 z.0 (ended a (place_after (reflected_by run.proposal) st.reflected_at) (ends_place run e k))

  goes_on : (value : Option (List ℕ)) (o : Option Running) → st.running ≡ o → PassedIn a st → PassedIn a (next_phase st value o)
  unfolding next_phase advance
  goes_on value None e k = k
  goes_on value (Some run) e k =
      record {
        runs = λ r q c p. (let same : run.proposal ≡ r.proposal = cc in k.runs run e c (ap reflected_by same ∙ p));
        done = by k.done;
      }
    where
      by : Reached a st.reflected_at ⊎ ((r : Running) × (st.running ≡ Some r) × (reflected_by r.proposal ≡ Some a)) → Reached a st.reflected_at ⊎ ((r : Running) × (Some (advance value run) ≡ Some r) × (reflected_by r.proposal ≡ Some a))
      by (inl z) = inl z
      by (inr z) =
          let same : Some z.0 ≡ Some run = sym z.1 ∙ e in
          let r : z.0 ≡ run = cc in
          inr (advance value run, refl, ap (λ (y : Running). reflected_by y.proposal) (sym r) ∙ z.2)

  -- it stays passed
  stays_passed : (e : Entry) → fits st e ≡ true → OfBegun (Rises st) e → PassedIn a st → PassedIn a (apply st v i e)
  unfolding apply fits
  stays_passed (Once x) f up k = once_passed x (idle_fits st x f) up k
  stays_passed (Begin x) f up k = begins_passed x (idle_fits st x f) up k
  stays_passed (Phase c) f up k = goes_on c.value st.running refl k
  stays_passed (Approve c) f up k = approves_passed c.value st.running refl k
  stays_passed (Reject c) f up k = rejects_passed st.running refl k
  stays_passed (Late proto phase ps) f up k = k

  pub still_passed : (e : Entry) → fits st e ≡ true → OfBegun (Rises st) e → PassedIn a st → PassedIn a (after st v i e)
  unfolding after after_if
  still_passed e f up k = subst (λ b. PassedIn a (after_if st v i e b)) (sym f) (stays_passed e f up k)

  -- as it begins
  starts_passed : (e : Entry) → fits st e ≡ true → reflects e ≡ Some a → PassedIn a (apply st v i e)
  unfolding apply begun
  starts_passed (Once x) f q =
      let z = once_same st v i x in
      passed_is a (apply st v i (Once x)) None (Some a) z.1 (z.0 ∙ ap (λ o. place_after o st.reflected_at) q) (ended a (Some a) (inl refl))
  starts_passed (Begin x) f q =
      passed_is a (begun st v i x) (Some (record { proto = record { view = v; place = i }; proposal = x; phase = 1; proposed = first_value x })) st.reflected_at refl (attrs_place st (first_attrs st x)) (record { runs = λ r e c p. runs r e c p; done = inr (record { proto = record { view = v; place = i }; proposal = x; phase = 1; proposed = first_value x }, refl, q) })
    where
      runs : (r : Running) → Some (record { proto = record { view = v; place = i }; proposal = x; phase = 1; proposed = first_value x }) ≡ Some r → (c : ProtoId) → reflected_by r.proposal ≡ Some c → NotBehind a c
      runs r e c p =
          let s : x ≡ r.proposal = cc in
          let z : Some a ≡ Some c = sym q ∙ ap reflected_by s ∙ p in
          inl (cc)
  starts_passed (Phase c) f q = absurd (cc)
  starts_passed (Approve c) f q = absurd (cc)
  starts_passed (Reject c) f q = absurd (cc)
  starts_passed (Late proto phase ps) f q = absurd (cc)

  pub first_passed : (e : Entry) → fits st e ≡ true → reflects e ≡ Some a → PassedIn a (after st v i e)
  unfolding after after_if
  first_passed e f q = subst (λ b. PassedIn a (after_if st v i e b)) (sym f) (starts_passed e f q)

  -- what begins later is greater
  pub later_greater : (e : Entry) (c : ProtoId) → fits st e ≡ true → OfBegun (Rises st) e → reflects e ≡ Some c → PassedIn a st → proto_lt a c ≡ true
  unfolding fits
  later_greater (Once x) c f up q k = reached_then a st.reflected_at c (done_idle a st (idle_fits st x f) k) (rises_place st x c q up)
  later_greater (Begin x) c f up q k = reached_then a st.reflected_at c (done_idle a st (idle_fits st x f) k) (rises_place st x c q up)
  later_greater (Phase d) c f up q k = absurd (cc)
  later_greater (Approve d) c f up q k = absurd (cc)
  later_greater (Reject d) c f up q k = absurd (cc)
  later_greater (Late proto phase ps) c f up q k = absurd (cc)
