-- In the state of every view's list a running reflection is not behind the reflected place: in the base, since the base is the
-- state of a list of an earlier view, and along the list, since reflections rise.
use Rattle.std.proofs.Common.{◌≡◌, ◌⊎◌, ◌≤◌, ◌<◌, ℕ, zero, suc, List, ◌++◌, length, take, Option, Some, None, Bool, true, false, refl, sym, ap, ◌∙◌, subst, inl, inr, arith, ◌+◌, length-append}
use Rattle.std.specs.Prelude.{slice_get}
use Rattle.std.proofs.lemmas.Bool.Decides.{nat_tests}
use Rattle.rsct_packet.specs.declared.ids.ViewId.{ViewId}
use Rattle.rsct_packet.specs.declared.ids.ProtoId.{ProtoId}
use Rattle.rsct_packet.specs.Ids.{place_lt}
use Rattle.proposal_core.specs.declared.proposal.Proposal.{Proposal}
use Rattle.proposal_core.specs.declared.entry.Entry.{Entry}
use Rattle.proposal_core.specs.declared.entry.Entry.TheVariants.{Once, Begin, Phase, Approve, Reject, Late}
use Rattle.proposal_core.specs.declared.group_state.GroupState.{GroupState}
use Rattle.proposal_core.specs.declared.group_state.Running.{Running}
use Rattle.proposal_core.specs.Fold.{empty_state, fits, begun, approve, take_rejection, reject, next_phase, advance, apply, after_if, after, replace_proposed, effect, take_value, first_value, first_attrs}
use Rattle.run_safety.specs.ViewOrder.{is_before, Lt}
use Rattle.run_safety.specs.Past.{fold_from}
use Rattle.run_safety.specs.Group.{Origin, Install}
use Rattle.run_safety.specs.Bases.{base_state, state_of_list, side_state, marked, BaseIs, Wins}
use Rattle.run_safety.specs.Moves.{Opening}
use Rattle.run_safety.proofs.Order.{Earlier}
use Rattle.run_safety.proofs.HeardLaw.{take_front}
use Rattle.run_safety.proofs.Prefix.{IsPrefix}
use Rattle.run_safety.proofs.Whole.{Whole}
use Rattle.run_safety.proofs.Lives.{whole}
use Rattle.step_refinement.specs.Ghost.{Ghost, Lives}
use Rattle.entry_laws.proofs.closing_rows.At.{take_all}
use Rattle.entry_laws.specs.source_order.Sources.{OfBegun, Rises, reflected_by}
use Rattle.entry_laws.proofs.source_order.Climbing.{NotBehind, Ahead, attrs_place, valued_same, effect_same, rejected_same, once_same, rises_place}
use Rattle.entry_laws.proofs.source_order.Climbs.{state_next, get_there}

-- ---- induction over views

earlier_of : (a b : ViewId) → Lt a b → Earlier a b
unfolding is_before
earlier_of a b l = grind (arith, nat_tests)

module _ (P : ViewId → Type 0) (step : (v : ViewId) → ((u : ViewId) → Lt u v → P u) → P v) where
  abbrev Below : ℕ → Type 0
  Below k = (u : ViewId) → u.number < k → P u

  abbrev CoordBelow : ℕ → ℕ → Type 0
  CoordBelow k c = (u : ViewId) → u.number ≡ k → u.coord < c → P u

  abbrev IncBelow : ℕ → ℕ → ℕ → Type 0
  IncBelow k c i = (u : ViewId) → u.number ≡ k → u.coord ≡ c → u.inc < i → P u

  split_lt : (a b : ℕ) → a < suc b → (a < b) ⊎ (a ≡ b)
  split_lt zero zero l = inr refl
  split_lt zero (suc b) l = inl (omega arith)
  split_lt (suc a) zero l = absurd (omega arith)
  split_lt (suc a) (suc b) l = by (split_lt a b (omega arith))
    where
      by : (a < b) ⊎ (a ≡ b) → (suc a < suc b) ⊎ (suc a ≡ suc b)
      by (inl x) = inl (omega arith)
      by (inr x) = inr (ap suc x)

  one_view : (v : ViewId) → Below v.number → CoordBelow v.number v.coord → IncBelow v.number v.coord v.inc → P v
  one_view v a b c = step v (λ u l. by u (earlier_of u v l))
    where
      by : (u : ViewId) → Earlier u v → P u
      by u (inl x) = a u x
      by u (inr (x, inl y)) = b u x y
      by u (inr (x, inr y)) = c u x y.0 y.1

  incs : (k c i : ℕ) → Below k → CoordBelow k c → IncBelow k c i
  incs k c zero a b u p q l = absurd (omega arith)
  incs k c (suc i) a b u p q l = by (incs k c i a b) (split_lt u.inc i l)
    where
      by : IncBelow k c i → (u.inc < i) ⊎ (u.inc ≡ i) → P u
      by old (inl x) = old u p q x
      by old (inr x) =
          one_view u (subst Below (sym p) a) (subst (λ (z : ℕ × ℕ). CoordBelow z.0 z.1) (λ j. (sym p j, sym q j)) b) (subst (λ (z : ℕ × ℕ × ℕ). IncBelow z.0 z.1 z.2) (λ j. (sym p j, sym q j, sym x j)) old)

  coords : (k c : ℕ) → Below k → CoordBelow k c
  coords k zero a u p l = absurd (omega arith)
  coords k (suc c) a u p l = by (coords k c a) (split_lt u.coord c l)
    where
      by : CoordBelow k c → (u.coord < c) ⊎ (u.coord ≡ c) → P u
      by old (inl x) = old u p x
      by old (inr x) = incs k c (suc u.inc) a old u p x (omega arith)

  numbers : (k : ℕ) → Below k
  numbers zero u l = absurd (omega arith)
  numbers (suc k) u l = by (numbers k) (split_lt u.number k l)
    where
      by : Below k → (u.number < k) ⊎ (u.number ≡ k) → P u
      by old (inl x) = old u x
      by old (inr x) = coords k (suc u.coord) old u x (omega arith)

  pub each_view : (v : ViewId) → P v
  each_view v = numbers (suc v.number) v (omega arith)

-- ---- a running reflection is not behind

abbrev pub Settled : GroupState → Type 0
Settled st = Ahead st.running st.reflected_at

none_ahead : (place : Option ProtoId) → Ahead None place
none_ahead place r c a e p q = absurd (cc)

settled_is : (st : GroupState) (running : Option Running) (place : Option ProtoId) → st.running ≡ running → st.reflected_at ≡ place → Ahead running place → Settled st
settled_is st running place p q k = subst (λ (z : Option Running × Option ProtoId). Ahead z.0 z.1) (λ j. (sym p j, sym q j)) k

idle_settled : (st : GroupState) → st.running ≡ None → Settled st
idle_settled st e = settled_is st None st.reflected_at e refl (none_ahead st.reflected_at)

module _ (st : GroupState) (v : ViewId) (i : ℕ) where
  begins_settled : (x : Proposal) → Rises st x → Settled (begun st v i x)
  unfolding begun
  begins_settled x up =
      settled_is (begun st v i x) (Some (record { proto = record { view = v; place = i }; proposal = x; phase = 1; proposed = first_value x })) st.reflected_at refl (attrs_place st (first_attrs st x)) (λ r c a e p q. by r c a e p q)
    where
      by : (r : Running) (c a : ProtoId) → Some (record { proto = record { view = v; place = i }; proposal = x; phase = 1; proposed = first_value x }) ≡ Some r → reflected_by r.proposal ≡ Some c → st.reflected_at ≡ Some a → NotBehind a c
      by r c a e p q =
          let s : x ≡ r.proposal = cc in
          let l = rises_place st x c (ap reflected_by s ∙ p) up in inr (subst (λ o. place_lt o (Some c) ≡ true) q l)

  approves_settled : (value : Option (List ℕ)) (o : Option Running) → st.running ≡ o → Settled (approve st v i value o)
  unfolding approve
  approves_settled value None e = idle_settled st e
  approves_settled value (Some run) e =
      let t : GroupState = record st { running = None } in
      idle_settled (take_value (effect t run.proposal) v i (replace_proposed value run.proposed)) ((valued_same (effect t run.proposal) v i (replace_proposed value run.proposed)).1 ∙ (effect_same t run.proposal).1)

  rejects_settled : (o : Option Running) → st.running ≡ o → Settled (reject st o)
  unfolding reject
  rejects_settled None e = idle_settled st e
  rejects_settled (Some run) e = let t : GroupState = record st { running = None } in idle_settled (take_rejection t run.proposal) (rejected_same t run.proposal).1

  goes_settled : (value : Option (List ℕ)) (o : Option Running) → st.running ≡ o → Settled st → Settled (next_phase st value o)
  unfolding next_phase advance
  goes_settled value None e k = k
  goes_settled value (Some run) e k =
      λ r c a q p z. (let same : run.proposal ≡ r.proposal = cc in k run c a e (ap reflected_by same ∙ p) z)

  applied_settled : (e : Entry) → OfBegun (Rises st) e → Settled st → Settled (apply st v i e)
  unfolding apply
  applied_settled (Once x) up k = idle_settled (apply st v i (Once x)) (once_same st v i x).1
  applied_settled (Begin x) up k = begins_settled x up
  applied_settled (Phase c) up k = goes_settled c.value st.running refl k
  applied_settled (Approve c) up k = approves_settled c.value st.running refl
  applied_settled (Reject c) up k = rejects_settled st.running refl
  applied_settled (Late proto phase ps) up k = k

  after_settled : (e : Entry) → OfBegun (Rises st) e → Settled st → Settled (after st v i e)
  unfolding after after_if
  after_settled e up k = by (fits st e)
    where
      by : (b : Bool) → Settled (after_if st v i e b)
      by true = applied_settled e up k
      by false = k

-- along a list
list_settled : (base : GroupState) (v : ViewId) (log : List Entry) → ((k : ℕ) (x : Entry) → slice_get log k ≡ Some x → OfBegun (Rises (fold_from v base 0 (take k log))) x) → Settled base → (k : ℕ) → k ≤ length log → Settled (fold_from v base 0 (take k log))
list_settled base v log good b zero l = subst Settled (λ j. base) b
list_settled base v log good b (suc k) l =
    let x = get_there log k (omega arith) in
    subst Settled (sym (state_next base v log k x.0 x.1)) (after_settled (fold_from v base 0 (take k log)) v k x.0 (good k x.0 x.1) (list_settled base v log good b k (omega arith)))

-- ---- the bases of a life

module _ (o : Opening) (x : Ghost) (l : Lives o x) where
  abbrev pub w : Whole o x.nodes x.ps x.all x.leads x.bases
  w = whole l

  abbrev pub state : ViewId → ℕ → GroupState
  state v k = state_of_list x.bases v (take k (w.log v))

  module _ (good : (v : ViewId) (k : ℕ) (e : Entry) → slice_get (w.log v) k ≡ Some e → OfBegun (Rises (state v k)) e) where
    -- of a front of a list
    front_settled : (v : ViewId) (xs : List Entry) → IsPrefix xs (w.log v) → Settled (base_state (x.bases v)) → Settled (state_of_list x.bases v xs)
    front_settled v xs p b =
        let all : take (length xs) (w.log v) ≡ xs = take_front (length xs) xs (w.log v) p (omega arith) ∙ take_all xs in
        let n : length (xs ++ p.rest) ≡ length xs + length p.rest = length-append xs p.rest in
        let m : length (xs ++ p.rest) ≡ length (w.log v) = ap length p.is in
        subst (λ ys. Settled (state_of_list x.bases v ys)) all (list_settled (base_state (x.bases v)) v (w.log v) (good v) b (length xs) (omega arith))

    base_settled : (v : ViewId) → ((u : ViewId) → Lt u v → Settled (base_state (x.bases u))) → Settled (base_state (x.bases v))
    base_settled v older = by (x.bases v) refl
      where
        by : (b : Option Origin) → x.bases v ≡ b → Settled (base_state b)
        by None q = idle_settled empty_state refl
        by (Some b) q =
            let i = w.based_ok.installed v b q in
            let m = w.based_ok.made v i.0 i.1 i.2 in
            let won : Wins m.0 i.1 (λ u. side_state x.bases i.1 u) b = subst (BaseIs m.0 i.1 (λ u. side_state x.bases i.1 u)) q m.4 in
            let f = won.from in
            let less : Lt b.old v = subst (λ u. Lt u v) f.2 (w.good.past.answers v f.0 (m.2 f.0 f.1)).0.less in
            let side : Settled (side_state x.bases i.1 b.old) = front_settled b.old (i.1 b.old) ((w.good.inv.packet (Install v i.0 i.1) i.2).sources b.old) (older b.old less) in
            subst Settled (sym won.state) (settled_is (marked m.0 b.old (side_state x.bases i.1 b.old)) (side_state x.bases i.1 b.old).running (side_state x.bases i.1 b.old).reflected_at refl refl side)

    pub bases_settled : (v : ViewId) → Settled (base_state (x.bases v))
    bases_settled v = each_view (λ u. Settled (base_state (x.bases u))) base_settled v
