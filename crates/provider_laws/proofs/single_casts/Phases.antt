-- Phases rise within a protocol, and what is past does not run again.
use Rattle.std.proofs.Common.{◌≡◌, ◌≤◌, ◌<◌, ℕ, ◌+◌, Option, Some, None, Bool, true, false, refl, sym, ap, ◌∙◌, subst, inl, inr, ◌⊎◌, arith}
use Rattle.std.specs.Prelude.{◌==◌, is_none}
use Rattle.std.proofs.lemmas.Bool.{and_parts}
use Rattle.std.proofs.lemmas.Bool.Decides.{nat_tests}
use Rattle.rsct_packet.specs.declared.ids.ViewId.{ViewId}
use Rattle.rsct_packet.specs.declared.ids.ProtoId.{ProtoId}
use Rattle.rsct_packet.specs.declared.ids.ProviderId.{ProviderId}
use Rattle.rsct_packet.specs.Ids.{same_proto}
use Rattle.rsct_packet.specs.Search.{Has}
use Rattle.proposal_core.specs.declared.entry.Closed.{Closed}
use Rattle.proposal_core.specs.declared.entry.Entry.{Entry}
use Rattle.proposal_core.specs.declared.entry.Entry.TheVariants.{Once, Begin, Phase, Approve, Reject, Late}
use Rattle.proposal_core.specs.declared.group_state.GroupState.{GroupState}
use Rattle.proposal_core.specs.declared.group_state.Running.{Running}
use Rattle.proposal_core.specs.Fold.{runs, fits, begun, next_phase, advance, apply, after_if, after}
use Rattle.proposal_core.proofs.FoldLaws.{idle_approved, idle_rejected}
use Rattle.session_state.specs.declared.state.OpenPhase.{OpenPhase}
use Rattle.session_state.specs.HandOn.{brought_by}
use Rattle.run_safety.specs.ViewOrder.{Lt}
use Rattle.run_safety.proofs.Order.{lt_trans, lt_not_same}
use Rattle.provider_laws.specs.single_casts.Ballots.{opens}

-- the protocol began before the place
abbrev pub Placed : ProtoId → ViewId → ℕ → Type 0
Placed q v i = Lt q.view v ⊎ ((q.view ≡ v) × (q.place < i))

pub placed_more : (q : ProtoId) (v : ViewId) (i : ℕ) → Placed q v i → Placed q v (i + 1)
placed_more q v i (inl a) = inl a
placed_more q v i (inr a) = let z = a.1 in inr (a.0, omega arith)

pub placed_later : (q : ProtoId) (v : ViewId) (i : ℕ) (u : ViewId) (j : ℕ) → Lt v u → Placed q v i → Placed q u j
placed_later q v i u j lt (inl a) = inl (lt_trans q.view v u a lt)
placed_later q v i u j lt (inr a) = inl (subst (λ z. Lt z u) (sym a.0) lt)

pub placed_here : (v : ViewId) (i : ℕ) → Placed (record { view = v; place = i }) v (i + 1)
placed_here v i = inr (refl, omega arith)

pub placed_not : (q : ProtoId) (v : ViewId) (i : ℕ) → Placed q v i → q ≡ record { view = v; place = i } → ⊥
placed_not q v i (inl a) e = lt_not_same q.view v a (ap (λ (z : ProtoId). z.view) e)
placed_not q v i (inr a) e = let z = a.1 in let y : q.place ≡ i = ap (λ (z : ProtoId). z.place) e in omega arith

-- ---- what an entry makes of the protocol that runs

pub data Changed (v : ViewId) (i : ℕ) (a b : Option Running) : Type 0 where
  Same : b ≡ a → Changed v i a b
  Ends : b ≡ None → Changed v i a b
  Begins : (run : Running) → b ≡ Some run → run.proto ≡ record { view = v; place = i } → Changed v i a b
  Advances : (run more : Running) → a ≡ Some run → b ≡ Some more → more.proto ≡ run.proto → more.phase ≡ run.phase + 1 → Changed v i a b

pub after_changes : (s : GroupState) (v : ViewId) (i : ℕ) (e : Entry) → Changed v i s.running (after s v i e).running
unfolding after after_if apply begun next_phase advance
after_changes s v i e = by (fits s e)
  where
    next : (c : Closed) (o : Option Running) → s.running ≡ o → Changed v i s.running (next_phase s c.value o).running
    next c None q = Same refl
    next c (Some run) q = Advances run (advance c.value run) q refl refl refl

    fit : (e : Entry) → Changed v i s.running (apply s v i e).running
    fit (Once x) = Ends (idle_approved (begun s v i x) v i None (begun s v i x).running refl)
    fit (Begin x) = Begins _ refl refl
    fit (Phase c) = next c s.running refl
    fit (Approve c) = Ends (idle_approved s v i c.value s.running refl)
    fit (Reject c) = Ends (idle_rejected s s.running refl)
    fit (Late proto phase ps) = Same refl

    by : (b : Bool) → Changed v i s.running (after_if s v i e b).running
    by true = fit e
    by false = Same refl

-- what runs began before the place
abbrev pub RunsPlaced : Option Running → ViewId → ℕ → Type 0
RunsPlaced o v i = (run : Running) → o ≡ Some run → Placed run.proto v i

-- the phase runs, or is past
abbrev pub Beyond : OpenPhase → Option Running → Type 0
Beyond o r = (run : Running) → r ≡ Some run → run.proto ≡ o.proto → o.phase ≤ run.phase

some_run : {a b : Running} → Some a ≡ Some b → a ≡ b
some_run e = cc

pub runs_on : (v : ViewId) (i : ℕ) (a b : Option Running) → Changed v i a b → RunsPlaced a v i → RunsPlaced b v (i + 1)
runs_on v i a b (Same q) k run e = placed_more run.proto v i (k run (sym q ∙ e))
runs_on v i a b (Ends q) k run e = absurd (let z : None ≡ Some run = sym q ∙ e in cc)
runs_on v i a b (Begins r q at) k run e =
    let same : r ≡ run = some_run (sym q ∙ e) in
    subst (λ z. Placed z v (i + 1)) (sym at ∙ ap (λ (z : Running). z.proto) same) (placed_here v i)
runs_on v i a b (Advances r more p q proto phase) k run e =
    let same : more ≡ run = some_run (sym q ∙ e) in
    subst (λ z. Placed z v (i + 1)) (sym proto ∙ ap (λ (z : Running). z.proto) same) (placed_more r.proto v i (k r p))

pub beyond_on : (o : OpenPhase) (v : ViewId) (i : ℕ) (a b : Option Running) → Changed v i a b → Placed o.proto v i → Beyond o a → Beyond o b
beyond_on o v i a b (Same q) placed k run e at = k run (sym q ∙ e) at
beyond_on o v i a b (Ends q) placed k run e at = absurd (let z : None ≡ Some run = sym q ∙ e in cc)
beyond_on o v i a b (Begins r q here) placed k run e at =
    let same : r ≡ run = some_run (sym q ∙ e) in
    absurd (placed_not o.proto v i placed (sym at ∙ ap (λ (z : Running). z.proto) (sym same) ∙ here))
beyond_on o v i a b (Advances r more p q proto phase) placed k run e at =
    let same : more ≡ run = some_run (sym q ∙ e) in
    let le : o.phase ≤ r.phase = k r p (sym proto ∙ ap (λ (z : Running). z.proto) same ∙ at) in
    let y : run.phase ≡ r.phase + 1 = ap (λ (z : Running). z.phase) (sym same) ∙ phase in
    omega (arith, le, y)

-- ---- what an entry that fits opens

phase_fits : (c : Closed) (o : Option Running) → runs c.proto c.phase o ≡ true → (run : Running) × (o ≡ Some run) × (run.proto ≡ c.proto) × (run.phase ≡ c.phase)
unfolding runs
phase_fits c None k = absurd (cc)
phase_fits c (Some run) k = (run, refl, proto c.proto run.proto (and_parts (c.phase == run.phase) (same_proto c.proto run.proto) k).1, number c.phase run.phase (and_parts (c.phase == run.phase) (same_proto c.proto run.proto) k).0)
  where
    number : (x y : ℕ) → (x == y) ≡ true → y ≡ x
    number x y z = grind (arith, nat_tests)

    proto : (x y : ProtoId) → same_proto x y ≡ true → y ≡ x
    proto x y z = grind (arith, nat_tests)

opens_is : {a b : OpenPhase} → Some a ≡ Some b → a ≡ b
opens_is e = cc

-- it was not opened before
pub opens_new : (s : GroupState) (v : ViewId) (i : ℕ) (e : Entry) (o : OpenPhase) → fits s e ≡ true → opens e v i ≡ Some o → Placed o.proto v i → Beyond o s.running → ⊥
unfolding fits
opens_new s v i (Begin x) o fit q placed k = placed_not o.proto v i placed (ap (λ (z : OpenPhase). z.proto) (sym (opens_is q)))
opens_new s v i (Phase c) o fit q placed k =
    let r = phase_fits c s.running (and_parts (runs c.proto c.phase s.running) _ fit).0 in
    let a : o.proto ≡ c.proto = ap (λ (z : OpenPhase). z.proto) (sym (opens_is q)) in
    let b : o.phase ≡ c.phase + 1 = ap (λ (z : OpenPhase). z.phase) (sym (opens_is q)) in
    let le : o.phase ≤ (r.0).phase = k r.0 r.1 (r.2 ∙ sym a) in
    let n = r.3 in
    omega (arith, le, b, n)
opens_new s v i _ o fit q placed k = absurd (cc)

-- and it is placed, and no phase after it runs
pub opens_placed : (s : GroupState) (v : ViewId) (i : ℕ) (e : Entry) (o : OpenPhase) → fits s e ≡ true → opens e v i ≡ Some o → RunsPlaced s.running v i → Placed o.proto v (i + 1)
unfolding fits
opens_placed s v i (Begin x) o fit q placed = subst (λ (z : OpenPhase). Placed z.proto v (i + 1)) (opens_is q) (placed_here v i)
opens_placed s v i (Phase c) o fit q placed =
    let r = phase_fits c s.running (and_parts (runs c.proto c.phase s.running) _ fit).0 in
    let a : o.proto ≡ c.proto = ap (λ (z : OpenPhase). z.proto) (sym (opens_is q)) in
    subst (λ z. Placed z v (i + 1)) (r.2 ∙ sym a) (placed_more (r.0).proto v i (placed r.0 r.1))
opens_placed s v i _ o fit q placed = absurd (cc)

-- a join that is put comes where nothing runs
pub joins_idle : (s : GroupState) (e : Entry) (p : ProviderId) → fits s e ≡ true → Has p (brought_by e) → s.running ≡ None
unfolding fits
joins_idle s (Once x) p fit h = idle s.running (and_parts (is_none s.running) _ fit).0
  where
    idle : (o : Option Running) → is_none o ≡ true → o ≡ None
    idle None k = refl
    idle (Some run) k = absurd (cc)
joins_idle s (Begin x) p fit h = idle s.running (and_parts (is_none s.running) _ fit).0
  where
    idle : (o : Option Running) → is_none o ≡ true → o ≡ None
    idle None k = refl
    idle (Some run) k = absurd (cc)
joins_idle s _ p fit h = absurd h
