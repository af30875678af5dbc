-- Where a ring is put, and what is kept meanwhile.
use Rattle.std.proofs.Common.{◌≡◌, ℕ, suc, ◌+◌, ◌<◌, ◌≤◌, ◌==◌, nat_lt, Bool, true, false, not, List, [], ◌∷◌, ◌++◌, length, take, drop, Option, Some, None, refl, ap, arith, cond}
use Rattle.std.specs.Prelude.{fold}
use Rattle.std.specs.List.{position, position_or_len}
use Rattle.adapter_ring.specs.declared.ring.Ring.{Ring}
use Rattle.adapter_ring.specs.declared.ring.RingSet.{RingSet}
use Rattle.adapter_ring.specs.declared.work.RingWork.{RingWork}
use Rattle.adapter_ring.specs.declared.packet.RingSend.{RingSend}
use Rattle.adapter_ring.specs.declared.packet.RingEvent.TheVariants as ring_event
use Rattle.adapter_ring.specs.Rings.{ring_step}
use Rattle.node_reach.specs.declared.reach.Reach.{Reach}
use Rattle.node_state.specs.declared.packet.Body.{Body}
use Rattle.node_state.specs.declared.packet.Body.TheVariants as body
use Rattle.node_state.specs.declared.state.Core.{Core}
use Rattle.node_state.specs.Sending.{send_on, sent, send_all}
use Rattle.node_state.specs.Ticks.{ring_put, set_records, ring_taken}
use Rattle.node_state.specs.Handed.{handed_in}
use Rattle.node_groups.specs.Keeps.{Keeps}
use Rattle.session_state.proofs.OwnerLaws.{owners_themselves}
use Rattle.node_state.proofs.AlongLaws.{LeavesStates, along_same}
use Rattle.node_groups.proofs.KeepLaws.{keeps_itself, keeps_then, records_keep}

-- ---- the place of a ring

abbrev is_on : ℕ → Ring → Bool
is_on n r = r.net == n

at_head : (t : Bool) (n : ℕ) (x r : Ring) (xs rest : List Ring) → (n < length xs → take n xs ++ r ∷ drop (n + 1) xs ≡ rest) → cond (not t) (1 + n) 0 < suc (length xs)
    → take (cond (not t) (1 + n) 0) (x ∷ xs) ++ r ∷ drop (cond (not t) (1 + n) 0 + 1) (x ∷ xs) ≡ elim t [ true ↦ r ∷ xs | false ↦ x ∷ rest ]
at_head true n x r xs rest ih h = refl
at_head false n x r xs rest ih h =
    let below : n < length xs = omega arith in
    let a : 1 + n ≡ suc n = omega arith in
    let b : 1 + n + 1 ≡ suc (n + 1) = omega arith in
    rw (b, a) (ap (λ (ys : List Ring). x ∷ ys) (ih below))

put_in : (r : Ring) (xs : List Ring) → position_or_len (is_on r.net) xs < length xs → take (position_or_len (is_on r.net) xs) xs ++ r ∷ drop (position_or_len (is_on r.net) xs + 1) xs ≡ ring_put xs r
unfolding ring_put
put_in r [] h = absurd (omega arith)
put_in r (x ∷ xs) h = at_head (is_on r.net x) (position_or_len (is_on r.net) xs) x r xs (ring_put xs r) (put_in r xs) h

none_head : (t : Bool) (n : ℕ) (x r : Ring) (xs rest : List Ring) → (length xs ≤ n → xs ≡ rest) → suc (length xs) ≤ cond (not t) (1 + n) 0 → x ∷ xs ≡ elim t [ true ↦ r ∷ xs | false ↦ x ∷ rest ]
none_head true n x r xs rest ih h = absurd (omega arith)
none_head false n x r xs rest ih h = let beyond : length xs ≤ n = omega arith in ap (λ (ys : List Ring). x ∷ ys) (ih beyond)

put_past : (r : Ring) (xs : List Ring) → length xs ≤ position_or_len (is_on r.net) xs → xs ≡ ring_put xs r
unfolding ring_put
put_past r [] h = refl
put_past r (x ∷ xs) h = none_head (is_on r.net x) (position_or_len (is_on r.net) xs) x r xs (ring_put xs r) (put_past r xs) h

found : (n m i : ℕ) → Some i ≡ cond (nat_lt n m) (Some n) None → (i ≡ n) × (n < m)
found n m i e = grind arith

missed : (n m : ℕ) → None ≡ cond (nat_lt n m) (Some n) None → m ≤ n
missed n m e = grind arith

pub put_at : (xs : List Ring) (r : Ring) (i : ℕ) → Some i ≡ position (λ (x : Ring). x.net == r.net) xs → take i xs ++ r ∷ drop (i + 1) xs ≡ ring_put xs r
put_at xs r i e = let h = found (position_or_len (is_on r.net) xs) (length xs) i e in rw h.0 (put_in r xs h.1)

pub put_nowhere : (xs : List Ring) (r : Ring) → None ≡ position (λ (x : Ring). x.net == r.net) xs → xs ≡ ring_put xs r
put_nowhere xs r e = put_past r xs (missed (position_or_len (is_on r.net) xs) (length xs) e)

-- ---- what is kept

keeps_sent_on : (s : Core) (network to : ℕ) (b : Body) → Keeps s (send_on s network to b)
unfolding send_on
keeps_sent_on s network to b =
    record { records = omega arith; sessions = (refl, refl); order = λ o. o; handed = refl; owners = owners_themselves s.sessions; along = along_same s (send_on s network to b) refl refl }

keeps_sends : (s : Core) (xs : List RingSend) → Keeps s (fold (λ u (x : RingSend). send_on u x.network x.to (body.Ring x.packet)) s xs)
keeps_sends s [] = keeps_itself s
keeps_sends s (x ∷ xs) = keeps_then _ _ _ (keeps_sent_on s x.network x.to (body.Ring x.packet)) (keeps_sends (send_on s x.network x.to (body.Ring x.packet)) xs)

keeps_rings : (s : Core) (rs : List Ring) → Keeps s (record s { rings = rs })
keeps_rings s rs =
    record { records = omega arith; sessions = (refl, refl); order = λ o. o; handed = refl; owners = owners_themselves s.sessions; along = along_same s (record s { rings = rs }) refl refl }

pub keeps_reach : (s : Core) (r : Reach) → Keeps s (record s { reach = r })
keeps_reach s r =
    record { records = omega arith; sessions = (refl, refl); order = λ o. o; handed = refl; owners = owners_themselves s.sessions; along = along_same s (record s { reach = r }) refl refl }

-- a ring's records are handed to no client
ring_unhanded : (n net : ℕ) (set : Option RingSet) → handed_in (set_records n net set) ≡ []
unfolding set_records
ring_unhanded n net None = refl
ring_unhanded n net (Some r) = refl

ring_leaves : (n net : ℕ) (set : Option RingSet) → LeavesStates (set_records n net set)
unfolding set_records
ring_leaves n net None g st = refl
ring_leaves n net (Some r) g st = refl

pub keeps_taken : (s : Core) (w : RingWork) → Keeps s (ring_taken s w)
unfolding ring_taken
keeps_taken s w = keeps_then _ _ _ (keeps_then _ _ _ (keeps_rings s (ring_put s.rings w.ring)) (keeps_sends (record s { rings = ring_put s.rings w.ring }) w.sends)) (records_keep _ _ (ring_unhanded _ _ w.set) (ring_leaves _ _ w.set))

pub keeps_ticks : (s : Core) (rs : List Ring) → Keeps s (fold (λ u (r : Ring). ring_taken u (ring_step r ring_event.Tick)) s rs)
keeps_ticks s [] = keeps_itself s
keeps_ticks s (r ∷ rs) = keeps_then _ _ _ (keeps_taken s (ring_step r ring_event.Tick)) (keeps_ticks (ring_taken s (ring_step r ring_event.Tick)) rs)

keeps_sent : (s : Core) (to : ℕ) (b : Body) → Keeps s (sent s to b)
unfolding sent
keeps_sent s to b = keeps_sent_on s _ to b

keeps_sent_each : (s : Core) (ns : List ℕ) (b : Body) → Keeps s (fold (λ t n. sent t n b) s ns)
keeps_sent_each s [] b = keeps_itself s
keeps_sent_each s (n ∷ ns) b = keeps_then _ _ _ (keeps_sent s n b) (keeps_sent_each (sent s n b) ns b)

keeps_sent_all : (s : Core) (ns : List ℕ) (b : Body) → Keeps s (send_all s ns b)
unfolding send_all
keeps_sent_all s ns b = keeps_sent_each s ns b

pub keeps_report : (s : Core) (r : Reach) (ns : List ℕ) (b : Body) → Keeps s (send_all (record s { reach = r }) ns b)
keeps_report s r ns b = keeps_then _ _ _ (keeps_reach s r) (keeps_sent_all (record s { reach = r }) ns b)
