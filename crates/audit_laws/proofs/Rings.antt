-- Two records of one ring have the same members, with the node, the id's leader and the neighbour among them.
use Rattle.std.proofs.Common.{◌≡◌, ℕ, Bool, true, false, List, [], ◌∷◌, Option, Some, None, inl, inr, refl, sym, ◌∙◌, ap}
use Rattle.std.specs.Prelude.{◌==◌, ◌&&◌, ◌||◌, IsTrue, if◌then◌else◌}
use Rattle.std.proofs.lemmas.Bool.{and_parts, eqb-true}
use Rattle.rsct_packet.specs.declared.ids.RingId.{RingId}
use Rattle.rsct_packet.specs.declared.mask.Mask.{Mask}
use Rattle.rsct_packet.specs.Ids.{last_u32, same_ring}
use Rattle.rsct_packet.specs.Mask as mask
use Rattle.rsct_packet.specs.Mask.{nodes_of}
use Rattle.rsct_packet.specs.Search.{Has}
use Rattle.rsct_packet.proofs.MaskLaws.{has_listed}
use Rattle.node_state.specs.declared.happened.Happened.{Happened}
use Rattle.node_state.specs.declared.happened.Happened.TheVariants as happened
use Rattle.run_safety.proofs.Tests.{has_any}
use Rattle.run_laws.specs.seen_runs.Rings.{RingSeenAt}
use Rattle.run_audit.specs.declared.broken.Rule.TheVariants as rule
use Rattle.run_audit.specs.Table.{all_same, if_some, nodes_after, first_nodes, has_node, ring_holds, holds}
use Rattle.audit_laws.specs.Lines.{shown, lines}
use Rattle.audit_laws.specs.Records.{Keeps}
use Rattle.audit_laws.proofs.Tests.{both, all_equal, eq_self}

ring_same : (a b : RingId) → same_ring a b ≡ true → a ≡ b
ring_same a b e =
    let p = and_parts (a.leader == b.leader && a.inc == b.inc) (a.number == b.number) e in
    let q = and_parts (a.leader == b.leader) (a.inc == b.inc) p.0 in
    λ i. record { leader = eqb-true a.leader b.leader q.0 i; inc = eqb-true a.inc b.inc q.1 i; number = eqb-true a.number b.number p.1 i }

-- a node set the ring with these members
pub record RingWas (net : ℕ) (id : RingId) (ns : List ℕ) (rs : List Happened) : Type 0 where
  pub node : ℕ
  pub members : Mask
  pub neighbour : ℕ
  pub there : Has (happened.Ring node net id members neighbour) rs
  pub are : ns ≡ nodes_of members

ring_later : (net : ℕ) (id : RingId) (ns : List ℕ) (r : Happened) (rs : List Happened) → RingWas net id ns rs → RingWas net id ns (r ∷ rs)
ring_later net id ns r rs k = record { node = k.node; members = k.members; neighbour = k.neighbour; there = inr k.there; are = k.are }

ring_was : (net : ℕ) (id : RingId) (ns : List ℕ) (rs : List Happened) → first_nodes net id (lines rs) ≡ Some ns → RingWas net id ns rs
unfolding lines shown first_nodes nodes_after
ring_was net id ns [] e = absurd cc
ring_was net id ns (happened.Ring m k jd ms b ∷ rs) e = by (first_nodes net id (lines rs)) e (ring_was net id ns rs)
  where
    here : (t : Bool) → (k == net && same_ring jd id) ≡ t → (if t then Some (nodes_of ms) else None) ≡ Some ns → RingWas net id ns (happened.Ring m k jd ms b ∷ rs)
    here true f q =
        let p = and_parts (k == net) (same_ring jd id) f in
        let x : k ≡ net = eqb-true k net p.0 in
        let y : jd ≡ id = ring_same jd id p.1 in
        let its : List ℕ = nodes_of ms in
        let same : its ≡ ns = cc in
        record { node = m; members = ms; neighbour = b; there = inl (λ i. happened.Ring m (sym x i) (sym y i) ms b); are = sym same }
    here false f q = absurd cc

    by : (o : Option (List ℕ)) → nodes_after net id (shown (happened.Ring m k jd ms b)) o ≡ Some ns → (o ≡ Some ns → RingWas net id ns rs) → RingWas net id ns (happened.Ring m k jd ms b ∷ rs)
    by None q old = here (k == net && same_ring jd id) refl q
    by (Some x) q old = ring_later net id ns (happened.Ring m k jd ms b) rs (old q)
ring_was net id ns (r ∷ rs) e = ring_later net id ns r rs (ring_was net id ns rs e)

among_nodes : (ms : Mask) (n : ℕ) → IsTrue (mask.has_node ms n) → has_node (nodes_of ms) n ≡ true
unfolding has_node
among_nodes ms n h = has_any (λ m. m == n) (nodes_of ms) n (has_listed ms n h) (eq_self n)

ring_kept : (n net : ℕ) (id : RingId) (ms : Mask) (b : ℕ) (rs : List Happened) → RingSeenAt rs n net id ms b → ring_holds n net id (nodes_of ms) b (lines rs) ≡ true
unfolding ring_holds if_some
ring_kept n net id ms b rs at =
    both (has_node (nodes_of ms) n) (has_node (nodes_of ms) id.leader && (has_node (nodes_of ms) b && (id.number == last_u32 || if_some (first_nodes net id (lines rs)) (all_same (λ x y. x == y) (nodes_of ms))))) (among_nodes ms n at.mine)
    (both (has_node (nodes_of ms) id.leader) (has_node (nodes_of ms) b && (id.number == last_u32 || if_some (first_nodes net id (lines rs)) (all_same (λ x y. x == y) (nodes_of ms)))) (among_nodes ms id.leader at.led)
    (both (has_node (nodes_of ms) b) (id.number == last_u32 || if_some (first_nodes net id (lines rs)) (all_same (λ x y. x == y) (nodes_of ms))) (among_nodes ms b at.beside)
    (second (id.number == last_u32) (if_some (first_nodes net id (lines rs)) (all_same (λ x y. x == y) (nodes_of ms))) (same (first_nodes net id (lines rs)) refl))))
  where
    second : (x y : Bool) → y ≡ true → (x || y) ≡ true
    second true y e = refl
    second false y e = e

    same : (o : Option (List ℕ)) → first_nodes net id (lines rs) ≡ o → if_some o (all_same (λ x y. x == y) (nodes_of ms)) ≡ true
    same None e = refl
    same (Some ns) e =
        let w = ring_was net id ns rs e in
        all_equal (λ x y. x == y) eq_self (nodes_of ms) ns (ap nodes_of (sym (at.same w.node w.members w.neighbour w.there)) ∙ sym w.are)

pub rings_kept : Keeps rule.Ring
unfolding holds shown
rings_kept (happened.Ring n net id ms b) rs k = ring_kept n net id ms b rs ((k.rings net).0 refl)
rings_kept _ rs k = refl
