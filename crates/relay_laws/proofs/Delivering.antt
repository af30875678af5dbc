-- A step of a node with a packet that was sent is a delivery of the direct world.
use Rattle.std.proofs.Common.{◌≡◌, ◌==◌, ℕ, true, false, List, ◌∷◌, Some, refl, ap, ◌∙◌, subst}
use Rattle.std.specs.Prelude.{◌&&◌, find}
use Rattle.std.proofs.lemmas.Bool.{eq-eqb}
use Rattle.rsct_packet.specs.Lists.{drop_where}
use Rattle.rsct_packet.proofs.FieldLaws.{both_true}
use Rattle.node_state.specs.declared.packet.Packet.{Packet}
use Rattle.node_state.specs.HandOn.{Answering}
use Rattle.node_state.specs.Step.{Given}
use Rattle.world_model.specs.declared.event.Event.TheVariants as event
use Rattle.world_model.specs.World.{Node, Sent, World, is_node, node_at, is_pair, is_sent, kth_in, kth_between, handled}
use Rattle.world_laws.specs.world_runs.Runs.{SameRun}
use Rattle.world_laws.specs.world_answers.Answers.{step_by, delivers_by_if, happens_by}
use Rattle.world_laws.proofs.world_answers.Waits.{same_goes}

pub same_node : (w v : World) (b : ℕ) → SameRun w v → node_at v b ≡ node_at w b
unfolding node_at
same_node w v b h = ap (λ (z : World). find (is_node b) z.nodes) h

pub same_kth : (w v : World) (a b k : ℕ) → SameRun w v → kth_between v a b k ≡ kth_between w a b k
unfolding kth_between
same_kth w v a b k h = ap (λ (z : World). kth_in k (find (is_pair a b) z.pairs)) h

-- the same world, where a packet of this number is the first that waits
abbrev waiting : World → ℕ → ℕ → ℕ → Packet → World
waiting w a b k q = record w { queue = record { number = k; packet = record q { from = a; to = b } } ∷ w.queue }

sent_again : (a b k : ℕ) (q : Packet) → is_sent a b k (record { number = k; packet = record q { from = a; to = b } }) ≡ true
unfolding is_sent
sent_again a b k q = both_true (k == k && a == a) (b == b) (both_true (k == k) (a == a) (eq-eqb k k refl) (eq-eqb a a refl)) (eq-eqb b b refl)

handled_again : (w : World) (a b k : ℕ) (q : Packet) → handled (waiting w a b k q) a b k ≡ w
unfolding handled
handled_again w a b k q =
    let s : Sent = record { number = k; packet = record q { from = a; to = b } } in
    ap (λ t. record w { queue = elim t as (λ x. List Sent) [ true ↦ w.queue | false ↦ s ∷ drop_where (is_sent a b k) w.queue ] }) (sent_again a b k q)

deliver_is : (f : Answering) (w : World) (a b k : ℕ) (x : Node) (q : Packet) → node_at w b ≡ Some x → kth_between w a b k ≡ Some q → happens_by f w (event.Deliver a b k) ≡ step_by f (handled w a b k) (Given q) x
unfolding happens_by delivers_by_if
deliver_is f w a b k x q up kth = rw (up, kth) refl

-- in each world that differs by nothing but what waits, since that is not read
pub step_delivers : (f : Answering) (w v : World) (a b k : ℕ) (x : Node) (q : Packet) → SameRun w v → node_at w b ≡ Some x → kth_between w a b k ≡ Some q → SameRun (step_by f w (Given q) x) (happens_by f v (event.Deliver a b k))
step_delivers f w v a b k x q same up kth =
    let u : World = waiting w a b k q in
    let is : happens_by f u (event.Deliver a b k) ≡ step_by f w (Given q) x =
    deliver_is f u a b k x q (same_node w u b refl ∙ up) (same_kth w u a b k refl ∙ kth) ∙ ap (λ z. step_by f z (Given q) x) (handled_again w a b k q) in
    subst (λ z. SameRun z (happens_by f v (event.Deliver a b k))) is (same_goes u v (record { event = event.Deliver a b k; answers = f }) same)
