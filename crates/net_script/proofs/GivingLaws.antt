-- Packets that are given to nodes.
use Rattle.std.proofs.Common.{◌≡◌, ℕ, ◌&&◌, Bool, true, false, List, [], ◌∷◌, map, Option, Some, None, refl, sym, ap, ◌∙◌, subst}
use Rattle.std.specs.Prelude.{find, is_some}
use Rattle.rsct_packet.specs.Lists.{drop_where}
use Rattle.rsct_packet.specs.Packet.{packet_at, front_at}
use Rattle.node_state.specs.declared.happened.Happened.{Happened}
use Rattle.node_state.specs.declared.packet.Packet.{Packet}
use Rattle.node_state.specs.Bytes.{packet_of, is_packet, event_in, event_of}
use Rattle.node_state.specs.declared.state.Core.{Core}
use Rattle.node_state.specs.HandOn.{Answering}
use Rattle.node_state.specs.Step.{NodeEvent, Given, Garbage, stepped}
use Rattle.node_core.specs.Node.{NodeView}
use Rattle.world_model.specs.World.{by_scripts, is_node, node_at, is_pair, kth_in, kth_between, is_sent, handled, after_step, steps, delivers_if, delivers}
use Rattle.world_model.specs.World as world
use Rattle.world_packets.specs.declared.waiting.Waiting.{Waiting}
use Rattle.world_packets.specs.Packets.{world_pairs, find_pair, waits_as, is_waiting}
use Rattle.net_script.specs.declared.steps.Left.{Left}
use Rattle.net_script.specs.declared.world.World.{World}
use Rattle.world_laws.specs.world_answers.Answers.{step_by, delivers_by_if}
use Rattle.world_laws.specs.world_answers.Answers.{Items, AllWorded}
use Rattle.net_script.specs.Standing.{is_me, NodesStand, Stands, Holds, StepsNode, StepsSome, Goes, Passes, Comes, Settled}
use Rattle.play_state.specs.Posting.{bytes_after}
use Rattle.net_script.proofs.NodeLaws.{stands_found}
use Rattle.net_script.proofs.WorldLaws.{stands_hold, goes_nowhere, after_goes, after_passes}

taken_head : (t : Bool) (x : world.Sent) (xs : List world.Sent) (ys : List world.Sent) (zs : List Waiting) → map waits_as ys ≡ zs → map waits_as (elim t [ true ↦ xs | false ↦ x ∷ ys ]) ≡ elim t [ true ↦ map waits_as xs | false ↦ waits_as x ∷ zs ]
taken_head true x xs ys zs e = refl
taken_head false x xs ys zs e = ap (λ ws. waits_as x ∷ ws) e

taken_waits : (a b k : ℕ) (q : List world.Sent) → map waits_as (drop_where (is_sent a b k) q) ≡ drop_where (is_waiting a b k) (map waits_as q)
unfolding is_sent
taken_waits a b k [] = refl
taken_waits a b k (x ∷ q) = taken_head (is_waiting a b k (waits_as x)) x q (drop_where (is_sent a b k) q) (drop_where (is_waiting a b k) (map waits_as q)) (taken_waits a b k q)

both_there : (x y : Bool) → (x && y) ≡ true → (x ≡ true) × (y ≡ true)
both_there true true e = (refl, refl)
both_there true false e = absurd cc
both_there false y e = absurd cc

not_given : (w : world.World) (a b k : ℕ) (x : Option world.Node) (p : Option Packet) → (is_some x && is_some p) ≡ false → delivers_if w a b k x p ≡ w
unfolding delivers_if
not_given w a b k None p e = refl
not_given w a b k (Some x) None e = refl
not_given w a b k (Some x) (Some p) e = absurd cc

given_to : (w : world.World) (a b k : ℕ) (x : world.Node) (p : Packet) → find (is_node b) w.nodes ≡ Some x → kth_between w a b k ≡ Some p
    → delivers w a b k ≡ after_step (handled w a b k) x.scripts (stepped (by_scripts x.scripts) x.core (Given p))
unfolding delivers node_at delivers_if steps
given_to w a b k x p found packet = rw (found, packet) refl

-- the same for clients of any kind
not_given_by : (f : Answering) (w : world.World) (a b k : ℕ) (x : Option world.Node) (p : Option Packet) → (is_some x && is_some p) ≡ false → delivers_by_if f w a b k x p ≡ w
unfolding delivers_by_if
not_given_by f w a b k None p e = refl
not_given_by f w a b k (Some x) None e = refl
not_given_by f w a b k (Some x) (Some p) e = absurd cc

given_to_by : (f : Answering) (w : world.World) (a b k : ℕ) (x : world.Node) (p : Packet) → find (is_node b) w.nodes ≡ Some x → kth_between w a b k ≡ Some p
    → delivers_by_if f w a b k (node_at w b) (kth_between w a b k) ≡ after_step (handled w a b k) x.scripts (stepped f x.core (Given p))
unfolding node_at delivers_by_if step_by
given_to_by f w a b k x p found packet = rw (found, packet) refl

-- what a delivery makes of a world where clients answer like this
abbrev pub delivered : ℕ → ℕ → ℕ → Answering → world.World → world.World
delivered a b k f w = delivers_by_if f w a b k (node_at w b) (kth_between w a b k)

pub bytes_given : (b : List ℕ) (p : Packet) → packet_of b ≡ Some p → event_of b ≡ Given p
unfolding event_of
bytes_given b p e = ap event_in e

-- no bytes are no packet
pub no_bytes : event_of [] ≡ Garbage
unfolding event_of packet_of packet_at front_at
no_bytes = refl

none_in : (o : Option Packet) → is_some o ≡ false → event_in o ≡ Garbage
none_in None e = refl
none_in (Some p) e = absurd cc

-- nor are other bytes that spell none
pub no_packet : (b : List ℕ) → is_packet b ≡ false → event_of b ≡ Garbage
unfolding is_packet event_of
no_packet b e = none_in (packet_of b) e

missing_up : (o : Option world.Node) (t : Bool) → o ≡ None → is_some o ≡ t → t ≡ true → ⊥
missing_up None t e up there = absurd cc
missing_up (Some x) t e up there = absurd cc

passed_from : {C : Type 0} (c m : World C) (sum : ℕ) (ps : List Packet) → m.limit ≡ c.limit → m.kept ≡ c.kept → (bytes_after m.limit m.kept ps).passed ≡ Some sum → (bytes_after c.limit c.kept ps).passed ≡ Some sum
passed_from c m sum ps limit kept e = ap (λ z. (bytes_after z c.kept ps).passed) (sym limit) ∙ (ap (λ z. (bytes_after m.limit z ps).passed) (sym kept) ∙ e)

module _ {C : Type 0} {script : C → Option Items} {said : Items → Option Items} where
  -- ---- what waits no more

  -- with the packet taken, the world stands for the one where it is handled
  taken_stands : (c m : World C) (a b k : ℕ) (w : world.World) → Stands script said c w → m ≡ record c { packets = record (c.packets) { waiting = drop_where (is_waiting a b k) c.packets.waiting } } → Stands script said m (handled w a b k)
  unfolding handled
  taken_stands c m a b k w h e = rw e (record {
    config = h.config;
    nodes = h.nodes;
    starts = h.starts;
    packets = (h.packets.0, taken_waits a b k w.queue ∙ ap (drop_where (is_waiting a b k)) h.packets.1);
  })

  -- ---- the packet and its receiver

  pub kth_same : (c : World C) (a b k : ℕ) (w : world.World) → Holds script said c w → kth_between w a b k ≡ kth_in k (find_pair a b (world_pairs c.packets.pairs))
  unfolding kth_between
  kth_same c a b k w h = ap (λ ps. kth_in k (find (is_pair a b) ps)) h.pairs

  -- the receiver is down, or there is no such packet
  pub missing_either : (c : World C) (a b k : ℕ) → (is_some (find (is_me b) c.nodes) && is_some (kth_in k (find_pair a b (world_pairs c.packets.pairs)))) ≡ false
      → (w : world.World) → Holds script said c w → (is_some (find (is_node b) w.nodes) && is_some (kth_between w a b k)) ≡ false
  missing_either c a b k e w h =
      ap (λ z. z && is_some (kth_between w a b k)) (stands_found script said b c.nodes w.nodes h.nodes) ∙ (ap (λ z. is_some (find (is_me b) c.nodes) && is_some z) (kth_same c a b k w h) ∙ e)

  pub gives_nothing : (c : World C) (a b k : ℕ) (out : List Happened) → (is_some (find (is_me b) c.nodes) && is_some (kth_in k (find_pair a b (world_pairs c.packets.pairs)))) ≡ false
      → Comes script said c (Goes script said c c out out) (delivered a b k) (λ w. delivers w a b k)
  unfolding delivers node_at
  gives_nothing c a b k out e = record {
    answers = none;
    comes = λ w h. subst (Goes script said c c out out w) (sym (not_given_by none w a b k (find (is_node b) w.nodes) (kth_between w a b k) (missing_either c a b k e w (stands_hold c w h)))) (goes_nowhere c out w h);
    worded = λ all w h. not_given_by none w a b k (find (is_node b) w.nodes) (kth_between w a b k) (missing_either c a b k e w h) ∙ sym (not_given w a b k (find (is_node b) w.nodes) (kth_between w a b k) (missing_either c a b k e w h));
  }
    where
      none : Answering
      none = λ n s e after p. None

  handled_trace : (w v : world.World) (a b k : ℕ) (c m d : World C) (before after : List Happened) → m.kept ≡ c.kept → m.limit ≡ c.limit → Goes script said m d before after (handled w a b k) v → Goes script said c d before after w v
  unfolding handled
  handled_trace w v a b k c m d before after kept limit g =
      record { stands = g.stands; limit = g.limit ∙ limit; records = g.records; out = g.out; trace = g.trace; sent = g.sent; sends = g.sends; within = rw (← kept, ← limit) g.within }

  -- where each client votes just as its word says, the delivery is the world's own
  given_worded : (f : Answering) (w : world.World) (a b k : ℕ) (p : Packet) (ns : List (NodeView C)) (l : Left) (ev : NodeEvent) → ev ≡ Given p → kth_between w a b k ≡ Some p → StepsNode script said f ns b l (λ x. x) ev w.nodes → AllWorded said
      → delivered a b k f w ≡ delivers w a b k
  given_worded f w a b k p ns l ev given packet s all =
      let step : Core → world.World = after_step (handled w a b k) s.node.scripts in
      given_to_by f w a b k s.node p s.found packet
      ∙ (ap (λ z. step (stepped f s.node.core z)) (sym given) ∙ (ap step (s.worded all) ∙ (ap (λ z. step (stepped (by_scripts s.node.scripts) s.node.core z)) given ∙ sym (given_to w a b k s.node p s.found packet))))

  pub gives_goes : (c m n d : World C) (a b k : ℕ) (p : Packet) (l : Left) (ev : NodeEvent) (before after : List Happened)
      → m ≡ record c { packets = record (c.packets) { waiting = drop_where (is_waiting a b k) c.packets.waiting } } → kth_in k (find_pair a b (world_pairs c.packets.pairs)) ≡ Some p → ev ≡ Given p
      → n ≡ record m { nodes = n.nodes } → StepsSome script said m.nodes n.nodes b l (λ x. x) ev → Settled n d l before after
      → Comes script said c (Goes script said c d before after) (delivered a b k) (λ w. delivers w a b k)
  unfolding handled
  gives_goes c m n d a b k p l ev before after taken packet given same stepping settled = record {
    answers = stepping.0;
    comes = λ w h.
        let u : world.World = handled w a b k in
        let hm : Stands script said m u = taken_stands c m a b k w h taken in
        let s : StepsNode script said stepping.0 n.nodes b l (λ x. x) ev w.nodes = stepping.1 w.nodes hm.nodes in
        subst (Goes script said c d before after w) (sym (given_to_by stepping.0 w a b k s.node p s.found (kth_same c a b k w (stands_hold c w h) ∙ packet) ∙ ap (λ z. after_step u s.node.scripts (stepped stepping.0 s.node.core z)) (sym given)))
        (handled_trace w _ a b k c m d before after (ap (λ (z : World C). z.kept) taken) (ap (λ (z : World C). z.limit) taken) (after_goes m n d l _ s.node.scripts before after u hm same s.stands s.sends s.records settled));
    worded = λ all w h. given_worded stepping.0 w a b k p n.nodes l ev given (kth_same c a b k w h ∙ packet) (stepping.1 w.nodes (subst (λ (z : World C). NodesStand script said z.nodes w.nodes) (sym taken) h.nodes)) all;
  }

  pub gives_passes : (c m n : World C) (a b k sum : ℕ) (p : Packet) (l : Left) (ev : NodeEvent)
      → m ≡ record c { packets = record (c.packets) { waiting = drop_where (is_waiting a b k) c.packets.waiting } } → kth_in k (find_pair a b (world_pairs c.packets.pairs)) ≡ Some p → ev ≡ Given p
      → n ≡ record m { nodes = n.nodes } → StepsSome script said m.nodes n.nodes b l (λ x. x) ev → (bytes_after n.limit n.kept l.sends).passed ≡ Some sum
      → Comes script said c (Passes sum c) (delivered a b k) (λ w. delivers w a b k)
  unfolding handled
  gives_passes c m n a b k sum p l ev taken packet given same stepping passed = record {
    answers = stepping.0;
    comes = λ w h.
        let u : world.World = handled w a b k in
        let s : StepsNode script said stepping.0 n.nodes b l (λ x. x) ev w.nodes = stepping.1 w.nodes (taken_stands c m a b k w h taken).nodes in
        let g : Passes sum m u (after_step u s.node.scripts (stepped stepping.0 s.node.core ev)) = after_passes m n sum l _ s.node.scripts u same s.sends passed in
        subst (Passes sum c w) (sym (given_to_by stepping.0 w a b k s.node p s.found (kth_same c a b k w (stands_hold c w h) ∙ packet) ∙ ap (λ z. after_step u s.node.scripts (stepped stepping.0 s.node.core z)) (sym given)))
        (record { sent = g.sent; sends = g.sends; passed = passed_from c m sum g.sent (ap (λ (z : World C). z.limit) taken) (ap (λ (z : World C). z.kept) taken) g.passed });
    worded = λ all w h. given_worded stepping.0 w a b k p n.nodes l ev given (kth_same c a b k w h ∙ packet) (stepping.1 w.nodes (subst (λ (z : World C). NodesStand script said z.nodes w.nodes) (sym taken) h.nodes)) all;
  }

  -- a node that is up is found
  pub gives_missing : (c d : World C) (a b k : ℕ) (out : List Happened) (packet : Bool) → true ≡ (is_some (find (is_me b) c.nodes) && packet) → ((xs : List world.Node) → NodesStand script said c.nodes xs → find (is_node b) xs ≡ None)
      → Comes script said c (Goes script said c d out out) (delivered a b k) (λ w. delivers w a b k)
  gives_missing c d a b k out packet up missing = record { answers = λ n s e after p. None; comes = λ w h. absurd (found w (stands_hold c w h)); worded = λ all w h. absurd (found w h) }
    where
      found : (w : world.World) → Holds script said c w → ⊥
      found w h = missing_up (find (is_node b) w.nodes) (is_some (find (is_me b) c.nodes)) (missing w.nodes h.nodes) (stands_found script said b c.nodes w.nodes h.nodes) (both_there (is_some (find (is_me b) c.nodes)) packet (sym up)).0
