-- What happens in a world, by what its functions leave.
use Rattle.std.proofs.Common.{◌≡◌, ℕ, List, [], ◌++◌, map, append-nil, Option, Some, None, refl, sym, ap, ◌∙◌, subst}
use Rattle.std.specs.Prelude.{fold, find}
use Rattle.node_state.specs.declared.happened.Happened.{Happened}
use Rattle.node_state.specs.declared.state.Core.{Core}
use Rattle.node_state.specs.HandOn.{Answering}
use Rattle.node_state.specs.Step.{NodeEvent, stepped}
use Rattle.node_core.specs.Node.{NodeView}
use Rattle.world_model.specs.World.{Script, by_scripts, is_node, node_at, nodes_with, posted, traced, after_step, steps, steps_if, node_steps}
use Rattle.world_model.specs.World as world
use Rattle.net_script.specs.declared.steps.Left.{Left}
use Rattle.net_script.specs.declared.world.World.{World}
use Rattle.world_laws.specs.world_answers.Answers.{step_by, step_by_if}
use Rattle.world_laws.specs.world_answers.Answers.{Items, AllWorded}
use Rattle.net_script.specs.Standing.{NodesStand, Stands, Holds, StepsNode, StepsSome, Goes, Passes, Comes, Settled}
use Rattle.play_state.specs.Posting.{PacketsStand, bytes_after}
use Rattle.play_state.specs.Starts.{started_in}
use Rattle.play_state.proofs.PacketLaws.{SentOnly, sent_only}

pub after_passes : {C : Type 0} (c m : World C) (k : ℕ) (l : Left) (y : Core) (scripts : List Script) (w : world.World)
    → m ≡ record c { nodes = m.nodes } → l.sends ≡ y.sends → (bytes_after m.limit m.kept l.sends).passed ≡ Some k → Passes k c w (after_step w scripts y)
unfolding after_step traced
after_passes {C = C} c m k l y scripts w same sends passed =
    let u : world.World = traced (record w { nodes = nodes_with (record { core = y; scripts = scripts }) w.nodes }) y.records in
    let only : SentOnly y.sends u (fold posted u y.sends) = sent_only y.sends u in
    record { sent = y.sends; sends = only.sent; passed = rw (← sends, ← ap (λ (z : World C). z.limit) same, ← ap (λ (z : World C). z.kept) same) passed }

pub step_missing : (k : ℕ) (ev : NodeEvent) (w : world.World) → find (is_node k) w.nodes ≡ None → node_steps w k ev ≡ w
unfolding node_steps steps_if node_at
step_missing k ev w e = rw e refl

step_missing_by : (a : Answering) (k : ℕ) (ev : NodeEvent) (w : world.World) → find (is_node k) w.nodes ≡ None → step_by_if a w ev (node_at w k) ≡ w
unfolding step_by_if node_at
step_missing_by a k ev w e = rw e refl

step_found : (k : ℕ) (ev : NodeEvent) (w : world.World) (x : world.Node) → find (is_node k) w.nodes ≡ Some x → node_steps w k ev ≡ after_step w x.scripts (stepped (by_scripts x.scripts) x.core ev)
unfolding node_steps steps_if node_at steps
step_found k ev w x e = rw e refl

step_found_by : (a : Answering) (k : ℕ) (ev : NodeEvent) (w : world.World) (x : world.Node) → find (is_node k) w.nodes ≡ Some x → step_by_if a w ev (node_at w k) ≡ after_step w x.scripts (stepped a x.core ev)
unfolding step_by_if node_at step_by
step_found_by a k ev w x e = rw e refl

module _ {C : Type 0} {script : C → Option Items} {said : Items → Option Items} where
  -- nothing happens
  pub goes_nowhere : (c : World C) (out : List Happened) (w : world.World) → Stands script said c w → Goes script said c c out out w w
  goes_nowhere c out w h = record { stands = h; limit = refl; records = []; out = sym (append-nil out); trace = refl; sent = []; sends = refl; within = refl }

  -- records alone
  pub goes_recorded : (c : World C) (before after rs : List Happened) (w : world.World) → Stands script said c w → after ≡ before ++ rs → Goes script said c c before after w (traced w rs)
  unfolding traced
  goes_recorded c before after rs w h out =
      record { stands = record { config = h.config; nodes = h.nodes; starts = h.starts; packets = h.packets }; limit = refl; records = rs; out = out; trace = refl; sent = []; sends = refl; within = refl }

  -- a node steps, and what that left is sent and recorded
  pub after_goes : (c m d : World C) (l : Left) (y : Core) (scripts : List Script) (before after : List Happened) (w : world.World)
      → Stands script said c w → m ≡ record c { nodes = m.nodes } → NodesStand script said m.nodes (nodes_with (record { core = y; scripts = scripts }) w.nodes) → l.sends ≡ y.sends → l.records ≡ y.records → Settled m d l before after
      → Goes script said c d before after w (after_step w scripts y)
  unfolding after_step traced
  after_goes c m d l y scripts before after w h same nodes sends records settled =
      let u : world.World = traced (record w { nodes = nodes_with (record { core = y; scripts = scripts }) w.nodes }) y.records in
      let only : SentOnly y.sends u (fold posted u y.sends) = sent_only y.sends u in
      let mp : m.packets ≡ c.packets = ap (λ (z : World C). z.packets) same in
      let stood : PacketsStand m.packets u = subst (λ z. PacketsStand z u) (sym mp) h.packets in
      record {
        stands = record {
          config = only.config ∙ (h.config ∙ sym (settled.config ∙ ap (λ (z : World C). z.config) same));
          nodes = subst (λ ns. NodesStand script said ns (fold posted u y.sends).nodes) (sym settled.nodes) (subst (NodesStand script said m.nodes) (sym only.nodes) nodes);
          starts = only.starts ∙ (h.starts ∙ ap (map started_in) (sym (settled.starts ∙ ap (λ (z : World C). z.starts) same)));
          packets = subst (λ ps. PacketsStand d.packets (fold posted u ps)) sends (settled.packets u stood);
        };
        limit = settled.limit ∙ ap (λ (z : World C). z.limit) same;
        records = y.records;
        out = settled.out ∙ ap (λ rs. before ++ rs) records;
        trace = only.trace;
        sent = y.sends;
        sends = only.sent;
        within = rw (← sends, ← ap (λ (z : World C). z.limit) same, ← ap (λ (z : World C). z.kept) same) settled.within;
      }

  -- ---- a step, whatever the clients answer

  -- nothing of it depends on what clients answer
  pub comes_anyway : (k : World C) (P : world.World → world.World → Type 0) (to : world.World → world.World) → ((w : world.World) → Stands script said k w → P w (to w)) → Comes script said k P (λ a w. to w) to
  comes_anyway k P to goes = record { answers = λ n s e after p. None; comes = goes; worded = λ all w h. refl }

  pub stands_hold : (k : World C) (w : world.World) → Stands script said k w → Holds script said k w
  stands_hold k w h = record { nodes = h.nodes; pairs = h.packets.0 }

  -- where each client votes just as its word says
  pub as_worded : {k : World C} {P : world.World → world.World → Type 0} {by : Answering → world.World → world.World} {to : world.World → world.World} → Comes script said k P by to → AllWorded said → (w : world.World) → Stands script said k w → P w (to w)
  as_worded {k} {P} g all w h = subst (P w) (g.worded all w (stands_hold k w h)) (g.comes w h)

  -- where each client votes just as its word says, the step is the world's own
  step_worded : (a : Answering) (ms : List (NodeView C)) (k : ℕ) (l : Left) (ev : NodeEvent) (w : world.World) → StepsNode script said a ms k l (λ x. x) ev w.nodes → AllWorded said → step_by_if a w ev (node_at w k) ≡ node_steps w k ev
  step_worded a ms k l ev w s all = step_found_by a k ev w s.node s.found ∙ (ap (after_step w s.node.scripts) (s.worded all) ∙ sym (step_found k ev w s.node s.found))

  -- a node that is up steps
  pub step_goes : (c m d : World C) (k : ℕ) (l : Left) (ev : NodeEvent) (before after : List Happened) → m ≡ record c { nodes = m.nodes } → StepsSome script said c.nodes m.nodes k l (λ x. x) ev
      → Settled m d l before after → Comes script said c (Goes script said c d before after) (λ a w. step_by_if a w ev (node_at w k)) (λ w. node_steps w k ev)
  step_goes c m d k l ev before after same stepping settled = record {
    answers = stepping.0;
    comes = λ w h.
        let s : StepsNode script said stepping.0 m.nodes k l (λ x. x) ev w.nodes = stepping.1 w.nodes h.nodes in
        subst (Goes script said c d before after w) (sym (step_found_by stepping.0 k ev w s.node s.found)) (after_goes c m d l _ s.node.scripts before after w h same s.stands s.sends s.records settled);
    worded = λ all w h. step_worded stepping.0 m.nodes k l ev w (stepping.1 w.nodes h.nodes) all;
  }

  pub step_passes : (c m : World C) (k sum : ℕ) (l : Left) (ev : NodeEvent) → m ≡ record c { nodes = m.nodes } → StepsSome script said c.nodes m.nodes k l (λ x. x) ev
      → (bytes_after m.limit m.kept l.sends).passed ≡ Some sum → Comes script said c (Passes sum c) (λ a w. step_by_if a w ev (node_at w k)) (λ w. node_steps w k ev)
  step_passes c m k sum l ev same stepping passed = record {
    answers = stepping.0;
    comes = λ w h.
        let s : StepsNode script said stepping.0 m.nodes k l (λ x. x) ev w.nodes = stepping.1 w.nodes h.nodes in
        subst (Passes sum c w) (sym (step_found_by stepping.0 k ev w s.node s.found)) (after_passes c m sum l _ s.node.scripts w same s.sends passed);
    worded = λ all w h. step_worded stepping.0 m.nodes k l ev w (stepping.1 w.nodes h.nodes) all;
  }

  pub step_nowhere : (c d : World C) (k : ℕ) (ev : NodeEvent) (out : List Happened) → d ≡ c → ((xs : List world.Node) → NodesStand script said c.nodes xs → find (is_node k) xs ≡ None)
      → Comes script said c (Goes script said c d out out) (λ a w. step_by_if a w ev (node_at w k)) (λ w. node_steps w k ev)
  step_nowhere c d k ev out same missing = record {
    answers = λ n s e after p. None;
    comes = λ w h.
        subst (λ z. Goes script said c z out out w (step_by_if (λ n s e after p. None) w ev (node_at w k))) (sym same)
        (subst (Goes script said c c out out w) (sym (step_missing_by (λ n s e after p. None) k ev w (missing w.nodes h.nodes))) (goes_nowhere c out w h));
    worded = λ all w h. step_missing_by (λ n s e after p. None) k ev w (missing w.nodes h.nodes) ∙ sym (step_missing k ev w (missing w.nodes h.nodes));
  }
