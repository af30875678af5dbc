-- The scene goes on standing for the world: a node starts, stops, takes a step.
use Rattle.std.proofs.Common.{◌≡◌, ◌⊎◌, ℕ, ◌+◌, List, [], ◌++◌, Some, None, Bool, refl, sym, ap, ◌∙◌, subst, inl, inr}
use Rattle.std.specs.Prelude.{find, fold, nat_lt}
use Rattle.rsct_packet.specs.Lists.{drop_where}
use Rattle.rsct_packet.specs.Search.{Has, insert_before}
use Rattle.rsct_packet.proofs.HasLaws.{has_append, append_has_left, append_has_right}
use Rattle.node_state.specs.declared.config.Config.{Config}
use Rattle.node_state.specs.declared.happened.Happened.{Happened}
use Rattle.node_state.specs.declared.packet.Packet.{Packet}
use Rattle.node_state.specs.declared.state.Core.{Core}
use Rattle.node_state.specs.State.{with_sessions}
use Rattle.node_state.specs.Applying.{level_set}
use Rattle.node_state.specs.Step.{started}
use Rattle.view_state.specs.Views.{views_new}
use Rattle.world_model.specs.World.{posted, Script, Node, World, is_node, nodes_with, handled, traced, after_step, starts_with, started_at}
use Rattle.run_safety.specs.Past.{History}
use Rattle.step_refinement.specs.Tied.{Scene}
use Rattle.step_refinement.specs.Rules.{at_node}
use Rattle.step_refinement.proofs.Changed.{each_set}
use Rattle.world_safety.specs.Mirrors.{core_in, core_at, inc_at, Once, Mirrors}
use Rattle.world_safety.proofs.Finding.{is_me, not_me, with_here, with_there, once_with, put_here, put_there, once_put, out_here, out_there, once_out, starts_here, starts_there}
use Rattle.world_safety.proofs.Posting.{posted_config, posted_nodes, posted_starts, posted_sent, posted_more, posted_new, posted_pairs}

-- a node that starts has sent nothing yet
pub started_sends : (c : Config) (n j : ℕ) → (started c n j).sends ≡ []
unfolding started with_sessions
started_sends c n j = refl

module _ (c : Config) (w : World) (s : Scene) (m : Mirrors c w s) where
  -- the event's place in the history says nothing of the world
  pub later_mirrors : (before : History) → Mirrors c w (record s { before = before })
  later_mirrors before =
      record { config = m.config; scene_config = m.scene_config; cores = m.cores; incs = m.incs; once = m.once; sent = m.sent; came = m.came; paired = m.paired }

  pub handled_mirrors : (a b k : ℕ) → Mirrors c (handled w a b k) s
  unfolding handled
  handled_mirrors a b k =
      record { config = m.config; scene_config = m.scene_config; cores = m.cores; incs = m.incs; once = m.once; sent = m.sent; came = m.came; paired = m.paired }

  module _ (n : ℕ) where
    -- a step is over
    pub step_mirrors : (x : Node) → find (is_node n) w.nodes ≡ Some x → (scripts : List Script) (y : Core) → y.views.me ≡ n → (before : History) → Mirrors c (after_step w scripts y) (record s { cores = at_node s.cores n (Some y); sent = y.sends ++ s.sent; before = before })
    unfolding after_step traced
    step_mirrors x up scripts y me before =
        record {
          config = posted_config y.sends mid ∙ m.config;
          scene_config = m.scene_config;
          cores = subst (λ ns. (j : ℕ) → at_node s.cores n (Some y) j ≡ core_at ns j) (sym (posted_nodes y.sends mid)) (each_set (λ j o. o ≡ core_at nodes j) s.cores n (Some y) (sym (ap core_in (with_here z n me w.nodes x up))) (λ j ne. m.cores j ∙ sym (ap core_in (with_there z j (not_me j z (λ r. ne (sym r ∙ me))) w.nodes))));
          incs = λ j. m.incs j ∙ ap (λ ss. inc_at ss j) (sym (posted_starts y.sends mid));
          once = subst Once (sym (posted_nodes y.sends mid)) (once_with z w.nodes m.once);
          sent = posted_sent (λ p. Has p (y.sends ++ s.sent)) y.sends mid (λ p h. append_has_left p y.sends s.sent h) (λ p h. append_has_right p y.sends s.sent (m.sent p h));
          came = λ p h. brought p (has_append p y.sends s.sent h);
          paired = posted_pairs (λ p. Has p (y.sends ++ s.sent)) y.sends mid (λ p h. append_has_left p y.sends s.sent h) (λ a i p h. append_has_right p y.sends s.sent (m.paired a i p h));
        }
      where
        z : Node
        z = record { core = y; scripts = scripts }

        nodes : List Node
        nodes = nodes_with z w.nodes

        mid : World
        mid = traced (record w { nodes = nodes }) y.records

        brought : (p : Packet) → Has p y.sends ⊎ Has p s.sent → Has p (fold posted mid y.sends).sent
        brought p (inl h) = posted_new y.sends mid p h
        brought p (inr h) = posted_more y.sends mid p (m.came p h)

    -- the node stops
    pub stop_mirrors : (rs : List Happened) (before : History) → Mirrors c (traced (record w { nodes = drop_where (is_node n) w.nodes }) rs) (record s { cores = at_node s.cores n None; before = before })
    unfolding traced
    stop_mirrors rs before =
        record {
          config = m.config;
          scene_config = m.scene_config;
          cores = each_set (λ j o. o ≡ core_at (drop_where (is_node n) w.nodes) j) s.cores n None (sym (ap core_in (out_here n w.nodes m.once))) (λ j ne. m.cores j ∙ sym (ap core_in (out_there j n ne w.nodes)));
          incs = m.incs;
          once = once_out n w.nodes m.once;
          sent = m.sent;
          came = m.came;
          paired = m.paired;
        }

    started_me : (k : Config) (inc : ℕ) → (started k n inc).views.me ≡ n
    unfolding started with_sessions level_set views_new
    started_me k inc = refl

    -- the node starts as it does in the scene
    pub same_start : started s.config n (s.incs n + 1) ≡ started w.config n (inc_at w.starts n + 1)
    same_start =
        ap (λ k. started k n (s.incs n + 1)) (m.scene_config ∙ sym m.config) ∙ ap (λ i. started w.config n (i + 1)) (m.incs n)

    pub start_mirrors : find (is_node n) w.nodes ≡ None → (sent : List Packet) (before : History) → ((p : Packet) → Has p s.sent → Has p sent) → ((p : Packet) → Has p sent → Has p s.sent) → Mirrors c (started_at w n (inc_at w.starts n + 1)) (record s { cores = at_node s.cores n (Some (started s.config n (s.incs n + 1))); incs = at_node s.incs n (s.incs n + 1); sent = sent; before = before })
    unfolding started_at traced
    start_mirrors down sent before more less =
        record {
          config = m.config;
          scene_config = m.scene_config;
          cores = each_set (λ j o. o ≡ core_at nodes j) s.cores n (Some (started s.config n (s.incs n + 1))) (ap (λ k. Some k) same_start ∙ sym (ap core_in (put_here z test n (is_me n z me) w.nodes down))) (λ j ne. m.cores j ∙ sym (ap core_in (put_there z test j (not_me j z (λ r. ne (sym r ∙ me))) w.nodes)));
          incs = each_set (λ j i. i ≡ inc_at (starts_with w.starts n inc) j) s.incs n (s.incs n + 1) (ap (λ i. i + 1) (m.incs n) ∙ sym (starts_here n inc w.starts)) (λ j ne. m.incs j ∙ sym (starts_there n inc j ne w.starts));
          once = once_put z test w.nodes (subst (λ k. find (is_node k) w.nodes ≡ None) (sym me) down) m.once;
          sent = λ p h. more p (m.sent p h);
          came = λ p h. m.came p (less p h);
          paired = λ x i p h. more p (m.paired x i p h);
        }
      where
        inc : ℕ
        inc = inc_at w.starts n + 1

        z : Node
        z = record { core = started w.config n inc; scripts = [] }

        test : Node → Bool
        test y = nat_lt n y.core.views.me

        me : z.core.views.me ≡ n
        me = started_me w.config inc

        nodes : List Node
        nodes = insert_before test z w.nodes
