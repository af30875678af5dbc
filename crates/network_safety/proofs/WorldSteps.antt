-- What an event leaves of a world, as far as a network sees it.
use Rattle.std.proofs.Common.{◌≡◌, ◌≢◌, ◌<◌, ◌+◌, ℕ, List, [], ◌∷◌, Bool, true, false, Option, Some, None, refl, sym, ap, ◌∙◌, subst, arith}
use Rattle.std.specs.Prelude.{◌==◌, find, nat_lt}
use Rattle.std.proofs.lemmas.Bool.{ne_eqb}
use Rattle.rsct_packet.specs.Ids.{last_u32}
use Rattle.rsct_packet.specs.Lists.{reverse_onto}
use Rattle.rsct_packet.specs.Search.{Has}
use Rattle.view_state.specs.Views.{views_new}
use Rattle.node_state.specs.declared.config.Config.{Config}
use Rattle.node_state.specs.declared.happened.Happened.{Happened}
use Rattle.node_state.specs.declared.happened.Happened.TheVariants as happened
use Rattle.node_state.specs.declared.packet.Packet.{Packet}
use Rattle.node_state.specs.declared.state.Core.{Core}
use Rattle.node_state.specs.State.{with_sessions}
use Rattle.node_state.specs.Applying.{level_set}
use Rattle.node_state.specs.Step.{started}
use Rattle.world_model.specs.World.{Script, Node, World, is_node, node_at, nodes_with, handled, traced, after_step, started_at, starts_if, node_starts, stops_if}
use Rattle.world_laws.proofs.world_runs.Traces.{after_records}
use Rattle.world_safety.specs.Mirrors.{core_in, core_at, inc_at, Once}
use Rattle.world_safety.proofs.Finding.{is_me, not_me, with_here, with_there, put_here, put_there, out_here, out_there, starts_here, starts_there}
use Rattle.world_safety.proofs.Posting.{posted_nodes, posted_starts, posted_more, posted_new}
use Rattle.network_safety.proofs.Pairs.{AllPaired, posted_paired}

-- a node comes to this core and incarnation, with these records more, and these packets sent; all else stays
pub record Leaves (w v : World) (n : ℕ) (o : Option Core) (inc : ℕ) (rs : List Happened) (ps : List Packet) : Type 0 where
  pub here : core_at v.nodes n ≡ o
  pub there : (m : ℕ) → m ≢ n → core_at v.nodes m ≡ core_at w.nodes m
  pub inc_here : inc_at v.starts n ≡ inc
  pub inc_there : (m : ℕ) → m ≢ n → inc_at v.starts m ≡ inc_at w.starts m
  pub trace : v.trace ≡ reverse_onto rs w.trace
  pub old : (p : Packet) → Has p w.sent → Has p v.sent
  pub new : (p : Packet) → Has p ps → Has p v.sent
  pub paired : AllPaired w → AllPaired v

module _ (w : World) (n : ℕ) where
  pub step_leaves : (x : Node) → find (is_node n) w.nodes ≡ Some x → (scripts : List Script) (y : Core) → y.views.me ≡ n → Leaves w (after_step w scripts y) n (Some y) (inc_at w.starts n) y.records y.sends
  unfolding after_step traced
  step_leaves x up scripts y me =
      record {
        here = ap (λ ns. core_at ns n) (posted_nodes y.sends mid) ∙ ap core_in (with_here z n me w.nodes x up);
        there = λ m ne. ap (λ ns. core_at ns m) (posted_nodes y.sends mid) ∙ ap core_in (with_there z m (not_me m z (λ r. ne (sym r ∙ me))) w.nodes);
        inc_here = ap (λ ss. inc_at ss n) (posted_starts y.sends mid);
        inc_there = λ m ne. ap (λ ss. inc_at ss m) (posted_starts y.sends mid);
        trace = after_records w scripts y;
        old = λ p h. posted_more y.sends mid p h;
        new = λ p h. posted_new y.sends mid p h;
        paired = λ k. posted_paired y.sends mid (record { counted = k.counted; paired = k.paired });
      }
    where
      z : Node
      z = record { core = y; scripts = scripts }

      mid : World
      mid = traced (record w { nodes = nodes_with z w.nodes }) y.records

  started_me : (c : Config) (inc : ℕ) → (started c n inc).views.me ≡ n
  unfolding started with_sessions level_set views_new
  started_me c inc = refl

  start_leaves : (inc : ℕ) → find (is_node n) w.nodes ≡ None → Leaves w (started_at w n inc) n (Some (started w.config n inc)) inc (started w.config n inc).records []
  unfolding started_at traced
  start_leaves inc down =
      record {
        here = ap core_in (put_here z test n (is_me n z me) w.nodes down);
        there = λ m ne. ap core_in (put_there z test m (not_me m z (λ r. ne (sym r ∙ me))) w.nodes);
        inc_here = starts_here n inc w.starts;
        inc_there = λ m ne. starts_there n inc m ne w.starts;
        trace = refl;
        old = λ p h. h;
        new = λ p h. absurd h;
        paired = λ k. record { counted = k.counted; paired = k.paired };
      }
    where
      z : Node
      z = record { core = started w.config n inc; scripts = [] }

      test : Node → Bool
      test y = nat_lt n y.core.views.me

      me : z.core.views.me ≡ n
      me = started_me w.config inc

  -- a node that is down starts in its next incarnation
  pub starts_leave : find (is_node n) w.nodes ≡ None → inc_at w.starts n < last_u32 → Leaves w (node_starts w n) n (Some (started w.config n (inc_at w.starts n + 1))) (inc_at w.starts n + 1) (started w.config n (inc_at w.starts n + 1)).records []
  unfolding node_starts node_at starts_if
  starts_leave down less =
      subst (λ (o : Option Node). Leaves w (starts_if w n (inc_at w.starts n) o) n (Some (started w.config n inc)) inc (started w.config n inc).records []) (sym down) (by (inc_at w.starts n == last_u32) (ne_eqb (inc_at w.starts n) last_u32 (λ e. omega (arith, e, less))))
    where
      inc : ℕ
      inc = inc_at w.starts n + 1

      by : (b : Bool) → b ≡ false → Leaves w (elim b [ true ↦ w | false ↦ started_at w n inc ]) n (Some (started w.config n inc)) inc (started w.config n inc).records []
      by true e = absurd (cc)
      by false e = start_leaves inc down

  -- a node that is up stops
  pub stops_leave : (x : Node) → find (is_node n) w.nodes ≡ Some x → Once w.nodes → Leaves w (stops_if w n (node_at w n)) n None (inc_at w.starts n) (happened.Down n ∷ []) []
  unfolding stops_if traced node_at
  stops_leave x up once =
      subst (λ o. Leaves w (stops_if w n o) n None (inc_at w.starts n) (happened.Down n ∷ []) []) (sym up) stopped
    where
      stopped : Leaves w (stops_if w n (Some x)) n None (inc_at w.starts n) (happened.Down n ∷ []) []
      stopped = record {
        here = ap core_in (out_here n w.nodes once);
        there = λ m ne. ap core_in (out_there m n ne w.nodes);
        inc_here = refl;
        inc_there = λ m ne. refl;
        trace = refl;
        old = λ p h. h;
        new = λ p h. absurd h;
        paired = λ k. record { counted = k.counted; paired = k.paired };
      }

-- a packet that is handled no longer waits
pub given_leaves : (w : World) (n a b k : ℕ) (x : Node) → find (is_node n) w.nodes ≡ Some x → (scripts : List Script) (y : Core) → y.views.me ≡ n → Leaves w (after_step (handled w a b k) scripts y) n (Some y) (inc_at w.starts n) y.records y.sends
unfolding handled
given_leaves w n a b k x up scripts y me =
    let l = step_leaves (handled w a b k) n x up scripts y me in
    record { here = l.here; there = l.there; inc_here = l.inc_here; inc_there = l.inc_there; trace = l.trace; old = l.old; new = l.new; paired = λ q. l.paired (record { counted = q.counted; paired = q.paired }) }
