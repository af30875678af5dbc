-- Nodes that start, stop and are shown.
use Rattle.std.proofs.Common.{◌≡◌, ℕ, ◌+◌, ◌==◌, true, false, List, [], ◌∷◌, ◌++◌, map, Option, Some, None, refl, sym, ap, ◌∙◌, subst}
use Rattle.std.specs.Prelude.{find, is_some, flat_map}
use Rattle.rsct_packet.specs.Ids.{last_u32}
use Rattle.rsct_packet.specs.Lists.{drop_where}
use Rattle.rsct_packet.specs.Search.{insert_before}
use Rattle.packet_bodies.specs.declared.body.What.{What}
use Rattle.packet_bodies.specs.declared.body.What.TheVariants.{Hats, Hagsns, Hagsgr, Hagsvote}
use Rattle.node_state.specs.declared.config.Config.{Config}
use Rattle.proposal_core.specs.declared.group_state.Running.{Running}
use Rattle.proposal_core.specs.Lists.{state_in}
use Rattle.node_state.specs.declared.group.GroupRow.{GroupRow}
use Rattle.node_state.specs.declared.happened.Happened.{Happened}
use Rattle.node_state.specs.declared.happened.Happened.TheVariants as happened
use Rattle.node_state.specs.declared.state.Core.{Core}
use Rattle.node_state.specs.State.{with_sessions, held_rows, frozen, leader_in, leads_in}
use Rattle.node_state.specs.Applying.{level_set}
use Rattle.node_state.specs.Status.{status_of, view_line, group_line, vote_line, vote_lines}
use Rattle.node_state.specs.Step.{at_work, started}
use Rattle.node_core.specs.Node.{NodeView}
use Rattle.world_model.specs.World.{is_node, node_at, traced, inc_in, starts_with, started_at, starts_if, node_starts, stops_if, shows_if}
use Rattle.world_model.specs.World as world
use Rattle.net_script.specs.declared.world.World.{World}
use Rattle.world_laws.specs.world_answers.Answers.{Items}
use Rattle.net_script.specs.Standing.{is_me, comes_before, NodeStands, NodesStand, Stands, Goes}
use Rattle.play_state.specs.Starts.{is_start, started_in}
use Rattle.net_script.proofs.NodeLaws.{StandsAt, node_before, same_me, stands_first, stands_inserted, stands_dropped, stands_found, stands_none}
use Rattle.net_script.proofs.WorldLaws.{goes_nowhere, goes_recorded}

up_starts : (n last : ℕ) (w : world.World) (o : Option world.Node) → is_some o ≡ true → starts_if w n last o ≡ w
unfolding starts_if
up_starts n last w None e = absurd cc
up_starts n last w (Some x) e = refl

spent_starts : (n last : ℕ) (w : world.World) (o : Option world.Node) → is_some o ≡ false → last ≡ last_u32 → starts_if w n last o ≡ w
unfolding starts_if
spent_starts n last w None e spent = rw (spent, starts_if) refl
spent_starts n last w (Some x) e spent = absurd cc

begun_starts : (n last : ℕ) (w : world.World) (o : Option world.Node) → is_some o ≡ false → (last == last_u32) ≡ false → starts_if w n last o ≡ started_at w n (last + 1)
unfolding starts_if
begun_starts n last w None e more = rw (more, starts_if) refl
begun_starts n last w (Some x) e more = absurd cc

stopped_if : (n : ℕ) (w : world.World) (o : Option world.Node) → is_some o ≡ true → stops_if w n o ≡ traced (record w { nodes = drop_where (is_node n) w.nodes }) (happened.Down n ∷ [])
unfolding stops_if
stopped_if n w None e = absurd cc
stopped_if n w (Some x) e = refl

nothing_stops : (n : ℕ) (w : world.World) (o : Option world.Node) → is_some o ≡ false → stops_if w n o ≡ w
unfolding stops_if
nothing_stops n w None e = refl
nothing_stops n w (Some x) e = absurd cc

same_votes : (s : Core) (row : GroupRow) (o : Option Running) → vote_lines (at_work s) row o ≡ vote_lines s row o
unfolding vote_lines vote_line leads_in leader_in
same_votes s row None = refl
same_votes s row (Some run) = refl

same_rows : (s : Core) (rows : List GroupRow) → flat_map (λ row. vote_lines (at_work s) row (state_in row.list).running) rows ≡ flat_map (λ row. vote_lines s row (state_in row.list).running) rows
same_rows s [] = refl
same_rows s (row ∷ rows) =
    ap (λ ls. ls ++ flat_map (λ (x : GroupRow). vote_lines (at_work s) x (state_in x.list).running) rows) (same_votes s row (state_in row.list).running) ∙ ap (λ ls. vote_lines s row (state_in row.list).running ++ ls) (same_rows s rows)

-- what a step left is in no status
status_at_work : (s : Core) (what : What) → status_of (at_work s) what ≡ status_of s what
unfolding status_of view_line group_line held_rows frozen leader_in
status_at_work s Hats = refl
status_at_work s Hagsns = refl
status_at_work s Hagsgr = refl
status_at_work s Hagsvote = same_rows s (held_rows s)

shown_if : (n : ℕ) (what : What) (w : world.World) (x : world.Node) → find (is_node n) w.nodes ≡ Some x → shows_if w n what (node_at w n) ≡ traced w (map (happened.Shown n) (status_of x.core what))
unfolding shows_if node_at
shown_if n what w x e = rw e refl

nothing_shows : (n : ℕ) (what : What) (w : world.World) (o : Option world.Node) → is_some o ≡ false → shows_if w n what o ≡ w
unfolding shows_if
nothing_shows n what w None e = refl
nothing_shows n what w (Some x) e = absurd cc

module _ {C : Type 0} {script : C → Option Items} {said : Items → Option Items} where
  -- ---- starts

  -- a node that starts stands for the definition's, its records taken
  starts_standing : (c : Config) (n inc : ℕ) → NodeStands script said (record { core = record (started c n inc) { records = [] }; clients = []; halted = false }) (record { core = started c n inc; scripts = [] })
  unfolding started with_sessions level_set
  starts_standing c n inc = record { core = refl; votes = refl }

  pub begins_goes : (c d : World C) (n inc : ℕ) (node : NodeView C) (before after : List Happened)
      → node ≡ record { core = record (started c.config n inc) { records = [] }; clients = []; halted = false }
      → d.config ≡ c.config → d.nodes ≡ insert_before (comes_before n) node c.nodes → map started_in d.starts ≡ starts_with (map started_in c.starts) n inc → d.packets ≡ c.packets → d.kept ≡ c.kept → d.limit ≡ c.limit
      → after ≡ before ++ (started c.config n inc).records → (w : world.World) → Stands script said c w → Goes script said c d before after w (started_at w n inc)
  unfolding started_at traced
  begins_goes c d n inc node before after new config nodes starts packets kept limit out w h =
      let x : world.Node = record { core = started w.config n inc; scripts = [] } in
      let there : NodeStands script said node x = subst (λ z. NodeStands script said z x) (sym new) (subst (λ z. NodeStands script said (record { core = record (started z n inc) { records = [] }; clients = []; halted = false }) x) h.config (starts_standing w.config n inc)) in
      record {
        stands = record {
          config = h.config ∙ sym config;
          nodes = subst (λ ns. NodesStand script said ns (insert_before (node_before n) x w.nodes)) (sym nodes) (stands_inserted script said n c.nodes w.nodes node x h.nodes there);
          starts = ap (λ ss. starts_with ss n inc) h.starts ∙ sym starts;
          packets = rw packets h.packets;
        };
        limit = limit;
        records = (started w.config n inc).records;
        out = out ∙ ap (λ z. before ++ (started z n inc).records) (sym h.config);
        trace = refl;
        sent = [];
        sends = refl;
        within = rw kept refl;
      }

  pub start_is_up : (c : World C) (n : ℕ) (out : List Happened) → is_some (find (is_me n) c.nodes) ≡ true → (w : world.World) → Stands script said c w → Goes script said c c out out w (node_starts w n)
  unfolding node_starts node_at
  start_is_up c n out up w h =
      subst (Goes script said c c out out w) (sym (up_starts n _ w (find (is_node n) w.nodes) (stands_found script said n c.nodes w.nodes h.nodes ∙ up))) (goes_nowhere c out w h)

  last_of : (c : World C) (n : ℕ) (w : world.World) → Stands script said c w → inc_in (find (is_start n) w.starts) ≡ inc_in (find (is_start n) (map started_in c.starts))
  last_of c n w h = ap (λ ss. inc_in (find (is_start n) ss)) h.starts

  pub start_is_spent : (c : World C) (n last : ℕ) (out : List Happened) → is_some (find (is_me n) c.nodes) ≡ false → last ≡ inc_in (find (is_start n) (map started_in c.starts)) → last ≡ last_u32
      → (w : world.World) → Stands script said c w → Goes script said c c out out w (node_starts w n)
  unfolding node_starts node_at
  start_is_spent c n last out up at spent w h =
      subst (Goes script said c c out out w) (sym (spent_starts n _ w (find (is_node n) w.nodes) (stands_found script said n c.nodes w.nodes h.nodes ∙ up) (last_of c n w h ∙ (sym at ∙ spent)))) (goes_nowhere c out w h)

  pub start_begins : (c d : World C) (n last : ℕ) (before after : List Happened) → is_some (find (is_me n) c.nodes) ≡ false → last ≡ inc_in (find (is_start n) (map started_in c.starts)) → (last == last_u32) ≡ false
      → ((w : world.World) → Stands script said c w → Goes script said c d before after w (started_at w n (last + 1))) → (w : world.World) → Stands script said c w → Goes script said c d before after w (node_starts w n)
  unfolding node_starts node_at
  start_begins c d n last before after up at more goes w h =
      let same : inc_in (find (is_start n) w.starts) ≡ last = last_of c n w h ∙ sym at in
      let begun : starts_if w n (inc_in (find (is_start n) w.starts)) (find (is_node n) w.nodes) ≡ started_at w n (inc_in (find (is_start n) w.starts) + 1) =
      begun_starts n _ w (find (is_node n) w.nodes) (stands_found script said n c.nodes w.nodes h.nodes ∙ up) (ap (λ z. z == last_u32) same ∙ more) in
      subst (Goes script said c d before after w) (sym (begun ∙ ap (λ z. started_at w n (z + 1)) same)) (goes w h)

  -- ---- stops

  pub stop_goes : (c d : World C) (n : ℕ) (before after : List Happened) → is_some (find (is_me n) c.nodes) ≡ true → d ≡ record c { nodes = drop_where (is_me n) c.nodes } → after ≡ before ++ happened.Down n ∷ []
      → (w : world.World) → Stands script said c w → Goes script said c d before after w (stops_if w n (node_at w n))
  unfolding node_at traced
  stop_goes c d n before after up left out w h =
      subst (Goes script said c d before after w) (sym (stopped_if n w (find (is_node n) w.nodes) (stands_found script said n c.nodes w.nodes h.nodes ∙ up))) (rw left (record {
        stands = record { config = h.config; nodes = stands_dropped script said n c.nodes w.nodes h.nodes; starts = h.starts; packets = h.packets };
        limit = refl;
        records = happened.Down n ∷ [];
        out = out;
        trace = refl;
        sent = [];
        sends = refl;
        within = refl;
      }))

  pub stop_nothing : (c d : World C) (n : ℕ) (out : List Happened) → is_some (find (is_me n) c.nodes) ≡ false → d ≡ record c { nodes = drop_where (is_me n) c.nodes } → (w : world.World) → Stands script said c w → Goes script said c d out out w (stops_if w n (node_at w n))
  unfolding node_at
  stop_nothing c d n out up left w h =
      let same : d ≡ c = left ∙ ap (λ ns. record c { nodes = ns }) (stands_none n c.nodes up) in
      subst (λ z. Goes script said c z out out w (stops_if w n (find (is_node n) w.nodes))) (sym same)
      (subst (Goes script said c c out out w) (sym (nothing_stops n w (find (is_node n) w.nodes) (stands_found script said n c.nodes w.nodes h.nodes ∙ up))) (goes_nowhere c out w h))

  -- ---- statuses

  same_status : (n : NodeView C) (x : world.Node) (what : What) → NodeStands script said n x → status_of n.core what ≡ status_of x.core what
  same_status n x what h = sym (status_at_work n.core what) ∙ (ap (λ s. status_of s what) h.core ∙ status_at_work x.core what)

  pub show_goes : (c : World C) (n : ℕ) (what : What) (node : NodeView C) (before after : List Happened) → find (is_me n) c.nodes ≡ Some node → after ≡ before ++ map (happened.Shown node.core.views.me) (status_of node.core what)
      → (w : world.World) → Stands script said c w → Goes script said c c before after w (shows_if w n what (node_at w n))
  show_goes c n what node before after found out w h =
      let s : StandsAt script said n node w.nodes = stands_first script said n c.nodes w.nodes node h.nodes found in
      let same : map (happened.Shown node.core.views.me) (status_of node.core what) ≡ map (happened.Shown n) (status_of s.node.core what) =
      ap (λ k. map (happened.Shown k) (status_of node.core what)) (same_me script said node s.node s.stands ∙ s.me) ∙ ap (map (happened.Shown n)) (same_status node s.node what s.stands) in
      subst (Goes script said c c before after w) (sym (shown_if n what w s.node s.found)) (goes_recorded c before after (map (happened.Shown n) (status_of s.node.core what)) w h (out ∙ ap (λ rs. before ++ rs) same))

  pub show_nothing : (c : World C) (n : ℕ) (what : What) (out : List Happened) → find (is_me n) c.nodes ≡ None → (w : world.World) → Stands script said c w → Goes script said c c out out w (shows_if w n what (node_at w n))
  unfolding node_at
  show_nothing c n what out none w h =
      subst (Goes script said c c out out w) (sym (nothing_shows n what w (find (is_node n) w.nodes) (stands_found script said n c.nodes w.nodes h.nodes ∙ ap is_some none))) (goes_nowhere c out w h)
