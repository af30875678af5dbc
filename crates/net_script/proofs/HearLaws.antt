-- What events of a world hand to clients.
use Rattle.std.proofs.Common.{◌≡◌, ℕ, ◌==◌, ◌&&◌, true, false, List, [], ◌∷◌, ◌++◌, map, append-nil, set, get_or, Option, Some, None, refl, sym, ap, ◌∙◌, subst}
use Rattle.std.specs.Prelude.{find, is_some}
use Rattle.rsct_packet.specs.Ids.{last_u32}
use Rattle.rsct_packet.specs.Lists.{drop_where}
use Rattle.rsct_packet.specs.Search.{place_where, insert_before}
use Rattle.client_callbacks.specs.Handed.{Handed}
use Rattle.session_state.specs.declared.fault.GsFault.TheVariants.{NoInit}
use Rattle.view_state.specs.Views.{views_new}
use Rattle.node_state.specs.declared.call.CallLine.{CallLine}
use Rattle.node_state.specs.declared.config.Config.{Config}
use Rattle.node_state.specs.declared.happened.Happened.{Happened}
use Rattle.node_state.specs.declared.happened.Happened.TheVariants as happened
use Rattle.node_state.specs.declared.packet.Packet.{Packet}
use Rattle.node_state.specs.Applying.{level_set}
use Rattle.node_state.specs.Calls.{caller_of}
use Rattle.node_state.specs.HandOn.{Answering}
use Rattle.node_state.specs.State.{with_sessions}
use Rattle.node_state.specs.Step.{NodeEvent, Given, Calls, own_rings, first_view, first_members, ring_record, started}
use Rattle.node_state.specs.Handed.{is_handed, handed_in, Logged}
use Rattle.entry_delivery.specs.Received.{WereHanded}
use Rattle.node_core.specs.Node.{NodeView}
use Rattle.world_model.specs.World.{Script, is_node, node_at, kth_in, kth_between}
use Rattle.world_model.specs.World as world
use Rattle.world_packets.specs.Packets.{world_pairs, find_pair}
use Rattle.world_laws.specs.world_answers.Answers.{Items}
use Rattle.net_script.specs.declared.steps.Left.{Left}
use Rattle.net_script.specs.declared.world.World.{World}
use Rattle.net_script.specs.Standing.{is_me, comes_before, NodeStands, NodesStand, StepDone, Stands, Settled}
use Rattle.play_state.specs.Starts.{started_in, is_start}
use Rattle.run_hands.specs.Hands.{Logs, is_log, logs_of, logs_with, LogsStand, logs_begun, logs_started, last_start, StepHands, HandsNothing, NodeHands, DeliveryHands, BeginHands}
use Rattle.net_script.specs.Hearing.{StepHears, NodesHear, HearsAs}
use Rattle.net_script.proofs.NodeLaws.{StandsAt, same_me, stands_at, stands_found}
use Rattle.net_script.proofs.WorldLaws.{stands_hold}
use Rattle.net_script.proofs.GivingLaws.{kth_same, missing_either}
use Rattle.net_script.proofs.HandLaws.{hands_as}
use Rattle.net_script.proofs.LogLaws.{logs_at, logs_set, logs_inserted, logs_dropped}

-- ---- records that tell nothing that was handed

unhanded_each : {A : Type 0} (f : A → Happened) → ((x : A) → is_handed (f x) ≡ false) → (xs : List A) (rest : List Happened) → handed_in (map f xs ++ rest) ≡ handed_in rest
unhanded_each f none [] rest = refl
unhanded_each f none (x ∷ xs) rest = rw (none x) (unhanded_each f none xs rest)

-- a start
started_unhanded : (c : Config) (n inc : ℕ) → handed_in (started c n inc).records ≡ []
unfolding started with_sessions level_set ring_record
started_unhanded c n inc = unhanded_each (ring_record n) (λ r. refl) (own_rings c c.mode n inc) (happened.In n (first_view c c.mode n inc) (first_members c c.mode n inc) ∷ [])

pub started_me : (c : Config) (n inc : ℕ) → n ≡ (started c n inc).views.me
unfolding started with_sessions level_set views_new
started_me c n inc = refl

-- a status
shown_unhanded : (k : ℕ) (xs : List (List ℕ)) → handed_in (map (happened.Shown k) xs) ≡ []
shown_unhanded k xs = ap handed_in (sym (append-nil (map (happened.Shown k) xs))) ∙ unhanded_each (happened.Shown k) (λ x. refl) xs []

delivery_as : (o : Option world.Node) (p : Packet) (n : ℕ) (rs : List Happened) (old new : Logs) → NodeHands o n (Given p) rs old new → DeliveryHands o (Some p) n rs old new
delivery_as None p n rs old new h = h
delivery_as (Some x) p n rs old new h = h

not_delivered : (o : Option world.Node) (p : Option Packet) (n : ℕ) (old : Logs) → (is_some o && is_some p) ≡ false → DeliveryHands o p n [] old old
not_delivered None p n old e = (refl, refl)
not_delivered (Some x) None n old e = (refl, refl)
not_delivered (Some x) (Some p) n old e = absurd cc

up_started : (o : Option world.Node) (n last : ℕ) (xs : Logs) → is_some o ≡ true → xs ≡ logs_started o n last xs
up_started None n last xs e = absurd cc
up_started (Some x) n last xs e = refl

spent_started : (o : Option world.Node) (n last : ℕ) (xs : Logs) → is_some o ≡ false → last ≡ last_u32 → xs ≡ logs_started o n last xs
spent_started None n last xs e spent = rw spent refl
spent_started (Some x) n last xs e spent = absurd cc

begun_started : (o : Option world.Node) (n last : ℕ) (xs : Logs) → is_some o ≡ false → (last == last_u32) ≡ false → logs_begun n xs ≡ logs_started o n last xs
begun_started None n last xs e more = rw (more, logs_started) refl
begun_started (Some x) n last xs e more = absurd cc

abbrev StartHands : ℕ → world.World → List Happened → Logs → Logs → Type 0
StartHands n w rs old new = (handed_in rs ≡ []) × (new ≡ logs_started (node_at w n) n (last_start w n) old)

abbrev GiveHands : ℕ → ℕ → ℕ → world.World → List Happened → Logs → Logs → Type 0
GiveHands a b k w rs old new = DeliveryHands (node_at w b) (kth_between w a b k) b rs old new

last_same : {C : Type 0} {script : C → Option Items} {said : Items → Option Items} (c : World C) (n last : ℕ) (w : world.World) → Stands script said c w → last ≡ world.inc_in (find (is_start n) (map started_in c.starts)) → last_start w n ≡ last
last_same c n last w h e = ap (λ ss. world.inc_in (find (is_start n) ss)) h.starts ∙ sym e

-- the packet, and what its receiver hands on
given_hands : {C : Type 0} {script : C → Option Items} {said : Items → Option Items} (c : World C) (a b k : ℕ) (p : Packet) (ev : NodeEvent) (w : world.World) (rs : List Happened) (old new : Logs) → Stands script said c w
    → kth_in k (find_pair a b (world_pairs c.packets.pairs)) ≡ Some p → ev ≡ Given p → NodeHands (find (is_node b) w.nodes) b ev rs old new → GiveHands a b k w rs old new
unfolding node_at
given_hands c a b k p ev w rs old new h packet given hands =
    subst (λ o. DeliveryHands (find (is_node b) w.nodes) o b rs old new) (sym (kth_same c a b k w (stands_hold c w h) ∙ packet))
    (delivery_as (find (is_node b) w.nodes) p b rs old new (subst (λ z. NodeHands (find (is_node b) w.nodes) b z rs old new) given hands))

module _ {C : Type 0} (R : C → List Handed → Type 0) (script : C → Option Items) (said : Items → Option Items) where
  -- ---- steps of nodes

  -- the node at a place steps
  pub hears_by : (a : Answering) (g : world.Node → List Script) (ns : List (NodeView C)) (k i : ℕ) (old new : NodeView C) (l : Left) (ev : NodeEvent) → Some i ≡ place_where (is_me k) ns → old ≡ get_or ns i old
      → ((x : world.Node) → NodeStands script said old x → StepDone script said a new l x (g x) ev) → StepHears R old new l.records ev → NodesHear R script said ns (set ns i new) k (Some l) ev
  hears_by a g ns k i old new l ev at here stepping hears xs h logs stand =
      let s : StandsAt script said k (get_or ns i old) xs = stands_at script said k ns xs i old h (sym at) in
      let x : world.Node = s.node in
      let there : NodeStands script said old x = subst (λ (z : NodeView C). NodeStands script said z x) (sym here) s.stands in
      let t : StepDone script said a new l x (g x) ev = stepping x there in
      let were : WereHanded R old.clients (logs_of k logs) = subst (λ (z : NodeView C). WereHanded R z.clients (logs_of k logs)) (sym here) (logs_at R k ns logs i old stand (sym at)) in
      let heard : (ls : List (List Logged)) × StepHands old.core ev l.records (logs_of k logs) ls × WereHanded R new.clients ls = hears (logs_of k logs) were in (
        logs_with k heard.0 logs,
        rw s.found (heard.0, hands_as old.core x.core ev l.records (logs_of k logs) heard.0 there.core heard.1, refl),
        logs_set R k ns logs i new heard.0 stand (sym at) (same_me script said new _ t.left.stands ∙ (t.left.me ∙ s.me)) heard.2,
      )

  -- no node has the number
  pub nobody_hears : (ns : List (NodeView C)) (k : ℕ) (ev : NodeEvent) → ((xs : List world.Node) → NodesStand script said ns xs → find (is_node k) xs ≡ None) → NodesHear R script said ns ns k None ev
  nobody_hears ns k ev missing xs h logs stand = (logs, rw (missing xs h) (refl, refl), stand)

  -- ---- steps in a world

  -- what a node's step left is sent and recorded
  pub step_heard : (c m d : World C) (k : ℕ) (l : Left) (ev : NodeEvent) (before after : List Happened) → NodesHear R script said c.nodes m.nodes k (Some l) ev → Settled m d l before after
      → HearsAs R script said c d.nodes before after (λ w rs old new. NodeHands (node_at w k) k ev rs old new)
  unfolding node_at
  step_heard c m d k l ev before after hear settled w h old stand =
      let t : (new : Logs) × NodeHands (find (is_node k) w.nodes) k ev l.records old new × LogsStand R m.nodes new = hear w.nodes h.nodes old stand in
      (l.records, t.0, settled.out, t.1, subst (λ (ns : List (NodeView C)). LogsStand R ns t.0) (sym settled.nodes) t.2)

  pub step_unheard : (c : World C) (ms : List (NodeView C)) (k : ℕ) (ev : NodeEvent) (out : List Happened) → NodesHear R script said c.nodes ms k None ev → HearsAs R script said c ms out out (λ w rs old new. NodeHands (node_at w k) k ev rs old new)
  unfolding node_at
  step_unheard c ms k ev out hear w h old stand =
      let t : (new : Logs) × NodeHands (find (is_node k) w.nodes) k ev [] old new × LogsStand R ms new = hear w.nodes h.nodes old stand in
      ([], t.0, sym (append-nil out), t.1, t.2)

  -- a call of a client whose node is down
  pub refusal_heard : (c : World C) (ms : List (NodeView C)) (k : ℕ) (call : CallLine) (before after : List Happened) → ms ≡ c.nodes → ((xs : List world.Node) → NodesStand script said c.nodes xs → find (is_node k) xs ≡ None) → after ≡ before ++ happened.Refused k (caller_of call) NoInit ∷ []
      → HearsAs R script said c ms before after (λ w rs old new. NodeHands (node_at w k) k (Calls call) rs old new)
  unfolding node_at
  refusal_heard c ms k call before after same missing out w h old stand = (happened.Refused k (caller_of call) NoInit ∷ [], old, out, rw (missing w.nodes h.nodes) (refl, refl), rw same stand)

  -- ---- starts

  pub begin_heard : (c : World C) (ms : List (NodeView C)) (n inc : ℕ) (node : NodeView C) (before after : List Happened) → node ≡ record { core = record (started c.config n inc) { records = [] }; clients = []; halted = false }
      → ms ≡ insert_before (comes_before n) node c.nodes → after ≡ before ++ (started c.config n inc).records → HearsAs R script said c ms before after (λ w rs old new. BeginHands n rs old new)
  begin_heard c ms n inc node before after new nodes out w h old stand = (
    (started c.config n inc).records,
    logs_begun n old,
    out,
    (started_unhanded c.config n inc, refl),
    rw nodes (logs_inserted R n c.nodes old node stand (started_me c.config n inc ∙ ap (λ (z : NodeView C). z.core.views.me) (sym new)) (ap (λ (z : NodeView C). z.clients) new)),
  )

  pub start_up_heard : (c : World C) (n : ℕ) (out : List Happened) → is_some (find (is_me n) c.nodes) ≡ true → HearsAs R script said c c.nodes out out (StartHands n)
  unfolding node_at
  start_up_heard c n out up w h old stand =
      ([], old, sym (append-nil out), (refl, up_started (find (is_node n) w.nodes) n (last_start w n) old (stands_found script said n c.nodes w.nodes h.nodes ∙ up)), stand)

  pub start_spent_heard : (c : World C) (n last : ℕ) (out : List Happened) → is_some (find (is_me n) c.nodes) ≡ false → last ≡ world.inc_in (find (is_start n) (map started_in c.starts)) → last ≡ last_u32 → HearsAs R script said c c.nodes out out (StartHands n)
  unfolding node_at
  start_spent_heard c n last out down at spent w h old stand =
      ([], old, sym (append-nil out), (refl, spent_started (find (is_node n) w.nodes) n (last_start w n) old (stands_found script said n c.nodes w.nodes h.nodes ∙ down) (last_same c n last w h at ∙ spent)), stand)

  pub start_begins_heard : (c : World C) (ms : List (NodeView C)) (n last : ℕ) (before after : List Happened) → is_some (find (is_me n) c.nodes) ≡ false → last ≡ world.inc_in (find (is_start n) (map started_in c.starts)) → (last == last_u32) ≡ false
      → HearsAs R script said c ms before after (λ w rs old new. BeginHands n rs old new) → HearsAs R script said c ms before after (StartHands n)
  unfolding node_at
  start_begins_heard c ms n last before after down at more begun w h old stand =
      let t : (rs : List Happened) × (new : Logs) × (after ≡ before ++ rs) × BeginHands n rs old new × LogsStand R ms new = begun w h old stand in
      let is : logs_begun n old ≡ logs_started (find (is_node n) w.nodes) n (last_start w n) old =
      begun_started (find (is_node n) w.nodes) n (last_start w n) old (stands_found script said n c.nodes w.nodes h.nodes ∙ down) (ap (λ z. z == last_u32) (last_same c n last w h at) ∙ more) in
      (t.0, t.1, t.2, (t.3.0, t.3.1 ∙ is), t.4)

  -- ---- stops and statuses

  pub stop_heard : (c : World C) (ms : List (NodeView C)) (n : ℕ) (before after rs : List Happened) → ms ≡ drop_where (is_me n) c.nodes → after ≡ before ++ rs → handed_in rs ≡ [] → HearsAs R script said c ms before after (λ w rs old new. (handed_in rs ≡ []) × (new ≡ drop_where (is_log n) old))
  stop_heard c ms n before after rs left out unhanded w h old stand = (rs, drop_where (is_log n) old, out, (unhanded, refl), rw left (logs_dropped R n c.nodes old stand))

  pub shown_heard : (c : World C) (k : ℕ) (lines : List (List ℕ)) (before after : List Happened) → after ≡ before ++ map (happened.Shown k) lines → HearsAs R script said c c.nodes before after (λ w rs old new. HandsNothing rs old new)
  shown_heard c k lines before after out w h old stand = (map (happened.Shown k) lines, old, out, (shown_unhanded k lines, refl), stand)

  pub nothing_heard : (c : World C) (out : List Happened) → HearsAs R script said c c.nodes out out (λ w rs old new. HandsNothing rs old new)
  nothing_heard c out w h old stand = ([], old, sym (append-nil out), (refl, refl), stand)

  -- ---- deliveries

  pub nothing_given_heard : (c : World C) (a b k : ℕ) (out : List Happened) → (is_some (find (is_me b) c.nodes) && is_some (kth_in k (find_pair a b (world_pairs c.packets.pairs)))) ≡ false → HearsAs R script said c c.nodes out out (GiveHands a b k)
  unfolding node_at
  nothing_given_heard c a b k out e w h old stand = ([], old, sym (append-nil out), not_delivered (find (is_node b) w.nodes) (kth_between w a b k) b old (missing_either c a b k e w (stands_hold c w h)), stand)

  pub given_heard : (c n d : World C) (a b k : ℕ) (p : Packet) (l : Left) (ev : NodeEvent) (before after : List Happened) → kth_in k (find_pair a b (world_pairs c.packets.pairs)) ≡ Some p → ev ≡ Given p
      → NodesHear R script said c.nodes n.nodes b (Some l) ev → Settled n d l before after → HearsAs R script said c d.nodes before after (GiveHands a b k)
  given_heard c n d a b k p l ev before after packet given hear settled w h old stand =
      let t : (new : Logs) × NodeHands (find (is_node b) w.nodes) b ev l.records old new × LogsStand R n.nodes new = hear w.nodes h.nodes old stand in
      (l.records, t.0, settled.out, given_hands c a b k p ev w l.records old t.0 h packet given t.1, subst (λ (ns : List (NodeView C)). LogsStand R ns t.0) (sym settled.nodes) t.2)

  pub given_unheard : (c : World C) (ms : List (NodeView C)) (a b k : ℕ) (p : Packet) (ev : NodeEvent) (out : List Happened) → kth_in k (find_pair a b (world_pairs c.packets.pairs)) ≡ Some p → ev ≡ Given p
      → NodesHear R script said c.nodes ms b None ev → HearsAs R script said c ms out out (GiveHands a b k)
  given_unheard c ms a b k p ev out packet given hear w h old stand =
      let t : (new : Logs) × NodeHands (find (is_node b) w.nodes) b ev [] old new × LogsStand R ms new = hear w.nodes h.nodes old stand in
      ([], t.0, sym (append-nil out), given_hands c a b k p ev w [] old t.0 h packet given t.1, t.2)
