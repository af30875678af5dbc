-- Before the first event no client is there.
use Rattle.std.proofs.Common.{◌≡◌, ℕ, ◌+◌, ◌==◌, Bool, true, false, cond, List, [], ◌∷◌, ◌++◌, map, ◌⊎◌, inl, inr, Option, Some, None, refl, sym, ap, ◌∙◌, subst}
use Rattle.std.specs.Prelude.{fold}
use Rattle.rsct_packet.specs.Ids.{last_u32}
use Rattle.rsct_packet.specs.Mask.{nodes_of}
use Rattle.rsct_packet.specs.Search.{insert_before}
use Rattle.client_callbacks.specs.Handed.{Handed}
use Rattle.node_state.specs.declared.config.Config.{Config}
use Rattle.node_state.specs.declared.config.Mode.TheVariants.{Fixed, Asked, Rings}
use Rattle.node_state.specs.declared.happened.Happened.{Happened}
use Rattle.node_state.specs.Step.{started}
use Rattle.node_state.specs.Handed.{handed_in}
use Rattle.world_model.specs.declared.event.Event.TheVariants as event
use Rattle.world_model.specs.World.{node_at, traced, started_at, starts_if, node_starts, empty_world, world_of, world_new}
use Rattle.world_model.specs.World as world
use Rattle.world_laws.specs.world_answers.Answers.{Items}
use Rattle.net_script.specs.declared.world.World.{World}
use Rattle.net_script.specs.Standing.{Stands, Goes, kept_empty}
use Rattle.run_hands.specs.Hands.{ClientLogs, Logs, LogsStand, logs_begun, logs_started, last_start, empty_logs}
use Rattle.net_script.specs.Hearing.{Hears}
use Rattle.net_script.proofs.NodeLaws.{node_before}
use Rattle.net_script.proofs.BeginLaws.{empty_stands}
use Rattle.net_script.proofs.HearLaws.{started_me}

abbrev no_logs : world.Node → ClientLogs
no_logs x = record { node = x.core.views.me; logs = [] }

-- ---- the logs of a node that starts

inserted_head : (t : Bool) (n : ℕ) (x y : world.Node) (ys zs : List world.Node) (ls : Logs) → n ≡ x.core.views.me → ls ≡ map no_logs zs → cond t (record { node = n; logs = [] } ∷ no_logs y ∷ map no_logs ys) (no_logs y ∷ ls) ≡ map no_logs (cond t (x ∷ y ∷ ys) (y ∷ zs))
inserted_head true n x y ys zs ls me ih = ap (λ k. record { node = k; logs = [] } ∷ no_logs y ∷ map no_logs ys) me
inserted_head false n x y ys zs ls me ih = ap (λ zs. no_logs y ∷ zs) ih

empty_inserted : (n : ℕ) (x : world.Node) (ys : List world.Node) → n ≡ x.core.views.me → logs_begun n (map no_logs ys) ≡ map no_logs (insert_before (node_before n) x ys)
empty_inserted n x [] me = ap (λ k. record { node = k; logs = [] } ∷ []) me
empty_inserted n x (y ∷ ys) me = inserted_head (node_before n y) n x y ys (insert_before (node_before n) x ys) (logs_begun n (map no_logs ys)) me (empty_inserted n x ys me)

empty_if : (w : world.World) (n last : ℕ) (t : Bool) → elim t [ true ↦ empty_logs w | false ↦ logs_begun n (empty_logs w) ] ≡ empty_logs (elim t [ true ↦ w | false ↦ started_at w n (last + 1) ])
unfolding started_at traced
empty_if w n last true = refl
empty_if w n last false = empty_inserted n (record { core = started w.config n (last + 1); scripts = [] }) w.nodes (started_me w.config n (last + 1))

empty_at : (w : world.World) (n last : ℕ) (o : Option world.Node) → logs_started o n last (empty_logs w) ≡ empty_logs (starts_if w n last o)
unfolding starts_if
empty_at w n last None = empty_if w n last (last == last_u32)
empty_at w n last (Some x) = refl

empty_started : (w : world.World) (n : ℕ) → logs_started (node_at w n) n (last_start w n) (empty_logs w) ≡ empty_logs (node_starts w n)
unfolding node_starts
empty_started w n = empty_at w n (last_start w n) (node_at w n)

-- what started of the nodes has no client
abbrev pub StartsEmpty : {C : Type 0} → (C → List Handed → Type 0) → (C → Option Items) → (Items → Option Items) → World C → World C → List ℕ → List ℕ → Type 0
StartsEmpty R script said c d ns left =
    (w : world.World) → Stands script said c w → LogsStand R c.nodes (empty_logs w) → (v : world.World) × Stands script said d v × LogsStand R d.nodes (empty_logs v) × (fold node_starts v left ≡ fold node_starts w ns)

module _ {C : Type 0} (R : C → List Handed → Type 0) (script : C → Option Items) (said : Items → Option Items) where
  pub empty_first : (c : World C) (ns : List ℕ) → StartsEmpty R script said c c ns ns
  empty_first c ns w h e = (w, h, e, refl)

  pub empty_next : (b c d : World C) (y z : List Happened) (ns left rest : List ℕ) (n : ℕ) → StartsEmpty R script said b c ns left → left ≡ n ∷ rest → ((w : world.World) → Stands script said c w → Goes script said c d y z w (node_starts w n)) → Hears R script said c d y z (event.Start n)
      → StartsEmpty R script said b d ns rest
  empty_next b c d y z ns left rest n before front next hears w h e =
      let f : (v : world.World) × Stands script said c v × LogsStand R c.nodes (empty_logs v) × (fold node_starts v left ≡ fold node_starts w ns) = before w h e in
      let t : (rs : List Happened) × (new : Logs) × (z ≡ y ++ rs) × ((handed_in rs ≡ []) × (new ≡ logs_started (node_at f.0 n) n (last_start f.0 n) (empty_logs f.0))) × LogsStand R d.nodes new = hears f.0 f.1 (empty_logs f.0) f.2 in
      (node_starts f.0 n, (next f.0 f.1).stands, subst (LogsStand R d.nodes) (t.3.1 ∙ empty_started f.0 n) t.4, ap (fold node_starts f.0) (sym front) ∙ f.3)

  pub empty_done : (b c : World C) (ns left : List ℕ) → StartsEmpty R script said b c ns left → left ≡ [] → (w : world.World) → Stands script said b w → LogsStand R b.nodes (empty_logs w) → LogsStand R c.nodes (empty_logs (fold node_starts w ns))
  empty_done b c ns left before none w h e =
      let f : (v : world.World) × Stands script said c v × LogsStand R c.nodes (empty_logs v) × (fold node_starts v left ≡ fold node_starts w ns) = before w h e in
      subst (λ v. LogsStand R c.nodes (empty_logs v)) (ap (fold node_starts f.0) (sym none) ∙ f.3) f.2

  pub empty_fixed : (config : Config) (limit : ℕ) (d : World C) → config.mode ≡ Fixed
      → ((w : world.World) → Stands script said (kept_empty config limit) w → LogsStand R [] (empty_logs w) → LogsStand R d.nodes (empty_logs (fold node_starts w (nodes_of config.nodes)))) → LogsStand R d.nodes (empty_logs (world_new config))
  unfolding world_new world_of
  empty_fixed config limit d mode starts = subst (λ m. LogsStand R d.nodes (empty_logs (world_of config m))) (sym mode) (starts (empty_world config) (empty_stands config limit) tt)

pub empty_down : {C : Type 0} (R : C → List Handed → Type 0) (config : Config) → (config.mode ≡ Asked) ⊎ (config.mode ≡ Rings) → LogsStand R [] (empty_logs (world_new config))
unfolding world_new world_of
empty_down R config (inl e) = subst (λ m. LogsStand R [] (empty_logs (world_of config m))) (sym e) tt
empty_down R config (inr e) = subst (λ m. LogsStand R [] (empty_logs (world_of config m))) (sym e) tt
