-- A scene that stands for a world.
use Rattle.std.specs.Prelude.{ℕ, ◌≡◌, ◌==◌, List, [], ◌∷◌, find, Option, Some, None}
use Rattle.rsct_packet.specs.Search.{Has}
use Rattle.node_state.specs.declared.config.Config.{Config}
use Rattle.node_state.specs.declared.packet.Packet.{Packet}
use Rattle.node_state.specs.declared.state.Core.{Core}
use Rattle.world_model.specs.World.{Node, Pair, Started, World, is_node, inc_in}
use Rattle.step_refinement.specs.Tied.{Scene}

abbrev pub core_in : Option Node → Option Core
core_in None = None
core_in (Some x) = Some x.core

-- the node of this number, as its last step left it
abbrev pub core_at : List Node → ℕ → Option Core
core_at nodes n = core_in (find (is_node n) nodes)

-- the incarnation in which it started last
abbrev pub inc_at : List Started → ℕ → ℕ
inc_at starts n = inc_in (find (λ (x : Started). x.node == n) starts)

-- each node stands under one number
abbrev pub Once : List Node → Type 0
Once [] = Unit {0}
Once (x ∷ xs) = (find (is_node x.core.views.me) xs ≡ None) × Once xs

-- the scene has each node as it is in the world, each incarnation, and all packets, also those between two nodes; and no others
pub record Mirrors (c : Config) (w : World) (s : Scene) : Type 0 where
  pub config : w.config ≡ c
  pub scene_config : s.config ≡ c
  pub cores : (n : ℕ) → s.cores n ≡ core_at w.nodes n
  pub incs : (n : ℕ) → s.incs n ≡ inc_at w.starts n
  pub once : Once w.nodes
  pub sent : (p : Packet) → Has p w.sent → Has p s.sent
  pub came : (p : Packet) → Has p s.sent → Has p w.sent
  pub paired : (x : Pair) → Has x w.pairs → (p : Packet) → Has p x.packets → Has p s.sent
