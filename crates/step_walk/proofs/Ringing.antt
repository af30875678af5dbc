-- The rules of rings keep what is kept as a ring is set, and by what it sends and what is recorded of it.
use Rattle.node_state.specs.declared.packet.Packet.{Packet}
use Rattle.node_state.specs.declared.state.Core.{Core}
use Rattle.step_walk.proofs.Changes.{Any, KeepsRules, KeepsRings, KeepsRing}
use Rattle.step_walk.proofs.Leading.{beside_of}
use Rattle.step_walk.proofs.Rings.{by_rings}

pub by_ring : (P : Core → Type 0) (Given : Packet → Type 0) → KeepsRules P Given → KeepsRing P → KeepsRings P Given
by_ring P Given rules ring = let r = by_rings P (λ s. Given) (beside_of P Any rules.keeps) rules.reach ring in record { ticks = r.ticks; takes = r.takes }
