-- The calls of clients keep what is kept by each change.
use Rattle.node_state.specs.declared.call.CallLine.{CallLine}
use Rattle.node_state.specs.declared.packet.Packet.{Packet}
use Rattle.node_state.specs.declared.state.Core.{Core}
use Rattle.node_state.specs.State.{with_sessions}
use Rattle.node_state.specs.Calls.{take_call}
use Rattle.step_walk.proofs.Changes.{Any, KeepsRules, KeepsCalls}
use Rattle.step_walk.proofs.Leading.{beside_of}
use Rattle.step_walk.proofs.Called.{at_call}

pub on_call : (P : Core → Type 0) (Given : Packet → Type 0) → KeepsRules P Given → KeepsCalls P → {s : Core} (x : CallLine) → P s → P (take_call s x)
on_call P Given rules calls {s} x p =
    at_call P (beside_of P Any rules.keeps) (record { sessions = λ s t less q. calls.sessions s t q; refuses = calls.refuses; asks = calls.asks; votes = λ s t m q. calls.casts (with_sessions s t) m.ballot.provider m.ballot.proto m.ballot.phase m.filled.vote m.filled.value m.filled.message (calls.sessions s t q) }) s x p
