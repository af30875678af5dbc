-- What is kept by each change keeps the end of a step.
use Rattle.node_state.specs.declared.state.Core.{Core}
use Rattle.node_state.specs.HandOn.{Answering}
use Rattle.node_state.specs.Ending.{end_step}
use Rattle.step_walk.proofs.Changes.{Any, Keeps}
use Rattle.step_walk.proofs.Leading.{Anything, Nothing, anything_ends, keeping_of}
use Rattle.step_walk.proofs.Ends.{at_ended}

pub on_ended : (P : Core → Type 0) → Keeps P Any → (f : Answering) {s : Core} → P s → P (end_step f s)
on_ended P k f p = at_ended P (λ g. P) Anything Nothing (keeping_of P k) (anything_ends P) f p
