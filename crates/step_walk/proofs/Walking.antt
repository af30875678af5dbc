-- The rules of views, and a whole step, keep what is kept by each change.
use Rattle.std.proofs.Common.{[]}
use Rattle.node_state.specs.declared.packet.Packet.{Packet}
use Rattle.node_state.specs.declared.state.Core.{Core}
use Rattle.node_state.specs.HandOn.{Answering}
use Rattle.node_state.specs.declared.packet.Body.TheVariants as body
use Rattle.node_state.specs.Sending.{sent, network_to}
use Rattle.node_state.specs.Step as step
use Rattle.node_state.specs.Step.{NodeEvent, stepped, at_work}
use Rattle.step_walk.proofs.Changes.{Any, Whatever, KeepsRules, KeepsRings, KeepsViews, KeepsCalls}
use Rattle.step_walk.proofs.Evidence.{KeepsEntering}
use Rattle.step_walk.proofs.Leading.{Anything, Nothing, anything_ends, beside_of}
use Rattle.step_walk.proofs.Rules.{packets_of}
use Rattle.step_walk.proofs.Calling.{on_call}
use Rattle.step_walk.proofs.Entering.{ringing_of}
pub use Rattle.step_walk.proofs.Stepping.{called, before_end, stepped_is}
use Rattle.step_walk.proofs.Stepping.{GivenTo, at_before_end, at_stepped}

-- the packet of the event is such a one
abbrev pub GivenBy : (Packet → Type 0) → NodeEvent → Type 0
GivenBy Given (step.Given q) = Given q
GivenBy Given _ = Unit {0}

pub whatever : (e : NodeEvent) → GivenBy Whatever e
whatever step.Ticks = tt
whatever (step.Asks mask) = tt
whatever (step.Given q) = tt
whatever (step.Calls c) = tt
whatever step.Garbage = tt

given_to : (Given : Packet → Type 0) (s : Core) (e : NodeEvent) → GivenBy Given e → GivenTo (λ s. Given) s e
given_to Given s (step.Given q) given = given
given_to Given s _ given = tt

module _ (P : Core → Type 0) (Given : Packet → Type 0) (rules : KeepsRules P Given) (rings : KeepsRings P Given) (views : KeepsViews P) where
  entering_of : KeepsEntering P (λ s w. Nothing) (λ i xs. P) (λ s. Given)
  unfolding sent
  entering_of =
      record {
        views = λ s v arisen p. (views.views s v p, tt);
        sends = λ s w x i p works. (rules.keeps.sends s (network_to s x.to) x.to (body.View x.packet) tt p, tt);
        leaves = λ s w i xs e q p works. p;
        beside = λ i xs. beside_of P Any rules.keeps;
        fills = λ s i xs x e bs here there p. rules.keeps.hands s x.name e [] 0 bs tt p;
        enters = λ s i xs p. views.enters s i p;
        dissolves = views.dissolves;
      }

  -- what holds after the call of a step, or before any other step, holds before its end, and after it
  pub on_before_end : (f : Answering) (s : Core) (e : NodeEvent) → GivenBy Given e → P (called s e) → P (before_end f s e)
  on_before_end f s e given p = at_before_end P (λ g. P) Anything Nothing (λ s. Given) (λ s w. Nothing) (λ i xs. P) (packets_of P Given rules) (ringing_of P Given rules rings) entering_of f s e (given_to Given s e given) p

  pub on_stepped : (f : Answering) (s : Core) (e : NodeEvent) → GivenBy Given e → P (called (at_work s) e) → P (stepped f s e)
  on_stepped f s e given p = at_stepped P (λ g. P) Anything Nothing (λ s. Given) (λ s w. Nothing) (λ i xs. P) (packets_of P Given rules) (ringing_of P Given rules rings) entering_of (anything_ends P) f s e (given_to Given (at_work s) e given) p

  pub on_called : KeepsCalls P → {s : Core} (e : NodeEvent) → P s → P (called s e)
  on_called calls (step.Calls c) p = on_call P Given rules calls c p
  on_called calls step.Ticks p = p
  on_called calls (step.Asks mask) p = p
  on_called calls (step.Given q) p = p
  on_called calls step.Garbage p = p
