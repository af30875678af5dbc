-- A whole step: what the node puts begins as is meant, or was put before.
use Rattle.std.proofs.Common.{◌≡◌, ℕ, List, [], Some, refl, sym, subst}
use Rattle.rsct_packet.specs.Search.{Has}
use Rattle.session_state.specs.declared.state.Request.{Request}
use Rattle.node_state.specs.declared.packet.Packet.{Packet}
use Rattle.node_state.specs.declared.state.Core.{Core}
use Rattle.node_state.specs.HandOn.{Answering}
use Rattle.node_state.specs.Step.{NodeEvent, Ticks, Asks, Given, Calls, Garbage, at_work, stepped}
use Rattle.world_model.specs.declared.event.Event.{Event}
use Rattle.step_refinement.specs.Tied.{Scene, Rests, Begun, Tied}
use Rattle.step_refinement.specs.Rules.{Arises, acted}
use Rattle.step_refinement.proofs.Begins.{begin_tied}
use Rattle.step_refinement.proofs.Steps.{acted_tied, stepped_is, begun_at_work}
use Rattle.step_walk.proofs.Walking.{called, before_end}
use Rattle.step_walk.proofs.Called.{at_call}
use Rattle.step_walk.proofs.Ends.{at_ended}
use Rattle.step_walk.proofs.Leading.{Nothing}
use Rattle.step_walk.proofs.Rings.{by_rings}
use Rattle.step_walk.proofs.Stepping.{at_before_end}
use Rattle.entry_laws.proofs.source_order.Tied.{states_tied}
use Rattle.begin_laws.proofs.At.{Course, At}
use Rattle.begin_laws.proofs.Changes as changes
use Rattle.begin_laws.proofs.Changes.{Known, loose, beside, packets, calling, entering, ring, keeping}
use Rattle.begin_laws.proofs.Ends.{ending}
use Rattle.begin_laws.proofs.Known.{IsAsked, course, given}
use Rattle.begin_laws.proofs.Requests.{asked_by}

-- up to its end a step is what the rule of its event makes
before_is : (f : Answering) (s : Core) (e : NodeEvent) → before_end f s e ≡ acted f s e
before_is f s Ticks = refl
before_is f s (Asks mask) = refl
before_is f s (Given q) = refl
before_is f s (Calls c) = refl
before_is f s Garbage = refl

module _ (w : Scene) (n : ℕ) (f : Answering) (s : Core) (e : NodeEvent) (v : Event) (up : w.cores n ≡ Some s) (rests : (g : List ℕ) → Rests g w) (arises : Arises w e) (were : (p : Packet) → Has p w.sent → (q : Request) → asked_by p.body ≡ Some q → IsAsked w.before q) where
  pub began : (g : List ℕ) → Tied g w n (at_work s)
  began g = begin_tied g w n s up (rests g)

  abbrev h : Course
  h = course (Some v) w n s were began

  abbrev c : Core
  c = acted f (at_work s) e

  tied : (g : List ℕ) → Tied g w n c
  tied g =
      let first : (k : List ℕ) → Begun k (at_work s) = λ k. begun_at_work k s ((rests k).begun n s up) in
      acted_tied w n f (at_work s) refl first began e arises g

  start : At h ⊥ (at_work s)
  start = record { facts = λ z. tt; order = λ z. absurd z; states = λ z. absurd z }

  after_call : (e : NodeEvent) → At h ⊥ (called (at_work s) e)
  after_call (Calls d) = at_call (At h ⊥) (beside h ⊥) (calling h ⊥) (at_work s) d start
  after_call Ticks = start
  after_call (Asks mask) = start
  after_call (Given q) = start
  after_call Garbage = start

  acts : At h ⊥ (before_end f (at_work s) e)
  acts =
      at_before_end (At h ⊥) (λ g. At h ⊥) (changes.Begun h) Nothing (Known h) (λ s w. Unit {0}) (λ i xs. At (loose h) ⊥) (packets h ⊥) (by_rings (At h ⊥) (Known h) (beside h ⊥) (packets h ⊥).reach (ring h ⊥)) (entering h) f (at_work s) e (given (Some v) w n s were began e arises) (after_call e)

  -- then the records say what states the lists have
  acted_so : At h (Unit {0}) c
  acted_so =
      let a : At h ⊥ c = subst (At h ⊥) (before_is f (at_work s) e) acts in
      record { facts = a.facts; order = λ z. (tied []).own.0.order; states = λ z g. states_tied g w n c (tied g) }

  pub at_stepped : At h (Unit {0}) (stepped f s e)
  at_stepped = subst (At h (Unit {0})) (sym (stepped_is f s e)) (at_ended (At h (Unit {0})) (λ g. At h (Unit {0})) (changes.Begun h) Nothing (keeping h (Unit {0})) (ending h) f acted_so)
