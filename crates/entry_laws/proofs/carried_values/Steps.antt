-- A whole step.
use Rattle.std.proofs.Common.{◌≡◌, ℕ, List, [], ◌++◌, Bool, true, false, refl, ◌∙◌, inr}
use Rattle.rsct_packet.specs.Search.{Has}
use Rattle.rsct_packet.proofs.HasLaws.{append_has_right}
use Rattle.node_state.specs.declared.packet.Packet.{Packet}
use Rattle.node_state.specs.declared.state.Core.{Core}
use Rattle.node_state.specs.State.{leads}
use Rattle.node_state.specs.HandOn.{Answering}
use Rattle.node_state.specs.Step.{NodeEvent, Ticks, Asks, Given, Calls, Garbage, at_work, stepped}
use Rattle.run_safety.specs.Past.{records_of}
use Rattle.step_refinement.specs.Tied.{Scene, Tied}
use Rattle.step_refinement.specs.Rules.{Arises}
use Rattle.step_walk.proofs.Walking.{called}
use Rattle.step_walk.proofs.Called.{at_call}
use Rattle.step_walk.proofs.Rings.{by_rings}
use Rattle.step_walk.proofs.Stepping.{GivenTo}
use Rattle.step_walk.proofs.Stepping as stepping
use Rattle.entry_laws.proofs.closing_rows.Steps.{entry_had_put}
use Rattle.entry_laws.specs.carried_values.Carried.{BodyTold}
use Rattle.entry_laws.proofs.carried_values.At.{Course, At, body_on}
use Rattle.step_walk.proofs.Leading.{Anything, anything_ends}
use Rattle.entry_laws.proofs.carried_values.Changes.{Loose, Known, beside, packets, calling, entering, ring}
use Rattle.row_laws.proofs.honest_votes.Changes.{Every, But}
use Rattle.row_laws.proofs.honest_votes.Steps.{entry_follows, request_leads}

-- the events before the step
abbrev pub course : Scene → Course
course w = record { before = w.before; counts = true }

module _ (w : Scene) (n : ℕ) (s : Core) (were : (p : Packet) → Has p w.sent → BodyTold (records_of w.before) p.body) (all : (h : List ℕ) → Tied h w n (at_work s)) where
  unled : (b : Bool) → (b ≡ true → ⊥) → b ≡ false
  unled true no_it = absurd (no_it refl)
  unled false no_it = refl

  known : (p : Packet) → Has p w.sent → Known (course w) (at_work s) p
  known p sent =
      record {
        told = body_on (records_of w.before) ((at_work s).records ++ records_of w.before) (λ r i. append_has_right r (at_work s).records (records_of w.before) i) p.body (were p sent);
        entry = λ v g place stable e is used at. (inr (entry_had_put v g place stable e w n (at_work s) p is sent (all g) used at), unled (leads (at_work s) g) (λ led. entry_follows v g place stable e w n (at_work s) p is sent (all g) used at led));
        request = λ v g q r phases x is to used. request_leads v g q r phases x w n (at_work s) p is (to ∙ (all []).own.0.stands.me) sent (all g) used;
      }

  given : (e : NodeEvent) → Arises w e → GivenTo (Known (course w)) (at_work s) e
  given Ticks arises = tt
  given (Asks mask) arises = tt
  given (Given p) arises = known p arises
  given (Calls c) arises = tt
  given Garbage arises = tt

  after_call : (e : NodeEvent) → At (course w) Every (at_work s) → At (course w) Every (called (at_work s) e)
  after_call (Calls c) a = at_call (At (course w) Every) (beside (course w) Every) (calling (course w)) (at_work s) c a
  after_call Ticks a = a
  after_call (Asks mask) a = a
  after_call (Given p) a = a
  after_call Garbage a = a

  pub at_stepped : (f : Answering) (e : NodeEvent) → Arises w e → At (course w) Every (at_work s) → At (course w) Every (stepped f s e)
  at_stepped f e arises a =
      stepping.at_stepped (At (course w) Every) (λ g. At (course w) (But g)) Anything ⊥ (Known (course w)) (λ s w. Unit {0}) (λ i xs. Loose (course w)) (packets (course w)) (by_rings (At (course w) Every) (Known (course w)) (beside (course w) Every) (packets (course w)).reach (ring (course w))) (entering (course w)) (anything_ends (At (course w) Every)) f s e (given e arises) (after_call e a)
