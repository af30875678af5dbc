-- Of every scene that events lead to.
use Rattle.std.specs.Prelude.{ℕ}
use Rattle.node_state.specs.declared.config.Config.{Config}
use Rattle.run_safety.specs.Past.{records_of}
use Rattle.run_safety.specs.SafeHeard.{FoldHeard}
use Rattle.step_refinement.specs.Tied.{Scene}
use Rattle.step_refinement.specs.Runs.{Reached}
use Rattle.run_laws.specs.ring_runs.Rings.{AddressesFit}
use Rattle.run_laws.specs.seen_runs.Seen.{Seen}
use Rattle.run_laws.specs.seen_runs.Rings.{RingsSeen, SeenWithRings}

-- what is recorded shows it
abbrev pub EveryTraceIsSeen : Type 0
EveryTraceIsSeen = (c : Config) (w : Scene) → Reached c w → Seen (records_of w.before)

-- what is heard carries the members and the value that the records make of the list of its node up to its place
abbrev pub EveryHeardIsFold : Type 0
EveryHeardIsFold = (c : Config) (w : Scene) → Reached c w → FoldHeard w.before

-- the ring records of each network whose addresses differ show that its rings agree
abbrev pub EveryRingIsSeen : Type 0
EveryRingIsSeen = (c : Config) (w : Scene) → Reached c w → (net : ℕ) → AddressesFit c net → RingsSeen net (records_of w.before)

-- where the addresses of every network differ, what is recorded shows all of it
abbrev pub EveryTraceIsSeenWithRings : Type 0
EveryTraceIsSeenWithRings = (c : Config) (w : Scene) → Reached c w → ((net : ℕ) → AddressesFit c net) → SeenWithRings (records_of w.before)
