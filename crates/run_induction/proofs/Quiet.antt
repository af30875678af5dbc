-- Records that put nothing, as those of events in which no node takes a step.
use Rattle.node_state.specs.declared.happened.Happened.{Happened}
use Rattle.node_state.specs.declared.happened.Happened.TheVariants as happened
use Rattle.run_induction.proofs.Idle.{Idle}

abbrev pub PutsNone : Happened → Type 0
PutsNone (happened.Put n v g i e) = ⊥
PutsNone _ = Unit {0}

pub idle_puts_none : (r : Happened) → Idle r → PutsNone r
idle_puts_none (happened.Put n v g i e) a = a
idle_puts_none _ a = tt
