use Rattle.hags_io.specs.Deeds.{Exchanged}
use Rattle.hags_io.specs.declared.link.LinkCall.TheVariants as call
use Rattle.hags_io.proofs.history.History.failed.Given as goal

abbrev pub ghost-with : goal.ghost-with
ghost-with a = Exchanged call.Failed
