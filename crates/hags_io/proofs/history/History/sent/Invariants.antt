use Rattle.hags_io.specs.Deeds.{Exchanged}
use Rattle.hags_io.specs.declared.link.LinkCall.TheVariants as call
use Rattle.hags_io.proofs.history.History.sent.Given as goal

abbrev pub ghost-with : goal.ghost-with
ghost-with a = Exchanged (call.Sent a._told.now.0 a._told.now.1 a._told.now.2.now a._told.now.3)
