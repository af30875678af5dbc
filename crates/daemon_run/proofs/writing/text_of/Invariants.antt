use Rattle.std.proofs.Common.{◌≡◌, take}
use Rattle.daemon_model.specs.Daemon.{records_text}
use Rattle.daemon_run.proofs.writing.text_of.Given as goal

abbrev pub invariant-loop-happened : goal.invariant-loop-happened
invariant-loop-happened l = l.text.items ≡ records_text (take l.happened-index l.records)
