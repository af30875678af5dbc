use Rattle.std.proofs.Common.{◌≡◌, ◌++◌, take}
use Rattle.transcript.specs.Kinds.{kinds_text}
use Rattle.net_script.proofs.records.put_records.Given as goal

abbrev pub invariant-loop-happened : goal.invariant-loop-happened
invariant-loop-happened l = l.text.items ≡ l.initial.text.items ++ kinds_text l.kinds (take l.happened-index l.records)
