use Rattle.std.proofs.Common.{◌≡◌, take}
use Rattle.load_script.specs.Counting.{counted}
use Rattle.load_script.proofs.counts.Counts.count.Given as goal

abbrev pub invariant-loop-happened : goal.invariant-loop-happened
invariant-loop-happened l = l.self ≡ counted l.initial.self (take l.happened-index l.records)
