use Rattle.std.proofs.Common.{◌≡◌, take}
use Rattle.std.specs.Option.{option_map}
use Rattle.view_bases.specs.Best.{best_after, winner_in, found_in}
use Rattle.view_bases.proofs.base.best_in.Given as goal

abbrev pub invariant-loop-part : goal.invariant-loop-part
invariant-loop-part l = option_map winner_in l.best ≡ best_after (option_map winner_in l.initial.best) (found_in l.install l.group l.source (take l.part-index l.part-items))
