use Rattle.std.proofs.Common.{◌≡◌, None, take}
use Rattle.std.specs.Option.{option_map}
use Rattle.view_state.specs.Bases.{candidates}
use Rattle.view_bases.specs.Best.{best_after, winner_in}
use Rattle.view_bases.proofs.base.best_alone.Given as goal

abbrev pub invariant-loop-source : goal.invariant-loop-source
invariant-loop-source l = option_map winner_in l.best ≡ best_after None (candidates l.install l.group (take l.source-index l.source-items))
