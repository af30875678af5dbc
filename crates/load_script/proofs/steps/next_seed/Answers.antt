use Rattle.std.proofs.Common.{◌*◌}
use Rattle.std.proofs.Math.Nat.{mod-add-mod}
use Rattle.world_model.specs.Load.{next_seed}
use Rattle.load_script.proofs.steps.next_seed.Goals as goal

pub returns : goal.returns
unfolding next_seed
returns c = mod-add-mod (c.args.seed * 6364136223846793005) 18446744073709551616 1442695040888963407
