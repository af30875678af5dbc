-- The settings of a daemon leave a port for each node.
use Rattle.std.proofs.Common.{ℕ, ◌≤◌, ◌+◌}
use Rattle.world_model.specs.declared.script.Script.{Script}
use Rattle.world_model.specs.Settings.{KeepsRules}

pub has_ports : (s : Script) (me objects : ℕ) → KeepsRules s me objects → s.config.port + 32 ≤ 65535
has_ports s me objects h = h.fits.ports
