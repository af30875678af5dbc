use Rattle.run_laws.proofs.ring_runs.Settings.{script_addresses_fit}
use Rattle.run_laws.proofs.ring_runs.script_addresses_fit.Goals as goal

pub returns : goal.returns
returns c = script_addresses_fit
