-- The addresses of settings that a daemon reads differ.
use Rattle.std.proofs.Common.{subst}
use Rattle.world_model.specs.Settings.{aim_of, daemon_script}
use Rattle.run_laws.specs.ring_runs.Rings.{AddressesFit}
use Rattle.run_laws.proofs.ring_runs.Settings.{addresses_fit}
use Rattle.network_safety.specs.Rings.{SettingsFit, RingsOfDaemonsAgree}

pub settings_fit : SettingsFit
unfolding daemon_script
settings_fit c s net = subst (λ z. AddressesFit z net) s.are (addresses_fit (aim_of s.node s.objects) s.bytes s.script s.read net)

pub rings_of_daemons_agree : RingsOfDaemonsAgree
rings_of_daemons_agree c settings acts s = record { agree = λ net. s.safe.rings net (settings_fit c settings net); seen = λ net. s.safe.rings_seen net (settings_fit c settings net) }
