-- The text of the logs of daemons.
use Rattle.std.specs.Prelude.{ℕ, List}
use Rattle.node_state.specs.declared.config.Config.{Config}
use Rattle.run_laws.specs.ring_runs.Rings.{AddressesFit}
use Rattle.audit_laws.specs.Law.{IsSeenText}
use Rattle.network_model.specs.Network.{Act, no_net}
use Rattle.network_model.specs.Fits.{IsSpelledSend, NetworkRun}
use Rattle.network_safety.specs.Logs.{logged}

-- of every run of a network whose addresses differ on each of its rings' networks, where each record of the logs has a line that fits
abbrev pub DaemonTextsAreSeen : Type 0
DaemonTextsAreSeen =
    (c : Config) (acts : List Act) → NetworkRun IsSpelledSend c acts → ((net : ℕ) → AddressesFit c net) → IsSeenText (logged c no_net acts)
