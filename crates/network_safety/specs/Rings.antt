-- The rings of daemons that read their settings: the addresses of these differ, so the rings of each network agree.
use Rattle.std.specs.Prelude.{ℕ, ◌≡◌, List, Option}
use Rattle.node_state.specs.declared.config.Config.{Config}
use Rattle.world_model.specs.declared.script.Script.{Script}
use Rattle.world_model.specs.Reading.{IsScript}
use Rattle.world_model.specs.Settings.{daemon_script}
use Rattle.run_safety.specs.Past as past
use Rattle.run_laws.specs.ring_runs.Rings.{AddressesFit, NetworkAgrees}
use Rattle.run_laws.specs.seen_runs.Rings.{RingsSeen}
use Rattle.world_safety.specs.Scripts.{history_in}
use Rattle.network_model.specs.Network.{Act}
use Rattle.network_safety.specs.Safe.{IsSafeNetwork}

-- some daemon read these settings
pub record AreSettings (c : Config) : Type 0 where
  pub node : ℕ
  pub objects : Option ℕ
  pub bytes : List ℕ
  pub script : Script
  pub read : daemon_script node objects bytes ≡ IsScript script
  pub are : script.config ≡ c

abbrev pub SettingsFit : Type 0
SettingsFit = (c : Config) → AreSettings c → (net : ℕ) → AddressesFit c net

-- so of each network the ring records of a safe network of daemons agree, and show what they can of it
pub record HasSafeRings (c : Config) (acts : List Act) (s : IsSafeNetwork c acts) : Type 0 where
  pub agree : (net : ℕ) → NetworkAgrees c net (history_in c s.events)
  pub seen : (net : ℕ) → RingsSeen net (past.records_of (history_in c s.events))

abbrev pub RingsOfDaemonsAgree : Type 0
RingsOfDaemonsAgree = (c : Config) → AreSettings c → (acts : List Act) (s : IsSafeNetwork c acts) → HasSafeRings c acts s
