-- What is asked of the ring records of a run: that the rings of each network agree.
use Rattle.std.specs.Prelude.{ℕ, ◌≡◌, ◌≤◌, ◌==◌, List, [], ◌∷◌, length, flat_map, if◌then◌else◌}
use Rattle.adapter_ring.specs.declared.ring.RingSettings.{RingSettings}
use Rattle.adapter_ring.specs.Network.{Told}
use Rattle.adapter_ring.specs.Agreement.{AddressesDiffer, RingsAgree}
use Rattle.node_state.specs.declared.config.Config.{Config}
use Rattle.node_state.specs.declared.happened.Happened.{Happened}
use Rattle.node_state.specs.declared.happened.Happened.TheVariants as happened
use Rattle.node_state.specs.Settings.{addresses_on}
use Rattle.world_model.specs.declared.script.Script.{Script}
use Rattle.world_model.specs.Reading.{IsScript, script_of}
use Rattle.run_safety.specs.Past.{History, records_of}
use Rattle.step_refinement.specs.Tied.{Scene}
use Rattle.step_refinement.specs.Runs.{Reached}

-- the settings of the rings of a network
abbrev pub ring_settings : Config → ℕ → RingSettings
ring_settings c net = record { addr = addresses_on c net; every = c.every; misses = c.misses }

-- what a record says of the network: to which ring a node was set, and who is its neighbour there
abbrev pub told_on : ℕ → Happened → List Told
told_on net (happened.Ring n network id ms b) = if network == net then record { node = n; id = id; members = ms; neighbour = b } ∷ [] else []
told_on net _ = []

abbrev pub rings_told : ℕ → List Happened → List Told
rings_told net rs = flat_map (told_on net) rs

-- The ring records of a network agree: two of one id have the same members; the node of a record is one of them; the id's
-- leader is one of them and has their greatest address on the network; the neighbour is the next lower member, or of the
-- lowest the highest.
abbrev pub NetworkAgrees : Config → ℕ → History → Type 0
NetworkAgrees c net h = RingsAgree (ring_settings c net) (rings_told net (records_of h))

-- so do those of each network
abbrev pub RunRingsAgree : Config → History → Type 0
RunRingsAgree c h = (net : ℕ) → NetworkAgrees c net h

-- no address of the network stands twice, and none is of a node above 32
pub record AddressesFit (c : Config) (net : ℕ) : Type 0 where
  pub nodes : length (addresses_on c net) ≤ 32
  pub differ : AddressesDiffer (ring_settings c net)

-- whatever starts, stops and steps, the ring records of a network whose addresses differ agree
abbrev pub RingsAgreeInRuns : Type 0
RingsAgreeInRuns = (c : Config) (w : Scene) → Reached c w → (net : ℕ) → AddressesFit c net → NetworkAgrees c net w.before

-- the addresses of every script differ
abbrev pub ScriptAddressesFit : Type 0
ScriptAddressesFit = (bytes : List ℕ) (s : Script) → script_of bytes ≡ IsScript s → (net : ℕ) → AddressesFit s.config net
