-- How long a list gets: whatever a leader puts into one has room there.
use Rattle.std.specs.Prelude.{◌≡◌, ℕ, ◌≤◌, Bool, true, false, IsTrue, List, [], ◌∷◌, Option, Some, None}
use Rattle.proposal_core.specs.declared.entry.Entry.{Entry}
use Rattle.proposal_core.specs.declared.entry.Entry.TheVariants.{Once, Begin, Late}
use Rattle.proposal_core.specs.declared.group_state.GroupState.{GroupState}
use Rattle.proposal_core.specs.declared.group_state.Running.{Running}
use Rattle.proposal_core.specs.EntryCodec.{IsEntry}
use Rattle.proposal_core.specs.Fold.{fits, max_phases}
use Rattle.proposal_core.specs.GroupView.{GroupView, new_list}
use Rattle.proposal_core.specs.ListLaw.{ListCall, Put, Forget, all_called, AllTaken}
use Rattle.proposal_core.specs.Lists.{is_at_limit, has_room, with_entry, forgotten}

-- what runs is in a phase from 1 to 200
abbrev pub IsInPhase : Option Running → Type 0
IsInPhase None = Unit {0}
IsInPhase (Some run) = (1 ≤ run.phase) × (run.phase ≤ max_phases)

-- what begins, begins where the list is below its limits; and of a phase it is said once who is late in it
abbrev pub MayCome : GroupView → Bool → Entry → Type 0
MayCome g said (Once x) = is_at_limit g ≡ false
MayCome g said (Begin x) = is_at_limit g ≡ false
MayCome g said (Late proto phase ps) = said ≡ false
MayCome g said _ = Unit {0}

-- what a leader puts at the end of a list: an entry that fits the state and has a spelling
pub record IsLed (g : GroupView) (said : Bool) (e : Entry) : Type 0 where
  pub fitting : IsTrue (fits g.state e)
  pub spelled : IsEntry e
  pub may : MayCome g said e

-- whether it is said then who is late in the phase that runs
abbrev pub said_after : Entry → Bool
said_after (Late proto phase ps) = true
said_after _ = false

-- so is each entry that these calls put
abbrev pub AllLed : GroupView → Bool → List ListCall → Type 0
AllLed g said [] = Unit {0}
AllLed g said (Put v e ∷ cs) = IsLed g said e × AllLed (with_entry g v e) (said_after e) cs
AllLed g said (Forget place ∷ cs) = (place ≤ g.len) × AllLed (forgotten g place) said cs

-- A list below 4,096 places and 262,144 bytes takes one protocol more: what begins it, and in each of 200 phases who is late and
-- what closes it. No entry has more than 134,153 bytes.
abbrev pub longest_entry : ℕ
longest_entry = 134153

abbrev pub most_places : ℕ
most_places = 4496

abbrev pub most_bytes : ℕ
most_bytes = 54057496

-- places and bytes are far from 32 bits, so there is room for whatever may come
pub record IsShort (g : GroupView) : Type 0 where
  pub places : g.len ≤ most_places
  pub bytes : g.bytes ≤ most_bytes
  pub room : (e : Entry) → IsEntry e → has_room g e ≡ true

-- A list that a leader made, from whatever base, is short; and it takes each of these entries, whether or not it has room is tested.
abbrev pub ListsHaveRoom : Type 0
ListsHaveRoom = (base : GroupState) → IsInPhase base.running → (cs : List ListCall) → AllLed (new_list base) false cs → AllTaken (new_list base) cs × IsShort (all_called (new_list base) cs)
