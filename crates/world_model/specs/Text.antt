-- The line of each record.
use Rattle.std.specs.Prelude.{ℕ, ◌++◌, List, [], Option, Some, None, codes, decimal}
use Rattle.rsct_packet.specs.declared.ids.ProviderId.{ProviderId}
use Rattle.rsct_packet.specs.declared.ids.ViewId.{ViewId}
use Rattle.rsct_packet.specs.Mask.{nodes_of}
use Rattle.client_callbacks.specs.declared.told.Told.{Told}
use Rattle.client_callbacks.specs.declared.told.Told.TheVariants as told
use Rattle.node_state.specs.declared.happened.Happened.{Happened}
use Rattle.node_state.specs.declared.happened.Happened.TheVariants as happened
use Rattle.value_words.specs.Wording.{word, view_text, provider_text, ring_text, nodes_text, members_text, providers_text, value_text, wording_opens}
use Rattle.entry_words.specs.Wording.{vote_text, phase_text, entry_text, what_text, running_text, why_text, fault_text, kind_text, entry_wording_opens}

unfoldable pub place_option_text : Option ℕ → List ℕ
place_option_text None = codes "-"
place_option_text (Some i) = decimal i

unfoldable pub cast_value_text : Option (List ℕ) → List ℕ
cast_value_text None = []
cast_value_text (Some bytes) = value_text bytes

-- the view, the group and the place, each with the space behind it
unfoldable pub place_text : ViewId → List ℕ → ℕ → List ℕ
place_text v g i = word (view_text v) ++ word g ++ word (decimal i)

-- members and value
unfoldable pub state_text : List ProviderId → List ℕ → List ℕ
state_text members value = word (providers_text members) ++ value_text value

-- a note from its group on; no refusal is noted
unfoldable pub note_text : Option ℕ → Told → List ℕ
note_text place (told.Note group members value) = word group ++ word (place_option_text place) ++ state_text members value
note_text place (told.Hosts view nodes) = codes "HostMembership " ++ word (place_option_text place) ++ word (members_text nodes) ++ codes "="
note_text place (told.Refused p r why) = []

-- the node and the client's name
unfoldable pub client_text : ℕ → List ℕ → List ℕ
client_text node client = decimal node ++ codes "." ++ word client

unfoldable pub record_text : Happened → List ℕ
record_text (happened.Up node inc) = codes "up " ++ word (decimal node) ++ decimal inc
record_text (happened.Down node) = codes "down " ++ decimal node
record_text (happened.Ring node network ring members neighbour) =
    codes "ring " ++ word (decimal node) ++ word (decimal network) ++ word (ring_text ring) ++ word (nodes_text (nodes_of members)) ++ decimal neighbour
record_text (happened.In node view members) = codes "in " ++ word (decimal node) ++ word (view_text view) ++ members_text members
record_text (happened.Base node view group old len state) =
    codes "base " ++ word (decimal node) ++ word (view_text view) ++ word group ++ word (view_text old) ++ word (decimal len) ++ word (state_text state.members state.value)
    ++ word (providers_text state.failed) ++ running_text state.running
record_text (happened.Put node view group place e) = codes "put " ++ word (decimal node) ++ place_text view group place ++ entry_text e
record_text (happened.Heard p view group place e members value) =
    codes "heard " ++ word (provider_text p) ++ place_text view group place ++ word (what_text e) ++ state_text members value
record_text (happened.Cast p proto phase v value message) =
    codes "cast " ++ word (provider_text p) ++ phase_text proto phase ++ vote_text v ++ cast_value_text value
record_text (happened.Asked p r group proposal) = codes "asked " ++ word (provider_text p) ++ word (decimal r) ++ word group ++ kind_text proposal
record_text (happened.Told p r why) = codes "told " ++ word (provider_text p) ++ word (decimal r) ++ why_text why
record_text (happened.Noted node client view place t) = codes "noted " ++ client_text node client ++ word (view_text view) ++ note_text place t
record_text (happened.Refused node client fault) = codes "refused " ++ client_text node client ++ fault_text fault
record_text (happened.Shown node line) = codes "show " ++ word (decimal node) ++ line

unfoldable pub line_of : Happened → List ℕ
line_of r = record_text r ++ codes "\n"

-- opens each word of this file, for a computation
unfoldable pub text_opens : Unit {0}
unfolding wording_opens entry_wording_opens place_option_text cast_value_text place_text state_text note_text client_text record_text line_of
text_opens = tt
