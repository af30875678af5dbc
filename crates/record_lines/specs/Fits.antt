-- What lines there are: what a record can show.
use Rattle.std.specs.Prelude.{ℕ, Bool, true, false, not, ◌==◌, ◌&&◌, List, [], ◌∷◌, length, Option, Some, None, nat_le, nat_lt, codes}
use Rattle.std.specs.List.{list_any, list_all}
use Rattle.std.specs.Str.{bytes_eq}
use Rattle.rsct_packet.specs.declared.ids.Member.{Member}
use Rattle.rsct_packet.specs.declared.ids.ProviderId.{ProviderId}
use Rattle.rsct_packet.specs.Lists.{is_empty}
use Rattle.rsct_packet.specs.Mask.{is_node}
use Rattle.rsct_packet.specs.Providers.{same_provider, are_providers}
use Rattle.rsct_packet.specs.Text.{name_byte, is_name_of}
use Rattle.proposal_core.specs.declared.proposal.Cause.{Cause}
use Rattle.proposal_core.specs.declared.proposal.Cause.TheVariants as cause
use Rattle.proposal_core.specs.declared.proposal.Failure.{Failure}
use Rattle.proposal_core.specs.declared.proposal.Proposal.{Proposal}
use Rattle.proposal_core.specs.declared.proposal.Proposal.TheVariants as proposal
use Rattle.proposal_core.specs.declared.entry.Entry.{Entry}
use Rattle.proposal_core.specs.declared.entry.Entry.TheVariants as entry
use Rattle.client_callbacks.specs.declared.told.Why.{Why}
use Rattle.client_callbacks.specs.declared.told.Why.TheVariants as why
use Rattle.session_state.specs.declared.fault.GsFault.{GsFault}
use Rattle.session_state.specs.declared.fault.GsFault.TheVariants as fault
use Rattle.word_laws.specs.Ranges.{is_u32, is_u16, is_view, is_ring, is_proto, is_provider, is_member, is_value, is_entry, is_why, is_fault}
use Rattle.record_lines.specs.declared.line.BaseLine.{BaseLine}
use Rattle.record_lines.specs.declared.line.Line.{Line}
use Rattle.record_lines.specs.declared.line.Line.TheVariants as line
use Rattle.record_lines.specs.declared.line.Note.{Note}
use Rattle.record_lines.specs.declared.line.Note.TheVariants as note
use Rattle.record_lines.specs.declared.line.OpenPhase.{OpenPhase}
use Rattle.record_lines.specs.declared.line.Status.{Status}
use Rattle.record_lines.specs.declared.line.Status.TheVariants as status

-- at most 64 that differ
unfoldable pub are_named : List ProviderId → Bool
are_named ps = are_providers ps && list_all is_provider ps

-- a value has at most 65,535 bytes
unfoldable pub fits_text : List ℕ → Bool
fits_text bytes = nat_le (length bytes) 65535

unfoldable pub fits_value : List ℕ → Bool
fits_value bytes = fits_text bytes && is_value bytes

unfoldable pub fits_value_option : Option (List ℕ) → Bool
fits_value_option None = true
fits_value_option (Some bytes) = fits_value bytes

unfoldable pub ascend_from : ℕ → List ℕ → Bool
ascend_from n [] = true
ascend_from n (m ∷ ms) = nat_lt n m && ascend_from m ms

unfoldable pub are_nodes : List ℕ → Bool
are_nodes ns = ascend_from 0 ns && list_all is_node ns

unfoldable pub members_ascend : ℕ → List Member → Bool
members_ascend n [] = true
members_ascend n (m ∷ ms) = nat_lt n m.node && members_ascend m.node ms

unfoldable pub are_members : List Member → Bool
are_members ms = members_ascend 0 ms && list_all is_member ms

unfoldable pub same_cause : Cause → Cause → Bool
same_cause cause.Died cause.Died = true
same_cause cause.Gone cause.Gone = true
same_cause cause.Cast cause.Cast = true
same_cause _ _ = false

unfoldable pub failures_differ : List Failure → Bool
failures_differ [] = true
failures_differ (f ∷ fs) = not (list_any (λ (x : Failure). same_provider x.provider f.provider && same_cause x.cause f.cause) fs) && failures_differ fs

unfoldable pub some_differ : List ProviderId → Bool
some_differ ps = not (is_empty ps) && are_providers ps

-- beside the ranges of its parts
unfoldable pub proposal_holds : Proposal → Bool
proposal_holds (proposal.Join ps a n) = some_differ ps
proposal_holds (proposal.Leave p r) = true
proposal_holds (proposal.Fail out) = not (is_empty out) && (nat_le (length out) 64 && failures_differ out)
proposal_holds (proposal.Expel p r out) = some_differ out
proposal_holds (proposal.State p r value) = fits_text value
proposal_holds (proposal.Message p r bytes) = fits_text bytes
proposal_holds (proposal.Attributes p r a) = true
proposal_holds (proposal.Reflect v i value) = fits_text value

unfoldable pub text_option_holds : Option (List ℕ) → Bool
text_option_holds None = true
text_option_holds (Some bytes) = fits_text bytes

unfoldable pub entry_holds : Entry → Bool
entry_holds (entry.Once x) = proposal_holds x
entry_holds (entry.Begin x) = proposal_holds x
entry_holds (entry.Phase c) = text_option_holds c.value
entry_holds (entry.Approve c) = text_option_holds c.value
entry_holds (entry.Reject c) = true
entry_holds (entry.Late proto phase ps) = some_differ ps

-- what the type of an entry asks for
unfoldable pub proposal_typed : Proposal → Bool
proposal_typed (proposal.Join ps a n) = are_providers ps
proposal_typed (proposal.Expel p r out) = are_providers out
proposal_typed (proposal.State p r value) = fits_text value
proposal_typed (proposal.Message p r bytes) = fits_text bytes
proposal_typed (proposal.Reflect v i value) = fits_text value
proposal_typed _ = true

unfoldable pub entry_typed : Entry → Bool
entry_typed (entry.Once x) = proposal_typed x
entry_typed (entry.Begin x) = proposal_typed x
entry_typed (entry.Phase c) = text_option_holds c.value
entry_typed (entry.Approve c) = text_option_holds c.value
entry_typed (entry.Reject c) = true
entry_typed (entry.Late proto phase ps) = are_providers ps

unfoldable pub fits_entry : Entry → Bool
fits_entry e = is_entry e && entry_holds e

unfoldable pub fits_open : Option OpenPhase → Bool
fits_open None = true
fits_open (Some o) = is_proto o.proto && is_u16 o.phase

unfoldable pub fits_base : BaseLine → Bool
fits_base b = is_view b.old && (is_u32 b.len && (are_named b.members && (fits_value b.value && (are_named b.failed && fits_open b.running))))

-- 64 groups are kept
unfoldable pub why_holds : Why → Bool
why_holds (why.GroupsFull n) = n == 64
why_holds _ = true

unfoldable pub fits_why : Why → Bool
fits_why w = is_why w && why_holds w

-- 64 sessions are kept, and where memory runs out a daemon ends
unfoldable pub fault_holds : GsFault → Bool
fault_holds (fault.SessionsFull n) = n == 64
fault_holds fault.NoMemory = false
fault_holds _ = true

unfoldable pub fits_fault : GsFault → Bool
fits_fault f = is_fault f && fault_holds f

unfoldable pub is_client : List ℕ → Bool
is_client w = nat_le 1 (length w) && (nat_le (length w) 16 && list_all name_byte w)

unfoldable pub fits_place : Option ℕ → Bool
fits_place None = true
fits_place (Some i) = is_u32 i

-- no group has the name that stands for the hosts
unfoldable pub fits_note : Note → Bool
fits_note (note.Group group members value) = not (bytes_eq group (codes "HostMembership")) && (is_name_of group && (are_named members && fits_value value))
fits_note (note.Hosts members) = are_members members

unfoldable pub is_network : ℕ → Bool
is_network n = nat_le 1 n && nat_le n 4

unfoldable pub fits_leader : Option ℕ → Bool
fits_leader None = true
fits_leader (Some n) = is_node n

unfoldable pub fits_waiting : Option (List ProviderId) → Bool
fits_waiting None = true
fits_waiting (Some ps) = are_named ps

unfoldable pub fits_status : Status → Bool
fits_status (status.Ring network ring members neighbour) = is_network network && (is_ring ring && (are_nodes members && is_node neighbour))
fits_status (status.View view members frozen) = is_view view && are_members members
fits_status (status.Group group leader len members value) = is_name_of group && (fits_leader leader && (is_u32 len && (are_named members && fits_value value)))
fits_status (status.Vote group proto phase k waiting) = is_name_of group && (is_proto proto && (is_u16 phase && fits_waiting waiting))

unfoldable pub line_fits : Line → Bool
line_fits (line.Up n j) = is_node n && is_u32 j
line_fits (line.Down n) = is_node n
line_fits (line.Ring n net ring ms m) = is_node n && (is_network net && (is_ring ring && (are_nodes ms && is_node m)))
line_fits (line.In n v ms) = is_node n && (is_view v && are_members ms)
line_fits (line.Base n v g b) = is_node n && (is_view v && (is_name_of g && fits_base b))
line_fits (line.Put n v g i e) = is_node n && (is_view v && (is_name_of g && (is_u32 i && fits_entry e)))
line_fits (line.Heard p v g i w ms value) = is_provider p && (is_view v && (is_name_of g && (is_u32 i && (are_named ms && fits_value value))))
line_fits (line.Cast p proto phase v value) = is_provider p && (is_proto proto && (is_u16 phase && fits_value_option value))
line_fits (line.Asked p r g k) = is_provider p && (is_u32 r && is_name_of g)
line_fits (line.Told p r w) = is_provider p && (is_u32 r && fits_why w)
line_fits (line.Noted n c v place m) = is_node n && (is_client c && (is_view v && (fits_place place && fits_note m)))
line_fits (line.Refused n c f) = is_node n && (is_client c && fits_fault f)
line_fits (line.Show n s) = is_node n && fits_status s

-- opens each word of this file, for a computation
unfoldable pub fits_opens : Unit {0}
unfolding are_named fits_text fits_value fits_value_option ascend_from are_nodes members_ascend are_members same_cause failures_differ some_differ proposal_holds text_option_holds entry_holds proposal_typed entry_typed fits_entry fits_open fits_base why_holds fits_why fault_holds fits_fault is_client fits_place fits_note is_network fits_leader fits_waiting fits_status line_fits
fits_opens = tt
