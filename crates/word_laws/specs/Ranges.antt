-- Which values a line can say: numbers in the ranges of their types, nodes from 1 to 32, names of 1 to 32 bytes. A line shows no
-- message, no value of what is rejected, and of a bad limit not how great it was.
use Rattle.std.specs.Prelude.{ℕ, Bool, true, false, ◌==◌, ◌&&◌, List, Option, Some, None, nat_le, nat_lt}
use Rattle.std.specs.List.{list_all}
use Rattle.rsct_packet.specs.declared.ids.Member.{Member}
use Rattle.rsct_packet.specs.declared.ids.ProtoId.{ProtoId}
use Rattle.rsct_packet.specs.declared.ids.ProviderId.{ProviderId}
use Rattle.rsct_packet.specs.declared.ids.RingId.{RingId}
use Rattle.rsct_packet.specs.declared.ids.ViewId.{ViewId}
use Rattle.rsct_packet.specs.Ids.{last_u32}
use Rattle.rsct_packet.specs.Mask.{is_node}
use Rattle.rsct_packet.specs.Text.{is_name_of}
use Rattle.group_attr.specs.declared.attrs.Attrs.{Attrs}
use Rattle.group_attr.specs.declared.attrs.AttrFault.{AttrFault}
use Rattle.group_attr.specs.declared.attrs.AttrFault.TheVariants as attr_fault
use Rattle.proposal_core.specs.declared.proposal.Failure.{Failure}
use Rattle.proposal_core.specs.declared.proposal.Proposal.{Proposal}
use Rattle.proposal_core.specs.declared.proposal.Proposal.TheVariants as proposal
use Rattle.proposal_core.specs.declared.entry.Row.{Row}
use Rattle.proposal_core.specs.declared.entry.Closed.{Closed}
use Rattle.proposal_core.specs.declared.entry.Entry.{Entry}
use Rattle.proposal_core.specs.declared.entry.Entry.TheVariants as entry
use Rattle.client_callbacks.specs.declared.told.Why.{Why}
use Rattle.client_callbacks.specs.declared.told.Why.TheVariants as why
use Rattle.session_state.specs.declared.fault.GsFault.{GsFault}
use Rattle.session_state.specs.declared.fault.GsFault.TheVariants as fault

unfoldable pub is_u32 : ℕ → Bool
is_u32 n = nat_le n last_u32

unfoldable pub is_u16 : ℕ → Bool
is_u16 n = nat_le n 65535

unfoldable pub is_view : ViewId → Bool
is_view v = is_u32 v.number && (is_node v.coord && is_u32 v.inc)

unfoldable pub is_ring : RingId → Bool
is_ring r = is_node r.leader && (is_u32 r.inc && is_u32 r.number)

unfoldable pub is_proto : ProtoId → Bool
is_proto p = is_view p.view && is_u32 p.place

unfoldable pub is_provider : ProviderId → Bool
is_provider p = is_node p.node && (is_u32 p.inc && (is_u16 p.instance && is_u32 p.join))

unfoldable pub is_member : Member → Bool
is_member m = is_node m.node && is_u32 m.inc

unfoldable pub is_value : List ℕ → Bool
is_value bytes = list_all (λ b. nat_lt b 256) bytes

unfoldable pub is_value_option : Option (List ℕ) → Bool
is_value_option None = true
is_value_option (Some bytes) = is_value bytes

unfoldable pub is_source : Option (List ℕ) → Bool
is_source None = true
is_source (Some g) = is_name_of g

unfoldable pub are_attrs : Attrs → Bool
are_attrs a = is_u16 a.limit && (is_u16 a.source_limit && is_source a.source)

unfoldable pub is_failure : Failure → Bool
is_failure f = is_provider f.provider

unfoldable pub is_row : Row → Bool
is_row r = is_provider r.provider

unfoldable pub is_len_option : Option ℕ → Bool
is_len_option None = true
is_len_option (Some n) = is_u32 n

unfoldable pub is_proposal : Proposal → Bool
is_proposal (proposal.Join ps a n) = list_all is_provider ps && (are_attrs a && is_len_option n)
is_proposal (proposal.Leave p r) = is_provider p && is_u32 r
is_proposal (proposal.Fail out) = list_all is_failure out
is_proposal (proposal.Expel p r out) = is_provider p && (is_u32 r && list_all is_provider out)
is_proposal (proposal.State p r value) = is_provider p && (is_u32 r && is_value value)
is_proposal (proposal.Message p r bytes) = is_provider p && (is_u32 r && is_value bytes)
is_proposal (proposal.Attributes p r a) = is_provider p && (is_u32 r && are_attrs a)
is_proposal (proposal.Reflect v i value) = is_view v && (is_u32 i && is_value value)

unfoldable pub is_none_text : Option (List ℕ) → Bool
is_none_text None = true
is_none_text (Some bytes) = false

unfoldable pub is_closed : Closed → Bool
is_closed c = is_proto c.proto && (is_u16 c.phase && (list_all is_row c.rows && (is_value_option c.value && is_none_text c.message)))

unfoldable pub is_entry : Entry → Bool
is_entry (entry.Once x) = is_proposal x
is_entry (entry.Begin x) = is_proposal x
is_entry (entry.Phase c) = is_closed c
is_entry (entry.Approve c) = is_closed c
is_entry (entry.Reject c) = is_closed c && is_none_text c.value
is_entry (entry.Late proto phase ps) = is_proto proto && (is_u16 phase && list_all is_provider ps)

unfoldable pub is_why : Why → Bool
is_why (why.Collide proto) = is_proto proto
is_why why.DuplicateInstance = true
is_why (why.NoSource len) = is_u32 len
is_why why.BadAttributes = true
is_why why.NotAMember = true
is_why (why.ListFull places bytes) = is_u32 places && is_u32 bytes
is_why (why.GroupFull n) = is_u32 n
is_why (why.GroupsFull n) = is_u32 n
is_why why.Dissolved = true

unfoldable pub is_attr_fault : AttrFault → Bool
is_attr_fault (attr_fault.Limit n) = n == 0
is_attr_fault (attr_fault.SourceLimit n) = n == 0
is_attr_fault attr_fault.Source = true

unfoldable pub is_fault : GsFault → Bool
is_fault (fault.BadGroupAttributes f) = is_attr_fault f
is_fault (fault.Collide r) = is_u32 r
is_fault (fault.SessionsFull n) = is_u32 n
is_fault _ = true

-- opens each word of this file, for a computation
unfoldable pub ranges_open : Unit {0}
unfolding is_u32 is_u16 is_view is_ring is_proto is_provider is_member is_value is_value_option is_source are_attrs is_failure is_row is_len_option is_proposal is_none_text is_closed is_entry is_why is_attr_fault is_fault
ranges_open = tt
