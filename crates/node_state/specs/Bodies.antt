-- The body of each kind of packet: what bytes spell it, and how it is spelled.
use Rattle.std.specs.Prelude.{ℕ, Bool, true, false, ◌==◌, List, [], ◌++◌, Option, Some, None, if◌then◌else◌}
use Rattle.std.specs.Option.{option_map}
use Rattle.std.specs.Int.{w8, w16, w32}
use Rattle.rsct_packet.specs.declared.ids.ProtoId.{ProtoId}
use Rattle.rsct_packet.specs.declared.ids.ProviderId.{ProviderId}
use Rattle.rsct_packet.specs.declared.ids.RingId.{RingId}
use Rattle.rsct_packet.specs.declared.ids.ViewId.{ViewId}
use Rattle.rsct_packet.specs.declared.mask.Mask.{Mask}
use Rattle.rsct_packet.specs.Reading.{number_at, both_at, made_at, decoded_at, guarded_at, keyed_at, optional_at}
use Rattle.rsct_packet.specs.Format.{optional_text}
use Rattle.rsct_packet.specs.Fields.{u8_text, u16_text, u32_text, bytes_at, bytes_text, mask_at, mask_text, ring_at, ring_text, view_at, view_text, provider_at, provider_text, proto_at, proto_text}
use Rattle.packet_bodies.specs.declared.body.RingMask.{RingMask}
use Rattle.packet_bodies.specs.declared.body.Death.{Death}
use Rattle.packet_bodies.specs.declared.body.Prepare.{Prepare}
use Rattle.packet_bodies.specs.declared.body.Refuse.{Refuse}
use Rattle.packet_bodies.specs.declared.body.Leader.{Leader}
use Rattle.packet_bodies.specs.declared.body.Ack.{Ack}
use Rattle.packet_bodies.specs.declared.body.Gone.{Gone}
use Rattle.packet_bodies.specs.declared.body.Query.{Query}
use Rattle.packet_bodies.specs.Group.{GroupIn, group_at, group_text, reply_at}
use Rattle.packet_bodies.specs.Body.{whole_of, ring_mask_at, death_at, report_at, report_text, prepare_at, refuse_at, leader_at, ack_at, gone_at, query_at, what_code}
use Rattle.group_attr.specs.declared.attrs.Phases.{Phases}
use Rattle.group_attr.specs.declared.attrs.Phases.TheVariants.{One, Many}
use Rattle.group_attr.specs.Codec.{phases_at, phases_number}
use Rattle.proposal_core.specs.declared.proposal.Proposal.{Proposal}
use Rattle.proposal_core.specs.declared.proposal.Proposal.TheVariants.{Join}
use Rattle.proposal_core.specs.declared.entry.Entry.{Entry}
use Rattle.proposal_core.specs.declared.entry.Vote.{Vote}
use Rattle.proposal_core.specs.declared.entry.Vote.TheVariants as vote
use Rattle.proposal_core.specs.ProposalCodec.{proposal_at, proposal_text}
use Rattle.proposal_core.specs.EntryCodec.{entry_front_at, entry_text}
use Rattle.view_state.specs.Codec.{answer_at, answer_text, install_at, install_text}
use Rattle.adapter_ring.specs.declared.packet.RingPacket.{RingPacket}
use Rattle.adapter_ring.specs.declared.packet.RingPacket.TheVariants as ring
use Rattle.client_callbacks.specs.declared.told.Why.{Why}
use Rattle.client_callbacks.specs.declared.told.Why.TheVariants as why
use Rattle.view_state.specs.declared.packet.ViewPacket.{ViewPacket}
use Rattle.view_state.specs.declared.packet.ViewPacket.TheVariants as packet
use Rattle.node_state.specs.declared.packet.Body.{Body}
use Rattle.node_state.specs.declared.packet.Body.TheVariants as body

-- ---- REQUEST: a join's phases are 1, since the group's attributes say how it is decided

unfoldable pub has_phases : Phases → Proposal → Bool
has_phases One x = true
has_phases Many (Join ps attrs n) = false
has_phases Many x = true

unfoldable pub is_request : Body → Bool
is_request (body.Request view name p r phases x) = has_phases phases x
is_request _ = false

abbrev pub request_of_parts : GroupIn × (ProviderId × (ℕ × (Phases × Proposal))) → Body
request_of_parts x = body.Request x.0.view x.0.name x.1.0 x.1.1.0 x.1.1.1.0 x.1.1.1.1

unfoldable pub request_at : List ℕ → Option (Body × List ℕ)
request_at bytes =
    guarded_at is_request (made_at request_of_parts (both_at group_at (both_at provider_at (both_at (number_at w32) (both_at phases_at proposal_at))))) bytes

-- ---- TELL: the code of the refusal, and what belongs to it

-- the last two are told to the own node's clients alone
abbrev pub why_code : Why → ℕ
why_code why.NotAMember = 7
why_code why.BadAttributes = 9
why_code why.DuplicateInstance = 10
why_code (why.Collide proto) = 12
why_code (why.NoSource len) = 13
why_code (why.ListFull places bytes) = 15
why_code (why.GroupFull n) = 16
why_code (why.GroupsFull n) = 17
why_code why.Dissolved = 19

abbrev pub why_data_at : ℕ → List ℕ → Option (Why × List ℕ)
why_data_at k bytes =
    if k == 7 then Some (why.NotAMember, bytes)
    else if k == 9 then Some (why.BadAttributes, bytes)
    else if k == 10 then Some (why.DuplicateInstance, bytes)
    else if k == 12 then made_at why.Collide proto_at bytes
    else if k == 13 then made_at why.NoSource (number_at w32) bytes
    else if k == 15 then made_at (λ x. why.ListFull x.0 x.1) (both_at (number_at w32) (number_at w32)) bytes
    else if k == 16 then made_at why.GroupFull (number_at w32) bytes
    else None

unfoldable pub why_at : List ℕ → Option (Why × List ℕ)
why_at bytes = keyed_at (number_at w8) why_data_at bytes

abbrev pub why_data_text : Why → List ℕ
why_data_text (why.Collide proto) = proto_text proto
why_data_text (why.NoSource len) = u32_text len
why_data_text (why.ListFull places bytes) = u32_text places ++ u32_text bytes
why_data_text (why.GroupFull n) = u32_text n
why_data_text _ = []

abbrev pub tell_of_parts : GroupIn × (ProviderId × (ℕ × Why)) → Body
tell_of_parts x = body.Tell x.0.view x.0.name x.1.0 x.1.1.0 x.1.1.1

unfoldable pub tell_at : List ℕ → Option (Body × List ℕ)
tell_at bytes = made_at tell_of_parts (both_at group_at (both_at provider_at (both_at (number_at w32) why_at))) bytes

-- ---- ENTRY

abbrev pub entry_of_parts : GroupIn × (ℕ × (ℕ × Entry)) → Body
entry_of_parts x = body.Entry x.0.view x.0.name x.1.0 x.1.1.0 x.1.1.1

unfoldable pub entry_at : List ℕ → Option (Body × List ℕ)
entry_at bytes = made_at entry_of_parts (both_at group_at (both_at (number_at w32) (both_at (number_at w32) entry_front_at))) bytes

-- ---- VOTE

abbrev pub vote_number : Vote → ℕ
vote_number vote.Approve = 1
vote_number vote.Continue = 2
vote_number vote.Reject = 3

abbrev pub vote_of : ℕ → Option Vote
vote_of n = if n == 1 then Some vote.Approve else if n == 2 then Some vote.Continue else if n == 3 then Some vote.Reject else None

abbrev pub vote_of_parts : GroupIn × (ProtoId × (ℕ × (ProviderId × (Vote × (Option (List ℕ) × Option (List ℕ)))))) → Body
vote_of_parts x = body.Vote x.0.view x.0.name x.1.0 x.1.1.0 x.1.1.1.0 x.1.1.1.1.0 x.1.1.1.1.1.0 x.1.1.1.1.1.1

unfoldable pub vote_at : List ℕ → Option (Body × List ℕ)
vote_at bytes =
    made_at
    vote_of_parts
    (both_at group_at (both_at proto_at (both_at (number_at w16) (both_at provider_at (both_at (decoded_at vote_of (number_at w8)) (both_at (optional_at bytes_at) (optional_at bytes_at)))))))
    bytes

-- ---- all kinds

abbrev pub ring_body : (RingId → RingPacket) → RingId → Body
ring_body f id = body.Ring (f id)

abbrev pub ring_mask_body : (RingId → Mask → RingPacket) → RingMask → Body
ring_mask_body f x = body.Ring (f x.ring x.mask)

-- the body of a kind at the front of bytes
abbrev pub body_front_at : ℕ → List ℕ → Option (Body × List ℕ)
body_front_at k bytes =
    if k == 1 then made_at (ring_body ring.Heartbeat) ring_at bytes
    else if k == 2 then made_at (ring_body ring.Proclaim) ring_at bytes
    else if k == 3 then made_at (λ m. body.Ring (ring.Join m)) mask_at bytes
    else if k == 4 then made_at (ring_mask_body ring.Ptc) ring_mask_at bytes
    else if k == 5 then made_at (ring_body ring.PtcAck) ring_at bytes
    else if k == 6 then made_at (ring_mask_body ring.Commit) ring_mask_at bytes
    else if k == 7 then made_at (λ (x : Death). body.Ring (ring.Death x.ring x.node)) death_at bytes
    else if k == 8 then made_at body.Report report_at bytes
    else if k == 9 then made_at (λ (x : Prepare). body.View (packet.Prepare x.view x.mask)) prepare_at bytes
    else if k == 10 then made_at (λ x. body.View (packet.Answer x.0 x.1.view x.1.parts)) (both_at view_at answer_at) bytes
    else if k == 11 then made_at (λ (x : Refuse). body.View (packet.Refuse x.view x.number)) refuse_at bytes
    else if k == 12 then made_at (λ i. body.View (packet.Install i)) install_at bytes
    else if k == 13 then made_at (λ v. body.View (packet.Taken v)) view_at bytes
    else if k == 14 then made_at (λ (x : GroupIn). body.Lookup x.view x.name) group_at bytes
    else if k == 15 then made_at (λ (x : Leader). body.Name x.group.view x.group.name x.leader) leader_at bytes
    else if k == 16 then request_at bytes
    else if k == 17 then tell_at bytes
    else if k == 18 then entry_at bytes
    else if k == 19 then made_at (λ (x : Ack). body.Ack x.group.view x.group.name x.len) ack_at bytes
    else if k == 20 then vote_at bytes
    else if k == 21 then made_at (λ (x : Gone). body.Gone x.group.view x.group.name x.provider) gone_at bytes
    else if k == 22 then made_at (λ (x : Query). body.Query x.question x.what) query_at bytes
    else None

-- a body is used up to its end; the text of a REPLY goes up to it
unfoldable pub body_at : ℕ → List ℕ → Option Body
body_at k bytes = if k == 23 then option_map (λ x. body.Reply x.question x.text) (reply_at bytes) else whole_of (body_front_at k bytes)

-- ---- their spelling

abbrev pub ring_kind : RingPacket → ℕ
ring_kind (ring.Heartbeat id) = 1
ring_kind (ring.Proclaim id) = 2
ring_kind (ring.Join mask) = 3
ring_kind (ring.Ptc id mask) = 4
ring_kind (ring.PtcAck id) = 5
ring_kind (ring.Commit id mask) = 6
ring_kind (ring.Death id node) = 7

abbrev pub view_kind : ViewPacket → ℕ
view_kind (packet.Prepare v mask) = 9
view_kind (packet.Answer v old parts) = 10
view_kind (packet.Refuse v n) = 11
view_kind (packet.Install i) = 12
view_kind (packet.Taken v) = 13

abbrev pub kind_of : Body → ℕ
kind_of (body.Ring x) = ring_kind x
kind_of (body.Report rows) = 8
kind_of (body.View x) = view_kind x
kind_of (body.Lookup view name) = 14
kind_of (body.Name view name leader) = 15
kind_of (body.Request view name p r phases x) = 16
kind_of (body.Tell view name p r y) = 17
kind_of (body.Entry view name place stable e) = 18
kind_of (body.Ack view name len) = 19
kind_of (body.Vote view name proto phase p v value message) = 20
kind_of (body.Gone view name p) = 21
kind_of (body.Query question what) = 22
kind_of (body.Reply question text) = 23

abbrev pub ring_body_text : RingPacket → List ℕ
ring_body_text (ring.Heartbeat id) = ring_text id
ring_body_text (ring.Proclaim id) = ring_text id
ring_body_text (ring.Join mask) = mask_text mask
ring_body_text (ring.Ptc id mask) = ring_text id ++ mask_text mask
ring_body_text (ring.PtcAck id) = ring_text id
ring_body_text (ring.Commit id mask) = ring_text id ++ mask_text mask
ring_body_text (ring.Death id node) = ring_text id ++ u8_text node

abbrev pub view_body_text : ViewPacket → List ℕ
view_body_text (packet.Prepare v mask) = view_text v ++ mask_text mask
view_body_text (packet.Answer v old parts) = view_text v ++ answer_text (record { view = old; parts = parts })
view_body_text (packet.Refuse v n) = view_text v ++ u32_text n
view_body_text (packet.Install i) = install_text i
view_body_text (packet.Taken v) = view_text v

-- a group in a view
abbrev pub named_text : ViewId → List ℕ → List ℕ
named_text view name = group_text (record { view = view; name = name })

unfoldable pub body_text : Body → List ℕ
body_text (body.Ring x) = ring_body_text x
body_text (body.Report rows) = report_text rows
body_text (body.View x) = view_body_text x
body_text (body.Lookup view name) = named_text view name
body_text (body.Name view name leader) = named_text view name ++ u8_text leader
body_text (body.Request view name p r phases x) = named_text view name ++ (provider_text p ++ (u32_text r ++ (u8_text (phases_number phases) ++ proposal_text x)))
body_text (body.Tell view name p r y) = named_text view name ++ (provider_text p ++ (u32_text r ++ (u8_text (why_code y) ++ why_data_text y)))
body_text (body.Entry view name place stable e) = named_text view name ++ (u32_text place ++ (u32_text stable ++ entry_text e))
body_text (body.Ack view name len) = named_text view name ++ u32_text len
body_text (body.Vote view name proto phase p v value message) =
    named_text view name
    ++ (proto_text proto ++ (u16_text phase ++ (provider_text p ++ (u8_text (vote_number v) ++ (optional_text bytes_text value ++ optional_text bytes_text message)))))
body_text (body.Gone view name p) = named_text view name ++ provider_text p
body_text (body.Query question what) = u32_text question ++ u8_text (what_code what)
body_text (body.Reply question text) = u32_text question ++ text

-- opens each word of this file, for a computation
unfoldable pub bodies_opens : Unit {0}
unfolding has_phases is_request request_at why_at tell_at entry_at vote_at body_at body_text
bodies_opens = tt
