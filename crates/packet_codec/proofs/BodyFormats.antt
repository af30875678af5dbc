-- Each packet that has a spelling is read again.
use Rattle.std.proofs.Common.{◌≡◌, ℕ, ◌<◌, ◌≤◌, Bool, true, false, cond, List, [], ◌++◌, length, Option, Some, None, refl, sym, ap, ◌∙◌, append-nil, arith, eqb-true}
use Rattle.std.specs.Prelude.{IsTrue, ◌&&◌, ◌==◌, nat_le}
use Rattle.std.specs.Option.{option_map}
use Rattle.std.specs.Int.{w8, w32}
use Rattle.rsct_packet.specs.declared.ids.ProviderId.{ProviderId}
use Rattle.rsct_packet.specs.Reading.{both_at, made_at, decoded_at, number_at, optional_at}
use Rattle.rsct_packet.specs.Format.{IsFormat, IsVariant}
use Rattle.rsct_packet.specs.Fields.{u8_text, u32_text, IsU32, IsProvider, provider_at, provider_text}
use Rattle.rsct_packet.specs.Packet.{is_kind, is_network, is_sender, is_level, is_head, is_front, PacketView, IsPacket, packet_text}
use Rattle.rsct_packet.proofs.FormatLaws.{both_format, decoded_format, fits_format, optional_format, choice_format, keyed_of, or_variant, no_variant, made_variant, plain_variant, u8_format, u16_format, u32_format}
use Rattle.std.proofs.lemmas.Bool.{leb-true}
use Rattle.rsct_packet.proofs.FieldLaws.{and_true, bytes_format, mask_format, ring_format, view_format, provider_format, proto_format}
use Rattle.rsct_packet.proofs.PacketLaws.{packet_again}
use Rattle.packet_bodies.specs.declared.body.Query.{Query}
use Rattle.packet_bodies.specs.Group.{GroupIn, IsGroup, group_at, group_text, reply_at}
use Rattle.packet_bodies.specs.Body.{whole_of, query_at, query_text, what_code, ring_mask_text, death_text, prepare_text, refuse_text, leader_text, ack_text, gone_text}
use Rattle.packet_bodies.proofs.BodyLaws.{ring_mask_format, death_format, report_format, prepare_format, refuse_format, group_format, leader_format, ack_format, gone_format, query_format}
use Rattle.group_attr.specs.declared.attrs.Phases.{Phases}
use Rattle.group_attr.specs.Codec.{phases_at, phases_number}
use Rattle.group_codec.proofs.AttrFormat.{phases_format}
use Rattle.group_attr.proofs.Chosen.{chosen, not_chosen}
use Rattle.proposal_core.specs.declared.entry.Vote.{Vote}
use Rattle.proposal_core.specs.declared.entry.Vote.TheVariants as vote
use Rattle.proposal_core.specs.declared.proposal.Proposal.{Proposal}
use Rattle.proposal_core.specs.ProposalCodec.{proposal_at, proposal_text, IsProposal}
use Rattle.group_codec.proofs.ProposalFormat.{proposal_format}
use Rattle.group_codec.proofs.EntryFormat.{entry_format}
use Rattle.view_exchange.proofs.Formats.{answer_format, install_format}
use Rattle.adapter_ring.specs.declared.packet.RingPacket.{RingPacket}
use Rattle.adapter_ring.specs.declared.packet.RingPacket.TheVariants as ring
use Rattle.client_callbacks.specs.declared.told.Why.{Why}
use Rattle.client_callbacks.specs.declared.told.Why.TheVariants as why
use Rattle.view_state.specs.declared.packet.ViewPacket.{ViewPacket}
use Rattle.view_state.specs.declared.packet.ViewPacket.TheVariants as view
use Rattle.node_state.specs.declared.packet.Body.{Body}
use Rattle.node_state.specs.declared.packet.Body.TheVariants as body
use Rattle.node_state.specs.declared.packet.Packet.{Packet}
use Rattle.node_state.specs.Bodies.{has_phases, is_request, request_of_parts, request_at, why_code, why_data_at, why_at, why_data_text, tell_of_parts, tell_at, entry_of_parts, entry_at, vote_number, vote_of, vote_of_parts, vote_at, ring_body, ring_mask_body, body_at, kind_of, body_text}
use Rattle.node_state.specs.Bytes.{with_body, packet_in, packet_of, head_of, bytes_of}
use Rattle.packet_codec.specs.Spelled.{IsWhy, IsBody, IsSpelled}
use Rattle.packet_codec.proofs.WholeLaws.{whole_made, whole_again}

-- a value that has a spelling is read up to its end
read_made : {A B : Type 0} {f : List ℕ → Option (A × List ℕ)} {text : A → List ℕ} {fits : A → Type 0} (make : A → B) → IsFormat f text fits → (x : A) → fits x → whole_of (made_at make f (text x)) ≡ Some (make x)
read_made {f = f} {text = text} make format x h = whole_made make f (text x) ∙ ap (option_map make) (whole_again format x h)

-- ---- why a request was refused

why_variant : (k : ℕ) → IsVariant why_code why_data_text IsWhy k (why_data_at k)
why_variant k =
    or_variant 7 k (plain_variant why.NotAMember refl tt refl)
    (or_variant 9 k (plain_variant why.BadAttributes refl tt refl)
    (or_variant 10 k (plain_variant why.DuplicateInstance refl tt refl)
    (or_variant 12 k (made_variant why.Collide (λ b. refl) (λ b h. h) (λ b. refl) proto_format)
    (or_variant 13 k (made_variant why.NoSource (λ b. refl) (λ b h. h) (λ b. refl) u32_format)
    (or_variant 15 k (made_variant (λ x. why.ListFull x.0 x.1) (λ b. refl) (λ b h. h) (λ b. refl) (both_format u32_format u32_format))
    (or_variant 16 k (made_variant why.GroupFull (λ b. refl) (λ b h. h) (λ b. refl) u32_format) no_variant))))))

why_again : (y : Why) (rest : List ℕ) → IsWhy y → why_data_at (why_code y) (why_data_text y ++ rest) ≡ Some (y, rest)
why_again why.NotAMember rest h = refl
why_again why.BadAttributes rest h = refl
why_again why.DuplicateInstance rest h = refl
why_again (why.Collide proto) rest h = rw (proto_format.again proto rest h) refl
why_again (why.NoSource len) rest h = rw (u32_format.again len rest h) refl
why_again (why.ListFull places bytes) rest h = rw ((both_format u32_format u32_format).again (places, bytes) rest h) refl
why_again (why.GroupFull n) rest h = rw (u32_format.again n rest h) refl
why_again (why.GroupsFull n) rest h = absurd h
why_again why.Dissolved rest h = absurd h

why_small : (y : Why) → why_code y < 256
why_small why.NotAMember = omega arith
why_small why.BadAttributes = omega arith
why_small why.DuplicateInstance = omega arith
why_small (why.Collide proto) = omega arith
why_small (why.NoSource len) = omega arith
why_small (why.ListFull places bytes) = omega arith
why_small (why.GroupFull n) = omega arith
why_small (why.GroupsFull n) = omega arith
why_small why.Dissolved = omega arith

why_format : IsFormat why_at (λ y. u8_text (why_code y) ++ why_data_text y) IsWhy
unfolding why_at
why_format = choice_format why_small (keyed_of why_variant why_again)

-- ---- votes

vote_back : (k : ℕ) (y : Vote) → vote_of k ≡ Some y → vote_number y ≡ k
vote_back k y =
    chosen vote_number 1 k vote.Approve y _ _ (eqb-true k 1) refl
    (chosen vote_number 2 k vote.Continue y _ _ (eqb-true k 2) refl (chosen vote_number 3 k vote.Reject y _ _ (eqb-true k 3) refl (not_chosen y)))

vote_forth : (y : Vote) → vote_of (vote_number y) ≡ Some y
vote_forth vote.Approve = refl
vote_forth vote.Continue = refl
vote_forth vote.Reject = refl

vote_small : (y : Vote) → vote_number y < 256
vote_small vote.Approve = omega arith
vote_small vote.Continue = omega arith
vote_small vote.Reject = omega arith

vote_format : IsFormat (decoded_at vote_of (number_at w8)) (λ y. u8_text (vote_number y)) (λ y. Unit {0})
vote_format = fits_format (λ y. Unit {0}) (λ y h. tt) (λ y h. vote_small y) (decoded_format vote_of vote_number vote_back (λ y h. vote_forth y) u8_format)

-- ---- bodies

ring_again : (x : RingPacket) → IsBody (body.Ring x) → body_at (kind_of (body.Ring x)) (body_text (body.Ring x)) ≡ Some (body.Ring x)
unfolding body_at body_text ring_mask_text death_text
ring_again (ring.Heartbeat id) h = read_made (ring_body ring.Heartbeat) ring_format id h
ring_again (ring.Proclaim id) h = read_made (ring_body ring.Proclaim) ring_format id h
ring_again (ring.Join mask) h = read_made (λ m. body.Ring (ring.Join m)) mask_format mask h
ring_again (ring.Ptc id mask) h = read_made (ring_mask_body ring.Ptc) ring_mask_format (record { ring = id; mask = mask }) h
ring_again (ring.PtcAck id) h = read_made (ring_body ring.PtcAck) ring_format id h
ring_again (ring.Commit id mask) h = read_made (ring_mask_body ring.Commit) ring_mask_format (record { ring = id; mask = mask }) h
ring_again (ring.Death id node) h = read_made (λ x. body.Ring (ring.Death x.ring x.node)) death_format (record { ring = id; node = node }) h

view_again : (x : ViewPacket) → IsBody (body.View x) → body_at (kind_of (body.View x)) (body_text (body.View x)) ≡ Some (body.View x)
unfolding body_at body_text prepare_text refuse_text
view_again (view.Prepare v mask) h = read_made (λ x. body.View (view.Prepare x.view x.mask)) prepare_format (record { view = v; mask = mask }) h
view_again (view.Answer v old parts) h =
    read_made (λ x. body.View (view.Answer x.0 x.1.view x.1.parts)) (both_format view_format answer_format) (v, record { view = old; parts = parts }) h
view_again (view.Refuse v number) h = read_made (λ x. body.View (view.Refuse x.view x.number)) refuse_format (record { view = v; number = number }) h
view_again (view.Install i) h = read_made (λ i. body.View (view.Install i)) install_format i h
view_again (view.Taken v) h = read_made (λ v. body.View (view.Taken v)) view_format v h

abbrev RequestParts : Type 0
RequestParts = GroupIn × (ProviderId × (ℕ × (Phases × Proposal)))

abbrev request_parts_at : List ℕ → Option (RequestParts × List ℕ)
request_parts_at bytes = both_at group_at (both_at provider_at (both_at (number_at w32) (both_at phases_at proposal_at))) bytes

abbrev request_parts_text : RequestParts → List ℕ
request_parts_text x = group_text x.0 ++ (provider_text x.1.0 ++ (u32_text x.1.1.0 ++ (u8_text (phases_number x.1.1.1.0) ++ proposal_text x.1.1.1.1)))

request_format : IsFormat request_parts_at request_parts_text (λ x. IsGroup x.0 × (IsProvider x.1.0 × (IsU32 x.1.1.0 × (Unit {0} × IsProposal x.1.1.1.1))))
request_format = both_format group_format (both_format provider_format (both_format u32_format (both_format phases_format proposal_format)))

request_again : (x : RequestParts) (t : List ℕ) → IsTrue (is_request (request_of_parts x)) → request_parts_at t ≡ Some (x, []) → whole_of (request_at t) ≡ Some (request_of_parts x)
unfolding request_at
request_again x t passes e = rw (e, passes) refl

pub body_again : (b : Body) → IsBody b → body_at (kind_of b) (body_text b) ≡ Some b
unfolding body_at body_text leader_text ack_text gone_text tell_at entry_at vote_at query_text reply_at is_request
body_again (body.Ring x) h = ring_again x h
body_again (body.Report rows) h = read_made body.Report report_format rows h
body_again (body.View x) h = view_again x h
body_again (body.Lookup v name) h = read_made (λ x. body.Lookup x.view x.name) group_format (record { view = v; name = name }) h
body_again (body.Name v name leader) h = read_made (λ x. body.Name x.group.view x.group.name x.leader) leader_format (record { group = record { view = v; name = name }; leader = leader }) h
body_again (body.Request v name p r phases x) h =
    let parts : RequestParts = (record { view = v; name = name }, (p, (r, (phases, x)))) in
    let text : List ℕ = request_parts_text parts in
    request_again parts text h.1 (ap request_parts_at (sym (append-nil text)) ∙ IsFormat.again request_format parts [] h.0)
body_again (body.Tell v name p r y) h =
    read_made tell_of_parts (both_format group_format (both_format provider_format (both_format u32_format why_format))) (record { view = v; name = name }, (p, (r, y))) h
body_again (body.Entry v name place stable e) h =
    read_made entry_of_parts (both_format group_format (both_format u32_format (both_format u32_format entry_format))) (record { view = v; name = name }, (place, (stable, e))) h
body_again (body.Ack v name len) h = read_made (λ x. body.Ack x.group.view x.group.name x.len) ack_format (record { group = record { view = v; name = name }; len = len }) h
body_again (body.Vote v name proto phase p y value message) h =
    read_made vote_of_parts
    (both_format group_format (both_format proto_format (both_format u16_format (both_format provider_format (both_format vote_format (both_format (optional_format bytes_format) (optional_format bytes_format)))))))
    (record { view = v; name = name }, (proto, (phase, (p, (y, (value, message)))))) h
body_again (body.Gone v name p) h = read_made (λ x. body.Gone x.group.view x.group.name x.provider) gone_format (record { group = record { view = v; name = name }; provider = p }) h
body_again (body.Query question what) h = read_made (λ (x : Query). body.Query x.question x.what) query_format (record { question = question; what = what }) h
body_again (body.Reply question text) h = rw (u32_format.again question text h) refl

-- ---- packets

pub packet_read_again : (p : Packet) → IsSpelled p → packet_of (bytes_of p) ≡ Some p
unfolding packet_of bytes_of packet_text is_front
packet_read_again p h =
    let view : PacketView = record { head = head_of p; level = p.level; domain = p.domain; body = body_text p.body } in
    let passes : IsTrue (is_front (record { head = head_of p; level = p.level; body_len = length (body_text p.body) })) = rw (h.writable.head, h.writable.level) refl in
    ap packet_in (packet_again view (record { front = record { passes = passes; inc = h.writable.inc; body_len = h.short }; domain = h.writable.domain }))
    ∙ ap (option_map (with_body view)) (body_again p.body h.writable.body)

-- a packet's kind is one of 1 to 23
pub has_kind : (p : PacketView) → IsPacket p → (1 ≤ p.head.kind) × (p.head.kind ≤ 23)
unfolding is_front is_head
has_kind p h =
    let a = and_true (is_head p.head) (is_level p.level p.head.kind) h.front.passes in
    let b = and_true (is_kind p.head.kind && is_network p.head.network && is_sender p.head.from p.head.inc) (nat_le p.head.to 32) a.0 in
    let c = and_true (is_kind p.head.kind && is_network p.head.network) (is_sender p.head.from p.head.inc) b.0 in
    let d = and_true (is_kind p.head.kind) (is_network p.head.network) c.0 in
    let k = and_true (nat_le 1 p.head.kind) (nat_le p.head.kind 23) d.0 in
    (leb-true 1 p.head.kind k.0, leb-true p.head.kind 23 k.1)
