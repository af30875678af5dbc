-- The packet that a packet in place stands for.
use Rattle.std.specs.Prelude.{option_copied}
use Rattle.group_codec.specs.InPlace.{proposal_in}
use Rattle.group_codec.specs.InPlace.{entry_in}
use Rattle.view_exchange.specs.SourcesInPlace.{install_in}
use Rattle.view_state.specs.declared.packet.ViewPacket.TheVariants as view
use Rattle.node_state.specs.declared.packet.Body.{Body}
use Rattle.node_state.specs.declared.packet.Body.TheVariants as body
use Rattle.node_state.specs.declared.packet.Packet.{Packet}
use Rattle.packet_codec.specs.declared.packet.BodyRef.{BodyRef}
use Rattle.packet_codec.specs.declared.packet.BodyRef.TheVariants as ref
use Rattle.packet_codec.specs.declared.packet.PacketRef.{PacketRef}

abbrev pub body_in : BodyRef → Body
body_in (ref.Ring x) = body.Ring x
body_in (ref.Report rows) = body.Report rows
body_in (ref.Prepare x) = body.View (view.Prepare x.view x.mask)
body_in (ref.Answer x) = body.View (view.Answer x.view x.answer.view x.answer.parts)
body_in (ref.Refuse x) = body.View (view.Refuse x.view x.number)
body_in (ref.Install i) = body.View (view.Install (install_in i))
body_in (ref.Taken v) = body.View (view.Taken v)
body_in (ref.Lookup g) = body.Lookup g.view g.name
body_in (ref.Name x) = body.Name x.group.view x.group.name x.leader
body_in (ref.Request x) = body.Request x.group.view x.group.name x.provider x.request x.phases (proposal_in x.proposal)
body_in (ref.Tell x) = body.Tell x.group.view x.group.name x.provider x.request x.why
body_in (ref.Entry x) = body.Entry x.group.view x.group.name x.place x.stable (entry_in x.entry)
body_in (ref.Ack x) = body.Ack x.group.view x.group.name x.len
body_in (ref.Vote x) = body.Vote x.group.view x.group.name x.proto x.phase x.provider x.vote (option_copied x.value) (option_copied x.message)
body_in (ref.Gone x) = body.Gone x.group.view x.group.name x.provider
body_in (ref.Query x) = body.Query x.question x.what
body_in (ref.Reply x) = body.Reply x.question x.text

abbrev pub packet_in : PacketRef → Packet
packet_in p = record { network = p.network; from = p.from; to = p.to; inc = p.inc; level = p.level; domain = p.domain; body = body_in p.body }
