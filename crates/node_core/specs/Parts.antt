-- The parts of a packet that a node keeps copies of.
use Rattle.std.specs.Prelude.{◌≡◌}
use Rattle.rsct_packet.specs.Text.{IsName}
use Rattle.rsct_packet.specs.Format.{OptionFits}
use Rattle.rsct_packet.specs.Fields.{AreShort}
use Rattle.proposal_core.specs.ProposalCodec.{IsProposal}
use Rattle.proposal_core.specs.EntryCodec.{IsEntry}
use Rattle.node_state.specs.declared.packet.Body.{Body}
use Rattle.node_state.specs.declared.packet.Body.TheVariants as body

-- the parts of a body that was read are those of packets
abbrev pub HasParts : Body → Type 0
HasParts (body.Lookup v g) = IsName g
HasParts (body.Name v g n) = IsName g
HasParts (body.Request v g p r phases x) = IsName g × IsProposal x
HasParts (body.Entry v g place stable e) = IsName g × IsEntry e
HasParts (body.Ack v g n) = IsName g
HasParts (body.Vote v g proto phase p vote value message) = IsName g × OptionFits AreShort value × OptionFits AreShort message
HasParts (body.Gone v g p) = IsName g
HasParts _ = Unit {0}
