-- Which packets have a spelling.
use Rattle.std.specs.Prelude.{◌==◌, length, IsTrue}
use Rattle.rsct_packet.specs.Format.{OptionFits}
use Rattle.rsct_packet.specs.Fields.{IsU16, IsU32, IsMask, IsRing, IsView, IsProvider, IsProto, AreShort}
use Rattle.rsct_packet.specs.Packet.{is_head, is_level, DomainFits}
use Rattle.packet_bodies.specs.Group.{IsGroup}
use Rattle.packet_bodies.specs.Body.{IsRingMask, IsDeath, IsReport, IsPrepare, IsRefuse, IsLeader, IsAck, IsGone}
use Rattle.proposal_core.specs.ProposalCodec.{IsProposal}
use Rattle.proposal_core.specs.EntryCodec.{IsEntry}
use Rattle.view_state.specs.Codec.{IsAnswer, IsInstall}
use Rattle.adapter_ring.specs.declared.packet.RingPacket.{RingPacket}
use Rattle.adapter_ring.specs.declared.packet.RingPacket.TheVariants as ring
use Rattle.client_callbacks.specs.declared.told.Why.{Why}
use Rattle.client_callbacks.specs.declared.told.Why.TheVariants as why
use Rattle.view_state.specs.declared.packet.ViewPacket.{ViewPacket}
use Rattle.view_state.specs.declared.packet.ViewPacket.TheVariants as view
use Rattle.node_state.specs.declared.packet.Body.{Body}
use Rattle.node_state.specs.declared.packet.Body.TheVariants as body
use Rattle.node_state.specs.declared.packet.Packet.{Packet}
use Rattle.node_state.specs.Bodies.{has_phases, kind_of, body_text}
use Rattle.node_state.specs.Bytes.{head_of}

abbrev pub IsRingBody : RingPacket → Type 0
IsRingBody (ring.Heartbeat id) = IsRing id
IsRingBody (ring.Proclaim id) = IsRing id
IsRingBody (ring.Join mask) = IsMask mask
IsRingBody (ring.Ptc id mask) = IsRingMask (record { ring = id; mask = mask })
IsRingBody (ring.PtcAck id) = IsRing id
IsRingBody (ring.Commit id mask) = IsRingMask (record { ring = id; mask = mask })
IsRingBody (ring.Death id node) = IsDeath (record { ring = id; node = node })

abbrev pub IsViewBody : ViewPacket → Type 0
IsViewBody (view.Prepare v mask) = IsPrepare (record { view = v; mask = mask })
IsViewBody (view.Answer v old parts) = IsView v × IsAnswer (record { view = old; parts = parts })
IsViewBody (view.Refuse v number) = IsRefuse (record { view = v; number = number })
IsViewBody (view.Install i) = IsInstall i
IsViewBody (view.Taken v) = IsView v

-- the last two refusals are told to the own node's clients alone
abbrev pub IsWhy : Why → Type 0
IsWhy why.NotAMember = Unit {0}
IsWhy why.BadAttributes = Unit {0}
IsWhy why.DuplicateInstance = Unit {0}
IsWhy (why.Collide proto) = IsProto proto
IsWhy (why.NoSource len) = IsU32 len
IsWhy (why.ListFull places bytes) = IsU32 places × IsU32 bytes
IsWhy (why.GroupFull n) = IsU32 n
IsWhy (why.GroupsFull n) = ⊥
IsWhy why.Dissolved = ⊥

abbrev pub IsBody : Body → Type 0
IsBody (body.Ring x) = IsRingBody x
IsBody (body.Report rows) = IsReport rows
IsBody (body.View x) = IsViewBody x
IsBody (body.Lookup v name) = IsGroup (record { view = v; name = name })
IsBody (body.Name v name leader) = IsLeader (record { group = record { view = v; name = name }; leader = leader })
IsBody (body.Request v name p r phases x) = (IsGroup (record { view = v; name = name }) × (IsProvider p × (IsU32 r × (Unit {0} × IsProposal x)))) × IsTrue (has_phases phases x)
IsBody (body.Tell v name p r y) = IsGroup (record { view = v; name = name }) × (IsProvider p × (IsU32 r × IsWhy y))
IsBody (body.Entry v name place stable e) = IsGroup (record { view = v; name = name }) × (IsU32 place × (IsU32 stable × IsEntry e))
IsBody (body.Ack v name len) = IsAck (record { group = record { view = v; name = name }; len = len })
IsBody (body.Vote v name proto phase p vote value message) =
    IsGroup (record { view = v; name = name }) × (IsProto proto × (IsU16 phase × (IsProvider p × (Unit {0} × (OptionFits AreShort value × OptionFits AreShort message)))))
IsBody (body.Gone v name p) = IsGone (record { group = record { view = v; name = name }; provider = p })
IsBody (body.Query question what) = IsU32 question
IsBody (body.Reply question text) = IsU32 question

-- a packet whose head and body have a spelling, of any length
pub record IsWritable (p : Packet) : Type 0 where
  pub head : IsTrue (is_head (head_of p))
  pub level : IsTrue (is_level p.level (kind_of p.body))
  pub inc : IsU32 p.inc
  pub domain : DomainFits (p.level == 1) p.domain
  pub body : IsBody p.body

-- a packet that has a spelling
pub record IsSpelled (p : Packet) : Type 0 where
  pub writable : IsWritable p
  pub short : IsU32 (length (body_text p.body))
