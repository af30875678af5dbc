-- What clients ask for has a spelling: under numbers that fit, by a provider that fits, of a group that has a name.
use Rattle.std.specs.Prelude.{◌≡◌, ℕ, List, [], ◌∷◌, Option, Some}
use Rattle.rsct_packet.specs.declared.ids.ProviderId.{ProviderId}
use Rattle.rsct_packet.specs.Fields.{IsNode, IsU16, IsU32, IsProvider}
use Rattle.rsct_packet.specs.Format.{EachFits}
use Rattle.rsct_packet.specs.Search.{Has}
use Rattle.rsct_packet.specs.Text.{IsName}
use Rattle.group_attr.specs.Codec.{IsAttrs}
use Rattle.proposal_core.specs.declared.proposal.Proposal.{Proposal}
use Rattle.proposal_core.specs.ProposalCodec.{IsProposal}
use Rattle.session_state.specs.declared.state.Request.{Request}
use Rattle.record_lines.specs.declared.line.Line.{Line}
use Rattle.node_state.specs.declared.call.CallLine.{CallLine}
use Rattle.node_state.specs.declared.call.CallLine.TheVariants as call
use Rattle.node_state.specs.declared.config.Config.{Config}
use Rattle.node_state.specs.declared.happened.Happened.{Happened}
use Rattle.node_state.specs.declared.happened.Happened.TheVariants.{Up, Asked}
use Rattle.node_state.specs.declared.packet.Body.{Body}
use Rattle.node_state.specs.declared.packet.Body.TheVariants as body
use Rattle.node_state.specs.declared.packet.Packet.{Packet}
use Rattle.node_state.specs.declared.state.Core.{Core}
use Rattle.world_model.specs.Run.{Happening}
use Rattle.world_model.specs.declared.event.Event.{Event}
use Rattle.world_model.specs.declared.event.Event.TheVariants.{Call}
use Rattle.run_safety.specs.Past.{History, records_of}
use Rattle.step_refinement.specs.Tied.{Scene}
use Rattle.row_laws.specs.failed_rows.Scenes.{Played}
use Rattle.line_laws.specs.Shown.{ShowsWhole}

-- ---- what is asked of events

-- the words of the call have a spelling: instances, attributes, and providers that are named. What names and values are, the call
-- itself tests
abbrev pub CallFits : CallLine → Type 0
CallFits (call.Join client g instance attrs) = IsU16 instance × IsAttrs attrs
CallFits (call.Expel client g phases out) = EachFits IsProvider out
CallFits (call.ChangeAttributes client g phases attrs) = IsAttrs attrs
CallFits _ = Unit {0}

abbrev pub EventFits : Option Event → Type 0
EventFits (Some (Call n line)) = CallFits line
EventFits _ = Unit {0}

-- who starts is a node, in an incarnation of 32 bits
abbrev pub StartFits : Happened → Type 0
StartFits (Up n inc) = IsNode n × IsU32 inc
StartFits _ = Unit {0}

pub record HappeningFits (e : Happening) : Type 0 where
  pub called : EventFits e.event
  pub started : (r : Happened) → Has r e.records → StartFits r

abbrev pub AllFit : History → Type 0
AllFit [] = Unit {0}
AllFit (e ∷ before) = HappeningFits e × AllFit before

-- ---- what is asked for

pub record IsRequest (p : ProviderId) (r : ℕ) (g : List ℕ) (x : Proposal) : Type 0 where
  pub provider : IsProvider p
  pub number : IsU32 r
  pub group : IsName g
  pub proposal : IsProposal x

-- each request that is recorded
abbrev pub RequestsAreSpelled : History → Type 0
RequestsAreSpelled h = (p : ProviderId) (r : ℕ) (g : List ℕ) (x : Proposal) → Has (Asked p r g x) (records_of h) → IsRequest p r g x

-- so each is a line
abbrev pub RequestsAreLines : History → Type 0
RequestsAreLines h = (p : ProviderId) (r : ℕ) (g : List ℕ) (x : Proposal) → Has (Asked p r g x) (records_of h) → (l : Line) × ShowsWhole (Asked p r g x) l

-- and each that is outstanding at a node
abbrev pub OutstandingAreSpelled : Scene → Type 0
OutstandingAreSpelled w =
    (n : ℕ) (s : Core) → w.cores n ≡ Some s → (q : Request) → Has q s.sessions.requests → IsRequest q.provider q.request q.group q.proposal

-- and each that a REQUEST carries
abbrev pub BodyFits : Body → Type 0
BodyFits (body.Request v g p r phases x) = IsRequest p r g x
BodyFits _ = Unit {0}

abbrev pub SentAreSpelled : List Packet → Type 0
SentAreSpelled ps = (q : Packet) → Has q ps → BodyFits q.body

-- whatever starts, stops and steps, where each call is noted as such
abbrev pub RequestsOfScenesAreSpelled : Type 0
RequestsOfScenesAreSpelled =
    (c : Config) (w : Scene) → Played c w → AllFit w.before → RequestsAreSpelled w.before × OutstandingAreSpelled w × SentAreSpelled w.sent
