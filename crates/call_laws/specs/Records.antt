-- A call of a client at a node that is up is refused, or it leaves its record.
use Rattle.std.specs.Prelude.{◌≡◌, ◌⊎◌, ℕ, List, [], ◌∷◌, Some, None}
use Rattle.rsct_packet.specs.declared.ids.ProviderId.{ProviderId}
use Rattle.rsct_packet.specs.declared.ids.ProtoId.{ProtoId}
use Rattle.rsct_packet.specs.Search.{Has}
use Rattle.proposal_core.specs.declared.proposal.Proposal.{Proposal}
use Rattle.proposal_core.specs.declared.proposal.Proposal.TheVariants as proposal
use Rattle.session_state.specs.declared.fault.GsFault.{GsFault}
use Rattle.node_state.specs.declared.call.CallLine.{CallLine}
use Rattle.node_state.specs.declared.call.CallLine.TheVariants as call
use Rattle.node_state.specs.declared.happened.Happened.{Happened}
use Rattle.node_state.specs.declared.happened.Happened.TheVariants.{Asked, Cast, Refused}
use Rattle.world_model.specs.declared.event.Event.TheVariants.{Call}
use Rattle.world_model.specs.World.{World, Node, node_at}
use Rattle.world_laws.specs.world_runs.Runs.{Recorded}
use Rattle.world_laws.specs.world_answers.Answers.{Answered, goes_on}

abbrev pub WasRefused : List Happened → Type 0
WasRefused rs = (n : ℕ) × (client : List ℕ) × (fault : GsFault) × Has (Refused n client fault) rs

-- this was asked, under some number, for some provider
abbrev pub WasAsked : (ProviderId → ℕ → Proposal) → List Happened → Type 0
WasAsked make rs = (p : ProviderId) × (r : ℕ) × (g : List ℕ) × Has (Asked p r g (make p r)) rs

-- what a call that is taken leaves: a request that says what the call says, or its ballot. Another call leaves no record
abbrev pub LeavesRecord : CallLine → List Happened → Type 0
LeavesRecord (call.Join client g instance attrs) rs = (p : ProviderId) × (p.instance ≡ instance) × Has (Asked p p.join g (proposal.Join (p ∷ []) attrs None)) rs
LeavesRecord (call.Leave client g phases) rs = WasAsked (λ p r. proposal.Leave p r) rs
LeavesRecord (call.Expel client g phases out) rs = WasAsked (λ p r. proposal.Expel p r out) rs
LeavesRecord (call.ChangeState client g phases value) rs = WasAsked (λ p r. proposal.State p r value) rs
LeavesRecord (call.SendMessage client g phases bytes) rs = WasAsked (λ p r. proposal.Message p r bytes) rs
LeavesRecord (call.ChangeAttributes client g phases attrs) rs = WasAsked (λ p r. proposal.Attributes p r attrs) rs
LeavesRecord (call.Vote client g vote value) rs = (p : ProviderId) × (proto : ProtoId) × (phase : ℕ) × Has (Cast p proto phase vote value None) rs
LeavesRecord _ rs = Unit {0}

-- so it is in every world, of what the event records
abbrev pub CallsLeaveRecords : Type 0
CallsLeaveRecords =
    (w : World) (e : Answered) (n : ℕ) (line : CallLine) (x : Node) (rs : List Happened) → e.event ≡ Call n line → node_at w n ≡ Some x → Recorded w (goes_on w e) rs → WasRefused rs ⊎ LeavesRecord line rs
