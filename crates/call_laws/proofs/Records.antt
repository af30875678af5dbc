-- A call is refused, or it leaves its record.
use Rattle.std.proofs.Common.{◌≡◌, ◌⊎◌, ℕ, ◌+◌, List, [], ◌∷◌, Some, None, refl, sym, subst, ◌∙◌, inl, inr}
use Rattle.rsct_packet.specs.Search.{Has}
use Rattle.proposal_core.specs.declared.proposal.Proposal.{Proposal}
use Rattle.proposal_core.specs.declared.proposal.Proposal.TheVariants as proposal
use Rattle.rsct_packet.specs.declared.ids.ProviderId.{ProviderId}
use Rattle.session_state.specs.declared.state.MemberToken.{MemberToken}
use Rattle.session_state.specs.declared.state.SessionState.{SessionState}
use Rattle.session_state.specs.Calls.{new_provider}
use Rattle.node_state.specs.declared.call.CallLine.{CallLine}
use Rattle.node_state.specs.declared.call.CallLine.TheVariants as call
use Rattle.node_state.specs.declared.happened.Happened.{Happened}
use Rattle.node_state.specs.declared.happened.Happened.TheVariants as happened
use Rattle.node_state.specs.declared.state.Core.{Core}
use Rattle.node_state.specs.HandOn.{Answering}
use Rattle.node_state.specs.Calls.{take_call}
use Rattle.node_state.specs.Step.{Calls, at_work, stepped}
use Rattle.world_model.specs.declared.event.Event.{Event}
use Rattle.world_model.specs.declared.event.Event.TheVariants.{Call}
use Rattle.world_model.specs.World.{World, Node, node_at, scripts_after}
use Rattle.world_laws.specs.world_runs.Runs.{Recorded}
use Rattle.world_laws.proofs.world_runs.Traces.{after_records}
use Rattle.world_laws.specs.world_answers.Answers.{step_by, calls_by_if, happens_by, goes_on}
use Rattle.world_safety.proofs.Traces.{since_is}
use Rattle.call_laws.specs.Records.{WasRefused, WasAsked, LeavesRecord, CallsLeaveRecords}
use Rattle.call_laws.proofs.Walked.{walked_stepped}
use Rattle.call_laws.proofs.Outcomes.{Proposes, Leaves, Refuses, call_comes}

module _ (s : SessionState) (rs ts : List Happened) (more : (r : Happened) → Has r rs → Has r ts) where
  first : (r : Happened) → rs ≡ r ∷ [] → Has r ts
  first r e = more r (subst (Has r) (sym e) (inl refl))

  asked : (m : MemberToken) (make : ProviderId → ℕ → Proposal) → Proposes s m (λ x r. make x.provider r) rs → WasAsked make ts
  asked m make a = (a.who.provider, s.last_request + 1, a.who.group, first (happened.Asked a.who.provider (s.last_request + 1) a.who.group (make a.who.provider (s.last_request + 1))) a.is)

  left : (d : CallLine) → Leaves s d rs → LeavesRecord d ts
  left (call.Join client g instance attrs) l = (new_provider s instance, refl, first (happened.Asked (new_provider s instance) (s.last_request + 1) g (proposal.Join (new_provider s instance ∷ []) attrs None)) l)
  left (call.Leave client g phases) l = asked _ (λ p r. proposal.Leave p r) l
  left (call.Expel client g phases out) l = asked _ (λ p r. proposal.Expel p r out) l
  left (call.ChangeState client g phases value) l = asked _ (λ p r. proposal.State p r value) l
  left (call.SendMessage client g phases bytes) l = asked _ (λ p r. proposal.Message p r bytes) l
  left (call.ChangeAttributes client g phases attrs) l = asked _ (λ p r. proposal.Attributes p r attrs) l
  left (call.Vote client g vote value) l = (l.who.provider, l.phase.proto, l.phase.phase, first (happened.Cast l.who.provider l.phase.proto l.phase.phase vote value None) l.is)
  left (call.Init node name votes) l = tt
  left (call.Subscribe client g) l = tt
  left (call.Unsubscribe client g) l = tt
  left (call.Goodbye client) l = tt

  refused : Refuses rs → WasRefused ts
  refused a = (a.0, a.1, a.2, first (happened.Refused a.0 a.1 a.2) a.3)

-- the step of a call
step_leaves : (f : Answering) (s : Core) (d : CallLine) → WasRefused (stepped f s (Calls d)).records ⊎ LeavesRecord d (stepped f s (Calls d)).records
step_leaves f s d = by (call_comes d (at_work s) refl).leaves
  where
    rs : List Happened
    rs = (take_call (at_work s) d).records

    ts : List Happened
    ts = (stepped f s (Calls d)).records

    more : (r : Happened) → Has r rs → Has r ts
    more = (walked_stepped f s (Calls d)).grown

    by : Refuses rs ⊎ Leaves s.sessions d rs → WasRefused ts ⊎ LeavesRecord d ts
    by (inl a) = inl (refused s.sessions rs ts more a)
    by (inr l) = inr (left s.sessions rs ts more d l)

-- is what its event records
recorded_call : (f : Answering) (w : World) (n : ℕ) (d : CallLine) (x : Node) → node_at w n ≡ Some x → Recorded w (happens_by f w (Call n d)) (stepped f x.core (Calls d)).records
unfolding happens_by calls_by_if step_by
recorded_call f w n d x at =
    subst (λ z. Recorded w (calls_by_if f w n d z) (stepped f x.core (Calls d)).records) (sym at) (after_records w (scripts_after d x.core x.scripts) (stepped f x.core (Calls d)))

pub calls_leave_records : CallsLeaveRecords
calls_leave_records w e n d x rs is at recorded =
    let ts : List Happened = (stepped e.answers x.core (Calls d)).records in
    let here : Recorded w (goes_on w e) ts = subst (λ (z : Event). Recorded w (happens_by e.answers w z) ts) (sym is) (recorded_call e.answers w n d x at) in
    let same : ts ≡ rs = sym (since_is w (goes_on w e) ts here) ∙ since_is w (goes_on w e) rs recorded in
    subst (λ (z : List Happened). WasRefused z ⊎ LeavesRecord d z) same (step_leaves e.answers x.core d)
