-- What a provider asks of its group.
use Rattle.std.specs.Prelude.{ℕ, ◌<◌, ◌^◌, List, length, Option, Some, None, Result, Err}
use Rattle.rsct_packet.specs.declared.ids.ProviderId.{ProviderId}
use Rattle.rsct_packet.specs.Providers.{AreProviders}
use Rattle.group_attr.specs.declared.attrs.Phases.{Phases}
use Rattle.group_attr.specs.Attrs.{first_fault}
use Rattle.proposal_core.specs.declared.proposal.Proposal.{Proposal}
use Rattle.proposal_core.specs.declared.proposal.Proposal.TheVariants as proposal
use Rattle.session_state.specs.declared.fault.GsFault.{GsFault}
use Rattle.session_state.specs.declared.fault.GsFault.TheVariants as fault
use Rattle.session_state.specs.declared.state.MemberToken.{MemberToken}
use Rattle.session_state.specs.declared.state.Provider.{Provider}
use Rattle.session_state.specs.declared.state.SessionState.{SessionState}
use Rattle.session_state.specs.Calls.{unless_fault, ask_fault, asked, value_fault, message_fault, targets_fault, attributes_fault, left, expelled, state_changed, message_sent, attributes_changed}
use Rattle.session_calls.specs.declared.asking.Asked.{Asked}
use Rattle.session_calls.specs.declared.asking.Asked.TheVariants as asks

-- the call that asks it
abbrev pub asked_for : SessionState → MemberToken → Phases → Asked → Result SessionState GsFault
asked_for s m phases asks.Leave = left s m phases
asked_for s m phases (asks.Expel out) = expelled s m phases out.now
asked_for s m phases (asks.State value) = state_changed s m phases value.now
asked_for s m phases (asks.Message bytes) = message_sent s m phases bytes.now
asked_for s m phases (asks.Attributes attrs) = attributes_changed s m phases attrs

-- what is wrong with it, of a provider of this group
abbrev pub parameter_fault : SessionState → List ℕ → Asked → Option GsFault
parameter_fault s g asks.Leave = None
parameter_fault s g (asks.Expel out) = targets_fault out.now
parameter_fault s g (asks.State value) = value_fault s (Some value.now)
parameter_fault s g (asks.Message bytes) = message_fault bytes.now
parameter_fault s g (asks.Attributes attrs) = attributes_fault (first_fault attrs g)

-- a proposal has room for it
abbrev pub HasRoom : Asked → Type 0
HasRoom asks.Leave = Unit {0}
HasRoom (asks.Expel out) = AreProviders out.now
HasRoom (asks.State value) = length value.now < 2 ^ 16
HasRoom (asks.Message bytes) = length bytes.now < 2 ^ 16
HasRoom (asks.Attributes attrs) = Unit {0}

abbrev pub proposal_of : Asked → ProviderId → ℕ → Proposal
proposal_of asks.Leave p r = proposal.Leave p r
proposal_of (asks.Expel out) p r = proposal.Expel p r out.now
proposal_of (asks.State value) p r = proposal.State p r value.now
proposal_of (asks.Message bytes) p r = proposal.Message p r bytes.now
proposal_of (asks.Attributes attrs) p r = proposal.Attributes p r attrs

abbrev pub asked_by : SessionState → Option Provider → Phases → Asked → Result SessionState GsFault
asked_by s None phases what = Err fault.BadMemberToken
asked_by s (Some x) phases what = unless_fault (ask_fault s x (parameter_fault s x.group what)) (asked s x phases (proposal_of what x.provider))
