-- What stands in a datagram for attributes, a proposal, an entry or a state.
use Rattle.std.specs.Prelude.{◌≡◌, ℕ, List, Option, Some, None, option_copied}
use Rattle.std.specs.Option.{option_map}
use Rattle.std.specs.Borrow.{Bor}
use Rattle.group_attr.specs.declared.attrs.Attrs.{Attrs}
use Rattle.proposal_core.specs.declared.proposal.Proposal.{Proposal}
use Rattle.proposal_core.specs.declared.proposal.Proposal.TheVariants.{Join, Leave, Fail, Expel, State, Message, Attributes, Reflect}
use Rattle.proposal_core.specs.declared.entry.Closed.{Closed}
use Rattle.proposal_core.specs.declared.entry.Entry.{Entry}
use Rattle.proposal_core.specs.declared.entry.Entry.TheVariants.{Once, Begin, Phase, Approve, Reject, Late}
use Rattle.proposal_core.specs.declared.group_state.GroupState.{GroupState}
use Rattle.proposal_core.specs.declared.group_state.Running.{Running}
use Rattle.proposal_core.specs.StateCodec.{IsState, state_text}
use Rattle.group_codec.specs.declared.attrs.AttrsRef.{AttrsRef}
use Rattle.group_codec.specs.declared.proposals.ProposalRef.{ProposalRef}
use Rattle.group_codec.specs.declared.proposals.ProposalRef.TheVariants as proposal
use Rattle.group_codec.specs.declared.entries.ClosedRef.{ClosedRef}
use Rattle.group_codec.specs.declared.entries.EntryRef.{EntryRef}
use Rattle.group_codec.specs.declared.entries.EntryRef.TheVariants as entry
use Rattle.group_codec.specs.declared.states.RunningRef.{RunningRef}
use Rattle.group_codec.specs.declared.states.StateParts.{StateParts}

-- the attributes that a part of a datagram stands for
abbrev pub attrs_in : AttrsRef → Attrs
attrs_in r =
    record { phases = r.phases; batch = r.batch; default_vote = r.default_vote; limit = r.limit; source = option_copied r.source; source_phases = r.source_phases; source_limit = r.source_limit }

-- what a reader of attributes answers, as the attributes that it stands for
abbrev pub attrs_of : Option (AttrsRef × Bor (List ℕ)) → Option (Attrs × Bor (List ℕ))
attrs_of result = option_map (λ x. (attrs_in x.0, x.1)) result

-- the proposal that a part of a datagram stands for
abbrev pub proposal_in : ProposalRef → Proposal
proposal_in (proposal.Join ps attrs n) = Join ps (attrs_in attrs) n
proposal_in (proposal.Leave p r) = Leave p r
proposal_in (proposal.Fail out) = Fail out
proposal_in (proposal.Expel p r out) = Expel p r out
proposal_in (proposal.State p r value) = State p r value.now
proposal_in (proposal.Message p r bytes) = Message p r bytes.now
proposal_in (proposal.Attributes p r attrs) = Attributes p r (attrs_in attrs)
proposal_in (proposal.Reflect view place value) = Reflect view place value.now

-- what a reader of a proposal answers, as the proposal that it stands for
abbrev pub proposal_of : Option (ProposalRef × Bor (List ℕ)) → Option (Proposal × Bor (List ℕ))
proposal_of result = option_map (λ x. (proposal_in x.0, x.1)) result

-- the entry that a part of a datagram stands for

abbrev pub closed_in : ClosedRef → Closed
closed_in c = record { proto = c.proto; phase = c.phase; rows = c.rows; value = option_copied c.value; message = option_copied c.message }

abbrev pub entry_in : EntryRef → Entry
entry_in (entry.Once x) = Once (proposal_in x)
entry_in (entry.Begin x) = Begin (proposal_in x)
entry_in (entry.Phase c) = Phase (closed_in c)
entry_in (entry.Approve c) = Approve (closed_in c)
entry_in (entry.Reject c) = Reject (closed_in c)
entry_in (entry.Late proto phase ps) = Late proto phase ps

-- what parts of a datagram stand for

abbrev pub running_in : RunningRef → Running
running_in r = record { proto = r.proto; proposal = proposal_in r.proposal; phase = r.phase; proposed = option_copied r.proposed }

abbrev pub optional_running_in : Option RunningRef → Option Running
optional_running_in None = None
optional_running_in (Some r) = Some (running_in r)

abbrev pub parts_in : StateParts → GroupState
parts_in p =
    record { members = p.members; value = p.value.now; attrs = attrs_in p.attrs; failed = p.failed; value_at = p.value_at; reflected_at = p.reflected_at; running = optional_running_in p.running }

-- a state that has a spelling, and that spelling
pub record IsRead (s : GroupState) (text : List ℕ) : Type 0 where
  pub state : IsState s
  pub spelled : text ≡ state_text s
