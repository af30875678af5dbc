-- How many packets the rules of a step send at most, from any state that stands: `Within c` allows c packets, one for
-- each join that no longer waits, and a hundred for each put.
use Rattle.std.specs.Prelude.{◌≡◌, Some, ℕ, ◌+◌, ◌*◌, ◌≤◌, List, length, Option}
use Rattle.rsct_packet.specs.declared.ids.ProviderId.{ProviderId}
use Rattle.rsct_packet.specs.declared.ids.ProtoId.{ProtoId}
use Rattle.group_attr.specs.declared.attrs.Phases.{Phases}
use Rattle.proposal_core.specs.declared.proposal.Proposal.{Proposal}
use Rattle.proposal_core.specs.declared.entry.Vote.{Vote}
use Rattle.proposal_core.specs.declared.entry.Vote.TheVariants.{Continue}
use Rattle.proposal_core.specs.declared.entry.Entry.{Entry}
use Rattle.proposal_core.specs.declared.group_state.GroupState.{GroupState}
use Rattle.vote_phases.specs.Tally.{outcome}
use Rattle.adapter_ring.specs.declared.packet.RingPacket.{RingPacket}
use Rattle.packet_bodies.specs.declared.body.ReportRow.{ReportRow}
use Rattle.client_callbacks.specs.declared.told.Why.{Why}
use Rattle.node_state.specs.declared.call.CallLine.{CallLine}
use Rattle.node_state.specs.declared.state.Core.{Core}
use Rattle.node_state.specs.State.{led_groups, fits_at_end}
use Rattle.node_state.specs.HandOn.{Answering}
use Rattle.node_state.specs.Leading.{tally_for, append_if_fits, closes, begins}
use Rattle.node_state.specs.Following.{take_lookup, take_name, take_request, take_tell, take_entry, take_ack, take_vote, take_gone}
use Rattle.node_state.specs.Ticks.{ring_rule, take_report, tick_rings, tick_owed, tick_led}
use Rattle.node_state.specs.Ending.{end_step}
use Rattle.node_state.specs.Calls.{take_call}
use Rattle.node_state.specs.Step.{NodeEvent, at_work, stepped}
use Rattle.send_laws.specs.Bound.{puts_of, led_count, owed_count, Stands, Within, Ready}

-- an entry is appended by the leader, phases close, and a protocol begins: a hundred packets for each put
abbrev pub AppendSends : Type 0
AppendSends = (f : Answering) (s : Core) (g : List ℕ) (e : Entry) → Stands s → Within 0 s (append_if_fits f s g e (fits_at_end s g e))

abbrev pub CloseSends : Type 0
CloseSends = (f : Answering) (s : Core) (g : List ℕ) → Stands s → Within 0 s (closes f s g)

abbrev pub BeginSends : Type 0
BeginSends = (f : Answering) (s : Core) (g : List ℕ) (x : Proposal) (phases : Phases) → Stands s → Within 0 s (begins f s g x phases)

-- the packets of a view
abbrev pub LookupSends : Type 0
LookupSends = (s : Core) (from : ℕ) (g : List ℕ) → Stands s → Within 1 s (take_lookup s from g)

-- each outstanding request at most
abbrev pub NameSends : Type 0
NameSends = (s : Core) (g : List ℕ) (n : ℕ) → Stands s → Within (length s.sessions.requests) s (take_name s g n)

-- a refusal, or a join that waits
abbrev pub RequestSends : Type 0
RequestSends = (f : Answering) (s : Core) (from : ℕ) (g : List ℕ) (p : ProviderId) (r : ℕ) (phases : Phases) (x : Proposal) → Stands s → Within 1 s (take_request f s from g p r phases x)

abbrev pub TellSends : Type 0
TellSends = (s : Core) (p : ProviderId) (r : ℕ) (y : Why) → Stands s → Within 0 s (take_tell s p r y)

-- ACK
abbrev pub EntrySends : Type 0
EntrySends = (f : Answering) (s : Core) (from : ℕ) (g : List ℕ) (place stable : ℕ) (e : Entry) → Stands s → Within 1 s (take_entry f s from g place stable e)

abbrev pub AckSends : Type 0
AckSends = (s : Core) (from : ℕ) (g : List ℕ) (n : ℕ) → Stands s → Within 0 s (take_ack s from g n)

abbrev pub VoteSends : Type 0
VoteSends = (f : Answering) (s : Core) (g : List ℕ) (proto : ProtoId) (phase : ℕ) (p : ProviderId) (v : Vote) (value message : Option (List ℕ)) → Stands s → Within 0 s (take_vote f s g proto phase p v value message)

abbrev pub GoneSends : Type 0
GoneSends = (f : Answering) (s : Core) (g : List ℕ) (p : ProviderId) → Stands s → Within 0 s (take_gone f s g p)

-- a request or a ballot, or GONE for each provider of the client
abbrev pub CallSends : Type 0
CallSends = (s : Core) (c : CallLine) → Stands s → Within (1 + length s.sessions.providers) s (take_call s c)

-- a packet of a ring, and a report
abbrev pub RingSends : Type 0
RingSends = (s : Core) (network from inc : ℕ) (p : RingPacket) → Stands s → Within 64 s (ring_rule s network from inc p)

abbrev pub ReportSends : Type 0
ReportSends = (s : Core) (rows : List ReportRow) → Stands s → Within 0 s (take_report s rows)

-- the parts of a tick: 97 for each of four rings, and reports
abbrev pub RingsPartSends : Type 0
RingsPartSends = (s : Core) → length s.rings ≤ 4 → Stands s → Within 420 s (tick_rings s)

abbrev pub OwedPartSends : Type 0
OwedPartSends = (s : Core) → Stands s → Within (owed_count s) s (tick_owed s)

-- 16 entries to each of 32 members, in each group
abbrev pub LedPartSends : Type 0
LedPartSends = (f : Answering) (s : Core) → Stands s → Within (512 * length (led_groups s)) s (tick_led f s)

-- the end of a step
abbrev pub EndSends : Type 0
EndSends = (f : Answering) (s : Core) → Stands s → Within 0 s (end_step f s)

-- A whole step: what stands before it is what `at_work` says of s, which is s with nothing sent or recorded.
abbrev pub StepSends : Type 0
StepSends =
    (f : Answering) (s : Core) (e : NodeEvent) → Ready (at_work s) e →
    length (stepped f s e).sends ≤ 600 + 600 * led_count s + 100 * puts_of (stepped f s e).records + 2 * owed_count s

-- A phase that is opened anew closes at once only where all its voters failed, and no other phase follows it.
abbrev pub ReopenedEnds : Type 0
ReopenedEnds = (st : GroupState) (gone : List ProviderId) → outcome (tally_for st gone) ≡ Some Continue → ⊥
