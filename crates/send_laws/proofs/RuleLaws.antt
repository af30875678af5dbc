-- The laws of rows, from what each row goes to.
use Rattle.send_laws.proofs.Leads.{goes_appended_if, goes_closes, goes_begins}
use Rattle.send_laws.proofs.Rules.{goes_lookup, goes_name, goes_request, goes_tell, goes_entry, goes_ack, goes_vote, goes_gone}
use Rattle.send_laws.proofs.Calls.{goes_call}
use Rattle.send_laws.proofs.Ticks.{goes_ring_rule, goes_report, goes_rings_part, goes_led_part}
use Rattle.send_laws.proofs.Owed.{goes_owed_part}
use Rattle.send_laws.proofs.Ends.{goes_ended}
use Rattle.send_laws.specs.Laws.{AppendSends, CloseSends, BeginSends, LookupSends, NameSends, RequestSends, TellSends, EntrySends, AckSends, VoteSends, GoneSends, CallSends, RingSends, ReportSends, RingsPartSends, OwedPartSends, LedPartSends, EndSends, StepSends, ReopenedEnds}
use Rattle.send_laws.proofs.Reopened.{reopened_ends}
use Rattle.send_laws.proofs.Steps.{step_few}

pub append_sends : AppendSends
append_sends f s g e k = (goes_appended_if f s g e k).within

pub close_sends : CloseSends
close_sends f s g k = (goes_closes f s g k).within

pub begin_sends : BeginSends
begin_sends f s g x phases k = (goes_begins f s g x phases k).within

pub lookup_sends : LookupSends
lookup_sends s from g k = (goes_lookup s from g k).within

pub name_sends : NameSends
name_sends s g n k = (goes_name s g n k).within

pub request_sends : RequestSends
request_sends f s from g p r phases x k = (goes_request f s from g p r phases x k).within

pub tell_sends : TellSends
tell_sends s p r y k = (goes_tell s p r y k).within

pub entry_sends : EntrySends
entry_sends f s from g place stable e k = (goes_entry f s from g place stable e k).within

pub ack_sends : AckSends
ack_sends s from g n k = (goes_ack s from g n k).within

pub vote_sends : VoteSends
vote_sends f s g proto phase p v value message k = (goes_vote f s g proto phase p v value message k).within

pub gone_sends : GoneSends
gone_sends f s g p k = (goes_gone f s g p k).within

pub call_sends : CallSends
call_sends s c k = (goes_call s c k).within

pub ring_sends : RingSends
ring_sends s network from inc p k = (goes_ring_rule s network from inc p k).within

pub report_sends : ReportSends
report_sends s rows k = (goes_report s rows k).within

pub rings_part_sends : RingsPartSends
rings_part_sends s four k = (goes_rings_part s four k).within

pub owed_part_sends : OwedPartSends
owed_part_sends s k = (goes_owed_part s k).within

pub led_part_sends : LedPartSends
led_part_sends f s k = (goes_led_part f s k).within

pub end_sends : EndSends
end_sends f s k = (goes_ended f s k).within

pub step_sends : StepSends
step_sends f s e r = step_few f s e r

pub no_phase_follows : ReopenedEnds
no_phase_follows st gone q = reopened_ends st gone q
