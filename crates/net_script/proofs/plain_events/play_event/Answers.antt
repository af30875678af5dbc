use Rattle.std.proofs.Common.{refl, ap, Err}
use Rattle.play_state.specs.Faults.{fault_of_put}
use Rattle.play_state.specs.declared.play_fault.PlayFault.TheVariants as play_fault
use Rattle.play_state.specs.declared.play_fault.PutFault.TheVariants as put_fault
use Rattle.net_script.proofs.StageLaws.{leads_stopped, leads_ended}
use Rattle.net_script.proofs.TextLaws.{none_front}
use Rattle.net_script.proofs.EventLaws.{event_went, event_stops, event_put_stops}
use Rattle.net_script.proofs.plain_events.play_event.Goals as goal

pub returns-clause-outcome : goal.returns-clause-outcome
returns-clause-outcome g c p v h =
    leads_ended g.C.Callbacks.script g.C.Made.script_of g.C.Callbacks.stands_for c.end_by.result c.args.kinds _ _ c.args.stage.now _ p _ v
    (event_stops c.end_by.result c.in-Err.fault c.args.kinds _ _ c.args.stage.now p v c.args.event.now h (λ n is. c.in-Err.ensures.passes n (ap Err is)) (rw c.as_slice-in-Err.ensures.value at c.end_by.ensures.ends))

pub returns-in_err-count-in-Ok-clause-outcome : goal.returns-in_err-count-in-Ok-clause-outcome
returns-in_err-count-in-Ok-clause-outcome g c p v h =
    leads_stopped g.C.Callbacks.script g.C.Made.script_of g.C.Callbacks.stands_for c.from_residual.result play_fault.NoMemory c.args.kinds _ _ c.args.stage.now _ p _ v c.from_residual.ensures
    (event_put_stops g.C.Callbacks.stands_for put_fault.NoMemory c.args.kinds _ _ c.args.stage.now c.event.new.self p v c.args.event.now c.new-records.result c.event.new.out c.new-records.ensures h c.in-Ok.ensures.goes c.in-Ok.ensures.hears (none_front _ _))

pub returns-in_err-write_records-in-Ok-clause-outcome : goal.returns-in_err-write_records-in-Ok-clause-outcome
returns-in_err-write_records-in-Ok-clause-outcome g c p v h =
    leads_stopped g.C.Callbacks.script g.C.Made.script_of g.C.Callbacks.stands_for c.from_residual-in_err-write_records-in-Ok.result (fault_of_put c.in_err-write_records-in-Ok.field-0.0) c.args.kinds _ _ c.args.stage.now _ p _ v c.from_residual-in_err-write_records-in-Ok.ensures
    (event_put_stops g.C.Callbacks.stands_for c.in_err-write_records-in-Ok.field-0.0 c.args.kinds _ _ c.args.stage.now c.event.new.self p v c.args.event.now c.new-records.result c.event.new.out c.new-records.ensures h c.in-Ok.ensures.goes c.in-Ok.ensures.hears (rw c.as_slice-in-Ok.ensures at c.in_err-write_records-in-Ok.ensures.front))

pub returns-in-Ok-clause-outcome : goal.returns-in-Ok-clause-outcome
returns-in-Ok-clause-outcome g c p v h =
    event_went tt c.args.kinds _ _ c.args.stage.now (record (c.args.stage.now) { world = c.event.new.self; counts = c.count.new.self; text = c.write_records.new.text }) p v c.args.event.now c.new-records.result c.event.new.out c.new-records.ensures h refl (rw c.as_slice.ensures at c.in_ok-count-in-Ok.ensures) c.in-Ok.ensures.goes c.in-Ok.ensures.hears (rw c.as_slice-in-Ok.ensures at c.in_ok-write_records-in-Ok.ensures.done)
