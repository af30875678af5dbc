use Rattle.net_script.proofs.PlayLaws.{opened, played_done, played_stopped, played_cut, first_trace, starts_stopped, starts_cut}
use Rattle.net_script.proofs.script.play_begun.Goals as goal

pub returns-in_err-world-clause-played : goal.returns-in_err-world-clause-played
returns-in_err-world-clause-played g c = starts_stopped g.C.Callbacks.script g.C.Made.script_of g.C.Callbacks.stands_for c.from_residual.result c.args.kinds c.args.limit c.args.script.now _ c.from_residual.ensures

pub returns-in_err-write_records-clause-played : goal.returns-in_err-write_records-clause-played
returns-in_err-write_records-clause-played g c =
    starts_cut g.C.Callbacks.script g.C.Made.script_of g.C.Callbacks.stands_for c.from_residual-in_err-write_records.result c.in_err-write_records.field-0.0 c.args.kinds c.args.limit c.args.script.now _ _ c.new.new.out c.from_residual-in_err-write_records.ensures
    (first_trace c.args.script.now.config c.args.limit c.in_ok-world.world c.new-records.result c.new.new.out c.new-records.ensures c.in_ok-world.ensures.goes) (rw (c.as_slice.ensures, c.new-text.ensures.items) at c.in_err-write_records.ensures.front)

pub returns-in-Ok-clause-played : goal.returns-in-Ok-clause-played
returns-in-Ok-clause-played g c =
    played_done c.args.kinds _ _ _ _ c.args.limit (record { world = c.in_ok-world.world; cuts = c.new-2.result; counts = c.none.result; text = c.write_records.new.text }) c.play_lines.new.stage c.args.script.now c.new.new.out
    (opened c.args.script.now.config c.args.limit (record { world = c.in_ok-world.world; cuts = c.new-2.result; counts = c.none.result; text = c.write_records.new.text }) c.new-records.result c.new.new.out c.new-records.ensures c.new-2.ensures c.in_ok-world.ensures.goes) c.in_ok-world.ensures.hears (rw (c.as_slice.ensures, c.new-text.ensures.items) at c.in_ok-write_records.ensures.done) (rw c.as_slice-2.ensures at c.in-Ok.ensures.outcome) (rw c.as_slice-in-Ok.ensures.value at c.in_ok-write_rest-in-Ok.ensures.done)

pub returns-in_err-write_rest-in-Ok-clause-played : goal.returns-in_err-write_rest-in-Ok-clause-played
returns-in_err-write_rest-in-Ok-clause-played g c =
    played_cut c.from_residual-in_err-write_rest-in-Ok.result c.in_err-write_rest-in-Ok.field-0.0 c.args.kinds _ _ _ _ c.args.limit (record { world = c.in_ok-world.world; cuts = c.new-2.result; counts = c.none.result; text = c.write_records.new.text }) c.play_lines.new.stage c.args.script.now c.new.new.out c.from_residual-in_err-write_rest-in-Ok.ensures
    (opened c.args.script.now.config c.args.limit (record { world = c.in_ok-world.world; cuts = c.new-2.result; counts = c.none.result; text = c.write_records.new.text }) c.new-records.result c.new.new.out c.new-records.ensures c.new-2.ensures c.in_ok-world.ensures.goes) (rw (c.as_slice.ensures, c.new-text.ensures.items) at c.in_ok-write_records.ensures.done) (rw c.as_slice-2.ensures at c.in-Ok.ensures.outcome) (rw c.as_slice-in-Ok.ensures.value at c.in_err-write_rest-in-Ok.ensures.front)

pub returns-clause-played : goal.returns-clause-played
returns-clause-played g c =
    played_stopped c.in-Err.e c.args.kinds _ _ _ c.args.limit (record { world = c.in_ok-world.world; cuts = c.new-2.result; counts = c.none.result; text = c.write_records.new.text }) c.play_lines.new.stage c.args.script.now c.new.new.out
    (opened c.args.script.now.config c.args.limit (record { world = c.in_ok-world.world; cuts = c.new-2.result; counts = c.none.result; text = c.write_records.new.text }) c.new-records.result c.new.new.out c.new-records.ensures c.new-2.ensures c.in_ok-world.ensures.goes) (rw (c.as_slice.ensures, c.new-text.ensures.items) at c.in_ok-write_records.ensures.done) (rw c.as_slice-2.ensures at c.in-Err.ensures.outcome)
