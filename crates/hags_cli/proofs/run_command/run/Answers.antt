-- A play that was done, and one that ended.
use Rattle.std.proofs.Common.{ap, sym, ◌∙◌}
use Rattle.std.specs.Prelude.{Err}
use Rattle.world_model.specs.Reading.{script_of}
use Rattle.hags_cli.proofs.RunLaws.{play_ends, play_done}
use Rattle.hags_cli.proofs.run_command.run.Goals as goal

pub returns-in_err-play : goal.returns-in_err-play
returns-in_err-play g c =
    play_ends c.args.kinds _ _ _ _ _ _ _ c.in_ok-front.front.items c.in_ok-script.script c.from_residual-in_err-play.result c.in_err-play.field-0.0 c.from_residual-in_err-play.ensures c.in_ok-front.ensures.front
    (ap script_of (sym c.as_slice.ensures.value) ∙ c.in_ok-script.ensures)
    (λ n is. c.in_err-play.ensures.kept n (ap Err is)) c.in_err-play.ensures.front c.in_err-play.ensures.safe_front
    (λ e. c.in_err-play.ensures.fault (ap Err e))

pub returns : goal.returns
returns g c =
    play_done c.args.kinds _ _ _ _ c.in_ok-front.front.items c.in_ok-script.script c.in_ok-front.ensures.front c.in_ok-front.ensures.end
    (ap script_of (sym c.as_slice.ensures.value) ∙ c.in_ok-script.ensures) c.in_ok-play.ensures.done c.in_ok-play.ensures.safe
