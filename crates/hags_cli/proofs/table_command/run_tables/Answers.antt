-- How a play with tables ends, fault by fault.
use Rattle.std.proofs.Common.{ap, sym, ◌∙◌, arith}
use Rattle.std.specs.Prelude.{Err}
use Rattle.world_model.specs.Reading.{script_of}
use Rattle.hags_cli.specs.Tables.{tables_text}
use Rattle.hags_cli.proofs.TableLaws.{play_ends, lines_end, told_ends}
use Rattle.hags_cli.proofs.table_command.run_tables.Goals as goal

pub returns-in_err-world : goal.returns-in_err-world
returns-in_err-world g c =
    play_ends _ c.none.ensures c.args.group.now _ _ _ _ _ _ _ c.in_ok-front.front.items c.in_ok-script.script c.from_residual-in_err-world.result c.in_err-world.field-0.0 c.from_residual-in_err-world.ensures c.in_ok-front.ensures.front
    (ap script_of (sym c.as_slice.ensures.value) ∙ c.in_ok-script.ensures) c.in_err-world.ensures.played c.in_err-world.ensures.unbegun (λ b n is. c.in_err-world.ensures.not_kept b n (ap Err is)) (λ e. c.in_err-world.ensures.fault (ap Err e))

pub returns-in_err-text : goal.returns-in_err-text
returns-in_err-text g c =
    lines_end _ c.none.ensures c.args.group.now _ _ _ _ _ _ _ c.in_ok-script.script c.in_ok-world.world c.from_residual-in_err-text.result c.from_residual-in_err-text.ensures c.in_ok-world.ensures.played c.in_ok-world.ensures.unbegun

pub returns : goal.returns
returns g c =
    told_ends _ c.none.ensures c.args.group.now _ _ _ _ _ _ _ _ _ _ c.in_ok-front.front.items c.in_ok-script.script c.in_ok-world.world c.as_slice-2.result.now c.tell.result c.in_ok-front.ensures.front c.in_ok-front.ensures.end
    (ap script_of (sym c.as_slice.ensures.value) ∙ c.in_ok-script.ensures) c.in_ok-world.ensures.played c.in_ok-world.ensures.unbegun (c.as_slice-2.ensures.value ∙ (c.in_ok-text.ensures ∙ ap (λ g. tables_text g c.in_ok-world.world) c.bytes.ensures.value)) (λ rose. omega (arith, rose, c.in_ok-world.ensures.later)) c.tell.ensures
