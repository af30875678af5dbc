-- What was read of the input stands for all of it.
use Rattle.std.proofs.Common.{sym, ◌∙◌, ap}
use Rattle.script_reader.specs.ClientScript.{client_script}
use Rattle.hags_cli.proofs.ClientLaws.{calls_have}
use Rattle.hags_cli.proofs.client_command.read_calls.Goals as goal

pub returns-clause-read : goal.returns-clause-read
returns-clause-read g c =
    calls_have (g.S.Source.left c.args.input.now) c.in_ok-front.front.items c.args.node _ c.in_ok-front.ensures.front
    (ap (client_script c.args.node) (sym c.as_slice.ensures.value) ∙ c.in_ok-script.ensures.read)
