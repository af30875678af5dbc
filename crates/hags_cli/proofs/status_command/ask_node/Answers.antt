-- The text of the answer is written.
use Rattle.hags_cli.proofs.CommandLaws.{asks_answered}
use Rattle.hags_cli.proofs.status_command.ask_node.Goals as goal

pub returns : goal.returns
returns g c =
    asks_answered c.tell.result c.args.asking _ c.in_ok-settings.settings.script c.in_ok-text.text.items c.as_slice.result.now _ c.as_slice.ensures.value c.in_ok-settings.ensures.read c.in_ok-settings.ensures.end c.in_ok-text.ensures.answered c.in_ok-text.ensures.unwritten
    c.tell.ensures
