-- The table of names, and an answer, leave all else as it is.
use Rattle.std.proofs.lemmas.Result.{on_ok_weaker}
use Rattle.group_members.proofs.NameLaws.{looked_keeps}
use Rattle.group_members.proofs.names.take_lookup.Goals as goal

pub returns-clause-keeps : goal.returns-clause-keeps
returns-clause-keeps c = on_ok_weaker c.send_name.result (looked_keeps c.args.core.now c.send_name.new.core c.look_up.new.names c.args.from _) c.send_name.ensures
