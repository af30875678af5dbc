-- A length that is noted, and what is forgotten, leave all else as it is.
use Rattle.std.proofs.lemmas.Result.{on_ok_weaker}
use Rattle.group_requests.proofs.AckLaws.{acked_keeps}
use Rattle.group_requests.proofs.acks.take_ack.Goals as goal

pub returns-clause-keeps : goal.returns-clause-keeps
returns-clause-keeps c = on_ok_weaker c.note.result (acked_keeps c.args.core.now c.note.new.core c.args.from c.args.group.now c.args.len) c.note.ensures
