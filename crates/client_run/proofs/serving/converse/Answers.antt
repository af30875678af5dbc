use Rattle.client_run.proofs.UseLaws.{keyed_none}
use Rattle.client_run.proofs.serving.converse.Goals as goal

pub returns-in_err-room-clause-ever : goal.returns-in_err-room-clause-ever
returns-in_err-room-clause-ever g c = keyed_none c.args.config.now c.args.usage c.args.lines.now c.args.usage.turns c.key_of-key.result _ _ c.key_of-key.ensures
