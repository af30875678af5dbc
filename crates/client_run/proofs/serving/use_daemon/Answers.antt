use Rattle.client_run.proofs.UseLaws.{rose_writing, rose_receiving}
use Rattle.client_run.proofs.serving.use_daemon.Goals as goal

pub returns-clause-fault : goal.returns-clause-fault
returns-clause-fault g c = λ e.
    rose_writing c.args.config.now 0 c.open_link.result c.args.usage c.args.usage.turns c.args.lines.now _ _ _ c.open_link.ensures c.converse.ensures.ever (c.converse.ensures.written e)

pub returns-clause-failed : goal.returns-clause-failed
returns-clause-failed g c = λ e.
    rose_receiving c.args.config.now 0 c.open_link.result c.args.usage c.args.usage.turns c.args.lines.now _ _ _ c.open_link.ensures c.converse.ensures.ever (c.converse.ensures.failed e)
