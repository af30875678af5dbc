use Rattle.status_client.proofs.AskLaws.{rose_failing}
use Rattle.status_client.proofs.asking.ask.Goals as goal

pub returns-clause-failed : goal.returns-clause-failed
returns-clause-failed g c = λ e. rose_failing c.args.config.now 0 c.open_link.result c.args.asking _ _ _ c.open_link.ensures (c.converse.ensures.failing e)
