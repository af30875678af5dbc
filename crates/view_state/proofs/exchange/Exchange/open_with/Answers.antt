use Rattle.view_state.proofs.TailLaws.{begun_keeps}
use Rattle.view_state.proofs.exchange.Exchange.open_with.Goals as goal

pub returns-clause-tails : goal.returns-clause-tails
returns-clause-tails c = λ h. begun_keeps c.args.view c.args.asked c.args.own c.open_alone.result c.open_alone.ensures h
