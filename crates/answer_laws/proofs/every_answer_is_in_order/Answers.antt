use Rattle.answer_laws.proofs.Runs.{every_answer_in_order as law}
use Rattle.answer_laws.proofs.every_answer_is_in_order.Goals as goal

pub returns : goal.returns
returns c = law
