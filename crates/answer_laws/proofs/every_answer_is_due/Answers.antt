use Rattle.answer_laws.proofs.Runs.{every_answer_is_due as law}
use Rattle.answer_laws.proofs.every_answer_is_due.Goals as goal

pub returns : goal.returns
returns c = law
