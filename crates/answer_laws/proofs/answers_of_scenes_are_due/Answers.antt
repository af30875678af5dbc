use Rattle.answer_laws.proofs.Law.{answers_of_scenes_are_due as law}
use Rattle.answer_laws.proofs.answers_of_scenes_are_due.Goals as goal

pub returns : goal.returns
returns c = law
