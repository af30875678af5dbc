use Rattle.answer_laws.proofs.Law.{answers_of_scenes_in_order as law}
use Rattle.answer_laws.proofs.answers_of_scenes_are_in_order.Goals as goal

pub returns : goal.returns
returns c = law
