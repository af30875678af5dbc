use Rattle.view_exchange.proofs.Formats.{whole_found, whole_only, answer_format}
use Rattle.view_exchange.proofs.answer.AnswerRef.read.Goals as goal

pub returns-clause-found : goal.returns-clause-found
returns-clause-found c = whole_found answer_format c.args.bytes.now _ c.whole_answer.ensures.bytes c.whole_answer.ensures.value

pub returns-clause-only : goal.returns-clause-only
returns-clause-only c = λ a h e. whole_only answer_format c.args.bytes.now _ a c.whole_answer.ensures.value h e
