use Rattle.std.specs.Prelude.{option_copied}
use Rattle.client_callbacks.specs.Handed.{notice_of}
use Rattle.table_client.proofs.BallotLaws.{filled_new}
use Rattle.table_client.proofs.sharing.fill.Goals as goal

pub returns-in_ok-set-clause-filled : goal.returns-in_ok-set-clause-filled
returns-in_ok-set-clause-filled c fresh =
    filled_new c.args.ballot.now c.set.new.self (notice_of c.args.notice.now) c.args.kept.now c.in_ok-answer.answer c.vote.result (option_copied c.message.result) fresh c.if-notice.true c.in_ok-answer.ensures c.vote.ensures c.message.ensures.message c.message.ensures.value c.in_ok-set.ensures.ok
