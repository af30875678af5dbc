use Rattle.client_callbacks.specs.Handed.{notice_of}
use Rattle.table_client.proofs.ClientLaws.{notified_ok}
use Rattle.table_client.proofs.callbacks.TableClientCallbacks.notice.Goals as goal

pub returns-clause-stands : goal.returns-clause-stands
returns-clause-stands c h stood fresh =
    notified_ok c.follow.result c.args.self.now c.follow.new.self h (notice_of c.args.notice.now) c.follow.new.ballot.filled stood c.follow.ensures.copies (c.follow.ensures.filled fresh)
