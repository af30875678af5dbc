use Rattle.client_callbacks.specs.Handed.{notice_of}
use Rattle.table_client.proofs.ClientLaws.{noticed_ok}
use Rattle.table_client.proofs.client.TableClient.follow.Goals as goal

pub returns-clause-copies : goal.returns-clause-copies
returns-clause-copies c =
    noticed_ok c.put.result (notice_of c.args.notice.now) c.args.self.now c.take.new.self c.put.new.self c.in_ok-kept.kept c.follow.new.self c.in_ok-kept.ensures.taken c.in_ok-kept.ensures.left c.in_ok-follow.ensures c.put.ensures
