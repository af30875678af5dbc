-- The entry is put, and recorded.
use Rattle.std.proofs.lemmas.Result.{on_ok_weaker}
use Rattle.node_groups.proofs.KeepLaws.{put_made}
use Rattle.node_groups.proofs.changes.put.Goals as goal

pub returns-clause-keeps : goal.returns-clause-keeps
returns-clause-keeps c =
    on_ok_weaker c.record_put.result
    (λ recording. put_made c.args.core.now c.put_entry.new.core c.record_put.new.core c.args.group.now c.args.entry.now c.len_of-place.result (rw c.bytes.ensures.value at c.len_of-place.ensures) c.in_ok-put_entry.ensures recording)
    c.record_put.ensures
