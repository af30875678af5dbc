-- A telling is the whole row.
use Rattle.group_leading.proofs.RowLaws.{work_told, on_ok_two}
use Rattle.group_members.proofs.TellLaws.{tell_stays}
use Rattle.group_members.proofs.tells.take_tell.Goals as goal

pub returns-clause-work : goal.returns-clause-work
returns-clause-work g c =
    on_ok_two c.tell.result
    (work_told _ _ c.args.core.now c.tell.new.core _ c.args.clients.now.items c.tell.new.clients.items c.requires.work (tell_stays c.args.core.now c.args.provider c.args.request c.args.why))
    c.tell.ensures.does c.tell.ensures.aligned
