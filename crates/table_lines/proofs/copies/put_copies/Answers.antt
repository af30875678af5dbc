-- One copy more.
use Rattle.table_lines.proofs.CopyLaws.{no_copies, copy_on, copy_there}
use Rattle.table_lines.proofs.copies.put_copies.Goals as goal
use Rattle.table_lines.proofs.copies.put_copies.Goals.{in-Some+in_ok-put_of_group, in_default}

pub loop-place-init : goal.loop-place-init
loop-place-init c = no_copies c.args.group.now c.args.out.now.items c.args.client.now

pub loop-place-preserved : goal.loop-place-preserved
loop-place-preserved c =
    elim c.match-copy_at.branch [
      | in-Some+in_ok-put_of_group w ↦
          rw w.out-is
          (copy_on c.args.client.now c.loop-place.place c.args.group.now c.args.out.now.items (w.in-Some.provider, w.in-Some.own.now, w.in-Some.copy.now) c.loop-place.out.items _
          (rw w.in-Some.is at c.copy_at.ensures) c.loop-place.invariant w.in_ok-put_of_group.ensures)
      | in_default w ↦ absurd (copy_there c.args.client.now c.loop-place.place (rw (← c.len-place-end.ensures) c.loop-place-test.true) (rw w.in_default.is at c.copy_at.ensures))
    ]
