-- What is recorded was told.
use Rattle.std.proofs.lemmas.Result.{on_ok_weaker}
use Rattle.group_leading.proofs.WorkLaws.{on_ok_both}
use Rattle.node_views.proofs.ToldLaws.{noted_does}
use Rattle.node_views.proofs.notes.note_bases.Goals as goal

pub returns-clause-does : goal.returns-clause-does
returns-clause-does g c =
    on_ok_weaker c.tell_all.result (λ told. noted_does _ _ c.args.core.now c.tell_all.new.records c.args.bases.now told.0 told.1) (on_ok_both _ _ c.tell_all.result c.tell_all.ensures.records c.tell_all.ensures.received)
