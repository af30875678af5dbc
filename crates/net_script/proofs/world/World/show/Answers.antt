-- The node that is up is shown as the one that it stands for.
use Rattle.std.proofs.Common.{sym}
use Rattle.std.proofs.lemmas.Result.{on_ok_weaker}
use Rattle.net_script.proofs.ComingLaws.{show_goes, show_nothing}
use Rattle.net_script.proofs.HearLaws.{shown_heard, nothing_heard}
use Rattle.net_script.proofs.world.World.show.Goals as goal

pub returns-in-None-clause-goes : goal.returns-in-None-clause-goes
returns-in-None-clause-goes g c = show_nothing c.args.self.now c.args.number c.args.what c.args.out.now (sym c.in-None.ensures)

pub returns-in-None-clause-hears : goal.returns-in-None-clause-hears
returns-in-None-clause-hears g c = nothing_heard g.C.Callbacks.stands_for g.C.Callbacks.script g.C.Made.script_of c.args.self.now c.args.out.now

pub returns-in-Some-clause-goes : goal.returns-in-Some-clause-goes
returns-in-Some-clause-goes g c =
    on_ok_weaker c.record_status.result (λ shown. show_goes c.args.self.now c.args.number c.args.what c.in-Some.node.now c.args.out.now c.record_status.new.out (sym c.in-Some.ensures) shown) (rw c.core.ensures at c.record_status.ensures)

pub returns-in-Some-clause-hears : goal.returns-in-Some-clause-hears
returns-in-Some-clause-hears g c = on_ok_weaker c.record_status.result (λ shown. shown_heard g.C.Callbacks.stands_for g.C.Callbacks.script g.C.Made.script_of c.args.self.now _ _ c.args.out.now c.record_status.new.out shown) c.record_status.ensures
