-- A node that is up stops.
use Rattle.std.proofs.Common.{[], append-nil, refl, sym, ap}
use Rattle.std.proofs.lemmas.Result.{on_ok_weaker}
use Rattle.net_script.proofs.ComingLaws.{stop_goes, stop_nothing}
use Rattle.net_script.proofs.HearLaws.{stop_heard}
use Rattle.net_script.proofs.world.World.stop.Goals as goal

pub returns-then-not-remove-clause-goes : goal.returns-then-not-remove-clause-goes
returns-then-not-remove-clause-goes g c = stop_nothing c.args.self.now _ c.args.node c.args.out.now (sym c.if-not-remove.ensures.up) (ap (λ ns. record (c.args.self.now) { nodes = ns }) c.remove.ensures.left)

pub returns-then-not-remove-clause-hears : goal.returns-then-not-remove-clause-hears
returns-then-not-remove-clause-hears g c = stop_heard g.C.Callbacks.stands_for g.C.Callbacks.script g.C.Made.script_of c.args.self.now _ c.args.node c.args.out.now _ [] c.remove.ensures.left (sym (append-nil c.args.out.now)) refl

pub returns-clause-goes : goal.returns-clause-goes
returns-clause-goes g c =
    on_ok_weaker c.push.result (λ pushed. stop_goes c.args.self.now _ c.args.node c.args.out.now c.push.new.self (sym c.if-not-remove.ensures.up) (ap (λ ns. record (c.args.self.now) { nodes = ns }) c.remove.ensures.left) pushed) c.push.ensures.ok

pub returns-clause-hears : goal.returns-clause-hears
returns-clause-hears g c = on_ok_weaker c.push.result (λ pushed. stop_heard g.C.Callbacks.stands_for g.C.Callbacks.script g.C.Made.script_of c.args.self.now _ c.args.node c.args.out.now c.push.new.self _ c.remove.ensures.left pushed refl) c.push.ensures.ok
