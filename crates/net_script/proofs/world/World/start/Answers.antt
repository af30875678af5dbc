-- A node that is up, or spent, does not start.
use Rattle.std.proofs.Common.{sym}
use Rattle.std.proofs.lemmas.Bool.{ne_eqb}
use Rattle.std.proofs.lemmas.Result.{on_ok_weaker}
use Rattle.net_script.proofs.ComingLaws.{start_is_up, start_is_spent, start_begins}
use Rattle.net_script.proofs.HearLaws.{start_up_heard, start_spent_heard, start_begins_heard}
use Rattle.net_script.proofs.world.World.start.Goals as goal

pub returns-then-is_up-clause-goes : goal.returns-then-is_up-clause-goes
returns-then-is_up-clause-goes g c = start_is_up c.args.self.now c.args.node c.args.out.now (sym c.if-is_up.ensures)

pub returns-then-is_up-clause-hears : goal.returns-then-is_up-clause-hears
returns-then-is_up-clause-hears g c = start_up_heard g.C.Callbacks.stands_for g.C.Callbacks.script g.C.Made.script_of c.args.self.now c.args.node c.args.out.now (sym c.if-is_up.ensures)

pub returns-then-last-clause-goes : goal.returns-then-last-clause-goes
returns-then-last-clause-goes g c = start_is_spent c.args.self.now c.args.node c.last-last.result c.args.out.now (sym c.if-is_up.ensures) c.last-last.ensures c.if-last.true

pub returns-then-last-clause-hears : goal.returns-then-last-clause-hears
returns-then-last-clause-hears g c = start_spent_heard g.C.Callbacks.stands_for g.C.Callbacks.script g.C.Made.script_of c.args.self.now c.args.node c.last-last.result c.args.out.now (sym c.if-is_up.ensures) c.last-last.ensures c.if-last.true

pub returns-clause-goes : goal.returns-clause-goes
returns-clause-goes g c =
    on_ok_weaker c.begin.result
    (λ goes. start_begins c.args.self.now c.begin.new.self c.args.node c.last-last.result c.args.out.now c.begin.new.out (sym c.if-is_up.ensures) c.last-last.ensures (ne_eqb c.last-last.result 4294967295 c.if-last.false) goes) c.begin.ensures.goes

pub returns-clause-hears : goal.returns-clause-hears
returns-clause-hears g c =
    on_ok_weaker c.begin.result
    (λ hears. start_begins_heard g.C.Callbacks.stands_for g.C.Callbacks.script g.C.Made.script_of c.args.self.now c.begin.new.self.nodes c.args.node c.last-last.result c.args.out.now c.begin.new.out (sym c.if-is_up.ensures) c.last-last.ensures (ne_eqb c.last-last.result 4294967295 c.if-last.false) hears) c.begin.ensures.hears
