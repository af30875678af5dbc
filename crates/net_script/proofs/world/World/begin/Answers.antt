-- What a node that starts leaves.
use Rattle.std.proofs.Common.{[], ◌++◌, refl, ap, ◌∙◌}
use Rattle.std.proofs.lemmas.Result.{on_ok_weaker}
use Rattle.node_core.specs.Node.{NodeView}
use Rattle.net_script.proofs.ComingLaws.{begins_goes}
use Rattle.net_script.proofs.HearLaws.{begin_heard}
use Rattle.net_script.proofs.world.World.begin.Goals as goal

pub returns-clause-goes : goal.returns-clause-goes
returns-clause-goes g c =
    on_ok_weaker c.append.result
    (λ appended. begins_goes c.args.self.now _ c.args.number c.args.inc c.take_records-records.new.self c.args.out.now c.append.new.self
    (c.take_records-records.ensures.left ∙ ap (λ (z : NodeView g.row.C.Denot). record z { core = record (z.core) { records = [] } }) c.in_ok-node.ensures) refl c.in_ok-insert.ensures c.in_ok-note.ensures refl refl refl
    (appended.0 ∙ ap (λ rs. c.args.out.now ++ rs) (c.take_records-records.ensures.taken ∙ ap (λ (z : NodeView g.row.C.Denot). z.core.records) c.in_ok-node.ensures)))
    c.append.ensures.ok

pub returns-clause-hears : goal.returns-clause-hears
returns-clause-hears g c =
    on_ok_weaker c.append.result
    (λ appended. begin_heard g.C.Callbacks.stands_for g.C.Callbacks.script g.C.Made.script_of c.args.self.now _ c.args.number c.args.inc c.take_records-records.new.self c.args.out.now c.append.new.self
    (c.take_records-records.ensures.left ∙ ap (λ (z : NodeView g.row.C.Denot). record z { core = record (z.core) { records = [] } }) c.in_ok-node.ensures) c.in_ok-insert.ensures
    (appended.0 ∙ ap (λ rs. c.args.out.now ++ rs) (c.take_records-records.ensures.taken ∙ ap (λ (z : NodeView g.row.C.Denot). z.core.records) c.in_ok-node.ensures)))
    c.append.ensures.ok
