use Rattle.audit_states.proofs.RefoldLaws.{none_yet, one_refolded}
use Rattle.audit_states.proofs.row_states.RowStates.refold_all.Goals as goal

pub loop-node-init : goal.loop-node-init
loop-node-init c = none_yet c.args.view c.args.group.now c.args.base.now c.args.entries.now c.args.self.now

pub loop-node-preserved : goal.loop-node-preserved
loop-node-preserved c =
    one_refolded c.args.view c.args.group.now c.args.base.now c.args.entries.now c.loop-node.node c.in_ok-key.key c.args.self.now c.loop-node.self c.refold.new.self c.loop-node.auto.node c.in_ok-key.ensures.node c.in_ok-key.ensures.view c.in_ok-key.ensures.group
    c.loop-node.invariant c.in_ok-refold.ensures
