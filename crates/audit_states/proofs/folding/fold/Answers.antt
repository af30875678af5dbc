use Rattle.std.proofs.Common.{refl}
use Rattle.run_audit.specs.Past.{fold_from}
use Rattle.audit_states.proofs.StateLaws.{fold_step}
use Rattle.audit_states.proofs.folding.fold.Goals as goal

pub loop-place-init : goal.loop-place-init
unfolding fold_from
loop-place-init c = refl

pub loop-place-preserved : goal.loop-place-preserved
loop-place-preserved c =
    fold_step c.args.view c.args.state.now c.loop-place.state c.take.new.self c.loop-place.place c.args.entries.now c.index-entries-place.result c.loop-place-test.true c.index-entries-place.is c.loop-place.invariant c.in_ok-take.ensures
