-- No key yet, or one broke off.
use Rattle.std.proofs.Common.{get_or, refl}
use Rattle.link_use.proofs.SendLaws.{on_err}
use Rattle.daemon_run.specs.Keeping.{KeysBreak}
use Rattle.daemon_run.proofs.FailLaws.{unwritten_by}
use Rattle.daemon_run.proofs.KeepLaws.{keys_begin, keys_broke, keys_fail}
use Rattle.daemon_run.proofs.running.Running.end_keys.Goals as goal

pub loop-key-init : goal.loop-key-init
loop-key-init g c = record { done = keys_begin c.args.self.now c.args.keys.now _; same = (refl, refl) }

pub returns-in_err-end_key-clause-broke : goal.returns-in_err-end_key-clause-broke
returns-in_err-end_key-clause-broke g c =
    let broke : KeysBreak c.args.self.now c.args.keys.now (g.O.Outside.told c.args.outside.now) (g.O.Outside.told c.end_key.new.outside)
    = keys_broke c.args.self.now c.loop-key.self c.loop-key.key-index (get_or c.args.keys.now c.loop-key.key-index 0) c.args.keys.now _ _ _ c.loop-key-test.true refl c.loop-key.invariant.done c.in_err-end_key.ensures.broke in
    on_err c.from_residual.result broke

pub returns-in_err-end_key-clause-unwritten : goal.returns-in_err-end_key-clause-unwritten
returns-in_err-end_key-clause-unwritten g c =
    unwritten_by c.from_residual.result _ c.from_residual.ensures
    (λ e. keys_fail c.args.self.now c.loop-key.self c.end_key.new.self c.loop-key.key-index (get_or c.args.keys.now c.loop-key.key-index 0) c.args.keys.now _ _ _ c.loop-key-test.true refl c.loop-key.invariant.done (c.in_err-end_key.ensures.unwritten e))
