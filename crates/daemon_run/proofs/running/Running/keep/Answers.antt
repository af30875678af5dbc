-- What the options ask broke off: as keys ended, or as the node asked for a view.
use Rattle.std.proofs.Common.{sym, ap, ◌∙◌}
use Rattle.link_use.proofs.SendLaws.{on_err}
use Rattle.node_state.specs.declared.state.Core.{Core}
use Rattle.daemon_model.specs.Options.{apart_for}
use Rattle.daemon_run.specs.Keeping.{OwnBreaks}
use Rattle.daemon_run.proofs.KeepLaws.{own_broke, own_unmended}
use Rattle.daemon_run.proofs.running.Running.keep.Goals as goal

pub returns-in_err-end_keys-clause-broke : goal.returns-in_err-end_keys-clause-broke
returns-in_err-end_keys-clause-broke g c =
    let broke : OwnBreaks c.args.options c.args.ticks c.args.self.now (g.O.Outside.told c.args.outside.now) (g.O.Outside.told c.end_keys.new.outside)
    = own_broke c.args.options c.args.ticks c.as_slice.result.now c.args.self.now _ _ (c.as_slice.ensures.value ∙ c.in_ok-keys.ensures) c.in_err-end_keys.ensures.broke in
    on_err c.from_residual-in_err-end_keys.result broke

pub returns-in_err-mend-clause-broke : goal.returns-in_err-mend-clause-broke
returns-in_err-mend-clause-broke g c =
    let broke : OwnBreaks c.args.options c.args.ticks c.args.self.now (g.O.Outside.told c.args.outside.now) (g.O.Outside.told c.mend.new.outside)
    = own_unmended c.args.options c.args.ticks c.apart_for-now.result c.as_slice.result.now c.args.self.now c.end_keys.new.self _ _ _ (c.as_slice.ensures.value ∙ c.in_ok-keys.ensures) c.in_ok-end_keys.ensures.done
    (c.apart_for-now.ensures ∙ ap (λ (s : Core). apart_for c.args.options.mend c.args.ticks s) c.core.ensures) (sym c.is_long_apart.ensures ∙ c.if-not-is_long_apart.false) c.in_err-mend.ensures.broke in
    on_err c.from_residual-in_err-mend.result broke
