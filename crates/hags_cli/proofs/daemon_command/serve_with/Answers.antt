-- A daemon that did all its turns, and one that stopped.
use Rattle.std.proofs.Common.{◌≡◌, ◌∙◌, ap, rules}
use Rattle.std.proofs.lemmas.Result.{IfOk-at_ok, IfErr-at_err}
use Rattle.std.specs.Prelude.{Err}
use Rattle.link_use.specs.Stops.{StopsDaemon}
use Rattle.node_state.specs.Step.{at_work}
use Rattle.hags_cli.specs.Tasks.{counted}
use Rattle.hags_cli.proofs.CommandLaws.{serves_done, serves_stop}
use Rattle.hags_cli.proofs.daemon_command.serve_with.Goals as goal

pub returns-in_err-outcome : goal.returns-in_err-outcome
returns-in_err-outcome g c =
    let count : c.count_of-count.result ≡ counted c.args.objects = search rules in
    serves_stop c.args.service c.args.objects c.count_of-count.result _ c.in_ok-settings.settings.script c.in_ok-settings.settings.digest c.options_of.result c.incarnation_of.result (g.O.Outside.told c.incarnation_of.new.outside) count c.incarnation_of.ensures c.in_ok-settings.ensures.read
    c.in_ok-settings.ensures.digest c.options_of.ensures
    c.from_residual-in_err-outcome.result c.in_err-outcome.field-0.0 c.from_residual-in_err-outcome.ensures (IfErr-at_err StopsDaemon c.in_err-outcome.was c.serve-outcome.ensures.stops)
    (λ e. c.serve-outcome.ensures.memory (c.in_err-outcome.was ∙ ap Err e))
    (λ e. c.serve-outcome.ensures.written (c.in_err-outcome.was ∙ ap Err e))
    (λ e. c.serve-outcome.ensures.paused (c.in_err-outcome.was ∙ ap Err e))
    (λ e. c.serve-outcome.ensures.link (c.in_err-outcome.was ∙ ap Err e))
    (λ e. c.serve-outcome.ensures.write_fault (c.in_err-outcome.was ∙ ap Err e))
    (λ e. c.serve-outcome.ensures.link_fault (c.in_err-outcome.was ∙ ap Err e))

pub returns : goal.returns
returns g c =
    let count : c.count_of-count.result ≡ counted c.args.objects = search rules in
    serves_done c.args.service c.args.objects c.count_of-count.result _ c.in_ok-settings.settings.script c.in_ok-settings.settings.digest c.options_of.result c.incarnation_of.result (g.O.Outside.told c.incarnation_of.new.outside) count c.incarnation_of.ensures c.in_ok-settings.ensures.read
    c.in_ok-settings.ensures.digest c.options_of.ensures
    c.serve-outcome.result.node (λ node. at_work node.core) c.in_ok-settings.ensures.end (IfOk-at_ok _ c.in_ok-outcome.was c.serve-outcome.ensures.served)
