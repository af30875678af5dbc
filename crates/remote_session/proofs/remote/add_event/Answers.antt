use Rattle.std.proofs.Common.{sym, ap, ◌∙◌, nat_eq}
use Rattle.std.specs.Map.{set_value}
use Rattle.std.proofs.lemmas.Map.Steps.{set_value_same}
use Rattle.std.proofs.lemmas.Result.{on_err_weaker}
use Rattle.remote_session.specs.declared.session.Session.{Session}
use Rattle.remote_session.proofs.remote.add_event.Goals as goal

pub returns-in-Some-clause-err : goal.returns-in-Some-clause-err
returns-in-Some-clause-err c =
    on_err_weaker c.add_event.result
    (λ (e : _).
    (c.get_mut.follows.holds c.add_event.new.self).0
    ∙ (ap (λ (s : Session). set_value (nat_eq c.args.key) c.args.sessions.now.entries s) e
    ∙ set_value_same (nat_eq c.args.key) c.args.sessions.now.entries c.in-Some.session.now (sym c.in-Some.ensures.value)))
    c.add_event.ensures.err
