use Rattle.std.proofs.Common.{nat_eq, sym, ap, ◌∙◌, [], ◌∷◌, ◌++◌}
use Rattle.indexmap.proofs.CallerLemmas.{insert_entry-new}
use Rattle.remote_session.specs.declared.session.Session.{Session}
use Rattle.remote_session.proofs.SessionLaws.{none_of, kept_new}
use Rattle.remote_session.proofs.remote.keep.Goals as goal

pub returns-clause-ok : goal.returns-clause-ok
returns-clause-ok c =
    let none = none_of _ (sym c.contains_key.ensures ∙ c.if-contains_key.false) in
    c.in_ok-insert.ensures.entries
    ∙ (insert_entry-new nat_eq c.args.sessions.now c.args.key c.new.result none
    ∙ (ap (λ (s : Session). c.args.sessions.now.entries ++ (c.args.key, s) ∷ []) c.new.ensures ∙ sym (kept_new c.args.key c.args.sessions.now.entries none)))
