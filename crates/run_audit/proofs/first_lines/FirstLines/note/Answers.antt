use Rattle.std.proofs.Common.{◌≡◌, None, sym, ◌∙◌, ap}
use Rattle.std.specs.Map.{lookup}
use Rattle.run_audit.specs.Keys.{same_request_key}
use Rattle.run_audit.specs.Requests.{or_number}
use Rattle.run_audit.proofs.FoundLaws.{none_there, one_there}
use Rattle.run_audit.proofs.RequestLaws.{number_again, number_comes}
use Rattle.run_audit.proofs.first_lines.FirstLines.note.Goals as goal

pub returns-then-has : goal.returns-then-has
returns-then-has c =
    let y = one_there (lookup (same_request_key c.args.key) c.args.self.now) (sym c.has.ensures ∙ c.if-has.true) in
    number_again c.args.key c.args.number c.args.self.now y.0 y.1

pub returns : goal.returns
returns c =
    let none : lookup (same_request_key c.args.key) c.self.inside.by_key.entries ≡ None = ap (λ z. lookup (same_request_key c.args.key) z) c.self.view_is ∙ none_there (lookup (same_request_key c.args.key) c.args.self.now) (sym c.has.ensures ∙ c.if-has.false) in
    λ q. number_comes c.args.key c.args.number c.self.inside.by_key.entries c.insert.new.self.entries none c.in_ok-insert.ensures.updates.0 q
    ∙ ap (λ z. or_number (same_request_key c.args.key q) c.args.number (lookup (same_request_key q) z)) c.self.view_is
