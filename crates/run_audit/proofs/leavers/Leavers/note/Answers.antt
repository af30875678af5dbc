use Rattle.std.proofs.Common.{sym, ◌∙◌, ap}
use Rattle.std.specs.Map.{lookup}
use Rattle.run_audit.specs.Keys.{same_pass_key}
use Rattle.run_audit.specs.Leavers.{entrants_in, with_entrant}
use Rattle.run_audit.proofs.PassLaws.{first_view, passed}
use Rattle.run_audit.proofs.leavers.Leavers.note.Goals as goal

pub returns-in-None : goal.returns-in-None
returns-in-None c = λ ls ms are at number. first_view c.args.node c.args.view ms c.args.self.now ls (sym c.in-None.is ∙ at) are

pub returns-in_ok-push-in-Some : goal.returns-in_ok-push-in-Some
returns-in_ok-push-in-Some c =
    λ ls ms are at number. passed c.args.node c.in-Some.old c.args.view ms c.args.number c.args.self.now c.push.new.self ls
    (λ q. c.in_ok-push-in-Some.ensures q ∙ ap (λ k. with_entrant (same_pass_key k q) (record { node = c.args.node; number = c.args.number }) (entrants_in (lookup (same_pass_key q) c.args.self.now))) c.pass_key.ensures) are (sym c.in-Some.is ∙ at) number
