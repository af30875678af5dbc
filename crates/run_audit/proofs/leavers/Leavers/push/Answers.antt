use Rattle.std.proofs.Common.{Some, ◌∙◌, ap, cond}
use Rattle.std.specs.Map.{lookup}
use Rattle.run_audit.specs.Keys.{same_pass_key}
use Rattle.run_audit.proofs.PassLaws.{entrant_pushed}
use Rattle.run_audit.proofs.leavers.Leavers.push.Goals as goal

pub returns : goal.returns
returns c =
    λ q. entrant_pushed c.args.key c.args.entrant c.take-entrants.result c.push.new.self c.args.self.now c.take-entrants.new.self c.insert.new.self.entries q c.take-entrants.ensures.entrants c.take-entrants.ensures.others c.in_ok-push.ensures.ok
    (λ r. c.in_ok-insert.ensures.updates.0 r ∙ ap (λ z. cond (same_pass_key c.args.key r) (Some c.push.new.self) (lookup (same_pass_key r) z)) c.self.view_is)
