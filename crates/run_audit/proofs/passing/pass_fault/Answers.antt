use Rattle.std.proofs.Common.{sym, ◌∙◌, ap}
use Rattle.std.specs.Map.{lookup}
use Rattle.run_audit.specs.Keys.{same_pass_key}
use Rattle.run_audit.specs.Leavers.{entrants_in}
use Rattle.run_audit.proofs.PassLaws.{from_nowhere, pass_is}
use Rattle.run_audit.proofs.passing.pass_fault.Goals as goal

pub returns-in-None : goal.returns-in-None
returns-in-None c = λ ls ms put leavers rows stays places entries. from_nowhere c.args.node c.args.view ms ls (sym c.in-None.is ∙ c.view.ensures ls stays)

pub returns-in_ok-parted-in-Some : goal.returns-in_ok-parted-in-Some
returns-in_ok-parted-in-Some c =
    λ ls ms put leavers rows stays places entries. c.fault_at.ensures
    ∙ pass_is c.args.node c.args.view ms ls c.in-Some.old c.entrants-entrants.result.now c.args.leavers.now c.in_ok-parted-in-Some.parted (sym c.in-Some.is ∙ c.view.ensures ls stays)
    (c.entrants-entrants.ensures ∙ ap (λ k. entrants_in (lookup (same_pass_key k) c.args.leavers.now)) c.pass_key.ensures) leavers (c.in_ok-parted-in-Some.ensures ls put rows places entries)
