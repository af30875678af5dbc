use Rattle.std.proofs.Common.{◌∙◌, ap, refl}
use Rattle.std.specs.Prelude.{option_copied}
use Rattle.run_audit.specs.Past.{listed}
use Rattle.audit_states.proofs.BasingLaws.{base_is}
use Rattle.audit_states.proofs.basing.Basing.keeps.Goals as goal

pub returns : goal.returns
returns c =
    λ ls came states views stays fit life into text. c.are_all.ensures
    ∙ base_is c.args.node c.args.view c.args.group.now c.args.base.now c.args.self.now.comings.now ls c.view.result c.listed.result.now c.in_ok-entries.entries.now c.in_ok-cut.cut c.args.text.now (option_copied c.in_ok-first.first) c.is_at-at.result c.is_entered-entered.result c.reaches-reached.result c.in_ok-shown.shown c.is_base_there-like_first.result came fit life into
    (c.view.ensures ls stays) (c.listed.ensures ∙ ap listed (c.members.ensures ls views)) (c.in_ok-entries.ensures ls states) (c.in_ok-cut.ensures ls states) (c.in_ok-first.ensures ls states) text c.is_at-at.ensures c.is_entered-entered.ensures c.reaches-reached.ensures (c.in_ok-shown.ensures refl) c.is_base_there-like_first.ensures
