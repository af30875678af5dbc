use Rattle.std.proofs.Common.{◌∙◌, ap, sym, subst}
use Rattle.std.specs.Map.{lookup}
use Rattle.run_audit.specs.Lists.{same_list_key}
use Rattle.audit_states.specs.States.{AreListBases}
use Rattle.audit_states.proofs.RefoldLaws.{base_comes}
use Rattle.audit_states.proofs.list_bases.ListBases.note.Goals as goal

pub returns : goal.returns
returns c =
    λ ls n v g b are view group none text state. base_comes n v g b ls c.args.key c.args.base c.self.inside.by_key.entries c.insert.new.self.entries view group (ap (lookup (same_list_key c.args.key)) c.self.view_is ∙ none) text state
    c.in_ok-insert.ensures.updates.1 c.in_ok-insert.ensures.updates.3 (subst (AreListBases ls) (sym c.self.view_is) are)
