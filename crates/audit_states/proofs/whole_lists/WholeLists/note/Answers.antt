use Rattle.std.proofs.Common.{List, subst}
use Rattle.std.specs.Map.{KeepsOthers}
use Rattle.proposal_core.specs.declared.entry.Entry.{Entry}
use Rattle.run_audit.specs.declared.lists.ListKey.{ListKey}
use Rattle.run_audit.specs.Lists.{same_list_key}
use Rattle.audit_states.proofs.StateLaws.{whole_noted}
use Rattle.audit_states.proofs.whole_lists.WholeLists.note.Goals as goal

pub returns : goal.returns
returns c =
    λ ls n are. whole_noted n c.args.view c.args.group.now c.args.place c.args.entry.now c.in_ok-key.key c.take-entries.result c.grow.new.entries c.args.self.now c.take-entries.new.self c.insert.new.self.entries ls c.in_ok-key.ensures.view c.in_ok-key.ensures.group
    c.take-entries.ensures.entries c.take-entries.ensures.others c.in_ok-grow.ensures c.in_ok-insert.ensures.updates.1
    (subst (λ (z : List (ListKey × List Entry)). KeepsOthers same_list_key (same_list_key c.in_ok-key.key) z c.insert.new.self.entries) c.self.view_is c.in_ok-insert.ensures.updates.3) are
