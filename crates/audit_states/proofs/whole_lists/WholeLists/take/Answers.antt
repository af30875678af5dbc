use Rattle.std.proofs.Common.{List, ◌∙◌, ap, subst}
use Rattle.std.specs.Map.{lookup, KeepsOthers}
use Rattle.proposal_core.specs.declared.entry.Entry.{Entry}
use Rattle.run_audit.specs.declared.lists.ListKey.{ListKey}
use Rattle.run_audit.specs.Lists.{same_list_key}
use Rattle.audit_states.specs.States.{entries_in}
use Rattle.audit_states.proofs.whole_lists.WholeLists.take.Goals as goal

pub returns-clause-entries : goal.returns-clause-entries
returns-clause-entries c = c.entries_in.ensures ∙ ap entries_in (c.swap_remove-kept.ensures.value ∙ ap (λ z. lookup (same_list_key c.args.key.now) z) c.self.view_is)

pub returns-clause-others : goal.returns-clause-others
returns-clause-others c = subst (λ (z : List (ListKey × List Entry)). KeepsOthers same_list_key (same_list_key c.args.key.now) z c.swap_remove-kept.new.self.entries) c.self.view_is c.swap_remove-kept.ensures.updates.3
