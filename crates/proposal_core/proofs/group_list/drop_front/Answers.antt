use Rattle.std.proofs.Common.{List, ap, ◌∙◌, drop}
use Rattle.std.proofs.lemmas.List.{drop-drop}
use Rattle.proposal_core.specs.declared.entry.Entry.{Entry}
use Rattle.proposal_core.proofs.group_list.drop_front.Goals as goal

pub loop-i-preserved : goal.loop-i-preserved
loop-i-preserved c = c.pop_front.ensures.rest ∙ ap (λ (es : List Entry). drop 1 es) c.loop-i.invariant ∙ drop-drop 1 c.loop-i.i c.args.entries.now.items
