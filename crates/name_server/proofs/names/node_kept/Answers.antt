use Rattle.std.proofs.Common.{◌∙◌}
use Rattle.name_server.proofs.NameLaws.{lookup_is}
use Rattle.name_server.proofs.names.node_kept.Goals as goal

pub returns : goal.returns
returns c = c.copied.ensures ∙ (c.get.ensures.value ∙ lookup_is c.args.group.now c.args.nodes.now.entries)
