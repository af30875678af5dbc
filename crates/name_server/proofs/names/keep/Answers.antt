use Rattle.name_server.proofs.NameLaws.{inserted_as}
use Rattle.name_server.proofs.names.keep.Goals as goal

pub returns-clause-ok : goal.returns-clause-ok
returns-clause-ok c = rw c.in_ok-insert.ensures.entries (inserted_as c.in_ok-group.group c.args.group.now c.args.node c.args.nodes.now.entries c.in_ok-group.ensures.items c.requires)
