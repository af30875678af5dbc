use Rattle.piece_link.proofs.SlotLaws.{few_parts}
use Rattle.piece_link.proofs.kept.Parts.len.Goals as goal

pub returns-clause-most : goal.returns-clause-most
returns-clause-most c = few_parts c.self.inside.slots c.self.inside.bytes.items c.self.inside.len c.self.inside.end c.self.inside.in_order c.self.invariant
