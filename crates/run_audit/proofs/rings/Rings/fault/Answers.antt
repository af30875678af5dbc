use Rattle.std.specs.Prelude.{option_copied}
use Rattle.run_audit.proofs.RingLaws.{ring_kept, ring_broken}
use Rattle.run_audit.proofs.rings.Rings.fault.Goals as goal

pub returns-then-is_kept : goal.returns-then-is_kept
returns-then-is_kept c =
    λ ls are. ring_kept c.args.node c.args.network c.args.ring c.args.members.now c.args.neighbour c.key_of.result (option_copied c.first-first.result) c.is_kept.result c.args.self.now ls c.key_of.ensures c.first-first.ensures c.is_kept.ensures c.if-is_kept.true are

pub returns-else-is_kept : goal.returns-else-is_kept
returns-else-is_kept c =
    λ ls are. ring_broken c.args.node c.args.network c.args.ring c.args.members.now c.args.neighbour c.key_of.result (option_copied c.first-first.result) c.is_kept.result c.line_of.result c.args.self.now ls c.key_of.ensures c.first-first.ensures c.is_kept.ensures c.if-is_kept.false c.line_of.ensures are
