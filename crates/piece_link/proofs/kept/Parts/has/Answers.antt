use Rattle.std.proofs.Common.{◌∙◌, ap}
use Rattle.std.specs.Prelude.{is_some}
use Rattle.piece_link.proofs.SlotLaws.{has_below, has_past}
use Rattle.piece_link.proofs.kept.Parts.has.Goals as goal

pub returns-then-at-self : goal.returns-then-at-self
returns-then-at-self c = rw (← c.self.view_is) (c.is_some.ensures ∙ (ap (λ o. is_some o) c.get.ensures ∙ has_below c.self.inside.slots c.self.inside.bytes.items c.self.inside.end c.args.index c.if-at-self.true))

pub returns-else-at-self : goal.returns-else-at-self
returns-else-at-self c = rw (← c.self.view_is) (has_past c.self.inside.slots c.self.inside.bytes.items c.self.inside.end c.args.index c.if-at-self.false)
