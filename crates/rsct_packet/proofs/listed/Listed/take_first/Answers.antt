use Rattle.std.proofs.Common.{sym, ◌∙◌}
use Rattle.rsct_packet.proofs.ListedLaws.{listed_empty, listed_first, listed_stop}
use Rattle.rsct_packet.proofs.listed.Listed.take_first.Goals as goal

pub returns-then-self-eq0-clause-none : goal.returns-then-self-eq0-clause-none
returns-then-self-eq0-clause-none g c = let e = listed_empty g.T.Item.read_at _ _ _ c.if-self-eq0.true c.self.view_is in (e, e)

pub returns-in_err-item-clause-none : goal.returns-in_err-item-clause-none
returns-in_err-item-clause-none g c = absurd (listed_stop g.T.Item.read_at _ _ c.if-self-eq0.false c.self.invariant c.in_err-item.ensures.value)

pub invariant_of-self : goal.invariant_of-self
invariant_of-self g c = (listed_first g.T.Item.read_at _ _ _ _ c.if-self-eq0.false c.self.invariant c.in_ok-item.ensures.value).rest

pub returns-clause-some : goal.returns-clause-some
returns-clause-some g c = sym c.self.view_is ∙ (listed_first g.T.Item.read_at _ _ _ _ c.if-self-eq0.false c.self.invariant c.in_ok-item.ensures.value).items
