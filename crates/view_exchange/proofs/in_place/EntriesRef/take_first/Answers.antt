use Rattle.std.proofs.Common.{sym, ◌∙◌}
use Rattle.rsct_packet.proofs.ListedLaws.{listed_empty, listed_first, listed_stop}
use Rattle.view_state.specs.Codec.{sized_entry_at}
use Rattle.view_exchange.proofs.in_place.EntriesRef.take_first.Goals as goal

pub returns-then-self-eq0-clause-none : goal.returns-then-self-eq0-clause-none
returns-then-self-eq0-clause-none c = let e = listed_empty sized_entry_at _ _ _ c.if-self-eq0.true c.self.view_is in (e, e)

pub returns-in_err-entry-clause-none : goal.returns-in_err-entry-clause-none
returns-in_err-entry-clause-none c = absurd (listed_stop sized_entry_at _ _ c.if-self-eq0.false c.self.invariant c.in_err-entry.ensures.value)

pub invariant_of-self : goal.invariant_of-self
invariant_of-self c = (listed_first sized_entry_at _ _ _ _ c.if-self-eq0.false c.self.invariant c.in_ok-entry.ensures.value).rest

pub returns-clause-some : goal.returns-clause-some
returns-clause-some c = sym c.self.view_is ∙ (listed_first sized_entry_at _ _ _ _ c.if-self-eq0.false c.self.invariant c.in_ok-entry.ensures.value).items
