use Rattle.std.proofs.Common.{sym, ◌∙◌}
use Rattle.rsct_packet.proofs.ListedLaws.{listed_empty, listed_first, listed_stop}
use Rattle.view_state.specs.Codec.{source_at_front}
use Rattle.view_exchange.proofs.sources_in_place.SourcesRef.take_first.Goals as goal

pub returns-then-self-eq0-clause-none : goal.returns-then-self-eq0-clause-none
returns-then-self-eq0-clause-none c = let e = listed_empty source_at_front _ _ _ c.if-self-eq0.true c.self.view_is in (e, e)

pub returns-in_err-source-clause-none : goal.returns-in_err-source-clause-none
returns-in_err-source-clause-none c = absurd (listed_stop source_at_front _ _ c.if-self-eq0.false c.self.invariant c.in_err-source.ensures)

pub invariant_of-self : goal.invariant_of-self
invariant_of-self c = (listed_first source_at_front _ _ _ _ c.if-self-eq0.false c.self.invariant c.in_ok-source.ensures).rest

pub returns-clause-some : goal.returns-clause-some
returns-clause-some c = sym c.self.view_is ∙ (listed_first source_at_front _ _ _ _ c.if-self-eq0.false c.self.invariant c.in_ok-source.ensures).items
