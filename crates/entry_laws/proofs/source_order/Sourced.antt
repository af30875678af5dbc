-- Each join is over the source by the records of every node that has so many entries of the source's list.
use Rattle.std.proofs.Common.{ℕ, List, sym, subst, inl, inr, arith}
use Rattle.rsct_packet.specs.declared.ids.ViewId.{ViewId}
use Rattle.proposal_core.specs.declared.proposal.Proposal.{Proposal}
use Rattle.proposal_core.specs.declared.proposal.Proposal.TheVariants.{Join, Leave, Fail, Expel, State, Message, Attributes, Reflect}
use Rattle.proposal_core.specs.declared.entry.Entry.{Entry}
use Rattle.run_safety.specs.Past.{History, records_of}
use Rattle.run_safety.specs.Sight.{lines_of}
use Rattle.run_safety.specs.Bases.{Bases}
use Rattle.entry_laws.proofs.closing_rows.Told.{Told}
use Rattle.entry_laws.proofs.closing_rows.Lists.{puts_all, base_all}
use Rattle.entry_laws.specs.source_order.Sources.{HasMemberOn, HasFront, OverSource, JoinsOverSources}
use Rattle.entry_laws.proofs.source_order.Fronts.{Bound, front_state}
use Rattle.entry_laws.proofs.source_order.Climbs.{base_line}
use Rattle.entry_laws.proofs.source_order.Evident.{of_begun, RightOver, RightBegun, AllFacts, rights_of}

module _ (bases : List ℕ → Bases) (log : List ℕ → ViewId → List Entry) (h : History) (t : (g : List ℕ) → Told (bases g) (log g) (lines_of g h)) where
  bound : (m : ℕ) (v : ViewId) (g : List ℕ) (k : ℕ) → HasFront m v g k (records_of h) → Bound m v g (records_of h) (lines_of g h)
  bound m v g k (l, inl pos) = inl (omega arith)
  bound m v g k (l, inr b) = inr (inr (record { old = b.old; len = b.len; state = b.base }, base_line m v g b.old b.len b.base h b.there))

  over_source : (v : ViewId) (x : Proposal) → RightOver bases log v x → OverSource v (records_of h) x
  over_source v (Join ps a len) right =
      λ g k m from carried front p i.
      subst (λ s. HasMemberOn s p.node) (sym (front_state m v g (bases g) (log g) (records_of h) (lines_of g h) (t g) (puts_all m v g h) (base_all m v g h) (bound m v g k front) k front.0)) (right g k from carried p i)
  over_source v (Leave q r) right = tt
  over_source v (Fail out) right = tt
  over_source v (Expel q r out) right = tt
  over_source v (State q r value) right = tt
  over_source v (Message q r bytes) right = tt
  over_source v (Attributes q r a) right = tt
  over_source v (Reflect u k value) right = tt

  pub joins_over : AllFacts h → JoinsOverSources h
  joins_over k n v g i e there =
      of_begun (RightBegun bases log g v i) (OverSource v (records_of h)) (λ x z. over_source v x z.2) e (rights_of bases log h t k n v g i e there)
