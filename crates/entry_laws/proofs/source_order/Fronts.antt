-- The base that a node has noted of a view, and the state that the first entries of its list make of it: it is that of the
-- whole list.
use Rattle.std.proofs.Common.{◌≡◌, ◌⊎◌, ◌≤◌, ◌<◌, ℕ, List, [], ◌∷◌, length, take, Option, Some, None, refl, sym, ap, ◌∙◌, subst, inl, inr, arith}
use Rattle.rsct_packet.specs.declared.ids.ViewId.{ViewId}
use Rattle.rsct_packet.specs.Search.{Has}
use Rattle.proposal_core.specs.declared.entry.Entry.{Entry}
use Rattle.proposal_core.specs.Fold.{empty_state}
use Rattle.node_state.specs.declared.happened.Happened.{Happened}
use Rattle.run_safety.specs.Past.{puts_of, base_of, fold_from, state_at}
use Rattle.run_safety.specs.Group.{Origin, Put, Based, Line, Kept, Noted, kept}
use Rattle.run_safety.specs.GroupLists as lists
use Rattle.run_safety.specs.Bases.{Bases, base_state, state_of_list}
use Rattle.run_safety.proofs.Prefix.{IsPrefix}
use Rattle.run_safety.proofs.HeardLaw.{puts_front, take_front}
use Rattle.run_safety.proofs.Tracks.{puts_none}
use Rattle.entry_laws.proofs.closing_rows.Lists.{BaseKnown}
use Rattle.entry_laws.proofs.closing_rows.Told.{Told}
use Rattle.entry_laws.proofs.closing_rows.Orders.{Clause, Ordered}

-- a node that put something into a view's list had noted the base
put_based : (bases : Bases) (n : ℕ) (v : ViewId) (i : ℕ) (e : Entry) (all : List Line) → Ordered bases all → Has (Put n v i e) (kept all) → (b : Origin) → bases v ≡ Some b → Has (Noted (Based n v b)) all
put_based bases n v i e [] o h b q = absurd h
put_based bases n v i e (Noted x ∷ older) o h b q = inr (put_based bases n v i e older o.1 h b q)
put_based bases n v i e (Kept r ∷ older) o (inl p) b q = inr ((subst (λ z. Clause bases (Kept z) older) (sym p) o.0).1 b q)
put_based bases n v i e (Kept r ∷ older) o (inr h) b q = inr (put_based bases n v i e older o.1 h b q)

module _ (n : ℕ) (v : ViewId) (g : List ℕ) where
  -- it put something, or the base is not empty, or it noted one
  abbrev pub Bound : List Happened → List Line → Type 0
  Bound rs all = (0 < length (puts_of n v g rs)) ⊎ ((base_of n v g rs ≡ empty_state → ⊥) ⊎ ((b : Origin) × Has (Noted (Based n v b)) all))

  module _ (bases : Bases) (log : ViewId → List Entry) (rs : List Happened) (all : List Line) (t : Told bases log all) (puts : puts_of n v g rs ≡ lists.puts_of n v (kept all)) (known : BaseKnown n v g (base_of n v g rs) all) where
    base_right : Bound rs all → base_of n v g rs ≡ base_state (bases v)
    base_right c = by known c
      where
        by : BaseKnown n v g (base_of n v g rs) all → Bound rs all → base_of n v g rs ≡ base_state (bases v)
        by (inl k) c = k.2 ∙ ap base_state (sym (t.noted n v k.0 k.1))
        by (inr k) (inr (inl ne)) = absurd (ne k.0)
        by (inr k) (inr (inr z)) = absurd (k.1 z.0 z.1)
        by (inr k) (inl pos) = k.0 ∙ of (bases v) refl
          where
            of : (o : Option Origin) → bases v ≡ o → empty_state ≡ base_state (bases v)
            of None q = ap base_state (sym q)
            of (Some b) q =
                let none : lists.puts_of n v (kept all) ≡ [] = puts_none n v (kept all) (λ j x h. k.1 b (put_based bases n v j x all t.in_order h b q)) in
                let z : length (puts_of n v g rs) ≡ 0 = ap length (puts ∙ none) in absurd (omega arith)

    -- the state after the first entries of the node's list is that after those of the whole one
    pub front_state : Bound rs all → (k : ℕ) → k ≤ length (puts_of n v g rs) → state_at n v g k rs ≡ state_of_list bases v (take k (log v))
    front_state c k l =
        let ys : List Entry = lists.puts_of n v (kept all) in
        let p : IsPrefix ys (log v) = puts_front n v (log v) (kept all) (λ i e h. t.puts n v i e h) t.places in
        let m : length (puts_of n v g rs) ≡ length ys = ap length puts in
        let own : take k (puts_of n v g rs) ≡ take k (log v) = ap (take k) puts ∙ sym (take_front k ys (log v) p (omega arith)) in
        λ j. fold_from v (base_right c j) 0 (own j)
