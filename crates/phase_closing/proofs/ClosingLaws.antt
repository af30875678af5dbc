-- How a loop over the voters goes on.
use Rattle.std.proofs.Common.{◌≡◌, ℕ, ◌+◌, ◌<◌, ◌≤◌, List, [], ◌∷◌, ◌++◌, length, get_or, take, drop, Option, Some, None, refl, sym, ap, ◌∙◌, drop-cons, add-one}
use Rattle.std.specs.Prelude.{find}
use Rattle.std.specs.Option.{option_or}
use Rattle.std.proofs.Math.Seq.{take-suc}
use Rattle.std.proofs.lemmas.List.{append-nil, at_drop_all}
use Rattle.rsct_packet.specs.Providers.{same_provider}
use Rattle.proposal_core.specs.declared.entry.Row.{Row}
use Rattle.vote_phases.specs.declared.voter.Voter.{Voter}
use Rattle.vote_phases.specs.Tally.{row_in, row_or, rows_of}
use Rattle.node_state.specs.declared.group.Given.{Given}
use Rattle.node_state.specs.Leading.{carried_in, first_carried}

-- ---- rows

or_front : (r : Option Row) (xs ys : List Row) → row_or r (xs ++ ys) ≡ row_or r xs ++ ys
or_front None xs ys = refl
or_front (Some r) xs ys = refl

rows_both : (xs ys : List Voter) → rows_of (xs ++ ys) ≡ rows_of xs ++ rows_of ys
rows_both [] ys = refl
rows_both (x ∷ xs) ys = ap (row_or (row_in (Some x))) (rows_both xs ys) ∙ or_front (row_in (Some x)) (rows_of xs) (rows_of ys)

row_added : (xs : List Voter) (i : ℕ) (d : Voter) → i < length xs → rows_of (take (i + 1) xs) ≡ rows_of (take i xs) ++ row_or (row_in (Some (get_or xs i d))) []
row_added xs i d h =
    let more : take (i + 1) xs ≡ take i xs ++ get_or xs i d ∷ [] = rw add-one (take-suc xs i d h) in
    ap rows_of more ∙ rows_both (take i xs) (get_or xs i d ∷ [])

pub row_here : (xs : List Voter) (i : ℕ) (d : Voter) (row : Row) → i < length xs → Some row ≡ row_in (Some (get_or xs i d)) → rows_of (take (i + 1) xs) ≡ rows_of (take i xs) ++ row ∷ []
row_here xs i d row h e = row_added xs i d h ∙ ap (λ (r : Option Row). rows_of (take i xs) ++ row_or r []) (sym e)

pub row_none : (xs : List Voter) (i : ℕ) (d : Voter) → i < length xs → None ≡ row_in (Some (get_or xs i d)) → rows_of (take (i + 1) xs) ≡ rows_of (take i xs)
row_none xs i d h e = row_added xs i d h ∙ (ap (λ (r : Option Row). rows_of (take i xs) ++ row_or r []) (sym e) ∙ append-nil (rows_of (take i xs)))

-- ---- what is carried

front_of : (part : Given → Option (List ℕ)) (gs : List Given) (xs : List Voter) (i : ℕ) (d : Voter) → i < length xs
    → first_carried part gs (drop i xs) ≡ option_or (carried_in part (find (λ (y : Given). same_provider y.provider (get_or xs i d).provider) gs)) (first_carried part gs (drop (i + 1) xs))
unfolding first_carried
front_of part gs xs i d h = let e : drop i xs ≡ get_or xs i d ∷ drop (i + 1) xs = rw add-one (drop-cons xs i d h) in ap (first_carried part gs) e

pub carried_here : (part : Given → Option (List ℕ)) (gs : List Given) (xs : List Voter) (i : ℕ) (d : Voter) (t : List ℕ) → i < length xs
    → Some t ≡ carried_in part (find (λ (y : Given). same_provider y.provider (get_or xs i d).provider) gs) → first_carried part gs (drop i xs) ≡ Some t
carried_here part gs xs i d t h e = front_of part gs xs i d h ∙ ap (λ (o : Option (List ℕ)). option_or o (first_carried part gs (drop (i + 1) xs))) (sym e)

pub carried_on : (part : Given → Option (List ℕ)) (gs : List Given) (xs : List Voter) (i : ℕ) (d : Voter) → i < length xs
    → None ≡ carried_in part (find (λ (y : Given). same_provider y.provider (get_or xs i d).provider) gs) → first_carried part gs (drop i xs) ≡ first_carried part gs (drop (i + 1) xs)
carried_on part gs xs i d h e = front_of part gs xs i d h ∙ ap (λ (o : Option (List ℕ)). option_or o (first_carried part gs (drop (i + 1) xs))) (sym e)

pub carried_last : (part : Given → Option (List ℕ)) (gs : List Given) (xs : List Voter) (i : ℕ) → length xs ≤ i → first_carried part gs (drop i xs) ≡ None
unfolding first_carried
carried_last part gs xs i h = at_drop_all (first_carried part gs) xs i h
