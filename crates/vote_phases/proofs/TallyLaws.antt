-- What rows say of the voters.
use Rattle.std.proofs.Common.{◌≡◌, ℕ, Bool, ◌||◌, ◌+◌, ◌<◌, List, [], ◌∷◌, ◌++◌, Option, Some, None, refl, ap, map, take, drop, length, get_or, set}
use Rattle.std.proofs.lemmas.List.{get_or_default}
use Rattle.std.proofs.lemmas.List.Edits.{map_over_more}
use Rattle.std.specs.List.{list_any}
use Rattle.rsct_packet.specs.declared.ids.ProviderId.{ProviderId}
use Rattle.proposal_core.specs.declared.entry.Vote.{Vote}
use Rattle.proposal_core.specs.declared.entry.RowVote.{RowVote}
use Rattle.vote_phases.specs.declared.voter.Voter.{Voter}
use Rattle.vote_phases.specs.Tally.{any_stands, rows_of, row_or, row_in, voter_stands, vote_of_row}

rows_stand_head : (test : Vote → Bool) (p : ProviderId) (v : Option RowVote) (xs : List Voter) → any_stands test (rows_of xs) ≡ list_any (voter_stands test) xs
    → any_stands test (row_or (row_in (Some (record { provider = p; vote = v }))) (rows_of xs)) ≡ list_any (voter_stands test) (record { provider = p; vote = v } ∷ xs)
rows_stand_head test p None xs h = h
rows_stand_head test p (Some v) xs h = ap (λ b. test (vote_of_row v) || b) h

-- a row stands for a vote exactly where a voter's does
pub rows_stand : (test : Vote → Bool) (xs : List Voter) → any_stands test (rows_of xs) ≡ list_any (voter_stands test) xs
rows_stand test [] = refl
rows_stand test (x ∷ xs) = rows_stand_head test x.provider x.vote xs (rows_stand test xs)

-- a loop that writes f x over each element x of xs
pub mapped_more : {X : Type 0} (f : X → X) (xs ys : List X) (i : ℕ) (d : X) → i < length xs → i < length ys → ys ≡ map f (take i xs) ++ drop i xs
    → set ys i (f (get_or ys i d)) ≡ map f (take (i + 1) xs) ++ drop (i + 1) xs
mapped_more f xs ys i d h k e = map_over_more f xs ys i (get_or ys i d) h e (get_or_default ys i d (get_or ys i d) k)
