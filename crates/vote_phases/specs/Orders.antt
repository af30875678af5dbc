-- Casts, failures and ticks in any order.
use Rattle.std.specs.Prelude.{ℕ, true, false, List, [], ◌∷◌, map, Option, Some, None}
use Rattle.rsct_packet.specs.declared.ids.ProviderId.{ProviderId}
use Rattle.rsct_packet.specs.Providers.{same_provider}
use Rattle.group_attr.specs.declared.attrs.DefaultVote.{DefaultVote}
use Rattle.proposal_core.specs.declared.entry.Vote.{Vote}
use Rattle.proposal_core.specs.declared.entry.RowVote.{RowVote}
use Rattle.proposal_core.specs.declared.entry.RowVote.TheVariants as row_vote
use Rattle.vote_phases.specs.declared.voter.Voter.{Voter}
use Rattle.vote_phases.specs.Tally.{TallyView, tally_cast, tally_fail, tally_tick, counted, passes}

pub data Command : Type 0 where
  Casts : (p : ProviderId) → (v : Vote) → Command
  Fails : (p : ProviderId) → Command
  Ticks : Command

abbrev pub after_one : Command → TallyView → TallyView
after_one (Casts p v) t = tally_cast p v t
after_one (Fails p) t = tally_fail p t
after_one Ticks t = tally_tick t

abbrev pub after_all : List Command → TallyView → TallyView
after_all [] t = t
after_all (c ∷ cs) t = after_all cs (after_one c t)

-- the first of these that concerns the provider: its vote, its failure, or the tick that passes the limit after n ticks
abbrev pub first_row : ProviderId → DefaultVote → ℕ → ℕ → List Command → Option RowVote
first_row p d limit n [] = None
first_row p d limit n (Casts q v ∷ cs) = elim (same_provider p q) [ true ↦ Some (row_vote.Cast v) | false ↦ first_row p d limit n cs ]
first_row p d limit n (Fails q ∷ cs) = elim (same_provider p q) [ true ↦ Some (row_vote.Failed d) | false ↦ first_row p d limit n cs ]
first_row p d limit n (Ticks ∷ cs) = elim (passes limit n) [ true ↦ Some (row_vote.Late d) | false ↦ first_row p d limit (counted n) cs ]

-- each voter with its first vote or default
abbrev pub first_rows : List ProviderId → DefaultVote → ℕ → List Command → List Voter
first_rows ps d limit cs = map (λ p. record { provider = p; vote = first_row p d limit 0 cs }) ps
