-- In every order of casts, failures and ticks, what stands for a voter is its first vote or default.
use Rattle.std.proofs.Common.{◌≡◌, ℕ, Bool, true, false, List, [], ◌∷◌, map, Option, Some, None, refl, sym, ◌∙◌, if◌then◌else◌}
use Rattle.rsct_packet.specs.declared.ids.ProviderId.{ProviderId}
use Rattle.rsct_packet.specs.Providers.{same_provider}
use Rattle.group_attr.specs.declared.attrs.DefaultVote.{DefaultVote}
use Rattle.proposal_core.specs.declared.entry.RowVote.{RowVote}
use Rattle.proposal_core.specs.declared.entry.RowVote.TheVariants as row_vote
use Rattle.vote_phases.specs.declared.voter.Voter.{Voter}
use Rattle.vote_phases.specs.Tally.{TallyView, no_vote, or_vote, given, given_to, late_if, tally_new, passes, counted}
use Rattle.vote_phases.specs.Orders.{Command, Casts, Fails, Ticks, after_one, after_all, first_row, first_rows}

-- what stands for a voter stays, and else this comes
abbrev or_first : Option RowVote → Option RowVote → Option RowVote
or_first None o = o
or_first (Some v) o = Some v

abbrev ends : DefaultVote → ℕ → ℕ → List Command → Voter → Voter
ends d limit n cs x = record { provider = x.provider; vote = or_first x.vote (first_row x.provider d limit n cs) }

or_none : (o : Option RowVote) → or_first o None ≡ o
or_none None = refl
or_none (Some v) = refl

ends_now : (d : DefaultVote) (limit n : ℕ) (xs : List Voter) → map (ends d limit n []) xs ≡ xs
ends_now d limit n [] = refl
ends_now d limit n (x ∷ xs) = λ i. record { provider = x.provider; vote = or_none x.vote i } ∷ ends_now d limit n xs i

mapped_twice : {A B C : Type 0} (f : B → C) (g : A → B) (h : A → C) → ((x : A) → f (g x) ≡ h x) → (xs : List A) → map f (map g xs) ≡ map h xs
mapped_twice f g h e [] = refl
mapped_twice f g h e (x ∷ xs) = λ i. e x i ∷ mapped_twice f g h e xs i

or_given : (row : RowVote) (o r : Option RowVote) → or_first (or_vote row o) r ≡ or_first o (Some row)
or_given row None r = refl
or_given row (Some v) r = refl

given_ends : (d : DefaultVote) (limit n : ℕ) (cs : List Command) (row : RowVote) (b : Bool) (x : Voter)
    → ends d limit n cs (if b then given row x else x) ≡ record { provider = x.provider; vote = or_first x.vote (elim b [ true ↦ Some row | false ↦ first_row x.provider d limit n cs ]) }
given_ends d limit n cs row true x = λ i. record { provider = x.provider; vote = or_given row x.vote (first_row x.provider d limit n cs) i }
given_ends d limit n cs row false x = refl

tick_ends : (d : DefaultVote) (limit n : ℕ) (cs : List Command) (b : Bool) (xs : List Voter)
    → map (ends d limit n cs) (late_if b d xs) ≡ map (λ (x : Voter). record { provider = x.provider; vote = or_first x.vote (elim b [ true ↦ Some (row_vote.Late d) | false ↦ first_row x.provider d limit n cs ]) }) xs
tick_ends d limit n cs true xs =
    mapped_twice (ends d limit n cs) (given (row_vote.Late d)) (λ x. record { provider = x.provider; vote = or_first x.vote (Some (row_vote.Late d)) })
    (λ x i. record { provider = x.provider; vote = or_given (row_vote.Late d) x.vote (first_row x.provider d limit n cs) i }) xs
tick_ends d limit n cs false xs = refl

orders : (cs : List Command) (t : TallyView) → (after_all cs t).voters ≡ map (ends t.default_vote t.limit t.count cs) t.voters
orders [] t = sym (ends_now t.default_vote t.limit t.count t.voters)
orders (Casts q v ∷ cs) t =
    orders cs (after_one (Casts q v) t)
    ∙ mapped_twice (ends t.default_vote t.limit t.count cs) (given_to q (row_vote.Cast v)) (ends t.default_vote t.limit t.count (Casts q v ∷ cs))
    (λ x. given_ends t.default_vote t.limit t.count cs (row_vote.Cast v) (same_provider x.provider q) x) t.voters
orders (Fails q ∷ cs) t =
    orders cs (after_one (Fails q) t)
    ∙ mapped_twice (ends t.default_vote t.limit t.count cs) (given_to q (row_vote.Failed t.default_vote)) (ends t.default_vote t.limit t.count (Fails q ∷ cs))
    (λ x. given_ends t.default_vote t.limit t.count cs (row_vote.Failed t.default_vote) (same_provider x.provider q) x) t.voters
orders (Ticks ∷ cs) t = orders cs (after_one Ticks t) ∙ tick_ends t.default_vote t.limit (counted t.count) cs (passes t.limit t.count) t.voters

pub first_rows_stand : (ps : List ProviderId) (d : DefaultVote) (limit : ℕ) (cs : List Command) → (after_all cs (tally_new ps d limit)).voters ≡ first_rows ps d limit cs
first_rows_stand ps d limit cs =
    orders cs (tally_new ps d limit)
    ∙ mapped_twice (ends d limit 0 cs) no_vote (λ (p : ProviderId). record { provider = p; vote = first_row p d limit 0 cs }) (λ p. refl) ps
