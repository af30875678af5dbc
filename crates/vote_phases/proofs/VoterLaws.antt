-- Voters that differ stay such voters.
use Rattle.std.proofs.Common.{◌≡◌, ◌≤◌, Bool, true, false, cond, List, [], ◌∷◌, length, map, refl, sym, ap, ◌∙◌, arith, subst, if◌then◌else◌}
use Rattle.std.specs.Prelude.{filter, not, IsTrue}
use Rattle.std.proofs.lemmas.Bool.{and_parts, and_from, or_parts, not_from_false}
use Rattle.rsct_packet.specs.declared.ids.ProviderId.{ProviderId}
use Rattle.rsct_packet.specs.Providers.{same_provider, among, differ, AreProviders}
use Rattle.proposal_core.specs.declared.entry.RowVote.{RowVote}
use Rattle.vote_phases.specs.declared.voter.Voter.{Voter}
use Rattle.vote_phases.specs.Tally.{no_vote, given, given_to, is_open, is_voter, AreVoters}

abbrev provider_of : Voter → ProviderId
provider_of x = x.provider

of_new : (ps : List ProviderId) → map provider_of (map no_vote ps) ≡ ps
of_new [] = refl
of_new (p ∷ ps) = ap (λ (qs : List ProviderId). p ∷ qs) (of_new ps)

pub are_new : (ps : List ProviderId) (xs : List Voter) → xs ≡ map no_vote ps → AreProviders ps → AreVoters xs
are_new ps xs e h = subst AreProviders (sym (ap (map provider_of) e ∙ of_new ps)) h

of_given : (row : RowVote) (xs : List Voter) → map provider_of (map (given row) xs) ≡ map provider_of xs
of_given row [] = refl
of_given row (x ∷ xs) = ap (λ (qs : List ProviderId). x.provider ∷ qs) (of_given row xs)

pub are_given : (row : RowVote) (xs ys : List Voter) → ys ≡ map (given row) xs → AreVoters xs → AreVoters ys
are_given row xs ys e h = subst AreProviders (sym (ap (map provider_of) e ∙ of_given row xs)) h

of_one_given : (b : Bool) (row : RowVote) (x : Voter) → provider_of (if b then given row x else x) ≡ x.provider
of_one_given true row x = refl
of_one_given false row x = refl

of_given_to : (p : ProviderId) (row : RowVote) (xs : List Voter) → map provider_of (map (given_to p row) xs) ≡ map provider_of xs
of_given_to p row [] = refl
of_given_to p row (x ∷ xs) = λ i. of_one_given (is_voter p x) row x i ∷ of_given_to p row xs i

pub are_given_to : (p : ProviderId) (row : RowVote) (xs ys : List Voter) → ys ≡ map (given_to p row) xs → AreVoters xs → AreVoters ys
are_given_to p row xs ys e h = subst AreProviders (sym (ap (map provider_of) e ∙ of_given_to p row xs)) h

among_open : (xs : List Voter) (q : ProviderId) → among (map provider_of xs) q ≡ false → among (map provider_of (filter is_open xs)) q ≡ false
among_open [] q h = refl
among_open (x ∷ xs) q h =
    let parts = or_parts (same_provider x.provider q) (among (map provider_of xs) q) h in
    elim (is_open x) as (λ b. among (map provider_of (cond b (x ∷ filter is_open xs) (filter is_open xs))) q ≡ false) [
      | true ↦ rw parts.0 (among_open xs q parts.1)
      | false ↦ among_open xs q parts.1
    ]

not_true : (b : Bool) → not b ≡ true → b ≡ false
not_true true h = absurd cc
not_true false h = refl

differ_open : (xs : List Voter) → IsTrue (differ (map provider_of xs)) → IsTrue (differ (map provider_of (filter is_open xs)))
differ_open [] h = refl
differ_open (x ∷ xs) h =
    let parts = and_parts (not (among (map provider_of xs) x.provider)) (differ (map provider_of xs)) h in
    let apart : among (map provider_of xs) x.provider ≡ false = not_true _ parts.0 in
    elim (is_open x) as (λ b. IsTrue (differ (map provider_of (cond b (x ∷ filter is_open xs) (filter is_open xs))))) [
      | true ↦ and_from _ (differ (map provider_of (filter is_open xs))) (not_from_false _ (among_open xs x.provider apart)) (differ_open xs parts.1)
      | false ↦ differ_open xs parts.1
    ]

few_open : (xs : List Voter) → length (map provider_of (filter is_open xs)) ≤ length (map provider_of xs)
few_open [] = omega arith
few_open (x ∷ xs) =
    let h = few_open xs in
    elim (is_open x) as (λ b. length (map provider_of (cond b (x ∷ filter is_open xs) (filter is_open xs))) ≤ length (map provider_of (x ∷ xs))) [
      | true ↦ omega arith
      | false ↦ omega arith
    ]

pub are_open : (xs : List Voter) (ps : List ProviderId) → ps ≡ map (λ x. x.provider) (filter is_open xs) → AreVoters xs → AreProviders ps
are_open xs ps e h = subst AreProviders (sym e) (record { few = omega (arith, few_open xs, h.few); apart = differ_open xs h.apart })
