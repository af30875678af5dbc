-- Lists of those present, and of those among them that have failed.
use Rattle.std.proofs.Common.{◌≡◌, ◌+◌, ◌≤◌, Bool, true, false, cond, List, [], ◌∷◌, ◌++◌, length, Option, Some, None, refl, append-nil, arith}
use Rattle.std.specs.Prelude.{not, ◌||◌, ◌&&◌, IsTrue, filter, nat_le}
use Rattle.std.proofs.lemmas.Bool.{leb-true}
use Rattle.rsct_packet.specs.declared.ids.ProviderId.{ProviderId}
use Rattle.rsct_packet.specs.Providers.{same_provider, among, none_among, differ, AreProviders}
use Rattle.rsct_packet.proofs.ProviderLaws.{AreProviders-append}
use Rattle.rsct_packet.proofs.FieldLaws.{and_true, both_true}
use Rattle.proposal_core.specs.declared.group_state.GroupState.{GroupState}
use Rattle.proposal_core.specs.declared.group_state.Running.{Running}
use Rattle.proposal_core.specs.declared.proposal.Proposal.{Proposal}
use Rattle.proposal_core.specs.declared.proposal.Proposal.TheVariants.{Join, Leave, Fail, Expel, State, Message, Attributes, Reflect}
use Rattle.proposal_core.specs.Fold.{joiners_fit, joiners_fit_at, joiners_in, joins_of, can_begin, present}

or_false : (a b : Bool) → (a || b) ≡ false → (a ≡ false) × (b ≡ false)
or_false true b e = absurd cc
or_false false b e = (refl, e)

not_true : (b : Bool) → IsTrue (not b) → b ≡ false
not_true true h = absurd cc
not_true false h = refl

not_false : (b : Bool) → b ≡ false → IsTrue (not b)
not_false true e = absurd cc
not_false false e = refl

among-filter : (f : ProviderId → Bool) (xs : List ProviderId) (q : ProviderId) → among xs q ≡ false → among (filter f xs) q ≡ false
among-filter f [] q h = refl
among-filter f (x ∷ xs) q h =
    let parts = or_false (same_provider x q) (among xs q) h in
    elim (f x) as (λ b. among (cond b (x ∷ filter f xs) (filter f xs)) q ≡ false) [
      | true ↦ rw parts.0 (among-filter f xs q parts.1)
      | false ↦ among-filter f xs q parts.1
    ]

differ-filter : (f : ProviderId → Bool) (xs : List ProviderId) → IsTrue (differ xs) → IsTrue (differ (filter f xs))
differ-filter f [] h = refl
differ-filter f (x ∷ xs) h =
    let parts = and_true (not (among xs x)) (differ xs) h in
    elim (f x) as (λ b. IsTrue (differ (cond b (x ∷ filter f xs) (filter f xs)))) [
      | true ↦ both_true (not (among (filter f xs) x)) (differ (filter f xs)) (not_false _ (among-filter f xs x (not_true _ parts.0))) (differ-filter f xs parts.1)
      | false ↦ differ-filter f xs parts.1
    ]

pub filter_no_more : (f : ProviderId → Bool) (xs : List ProviderId) → length (filter f xs) ≤ length xs
filter_no_more f [] = omega arith
filter_no_more f (x ∷ xs) =
    let h = filter_no_more f xs in
    elim (f x) as (λ b. length (cond b (x ∷ filter f xs) (filter f xs)) ≤ length (x ∷ xs)) [
      | true ↦ omega arith
      | false ↦ omega arith
    ]

pub filter_are_providers : (f : ProviderId → Bool) (xs : List ProviderId) → AreProviders xs → AreProviders (filter f xs)
filter_are_providers f xs h = record { few = omega (arith, filter_no_more f xs, h.few); apart = differ-filter f xs h.apart }

no_joiners : (members : List ProviderId) → AreProviders members → AreProviders (members ++ [])
no_joiners members h = rw append-nil h

joined_are_providers : (s : GroupState) (x : Proposal) → AreProviders s.members → AreProviders (joins_of x) → IsTrue (can_begin s x) → AreProviders (s.members ++ joins_of x)
unfolding can_begin
joined_are_providers s (Join ps attrs n) g h k =
    let p = and_true (none_among s.members ps) (nat_le (length s.members + length ps) 64) k in
    AreProviders-append s.members ps g h (leb-true (length s.members + length ps) 64 p.1) p.0
joined_are_providers s (Leave p r) g h k = no_joiners s.members g
joined_are_providers s (Fail out) g h k = no_joiners s.members g
joined_are_providers s (Expel p r out) g h k = no_joiners s.members g
joined_are_providers s (State p r value) g h k = no_joiners s.members g
joined_are_providers s (Message p r bytes) g h k = no_joiners s.members g
joined_are_providers s (Attributes p r attrs) g h k = no_joiners s.members g
joined_are_providers s (Reflect view place value) g h k = no_joiners s.members g

present_by : (s : GroupState) (run : Option Running) → AreProviders s.members → AreProviders (joiners_in run) → IsTrue (joiners_fit_at s run) → AreProviders (s.members ++ joiners_in run)
unfolding joiners_fit_at
present_by s None g h k = no_joiners s.members g
present_by s (Some run) g h k = joined_are_providers s run.proposal g h k

pub present_are_providers : (s : GroupState) → AreProviders s.members → AreProviders (joiners_in s.running) → IsTrue (joiners_fit s) → AreProviders (present s)
unfolding joiners_fit
present_are_providers s g h k = present_by s s.running g h k
