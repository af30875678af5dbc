-- What is due to a source fits where the list has room; and where nothing is due, the group is served.
use Rattle.std.proofs.Common.{◌≡◌, ◌≤◌, ◌<◌, ℕ, ◌+◌, List, [], ◌∷◌, length, Option, Some, None, Bool, true, false, refl, ap, ◌∙◌, subst, arith, length-take}
use Rattle.std.proofs.lemmas.List.{length-map}
use Rattle.std.specs.Prelude.{◌&&◌, ◌||◌, not, filter, map, nat_lt, nat_le, is_none, if◌then◌else◌}
use Rattle.std.specs.Option.{option_map}
use Rattle.std.proofs.lemmas.Bool.{eqb-true}
use Rattle.std.proofs.lemmas.Bool.Decides.{nat_tests}
use Rattle.rsct_packet.specs.declared.ids.ProviderId.{ProviderId}
use Rattle.rsct_packet.specs.declared.ids.ProtoId.{ProtoId}
use Rattle.rsct_packet.specs.declared.ids.ViewId.{ViewId}
use Rattle.rsct_packet.specs.Ids.{last_u32, place_lt}
use Rattle.rsct_packet.specs.Search.{Has}
use Rattle.rsct_packet.proofs.HasLaws.{filter_has, map_has}
use Rattle.group_attr.specs.declared.attrs.Phases.{Phases}
use Rattle.group_attr.specs.declared.attrs.Phases.TheVariants.{One, Many}
use Rattle.proposal_core.specs.declared.proposal.Failure.{Failure}
use Rattle.proposal_core.specs.declared.proposal.Proposal.{Proposal}
use Rattle.proposal_core.specs.declared.proposal.Proposal.TheVariants.{Fail, Reflect}
use Rattle.proposal_core.specs.declared.group_state.GroupState.{GroupState}
use Rattle.proposal_core.specs.declared.group_state.Running.{Running}
use Rattle.proposal_core.specs.Fold.{can_begin, fits}
use Rattle.proposal_core.specs.GroupView.{GroupView}
use Rattle.proposal_core.specs.Lists.{max_places, max_bytes, state_in, is_at_limit, has_room, entry_fits}
use Rattle.proposal_core.specs.Sizes.{proposal_len, entry_len}
use Rattle.batch_rules.specs.Waiting.{chosen_of}
use Rattle.source_target.specs.declared.Due.TheVariants as owed
use Rattle.source_target.specs.Due.{is_on, allowed, lacks_source, cast_out, cast_outs, reflect_from, value_place, reflection_due, due_from, due}
use Rattle.node_state.specs.Ending.{may_begin}
use Rattle.send_laws.proofs.Counts.{kept_few}
use Rattle.row_laws.proofs.failed_rows.Owners.{any_has}
use Rattle.provider_laws.proofs.resting.Trying.{fit_of}
use Rattle.rest_laws.specs.Leaders.{StandsOn, IsServed}

-- ---- tests of numbers

below : (a b : ℕ) → a < b → nat_lt a b ≡ true
below a b e = grind (arith, nat_tests)

within : (a b : ℕ) → a ≤ b → nat_le a b ≡ true
within a b e = grind (arith, nat_tests)

beyond : (a b : ℕ) → b < a → nat_le a b ≡ false
beyond a b e = grind (arith, nat_tests)

all_four : (a b c d : Bool) → a ≡ true → b ≡ true → c ≡ true → d ≡ true → ((a && b) && (c && d)) ≡ true
all_four a b c d p q r s = λ i. (p i && q i) && (r i && s i)

-- ---- a list with room

pub may_begin_there : (l : GroupView) → l.state.running ≡ None → l.len < 4096 → l.bytes < 262144 → may_begin l ≡ true
unfolding may_begin is_at_limit
may_begin_there l none len bytes =
    let a : is_none l.state.running ≡ true = ap (λ (o : Option Running). is_none o) none in
    let b : nat_le max_places l.len ≡ false = beyond max_places l.len len in
    let c : nat_le max_bytes l.bytes ≡ false = beyond max_bytes l.bytes bytes in
    λ i. a i && not (b i || c i)

-- a proposal of at most 3 * 10 ^ 9 bytes that may begin fits
pub fit_in : (l : GroupView) (x : Proposal) (phases : Phases) → l.state.running ≡ None → can_begin l.state x ≡ true → l.len < 4096 → l.bytes < 262144 → proposal_len x ≤ 3000000000 → fit_of l x phases ≡ true
unfolding entry_fits fits has_room entry_len
fit_in l x One none can len bytes short =
    all_four (is_none l.state.running) (can_begin l.state x) (nat_lt l.len last_u32) (nat_le (l.bytes + (1 + proposal_len x)) last_u32) (ap (λ (o : Option Running). is_none o) none) can (below l.len last_u32 (omega (arith, len))) (within (l.bytes + (1 + proposal_len x)) last_u32 (omega (arith, bytes, short)))
fit_in l x Many none can len bytes short =
    all_four (is_none l.state.running) (can_begin l.state x) (nat_lt l.len last_u32) (nat_le (l.bytes + (1 + proposal_len x)) last_u32) (ap (λ (o : Option Running). is_none o) none) can (below l.len last_u32 (omega (arith, len))) (within (l.bytes + (1 + proposal_len x)) last_u32 (omega (arith, bytes, short)))

chosen_short : (b : Bool) (xs : List Failure) → length (chosen_of b xs) ≤ length xs
chosen_short true xs = omega arith
chosen_short false xs = omega (arith, length-take 1 xs)

pub fail_fits : (l : GroupView) (b : Bool) (out : List Failure) (phases : Phases) → l.state.running ≡ None → l.len < 4096 → l.bytes < 262144 → length out ≤ 64 → fit_of l (Fail (chosen_of b out)) phases ≡ true
unfolding can_begin proposal_len
fail_fits l b out phases none len bytes few =
    let k = chosen_short b out in fit_in l (Fail (chosen_of b out)) phases none refl len bytes (omega (arith, few, k))

pub reflect_fits : (l : GroupView) (v : ViewId) (i : ℕ) (value : List ℕ) (phases : Phases) → l.state.running ≡ None → l.len < 4096 → l.bytes < 262144 → length value ≤ 2147483648 → fit_of l (Reflect v i value) phases ≡ true
unfolding can_begin proposal_len
reflect_fits l v i value phases none len bytes short =
    fit_in l (Reflect v i value) phases none refl len bytes (omega (arith, short))

-- ---- what is due

-- a reflection is no cast-out
no_cast : (old at : Option ProtoId) (out : List Failure) → reflect_from old at ≡ Some (owed.CastOut out) → ⊥
no_cast old None out e = cc
no_cast old (Some at) out e = by (place_lt old (Some at)) e
  where
    by : (b : Bool) → (if b then Some (owed.Reflect at.view at.place) else None) ≡ Some (owed.CastOut out) → ⊥
    by true q = cc
    by false q = cc

-- no more are cast out than there are members
pub casts_few : (t : GroupState) (o : Option GroupState) (out : List Failure) → due t o ≡ Some (owed.CastOut out) → length out ≤ length t.members
unfolding due cast_outs reflection_due
casts_few t o out e = by (map cast_out (filter (lacks_source o) t.members)) refl e
  where
    members : (ps : List ProviderId) → reflection_due t o ps ≡ Some (owed.CastOut out) → ⊥
    members [] q = cc
    members (p ∷ ps) q = no_cast t.reflected_at (value_place o) out q

    by : (fs : List Failure) → map cast_out (filter (lacks_source o) t.members) ≡ fs → due_from t o fs ≡ Some (owed.CastOut out) → length out ≤ length t.members
    by [] z q = absurd (members t.members q)
    by (f ∷ fs) z q =
        let same : f ∷ fs ≡ out = cc in
        let n : length (map cast_out (filter (lacks_source o) t.members)) ≡ length out = ap length (z ∙ same) in
        omega (arith, n, length-map (filter (lacks_source o) t.members) cast_out, kept_few (lacks_source o) t.members)

-- ---- nothing is due

not_false : (b : Bool) → not b ≡ false → b ≡ true
not_false true e = refl
not_false false e = absurd cc

none_cast : (t : GroupState) (o : Option GroupState) → cast_outs t.members o ≡ [] → (p : ProviderId) → Has p t.members → allowed o p.node ≡ true
unfolding cast_outs
none_cast t o none p i = not_false (allowed o p.node) (by (lacks_source o p) refl)
  where
    by : (b : Bool) → lacks_source o p ≡ b → lacks_source o p ≡ false
    by false e = e
    by true e =
        absurd (subst (Has (cast_out p)) none (map_has cast_out p (filter (lacks_source o) t.members) (filter_has (lacks_source o) p t.members i e)))

none_late : (old : Option ProtoId) (at : ProtoId) → reflect_from old (Some at) ≡ None → place_lt old (Some at) ≡ false
none_late old at e = by (place_lt old (Some at)) refl e
  where
    by : (b : Bool) → place_lt old (Some at) ≡ b → (if b then Some (owed.Reflect at.view at.place) else None) ≡ None → place_lt old (Some at) ≡ false
    by false q z = q
    by true q z = absurd cc

-- the source as it is known, and what its list comes to
pub nothing_due : (t : GroupState) (l : Option GroupView) → due t (option_map (λ (x : GroupView). x.state) l) ≡ None → IsServed t (state_in l)
unfolding due reflection_due allowed
nothing_due t l e = by (cast_outs t.members o) refl e
  where
    o : Option GroupState
    o = option_map (λ (x : GroupView). x.state) l

    stands : (l : Option GroupView) (n : ℕ) → allowed (option_map (λ (x : GroupView). x.state) l) n ≡ true → StandsOn n (state_in l)
    stands None n q = absurd cc
    stands (Some x) n q = let k = any_has (is_on n) x.state.members q in (k.0, k.1, eqb-true (k.0).node n k.2)

    placed : (l : Option GroupView) → value_place (option_map (λ (x : GroupView). x.state) l) ≡ (state_in l).value_at
    placed None = refl
    placed (Some x) = refl

    some : (ps : List ProviderId) (p : ProviderId) → Has p ps → reflection_due t o ps ≡ None → reflect_from t.reflected_at (value_place o) ≡ None
    some [] p i q = absurd i
    some (x ∷ ps) p i q = q

    by : (fs : List Failure) → cast_outs t.members o ≡ fs → due_from t o fs ≡ None → IsServed t (state_in l)
    by (f ∷ fs) z q = absurd cc
    by [] z q =
        record {
          sourced = λ p i. stands l p.node (none_cast t o z p i);
          reflected = λ p at i set. none_late t.reflected_at at (subst (λ a. reflect_from t.reflected_at a ≡ None) (placed l ∙ set) (some t.members p i q));
        }
