-- Where places are heard in a row, none between two is left out.
use Rattle.std.proofs.Common.{◌≡◌, ◌≤◌, ◌<◌, ℕ, ◌+◌, List, [], ◌∷◌, ◌++◌, Some, Bool, true, false, refl, sym, ap, ◌∙◌, subst, inl, inr, ◌⊎◌, ⊎_elim, arith}
use Rattle.std.specs.Prelude.{◌&&◌, nat_le, if◌then◌else◌}
use Rattle.std.proofs.lemmas.Bool.Decides.{nat_tests}
use Rattle.std.specs.Str.{bytes_eq}
use Rattle.rsct_packet.specs.declared.ids.ViewId.{ViewId}
use Rattle.rsct_packet.specs.declared.ids.ProviderId.{ProviderId}
use Rattle.rsct_packet.specs.Ids.{same_view}
use Rattle.rsct_packet.specs.Providers.{same_provider}
use Rattle.rsct_packet.specs.Search.{Has}
use Rattle.node_state.specs.declared.happened.Happened.{Happened}
use Rattle.node_state.specs.declared.happened.Happened.TheVariants as happened
use Rattle.run_safety.specs.Past.{History, Within, records_of}
use Rattle.row_laws.specs.hearing.Hearing.{last_heard, Follows, InARow, AtPut, HeardInARow, HeardPlace, HeardLeavesNoGap}
use Rattle.node_state.proofs.NameOrder.{text_same}
use Rattle.step_refinement.proofs.SessionLaws.{provider_same}
use Rattle.row_laws.proofs.hearing.Attending.{heard_own}
use Rattle.row_laws.proofs.hearing.Handing.{some_is}
use Rattle.view_state.proofs.ViewOrder.{same_view_is}

cases_le : (k m : ℕ) → (k ≤ m) ⊎ (m < k)
cases_le k m = by (nat_le k m) refl
  where
    by : (b : Bool) → nat_le k m ≡ b → (k ≤ m) ⊎ (m < k)
    by true e = let z : k ≤ m = grind (arith, nat_tests) in inl z
    by false e = let z : m < k = grind (arith, nat_tests) in inr z

-- each record of a list follows those before it
abbrev AllInARow : List Happened → Type 0
AllInARow [] = Unit {0}
AllInARow (r ∷ rs) = InARow rs r × AllInARow rs

all_in_a_row : (h : History) → HeardInARow h → AllInARow (records_of h)
all_in_a_row [] k = tt
all_in_a_row (e ∷ before) k = within e.records k.0 (all_in_a_row before k.1)
  where
    within : (now : List Happened) → Within AtPut now before → AllInARow (records_of before) → AllInARow (now ++ records_of before)
    within [] w k = k
    within (r ∷ now) w k = (w.0.1, within now w.1 k)

module _ (p : ProviderId) (v : ViewId) (g : List ℕ) where
  -- up to the last place that was heard, each from this one on was
  record Covers (i : ℕ) (rs : List Happened) : Type 0 where
    last : ℕ
    is : last_heard p v g rs ≡ Some last
    upto : i ≤ last
    all : (k : ℕ) → i ≤ k → k ≤ last → HeardPlace p v g k rs

  more : (k : ℕ) (r : Happened) (rs : List Happened) → HeardPlace p v g k rs → HeardPlace p v g k (r ∷ rs)
  more k r rs h = record { entry = h.entry; members = h.members; value = h.value; there = inr h.there }

  other : (i : ℕ) (r : Happened) (rs : List Happened) → last_heard p v g (r ∷ rs) ≡ last_heard p v g rs → Covers i rs → Covers i (r ∷ rs)
  other i r rs z c = record { last = c.last; is = z ∙ c.is; upto = c.upto; all = λ k low high. more k r rs (c.all k low high) }

  -- by what is heard next
  covers_next : (i : ℕ) (r : Happened) (rs : List Happened) → InARow rs r → Covers i rs → Covers i (r ∷ rs)
  covers_next i (happened.Heard q u h m e ms value) rs in_row c = by (same_provider q p) (same_view u v) (bytes_eq h g) refl refl refl
    where
      r : Happened
      r = happened.Heard q u h m e ms value

      next : q ≡ p → u ≡ v → h ≡ g → Covers i (r ∷ rs)
      next a b d =
          let follows : Follows (Some c.last) m = subst (λ o. Follows o m) (subst (λ (z : ProviderId × ViewId × List ℕ). last_heard z.0 z.1 z.2 rs ≡ Some c.last) (λ i. (sym a i, sym b i, sym d i)) c.is) in_row in
          record {
            last = m;
            is = subst (λ (z : ProviderId × ViewId × List ℕ). last_heard z.0 z.1 z.2 (r ∷ rs) ≡ Some m) (λ i. (a i, b i, d i)) (heard_own q u h m e ms value rs);
            upto = let le = c.upto in ⊎_elim (λ (z : m ≡ c.last + 1). omega arith) (λ (z : m ≡ c.last). omega arith) follows;
            all = λ k low high. at k low high (cases_le k c.last);
          }
        where
          here : HeardPlace p v g m (r ∷ rs)
          here = record { entry = e; members = ms; value = value; there = inl (λ i. happened.Heard (sym a i) (sym b i) (sym d i) m e ms value) }

          at : (k : ℕ) → i ≤ k → k ≤ m → (k ≤ c.last) ⊎ (c.last < k) → HeardPlace p v g k (r ∷ rs)
          at k low high (inl le) = more k r rs (c.all k low le)
          at k low high (inr lt) = subst (λ z. HeardPlace p v g z (r ∷ rs)) (same k high lt) here
            where
              same : (k : ℕ) → k ≤ m → c.last < k → m ≡ k
              same k high lt =
                  ⊎_elim (λ (z : m ≡ c.last + 1). omega arith) (λ (z : m ≡ c.last). absurd (omega arith)) (subst (λ o. Follows o m) (subst (λ (z : ProviderId × ViewId × List ℕ). last_heard z.0 z.1 z.2 rs ≡ Some c.last) (λ i. (sym a i, sym b i, sym d i)) c.is) in_row)

      still : (same_provider q p && (same_view u v && bytes_eq h g)) ≡ false → Covers i (r ∷ rs)
      still z = other i r rs (ap (λ b. if b then Some m else last_heard p v g rs) z) c

      by : (a b d : Bool) → same_provider q p ≡ a → same_view u v ≡ b → bytes_eq h g ≡ d → Covers i (r ∷ rs)
      by true true true x y z = next (provider_same q p x) (same_view_is u v y) (text_same h g z)
      by false b d x y z = still (λ i. x i && (y i && z i))
      by true false d x y z = still (λ i. x i && (y i && z i))
      by true true false x y z = still (λ i. x i && (y i && z i))
  covers_next i (happened.Up n j) rs in_row c = other i (happened.Up n j) rs refl c
  covers_next i (happened.Down n) rs in_row c = other i (happened.Down n) rs refl c
  covers_next i (happened.Ring n k a ms m) rs in_row c = other i (happened.Ring n k a ms m) rs refl c
  covers_next i (happened.In n u ms) rs in_row c = other i (happened.In n u ms) rs refl c
  covers_next i (happened.Base n u h w len st) rs in_row c = other i (happened.Base n u h w len st) rs refl c
  covers_next i (happened.Put n u h m e) rs in_row c = other i (happened.Put n u h m e) rs refl c
  covers_next i (happened.Cast q proto phase vote value message) rs in_row c = other i (happened.Cast q proto phase vote value message) rs refl c
  covers_next i (happened.Asked q k h x) rs in_row c = other i (happened.Asked q k h x) rs refl c
  covers_next i (happened.Told q k why) rs in_row c = other i (happened.Told q k why) rs refl c
  covers_next i (happened.Noted n name u m told) rs in_row c = other i (happened.Noted n name u m told) rs refl c
  covers_next i (happened.Refused n name fault) rs in_row c = other i (happened.Refused n name fault) rs refl c
  covers_next i (happened.Shown n line) rs in_row c = other i (happened.Shown n line) rs refl c

  covers_from : (i : ℕ) (rs : List Happened) → AllInARow rs → HeardPlace p v g i rs → Covers i rs
  covers_from i [] k h = absurd h.there
  covers_from i (r ∷ rs) k h = by h.there (λ b. covers_from i rs k.1 b)
    where
      by : Has (happened.Heard p v g i h.entry h.members h.value) (r ∷ rs) → (HeardPlace p v g i rs → Covers i rs) → Covers i (r ∷ rs)
      by (inl e) rest =
          record {
            last = i;
            is = subst (λ z. last_heard p v g (z ∷ rs) ≡ Some i) e (heard_own p v g i h.entry h.members h.value rs);
            upto = omega arith;
            all = λ k low high. let same : i ≡ k = omega (arith, low, high) in subst (λ z. HeardPlace p v g z (r ∷ rs)) same h;
          }
      by (inr there) rest = covers_next i r rs k.0 (rest (record { entry = h.entry; members = h.members; value = h.value; there = there }))

  between : (rs : List Happened) → AllInARow rs → (i k j : ℕ) → HeardPlace p v g i rs → HeardPlace p v g j rs → i ≤ k → k ≤ j → HeardPlace p v g k rs
  between rs row i k j a b low high =
      let c : Covers i rs = covers_from i rs row a in
      let d : Covers j rs = covers_from j rs row b in
      let same : d.last ≡ c.last = some_is (sym d.is ∙ c.is) in
      let le : j ≤ d.last = d.upto in c.all k low (omega (arith, same, le, high))

pub no_gap : HeardLeavesNoGap
no_gap h heard p v g i k j a b low high = between p v g (records_of h) (all_in_a_row h heard) i k j a b low high
