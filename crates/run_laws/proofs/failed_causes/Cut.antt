-- Whoever is cut as its node enters a view passes into no later one.
use Rattle.std.proofs.Common.{◌≡◌, ◌⊎◌, ℕ, List, [], ◌∷◌, ◌++◌, Option, Bool, true, false, refl, sym, ap, ◌∙◌, subst, inl, inr}
use Rattle.std.specs.Prelude.{◌==◌, ◌&&◌, ◌||◌, is_some, is_none, if◌then◌else◌}
use Rattle.std.specs.List.{list_any}
use Rattle.std.specs.Str.{bytes_eq}
use Rattle.std.proofs.lemmas.Bool.{eqb-true}
use Rattle.rsct_packet.specs.declared.ids.ViewId.{ViewId}
use Rattle.rsct_packet.specs.declared.ids.ProviderId.{ProviderId}
use Rattle.rsct_packet.specs.Ids.{same_view}
use Rattle.rsct_packet.specs.Providers.{among}
use Rattle.rsct_packet.proofs.SearchLaws.{place_nowhere}
use Rattle.proposal_core.specs.declared.entry.Entry.{Entry}
use Rattle.proposal_core.specs.Fold.{empty_state, present}
use Rattle.node_state.specs.declared.happened.Happened.{Happened}
use Rattle.node_state.specs.declared.happened.Happened.TheVariants as happened
use Rattle.run_safety.specs.Stays.{Stay, stays, with_base, with_entry, is_join_of, part, passes, first_in}
use Rattle.row_laws.specs.failed_rows.Failures.{state_of_stay}
use Rattle.row_laws.proofs.failed_rows.Grows.{there_first}
use Rattle.run_laws.specs.failed_causes.Passed.{puts_join}
use Rattle.run_laws.specs.failed_causes.Entering.{just_entered, FollowsEntering}
use Rattle.run_laws.proofs.failed_causes.Ended.{Out, Firsts, any_more, out_step}
use Rattle.run_laws.proofs.failed_causes.Records.{Every}

-- it does not pass into the latest stay, and no entry there names it
abbrev pub Cut : ProviderId → List Stay → Type 0
Cut p [] = ⊥
Cut p (x ∷ older) = (passes p x.base (part p older) ≡ false) × (list_any (is_join_of p) x.entries ≡ false)

-- and no base is noted there any more
abbrev pub CutOut : ProviderId → List ℕ → List Happened → Type 0
CutOut p g rs = Cut p (stays p.node g rs) × ((v : ViewId) → just_entered p.node v rs ≡ false)

-- bases come directly after the entering, also where earlier records are added
abbrev pub Entries : List Happened → Type 0
Entries = Every FollowsEntering

entered_before : (n : ℕ) (v : ViewId) (now old : List Happened) → just_entered n v now ≡ true → just_entered n v (now ++ old) ≡ true
entered_before n v [] old q = absurd (cc)
entered_before n v (happened.In m u ms ∷ rs) old q = q
entered_before n v (happened.Base m u g from len s ∷ rs) old q = by (m == n) (same_view u v) q (entered_before n v rs old)
  where
    by : (a b : Bool) → (a && (b && just_entered n v rs)) ≡ true → (just_entered n v rs ≡ true → just_entered n v (rs ++ old) ≡ true) → (a && (b && just_entered n v (rs ++ old))) ≡ true
    by true true q rest = rest q
    by true false q rest = q
    by false b q rest = q
entered_before n v (_ ∷ rs) old q = absurd (cc)

pub follows_before : (r : Happened) (now old : List Happened) → FollowsEntering now r → FollowsEntering (now ++ old) r
follows_before (happened.Base n v g u len s) now old k = entered_before n v now old k
follows_before _ now old k = tt

cut_pushed : (p : ProviderId) (e : Entry) (xs : List Stay) → is_join_of p e ≡ false → Cut p xs → Cut p (with_entry e xs)
cut_pushed p e [] other k = k
cut_pushed p e (x ∷ older) other k = (k.0, any_more p x.entries e k.1 other)

-- a view that is entered later
cut_over : (p : ProviderId) (v : ViewId) (xs : List Stay) → Cut p xs → Out false p (record { view = v; base = empty_state; entries = [] } ∷ xs)
cut_over p v [] k = absurd k
cut_over p v (x ∷ older) k =
    inl (ap (λ (o : Option ℕ). is_some o && is_none (part p (x ∷ older)).last) (ap (first_in p x.entries) k.0 ∙ place_nowhere (is_join_of p) x.entries k.1), refl)

module _ (p : ProviderId) (g : List ℕ) where
  abbrev Next : List Happened → Type 0
  Next rs = CutOut p g rs ⊎ Out false p (stays p.node g rs)

  cut_step : (r : Happened) (rs : List Happened) → FollowsEntering rs r → puts_join p g r ≡ false → CutOut p g rs → Next (r ∷ rs)
  cut_step (happened.Up m j) rs at other k = by (m == p.node) refl
    where
      by : (b : Bool) → (m == p.node) ≡ b → (Cut p (if b then [] else stays p.node g rs) × ((w : ViewId) → false ≡ false)) ⊎ Out false p (if b then [] else stays p.node g rs)
      by true q = inr tt
      by false q = inl (k.0, λ w. refl)
  cut_step (happened.Down m) rs at other k = by (m == p.node) refl
    where
      by : (b : Bool) → (m == p.node) ≡ b → (Cut p (if b then [] else stays p.node g rs) × ((w : ViewId) → false ≡ false)) ⊎ Out false p (if b then [] else stays p.node g rs)
      by true q = inr tt
      by false q = inl (k.0, λ w. refl)
  cut_step (happened.In m v ms) rs at other k = by (m == p.node)
    where
      now : List Stay
      now = record { view = v; base = empty_state; entries = [] } ∷ stays p.node g rs

      by : (b : Bool) → (Cut p (if b then now else stays p.node g rs) × ((w : ViewId) → (b && same_view v w) ≡ false)) ⊎ Out false p (if b then now else stays p.node g rs)
      by true = inr (cut_over p v (stays p.node g rs) k.0)
      by false = inl (k.0, λ w. refl)
  cut_step (happened.Base m v h u len s) rs at other k = by (m == p.node) refl
    where
      by : (b : Bool) → (m == p.node) ≡ b → Next (happened.Base m v h u len s ∷ rs)
      by true q = absurd (let z : true ≡ false = sym at ∙ ap (λ n. just_entered n v rs) (eqb-true m p.node q) ∙ k.1 v in cc)
      by false q =
          inl (subst (Cut p) (sym (ap (λ b. if b && bytes_eq h g then with_base s (stays p.node g rs) else stays p.node g rs) q)) k.0, λ w. ap (λ b. b && (same_view v w && just_entered p.node w rs)) q)
  cut_step (happened.Put m v h i e) rs at other k = by (m == p.node) (bytes_eq h g) (is_join_of p e) refl other
    where
      by : (b c d : Bool) → is_join_of p e ≡ d → (b && (c && d)) ≡ false → (Cut p (if b && c then with_entry e (stays p.node g rs) else stays p.node g rs) × ((w : ViewId) → false ≡ false)) ⊎ Out false p (if b && c then with_entry e (stays p.node g rs) else stays p.node g rs)
      by true true true q z = absurd (cc)
      by true true false q z = inl (cut_pushed p e (stays p.node g rs) q k.0, λ w. refl)
      by true false d q z = inl (k.0, λ w. refl)
      by false c d q z = inl (k.0, λ w. refl)
  cut_step _ rs at other k = inl (k.0, λ w. refl)

  pub cut_on : (newer older : List Happened) → Firsts (newer ++ older) → Entries (newer ++ older) → list_any (puts_join p g) newer ≡ false → CutOut p g older → Next (newer ++ older)
  cut_on [] older f a others k = inl k
  cut_on (r ∷ newer) older f a others k = by (puts_join p g r) refl others (λ z. cut_on newer older f.1 a.1 z k)
    where
      step : puts_join p g r ≡ false → Next (newer ++ older) → Next (r ∷ newer ++ older)
      step q (inl c) = cut_step r (newer ++ older) a.0 q c
      step q (inr o) = inr (out_step false p g r (newer ++ older) f.0 q o)

      by : (b : Bool) → puts_join p g r ≡ b → (b || list_any (puts_join p g) newer) ≡ false → (list_any (puts_join p g) newer ≡ false → Next (newer ++ older)) → Next (r ∷ newer ++ older)
      by true q z rest = absurd (cc)
      by false q z rest = step q (rest z)

-- whoever is there all the same is of the base
pub there_cut : (p : ProviderId) (x : Stay) (older : List Stay) → Cut p (x ∷ older) → among (present (state_of_stay x)) p ≡ true → (among (present x.base) p ≡ true) × ((passes p x.base (part p older) ≡ false) × (list_any (is_join_of p) x.entries ≡ false))
there_cut p x older k there = (there_first x.view x.base 0 x.entries p k.1 there, (k.0, k.1))
