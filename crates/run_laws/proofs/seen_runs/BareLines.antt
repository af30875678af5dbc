-- Lines without those of what is heard, and what is found among them.
use Rattle.std.proofs.Common.{refl, ◌≡◌, ℕ, ◌⊎◌, inl, inr, sym, ◌∙◌, ap, subst, true, false, Bool, List, [], ◌∷◌, ◌++◌, Option, Some, None, arith}
use Rattle.std.specs.Prelude.{◌==◌, ◌&&◌, if◌then◌else◌}
use Rattle.std.proofs.lemmas.Bool.{eqb-true, and_parts}
use Rattle.std.proofs.lemmas.Bool.Decides.{nat_tests}
use Rattle.rsct_packet.specs.declared.ids.ViewId.{ViewId}
use Rattle.rsct_packet.specs.Search.{Has}
use Rattle.proposal_core.specs.declared.group_state.GroupState.{GroupState}
use Rattle.proposal_core.specs.Fold.{empty_state}
use Rattle.run_safety.specs.ViewOrder.{is_same}
use Rattle.run_safety.specs.Group.{Origin, Note, Based, Heard, Asked, Told, Line, Kept, Noted, kept}
use Rattle.run_safety.specs.Moves.{Inserted}
use Rattle.run_safety.specs.Bases.{Bases, base_state}
use Rattle.run_safety.proofs.Order.{eq_true, eq_same}
use Rattle.run_laws.proofs.seen_runs.LineRules.{bare, base_in, base_after}

pub kept_bare : (all : List Line) → kept (bare all) ≡ kept all
kept_bare [] = refl
kept_bare (Kept r ∷ all) = ap (λ tr. r ∷ tr) (kept_bare all)
kept_bare (Noted (Based n v b) ∷ all) = kept_bare all
kept_bare (Noted (Heard p v i e ms value) ∷ all) = kept_bare all
kept_bare (Noted (Asked p r x) ∷ all) = kept_bare all
kept_bare (Noted (Told p r v) ∷ all) = kept_bare all

pub had_bare : (y : Line) (all : List Line) → Has y (bare all) → Has y all
had_bare y [] h = h
had_bare y (Kept r ∷ all) (inl e) = inl e
had_bare y (Kept r ∷ all) (inr h) = inr (had_bare y all h)
had_bare y (Noted (Based n v b) ∷ all) (inl e) = inl e
had_bare y (Noted (Based n v b) ∷ all) (inr h) = inr (had_bare y all h)
had_bare y (Noted (Heard p v i e ms value) ∷ all) h = inr (had_bare y all h)
had_bare y (Noted (Asked p r x) ∷ all) (inl e) = inl e
had_bare y (Noted (Asked p r x) ∷ all) (inr h) = inr (had_bare y all h)
had_bare y (Noted (Told p r v) ∷ all) (inl e) = inl e
had_bare y (Noted (Told p r v) ∷ all) (inr h) = inr (had_bare y all h)

-- a note of something else than what is heard
abbrev pub IsQuiet : Note → Type 0
IsQuiet (Based n v b) = Unit {0}
IsQuiet (Heard p v i e ms value) = ⊥
IsQuiet (Asked p r x) = Unit {0}
IsQuiet (Told p r v) = Unit {0}

pub has_bare : (y : Note) (all : List Line) → IsQuiet y → Has (Noted y) all → Has (Noted y) (bare all)
has_bare y [] q h = h
has_bare y (Kept r ∷ all) q (inl e) = absurd (cc)
has_bare y (Kept r ∷ all) q (inr h) = inr (has_bare y all q h)
has_bare y (Noted (Based n v b) ∷ all) q (inl e) = inl e
has_bare y (Noted (Based n v b) ∷ all) q (inr h) = inr (has_bare y all q h)
has_bare y (Noted (Heard p v i e ms value) ∷ all) q (inl s) = let z : y ≡ Heard p v i e ms value = cc in absurd (subst IsQuiet z q)
has_bare y (Noted (Heard p v i e ms value) ∷ all) q (inr h) = has_bare y all q h
has_bare y (Noted (Asked p r x) ∷ all) q (inl e) = inl e
has_bare y (Noted (Asked p r x) ∷ all) q (inr h) = inr (has_bare y all q h)
has_bare y (Noted (Told p r v) ∷ all) q (inl e) = inl e
has_bare y (Noted (Told p r v) ∷ all) q (inr h) = inr (has_bare y all q h)

pub bare_append : (xs ys : List Line) → bare (xs ++ ys) ≡ bare xs ++ bare ys
bare_append [] ys = refl
bare_append (Kept r ∷ xs) ys = ap (λ l. Kept r ∷ l) (bare_append xs ys)
bare_append (Noted (Based n v b) ∷ xs) ys = ap (λ l. Noted (Based n v b) ∷ l) (bare_append xs ys)
bare_append (Noted (Heard p v i e ms value) ∷ xs) ys = bare_append xs ys
bare_append (Noted (Asked p r x) ∷ xs) ys = ap (λ l. Noted (Asked p r x) ∷ l) (bare_append xs ys)
bare_append (Noted (Told p r v) ∷ xs) ys = ap (λ l. Noted (Told p r v) ∷ l) (bare_append xs ys)

-- what is heard comes in anywhere
pub bare_inserted : (x : Note) (all more : List Line) → (IsQuiet x → ⊥) → Inserted x all more → bare more ≡ bare all
bare_inserted x all more loud h =
    ap bare h.is ∙ bare_append h.newer (Noted x ∷ h.older) ∙ ap (λ l. bare h.newer ++ l) (gone x h.older loud) ∙ sym (bare_append h.newer h.older) ∙ ap bare (sym h.was)
  where
    gone : (x : Note) (older : List Line) → (IsQuiet x → ⊥) → bare (Noted x ∷ older) ≡ bare older
    gone (Based n v b) older loud = absurd (loud tt)
    gone (Heard p v i e ms value) older loud = refl
    gone (Asked p r x) older loud = absurd (loud tt)
    gone (Told p r v) older loud = absurd (loud tt)

-- ---- the base of a node in a view

pub base_bare : (n : ℕ) (v : ViewId) (all : List Line) → base_in n v (bare all) ≡ base_in n v all
base_bare n v [] = refl
base_bare n v (Kept r ∷ all) = base_bare n v all
base_bare n v (Noted (Based m u b) ∷ all) = ap (base_after n v (Based m u b)) (base_bare n v all)
base_bare n v (Noted (Heard p u i e ms value) ∷ all) = base_bare n v all
base_bare n v (Noted (Asked p r x) ∷ all) = base_bare n v all
base_bare n v (Noted (Told p r u) ∷ all) = base_bare n v all

-- each base that the node noted is b's state
base_only : (n : ℕ) (v : ViewId) (s : GroupState) (all : List Line) → ((b : Origin) → Has (Noted (Based n v b)) all → b.state ≡ s) → (base_in n v all ≡ s) ⊎ (((b : Origin) → Has (Noted (Based n v b)) all → ⊥) × (base_in n v all ≡ empty_state))
base_only n v s [] only = inr (λ b h. h, refl)
base_only n v s (Kept r ∷ all) only = skip (Kept r) all (λ b e. cc) (base_only n v s all (λ b h. only b (inr h)))
  where
    skip : (y : Line) (all : List Line) → ((b : Origin) → Noted (Based n v b) ≡ y → ⊥) → (base_in n v all ≡ s) ⊎ (((b : Origin) → Has (Noted (Based n v b)) all → ⊥) × (base_in n v all ≡ empty_state)) → (base_in n v all ≡ s) ⊎ (((b : Origin) → Has (Noted (Based n v b)) (y ∷ all) → ⊥) × (base_in n v all ≡ empty_state))
    skip y all other (inl e) = inl e
    skip y all other (inr k) = inr (λ b h. none b h, k.1)
      where
        none : (b : Origin) → (Noted (Based n v b) ≡ y) ⊎ Has (Noted (Based n v b)) all → ⊥
        none b (inl e) = other b e
        none b (inr h) = k.0 b h
base_only n v s (Noted x ∷ all) only = by x (λ b h. only b h) (base_only n v s all (λ b h. only b (inr h)))
  where
    Found : List Line → GroupState → Type 0
    Found all t = (t ≡ s) ⊎ (((b : Origin) → Has (Noted (Based n v b)) all → ⊥) × (t ≡ empty_state))

    other : (y : Line) (t : GroupState) → ((b : Origin) → Noted (Based n v b) ≡ y → ⊥) → Found all t → Found (y ∷ all) t
    other y t not (inl e) = inl e
    other y t not (inr k) = inr (λ b h. none b h, k.1)
      where
        none : (b : Origin) → (Noted (Based n v b) ≡ y) ⊎ Has (Noted (Based n v b)) all → ⊥
        none b (inl e) = not b e
        none b (inr h) = k.0 b h

    by : (x : Note) → ((b : Origin) → Has (Noted (Based n v b)) (Noted x ∷ all) → b.state ≡ s) → Found all (base_in n v all) → Found (Noted x ∷ all) (base_after n v x (base_in n v all))
    by (Heard p u i e ms value) only k = other (Noted (Heard p u i e ms value)) (base_in n v all) (λ b q. cc) k
    by (Asked p r y) only k = other (Noted (Asked p r y)) (base_in n v all) (λ b q. cc) k
    by (Told p r u) only k = other (Noted (Told p r u)) (base_in n v all) (λ b q. cc) k
    by (Based m u b) only k = at (m == n && is_same u v) refl
      where
        at : (t : Bool) → (m == n && is_same u v) ≡ t → Found (Noted (Based m u b) ∷ all) (if t then b.state else base_in n v all)
        at true e =
            let z = and_parts (m == n) (is_same u v) e in
            let a : m ≡ n = eqb-true m n z.0 in
            let c : u ≡ v = eq_true u v z.1 in
            inl (only b (inl (λ i. Noted (Based (sym a i) (sym c i) b))))
        at false e = other (Noted (Based m u b)) (base_in n v all) differ k
          where
            differ : (c : Origin) → Noted (Based n v c) ≡ Noted (Based m u b) → ⊥
            differ c q =
                let a : n ≡ m = cc in
                let d : v ≡ u = cc in
                let same : is_same u u ≡ true = eq_same u in
                let t : (m == n && is_same u v) ≡ true = subst (λ (z : ℕ × ViewId). (m == z.0 && is_same u z.1) ≡ true) (λ i. (sym a i, sym d i)) (grind (arith, nat_tests, same)) in
                absurd (cc)

-- where the base of the view is known to the node, that is what it noted
pub base_is : (bases : Bases) (n : ℕ) (v : ViewId) (all : List Line) → ((b : Origin) → Has (Noted (Based n v b)) all → bases v ≡ Some b) → ((b : Origin) → bases v ≡ Some b → Has (Noted (Based n v b)) all) → base_in n v all ≡ base_state (bases v)
base_is bases n v all noted known = at (bases v) refl
  where
    at : (o : Option Origin) → bases v ≡ o → base_in n v all ≡ base_state o
    at None e = from (base_only n v empty_state all (λ b h. absurd (let k = noted b h in cc)))
      where
        from : (base_in n v all ≡ empty_state) ⊎ (((b : Origin) → Has (Noted (Based n v b)) all → ⊥) × (base_in n v all ≡ empty_state)) → base_in n v all ≡ empty_state
        from (inl k) = k
        from (inr k) = k.1
    at (Some b) e = from (base_only n v b.state all (λ c h. let k : Some c ≡ Some b = sym (noted c h) ∙ e in let z : c ≡ b = cc in ap (λ (x : Origin). x.state) z))
      where
        from : (base_in n v all ≡ b.state) ⊎ (((c : Origin) → Has (Noted (Based n v c)) all → ⊥) × (base_in n v all ≡ empty_state)) → base_in n v all ≡ b.state
        from (inl k) = k
        from (inr k) = absurd (k.0 b (known b e))
