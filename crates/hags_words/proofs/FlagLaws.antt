-- The flag among words, word by word.
use Rattle.std.proofs.Common.{◌≡◌, ℕ, ◌+◌, ◌<◌, ◌≤◌, Bool, true, false, List, [], ◌∷◌, length, get_or, map, drop, Option, Some, None, if◌then◌else◌, refl, sym, ◌∙◌, ap}
use Rattle.std.proofs.lemmas.List.{at_drop_more, at_drop_all}
use Rattle.hags_words.specs.Options.{◌>>=◌}
use Rattle.hags_words.specs.Flags.{Split, after_flag, flag_from}

goes : (s : Split) (o : Option Split) (word : List ℕ) (words : List (List ℕ)) → after_flag s word ≡ o → flag_from s (word ∷ words) ≡ (o >>= λ t. flag_from t words)
unfolding flag_from
goes s o word words e = ap (λ (r : Option Split). r >>= λ t. flag_from t words) e

ends : (s : Split) → flag_from s [] ≡ Some s
unfolding flag_from
ends s = refl

-- where the words from the i-th on are still to be taken
module _ {X : Type 0} (f : X → List ℕ) (s : Split) (ws : List X) (i : ℕ) (all : Option Split) (invariant : flag_from s (map f (drop i ws)) ≡ all) where
  next : (x : X) (o : Option Split) → i < length ws → x ≡ get_or ws i x → after_flag s (f x) ≡ o → (o >>= λ t. flag_from t (map f (drop (i + 1) ws))) ≡ all
  next x o h is e =
      sym (at_drop_more (λ vs. flag_from s (map f vs)) ws i x h
      ∙ (ap (λ y. flag_from s (f y ∷ map f (drop (i + 1) ws))) (sym is) ∙ goes s o (f x) (map f (drop (i + 1) ws)) e)) ∙ invariant

  pub flag_goes : (t : Split) (x : X) (placed : Bool) → i < length ws → x ≡ get_or ws i x → placed ≡ true → after_flag s (f x) ≡ (if placed then Some t else None) → flag_from t (map f (drop (i + 1) ws)) ≡ all
  flag_goes t x placed h is placing e = next x (Some t) h is (e ∙ ap (λ (b : Bool). if b then Some t else None) placing)

  pub flag_fails : (t : Split) (x : X) (placed : Bool) → i < length ws → x ≡ get_or ws i x → placed ≡ false → after_flag s (f x) ≡ (if placed then Some t else None) → None ≡ all
  flag_fails t x placed h is placing e = next x None h is (e ∙ ap (λ (b : Bool). if b then Some t else None) placing)

  pub flag_ends : length ws ≤ i → Some s ≡ all
  flag_ends h = sym (at_drop_all (λ vs. flag_from s (map f vs)) ws i h ∙ ends s) ∙ invariant
