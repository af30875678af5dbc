-- Tests on lists, as facts.
use Rattle.std.proofs.Common.{refl, ◌≡◌, List, [], ◌∷◌, Bool, true, false, sym, ap, ◌∙◌, inl, inr, arith}
use Rattle.std.specs.Prelude.{◌||◌}
use Rattle.std.specs.List.{list_any}
use Rattle.std.proofs.lemmas.Bool.Decides.{nat_tests}
use Rattle.rsct_packet.specs.declared.ids.ProviderId.{ProviderId}
use Rattle.rsct_packet.specs.Providers.{same_provider}
use Rattle.rsct_packet.specs.Search.{Has}

pub any_has : {A : Type 0} (t : A → Bool) (xs : List A) → list_any t xs ≡ true → (x : A) × Has x xs × (t x ≡ true)
any_has t [] e = absurd (cc)
any_has {A = A} t (y ∷ ys) e = by (t y) refl e (any_has t ys)
  where
    by : (b : Bool) → t y ≡ b → (b || list_any t ys) ≡ true → (list_any t ys ≡ true → (x : A) × Has x ys × (t x ≡ true)) → (x : A) × Has x (y ∷ ys) × (t x ≡ true)
    by true q e rest = (y, inl refl, q)
    by false q e rest = let k = rest e in (k.0, inr k.1, k.2)

pub has_any : {A : Type 0} (t : A → Bool) (xs : List A) (x : A) → Has x xs → t x ≡ true → list_any t xs ≡ true
has_any t [] x h e = absurd h
has_any t (y ∷ ys) x (inl q) e = ap (λ b. b || list_any t ys) (ap t (sym q) ∙ e)
has_any t (y ∷ ys) x (inr h) e = by (t y) (has_any t ys x h e)
  where
    by : (b : Bool) → list_any t ys ≡ true → (b || list_any t ys) ≡ true
    by true k = refl
    by false k = k

pub same_self : (p : ProviderId) → same_provider p p ≡ true
same_self p = grind (arith, nat_tests)
