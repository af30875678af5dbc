-- Tests, as facts.
use Rattle.std.proofs.Common.{◌≡◌, ℕ, zero, suc, Bool, true, false, List, [], ◌∷◌, ◌++◌, length, take, Some, refl, ap, ◌∙◌, subst, inl, inr, arith}
use Rattle.std.specs.Prelude.{◌==◌, ◌&&◌, not, filter, find, map, is_none, if◌then◌else◌}
use Rattle.std.specs.List.{list_any, list_all}
use Rattle.std.specs.Str.{bytes_eq}
use Rattle.std.proofs.lemmas.Bool.Decides.{nat_tests}
use Rattle.std.proofs.lemmas.Slice.Eq.{bytes_eq-Decides}
use Rattle.rsct_packet.specs.declared.ids.Member.{Member}
use Rattle.rsct_packet.specs.declared.ids.ProviderId.{ProviderId}
use Rattle.rsct_packet.specs.declared.ids.ViewId.{ViewId}
use Rattle.rsct_packet.specs.Ids.{same_view, same_member}
use Rattle.rsct_packet.specs.Providers.{same_provider}
use Rattle.rsct_packet.specs.Search.{Has}
use Rattle.run_audit.specs.Table.{all_same}

pub both : (a b : Bool) → a ≡ true → b ≡ true → (a && b) ≡ true
both a b e f = rw (e, f) refl

pub and_not : (a b : Bool) → b ≡ true → (a && not b) ≡ false
and_not true b e = ap not e
and_not false b e = refl

pub eq_self : (a : ℕ) → (a == a) ≡ true
eq_self a = grind (arith, nat_tests)

pub view_self : (v : ViewId) → same_view v v ≡ true
view_self v = grind (arith, nat_tests)

pub member_self : (m : Member) → same_member m m ≡ true
member_self m = grind (arith, nat_tests)

pub provider_self : (p : ProviderId) → same_provider p p ≡ true
provider_self p = grind (arith, nat_tests)

pub text_self : (b : List ℕ) → bytes_eq b b ≡ true
text_self b = (bytes_eq-Decides b b).1 refl

pub all_self : {A : Type 0} (same : A → A → Bool) → ((x : A) → same x x ≡ true) → (xs : List A) → all_same same xs xs ≡ true
unfolding all_same
all_self same self [] = refl
all_self same self (x ∷ xs) = both (same x x) (all_same same xs xs) (self x) (all_self same self xs)

pub all_equal : {A : Type 0} (same : A → A → Bool) → ((x : A) → same x x ≡ true) → (xs ys : List A) → xs ≡ ys → all_same same xs ys ≡ true
all_equal same self xs ys e = subst (λ zs. all_same same xs zs ≡ true) e (all_self same self xs)

pub all_by : {A : Type 0} (test : A → Bool) (xs : List A) → ((x : A) → Has x xs → test x ≡ true) → list_all test xs ≡ true
all_by test [] h = refl
all_by test (x ∷ xs) h = both (test x) (list_all test xs) (h x (inl refl)) (all_by test xs (λ y k. h y (inr k)))

pub found_none : {A : Type 0} (test : A → Bool) (xs : List A) → ((x : A) → Has x xs → test x ≡ false) → is_none (find test xs) ≡ true
found_none test [] h = refl
found_none test (x ∷ xs) h = by (test x) (h x (inl refl)) (found_none test xs (λ y k. h y (inr k)))
  where
    by : (t : Bool) → t ≡ false → is_none (find test xs) ≡ true → is_none (if t then Some x else find test xs) ≡ true
    by true e k = absurd cc
    by false e k = k

pub none_any : {A : Type 0} (test : A → Bool) (xs : List A) → (list_any test xs ≡ true → ⊥) → list_any test xs ≡ false
none_any test xs h = by (list_any test xs) h
  where
    by : (t : Bool) → (t ≡ true → ⊥) → t ≡ false
    by true k = absurd (k refl)
    by false k = refl

pub filter_alike : {A : Type 0} (s t : A → Bool) → ((x : A) → s x ≡ t x) → (xs : List A) → filter s xs ≡ filter t xs
filter_alike s t h [] = refl
filter_alike s t h (x ∷ xs) = (λ i. if h x i then x ∷ filter s xs else filter s xs) ∙ ap (λ ys. if t x then x ∷ ys else ys) (filter_alike s t h xs)

pub map_length : {A B : Type 0} (f : A → B) (xs : List A) → length (map f xs) ≡ length xs
map_length f [] = refl
map_length f (x ∷ xs) = let h : length (map f xs) ≡ length xs = map_length f xs in omega arith

pub map_end : {A B : Type 0} (f : A → B) (xs : List A) (x : A) → map f (xs ++ x ∷ []) ≡ map f xs ++ f x ∷ []
map_end f [] x = refl
map_end f (y ∷ xs) x = ap (λ z. f y ∷ z) (map_end f xs x)

pub map_take : {A B : Type 0} (f : A → B) (k : ℕ) (xs : List A) → take k (map f xs) ≡ map f (take k xs)
map_take f zero xs = refl
map_take f (suc k) [] = refl
map_take f (suc k) (x ∷ xs) = ap (λ z. f x ∷ z) (map_take f k xs)
