-- Lists in place: item after item.
use Rattle.std.proofs.Common.{◌≡◌, ℕ, zero, suc, ◌+◌, ◌-◌, ◌<◌, ◌≢◌, List, [], ◌∷◌, ◌++◌, length, Option, Some, None, refl, sym, ap, subst, ◌∙◌, arith}
use Rattle.std.specs.Prelude.{IsSome}
use Rattle.rsct_packet.specs.Reading.{◌>>=◌, many_at}
use Rattle.rsct_packet.specs.Listed.{items_in, Skips}
use Rattle.rsct_packet.proofs.FormatLaws.{bind_some}

-- one item and the others

many_one : {A : Type 0} (f : List ℕ → Option (A × List ℕ)) (n : ℕ) (bytes after rest : List ℕ) (x : A) (xs : List A) → f bytes ≡ Some (x, after) → many_at f n after ≡ Some (xs, rest) → many_at f (suc n) bytes ≡ Some (x ∷ xs, rest)
unfolding many_at
many_one f n bytes after rest x xs e h = rw (e, h) refl

record One {A : Type 0} (f : List ℕ → Option (A × List ℕ)) (n : ℕ) (bytes rest : List ℕ) (ys : List A) : Type 0 where
  x : A
  xs : List A
  after : List ℕ
  first : f bytes ≡ Some (x, after)
  others : many_at f n after ≡ Some (xs, rest)
  same : x ∷ xs ≡ ys

one_of_many : {A : Type 0} (f : List ℕ → Option (A × List ℕ)) (n : ℕ) (bytes rest : List ℕ) (ys : List A) → many_at f (suc n) bytes ≡ Some (ys, rest) → One f n bytes rest ys
unfolding many_at
one_of_many {A = A} f n bytes rest ys e =
    let a = bind_some (f bytes) (λ a. many_at f n a.1 >>= λ b. Some (a.0 ∷ b.0, b.1)) (ys, rest) e in
    let b = bind_some (many_at f n a.0.1) (λ b. Some (a.0.0 ∷ b.0, b.1)) (ys, rest) a.2 in
    let same : ◌≡◌ {A = List A × List ℕ} (a.0.0 ∷ b.0.0, b.0.1) (ys, rest) = cc in
    record {
      x = a.0.0;
      xs = b.0.0;
      after = a.0.1;
      first = a.1;
      others = subst (λ (r : List ℕ). many_at f n a.0.1 ≡ Some (b.0.0, r)) (ap (λ (p : List A × List ℕ). p.1) same) b.1;
      same = ap (λ (p : List A × List ℕ). p.0) same;
    }

many_zero : {A : Type 0} (f : List ℕ → Option (A × List ℕ)) (bytes : List ℕ) → many_at f 0 bytes ≡ Some ([], bytes)
unfolding many_at
many_zero f bytes = refl

many_none : {A : Type 0} (f : List ℕ → Option (A × List ℕ)) (n : ℕ) (bytes : List ℕ) → f bytes ≡ None → many_at f (suc n) bytes ≡ None
unfolding many_at
many_none f n bytes e = rw e refl

many_none_after : {A : Type 0} (f : List ℕ → Option (A × List ℕ)) (n : ℕ) (bytes after : List ℕ) (x : A) → f bytes ≡ Some (x, after) → many_at f n after ≡ None → many_at f (suc n) bytes ≡ None
unfolding many_at
many_none_after f n bytes after x e h = rw (e, h) refl

-- a loop that skips them

pub skips_none : {A : Type 0} (f : List ℕ → Option (A × List ℕ)) (bytes : List ℕ) → Skips f 0 bytes bytes
skips_none f bytes = record { items = []; read = many_zero f bytes }

many_more : {A : Type 0} (f : List ℕ → Option (A × List ℕ)) (i : ℕ) (bytes rest after : List ℕ) (xs : List A) (x : A) → many_at f i bytes ≡ Some (xs, rest) → f rest ≡ Some (x, after) → many_at f (suc i) bytes ≡ Some (xs ++ x ∷ [], after)
many_more {A = A} f zero bytes rest after xs x e g =
    let same : ◌≡◌ {A = List A × List ℕ} ([], bytes) (xs, rest) = let z = many_zero f bytes in cc in
    let none : [] ≡ xs = ap (λ (p : List A × List ℕ). p.0) same in
    let begins : bytes ≡ rest = ap (λ (p : List A × List ℕ). p.1) same in
    let here : f bytes ≡ Some (x, after) = ap f begins ∙ g in
    subst (λ (ys : List A). many_at f 1 bytes ≡ Some (ys ++ x ∷ [], after)) none (many_one f 0 bytes after after x [] here (many_zero f after))
many_more {A = A} f (suc i) bytes rest after xs x e g =
    let o = one_of_many f i bytes rest xs e in
    subst (λ (ys : List A). many_at f (suc (suc i)) bytes ≡ Some (ys ++ x ∷ [], after)) o.same
    (many_one f (suc i) bytes o.after after o.x (o.xs ++ x ∷ []) o.first (many_more f i o.after rest after o.xs x o.others g))

pub skips_more : {A : Type 0} (f : List ℕ → Option (A × List ℕ)) (i : ℕ) (bytes rest after : List ℕ) (x : A) → Skips f i bytes rest → Some (x, after) ≡ f rest → Skips f (i + 1) bytes after
skips_more f i bytes rest after x s g =
    let e : i + 1 ≡ suc i = omega arith in
    rw e (record { items = s.items ++ x ∷ []; read = many_more f i bytes rest after s.items x s.read (sym g) })

many_stop : {A : Type 0} (f : List ℕ → Option (A × List ℕ)) (i more : ℕ) (bytes rest : List ℕ) (xs : List A) → many_at f i bytes ≡ Some (xs, rest) → f rest ≡ None → many_at f (i + suc more) bytes ≡ None
many_stop {A = A} f zero more bytes rest xs e g =
    let same : ◌≡◌ {A = List A × List ℕ} ([], bytes) (xs, rest) = let z = many_zero f bytes in cc in
    let here : f bytes ≡ None = ap f (ap (λ (p : List A × List ℕ). p.1) same) ∙ g in
    let n : 0 + suc more ≡ suc more = omega arith in
    rw n (many_none f more bytes here)
many_stop {A = A} f (suc i) more bytes rest xs e g =
    let o = one_of_many f i bytes rest xs e in
    let n : suc i + suc more ≡ suc (i + suc more) = omega arith in
    rw n (many_none_after f (i + suc more) bytes o.after o.x o.first (many_stop f i more o.after rest o.xs o.others g))

pub skips_stop : {A : Type 0} (f : List ℕ → Option (A × List ℕ)) (i n : ℕ) (bytes rest : List ℕ) → Skips f i bytes rest → None ≡ f rest → i < n → None ≡ many_at f n bytes
skips_stop f i n bytes rest s g lt =
    let e : n ≡ i + suc (n - suc i) = omega arith in
    rw e (sym (many_stop f i (n - suc i) bytes rest s.items s.read (sym g)))

-- a list in place after all its items were skipped
pub skips_all : {A : Type 0} (f : List ℕ → Option (A × List ℕ)) (n : ℕ) (bytes rest : List ℕ) → Skips f n bytes rest → Some (items_in (many_at f n bytes), rest) ≡ many_at f n bytes
skips_all f n bytes rest s = rw s.read refl

pub skips_some : {A : Type 0} (f : List ℕ → Option (A × List ℕ)) (n : ℕ) (bytes rest : List ℕ) → Skips f n bytes rest → IsSome (many_at f n bytes)
skips_some f n bytes rest s = rw s.read refl

-- what a list in place is

value_of : {B : Type 0} (r : Option B) → IsSome r → (x : B) × (r ≡ Some x)
value_of (Some x) h = (x, refl)
value_of None h = absurd cc

length_of_many : {A : Type 0} (f : List ℕ → Option (A × List ℕ)) (n : ℕ) (bytes rest : List ℕ) (xs : List A) → many_at f n bytes ≡ Some (xs, rest) → n ≡ length xs
length_of_many {A = A} f zero bytes rest xs e =
    let same : ◌≡◌ {A = List A × List ℕ} ([], bytes) (xs, rest) = let z = many_zero f bytes in cc in
    ap (λ (p : List A × List ℕ). length p.0) same
length_of_many {A = A} f (suc n) bytes rest xs e =
    let o = one_of_many f n bytes rest xs e in
    ap suc (length_of_many f n o.after rest o.xs o.others) ∙ ap (λ (ys : List A). length ys) o.same

pub listed_length : {A : Type 0} (f : List ℕ → Option (A × List ℕ)) (n : ℕ) (bytes : List ℕ) (xs : List A) → IsSome (many_at f n bytes) → items_in (many_at f n bytes) ≡ xs → n ≡ length xs
listed_length {A = A} f n bytes xs h e =
    let v = value_of (many_at f n bytes) h in
    length_of_many f n bytes v.0.1 v.0.0 v.1 ∙ (ap (λ (r : Option (List A × List ℕ)). length (items_in r)) (sym v.1) ∙ ap length e)

pub listed_empty : {A : Type 0} (f : List ℕ → Option (A × List ℕ)) (n : ℕ) (bytes : List ℕ) (xs : List A) → n ≡ 0 → items_in (many_at f n bytes) ≡ xs → xs ≡ []
listed_empty {A = A} f n bytes xs z e = sym e ∙ (ap (λ (k : ℕ). items_in (many_at f k bytes)) z ∙ ap (λ (r : Option (List A × List ℕ)). items_in r) (many_zero f bytes))

pub record First {A : Type 0} (f : List ℕ → Option (A × List ℕ)) (n : ℕ) (bytes : List ℕ) (x : A) (after : List ℕ) : Type 0 where
  pub rest : IsSome (many_at f (n - 1) after)
  pub items : items_in (many_at f n bytes) ≡ x ∷ items_in (many_at f (n - 1) after)

first_by : {A : Type 0} (f : List ℕ → Option (A × List ℕ)) (n : ℕ) (bytes after rest : List ℕ) (x : A) (ys : List A) → f bytes ≡ Some (x, after) → many_at f (suc n) bytes ≡ Some (ys, rest) → First f (suc n) bytes x after
first_by {A = A} f n bytes after rest x ys e h =
    let o = one_of_many f n bytes rest ys h in
    let is : ◌≡◌ {A = A × List ℕ} (o.x, o.after) (x, after) = let p = o.first in cc in
    let k : suc n - 1 ≡ n = omega arith in
    let others : many_at f n after ≡ Some (o.xs, rest) = subst (λ (r : List ℕ). many_at f n r ≡ Some (o.xs, rest)) (ap (λ (p : A × List ℕ). p.1) is) o.others in
    let whole : many_at f (suc n) bytes ≡ Some (x ∷ o.xs, rest) = many_one f n bytes after rest x o.xs e others in
    record { rest = rw (k, others) refl; items = rw (k, others, whole) refl }

pub listed_first : {A : Type 0} (f : List ℕ → Option (A × List ℕ)) (n : ℕ) (bytes after : List ℕ) (x : A) → n ≢ 0 → IsSome (many_at f n bytes) → Some (x, after) ≡ f bytes → First f n bytes x after
listed_first f zero bytes after x z h e = absurd (z refl)
listed_first {A = A} f (suc n) bytes after x z h e =
    let v = value_of (many_at f (suc n) bytes) h in
    first_by f n bytes after v.0.1 x v.0.0 (sym e) v.1

pub listed_stop : {A : Type 0} (f : List ℕ → Option (A × List ℕ)) (n : ℕ) (bytes : List ℕ) → n ≢ 0 → IsSome (many_at f n bytes) → None ≡ f bytes → ⊥
listed_stop f zero bytes z h e = z refl
listed_stop f (suc n) bytes z h e = let v = value_of (many_at f (suc n) bytes) h in let w = many_none f n bytes (sym e) in cc

-- what a loop that skips takes
pub ruleset skip_search = (skips_none, skips_more, skips_stop, skips_all, skips_some)
