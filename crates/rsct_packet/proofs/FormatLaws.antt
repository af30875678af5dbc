-- What is read is spelled so, and what is spelled so is read: once for all records, part by part.
use Rattle.std.proofs.Common.{◌≡◌, ℕ, zero, suc, ◌+◌, ◌^◌, ◌<◌, ◌≤◌, Bool, true, false, cond, ltb, List, [], ◌∷◌, ◌++◌, length, take, drop, Option, Some, None, refl, sym, ap, subst, ◌∙◌, append_assoc, arith, inl, inr, eqb-true}
use Rattle.std.specs.Prelude.{IsTrue, flat_map, ◌==◌, if◌then◌else◌}
use Rattle.std.specs.Borrow.{Bor}
use Rattle.std.specs.Int.{Width, w8, w16, w32, w64, byte_len, from_be_bytes, to_be_bytes}
use Rattle.std.proofs.lemmas.Bool.{cases_lt, ltb-false, le-ltb}
use Rattle.std.proofs.lemmas.List.{take_at, drop_at, take-append-drop, length-append, length-take, get_or-drop, get_or-take, get_or_past}
use Rattle.std.proofs.lemmas.Nat.{be_bytes_2, be_bytes_4, be_bytes_8, from_be_bytes-to_be_bytes_2, from_be_bytes-to_be_bytes_4, from_be_bytes-to_be_bytes_8}
use Rattle.rsct_packet.specs.Reading.{◌>>=◌, number_at, part_at, both_at, then_at, made_at, decoded_at, guarded_at, keyed_at, many_at, counted_at, option_at, optional_at, Gives, GivesPart, GivesOptionalPart}
use Rattle.rsct_packet.specs.Fields.{IsU8, IsU16, IsU32, IsU64, u8_text, u16_text, u32_text, u64_text}
use Rattle.rsct_packet.specs.Format.{IsBytes, Takes, IsFormat, IsKeyed, IsVariant, counted_text, option_key, option_text, optional_text, OptionFits, EachFits, AreMany, AreFew, IsFoundAt, IsOnlyAt, part_of, optional_part_of}

IsBytes-drop : (n : ℕ) (bytes : List ℕ) → IsBytes bytes → IsBytes (drop n bytes)
IsBytes-drop n bytes h i = rw get_or-drop (h (n + i))

IsBytes-take : (n : ℕ) (bytes : List ℕ) → IsBytes bytes → IsBytes (take n bytes)
IsBytes-take n bytes h i =
    elim (cases_lt i n) [
      | inl lt ↦ rw (get_or-take n bytes i 0 lt) (h i)
      | inr le ↦ rw (get_or_past (take n bytes) i 0 (omega (arith, length-take n bytes))) (omega arith)
    ]

-- the value of a step that gave one
pub bind_some : {A B : Type 0} (r : Option A) (f : A → Option B) (y : B) → (r >>= f) ≡ Some y → (x : A) × (r ≡ Some x) × (f x ≡ Some y)
bind_some (Some x) f y e = (x, refl, e)
bind_some None f y e = absurd cc

-- a test that let through
pub else_some : {A : Type 0} (b : Bool) (x y : A) → cond b None (Some x) ≡ Some y → (b ≡ false) × (x ≡ y)
else_some true x y e = absurd cc
else_some false x y e = (refl, cc)

pub then_some : {A : Type 0} (b : Bool) (x y : A) → cond b (Some x) None ≡ Some y → IsTrue b × (x ≡ y)
then_some true x y e = (refl, cc)
then_some false x y e = absurd cc

Takes-then : (a x b y c : List ℕ) → Takes a x b → Takes b y c → Takes a (x ++ y) c
Takes-then a x b y c p q = record { parts = p.parts ∙ ap (λ (t : List ℕ). x ++ t) q.parts ∙ sym (append_assoc x y c); rest_fits = q.rest_fits }

-- a number of a width

pub record IsWide (w : Width) (limit : ℕ) : Type 0 where
  pub len : (n : ℕ) → length (to_be_bytes w n) ≡ byte_len w
  pub back : (bytes : List ℕ) → length bytes ≡ byte_len w → IsBytes bytes → to_be_bytes w (from_be_bytes w bytes) ≡ bytes
  pub again : (n : ℕ) → n < limit → from_be_bytes w (to_be_bytes w n) ≡ n
  pub below : (bytes : List ℕ) → IsBytes bytes → from_be_bytes w bytes < limit

one_byte : (bytes : List ℕ) → length bytes ≡ 1 → IsBytes bytes → to_be_bytes w8 (from_be_bytes w8 bytes) ≡ bytes
one_byte [] e fits = absurd (omega arith)
one_byte (x ∷ []) e fits = let h : x < 256 = fits 0 in ap (λ (n : ℕ). n ∷ []) (omega arith)
one_byte (x ∷ y ∷ bytes) e fits = absurd (omega arith)

pub wide8 : IsWide w8 256
wide8 = record { len = λ n. refl; back = one_byte; again = λ n lt. omega arith; below = λ bytes fits. omega (arith, fits 0) }

pub wide16 : IsWide w16 (2 ^ 16)
wide16 = record { len = λ n. refl; back = λ bytes len fits. be_bytes_2 bytes _ len fits refl; again = λ n lt. from_be_bytes-to_be_bytes_2 n lt; below = λ bytes fits. omega (arith, fits 0, fits 1) }

pub wide32 : IsWide w32 (2 ^ 32)
wide32 = record { len = λ n. refl; back = λ bytes len fits. be_bytes_4 bytes _ len fits refl; again = λ n lt. from_be_bytes-to_be_bytes_4 n lt; below = λ bytes fits. omega (arith, fits 0, fits 1, fits 2, fits 3) }

pub wide64 : IsWide w64 (2 ^ 64)
wide64 = record { len = λ n. refl; back = λ bytes len fits. be_bytes_8 bytes _ len fits refl; again = λ n lt. from_be_bytes-to_be_bytes_8 n lt; below = λ bytes fits. omega (arith, fits 0, fits 1, fits 2, fits 3, fits 4, fits 5, fits 6, fits 7) }

number_found : (w : Width) (limit : ℕ) (wide : IsWide w limit) (bytes : List ℕ) (x : ℕ × List ℕ) → IsBytes bytes → number_at w bytes ≡ Some x → Takes bytes (to_be_bytes w x.0) x.1 × (x.0 < limit)
number_found w limit wide bytes x fits e =
    let g = else_some (ltb (length bytes) (byte_len w)) (from_be_bytes w (take (byte_len w) bytes), drop (byte_len w) bytes) x e in
    let long : byte_len w ≤ length bytes = ltb-false _ _ g.0 in
    let front : to_be_bytes w (from_be_bytes w (take (byte_len w) bytes)) ≡ take (byte_len w) bytes = wide.back (take (byte_len w) bytes) (omega (arith, length-take (byte_len w) bytes)) (IsBytes-take (byte_len w) bytes fits) in
    subst (λ (p : ℕ × List ℕ). Takes bytes (to_be_bytes w p.0) p.1 × (p.0 < limit)) g.1
    (record { parts = rw front (sym (take-append-drop (byte_len w) bytes)); rest_fits = IsBytes-drop (byte_len w) bytes fits }, wide.below (take (byte_len w) bytes) (IsBytes-take (byte_len w) bytes fits))

number_again : (w : Width) (limit : ℕ) (wide : IsWide w limit) (n : ℕ) (rest : List ℕ) → n < limit → number_at w (to_be_bytes w n ++ rest) ≡ Some (n, rest)
number_again w limit wide n rest lt =
    let len = wide.len n in
    let long : ltb (length (to_be_bytes w n ++ rest)) (byte_len w) ≡ false = le-ltb _ _ (omega (arith, length-append (to_be_bytes w n) rest)) in
    rw (long, take_at (to_be_bytes w n) rest (byte_len w) len, drop_at (to_be_bytes w n) rest (byte_len w) len, wide.again n lt) refl

pub number_format : (w : Width) (limit : ℕ) → IsWide w limit → IsFormat (number_at w) (to_be_bytes w) (λ n. n < limit)
number_format w limit wide = record { found = number_found w limit wide; again = number_again w limit wide }

pub u8_format : IsFormat (number_at w8) u8_text IsU8
u8_format = number_format w8 256 wide8

pub u16_format : IsFormat (number_at w16) u16_text IsU16
unfolding u16_text
u16_format = number_format w16 (2 ^ 16) wide16

pub u32_format : IsFormat (number_at w32) u32_text IsU32
unfolding u32_text
u32_format = number_format w32 (2 ^ 32) wide32

pub u64_format : IsFormat (number_at w64) u64_text IsU64
unfolding u64_text
u64_format = number_format w64 (2 ^ 64) wide64

-- one after the other, which the first may say more of
pub then_format : {A B : Type 0} {f : List ℕ → Option (A × List ℕ)} {tf : A → List ℕ} {ff : A → Type 0} {g : A → List ℕ → Option (B × List ℕ)} {tg : A → B → List ℕ} {fg : A → B → Type 0} → IsFormat f tf ff → ((a : A) → IsFormat (g a) (tg a) (fg a)) → IsFormat (then_at f g) (λ x. tf x.0 ++ tg x.0 x.1) (λ x. ff x.0 × fg x.0 x.1)
then_format {A = A} {B = B} {f = f} {tf = tf} {ff = ff} {g = g} {tg = tg} {fg = fg} first second = record {
  found = λ bytes x fits e.
      let a = bind_some (f bytes) (λ a. g a.0 a.1 >>= λ b. Some ((a.0, b.0), b.1)) x e in
      let b = bind_some (g a.0.0 a.0.1) (λ b. Some ((a.0.0, b.0), b.1)) x a.2 in
      let p = first.found bytes a.0 fits a.1 in
      let q = (second a.0.0).found a.0.1 b.0 p.0.rest_fits b.1 in
      let is : ◌≡◌ {A = (A × B) × List ℕ} ((a.0.0, b.0.0), b.0.1) x = cc in
      subst (λ (y : (A × B) × List ℕ). Takes bytes (tf y.0.0 ++ tg y.0.0 y.0.1) y.1 × (ff y.0.0 × fg y.0.0 y.0.1)) is (Takes-then _ _ _ _ _ p.0 q.0, (p.1, q.1));
  again = λ x rest h.
      ap (then_at f g) (append_assoc (tf x.0) (tg x.0 x.1) rest)
      ∙ rw (first.again x.0 (tg x.0 x.1 ++ rest) h.0, (second x.0).again x.1 rest h.1) refl;
}

pub both_format : {A B : Type 0} {f : List ℕ → Option (A × List ℕ)} {tf : A → List ℕ} {ff : A → Type 0} {g : List ℕ → Option (B × List ℕ)} {tg : B → List ℕ} {fg : B → Type 0} → IsFormat f tf ff → IsFormat g tg fg → IsFormat (both_at f g) (λ x. tf x.0 ++ tg x.1) (λ x. ff x.0 × fg x.1)
both_format {g = g} {tg = tg} {fg = fg} first second = then_format {g = λ a. g} {tg = λ a. tg} {fg = λ a. fg} first (λ a. second)

-- another type
pub decoded_format : {A B : Type 0} {f : List ℕ → Option (A × List ℕ)} {tf : A → List ℕ} {ff : A → Type 0} (decode : A → Option B) (parts : B → A) → ((a : A) (b : B) → decode a ≡ Some b → parts b ≡ a) → ((b : B) → ff (parts b) → decode (parts b) ≡ Some b) → IsFormat f tf ff → IsFormat (decoded_at decode f) (λ b. tf (parts b)) (λ b. ff (parts b))
decoded_format {A = A} {B = B} {f = f} {tf = tf} {ff = ff} decode parts back forth format = record {
  found = λ bytes x fits e.
      let a = bind_some (f bytes) (λ a. decode a.0 >>= λ b. Some (b, a.1)) x e in
      let b = bind_some (decode a.0.0) (λ b. Some (b, a.0.1)) x a.2 in
      let p = format.found bytes a.0 fits a.1 in
      let is : ◌≡◌ {A = B × List ℕ} (b.0, a.0.1) x = cc in
      let same = back a.0.0 b.0 b.1 in
      subst (λ (y : B × List ℕ). Takes bytes (tf (parts y.0)) y.1 × ff (parts y.0)) is
      (subst (λ (y : A). Takes bytes (tf y) a.0.1 × ff y) (sym same) p);
  again = λ x rest h. rw (format.again (parts x) rest h, forth x h) refl;
}

pub made_format : {A B : Type 0} {f : List ℕ → Option (A × List ℕ)} {tf : A → List ℕ} {ff : A → Type 0} (make : A → B) (parts : B → A) → ((a : A) → parts (make a) ≡ a) → ((b : B) → make (parts b) ≡ b) → IsFormat f tf ff → IsFormat (made_at make f) (λ b. tf (parts b)) (λ b. ff (parts b))
made_format {A = A} {B = B} {f = f} {tf = tf} {ff = ff} make parts back forth format = record {
  found = λ bytes x fits e.
      let a = bind_some (f bytes) (λ a. Some (make a.0, a.1)) x e in
      let p = format.found bytes a.0 fits a.1 in
      let is : ◌≡◌ {A = B × List ℕ} (make a.0.0, a.0.1) x = cc in
      subst (λ (y : B × List ℕ). Takes bytes (tf (parts y.0)) y.1 × ff (parts y.0)) is
      (subst (λ (y : A). Takes bytes (tf y) a.0.1 × ff y) (sym (back a.0.0)) p);
  again = λ x rest h. rw (format.again (parts x) rest h, forth x) refl;
}

-- only what passes a test
pub guarded_format : {A : Type 0} {f : List ℕ → Option (A × List ℕ)} {tf : A → List ℕ} {ff : A → Type 0} (test : A → Bool) → IsFormat f tf ff → IsFormat (guarded_at test f) tf (λ x. ff x × IsTrue (test x))
guarded_format {A = A} {f = f} {tf = tf} {ff = ff} test format = record {
  found = λ bytes x fits e.
      let a = bind_some (f bytes) (λ a. if test a.0 then Some a else None) x e in
      let b = then_some (test a.0.0) a.0 x a.2 in
      let p = format.found bytes a.0 fits a.1 in
      subst (λ (y : A × List ℕ). Takes bytes (tf y.0) y.1 × (ff y.0 × IsTrue (test y.0))) b.1 (p.0, (p.1, b.0));
  again = λ x rest h. rw (format.again x rest h.0, h.1) refl;
}

-- the same values, said in other words
pub fits_format : {A : Type 0} {f : List ℕ → Option (A × List ℕ)} {tf : A → List ℕ} {ff : A → Type 0} (fits : A → Type 0) → ((x : A) → ff x → fits x) → ((x : A) → fits x → ff x) → IsFormat f tf ff → IsFormat f tf fits
fits_format fits to back format = record {
  found = λ bytes x h e. let p = format.found bytes x h e in (p.0, to x.0 p.1);
  again = λ x rest h. format.again x rest (back x h);
}

-- nothing, which stands for one value
pub nothing_format : {A : Type 0} (a : A) → IsFormat (λ bytes. Some (a, bytes)) (λ x. []) (λ x. x ≡ a)
nothing_format {A = A} a = record {
  found = λ bytes x h e.
      let is : ◌≡◌ {A = A × List ℕ} (a, bytes) x = cc in
      subst (λ (y : A × List ℕ). Takes bytes [] y.1 × (y.0 ≡ a)) is (record { parts = refl; rest_fits = h }, refl);
  again = λ x rest h. ap (λ (y : A). Some (y, rest)) (sym h);
}

-- the first says how the second is read
pub keyed_format : {K A : Type 0} {key : A → K} {f : List ℕ → Option (K × List ℕ)} {tf : K → List ℕ} {ff : K → Type 0} {body : K → List ℕ → Option (A × List ℕ)} {text : A → List ℕ} {fits : A → Type 0} → IsFormat f tf ff → IsKeyed key body text fits → IsFormat (keyed_at f body) (λ x. tf (key x) ++ text x) (λ x. ff (key x) × fits x)
keyed_format {K = K} {A = A} {key = key} {f = f} {tf = tf} {ff = ff} {body = body} {text = text} {fits = fits} first keyed = record {
  found = λ bytes x h e.
      let k = bind_some (f bytes) (λ k. body k.0 k.1) x e in
      let p = first.found bytes k.0 h k.1 in
      let q = keyed.found k.0.0 k.0.1 x p.0.rest_fits k.2 in
      subst (λ (j : K). Takes bytes (tf j ++ text x.0) x.1 × (ff j × fits x.0)) (sym q.2) (Takes-then _ _ _ _ _ p.0 q.0, (p.1, q.1));
  again = λ x rest h.
      ap (keyed_at f body) (append_assoc (tf (key x)) (text x) rest)
      ∙ rw (first.again (key x) (text x ++ rest) h.0) (keyed.again x rest h.1);
}

-- so many bytes
pub part_keyed : IsKeyed length part_at (λ b. b) (λ b. Unit {0})
part_keyed = record {
  found = λ n bytes x fits e.
      let g = else_some (ltb (length bytes) n) (take n bytes, drop n bytes) x e in
      let long : n ≤ length bytes = ltb-false _ _ g.0 in
      subst (λ (p : List ℕ × List ℕ). Takes bytes p.0 p.1 × Unit {0} × (length p.0 ≡ n)) g.1
      (record { parts = sym (take-append-drop n bytes); rest_fits = IsBytes-drop n bytes fits }, tt, omega (arith, length-take n bytes));
  again = λ x rest h.
      let long : ltb (length (x ++ rest)) (length x) ≡ false = le-ltb _ _ (omega (arith, length-append x rest)) in
      rw (long, take_at x rest (length x) refl, drop_at x rest (length x) refl) refl;
}

-- one reader of a family
keyed_one : {K A : Type 0} {key : A → K} {body : K → List ℕ → Option (A × List ℕ)} {text : A → List ℕ} {fits : A → Type 0} (k : K) → IsKeyed key body text fits → IsFormat (body k) text (λ x. fits x × (key x ≡ k))
keyed_one {K = K} {body = body} {text = text} k keyed = record {
  found = λ bytes x h e. let p = keyed.found k bytes x h e in (p.0, (p.1, p.2));
  again = λ x rest h. ap (λ (j : K). body j (text x ++ rest)) (sym h.1) ∙ keyed.again x rest h.0;
}

pub part_format : (n : ℕ) → IsFormat (part_at n) (λ b. b) (λ b. length b ≡ n)
part_format n = fits_format (λ b. length b ≡ n) (λ b h. h.1) (λ b h. (tt, h)) (keyed_one n part_keyed)

-- so many of a kind
many_found : {A : Type 0} {f : List ℕ → Option (A × List ℕ)} {tf : A → List ℕ} {ff : A → Type 0} → IsFormat f tf ff → (n : ℕ) (bytes : List ℕ) (x : List A × List ℕ) → IsBytes bytes → many_at f n bytes ≡ Some x → Takes bytes (flat_map tf x.0) x.1 × EachFits ff x.0 × (length x.0 ≡ n)
unfolding many_at
many_found {A = A} {f = f} {tf = tf} {ff = ff} format zero bytes x fits e =
    let is : ◌≡◌ {A = List A × List ℕ} ([], bytes) x = cc in
    subst (λ (y : List A × List ℕ). Takes bytes (flat_map tf y.0) y.1 × EachFits ff y.0 × (length y.0 ≡ 0)) is (record { parts = refl; rest_fits = fits }, tt, refl)
many_found {A = A} {f = f} {tf = tf} {ff = ff} format (suc n) bytes x fits e =
    let a = bind_some (f bytes) (λ a. many_at f n a.1 >>= λ b. Some (a.0 ∷ b.0, b.1)) x e in
    let b = bind_some (many_at f n a.0.1) (λ b. Some (a.0.0 ∷ b.0, b.1)) x a.2 in
    let p = format.found bytes a.0 fits a.1 in
    let q = many_found format n a.0.1 b.0 p.0.rest_fits b.1 in
    let is : ◌≡◌ {A = List A × List ℕ} (a.0.0 ∷ b.0.0, b.0.1) x = cc in
    subst (λ (y : List A × List ℕ). Takes bytes (flat_map tf y.0) y.1 × EachFits ff y.0 × (length y.0 ≡ suc n)) is
    (Takes-then _ _ _ _ _ p.0 q.0, (p.1, q.1), ap suc q.2)

many_again : {A : Type 0} {f : List ℕ → Option (A × List ℕ)} {tf : A → List ℕ} {ff : A → Type 0} → IsFormat f tf ff → (x : List A) (rest : List ℕ) → EachFits ff x → many_at f (length x) (flat_map tf x ++ rest) ≡ Some (x, rest)
unfolding many_at
many_again format [] rest h = refl
many_again {f = f} {tf = tf} format (x ∷ xs) rest h =
    ap (many_at f (suc (length xs))) (append_assoc (tf x) (flat_map tf xs) rest)
    ∙ rw (format.again x (flat_map tf xs ++ rest) h.0, many_again format xs rest h.1) refl

pub many_keyed : {A : Type 0} {f : List ℕ → Option (A × List ℕ)} {tf : A → List ℕ} {ff : A → Type 0} → IsFormat f tf ff → IsKeyed length (many_at f) (flat_map tf) (EachFits ff)
many_keyed format = record { found = many_found format; again = many_again format }

pub many_format : {A : Type 0} {f : List ℕ → Option (A × List ℕ)} {tf : A → List ℕ} {ff : A → Type 0} (n : ℕ) → IsFormat f tf ff → IsFormat (many_at f n) (flat_map tf) (AreMany n ff)
many_format n format = keyed_one n (many_keyed format)

-- a list behind its count
pub counted_format : {A : Type 0} {f : List ℕ → Option (A × List ℕ)} {tf : A → List ℕ} {ff : A → Type 0} (w : Width) (limit : ℕ) → IsWide w limit → IsFormat f tf ff → IsFormat (counted_at w f) (counted_text w tf) (λ xs. (length xs < limit) × EachFits ff xs)
counted_format w limit wide format = keyed_format (number_format w limit wide) (many_keyed format)

pub few_format : {A : Type 0} {f : List ℕ → Option (A × List ℕ)} {tf : A → List ℕ} {ff : A → Type 0} → IsFormat f tf ff → IsFormat (counted_at w8 f) (counted_text w8 tf) (AreFew ff)
few_format format = counted_format w8 256 wide8 format

-- a variant of an enum, whose key is the byte before it
pub made_variant : {A B : Type 0} {f : List ℕ → Option (B × List ℕ)} {tf : B → List ℕ} {ff : B → Type 0} {key : A → ℕ} {text : A → List ℕ} {fits : A → Type 0} {k : ℕ} (make : B → A) → ((b : B) → text (make b) ≡ tf b) → ((b : B) → ff b → fits (make b)) → ((b : B) → key (make b) ≡ k) → IsFormat f tf ff → IsVariant key text fits k (made_at make f)
made_variant {A = A} {f = f} {key = key} {text = text} {fits = fits} {k = k} make same fit is_key format = record {
  found = λ bytes x h e.
      let a = bind_some (f bytes) (λ a. Some (make a.0, a.1)) x e in
      let p = format.found bytes a.0 h a.1 in
      let is : ◌≡◌ {A = A × List ℕ} (make a.0.0, a.0.1) x = cc in
      subst (λ (y : A × List ℕ). Takes bytes (text y.0) y.1 × fits y.0 × (key y.0 ≡ k)) is
      (subst (λ (t : List ℕ). Takes bytes t a.0.1) (sym (same a.0.0)) p.0, fit a.0.0 p.1, is_key a.0.0);
}

-- a variant that has nothing more
pub plain_variant : {A : Type 0} {key : A → ℕ} {text : A → List ℕ} {fits : A → Type 0} {k : ℕ} (a : A) → text a ≡ [] → fits a → key a ≡ k → IsVariant key text fits k (λ bytes. Some (a, bytes))
plain_variant {A = A} {key = key} {text = text} {fits = fits} {k = k} a empty fit is_key = record {
  found = λ bytes x h e.
      let is : ◌≡◌ {A = A × List ℕ} (a, bytes) x = cc in
      subst (λ (y : A × List ℕ). Takes bytes (text y.0) y.1 × fits y.0 × (key y.0 ≡ k)) is
      (rw empty (record { parts = refl; rest_fits = h }), fit, is_key);
}

or_variant_by : {A : Type 0} {key : A → ℕ} {text : A → List ℕ} {fits : A → Type 0} {f g : List ℕ → Option (A × List ℕ)} {n k : ℕ} (b : Bool) → (b ≡ true → k ≡ n) → IsVariant key text fits n f → IsVariant key text fits k g → IsVariant key text fits k (λ bytes. cond b (f bytes) (g bytes))
or_variant_by {key = key} {text = text} {fits = fits} {f = f} true same one others = subst (λ (j : ℕ). IsVariant key text fits j f) (sym (same refl)) one
or_variant_by false same one others = others

pub or_variant : {A : Type 0} {key : A → ℕ} {text : A → List ℕ} {fits : A → Type 0} {f g : List ℕ → Option (A × List ℕ)} (n k : ℕ) → IsVariant key text fits n f → IsVariant key text fits k g → IsVariant key text fits k (λ bytes. if k == n then f bytes else g bytes)
or_variant n k one others = or_variant_by (k == n) (eqb-true k n) one others

pub no_variant : {A : Type 0} {key : A → ℕ} {text : A → List ℕ} {fits : A → Type 0} {k : ℕ} → IsVariant key text fits k (λ bytes. None)
no_variant = record { found = λ bytes x h e. absurd cc }

-- the readers of all keys
pub keyed_of : {A : Type 0} {key : A → ℕ} {text : A → List ℕ} {fits : A → Type 0} {body : ℕ → List ℕ → Option (A × List ℕ)} → ((k : ℕ) → IsVariant key text fits k (body k)) → ((x : A) (rest : List ℕ) → fits x → body (key x) (text x ++ rest) ≡ Some (x, rest)) → IsKeyed key body text fits
keyed_of variants again = record { found = λ k bytes x h e. (variants k).found bytes x h e; again = again }

-- an enum: the byte of its variant, and what the variant has
pub choice_format : {A : Type 0} {key : A → ℕ} {text : A → List ℕ} {fits : A → Type 0} {body : ℕ → List ℕ → Option (A × List ℕ)} → ((x : A) → key x < 256) → IsKeyed key body text fits → IsFormat (keyed_at (number_at w8) body) (λ x. to_be_bytes w8 (key x) ++ text x) fits
choice_format {fits = fits} small keyed = fits_format fits (λ x h. h.1) (λ x h. (small x, h)) (keyed_format u8_format keyed)

-- an option
option_again : {A : Type 0} {f : List ℕ → Option (A × List ℕ)} {tf : A → List ℕ} {ff : A → Type 0} → IsFormat f tf ff → (x : Option A) (rest : List ℕ) → OptionFits ff x → option_at f (option_key x) (option_text tf x ++ rest) ≡ Some (x, rest)
option_again format None rest h = refl
option_again format (Some x) rest h = rw (format.again x rest h) refl

option_small : {A : Type 0} (x : Option A) → option_key x < 256
option_small None = omega arith
option_small (Some x) = omega arith

pub optional_format : {A : Type 0} {f : List ℕ → Option (A × List ℕ)} {tf : A → List ℕ} {ff : A → Type 0} → IsFormat f tf ff → IsFormat (optional_at f) (optional_text tf) (OptionFits ff)
optional_format {A = A} {f = f} {tf = tf} {ff = ff} format =
    choice_format option_small
    (keyed_of (λ k. or_variant 0 k (plain_variant None refl tt refl) (or_variant 1 k (made_variant Some (λ b. refl) (λ b h. h) (λ b. refl) format) no_variant)) (option_again format))

-- what a public reader says
gives_by : {A : Type 0} {f : List ℕ → Option (A × List ℕ)} {text : A → List ℕ} {fits : A → Type 0} → IsFormat f text fits → (bytes : List ℕ) (result : Option (A × Bor (List ℕ))) (read : Option (A × List ℕ)) → f bytes ≡ read → IsBytes bytes → Gives result read → IsFoundAt text fits result bytes
gives_by format bytes None read is h e = tt
gives_by {A = A} {f = f} format bytes (Some x) read is h e =
    let p = format.found bytes (x.0, x.1.now) h (is ∙ sym e) in
    (p.1, p.0.parts)

pub gives_found : {A : Type 0} {f : List ℕ → Option (A × List ℕ)} {text : A → List ℕ} {fits : A → Type 0} → IsFormat f text fits → (bytes : List ℕ) (result : Option (A × Bor (List ℕ))) → IsBytes bytes → Gives result (f bytes) → IsFoundAt text fits result bytes
gives_found {f = f} format bytes result h e = gives_by format bytes result (f bytes) refl h e

pub gives_only : {A : Type 0} {f : List ℕ → Option (A × List ℕ)} {text : A → List ℕ} {fits : A → Type 0} → IsFormat f text fits → (bytes : List ℕ) (result : Option (A × Bor (List ℕ))) → Gives result (f bytes) → IsOnlyAt text fits result bytes
gives_only {f = f} format bytes result e = record { only = λ x rest h is. e ∙ (ap f is ∙ format.again x rest h) }

pub part_gives : (result : Option (Bor (List ℕ) × Bor (List ℕ))) (read : Option (List ℕ × List ℕ)) → GivesPart result read → Gives (part_of result) read
part_gives None read e = e
part_gives (Some x) read e = e

pub optional_part_gives : (result : Option (Option (Bor (List ℕ)) × Bor (List ℕ))) (read : Option (Option (List ℕ) × List ℕ)) → GivesOptionalPart result read → Gives (optional_part_of result) read
optional_part_gives None read e = e
optional_part_gives (Some x) read e = e

-- what a reader of a format takes
pub ruleset format_reads = (gives_found, gives_only)
