-- Parts that are those of a message: they stay so as one is added, and as many as the pieces are the message.
use Rattle.std.proofs.Common.{◌≡◌, ℕ, zero, suc, ◌+◌, ◌*◌, ◌≤◌, ◌<◌, false, cond, Some, List, [], ◌∷◌, ◌++◌, length, take, drop, refl, sym, ◌∙◌, ap, subst, arith}
use Rattle.std.specs.Prelude.{is_some}
use Rattle.std.specs.declared.cmp.Ordering.{Ordering}
use Rattle.std.specs.declared.cmp.Ordering.TheVariants.{Less, Equal, Greater}
use Rattle.std.specs.Ordering.{nat_cmp, is_eq, match_ordering, MatchOrdering}
use Rattle.std.specs.BTreeMap.{is_at}
use Rattle.std.specs.Map.{lookup}
use Rattle.std.proofs.lemmas.Cmp.{ranked}
use Rattle.std.proofs.lemmas.List.{take_all, drop-drop}
use Rattle.piece_link.specs.Joining.{Parts, has_part, with_part, whole_of}
use Rattle.piece_link.specs.Pieces.{data_of, piece_count}
use Rattle.piece_link.proofs.ReadLaws.{count_covers}

-- the indices rise, from this one on and below that one
abbrev pub Ordered : ℕ → ℕ → Parts → Type 0
Ordered low high [] = Unit {0}
Ordered low high (p ∷ parts) = (low ≤ p.0) × (p.0 < high) × Ordered (suc p.0) high parts

-- each is the data of its index
abbrev pub EachIs : List ℕ → Parts → Type 0
EachIs bytes [] = Unit {0}
EachIs bytes (p ∷ parts) = (p.1 ≡ data_of bytes p.0) × EachIs bytes parts

ordered_by : (o : Ordering) (p : ℕ × List ℕ) (parts : Parts) (low high index : ℕ) (text : List ℕ) → nat_cmp index p.0 ≡ o → MatchOrdering o (index < p.0) (index ≡ p.0) (p.0 < index)
    → (low ≤ p.0) × (p.0 < high) × Ordered (suc p.0) high parts → low ≤ index → index < high
    → is_some (cond (is_eq o) (Some p.1) (lookup (is_at (nat_cmp index)) parts)) ≡ false
    → (suc p.0 ≤ index → has_part parts index ≡ false → Ordered (suc p.0) high (with_part parts index text))
    → Ordered low high (match_ordering o ((index, text) ∷ p ∷ parts) ((p.0, text) ∷ parts) (p ∷ with_part parts index text))
ordered_by Less p parts low high index text e lt h from below none rest = (from, below, (lt, h.1, h.2))
ordered_by Equal p parts low high index text e is h from below none rest = absurd cc
ordered_by Greater p parts low high index text e gt h from below none rest = (h.0, h.1, rest gt none)

pub ordered_with : (parts : Parts) (low high index : ℕ) (text : List ℕ) → Ordered low high parts → low ≤ index → index < high → has_part parts index ≡ false → Ordered low high (with_part parts index text)
ordered_with [] low high index text h from below none = (from, below, tt)
ordered_with (p ∷ parts) low high index text h from below none =
    ordered_by (nat_cmp index p.0) p parts low high index text refl (ranked index p.0 (nat_cmp index p.0) refl) h from below none
    (λ le other. ordered_with parts (suc p.0) high index text h.2 le below other)

each_by : (o : Ordering) (bytes : List ℕ) (p : ℕ × List ℕ) (parts : Parts) (index : ℕ) (text : List ℕ) → MatchOrdering o (index < p.0) (index ≡ p.0) (p.0 < index)
    → EachIs bytes (p ∷ parts) → text ≡ data_of bytes index → EachIs bytes (with_part parts index text)
    → EachIs bytes (match_ordering o ((index, text) ∷ p ∷ parts) ((p.0, text) ∷ parts) (p ∷ with_part parts index text))
each_by Less bytes p parts index text lt h e rest = (e, h)
each_by Equal bytes p parts index text is h e rest = (e ∙ ap (data_of bytes) is, h.1)
each_by Greater bytes p parts index text gt h e rest = (h.0, rest)

pub each_with : (bytes : List ℕ) (parts : Parts) (index : ℕ) (text : List ℕ) → EachIs bytes parts → text ≡ data_of bytes index → EachIs bytes (with_part parts index text)
each_with bytes [] index text h e = (e, tt)
each_with bytes (p ∷ parts) index text h e = each_by (nat_cmp index p.0) bytes p parts index text (ranked index p.0 (nat_cmp index p.0) refl) h e (each_with bytes parts index text h.1 e)

-- ---- as many as the pieces

pub ordered_len : (parts : Parts) (low high : ℕ) → low ≤ high → Ordered low high parts → length parts + low ≤ high
ordered_len [] low high le h = omega arith
ordered_len (p ∷ parts) low high le h =
    let rest : length parts + suc p.0 ≤ high = ordered_len parts (suc p.0) high h.1 h.2 in
    let from : low ≤ p.0 = h.0 in
    omega arith

take_on : (i n : ℕ) (xs : List ℕ) → take i xs ++ take n (drop i xs) ≡ take (i + n) xs
take_on zero n xs = let e : n ≡ zero + n = omega arith in ap (λ k. take k xs) e
take_on (suc i) zero [] = let e : suc i + zero ≡ suc i = omega arith in rw e refl
take_on (suc i) (suc n) [] = let e : suc i + suc n ≡ suc (i + suc n) = omega arith in rw e refl
take_on (suc i) n (x ∷ xs) = let e : suc i + n ≡ suc (i + n) = omega arith in rw e (ap (λ ys. x ∷ ys) (take_on i n xs))

whole_from : (bytes : List ℕ) (parts : Parts) (low high : ℕ) → Ordered low high parts → length parts + low ≡ high → EachIs bytes parts → whole_of parts ≡ take (1176 * length parts) (drop (1176 * low) bytes)
unfolding data_of
whole_from bytes [] low high h n each = refl
whole_from bytes (p ∷ parts) low high h n each =
    let rest : length parts + suc p.0 ≤ high = ordered_len parts (suc p.0) high h.1 h.2 in
    let from : low ≤ p.0 = h.0 in
    let at : p.0 ≡ low = omega arith in
    let start : List ℕ = drop (1176 * low) bytes in
    let left : length parts + suc p.0 ≡ high = omega arith in
    let later : whole_of parts ≡ take (1176 * length parts) (drop (1176 * suc p.0) bytes) = whole_from bytes parts (suc p.0) high h.2 left each.1 in
    let first : p.1 ≡ take 1176 start = each.0 ∙ ap (λ k. take 1176 (drop (1176 * k) bytes)) at in
    let next : 1176 * suc p.0 ≡ 1176 * low + 1176 = omega arith in
    let moved : drop (1176 * suc p.0) bytes ≡ drop 1176 start = ap (λ k. drop k bytes) next ∙ sym (drop-drop 1176 (1176 * low) bytes) in
    let size : 1176 + 1176 * length parts ≡ 1176 * length (p ∷ parts) = omega arith in
    ap (λ xs. xs ++ whole_of parts) first ∙ (ap (λ xs. take 1176 start ++ xs) (later ∙ ap (λ ys. take (1176 * length parts) ys) moved) ∙ (take_on 1176 (1176 * length parts) start ∙ ap (λ k. take k start) size))

pub whole_is : (bytes : List ℕ) (parts : Parts) → Ordered 0 (piece_count (length bytes)) parts → length parts ≡ piece_count (length bytes) → EachIs bytes parts → whole_of parts ≡ bytes
whole_is bytes parts h n each =
    let len : length parts + 0 ≡ piece_count (length bytes) = omega arith in
    let covers : length bytes ≤ 1176 * piece_count (length bytes) = count_covers (length bytes) in
    let all : length bytes ≤ 1176 * length parts = subst (λ (k : ℕ). length bytes ≤ 1176 * k) (sym n) covers in
    whole_from bytes parts 0 (piece_count (length bytes)) h len each ∙ take_all (1176 * length parts) bytes all
