-- Bytes in hex digits, pair by pair.
use Rattle.std.proofs.Common.{◌≡◌, ℕ, ◌-◌, ◌<◌, ◌≤◌, ◌++◌, List, [], ◌∷◌, length, take, drop, get_or, Option, Some, None, refl, sym, ◌∙◌, ap, arith, append_assoc, append-nil}
use Rattle.std.specs.Option.{option_map}
use Rattle.value_words.specs.Words.{hex_word, hex_pair}
use Rattle.value_words.proofs.SplitLaws.{from_place}

-- these bytes, and those that are spelled by what is left
unfoldable pub hex_after : List ℕ → List ℕ → Option (List ℕ)
hex_after bytes left = option_map (λ xs. bytes ++ xs) (hex_word left)

after_pair : Option ℕ → Option (List ℕ) → Option (List ℕ)
after_pair p r = elim p [ None ↦ None | Some x ↦ elim r [ None ↦ None | Some xs ↦ Some (x ∷ xs) ] ]

pair_is : (bytes : List ℕ) (a b : ℕ) (bs : List ℕ) (p : Option ℕ) → hex_pair a b ≡ p → hex_after bytes (a ∷ b ∷ bs) ≡ option_map (λ xs. bytes ++ xs) (after_pair p (hex_word bs))
unfolding hex_after hex_word after_pair
pair_is bytes a b bs p e = ap (λ q. option_map (λ xs. bytes ++ xs) (elim q [ None ↦ None | Some x ↦ elim (hex_word bs) [ None ↦ None | Some xs ↦ Some (x ∷ xs) ] ])) e

more_head : (bytes : List ℕ) (x : ℕ) (r : Option (List ℕ))
    → option_map (λ xs. bytes ++ xs) (after_pair (Some x) r) ≡ option_map (λ xs. (bytes ++ x ∷ []) ++ xs) r
unfolding after_pair
more_head bytes x None = refl
more_head bytes x (Some xs) = ap Some (sym (append_assoc bytes (x ∷ []) xs))

more_last : (bytes : List ℕ) (x : ℕ) (bs : List ℕ) → option_map (λ xs. bytes ++ xs) (after_pair (Some x) (hex_word bs)) ≡ hex_after (bytes ++ x ∷ []) bs
unfolding hex_after
more_last bytes x bs = more_head bytes x (hex_word bs)

more_pair : (bytes : List ℕ) (x : ℕ) (left : List ℕ) → 2 ≤ length left → hex_pair (get_or left 0 0) (get_or left 1 0) ≡ Some x
    → hex_after bytes left ≡ hex_after (bytes ++ x ∷ []) (drop 2 left)
more_pair bytes x [] h e = absurd (omega arith)
more_pair bytes x (a ∷ []) h e = absurd (omega arith)
more_pair bytes x (a ∷ b ∷ bs) h e = pair_is bytes a b bs (Some x) e ∙ more_last bytes x bs

none_pair : (bytes left : List ℕ) → 2 ≤ length left → hex_pair (get_or left 0 0) (get_or left 1 0) ≡ None → hex_after bytes left ≡ None
unfolding after_pair
none_pair bytes [] h e = absurd (omega arith)
none_pair bytes (a ∷ []) h e = absurd (omega arith)
none_pair bytes (a ∷ b ∷ bs) h e = pair_is bytes a b bs None e

odd_left : (bytes left : List ℕ) → length left < 2 → 0 < length left → hex_after bytes left ≡ None
unfolding hex_after hex_word
odd_left bytes [] h k = absurd (omega arith)
odd_left bytes (a ∷ []) h k = refl
odd_left bytes (a ∷ b ∷ bs) h k = absurd (omega arith)

none_left : (bytes left : List ℕ) → length left ≤ 0 → hex_after bytes left ≡ Some bytes
unfolding hex_after hex_word
none_left bytes [] h = ap Some (append-nil bytes)
none_left bytes (a ∷ bs) h = absurd (omega arith)

whole_head : (r : Option (List ℕ)) → option_map (λ xs. [] ++ xs) r ≡ r
whole_head None = refl
whole_head (Some xs) = refl

pub hex_start : (w : List ℕ) → hex_after [] w ≡ hex_word w
unfolding hex_after
hex_start w = whole_head (hex_word w)

-- a pair of digits
pub hex_more : (bytes : List ℕ) (x : ℕ) (left : List ℕ) (all : Option (List ℕ)) → 2 ≤ length left → hex_pair (get_or left 0 0) (get_or left 1 0) ≡ Some x
    → hex_after bytes left ≡ all → hex_after (bytes ++ x ∷ []) (take (length left - 2) (drop 2 left)) ≡ all
hex_more bytes x left all h e k = rw (from_place 2 left) (sym (more_pair bytes x left h e) ∙ k)

-- a pair that is none
pub hex_fails : (bytes left : List ℕ) (all : Option (List ℕ)) → 2 ≤ length left → hex_pair (get_or left 0 0) (get_or left 1 0) ≡ None → hex_after bytes left ≡ all → all ≡ None
hex_fails bytes left all h e k = sym k ∙ none_pair bytes left h e

pub hex_odd : (bytes left : List ℕ) (all : Option (List ℕ)) → length left < 2 → 0 < length left → hex_after bytes left ≡ all → all ≡ None
hex_odd bytes left all h e k = sym k ∙ odd_left bytes left h e

pub hex_done : (bytes left : List ℕ) (all : Option (List ℕ)) → length left ≤ 0 → hex_after bytes left ≡ all → all ≡ Some bytes
hex_done bytes left all h k = sym k ∙ none_left bytes left h
