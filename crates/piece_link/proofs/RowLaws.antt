-- The row of a sender, by its place.
use Rattle.std.proofs.Common.{Vec, Global, inl, inr, ◌≡◌, ℕ, zero, suc, ◌+◌, ◌≤◌, ◌<◌, Bool, true, false, not, cond, List, [], ◌∷◌, ◌++◌, length, get_or, Option, Some, None, refl, arith}
use Rattle.std.specs.Prelude.{Result, Ok, Err, IfOk, option_map, nat_lt, ◌==◌, position, slice_set}
use Rattle.std.specs.List.{position_or_len}
use Rattle.std.proofs.lemmas.List.Quantifiers.{position-Some}
use Rattle.std.proofs.lemmas.Bool.{cases_lt}
use Rattle.std.proofs.lemmas.Bool.Decides.{nat_tests}
use Rattle.piece_link.specs.declared.piece.PieceHead.{PieceHead}
use Rattle.piece_link.specs.declared.kept.Kept.{Kept}
use Rattle.piece_link.specs.Joining.{Joining, joined_as, kept_taken, first_taken, row_chosen, row_taken}

taken_at : (rows : Joining) (head : PieceHead) (text : List ℕ) (place : ℕ) (d : Kept) → place < length rows → ((get_or rows place d).sender == head.sender) ≡ true → ((k : ℕ) → k < place → ((get_or rows k d).sender == head.sender) ≡ false)
    → row_taken rows head text ≡ joined_as (slice_set rows place (kept_taken (get_or rows place d) head text).0) (kept_taken (get_or rows place d) head text).1
unfolding row_taken
taken_at [] head text place d h e before = absurd (omega arith)
taken_at (k ∷ ks) head text zero d h e before = rw e refl
taken_at (k ∷ ks) head text (suc place) d h e before =
    let other : (k.sender == head.sender) ≡ false = before 0 (omega arith) in
    rw (other, taken_at ks head text place d (omega arith) e (λ n lt. before (suc n) (omega arith))) refl

pub row_at : (rows : Joining) (head : PieceHead) (text : List ℕ) (place : ℕ) (old k : Kept) (message : Option (List ℕ)) → position (λ k. k.sender == head.sender) rows ≡ Some place → old ≡ get_or rows place old → (k, message) ≡ kept_taken old head text → joined_as (slice_set rows place k) message ≡ row_taken rows head text
row_at rows head text place old k message found there took =
    let at = position-Some (λ (k : Kept). k.sender == head.sender) rows place old found in
    rw (taken_at rows head text place old at.0 at.1 at.2, ← there, ← took) refl

-- the same of an answer
pub row_answered : {E : Type 0} (rows : Joining) (head : PieceHead) (text : List ℕ) (place : ℕ) (old k : Kept) (r : Result (Option (Vec ℕ Global)) E) → position (λ k. k.sender == head.sender) rows ≡ Some place → old ≡ get_or rows place old
    → IfOk r (λ m. (k, option_map (λ v. v.items) m) ≡ kept_taken old head text)
    → IfOk r (λ m. joined_as (slice_set rows place k) (option_map (λ v. v.items) m) ≡ row_taken rows head text)
row_answered rows head text place old k (Ok m) found there took = row_at rows head text place old k (option_map (λ v. v.items) m) found there took
row_answered rows head text place old k (Err e) found there took = tt

past_by : (b : Bool) (k : Kept) (ks : Joining) (head : PieceHead) (text : List ℕ) (n : ℕ) → suc (length ks) ≤ cond (not b) (1 + n) 0
    → (length ks ≤ n → row_taken ks head text ≡ joined_as (ks ++ (first_taken head text).0 ∷ []) (first_taken head text).1)
    → row_chosen b k ks head text (row_taken ks head text) ≡ joined_as (k ∷ (ks ++ (first_taken head text).0 ∷ [])) (first_taken head text).1
past_by true k ks head text n h rest = absurd (omega arith)
past_by false k ks head text n h rest = rw (rest (omega arith)) refl

taken_past : (rows : Joining) (head : PieceHead) (text : List ℕ) → length rows ≤ position_or_len (λ k. k.sender == head.sender) rows → row_taken rows head text ≡ joined_as (rows ++ (first_taken head text).0 ∷ []) (first_taken head text).1
unfolding row_taken
taken_past [] head text h = refl
taken_past (k ∷ ks) head text h = past_by (k.sender == head.sender) k ks head text (position_or_len (λ k. k.sender == head.sender) ks) h (λ le. taken_past ks head text le)

not_below : (n len : ℕ) → cond (nat_lt n len) (Some n) None ≡ None → len ≤ n
not_below n len e = elim (cases_lt n len) [
  | inl lt ↦ absurd (let t : nat_lt n len ≡ true = grind (arith, nat_tests) in let s = rw t at e in cc)
  | inr le ↦ le
]

pub row_added : (rows after : Joining) (head : PieceHead) (text : List ℕ) (k : Kept) (message : Option (List ℕ)) → position (λ k. k.sender == head.sender) rows ≡ None → (k, message) ≡ first_taken head text → after ≡ rows ++ k ∷ [] → joined_as after message ≡ row_taken rows head text
row_added rows after head text k message missed took stored =
    rw (stored, taken_past rows head text (not_below _ _ missed), ← took) refl
