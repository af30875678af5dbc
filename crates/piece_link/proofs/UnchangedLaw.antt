-- What changes nothing: bytes that are no piece, and pieces of what was kept, answered or passed already.
use Rattle.std.proofs.Common.{◌≡◌, ℕ, Bool, true, false, cond, Option, Some, None, List, [], ◌∷◌, inl, inr, refl, ◌∙◌}
use Rattle.std.specs.Prelude.{◌==◌}
use Rattle.piece_link.specs.declared.piece.PieceHead.{PieceHead}
use Rattle.piece_link.specs.declared.kept.Kept.{Kept}
use Rattle.piece_link.specs.Joining.{Joining, Parts, is_same, is_status, has_part, chosen, kept_taken, row_chosen, row_taken, row_of}
use Rattle.piece_link.specs.Pieces.{Piece, piece_at}
use Rattle.piece_link.specs.Answers.{IsSpent, AlwaysUnchanged, AlwaysAnsweredAtOnce}
use Rattle.piece_link.proofs.StepLaws.{none_taken, status_taken, piece_is_taken}

put_spent : (k : Kept) (head : PieceHead) (text : List ℕ) (o : Option Parts) → k.parts ≡ o → IsSpent head k o → kept_taken k head text ≡ (k, None)
put_spent k head text None e old = rw old (chosen_by (is_same head k))
  where
    chosen_by : (same : Bool) → chosen k head text false same ≡ (k, None)
    chosen_by true = rw e refl
    chosen_by false = refl
put_spent k head text (Some parts) e h = rw h.0 (elim h.1 [ inl other ↦ rw other refl | inr came ↦ chosen_by (is_same head k) came ])
  where
    chosen_by : (same : Bool) → has_part parts head.index ≡ true → chosen k head text false same ≡ (k, None)
    chosen_by true came = rw (e, came) refl
    chosen_by false came = refl

spent_by : (b : Bool) (k kept : Kept) (ks : Joining) (head : PieceHead) (text : List ℕ) → cond b (Some k) (row_of head.sender ks) ≡ Some kept → kept_taken kept head text ≡ (kept, None)
    → (row_of head.sender ks ≡ Some kept → row_taken ks head text ≡ record { joining = ks; message = None })
    → row_chosen b k ks head text (row_taken ks head text) ≡ record { joining = k ∷ ks; message = None }
spent_by true k kept ks head text e same rest =
    let is : k ≡ kept = cc in
    rw (is, same) refl
spent_by false k kept ks head text e same rest = rw (rest e) refl

row_spent : (j : Joining) (kept : Kept) (head : PieceHead) (text : List ℕ) → row_of head.sender j ≡ Some kept → kept_taken kept head text ≡ (kept, None) → row_taken j head text ≡ record { joining = j; message = None }
unfolding row_taken
row_spent [] kept head text e same = absurd cc
row_spent (k ∷ ks) kept head text e same = spent_by (k.sender == head.sender) k kept ks head text e same (λ f. row_spent ks kept head text f same)

pub unchanged : AlwaysUnchanged
unchanged = λ j b. (
  none_taken j b,
  (λ (p : Piece) (k : Kept) (e : piece_at b ≡ Some p) (other : is_status p.head ≡ false) (row : row_of p.head.sender j ≡ Some k) (spent : IsSpent p.head k k.parts).
      piece_is_taken j b p e other ∙ row_spent j k p.head p.text row (put_spent k p.head p.text k.parts refl spent)),
)

pub answered_at_once : AlwaysAnsweredAtOnce
answered_at_once = status_taken
