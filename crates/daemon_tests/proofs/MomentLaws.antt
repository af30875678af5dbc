-- Moments that are each at most the next ascend.
use Rattle.std.proofs.Common.{◌≡◌, ℕ, zero, suc, ◌+◌, Bool, true, List, [], ◌∷◌, arith}
use Rattle.std.specs.Prelude.{◌&&◌}
use Rattle.std.proofs.Math.Dec.{leb}
use Rattle.std.proofs.lemmas.Bool.{leb-true}
use Rattle.rsct_packet.proofs.FieldLaws.{and_true}
use Rattle.hags_io.specs.LinkMemory.{Ascend}

abbrev pub are_rising : List ℕ → Bool
are_rising [] = true
are_rising (x ∷ []) = true
are_rising (x ∷ y ∷ ys) = leb x y && are_rising (y ∷ ys)

pub rising_ascend : (xs : List ℕ) → are_rising xs ≡ true → Ascend xs
rising_ascend [] h k lt = absurd (omega arith)
rising_ascend (x ∷ []) h k lt = absurd (omega arith)
rising_ascend (x ∷ y ∷ ys) h zero lt = leb-true x y (and_true (leb x y) (are_rising (y ∷ ys)) h).0
rising_ascend (x ∷ y ∷ ys) h (suc k) lt =
    let e : suc k + 1 ≡ suc (k + 1) = omega arith in
    rw e (rising_ascend (y ∷ ys) (and_true (leb x y) (are_rising (y ∷ ys)) h).1 k (omega arith))
