-- Texts that are put behind those so far.
use Rattle.std.proofs.Common.{◌≡◌, ℕ, List, ◌++◌, refl, ◌∙◌, ap, append_assoc}

pub two_more : (base so_far a b out new : List ℕ) → out ≡ base ++ so_far → new ≡ out ++ a ++ b → new ≡ base ++ (so_far ++ a ++ b)
two_more base so_far a b out new p q =
    q ∙ (ap (λ (t : List ℕ). t ++ a ++ b) p ∙ (ap (λ (t : List ℕ). t ++ b) (append_assoc base so_far a) ∙ append_assoc base (so_far ++ a) b))

pub four_more : (base so_far a b c d out new : List ℕ) → out ≡ base ++ so_far → new ≡ out ++ a ++ b ++ c ++ d → new ≡ base ++ (so_far ++ a ++ b ++ c ++ d)
four_more base so_far a b c d out new p q =
    two_more base (so_far ++ a ++ b) c d (out ++ a ++ b) new (two_more base so_far a b out (out ++ a ++ b) p refl) q

pub one_more : (base so_far a out new : List ℕ) → out ≡ base ++ so_far → new ≡ out ++ a → new ≡ base ++ (so_far ++ a)
one_more base so_far a out new p q = q ∙ (ap (λ (t : List ℕ). t ++ a) p ∙ append_assoc base so_far a)
