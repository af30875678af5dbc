-- A line without its line feed.
use Rattle.std.proofs.Common.{◌≡◌, ℕ, ◌-◌, List, [], ◌∷◌, ◌++◌, length, take, ◌∙◌, ap, arith}
use Rattle.std.proofs.lemmas.List.{length-append}
use Rattle.std.proofs.Math.Seq.{take-append_seam}

-- all but the last byte of a line and its line feed is the line
pub without_feed : (line text : List ℕ) (feed : ℕ) → text ≡ line ++ feed ∷ [] → take (length text - 1) text ≡ line
without_feed line text feed is =
    let few : length (line ++ feed ∷ []) - 1 ≡ length line = omega (arith, length-append line (feed ∷ [])) in
    ap (λ (t : List ℕ). take (length t - 1) t) is ∙ (ap (λ n. take n (line ++ feed ∷ [])) few ∙ take-append_seam line (feed ∷ []))
