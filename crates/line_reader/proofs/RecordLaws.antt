-- What was heard, by the pieces of its word.
use Rattle.std.proofs.Common.{◌≡◌, ℕ, false, List, [], ◌∷◌, None, refl, ◌∙◌, ap}
use Rattle.rsct_packet.specs.Lists.{is_empty}
use Rattle.value_words.specs.Words.{split_on}
use Rattle.record_lines.specs.Reading.{closing_read, opened_read, what_pieces, what_read}

pub what_alone : (w : List ℕ) → split_on 45 w ≡ w ∷ [] → what_read w ≡ closing_read w
unfolding what_read what_pieces
what_alone w e = ap what_pieces e

pub what_opened : (w a b : List ℕ) (ps : List (List ℕ)) → split_on 45 w ≡ a ∷ ps → ps ≡ b ∷ [] → what_read w ≡ opened_read a b
unfolding what_read what_pieces
what_opened w a b ps e f = ap what_pieces (e ∙ ap (λ z. a ∷ z) f)

three_pieces : (a b : List ℕ) (ps : List (List ℕ)) → is_empty ps ≡ false → what_pieces (a ∷ b ∷ ps) ≡ None
unfolding what_pieces
three_pieces a b [] e = absurd cc
three_pieces a b (p ∷ ps) e = refl

pub what_longer : (w a b : List ℕ) (ps qs : List (List ℕ)) → split_on 45 w ≡ a ∷ ps → ps ≡ b ∷ qs → is_empty qs ≡ false → what_read w ≡ None
unfolding what_read
what_longer w a b ps qs e f h = ap what_pieces (e ∙ ap (λ z. a ∷ z) f) ∙ three_pieces a b qs h
