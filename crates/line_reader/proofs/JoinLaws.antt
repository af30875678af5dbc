-- The attributes among the words of a join.
use Rattle.std.proofs.Common.{◌≡◌, ℕ, Bool, true, false, not, filter, List, [], ◌∷◌, ◌++◌, refl, sym, ◌∙◌, ap, subst, append_assoc, append-nil}
use Rattle.std.specs.Prelude.{◌==◌, ◌&&◌}
use Rattle.std.specs.List.{list_all}
use Rattle.std.proofs.lemmas.List.Elements.{filter-append}
use Rattle.rsct_packet.specs.Lists.{is_empty}
use Rattle.value_words.specs.Words.{push_head, split_on, words_in}
use Rattle.value_words.proofs.SplitLaws.{some_piece}
use Rattle.word_laws.specs.Entries.{is_source_len}
use Rattle.word_laws.proofs.Pieces.{split_last}
use Rattle.word_laws.proofs.AttributeLaws.{lacks_by}
use Rattle.record_lines.specs.Reading.{attrs_in, filled}

-- ---- no piece has the mark

abbrev clear_of : ℕ → List ℕ → Bool
clear_of c w = list_all (λ x. not (x == c)) w

push_clear : (c x : ℕ) (ps : List (List ℕ)) → (x == c) ≡ false → list_all (clear_of c) ps ≡ true → list_all (clear_of c) (push_head x ps) ≡ true
unfolding push_head
push_clear c x [] e h = rw e refl
push_clear c x (p ∷ ps) e h = rw e h

cut_clear : (t : Bool) (c x : ℕ) (ps : List (List ℕ)) → (x == c) ≡ t → list_all (clear_of c) ps ≡ true → list_all (clear_of c) (elim t [ true ↦ [] ∷ ps | false ↦ push_head x ps ]) ≡ true
cut_clear true c x ps e h = h
cut_clear false c x ps e h = push_clear c x ps e h

pieces_clear : (c : ℕ) (b : List ℕ) → list_all (clear_of c) (split_on c b) ≡ true
unfolding split_on
pieces_clear c [] = refl
pieces_clear c (x ∷ b) = cut_clear (x == c) c x (split_on c b) refl (pieces_clear c b)

first_clear : (a b : Bool) → (a && b) ≡ true → a ≡ true
first_clear true b e = refl
first_clear false b e = absurd cc

-- the first of the pieces that are left
pub piece_clear : (b w : List ℕ) (ws : List (List ℕ)) → split_on 32 b ≡ w ∷ ws → list_all (λ x. not (x == 32)) w ≡ true
piece_clear b w ws e = first_clear (clear_of 32 w) (list_all (clear_of 32) ws) (subst (λ z. list_all (clear_of 32) z ≡ true) e (pieces_clear 32 b))

-- ---- a word more behind a space

push_onto : (x : ℕ) (ps qs : List (List ℕ)) → is_empty ps ≡ false → push_head x (ps ++ qs) ≡ push_head x ps ++ qs
unfolding push_head
push_onto x [] qs e = absurd cc
push_onto x (p ∷ ps) qs e = refl

split_more : (b w : List ℕ) → list_all (λ x. not (x == 32)) w ≡ true → split_on 32 (b ++ 32 ∷ w) ≡ split_on 32 b ++ w ∷ []
unfolding split_on
split_more [] w h = ap (λ z. [] ∷ z) (split_last 32 w (lacks_by 32 w h))
split_more (x ∷ b) w h = by (x == 32) (split_more b w h)
  where
    by : (t : Bool) → split_on 32 (b ++ 32 ∷ w) ≡ split_on 32 b ++ w ∷ []
        → elim t [ true ↦ [] ∷ split_on 32 (b ++ 32 ∷ w) | false ↦ push_head x (split_on 32 (b ++ 32 ∷ w)) ] ≡ elim t [ true ↦ [] ∷ split_on 32 b | false ↦ push_head x (split_on 32 b) ] ++ w ∷ []
    by true e = ap (λ z. [] ∷ z) e
    by false e = ap (push_head x) e ∙ push_onto x (split_on 32 b) (w ∷ []) (some_piece 32 b)

words_more : (b w : List ℕ) → list_all (λ x. not (x == 32)) w ≡ true → words_in (b ++ 32 ∷ w) ≡ words_in b ++ filled (w ∷ [])
unfolding words_in filled
words_more b w h = ap (filter (λ v. not (is_empty v))) (split_more b w h) ∙ filter-append (λ v. not (is_empty v)) (split_on 32 b) (w ∷ [])

filled_both : (xs ys : List (List ℕ)) → filled (xs ++ ys) ≡ filled xs ++ filled ys
unfolding filled
filled_both xs ys = filter-append (λ v. not (is_empty v)) xs ys

attrs_both : (xs ys : List (List ℕ)) → attrs_in (xs ++ ys) ≡ attrs_in xs ++ attrs_in ys
unfolding attrs_in
attrs_both xs ys = ap filled (filter-append (λ v. not (is_source_len v)) xs ys) ∙ filled_both (filter (λ v. not (is_source_len v)) xs) (filter (λ v. not (is_source_len v)) ys)

one_attr : (w : List ℕ) → is_source_len w ≡ false → attrs_in (w ∷ []) ≡ filled (w ∷ [])
unfolding attrs_in
one_attr w e = rw e refl

no_attr : (w : List ℕ) → is_source_len w ≡ true → attrs_in (w ∷ []) ≡ []
unfolding attrs_in filled
no_attr w e = rw e refl

-- a word that is an attribute is put behind a space, and a length is not
pub attr_put : (text one more w : List ℕ) → is_source_len w ≡ false → list_all (λ x. not (x == 32)) w ≡ true → one ≡ text ++ 32 ∷ [] → more ≡ one ++ w → words_in more ≡ words_in text ++ attrs_in (w ∷ [])
attr_put text one more w f h e m =
    ap words_in (m ∙ ap (λ z. z ++ w) e ∙ append_assoc text (32 ∷ []) w) ∙ words_more text w h ∙ ap (λ z. words_in text ++ z) (sym (one_attr w f))

pub attr_left : (text w : List ℕ) → is_source_len w ≡ true → words_in text ≡ words_in text ++ attrs_in (w ∷ [])
attr_left text w e = sym (append-nil (words_in text)) ∙ ap (λ z. words_in text ++ z) (sym (no_attr w e))

-- from word to word
pub attr_next : (xs ys : List (List ℕ)) (w : List ℕ) (ws vs : List (List ℕ)) → ws ≡ w ∷ vs → ys ≡ xs ++ attrs_in (w ∷ []) → ys ++ attrs_in vs ≡ xs ++ attrs_in ws
attr_next xs ys w ws vs e f =
    ap (λ z. z ++ attrs_in vs) f ∙ append_assoc xs (attrs_in (w ∷ [])) (attrs_in vs) ∙ ap (λ z. xs ++ z) (sym (attrs_both (w ∷ []) vs) ∙ ap attrs_in (sym e))

pub attr_start : (ws : List (List ℕ)) → words_in [] ++ attrs_in ws ≡ attrs_in ws
unfolding words_in split_on
attr_start ws = refl

pub attr_end : (xs ws : List (List ℕ)) → ws ≡ [] → xs ++ attrs_in ws ≡ xs
unfolding attrs_in filled
attr_end xs ws e = rw e (append-nil xs)

-- what is left of a line, by its words that have a byte
pub left_words : (b : List ℕ) → words_in b ≡ filled (split_on 32 b)
unfolding words_in filled
left_words b = refl

pub no_words : words_in [] ≡ filled []
unfolding words_in split_on filled
no_words = refl
