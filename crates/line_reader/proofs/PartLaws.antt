-- Words in parts.
use Rattle.std.proofs.Common.{◌≡◌, ℕ, Bool, true, false, List, [], ◌∷◌, ◌++◌, Option, Some, None, refl, sym, ap, append_assoc}
use Rattle.rsct_packet.specs.Lists.{is_empty}
use Rattle.value_words.specs.Words.{◌>>=◌, when_true, each_read}
use Rattle.value_words.proofs.SplitLaws.{some_piece}
use Rattle.value_words.specs.Counted.{first_of, one_of, two_of, three_of}
use Rattle.word_laws.specs.Values.{both_of, view_of, ring_of}
use Rattle.line_reader.specs.Pieces.{pieces_left}

pub one_is_not_two : (ps : List (List ℕ)) (a : List ℕ) → ps ≡ a ∷ [] → two_of ps ≡ None
unfolding two_of one_of first_of ◌>>=◌ when_true
one_is_not_two ps a e = rw e refl

three_parts : (a b : List ℕ) (ps : List (List ℕ)) → is_empty ps ≡ false → two_of (a ∷ b ∷ ps) ≡ None
unfolding two_of one_of first_of ◌>>=◌ when_true
three_parts a b [] e = absurd cc
three_parts a b (p ∷ ps) e = refl

pub more_than_two : (ps qs rs : List (List ℕ)) (a b : List ℕ) → ps ≡ a ∷ qs → qs ≡ b ∷ rs → is_empty rs ≡ false → two_of ps ≡ None
more_than_two ps qs rs a b e f h = rw (e, f) (three_parts a b rs h)

pub just_two : (ps qs : List (List ℕ)) (a b : List ℕ) → ps ≡ a ∷ qs → qs ≡ b ∷ [] → ps ≡ a ∷ b ∷ []
just_two ps qs a b e f = rw (e, f) refl

pub one_is_not_three : (ps : List (List ℕ)) (a : List ℕ) → ps ≡ a ∷ [] → three_of ps ≡ None
unfolding three_of one_of first_of ◌>>=◌ when_true
one_is_not_three ps a e = rw e refl

three_of_two : (a : List ℕ) (ps : List (List ℕ)) → two_of ps ≡ None → three_of (a ∷ ps) ≡ None
unfolding three_of two_of one_of first_of ◌>>=◌ when_true
three_of_two a [] e = refl
three_of_two a (b ∷ []) e = refl
three_of_two a (b ∷ c ∷ []) e = absurd cc
three_of_two a (b ∷ c ∷ d ∷ ps) e = refl

pub two_are_not_three : (ps qs : List (List ℕ)) (a : List ℕ) → ps ≡ a ∷ qs → two_of qs ≡ None → three_of ps ≡ None
two_are_not_three ps qs a e f = rw e (three_of_two a qs f)

pub just_three : (ps qs : List (List ℕ)) (a b c : List ℕ) → ps ≡ a ∷ qs → qs ≡ b ∷ c ∷ [] → ps ≡ a ∷ b ∷ c ∷ []
just_three ps qs a b c e f = rw (e, f) refl

pub not_both : {X Y : Type 0} (f : List ℕ → Option X) (g : List ℕ → Option Y) (ps : List (List ℕ)) → two_of ps ≡ None → both_of f g ps ≡ None
unfolding first_of one_of two_of ◌>>=◌ when_true both_of
not_both f g [] e = refl
not_both f g (a ∷ []) e = refl
not_both f g (a ∷ b ∷ []) e = absurd cc
not_both f g (a ∷ b ∷ p ∷ ps) e = refl

pub not_view : (ps : List (List ℕ)) → three_of ps ≡ None → view_of ps ≡ None
unfolding first_of one_of three_of ◌>>=◌ when_true view_of
not_view [] e = refl
not_view (a ∷ []) e = refl
not_view (a ∷ b ∷ []) e = refl
not_view (a ∷ b ∷ c ∷ []) e = absurd cc
not_view (a ∷ b ∷ c ∷ p ∷ ps) e = refl

pub not_ring : (ps : List (List ℕ)) → three_of ps ≡ None → ring_of ps ≡ None
unfolding first_of one_of three_of ◌>>=◌ when_true ring_of
not_ring [] e = refl
not_ring (a ∷ []) e = refl
not_ring (a ∷ b ∷ []) e = refl
not_ring (a ∷ b ∷ c ∷ []) e = absurd cc
not_ring (a ∷ b ∷ c ∷ p ∷ ps) e = refl

-- ---- items of a list

-- those that were read, and those that are left
unfoldable pub read_onto : {X : Type 0} → List X → Option (List X) → Option (List X)
read_onto xs None = None
read_onto xs (Some ys) = Some (xs ++ ys)

pub onto_none : {X : Type 0} (o : Option (List X)) → read_onto [] o ≡ o
unfolding read_onto
onto_none None = refl
onto_none (Some ys) = refl

onto_one : {X : Type 0} (xs : List X) (x : X) (o : Option (List X)) → read_onto xs (o >>= λ ys. Some (x ∷ ys)) ≡ read_onto (xs ++ x ∷ []) o
unfolding read_onto ◌>>=◌
onto_one xs x None = refl
onto_one xs x (Some ys) = ap Some (sym (append_assoc xs (x ∷ []) ys))

pub each_more : {X : Type 0} (f : List ℕ → Option X) (xs : List X) (x : X) (w : List ℕ) (ps ws : List (List ℕ)) → ps ≡ w ∷ ws → f w ≡ Some x → read_onto xs (each_read f ps) ≡ read_onto (xs ++ x ∷ []) (each_read f ws)
unfolding each_read ◌>>=◌
each_more f xs x w ps ws e h = rw (e, h) (onto_one xs x (each_read f ws))

pub each_fails : {X : Type 0} (f : List ℕ → Option X) (xs : List X) (w : List ℕ) (ps ws : List (List ℕ)) → ps ≡ w ∷ ws → f w ≡ None → read_onto xs (each_read f ps) ≡ None
unfolding each_read ◌>>=◌ read_onto
each_fails f xs w ps ws e h = rw (e, h) refl

pub each_done : {X : Type 0} (f : List ℕ → Option X) (xs : List X) (x : X) (w : List ℕ) (ps : List (List ℕ)) → ps ≡ w ∷ [] → f w ≡ Some x → read_onto xs (each_read f ps) ≡ Some (xs ++ x ∷ [])
unfolding each_read ◌>>=◌ read_onto
each_done f xs x w ps e h = rw (e, h) refl

-- nothing is left of a line at its end alone
pub end_is : (b : List ℕ) (t : Bool) → is_empty (pieces_left b t) ≡ t
unfolding pieces_left
end_is b true = refl
end_is b false = some_piece 32 b
