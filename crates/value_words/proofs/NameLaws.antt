-- A name of a group as a word.
use Rattle.std.proofs.Common.{◌≡◌, ℕ, ◌&&◌, nat_le, IsTrue, Bool, true, false, List, length, Some, None, refl}
use Rattle.std.specs.List.{list_all}
use Rattle.rsct_packet.specs.Text.{IsName, name_byte}
use Rattle.value_words.specs.Words.{name_word, when_true}

named_head : (a b c : Bool) (w : List ℕ) → IsTrue (a && b && c) → when_true (Some w) (a && (b && c)) ≡ Some w
unfolding when_true
named_head true true true w h = refl
named_head true true false w h = absurd cc
named_head true false c w h = absurd cc
named_head false b c w h = absurd cc

unnamed_head : (a b c : Bool) (w : List ℕ) → (IsTrue (a && b && c) → ⊥) → when_true (Some w) (a && (b && c)) ≡ None
unfolding when_true
unnamed_head true true true w h = absurd (h refl)
unnamed_head true true false w h = refl
unnamed_head true false c w h = refl
unnamed_head false b c w h = refl

pub name_is_word : (w : List ℕ) → IsName w → name_word 32 w ≡ Some w
unfolding name_word
name_is_word w h = named_head (nat_le 1 (length w)) (nat_le (length w) 32) (list_all name_byte w) w h

pub no_name_is_none : (w : List ℕ) → (IsName w → ⊥) → name_word 32 w ≡ None
unfolding name_word
no_name_is_none w h = unnamed_head (nat_le 1 (length w)) (nat_le (length w) 32) (list_all name_byte w) w h
