-- Settings line by line, as a hasher takes them in.
use Rattle.std.proofs.Common.{◌≡◌, ℕ, Bool, true, false, List, [], ◌∷◌, ◌++◌, refl, sym, ◌∙◌, ap, subst, append_assoc, append-nil}
use Rattle.std.specs.Prelude.{if◌then◌else◌}
use Rattle.sha2.specs.declared.Sha256.{Sha256}
use Rattle.sha2.specs.Hashers.{Holds256}
use Rattle.value_words.specs.Words.{split_on}
use Rattle.settings_digest.specs.Digest.{is_begin, normal_line, before_begin, normal_settings, Adds}

-- ---- a text piece by piece

pub adds_none : (h : Sha256) → Adds h h []
adds_none h m x = subst (Holds256 h) (sym (append-nil m)) x

pub adds_both : (old mid new : Sha256) (text more : List ℕ) → Adds old mid text → Adds mid new more → Adds old new (text ++ more)
adds_both old mid new text more p q m x = subst (Holds256 new) (append_assoc m text more) (q (m ++ text) (p m x))

-- a front of a whole text was added, and this is the rest
pub record AddsFront (old new : Sha256) (whole rest : List ℕ) : Type 0 where
  pub text : List ℕ
  pub adds : Adds old new text
  pub is : text ++ rest ≡ whole

pub adds_nothing : (h : Sha256) (whole : List ℕ) → AddsFront h h whole whole
adds_nothing h whole = record { text = []; adds = adds_none h; is = refl }

pub adds_more : (old mid new : Sha256) (whole piece rest : List ℕ) → AddsFront old mid whole (piece ++ rest) → Adds mid new piece → AddsFront old new whole rest
adds_more old mid new whole piece rest p q = record { text = p.text ++ piece; adds = adds_both old mid new p.text piece p.adds q; is = append_assoc p.text piece rest ∙ p.is }

pub adds_all : (old new : Sha256) (whole rest : List ℕ) → AddsFront old new whole rest → rest ≡ [] → Adds old new whole
adds_all old new whole rest p none = subst (Adds old new) (sym (append-nil p.text) ∙ (ap (λ r. p.text ++ r) (sym none) ∙ p.is)) p.adds

-- ---- lines

begun : (b : Bool) (line : List ℕ) (lines : List (List ℕ)) → is_begin line ≡ b → before_begin (line ∷ lines) ≡ (if b then [] else normal_line line ++ before_begin lines)
unfolding before_begin
begun b line lines e = subst (λ (x : Bool). before_begin (line ∷ lines) ≡ (if x then [] else normal_line line ++ before_begin lines)) e refl

pub at_begin : (left line : List ℕ) (lines : List (List ℕ)) → split_on 10 left ≡ line ∷ lines → is_begin line ≡ true → normal_settings left ≡ []
unfolding normal_settings
at_begin left line lines e b = ap before_begin e ∙ begun true line lines b

pub line_taken : (left line after : List ℕ) → split_on 10 left ≡ line ∷ split_on 10 after → is_begin line ≡ false → normal_settings left ≡ normal_line line ++ normal_settings after
unfolding normal_settings
line_taken left line after e b = ap before_begin e ∙ begun false line (split_on 10 after) b

pub last_taken : (left : List ℕ) → split_on 10 left ≡ left ∷ [] → is_begin left ≡ false → normal_settings left ≡ normal_line left ++ []
unfolding normal_settings before_begin
last_taken left e b = ap before_begin e ∙ begun false left [] b
