-- What each good line keeps stands where a script is read.
use Rattle.std.proofs.Common.{◌≡◌, ℕ, ◌+◌, List, [], ◌∷◌, Bool, true, false, ◌||◌, length, Option, Some, None, refl, subst}
use Rattle.std.specs.Prelude.{nat_lt}
use Rattle.std.specs.List.{list_all, list_any}
use Rattle.std.proofs.lemmas.Bool.{or_parts}
use Rattle.rsct_packet.specs.Lists.{is_empty}
use Rattle.rsct_packet.specs.Mask.{has_node}
use Rattle.world_model.specs.declared.script.Aim.{Aim}
use Rattle.world_model.specs.declared.script.LineWhy.{LineWhy}
use Rattle.world_model.specs.declared.script.LineWhy.TheVariants.{BadByte, MissingWord, ExtraWord, UnknownNode, UnknownClient, OutOfPlace}
use Rattle.world_model.specs.declared.script.Script.{Script}
use Rattle.value_words.specs.Words.{split_on, chosen, words_in}
use Rattle.world_model.specs.Lines.{Form, forms, Head, Said, said}
use Rattle.world_model.specs.Reading.{Reading, Read, Good, Bad, nothing_read, nodes_said, is_known_client, misplaced, misplaced_for, last_reason, reason, taken, taken_unless, said_line, is_extra, counted_line, formed_line, skipped_line, worded_line, is_comment, is_bad_byte, with_text, texted, read_line, ScriptRead, IsScript, IsNone, script_in, lacks_begin, at_end, input_limit, read_from, read_for}

-- ---- one line

-- what a line has where there is no reason against it
pub record Reasonless (r : Reading) (x : Said) : Type 0 where
  pub nodes : list_all (has_node r.config.nodes) (nodes_said r.aim x) ≡ true
  pub known : is_known_client x r.clients ≡ true
  pub placed : misplaced r x ≡ false
  pub fits : misplaced_for r r.aim x ≡ false
  pub last : last_reason r x ≡ None

unreasoned : (o : Option LineWhy) (a b d : Bool) → ◌≡◌ {A = Option LineWhy} (elim a [ false ↦ Some UnknownNode | true ↦ elim b [ false ↦ Some UnknownClient | true ↦ elim d [ true ↦ Some OutOfPlace | false ↦ o ] ] ]) None
    → (a ≡ true) × (b ≡ true) × (d ≡ false) × (o ≡ None)
unreasoned o false b d e = absurd (cc)
unreasoned o true false d e = absurd (cc)
unreasoned o true true true e = absurd (cc)
unreasoned o true true false e = (refl, refl, refl, e)

pub reasonless : (r : Reading) (x : Said) → reason r x ≡ None → Reasonless r x
unfolding reason
reasonless r x e =
    let p = unreasoned (last_reason r x) (list_all (has_node r.config.nodes) (nodes_said r.aim x)) (is_known_client x r.clients) (misplaced r x || misplaced_for r r.aim x) e in
    let q = or_parts (misplaced r x) (misplaced_for r r.aim x) p.2 in
    record { nodes = p.0; known = p.1; placed = q.0; fits = q.1; last = p.3 }

-- What lines keep: P between two lines, and Q of a line that is taken, before its bytes are kept.
pub record Keeps (P Q : Reading → Type 0) : Type 0 where
  pub says : (r : Reading) (h : Head) (ws : List (List ℕ)) (x : Said) → said h ws ≡ Some x → reason r x ≡ None → P r → Q (taken r x)
  pub rests : (r : Reading) → P r → Q r
  pub texts : (r : Reading) (bytes : List ℕ) → Q r → P (with_text r bytes r.has_call)

-- what is so of what is read, if it is good
abbrev Holds : (Reading → Type 0) → Read → Type 0
Holds P (Good r) = P r
Holds P (Bad why) = Unit {0}

unless_keeps : (P Q : Reading → Type 0) → Keeps P Q → (r : Reading) (h : Head) (ws : List (List ℕ)) (x : Said) → said h ws ≡ Some x → P r → (o : Option LineWhy) → reason r x ≡ o
    → Holds Q (taken_unless r x o)
unfolding taken_unless
unless_keeps P Q k r h ws x s p None e = k.says r h ws x s e p
unless_keeps P Q k r h ws x s p (Some why) e = tt

said_keeps : (P Q : Reading → Type 0) → Keeps P Q → (r : Reading) (h : Head) (ws : List (List ℕ)) (o : Option Said) → said h ws ≡ o → P r → Holds Q (said_line r o)
unfolding said_line
said_keeps P Q k r h ws None s p = tt
said_keeps P Q k r h ws (Some x) s p = unless_keeps P Q k r h ws x s p (reason r x) refl

counted_keeps : (P Q : Reading → Type 0) → Keeps P Q → (r : Reading) (form : Form) (ws : List (List ℕ)) → P r → Holds Q (counted_line r form ws)
unfolding counted_line
counted_keeps P Q k r form ws p = by (nat_lt (length ws) form.least) (is_extra (length ws) form.most)
  where
    by : (a b : Bool) → Holds Q (elim a [ true ↦ Bad MissingWord | false ↦ elim b [ true ↦ Bad ExtraWord | false ↦ said_line r (said form.head ws) ] ])
    by true b = tt
    by false true = tt
    by false false = said_keeps P Q k r form.head ws (said form.head ws) refl p

formed_keeps : (P Q : Reading → Type 0) → Keeps P Q → (r : Reading) (whole : Bool) (ws : List (List ℕ)) (o : Option Form) → P r → Holds Q (formed_line r whole ws o)
unfolding formed_line
formed_keeps P Q k r whole ws None p = tt
formed_keeps P Q k r true ws (Some form) p = counted_keeps P Q k r form ws p
formed_keeps P Q k r false ws (Some form) p = tt

skipped_keeps : (P : Reading → Type 0) (r : Reading) (whole : Bool) → P r → Holds P (skipped_line r whole)
unfolding skipped_line
skipped_keeps P r true p = p
skipped_keeps P r false p = tt

worded_keeps : (P Q : Reading → Type 0) → Keeps P Q → (r : Reading) (whole : Bool) (ws : List (List ℕ)) → P r → Holds Q (worded_line r whole ws)
unfolding worded_line
worded_keeps P Q k r whole [] p = skipped_keeps Q r whole (k.rests r p)
worded_keeps P Q k r whole (w ∷ ws) p = formed_keeps P Q k r whole ws (chosen forms w) p

texted_keeps : (P Q : Reading → Type 0) → Keeps P Q → (bytes : List ℕ) (x : Read) → Holds Q x → Holds P (texted bytes x)
unfolding texted
texted_keeps P Q k bytes (Good r) q = k.texts r bytes q
texted_keeps P Q k bytes (Bad why) q = tt

line_keeps : (P Q : Reading → Type 0) → Keeps P Q → (r : Reading) (whole long : Bool) (bytes : List ℕ) → P r → Holds P (read_line r whole long bytes)
unfolding read_line
line_keeps P Q k r whole true bytes p = tt
line_keeps P Q k r whole false bytes p = by (list_any is_bad_byte bytes) (is_comment bytes)
  where
    by : (a b : Bool) → Holds P (elim a [ true ↦ Bad BadByte | false ↦ elim b [ true ↦ skipped_line r whole | false ↦ texted bytes (worded_line r whole (words_in bytes)) ] ])
    by true b = tt
    by false true = skipped_keeps P r whole p
    by false false = texted_keeps P Q k bytes (worded_line r whole (words_in bytes)) (worded_keeps P Q k r whole (words_in bytes) p)

-- ---- a whole script

-- a script is what was read last, which keeps P; of a node, only after `begin`
pub record EndsWith (P : Reading → Type 0) (s : Script) : Type 0 where
  pub last : Reading
  pub keeps : P last
  pub begun : lacks_begin last.aim last.begun ≡ false
  pub is : s ≡ script_in last

abbrev ScriptHolds : (Reading → Type 0) → ScriptRead → Type 0
ScriptHolds P (IsScript s) = EndsWith P s
ScriptHolds P (IsNone n why) = Unit {0}

end_keeps : (P : Reading → Type 0) (r : Reading) (n : ℕ) → P r → ScriptHolds P (at_end r n)
unfolding at_end
end_keeps P r n p = by (lacks_begin r.aim r.begun) refl
  where
    by : (b : Bool) → lacks_begin r.aim r.begun ≡ b → ScriptHolds P (elim b [ true ↦ IsNone n MissingWord | false ↦ IsScript (script_in r) ])
    by true e = tt
    by false e = record { last = r; keeps = p; begun = e; is = refl }

last_keeps : (P : Reading → Type 0) (x : Read) (n : ℕ) → Holds P x → ScriptHolds P (elim x [ Good q ↦ at_end q n | Bad why ↦ IsNone n why ])
last_keeps P (Good q) n p = end_keeps P q n p
last_keeps P (Bad why) n p = tt

next_keeps : (P : Reading → Type 0) (x : Read) (n i : ℕ) (bs : List (List ℕ)) → ((q : Reading) → P q → ScriptHolds P (read_from q (n + 1) i bs)) → Holds P x
    → ScriptHolds P (elim x [ Good q ↦ read_from q (n + 1) i bs | Bad why ↦ IsNone n why ])
next_keeps P (Good q) n i bs rest p = rest q p
next_keeps P (Bad why) n i bs rest p = tt

from_keeps : (P Q : Reading → Type 0) → Keeps P Q → (bs : List (List ℕ)) (r : Reading) (n i : ℕ) → P r → ScriptHolds P (read_from r n i bs)
unfolding read_from
from_keeps P Q k [] r n i p = end_keeps P r n p
from_keeps P Q k (b ∷ bs) r n i p = by (is_empty bs) (is_empty b) (λ q g. from_keeps P Q k bs q (n + 1) (i + length b + 1) g)
  where
    by : (u v : Bool) → ((q : Reading) → P q → ScriptHolds P (read_from q (n + 1) (i + length b + 1) bs)) → ScriptHolds P (elim u [ true ↦ elim v [ true ↦ at_end r n | false ↦ elim (read_line r false (nat_lt input_limit (i + length b)) b) [ Good q ↦ at_end q n | Bad why ↦ IsNone n why ] ] | false ↦ elim (read_line r true (nat_lt input_limit (i + length b + 1)) b) [ Good q ↦ read_from q (n + 1) (i + length b + 1) bs | Bad why ↦ IsNone n why ] ])
    by true true rest = end_keeps P r n p
    by true false rest = last_keeps P (read_line r false (nat_lt input_limit (i + length b)) b) n (line_keeps P Q k r false (nat_lt input_limit (i + length b)) b p)
    by false v rest = next_keeps P (read_line r true (nat_lt input_limit (i + length b + 1)) b) n (i + length b + 1) bs rest (line_keeps P Q k r true (nat_lt input_limit (i + length b + 1)) b p)

pub read_keeps : (P Q : Reading → Type 0) → Keeps P Q → (aim : Aim) (bytes : List ℕ) (s : Script) → P (nothing_read aim) → read_for aim bytes ≡ IsScript s → EndsWith P s
unfolding read_for
read_keeps P Q k aim bytes s p e = subst (ScriptHolds P) e (from_keeps P Q k (split_on 10 bytes) (nothing_read aim) 1 0 p)
