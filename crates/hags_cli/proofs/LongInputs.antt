-- What stands behind the byte past the limit of an input changes nothing: the line that has that byte is bad.
use Rattle.std.proofs.Common.{◌≡◌, ℕ, ◌+◌, ◌<◌, ◌≤◌, ◌==◌, nat_lt, Bool, true, false, List, [], ◌∷◌, ◌++◌, length, refl, sym, ◌∙◌, ap, arith, append_assoc, append-nil, length-append}
use Rattle.std.proofs.lemmas.Bool.Decides.{nat_tests}
use Rattle.rsct_packet.specs.Lists.{is_empty}
use Rattle.world_model.specs.declared.script.Aim.{Aim}
use Rattle.world_model.specs.declared.script.Aim.TheVariants.{Plays}
use Rattle.world_model.specs.declared.script.LineWhy.{LineWhy}
use Rattle.world_model.specs.declared.script.LineWhy.TheVariants.{Long}
use Rattle.world_model.specs.declared.script.Script.{Script}
use Rattle.value_words.specs.Words.{split_on, push_head}
use Rattle.world_model.specs.Reading.{Reading, Read, Good, Bad, ScriptRead, IsScript, IsNone, nothing_read, input_limit, read_for, script_of}
use Rattle.value_words.proofs.SplitLaws.{some_piece}
use Rattle.hags_cli.specs.Run.{ReadsAs}
use Rattle.script_reader.specs.declared.faults.LineFault.TheVariants as line_fault
use Rattle.script_reader.specs.ClientScript.{line_by, lines_from, lines_for}
use Rattle.script_reader.proofs.ScriptLaws.{line_long, line_taken, line_fails, last_long, lines_of_script}

-- both have the same first bad line
pub record AreBad (a b : ScriptRead) : Type 0 where
  pub line : ℕ
  pub why : LineWhy
  pub first : a ≡ IsNone line why
  pub second : b ≡ IsNone line why

both_bad : (a b : ScriptRead) (n : ℕ) (why : LineWhy) → a ≡ IsNone n why → b ≡ IsNone n why → AreBad a b
both_bad a b n why p q = record { line = n; why = why; first = p; second = q }

bad_along : (a b c d : ScriptRead) → c ≡ a → d ≡ b → AreBad a b → AreBad c d
bad_along a b c d p q bad = record { line = bad.line; why = bad.why; first = p ∙ bad.first; second = q ∙ bad.second }

-- pieces whose first one begins with what was read of its line so far
begun : List ℕ → List (List ℕ) → List (List ℕ)
begun pre [] = pre ∷ []
begun pre (p ∷ ps) = (pre ++ p) ∷ ps

begun_nil : (ps : List (List ℕ)) → is_empty ps ≡ false → begun [] ps ≡ ps
unfolding begun
begun_nil [] e = absurd cc
begun_nil (p ∷ ps) e = refl

begun_more : (pre : List ℕ) (x : ℕ) (ps : List (List ℕ)) → begun pre (push_head x ps) ≡ begun (pre ++ x ∷ []) ps
unfolding begun push_head
begun_more pre x [] = refl
begun_more pre x (p ∷ ps) = ap (λ l. l ∷ ps) (sym (append_assoc pre (x ∷ []) p))

-- the line that was begun passes the limit
long_line : (calls : Bool) (r : Reading) (n i : ℕ) (b : List ℕ) (ps : List (List ℕ)) → i ≤ input_limit → input_limit < i + length b → lines_from calls r n i (b ∷ ps) ≡ IsNone n Long
long_line calls r n i b [] h k = let some : 0 < length b = omega arith in last_long calls r n i b some k
long_line calls r n i b (p ∷ ps) h k = let past : input_limit < i + length b + 1 = omega arith in line_long calls r n i b (b ∷ p ∷ ps) (p ∷ ps) (lines_from calls r n i (b ∷ p ∷ ps)) refl refl past refl

long_begun : (calls : Bool) (r : Reading) (n i : ℕ) (pre : List ℕ) (ps : List (List ℕ)) → i ≤ input_limit → input_limit < i + length pre → lines_from calls r n i (begun pre ps) ≡ IsNone n Long
unfolding begun
long_begun calls r n i pre [] h k = long_line calls r n i pre [] h k
long_begun calls r n i pre (p ∷ ps) h k = let past : input_limit < i + length (pre ++ p) = omega (arith, length-append pre p) in long_line calls r n i (pre ++ p) ps h past

-- after a line within the limit
line_read : (calls : Bool) (x : Read) (r : Reading) (n i : ℕ) (b : List ℕ) (ps qs : List (List ℕ)) → is_empty ps ≡ false → is_empty qs ≡ false → i + length b + 1 ≤ input_limit → line_by calls r true false b ≡ x
    → ((q : Reading) → AreBad (lines_from calls q (n + 1) (i + length b + 1) ps) (lines_from calls q (n + 1) (i + length b + 1) qs)) → AreBad (lines_from calls r n i (b ∷ ps)) (lines_from calls r n i (b ∷ qs))
line_read calls (Good q) r n i b ps qs e f h is go =
    bad_along _ _ _ _ (sym (line_taken calls r q n i b (b ∷ ps) ps (lines_from calls r n i (b ∷ ps)) refl e h is refl)) (sym (line_taken calls r q n i b (b ∷ qs) qs (lines_from calls r n i (b ∷ qs)) refl f h is refl)) (go q)
line_read calls (Bad why) r n i b ps qs e f h is go =
    both_bad _ _ n why (line_fails calls r n i b (b ∷ ps) ps (line_fault.Bad why) (lines_from calls r n i (b ∷ ps)) refl e h is refl) (line_fails calls r n i b (b ∷ qs) qs (line_fault.Bad why) (lines_from calls r n i (b ∷ qs)) refl f h is refl)

line_ends : (calls : Bool) (t : Bool) (r : Reading) (n i : ℕ) (b : List ℕ) (ps qs : List (List ℕ)) → nat_lt input_limit (i + length b + 1) ≡ t → is_empty ps ≡ false → is_empty qs ≡ false
    → ((q : Reading) → i + length b + 1 ≤ input_limit → AreBad (lines_from calls q (n + 1) (i + length b + 1) ps) (lines_from calls q (n + 1) (i + length b + 1) qs)) → AreBad (lines_from calls r n i (b ∷ ps)) (lines_from calls r n i (b ∷ qs))
line_ends calls true r n i b ps qs t e f go =
    let past : input_limit < i + length b + 1 = grind (arith, nat_tests, t) in
    both_bad _ _ n Long (line_long calls r n i b (b ∷ ps) ps (lines_from calls r n i (b ∷ ps)) refl e past refl) (line_long calls r n i b (b ∷ qs) qs (lines_from calls r n i (b ∷ qs)) refl f past refl)
line_ends calls false r n i b ps qs t e f go =
    let within : i + length b + 1 ≤ input_limit = grind (arith, nat_tests, t) in
    line_read calls (line_by calls r true false b) r n i b ps qs e f within refl (λ q. go q within)

-- a byte of the front: it ends a line, or goes on with it
byte_read : (calls : Bool) (t : Bool) (x : ℕ) (pre : List ℕ) (r : Reading) (n i : ℕ) (ps qs : List (List ℕ)) → is_empty ps ≡ false → is_empty qs ≡ false
    → ((q : Reading) → i + length pre + 1 ≤ input_limit → AreBad (lines_from calls q (n + 1) (i + length pre + 1) (begun [] ps)) (lines_from calls q (n + 1) (i + length pre + 1) (begun [] qs)))
    → AreBad (lines_from calls r n i (begun (pre ++ x ∷ []) ps)) (lines_from calls r n i (begun (pre ++ x ∷ []) qs))
    → AreBad (lines_from calls r n i (begun pre (elim t [ true ↦ [] ∷ ps | false ↦ push_head x ps ]))) (lines_from calls r n i (begun pre (elim t [ true ↦ [] ∷ qs | false ↦ push_head x qs ])))
unfolding begun
byte_read calls true x pre r n i ps qs e f next more =
    rw (append-nil pre) (line_ends calls (nat_lt input_limit (i + length pre + 1)) r n i pre ps qs refl e f
    (λ q h. bad_along _ _ _ _ (ap (λ l. lines_from calls q (n + 1) (i + length pre + 1) l) (sym (begun_nil ps e))) (ap (λ l. lines_from calls q (n + 1) (i + length pre + 1) l) (sym (begun_nil qs f))) (next q h)))
byte_read calls false x pre r n i ps qs e f next more =
    bad_along _ _ _ _ (ap (λ l. lines_from calls r n i l) (begun_more pre x ps)) (ap (λ l. lines_from calls r n i l) (begun_more pre x qs)) more

-- of a line that was begun and a front that passes the limit
front_read : (calls : Bool) (f g pre : List ℕ) (r : Reading) (n i : ℕ) → i ≤ input_limit → input_limit < i + length pre + length f
    → AreBad (lines_from calls r n i (begun pre (split_on 10 (f ++ g)))) (lines_from calls r n i (begun pre (split_on 10 f)))
unfolding split_on
front_read calls [] g pre r n i h k =
    let past : input_limit < i + length pre = omega arith in
    both_bad _ _ n Long (long_begun calls r n i pre (split_on 10 g) h past) (long_begun calls r n i pre ([] ∷ []) h past)
front_read calls (x ∷ xs) g pre r n i h k =
    let longer : length (pre ++ x ∷ []) ≡ length pre + 1 = length-append pre (x ∷ []) in
    let here : input_limit < i + length (pre ++ x ∷ []) + length xs = omega arith in
    byte_read calls (x == 10) x pre r n i (split_on 10 (xs ++ g)) (split_on 10 xs) (some_piece 10 (xs ++ g)) (some_piece 10 xs)
    (λ q w. let there : input_limit < i + length pre + 1 + 0 + length xs = omega arith in front_read calls xs g [] q (n + 1) (i + length pre + 1) w there)
    (front_read calls xs g (pre ++ x ∷ []) r n i h here)

long_bad : (calls : Bool) (aim : Aim) (f g : List ℕ) → input_limit < length f → AreBad (lines_for calls aim (f ++ g)) (lines_for calls aim f)
unfolding lines_for
long_bad calls aim f g h =
    let past : input_limit < 0 + 0 + length f = omega arith in
    bad_along _ _ _ _ (ap (λ l. lines_from calls (nothing_read aim) 1 0 l) (sym (begun_nil (split_on 10 (f ++ g)) (some_piece 10 (f ++ g))))) (ap (λ l. lines_from calls (nothing_read aim) 1 0 l) (sym (begun_nil (split_on 10 f) (some_piece 10 f))))
    (front_read calls f g [] (nothing_read aim) 1 0 (omega arith) past)

-- an input longer than its limit is read as any front of it that is, for whatever it is read
pub long_reads_for : (calls : Bool) (aim : Aim) (f g : List ℕ) → input_limit < length f → lines_for calls aim (f ++ g) ≡ lines_for calls aim f
long_reads_for calls aim f g h = let bad = long_bad calls aim f g h in bad.first ∙ sym bad.second

within_or_bad : (calls : Bool) (t : Bool) (aim : Aim) (f : List ℕ) (s : Script) → nat_lt input_limit (length f) ≡ t → lines_for calls aim f ≡ IsScript s → length f ≤ input_limit
within_or_bad calls true aim f s t e =
    let past : input_limit < length f = grind (arith, nat_tests, t) in
    let bad = long_bad calls aim f [] past in
    let none : IsNone bad.line bad.why ≡ IsScript s = sym bad.second ∙ e in
    absurd cc
within_or_bad calls false aim f s t e = grind (arith, nat_tests, t)

-- a script is within the limit, for whatever it is read
pub script_within_for : (calls : Bool) (aim : Aim) (f : List ℕ) (s : Script) → lines_for calls aim f ≡ IsScript s → length f ≤ input_limit
script_within_for calls aim f s e = within_or_bad calls (nat_lt input_limit (length f)) aim f s refl e

-- as a script
pub reads_for : (front b : List ℕ) → ReadsAs front b → (aim : Aim) → read_for aim b ≡ read_for aim front
reads_for front b h aim = sym (lines_of_script aim b) ∙ (h false aim ∙ lines_of_script aim front)

pub read_within : (aim : Aim) (f : List ℕ) (s : Script) → read_for aim f ≡ IsScript s → length f ≤ input_limit
read_within aim f s e = script_within_for false aim f s (lines_of_script aim f ∙ e)

pub script_within : (f : List ℕ) (s : Script) → script_of f ≡ IsScript s → length f ≤ input_limit
unfolding script_of
script_within f s e = read_within Plays f s e
