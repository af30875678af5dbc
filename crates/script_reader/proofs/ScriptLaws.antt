-- A script is read line by line.
use Rattle.std.proofs.Common.{◌≡◌, ℕ, ◌+◌, ◌<◌, ◌≤◌, nat_lt, Bool, true, false, List, [], ◌∷◌, length, Result, refl, sym, ◌∙◌, ap, subst, arith}
use Rattle.std.proofs.lemmas.Bool.{le-ltb, lt-ltb}
use Rattle.rsct_packet.specs.Lists.{is_empty}
use Rattle.world_model.specs.declared.script.LineWhy.TheVariants.{Long}
use Rattle.world_model.specs.Reading.{Reading, Read, Good, Bad, ScriptRead, IsNone, with_text, texted, read_line, at_end, input_limit, nothing_read, read_from, read_for}
use Rattle.world_model.specs.declared.script.Aim.{Aim}
use Rattle.value_words.specs.Words.{split_on}
use Rattle.script_reader.specs.ClientScript.{line_by, lines_from, lines_for}
use Rattle.script_reader.specs.declared.faults.LineFault.{LineFault}
use Rattle.script_reader.specs.declared.faults.LineFault.TheVariants as line_fault
use Rattle.script_reader.specs.Faults.{fault_at}
use Rattle.world_model.specs.declared.script.Script.{Script}
use Rattle.script_reader.specs.declared.faults.ScriptFault.{ScriptFault}
use Rattle.script_reader.specs.Reading.{FailsLine, FailsScript, GivesScript}

-- a line of words, with its bytes
pub texted_fails : (bytes : List ℕ) (x : Read) (e : LineFault) → FailsLine e x → FailsLine e (texted bytes x)
unfolding texted
texted_fails bytes x line_fault.NoMemory h = tt
texted_fails bytes x (line_fault.Bad why) h = ap (λ y. texted bytes y) h

pub texted_good : (bytes : List ℕ) (x : Read) (r q : Reading) → x ≡ Good r → q ≡ with_text r bytes r.has_call → texted bytes x ≡ Good q
unfolding texted
texted_good bytes x r q e f = ap (λ y. texted bytes y) e ∙ ap Good (sym f)

-- what is read after a line
abbrev pub line_after : Bool → Read → ℕ → ℕ → List (List ℕ) → ScriptRead
line_after calls (Good q) n i cs = lines_from calls q (n + 1) i cs
line_after calls (Bad why) n i cs = IsNone n why

abbrev pub last_after : Read → ℕ → ScriptRead
last_after (Good q) n = at_end q n
last_after (Bad why) n = IsNone n why

line_head : (calls : Bool) (x : Read) (n i : ℕ) (cs : List (List ℕ))
    → ◌≡◌ {A = ScriptRead} (elim x [ Good q ↦ lines_from calls q (n + 1) i cs | Bad why ↦ IsNone n why ]) (line_after calls x n i cs)
line_head calls (Good q) n i cs = refl
line_head calls (Bad why) n i cs = refl

last_head : (x : Read) (n : ℕ) → ◌≡◌ {A = ScriptRead} (elim x [ Good q ↦ at_end q n | Bad why ↦ IsNone n why ]) (last_after x n)
last_head (Good q) n = refl
last_head (Bad why) n = refl

next_line : (calls : Bool) (r : Reading) (n i : ℕ) (b : List ℕ) (cs : List (List ℕ)) → is_empty cs ≡ false
    → lines_from calls r n i (b ∷ cs) ≡ line_after calls (line_by calls r true (nat_lt input_limit (i + length b + 1)) b) n (i + length b + 1) cs
unfolding lines_from
next_line calls r n i b [] e = absurd cc
next_line calls r n i b (c ∷ cs) e = line_head calls (line_by calls r true (nat_lt input_limit (i + length b + 1)) b) n (i + length b + 1) (c ∷ cs)

last_line : (calls : Bool) (r : Reading) (n i : ℕ) (b : List ℕ) → 0 < length b → lines_from calls r n i (b ∷ []) ≡ last_after (line_by calls r false (nat_lt input_limit (i + length b)) b) n
unfolding lines_from
last_line calls r n i [] h = absurd (omega arith)
last_line calls r n i (x ∷ xs) h = last_head (line_by calls r false (nat_lt input_limit (i + length (x ∷ xs))) (x ∷ xs)) n

long_line : (calls : Bool) (r : Reading) (whole : Bool) (b : List ℕ) → line_by calls r whole true b ≡ Bad Long
unfolding line_by
long_line calls r whole b = refl

short_next : (calls : Bool) (r : Reading) (n i : ℕ) (b : List ℕ) (bs cs : List (List ℕ)) → bs ≡ b ∷ cs → is_empty cs ≡ false → i + length b + 1 ≤ input_limit
    → lines_from calls r n i bs ≡ line_after calls (line_by calls r true false b) n (i + length b + 1) cs
short_next calls r n i b bs cs e f h =
    ap (λ ps. lines_from calls r n i ps) e ∙ (next_line calls r n i b cs f ∙ ap (λ t. line_after calls (line_by calls r true t b) n (i + length b + 1) cs) (le-ltb input_limit (i + length b + 1) h))

pub line_long : (calls : Bool) (r : Reading) (n i : ℕ) (b : List ℕ) (bs cs : List (List ℕ)) (all : ScriptRead) → bs ≡ b ∷ cs → is_empty cs ≡ false → input_limit < i + length b + 1
    → lines_from calls r n i bs ≡ all → all ≡ IsNone n Long
line_long calls r n i b bs cs all e f h k =
    sym k ∙ (ap (λ ps. lines_from calls r n i ps) e ∙ (next_line calls r n i b cs f ∙ (ap (λ t. line_after calls (line_by calls r true t b) n (i + length b + 1) cs) (lt-ltb input_limit (i + length b + 1) h)
    ∙ ap (λ x. line_after calls x n (i + length b + 1) cs) (long_line calls r true b))))

pub line_taken : (calls : Bool) (r q : Reading) (n i : ℕ) (b : List ℕ) (bs cs : List (List ℕ)) (all : ScriptRead) → bs ≡ b ∷ cs → is_empty cs ≡ false → i + length b + 1 ≤ input_limit
    → line_by calls r true false b ≡ Good q → lines_from calls r n i bs ≡ all → lines_from calls q (n + 1) (i + length b + 1) cs ≡ all
line_taken calls r q n i b bs cs all e f h g k = sym (ap (λ x. line_after calls x n (i + length b + 1) cs) g) ∙ (sym (short_next calls r n i b bs cs e f h) ∙ k)

pub line_fails : (calls : Bool) (r : Reading) (n i : ℕ) (b : List ℕ) (bs cs : List (List ℕ)) (x : LineFault) (all : ScriptRead) → bs ≡ b ∷ cs → is_empty cs ≡ false → i + length b + 1 ≤ input_limit
    → FailsLine x (line_by calls r true false b) → lines_from calls r n i bs ≡ all → FailsScript (fault_at n x) all
line_fails calls r n i b bs cs line_fault.NoMemory all e f h g k = tt
line_fails calls r n i b bs cs (line_fault.Bad why) all e f h g k = sym k ∙ (short_next calls r n i b bs cs e f h ∙ ap (λ y. line_after calls y n (i + length b + 1) cs) g)

-- what follows the last line feed
no_more : (calls : Bool) (r : Reading) (n i : ℕ) (b : List ℕ) → length b ≡ 0 → lines_from calls r n i (b ∷ []) ≡ at_end r n
unfolding lines_from
no_more calls r n i [] e = refl
no_more calls r n i (x ∷ xs) e = absurd (omega arith)

pub no_line : (calls : Bool) (r : Reading) (n i : ℕ) (b : List ℕ) (s : Result Script ScriptFault) → length b ≡ 0 → GivesScript s (at_end r n) → GivesScript s (lines_from calls r n i (b ∷ []))
no_line calls r n i b s e g = subst (GivesScript s) (sym (no_more calls r n i b e)) g

short_last : (calls : Bool) (r : Reading) (n i : ℕ) (b : List ℕ) → 0 < length b → i + length b ≤ input_limit → lines_from calls r n i (b ∷ []) ≡ last_after (line_by calls r false false b) n
short_last calls r n i b f h = last_line calls r n i b f ∙ ap (λ t. last_after (line_by calls r false t b) n) (le-ltb input_limit (i + length b) h)

pub last_long : (calls : Bool) (r : Reading) (n i : ℕ) (b : List ℕ) → 0 < length b → input_limit < i + length b → lines_from calls r n i (b ∷ []) ≡ IsNone n Long
last_long calls r n i b f h =
    last_line calls r n i b f ∙ (ap (λ t. last_after (line_by calls r false t b) n) (lt-ltb input_limit (i + length b) h) ∙ ap (λ x. last_after x n) (long_line calls r false b))

pub last_taken : (calls : Bool) (r q : Reading) (n i : ℕ) (b : List ℕ) (s : Result Script ScriptFault) → 0 < length b → i + length b ≤ input_limit → line_by calls r false false b ≡ Good q
    → GivesScript s (at_end q n) → GivesScript s (lines_from calls r n i (b ∷ []))
last_taken calls r q n i b s f h e g = subst (GivesScript s) (sym (short_last calls r n i b f h ∙ ap (λ x. last_after x n) e)) g

pub last_fails : (calls : Bool) (r : Reading) (n i : ℕ) (b : List ℕ) (x : LineFault) → 0 < length b → i + length b ≤ input_limit → FailsLine x (line_by calls r false false b)
    → FailsScript (fault_at n x) (lines_from calls r n i (b ∷ []))
last_fails calls r n i b line_fault.NoMemory f h g = tt
last_fails calls r n i b (line_fault.Bad why) f h g = short_last calls r n i b f h ∙ ap (λ y. last_after y n) g

pub last_piece : (calls : Bool) (r : Reading) (n i : ℕ) (b : List ℕ) (bs : List (List ℕ)) (all : ScriptRead) → bs ≡ b ∷ [] → lines_from calls r n i bs ≡ all → lines_from calls r n i (b ∷ []) ≡ all
last_piece calls r n i b bs all e k = sym (ap (λ ps. lines_from calls r n i ps) e) ∙ k

-- ---- the lines of a script are those of the grammar

line_same : (r : Reading) (whole long : Bool) (b : List ℕ) → line_by false r whole long b ≡ read_line r whole long b
unfolding line_by read_line
line_same r whole true b = refl
line_same r whole false b = refl

abbrev read_after : Read → ℕ → ℕ → List (List ℕ) → ScriptRead
read_after (Good q) n i cs = read_from q (n + 1) i cs
read_after (Bad why) n i cs = IsNone n why

read_head : (x : Read) (n i : ℕ) (cs : List (List ℕ))
    → ◌≡◌ {A = ScriptRead} (elim x [ Good q ↦ read_from q (n + 1) i cs | Bad why ↦ IsNone n why ]) (read_after x n i cs)
read_head (Good q) n i cs = refl
read_head (Bad why) n i cs = refl

pub same_lines : (r : Reading) (n i : ℕ) (bs : List (List ℕ)) → lines_from false r n i bs ≡ read_from r n i bs
unfolding lines_from read_from
same_lines r n i [] = refl
same_lines r n i ([] ∷ []) = refl
same_lines r n i ((x ∷ xs) ∷ []) =
    last_head (line_by false r false (nat_lt input_limit (i + length (x ∷ xs))) (x ∷ xs)) n
    ∙ (ap (λ z. last_after z n) (line_same r false (nat_lt input_limit (i + length (x ∷ xs))) (x ∷ xs)) ∙ sym (last_head (read_line r false (nat_lt input_limit (i + length (x ∷ xs))) (x ∷ xs)) n))
same_lines r n i (b ∷ c ∷ cs) =
    let t : Bool = nat_lt input_limit (i + length b + 1) in
    line_head false (line_by false r true t b) n (i + length b + 1) (c ∷ cs)
    ∙ (ap (λ z. line_after false z n (i + length b + 1) (c ∷ cs)) (line_same r true t b)
    ∙ (next (λ q. same_lines q (n + 1) (i + length b + 1) (c ∷ cs)) (read_line r true t b) ∙ sym (read_head (read_line r true t b) n (i + length b + 1) (c ∷ cs))))
  where
    next : ((q : Reading) → lines_from false q (n + 1) (i + length b + 1) (c ∷ cs) ≡ read_from q (n + 1) (i + length b + 1) (c ∷ cs)) → (z : Read) → line_after false z n (i + length b + 1) (c ∷ cs) ≡ read_after z n (i + length b + 1) (c ∷ cs)
    next same (Good q) = same q
    next same (Bad why) = refl

pub lines_of_script : (aim : Aim) (bytes : List ℕ) → lines_for false aim bytes ≡ read_for aim bytes
unfolding lines_for read_for
lines_of_script aim bytes = same_lines (nothing_read aim) 1 0 (split_on 10 bytes)
