-- The bytes of each call of a client are some, and no more than a call has.
use Rattle.std.proofs.Common.{◌≡◌, ℕ, ◌+◌, ◌<◌, ◌≤◌, ◌&&◌, ◌||◌, Bool, true, false, List, [], ◌∷◌, length, Option, Some, None, Result, Ok, Err, IfOk, if◌then◌else◌, refl, sym, subst, arith}
use Rattle.std.specs.Prelude.{nat_lt, not}
use Rattle.std.specs.List.{list_any}
use Rattle.std.proofs.lemmas.Bool.{or_parts, ltb-false}
use Rattle.rsct_packet.specs.Format.{EachFits}
use Rattle.rsct_packet.specs.Lists.{is_empty, reverse_onto}
use Rattle.world_model.specs.declared.script.Aim.TheVariants.{Asks}
use Rattle.world_model.specs.declared.script.LineWhy.{LineWhy}
use Rattle.world_model.specs.declared.script.LineWhy.TheVariants.{Long, BadByte, MissingWord, ExtraWord, OutOfPlace}
use Rattle.world_model.specs.declared.script.Script.{Script}
use Rattle.value_words.specs.Words.{split_on, chosen, words_in}
use Rattle.world_model.specs.Lines.{Form, forms, Said, SaysMode, SaysNode, SaysAdapter, SaysHb, SaysPort, SaysLevel, SaysDomain, SaysBegin, SaysLine, SaysClient, SaysCall, said}
use Rattle.world_model.specs.Reading.{Reading, Read, Good, Bad, ScriptRead, IsScript, IsNone, nothing_read, misplaced, reason, with_line, with_call, with_client, with_config, with_address, taken, taken_unless, said_line, is_extra, counted_line, formed_line, skipped_line, worded_line, is_comment, is_bad_byte, with_text, texted, read_line, script_in, lacks_begin, at_end, input_limit}
use Rattle.world_model.proofs.ReadingLaws.{reasonless}
use Rattle.script_reader.specs.declared.faults.ScriptFault.{ScriptFault}
use Rattle.script_reader.specs.Reading.{GivesScript}
use Rattle.script_reader.specs.CallTexts.{IsHandedText, HandsTexts}
use Rattle.remote_session.specs.Messages.{max_line}
use Rattle.script_reader.specs.ClientScript.{is_long, fits_client, judged, client_line, line_by, lines_from, lines_for, client_script}

-- what is so of what is read, if it is good
abbrev Holds : (Reading → Type 0) → Read → Type 0
Holds P (Good r) = P r
Holds P (Bad why) = Unit {0}

-- between two lines: each call that was read has its bytes
record Rests (r : Reading) : Type 0 where
  kept : r.has_call ≡ false
  texts : EachFits IsHandedText r.texts

-- after what a line says, before its bytes are kept: it is a call only behind `begin`
record Says (r q : Reading) : Type 0 where
  texts : q.texts ≡ r.texts
  begun : q.has_call ≡ true → r.begun ≡ true

-- ---- what a line says

not_false : (b : Bool) → not b ≡ false → b ≡ true
not_false true e = refl
not_false false e = absurd (cc)

no_call : (r q : Reading) → r.has_call ≡ false → q.texts ≡ r.texts → q.has_call ≡ r.has_call → Says r q
no_call r q kept texts call = record { texts = texts; begun = λ e. absurd (cc) }

taken_says : (r : Reading) (x : Said) → r.has_call ≡ false → misplaced r x ≡ false → Says r (taken r x)
unfolding taken misplaced with_config with_address with_line with_call with_client
taken_says r (SaysMode m) kept e = no_call r (taken r (SaysMode m)) kept refl refl
taken_says r (SaysNode n) kept e = no_call r (taken r (SaysNode n)) kept refl refl
taken_says r (SaysAdapter n network address) kept e = no_call r (taken r (SaysAdapter n network address)) kept refl refl
taken_says r (SaysHb f s) kept e = no_call r (taken r (SaysHb f s)) kept refl refl
taken_says r (SaysPort p) kept e = no_call r (taken r (SaysPort p)) kept refl refl
taken_says r (SaysLevel n inc) kept e = no_call r (taken r (SaysLevel n inc)) kept refl refl
taken_says r (SaysDomain d) kept e = no_call r (taken r (SaysDomain d)) kept refl refl
taken_says r SaysBegin kept e = no_call r (taken r SaysBegin) kept refl refl
taken_says r (SaysLine ns l) kept e = no_call r (taken r (SaysLine ns l)) kept refl refl
taken_says r (SaysClient n name votes) kept e = record { texts = refl; begun = λ _. not_false r.begun (or_parts (not r.begun) _ e).0 }
taken_says r (SaysCall client c) kept e = record { texts = refl; begun = λ _. not_false r.begun e }

unless_says : (r : Reading) (x : Said) → r.has_call ≡ false → (o : Option LineWhy) → reason r x ≡ o → Holds (Says r) (taken_unless r x o)
unfolding taken_unless
unless_says r x kept None e = taken_says r x kept (reasonless r x e).placed
unless_says r x kept (Some why) e = tt

said_says : (r : Reading) → r.has_call ≡ false → (o : Option Said) → Holds (Says r) (said_line r o)
unfolding said_line
said_says r kept None = tt
said_says r kept (Some x) = unless_says r x kept (reason r x) refl

counted_says : (r : Reading) → r.has_call ≡ false → (form : Form) (ws : List (List ℕ)) → Holds (Says r) (counted_line r form ws)
unfolding counted_line
counted_says r kept form ws = by (nat_lt (length ws) form.least) (is_extra (length ws) form.most)
  where
    by : (a b : Bool) → Holds (Says r) (elim a [ true ↦ Bad MissingWord | false ↦ elim b [ true ↦ Bad ExtraWord | false ↦ said_line r (said form.head ws) ] ])
    by true b = tt
    by false true = tt
    by false false = said_says r kept (said form.head ws)

formed_says : (r : Reading) → r.has_call ≡ false → (whole : Bool) (ws : List (List ℕ)) (o : Option Form) → Holds (Says r) (formed_line r whole ws o)
unfolding formed_line
formed_says r kept whole ws None = tt
formed_says r kept true ws (Some form) = counted_says r kept form ws
formed_says r kept false ws (Some form) = tt

skipped_holds : (P : Reading → Type 0) (r : Reading) (whole : Bool) → P r → Holds P (skipped_line r whole)
unfolding skipped_line
skipped_holds P r true p = p
skipped_holds P r false p = tt

-- ---- a line

-- a line of words has bytes
some_bytes : (bytes w : List ℕ) (ws : List (List ℕ)) → words_in bytes ≡ w ∷ ws → 1 ≤ length bytes
unfolding words_in split_on
some_bytes [] w ws e = absurd (cc)
some_bytes (b ∷ bs) w ws e = omega arith

-- and no more than a call has, unless it is long
few_bytes : (bytes w : List ℕ) (ws : List (List ℕ)) → words_in bytes ≡ w ∷ ws → is_comment bytes ≡ false → is_long bytes ≡ false → length bytes ≤ max_line
unfolding is_long
few_bytes bytes w ws words plain e =
    let same : (nat_lt max_line (length bytes) && (not false && not (is_empty (w ∷ ws)))) ≡ false =
    subst (λ v. (nat_lt max_line (length bytes) && (not false && not (is_empty v))) ≡ false) words (subst (λ c. (nat_lt max_line (length bytes) && (not c && not (is_empty (words_in bytes)))) ≡ false) plain e) in
    ltb-false max_line (length bytes) (of (nat_lt max_line (length bytes)) same)
  where
    of : (b : Bool) → (b && true) ≡ false → b ≡ false
    of true f = f
    of false f = refl

texted_rests : (r : Reading) (bytes : List ℕ) → Rests r → (r.begun ≡ true → IsHandedText bytes) → (x : Read) → Holds (Says r) x → Holds Rests (texted bytes x)
unfolding texted with_text
texted_rests r bytes p fits (Bad why) h = tt
texted_rests r bytes p fits (Good q) h = by q.has_call refl
  where
    by : (b : Bool) → q.has_call ≡ b → Rests (with_text q bytes b)
    by true e = record { kept = refl; texts = (fits (h.begun e), subst (EachFits IsHandedText) (sym h.texts) p.texts) }
    by false e = record { kept = e; texts = subst (EachFits IsHandedText) (sym h.texts) p.texts }

-- a line without words says nothing
texted_skipped : (r : Reading) (whole : Bool) (bytes : List ℕ) → Rests r → Holds Rests (texted bytes (skipped_line r whole))
unfolding texted skipped_line with_text
texted_skipped r true bytes p = subst (λ b. Rests (with_text r bytes b)) (sym p.kept) p
texted_skipped r false bytes p = tt

line_rests : (r : Reading) (whole : Bool) (bytes : List ℕ) → Rests r → (r.begun && is_long bytes) ≡ false → Holds Rests (read_line r whole false bytes)
unfolding read_line worded_line
line_rests r whole bytes p short = by (list_any is_bad_byte bytes) (is_comment bytes) refl
  where
    not_long : r.begun ≡ true → is_long bytes ≡ false
    not_long e = subst (λ b. (b && is_long bytes) ≡ false) e short

    words : is_comment bytes ≡ false → (ws : List (List ℕ)) → words_in bytes ≡ ws → Holds Rests (texted bytes (worded_line r whole ws))
    words plain [] e = texted_skipped r whole bytes p
    words plain (w ∷ ws) e = texted_rests r bytes p (λ begun. (some_bytes bytes w ws e, few_bytes bytes w ws e plain (not_long begun))) (formed_line r whole ws (chosen forms w)) (formed_says r p.kept whole ws (chosen forms w))

    by : (a b : Bool) → is_comment bytes ≡ b → Holds Rests (elim a [ true ↦ Bad BadByte | false ↦ elim b [ true ↦ skipped_line r whole | false ↦ texted bytes (worded_line r whole (words_in bytes)) ] ])
    by true b e = tt
    by false true e = skipped_holds Rests r whole p
    by false false e = words e (words_in bytes) refl

judged_rests : (before : ℕ) (x : Read) → Holds Rests x → Holds Rests (judged before x)
judged_rests before (Bad why) h = tt
judged_rests before (Good q) h = by (fits_client q before)
  where
    by : (b : Bool) → Holds Rests (if b then Good q else Bad OutOfPlace)
    by true = h
    by false = tt

client_rests : (r : Reading) (whole : Bool) (bytes : List ℕ) → Rests r → Holds Rests (client_line r whole bytes)
unfolding client_line
client_rests r whole bytes p = by (r.begun && is_long bytes) refl
  where
    by : (b : Bool) → (r.begun && is_long bytes) ≡ b → Holds Rests (if b then Bad Long else judged (length r.lines) (read_line r whole false bytes))
    by true e = tt
    by false e = judged_rests (length r.lines) (read_line r whole false bytes) (line_rests r whole bytes p e)

by_rests : (r : Reading) (whole long : Bool) (bytes : List ℕ) → Rests r → Holds Rests (line_by true r whole long bytes)
unfolding line_by
by_rests r whole true bytes p = tt
by_rests r whole false bytes p = client_rests r whole bytes p

-- ---- a whole input

abbrev ScriptHands : ScriptRead → Type 0
ScriptHands (IsScript s) = HandsTexts s
ScriptHands (IsNone n why) = Unit {0}

turned : (xs ys : List (List ℕ)) → EachFits IsHandedText xs → EachFits IsHandedText ys → EachFits IsHandedText (reverse_onto xs ys)
turned [] ys p q = q
turned (x ∷ xs) ys p q = turned xs (x ∷ ys) p.1 (p.0, q)

end_hands : (r : Reading) (n : ℕ) → Rests r → ScriptHands (at_end r n)
unfolding at_end script_in
end_hands r n p = by (lacks_begin r.aim r.begun)
  where
    by : (b : Bool) → ScriptHands (elim b [ true ↦ IsNone n MissingWord | false ↦ IsScript (script_in r) ])
    by true = tt
    by false = turned r.texts [] p.texts tt

last_hands : (x : Read) (n : ℕ) → Holds Rests x → ScriptHands (elim x [ Good q ↦ at_end q n | Bad why ↦ IsNone n why ])
last_hands (Good q) n p = end_hands q n p
last_hands (Bad why) n p = tt

next_hands : (x : Read) (n i : ℕ) (bs : List (List ℕ)) → ((q : Reading) → Rests q → ScriptHands (lines_from true q (n + 1) i bs)) → Holds Rests x
    → ScriptHands (elim x [ Good q ↦ lines_from true q (n + 1) i bs | Bad why ↦ IsNone n why ])
next_hands (Good q) n i bs rest p = rest q p
next_hands (Bad why) n i bs rest p = tt

lines_hand : (bs : List (List ℕ)) (r : Reading) (n i : ℕ) → Rests r → ScriptHands (lines_from true r n i bs)
unfolding lines_from
lines_hand [] r n i p = end_hands r n p
lines_hand (b ∷ bs) r n i p = by (is_empty bs) (is_empty b) (λ q g. lines_hand bs q (n + 1) (i + length b + 1) g)
  where
    by : (u v : Bool) → ((q : Reading) → Rests q → ScriptHands (lines_from true q (n + 1) (i + length b + 1) bs))
        → ScriptHands (elim u [ true ↦ elim v [ true ↦ at_end r n | false ↦ elim (line_by true r false (nat_lt input_limit (i + length b)) b) [ Good q ↦ at_end q n | Bad why ↦ IsNone n why ] ] | false ↦ elim (line_by true r true (nat_lt input_limit (i + length b + 1)) b) [ Good q ↦ lines_from true q (n + 1) (i + length b + 1) bs | Bad why ↦ IsNone n why ] ])
    by true true rest = end_hands r n p
    by true false rest = last_hands (line_by true r false (nat_lt input_limit (i + length b)) b) n (by_rests r false (nat_lt input_limit (i + length b)) b p)
    by false v rest = next_hands (line_by true r true (nat_lt input_limit (i + length b + 1)) b) n (i + length b + 1) bs rest (by_rests r true (nat_lt input_limit (i + length b + 1)) b p)

script_hands : (me : ℕ) (bytes : List ℕ) → ScriptHands (client_script me bytes)
unfolding client_script lines_for nothing_read
script_hands me bytes = lines_hand (split_on 10 bytes) (nothing_read (Asks me)) 1 0 (record { kept = refl; texts = tt })

pub client_hands : (me : ℕ) (bytes : List ℕ) (r : Result Script ScriptFault) → GivesScript r (client_script me bytes) → IfOk r HandsTexts
client_hands me bytes (Ok s) h = subst ScriptHands h (script_hands me bytes)
client_hands me bytes (Err e) h = tt
