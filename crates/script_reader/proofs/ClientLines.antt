-- Lines of the input of a client, and that it is settings too.
use Rattle.std.proofs.Common.{◌≡◌, ℕ, suc, ◌+◌, ◌&&◌, Bool, true, false, List, [], ◌∷◌, length, Option, None, Result, Ok, Err, IfOk, if◌then◌else◌, refl, sym, ◌∙◌, ap, arith}
use Rattle.std.specs.Prelude.{nat_lt}
use Rattle.std.specs.List.{fold}
use Rattle.rsct_packet.specs.Lists.{is_empty}
use Rattle.world_model.specs.declared.script.LineWhy.{LineWhy}
use Rattle.world_model.specs.declared.script.LineWhy.TheVariants.{Long, OutOfPlace}
use Rattle.world_model.specs.declared.script.Script.{Script}
use Rattle.world_model.specs.Reading.{Reading, Read, Good, Bad, ScriptRead, IsScript, IsNone, read_line, at_end, input_limit, read_from, read_for}
use Rattle.world_model.specs.Settings.{aim_of, daemon_script, KeepsFor, HasTexts}
use Rattle.world_model.proofs.SettingsLaws.{settings_fit, has_texts}
use Rattle.script_reader.specs.declared.faults.ScriptFault.{ScriptFault}
use Rattle.script_reader.specs.Clients.{newest_first}
use Rattle.script_reader.specs.Reading.{GivesScript}
use Rattle.script_reader.specs.ClientScript.{is_long, fits_client, misplaced_why, judged, client_line, line_by, lines_from, lines_for, client_script}

length_onto : {X : Type 0} (ys xs : List X) → length (fold (λ zs x. x ∷ zs) ys xs) ≡ length ys + length xs
length_onto ys [] = omega arith
length_onto ys (x ∷ xs) = let e = length_onto (x ∷ ys) xs in omega (arith, e)

-- as many lines stand the newest first
pub as_many : {X : Type 0} (xs : List X) → length (newest_first (λ x. x) xs) ≡ length xs
as_many xs = let e = length_onto [] xs in omega (arith, e)

pub judged_good : (before : ℕ) (x : Read) (q : Reading) → x ≡ Good q → fits_client q before ≡ true → judged before x ≡ Good q
judged_good before x q e fits = ap (judged before) e ∙ ap (λ (t : Bool). if t then Good q else Bad OutOfPlace) fits

pub judged_bad : (before : ℕ) (x : Read) (why : LineWhy) → x ≡ Bad why → judged before x ≡ Bad (misplaced_why why)
judged_bad before x why e = ap (judged before) e

-- ---- it is settings too

good_judged : (before : ℕ) (x : Read) (q : Reading) → judged before x ≡ Good q → x ≡ Good q
good_judged before (Bad why) q e = absurd (cc)
good_judged before (Good r) q e = by (fits_client r before) e
  where
    by : (b : Bool) → ◌≡◌ {A = Read} (if b then Good r else Bad OutOfPlace) (Good q) → ◌≡◌ {A = Read} (Good r) (Good q)
    by true e = e
    by false e = absurd (cc)

good_line : (r : Reading) (whole long : Bool) (bytes : List ℕ) (q : Reading) → line_by true r whole long bytes ≡ Good q → read_line r whole long bytes ≡ Good q
unfolding line_by client_line
good_line r whole true bytes q e = absurd (cc)
good_line r whole false bytes q e = by (r.begun && is_long bytes) e
  where
    by : (b : Bool) → ◌≡◌ {A = Read} (if b then Bad Long else judged (length r.lines) (read_line r whole false bytes)) (Good q) → read_line r whole false bytes ≡ Good q
    by true e = absurd (cc)
    by false e = good_judged (length r.lines) (read_line r whole false bytes) q e

reads_so : (bs : List (List ℕ)) (r : Reading) (n i : ℕ) (s : Script) → lines_from true r n i bs ≡ IsScript s → read_from r n i bs ≡ IsScript s
unfolding lines_from read_from
reads_so [] r n i s e = e
reads_so (b ∷ bs) r n i s e = by (is_empty bs) (is_empty b) (λ q g. reads_so bs q (n + 1) (i + length b + 1) s g) e
  where
    last : (x y : Read) → ((q : Reading) → x ≡ Good q → y ≡ Good q) → elim x [ Good q ↦ at_end q n | Bad why ↦ IsNone n why ] ≡ IsScript s → elim y [ Good q ↦ at_end q n | Bad why ↦ IsNone n why ] ≡ IsScript s
    last (Good q) y go e = ap (λ z. elim z [ Good q ↦ at_end q n | Bad why ↦ IsNone n why ]) (go q refl) ∙ e
    last (Bad why) y go e = absurd (cc)

    next : (x y : Read) → ((q : Reading) → x ≡ Good q → y ≡ Good q) → ((q : Reading) → lines_from true q (n + 1) (i + length b + 1) bs ≡ IsScript s → read_from q (n + 1) (i + length b + 1) bs ≡ IsScript s)
        → elim x [ Good q ↦ lines_from true q (n + 1) (i + length b + 1) bs | Bad why ↦ IsNone n why ] ≡ IsScript s → elim y [ Good q ↦ read_from q (n + 1) (i + length b + 1) bs | Bad why ↦ IsNone n why ] ≡ IsScript s
    next (Good q) y go rest e = ap (λ z. elim z [ Good q ↦ read_from q (n + 1) (i + length b + 1) bs | Bad why ↦ IsNone n why ]) (go q refl) ∙ rest q e
    next (Bad why) y go rest e = absurd (cc)

    by : (u v : Bool) → ((q : Reading) → lines_from true q (n + 1) (i + length b + 1) bs ≡ IsScript s → read_from q (n + 1) (i + length b + 1) bs ≡ IsScript s)
        → elim u [ true ↦ elim v [ true ↦ at_end r n | false ↦ elim (line_by true r false (nat_lt input_limit (i + length b)) b) [ Good q ↦ at_end q n | Bad why ↦ IsNone n why ] ] | false ↦ elim (line_by true r true (nat_lt input_limit (i + length b + 1)) b) [ Good q ↦ lines_from true q (n + 1) (i + length b + 1) bs | Bad why ↦ IsNone n why ] ] ≡ IsScript s
        → elim u [ true ↦ elim v [ true ↦ at_end r n | false ↦ elim (read_line r false (nat_lt input_limit (i + length b)) b) [ Good q ↦ at_end q n | Bad why ↦ IsNone n why ] ] | false ↦ elim (read_line r true (nat_lt input_limit (i + length b + 1)) b) [ Good q ↦ read_from q (n + 1) (i + length b + 1) bs | Bad why ↦ IsNone n why ] ] ≡ IsScript s
    by true true rest e = e
    by true false rest e = last (line_by true r false (nat_lt input_limit (i + length b)) b) (read_line r false (nat_lt input_limit (i + length b)) b) (good_line r false (nat_lt input_limit (i + length b)) b) e
    by false v rest e = next (line_by true r true (nat_lt input_limit (i + length b + 1)) b) (read_line r true (nat_lt input_limit (i + length b + 1)) b) (good_line r true (nat_lt input_limit (i + length b + 1)) b) rest e

client_settings : (me : ℕ) (bytes : List ℕ) (s : Script) → client_script me bytes ≡ IsScript s → daemon_script me None bytes ≡ IsScript s
unfolding client_script daemon_script lines_for read_for aim_of
client_settings me bytes s e = reads_so _ _ 1 0 s e

pub keeps_client : (me : ℕ) (bytes : List ℕ) (r : Result Script ScriptFault) → GivesScript r (client_script me bytes) → IfOk r (KeepsFor me None)
keeps_client me bytes (Ok s) h = settings_fit me None bytes s (client_settings me bytes s h)
keeps_client me bytes (Err e) h = tt

pub client_texts : (me : ℕ) (bytes : List ℕ) (r : Result Script ScriptFault) → GivesScript r (client_script me bytes) → IfOk r HasTexts
unfolding daemon_script
client_texts me bytes (Ok s) h = has_texts (aim_of me None) bytes s (client_settings me bytes s h)
client_texts me bytes (Err e) h = tt
