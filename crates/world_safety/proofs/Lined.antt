-- The lines of a script that is read: no node is 0, and in mode fixed none starts.
use Rattle.std.proofs.Common.{◌≡◌, ◌≢◌, ℕ, List, [], ◌∷◌, Bool, true, false, refl, sym, subst}
use Rattle.std.specs.Prelude.{not}
use Rattle.std.specs.List.{list_all}
use Rattle.std.proofs.lemmas.Bool.{or_parts}
use Rattle.rsct_packet.specs.Lists.{reverse_onto}
use Rattle.rsct_packet.specs.declared.mask.Mask.{Mask}
use Rattle.rsct_packet.specs.Mask.{has_node}
use Rattle.rsct_packet.proofs.HasLaws.{all_has}
use Rattle.node_state.specs.declared.config.Config.{Config}
use Rattle.node_state.specs.declared.config.Mode.{Mode}
use Rattle.world_model.specs.declared.event.Event.TheVariants as event
use Rattle.world_model.specs.declared.script.Aim.TheVariants.{Plays}
use Rattle.world_model.specs.declared.script.Line.{Line}
use Rattle.world_model.specs.declared.script.Line.TheVariants as line
use Rattle.world_model.specs.Lines.{Said, SaysMode, SaysBegin, SaysLine, SaysClient, SaysCall}
use Rattle.world_model.specs.Reading.{Reading, nothing_read, settled_if, settled, nodes_said, event_misplaced, line_misplaced, misplaced, with_line, with_call, with_client, with_config, with_address, taken, with_text, script_in, script_of, IsScript}
use Rattle.world_model.proofs.ReadingLaws.{Reasonless, reasonless, Keeps, EndsWith, read_keeps}
use Rattle.world_model.specs.declared.script.Script.{Script}
use Rattle.run_laws.proofs.ring_runs.Settings.{script_addresses_fit}
pub use Rattle.run_laws.proofs.ring_runs.Settings.{plain_addresses_fit}
use Rattle.world_safety.specs.Plays.{LineMay, LinesMay, ScriptsMayPlay}
use Rattle.world_safety.proofs.Saying.{StartsOf, SaidWell, SaysWell, said_well}

lines_turned : (m : Mode) (xs ys : List Line) → LinesMay m xs → LinesMay m ys → LinesMay m (reverse_onto xs ys)
lines_turned m [] ys a b = b
lines_turned m (x ∷ xs) ys a b = lines_turned m xs (x ∷ ys) a.1 (a.0, b)

-- no line stands before `begin`
record Fine (r : Reading) : Type 0 where
  lines : LinesMay r.config.mode r.lines
  first : r.begun ≡ false → r.lines ≡ []

-- ---- one line

real : (mask : Mask) (n : ℕ) → has_node mask n ≡ true → n ≢ 0
unfolding has_node
real mask n e zero = let f : has_node mask 0 ≡ true = subst (λ k. has_node mask k ≡ true) zero e in absurd (cc)

line_may : (c : Config) (ns : List ℕ) (l : Line) → StartsOf ns l → list_all (has_node c.nodes) ns ≡ true → line_misplaced c l ≡ false → LineMay c.mode l
unfolding line_misplaced event_misplaced
line_may c ns (line.Plain (event.Start n)) h all place = (place, real c.nodes n (all_has (has_node c.nodes) ns n all h))
line_may c ns _ h all place = tt

not_false : (b : Bool) → not b ≡ false → b ≡ true
not_false true e = refl
not_false false e = absurd (cc)

-- a line after `begin`
line_fine : (r : Reading) (l : Line) → Fine r → r.begun ≡ true → LineMay r.config.mode l → Fine (with_line r l)
unfolding with_line
line_fine r l f begun may = record { lines = (may, f.lines); first = λ e. absurd (cc) }

taken_fine : (r : Reading) (x : Said) → Fine r → SaidWell x → Reasonless r x → Fine (taken r x)
unfolding taken misplaced nodes_said with_config with_address with_line with_call with_client
taken_fine r (SaysMode m) f well h =
    let none : r.lines ≡ [] = f.first (or_parts r.begun r.has_mode h.placed).0 in
    record { lines = subst (LinesMay m) (sym none) tt; first = f.first }
taken_fine r SaysBegin f well h = record { lines = f.lines; first = λ e. absurd (cc) }
taken_fine r (SaysLine ns l) f well h =
    let p = or_parts (not r.begun) (line_misplaced r.config l) h.placed in
    line_fine r l f (not_false r.begun p.0) (line_may r.config ns l well h.nodes p.1)
taken_fine r (SaysClient n name votes) f well h =
    let begun : r.begun ≡ true = not_false r.begun (or_parts (not r.begun) _ h.placed).0 in record { lines = (tt, f.lines); first = λ e. absurd (cc) }
taken_fine r (SaysCall client c) f well h =
    let begun : r.begun ≡ true = not_false r.begun h.placed in record { lines = (tt, f.lines); first = λ e. absurd (cc) }
taken_fine r _ f well h = record { lines = f.lines; first = f.first }

text_fine : (r : Reading) (bytes : List ℕ) → Fine r → Fine (with_text r bytes r.has_call)
unfolding with_text
text_fine r bytes f = by r.has_call
  where
    by : (b : Bool) → Fine (with_text r bytes b)
    by true = record { lines = f.lines; first = f.first }
    by false = f

keeps_fine : Keeps Fine Fine
keeps_fine = record {
  says = λ r h ws x e none f. taken_fine r x f (subst SaysWell e (said_well h ws)) (reasonless r x none);
  rests = λ r f. f;
  texts = text_fine;
}

-- ---- a whole script

same_mode : (c : Config) (b : Bool) → (settled_if c b).mode ≡ c.mode
unfolding settled_if
same_mode c true = refl
same_mode c false = refl

abbrev LinesOf : Script → Type 0
LinesOf s = LinesMay s.config.mode s.lines

script_may : (r : Reading) → Fine r → LinesOf (script_in r)
unfolding script_in settled
script_may r f =
    subst (λ m. LinesMay m (reverse_onto r.lines [])) (sym (same_mode r.config r.has_adapter)) (lines_turned r.config.mode r.lines [] f.lines tt)

none_fine : Fine (nothing_read Plays)
unfolding nothing_read
none_fine = record { lines = tt; first = λ e. refl }

lines_may_play : (bytes : List ℕ) (s : Script) → script_of bytes ≡ IsScript s → LinesMay s.config.mode s.lines
unfolding script_of
lines_may_play bytes s e =
    let end : EndsWith Fine s = read_keeps Fine Fine keeps_fine Plays bytes s none_fine e in subst LinesOf (sym end.is) (script_may end.last end.keeps)

pub scripts_may_play : ScriptsMayPlay
scripts_may_play bytes s e = record { lines = lines_may_play bytes s e; addresses = script_addresses_fit bytes s e }
