-- The text of a run's records is seen, by the table of rules.
use Rattle.std.specs.Prelude.{ℕ, ◌≡◌, true, List, [], ◌∷◌, length, flat_map, reverse}
use Rattle.value_words.specs.Words.{split_on}
use Rattle.node_state.specs.declared.config.Config.{Config}
use Rattle.node_state.specs.declared.happened.Happened.{Happened}
use Rattle.world_model.specs.declared.script.Script.{Script}
use Rattle.world_model.specs.Play.{script_records}
use Rattle.world_model.specs.Reading.{IsScript, script_of}
use Rattle.world_model.specs.Text.{line_of}
use Rattle.run_safety.specs.Past.{records_of}
use Rattle.step_refinement.specs.Tied.{Scene}
use Rattle.step_refinement.specs.Runs.{Reached}
use Rattle.run_laws.specs.ring_runs.Rings.{AddressesFit}
use Rattle.log_laws.specs.Logs.{Logs, BasesComeFromGroups}
use Rattle.record_lines.specs.declared.line.Line.{Line}
use Rattle.record_lines.specs.Fits.{line_fits}
use Rattle.record_lines.specs.Writing.{line_text}
use Rattle.line_laws.specs.Shown.{ShowsWhole}
use Rattle.run_audit.specs.declared.broken.Verdict.TheVariants.{Seen}
use Rattle.run_audit.specs.declared.broken.Judged.TheVariants.{Is}
use Rattle.run_audit.specs.Audit.{judged_text}
use Rattle.world_laws.specs.world_answers.Answers.{Answered, events_in, answered_records}
use Rattle.world_safety.specs.Events.{AllMayHappen}
use Rattle.audit_laws.specs.Records.{OfRun}

-- whatever starts, stops and steps, where the addresses of each network differ
abbrev pub RunsAreAudited : Type 0
RunsAreAudited = (c : Config) (w : Scene) → Reached c w → ((net : ℕ) → AddressesFit c net) → OfRun (records_of w.before)

-- so do those of them that logs have, where bases come from views in which their groups were
abbrev pub LogsAreAudited : Type 0
LogsAreAudited = (rs ls : List Happened) → Logs rs ls → OfRun rs → BasesComeFromGroups rs → OfRun ls

-- no line that fits has a line feed: cut at them its text is one piece
abbrev pub LinesAreOnePiece : Type 0
LinesAreOnePiece = (l : Line) → line_fits l ≡ true → split_on 10 (line_text l) ≡ line_text l ∷ []

-- Each record shows the line at its place, and that line fits: a record of which a number is out of range, or a name too long, has no
-- such line.
abbrev pub AreShown : List Happened → List Line → Type 0
AreShown [] [] = Unit {0}
AreShown [] (l ∷ ls) = ⊥
AreShown (r ∷ rs) [] = ⊥
AreShown (r ∷ rs) (l ∷ ls) = ShowsWhole r l × AreShown rs ls

-- the transcript of records in order
abbrev pub text_of : List Happened → List ℕ
text_of rs = flat_map line_of rs

-- where each record has a line, the judgement of the text is that all its lines are seen
abbrev pub IsSeenText : List Happened → Type 0
IsSeenText rs = (ls : List Line) → AreShown rs ls → judged_text (text_of rs) ≡ Is (Seen (length rs))

-- so it is of records, in order, that show what those of a run do
abbrev pub TextsAreSeen : Type 0
TextsAreSeen = (rs : List Happened) → OfRun (reverse rs) → IsSeenText rs

-- of what logs have of any run: all but lives in which a node does nothing, and that nodes go down
abbrev pub LogTextsAreSeen : Type 0
LogTextsAreSeen =
    (c : Config) (w : Scene) → Reached c w → ((net : ℕ) → AddressesFit c net) → (rs : List Happened) → Logs (records_of w.before) (reverse rs) → IsSeenText rs

-- of the records of events that may happen, in any order, whatever kind of clients there are and whatever they answer
abbrev pub EveryTextIsSeen : Type 0
EveryTextIsSeen = (c : Config) (es : List Answered) → AllMayHappen c (events_in es) → ((net : ℕ) → AddressesFit c net) → IsSeenText (answered_records c es)

-- and of those of every script
abbrev pub EveryScriptTextIsSeen : Type 0
EveryScriptTextIsSeen = (bytes : List ℕ) (s : Script) → script_of bytes ≡ IsScript s → IsSeenText (script_records s)
