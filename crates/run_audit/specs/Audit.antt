-- The judgement of a transcript's bytes.
use Rattle.std.specs.Prelude.{ℕ, true, false, ◌+◌, List, [], ◌∷◌, Some, None, length}
use Rattle.std.specs.Fmt.{digits}
use Rattle.rsct_packet.specs.Lists.{is_empty}
use Rattle.proposal_core.specs.Fold.{fold_opens}
use Rattle.value_words.specs.Escapes.{escapes_open}
use Rattle.value_words.specs.Wording.{wording_opens}
use Rattle.value_words.specs.Words.{split_on}
use Rattle.entry_words.specs.Words.{attr_words_open}
use Rattle.entry_words.specs.Wording.{entry_wording_opens}
use Rattle.word_laws.specs.Entries.{entries_read_open}
use Rattle.word_laws.specs.Ranges.{ranges_open}
use Rattle.word_laws.specs.Values.{values_read_open}
use Rattle.record_lines.specs.declared.line.Line.{Line}
use Rattle.record_lines.specs.Fits.{fits_opens}
use Rattle.record_lines.specs.Reading.{line_read, reading_opens}
use Rattle.record_lines.specs.Writing.{writing_opens}
use Rattle.run_audit.specs.declared.broken.Judged.{Judged}
use Rattle.run_audit.specs.declared.broken.Judged.TheVariants.{Is, NoRecord}
use Rattle.run_audit.specs.Past.{past_opens}
use Rattle.run_audit.specs.Table.{table_opens, verdict_of}

-- the pieces between line feeds, the last of which has to be empty, behind these lines, the latest first
unfoldable pub judged : List (List ℕ) → List Line → Judged
judged [] ls = Is (verdict_of ls)
judged (b ∷ []) ls = elim (is_empty b) [ true ↦ Is (verdict_of ls) | false ↦ NoRecord (length ls + 1) ]
judged (b ∷ c ∷ more) ls = elim (line_read b) [ None ↦ NoRecord (length ls + 1) | Some l ↦ judged (c ∷ more) (l ∷ ls) ]

unfoldable pub judged_text : List ℕ → Judged
judged_text b = judged (split_on 10 b) []

-- opens each word, for a computation
unfoldable pub audit_opens : Unit {0}
unfolding digits escapes_open wording_opens attr_words_open entry_wording_opens entries_read_open ranges_open values_read_open fits_opens reading_opens writing_opens fold_opens past_opens table_opens judged judged_text
audit_opens = tt
