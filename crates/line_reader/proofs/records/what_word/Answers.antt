-- A word with two dashes says nothing that was heard.
use Rattle.std.proofs.Common.{sym}
use Rattle.line_reader.proofs.RecordLaws.{what_longer}
use Rattle.line_reader.proofs.records.what_word.Goals as goal

pub returns-in-Some-cut_at : goal.returns-in-Some-cut_at
returns-in-Some-cut_at c =
    sym (what_longer _ _ _ _ _ c.in-Some.ensures.found c.in-Some-cut_at.ensures.found c.in-Some-cut_at.ensures.more)
