use Rattle.std.proofs.Common.{◌≡◌, ◌+◌, ◌≤◌, length}
use Rattle.value_words.specs.Words.{split_on}
use Rattle.world_model.specs.Reading.{input_limit}
use Rattle.script_reader.specs.ClientScript.{lines_from, lines_for}
use Rattle.script_reader.specs.Reading.{reading_seen}
use Rattle.script_reader.proofs.script.read_lines.Given as goal

abbrev pub invariant-loop-line : goal.invariant-loop-line
invariant-loop-line l = record {
  read : lines_from l.calls (reading_seen l.read) l.number l.place (split_on 10 l.left) ≡ lines_for l.calls l.fn.aim l.bytes;
  within : l.place ≤ input_limit;
  numbered : l.number ≤ l.place + 1;
}

abbrev pub decreases-loop-line : goal.decreases-loop-line
decreases-loop-line l = length l.left
