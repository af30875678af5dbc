use Rattle.std.proofs.Common.{◌≡◌}
use Rattle.world_model.specs.Reading.{Good, worded_line}
use Rattle.value_words.specs.Words.{words_in}
use Rattle.script_reader.specs.Reading.{reading_seen}
use Rattle.script_reader.proofs.ScriptLaws.{texted_good}
use Rattle.script_reader.proofs.script.texted_line.Goals as goal

pub returns : goal.returns
returns c =
    let taken : worded_line (reading_seen c.args.read.now) c.args.whole (words_in c.args.line.now) ≡ Good (reading_seen c.worded_line.new.read) = cc (c.of-words.ensures, c.in_ok-worded_line.ensures) in
    texted_good _ _ (reading_seen c.worded_line.new.read) (reading_seen c.keep_text.new.self) taken c.in_ok-keep_text.ensures
