use Rattle.std.proofs.Common.{false, map, ap₂}
use Rattle.std.specs.Prelude.{string_bytes}
use Rattle.hags_words.specs.Flags.{flag_from, flag_of}
use Rattle.hags_words.specs.Splits.{split_seen}
use Rattle.hags_words.proofs.FlagLaws.{flag_goes, flag_fails, flag_ends}
use Rattle.hags_words.proofs.flags.take_flags.Goals as goal

pub loop-word-init : goal.loop-word-init
unfolding flag_of
loop-word-init c = ap₂ (λ fs ws. flag_from (record { flags = fs; waiting = false; ended = false; left = map string_bytes ws }) (map string_bytes c.args.words.now)) c.none.ensures c.new.ensures.items

pub returns-then-not-branch : goal.returns-then-not-branch
returns-then-not-branch c =
    flag_fails string_bytes (split_seen c.loop-word.split) c.args.words.now c.loop-word.word-index _ c.loop-word.invariant (split_seen c.take.new.self) c.word-item.result c.in_ok-take.field-0 c.loop-word-test.true c.word-item.is c.if-not-branch.true c.in_ok-take.ensures

pub loop-word-preserved : goal.loop-word-preserved
loop-word-preserved c =
    flag_goes string_bytes (split_seen c.loop-word.split) c.args.words.now c.loop-word.word-index _ c.loop-word.invariant (split_seen c.take.new.self) c.word-item.result c.in_ok-take.field-0 c.loop-word-test.true c.word-item.is c.if-not-branch.false c.in_ok-take.ensures

pub returns : goal.returns
returns c = flag_ends string_bytes (split_seen c.loop-word.split) c.args.words.now c.loop-word.word-index _ c.loop-word.invariant c.loop-word-test.false
