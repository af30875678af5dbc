use Rattle.std.proofs.Common.{map, sym, ◌∙◌}
use Rattle.std.specs.Prelude.{string_bytes}
use Rattle.clap.specs.Words.{found_of}
use Rattle.hags_words.proofs.OptionLaws.{texts_of_ok, no_texts, no_texts_of_short}
use Rattle.hags_words.proofs.options.read_options.Goals as goal

pub returns-then-has_short : goal.returns-then-has_short
returns-then-has_short c = no_texts_of_short (map string_bytes c.args.words.now) (sym c.has_short.ensures ∙ c.if-has_short.true)

pub returns-in-Ok : goal.returns-in-Ok
returns-in-Ok c =
    texts_of_ok (map string_bytes c.args.words.now) _ (found_of c.in-Ok.matches) c.in-Ok.ensures.ok c.in-Ok.ensures.values
    (record { operand = c.get_str.ensures; kinds = c.get_str-in-Ok.ensures; node = c.get_str-in-Ok-2.ensures; inc = c.get_str-in-Ok-3.ensures; turns = c.get_str-in-Ok-4.ensures; key = c.get_str-in-Ok-5.ensures; silence = c.get_str-in-Ok-6.ensures; mend = c.get_str-in-Ok-7.ensures; gap = c.get_str-in-Ok-8.ensures })

pub returns : goal.returns
returns c = no_texts (map string_bytes c.args.words.now) (c.in-Err.ensures.err (λ e. c.in_default.not-OutOfMemory (c.kind.ensures ∙ e)))

pub matches_of-requires : goal.matches_of-requires
matches_of-requires c = sym c.has_short.ensures ∙ c.if-has_short.false
