use Rattle.std.proofs.Common.{◌≡◌, ℕ, ◌∙◌, true, false, arith}
use Rattle.hags_words.specs.Numbers.{is_number}
use Rattle.hags_words.proofs.NumberLaws.{number_of_ok, number_of_err, number_of_none}
use Rattle.hags_words.proofs.numbers.number.Goals as goal

pub returns-then-not-is_number-clause-value : goal.returns-then-not-is_number-clause-value
returns-then-not-is_number-clause-value c =
    let e : is_number c.args.text.now ≡ false = cc in
    number_of_none c.args.low c.args.high c.args.text.now e

pub returns-in-Ok-clause-value : goal.returns-in-Ok-clause-value
returns-in-Ok-clause-value c =
    let e : is_number c.args.text.now ≡ true = cc in
    c.in_range.ensures.value ∙ number_of_ok ℕ c.args.low c.args.high c.in-Ok.number c.args.text.now c.in-Ok.ensures.value.0 e

pub returns-in-Err-clause-value : goal.returns-in-Err-clause-value
returns-in-Err-clause-value c =
    let e : is_number c.args.text.now ≡ true = cc in
    number_of_err _ c.args.low c.args.high c.args.text.now c.in-Err.field-0 c.in-Err.ensures.value.0 e (omega arith)
