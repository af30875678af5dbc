-- What clap is told of the words after a command: an operand and eight options, each with a value, and no help of its own.
use Rattle.std.specs.Prelude.{codes, Some, true}
use Rattle.clap.specs.Words.{App, Rule, Text, new_app, new_rule, with_rule}

abbrev pub option_rule : Text → Rule
option_rule id = record (new_rule id) { long = Some id }

-- no program's name among the words, and no help
abbrev pub bare_app : Text → App
bare_app name = let a : App = new_app name in record a { top = record a.top { no_binary_name = true; disable_help_flag = true } }

abbrev pub options_app : App
options_app =
    with_rule (with_rule (with_rule (with_rule (with_rule (with_rule (with_rule (with_rule (with_rule (bare_app (codes "hags")) (new_rule (codes "operand"))) (option_rule (codes "kinds"))) (option_rule (codes "node"))) (option_rule (codes "inc"))) (option_rule (codes "turns"))) (option_rule (codes "key"))) (option_rule (codes "silence"))) (option_rule (codes "mend"))) (option_rule (codes "gap"))
