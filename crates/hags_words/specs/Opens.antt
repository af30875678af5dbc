-- Opens each word by which a command line is read, for computations.
use Rattle.hags_words.specs.Options.{given_from, given_of}
use Rattle.hags_words.specs.Flags.{flag_named, waits, after_flag, flag_from, flag_of}
use Rattle.hags_words.specs.Numbers.{number_of, number_if_any}
use Rattle.hags_words.specs.Commands.{name_of, subject_of, run_of, load_of, turns_for, asked_with, daemon_of, status_of, client_of, table_of, command_with, help_or_version, daemon_after, command_after, command_of}

unfoldable pub words_open : Unit {0}
unfolding given_from given_of flag_named waits after_flag flag_from flag_of number_of number_if_any name_of subject_of run_of load_of turns_for asked_with daemon_of status_of client_of table_of command_with help_or_version daemon_after command_after command_of
words_open = tt
