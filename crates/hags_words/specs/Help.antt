-- What `--help` says.
use Rattle.std.specs.Prelude.{ℕ, List, Option, Some, None}
use Rattle.hags_words.specs.declared.command.CommandName.{CommandName}
use Rattle.hags_words.specs.declared.command.CommandName.TheVariants as name
use Rattle.hags_words.specs.declared.help.TheConstants.{ALL, RUN, LOAD, DAEMON, STATUS, CLIENT, TABLE}

-- that of all commands, or of one
abbrev pub help_of : Option CommandName → List ℕ
help_of None = ALL.now
help_of (Some name.Run) = RUN.now
help_of (Some name.Load) = LOAD.now
help_of (Some name.Daemon) = DAEMON.now
help_of (Some name.Status) = STATUS.now
help_of (Some name.Client) = CLIENT.now
help_of (Some name.Table) = TABLE.now
