-- Command lines for the worked examples.
use Rattle.std.specs.Prelude.{ℕ, Bool, true, false, List, ◌∷◌, codes, Option, Some, None}
use Rattle.hags_words.specs.declared.command.Command.{Command}
use Rattle.hags_words.specs.declared.command.DaemonOptions.{DaemonOptions}
use Rattle.hags_words.specs.Commands.{command_of}

-- a client of the daemon of node 3, with these words more
abbrev pub client_with : List (List ℕ) → Option Command
client_with words = command_of (codes "client" ∷ codes "--node" ∷ codes "3" ∷ words)

-- the daemon of node 3, with these words more
abbrev pub daemon_with : List (List ℕ) → Option Command
daemon_with words = command_of (codes "daemon" ∷ codes "--node=3" ∷ words)

-- the maps of a group, with these words
abbrev pub table_with : List (List ℕ) → Option Command
table_with words = command_of (codes "table" ∷ words)

-- a status of the daemon of node 3, with these words more
abbrev pub status_with : List (List ℕ) → Option Command
status_with words = command_of (codes "status" ∷ codes "--node=3" ∷ words)

-- a daemon that serves clients on other machines or not, and has no other option; and one that has all
abbrev pub asked_of : Bool → DaemonOptions
asked_of remote = record { remote = remote; entries = false; silence = None; mend = None; gap = None }

abbrev pub asked_all : ℕ → ℕ → ℕ → DaemonOptions
asked_all silence mend gap = record { remote = true; entries = true; silence = Some silence; mend = Some mend; gap = Some gap }
