-- The command that the words of a command line spell.
use Rattle.std.specs.Prelude.{ℕ, Bool, true, false, not, ◌≤◌, IfSome, List, [], ◌∷◌, codes, Option, Some, None, is_some, ◌||◌, if◌then◌else◌, unwrap_or}
use Rattle.std.specs.Str.{bytes_eq}
use Rattle.rsct_packet.specs.Text.{is_name_of}
use Rattle.packet_bodies.specs.declared.body.What.TheVariants as what
use Rattle.hags_words.specs.Options.{◌>>=◌, given_of}
use Rattle.hags_words.specs.Flags.{Split, no_flags, flag_of}
use Rattle.hags_words.specs.declared.flags.Flags.{Flags}
use Rattle.hags_words.specs.Texts.{Texts, texts_in}
use Rattle.hags_words.specs.Numbers.{number_of, number_if_any}
use Rattle.hags_words.specs.declared.command.Command.{Command}
use Rattle.hags_words.specs.declared.command.DaemonOptions.{DaemonOptions}
use Rattle.hags_words.specs.declared.command.Command.TheVariants as command
use Rattle.hags_words.specs.declared.command.Subject.{Subject}
use Rattle.hags_words.specs.declared.command.Subject.TheVariants as subject
use Rattle.hags_words.specs.declared.command.CommandName.{CommandName}
use Rattle.hags_words.specs.declared.command.CommandName.TheVariants as name

abbrev pub last_u32 : ℕ
last_u32 = 4294967295

abbrev pub last_u64 : ℕ
last_u64 = 18446744073709551615

-- the word of a command
unfoldable pub name_of : List ℕ → Option CommandName
name_of word = if bytes_eq word (codes "run") then Some name.Run
    else (if bytes_eq word (codes "load") then Some name.Load
    else (if bytes_eq word (codes "daemon") then Some name.Daemon
    else (if bytes_eq word (codes "status") then Some name.Status
    else (if bytes_eq word (codes "client") then Some name.Client
    else (if bytes_eq word (codes "table") then Some name.Table else None)))))

-- what a status asks about
unfoldable pub subject_of : List ℕ → Option Subject
subject_of word = if bytes_eq word (codes "hats") then Some (subject.Node what.Hats)
    else (if bytes_eq word (codes "hagsns") then Some (subject.Node what.Hagsns)
    else (if bytes_eq word (codes "hagsgr") then Some (subject.Node what.Hagsgr)
    else (if bytes_eq word (codes "hagsvote") then Some (subject.Node what.Hagsvote)
    else (if bytes_eq word (codes "hagscl") then Some subject.Clients
    else (if bytes_eq word (codes "hagsd") then Some subject.Daemon else None)))))

-- an option of a daemon alone is given
abbrev pub has_own : Texts → Bool
has_own t = is_some t.of_silence || (is_some t.of_mend || is_some t.of_gap)

-- `run [--kinds LIST]`
unfoldable pub run_of : Texts → Option Command
run_of t = if is_some t.of_operand || (is_some t.of_node || (is_some t.of_inc || (is_some t.of_turns || (is_some t.of_key || has_own t)))) then None
    else Some (command.Run t.of_kinds)

-- `load N`
unfoldable pub load_of : Texts → Option Command
load_of t = if is_some t.of_kinds || (is_some t.of_node || (is_some t.of_inc || (is_some t.of_turns || (is_some t.of_key || has_own t)))) then None
    else (do
      text ← t.of_operand
      views ← number_of 1 2000 text
      Some (command.Load views))

-- how many turns a daemon does, by whether it is to last and what is told; both together are faulty
unfoldable pub turns_for : Bool → Option ℕ → Option ℕ
turns_for false told = Some (unwrap_or told last_u32)
turns_for true None = Some last_u64
turns_for true (Some told) = None

-- what a daemon is asked for; entries and silence are of a service of clients on other machines
unfoldable pub asked_with : Flags → Option ℕ → Option ℕ → Option ℕ → Option DaemonOptions
asked_with flags silence mend gap = if flags.remote || not (flags.entries || is_some silence)
    then Some (record { remote = flags.remote; entries = flags.entries; silence = silence; mend = mend; gap = gap }) else None

-- `daemon --node N [--inc I] [--turns T | --lasting] [--remote [--entries] [--silence S]] [--mend M] [--gap G]`
unfoldable pub daemon_of : Flags → Texts → Option Command
daemon_of flags t = if is_some t.of_operand || (is_some t.of_kinds || is_some t.of_key) then None
    else (do
      text ← t.of_node
      node ← number_of 1 32 text
      incarnation ← number_if_any 1 last_u32 t.of_inc
      told ← number_if_any 1 last_u32 t.of_turns
      turns ← turns_for flags.lasting told
      silence ← number_if_any 10 1000000 t.of_silence
      mend ← number_if_any 10 10000 t.of_mend
      gap ← number_if_any 100 3600000 t.of_gap
      options ← asked_with flags silence mend gap
      Some (command.Daemon node incarnation turns options))

-- `status WHAT --node N [--turns T]`
unfoldable pub status_of : Texts → Option Command
status_of t = if has_own t || (is_some t.of_kinds || (is_some t.of_inc || is_some t.of_key)) then None
    else (do
      word ← t.of_operand
      about ← subject_of word
      text ← t.of_node
      node ← number_of 1 32 text
      turns ← number_if_any 1 last_u32 t.of_turns
      Some (command.Status about node (unwrap_or turns 1000)))

-- `client --node N [--turns T] [--key K]`
unfoldable pub client_of : Texts → Option Command
client_of t = if has_own t || (is_some t.of_operand || (is_some t.of_kinds || is_some t.of_inc)) then None
    else (do
      text ← t.of_node
      node ← number_of 1 32 text
      turns ← number_if_any 1 last_u32 t.of_turns
      key ← number_if_any 1 last_u32 t.of_key
      Some (command.Client node (unwrap_or turns 1000) key))

abbrev pub table_named : List ℕ → Option Command
table_named text = if is_name_of text then Some (command.Table text) else None

-- `table GROUP`
unfoldable pub table_of : Texts → Option Command
table_of t = if is_some t.of_kinds || (is_some t.of_node || (is_some t.of_inc || (is_some t.of_turns || (is_some t.of_key || has_own t)))) then None
    else (t.of_operand >>= table_named)

-- a daemon has its own words, since it alone has flags
unfoldable pub command_with : CommandName → Texts → Option Command
command_with name.Run t = run_of t
command_with name.Load t = load_of t
command_with name.Daemon t = daemon_of no_flags t
command_with name.Status t = status_of t
command_with name.Client t = client_of t
command_with name.Table t = table_of t

-- `--help` or `--version`, and nothing else
unfoldable pub help_or_version : Option CommandName → List (List ℕ) → Option Command
help_or_version about (word ∷ []) = if bytes_eq word (codes "--help") then Some (command.Help about)
    else (if bytes_eq word (codes "--version") then Some command.Version else None)
help_or_version about _ = None

abbrev pub or_else : {A : Type 0} → Option A → Option A → Option A
or_else (Some x) y = Some x
or_else None y = y

-- the words after `daemon`
abbrev pub daemon_split : Option Split → Option Command
daemon_split None = None
daemon_split (Some s) = given_of s.left >>= λ values. daemon_of s.flags (texts_in values)

unfoldable pub daemon_after : List (List ℕ) → Option Command
daemon_after words = daemon_split (flag_of words)

abbrev pub options_after : CommandName → List (List ℕ) → Option Command
options_after name.Daemon words = daemon_after words
options_after n words = given_of words >>= λ values. command_with n (texts_in values)

-- the words after that of a command
unfoldable pub command_after : CommandName → List (List ℕ) → Option Command
command_after n words = or_else (help_or_version (Some n) words) (options_after n words)

abbrev pub command_named : Option CommandName → List ℕ → List (List ℕ) → Option Command
command_named (Some n) word words = command_after n words
command_named None word words = help_or_version None (word ∷ words)

-- the command, or none where the words are of no command: usage
unfoldable pub command_of : List (List ℕ) → Option Command
command_of [] = None
command_of (word ∷ words) = command_named (name_of word) word words

-- so are those of its options
abbrev pub AreWithin : DaemonOptions → Type 0
AreWithin o = IfSome o.silence (λ n. 10 ≤ n) × IfSome o.mend (λ n. 10 ≤ n) × IfSome o.gap (λ n. 100 ≤ n)

-- its numbers are within their ranges
abbrev pub IsWithin : Command → Type 0
IsWithin (command.Load views) = (1 ≤ views) × (views ≤ 2000)
IsWithin (command.Daemon node incarnation turns options) = (1 ≤ node) × (node ≤ 32) × IfSome incarnation (λ i. 1 ≤ i) × (1 ≤ turns) × AreWithin options
IsWithin (command.Status about node turns) = (1 ≤ node) × (node ≤ 32) × (1 ≤ turns)
IsWithin (command.Client node turns key) = (1 ≤ node) × (node ≤ 32) × (1 ≤ turns) × IfSome key (λ k. 1 ≤ k)
IsWithin _ = Unit {0}
