-- What a play leaves whose clients keep tables, and the lines of their copies.
use Rattle.std.specs.Prelude.{◌≡◌, ℕ, ◌⊎◌, true, false, List, [], map, find, flat_map, Option, Some, None, IfSome, Result, Ok, Err}
use Rattle.std.specs.Io.KnownBytes.{Appends, Keeps, IsAtEnd}
use Rattle.hags_io.specs.Edges.{GrowsByFront}
use Rattle.rsct_packet.specs.Search.{Has}
use Rattle.node_state.specs.declared.happened.Happened.{Happened}
use Rattle.world_model.specs.declared.script.Script.{Script}
use Rattle.world_model.specs.Reading.{IsScript, IsNone, script_of}
use Rattle.world_model.specs.Kept.{most_kept}
use Rattle.world_model.specs.World.{world_new}
use Rattle.world_laws.specs.world_answers.Answers.{answered_after}
use Rattle.world_laws.specs.world_answers.Plays.{AnsweredPlay, starting, PlaysLines}
use Rattle.world_laws.specs.world_answers.Limits.{answered_in, limited}
use Rattle.session_clients.specs.Clients.{client_named}
use Rattle.node_core.specs.Node.{NodeView, sessions_in}
use Rattle.net_script.specs.declared.world.World.{World}
use Rattle.net_script.specs.Standing.{is_me, number_in, Stands}
use Rattle.net_script.specs.Ends.{ClientsStand, records_in}
use Rattle.net_script.specs.Safe.{IsSafe}
use Rattle.agreed_table.specs.Pairs.{Pairs}
use Rattle.table_client.specs.Rules.{Copied, ByRules}
use Rattle.table_laws.specs.Agreeing.{CopyAgrees}
use Rattle.table_laws.specs.Firsts.{FirstsAreWhole}
use Rattle.table_lines.specs.Lines.{copies_text}
use Rattle.table_lines.specs.Names.{names_of}
use Rattle.link_use.specs.declared.stop.Stop.TheVariants as stop
use Rattle.hags_cli.specs.declared.ending.Ending.{Ending}
use Rattle.hags_cli.specs.declared.ending.Ending.TheVariants as ending

-- ---- the lines

-- of a client, where there is one
abbrev pub client_text : List ℕ → Option (List Copied) → List ℕ
client_text g None = []
client_text g (Some copies) = copies_text g copies

abbrev pub named_text : List ℕ → NodeView (List Copied) → List ℕ → List ℕ
named_text g n name = client_text g (client_named (sessions_in n) name)

-- of the clients of a node, in the order of their names
unfoldable pub node_text : List ℕ → Option (NodeView (List Copied)) → List ℕ
node_text g None = []
node_text g (Some n) = flat_map (named_text g n) (names_of n.core.sessions.sessions)

-- of a world: node after node, as their numbers ascend
unfoldable pub tables_text : List ℕ → World (List Copied) → List ℕ
tables_text g w = flat_map (λ k. node_text g (find (is_me k) w.nodes)) (map number_in w.nodes)

-- ---- the play

-- a copy that some client of the world keeps
abbrev pub IsCopyOf : World (List Copied) → Copied → Type 0
IsCopyOf w c = (n : NodeView (List Copied)) × Has n w.nodes × (copies : List Copied) × Has copies n.clients × Has c copies

-- each that is whole has the map of its group's list, at its view and length
abbrev pub WorldAgrees : List Happened → World (List Copied) → Type 0
WorldAgrees rs w = (c : Copied) → IsCopyOf w c → CopyAgrees rs c

-- so two whole copies of one group at one view and length have equal maps, of whichever clients of whichever nodes
abbrev pub WholeAreEqual : World (List Copied) → Type 0
WholeAreEqual w =
    (a b : Copied) (m k : Pairs) → IsCopyOf w a → IsCopyOf w b → a.group ≡ b.group → a.view ≡ b.view → a.len ≡ b.len → a.map ≡ Some m → b.map ≡ Some k → m ≡ k

-- The script was played with clients that keep tables, and its packets were within the limit: with what these answered its lines
-- come to this play, which is safe, and this is its world. Each of its clients stands for what the run handed to it, and has
-- filled its ballots by the rules of tables; their copies agree, and whose join found nobody has a whole one.
pub record TablesPlayed (s : Script) (w : World (List Copied)) : Type 0 where
  pub play : AnsweredPlay
  pub lines : PlaysLines (λ items. None) (starting s.config) s.lines play
  pub within : (limited most_kept s.config play).passed ≡ None
  pub stands : Stands (λ c. None) (λ items. None) w play.world
  pub hands : ClientsStand ByRules (Ok w) s.config play
  pub safe : IsSafe s.config (answered_in play) (records_in play)
  pub agree : WorldAgrees (answered_after s.config (answered_in play)).trace w
  pub equal : WholeAreEqual w
  pub firsts : FirstsAreWhole hands.0

-- or the script has no `begin` line, and this is the world with which its run would begin
abbrev pub TablesEnd : Script → World (List Copied) → Type 0
TablesEnd s w = (s.begun ≡ true → TablesPlayed s w) × (s.begun ≡ false → Stands (λ c. None) (λ items. None) w (world_new s.config))

-- ---- what is left

-- the input is a script, and the lines of the copies of the group at its end were written
pub record PlaysTables (g : List ℕ) (old new : Option (List ℕ)) (b : List ℕ) : Type 0 where
  pub script : Script
  pub spelled : script_of b ≡ IsScript script
  pub world : World (List Copied)
  pub ended : TablesEnd script world
  pub written : Appends old new (tables_text g world)

-- and a front of those lines was
pub record TablesFront (g : List ℕ) (old new : Option (List ℕ)) (b : List ℕ) : Type 0 where
  pub script : Script
  pub spelled : script_of b ≡ IsScript script
  pub world : World (List Copied)
  pub ended : TablesEnd script world
  pub written : GrowsByFront old new (tables_text g world)

-- the input is a script, with what its clients answered its packets pass the limit, and nothing was written
pub record TablesPast (old new : Option (List ℕ)) (b : List ℕ) : Type 0 where
  pub script : Script
  pub spelled : script_of b ≡ IsScript script
  pub play : AnsweredPlay
  pub lines : PlaysLines (λ items. None) (starting script.config) script.lines play
  pub sum : ℕ
  pub past : (limited most_kept script.config play).passed ≡ Some sum
  pub kept : Keeps old new

-- nothing was written, or a front of the lines
abbrev pub MayHaveTables : List ℕ → Option (List ℕ) → Option (List ℕ) → List ℕ → Type 0
MayHaveTables g old new b = Keeps old new ⊎ TablesFront g old new b

-- What is left of the input and the output, by how it ends: where it failed to read or to write, this holds of the faults; and
-- where it did not begin to play, this, of the output as a whole.
abbrev pub TablesEnds : Result (Unit {0}) Ending → List ℕ → (left rest : Option (List ℕ)) → (read_failed write_failed still : Type 0) → (old new : Option (List ℕ)) → Type 0
TablesEnds (Ok u) g left rest read_failed write_failed still old new = IfSome left (PlaysTables g old new) × IsAtEnd rest
TablesEnds (Err (ending.BadLine n why)) g left rest read_failed write_failed still old new = IfSome left (λ b. script_of b ≡ IsNone n why) × still
TablesEnds (Err (ending.Stop stop.NoMemory)) g left rest read_failed write_failed still old new = IfSome left (MayHaveTables g old new)
TablesEnds (Err ending.ReadFault) g left rest read_failed write_failed still old new = read_failed × still
TablesEnds (Err (ending.Stop stop.WriteFault)) g left rest read_failed write_failed still old new = write_failed × IfSome left (MayHaveTables g old new)
TablesEnds (Err ending.TooMuchKept) g left rest read_failed write_failed still old new = IfSome left (TablesPast old new)
TablesEnds (Err e) g left rest read_failed write_failed still old new = ⊥
