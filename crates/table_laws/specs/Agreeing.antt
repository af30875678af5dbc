-- That all copies of a table agree: each whole one has the map of its group's list, at its view and length.
use Rattle.std.specs.Prelude.{◌≡◌, ◌++◌, List, find, Some, IfSome}
use Rattle.rsct_packet.specs.declared.ids.ProviderId.{ProviderId}
use Rattle.rsct_packet.specs.Search.{Has}
use Rattle.node_state.specs.declared.config.Config.{Config}
use Rattle.node_state.specs.declared.happened.Happened.{Happened}
use Rattle.node_state.specs.Handed.{Logged}
use Rattle.entry_delivery.specs.Received.{handed_by}
use Rattle.agreed_table.specs.Pairs.{Pairs}
use Rattle.table_client.specs.Rules.{Copied, is_copy, copies_after, ByRules}
use Rattle.world_model.specs.World.{world_new}
use Rattle.world_laws.specs.world_answers.Answers.{Answered, events_in, answered_after}
use Rattle.world_safety.specs.Events.{AllMayHappen}
use Rattle.run_hands.specs.Hands.{ClientLogs, Logs, RunHands, empty_logs}
use Rattle.table_laws.specs.Maps.{MapIs}

-- a copy that is whole has the map of its group's list, at its view and length
abbrev pub CopyAgrees : List Happened → Copied → Type 0
CopyAgrees rs c = IfSome c.map (MapIs rs c.group c.view c.len)

-- the copy of a provider, as a log tells it
abbrev pub IsCopyIn : Logs → ProviderId → Copied → Type 0
IsCopyIn logs p c = (x : ClientLogs) × Has x logs × (log : List Logged) × Has log x.logs × (find (is_copy p) (copies_after (handed_by log)) ≡ Some c)

abbrev pub CopiesAgree : List Happened → Logs → Type 0
CopiesAgree rs logs = (p : ProviderId) (c : Copied) → IsCopyIn logs p c → CopyAgrees rs c

-- Where all clients are table clients: of a run of events that may happen, every copy agrees with the lists of the whole run at each
-- of its moments, that is after each front of its events.
abbrev pub TablesAgree : Type 0
TablesAgree =
    (c : Config) (all es fs : List Answered) (logs : Logs) → AllMayHappen c (events_in all) → all ≡ es ++ fs → RunHands ByRules (world_new c) es (empty_logs (world_new c)) logs → CopiesAgree (answered_after c all).trace logs

-- the copy of a provider, as a log tells it at some moment of the run
abbrev pub IsCopyAlong : Config → List Answered → ProviderId → Copied → Type 0
IsCopyAlong c all p x =
    (es : List Answered) × (fs : List Answered) × (all ≡ es ++ fs) × (logs : Logs) × RunHands ByRules (world_new c) es (empty_logs (world_new c)) logs × IsCopyIn logs p x

-- So two whole copies of one group with the same view and length have equal maps, of whichever clients of whichever nodes, at whichever
-- moments of the run.
abbrev pub WholeCopiesAreEqual : Type 0
WholeCopiesAreEqual =
    (c : Config) (all : List Answered) → AllMayHappen c (events_in all) → (p q : ProviderId) (a b : Copied) (m k : Pairs) → IsCopyAlong c all p a → IsCopyAlong c all q b
    → a.group ≡ b.group → a.view ≡ b.view → a.len ≡ b.len → a.map ≡ Some m → b.map ≡ Some k → m ≡ k
