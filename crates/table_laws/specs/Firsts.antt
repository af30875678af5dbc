-- Whose join found nobody in its group: such a provider has a whole copy from then on.
use Rattle.std.specs.Prelude.{◌≡◌, ◌&&◌, ◌||◌, Bool, true, false, not, List, [], find, Some, if◌then◌else◌}
use Rattle.std.specs.List.{fold, list_all}
use Rattle.rsct_packet.specs.declared.ids.ProviderId.{ProviderId}
use Rattle.rsct_packet.specs.Providers.{among, same_provider}
use Rattle.rsct_packet.specs.Search.{Has}
use Rattle.proposal_core.specs.declared.entry.Entry.{Entry}
use Rattle.proposal_core.specs.declared.entry.Entry.TheVariants.{Once, Begin}
use Rattle.proposal_core.specs.declared.group_state.GroupState.{GroupState}
use Rattle.proposal_core.specs.Fold.{joins_of}
use Rattle.client_callbacks.specs.declared.told.Told.TheVariants as told
use Rattle.node_state.specs.declared.config.Config.{Config}
use Rattle.node_state.specs.declared.happened.Happened.{Happened}
use Rattle.node_state.specs.declared.happened.Happened.TheVariants.{Heard, Told, Noted}
use Rattle.node_state.specs.Handed.{Logged}
use Rattle.entry_delivery.specs.Received.{handed_by}
use Rattle.agreed_table.specs.Pairs.{Pairs}
use Rattle.table_client.specs.Rules.{Copied, is_copy, copies_after, ByRules}
use Rattle.table_client.specs.Apart.{dissolves}
use Rattle.table_client.specs.Following.{begins_own}
use Rattle.world_model.specs.World.{world_new}
use Rattle.world_laws.specs.world_answers.Answers.{Answered, events_in}
use Rattle.world_safety.specs.Events.{AllMayHappen}
use Rattle.run_hands.specs.Hands.{ClientLogs, Logs, RunHands, empty_logs}

-- who joins by an entry that begins a join
abbrev pub joiners_by : Entry → List ProviderId
joiners_by (Once x) = joins_of x
joiners_by (Begin x) = joins_of x
joiners_by _ = []

-- The provider's join begins with the entry, and finds nobody: in the state behind it whoever is a member joins by that entry.
abbrev pub finds_nobody : ProviderId → Entry → GroupState → Bool
finds_nobody p e after = begins_own p e && list_all (among (joiners_by e)) after.members

-- whether the provider's join found nobody, and it was not told since that it is dissolved
abbrev pub first_after : ProviderId → Happened → GroupState → Bool → Bool
first_after p (Heard q v g i e members value) after old = if same_provider q p then old || finds_nobody p e after else old
first_after p (Told q r why) after old = old && not (dissolves p (told.Refused q r why))
first_after p (Noted n client v i t) after old = old && not (dissolves p t)
first_after p _ after old = old

-- as a log tells it, one record after another
abbrev pub joined_first : ProviderId → List Logged → Bool
joined_first p log = fold (λ (old : Bool) (l : Logged). first_after p l.what l.after old) false log

-- a log tells a whole copy of the provider
abbrev pub HasWholeCopy : ProviderId → List Logged → Type 0
HasWholeCopy p log = (c : Copied) × (m : Pairs) × (find (is_copy p) (copies_after (handed_by log)) ≡ Some c) × (c.map ≡ Some m)

abbrev pub FirstsAreWhole : Logs → Type 0
FirstsAreWhole logs = (p : ProviderId) (x : ClientLogs) (log : List Logged) → Has x logs → Has log x.logs → joined_first p log ≡ true → HasWholeCopy p log

-- Where all clients are table clients: after each run of events that may happen, of clients that are gone later, too.
abbrev pub FirstJoinersAreWhole : Type 0
FirstJoinersAreWhole =
    (c : Config) (es : List Answered) (logs : Logs) → AllMayHappen c (events_in es) → RunHands ByRules (world_new c) es (empty_logs (world_new c)) logs → FirstsAreWhole logs
