-- What was agreed on: the line of an entry, before the first hearing of it that goes to a key in a step.
use Rattle.std.specs.Prelude.{ℕ, Bool, true, false, ◌==◌, ◌&&◌, nat_eq, List, [], ◌∷◌, ◌++◌, fold, Option, Some, None, if◌then◌else◌}
use Rattle.std.specs.List.{list_any}
use Rattle.std.specs.Str.{bytes_eq}
use Rattle.rsct_packet.specs.declared.ids.ViewId.{ViewId}
use Rattle.rsct_packet.specs.Ids.{same_view}
use Rattle.node_state.specs.declared.happened.Happened.{Happened}
use Rattle.node_state.specs.declared.happened.Happened.TheVariants as happened
use Rattle.world_model.specs.Text.{record_text}
use Rattle.remote_session.specs.Daemon.{event_added}
use Rattle.remote_clients.specs.declared.sessions.Sessions.{Sessions}
use Rattle.remote_clients.specs.Clients.{ClientsState, hearer_of, with_record}
use Rattle.remote_clients.specs.Sessions.{noted_all}

-- ---- entries that are heard

abbrev pub is_heard_at : ViewId → List ℕ → ℕ → Happened → Bool
is_heard_at view group place (happened.Heard p v g i e members value) = (i == place) && same_view v view && bytes_eq g group
is_heard_at view group place _ = false

-- both are hearings of the entry at one place of a list
abbrev pub same_entry : Happened → Happened → Bool
same_entry (happened.Heard p view group place e members value) r = is_heard_at view group place r
same_entry _ r = false

-- the `put` record of an entry that is heard
abbrev pub put_of : Happened → Option Happened
put_of (happened.Heard p view group place e members value) = Some (happened.Put p.node view group place e)
put_of _ = None

-- ---- which keys have the line of an entry

-- So far in a step: the last hearing before which the line of its entry stands, and the keys that have that line.
pub record Showing : Type 0 where
  pub heard : Option Happened
  pub keys : List ℕ

abbrev pub nothing_shown : Showing
nothing_shown = record { heard = None; keys = [] }

-- another hearing of the entry that was heard last
abbrev pub goes_on : Option Happened → Happened → Bool
goes_on None r = false
goes_on (Some heard) r = same_entry heard r

-- the keys that have the line of the entry that is heard here
abbrev pub keys_with : Showing → Happened → List ℕ
keys_with s r = if goes_on s.heard r then s.keys else []

abbrev pub is_shown : Showing → ℕ → Happened → Bool
is_shown s key r = list_any (nat_eq key) (keys_with s r)

-- the key has it from now on
unfoldable pub shown_to : ℕ → Happened → Showing → Showing
shown_to key r s = record { heard = Some r; keys = keys_with s r ++ key ∷ [] }

-- the record whose line the key is to have before that of this one
unfoldable pub put_due : Showing → ℕ → Happened → Option Happened
put_due s key r = if is_shown s key r then None else put_of r

-- ---- the records of a step

pub record Noting : Type 0 where
  pub sessions : Sessions
  pub shown : Showing

abbrev pub event_noted : ℕ → Happened → Noting → Noting
event_noted key r n = record n { sessions = record n.sessions { remote = event_added key (record_text r) n.sessions.remote } }

abbrev pub put_noted : ℕ → Happened → Option Happened → Noting → Noting
put_noted key r None n = n
put_noted key r (Some put) n = record (event_noted key put n) { shown = shown_to key r n.shown }

-- its line goes to the key, and before it that of its entry where the key has not got it in this step
abbrev pub heard_by : Option ℕ → Happened → Noting → Noting
heard_by None r n = n
heard_by (Some key) r n = event_noted key r (put_noted key r (put_due n.shown key r) n)

-- a record comes, of a step that was a call of this key, or of none
unfoldable pub entry_noted : Option ℕ → Noting → Happened → Noting
entry_noted calling n r =
    let c : ClientsState = with_record calling r n.sessions.clients in
    heard_by (hearer_of c calling r) r (record n { sessions = record n.sessions { clients = c } })

abbrev pub noting_of : Sessions → Showing → Noting
noting_of s shown = record { sessions = s; shown = shown }

-- the records of a step come, with the lines of entries or without
unfoldable pub noted_with : Bool → Option ℕ → List Happened → Sessions → Sessions
noted_with true calling rs s = (fold (entry_noted calling) (noting_of s nothing_shown) rs).sessions
noted_with false calling rs s = noted_all calling rs s

-- opens each word of this file, for a computation
unfoldable pub entries_opens : Unit {0}
unfolding shown_to put_due entry_noted noted_with
entries_opens = tt
