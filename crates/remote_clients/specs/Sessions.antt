-- A daemon's end of all remote sessions, with their clients.
use Rattle.std.specs.Prelude.{ℕ, Bool, true, false, List, fold, Option, Some, None}
use Rattle.std.specs.List.{list_any}
use Rattle.node_state.specs.declared.call.CallLine.{CallLine}
use Rattle.node_state.specs.declared.happened.Happened.{Happened}
use Rattle.node_state.specs.declared.happened.Happened.TheVariants as happened
use Rattle.world_model.specs.Text.{record_text}
use Rattle.script_reader.specs.CallLines.{call_of}
use Rattle.remote_session.specs.Daemon.{RemoteState, remote_new, event_added, done_told}
use Rattle.remote_clients.specs.declared.sessions.Sessions.{Sessions}
use Rattle.remote_clients.specs.Clients.{ClientsState, no_clients, hearer_of, with_record, with_call, admits}

-- of a daemon in this incarnation, before any Up
unfoldable pub sessions_new : ℕ → Sessions
sessions_new incarnation = record { remote = remote_new incarnation; clients = no_clients }

-- ---- records

abbrev pub event_for : Option ℕ → Happened → RemoteState → RemoteState
event_for None r remote = remote
event_for (Some key) r remote = event_added key (record_text r) remote

-- a record comes, of a step that was a call of this key, or of none: its line goes to who is to hear it
unfoldable pub noted : Option ℕ → Sessions → Happened → Sessions
noted calling s r =
    let c : ClientsState = with_record calling r s.clients in
    record { remote = event_for (hearer_of c calling r) r s.remote; clients = c }

-- the records of a step come, in their order
unfoldable pub noted_all : Option ℕ → List Happened → Sessions → Sessions
noted_all calling rs s = fold (noted calling) s rs

-- ---- calls

abbrev pub call_if : Bool → CallLine → Option CallLine
call_if true a = Some a
call_if false a = None

abbrev pub call_as : Sessions → ℕ → ℕ → Option CallLine → Option CallLine
call_as s me key None = None
call_as s me key (Some a) = call_if (admits s.clients me key a) a

-- the call of the node that a key's line is; none where it is refused without a step
unfoldable pub call_for : Sessions → ℕ → ℕ → List ℕ → Option CallLine
call_for s me key line = call_as s me key (call_of line)

-- a call was refused in the step that recorded this
abbrev pub refuses : Happened → Bool
refuses (happened.Refused node client fault) = true
refuses _ = false

unfoldable pub is_refused : List Happened → Bool
is_refused rs = list_any refuses rs

abbrev pub clients_after : Bool → ℕ → CallLine → ClientsState → ClientsState
clients_after true key a c = with_call key a c
clients_after false key a c = c

-- a call of the key was a step, in which it was taken or refused
unfoldable pub finished : ℕ → CallLine → Bool → Sessions → Sessions
finished key a taken s = record { remote = done_told key taken s.remote; clients = clients_after taken key a s.clients }

-- a line of the key is refused without a step
unfoldable pub turned_down : ℕ → Sessions → Sessions
turned_down key s = record s { remote = done_told key false s.remote }

-- opens each word of this file, for a computation
unfoldable pub sessions_opens : Unit {0}
unfolding sessions_new noted noted_all call_for is_refused finished turned_down
sessions_opens = tt
