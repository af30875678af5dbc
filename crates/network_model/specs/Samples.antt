-- Small runs of networks, for worked examples: nodes 1 and 2.
use Rattle.std.specs.Prelude.{ℕ, ◌+◌, ◌==◌, false, List, [], ◌∷◌, codes, flat_map, slice_index_or, None, if◌then◌else◌}
use Rattle.hags_io.specs.declared.link.LinkCall.{LinkCall}
use Rattle.hags_io.specs.declared.link.LinkCall.TheVariants as call
use Rattle.node_state.specs.declared.config.Config.{Config}
use Rattle.daemon_model.specs.declared.options.RemoteService.TheVariants as remotes
use Rattle.daemon_model.specs.Sent.{Exchange}
use Rattle.daemon_model.specs.Daemon.{plain_service, serves_nobody, records_text}
use Rattle.daemon_model.specs.Actions.{Ticks, Hears}
use Rattle.daemon_model.specs.Samples.{settings_for, silent, up_piece}
use Rattle.network_model.specs.Network.{Act, Begins, Does, Ends, net_after}
use Rattle.network_model.specs.Executions.{TimedLife}

unfoldable pub pair : Config
pair = settings_for (1 ∷ 2 ∷ [])

-- a daemon reads the clock, and ticks where that is due; and it receives these bytes; nobody answers
abbrev pub ticks : ℕ → ℕ → Act
ticks n moment = Does n (Ticks moment silent)

abbrev pub hears : ℕ → List ℕ → Act
hears n bytes = Does n (Hears (call.Received 1 bytes) silent)

-- node 1 starts in incarnation 1, and 100 milliseconds later it ticks
unfoldable pub one_ticks : List Act
one_ticks = Begins 1 1 0 serves_nobody ∷ ticks 1 100 ∷ []

abbrev pub datagram_in : LinkCall → List (List ℕ)
datagram_in (call.Sent node network bytes out) = bytes ∷ []
datagram_in _ = []

-- the datagrams that were sent
unfoldable pub wire_after : List Act → List (List ℕ)
wire_after acts = flat_map (λ (x : Exchange). datagram_in x.call) (net_after pair acts).wire

-- what node 1 sent first
unfoldable pub first_piece : List ℕ
first_piece = slice_index_or (wire_after one_ticks) 0 []

-- then node 2 starts, and is given that piece, twice
unfoldable pub two_speak : List Act
two_speak = Begins 1 1 0 serves_nobody ∷ ticks 1 100 ∷ Begins 2 1 100 serves_nobody ∷ hears 2 first_piece ∷ hears 2 first_piece ∷ []

-- the daemon of node 1 ends, and starts again, skipping incarnation 2
unfoldable pub starts_again : List Act
starts_again = Begins 1 1 0 serves_nobody ∷ Ends 1 ∷ Begins 1 3 0 serves_nobody ∷ []

-- node 1 serves clients on other machines: one of key 7 begins, and makes a call that is refused
unfoldable pub one_serves : List Act
one_serves = Begins 1 1 0 (plain_service (remotes.On false)) ∷ hears 1 (up_piece 1 1 (codes "client 1 a -")) ∷ hears 1 (up_piece 2 2 (codes "leave a db 1")) ∷ []

-- what node 1 sent to that client first
unfoldable pub first_down : List ℕ
first_down = slice_index_or (wire_after one_serves) 0 []

-- then node 2 starts, and is given that by mistake
unfoldable pub client_served : List Act
client_served =
    Begins 1 1 0 (plain_service (remotes.On false)) ∷ hears 1 (up_piece 1 1 (codes "client 1 a -")) ∷ hears 1 (up_piece 2 2 (codes "leave a db 1")) ∷ Begins 2 1 0 serves_nobody ∷ hears 2 first_down ∷ []

-- ---- turns that cross

-- both nodes tick, and each is then given what the other's tick sent: no order of whole turns, each a tick and its receive,
-- has that
unfoldable pub both_tick : List Act
both_tick = Begins 1 1 0 serves_nobody ∷ Begins 2 1 0 serves_nobody ∷ ticks 1 100 ∷ ticks 2 100 ∷ []

unfoldable pub second_piece : List ℕ
second_piece = slice_index_or (wire_after both_tick) 1 []

unfoldable pub ticks_cross : List Act
ticks_cross = Begins 1 1 0 serves_nobody ∷ Begins 2 1 0 serves_nobody ∷ ticks 1 100 ∷ ticks 2 100 ∷ hears 1 second_piece ∷ hears 2 first_piece ∷ []

-- the same with times: node 1 begins at 0 and node 2 at 1, each ticks two later and receives two after that, and goes on
abbrev pub ticks_and_hears : ℕ → List ℕ → TimedLife ℕ
ticks_and_hears began bytes =
    record {
      incarnation = 1;
      service = serves_nobody;
      start = 0;
      began = began;
      actions = record { time = began + 2; what = Ticks 100 silent } ∷ record { time = began + 4; what = Hears (call.Received 1 bytes) silent } ∷ [];
      ended = None;
    }

unfoldable pub crossing : ℕ → List (TimedLife ℕ)
crossing n = if n == 1 then ticks_and_hears 0 second_piece ∷ [] else if n == 2 then ticks_and_hears 1 first_piece ∷ [] else []

-- what node 2 sends in its tick, where node 1 has not ticked, and what node 1 answers
unfoldable pub second_alone : List ℕ
second_alone = slice_index_or (wire_after (Begins 1 1 0 serves_nobody ∷ Begins 2 1 0 serves_nobody ∷ ticks 2 100 ∷ [])) 0 []

-- node 2 ticks, and node 1 answers what that tick sent
unfoldable pub one_answers : List Act
one_answers = Begins 1 1 0 serves_nobody ∷ Begins 2 1 0 serves_nobody ∷ ticks 2 100 ∷ hears 1 second_alone ∷ []

unfoldable pub answer_piece : List ℕ
answer_piece = slice_index_or (wire_after one_answers) 1 []

-- node 2 is given the answer in the turn of that tick
unfoldable pub answered_at_once : List Act
answered_at_once = Begins 1 1 0 serves_nobody ∷ Begins 2 1 0 serves_nobody ∷ ticks 2 100 ∷ hears 1 second_alone ∷ hears 2 answer_piece ∷ []

-- ---- what no network may do

-- node 2 is given what node 1 never sent
unfoldable pub never_sent : List Act
never_sent = Begins 1 1 0 serves_nobody ∷ Begins 2 1 0 serves_nobody ∷ hears 2 first_piece ∷ []

-- node 2 is given what node 1 sends later
unfoldable pub heard_before : List Act
heard_before = Begins 1 1 0 serves_nobody ∷ Begins 2 1 0 serves_nobody ∷ hears 2 first_piece ∷ ticks 1 100 ∷ []

-- node 1 is given what its own tick sends later
unfoldable pub own_before : List Act
own_before = Begins 1 1 0 serves_nobody ∷ hears 1 first_piece ∷ ticks 1 100 ∷ []

-- node 1 starts again in its old incarnation
unfoldable pub old_incarnation : List Act
old_incarnation = Begins 1 1 0 serves_nobody ∷ Ends 1 ∷ Begins 1 1 0 serves_nobody ∷ []

-- a second daemon of node 1 starts while the first is up
unfoldable pub two_at_once : List Act
two_at_once = Begins 1 1 0 serves_nobody ∷ Begins 1 2 0 serves_nobody ∷ []

-- the lines of what was recorded
unfoldable pub lines_after : List Act → List ℕ
lines_after acts = records_text (net_after pair acts).records

-- ---- what these networks record, line by line

abbrev pub starts_again_lines : List ℕ
starts_again_lines =
    codes "up 1 1\nring 1 1 1.1.1 1 1\nin 1 1.1.1 1.1\ndown 1\nup 1 2\nring 1 1 1.2.1 1 1\nin 1 1.1.2 1.2\ndown 1\nup 1 3\nring 1 1 1.3.1 1 1\nin 1 1.1.3 1.3\n"

abbrev pub two_speak_lines : List ℕ
two_speak_lines = codes "up 1 1\nring 1 1 1.1.1 1 1\nin 1 1.1.1 1.1\nup 2 1\nring 2 1 2.1.1 2 2\nin 2 1.2.1 2.1\n"

abbrev pub client_served_lines : List ℕ
client_served_lines =
    codes "up 1 1\nring 1 1 1.1.1 1 1\nin 1 1.1.1 1.1\nrefused 1.a BAD_MEMBER_TOKEN\nup 2 1\nring 2 1 2.1.1 2 2\nin 2 1.2.1 2.1\n"

abbrev pub old_incarnation_lines : List ℕ
old_incarnation_lines = codes "up 1 1\nring 1 1 1.1.1 1 1\nin 1 1.1.1 1.1\ndown 1\nup 1 1\nring 1 1 1.1.1 1 1\nin 1 1.1.1 1.1\n"

abbrev pub both_up_lines : List ℕ
both_up_lines = codes "up 1 1\nring 1 1 1.1.1 1 1\nin 1 1.1.1 1.1\nup 2 1\nring 2 1 2.1.1 2 2\nin 2 1.2.1 2.1\n"

-- opens each word of this file, for a computation
unfoldable pub samples_opens : Unit {0}
unfolding pair one_ticks wire_after first_piece two_speak both_tick second_piece ticks_cross crossing second_alone one_answers answer_piece answered_at_once heard_before own_before starts_again one_serves first_down client_served never_sent old_incarnation two_at_once lines_after
samples_opens = tt
