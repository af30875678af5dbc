-- How a client that runs follows the definitions, turn by turn.
use Rattle.std.specs.Prelude.{◌≡◌, ℕ, ◌<◌, ◌≤◌, List, [], ◌∷◌, ◌++◌, length, Some}
use Rattle.hags_io.specs.declared.link.LinkCall.{LinkCall}
use Rattle.hags_io.specs.Deeds.{Exchanged}
use Rattle.hags_io.specs.Telling.{Telling}
use Rattle.hags_io.specs.Fronts.{Went, WentFront, written}
use Rattle.remote_session.specs.declared.far.DownSeen.{DownSeen}
use Rattle.remote_session.specs.declared.far.DownSeen.TheVariants as seen
use Rattle.remote_session.specs.Messages.{max_line}
use Rattle.daemon_model.specs.Lives.{most_failed}
use Rattle.link_use.specs.Receiving.{IsReceive}
use Rattle.link_use.specs.declared.stop.Stop.{Stop}
use Rattle.link_use.specs.declared.stop.Stop.TheVariants as stop
use Rattle.link_use.specs.Stops.{StopsBy}
use Rattle.client_run.specs.declared.client.Client.{Client}
use Rattle.client_run.specs.Turns.{text_in, heard_in, seen_in, text_by, heard_by, seen_by, turned, turn_deeds, turn_seen, turned_all, all_deeds}

-- a line that can be a call
abbrev pub IsCall : List ℕ → Type 0
IsCall line = (1 ≤ length line) × (length line ≤ max_line)

-- the session goes on
abbrev pub Stays : DownSeen → Type 0
Stays (seen.Lost first now) = ⊥
Stays seen.Full = ⊥
Stays _ = Unit {0}

abbrev pub IsLost : DownSeen → Type 0
IsLost (seen.Lost first now) = Unit {0}
IsLost _ = ⊥

abbrev pub IsFull : DownSeen → Type 0
IsFull seen.Full = Unit {0}
IsFull _ = ⊥

-- how a turn ends a client: a step over the outside stopped, or the session is over
abbrev pub EndsTurn : Telling → Stop → Type 0
EndsTurn t stop.NoMemory = StopsBy t stop.NoMemory
EndsTurn t stop.WriteFault = StopsBy t stop.WriteFault
EndsTurn t stop.LinkFault = StopsBy t stop.LinkFault
EndsTurn t stop.NoReply = ⊥
EndsTurn t stop.SessionLost = Unit {0}
EndsTurn t stop.DaemonFull = Unit {0}
EndsTurn t stop.Paused = ⊥

-- ---- a message

-- it was heard, and what it brings is written
pub record Hears (r s : Client) (message : List ℕ) (old new : Telling) : Type 0 where
  pub is : s ≡ heard_in r (Some message)
  pub went : Went old new (written (text_in r (Some message)))
  pub stays : Stays (seen_in r (Some message))

-- it ended the session, in a way that P says, and nothing is written of it
pub record Ends (P : DownSeen → Type 0) (r : Client) (message : List ℕ) (old new : Telling) : Type 0 where
  pub ended : P (seen_in r (Some message))
  pub went : Went old new (written (text_in r (Some message)))

-- ---- a receive, and a turn

pub record ReceivesAs (r s : Client) (old new : Telling) : Type 0 where
  pub got : LinkCall
  pub receive : IsReceive got
  pub went : Went old new (Exchanged got ∷ written (text_by got r))
  pub is : s ≡ heard_by got r
  pub stays : Stays (seen_by got r)

pub record ReceiveEnds (P : DownSeen → Type 0) (r : Client) (old new : Telling) : Type 0 where
  pub got : LinkCall
  pub receive : IsReceive got
  pub went : Went old new (Exchanged got ∷ written (text_by got r))
  pub ended : P (seen_by got r)

-- a front of it was done
pub record ReceiveFront (r : Client) (old new : Telling) : Type 0 where
  pub got : LinkCall
  pub receive : IsReceive got
  pub front : WentFront old new (Exchanged got ∷ written (text_by got r))

pub record TurnsAs (lines : List (List ℕ)) (r s : Client) (old new : Telling) : Type 0 where
  pub got : LinkCall
  pub receive : IsReceive got
  pub went : Went old new (turn_deeds lines r got)
  pub is : s ≡ turned lines r got
  pub stays : Stays (turn_seen lines r got)

pub record TurnEnds (P : DownSeen → Type 0) (lines : List (List ℕ)) (r : Client) (old new : Telling) : Type 0 where
  pub got : LinkCall
  pub receive : IsReceive got
  pub went : Went old new (turn_deeds lines r got)
  pub ended : P (turn_seen lines r got)

pub record TurnFront (lines : List (List ℕ)) (r : Client) (old new : Telling) : Type 0 where
  pub got : LinkCall
  pub receive : IsReceive got
  pub front : WentFront old new (turn_deeds lines r got)

-- ---- turns

-- all are receives; after none of them the session is over, or so many receives in a row have failed
abbrev pub GoesOn : List (List ℕ) → Client → List LinkCall → Type 0
GoesOn lines c [] = Unit {0}
GoesOn lines c (got ∷ gots) =
    IsReceive got × Stays (turn_seen lines c got) × ((turned lines c got).receiving.failed < most_failed) × GoesOn lines (turned lines c got) gots

-- so many turns, and the client goes on
pub record Done (lines : List (List ℕ)) (c s : Client) (count : ℕ) (old new : Telling) : Type 0 where
  pub gots : List LinkCall
  pub so_many : length gots ≡ count
  pub went : Went old new (all_deeds lines c gots)
  pub goes : GoesOn lines c gots
  pub is : s ≡ turned_all lines c gots

-- so many turns, and each line is a call with its answer
pub record Answered (lines : List (List ℕ)) (c : Client) (turns : ℕ) (old new : Telling) : Type 0 where
  pub gots : List LinkCall
  pub so_many : length gots ≡ turns
  pub went : Went old new (all_deeds lines c gots)
  pub goes : GoesOn lines c gots
  pub answered : length lines ≤ (turned_all lines c gots).answered

-- so many turns, and some line has no answer
pub record Unanswered (lines : List (List ℕ)) (c : Client) (turns : ℕ) (old new : Telling) : Type 0 where
  pub gots : List LinkCall
  pub so_many : length gots ≡ turns
  pub went : Went old new (all_deeds lines c gots)
  pub goes : GoesOn lines c gots
  pub unanswered : (turned_all lines c gots).answered < length lines

-- the last of at most so many turns ended the session, in a way that P says
pub record Ended (P : DownSeen → Type 0) (lines : List (List ℕ)) (c : Client) (turns : ℕ) (old new : Telling) : Type 0 where
  pub before : List LinkCall
  pub last : LinkCall
  pub at_most : length before < turns
  pub went : Went old new (all_deeds lines c (before ++ last ∷ []))
  pub goes : GoesOn lines c before
  pub receive : IsReceive last
  pub ended : P (turn_seen lines (turned_all lines c before) last)

-- the receive of the last of at most so many turns was the sixteenth in a row that failed
pub record Failing (lines : List (List ℕ)) (c : Client) (turns : ℕ) (old new : Telling) : Type 0 where
  pub before : List LinkCall
  pub last : LinkCall
  pub at_most : length before < turns
  pub went : Went old new (all_deeds lines c (before ++ last ∷ []))
  pub goes : GoesOn lines c before
  pub receive : IsReceive last
  pub failed : most_failed ≤ (turned lines (turned_all lines c before) last).receiving.failed

-- at most so many turns, of which a front was done
pub record Front (lines : List (List ℕ)) (c : Client) (turns : ℕ) (old new : Telling) : Type 0 where
  pub gots : List LinkCall
  pub at_most : length gots ≤ turns
  pub front : WentFront old new (all_deeds lines c gots)
