-- The client's end of a session.
use Rattle.std.specs.Prelude.{ℕ, ◌+◌, Bool, true, false, ◌&&◌, ◌==◌, nat_lt, List, [], ◌∷◌, ◌++◌, length, Option, Some, None, is_some, is_none, unwrap_or, if◌then◌else◌}
use Rattle.rsct_packet.specs.Ids.{last_u32}
use Rattle.remote_session.specs.declared.messages.Answer.{Answer}
use Rattle.remote_session.specs.declared.messages.Answer.TheVariants.{Taken, Full}
use Rattle.remote_session.specs.declared.far.DownSeen.{DownSeen}
use Rattle.remote_session.specs.declared.far.DownSeen.TheVariants as seen
use Rattle.remote_session.specs.Messages.{UpIn, DownIn, down_of}

-- the key; the number of the last call, and its line while it has no answer; the daemon's incarnation in the first
-- Down; and all events that were heard
pub record FarState : Type 0 where
  pub key : ℕ
  pub number : ℕ
  pub calling : Option (List ℕ)
  pub incarnation : Option ℕ
  pub heard : List (List ℕ)

unfoldable pub far_new : ℕ → FarState
far_new key = record { key = key; number = 0; calling = None; incarnation = None; heard = [] }

-- the last call has its answer, and there is a next number
unfoldable pub may_call : FarState → Bool
may_call f = is_none f.calling && nat_lt f.number last_u32

unfoldable pub far_called : List ℕ → FarState → FarState
far_called line f = if may_call f then record f { number = f.number + 1; calling = Some line } else f

unfoldable pub up_from : FarState → UpIn
up_from f = record { key = f.key; number = f.number; ack = length f.heard; line = unwrap_or f.calling [] }

-- an event is heard where its number is the next
abbrev pub heard_next : List (List ℕ) → ℕ → List ℕ → List (List ℕ)
heard_next heard number line = if (number == length heard + 1) && nat_lt (length heard) last_u32 then heard ++ line ∷ [] else heard

-- with these events, of which the first has this number
unfoldable pub heard_with : List (List ℕ) → ℕ → List (List ℕ) → List (List ℕ)
heard_with heard number [] = heard
heard_with heard number (line ∷ lines) = heard_with (heard_next heard number line) (number + 1) lines

-- the Down answers the call that waits for its answer
unfoldable pub is_answered : FarState → DownIn → Bool
is_answered f d = is_some f.calling && (d.done == f.number)

abbrev pub is_full : Answer → Bool
is_full Full = true
is_full _ = false

abbrev pub is_taken : Answer → Bool
is_taken Taken = true
is_taken _ = false

-- a Down of this key
unfoldable pub own_down : ℕ → Option DownIn → Option DownIn
own_down key None = None
own_down key (Some d) = if d.key == key then Some d else None

-- the incarnation of the first Down, which is this one where there was none
abbrev pub first_incarnation : FarState → DownIn → ℕ
first_incarnation f d = unwrap_or f.incarnation d.incarnation

unfoldable pub far_seen_as : FarState → Option DownIn → DownSeen
far_seen_as f None = seen.NoMessage
far_seen_as f (Some d) =
    if first_incarnation f d == d.incarnation
    then (if is_full d.answer then seen.Full else if is_answered f d then seen.Answer (is_taken d.answer) else seen.Nothing)
    else seen.Lost (first_incarnation f d) d.incarnation

unfoldable pub far_seen : FarState → List ℕ → DownSeen
far_seen f bytes = far_seen_as f (own_down f.key (down_of bytes))

unfoldable pub far_heard : FarState → DownIn → FarState
far_heard f d =
    record f { calling = if is_answered f d then None else f.calling; incarnation = Some (first_incarnation f d); heard = heard_with f.heard d.first d.events }

unfoldable pub far_taken_as : FarState → Option DownIn → FarState
far_taken_as f None = f
far_taken_as f (Some d) =
    if first_incarnation f d == d.incarnation
    then (if is_full d.answer then record f { incarnation = Some (first_incarnation f d) } else far_heard f d)
    else f

unfoldable pub far_taken : FarState → List ℕ → FarState
far_taken f bytes = far_taken_as f (own_down f.key (down_of bytes))

-- opens each word of this file, for a computation
unfoldable pub client_opens : Unit {0}
unfolding far_new may_call far_called up_from heard_with is_answered own_down far_seen_as far_seen far_heard far_taken_as far_taken
client_opens = tt
