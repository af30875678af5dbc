-- What holds of each part of a world.
use Rattle.std.proofs.Common.{◌≡◌, ℕ, ◌+◌, ◌<◌, ◌≤◌, ◌⊎◌, Bool, true, false, List, [], length, take, drop, Option, Some, None, inl, inr}
use Rattle.std.specs.Prelude.{slice_get}
use Rattle.rsct_packet.specs.Fields.{IsU32, AreShort}
use Rattle.rsct_packet.specs.Format.{EachFits}
use Rattle.rsct_packet.specs.Search.{Has}
use Rattle.rsct_packet.specs.Ids.{last_u32}
use Rattle.remote_session.specs.declared.session.Session.{Session}
use Rattle.remote_session.specs.Messages.{max_line, UpIn, IsUp, up_text, DownIn, IsDown, down_text}
use Rattle.remote_session.specs.Daemon.{session_of, is_ended}
use Rattle.remote_session.specs.Client.{FarState, is_full, is_taken}
use Rattle.remote_session.specs.World.{World}
use Rattle.remote_session.specs.Laws.{IsPrefixOf}
use Rattle.remote_session.proofs.ListLaws.{IsPiece, prefix_get, piece_kept}

abbrev pub Lines : Type 0
Lines = List (List ℕ)

-- nothing happened to the key in this life
pub record Blank (given : Lines) (told : List Bool) (events : Lines) : Type 0 where
  pub given_none : given ≡ []
  pub told_none : told ≡ []
  pub events_none : events ≡ []

-- a session, against what happened to its key in this life
pub record SessionIs (given : Lines) (told : List Bool) (events : Lines) (s : Session) : Type 0 where
  pub done : s.done ≡ length told
  pub done_fits : s.done ≤ last_u32
  pub idle : s.is_open ≡ false → length given ≡ s.done
  pub busy : s.is_open ≡ true → (length given ≡ s.done + 1) × (s.done < last_u32)
  pub answer : (n : ℕ) → length told ≡ n + 1 → slice_get told n ≡ Some (is_taken s.answer)
  pub ack_fits : s.ack ≤ last_u32
  pub newest_fits : s.newest ≤ last_u32
  pub within : s.newest ≤ length events
  pub all : (s.newest ≡ length events) ⊎ (s.newest ≡ last_u32)
  pub kept : s.events ≡ drop s.ack (take s.newest events)

abbrev pub SessionOk : Lines → List Bool → Lines → Option Session → Type 0
SessionOk given told events None = Blank given told events
SessionOk given told events (Some s) = SessionIs given told events s

-- the call that waits for its answer
pub record CallIs (called : Lines) (answered : List Bool) (number : ℕ) (line : List ℕ) : Type 0 where
  pub number_is : number ≡ length answered + 1
  pub line_is : slice_get called (length answered) ≡ Some line
  pub short : length line ≤ max_line

abbrev pub CallOk : Lines → List Bool → ℕ → Option (List ℕ) → Type 0
CallOk called answered number None = number ≡ length answered
CallOk called answered number (Some line) = CallIs called answered number line

pub record HeardIs (heard : Lines) (answered : List Bool) (told : List Bool) (events : Lines) : Type 0 where
  pub events_first : IsPrefixOf heard events
  pub answers_first : IsPrefixOf answered told

abbrev pub HeardOk : Lines → List Bool → (ℕ → List Bool) → (ℕ → Lines) → Option ℕ → Type 0
HeardOk heard answered told events None = (heard ≡ []) × (answered ≡ [])
HeardOk heard answered told events (Some life) = HeardIs heard answered (told life) (events life)

-- a client's end, against what happened to its key
pub record FarIs (called : Lines) (answered : List Bool) (told : ℕ → List Bool) (events : ℕ → Lines) (key : ℕ) (f : FarState) : Type 0 where
  pub key_is : f.key ≡ key
  pub key_fits : IsU32 f.key
  pub number_is : f.number ≡ length called
  pub number_fits : f.number ≤ last_u32
  pub few : length f.heard ≤ last_u32
  pub call : CallOk called answered f.number f.calling
  pub hears : HeardOk f.heard answered told events f.incarnation

abbrev pub FarOk : Lines → List Bool → (ℕ → List Bool) → (ℕ → Lines) → ℕ → Option FarState → Type 0
FarOk called answered told events key None = (called ≡ []) × (answered ≡ [])
FarOk called answered told events key (Some f) = FarIs called answered told events key f

-- an Up that was sent: it has no line, or the line of the call of its number
pub record UpIs (called : ℕ → Lines) (bytes : List ℕ) : Type 0 where
  pub up : UpIn
  pub spelled : bytes ≡ up_text up
  pub fits : IsUp up
  pub line : (up.line ≡ []) ⊎ ((n : ℕ) × (up.number ≡ n + 1) × (slice_get (called up.key) n ≡ Some up.line))

-- a Down that was sent: its answer is that to the call of its number, and its events are those of their numbers
pub record DownIs (told : ℕ → ℕ → List Bool) (events : ℕ → ℕ → Lines) (bytes : List ℕ) : Type 0 where
  pub down : DownIn
  pub spelled : bytes ≡ down_text down
  pub fits : IsDown down
  pub answer : (is_full down.answer ≡ true) ⊎ ((n : ℕ) → down.done ≡ n + 1 → slice_get (told down.incarnation down.key) n ≡ Some (is_taken down.answer))
  pub pieces : IsPiece down.first down.events (events down.incarnation down.key)

-- what holds of a world at every moment
pub record Fine (w : World) : Type 0 where
  pub life : IsU32 w.remote.incarnation
  pub later : (l k : ℕ) → w.remote.incarnation < l → Blank (w.given l k) (w.told l k) (w.events l k)
  pub session : (k : ℕ) → is_ended k w.remote.ended ≡ false → SessionOk (w.given w.remote.incarnation k) (w.told w.remote.incarnation k) (w.events w.remote.incarnation k) (session_of k w.remote.sessions)
  pub ended : (k : ℕ) → is_ended k w.remote.ended ≡ true → session_of k w.remote.sessions ≡ None
  pub given : (l k : ℕ) → IsPrefixOf (w.given l k) (w.called k)
  pub told : (l k : ℕ) → length (w.told l k) ≤ length (w.given l k)
  pub short : (l k : ℕ) → EachFits AreShort (w.events l k)
  pub far : (k : ℕ) → FarOk (w.called k) (w.answered k) (λ l. w.told l k) (λ l. w.events l k) k (w.fars k)
  pub up : (bytes : List ℕ) → Has bytes w.ups → UpIs w.called bytes
  pub down : (bytes : List ℕ) → Has bytes w.downs → DownIs w.told w.events bytes

-- what grows keeps what was sent, and what was heard, as they are

pub up_kept : (called more : ℕ → Lines) → ((k : ℕ) → IsPrefixOf (called k) (more k)) → (bytes : List ℕ) → UpIs called bytes → UpIs more bytes
up_kept called more grows bytes h =
    record {
      up = h.up;
      spelled = h.spelled;
      fits = h.fits;
      line = elim h.line [ inl e ↦ inl e | inr x ↦ inr (x.0, x.1, prefix_get (called h.up.key) (more h.up.key) x.0 h.up.line (grows h.up.key) x.2) ];
    }

pub down_told_kept : (told more : ℕ → ℕ → List Bool) (events : ℕ → ℕ → Lines) → ((l k : ℕ) → IsPrefixOf (told l k) (more l k)) → (bytes : List ℕ) → DownIs told events bytes → DownIs more events bytes
down_told_kept told more events grows bytes h =
    record {
      down = h.down;
      spelled = h.spelled;
      fits = h.fits;
      answer = elim h.answer [ inl e ↦ inl e | inr x ↦ inr (λ n e. prefix_get (told h.down.incarnation h.down.key) (more h.down.incarnation h.down.key) n (is_taken h.down.answer) (grows h.down.incarnation h.down.key) (x n e)) ];
      pieces = h.pieces;
    }

pub down_events_kept : (told : ℕ → ℕ → List Bool) (events more : ℕ → ℕ → Lines) → ((l k : ℕ) → IsPrefixOf (events l k) (more l k)) → (bytes : List ℕ) → DownIs told events bytes → DownIs told more bytes
down_events_kept told events more grows bytes h =
    record {
      down = h.down;
      spelled = h.spelled;
      fits = h.fits;
      answer = h.answer;
      pieces = piece_kept h.down.first h.down.events (events h.down.incarnation h.down.key) (more h.down.incarnation h.down.key) (grows h.down.incarnation h.down.key) h.pieces;
    }
