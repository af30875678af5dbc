-- What holds whatever is lost, repeated or reordered, whichever keys the daemon ends, and however often it starts anew.
use Rattle.std.specs.Prelude.{◌≡◌, ℕ, ◌≤◌, true, List, [], ◌++◌, length, Option, Some, None}
use Rattle.rsct_packet.specs.Fields.{IsU32}
use Rattle.remote_session.specs.Daemon.{RemoteState, is_ended, session_of, ended_up, down_as, down_for}
use Rattle.remote_session.specs.Client.{FarState}
use Rattle.remote_session.specs.World.{World, Happening, quiet, happens, after}

-- the second list begins with the first
abbrev pub IsPrefixOf : {A : Type 0} → List A → List A → Type 0
IsPrefixOf {A} xs ys = (rest : List A) × (xs ++ rest ≡ ys)

-- In each life of the daemon, the lines that it gave out for a key are the first calls of that key's end: each once, and
-- in the order in which they were made.
abbrev pub CallsComeOnceAndInOrder : Type 0
CallsComeOnceAndInOrder =
    (incarnation : ℕ) → IsU32 incarnation → (happenings : List Happening) (life key : ℕ)
    → IsPrefixOf ((after (quiet incarnation) happenings).given life key) ((after (quiet incarnation) happenings).called key)

-- what was heard, in the life of the first Down
abbrev pub IsHeardIn : World → FarState → Option ℕ → Type 0
IsHeardIn w f None = f.heard ≡ []
IsHeardIn w f (Some life) = IsPrefixOf f.heard (w.events life f.key)

-- What a client's end has heard are the first events of its key in one life of the daemon, that of the first Down that
-- it was given: without a gap, each once, and in order. Before its first Down it has heard nothing.
abbrev pub HeardIsAPrefix : Type 0
HeardIsAPrefix =
    (incarnation : ℕ) → IsU32 incarnation → (happenings : List Happening) (key : ℕ) (f : FarState)
    → (after (quiet incarnation) happenings).fars key ≡ Some f → IsHeardIn (after (quiet incarnation) happenings) f f.incarnation

-- the answers that were heard, in the life of the first Down
abbrev pub AreAnswersOf : World → FarState → Option ℕ → Type 0
AreAnswersOf w f None = w.answered f.key ≡ []
AreAnswersOf w f (Some life) = IsPrefixOf (w.answered f.key) (w.told life f.key)

-- The answers that a client's end has heard are the first that the daemon told for its key in that life: the k-th is
-- that to the k-th call that the daemon gave out, which is the end's k-th call.
abbrev pub AnswersAreThoseTold : Type 0
AnswersAreThoseTold =
    (incarnation : ℕ) → IsU32 incarnation → (happenings : List Happening) (key : ℕ) (f : FarState)
    → (after (quiet incarnation) happenings).fars key ≡ Some f → AreAnswersOf (after (quiet incarnation) happenings) f f.incarnation

-- and it told no more than it gave out calls
abbrev pub NoAnswerWithoutCall : Type 0
NoAnswerWithoutCall =
    (incarnation : ℕ) → IsU32 incarnation → (happenings : List Happening) (life key : ℕ)
    → length ((after (quiet incarnation) happenings).told life key) ≤ length ((after (quiet incarnation) happenings).given life key)

-- from the first world to the second, in one life of the daemon, the key stays ended, and nothing more was given out, told or
-- handed over for it
pub record StaysEnded (key : ℕ) (w v : World) : Type 0 where
  pub ended : is_ended key v.remote.ended ≡ true
  pub given : v.given w.remote.incarnation key ≡ w.given w.remote.incarnation key
  pub told : v.told w.remote.incarnation key ≡ w.told w.remote.incarnation key
  pub events : v.events w.remote.incarnation key ≡ w.events w.remote.incarnation key

-- A key that has ended stays so for the daemon's life, whatever happens next: no Up of it, however late, makes a call.
abbrev pub EndedKeysStay : Type 0
EndedKeysStay =
    (incarnation : ℕ) → IsU32 incarnation → (happenings : List Happening) (next : Happening) (key : ℕ)
    → is_ended key (after (quiet incarnation) happenings).remote.ended ≡ true
    → (happens (after (quiet incarnation) happenings) next).remote.incarnation ≡ (after (quiet incarnation) happenings).remote.incarnation
    → StaysEnded key (after (quiet incarnation) happenings) (happens (after (quiet incarnation) happenings) next)

-- where no key has ended, no Up is of one, and each Down is what the key's session makes it
pub record HasNoEnded (r : RemoteState) : Type 0 where
  pub ups : (bytes : List ℕ) → ended_up r bytes ≡ None
  pub downs : (key : ℕ) → down_for r key ≡ down_as r.incarnation key (session_of key r.sessions)

abbrev pub NothingEndsUnasked : Type 0
NothingEndsUnasked = (r : RemoteState) → r.ended ≡ [] → HasNoEnded r
