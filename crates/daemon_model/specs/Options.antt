-- What options ask of a daemon: which keys end behind a tick, when it mends, and at which turn it ends. Whatever they ask, each
-- act of a daemon's own is a call or an order of its node, or none of its node's.
use Rattle.std.specs.Prelude.{◌≡◌, ℕ, ◌-◌, not, ◌&&◌, nat_le, Bool, true, false, List, [], ◌∷◌, map, Option, Some, None, is_none, is_some, if◌then◌else◌}
use Rattle.std.specs.Cmp.Lexicographic.{pointwise}
use Rattle.rsct_packet.specs.declared.mask.Mask.{Mask}
use Rattle.rsct_packet.specs.Ids.{same_member, risen}
use Rattle.node_reach.specs.Reach.{reach_of}
use Rattle.node_state.specs.declared.state.Core.{Core}
use Rattle.node_state.specs.Settings.{least_node}
use Rattle.node_state.specs.State.{frozen}
use Rattle.node_state.specs.Ticks.{is_first, reached}
use Rattle.remote_session.specs.Ending.{silent_keys}
use Rattle.remote_clients.specs.declared.sessions.Sessions.{Sessions}
use Rattle.daemon_model.specs.declared.options.Options.{Options}
use Rattle.daemon_model.specs.declared.options.Pace.{Pace}
use Rattle.daemon_model.specs.declared.options.Service.{Service}
use Rattle.daemon_model.specs.Daemon.{Daemon, KeyEnd, Turn, is_due, ticked, heard, keys_over, turned}

-- to serve clients on other machines or not, and nothing else
abbrev pub plainly : Service → Options
plainly service = record { service = service; silence = None; mend = None; gap = None }

-- ---- silent keys

-- the keys that end behind a tick of the node: those of which no Up came for so many ticks, with that one, in the order in
-- which they came
abbrev pub keys_due : Option ℕ → Option Sessions → List ℕ
keys_due None s = []
keys_due (Some least) None = []
keys_due (Some least) (Some s) = silent_keys least s.remote

-- ---- a node that was left behind

-- It is frozen by nothing and gathers nothing, another node is the least of its reach, and its view's members differ, in node or
-- incarnation, from the kept rows of its reach: what the least node itself looks at.
abbrev pub is_apart_in : Core → Mask → Bool
is_apart_in s reach = not (frozen s) && is_none s.views.gathering && not (is_first s.views.me (least_node reach)) && not (pointwise same_member s.views.members (reached s reach))

unfoldable pub is_apart : Core → Bool
is_apart s = is_apart_in s (reach_of s.reach)

-- at how many ticks in a row it was apart, with this one, and has not mended since; nobody counts where it is not to mend
abbrev pub apart_for : Option ℕ → ℕ → Core → ℕ
apart_for None ticks s = 0
apart_for (Some least) ticks s = if is_apart s then risen ticks else 0

-- it mends where these are so many
abbrev pub is_long_apart : Option ℕ → ℕ → Bool
is_long_apart None ticks = false
is_long_apart (Some least) ticks = nat_le least ticks

-- ---- pauses

-- does the daemon end at this moment, after that of the turn before?
abbrev pub is_pause : Option ℕ → ℕ → ℕ → Bool
is_pause None before moment = false
is_pause (Some gap) before moment = nat_le gap (moment - before)

-- ---- turns

abbrev pub first_pace : ℕ → Pace
first_pace start = record { before = start; apart = 0 }

-- a turn in which the daemon does nothing of its own
pub record IsPlain (t : Turn) : Type 0 where
  pub ends : t.ends ≡ []
  pub mends : t.mends ≡ None

-- behind the node's tick, and the ends of keys
abbrev pub ended_by : Daemon → Turn → Daemon
ended_by d t = keys_over t.ends (ticked t.moment t.tick d)

abbrev pub apart_in : Options → ℕ → Daemon → Turn → ℕ
apart_in o ticks d t = apart_for o.mend ticks (ended_by d t).core

-- behind a tick just those keys end that are due, and the daemon mends just where it was apart for so long
pub record Keeps (o : Options) (ticks : ℕ) (d : Daemon) (t : Turn) : Type 0 where
  pub ends : map (λ (e : KeyEnd). e.key) t.ends ≡ keys_due o.silence (ticked t.moment t.tick d).sessions
  pub mends : is_some t.mends ≡ is_long_apart o.mend (apart_in o ticks d t)

-- where no tick is due it does nothing of its own
abbrev pub KeepsIf : Bool → Options → ℕ → Daemon → Turn → Type 0
KeepsIf true o ticks d t = Keeps o ticks d t
KeepsIf false o ticks d t = IsPlain t

-- a daemon with these options does this turn
pub record FollowsIn (o : Options) (p : Pace) (d : Daemon) (t : Turn) : Type 0 where
  pub in_time : is_pause o.gap p.before t.moment ≡ false
  pub keeps : KeepsIf (is_due d.last t.moment) o p.apart d t

-- once it has mended the count begins anew
abbrev pub apart_left : ℕ → Bool → ℕ
apart_left ticks true = 0
apart_left ticks false = ticks

abbrev pub apart_after : Bool → Options → ℕ → Daemon → Turn → ℕ
apart_after true o ticks d t = apart_left (apart_in o ticks d t) (is_some t.mends)
apart_after false o ticks d t = ticks

abbrev pub paced : Options → Pace → Daemon → Turn → Pace
paced o p d t = record { before = t.moment; apart = apart_after (is_due d.last t.moment) o p.apart d t }

-- a daemon with these options does these turns
abbrev pub Follows : Options → Pace → Daemon → List Turn → Type 0
Follows o p d [] = Unit {0}
Follows o p d (t ∷ ts) = FollowsIn o p d t × Follows o (paced o p d t) (turned d t) ts

-- and stands so between turns after them
abbrev pub paced_all : Options → Pace → Daemon → List Turn → Pace
paced_all o p d [] = p
paced_all o p d (t ∷ ts) = paced_all o (paced o p d t) (turned d t) ts

-- ---- laws

abbrev pub ArePlain : List Turn → Type 0
ArePlain [] = Unit {0}
ArePlain (t ∷ ts) = IsPlain t × ArePlain ts

-- where nothing of the kind is asked for, a daemon does nothing of its own
abbrev pub NothingUnasked : Type 0
NothingUnasked = (o : Options) (p : Pace) (d : Daemon) (ts : List Turn) → o.silence ≡ None → o.mend ≡ None → Follows o p d ts → ArePlain ts

-- and whatever turns are so are those of such a daemon
abbrev pub PlainFollows : Type 0
PlainFollows = (service : Service) (p : Pace) (d : Daemon) (ts : List Turn) → ArePlain ts → Follows (plainly service) p d ts

-- and a turn is then a tick, where one is due, and a receive
abbrev pub PlainTurns : Type 0
PlainTurns = (d : Daemon) (t : Turn) → IsPlain t → turned d t ≡ heard t.got t.answers (ticked t.moment t.tick d)

-- opens each word of this file, for a computation
unfoldable pub options_opens : Unit {0}
unfolding is_apart
options_opens = tt
