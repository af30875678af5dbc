-- Executions of a network: what each daemon did, act by act, and when. Nothing is asked but what no network breaks unless it
-- forges, alters, or gives a datagram before it was sent, and what the operator sees to.
use Rattle.std.specs.Prelude.{ℕ, ◌≤◌, ◌<◌, ◌≡◌, Bool, true, false, List, [], ◌∷◌, ◌++◌, filter, flat_map, map, not, Option, Some, None, is_none}
use Rattle.rsct_packet.specs.Ids.{last_u32}
use Rattle.piece_link.specs.Answers.{Among}
use Rattle.node_state.specs.declared.config.Config.{Config}
use Rattle.node_state.specs.Settings.{is_fixed}
use Rattle.daemon_model.specs.declared.options.Service.{Service}
use Rattle.daemon_model.specs.Sent.{Exchange}
use Rattle.daemon_model.specs.Daemon.{Daemon, begun_for}
use Rattle.daemon_model.specs.Actions.{Action, Hears, did}
use Rattle.network_model.specs.Network.{Act, Begins, Does, Ends, made_since}
use Rattle.network_model.specs.Lives.{LifeIn, is_at}
use Rattle.network_model.specs.Fits.{MayCome, IsSend, IsSpelledSend, NetworkRun}

-- ---- times

-- Times are of any type with a linear order: `no_later a b` says that a is not later than b. No clock need show them.
pub record IsLinear (T : Type 0) (no_later : T → T → Bool) : Type 0 where
  pub either : (a b : T) → no_later a b ≡ false → no_later b a ≡ true
  pub through : (a b c : T) → no_later a b ≡ true → no_later b c ≡ true → no_later a c ≡ true

-- something, and when it was or began
pub record Timed (T A : Type 0) : Type 0 where
  pub time : T
  pub what : A

abbrev pub what_of : {T A : Type 0} → Timed T A → A
what_of x = x.what

-- each is no later than those behind it
abbrev pub NeverBack : {T A : Type 0} → (T → T → Bool) → List (Timed T A) → Type 0
NeverBack no_later [] = Unit {0}
NeverBack {T} {A} no_later (x ∷ xs) = ((y : Timed T A) → Among y xs → no_later x.time y.time ≡ true) × NeverBack no_later xs

-- ---- what a daemon did, and when

-- A daemon's life up to now: its incarnation, what it serves, and what its clock said as it
-- started; when it began; its acts, each with the time at which it began; and when it ended, if it has. A tick begins as the
-- clock is read, and a receive as its datagram is taken: so what an act sends it sends later than it begins.
pub record TimedLife (T : Type 0) : Type 0 where
  pub incarnation : ℕ
  pub service : Service
  pub start : ℕ
  pub began : T
  pub actions : List (Timed T Action)
  pub ended : Option T

-- without its times
abbrev pub untimed : {T : Type 0} → TimedLife T → LifeIn
untimed l = record { incarnation = l.incarnation; service = l.service; start = l.start; actions = map what_of l.actions; ended = not (is_none l.ended) }

abbrev pub done_at : {T : Type 0} → ℕ → Timed T Action → Timed T Act
done_at n a = record { time = a.time; what = Does n a.what }

abbrev pub ended_at : {T : Type 0} → ℕ → Option T → List (Timed T Act)
ended_at n None = []
ended_at n (Some t) = record { time = t; what = Ends n } ∷ []

-- the acts of a life of this node's daemon
abbrev pub timed_acts : {T : Type 0} → ℕ → TimedLife T → List (Timed T Act)
timed_acts n l = record { time = l.began; what = Begins n l.incarnation l.start l.service } ∷ map (done_at n) l.actions ++ ended_at n l.ended

-- ---- what it sent, and when

abbrev pub made_when : {T : Type 0} → T → Exchange → Timed T Exchange
made_when t x = record { time = t; what = x }

-- what a daemon receives and sends in its acts, each with the time at which its act began
unfoldable pub made_from : {T : Type 0} → Daemon → List (Timed T Action) → List (Timed T Exchange)
made_from d [] = []
made_from d (a ∷ actions) = map (made_when a.time) (made_since d (did d a.what)) ++ made_from (did d a.what) actions

abbrev pub made_in : {T : Type 0} → Config → ℕ → TimedLife T → List (Timed T Exchange)
made_in c n l = made_from (begun_for l.service c n l.incarnation l.start) l.actions

-- The daemon of some node sent these bytes, to whichever, in an act that began earlier than this time; and of that send this
-- holds. Not all that the definition of a daemon sends need have been sent, since it may end in the midst of an act.
pub record WasSentBefore (T : Type 0) (no_later : T → T → Bool) (P : Exchange → Type 0) (c : Config) (lives : ℕ → List (TimedLife T)) (time : T) (bytes : List ℕ) : Type 0 where
  pub node : ℕ
  pub life : TimedLife T
  pub lived : Among life (lives node)
  pub send : Timed T Exchange
  pub made : Among send (made_in c node life)
  pub earlier : no_later time send.time ≡ false
  pub is : IsSend bytes send.what.call
  pub holds : P send.what

-- ---- executions

-- whoever has one after it has ended
abbrev pub EndsBefore : {T : Type 0} → Option T → List (TimedLife T) → Type 0
EndsBefore None (next ∷ ls) = ⊥
EndsBefore _ _ = Unit {0}

-- the lives of a node's daemons: each in a greater incarnation than those before it, and at most one at a time
abbrev pub OneByOne : {T : Type 0} → ℕ → List (TimedLife T) → Type 0
OneByOne last [] = Unit {0}
OneByOne last (l ∷ ls) = (last < l.incarnation) × (l.incarnation ≤ last_u32) × EndsBefore l.ended ls × OneByOne l.incarnation ls

-- a datagram is not received before it is sent
abbrev pub MayHear : (T : Type 0) → (T → T → Bool) → (Exchange → Type 0) → Config → (ℕ → List (TimedLife T)) → T → Action → Type 0
MayHear T no_later P c lives time (Hears got answers) = MayCome (WasSentBefore T no_later P c lives time) got
MayHear T no_later P c lives time _ = Unit {0}

-- What the daemons of each node did is an execution:
pub record Execution (T : Type 0) (no_later : T → T → Bool) (P : Exchange → Type 0) (c : Config) (lives : ℕ → List (TimedLife T)) : Type 0 where
  -- all daemons have these settings, not of mode fixed
  pub mode : is_fixed c.mode ≡ false
  -- a node is from 1 to 32
  pub nodes : (n : ℕ) (l : TimedLife T) → Among l (lives n) → (1 ≤ n) × (n ≤ 32)
  -- its daemons live one at a time, in incarnations that rise
  pub one_by_one : (n : ℕ) → OneByOne 0 (lives n)
  -- the acts of its daemons come in their order: no time is later than one behind it
  pub in_order : (n : ℕ) → NeverBack no_later (flat_map (timed_acts n) (lives n))
  -- each datagram that a daemon receives was sent by an act that began earlier, whoever sent it, or is no piece, or is a client's
  pub received : (n : ℕ) (l : TimedLife T) → Among l (lives n) → (a : Timed T Action) → Among a l.actions → MayHear T no_later P c lives a.time a.what

-- ---- one order of all acts

-- it is an act of this node
abbrev pub at_its : {T : Type 0} → ℕ → Timed T Act → Bool
at_its n a = is_at n a.what

-- All acts of all daemons in one order, which is that of their times, and of each node's own; and in that order they are those
-- of a network's run.
pub record Ordered (T : Type 0) (no_later : T → T → Bool) (P : Exchange → Type 0) (c : Config) (lives : ℕ → List (TimedLife T)) : Type 0 where
  pub acts : List (Timed T Act)
  pub in_order : NeverBack no_later acts
  pub own : (n : ℕ) → filter (at_its n) acts ≡ flat_map (timed_acts n) (lives n)
  pub run : NetworkRun P c (map what_of acts)

-- whatever the times are, each execution has such an order
abbrev pub EveryExecutionHasAnOrder : Type 0 → Type 0
EveryExecutionHasAnOrder T = (no_later : T → T → Bool) → IsLinear T no_later → (c : Config) (lives : ℕ → List (TimedLife T)) → Execution T no_later IsSpelledSend c lives → Ordered T no_later IsSpelledSend c lives

-- opens each word of this file, for a computation
unfoldable pub executions_opens : Unit {0}
unfolding made_from
executions_opens = tt
