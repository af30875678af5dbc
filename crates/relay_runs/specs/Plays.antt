-- What the lines of a script make of a world with relays whose clients are of any kind: each event that happens is answered somehow.
use Rattle.std.specs.Prelude.{◌≡◌, ℕ, zero, suc, Bool, true, false, List, [], ◌∷◌, map, is_some, Option}
use Rattle.node_state.specs.declared.config.Config.{Config}
use Rattle.node_state.specs.HandOn.{Answering}
use Rattle.world_model.specs.declared.event.Event.{Event}
use Rattle.world_model.specs.declared.event.Event.TheVariants as event
use Rattle.world_model.specs.declared.script.Line.{Line}
use Rattle.world_model.specs.declared.script.Line.TheVariants as line
use Rattle.world_model.specs.World.{Node, node_at}
use Rattle.world_model.specs.Play.{Cut, healed, with_cuts, networks_in, flow_limit}
use Rattle.world_laws.specs.world_answers.Answers.{Items, AllWorded, Answered}
use Rattle.relay_model.specs.Relays.{Sent, Relayed, relays_by, relayed_new}
use Rattle.relay_model.specs.Play.{is_cut, drops, relays}
use Rattle.relay_runs.specs.Runs.{SameRelayed}

-- a world that a script is played in, its cuts, and the plain events so far with their answers, newest first
pub record AnsweredPlay : Type 0 where
  pub world : Relayed
  pub cuts : List Cut
  pub events : List Answered

-- before the first line
abbrev pub starting : Config → AnsweredPlay
starting c = record { world = relayed_new c; cuts = []; events = [] }

abbrev pub with_answers : AnsweredPlay → Event → Answering → AnsweredPlay
with_answers p e a = record p { world = relays_by a p.world e; events = record { event = e; answers = a } ∷ p.events }

abbrev pub in_that_world : AnsweredPlay → Relayed → AnsweredPlay
in_that_world p r = record p { world = r }

-- a plain event happens, and the clients answer somehow; what happens is the world's own if each votes just as its word
-- says
pub record PlaysEvent (said : Items → Option Items) (p : AnsweredPlay) (e : Event) (q : AnsweredPlay) : Type 0 where
  pub answers : Answering
  pub made : q ≡ with_answers p e answers
  pub worded : AllWorded said → (v : Relayed) → SameRelayed p.world v → relays_by answers v e ≡ relays v e

-- one after another
abbrev pub PlaysEach : {X : Type 0} → (AnsweredPlay → X → AnsweredPlay → Type 0) → AnsweredPlay → List X → AnsweredPlay → Type 0
PlaysEach M p [] q = q ≡ p
PlaysEach M p (x ∷ xs) q = (r : AnsweredPlay) × M p x r × PlaysEach M r xs q

-- a datagram that is taken is given, unless its receiver is down or it is cut off
abbrev pub TakesDatagram : (Items → Option Items) → AnsweredPlay → Sent → List Sent → Bool → Bool → AnsweredPlay → Type 0
TakesDatagram said p x rest false cut q = q ≡ in_that_world p (record (p.world) { queue = rest })
TakesDatagram said p x rest true true q = q ≡ in_that_world p (record (p.world) { queue = rest })
TakesDatagram said p x rest true false q = PlaysEvent said p (event.Deliver x.from x.to x.number) q

-- the datagram that waits longest is taken, and then more
abbrev pub TakesNext : (AnsweredPlay → AnsweredPlay → Type 0) → (Items → Option Items) → AnsweredPlay → AnsweredPlay → List Sent → Type 0
TakesNext More said p q [] = q ≡ p
TakesNext More said p q (x ∷ xs) = (r : AnsweredPlay) × TakesDatagram said p x xs (is_some (node_at p.world.world x.to)) (is_cut p.cuts x) r × More r q

-- the earliest datagram that is not handled, again and again, so often
unfoldable pub PlaysFlow : (Items → Option Items) → ℕ → AnsweredPlay → AnsweredPlay → Type 0
PlaysFlow said zero p q = q ≡ p
PlaysFlow said (suc n) p q = TakesNext (PlaysFlow said n) said p q p.world.queue

abbrev pub PlaysTick : (Items → Option Items) → AnsweredPlay → ℕ → AnsweredPlay → Type 0
PlaysTick said p n q = PlaysEvent said p (event.Tick n) q

abbrev pub numbers_up : Relayed → List ℕ
numbers_up r = map (λ (x : Node). x.core.views.me) r.world.nodes

-- each node that is up ticks, ascending
abbrev pub PlaysTicks : (Items → Option Items) → AnsweredPlay → AnsweredPlay → Type 0
PlaysTicks said p q = PlaysEach (PlaysTick said) p (numbers_up p.world) q

-- a round: all tick, and then all flows
abbrev pub PlaysRound : (Items → Option Items) → AnsweredPlay → AnsweredPlay → Type 0
PlaysRound said p q = (r : AnsweredPlay) × PlaysTicks said p r × PlaysFlow said flow_limit r q

unfoldable pub PlaysRounds : (Items → Option Items) → ℕ → AnsweredPlay → AnsweredPlay → Type 0
PlaysRounds said zero p q = q ≡ p
PlaysRounds said (suc n) p q = (r : AnsweredPlay) × PlaysRound said p r × PlaysRounds said n r q

-- a line is played
abbrev pub PlaysLine : (Items → Option Items) → AnsweredPlay → Line → AnsweredPlay → Type 0
PlaysLine said p (line.Plain e) q = PlaysEvent said p e q
PlaysLine said p (line.Drop a b) q = q ≡ in_that_world p (drops p.world a b)
PlaysLine said p line.Flow q = PlaysFlow said flow_limit p q
PlaysLine said p (line.Run k) q = PlaysRounds said k p q
PlaysLine said p (line.Cut a b k) q = q ≡ record p { cuts = with_cuts p.cuts a b (networks_in k) }
PlaysLine said p (line.Heal a b k) q = q ≡ record p { cuts = healed p.cuts a b (networks_in k) }

abbrev pub PlaysLines : (Items → Option Items) → AnsweredPlay → List Line → AnsweredPlay → Type 0
PlaysLines said p ls q = PlaysEach (PlaysLine said) p ls q
