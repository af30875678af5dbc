-- Where each client votes just as its word says, a play is that of the definitions.
use Rattle.std.proofs.Common.{◌≡◌, ℕ, zero, suc, Bool, true, false, List, [], ◌∷◌, map, Option, refl, ap, ◌∙◌}
use Rattle.std.specs.Prelude.{fold, is_some}
use Rattle.world_model.specs.declared.event.Event.{Event}
use Rattle.world_model.specs.declared.event.Event.TheVariants as event
use Rattle.world_model.specs.declared.script.Line.{Line}
use Rattle.world_model.specs.declared.script.Line.TheVariants as line
use Rattle.world_model.specs.World.{Node, node_at}
use Rattle.world_model.specs.Play.{flow_limit}
use Rattle.world_laws.specs.world_answers.Answers.{Items, AllWorded, events_in}
use Rattle.relay_model.specs.Relays.{Sent}
use Rattle.relay_model.specs.Play.{Played, is_cut, in_world, with_event, flows_to, flows, all_tick, rounds, plays, played}
use Rattle.relay_runs.specs.Laws.{WordedPlaysAreOne}
use Rattle.relay_runs.specs.Plays.{AnsweredPlay, starting, PlaysEvent, PlaysEach, TakesDatagram, TakesNext, PlaysFlow, PlaysTick, PlaysTicks, numbers_up, PlaysRound, PlaysRounds, PlaysLine, PlaysLines}

-- the play without its answers
abbrev pub unanswered : AnsweredPlay → Played
unanswered p = record { world = p.world; cuts = p.cuts; events = events_in p.events }

module _ {said : Items → Option Items} (all : AllWorded said) where
  event_same : (p : AnsweredPlay) (e : Event) (q : AnsweredPlay) → PlaysEvent said p e q → unanswered q ≡ with_event (unanswered p) e
  unfolding with_event
  event_same p e q h = ap unanswered h.made ∙ ap (λ w. record { world = w; cuts = p.cuts; events = e ∷ events_in p.events }) (h.worded all p.world refl)

  -- ---- the flow

  datagram_same : (p : AnsweredPlay) (x : Sent) (rest : List Sent) (up cut : Bool) (q : AnsweredPlay) → TakesDatagram said p x rest up cut q → unanswered q ≡ flows_to (unanswered p) x rest up cut
  unfolding flows_to in_world
  datagram_same p x rest false cut q e = ap unanswered e
  datagram_same p x rest true true q e = ap unanswered e
  datagram_same p x rest true false q h = event_same p (event.Deliver x.from x.to x.number) q h

  next_same : (n : ℕ) (p q : AnsweredPlay) (xs : List Sent) → ((r : AnsweredPlay) → PlaysFlow said n r q → unanswered q ≡ flows n (unanswered r)) → TakesNext (PlaysFlow said n) said p q xs
      → unanswered q ≡ (elim xs as (λ _. Played) [ [] ↦ unanswered p | x ∷ xs ↦ flows n (flows_to (unanswered p) x xs (is_some (node_at p.world.world x.to)) (is_cut p.cuts x)) ])
  next_same n p q [] rest e = ap unanswered e
  next_same n p q (x ∷ xs) rest h = rest h.0 h.2 ∙ ap (flows n) (datagram_same p x xs (is_some (node_at p.world.world x.to)) (is_cut p.cuts x) h.0 h.1)

  flow_same : (n : ℕ) (p q : AnsweredPlay) → PlaysFlow said n p q → unanswered q ≡ flows n (unanswered p)
  unfolding PlaysFlow flows
  flow_same zero p q e = ap unanswered e
  flow_same (suc n) p q h = next_same n p q p.world.queue (λ r m. flow_same n r q m) h

  -- ---- rounds and lines

  each_same : {X : Type 0} (M : AnsweredPlay → X → AnsweredPlay → Type 0) (f : Played → X → Played) → ((p : AnsweredPlay) (x : X) (q : AnsweredPlay) → M p x q → unanswered q ≡ f (unanswered p) x)
      → (p : AnsweredPlay) (xs : List X) (q : AnsweredPlay) → PlaysEach M p xs q → unanswered q ≡ fold f (unanswered p) xs
  each_same M f one p [] q e = ap unanswered e
  each_same M f one p (x ∷ xs) q h = each_same M f one h.0 xs q h.2 ∙ ap (λ z. fold f z xs) (one p x h.0 h.1)

  ticks_of : (p : Played) (xs : List Node) → fold (λ q n. with_event q (event.Tick n)) p (map (λ (x : Node). x.core.views.me) xs) ≡ fold (λ q (x : Node). with_event q (event.Tick x.core.views.me)) p xs
  ticks_of p [] = refl
  ticks_of p (x ∷ xs) = ticks_of (with_event p (event.Tick x.core.views.me)) xs

  ticks_same : (p q : AnsweredPlay) → PlaysTicks said p q → unanswered q ≡ all_tick (unanswered p)
  unfolding all_tick
  ticks_same p q h =
      each_same (PlaysTick said) (λ z n. with_event z (event.Tick n)) (λ r n t m. event_same r (event.Tick n) t m) p (numbers_up p.world) q h ∙ ticks_of (unanswered p) p.world.world.nodes

  round_same : (p q : AnsweredPlay) → PlaysRound said p q → unanswered q ≡ flows flow_limit (all_tick (unanswered p))
  round_same p q h = flow_same flow_limit h.0 q h.2 ∙ ap (flows flow_limit) (ticks_same p h.0 h.1)

  rounds_same : (n : ℕ) (p q : AnsweredPlay) → PlaysRounds said n p q → unanswered q ≡ rounds n (unanswered p)
  unfolding PlaysRounds rounds
  rounds_same zero p q e = ap unanswered e
  rounds_same (suc n) p q h = rounds_same n h.0 q h.2 ∙ ap (rounds n) (round_same p h.0 h.1)

  line_same : (p : AnsweredPlay) (l : Line) (q : AnsweredPlay) → PlaysLine said p l q → unanswered q ≡ plays (unanswered p) l
  unfolding plays in_world
  line_same p (line.Plain e) q h = event_same p e q h
  line_same p (line.Drop a b) q e = ap unanswered e
  line_same p line.Flow q h = flow_same flow_limit p q h
  line_same p (line.Run k) q h = rounds_same k p q h
  line_same p (line.Cut a b k) q e = ap unanswered e
  line_same p (line.Heal a b k) q e = ap unanswered e

  pub lines_same : (p : AnsweredPlay) (ls : List Line) (q : AnsweredPlay) → PlaysLines said p ls q → unanswered q ≡ fold plays (unanswered p) ls
  lines_same p ls q h = each_same (PlaysLine said) plays line_same p ls q h

pub worded_plays_are_one : WordedPlaysAreOne
unfolding played
worded_plays_are_one said all c ls q h = ap (λ (z : Played). z.world) (lines_same all (starting c) ls q h)
