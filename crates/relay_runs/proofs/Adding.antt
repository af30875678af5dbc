-- A play only adds events, and comes to the world of its events, but for what waits there.
use Rattle.std.proofs.Common.{◌≡◌, ℕ, zero, suc, Bool, true, false, List, [], ◌∷◌, ◌++◌, Option, refl, sym, ap, ◌∙◌, subst}
use Rattle.std.specs.Prelude.{fold, is_some}
use Rattle.std.proofs.lemmas.List.Sums.{fold-append}
use Rattle.rsct_packet.specs.Lists.{reverse_onto}
use Rattle.world_model.specs.declared.event.Event.{Event}
use Rattle.world_model.specs.declared.event.Event.TheVariants as event
use Rattle.world_model.specs.declared.script.Line.{Line}
use Rattle.world_model.specs.declared.script.Line.TheVariants as line
use Rattle.world_model.specs.World.{node_at}
use Rattle.world_model.specs.Play.{flow_limit}
use Rattle.world_laws.proofs.world_runs.Backwards.{reversed}
use Rattle.world_laws.specs.world_answers.Answers.{Items, AllWorded, Answered}
use Rattle.relay_model.specs.Relays.{Sent, Relayed, relays_on}
use Rattle.relay_model.specs.Play.{is_cut, drops}
use Rattle.relay_runs.specs.Runs.{SameRelayed}
use Rattle.relay_runs.specs.Plays.{AnsweredPlay, PlaysEvent, PlaysEach, TakesDatagram, TakesNext, PlaysFlow, PlaysTick, PlaysTicks, numbers_up, PlaysRound, PlaysRounds, PlaysLine, PlaysLines}
use Rattle.relay_runs.specs.Limits.{Grew, WordedFrom}
use Rattle.relay_runs.proofs.Waits.{same_goes}

-- some events and then more
pub grew_then : (p q r : AnsweredPlay) (es fs : List Answered) → Grew p q es → Grew q r fs → Grew p r (es ++ fs)
grew_then p q r es fs f g = g ∙ (ap (reverse_onto fs) f ∙ reversed es fs p.events)

worded_then : (v : Relayed) (es fs : List Answered) → WordedFrom v es → WordedFrom (fold relays_on v es) fs → WordedFrom v (es ++ fs)
worded_then v [] fs f g = g
worded_then v (e ∷ es) fs f g = (f.0, worded_then (relays_on v e) es fs f.1 g)

-- from p to q these events were added
pub record Adds (said : Items → Option Items) (p q : AnsweredPlay) : Type 0 where
  pub events : List Answered
  pub grew : Grew p q events
  pub comes : (v : Relayed) → SameRelayed p.world v → SameRelayed q.world (fold relays_on v events)
  pub worded : AllWorded said → (v : Relayed) → SameRelayed p.world v → WordedFrom v events

module _ {said : Items → Option Items} where
  -- only what waits and what is cut off changes
  pub adds_still : (p q : AnsweredPlay) → q.events ≡ p.events → SameRelayed q.world p.world → Adds said p q
  adds_still p q e same = record { events = []; grew = e; comes = λ v h. h ∙ ap (λ (z : Relayed). record z { queue = v.queue }) same; worded = λ all v h. tt }

  adds_none : (p q : AnsweredPlay) → q ≡ p → Adds said p q
  adds_none p q e = adds_still p q (ap (λ (z : AnsweredPlay). z.events) e) (subst (λ (z : AnsweredPlay). SameRelayed z.world p.world) (sym e) refl)

  adds_then : (p q r : AnsweredPlay) → Adds said p q → Adds said q r → Adds said p r
  adds_then p q r f g = record {
    events = f.events ++ g.events;
    grew = grew_then p q r f.events g.events f.grew g.grew;
    comes = λ v h. subst (SameRelayed r.world) (sym (fold-append relays_on v f.events g.events)) (g.comes (fold relays_on v f.events) (f.comes v h));
    worded = λ all v h. worded_then v f.events g.events (f.worded all v h) (g.worded all (fold relays_on v f.events) (f.comes v h));
  }

  pub event_adds : (p : AnsweredPlay) (e : Event) (q : AnsweredPlay) → PlaysEvent said p e q → Adds said p q
  event_adds p e q h =
      let a : Answered = record { event = e; answers = h.answers } in
      record {
        events = a ∷ [];
        grew = ap (λ (z : AnsweredPlay). z.events) h.made;
        comes = λ v s. subst (λ (z : AnsweredPlay). SameRelayed z.world (relays_on v a)) (sym h.made) (same_goes p.world v a s);
        worded = λ all v s. (h.worded all v s, tt);
      }

  -- ---- the flow

  datagram_adds : (p : AnsweredPlay) (x : Sent) (rest : List Sent) (up cut : Bool) (q : AnsweredPlay) → TakesDatagram said p x rest up cut q → Adds said p q
  datagram_adds p x rest false cut q e = adds_still p q (ap (λ (z : AnsweredPlay). z.events) e) (subst (λ (z : AnsweredPlay). SameRelayed z.world p.world) (sym e) refl)
  datagram_adds p x rest true true q e = adds_still p q (ap (λ (z : AnsweredPlay). z.events) e) (subst (λ (z : AnsweredPlay). SameRelayed z.world p.world) (sym e) refl)
  datagram_adds p x rest true false q h = event_adds p (event.Deliver x.from x.to x.number) q h

  next_adds : (More : AnsweredPlay → AnsweredPlay → Type 0) (p q : AnsweredPlay) (xs : List Sent) → ((r : AnsweredPlay) → More r q → Adds said r q) → TakesNext More said p q xs → Adds said p q
  next_adds More p q [] rest e = adds_none p q e
  next_adds More p q (x ∷ xs) rest h = adds_then p h.0 q (datagram_adds p x xs (is_some (node_at p.world.world x.to)) (is_cut p.cuts x) h.0 h.1) (rest h.0 h.2)

  pub flow_adds : (n : ℕ) (p q : AnsweredPlay) → PlaysFlow said n p q → Adds said p q
  unfolding PlaysFlow
  flow_adds zero p q e = adds_none p q e
  flow_adds (suc n) p q h = next_adds (PlaysFlow said n) p q p.world.queue (λ r m. flow_adds n r q m) h

  -- ---- rounds and lines

  pub each_adds : {X : Type 0} (M : AnsweredPlay → X → AnsweredPlay → Type 0) → ((p : AnsweredPlay) (x : X) (q : AnsweredPlay) → M p x q → Adds said p q)
      → (p : AnsweredPlay) (xs : List X) (q : AnsweredPlay) → PlaysEach M p xs q → Adds said p q
  each_adds M one p [] q e = adds_none p q e
  each_adds M one p (x ∷ xs) q h = adds_then p h.0 q (one p x h.0 h.1) (each_adds M one h.0 xs q h.2)

  pub ticks_add : (p q : AnsweredPlay) → PlaysTicks said p q → Adds said p q
  ticks_add p q h = each_adds (PlaysTick said) (λ r n t m. event_adds r (event.Tick n) t m) p (numbers_up p.world) q h

  pub round_adds : (p q : AnsweredPlay) → PlaysRound said p q → Adds said p q
  round_adds p q h = adds_then p h.0 q (ticks_add p h.0 h.1) (flow_adds flow_limit h.0 q h.2)

  pub rounds_add : (n : ℕ) (p q : AnsweredPlay) → PlaysRounds said n p q → Adds said p q
  unfolding PlaysRounds
  rounds_add zero p q e = adds_none p q e
  rounds_add (suc n) p q h = adds_then p h.0 q (round_adds p h.0 h.1) (rounds_add n h.0 q h.2)

  pub line_adds : (p : AnsweredPlay) (l : Line) (q : AnsweredPlay) → PlaysLine said p l q → Adds said p q
  unfolding drops
  line_adds p (line.Plain e) q h = event_adds p e q h
  line_adds p (line.Drop a b) q e = adds_still p q (ap (λ (z : AnsweredPlay). z.events) e) (subst (λ (z : AnsweredPlay). SameRelayed z.world p.world) (sym e) refl)
  line_adds p line.Flow q h = flow_adds flow_limit p q h
  line_adds p (line.Run k) q h = rounds_add k p q h
  line_adds p (line.Cut a b k) q e = adds_still p q (ap (λ (z : AnsweredPlay). z.events) e) (subst (λ (z : AnsweredPlay). SameRelayed z.world p.world) (sym e) refl)
  line_adds p (line.Heal a b k) q e = adds_still p q (ap (λ (z : AnsweredPlay). z.events) e) (subst (λ (z : AnsweredPlay). SameRelayed z.world p.world) (sym e) refl)

  pub lines_add : (p : AnsweredPlay) (ls : List Line) (q : AnsweredPlay) → PlaysLines said p ls q → Adds said p q
  lines_add p ls q h = each_adds (PlaysLine said) (λ r l t m. line_adds r l t m) p ls q h
