-- The play of a script only adds events that may happen, and comes to their world, but for what waits there.
use Rattle.std.proofs.Common.{◌≡◌, ℕ, zero, suc, List, [], ◌∷◌, ◌++◌, Bool, true, false, Option, Some, None, refl, sym, ap, ◌∙◌, subst}
use Rattle.std.specs.Prelude.{fold, is_some}
use Rattle.std.proofs.lemmas.List.Sums.{fold-append}
use Rattle.rsct_packet.specs.Lists.{reverse_onto}
use Rattle.node_state.specs.declared.config.Config.{Config}
use Rattle.world_model.specs.declared.event.Event.{Event}
use Rattle.world_model.specs.declared.event.Event.TheVariants as event
use Rattle.world_model.specs.declared.script.Line.{Line}
use Rattle.world_model.specs.declared.script.Line.TheVariants as line
use Rattle.world_model.specs.World.{Node, Sent, World, node_at, happens, world_new, world_after}
use Rattle.world_model.specs.Play.{Played, is_cut, drops, in_world, with_event, flows_to, flows, flow_limit, all_tick, rounds, plays, played, events_of}
use Rattle.world_model.specs.Kept.{Bytes, with_packet, sent_since, Ended, runs_from}
use Rattle.world_laws.specs.world_runs.Runs.{SameRun}
use Rattle.world_laws.proofs.world_runs.Queue.{same_happens}
use Rattle.world_safety.specs.Events.{MayHappen, AllMayHappen}
use Rattle.world_safety.specs.Plays.{LineMay, LinesMay}
use Rattle.world_safety.proofs.Turned.{onto_more}

all_turned : (c : Config) (xs ys : List Event) → AllMayHappen c xs → AllMayHappen c ys → AllMayHappen c (reverse_onto xs ys)
all_turned c [] ys a b = b
all_turned c (x ∷ xs) ys a b = all_turned c xs (x ∷ ys) a.1 (a.0, b)

pub all_front : (c : Config) (xs ys : List Event) → AllMayHappen c (xs ++ ys) → AllMayHappen c xs
all_front c [] ys a = tt
all_front c (x ∷ xs) ys a = (a.0, all_front c xs ys a.1)

-- the event of a line of a script
event_may : (c : Config) → (e : Event) → LineMay c.mode (line.Plain e) → MayHappen c e
event_may c (event.Start n) may = may
event_may c _ may = tt

-- one event more
happens_last : (es : List Event) (e : Event) (w : World) → fold happens w (reverse_onto (e ∷ es) []) ≡ happens (fold happens w (reverse_onto es [])) e
happens_last es e w = ap (fold happens w) (sym (onto_more es [] (e ∷ []))) ∙ fold-append happens w (reverse_onto es []) (e ∷ [])

record Plays (c : Config) (p : Played) : Type 0 where
  may : AllMayHappen c p.events
  same : SameRun (fold happens (world_new c) (reverse_onto p.events [])) p.world

module _ (c : Config) where
  event_plays : (p : Played) (e : Event) → MayHappen c e → Plays c p → Plays c (with_event p e)
  unfolding with_event
  event_plays p e may t =
      record {
        may = (may, t.may);
        same = subst (λ z. SameRun z (happens p.world e)) (sym (happens_last p.events e (world_new c))) (same_happens (fold happens (world_new c) (reverse_onto p.events [])) p.world e t.same);
      }

  waits_plays : (p : Played) (q : List Sent) → Plays c p → Plays c (in_world p (record (p.world) { queue = q }))
  unfolding in_world
  waits_plays p q t = record { may = t.may; same = ap (λ (z : World). record z { queue = q }) t.same }

  -- ---- the flow

  taken_plays : (p : Played) (x : Sent) (rest : List Sent) (up cut : Bool) → Plays c p → Plays c (flows_to p x rest up cut)
  unfolding flows_to
  taken_plays p x rest false cut t = waits_plays p rest t
  taken_plays p x rest true true t = waits_plays p rest t
  taken_plays p x rest true false t = event_plays p (event.Deliver x.packet.from x.packet.to x.number) (event_may c (event.Deliver x.packet.from x.packet.to x.number) tt) t

  flow_plays : (n : ℕ) (p : Played) (q : List Sent) → ((r : Played) → Plays c r → Plays c (flows n r)) → Plays c p
      → Plays c (elim q [ [] ↦ p | x ∷ xs ↦ flows n (flows_to p x xs (is_some (node_at p.world x.packet.to)) (is_cut p.cuts x.packet)) ])
  flow_plays n p [] rest t = t
  flow_plays n p (x ∷ xs) rest t =
      let up : Bool = is_some (node_at p.world x.packet.to) in
      let cut : Bool = is_cut p.cuts x.packet in
      rest (flows_to p x xs up cut) (taken_plays p x xs up cut t)

  flows_play : (n : ℕ) (p : Played) → Plays c p → Plays c (flows n p)
  unfolding flows
  flows_play zero p t = t
  flows_play (suc n) p t = flow_plays n p p.world.queue (λ r u. flows_play n r u) t

  -- ---- rounds and lines

  ticks_play : (xs : List Node) (p : Played) → Plays c p → Plays c (fold (λ q (x : Node). with_event q (event.Tick x.core.views.me)) p xs)
  ticks_play [] p t = t
  ticks_play (x ∷ xs) p t =
      let e : Event = event.Tick x.core.views.me in ticks_play xs (with_event p e) (event_plays p e tt t)

  rounds_play : (n : ℕ) (p : Played) → Plays c p → Plays c (rounds n p)
  unfolding rounds all_tick
  rounds_play zero p t = t
  rounds_play (suc n) p t =
      let q : Played = fold (λ q (x : Node). with_event q (event.Tick x.core.views.me)) p p.world.nodes in
      rounds_play n (flows flow_limit q) (flows_play flow_limit q (ticks_play p.world.nodes p t))

  line_plays : (p : Played) (l : Line) → LineMay c.mode l → Plays c p → Plays c (plays p l)
  unfolding plays drops
  line_plays p (line.Plain e) may t = event_plays p e (event_may c e may) t
  line_plays p (line.Drop a b) may t = waits_plays p _ t
  line_plays p line.Flow may t = flows_play flow_limit p t
  line_plays p (line.Run k) may t = rounds_play k p t
  line_plays p (line.Cut a b k) may t = record { may = t.may; same = t.same }
  line_plays p (line.Heal a b k) may t = record { may = t.may; same = t.same }

  lines_play : (ls : List Line) (p : Played) → LinesMay c.mode ls → Plays c p → Plays c (fold plays p ls)
  lines_play [] p may t = t
  lines_play (l ∷ ls) p may t = lines_play ls (plays p l) may.1 (line_plays p l may.0 t)

  played_plays : (ls : List Line) → LinesMay c.mode ls → Plays c (played c ls)
  unfolding played
  played_plays ls may = lines_play ls (record { world = world_new c; cuts = []; events = [] }) may (record { may = tt; same = refl })

  pub events_may : (ls : List Line) → LinesMay c.mode ls → AllMayHappen c (events_of c ls)
  unfolding events_of
  events_may ls may = all_turned c (played c ls).events [] (played_plays ls may).may tt

  pub events_come : (ls : List Line) → LinesMay c.mode ls → (played c ls).world.trace ≡ (world_after c (events_of c ls)).trace
  unfolding events_of world_after
  events_come ls may = ap (λ (z : World). z.trace) (played_plays ls may).same

-- ---- up to the event whose packets pass a limit

-- the world after a front of the events
pub record Front (w : World) (es : List Event) (v : World) : Type 0 where
  pub front : List Event
  pub rest : List Event
  pub whole : es ≡ front ++ rest
  pub comes : v ≡ fold happens w front

-- it ends before the event, or goes on
abbrev ends_by : World → Ended → Option ℕ → Ended
ends_by w z (Some n) = record { world = w; passed = Some n }
ends_by w z None = z

pub limited_front : (limit sum : ℕ) (w : World) (es : List Event) → Front w es (runs_from limit sum w es).world
unfolding runs_from
limited_front limit sum w [] = record { front = []; rest = []; whole = refl; comes = refl }
limited_front limit sum w (e ∷ es) =
    let v : World = happens w e in
    let b : Bytes = fold (with_packet limit) (record { sum = sum; passed = None }) (sent_since w v) in
    by (runs_from limit b.sum v es) b.passed (limited_front limit b.sum v es)
  where
    by : (z : Ended) (o : Option ℕ) → Front (happens w e) es z.world → Front w (e ∷ es) (ends_by w z o).world
    by z (Some n) f = record { front = []; rest = e ∷ es; whole = refl; comes = refl }
    by z None f = record { front = e ∷ f.front; rest = f.rest; whole = ap (λ zs. e ∷ zs) f.whole; comes = f.comes }
