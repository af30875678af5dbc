-- The play of a script with relays only adds events that may happen, and comes to their world, but for what waits there.
use Rattle.std.proofs.Common.{◌≡◌, ℕ, zero, suc, List, [], ◌∷◌, ◌++◌, Bool, true, false, Option, Some, None, refl, sym, ap, ◌∙◌, subst}
use Rattle.std.specs.Prelude.{fold, is_some}
use Rattle.std.proofs.lemmas.List.Sums.{fold-append}
use Rattle.rsct_packet.specs.Lists.{reverse_onto}
use Rattle.node_state.specs.declared.config.Config.{Config}
use Rattle.node_state.specs.declared.happened.Happened.{Happened}
use Rattle.world_model.specs.declared.event.Event.{Event}
use Rattle.world_model.specs.declared.event.Event.TheVariants as event
use Rattle.world_model.specs.declared.script.Line.{Line}
use Rattle.world_model.specs.declared.script.Line.TheVariants as line
use Rattle.world_model.specs.World.{Node, node_at}
use Rattle.world_model.specs.Play as direct
use Rattle.world_model.specs.Play.{flow_limit}
use Rattle.world_model.specs.Kept.{Bytes}
use Rattle.world_laws.specs.world_answers.Answers.{Answered, events_in}
use Rattle.run_laws.specs.ring_runs.Rings.{AddressesFit}
use Rattle.world_safety.specs.Events.{MayHappen, AllMayHappen}
use Rattle.world_safety.specs.Scripts.{IsSafe}
use Rattle.world_safety.specs.Plays.{LineMay, LinesMay}
use Rattle.world_safety.proofs.Turned.{onto_more}
use Rattle.world_safety.proofs.Playing.{all_front, events_may}
use Rattle.relay_model.specs.Relays.{Sent, Relayed, relays_on, relayed_new, relayed_after, relayed_records}
use Rattle.relay_model.specs.Play.{Played, is_cut, drops, relays, in_world, with_event, flows_to, flows, all_tick, rounds, plays, played, events_of, played_records, script_records, worded_from, all_worded}
use Rattle.relay_model.specs.Limits.{with_parcel, left_since, Ended, runs_from, runs_within, ended, kept_records}
use Rattle.relay_laws.specs.Plays.{IsSafeRelayedScript, EveryRelayedPlayIsSafe, EveryKeptRelayedPlayIsSafe}
use Rattle.relay_runs.specs.Runs.{SameRelayed}
use Rattle.relay_runs.proofs.Waits.{same_relays}
use Rattle.relay_laws.proofs.Direct.{may_more, relayed_runs_are_safe}

-- the event of a line of a script
event_may : (c : Config) (e : Event) → LineMay c.mode (line.Plain e) → MayHappen c e
unfolding direct.events_of direct.played direct.plays direct.with_event
event_may c e may = (events_may c (line.Plain e ∷ []) (may, tt)).0

-- one event more, of those that come newest first
turned_more : (es : List Event) (e : Event) → reverse_onto (e ∷ es) [] ≡ reverse_onto es [] ++ e ∷ []
turned_more es e = sym (onto_more es [] (e ∷ []))

record Plays (c : Config) (p : Played) : Type 0 where
  may : AllMayHappen c (reverse_onto p.events [])
  same : SameRelayed (fold relays (relayed_new c) (reverse_onto p.events [])) p.world

module _ (c : Config) where
  event_plays : (p : Played) (e : Event) → MayHappen c e → Plays c p → Plays c (with_event p e)
  unfolding with_event
  event_plays p e may t =
      let more = turned_more p.events e in
      let last = fold-append relays (relayed_new c) (reverse_onto p.events []) (e ∷ []) in
      record {
        may = subst (AllMayHappen c) (sym more) (may_more c (reverse_onto p.events []) e t.may may);
        same = subst (λ z. SameRelayed z (relays p.world e)) (sym (ap (fold relays (relayed_new c)) more ∙ last)) (same_relays (fold relays (relayed_new c) (reverse_onto p.events [])) p.world e t.same);
      }

  waits_plays : (p : Played) (q : List Sent) → Plays c p → Plays c (in_world p (record (p.world) { queue = q }))
  unfolding in_world
  waits_plays p q t = record { may = t.may; same = ap (λ (z : Relayed). record z { queue = q }) t.same }

  -- ---- the flow

  taken_plays : (p : Played) (x : Sent) (rest : List Sent) (up cut : Bool) → Plays c p → Plays c (flows_to p x rest up cut)
  unfolding flows_to
  taken_plays p x rest false cut t = waits_plays p rest t
  taken_plays p x rest true true t = waits_plays p rest t
  taken_plays p x rest true false t = event_plays p (event.Deliver x.from x.to x.number) tt t

  flow_plays : (n : ℕ) (p : Played) (q : List Sent) → ((r : Played) → Plays c r → Plays c (flows n r)) → Plays c p
      → Plays c (elim q [ [] ↦ p | x ∷ xs ↦ flows n (flows_to p x xs (is_some (node_at p.world.world x.to)) (is_cut p.cuts x)) ])
  flow_plays n p [] rest t = t
  flow_plays n p (x ∷ xs) rest t =
      let up : Bool = is_some (node_at p.world.world x.to) in
      let cut : Bool = is_cut p.cuts x in
      rest (flows_to p x xs up cut) (taken_plays p x xs up cut t)

  flows_play : (n : ℕ) (p : Played) → Plays c p → Plays c (flows n p)
  unfolding flows
  flows_play zero p t = t
  flows_play (suc n) p t = flow_plays n p p.world.queue (λ r u. flows_play n r u) t

  -- ---- rounds and lines

  ticks_play : (xs : List Node) (p : Played) → Plays c p → Plays c (fold (λ q (x : Node). with_event q (event.Tick x.core.views.me)) p xs)
  ticks_play [] p t = t
  ticks_play (x ∷ xs) p t =
      let e : Event = event.Tick x.core.views.me in ticks_play xs (with_event p e) (event_plays p e tt t)

  rounds_play : (n : ℕ) (p : Played) → Plays c p → Plays c (rounds n p)
  unfolding rounds all_tick
  rounds_play zero p t = t
  rounds_play (suc n) p t =
      let q : Played = fold (λ q (x : Node). with_event q (event.Tick x.core.views.me)) p p.world.world.nodes in
      rounds_play n (flows flow_limit q) (flows_play flow_limit q (ticks_play p.world.world.nodes p t))

  line_plays : (p : Played) (l : Line) → LineMay c.mode l → Plays c p → Plays c (plays p l)
  unfolding plays drops
  line_plays p (line.Plain e) may t = event_plays p e (event_may c e may) t
  line_plays p (line.Drop a b) may t = waits_plays p _ t
  line_plays p line.Flow may t = flows_play flow_limit p t
  line_plays p (line.Run k) may t = rounds_play k p t
  line_plays p (line.Cut a b k) may t = record { may = t.may; same = t.same }
  line_plays p (line.Heal a b k) may t = record { may = t.may; same = t.same }

  lines_play : (ls : List Line) (p : Played) → LinesMay c.mode ls → Plays c p → Plays c (fold plays p ls)
  lines_play [] p may t = t
  lines_play (l ∷ ls) p may t = lines_play ls (plays p l) may.1 (line_plays p l may.0 t)

  played_plays : (ls : List Line) → LinesMay c.mode ls → Plays c (played c ls)
  unfolding played
  played_plays ls may = lines_play ls (record { world = relayed_new c; cuts = []; events = [] }) may (record { may = tt; same = refl })

  events_happen : (ls : List Line) → LinesMay c.mode ls → AllMayHappen c (events_of c ls)
  unfolding events_of
  events_happen ls may = (played_plays ls may).may

  events_come : (ls : List Line) → LinesMay c.mode ls → (played c ls).world.world.trace ≡ (fold relays (relayed_new c) (events_of c ls)).world.trace
  unfolding events_of
  events_come ls may = ap (λ (z : Relayed). z.world.trace) (played_plays ls may).same

-- ---- what the clients of the script answer

pub worded_events : (es : List Event) (r : Relayed) → events_in (worded_from r es) ≡ es
worded_events [] r = refl
worded_events (e ∷ es) r = ap (λ xs. e ∷ xs) (worded_events es (relays r e))

pub worded_comes : (es : List Event) (r : Relayed) → fold relays_on r (worded_from r es) ≡ fold relays r es
unfolding relays
worded_comes [] r = refl
worded_comes (e ∷ es) r = worded_comes es (relays r e)

-- ---- safe

safe_run : (c : Config) (es : List Event) → ((net : ℕ) → AddressesFit c net) → AllMayHappen c es → (trace : List Happened) → (fold relays (relayed_new c) es).world.trace ≡ trace → IsSafeRelayedScript c es (reverse_onto trace [])
unfolding all_worded relayed_records relayed_after
safe_run c es fit may trace e =
    let xs : List Answered = worded_from (relayed_new c) es in
    let s = relayed_runs_are_safe c xs (subst (AllMayHappen c) (sym (worded_events es (relayed_new c))) may) in
    let safe : IsSafe c s.0 (reverse_onto trace []) = subst (λ z. IsSafe c s.0 (reverse_onto z [])) (ap (λ (z : Relayed). z.world.trace) (worded_comes es (relayed_new c)) ∙ e) s.2 in
    record { direct = s.0; are = s.1; safe = safe; rings = λ net. safe.rings net (fit net); rings_seen = λ net. safe.rings_seen net (fit net) }

-- an input without `begin` has no run
if_begun : {A : Type 0} → A → A → Bool → A
if_begun x y true = x
if_begun x y false = y

pub every_relayed_play_is_safe : EveryRelayedPlayIsSafe
unfolding script_records played_records if_begun
every_relayed_play_is_safe s may begun =
    subst (λ b. IsSafeRelayedScript s.config (events_of s.config s.lines) (if_begun (played_records s.config s.lines) [] b)) (sym begun) (safe_run s.config (events_of s.config s.lines) may.addresses (events_happen s.config s.lines may.lines) _ (sym (events_come s.config s.lines may.lines)))

-- ---- up to the event whose datagrams pass a limit

-- the world after a front of the events
record Front (r : Relayed) (es : List Event) (v : Relayed) : Type 0 where
  front : List Event
  rest : List Event
  whole : es ≡ front ++ rest
  comes : v ≡ fold relays r front

-- it ends before the event, or goes on
abbrev ends_by : Relayed → Ended → Option ℕ → Ended
ends_by r z (Some n) = record { world = r; passed = Some n }
ends_by r z None = z

limited_front : (limit sum : ℕ) (r : Relayed) (es : List Event) → Front r es (runs_from limit sum r es).world
unfolding runs_from
limited_front limit sum r [] = record { front = []; rest = []; whole = refl; comes = refl }
limited_front limit sum r (e ∷ es) =
    let v : Relayed = relays r e in
    let b : Bytes = fold (with_parcel limit) (record { sum = sum; passed = None }) (left_since r v) in
    by (runs_from limit b.sum v es) b.passed (limited_front limit b.sum v es)
  where
    by : (z : Ended) (o : Option ℕ) → Front (relays r e) es z.world → Front r (e ∷ es) (ends_by r z o).world
    by z (Some n) f = record { front = []; rest = e ∷ es; whole = refl; comes = refl }
    by z None f = record { front = e ∷ f.front; rest = f.rest; whole = ap (λ zs. e ∷ zs) f.whole; comes = f.comes }

pub every_kept_relayed_play_is_safe : EveryKeptRelayedPlayIsSafe
unfolding kept_records ended runs_within if_begun
every_kept_relayed_play_is_safe limit s may begun =
    let c : Config = s.config in
    let es : List Event = events_of c s.lines in
    let z : Ended = runs_from limit 0 (relayed_new c) es in
    let f : Front (relayed_new c) es z.world = limited_front limit 0 (relayed_new c) es in
    let front : AllMayHappen c f.front = all_front c f.front f.rest (subst (AllMayHappen c) f.whole (events_happen c s.lines may.lines)) in
    let here : IsSafeRelayedScript c f.front (reverse_onto z.world.world.trace []) = safe_run c f.front may.addresses front z.world.world.trace (ap (λ (v : Relayed). v.world.trace) (sym f.comes)) in
    let none : Ended = record { world = relayed_new c; passed = None } in
    (f.front, f.rest, f.whole, subst (λ b. IsSafeRelayedScript c f.front (if_begun (reverse_onto (if_begun z none b).world.world.trace []) [] b)) (sym begun) here)
