-- A play only adds events, and its flow goes on packet by packet.
use Rattle.std.proofs.Common.{◌≡◌, ℕ, zero, suc, Bool, true, false, List, [], ◌∷◌, ◌++◌, refl, ap, ◌∙◌}
use Rattle.std.specs.Prelude.{fold, is_some}
use Rattle.rsct_packet.specs.Lists.{reverse_onto}
use Rattle.world_model.specs.declared.event.Event.{Event}
use Rattle.world_model.specs.declared.event.Event.TheVariants as event
use Rattle.world_model.specs.declared.script.Line.{Line}
use Rattle.world_model.specs.declared.script.Line.TheVariants as line
use Rattle.world_model.specs.World.{Node, Sent, node_at}
use Rattle.world_model.specs.Play.{Played, is_cut, in_world, with_event, flows_to, flows, flow_limit, all_tick, rounds, plays}
use Rattle.world_laws.specs.world_runs.Runs.{Happens}
use Rattle.world_laws.proofs.world_runs.Backwards.{reversed}

-- some events and then more
pub happens_then : (p q r : Played) (es fs : List Event) → Happens p q es → Happens q r fs → Happens p r (es ++ fs)
happens_then p q r es fs f g = g ∙ (ap (reverse_onto fs) f ∙ reversed es fs p.events)

abbrev Adds : Played → Played → Type 0
Adds p q = (es : List Event) × Happens p q es

adds_then : (p q r : Played) → Adds p q → Adds q r → Adds p r
adds_then p q r f g = (f.0 ++ g.0, happens_then p q r f.0 g.0 f.1 g.1)

-- ---- the flow

-- there is one more packet
pub flows_next : (n : ℕ) (p : Played) (x : Sent) (xs : List Sent) → p.world.queue ≡ x ∷ xs → flows (suc n) p ≡ flows n (flows_to p x xs (is_some (node_at p.world x.packet.to)) (is_cut p.cuts x.packet))
unfolding flows
flows_next n p x xs e =
    ap (λ (q : List Sent). elim q [ [] ↦ p | x ∷ xs ↦ flows n (flows_to p x xs (is_some (node_at p.world x.packet.to)) (is_cut p.cuts x.packet)) ]) e

-- no packet is left
pub flows_over : (n : ℕ) (p : Played) → p.world.queue ≡ [] → flows n p ≡ p
unfolding flows
flows_over zero p e = refl
flows_over (suc n) p e =
    ap (λ (q : List Sent). elim q [ [] ↦ p | x ∷ xs ↦ flows n (flows_to p x xs (is_some (node_at p.world x.packet.to)) (is_cut p.cuts x.packet)) ]) e

pub taken_happen : (p : Played) (x : Sent) (rest : List Sent) (up cut : Bool) → (es : List Event) × Happens p (flows_to p x rest up cut) es
unfolding flows_to in_world with_event
taken_happen p x rest false cut = ([], refl)
taken_happen p x rest true true = ([], refl)
taken_happen p x rest true false = (event.Deliver x.packet.from x.packet.to x.number ∷ [], refl)

flow_happens : (n : ℕ) (p : Played) (q : List Sent) → ((r : Played) → Adds r (flows n r))
    → Adds p (elim q [ [] ↦ p | x ∷ xs ↦ flows n (flows_to p x xs (is_some (node_at p.world x.packet.to)) (is_cut p.cuts x.packet)) ])
flow_happens n p [] rest = ([], refl)
flow_happens n p (x ∷ xs) rest =
    let up : Bool = is_some (node_at p.world x.packet.to) in
    let cut : Bool = is_cut p.cuts x.packet in
    let r : Played = flows_to p x xs up cut in
    adds_then p r (flows n r) (taken_happen p x xs up cut) (rest r)

pub flows_happen : (n : ℕ) (p : Played) → (es : List Event) × Happens p (flows n p) es
unfolding flows
flows_happen zero p = ([], refl)
flows_happen (suc n) p = flow_happens n p p.world.queue (λ r. flows_happen n r)

-- ---- rounds and lines

pub event_happens : (p : Played) (e : Event) → Happens p (with_event p e) (e ∷ [])
unfolding with_event
event_happens p e = refl

ticks_happen : (xs : List Node) (p : Played) → Adds p (fold (λ q (x : Node). with_event q (event.Tick x.core.views.me)) p xs)
ticks_happen [] p = ([], refl)
ticks_happen (x ∷ xs) p =
    let e : Event = event.Tick x.core.views.me in
    let q : Played = with_event p e in
    adds_then p q (fold (λ q (x : Node). with_event q (event.Tick x.core.views.me)) q xs) (e ∷ [], event_happens p e) (ticks_happen xs q)

pub all_tick_happen : (p : Played) → (es : List Event) × Happens p (all_tick p) es
unfolding all_tick
all_tick_happen p = ticks_happen p.world.nodes p

pub rounds_happen : (n : ℕ) (p : Played) → (es : List Event) × Happens p (rounds n p) es
unfolding rounds
rounds_happen zero p = ([], refl)
rounds_happen (suc n) p =
    let q : Played = all_tick p in
    let r : Played = flows flow_limit q in
    adds_then p r (rounds n r) (adds_then p q r (all_tick_happen p) (flows_happen flow_limit q)) (rounds_happen n r)

pub plays_happen : (p : Played) (l : Line) → (es : List Event) × Happens p (plays p l) es
unfolding plays in_world
plays_happen p (line.Plain e) = (e ∷ [], event_happens p e)
plays_happen p (line.Drop a b) = ([], refl)
plays_happen p line.Flow = flows_happen flow_limit p
plays_happen p (line.Run k) = rounds_happen k p
plays_happen p (line.Cut a b k) = ([], refl)
plays_happen p (line.Heal a b k) = ([], refl)

pub lines_happen : (ls : List Line) (p : Played) → (es : List Event) × Happens p (fold plays p ls) es
lines_happen [] p = ([], refl)
lines_happen (l ∷ ls) p = adds_then p (plays p l) (fold plays (plays p l) ls) (plays_happen p l) (lines_happen ls (plays p l))
