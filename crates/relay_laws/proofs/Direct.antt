-- A run with relays, event by event, is one of the direct world.
use Rattle.std.proofs.Common.{◌≡◌, ℕ, false, List, [], ◌∷◌, ◌++◌, Some, refl, sym, ap, ◌∙◌, subst, append_assoc, append-nil}
use Rattle.std.proofs.lemmas.List.{map-append}
use Rattle.rsct_packet.specs.Lists.{reverse_onto}
use Rattle.rsct_packet.specs.Search.{Has}
use Rattle.node_state.specs.declared.config.Config.{Config}
use Rattle.node_state.specs.declared.packet.Packet.{Packet}
use Rattle.node_state.specs.HandOn.{Answering}
use Rattle.node_state.specs.Step.{Given}
use Rattle.world_model.specs.declared.event.Event.{Event}
use Rattle.world_model.specs.declared.event.Event.TheVariants as event
use Rattle.world_model.specs.World.{Node, World, node_at, kth_between}
use Rattle.world_laws.specs.world_runs.Runs.{SameRun}
use Rattle.world_laws.proofs.world_runs.Queue.{same_trace}
use Rattle.world_laws.specs.world_answers.Answers.{Answered, step_by, happens_by, events_in, answered_after, answered_records}
use Rattle.world_laws.proofs.world_answers.Waits.{same_goes}
use Rattle.world_safety.specs.Events.{MayHappen, AllMayHappen}
use Rattle.world_safety.specs.Scripts.{IsSafe}
use Rattle.world_safety.proofs.Scripts.{every_answer_is_safe}
use Rattle.world_safety.proofs.HeardStates.{answered_last}
use Rattle.relay_model.specs.Leaving.{Parcel, Bare, Wrapped}
use Rattle.relay_model.specs.Relays.{Relayed, datagram_between, relays_by, relayed_new, relayed_after, relayed_records}
use Rattle.relay_laws.specs.Carrying.{Carries, Brings, IsNotGiven, IsDirect, Nothing, Gives}
use Rattle.relay_laws.specs.Direct.{is_delivery, IsDirectOf, Itself, Hands, Moves, AreDirect, NoEvents, OneMore, RelayedRunsAreSafe}
use Rattle.relay_laws.proofs.Numbered.{AllNumbered, happens_numbered, new_numbered}
use Rattle.relay_laws.proofs.Delivering.{same_kth, step_delivers}
use Rattle.relay_runs.proofs.Grown.{settled_world}
use Rattle.relay_laws.proofs.Carrying.{events_carry, deliveries_are_direct}
use Rattle.relay_laws.proofs.Routes.{last_is}

-- ---- a packet that is brought was sent to the node

brought : (w : World) (a b : ℕ) (d : Parcel) (q : Packet) → Brings w a b d q → Has q w.sent × (q.to ≡ b)
brought w a b (Bare p) q h = subst (λ (z : Packet). Has z w.sent × (z.to ≡ b)) h.3 (h.0, h.2)
brought w a b (Wrapped f p) q h = subst (λ (z : Packet). Has z w.sent × (z.to ≡ b)) h.2 (h.1.sent, h.1.to ∙ h.0)

-- ---- a run so far

record Stands (c : Config) (es : List Answered) : Type 0 where
  direct : List Answered
  are : AreDirect c es direct
  may : AllMayHappen c (events_in direct)
  same : SameRun (relayed_after c es).world (answered_after c direct)
  carries : Carries (relayed_after c es)
  numbered : AllNumbered (answered_after c direct)

pub may_more : (c : Config) (es : List Event) (e : Event) → AllMayHappen c es → MayHappen c e → AllMayHappen c (es ++ e ∷ [])
may_more c [] e may here = (here, tt)
may_more c (x ∷ es) e may here = (may.0, may_more c es e may.1 here)

may_on : (c : Config) (xs : List Answered) (a : Answered) → AllMayHappen c (events_in xs) → MayHappen c a.event → AllMayHappen c (events_in (xs ++ a ∷ []))
may_on c xs a may here = subst (AllMayHappen c) (sym (map-append (λ (x : Answered). x.event) xs (a ∷ []))) (may_more c (events_in xs) a.event may here)

module _ (c : Config) (es : List Answered) (f : Answering) (t : Stands c es) where
  abbrev was : Relayed
  was = relayed_after c es

  abbrev below : World
  below = answered_after c t.direct

  abbrev answered : Event → Answered
  answered ev = record { event = ev; answers = f }

  -- an event of the direct world
  goes : (ev d : Event) → IsDirectOf was (answered ev) (answered d ∷ []) → MayHappen c d → SameRun (relays_by f was ev).world (happens_by f below d) → Stands c (es ++ answered ev ∷ [])
  goes ev d means may moved =
      let last = last_is c es (answered ev) in
      let now : answered_after c (t.direct ++ answered d ∷ []) ≡ happens_by f below d = answered_last c t.direct (answered d) in
      record {
        direct = t.direct ++ answered d ∷ [];
        are = OneMore es t.direct (answered ev) (answered d ∷ []) t.are means;
        may = may_on c t.direct (answered d) t.may may;
        same = subst (λ v. SameRun (relayed_after c (es ++ answered ev ∷ [])).world v) (sym now) (subst (λ v. SameRun v (happens_by f below d)) (sym (ap (λ (z : Relayed). z.world) last)) moved);
        carries = subst Carries (sym last) (events_carry f was ev t.carries);
        numbered = subst AllNumbered (sym now) (happens_numbered f below d t.numbered);
      }

  -- itself
  itself : (ev : Event) → is_delivery ev ≡ false → MayHappen c ev → (relays_by f was ev).world ≡ happens_by f was.world ev → Stands c (es ++ answered ev ∷ [])
  itself ev other may is = goes ev ev (Itself other) may (subst (λ v. SameRun v (happens_by f below ev)) (sym is) (same_goes was.world below (answered ev) t.same))

  -- none
  rests : (a b k : ℕ) → IsNotGiven was a b k → (relays_by f was (event.Deliver a b k)).world ≡ was.world → Stands c (es ++ answered (event.Deliver a b k) ∷ [])
  rests a b k not is =
      let e : Answered = answered (event.Deliver a b k) in
      let last = last_is c es e in
      record {
        direct = t.direct;
        are = subst (AreDirect c (es ++ e ∷ [])) (append-nil t.direct) (OneMore es t.direct e [] t.are (Moves a b k refl not));
        may = t.may;
        same = subst (λ v. SameRun v below) (sym (ap (λ (z : Relayed). z.world) last ∙ is)) t.same;
        carries = subst Carries (sym last) (events_carry f was (event.Deliver a b k) t.carries);
        numbered = t.numbered;
      }

  -- a packet is given that was sent
  gives : (a b k : ℕ) (x : Node) (d : Parcel) (q : Packet) → node_at was.world b ≡ Some x → datagram_between was a b k ≡ Some d → Brings was.world a b d q → (relays_by f was (event.Deliver a b k)).world ≡ step_by f was.world (Given q) x → Stands c (es ++ answered (event.Deliver a b k) ∷ [])
  gives a b k x d q up e brings is =
      let sent = brought was.world a b d q brings in
      let there : Has q below.sent = subst (Has q) (sym (ap (λ (z : World). z.sent) t.same)) sent.0 in
      let i = t.numbered q there in
      let kth : kth_between below q.from b i.0 ≡ Some q = subst (λ n. kth_between below q.from n i.0 ≡ Some q) sent.1 i.1 in
      let here : kth_between was.world q.from b i.0 ≡ Some q = sym (same_kth was.world below q.from b i.0 t.same) ∙ kth in
      let alike : SameRun (step_by f was.world (Given q) x) (happens_by f below (event.Deliver q.from b i.0)) = step_delivers f was.world below q.from b i.0 x q t.same up here in
      goes (event.Deliver a b k) (event.Deliver q.from b i.0) (Hands a b k i.0 d q refl e brings here) tt (subst (λ v. SameRun v (happens_by f below (event.Deliver q.from b i.0))) (sym is) alike)

  delivers : (a b k : ℕ) → Stands c (es ++ answered (event.Deliver a b k) ∷ [])
  delivers a b k = by (deliveries_are_direct f was a b k t.carries)
    where
      by : IsDirect f was a b k (relays_by f was (event.Deliver a b k)).world → Stands c (es ++ answered (event.Deliver a b k) ∷ [])
      by (Nothing not is) = rests a b k not is
      by (Gives x d q up e brings is) = gives a b k x d q up e brings is

-- ---- all events

event_stands : (c : Config) (es : List Answered) (f : Answering) (ev : Event) → MayHappen c ev → Stands c es → Stands c (es ++ record { event = ev; answers = f } ∷ [])
unfolding relays_by
event_stands c es f (event.Start n) may t = let w = (relayed_after c es).world in itself c es f t (event.Start n) refl may (settled_world (relayed_after c es) (happens_by f w (event.Start n)))
event_stands c es f (event.Stop n) may t = let w = (relayed_after c es).world in itself c es f t (event.Stop n) refl may (settled_world (relayed_after c es) (happens_by f w (event.Stop n)))
event_stands c es f (event.Tick n) may t = let w = (relayed_after c es).world in itself c es f t (event.Tick n) refl may (settled_world (relayed_after c es) (happens_by f w (event.Tick n)))
event_stands c es f (event.Ask n mask) may t = let w = (relayed_after c es).world in itself c es f t (event.Ask n mask) refl may (settled_world (relayed_after c es) (happens_by f w (event.Ask n mask)))
event_stands c es f (event.Call n x) may t = let w = (relayed_after c es).world in itself c es f t (event.Call n x) refl may (settled_world (relayed_after c es) (happens_by f w (event.Call n x)))
event_stands c es f (event.Show n what) may t = let w = (relayed_after c es).world in itself c es f t (event.Show n what) refl may (settled_world (relayed_after c es) (happens_by f w (event.Show n what)))
event_stands c es f (event.Garbage n bytes) may t = let w = (relayed_after c es).world in itself c es f t (event.Garbage n bytes) refl may (settled_world (relayed_after c es) (happens_by f w (event.Garbage n bytes)))
event_stands c es f (event.Deliver a b k) may t = delivers c es f t a b k

all_stand : (c : Config) (front rest : List Answered) → AllMayHappen c (events_in rest) → Stands c front → Stands c (front ++ rest)
all_stand c front [] may t = subst (Stands c) (sym (append-nil front)) t
all_stand c front (e ∷ rest) may t = subst (Stands c) (append_assoc front (e ∷ []) rest) (all_stand c (front ++ e ∷ []) rest may.1 (event_stands c front e.answers e.event may.0 t))

none_stands : (c : Config) → Stands c []
unfolding relayed_after relayed_new answered_after
none_stands c = record { direct = []; are = NoEvents; may = tt; same = refl; carries = λ x h d i. absurd h; numbered = new_numbered c }

-- the events of its direct run may happen
pub direct_may : (c : Config) (es : List Answered) → AllMayHappen c (events_in es) → (ds : List Answered) × AreDirect c es ds × AllMayHappen c (events_in ds)
direct_may c es may = let t = all_stand c [] es may (none_stands c) in (t.direct, t.are, t.may)

pub relayed_runs_are_safe : RelayedRunsAreSafe
unfolding answered_records relayed_records
relayed_runs_are_safe c es may =
    let t = all_stand c [] es may (none_stands c) in
    (t.direct, t.are, subst (IsSafe c t.direct) (ap (λ z. reverse_onto z []) (same_trace (relayed_after c es).world (answered_after c t.direct) t.same)) (every_answer_is_safe c t.direct t.may))
