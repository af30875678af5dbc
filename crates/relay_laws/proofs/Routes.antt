-- By which nodes an envelope came, event by event.
use Rattle.std.proofs.Common.{◌≡◌, ◌+◌, ℕ, List, [], ◌∷◌, ◌++◌, length, Option, Some, None, refl, sym, ap, ◌∙◌, subst, arith, append_assoc, append-nil}
use Rattle.std.specs.Prelude.{IfSome}
use Rattle.std.proofs.lemmas.List.Sums.{fold-append}
use Rattle.node_reach.specs.Hops.{next_hop, IsNextHop}
use Rattle.node_reach.proofs.HopLaws.{hops_are_exact}
use Rattle.node_state.specs.declared.config.Config.{Config}
use Rattle.node_state.specs.declared.packet.Packet.{Packet}
use Rattle.node_state.specs.declared.state.Core.{Core}
use Rattle.node_state.specs.HandOn.{Answering}
use Rattle.node_state.specs.Step.{Given}
use Rattle.route_state.specs.declared.front.Front.{Front}
use Rattle.route_state.specs.Envelope.{max_hops}
use Rattle.route_state.specs.Way.{Course, course}
use Rattle.world_model.specs.declared.event.Event.{Event}
use Rattle.world_model.specs.declared.event.Event.TheVariants as event
use Rattle.world_model.specs.World.{Node, World, node_at}
use Rattle.world_laws.specs.world_answers.Answers.{Answered, step_by, happens_by}
use Rattle.relay_model.specs.Leaving.{Parcel, Bare, Wrapped, Leaving}
use Rattle.relay_model.specs.Relays.{Relayed, datagram_between, handled, core_of, core_in, settled, given_to, passed, takes_course, comes_to, arrives_if, relays_by, relays_on, relayed_new, relayed_after}
use Rattle.relay_laws.specs.Carrying.{EachDatagram}
use Rattle.relay_laws.specs.Routes.{Hopped, AreHops, Routed, RoutedBy, EnvelopesAreRouted}
use Rattle.relay_laws.proofs.Leaving.{LeavesBy, Alone, Around, leaves_by, CourseIs, Comes, Passes, Stops, course_is}
use Rattle.relay_runs.proofs.Grown.{settled_world}
use Rattle.relay_laws.proofs.Datagrams.{leaves_hold, settled_hold, datagram_holds}

-- ---- a run, an event more

pub last_is : (c : Config) (es : List Answered) (e : Answered) → relayed_after c (es ++ e ∷ []) ≡ relays_on (relayed_after c es) e
unfolding relayed_after
last_is c es e = fold-append relays_on (relayed_new c) es (e ∷ [])

-- ---- a moment later

hopped_on : (c : Config) (es : List Answered) (e : Answered) (target from to : ℕ) → Hopped c es target from to → Hopped c (es ++ e ∷ []) target from to
hopped_on c es e target from to h =
    record { front = h.front; rest = h.rest ++ e ∷ []; whole = ap (λ xs. xs ++ e ∷ []) h.whole ∙ append_assoc h.front h.rest (e ∷ []); core = h.core; up = h.up; hop = h.hop; shortest = h.shortest }

hops_on : (c : Config) (es : List Answered) (e : Answered) (target to : ℕ) (ns : List ℕ) → AreHops c es target to ns → AreHops c (es ++ e ∷ []) target to ns
hops_on c es e target to [] h = tt
hops_on c es e target to (n ∷ ns) h = (hopped_on c es e target n to h.0, hops_on c es e target n ns h.1)

routed_on : (c : Config) (es : List Answered) (e : Answered) (a b : ℕ) (d : Parcel) → RoutedBy c es a b d → RoutedBy c (es ++ e ∷ []) a b d
routed_on c es e a b (Bare p) h = tt
routed_on c es e a b (Wrapped f p) h = record { before = h.before; hops = hops_on c es e f.target b (a ∷ h.before) h.hops; origin = h.origin; left = h.left }

-- ---- an envelope leaves a node, by its rows as they are

module _ (c : Config) (es : List Answered) where
  hopped_now : (target from to : ℕ) (s : Core) → core_in (relayed_after c es).world from ≡ Some s → next_hop s.reach target ≡ Some to → Hopped c es target from to
  hopped_now target from to s up hop = record { front = es; rest = []; whole = sym (append-nil es); core = s; up = up; hop = hop; shortest = subst (λ o. IfSome o (λ n. IsNextHop s.reach target n)) hop (hops_are_exact s.reach target).some }

  -- its origin
  left_routed : (p : Packet) (d : Leaving) → LeavesBy (core_in (relayed_after c es).world p.from) p d → RoutedBy c es d.from d.to d.parcel
  left_routed p _ Alone = tt
  left_routed p _ (Around s hop up may e) = record { before = []; hops = (hopped_now p.to p.from hop s up e, tt); origin = refl; left = refl }

  -- a node in its middle, to which it came from a
  passed_routed : (a b to : ℕ) (s : Core) (f g : Front) → core_in (relayed_after c es).world b ≡ Some s → next_hop s.reach f.target ≡ Some to → g.hops + 1 ≡ f.hops → g.origin ≡ f.origin → g.target ≡ f.target → Routed c es a b f → Routed c es b to g
  passed_routed a b to s f g up hop less origin target h =
      let had : length h.before + f.hops ≡ max_hops = h.left in
      record {
        before = a ∷ h.before;
        hops = subst (λ t. AreHops c es t to (b ∷ a ∷ h.before)) (sym target) (hopped_now f.target b to s up hop, h.hops);
        origin = h.origin ∙ sym origin;
        left = omega (arith, had, less);
      }

-- ---- an event

module _ (c : Config) (es : List Answered) (f : Answering) (ev : Event) where
  abbrev this : Answered
  this = record { event = ev; answers = f }

  abbrev then : List Answered
  then = es ++ this ∷ []

  abbrev was : Relayed
  was = relayed_after c es

  abbrev Before : Relayed → Type 0
  Before r = EachDatagram (RoutedBy c es) r.pairs

  abbrev After : Relayed → Type 0
  After r = EachDatagram (RoutedBy c then) r.pairs

  old_on : Before was → After was
  old_on k x h d i = routed_on c es this x.from x.to d (k x h d i)

  -- where the event made the direct world into w, what its step sent went out
  settled_routed : (r : Relayed) (w : World) → relays_by f was ev ≡ settled r w → After r → After (settled r w)
  settled_routed r w is k = settled_hold (RoutedBy c then) r w k (λ p sent d e. left_routed c then p d (subst (λ o. LeavesBy o p d) (sym (now p)) (leaves_by (core_in w p.from) p d e)))
    where
      now : (p : Packet) → core_in (relayed_after c then).world p.from ≡ core_in w p.from
      now p = ap (λ (z : Relayed). core_in z.world p.from) (last_is c es this ∙ is) ∙ ap (λ v. core_in v p.from) (settled_world r w)

  happens_routed : relays_by f was ev ≡ settled was (happens_by f was.world ev) → Before was → After (settled was (happens_by f was.world ev))
  happens_routed is k = settled_routed was (happens_by f was.world ev) is (old_on k)

  given_routed : (r : Relayed) (x : Node) (p : Packet) → relays_by f was ev ≡ given_to f r x p → After r → After (given_to f r x p)
  unfolding given_to
  given_routed r x p is k = settled_routed r (step_by f r.world (Given p) x) is k

  course_routed : (a b k : ℕ) (x : Node) (g : Front) (p : Packet) → core_in was.world b ≡ Some x.core → Routed c es a b g → After was → (cs : Course) → CourseIs b x.core.reach g cs → relays_by f was ev ≡ takes_course f (handled was a b k) b x p cs → After (takes_course f (handled was a b k) b x p cs)
  unfolding takes_course handled
  course_routed a b k x g p up h old _ (Comes there) is = given_routed (handled was a b k) x p is old
  course_routed a b k x g p up h old _ (Passes to l other hop less origin target) is =
      leaves_hold (RoutedBy c then) (handled was a b k) (passed x.core b to l p) old (routed_on c es this b to (Wrapped l p) (passed_routed c es a b to x.core g l up hop less origin target h))
  course_routed a b k x g p up h old _ (Stops other) is = old

  comes_routed : (a b k : ℕ) (x : Node) → core_in was.world b ≡ Some x.core → After was → (d : Parcel) → RoutedBy c es a b d → relays_by f was ev ≡ comes_to f (handled was a b k) b x d → After (comes_to f (handled was a b k) b x d)
  unfolding comes_to handled
  comes_routed a b k x up old (Bare p) h is = given_routed (handled was a b k) x p is old
  comes_routed a b k x up old (Wrapped g p) h is = course_routed a b k x g p up h old (course b x.core.reach g) (course_is b x.core.reach g) is

  arrive_routed : (a b k : ℕ) → Before was → (o : Option Node) → node_at was.world b ≡ o → (d : Option Parcel) → datagram_between was a b k ≡ d → relays_by f was ev ≡ arrives_if f was a b k o d → After (arrives_if f was a b k o d)
  unfolding arrives_if
  arrive_routed a b k old None up d e is = old_on old
  arrive_routed a b k old (Some x) up None e is = old_on old
  arrive_routed a b k old (Some x) up (Some d) e is = comes_routed a b k x (ap core_of up) (old_on old) d (datagram_holds (RoutedBy c es) was a b k old d e) is

event_routed : (c : Config) (es : List Answered) (f : Answering) (ev : Event) → EachDatagram (RoutedBy c es) (relayed_after c es).pairs → EachDatagram (RoutedBy c (es ++ record { event = ev; answers = f } ∷ [])) (relays_by f (relayed_after c es) ev).pairs
unfolding relays_by
event_routed c es f (event.Start n) k = happens_routed c es f (event.Start n) refl k
event_routed c es f (event.Stop n) k = happens_routed c es f (event.Stop n) refl k
event_routed c es f (event.Tick n) k = happens_routed c es f (event.Tick n) refl k
event_routed c es f (event.Ask n mask) k = happens_routed c es f (event.Ask n mask) refl k
event_routed c es f (event.Call n x) k = happens_routed c es f (event.Call n x) refl k
event_routed c es f (event.Show n what) k = happens_routed c es f (event.Show n what) refl k
event_routed c es f (event.Garbage n bytes) k = happens_routed c es f (event.Garbage n bytes) refl k
event_routed c es f (event.Deliver a b i) k = let r = relayed_after c es in arrive_routed c es f (event.Deliver a b i) a b i k (node_at r.world b) refl (datagram_between r a b i) refl refl

all_routed : (c : Config) (front rest : List Answered) → EachDatagram (RoutedBy c front) (relayed_after c front).pairs → EachDatagram (RoutedBy c (front ++ rest)) (relayed_after c (front ++ rest)).pairs
all_routed c front [] k = subst (λ es. EachDatagram (RoutedBy c es) (relayed_after c es).pairs) (sym (append-nil front)) k
all_routed c front (e ∷ rest) k =
    let one : EachDatagram (RoutedBy c (front ++ e ∷ [])) (relayed_after c (front ++ e ∷ [])).pairs = subst (λ (z : Relayed). EachDatagram (RoutedBy c (front ++ e ∷ [])) z.pairs) (sym (last_is c front e)) (event_routed c front e.answers e.event k) in
    subst (λ es. EachDatagram (RoutedBy c es) (relayed_after c es).pairs) (append_assoc front (e ∷ []) rest) (all_routed c (front ++ e ∷ []) rest one)

-- at first nothing has left a node
none_routed : (c : Config) → EachDatagram (RoutedBy c []) (relayed_after c []).pairs
unfolding relayed_after relayed_new
none_routed c x h d i = absurd h

pub envelopes_are_routed : EnvelopesAreRouted
envelopes_are_routed c es = all_routed c [] es (none_routed c)
