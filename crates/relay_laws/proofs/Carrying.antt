-- What the datagrams carry, event by event, and what each delivery is in the direct world.
use Rattle.std.proofs.Common.{◌≡◌, ℕ, true, Option, Some, None, refl, sym, ap, ◌∙◌, subst}
use Rattle.rsct_packet.specs.Search.{Has}
use Rattle.node_state.specs.declared.packet.Packet.{Packet}
use Rattle.node_state.specs.declared.state.Core.{Core}
use Rattle.node_state.specs.HandOn.{Answering}
use Rattle.node_state.specs.Step.{Given}
use Rattle.route_state.specs.declared.front.Front.{Front}
use Rattle.route_state.specs.Relaying.{may_relay, on_one}
use Rattle.route_state.specs.Way.{Course, course}
use Rattle.route_state.proofs.NetworkLaws.{network_is_not_read}
use Rattle.world_model.specs.declared.event.Event.{Event}
use Rattle.world_model.specs.declared.event.Event.TheVariants as event
use Rattle.world_model.specs.World.{Node, World, node_at, after_step}
use Rattle.world_laws.specs.world_answers.Answers.{step_by, happens_by}
use Rattle.relay_model.specs.Leaving.{Parcel, Bare, Wrapped, Leaving}
use Rattle.relay_model.specs.Relays.{Relayed, leaves, datagram_between, handled, core_in, settled, given_to, passed, takes_course, comes_to, arrives_if, relays_by}
use Rattle.relay_laws.specs.Carrying.{Handed, CarriedBy, EachDatagram, Carries, EventsCarry, Down, Unsent, Elsewhere, IsDirect, Nothing, Gives, DeliveriesAreDirect}
use Rattle.relay_laws.proofs.Holding.{step_keeps, happens_keeps}
use Rattle.relay_laws.proofs.Leaving.{LeavesBy, Alone, Around, leaves_by, CourseIs, Comes, Passes, Stops, course_is}
use Rattle.relay_runs.proofs.Grown.{leaves_world, settled_world}
use Rattle.relay_laws.proofs.Datagrams.{leaves_hold, settled_hold, datagram_holds}

-- ---- what leaves a node

later : (w v : World) → ((p : Packet) → Has p w.sent → Has p v.sent) → (a b : ℕ) (d : Parcel) → CarriedBy w a b d → CarriedBy v a b d
later w v old a b (Bare p) h = (old p h.0, h.1, h.2)
later w v old a b (Wrapped f p) h = record { packet = h.packet; sent = old h.packet h.sent; from = h.from; to = h.to; relays = h.relays; is = h.is }

left_carried : (w : World) (o : Option Core) (p : Packet) → Has p w.sent → (d : Leaving) → LeavesBy o p d → CarriedBy w d.from d.to d.parcel
left_carried w o p sent _ Alone = (sent, refl, refl)
left_carried w o p sent _ (Around s hop up may e) = record { packet = p; sent = sent; from = refl; to = refl; relays = may; is = refl }

settled_carries : (r : Relayed) (w : World) → ((p : Packet) → Has p r.world.sent → Has p w.sent) → Carries r → Carries (settled r w)
settled_carries r w old k =
    subst (λ v. EachDatagram (CarriedBy v) (settled r w).pairs) (sym (settled_world r w))
    (settled_hold (CarriedBy w) r w (λ x i d h. later r.world w old x.from x.to d (k x i d h)) (λ p sent d e. left_carried w (core_in w p.from) p sent d (leaves_by (core_in w p.from) p d e)))

-- ---- deliveries

given_carries : (f : Answering) (r : Relayed) (x : Node) (p : Packet) → Carries r → Carries (given_to f r x p)
unfolding given_to
given_carries f r x p k = settled_carries r (step_by f r.world (Given p) x) (step_keeps f r.world (Given p) x) k

-- an envelope that goes on has its origin and its target still
handed_on : (w : World) (f g : Front) (p : Packet) → g.origin ≡ f.origin → g.target ≡ f.target → Handed w f p → Handed w g p
handed_on w f g p e i h = record { packet = h.packet; sent = h.sent; from = h.from ∙ sym e; to = h.to ∙ sym i; relays = h.relays; is = h.is }

course_carries : (f : Answering) (r : Relayed) (b : ℕ) (x : Node) (g : Front) (p : Packet) → Handed r.world g p → Carries r → (c : Course) → CourseIs b x.core.reach g c → Carries (takes_course f r b x p c)
unfolding takes_course
course_carries f r b x g p h k _ (Comes e) = given_carries f r x p k
course_carries f r b x g p h k _ (Passes to l other hop less origin target) =
    subst (λ v. EachDatagram (CarriedBy v) (leaves r (passed x.core b to l p)).pairs) (sym (leaves_world r (passed x.core b to l p)))
    (leaves_hold (CarriedBy r.world) r (passed x.core b to l p) k (handed_on r.world g l p origin target h))
course_carries f r b x g p h k _ (Stops other) = k

comes_carry : (f : Answering) (r : Relayed) (a b : ℕ) (x : Node) (d : Parcel) → CarriedBy r.world a b d → Carries r → Carries (comes_to f r b x d)
unfolding comes_to
comes_carry f r a b x (Bare p) c k = given_carries f r x p k
comes_carry f r a b x (Wrapped g p) c k = course_carries f r b x g p c k (course b x.core.reach g) (course_is b x.core.reach g)

arrive_carries : (f : Answering) (r : Relayed) (a b k : ℕ) → Carries r → (o : Option Node) (d : Option Parcel) → datagram_between r a b k ≡ d → Carries (arrives_if f r a b k o d)
unfolding arrives_if handled
arrive_carries f r a b k c None d e = c
arrive_carries f r a b k c (Some x) None e = c
arrive_carries f r a b k c (Some x) (Some d) e = comes_carry f (handled r a b k) a b x d (datagram_holds (CarriedBy r.world) r a b k c d e) c

-- ---- the first law

happens_carries : (f : Answering) (r : Relayed) (e : Event) → Carries r → Carries (settled r (happens_by f r.world e))
happens_carries f r e k = settled_carries r (happens_by f r.world e) (happens_keeps f r.world e) k

pub events_carry : EventsCarry
unfolding relays_by
events_carry f r (event.Start n) k = happens_carries f r (event.Start n) k
events_carry f r (event.Stop n) k = happens_carries f r (event.Stop n) k
events_carry f r (event.Tick n) k = happens_carries f r (event.Tick n) k
events_carry f r (event.Ask n mask) k = happens_carries f r (event.Ask n mask) k
events_carry f r (event.Call n c) k = happens_carries f r (event.Call n c) k
events_carry f r (event.Show n what) k = happens_carries f r (event.Show n what) k
events_carry f r (event.Deliver a b i) k = arrive_carries f r a b i k (node_at r.world b) (datagram_between r a b i) refl
events_carry f r (event.Garbage n bytes) k = happens_carries f r (event.Garbage n bytes) k

-- ---- the second

-- a step does not read on which network the packet of an envelope came
pub same_step : (f : Answering) (w : World) (x : Node) (q : Packet) → may_relay q.body ≡ true → step_by f w (Given (on_one q)) x ≡ step_by f w (Given q) x
unfolding step_by
same_step f w x q may = ap (after_step w x.scripts) (network_is_not_read f x.core q may)

pub given_world : (f : Answering) (r : Relayed) (x : Node) (p : Packet) → (given_to f r x p).world ≡ step_by f r.world (Given p) x
unfolding given_to
given_world f r x p = settled_world r (step_by f r.world (Given p) x)

module _ (f : Answering) (r : Relayed) (a b k : ℕ) (x : Node) (up : node_at r.world b ≡ Some x) where
  own_direct : (g : Front) (p : Packet) → datagram_between r a b k ≡ Some (Wrapped g p) → (h : Handed r.world g p) → g.target ≡ b → IsDirect f r a b k (given_to f (handled r a b k) x p).world
  unfolding handled
  own_direct g p e h there =
      Gives x (Wrapped g p) h.packet up e (there, h, refl)
      (given_world f (handled r a b k) x p ∙ (ap (λ z. step_by f r.world (Given z) x) h.is ∙ same_step f r.world x h.packet h.relays))

  course_direct : (g : Front) (p : Packet) → datagram_between r a b k ≡ Some (Wrapped g p) → Handed r.world g p → (c : Course) → CourseIs b x.core.reach g c → IsDirect f r a b k (takes_course f (handled r a b k) b x p c).world
  unfolding takes_course handled
  course_direct g p e h _ (Comes there) = own_direct g p e h there
  course_direct g p e h _ (Passes to l other hop less origin target) = Nothing (Elsewhere g p e other) (leaves_world (handled r a b k) (passed x.core b to l p))
  course_direct g p e h _ (Stops other) = Nothing (Elsewhere g p e other) refl

  comes_direct : (d : Parcel) → datagram_between r a b k ≡ Some d → CarriedBy r.world a b d → IsDirect f r a b k (comes_to f (handled r a b k) b x d).world
  unfolding comes_to handled
  comes_direct (Bare p) e c = Gives x (Bare p) p up e (c.0, c.1, c.2, refl) (given_world f (handled r a b k) x p)
  comes_direct (Wrapped g p) e c = course_direct g p e c (course b x.core.reach g) (course_is b x.core.reach g)

arrive_direct : (f : Answering) (r : Relayed) (a b k : ℕ) → Carries r → (o : Option Node) → node_at r.world b ≡ o → (d : Option Parcel) → datagram_between r a b k ≡ d → IsDirect f r a b k (arrives_if f r a b k o d).world
unfolding arrives_if
arrive_direct f r a b k c None up d e = Nothing (Down up) refl
arrive_direct f r a b k c (Some x) up None e = Nothing (Unsent e) refl
arrive_direct f r a b k c (Some x) up (Some d) e = comes_direct f r a b k x up d e (datagram_holds (CarriedBy r.world) r a b k c d e)

pub deliveries_are_direct : DeliveriesAreDirect
unfolding relays_by
deliveries_are_direct f r a b k c = arrive_direct f r a b k c (node_at r.world b) refl (datagram_between r a b k) refl
