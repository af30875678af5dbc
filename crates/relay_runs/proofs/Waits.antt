-- What waits in a world with relays is not read by what happens in it.
use Rattle.std.proofs.Common.{◌≡◌, ℕ, List, [], ◌∷◌, Option, Some, None, refl, sym, subst}
use Rattle.std.specs.Prelude.{fold, find}
use Rattle.node_state.specs.declared.packet.Packet.{Packet}
use Rattle.node_state.specs.HandOn.{Answering}
use Rattle.node_state.specs.Step.{Given}
use Rattle.route_state.specs.Way.{Course, Arrives, GoesOn, Ends, course}
use Rattle.world_model.specs.declared.event.Event.{Event}
use Rattle.world_model.specs.declared.event.Event.TheVariants as event
use Rattle.world_model.specs.World.{Node, World, node_at}
use Rattle.world_model.specs.Kept.{sent_since}
use Rattle.world_laws.specs.world_answers.Answers.{Answered, step_by, happens_by}
use Rattle.relay_model.specs.Leaving.{Parcel, Bare, Wrapped, Leaving}
use Rattle.relay_model.specs.Relays.{Sent, Relayed, is_pair, leaves, datagram_in, datagram_between, handled, leaving_in, leaves_if, sends, settled, given_to, passed, takes_course, comes_to, arrives_if, relays_by, relays_on}
use Rattle.relay_model.specs.Play.{relays}
use Rattle.relay_runs.specs.Runs.{SameRelayed}

-- what holds of each change of what waits holds of two worlds that differ by it
same_by : (f : Relayed → Relayed) → ((r : Relayed) (q : List Sent) → SameRelayed (f r) (f (record r { queue = q }))) → (r v : Relayed) → SameRelayed r v → SameRelayed (f r) (f v)
same_by f law r v h = subst (λ z. SameRelayed (f r) (f z)) (sym h) (law r v.queue)

leave_same : (r v : Relayed) (d : Leaving) → SameRelayed r v → SameRelayed (leaves r d) (leaves v d)
unfolding leaves
leave_same r v d h = same_by (λ z. leaves z d) (λ z q. refl) r v h

if_same : (r v : Relayed) (o : Option Leaving) → SameRelayed r v → SameRelayed (leaves_if r o) (leaves_if v o)
if_same r v None h = h
if_same r v (Some d) h = leave_same r v d h

sends_same : (w : World) (ps : List Packet) (r v : Relayed) → SameRelayed r v → SameRelayed (fold (sends w) r ps) (fold (sends w) v ps)
unfolding sends
sends_same w [] r v h = h
sends_same w (p ∷ ps) r v h = sends_same w ps (leaves_if r (leaving_in w p)) (leaves_if v (leaving_in w p)) (if_same r v (leaving_in w p) h)

settled_alike : (r : Relayed) (q : List Sent) (w : World) → SameRelayed (settled r w) (settled (record r { queue = q }) w)
unfolding settled
settled_alike r q w = sends_same w (sent_since r.world w) (record r { world = w }) (record r { queue = q; world = w }) refl

module _ (f : Answering) where
  given_alike : (r : Relayed) (q : List Sent) (x : Node) (p : Packet) → SameRelayed (given_to f r x p) (given_to f (record r { queue = q }) x p)
  unfolding given_to
  given_alike r q x p = settled_alike r q (step_by f r.world (Given p) x)

  course_alike : (r : Relayed) (q : List Sent) (b : ℕ) (x : Node) (p : Packet) (c : Course) → SameRelayed (takes_course f r b x p c) (takes_course f (record r { queue = q }) b x p c)
  unfolding takes_course
  course_alike r q b x p Arrives = given_alike r q x p
  course_alike r q b x p (GoesOn to g) = leave_same r (record r { queue = q }) (passed x.core b to g p) refl
  course_alike r q b x p Ends = refl

  comes_alike : (r : Relayed) (q : List Sent) (b : ℕ) (x : Node) (d : Parcel) → SameRelayed (comes_to f r b x d) (comes_to f (record r { queue = q }) b x d)
  unfolding comes_to
  comes_alike r q b x (Bare p) = given_alike r q x p
  comes_alike r q b x (Wrapped g p) = course_alike r q b x p (course b x.core.reach g)

  arrive_alike : (r : Relayed) (q : List Sent) (a b k : ℕ) (o : Option Node) (d : Option Parcel) → SameRelayed (arrives_if f r a b k o d) (arrives_if f (record r { queue = q }) a b k o d)
  unfolding arrives_if handled
  arrive_alike r q a b k None d = refl
  arrive_alike r q a b k (Some x) None = refl
  arrive_alike r q a b k (Some x) (Some d) = same_by (λ z. comes_to f z b x d) (λ z p. comes_alike z p b x d) (handled r a b k) (handled (record r { queue = q }) a b k) refl

  relays_alike : (r : Relayed) (q : List Sent) (e : Event) → SameRelayed (relays_by f r e) (relays_by f (record r { queue = q }) e)
  unfolding relays_by datagram_between
  relays_alike r q (event.Start n) = settled_alike r q (happens_by f r.world (event.Start n))
  relays_alike r q (event.Stop n) = settled_alike r q (happens_by f r.world (event.Stop n))
  relays_alike r q (event.Tick n) = settled_alike r q (happens_by f r.world (event.Tick n))
  relays_alike r q (event.Ask n mask) = settled_alike r q (happens_by f r.world (event.Ask n mask))
  relays_alike r q (event.Call n x) = settled_alike r q (happens_by f r.world (event.Call n x))
  relays_alike r q (event.Show n what) = settled_alike r q (happens_by f r.world (event.Show n what))
  relays_alike r q (event.Garbage n bytes) = settled_alike r q (happens_by f r.world (event.Garbage n bytes))
  relays_alike r q (event.Deliver a b k) = arrive_alike r q a b k (node_at r.world b) (datagram_in k (find (is_pair a b) r.pairs))

pub same_goes : (r v : Relayed) (e : Answered) → SameRelayed r v → SameRelayed (relays_on r e) (relays_on v e)
same_goes r v e h = same_by (λ z. relays_by e.answers z e.event) (λ z q. relays_alike e.answers z q e.event) r v h

-- whose clients vote by the words of a script
pub same_relays : (r v : Relayed) (e : Event) → SameRelayed r v → SameRelayed (relays r e) (relays v e)
unfolding relays
same_relays r v e h = same_by (λ z. relays z e) (λ z q. relays_alike _ z q e) r v h
