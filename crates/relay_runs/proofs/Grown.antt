-- Whatever clients answer, what is recorded is only added to; and what leaves the nodes changes nothing else of the direct world.
use Rattle.std.proofs.Common.{◌≡◌, ℕ, List, [], ◌∷◌, Option, Some, None, refl, ◌∙◌, ap}
use Rattle.std.specs.Prelude.{fold}
use Rattle.node_state.specs.declared.happened.Happened.{Happened}
use Rattle.node_state.specs.declared.packet.Packet.{Packet}
use Rattle.node_state.specs.HandOn.{Answering}
use Rattle.node_state.specs.Step.{Given, stepped}
use Rattle.route_state.specs.Way.{Course, Arrives, GoesOn, Ends, course}
use Rattle.world_model.specs.declared.event.Event.{Event}
use Rattle.world_model.specs.declared.event.Event.TheVariants as event
use Rattle.world_model.specs.World.{Node, World, node_at}
use Rattle.world_model.specs.Kept.{sent_since}
use Rattle.world_laws.specs.world_runs.Runs.{Recorded}
use Rattle.world_laws.proofs.world_runs.Traces.{after_records}
use Rattle.world_laws.specs.world_answers.Answers.{step_by, happens_by}
use Rattle.world_laws.proofs.world_answers.Grown as direct
use Rattle.relay_model.specs.Leaving.{Parcel, Bare, Wrapped, Leaving}
use Rattle.relay_model.specs.Relays.{Relayed, leaves, datagram_between, handled, leaving_in, leaves_if, sends, settled, given_to, passed, takes_course, comes_to, arrives_if, relays_by}

-- ---- the direct world stays

pub leaves_world : (r : Relayed) (d : Leaving) → (leaves r d).world ≡ r.world
unfolding leaves
leaves_world r d = refl

if_world : (r : Relayed) (o : Option Leaving) → (leaves_if r o).world ≡ r.world
if_world r None = refl
if_world r (Some d) = leaves_world r d

all_world : (w : World) (ps : List Packet) (r : Relayed) → (fold (sends w) r ps).world ≡ r.world
unfolding sends
all_world w [] r = refl
all_world w (p ∷ ps) r = all_world w ps (leaves_if r (leaving_in w p)) ∙ if_world r (leaving_in w p)

pub settled_world : (r : Relayed) (w : World) → (settled r w).world ≡ w
unfolding settled
settled_world r w = all_world w (sent_since r.world w) (record r { world = w })

-- ---- what is recorded

abbrev pub Grows : Relayed → Relayed → Type 0
Grows r v = (rs : List Happened) × Recorded r.world v.world rs

-- as the direct world does
as_direct : (r v : Relayed) (w : World) → v.world ≡ w → (rs : List Happened) × Recorded r.world w rs → Grows r v
as_direct r v w e g = (g.0, ap (λ (z : World). z.trace) e ∙ g.1)

still : (r v : Relayed) → v.world ≡ r.world → Grows r v
still r v e = as_direct r v r.world e ([], refl)

module _ (f : Answering) where
  given_grows : (r : Relayed) (x : Node) (p : Packet) → Grows r (given_to f r x p)
  unfolding given_to step_by
  given_grows r x p = as_direct r (given_to f r x p) (step_by f r.world (Given p) x) (settled_world r (step_by f r.world (Given p) x)) ((stepped f x.core (Given p)).records, after_records r.world x.scripts (stepped f x.core (Given p)))

  course_grows : (r : Relayed) (b : ℕ) (x : Node) (p : Packet) (c : Course) → Grows r (takes_course f r b x p c)
  unfolding takes_course
  course_grows r b x p Arrives = given_grows r x p
  course_grows r b x p (GoesOn to g) = still r (leaves r (passed x.core b to g p)) (leaves_world r (passed x.core b to g p))
  course_grows r b x p Ends = ([], refl)

  comes_grow : (r : Relayed) (b : ℕ) (x : Node) (d : Parcel) → Grows r (comes_to f r b x d)
  unfolding comes_to
  comes_grow r b x (Bare p) = given_grows r x p
  comes_grow r b x (Wrapped g p) = course_grows r b x p (course b x.core.reach g)

  arrivals_grow : (r : Relayed) (a b k : ℕ) (o : Option Node) (d : Option Parcel) → Grows r (arrives_if f r a b k o d)
  unfolding arrives_if handled
  arrivals_grow r a b k None d = ([], refl)
  arrivals_grow r a b k (Some x) None = ([], refl)
  arrivals_grow r a b k (Some x) (Some d) = comes_grow (handled r a b k) b x d

  settled_grows : (r : Relayed) (e : Event) → Grows r (settled r (happens_by f r.world e))
  settled_grows r e = as_direct r (settled r (happens_by f r.world e)) (happens_by f r.world e) (settled_world r (happens_by f r.world e)) (direct.grows_by f r.world e)

  pub grows_by : (r : Relayed) (e : Event) → Grows r (relays_by f r e)
  unfolding relays_by
  grows_by r (event.Start n) = settled_grows r (event.Start n)
  grows_by r (event.Stop n) = settled_grows r (event.Stop n)
  grows_by r (event.Tick n) = settled_grows r (event.Tick n)
  grows_by r (event.Ask n mask) = settled_grows r (event.Ask n mask)
  grows_by r (event.Call n x) = settled_grows r (event.Call n x)
  grows_by r (event.Show n what) = settled_grows r (event.Show n what)
  grows_by r (event.Garbage n bytes) = settled_grows r (event.Garbage n bytes)
  grows_by r (event.Deliver a b k) = arrivals_grow r a b k (node_at r.world b) (datagram_between r a b k)
