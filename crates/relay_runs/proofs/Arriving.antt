-- A datagram that comes to a node.
use Rattle.std.proofs.Common.{◌≡◌, ℕ, Option, Some, None, refl, ap, ◌∙◌}
use Rattle.node_state.specs.HandOn.{Answering}
use Rattle.world_model.specs.declared.event.Event.TheVariants as event
use Rattle.world_model.specs.World.{Node, node_at}
use Rattle.relay_model.specs.Leaving.{Parcel, Bare, Wrapped}
use Rattle.relay_model.specs.Relays.{Relayed, datagram_between, handled, takes_course, comes_to, arrives_if, relays_by}
use Rattle.relay_runs.specs.Arrivals.{carried, course_of}

pub comes_by_course : (f : Answering) (r : Relayed) (b : ℕ) (x : Node) (d : Parcel) → comes_to f r b x d ≡ takes_course f r b x (carried d) (course_of b x.core.reach d)
unfolding comes_to takes_course
comes_by_course f r b x (Bare p) = refl
comes_by_course f r b x (Wrapped g p) = refl

-- the node is up, and there is such a datagram
pub arrives_at : (f : Answering) (r : Relayed) (a b k : ℕ) (x : Node) (d : Parcel) → node_at r.world b ≡ Some x → datagram_between r a b k ≡ Some d → relays_by f r (event.Deliver a b k) ≡ takes_course f (handled r a b k) b x (carried d) (course_of b x.core.reach d)
unfolding relays_by arrives_if
arrives_at f r a b k x d up there = ap (λ o. arrives_if f r a b k o (datagram_between r a b k)) up ∙ ap (arrives_if f r a b k (Some x)) there ∙ comes_by_course f (handled r a b k) b x d

if_down : (f : Answering) (r : Relayed) (a b k : ℕ) (d : Option Parcel) → arrives_if f r a b k None d ≡ r
unfolding arrives_if
if_down f r a b k d = refl

if_none : (f : Answering) (r : Relayed) (a b k : ℕ) (o : Option Node) → arrives_if f r a b k o None ≡ r
unfolding arrives_if
if_none f r a b k None = refl
if_none f r a b k (Some x) = refl

-- the node is down
pub arrives_nowhere : (f : Answering) (r : Relayed) (a b k : ℕ) → node_at r.world b ≡ None → relays_by f r (event.Deliver a b k) ≡ r
unfolding relays_by
arrives_nowhere f r a b k down = ap (λ o. arrives_if f r a b k o (datagram_between r a b k)) down ∙ if_down f r a b k (datagram_between r a b k)

-- or there is none
pub nothing_arrives : (f : Answering) (r : Relayed) (a b k : ℕ) → datagram_between r a b k ≡ None → relays_by f r (event.Deliver a b k) ≡ r
unfolding relays_by
nothing_arrives f r a b k none = ap (arrives_if f r a b k (node_at r.world b)) none ∙ if_none f r a b k (node_at r.world b)
