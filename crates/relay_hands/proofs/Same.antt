-- What waits in a world is not read by what its events hand to clients; and the direct run stays beside the run with relays.
use Rattle.std.proofs.Common.{◌≡◌, ◌≢◌, ℕ, true, false, List, [], ◌∷◌, ◌++◌, Option, Some, None, refl, sym, ap, ◌∙◌, subst}
use Rattle.std.specs.Prelude.{fold}
use Rattle.std.proofs.lemmas.Bool.{eq-eqb}
use Rattle.std.proofs.lemmas.List.Sums.{fold-append}
use Rattle.node_reach.specs.declared.reach.Reach.{Reach}
use Rattle.node_state.specs.declared.config.Config.{Config}
use Rattle.node_state.specs.declared.happened.Happened.{Happened}
use Rattle.node_state.specs.declared.packet.Packet.{Packet}
use Rattle.node_state.specs.HandOn.{Answering}
use Rattle.node_state.specs.Step.{Given}
use Rattle.route_state.specs.declared.front.Front.{Front}
use Rattle.route_state.specs.Way.{Course, Arrives, onward, course}
use Rattle.world_model.specs.declared.event.Event.{Event}
use Rattle.world_model.specs.declared.event.Event.TheVariants as event
use Rattle.world_model.specs.World.{Node, Sent, World, node_at, kth_between, world_new}
use Rattle.world_laws.specs.world_runs.Runs.{SameRun}
use Rattle.world_laws.specs.world_answers.Answers.{Answered, step_by, delivers_by_if, happens_by, goes_on, answered_after}
use Rattle.world_laws.proofs.world_answers.Waits.{same_goes}
use Rattle.relay_model.specs.Leaving.{Parcel, Bare, Wrapped}
use Rattle.relay_model.specs.Relays.{Relayed, datagram_between, handled, passed, takes_course, relays_by, relays_on, relayed_new, relayed_after}
use Rattle.relay_runs.specs.Arrivals.{carried, course_of}
use Rattle.relay_runs.proofs.Arriving.{arrives_at, arrives_nowhere, nothing_arrives}
use Rattle.relay_runs.proofs.Grown.{leaves_world, settled_world}
use Rattle.relay_laws.specs.Carrying.{Brings, IsNotGiven, Down, Unsent, Elsewhere}
use Rattle.relay_laws.specs.Direct.{is_delivery, IsDirectOf, Itself, Hands, Moves, AreDirect, NoEvents, OneMore}
use Rattle.relay_laws.proofs.Carrying.{same_step, given_world}
use Rattle.relay_laws.proofs.Delivering.{same_node, step_delivers}
use Rattle.relay_laws.proofs.Leaving.{CourseIs, Comes, Passes, Stops, course_is}
use Rattle.run_hands.specs.Hands.{Logs, EventHands}

-- what waits is not read
hands_alike : (w : World) (q : List Sent) (e : Event) (rs : List Happened) (old new : Logs) → EventHands w e rs old new → EventHands (record w { queue = q }) e rs old new
unfolding node_at kth_between
hands_alike w q (event.Start n) rs old new h = h
hands_alike w q (event.Stop n) rs old new h = h
hands_alike w q (event.Tick n) rs old new h = h
hands_alike w q (event.Ask n mask) rs old new h = h
hands_alike w q (event.Call n c) rs old new h = h
hands_alike w q (event.Show n what) rs old new h = h
hands_alike w q (event.Deliver a b k) rs old new h = h
hands_alike w q (event.Garbage n bytes) rs old new h = h

pub hands_same : (w v : World) (e : Event) (rs : List Happened) (old new : Logs) → SameRun w v → EventHands w e rs old new → EventHands v e rs old new
hands_same w v e rs old new same h = subst (λ z. EventHands z e rs old new) (sym same) (hands_alike w v.queue e rs old new h)

-- ---- a datagram that brings a packet

-- it has come to where it was to go
pub brings_arrives : (w : World) (a b : ℕ) (r : Reach) (d : Parcel) (q : Packet) → Brings w a b d q → course_of b r d ≡ Arrives
unfolding course
brings_arrives w a b r (Bare p) q h = refl
brings_arrives w a b r (Wrapped f p) q h = ap (λ t. elim t as (λ _. Course) [ true ↦ Arrives | false ↦ onward r f ]) (eq-eqb f.target b h.0)

-- and its packet is as good as the one that it brings
pub brings_given : (g : Answering) (w : World) (a b : ℕ) (x : Node) (d : Parcel) (q : Packet) → Brings w a b d q → step_by g w (Given (carried d)) x ≡ step_by g w (Given q) x
brings_given g w a b x (Bare p) q h = ap (λ (z : Packet). step_by g w (Given z) x) h.3
brings_given g w a b x (Wrapped f p) q h =
    ap (λ (z : Packet). step_by g w (Given z) x) h.1.is ∙ (same_step g w x h.1.packet h.1.relays ∙ ap (λ (z : Packet). step_by g w (Given z) x) h.2)

arrived : (g : Answering) (r : Relayed) (a b k : ℕ) (x : Node) (p : Packet) → (takes_course g (handled r a b k) b x p Arrives).world ≡ step_by g r.world (Given p) x
unfolding takes_course handled
arrived g r a b k x p = given_world g (handled r a b k) x p

pub brings_world : (g : Answering) (r : Relayed) (a b k : ℕ) (x : Node) (d : Parcel) (q : Packet) → node_at r.world b ≡ Some x → datagram_between r a b k ≡ Some d → Brings r.world a b d q → (relays_by g r (event.Deliver a b k)).world ≡ step_by g r.world (Given q) x
brings_world g r a b k x d q up there brings =
    ap (λ (z : Relayed). z.world) (arrives_at g r a b k x d up there ∙ ap (takes_course g (handled r a b k) b x (carried d)) (brings_arrives r.world a b x.core.reach d q brings))
    ∙ (arrived g r a b k x (carried d) ∙ brings_given g r.world a b x d q brings)

-- ---- one event

-- what is no delivery
pub itself_world : (g : Answering) (r : Relayed) (e : Event) → is_delivery e ≡ false → (relays_by g r e).world ≡ happens_by g r.world e
unfolding relays_by
itself_world g r (event.Start n) is = settled_world r (happens_by g r.world (event.Start n))
itself_world g r (event.Stop n) is = settled_world r (happens_by g r.world (event.Stop n))
itself_world g r (event.Tick n) is = settled_world r (happens_by g r.world (event.Tick n))
itself_world g r (event.Ask n mask) is = settled_world r (happens_by g r.world (event.Ask n mask))
itself_world g r (event.Call n x) is = settled_world r (happens_by g r.world (event.Call n x))
itself_world g r (event.Show n what) is = settled_world r (happens_by g r.world (event.Show n what))
itself_world g r (event.Garbage n bytes) is = settled_world r (happens_by g r.world (event.Garbage n bytes))
itself_world g r (event.Deliver a b k) is = absurd cc

down_delivers : (g : Answering) (w : World) (a b k : ℕ) → node_at w b ≡ None → happens_by g w (event.Deliver a b k) ≡ w
unfolding happens_by delivers_by_if
down_delivers g w a b k down = rw down refl

-- a delivery by which nothing is given
elsewhere_world : (g : Answering) (r : Relayed) (a b k : ℕ) (x : Node) (f : Front) (p : Packet) → f.target ≢ b → (c : Course) → CourseIs b x.core.reach f c → (takes_course g (handled r a b k) b x p c).world ≡ r.world
unfolding takes_course handled
elsewhere_world g r a b k x f p other _ (Comes there) = absurd (other there)
elsewhere_world g r a b k x f p other _ (Passes to l away hop less origin target) = leaves_world (handled r a b k) (passed x.core b to l p)
elsewhere_world g r a b k x f p other _ (Stops away) = refl

other_world : (g : Answering) (r : Relayed) (a b k : ℕ) (f : Front) (p : Packet) → datagram_between r a b k ≡ Some (Wrapped f p) → f.target ≢ b → (o : Option Node) → node_at r.world b ≡ o → (relays_by g r (event.Deliver a b k)).world ≡ r.world
other_world g r a b k f p there other None up = ap (λ (z : Relayed). z.world) (arrives_nowhere g r a b k up)
other_world g r a b k f p there other (Some x) up =
    ap (λ (z : Relayed). z.world) (arrives_at g r a b k x (Wrapped f p) up there) ∙ elsewhere_world g r a b k x f p other (course b x.core.reach f) (course_is b x.core.reach f)

pub moves_world : (g : Answering) (r : Relayed) (a b k : ℕ) → IsNotGiven r a b k → (relays_by g r (event.Deliver a b k)).world ≡ r.world
moves_world g r a b k (Down up) = ap (λ (z : Relayed). z.world) (arrives_nowhere g r a b k up)
moves_world g r a b k (Unsent none) = ap (λ (z : Relayed). z.world) (nothing_arrives g r a b k none)
moves_world g r a b k (Elsewhere f p there other) = other_world g r a b k f p there other (node_at r.world b) refl

-- ---- the direct run

-- a delivery whose datagram brings a packet
gives_same : (g : Answering) (r : Relayed) (w : World) (a b k number : ℕ) (d : Parcel) (q : Packet) → SameRun r.world w → datagram_between r a b k ≡ Some d → Brings r.world a b d q → kth_between r.world q.from b number ≡ Some q
    → (o : Option Node) → node_at r.world b ≡ o → SameRun (relays_by g r (event.Deliver a b k)).world (happens_by g w (event.Deliver q.from b number))
gives_same g r w a b k number d q same there brings kth None up =
    subst (λ v. SameRun v (happens_by g w (event.Deliver q.from b number))) (sym (ap (λ (z : Relayed). z.world) (arrives_nowhere g r a b k up)))
    (subst (SameRun r.world) (sym (down_delivers g w q.from b number (same_node r.world w b same ∙ up))) same)
gives_same g r w a b k number d q same there brings kth (Some x) up =
    subst (λ v. SameRun v (happens_by g w (event.Deliver q.from b number))) (sym (brings_world g r a b k x d q up there brings)) (step_delivers g r.world w q.from b number x q same up kth)

pub event_same : (r : Relayed) (w : World) (e : Answered) (more : List Answered) → SameRun r.world w → IsDirectOf r e more → SameRun (relays_on r e).world (fold goes_on w more)
event_same r w e _ same (Itself not) = subst (λ v. SameRun v (goes_on w e)) (sym (itself_world e.answers r e.event not)) (same_goes r.world w e same)
event_same r w e _ same (Hands a b k number d q is there brings kth) =
    subst (λ (ev : Event). SameRun (relays_by e.answers r ev).world (happens_by e.answers w (event.Deliver q.from b number))) (sym is)
    (gives_same e.answers r w a b k number d q same there brings kth (node_at r.world b) refl)
event_same r w e _ same (Moves a b k is not) = subst (λ (ev : Event). SameRun (relays_by e.answers r ev).world w) (sym is) (subst (λ v. SameRun v w) (sym (moves_world e.answers r a b k not)) same)

after_more : (c : Config) (ds more : List Answered) → answered_after c (ds ++ more) ≡ fold goes_on (answered_after c ds) more
unfolding answered_after
after_more c ds more = fold-append goes_on (world_new c) ds more

last_after : (c : Config) (es : List Answered) (e : Answered) → relayed_after c (es ++ e ∷ []) ≡ relays_on (relayed_after c es) e
unfolding relayed_after
last_after c es e = fold-append relays_on (relayed_new c) es (e ∷ [])

none_same : (c : Config) → SameRun (relayed_after c []).world (answered_after c [])
unfolding relayed_after relayed_new answered_after
none_same c = refl

pub runs_same : (c : Config) (es ds : List Answered) → AreDirect c es ds → SameRun (relayed_after c es).world (answered_after c ds)
runs_same c _ _ NoEvents = none_same c
runs_same c _ _ (OneMore es ds e more are is) =
    subst (λ (z : Relayed). SameRun z.world (answered_after c (ds ++ more))) (sym (last_after c es e))
    (subst (SameRun (relays_on (relayed_after c es) e).world) (sym (after_more c ds more)) (event_same (relayed_after c es) (answered_after c ds) e more (runs_same c es ds are) is))
