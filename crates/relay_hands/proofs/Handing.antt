-- What a run with relays hands to clients, event by event, is what its direct run hands to them.
use Rattle.std.proofs.Common.{◌≡◌, ℕ, false, List, [], ◌∷◌, ◌++◌, Option, Some, None, refl, sym, ap, ◌∙◌, subst}
use Rattle.std.specs.Prelude.{fold}
use Rattle.rsct_packet.specs.Lists.{reverse_onto}
use Rattle.client_callbacks.specs.Handed.{Handed}
use Rattle.node_state.specs.declared.config.Config.{Config}
use Rattle.node_state.specs.declared.happened.Happened.{Happened}
use Rattle.node_state.specs.declared.packet.Packet.{Packet}
use Rattle.node_state.specs.Step.{Given}
use Rattle.route_state.specs.declared.front.Front.{Front}
use Rattle.route_state.specs.Way.{Course, Arrives, course}
use Rattle.world_model.specs.declared.event.Event.{Event}
use Rattle.world_model.specs.declared.event.Event.TheVariants as event
use Rattle.world_model.specs.World.{Node, World, node_at, kth_between, world_new}
use Rattle.world_laws.specs.world_runs.Runs.{SameRun}
use Rattle.world_laws.proofs.world_runs.Queue.{same_trace}
use Rattle.world_laws.specs.world_answers.Answers.{Answered, goes_on, answered_after}
use Rattle.relay_model.specs.Leaving.{Parcel, Bare, Wrapped}
use Rattle.relay_model.specs.Relays.{Relayed, datagram_between, relays_on, relayed_new, relayed_after}
use Rattle.relay_runs.specs.Arrivals.{carried, course_of}
use Rattle.relay_laws.specs.Carrying.{Brings, IsNotGiven, Down, Unsent, Elsewhere}
use Rattle.relay_laws.specs.Direct.{is_delivery, IsDirectOf, Itself, Hands, Moves, AreDirect, NoEvents, OneMore}
use Rattle.relay_laws.proofs.Delivering.{same_node, same_kth}
use Rattle.relay_laws.proofs.Leaving.{CourseIs, Comes, Passes, Stops, course_is}
use Rattle.run_hands.specs.Hands.{Logs, HandsNothing, NodeHands, DeliveryHands, EventHands, Stood, RunHands}
use Rattle.relay_hands.specs.Hands.{CourseHands, ArrivalHands, RelayHands, RelayRunHands}
use Rattle.relay_hands.specs.Laws.{HandsDirectly}
use Rattle.relay_hands.proofs.Same.{hands_same, brings_arrives, event_same, runs_same}

-- ---- one event

-- what is no delivery
itself_hands : (r : Relayed) (e : Event) (rs : List Happened) (old new : Logs) → is_delivery e ≡ false → RelayHands r e rs old new → EventHands r.world e rs old new
itself_hands r (event.Start n) rs old new is h = h
itself_hands r (event.Stop n) rs old new is h = h
itself_hands r (event.Tick n) rs old new is h = h
itself_hands r (event.Ask n mask) rs old new is h = h
itself_hands r (event.Call n x) rs old new is h = h
itself_hands r (event.Show n what) rs old new is h = h
itself_hands r (event.Garbage n bytes) rs old new is h = h
itself_hands r (event.Deliver a b k) rs old new is h = absurd cc

-- a delivery whose datagram brings a packet
given_hands : (x : Node) (b : ℕ) (p q : Packet) (rs : List Happened) (old new : Logs) → NodeHands (Some x) b (Given p) rs old new → NodeHands (Some x) b (Given q) rs old new
given_hands x b p q rs old new h = (h.0, record { handings = h.1.handings; told = h.1.told; stated = h.1.stated; owned = h.1.owned; logs = h.1.logs }, h.2)

arrival_hands : (w : World) (a b : ℕ) (x : Node) (d : Parcel) (q : Packet) (rs : List Happened) (old new : Logs) → Brings w a b d q → ArrivalHands (Some x) (Some d) b rs old new → NodeHands (Some x) b (Given q) rs old new
arrival_hands w a b x d q rs old new brings h =
    given_hands x b (carried d) q rs old new (subst (λ (c : Course). CourseHands x b (carried d) c rs old new) (brings_arrives w a b x.core.reach d q brings) h)

brings_hands : (r : Relayed) (a b k number : ℕ) (d : Parcel) (q : Packet) (rs : List Happened) (old new : Logs) → datagram_between r a b k ≡ Some d → Brings r.world a b d q → kth_between r.world q.from b number ≡ Some q
    → (o : Option Node) → node_at r.world b ≡ o → ArrivalHands o (datagram_between r a b k) b rs old new → DeliveryHands o (kth_between r.world q.from b number) b rs old new
brings_hands r a b k number d q rs old new there brings kth None up h = h
brings_hands r a b k number d q rs old new there brings kth (Some x) up h =
    subst (λ p. DeliveryHands (Some x) p b rs old new) (sym kth) (arrival_hands r.world a b x d q rs old new brings (subst (λ z. ArrivalHands (Some x) z b rs old new) there h))

-- one by which nothing is given
elsewhere_hands : (b : ℕ) (x : Node) (f : Front) (p : Packet) (rs : List Happened) (old new : Logs) → (f.target ≡ b → ⊥) → (c : Course) → CourseIs b x.core.reach f c → CourseHands x b p c rs old new → new ≡ old
elsewhere_hands b x f p rs old new other _ (Comes there) h = absurd (other there)
elsewhere_hands b x f p rs old new other _ (Passes to l away hop less origin target) h = h.1
elsewhere_hands b x f p rs old new other _ (Stops away) h = h.1

down_hands : (o : Option Node) (d : Option Parcel) (b : ℕ) (rs : List Happened) (old new : Logs) → o ≡ None → ArrivalHands o d b rs old new → new ≡ old
down_hands None d b rs old new e h = h.1
down_hands (Some x) d b rs old new e h = absurd cc

unsent_hands : (o : Option Node) (d : Option Parcel) (b : ℕ) (rs : List Happened) (old new : Logs) → d ≡ None → ArrivalHands o d b rs old new → new ≡ old
unsent_hands None d b rs old new e h = h.1
unsent_hands (Some x) None b rs old new e h = h.1
unsent_hands (Some x) (Some d) b rs old new e h = absurd cc

other_hands : (o : Option Node) (b : ℕ) (f : Front) (p : Packet) (rs : List Happened) (old new : Logs) → (f.target ≡ b → ⊥) → ArrivalHands o (Some (Wrapped f p)) b rs old new → new ≡ old
other_hands None b f p rs old new other h = h.1
other_hands (Some x) b f p rs old new other h = elsewhere_hands b x f p rs old new other (course b x.core.reach f) (course_is b x.core.reach f) h

moves_hands : (r : Relayed) (a b k : ℕ) (rs : List Happened) (old new : Logs) → IsNotGiven r a b k → ArrivalHands (node_at r.world b) (datagram_between r a b k) b rs old new → new ≡ old
moves_hands r a b k rs old new (Down up) h = down_hands (node_at r.world b) (datagram_between r a b k) b rs old new up h
moves_hands r a b k rs old new (Unsent none) h = unsent_hands (node_at r.world b) (datagram_between r a b k) b rs old new none h
moves_hands r a b k rs old new (Elsewhere f p there other) h = other_hands (node_at r.world b) b f p rs old new other (subst (λ d. ArrivalHands (node_at r.world b) d b rs old new) there h)

-- ---- one event after the others

same_recorded : (w v u x : World) (rs : List Happened) → SameRun w v → SameRun u x → u.trace ≡ reverse_onto rs w.trace → x.trace ≡ reverse_onto rs v.trace
same_recorded w v u x rs before after e = same_trace u x after ∙ (e ∙ ap (reverse_onto rs) (sym (same_trace w v before)))

module _ {C : Type 0} (R : C → List Handed → Type 0) where
  event_hands : (r : Relayed) (w : World) (e : Answered) (more : List Answered) (rs : List Happened) (old new : Logs) → SameRun r.world w → (is : IsDirectOf r e more) → (relays_on r e).world.trace ≡ reverse_onto rs r.world.trace → RelayHands r e.event rs old new → Stood R new
      → RunHands R w more old new
  event_hands r w e _ rs old new same (Itself not) recorded h stood =
      (rs, new, same_recorded r.world w (relays_on r e).world (goes_on w e) rs same (event_same r w e (e ∷ []) same (Itself not)) recorded, hands_same r.world w e.event rs old new same (itself_hands r e.event rs old new not h), stood, refl)
  event_hands r w e _ rs old new same (Hands a b k number d q is there brings kth) recorded h stood =
      let x : Answered = record { event = event.Deliver q.from b number; answers = e.answers } in
      let after : SameRun (relays_on r e).world (goes_on w x) = event_same r w e (x ∷ []) same (Hands a b k number d q is there brings kth) in
      let here : ArrivalHands (node_at r.world b) (datagram_between r a b k) b rs old new = subst (λ (ev : Event). RelayHands r ev rs old new) is h in
      let direct : EventHands r.world (event.Deliver q.from b number) rs old new = brings_hands r a b k number d q rs old new there brings kth (node_at r.world b) refl here in
      (rs, new, same_recorded r.world w (relays_on r e).world (goes_on w x) rs same after recorded, hands_same r.world w (event.Deliver q.from b number) rs old new same direct, stood, refl)
  event_hands r w e _ rs old new same (Moves a b k is not) recorded h stood = moves_hands r a b k rs old new not (subst (λ (ev : Event). RelayHands r ev rs old new) is h)

  -- the last of these events
  pub record LastHands (r : Relayed) (es : List Answered) (e : Answered) (old new : Logs) : Type 0 where
    pub mid : Logs
    pub before : RelayRunHands R r es old mid
    pub records : List Happened
    pub recorded : (relays_on (fold relays_on r es) e).world.trace ≡ reverse_onto records (fold relays_on r es).world.trace
    pub hands : RelayHands (fold relays_on r es) e.event records mid new
    pub stood : Stood R new

  last_hands : (r : Relayed) (es : List Answered) (e : Answered) (old new : Logs) → RelayRunHands R r (es ++ e ∷ []) old new → LastHands r es e old new
  last_hands r [] e old new h =
      record { mid = old; before = refl; records = h.0; recorded = h.2; hands = subst (λ (ls : Logs). RelayHands r e.event h.0 old ls) (sym h.5) h.3; stood = subst (Stood R) (sym h.5) h.4 }
  last_hands r (x ∷ es) e old new h =
      let l : LastHands (relays_on r x) es e h.1 new = last_hands (relays_on r x) es e h.1 new h.5 in
      record { mid = l.mid; before = (h.0, h.1, h.2, h.3, h.4, l.before); records = l.records; recorded = l.recorded; hands = l.hands; stood = l.stood }

  then_hands : (w : World) (ds more : List Answered) (old mid new : Logs) → RunHands R w ds old mid → RunHands R (fold goes_on w ds) more mid new → RunHands R w (ds ++ more) old new
  then_hands w [] more old mid new e h = subst (λ ls. RunHands R w more ls new) e h
  then_hands w (a ∷ ds) more old mid new f h = (f.0, f.1, f.2, f.3, f.4, then_hands (goes_on w a) ds more f.1 mid new f.5 h)

  pub hands_directly : HandsDirectly R
  unfolding relayed_after answered_after
  hands_directly c _ _ old new NoEvents h = h
  hands_directly c _ _ old new (OneMore es ds e more are is) h =
      let l : LastHands (relayed_new c) es e old new = last_hands (relayed_new c) es e old new h in
      then_hands (world_new c) ds more old l.mid new (hands_directly c es ds old l.mid are l.before)
      (event_hands (fold relays_on (relayed_new c) es) (fold goes_on (world_new c) ds) e more l.records l.mid new (runs_same c es ds are) is l.recorded l.hands l.stood)
