-- Each act of a network is some events of the world that it stands for.
use Rattle.std.proofs.Common.{◌≡◌, ℕ, List, [], ◌∷◌, ◌++◌, Bool, true, false, Option, Some, None, refl, sym, ap, ◌∙◌, subst, inl, inr, append-nil}
use Rattle.std.specs.Prelude.{◌⊎◌, ◌==◌, find}
use Rattle.std.proofs.lemmas.Bool.{eqb-true}
use Rattle.rsct_packet.specs.declared.mask.Mask.{Mask}
use Rattle.rsct_packet.specs.Search.{Has}
use Rattle.node_state.specs.declared.config.Config.{Config}
use Rattle.node_state.specs.declared.packet.Packet.{Packet}
use Rattle.node_state.specs.declared.state.Core.{Core}
use Rattle.node_state.specs.HandOn.{Answering}
use Rattle.node_state.specs.Bytes.{packet_of, event_in, event_of}
use Rattle.node_state.specs.Step.{NodeEvent, Ticks, Asks, Given, Calls, Garbage, at_work, stepped}
use Rattle.world_model.specs.declared.event.Event.{Event}
use Rattle.world_model.specs.declared.event.Event.TheVariants as event
use Rattle.world_model.specs.World.{World, is_node, node_at, kth_between, scripts_after}
use Rattle.world_laws.specs.world_answers.Answers.{Answered, step_by, step_by_if, calls_by_if, delivers_by_if, happens_by, goes_on}
use Rattle.provider_laws.proofs.resting.Law.{Resting}
use Rattle.world_safety.specs.Events.{MayHappen}
use Rattle.world_safety.specs.Mirrors.{inc_at}
use Rattle.world_safety.specs.Moments.{CanCome}
use Rattle.piece_link.specs.Answers.{Among}
use Rattle.daemon_model.specs.Sent.{Exchange}
use Rattle.daemon_model.specs.Daemon.{Daemon, Opening, stepped_by, given}
use Rattle.network_model.specs.Network.{Net, made_since, went_on}
use Rattle.network_safety.specs.Safe.{answered_by, IsGivenTo, IsGiven}
use Rattle.network_safety.proofs.Quiet.{IsTalk, talk_or, IsQuiet, garbage_quiet, given_quiet}
use Rattle.network_safety.proofs.Pairs.{kth_found}
use Rattle.network_safety.proofs.WorldSteps.{Leaves, step_leaves, given_leaves}
use Rattle.network_laws.proofs.Going.{made_is, noted_is}
use Rattle.network_safety.proofs.Standing.{Facts, facts, NodeOf, node_of, IsKnown, Stand}
use Rattle.network_safety.proofs.Stepping.{steps_to, IsNoSend, own_up, IsStep, step_stands, keeps_stands}

-- the same step, from a node that is at work
same_step : (f : Answering) (e : NodeEvent) (s : Core) (d : Daemon) → at_work s ≡ d.core → stepped f s e ≡ stepped f d.core e
unfolding stepped
same_step f e s d is = ap (λ z. stepped f z e) is

-- ---- what daemons do, over their nodes

module _ (c : Config) (net : Net) (es : List Answered) (w : World) (k : Stand c net es w) (n : ℕ) (d : Daemon) (at : net.daemons n ≡ Some d) where
  abbrev pub its_node : NodeOf c net es w k.world n d
  its_node = node_of c net es w k.world n d at

  fs : Facts c net es w k.world
  fs = facts c net es w k.world

  -- the node's step is the daemon's
  alike : (f : Answering) (e : NodeEvent) (a : Answered) → MayHappen c a.event → Leaves w (goes_on w a) n (Some (stepped f its_node.node.core e)) (inc_at w.starts n) (stepped f its_node.node.core e).records (stepped f its_node.node.core e).sends → IsStep c net es w k n d at f e a (stepped f its_node.node.core e)
  alike f e a may leaves =
      let same : stepped f its_node.node.core e ≡ stepped f d.core e = same_step f e its_node.node.core d its_node.core in
      record { may = may; leaves = leaves; core = ap at_work same; records = ap (λ (z : Core). z.records) same; sends = λ p h. inr (subst (λ (z : Core). Has p z.sends) (sym same) h) }

  -- a call
  pub called : (o : Opening) → IsStep c net es w k n d at o.answers (Calls o.call) (answered_by o.answers (event.Call n o.call)) (stepped o.answers its_node.node.core (Calls o.call))
  unfolding happens_by calls_by_if step_by node_at
  called o =
      alike o.answers (Calls o.call) (answered_by o.answers (event.Call n o.call)) tt (subst (λ q. Leaves w (calls_by_if o.answers w n o.call q) n (Some (stepped o.answers its_node.node.core (Calls o.call))) (inc_at w.starts n) (stepped o.answers its_node.node.core (Calls o.call)).records (stepped o.answers its_node.node.core (Calls o.call)).sends) (sym its_node.up) (step_leaves w n its_node.node its_node.up (scripts_after o.call its_node.node.core its_node.node.scripts) (stepped o.answers its_node.node.core (Calls o.call)) (fs.steps n its_node.node its_node.up o.answers (Calls o.call) tt)))

  -- a tick, and bytes that do nothing
  plain : (f : Answering) (e : NodeEvent) → CanCome w e → Leaves w (step_by_if f w e (node_at w n)) n (Some (stepped f its_node.node.core e)) (inc_at w.starts n) (stepped f its_node.node.core e).records (stepped f its_node.node.core e).sends
  unfolding step_by_if step_by node_at
  plain f e can =
      subst (λ q. Leaves w (step_by_if f w e q) n (Some (stepped f its_node.node.core e)) (inc_at w.starts n) (stepped f its_node.node.core e).records (stepped f its_node.node.core e).sends) (sym its_node.up) (step_leaves w n its_node.node its_node.up its_node.node.scripts (stepped f its_node.node.core e) (fs.steps n its_node.node its_node.up f e can))

  pub ticks : (f : Answering) → IsStep c net es w k n d at f Ticks (answered_by f (event.Tick n)) (stepped f its_node.node.core Ticks)
  unfolding happens_by
  ticks f = alike f Ticks (answered_by f (event.Tick n)) tt (plain f Ticks tt)

  -- an order to ask for a view
  pub asks : (f : Answering) (mask : Mask) → IsStep c net es w k n d at f (Asks mask) (answered_by f (event.Ask n mask)) (stepped f its_node.node.core (Asks mask))
  unfolding happens_by
  asks f mask = alike f (Asks mask) (answered_by f (event.Ask n mask)) tt (plain f (Asks mask) tt)

  pub drops : (f : Answering) (bytes : List ℕ) → IsStep c net es w k n d at f Garbage (answered_by f (event.Garbage n bytes)) (stepped f its_node.node.core Garbage)
  unfolding happens_by
  drops f bytes = alike f Garbage (answered_by f (event.Garbage n bytes)) tt (plain f Garbage tt)

  -- a packet that was sent to it
  pub takes : (f : Answering) (p : Packet) → p.to ≡ n → (h : Has p w.sent) (i : ℕ) → kth_between w p.from p.to i ≡ Some p → IsStep c net es w k n d at f (Given p) (answered_by f (event.Deliver p.from p.to i)) (stepped f its_node.node.core (Given p))
  unfolding happens_by delivers_by_if step_by node_at
  takes f p to h i kth =
      alike f (Given p) (answered_by f (event.Deliver p.from p.to i)) tt (subst (λ q. Leaves w (delivers_by_if f w p.from p.to i (find (is_node p.to) w.nodes) q) n (Some y) (inc_at w.starts n) y.records y.sends) (sym kth) (subst (λ q. Leaves w (delivers_by_if f w p.from p.to i q (Some p)) n (Some y) (inc_at w.starts n) y.records y.sends) (sym (ap (λ j. find (is_node j) w.nodes) to ∙ its_node.up)) (given_leaves w n p.from p.to i its_node.node its_node.up its_node.node.scripts y (fs.steps n its_node.node its_node.up f (Given p) h))))
    where
      y : Core
      y = stepped f its_node.node.core (Given p)

  -- a packet that does nothing there but for an answer
  pub idles_at : (f : Answering) (p : Packet) (bytes : List ℕ) → Resting d.core → ((p.to == d.core.views.me) ≡ true → IsTalk p.body) → IsStep c net es w k n d at f (Given p) (answered_by f (event.Garbage n bytes)) (stepped f its_node.node.core Garbage)
  idles_at f p bytes rests talk =
      let g = drops f bytes in
      let q : IsQuiet d.core (stepped f d.core (Given p)) = given_quiet f d.core p rests talk in
      let same : stepped f its_node.node.core Garbage ≡ at_work d.core = same_step f Garbage its_node.node.core d its_node.core ∙ garbage_quiet f d.core rests in
      record {
        may = g.may;
        leaves = g.leaves;
        core = ap at_work same ∙ sym (ap at_work q.is);
        records = ap (λ (z : Core). z.records) same ∙ sym (ap (λ (z : Core). z.records) q.is);
        sends = λ r h. inl (q.answers r (subst (λ (z : Core). Has r z.sends) q.is h));
      }

-- nothing is sent by who has the same calls
pub nothing_sent : (d e : Daemon) → e.calls ≡ d.calls → (x : Exchange) → Among x (made_since d e) → IsNoSend x
nothing_sent d e is x h = absurd (subst (Among x) (made_is d e [] (is ∙ sym (append-nil d.calls))) h)

event_is : (message : List ℕ) (o : Option Packet) → packet_of message ≡ o → event_of message ≡ event_in o
unfolding event_of
event_is message o e = ap event_in e

-- ---- a message that is whole is given to the node

pub record Gives (c : Config) (net : Net) (es : List Answered) (n : ℕ) (d e : Daemon) (AreThey : List Answered → Type 0) : Type 0 where
  pub events : List Answered
  pub are : AreThey events
  pub world : World
  pub stand : Stand c (went_on n d e net) (es ++ events) world

module _ (c : Config) (net : Net) (es : List Answered) (w : World) (k : Stand c net es w) (n : ℕ) (d : Daemon) (at : net.daemons n ≡ Some d) (f : Answering) (message : List ℕ) where
  by_step : (e : NodeEvent) → event_of message ≡ e → (v : Event) (y : Core) → IsGivenTo n v → IsStep c net es w k n d at f e (answered_by f v) y
      → Gives c net es n d (stepped_by f (event_of message) d) (IsGiven n f)
  by_step e is v y to s =
      record {
        events = answered_by f v ∷ [];
        are = (v, to, refl);
        world = goes_on w (answered_by f v);
        stand = step_stands c net es w k n d at f (event_of message) (answered_by f v) y (subst (λ z. IsStep c net es w k n d at f z (answered_by f v) y) (sym is) s) (stepped_by f (event_of message) d) (steps_to f (event_of message) d);
      }

  given_by : (o : Option Packet) → packet_of message ≡ o → IsKnown w message
      → Gives c net es n d (stepped_by f (event_of message) d) (IsGiven n f)
  given_by None is known =
      by_step Garbage (event_is message None is) (event.Garbage n message) (stepped f (node_of c net es w k.world n d at).node.core Garbage) refl (drops c net es w k n d at f message)
  given_by (Some p) is known = by (p.to == d.core.views.me) refl (talk_or p.body)
    where
      x : NodeOf c net es w k.world n d
      x = node_of c net es w k.world n d at

      me : d.core.views.me ≡ n
      me = sym (ap (λ (z : Core). z.views.me) x.core) ∙ (facts c net es w k.world).me n x.node x.up

      quiet : ((p.to == d.core.views.me) ≡ true → IsTalk p.body) → Gives c net es n d (stepped_by f (event_of message) d) (IsGiven n f)
      quiet talk =
          by_step (Given p) (event_is message (Some p) is) (event.Garbage n message) (stepped f x.node.core Garbage) refl (idles_at c net es w k n d at f p message (own_up net w k.wires n d at).rests talk)

      taken_by : p.to ≡ n → Has p w.sent → Gives c net es n d (stepped_by f (event_of message) d) (IsGiven n f)
      taken_by to h =
          let i = kth_found w k.world.paired p h in
          by_step (Given p) (event_is message (Some p) is) (event.Deliver p.from p.to i.0) (stepped f x.node.core (Given p)) to (takes c net es w k n d at f p to h i.0 i.1)

      by : (b : Bool) → (p.to == d.core.views.me) ≡ b → IsTalk p.body ⊎ (IsTalk p.body → ⊥) → Gives c net es n d (stepped_by f (event_of message) d) (IsGiven n f)
      by false e talk = quiet (λ g. absurd (let z : false ≡ true = sym e ∙ g in cc))
      by true e (inl talk) = quiet (λ g. talk)
      by true e (inr other) = elim (known p is) [
        | inl talk ↦ absurd (other talk)
        | inr h ↦ taken_by (eqb-true p.to d.core.views.me e ∙ me) h
      ]

-- no message: nothing changes
pub none_given : (c : Config) (net : Net) (es : List Answered) (w : World) → Stand c net es w → (n : ℕ) (d : Daemon) → net.daemons n ≡ Some d → Stand c (went_on n d d net) es w
none_given c net es w k n d at =
    keeps_stands c net es w k n d at d refl refl refl refl (own_up net w k.wires n d at).joined (nothing_sent d d refl) (noted_is d d [] (sym (append-nil d.records)))

abbrev pub IsKnownIf : World → Option (List ℕ) → Type 0
IsKnownIf w None = Unit {0}
IsKnownIf w (Some bytes) = IsKnown w bytes

pub message_gives : (c : Config) (net : Net) (es : List Answered) (w : World) (k : Stand c net es w) (n : ℕ) (d : Daemon) → net.daemons n ≡ Some d → (f : Answering) (message : List ℕ) → IsKnown w message
    → Gives c net es n d (given (Some message) f d) (IsGiven n f)
unfolding given
message_gives c net es w k n d at f message known = given_by c net es w k n d at f message (packet_of message) refl known
