-- A network stands for a world: its daemons are the nodes, and what they sent was sent there.
use Rattle.std.proofs.Common.{◌≡◌, ◌≢◌, ◌<◌, ◌≤◌, ◌^◌, ℕ, List, [], ◌∷◌, ◌++◌, true, Option, Some, None, refl, sym, ap, ◌∙◌, subst, inl, inr}
use Rattle.std.specs.Prelude.{◌⊎◌, find}
use Rattle.std.proofs.lemmas.Bool.{eqb-true, cases_eq}
use Rattle.rsct_packet.specs.Lists.{reverse_onto}
use Rattle.rsct_packet.specs.Search.{Has}
use Rattle.rsct_packet.proofs.HasLaws.{find_has}
use Rattle.node_state.specs.declared.config.Config.{Config}
use Rattle.node_state.specs.declared.happened.Happened.{Happened}
use Rattle.node_state.specs.declared.packet.Packet.{Packet}
use Rattle.node_state.specs.declared.state.Core.{Core}
use Rattle.node_state.specs.HandOn.{Answering}
use Rattle.node_state.specs.Bytes.{packet_of, bytes_of}
use Rattle.node_state.specs.Step.{NodeEvent, Ticks, Asks, Given, Calls, at_work, stepped}
use Rattle.node_state.specs.Step as step
use Rattle.world_model.specs.declared.event.Event.{Event}
use Rattle.world_model.specs.World.{Node, World, is_node}
use Rattle.world_laws.proofs.world_runs.Backwards.{reversed}
use Rattle.world_laws.specs.world_answers.Answers.{Answered, goes_on, events_in, answered_after}
use Rattle.step_refinement.specs.Tied.{Scene, NodeIsIf, Rests}
use Rattle.step_refinement.specs.Rules.{at_node, ended, Arises}
use Rattle.step_refinement.specs.Runs.{Reached, Steps}
use Rattle.step_refinement.proofs.Changed.{set_here, each_set}
use Rattle.step_refinement.proofs.RunLaw.{reached_rests}
use Rattle.world_model.specs.declared.event.Event.TheVariants as event
use Rattle.world_safety.specs.Events.{MayHappen, AllMayHappen}
use Rattle.world_safety.specs.Mirrors.{core_in, core_at, inc_at, Once, Mirrors}
use Rattle.world_safety.specs.Moments.{CanCome}
use Rattle.world_safety.proofs.HeardStates.{answered_last}
use Rattle.world_safety.proofs.Runs.{every_run_is_reached}
use Rattle.hags_io.specs.declared.link.LinkCall.{LinkCall}
use Rattle.piece_link.specs.Pieces.{Message, can_cut, pieces_of}
use Rattle.piece_link.specs.Answers.{Among, CanBeCut, AreDistinct}
use Rattle.daemon_model.specs.Sent.{Numbered, Of, OfNothing, OfPacket, OfMessage, Exchange}
use Rattle.daemon_model.specs.Daemon.{Daemon}
use Rattle.network_model.specs.Network.{Net}
use Rattle.network_model.specs.Fits.{IsSend}
use Rattle.network_safety.proofs.Quiet.{IsTalk}
use Rattle.network_safety.proofs.Messages.{message_of}
use Rattle.network_safety.proofs.Joins.{IsJoinedOf}
use Rattle.network_safety.proofs.Pairs.{AllPaired}
use Rattle.network_safety.proofs.WorldSteps.{Leaves}
use Rattle.provider_laws.proofs.resting.Law.{Resting}

-- ---- nodes and daemons

-- a daemon is a node that is up, at work
abbrev pub IsCore : Option Daemon → Option Core → Type 0
IsCore None None = Unit {0}
IsCore None (Some s) = ⊥
IsCore (Some d) None = ⊥
IsCore (Some d) (Some s) = at_work s ≡ d.core

-- the world after events that may happen has the network's nodes, and its records
pub record Stands (c : Config) (net : Net) (es : List Answered) (w : World) : Type 0 where
  pub may : AllMayHappen c (events_in es)
  pub is : answered_after c es ≡ w
  pub nodes : (n : ℕ) → IsCore (net.daemons n) (core_at w.nodes n)
  pub incs : (n : ℕ) → net.incarnations n ≡ inc_at w.starts n
  pub trace : w.trace ≡ reverse_onto net.records []
  pub paired : AllPaired w

-- ---- what is sent

-- a message is no packet, or a question or an answer, or a packet that was sent
abbrev pub IsKnown : World → List ℕ → Type 0
IsKnown w bytes = (p : Packet) → packet_of bytes ≡ Some p → IsTalk p.body ⊎ Has p w.sent

-- a message of a daemon that is up has a number before its next
abbrev pub IsBefore : Message → Option Daemon → Type 0
IsBefore m None = Unit {0}
IsBefore m (Some d) = m.incarnation ≡ d.incarnation → m.number < d.number

-- a message that a daemon of its sender cut
pub record IsPast (net : Net) (m : Message) : Type 0 where
  pub incarnation : m.incarnation ≤ net.incarnations m.sender
  pub before : IsBefore m (net.daemons m.sender)

-- a daemon that is up: who it is, that its node rests, and what it joins
pub record IsUp (messages : List Message) (n inc : ℕ) (d : Daemon) : Type 0 where
  pub most : n ≤ 32
  pub fits : inc < 2 ^ 32
  pub me : d.me ≡ n
  pub incarnation : d.incarnation ≡ inc
  pub rests : Resting d.core
  pub joined : IsJoinedOf messages d.joining

abbrev pub IsUpIf : List Message → ℕ → ℕ → Option Daemon → Type 0
IsUpIf messages n inc None = Unit {0}
IsUpIf messages n inc (Some d) = IsUp messages n inc d

-- a send of a piece of a packet that the world knows, and whose message is one of these
pub record IsPiece (all : List Message) (w : World) (n : Numbered) (c : LinkCall) : Type 0 where
  pub sender : n.sender ≤ 32
  pub incarnation : n.incarnation < 2 ^ 32
  pub cut : can_cut (bytes_of n.packet) ≡ true
  pub known : IsTalk n.packet.body ⊎ Has n.packet w.sent
  pub among : Among (message_of n) all
  pub piece : (b : List ℕ) → IsSend b c → Among b (pieces_of (message_of n))

-- a piece of a message of this number that is one of these, and no packet
pub record IsOther (all : List Message) (number : ℕ) (b : List ℕ) : Type 0 where
  pub message : Message
  pub among : Among message all
  pub fits : number < 2 ^ 64 → CanBeCut message
  pub none : packet_of message.bytes ≡ None
  pub piece : Among b (pieces_of message)

-- all else that is sent is a piece of what is no packet
abbrev pub IsMade : List Message → World → LinkCall → Of → Type 0
IsMade all w c OfNothing = (b : List ℕ) → IsSend b c → ⊥
IsMade all w c (OfPacket n) = IsPiece all w n c
IsMade all w c (OfMessage number) = (b : List ℕ) → IsSend b c → IsOther all number b

-- All messages that daemons cut, each with a key of its own: on the wire are pieces of them, of packets that the world
-- knows or of what is no packet. Of some of them pieces came: these are known, whatever is joined of their pieces.
pub record Wires (net : Net) (w : World) : Type 0 where
  pub all : List Message
  pub past : (m : Message) → Among m all → IsPast net m
  pub distinct : AreDistinct all
  pub made : (x : Exchange) → Among x net.wire → IsMade all w x.call x.of
  pub messages : List Message
  pub sent : (m : Message) → Among m messages → Among m all
  pub fits : (m : Message) → Among m messages → CanBeCut m
  pub known : (m : Message) → Among m messages → IsKnown w m.bytes
  pub up : (n : ℕ) → IsUpIf messages n (net.incarnations n) (net.daemons n)

-- what was made stays so, where the world goes on, and more is cut
pub made_later : (all more : List Message) (w v : World) → ((p : Packet) → Has p w.sent → Has p v.sent) → ((m : Message) → Among m all → Among m more) → (c : LinkCall) (o : Of) → IsMade all w c o → IsMade more v c o
made_later all more w v old wider c OfNothing h = h
made_later all more w v old wider c (OfMessage number) h = λ b is. other_later b (h b is)
  where
    other_later : (b : List ℕ) → IsOther all number b → IsOther more number b
    other_later b o = record { message = o.message; among = wider o.message o.among; fits = o.fits; none = o.none; piece = o.piece }
made_later all more w v old wider c (OfPacket n) h =
    record { sender = h.sender; incarnation = h.incarnation; cut = h.cut; known = elim h.known [ inl t ↦ inl t | inr i ↦ inr (old n.packet i) ]; among = wider (message_of n) h.among; piece = h.piece }

pub known_later : (w v : World) → ((p : Packet) → Has p w.sent → Has p v.sent) → (bytes : List ℕ) → IsKnown w bytes → IsKnown v bytes
known_later w v old bytes k p is = elim (k p is) [ inl t ↦ inl t | inr i ↦ inr (old p i) ]

pub record Stand (c : Config) (net : Net) (es : List Answered) (w : World) : Type 0 where
  pub world : Stands c net es w
  pub wires : Wires net w

-- ---- what holds of the world

arises : (s : Scene) (w : World) → ((p : Packet) → Has p w.sent → Has p s.sent) → (e : NodeEvent) → CanCome w e → Arises s e
arises s w more Ticks h = tt
arises s w more (Asks mask) h = tt
arises s w more (Given p) h = more p h
arises s w more (Calls x) h = tt
arises s w more step.Garbage h = tt

module _ (c : Config) (net : Net) (es : List Answered) (w : World) (k : Stands c net es w) where
  pub record Facts : Type 0 where
    pub once : Once w.nodes
    pub config : w.config ≡ c
    pub me : (n : ℕ) (x : Node) → find (is_node n) w.nodes ≡ Some x → x.core.views.me ≡ n
    pub steps : (n : ℕ) (x : Node) → find (is_node n) w.nodes ≡ Some x → (f : Answering) (e : NodeEvent) → CanCome w e → (stepped f x.core e).views.me ≡ n

  itself : (n : ℕ) (x : Node) → is_node n x ≡ true → x.core.views.me ≡ n
  unfolding is_node
  itself n x e = eqb-true x.core.views.me n e

  pub facts : Facts
  facts =
      let run = every_run_is_reached c es k.may in
      let m : Mirrors c w run.0 = subst (λ v. Mirrors c v run.0) k.is run.4 in
      record { once = m.once; config = m.config; me = λ n x up. itself n x (find_has (is_node n) w.nodes x up).1; steps = λ n x up f e can. steps_me run.0 run.1 m n x up f e can }
    where
      steps_me : (s : Scene) → Reached c s → Mirrors c w s → (n : ℕ) (x : Node) → find (is_node n) w.nodes ≡ Some x → (f : Answering) (e : NodeEvent) → CanCome w e → (stepped f x.core e).views.me ≡ n
      steps_me s r m n x up f e can =
          let y : Core = stepped f x.core e in
          let v : Event = event.Tick n in
          let t : Rests [] (ended s n v y) = reached_rests c (ended s n v y) (Steps s n f x.core e v r (m.cores n ∙ ap core_in up) (arises s w m.sent e can)) [] in
          let is : NodeIsIf s.config t.ghost [] n (s.incs n) (Some y) = subst (λ o. NodeIsIf s.config t.ghost [] n (s.incs n) o) (set_here s.cores n (Some y)) (t.nodes n) in
          is.0.stands.me

  -- the node of a daemon
  pub record NodeOf (n : ℕ) (d : Daemon) : Type 0 where
    pub node : Node
    pub up : find (is_node n) w.nodes ≡ Some node
    pub core : at_work node.core ≡ d.core

  node_in : (n : ℕ) (d : Daemon) (o : Option Node) → find (is_node n) w.nodes ≡ o → IsCore (Some d) (core_in o) → NodeOf n d
  node_in n d None e h = absurd h
  node_in n d (Some x) e h = record { node = x; up = e; core = h }

  pub node_of : (n : ℕ) (d : Daemon) → net.daemons n ≡ Some d → NodeOf n d
  node_of n d e = node_in n d (find (is_node n) w.nodes) refl (subst (λ o. IsCore o (core_at w.nodes n)) e (k.nodes n))

  down_in : (n : ℕ) (o : Option Node) → find (is_node n) w.nodes ≡ o → IsCore None (core_in o) → find (is_node n) w.nodes ≡ None
  down_in n None e h = e
  down_in n (Some x) e h = absurd h

  pub no_node : (n : ℕ) → net.daemons n ≡ None → find (is_node n) w.nodes ≡ None
  no_node n e = down_in n (find (is_node n) w.nodes) refl (subst (λ o. IsCore o (core_at w.nodes n)) e (k.nodes n))

  -- ---- an event

  may_on : (xs : List Answered) (a : Answered) → AllMayHappen c (events_in xs) → MayHappen c a.event → AllMayHappen c (events_in (xs ++ a ∷ []))
  may_on [] a may here = (here, tt)
  may_on (x ∷ xs) a may here = (may.0, may_on xs a may.1 here)

  -- an event comes, by which the daemon of a node, and its node, become these
  pub stands_on : (a : Answered) → MayHappen c a.event → (n : ℕ) (o : Option Daemon) (s : Option Core) (inc : ℕ) (rs : List Happened) (ps : List Packet) → Leaves w (goes_on w a) n s inc rs ps → IsCore o s
      → (after : Net) → after.daemons ≡ at_node net.daemons n o → after.incarnations n ≡ inc → ((m : ℕ) → m ≢ n → after.incarnations m ≡ net.incarnations m) → after.records ≡ net.records ++ rs
      → Stands c after (es ++ a ∷ []) (goes_on w a)
  stands_on a may n o s inc rs ps l core after daemons here there records =
      record {
        may = may_on es a k.may may;
        is = answered_last c es a ∙ ap (λ z. goes_on z a) k.is;
        nodes = subst (λ (ds : ℕ → Option Daemon). (m : ℕ) → IsCore (ds m) (core_at (goes_on w a).nodes m)) (sym daemons) (each_set (λ m d. IsCore d (core_at (goes_on w a).nodes m)) net.daemons n o (subst (IsCore o) (sym l.here) core) (λ m ne. subst (IsCore (net.daemons m)) (sym (l.there m ne)) (k.nodes m)));
        incs = λ m. elim (cases_eq m n) [
          | inl e ↦ subst (λ j. after.incarnations j ≡ inc_at (goes_on w a).starts j) (sym e) (here ∙ sym l.inc_here)
          | inr ne ↦ there m ne ∙ k.incs m ∙ sym (l.inc_there m ne)
        ];
        trace = l.trace ∙ ap (reverse_onto rs) k.trace ∙ reversed net.records rs [] ∙ ap (λ zs. reverse_onto zs []) (sym records);
        paired = l.paired k.paired;
      }
