-- What a whole message brings: a packet of the node; what a client on another machine says, and then what is said to it; or a
-- question about the daemon itself, and the reply.
use Rattle.std.proofs.Common.{◌≡◌, ℕ, List, [], ◌∷◌, ◌++◌, Option, Some, None, refl, sym, ◌∙◌, subst, append-nil}
use Rattle.rsct_packet.specs.Packet.{front_at, packet_at}
use Rattle.node_state.specs.declared.call.CallLine.{CallLine}
use Rattle.node_state.specs.declared.config.Config.{Config}
use Rattle.node_state.specs.HandOn.{Answering}
use Rattle.node_state.specs.Bytes.{packet_of}
use Rattle.node_state.specs.Step.{Calls, stepped}
use Rattle.world_model.specs.World.{World}
use Rattle.world_model.specs.declared.event.Event.TheVariants as event
use Rattle.world_laws.specs.world_answers.Answers.{Answered, goes_on}
use Rattle.step_refinement.proofs.Changed.{set_here}
use Rattle.remote_session.specs.Daemon.{SeenUp, NotUp, EndedKey, KeysFull, KnownKey, CallMade, down_for}
use Rattle.remote_clients.specs.declared.sessions.Sessions.{Sessions}
use Rattle.self_questions.specs.declared.messages.SelfQuestion.{SelfQuestion}
use Rattle.self_questions.specs.Messages.{question_of, reply_text}
use Rattle.daemon_model.specs.Daemon.{Daemon, Opening, left_for, up_in, with_up, call_in, line_carried, called_by, down_in, sent_back, down_sent, brought, self_text, told_itself, asked, given_on}
use Rattle.network_model.specs.Network.{Net, went_on}
use Rattle.network_model.proofs.Marks.{down_is_no_packet, reply_is_no_packet}
use Rattle.network_safety.specs.Safe.{answered_by, call_events, BroughtEvents, AskedEvents, GivenEvents}
use Rattle.network_laws.proofs.Going.{More, noted_is, goes_twice, same_more, back_more, carried_more}
use Rattle.network_safety.proofs.Joins.{IsJoinedOf}
use Rattle.network_safety.proofs.Standing.{IsKnown, Stand}
use Rattle.network_safety.proofs.Stepping.{StepsTo, own_up, step_stands, Says, keeps_stands, says_stands}
use Rattle.network_safety.proofs.Acts.{its_node, called, nothing_sent, Gives, IsKnownIf, none_given, message_gives}

-- the daemon that went on is the node's
pub went_here : (n : ℕ) (d e : Daemon) (net : Net) → (went_on n d e net).daemons n ≡ Some e
unfolding went_on
went_here n d e net = set_here net.daemons n (Some e)

-- ---- what is said to a client on another machine

down_none : (o : Option Sessions) (key : ℕ) → packet_of (down_in o key) ≡ None
unfolding packet_of packet_at front_at
down_none None key = refl
down_none (Some s) key = down_is_no_packet (down_for s.remote key)

module _ (c : Config) (n : ℕ) (f : Answering) where
  -- a daemon went on to another, which then sends a message that is no packet
  says_back : (net : Net) (es : List Answered) (w : World) (d e : Daemon) → Stand c (went_on n d e net) es w → More d e → (network : ℕ) (message : List ℕ) → packet_of message ≡ None → Stand c (went_on n d (sent_back network message e) net) es w
  says_back net es w d e k more network message none =
      subst (λ z. Stand c z es w) (goes_twice n d e (sent_back network message e) net more (back_more network message e)) (says_stands c (went_on n d e net) es w k n e (went_here n d e net) network message none (sent_back network message e) says (noted_is e (sent_back network message e) [] (sym (append-nil e.records))))
    where
      says : Says (went_on n d e net) w k.wires n e (went_here n d e net) network message (sent_back network message e)
      says = record { core = refl; me = refl; incarnation = refl; joining = refl; number = refl; calls = refl }

  -- the Down of a key
  downs : (net : Net) (es : List Answered) (w : World) (d e : Daemon) → Stand c (went_on n d e net) es w → More d e → (key network : ℕ) → Stand c (went_on n d (down_sent key network e) net) es w
  unfolding down_sent
  downs net es w d e k more key network = says_back net es w d e k more network (down_in e.sessions key) (down_none e.sessions key)

  module _ (net : Net) (es : List Answered) (w : World) (k : Stand c net es w) (d : Daemon) (at : net.daemons n ≡ Some d) where
    -- only its sessions change
    sessions_stand : (e : Daemon) → e.core ≡ d.core → e.me ≡ d.me → e.incarnation ≡ d.incarnation → e.number ≡ d.number → e.joining ≡ d.joining → e.calls ≡ d.calls → e.records ≡ d.records → Stand c (went_on n d e net) es w
    sessions_stand e core me inc number joining calls records =
        keeps_stands c net es w k n d at e core me inc number (subst (λ j. IsJoinedOf k.wires.messages j) (sym joining) (own_up net w k.wires n d at).joined) (nothing_sent d e calls) (noted_is d e [] (records ∙ sym (append-nil d.records)))

    -- a client on another machine speaks, and makes no call
    speaks : (key network : ℕ) (message : List ℕ) → Gives c net es n d (down_sent key network (with_up message d)) (λ zs. zs ≡ [])
    speaks key network message =
        let e : Daemon = with_up message d in
        record {
          events = [];
          are = refl;
          world = w;
          stand = subst (λ zs. Stand c (went_on n d (down_sent key network e) net) zs w) (sym (append-nil es)) (downs net es w d e (sessions_stand e refl refl refl refl refl refl refl) (same_more d e refl refl) key network);
        }

    -- it makes a call, which is one of the node, or refused without a step
    calls_by : (o : Option CallLine) (key network : ℕ) (message : List ℕ)
        → Gives c net es n d (down_sent key network (line_carried key o f (with_up message d))) (λ zs. zs ≡ call_events n o f)
    unfolding left_for
    calls_by None key network message =
        let e : Daemon = line_carried key None f (with_up message d) in
        record {
          events = [];
          are = refl;
          world = w;
          stand = subst (λ zs. Stand c (went_on n d (down_sent key network e) net) zs w) (sym (append-nil es)) (downs net es w d e (sessions_stand e refl refl refl refl refl refl refl) (same_more d e refl refl) key network);
        }
    calls_by (Some a) key network message =
        let e : Daemon = line_carried key (Some a) f (with_up message d) in
        let o : Opening = record { call = a; answers = f } in
        let t : StepsTo f (Calls a) d e = record { me = refl; incarnation = refl; core = refl; joining = refl; number = refl; calls = refl; records = refl } in
        record {
          events = answered_by f (event.Call n a) ∷ [];
          are = refl;
          world = goes_on w (answered_by f (event.Call n a));
          stand = downs net (es ++ answered_by f (event.Call n a) ∷ []) (goes_on w (answered_by f (event.Call n a))) d e (step_stands c net es w k n d at f (Calls a) (answered_by f (event.Call n a)) (stepped f (its_node c net es w k n d at).node.core (Calls a)) (called c net es w k n d at o) e t) (carried_more key (Some a) message f d) key network;
        }

    -- ---- a whole message

    brought_gives : (u : SeenUp) (network : ℕ) (message : List ℕ) → IsKnown w message → Gives c net es n d (brought u network message f d) (BroughtEvents n d u message f)
    unfolding brought called_by
    brought_gives NotUp network message known = message_gives c net es w k n d at f message known
    brought_gives (EndedKey key) network message known = speaks key network message
    brought_gives (KeysFull key limit) network message known = speaks key network message
    brought_gives (KnownKey key) network message known = speaks key network message
    brought_gives (CallMade key line) network message known = calls_by (call_in (with_up message d).sessions d.me key line) key network message

    -- a question about the daemon itself brings nothing, and the reply to it is no packet
    asked_gives : (o : Option SelfQuestion) (network : ℕ) (message : List ℕ) → IsKnown w message → Gives c net es n d (asked o network message f d) (AskedEvents n d o message f)
    unfolding asked told_itself
    asked_gives None network message known = brought_gives (up_in d.sessions message) network message known
    asked_gives (Some q) network message known =
        let text : List ℕ = reply_text q (self_text q.what d) in
        record {
          events = [];
          are = refl;
          world = w;
          stand = subst (λ zs. Stand c (went_on n d (sent_back network text d) net) zs w) (sym (append-nil es)) (says_back net es w d d (none_given c net es w k n d at) (same_more d d refl refl) network text (reply_is_no_packet q (self_text q.what d)));
        }

pub given_on_gives : (c : Config) (net : Net) (es : List Answered) (w : World) (k : Stand c net es w) (n : ℕ) (d : Daemon) → net.daemons n ≡ Some d → (network : ℕ) (f : Answering) (message : Option (List ℕ)) → IsKnownIf w message → Gives c net es n d (given_on network message f d) (GivenEvents n d message f)
unfolding given_on
given_on_gives c net es w k n d at network f None known =
    record { events = []; are = refl; world = w; stand = subst (λ zs. Stand c (went_on n d d net) zs w) (sym (append-nil es)) (none_given c net es w k n d at) }
given_on_gives c net es w k n d at network f (Some message) known =
    asked_gives c n f net es w k d at (question_of message) network message known
