-- A turn of a daemon: a tick where one is due, a receive, and the message that is whole by it.
use Rattle.std.proofs.Common.{◌≡◌, ℕ, List, [], ◌∷◌, ◌++◌, Bool, true, false, Option, Some, None, refl, sym, ◌∙◌, subst, inl, inr, append-nil}
use Rattle.std.specs.Prelude.{◌⊎◌}
use Rattle.rsct_packet.specs.Search.{Has}
use Rattle.hags_io.specs.declared.link.LinkCall.{LinkCall}
use Rattle.hags_io.specs.declared.link.LinkCall.TheVariants as call
use Rattle.node_state.specs.declared.config.Config.{Config}
use Rattle.node_state.specs.declared.packet.Body.{Body}
use Rattle.node_state.specs.declared.packet.Body.TheVariants as body
use Rattle.node_state.specs.declared.packet.Packet.{Packet}
use Rattle.node_state.specs.HandOn.{Answering}
use Rattle.node_state.specs.Bytes.{packet_of, bytes_of}
use Rattle.node_reach.specs.Reach.{reach_of}
use Rattle.rsct_packet.specs.declared.mask.Mask.{Mask}
use Rattle.node_state.specs.declared.call.CallLine.{CallLine}
use Rattle.node_state.specs.Step.{Ticks, Asks, Calls, stepped}
use Rattle.world_model.specs.World.{World}
use Rattle.world_model.specs.declared.event.Event.TheVariants as event
use Rattle.world_laws.specs.world_answers.Answers.{Answered, goes_on}
use Rattle.piece_link.specs.Pieces.{Message, Piece, piece_at, pieces_of}
use Rattle.piece_link.specs.Joining.{Joining, Joined, taken}
use Rattle.piece_link.specs.Answers.{Among, CanBeCut, SameKey}
use Rattle.piece_link.proofs.UnchangedLaw.{unchanged, answered_at_once}
use Rattle.daemon_model.specs.Sent.{Numbered, Of, OfNothing, OfPacket, OfMessage, Exchange, plain, as_sent, IsSpelledIf}
use Rattle.daemon_model.specs.Daemon.{Daemon, Opening, stepped_by, counted, ticked_if, joined_by, received, given_on, network_of, heard, goodbye_in, goodbye_said, without_key, key_over, mended, left_for, stepped_for}
use Rattle.network_model.specs.Network.{Net, made_since, went_on}
use Rattle.network_model.specs.Fits.{IsQuestion, AsksAtMost, IsOfClient, IsSend, WasSent, MayCome, IsSpelledSend}
use Rattle.network_safety.specs.Safe.{answered_by, tick_events, call_events, GivenEvents}
use Rattle.network_safety.proofs.Messages.{message_of, one_fits}
use Rattle.network_safety.proofs.Quiet.{IsTalk}
use Rattle.network_safety.proofs.Joins.{IsJoinedOf, more_joined, joined_on, whole_sent}
use Rattle.network_laws.proofs.Going.{More, made_is, noted_is, goes_twice, step_more, due_more, received_more, given_on_more}
use Rattle.network_safety.proofs.Standing.{IsKnown, IsUpIf, IsPiece, IsOther, IsMade, Wires, Stand, node_of}
use Rattle.network_safety.proofs.Stepping.{StepsTo, steps_to, IsNoSend, own_up, step_stands, keeps_stands}
use Rattle.network_safety.proofs.Acts.{its_node, called, nothing_sent, ticks, asks, Gives, IsKnownIf, none_given}
use Rattle.network_safety.proofs.Bringing.{went_here, given_on_gives}

-- ---- the tick

pub record Went (c : Config) (net : Net) (es : List Answered) : Type 0 where
  pub world : World
  pub stand : Stand c net es world

pub tick_goes : (c : Config) (net : Net) (es : List Answered) (w : World) → Stand c net es w → (n : ℕ) (d : Daemon) → net.daemons n ≡ Some d → (b : Bool) (moment : ℕ) (f : Answering)
    → Went c (went_on n d (ticked_if b moment f d) net) (es ++ tick_events b n f)
unfolding stepped_for left_for
tick_goes c net es w k n d at false moment f =
    record { world = w; stand = subst (λ zs. Stand c (went_on n d d net) zs w) (sym (append-nil es)) (none_given c net es w k n d at) }
tick_goes c net es w k n d at true moment f =
    let e : Daemon = record d { last = moment } in
    let k1 : Stand c (went_on n d e net) es w = keeps_stands c net es w k n d at e refl refl refl refl (own_up net w k.wires n d at).joined (nothing_sent d e refl) (noted_is d e [] (sym (append-nil d.records))) in
    let up = went_here n d e net in
    let g : Daemon = counted (stepped_by f Ticks e) in
    let to : StepsTo f Ticks e g = record { me = refl; incarnation = refl; core = refl; joining = refl; number = refl; calls = refl; records = refl } in
    let m : More e (stepped_by f Ticks e) = step_more f Ticks e in
    let k2 = step_stands c (went_on n d e net) es w k1 n e up f Ticks (answered_by f (event.Tick n)) (stepped f (node_of c (went_on n d e net) es w k1.world n e up).node.core Ticks) (ticks c (went_on n d e net) es w k1 n e up f) g to in
    record { world = goes_on w (answered_by f (event.Tick n)); stand = subst (λ z. Stand c z (es ++ answered_by f (event.Tick n) ∷ []) (goes_on w (answered_by f (event.Tick n)))) (goes_twice n d e g net (due_more moment d) (record { calls = m.calls; called = m.called; records = m.records; recorded = m.recorded })) k2 }

-- ---- what it does of its own

-- a key says the goodbye that it owes, and ends
over_by : (c : Config) (net : Net) (es : List Answered) (w : World) → Stand c net es w → (n : ℕ) (d : Daemon) → net.daemons n ≡ Some d → (key : ℕ) (o : Option CallLine) (f : Answering)
    → Went c (went_on n d (without_key key (goodbye_said key o f d)) net) (es ++ call_events n o f)
unfolding left_for
over_by c net es w k n d at key None f =
    let e : Daemon = without_key key d in
    record {
      world = w;
      stand = subst (λ zs. Stand c (went_on n d e net) zs w) (sym (append-nil es)) (keeps_stands c net es w k n d at e refl refl refl refl (own_up net w k.wires n d at).joined (nothing_sent d e refl) (noted_is d e [] (sym (append-nil d.records))));
    }
over_by c net es w k n d at key (Some a) f =
    let e : Daemon = without_key key (goodbye_said key (Some a) f d) in
    let o : Opening = record { call = a; answers = f } in
    let to : StepsTo f (Calls a) d e = record { me = refl; incarnation = refl; core = refl; joining = refl; number = refl; calls = refl; records = refl } in
    record {
      world = goes_on w (answered_by f (event.Call n a));
      stand = step_stands c net es w k n d at f (Calls a) (answered_by f (event.Call n a)) (stepped f (its_node c net es w k n d at).node.core (Calls a)) (called c net es w k n d at o) e to;
    }

pub over_goes : (c : Config) (net : Net) (es : List Answered) (w : World) → Stand c net es w → (n : ℕ) (d : Daemon) → net.daemons n ≡ Some d → (key : ℕ) (f : Answering)
    → Went c (went_on n d (key_over key f d) net) (es ++ call_events n (goodbye_in d.sessions key) f)
unfolding key_over
over_goes c net es w k n d at key f = over_by c net es w k n d at key (goodbye_in d.sessions key) f

pub mended_goes : (c : Config) (net : Net) (es : List Answered) (w : World) → Stand c net es w → (n : ℕ) (d : Daemon) → net.daemons n ≡ Some d → (f : Answering)
    → Went c (went_on n d (mended f d) net) (es ++ answered_by f (event.Ask n (reach_of d.core.reach)) ∷ [])
unfolding mended
mended_goes c net es w k n d at f =
    let reach : Mask = reach_of d.core.reach in
    record {
      world = goes_on w (answered_by f (event.Ask n reach));
      stand = step_stands c net es w k n d at f (Asks reach) (answered_by f (event.Ask n reach)) (stepped f (its_node c net es w k n d at).node.core (Asks reach)) (asks c net es w k n d at f reach) (stepped_by f (Asks reach) d) (steps_to f (Asks reach) d);
    }

-- ---- the receive

asks_talk : (b : Body) → IsQuestion b → IsTalk b
asks_talk (body.Query question what) h = tt
asks_talk _ h = absurd h

asks_known : (w : World) (bytes : List ℕ) → AsksAtMost (packet_of bytes) → IsKnown w bytes
asks_known w bytes asks p is = inl (asks_talk p.body (subst AsksAtMost is asks))

-- what was received: still only what was sent is joined, and a message that is whole is known
pub record Comes (net : Net) (w : World) (j : Joined) : Type 0 where
  wires : Wires net w
  joined : IsJoinedOf wires.messages j.joining
  known : IsKnownIf w j.message

-- a packet that is read again as itself is known where it was sent
piece_known : (w : World) (n : Numbered) → IsTalk n.packet.body ⊎ Has n.packet w.sent → packet_of (bytes_of n.packet) ≡ Some n.packet → IsKnown w (bytes_of n.packet)
piece_known w n known read p is =
    let same : n.packet ≡ p = (let q : Some n.packet ≡ Some p = sym read ∙ is in cc) in
    subst (λ (z : Packet). IsTalk z.body ⊎ Has z w.sent) same known

-- a message that is known is one more of those of which pieces came
module _ (net : Net) (w : World) (k : Wires net w) (m : Message) (among : Among m k.all) (fits : CanBeCut m) (known : IsKnown w m.bytes) where
  learned : Wires net w
  learned =
      record k {
        messages = m ∷ k.messages;
        sent = λ l h. elim h [ inl e ↦ subst (λ z. Among z k.all) (sym e) among | inr i ↦ k.sent l i ];
        fits = λ l h. elim h [ inl e ↦ subst CanBeCut (sym e) fits | inr i ↦ k.fits l i ];
        known = λ l h. elim h [ inl e ↦ subst (λ (z : Message). IsKnown w z.bytes) (sym e) known | inr i ↦ k.known l i ];
        up = λ i. wider i (net.daemons i) (k.up i);
      }
    where
      wider : (i : ℕ) (o : Option Daemon) → IsUpIf k.messages i (net.incarnations i) o → IsUpIf (m ∷ k.messages) i (net.incarnations i) o
      wider i None u = tt
      wider i (Some g) u =
          record { most = u.most; fits = u.fits; me = u.me; incarnation = u.incarnation; rests = u.rests; joined = more_joined (m ∷ []) k.messages g.joining u.joined }

module _ (net : Net) (w : World) (k : Wires net w) where
  its_distinct : (m l : Message) → Among m k.messages → Among l k.messages → SameKey m l → m ≡ l
  its_distinct m l h i same = k.distinct m l (k.sent m h) (k.sent l i) same

  whole_known : (j : Joining) → IsJoinedOf k.messages j → (b : List ℕ) (m : Message) → Among m k.messages → Among b (pieces_of m) → (o : Option (List ℕ)) → (taken j b).message ≡ o → IsKnownIf w o
  whole_known j own_joined b m among piece None e = tt
  whole_known j own_joined b m among piece (Some x) e =
      let r = whole_sent k.messages k.fits its_distinct j own_joined b m among piece x e in
      subst (IsKnown w) r.2 (k.known r.0 r.1)

  piece_comes : (j : Joining) → IsJoinedOf k.messages j → (b : List ℕ) (m : Message) → Among m k.messages → Among b (pieces_of m) → Comes net w (taken j b)
  piece_comes j own_joined b m among piece =
      record { wires = k; joined = joined_on k.messages k.fits its_distinct j own_joined b m among piece; known = whole_known j own_joined b m among piece (taken j b).message refl }

module _ (net : Net) (w : World) (k : Wires net w) (j : Joining) (own_joined : IsJoinedOf k.messages j) where
  client_comes : (b : List ℕ) (o : Option Piece) → piece_at b ≡ o → IsOfClient o → Comes net w (taken j b)
  client_comes b None e h = absurd h
  client_comes b (Some q) e h =
      subst (Comes net w) (sym (answered_at_once j b q e h.0)) (record { wires = k; joined = own_joined; known = asks_known w q.text h.1 })

  message_comes : (b : List ℕ) (m : Message) → Among m k.all → CanBeCut m → IsKnown w m.bytes → Among b (pieces_of m) → Comes net w (taken j b)
  unfolding learned
  message_comes b m among fits known piece =
      piece_comes net w (learned net w k m among fits known) j (more_joined (m ∷ []) k.messages j own_joined) b m (inl refl) piece

  sent_comes : (b : List ℕ) (x : Exchange) → Among x net.wire → IsSend b x.call → (o : Of) → x.of ≡ o → IsSpelledIf o → Comes net w (taken j b)
  sent_comes b x among send OfNothing e spelled = absurd (subst (IsMade k.all w x.call) e (k.made x among) b send)
  sent_comes b x among send (OfMessage number) e spelled =
      let o : IsOther k.all number b = subst (IsMade k.all w x.call) e (k.made x among) b send in
      message_comes b o.message o.among (o.fits spelled) (λ p is. absurd (let z : None ≡ Some p = sym o.none ∙ is in cc)) o.piece
  sent_comes b x among send (OfPacket n) e spelled =
      let piece : IsPiece k.all w n x.call = subst (IsMade k.all w x.call) e (k.made x among) in
      message_comes b (message_of n) piece.among (one_fits (message_of n) piece.sender piece.incarnation spelled.fits piece.cut) (piece_known w n piece.known spelled.read) (piece.piece b send)

  comes : (got : LinkCall) → MayCome (λ bytes. WasSent IsSpelledSend bytes net.wire) got → Comes net w (joined_by got j)
  comes (call.Received network b) (inl sent) = sent_comes b sent.send sent.among sent.is sent.send.of refl sent.holds
  comes (call.Received network b) (inr (inl none)) =
      subst (Comes net w) (sym ((unchanged j b).0 none)) (record { wires = k; joined = own_joined; known = tt })
  comes (call.Received network b) (inr (inr client)) = client_comes b (piece_at b) refl client
  comes (call.Sent node network bytes out) h = absurd h
  comes call.Quiet h = record { wires = k; joined = own_joined; known = tt }
  comes call.Failed h = record { wires = k; joined = own_joined; known = tt }

no_send : (wire : List Exchange) (got : LinkCall) → MayCome (λ bytes. WasSent IsSpelledSend bytes wire) got → (b : List ℕ) → IsSend b (as_sent got) → ⊥
no_send wire (call.Received network bytes) h b is = absurd is
no_send wire (call.Sent node network bytes out) h b is = absurd h
no_send wire call.Quiet h b is = absurd is
no_send wire call.Failed h b is = absurd is

received_only : (wire : List Exchange) (got : LinkCall) → MayCome (λ bytes. WasSent IsSpelledSend bytes wire) got → (x : Exchange) → Among x (plain (as_sent got) ∷ []) → IsNoSend x
received_only wire got may x (inl e) = subst IsNoSend (sym e) (refl, no_send wire got may)
received_only wire got may x (inr h) = absurd h

receives : (c : Config) (net : Net) (es : List Answered) (w : World) (k : Stand c net es w) (n : ℕ) (d : Daemon) → net.daemons n ≡ Some d → (got : LinkCall) → MayCome (λ bytes. WasSent IsSpelledSend bytes net.wire) got → Stand c (went_on n d (received got d) net) es w × IsKnownIf w (joined_by got d.joining).message
unfolding received
receives c net es w k n d at got may =
    let r : Comes net w (joined_by got d.joining) = comes net w k.wires d.joining (own_up net w k.wires n d at).joined got may in
    let more : Stand c net es w = record { world = k.world; wires = r.wires } in
    (keeps_stands c net es w more n d at (received got d) refl refl refl refl r.joined quiet (noted_is d (received got d) [] (sym (append-nil d.records))), r.known)
  where
    quiet : (x : Exchange) → Among x (made_since d (received got d)) → IsNoSend x
    quiet x h = received_only net.wire got may x (subst (Among x) (made_is d (received got d) (plain (as_sent got) ∷ []) refl) h)

-- ---- what it brings

pub record HearGoes (c : Config) (net : Net) (es : List Answered) (n : ℕ) (d : Daemon) (got : LinkCall) (f : Answering) : Type 0 where
  pub events : List Answered
  pub are : GivenEvents n (received got d) (joined_by got d.joining).message f events
  pub world : World
  pub stand : Stand c (went_on n d (heard got f d) net) (es ++ events) world

pub hear_goes : (c : Config) (net : Net) (es : List Answered) (w : World) → Stand c net es w → (n : ℕ) (d : Daemon) → net.daemons n ≡ Some d → (got : LinkCall) (f : Answering) → MayCome (λ bytes. WasSent IsSpelledSend bytes net.wire) got → HearGoes c net es n d got f
unfolding heard
hear_goes c net es w k n d at got f may =
    record {
      events = g.events;
      are = g.are;
      world = g.world;
      stand = subst (λ z. Stand c z (es ++ g.events) g.world) (goes_twice n d e last net (received_more got d) (given_on_more (network_of got) message f e)) g.stand;
    }
  where
    e : Daemon
    e = received got d

    message : Option (List ℕ)
    message = (joined_by got d.joining).message

    last : Daemon
    last = given_on (network_of got) message f e

    r : Stand c (went_on n d e net) es w × IsKnownIf w message
    r = receives c net es w k n d at got may

    g : Gives c (went_on n d e net) es n e last (GivenEvents n e message f)
    g = given_on_gives c (went_on n d e net) es w r.0 n e (went_here n d e net) (network_of got) f message r.1
