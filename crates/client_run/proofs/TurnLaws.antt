-- What a client does in a turn.
use Rattle.std.proofs.Common.{◌≡◌, ℕ, zero, suc, ◌==◌, Bool, true, false, List, [], ◌∷◌, length, Option, Some, None, refl, sym, ◌∙◌, ap, subst, arith}
use Rattle.std.specs.Prelude.{slice_get, if◌then◌else◌, option_map}
use Rattle.std.proofs.lemmas.Bool.{eqb-true}
use Rattle.rsct_packet.specs.Format.{EachFits}
use Rattle.rsct_packet.specs.Ids.{risen}
use Rattle.hags_io.specs.declared.link.LinkCall.{LinkCall}
use Rattle.hags_io.specs.declared.link.LinkCall.TheVariants as call
use Rattle.hags_io.specs.Deeds.{Exchanged, Wrote}
use Rattle.hags_io.specs.Telling.{Telling, Did}
use Rattle.hags_io.specs.Fronts.{Went, WentFront, written}
use Rattle.hags_io.proofs.FrontLaws.{went_nothing, went_on, went_as, none_went, still_went, went_front_on, went_front_more, write_failed}
use Rattle.daemon_model.specs.Daemon.{joined_by, network_of}
use Rattle.link_use.specs.declared.receiving.Receiving.{Receiving}
use Rattle.link_use.specs.Receiving.{IsReceive, Receives, ReceivesFront}
use Rattle.link_use.specs.declared.stop.Stop.{Stop}
use Rattle.link_use.specs.declared.stop.Stop.TheVariants as stop
use Rattle.link_use.specs.Stops.{StopsBy, StopsClient}
use Rattle.remote_session.specs.declared.far.DownSeen.{DownSeen}
use Rattle.remote_session.specs.Client.{FarState, may_call, far_called, far_seen, far_taken}
use Rattle.client_run.specs.declared.client.Client.{Client}
use Rattle.client_run.specs.Turns.{made_with, call_made, up_piece, up_call, up_sent, written_of, after_seen, text_in, heard_in, seen_in, joined, text_by, heard_by, seen_by, begun, turned, turn_deeds, turn_seen}
use Rattle.client_run.specs.Running.{IsCall, Stays, EndsTurn, Hears, Ends, ReceivesAs, ReceiveEnds, ReceiveFront, TurnsAs, TurnEnds, TurnFront}

-- ---- texts

-- nothing is written of an empty text
pub empty_written : (t : Telling) (text : List ℕ) → (length text == 0) ≡ true → Went t t (written text)
empty_written t [] e = went_nothing t
empty_written t (c ∷ text) e = let z : length (c ∷ text) ≡ 0 = eqb-true (length (c ∷ text)) 0 e in absurd (omega arith)

pub text_written : (t u : Telling) (text : List ℕ) → (length text == 0) ≡ false → Did t u (Wrote text true ∷ []) → Went t u (written text)
text_written t u [] e h = absurd cc
text_written t u (c ∷ text) e h = went_as t u (Wrote (c ∷ text) true) (Wrote (c ∷ text) true) refl h

pub text_failed : (t u : Telling) (text : List ℕ) → (length text == 0) ≡ false → Did t u (Wrote text false ∷ []) → WentFront t u (written text)
text_failed t u [] e h = absurd cc
text_failed t u (c ∷ text) e h = write_failed t u (c ∷ text) [] h

-- ---- the call that is made

pub call_at : (lines : List (List ℕ)) (place : ℕ) (line : List ℕ) → EachFits IsCall lines → Some line ≡ slice_get lines place → IsCall line
call_at [] place line h e = absurd cc
call_at (l ∷ lines) zero line h e = let s : l ≡ line = cc in subst IsCall s h.0
call_at (l ∷ lines) (suc place) line h e = call_at lines place line h.1 e

pub made_none : (lines : List (List ℕ)) (c : Client) → None ≡ slice_get lines c.made → c ≡ call_made lines c
unfolding call_made
made_none lines c e = ap (made_with c) e

made_as : (lines : List (List ℕ)) (c : Client) (line : List ℕ) (far : FarState) (b made : Bool) → Some line ≡ slice_get lines c.made → far ≡ far_called line c.far → made ≡ may_call c.far → made ≡ b
    → ◌≡◌ {A = Client} (record c { far = far; made = if b then risen c.made else c.made }) (call_made lines c)
unfolding call_made
made_as lines c line far b made e f may is =
    let one : ◌≡◌ {A = Client} (record c { far = far; made = if b then risen c.made else c.made }) (record c { far = far_called line c.far; made = if b then risen c.made else c.made }) =
    ap (λ (g : FarState). record c { far = g; made = if b then risen c.made else c.made }) f in
    let two : ◌≡◌ {A = Client} (record c { far = far_called line c.far; made = if b then risen c.made else c.made }) (made_with c (Some line)) =
    ap (λ (t : Bool). record c { far = far_called line c.far; made = if t then risen c.made else c.made }) (sym is ∙ may) in
    one ∙ (two ∙ ap (made_with c) e)

pub made_call : (lines : List (List ℕ)) (c : Client) (line : List ℕ) (far : FarState) (made : Bool) → Some line ≡ slice_get lines c.made → far ≡ far_called line c.far → made ≡ may_call c.far → made ≡ true
    → ◌≡◌ {A = Client} (record c { far = far; made = risen c.made }) (call_made lines c)
made_call lines c line far made e f may is = made_as lines c line far true made e f may is

pub made_no_call : (lines : List (List ℕ)) (c : Client) (line : List ℕ) (far : FarState) (made : Bool) → Some line ≡ slice_get lines c.made → far ≡ far_called line c.far → made ≡ may_call c.far → made ≡ false
    → ◌≡◌ {A = Client} (record c { far = far }) (call_made lines c)
made_no_call lines c line far made e f may is = made_as lines c line far false made e f may is

-- ---- the Up that is sent

pub up_went : (c : Client) (piece : List ℕ) (out : Bool) (t u : Telling) → piece ≡ up_piece c.far c.number → Did t u (Exchanged (call.Sent c.node c.network piece out) ∷ []) → Went t u (Exchanged (up_call c) ∷ [])
unfolding up_call
up_went c piece out t u is h = went_as t u (Exchanged (call.Sent c.node c.network piece out)) (Exchanged (up_call c)) (ap (λ (p : List ℕ). Exchanged (call.Sent c.node c.network p true)) is) h

-- ---- a message

abbrev with_end : Client → FarState → Client
with_end r far = record r { far = far }

pub hears_as : (r s : Client) (far : FarState) (v : DownSeen) (m : List ℕ) (t u : Telling) → far ≡ far_taken r.far m → v ≡ far_seen r.far m → s ≡ after_seen (with_end r far) v → Went t u (written (written_of (with_end r far) v)) → Stays v
    → Hears r s m t u
hears_as r s far v m t u f e is went stays = record {
  is = is ∙ (ap (λ (g : FarState). after_seen (with_end r g) v) f ∙ ap (λ (w : DownSeen). after_seen (with_end r (far_taken r.far m)) w) e);
  went = subst (λ (w : DownSeen). Went t u (written (written_of (with_end r (far_taken r.far m)) w))) e (subst (λ (g : FarState). Went t u (written (written_of (with_end r g) v))) f went);
  stays = subst Stays e stays;
}

pub ends_as : (P : DownSeen → Type 0) (r : Client) (far : FarState) (v : DownSeen) (m : List ℕ) (t u : Telling) → far ≡ far_taken r.far m → v ≡ far_seen r.far m → P v → Went t u (written (written_of (with_end r far) v)) → Ends P r m t u
ends_as P r far v m t u f e p went = record {
  ended = subst P e p;
  went = subst (λ (w : DownSeen). Went t u (written (written_of (with_end r (far_taken r.far m)) w))) e (subst (λ (g : FarState). Went t u (written (written_of (with_end r g) v))) f went);
}

pub front_as : (r : Client) (far : FarState) (v : DownSeen) (m : List ℕ) (t u : Telling) → far ≡ far_taken r.far m → v ≡ far_seen r.far m → WentFront t u (written (written_of (with_end r far) v)) → WentFront t u (written (text_in r (Some m)))
front_as r far v m t u f e front = subst (λ (w : DownSeen). WentFront t u (written (written_of (with_end r (far_taken r.far m)) w))) e (subst (λ (g : FarState). WentFront t u (written (written_of (with_end r g) v))) f front)

-- ---- a receive

no_message : (n : ℕ) (o : Option (List ℕ)) → ◌≡◌ {A = Option (ℕ × List ℕ)} None (option_map (λ m. (n, m)) o) → o ≡ None
no_message n None e = refl
no_message n (Some m) e = absurd cc

second : Option (ℕ × List ℕ) → List ℕ
second None = []
second (Some x) = x.1

one_message : (n network : ℕ) (message : List ℕ) (o : Option (List ℕ)) → ◌≡◌ {A = Option (ℕ × List ℕ)} (Some (network, message)) (option_map (λ m. (n, m)) o) → o ≡ Some message
unfolding second
one_message n network message None e = absurd cc
one_message n network message (Some m) e = ap Some (sym (ap second e))

got_went : (t u : Telling) (got : LinkCall) → IsReceive got → Did t u (Exchanged got ∷ []) → Went t u (Exchanged got ∷ [])
got_went t u (call.Received k b) r h = went_as t u (Exchanged (call.Received k b)) (Exchanged (call.Received k b)) refl h
got_went t u call.Quiet r h = went_as t u (Exchanged call.Quiet) (Exchanged call.Quiet) refl h
got_went t u call.Failed r h = went_as t u (Exchanged call.Failed) (Exchanged call.Failed) refl h
got_went t u (call.Sent n k b o) r h = absurd r

-- the client as it received
abbrev received : Client → Receiving → Client
received r q = record r { receiving = q }

-- no message is whole by it
pub receives_nothing : (r : Client) (q : Receiving) (t u : Telling) → Receives r.receiving q None t u → ReceivesAs r (received r q) t u
unfolding heard_by text_by seen_by
receives_nothing r q t u h =
    let none : (joined_by h.got r.receiving.joiner).message ≡ None = no_message (network_of h.got) (joined_by h.got r.receiving.joiner).message h.whole_is in
    record {
      got = h.got;
      receive = h.receive;
      went = subst (λ (m : Option (List ℕ)). Went t u (Exchanged h.got ∷ written (text_in (joined h.got r) m))) (sym none) (got_went t u h.got h.receive h.told);
      is = ap (received r) h.is ∙ sym (ap (heard_in (joined h.got r)) none);
      stays = subst (λ (m : Option (List ℕ)). Stays (seen_in r m)) (sym none) tt;
    }

pub receives_message : (r s : Client) (q : Receiving) (network : ℕ) (message : List ℕ) (t u v : Telling) → Receives r.receiving q (Some (network, message)) t u → Hears (received r q) s message u v → ReceivesAs r s t v
unfolding heard_by text_by seen_by
receives_message r s q network message t u v h n =
    let whole : (joined_by h.got r.receiving.joiner).message ≡ Some message = one_message (network_of h.got) network message (joined_by h.got r.receiving.joiner).message h.whole_is in
    let m : Hears (joined h.got r) s message u v = subst (λ (x : Receiving). Hears (received r x) s message u v) h.is n in
    record {
      got = h.got;
      receive = h.receive;
      went = subst (λ (o : Option (List ℕ)). Went t v (Exchanged h.got ∷ written (text_in (joined h.got r) o))) (sym whole)
          (went_on t u v (Exchanged h.got ∷ []) (written (text_in (joined h.got r) (Some message))) (got_went t u h.got h.receive h.told) m.went);
      is = m.is ∙ sym (ap (heard_in (joined h.got r)) whole);
      stays = subst (λ (o : Option (List ℕ)). Stays (seen_in r o)) (sym whole) m.stays;
    }

pub receive_ends : (P : DownSeen → Type 0) (r : Client) (q : Receiving) (network : ℕ) (message : List ℕ) (t u v : Telling) → Receives r.receiving q (Some (network, message)) t u → Ends P (received r q) message u v → ReceiveEnds P r t v
unfolding text_by seen_by
receive_ends P r q network message t u v h n =
    let whole : (joined_by h.got r.receiving.joiner).message ≡ Some message = one_message (network_of h.got) network message (joined_by h.got r.receiving.joiner).message h.whole_is in
    let m : Ends P (joined h.got r) message u v = subst (λ (x : Receiving). Ends P (received r x) message u v) h.is n in
    record {
      got = h.got;
      receive = h.receive;
      went = subst (λ (o : Option (List ℕ)). Went t v (Exchanged h.got ∷ written (text_in (joined h.got r) o))) (sym whole)
          (went_on t u v (Exchanged h.got ∷ []) (written (text_in (joined h.got r) (Some message))) (got_went t u h.got h.receive h.told) m.went);
      ended = subst (λ (o : Option (List ℕ)). P (seen_in r o)) (sym whole) m.ended;
    }

pub front_message : (r : Client) (q : Receiving) (network : ℕ) (message : List ℕ) (t u v : Telling) → Receives r.receiving q (Some (network, message)) t u → WentFront u v (written (text_in (received r q) (Some message))) → ReceiveFront r t v
unfolding text_by
front_message r q network message t u v h n =
    let whole : (joined_by h.got r.receiving.joiner).message ≡ Some message = one_message (network_of h.got) network message (joined_by h.got r.receiving.joiner).message h.whole_is in
    let m : WentFront u v (written (text_in (joined h.got r) (Some message))) = subst (λ (x : Receiving). WentFront u v (written (text_in (received r x) (Some message)))) h.is n in
    record {
      got = h.got;
      receive = h.receive;
      front = subst (λ (o : Option (List ℕ)). WentFront t v (Exchanged h.got ∷ written (text_in (joined h.got r) o))) (sym whole)
          (went_front_on t u v (Exchanged h.got ∷ []) (written (text_in (joined h.got r) (Some message))) (got_went t u h.got h.receive h.told) m);
    }

pub front_none : (r : Client) (t u : Telling) → ReceivesFront t u → ReceiveFront r t u
front_none r t u h = record { got = h.got; receive = h.receive; front = went_front_more t u (Exchanged h.got ∷ []) (written (text_by h.got r)) h.front }

-- ---- a turn

-- what stops a step ends its turn
pub step_ends : (t : Telling) (e : Stop) → StopsBy t e → EndsTurn t e
step_ends t stop.NoMemory h = h
step_ends t stop.WriteFault h = h
step_ends t stop.LinkFault h = h
step_ends t stop.NoReply h = h
step_ends t stop.SessionLost h = absurd h
step_ends t stop.DaemonFull h = absurd h
step_ends t stop.Paused h = absurd h

-- and what ends a turn ends a client
pub stops_client : (t : Telling) (e : Stop) → EndsTurn t e → StopsClient e
stops_client t stop.NoMemory h = tt
stops_client t stop.WriteFault h = tt
stops_client t stop.LinkFault h = tt
stops_client t stop.NoReply h = tt
stops_client t stop.SessionLost h = tt
stops_client t stop.DaemonFull h = tt
stops_client t stop.Paused h = absurd h

-- how it stands before its receive
stands : (lines : List (List ℕ)) (r q p : Client) → q ≡ call_made lines r → p ≡ up_sent q → p ≡ begun lines r
stands lines r q p made sent = sent ∙ ap up_sent made

up_of : (lines : List (List ℕ)) (r q : Client) (t u : Telling) → q ≡ call_made lines r → Went t u (Exchanged (up_call q) ∷ []) → Went t u (Exchanged (up_call (call_made lines r)) ∷ [])
up_of lines r q t u made w = subst (λ (c : Client). Went t u (Exchanged (up_call c) ∷ [])) made w

pub turns_as : (lines : List (List ℕ)) (r q p s : Client) (t u v : Telling) → q ≡ call_made lines r → p ≡ up_sent q → Went t u (Exchanged (up_call q) ∷ []) → ReceivesAs p s u v → TurnsAs lines r s t v
unfolding turned turn_deeds turn_seen
turns_as lines r q p s t u v made sent w h =
    let g : ReceivesAs (begun lines r) s u v = subst (λ (c : Client). ReceivesAs c s u v) (stands lines r q p made sent) h in
    record { got = g.got; receive = g.receive; went = went_on t u v _ _ (up_of lines r q t u made w) g.went; is = g.is; stays = g.stays }

pub turn_ends : (P : DownSeen → Type 0) (lines : List (List ℕ)) (r q p : Client) (t u v : Telling) → q ≡ call_made lines r → p ≡ up_sent q → Went t u (Exchanged (up_call q) ∷ []) → ReceiveEnds P p u v → TurnEnds P lines r t v
unfolding turn_deeds turn_seen
turn_ends P lines r q p t u v made sent w h =
    let g : ReceiveEnds P (begun lines r) u v = subst (λ (c : Client). ReceiveEnds P c u v) (stands lines r q p made sent) h in
    record { got = g.got; receive = g.receive; went = went_on t u v _ _ (up_of lines r q t u made w) g.went; ended = g.ended }

pub turn_front : (lines : List (List ℕ)) (r q p : Client) (t u v : Telling) → q ≡ call_made lines r → p ≡ up_sent q → Went t u (Exchanged (up_call q) ∷ []) → ReceiveFront p u v → TurnFront lines r t v
unfolding turn_deeds
turn_front lines r q p t u v made sent w h =
    let g : ReceiveFront (begun lines r) u v = subst (λ (c : Client). ReceiveFront c u v) (stands lines r q p made sent) h in
    record { got = g.got; receive = g.receive; front = went_front_on t u v _ _ (up_of lines r q t u made w) g.front }

pub turn_unbegun : (lines : List (List ℕ)) (r : Client) (t : Telling) → TurnFront lines r t t
turn_unbegun lines r t = record { got = call.Quiet; receive = tt; front = none_went t _ }

pub turn_unsent : (lines : List (List ℕ)) (r : Client) (t u : Telling) → Did t u [] → TurnFront lines r t u
turn_unsent lines r t u h = record { got = call.Quiet; receive = tt; front = still_went t u _ h }
