-- What each part of a daemon's run adds to what it exchanged and recorded; and that these are its doings.
use Rattle.std.proofs.Common.{◌≡◌, ℕ, Bool, true, false, List, [], ◌∷◌, ◌++◌, map, length, drop, Option, Some, None, refl, sym, ◌∙◌, ap, ap₂, subst, append_assoc, append-nil}
use Rattle.hags_io.specs.declared.link.LinkCall.{LinkCall}
use Rattle.node_state.specs.declared.call.CallLine.{CallLine}
use Rattle.node_state.specs.declared.config.Config.{Config}
use Rattle.node_state.specs.declared.happened.Happened.{Happened}
use Rattle.node_state.specs.declared.state.Core.{Core}
use Rattle.node_state.specs.HandOn.{Answering}
use Rattle.node_state.specs.Bytes.{event_of}
use Rattle.node_state.specs.Step.{NodeEvent, Ticks, Asks, Calls, stepped, started}
use Rattle.remote_session.specs.Daemon.{SeenUp, NotUp, EndedKey, KeysFull, KnownKey, CallMade}
use Rattle.remote_clients.specs.declared.sessions.Sessions.{Sessions}
use Rattle.self_questions.specs.declared.messages.SelfQuestion.{SelfQuestion}
use Rattle.self_questions.specs.Messages.{question_of, reply_text}
use Rattle.daemon_model.specs.declared.options.Service.{Service}
use Rattle.daemon_model.specs.Sent.{Exchange, plain, as_sent, sent_calls}
use Rattle.daemon_model.specs.Daemon.{Daemon, Life, left_for, stepped_for, fresh, begun_for, opened, is_due, ticked_if, ticked, joined_by, received, given, up_in, with_up, call_in, key_called, line_carried, called_by, down_in, said_back, sent_back, down_sent, brought, self_text, told_itself, asked, given_on, network_of, heard, goodbye_in, goodbye_said, key_over, mended, lived}
use Rattle.daemon_model.specs.Actions.{Action, did, did_all, life_actions}
use Rattle.daemon_model.specs.Actions as actions
use Rattle.daemon_model.specs.Doings.{Doing, Reads, Exchanges, Writes, step_doings, since, doings, doings_of, life_doings, exchanges_in, records_in}
use Rattle.daemon_model.proofs.ActionLaws.{lives_are_actions}

-- ---- what is added

pub record Adds (d e : Daemon) : Type 0 where
  pub calls : List Exchange
  pub called : e.calls ≡ d.calls ++ calls
  pub records : List Happened
  pub recorded : e.records ≡ d.records ++ records

pub adds_none : (d : Daemon) → Adds d d
adds_none d = record { calls = []; called = sym (append-nil d.calls); records = []; recorded = sym (append-nil d.records) }

pub adds_on : (d e f : Daemon) → Adds d e → Adds e f → Adds d f
adds_on d e f p q = record {
  calls = p.calls ++ q.calls;
  called = q.called ∙ (ap (λ t. t ++ q.calls) p.called ∙ append_assoc d.calls p.calls q.calls);
  records = p.records ++ q.records;
  recorded = q.recorded ∙ (ap (λ t. t ++ q.records) p.recorded ∙ append_assoc d.records p.records q.records);
}

pub adds_left : (calling : Option ℕ) (d : Daemon) (s : Core) → Adds d (left_for calling d s)
unfolding left_for
adds_left calling d s = record { calls = sent_calls d.me d.incarnation d.number s.sends; called = refl; records = s.records; recorded = refl }

pub adds_step : (calling : Option ℕ) (f : Answering) (e : NodeEvent) (d : Daemon) → Adds d (stepped_for calling f e d)
unfolding stepped_for
adds_step calling f e d = adds_left calling d (stepped f d.core e)

-- sessions that change add nothing
pub adds_sessions : (d : Daemon) (o : Option Sessions) → Adds d (record d { sessions = o })
adds_sessions d o = record { calls = []; called = sym (append-nil d.calls); records = []; recorded = sym (append-nil d.records) }

adds_call : (key : ℕ) (a : CallLine) (f : Answering) (d : Daemon) → Adds d (key_called key a (stepped f d.core (Calls a)) d)
adds_call key a f d = adds_on d (left_for (Some key) d (stepped f d.core (Calls a))) _ (adds_left (Some key) d (stepped f d.core (Calls a))) (adds_sessions (left_for (Some key) d (stepped f d.core (Calls a))) _)

adds_line : (key : ℕ) (o : Option CallLine) (f : Answering) (d : Daemon) → Adds d (line_carried key o f d)
adds_line key None f d = adds_sessions d _
adds_line key (Some a) f d = adds_call key a f d

-- a key ends, with its goodbye or without
adds_goodbye : (key : ℕ) (o : Option CallLine) (f : Answering) (d : Daemon) → Adds d (goodbye_said key o f d)
adds_goodbye key None f d = adds_none d
adds_goodbye key (Some a) f d = adds_call key a f d

pub adds_over : (key : ℕ) (f : Answering) (d : Daemon) → Adds d (key_over key f d)
unfolding key_over
adds_over key f d =
    let e : Daemon = goodbye_said key (goodbye_in d.sessions key) f d in
    adds_on d e _ (adds_goodbye key (goodbye_in d.sessions key) f d) (adds_sessions e _)

pub adds_mended : (f : Answering) (d : Daemon) → Adds d (mended f d)
unfolding mended
adds_mended f d = adds_step None f (Asks _) d

pub adds_called : (key : ℕ) (line : List ℕ) (f : Answering) (d : Daemon) → Adds d (called_by key line f d)
unfolding called_by
adds_called key line f d = adds_line key (call_in d.sessions d.me key line) f d

adds_back : (network : ℕ) (message : List ℕ) (d : Daemon) → Adds d (sent_back network message d)
adds_back network message d = record { calls = said_back network message d; called = refl; records = []; recorded = sym (append-nil d.records) }

pub adds_down : (key network : ℕ) (d : Daemon) → Adds d (down_sent key network d)
unfolding down_sent
adds_down key network d = adds_back network (down_in d.sessions key) d

adds_brought : (u : SeenUp) (network : ℕ) (message : List ℕ) (f : Answering) (d : Daemon) → Adds d (brought u network message f d)
unfolding brought given
adds_brought NotUp network message f d = adds_step None f (event_of message) d
adds_brought (EndedKey key) network message f d = adds_on d (with_up message d) _ (adds_sessions d _) (adds_down key network (with_up message d))
adds_brought (KeysFull key limit) network message f d = adds_on d (with_up message d) _ (adds_sessions d _) (adds_down key network (with_up message d))
adds_brought (KnownKey key) network message f d = adds_on d (with_up message d) _ (adds_sessions d _) (adds_down key network (with_up message d))
adds_brought (CallMade key line) network message f d =
    adds_on d (with_up message d) _ (adds_sessions d _) (adds_on (with_up message d) (called_by key line f (with_up message d)) _ (adds_called key line f (with_up message d)) (adds_down key network (called_by key line f (with_up message d))))

adds_asked : (o : Option SelfQuestion) (network : ℕ) (message : List ℕ) (f : Answering) (d : Daemon) → Adds d (asked o network message f d)
unfolding asked told_itself
adds_asked None network message f d = adds_brought (up_in d.sessions message) network message f d
adds_asked (Some q) network message f d = adds_back network (reply_text q (self_text q.what d)) d

pub adds_given : (network : ℕ) (message : Option (List ℕ)) (f : Answering) (d : Daemon) → Adds d (given_on network message f d)
unfolding given_on
adds_given network None f d = adds_none d
adds_given network (Some message) f d = adds_asked (question_of message) network message f d

adds_tick : (moment : ℕ) (f : Answering) (due : Bool) (d : Daemon) → Adds d (ticked_if due moment f d)
adds_tick moment f true d = let h = adds_step None f Ticks (record d { last = moment }) in record { calls = h.calls; called = h.called; records = h.records; recorded = h.recorded }
adds_tick moment f false d = adds_none d

pub adds_heard : (got : LinkCall) (f : Answering) (d : Daemon) → Adds (received got d) (heard got f d)
unfolding heard
adds_heard got f d = adds_given (network_of got) (joined_by got d.joining).message f (received got d)

-- ---- what is since then

drop_front : {A : Type 0} (xs ys : List A) → drop (length xs) (xs ++ ys) ≡ ys
drop_front [] ys = refl
drop_front (x ∷ xs) ys = drop_front xs ys

pub since_is : (d e : Daemon) (calls : List Exchange) (records : List Happened) → e.calls ≡ d.calls ++ calls → e.records ≡ d.records ++ records → since d e ≡ step_doings records calls
unfolding since
since_is d e calls records p q =
    ap₂ step_doings (ap (drop (length d.records)) q ∙ drop_front d.records records) (ap (drop (length d.calls)) p ∙ drop_front d.calls calls)

-- ---- shares of doings

pub exchanges_append : (xs ys : List Doing) → exchanges_in (xs ++ ys) ≡ exchanges_in xs ++ exchanges_in ys
exchanges_append [] ys = refl
exchanges_append (Reads m ∷ xs) ys = exchanges_append xs ys
exchanges_append (Exchanges x ∷ xs) ys = ap (λ t. x ∷ t) (exchanges_append xs ys)
exchanges_append (Writes rs ∷ xs) ys = exchanges_append xs ys

pub records_append : (xs ys : List Doing) → records_in (xs ++ ys) ≡ records_in xs ++ records_in ys
records_append [] ys = refl
records_append (Reads m ∷ xs) ys = records_append xs ys
records_append (Exchanges x ∷ xs) ys = records_append xs ys
records_append (Writes rs ∷ xs) ys = ap (λ t. rs ++ t) (records_append xs ys) ∙ sym (append_assoc rs (records_in xs) (records_in ys))

exchanges_back : (xs : List Exchange) → exchanges_in (map Exchanges xs) ≡ xs
exchanges_back [] = refl
exchanges_back (x ∷ xs) = ap (λ t. x ∷ t) (exchanges_back xs)

records_none : (xs : List Exchange) → records_in (map Exchanges xs) ≡ []
records_none [] = refl
records_none (x ∷ xs) = records_none xs

exchanges_step : (records : List Happened) (calls : List Exchange) → exchanges_in (step_doings records calls) ≡ calls
exchanges_step [] calls = exchanges_back calls
exchanges_step (r ∷ rs) calls = exchanges_back calls

records_step : (records : List Happened) (calls : List Exchange) → records_in (step_doings records calls) ≡ records
records_step [] calls = records_none calls
records_step (r ∷ rs) calls = ap (λ t. (r ∷ rs) ++ t) (records_none calls) ∙ append-nil (r ∷ rs)

-- what was exchanged and recorded from the first to the second are these doings
pub record Shares (d e : Daemon) (more : List Doing) : Type 0 where
  pub calls : e.calls ≡ d.calls ++ exchanges_in more
  pub records : e.records ≡ d.records ++ records_in more

shares_none : (d : Daemon) → Shares d d []
shares_none d = record { calls = sym (append-nil d.calls); records = sym (append-nil d.records) }

shares_on : (d e f : Daemon) (xs ys : List Doing) → Shares d e xs → Shares e f ys → Shares d f (xs ++ ys)
shares_on d e f xs ys p q = record {
  calls = q.calls ∙ (ap (λ t. t ++ exchanges_in ys) p.calls ∙ (append_assoc d.calls (exchanges_in xs) (exchanges_in ys) ∙ ap (λ t. d.calls ++ t) (sym (exchanges_append xs ys))));
  records = q.records ∙ (ap (λ t. t ++ records_in ys) p.records ∙ (append_assoc d.records (records_in xs) (records_in ys) ∙ ap (λ t. d.records ++ t) (sym (records_append xs ys))));
}

pub shares_since : (d e : Daemon) → Adds d e → Shares d e (since d e)
shares_since d e a =
    let is : since d e ≡ step_doings a.records a.calls = since_is d e a.calls a.records a.called a.recorded in
    subst (Shares d e) (sym is) (record {
      calls = a.called ∙ ap (λ t. d.calls ++ t) (sym (exchanges_step a.records a.calls));
      records = a.recorded ∙ ap (λ t. d.records ++ t) (sym (records_step a.records a.calls));
    })

shares_received : (got : LinkCall) (d : Daemon) → Shares d (received got d) (Exchanges (plain (as_sent got)) ∷ [])
unfolding received
shares_received got d = record { calls = refl; records = sym (append-nil d.records) }

shares_did : (d : Daemon) (a : Action) → Shares d (did d a) (doings d a)
unfolding did doings opened
shares_did d (actions.Opens o) = shares_since d (opened d o) (adds_step None o.answers (Calls o.call) d)
shares_did d (actions.Ticks m f) =
    let h : Shares d (ticked m f d) (since d (ticked m f d)) = shares_since d (ticked m f d) (adds_tick m f (is_due d.last m) d) in
    record { calls = h.calls; records = h.records }
shares_did d (actions.EndsKey key f) = shares_since d (key_over key f d) (adds_over key f d)
shares_did d (actions.Mends f) = shares_since d (mended f d) (adds_mended f d)
shares_did d (actions.Hears got f) = shares_on d (received got d) (heard got f d) (Exchanges (plain (as_sent got)) ∷ []) (since (received got d) (heard got f d)) (shares_received got d) (shares_since (received got d) (heard got f d) (adds_heard got f d))

pub shares_all : (d : Daemon) (acts : List Action) → Shares d (did_all d acts) (doings_of d acts)
unfolding did_all doings_of
shares_all d [] = shares_none d
shares_all d (a ∷ acts) = shares_on d (did d a) (did_all (did d a) acts) (doings d a) (doings_of (did d a) acts) (shares_did d a) (shares_all (did d a) acts)

begun_adds : (service : Service) (c : Config) (me incarnation moment : ℕ) → Adds (fresh service c me incarnation moment) (begun_for service c me incarnation moment)
unfolding begun_for
begun_adds service c me incarnation moment = adds_left None (fresh service c me incarnation moment) (started c me incarnation)

pub life_shares : (c : Config) (me incarnation : ℕ) (life : Life) → Shares (fresh life.service c me incarnation life.start) (lived c me incarnation life) (life_doings c me incarnation life)
unfolding life_doings
life_shares c me incarnation life =
    let d : Daemon = fresh life.service c me incarnation life.start in
    let e : Daemon = begun_for life.service c me incarnation life.start in
    let first : Shares d e (since d e) = shares_since d e (begun_adds life.service c me incarnation life.start) in
    let next : Shares e (lived c me incarnation life) (doings_of e (life_actions life)) =
    subst (λ (f : Daemon). Shares e f (doings_of e (life_actions life))) (sym (lives_are_actions c me incarnation life)) (shares_all e (life_actions life)) in
    let read : Shares d e (Reads life.start ∷ since d e) = record { calls = first.calls; records = first.records } in
    shares_on d e (lived c me incarnation life) (Reads life.start ∷ since d e) (doings_of e (life_actions life)) read next

-- ---- more acts

pub doings_append : (d : Daemon) (acts more : List Action) → doings_of d (acts ++ more) ≡ doings_of d acts ++ doings_of (did_all d acts) more
unfolding did_all doings_of
doings_append d [] more = refl
doings_append d (a ∷ acts) more = ap (λ t. doings d a ++ t) (doings_append (did d a) acts more) ∙ sym (append_assoc (doings d a) (doings_of (did d a) acts) (doings_of (did_all (did d a) acts) more))
