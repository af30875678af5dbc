-- A daemon goes on: what it receives, sends and records since, act by act and in parts.
use Rattle.std.proofs.Common.{◌≡◌, ℕ, List, [], ◌∷◌, ◌++◌, length, drop, Bool, true, false, Option, Some, None, refl, sym, ap, ◌∙◌, append-nil, append_assoc}
use Rattle.std.specs.Prelude.{◌==◌, if◌then◌else◌}
use Rattle.std.proofs.Math.Seq.{drop-append_seam}
use Rattle.hags_io.specs.declared.link.LinkCall.{LinkCall}
use Rattle.node_state.specs.declared.call.CallLine.{CallLine}
use Rattle.node_state.specs.declared.config.Config.{Config}
use Rattle.node_state.specs.declared.happened.Happened.{Happened}
use Rattle.node_state.specs.HandOn.{Answering}
use Rattle.node_state.specs.State.{with_sessions}
use Rattle.node_state.specs.Step.{NodeEvent, Ticks, Asks, Calls, started, stepped}
use Rattle.remote_session.specs.Daemon.{SeenUp, NotUp, EndedKey, KeysFull, KnownKey, CallMade}
use Rattle.self_questions.specs.declared.messages.SelfQuestion.{SelfQuestion}
use Rattle.self_questions.specs.Messages.{question_of, reply_text}
use Rattle.step_refinement.specs.Rules.{at_node}
use Rattle.daemon_model.specs.declared.options.Service.{Service}
use Rattle.daemon_model.specs.Sent.{Exchange, plain, as_sent, sent_calls}
use Rattle.daemon_model.specs.Daemon.{Daemon, Opening, left_for, stepped_for, stepped_by, begun_for, opened, is_due, ticked_if, joined_by, received, given, up_in, with_up, call_in, line_carried, called_by, down_in, said_back, sent_back, down_sent, brought, self_text, told_itself, asked, given_on, network_of, heard, goodbye_in, goodbye_said, key_over, mended}
use Rattle.daemon_model.specs.Actions.{Action, Opens, EndsKey, Mends, Hears, did}
use Rattle.daemon_model.specs.Actions as action
use Rattle.network_model.specs.Network.{Net, made_since, noted_since, went_on}

-- it received and sent this, and recorded this
pub record More (d e : Daemon) : Type 0 where
  pub calls : List Exchange
  pub called : e.calls ≡ d.calls ++ calls
  pub records : List Happened
  pub recorded : e.records ≡ d.records ++ records

pub made_is : (d e : Daemon) (calls : List Exchange) → e.calls ≡ d.calls ++ calls → made_since d e ≡ calls
unfolding made_since
made_is d e calls is = ap (drop (length d.calls)) is ∙ drop-append_seam d.calls calls

pub noted_is : (d e : Daemon) (records : List Happened) → e.records ≡ d.records ++ records → noted_since d e ≡ records
unfolding noted_since
noted_is d e records is = ap (drop (length d.records)) is ∙ drop-append_seam d.records records

pub more_on : (d e g : Daemon) → More d e → More e g → More d g
more_on d e g a b = record {
  calls = a.calls ++ b.calls;
  called = b.called ∙ ap (λ xs. xs ++ b.calls) a.called ∙ append_assoc d.calls a.calls b.calls;
  records = a.records ++ b.records;
  recorded = b.recorded ∙ ap (λ xs. xs ++ b.records) a.recorded ∙ append_assoc d.records a.records b.records;
}

set_twice : {A : Type 0} (f : ℕ → A) (n : ℕ) (x y : A) → at_node (at_node f n x) n y ≡ at_node f n y
unfolding at_node
set_twice f n x y = λ i m. by m (m == n) i
  where
    by : (m : ℕ) (b : Bool) → (if b then y else (if b then x else f m)) ≡ (if b then y else f m)
    by m true = refl
    by m false = refl

-- in two parts
pub goes_twice : (n : ℕ) (d e g : Daemon) (net : Net) → More d e → More e g → went_on n e g (went_on n d e net) ≡ went_on n d g net
unfolding went_on more_on
goes_twice n d e g net a b =
    λ i. record net {
      daemons = set_twice net.daemons n (Some e) (Some g) i;
      wire = wires i;
      records = notes i;
    }
  where
    both : More d g
    both = more_on d e g a b

    wires : (net.wire ++ made_since d e) ++ made_since e g ≡ net.wire ++ made_since d g
    wires =
        append_assoc net.wire (made_since d e) (made_since e g) ∙ ap (λ xs. net.wire ++ (xs ++ made_since e g)) (made_is d e a.calls a.called) ∙ ap (λ xs. net.wire ++ (a.calls ++ xs)) (made_is e g b.calls b.called)
        ∙ ap (λ xs. net.wire ++ xs) (sym (made_is d g both.calls both.called))

    notes : (net.records ++ noted_since d e) ++ noted_since e g ≡ net.records ++ noted_since d g
    notes =
        append_assoc net.records (noted_since d e) (noted_since e g) ∙ ap (λ xs. net.records ++ (xs ++ noted_since e g)) (noted_is d e a.records a.recorded) ∙ ap (λ xs. net.records ++ (a.records ++ xs)) (noted_is e g b.records b.recorded)
        ∙ ap (λ xs. net.records ++ xs) (sym (noted_is d g both.records both.recorded))

-- ---- a start

-- a daemon that starts has recorded that it is up, and has sent nothing
pub begun_records : (service : Service) (c : Config) (n inc moment : ℕ) → (begun_for service c n inc moment).records ≡ (started c n inc).records
unfolding begun_for left_for
begun_records service c n inc moment = refl

pub begun_calls : (service : Service) (c : Config) (n inc moment : ℕ) → (begun_for service c n inc moment).calls ≡ []
unfolding begun_for left_for started with_sessions sent_calls
begun_calls service c n inc moment = refl

-- ---- a step, and a call of the settings

-- what a step adds
pub step_more : (f : Answering) (e : NodeEvent) (d : Daemon) → More d (stepped_by f e d)
unfolding stepped_for left_for
step_more f e d = record { calls = sent_calls d.me d.incarnation d.number (stepped f d.core e).sends; called = refl; records = (stepped f d.core e).records; recorded = refl }

pub open_more : (d : Daemon) (o : Opening) → More d (opened d o)
unfolding opened
open_more d o = step_more o.answers (Calls o.call) d

-- ---- a tick

pub due_more : (moment : ℕ) (d : Daemon) → More d (record d { last = moment })
due_more moment d = record { calls = []; called = sym (append-nil d.calls); records = []; recorded = sym (append-nil d.records) }

pub tick_more : (b : Bool) (moment : ℕ) (f : Answering) (d : Daemon) → More d (ticked_if b moment f d)
tick_more true moment f d =
    let s : More (record d { last = moment }) (stepped_by f Ticks (record d { last = moment })) = step_more f Ticks (record d { last = moment }) in
    more_on d (record d { last = moment }) (ticked_if true moment f d) (due_more moment d) (record { calls = s.calls; called = s.called; records = s.records; recorded = s.recorded })
tick_more false moment f d = due_more d.last d

-- ---- a receive

pub received_more : (got : LinkCall) (d : Daemon) → More d (received got d)
unfolding received
received_more got d = record { calls = plain (as_sent got) ∷ []; called = refl; records = []; recorded = sym (append-nil d.records) }

-- nothing, where these stay
pub same_more : (d e : Daemon) → e.calls ≡ d.calls → e.records ≡ d.records → More d e
same_more d e calls records = record { calls = []; called = calls ∙ sym (append-nil d.calls); records = []; recorded = records ∙ sym (append-nil d.records) }

-- a message that is no packet is sent
pub back_more : (network : ℕ) (message : List ℕ) (d : Daemon) → More d (sent_back network message d)
back_more network message d = record { calls = said_back network message d; called = refl; records = []; recorded = sym (append-nil d.records) }

pub down_more : (key network : ℕ) (d : Daemon) → More d (down_sent key network d)
unfolding down_sent
down_more key network d = back_more network (down_in d.sessions key) d

pub carried_more : (key : ℕ) (o : Option CallLine) (message : List ℕ) (f : Answering) (d : Daemon) → More d (line_carried key o f (with_up message d))
unfolding left_for
carried_more key None message f d = same_more d (line_carried key None f (with_up message d)) refl refl
carried_more key (Some a) message f d =
    record { calls = sent_calls d.me d.incarnation d.number (stepped f d.core (Calls a)).sends; called = refl; records = (stepped f d.core (Calls a)).records; recorded = refl }

brought_more : (u : SeenUp) (network : ℕ) (message : List ℕ) (f : Answering) (d : Daemon) → More d (brought u network message f d)
unfolding brought given called_by
brought_more NotUp network message f d = step_more f _ d
brought_more (EndedKey key) network message f d =
    more_on d (with_up message d) (down_sent key network (with_up message d)) (same_more d (with_up message d) refl refl) (down_more key network (with_up message d))
brought_more (KeysFull key limit) network message f d =
    more_on d (with_up message d) (down_sent key network (with_up message d)) (same_more d (with_up message d) refl refl) (down_more key network (with_up message d))
brought_more (KnownKey key) network message f d =
    more_on d (with_up message d) (down_sent key network (with_up message d)) (same_more d (with_up message d) refl refl) (down_more key network (with_up message d))
brought_more (CallMade key line) network message f d =
    let o : Option CallLine = call_in (with_up message d).sessions d.me key line in
    let e : Daemon = line_carried key o f (with_up message d) in
    more_on d e (down_sent key network e) (carried_more key o message f d) (down_more key network e)

asked_more : (o : Option SelfQuestion) (network : ℕ) (message : List ℕ) (f : Answering) (d : Daemon) → More d (asked o network message f d)
unfolding asked told_itself
asked_more None network message f d = brought_more (up_in d.sessions message) network message f d
asked_more (Some q) network message f d = back_more network (reply_text q (self_text q.what d)) d

pub given_on_more : (network : ℕ) (message : Option (List ℕ)) (f : Answering) (d : Daemon) → More d (given_on network message f d)
unfolding given_on
given_on_more network None f d = same_more d d refl refl
given_on_more network (Some message) f d = asked_more (question_of message) network message f d

pub heard_more : (got : LinkCall) (f : Answering) (d : Daemon) → More d (heard got f d)
unfolding heard
heard_more got f d =
    more_on d (received got d) (heard got f d) (received_more got d) (given_on_more (network_of got) (joined_by got d.joining).message f (received got d))

-- ---- what it does of its own

goodbye_more : (key : ℕ) (o : Option CallLine) (f : Answering) (d : Daemon) → More d (goodbye_said key o f d)
unfolding left_for
goodbye_more key None f d = same_more d d refl refl
goodbye_more key (Some a) f d =
    record { calls = sent_calls d.me d.incarnation d.number (stepped f d.core (Calls a)).sends; called = refl; records = (stepped f d.core (Calls a)).records; recorded = refl }

pub over_more : (key : ℕ) (f : Answering) (d : Daemon) → More d (key_over key f d)
unfolding key_over
over_more key f d =
    let m : More d (goodbye_said key (goodbye_in d.sessions key) f d) = goodbye_more key (goodbye_in d.sessions key) f d in
    record { calls = m.calls; called = m.called; records = m.records; recorded = m.recorded }

pub mended_more : (f : Answering) (d : Daemon) → More d (mended f d)
unfolding mended
mended_more f d = step_more f (Asks _) d

-- ---- an act

pub did_more : (d : Daemon) (a : Action) → More d (did d a)
unfolding did
did_more d (Opens opening) = open_more d opening
did_more d (action.Ticks moment answers) = tick_more (is_due d.last moment) moment answers d
did_more d (EndsKey key answers) = over_more key answers d
did_more d (Mends answers) = mended_more answers d
did_more d (Hears got answers) = heard_more got answers d
