-- A daemon that serves no clients on other machines.
use Rattle.std.proofs.Common.{◌≡◌, ℕ, Bool, true, false, List, [], ◌∷◌, Option, Some, None, refl, ◌∙◌, ap}
use Rattle.std.specs.Prelude.{option_map}
use Rattle.hags_io.specs.declared.link.LinkCall.{LinkCall}
use Rattle.node_state.specs.declared.config.Config.{Config}
use Rattle.node_state.specs.declared.state.Core.{Core}
use Rattle.node_state.specs.Bytes.{event_of}
use Rattle.node_state.specs.HandOn.{Answering}
use Rattle.node_state.specs.Step.{NodeEvent, Ticks, Asks, Calls, stepped}
use Rattle.remote_clients.specs.declared.sessions.Sessions.{Sessions}
use Rattle.self_questions.specs.declared.messages.SelfQuestion.{SelfQuestion}
use Rattle.self_questions.specs.Messages.{question_of}
use Rattle.remote_clients.specs.Entries.{noted_with}
use Rattle.remote_clients.specs.Ending.{session_ended}
use Rattle.daemon_model.specs.declared.options.Service.{Service}
use Rattle.daemon_model.specs.declared.options.RemoteService.{RemoteService}
use Rattle.daemon_model.specs.declared.options.RemoteService.TheVariants as remotes
use Rattle.daemon_model.specs.Daemon.{Daemon, Opening, KeyEnd, Turn, Life, left_for, stepped_for, sessions_if, begun_for, opened, opened_all, is_due, counted_in, ticked_if, ticked, joined_by, received, given, up_in, brought, told_itself, asked, AsksNothing, given_on, network_of, heard, goodbye_in, goodbye_said, key_over, key_ends, keys_over, mended, mended_if, kept_up, turned, turned_all, lived}

abbrev pub IsAlone : Daemon → Type 0
IsAlone d = d.sessions ≡ None

-- ---- a message that is no question about the daemon itself is the node's

asked_alone : (o : Option SelfQuestion) (network : ℕ) (m : List ℕ) (f : Answering) (d : Daemon) → IsAlone d → o ≡ None → asked o network m f d ≡ given (Some m) f d
unfolding asked given brought
asked_alone None network m f d e q = ap (λ (s : Option Sessions). brought (up_in s m) network m f d) e
asked_alone (Some x) network m f d e q = absurd cc

pub given_alone : (network : ℕ) (message : Option (List ℕ)) (f : Answering) (d : Daemon) → IsAlone d → AsksNothing message → given_on network message f d ≡ given message f d
unfolding given_on given
given_alone network None f d e q = refl
given_alone network (Some m) f d e q = asked_alone (question_of m) network m f d e q

pub heard_alone : (d : Daemon) (got : LinkCall) (f : Answering) → IsAlone d → AsksNothing (joined_by got d.joining).message → heard got f d ≡ given (joined_by got d.joining).message f (received got d)
unfolding heard received
heard_alone d got f e q = given_alone (network_of got) (joined_by got d.joining).message f (received got d) e q

-- ---- and it stays so

left_alone : (calling : Option ℕ) (d : Daemon) (s : Core) → IsAlone d → IsAlone (left_for calling d s)
unfolding left_for
left_alone calling d s e = ap (option_map (noted_with d.entries calling s.records)) e

pub stepped_alone : (calling : Option ℕ) (f : Answering) (e : NodeEvent) (d : Daemon) → IsAlone d → IsAlone (stepped_for calling f e d)
unfolding stepped_for
stepped_alone calling f e d h = left_alone calling d (stepped f d.core e) h

pub tick_alone : (due : Bool) (moment : ℕ) (f : Answering) (d : Daemon) → IsAlone d → IsAlone (ticked_if due moment f d)
tick_alone true moment f d h = ap counted_in (stepped_alone None f Ticks (record d { last = moment }) h)
tick_alone false moment f d h = h

message_alone : (message : Option (List ℕ)) (f : Answering) (d : Daemon) → IsAlone d → IsAlone (given message f d)
unfolding given
message_alone None f d h = h
message_alone (Some m) f d h = stepped_alone None f (event_of m) d h

received_alone : (got : LinkCall) (d : Daemon) → IsAlone d → IsAlone (received got d)
unfolding received
received_alone got d h = h

key_alone : (e : KeyEnd) (d : Daemon) → IsAlone d → IsAlone (key_ends d e)
unfolding key_over
key_alone e d h =
    ap (λ (o : Option Sessions). option_map (session_ended e.key) (goodbye_said e.key (goodbye_in o e.key) e.answers d).sessions) h ∙ ap (option_map (session_ended e.key)) h

keys_alone : (es : List KeyEnd) (d : Daemon) → IsAlone d → IsAlone (keys_over es d)
keys_alone [] d h = h
keys_alone (e ∷ es) d h = keys_alone es (key_ends d e) (key_alone e d h)

mends_alone : (o : Option Answering) (d : Daemon) → IsAlone d → IsAlone (mended_if o d)
unfolding mended
mends_alone None d h = h
mends_alone (Some f) d h = stepped_alone None f (Asks _) d h

kept_alone : (d : Daemon) (t : Turn) → IsAlone d → IsAlone (kept_up d t)
kept_alone d t h =
    mends_alone t.mends (keys_over t.ends (ticked t.moment t.tick d)) (keys_alone t.ends (ticked t.moment t.tick d) (tick_alone (is_due d.last t.moment) t.moment t.tick d h))

said_alone : (o : Option SelfQuestion) (network : ℕ) (m : List ℕ) (f : Answering) (d : Daemon) → IsAlone d → IsAlone (asked o network m f d)
unfolding asked told_itself
said_alone None network m f d h = ap (λ (q : Daemon). q.sessions) (asked_alone None network m f d h refl) ∙ message_alone (Some m) f d h
said_alone (Some x) network m f d h = h

on_alone : (network : ℕ) (message : Option (List ℕ)) (f : Answering) (d : Daemon) → IsAlone d → IsAlone (given_on network message f d)
unfolding given_on
on_alone network None f d h = h
on_alone network (Some m) f d h = said_alone (question_of m) network m f d h

pub turned_alone : (d : Daemon) (t : Turn) → IsAlone d → IsAlone (turned d t)
unfolding turned heard
turned_alone d t h =
    let e : Daemon = kept_up d t in
    on_alone (network_of t.got) (joined_by t.got e.joining).message t.answers (received t.got e) (received_alone t.got e (kept_alone d t h))

pub turned_all_alone : (d : Daemon) (ts : List Turn) → IsAlone d → IsAlone (turned_all d ts)
unfolding turned_all
turned_all_alone d [] h = h
turned_all_alone d (t ∷ ts) h = turned_all_alone (turned d t) ts (turned_alone d t h)

pub opened_alone : (d : Daemon) (o : Opening) → IsAlone d → IsAlone (opened d o)
unfolding opened
opened_alone d o h = stepped_alone None o.answers (Calls o.call) d h

pub opened_all_alone : (d : Daemon) (os : List Opening) → IsAlone d → IsAlone (opened_all d os)
unfolding opened_all
opened_all_alone d [] h = h
opened_all_alone d (o ∷ os) h = opened_all_alone (opened d o) os (opened_alone d o h)

pub begun_alone : (service : Service) (c : Config) (me incarnation moment : ℕ) → service.remote ≡ remotes.Off → IsAlone (begun_for service c me incarnation moment)
unfolding begun_for
begun_alone service c me incarnation moment e = left_alone None _ _ (ap (λ (r : RemoteService). sessions_if r incarnation) e)

pub lived_alone : (c : Config) (me incarnation : ℕ) (life : Life) → life.service.remote ≡ remotes.Off → IsAlone (lived c me incarnation life)
unfolding lived
lived_alone c me incarnation life e =
    turned_all_alone (opened_all (begun_for life.service c me incarnation life.start) life.opening) life.turns
    (opened_all_alone (begun_for life.service c me incarnation life.start) life.opening (begun_alone life.service c me incarnation life.start e))
