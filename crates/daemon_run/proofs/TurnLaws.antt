-- The parts of a turn, and turns.
use Rattle.std.proofs.Common.{◌≡◌, ℕ, ◌+◌, ◌-◌, ◌≤◌, ◌<◌, Bool, true, false, List, [], ◌∷◌, ◌++◌, Option, Some, None, refl, sym, ◌∙◌, ap, ap₂, subst, append_assoc, append-nil}
use Rattle.std.specs.Prelude.{option_map, is_some}
use Rattle.std.proofs.lemmas.Bool.{le-leb, lt-leb}
use Rattle.hags_io.specs.declared.link.LinkCall.{LinkCall}
use Rattle.hags_io.specs.declared.link.LinkCall.TheVariants as call
use Rattle.hags_io.specs.Deeds.{Read, Exchanged}
use Rattle.hags_io.specs.Telling.{Telling, Did}
use Rattle.hags_io.specs.Fronts.{WentFront}
use Rattle.hags_io.proofs.FrontLaws.{went_as}
use Rattle.link_use.specs.declared.receiving.Receiving.{Receiving}
use Rattle.link_use.specs.declared.receiving.Whole.{Whole}
use Rattle.link_use.specs.Receiving.{IsReceive, Receives, ReceivesFront, received_by, whole_in}
use Rattle.link_use.proofs.SendLaws.{each_front}
use Rattle.piece_link.specs.Joining.{Joining}
use Rattle.node_state.specs.declared.happened.Happened.{Happened}
use Rattle.node_state.specs.declared.state.Core.{Core}
use Rattle.node_state.specs.HandOn.{Answering}
use Rattle.node_state.specs.Step.{Ticks, at_work}
use Rattle.daemon_model.specs.declared.options.Options.{Options}
use Rattle.daemon_model.specs.declared.options.Pace.{Pace}
use Rattle.daemon_model.specs.Sent.{Exchange, plain, as_sent}
use Rattle.daemon_model.specs.Daemon.{Daemon, KeyEnd, Turn, stepped_by, is_due, counted_in, counted, ticked_if, ticked, joined_by, received, up_in, given_on, network_of, heard, keys_over}
use Rattle.daemon_model.specs.Actions.{Action, Hears, did, did_all}
use Rattle.daemon_model.specs.Actions as actions
use Rattle.daemon_model.specs.Options.{keys_due, apart_for, is_long_apart, is_pause, ended_by, KeepsIf, apart_left, apart_after}
use Rattle.daemon_model.proofs.AddLaws.{doings_append}
use Rattle.daemon_model.specs.Doings.{Reads, Exchanges, step_doings, since, doings, doings_of, Made, MadeFront}
use Rattle.daemon_model.proofs.MadeLaws.{made_nothing, made_on, made_front_on, made_front_more}
use Rattle.daemon_run.specs.Hosting.{Known}
use Rattle.daemon_run.specs.declared.hosted.Hosted.{Hosted}
use Rattle.daemon_run.specs.declared.running.Running.{Running}
use Rattle.self_questions.specs.declared.messages.SelfQuestion.{SelfQuestion}
use Rattle.self_questions.specs.Messages.{question_of}
use Rattle.daemon_model.specs.declared.counts.ReceiveCounts.{ReceiveCounts}
use Rattle.daemon_model.specs.Counts.{one_more}
use Rattle.remote_session.specs.Daemon.{SeenUp, NotUp, EndedKey, KeysFull, KnownKey, CallMade}
use Rattle.daemon_run.specs.Audience.{Audience, StepHands, TickHands, BroughtHands, AskedHands, GivenHands, HeardHands}
use Rattle.daemon_run.specs.Doing.{daemon_of, Comes, Breaks, Fails, Acts, ActsBreak, Passes, Attends, WriteFails, ActsFail, StepsAs, StepBreaks, StepFails, TicksAs, TickBreaks, TickFails, GivesAs, GiveBreaks, GiveFails, HearsAs, HearBreaks, HearFails}
use Rattle.daemon_run.specs.Keeping.{OwnTurn, own_acts, OwnAs, OwnFront, OwnBreaks, OwnRest, OwnFails}
use Rattle.daemon_run.specs.Turning.{TurnsAs, TurnBreaks, TurnFails, TurnPauses}
use Rattle.daemon_run.proofs.FailLaws.{fails_on}
use Rattle.daemon_run.proofs.GoesLaws.{goes_none, goes_as, goes_still, since_comes, breaks_as, fails_as, one_hands, acts_on, doings_on, acts_break_on, acts_break_more, acts_fail_on}
use Rattle.daemon_run.proofs.KeepLaws.{own_whole}
use Rattle.daemon_run.proofs.StepLaws.{silent}

-- ---- when a tick is due

due : (last moment : ℕ) → 100 ≤ moment - last → is_due last moment ≡ true
due last moment h = le-leb 100 (moment - last) h

undue : (last moment : ℕ) → moment - last < 100 → is_due last moment ≡ false
undue last moment h = lt-leb 100 (moment - last) h

-- ---- what is made of one deed

read_made : (t u : Telling) (moment : ℕ) → Did t u (Read moment ∷ []) → Made t u (Reads moment ∷ [])
read_made t u moment h = record { went = went_as t u (Read moment) (Read moment) refl h; spelled = tt }

got_same : (got : LinkCall) → IsReceive got → as_sent got ≡ got
got_same (call.Received k b) h = refl
got_same call.Quiet h = refl
got_same call.Failed h = refl
got_same (call.Sent n k b o) h = absurd h

got_made : (t u : Telling) (got : LinkCall) → IsReceive got → Did t u (Exchanged got ∷ []) → Made t u (Exchanges (plain (as_sent got)) ∷ [])
got_made t u (call.Received k b) r h = record { went = went_as t u (Exchanged (call.Received k b)) (Exchanged (call.Received k b)) refl h; spelled = (tt, tt) }
got_made t u call.Quiet r h = record { went = went_as t u (Exchanged call.Quiet) (Exchanged call.Quiet) refl h; spelled = (tt, tt) }
got_made t u call.Failed r h = record { went = went_as t u (Exchanged call.Failed) (Exchanged call.Failed) refl h; spelled = (tt, tt) }
got_made t u (call.Sent n k b o) r h = absurd r

got_front : (t u : Telling) (got : LinkCall) → IsReceive got → WentFront t u (Exchanged got ∷ []) → MadeFront t u (Exchanges (plain (as_sent got)) ∷ [])
got_front t u got r w =
    each_front plain (λ c. refl) (λ c. tt) t u (as_sent got ∷ []) (subst (λ (c : LinkCall). WentFront t u (Exchanged c ∷ [])) (sym (got_same got r)) w)

-- what an Up or a message hands does not hang on what is joined, or on how many receives failed or came
brought_alike : (u : SeenUp) (message : List ℕ) (f : Answering) (d : Daemon) (j : Joining) (n : ℕ) (m : ReceiveCounts) (cs : List Exchange) (old new : Audience) → BroughtHands u message f (record d { joining = j; failed = n; receives = m; calls = cs }) old new → BroughtHands u message f d old new
brought_alike NotUp message f d j n m cs old new h = h
brought_alike (EndedKey key) message f d j n m cs old new h = h
brought_alike (KeysFull key limit) message f d j n m cs old new h = h
brought_alike (KnownKey key) message f d j n m cs old new h = h
brought_alike (CallMade key line) message f d j n m cs old new h = h

asked_alike : (o : Option SelfQuestion) (message : List ℕ) (f : Answering) (d : Daemon) (j : Joining) (n : ℕ) (m : ReceiveCounts) (cs : List Exchange) (old new : Audience) → AskedHands o message f (record d { joining = j; failed = n; receives = m; calls = cs }) old new → AskedHands o message f d old new
asked_alike None message f d j n m cs old new h = brought_alike (up_in d.sessions message) message f d j n m cs old new h
asked_alike (Some q) message f d j n m cs old new h = h

hands_alike : (o : Option (List ℕ)) (f : Answering) (d : Daemon) (j : Joining) (n : ℕ) (m : ReceiveCounts) (cs : List Exchange) (old new : Audience) → GivenHands o f (record d { joining = j; failed = n; receives = m; calls = cs }) old new → GivenHands o f d old new
hands_alike None f d j n m cs old new h = h
hands_alike (Some message) f d j n m cs old new h = asked_alike (question_of message) message f d j n m cs old new h

-- the message and its network, where one is whole
first : Option (ℕ × List ℕ) → ℕ
first None = 0
first (Some x) = x.0

second : Option (ℕ × List ℕ) → List ℕ
second None = []
second (Some x) = x.1

whole_message : (got : LinkCall) (j : Joining) (network : ℕ) (message : List ℕ) (o : Option (List ℕ)) → ◌≡◌ {A = Option (ℕ × List ℕ)} (Some (network, message)) (option_map (λ m. (network_of got, m)) o) → (o ≡ Some message) × (network_of got ≡ network)
unfolding first second
whole_message got j network message None e = absurd cc
whole_message got j network message (Some m) e = (ap Some (sym (ap second e)), sym (ap first e))

no_message : (got : LinkCall) (o : Option (List ℕ)) → ◌≡◌ {A = Option (ℕ × List ℕ)} None (option_map (λ m. (network_of got, m)) o) → o ≡ None
no_message got None e = refl
no_message got (Some m) e = absurd cc

-- a message was whole, of these bytes
pub received_whole : (r q : Receiving) (o : Option Whole) (w : Whole) (bytes : List ℕ) (t u : Telling) → o ≡ Some w → bytes ≡ w.message.items → Receives r q (whole_in o) t u → Receives r q (Some (w.network, bytes)) t u
received_whole r q o w bytes t u some is h =
    let whole : List ℕ → Option (ℕ × List ℕ) = λ m. Some (w.network, m) in
    subst (λ (x : Option (ℕ × List ℕ)). Receives r q x t u) (ap whole_in some ∙ sym (ap whole is)) h

none_same : (m n : ℕ) (f : Answering) → given_on m None f ≡ given_on n None f
unfolding given_on
none_same m n f = refl

given_at : (got : LinkCall) (network : ℕ) (message : List ℕ) (f : Answering) → network_of got ≡ network → given_on (network_of got) (Some message) f ≡ given_on network (Some message) f
given_at got network message f same = ap (λ (n : ℕ). given_on n (Some message) f) same

-- one in which these keys end, and the daemon mends or not
abbrev turn_of : ℕ → Answering → List KeyEnd → Option Answering → LinkCall → Answering → Turn
turn_of moment tick ends mends got answers = record { moment = moment; tick = tick; ends = ends; mends = mends; got = got; answers = answers }

quiet_act : Action
quiet_act = Hears call.Quiet silent

-- what it does of its own behind the node's tick is what the options ask
keeps_own : (o : Options) (ticks moment : ℕ) (d e : Daemon) (f : Answering) (x : OwnTurn o ticks e) (got : LinkCall) (answers : Answering) → ticked moment f d ≡ e → is_due d.last moment ≡ true → KeepsIf (is_due d.last moment) o ticks d (turn_of moment f x.ends x.mends got answers)
keeps_own o ticks moment d e f x got answers is due =
    subst (λ (b : Bool). KeepsIf b o ticks d (turn_of moment f x.ends x.mends got answers)) (sym due) (record {
      ends = x.due ∙ sym (ap (λ (y : Daemon). keys_due o.silence y.sessions) is);
      mends = x.long ∙ sym (ap (λ (y : Daemon). is_long_apart o.mend (apart_for o.mend ticks (keys_over x.ends y).core)) is);
    })

keeps_none : (o : Options) (ticks moment : ℕ) (d : Daemon) (f : Answering) (got : LinkCall) (answers : Answering) → is_due d.last moment ≡ false → KeepsIf (is_due d.last moment) o ticks d (turn_of moment f [] None got answers)
keeps_none o ticks moment d f got answers undue = subst (λ (b : Bool). KeepsIf b o ticks d (turn_of moment f [] None got answers)) (sym undue) (record { ends = refl; mends = refl })

-- whatever is left of a turn whose tick broke off
record WholeTick (o : Options) (ticks moment : ℕ) (d : Daemon) (f : Answering) : Type 0 where
  ends : List KeyEnd
  mends : Option Answering
  keeps : KeepsIf (is_due d.last moment) o ticks d (turn_of moment f ends mends call.Quiet silent)

whole_tick : (o : Options) (ticks moment : ℕ) (d : Daemon) (f : Answering) → WholeTick o ticks moment d f
whole_tick o ticks moment d f = by (is_due d.last moment) refl
  where
    by : (b : Bool) → is_due d.last moment ≡ b → WholeTick o ticks moment d f
    by true due =
        let x : OwnTurn o ticks (ticked moment f d) = own_whole o ticks (ticked moment f d) in
        record { ends = x.ends; mends = x.mends; keeps = keeps_own o ticks moment d (ticked moment f d) f x call.Quiet silent refl due }
    by false undue = record { ends = []; mends = None; keeps = keeps_none o ticks moment d f call.Quiet silent undue }

-- ---- a pause

pub turn_pauses : (o : Options) (p : Pace) (moment : ℕ) (t u : Telling) → Did t u (Read moment ∷ []) → is_pause o.gap p.before moment ≡ true → TurnPauses o p t u
turn_pauses o p moment t u at pause = record { moment = moment; read = at; pause = pause }

module _ {C : Type 0} where
  -- ---- a tick

  tick_is : (r : Running C) (moment : ℕ) (f : Answering) → 100 ≤ moment - r.last → (before : List Exchange) (noted : List Happened)
      → ticked moment f (daemon_of r before noted) ≡ counted (stepped_by f Ticks (daemon_of (record r { last = moment }) before noted))
  tick_is r moment f le before noted = ap (λ q. ticked_if q moment f (daemon_of r before noted)) (due r.last moment le)

  tick_hands : (A : Known → List (Hosted C) → Audience → Type 0) (r s : Running C) (moment : ℕ) (f : Answering) → 100 ≤ moment - r.last → Attends A A (record r { last = moment }) s (λ d. StepHands f Ticks d.core) → Attends A A r s (λ d. TickHands (is_due d.last moment) f d.core)
  tick_hands A r s moment f le h before noted z =
      let a : (v : Audience) × StepHands f Ticks (at_work r.node.core) z v × Passes A A r.node.clients s.node.clients z v = h before noted z in (
        a.0,
        subst (λ q. TickHands q f (at_work r.node.core) z a.0) (sym (due r.last moment le)) a.1,
        a.2,
      )

  -- what a step did is what it did, however many ticks keys were silent
  counted_breaks : (r : Running C) (t u : Telling) (f : Daemon → Daemon) → Breaks r t u f → Breaks r t u (λ d. counted (f d))
  unfolding since
  counted_breaks r t u f p = p

  counted_fails : (r s : Running C) (t u : Telling) (f : Daemon → Daemon) → Fails r s t u f → Fails r s t u (λ d. counted (f d))
  unfolding since
  counted_fails r s t u f p = record { core = p.core; made = p.made }

  pub tick_done : {A : Known → List (Hosted C) → Audience → Type 0} (r q s : Running C) (moment : ℕ) (t u : Telling) → 100 ≤ moment - r.last → StepsAs A A None (record r { last = moment }) q t u Ticks → s ≡ record q { sessions = counted_in q.sessions; ticks = one_more q.ticks }
      → TicksAs A r s t u moment
  tick_done {A = A} r q s moment t u le h is = record {
    answers = h.answers;
    goes = goes_as r (record r { last = moment }) s t u (ticked moment h.answers) (λ d. counted (stepped_by h.answers Ticks d)) (tick_is r moment h.answers le)
        (goes_still (record r { last = moment }) q s t u (stepped_by h.answers Ticks) counted h.goes (λ before noted. ap (λ (x : Running C). daemon_of x before noted) (sym is)));
    attends = tick_hands A r s moment h.answers le
        (λ before noted z.
        let a : (v : Audience) × StepHands h.answers Ticks (at_work r.node.core) z v × Passes A A r.node.clients q.node.clients z v = h.attends before noted z in
        (a.0, a.1, λ known held. subst (λ (x : Running C). A known x.node.clients a.0) (sym is) (a.2 known held)));
  }

  pub tick_broke : (r : Running C) (moment : ℕ) (t u : Telling) → 100 ≤ moment - r.last → StepBreaks None (record r { last = moment }) t u Ticks → TickBreaks r t u moment
  tick_broke r moment t u le h = record { answers = h.answers; breaks = breaks_as r (record r { last = moment }) t u (ticked moment h.answers) (λ d. counted (stepped_by h.answers Ticks d)) (tick_is r moment h.answers le) (counted_breaks (record r { last = moment }) t u (stepped_by h.answers Ticks) h.breaks) }

  pub tick_fails : {A : Known → List (Hosted C) → Audience → Type 0} (r s : Running C) (moment : ℕ) (t u : Telling) → 100 ≤ moment - r.last → StepFails A A None (record r { last = moment }) s t u Ticks → TickFails A r s t u moment
  tick_fails {A = A} r s moment t u le h = record {
    answers = h.answers;
    fails = fails_as r (record r { last = moment }) s t u (ticked moment h.answers) (λ d. counted (stepped_by h.answers Ticks d)) (tick_is r moment h.answers le) (counted_fails (record r { last = moment }) s t u (stepped_by h.answers Ticks) h.fails);
    attends = tick_hands A r s moment h.answers le h.attends;
  }

  pub tick_not : {A : Known → List (Hosted C) → Audience → Type 0} (r : Running C) (moment : ℕ) (t : Telling) → moment - r.last < 100 → TicksAs A r r t t moment
  tick_not r moment t lt = record {
    answers = silent;
    goes = goes_as r r r t t (ticked moment silent) (λ d. d) (λ before noted. ap (λ q. ticked_if q moment silent (daemon_of r before noted)) (undue r.last moment lt)) (goes_none r t);
    attends = λ before noted z. (z, subst (λ q. TickHands q silent (at_work r.node.core) z z) (sym (undue r.last moment lt)) refl, λ known held. held);
  }

  -- the clock was read, and the node ticked where that was due
  tick_acts : {A : Known → List (Hosted C) → Audience → Type 0} (r s : Running C) (moment : ℕ) (t u v : Telling) → Did t u (Read moment ∷ []) → (p : TicksAs A r s u v moment) → Acts A A r s t v (actions.Ticks moment p.answers ∷ [])
  unfolding did_all did doings_of doings
  tick_acts {A = A} r s moment t u v at p = record {
    calls = p.goes.calls;
    records = p.goes.records;
    is = p.goes.is;
    done = Reads moment ∷ step_doings p.goes.records p.goes.calls;
    are = λ before noted. append-nil _ ∙ ap (λ x. Reads moment ∷ x) (since_comes r s (ticked moment p.answers) p.goes.calls p.goes.records p.goes.is before noted);
    made = made_on t u v (Reads moment ∷ []) (step_doings p.goes.records p.goes.calls) (read_made t u moment at) p.goes.made;
    attends = one_hands A A r s (actions.Ticks moment p.answers) p.attends;
  }

  tick_acts_break : (r : Running C) (moment : ℕ) (t u v : Telling) → Did t u (Read moment ∷ []) → (p : TickBreaks r u v moment) → ActsBreak r t v (actions.Ticks moment p.answers ∷ [])
  unfolding doings_of doings
  tick_acts_break r moment t u v at p before noted =
      subst (MadeFront t v) (sym (append-nil (Reads moment ∷ since (daemon_of r before noted) (ticked moment p.answers (daemon_of r before noted)))))
      (made_front_on t u v (Reads moment ∷ []) (since (daemon_of r before noted) (ticked moment p.answers (daemon_of r before noted))) (read_made t u moment at) (p.breaks before noted))

  tick_acts_fail : {A : Known → List (Hosted C) → Audience → Type 0} (r s : Running C) (moment : ℕ) (t u v : Telling) → Did t u (Read moment ∷ []) → (p : TickFails A r s u v moment) → ActsFail A A r s t v (actions.Ticks moment p.answers ∷ [])
  unfolding did_all did doings_of doings
  tick_acts_fail {A = A} r s moment t u v at p = record {
    core = p.fails.core;
    made = λ before noted.
        subst (WriteFails t v) (sym (append-nil (Reads moment ∷ since (daemon_of r before noted) (ticked moment p.answers (daemon_of r before noted)))))
        (fails_on t u v (Reads moment ∷ []) (since (daemon_of r before noted) (ticked moment p.answers (daemon_of r before noted))) (read_made t u moment at) (p.fails.made before noted));
    attends = one_hands A A r s (actions.Ticks moment p.answers) p.attends;
  }

  -- ---- a receive

  -- the daemon as it received
  abbrev after_receive : Running C → LinkCall → Running C
  after_receive r got = record r { receiving = received_by got r.receiving }

  received_is : (r : Running C) (got : LinkCall) (before : List Exchange) (noted : List Happened) → received got (daemon_of r before noted) ≡ daemon_of (after_receive r got) (before ++ plain (as_sent got) ∷ []) noted
  unfolding received
  received_is r got before noted = refl

  -- what is heard is what is given then
  heard_is : (r : Running C) (got : LinkCall) (network : ℕ) (m : Option (List ℕ)) (f : Answering) → (joined_by got r.receiving.joiner).message ≡ m → given_on (network_of got) m f ≡ given_on network m f → (before : List Exchange) (noted : List Happened)
      → heard got f (daemon_of r before noted) ≡ given_on network m f (daemon_of (after_receive r got) (before ++ plain (as_sent got) ∷ []) noted)
  unfolding heard
  heard_is r got network m f is same before noted =
      let e : Daemon = daemon_of (after_receive r got) (before ++ plain (as_sent got) ∷ []) noted in
      ap (given_on (network_of got) (joined_by got r.receiving.joiner).message f) (received_is r got before noted)
      ∙ (ap (λ (o : Option (List ℕ)). given_on (network_of got) o f e) is ∙ ap (λ (g : Daemon → Daemon). g e) same)

  since_is_heard : (r : Running C) (got : LinkCall) (network : ℕ) (m : Option (List ℕ)) (f : Answering) → (joined_by got r.receiving.joiner).message ≡ m → given_on (network_of got) m f ≡ given_on network m f → (before : List Exchange) (noted : List Happened)
      → since (received got (daemon_of r before noted)) (heard got f (daemon_of r before noted)) ≡ since (daemon_of (after_receive r got) (before ++ plain (as_sent got) ∷ []) noted) (given_on network m f (daemon_of (after_receive r got) (before ++ plain (as_sent got) ∷ []) noted))
  since_is_heard r got network m f is same before noted = ap₂ since (received_is r got before noted) (heard_is r got network m f is same before noted)

  heard_comes : (r s : Running C) (got : LinkCall) (network : ℕ) (m : Option (List ℕ)) (f : Answering) (cs : List Exchange) (rs : List Happened) → (joined_by got r.receiving.joiner).message ≡ m → given_on (network_of got) m f ≡ given_on network m f → Comes (after_receive r got) s (given_on network m f) cs rs → Comes r s (heard got f) (plain (as_sent got) ∷ cs) rs
  heard_comes r s got network m f cs rs is same h before noted =
      heard_is r got network m f is same before noted ∙ (h (before ++ plain (as_sent got) ∷ []) noted ∙ ap (λ (x : List Exchange). daemon_of s x (noted ++ rs)) (append_assoc before (plain (as_sent got) ∷ []) cs))

  hear_acts : {A : Known → List (Hosted C) → Audience → Type 0} (r s : Running C) (got : LinkCall) (f : Answering) (cs : List Exchange) (rs : List Happened) (t u v : Telling) → IsReceive got → Did t u (Exchanged got ∷ []) → Comes r s (heard got f) (plain (as_sent got) ∷ cs) rs
      → ((before : List Exchange) (noted : List Happened) → since (received got (daemon_of r before noted)) (heard got f (daemon_of r before noted)) ≡ step_doings rs cs) → Made u v (step_doings rs cs) → Attends A A r s (HeardHands got f) → Acts A A r s t v (Hears got f ∷ [])
  unfolding did_all did doings_of doings
  hear_acts {A = A} r s got f cs rs t u v receive told is are made hands = record {
    calls = plain (as_sent got) ∷ cs;
    records = rs;
    is = is;
    done = Exchanges (plain (as_sent got)) ∷ step_doings rs cs;
    are = λ before noted. append-nil _ ∙ ap (λ x. Exchanges (plain (as_sent got)) ∷ x) (are before noted);
    made = made_on t u v (Exchanges (plain (as_sent got)) ∷ []) (step_doings rs cs) (got_made t u got receive told) made;
    attends = one_hands A A r s (Hears got f) hands;
  }

  since_heard : (r s : Running C) (got : LinkCall) (m : Option (List ℕ)) (network : ℕ) (f : Answering) (cs : List Exchange) (rs : List Happened) → (joined_by got r.receiving.joiner).message ≡ m → given_on (network_of got) m f ≡ given_on network m f
      → Comes (after_receive r got) s (given_on network m f) cs rs → (before : List Exchange) (noted : List Happened) → since (received got (daemon_of r before noted)) (heard got f (daemon_of r before noted)) ≡ step_doings rs cs
  since_heard r s got m network f cs rs is same h before noted =
      since_is_heard r got network m f is same before noted ∙ since_comes (after_receive r got) s (given_on network m f) cs rs h (before ++ plain (as_sent got) ∷ []) noted

  given_none : (q : Running C) (network : ℕ) (f : Answering) → Comes q q (given_on network None f) [] []
  unfolding given_on
  given_none q network f before noted = ap₂ (daemon_of q) (sym (append-nil before)) (sym (append-nil noted))

  -- no message is whole
  pub hear_nothing : {A : Known → List (Hosted C) → Audience → Type 0} (r : Running C) (q : Receiving) (t u : Telling) → Receives r.receiving q None t u → HearsAs A r (record r { receiving = q }) t u
  hear_nothing {A = A} r q t u h =
      let none : (joined_by h.got r.receiving.joiner).message ≡ None = no_message h.got (joined_by h.got r.receiving.joiner).message h.whole_is in
      let s : Running C = after_receive r h.got in
      let acts : Acts A A r s t u (Hears h.got silent ∷ []) =
      hear_acts r s h.got silent [] [] t u u h.receive h.told
      (heard_comes r s h.got 0 None silent [] [] none (none_same (network_of h.got) 0 silent) (given_none s 0 silent))
      (since_heard r s h.got None 0 silent [] [] none (none_same (network_of h.got) 0 silent) (given_none s 0 silent)) (made_nothing u)
      (λ before noted z. (z, subst (λ (o : Option (List ℕ)). GivenHands o silent (daemon_of r before noted) z z) (sym none) refl, λ known held. held)) in
      record {
        got = h.got;
        answers = silent;
        acts = subst (λ (x : Receiving). Acts A A r (record r { receiving = x }) t u (Hears h.got silent ∷ [])) (sym h.is) acts;
      }

  -- a message is whole

  heard_hands : (A : Known → List (Hosted C) → Audience → Type 0) (r s : Running C) (got : LinkCall) (message : List ℕ) (f : Answering) → (joined_by got r.receiving.joiner).message ≡ Some message → Attends A A (after_receive r got) s (GivenHands (Some message) f) → Attends A A r s (HeardHands got f)
  heard_hands A r s got message f is h before noted z =
      let a : (w : Audience) × GivenHands (Some message) f (daemon_of (after_receive r got) before noted) z w × Passes A A r.node.clients s.node.clients z w = h before noted z in (
        a.0,
        subst (λ (o : Option (List ℕ)). GivenHands o f (daemon_of r before noted) z a.0) (sym is)
            (hands_alike (Some message) f (daemon_of r before noted) (received_by got r.receiving).joiner (received_by got r.receiving).failed (received_by got r.receiving).counts before z a.0 a.1),
        a.2,
      )

  pub hear_done : {A : Known → List (Hosted C) → Audience → Type 0} (r s : Running C) (q : Receiving) (network : ℕ) (message : List ℕ) (t u v : Telling) → Receives r.receiving q (Some (network, message)) t u → GivesAs A (record r { receiving = q }) s u v network message
      → HearsAs A r s t v
  hear_done {A = A} r s q network message t u v h given =
      let whole : ((joined_by h.got r.receiving.joiner).message ≡ Some message) × (network_of h.got ≡ network) = whole_message h.got r.receiving.joiner network message (joined_by h.got r.receiving.joiner).message h.whole_is in
      let g : GivesAs A (after_receive r h.got) s u v network message = subst (λ (x : Receiving). GivesAs A (record r { receiving = x }) s u v network message) h.is given in
      record {
        got = h.got;
        answers = g.answers;
        acts = hear_acts r s h.got g.answers g.goes.calls g.goes.records t u v h.receive h.told
            (heard_comes r s h.got network (Some message) g.answers g.goes.calls g.goes.records whole.0 (given_at h.got network message g.answers whole.1) g.goes.is)
            (since_heard r s h.got (Some message) network g.answers g.goes.calls g.goes.records whole.0 (given_at h.got network message g.answers whole.1) g.goes.is) g.goes.made
            (heard_hands A r s h.got message g.answers whole.0 g.attends);
      }

  pub hear_broke : (r : Running C) (q : Receiving) (network : ℕ) (message : List ℕ) (t u v : Telling) → Receives r.receiving q (Some (network, message)) t u → GiveBreaks (record r { receiving = q }) u v network message → HearBreaks r t v
  unfolding doings_of doings
  hear_broke r q network message t u v h given =
      let whole : ((joined_by h.got r.receiving.joiner).message ≡ Some message) × (network_of h.got ≡ network) = whole_message h.got r.receiving.joiner network message (joined_by h.got r.receiving.joiner).message h.whole_is in
      let g : GiveBreaks (after_receive r h.got) u v network message = subst (λ (x : Receiving). GiveBreaks (record r { receiving = x }) u v network message) h.is given in
      record {
        got = h.got;
        answers = g.answers;
        breaks = λ before noted.
            let e : Daemon = daemon_of (after_receive r h.got) (before ++ plain (as_sent h.got) ∷ []) noted in
            subst (MadeFront t v) (sym (append-nil _ ∙ ap (λ x. Exchanges (plain (as_sent h.got)) ∷ x) (since_is_heard r h.got network (Some message) g.answers whole.0 (given_at h.got network message g.answers whole.1) before noted)))
            (made_front_on t u v (Exchanges (plain (as_sent h.got)) ∷ []) (since e (given_on network (Some message) g.answers e)) (got_made t u h.got h.receive h.told) (g.breaks (before ++ plain (as_sent h.got) ∷ []) noted));
      }

  pub hear_fails : {A : Known → List (Hosted C) → Audience → Type 0} (r s : Running C) (q : Receiving) (network : ℕ) (message : List ℕ) (t u v : Telling) → Receives r.receiving q (Some (network, message)) t u → GiveFails A (record r { receiving = q }) s u v network message
      → HearFails A r s t v
  unfolding did_all did doings_of doings
  hear_fails {A = A} r s q network message t u v h given =
      let whole : ((joined_by h.got r.receiving.joiner).message ≡ Some message) × (network_of h.got ≡ network) = whole_message h.got r.receiving.joiner network message (joined_by h.got r.receiving.joiner).message h.whole_is in
      let g : GiveFails A (after_receive r h.got) s u v network message = subst (λ (x : Receiving). GiveFails A (record r { receiving = x }) s u v network message) h.is given in
      record {
        got = h.got;
        answers = g.answers;
        fails = record {
          core = λ before noted.
              ap (λ (d : Daemon). d.core) (heard_is r h.got network (Some message) g.answers whole.0 (given_at h.got network message g.answers whole.1) before noted) ∙ g.fails.core (before ++ plain (as_sent h.got) ∷ []) noted;
          made = λ before noted.
              let e : Daemon = daemon_of (after_receive r h.got) (before ++ plain (as_sent h.got) ∷ []) noted in
              subst (WriteFails t v) (sym (append-nil _ ∙ ap (λ x. Exchanges (plain (as_sent h.got)) ∷ x) (since_is_heard r h.got network (Some message) g.answers whole.0 (given_at h.got network message g.answers whole.1) before noted)))
              (fails_on t u v (Exchanges (plain (as_sent h.got)) ∷ []) (since e (given_on network (Some message) g.answers e)) (got_made t u h.got h.receive h.told) (g.fails.made (before ++ plain (as_sent h.got) ∷ []) noted));
          attends = one_hands A A r s (Hears h.got g.answers) (heard_hands A r s h.got message g.answers whole.0 g.attends);
        };
      }

  -- a daemon that had no memory to receive
  pub hear_none : (r : Running C) (t u : Telling) → ReceivesFront t u → HearBreaks r t u
  unfolding doings_of doings
  hear_none r t u h = record {
    got = h.got;
    answers = silent;
    breaks = λ before noted.
        subst (MadeFront t u) (sym (append-nil (Exchanges (plain (as_sent h.got)) ∷ since (received h.got (daemon_of r before noted)) (heard h.got silent (daemon_of r before noted)))))
        (made_front_more t u (Exchanges (plain (as_sent h.got)) ∷ []) (since (received h.got (daemon_of r before noted)) (heard h.got silent (daemon_of r before noted))) (got_front t u h.got h.receive h.front));
  }

  -- ---- a turn

  -- what was done of its own, seen from before the tick
  own_seen : {A : Known → List (Hosted C) → Audience → Type 0} (o : Options) (ticks left : ℕ) (q w : Running C) (v x : Telling) → OwnAs A o ticks left q w v x → (before : List Exchange) (noted : List Happened) → OwnTurn o ticks (daemon_of q before noted)
  own_seen o ticks left q w v x own before noted = record {
    ends = own.ends;
    mends = own.mends;
    due = own.due;
    long = own.long ∙ sym (ap (λ (s : Core). is_long_apart o.mend (apart_for o.mend ticks s)) (own.core_is before noted));
  }

  -- no tick was due
  pub turn_plain : {A : Known → List (Hosted C) → Audience → Type 0} (o : Options) (p : Pace) (r q s : Running C) (moment : ℕ) (t u v w : Telling) → Did t u (Read moment ∷ []) → is_pause o.gap p.before moment ≡ false → moment - r.last < 100 → TicksAs A r q u v moment → HearsAs A q s v w
      → TurnsAs A o p (record { before = moment; apart = p.apart }) r s t w
  turn_plain o p r q s moment t u v w at in_time lt k h = record {
    turn = turn_of moment k.answers [] None h.got h.answers;
    follows = λ before noted. record { in_time = in_time; keeps = keeps_none o p.apart moment (daemon_of r before noted) k.answers h.got h.answers (undue r.last moment lt) };
    paces = λ before noted. ap (λ (b : Bool). record { before = moment; apart = apart_after b o p.apart (daemon_of r before noted) (turn_of moment k.answers [] None h.got h.answers) }) (sym (undue r.last moment lt));
    acts = acts_on r q s t v w (actions.Ticks moment k.answers ∷ []) (Hears h.got h.answers ∷ []) (tick_acts r q moment t u v at k) h.acts;
  }

  -- one was due
  pub turn_kept : {A : Known → List (Hosted C) → Audience → Type 0} (o : Options) (p : Pace) (left : ℕ) (r q w s : Running C) (moment : ℕ) (t u v x y : Telling) → Did t u (Read moment ∷ []) → is_pause o.gap p.before moment ≡ false → 100 ≤ moment - r.last → TicksAs A r q u v moment
      → OwnAs A o p.apart left q w v x → HearsAs A w s x y → TurnsAs A o p (record { before = moment; apart = left }) r s t y
  unfolding own_seen
  turn_kept o p left r q w s moment t u v x y at in_time le k own h = record {
    turn = turn_of moment k.answers own.ends own.mends h.got h.answers;
    follows = λ before noted. record {
      in_time = in_time;
      keeps = keeps_own o p.apart moment (daemon_of r before noted) (daemon_of q (before ++ k.goes.calls) (noted ++ k.goes.records)) k.answers (own_seen o p.apart left q w v x own (before ++ k.goes.calls) (noted ++ k.goes.records)) h.got h.answers (k.goes.is before noted) (due r.last moment le);
    };
    paces = λ before noted.
        let d : Daemon = daemon_of r before noted in
        let turn : Turn = turn_of moment k.answers own.ends own.mends h.got h.answers in
        let core : (ended_by d turn).core ≡ own.core = ap (λ (e : Daemon). (keys_over own.ends e).core) (k.goes.is before noted) ∙ own.core_is (before ++ k.goes.calls) (noted ++ k.goes.records) in
        ap (λ (n : ℕ). record { before = moment; apart = n }) (own.left_is ∙ sym (ap (λ (c : Core). apart_left (apart_for o.mend p.apart c) (is_some own.mends)) core))
        ∙ ap (λ (b : Bool). record { before = moment; apart = apart_after b o p.apart d turn }) (sym (due r.last moment le));
    acts = acts_on r q s t v y (actions.Ticks moment k.answers ∷ []) (own_acts own.ends own.mends ++ Hears h.got h.answers ∷ []) (tick_acts r q moment t u v at k)
        (acts_on q w s v x y (own_acts own.ends own.mends) (Hears h.got h.answers ∷ []) own.acts h.acts);
  }

  -- ---- a turn that broke off

  pub turn_ends : (o : Options) (p : Pace) (r : Running C) (moment : ℕ) (t u v : Telling) → Did t u (Read moment ∷ []) → is_pause o.gap p.before moment ≡ false → TickBreaks r u v moment → TurnBreaks o p r t v
  unfolding quiet_act
  turn_ends o p r moment t u v at in_time k before noted =
      let x : WholeTick o p.apart moment (daemon_of r before noted) k.answers = whole_tick o p.apart moment (daemon_of r before noted) k.answers in
      record {
        turn = turn_of moment k.answers x.ends x.mends call.Quiet silent;
        follows = record { in_time = in_time; keeps = x.keeps };
        made = acts_break_more r t v (actions.Ticks moment k.answers ∷ []) (own_acts x.ends x.mends ++ quiet_act ∷ []) (tick_acts_break r moment t u v at k) before noted;
      }

  pub turn_ends_own : {A : Known → List (Hosted C) → Audience → Type 0} (o : Options) (p : Pace) (r q : Running C) (moment : ℕ) (t u v w : Telling) → Did t u (Read moment ∷ []) → is_pause o.gap p.before moment ≡ false → 100 ≤ moment - r.last → TicksAs A r q u v moment → OwnBreaks o p.apart q v w
      → TurnBreaks o p r t w
  unfolding quiet_act tick_acts
  turn_ends_own o p r q moment t u v w at in_time le k h before noted =
      let e : Daemon = daemon_of q (before ++ k.goes.calls) (noted ++ k.goes.records) in
      let x : OwnFront o p.apart e v w = h (before ++ k.goes.calls) (noted ++ k.goes.records) in
      let acts : List Action = own_acts x.own.ends x.own.mends in
      record {
        turn = turn_of moment k.answers x.own.ends x.own.mends call.Quiet silent;
        follows = record { in_time = in_time; keeps = keeps_own o p.apart moment (daemon_of r before noted) e k.answers x.own call.Quiet silent (k.goes.is before noted) (due r.last moment le) };
        made = subst (MadeFront t w) (sym (doings_on r q t v (actions.Ticks moment k.answers ∷ []) (acts ++ quiet_act ∷ []) (tick_acts r q moment t u v at k) before noted))
            (made_front_on t v w (tick_acts r q moment t u v at k).done (doings_of e (acts ++ quiet_act ∷ [])) (tick_acts r q moment t u v at k).made
            (subst (MadeFront v w) (sym (doings_append e acts (quiet_act ∷ []))) (made_front_more v w (doings_of e acts) (doings_of (did_all e acts) (quiet_act ∷ [])) x.made)));
      }

  pub turn_broke_plain : {A : Known → List (Hosted C) → Audience → Type 0} (o : Options) (p : Pace) (r q : Running C) (moment : ℕ) (t u v w : Telling) → Did t u (Read moment ∷ []) → is_pause o.gap p.before moment ≡ false → moment - r.last < 100 → TicksAs A r q u v moment → HearBreaks q v w
      → TurnBreaks o p r t w
  turn_broke_plain o p r q moment t u v w at in_time lt k h before noted = record {
    turn = turn_of moment k.answers [] None h.got h.answers;
    follows = record { in_time = in_time; keeps = keeps_none o p.apart moment (daemon_of r before noted) k.answers h.got h.answers (undue r.last moment lt) };
    made = acts_break_on r q t v w (actions.Ticks moment k.answers ∷ []) (Hears h.got h.answers ∷ []) (tick_acts r q moment t u v at k) h.breaks before noted;
  }

  pub turn_broke_kept : {A : Known → List (Hosted C) → Audience → Type 0} (o : Options) (p : Pace) (left : ℕ) (r q w : Running C) (moment : ℕ) (t u v x y : Telling) → Did t u (Read moment ∷ []) → is_pause o.gap p.before moment ≡ false → 100 ≤ moment - r.last → TicksAs A r q u v moment
      → OwnAs A o p.apart left q w v x → HearBreaks w x y → TurnBreaks o p r t y
  unfolding own_seen
  turn_broke_kept o p left r q w moment t u v x y at in_time le k own h before noted = record {
    turn = turn_of moment k.answers own.ends own.mends h.got h.answers;
    follows = record {
      in_time = in_time;
      keeps = keeps_own o p.apart moment (daemon_of r before noted) (daemon_of q (before ++ k.goes.calls) (noted ++ k.goes.records)) k.answers (own_seen o p.apart left q w v x own (before ++ k.goes.calls) (noted ++ k.goes.records)) h.got h.answers (k.goes.is before noted) (due r.last moment le);
    };
    made = acts_break_on r w t x y (actions.Ticks moment k.answers ∷ own_acts own.ends own.mends) (Hears h.got h.answers ∷ [])
        (acts_on r q w t v x (actions.Ticks moment k.answers ∷ []) (own_acts own.ends own.mends) (tick_acts r q moment t u v at k) own.acts) h.breaks before noted;
  }

  -- ---- a write that failed

  pub turn_fails_at_tick : {A : Known → List (Hosted C) → Audience → Type 0} (o : Options) (p : Pace) (r s : Running C) (moment : ℕ) (t u v : Telling) → Did t u (Read moment ∷ []) → is_pause o.gap p.before moment ≡ false → TickFails A r s u v moment → TurnFails A o p r s t v
  turn_fails_at_tick o p r s moment t u v at in_time k = record {
    acts = actions.Ticks moment k.answers ∷ [];
    fails = tick_acts_fail r s moment t u v at k;
    rest = λ before noted.
        let x : WholeTick o p.apart moment (daemon_of r before noted) k.answers = whole_tick o p.apart moment (daemon_of r before noted) k.answers in
        record {
          turn = turn_of moment k.answers x.ends x.mends call.Quiet silent;
          follows = record { in_time = in_time; keeps = x.keeps };
          later = own_acts x.ends x.mends ++ Hears call.Quiet silent ∷ [];
          are = refl;
        };
  }

  pub turn_fails_own : {A : Known → List (Hosted C) → Audience → Type 0} (o : Options) (p : Pace) (r q s : Running C) (moment : ℕ) (t u v w : Telling) → Did t u (Read moment ∷ []) → is_pause o.gap p.before moment ≡ false → 100 ≤ moment - r.last → TicksAs A r q u v moment
      → OwnFails A o p.apart q s v w → TurnFails A o p r s t w
  turn_fails_own o p r q s moment t u v w at in_time le k h = record {
    acts = actions.Ticks moment k.answers ∷ h.acts;
    fails = acts_fail_on r q s t v w (actions.Ticks moment k.answers ∷ []) h.acts (tick_acts r q moment t u v at k) h.fails;
    rest = λ before noted.
        let e : Daemon = daemon_of q (before ++ k.goes.calls) (noted ++ k.goes.records) in
        let x : OwnRest o p.apart e h.acts = h.rest (before ++ k.goes.calls) (noted ++ k.goes.records) in
        let last : List Action = Hears call.Quiet silent ∷ [] in
        record {
          turn = turn_of moment k.answers x.own.ends x.own.mends call.Quiet silent;
          follows = record { in_time = in_time; keeps = keeps_own o p.apart moment (daemon_of r before noted) e k.answers x.own call.Quiet silent (k.goes.is before noted) (due r.last moment le) };
          later = x.later ++ last;
          are = ap (λ z. actions.Ticks moment k.answers ∷ z) (sym (append_assoc h.acts x.later last) ∙ ap (λ z. z ++ last) x.are);
        };
  }

  pub turn_fails_plain : {A : Known → List (Hosted C) → Audience → Type 0} (o : Options) (p : Pace) (r q s : Running C) (moment : ℕ) (t u v w : Telling) → Did t u (Read moment ∷ []) → is_pause o.gap p.before moment ≡ false → moment - r.last < 100 → TicksAs A r q u v moment → HearFails A q s v w
      → TurnFails A o p r s t w
  turn_fails_plain o p r q s moment t u v w at in_time lt k h = record {
    acts = actions.Ticks moment k.answers ∷ Hears h.got h.answers ∷ [];
    fails = acts_fail_on r q s t v w (actions.Ticks moment k.answers ∷ []) (Hears h.got h.answers ∷ []) (tick_acts r q moment t u v at k) h.fails;
    rest = λ before noted. record {
      turn = turn_of moment k.answers [] None h.got h.answers;
      follows = record { in_time = in_time; keeps = keeps_none o p.apart moment (daemon_of r before noted) k.answers h.got h.answers (undue r.last moment lt) };
      later = [];
      are = refl;
    };
  }

  pub turn_fails_kept : {A : Known → List (Hosted C) → Audience → Type 0} (o : Options) (p : Pace) (left : ℕ) (r q w s : Running C) (moment : ℕ) (t u v x y : Telling) → Did t u (Read moment ∷ []) → is_pause o.gap p.before moment ≡ false → 100 ≤ moment - r.last → TicksAs A r q u v moment
      → OwnAs A o p.apart left q w v x → HearFails A w s x y → TurnFails A o p r s t y
  unfolding own_seen
  turn_fails_kept o p left r q w s moment t u v x y at in_time le k own h = record {
    acts = (actions.Ticks moment k.answers ∷ own_acts own.ends own.mends) ++ Hears h.got h.answers ∷ [];
    fails = acts_fail_on r w s t x y (actions.Ticks moment k.answers ∷ own_acts own.ends own.mends) (Hears h.got h.answers ∷ [])
        (acts_on r q w t v x (actions.Ticks moment k.answers ∷ []) (own_acts own.ends own.mends) (tick_acts r q moment t u v at k) own.acts) h.fails;
    rest = λ before noted. record {
      turn = turn_of moment k.answers own.ends own.mends h.got h.answers;
      follows = record {
        in_time = in_time;
        keeps = keeps_own o p.apart moment (daemon_of r before noted) (daemon_of q (before ++ k.goes.calls) (noted ++ k.goes.records)) k.answers (own_seen o p.apart left q w v x own (before ++ k.goes.calls) (noted ++ k.goes.records)) h.got h.answers (k.goes.is before noted) (due r.last moment le);
      };
      later = [];
      are = append-nil _;
    };
  }
