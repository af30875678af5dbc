-- What comes from clients on other machines.
use Rattle.std.proofs.Common.{◌≡◌, if◌then◌else◌, ℕ, ◌+◌, ◌<◌, ◌^◌, min, length, arith, Bool, true, false, List, [], ◌++◌, Option, Some, None, refl, sym, ◌∙◌, ap, ap₂, subst, append-nil}
use Rattle.std.specs.Prelude.{not, map, option_map}
use Rattle.std.proofs.lemmas.List.{length-map}
use Rattle.hags_io.specs.declared.link.LinkCall.{LinkCall}
use Rattle.hags_io.specs.Deeds.{Exchanged}
use Rattle.hags_io.specs.Telling.{Telling}
use Rattle.hags_io.specs.Fronts.{Went, WentFront}
use Rattle.piece_link.specs.Pieces.{can_cut}
use Rattle.link_use.specs.declared.sending.Outbox.{Outbox}
use Rattle.link_use.proofs.SendLaws.{said_made, said_front}
use Rattle.node_state.specs.declared.call.CallLine.{CallLine}
use Rattle.node_state.specs.declared.happened.Happened.{Happened}
use Rattle.node_state.specs.HandOn.{Answering}
use Rattle.node_state.specs.Bytes.{event_of}
use Rattle.node_state.specs.Step.{Calls, at_work, stepped}
use Rattle.remote_session.specs.Messages.{UpIn, up_of}
use Rattle.remote_session.specs.Daemon.{RemoteState, SeenUp, NotUp, EndedKey, KeysFull, KnownKey, CallMade, max_keys, is_full_for, call_made, kept, ended_up, up_seen_as, up_seen_by, up_seen, up_taken_as, up_taken_by, up_taken}
use Rattle.remote_clients.specs.declared.sessions.Sessions.{Sessions}
use Rattle.remote_clients.specs.Sessions.{is_refused, finished, turned_down}
use Rattle.daemon_model.specs.Counts.{last_u64, sent_more}
use Rattle.daemon_model.specs.Sent.{Exchange, said, number_if, message_calls}
use Rattle.daemon_model.specs.Daemon.{Daemon, left_for, stepped_for, stepped_by, given, up_in, with_up, call_in, key_called, line_carried, called_by, down_in, said_back, sent_back, down_sent, brought}
use Rattle.daemon_model.proofs.AddLaws.{Adds, adds_on, adds_step, adds_sessions, adds_called}
use Rattle.daemon_run.specs.Hosting.{Known}
use Rattle.daemon_run.specs.declared.hosted.Hosted.{Hosted}
use Rattle.daemon_run.specs.declared.running.Running.{Running}
use Rattle.daemon_run.specs.Audience.{Audience, StepHands, LineHands, BroughtHands}
use Rattle.daemon_run.specs.Doing.{daemon_of, Comes, Goes, Breaks, Passes, Attends, StepsAs, StepBreaks, StepFails, CallSteps, is_up_taken, down_exchanges, Sends, SendsFront, CallsKey, CallKeyBreaks, CallKeyFails, brought_on, BroughtOnHands, BringsAs, BringBreaks, BringFails}
use Rattle.daemon_run.proofs.GoesLaws.{AddsCalls, goes_none, goes_as, goes_still, goes_more, breaks_none, breaks_as, breaks_late, breaks_on, breaks_more, fails_as, fails_late}
use Rattle.daemon_run.proofs.StepLaws.{silent}

-- what the sessions make of a step that was a call of the key
abbrev pub with_finished : ℕ → CallLine → Bool → Daemon → Daemon
with_finished key c refused d = record d { sessions = option_map (finished key c (not refused)) d.sessions }

finished_adds : (key : ℕ) (c : CallLine) (refused : Bool) (d : Daemon) → AddsCalls d (with_finished key c refused d)
finished_adds key c refused d = record { calls = []; called = sym (append-nil d.calls); recorded = refl }

down_adds : (key network : ℕ) (d : Daemon) → AddsCalls d (down_sent key network d)
unfolding down_sent
down_adds key network d = record { calls = said_back network (down_in d.sessions key) d; called = refl; recorded = refl }

down_core : (key network : ℕ) (d : Daemon) → (down_sent key network d).core ≡ d.core
unfolding down_sent
down_core key network d = refl

-- the sessions took a message before
with_called : (key : ℕ) (line message : List ℕ) (f : Answering) (d : Daemon) → Adds d (called_by key line f (with_up message d))
with_called key line message f d = adds_on d (with_up message d) (called_by key line f (with_up message d)) (adds_sessions d _) (adds_called key line f (with_up message d))

-- an Up without a call that is due
abbrev up_only : SeenUp → ℕ → Type 0
up_only u key = (network : ℕ) (message : List ℕ) (f : Answering) (d : Daemon) → brought u network message f d ≡ down_sent key network (with_up message d)

known_only : (key : ℕ) → up_only (KnownKey key) key
unfolding brought
known_only key network message f d = refl

ended_only : (key : ℕ) → up_only (EndedKey key) key
unfolding brought
ended_only key network message f d = refl

full_only : (key limit : ℕ) → up_only (KeysFull key limit) key
unfolding brought
full_only key limit network message f d = refl

-- what is no Up leaves the sessions as they are
kept_as : (s : RemoteState) (o : Option UpIn) → NotUp ≡ up_seen_as s.sessions o → up_taken_as s.sessions o ≡ s.sessions
unfolding up_seen_as up_taken_as
kept_as s None e = refl
kept_as s (Some u) e = absurd (by (is_full_for u.key s.sessions) (call_made u (kept u.key s.sessions)) e)
  where
    by : (a b : Bool) → ◌≡◌ {A = SeenUp} NotUp (if a then KeysFull u.key max_keys else if b then CallMade u.key u.line else KnownKey u.key) → ⊥
    by true b e = cc
    by false true e = cc
    by false false e = cc

kept_by : (s : RemoteState) (ended : Option ℕ) (o : Option UpIn) → NotUp ≡ up_seen_by ended s.sessions o → up_taken_by ended s.sessions o ≡ s.sessions
kept_by s None o e = kept_as s o e
kept_by s (Some key) o e = refl

up_kept : (s : RemoteState) (bytes : List ℕ) → NotUp ≡ up_seen s bytes → up_taken s bytes ≡ s
unfolding up_seen up_taken
up_kept s bytes e = ap (λ t. record s { sessions = t }) (kept_by s (ended_up s bytes) (up_of bytes) e)

sessions_kept : (o : Option Sessions) (message : List ℕ) → NotUp ≡ up_in o message → option_map (λ (t : Sessions). record t { remote = up_taken t.remote message }) o ≡ o
sessions_kept None message e = refl
sessions_kept (Some s) message e = ap (λ t. Some (record s { remote = t })) (up_kept s.remote message e)

module _ {C : Type 0} where
  not_taken : (r : Running C) (message : List ℕ) → NotUp ≡ up_in r.sessions message → is_up_taken r message ≡ r
  not_taken r message e = ap (λ o. record r { sessions = o }) (sessions_kept r.sessions message e)

  abbrev pub with_sessions : Running C → Option Sessions → Running C
  with_sessions r o = record r { sessions = o }

  -- ---- the sessions take an Up

  up_goes : (r : Running C) (message : List ℕ) (t : Telling) → Goes r (is_up_taken r message) t t (with_up message)
  up_goes r message t = goes_as r (is_up_taken r message) (is_up_taken r message) t t (with_up message) (λ d. d) (λ before noted. refl) (goes_none (is_up_taken r message) t)

  -- ---- the line of a key

  -- it is refused without a step
  pub line_refused : {A : Known → List (Hosted C) → Audience → Type 0} (r s : Running C) (key : ℕ) (line : List ℕ) (t : Telling) → None ≡ call_in r.sessions r.outbox.me key line → s ≡ with_sessions r (option_map (turned_down key) r.sessions)
      → CallsKey A r s t t key line
  unfolding called_by
  line_refused {A = A} r s key line t none is = record {
    answers = silent;
    goes = goes_as r s s t t (called_by key line silent) (λ d. d)
        (λ before noted. ap (λ (o : Option CallLine). line_carried key o silent (daemon_of r before noted)) (sym none) ∙ ap (λ (x : Running C). daemon_of x before noted) (sym is)) (goes_none s t);
    attends = λ before noted u. (u, subst (λ (o : Option CallLine). LineHands o silent (at_work r.node.core) u u) none refl, λ known held. subst (λ (x : Running C). A known x.node.clients u) (sym is) held);
  }

  line_is : (r : Running C) (key : ℕ) (line : List ℕ) (c : CallLine) (refused : Bool) (f : Answering) → Some c ≡ call_in r.sessions r.outbox.me key line → refused ≡ is_refused (stepped f (at_work r.node.core) (Calls c)).records → (before : List Exchange) (noted : List Happened)
      → called_by key line f (daemon_of r before noted) ≡ with_finished key c refused (stepped_for (Some key) f (Calls c) (daemon_of r before noted))
  unfolding called_by stepped_for
  line_is r key line c refused f some is before noted =
      let d : Daemon = daemon_of r before noted in
      let one : called_by key line f d ≡ key_called key c (stepped f d.core (Calls c)) d = ap (λ (o : Option CallLine). line_carried key o f d) (sym some) in
      one ∙ ap (λ (x : Bool). with_finished key c x (left_for (Some key) d (stepped f d.core (Calls c)))) (sym is)

  line_hands : (A : Known → List (Hosted C) → Audience → Type 0) (r s : Running C) (key : ℕ) (line : List ℕ) (c : CallLine) (f : Answering) → Some c ≡ call_in r.sessions r.outbox.me key line → Attends A A r s (λ d. StepHands f (Calls c) d.core)
      → Attends A A r s (λ d. LineHands (call_in d.sessions d.me key line) f d.core)
  line_hands A r s key line c f some h before noted z =
      let a : (v : Audience) × StepHands f (Calls c) (at_work r.node.core) z v × Passes A A r.node.clients s.node.clients z v = h before noted z in
      (a.0, subst (λ (o : Option CallLine). LineHands o f (at_work r.node.core) z a.0) some a.1, a.2)

  pub line_done : {A : Known → List (Hosted C) → Audience → Type 0} (r q s : Running C) (key : ℕ) (line : List ℕ) (c : CallLine) (refused : Bool) (t u : Telling) → Some c ≡ call_in r.sessions r.outbox.me key line → CallSteps A (Some key) r q refused t u c
      → s ≡ with_sessions q (option_map (finished key c (not refused)) q.sessions) → CallsKey A r s t u key line
  line_done {A = A} r q s key line c refused t u some h is = record {
    answers = h.answers;
    goes = goes_as r r s t u (called_by key line h.answers) (λ d. with_finished key c refused (stepped_for (Some key) h.answers (Calls c) d)) (line_is r key line c refused h.answers some h.was)
        (goes_still r q s t u (stepped_for (Some key) h.answers (Calls c)) (with_finished key c refused) h.goes (λ before noted. ap (λ (x : Running C). daemon_of x before noted) (sym is)));
    attends = line_hands A r s key line c h.answers some (λ before noted z.
        let a : (v : Audience) × StepHands h.answers (Calls c) (at_work r.node.core) z v × Passes A A r.node.clients q.node.clients z v = h.attends before noted z in
        (a.0, a.1, λ known held. subst (λ (x : Running C). A known x.node.clients a.0) (sym is) (a.2 known held)));
  }

  pub line_broke : (r : Running C) (key : ℕ) (line : List ℕ) (c : CallLine) (t u : Telling) → Some c ≡ call_in r.sessions r.outbox.me key line → StepBreaks (Some key) r t u (Calls c) → CallKeyBreaks r t u key line
  line_broke r key line c t u some h = record {
    answers = h.answers;
    breaks = breaks_as r r t u (called_by key line h.answers) (λ d. with_finished key c (is_refused (stepped h.answers (at_work r.node.core) (Calls c)).records) (stepped_for (Some key) h.answers (Calls c) d))
        (line_is r key line c (is_refused (stepped h.answers (at_work r.node.core) (Calls c)).records) h.answers some refl)
        (breaks_more r t u (stepped_for (Some key) h.answers (Calls c)) (with_finished key c (is_refused (stepped h.answers (at_work r.node.core) (Calls c)).records)) h.breaks
        (adds_step (Some key) h.answers (Calls c)) (finished_adds key c (is_refused (stepped h.answers (at_work r.node.core) (Calls c)).records)));
  }

  pub line_fails : {A : Known → List (Hosted C) → Audience → Type 0} (r s : Running C) (key : ℕ) (line : List ℕ) (c : CallLine) (t u : Telling) → Some c ≡ call_in r.sessions r.outbox.me key line → StepFails A A (Some key) r s t u (Calls c) → CallKeyFails A r s t u key line
  line_fails {A = A} r s key line c t u some h = record {
    answers = h.answers;
    fails = fails_as r r s t u (called_by key line h.answers) (λ d. with_finished key c (is_refused (stepped h.answers (at_work r.node.core) (Calls c)).records) (stepped_for (Some key) h.answers (Calls c) d))
        (line_is r key line c (is_refused (stepped h.answers (at_work r.node.core) (Calls c)).records) h.answers some refl)
        (fails_late r s t u (stepped_for (Some key) h.answers (Calls c)) (with_finished key c (is_refused (stepped h.answers (at_work r.node.core) (Calls c)).records)) h.fails
        (adds_step (Some key) h.answers (Calls c)) (finished_adds key c (is_refused (stepped h.answers (at_work r.node.core) (Calls c)).records)) (λ e. refl));
    attends = line_hands A r s key line c h.answers some h.attends;
  }

  -- after its step there was no memory
  pub line_late : {A : Known → List (Hosted C) → Audience → Type 0} (r q : Running C) (key : ℕ) (line : List ℕ) (c : CallLine) (refused : Bool) (t u : Telling) → Some c ≡ call_in r.sessions r.outbox.me key line → CallSteps A (Some key) r q refused t u c
      → CallKeyBreaks r t u key line
  line_late r q key line c refused t u some h = record {
    answers = h.answers;
    breaks = breaks_as r r t u (called_by key line h.answers) (λ d. with_finished key c refused (stepped_for (Some key) h.answers (Calls c) d)) (line_is r key line c refused h.answers some h.was)
        (breaks_more r t u (stepped_for (Some key) h.answers (Calls c)) (with_finished key c refused) (breaks_late r q t u (stepped_for (Some key) h.answers (Calls c)) h.goes)
        (adds_step (Some key) h.answers (Calls c)) (finished_adds key c refused));
  }

  pub line_none : (r : Running C) (key : ℕ) (line : List ℕ) (t : Telling) → CallKeyBreaks r t t key line
  line_none r key line t = record { answers = silent; breaks = breaks_none r t (called_by key line silent) }

  -- ---- a message that is no packet

  pub back_done : (r s : Running C) (o : Outbox) (n k network : ℕ) (message : List ℕ) (t u : Telling) → r.outbox.number < 2 ^ 64 → o ≡ record (r.outbox) { number = number_if (can_cut message) r.outbox.number } → n ≡ length (message_calls r.outbox.me r.outbox.incarnation r.outbox.number 0 network message)
      → k ≡ min (r.sent + n) last_u64 → s ≡ record r { outbox = o; sent = k } → Went t u (map Exchanged (message_calls r.outbox.me r.outbox.incarnation r.outbox.number 0 network message)) → Sends r s t u network message
  back_done r s o n k network message t u fits number so_many more is w =
      let calls : List LinkCall = message_calls r.outbox.me r.outbox.incarnation r.outbox.number 0 network message in
      let all : length (down_exchanges r network message) ≡ length calls = length-map calls (said r.outbox.number) in
      let counted : k ≡ sent_more r.sent (down_exchanges r network message) = omega (arith, more, so_many, all) in
      record {
        is = is ∙ (ap (λ (x : Outbox). record r { outbox = x; sent = k }) number ∙ ap (λ (c : ℕ). record r { outbox = record (r.outbox) { number = number_if (can_cut message) r.outbox.number }; sent = c }) counted);
        made = said_made r.outbox.number fits t u calls w;
      }

  pub back_front : (r : Running C) (network : ℕ) (message : List ℕ) (t u : Telling) → r.outbox.number < 2 ^ 64 → WentFront t u (map Exchanged (message_calls r.outbox.me r.outbox.incarnation r.outbox.number 0 network message)) → SendsFront r t u network message
  back_front r network message t u fits w = said_front r.outbox.number fits t u (message_calls r.outbox.me r.outbox.incarnation r.outbox.number 0 network message) w

  -- the same bytes
  pub same_done : (r s : Running C) (network : ℕ) (message bytes : List ℕ) (t u : Telling) → bytes ≡ message → Sends r s t u network bytes → Sends r s t u network message
  same_done r s network message bytes t u same h = subst (Sends r s t u network) same h

  pub same_front : (r : Running C) (network : ℕ) (message bytes : List ℕ) (t u : Telling) → bytes ≡ message → SendsFront r t u network bytes → SendsFront r t u network message
  same_front r network message bytes t u same h = subst (SendsFront r t u network) same h

  -- ---- the Down

  -- by a daemon that stands alike
  pub front_at : (q p : Running C) (key k network : ℕ) (t s u : Telling) → p ≡ q → k ≡ key → s ≡ t → SendsFront p s u network (down_in p.sessions k) → SendsFront q t u network (down_in q.sessions key)
  front_at q p key k network t s u same keys told h =
      subst (λ (x : Telling). SendsFront q x u network (down_in q.sessions key)) told
      (subst (λ (n : ℕ). SendsFront q s u network (down_in q.sessions n)) keys (subst (λ (x : Running C). SendsFront x s u network (down_in x.sessions k)) same h))

  down_comes : (r s : Running C) (key network : ℕ) (t u : Telling) → Sends r s t u network (down_in r.sessions key) → Comes r s (down_sent key network) (down_exchanges r network (down_in r.sessions key)) []
  unfolding down_sent
  down_comes r s key network t u h before noted =
      ap₂ (λ (x : Running C) (q : List Happened). daemon_of x (before ++ down_exchanges r network (down_in r.sessions key)) q) (sym h.is) (sym (append-nil noted))

  down_calls : (r : Running C) (key network : ℕ) (before : List Exchange) (noted : List Happened) → (down_sent key network (daemon_of r before noted)).calls ≡ before ++ down_exchanges r network (down_in r.sessions key)
  unfolding down_sent
  down_calls r key network before noted = refl

  down_records : (r : Running C) (key network : ℕ) (before : List Exchange) (noted : List Happened) → (down_sent key network (daemon_of r before noted)).records ≡ noted
  unfolding down_sent
  down_records r key network before noted = refl

  -- after a step, or none
  then_down : (r q s : Running C) (f : Daemon → Daemon) (key network : ℕ) (t u v : Telling) → Goes r q t u f → Sends q s u v network (down_in q.sessions key) → Goes r s t v (λ d. down_sent key network (f d))
  then_down r q s f key network t u v p h =
      goes_more r q s t u v f (down_sent key network) (down_exchanges q network (down_in q.sessions key)) p (down_comes q s key network u v h) h.made

  then_breaks : (r q : Running C) (f : Daemon → Daemon) (key network : ℕ) (t u v : Telling) → Goes r q t u f → SendsFront q u v network (down_in q.sessions key) → Breaks r t v (λ d. down_sent key network (f d))
  then_breaks r q f key network t u v p h =
      breaks_on r q t u v f (down_sent key network) (down_exchanges q network (down_in q.sessions key)) p (down_calls q key network) (down_records q key network) h

  -- ---- a message

  -- by what it is to the sessions
  brought_is : (r : Running C) (u : SeenUp) (network : ℕ) (message : List ℕ) (f : Answering) → u ≡ up_in r.sessions message → (before : List Exchange) (noted : List Happened)
      → brought_on network message f (daemon_of r before noted) ≡ brought u network message f (daemon_of r before noted)
  brought_is r u network message f is before noted = ap (λ (v : SeenUp). brought v network message f (daemon_of r before noted)) (sym is)

  hands_as : (A : Known → List (Hosted C) → Audience → Type 0) (r s : Running C) (u : SeenUp) (message : List ℕ) (f : Answering) → u ≡ up_in r.sessions message → Attends A A r s (BroughtHands u message f) → Attends A A r s (BroughtOnHands message f)
  hands_as A r s u message f is h before noted z =
      let a : (v : Audience) × BroughtHands u message f (daemon_of r before noted) z v × Passes A A r.node.clients s.node.clients z v = h before noted z in
      (a.0, subst (λ (w : SeenUp). BroughtHands w message f (daemon_of r before noted) z a.0) is a.1, a.2)

  -- one for the node
  pub give_done : {A : Known → List (Hosted C) → Audience → Type 0} (r q s : Running C) (network : ℕ) (message : List ℕ) (t u : Telling) → NotUp ≡ up_in r.sessions message → q ≡ is_up_taken r message → StepsAs A A None q s t u (event_of message) → BringsAs A r s t u network message
  unfolding brought given
  give_done {A = A} r q s network message t u is taken g =
      let h : StepsAs A A None r s t u (event_of message) = subst (λ (x : Running C). StepsAs A A None x s t u (event_of message)) (taken ∙ not_taken r message is) g in record {
        answers = h.answers;
        goes = goes_as r r s t u (brought_on network message h.answers) (stepped_by h.answers (event_of message)) (brought_is r NotUp network message h.answers is) h.goes;
        attends = hands_as A r s NotUp message h.answers is h.attends;
      }

  pub give_broke : (r q : Running C) (network : ℕ) (message : List ℕ) (t u : Telling) → NotUp ≡ up_in r.sessions message → q ≡ is_up_taken r message → StepBreaks None q t u (event_of message) → BringBreaks r t u network message
  unfolding brought given
  give_broke r q network message t u is taken g =
      let h : StepBreaks None r t u (event_of message) = subst (λ (x : Running C). StepBreaks None x t u (event_of message)) (taken ∙ not_taken r message is) g in record {
        answers = h.answers;
        breaks = breaks_as r r t u (brought_on network message h.answers) (stepped_by h.answers (event_of message)) (brought_is r NotUp network message h.answers is) h.breaks;
      }

  pub give_fails : {A : Known → List (Hosted C) → Audience → Type 0} (r q s : Running C) (network : ℕ) (message : List ℕ) (t u : Telling) → NotUp ≡ up_in r.sessions message → q ≡ is_up_taken r message → StepFails A A None q s t u (event_of message) → BringFails A r s t u network message
  unfolding brought given
  give_fails {A = A} r q s network message t u is taken g =
      let h : StepFails A A None r s t u (event_of message) = subst (λ (x : Running C). StepFails A A None x s t u (event_of message)) (taken ∙ not_taken r message is) g in record {
        answers = h.answers;
        fails = fails_as r r s t u (brought_on network message h.answers) (stepped_by h.answers (event_of message)) (brought_is r NotUp network message h.answers is) h.fails;
        attends = hands_as A r s NotUp message h.answers is h.attends;
      }

  only_is : (r : Running C) (u : SeenUp) (key network : ℕ) (message : List ℕ) → up_only u key → u ≡ up_in r.sessions message → (before : List Exchange) (noted : List Happened)
      → brought_on network message silent (daemon_of r before noted) ≡ down_sent key network (with_up message (daemon_of r before noted))
  only_is r u key network message only is before noted = brought_is r u network message silent is before noted ∙ only network message silent (daemon_of r before noted)

  only_goes : (r s : Running C) (w : SeenUp) (key network : ℕ) (message : List ℕ) (t u : Telling) → up_only w key → w ≡ up_in r.sessions message → Sends (is_up_taken r message) s t u network (down_in (is_up_taken r message).sessions key)
      → Goes r s t u (brought_on network message silent)
  only_goes r s w key network message t u only is h =
      goes_as r r s t u (brought_on network message silent) (λ d. down_sent key network (with_up message d)) (only_is r w key network message only is)
      (then_down r (is_up_taken r message) s (with_up message) key network t t u (up_goes r message t) h)

  only_breaks : (r : Running C) (w : SeenUp) (key network : ℕ) (message : List ℕ) (t u : Telling) → up_only w key → w ≡ up_in r.sessions message → SendsFront (is_up_taken r message) t u network (down_in (is_up_taken r message).sessions key)
      → BringBreaks r t u network message
  only_breaks r w key network message t u only is h = record {
    answers = silent;
    breaks = breaks_as r r t u (brought_on network message silent) (λ d. down_sent key network (with_up message d)) (only_is r w key network message only is)
        (then_breaks r (is_up_taken r message) (with_up message) key network t t u (up_goes r message t) h);
  }

  pub known_done : {A : Known → List (Hosted C) → Audience → Type 0} (r q s : Running C) (key network : ℕ) (message : List ℕ) (t u : Telling) → KnownKey key ≡ up_in r.sessions message → q ≡ is_up_taken r message → Sends q s t u network (down_in q.sessions key)
      → BringsAs A r s t u network message
  known_done {A = A} r q s key network message t u is taken g =
      let h : Sends (is_up_taken r message) s t u network (down_in (is_up_taken r message).sessions key) = subst (λ (x : Running C). Sends x s t u network (down_in x.sessions key)) taken g in
      record {
        answers = silent;
        goes = only_goes r s (KnownKey key) key network message t u (known_only key) is h;
        attends = hands_as A r s (KnownKey key) message silent is (λ before noted z. (z, refl, λ known held. subst (λ (x : Running C). A known x.node.clients z) (sym h.is) held));
      }

  pub ended_done : {A : Known → List (Hosted C) → Audience → Type 0} (r q s : Running C) (key network : ℕ) (message : List ℕ) (t u : Telling) → EndedKey key ≡ up_in r.sessions message → q ≡ is_up_taken r message → Sends q s t u network (down_in q.sessions key)
      → BringsAs A r s t u network message
  ended_done {A = A} r q s key network message t u is taken g =
      let h : Sends (is_up_taken r message) s t u network (down_in (is_up_taken r message).sessions key) = subst (λ (x : Running C). Sends x s t u network (down_in x.sessions key)) taken g in
      record {
        answers = silent;
        goes = only_goes r s (EndedKey key) key network message t u (ended_only key) is h;
        attends = hands_as A r s (EndedKey key) message silent is (λ before noted z. (z, refl, λ known held. subst (λ (x : Running C). A known x.node.clients z) (sym h.is) held));
      }

  pub full_done : {A : Known → List (Hosted C) → Audience → Type 0} (r q s : Running C) (key limit network : ℕ) (message : List ℕ) (t u : Telling) → KeysFull key limit ≡ up_in r.sessions message → q ≡ is_up_taken r message → Sends q s t u network (down_in q.sessions key)
      → BringsAs A r s t u network message
  full_done {A = A} r q s key limit network message t u is taken g =
      let h : Sends (is_up_taken r message) s t u network (down_in (is_up_taken r message).sessions key) = subst (λ (x : Running C). Sends x s t u network (down_in x.sessions key)) taken g in
      record {
        answers = silent;
        goes = only_goes r s (KeysFull key limit) key network message t u (full_only key limit) is h;
        attends = hands_as A r s (KeysFull key limit) message silent is (λ before noted z. (z, refl, λ known held. subst (λ (x : Running C). A known x.node.clients z) (sym h.is) held));
      }

  pub known_broke : (r q : Running C) (key network : ℕ) (message : List ℕ) (t u : Telling) → KnownKey key ≡ up_in r.sessions message → q ≡ is_up_taken r message → SendsFront q t u network (down_in q.sessions key) → BringBreaks r t u network message
  known_broke r q key network message t u is taken g =
      only_breaks r (KnownKey key) key network message t u (known_only key) is (subst (λ (x : Running C). SendsFront x t u network (down_in x.sessions key)) taken g)

  pub ended_broke : (r q : Running C) (key network : ℕ) (message : List ℕ) (t u : Telling) → EndedKey key ≡ up_in r.sessions message → q ≡ is_up_taken r message → SendsFront q t u network (down_in q.sessions key) → BringBreaks r t u network message
  ended_broke r q key network message t u is taken g =
      only_breaks r (EndedKey key) key network message t u (ended_only key) is (subst (λ (x : Running C). SendsFront x t u network (down_in x.sessions key)) taken g)

  pub full_broke : (r q : Running C) (key limit network : ℕ) (message : List ℕ) (t u : Telling) → KeysFull key limit ≡ up_in r.sessions message → q ≡ is_up_taken r message → SendsFront q t u network (down_in q.sessions key) → BringBreaks r t u network message
  full_broke r q key limit network message t u is taken g =
      only_breaks r (KeysFull key limit) key network message t u (full_only key limit) is (subst (λ (x : Running C). SendsFront x t u network (down_in x.sessions key)) taken g)

  -- an Up with a call
  call_is : (r : Running C) (key network : ℕ) (line message : List ℕ) (f : Answering) → CallMade key line ≡ up_in r.sessions message → (before : List Exchange) (noted : List Happened)
      → brought_on network message f (daemon_of r before noted) ≡ down_sent key network (called_by key line f (with_up message (daemon_of r before noted)))
  unfolding brought
  call_is r key network line message f is before noted = brought_is r (CallMade key line) network message f is before noted

  -- the sessions took it before the call
  called_goes : (r q : Running C) (key : ℕ) (line message : List ℕ) (f : Answering) (t u : Telling) → Goes (is_up_taken r message) q t u (called_by key line f) → Goes r q t u (λ d. called_by key line f (with_up message d))
  called_goes r q key line message f t u h = goes_as r (is_up_taken r message) q t u (λ d. called_by key line f (with_up message d)) (called_by key line f) (λ before noted. refl) h

  pub call_done : {A : Known → List (Hosted C) → Audience → Type 0} (r p q s : Running C) (key network : ℕ) (line message : List ℕ) (t u v : Telling) → CallMade key line ≡ up_in r.sessions message → p ≡ is_up_taken r message → CallsKey A p q t u key line
      → Sends q s u v network (down_in q.sessions key) → BringsAs A r s t v network message
  call_done {A = A} r p q s key network line message t u v is taken c g =
      let h : CallsKey A (is_up_taken r message) q t u key line = subst (λ (x : Running C). CallsKey A x q t u key line) taken c in
      record {
        answers = h.answers;
        goes = goes_as r r s t v (brought_on network message h.answers) (λ d. down_sent key network (called_by key line h.answers (with_up message d))) (call_is r key network line message h.answers is)
            (then_down r q s (λ d. called_by key line h.answers (with_up message d)) key network t u v (called_goes r q key line message h.answers t u h.goes) g);
        attends = hands_as A r s (CallMade key line) message h.answers is
            (λ before noted z.
            let a : (w : Audience) × LineHands (call_in (is_up_taken r message).sessions r.outbox.me key line) h.answers (at_work r.node.core) z w × Passes A A r.node.clients q.node.clients z w = h.attends before noted z in
            (a.0, a.1, λ known held. subst (λ (x : Running C). A known x.node.clients a.0) (sym g.is) (a.2 known held)));
      }

  pub call_broke_off : (r p : Running C) (key network : ℕ) (line message : List ℕ) (t u : Telling) → CallMade key line ≡ up_in r.sessions message → p ≡ is_up_taken r message → CallKeyBreaks p t u key line → BringBreaks r t u network message
  call_broke_off r p key network line message t u is taken c =
      let h : CallKeyBreaks (is_up_taken r message) t u key line = subst (λ (x : Running C). CallKeyBreaks x t u key line) taken c in
      record {
        answers = h.answers;
        breaks = breaks_as r r t u (brought_on network message h.answers) (λ d. down_sent key network (called_by key line h.answers (with_up message d))) (call_is r key network line message h.answers is)
            (breaks_more r t u (λ d. called_by key line h.answers (with_up message d)) (down_sent key network)
            (breaks_as r (is_up_taken r message) t u (λ d. called_by key line h.answers (with_up message d)) (called_by key line h.answers) (λ before noted. refl) h.breaks)
            (with_called key line message h.answers) (down_adds key network));
      }

  pub call_fails_in : {A : Known → List (Hosted C) → Audience → Type 0} (r p q : Running C) (key network : ℕ) (line message : List ℕ) (t u : Telling) → CallMade key line ≡ up_in r.sessions message → p ≡ is_up_taken r message → CallKeyFails A p q t u key line → BringFails A r q t u network message
  call_fails_in {A = A} r p q key network line message t u is taken c =
      let h : CallKeyFails A (is_up_taken r message) q t u key line = subst (λ (x : Running C). CallKeyFails A x q t u key line) taken c in
      record {
        answers = h.answers;
        fails = fails_as r r q t u (brought_on network message h.answers) (λ d. down_sent key network (called_by key line h.answers (with_up message d))) (call_is r key network line message h.answers is)
            (fails_late r q t u (λ d. called_by key line h.answers (with_up message d)) (down_sent key network)
            (fails_as r (is_up_taken r message) q t u (λ d. called_by key line h.answers (with_up message d)) (called_by key line h.answers) (λ before noted. refl) h.fails)
            (with_called key line message h.answers) (down_adds key network) (down_core key network));
        attends = hands_as A r q (CallMade key line) message h.answers is (λ before noted z. h.attends before noted z);
      }

  pub down_broke : {A : Known → List (Hosted C) → Audience → Type 0} (r p q : Running C) (key network : ℕ) (line message : List ℕ) (t u v : Telling) → CallMade key line ≡ up_in r.sessions message → p ≡ is_up_taken r message → CallsKey A p q t u key line
      → SendsFront q u v network (down_in q.sessions key) → BringBreaks r t v network message
  down_broke {A = A} r p q key network line message t u v is taken c g =
      let h : CallsKey A (is_up_taken r message) q t u key line = subst (λ (x : Running C). CallsKey A x q t u key line) taken c in
      record {
        answers = h.answers;
        breaks = breaks_as r r t v (brought_on network message h.answers) (λ d. down_sent key network (called_by key line h.answers (with_up message d))) (call_is r key network line message h.answers is)
            (then_breaks r q (λ d. called_by key line h.answers (with_up message d)) key network t u v (called_goes r q key line message h.answers t u h.goes) g);
      }

  -- the sessions had no memory for it
  pub give_none : (r : Running C) (network : ℕ) (message : List ℕ) (t : Telling) → BringBreaks r t t network message
  give_none r network message t = record { answers = silent; breaks = breaks_none r t (brought_on network message silent) }
