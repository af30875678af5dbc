-- What a daemon does of its own behind a tick: keys that end, one after another, and a view that its node asks for.
use Rattle.std.proofs.Common.{◌≡◌, ℕ, suc, ◌+◌, ◌<◌, ◌≤◌, Bool, true, false, cond, List, [], ◌∷◌, ◌++◌, length, take, drop, get_or, Option, Some, None, refl, sym, ◌∙◌, ap, ap₂, subst, append_assoc, append-nil, add-one}
use Rattle.std.specs.Prelude.{not, map, find, option_map, is_some, IfSome, Result, Ok, Err, IfOk}
use Rattle.std.proofs.Math.Seq.{take-suc, drop-cons}
use Rattle.std.proofs.lemmas.List.{map-append, take-append-drop}
use Rattle.hags_io.specs.Telling.{Telling}
use Rattle.rsct_packet.specs.declared.mask.Mask.{Mask}
use Rattle.node_reach.specs.Reach.{reach_of}
use Rattle.node_state.specs.declared.call.CallLine.{CallLine}
use Rattle.node_state.specs.declared.call.CallLine.TheVariants as call
use Rattle.node_state.specs.declared.happened.Happened.{Happened}
use Rattle.node_state.specs.declared.state.Core.{Core}
use Rattle.node_state.specs.HandOn.{Answering}
use Rattle.node_state.specs.State.{frozen}
use Rattle.node_state.specs.Step.{Asks, Calls, at_work, stepped}
use Rattle.node_state.specs.Ticks.{reached}
use Rattle.remote_clients.specs.declared.clients.RemoteClient.{RemoteClient}
use Rattle.remote_clients.specs.Clients.{ClientsState, is_of_key, is_gone, goodbye_if, goodbye_owed, IsPlain}
use Rattle.remote_clients.specs.Sessions.{is_refused, finished}
use Rattle.remote_clients.specs.Ending.{session_ended}
use Rattle.daemon_model.specs.declared.options.Options.{Options}
use Rattle.daemon_model.specs.Sent.{Exchange}
use Rattle.daemon_model.specs.Daemon.{Daemon, KeyEnd, left_for, stepped_for, stepped_by, key_called, goodbye_in, goodbye_said, without_key, key_over, keys_over, mended}
use Rattle.daemon_model.specs.Actions.{did, did_all, key_action, mend_actions}
use Rattle.daemon_model.specs.Actions as actions
use Rattle.daemon_model.specs.Doings.{since, step_doings, doings, doings_of, MadeFront}
use Rattle.daemon_model.specs.Options.{keys_due, is_apart, apart_for, is_long_apart}
use Rattle.daemon_model.proofs.ActionLaws.{keys_done}
use Rattle.daemon_model.proofs.AddLaws.{adds_step}
use Rattle.daemon_model.proofs.MadeLaws.{none_made}
use Rattle.daemon_run.specs.declared.hosted.Hosted.{Hosted}
use Rattle.daemon_run.specs.declared.running.Running.{Running}
use Rattle.daemon_run.specs.Hosting.{Known}
use Rattle.daemon_run.specs.Audience.{Audience, StepHands, LineHands}
use Rattle.daemon_run.specs.Doing.{daemon_of, Passes, Attends, Acts, ActsBreak, WriteFails, ActsFail, StepsAs, StepBreaks, StepFails, CallSteps}
use Rattle.daemon_run.specs.Keeping.{KeyEndsAs, KeyEndBreaks, KeyEndFails, keys_of, KeysEnd, KeysBreak, KeysFail, OwnTurn, own_acts, OwnAs, OwnBreaks, OwnFails}
use Rattle.daemon_run.proofs.WriteLaws.{all_taken}
use Rattle.daemon_run.proofs.GoesLaws.{AddsCalls, goes_none, goes_as, goes_still, since_comes, breaks_none, breaks_as, breaks_late, breaks_more, fails_as, fails_late, one_hands, acts_none, acts_on, acts_break_on, acts_break_more, acts_fail_on}
use Rattle.daemon_run.proofs.RemoteLaws.{with_finished, with_sessions}
use Rattle.daemon_run.proofs.StepLaws.{silent}

-- ---- whatever is left of a turn that broke off

-- keys that end while nobody answers
silent_ends : List ℕ → List KeyEnd
silent_ends keys = map (λ k. record { key = k; answers = silent }) keys

silent_ends_are : (keys : List ℕ) → keys_of (silent_ends keys) ≡ keys
unfolding silent_ends
silent_ends_are [] = refl
silent_ends_are (k ∷ keys) = ap (λ t. k ∷ t) (silent_ends_are keys)

mend_as : Bool → Option Answering
mend_as true = Some silent
mend_as false = None

mend_as_is : (b : Bool) → is_some (mend_as b) ≡ b
unfolding mend_as
mend_as_is true = refl
mend_as_is false = refl

-- these keys end, and it mends as it has to
own_with : (o : Options) (ticks : ℕ) (d : Daemon) (ends : List KeyEnd) → keys_of ends ≡ keys_due o.silence d.sessions → OwnTurn o ticks d
own_with o ticks d ends due = record {
  ends = ends;
  mends = mend_as (is_long_apart o.mend (apart_for o.mend ticks (keys_over ends d).core));
  due = due;
  long = mend_as_is (is_long_apart o.mend (apart_for o.mend ticks (keys_over ends d).core));
}

pub own_whole : (o : Options) (ticks : ℕ) (d : Daemon) → OwnTurn o ticks d
own_whole o ticks d = own_with o ticks d (silent_ends (keys_due o.silence d.sessions)) (silent_ends_are (keys_due o.silence d.sessions))

-- whether a node is apart does not hang on what it sent and recorded
apart_work : (m : Option ℕ) (ticks : ℕ) (s : Core) → apart_for m ticks (at_work s) ≡ apart_for m ticks s
unfolding is_apart frozen reached
apart_work None ticks s = refl
apart_work (Some least) ticks s = refl

-- ---- the end of a key

-- a goodbye makes no client
owed_plain : (gone : List ℕ) (key : ℕ) (o : Option RemoteClient) → IfSome (goodbye_if gone key o) IsPlain
owed_plain gone key None = tt
owed_plain gone key (Some client) = by (is_gone gone key)
  where
    by : (b : Bool) → IfSome (cond b None (Some (call.Goodbye client.name))) IsPlain
    by true = tt
    by false = tt

pub goodbye_plain : {E : Type 0} (r : Result (Option CallLine) E) (c : ClientsState) (key : ℕ) → IfOk r (λ a. a ≡ goodbye_owed c key) → IfOk r (λ a. IfSome a IsPlain)
unfolding goodbye_owed
goodbye_plain (Ok a) c key h = subst (λ (o : Option CallLine). IfSome o IsPlain) (sym h) (owed_plain c.gone key (find (is_of_key key) c.made))
goodbye_plain (Err e) c key h = tt

abbrev over_after : ℕ → CallLine → Bool → Daemon → Daemon
over_after key c refused d = without_key key (with_finished key c refused d)

over_adds : (key : ℕ) (c : CallLine) (refused : Bool) (d : Daemon) → AddsCalls d (over_after key c refused d)
over_adds key c refused d = record { calls = []; called = sym (append-nil d.calls); recorded = refl }

abbrev end_by : ℕ → Answering → KeyEnd
end_by key f = record { key = key; answers = f }

-- the keys up to a place

no_keys : (keys : List ℕ) → [] ≡ take 0 keys
no_keys [] = refl
no_keys (k ∷ keys) = refl

keys_upto : (i k : ℕ) (keys : List ℕ) → i < length keys → k ≡ get_or keys i 0 → take (i + 1) keys ≡ take i keys ++ k ∷ []
keys_upto i k keys h is = rw add-one (take-suc keys i 0 h ∙ ap (λ x. take i keys ++ x ∷ []) (sym is))

keys_from : (i k : ℕ) (keys : List ℕ) → i < length keys → k ≡ get_or keys i 0 → drop i keys ≡ k ∷ drop (i + 1) keys
keys_from i k keys h is = rw add-one (drop-cons keys i 0 h ∙ ap (λ x. x ∷ drop (suc i) keys) (sym is))

keys_split : (i k : ℕ) (keys : List ℕ) → i < length keys → k ≡ get_or keys i 0 → keys ≡ take i keys ++ k ∷ drop (i + 1) keys
keys_split i k keys h is = sym (take-append-drop i keys) ∙ ap (λ t. take i keys ++ t) (keys_from i k keys h is)

module _ {C : Type 0} where
  over_is : (r : Running C) (key : ℕ) (c : CallLine) (refused : Bool) (f : Answering) → Some c ≡ goodbye_in r.sessions key → refused ≡ is_refused (stepped f (at_work r.node.core) (Calls c)).records → (before : List Exchange) (noted : List Happened)
      → key_over key f (daemon_of r before noted) ≡ over_after key c refused (stepped_for (Some key) f (Calls c) (daemon_of r before noted))
  unfolding key_over stepped_for
  over_is r key c refused f some is before noted =
      let d : Daemon = daemon_of r before noted in
      let one : key_over key f d ≡ without_key key (key_called key c (stepped f d.core (Calls c)) d) = ap (λ (o : Option CallLine). without_key key (goodbye_said key o f d)) (sym some) in
      one ∙ ap (λ (x : Bool). over_after key c x (left_for (Some key) d (stepped f d.core (Calls c)))) (sym is)

  over_hands : (A : Known → List (Hosted C) → Audience → Type 0) (r s : Running C) (key : ℕ) (c : CallLine) (f : Answering) → Some c ≡ goodbye_in r.sessions key → Attends A A r s (λ d. StepHands f (Calls c) d.core)
      → Attends A A r s (λ d. LineHands (goodbye_in d.sessions key) f d.core)
  over_hands A r s key c f some h before noted z =
      let a : (v : Audience) × StepHands f (Calls c) (at_work r.node.core) z v × Passes A A r.node.clients s.node.clients z v = h before noted z in
      (a.0, subst (λ (o : Option CallLine). LineHands o f (at_work r.node.core) z a.0) some a.1, a.2)

  -- with a goodbye
  pub over_done : {A : Known → List (Hosted C) → Audience → Type 0} (r q p s : Running C) (key : ℕ) (c : CallLine) (refused : Bool) (t u : Telling) → Some c ≡ goodbye_in r.sessions key → CallSteps A (Some key) r q refused t u c
      → p ≡ with_sessions q (option_map (finished key c (not refused)) q.sessions) → s ≡ with_sessions p (option_map (session_ended key) p.sessions) → KeyEndsAs A r s t u key
  over_done {A = A} r q p s key c refused t u some h told gone = record {
    answers = h.answers;
    goes = goes_as r r s t u (key_over key h.answers) (λ d. over_after key c refused (stepped_for (Some key) h.answers (Calls c) d)) (over_is r key c refused h.answers some h.was)
        (goes_still r q s t u (stepped_for (Some key) h.answers (Calls c)) (over_after key c refused) h.goes
        (λ before noted. ap (λ (x : Running C). without_key key (daemon_of x before noted)) (sym told) ∙ ap (λ (x : Running C). daemon_of x before noted) (sym gone)));
    attends = over_hands A r s key c h.answers some (λ before noted z.
        let a : (v : Audience) × StepHands h.answers (Calls c) (at_work r.node.core) z v × Passes A A r.node.clients q.node.clients z v = h.attends before noted z in
        (a.0, a.1, λ known held. subst (λ (x : Running C). A known x.node.clients a.0) (sym gone) (subst (λ (x : Running C). A known x.node.clients a.0) (sym told) (a.2 known held))));
  }

  -- without one
  pub over_unsaid : {A : Known → List (Hosted C) → Audience → Type 0} (r s : Running C) (key : ℕ) (t : Telling) → None ≡ goodbye_in r.sessions key → s ≡ with_sessions r (option_map (session_ended key) r.sessions) → KeyEndsAs A r s t t key
  unfolding key_over
  over_unsaid {A = A} r s key t none gone = record {
    answers = silent;
    goes = goes_as r s s t t (key_over key silent) (λ d. d)
        (λ before noted. ap (λ (o : Option CallLine). without_key key (goodbye_said key o silent (daemon_of r before noted))) (sym none) ∙ ap (λ (x : Running C). daemon_of x before noted) (sym gone)) (goes_none s t);
    attends = λ before noted u. (u, subst (λ (o : Option CallLine). LineHands o silent (at_work r.node.core) u u) none refl, λ known held. subst (λ (x : Running C). A known x.node.clients u) (sym gone) held);
  }

  pub over_broke : (r : Running C) (key : ℕ) (c : CallLine) (t u : Telling) → Some c ≡ goodbye_in r.sessions key → StepBreaks (Some key) r t u (Calls c) → KeyEndBreaks r t u key
  over_broke r key c t u some h =
      let refused : Bool = is_refused (stepped h.answers (at_work r.node.core) (Calls c)).records in
      record {
        answers = h.answers;
        breaks = breaks_as r r t u (key_over key h.answers) (λ d. over_after key c refused (stepped_for (Some key) h.answers (Calls c) d)) (over_is r key c refused h.answers some refl)
            (breaks_more r t u (stepped_for (Some key) h.answers (Calls c)) (over_after key c refused) h.breaks (adds_step (Some key) h.answers (Calls c)) (over_adds key c refused));
      }

  -- after its step there was no memory
  pub over_late : {A : Known → List (Hosted C) → Audience → Type 0} (r q : Running C) (key : ℕ) (c : CallLine) (refused : Bool) (t u : Telling) → Some c ≡ goodbye_in r.sessions key → CallSteps A (Some key) r q refused t u c → KeyEndBreaks r t u key
  over_late r q key c refused t u some h = record {
    answers = h.answers;
    breaks = breaks_as r r t u (key_over key h.answers) (λ d. over_after key c refused (stepped_for (Some key) h.answers (Calls c) d)) (over_is r key c refused h.answers some h.was)
        (breaks_more r t u (stepped_for (Some key) h.answers (Calls c)) (over_after key c refused) (breaks_late r q t u (stepped_for (Some key) h.answers (Calls c)) h.goes) (adds_step (Some key) h.answers (Calls c)) (over_adds key c refused));
  }

  pub over_none : (r : Running C) (key : ℕ) (t : Telling) → KeyEndBreaks r t t key
  over_none r key t = record { answers = silent; breaks = breaks_none r t (key_over key silent) }

  pub over_fails : {A : Known → List (Hosted C) → Audience → Type 0} (r s : Running C) (key : ℕ) (c : CallLine) (t u : Telling) → Some c ≡ goodbye_in r.sessions key → StepFails A A (Some key) r s t u (Calls c) → KeyEndFails A r s t u key
  over_fails {A = A} r s key c t u some h =
      let refused : Bool = is_refused (stepped h.answers (at_work r.node.core) (Calls c)).records in
      record {
        answers = h.answers;
        fails = fails_as r r s t u (key_over key h.answers) (λ d. over_after key c refused (stepped_for (Some key) h.answers (Calls c) d)) (over_is r key c refused h.answers some refl)
            (fails_late r s t u (stepped_for (Some key) h.answers (Calls c)) (over_after key c refused) h.fails (adds_step (Some key) h.answers (Calls c)) (over_adds key c refused) (λ e. refl));
        attends = over_hands A r s key c h.answers some h.attends;
      }

  -- ---- as an act

  key_acts : {A : Known → List (Hosted C) → Audience → Type 0} (r s : Running C) (key : ℕ) (t u : Telling) → (h : KeyEndsAs A r s t u key) → Acts A A r s t u (actions.EndsKey key h.answers ∷ [])
  unfolding did_all did doings_of doings
  key_acts {A = A} r s key t u h = record {
    calls = h.goes.calls;
    records = h.goes.records;
    is = h.goes.is;
    done = step_doings h.goes.records h.goes.calls;
    are = λ before noted. append-nil _ ∙ since_comes r s (key_over key h.answers) h.goes.calls h.goes.records h.goes.is before noted;
    made = h.goes.made;
    attends = one_hands A A r s (actions.EndsKey key h.answers) h.attends;
  }

  key_break : (r : Running C) (key : ℕ) (t u : Telling) → (h : KeyEndBreaks r t u key) → ActsBreak r t u (actions.EndsKey key h.answers ∷ [])
  unfolding doings_of doings
  key_break r key t u h before noted = subst (MadeFront t u) (sym (append-nil (since (daemon_of r before noted) (key_over key h.answers (daemon_of r before noted))))) (h.breaks before noted)

  key_fail : {A : Known → List (Hosted C) → Audience → Type 0} (r s : Running C) (key : ℕ) (t u : Telling) → (h : KeyEndFails A r s t u key) → ActsFail A A r s t u (actions.EndsKey key h.answers ∷ [])
  unfolding did_all did doings_of doings
  key_fail {A = A} r s key t u h = record {
    core = h.fails.core;
    made = λ before noted. subst (WriteFails t u) (sym (append-nil (since (daemon_of r before noted) (key_over key h.answers (daemon_of r before noted))))) (h.fails.made before noted);
    attends = one_hands A A r s (actions.EndsKey key h.answers) h.attends;
  }

  -- ---- keys, one after another

  pub keys_begin : {A : Known → List (Hosted C) → Audience → Type 0} (r : Running C) (keys : List ℕ) (t : Telling) → KeysEnd A r r (take 0 keys) t t
  keys_begin r keys t = record { ends = []; are = no_keys keys; acts = acts_none r t }

  keys_on : {A : Known → List (Hosted C) → Audience → Type 0} (r s q : Running C) (k : ℕ) (keys : List ℕ) (t u v : Telling) → KeysEnd A r s keys t u → KeyEndsAs A s q u v k → KeysEnd A r q (keys ++ k ∷ []) t v
  keys_on {A = A} r s q k keys t u v p n = record {
    ends = p.ends ++ end_by k n.answers ∷ [];
    are = map-append (λ (e : KeyEnd). e.key) p.ends (end_by k n.answers ∷ []) ∙ ap (λ x. x ++ k ∷ []) p.are;
    acts = subst (Acts A A r q t v) (sym (map-append key_action p.ends (end_by k n.answers ∷ []))) (acts_on r s q t u v (map key_action p.ends) (actions.EndsKey k n.answers ∷ []) p.acts (key_acts s q k u v n));
  }

  pub keys_next : {A : Known → List (Hosted C) → Audience → Type 0} (r s q : Running C) (i k : ℕ) (keys : List ℕ) (t u v : Telling) → i < length keys → k ≡ get_or keys i 0 → KeysEnd A r s (take i keys) t u → KeyEndsAs A s q u v k
      → KeysEnd A r q (take (i + 1) keys) t v
  keys_next {A = A} r s q i k keys t u v h is p n = subst (λ (x : List ℕ). KeysEnd A r q x t v) (sym (keys_upto i k keys h is)) (keys_on r s q k (take i keys) t u v p n)

  pub keys_broke : {A : Known → List (Hosted C) → Audience → Type 0} (r s : Running C) (i k : ℕ) (keys : List ℕ) (t u v : Telling) → i < length keys → k ≡ get_or keys i 0 → KeysEnd A r s (take i keys) t u → KeyEndBreaks s u v k → KeysBreak r keys t v
  keys_broke r s i k keys t u v h is p n =
      let rest : List KeyEnd = silent_ends (drop (i + 1) keys) in
      let e : KeyEnd = end_by k n.answers in
      record {
        ends = p.ends ++ e ∷ rest;
        are = map-append (λ (x : KeyEnd). x.key) p.ends (e ∷ rest) ∙ (ap₂ (λ x y. x ++ k ∷ y) p.are (silent_ends_are (drop (i + 1) keys)) ∙ sym (keys_split i k keys h is));
        breaks = subst (ActsBreak r t v) (sym (map-append key_action p.ends (e ∷ rest)))
            (acts_break_on r s t u v (map key_action p.ends) (map key_action (e ∷ rest)) p.acts (acts_break_more s u v (actions.EndsKey k n.answers ∷ []) (map key_action rest) (key_break s k u v n)));
      }

  pub keys_fail : {A : Known → List (Hosted C) → Audience → Type 0} (r s q : Running C) (i k : ℕ) (keys : List ℕ) (t u v : Telling) → i < length keys → k ≡ get_or keys i 0 → KeysEnd A r s (take i keys) t u → KeyEndFails A s q u v k → KeysFail A r q keys t v
  keys_fail {A = A} r s q i k keys t u v h is p n =
      let e : KeyEnd = end_by k n.answers in
      record {
        ends = p.ends ++ e ∷ [];
        later = drop (i + 1) keys;
        are =
            ap (λ x. x ++ drop (i + 1) keys) (map-append (λ (x : KeyEnd). x.key) p.ends (e ∷ []) ∙ ap (λ x. x ++ k ∷ []) p.are)
            ∙ (append_assoc (take i keys) (k ∷ []) (drop (i + 1) keys) ∙ sym (keys_split i k keys h is));
        fails = subst (ActsFail A A r q t v) (sym (map-append key_action p.ends (e ∷ []))) (acts_fail_on r s q t u v (map key_action p.ends) (actions.EndsKey k n.answers ∷ []) p.acts (key_fail s q k u v n));
      }

  pub keys_all : {A : Known → List (Hosted C) → Audience → Type 0} (r s : Running C) (i : ℕ) (keys : List ℕ) (t u : Telling) → length keys ≤ i → KeysEnd A r s (take i keys) t u → KeysEnd A r s keys t u
  keys_all {A = A} r s i keys t u le p = subst (λ (x : List ℕ). KeysEnd A r s x t u) (all_taken i keys le) p

  -- ---- it mends

  mend_acts : {A : Known → List (Hosted C) → Audience → Type 0} (r s : Running C) (t u : Telling) → (h : StepsAs A A None r s t u (Asks (reach_of r.node.core.reach))) → Acts A A r s t u (actions.Mends h.answers ∷ [])
  unfolding did_all did doings_of doings mended
  mend_acts {A = A} r s t u h = record {
    calls = h.goes.calls;
    records = h.goes.records;
    is = h.goes.is;
    done = step_doings h.goes.records h.goes.calls;
    are = λ before noted. append-nil _ ∙ since_comes r s (stepped_by h.answers (Asks (reach_of r.node.core.reach))) h.goes.calls h.goes.records h.goes.is before noted;
    made = h.goes.made;
    attends = one_hands A A r s (actions.Mends h.answers) h.attends;
  }

  mend_break : (r : Running C) (t u : Telling) → (h : StepBreaks None r t u (Asks (reach_of r.node.core.reach))) → ActsBreak r t u (actions.Mends h.answers ∷ [])
  unfolding doings_of doings mended
  mend_break r t u h before noted =
      subst (MadeFront t u) (sym (append-nil (since (daemon_of r before noted) (stepped_by h.answers (Asks (reach_of r.node.core.reach)) (daemon_of r before noted))))) (h.breaks before noted)

  mend_fail : {A : Known → List (Hosted C) → Audience → Type 0} (r s : Running C) (t u : Telling) → (h : StepFails A A None r s t u (Asks (reach_of r.node.core.reach))) → ActsFail A A r s t u (actions.Mends h.answers ∷ [])
  unfolding did_all did doings_of doings mended
  mend_fail {A = A} r s t u h = record {
    core = h.fails.core;
    made = λ before noted.
        subst (WriteFails t u) (sym (append-nil (since (daemon_of r before noted) (stepped_by h.answers (Asks (reach_of r.node.core.reach)) (daemon_of r before noted))))) (h.fails.made before noted);
    attends = one_hands A A r s (actions.Mends h.answers) h.attends;
  }

  -- the order is for its own reach
  pub asked_done : {A : Known → List (Hosted C) → Audience → Type 0} (r s : Running C) (m k : Mask) (t u : Telling) → m ≡ k → StepsAs A A None r s t u (Asks m) → StepsAs A A None r s t u (Asks k)
  asked_done {A = A} r s m k t u is h = subst (λ (x : Mask). StepsAs A A None r s t u (Asks x)) is h

  pub asked_broke : (r : Running C) (m k : Mask) (t u : Telling) → m ≡ k → StepBreaks None r t u (Asks m) → StepBreaks None r t u (Asks k)
  asked_broke r m k t u is h = subst (λ (x : Mask). StepBreaks None r t u (Asks x)) is h

  pub asked_fails : {A : Known → List (Hosted C) → Audience → Type 0} (r s : Running C) (m k : Mask) (t u : Telling) → m ≡ k → StepFails A A None r s t u (Asks m) → StepFails A A None r s t u (Asks k)
  asked_fails {A = A} r s m k t u is h = subst (λ (x : Mask). StepFails A A None r s t u (Asks x)) is h

  -- ---- both

  -- the node as the keys have ended
  keys_core : {A : Known → List (Hosted C) → Audience → Type 0} (r s : Running C) (keys : List ℕ) (t u : Telling) (p : KeysEnd A r s keys t u) (before : List Exchange) (noted : List Happened) → (keys_over p.ends (daemon_of r before noted)).core ≡ at_work s.node.core
  keys_core r s keys t u p before noted = ap (λ (d : Daemon). d.core) (keys_done (daemon_of r before noted) p.ends ∙ p.acts.is before noted)

  -- it need not mend
  pub own_done : {A : Known → List (Hosted C) → Audience → Type 0} (o : Options) (ticks now : ℕ) (keys : List ℕ) (r s : Running C) (t u : Telling) → keys ≡ keys_due o.silence r.sessions → KeysEnd A r s keys t u → now ≡ apart_for o.mend ticks s.node.core → is_long_apart o.mend now ≡ false
      → OwnAs A o ticks now r s t u
  own_done {A = A} o ticks now keys r s t u due p is short =
      let same : apart_for o.mend ticks (at_work s.node.core) ≡ now = apart_work o.mend ticks s.node.core ∙ sym is in
      record {
        ends = p.ends;
        mends = None;
        due = p.are ∙ due;
        core = at_work s.node.core;
        core_is = keys_core r s keys t u p;
        long = sym (ap (is_long_apart o.mend) same ∙ short);
        left_is = sym same;
        acts = subst (Acts A A r s t u) (sym (append-nil (map key_action p.ends))) p.acts;
      }

  -- it mends
  pub own_mended : {A : Known → List (Hosted C) → Audience → Type 0} (o : Options) (ticks now : ℕ) (keys : List ℕ) (r q s : Running C) (t u v : Telling) → keys ≡ keys_due o.silence r.sessions → KeysEnd A r q keys t u → now ≡ apart_for o.mend ticks q.node.core → is_long_apart o.mend now ≡ true
      → StepsAs A A None q s u v (Asks (reach_of q.node.core.reach)) → OwnAs A o ticks 0 r s t v
  own_mended {A = A} o ticks now keys r q s t u v due p is long h =
      let same : apart_for o.mend ticks (at_work q.node.core) ≡ now = apart_work o.mend ticks q.node.core ∙ sym is in
      record {
        ends = p.ends;
        mends = Some h.answers;
        due = p.are ∙ due;
        core = at_work q.node.core;
        core_is = keys_core r q keys t u p;
        long = sym (ap (is_long_apart o.mend) same ∙ long);
        left_is = refl;
        acts = acts_on r q s t u v (map key_action p.ends) (actions.Mends h.answers ∷ []) p.acts (mend_acts q s u v h);
      }

  pub own_none : (o : Options) (ticks : ℕ) (r : Running C) (t : Telling) → OwnBreaks o ticks r t t
  own_none o ticks r t before noted =
      let own : OwnTurn o ticks (daemon_of r before noted) = own_whole o ticks (daemon_of r before noted) in
      record { own = own; made = none_made t (doings_of (daemon_of r before noted) (own_acts own.ends own.mends)) }

  pub own_broke : (o : Options) (ticks : ℕ) (keys : List ℕ) (r : Running C) (t u : Telling) → keys ≡ keys_due o.silence r.sessions → KeysBreak r keys t u → OwnBreaks o ticks r t u
  unfolding own_with
  own_broke o ticks keys r t u due p before noted =
      let own : OwnTurn o ticks (daemon_of r before noted) = own_with o ticks (daemon_of r before noted) p.ends (p.are ∙ due) in
      record { own = own; made = acts_break_more r t u (map key_action p.ends) (mend_actions own.mends) p.breaks before noted }

  pub own_unmended : {A : Known → List (Hosted C) → Audience → Type 0} (o : Options) (ticks now : ℕ) (keys : List ℕ) (r q : Running C) (t u v : Telling) → keys ≡ keys_due o.silence r.sessions → KeysEnd A r q keys t u → now ≡ apart_for o.mend ticks q.node.core → is_long_apart o.mend now ≡ true
      → StepBreaks None q u v (Asks (reach_of q.node.core.reach)) → OwnBreaks o ticks r t v
  own_unmended o ticks now keys r q t u v due p is long h before noted = record {
    own = record {
      ends = p.ends;
      mends = Some h.answers;
      due = p.are ∙ due;
      long = sym (ap (λ (s : Core). is_long_apart o.mend (apart_for o.mend ticks s)) (keys_core r q keys t u p before noted) ∙ (ap (is_long_apart o.mend) (apart_work o.mend ticks q.node.core ∙ sym is) ∙ long));
    };
    made = acts_break_on r q t u v (map key_action p.ends) (actions.Mends h.answers ∷ []) p.acts (mend_break q u v h) before noted;
  }

  pub own_fails : {A : Known → List (Hosted C) → Audience → Type 0} (o : Options) (ticks : ℕ) (keys : List ℕ) (r s : Running C) (t u : Telling) → keys ≡ keys_due o.silence r.sessions → KeysFail A r s keys t u → OwnFails A o ticks r s t u
  unfolding own_with
  own_fails o ticks keys r s t u due p = record {
    acts = map key_action p.ends;
    fails = p.fails;
    rest = λ before noted.
        let rest : List KeyEnd = silent_ends p.later in
        let own : OwnTurn o ticks (daemon_of r before noted) = own_with o ticks (daemon_of r before noted) (p.ends ++ rest)
        (map-append (λ (e : KeyEnd). e.key) p.ends rest ∙ (ap (λ x. keys_of p.ends ++ x) (silent_ends_are p.later) ∙ (p.are ∙ due))) in
        record {
          own = own;
          later = map key_action rest ++ mend_actions own.mends;
          are = sym (append_assoc (map key_action p.ends) (map key_action rest) (mend_actions own.mends)) ∙ ap (λ x. x ++ mend_actions own.mends) (sym (map-append key_action p.ends rest));
        };
  }

  pub own_fails_mending : {A : Known → List (Hosted C) → Audience → Type 0} (o : Options) (ticks now : ℕ) (keys : List ℕ) (r q s : Running C) (t u v : Telling) → keys ≡ keys_due o.silence r.sessions → KeysEnd A r q keys t u → now ≡ apart_for o.mend ticks q.node.core → is_long_apart o.mend now ≡ true
      → StepFails A A None q s u v (Asks (reach_of q.node.core.reach)) → OwnFails A o ticks r s t v
  own_fails_mending o ticks now keys r q s t u v due p is long h = record {
    acts = map key_action p.ends ++ actions.Mends h.answers ∷ [];
    fails = acts_fail_on r q s t u v (map key_action p.ends) (actions.Mends h.answers ∷ []) p.acts (mend_fail q s u v h);
    rest = λ before noted. record {
      own = record {
        ends = p.ends;
        mends = Some h.answers;
        due = p.are ∙ due;
        long = sym (ap (λ (s : Core). is_long_apart o.mend (apart_for o.mend ticks s)) (keys_core r q keys t u p before noted) ∙ (ap (is_long_apart o.mend) (apart_work o.mend ticks q.node.core ∙ sym is) ∙ long));
      };
      later = [];
      are = append-nil (map key_action p.ends ++ actions.Mends h.answers ∷ []);
    };
  }
