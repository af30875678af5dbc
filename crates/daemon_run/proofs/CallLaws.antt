-- The calls of the settings, one after the other, and how a daemon begins.
use Rattle.std.proofs.Common.{◌≡◌, ℕ, ◌+◌, ◌<◌, ◌≤◌, List, [], ◌∷◌, ◌++◌, map, length, take, drop, get_or, None, refl, sym, ◌∙◌, ap, ap₂, subst, append_assoc, append-nil, add-one}
use Rattle.std.proofs.Math.Seq.{take-suc}
use Rattle.std.proofs.lemmas.List.{map-append, take-append-drop}
use Rattle.std.proofs.lemmas.Grind.{flat_map-append}
use Rattle.hags_io.specs.Telling.{Telling}
use Rattle.link_use.proofs.SendLaws.{next_item}
use Rattle.node_state.specs.declared.call.CallLine.{CallLine}
use Rattle.node_state.specs.declared.config.Config.{Config}
use Rattle.node_state.specs.Step.{Calls, at_work}
use Rattle.node_core.specs.Node.{NodeView}
use Rattle.world_model.specs.declared.script.Line.{Line}
use Rattle.world_model.specs.declared.script.Script.{Script}
use Rattle.daemon_model.specs.declared.options.Service.{Service}
use Rattle.daemon_model.specs.Daemon.{Daemon, Opening, left_for, fresh, begun_for, stepped_by, opened, own_call, own_calls}
use Rattle.daemon_model.specs.Actions.{Opens, did, did_all}
use Rattle.daemon_model.specs.Doings.{since, step_doings, doings, doings_of, Made, MadeFront}
use Rattle.daemon_model.proofs.AddLaws.{since_is}
use Rattle.daemon_model.proofs.MadeLaws.{made_on, none_made, made_front_on, made_front_more}
use Rattle.daemon_run.specs.Hosting.{Known}
use Rattle.daemon_run.specs.declared.hosted.Hosted.{Hosted}
use Rattle.daemon_run.specs.declared.running.Running.{Running}
use Rattle.daemon_run.specs.Audience.{Audience, ActionsHand}
use Rattle.daemon_run.specs.Doing.{daemon_of, Passes, Attends, Acts, ActsBreak, WriteFails, ActsFail, left_doings, Settles, SettleFails, StepsAs, StepBreaks, StepFails}
use Rattle.daemon_run.specs.Calling.{calls_in, CallsAs, CallsBreak, CallsFail, fresh_running, opening_doings, BeginsWith, BeginsAs, BeginBreaks, BeginFails}
use Rattle.daemon_run.proofs.WriteLaws.{all_taken}
use Rattle.daemon_run.proofs.FailLaws.{fails_on}
use Rattle.daemon_run.proofs.GoesLaws.{since_comes, one_hands, acts_none, acts_on, acts_break_on, acts_break_more, acts_fail_on}
use Rattle.daemon_run.proofs.StepLaws.{silent, settled_is}

-- ---- lists

own_append : (me : ℕ) (ls ks : List Line) → own_calls me (ls ++ ks) ≡ own_calls me ls ++ own_calls me ks
unfolding own_calls
own_append me ls ks = flat_map-append (own_call me) ls ks

own_one : (me : ℕ) (l : Line) → own_calls me (l ∷ []) ≡ own_call me l
unfolding own_calls
own_one me l = append-nil (own_call me l)

own_next : (me i : ℕ) (l : Line) (ls : List Line) → i < length ls → l ≡ get_or ls i l → own_calls me (take (i + 1) ls) ≡ own_calls me (take i ls) ++ own_call me l
own_next me i l ls h is =
    let at : take (i + 1) ls ≡ take i ls ++ l ∷ [] = rw add-one (take-suc ls i l h ∙ ap (λ x. take i ls ++ x ∷ []) (sym is)) in
    ap (own_calls me) at ∙ (own_append me (take i ls) (l ∷ []) ∙ ap (λ t. own_calls me (take i ls) ++ t) (own_one me l))

own_split : (me i : ℕ) (l : Line) (ls : List Line) → i < length ls → l ≡ get_or ls i l → own_calls me ls ≡ own_calls me (take i ls) ++ (own_call me l ++ own_calls me (drop (i + 1) ls))
own_split me i l ls h is =
    ap (own_calls me) (sym (take-append-drop i ls) ∙ ap (λ t. take i ls ++ t) (next_item i l ls h is))
    ∙ (own_append me (take i ls) (l ∷ drop (i + 1) ls) ∙ ap (λ t. own_calls me (take i ls) ++ t) (own_append me (l ∷ []) (drop (i + 1) ls) ∙ ap (λ t. t ++ own_calls me (drop (i + 1) ls)) (own_one me l)))

no_lines : (me : ℕ) (ls : List Line) → own_calls me (take 0 ls) ≡ []
unfolding own_calls
no_lines me [] = refl
no_lines me (l ∷ ls) = refl

-- calls at which nobody answers
pub unanswered : List CallLine → List Opening
unanswered cs = map (λ c. record { call = c; answers = silent }) cs

pub unanswered_are : (cs : List CallLine) → calls_in (unanswered cs) ≡ cs
unfolding unanswered
unanswered_are [] = refl
unanswered_are (c ∷ cs) = ap (λ t. c ∷ t) (unanswered_are cs)

begun_since : (C : Type 0) (service : Service) (c : Config) (me inc moment : ℕ) → since (fresh service c me inc moment) (begun_for service c me inc moment) ≡ left_doings (fresh_running {C = C} service c me inc moment)
unfolding begun_for left_for
begun_since C service c me inc moment = since_is (fresh service c me inc moment) (begun_for service c me inc moment) _ _ refl refl

module _ {C : Type 0} where
  -- ---- one call

  pub call_done : {A B : Known → List (Hosted C) → Audience → Type 0} (r s : Running C) (c : CallLine) (own : List CallLine) (t u : Telling) → own ≡ c ∷ [] → StepsAs A B None r s t u (Calls c) → CallsAs A B r s own t u
  unfolding did_all did doings_of doings opened
  call_done {A = A} {B = B} r s c own t u is h = record {
    opening = record { call = c; answers = h.answers } ∷ [];
    are = sym is;
    acts = record {
      calls = h.goes.calls;
      records = h.goes.records;
      is = h.goes.is;
      done = step_doings h.goes.records h.goes.calls;
      are = λ before noted. append-nil _ ∙ since_comes r s (stepped_by h.answers (Calls c)) h.goes.calls h.goes.records h.goes.is before noted;
      made = h.goes.made;
      attends = one_hands A B r s (Opens (record { call = c; answers = h.answers })) h.attends;
    };
  }

  pub call_broke : (r : Running C) (c : CallLine) (own : List CallLine) (t u : Telling) → own ≡ c ∷ [] → StepBreaks None r t u (Calls c) → CallsBreak r own t u
  unfolding doings_of doings opened
  call_broke r c own t u is h = record {
    opening = record { call = c; answers = h.answers } ∷ [];
    are = sym is;
    breaks = λ before noted. subst (MadeFront t u) (sym (append-nil (since (daemon_of r before noted) (stepped_by h.answers (Calls c) (daemon_of r before noted))))) (h.breaks before noted);
  }

  pub call_fails : {A B : Known → List (Hosted C) → Audience → Type 0} (r s : Running C) (c : CallLine) (own : List CallLine) (t u : Telling) → own ≡ c ∷ [] → StepFails A B None r s t u (Calls c) → CallsFail A B r s own t u
  unfolding did_all did doings_of doings opened
  call_fails {A = A} {B = B} r s c own t u is h = record {
    opening = record { call = c; answers = h.answers } ∷ [];
    later = [];
    are = sym is;
    fails = record {
      core = h.fails.core;
      made = λ before noted. subst (WriteFails t u) (sym (append-nil (since (daemon_of r before noted) (stepped_by h.answers (Calls c) (daemon_of r before noted))))) (h.fails.made before noted);
      attends = one_hands A B r s (Opens (record { call = c; answers = h.answers })) h.attends;
    };
  }

  pub call_none : {A : Known → List (Hosted C) → Audience → Type 0} (r : Running C) (own : List CallLine) (t : Telling) → own ≡ [] → CallsAs A A r r own t t
  call_none r own t is = record { opening = []; are = sym is; acts = acts_none r t }

  -- ---- lines

  pub lines_begin : {A : Known → List (Hosted C) → Audience → Type 0} (r : Running C) (me : ℕ) (ls : List Line) (t : Telling) → CallsAs A A r r (own_calls me (take 0 ls)) t t
  lines_begin r me ls t = call_none r (own_calls me (take 0 ls)) t (no_lines me ls)

  calls_on : {A B D : Known → List (Hosted C) → Audience → Type 0} (r s q : Running C) (cs es : List CallLine) (t u v : Telling) → CallsAs A B r s cs t u → CallsAs B D s q es u v → CallsAs A D r q (cs ++ es) t v
  calls_on {A = A} {D = D} r s q cs es t u v p n = record {
    opening = p.opening ++ n.opening;
    are = map-append (λ (o : Opening). o.call) p.opening n.opening ∙ ap₂ (λ x y. x ++ y) p.are n.are;
    acts = subst (Acts A D r q t v) (sym (map-append Opens p.opening n.opening)) (acts_on r s q t u v (map Opens p.opening) (map Opens n.opening) p.acts n.acts);
  }

  pub lines_next : {A B D : Known → List (Hosted C) → Audience → Type 0} (r s q : Running C) (me m i : ℕ) (l : Line) (ls : List Line) (t u v : Telling) → i < length ls → l ≡ get_or ls i l → m ≡ me
      → CallsAs A B r s (own_calls me (take i ls)) t u → CallsAs B D s q (own_call m l) u v → CallsAs A D r q (own_calls me (take (i + 1) ls)) t v
  lines_next {A = A} {D = D} r s q me m i l ls t u v h is same p n =
      subst (λ cs. CallsAs A D r q cs t v) (sym (own_next me i l ls h is ∙ ap (λ k. own_calls me (take i ls) ++ own_call k l) (sym same))) (calls_on r s q _ _ t u v p n)

  pub lines_broke : {A B : Known → List (Hosted C) → Audience → Type 0} (r s : Running C) (me m i : ℕ) (l : Line) (ls : List Line) (t u v : Telling) → i < length ls → l ≡ get_or ls i l → m ≡ me
      → CallsAs A B r s (own_calls me (take i ls)) t u → CallsBreak s (own_call m l) u v → CallsBreak r (own_calls me ls) t v
  lines_broke r s me m i l ls t u v h is same p n =
      let rest : List Opening = unanswered (own_calls me (drop (i + 1) ls)) in
      record {
        opening = p.opening ++ (n.opening ++ rest);
        are =
            map-append (λ (o : Opening). o.call) p.opening (n.opening ++ rest)
            ∙ (ap₂ (λ x y. x ++ y) p.are (map-append (λ (o : Opening). o.call) n.opening rest ∙ ap₂ (λ x y. x ++ y) (n.are ∙ ap (λ k. own_call k l) same) (unanswered_are (own_calls me (drop (i + 1) ls))))
            ∙ sym (own_split me i l ls h is));
        breaks = subst (ActsBreak r t v) (sym (map-append Opens p.opening (n.opening ++ rest) ∙ ap (λ x. map Opens p.opening ++ x) (map-append Opens n.opening rest)))
            (acts_break_on r s t u v (map Opens p.opening) (map Opens n.opening ++ map Opens rest) p.acts (acts_break_more s u v (map Opens n.opening) (map Opens rest) n.breaks));
      }

  pub lines_fail : {A B D : Known → List (Hosted C) → Audience → Type 0} (r s q : Running C) (me m i : ℕ) (l : Line) (ls : List Line) (t u v : Telling) → i < length ls → l ≡ get_or ls i l → m ≡ me
      → CallsAs A B r s (own_calls me (take i ls)) t u → CallsFail B D s q (own_call m l) u v → CallsFail A D r q (own_calls me ls) t v
  lines_fail {A = A} {D = D} r s q me m i l ls t u v h is same p n =
      let rest : List CallLine = own_calls me (drop (i + 1) ls) in
      record {
        opening = p.opening ++ n.opening;
        later = n.later ++ rest;
        are =
            ap (λ x. x ++ (n.later ++ rest)) (map-append (λ (o : Opening). o.call) p.opening n.opening)
            ∙ (append_assoc (calls_in p.opening) (calls_in n.opening) (n.later ++ rest)
            ∙ (ap₂ (λ x y. x ++ y) p.are (sym (append_assoc (calls_in n.opening) n.later rest) ∙ ap (λ x. x ++ rest) (n.are ∙ ap (λ k. own_call k l) same)) ∙ sym (own_split me i l ls h is)));
        fails = subst (ActsFail A D r q t v) (sym (map-append Opens p.opening n.opening)) (acts_fail_on r s q t u v (map Opens p.opening) (map Opens n.opening) p.acts n.fails);
      }

  pub lines_all : {A B : Known → List (Hosted C) → Audience → Type 0} (r s : Running C) (me i : ℕ) (ls : List Line) (t u : Telling) → length ls ≤ i → CallsAs A B r s (own_calls me (take i ls)) t u → CallsAs A B r s (own_calls me ls) t u
  lines_all {A = A} {B = B} r s me i ls t u le p = subst (λ ks. CallsAs A B r s (own_calls me ks) t u) (all_taken i ls le) p

  -- ---- from the start on

  -- the daemon that begins is the one whose node has just started, as it is once that is settled
  begun_is : (service : Service) (c : Config) (me inc moment : ℕ) (s : Running C) (t u : Telling) → Settles None (fresh_running service c me inc moment) s t u
      → begun_for service c me inc moment ≡ daemon_of s (begun_for service c me inc moment).calls (begun_for service c me inc moment).records
  unfolding begun_for left_for
  begun_is service c me inc moment s t u h = settled_is None (fresh_running service c me inc moment) s t u h [] []

  -- what the calls hand, from no clients on
  begins_with : (A B : Known → List (Hosted C) → Audience → Type 0) (service : Service) (c : Config) (me inc moment : ℕ) (s q : Running C) (t u : Telling) → Settles None (fresh_running service c me inc moment) s t u → (os : List Opening)
      → Attends A B s q (λ d. ActionsHand d (map Opens os)) → BeginsWith A B service c me inc moment q os
  begins_with A B service c me inc moment s q t u h os k z =
      let d : Daemon = begun_for service c me inc moment in
      let a : (y : Audience) × ActionsHand (daemon_of s d.calls d.records) (map Opens os) z y × Passes A B s.node.clients q.node.clients z y = k d.calls d.records z in (
        a.0,
        subst (λ (e : Daemon). ActionsHand e (map Opens os) z a.0) (sym (begun_is service c me inc moment s t u h)) a.1,
        λ known held. a.2 known (subst (λ (r : Running C). A known r.node.clients z) (sym h.is) held),
      )

  -- ---- it begins

  pub begins_done : {A B : Known → List (Hosted C) → Audience → Type 0} (service : Service) (script : Script) (me inc moment : ℕ) (s q : Running C) (t u v : Telling) → Settles None (fresh_running service script.config me inc moment) s t u → CallsAs A B s q (own_calls me script.lines) u v
      → BeginsAs A B service script me inc moment q t v
  begins_done {A = A} {B = B} service script me inc moment s q t u v h n =
      let d : Daemon = begun_for service script.config me inc moment in
      let is : d ≡ daemon_of s d.calls d.records = begun_is service script.config me inc moment s t u h in
      let after : did_all d (map Opens n.opening) ≡ daemon_of q (d.calls ++ n.acts.calls) (d.records ++ n.acts.records) = ap (λ (e : Daemon). did_all e (map Opens n.opening)) is ∙ n.acts.is d.calls d.records in
      record {
        opening = n.opening;
        are = n.are;
        is = after ∙ ap₂ (daemon_of q) (sym (ap (λ (e : Daemon). e.calls) after)) (sym (ap (λ (e : Daemon). e.records) after));
        made = subst (Made t v)
            (ap₂ (λ x y. x ++ y) (sym (begun_since C service script.config me inc moment)) (sym (ap (λ (e : Daemon). doings_of e (map Opens n.opening)) is ∙ n.acts.are d.calls d.records)))
            (made_on t u v (left_doings (fresh_running {C = C} service script.config me inc moment)) n.acts.done h.made n.acts.made);
        attends = begins_with A B service script.config me inc moment s q t u h n.opening n.acts.attends;
      }

  pub begins_broke : (service : Service) (script : Script) (me inc moment : ℕ) (s : Running C) (t u v : Telling) → Settles None (fresh_running service script.config me inc moment) s t u → CallsBreak s (own_calls me script.lines) u v
      → BeginBreaks service script me inc moment t v
  begins_broke service script me inc moment s t u v h n =
      let d : Daemon = begun_for service script.config me inc moment in
      let is : d ≡ daemon_of s d.calls d.records = begun_is service script.config me inc moment s t u h in
      record {
        opening = n.opening;
        are = n.are;
        made = subst (MadeFront t v) (ap₂ (λ x y. x ++ y) (sym (begun_since C service script.config me inc moment)) (sym (ap (λ (e : Daemon). doings_of e (map Opens n.opening)) is)))
            (made_front_on t u v (left_doings (fresh_running {C = C} service script.config me inc moment)) (doings_of (daemon_of s d.calls d.records) (map Opens n.opening)) h.made (n.breaks d.calls d.records));
      }

  -- a write of the calls failed
  pub begins_fail : {A B : Known → List (Hosted C) → Audience → Type 0} (service : Service) (script : Script) (me inc moment : ℕ) (s q : Running C) (t u v : Telling) → Settles None (fresh_running service script.config me inc moment) s t u → CallsFail A B s q (own_calls me script.lines) u v
      → BeginFails A B service script me inc moment q t v
  begins_fail {A = A} {B = B} service script me inc moment s q t u v h n =
      let d : Daemon = begun_for service script.config me inc moment in
      let is : d ≡ daemon_of s d.calls d.records = begun_is service script.config me inc moment s t u h in
      record {
        opening = n.opening;
        later = n.later;
        are = n.are;
        core = ap (λ (e : Daemon). (did_all e (map Opens n.opening)).core) is ∙ n.fails.core d.calls d.records;
        made = subst (WriteFails t v) (ap₂ (λ x y. x ++ y) (sym (begun_since C service script.config me inc moment)) (sym (ap (λ (e : Daemon). doings_of e (map Opens n.opening)) is)))
            (fails_on t u v (left_doings (fresh_running {C = C} service script.config me inc moment)) (doings_of (daemon_of s d.calls d.records) (map Opens n.opening)) h.made (n.fails.made d.calls d.records));
        attends = begins_with A B service script.config me inc moment s q t u h n.opening n.fails.attends;
      }

  -- that of what the start records failed
  pub begins_fail_at_start : {A : Known → List (Hosted C) → Audience → Type 0} (service : Service) (script : Script) (me inc moment : ℕ) (s : Running C) (t u : Telling) → SettleFails (fresh_running service script.config me inc moment) s t u → BeginFails A A service script me inc moment s t u
  unfolding did_all doings_of begun_for left_for
  begins_fail_at_start {A = A} service script me inc moment s t u h = record {
    opening = [];
    later = own_calls me script.lines;
    are = refl;
    core = sym (ap (λ (n : NodeView (Hosted C)). at_work n.core) h.node);
    made = subst (WriteFails t u) (sym (append-nil _ ∙ begun_since C service script.config me inc moment)) h.made;
    attends = λ z. (z, refl, λ known held. subst (λ (n : NodeView (Hosted C)). A known n.clients z) (sym h.node) held);
  }

-- ---- it breaks off at once

pub begins_none : (service : Service) (script : Script) (me inc moment : ℕ) (t : Telling) → BeginBreaks service script me inc moment t t
begins_none service script me inc moment t =
    let os : List Opening = unanswered (own_calls me script.lines) in
    record { opening = os; are = unanswered_are (own_calls me script.lines); made = none_made t (opening_doings service script.config me inc moment os) }

-- what the start records broke off
pub begins_stopped : (C : Type 0) (service : Service) (script : Script) (me inc moment : ℕ) (t u : Telling) → MadeFront t u (left_doings (fresh_running {C = C} service script.config me inc moment)) → BeginBreaks service script me inc moment t u
begins_stopped C service script me inc moment t u h =
    let os : List Opening = unanswered (own_calls me script.lines) in
    let d : Daemon = begun_for service script.config me inc moment in
    record {
      opening = os;
      are = unanswered_are (own_calls me script.lines);
      made = made_front_more t u (since (fresh service script.config me inc moment) d) (doings_of d (map Opens os)) (subst (MadeFront t u) (sym (begun_since C service script.config me inc moment)) h);
    }
