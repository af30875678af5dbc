-- Parts of a daemon's run, one after the other.
use Rattle.std.proofs.Common.{◌≡◌, List, [], ◌∷◌, ◌++◌, map, refl, sym, ◌∙◌, ap, ap₂, subst, append_assoc, append-nil}
use Rattle.std.proofs.lemmas.List.{map-append}
use Rattle.hags_io.specs.Telling.{Telling}
use Rattle.node_state.specs.declared.happened.Happened.{Happened}
use Rattle.daemon_model.specs.Sent.{Exchange}
use Rattle.daemon_model.specs.Daemon.{Daemon}
use Rattle.daemon_model.specs.Actions.{Action, did, did_all}
use Rattle.daemon_model.specs.Doings.{Exchanges, writes, step_doings, since, doings_of, Made, MadeFront}
use Rattle.daemon_model.proofs.AddLaws.{Adds, since_is, doings_append}
use Rattle.daemon_model.proofs.ActionLaws.{did_append}
use Rattle.daemon_model.proofs.MadeLaws.{made_nothing, made_on, all_made, none_made, made_front_on, made_front_more}
use Rattle.daemon_run.specs.Hosting.{Known}
use Rattle.daemon_run.specs.declared.hosted.Hosted.{Hosted}
use Rattle.daemon_run.specs.declared.running.Running.{Running}
use Rattle.daemon_run.specs.Audience.{Audience, ActionHands, ActionsHand}
use Rattle.daemon_run.specs.Doing.{daemon_of, Comes, Goes, Breaks, Acts, ActsBreak, Passes, Attends, WriteFails, Fails, ActsFail}
use Rattle.daemon_run.proofs.FailLaws.{fails_on, fails_more}

-- more packets of a step go out
step_more : (records : List Happened) (calls more : List Exchange) → step_doings records calls ++ map Exchanges more ≡ step_doings records (calls ++ more)
step_more records calls more = append_assoc (writes records) (map Exchanges calls) (map Exchanges more) ∙ ap (λ t. writes records ++ t) (sym (map-append Exchanges calls more))

-- what adds packets alone
pub record AddsCalls (d e : Daemon) : Type 0 where
  pub calls : List Exchange
  pub called : e.calls ≡ d.calls ++ calls
  pub recorded : e.records ≡ d.records

since_more : (d e f : Daemon) → Adds d e → (m : AddsCalls e f) → since d f ≡ since d e ++ map Exchanges m.calls
since_more d e f a m =
    let calls : f.calls ≡ d.calls ++ (a.calls ++ m.calls) = m.called ∙ (ap (λ x. x ++ m.calls) a.called ∙ append_assoc d.calls a.calls m.calls) in
    let records : f.records ≡ d.records ++ a.records = m.recorded ∙ a.recorded in
    let first : since d e ≡ step_doings a.records a.calls = since_is d e a.calls a.records a.called a.recorded in
    since_is d f (a.calls ++ m.calls) a.records calls records ∙ (sym (step_more a.records a.calls m.calls) ∙ ap (λ x. x ++ map Exchanges m.calls) (sym first))

-- what acts hand, and more acts
pub hands_append : (d : Daemon) (acts more : List Action) (u v w : Audience) → ActionsHand d acts u v → ActionsHand (did_all d acts) more v w → ActionsHand d (acts ++ more) u w
unfolding did_all
hands_append d [] more u v w h k = subst (λ (x : Audience). ActionsHand d more x w) h k
hands_append d (a ∷ acts) more u v w h k = (h.0, h.1, hands_append (did d a) acts more h.0 v w h.2 k)

module _ {C : Type 0} where
  pub comes_on : (r s t : Running C) (f g : Daemon → Daemon) (cs ds : List Exchange) (rs qs : List Happened) → Comes r s f cs rs → Comes s t g ds qs → Comes r t (λ d. g (f d)) (cs ++ ds) (rs ++ qs)
  comes_on r s t f g cs ds rs qs p q before noted = ap g (p before noted) ∙ (q (before ++ cs) (noted ++ rs) ∙ ap₂ (daemon_of t) (append_assoc before cs ds) (append_assoc noted rs qs))

  -- ---- in one step

  pub goes_none : (r : Running C) (t : Telling) → Goes r r t t (λ d. d)
  goes_none r t = record { calls = []; records = []; is = λ before noted. ap₂ (daemon_of r) (sym (append-nil before)) (sym (append-nil noted)); made = made_nothing t }

  -- the same thing said otherwise
  pub goes_as : (r q s : Running C) (t u : Telling) (f g : Daemon → Daemon) → ((before : List Exchange) (noted : List Happened) → f (daemon_of r before noted) ≡ g (daemon_of q before noted)) → Goes q s t u g → Goes r s t u f
  goes_as r q s t u f g same p = record { calls = p.calls; records = p.records; is = λ before noted. same before noted ∙ p.is before noted; made = p.made }

  -- and then nothing more is done, whatever changes
  pub goes_still : (r q s : Running C) (t u : Telling) (f g : Daemon → Daemon) → Goes r q t u f → ((before : List Exchange) (noted : List Happened) → g (daemon_of q before noted) ≡ daemon_of s before noted) → Goes r s t u (λ d. g (f d))
  goes_still r q s t u f g p same = record { calls = p.calls; records = p.records; is = λ before noted. ap g (p.is before noted) ∙ same (before ++ p.calls) (noted ++ p.records); made = p.made }

  -- and then more packets go out
  pub goes_more : (r q s : Running C) (t u v : Telling) (f g : Daemon → Daemon) (more : List Exchange) → Goes r q t u f → Comes q s g more [] → Made u v (map Exchanges more) → Goes r s t v (λ d. g (f d))
  goes_more r q s t u v f g more p next made = record {
    calls = p.calls ++ more;
    records = p.records;
    is = λ before noted. comes_on r q s f g p.calls more p.records [] p.is next before noted ∙ ap (daemon_of s (before ++ (p.calls ++ more))) (ap (λ x. noted ++ x) (append-nil p.records));
    made = subst (Made t v) (step_more p.records p.calls more) (made_on t u v (step_doings p.records p.calls) (map Exchanges more) p.made made);
  }

  -- what is since then
  pub since_comes : (r s : Running C) (f : Daemon → Daemon) (calls : List Exchange) (records : List Happened) → Comes r s f calls records → (before : List Exchange) (noted : List Happened) → since (daemon_of r before noted) (f (daemon_of r before noted)) ≡ step_doings records calls
  since_comes r s f calls records is before noted =
      since_is (daemon_of r before noted) (f (daemon_of r before noted)) calls records (ap (λ (d : Daemon). d.calls) (is before noted)) (ap (λ (d : Daemon). d.records) (is before noted))

  -- ---- a step that broke off

  pub breaks_none : (r : Running C) (t : Telling) (f : Daemon → Daemon) → Breaks r t t f
  breaks_none r t f before noted = none_made t (since (daemon_of r before noted) (f (daemon_of r before noted)))

  -- another that stands alike with what it did
  pub breaks_as : (r q : Running C) (t u : Telling) (f g : Daemon → Daemon) → ((before : List Exchange) (noted : List Happened) → f (daemon_of r before noted) ≡ g (daemon_of q before noted)) → Breaks q t u g → Breaks r t u f
  unfolding since
  breaks_as r q t u f g same p before noted = subst (λ (d : Daemon). MadeFront t u (since (daemon_of q before noted) d)) (sym (same before noted)) (p before noted)

  -- it broke off where all was done
  pub breaks_late : (r s : Running C) (t u : Telling) (f : Daemon → Daemon) → Goes r s t u f → Breaks r t u f
  breaks_late r s t u f p before noted = subst (MadeFront t u) (sym (since_comes r s f p.calls p.records p.is before noted)) (all_made t u (step_doings p.records p.calls) p.made)

  -- it broke off as more packets went out
  pub breaks_on : (r q : Running C) (t u v : Telling) (f g : Daemon → Daemon) (more : List Exchange) → Goes r q t u f
      → ((before : List Exchange) (noted : List Happened) → (g (daemon_of q before noted)).calls ≡ before ++ more) → ((before : List Exchange) (noted : List Happened) → (g (daemon_of q before noted)).records ≡ noted)
      → MadeFront u v (map Exchanges more) → Breaks r t v (λ d. g (f d))
  breaks_on r q t u v f g more p called recorded made before noted =
      let d : Daemon = daemon_of r before noted in
      let calls : (g (f d)).calls ≡ before ++ (p.calls ++ more) = ap (λ (e : Daemon). (g e).calls) (p.is before noted) ∙ (called (before ++ p.calls) (noted ++ p.records) ∙ append_assoc before p.calls more) in
      let records : (g (f d)).records ≡ noted ++ p.records = ap (λ (e : Daemon). (g e).records) (p.is before noted) ∙ recorded (before ++ p.calls) (noted ++ p.records) in
      subst (MadeFront t v) (step_more p.records p.calls more ∙ sym (since_is d (g (f d)) (p.calls ++ more) p.records calls records))
      (made_front_on t u v (step_doings p.records p.calls) (map Exchanges more) p.made made)

  -- it broke off before more packets went out
  pub breaks_more : (r : Running C) (t u : Telling) (f g : Daemon → Daemon) → Breaks r t u f → ((d : Daemon) → Adds d (f d)) → ((e : Daemon) → AddsCalls e (g e)) → Breaks r t u (λ d. g (f d))
  breaks_more r t u f g p adds more before noted =
      let d : Daemon = daemon_of r before noted in
      subst (MadeFront t u) (sym (since_more d (f d) (g (f d)) (adds d) (more (f d)))) (made_front_more t u (since d (f d)) (map Exchanges (more (f d)).calls) (p before noted))

  -- ---- a write in it that failed

  -- by another that stands alike with what it did
  pub fails_as : (r q s : Running C) (t u : Telling) (f g : Daemon → Daemon) → ((before : List Exchange) (noted : List Happened) → f (daemon_of r before noted) ≡ g (daemon_of q before noted)) → Fails q s t u g → Fails r s t u f
  unfolding since
  fails_as r q s t u f g same p = record {
    core = λ before noted. ap (λ (d : Daemon). d.core) (same before noted) ∙ p.core before noted;
    made = λ before noted. subst (λ (d : Daemon). WriteFails t u (since (daemon_of q before noted) d)) (sym (same before noted)) (p.made before noted);
  }

  -- before more packets were to go out
  pub fails_late : (r s : Running C) (t u : Telling) (f g : Daemon → Daemon) → Fails r s t u f → ((d : Daemon) → Adds d (f d)) → ((e : Daemon) → AddsCalls e (g e)) → ((e : Daemon) → (g e).core ≡ e.core) → Fails r s t u (λ d. g (f d))
  fails_late r s t u f g p adds more same = record {
    core = λ before noted. same (f (daemon_of r before noted)) ∙ p.core before noted;
    made = λ before noted.
        subst (WriteFails t u) (sym (since_more (daemon_of r before noted) (f (daemon_of r before noted)) (g (f (daemon_of r before noted))) (adds (daemon_of r before noted)) (more (f (daemon_of r before noted)))))
        (fails_more t u (since (daemon_of r before noted) (f (daemon_of r before noted))) (more (f (daemon_of r before noted))).calls (p.made before noted));
  }

  -- ---- acts

  pub acts_none : {A : Known → List (Hosted C) → Audience → Type 0} (r : Running C) (t : Telling) → Acts A A r r t t []
  unfolding did_all doings_of
  acts_none r t = record {
    calls = [];
    records = [];
    is = λ before noted. ap₂ (daemon_of r) (sym (append-nil before)) (sym (append-nil noted));
    done = [];
    are = λ before noted. refl;
    made = made_nothing t;
    attends = λ before noted x. (x, refl, λ known held. held);
  }

  -- what one act hands
  pub one_hands : (A B : Known → List (Hosted C) → Audience → Type 0) (r s : Running C) (a : Action) → Attends A B r s (λ d. ActionHands d a) → Attends A B r s (λ d. ActionsHand d (a ∷ []))
  one_hands A B r s a h before noted x =
      let one : (y : Audience) × ActionHands (daemon_of r before noted) a x y × Passes A B r.node.clients s.node.clients x y = h before noted x in
      (one.0, (one.0, one.1, refl), one.2)

  -- what acts hand, and more acts
  acts_hand : (A B D : Known → List (Hosted C) → Audience → Type 0) (r s q : Running C) (acts more : List Action) (cs : List Exchange) (rs : List Happened) → Comes r s (λ d. did_all d acts) cs rs
      → Attends A B r s (λ d. ActionsHand d acts) → Attends B D s q (λ d. ActionsHand d more) → Attends A D r q (λ d. ActionsHand d (acts ++ more))
  acts_hand A B D r s q acts more cs rs is h k before noted u =
      let one : (v : Audience) × ActionsHand (daemon_of r before noted) acts u v × Passes A B r.node.clients s.node.clients u v = h before noted u in
      let next : (w : Audience) × ActionsHand (daemon_of s (before ++ cs) (noted ++ rs)) more one.0 w × Passes B D s.node.clients q.node.clients one.0 w = k (before ++ cs) (noted ++ rs) one.0 in (
        next.0,
        hands_append (daemon_of r before noted) acts more u one.0 next.0 one.1 (subst (λ (d : Daemon). ActionsHand d more one.0 next.0) (sym (is before noted)) next.1),
        λ known held. next.2 known (one.2 known held),
      )

  pub acts_on : {A B D : Known → List (Hosted C) → Audience → Type 0} (r s q : Running C) (t u v : Telling) (acts more : List Action) → Acts A B r s t u acts → Acts B D s q u v more → Acts A D r q t v (acts ++ more)
  acts_on {A = A} {B = B} {D = D} r s q t u v acts more p n = record {
    calls = p.calls ++ n.calls;
    records = p.records ++ n.records;
    is = λ before noted. did_append (daemon_of r before noted) acts more ∙ comes_on r s q (λ d. did_all d acts) (λ d. did_all d more) p.calls n.calls p.records n.records p.is n.is before noted;
    done = p.done ++ n.done;
    are = λ before noted.
        doings_append (daemon_of r before noted) acts more
        ∙ ap₂ (λ x y. x ++ y) (p.are before noted) (ap (λ (d : Daemon). doings_of d more) (p.is before noted) ∙ n.are (before ++ p.calls) (noted ++ p.records));
    made = made_on t u v p.done n.done p.made n.made;
    attends = acts_hand A B D r s q acts more p.calls p.records p.is p.attends n.attends;
  }

  -- what is done in acts, and in more
  pub doings_on : {A B : Known → List (Hosted C) → Audience → Type 0} (r s : Running C) (t u : Telling) (acts more : List Action) (p : Acts A B r s t u acts) (before : List Exchange) (noted : List Happened)
      → doings_of (daemon_of r before noted) (acts ++ more) ≡ p.done ++ doings_of (daemon_of s (before ++ p.calls) (noted ++ p.records)) more
  doings_on r s t u acts more p before noted = doings_append (daemon_of r before noted) acts more ∙ ap₂ (λ x y. x ++ y) (p.are before noted) (ap (λ (d : Daemon). doings_of d more) (p.is before noted))

  pub acts_break_none : (r : Running C) (t : Telling) (acts : List Action) → ActsBreak r t t acts
  acts_break_none r t acts before noted = none_made t (doings_of (daemon_of r before noted) acts)

  -- it broke off where all was done
  pub acts_break_late : {A B : Known → List (Hosted C) → Audience → Type 0} (r s : Running C) (t u : Telling) (acts : List Action) → Acts A B r s t u acts → ActsBreak r t u acts
  acts_break_late r s t u acts p before noted = subst (MadeFront t u) (sym (p.are before noted)) (all_made t u p.done p.made)

  -- in a later act
  pub acts_break_on : {A B : Known → List (Hosted C) → Audience → Type 0} (r s : Running C) (t u v : Telling) (acts more : List Action) → Acts A B r s t u acts → ActsBreak s u v more → ActsBreak r t v (acts ++ more)
  acts_break_on r s t u v acts more p n before noted =
      subst (MadeFront t v) (sym (doings_on r s t u acts more p before noted))
      (made_front_on t u v p.done (doings_of (daemon_of s (before ++ p.calls) (noted ++ p.records)) more) p.made (n (before ++ p.calls) (noted ++ p.records)))

  -- or before
  pub acts_break_more : (r : Running C) (t u : Telling) (acts more : List Action) → ActsBreak r t u acts → ActsBreak r t u (acts ++ more)
  acts_break_more r t u acts more p before noted =
      subst (MadeFront t u) (sym (doings_append (daemon_of r before noted) acts more)) (made_front_more t u (doings_of (daemon_of r before noted) acts) (doings_of (did_all (daemon_of r before noted) acts) more) (p before noted))

  -- or a write in it failed
  pub acts_fail_on : {A B D : Known → List (Hosted C) → Audience → Type 0} (r s q : Running C) (t u v : Telling) (acts more : List Action) → Acts A B r s t u acts → ActsFail B D s q u v more → ActsFail A D r q t v (acts ++ more)
  acts_fail_on {A = A} {B = B} {D = D} r s q t u v acts more p n = record {
    core = λ before noted. ap (λ (d : Daemon). d.core) (did_append (daemon_of r before noted) acts more ∙ ap (λ (d : Daemon). did_all d more) (p.is before noted)) ∙ n.core (before ++ p.calls) (noted ++ p.records);
    made = λ before noted.
        subst (WriteFails t v) (sym (doings_on r s t u acts more p before noted))
        (fails_on t u v p.done (doings_of (daemon_of s (before ++ p.calls) (noted ++ p.records)) more) p.made (n.made (before ++ p.calls) (noted ++ p.records)));
    attends = acts_hand A B D r s q acts more p.calls p.records p.is p.attends n.attends;
  }
