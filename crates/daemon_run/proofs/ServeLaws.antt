-- Turns, one after the other.
use Rattle.std.proofs.Common.{◌≡◌, ℕ, ◌+◌, ◌<◌, ◌≤◌, List, [], ◌∷◌, ◌++◌, length, true, refl, sym, ◌∙◌, ap, ap₂, subst, append_assoc, append-nil, arith}
use Rattle.std.proofs.lemmas.List.{length-append}
use Rattle.std.proofs.lemmas.Grind.{flat_map-append}
use Rattle.hags_io.specs.Telling.{Telling}
use Rattle.node_state.specs.declared.happened.Happened.{Happened}
use Rattle.daemon_model.specs.declared.options.Options.{Options}
use Rattle.daemon_model.specs.declared.options.Pace.{Pace}
use Rattle.daemon_model.specs.Sent.{Exchange}
use Rattle.daemon_model.specs.Doings.{doings_of, MadeFront}
use Rattle.daemon_model.proofs.MadeLaws.{made_front_on}
use Rattle.daemon_model.specs.Daemon.{Daemon, Turn, turned, turned_all}
use Rattle.daemon_model.specs.Actions.{Action, turn_actions}
use Rattle.daemon_model.specs.Options.{is_pause, FollowsIn, paced, Follows, paced_all}
use Rattle.daemon_model.specs.Lives.{most_failed, GoesOn}
use Rattle.daemon_model.proofs.ActionLaws.{turns_done}
use Rattle.daemon_run.specs.Hosting.{Known}
use Rattle.daemon_run.specs.declared.hosted.Hosted.{Hosted}
use Rattle.daemon_run.specs.declared.running.Running.{Running}
use Rattle.daemon_run.specs.Audience.{Audience}
use Rattle.daemon_run.specs.Doing.{daemon_of, Acts}
use Rattle.daemon_run.specs.Turning.{TurnsAs, TurnFront, TurnBreaks, TurnRest, TurnFails, TurnPauses}
use Rattle.daemon_run.specs.Serving.{acts_in, TurnsDone, TurnsEnded, TurnsPause, TurnsFront, TurnsFail}
use Rattle.daemon_run.proofs.GoesLaws.{acts_none, acts_on, doings_on, acts_break_none, acts_break_late, acts_fail_on}

one_more : (ts : List Turn) (t : Turn) (i : ℕ) → length ts ≡ i → length (ts ++ t ∷ []) ≡ i + 1
one_more ts t i h = length-append ts (t ∷ []) ∙ ap (λ n. n + 1) h

acts_last : (ts : List Turn) (t : Turn) → acts_in (ts ++ t ∷ []) ≡ acts_in ts ++ turn_actions t
acts_last ts t = flat_map-append turn_actions ts (t ∷ []) ∙ ap (λ x. acts_in ts ++ x) (append-nil (turn_actions t))

goes_on_last : (d : Daemon) (ts : List Turn) (t : Turn) → GoesOn d ts → (turned_all d (ts ++ t ∷ [])).failed < most_failed → GoesOn d (ts ++ t ∷ [])
unfolding turned_all
goes_on_last d [] t h k = (k, tt)
goes_on_last d (x ∷ ts) t h k = (h.0, goes_on_last (turned d x) ts t h.1 k)

-- ---- turns as options ask, and one more

follows_last : (o : Options) (p : Pace) (d : Daemon) (ts : List Turn) (t : Turn) → Follows o p d ts → FollowsIn o (paced_all o p d ts) (turned_all d ts) t → Follows o p d (ts ++ t ∷ [])
unfolding turned_all
follows_last o p d [] t h k = (k, tt)
follows_last o p d (x ∷ ts) t h k = (h.0, follows_last o (paced o p d x) (turned d x) ts t h.1 k)

paced_last : (o : Options) (p : Pace) (d : Daemon) (ts : List Turn) (t : Turn) → paced_all o p d (ts ++ t ∷ []) ≡ paced o (paced_all o p d ts) (turned_all d ts) t
unfolding turned_all
paced_last o p d [] t = refl
paced_last o p d (x ∷ ts) t = paced_last o (paced o p d x) (turned d x) ts t

module _ {C : Type 0} where
  turned_on : {A : Known → List (Hosted C) → Audience → Type 0} (r s q : Running C) (ts : List Turn) (n : Turn) (t u v : Telling) → Acts A A r s t u (acts_in ts) → Acts A A s q u v (turn_actions n) → Acts A A r q t v (acts_in (ts ++ n ∷ []))
  turned_on {A = A} r s q ts n t u v p k = subst (Acts A A r q t v) (sym (acts_last ts n)) (acts_on r s q t u v (acts_in ts) (turn_actions n) p k)

  -- the daemon as turns have led to it
  led_to : {A : Known → List (Hosted C) → Audience → Type 0} (r s : Running C) (ts : List Turn) (t u : Telling) (p : Acts A A r s t u (acts_in ts)) (before : List Exchange) (noted : List Happened)
      → turned_all (daemon_of r before noted) ts ≡ daemon_of s (before ++ p.calls) (noted ++ p.records)
  led_to r s ts t u p before noted = turns_done (daemon_of r before noted) ts ∙ p.is before noted

  -- a turn that the one does as options ask is one more of the other's
  one_follows : {A : Known → List (Hosted C) → Audience → Type 0} (o : Options) (p q : Pace) (r s : Running C) (i : ℕ) (t u : Telling) (h : TurnsDone A o p q r s i t u) (n : Turn) (before : List Exchange) (noted : List Happened)
      → FollowsIn o q (daemon_of s (before ++ h.acts.calls) (noted ++ h.acts.records)) n → Follows o p (daemon_of r before noted) (h.turns ++ n ∷ [])
  one_follows o p q r s i t u h n before noted k =
      let d : Daemon = daemon_of r before noted in
      follows_last o p d h.turns n (h.follows before noted)
      (subst (λ (x : Pace). FollowsIn o x (turned_all d h.turns) n) (h.paces before noted) (subst (λ (e : Daemon). FollowsIn o q e n) (sym (led_to r s h.turns t u h.acts before noted)) k))

  pub turns_none : {A : Known → List (Hosted C) → Audience → Type 0} (o : Options) (p : Pace) (r : Running C) (t : Telling) → TurnsDone A o p p r r 0 t t
  turns_none o p r t = record {
    turns = [];
    so_many = refl;
    follows = λ before noted. tt;
    paces = λ before noted. refl;
    acts = acts_none r t;
    goes_on = λ before noted. tt;
  }

  -- there was no memory for the first of them
  pub turns_unbegun : (o : Options) (p : Pace) (r : Running C) (count : ℕ) (t : Telling) → TurnsFront o p r count t t
  turns_unbegun o p r count t before noted = record { turns = []; at_most = omega arith; follows = tt; made = acts_break_none r t (acts_in []) before noted }

  pub turns_next : {A : Known → List (Hosted C) → Audience → Type 0} (o : Options) (p q w : Pace) (r s z : Running C) (i : ℕ) (t u v : Telling) → TurnsDone A o p q r s i t u → TurnsAs A o q w s z u v → z.receiving.failed < most_failed → TurnsDone A o p w r z (i + 1) t v
  turns_next {A = A} o p q w r s z i t u v h n below =
      let acts : Acts A A r z t v (acts_in (h.turns ++ n.turn ∷ [])) = turned_on r s z h.turns n.turn t u v h.acts n.acts in
      record {
        turns = h.turns ++ n.turn ∷ [];
        so_many = one_more h.turns n.turn i h.so_many;
        follows = λ before noted. one_follows o p q r s i t u h n.turn before noted (n.follows (before ++ h.acts.calls) (noted ++ h.acts.records));
        paces = λ before noted.
            let d : Daemon = daemon_of r before noted in
            n.paces (before ++ h.acts.calls) (noted ++ h.acts.records) ∙ (ap₂ (λ x e. paced o x e n.turn) (h.paces before noted) (sym (led_to r s h.turns t u h.acts before noted)) ∙ sym (paced_last o p d h.turns n.turn));
        acts = acts;
        goes_on = λ before noted.
            let d : Daemon = daemon_of r before noted in
            let last : (turned_all d (h.turns ++ n.turn ∷ [])).failed ≡ z.receiving.failed = ap (λ (e : Daemon). e.failed) (led_to r z (h.turns ++ n.turn ∷ []) t v acts before noted) in
            goes_on_last d h.turns n.turn (h.goes_on before noted) (subst (λ (k : ℕ). k < most_failed) (sym last) below);
      }

  pub turns_ended : {A : Known → List (Hosted C) → Audience → Type 0} (o : Options) (p q w : Pace) (r s z : Running C) (i count : ℕ) (t u v : Telling) → i < count → TurnsDone A o p q r s i t u → TurnsAs A o q w s z u v → most_failed ≤ z.receiving.failed → TurnsEnded A o p r z count t v
  turns_ended o p q w r s z i count t u v lt h n above =
      let so : length (h.turns ++ n.turn ∷ []) ≡ i + 1 = one_more h.turns n.turn i h.so_many in
      record {
        turns = h.turns ++ n.turn ∷ [];
        at_most = rw so (let le : i + 1 ≤ count = omega arith in le);
        follows = λ before noted. one_follows o p q r s i t u h n.turn before noted (n.follows (before ++ h.acts.calls) (noted ++ h.acts.records));
        acts = turned_on r s z h.turns n.turn t u v h.acts n.acts;
        ended = above;
      }

  pub turns_paused : {A : Known → List (Hosted C) → Audience → Type 0} (o : Options) (p q : Pace) (r s z : Running C) (i count : ℕ) (t u v : Telling) → i < count → TurnsDone A o p q r s i t u → z ≡ s → TurnPauses o q u v → TurnsPause A o p r z count t v
  turns_paused {A = A} o p q r s z i count t u v lt h is n = subst (λ (x : Running C). TurnsPause A o p r x count t v) (sym is) (record {
    turns = h.turns;
    fewer = rw h.so_many lt;
    follows = h.follows;
    reached = u;
    acts = h.acts;
    moment = n.moment;
    read = n.read;
    pause = λ before noted. subst (λ (x : Pace). is_pause o.gap x.before n.moment ≡ true) (h.paces before noted) n.pause;
  })

  pub turns_broken : {A : Known → List (Hosted C) → Audience → Type 0} (o : Options) (p q : Pace) (r s : Running C) (i count : ℕ) (t u v : Telling) → i < count → TurnsDone A o p q r s i t u → TurnBreaks o q s u v → TurnsFront o p r count t v
  turns_broken o p q r s i count t u v lt h k before noted =
      let n : TurnFront o q (daemon_of s (before ++ h.acts.calls) (noted ++ h.acts.records)) u v = k (before ++ h.acts.calls) (noted ++ h.acts.records) in
      let so : length (h.turns ++ n.turn ∷ []) ≡ i + 1 = one_more h.turns n.turn i h.so_many in
      record {
        turns = h.turns ++ n.turn ∷ [];
        at_most = rw so (let le : i + 1 ≤ count = omega arith in le);
        follows = one_follows o p q r s i t u h n.turn before noted n.follows;
        made = subst (λ (x : List Action). MadeFront t v (doings_of (daemon_of r before noted) x)) (sym (acts_last h.turns n.turn))
            (subst (MadeFront t v) (sym (doings_on r s t u (acts_in h.turns) (turn_actions n.turn) h.acts before noted))
            (made_front_on t u v h.acts.done (doings_of (daemon_of s (before ++ h.acts.calls) (noted ++ h.acts.records)) (turn_actions n.turn)) h.acts.made n.made));
      }

  pub turns_fail : {A : Known → List (Hosted C) → Audience → Type 0} (o : Options) (p q : Pace) (r s z : Running C) (i count : ℕ) (t u v : Telling) → i < count → TurnsDone A o p q r s i t u → TurnFails A o q s z u v → TurnsFail A o p r z count t v
  turns_fail o p q r s z i count t u v lt h n = record {
    acts = acts_in h.turns ++ n.acts;
    fails = acts_fail_on r s z t u v (acts_in h.turns) n.acts h.acts n.fails;
    rest = λ before noted.
        let k : TurnRest o q (daemon_of s (before ++ h.acts.calls) (noted ++ h.acts.records)) n.acts = n.rest (before ++ h.acts.calls) (noted ++ h.acts.records) in
        let so : length (h.turns ++ k.turn ∷ []) ≡ i + 1 = one_more h.turns k.turn i h.so_many in
        record {
          turns = h.turns ++ k.turn ∷ [];
          at_most = rw so (let le : i + 1 ≤ count = omega arith in le);
          follows = one_follows o p q r s i t u h k.turn before noted k.follows;
          later = k.later;
          are = append_assoc (acts_in h.turns) n.acts k.later ∙ (ap (λ x. acts_in h.turns ++ x) k.are ∙ sym (acts_last h.turns k.turn));
        };
  }

  -- all that was done is a front too
  pub turns_front : {A : Known → List (Hosted C) → Audience → Type 0} (o : Options) (p q : Pace) (r s : Running C) (i count : ℕ) (t u : Telling) → i ≤ count → TurnsDone A o p q r s i t u → TurnsFront o p r count t u
  turns_front o p q r s i count t u le h before noted = record { turns = h.turns; at_most = rw h.so_many le; follows = h.follows before noted; made = acts_break_late r s t u (acts_in h.turns) h.acts before noted }

  pub ended_front : {A : Known → List (Hosted C) → Audience → Type 0} (o : Options) (p : Pace) (r s : Running C) (count : ℕ) (t u : Telling) → TurnsEnded A o p r s count t u → TurnsFront o p r count t u
  ended_front o p r s count t u h before noted = record { turns = h.turns; at_most = h.at_most; follows = h.follows before noted; made = acts_break_late r s t u (acts_in h.turns) h.acts before noted }

  pub turns_all : {A : Known → List (Hosted C) → Audience → Type 0} (o : Options) (p q : Pace) (r s : Running C) (i count : ℕ) (t u : Telling) → i ≤ count → count ≤ i → TurnsDone A o p q r s i t u → TurnsDone A o p q r s count t u
  turns_all o p q r s i count t u le ge h =
      let e : i ≡ count = omega arith in
      record { turns = h.turns; so_many = h.so_many ∙ e; follows = h.follows; paces = h.paces; acts = h.acts; goes_on = h.goes_on }
