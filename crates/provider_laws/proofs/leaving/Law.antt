-- In each scene whose history names calls, and calls alone, as calls: who was let go hears nothing.
use Rattle.std.proofs.Common.{◌≡◌, ◌<◌, ◌⊎◌, ℕ, ◌+◌, List, [], ◌∷◌, Option, Some, None, Bool, true, false, refl, sym, ap, ◌∙◌, subst, inl, inr, arith}
use Rattle.std.specs.Prelude.{◌==◌, ◌&&◌}
use Rattle.std.proofs.lemmas.Bool.{eqb-true}
use Rattle.rsct_packet.specs.declared.ids.ProviderId.{ProviderId}
use Rattle.rsct_packet.specs.Search.{Has}
use Rattle.session_state.specs.declared.state.Provider.{Provider}
use Rattle.node_state.specs.declared.call.CallLine.TheVariants as call
use Rattle.node_state.specs.declared.config.Config.{Config}
use Rattle.node_state.specs.declared.happened.Happened.{Happened}
use Rattle.node_state.specs.declared.happened.Happened.TheVariants as happened
use Rattle.node_state.specs.declared.state.Core.{Core}
use Rattle.node_state.specs.State.{with_sessions}
use Rattle.node_state.specs.Applying.{level_set}
use Rattle.node_state.specs.Step.{started, stepped}
use Rattle.world_model.specs.declared.event.Event.{Event}
use Rattle.world_model.specs.Run.{Happening}
use Rattle.run_safety.specs.Past.{History, EachRecord, records_of, inc_now}
use Rattle.run_safety.specs.SafeHeard.{NotLetGo}
use Rattle.run_safety.specs.Stays.{client_of, is_named, ends, was_let_go}
use Rattle.step_refinement.specs.Tied.{Scene, NodeIsIf}
use Rattle.step_refinement.specs.Rules.{at_node, over, ended}
use Rattle.step_refinement.specs.Runs.{Reached}
use Rattle.step_refinement.proofs.Changed.{set_here, set_there}
use Rattle.step_refinement.proofs.RunLaw.{reached_rests}
use Rattle.run_induction.proofs.Idle.{Idle, Elsewhere, AllElsewhere, other_node, within_idle}
use Rattle.run_induction.proofs.Ran as runs
use Rattle.run_induction.proofs.Ran.{Telling, Ran, ran_reached, Outer}
use Rattle.run_induction.proofs.Laws.{if_up_on, Claim, Holds, Done, Law, ran_holds}
use Rattle.row_laws.proofs.hearing.Incarnations.{incs_of}
use Rattle.row_laws.specs.failed_rows.Scenes.{Names}
use Rattle.row_laws.proofs.failed_rows.Facts.{unasked_join}
use Rattle.row_laws.proofs.failed_rows.Starting.{idle_asks}
use Rattle.provider_laws.specs.leaving.Scenes.{IsCall, IsDown, Recounted, Nothing, AllStart, Starts, Stops, Steps, Notes}
use Rattle.provider_laws.specs.leaving.LetGo.{WhoIsLetGoHearsNothing, ProvidersWereNotLetGo}
use Rattle.provider_laws.proofs.leaving.Events.{any_none, idle_ends, spared_in}
use Rattle.provider_laws.proofs.leaving.Keeping.{Late, Unused, Kept, KeptIf, Clean, kept_on, unused_client}
use Rattle.provider_laws.proofs.leaving.Stepping.{step_clean}

-- runs in which each call is noted as such, and nothing else is
abbrev pub recounting : Telling
recounting = record { steps = λ n e v. Names n e v × IsCall n e v; others = IsDown }

pub recounted_ran : (c : Config) (w : Scene) → Recounted c w → Ran recounting c w
recounted_ran c _ Nothing = runs.Nothing
recounted_ran c _ (AllStart fixed) = runs.AllStart fixed
recounted_ran c _ (Starts w n e k free real down none) =
    runs.Starts w n e (recounted_ran c w k) free real down (λ m d q. absurd (none m d q))
recounted_ran c _ (Stops w n e s k up none) = runs.Stops w n e s (recounted_ran c w k) up (λ m d q. absurd (none m d q))
recounted_ran c _ (Steps w n f s e v k up arises says is) =
    runs.Steps w n f s e v (recounted_ran c w k) up arises (says, is)
recounted_ran c _ (Notes w e rs k notes down) = runs.Notes w e rs (recounted_ran c w k) notes down

pub reached : (c : Config) (w : Scene) → Ran recounting c w → Reached c w
reached c w r = ran_reached recounting c w r

-- ---- what is said of a number

abbrev Unused_at : ℕ → ℕ → Option Core → ProviderId → Type 0
Unused_at m inc o p = (inc < p.inc) ⊎ Late p inc o

-- nobody who is to come there was let go; nor was who is there
abbrev cleanly : Claim
cleanly = record { sent = λ h x. Unit {0}; node = λ m inc ps h o. ((p : ProviderId) → p.node ≡ m → Unused_at m inc o p → was_let_go p h ≡ false) × KeptIf h o; lines = EachRecord NotLetGo }

clean_of : (w : Scene) → Holds cleanly w → Clean w
clean_of w h = record { nodes = λ m. (h.nodes m).1; unused = λ p un. (h.nodes p.node).0 p refl un; law = h.lines }

done_of : (w : Scene) (n : ℕ) (v : Event) (t : Core) → Clean (ended w n v t) → Done cleanly w n v t
done_of w n v t k =
    record {
      sends = λ x i. tt;
      node = (λ p e un. k.unused p (there n (Some t) (set_here w.cores n (Some t)) p e un), subst (KeptIf (over v t ∷ w.before)) (set_here w.cores n (Some t)) (k.nodes n));
      others = λ m ne a. (λ p e un. k.unused p (there m (w.cores m) (set_there w.cores n (Some t) m ne) p e un), subst (KeptIf (over v t ∷ w.before)) (set_there w.cores n (Some t) m ne) (k.nodes m));
      lines = k.law;
    }
  where
    there : (m : ℕ) (o : Option Core) → at_node w.cores n (Some t) m ≡ o → (p : ProviderId) → p.node ≡ m → Unused_at m (w.incs m) o p → Unused (ended w n v t) p
    there m o is p e un =
        subst (λ j. Unused_at j (w.incs j) (at_node w.cores n (Some t) j) p) (sym e) (subst (λ q. Unused_at m (w.incs m) q p) (sym is) un)

-- ---- an event in which no node takes a step

both_not : (a b : Bool) → (b ≡ true → ⊥) → (a && b) ≡ false
both_not false b none = refl
both_not true false none = refl
both_not true true none = absurd (none refl)

idle_law : (r : Happened) (now : List Happened) (h : History) → Idle r → NotLetGo now h r
idle_law (happened.Heard p v g i e ms value) now h a = absurd a
idle_law _ now h a = tt

started_kept : (h : History) (c : Config) (n j : ℕ) → Kept h (started c n j)
unfolding started with_sessions level_set
started_kept h c n j = record { owners = record { owner = λ x i. absurd i; low = λ y i. absurd i; high = λ y i. absurd i; single = λ y z i j e. absurd i }; apart = tt; unlet = λ x i. absurd i }

module _ (c : Config) (w : Scene) (e : Happening) (t : Scene) (o : Outer recounting c w e t) where
  abbrev reached_w : Reached c w
  reached_w = ran_reached recounting c w o.from

  -- whoever is to come is named by no goodbye
  not_named : (p : ProviderId) → Unused w p → (d : List ℕ) → is_named d (client_of p w.before) ≡ true → ⊥
  not_named p un d q =
      let z : is_named d None ≡ true = ap (is_named d) (sym (unused_client w (λ g. reached_rests c w reached_w g) p un)) ∙ q in cc

  unused_at : (m : ℕ) (p : ProviderId) → p.node ≡ m → Unused_at m (w.incs m) (w.cores m) p → Unused w p
  unused_at m p at un = subst (λ j. Unused_at j (w.incs j) (w.cores j) p) (sym at) un

  -- who is of a later incarnation is not let go
  later_spared : (m : ℕ) (p : ProviderId) → p.node ≡ m → w.incs m < p.inc → was_let_go p w.before ≡ false → was_let_go p (e ∷ w.before) ≡ false
  later_spared m p at lt old =
      spared_in p e w.before (λ r i. idle_ends p (inc_now p.node (records_of w.before)) r (o.idle r i) (λ j q. both_not (j == p.node) (inc_now p.node (records_of w.before) == p.inc) not_now)) (λ v q j d is node named. not_named p (unused_at m p at (inl lt)) d named) old
    where
      not_now : (inc_now p.node (records_of w.before) == p.inc) ≡ true → ⊥
      not_now q =
          let a : inc_now p.node (records_of w.before) ≡ p.inc = eqb-true (inc_now p.node (records_of w.before)) p.inc q in
          let b : w.incs m ≡ p.inc = ap w.incs (sym at) ∙ sym (incs_of c w reached_w p.node) ∙ a in omega (arith, b, lt)

  -- nor is who is of a node that stays
  here_ends : (m : ℕ) (p : ProviderId) → AllElsewhere m e.records → p.node ≡ m → (r : Happened) → Has r e.records → ends p (inc_now p.node (records_of w.before)) r ≡ false
  here_ends m p all at r i =
      idle_ends p (inc_now p.node (records_of w.before)) r (o.idle r i) (λ j q. ap (λ b. b && (inc_now p.node (records_of w.before) == p.inc)) (other_node j p.node (λ z. subst (Elsewhere m) q (all r i) (z ∙ at))))

  stay_kept : (m : ℕ) (d : Core) → AllElsewhere m e.records → w.cores m ≡ Some d → Kept w.before d → Kept (e ∷ w.before) d
  stay_kept m d all up k =
      kept_on w.before d e.event e.records (λ x i. any_none _ e.records (λ r j. unasked_join r (idle_asks r (o.idle r j)) x.provider)) (λ x i. spared_in x.provider e w.before (here_ends m x.provider all (mine x i)) (λ v q j g is node named. gone (o.told v q j (call.Goodbye g) is) (node ∙ mine x i)) (k.unlet x i)) k
    where
      mine : (x : Provider) → Has x d.sessions.providers → x.provider.node ≡ m
      mine x i =
          ((subst (NodeIsIf w.config (reached_rests c w reached_w []).ghost [] m (w.incs m)) up ((reached_rests c w reached_w []).nodes m)).0.owes.providers x i).0

      gone : {j : ℕ} → w.cores j ≡ None → j ≡ m → ⊥
      gone {j} down q = let z : None ≡ Some d = sym down ∙ ap w.cores q ∙ up in cc

-- ---- every scene

leaving : (c : Config) → Law recounting c cleanly
leaving c =
    record {
      waits = λ m. (λ p at un. refl, tt);
      none = tt;
      sent_on = λ e h x k. tt;
      stays = λ w e t o m all k. (λ p at un. spared_in p e w.before (here_ends c w e t o m p all at) (λ v q j d is node named. not_named c w e t o p (unused_at c w e t o m p at un) d named) (k.0 p at un), if_up_on (Kept w.before) (Kept (e ∷ w.before)) (w.cores m) (λ d up a. stay_kept c w e t o m d all up a) k.1);
      comes = λ w e t o m came down k. (λ p at un. comes_clear w e t o m k.0 p at un, started_kept (e ∷ w.before) c m (w.incs m + 1));
      goes = λ w e t o m s down up k. (λ p at un. goes_clear w e t o m (Some s) k.0 p at un, tt);
      lines_on = λ w e t o k. (within_idle NotLetGo idle_law e.records w.before o.idle, k);
      steps = λ w n f s e v r next up arises told h. done_of w n v (stepped f s e) (step_clean c w n f s e v (ran_reached recounting c w r) up told.0 told.1 (clean_of w h));
    }
  where
    goes_clear : (w : Scene) (e : Happening) (t : Scene) → Outer recounting c w e t → (m : ℕ) (q : Option Core) → ((p : ProviderId) → p.node ≡ m → Unused_at m (w.incs m) q p → was_let_go p w.before ≡ false) → (p : ProviderId) → p.node ≡ m → Unused_at m (w.incs m) None p → was_let_go p (e ∷ w.before) ≡ false
    goes_clear w e t o m q k p at (inl lt) = later_spared c w e t o m p at lt (k p at (inl lt))
    goes_clear w e t o m q k p at (inr late) = absurd late

    comes_clear : (w : Scene) (e : Happening) (t : Scene) → Outer recounting c w e t → (m : ℕ) → ((p : ProviderId) → p.node ≡ m → Unused_at m (w.incs m) None p → was_let_go p w.before ≡ false) → (p : ProviderId) → p.node ≡ m → Unused_at m (w.incs m + 1) (Some (started c m (w.incs m + 1))) p → was_let_go p (e ∷ w.before) ≡ false
    comes_clear w e t o m k p at (inl more) =
        let lt : w.incs m < p.inc = omega (arith, more) in later_spared c w e t o m p at lt (k p at (inl lt))
    comes_clear w e t o m k p at (inr late) =
        let now = late.0 in let lt : w.incs m < p.inc = omega (arith, now) in later_spared c w e t o m p at lt (k p at (inl lt))

pub clean : (c : Config) (w : Scene) → Ran recounting c w → Clean w
clean c w r = clean_of w (ran_holds recounting c cleanly (leaving c) w r)

pub who_is_let_go : WhoIsLetGoHearsNothing
who_is_let_go c w k = (clean c w (recounted_ran c w k)).law

pub stay_in : (c : Config) (w : Scene) → Ran recounting c w → (n : ℕ) (s : Core) → w.cores n ≡ Some s → (x : Provider) → Has x s.sessions.providers → was_let_go x.provider w.before ≡ false
stay_in c w r n s up x i =
    let z : Kept w.before s = subst (KeptIf w.before) up ((clean c w r).nodes n) in z.unlet x i

pub providers_stay : ProvidersWereNotLetGo
providers_stay c w k = stay_in c w (recounted_ran c w k)
