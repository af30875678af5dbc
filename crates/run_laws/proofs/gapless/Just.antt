-- In each scene whose history names calls, and calls alone, as calls: just who is left behind is told DISSOLVED.
use Rattle.std.proofs.Common.{◌≡◌, ◌⊎◌, ℕ, ◌+◌, List, [], ◌∷◌, Option, Some, true, false, sym, ap, ◌∙◌, subst, inl}
use Rattle.std.specs.List.{list_any}
use Rattle.rsct_packet.specs.declared.ids.ProviderId.{ProviderId}
use Rattle.node_state.specs.declared.config.Config.{Config}
use Rattle.node_state.specs.declared.happened.Happened.{Happened}
use Rattle.node_state.specs.declared.state.Core.{Core}
use Rattle.node_state.specs.State.{row_of, list_of, state_of, len_of}
use Rattle.node_state.specs.HandOn.{Answering}
use Rattle.node_state.specs.Step.{NodeEvent, at_work, stepped}
use Rattle.world_model.specs.declared.event.Event.{Event}
use Rattle.world_model.specs.Run.{Happening}
use Rattle.run_safety.specs.Past.{History, EachEvent, records_of}
use Rattle.run_safety.specs.SafeHeard.{Dissolves, is_left_behind, enters}
use Rattle.run_safety.specs.Stays.{stays, was_let_go}
use Rattle.run_safety.proofs.Tests.{any_has}
use Rattle.step_refinement.specs.Tied.{Scene}
use Rattle.step_refinement.specs.Rules.{over, Arises}
use Rattle.step_refinement.specs.Runs.{Reached}
use Rattle.run_induction.proofs.Idle.{enters_elsewhere, came_stays}
use Rattle.run_induction.proofs.Ran.{Ran, Moves, Stays, Comes, Goes, Outer}
use Rattle.run_induction.proofs.Laws.{PastLaw, past_holds}
use Rattle.row_laws.proofs.hearing.Listening.{reached_attends}
use Rattle.row_laws.proofs.hearing.Listening as listening
use Rattle.provider_laws.proofs.attending.OrderLaw.{Placed, node_placed}
use Rattle.provider_laws.proofs.leaving.Law.{recounting, recounted_ran, reached}
use Rattle.run_laws.specs.gapless.Takers.{Taker, Stood}
use Rattle.run_laws.proofs.gapless.Growing.{Over}
use Rattle.run_laws.proofs.gapless.Keeping.{Standing}
use Rattle.run_laws.proofs.gapless.Resting.{Known, KnownIf, WaitsIf, Rested}
use Rattle.run_laws.proofs.gapless.TakerLaw.{rested}
use Rattle.run_laws.specs.gapless.Left.{ToldWereLeft, LeftAreTold, JustTheLeftBehindAreTold}
use Rattle.run_laws.proofs.gapless.Reverse.{left_own, left_told}
use Rattle.run_laws.proofs.gapless.LeftTakers.{Stands, carries, stands_takes}
use Rattle.run_laws.proofs.gapless.LeftLaw.{told_were_left}

-- ---- an event in which no node takes a step

-- whose node enters a view in it has just come up
outer_left : (c : Config) (w : Scene) (e : Happening) (t : Scene) → Outer recounting c w e t → LeftAreTold e w.before
outer_left c w e t o p l =
    absurd (by (w.incs p.node) (w.cores p.node) (t.incs p.node) (t.cores p.node) (o.moves p.node))
  where
    by : (i : ℕ) (q : Option Core) (j : ℕ) (r : Option Core) → Moves c p.node e.records i q j r → ⊥
    by _ _ _ _ (Stays i q all) =
        let z = any_has (enters p.node) e.records l.entered in
        let y : false ≡ true = sym (enters_elsewhere p.node z.0 (all z.0 z.1)) ∙ z.2 in cc
    by _ _ _ _ (Comes i came) =
        let y : true ≡ false = sym l.left ∙ ap (is_left_behind p) (came_stays c p.node (i + 1) e.records came l.group (records_of w.before)) in
        cc
    by _ _ _ _ (Goes i s down) =
        let y : false ≡ true = sym (ap (list_any (enters p.node)) down) ∙ l.entered in cc

-- ---- a step

-- between two events the provider stands at its node as the records have it
stands_first : (c : Config) (w : Scene) → Ran recounting c w → (n : ℕ) (s : Core) → w.cores n ≡ Some s → (p : ProviderId) (node : p.node ≡ n) → was_let_go p w.before ≡ false → (final : List Happened) → Standing n w.before p node final (at_work s)
unfolding len_of state_of list_of row_of
stands_first c w k n s up p node lives final =
    record {
      order = here.fit.order;
      me = here.me;
      inv = λ h. record {
        stay = λ g. placed.stay g;
        waits = λ g a. subst (λ m. Stood s.sessions p g false ⊎ Over m g p (records_of w.before)) node (known.waits g a);
        takes = λ g a. inl (known.takes g (subst (λ m. Taker p (stays m g (records_of w.before))) (sym node) a));
        joins = subst WaitsIf up (rest.joins n);
        law = tt;
      };
    }
  where
    r : Reached c w
    r = reached c w k

    rest : Rested w
    rest = rested c w k

    here : listening.Rested (w.incs n) w.before n s
    here = (reached_attends c w r).up n s up

    placed : Placed (records_of w.before) n s
    placed = (node_placed c w r n s up).0

    known : Known p w.before s
    known = subst (KnownIf p w.before) (ap w.cores node ∙ up) (rest.known p lives)

step_left : (c : Config) (w : Scene) (n : ℕ) (f : Answering) (s : Core) (e : NodeEvent) (v : Event) → Ran recounting c w → w.cores n ≡ Some s → Arises w e → LeftAreTold (over v (stepped f s e)) w.before
step_left c w n f s e v k up arises p l =
    let r : Reached c w = reached c w k in
    let node : p.node ≡ n = left_own c w n f s e v r up arises p l in
    left_told c w n f s e v r up arises p node (Stands c w n f s e v r up arises p node) (carries c w n f s e v r up arises p node) (stands_first c w k n s up p node l.lives (stepped f s e).records) (λ calm t fair more is q. stands_takes c w n f s e v r up arises p node t fair more is q) l

-- ---- every scene

just_law : (c : Config) → PastLaw recounting c (EachEvent LeftAreTold)
just_law c =
    record {
      none = tt;
      outer = λ w e t o k. (outer_left c w e t o, k);
      steps = λ w n f s e v r next up arises told k. (step_left c w n f s e v r up arises, k);
    }

each_just : (h : History) → EachEvent ToldWereLeft h → EachEvent LeftAreTold h → EachEvent Dissolves h
each_just [] a b = tt
each_just (e ∷ h) a b = (λ p. (b.0 p, a.0 p), each_just h a.1 b.1)

pub just_the_left : JustTheLeftBehindAreTold
just_the_left c w k =
    each_just w.before (told_were_left c w k) (past_holds recounting c (EachEvent LeftAreTold) (just_law c) w (recounted_ran c w k))
