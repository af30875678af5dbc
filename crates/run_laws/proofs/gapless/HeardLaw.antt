-- In each scene whose history names calls, and calls alone, as calls: each put is heard by whoever takes part.
use Rattle.std.proofs.Common.{◌≡◌, ◌⊎◌, ℕ, List, [], ◌∷◌, ◌++◌, Some, false, refl, sym, ◌∙◌, subst, inl, inr, append_assoc}
use Rattle.std.specs.Prelude.{reverse, IsTrue}
use Rattle.rsct_packet.specs.declared.ids.ProviderId.{ProviderId}
use Rattle.rsct_packet.specs.Search.{Has}
use Rattle.rsct_packet.proofs.HasLaws.{append_has_right, has_reverse, reverse_has}
use Rattle.node_state.specs.declared.config.Config.{Config}
use Rattle.node_state.specs.declared.happened.Happened.{Happened}
use Rattle.node_state.specs.declared.happened.Happened.TheVariants as happened
use Rattle.node_state.specs.declared.state.Core.{Core}
use Rattle.node_state.specs.HandOn.{Answering}
use Rattle.node_state.specs.Step.{NodeEvent, at_work, stepped}
use Rattle.world_model.specs.declared.event.Event.{Event}
use Rattle.world_model.specs.Run.{Happening}
use Rattle.run_safety.specs.Past.{History, Within, earlier, inc_now, records_of}
use Rattle.run_safety.specs.Stays.{stays, part, takes_part, was_let_go, ends}
use Rattle.step_refinement.specs.Tied.{Scene}
use Rattle.step_refinement.specs.Rules.{over, Arises}
use Rattle.step_refinement.specs.Runs.{Reached}
use Rattle.run_induction.proofs.Idle.{Idle, within_idle}
use Rattle.run_induction.proofs.Laws.{PastLaw, past_holds}
use Rattle.row_laws.specs.failed_rows.Scenes.{Names}
use Rattle.row_laws.proofs.failed_rows.Origin.{root_of}
use Rattle.provider_laws.specs.leaving.Scenes.{IsCall}
use Rattle.provider_laws.proofs.leaving.Keeping.{Clean}
use Rattle.provider_laws.proofs.leaving.Law.{recounting, recounted_ran, reached, clean}
use Rattle.run_laws.specs.gapless.Takers.{Dissolving}
use Rattle.run_laws.proofs.gapless.Standing.{Heard_at, Law}
use Rattle.run_laws.proofs.gapless.Adding.{Walked}
use Rattle.run_laws.specs.gapless.Hears.{AllHearUnlessLetGo, EachHears, TakersHear}
use Rattle.run_laws.proofs.gapless.Resting.{Rested}
use Rattle.run_laws.proofs.gapless.Stepping as stepping
use Rattle.run_laws.proofs.gapless.TakerLaw.{rested}
use Rattle.run_laws.specs.gapless.Heard.{leaves, AllHearUnlessLeaving, EachIsHeard, EachPutIsHeard}
use Rattle.run_laws.proofs.gapless.Told.{never}
use Rattle.std.specs.List.{list_any}
use Rattle.std.proofs.lemmas.Bool.{or_parts}

-- ---- records of no step

idle_heard : (x : Happening) (r : Happened) (now : List Happened) (h : History) → Idle r → AllHearUnlessLeaving x now h r
idle_heard x (happened.Put n v g i e) now h a = absurd a
idle_heard x _ now h a = tt

-- ---- a step

module _ (c : Config) (w : Scene) (n : ℕ) (f : Answering) (s : Core) (e : NodeEvent) (v : Event) (reached : Reached c w) (up : w.cores n ≡ Some s) (arises : Arises w e) (says : Names n e v) (is : IsCall n e v) (clean : Clean w) (k : Rested w) where
  abbrev t : Core
  t = stepped f s e

  abbrev Stays : ProviderId → Type 0
  Stays p = stepping.Stays c w n f s e v reached up arises says is clean k p

  abbrev Laws : List Happened → Type 0
  Laws now = (p : ProviderId) (node : p.node ≡ n) → was_let_go p w.before ≡ false → Stays p → Within (Law n w.before p node t.records) now w.before

  one_heard : (xs : List Happened) (r : Happened) (now : List Happened) → reverse t.records ≡ xs ++ r ∷ now → Laws (r ∷ now) → AllHearUnlessLeaving (over v t) now w.before r
  one_heard xs (happened.Put m u g i x) now q laws = λ p own takes was lets. heard p own takes was lets (by ((stepping.added c w n f s e v reached up arises says is clean k).all r (has_reverse r t.records (subst (Has r) (sym q) (append_has_right r xs (r ∷ now) (inl refl))))))
    where
      r : Happened
      r = happened.Put m u g i x

      by : Has r (root_of (at_work s) e).records ⊎ Walked n r → m ≡ n
      by (inl j) = absurd ((stepping.root_said c w n f s e v reached up arises says is clean k e r j).1)
      by (inr z) = z

      heard : (p : ProviderId) → p.node ≡ m → IsTrue (takes_part i (part p (stays m g (r ∷ earlier now w.before)))) → was_let_go p w.before ≡ false → leaves p (over v t) w.before ≡ false → m ≡ n → (ms : List ProviderId) × (value : List ℕ) × Has (happened.Heard p u g i x ms value) (reverse t.records)
      heard p own takes was lets at = said ((laws p (own ∙ at) was lets).0 own takes)
        where
          said : Dissolving p (earlier now w.before) ⊎ Heard_at n w.before p (own ∙ at) t.records u g i x → (ms : List ProviderId) × (value : List ℕ) × Has (happened.Heard p u g i x ms value) (reverse t.records)
          said (inl d) = absurd (never c w n f s e v reached up arises says is clean k p (own ∙ at) was lets xs u g i x now (subst (λ z. reverse t.records ≡ xs ++ happened.Put z u g i x ∷ now) at q) (subst (λ z. IsTrue (takes_part i (part p (stays z g (happened.Put z u g i x ∷ earlier now w.before))))) at takes) d)
          said (inr h) = (h.0, h.1, reverse_has (happened.Heard p u g i x h.0 h.1) t.records h.2)
  one_heard xs _ now q laws = tt

  all_heard : (xs now : List Happened) → reverse t.records ≡ xs ++ now → Laws now → Within (AllHearUnlessLeaving (over v t)) now w.before
  all_heard xs [] q laws = tt
  all_heard xs (r ∷ now) q laws =
      (one_heard xs r now q laws, all_heard (xs ++ r ∷ []) now (q ∙ sym (append_assoc xs (r ∷ []) now)) (λ p node spared stay. (laws p node spared stay).1))

  pub step_heard : Within (AllHearUnlessLeaving (over v t)) (reverse t.records) w.before
  step_heard =
      all_heard [] (reverse t.records) refl (λ p node spared stay. (stepping.at_end c w n f s e v reached up arises says is clean k p node spared stay).law)

-- ---- every scene

heard_law : (c : Config) → PastLaw recounting c EachIsHeard
heard_law c =
    record {
      none = tt;
      outer = λ w e t o k. (within_idle (AllHearUnlessLeaving e) (idle_heard e) e.records w.before o.idle, k);
      steps = λ w n f s e v r next up arises told k. (step_heard c w n f s e v (reached c w r) up arises told.0 told.1 (clean c w r) (rested c w r), k);
    }

pub each_put_is_heard : EachPutIsHeard
each_put_is_heard c w k = past_holds recounting c EachIsHeard (heard_law c) w (recounted_ran c w k)

-- ---- unless it is let go

unless_let_go : (x : Happening) (before : History) (now : List Happened) → Within (AllHearUnlessLeaving x) now before → Within (AllHearUnlessLetGo x) now before
unless_let_go x before [] k = tt
unless_let_go x before (r ∷ now) k = (one r k.0, unless_let_go x before now k.1)
  where
    one : (r : Happened) → AllHearUnlessLeaving x now before r → AllHearUnlessLetGo x now before r
    one (happened.Put n v g i e) k = λ p own takes was lets. k p own takes was (or_parts (list_any (ends p (inc_now p.node (records_of before))) x.records) (leaves p x before) lets).1
    one _ k = tt

each_unless : (h : History) → EachIsHeard h → EachHears h
each_unless [] k = tt
each_unless (x ∷ h) k = (unless_let_go x h x.records k.0, each_unless h k.1)

pub takers_hear : TakersHear
takers_hear c w k = each_unless w.before (each_put_is_heard c w k)
