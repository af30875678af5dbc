-- In each scene whose history names calls, and calls alone, as calls: whoever takes part by the records is a provider that does.
use Rattle.std.proofs.Common.{◌≡◌, ◌⊎◌, ℕ, ◌+◌, List, [], ◌∷◌, ◌++◌, Option, Some, None, true, false, refl, sym, ap, ◌∙◌, subst, inl, inr}
use Rattle.std.specs.Prelude.{◌==◌, ◌&&◌, ◌||◌, not}
use Rattle.std.proofs.lemmas.Bool.{eq-eqb, or_parts}
use Rattle.rsct_packet.specs.declared.ids.ProviderId.{ProviderId}
use Rattle.rsct_packet.specs.Search.{Has}
use Rattle.rsct_packet.proofs.HasLaws.{find_has}
use Rattle.proposal_core.specs.Fold.{empty_state}
use Rattle.session_state.specs.declared.state.Provider.{Provider}
use Rattle.session_state.specs.State.{provider_of, is_provider}
use Rattle.node_state.specs.declared.config.Config.{Config}
use Rattle.node_state.specs.declared.happened.Happened.{Happened}
use Rattle.node_state.specs.declared.happened.Happened.TheVariants as happened
use Rattle.node_state.specs.declared.state.Core.{Core}
use Rattle.node_state.specs.State.{row_of, list_of, state_of, len_of, with_sessions}
use Rattle.node_state.specs.Applying.{level_set}
use Rattle.node_state.specs.Step.{started, stepped}
use Rattle.world_model.specs.declared.event.Event.{Event}
use Rattle.world_model.specs.Run.{Happening}
use Rattle.run_safety.specs.Past.{records_of, inc_now}
use Rattle.run_safety.specs.Stays.{stays, client_of, goodbye_of, lets_go, was_let_go}
use Rattle.step_refinement.specs.Tied.{Scene, NodeIsIf}
use Rattle.step_refinement.specs.Rules.{at_node, over, ended}
use Rattle.step_refinement.specs.Runs.{Reached}
use Rattle.step_refinement.proofs.Changed.{set_here, set_there}
use Rattle.step_refinement.proofs.RunLaw.{reached_rests}
use Rattle.step_refinement.proofs.SessionLaws.{provider_same}
use Rattle.run_induction.proofs.Idle.{Idle, AllElsewhere, stays_elsewhere, Came}
use Rattle.run_induction.proofs.Ran.{Ran, Outer}
use Rattle.run_induction.proofs.Laws.{Claim, Holds, Done, Law, ran_holds}
use Rattle.row_laws.proofs.hearing.Incarnations.{incs_of}
use Rattle.provider_laws.proofs.attending.Staying.{InStay}
use Rattle.provider_laws.proofs.attending.OrderLaw.{came_placed}
use Rattle.provider_laws.proofs.leaving.Law.{recounting, recounted_ran, reached, clean}
use Rattle.run_laws.specs.gapless.Takers.{Taker, Stood, AskedJoin, TakersTakePart}
use Rattle.run_laws.proofs.gapless.Growing.{Unasked, asked_back, Over, over_more}
use Rattle.run_laws.proofs.gapless.Standing.{JoinWaits}
use Rattle.run_laws.proofs.gapless.Resting.{Known, KnownIf, WaitsIf, Rested, spared_before, nobody_takes, asked_all, over_all, known_on}
use Rattle.run_laws.proofs.gapless.Stepping.{step_rested}

-- ---- records of no step

idle_unasked : (r : Happened) → Idle r → Unasked r
idle_unasked (happened.Asked p r g x) a = a
idle_unasked _ a = tt

-- ---- what is said of a number

abbrev standing : Claim
standing = record { sent = λ h x. Unit {0}; node = λ m inc ps h o. ((p : ProviderId) → p.node ≡ m → was_let_go p h ≡ false → KnownIf p h o) × WaitsIf o; lines = λ h. Unit {0} }

rested_of : (w : Scene) → Holds standing w → Rested w
rested_of w h = record { known = λ p spared. (h.nodes p.node).0 p refl spared; joins = λ m. (h.nodes m).1 }

done_of : (w : Scene) (n : ℕ) (v : Event) (t : Core) → Rested (ended w n v t) → Done standing w n v t
done_of w n v t k =
    record {
      sends = λ x i. tt;
      node = (λ p at spared. there n (Some t) (set_here w.cores n (Some t)) p at spared, subst WaitsIf (set_here w.cores n (Some t)) (k.joins n));
      others = λ m ne a. (λ p at spared. there m (w.cores m) (set_there w.cores n (Some t) m ne) p at spared, subst WaitsIf (set_there w.cores n (Some t) m ne) (k.joins m));
      lines = tt;
    }
  where
    there : (m : ℕ) (o : Option Core) → at_node w.cores n (Some t) m ≡ o → (p : ProviderId) → p.node ≡ m → was_let_go p (over v t ∷ w.before) ≡ false → KnownIf p (over v t ∷ w.before) o
    there m o is p at spared =
        subst (KnownIf p (over v t ∷ w.before)) (ap (at_node w.cores n (Some t)) at ∙ is) (k.known p spared)

-- ---- a node that has just started

started_empty : (c : Config) (n j : ℕ) (g : List ℕ) → state_of (started c n j) g ≡ empty_state
unfolding started with_sessions state_of list_of row_of
started_empty c n j g = refl

started_waits : (c : Config) (n j : ℕ) → JoinWaits (started c n j).sessions
unfolding started with_sessions level_set
started_waits c n j q i = absurd i

-- ---- an event in which no node takes a step

module _ (c : Config) (w : Scene) (e : Happening) (t : Scene) (o : Outer recounting c w e t) where
  back : (g : List ℕ) (p : ProviderId) → AskedJoin g p (e.records ++ records_of w.before) → AskedJoin g p (records_of w.before)
  back g p a = asked_all g p e.records (records_of w.before) (λ r i. idle_unasked r (o.idle r i)) a

  stay_known : (m : ℕ) → AllElsewhere m e.records → ((p : ProviderId) → p.node ≡ m → was_let_go p w.before ≡ false → KnownIf p w.before (w.cores m)) → (p : ProviderId) → p.node ≡ m → was_let_go p (e ∷ w.before) ≡ false → KnownIf p (e ∷ w.before) (w.cores m)
  stay_known m all k p at spared =
      known_on p w.before (e ∷ w.before) e.records (w.cores m) refl (λ g. stays_elsewhere p.node g e.records (records_of w.before) (subst (λ z. AllElsewhere z e.records) (sym at) all)) (λ g a. back g p a) (k p at (spared_before p e w.before spared).1)

  -- nobody takes part at a node that comes up
  come_known : (m : ℕ) → Came c m (w.incs m + 1) e.records → ((p : ProviderId) → p.node ≡ m → was_let_go p w.before ≡ false → KnownIf p w.before None) → (p : ProviderId) → p.node ≡ m → was_let_go p (e ∷ w.before) ≡ false → Known p (e ∷ w.before) (started c m (w.incs m + 1))
  come_known m came k p at spared =
      record {
        waits = λ g a. inr (over_all p.node g p e.records (records_of w.before) (k p at (spared_before p e w.before spared).1 g (back g p a)));
        takes = λ g a. absurd (nobody_takes p (stays m g (records_of (e ∷ w.before))) (stay g) (subst (λ z. Taker p (stays z g (records_of (e ∷ w.before)))) at a));
      }
    where
      s : Core
      s = started c m (w.incs m + 1)

      stay : (g : List ℕ) → InStay s.views.view (stays m g (records_of (e ∷ w.before))) (len_of s g) empty_state
      stay g =
          subst (InStay s.views.view (stays m g (records_of (e ∷ w.before))) (len_of s g)) (started_empty c m (w.incs m + 1) g) ((came_placed c m (w.incs m + 1) e.records (records_of w.before) came).0.stay g)

-- ---- a node that stops

found_in : (s : Core) (p : ProviderId) (y : Provider) → provider_of s.sessions p ≡ Some y → Has y s.sessions.providers × (y.provider ≡ p)
unfolding provider_of
found_in s p y f = let k = find_has (is_provider p) s.sessions.providers y f in (k.0, provider_same y.provider p k.1)

-- whose join waited there was let go
stop_known : (c : Config) (w : Scene) (o : Option Event) (m : ℕ) (s : Core) → Reached c w → w.cores m ≡ Some s → ((p : ProviderId) → p.node ≡ m → was_let_go p w.before ≡ false → Known p w.before s) → (p : ProviderId) → p.node ≡ m → was_let_go p (record { event = o; records = happened.Down m ∷ [] } ∷ w.before) ≡ false → (g : List ℕ) → AskedJoin g p (happened.Down m ∷ records_of w.before) → Over p.node g p (happened.Down m ∷ records_of w.before)
stop_known c w o m s reach up k p at spared g a = by (was.waits g (asked_back g p down (records_of w.before) tt a))
  where
    down : Happened
    down = happened.Down m

    before : (lets_go p (record { event = o; records = down ∷ [] }) w.before ≡ false) × (was_let_go p w.before ≡ false)
    before = spared_before p (record { event = o; records = down ∷ [] }) w.before spared

    here : NodeIsIf w.config (reached_rests c w reach []).ghost [] m (w.incs m) (Some s)
    here = subst (NodeIsIf w.config (reached_rests c w reach []).ghost [] m (w.incs m)) up ((reached_rests c w reach []).nodes m)

    was : Known p w.before s
    was = k p at before.1

    gone : Stood s.sessions p g false → ⊥
    gone x = absurd (let u : true ≡ false = sym test ∙ (or_parts (m == p.node && inc_now p.node (records_of w.before) == p.inc) false (or_parts ((m == p.node && inc_now p.node (records_of w.before) == p.inc) || false) (goodbye_of p.node (client_of p w.before) o && not false) before.0).0).0 in cc)
      where
        there : Has x.provider s.sessions.providers × (x.provider.provider ≡ p)
        there = found_in s p x.provider x.found

        inc : p.inc ≡ w.incs m
        inc = ap (λ (z : ProviderId). z.inc) (sym there.1) ∙ (here.0.owes.providers x.provider there.0).1 ∙ here.2

        test : (m == p.node && inc_now p.node (records_of w.before) == p.inc) ≡ true
        test = (λ i. eq-eqb m p.node (sym at) i && eq-eqb (inc_now p.node (records_of w.before)) p.inc (ap (λ z. inc_now z (records_of w.before)) at ∙ incs_of c w reach m ∙ sym inc) i)

    by : Stood s.sessions p g false ⊎ Over p.node g p (records_of w.before) → Over p.node g p (down ∷ records_of w.before)
    by (inl x) = absurd (gone x)
    by (inr q) = over_more p.node g p down (records_of w.before) q

-- ---- every scene

standing_law : (c : Config) → Law recounting c standing
standing_law c =
    record {
      waits = λ m. (λ p at spared g a. absurd a.there, tt);
      none = tt;
      sent_on = λ e h x k. tt;
      stays = λ w e t o m all k. (λ p at spared. stay_known c w e t o m all k.0 p at spared, k.1);
      comes = λ w e t o m came down k. (λ p at spared. come_known c w e t o m came k.0 p at spared, started_waits c m (w.incs m + 1));
      goes = λ w e t o m s down up k. (λ p at spared. subst (λ rs. was_let_go p (record { event = e.event; records = rs } ∷ w.before) ≡ false → (g : List ℕ) → AskedJoin g p (rs ++ records_of w.before) → Over p.node g p (rs ++ records_of w.before)) (sym down) (λ spared. stop_known c w e.event m s (reached c w o.from) up k.0 p at spared) spared, tt);
      lines_on = λ w e t o k. tt;
      steps = λ w n f s e v r next up arises told h. done_of w n v (stepped f s e) (step_rested c w n f s e v (reached c w r) up arises told.0 told.1 (clean c w r) (rested_of w h));
    }

pub rested : (c : Config) (w : Scene) → Ran recounting c w → Rested w
rested c w r = rested_of w (ran_holds recounting c standing (standing_law c) w r)

pub takers_take_part : TakersTakePart
takers_take_part c w k n s up p node spared g a =
    let z : Known p w.before s = subst (KnownIf p w.before) (ap w.cores node ∙ up) ((rested c w (recounted_ran c w k)).known p spared) in
    z.takes g (subst (λ m. Taker p (stays m g (records_of w.before))) (sym node) a)
