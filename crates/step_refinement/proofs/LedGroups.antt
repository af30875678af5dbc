-- What the leaders of groups do in a view that was entered: failed members wait, and the phase that runs opens anew.
use Rattle.std.proofs.Common.{◌≡◌, ℕ, List, [], ◌∷◌, Bool, true, false, refl, inl, inr}
use Rattle.std.specs.Prelude.{filter, fold, is_some}
use Rattle.rsct_packet.specs.declared.ids.ProviderId.{ProviderId}
use Rattle.rsct_packet.specs.Providers.{among}
use Rattle.rsct_packet.specs.Search.{Has}
use Rattle.proposal_core.specs.declared.proposal.Cause.TheVariants.{Died}
use Rattle.batch_rules.specs.Waiting.{add_failure}
use Rattle.node_state.specs.declared.state.Core.{Core}
use Rattle.node_state.specs.State.{leads, led_groups, state_of}
use Rattle.node_state.specs.HandOn.{Answering}
use Rattle.node_state.specs.Leading.{with_waiting, tally_opened}
use Rattle.node_state.specs.Applying.{wait_failed, phase_reopened, lead, lead_groups}
use Rattle.step_refinement.specs.Tied.{Scene, Tied}
use Rattle.node_state.proofs.NameOrder.{led_are_led}
use Rattle.step_refinement.proofs.Appending.{Leading, waits_goes, opened_goes, closed_goes}

module _ (g : List ℕ) (w : Scene) (n : ℕ) (s : Core) (f : Answering) (thawed : s.views.promise ≡ s.views.view) where
  wait_goes : (h : List ℕ) (ps : List ProviderId) (c : Core) → Leading g w n s c → Leading g w n s (fold (λ d p. with_waiting d h (add_failure p Died)) c ps)
  wait_goes h [] c t = t
  wait_goes h (p ∷ ps) c t = wait_goes h ps (with_waiting c h (add_failure p Died)) (waits_goes g w n s c h p Died t)

  group_goes : (c : Core) (h : List ℕ) → leads s h ≡ true → Leading g w n s c → Leading g w n s (lead f c h)
  unfolding lead wait_failed phase_reopened
  group_goes c h led t = by (is_some (state_of c h).running)
    where
      waiting : Core
      waiting = wait_failed c h (filter (among (state_of c h).members) (state_of c h).failed)

      now : Leading g w n s waiting
      now = wait_goes h (filter (among (state_of c h).members) (state_of c h).failed) c t

      by : (b : Bool) → Leading g w n s (phase_reopened f waiting h b)
      by false = now
      by true = closed_goes g w n s f thawed (tally_opened waiting h) h (λ q. led) (opened_goes g w n s f thawed waiting h now)

  groups_goes : (hs : List (List ℕ)) → ((h : List ℕ) → Has h hs → leads s h ≡ true) → (c : Core) → Leading g w n s c → Leading g w n s (fold (lead f) c hs)
  groups_goes [] all c t = t
  groups_goes (h ∷ hs) all c t = groups_goes hs (λ k i. all k (inr i)) (lead f c h) (group_goes c h (all h (inl refl)) t)

-- (7)
pub groups_led_tied : (g : List ℕ) (w : Scene) (n : ℕ) (s : Core) (f : Answering) → s.views.promise ≡ s.views.view → Tied g w n s → Tied g w n (lead_groups f s)
unfolding lead_groups
groups_led_tied g w n s f thawed t =
    (groups_goes g w n s f thawed (led_groups s) (λ h i. led_are_led s h t.own.0.order i) s (record { tied = t; same = refl; leads = λ k. refl })).tied
