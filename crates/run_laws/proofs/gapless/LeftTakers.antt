-- Up to where a step enters a view, whoever takes part by the records, and was not let go, is a provider of the node that takes part.
use Rattle.std.proofs.Common.{◌≡◌, ◌⊎◌, ℕ, List, ◌++◌, Some, true, false, sym, ◌∙◌, subst, inl, inr}
use Rattle.std.specs.Prelude.{reverse}
use Rattle.rsct_packet.specs.declared.ids.ProviderId.{ProviderId}
use Rattle.rsct_packet.specs.Search.{Has}
use Rattle.rsct_packet.proofs.HasLaws.{has_append, has_reverse}
use Rattle.session_state.specs.declared.state.Provider.{Provider}
use Rattle.session_state.specs.State.{provider_of}
use Rattle.node_state.specs.declared.config.Config.{Config}
use Rattle.node_state.specs.declared.happened.Happened.{Happened}
use Rattle.node_state.specs.declared.happened.Happened.TheVariants as happened
use Rattle.node_state.specs.declared.state.Core.{Core}
use Rattle.node_state.specs.HandOn.{Answering}
use Rattle.node_state.specs.Step.{NodeEvent, at_work, stepped}
use Rattle.world_model.specs.declared.event.Event.{Event}
use Rattle.run_safety.specs.Past.{earlier, records_of}
use Rattle.step_refinement.specs.Tied.{Scene}
use Rattle.step_refinement.specs.Rules.{ended, Arises}
use Rattle.step_refinement.specs.Runs.{Reached, Steps}
use Rattle.node_state.specs.State.{InNameOrder}
use Rattle.provider_laws.proofs.leaving.Events.{same_dissolved}
use Rattle.run_laws.specs.seen_runs.Seen.{Seen}
use Rattle.run_laws.proofs.seen_runs.Law.{traces_seen}
use Rattle.run_laws.specs.gapless.Takers.{Stood, Dissolving}
use Rattle.step_walk.proofs.Changes.{Whatever}
use Rattle.step_walk.proofs.Entering.{on_filled}
use Rattle.run_laws.proofs.gapless.TakerWalk.{Keeps, taker_rules, taker_rings}
use Rattle.run_laws.proofs.gapless.Keeping.{Standing, standing_keeps}
use Rattle.run_laws.proofs.gapless.Resting.{dissolving_gone}
use Rattle.run_laws.proofs.gapless.Fair.{Fair}
use Rattle.run_laws.proofs.gapless.Moving.{Carries}
use Rattle.run_laws.proofs.gapless.Entered.{TakesIn}

module _ (c : Config) (w : Scene) (n : ℕ) (f : Answering) (s : Core) (e : NodeEvent) (v : Event) (reached : Reached c w) (up : w.cores n ≡ Some s) (arises : Arises w e) (p : ProviderId) (node : p.node ≡ n) where
  abbrev d : Core
  d = stepped f s e

  abbrev pub Stands : Core → Type 0
  Stands t = Standing n w.before p node d.records t

  seen : Seen (earlier (reverse d.records) w.before)
  seen = traces_seen c (ended w n v d) (Steps w n f s e v reached up arises)

  keeps : Keeps Stands
  keeps = standing_keeps n w.before p node d.records seen

  pub carries : Carries Stands f
  carries =
      record {
        alike = λ s t a b q. keeps.alike s t (record { same = a; order = subst InNameOrder (sym b) }) q;
        rings = λ s q. (taker_rings Stands keeps).ticks s q;
        fills = λ s xs q. on_filled Stands Whatever (taker_rules Stands keeps) f xs q;
      }

  pub stands_takes : (t : Core) → Fair (at_work s) t → (more : List Happened) → t.records ++ more ≡ d.records → Stands t → TakesIn n w.before t p
  stands_takes t fair more is q g first a b lives = by ((q.inv (more, is)).takes g (record { first = first; is = a; last = b }))
    where
      dissolved : Dissolving p (earlier (reverse t.records) w.before) → ⊥
      dissolved z = at (has_append it (reverse t.records) (records_of w.before) z.told)
        where
          it : Happened
          it = happened.Told p z.number z.why

          at : Has it (reverse t.records) ⊎ Has it (records_of w.before) → ⊥
          at (inl i) = let x = fair.mild it (subst (Has it) fair.is (has_reverse it t.records i)) in let y : true ≡ false = sym (same_dissolved z.why z.is) ∙ x in cc
          at (inr i) = dissolving_gone p w.before (record { number = z.number; why = z.why; told = i; is = z.is }) lives

      by : Stood t.sessions p g true ⊎ Dissolving p (earlier (reverse t.records) w.before) → (x : Provider) × (provider_of t.sessions p ≡ Some x) × (x.takes_part ≡ true) × (x.group ≡ g)
      by (inl x) = (x.provider, x.found, x.part_is, x.group)
      by (inr z) = absurd (dissolved z)
