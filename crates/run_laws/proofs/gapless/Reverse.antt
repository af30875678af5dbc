-- A step: whoever is left behind is told DISSOLVED, where up to the view those who take part by the records are providers that do.
use Rattle.std.proofs.Common.{◌≡◌, ℕ, List, ◌++◌, Some, true, sym, ap, ◌∙◌, subst, append_assoc}
use Rattle.std.specs.Prelude.{reverse}
use Rattle.std.specs.List.{list_any}
use Rattle.rsct_packet.specs.declared.ids.ProviderId.{ProviderId}
use Rattle.rsct_packet.specs.Search.{Has}
use Rattle.rsct_packet.proofs.HasLaws.{has_reverse}
use Rattle.client_callbacks.specs.declared.told.Why.TheVariants.{Dissolved}
use Rattle.node_state.specs.declared.config.Config.{Config}
use Rattle.node_state.specs.declared.happened.Happened.{Happened}
use Rattle.node_state.specs.declared.happened.Happened.TheVariants as happened
use Rattle.node_state.specs.declared.state.Core.{Core}
use Rattle.node_state.specs.HandOn.{Answering}
use Rattle.node_state.specs.Step.{NodeEvent, at_work, stepped}
use Rattle.world_model.specs.declared.event.Event.{Event}
use Rattle.run_safety.specs.SafeHeard.{LeftBehind, enters}
use Rattle.step_refinement.specs.Tied.{Scene}
use Rattle.step_refinement.specs.Rules.{over, Arises}
use Rattle.step_refinement.specs.Runs.{Reached}
use Rattle.row_laws.proofs.hearing.Added.{enters_add}
use Rattle.run_laws.proofs.gapless.Fair.{Fair}
use Rattle.run_laws.proofs.gapless.Moving.{Carries, Moves, Remains, Enters, NotCall}
use Rattle.run_laws.proofs.gapless.Spoken.{Nought, nought_carries, spoken_moves, reached_spoken}
use Rattle.run_laws.proofs.gapless.Entered.{TakesIn, entered_own, is_told}
use Rattle.run_laws.proofs.gapless.Others.{none_entered}

module _ (c : Config) (w : Scene) (n : ℕ) (f : Answering) (s : Core) (e : NodeEvent) (v : Event) (reached : Reached c w) (up : w.cores n ≡ Some s) (arises : Arises w e) (p : ProviderId) where
  abbrev d : Core
  d = stepped f s e

  -- where no view is entered
  remained : Fair (at_work s) d → list_any (enters p.node) (reverse d.records) ≡ true → ⊥
  remained fair k = none_entered p.node (reverse d.records) (λ r h. fair.mild r (subst (Has r) fair.is (has_reverse r d.records h))) k

  -- who is left behind in a step is of its node
  pub left_own : LeftBehind p (over v d) w.before → p.node ≡ n
  left_own k = by (spoken_moves Nought c w n f s e reached up arises (reached_spoken c w reached) (nought_carries f) tt)
    where
      by : Moves Nought (NotCall e) (at_work s) d → p.node ≡ n
      by (Remains fair) = absurd (remained fair k.entered)
      by (Enters calm t i does fair q same lt rest) = entered_own c w n f s e v reached up arises t i does fair same lt rest p k.entered

  pub left_told : p.node ≡ n → (Q : Core → Type 0) → Carries Q f → Q (at_work s) → (NotCall e → (t : Core) → Fair (at_work s) t → (more : List Happened) → t.records ++ more ≡ d.records → Q t → TakesIn n w.before t p) → LeftBehind p (over v d) w.before → (r : ℕ) × Has (happened.Told p r Dissolved) (reverse d.records)
  left_told node Q carries holds takes k = by (spoken_moves Q c w n f s e reached up arises (reached_spoken c w reached) carries holds)
    where
      by : Moves Q (NotCall e) (at_work s) d → (r : ℕ) × Has (happened.Told p r Dissolved) (reverse d.records)
      by (Remains fair) = absurd (remained fair k.entered)
      by (Enters calm t i does fair q same lt rest) =
          let a = enters_add t i in
          is_told c w n f s e v reached up arises t i does fair same lt rest p node (takes calm t fair (a.more ++ rest.more) (sym (append_assoc t.records a.more rest.more) ∙ ap (λ z. z ++ rest.more) (sym a.is) ∙ sym rest.is) q) k.group k.left k.lives
