-- A run may be noted so that its calls are named; so a provider's request is asked in one group alone in each of them.
use Rattle.std.proofs.Common.{◌≡◌, ℕ, List, sym, ap, subst}
use Rattle.rsct_packet.specs.declared.ids.ProviderId.{ProviderId}
use Rattle.rsct_packet.specs.Search.{Has}
use Rattle.proposal_core.specs.declared.proposal.Proposal.{Proposal}
use Rattle.node_state.specs.declared.config.Config.{Config}
use Rattle.node_state.specs.declared.happened.Happened.TheVariants.{Asked}
use Rattle.node_state.specs.Step.{NodeEvent, Ticks, Asks, Given, Calls, Garbage}
use Rattle.world_model.specs.declared.event.Event.{Event}
use Rattle.world_model.specs.declared.event.Event.TheVariants.{Call}
use Rattle.run_safety.specs.Past.{records_of}
use Rattle.step_refinement.specs.Tied.{Scene}
use Rattle.step_refinement.specs.Runs.{Reached}
use Rattle.run_induction.proofs.Renoted.{Renoted, with_history, renoted, records_same}
use Rattle.row_laws.specs.failed_rows.Scenes.{Names}
use Rattle.row_laws.proofs.failed_rows.Law.{playing}
use Rattle.row_laws.proofs.failed_rows.Groups.{groups_are_one}

-- an event by the name of its call
called : ℕ → NodeEvent → Event → Event
called n (Calls d) v = Call n d
called n Ticks v = v
called n (Asks mask) v = v
called n (Given p) v = v
called n Garbage v = v

names_it : (n : ℕ) (e : NodeEvent) (v : Event) → Names n e (called n e v)
unfolding called
names_it n e v d q = ap (λ z. called n z v) q

pub asked_in_one : (c : Config) (w : Scene) → Reached c w → (p : ProviderId) (r : ℕ) (g h : List ℕ) (x y : Proposal) → Has (Asked p r g x) (records_of w.before) → Has (Asked p r h y) (records_of w.before) → g ≡ h
asked_in_one c w k p r g h x y a b =
    let z : Renoted playing c w = renoted playing called names_it (λ w v. tt) c w k in
    let same : records_of w.before ≡ records_of z.history = sym (records_same z.history w.before z.same) in
    groups_are_one c (with_history w z.history) z.ran p r g h x y (subst (Has (Asked p r g x)) same a) (subst (Has (Asked p r h y)) same b)

-- so its join is
pub joined_in_one : (c : Config) (w : Scene) → Reached c w → (p : ProviderId) (g h : List ℕ) (x y : Proposal) → Has (Asked p p.join g x) (records_of w.before) → Has (Asked p p.join h y) (records_of w.before) → g ≡ h
joined_in_one c w k p = asked_in_one c w k p p.join
