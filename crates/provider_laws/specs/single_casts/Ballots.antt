-- When providers cast: once for each notice that asks for a vote.
use Rattle.std.specs.Prelude.{◌≡◌, ℕ, ◌+◌, Bool, true, false, List, [], ◌∷◌, Option, Some, None, if◌then◌else◌}
use Rattle.rsct_packet.specs.declared.ids.ViewId.{ViewId}
use Rattle.rsct_packet.specs.declared.ids.ProviderId.{ProviderId}
use Rattle.rsct_packet.specs.Providers.{same_provider}
use Rattle.proposal_core.specs.declared.entry.Entry.{Entry}
use Rattle.proposal_core.specs.declared.entry.Entry.TheVariants.{Once, Begin, Phase, Approve, Reject, Late}
use Rattle.session_state.specs.declared.state.OpenPhase.{OpenPhase}
use Rattle.node_state.specs.declared.config.Config.{Config}
use Rattle.node_state.specs.declared.happened.Happened.{Happened}
use Rattle.node_state.specs.declared.happened.Happened.TheVariants as happened
use Rattle.run_safety.specs.Past.{History}
use Rattle.run_safety.specs.SafeLists.{Each}
use Rattle.step_refinement.specs.Tied.{Scene}
use Rattle.step_refinement.specs.Runs.{Reached}

-- a Begin or a Phase asks for a vote, a Late leaves it as it is, and any other entry ends it
abbrev pub due_by : Entry → Bool → Bool
due_by (Once x) old = false
due_by (Begin x) old = true
due_by (Phase c) old = true
due_by (Approve c) old = false
due_by (Reject c) old = false
due_by (Late proto phase ps) old = old

abbrev pub due_after : ProviderId → Happened → Bool → Bool
due_after p (happened.Heard q v g i e ms value) old = if same_provider q p then due_by e old else old
due_after p (happened.Cast q proto phase vote value message) old = if same_provider q p then false else old
due_after p _ old = old

-- a ballot of the provider is due: it heard a Begin or a Phase, and since then nothing but a Late, and it has not cast since
abbrev pub ballot_due : ProviderId → List Happened → Bool
ballot_due p [] = false
ballot_due p (r ∷ rs) = due_after p r (ballot_due p rs)

abbrev pub CastWhenDue : List Happened → Happened → Type 0
CastWhenDue rs (happened.Cast p proto phase vote value message) = ballot_due p rs ≡ true
CastWhenDue rs _ = Unit {0}

-- a provider casts only while a ballot of it is due: so at most once for each notice of a Begin or a Phase
abbrev pub CastsWhenDue : History → Type 0
CastsWhenDue h = Each CastWhenDue h

-- ---- in which phase

-- the phase that an entry opens at its place: a Begin the first of the protocol that the place names, a Phase the one after
-- that which it closes
abbrev pub opens : Entry → ViewId → ℕ → Option OpenPhase
opens (Begin x) v i = Some (record { proto = record { view = v; place = i }; phase = 1 })
opens (Phase c) v i = Some (record { proto = c.proto; phase = c.phase + 1 })
opens _ v i = None

abbrev pub open_by : Entry → ViewId → ℕ → Option OpenPhase → Option OpenPhase
open_by (Late proto phase ps) v i old = old
open_by e v i old = opens e v i

abbrev pub open_after : ProviderId → Happened → Option OpenPhase → Option OpenPhase
open_after p (happened.Heard q v g i e ms value) old = if same_provider q p then open_by e v i old else old
open_after p _ old = old

-- the phase that the latest entry but a Late that the provider heard opened
abbrev pub open_phase : ProviderId → List Happened → Option OpenPhase
open_phase p [] = None
open_phase p (r ∷ rs) = open_after p r (open_phase p rs)

abbrev pub CastInPhase : List Happened → Happened → Type 0
CastInPhase rs (happened.Cast p proto phase vote value message) = open_phase p rs ≡ Some (record { proto = proto; phase = phase })
CastInPhase rs _ = Unit {0}

-- a provider casts in the phase that it heard opened last
abbrev pub CastsInPhase : History → Type 0
CastsInPhase h = Each CastInPhase h

-- whatever starts, stops and steps
abbrev pub ProvidersCastInPhase : Type 0
ProvidersCastInPhase = (c : Config) (w : Scene) → Reached c w → CastsInPhase w.before

abbrev pub ProvidersCastWhenDue : Type 0
ProvidersCastWhenDue = (c : Config) (w : Scene) → Reached c w → CastsWhenDue w.before
