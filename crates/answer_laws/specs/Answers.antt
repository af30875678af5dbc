-- What providers are told of their requests.
use Rattle.std.specs.Prelude.{◌≡◌, ◌⊎◌, ℕ, List}
use Rattle.rsct_packet.specs.declared.ids.ProviderId.{ProviderId}
use Rattle.rsct_packet.specs.declared.ids.ViewId.{ViewId}
use Rattle.rsct_packet.specs.Search.{Has}
use Rattle.proposal_core.specs.declared.entry.Entry.{Entry}
use Rattle.proposal_core.specs.declared.proposal.Proposal.{Proposal}
use Rattle.client_callbacks.specs.declared.told.Why.{Why}
use Rattle.client_callbacks.specs.declared.told.Why.TheVariants.{Dissolved}
use Rattle.node_state.specs.declared.config.Config.{Config}
use Rattle.node_state.specs.declared.happened.Happened.TheVariants.{Asked, Put, Told}
use Rattle.world_model.specs.Run.{Happening}
use Rattle.node_state.specs.declared.happened.Happened.{Happened}
use Rattle.run_safety.specs.Past.{History, EachEvent, EachRecord, earlier, records_of}
use Rattle.run_safety.specs.Requests.{carried}
use Rattle.step_refinement.specs.Tied.{Scene}
use Rattle.step_refinement.specs.Runs.{Reached}

-- The provider asked for this, in this event or before; and in no event before did its node put an entry that carries it, or was the
-- provider told anything of it.
pub record IsDue (e : Happening) (before : History) (p : ProviderId) (r : ℕ) : Type 0 where
  pub group : List ℕ
  pub proposal : Proposal
  pub asked : Has (Asked p r group proposal) (earlier e.records before)
  pub unput : (v : ViewId) (g : List ℕ) (i : ℕ) (f : Entry) → Has (Put p.node v g i f) (records_of before) → Has (p, r) (carried f) → ⊥
  pub untold : (why : Why) → Has (Told p r why) (records_of before) → ⊥

-- of one event: each refusal that is told is due, or it tells a provider without a request that its group was dissolved
abbrev pub AnswersAreDue : Happening → History → Type 0
AnswersAreDue e before =
    (p : ProviderId) (r : ℕ) (why : Why) → Has (Told p r why) e.records → ((r ≡ 0) × (why ≡ Dissolved)) ⊎ IsDue e before p r

abbrev pub EachAnswerIsDue : History → Type 0
EachAnswerIsDue h = EachEvent AnswersAreDue h

-- whatever starts, stops and steps
abbrev pub AnswersOfScenesAreDue : Type 0
AnswersOfScenesAreDue = (c : Config) (w : Scene) → Reached c w → EachAnswerIsDue w.before

-- ---- in which order, also within an event

-- Among these records the provider asked for this, its node put no entry that carries it, and the provider was told nothing of it.
pub record IsOpen (rs : List Happened) (p : ProviderId) (r : ℕ) : Type 0 where
  pub group : List ℕ
  pub proposal : Proposal
  pub asked : Has (Asked p r group proposal) rs
  pub unput : (v : ViewId) (g : List ℕ) (i : ℕ) (f : Entry) → Has (Put p.node v g i f) rs → Has (p, r) (carried f) → ⊥
  pub untold : (why : Why) → Has (Told p r why) rs → ⊥

-- of one record: what is told is told of a request that is open among all records before it, those of its own event too; or it tells a
-- provider without a request that its group was dissolved
abbrev pub ToldOfOpen : List Happened → History → Happened → Type 0
ToldOfOpen now before (Told p r why) = ((r ≡ 0) × (why ≡ Dissolved)) ⊎ IsOpen (earlier now before) p r
ToldOfOpen now before _ = Unit {0}

abbrev pub AnswersInOrder : History → Type 0
AnswersInOrder h = EachRecord ToldOfOpen h

-- whatever starts, stops and steps
abbrev pub AnswersOfScenesInOrder : Type 0
AnswersOfScenesInOrder = (c : Config) (w : Scene) → Reached c w → AnswersInOrder w.before
