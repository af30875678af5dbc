-- Requests, over all groups and views.
use Rattle.std.specs.Prelude.{ℕ, ◌≡◌, List}
use Rattle.rsct_packet.specs.declared.ids.ProviderId.{ProviderId}
use Rattle.rsct_packet.specs.declared.ids.ViewId.{ViewId}
use Rattle.rsct_packet.specs.Search.{Has}
use Rattle.proposal_core.specs.declared.entry.Entry.{Entry}
use Rattle.proposal_core.specs.declared.proposal.Proposal.{Proposal}
use Rattle.node_state.specs.declared.config.Config.{Config}
use Rattle.node_state.specs.declared.happened.Happened.TheVariants.{Asked, Put}
use Rattle.run_safety.specs.Past.{History, records_of}
use Rattle.run_safety.specs.Requests.{carried, Meets}
use Rattle.run_safety.specs.SafeGroups.{SafeGroups}
use Rattle.run_safety.specs.Moves.{Opening}
use Rattle.step_refinement.specs.Tied.{Scene}
use Rattle.step_refinement.specs.Runs.{Reached}

-- each request of a provider is asked in one group, and at its own node it begins at one place of one view, in one group
pub record RequestsBeginOnce (h : History) : Type 0 where
  pub group : (p : ProviderId) (r : ℕ) (g k : List ℕ) (x y : Proposal) → Has (Asked p r g x) (records_of h) → Has (Asked p r k y) (records_of h) → g ≡ k
  pub once : (p : ProviderId) (r : ℕ) (g k : List ℕ) (u v : ViewId) (i j : ℕ) (e f : Entry) → Has (Put p.node u g i e) (records_of h) → Has (p, r) (carried e) → Has (Put p.node v k j f) (records_of h) → Has (p, r) (carried f) → (g ≡ k) × (u ≡ v) × (i ≡ j)

-- whatever starts, stops and steps
abbrev pub EveryRequestBeginsOnce : Type 0
EveryRequestBeginsOnce = (c : Config) (w : Scene) → Reached c w → RequestsBeginOnce w.before

-- whoever an entry names, at whatever node it is put, asked in that group for what it begins
abbrev pub EntriesWereAsked : History → Type 0
EntriesWereAsked h =
    (n : ℕ) (v : ViewId) (g : List ℕ) (i : ℕ) (e : Entry) (p : ProviderId) (r : ℕ) → Has (Put n v g i e) (records_of h) → Has (p, r) (carried e) → (x : Proposal) × Has (Asked p r g x) (records_of h) × Meets p x e

-- where each group's lines are safe, as they are in every run
abbrev pub SafeEntriesWereAsked : Type 0
SafeEntriesWereAsked = (o : Opening) (h : History) → SafeGroups o h → EntriesWereAsked h
