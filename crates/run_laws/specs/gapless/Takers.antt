-- Who takes part by the records of its node, and how a provider stands in its node's sessions.
use Rattle.std.specs.Prelude.{◌≡◌, ℕ, Bool, true, false, List, Some, None}
use Rattle.rsct_packet.specs.declared.ids.ViewId.{ViewId}
use Rattle.rsct_packet.specs.declared.ids.ProviderId.{ProviderId}
use Rattle.rsct_packet.specs.Providers.{among}
use Rattle.rsct_packet.specs.Search.{Has}
use Rattle.proposal_core.specs.declared.entry.Entry.{Entry}
use Rattle.proposal_core.specs.declared.proposal.Proposal.{Proposal}
use Rattle.proposal_core.specs.Fold.{joins_of}
use Rattle.client_callbacks.specs.declared.told.Why.{Why}
use Rattle.session_state.specs.declared.state.Provider.{Provider}
use Rattle.session_state.specs.declared.state.SessionState.{SessionState}
use Rattle.session_state.specs.State.{provider_of}
use Rattle.node_state.specs.declared.config.Config.{Config}
use Rattle.node_state.specs.declared.happened.Happened.{Happened}
use Rattle.node_state.specs.declared.happened.Happened.TheVariants.{Put, Asked, Told}
use Rattle.node_state.specs.declared.state.Core.{Core}
use Rattle.run_safety.specs.Past.{records_of}
use Rattle.run_safety.specs.Stays.{Stay, stays, is_join_of, part, is_dissolved, was_let_go}
use Rattle.step_refinement.specs.Tied.{Scene}
use Rattle.provider_laws.specs.leaving.Scenes.{Recounted}

-- the provider has a first place in the latest of these stays, and no last one
pub record Taker (p : ProviderId) (xs : List Stay) : Type 0 where
  pub first : ℕ
  pub is : (part p xs).first ≡ Some first
  pub last : (part p xs).last ≡ None

-- the sessions have it as a provider of that group, which takes part or not
pub record Stood (t : SessionState) (p : ProviderId) (g : List ℕ) (takes : Bool) : Type 0 where
  pub provider : Provider
  pub found : provider_of t p ≡ Some provider
  pub group : provider.group ≡ g
  pub part_is : provider.takes_part ≡ takes

-- the node put an entry of the group that begins the provider's join
pub record WasPut (n : ℕ) (g : List ℕ) (p : ProviderId) (rs : List Happened) : Type 0 where
  pub view : ViewId
  pub place : ℕ
  pub entry : Entry
  pub there : Has (Put n view g place entry) rs
  pub joins : is_join_of p entry ≡ true

-- the provider's join of the group was asked for
pub record AskedJoin (g : List ℕ) (p : ProviderId) (rs : List Happened) : Type 0 where
  pub proposal : Proposal
  pub there : Has (Asked p p.join g proposal) rs
  pub joins : among (joins_of proposal) p ≡ true

-- it was told that its group was dissolved
pub record Dissolving (p : ProviderId) (rs : List Happened) : Type 0 where
  pub number : ℕ
  pub why : Why
  pub told : Has (Told p number why) rs
  pub is : is_dissolved why ≡ true

-- in every scene, whoever takes part at its node by the records, and was not let go, is a provider of the node, in that group, and
-- takes part
abbrev pub TakersTakePart : Type 0
TakersTakePart =
    (c : Config) (w : Scene) → Recounted c w → (n : ℕ) (s : Core) → w.cores n ≡ Some s → (p : ProviderId) → p.node ≡ n → was_let_go p w.before ≡ false → (g : List ℕ) → Taker p (stays n g (records_of w.before)) → Stood s.sessions p g true
