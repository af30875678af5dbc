-- What becomes of a request: while its provider lives, it is outstanding at its node, or was put there, or was refused.
use Rattle.std.specs.Prelude.{◌≡◌, ◌⊎◌, ℕ, false, List, Some}
use Rattle.rsct_packet.specs.declared.ids.ProviderId.{ProviderId}
use Rattle.rsct_packet.specs.declared.ids.ViewId.{ViewId}
use Rattle.rsct_packet.specs.Search.{Has}
use Rattle.proposal_core.specs.declared.entry.Entry.{Entry}
use Rattle.proposal_core.specs.declared.proposal.Proposal.{Proposal}
use Rattle.client_callbacks.specs.declared.told.Why.{Why}
use Rattle.session_state.specs.declared.state.Request.{Request}
use Rattle.session_state.specs.declared.state.SessionState.{SessionState}
use Rattle.node_state.specs.declared.config.Config.{Config}
use Rattle.node_state.specs.declared.happened.Happened.{Happened}
use Rattle.node_state.specs.declared.happened.Happened.TheVariants.{Asked, Put, Told}
use Rattle.node_state.specs.declared.state.Core.{Core}
use Rattle.run_safety.specs.Past.{History, records_of}
use Rattle.run_safety.specs.Requests.{carried}
use Rattle.run_safety.specs.Stays.{stays, was_let_go}
use Rattle.step_refinement.specs.Tied.{Scene}
use Rattle.provider_laws.specs.leaving.Scenes.{Recounted}
use Rattle.run_laws.specs.gapless.Takers.{Taker, AskedJoin, WasPut}
use Rattle.run_laws.specs.seen_runs.Seen.{WasTold}

-- ---- who lives

-- the provider's join of the group was asked for, and its node neither put it nor told the provider of it
pub record Waits (p : ProviderId) (g : List ℕ) (rs : List Happened) : Type 0 where
  pub asked : AskedJoin g p rs
  pub unput : WasPut p.node g p rs → ⊥
  pub untold : WasTold p p.join rs → ⊥

-- By the records: no event let the provider go, and in the group it takes part at its node, or its join waits.
pub record Lives (p : ProviderId) (g : List ℕ) (h : History) : Type 0 where
  pub spared : was_let_go p h ≡ false
  pub there : Taker p (stays p.node g (records_of h)) ⊎ Waits p g (records_of h)

-- ---- what became of a request

-- the node has it as it was asked
pub record IsOutstanding (t : SessionState) (p : ProviderId) (r : ℕ) (g : List ℕ) (x : Proposal) : Type 0 where
  pub request : Request
  pub there : Has request t.requests
  pub provider : request.provider ≡ p
  pub number : request.request ≡ r
  pub group : request.group ≡ g
  pub proposal : request.proposal ≡ x

-- the node put an entry that carries it
pub record HasBegun (n : ℕ) (p : ProviderId) (r : ℕ) (rs : List Happened) : Type 0 where
  pub view : ViewId
  pub group : List ℕ
  pub place : ℕ
  pub entry : Entry
  pub there : Has (Put n view group place entry) rs
  pub carries : Has (p, r) (carried entry)

-- the provider was told of it
pub record HasHeard (p : ProviderId) (r : ℕ) (rs : List Happened) : Type 0 where
  pub why : Why
  pub there : Has (Told p r why) rs

abbrev pub IsKept : SessionState → List Happened → ProviderId → ℕ → List ℕ → Proposal → Type 0
IsKept t rs p r g x = IsOutstanding t p r g x ⊎ (HasBegun p.node p r rs ⊎ HasHeard p r rs)

-- each request of each provider of the node that lives
abbrev pub KeepsRequests : ℕ → SessionState → History → Type 0
KeepsRequests n t h =
    (p : ProviderId) (r : ℕ) (g : List ℕ) (x : Proposal) → Has (Asked p r g x) (records_of h) → p.node ≡ n → Lives p g h → IsKept t (records_of h) p r g x

-- whatever starts, stops and steps, at each node that is up
abbrev pub RequestsOfScenesAreKept : Type 0
RequestsOfScenesAreKept =
    (c : Config) (w : Scene) → Recounted c w → (n : ℕ) (s : Core) → w.cores n ≡ Some s → KeepsRequests n s.sessions w.before
