-- Each provider casts at most once in each phase of each protocol.
use Rattle.std.specs.Prelude.{◌≡◌, ℕ, List, [], ◌∷◌, Option, Some}
use Rattle.rsct_packet.specs.declared.ids.ViewId.{ViewId}
use Rattle.rsct_packet.specs.declared.ids.ProviderId.{ProviderId}
use Rattle.rsct_packet.specs.Search.{Has}
use Rattle.proposal_core.specs.declared.entry.Entry.{Entry}
use Rattle.proposal_core.specs.declared.entry.Vote.{Vote}
use Rattle.session_state.specs.declared.state.OpenPhase.{OpenPhase}
use Rattle.node_state.specs.declared.config.Config.{Config}
use Rattle.session_state.specs.declared.state.KeptBallot.{KeptBallot}
use Rattle.node_state.specs.declared.state.Core.{Core}
use Rattle.node_state.specs.declared.happened.Happened.{Happened}
use Rattle.node_state.specs.declared.happened.Happened.TheVariants as happened
use Rattle.run_safety.specs.Past.{History}
use Rattle.run_safety.specs.SafeLists.{Each}
use Rattle.step_refinement.specs.Tied.{Scene}
use Rattle.step_refinement.specs.Runs.{Reached}
use Rattle.provider_laws.specs.single_casts.Ballots.{opens}

-- the provider heard the entry that opened the phase
pub record HeardOpened (rs : List Happened) (p : ProviderId) (o : OpenPhase) : Type 0 where
  pub view : ViewId
  pub group : List ℕ
  pub place : ℕ
  pub entry : Entry
  pub members : List ProviderId
  pub value : List ℕ
  pub there : Has (happened.Heard p view group place entry members value) rs
  pub opened : opens entry view place ≡ Some o

-- no provider hears a phase opened again
abbrev pub NotReopened : List Happened → Happened → Type 0
NotReopened rs (happened.Heard p v g i e ms value) = (o : OpenPhase) → opens e v i ≡ Some o → HeardOpened rs p o → ⊥
NotReopened rs _ = Unit {0}

abbrev pub PhasesOpenOnce : History → Type 0
PhasesOpenOnce h = Each NotReopened h

-- a provider casts once in a phase of a protocol
abbrev pub NotCastBefore : List Happened → Happened → Type 0
NotCastBefore rs (happened.Cast p proto phase vote value message) =
    (v : Vote) (x y : Option (List ℕ)) → Has (happened.Cast p proto phase v x y) rs → ⊥
NotCastBefore rs _ = Unit {0}

abbrev pub CastsOnce : History → Type 0
CastsOnce h = Each NotCastBefore h

-- after it heard the entry that opened it
abbrev pub CastAfterNotice : List Happened → Happened → Type 0
CastAfterNotice rs (happened.Cast p proto phase vote value message) = HeardOpened rs p (record { proto = proto; phase = phase })
CastAfterNotice rs _ = Unit {0}

abbrev pub CastsAfterNotice : History → Type 0
CastsAfterNotice h = Each CastAfterNotice h

-- whatever starts, stops and steps
abbrev pub ProvidersCastAfterNotice : Type 0
ProvidersCastAfterNotice = (c : Config) (w : Scene) → Reached c w → CastsAfterNotice w.before

-- two ballots of one provider, protocol and phase
abbrev pub SameBallot : KeptBallot → KeptBallot → Type 0
SameBallot a b = (a.provider ≡ b.provider) × (a.proto ≡ b.proto) × (a.phase ≡ b.phase)

-- no two of them are
abbrev pub Apart : List KeptBallot → Type 0
Apart [] = Unit {0}
Apart (k ∷ ks) = ((l : KeptBallot) → Has l ks → SameBallot k l → ⊥) × Apart ks

-- a node keeps at most one ballot of a provider for a phase of a protocol
abbrev pub OneBallotKept : Type 0
OneBallotKept = (c : Config) (w : Scene) → Reached c w → (n : ℕ) (s : Core) → w.cores n ≡ Some s → Apart s.sessions.kept

-- a node keeps the ballot of a provider for a phase as it was cast, so with one filling
abbrev pub BallotsKeptAsCast : Type 0
BallotsKeptAsCast =
    (c : Config) (w : Scene) → Reached c w → (n : ℕ) (s : Core) → w.cores n ≡ Some s → (a b : KeptBallot) → Has a s.sessions.kept → Has b s.sessions.kept → a.provider ≡ b.provider → a.proto ≡ b.proto → a.phase ≡ b.phase → a.ballot.filled ≡ b.ballot.filled

abbrev pub ProvidersHearPhasesOnce : Type 0
ProvidersHearPhasesOnce = (c : Config) (w : Scene) → Reached c w → PhasesOpenOnce w.before

abbrev pub ProvidersCastOnce : Type 0
ProvidersCastOnce = (c : Config) (w : Scene) → Reached c w → CastsOnce w.before
