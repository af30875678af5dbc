-- Whose the providers of a node are, and stay.
use Rattle.std.specs.Prelude.{◌≡◌, ◌⊎◌, None}
use Rattle.rsct_packet.specs.declared.ids.ProviderId.{ProviderId}
use Rattle.session_state.specs.declared.state.SessionState.{SessionState}
use Rattle.session_state.specs.State.{provider_of, place_of, outstanding}

-- the provider is the same client's as before, and is no more there than before, nor is a request of it outstanding
-- that was not
pub record StaysOf (s t : SessionState) (p : ProviderId) : Type 0 where
  pub place : place_of t p ≡ place_of s p
  pub live : provider_of s p ≡ None → provider_of t p ≡ None
  pub asked : outstanding s p ≡ None → outstanding t p ≡ None

-- the provider is not there, and nothing of it is outstanding
pub record IsDropped (t : SessionState) (p : ProviderId) : Type 0 where
  pub live : provider_of t p ≡ None
  pub asked : outstanding t p ≡ None

-- each provider stays its client's, or is dropped with its requests
abbrev pub KeepsOwners : SessionState → SessionState → Type 0
KeepsOwners s t = (p : ProviderId) → StaysOf s t p ⊎ IsDropped t p
