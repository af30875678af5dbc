-- Whose the providers are, from one change to the next.
use Rattle.std.proofs.Common.{◌⊎◌, inl, inr, refl, ◌∙◌}
use Rattle.rsct_packet.specs.declared.ids.ProviderId.{ProviderId}
use Rattle.session_state.specs.declared.state.SessionState.{SessionState}
use Rattle.session_state.specs.Owners.{StaysOf, IsDropped, KeepsOwners}

pub owners_themselves : (s : SessionState) → KeepsOwners s s
owners_themselves s p = inl (record { place = refl; live = λ e. e; asked = λ e. e })

owner_then : (s t u : SessionState) (p : ProviderId) → StaysOf s t p ⊎ IsDropped t p → StaysOf t u p ⊎ IsDropped u p → StaysOf s u p ⊎ IsDropped u p
owner_then s t u p (inl a) (inl b) = inl (record { place = b.place ∙ a.place; live = λ e. b.live (a.live e); asked = λ e. b.asked (a.asked e) })
owner_then s t u p (inr a) (inl b) = inr (record { live = b.live a.live; asked = b.asked a.asked })
owner_then s t u p a (inr b) = inr b

pub owners_then : (s t u : SessionState) → KeepsOwners s t → KeepsOwners t u → KeepsOwners s u
owners_then s t u a b p = owner_then s t u p (a p) (b p)
