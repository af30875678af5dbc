-- What is said of leaders at rest, computed on short lists of records.
use Rattle.std.proofs.Common.{◌≡◌, [], ◌∷◌, Some, true, false, refl, sym, subst, inl, inr}
use Rattle.rsct_packet.specs.declared.ids.ProviderId.{ProviderId}
use Rattle.rsct_packet.specs.declared.ids.ProtoId.{ProtoId}
use Rattle.rsct_packet.specs.Ids.{place_lt}
use Rattle.rsct_packet.specs.Search.{Has}
use Rattle.proposal_core.specs.Fold.{fold_opens}
use Rattle.rest_laws.specs.Leaders.{StandsOn, IsServed}
use Rattle.rest_laws.specs.Samples.{db, web, view, source_member, target_member, set, reflected, moved, at}

-- where the source's value was set
abbrev set_at : ProtoId
set_at = record { view = view; place = 1 }

pub reflected_is_served : IsServed (at web reflected) (at db reflected)
unfolding fold_opens
reflected_is_served = record { sourced = sourced; reflected = λ p x i e. late x e }
  where
    sourced : (p : ProviderId) → Has p (target_member ∷ []) → StandsOn p.node (at db reflected)
    sourced p (inl e) = subst (λ (z : ProviderId). StandsOn z.node (at db reflected)) (sym e) (source_member, inl refl, refl)
    sourced p (inr z) = absurd z

    late : (x : ProtoId) → Some set_at ≡ Some x → place_lt (Some set_at) (Some x) ≡ false
    late x e = let z : set_at ≡ x = cc in subst (λ (y : ProtoId). place_lt (Some set_at) (Some y) ≡ false) z refl

pub set_waits : IsServed (at web set) (at db set) → ⊥
unfolding fold_opens
set_waits k = let z : true ≡ false = k.reflected target_member set_at (inl refl) refl in cc

pub moved_lacks_its_source : IsServed (at web moved) (at db moved) → ⊥
unfolding fold_opens
moved_lacks_its_source k = (k.sourced target_member (inl refl)).1
