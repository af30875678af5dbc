-- Clients that are handed nothing keep their values.
use Rattle.std.proofs.Common.{◌≡◌, ◌≢◌, ℕ, zero, suc, ◌<◌, Bool, true, false, List, [], ◌∷◌, Some, length, get_or, set, refl, ap, ◌∙◌}
use Rattle.std.specs.Prelude.{slice_get}
use Rattle.std.specs.List.{list_any}
use Rattle.std.proofs.lemmas.List.Folds.{list_any_at}
use Rattle.std.proofs.lemmas.Bool.{eqb-false, false_from_ne_true}
use Rattle.rsct_packet.specs.declared.ids.ProviderId.{ProviderId}
use Rattle.session_state.specs.declared.state.SessionState.{SessionState}
use Rattle.session_state.specs.State.{place_of}
use Rattle.session_clients.specs.Clients.{is_at, KeepsAllBut}
use Rattle.session_clients.specs.Notices.{hears_at}

-- an element at another place than the one that is set
set_elsewhere : {C : Type 0} (cs : List C) (i k : ℕ) (y : C) → i ≢ k → slice_get (set cs i y) k ≡ slice_get cs k
set_elsewhere [] i k y other = refl
set_elsewhere (c ∷ cs) zero zero y other = absurd (other refl)
set_elsewhere (c ∷ cs) zero (suc k) y other = refl
set_elsewhere (c ∷ cs) (suc i) zero y other = refl
set_elsewhere (c ∷ cs) (suc i) (suc k) y other = set_elsewhere cs i k y (λ e. other (ap suc e))

-- where one client is set, the others keep their values
pub set_keeps : {C : Type 0} (cs : List C) (i : ℕ) (y : C) → KeepsAllBut (λ k. is_at k (Some i)) cs (set cs i y)
set_keeps cs i y k other = set_elsewhere cs i k y (eqb-false i k other)

-- where none passes, that at a place does not
none_at : {X : Type 0} (p : X → Bool) (xs : List X) (n : ℕ) (d : X) → n < length xs → list_any p xs ≡ false → p (get_or xs n d) ≡ false
none_at p xs n d lt none = false_from_ne_true (p (get_or xs n d)) (λ yes. let any : list_any p xs ≡ true = list_any_at p xs n d lt yes in cc)

-- one provider more was handed the notice
pub keeps_more : {C : Type 0} (s : SessionState) (ps : List ProviderId) (n : ℕ) (d : ProviderId) (a b c : List C) → n < length ps
    → KeepsAllBut (hears_at s ps) a b → KeepsAllBut (λ k. is_at k (place_of s (get_or ps n d))) b c → KeepsAllBut (hears_at s ps) a c
unfolding hears_at
keeps_more s ps n d a b c lt before one k quiet = one k (none_at (λ p. is_at k (place_of s p)) ps n d lt quiet) ∙ before k quiet
