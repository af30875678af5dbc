-- Who is gone by a goodbye was let go.
use Rattle.std.proofs.Common.{◌≡◌, [], ◌∷◌, ◌++◌, true, false, ap, ◌∙◌}
use Rattle.std.specs.Prelude.{◌&&◌, ◌||◌, not}
use Rattle.std.specs.List.{list_any}
use Rattle.std.proofs.lemmas.Bool.{or_right}
use Rattle.rsct_packet.specs.declared.ids.ProviderId.{ProviderId}
use Rattle.world_model.specs.Run.{Happening}
use Rattle.run_safety.specs.Past.{History}
use Rattle.run_safety.specs.Stays.{client_of, goodbye_of, is_refused, lets_go, was_let_go}
use Rattle.row_laws.specs.failed_rows.Failures.{GoodbyesLetGo}

-- at the event
at_goodbye : (p : ProviderId) (e : Happening) (older : History) → goodbye_of p.node (client_of p older) e.event ≡ true → list_any is_refused e.records ≡ false → was_let_go p (e ∷ older) ≡ true
at_goodbye p e older said taken =
    ap (λ b. b || was_let_go p older) (or_right _ _ (λ i. said i && not (taken i)))

-- and on
later : (p : ProviderId) (newer rest : History) → was_let_go p rest ≡ true → was_let_go p (newer ++ rest) ≡ true
later p [] rest k = k
later p (e ∷ newer) rest k = or_right (lets_go p e (newer ++ rest)) (was_let_go p (newer ++ rest)) (later p newer rest k)

pub goodbyes_let_go : GoodbyesLetGo
goodbyes_let_go before p k = ap (was_let_go p) k.moment ∙ later p k.newer (k.event ∷ k.older) (at_goodbye p k.event k.older k.said k.taken)
