-- What was read stands in its order at last.
use Rattle.std.proofs.Common.{◌≡◌, List, [], ◌∷◌, refl}
use Rattle.std.specs.List.{fold}
use Rattle.rsct_packet.specs.Lists.{reverse_onto}
use Rattle.script_reader.specs.Clients.{newest_first}

back_onto : {X : Type 0} (ys xs : List X) → reverse_onto (fold (λ zs x. x ∷ zs) ys xs) [] ≡ reverse_onto ys xs
back_onto ys [] = refl
back_onto ys (x ∷ xs) = back_onto (x ∷ ys) xs

pub newest_back : {X : Type 0} (xs : List X) → reverse_onto (newest_first (λ x. x) xs) [] ≡ xs
newest_back xs = back_onto [] xs
