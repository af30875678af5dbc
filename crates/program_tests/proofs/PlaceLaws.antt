-- One thing more that a client was handed.
use Rattle.std.proofs.Common.{◌≡◌, ℕ, List, [], ◌∷◌, ◌++◌, Option, refl, ap}
use Rattle.client_callbacks.specs.declared.ballot.Filled.{Filled}
use Rattle.client_callbacks.specs.declared.told.Told.{Told}
use Rattle.client_callbacks.specs.Handed.{Handed, NoticeView, Notified, Informed}
use Rattle.program_tests.specs.Clients.{places_heard}

pub heard_more : (hs : List Handed) (n : NoticeView) (b : Option Filled) → places_heard (hs ++ Notified n b ∷ []) ≡ places_heard hs ++ n.place ∷ []
heard_more [] n b = refl
heard_more (Notified m c ∷ hs) n b = ap (λ (xs : List ℕ). m.place ∷ xs) (heard_more hs n b)
heard_more (Informed t ∷ hs) n b = heard_more hs n b

pub told_more : (hs : List Handed) (t : Told) → places_heard (hs ++ Informed t ∷ []) ≡ places_heard hs
told_more [] t = refl
told_more (Notified m c ∷ hs) t = ap (λ (xs : List ℕ). m.place ∷ xs) (told_more hs t)
told_more (Informed u ∷ hs) t = told_more hs t
