-- What is said of one client, whatever is known of the others.
use Rattle.std.specs.Prelude.{ℕ, zero, Bool, true, false, List, [], ◌∷◌, Option, Some, None, IfSome}
use Rattle.client_callbacks.specs.declared.told.Told.TheVariants as told
use Rattle.client_callbacks.specs.declared.told.Why.TheVariants.{Dissolved}
use Rattle.client_callbacks.specs.Handed.{Handed, Informed}
use Rattle.daemon_run.specs.declared.hosted.Hosted.{Hosted}

-- of each of some things the list for which it stands, or nothing
abbrev pub Known : Type 0
Known = List (Option (List Handed))

-- Each stands for its list, where one is known. Where none is, nothing is said of it.
abbrev pub StandWhere : {X : Type 0} → (X → List Handed → Type 0) → List X → Known → Type 0
StandWhere R [] [] = Unit {0}
StandWhere R [] (h ∷ hs) = ⊥
StandWhere R (x ∷ xs) [] = ⊥
StandWhere R (x ∷ xs) (h ∷ hs) = IfSome h (R x) × StandWhere R xs hs

-- ---- as one list

-- What a client stood for at first is known or not: one thing before its list says which.
abbrev pub mark : ℕ → Handed
mark n = Informed (told.Refused (record { node = 1; inc = 1; instance = 1; join = 1 }) n Dissolved)

abbrev pub marked : Option (List Handed) → List Handed
marked None = mark 0 ∷ []
marked (Some h) = mark 1 ∷ h

abbrev pub is_known : Handed → Bool
is_known (Informed (told.Refused p zero why)) = false
is_known _ = true

abbrev pub OnlyIf : Bool → Type 0 → Type 0
OnlyIf true P = P
OnlyIf false P = Unit {0}

-- a client stands for what stands behind the mark of the list, where that says that it is known
abbrev pub Says : {C : Type 0} → (C → List Handed → Type 0) → C → List Handed → Type 0
Says R c [] = ⊥
Says R c (m ∷ h) = OnlyIf (is_known m) (R c h)

abbrev pub hosted_stands : {C : Type 0} → (C → List Handed → Type 0) → Hosted C → List Handed → Type 0
hosted_stands R c h = Says R c.client h
