-- How what was done compares with what a definition says is to be done: a send that fails is a lost piece, and a write that
-- fails is the end.
use Rattle.std.specs.Prelude.{◌≡◌, ℕ, ◌⊎◌, true, false, List, [], ◌∷◌, map, Option, Some, None}
use Rattle.hags_io.specs.declared.link.LinkCall.TheVariants as call
use Rattle.hags_io.specs.Deeds.{Deed, Exchanged, Wrote}
use Rattle.hags_io.specs.Telling.{Telling, Did}

-- each send as if it went out
abbrev pub as_gone : Deed → Deed
as_gone (Exchanged (call.Sent node network bytes out)) = Exchanged (call.Sent node network bytes true)
as_gone d = d

-- these were done, whether the sends among them went out or not
pub record Went (old new : Telling) (more : List Deed) : Type 0 where
  pub deeds : List Deed
  pub told : Did old new deeds
  pub are : map as_gone deeds ≡ more

-- a write failed, of which all was to be written
abbrev pub FailsAt : Deed → Deed → Type 0
FailsAt (Wrote bytes false) (Wrote all true) = bytes ≡ all
FailsAt d e = ⊥

-- these deeds are a front of what was to be done, where the last of them may be a write that failed
abbrev pub AreFront : List Deed → List Deed → Type 0
AreFront [] more = Unit {0}
AreFront (d ∷ ds) [] = ⊥
AreFront (d ∷ ds) (e ∷ es) = ((as_gone d ≡ e) × AreFront ds es) ⊎ (FailsAt d e × (ds ≡ []))

-- a front of these was done
pub record WentFront (old new : Telling) (more : List Deed) : Type 0 where
  pub deeds : List Deed
  pub told : Did old new deeds
  pub front : AreFront deeds more

-- bytes are written, all at once; nothing is done where there are none
abbrev pub written : List ℕ → List Deed
written [] = []
written (x ∷ text) = Wrote (x ∷ text) true ∷ []

-- ---- the last deed

abbrev pub last_deed : List Deed → Option Deed
last_deed [] = None
last_deed (d ∷ []) = Some d
last_deed (d ∷ e ∷ ds) = last_deed (e ∷ ds)

abbrev pub OfLast : (Deed → Type 0) → Option Deed → Type 0
OfLast P None = ⊥
OfLast P (Some d) = P d

abbrev pub IsFailedWrite : Deed → Type 0
IsFailedWrite (Wrote bytes false) = Unit {0}
IsFailedWrite d = ⊥

abbrev pub IsFailedReceive : Deed → Type 0
IsFailedReceive (Exchanged call.Failed) = Unit {0}
IsFailedReceive d = ⊥

-- the last deed was a write that failed, or a receive that failed
abbrev pub EndsByWrite : Telling → Type 0
EndsByWrite t = OfLast IsFailedWrite (last_deed t.deeds)

abbrev pub EndsByReceive : Telling → Type 0
EndsByReceive t = OfLast IsFailedReceive (last_deed t.deeds)
