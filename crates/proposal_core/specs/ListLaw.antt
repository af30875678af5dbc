-- What a list is after any calls of put and forget_below.
use Rattle.std.specs.Prelude.{◌≡◌, ℕ, suc, ◌≤◌, IsTrue, List, [], ◌∷◌, length, map, drop, sum_by, None, nat_lt, slice_get, if◌then◌else◌}
use Rattle.rsct_packet.specs.declared.ids.ViewId.{ViewId}
use Rattle.proposal_core.specs.declared.entry.Entry.{Entry}
use Rattle.proposal_core.specs.declared.group_state.GroupState.{GroupState}
use Rattle.proposal_core.specs.Fold.{fits, after}
use Rattle.proposal_core.specs.Sizes.{entry_len}
use Rattle.proposal_core.specs.GroupView.{GroupView}
use Rattle.proposal_core.specs.Lists.{has_room, with_entry, forgotten, entry_at}

-- a call that changes a list
pub data ListCall : Type 0 where
  Put : ViewId → Entry → ListCall
  Forget : ℕ → ListCall

abbrev pub called : GroupView → ListCall → GroupView
called g (Put v e) = with_entry g v e
called g (Forget place) = forgotten g place

abbrev pub all_called : GroupView → List ListCall → GroupView
all_called g [] = g
all_called g (c ∷ cs) = all_called (called g c) cs

-- whether a list takes the call
abbrev pub IsTaken : GroupView → ListCall → Type 0
IsTaken g (Put v e) = IsTrue (fits g.state e) × IsTrue (has_room g e)
IsTaken g (Forget place) = place ≤ g.len

abbrev pub AllTaken : GroupView → List ListCall → Type 0
AllTaken g [] = Unit {0}
AllTaken g (c ∷ cs) = IsTaken g c × AllTaken (called g c) cs

-- what was put, with the view in which it was
abbrev pub puts_of : List ListCall → List (ViewId × Entry)
puts_of [] = []
puts_of (Put v e ∷ cs) = (v, e) ∷ puts_of cs
puts_of (Forget place ∷ cs) = puts_of cs

-- the state after entries, the first of which stands at place i
abbrev pub fold_from : GroupState → ℕ → List (ViewId × Entry) → GroupState
fold_from s i [] = s
fold_from s i (x ∷ xs) = fold_from (after s x.0 i x.1) (suc i) xs

-- The list that began at a base and took these entries: its state is their fold, its counts count them all, and
-- from its start on it has the entry that was put at each place.
pub record IsListOf (base : GroupState) (xs : List (ViewId × Entry)) (g : GroupView) : Type 0 where
  pub state : g.state ≡ fold_from base 0 xs
  pub len : g.len ≡ length xs
  pub bytes : g.bytes ≡ sum_by (λ x. entry_len x.1) xs
  pub start : g.start ≤ g.len
  pub entries : g.entries ≡ drop g.start (map (λ x. x.1) xs)
  pub get : (i : ℕ) → entry_at g i ≡ (if nat_lt i g.start then None else slice_get (map (λ x. x.1) xs) i)
