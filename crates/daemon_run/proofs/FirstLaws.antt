-- What a daemon does first.
use Rattle.std.proofs.Common.{◌≡◌, ℕ, true, List, inl, inr, ◌⊎◌}
use Rattle.hags_io.specs.Deeds.{Deed, Read, Placed, Opened, Exchanged, Wrote}
use Rattle.hags_io.specs.declared.link.LinkCall.TheVariants as call
use Rattle.hags_io.specs.Fronts.{as_gone, FailsAt}
use Rattle.node_state.specs.State.{with_sessions}
use Rattle.node_state.specs.Step.{started}
use Rattle.daemon_model.specs.Daemon.{left_for, begun_for}
use Rattle.daemon_model.specs.Doings.{since, life_doings}
use Rattle.daemon_run.specs.First.{IsWrite, WritesItsStart}

-- what compares with a write is one
is_write : (d : Deed) (text : List ℕ) (X Y : Type 0) → ((as_gone d ≡ Wrote text true) × X) ⊎ (FailsAt d (Wrote text true) × Y) → IsWrite d
is_write (Wrote bytes whole) text X Y h = tt
is_write (Read m) text X Y (inl h) = let no : Read m ≡ Wrote text true = h.0 in absurd cc
is_write (Read m) text X Y (inr h) = absurd h.0
is_write (Placed n k a p) text X Y (inl h) = let no : Placed n k a p ≡ Wrote text true = h.0 in absurd cc
is_write (Placed n k a p) text X Y (inr h) = absurd h.0
is_write (Opened p o) text X Y (inl h) = let no : Opened p o ≡ Wrote text true = h.0 in absurd cc
is_write (Opened p o) text X Y (inr h) = absurd h.0
is_write (Exchanged (call.Sent n k b o)) text X Y (inl h) = let no : Exchanged (call.Sent n k b true) ≡ Wrote text true = h.0 in absurd cc
is_write (Exchanged (call.Sent n k b o)) text X Y (inr h) = absurd h.0
is_write (Exchanged (call.Received k b)) text X Y (inl h) = let no : Exchanged (call.Received k b) ≡ Wrote text true = h.0 in absurd cc
is_write (Exchanged (call.Received k b)) text X Y (inr h) = absurd h.0
is_write (Exchanged call.Quiet) text X Y (inl h) = let no : Exchanged call.Quiet ≡ Wrote text true = h.0 in absurd cc
is_write (Exchanged call.Quiet) text X Y (inr h) = absurd h.0
is_write (Exchanged call.Failed) text X Y (inl h) = let no : Exchanged call.Failed ≡ Wrote text true = h.0 in absurd cc
is_write (Exchanged call.Failed) text X Y (inr h) = absurd h.0

pub writes_its_start : WritesItsStart
unfolding life_doings since begun_for left_for started with_sessions
writes_its_start c me inc life moment next later (inl h) = is_write next _ _ _ h.1
writes_its_start c me inc life moment next later (inr h) = absurd h.0
