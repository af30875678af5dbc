use Rattle.std.proofs.Common.{◌≡◌, ℕ, ◌≤◌, length}
use Rattle.piece_link.specs.Slots.{slot_at}
use Rattle.piece_link.proofs.slots.Slots.make.Given as goal

abbrev pub invariant-loop : goal.invariant-loop
invariant-loop l = record { same : (i : ℕ) → slot_at l.self i ≡ slot_at l.fn.self i; made : l.counter ≤ length l.self.pages.items }
