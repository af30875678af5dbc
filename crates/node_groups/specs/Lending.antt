-- What the rows of groups end as, once a row that was lent has been written.
use Rattle.std.specs.Prelude.{ℕ, List, Result}
use Rattle.std.specs.Borrow.{LendsIfOk, MutBor, Fml}
use Rattle.node_state.specs.declared.group.GroupRow.{GroupRow}
use Rattle.node_state.specs.contracts.group.GroupRow as row
use Rattle.node_state.specs.contracts.group.Table as table
use Rattle.node_state.specs.State.{rows_with}

-- the group's row is the last value behind r; at `Err` the rows are as before
abbrev pub LendsRow : {E : Type 0} → MutBor (List GroupRow) → List ℕ → Result (MutBor GroupRow) E → Fml
LendsRow rows g r = LendsIfOk (table.the_row row.the_row) row.the_row rows r (λ row. rows_with g (λ _. row) rows.now) rows.now
