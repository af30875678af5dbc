-- What a node at work keeps through its rows.
use Rattle.node_state.specs.declared.state.Core.{Core}
use Rattle.node_state.specs.State.{InNameOrder}
use Rattle.entry_delivery.specs.Doing.{Ready}
use Rattle.std.specs.Prelude.{List}

-- it is ready to hand to its clients, and the rows of groups stand in the order of their names
pub record AtWork {C : Type 0} (s : Core) (clients : List C) : Type 0 where
  pub ready : Ready s clients
  pub order : InNameOrder s.groups
