-- Those of the lists so far that do not live in their bases are dissolved.
use Rattle.std.proofs.Common.{◌≡◌, take, map, filter, length}
use Rattle.std.specs.Prelude.{is_some}
use Rattle.std.specs.List.{fold}
use Rattle.node_groups.specs.Keeps.{Stays}
use Rattle.node_state.specs.declared.group.GroupRow.{GroupRow}
use Rattle.node_state.specs.Applying.{group_dissolved}
use Rattle.entry_delivery.specs.Received.{Receive}
use Rattle.entry_delivery.specs.Doing.{Does}
use Rattle.node_views.proofs.dissolved.dissolve_sides.Given as goal

abbrev pub invariant-loop-row : goal.invariant-loop-row
invariant-loop-row g l =
    (length l.clients.items ≡ length l.initial.clients.items)
    × (map g.C.Callbacks.script l.clients.items ≡ map g.C.Callbacks.script l.initial.clients.items)
    × Does (map g.C.Callbacks.script l.initial.clients.items) (Receive g.C.Callbacks.stands_for l.initial.clients.items l.clients.items) l.initial.core l.core (λ f. fold (group_dissolved l.old l.bases) l.initial.core (filter (λ (x : GroupRow). is_some x.list) (take l.row-index l.rows)))
    × Stays l.initial.core l.core
