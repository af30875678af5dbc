-- Those so far that do not live in the base are dissolved.
use Rattle.std.proofs.Common.{◌≡◌, take, map, length}
use Rattle.std.specs.Prelude.{option_copied}
use Rattle.std.specs.List.{fold}
use Rattle.session_state.specs.State.{provider_of}
use Rattle.node_groups.specs.Keeps.{Stays}
use Rattle.node_state.specs.Applying.{dissolved_if}
use Rattle.entry_delivery.specs.Received.{Receive}
use Rattle.entry_delivery.specs.Doing.{Does}
use Rattle.node_views.proofs.dissolved.dissolve_each.Given as goal

abbrev pub invariant-loop-p : goal.invariant-loop-p
invariant-loop-p g l =
    (length l.clients.items ≡ length l.initial.clients.items)
    × (map g.C.Callbacks.script l.clients.items ≡ map g.C.Callbacks.script l.initial.clients.items)
    × Does (map g.C.Callbacks.script l.initial.clients.items) (Receive g.C.Callbacks.stands_for l.initial.clients.items l.clients.items) l.initial.core l.core (λ f. fold (λ t p. dissolved_if t l.group l.old (option_copied l.base) (provider_of t.sessions p)) l.initial.core (take l.p-index l.providers))
    × Stays l.initial.core l.core
