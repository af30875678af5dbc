-- What was put and handed on so far.
use Rattle.std.proofs.Common.{◌≡◌, take, map}
use Rattle.entry_delivery.specs.Received.{Receive}
use Rattle.entry_delivery.specs.Doing.{Does}
use Rattle.group_leading.specs.Working.{AtWork}
use Rattle.node_views.specs.Filling.{list_filled}
use Rattle.node_views.proofs.missing_entries.fill_list.Given as goal

abbrev pub invariant-loop-e : goal.invariant-loop-e
invariant-loop-e g l =
    AtWork l.core l.clients.items
    × (map g.C.Callbacks.script l.clients.items ≡ map g.C.Callbacks.script l.initial.clients.items)
    × Does (map g.C.Callbacks.script l.initial.clients.items) (Receive g.C.Callbacks.stands_for l.initial.clients.items l.clients.items) l.initial.core l.core (λ f. list_filled f l.group l.initial.core (take l.e-index l.entries))
