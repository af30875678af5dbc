-- The lists that were filled so far.
use Rattle.std.proofs.Common.{◌≡◌, take, map}
use Rattle.std.specs.List.{fold}
use Rattle.entry_delivery.specs.Received.{Receive}
use Rattle.entry_delivery.specs.Doing.{Does}
use Rattle.group_leading.specs.Working.{AtWork}
use Rattle.node_views.specs.declared.missing_entries.Missing.{Missing}
use Rattle.node_views.specs.Filling.{list_filled}
use Rattle.node_views.proofs.missing_entries.fill_lists.Given as goal

abbrev pub invariant-loop-m : goal.invariant-loop-m
invariant-loop-m g l =
    AtWork l.core l.clients.items
    × (map g.C.Callbacks.script l.clients.items ≡ map g.C.Callbacks.script l.initial.clients.items)
    × Does (map g.C.Callbacks.script l.initial.clients.items) (Receive g.C.Callbacks.stands_for l.initial.clients.items l.clients.items) l.initial.core l.core (λ f. fold (λ t (m : Missing). list_filled f m.group.now t m.entries.now) l.initial.core (take l.m-index l.missing))
