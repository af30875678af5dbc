-- Who was told so far.
use Rattle.std.proofs.Common.{◌≡◌, ℕ, take, map, length}
use Rattle.std.specs.List.{fold}
use Rattle.rsct_packet.specs.declared.ids.ProviderId.{ProviderId}
use Rattle.node_state.specs.Following.{take_tell}
use Rattle.entry_delivery.specs.Received.{Receive}
use Rattle.entry_delivery.specs.Doing.{Does}
use Rattle.group_members.proofs.tells.tell_each.Given as goal

abbrev pub invariant-loop-p : goal.invariant-loop-p
invariant-loop-p g l =
    (length l.clients.items ≡ length l.core.sessions.sessions)
    × (map g.C.Callbacks.script l.clients.items ≡ map g.C.Callbacks.script l.initial.clients.items)
    × Does (map g.C.Callbacks.script l.initial.clients.items) (Receive g.C.Callbacks.stands_for l.initial.clients.items l.clients.items) l.initial.core l.core (λ f. fold (λ t (x : ProviderId × ℕ). take_tell t x.0 x.1 l.why) l.initial.core (take l.p-index l.requests))
