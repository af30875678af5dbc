use Rattle.std.specs.Prelude.{option_copied}
use Rattle.view_exchange.proofs.InOrder.{Leads}
use Rattle.view_exchange.proofs.in_place.read_group_parts.Given as goal

abbrev pub invariant-loop-i : goal.invariant-loop-i
invariant-loop-i l = Leads l.count l._i l.bytes l.rest (option_copied l.last)
