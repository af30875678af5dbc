use Rattle.std.proofs.Common.{ℕ, List, sym, subst}
use Rattle.rsct_packet.specs.Format.{IsBytes}
use Rattle.view_exchange.proofs.Formats.{part_fits}
use Rattle.view_exchange.proofs.in_place.read_group_part.Goals as goal

pub returns-clause-part : goal.returns-clause-part
returns-clause-part c = part_fits c.known.result.now c.group_part_alone.result (subst (λ (x : List ℕ). IsBytes x) (sym c.known.ensures.same) c.known.ensures.bytes) c.group_part_alone.ensures
