-- A length that is acknowledged changes nothing of sessions, and of groups only what is acknowledged and forgotten.
use Rattle.std.proofs.Common.{◌≡◌, ℕ, List}
use Rattle.node_state.specs.declared.state.Core.{Core}
use Rattle.node_state.specs.State.{least_acked, with_led, acked_raised}
use Rattle.node_state.specs.Leading.{forget_least}
use Rattle.node_state.specs.Following.{acked}
use Rattle.node_groups.specs.Keeps.{Keeps}
use Rattle.node_groups.proofs.KeepLaws.{keeps_then, keeps_as, led_keeps}
use Rattle.group_leading.proofs.RowLaws.{forgets_keep}

-- ---- ACK

pub acked_keeps : (s t : Core) (from : ℕ) (g : List ℕ) (n : ℕ) → t ≡ acked s from g n → Keeps s t
unfolding acked forget_least
acked_keeps s t from g n e =
    let u : Core = with_led s g (λ l. record l { acked = acked_raised from n l.acked }) in
    keeps_as s (acked s from g n) t e (keeps_then s u _ (led_keeps s g (λ l. record l { acked = acked_raised from n l.acked })) (forgets_keep u g (least_acked u g)))
