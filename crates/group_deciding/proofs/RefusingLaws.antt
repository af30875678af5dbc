-- What a refusal keeps.
use Rattle.std.proofs.Common.{◌≡◌, ℕ, List, Option, Some}
use Rattle.rsct_packet.specs.declared.ids.ProviderId.{ProviderId}
use Rattle.client_callbacks.specs.declared.told.Why.{Why}
use Rattle.node_state.specs.declared.state.Core.{Core}
use Rattle.node_state.specs.Deciding.{keep_decision, refused}
use Rattle.node_groups.specs.Keeps.{Keeps}
use Rattle.node_groups.proofs.KeepLaws.{keeps_then, keeps_as, led_keeps, sent_keeps}

pub decision_keeps : (s : Core) (g : List ℕ) (p : ProviderId) (r : ℕ) (y : Option Why) → Keeps s (keep_decision s g p r y)
unfolding keep_decision
decision_keeps s g p r y = led_keeps s g _

refusal_keeps : (s : Core) (g : List ℕ) (p : ProviderId) (r : ℕ) (y : Why) → Keeps s (refused s g p r y)
unfolding refused
refusal_keeps s g p r y = keeps_then s (keep_decision s g p r (Some y)) _ (decision_keeps s g p r (Some y)) (sent_keeps (keep_decision s g p r (Some y)) p.node _)

pub refused_keeps : (s t : Core) (g : List ℕ) (p : ProviderId) (r : ℕ) (y : Why) → t ≡ refused s g p r y → Keeps s t
refused_keeps s t g p r y e = keeps_as s (refused s g p r y) t e (refusal_keeps s g p r y)
