-- The step of a packet that may go through other nodes does not read on which network it came.
use Rattle.std.proofs.Common.{◌≡◌, ◌==◌, Bool, true, false, [], refl, ap}
use Rattle.node_state.specs.declared.packet.Body.{Body}
use Rattle.node_state.specs.declared.packet.Body.TheVariants as body
use Rattle.node_state.specs.declared.packet.Packet.{Packet}
use Rattle.node_state.specs.declared.state.Core.{Core}
use Rattle.node_state.specs.Ending.{end_step}
use Rattle.node_state.specs.HandOn.{Answering}
use Rattle.node_state.specs.Step.{is_used, take_body, packet_rule, event_rule, stepped, Given}
use Rattle.route_state.specs.Relaying.{may_relay, on_one, NetworkIsNotRead}

row_same : (f : Answering) (s : Core) (p : Packet) (b : Body) → may_relay b ≡ true → take_body f s (on_one p) b ≡ take_body f s p b
unfolding take_body is_used
row_same f s p (body.Ring x) h = absurd (cc)
row_same f s p (body.Report rows) h = absurd (cc)
row_same f s p (body.View x) h = refl
row_same f s p (body.Lookup v g) h = refl
row_same f s p (body.Name v g n) h = refl
row_same f s p (body.Request v g q r phases x) h = refl
row_same f s p (body.Tell v g q r y) h = refl
row_same f s p (body.Entry v g place stable e) h = refl
row_same f s p (body.Ack v g n) h = refl
row_same f s p (body.Vote v g proto phase q vote value message) h = refl
row_same f s p (body.Gone v g q) h = refl
row_same f s p (body.Query question what) h = absurd (cc)
row_same f s p (body.Reply question text) h = absurd (cc)

pub network_is_not_read : NetworkIsNotRead
unfolding stepped event_rule packet_rule
network_is_not_read f s p h =
    ap (λ (x : Core). end_step f (elim (p.to == (record s { sends = []; records = [] }).views.me) as (λ t. Core) [ true ↦ x | false ↦ record s { sends = []; records = [] } ])) (row_same f (record s { sends = []; records = [] }) p p.body h)
