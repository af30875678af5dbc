-- Each kind of packet is its row.
use Rattle.node_state.specs.Step.{take_body}
use Rattle.std.proofs.lemmas.Result.{on_ok_weaker}
use Rattle.entry_delivery.proofs.DoingLaws.{receive_nothing, does_nothing}
use Rattle.group_leading.proofs.WorkLaws.{on_ok_both}
use Rattle.node_core.proofs.StepLaws.{plain_does}
use Rattle.node_core.proofs.packets.take_body.Goals as goal

pub returns-in-Name-clause-does : goal.returns-in-Name-clause-does
unfolding take_body
returns-in-Name-clause-does g c = rw c.in-Name.is c.take_name_packet.ensures.does

pub returns-in-Tell-clause-does : goal.returns-in-Tell-clause-does
unfolding take_body
returns-in-Tell-clause-does g c = rw c.in-Tell.is c.take_tell_packet.ensures.does

pub returns-in-Ring-clause-does : goal.returns-in-Ring-clause-does
unfolding take_body
returns-in-Ring-clause-does g c =
    rw c.in-Ring.is
    (on_ok_weaker c.take_ring_packet.result (λ both. plain_does _ _ (receive_nothing _ _) c.args.core.now c.take_ring_packet.new.core _ both.0 both.1)
    (on_ok_both _ _ c.take_ring_packet.result c.take_ring_packet.ensures.rule c.take_ring_packet.ensures.keeps))

pub returns-in-Report-clause-does : goal.returns-in-Report-clause-does
unfolding take_body
returns-in-Report-clause-does g c =
    rw c.in-Report.is
    (on_ok_weaker c.take_report_packet.result (λ both. plain_does _ _ (receive_nothing _ _) c.args.core.now c.take_report_packet.new.core _ both.0 both.1)
    (on_ok_both _ _ c.take_report_packet.result c.take_report_packet.ensures.rule c.take_report_packet.ensures.keeps))

pub returns-in-Lookup-clause-does : goal.returns-in-Lookup-clause-does
unfolding take_body
returns-in-Lookup-clause-does g c =
    rw c.in-Lookup.is
    (on_ok_weaker c.take_lookup_packet.result (λ both. plain_does _ _ (receive_nothing _ _) c.args.core.now c.take_lookup_packet.new.core _ both.0 both.1)
    (on_ok_both _ _ c.take_lookup_packet.result c.take_lookup_packet.ensures.rule c.take_lookup_packet.ensures.keeps))

pub returns-in-Ack-clause-does : goal.returns-in-Ack-clause-does
unfolding take_body
returns-in-Ack-clause-does g c =
    rw c.in-Ack.is
    (on_ok_weaker c.take_ack_packet.result (λ both. plain_does _ _ (receive_nothing _ _) c.args.core.now c.take_ack_packet.new.core _ both.0 both.1)
    (on_ok_both _ _ c.take_ack_packet.result c.take_ack_packet.ensures.rule c.take_ack_packet.ensures.keeps))

pub returns-in-Query-clause-does : goal.returns-in-Query-clause-does
unfolding take_body
returns-in-Query-clause-does g c =
    rw c.in-Query.is
    (on_ok_weaker c.take_query.result (λ both. plain_does _ _ (receive_nothing _ _) c.args.core.now c.take_query.new.core _ both.0 both.1)
    (on_ok_both _ _ c.take_query.result c.take_query.ensures.rule c.take_query.ensures.keeps))

pub returns-in-Reply-clause-does : goal.returns-in-Reply-clause-does
unfolding take_body
returns-in-Reply-clause-does g c = rw c.in-Reply.is (does_nothing _ _ _ (receive_nothing _ _))

pub returns-in-Prepare-clause-does : goal.returns-in-Prepare-clause-does
unfolding take_body
returns-in-Prepare-clause-does g c = rw c.in-Prepare.is c.take_prepare.ensures.does

pub returns-in-Answer-clause-does : goal.returns-in-Answer-clause-does
unfolding take_body
returns-in-Answer-clause-does g c = rw c.in-Answer.is c.take_answer.ensures.does

pub returns-in-Refuse-clause-does : goal.returns-in-Refuse-clause-does
unfolding take_body
returns-in-Refuse-clause-does g c = rw c.in-Refuse.is c.take_refuse.ensures.does

pub returns-in-Install-clause-does : goal.returns-in-Install-clause-does
unfolding take_body
returns-in-Install-clause-does g c = rw c.in-Install.is c.take_install.ensures.does

pub returns-in-Taken-clause-does : goal.returns-in-Taken-clause-does
unfolding take_body
returns-in-Taken-clause-does g c = rw c.in-Taken.is c.take_taken.ensures.does

pub returns-in-Request-clause-does : goal.returns-in-Request-clause-does
unfolding take_body
returns-in-Request-clause-does g c = rw c.in-Request.is c.take_request_packet.ensures.does

pub returns-in-Entry-clause-does : goal.returns-in-Entry-clause-does
unfolding take_body
returns-in-Entry-clause-does g c = rw c.in-Entry.is c.take_entry_packet.ensures.does

pub returns-in-Vote-clause-does : goal.returns-in-Vote-clause-does
unfolding take_body
returns-in-Vote-clause-does g c = rw c.in-Vote.is c.take_vote_packet.ensures.does

pub returns-in-Gone-clause-does : goal.returns-in-Gone-clause-does
unfolding take_body
returns-in-Gone-clause-does g c = rw c.in-Gone.is c.take_gone_packet.ensures.does
