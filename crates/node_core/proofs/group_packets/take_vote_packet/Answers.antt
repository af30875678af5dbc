-- VOTE, which is used or is not.
use Rattle.std.proofs.lemmas.Result.{on_ok_weaker}
use Rattle.entry_delivery.proofs.DoingLaws.{receive_nothing}
use Rattle.node_core.proofs.StepLaws.{used_does, unused_does}
use Rattle.node_core.proofs.group_packets.take_vote_packet.Goals as goal

pub returns-then-not-is_used-clause-does : goal.returns-then-not-is_used-clause-does
returns-then-not-is_used-clause-does g c = unused_does _ _ (receive_nothing _ _) c.args.core.now _ _ (cc)

pub returns-clause-does : goal.returns-clause-does
returns-clause-does g c =
    on_ok_weaker c.take_vote.result (λ done. used_does _ _ c.args.core.now c.take_vote.new.core _ _ (cc) done)
    (rw (c.in_ok-name.ensures, c.in_ok-optional_text_of.ensures, c.in_ok-optional_text_of-2.ensures) at c.take_vote.ensures.does)
