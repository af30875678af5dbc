-- A vote fails where a tally is open.
use Rattle.std.proofs.Common.{◌≡◌, true, is_some}
use Rattle.std.proofs.lemmas.Result.{on_ok_weaker}
use Rattle.node_state.specs.State.{led_of}
use Rattle.entry_delivery.proofs.DoingLaws.{receive_nothing}
use Rattle.group_leading.proofs.RowLaws.{copied_is}
use Rattle.group_requests.proofs.GoneLaws.{unfailed_does, failing_does}
use Rattle.group_requests.proofs.goodbyes.fail_vote.Goals as goal

pub returns-then-is_none-clause-does : goal.returns-then-is_none-clause-does
returns-then-is_none-clause-does g c =
    unfailed_does _ _ (receive_nothing _ _) c.args.core.now c.args.group.now c.args.provider (copied_is c.tally_of.result _ _ (rw c.bytes.ensures.value at c.tally_of.ensures) c.if-is_none.ensures)

pub returns-clause-does : goal.returns-clause-does
returns-clause-does g c =
    let some : is_some (led_of c.args.core.now c.args.group.now).tally ≡ true = copied_is c.tally_of.result _ _ (rw c.bytes.ensures.value at c.tally_of.ensures) c.if-is_none.ensures in
    on_ok_weaker c.close.result (failing_does _ _ c.args.core.now c.fail_voter.new.core c.close.new.core c.args.group.now c.args.provider some c.in_ok-fail_voter.ensures.rule) c.close.ensures.does
