-- By whether the group is refused, and which request of the provider was decided last.
use Rattle.std.proofs.Common.{◌≡◌, false, Some, None, refl, sym}
use Rattle.std.proofs.lemmas.Result.{on_ok_weaker}
use Rattle.node_state.specs.State.{led_of, decision_of}
use Rattle.node_state.specs.Following.{is_group_refused}
use Rattle.node_groups.proofs.KeepLaws.{keeps_itself, sent_keeps}
use Rattle.entry_delivery.proofs.DoingLaws.{receive_nothing, does_as}
use Rattle.group_leading.proofs.RowLaws.{does_row, work_row}
use Rattle.group_requests.proofs.RequestLaws.{again_keeps, request_refused, request_first, request_late, request_same, request_next}
use Rattle.group_requests.proofs.requests.take_request.Goals as goal

pub returns-then-is_group_refused-clause-work : goal.returns-then-is_group_refused-clause-work
returns-then-is_group_refused-clause-work g c =
    on_ok_weaker c.send_name.result (work_row c.args.core.now c.send_name.new.core _ c.args.clients.now.items c.requires.work (sent_keeps c.args.core.now c.args.from _)) c.send_name.ensures

pub returns-then-is_group_refused-clause-does : goal.returns-then-is_group_refused-clause-does
returns-then-is_group_refused-clause-does g c =
    on_ok_weaker c.send_name.result
    (does_row _ _ (receive_nothing _ _) c.args.core.now c.send_name.new.core _ _ (sent_keeps c.args.core.now c.args.from _)
    (λ f. request_refused f c.args.core.now c.args.from c.args.asked.now.group c.args.asked.now.provider c.args.asked.now.request c.args.asked.now.phases c.args.asked.now.proposal (sym (rw c.bytes.ensures.value at c.if-is_group_refused.ensures))))
    c.send_name.ensures

pub returns-in_default-clause-does : goal.returns-in_default-clause-does
returns-in_default-clause-does g c =
    let taken : is_group_refused c.args.core.now c.args.asked.now.group ≡ false = sym (rw c.bytes.ensures.value at c.if-is_group_refused.ensures) in
    let none : decision_of (led_of c.args.core.now c.args.asked.now.group) c.args.asked.now.provider ≡ None = sym (rw c.bytes-2.ensures.value at c.in_default.ensures) in
    on_ok_weaker c.decide_new.result
    (does_as _ _ c.args.core.now c.decide_new.new.core _ _ (λ f. request_first f c.args.core.now c.args.from c.args.asked.now.group c.args.asked.now.provider c.args.asked.now.request c.args.asked.now.phases c.args.asked.now.proposal taken none))
    c.decide_new.ensures.does

pub returns-then-asked-last-clause-does : goal.returns-then-asked-last-clause-does
returns-then-asked-last-clause-does g c =
    let taken : is_group_refused c.args.core.now c.args.asked.now.group ≡ false = sym (rw c.bytes.ensures.value at c.if-is_group_refused.ensures) in
    let some : decision_of (led_of c.args.core.now c.args.asked.now.group) c.args.asked.now.provider ≡ Some c.in-Some.last = sym (rw c.bytes-2.ensures.value at c.in-Some.ensures) in
    does_row _ _ (receive_nothing _ _) c.args.core.now c.args.core.now c.args.core.now _ (keeps_itself c.args.core.now)
    (λ f. request_late f c.args.core.now c.args.from c.args.asked.now.group c.args.asked.now.provider c.args.asked.now.request c.args.asked.now.phases c.args.asked.now.proposal c.in-Some.last taken some c.if-asked-last.true) refl

pub returns-then-asked-last-2-clause-work : goal.returns-then-asked-last-2-clause-work
returns-then-asked-last-2-clause-work g c =
    on_ok_weaker c.tell_again.result
    (work_row c.args.core.now c.tell_again.new.core _ c.args.clients.now.items c.requires.work (again_keeps c.args.core.now c.args.asked.now.group c.args.asked.now.provider c.args.asked.now.request c.in-Some.last.why))
    c.tell_again.ensures

pub returns-then-asked-last-2-clause-does : goal.returns-then-asked-last-2-clause-does
returns-then-asked-last-2-clause-does g c =
    let taken : is_group_refused c.args.core.now c.args.asked.now.group ≡ false = sym (rw c.bytes.ensures.value at c.if-is_group_refused.ensures) in
    let some : decision_of (led_of c.args.core.now c.args.asked.now.group) c.args.asked.now.provider ≡ Some c.in-Some.last = sym (rw c.bytes-2.ensures.value at c.in-Some.ensures) in
    on_ok_weaker c.tell_again.result
    (does_row _ _ (receive_nothing _ _) c.args.core.now c.tell_again.new.core _ _ (again_keeps c.args.core.now c.args.asked.now.group c.args.asked.now.provider c.args.asked.now.request c.in-Some.last.why)
    (λ f. request_same f c.args.core.now c.args.from c.args.asked.now.group c.args.asked.now.provider c.args.asked.now.request c.args.asked.now.phases c.args.asked.now.proposal c.in-Some.last taken some c.if-asked-last.false c.if-asked-last-2.true))
    c.tell_again.ensures

pub returns-clause-does : goal.returns-clause-does
returns-clause-does g c =
    let taken : is_group_refused c.args.core.now c.args.asked.now.group ≡ false = sym (rw c.bytes.ensures.value at c.if-is_group_refused.ensures) in
    let some : decision_of (led_of c.args.core.now c.args.asked.now.group) c.args.asked.now.provider ≡ Some c.in-Some.last = sym (rw c.bytes-2.ensures.value at c.in-Some.ensures) in
    on_ok_weaker c.decide_new-2.result
    (does_as _ _ c.args.core.now c.decide_new-2.new.core _ _
    (λ f. request_next f c.args.core.now c.args.from c.args.asked.now.group c.args.asked.now.provider c.args.asked.now.request c.args.asked.now.phases c.args.asked.now.proposal c.in-Some.last taken some c.if-asked-last.false c.if-asked-last-2.false))
    c.decide_new-2.ensures.does
