-- By whether the leader is news, and whether there is one.
use Rattle.std.proofs.Common.{◌≡◌, true, refl, sym}
use Rattle.std.proofs.lemmas.Result.{on_ok_weaker}
use Rattle.node_state.specs.Following.{is_name_used, take_name}
use Rattle.node_groups.proofs.KeepLaws.{keeps_itself}
use Rattle.entry_delivery.proofs.DoingLaws.{receive_nothing, does_plain, does_as}
use Rattle.group_leading.proofs.WorkLaws.{keeps_follows}
use Rattle.group_leading.proofs.RowLaws.{does_row, work_told, on_ok_two}
use Rattle.group_members.proofs.NameLaws.{name_unused, name_refused, name_led, refused_stays}
use Rattle.group_members.proofs.names.take_name.Goals as goal

pub returns-then-not-is_name_used-clause-does : goal.returns-then-not-is_name_used-clause-does
returns-then-not-is_name_used-clause-does g c =
    does_row _ _ (receive_nothing _ _) c.args.core.now c.args.core.now c.args.core.now _ (keeps_itself c.args.core.now) (λ f. name_unused c.args.core.now c.args.group.now c.args.node (sym (rw c.bytes.ensures.value at c.if-not-is_name_used.ensures))) refl

pub returns-then-node-eq0-clause-work : goal.returns-then-node-eq0-clause-work
returns-then-node-eq0-clause-work g c =
    on_ok_two c.refuse_requests.result
    (work_told _ _ c.args.core.now c.refuse_requests.new.core _ c.args.clients.now.items c.refuse_requests.new.clients.items c.requires.work (refused_stays c.args.core.now c.args.group.now))
    (rw c.bytes-then-node-eq0.ensures.value at c.refuse_requests.ensures.does) c.refuse_requests.ensures.aligned

pub returns-then-node-eq0-clause-does : goal.returns-then-node-eq0-clause-does
returns-then-node-eq0-clause-does g c =
    let used : is_name_used c.args.core.now c.args.group.now c.args.node ≡ true = sym (rw c.bytes.ensures.value at c.if-not-is_name_used.ensures) in
    on_ok_weaker c.refuse_requests.result
    (does_as _ _ c.args.core.now c.refuse_requests.new.core _ _ (λ f. name_refused c.args.core.now c.args.group.now c.args.node used c.if-node-eq0.true))
    (rw c.bytes-then-node-eq0.ensures.value at c.refuse_requests.ensures.does)

pub returns-clause-does : goal.returns-clause-does
returns-clause-does g c =
    let used : is_name_used c.args.core.now c.args.group.now c.args.node ≡ true = sym (rw c.bytes.ensures.value at c.if-not-is_name_used.ensures) in
    on_ok_two c.know_leader.result
    (λ led keeps. does_plain _ _ c.args.core.now c.know_leader.new.core (take_name c.args.core.now c.args.group.now c.args.node) (receive_nothing _ _) (name_led c.args.core.now c.know_leader.new.core c.args.group.now c.args.node used c.if-node-eq0.false led) (keeps_follows c.args.core.now c.know_leader.new.core keeps))
    c.know_leader.ensures.rule c.know_leader.ensures.keeps
