-- The first group, and then the others.
use Rattle.std.proofs.Common.{◌-◌, drop, length, subst, take}
use Rattle.std.specs.Prelude.{fold}
use Rattle.std.proofs.lemmas.Result.{on_ok_weaker}
use Rattle.node_state.specs.Ticks.{tick_group}
use Rattle.entry_delivery.specs.Received.{Receive}
use Rattle.entry_delivery.specs.Doing.{Does}
use Rattle.entry_delivery.proofs.DoingLaws.{receive_nothing, receive_then}
use Rattle.group_deciding.proofs.TickLaws.{Scripts, groups_none, groups_do}
use Rattle.group_deciding.proofs.leader_tick.+tick_groups.Goals as goal

pub returns-in_ok-tick_group-in-len1-up-clause-does : goal.returns-in_ok-tick_group-in-len1-up-clause-does
returns-in_ok-tick_group-in-len1-up-clause-does g t c =
    on_ok_weaker c.tick_groups.result
    (λ done. groups_do _ _ _ _ (receive_then _ _ _ _) c.args.core.now c.tick_group.new.core c.tick_groups.new.core c.args.names.now c.g-item.result c.in-len1-up.len_at_least c.g-item.is c.in_ok-tick_group-in-len1-up.ensures.does
    (subst (λ (scripts : Scripts). Does scripts (Receive g.C.Callbacks.stands_for c.tick_group.new.clients.items c.tick_groups.new.clients.items) c.tick_group.new.core c.tick_groups.new.core (λ f. fold (tick_group f) c.tick_group.new.core (take (length c.args.names.now - 1) (drop 1 c.args.names.now)))) c.in_ok-tick_group-in-len1-up.ensures.scripts done))
    c.tick_groups.ensures.does

-- No group is left.
pub returns-in-empty-clause-does : goal.returns-in-empty-clause-does
returns-in-empty-clause-does g t c = groups_none _ _ (receive_nothing _ _) c.args.core.now c.args.names.now c.in-empty.len_below
