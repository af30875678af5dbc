-- The notices are what is recorded.
use Rattle.std.proofs.Common.{◌++◌, sym, ap, subst, ◌∙◌}
use Rattle.std.proofs.lemmas.Result.{on_ok_weaker}
use Rattle.session_state.specs.HandOn.{casts_out}
use Rattle.entry_delivery.specs.Received.{Receive}
use Rattle.entry_delivery.specs.Telling.{heard_handings}
use Rattle.entry_delivery.proofs.ReceiveLaws.{receive_notices}
use Rattle.entry_delivery.proofs.delivery.hand.Goals as goal

pub returns-clause-received : goal.returns-clause-received
returns-clause-received g c =
    on_ok_weaker c.record_all_heard.result
    (λ recording. subst (λ cs. Receive g.C.Callbacks.stands_for c.args.clients.now.items c.hand_entry_on.new.clients.items (heard_handings c.args.core.now.sessions c.args.entry.now.view c.args.entry.now.group.now c.args.entry.now.place c.args.entry.now.entry.now c.args.entry.now.after.now cs))
    (sym (c.in_ok-hand_entry_on.ensures.handed.3 ∙ ap (λ cs. cs ++ casts_out c.args.core.now.sessions c.args.entry.now.group.now c.args.before.now c.args.entry.now.after.now c.args.entry.now.entry.now c.in_ok-hand_entry_on.ensures.handed.0) c.requires.empty))
    (receive_notices g.C.Callbacks.stands_for c.args.clients.now.items c.hand_entry_on.new.clients.items _ _ _ _ _ _ _ c.in_ok-hand_entry_on.ensures.handed.4))
    c.record_all_heard.ensures
