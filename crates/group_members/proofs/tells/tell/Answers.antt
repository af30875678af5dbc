-- The client is told, and it is recorded.
use Rattle.std.proofs.Common.{sym, ◌∙◌}
use Rattle.std.proofs.lemmas.Result.{on_ok_weaker}
use Rattle.group_members.proofs.TellLaws.{untold_does, told_does}
use Rattle.group_members.proofs.tells.tell.Goals as goal

pub returns-then-not-is_outstanding-clause-does : goal.returns-then-not-is_outstanding-clause-does
returns-then-not-is_outstanding-clause-does g c =
    untold_does _ _ _ c.args.core.now c.args.provider c.args.request c.args.why (sym c.is_outstanding.ensures ∙ c.if-not-is_outstanding.true)

pub returns-clause-does : goal.returns-clause-does
returns-clause-does g c =
    on_ok_weaker c.push.result
    (told_does _ _ _ _ c.args.core.now c.tell_client.new.sessions c.push.new.self c.args.provider c.args.request c.args.why (sym c.is_outstanding.ensures ∙ c.if-not-is_outstanding.false) c.in_ok-tell_client.ensures.stand c.in_ok-tell_client.ensures.state)
    c.push.ensures.ok
