use Rattle.std.proofs.Common.{◌≡◌, subst, rules, Option, Some, None}
use Rattle.link_use.specs.declared.receiving.Whole.{Whole}
use Rattle.link_use.specs.Receiving.{Receives, whole_in}
use Rattle.status_client.specs.Question.{reply_to}
use Rattle.status_client.proofs.WaitLaws.{hears_none, hears_whole}
use Rattle.status_client.proofs.waiting.Waiting.hear.Goals as goal

pub returns-in_default-clause-hears : goal.returns-in_default-clause-hears
returns-in_default-clause-hears g c =
    hears_none c.args.self.now c.receive.new.self _ _
    (subst (λ (o : Option Whole). Receives c.args.self.now.receiving c.receive.new.self (whole_in o) (g.O.Outside.told c.args.outside.now) (g.O.Outside.told c.receive.new.outside)) c.in_default.is c.in_ok-whole.ensures.received)

pub returns-in-None-clause-hears : goal.returns-in-None-clause-hears
returns-in-None-clause-hears g c =
    let none : None ≡ reply_to c.args.self.now.question c.in-Some.whole.message.items = search rules in
    hears_whole c.args.self.now c.receive.new.self c.in-Some.whole.network c.in-Some.whole.message.items None _ _
    (subst (λ (o : Option Whole). Receives c.args.self.now.receiving c.receive.new.self (whole_in o) (g.O.Outside.told c.args.outside.now) (g.O.Outside.told c.receive.new.outside)) c.in-Some.is c.in_ok-whole.ensures.received)
    none

pub returns-clause-hears : goal.returns-clause-hears
returns-clause-hears g c =
    let text : Some c.in_ok-from_slice-in-Some-reply_to.field-0.items ≡ reply_to c.args.self.now.question c.in-Some.whole.message.items = search rules in
    hears_whole c.args.self.now c.receive.new.self c.in-Some.whole.network c.in-Some.whole.message.items (Some c.in_ok-from_slice-in-Some-reply_to.field-0.items) _ _
    (subst (λ (o : Option Whole). Receives c.args.self.now.receiving c.receive.new.self (whole_in o) (g.O.Outside.told c.args.outside.now) (g.O.Outside.told c.receive.new.outside)) c.in-Some.is c.in_ok-whole.ensures.received)
    text
