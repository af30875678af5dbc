-- What comes of the message that is whole.
use Rattle.std.proofs.Common.{Some}
use Rattle.std.proofs.lemmas.Result.{on_ok_weaker, on_err_weaker}
use Rattle.link_use.specs.Receiving.{Receives}
use Rattle.daemon_run.specs.Audience.{Attend}
use Rattle.daemon_run.specs.Doing.{GivesAs, GiveBreaks, GiveFails, HearsAs, HearBreaks, HearFails}
use Rattle.daemon_run.proofs.FailLaws.{unwritten_on}
use Rattle.daemon_run.proofs.TurnLaws.{hear_done, hear_broke, hear_fails, received_whole}
use Rattle.daemon_run.proofs.running.Running.hear.Goals as goal

pub returns-in-Some-clause-done : goal.returns-in-Some-clause-done
returns-in-Some-clause-done g c =
    let got : Receives c.args.self.now.receiving c.receive.new.self (Some (c.in-Some.whole.network, c.as_slice.result.now)) (g.O.Outside.told c.args.outside.now) (g.O.Outside.told c.receive.new.outside)
    = received_whole c.args.self.now.receiving c.receive.new.self c.in_ok-receive.field-0 c.in-Some.whole c.as_slice.result.now _ _ c.in-Some.is c.as_slice.ensures.value c.in_ok-receive.ensures.received in
    let done : GivesAs (Attend g.C.Callbacks.stands_for g.C.Callbacks.script) (record c.args.self.now { receiving = c.receive.new.self }) c.give.new.self (g.O.Outside.told c.receive.new.outside) (g.O.Outside.told c.give.new.outside) c.in-Some.whole.network c.as_slice.result.now
    → HearsAs (Attend g.C.Callbacks.stands_for g.C.Callbacks.script) c.args.self.now c.give.new.self (g.O.Outside.told c.args.outside.now) (g.O.Outside.told c.give.new.outside)
    = λ h. hear_done c.args.self.now c.give.new.self c.receive.new.self c.in-Some.whole.network c.as_slice.result.now _ _ _ got h in
    on_ok_weaker c.give.result done c.give.ensures.done

pub returns-in-Some-clause-broke : goal.returns-in-Some-clause-broke
returns-in-Some-clause-broke g c =
    let got : Receives c.args.self.now.receiving c.receive.new.self (Some (c.in-Some.whole.network, c.as_slice.result.now)) (g.O.Outside.told c.args.outside.now) (g.O.Outside.told c.receive.new.outside)
    = received_whole c.args.self.now.receiving c.receive.new.self c.in_ok-receive.field-0 c.in-Some.whole c.as_slice.result.now _ _ c.in-Some.is c.as_slice.ensures.value c.in_ok-receive.ensures.received in
    let broke : GiveBreaks (record c.args.self.now { receiving = c.receive.new.self }) (g.O.Outside.told c.receive.new.outside) (g.O.Outside.told c.give.new.outside) c.in-Some.whole.network c.as_slice.result.now
    → HearBreaks c.args.self.now (g.O.Outside.told c.args.outside.now) (g.O.Outside.told c.give.new.outside)
    = λ h. hear_broke c.args.self.now c.receive.new.self c.in-Some.whole.network c.as_slice.result.now _ _ _ got h in
    on_err_weaker c.give.result broke c.give.ensures.broke

pub returns-in-Some-clause-unwritten : goal.returns-in-Some-clause-unwritten
returns-in-Some-clause-unwritten g c =
    let got : Receives c.args.self.now.receiving c.receive.new.self (Some (c.in-Some.whole.network, c.as_slice.result.now)) (g.O.Outside.told c.args.outside.now) (g.O.Outside.told c.receive.new.outside)
    = received_whole c.args.self.now.receiving c.receive.new.self c.in_ok-receive.field-0 c.in-Some.whole c.as_slice.result.now _ _ c.in-Some.is c.as_slice.ensures.value c.in_ok-receive.ensures.received in
    let unwritten : GiveFails (Attend g.C.Callbacks.stands_for g.C.Callbacks.script) (record c.args.self.now { receiving = c.receive.new.self }) c.give.new.self (g.O.Outside.told c.receive.new.outside) (g.O.Outside.told c.give.new.outside) c.in-Some.whole.network c.as_slice.result.now
    → HearFails (Attend g.C.Callbacks.stands_for g.C.Callbacks.script) c.args.self.now c.give.new.self (g.O.Outside.told c.args.outside.now) (g.O.Outside.told c.give.new.outside)
    = λ h. hear_fails c.args.self.now c.give.new.self c.receive.new.self c.in-Some.whole.network c.as_slice.result.now _ _ _ got h in
    unwritten_on c.give.result unwritten c.give.ensures.unwritten
