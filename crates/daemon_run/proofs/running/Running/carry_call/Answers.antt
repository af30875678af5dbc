-- What the call left broke off.
use Rattle.std.proofs.lemmas.Result.{on_err_weaker}
use Rattle.node_state.specs.Step.{Calls}
use Rattle.daemon_model.specs.Doings.{MadeFront}
use Rattle.daemon_run.specs.Audience.{Attend, AttendWith}
use Rattle.daemon_run.specs.Doing.{left_doings, SettleFails, StepBreaks, StepFails}
use Rattle.daemon_run.proofs.FailLaws.{unwritten_on}
use Rattle.daemon_run.proofs.StepLaws.{step_broke, step_fails}
use Rattle.daemon_run.proofs.running.Running.carry_call.Goals as goal

pub returns-clause-broke : goal.returns-clause-broke
returns-clause-broke g c =
    let broke : MadeFront (g.O.Outside.told c.args.outside.now) (g.O.Outside.told c.settle.new.outside) (left_doings c.call.new.self)
    → StepBreaks c.args.calling c.args.self.now (g.O.Outside.told c.args.outside.now) (g.O.Outside.told c.settle.new.outside) (Calls c.args.call.now)
    = λ h. step_broke c.args.calling c.args.self.now c.call.new.self _ _ (Calls c.args.call.now) c.in_ok-call.ensures.does h in
    on_err_weaker c.settle.result broke c.settle.ensures.broke

pub returns-clause-unwritten : goal.returns-clause-unwritten
returns-clause-unwritten g c =
    let unwritten : SettleFails c.call.new.self c.settle.new.self (g.O.Outside.told c.args.outside.now) (g.O.Outside.told c.settle.new.outside)
    → StepFails (AttendWith (g.H.Hosts.stand c.args.hosts.now) g.C.Callbacks.stands_for g.C.Callbacks.script) (AttendWith (g.H.Hosts.stand c.call.new.hosts) g.C.Callbacks.stands_for g.C.Callbacks.script) c.args.calling c.args.self.now c.settle.new.self (g.O.Outside.told c.args.outside.now) (g.O.Outside.told c.settle.new.outside) (Calls c.args.call.now)
    = λ h. step_fails c.args.calling c.args.self.now c.call.new.self c.settle.new.self _ _ (Calls c.args.call.now) c.in_ok-call.ensures.does h in
    unwritten_on c.settle.result unwritten c.settle.ensures.unwritten

pub returns-clause-plain_unwritten : goal.returns-clause-plain_unwritten
returns-clause-plain_unwritten g c = λ plain.
    let unwritten : SettleFails c.call.new.self c.settle.new.self (g.O.Outside.told c.args.outside.now) (g.O.Outside.told c.settle.new.outside)
    → StepFails (Attend g.C.Callbacks.stands_for g.C.Callbacks.script) (Attend g.C.Callbacks.stands_for g.C.Callbacks.script) c.args.calling c.args.self.now c.settle.new.self (g.O.Outside.told c.args.outside.now) (g.O.Outside.told c.settle.new.outside) (Calls c.args.call.now)
    = λ h. step_fails c.args.calling c.args.self.now c.call.new.self c.settle.new.self _ _ (Calls c.args.call.now) (c.in_ok-call.ensures.plain plain) h in
    unwritten_on c.settle.result unwritten c.settle.ensures.unwritten
