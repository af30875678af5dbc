-- What the start records broke off, or a call of the settings.
use Rattle.std.proofs.Common.{◌≡◌, ap, ap₂, None, subst}
use Rattle.std.proofs.lemmas.Result.{on_ok_weaker, on_err_weaker}
use Rattle.link_use.proofs.SendLaws.{on_err}
use Rattle.daemon_model.specs.Daemon.{own_calls}
use Rattle.daemon_model.specs.Doings.{MadeFront}
use Rattle.daemon_run.specs.declared.running.Running.{Running}
use Rattle.daemon_run.specs.Audience.{AttendWith}
use Rattle.daemon_run.specs.Doing.{left_doings, Settles, SettleFails}
use Rattle.daemon_run.specs.Calling.{CallsAs, CallsBreak, CallsFail, fresh_running, BeginsAs, BeginBreaks, BeginFails}
use Rattle.daemon_run.proofs.CallLaws.{begins_done, begins_stopped, begins_broke, begins_fail, begins_fail_at_start}
use Rattle.daemon_run.proofs.FailLaws.{unwritten_on, unwritten_by}
use Rattle.daemon_run.proofs.running.Running.begin.Goals as goal

pub returns-in_err-_refused-clause-broke : goal.returns-in_err-_refused-clause-broke
returns-in_err-_refused-clause-broke g c =
    let front : MadeFront (g.O.Outside.told c.args.outside.now) (g.O.Outside.told c.settle.new.outside) (left_doings (fresh_running {C = g.row.C.Denot} c.args.serving.options.service c.args.script.now.config c.args.serving.me c.args.serving.incarnation c.args.self.now.last))
    = subst (λ (r : Running g.row.C.Denot). MadeFront (g.O.Outside.told c.args.outside.now) (g.O.Outside.told c.settle.new.outside) (left_doings r)) c.requires.fresh c.in_err-_refused.ensures.broke in
    on_err c.from_residual.result (begins_stopped g.row.C.Denot c.args.serving.options.service c.args.script.now c.args.serving.me c.args.serving.incarnation c.args.self.now.last _ _ front)

pub returns-in_err-_refused-clause-unwritten : goal.returns-in_err-_refused-clause-unwritten
returns-in_err-_refused-clause-unwritten g c =
    unwritten_by c.from_residual.result _ c.from_residual.ensures
    (λ e. begins_fail_at_start c.args.serving.options.service c.args.script.now c.args.serving.me c.args.serving.incarnation c.args.self.now.last c.settle.new.self _ _
    (subst (λ (r : Running g.row.C.Denot). SettleFails r c.settle.new.self (g.O.Outside.told c.args.outside.now) (g.O.Outside.told c.settle.new.outside)) c.requires.fresh (c.in_err-_refused.ensures.unwritten e)))

pub returns-clause-done : goal.returns-clause-done
returns-clause-done g c =
    let settled : Settles None (fresh_running {C = g.row.C.Denot} c.args.serving.options.service c.args.script.now.config c.args.serving.me c.args.serving.incarnation c.args.self.now.last) c.settle.new.self (g.O.Outside.told c.args.outside.now) (g.O.Outside.told c.settle.new.outside)
    = subst (λ (r : Running g.row.C.Denot). Settles None r c.settle.new.self (g.O.Outside.told c.args.outside.now) (g.O.Outside.told c.settle.new.outside)) c.requires.fresh c.in_ok-_refused.ensures.done in
    let me : c.settle.new.self.outbox.me ≡ c.args.serving.me = ap (λ (r : Running g.row.C.Denot). r.outbox.me) settled.is in
    let done : CallsAs (AttendWith (g.H.Hosts.stand c.args.hosts.now) g.C.Callbacks.stands_for g.C.Callbacks.script) (AttendWith (g.H.Hosts.stand c.carry_lines.new.hosts) g.C.Callbacks.stands_for g.C.Callbacks.script) c.settle.new.self c.carry_lines.new.self (own_calls c.settle.new.self.outbox.me c.as_slice.result.now) (g.O.Outside.told c.settle.new.outside) (g.O.Outside.told c.carry_lines.new.outside)
    → BeginsAs (AttendWith (g.H.Hosts.stand c.args.hosts.now) g.C.Callbacks.stands_for g.C.Callbacks.script) (AttendWith (g.H.Hosts.stand c.carry_lines.new.hosts) g.C.Callbacks.stands_for g.C.Callbacks.script) c.args.serving.options.service c.args.script.now c.args.serving.me c.args.serving.incarnation c.args.self.now.last c.carry_lines.new.self (g.O.Outside.told c.args.outside.now) (g.O.Outside.told c.carry_lines.new.outside)
    = λ h. begins_done c.args.serving.options.service c.args.script.now c.args.serving.me c.args.serving.incarnation c.args.self.now.last c.settle.new.self c.carry_lines.new.self _ _ _ settled
    (subst (λ calls. CallsAs (AttendWith (g.H.Hosts.stand c.args.hosts.now) g.C.Callbacks.stands_for g.C.Callbacks.script) (AttendWith (g.H.Hosts.stand c.carry_lines.new.hosts) g.C.Callbacks.stands_for g.C.Callbacks.script) c.settle.new.self c.carry_lines.new.self calls (g.O.Outside.told c.settle.new.outside) (g.O.Outside.told c.carry_lines.new.outside)) (ap₂ own_calls me c.as_slice.ensures) h) in
    on_ok_weaker c.carry_lines.result done c.carry_lines.ensures.done

pub returns-clause-broke : goal.returns-clause-broke
returns-clause-broke g c =
    let settled : Settles None (fresh_running {C = g.row.C.Denot} c.args.serving.options.service c.args.script.now.config c.args.serving.me c.args.serving.incarnation c.args.self.now.last) c.settle.new.self (g.O.Outside.told c.args.outside.now) (g.O.Outside.told c.settle.new.outside)
    = subst (λ (r : Running g.row.C.Denot). Settles None r c.settle.new.self (g.O.Outside.told c.args.outside.now) (g.O.Outside.told c.settle.new.outside)) c.requires.fresh c.in_ok-_refused.ensures.done in
    let me : c.settle.new.self.outbox.me ≡ c.args.serving.me = ap (λ (r : Running g.row.C.Denot). r.outbox.me) settled.is in
    let broke : CallsBreak c.settle.new.self (own_calls c.settle.new.self.outbox.me c.as_slice.result.now) (g.O.Outside.told c.settle.new.outside) (g.O.Outside.told c.carry_lines.new.outside)
    → BeginBreaks c.args.serving.options.service c.args.script.now c.args.serving.me c.args.serving.incarnation c.args.self.now.last (g.O.Outside.told c.args.outside.now) (g.O.Outside.told c.carry_lines.new.outside)
    = λ h. begins_broke c.args.serving.options.service c.args.script.now c.args.serving.me c.args.serving.incarnation c.args.self.now.last c.settle.new.self _ _ _ settled
    (subst (λ calls. CallsBreak c.settle.new.self calls (g.O.Outside.told c.settle.new.outside) (g.O.Outside.told c.carry_lines.new.outside)) (ap₂ own_calls me c.as_slice.ensures) h) in
    on_err_weaker c.carry_lines.result broke c.carry_lines.ensures.broke

pub returns-clause-unwritten : goal.returns-clause-unwritten
returns-clause-unwritten g c =
    let settled : Settles None (fresh_running {C = g.row.C.Denot} c.args.serving.options.service c.args.script.now.config c.args.serving.me c.args.serving.incarnation c.args.self.now.last) c.settle.new.self (g.O.Outside.told c.args.outside.now) (g.O.Outside.told c.settle.new.outside)
    = subst (λ (r : Running g.row.C.Denot). Settles None r c.settle.new.self (g.O.Outside.told c.args.outside.now) (g.O.Outside.told c.settle.new.outside)) c.requires.fresh c.in_ok-_refused.ensures.done in
    let me : c.settle.new.self.outbox.me ≡ c.args.serving.me = ap (λ (r : Running g.row.C.Denot). r.outbox.me) settled.is in
    let unwritten : CallsFail (AttendWith (g.H.Hosts.stand c.args.hosts.now) g.C.Callbacks.stands_for g.C.Callbacks.script) (AttendWith (g.H.Hosts.stand c.carry_lines.new.hosts) g.C.Callbacks.stands_for g.C.Callbacks.script) c.settle.new.self c.carry_lines.new.self (own_calls c.settle.new.self.outbox.me c.as_slice.result.now) (g.O.Outside.told c.settle.new.outside) (g.O.Outside.told c.carry_lines.new.outside)
    → BeginFails (AttendWith (g.H.Hosts.stand c.args.hosts.now) g.C.Callbacks.stands_for g.C.Callbacks.script) (AttendWith (g.H.Hosts.stand c.carry_lines.new.hosts) g.C.Callbacks.stands_for g.C.Callbacks.script) c.args.serving.options.service c.args.script.now c.args.serving.me c.args.serving.incarnation c.args.self.now.last c.carry_lines.new.self (g.O.Outside.told c.args.outside.now) (g.O.Outside.told c.carry_lines.new.outside)
    = λ h. begins_fail c.args.serving.options.service c.args.script.now c.args.serving.me c.args.serving.incarnation c.args.self.now.last c.settle.new.self c.carry_lines.new.self _ _ _ settled
    (subst (λ calls. CallsFail (AttendWith (g.H.Hosts.stand c.args.hosts.now) g.C.Callbacks.stands_for g.C.Callbacks.script) (AttendWith (g.H.Hosts.stand c.carry_lines.new.hosts) g.C.Callbacks.stands_for g.C.Callbacks.script) c.settle.new.self c.carry_lines.new.self calls (g.O.Outside.told c.settle.new.outside) (g.O.Outside.told c.carry_lines.new.outside)) (ap₂ own_calls me c.as_slice.ensures) h) in
    unwritten_on c.carry_lines.result unwritten c.carry_lines.ensures.unwritten
