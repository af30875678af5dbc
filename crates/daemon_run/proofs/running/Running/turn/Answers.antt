-- What was heard broke off: no tick was due, or what the options ask was done.
use Rattle.std.proofs.Common.{◌-◌, ◌<◌, ◌≤◌, sym, ◌∙◌, arith}
use Rattle.daemon_run.specs.Audience.{Attend}
use Rattle.daemon_run.specs.Doing.{HearsAs, HearBreaks, HearFails}
use Rattle.daemon_run.specs.Turning.{TurnsAs, TurnBreaks, TurnFails}
use Rattle.daemon_run.proofs.FailLaws.{unwritten_on, no_pause, broke_on, broke_all, done_on, stops_on}
use Rattle.daemon_run.proofs.TurnLaws.{turn_kept, turn_ends_own, turn_broke_plain, turn_broke_kept, turn_fails_plain, turn_fails_kept}
use Rattle.daemon_run.proofs.running.Running.turn.Goals as goal

pub returns-then-not-due-clause-broke : goal.returns-then-not-due-clause-broke
returns-then-not-due-clause-broke g c =
    let lt : c.now-moment.result - c.args.self.now.last < 100 = omega arith in
    let broke : HearBreaks c.tick_if_due.new.self (g.O.Outside.told c.tick_if_due.new.outside) (g.O.Outside.told c.hear.new.outside) → TurnBreaks c.args.options c.args.pace.now c.args.self.now (g.O.Outside.told c.args.outside.now) (g.O.Outside.told c.hear.new.outside)
    = λ h. turn_broke_plain c.args.options c.args.pace.now c.args.self.now c.tick_if_due.new.self c.now-moment.result _ _ _ _ c.now-moment.ensures.read (sym c.is_pause.ensures ∙ c.if-is_pause.false) lt c.in_ok-tick_if_due.ensures.done h in
    broke_on c.hear.result broke c.hear.ensures.broke

pub returns-then-not-due-clause-unwritten : goal.returns-then-not-due-clause-unwritten
returns-then-not-due-clause-unwritten g c =
    let lt : c.now-moment.result - c.args.self.now.last < 100 = omega arith in
    let unwritten : HearFails (Attend g.C.Callbacks.stands_for g.C.Callbacks.script) c.tick_if_due.new.self c.hear.new.self (g.O.Outside.told c.tick_if_due.new.outside) (g.O.Outside.told c.hear.new.outside) → TurnFails (Attend g.C.Callbacks.stands_for g.C.Callbacks.script) c.args.options c.args.pace.now c.args.self.now c.hear.new.self (g.O.Outside.told c.args.outside.now) (g.O.Outside.told c.hear.new.outside)
    = λ h. turn_fails_plain c.args.options c.args.pace.now c.args.self.now c.tick_if_due.new.self c.hear.new.self c.now-moment.result _ _ _ _ c.now-moment.ensures.read (sym c.is_pause.ensures ∙ c.if-is_pause.false) lt c.in_ok-tick_if_due.ensures.done h in
    unwritten_on c.hear.result unwritten c.hear.ensures.unwritten

pub returns-then-not-due-clause-paused : goal.returns-then-not-due-clause-paused
returns-then-not-due-clause-paused g c = no_pause _ (g.O.Outside.told c.hear.new.outside) c.hear.result c.hear.ensures.fault

pub returns-then-not-due-clause-fault : goal.returns-then-not-due-clause-fault
returns-then-not-due-clause-fault g c = stops_on (g.O.Outside.told c.hear.new.outside) c.hear.result c.hear.ensures.fault

pub returns-in_err-pace-clause-broke : goal.returns-in_err-pace-clause-broke
returns-in_err-pace-clause-broke g c =
    let le : 100 ≤ c.now-moment.result - c.args.self.now.last = omega arith in
    let broke : TurnBreaks c.args.options c.args.pace.now c.args.self.now (g.O.Outside.told c.args.outside.now) (g.O.Outside.told c.keep.new.outside)
    = turn_ends_own c.args.options c.args.pace.now c.args.self.now c.tick_if_due.new.self c.now-moment.result _ _ _ _ c.now-moment.ensures.read (sym c.is_pause.ensures ∙ c.if-is_pause.false) le c.in_ok-tick_if_due.ensures.done c.in_err-pace.ensures.broke in
    broke_all c.from_residual-in_err-pace.result broke

pub returns-clause-done : goal.returns-clause-done
returns-clause-done g c =
    let le : 100 ≤ c.now-moment.result - c.args.self.now.last = omega arith in
    let done : HearsAs (Attend g.C.Callbacks.stands_for g.C.Callbacks.script) c.keep.new.self c.hear-2.new.self (g.O.Outside.told c.keep.new.outside) (g.O.Outside.told c.hear-2.new.outside)
    → TurnsAs (Attend g.C.Callbacks.stands_for g.C.Callbacks.script) c.args.options c.args.pace.now (record { before = c.now-moment.result; apart = c.in_ok-pace.field-0 }) c.args.self.now c.hear-2.new.self (g.O.Outside.told c.args.outside.now) (g.O.Outside.told c.hear-2.new.outside)
    = λ h. turn_kept c.args.options c.args.pace.now c.in_ok-pace.field-0 c.args.self.now c.tick_if_due.new.self c.keep.new.self c.hear-2.new.self c.now-moment.result _ _ _ _ _ c.now-moment.ensures.read (sym c.is_pause.ensures ∙ c.if-is_pause.false) le c.in_ok-tick_if_due.ensures.done c.in_ok-pace.ensures.done h in
    done_on c.hear-2.result done c.hear-2.ensures.done

pub returns-clause-broke : goal.returns-clause-broke
returns-clause-broke g c =
    let le : 100 ≤ c.now-moment.result - c.args.self.now.last = omega arith in
    let broke : HearBreaks c.keep.new.self (g.O.Outside.told c.keep.new.outside) (g.O.Outside.told c.hear-2.new.outside) → TurnBreaks c.args.options c.args.pace.now c.args.self.now (g.O.Outside.told c.args.outside.now) (g.O.Outside.told c.hear-2.new.outside)
    = λ h. turn_broke_kept c.args.options c.args.pace.now c.in_ok-pace.field-0 c.args.self.now c.tick_if_due.new.self c.keep.new.self c.now-moment.result _ _ _ _ _ c.now-moment.ensures.read (sym c.is_pause.ensures ∙ c.if-is_pause.false) le c.in_ok-tick_if_due.ensures.done c.in_ok-pace.ensures.done h in
    broke_on c.hear-2.result broke c.hear-2.ensures.broke

pub returns-clause-unwritten : goal.returns-clause-unwritten
returns-clause-unwritten g c =
    let le : 100 ≤ c.now-moment.result - c.args.self.now.last = omega arith in
    let unwritten : HearFails (Attend g.C.Callbacks.stands_for g.C.Callbacks.script) c.keep.new.self c.hear-2.new.self (g.O.Outside.told c.keep.new.outside) (g.O.Outside.told c.hear-2.new.outside) → TurnFails (Attend g.C.Callbacks.stands_for g.C.Callbacks.script) c.args.options c.args.pace.now c.args.self.now c.hear-2.new.self (g.O.Outside.told c.args.outside.now) (g.O.Outside.told c.hear-2.new.outside)
    = λ h. turn_fails_kept c.args.options c.args.pace.now c.in_ok-pace.field-0 c.args.self.now c.tick_if_due.new.self c.keep.new.self c.hear-2.new.self c.now-moment.result _ _ _ _ _ c.now-moment.ensures.read (sym c.is_pause.ensures ∙ c.if-is_pause.false) le c.in_ok-tick_if_due.ensures.done c.in_ok-pace.ensures.done h in
    unwritten_on c.hear-2.result unwritten c.hear-2.ensures.unwritten

pub returns-clause-paused : goal.returns-clause-paused
returns-clause-paused g c = no_pause _ (g.O.Outside.told c.hear-2.new.outside) c.hear-2.result c.hear-2.ensures.fault

pub returns-clause-fault : goal.returns-clause-fault
returns-clause-fault g c = stops_on (g.O.Outside.told c.hear-2.new.outside) c.hear-2.result c.hear-2.ensures.fault
