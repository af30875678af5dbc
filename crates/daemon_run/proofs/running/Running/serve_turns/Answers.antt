-- A turn broke off, too many receives in a row failed, a moment was a pause, or all turns were done.
use Rattle.link_use.specs.declared.stop.Stop.TheVariants as stop
use Rattle.daemon_model.specs.Options.{first_pace}
use Rattle.daemon_run.proofs.FailLaws.{unwritten_by, fault_by, fault_is}
use Rattle.daemon_run.proofs.ServeLaws.{turns_ended, turns_broken, turns_fail, turns_paused, turns_front, ended_front}
use Rattle.daemon_run.proofs.running.Running.serve_turns.Goals as goal

pub returns-in_err-turn-clause-ever : goal.returns-in_err-turn-clause-ever
returns-in_err-turn-clause-ever g c = λ other.
    turns_broken c.args.options (first_pace c.args.start) c.loop.pace c.args.self.now c.loop.self c.loop.counter c.args.turns _ _ _ c.loop-test.true c.loop.invariant.done (c.in_err-turn.ensures.broke (λ is. other (fault_is c.from_residual-in_err-turn.result _ stop.Paused c.from_residual-in_err-turn.ensures is)))

pub returns-in_err-turn-clause-unwritten : goal.returns-in_err-turn-clause-unwritten
returns-in_err-turn-clause-unwritten g c =
    unwritten_by c.from_residual-in_err-turn.result _ c.from_residual-in_err-turn.ensures
    (λ e. turns_fail c.args.options (first_pace c.args.start) c.loop.pace c.args.self.now c.loop.self c.turn.new.self c.loop.counter c.args.turns _ _ _ c.loop-test.true c.loop.invariant.done (c.in_err-turn.ensures.unwritten e))

pub returns-in_err-turn-clause-paused : goal.returns-in_err-turn-clause-paused
returns-in_err-turn-clause-paused g c =
    fault_by c.from_residual-in_err-turn.result _ stop.Paused c.from_residual-in_err-turn.ensures
    (λ e. turns_paused c.args.options (first_pace c.args.start) c.loop.pace c.args.self.now c.loop.self c.turn.new.self c.loop.counter c.args.turns _ _ _ c.loop-test.true c.loop.invariant.done (c.in_err-turn.ensures.paused e).0 (c.in_err-turn.ensures.paused e).1)

pub returns-then-self-ge-MOST_FAILED-clause-ended :
    goal.returns-then-self-ge-MOST_FAILED-clause-ended
returns-then-self-ge-MOST_FAILED-clause-ended g c = λ e.
    turns_ended c.args.options (first_pace c.args.start) c.loop.pace c.turn.new.pace c.args.self.now c.loop.self c.turn.new.self c.loop.counter c.args.turns _ _ _ c.loop-test.true c.loop.invariant.done c.in_ok-turn.ensures.done c.if-self-ge-MOST_FAILED.true

pub returns-then-self-ge-MOST_FAILED-clause-ever :
    goal.returns-then-self-ge-MOST_FAILED-clause-ever
returns-then-self-ge-MOST_FAILED-clause-ever g c = λ other.
    ended_front c.args.options (first_pace c.args.start) c.args.self.now c.turn.new.self c.args.turns _ _
    (turns_ended c.args.options (first_pace c.args.start) c.loop.pace c.turn.new.pace c.args.self.now c.loop.self c.turn.new.self c.loop.counter c.args.turns _ _ _ c.loop-test.true c.loop.invariant.done c.in_ok-turn.ensures.done c.if-self-ge-MOST_FAILED.true)

pub returns-clause-ever : goal.returns-clause-ever
returns-clause-ever g c = λ other. turns_front c.args.options (first_pace c.args.start) c.loop.pace c.args.self.now c.loop.self c.loop.counter c.args.turns _ _ c.loop.invariant.counted c.loop.invariant.done
