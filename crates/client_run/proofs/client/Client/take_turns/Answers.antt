use Rattle.std.proofs.Common.{◌≡◌, rules}
use Rattle.std.specs.Prelude.{Result, Err}
use Rattle.link_use.specs.declared.stop.Stop.{Stop}
use Rattle.link_use.specs.declared.stop.Stop.TheVariants as stop
use Rattle.client_run.specs.Running.{IsLost, IsFull}
use Rattle.client_run.proofs.RunLaws.{ended, failing, front, front_last, front_all}
use Rattle.client_run.proofs.client.Client.take_turns.Goals as goal

pub returns-in_err-turn-clause-lost : goal.returns-in_err-turn-clause-lost
returns-in_err-turn-clause-lost g c = λ e.
    let same : ◌≡◌ {A = Result (Unit {0}) Stop} (Err c.in_err-turn.field-0.0) (Err stop.SessionLost) = search rules in
    ended c.args.lines.now IsLost c.args.self.now c.loop.self c.loop.counter c.args.turns _ _ _ c.loop-test.true c.loop.invariant.done (c.in_err-turn.ensures.lost same)

pub returns-in_err-turn-clause-full : goal.returns-in_err-turn-clause-full
returns-in_err-turn-clause-full g c = λ e.
    let same : ◌≡◌ {A = Result (Unit {0}) Stop} (Err c.in_err-turn.field-0.0) (Err stop.DaemonFull) = search rules in
    ended c.args.lines.now IsFull c.args.self.now c.loop.self c.loop.counter c.args.turns _ _ _ c.loop-test.true c.loop.invariant.done (c.in_err-turn.ensures.full same)

pub returns-in_err-turn-clause-ever : goal.returns-in_err-turn-clause-ever
returns-in_err-turn-clause-ever g c = front c.args.lines.now c.args.self.now c.loop.self c.loop.counter c.args.turns _ _ _ c.loop-test.true c.loop.invariant.done c.in_err-turn.ensures.broke

pub returns-then-self-ge-MOST_FAILED-clause-failing : goal.returns-then-self-ge-MOST_FAILED-clause-failing
returns-then-self-ge-MOST_FAILED-clause-failing g c = λ e.
    failing c.args.lines.now c.args.self.now c.loop.self c.turn.new.self c.loop.counter c.args.turns _ _ _ c.loop-test.true c.loop.invariant.done c.in_ok-turn.ensures.done c.if-self-ge-MOST_FAILED.true

pub returns-then-self-ge-MOST_FAILED-clause-ever : goal.returns-then-self-ge-MOST_FAILED-clause-ever
returns-then-self-ge-MOST_FAILED-clause-ever g c = front_last c.args.lines.now c.args.self.now c.loop.self c.turn.new.self c.loop.counter c.args.turns _ _ _ c.loop-test.true c.loop.invariant.done c.in_ok-turn.ensures.done

pub returns-then-self-len-clause-ever : goal.returns-then-self-len-clause-ever
returns-then-self-len-clause-ever g c = front_all c.args.lines.now c.args.self.now c.loop.self c.loop.counter c.args.turns _ _ c.loop.invariant.counted c.loop.invariant.done

pub returns-clause-ever : goal.returns-clause-ever
returns-clause-ever g c = front_all c.args.lines.now c.args.self.now c.loop.self c.loop.counter c.args.turns _ _ c.loop.invariant.counted c.loop.invariant.done
