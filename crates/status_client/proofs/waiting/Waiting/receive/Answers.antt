use Rattle.std.proofs.Common.{Vec, ℕ, Global}
use Rattle.status_client.proofs.WaitLaws.{waits_answered, waits_failing, of_text}
use Rattle.status_client.proofs.waiting.Waiting.receive.Goals as goal

pub returns-in-Some-clause-answered : goal.returns-in-Some-clause-answered
returns-in-Some-clause-answered g c =
    waits_answered c.args.self.now c.loop.self c.hear.new.self c.loop.counter c.args.turns c.in-Some.text.items _ _ _ c.loop-test.true c.loop.invariant.waits
    (of_text (λ (t : Vec ℕ Global). t.items) c.loop.self c.hear.new.self _ _ _ _ c.in-Some.is c.in_ok-text.ensures.hears)

pub returns-then-self-ge-MOST_FAILED-clause-failing : goal.returns-then-self-ge-MOST_FAILED-clause-failing
returns-then-self-ge-MOST_FAILED-clause-failing g c = λ e.
    waits_failing c.args.self.now c.loop.self c.hear.new.self c.loop.counter c.args.turns _ _ _ c.loop-test.true c.loop.invariant.waits
    (of_text (λ (t : Vec ℕ Global). t.items) c.loop.self c.hear.new.self _ _ _ _ c.in_default.is c.in_ok-text.ensures.hears) c.if-self-ge-MOST_FAILED.true
