-- The first packet that passes the limit ends the sending.
use Rattle.std.proofs.Common.{rules, ◌≡◌, ◌∷◌}
use Rattle.play_state.proofs.PacketLaws.{passes_all}
use Rattle.play_state.proofs.sent_bytes.post_all.Goals as goal

pub returns-in-Err-clause-passes : goal.returns-in-Err-clause-passes
returns-in-Err-clause-passes c n err =
    let front : c.loop-p.left.now ≡ c.in-Some.p.now ∷ c.in-Some.rest.now = search rules in
    passes_all c.args.limit c.args.kept.now c.loop-p.kept n c.in-Some.p.now c.in-Some.rest.now c.loop-p.left.now c.args.sent.now c.loop-p.invariant.1 front (c.in-Err.ensures.passes n err)
