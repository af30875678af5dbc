use Rattle.std.proofs.Common.{◌+◌, sym, ◌∙◌, ap}
use Rattle.piece_link.proofs.PartLaws.{put_open, put_last}
use Rattle.piece_link.proofs.kept.Kept.put.Goals as goal

pub returns-then-len-self-clause-ok : goal.returns-then-len-self-clause-ok
returns-then-len-self-clause-ok c =
    put_open c.args.self.now c.in-Some.parts c.insert.new.self c.args.index c.args.text.now c.in-Some.is (sym c.if-has.ensures) (λ e. c.if-len-self.true (ap (λ n. n + 1) c.len.ensures.value ∙ e)) c.in_ok-insert.ensures.ok

pub returns-clause-ok : goal.returns-clause-ok
returns-clause-ok c =
    put_last c.args.self.now c.in-Some.parts c.args.index c.args.text.now c.in_ok-message.message.items c.in-Some.is (sym c.if-has.ensures) (sym (ap (λ n. n + 1) c.len.ensures.value) ∙ c.if-len-self.false) c.in_ok-message.ensures.ok
