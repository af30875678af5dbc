use Rattle.std.proofs.Common.{◌≡◌, ◌∙◌, false, sym, rules}
use Rattle.batch_rules.proofs.QueueLaws.{joins_differ}
use Rattle.batch_rules.specs.Next.{is_duplicate}
use Rattle.batch_rules.proofs.waiting.Waiting.add_join.Goals as goal

pub invariant_of-self : goal.invariant_of-self
invariant_of-self c =
    let other : is_duplicate c.args.provider c.args.present.now c.args.self.now ≡ false = sym c.is_duplicate.ensures ∙ c.if-is_duplicate.false in
    rw c.push.ensures.items (joins_differ c.args.provider c.args.present.now c.self.inside.joins.items c.self.invariant (rw (← c.self.view_is) at other) (search rules))
