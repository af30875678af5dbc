-- Where the test says so, the asked are among the acknowledged.
use Rattle.std.proofs.Common.{◌≡◌, rules, sym, ◌∙◌}
use Rattle.ring_commit.specs.Gather.{all_acked}
use Rattle.ring_commit.proofs.AckLaws.{all_means}
use Rattle.ring_commit.proofs.gather.Gather.all.Goals as goal

pub returns-clause-each : goal.returns-clause-each
unfolding all_acked
returns-clause-each c =
    let value : c.eq.result ≡ all_acked c.args.self.now = search rules in λ h. all_means c.args.self.now (sym value ∙ h)
