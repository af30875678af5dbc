-- Behind those of smaller numbers.
use Rattle.std.proofs.Common.{ap, ◌∙◌}
use Rattle.std.specs.Prelude.{insert}
use Rattle.rsct_packet.specs.Search.{front_len, insert_before}
use Rattle.rsct_packet.proofs.SearchLaws.{insert_at_front}
use Rattle.net_script.specs.Standing.{comes_before}
use Rattle.net_script.proofs.nodes.Nodes.insert.Goals as goal

pub returns : goal.returns
returns g c =
    c.in_ok-insert.ensures.items
    ∙ (ap (λ i. insert c.self.inside.rows.items i c.args.node) (c.front-i.ensures.value ∙ ap (front_len (comes_before c.args.number)) c.as_slice.ensures.value)
    ∙ (insert_at_front (comes_before c.args.number) c.args.node c.self.inside.rows.items ∙ ap (insert_before (comes_before c.args.number) c.args.node) c.self.view_is))
