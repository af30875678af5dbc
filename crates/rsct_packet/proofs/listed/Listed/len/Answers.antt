use Rattle.rsct_packet.proofs.ListedLaws.{listed_length}
use Rattle.rsct_packet.proofs.listed.Listed.len.Goals as goal

pub returns : goal.returns
returns g c = listed_length g.T.Item.read_at _ _ _ c.self.invariant c.self.view_is
