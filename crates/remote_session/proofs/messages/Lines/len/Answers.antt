use Rattle.rsct_packet.specs.Fields.{bytes_at}
use Rattle.rsct_packet.proofs.ListedLaws.{listed_length}
use Rattle.remote_session.proofs.messages.Lines.len.Goals as goal

pub returns : goal.returns
returns c = listed_length bytes_at _ _ _ c.self.invariant c.self.view_is
