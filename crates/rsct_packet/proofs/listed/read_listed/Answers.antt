use Rattle.rsct_packet.proofs.FormatLaws.{many_format, gives_found}
use Rattle.rsct_packet.proofs.listed.read_listed.Goals as goal

pub returns-clause-found : goal.returns-clause-found
returns-clause-found g c = gives_found (many_format c.args.count c.format_law.ensures) _ _ c.known.ensures.bytes (rw c.known.ensures.same at c.many_at.ensures)
