use Rattle.rsct_packet.proofs.FormatLaws.{few_format, gives_found, gives_only}
use Rattle.rsct_packet.proofs.listed.read_list.Goals as goal

pub returns-clause-found : goal.returns-clause-found
returns-clause-found g c = gives_found (few_format c.format_law.ensures) _ _ c.known.ensures.bytes (rw c.known.ensures.same at c.counted_at.ensures)

pub returns-clause-only : goal.returns-clause-only
returns-clause-only g c = gives_only (few_format c.format_law.ensures) _ _ (rw c.known.ensures.same at c.counted_at.ensures)
