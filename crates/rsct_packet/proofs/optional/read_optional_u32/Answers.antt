use Rattle.rsct_packet.proofs.FormatLaws.{optional_format, u32_format, gives_found}
use Rattle.rsct_packet.proofs.optional.read_optional_u32.Goals as goal

pub returns-clause-found : goal.returns-clause-found
returns-clause-found c = gives_found (optional_format u32_format) _ _ c.known.ensures.bytes (rw c.known.ensures.same at c.optional_u32_at.ensures)
