use Rattle.rsct_packet.proofs.FieldLaws.{bytes_format}
use Rattle.rsct_packet.proofs.FormatLaws.{optional_format, optional_part_gives, gives_found}
use Rattle.rsct_packet.proofs.optional.read_optional_bytes.Goals as goal

pub returns-clause-found : goal.returns-clause-found
returns-clause-found c = gives_found (optional_format bytes_format) _ _ c.known.ensures.bytes (optional_part_gives _ _ (rw c.known.ensures.same at c.optional_bytes_at.ensures))
