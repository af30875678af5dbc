use Rattle.transcript.proofs.KindLaws.{bit_by_tag}
use Rattle.transcript.proofs.kinds.Kind.bit.Goals as goal

pub returns : goal.returns
returns c = bit_by_tag c.args.self
