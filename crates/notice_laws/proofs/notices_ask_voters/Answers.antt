use Rattle.notice_laws.proofs.Voters.{notices_ask_voters as law}
use Rattle.notice_laws.proofs.notices_ask_voters.Goals as goal

pub returns : goal.returns
returns c = law
