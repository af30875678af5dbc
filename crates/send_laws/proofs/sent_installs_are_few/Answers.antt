-- What stands of any packet, so the law is named here.
use Rattle.send_laws.proofs.Law.{installs_few}
use Rattle.send_laws.proofs.sent_installs_are_few.Goals as goal

pub returns : goal.returns
returns c = installs_few
