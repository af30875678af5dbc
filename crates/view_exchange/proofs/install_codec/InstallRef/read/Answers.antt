use Rattle.view_exchange.proofs.Formats.{whole_found, whole_only, install_format}
use Rattle.view_exchange.proofs.install_codec.InstallRef.read.Goals as goal

pub returns-clause-found : goal.returns-clause-found
returns-clause-found c = whole_found install_format c.args.bytes.now _ c.whole_install.ensures.bytes c.whole_install.ensures.value

pub returns-clause-only : goal.returns-clause-only
returns-clause-only c = λ a h e. whole_only install_format c.args.bytes.now _ a c.whole_install.ensures.value h e
