use Rattle.view_exchange.proofs.Formats.{result_found, result_only, result_has_tails, install_format}
use Rattle.view_exchange.proofs.install_codec.read_install.Goals as goal

pub returns-clause-found : goal.returns-clause-found
returns-clause-found c = result_found install_format c.args.bytes.now c.read_install_alone.result c.read_install_alone.ensures.bytes c.read_install_alone.ensures.value

pub returns-clause-only : goal.returns-clause-only
returns-clause-only c = λ i h e. result_only install_format c.args.bytes.now c.read_install_alone.result i c.read_install_alone.ensures.value h e

pub returns-clause-tails : goal.returns-clause-tails
returns-clause-tails c = result_has_tails c.args.bytes.now c.read_install_alone.result c.read_install_alone.ensures.bytes c.read_install_alone.ensures.value
