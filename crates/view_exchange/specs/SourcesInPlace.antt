-- What stands for a source in a datagram.
use Rattle.view_state.specs.declared.install.Source.{Source}
use Rattle.view_state.specs.declared.install.Install.{Install}
use Rattle.view_exchange.specs.declared.sources_in_place.SourceRef.{SourceRef}
use Rattle.view_exchange.specs.declared.install_codec.InstallRef.{InstallRef}

abbrev pub source_in : SourceRef → Source
source_in s = record { view = s.view; nodes = s.nodes; parts = s.parts }

abbrev pub install_in : InstallRef → Install
install_in i = record { view = i.view; members = i.members; sources = i.sources }
