use Rattle.std.proofs.Common.{refl}
use Rattle.rsct_packet.specs.Mask.{has_node, with_node}
use Rattle.world_model.specs.Reading.{plain_address, settled_if}
use Rattle.world_model.specs.Load.{mask_of, settings_of}
use Rattle.load_script.proofs.settings.load_settings.Goals as goal

pub returns : goal.returns
unfolding settings_of settled_if plain_address mask_of has_node with_node
returns c = rw c.all_nodes.ensures refl
