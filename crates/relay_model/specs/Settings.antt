-- Settings whose nodes meet by way of others, and bytes that are no garbage there.
use Rattle.std.specs.Prelude.{ℕ, Bool, true, false, not, ◌||◌, List, is_some}
use Rattle.std.specs.List.{list_all}
use Rattle.rsct_packet.specs.Lists.{is_empty}
use Rattle.rsct_packet.specs.Mask.{nodes_of}
use Rattle.node_state.specs.declared.config.Config.{Config}
use Rattle.node_state.specs.Bytes.{is_packet}
use Rattle.node_state.specs.Settings.{is_rings, networks_of}
use Rattle.route_state.specs.Envelope.{envelope_of}
use Rattle.world_model.specs.Reading.{all_share}

unfoldable pub has_network : Config → ℕ → Bool
has_network c n = not (is_empty (networks_of c n))

-- in mode rings each node has an adapter; in the others each two share a network
unfoldable pub may_meet : Config → Bool
may_meet c = elim (is_rings c.mode) [ true ↦ list_all (has_network c) (nodes_of c.nodes) | false ↦ all_share c ]

-- what a node may be sent: a packet, or an envelope
unfoldable pub is_said : List ℕ → Bool
is_said bytes = is_packet bytes || is_some (envelope_of bytes)

-- opens each word of this file, for a computation
unfoldable pub settings_opens : Unit {0}
unfolding has_network may_meet is_said
settings_opens = tt
