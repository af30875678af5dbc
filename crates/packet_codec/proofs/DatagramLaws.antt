-- The spelling of a packet is a datagram.
use Rattle.std.proofs.Common.{◌≡◌, ℕ, List, length, Some, refl, sym, ap, ◌∙◌}
use Rattle.node_state.specs.declared.packet.Packet.{Packet}
use Rattle.node_state.specs.Bytes.{packet_of, bytes_of, packet_len}
use Rattle.packet_codec.specs.Spelled.{IsSpelled}
use Rattle.packet_codec.proofs.BodyFormats.{packet_read_again}
use Rattle.packet_codec.specs.Datagram.{packet_in, packet_as, IsDatagram}

pub packet_again : (p : Packet) (b : List ℕ) → IsSpelled p → b ≡ bytes_of p → packet_as b ≡ p
unfolding packet_as
packet_again p b h e = ap (λ x. packet_in (packet_of x)) e ∙ ap packet_in (packet_read_again p h)

pub is_datagram : (p : Packet) (b : List ℕ) → IsSpelled p → b ≡ bytes_of p → IsDatagram b
is_datagram p b h e =
    let again : packet_as b ≡ p = packet_again p b h e in
    record { reads = ap packet_of e ∙ (packet_read_again p h ∙ ap Some (sym again)); spells = e ∙ ap bytes_of (sym again) }

pub datagram_spells : (b : List ℕ) → IsDatagram b → b ≡ bytes_of (packet_as b)
datagram_spells b h = h.spells

-- as many bytes as its packet has
pub datagram_len : (b : List ℕ) → IsDatagram b → length b ≡ packet_len (packet_as b)
unfolding packet_len
datagram_len b h = ap length h.spells
