-- A parcel that is kept as bytes.
use Rattle.std.proofs.Common.{◌≡◌, ℕ, ◌+◌, List, length, Option, Some, None, refl, sym, ap, ◌∙◌, arith}
use Rattle.std.specs.Prelude.{is_none, true, false}
use Rattle.node_state.specs.Bytes.{packet_of}
use Rattle.packet_codec.specs.Datagram.{packet_as, IsDatagram}
use Rattle.packet_codec.proofs.DatagramLaws.{datagram_len}
use Rattle.route_state.specs.declared.front.Front.{Front}
use Rattle.relay_model.specs.Limits.{parcel_len}
use Rattle.relay_runs.specs.Arrivals.{carried}
use Rattle.relay_packets.specs.Parcels.{parcel_of, front_in}

pub packet_there : (o : Option Front) (b : List ℕ) → carried (parcel_of o b) ≡ packet_as b
packet_there None b = refl
packet_there (Some f) b = refl

pub front_there : (o : Option Front) (b : List ℕ) → front_in (parcel_of o b) ≡ o
front_there None b = refl
front_there (Some f) b = refl

-- it is read from its bytes
pub packet_read : (o : Option Front) (b : List ℕ) → IsDatagram b → packet_of b ≡ Some (carried (parcel_of o b))
packet_read o b h = h.reads ∙ ap Some (sym (packet_there o b))

pub bare_len : (o : Option Front) (b : List ℕ) → IsDatagram b → is_none o ≡ true → length b ≡ parcel_len (parcel_of o b)
unfolding parcel_len
bare_len None b h e = datagram_len b h
bare_len (Some f) b h e = absurd cc

pub wrapped_len : (o : Option Front) (b : List ℕ) → IsDatagram b → is_none o ≡ false → length b + 6 ≡ parcel_len (parcel_of o b)
unfolding parcel_len
wrapped_len None b h e = absurd cc
wrapped_len (Some f) b h e = let is = datagram_len b h in omega arith
