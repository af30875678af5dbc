-- What a datagram has, where it is kept as bytes.
use Rattle.std.specs.Prelude.{ℕ, List, Option, Some, None}
use Rattle.packet_codec.specs.Datagram.{packet_as}
use Rattle.route_state.specs.declared.front.Front.{Front}
use Rattle.relay_model.specs.Leaving.{Parcel, Bare, Wrapped}

abbrev pub parcel_of : Option Front → List ℕ → Parcel
parcel_of None bytes = Bare (packet_as bytes)
parcel_of (Some f) bytes = Wrapped f (packet_as bytes)

-- the front of its envelope, where it is in one
abbrev pub front_in : Parcel → Option Front
front_in (Bare p) = None
front_in (Wrapped f p) = Some f
