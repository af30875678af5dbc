-- A datagram that comes to a node.
use Rattle.std.specs.Prelude.{ℕ}
use Rattle.node_reach.specs.declared.reach.Reach.{Reach}
use Rattle.node_state.specs.declared.packet.Packet.{Packet}
use Rattle.route_state.specs.Way.{Course, Arrives, course}
use Rattle.relay_model.specs.Leaving.{Parcel, Bare, Wrapped}

-- its packet, also where it is in an envelope
abbrev pub carried : Parcel → Packet
carried (Bare p) = p
carried (Wrapped f p) = p

-- where it goes: a packet by itself has come to where it was to go
abbrev pub course_of : ℕ → Reach → Parcel → Course
course_of me r (Bare p) = Arrives
course_of me r (Wrapped f p) = course me r f
