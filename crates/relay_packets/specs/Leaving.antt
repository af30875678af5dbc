-- What leaves a node, as the definitions have it.
use Rattle.relay_model.specs.Leaving.{Leaving}
use Rattle.relay_packets.specs.declared.leaving.Departure.{Departure}

abbrev pub leaving_in : Departure → Leaving
leaving_in d = record { from = d.from; to = d.to; network = d.network; parcel = d.parcel }
