-- Datagrams that leave nodes in a world: those that are kept, and how many bytes they have.
use Rattle.std.specs.Prelude.{◌≡◌, ℕ, List, map, fold, None}
use Rattle.world_model.specs.Kept.{Bytes}
use Rattle.relay_model.specs.Leaving.{Parcel}
use Rattle.relay_model.specs.Limits.{with_parcel}
use Rattle.relay_model.specs.Relays.{Relayed}
use Rattle.relay_packets.specs.Datagrams.{Kept, relay_pairs, waits_as}

-- the datagrams that are kept stand for all that left nodes and for those that wait
abbrev pub DatagramsStand : Kept → Relayed → Type 0
DatagramsStand k r = (r.pairs ≡ relay_pairs k.pairs) × (map waits_as r.queue ≡ k.waiting)

-- the bytes of datagrams that leave, from so many on
abbrev pub bytes_after : ℕ → ℕ → List Parcel → Bytes
bytes_after limit sum ds = fold (with_parcel limit) (record { sum = sum; passed = None }) ds
