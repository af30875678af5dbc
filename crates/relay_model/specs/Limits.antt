-- A run with relays that ends where what leaves the nodes passes a number of bytes: each datagram counts, at each node that it leaves.
use Rattle.std.specs.Prelude.{ℕ, true, false, ◌+◌, ◌-◌, List, [], ◌∷◌, fold, length, take, Option, Some, None, nat_lt}
use Rattle.rsct_packet.specs.Lists.{reverse_onto}
use Rattle.node_state.specs.declared.config.Config.{Config}
use Rattle.node_state.specs.declared.happened.Happened.{Happened}
use Rattle.node_state.specs.Bytes.{packet_len}
use Rattle.world_model.specs.declared.event.Event.{Event}
use Rattle.world_model.specs.declared.script.Script.{Script}
use Rattle.world_model.specs.Kept.{Bytes, passed_if}
use Rattle.relay_model.specs.Leaving.{Parcel, Bare, Wrapped}
use Rattle.relay_model.specs.Relays.{Relayed, relayed_new}
use Rattle.relay_model.specs.Play.{relays, events_of}

-- the bytes of a datagram; the front of an envelope has 6
unfoldable pub parcel_len : Parcel → ℕ
parcel_len (Bare p) = packet_len p
parcel_len (Wrapped f p) = 6 + packet_len p

unfoldable pub with_parcel : ℕ → Bytes → Parcel → Bytes
with_parcel limit b d =
    elim b.passed [ Some n ↦ b | None ↦ let sum : ℕ = b.sum + parcel_len d in passed_if b sum (nat_lt limit sum) ]

-- what left the nodes in an event, in order
unfoldable pub left_since : Relayed → Relayed → List Parcel
left_since old new = reverse_onto (take (length new.left - length old.left) new.left) []

-- how far a run goes: the world in which it ends, and the sum that passed the limit, if one did
pub record Ended : Type 0 where
  pub world : Relayed
  pub passed : Option ℕ

-- the event that passes the limit leaves nothing
unfoldable pub runs_from : ℕ → ℕ → Relayed → List Event → Ended
runs_from limit sum r [] = record { world = r; passed = None }
runs_from limit sum r (e ∷ es) =
    let v : Relayed = relays r e in
    let b : Bytes = fold (with_parcel limit) (record { sum = sum; passed = None }) (left_since r v) in
    elim b.passed [ Some n ↦ record { world = r; passed = Some n } | None ↦ runs_from limit b.sum v es ]

-- events whose datagrams may have so many bytes
unfoldable pub runs_within : ℕ → Config → List Event → Ended
runs_within limit c es = runs_from limit 0 (relayed_new c) es

unfoldable pub ended : ℕ → Script → Ended
ended limit s = elim s.begun [ true ↦ runs_within limit s.config (events_of s.config s.lines) | false ↦ record { world = relayed_new s.config; passed = None } ]

-- the sum that passes the limit, if one does
unfoldable pub kept_past : ℕ → Script → Option ℕ
kept_past limit s = (ended limit s).passed

-- what is recorded before that
unfoldable pub kept_records : ℕ → Script → List Happened
kept_records limit s = elim s.begun [ true ↦ reverse_onto (ended limit s).world.world.trace [] | false ↦ [] ]

-- opens each word of this file, for a computation
unfoldable pub limits_opens : Unit {0}
unfolding parcel_len with_parcel left_since runs_from runs_within ended kept_past kept_records
limits_opens = tt
