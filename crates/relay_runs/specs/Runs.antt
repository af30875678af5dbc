-- How runs of worlds with relays go on.
use Rattle.std.specs.Prelude.{◌≡◌}
use Rattle.relay_model.specs.Relays.{Relayed}

-- the same world, but for what waits
abbrev pub SameRelayed : Relayed → Relayed → Type 0
SameRelayed r v = v ≡ record r { queue = v.queue }
