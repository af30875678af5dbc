-- The table of places: where each node's adapter on each network is.
use Rattle.std.specs.Prelude.{ℕ, ◌-◌, ◌==◌, List, [], Option, Some, None, slice_index_or, slice_set, replicate, if◌then◌else◌}
use Rattle.hags_io.specs.declared.link.Places.{Places}

-- no place is told
abbrev pub no_places : Places
no_places = record { addresses = replicate 4 (replicate 32 0); ports = replicate 4 (replicate 32 0) }

abbrev pub entry_at : ℕ → ℕ → List (List ℕ) → ℕ
entry_at node network rows = slice_index_or (slice_index_or rows (network - 1) []) (node - 1) 0

abbrev pub with_entry : ℕ → ℕ → ℕ → List (List ℕ) → List (List ℕ)
with_entry node network x rows = slice_set rows (network - 1) (slice_set (slice_index_or rows (network - 1) []) (node - 1) x)

-- the place of an adapter in place of what was told before
abbrev pub with_place : ℕ → ℕ → ℕ → ℕ → Places → Places
with_place node network address port places = record {
  addresses = with_entry node network address places.addresses;
  ports = with_entry node network port places.ports;
}

-- the address and the port of an adapter, where they were told
abbrev pub told_place : ℕ → ℕ → Places → Option (ℕ × ℕ)
told_place node network places =
    if entry_at node network places.addresses == 0 then None
    else Some (entry_at node network places.addresses, entry_at node network places.ports)
