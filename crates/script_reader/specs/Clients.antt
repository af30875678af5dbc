-- Lists whose newest stands first, kept with the newest last.
use Rattle.std.specs.Prelude.{List, [], ◌∷◌}
use Rattle.std.specs.List.{fold}
use Rattle.world_model.specs.Reading.{Client}
use Rattle.script_reader.specs.declared.clients.Named.{Named}

-- each of them, the newest first
abbrev pub newest_first : {X Y : Type 0} → (X → Y) → List X → List Y
newest_first f xs = fold (λ ys x. f x ∷ ys) [] xs

abbrev pub client_seen : Named → Client
client_seen c = record { name = c.name; node = c.node }
