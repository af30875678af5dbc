-- Look-ups in order.
use Rattle.std.specs.Prelude.{ℕ, List, [], ◌∷◌}
use Rattle.name_server.specs.declared.names.Leader.{Leader}
use Rattle.name_server.specs.Names.{lookup}

pub record LookUp : Type 0 where
  pub group : List ℕ
  pub asker : ℕ

-- the table after all of them
abbrev pub all_asked : List LookUp → List Leader → List Leader
all_asked [] table = table
all_asked (a ∷ rest) table = all_asked rest (lookup a.group a.asker table)
