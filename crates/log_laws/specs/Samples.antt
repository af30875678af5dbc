-- Small lists of records, the latest first, for worked examples.
use Rattle.std.specs.Prelude.{ℕ, List, [], ◌∷◌}
use Rattle.rsct_packet.specs.declared.ids.Member.{Member}
use Rattle.rsct_packet.specs.declared.ids.ViewId.{ViewId}
use Rattle.node_state.specs.declared.happened.Happened.{Happened}
use Rattle.node_state.specs.declared.happened.Happened.TheVariants.{Up, Down, In}

-- the view that a node founds alone as it starts
abbrev pub view_alone : ℕ → ℕ → ViewId
view_alone n j = record { number = 1; coord = n; inc = j }

abbrev pub member_alone : ℕ → ℕ → List Member
member_alone n j = record { node = n; inc = j } ∷ []

-- a node starts and goes down, skips incarnation 2, and starts again
abbrev pub starts_twice : List Happened
starts_twice =
    In 1 (view_alone 1 3) (member_alone 1 3) ∷ Up 1 3 ∷ Down 1 ∷ In 1 (view_alone 1 2) (member_alone 1 2) ∷ Up 1 2 ∷ Down 1 ∷ In 1 (view_alone 1 1) (member_alone 1 1) ∷ Up 1 1 ∷ []

-- what is logged of that
abbrev pub starts_twice_logged : List Happened
starts_twice_logged =
    In 1 (view_alone 1 3) (member_alone 1 3) ∷ Up 1 3 ∷ In 1 (view_alone 1 1) (member_alone 1 1) ∷ Up 1 1 ∷ []

-- a node enters a view with another
abbrev pub members_both : List Member
members_both = record { node = 1; inc = 1 } ∷ record { node = 2; inc = 1 } ∷ []

abbrev pub enters_with_another : List Happened
enters_with_another = In 1 (record { number = 2; coord = 2; inc = 1 }) members_both ∷ Up 1 1 ∷ []
