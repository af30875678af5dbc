-- The laws of one group's life, each over every list of moves.
use Rattle.std.specs.Prelude.{ℕ, List}
use Rattle.run_safety.specs.Group.{Standing, Packet, Line, kept}
use Rattle.run_safety.specs.GroupLists.{OneEntryOf, Rises, OneInstall, InOrder, SameLists, CutHolds, SameMembers}
use Rattle.run_safety.specs.Bases.{Bases}
use Rattle.run_safety.specs.Tallies.{Tallied, ApprovedByAll, Fitted}
use Rattle.run_safety.specs.Moves.{Leads, Opening, Life}
use Rattle.run_safety.specs.GroupLaws.{Leading, OneBase, BaseOfInstall, HeardIsFold, RequestsOnce, StableHeld}

-- it holds of the packets, the lines, the leaders and the bases of every life
abbrev pub Always : (Opening → List Packet → List Line → Leads → Bases → Type 0) → Type 0
Always P =
    (o : Opening) (nodes : ℕ → Standing) (ps : List Packet) (all : List Line) (leads : Leads) (bases : Bases) → Life o nodes ps all leads bases → P o ps all leads bases

abbrev pub AlwaysOneList : Type 0
AlwaysOneList = Always (λ o ps all leads bases. OneEntryOf (kept all))

abbrev pub AlwaysInOrder : Type 0
AlwaysInOrder = Always (λ o ps all leads bases. InOrder (kept all))

abbrev pub AlwaysRising : Type 0
AlwaysRising = Always (λ o ps all leads bases. Rises (kept all))

abbrev pub AlwaysSameMembers : Type 0
AlwaysSameMembers = Always (λ o ps all leads bases. SameMembers (kept all))

abbrev pub AlwaysOneInstall : Type 0
AlwaysOneInstall = Always (λ o ps all leads bases. OneInstall ps)

abbrev pub AlwaysOneBase : Type 0
AlwaysOneBase = Always (λ o ps all leads bases. OneBase all bases)

abbrev pub AlwaysTogether : Type 0
AlwaysTogether = Always (λ o ps all leads bases. SameLists (kept all))

abbrev pub AlwaysCut : Type 0
AlwaysCut = Always (λ o ps all leads bases. CutHolds (kept all))

abbrev pub AlwaysFold : Type 0
AlwaysFold = Always (λ o ps all leads bases. HeardIsFold all bases)

abbrev pub AlwaysBase : Type 0
AlwaysBase = Always (λ o ps all leads bases. BaseOfInstall ps (kept all) bases)

abbrev pub AlwaysLed : Type 0
AlwaysLed = Always (λ o ps all leads bases. Leading o (kept all) leads bases)

abbrev pub AlwaysOnce : Type 0
AlwaysOnce = Always (λ o ps all leads bases. RequestsOnce all)

abbrev pub AlwaysStable : Type 0
AlwaysStable = Always (λ o ps all leads bases. StableHeld ps (kept all))

abbrev pub AlwaysTallied : Type 0
AlwaysTallied = Always (λ o ps all leads bases. Tallied (kept all))

abbrev pub AlwaysApprovedByAll : Type 0
AlwaysApprovedByAll = Always (λ o ps all leads bases. ApprovedByAll (kept all))

abbrev pub AlwaysFitted : Type 0
AlwaysFitted = Always (λ o ps all leads bases. Fitted (kept all) bases)
