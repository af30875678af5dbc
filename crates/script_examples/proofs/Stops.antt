-- A node stops in the middle of one join: after none to all of its five packets were given, both nodes that are left
-- show one same line.
use Rattle.std.specs.Prelude.{◌≡◌, ℕ, List, [], ◌∷◌, ◌++◌, take, map, codes}
use Rattle.std.specs.List.{concat}
use Rattle.std.proofs.Common.{refl}
use Rattle.world_model.specs.Play.{transcript}
use Rattle.script_examples.specs.Opens.{all_opens}

-- one provider is in the group, and another one asks to join it
abbrev start : List ℕ
start = codes "mode asked\nnode 1\nnode 2\nnode 3\nbegin\nstart 1\nstart 2\nstart 3\nask 1 1 2 3\nflow\nclient 2 a A\nclient 3 c A\njoin a db 1\nflow\njoin c db 1\n"

-- the request, the entry to each other member, and what each acknowledges
abbrev given : List (List ℕ)
given = codes "deliver 3 2 2\n" ∷ codes "deliver 2 1 5\n" ∷ codes "deliver 2 3 2\n" ∷ codes "deliver 1 2 5\n" ∷ codes "deliver 3 2 3\n" ∷ []

-- what is shown where so many packets were given before the rest happens
abbrev shown : List ℕ → ℕ → List ℕ
shown rest k = transcript (codes "show") (start ++ concat (take k given) ++ rest)

abbrev none_to_five : List ℕ
none_to_five = 0 ∷ 1 ∷ 2 ∷ 3 ∷ 4 ∷ 5 ∷ []

-- the leader stops
pub leader_stops : map (shown (codes "stop 2\nask 1 1 3\nflow\nshow 1 hagsgr\nshow 3 hagsgr\n")) none_to_five ≡ codes "show 1 hagsgr db leader=1 len=2 members=3.1.1.1 value=\nshow 3 hagsgr db leader=1 len=2 members=3.1.1.1 value=\n" ∷ codes "show 1 hagsgr db leader=3 len=1 members=3.1.1.1 value=\nshow 3 hagsgr db leader=3 len=1 members=3.1.1.1 value=\n" ∷ codes "show 1 hagsgr db leader=3 len=1 members=3.1.1.1 value=\nshow 3 hagsgr db leader=3 len=1 members=3.1.1.1 value=\n" ∷ codes "show 1 hagsgr db leader=3 len=1 members=3.1.1.1 value=\nshow 3 hagsgr db leader=3 len=1 members=3.1.1.1 value=\n" ∷ codes "show 1 hagsgr db leader=3 len=1 members=3.1.1.1 value=\nshow 3 hagsgr db leader=3 len=1 members=3.1.1.1 value=\n" ∷ codes "show 1 hagsgr db leader=3 len=1 members=3.1.1.1 value=\nshow 3 hagsgr db leader=3 len=1 members=3.1.1.1 value=\n" ∷ []
unfolding all_opens
leader_stops = refl

-- the coordinator stops
pub coordinator_stops : map (shown (codes "stop 1\nask 2 2 3\nflow\nshow 2 hagsgr\nshow 3 hagsgr\n")) none_to_five ≡ codes "show 2 hagsgr db leader=2 len=1 members=2.1.1.1,3.1.1.1 value=\nshow 3 hagsgr db leader=2 len=1 members=2.1.1.1,3.1.1.1 value=\n" ∷ codes "show 2 hagsgr db leader=2 len=0 members=2.1.1.1,3.1.1.1 value=\nshow 3 hagsgr db leader=2 len=0 members=2.1.1.1,3.1.1.1 value=\n" ∷ codes "show 2 hagsgr db leader=2 len=0 members=2.1.1.1,3.1.1.1 value=\nshow 3 hagsgr db leader=2 len=0 members=2.1.1.1,3.1.1.1 value=\n" ∷ codes "show 2 hagsgr db leader=2 len=0 members=2.1.1.1,3.1.1.1 value=\nshow 3 hagsgr db leader=2 len=0 members=2.1.1.1,3.1.1.1 value=\n" ∷ codes "show 2 hagsgr db leader=2 len=0 members=2.1.1.1,3.1.1.1 value=\nshow 3 hagsgr db leader=2 len=0 members=2.1.1.1,3.1.1.1 value=\n" ∷ codes "show 2 hagsgr db leader=2 len=0 members=2.1.1.1,3.1.1.1 value=\nshow 3 hagsgr db leader=2 len=0 members=2.1.1.1,3.1.1.1 value=\n" ∷ []
unfolding all_opens
coordinator_stops = refl
