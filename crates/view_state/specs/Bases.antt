-- What each group begins with in a new view.
use Rattle.std.specs.Prelude.{◌≡◌, ℕ, ◌≤◌, IsTrue, Bool, true, false, not, ◌&&◌, ◌||◌, ◌++◌, List, [], ◌∷◌, map, filter, find, fold, length, Option, Some, None, nat_le, is_some}
use Rattle.std.specs.Str.{bytes_eq}
use Rattle.rsct_packet.specs.declared.ids.ProviderId.{ProviderId}
use Rattle.rsct_packet.specs.declared.ids.ViewId.{ViewId}
use Rattle.rsct_packet.specs.Ids.{same_view, view_lt, is_member}
use Rattle.rsct_packet.specs.Search.{Has}
use Rattle.rsct_packet.specs.Lists.{is_empty, best_of}
use Rattle.rsct_packet.specs.Mask.{has_node}
use Rattle.rsct_packet.specs.Providers.{among}
use Rattle.rsct_packet.specs.Text.{name_lt}
use Rattle.proposal_core.specs.Fold.{present}
use Rattle.view_state.specs.declared.install.Part.{Part}
use Rattle.view_state.specs.declared.install.Source.{Source}
use Rattle.view_state.specs.declared.install.Install.{Install}
use Rattle.view_state.specs.declared.install.Base.{Base}
use Rattle.view_state.specs.Parts.{part_len}

-- the source of an old view
unfoldable pub source_at : List Source → ViewId → Option Source
source_at ss v = find (λ s. same_view s.view v) ss

abbrev pub parts_in : Option Source → List Part
parts_in None = []
parts_in (Some s) = s.parts

-- the parts that an install carries of an old view
unfoldable pub parts_from : Install → ViewId → List Part
parts_from i v = parts_in (source_at i.sources v)

-- its node with its incarnation is a member, and came from that view
unfoldable pub is_live_from : Install → Source → ProviderId → Bool
is_live_from i s p = is_member i.members p.node p.inc && has_node s.nodes p.node

-- an old view's list of a group, and how many of its providers are live
pub record Candidate : Type 0 where
  pub live : ℕ
  pub source : Source
  pub part : Part

unfoldable pub candidate_of : Install → Source → Part → Candidate
candidate_of i s p = record { live = length (filter (is_live_from i s) (present p.state)); source = s; part = p }

-- a list of the group that has members or a running protocol
unfoldable pub is_candidate : List ℕ → Part → Bool
is_candidate g p = bytes_eq p.name g && (not (is_empty p.state.members) || is_some p.state.running)

unfoldable pub candidates : Install → List ℕ → List Source → List Candidate
candidates i g [] = []
candidates i g (s ∷ ss) = map (candidate_of i s) (filter (is_candidate g) s.parts) ++ candidates i g ss

-- the most live providers; of equal ones the greater view, which comes later
abbrev pub beats : Candidate → Candidate → Bool
beats a b = nat_le b.live a.live

-- the node of the first member that has not failed, else the coordinator
unfoldable pub leader_from : ℕ → List ProviderId → List ProviderId → ℕ
leader_from coord failed [] = coord
leader_from coord failed (p ∷ ps) = elim (among failed p) [ true ↦ leader_from coord failed ps | false ↦ p.node ]

-- the winner's state, in which those have failed that are not live
unfoldable pub base_from : Install → List ℕ → Candidate → Base
base_from i g c =
    let failed : List ProviderId = filter (λ p. not (is_live_from i c.source p)) (present c.part.state) in
    record {
      name = g;
      state = record (c.part.state) { failed = failed };
      from = c.source.view;
      len = part_len c.part;
      leader = leader_from i.view.coord failed c.part.state.members;
    }

abbrev pub base_of_best : Install → List ℕ → Option Candidate → Option Base
base_of_best i g None = None
base_of_best i g (Some c) = Some (base_from i g c)

-- the base of a group; none where nobody has anything of it
unfoldable pub base_of : Install → List ℕ → Option Base
base_of i g = base_of_best i g (best_of beats (candidates i g i.sources))

-- What the base of a group is, said of its candidates alone: none where nobody has anything of it; else it is made
-- of one that no candidate beats by live providers, or with as many by a greater view.
abbrev pub IsCandidate : Install → List ℕ → Source → Part → Type 0
IsCandidate i g s p = Has s i.sources × (Has p s.parts × IsTrue (is_candidate g p))

abbrev pub live_count : Install → Source → Part → ℕ
live_count i s p = length (filter (is_live_from i s) (present p.state))

pub record Wins (i : Install) (g : List ℕ) (s : Source) (p : Part) : Type 0 where
  pub candidate : IsCandidate i g s p
  pub most : (t : Source) (q : Part) → IsCandidate i g t q → live_count i t q ≤ live_count i s p
  pub greatest : (t : Source) (q : Part) → IsCandidate i g t q → live_count i t q ≡ live_count i s p → view_lt s.view t.view ≡ false

-- who leads: the node of the first member that is live, else the coordinator
abbrev pub first_live : Install → Source → List ProviderId → Option ProviderId
first_live i s ps = find (is_live_from i s) ps

abbrev pub leader_of : Install → Option ProviderId → ℕ
leader_of i None = i.view.coord
leader_of i (Some p) = p.node

pub record IsBaseOf (i : Install) (g : List ℕ) (b : Base) : Type 0 where
  pub source : Source
  pub part : Part
  pub wins : Wins i g source part
  pub name : b.name ≡ g
  pub state : b.state ≡ record (part.state) { failed = filter (λ p. not (is_live_from i source p)) (present part.state) }
  pub from : b.from ≡ source.view
  pub len : b.len ≡ part_len part
  pub leader : b.leader ≡ leader_of i (first_live i source part.state.members)

abbrev pub BaseIs : Install → List ℕ → Option Base → Type 0
BaseIs i g None = (s : Source) (p : Part) → IsCandidate i g s p → ⊥
BaseIs i g (Some b) = IsBaseOf i g b

-- the different names carried, ascending
unfoldable pub with_name : List (List ℕ) → Part → List (List ℕ)
with_name [] p = p.name ∷ []
with_name (n ∷ ns) p =
    elim (name_lt p.name n) [
      | true ↦ p.name ∷ n ∷ ns
      | false ↦ elim (bytes_eq p.name n) [ true ↦ n ∷ ns | false ↦ n ∷ with_name ns p ]
    ]

unfoldable pub names_in : List Source → List (List ℕ)
names_in ss = fold (λ ns s. fold with_name ns s.parts) [] ss

unfoldable pub bases_for : Install → List (List ℕ) → List Base
bases_for i [] = []
bases_for i (g ∷ gs) = elim (base_of i g) [ None ↦ bases_for i gs | Some b ↦ b ∷ bases_for i gs ]

-- the bases of a new view, in name order
unfoldable pub bases_of : Install → List Base
bases_of i = bases_for i (names_in i.sources)

unfoldable pub base_named : List Base → List ℕ → Option Base
base_named bs g = find (λ b. bytes_eq b.name g) bs

-- opens each word of this file, for a computation
unfoldable pub bases_open : Unit {0}
unfolding source_at parts_from is_live_from candidate_of is_candidate candidates leader_from base_from base_of with_name names_in bases_for bases_of base_named
bases_open = tt
