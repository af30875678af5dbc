-- That an install carries the longest lists, whatever the order in which answers came.
use Rattle.std.specs.Prelude.{◌≡◌, ◌⊎◌, ℕ, ◌<◌, ◌≤◌, List, [], ◌∷◌}
use Rattle.rsct_packet.specs.declared.ids.ViewId.{ViewId}
use Rattle.rsct_packet.specs.declared.mask.Mask.{Mask}
use Rattle.rsct_packet.specs.Search.{Has}
use Rattle.view_state.specs.declared.answer.Answer.{Answer}
use Rattle.view_state.specs.declared.exchange.Exchange.{Exchange}
use Rattle.view_state.specs.declared.install.Part.{Part}
use Rattle.view_state.specs.declared.install.Source.{Source}
use Rattle.view_state.specs.declared.install.Install.{Install}
use Rattle.view_state.specs.Parts.{part_len}
use Rattle.view_state.specs.Answers.{opened, with_answer, install_of}

-- a gathering with these answers
abbrev pub all_counted : Exchange → List Answer → Exchange
all_counted x [] = x
all_counted x (a ∷ given) = all_counted (with_answer x a) given

-- an answer brought the node's list of an old view
pub record Brings (given : List Answer) (v : ViewId) (n : ℕ) (p : Part) : Type 0 where
  pub answer : Answer
  pub came : Has answer given
  pub view : answer.view ≡ v
  pub node : answer.node ≡ n
  pub part : Has p answer.parts

-- p of node n is longer than q of node m, or as long and not of a greater node
abbrev pub NoWorse : Part → ℕ → Part → ℕ → Type 0
NoWorse p n q m = (part_len q < part_len p) ⊎ ((part_len q ≡ part_len p) × (n ≤ m))

-- a carried list is one that was brought, and no worse than any that was brought of its view and group
pub record IsLongest (given : List Answer) (v : ViewId) (p : Part) : Type 0 where
  pub node : ℕ
  pub brought : Brings given v node p
  pub longest : (m : ℕ) (q : Part) → Brings given v m q → q.name ≡ p.name → NoWorse p node q m

-- of each view and group that was brought a list is carried
pub record IsCarried (i : Install) (v : ViewId) (p : Part) : Type 0 where
  pub source : Source
  pub there : Has source i.sources
  pub view : source.view ≡ v
  pub part : Part
  pub in_source : Has part source.parts
  pub name : part.name ≡ p.name

pub record CarriesLongest (given : List Answer) (i : Install) : Type 0 where
  pub longest : (s : Source) → Has s i.sources → (p : Part) → Has p s.parts → IsLongest given s.view p
  pub each : (v : ViewId) (n : ℕ) (p : Part) → Brings given v n p → IsCarried i v p

-- names of parts that differ from those after them
abbrev pub NamesDiffer : List Part → Type 0
NamesDiffer [] = Unit {0}
NamesDiffer (p ∷ ps) = ((q : Part) → Has q ps → q.name ≡ p.name → ⊥) × NamesDiffer ps

abbrev pub LongestAreCarried : Type 0
LongestAreCarried =
    (v : ViewId) (asked : Mask) (given : List Answer) → ((a : Answer) → Has a given → NamesDiffer a.parts) → CarriesLongest given (install_of (all_counted (opened v asked) given))
