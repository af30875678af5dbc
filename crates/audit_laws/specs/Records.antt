-- What the records of a run show, as far as the rules of a transcript need it: the latest record comes first.
use Rattle.std.specs.Prelude.{ℕ, ◌≡◌, true, List, [], ◌∷◌, Some}
use Rattle.rsct_packet.specs.declared.ids.ViewId.{ViewId}
use Rattle.rsct_packet.specs.Search.{Has}
use Rattle.proposal_core.specs.declared.entry.Entry.{Entry}
use Rattle.proposal_core.specs.declared.group_state.GroupState.{GroupState}
use Rattle.node_state.specs.declared.happened.Happened.{Happened}
use Rattle.node_state.specs.declared.happened.Happened.TheVariants.{In, Base, Put}
use Rattle.run_safety.specs.Past.{view_now, puts_of}
use Rattle.log_laws.specs.Logs.{is_up}
use Rattle.run_laws.specs.seen_runs.Seen.{Seen}
use Rattle.run_laws.specs.seen_runs.Rings.{RingsSeen}
use Rattle.run_audit.specs.declared.broken.Rule.{Rule}
use Rattle.run_audit.specs.Table.{holds}
use Rattle.audit_laws.specs.Lines.{shown, lines}

-- a node enters views while it is up, and notes the bases of the view that it is in before it puts anything of their groups there
abbrev pub InTurn : List Happened → Happened → Type 0
InTurn rs (In n v ms) = is_up n rs ≡ true
InTurn rs (Base n v g u len s) = (view_now n rs ≡ Some v) × (puts_of n v g rs ≡ [])
InTurn rs _ = Unit {0}

abbrev pub AllInTurn : List Happened → Type 0
AllInTurn [] = Unit {0}
AllInTurn (r ∷ rs) = InTurn rs r × AllInTurn rs

-- who put something into a view's list of a group noted the base of it there, where anybody did
abbrev pub BasesAreKnown : List Happened → Type 0
BasesAreKnown rs =
    (n m : ℕ) (v : ViewId) (g : List ℕ) (i : ℕ) (e : Entry) (t : ViewId) (k : ℕ) (x : GroupState) → Has (Put n v g i e) rs → Has (Base m v g t k x) rs → Has (Base n v g t k x) rs

pub record OfRun (rs : List Happened) : Type 0 where
  pub seen : Seen rs
  pub rings : (net : ℕ) → RingsSeen net rs
  pub in_turn : AllInTurn rs
  pub known : BasesAreKnown rs

-- the line of each record of a run keeps the rule, by those before it
abbrev pub Keeps : Rule → Type 0
Keeps rule = (r : Happened) (rs : List Happened) → OfRun (r ∷ rs) → holds rule (shown r) (lines rs) ≡ true
