-- One list: the lists of a view's nodes are fronts of one list per group, and the views of a node rise.
use Rattle.std.specs.Prelude.{◌≡◌, ℕ, Bool, true, List, length, Option, Some, None, IsTrue}
use Rattle.rsct_packet.specs.declared.ids.ViewId.{ViewId}
use Rattle.rsct_packet.specs.Ids.{view_lt, is_member}
use Rattle.proposal_core.specs.declared.entry.Entry.{Entry}
use Rattle.proposal_core.specs.Fold.{fits}
use Rattle.node_state.specs.declared.happened.Happened.{Happened}
use Rattle.node_state.specs.declared.happened.Happened.TheVariants.{In, Put}
use Rattle.rsct_packet.specs.Search.{Has}
use Rattle.run_safety.specs.Past.{History, records_of, EachRecord, earlier, view_now, inc_now, puts_of, state_now}

-- two entries at one place of one view's list of one group are the same
abbrev pub OneEntry : History → Type 0
OneEntry h =
    (n m : ℕ) (v : ViewId) (g : List ℕ) (i : ℕ) (e f : Entry) → Has (Put n v g i e) (records_of h) → Has (Put m v g i f) (records_of h) → e ≡ f

-- the places of one node's entries of one view and group are 0, 1, 2 and on
abbrev pub NextPlace : List Happened → Happened → Type 0
NextPlace rs (Put n v g i e) = i ≡ length (puts_of n v g rs)
NextPlace rs _ = Unit {0}

-- a node puts entries into the lists of the view that it is in
abbrev pub InItsView : List Happened → Happened → Type 0
InItsView rs (Put n v g i e) = view_now n rs ≡ Some v
InItsView rs _ = Unit {0}

-- each entry fits what those before it make of the base
abbrev pub Fitting : List Happened → Happened → Type 0
Fitting rs (Put n v g i e) = IsTrue (fits (state_now n v g rs) e)
Fitting rs _ = Unit {0}

abbrev pub is_later : Option ViewId → ViewId → Bool
is_later None v = true
is_later (Some u) v = view_lt u v

-- a node enters greater views as long as its incarnation lasts
abbrev pub Rising : List Happened → Happened → Type 0
Rising rs (In n v ms) = IsTrue (is_later (view_now n rs) v)
Rising rs _ = Unit {0}

-- who enters a view is one of its members, with its incarnation
abbrev pub AmongMembers : List Happened → Happened → Type 0
AmongMembers rs (In n v ms) = IsTrue (is_member ms n (inc_now n rs))
AmongMembers rs _ = Unit {0}

abbrev pub Each : (List Happened → Happened → Type 0) → History → Type 0
Each P h = EachRecord (λ now before r. P (earlier now before) r) h

pub record OneList (h : History) : Type 0 where
  pub one_entry : OneEntry h
  pub places : Each NextPlace h
  pub in_view : Each InItsView h
  pub fitting : Each Fitting h
  pub rising : Each Rising h
  pub among : Each AmongMembers h
