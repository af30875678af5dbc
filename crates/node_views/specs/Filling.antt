-- How the lists of a node are filled up to those that an install carries.
use Rattle.std.specs.Prelude.{ℕ, List, ◌++◌, map, fold, Option, Some, None}
use Rattle.std.specs.Option.{option_map}
use Rattle.std.specs.declared.alloc.Global.{Global}
use Rattle.std.specs.Prelude.{Vec}
use Rattle.proposal_core.specs.declared.entry.Entry.{Entry}
use Rattle.node_state.specs.declared.state.Core.{Core}
use Rattle.node_state.specs.HandOn.{Answering}
use Rattle.node_state.specs.Leading.{put_and_hand}
use Rattle.node_state.specs.Applying.{Lacking, fill_lists}
use Rattle.node_views.specs.declared.missing_entries.Missing.{Missing}

abbrev pub lacking_at : Missing → Lacking
lacking_at m = record { name = m.group.now; entries = m.entries.now }

abbrev pub all_lacking : Option (Vec Missing Global) → Option (List Lacking)
all_lacking o = option_map (λ v. map lacking_at v.items) o

-- what is lacking of the lists so far, and then of the others
abbrev pub with_more : List Lacking → Option (List Lacking) → Option (List Lacking)
with_more xs None = None
with_more xs (Some ys) = Some (xs ++ ys)

-- these are put and handed on in a group
abbrev pub list_filled : Answering → List ℕ → Core → List Entry → Core
list_filled f g s es = fold (λ u e. put_and_hand f u None g e) s es

-- nothing is put where a list does not go on to the install
abbrev pub filled_if : Answering → Core → Option (List Lacking) → Core
filled_if f s None = s
filled_if f s (Some xs) = fill_lists f s xs
