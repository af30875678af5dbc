-- States and entries for worked changes, right ones and wrong ones.
use Rattle.std.specs.Prelude.{ℕ, [], ◌∷◌, Some, None, codes}
use Rattle.proposal_core.specs.declared.proposal.Proposal.TheVariants.{Leave, Expel, Message}
use Rattle.proposal_core.specs.declared.entry.Entry.{Entry}
use Rattle.proposal_core.specs.declared.entry.Entry.TheVariants.{Once, Late}
use Rattle.proposal_core.specs.declared.group_state.GroupState.{GroupState}
use Rattle.proposal_core.specs.declared.group_state.Running.{Running}
use Rattle.proposal_core.specs.Fold.{empty_state}
use Rattle.proposal_core.specs.GroupView.{GroupView, new_list}
use Rattle.proposal_core.specs.Samples.{member, place_of}

-- two members, and a value
abbrev pub both : GroupState
both = record empty_state { members = member 1 ∷ member 2 ∷ []; value = codes "red" }

-- the first of them expels the second
abbrev pub expulsion : Entry
expulsion = Once (Expel (member 1) 2 (member 2 ∷ []))

abbrev pub message : Entry
message = Once (Message (member 1) 2 (codes "hi"))

-- the first asked to leave, and that is voted on
abbrev pub leaving : Running
leaving = record { proto = place_of 3; proposal = Leave (member 1) 2; phase = 1; proposed = None }

abbrev pub one_leaves : GroupState
one_leaves = record both { running = Some leaving }

-- a list with so many places
abbrev pub list_of : ℕ → GroupView
list_of n = record (new_list both) { len = n }

-- the second member is late in the first phase
abbrev pub lateness : Entry
lateness = Late (place_of 3) 1 (member 2 ∷ [])
