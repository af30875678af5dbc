-- What is kept of lists: the entries of each, the words of its first base line with the state that it begins with, and of each
-- node's list its last place, what is told of the entry there, and the state.
use Rattle.std.specs.Prelude.{ℕ, ◌≡◌, ◌+◌, true, List, [], ◌∷◌, length, take, Option, Some, None}
use Rattle.std.specs.Map.{lookup}
use Rattle.rsct_packet.specs.declared.ids.ViewId.{ViewId}
use Rattle.proposal_core.specs.declared.entry.Entry.{Entry}
use Rattle.proposal_core.specs.declared.group_state.GroupState.{GroupState}
use Rattle.proposal_core.specs.Fold.{empty_state}
use Rattle.word_laws.specs.Values.{spaced}
use Rattle.record_lines.specs.declared.line.BaseLine.{BaseLine}
use Rattle.record_lines.specs.declared.line.Line.{Line}
use Rattle.record_lines.specs.Fits.{line_fits}
use Rattle.record_lines.specs.Writing.{base_words}
use Rattle.audit_states.specs.declared.list_bases.ListBase.{ListBase}
use Rattle.audit_states.specs.declared.list_states.ListStates.{ListStates}
use Rattle.run_audit.specs.declared.lists.ListKey.{ListKey}
use Rattle.run_audit.specs.declared.lists.RowKey.{RowKey}
use Rattle.audit_states.specs.declared.row_states.RowState.{RowState}
use Rattle.run_audit.specs.Based.{ListAt}
use Rattle.run_audit.specs.Lists.{RowAt, is_list_key, is_row_key}
use Rattle.run_audit.specs.Past.{base_of, base_state, fold_from, list_of, puts_of, state_of}
use Rattle.run_audit.specs.Table.{what_of}

-- each of these is a line that there is
abbrev pub AllFit : List Line → Type 0
AllFit [] = Unit {0}
AllFit (l ∷ ls) = (line_fits l ≡ true) × AllFit ls

-- the entries that are kept, or none
unfoldable pub entries_in : Option (List Entry) → List Entry
entries_in None = []
entries_in (Some es) = es

-- the entries are those of lists
abbrev pub AreWholeLists : List Line → List (ListKey × List Entry) → Type 0
AreWholeLists ls es = (q : ListAt) → entries_in (lookup (is_list_key q.view q.group) es) ≡ list_of q.view q.group ls

unfoldable pub kept_base : Option BaseLine → GroupState → Option ListBase
kept_base None s = None
kept_base (Some b) s = Some (record { text = spaced (base_words b); state = s })

-- the entries are the first base lines of lists, with the states that the lists begin with
abbrev pub AreListBases : List Line → List (ListKey × ListBase) → Type 0
AreListBases ls es = (q : ListAt) → lookup (is_list_key q.view q.group) es ≡ kept_base (base_of q.view q.group ls) (base_state q.view q.group ls)

-- the state of a base that is kept, or that of a group that nobody has joined
unfoldable pub begun_state : Option ListBase → GroupState
begun_state None = empty_state
begun_state (Some b) = b.state

-- what the base's old list comes to, up to its length
unfoldable pub cut_of : BaseLine → List ℕ → List Line → GroupState
cut_of b g ls = fold_from b.old (base_state b.old g ls) 0 (take b.len (list_of b.old g ls))

-- the last of these
abbrev pub last_of : Entry → List Entry → Entry
last_of e [] = e
last_of e (f ∷ es) = last_of f es

-- of a node's list, where it has put anything, and its state
unfoldable pub kept_row : List Entry → GroupState → Option RowState
kept_row [] s = None
kept_row (e ∷ es) s = Some (record { place = length es; what = what_of (last_of e es); state = s })

-- the entries are nodes' lists
abbrev pub AreRowStates : List Line → List (RowKey × RowState) → Type 0
AreRowStates ls es = (r : RowAt) → lookup (is_row_key r) es ≡ kept_row (puts_of r.node r.view r.group ls) (state_of r.node r.view r.group ls)

-- the state of a row that is kept, or that which its list begins with
unfoldable pub row_state : Option RowState → GroupState → GroupState
row_state None s = s
row_state (Some x) s = x.state

-- the row, folded anew over a state
unfoldable pub refolded : ViewId → GroupState → List Entry → Option RowState → Option RowState
refolded v s es None = None
refolded v s es (Some x) = Some (record x { state = fold_from v s 0 (take (x.place + 1) es) })

pub record AreListStates (ls : List Line) (s : ListStates) : Type 0 where
  pub lists : AreWholeLists ls s.lists
  pub bases : AreListBases ls s.bases
  pub rows : AreRowStates ls s.rows
  pub empty : s.empty ≡ empty_state
