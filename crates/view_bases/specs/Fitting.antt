-- The end of a list, at which entries fit or not.
use Rattle.std.specs.Prelude.{ℕ, ◌+◌, []}
use Rattle.rsct_packet.specs.declared.ids.ViewId.{ViewId}
use Rattle.proposal_core.specs.declared.entry.Entry.{Entry}
use Rattle.proposal_core.specs.Sizes.{entry_len}
use Rattle.proposal_core.specs.Fold.{after}
use Rattle.proposal_core.specs.GroupView.{GroupView}
use Rattle.view_bases.specs.declared.cut.ListEnd.{ListEnd}

-- a list with this end, of which nothing is kept
abbrev pub list_with : ListEnd → GroupView
list_with s = record { start = 0; len = s.len; bytes = s.bytes; state = s.state; entries = [] }

abbrev pub end_of : GroupView → ListEnd
end_of l = record { len = l.len; bytes = l.bytes; state = l.state }

-- the end after one more entry
unfoldable pub passed : ListEnd → ViewId → Entry → ListEnd
passed s v e = record { len = s.len + 1; bytes = s.bytes + entry_len e; state = after s.state v s.len e }
