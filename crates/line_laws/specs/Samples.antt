-- Records for worked lines: a message of one member, in some group.
use Rattle.std.specs.Prelude.{ℕ, List, codes}
use Rattle.proposal_core.specs.declared.proposal.Proposal.TheVariants.{Message}
use Rattle.proposal_core.specs.declared.entry.Entry.{Entry}
use Rattle.proposal_core.specs.declared.entry.Entry.TheVariants.{Once}
use Rattle.proposal_core.specs.Samples.{first_view, member}
use Rattle.record_lines.specs.declared.line.Line.{Line}
use Rattle.record_lines.specs.declared.line.Line.TheVariants as line
use Rattle.node_state.specs.declared.happened.Happened.{Happened}
use Rattle.node_state.specs.declared.happened.Happened.TheVariants.{Put}

abbrev pub message : Entry
message = Once (Message (member 1) 2 (codes "hi"))

abbrev pub put_in : List ℕ → Happened
put_in group = Put 1 first_view group 3 message

abbrev pub line_in : List ℕ → Line
line_in group = line.Put 1 first_view group 3 message
