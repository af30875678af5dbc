-- What the line of a record shows, and that records which show different things have different lines.
use Rattle.std.specs.Prelude.{◌≡◌, ℕ, true, Option, Some, None}
use Rattle.rsct_packet.specs.declared.ids.ViewId.{ViewId}
use Rattle.rsct_packet.specs.Mask.{nodes_of}
use Rattle.group_attr.specs.declared.attrs.AttrFault.{AttrFault}
use Rattle.group_attr.specs.declared.attrs.AttrFault.TheVariants as attr_fault
use Rattle.proposal_core.specs.declared.entry.Closed.{Closed}
use Rattle.proposal_core.specs.declared.entry.Entry.{Entry}
use Rattle.proposal_core.specs.declared.entry.Entry.TheVariants as entry
use Rattle.proposal_core.specs.declared.group_state.GroupState.{GroupState}
use Rattle.proposal_core.specs.declared.group_state.Running.{Running}
use Rattle.client_callbacks.specs.declared.told.Told.{Told}
use Rattle.client_callbacks.specs.declared.told.Told.TheVariants as told
use Rattle.session_state.specs.declared.fault.GsFault.{GsFault}
use Rattle.session_state.specs.declared.fault.GsFault.TheVariants as fault
use Rattle.word_laws.specs.Entries.{kind_of}
use Rattle.word_laws.specs.Values.{spaced}
use Rattle.record_lines.specs.declared.line.BaseLine.{BaseLine}
use Rattle.record_lines.specs.declared.line.Line.{Line}
use Rattle.record_lines.specs.declared.line.Line.TheVariants as line
use Rattle.record_lines.specs.declared.line.Note.{Note}
use Rattle.record_lines.specs.declared.line.Note.TheVariants as note
use Rattle.record_lines.specs.declared.line.OpenPhase.{OpenPhase}
use Rattle.record_lines.specs.declared.line.Status.{Status}
use Rattle.record_lines.specs.declared.line.What.{What}
use Rattle.record_lines.specs.declared.line.What.TheVariants as what
use Rattle.record_lines.specs.Fits.{line_fits}
use Rattle.record_lines.specs.Writing.{status_words, line_text}
use Rattle.node_state.specs.declared.happened.Happened.{Happened}
use Rattle.node_state.specs.declared.happened.Happened.TheVariants as happened
use Rattle.world_model.specs.Text.{record_text, line_of}

-- a phase that closed, without the message
abbrev pub unsaid : Closed → Closed
unsaid c = record c { message = None }

-- an entry without its message, and without the value of what is rejected
abbrev pub entry_shown : Entry → Entry
entry_shown (entry.Once x) = entry.Once x
entry_shown (entry.Begin x) = entry.Begin x
entry_shown (entry.Phase c) = entry.Phase (unsaid c)
entry_shown (entry.Approve c) = entry.Approve (unsaid c)
entry_shown (entry.Reject c) = entry.Reject (record c { value = None; message = None })
entry_shown (entry.Late proto phase ps) = entry.Late proto phase ps

-- what was heard of an entry: its kind
abbrev pub what_shown : Entry → What
what_shown (entry.Once x) = what.Once (kind_of x)
what_shown (entry.Begin x) = what.Begin (kind_of x)
what_shown (entry.Phase c) = what.Phase
what_shown (entry.Approve c) = what.Approve
what_shown (entry.Reject c) = what.Reject
what_shown (entry.Late proto phase ps) = what.Late

-- of what runs its protocol and its phase
abbrev pub open_shown : Option Running → Option OpenPhase
open_shown None = None
open_shown (Some run) = Some (record { proto = run.proto; phase = run.phase })

-- of a base all but the attributes, and where its value is from
abbrev pub base_shown : ViewId → ℕ → GroupState → BaseLine
base_shown old len s = record { old = old; len = len; members = s.members; value = s.value; failed = s.failed; running = open_shown s.running }

-- of a bad limit not how great it was
abbrev pub attr_fault_shown : AttrFault → AttrFault
attr_fault_shown (attr_fault.Limit n) = attr_fault.Limit 0
attr_fault_shown (attr_fault.SourceLimit n) = attr_fault.SourceLimit 0
attr_fault_shown attr_fault.Source = attr_fault.Source

abbrev pub fault_shown : GsFault → GsFault
fault_shown (fault.BadGroupAttributes f) = fault.BadGroupAttributes (attr_fault_shown f)
fault_shown f = f

-- a subscriber is told of a group or of the hosts; a refusal is no note
abbrev pub IsNote : Told → Note → Type 0
IsNote (told.Note group members value) m = m ≡ note.Group group members value
IsNote (told.Hosts view nodes) m = m ≡ note.Hosts nodes
IsNote (told.Refused p r why) m = ⊥

-- What the line of a record shows: all that the record says, but no message, no attributes of a base, and of what was heard of an
-- entry its kind alone. A status that was asked for is in the record as it is spelled.
abbrev pub Shows : Happened → Line → Type 0
Shows (happened.Up n j) l = l ≡ line.Up n j
Shows (happened.Down n) l = l ≡ line.Down n
Shows (happened.Ring n network ring members m) l = l ≡ line.Ring n network ring (nodes_of members) m
Shows (happened.In n v ms) l = l ≡ line.In n v ms
Shows (happened.Base n v g old len s) l = l ≡ line.Base n v g (base_shown old len s)
Shows (happened.Put n v g i e) l = l ≡ line.Put n v g i (entry_shown e)
Shows (happened.Heard p v g i e ms value) l = l ≡ line.Heard p v g i (what_shown e) ms value
Shows (happened.Cast p proto phase vote value message) l = l ≡ line.Cast p proto phase vote value
Shows (happened.Asked p r g x) l = l ≡ line.Asked p r g (kind_of x)
Shows (happened.Told p r why) l = l ≡ line.Told p r why
Shows (happened.Noted n c v place t) l = (m : Note) × IsNote t m × (l ≡ line.Noted n c v place m)
Shows (happened.Refused n c f) l = l ≡ line.Refused n c (fault_shown f)
Shows (happened.Shown n bytes) l = (s : Status) × (bytes ≡ spaced (status_words s)) × (l ≡ line.Show n s)

-- the line of each record is the text of what the record shows
abbrev pub LinesShow : Type 0
LinesShow = (r : Happened) (l : Line) → Shows r l → record_text r ≡ line_text l

-- the record fits, and shows this
abbrev pub ShowsWhole : Happened → Line → Type 0
ShowsWhole r l = Shows r l × (line_fits l ≡ true)

-- two records that fit and have one line show the same
abbrev pub LinesDiffer : Type 0
LinesDiffer = (r s : Happened) (l m : Line) → ShowsWhole r l → ShowsWhole s m → line_of r ≡ line_of s → l ≡ m
