-- How a line is read: without care at first, as whoever reads it writes it again and compares.
use Rattle.std.specs.Prelude.{ℕ, Bool, true, false, not, filter, ◌==◌, ◌&&◌, List, [], ◌∷◌, Option, Some, None, codes}
use Rattle.std.specs.Fmt.{digits}
use Rattle.std.specs.Option.{option_map}
use Rattle.std.specs.Str.{bytes_eq}
use Rattle.rsct_packet.specs.declared.ids.ProtoId.{ProtoId}
use Rattle.rsct_packet.specs.declared.ids.ProviderId.{ProviderId}
use Rattle.rsct_packet.specs.Lists.{is_empty}
use Rattle.rsct_packet.specs.Providers.{are_providers}
use Rattle.proposal_core.specs.declared.entry.Vote.{Vote}
use Rattle.proposal_core.specs.declared.proposal.Proposal.{Proposal}
use Rattle.proposal_core.specs.declared.proposal.Proposal.TheVariants as proposal
use Rattle.proposal_core.specs.declared.entry.Closed.{Closed}
use Rattle.proposal_core.specs.declared.entry.Entry.{Entry}
use Rattle.proposal_core.specs.declared.entry.Entry.TheVariants as entry
use Rattle.client_callbacks.specs.declared.told.Why.{Why}
use Rattle.session_state.specs.declared.fault.GsFault.{GsFault}
use Rattle.value_words.specs.Counted.{first_of, one_of, two_of, three_of, four_of}
use Rattle.value_words.specs.Escapes.{escapes_open, text_of}
use Rattle.value_words.specs.Wording.{wording_opens}
use Rattle.value_words.specs.Words.{◌>>=◌, when_true, split_on, name_word, client_word, node_word, network_word, provider_word, chosen}
use Rattle.entry_words.specs.Words.{attr_words_open, after_equals, attr_words}
use Rattle.entry_words.specs.Wording.{entry_wording_opens}
use Rattle.word_laws.specs.declared.kind.Kind.{Kind}
use Rattle.word_laws.specs.declared.kind.Kind.TheVariants as kind
use Rattle.word_laws.specs.Entries.{entries_read_open, kind_read, vote_letter, EntryHead, HOnce, HBegin, HPhase, HApprove, HReject, HLate, asker_word, failure_word, is_source_len, source_len_of, row_word, entry_head, why_head, said_why, why_read, fault_head, said_fault, fault_read}
use Rattle.word_laws.specs.Ranges.{ranges_open}
use Rattle.word_laws.specs.Values.{values_read_open, u32_word, u16_word, two_word, view_word, ring_word, proto_word, member_word, list_word, value_word}
use Rattle.record_lines.specs.declared.line.Line.{Line}
use Rattle.record_lines.specs.declared.line.Line.TheVariants as line
use Rattle.record_lines.specs.declared.line.Note.{Note}
use Rattle.record_lines.specs.declared.line.Note.TheVariants as note
use Rattle.record_lines.specs.declared.line.OpenPhase.{OpenPhase}
use Rattle.record_lines.specs.declared.line.Status.{Status}
use Rattle.record_lines.specs.declared.line.Status.TheVariants as status
use Rattle.record_lines.specs.declared.line.What.{What}
use Rattle.record_lines.specs.declared.line.What.TheVariants as what
use Rattle.record_lines.specs.declared.parts.Ballot.{Ballot}
use Rattle.record_lines.specs.declared.parts.ClientName.{ClientName}
use Rattle.record_lines.specs.Fits.{fits_opens, fits_text, line_fits}
use Rattle.record_lines.specs.Writing.{writing_opens, line_text}

-- ---- one word after another

-- what the next word says, and the words behind it
unfoldable pub next : {X : Type 0} → (List ℕ → Option X) → List (List ℕ) → Option (X × List (List ℕ))
next f [] = None
next f (w ∷ ws) = do
  x ← f w
  Some (x, ws)

-- no word stands behind it
unfoldable pub ended : {X : Type 0} → X → List (List ℕ) → Option X
ended x ws = when_true (Some x) (is_empty ws)

-- ---- what the types of a line hold: names of 1 to 32 bytes, texts of at most 65,535, at most 64 providers that differ

unfoldable pub group_name : List ℕ → Option (List ℕ)
group_name w = name_word 32 w

unfoldable pub kept_text : Option (List ℕ) → Option (List ℕ)
kept_text o = do
  bytes ← o
  when_true (Some bytes) (fits_text bytes)

unfoldable pub named_word : List ℕ → Option (List ProviderId)
named_word w = do
  ps ← list_word provider_word w
  when_true (Some ps) (are_providers ps)

-- a vote, with its value where one stands behind it
unfoldable pub valued_ballot : Vote → List ℕ → Option Ballot
valued_ballot v [] = Some (record { vote = v; value = None })
valued_ballot v (b ∷ bs) = do
  x ← kept_text (value_word (b ∷ bs))
  Some (record { vote = v; value = Some x })

unfoldable pub ballot_word : List ℕ → Option Ballot
ballot_word [] = None
ballot_word (b ∷ bs) = do
  v ← vote_letter (b ∷ [])
  valued_ballot v bs

-- the mark, or what is read by f
unfoldable pub unless : {X : Type 0} → List ℕ → (List ℕ → Option X) → List ℕ → Option (Option X)
unless mark f w = elim (bytes_eq w mark) [ true ↦ Some None | false ↦ option_map Some (f w) ]

-- the words that have a byte
unfoldable pub filled : List (List ℕ) → List (List ℕ)
filled ws = filter (λ w. not (is_empty w)) ws

-- those of a join's words that set attributes
unfoldable pub attrs_in : List (List ℕ) → List (List ℕ)
attrs_in ws = filled (filter (λ w. not (is_source_len w)) ws)

-- who asks, and its value
unfoldable pub asked_value : List (List ℕ) → Option (ProviderId × ℕ × List ℕ)
asked_value ws = do
  w ← two_of ws
  x ← asker_word w.0
  value ← kept_text (value_word w.1)
  Some (x.0, x.1, value)

-- the words behind the word of the kind
unfoldable pub said_proposal : Kind → List (List ℕ) → Option Proposal
said_proposal kind.Join ws = do
  w ← first_of ws
  ps ← named_word w.0
  a ← attr_words (attrs_in w.1)
  n ← source_len_of (filter is_source_len w.1)
  Some (proposal.Join ps a n)
said_proposal kind.Leave ws = do
  w ← one_of ws
  x ← asker_word w
  Some (proposal.Leave x.0 x.1)
said_proposal kind.Fail ws = do
  w ← one_of ws
  out ← list_word failure_word w
  Some (proposal.Fail out)
said_proposal kind.Expel ws = do
  w ← two_of ws
  x ← asker_word w.0
  out ← named_word w.1
  Some (proposal.Expel x.0 x.1 out)
said_proposal kind.State ws = do
  x ← asked_value ws
  Some (proposal.State x.0 x.1 x.2)
said_proposal kind.Message ws = do
  x ← asked_value ws
  Some (proposal.Message x.0 x.1 x.2)
said_proposal kind.Attributes ws = do
  w ← first_of ws
  x ← asker_word w.0
  a ← attr_words (filled w.1)
  Some (proposal.Attributes x.0 x.1 a)
said_proposal kind.Reflect ws = do
  w ← two_of ws
  x ← proto_word w.0
  value ← kept_text (value_word w.1)
  Some (proposal.Reflect x.view x.place value)

unfoldable pub proposal_words : List (List ℕ) → Option Proposal
proposal_words ws = do
  k ← next kind_read ws
  said_proposal k.0 k.1

-- a value, `-` for none
unfoldable pub text_or_none : List ℕ → Option (Option (List ℕ))
text_or_none w = unless (codes "-") (λ v. kept_text (value_word v)) w

-- what closes a phase, with a value or none
unfoldable pub valued_closed : List (List ℕ) → Option Closed
valued_closed ws = do
  w ← four_of ws
  proto ← proto_word w.0
  phase ← u16_word w.1
  rows ← list_word row_word w.2
  value ← text_or_none w.3
  Some (record { proto = proto; phase = phase; rows = rows; value = value; message = None })

-- the words behind an entry's first
unfoldable pub entry_said : EntryHead → List (List ℕ) → Option Entry
entry_said HOnce ws = do
  x ← proposal_words ws
  Some (entry.Once x)
entry_said HBegin ws = do
  x ← proposal_words ws
  Some (entry.Begin x)
entry_said HPhase ws = do
  c ← valued_closed ws
  Some (entry.Phase c)
entry_said HApprove ws = do
  c ← valued_closed ws
  Some (entry.Approve c)
entry_said HReject ws = do
  w ← three_of ws
  proto ← proto_word w.0
  phase ← u16_word w.1
  rows ← list_word row_word w.2
  Some (entry.Reject (record { proto = proto; phase = phase; rows = rows; value = None; message = None }))
entry_said HLate ws = do
  w ← three_of ws
  proto ← proto_word w.0
  phase ← u16_word w.1
  ps ← named_word w.2
  Some (entry.Late proto phase ps)

unfoldable pub entry_of_words : List (List ℕ) → Option Entry
entry_of_words ws = do
  k ← first_of ws
  h ← entry_head k.0
  entry_said h k.1

-- ---- why something is refused, where a word behind the first says more

unfoldable pub valued_why : List ℕ → List ℕ → Option Why
valued_why head w = do
  h ← why_head head
  said_why h w

unfoldable pub valued_fault : List ℕ → List ℕ → Option GsFault
valued_fault head w = do
  h ← fault_head head
  said_fault h w

-- ---- what was heard, what runs

unfoldable pub opening_read : List ℕ → Option (Kind → What)
opening_read w = chosen (record { word = codes "once"; means = what.Once } ∷ record { word = codes "begin"; means = what.Begin } ∷ []) w

unfoldable pub closing_read : List ℕ → Option What
closing_read w =
    chosen
    (record { word = codes "phase"; means = what.Phase }
    ∷ record { word = codes "approve"; means = what.Approve }
    ∷ record { word = codes "reject"; means = what.Reject }
    ∷ record { word = codes "late"; means = what.Late }
    ∷ [])
    w

-- with the kind of what took effect at once, or began
unfoldable pub opened_read : List ℕ → List ℕ → Option What
opened_read w k = do
  make ← opening_read w
  x ← kind_read k
  Some (make x)

unfoldable pub what_pieces : List (List ℕ) → Option What
what_pieces (w ∷ []) = closing_read w
what_pieces (w ∷ k ∷ []) = opened_read w k
what_pieces _ = None

unfoldable pub what_read : List ℕ → Option What
what_read w = what_pieces (split_on 45 w)

unfoldable pub open_phase : ProtoId × ℕ → Option OpenPhase
open_phase x = Some (record { proto = x.0; phase = x.1 })

unfoldable pub open_phase_word : List ℕ → Option OpenPhase
open_phase_word w = do
  x ← two_word 58 proto_word u16_word w
  open_phase x

unfoldable pub open_read : List ℕ → Option (Option OpenPhase)
open_read w = unless (codes "-") open_phase_word w

-- ---- clients

-- the bytes before the first dot, and those after it
unfoldable pub before_dot : List ℕ → List ℕ
before_dot [] = []
before_dot (b ∷ bs) = elim (b == 46) [ true ↦ [] | false ↦ b ∷ before_dot bs ]

unfoldable pub after_dot : List ℕ → Option (List ℕ)
after_dot [] = None
after_dot (b ∷ bs) = elim (b == 46) [ true ↦ Some bs | false ↦ after_dot bs ]

unfoldable pub client_read : List ℕ → Option ClientName
client_read w = do
  n ← node_word (before_dot w)
  c ← after_dot w
  name ← client_word c
  Some (record { node = n; name = name })

unfoldable pub place_read : List ℕ → Option (Option ℕ)
place_read w = unless (codes "-") u32_word w

unfoldable pub group_note : List ℕ → List ℕ → List ℕ → Option Note
group_note g ms v = do
  group ← group_name g
  members ← named_word ms
  value ← kept_text (value_word v)
  Some (note.Group group members value)

unfoldable pub hosts_note : List ℕ → Option Note
hosts_note ms = do
  members ← list_word member_word ms
  Some (note.Hosts members)

unfoldable pub note_by : List ℕ → List ℕ → List ℕ → Option Note
note_by g ms v = elim (bytes_eq g (codes "HostMembership")) [ true ↦ hosts_note ms | false ↦ group_note g ms v ]

unfoldable pub note_read : List (List ℕ) → Option (Option ℕ × Note)
note_read ws = do
  x ← four_of ws
  place ← place_read x.1
  n ← note_by x.0 x.2 x.3
  Some (place, n)

-- ---- statuses

-- what stands behind the first `=`
unfoldable pub labelled : {X : Type 0} → (List ℕ → Option X) → List ℕ → Option X
labelled f w = do
  v ← after_equals w
  f v

unfoldable pub yes_read : List ℕ → Option Bool
yes_read w = chosen (record { word = codes "yes"; means = true } ∷ record { word = codes "no"; means = false } ∷ []) w

pub data StatusHead : Type 0 where
  SRing : StatusHead
  SView : StatusHead
  SGroup : StatusHead
  SVote : StatusHead

unfoldable pub status_head : List ℕ → Option StatusHead
status_head w =
    chosen
    (record { word = codes "hats"; means = SRing }
    ∷ record { word = codes "hagsns"; means = SView }
    ∷ record { word = codes "hagsgr"; means = SGroup }
    ∷ record { word = codes "hagsvote"; means = SVote }
    ∷ [])
    w

-- the words behind the status's first
unfoldable pub said_status : StatusHead → List (List ℕ) → Option Status
said_status SRing ws = do
  network ← next network_word ws
  ring ← next ring_word network.1
  members ← next (labelled (list_word node_word)) ring.1
  neighbour ← next (labelled node_word) members.1
  ended (status.Ring network.0 ring.0 members.0 neighbour.0) neighbour.1
said_status SView ws = do
  view ← next view_word ws
  coord ← next after_equals view.1
  members ← next (labelled (list_word member_word)) coord.1
  frozen ← next (labelled yes_read) members.1
  ended (status.View view.0 members.0 frozen.0) frozen.1
said_status SGroup ws = do
  group ← next group_name ws
  leader ← next (labelled (unless (codes "?") node_word)) group.1
  len ← next (labelled u32_word) leader.1
  members ← next (labelled named_word) len.1
  value ← next (labelled (λ w. kept_text (text_of w))) members.1
  ended (status.Group group.0 leader.0 len.0 members.0 value.0) value.1
said_status SVote ws = do
  group ← next group_name ws
  proto ← next proto_word group.1
  phase ← next (labelled u16_word) proto.1
  k ← next (labelled kind_read) phase.1
  waiting ← next (labelled (unless (codes "?") named_word)) k.1
  ended (status.Vote group.0 proto.0 phase.0 k.0 waiting.0) waiting.1

unfoldable pub status_read : List (List ℕ) → Option Status
status_read [] = None
status_read (w ∷ ws) = do
  h ← status_head w
  said_status h ws

-- ---- lines

pub data LineHead : Type 0 where
  HUp : LineHead
  HDown : LineHead
  HRing : LineHead
  HIn : LineHead
  HBase : LineHead
  HPut : LineHead
  HHeard : LineHead
  HCast : LineHead
  HAsked : LineHead
  HTold : LineHead
  HNoted : LineHead
  HRefused : LineHead
  HShow : LineHead

unfoldable pub line_head : List ℕ → Option LineHead
line_head w =
    chosen
    (record { word = codes "up"; means = HUp }
    ∷ record { word = codes "down"; means = HDown }
    ∷ record { word = codes "ring"; means = HRing }
    ∷ record { word = codes "in"; means = HIn }
    ∷ record { word = codes "base"; means = HBase }
    ∷ record { word = codes "put"; means = HPut }
    ∷ record { word = codes "heard"; means = HHeard }
    ∷ record { word = codes "cast"; means = HCast }
    ∷ record { word = codes "asked"; means = HAsked }
    ∷ record { word = codes "told"; means = HTold }
    ∷ record { word = codes "noted"; means = HNoted }
    ∷ record { word = codes "refused"; means = HRefused }
    ∷ record { word = codes "show"; means = HShow }
    ∷ [])
    w

-- the words behind the line's first
unfoldable pub said_line : LineHead → List (List ℕ) → Option Line
said_line HUp ws = do
  node ← next node_word ws
  inc ← next u32_word node.1
  ended (line.Up node.0 inc.0) inc.1
said_line HDown ws = do
  node ← next node_word ws
  ended (line.Down node.0) node.1
said_line HRing ws = do
  node ← next node_word ws
  network ← next network_word node.1
  ring ← next ring_word network.1
  members ← next (list_word node_word) ring.1
  neighbour ← next node_word members.1
  ended (line.Ring node.0 network.0 ring.0 members.0 neighbour.0) neighbour.1
said_line HIn ws = do
  node ← next node_word ws
  view ← next view_word node.1
  members ← next (list_word member_word) view.1
  ended (line.In node.0 view.0 members.0) members.1
said_line HBase ws = do
  node ← next node_word ws
  view ← next view_word node.1
  group ← next group_name view.1
  old ← next view_word group.1
  len ← next u32_word old.1
  members ← next named_word len.1
  value ← next (λ w. kept_text (value_word w)) members.1
  failed ← next named_word value.1
  run ← next open_read failed.1
  ended (line.Base node.0 view.0 group.0 (record { old = old.0; len = len.0; members = members.0; value = value.0; failed = failed.0; running = run.0 })) run.1
said_line HPut ws = do
  node ← next node_word ws
  view ← next view_word node.1
  group ← next group_name view.1
  place ← next u32_word group.1
  e ← entry_of_words place.1
  Some (line.Put node.0 view.0 group.0 place.0 e)
said_line HHeard ws = do
  provider ← next provider_word ws
  view ← next view_word provider.1
  group ← next group_name view.1
  place ← next u32_word group.1
  w ← next what_read place.1
  members ← next named_word w.1
  value ← next (λ w. kept_text (value_word w)) members.1
  ended (line.Heard provider.0 view.0 group.0 place.0 w.0 members.0 value.0) value.1
said_line HCast ws = do
  provider ← next provider_word ws
  proto ← next proto_word provider.1
  phase ← next u16_word proto.1
  x ← next ballot_word phase.1
  ended (line.Cast provider.0 proto.0 phase.0 (x.0).vote (x.0).value) x.1
said_line HAsked ws = do
  provider ← next provider_word ws
  request ← next u32_word provider.1
  group ← next group_name request.1
  k ← next kind_read group.1
  ended (line.Asked provider.0 request.0 group.0 k.0) k.1
said_line HTold ws = do
  provider ← next provider_word ws
  request ← next u32_word provider.1
  why ← why_read request.1
  Some (line.Told provider.0 request.0 why)
said_line HNoted ws = do
  client ← next client_read ws
  view ← next view_word client.1
  n ← note_read view.1
  Some (line.Noted (client.0).node (client.0).name view.0 n.0 n.1)
said_line HRefused ws = do
  client ← next client_read ws
  fault ← fault_read client.1
  Some (line.Refused (client.0).node (client.0).name fault)
said_line HShow ws = do
  node ← next node_word ws
  s ← status_read node.1
  Some (line.Show node.0 s)

unfoldable pub line_words : List (List ℕ) → Option Line
line_words [] = None
line_words (k ∷ ws) = do
  x ← line_head k
  said_line x ws

-- a line without its line feed, without care
unfoldable pub loose : List ℕ → Option Line
loose b = line_words (split_on 32 b)

-- a line without its line feed: what is read is written so again, and is one that there is
unfoldable pub line_read : List ℕ → Option Line
line_read b = do
  l ← loose b
  when_true (Some l) (bytes_eq (line_text l) b && line_fits l)

-- opens all that a line is read by, for a computation
unfoldable pub reading_opens : Unit {0}
unfolding digits escapes_open wording_opens attr_words_open entry_wording_opens entries_read_open ranges_open values_read_open fits_opens writing_opens first_of one_of two_of three_of four_of next ended group_name kept_text named_word valued_ballot ballot_word filled attrs_in asked_value said_proposal proposal_words text_or_none valued_closed entry_said entry_of_words valued_why valued_fault opening_read closing_read opened_read what_pieces what_read open_phase unless open_phase_word open_read before_dot after_dot client_read place_read group_note hosts_note note_by note_read labelled yes_read status_head said_status status_read line_head said_line line_words loose line_read
reading_opens = tt
