-- The line of each record is the text of what the record shows.
use Rattle.std.proofs.Common.{◌≡◌, ℕ, List, ◌∷◌, ◌++◌, Option, Some, None, refl, sym, ◌∙◌, ap, append_assoc, append-nil}
use Rattle.std.specs.Prelude.{codes, decimal}
use Rattle.rsct_packet.specs.declared.ids.Member.{Member}
use Rattle.rsct_packet.specs.declared.ids.ProviderId.{ProviderId}
use Rattle.rsct_packet.specs.declared.ids.ProtoId.{ProtoId}
use Rattle.rsct_packet.specs.declared.ids.RingId.{RingId}
use Rattle.rsct_packet.specs.declared.ids.ViewId.{ViewId}
use Rattle.rsct_packet.specs.declared.mask.Mask.{Mask}
use Rattle.rsct_packet.specs.Mask.{nodes_of}
use Rattle.group_attr.specs.declared.attrs.AttrFault.{AttrFault}
use Rattle.group_attr.specs.declared.attrs.AttrFault.TheVariants as attr_fault
use Rattle.proposal_core.specs.declared.proposal.Proposal.{Proposal}
use Rattle.proposal_core.specs.declared.proposal.Proposal.TheVariants as proposal
use Rattle.proposal_core.specs.declared.entry.Entry.{Entry}
use Rattle.proposal_core.specs.declared.entry.Entry.TheVariants as entry
use Rattle.proposal_core.specs.declared.entry.Vote.{Vote}
use Rattle.proposal_core.specs.declared.group_state.GroupState.{GroupState}
use Rattle.proposal_core.specs.declared.group_state.Running.{Running}
use Rattle.client_callbacks.specs.declared.told.Told.{Told}
use Rattle.client_callbacks.specs.declared.told.Told.TheVariants as told
use Rattle.client_callbacks.specs.declared.told.Why.{Why}
use Rattle.session_state.specs.declared.fault.GsFault.{GsFault}
use Rattle.session_state.specs.declared.fault.GsFault.TheVariants as fault
use Rattle.value_words.specs.Wording.{word, view_text, provider_text, ring_text, proto_text, nodes_text, members_text, providers_text, value_text}
use Rattle.entry_words.specs.Wording.{kind_text, vote_text, phase_text, closed_text, entry_text, what_text, running_text, attr_fault_text, fault_text}
use Rattle.word_laws.specs.Entries.{kind_of}
use Rattle.word_laws.specs.Values.{spaced}
use Rattle.record_lines.specs.declared.line.Line.{Line}
use Rattle.record_lines.specs.declared.line.Line.TheVariants as line
use Rattle.record_lines.specs.declared.line.Note.{Note}
use Rattle.record_lines.specs.declared.line.Note.TheVariants as note
use Rattle.record_lines.specs.declared.line.Status.{Status}
use Rattle.record_lines.specs.declared.line.Status.TheVariants as status
use Rattle.record_lines.specs.Writing.{kind_name, what_name, open_text, ballot_text, client_text, place_text, note_words, status_words, words_of, line_text}
use Rattle.record_lines.proofs.TextLaws.{up_is, down_is, ring_is, in_is, base_is, put_is, heard_is, cast_is, asked_is, told_is, noted_is, group_note_is, hosts_note_is, refused_is}
use Rattle.node_state.specs.declared.happened.Happened.TheVariants as happened
use Rattle.world_model.specs.Text as text
use Rattle.line_laws.specs.Shown.{entry_shown, what_shown, open_shown, base_shown, attr_fault_shown, fault_shown, IsNote, LinesShow}

-- ---- what a line leaves out is not in the text

entry_same : (e : Entry) → entry_text e ≡ entry_text (entry_shown e)
unfolding entry_text closed_text
entry_same (entry.Once x) = refl
entry_same (entry.Begin x) = refl
entry_same (entry.Phase c) = refl
entry_same (entry.Approve c) = refl
entry_same (entry.Reject c) = refl
entry_same (entry.Late proto phase ps) = refl

kind_same : (x : Proposal) → kind_text x ≡ kind_name (kind_of x)
unfolding kind_text kind_name kind_of
kind_same (proposal.Join ps a n) = refl
kind_same (proposal.Leave p r) = refl
kind_same (proposal.Fail out) = refl
kind_same (proposal.Expel p r out) = refl
kind_same (proposal.State p r value) = refl
kind_same (proposal.Message p r bytes) = refl
kind_same (proposal.Attributes p r a) = refl
kind_same (proposal.Reflect v i value) = refl

what_same : (e : Entry) → what_text e ≡ what_name (what_shown e)
unfolding what_text what_name
what_same (entry.Once x) = ap (λ z. codes "once-" ++ z) (kind_same x)
what_same (entry.Begin x) = ap (λ z. codes "begin-" ++ z) (kind_same x)
what_same (entry.Phase c) = refl
what_same (entry.Approve c) = refl
what_same (entry.Reject c) = refl
what_same (entry.Late proto phase ps) = refl

open_same : (o : Option Running) → running_text o ≡ open_text (open_shown o)
unfolding running_text open_text
open_same None = refl
open_same (Some run) = append_assoc (proto_text run.proto) (codes ":") (decimal run.phase)

attr_fault_same : (f : AttrFault) → attr_fault_text f ≡ attr_fault_text (attr_fault_shown f)
unfolding attr_fault_text
attr_fault_same (attr_fault.Limit n) = refl
attr_fault_same (attr_fault.SourceLimit n) = refl
attr_fault_same attr_fault.Source = refl

fault_same : (f : GsFault) → fault_text f ≡ fault_text (fault_shown f)
unfolding fault_text
fault_same (fault.BadGroupAttributes f) = ap (λ z. codes "BAD_GROUP_ATTRIBUTES " ++ z) (attr_fault_same f)
fault_same fault.NoInit = refl
fault_same fault.Exists = refl
fault_same fault.NameTooLong = refl
fault_same (fault.BadParameter f) = refl
fault_same fault.BadClientToken = refl
fault_same fault.BadMemberToken = refl
fault_same fault.UnknownGroup = refl
fault_same fault.VoteNotExpected = refl
fault_same (fault.Collide r) = refl
fault_same (fault.SessionsFull n) = refl
fault_same fault.Spent = refl
fault_same fault.NoMemory = refl

ballot_same : (v : Vote) (value : Option (List ℕ)) → vote_text v ++ text.cast_value_text value ≡ ballot_text v value
unfolding text.cast_value_text ballot_text
ballot_same v None = append-nil (vote_text v)
ballot_same v (Some bytes) = refl

place_same : (o : Option ℕ) → text.place_option_text o ≡ place_text o
unfolding text.place_option_text place_text
place_same None = refl
place_same (Some i) = refl

-- ---- each kind

up_line : (n j : ℕ) → text.record_text (happened.Up n j) ≡ line_text (line.Up n j)
unfolding text.record_text
up_line n j = sym (up_is n j)

down_line : (n : ℕ) → text.record_text (happened.Down n) ≡ line_text (line.Down n)
unfolding text.record_text
down_line n = sym (down_is n)

ring_flat : (a b c d e : List ℕ) → codes "ring " ++ word a ++ word b ++ word c ++ word d ++ e ≡ codes "ring " ++ word a ++ word b ++ word c ++ d ++ codes " " ++ e
unfolding word
ring_flat a b c d e = simp append_assoc refl

ring_line : (n network : ℕ) (ring : RingId) (members : Mask) (m : ℕ) → text.record_text (happened.Ring n network ring members m) ≡ line_text (line.Ring n network ring (nodes_of members) m)
unfolding text.record_text
ring_line n network ring members m =
    ring_flat (decimal n) (decimal network) (ring_text ring) (nodes_text (nodes_of members)) (decimal m) ∙ sym (ring_is n network ring (nodes_of members) m)

in_line : (n : ℕ) (v : ViewId) (ms : List Member) → text.record_text (happened.In n v ms) ≡ line_text (line.In n v ms)
unfolding text.record_text
in_line n v ms = sym (in_is n v ms)

base_flat : (n v g old len ms value failed last : List ℕ)
    → codes "base " ++ word n ++ word v ++ word g ++ word old ++ word len ++ word (word ms ++ value) ++ word failed ++ last
    ≡ codes "base " ++ word n ++ word v ++ word g ++ word old ++ word len ++ word ms ++ value ++ codes " " ++ word failed ++ last
unfolding word
base_flat n v g old len ms value failed last = simp append_assoc refl

base_line : (n : ℕ) (v : ViewId) (g : List ℕ) (old : ViewId) (len : ℕ) (s : GroupState) → text.record_text (happened.Base n v g old len s) ≡ line_text (line.Base n v g (base_shown old len s))
unfolding text.record_text text.state_text
base_line n v g old len s =
    let ms : List ℕ = providers_text s.members in
    base_flat (decimal n) (view_text v) g (view_text old) (decimal len) ms (value_text s.value) (providers_text s.failed) (running_text s.running)
    ∙ (ap (λ z. codes "base " ++ word (decimal n) ++ word (view_text v) ++ word g ++ word (view_text old) ++ word (decimal len) ++ word ms ++ value_text s.value ++ codes " " ++ word (providers_text s.failed) ++ z) (open_same s.running) ∙ sym (base_is n v g (base_shown old len s)))

put_flat : (n v g i last : List ℕ) → codes "put " ++ word n ++ (word v ++ word g ++ word i) ++ last ≡ codes "put " ++ word n ++ word v ++ word g ++ word i ++ last
unfolding word
put_flat n v g i last = simp append_assoc refl

put_line : (n : ℕ) (v : ViewId) (g : List ℕ) (i : ℕ) (e : Entry) → text.record_text (happened.Put n v g i e) ≡ line_text (line.Put n v g i (entry_shown e))
unfolding text.record_text text.place_text
put_line n v g i e =
    put_flat (decimal n) (view_text v) g (decimal i) (entry_text e)
    ∙ (ap (λ z. codes "put " ++ word (decimal n) ++ word (view_text v) ++ word g ++ word (decimal i) ++ z) (entry_same e) ∙ sym (put_is n v g i (entry_shown e)))

heard_flat : (p v g i said ms value : List ℕ)
    → codes "heard " ++ word p ++ (word v ++ word g ++ word i) ++ word said ++ (word ms ++ value)
    ≡ codes "heard " ++ word p ++ word v ++ word g ++ word i ++ said ++ codes " " ++ word ms ++ value
unfolding word
heard_flat p v g i said ms value = simp append_assoc refl

heard_line : (p : ProviderId) (v : ViewId) (g : List ℕ) (i : ℕ) (e : Entry) (ms : List ProviderId) (value : List ℕ) → text.record_text (happened.Heard p v g i e ms value) ≡ line_text (line.Heard p v g i (what_shown e) ms value)
unfolding text.record_text text.place_text text.state_text
heard_line p v g i e ms value =
    heard_flat (provider_text p) (view_text v) g (decimal i) (what_text e) (providers_text ms) (value_text value)
    ∙ (ap (λ z. codes "heard " ++ word (provider_text p) ++ word (view_text v) ++ word g ++ word (decimal i) ++ z ++ codes " " ++ word (providers_text ms) ++ value_text value) (what_same e) ∙ sym (heard_is p v g i (what_shown e) ms value))

cast_flat : (p proto phase a b : List ℕ) → codes "cast " ++ word p ++ (word proto ++ word phase) ++ a ++ b ≡ codes "cast " ++ word p ++ word proto ++ word phase ++ (a ++ b)
unfolding word
cast_flat p proto phase a b = simp append_assoc refl

cast_line : (p : ProviderId) (proto : ProtoId) (phase : ℕ) (v : Vote) (value message : Option (List ℕ)) → text.record_text (happened.Cast p proto phase v value message) ≡ line_text (line.Cast p proto phase v value)
unfolding text.record_text phase_text
cast_line p proto phase v value message =
    cast_flat (provider_text p) (proto_text proto) (decimal phase) (vote_text v) (text.cast_value_text value)
    ∙ (ap (λ z. codes "cast " ++ word (provider_text p) ++ word (proto_text proto) ++ word (decimal phase) ++ z) (ballot_same v value) ∙ sym (cast_is p proto phase v value))

asked_line : (p : ProviderId) (r : ℕ) (g : List ℕ) (x : Proposal) → text.record_text (happened.Asked p r g x) ≡ line_text (line.Asked p r g (kind_of x))
unfolding text.record_text
asked_line p r g x =
    ap (λ z. codes "asked " ++ word (provider_text p) ++ word (decimal r) ++ word g ++ z) (kind_same x) ∙ sym (asked_is p r g (kind_of x))

told_line : (p : ProviderId) (r : ℕ) (why : Why) → text.record_text (happened.Told p r why) ≡ line_text (line.Told p r why)
unfolding text.record_text
told_line p r why = sym (told_is p r why)

-- whom a note is for, and when
note_front : (n : ℕ) (c : List ℕ) (v : ViewId) → codes "noted " ++ text.client_text n c ++ word (view_text v) ≡ codes "noted " ++ client_text n c ++ codes " " ++ word (view_text v)
unfolding text.client_text client_text word
note_front n c v = simp append_assoc refl

group_flat : (g at ms value : List ℕ) → word g ++ word at ++ (word ms ++ value) ≡ word g ++ at ++ codes " " ++ word ms ++ value
unfolding word
group_flat g at ms value = simp append_assoc refl

group_note : (place : Option ℕ) (group : List ℕ) (ms : List ProviderId) (value : List ℕ) → text.note_text place (told.Note group ms value) ≡ spaced (note_words place (note.Group group ms value))
unfolding text.note_text text.state_text
group_note place group ms value =
    group_flat group (text.place_option_text place) (providers_text ms) (value_text value)
    ∙ (ap (λ z. word group ++ z ++ codes " " ++ word (providers_text ms) ++ value_text value) (place_same place) ∙ sym (group_note_is place group ms value))

-- after any head
behind_flat : (h at ms : List ℕ) → h ++ word at ++ word ms ++ codes "=" ≡ h ++ at ++ codes " " ++ word ms ++ codes "="
unfolding word
behind_flat h at ms = simp append_assoc refl

hosts_flat : (at ms : List ℕ) → codes "HostMembership " ++ word at ++ word ms ++ codes "=" ≡ word (codes "HostMembership") ++ at ++ codes " " ++ word ms ++ codes "="
unfolding word
hosts_flat at ms = behind_flat (codes "HostMembership ") at ms

hosts_note : (place : Option ℕ) (view : ViewId) (ms : List Member) → text.note_text place (told.Hosts view ms) ≡ spaced (note_words place (note.Hosts ms))
unfolding text.note_text
hosts_note place view ms =
    hosts_flat (text.place_option_text place) (members_text ms)
    ∙ (ap (λ z. word (codes "HostMembership") ++ z ++ codes " " ++ word (members_text ms) ++ codes "=") (place_same place) ∙ sym (hosts_note_is place ms))

note_same : (place : Option ℕ) (t : Told) (m : Note) → IsNote t m → text.note_text place t ≡ spaced (note_words place m)
note_same place (told.Note group ms value) m e = group_note place group ms value ∙ ap (λ z. spaced (note_words place z)) (sym e)
note_same place (told.Hosts view ms) m e = hosts_note place view ms ∙ ap (λ z. spaced (note_words place z)) (sym e)
note_same place (told.Refused p r why) m e = absurd e

note_line : (n : ℕ) (c : List ℕ) (v : ViewId) (place : Option ℕ) (t : Told) (m : Note) → IsNote t m → text.record_text (happened.Noted n c v place t) ≡ line_text (line.Noted n c v place m)
unfolding text.record_text
note_line n c v place t m e =
    ap (λ z. z ++ text.note_text place t) (note_front n c v)
    ∙ (ap (λ z. (codes "noted " ++ client_text n c ++ codes " " ++ word (view_text v)) ++ z) (note_same place t m e) ∙ sym (noted_is n c v place m))

refused_flat : (n : ℕ) (c last : List ℕ) → codes "refused " ++ text.client_text n c ++ last ≡ codes "refused " ++ client_text n c ++ codes " " ++ last
unfolding text.client_text client_text word
refused_flat n c last = simp append_assoc refl

refused_line : (n : ℕ) (c : List ℕ) (f : GsFault) → text.record_text (happened.Refused n c f) ≡ line_text (line.Refused n c (fault_shown f))
unfolding text.record_text
refused_line n c f =
    refused_flat n c (fault_text f)
    ∙ (ap (λ z. codes "refused " ++ client_text n c ++ codes " " ++ z) (fault_same f) ∙ sym (refused_is n c (fault_shown f)))

show_more : (n : ℕ) (w : List ℕ) (ws : List (List ℕ)) → codes "show " ++ word (decimal n) ++ spaced (w ∷ ws) ≡ spaced (codes "show" ∷ decimal n ∷ w ∷ ws)
unfolding spaced word
show_more n w ws =
    append_assoc (codes "show ") (decimal n ++ codes " ") (spaced (w ∷ ws)) ∙ ap (λ z. codes "show " ++ z) (append_assoc (decimal n) (codes " ") (spaced (w ∷ ws)))

show_status : (n : ℕ) (s : Status) → codes "show " ++ word (decimal n) ++ spaced (status_words s) ≡ line_text (line.Show n s)
unfolding status_words line_text words_of
show_status n (status.Ring network ring members neighbour) = show_more n _ _
show_status n (status.View view members frozen) = show_more n _ _
show_status n (status.Group group leader len members value) = show_more n _ _
show_status n (status.Vote group proto phase k waiting) = show_more n _ _

show_line : (n : ℕ) (bytes : List ℕ) (s : Status) → bytes ≡ spaced (status_words s) → text.record_text (happened.Shown n bytes) ≡ line_text (line.Show n s)
unfolding text.record_text
show_line n bytes s e = ap (λ z. codes "show " ++ word (decimal n) ++ z) e ∙ show_status n s

by_line : (b : List ℕ) (k l : Line) → b ≡ line_text k → l ≡ k → b ≡ line_text l
by_line b k l e f = e ∙ ap line_text (sym f)

pub lines_show : LinesShow
lines_show (happened.Up n j) l e = by_line _ _ l (up_line n j) e
lines_show (happened.Down n) l e = by_line _ _ l (down_line n) e
lines_show (happened.Ring n network ring members m) l e = by_line _ _ l (ring_line n network ring members m) e
lines_show (happened.In n v ms) l e = by_line _ _ l (in_line n v ms) e
lines_show (happened.Base n v g old len s) l e = by_line _ _ l (base_line n v g old len s) e
lines_show (happened.Put n v g i x) l e = by_line _ _ l (put_line n v g i x) e
lines_show (happened.Heard p v g i x ms value) l e = by_line _ _ l (heard_line p v g i x ms value) e
lines_show (happened.Cast p proto phase v value message) l e = by_line _ _ l (cast_line p proto phase v value message) e
lines_show (happened.Asked p r g x) l e = by_line _ _ l (asked_line p r g x) e
lines_show (happened.Told p r why) l e = by_line _ _ l (told_line p r why) e
lines_show (happened.Noted n c v place t) l k = by_line _ _ l (note_line n c v place t k.0 k.1) k.2
lines_show (happened.Refused n c f) l e = by_line _ _ l (refused_line n c f) e
lines_show (happened.Shown n bytes) l k = by_line _ _ l (show_line n bytes k.0 k.1) k.2
