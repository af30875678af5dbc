-- A record whose parts are what they have to be is a line.
use Rattle.std.proofs.Common.{◌≡◌, ◌==◌, ◌≢◌, ℕ, ◌≤◌, ◌<◌, Bool, true, false, List, [], ◌∷◌, length, Option, Some, None, refl, sym, ap, subst, ◌∙◌, arith}
use Rattle.std.specs.Prelude.{◌&&◌, not, filter, nat_le, nat_lt, codes, if◌then◌else◌}
use Rattle.std.specs.List.{list_any, list_all}
use Rattle.std.specs.Str.{bytes_eq}
use Rattle.std.proofs.lemmas.Bool.{and_parts, le-leb, lt-ltb, ltb-true}
use Rattle.rsct_packet.specs.declared.ids.ProviderId.{ProviderId}
use Rattle.rsct_packet.specs.declared.ids.ProtoId.{ProtoId}
use Rattle.rsct_packet.specs.declared.ids.RingId.{RingId}
use Rattle.rsct_packet.specs.declared.ids.ViewId.{ViewId}
use Rattle.rsct_packet.specs.declared.mask.Mask.{Mask}
use Rattle.rsct_packet.specs.Fields.{IsNode, IsU16, IsU32, IsRing, IsView, IsProvider, IsProviders, IsSomeProviders, IsProto, AreShort}
use Rattle.rsct_packet.specs.Format.{EachFits, OptionFits}
use Rattle.rsct_packet.specs.Ids.{last_u32}
use Rattle.rsct_packet.specs.Lists.{is_empty}
use Rattle.rsct_packet.specs.Mask.{is_node, node_numbers, has_node, nodes_of}
use Rattle.rsct_packet.specs.Providers.{same_provider}
use Rattle.rsct_packet.specs.Text.{IsName}
use Rattle.rsct_packet.proofs.MaskLaws.{has_is_node}
use Rattle.group_attr.specs.declared.attrs.Attrs.{Attrs}
use Rattle.group_attr.specs.declared.attrs.AttrFault.{AttrFault}
use Rattle.group_attr.specs.declared.attrs.AttrFault.TheVariants as attr_fault
use Rattle.group_attr.specs.Codec.{IsAttrs}
use Rattle.proposal_core.specs.declared.proposal.Cause.{Cause}
use Rattle.proposal_core.specs.declared.proposal.Cause.TheVariants.{Died, Gone, Cast}
use Rattle.proposal_core.specs.declared.proposal.Failure.{Failure}
use Rattle.proposal_core.specs.declared.proposal.Proposal.{Proposal}
use Rattle.proposal_core.specs.declared.proposal.Proposal.TheVariants as proposal
use Rattle.proposal_core.specs.declared.entry.Closed.{Closed}
use Rattle.proposal_core.specs.declared.entry.Entry.{Entry}
use Rattle.proposal_core.specs.declared.entry.Entry.TheVariants as entry
use Rattle.proposal_core.specs.declared.entry.Row.{Row}
use Rattle.proposal_core.specs.declared.group_state.GroupState.{GroupState}
use Rattle.proposal_core.specs.declared.group_state.Running.{Running}
use Rattle.proposal_core.specs.ProposalCodec.{cause_number, same_failure, IsFailure, IsFallen, IsProposal}
use Rattle.proposal_core.specs.ProposalCodec as codec
use Rattle.proposal_core.specs.EntryCodec.{IsRow, IsClosed, IsEntry}
use Rattle.client_callbacks.specs.declared.told.Told.{Told}
use Rattle.client_callbacks.specs.declared.told.Told.TheVariants as told
use Rattle.client_callbacks.specs.declared.told.Why.{Why}
use Rattle.client_callbacks.specs.declared.told.Why.TheVariants as why
use Rattle.session_state.specs.declared.fault.GsFault.{GsFault}
use Rattle.session_state.specs.declared.fault.GsFault.TheVariants as fault
use Rattle.word_laws.specs.Ranges.{is_u32, is_u16, is_view, is_ring, is_proto, is_provider, is_value_option, is_source, are_attrs, is_failure, is_row, is_len_option, is_proposal, is_none_text, is_closed, is_entry, is_why, is_attr_fault, is_fault}
use Rattle.record_lines.specs.declared.line.Line.TheVariants as line
use Rattle.record_lines.specs.declared.line.Note.{Note}
use Rattle.record_lines.specs.declared.line.Note.TheVariants as note
use Rattle.record_lines.specs.Fits.{are_named, fits_text, fits_value, fits_value_option, ascend_from, are_nodes, same_cause, failures_differ, some_differ, proposal_holds, text_option_holds, entry_holds, fits_entry, fits_open, fits_base, why_holds, fits_why, fault_holds, fits_fault, fits_place, fits_note, is_network, line_fits}
use Rattle.record_lines.proofs.FitLaws.{named_by_type, differ_by_type}
use Rattle.node_state.specs.declared.happened.Happened.TheVariants as happened
use Rattle.node_state.proofs.NameOrder.{text_other}
use Rattle.line_laws.specs.Shown.{unsaid, entry_shown, what_shown, open_shown, base_shown, attr_fault_shown, fault_shown, IsNote}
use Rattle.line_laws.specs.Parts.{AreBytes, IsText, ProposalBytes, EntryBytes, IsOpen, IsBase, IsRefusal, IsFault, IsNews, IsNetwork, RecordsAreLines}

-- ---- tests

both : {a b : Bool} → a ≡ true → b ≡ true → (a && b) ≡ true
both e f = rw (e, f) refl

node_is : (n : ℕ) → IsNode n → is_node n ≡ true
node_is n h = both (le-leb 1 n h.0) (le-leb n 32 h.1)

u32_is : (n : ℕ) → IsU32 n → is_u32 n ≡ true
unfolding is_u32
u32_is n h = let k : n < 4294967296 = h in le-leb n 4294967295 (omega arith)

u16_is : (n : ℕ) → IsU16 n → is_u16 n ≡ true
unfolding is_u16
u16_is n h = let k : n < 65536 = h in le-leb n 65535 (omega arith)

view_is : (v : ViewId) → IsView v → is_view v ≡ true
unfolding is_view
view_is v h = both (u32_is v.number h.number) (both (node_is v.coord h.coord) (u32_is v.inc h.inc))

ring_is : (r : RingId) → IsRing r → is_ring r ≡ true
unfolding is_ring
ring_is r h = both (node_is r.leader h.leader) (both (u32_is r.inc h.inc) (u32_is r.number h.number))

proto_is : (p : ProtoId) → IsProto p → is_proto p ≡ true
unfolding is_proto
proto_is p h = both (view_is p.view h.view) (u32_is p.place h.place)

provider_is : (p : ProviderId) → IsProvider p → is_provider p ≡ true
unfolding is_provider
provider_is p h = both (node_is p.node h.node) (both (u32_is p.inc h.inc) (both (u16_is p.instance h.instance) (u32_is p.join h.join)))

each_is : {A : Type 0} (Fits : A → Type 0) (test : A → Bool) → ((x : A) → Fits x → test x ≡ true) → (xs : List A) → EachFits Fits xs → list_all test xs ≡ true
each_is Fits test one [] h = refl
each_is Fits test one (x ∷ xs) h = both (one x h.0) (each_is Fits test one xs h.1)

named_is : (ps : List ProviderId) → IsProviders ps → are_named ps ≡ true
unfolding are_named
named_is ps h = named_by_type ps (list_all is_provider ps) h.are ∙ each_is IsProvider is_provider provider_is ps h.each

some_are : (ps : List ProviderId) → IsSomeProviders ps → some_differ ps ≡ true
unfolding some_differ
some_are ps h = differ_by_type ps h.are.are ∙ le-leb 1 (length ps) h.some

text_is : (bytes : List ℕ) → AreShort bytes → fits_text bytes ≡ true
unfolding fits_text
text_is bytes h = let k : length bytes < 65536 = h in le-leb (length bytes) 65535 (omega arith)

value_is : (bytes : List ℕ) → IsText bytes → fits_value bytes ≡ true
unfolding fits_value
value_is bytes h = both (text_is bytes h.0) h.1

value_option_is : (o : Option (List ℕ)) → OptionFits IsText o → fits_value_option o ≡ true
unfolding fits_value_option
value_option_is None h = refl
value_option_is (Some bytes) h = value_is bytes h

-- ---- nodes of a set

lower : (m n : ℕ) (xs : List ℕ) → m ≤ n → ascend_from n xs ≡ true → ascend_from m xs ≡ true
unfolding ascend_from
lower m n [] le e = refl
lower m n (x ∷ xs) le e =
    let p = and_parts (nat_lt n x) (ascend_from x xs) e in
    let lt : n < x = ltb-true n x p.0 in
    both (lt-ltb m x (omega arith)) p.1

chosen_ascend : (test : ℕ → Bool) (n : ℕ) (xs : List ℕ) → ascend_from n xs ≡ true → ascend_from n (filter test xs) ≡ true
unfolding ascend_from
chosen_ascend test n [] e = refl
chosen_ascend test n (x ∷ xs) e = by (test x) (chosen_ascend test x xs p.1)
  where
    p : (nat_lt n x ≡ true) × (ascend_from x xs ≡ true)
    p = and_parts (nat_lt n x) (ascend_from x xs) e

    lt : n < x
    lt = ltb-true n x p.0

    by : (b : Bool) → ascend_from x (filter test xs) ≡ true → ascend_from n (if b then x ∷ filter test xs else filter test xs) ≡ true
    by true more = both p.0 more
    by false more = lower n x (filter test xs) (omega (arith, lt)) more

chosen_pass : (m : Mask) (xs : List ℕ) → list_all is_node (filter (has_node m) xs) ≡ true
chosen_pass m [] = refl
chosen_pass m (x ∷ xs) = by (has_node m x) refl (chosen_pass m xs)
  where
    by : (b : Bool) → has_node m x ≡ b → list_all is_node (filter (has_node m) xs) ≡ true → list_all is_node (if b then x ∷ filter (has_node m) xs else filter (has_node m) xs) ≡ true
    by true e more = both (has_is_node m x e) more
    by false e more = more

numbers_ascend : ascend_from 0 node_numbers ≡ true
unfolding ascend_from
numbers_ascend = refl

nodes_are : (m : Mask) → are_nodes (nodes_of m) ≡ true
unfolding are_nodes nodes_of
nodes_are m = both (chosen_ascend (has_node m) 0 node_numbers numbers_ascend) (chosen_pass m node_numbers)

-- ---- entries

source_is : (o : Option (List ℕ)) → OptionFits IsName o → is_source o ≡ true
unfolding is_source
source_is None h = refl
source_is (Some g) h = h

attrs_are : (a : Attrs) → IsAttrs a → are_attrs a ≡ true
unfolding are_attrs
attrs_are a h = both (u16_is a.limit h.limit) (both (u16_is a.source_limit h.source_limit) (source_is a.source h.source))

len_is : (o : Option ℕ) → OptionFits IsU32 o → is_len_option o ≡ true
unfolding is_len_option
len_is None h = refl
len_is (Some n) h = u32_is n h

failure_is : (f : Failure) → IsFailure f → is_failure f ≡ true
unfolding is_failure
failure_is f h = provider_is f.provider h

one_cause : (a b : Cause) → same_cause a b ≡ (cause_number a == cause_number b)
unfolding same_cause
one_cause Died Died = refl
one_cause Died Gone = refl
one_cause Died Cast = refl
one_cause Gone Died = refl
one_cause Gone Gone = refl
one_cause Gone Cast = refl
one_cause Cast Died = refl
one_cause Cast Gone = refl
one_cause Cast Cast = refl

any_same : {A : Type 0} (p q : A → Bool) → ((x : A) → p x ≡ q x) → (xs : List A) → list_any p xs ≡ list_any q xs
any_same p q same [] = refl
any_same p q same (x ∷ xs) = rw (same x, any_same p q same xs) refl

differ_same : (fs : List Failure) → failures_differ fs ≡ codec.failures_differ fs
unfolding failures_differ
differ_same [] = refl
differ_same (f ∷ fs) =
    let one : list_any (λ (x : Failure). same_provider x.provider f.provider && same_cause x.cause f.cause) fs ≡ list_any (λ (x : Failure). same_failure x f) fs = any_same (λ (x : Failure). same_provider x.provider f.provider && same_cause x.cause f.cause) (λ (x : Failure). same_failure x f) (λ x. ap (λ z. same_provider x.provider f.provider && z) (one_cause x.cause f.cause)) fs in
    rw (one, differ_same fs) refl

some_of : {A : Type 0} (xs : List A) → nat_le 1 (length xs) ≡ true → not (is_empty xs) ≡ true
some_of [] e = cc
some_of (x ∷ xs) e = refl

fallen_hold : (fs : List Failure) → IsFallen fs → (not (is_empty fs) && (nat_le (length fs) 64 && failures_differ fs)) ≡ true
fallen_hold fs h =
    let p = and_parts (nat_le 1 (length fs) && nat_le (length fs) 64) (codec.failures_differ fs) h.are in
    let q = and_parts (nat_le 1 (length fs)) (nat_le (length fs) 64) p.0 in
    both (some_of fs q.0) (both q.1 (differ_same fs ∙ p.1))

proposal_is : (x : Proposal) → IsProposal x → ProposalBytes x → is_proposal x ≡ true
unfolding is_proposal
proposal_is (proposal.Join ps a n) h b = both (each_is IsProvider is_provider provider_is ps h.0.are.each) (both (attrs_are a h.1.0) (len_is n h.1.1))
proposal_is (proposal.Leave p r) h b = both (provider_is p h.0) (u32_is r h.1)
proposal_is (proposal.Fail out) h b = each_is IsFailure is_failure failure_is out h.each
proposal_is (proposal.Expel p r out) h b = both (provider_is p h.0) (both (u32_is r h.1.0) (each_is IsProvider is_provider provider_is out h.1.1.are.each))
proposal_is (proposal.State p r value) h b = both (provider_is p h.0) (both (u32_is r h.1.0) b)
proposal_is (proposal.Message p r bytes) h b = both (provider_is p h.0) (both (u32_is r h.1.0) b)
proposal_is (proposal.Attributes p r a) h b = both (provider_is p h.0) (both (u32_is r h.1.0) (attrs_are a h.1.1))
proposal_is (proposal.Reflect v i value) h b = both (view_is v h.0) (both (u32_is i h.1.0) b)

holds : (x : Proposal) → IsProposal x → proposal_holds x ≡ true
unfolding proposal_holds
holds (proposal.Join ps a n) h = some_are ps h.0
holds (proposal.Leave p r) h = refl
holds (proposal.Fail out) h = fallen_hold out h
holds (proposal.Expel p r out) h = some_are out h.1.1
holds (proposal.State p r value) h = text_is value h.1.1
holds (proposal.Message p r bytes) h = text_is bytes h.1.1
holds (proposal.Attributes p r a) h = refl
holds (proposal.Reflect v i value) h = text_is value h.1.1

row_is : (r : Row) → IsRow r → is_row r ≡ true
unfolding is_row
row_is r h = provider_is r.provider h

bytes_option : (o : Option (List ℕ)) → OptionFits AreBytes o → is_value_option o ≡ true
unfolding is_value_option
bytes_option None h = refl
bytes_option (Some bytes) h = h

short_option : (o : Option (List ℕ)) → OptionFits AreShort o → text_option_holds o ≡ true
unfolding text_option_holds
short_option None h = refl
short_option (Some bytes) h = text_is bytes h

closed_is : (c : Closed) → IsClosed c → OptionFits AreBytes c.value → is_closed (unsaid c) ≡ true
unfolding is_closed is_none_text
closed_is c h b = both (proto_is c.proto h.proto) (both (u16_is c.phase h.phase) (both (each_is IsRow is_row row_is c.rows h.rows) (both (bytes_option c.value b) refl)))

rejected_is : (c : Closed) → IsClosed c → (is_closed (record c { value = None; message = None }) && is_none_text None) ≡ true
unfolding is_closed is_none_text is_value_option
rejected_is c h = both (both (proto_is c.proto h.proto) (both (u16_is c.phase h.phase) (both (each_is IsRow is_row row_is c.rows h.rows) refl))) refl

entry_is : (e : Entry) → IsEntry e → EntryBytes e → fits_entry (entry_shown e) ≡ true
unfolding fits_entry is_entry entry_holds
entry_is (entry.Once x) h b = both (proposal_is x h b) (holds x h)
entry_is (entry.Begin x) h b = both (proposal_is x h b) (holds x h)
entry_is (entry.Phase c) h b = both (closed_is c h b) (short_option c.value h.value)
entry_is (entry.Approve c) h b = both (closed_is c h b) (short_option c.value h.value)
entry_is (entry.Reject c) h b = both (rejected_is c h.0) refl
entry_is (entry.Late proto phase ps) h b = both (both (proto_is proto h.0) (both (u16_is phase h.1.0) (each_is IsProvider is_provider provider_is ps h.1.1.are.each))) (some_are ps h.1.1)

-- ---- the other parts

open_is : (o : Option Running) → OptionFits IsOpen o → fits_open (open_shown o) ≡ true
unfolding fits_open
open_is None h = refl
open_is (Some run) h = both (proto_is run.proto h.0) (u16_is run.phase h.1)

base_is : (old : ViewId) (len : ℕ) (s : GroupState) → IsView old → IsU32 len → IsBase s → fits_base (base_shown old len s) ≡ true
unfolding fits_base
base_is old len s v n h = both (view_is old v) (both (u32_is len n) (both (named_is s.members h.members) (both (value_is s.value h.value) (both (named_is s.failed h.failed) (open_is s.running h.running)))))

why_is : (y : Why) → IsRefusal y → fits_why y ≡ true
unfolding fits_why is_why why_holds is_u32
why_is (why.Collide proto) h = both (proto_is proto h) refl
why_is why.DuplicateInstance h = refl
why_is (why.NoSource len) h = both (u32_is len h) refl
why_is why.BadAttributes h = refl
why_is why.NotAMember h = refl
why_is (why.ListFull places bytes) h = both (both (u32_is places h.0) (u32_is bytes h.1)) refl
why_is (why.GroupFull n) h = both (u32_is n h) refl
why_is (why.GroupsFull n) h = subst (λ z. (nat_le z last_u32 && (z == 64)) ≡ true) (sym h) refl
why_is why.Dissolved h = refl

attr_fault_is : (f : AttrFault) → is_attr_fault (attr_fault_shown f) ≡ true
unfolding is_attr_fault
attr_fault_is (attr_fault.Limit n) = refl
attr_fault_is (attr_fault.SourceLimit n) = refl
attr_fault_is attr_fault.Source = refl

fault_is : (f : GsFault) → IsFault f → fits_fault (fault_shown f) ≡ true
unfolding fits_fault is_fault fault_holds is_u32
fault_is fault.NoInit h = refl
fault_is fault.Exists h = refl
fault_is fault.NameTooLong h = refl
fault_is (fault.BadParameter f) h = refl
fault_is fault.BadClientToken h = refl
fault_is fault.BadMemberToken h = refl
fault_is fault.UnknownGroup h = refl
fault_is (fault.BadGroupAttributes f) h = both (attr_fault_is f) refl
fault_is fault.VoteNotExpected h = refl
fault_is (fault.Collide r) h = both (u32_is r h) refl
fault_is (fault.SessionsFull n) h = subst (λ z. (nat_le z last_u32 && (z == 64)) ≡ true) (sym h) refl
fault_is fault.Spent h = refl
fault_is fault.NoMemory h = absurd h

place_is : (o : Option ℕ) → OptionFits IsU32 o → fits_place o ≡ true
unfolding fits_place
place_is None h = refl
place_is (Some i) h = u32_is i h

apart : (g h : List ℕ) → (g ≢ h) → not (bytes_eq g h) ≡ true
apart g h ne = ap not (text_other g h ne)

-- what is told a subscriber
pub news_of : (t : Told) → IsNews t → (m : Note) × IsNote t m × (fits_note m ≡ true)
unfolding fits_note
news_of (told.Note group members value) h = (note.Group group members value, refl, both (apart group (codes "HostMembership") h.0) (both h.1 (both (named_is members h.2) (value_is value h.3))))
news_of (told.Hosts view nodes) h = (note.Hosts nodes, refl, h)
news_of (told.Refused p r y) h = absurd h

network_is : (n : ℕ) → IsNetwork n → is_network n ≡ true
unfolding is_network
network_is n h = both (le-leb 1 n h.0) (le-leb n 4 h.1)

pub records_are_lines : RecordsAreLines
unfolding line_fits
records_are_lines (happened.Up n j) h = (line.Up n j, (refl, both (node_is n h.0) (u32_is j h.1)))
records_are_lines (happened.Down n) h = (line.Down n, (refl, node_is n h))
records_are_lines (happened.Ring n network ring members m) h = (line.Ring n network ring (nodes_of members) m, (refl, both (node_is n h.0) (both (network_is network h.1) (both (ring_is ring h.2) (both (nodes_are members) (node_is m h.3))))))
records_are_lines (happened.In n v ms) h = (line.In n v ms, (refl, both (node_is n h.0) (both (view_is v h.1) h.2)))
records_are_lines (happened.Base n v g old len s) h = (line.Base n v g (base_shown old len s), (refl, both (node_is n h.0) (both (view_is v h.1) (both h.2 (base_is old len s h.3 h.4 h.5)))))
records_are_lines (happened.Put n v g i e) h = (line.Put n v g i (entry_shown e), (refl, both (node_is n h.0) (both (view_is v h.1) (both h.2 (both (u32_is i h.3) (entry_is e h.4 h.5))))))
records_are_lines (happened.Heard p v g i e ms value) h = (line.Heard p v g i (what_shown e) ms value, (refl, both (provider_is p h.0) (both (view_is v h.1) (both h.2 (both (u32_is i h.3) (both (named_is ms h.4) (value_is value h.5)))))))
records_are_lines (happened.Cast p proto phase v value message) h = (line.Cast p proto phase v value, (refl, both (provider_is p h.0) (both (proto_is proto h.1) (both (u16_is phase h.2) (value_option_is value h.3)))))
records_are_lines (happened.Asked p r g x) h = (line.Asked p r g _, (refl, both (provider_is p h.0) (both (u32_is r h.1) h.2)))
records_are_lines (happened.Told p r y) h = (line.Told p r y, (refl, both (provider_is p h.0) (both (u32_is r h.1) (why_is y h.2))))
records_are_lines (happened.Noted n c v place t) h =
    let m = news_of t h.4 in
    (line.Noted n c v place m.0, ((m.0, m.1, refl), both (node_is n h.0) (both h.1 (both (view_is v h.2) (both (place_is place h.3) m.2)))))
records_are_lines (happened.Refused n c f) h = (line.Refused n c (fault_shown f), (refl, both (node_is n h.0) (both h.1 (fault_is f h.2))))
records_are_lines (happened.Shown n bytes) h = (line.Show n h.1, ((h.1, h.2, refl), both (node_is n h.0) h.3))
