-- No line that fits has a line feed.
use Rattle.std.proofs.Common.{◌≡◌, ℕ, ◌≤◌, Bool, true, false, List, [], ◌∷◌, ◌++◌, length, Option, Some, None, inl, refl, sym, subst, arith}
use Rattle.std.specs.Prelude.{◌==◌, ◌&&◌, not, flat_map, nat_le, codes, decimal, if◌then◌else◌}
use Rattle.std.specs.List.{list_all}
use Rattle.std.specs.Str.{bytes_eq}
use Rattle.std.proofs.lemmas.Bool.Decides.{nat_tests}
use Rattle.rsct_packet.specs.declared.ids.Member.{Member}
use Rattle.rsct_packet.specs.declared.ids.ProviderId.{ProviderId}
use Rattle.rsct_packet.specs.declared.ids.ViewId.{ViewId}
use Rattle.rsct_packet.specs.Mask.{is_node}
use Rattle.rsct_packet.specs.Providers.{are_providers}
use Rattle.rsct_packet.specs.Text.{name_byte, is_name_of}
use Rattle.group_attr.specs.declared.attrs.Attrs.{Attrs}
use Rattle.group_attr.specs.declared.attrs.AttrFault.{AttrFault}
use Rattle.group_attr.specs.declared.attrs.AttrFault.TheVariants as attr_fault
use Rattle.group_attr.specs.declared.attrs.Batch.{Batch}
use Rattle.group_attr.specs.declared.attrs.Batch.TheVariants as batch
use Rattle.group_attr.specs.declared.attrs.DefaultVote.{DefaultVote}
use Rattle.group_attr.specs.declared.attrs.DefaultVote.TheVariants as default_vote
use Rattle.group_attr.specs.declared.attrs.Phases.{Phases}
use Rattle.group_attr.specs.declared.attrs.Phases.TheVariants as phases
use Rattle.proposal_core.specs.declared.proposal.Cause.{Cause}
use Rattle.proposal_core.specs.declared.proposal.Cause.TheVariants as cause
use Rattle.proposal_core.specs.declared.proposal.Failure.{Failure}
use Rattle.proposal_core.specs.declared.proposal.Proposal.{Proposal}
use Rattle.proposal_core.specs.declared.proposal.Proposal.TheVariants as proposal
use Rattle.proposal_core.specs.declared.entry.Closed.{Closed}
use Rattle.proposal_core.specs.declared.entry.Entry.{Entry}
use Rattle.proposal_core.specs.declared.entry.Entry.TheVariants as entry
use Rattle.proposal_core.specs.declared.entry.Row.{Row}
use Rattle.proposal_core.specs.declared.entry.RowVote.{RowVote}
use Rattle.proposal_core.specs.declared.entry.RowVote.TheVariants as row_vote
use Rattle.proposal_core.specs.declared.entry.Vote.{Vote}
use Rattle.proposal_core.specs.declared.entry.Vote.TheVariants as vote
use Rattle.client_callbacks.specs.declared.told.Why.{Why}
use Rattle.client_callbacks.specs.declared.told.Why.TheVariants as why
use Rattle.session_state.specs.declared.fault.Field.{Field}
use Rattle.session_state.specs.declared.fault.Field.TheVariants as field
use Rattle.session_state.specs.declared.fault.GsFault.{GsFault}
use Rattle.session_state.specs.declared.fault.GsFault.TheVariants as fault
use Rattle.value_words.specs.Words.{split_on, push_head}
use Rattle.value_words.specs.Wording.{provider_text, proto_text, member_text, joined, nodes_text, members_text, providers_text, escaped, value_text}
use Rattle.entry_words.specs.declared.attrs.AttrKey.{AttrKey}
use Rattle.entry_words.specs.declared.attrs.AttrKey.TheVariants as key
use Rattle.entry_words.specs.Words.{phases_value, batch_value, default_value, limit_value, every_key, attr_row}
use Rattle.entry_words.specs.Wording.{kind_text, value_option_text, cause_text, failure_text, asker_text, vote_text, default_letter, row_vote_text, row_text, entry_text, why_text, field_text, attr_fault_text, fault_text}
use Rattle.word_laws.specs.declared.kind.Kind.{Kind}
use Rattle.word_laws.specs.declared.kind.Kind.TheVariants as kind
use Rattle.word_laws.specs.Ranges.{is_u32, is_u16, is_view, is_ring, is_proto, is_provider, is_member, is_value, is_value_option, is_source, are_attrs, is_failure, is_row, is_len_option, is_proposal, is_none_text, is_closed, is_entry, is_why, is_fault}
use Rattle.word_laws.specs.Spelled.{behind, attr_value_words, attr_spelled, attrs_words, source_len_words, proposed_spelled, closed_spelled, entry_first, entry_spelled}
use Rattle.word_laws.specs.Values.{spaced}
use Rattle.word_laws.proofs.AttributeLaws.{each_lacks_both, lacks_by}
use Rattle.word_laws.proofs.EntryLaws.{entry_is}
use Rattle.word_laws.proofs.Pieces.{Lacks, lacks_both, EachLacks, split_last}
use Rattle.word_laws.proofs.ValueLaws.{and_parts, IsApart, lacks_mark, node_lacks, u32_lacks, u16_lacks, view_lacks, proto_lacks, provider_lacks, member_lacks, ring_lacks, joined_lacks, unmarked, value_lacks, value_parts, escaped_lacks}
use Rattle.record_lines.specs.declared.line.BaseLine.{BaseLine}
use Rattle.record_lines.specs.declared.line.Line.{Line}
use Rattle.record_lines.specs.declared.line.Line.TheVariants as line
use Rattle.record_lines.specs.declared.line.Note.{Note}
use Rattle.record_lines.specs.declared.line.Note.TheVariants as note
use Rattle.record_lines.specs.declared.line.OpenPhase.{OpenPhase}
use Rattle.record_lines.specs.declared.line.Status.{Status}
use Rattle.record_lines.specs.declared.line.Status.TheVariants as status
use Rattle.record_lines.specs.declared.line.What.{What}
use Rattle.record_lines.specs.declared.line.What.TheVariants as what
use Rattle.record_lines.specs.Fits.{are_named, fits_text, fits_value, fits_value_option, ascend_from, are_nodes, members_ascend, are_members, entry_holds, fits_entry, fits_open, fits_base, why_holds, fits_why, fault_holds, fits_fault, is_client, fits_place, fits_note, is_network, fits_leader, fits_waiting, fits_status, line_fits}
use Rattle.record_lines.specs.Writing.{kind_name, what_name, open_text, ballot_text, base_words, client_text, place_text, note_words, known_text, yes_or_no, status_words, words_of, line_text}

feed : IsApart 10
feed = (inl (omega arith), grind (arith, nat_tests))

abbrev Clear : List ℕ → Type 0
Clear w = Lacks 10 w

abbrev AllClear : List (List ℕ) → Type 0
AllClear ws = EachLacks 10 ws

two : (a b : Bool) → (a && b) ≡ true → (a ≡ true) × (b ≡ true)
two a b e = and_parts a b e

three : (a b c : Bool) → (a && (b && c)) ≡ true → (a ≡ true) × (b ≡ true) × (c ≡ true)
three a b c e = let p = and_parts a (b && c) e in let q = and_parts b c p.1 in (p.0, q.0, q.1)

four : (a b c d : Bool) → (a && (b && (c && d))) ≡ true → (a ≡ true) × (b ≡ true) × (c ≡ true) × (d ≡ true)
four a b c d e = let p = three a b (c && d) e in let q = and_parts c d p.2 in (p.0, p.1, q.0, q.1)

five : (a b c d f : Bool) → (a && (b && (c && (d && f)))) ≡ true → (a ≡ true) × (b ≡ true) × (c ≡ true) × (d ≡ true) × (f ≡ true)
five a b c d f e = let p = four a b c (d && f) e in let q = and_parts d f p.3 in (p.0, p.1, p.2, q.0, q.1)

six : (a b c d f g : Bool) → (a && (b && (c && (d && (f && g))))) ≡ true → (a ≡ true) × (b ≡ true) × (c ≡ true) × (d ≡ true) × (f ≡ true) × (g ≡ true)
six a b c d f g e = let p = five a b c d (f && g) e in let q = and_parts f g p.4 in (p.0, p.1, p.2, p.3, q.0, q.1)

-- ---- words and pieces

spaced_clear : (ws : List (List ℕ)) → AllClear ws → Clear (spaced ws)
unfolding spaced
spaced_clear [] h = tt
spaced_clear (w ∷ []) h = h.0
spaced_clear (w ∷ v ∷ ws) h = lacks_both 10 w (32 ∷ spaced (v ∷ ws)) h.0 (refl, spaced_clear (v ∷ ws) h.1)

behind_clear : (ws : List (List ℕ)) → AllClear ws → Clear (behind ws)
unfolding behind
behind_clear [] h = tt
behind_clear (w ∷ ws) h = (refl, lacks_both 10 w (behind ws) h.0 (behind_clear ws h.1))

push_clear : (x : ℕ) (ps : List (List ℕ)) → (x == 10) ≡ false → AllClear ps → AllClear (push_head x ps)
unfolding push_head
push_clear x [] e h = ((e, tt), tt)
push_clear x (p ∷ ps) e h = ((e, h.0), h.1)

pieces_clear : (b : List ℕ) → Clear b → AllClear (split_on 32 b)
unfolding split_on
pieces_clear [] h = (tt, tt)
pieces_clear (x ∷ b) h = by (x == 32) (pieces_clear b h.1)
  where
    by : (t : Bool) → AllClear (split_on 32 b) → AllClear (elim t [ true ↦ [] ∷ split_on 32 b | false ↦ push_head x (split_on 32 b) ])
    by true k = (tt, k)
    by false k = push_clear x (split_on 32 b) h.0 k

-- ---- values

providers_clear : (ps : List ProviderId) → list_all is_provider ps ≡ true → Clear (providers_text ps)
unfolding providers_text
providers_clear ps e = joined_lacks provider_text 10 ps refl refl (unmarked is_provider provider_text 10 (λ p h. provider_lacks 10 p feed h) ps e)

members_clear : (ms : List Member) → list_all is_member ms ≡ true → Clear (members_text ms)
unfolding members_text
members_clear ms e = joined_lacks member_text 10 ms refl refl (unmarked is_member member_text 10 (λ m h. member_lacks 10 m feed h) ms e)

nodes_clear : (ns : List ℕ) → list_all is_node ns ≡ true → Clear (nodes_text ns)
unfolding nodes_text
nodes_clear ns e = joined_lacks decimal 10 ns refl refl (unmarked is_node decimal 10 (λ n h. node_lacks 10 n feed.0 h) ns e)

name_byte_clear : (b : ℕ) → name_byte b ≡ true → (b == 10) ≡ false
name_byte_clear b e = grind (arith, nat_tests)

name_clear : (g : List ℕ) → list_all name_byte g ≡ true → Clear g
name_clear [] e = tt
name_clear (b ∷ g) e = let p = and_parts (name_byte b) (list_all name_byte g) e in (name_byte_clear b p.0, name_clear g p.1)

last_part : (a b c : Bool) → (a && b && c) ≡ true → c ≡ true
last_part true true true e = refl
last_part true true false e = absurd cc
last_part true false c e = absurd cc
last_part false b c e = absurd cc

group_clear : (g : List ℕ) → is_name_of g ≡ true → Clear g
group_clear g e = name_clear g (last_part (nat_le 1 (length g)) (nat_le (length g) 32) (list_all name_byte g) e)

value_clear : (bs : List ℕ) → is_value bs ≡ true → Clear (value_text bs)
value_clear bs e = value_lacks 10 bs (omega arith) e

value_option_clear : (o : Option (List ℕ)) → is_value_option o ≡ true → Clear (value_option_text o)
unfolding is_value_option value_option_text
value_option_clear None e = (refl, tt)
value_option_clear (Some bs) e = value_clear bs e

-- ---- entries

asker_clear : (p : ProviderId) (r : ℕ) → is_provider p ≡ true → is_u32 r ≡ true → Clear (asker_text p r)
unfolding asker_text
asker_clear p r e f = lacks_both 10 (provider_text p ++ codes "/") (decimal r) (lacks_both 10 (provider_text p) (codes "/") (provider_lacks 10 p feed e) (lacks_by 10 (codes "/") refl)) (u32_lacks 10 r feed.0 f)

cause_clear : (c : Cause) → Clear (cause_text c)
unfolding cause_text
cause_clear cause.Died = lacks_by 10 (codes ":died") refl
cause_clear cause.Gone = lacks_by 10 (codes ":gone") refl
cause_clear cause.Cast = lacks_by 10 (codes ":cast") refl

failure_clear : (f : Failure) → is_failure f ≡ true → Clear (failure_text f)
unfolding is_failure failure_text
failure_clear f e = lacks_both 10 (provider_text f.provider) (cause_text f.cause) (provider_lacks 10 f.provider feed e) (cause_clear f.cause)

failures_clear : (fs : List Failure) → list_all is_failure fs ≡ true → Clear (joined failure_text fs)
failures_clear fs e = joined_lacks failure_text 10 fs refl refl (unmarked is_failure failure_text 10 failure_clear fs e)

row_vote_clear : (v : RowVote) → Clear (row_vote_text v)
unfolding row_vote_text vote_text default_letter
row_vote_clear (row_vote.Cast vote.Approve) = lacks_by 10 (codes "A") refl
row_vote_clear (row_vote.Cast vote.Continue) = lacks_by 10 (codes "C") refl
row_vote_clear (row_vote.Cast vote.Reject) = lacks_by 10 (codes "R") refl
row_vote_clear (row_vote.Late default_vote.Approve) = lacks_by 10 (codes "LA") refl
row_vote_clear (row_vote.Late default_vote.Reject) = lacks_by 10 (codes "LR") refl
row_vote_clear (row_vote.Failed default_vote.Approve) = lacks_by 10 (codes "FA") refl
row_vote_clear (row_vote.Failed default_vote.Reject) = lacks_by 10 (codes "FR") refl

row_clear : (r : Row) → is_row r ≡ true → Clear (row_text r)
unfolding is_row row_text
row_clear r e =
    lacks_both 10 (provider_text r.provider ++ codes "=") (row_vote_text r.vote) (lacks_both 10 (provider_text r.provider) (codes "=") (provider_lacks 10 r.provider feed e) (lacks_by 10 (codes "=") refl)) (row_vote_clear r.vote)

rows_clear : (rs : List Row) → list_all is_row rs ≡ true → Clear (joined row_text rs)
rows_clear rs e = joined_lacks row_text 10 rs refl refl (unmarked is_row row_text 10 row_clear rs e)

abbrev ValueClear : Option (List ℕ) → Type 0
ValueClear None = Unit {0}
ValueClear (Some v) = Clear v

phases_clear : (x : Phases) → ValueClear (phases_value x)
unfolding phases_value
phases_clear phases.One = tt
phases_clear phases.Many = lacks_by 10 (codes "n") refl

batch_clear : (x : Batch) → ValueClear (batch_value x)
unfolding batch_value
batch_clear batch.Neither = tt
batch_clear batch.Joins = lacks_by 10 (codes "joins") refl
batch_clear batch.Failures = lacks_by 10 (codes "failures") refl
batch_clear batch.Both = lacks_by 10 (codes "both") refl

default_clear : (x : DefaultVote) → ValueClear (default_value x)
unfolding default_value
default_clear default_vote.Approve = tt
default_clear default_vote.Reject = lacks_by 10 (codes "reject") refl

limit_clear : (n : ℕ) → is_u16 n ≡ true → ValueClear (limit_value n)
unfolding limit_value
limit_clear n e = by (n == 0)
  where
    by : (t : Bool) → ValueClear (if t then None else Some (decimal n))
    by true = tt
    by false = u16_lacks 10 n feed.0 e

source_clear : (g : Option (List ℕ)) → is_source g ≡ true → ValueClear g
unfolding is_source
source_clear None e = tt
source_clear (Some g) e = group_clear g e

attrs_parts : (a : Attrs) → are_attrs a ≡ true → (is_u16 a.limit ≡ true) × (is_u16 a.source_limit ≡ true) × (is_source a.source ≡ true)
unfolding are_attrs
attrs_parts a e = three (is_u16 a.limit) (is_u16 a.source_limit) (is_source a.source) e

attr_clear : (a : Attrs) → are_attrs a ≡ true → (k : AttrKey) → ValueClear ((attr_row k).value a)
unfolding attr_row
attr_clear a e key.Phases = phases_clear a.phases
attr_clear a e key.Batch = batch_clear a.batch
attr_clear a e key.Default = default_clear a.default_vote
attr_clear a e key.Limit = limit_clear a.limit (attrs_parts a e).0
attr_clear a e key.Source = source_clear a.source (attrs_parts a e).2
attr_clear a e key.SourcePhases = phases_clear a.source_phases
attr_clear a e key.SourceLimit = limit_clear a.source_limit (attrs_parts a e).1

key_clear : (k : AttrKey) → list_all (λ x. not (x == 10)) (attr_row k).word ≡ true
unfolding attr_row
key_clear key.Phases = refl
key_clear _ = refl

value_words_clear : (k : AttrKey) (v : Option (List ℕ)) → ValueClear v → AllClear (attr_value_words k v)
value_words_clear k None h = tt
value_words_clear k (Some v) h = (lacks_both 10 (attr_row k).word (61 ∷ v) (lacks_by 10 (attr_row k).word (key_clear k)) (refl, h), tt)

each_clear : (a : Attrs) → are_attrs a ≡ true → (ks : List AttrKey) → AllClear (flat_map (attr_spelled a) ks)
unfolding attr_spelled
each_clear a e [] = tt
each_clear a e (k ∷ ks) = each_lacks_both 10 (attr_spelled a k) (flat_map (attr_spelled a) ks) (value_words_clear k ((attr_row k).value a) (attr_clear a e k)) (each_clear a e ks)

attrs_clear : (a : Attrs) → are_attrs a ≡ true → AllClear (attrs_words a)
unfolding attrs_words
attrs_clear a e = each_clear a e every_key

len_clear : (n : Option ℕ) → is_len_option n ≡ true → AllClear (source_len_words n)
unfolding is_len_option source_len_words
len_clear None e = tt
len_clear (Some n) e = (lacks_both 10 (codes "src=") (decimal n) (lacks_by 10 (codes "src=") refl) (u32_lacks 10 n feed.0 e), tt)

kind_clear : (x : Proposal) → Clear (kind_text x)
unfolding kind_text
kind_clear (proposal.Join ps a n) = lacks_by 10 (codes "join") refl
kind_clear (proposal.Leave p r) = lacks_by 10 (codes "leave") refl
kind_clear (proposal.Fail out) = lacks_by 10 (codes "fail") refl
kind_clear (proposal.Expel p r out) = lacks_by 10 (codes "expel") refl
kind_clear (proposal.State p r value) = lacks_by 10 (codes "state") refl
kind_clear (proposal.Message p r bytes) = lacks_by 10 (codes "message") refl
kind_clear (proposal.Attributes p r a) = lacks_by 10 (codes "attrs") refl
kind_clear (proposal.Reflect v i value) = lacks_by 10 (codes "reflect") refl

asked_value : (p : ProviderId) (r : ℕ) (value : List ℕ) → (is_provider p && (is_u32 r && is_value value)) ≡ true → AllClear (asker_text p r ∷ value_text value ∷ [])
asked_value p r value e = let q = three (is_provider p) (is_u32 r) (is_value value) e in (asker_clear p r q.0 q.1, (value_clear value q.2, tt))

proto_of : (v : ViewId) (i : ℕ) → is_view v ≡ true → is_u32 i ≡ true → is_proto (record { view = v; place = i }) ≡ true
unfolding is_proto
proto_of v i e f = rw (e, f) refl

proposed_clear : (x : Proposal) → is_proposal x ≡ true → AllClear (proposed_spelled x)
unfolding is_proposal proposed_spelled
proposed_clear (proposal.Join ps a n) e =
    let q = three (list_all is_provider ps) (are_attrs a) (is_len_option n) e in
    (providers_clear ps q.0, each_lacks_both 10 (attrs_words a) (source_len_words n) (attrs_clear a q.1) (len_clear n q.2))
proposed_clear (proposal.Leave p r) e = let q = two (is_provider p) (is_u32 r) e in (asker_clear p r q.0 q.1, tt)
proposed_clear (proposal.Fail out) e = (failures_clear out e, tt)
proposed_clear (proposal.Expel p r out) e =
    let q = three (is_provider p) (is_u32 r) (list_all is_provider out) e in
    (asker_clear p r q.0 q.1, (providers_clear out q.2, tt))
proposed_clear (proposal.State p r value) e = asked_value p r value e
proposed_clear (proposal.Message p r bytes) e = asked_value p r bytes e
proposed_clear (proposal.Attributes p r a) e = let q = three (is_provider p) (is_u32 r) (are_attrs a) e in (asker_clear p r q.0 q.1, attrs_clear a q.2)
proposed_clear (proposal.Reflect v i value) e =
    let q = three (is_view v) (is_u32 i) (is_value value) e in
    (proto_lacks 10 (record { view = v; place = i }) feed refl (proto_of v i q.0 q.1), (value_clear value q.2, tt))

closed_clear : (c : Closed) (more : List (List ℕ)) → is_closed c ≡ true → (is_value_option c.value ≡ true → AllClear more) → AllClear (closed_spelled c more)
unfolding is_closed closed_spelled
closed_clear c more e h =
    let p = five (is_proto c.proto) (is_u16 c.phase) (list_all is_row c.rows) (is_value_option c.value) (is_none_text c.message) e in
    (proto_lacks 10 c.proto feed refl p.0, (u16_lacks 10 c.phase feed.0 p.1, (rows_clear c.rows p.2, h p.3)))

spelled_clear : (e : Entry) → is_entry e ≡ true → AllClear (entry_spelled e)
unfolding is_entry entry_spelled
spelled_clear (entry.Once x) h = (kind_clear x, proposed_clear x h)
spelled_clear (entry.Begin x) h = (kind_clear x, proposed_clear x h)
spelled_clear (entry.Phase c) h = closed_clear c (value_option_text c.value ∷ []) h (λ v. (value_option_clear c.value v, tt))
spelled_clear (entry.Approve c) h = closed_clear c (value_option_text c.value ∷ []) h (λ v. (value_option_clear c.value v, tt))
spelled_clear (entry.Reject c) h = closed_clear c [] (two (is_closed c) (is_none_text c.value) h).0 (λ v. tt)
spelled_clear (entry.Late proto phase ps) h =
    let q = three (is_proto proto) (is_u16 phase) (list_all is_provider ps) h in
    (proto_lacks 10 proto feed refl q.0, (u16_lacks 10 phase feed.0 q.1, (providers_clear ps q.2, tt)))

first_clear : (e : Entry) → Clear (entry_first e)
unfolding entry_first
first_clear (entry.Once x) = lacks_by 10 (codes "once") refl
first_clear (entry.Begin x) = lacks_by 10 (codes "begin") refl
first_clear (entry.Phase c) = lacks_by 10 (codes "phase") refl
first_clear (entry.Approve c) = lacks_by 10 (codes "approve") refl
first_clear (entry.Reject c) = lacks_by 10 (codes "reject") refl
first_clear (entry.Late proto phase ps) = lacks_by 10 (codes "late") refl

entry_clear : (e : Entry) → fits_entry e ≡ true → Clear (entry_text e)
unfolding fits_entry
entry_clear e h = subst Clear (sym (entry_is e)) (lacks_both 10 (entry_first e) (behind (entry_spelled e)) (first_clear e) (behind_clear (entry_spelled e) (spelled_clear e (two (is_entry e) (entry_holds e) h).0)))

-- ---- refusals

why_clear : (w : Why) → fits_why w ≡ true → Clear (why_text w)
unfolding fits_why is_why why_text
why_clear (why.Collide proto) e = lacks_both 10 (codes "COLLIDE ") (proto_text proto) (lacks_by 10 (codes "COLLIDE ") refl) (proto_lacks 10 proto feed refl (two (is_proto proto) (why_holds (why.Collide proto)) e).0)
why_clear why.DuplicateInstance e = lacks_by 10 (codes "DUPLICATE_INSTANCE_NUMBER") refl
why_clear (why.NoSource len) e = lacks_both 10 (codes "NO_SOURCE_GROUP_PROVIDER ") (decimal len) (lacks_by 10 (codes "NO_SOURCE_GROUP_PROVIDER ") refl) (u32_lacks 10 len feed.0 (two (is_u32 len) (why_holds (why.NoSource len)) e).0)
why_clear why.BadAttributes e = lacks_by 10 (codes "BAD_GROUP_ATTRIBUTES") refl
why_clear why.NotAMember e = lacks_by 10 (codes "NOT_A_MEMBER") refl
why_clear (why.ListFull places bytes) e =
    let p = two (is_u32 places && is_u32 bytes) (why_holds (why.ListFull places bytes)) e in
    let q = two (is_u32 places) (is_u32 bytes) p.0 in
    lacks_both 10 (codes "LIST_FULL " ++ decimal places ++ codes "/") (decimal bytes) (lacks_both 10 (codes "LIST_FULL " ++ decimal places) (codes "/") (lacks_both 10 (codes "LIST_FULL ") (decimal places) (lacks_by 10 (codes "LIST_FULL ") refl) (u32_lacks 10 places feed.0 q.0)) (lacks_by 10 (codes "/") refl)) (u32_lacks 10 bytes feed.0 q.1)
why_clear (why.GroupFull n) e = lacks_both 10 (codes "GROUP_FULL ") (decimal n) (lacks_by 10 (codes "GROUP_FULL ") refl) (u32_lacks 10 n feed.0 (two (is_u32 n) (why_holds (why.GroupFull n)) e).0)
why_clear (why.GroupsFull n) e = lacks_both 10 (codes "GROUPS_FULL ") (decimal n) (lacks_by 10 (codes "GROUPS_FULL ") refl) (u32_lacks 10 n feed.0 (two (is_u32 n) (why_holds (why.GroupsFull n)) e).0)
why_clear why.Dissolved e = lacks_by 10 (codes "DISSOLVED") refl

field_clear : (f : Field) → Clear (field_text f)
unfolding field_text
field_clear field.Name = lacks_by 10 (codes "name") refl
field_clear field.Value = lacks_by 10 (codes "value") refl
field_clear field.Message = lacks_by 10 (codes "message") refl
field_clear field.Targets = lacks_by 10 (codes "targets") refl
field_clear field.Subscription = lacks_by 10 (codes "subscription") refl

attr_fault_clear : (f : AttrFault) → Clear (attr_fault_text f)
unfolding attr_fault_text
attr_fault_clear (attr_fault.Limit n) = lacks_by 10 (codes "limit") refl
attr_fault_clear (attr_fault.SourceLimit n) = lacks_by 10 (codes "slimit") refl
attr_fault_clear attr_fault.Source = lacks_by 10 (codes "source") refl

fault_clear : (f : GsFault) → fits_fault f ≡ true → Clear (fault_text f)
unfolding fits_fault is_fault fault_text
fault_clear fault.NoInit e = lacks_by 10 (codes "NO_INIT") refl
fault_clear fault.Exists e = lacks_by 10 (codes "EXISTS") refl
fault_clear fault.NameTooLong e = lacks_by 10 (codes "NAME_TOO_LONG") refl
fault_clear (fault.BadParameter f) e = lacks_both 10 (codes "BAD_PARAMETER ") (field_text f) (lacks_by 10 (codes "BAD_PARAMETER ") refl) (field_clear f)
fault_clear fault.BadClientToken e = lacks_by 10 (codes "BAD_CLIENT_TOKEN") refl
fault_clear fault.BadMemberToken e = lacks_by 10 (codes "BAD_MEMBER_TOKEN") refl
fault_clear fault.UnknownGroup e = lacks_by 10 (codes "UNKNOWN_GROUP") refl
fault_clear (fault.BadGroupAttributes f) e = lacks_both 10 (codes "BAD_GROUP_ATTRIBUTES ") (attr_fault_text f) (lacks_by 10 (codes "BAD_GROUP_ATTRIBUTES ") refl) (attr_fault_clear f)
fault_clear fault.VoteNotExpected e = lacks_by 10 (codes "VOTE_NOT_EXPECTED") refl
fault_clear (fault.Collide r) e = lacks_both 10 (codes "COLLIDE ") (decimal r) (lacks_by 10 (codes "COLLIDE ") refl) (u32_lacks 10 r feed.0 (two (is_u32 r) (fault_holds (fault.Collide r)) e).0)
fault_clear (fault.SessionsFull n) e = lacks_both 10 (codes "SESSIONS_FULL ") (decimal n) (lacks_by 10 (codes "SESSIONS_FULL ") refl) (u32_lacks 10 n feed.0 (two (is_u32 n) (fault_holds (fault.SessionsFull n)) e).0)
fault_clear fault.Spent e = lacks_by 10 (codes "SPENT") refl
fault_clear fault.NoMemory e = lacks_by 10 (codes "NO_MEMORY") refl

-- ---- what stands in lines

named_clear : (ps : List ProviderId) → are_named ps ≡ true → Clear (providers_text ps)
unfolding are_named
named_clear ps e = providers_clear ps (two (are_providers ps) (list_all is_provider ps) e).1

fit_value_clear : (bs : List ℕ) → fits_value bs ≡ true → Clear (value_text bs)
unfolding fits_value
fit_value_clear bs e = value_clear bs (two (fits_text bs) (is_value bs) e).1

escaped_clear : (bs : List ℕ) → fits_value bs ≡ true → Clear (escaped bs)
unfolding fits_value
escaped_clear bs e = escaped_lacks 10 bs (omega arith) (value_parts bs (two (fits_text bs) (is_value bs) e).1)

are_nodes_clear : (ns : List ℕ) → are_nodes ns ≡ true → Clear (nodes_text ns)
unfolding are_nodes
are_nodes_clear ns e = nodes_clear ns (two (ascend_from 0 ns) (list_all is_node ns) e).1

are_members_clear : (ms : List Member) → are_members ms ≡ true → Clear (members_text ms)
unfolding are_members
are_members_clear ms e = members_clear ms (two (members_ascend 0 ms) (list_all is_member ms) e).1

small : (n : ℕ) → n ≤ 4 → is_u32 n ≡ true
unfolding is_u32
small n h = grind (arith, nat_tests)

network_clear : (n : ℕ) → is_network n ≡ true → Clear (decimal n)
unfolding is_network
network_clear n e = let p = two (nat_le 1 n) (nat_le n 4) e in u32_lacks 10 n feed.0 (small n (grind (arith, nat_tests, p.1)))

kind_name_clear : (k : Kind) → Clear (kind_name k)
unfolding kind_name
kind_name_clear kind.Join = lacks_by 10 (codes "join") refl
kind_name_clear kind.Leave = lacks_by 10 (codes "leave") refl
kind_name_clear kind.Fail = lacks_by 10 (codes "fail") refl
kind_name_clear kind.Expel = lacks_by 10 (codes "expel") refl
kind_name_clear kind.State = lacks_by 10 (codes "state") refl
kind_name_clear kind.Message = lacks_by 10 (codes "message") refl
kind_name_clear kind.Attributes = lacks_by 10 (codes "attrs") refl
kind_name_clear kind.Reflect = lacks_by 10 (codes "reflect") refl

what_clear : (w : What) → Clear (what_name w)
unfolding what_name
what_clear (what.Once k) = lacks_both 10 (codes "once-") (kind_name k) (lacks_by 10 (codes "once-") refl) (kind_name_clear k)
what_clear (what.Begin k) = lacks_both 10 (codes "begin-") (kind_name k) (lacks_by 10 (codes "begin-") refl) (kind_name_clear k)
what_clear what.Phase = lacks_by 10 (codes "phase") refl
what_clear what.Approve = lacks_by 10 (codes "approve") refl
what_clear what.Reject = lacks_by 10 (codes "reject") refl
what_clear what.Late = lacks_by 10 (codes "late") refl

open_clear : (o : Option OpenPhase) → fits_open o ≡ true → Clear (open_text o)
unfolding fits_open open_text
open_clear None e = lacks_by 10 (codes "-") refl
open_clear (Some o) e = let p = two (is_proto o.proto) (is_u16 o.phase) e in lacks_mark 58 10 (proto_text o.proto) (decimal o.phase) refl (proto_lacks 10 o.proto feed refl p.0) (u16_lacks 10 o.phase feed.0 p.1)

base_clear : (b : BaseLine) → fits_base b ≡ true → AllClear (base_words b)
unfolding fits_base base_words
base_clear b e =
    let p = six (is_view b.old) (is_u32 b.len) (are_named b.members) (fits_value b.value) (are_named b.failed) (fits_open b.running) e in
    (view_lacks 10 b.old feed p.0, (u32_lacks 10 b.len feed.0 p.1, (named_clear b.members p.2, (fit_value_clear b.value p.3, (named_clear b.failed p.4, (open_clear b.running p.5, tt))))))

vote_clear : (v : Vote) → Clear (vote_text v)
unfolding vote_text
vote_clear vote.Approve = lacks_by 10 (codes "A") refl
vote_clear vote.Continue = lacks_by 10 (codes "C") refl
vote_clear vote.Reject = lacks_by 10 (codes "R") refl

ballot_clear : (v : Vote) (value : Option (List ℕ)) → fits_value_option value ≡ true → Clear (ballot_text v value)
unfolding fits_value_option ballot_text
ballot_clear v None e = vote_clear v
ballot_clear v (Some bs) e = lacks_both 10 (vote_text v) (value_text bs) (vote_clear v) (fit_value_clear bs e)

client_clear : (n : ℕ) (c : List ℕ) → is_node n ≡ true → is_client c ≡ true → Clear (client_text n c)
unfolding client_text is_client
client_clear n c e f = lacks_mark 46 10 (decimal n) c refl (node_lacks 10 n feed.0 e) (name_clear c (three (nat_le 1 (length c)) (nat_le (length c) 16) (list_all name_byte c) f).2)

place_clear : (i : Option ℕ) → fits_place i ≡ true → Clear (place_text i)
unfolding fits_place place_text
place_clear None e = lacks_by 10 (codes "-") refl
place_clear (Some i) e = u32_lacks 10 i feed.0 e

note_clear : (place : Option ℕ) (m : Note) → fits_place place ≡ true → fits_note m ≡ true → AllClear (note_words place m)
unfolding fits_note note_words
note_clear place (note.Group group members value) e f =
    let p = and_parts (not (bytes_eq group (codes "HostMembership"))) (is_name_of group && (are_named members && fits_value value)) f in
    let q = three (is_name_of group) (are_named members) (fits_value value) p.1 in
    (group_clear group q.0, (place_clear place e, (named_clear members q.1, (fit_value_clear value q.2, tt))))
note_clear place (note.Hosts members) e f = (lacks_by 10 (codes "HostMembership") refl, (place_clear place e, (are_members_clear members f, (lacks_by 10 (codes "=") refl, tt))))

marked_clear : (w v : List ℕ) → list_all (λ x. not (x == 10)) w ≡ true → Clear v → Clear (w ++ v)
marked_clear w v e h = lacks_both 10 w v (lacks_by 10 w e) h

leader_clear : (l : Option ℕ) → fits_leader l ≡ true → Clear (known_text decimal l)
unfolding fits_leader known_text
leader_clear None e = lacks_by 10 (codes "?") refl
leader_clear (Some n) e = node_lacks 10 n feed.0 e

waiting_clear : (o : Option (List ProviderId)) → fits_waiting o ≡ true → Clear (known_text providers_text o)
unfolding fits_waiting known_text
waiting_clear None e = lacks_by 10 (codes "?") refl
waiting_clear (Some ps) e = named_clear ps e

yes_clear : (t : Bool) → Clear (yes_or_no t)
unfolding yes_or_no
yes_clear true = lacks_by 10 (codes "yes") refl
yes_clear false = lacks_by 10 (codes "no") refl

coord_clear : (v : ViewId) → is_view v ≡ true → Clear (decimal v.coord)
unfolding is_view
coord_clear v e = node_lacks 10 v.coord feed.0 (three (is_u32 v.number) (is_node v.coord) (is_u32 v.inc) e).1

status_clear : (s : Status) → fits_status s ≡ true → AllClear (status_words s)
unfolding fits_status status_words
status_clear (status.Ring net r ms m) e =
    let p = four (is_network net) (is_ring r) (are_nodes ms) (is_node m) e in
    (lacks_by 10 (codes "hats") refl, (network_clear net p.0, (ring_lacks 10 r feed p.1, (marked_clear (codes "members=") (nodes_text ms) refl (are_nodes_clear ms p.2), (marked_clear (codes "neighbour=") (decimal m) refl (node_lacks 10 m feed.0 p.3), tt)))))
status_clear (status.View v ms t) e =
    let p = two (is_view v) (are_members ms) e in
    (lacks_by 10 (codes "hagsns") refl, (view_lacks 10 v feed p.0, (marked_clear (codes "coord=") (decimal v.coord) refl (coord_clear v p.0), (marked_clear (codes "members=") (members_text ms) refl (are_members_clear ms p.1), (marked_clear (codes "frozen=") (yes_or_no t) refl (yes_clear t), tt)))))
status_clear (status.Group g leader len ms value) e =
    let p = five (is_name_of g) (fits_leader leader) (is_u32 len) (are_named ms) (fits_value value) e in
    (lacks_by 10 (codes "hagsgr") refl, (group_clear g p.0, (marked_clear (codes "leader=") (known_text decimal leader) refl (leader_clear leader p.1), (marked_clear (codes "len=") (decimal len) refl (u32_lacks 10 len feed.0 p.2), (marked_clear (codes "members=") (providers_text ms) refl (named_clear ms p.3), (marked_clear (codes "value=") (escaped value) refl (escaped_clear value p.4), tt))))))
status_clear (status.Vote g proto phase k waiting) e =
    let p = four (is_name_of g) (is_proto proto) (is_u16 phase) (fits_waiting waiting) e in
    (lacks_by 10 (codes "hagsvote") refl, (group_clear g p.0, (proto_lacks 10 proto feed refl p.1, (marked_clear (codes "phase=") (decimal phase) refl (u16_lacks 10 phase feed.0 p.2), (marked_clear (codes "kind=") (kind_name k) refl (kind_name_clear k), (marked_clear (codes "waiting=") (known_text providers_text waiting) refl (waiting_clear waiting p.3), tt))))))

-- ---- lines

words_clear : (l : Line) → line_fits l ≡ true → AllClear (words_of l)
unfolding line_fits words_of
words_clear (line.Up n j) e = let p = two (is_node n) (is_u32 j) e in (lacks_by 10 (codes "up") refl, (node_lacks 10 n feed.0 p.0, (u32_lacks 10 j feed.0 p.1, tt)))
words_clear (line.Down n) e = (lacks_by 10 (codes "down") refl, (node_lacks 10 n feed.0 e, tt))
words_clear (line.Ring n net r ms m) e =
    let p = five (is_node n) (is_network net) (is_ring r) (are_nodes ms) (is_node m) e in
    (lacks_by 10 (codes "ring") refl, (node_lacks 10 n feed.0 p.0, (network_clear net p.1, (ring_lacks 10 r feed p.2, (are_nodes_clear ms p.3, (node_lacks 10 m feed.0 p.4, tt))))))
words_clear (line.In n v ms) e =
    let p = three (is_node n) (is_view v) (are_members ms) e in
    (lacks_by 10 (codes "in") refl, (node_lacks 10 n feed.0 p.0, (view_lacks 10 v feed p.1, (are_members_clear ms p.2, tt))))
words_clear (line.Base n v g b) e =
    let p = four (is_node n) (is_view v) (is_name_of g) (fits_base b) e in
    (lacks_by 10 (codes "base") refl, (node_lacks 10 n feed.0 p.0, (view_lacks 10 v feed p.1, (group_clear g p.2, base_clear b p.3))))
words_clear (line.Put n v g i x) e =
    let p = five (is_node n) (is_view v) (is_name_of g) (is_u32 i) (fits_entry x) e in
    (lacks_by 10 (codes "put") refl, (node_lacks 10 n feed.0 p.0, (view_lacks 10 v feed p.1, (group_clear g p.2, (u32_lacks 10 i feed.0 p.3, pieces_clear (entry_text x) (entry_clear x p.4))))))
words_clear (line.Heard r v g i w ms value) e =
    let p = six (is_provider r) (is_view v) (is_name_of g) (is_u32 i) (are_named ms) (fits_value value) e in
    (lacks_by 10 (codes "heard") refl, (provider_lacks 10 r feed p.0, (view_lacks 10 v feed p.1, (group_clear g p.2, (u32_lacks 10 i feed.0 p.3, (what_clear w, (named_clear ms p.4, (fit_value_clear value p.5, tt))))))))
words_clear (line.Cast r proto phase v value) e =
    let p = four (is_provider r) (is_proto proto) (is_u16 phase) (fits_value_option value) e in
    (lacks_by 10 (codes "cast") refl, (provider_lacks 10 r feed p.0, (proto_lacks 10 proto feed refl p.1, (u16_lacks 10 phase feed.0 p.2, (ballot_clear v value p.3, tt)))))
words_clear (line.Asked r q g k) e =
    let p = three (is_provider r) (is_u32 q) (is_name_of g) e in
    (lacks_by 10 (codes "asked") refl, (provider_lacks 10 r feed p.0, (u32_lacks 10 q feed.0 p.1, (group_clear g p.2, (kind_name_clear k, tt)))))
words_clear (line.Told r q w) e =
    let p = three (is_provider r) (is_u32 q) (fits_why w) e in
    (lacks_by 10 (codes "told") refl, (provider_lacks 10 r feed p.0, (u32_lacks 10 q feed.0 p.1, pieces_clear (why_text w) (why_clear w p.2))))
words_clear (line.Noted n c v place m) e =
    let p = five (is_node n) (is_client c) (is_view v) (fits_place place) (fits_note m) e in
    (lacks_by 10 (codes "noted") refl, (client_clear n c p.0 p.1, (view_lacks 10 v feed p.2, note_clear place m p.3 p.4)))
words_clear (line.Refused n c f) e =
    let p = three (is_node n) (is_client c) (fits_fault f) e in
    (lacks_by 10 (codes "refused") refl, (client_clear n c p.0 p.1, pieces_clear (fault_text f) (fault_clear f p.2)))
words_clear (line.Show n s) e = let p = two (is_node n) (fits_status s) e in (lacks_by 10 (codes "show") refl, (node_lacks 10 n feed.0 p.0, status_clear s p.1))

pub line_lacks_feed : (l : Line) → line_fits l ≡ true → Lacks 10 (line_text l)
unfolding line_text
line_lacks_feed l e = spaced_clear (words_of l) (words_clear l e)

-- so it is one piece
pub line_is_whole : (l : Line) → line_fits l ≡ true → split_on 10 (line_text l) ≡ line_text l ∷ []
line_is_whole l e = split_last 10 (line_text l) (line_lacks_feed l e)
