-- Lines are read as they are written.
use Rattle.std.proofs.Common.{◌≡◌, inr, ℕ, ◌<◌, ◌≤◌, Bool, true, false, List, [], ◌∷◌, ◌++◌, length, Option, Some, None, refl, ◌∙◌, ap, subst, arith}
use Rattle.std.specs.Prelude.{◌==◌, ◌&&◌, not, nat_le, decimal, codes, flat_map}
use Rattle.std.specs.List.{list_all}
use Rattle.std.specs.Option.{option_map}
use Rattle.std.specs.Str.{bytes_eq}
use Rattle.std.proofs.lemmas.Bool.Decides.{nat_tests}
use Rattle.std.proofs.lemmas.Fmt.{decimal_nonempty}
use Rattle.std.proofs.lemmas.Slice.Eq.{bytes_eq-Decides}
use Rattle.rsct_packet.specs.declared.ids.Member.{Member}
use Rattle.rsct_packet.specs.declared.ids.ProtoId.{ProtoId}
use Rattle.rsct_packet.specs.declared.ids.ProviderId.{ProviderId}
use Rattle.rsct_packet.specs.declared.ids.RingId.{RingId}
use Rattle.rsct_packet.specs.declared.ids.ViewId.{ViewId}
use Rattle.rsct_packet.specs.Lists.{is_empty}
use Rattle.rsct_packet.specs.Mask.{is_node}
use Rattle.rsct_packet.specs.Providers.{are_providers}
use Rattle.rsct_packet.specs.Text.{name_byte, is_name_of}
use Rattle.proposal_core.specs.declared.proposal.Proposal.{Proposal}
use Rattle.proposal_core.specs.declared.proposal.Proposal.TheVariants as proposal
use Rattle.proposal_core.specs.declared.entry.Entry.{Entry}
use Rattle.proposal_core.specs.declared.entry.Entry.TheVariants as entry
use Rattle.proposal_core.specs.declared.entry.Vote.{Vote}
use Rattle.proposal_core.specs.declared.entry.Vote.TheVariants as vote
use Rattle.client_callbacks.specs.declared.told.Why.{Why}
use Rattle.session_state.specs.declared.fault.GsFault.{GsFault}
use Rattle.value_words.specs.Counted.{first_of, one_of, two_of, three_of, four_of}
use Rattle.value_words.specs.Escapes.{text_of}
use Rattle.value_words.specs.Wording.{view_text, provider_text, ring_text, proto_text, joined, nodes_text, members_text, providers_text, escaped, value_text}
use Rattle.value_words.specs.Words.{◌>>=◌, when_true, push_head, split_on, name_word, client_word, node_word, network_word, provider_word, chosen}
use Rattle.value_words.proofs.NameLaws.{name_is_word}
use Rattle.entry_words.specs.Words.{after_equals}
use Rattle.entry_words.specs.Wording.{vote_text, entry_text, why_text, fault_text}
use Rattle.word_laws.specs.declared.kind.Kind.{Kind}
use Rattle.word_laws.specs.declared.kind.Kind.TheVariants as kind
use Rattle.word_laws.specs.Entries.{kind_read, vote_letter, why_read, fault_read}
use Rattle.word_laws.specs.Ranges.{is_u32, is_u16, is_view, is_ring, is_proto, is_provider, is_member, is_value, is_entry, is_why, is_fault}
use Rattle.word_laws.specs.Values.{spaced, u32_word, u16_word, two_word, view_word, ring_word, proto_word, member_word, list_word, value_word}
use Rattle.word_laws.proofs.Pieces.{Lacks, lacks_both, EachLacks, split_last, split_first, split_spaced, number_read}
use Rattle.word_laws.proofs.ValueLaws.{and_parts, node_read, u32_read, u16_read, node_lacks, u32_lacks, u16_lacks, within_node, lacks_mark, two_read, blank, dash, dot, view_read, view_lacks, ring_read, ring_lacks, proto_read, proto_lacks, provider_read, provider_lacks, providers_read, providers_lack, members_read, members_lack, nodes_read, nodes_lack, value_read, value_lacks, value_bytes_read, value_parts, escaped_lacks, longer, provider_filled}
use Rattle.word_laws.proofs.AttributeLaws.{lacks_by, name_bytes_lack, named_lacks}
use Rattle.word_laws.proofs.EntryLaws.{entry_back, colon}
use Rattle.word_laws.proofs.RefusalLaws.{why_back, fault_back}
use Rattle.record_lines.specs.declared.line.BaseLine.{BaseLine}
use Rattle.record_lines.specs.declared.line.Line.{Line}
use Rattle.record_lines.specs.declared.line.Line.TheVariants as line
use Rattle.record_lines.specs.declared.line.Note.{Note}
use Rattle.record_lines.specs.declared.line.Note.TheVariants as note
use Rattle.record_lines.specs.declared.line.OpenPhase.{OpenPhase}
use Rattle.record_lines.specs.declared.line.Status.{Status}
use Rattle.record_lines.specs.declared.line.Status.TheVariants as status
use Rattle.record_lines.specs.declared.line.What.{What}
use Rattle.record_lines.specs.declared.line.What.TheVariants as what
use Rattle.record_lines.specs.Fits.{are_named, some_differ, proposal_holds, proposal_typed, entry_typed, fits_text, fits_value, fits_value_option, ascend_from, are_nodes, members_ascend, are_members, entry_holds, fits_entry, fits_open, fits_base, why_holds, fits_why, fault_holds, fits_fault, is_client, fits_place, fits_note, is_network, fits_leader, fits_waiting, fits_status, line_fits}
use Rattle.record_lines.specs.Reading.{next, ended, kept_text, named_word, valued_ballot, ballot_word, entry_of_words, group_name, opening_read, closing_read, opened_read, what_pieces, what_read, open_phase, unless, open_phase_word, open_read, before_dot, after_dot, client_read, place_read, group_note, hosts_note, note_by, note_read, labelled, yes_read, StatusHead, SRing, SView, SGroup, SVote, status_head, said_status, status_read, LineHead, HUp, HDown, HRing, HIn, HBase, HPut, HHeard, HCast, HAsked, HTold, HNoted, HRefused, HShow, line_head, said_line, line_words, loose, line_read}
use Rattle.record_lines.proofs.EntryLaws.{entry_is_typed}
use Rattle.record_lines.specs.Writing.{kind_name, what_name, open_text, ballot_text, base_words, client_text, place_text, note_words, known_text, yes_or_no, status_words, words_of, line_text}

-- ---- small steps

parts3 : (a b c : Bool) → (a && (b && c)) ≡ true → (a ≡ true) × (b ≡ true) × (c ≡ true)
parts3 a b c e = let p = and_parts a (b && c) e in let q = and_parts b c p.1 in (p.0, q.0, q.1)

parts4 : (a b c d : Bool) → (a && (b && (c && d))) ≡ true → (a ≡ true) × (b ≡ true) × (c ≡ true) × (d ≡ true)
parts4 a b c d e = let p = parts3 a b (c && d) e in let q = and_parts c d p.2 in (p.0, p.1, q.0, q.1)

parts5 : (a b c d f : Bool) → (a && (b && (c && (d && f)))) ≡ true → (a ≡ true) × (b ≡ true) × (c ≡ true) × (d ≡ true) × (f ≡ true)
parts5 a b c d f e = let p = parts4 a b c (d && f) e in let q = and_parts d f p.3 in (p.0, p.1, p.2, q.0, q.1)

parts6 : (a b c d f g : Bool) → (a && (b && (c && (d && (f && g))))) ≡ true → (a ≡ true) × (b ≡ true) × (c ≡ true) × (d ≡ true) × (f ≡ true) × (g ≡ true)
parts6 a b c d f g e = let p = parts5 a b c d (f && g) e in let q = and_parts f g p.4 in (p.0, p.1, p.2, p.3, q.0, q.1)

-- whatever is cut at a mark has none left in a piece
push_lacks : (c x : ℕ) (ps : List (List ℕ)) → (x == c) ≡ false → EachLacks c ps → EachLacks c (push_head x ps)
unfolding push_head
push_lacks c x [] e h = ((e, tt), tt)
push_lacks c x (p ∷ ps) e h = ((e, h.0), h.1)

cut_lacks : (t : Bool) (c x : ℕ) (ps : List (List ℕ)) → (x == c) ≡ t → EachLacks c ps → EachLacks c (elim t [ true ↦ [] ∷ ps | false ↦ push_head x ps ])
cut_lacks true c x ps e h = (tt, h)
cut_lacks false c x ps e h = push_lacks c x ps e h

pieces_lack : (c : ℕ) (b : List ℕ) → EachLacks c (split_on c b)
unfolding split_on
pieces_lack c [] = (tt, tt)
pieces_lack c (x ∷ b) = cut_lacks (x == c) c x (split_on c b) refl (pieces_lack c b)

network_read : (n : ℕ) → is_network n ≡ true → network_word (decimal n) ≡ Some n
unfolding is_network network_word
network_read n e = let p = and_parts (nat_le 1 n) (nat_le n 4) e in number_read 1 4 n (grind (arith, nat_tests, p.0)) (grind (arith, nat_tests, p.1)) (omega arith)

below : (n : ℕ) → n ≤ 4 → is_u32 n ≡ true
unfolding is_u32
below n h = grind (arith, nat_tests)

network_lacks : (n : ℕ) → is_network n ≡ true → Lacks 32 (decimal n)
unfolding is_network
network_lacks n e = let p = and_parts (nat_le 1 n) (nat_le n 4) e in small n (grind (arith, nat_tests, p.1))
  where
    small : (n : ℕ) → n ≤ 4 → Lacks 32 (decimal n)
    small n h = u32_lacks 32 n blank.0 (below n h)

group_read : (g : List ℕ) → is_name_of g ≡ true → group_name g ≡ Some g
unfolding group_name
group_read g e = name_is_word g e

named_providers : (ps : List ProviderId) → are_named ps ≡ true → list_all is_provider ps ≡ true
unfolding are_named
named_providers ps e = (and_parts (are_providers ps) (list_all is_provider ps) e).1

value_is : (bs : List ℕ) → fits_value bs ≡ true → is_value bs ≡ true
unfolding fits_value
value_is bs e = (and_parts (fits_text bs) (is_value bs) e).1

text_is : (bs : List ℕ) → fits_value bs ≡ true → fits_text bs ≡ true
unfolding fits_value
text_is bs e = (and_parts (fits_text bs) (is_value bs) e).0

kept_is : (bs : List ℕ) (o : Option (List ℕ)) → o ≡ Some bs → fits_text bs ≡ true → kept_text o ≡ Some bs
unfolding kept_text ◌>>=◌ when_true
kept_is bs o e f = rw (e, f) refl

text_read : (bs : List ℕ) → fits_value bs ≡ true → kept_text (value_word (value_text bs)) ≡ Some bs
text_read bs e = kept_is bs (value_word (value_text bs)) (value_read bs (value_is bs e)) (text_is bs e)

bytes_read : (bs : List ℕ) → fits_value bs ≡ true → kept_text (text_of (escaped bs)) ≡ Some bs
bytes_read bs e = kept_is bs (text_of (escaped bs)) (value_bytes_read bs (value_is bs e)) (text_is bs e)

named_says : (ps : List ProviderId) (w : List ℕ) → list_word provider_word w ≡ Some ps → are_providers ps ≡ true → named_word w ≡ Some ps
unfolding named_word ◌>>=◌ when_true
named_says ps w e f = rw (e, f) refl

differing : (ps : List ProviderId) → are_named ps ≡ true → are_providers ps ≡ true
unfolding are_named
differing ps e = (and_parts (are_providers ps) (list_all is_provider ps) e).0

named_read : (ps : List ProviderId) → are_named ps ≡ true → named_word (providers_text ps) ≡ Some ps
named_read ps e = named_says ps (providers_text ps) (providers_read ps (named_providers ps e)) (differing ps e)

members_are : (ms : List Member) → are_members ms ≡ true → list_all is_member ms ≡ true
unfolding are_members
members_are ms e = (and_parts (members_ascend 0 ms) (list_all is_member ms) e).1

nodes_are : (ns : List ℕ) → are_nodes ns ≡ true → list_all is_node ns ≡ true
unfolding are_nodes
nodes_are ns e = (and_parts (ascend_from 0 ns) (list_all is_node ns) e).1

kind_back : (k : Kind) → kind_read (kind_name k) ≡ Some k
unfolding kind_read kind_name chosen
kind_back kind.Join = refl
kind_back kind.Leave = refl
kind_back kind.Fail = refl
kind_back kind.Expel = refl
kind_back kind.State = refl
kind_back kind.Message = refl
kind_back kind.Attributes = refl
kind_back kind.Reflect = refl

kind_clear : (m : ℕ) (k : Kind) → m < 97 → Lacks m (kind_name k)
unfolding kind_name
kind_clear m k h = by k
  where
    clear : (b : ℕ) → 97 ≤ b → (b == m) ≡ false
    clear b l = grind (arith, nat_tests)

    each : (w : List ℕ) → list_all (λ b. nat_le 97 b) w ≡ true → Lacks m w
    each [] e = tt
    each (b ∷ w) e = let p = and_parts (nat_le 97 b) (list_all (λ b. nat_le 97 b) w) e in (clear b (grind (arith, nat_tests, p.0)), each w p.1)

    by : (k : Kind) → Lacks m (kind_name k)
    by kind.Join = each (codes "join") refl
    by kind.Leave = each (codes "leave") refl
    by kind.Fail = each (codes "fail") refl
    by kind.Expel = each (codes "expel") refl
    by kind.State = each (codes "state") refl
    by kind.Message = each (codes "message") refl
    by kind.Attributes = each (codes "attrs") refl
    by kind.Reflect = each (codes "reflect") refl

-- ---- what was heard

opened_says : (make : Kind → What) (w : List ℕ) (k : Kind) → opening_read w ≡ Some make → what_pieces (w ∷ kind_name k ∷ []) ≡ Some (make k)
unfolding what_pieces opened_read ◌>>=◌
opened_says make w k e = let r = kind_back k in rw (e, r) refl

opened_back : (make : Kind → What) (w : List ℕ) (k : Kind) → Lacks 45 w → opening_read w ≡ Some make → what_read (w ++ 45 ∷ kind_name k) ≡ Some (make k)
unfolding what_read
opened_back make w k h e =
    ap what_pieces (split_first 45 w (kind_name k) h ∙ ap (λ z. w ∷ z) (split_last 45 (kind_name k) (kind_clear 45 k (omega arith)))) ∙ opened_says make w k e

once_opens : opening_read (codes "once") ≡ Some what.Once
unfolding opening_read chosen
once_opens = refl

begin_opens : opening_read (codes "begin") ≡ Some what.Begin
unfolding opening_read chosen
begin_opens = refl

closing_back : (w : List ℕ) (x : What) → Lacks 45 w → closing_read w ≡ Some x → what_read w ≡ Some x
unfolding what_read what_pieces
closing_back w x h e = ap what_pieces (split_last 45 w h) ∙ e

closes_phase : closing_read (codes "phase") ≡ Some what.Phase
unfolding closing_read chosen
closes_phase = refl

closes_approve : closing_read (codes "approve") ≡ Some what.Approve
unfolding closing_read chosen
closes_approve = refl

closes_reject : closing_read (codes "reject") ≡ Some what.Reject
unfolding closing_read chosen
closes_reject = refl

closes_late : closing_read (codes "late") ≡ Some what.Late
unfolding closing_read chosen
closes_late = refl

what_back : (w : What) → what_read (what_name w) ≡ Some w
unfolding what_name
what_back (what.Once k) = opened_back what.Once (codes "once") k (lacks_by 45 (codes "once") refl) once_opens
what_back (what.Begin k) = opened_back what.Begin (codes "begin") k (lacks_by 45 (codes "begin") refl) begin_opens
what_back what.Phase = closing_back (codes "phase") what.Phase (lacks_by 45 (codes "phase") refl) closes_phase
what_back what.Approve = closing_back (codes "approve") what.Approve (lacks_by 45 (codes "approve") refl) closes_approve
what_back what.Reject = closing_back (codes "reject") what.Reject (lacks_by 45 (codes "reject") refl) closes_reject
what_back what.Late = closing_back (codes "late") what.Late (lacks_by 45 (codes "late") refl) closes_late

what_lacks : (w : What) → Lacks 32 (what_name w)
unfolding what_name
what_lacks (what.Once k) = lacks_both 32 (codes "once-") (kind_name k) (lacks_by 32 (codes "once-") refl) (kind_clear 32 k (omega arith))
what_lacks (what.Begin k) = lacks_both 32 (codes "begin-") (kind_name k) (lacks_by 32 (codes "begin-") refl) (kind_clear 32 k (omega arith))
what_lacks what.Phase = lacks_by 32 (codes "phase") refl
what_lacks what.Approve = lacks_by 32 (codes "approve") refl
what_lacks what.Reject = lacks_by 32 (codes "reject") refl
what_lacks what.Late = lacks_by 32 (codes "late") refl

-- ---- what may be missing

present : {X : Type 0} (t : Bool) (f : List ℕ → Option X) (w : List ℕ) (x : X) → t ≡ false → f w ≡ Some x → elim t [ true ↦ Some None | false ↦ option_map Some (f w) ] ≡ Some (Some x)
present true f w x e h = absurd cc
present false f w x e h = ap (option_map Some) h

unless_some : {X : Type 0} (mark : List ℕ) (f : List ℕ → Option X) (w : List ℕ) (x : X) → bytes_eq w mark ≡ false → f w ≡ Some x → unless mark f w ≡ Some (Some x)
unfolding unless
unless_some mark f w x e h = present (bytes_eq w mark) f w x e h

-- a text that begins with another byte is not the mark
other_first : (m : ℕ) (w rest : List ℕ) → 0 < length w → Lacks m w → bytes_eq (w ++ rest) (m ∷ []) ≡ false
other_first m [] rest h k = absurd (omega arith)
other_first m (b ∷ w) rest h k = first_differs b (w ++ rest) k.0
  where
    first_differs : (b : ℕ) (ws : List ℕ) → (b == m) ≡ false → bytes_eq (b ∷ ws) (m ∷ []) ≡ false
    first_differs b ws e = rw e refl

other_text : (m : ℕ) (w : List ℕ) → 0 < length w → Lacks m w → bytes_eq w (m ∷ []) ≡ false
other_text m [] h k = absurd (omega arith)
other_text m (b ∷ w) h k = first_differs b w k.0
  where
    first_differs : (b : ℕ) (ws : List ℕ) → (b == m) ≡ false → bytes_eq (b ∷ ws) (m ∷ []) ≡ false
    first_differs b ws e = rw e refl

u32_filled : (n : ℕ) → is_u32 n ≡ true → 0 < length (decimal n)
unfolding is_u32
u32_filled n e = wide n (grind (arith, nat_tests))
  where
    wide : (n : ℕ) → n ≤ 4294967295 → 0 < length (decimal n)
    wide n h = decimal_nonempty n (omega arith)

unless_mark : {X : Type 0} (mark : List ℕ) (f : List ℕ → Option X) → unless mark f mark ≡ Some None
unfolding unless
unless_mark {X = X} mark f = by (bytes_eq mark mark) ((bytes_eq-Decides mark mark).1 refl)
  where
    by : (t : Bool) → t ≡ true → ◌≡◌ {A = Option (Option X)} (elim t [ true ↦ Some None | false ↦ option_map Some (f mark) ]) (Some None)
    by true e = refl
    by false e = absurd cc

proto_filled : (p : ProtoId) → is_proto p ≡ true → 0 < length (proto_text p)
unfolding is_proto is_view proto_text view_text
proto_filled p e =
    let q = (and_parts (is_view p.view) (is_u32 p.place) e).0 in
    let r = (and_parts (is_u32 p.view.number) (is_node p.view.coord && is_u32 p.view.inc) q).0 in
    longer (view_text p.view ++ codes "/") (decimal p.place) (longer (view_text p.view) (codes "/") (longer (decimal p.view.number ++ codes "." ++ decimal p.view.coord ++ codes ".") (decimal p.view.inc) (longer (decimal p.view.number ++ codes "." ++ decimal p.view.coord) (codes ".") (longer (decimal p.view.number ++ codes ".") (decimal p.view.coord) (longer (decimal p.view.number) (codes ".") (u32_filled p.view.number r))))))

place_back : (i : Option ℕ) → fits_place i ≡ true → place_read (place_text i) ≡ Some i
unfolding fits_place place_read place_text
place_back None e = unless_mark (codes "-") u32_word
place_back (Some i) e = unless_some (codes "-") u32_word (decimal i) i (other_text 45 (decimal i) (u32_filled i e) (u32_lacks 45 i dash.0 e)) (u32_read i e)

place_lacks : (i : Option ℕ) → fits_place i ≡ true → Lacks 32 (place_text i)
unfolding fits_place place_text
place_lacks None e = lacks_by 32 (codes "-") refl
place_lacks (Some i) e = u32_lacks 32 i blank.0 e

open_says : (p : ProtoId) (n : ℕ) (w : List ℕ) → two_word 58 proto_word u16_word w ≡ Some (p, n) → open_phase_word w ≡ Some (record { proto = p; phase = n })
unfolding open_phase_word open_phase ◌>>=◌
open_says p n w e = rw e refl

open_back : (o : Option OpenPhase) → fits_open o ≡ true → open_read (open_text o) ≡ Some o
unfolding fits_open open_read open_text
open_back None e = unless_mark (codes "-") open_phase_word
open_back (Some o) e =
    let p = and_parts (is_proto o.proto) (is_u16 o.phase) e in
    unless_some (codes "-") open_phase_word (proto_text o.proto ++ 58 ∷ decimal o.phase) o (other_first 45 (proto_text o.proto) (58 ∷ decimal o.phase) (proto_filled o.proto p.0) (proto_lacks 45 o.proto dash refl p.0)) (open_says o.proto o.phase (proto_text o.proto ++ 58 ∷ decimal o.phase) (two_read 58 proto_word u16_word (proto_text o.proto) (decimal o.phase) o.proto o.phase (proto_lacks 58 o.proto colon refl p.0) (u16_lacks 58 o.phase colon.0 p.1) (proto_read o.proto p.0) (u16_read o.phase p.1)))

open_lacks : (o : Option OpenPhase) → fits_open o ≡ true → Lacks 32 (open_text o)
unfolding fits_open open_text
open_lacks None e = lacks_by 32 (codes "-") refl
open_lacks (Some o) e =
    let p = and_parts (is_proto o.proto) (is_u16 o.phase) e in
    lacks_mark 58 32 (proto_text o.proto) (decimal o.phase) refl (proto_lacks 32 o.proto blank refl p.0) (u16_lacks 32 o.phase blank.0 p.1)

-- ---- clients

dot_if : (t : Bool) (b : ℕ) (xs : List ℕ) → t ≡ false → elim t [ true ↦ [] | false ↦ b ∷ xs ] ≡ b ∷ xs
dot_if true b xs e = absurd cc
dot_if false b xs e = refl

after_if : (t : Bool) (xs : List ℕ) (o : Option (List ℕ)) → t ≡ false → elim t [ true ↦ Some xs | false ↦ o ] ≡ o
after_if true xs o e = absurd cc
after_if false xs o e = refl

before_is : (a b : List ℕ) → Lacks 46 a → before_dot (a ++ 46 ∷ b) ≡ a
unfolding before_dot
before_is [] b h = refl
before_is (x ∷ a) b h = dot_if (x == 46) x (before_dot (a ++ 46 ∷ b)) h.0 ∙ ap (λ z. x ∷ z) (before_is a b h.1)

after_is : (a b : List ℕ) → Lacks 46 a → after_dot (a ++ 46 ∷ b) ≡ Some b
unfolding after_dot
after_is [] b h = refl
after_is (x ∷ a) b h = after_if (x == 46) (a ++ 46 ∷ b) (after_dot (a ++ 46 ∷ b)) h.0 ∙ after_is a b h.1

client_word_is : (c : List ℕ) → is_client c ≡ true → client_word c ≡ Some c
unfolding is_client client_word name_word when_true
client_word_is c e = rw e refl

client_says : (n : ℕ) (c w v : List ℕ) → node_word (before_dot w) ≡ Some n → after_dot w ≡ Some v → client_word v ≡ Some c → client_read w ≡ Some (record { node = n; name = c })
unfolding client_read ◌>>=◌
client_says n c w v e f g = rw (e, f, g) refl

client_back : (n : ℕ) (c : List ℕ) → is_node n ≡ true → is_client c ≡ true → client_read (client_text n c) ≡ Some (record { node = n; name = c })
unfolding client_text
client_back n c e f =
    client_says n c (decimal n ++ 46 ∷ c) c (ap node_word (before_is (decimal n) c (node_lacks 46 n dot e)) ∙ node_read n e) (after_is (decimal n) c (node_lacks 46 n dot e)) (client_word_is c f)

client_clear : (c : List ℕ) → is_client c ≡ true → Lacks 32 c
unfolding is_client
client_clear c e = name_bytes_lack c (parts3 (nat_le 1 (length c)) (nat_le (length c) 16) (list_all name_byte c) e).2

client_lacks : (n : ℕ) (c : List ℕ) → is_node n ≡ true → is_client c ≡ true → Lacks 32 (client_text n c)
unfolding client_text
client_lacks n c e f = lacks_mark 46 32 (decimal n) c refl (node_lacks 32 n blank.0 e) (client_clear c f)

-- ---- lines by their words

line_by_words : (w : List ℕ) (ws : List (List ℕ)) (l : Line) → EachLacks 32 (w ∷ ws) → words_of l ≡ w ∷ ws → line_words (w ∷ ws) ≡ Some l → loose (line_text l) ≡ Some l
unfolding loose line_text
line_by_words w ws l h e k = ap (λ z. line_words (split_on 32 (spaced z))) e ∙ ap line_words (split_spaced w ws h) ∙ k

-- the first word, and what the others say
headed : (w : List ℕ) (ws : List (List ℕ)) (h : LineHead) (l : Line) → line_head w ≡ Some h → said_line h ws ≡ Some l → line_words (w ∷ ws) ≡ Some l
unfolding line_words ◌>>=◌
headed w ws h l e f = rw (e, f) refl

up_says : (n j : ℕ) (a b : List ℕ) → node_word a ≡ Some n → u32_word b ≡ Some j → said_line HUp (a ∷ b ∷ []) ≡ Some (line.Up n j)
unfolding said_line ◌>>=◌ next ended when_true
up_says n j a b e f = rw (e, f) refl

down_says : (n : ℕ) (a : List ℕ) → node_word a ≡ Some n → said_line HDown (a ∷ []) ≡ Some (line.Down n)
unfolding said_line ◌>>=◌ next ended when_true
down_says n a e = rw e refl

ring_says : (n net : ℕ) (r : RingId) (ms : List ℕ) (m : ℕ) (a b c d f : List ℕ) → node_word a ≡ Some n → network_word b ≡ Some net → ring_word c ≡ Some r → list_word node_word d ≡ Some ms → node_word f ≡ Some m
    → said_line HRing (a ∷ b ∷ c ∷ d ∷ f ∷ []) ≡ Some (line.Ring n net r ms m)
unfolding said_line ◌>>=◌ next ended when_true
ring_says n net r ms m a b c d f e g h i j = rw (e, g, h, i, j) refl

in_says : (n : ℕ) (v : ViewId) (ms : List Member) (a b c : List ℕ) → node_word a ≡ Some n → view_word b ≡ Some v → list_word member_word c ≡ Some ms → said_line HIn (a ∷ b ∷ c ∷ []) ≡ Some (line.In n v ms)
unfolding said_line ◌>>=◌ next ended when_true
in_says n v ms a b c e f g = rw (e, f, g) refl

base_says : (n : ℕ) (v : ViewId) (g : List ℕ) (x : BaseLine) (a b c d e f h i j : List ℕ) → node_word a ≡ Some n → view_word b ≡ Some v → group_name c ≡ Some g → view_word d ≡ Some x.old → u32_word e ≡ Some x.len → named_word f ≡ Some x.members
    → kept_text (value_word h) ≡ Some x.value → named_word i ≡ Some x.failed → open_read j ≡ Some x.running → said_line HBase (a ∷ b ∷ c ∷ d ∷ e ∷ f ∷ h ∷ i ∷ j ∷ []) ≡ Some (line.Base n v g x)
unfolding said_line ◌>>=◌ next ended when_true
base_says n v g x a b c d e f h i j p1 p2 p3 p4 p5 p6 p7 p8 p9 = rw (p1, p2, p3, p4, p5, p6, p7, p8, p9) refl

put_says : (n : ℕ) (v : ViewId) (g : List ℕ) (i : ℕ) (x : Entry) (a b c d : List ℕ) (ws : List (List ℕ)) → node_word a ≡ Some n → view_word b ≡ Some v → group_name c ≡ Some g → u32_word d ≡ Some i → entry_of_words ws ≡ Some x
    → said_line HPut (a ∷ b ∷ c ∷ d ∷ ws) ≡ Some (line.Put n v g i x)
unfolding said_line ◌>>=◌ next ended when_true
put_says n v g i x a b c d ws p1 p2 p3 p4 p5 = rw (p1, p2, p3, p4, p5) refl

heard_says : (p : ProviderId) (v : ViewId) (g : List ℕ) (i : ℕ) (w : What) (ms : List ProviderId) (value : List ℕ) (a b c d e f h : List ℕ) → provider_word a ≡ Some p → view_word b ≡ Some v → group_name c ≡ Some g → u32_word d ≡ Some i → what_read e ≡ Some w → named_word f ≡ Some ms → kept_text (value_word h) ≡ Some value
    → said_line HHeard (a ∷ b ∷ c ∷ d ∷ e ∷ f ∷ h ∷ []) ≡ Some (line.Heard p v g i w ms value)
unfolding said_line ◌>>=◌ next ended when_true
heard_says p v g i w ms value a b c d e f h p1 p2 p3 p4 p5 p6 p7 = rw (p1, p2, p3, p4, p5, p6, p7) refl

cast_says : (p : ProviderId) (proto : ProtoId) (phase : ℕ) (v : Vote) (value : Option (List ℕ)) (a b c d : List ℕ) → provider_word a ≡ Some p → proto_word b ≡ Some proto → u16_word c ≡ Some phase → ballot_word d ≡ Some (record { vote = v; value = value })
    → said_line HCast (a ∷ b ∷ c ∷ d ∷ []) ≡ Some (line.Cast p proto phase v value)
unfolding said_line ◌>>=◌ next ended when_true
cast_says p proto phase v value a b c d e f g h = rw (e, f, g, h) refl

asked_says : (p : ProviderId) (r : ℕ) (g : List ℕ) (k : Kind) (a b c d : List ℕ) → provider_word a ≡ Some p → u32_word b ≡ Some r → group_name c ≡ Some g → kind_read d ≡ Some k → said_line HAsked (a ∷ b ∷ c ∷ d ∷ []) ≡ Some (line.Asked p r g k)
unfolding said_line ◌>>=◌ next ended when_true
asked_says p r g k a b c d e f h i = rw (e, f, h, i) refl

told_says : (p : ProviderId) (r : ℕ) (x : Why) (a b : List ℕ) (ws : List (List ℕ)) → provider_word a ≡ Some p → u32_word b ≡ Some r → why_read ws ≡ Some x → said_line HTold (a ∷ b ∷ ws) ≡ Some (line.Told p r x)
unfolding said_line ◌>>=◌ next ended when_true
told_says p r x a b ws e f g = rw (e, f, g) refl

noted_says : (n : ℕ) (c : List ℕ) (v : ViewId) (place : Option ℕ) (m : Note) (a b : List ℕ) (ws : List (List ℕ)) → client_read a ≡ Some (record { node = n; name = c }) → view_word b ≡ Some v → note_read ws ≡ Some (place, m) → said_line HNoted (a ∷ b ∷ ws) ≡ Some (line.Noted n c v place m)
unfolding said_line ◌>>=◌ next ended when_true
noted_says n c v place m a b ws e f g = rw (e, f, g) refl

refused_says : (n : ℕ) (c : List ℕ) (x : GsFault) (a : List ℕ) (ws : List (List ℕ)) → client_read a ≡ Some (record { node = n; name = c }) → fault_read ws ≡ Some x → said_line HRefused (a ∷ ws) ≡ Some (line.Refused n c x)
unfolding said_line ◌>>=◌ next ended when_true
refused_says n c x a ws e f = rw (e, f) refl

show_says : (n : ℕ) (s : Status) (a : List ℕ) (ws : List (List ℕ)) → node_word a ≡ Some n → status_read ws ≡ Some s → said_line HShow (a ∷ ws) ≡ Some (line.Show n s)
unfolding said_line ◌>>=◌ next ended when_true
show_says n s a ws e f = rw (e, f) refl

-- ---- ballots and notes

lone_back : (v : Vote) → ballot_word (vote_text v) ≡ Some (record { vote = v; value = None })
unfolding ballot_word valued_ballot vote_letter vote_text chosen ◌>>=◌
lone_back vote.Approve = refl
lone_back vote.Continue = refl
lone_back vote.Reject = refl

valued_back : (v : Vote) (bs : List ℕ) → kept_text (value_word (value_text bs)) ≡ Some bs → ballot_word (vote_text v ++ value_text bs) ≡ Some (record { vote = v; value = Some bs })
unfolding ballot_word valued_ballot vote_letter vote_text value_text chosen ◌>>=◌
valued_back vote.Approve bs e = rw e refl
valued_back vote.Continue bs e = rw e refl
valued_back vote.Reject bs e = rw e refl

ballot_back : (v : Vote) (value : Option (List ℕ)) → fits_value_option value ≡ true → ballot_word (ballot_text v value) ≡ Some (record { vote = v; value = value })
unfolding fits_value_option ballot_text
ballot_back v None e = lone_back v
ballot_back v (Some bs) e = valued_back v bs (text_read bs e)

vote_lacks : (v : Vote) → Lacks 32 (vote_text v)
unfolding vote_text
vote_lacks vote.Approve = lacks_by 32 (codes "A") refl
vote_lacks vote.Continue = lacks_by 32 (codes "C") refl
vote_lacks vote.Reject = lacks_by 32 (codes "R") refl

ballot_lacks : (v : Vote) (value : Option (List ℕ)) → fits_value_option value ≡ true → Lacks 32 (ballot_text v value)
unfolding fits_value_option ballot_text
ballot_lacks v None e = vote_lacks v
ballot_lacks v (Some bs) e = lacks_both 32 (vote_text v) (value_text bs) (vote_lacks v) (value_lacks 32 bs (omega arith) (value_is bs e))

hosts_says : (ms : List Member) (w : List ℕ) → list_word member_word w ≡ Some ms → hosts_note w ≡ Some (note.Hosts ms)
unfolding hosts_note ◌>>=◌
hosts_says ms w e = rw e refl

group_says : (g : List ℕ) (ms : List ProviderId) (value a b c : List ℕ) → group_name a ≡ Some g → named_word b ≡ Some ms → kept_text (value_word c) ≡ Some value → group_note a b c ≡ Some (note.Group g ms value)
unfolding group_note ◌>>=◌
group_says g ms value a b c e f h = rw (e, f, h) refl

note_says : (place : Option ℕ) (m : Note) (g p ms v : List ℕ) → place_read p ≡ Some place → note_by g ms v ≡ Some m → note_read (g ∷ p ∷ ms ∷ v ∷ []) ≡ Some (place, m)
unfolding note_read ◌>>=◌ first_of one_of two_of three_of four_of when_true
note_says place m g p ms v e f = rw (e, f) refl

group_if : (t : Bool) (g ms v : List ℕ) → t ≡ false → elim t [ true ↦ hosts_note ms | false ↦ group_note g ms v ] ≡ group_note g ms v
group_if true g ms v e = absurd cc
group_if false g ms v e = refl

no_host : (t : Bool) → not t ≡ true → t ≡ false
no_host true e = absurd cc
no_host false e = refl

note_back : (place : Option ℕ) (m : Note) → fits_place place ≡ true → fits_note m ≡ true → note_read (note_words place m) ≡ Some (place, m)
unfolding fits_note note_words note_by
note_back place (note.Group g ms value) e f =
    let p = parts4 (not (bytes_eq g (codes "HostMembership"))) (is_name_of g) (are_named ms) (fits_value value) f in
    note_says place (note.Group g ms value) g (place_text place) (providers_text ms) (value_text value) (place_back place e)
    (group_if (bytes_eq g (codes "HostMembership")) g (providers_text ms) (value_text value) (no_host (bytes_eq g (codes "HostMembership")) p.0)
    ∙ group_says g ms value g (providers_text ms) (value_text value) (group_read g p.1) (named_read ms p.2) (text_read value p.3))
note_back place (note.Hosts ms) e f =
    note_says place (note.Hosts ms) (codes "HostMembership") (place_text place) (members_text ms) (codes "=") (place_back place e) (hosts_says ms (members_text ms) (members_read ms (members_are ms f)))

note_lacks : (place : Option ℕ) (m : Note) → fits_place place ≡ true → fits_note m ≡ true → EachLacks 32 (note_words place m)
unfolding fits_note note_words
note_lacks place (note.Group g ms value) e f =
    let p = parts4 (not (bytes_eq g (codes "HostMembership"))) (is_name_of g) (are_named ms) (fits_value value) f in
    (named_lacks g p.1, (place_lacks place e, (providers_lack ms (named_providers ms p.2), (value_lacks 32 value (omega arith) (value_is value p.3), tt))))
note_lacks place (note.Hosts ms) e f =
    (lacks_by 32 (codes "HostMembership") refl, (place_lacks place e, (members_lack ms (members_are ms f), (lacks_by 32 (codes "=") refl, tt))))

-- ---- statuses

label_says : {X : Type 0} (f : List ℕ → Option X) (w v : List ℕ) (x : X) → after_equals w ≡ Some v → f v ≡ Some x → labelled f w ≡ Some x
unfolding labelled ◌>>=◌
label_says f w v x e h = rw e h

members_label : (v : List ℕ) → after_equals (codes "members=" ++ v) ≡ Some v
unfolding after_equals
members_label v = refl

neighbour_label : (v : List ℕ) → after_equals (codes "neighbour=" ++ v) ≡ Some v
unfolding after_equals
neighbour_label v = refl

coord_label : (v : List ℕ) → after_equals (codes "coord=" ++ v) ≡ Some v
unfolding after_equals
coord_label v = refl

frozen_label : (v : List ℕ) → after_equals (codes "frozen=" ++ v) ≡ Some v
unfolding after_equals
frozen_label v = refl

leader_label : (v : List ℕ) → after_equals (codes "leader=" ++ v) ≡ Some v
unfolding after_equals
leader_label v = refl

len_label : (v : List ℕ) → after_equals (codes "len=" ++ v) ≡ Some v
unfolding after_equals
len_label v = refl

value_label : (v : List ℕ) → after_equals (codes "value=" ++ v) ≡ Some v
unfolding after_equals
value_label v = refl

phase_label : (v : List ℕ) → after_equals (codes "phase=" ++ v) ≡ Some v
unfolding after_equals
phase_label v = refl

kind_label : (v : List ℕ) → after_equals (codes "kind=" ++ v) ≡ Some v
unfolding after_equals
kind_label v = refl

waiting_label : (v : List ℕ) → after_equals (codes "waiting=" ++ v) ≡ Some v
unfolding after_equals
waiting_label v = refl

ring_status : (net : ℕ) (r : RingId) (ms : List ℕ) (m : ℕ) (a b c d : List ℕ) → network_word a ≡ Some net → ring_word b ≡ Some r → labelled (list_word node_word) c ≡ Some ms → labelled node_word d ≡ Some m → said_status SRing (a ∷ b ∷ c ∷ d ∷ []) ≡ Some (status.Ring net r ms m)
unfolding said_status ◌>>=◌ next ended when_true
ring_status net r ms m a b c d e f g h = rw (e, f, g, h) refl

view_status : (v : ViewId) (ms : List Member) (t : Bool) (a b c d h : List ℕ) → view_word a ≡ Some v → after_equals b ≡ Some h → labelled (list_word member_word) c ≡ Some ms → labelled yes_read d ≡ Some t → said_status SView (a ∷ b ∷ c ∷ d ∷ []) ≡ Some (status.View v ms t)
unfolding said_status ◌>>=◌ next ended when_true
view_status v ms t a b c d h e k f g = rw (e, k, f, g) refl

group_status : (g : List ℕ) (leader : Option ℕ) (len : ℕ) (ms : List ProviderId) (value a b c d h : List ℕ) → group_name a ≡ Some g → labelled (unless (codes "?") node_word) b ≡ Some leader → labelled u32_word c ≡ Some len → labelled named_word d ≡ Some ms → labelled (λ w. kept_text (text_of w)) h ≡ Some value
    → said_status SGroup (a ∷ b ∷ c ∷ d ∷ h ∷ []) ≡ Some (status.Group g leader len ms value)
unfolding said_status ◌>>=◌ next ended when_true
group_status g leader len ms value a b c d h p1 p2 p3 p4 p5 = rw (p1, p2, p3, p4, p5) refl

vote_status : (g : List ℕ) (proto : ProtoId) (phase : ℕ) (k : Kind) (waiting : Option (List ProviderId)) (a b c d h : List ℕ) → group_name a ≡ Some g → proto_word b ≡ Some proto → labelled u16_word c ≡ Some phase → labelled kind_read d ≡ Some k → labelled (unless (codes "?") named_word) h ≡ Some waiting
    → said_status SVote (a ∷ b ∷ c ∷ d ∷ h ∷ []) ≡ Some (status.Vote g proto phase k waiting)
unfolding said_status ◌>>=◌ next ended when_true
vote_status g proto phase k waiting a b c d h p1 p2 p3 p4 p5 = rw (p1, p2, p3, p4, p5) refl

status_says : (w : List ℕ) (ws : List (List ℕ)) (h : StatusHead) (s : Status) → status_head w ≡ Some h → said_status h ws ≡ Some s → status_read (w ∷ ws) ≡ Some s
unfolding status_read ◌>>=◌
status_says w ws h s e f = rw (e, f) refl

yes_back : (t : Bool) → yes_read (yes_or_no t) ≡ Some t
unfolding yes_read yes_or_no chosen
yes_back true = refl
yes_back false = refl

yes_lacks : (t : Bool) → Lacks 32 (yes_or_no t)
unfolding yes_or_no
yes_lacks true = lacks_by 32 (codes "yes") refl
yes_lacks false = lacks_by 32 (codes "no") refl

node_filled : (n : ℕ) → is_node n ≡ true → 0 < length (decimal n)
node_filled n e = let q = within_node n e in decimal_nonempty n (omega (arith, q.1))

leader_back : (l : Option ℕ) → fits_leader l ≡ true → unless (codes "?") node_word (known_text decimal l) ≡ Some l
unfolding fits_leader known_text
leader_back None e = unless_mark (codes "?") node_word
leader_back (Some n) e = unless_some (codes "?") node_word (decimal n) n (other_text 63 (decimal n) (node_filled n e) (node_lacks 63 n (inr (omega arith)) e)) (node_read n e)

leader_lacks : (l : Option ℕ) → fits_leader l ≡ true → Lacks 32 (known_text decimal l)
unfolding fits_leader known_text
leader_lacks None e = lacks_by 32 (codes "?") refl
leader_lacks (Some n) e = node_lacks 32 n blank.0 e

provider_first : (p : ProviderId) (rest : List ℕ) → is_provider p ≡ true → bytes_eq (provider_text p ++ rest) (codes "?") ≡ false
provider_first p rest e = other_first 63 (provider_text p) rest (provider_filled p e) (provider_lacks 63 p (inr (omega arith), grind (arith, nat_tests)) e)

unknown : (ps : List ProviderId) → list_all is_provider ps ≡ true → bytes_eq (providers_text ps) (codes "?") ≡ false
unfolding providers_text joined
unknown [] e = refl
unknown (p ∷ ps) e = provider_first p (flat_map (λ y. codes "," ++ provider_text y) ps) (and_parts (is_provider p) (list_all is_provider ps) e).0

coord_lacks : (v : ViewId) → is_view v ≡ true → Lacks 32 (decimal v.coord)
unfolding is_view
coord_lacks v e = node_lacks 32 v.coord blank.0 (parts3 (is_u32 v.number) (is_node v.coord) (is_u32 v.inc) e).1

waiting_back : (o : Option (List ProviderId)) → fits_waiting o ≡ true → unless (codes "?") named_word (known_text providers_text o) ≡ Some o
unfolding fits_waiting known_text
waiting_back None e = unless_mark (codes "?") named_word
waiting_back (Some ps) e = unless_some (codes "?") named_word (providers_text ps) ps (unknown ps (named_providers ps e)) (named_read ps e)

waiting_lacks : (o : Option (List ProviderId)) → fits_waiting o ≡ true → Lacks 32 (known_text providers_text o)
unfolding fits_waiting known_text
waiting_lacks None e = lacks_by 32 (codes "?") refl
waiting_lacks (Some ps) e = providers_lack ps (named_providers ps e)

status_heads : (status_head (codes "hats") ≡ Some SRing) × (status_head (codes "hagsns") ≡ Some SView) × (status_head (codes "hagsgr") ≡ Some SGroup) × (status_head (codes "hagsvote") ≡ Some SVote)
unfolding status_head chosen
status_heads = (refl, refl, refl, refl)

status_back : (s : Status) → fits_status s ≡ true → status_read (status_words s) ≡ Some s
unfolding fits_status status_words
status_back (status.Ring net r ms m) e =
    let p = parts4 (is_network net) (is_ring r) (are_nodes ms) (is_node m) e in
    status_says (codes "hats") _ SRing (status.Ring net r ms m) status_heads.0
    (ring_status net r ms m (decimal net) (ring_text r) (codes "members=" ++ nodes_text ms) (codes "neighbour=" ++ decimal m) (network_read net p.0) (ring_read r p.1) (label_says (list_word node_word) (codes "members=" ++ nodes_text ms) (nodes_text ms) ms (members_label (nodes_text ms)) (nodes_read ms (nodes_are ms p.2))) (label_says node_word (codes "neighbour=" ++ decimal m) (decimal m) m (neighbour_label (decimal m)) (node_read m p.3)))
status_back (status.View v ms t) e =
    let p = and_parts (is_view v) (are_members ms) e in
    status_says (codes "hagsns") _ SView (status.View v ms t) status_heads.1
    (view_status v ms t (view_text v) (codes "coord=" ++ decimal v.coord) (codes "members=" ++ members_text ms) (codes "frozen=" ++ yes_or_no t) (decimal v.coord) (view_read v p.0) (coord_label (decimal v.coord)) (label_says (list_word member_word) (codes "members=" ++ members_text ms) (members_text ms) ms (members_label (members_text ms)) (members_read ms (members_are ms p.1))) (label_says yes_read (codes "frozen=" ++ yes_or_no t) (yes_or_no t) t (frozen_label (yes_or_no t)) (yes_back t)))
status_back (status.Group g leader len ms value) e =
    let p = parts5 (is_name_of g) (fits_leader leader) (is_u32 len) (are_named ms) (fits_value value) e in
    status_says (codes "hagsgr") _ SGroup (status.Group g leader len ms value) status_heads.2
    (group_status g leader len ms value g (codes "leader=" ++ known_text decimal leader) (codes "len=" ++ decimal len) (codes "members=" ++ providers_text ms) (codes "value=" ++ escaped value) (group_read g p.0) (label_says (unless (codes "?") node_word) (codes "leader=" ++ known_text decimal leader) (known_text decimal leader) leader (leader_label (known_text decimal leader)) (leader_back leader p.1)) (label_says u32_word (codes "len=" ++ decimal len) (decimal len) len (len_label (decimal len)) (u32_read len p.2)) (label_says named_word (codes "members=" ++ providers_text ms) (providers_text ms) ms (members_label (providers_text ms)) (named_read ms p.3)) (label_says (λ w. kept_text (text_of w)) (codes "value=" ++ escaped value) (escaped value) value (value_label (escaped value)) (bytes_read value p.4)))
status_back (status.Vote g proto phase k waiting) e =
    let p = parts4 (is_name_of g) (is_proto proto) (is_u16 phase) (fits_waiting waiting) e in
    status_says (codes "hagsvote") _ SVote (status.Vote g proto phase k waiting) status_heads.3
    (vote_status g proto phase k waiting g (proto_text proto) (codes "phase=" ++ decimal phase) (codes "kind=" ++ kind_name k) (codes "waiting=" ++ known_text providers_text waiting) (group_read g p.0) (proto_read proto p.1) (label_says u16_word (codes "phase=" ++ decimal phase) (decimal phase) phase (phase_label (decimal phase)) (u16_read phase p.2)) (label_says kind_read (codes "kind=" ++ kind_name k) (kind_name k) k (kind_label (kind_name k)) (kind_back k)) (label_says (unless (codes "?") named_word) (codes "waiting=" ++ known_text providers_text waiting) (known_text providers_text waiting) waiting (waiting_label (known_text providers_text waiting)) (waiting_back waiting p.3)))

marked_lacks : (w v : List ℕ) → list_all (λ x. not (x == 32)) w ≡ true → Lacks 32 v → Lacks 32 (w ++ v)
marked_lacks w v e h = lacks_both 32 w v (lacks_by 32 w e) h

status_lacks : (s : Status) → fits_status s ≡ true → EachLacks 32 (status_words s)
unfolding fits_status status_words
status_lacks (status.Ring net r ms m) e =
    let p = parts4 (is_network net) (is_ring r) (are_nodes ms) (is_node m) e in
    (lacks_by 32 (codes "hats") refl, (network_lacks net p.0, (ring_lacks 32 r blank p.1, (marked_lacks (codes "members=") (nodes_text ms) refl (nodes_lack ms (nodes_are ms p.2)), (marked_lacks (codes "neighbour=") (decimal m) refl (node_lacks 32 m blank.0 p.3), tt)))))
status_lacks (status.View v ms t) e =
    let p = and_parts (is_view v) (are_members ms) e in
    (lacks_by 32 (codes "hagsns") refl, (view_lacks 32 v blank p.0, (marked_lacks (codes "coord=") (decimal v.coord) refl (coord_lacks v p.0), (marked_lacks (codes "members=") (members_text ms) refl (members_lack ms (members_are ms p.1)), (marked_lacks (codes "frozen=") (yes_or_no t) refl (yes_lacks t), tt)))))
status_lacks (status.Group g leader len ms value) e =
    let p = parts5 (is_name_of g) (fits_leader leader) (is_u32 len) (are_named ms) (fits_value value) e in
    (lacks_by 32 (codes "hagsgr") refl, (named_lacks g p.0, (marked_lacks (codes "leader=") (known_text decimal leader) refl (leader_lacks leader p.1), (marked_lacks (codes "len=") (decimal len) refl (u32_lacks 32 len blank.0 p.2), (marked_lacks (codes "members=") (providers_text ms) refl (providers_lack ms (named_providers ms p.3)), (marked_lacks (codes "value=") (escaped value) refl (escaped_lacks 32 value (omega arith) (value_parts value (value_is value p.4))), tt))))))
status_lacks (status.Vote g proto phase k waiting) e =
    let p = parts4 (is_name_of g) (is_proto proto) (is_u16 phase) (fits_waiting waiting) e in
    (lacks_by 32 (codes "hagsvote") refl, (named_lacks g p.0, (proto_lacks 32 proto blank refl p.1, (marked_lacks (codes "phase=") (decimal phase) refl (u16_lacks 32 phase blank.0 p.2), (marked_lacks (codes "kind=") (kind_name k) refl (kind_clear 32 k (omega arith)), (marked_lacks (codes "waiting=") (known_text providers_text waiting) refl (waiting_lacks waiting p.3), tt))))))

-- ---- each kind

first_holds : (a b : Bool) → (not a && b) ≡ true → b ≡ true
first_holds a b e = (and_parts (not a) b e).1

proposal_types : (x : Proposal) → proposal_holds x ≡ true → proposal_typed x ≡ true
unfolding proposal_holds proposal_typed some_differ
proposal_types (proposal.Join ps a n) e = first_holds (is_empty ps) (are_providers ps) e
proposal_types (proposal.Leave p r) e = refl
proposal_types (proposal.Fail out) e = refl
proposal_types (proposal.Expel p r out) e = first_holds (is_empty out) (are_providers out) e
proposal_types (proposal.State p r value) e = e
proposal_types (proposal.Message p r bytes) e = e
proposal_types (proposal.Attributes p r a) e = refl
proposal_types (proposal.Reflect v i value) e = e

entry_types : (x : Entry) → entry_holds x ≡ true → entry_typed x ≡ true
unfolding entry_holds entry_typed some_differ
entry_types (entry.Once x) e = proposal_types x e
entry_types (entry.Begin x) e = proposal_types x e
entry_types (entry.Phase c) e = e
entry_types (entry.Approve c) e = e
entry_types (entry.Reject c) e = refl
entry_types (entry.Late proto phase ps) e = first_holds (is_empty ps) (are_providers ps) e

entry_words_back : (x : Entry) → fits_entry x ≡ true → entry_of_words (split_on 32 (entry_text x)) ≡ Some x
unfolding fits_entry
entry_words_back x e =
    let p = and_parts (is_entry x) (entry_holds x) e in
    entry_is_typed (split_on 32 (entry_text x)) x (entry_back x p.0) (entry_types x p.1)

why_is : (w : Why) → fits_why w ≡ true → is_why w ≡ true
unfolding fits_why
why_is w h = (and_parts (is_why w) (why_holds w) h).0

fault_is : (f : GsFault) → fits_fault f ≡ true → is_fault f ≡ true
unfolding fits_fault
fault_is f h = (and_parts (is_fault f) (fault_holds f) h).0

base_parts : (b : BaseLine) → fits_base b ≡ true → (is_view b.old ≡ true) × (is_u32 b.len ≡ true) × (are_named b.members ≡ true) × (fits_value b.value ≡ true) × (are_named b.failed ≡ true) × (fits_open b.running ≡ true)
unfolding fits_base
base_parts b e = parts6 (is_view b.old) (is_u32 b.len) (are_named b.members) (fits_value b.value) (are_named b.failed) (fits_open b.running) e

heads : (line_head (codes "up") ≡ Some HUp) × (line_head (codes "down") ≡ Some HDown) × (line_head (codes "ring") ≡ Some HRing) × (line_head (codes "in") ≡ Some HIn) × (line_head (codes "base") ≡ Some HBase) × (line_head (codes "put") ≡ Some HPut) × (line_head (codes "heard") ≡ Some HHeard)
unfolding line_head chosen
heads = (refl, refl, refl, refl, refl, refl, refl)

more_heads : (line_head (codes "cast") ≡ Some HCast) × (line_head (codes "asked") ≡ Some HAsked) × (line_head (codes "told") ≡ Some HTold) × (line_head (codes "noted") ≡ Some HNoted) × (line_head (codes "refused") ≡ Some HRefused) × (line_head (codes "show") ≡ Some HShow)
unfolding line_head chosen
more_heads = (refl, refl, refl, refl, refl, refl)

pub line_read_loosely : (l : Line) → line_fits l ≡ true → loose (line_text l) ≡ Some l
unfolding line_fits words_of base_words
line_read_loosely (line.Up n j) e =
    let p = and_parts (is_node n) (is_u32 j) e in
    line_by_words (codes "up") (decimal n ∷ decimal j ∷ []) (line.Up n j) (lacks_by 32 (codes "up") refl, (node_lacks 32 n blank.0 p.0, (u32_lacks 32 j blank.0 p.1, tt))) refl
    (headed (codes "up") _ HUp (line.Up n j) heads.0 (up_says n j (decimal n) (decimal j) (node_read n p.0) (u32_read j p.1)))
line_read_loosely (line.Down n) e =
    line_by_words (codes "down") (decimal n ∷ []) (line.Down n) (lacks_by 32 (codes "down") refl, (node_lacks 32 n blank.0 e, tt)) refl (headed (codes "down") _ HDown (line.Down n) heads.1 (down_says n (decimal n) (node_read n e)))
line_read_loosely (line.Ring n net r ms m) e =
    let p = parts5 (is_node n) (is_network net) (is_ring r) (are_nodes ms) (is_node m) e in
    line_by_words (codes "ring") (decimal n ∷ decimal net ∷ ring_text r ∷ nodes_text ms ∷ decimal m ∷ []) (line.Ring n net r ms m)
    (lacks_by 32 (codes "ring") refl, (node_lacks 32 n blank.0 p.0, (network_lacks net p.1, (ring_lacks 32 r blank p.2, (nodes_lack ms (nodes_are ms p.3), (node_lacks 32 m blank.0 p.4, tt)))))) refl
    (headed (codes "ring") _ HRing (line.Ring n net r ms m) heads.2 (ring_says n net r ms m (decimal n) (decimal net) (ring_text r) (nodes_text ms) (decimal m) (node_read n p.0) (network_read net p.1) (ring_read r p.2) (nodes_read ms (nodes_are ms p.3)) (node_read m p.4)))
line_read_loosely (line.In n v ms) e =
    let p = parts3 (is_node n) (is_view v) (are_members ms) e in
    line_by_words (codes "in") (decimal n ∷ view_text v ∷ members_text ms ∷ []) (line.In n v ms) (lacks_by 32 (codes "in") refl, (node_lacks 32 n blank.0 p.0, (view_lacks 32 v blank p.1, (members_lack ms (members_are ms p.2), tt)))) refl
    (headed (codes "in") _ HIn (line.In n v ms) heads.3 (in_says n v ms (decimal n) (view_text v) (members_text ms) (node_read n p.0) (view_read v p.1) (members_read ms (members_are ms p.2))))
line_read_loosely (line.Base n v g b) e =
    let p = parts4 (is_node n) (is_view v) (is_name_of g) (fits_base b) e in
    let q = base_parts b p.3 in
    line_by_words (codes "base") (decimal n ∷ view_text v ∷ g ∷ view_text b.old ∷ decimal b.len ∷ providers_text b.members ∷ value_text b.value ∷ providers_text b.failed ∷ open_text b.running ∷ []) (line.Base n v g b)
    (lacks_by 32 (codes "base") refl, (node_lacks 32 n blank.0 p.0, (view_lacks 32 v blank p.1, (named_lacks g p.2, (view_lacks 32 b.old blank q.0, (u32_lacks 32 b.len blank.0 q.1, (providers_lack b.members (named_providers b.members q.2), (value_lacks 32 b.value (omega arith) (value_is b.value q.3), (providers_lack b.failed (named_providers b.failed q.4), (open_lacks b.running q.5, tt)))))))))) refl
    (headed (codes "base") _ HBase (line.Base n v g b) heads.4 (base_says n v g b (decimal n) (view_text v) g (view_text b.old) (decimal b.len) (providers_text b.members) (value_text b.value) (providers_text b.failed) (open_text b.running) (node_read n p.0) (view_read v p.1) (group_read g p.2) (view_read b.old q.0) (u32_read b.len q.1) (named_read b.members q.2) (text_read b.value q.3) (named_read b.failed q.4) (open_back b.running q.5)))
line_read_loosely (line.Put n v g i x) e =
    let p = parts5 (is_node n) (is_view v) (is_name_of g) (is_u32 i) (fits_entry x) e in
    line_by_words (codes "put") (decimal n ∷ view_text v ∷ g ∷ decimal i ∷ split_on 32 (entry_text x)) (line.Put n v g i x) (lacks_by 32 (codes "put") refl, (node_lacks 32 n blank.0 p.0, (view_lacks 32 v blank p.1, (named_lacks g p.2, (u32_lacks 32 i blank.0 p.3, pieces_lack 32 (entry_text x)))))) refl
    (headed (codes "put") _ HPut (line.Put n v g i x) heads.5 (put_says n v g i x (decimal n) (view_text v) g (decimal i) (split_on 32 (entry_text x)) (node_read n p.0) (view_read v p.1) (group_read g p.2) (u32_read i p.3) (entry_words_back x p.4)))
line_read_loosely (line.Heard r v g i w ms value) e =
    let p = parts6 (is_provider r) (is_view v) (is_name_of g) (is_u32 i) (are_named ms) (fits_value value) e in
    line_by_words (codes "heard") (provider_text r ∷ view_text v ∷ g ∷ decimal i ∷ what_name w ∷ providers_text ms ∷ value_text value ∷ []) (line.Heard r v g i w ms value)
    (lacks_by 32 (codes "heard") refl, (provider_lacks 32 r blank p.0, (view_lacks 32 v blank p.1, (named_lacks g p.2, (u32_lacks 32 i blank.0 p.3, (what_lacks w, (providers_lack ms (named_providers ms p.4), (value_lacks 32 value (omega arith) (value_is value p.5), tt)))))))) refl
    (headed (codes "heard") _ HHeard (line.Heard r v g i w ms value) heads.6 (heard_says r v g i w ms value (provider_text r) (view_text v) g (decimal i) (what_name w) (providers_text ms) (value_text value) (provider_read r p.0) (view_read v p.1) (group_read g p.2) (u32_read i p.3) (what_back w) (named_read ms p.4) (text_read value p.5)))
line_read_loosely (line.Cast r proto phase v value) e =
    let p = parts4 (is_provider r) (is_proto proto) (is_u16 phase) (fits_value_option value) e in
    line_by_words (codes "cast") (provider_text r ∷ proto_text proto ∷ decimal phase ∷ ballot_text v value ∷ []) (line.Cast r proto phase v value) (lacks_by 32 (codes "cast") refl, (provider_lacks 32 r blank p.0, (proto_lacks 32 proto blank refl p.1, (u16_lacks 32 phase blank.0 p.2, (ballot_lacks v value p.3, tt))))) refl
    (headed (codes "cast") _ HCast (line.Cast r proto phase v value) more_heads.0 (cast_says r proto phase v value (provider_text r) (proto_text proto) (decimal phase) (ballot_text v value) (provider_read r p.0) (proto_read proto p.1) (u16_read phase p.2) (ballot_back v value p.3)))
line_read_loosely (line.Asked r q g k) e =
    let p = parts3 (is_provider r) (is_u32 q) (is_name_of g) e in
    line_by_words (codes "asked") (provider_text r ∷ decimal q ∷ g ∷ kind_name k ∷ []) (line.Asked r q g k) (lacks_by 32 (codes "asked") refl, (provider_lacks 32 r blank p.0, (u32_lacks 32 q blank.0 p.1, (named_lacks g p.2, (kind_clear 32 k (omega arith), tt))))) refl
    (headed (codes "asked") _ HAsked (line.Asked r q g k) more_heads.1 (asked_says r q g k (provider_text r) (decimal q) g (kind_name k) (provider_read r p.0) (u32_read q p.1) (group_read g p.2) (kind_back k)))
line_read_loosely (line.Told r q w) e =
    let p = parts3 (is_provider r) (is_u32 q) (fits_why w) e in
    line_by_words (codes "told") (provider_text r ∷ decimal q ∷ split_on 32 (why_text w)) (line.Told r q w) (lacks_by 32 (codes "told") refl, (provider_lacks 32 r blank p.0, (u32_lacks 32 q blank.0 p.1, pieces_lack 32 (why_text w)))) refl
    (headed (codes "told") _ HTold (line.Told r q w) more_heads.2 (told_says r q w (provider_text r) (decimal q) (split_on 32 (why_text w)) (provider_read r p.0) (u32_read q p.1) (why_back w (why_is w p.2))))
line_read_loosely (line.Noted n c v place m) e =
    let p = parts5 (is_node n) (is_client c) (is_view v) (fits_place place) (fits_note m) e in
    line_by_words (codes "noted") (client_text n c ∷ view_text v ∷ note_words place m) (line.Noted n c v place m) (lacks_by 32 (codes "noted") refl, (client_lacks n c p.0 p.1, (view_lacks 32 v blank p.2, note_lacks place m p.3 p.4))) refl
    (headed (codes "noted") _ HNoted (line.Noted n c v place m) more_heads.3 (noted_says n c v place m (client_text n c) (view_text v) (note_words place m) (client_back n c p.0 p.1) (view_read v p.2) (note_back place m p.3 p.4)))
line_read_loosely (line.Refused n c f) e =
    let p = parts3 (is_node n) (is_client c) (fits_fault f) e in
    line_by_words (codes "refused") (client_text n c ∷ split_on 32 (fault_text f)) (line.Refused n c f) (lacks_by 32 (codes "refused") refl, (client_lacks n c p.0 p.1, pieces_lack 32 (fault_text f))) refl
    (headed (codes "refused") _ HRefused (line.Refused n c f) more_heads.4 (refused_says n c f (client_text n c) (split_on 32 (fault_text f)) (client_back n c p.0 p.1) (fault_back f (fault_is f p.2))))
line_read_loosely (line.Show n s) e =
    let p = and_parts (is_node n) (fits_status s) e in
    line_by_words (codes "show") (decimal n ∷ status_words s) (line.Show n s) (lacks_by 32 (codes "show") refl, (node_lacks 32 n blank.0 p.0, status_lacks s p.1)) refl
    (headed (codes "show") _ HShow (line.Show n s) more_heads.5 (show_says n s (decimal n) (status_words s) (node_read n p.0) (status_back s p.1)))

-- ---- and kept, since it is written so again

text_self : (b : List ℕ) → bytes_eq b b ≡ true
text_self b = (bytes_eq-Decides b b).1 refl

passes : (a b : Bool) (l : Line) → a ≡ true → b ≡ true → when_true (Some l) (a && b) ≡ Some l
unfolding when_true
passes a b l e f = rw (e, f) refl

kept_says : (b : List ℕ) (l : Line) → loose b ≡ Some l → line_read b ≡ when_true (Some l) (bytes_eq (line_text l) b && line_fits l)
unfolding line_read ◌>>=◌
kept_says b l e = rw e refl

pub line_back : (l : Line) → line_fits l ≡ true → line_read (line_text l) ≡ Some l
line_back l e = kept_says (line_text l) l (line_read_loosely l e) ∙ passes (bytes_eq (line_text l) (line_text l)) (line_fits l) l (text_self (line_text l)) e

kept_only : (t : Bool) (k l : Line) → when_true (Some k) t ≡ Some l → (t ≡ true) × (k ≡ l)
unfolding when_true
kept_only true k l e = (refl, cc)
kept_only false k l e = absurd cc

read_by : (o : Option Line) (b : List ℕ) (l : Line) → (o >>= λ k. when_true (Some k) (bytes_eq (line_text k) b && line_fits k)) ≡ Some l → (bytes_eq (line_text l) b && line_fits l) ≡ true
unfolding ◌>>=◌
read_by None b l e = absurd cc
read_by (Some k) b l e =
    let p = kept_only (bytes_eq (line_text k) b && line_fits k) k l e in
    subst (λ (m : Line). (bytes_eq (line_text m) b && line_fits m) ≡ true) p.1 p.0

read_tests : (b : List ℕ) (l : Line) → line_read b ≡ Some l → (bytes_eq (line_text l) b && line_fits l) ≡ true
unfolding line_read
read_tests b l e = read_by (loose b) b l e

pub read_spelled : (b : List ℕ) (l : Line) → line_read b ≡ Some l → line_text l ≡ b
read_spelled b l e = (bytes_eq-Decides (line_text l) b).0 (and_parts (bytes_eq (line_text l) b) (line_fits l) (read_tests b l e)).0

pub read_fits : (b : List ℕ) (l : Line) → line_read b ≡ Some l → line_fits l ≡ true
read_fits b l e = (and_parts (bytes_eq (line_text l) b) (line_fits l) (read_tests b l e)).1
