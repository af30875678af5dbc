-- What is read of an entry without care is read into its types where they hold it.
use Rattle.std.proofs.Common.{◌≡◌, ℕ, Bool, true, false, not, filter, List, [], ◌∷◌, Option, Some, None, refl, sym, ap, subst}
use Rattle.std.specs.Prelude.{◌==◌, codes}
use Rattle.std.specs.List.{list_any}
use Rattle.std.specs.Option.{option_map}
use Rattle.std.specs.Str.{bytes_eq}
use Rattle.rsct_packet.specs.declared.ids.ProtoId.{ProtoId}
use Rattle.rsct_packet.specs.declared.ids.ProviderId.{ProviderId}
use Rattle.rsct_packet.specs.Providers.{are_providers}
use Rattle.group_attr.specs.declared.attrs.Attrs.{Attrs}
use Rattle.proposal_core.specs.declared.proposal.Proposal.{Proposal}
use Rattle.proposal_core.specs.declared.proposal.Proposal.TheVariants as proposal
use Rattle.proposal_core.specs.declared.entry.Row.{Row}
use Rattle.proposal_core.specs.declared.entry.Closed.{Closed}
use Rattle.proposal_core.specs.declared.entry.Entry.{Entry}
use Rattle.proposal_core.specs.declared.entry.Entry.TheVariants as entry
use Rattle.value_words.specs.Counted.{first_of, one_of, two_of, three_of, four_of}
use Rattle.value_words.specs.Words.{◌>>=◌, when_true, provider_word}
use Rattle.entry_words.specs.declared.attrs.AttrKey.{AttrKey}
use Rattle.entry_words.specs.Words.{attr_row, key_number, key_word, before_equals, after_equals, attrs_from, attr_words}
use Rattle.group_attr.specs.Attrs.{empty_attrs}
use Rattle.word_laws.specs.declared.kind.Kind.{Kind}
use Rattle.word_laws.specs.declared.kind.Kind.TheVariants as kind
use Rattle.word_laws.specs.Entries.{EntryHead, HOnce, HBegin, HPhase, HApprove, HReject, HLate, asker_word, is_source_len, source_len_of, kind_read, proposed_words, valued_words, proposal_read, row_word, closed_words, entry_head, said_entry, entry_read}
use Rattle.word_laws.specs.Entries.{valued_closed as loose_closed}
use Rattle.word_laws.specs.Values.{u16_word, proto_word, list_word, value_word, value_or_none, some_value}
use Rattle.record_lines.specs.Fits.{fits_text, text_option_holds, proposal_typed, entry_typed}
use Rattle.record_lines.specs.Reading.{next, kept_text, named_word, unless, filled, attrs_in, asked_value, said_proposal, proposal_words, text_or_none, valued_closed, entry_said, entry_of_words}

-- ---- an attribute's word has a byte

rest_of : (seen : List ℕ) (a b : Attrs) (ws : List (List ℕ)) (k : Option AttrKey) (v : Option (List ℕ))
    → ((s : List ℕ) (c : Attrs) → attrs_from s c ws ≡ Some b → filled ws ≡ ws)
    → elim k [
      | None ↦ None
      | Some k ↦ elim v [
        | None ↦ None
        | Some v ↦ elim (list_any (λ n. n == key_number k) seen) [ true ↦ None | false ↦ elim ((attr_row k).set a v) [ None ↦ None | Some c ↦ attrs_from (key_number k ∷ seen) c ws ] ]
      ]
    ]
    ≡ Some b
    → filled ws ≡ ws
rest_of seen a b ws None v r e = absurd cc
rest_of seen a b ws (Some k) None r e = absurd cc
rest_of seen a b ws (Some k) (Some v) r e = by (list_any (λ n. n == key_number k) seen) ((attr_row k).set a v) e
  where
    by : (t : Bool) (o : Option Attrs) → elim t [ true ↦ None | false ↦ elim o [ None ↦ None | Some c ↦ attrs_from (key_number k ∷ seen) c ws ] ] ≡ Some b → filled ws ≡ ws
    by true o f = absurd cc
    by false None f = absurd cc
    by false (Some c) f = r (key_number k ∷ seen) c f

no_key : (seen : List ℕ) (a b : Attrs) (ws : List (List ℕ)) → attrs_from seen a ([] ∷ ws) ≡ Some b → ⊥
unfolding attrs_from key_word before_equals attr_row
no_key seen a b ws e = cc

attrs_filled : (seen : List ℕ) (a b : Attrs) (ws : List (List ℕ)) → attrs_from seen a ws ≡ Some b → filled ws ≡ ws
unfolding attrs_from filled
attrs_filled seen a b [] e = refl
attrs_filled seen a b ([] ∷ ws) e = absurd (no_key seen a b ws e)
attrs_filled seen a b ((x ∷ w) ∷ ws) e = ap (λ z. (x ∷ w) ∷ z) (rest_of seen a b ws (key_word (before_equals (x ∷ w))) (after_equals (x ∷ w)) (λ s c f. attrs_filled s c b ws f) e)

attrs_are : (a : Attrs) (ws : List (List ℕ)) → attr_words ws ≡ Some a → attr_words (filled ws) ≡ Some a
unfolding attr_words
attrs_are a ws e = rw (attrs_filled [] empty_attrs a ws e) e

-- ---- proposals

named_is : (o : Option (List ProviderId)) (ps : List ProviderId) → o ≡ Some ps → are_providers ps ≡ true → (o >>= λ qs. when_true (Some qs) (are_providers qs)) ≡ Some ps
unfolding ◌>>=◌ when_true
named_is o ps e f = rw (e, f) refl

kept_is : (o : Option (List ℕ)) (bytes : List ℕ) → o ≡ Some bytes → fits_text bytes ≡ true → kept_text o ≡ Some bytes
unfolding kept_text ◌>>=◌ when_true
kept_is o bytes e f = rw (e, f) refl

join_is : (o : Option (List ProviderId)) (a : Option Attrs) (n : Option (Option ℕ)) (us : List (List ℕ)) (x : Proposal)
    → attr_words us ≡ a
    → (o >>= λ ps. a >>= λ b. n >>= λ m. Some (proposal.Join ps b m)) ≡ Some x
    → proposal_typed x ≡ true
    → ((o >>= λ qs. when_true (Some qs) (are_providers qs)) >>= λ ps. attr_words (filled us) >>= λ b. n >>= λ m. Some (proposal.Join ps b m)) ≡ Some x
unfolding ◌>>=◌ when_true proposal_typed
join_is None a n us x h e t = absurd cc
join_is (Some ps) None n us x h e t = absurd cc
join_is (Some ps) (Some b) None us x h e t = absurd cc
join_is (Some ps) (Some b) (Some m) us x h e t =
    let q : proposal.Join ps b m ≡ x = cc in
    let s : are_providers ps ≡ true = subst (λ y. proposal_typed y ≡ true) (sym q) t in
    rw (s, attrs_are b us h) e

expel_is : (o : Option (ProviderId × ℕ)) (ps : Option (List ProviderId)) (x : Proposal) → (o >>= λ y. ps >>= λ out. Some (proposal.Expel y.0 y.1 out)) ≡ Some x → proposal_typed x ≡ true
    → (o >>= λ y. (ps >>= λ qs. when_true (Some qs) (are_providers qs)) >>= λ out. Some (proposal.Expel y.0 y.1 out)) ≡ Some x
unfolding ◌>>=◌ when_true proposal_typed
expel_is None ps x e t = absurd cc
expel_is (Some y) None x e t = absurd cc
expel_is (Some y) (Some out) x e t =
    let q : proposal.Expel y.0 y.1 out ≡ x = cc in
    let s : are_providers out ≡ true = subst (λ z. proposal_typed z ≡ true) (sym q) t in
    rw s e

state_is : (o : Option (ProviderId × ℕ)) (v : Option (List ℕ)) (x : Proposal) → (o >>= λ y. v >>= λ value. Some (proposal.State y.0 y.1 value)) ≡ Some x → proposal_typed x ≡ true
    → ((o >>= λ y. kept_text v >>= λ value. let a : ProviderId × ℕ × List ℕ = (y.0, y.1, value) in Some a) >>= λ z. Some (proposal.State z.0 z.1 z.2)) ≡ Some x
unfolding ◌>>=◌ when_true proposal_typed kept_text
state_is None v x e t = absurd cc
state_is (Some y) None x e t = absurd cc
state_is (Some y) (Some value) x e t =
    let q : proposal.State y.0 y.1 value ≡ x = cc in
    let s : fits_text value ≡ true = subst (λ z. proposal_typed z ≡ true) (sym q) t in
    rw s e

message_is : (o : Option (ProviderId × ℕ)) (v : Option (List ℕ)) (x : Proposal) → (o >>= λ y. v >>= λ value. Some (proposal.Message y.0 y.1 value)) ≡ Some x → proposal_typed x ≡ true
    → ((o >>= λ y. kept_text v >>= λ value. let a : ProviderId × ℕ × List ℕ = (y.0, y.1, value) in Some a) >>= λ z. Some (proposal.Message z.0 z.1 z.2)) ≡ Some x
unfolding ◌>>=◌ when_true proposal_typed kept_text
message_is None v x e t = absurd cc
message_is (Some y) None x e t = absurd cc
message_is (Some y) (Some value) x e t =
    let q : proposal.Message y.0 y.1 value ≡ x = cc in
    let s : fits_text value ≡ true = subst (λ z. proposal_typed z ≡ true) (sym q) t in
    rw s e

reflect_is : (o : Option ProtoId) (v : Option (List ℕ)) (x : Proposal) → (o >>= λ y. v >>= λ value. Some (proposal.Reflect y.view y.place value)) ≡ Some x → proposal_typed x ≡ true
    → (o >>= λ y. kept_text v >>= λ value. Some (proposal.Reflect y.view y.place value)) ≡ Some x
unfolding ◌>>=◌ when_true proposal_typed kept_text
reflect_is None v x e t = absurd cc
reflect_is (Some y) None x e t = absurd cc
reflect_is (Some y) (Some value) x e t =
    let q : proposal.Reflect y.view y.place value ≡ x = cc in
    let s : fits_text value ≡ true = subst (λ z. proposal_typed z ≡ true) (sym q) t in
    rw s e

attributes_is : (o : Option (ProviderId × ℕ)) (us : List (List ℕ)) (a : Option Attrs) (x : Proposal) → attr_words us ≡ a → (o >>= λ y. a >>= λ b. Some (proposal.Attributes y.0 y.1 b)) ≡ Some x
    → (o >>= λ y. attr_words (filled us) >>= λ b. Some (proposal.Attributes y.0 y.1 b)) ≡ Some x
unfolding ◌>>=◌
attributes_is None us a x h e = absurd cc
attributes_is (Some y) us None x h e = absurd cc
attributes_is (Some y) us (Some b) x h e = rw (attrs_are b us h) e

proposed_is : (k : Kind) (ws : List (List ℕ)) (x : Proposal) → proposed_words k ws ≡ Some x → proposal_typed x ≡ true → said_proposal k ws ≡ Some x
unfolding proposed_words said_proposal valued_words asked_value attrs_in named_word first_of one_of two_of ◌>>=◌ when_true
proposed_is kind.Join [] x e t = absurd cc
proposed_is kind.Join (w ∷ ws) x e t =
    join_is (list_word provider_word w) (attr_words (filter (λ v. not (is_source_len v)) ws)) (source_len_of (filter is_source_len ws)) (filter (λ v. not (is_source_len v)) ws) x refl e t
proposed_is kind.Leave [] x e t = absurd cc
proposed_is kind.Leave (w ∷ []) x e t = e
proposed_is kind.Leave (w ∷ v ∷ ws) x e t = absurd cc
proposed_is kind.Fail [] x e t = absurd cc
proposed_is kind.Fail (w ∷ []) x e t = e
proposed_is kind.Fail (w ∷ v ∷ ws) x e t = absurd cc
proposed_is kind.Expel [] x e t = absurd cc
proposed_is kind.Expel (w ∷ []) x e t = absurd cc
proposed_is kind.Expel (w ∷ v ∷ []) x e t = expel_is (asker_word w) (list_word provider_word v) x e t
proposed_is kind.Expel (w ∷ v ∷ u ∷ ws) x e t = absurd cc
proposed_is kind.State [] x e t = absurd cc
proposed_is kind.State (w ∷ []) x e t = absurd cc
proposed_is kind.State (w ∷ v ∷ []) x e t = state_is (asker_word w) (value_word v) x e t
proposed_is kind.State (w ∷ v ∷ u ∷ ws) x e t = absurd cc
proposed_is kind.Message [] x e t = absurd cc
proposed_is kind.Message (w ∷ []) x e t = absurd cc
proposed_is kind.Message (w ∷ v ∷ []) x e t = message_is (asker_word w) (value_word v) x e t
proposed_is kind.Message (w ∷ v ∷ u ∷ ws) x e t = absurd cc
proposed_is kind.Attributes [] x e t = absurd cc
proposed_is kind.Attributes (w ∷ ws) x e t = attributes_is (asker_word w) ws (attr_words ws) x refl e
proposed_is kind.Reflect [] x e t = absurd cc
proposed_is kind.Reflect (w ∷ []) x e t = absurd cc
proposed_is kind.Reflect (w ∷ v ∷ []) x e t = reflect_is (proto_word w) (value_word v) x e t
proposed_is kind.Reflect (w ∷ v ∷ u ∷ ws) x e t = absurd cc

proposal_is : (ws : List (List ℕ)) (x : Proposal) → proposal_read ws ≡ Some x → proposal_typed x ≡ true → proposal_words ws ≡ Some x
unfolding proposal_read proposal_words next ◌>>=◌
proposal_is [] x e t = absurd cc
proposal_is (w ∷ ws) x e t = by (kind_read w) e
  where
    by : (o : Option Kind) → (o >>= λ k. proposed_words k ws) ≡ Some x → ((o >>= λ k. let a : Kind × List (List ℕ) = (k, ws) in Some a) >>= λ k. said_proposal k.0 k.1) ≡ Some x
    by None f = absurd cc
    by (Some k) f = proposed_is k ws x f t

-- ---- entries

value_is_none : (w : List ℕ) (t : Bool) (o : Option (List ℕ)) (value : Option (List ℕ)) → elim t [ true ↦ Some None | false ↦ some_value o ] ≡ Some value → text_option_holds value ≡ true
    → elim t [ true ↦ Some None | false ↦ option_map Some (kept_text o) ] ≡ Some value
unfolding some_value text_option_holds kept_text ◌>>=◌ when_true
value_is_none w true o value e t = e
value_is_none w false None value e t = absurd cc
value_is_none w false (Some bytes) value e t =
    let q : Some bytes ≡ value = cc in
    let s : fits_text bytes ≡ true = subst (λ z. text_option_holds z ≡ true) (sym q) t in
    rw s e

text_is : (w : List ℕ) (value : Option (List ℕ)) → value_or_none w ≡ Some value → text_option_holds value ≡ true → text_or_none w ≡ Some value
unfolding value_or_none text_or_none unless
text_is w value e t = value_is_none w (bytes_eq w (codes "-")) (value_word w) value e t

closed_is : (make : Closed → Entry) (v : Option (Option (List ℕ))) (u : Option (Option (List ℕ))) (o : Option ProtoId) (n : Option ℕ) (r : Option (List Row)) (x : Entry)
    → ((value : Option (List ℕ)) → v ≡ Some value → text_option_holds value ≡ true → u ≡ Some value)
    → ((c : Closed) → make c ≡ x → text_option_holds c.value ≡ true)
    → (v >>= λ value. (o >>= λ proto. n >>= λ phase. r >>= λ rows. Some (record { proto = proto; phase = phase; rows = rows; value = value; message = None })) >>= λ c. Some (make c)) ≡ Some x
    → ((o >>= λ proto. n >>= λ phase. r >>= λ rows. u >>= λ value. Some (record { proto = proto; phase = phase; rows = rows; value = value; message = None })) >>= λ c. Some (make c)) ≡ Some x
unfolding ◌>>=◌
closed_is make None u o n r x k t e = absurd cc
closed_is make (Some value) u None n r x k t e = absurd cc
closed_is make (Some value) u (Some proto) None r x k t e = absurd cc
closed_is make (Some value) u (Some proto) (Some phase) None x k t e = absurd cc
closed_is make (Some value) u (Some proto) (Some phase) (Some rows) x k t e =
    let c : Closed = record { proto = proto; phase = phase; rows = rows; value = value; message = None } in
    let q : make c ≡ x = cc in
    rw (k value refl (t c q)) e

phase_typed : (x : Entry) → entry_typed x ≡ true → (c : Closed) → entry.Phase c ≡ x → text_option_holds c.value ≡ true
unfolding entry_typed
phase_typed x t c q = subst (λ z. entry_typed z ≡ true) (sym q) t

approve_typed : (x : Entry) → entry_typed x ≡ true → (c : Closed) → entry.Approve c ≡ x → text_option_holds c.value ≡ true
unfolding entry_typed
approve_typed x t c q = subst (λ z. entry_typed z ≡ true) (sym q) t

late_is : (o : Option ProtoId) (n : Option ℕ) (ps : Option (List ProviderId)) (x : Entry) → (o >>= λ proto. n >>= λ phase. ps >>= λ qs. Some (entry.Late proto phase qs)) ≡ Some x → entry_typed x ≡ true
    → (o >>= λ proto. n >>= λ phase. (ps >>= λ qs. when_true (Some qs) (are_providers qs)) >>= λ qs. Some (entry.Late proto phase qs)) ≡ Some x
unfolding ◌>>=◌ when_true entry_typed
late_is None n ps x e t = absurd cc
late_is (Some proto) None ps x e t = absurd cc
late_is (Some proto) (Some phase) None x e t = absurd cc
late_is (Some proto) (Some phase) (Some qs) x e t =
    let q : entry.Late proto phase qs ≡ x = cc in
    let s : are_providers qs ≡ true = subst (λ z. entry_typed z ≡ true) (sym q) t in
    rw s e

reject_is : (o : Option ProtoId) (n : Option ℕ) (r : Option (List Row)) (x : Entry)
    → ((o >>= λ proto. n >>= λ phase. r >>= λ rows. Some (record { proto = proto; phase = phase; rows = rows; value = None; message = None })) >>= λ c. Some (entry.Reject c)) ≡ Some x
    → (o >>= λ proto. n >>= λ phase. r >>= λ rows. Some (entry.Reject (record { proto = proto; phase = phase; rows = rows; value = None; message = None }))) ≡ Some x
unfolding ◌>>=◌
reject_is None n r x e = absurd cc
reject_is (Some proto) None r x e = absurd cc
reject_is (Some proto) (Some phase) None x e = absurd cc
reject_is (Some proto) (Some phase) (Some rows) x e = e

once_is : (make : Proposal → Entry) (ws : List (List ℕ)) (o : Option Proposal) (x : Entry) → ((y : Proposal) → make y ≡ x → proposal_typed y ≡ true) → proposal_read ws ≡ o → (o >>= λ y. Some (make y)) ≡ Some x → (proposal_words ws >>= λ y. Some (make y)) ≡ Some x
unfolding ◌>>=◌
once_is make ws None x t h e = absurd cc
once_is make ws (Some y) x t h e =
    let q : make y ≡ x = cc in
    rw (proposal_is ws y h (t y q)) e

once_typed : (x : Entry) → entry_typed x ≡ true → (y : Proposal) → entry.Once y ≡ x → proposal_typed y ≡ true
unfolding entry_typed
once_typed x t y q = subst (λ z. entry_typed z ≡ true) (sym q) t

begin_typed : (x : Entry) → entry_typed x ≡ true → (y : Proposal) → entry.Begin y ≡ x → proposal_typed y ≡ true
unfolding entry_typed
begin_typed x t y q = subst (λ z. entry_typed z ≡ true) (sym q) t

said_is : (h : EntryHead) (ws : List (List ℕ)) (x : Entry) → said_entry h ws ≡ Some x → entry_typed x ≡ true → entry_said h ws ≡ Some x
unfolding said_entry entry_said loose_closed valued_closed closed_words named_word first_of one_of two_of three_of four_of ◌>>=◌ when_true
said_is HOnce ws x e t = once_is entry.Once ws (proposal_read ws) x (once_typed x t) refl e
said_is HBegin ws x e t = once_is entry.Begin ws (proposal_read ws) x (begin_typed x t) refl e
said_is HPhase [] x e t = absurd cc
said_is HPhase (a ∷ []) x e t = absurd cc
said_is HPhase (a ∷ b ∷ []) x e t = absurd cc
said_is HPhase (a ∷ b ∷ c ∷ []) x e t = absurd cc
said_is HPhase (a ∷ b ∷ c ∷ d ∷ []) x e t = closed_is entry.Phase (value_or_none d) (text_or_none d) (proto_word a) (u16_word b) (list_word row_word c) x (text_is d) (phase_typed x t) e
said_is HPhase (a ∷ b ∷ c ∷ d ∷ f ∷ ws) x e t = absurd cc
said_is HApprove [] x e t = absurd cc
said_is HApprove (a ∷ []) x e t = absurd cc
said_is HApprove (a ∷ b ∷ []) x e t = absurd cc
said_is HApprove (a ∷ b ∷ c ∷ []) x e t = absurd cc
said_is HApprove (a ∷ b ∷ c ∷ d ∷ []) x e t = closed_is entry.Approve (value_or_none d) (text_or_none d) (proto_word a) (u16_word b) (list_word row_word c) x (text_is d) (approve_typed x t) e
said_is HApprove (a ∷ b ∷ c ∷ d ∷ f ∷ ws) x e t = absurd cc
said_is HReject [] x e t = absurd cc
said_is HReject (a ∷ []) x e t = absurd cc
said_is HReject (a ∷ b ∷ []) x e t = absurd cc
said_is HReject (a ∷ b ∷ c ∷ []) x e t = reject_is (proto_word a) (u16_word b) (list_word row_word c) x e
said_is HReject (a ∷ b ∷ c ∷ d ∷ ws) x e t = absurd cc
said_is HLate [] x e t = absurd cc
said_is HLate (a ∷ []) x e t = absurd cc
said_is HLate (a ∷ b ∷ []) x e t = absurd cc
said_is HLate (a ∷ b ∷ c ∷ []) x e t = late_is (proto_word a) (u16_word b) (list_word provider_word c) x e t
said_is HLate (a ∷ b ∷ c ∷ d ∷ ws) x e t = absurd cc

pub entry_is_typed : (ws : List (List ℕ)) (x : Entry) → entry_read ws ≡ Some x → entry_typed x ≡ true → entry_of_words ws ≡ Some x
unfolding entry_read entry_of_words first_of ◌>>=◌
entry_is_typed [] x e t = absurd cc
entry_is_typed (k ∷ ws) x e t = by (entry_head k) e
  where
    by : (o : Option EntryHead) → (o >>= λ h. said_entry h ws) ≡ Some x → (o >>= λ h. entry_said h ws) ≡ Some x
    by None f = absurd cc
    by (Some h) f = said_is h ws x f t
