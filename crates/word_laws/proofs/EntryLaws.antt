-- Proposals, votes and entries are read as they are written.
use Rattle.std.proofs.Common.{◌≡◌, inl, inr, ℕ, ◌+◌, ◌<◌, ◌≤◌, Bool, true, false, List, [], ◌∷◌, ◌++◌, length, filter, Option, Some, None, refl, sym, ◌∙◌, ap, subst, arith, append_assoc, append-nil}
use Rattle.std.specs.Prelude.{◌==◌, ◌&&◌, not, decimal, codes, if◌then◌else◌}
use Rattle.std.specs.List.{list_all}
use Rattle.std.specs.Str.{bytes_eq}
use Rattle.std.proofs.lemmas.Bool.Decides.{nat_tests}
use Rattle.rsct_packet.specs.declared.ids.ProtoId.{ProtoId}
use Rattle.rsct_packet.specs.declared.ids.ProviderId.{ProviderId}
use Rattle.rsct_packet.specs.declared.ids.ViewId.{ViewId}
use Rattle.group_attr.specs.declared.attrs.Attrs.{Attrs}
use Rattle.group_attr.specs.declared.attrs.DefaultVote.TheVariants as default_vote
use Rattle.proposal_core.specs.declared.proposal.Cause.{Cause}
use Rattle.proposal_core.specs.declared.proposal.Cause.TheVariants as cause
use Rattle.proposal_core.specs.declared.proposal.Failure.{Failure}
use Rattle.proposal_core.specs.declared.proposal.Proposal.{Proposal}
use Rattle.proposal_core.specs.declared.proposal.Proposal.TheVariants as proposal
use Rattle.proposal_core.specs.declared.entry.Vote.{Vote}
use Rattle.proposal_core.specs.declared.entry.Vote.TheVariants as vote
use Rattle.proposal_core.specs.declared.entry.RowVote.{RowVote}
use Rattle.proposal_core.specs.declared.entry.RowVote.TheVariants as row_vote
use Rattle.proposal_core.specs.declared.entry.Row.{Row}
use Rattle.proposal_core.specs.declared.entry.Closed.{Closed}
use Rattle.proposal_core.specs.declared.entry.Entry.{Entry}
use Rattle.proposal_core.specs.declared.entry.Entry.TheVariants as entry
use Rattle.value_words.specs.Wording.{word, view_text, provider_text, proto_text, joined, providers_text, escaped, value_text}
use Rattle.value_words.specs.Words.{◌>>=◌, split_on, provider_word, chosen}
use Rattle.entry_words.specs.Words.{before_equals, after_equals, attr_words}
use Rattle.entry_words.specs.Wording.{kind_text, value_option_text, attrs_text, source_len_text, cause_text, failure_text, asker_text, proposal_text, vote_text, default_letter, row_vote_text, row_text, phase_text, closed_text, entry_text}
use Rattle.word_laws.specs.declared.kind.Kind.{Kind}
use Rattle.word_laws.specs.declared.kind.Kind.TheVariants as kind
use Rattle.word_laws.specs.Entries.{kind_read, kind_of, cause_word, failure_word, asker_word, is_source_len, source_len_of, valued_words, proposed_words, proposal_read, vote_letter, ballot_read, row_vote_word, row_word, closed_words, EntryHead, HOnce, HBegin, HPhase, HApprove, HReject, HLate, entry_head, valued_closed, said_entry, entry_read}
use Rattle.word_laws.specs.Ranges.{is_u32, is_u16, is_view, is_proto, is_provider, is_value, is_value_option, are_attrs, is_failure, is_row, is_len_option, is_proposal, is_none_text, is_closed, is_entry}
use Rattle.word_laws.specs.Spelled.{behind, attrs_words, source_len_words, proposed_spelled, closed_spelled, entry_first, entry_spelled}
use Rattle.word_laws.specs.Values.{u32_word, u16_word, two_word, proto_word, list_word, value_word, value_or_none}
use Rattle.word_laws.proofs.Pieces.{Lacks, lacks_both, EachLacks, IsNoDigit}
use Rattle.word_laws.proofs.ValueLaws.{and_parts, u32_read, u16_read, u32_lacks, u16_lacks, lacks_mark, two_read, slash, IsApart, blank, comma, dash, view_lacks, proto_read, proto_lacks, provider_read, provider_lacks, provider_filled, longer, list_is, Item, joined_lacks, items_are, unmarked, providers_read, providers_lack, value_read, value_lacks, value_parts, escaped_lacks, value_option_read, value_option_lacks}
use Rattle.word_laws.proofs.AttributeLaws.{split_behind, both_behind, each_lacks_both, attrs_are_words, AreAttrs, attrs_are_attrs, attrs_lack, lacks_by, attrs_read}

-- ---- who asks, who failed and why

asker_is : (p : ProviderId) (r : ℕ) → asker_text p r ≡ provider_text p ++ 47 ∷ decimal r
unfolding asker_text
asker_is p r = append_assoc (provider_text p) (47 ∷ []) (decimal r)

asker_read : (p : ProviderId) (r : ℕ) → is_provider p ≡ true → is_u32 r ≡ true → asker_word (asker_text p r) ≡ Some (p, r)
unfolding asker_word
asker_read p r e f =
    ap (two_word 47 provider_word u32_word) (asker_is p r)
    ∙ two_read 47 provider_word u32_word (provider_text p) (decimal r) p r (provider_lacks 47 p slash e) (u32_lacks 47 r slash.0 f) (provider_read p e) (u32_read r f)

asker_lacks : (p : ProviderId) (r : ℕ) → is_provider p ≡ true → is_u32 r ≡ true → Lacks 32 (asker_text p r)
asker_lacks p r e f =
    subst (Lacks 32) (sym (asker_is p r)) (lacks_mark 47 32 (provider_text p) (decimal r) refl (provider_lacks 32 p blank e) (u32_lacks 32 r blank.0 f))

pub colon : IsApart 58
colon = (inr (omega arith), grind (arith, nat_tests))

-- the word of a cause, behind its mark
cause_name : Cause → List ℕ
cause_name cause.Died = codes "died"
cause_name cause.Gone = codes "gone"
cause_name cause.Cast = codes "cast"

failure_is : (f : Failure) → failure_text f ≡ provider_text f.provider ++ 58 ∷ cause_name f.cause
unfolding failure_text cause_text cause_name
failure_is f = by f.provider f.cause
  where
    by : (p : ProviderId) (c : Cause) → provider_text p ++ cause_text c ≡ provider_text p ++ 58 ∷ cause_name c
    by p cause.Died = refl
    by p cause.Gone = refl
    by p cause.Cast = refl

cause_read : (c : Cause) → cause_word (cause_name c) ≡ Some c
unfolding cause_word cause_name chosen
cause_read cause.Died = refl
cause_read cause.Gone = refl
cause_read cause.Cast = refl

cause_lacks : (m : ℕ) (c : Cause) → m < 97 → Lacks m (cause_name c)
unfolding cause_name
cause_lacks m cause.Died h = (grind (arith, nat_tests), (grind (arith, nat_tests), (grind (arith, nat_tests), (grind (arith, nat_tests), tt))))
cause_lacks m cause.Gone h = (grind (arith, nat_tests), (grind (arith, nat_tests), (grind (arith, nat_tests), (grind (arith, nat_tests), tt))))
cause_lacks m cause.Cast h = (grind (arith, nat_tests), (grind (arith, nat_tests), (grind (arith, nat_tests), (grind (arith, nat_tests), tt))))

failure_read : (f : Failure) → is_failure f ≡ true → failure_word (failure_text f) ≡ Some f
unfolding is_failure failure_word ◌>>=◌
failure_read f e =
    ap failure_word (failure_is f)
    ∙ ap (λ o. o >>= (λ (x : ProviderId × Cause). Some (record { provider = x.0; cause = x.1 }))) (two_read 58 provider_word cause_word (provider_text f.provider) (cause_name f.cause) f.provider f.cause (provider_lacks 58 f.provider colon e) (cause_lacks 58 f.cause (omega arith)) (provider_read f.provider e) (cause_read f.cause))

failure_lacks : (m : ℕ) (f : Failure) → IsApart m → m < 58 → is_failure f ≡ true → Lacks m (failure_text f)
unfolding is_failure
failure_lacks m f a l e =
    subst (Lacks m) (sym (failure_is f)) (lacks_mark 58 m (provider_text f.provider) (cause_name f.cause) (grind (arith, nat_tests)) (provider_lacks m f.provider a e) (cause_lacks m f.cause (omega (arith, l))))

failure_filled : (f : Failure) → is_failure f ≡ true → 0 < length (failure_text f)
unfolding is_failure
failure_filled f e = subst (λ z. 0 < length z) (sym (failure_is f)) (longer (provider_text f.provider) (58 ∷ cause_name f.cause) (provider_filled f.provider e))

failure_item : (f : Failure) → is_failure f ≡ true → Item failure_text failure_word f
failure_item f e = (failure_read f e, failure_lacks 44 f comma (omega arith) e, failure_lacks 45 f dash (omega arith) e, failure_filled f e)

failures_read : (fs : List Failure) → list_all is_failure fs ≡ true → list_word failure_word (joined failure_text fs) ≡ Some fs
failures_read fs e = list_is failure_text failure_word fs (items_are is_failure failure_text failure_word failure_item fs e)

failures_lack : (fs : List Failure) → list_all is_failure fs ≡ true → Lacks 32 (joined failure_text fs)
failures_lack fs e = joined_lacks failure_text 32 fs refl refl (unmarked is_failure failure_text 32 (λ f h. failure_lacks 32 f blank (omega arith) h) fs e)

-- ---- votes

pub vote_read : (v : Vote) → vote_letter (vote_text v) ≡ Some v
unfolding vote_letter vote_text chosen
vote_read vote.Approve = refl
vote_read vote.Continue = refl
vote_read vote.Reject = refl

-- a vote alone
pub ballot_is : (v : Vote) → ballot_read (vote_text v) ≡ Some (v, None)
unfolding ballot_read vote_text vote_letter chosen ◌>>=◌
ballot_is vote.Approve = refl
ballot_is vote.Continue = refl
ballot_is vote.Reject = refl

with_value : (v : Vote) (bs : List ℕ) (x : Option (List ℕ)) → x ≡ Some bs → ◌≡◌ {A = Option (Vote × Option (List ℕ))} (x >>= λ y. Some (v, Some y)) (Some (v, Some bs))
unfolding ◌>>=◌
with_value v bs x e = rw e refl

-- a vote and its value
pub valued_ballot_is : (v : Vote) (bs : List ℕ) → is_value bs ≡ true → ballot_read (vote_text v ++ value_text bs) ≡ Some (v, Some bs)
unfolding ballot_read vote_text vote_letter chosen ◌>>=◌ value_text
valued_ballot_is vote.Approve bs e = with_value vote.Approve bs (value_word (61 ∷ escaped bs)) (value_read bs e)
valued_ballot_is vote.Continue bs e = with_value vote.Continue bs (value_word (61 ∷ escaped bs)) (value_read bs e)
valued_ballot_is vote.Reject bs e = with_value vote.Reject bs (value_word (61 ∷ escaped bs)) (value_read bs e)

-- ---- rows

equals : IsApart 61
equals = (inr (omega arith), grind (arith, nat_tests))

row_is : (r : Row) → row_text r ≡ provider_text r.provider ++ 61 ∷ row_vote_text r.vote
unfolding row_text
row_is r = append_assoc (provider_text r.provider) (61 ∷ []) (row_vote_text r.vote)

row_vote_read : (v : RowVote) → row_vote_word (row_vote_text v) ≡ Some v
unfolding row_vote_word row_vote_text vote_text default_letter chosen
row_vote_read (row_vote.Cast vote.Approve) = refl
row_vote_read (row_vote.Cast vote.Continue) = refl
row_vote_read (row_vote.Cast vote.Reject) = refl
row_vote_read (row_vote.Late default_vote.Approve) = refl
row_vote_read (row_vote.Late default_vote.Reject) = refl
row_vote_read (row_vote.Failed default_vote.Approve) = refl
row_vote_read (row_vote.Failed default_vote.Reject) = refl

row_vote_lacks : (m : ℕ) (v : RowVote) → m < 65 → Lacks m (row_vote_text v)
unfolding row_vote_text vote_text default_letter
row_vote_lacks m (row_vote.Cast vote.Approve) h = (grind (arith, nat_tests), tt)
row_vote_lacks m (row_vote.Cast vote.Continue) h = (grind (arith, nat_tests), tt)
row_vote_lacks m (row_vote.Cast vote.Reject) h = (grind (arith, nat_tests), tt)
row_vote_lacks m (row_vote.Late default_vote.Approve) h = (grind (arith, nat_tests), (grind (arith, nat_tests), tt))
row_vote_lacks m (row_vote.Late default_vote.Reject) h = (grind (arith, nat_tests), (grind (arith, nat_tests), tt))
row_vote_lacks m (row_vote.Failed default_vote.Approve) h = (grind (arith, nat_tests), (grind (arith, nat_tests), tt))
row_vote_lacks m (row_vote.Failed default_vote.Reject) h = (grind (arith, nat_tests), (grind (arith, nat_tests), tt))

row_read : (r : Row) → is_row r ≡ true → row_word (row_text r) ≡ Some r
unfolding is_row row_word ◌>>=◌
row_read r e =
    ap row_word (row_is r)
    ∙ ap (λ o. o >>= (λ (x : ProviderId × RowVote). Some (record { provider = x.0; vote = x.1 }))) (two_read 61 provider_word row_vote_word (provider_text r.provider) (row_vote_text r.vote) r.provider r.vote (provider_lacks 61 r.provider equals e) (row_vote_lacks 61 r.vote (omega arith)) (provider_read r.provider e) (row_vote_read r.vote))

row_lacks : (m : ℕ) (r : Row) → IsApart m → m < 61 → is_row r ≡ true → Lacks m (row_text r)
unfolding is_row
row_lacks m r a l e =
    subst (Lacks m) (sym (row_is r)) (lacks_mark 61 m (provider_text r.provider) (row_vote_text r.vote) (grind (arith, nat_tests)) (provider_lacks m r.provider a e) (row_vote_lacks m r.vote (omega (arith, l))))

row_filled : (r : Row) → is_row r ≡ true → 0 < length (row_text r)
unfolding is_row
row_filled r e = subst (λ z. 0 < length z) (sym (row_is r)) (longer (provider_text r.provider) (61 ∷ row_vote_text r.vote) (provider_filled r.provider e))

row_item : (r : Row) → is_row r ≡ true → Item row_text row_word r
row_item r e = (row_read r e, row_lacks 44 r comma (omega arith) e, row_lacks 45 r dash (omega arith) e, row_filled r e)

rows_read : (rs : List Row) → list_all is_row rs ≡ true → list_word row_word (joined row_text rs) ≡ Some rs
rows_read rs e = list_is row_text row_word rs (items_are is_row row_text row_word row_item rs e)

rows_lack : (rs : List Row) → list_all is_row rs ≡ true → Lacks 32 (joined row_text rs)
rows_lack rs e = joined_lacks row_text 32 rs refl refl (unmarked is_row row_text 32 (λ r h. row_lacks 32 r blank (omega arith) h) rs e)

-- ---- proposals: their text is their words

one_behind : (a : List ℕ) → a ≡ a ++ behind []
unfolding behind
one_behind a = sym (append-nil a)

two_behind : (a b : List ℕ) → a ++ codes " " ++ b ≡ a ++ behind (b ∷ [])
unfolding behind
two_behind a b = append_assoc a (32 ∷ []) b ∙ ap (λ z. a ++ 32 ∷ z) (sym (append-nil b))

source_len_is : (n : Option ℕ) → source_len_text n ≡ behind (source_len_words n)
unfolding source_len_text behind source_len_words
source_len_is None = refl
source_len_is (Some n) = ap (λ z. codes " src=" ++ z) (sym (append-nil (decimal n)))

join_behind : (ps : List ℕ) (a : Attrs) (n : Option ℕ) → ps ++ attrs_text a ++ source_len_text n ≡ ps ++ behind (attrs_words a ++ source_len_words n)
join_behind ps a n =
    append_assoc ps (attrs_text a) (source_len_text n) ∙ ap (λ z. ps ++ z) (both_behind (attrs_words a) (source_len_words n) (attrs_text a) (source_len_text n) (attrs_are_words a) (source_len_is n))

pub proposal_is : (x : Proposal) → proposal_text x ≡ kind_text x ++ behind (proposed_spelled x)
unfolding proposal_text kind_text behind proposed_spelled proto_text
proposal_is (proposal.Join ps a n) = ap (λ z. codes "join " ++ z) (join_behind (providers_text ps) a n)
proposal_is (proposal.Leave p r) = ap (λ z. codes "leave " ++ z) (one_behind (asker_text p r))
proposal_is (proposal.Fail out) = ap (λ z. codes "fail " ++ z) (one_behind (joined failure_text out))
proposal_is (proposal.Expel p r out) = ap (λ z. codes "expel " ++ z) (two_behind (asker_text p r) (providers_text out))
proposal_is (proposal.State p r value) = ap (λ z. codes "state " ++ z) (two_behind (asker_text p r) (value_text value))
proposal_is (proposal.Message p r bytes) = ap (λ z. codes "message " ++ z) (two_behind (asker_text p r) (value_text bytes))
proposal_is (proposal.Attributes p r a) = ap (λ z. codes "attrs " ++ asker_text p r ++ z) (attrs_are_words a)
proposal_is (proposal.Reflect v i value) = ap (λ z. codes "reflect " ++ z) (two_behind (view_text v ++ codes "/" ++ decimal i) (value_text value))

-- ---- and has no space in a word

len_lacks : (n : Option ℕ) → is_len_option n ≡ true → EachLacks 32 (source_len_words n)
unfolding is_len_option source_len_words
len_lacks None e = tt
len_lacks (Some n) e = (lacks_both 32 (codes "src=") (decimal n) (lacks_by 32 (codes "src=") refl) (u32_lacks 32 n blank.0 e), tt)

three_parts : (a b c : Bool) → (a && (b && c)) ≡ true → (a ≡ true) × (b ≡ true) × (c ≡ true)
three_parts a b c e = let p = and_parts a (b && c) e in let q = and_parts b c p.1 in (p.0, q.0, q.1)

kind_lacks : (x : Proposal) → Lacks 32 (kind_text x)
unfolding kind_text
kind_lacks (proposal.Join ps a n) = lacks_by 32 (codes "join") refl
kind_lacks (proposal.Leave p r) = lacks_by 32 (codes "leave") refl
kind_lacks (proposal.Fail out) = lacks_by 32 (codes "fail") refl
kind_lacks (proposal.Expel p r out) = lacks_by 32 (codes "expel") refl
kind_lacks (proposal.State p r value) = lacks_by 32 (codes "state") refl
kind_lacks (proposal.Message p r bytes) = lacks_by 32 (codes "message") refl
kind_lacks (proposal.Attributes p r a) = lacks_by 32 (codes "attrs") refl
kind_lacks (proposal.Reflect v i value) = lacks_by 32 (codes "reflect") refl

value_of : (p : ProviderId) (r : ℕ) (value : List ℕ) → (is_provider p && (is_u32 r && is_value value)) ≡ true → EachLacks 32 (asker_text p r ∷ value_text value ∷ [])
value_of p r value e = let q = three_parts (is_provider p) (is_u32 r) (is_value value) e in (asker_lacks p r q.0 q.1, (value_lacks 32 value (omega arith) q.2, tt))

place_proto : (v : ViewId) (i : ℕ) → is_view v ≡ true → is_u32 i ≡ true → is_proto (record { view = v; place = i }) ≡ true
unfolding is_proto
place_proto v i e f = rw (e, f) refl

proposed_lacks : (x : Proposal) → is_proposal x ≡ true → EachLacks 32 (proposed_spelled x)
unfolding is_proposal proposed_spelled
proposed_lacks (proposal.Join ps a n) e =
    let q = three_parts (list_all is_provider ps) (are_attrs a) (is_len_option n) e in
    (providers_lack ps q.0, each_lacks_both 32 (attrs_words a) (source_len_words n) (attrs_lack (attrs_words a) (attrs_are_attrs a q.1)) (len_lacks n q.2))
proposed_lacks (proposal.Leave p r) e = let q = and_parts (is_provider p) (is_u32 r) e in (asker_lacks p r q.0 q.1, tt)
proposed_lacks (proposal.Fail out) e = (failures_lack out e, tt)
proposed_lacks (proposal.Expel p r out) e =
    let q = three_parts (is_provider p) (is_u32 r) (list_all is_provider out) e in
    (asker_lacks p r q.0 q.1, (providers_lack out q.2, tt))
proposed_lacks (proposal.State p r value) e = value_of p r value e
proposed_lacks (proposal.Message p r bytes) e = value_of p r bytes e
proposed_lacks (proposal.Attributes p r a) e =
    let q = three_parts (is_provider p) (is_u32 r) (are_attrs a) e in
    (asker_lacks p r q.0 q.1, attrs_lack (attrs_words a) (attrs_are_attrs a q.2))
proposed_lacks (proposal.Reflect v i value) e =
    let q = three_parts (is_view v) (is_u32 i) (is_value value) e in
    (proto_lacks 32 (record { view = v; place = i }) blank refl (place_proto v i q.0 q.1), (value_lacks 32 value (omega arith) q.2, tt))

-- ---- and is read

no_length : (ws rest : List (List ℕ)) → AreAttrs ws → (filter (λ w. not (is_source_len w)) (ws ++ rest) ≡ ws ++ filter (λ w. not (is_source_len w)) rest) × (filter is_source_len (ws ++ rest) ≡ filter is_source_len rest)
no_length [] rest h = (refl, refl)
no_length (w ∷ ws) rest h =
    let q = no_length ws rest h.1 in
    (kept (is_source_len w) w (filter (λ w. not (is_source_len w)) (ws ++ rest)) h.0.2 ∙ ap (λ z. w ∷ z) q.0, left (is_source_len w) w (filter is_source_len (ws ++ rest)) h.0.2 ∙ q.1)
  where
    kept : (t : Bool) (w : List ℕ) (ws : List (List ℕ)) → t ≡ false → (if not t then w ∷ ws else ws) ≡ w ∷ ws
    kept true w ws e = absurd cc
    kept false w ws e = refl

    left : (t : Bool) (w : List ℕ) (ws : List (List ℕ)) → t ≡ false → (if t then w ∷ ws else ws) ≡ ws
    left true w ws e = absurd cc
    left false w ws e = refl

len_rest : (n : Option ℕ) → (filter (λ w. not (is_source_len w)) (source_len_words n) ≡ []) × (filter is_source_len (source_len_words n) ≡ source_len_words n)
unfolding source_len_words is_source_len before_equals
len_rest None = (refl, refl)
len_rest (Some n) = (refl, refl)

len_read : (n : Option ℕ) → is_len_option n ≡ true → source_len_of (source_len_words n) ≡ Some n
unfolding is_len_option source_len_words source_len_of after_equals ◌>>=◌
len_read None e = refl
len_read (Some n) e = let r = u32_read n e in rw r refl

join_says : (ps : List ProviderId) (a : Attrs) (n : Option ℕ) (w : List ℕ) (ws : List (List ℕ)) → list_word provider_word w ≡ Some ps → attr_words (filter (λ w. not (is_source_len w)) ws) ≡ Some a → source_len_of (filter is_source_len ws) ≡ Some n
    → proposed_words kind.Join (w ∷ ws) ≡ Some (proposal.Join ps a n)
unfolding proposed_words ◌>>=◌
join_says ps a n w ws e f g = rw (e, f, g) refl

leave_says : (p : ProviderId) (r : ℕ) (w : List ℕ) → asker_word w ≡ Some (p, r) → proposed_words kind.Leave (w ∷ []) ≡ Some (proposal.Leave p r)
unfolding proposed_words ◌>>=◌
leave_says p r w e = rw e refl

fail_says : (out : List Failure) (w : List ℕ) → list_word failure_word w ≡ Some out → proposed_words kind.Fail (w ∷ []) ≡ Some (proposal.Fail out)
unfolding proposed_words ◌>>=◌
fail_says out w e = rw e refl

expel_says : (p : ProviderId) (r : ℕ) (out : List ProviderId) (w t : List ℕ) → asker_word w ≡ Some (p, r) → list_word provider_word t ≡ Some out → proposed_words kind.Expel (w ∷ t ∷ []) ≡ Some (proposal.Expel p r out)
unfolding proposed_words ◌>>=◌
expel_says p r out w t e f = rw (e, f) refl

valued_says : (make : ProviderId → ℕ → List ℕ → Proposal) (p : ProviderId) (r : ℕ) (value w t : List ℕ) → asker_word w ≡ Some (p, r) → value_word t ≡ Some value → valued_words make w t ≡ Some (make p r value)
unfolding valued_words ◌>>=◌
valued_says make p r value w t e f = rw (e, f) refl

attrs_says : (p : ProviderId) (r : ℕ) (a : Attrs) (w : List ℕ) (ws : List (List ℕ)) → asker_word w ≡ Some (p, r) → attr_words ws ≡ Some a → proposed_words kind.Attributes (w ∷ ws) ≡ Some (proposal.Attributes p r a)
unfolding proposed_words ◌>>=◌
attrs_says p r a w ws e f = rw (e, f) refl

reflect_says : (v : ViewId) (i : ℕ) (value w t : List ℕ) → proto_word w ≡ Some (record { view = v; place = i }) → value_word t ≡ Some value → proposed_words kind.Reflect (w ∷ t ∷ []) ≡ Some (proposal.Reflect v i value)
unfolding proposed_words ◌>>=◌
reflect_says v i value w t e f = rw (e, f) refl

said_state : (w t : List ℕ) → proposed_words kind.State (w ∷ t ∷ []) ≡ valued_words proposal.State w t
unfolding proposed_words
said_state w t = refl

said_message : (w t : List ℕ) → proposed_words kind.Message (w ∷ t ∷ []) ≡ valued_words proposal.Message w t
unfolding proposed_words
said_message w t = refl

pub kind_is : (x : Proposal) → kind_read (kind_text x) ≡ Some (kind_of x)
unfolding kind_read kind_text kind_of chosen
kind_is (proposal.Join ps a n) = refl
kind_is (proposal.Leave p r) = refl
kind_is (proposal.Fail out) = refl
kind_is (proposal.Expel p r out) = refl
kind_is (proposal.State p r value) = refl
kind_is (proposal.Message p r bytes) = refl
kind_is (proposal.Attributes p r a) = refl
kind_is (proposal.Reflect v i value) = refl

proposed_read : (x : Proposal) → is_proposal x ≡ true → proposed_words (kind_of x) (proposed_spelled x) ≡ Some x
unfolding is_proposal proposed_spelled kind_of
proposed_read (proposal.Join ps a n) e =
    let q = three_parts (list_all is_provider ps) (are_attrs a) (is_len_option n) e in
    let s = no_length (attrs_words a) (source_len_words n) (attrs_are_attrs a q.1) in
    let l = len_rest n in
    let words : attr_words (filter (λ w. not (is_source_len w)) (attrs_words a ++ source_len_words n)) ≡ Some a =
    ap attr_words (s.0 ∙ (ap (λ z. attrs_words a ++ z) l.0 ∙ append-nil (attrs_words a))) ∙ attrs_read a q.1
    in
    join_says ps a n (providers_text ps) (attrs_words a ++ source_len_words n) (providers_read ps q.0) words (ap source_len_of (s.1 ∙ l.1) ∙ len_read n q.2)
proposed_read (proposal.Leave p r) e = let q = and_parts (is_provider p) (is_u32 r) e in leave_says p r (asker_text p r) (asker_read p r q.0 q.1)
proposed_read (proposal.Fail out) e = fail_says out (joined failure_text out) (failures_read out e)
proposed_read (proposal.Expel p r out) e =
    let q = three_parts (is_provider p) (is_u32 r) (list_all is_provider out) e in
    expel_says p r out (asker_text p r) (providers_text out) (asker_read p r q.0 q.1) (providers_read out q.2)
proposed_read (proposal.State p r value) e =
    let q = three_parts (is_provider p) (is_u32 r) (is_value value) e in
    said_state (asker_text p r) (value_text value) ∙ valued_says proposal.State p r value (asker_text p r) (value_text value) (asker_read p r q.0 q.1) (value_read value q.2)
proposed_read (proposal.Message p r bytes) e =
    let q = three_parts (is_provider p) (is_u32 r) (is_value bytes) e in
    said_message (asker_text p r) (value_text bytes) ∙ valued_says proposal.Message p r bytes (asker_text p r) (value_text bytes) (asker_read p r q.0 q.1) (value_read bytes q.2)
proposed_read (proposal.Attributes p r a) e =
    let q = three_parts (is_provider p) (is_u32 r) (are_attrs a) e in
    attrs_says p r a (asker_text p r) (attrs_words a) (asker_read p r q.0 q.1) (attrs_read a q.2)
proposed_read (proposal.Reflect v i value) e =
    let q = three_parts (is_view v) (is_u32 i) (is_value value) e in
    reflect_says v i value (proto_text (record { view = v; place = i })) (value_text value) (proto_read (record { view = v; place = i }) (place_proto v i q.0 q.1)) (value_read value q.2)

proposal_by : (k : List ℕ) (ws : List (List ℕ)) (c : Kind) (x : Proposal) → kind_read k ≡ Some c → proposed_words c ws ≡ Some x → proposal_read (k ∷ ws) ≡ Some x
unfolding proposal_read ◌>>=◌
proposal_by k ws c x e f = rw (e, f) refl

pub proposal_words_read : (x : Proposal) → is_proposal x ≡ true → proposal_read (kind_text x ∷ proposed_spelled x) ≡ Some x
proposal_words_read x e = proposal_by (kind_text x) (proposed_spelled x) (kind_of x) x (kind_is x) (proposed_read x e)

pub proposal_back : (x : Proposal) → is_proposal x ≡ true → proposal_read (split_on 32 (proposal_text x)) ≡ Some x
proposal_back x e =
    ap (λ z. proposal_read (split_on 32 z)) (proposal_is x)
    ∙ (ap proposal_read (split_behind (kind_text x) (proposed_spelled x) (kind_lacks x, proposed_lacks x e)) ∙ proposal_words_read x e)

-- ---- entries

closed_is : (p d r more : List ℕ) → word p ++ word d ++ r ++ more ≡ p ++ 32 ∷ (d ++ 32 ∷ (r ++ more))
unfolding word
closed_is p d r more =
    append_assoc (p ++ 32 ∷ [] ++ (d ++ 32 ∷ [])) r more
    ∙ append_assoc (p ++ 32 ∷ []) (d ++ 32 ∷ []) (r ++ more)
    ∙ append_assoc p (32 ∷ []) (d ++ 32 ∷ [] ++ (r ++ more))
    ∙ ap (λ z. p ++ 32 ∷ z) (append_assoc d (32 ∷ []) (r ++ more))

-- what closes, and the value behind it
valued_is : (c : Closed) (v : List ℕ) → closed_text c ++ codes " " ++ v ≡ proto_text c.proto ++ 32 ∷ (decimal c.phase ++ 32 ∷ (joined row_text c.rows ++ 32 ∷ (v ++ [])))
unfolding closed_text phase_text
valued_is c v =
    append_assoc (word (proto_text c.proto) ++ word (decimal c.phase) ++ joined row_text c.rows) (32 ∷ []) v
    ∙ (closed_is (proto_text c.proto) (decimal c.phase) (joined row_text c.rows) (32 ∷ v)
    ∙ ap (λ z. proto_text c.proto ++ 32 ∷ (decimal c.phase ++ 32 ∷ (joined row_text c.rows ++ 32 ∷ z))) (sym (append-nil v)))

plain_is : (p d r : List ℕ) → word p ++ word d ++ r ≡ p ++ 32 ∷ (d ++ 32 ∷ (r ++ []))
plain_is p d r = sym (append-nil (word p ++ word d ++ r)) ∙ closed_is p d r []

rejected_is : (c : Closed) → closed_text c ≡ proto_text c.proto ++ 32 ∷ (decimal c.phase ++ 32 ∷ (joined row_text c.rows ++ []))
unfolding closed_text phase_text
rejected_is c = plain_is (proto_text c.proto) (decimal c.phase) (joined row_text c.rows)

late_is : (proto : ProtoId) (phase : ℕ) (ps : List ℕ) → phase_text proto phase ++ ps ≡ proto_text proto ++ 32 ∷ (decimal phase ++ 32 ∷ (ps ++ []))
unfolding phase_text
late_is proto phase ps = plain_is (proto_text proto) (decimal phase) ps

pub entry_is : (e : Entry) → entry_text e ≡ entry_first e ++ behind (entry_spelled e)
unfolding entry_text entry_first entry_spelled closed_spelled behind
entry_is (entry.Once x) = ap (λ z. codes "once " ++ z) (proposal_is x)
entry_is (entry.Begin x) = ap (λ z. codes "begin " ++ z) (proposal_is x)
entry_is (entry.Phase c) = ap (λ z. codes "phase " ++ z) (valued_is c (value_option_text c.value))
entry_is (entry.Approve c) = ap (λ z. codes "approve " ++ z) (valued_is c (value_option_text c.value))
entry_is (entry.Reject c) = ap (λ z. codes "reject " ++ z) (rejected_is c)
entry_is (entry.Late proto phase ps) = ap (λ z. codes "late " ++ z) (late_is proto phase (providers_text ps))

first_lacks : (e : Entry) → Lacks 32 (entry_first e)
unfolding entry_first
first_lacks (entry.Once x) = lacks_by 32 (codes "once") refl
first_lacks (entry.Begin x) = lacks_by 32 (codes "begin") refl
first_lacks (entry.Phase c) = lacks_by 32 (codes "phase") refl
first_lacks (entry.Approve c) = lacks_by 32 (codes "approve") refl
first_lacks (entry.Reject c) = lacks_by 32 (codes "reject") refl
first_lacks (entry.Late proto phase ps) = lacks_by 32 (codes "late") refl

closed_parts : (c : Closed) → is_closed c ≡ true → (is_proto c.proto ≡ true) × (is_u16 c.phase ≡ true) × (list_all is_row c.rows ≡ true) × (is_value_option c.value ≡ true) × (is_none_text c.message ≡ true)
unfolding is_closed
closed_parts c e =
    let p = three_parts (is_proto c.proto) (is_u16 c.phase) (list_all is_row c.rows && (is_value_option c.value && is_none_text c.message)) e in
    let q = three_parts (list_all is_row c.rows) (is_value_option c.value) (is_none_text c.message) p.2 in
    (p.0, p.1, q.0, q.1, q.2)

closed_lacks : (c : Closed) (more : List (List ℕ)) → is_closed c ≡ true → EachLacks 32 more → EachLacks 32 (closed_spelled c more)
unfolding closed_spelled
closed_lacks c more e h =
    let p = closed_parts c e in
    (proto_lacks 32 c.proto blank refl p.0, (u16_lacks 32 c.phase blank.0 p.1, (rows_lack c.rows p.2, h)))

entry_lacks : (e : Entry) → is_entry e ≡ true → EachLacks 32 (entry_spelled e)
unfolding is_entry entry_spelled
entry_lacks (entry.Once x) h = (kind_lacks x, proposed_lacks x h)
entry_lacks (entry.Begin x) h = (kind_lacks x, proposed_lacks x h)
entry_lacks (entry.Phase c) h = closed_lacks c (value_option_text c.value ∷ []) h (value_option_lacks c.value (closed_parts c h).3, tt)
entry_lacks (entry.Approve c) h = closed_lacks c (value_option_text c.value ∷ []) h (value_option_lacks c.value (closed_parts c h).3, tt)
entry_lacks (entry.Reject c) h = closed_lacks c [] (and_parts (is_closed c) (is_none_text c.value) h).0 tt
entry_lacks (entry.Late proto phase ps) h =
    let q = three_parts (is_proto proto) (is_u16 phase) (list_all is_provider ps) h in
    (proto_lacks 32 proto blank refl q.0, (u16_lacks 32 phase blank.0 q.1, (providers_lack ps q.2, tt)))

none_is : (o : Option (List ℕ)) → is_none_text o ≡ true → None ≡ o
unfolding is_none_text
none_is None e = refl
none_is (Some x) e = absurd cc

closed_says : (proto : ProtoId) (phase : ℕ) (rows : List Row) (value : Option (List ℕ)) (a b c : List ℕ) → proto_word a ≡ Some proto → u16_word b ≡ Some phase → list_word row_word c ≡ Some rows
    → closed_words a b c value ≡ Some (record { proto = proto; phase = phase; rows = rows; value = value; message = None })
unfolding closed_words ◌>>=◌
closed_says proto phase rows value a b c e f g = rw (e, f, g) refl

-- a closed phase without its message is the phase
closed_read : (c : Closed) → is_closed c ≡ true → closed_words (proto_text c.proto) (decimal c.phase) (joined row_text c.rows) c.value ≡ Some c
closed_read c e =
    let p = closed_parts c e in
    closed_says c.proto c.phase c.rows c.value (proto_text c.proto) (decimal c.phase) (joined row_text c.rows) (proto_read c.proto p.0) (u16_read c.phase p.1) (rows_read c.rows p.2)
    ∙ ap (λ (m : Option (List ℕ)). Some (record c { message = m })) (none_is c.message p.4)

valued_closed_says : (make : Closed → Entry) (x : Closed) (value : Option (List ℕ)) (a b c d : List ℕ) → value_or_none d ≡ Some value → closed_words a b c value ≡ Some x → valued_closed make a b c d ≡ Some (make x)
unfolding valued_closed ◌>>=◌
valued_closed_says make x value a b c d e f = rw (e, f) refl

valued_entry : (make : Closed → Entry) (c : Closed) → is_closed c ≡ true → valued_closed make (proto_text c.proto) (decimal c.phase) (joined row_text c.rows) (value_option_text c.value) ≡ Some (make c)
valued_entry make c e = valued_closed_says make c c.value (proto_text c.proto) (decimal c.phase) (joined row_text c.rows) (value_option_text c.value) (value_option_read c.value (closed_parts c e).3) (closed_read c e)

proposed_says : (make : Proposal → Entry) (x : Proposal) (ws : List (List ℕ)) → proposal_read ws ≡ Some x → ◌≡◌ {A = Option Entry} (proposal_read ws >>= λ y. Some (make y)) (Some (make x))
unfolding ◌>>=◌
proposed_says make x ws e = rw e refl

rejects : (x : Closed) (a b c : List ℕ) → closed_words a b c None ≡ Some x → said_entry HReject (a ∷ b ∷ c ∷ []) ≡ Some (entry.Reject x)
unfolding said_entry ◌>>=◌
rejects x a b c e = rw e refl

rejected_read : (c : Closed) → (is_closed c && is_none_text c.value) ≡ true → closed_words (proto_text c.proto) (decimal c.phase) (joined row_text c.rows) None ≡ Some c
rejected_read c e =
    let p = and_parts (is_closed c) (is_none_text c.value) e in
    ap (closed_words (proto_text c.proto) (decimal c.phase) (joined row_text c.rows)) (none_is c.value p.1) ∙ closed_read c p.0

late_says : (proto : ProtoId) (phase : ℕ) (ps : List ProviderId) (a b c : List ℕ) → proto_word a ≡ Some proto → u16_word b ≡ Some phase → list_word provider_word c ≡ Some ps → said_entry HLate (a ∷ b ∷ c ∷ []) ≡ Some (entry.Late proto phase ps)
unfolding said_entry ◌>>=◌
late_says proto phase ps a b c e f g = rw (e, f, g) refl

-- which entry the first word says
head_of : Entry → EntryHead
head_of (entry.Once x) = HOnce
head_of (entry.Begin x) = HBegin
head_of (entry.Phase c) = HPhase
head_of (entry.Approve c) = HApprove
head_of (entry.Reject c) = HReject
head_of (entry.Late proto phase ps) = HLate

head_is : (e : Entry) → entry_head (entry_first e) ≡ Some (head_of e)
unfolding entry_head entry_first head_of chosen
head_is (entry.Once x) = refl
head_is (entry.Begin x) = refl
head_is (entry.Phase c) = refl
head_is (entry.Approve c) = refl
head_is (entry.Reject c) = refl
head_is (entry.Late proto phase ps) = refl

said_once : (x : Proposal) (ws : List (List ℕ)) → proposal_read ws ≡ Some x → said_entry HOnce ws ≡ Some (entry.Once x)
unfolding said_entry
said_once x ws e = proposed_says entry.Once x ws e

said_begin : (x : Proposal) (ws : List (List ℕ)) → proposal_read ws ≡ Some x → said_entry HBegin ws ≡ Some (entry.Begin x)
unfolding said_entry
said_begin x ws e = proposed_says entry.Begin x ws e

said_phase : (a b c d : List ℕ) → said_entry HPhase (a ∷ b ∷ c ∷ d ∷ []) ≡ valued_closed entry.Phase a b c d
unfolding said_entry
said_phase a b c d = refl

said_approve : (a b c d : List ℕ) → said_entry HApprove (a ∷ b ∷ c ∷ d ∷ []) ≡ valued_closed entry.Approve a b c d
unfolding said_entry
said_approve a b c d = refl

said_read : (e : Entry) → is_entry e ≡ true → said_entry (head_of e) (entry_spelled e) ≡ Some e
unfolding is_entry entry_spelled closed_spelled head_of
said_read (entry.Once x) h = said_once x (kind_text x ∷ proposed_spelled x) (proposal_words_read x h)
said_read (entry.Begin x) h = said_begin x (kind_text x ∷ proposed_spelled x) (proposal_words_read x h)
said_read (entry.Phase c) h = said_phase (proto_text c.proto) (decimal c.phase) (joined row_text c.rows) (value_option_text c.value) ∙ valued_entry entry.Phase c h
said_read (entry.Approve c) h = said_approve (proto_text c.proto) (decimal c.phase) (joined row_text c.rows) (value_option_text c.value) ∙ valued_entry entry.Approve c h
said_read (entry.Reject c) h = rejects c (proto_text c.proto) (decimal c.phase) (joined row_text c.rows) (rejected_read c h)
said_read (entry.Late proto phase ps) h =
    let q = three_parts (is_proto proto) (is_u16 phase) (list_all is_provider ps) h in
    late_says proto phase ps (proto_text proto) (decimal phase) (providers_text ps) (proto_read proto q.0) (u16_read phase q.1) (providers_read ps q.2)

entry_by : (k : List ℕ) (ws : List (List ℕ)) (c : EntryHead) (x : Entry) → entry_head k ≡ Some c → said_entry c ws ≡ Some x → entry_read (k ∷ ws) ≡ Some x
unfolding entry_read ◌>>=◌
entry_by k ws c x e f = rw (e, f) refl

pub entry_words_read : (e : Entry) → is_entry e ≡ true → entry_read (entry_first e ∷ entry_spelled e) ≡ Some e
entry_words_read e h = entry_by (entry_first e) (entry_spelled e) (head_of e) e (head_is e) (said_read e h)

pub entry_back : (e : Entry) → is_entry e ≡ true → entry_read (split_on 32 (entry_text e)) ≡ Some e
entry_back e h =
    ap (λ z. entry_read (split_on 32 z)) (entry_is e)
    ∙ (ap entry_read (split_behind (entry_first e) (entry_spelled e) (first_lacks e, entry_lacks e h)) ∙ entry_words_read e h)
