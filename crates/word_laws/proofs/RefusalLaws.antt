-- Why something is refused is read as it is written.
use Rattle.std.proofs.Common.{◌≡◌, inl, ℕ, ◌+◌, ◌<◌, ◌≤◌, Bool, true, false, List, [], ◌∷◌, ◌++◌, Option, Some, None, refl, sym, ◌∙◌, ap, arith, append_assoc, append-nil}
use Rattle.std.specs.Prelude.{◌==◌, ◌&&◌, decimal, codes}
use Rattle.std.proofs.lemmas.Bool.Decides.{nat_tests}
use Rattle.rsct_packet.specs.declared.ids.ProtoId.{ProtoId}
use Rattle.group_attr.specs.declared.attrs.AttrFault.{AttrFault}
use Rattle.group_attr.specs.declared.attrs.AttrFault.TheVariants as attr_fault
use Rattle.client_callbacks.specs.declared.told.Why.{Why}
use Rattle.client_callbacks.specs.declared.told.Why.TheVariants as why
use Rattle.session_state.specs.declared.fault.Field.{Field}
use Rattle.session_state.specs.declared.fault.Field.TheVariants as field
use Rattle.session_state.specs.declared.fault.GsFault.{GsFault}
use Rattle.session_state.specs.declared.fault.GsFault.TheVariants as fault
use Rattle.value_words.specs.Wording.{proto_text}
use Rattle.value_words.specs.Words.{◌>>=◌, split_on, chosen}
use Rattle.entry_words.specs.Wording.{why_text, field_text, attr_fault_text, fault_text}
use Rattle.word_laws.specs.Entries.{plain_why, WhyHead, HCollide, HNoSource, HListFull, HGroupFull, HGroupsFull, why_head, said_why, why_read, plain_fault, field_word, attr_fault_word, FaultHead, HParameter, HAttributes, HPending, HSessions, fault_head, said_fault, fault_read}
use Rattle.word_laws.specs.Ranges.{is_u32, is_proto, is_why, is_attr_fault, is_fault}
use Rattle.word_laws.specs.Values.{u32_word, two_word, proto_word}
use Rattle.word_laws.proofs.Pieces.{Lacks, lacks_both, split_last, split_first}
use Rattle.word_laws.proofs.ValueLaws.{and_parts, u32_read, u32_lacks, lacks_mark, two_read, slash, blank, proto_read, proto_lacks}
use Rattle.word_laws.proofs.AttributeLaws.{lacks_by}

-- a word, and one behind it
two_words : (w v : List ℕ) → Lacks 32 w → Lacks 32 v → split_on 32 (w ++ 32 ∷ v) ≡ w ∷ v ∷ []
two_words w v h k = split_first 32 w v h ∙ ap (λ z. w ∷ z) (split_last 32 v k)

-- ---- of requests

why_by : (w v : List ℕ) (h : WhyHead) (x : Why) → why_head w ≡ Some h → said_why h v ≡ Some x → why_read (w ∷ v ∷ []) ≡ Some x
unfolding why_read ◌>>=◌
why_by w v h x e f = rw (e, f) refl

why_alone : (w : List ℕ) (x : Why) → Lacks 32 w → plain_why w ≡ Some x → why_read (split_on 32 w) ≡ Some x
unfolding why_read
why_alone w x h e = ap why_read (split_last 32 w h) ∙ e

why_two : (w v : List ℕ) (h : WhyHead) (x : Why) → Lacks 32 w → Lacks 32 v → why_head w ≡ Some h → said_why h v ≡ Some x → why_read (split_on 32 (w ++ 32 ∷ v)) ≡ Some x
why_two w v h x k l e f = ap why_read (two_words w v k l) ∙ why_by w v h x e f

collide_says : (p : ProtoId) (w : List ℕ) → proto_word w ≡ Some p → said_why HCollide w ≡ Some (why.Collide p)
unfolding said_why ◌>>=◌
collide_says p w e = rw e refl

no_source_says : (n : ℕ) (w : List ℕ) → u32_word w ≡ Some n → said_why HNoSource w ≡ Some (why.NoSource n)
unfolding said_why ◌>>=◌
no_source_says n w e = rw e refl

list_full_says : (m n : ℕ) (w : List ℕ) → two_word 47 u32_word u32_word w ≡ Some (m, n) → said_why HListFull w ≡ Some (why.ListFull m n)
unfolding said_why ◌>>=◌
list_full_says m n w e = rw e refl

group_full_says : (n : ℕ) (w : List ℕ) → u32_word w ≡ Some n → said_why HGroupFull w ≡ Some (why.GroupFull n)
unfolding said_why ◌>>=◌
group_full_says n w e = rw e refl

groups_full_says : (n : ℕ) (w : List ℕ) → u32_word w ≡ Some n → said_why HGroupsFull w ≡ Some (why.GroupsFull n)
unfolding said_why ◌>>=◌
groups_full_says n w e = rw e refl

pub why_back : (x : Why) → is_why x ≡ true → why_read (split_on 32 (why_text x)) ≡ Some x
unfolding is_why why_text plain_why why_head chosen
why_back (why.Collide p) e = why_two (codes "COLLIDE") (proto_text p) HCollide (why.Collide p) (lacks_by 32 (codes "COLLIDE") refl) (proto_lacks 32 p blank refl e) refl (collide_says p (proto_text p) (proto_read p e))
why_back why.DuplicateInstance e = why_alone (codes "DUPLICATE_INSTANCE_NUMBER") why.DuplicateInstance (lacks_by 32 (codes "DUPLICATE_INSTANCE_NUMBER") refl) refl
why_back (why.NoSource n) e = why_two (codes "NO_SOURCE_GROUP_PROVIDER") (decimal n) HNoSource (why.NoSource n) (lacks_by 32 (codes "NO_SOURCE_GROUP_PROVIDER") refl) (u32_lacks 32 n blank.0 e) refl (no_source_says n (decimal n) (u32_read n e))
why_back why.BadAttributes e = why_alone (codes "BAD_GROUP_ATTRIBUTES") why.BadAttributes (lacks_by 32 (codes "BAD_GROUP_ATTRIBUTES") refl) refl
why_back why.NotAMember e = why_alone (codes "NOT_A_MEMBER") why.NotAMember (lacks_by 32 (codes "NOT_A_MEMBER") refl) refl
why_back (why.ListFull m n) e =
    let p = and_parts (is_u32 m) (is_u32 n) e in
    ap (λ z. why_read (split_on 32 z)) (append_assoc (codes "LIST_FULL " ++ decimal m) (47 ∷ []) (decimal n))
    ∙ why_two (codes "LIST_FULL") (decimal m ++ 47 ∷ decimal n) HListFull (why.ListFull m n) (lacks_by 32 (codes "LIST_FULL") refl) (lacks_mark 47 32 (decimal m) (decimal n) refl (u32_lacks 32 m blank.0 p.0) (u32_lacks 32 n blank.0 p.1)) refl
    (list_full_says m n (decimal m ++ 47 ∷ decimal n) (two_read 47 u32_word u32_word (decimal m) (decimal n) m n (u32_lacks 47 m slash.0 p.0) (u32_lacks 47 n slash.0 p.1) (u32_read m p.0) (u32_read n p.1)))
why_back (why.GroupFull n) e = why_two (codes "GROUP_FULL") (decimal n) HGroupFull (why.GroupFull n) (lacks_by 32 (codes "GROUP_FULL") refl) (u32_lacks 32 n blank.0 e) refl (group_full_says n (decimal n) (u32_read n e))
why_back (why.GroupsFull n) e = why_two (codes "GROUPS_FULL") (decimal n) HGroupsFull (why.GroupsFull n) (lacks_by 32 (codes "GROUPS_FULL") refl) (u32_lacks 32 n blank.0 e) refl (groups_full_says n (decimal n) (u32_read n e))
why_back why.Dissolved e = why_alone (codes "DISSOLVED") why.Dissolved (lacks_by 32 (codes "DISSOLVED") refl) refl

-- ---- of calls

fault_by : (w v : List ℕ) (h : FaultHead) (x : GsFault) → fault_head w ≡ Some h → said_fault h v ≡ Some x → fault_read (w ∷ v ∷ []) ≡ Some x
unfolding fault_read ◌>>=◌
fault_by w v h x e f = rw (e, f) refl

fault_alone : (w : List ℕ) (x : GsFault) → Lacks 32 w → plain_fault w ≡ Some x → fault_read (split_on 32 w) ≡ Some x
unfolding fault_read
fault_alone w x h e = ap fault_read (split_last 32 w h) ∙ e

fault_two : (w v : List ℕ) (h : FaultHead) (x : GsFault) → Lacks 32 w → Lacks 32 v → fault_head w ≡ Some h → said_fault h v ≡ Some x → fault_read (split_on 32 (w ++ 32 ∷ v)) ≡ Some x
fault_two w v h x k l e f = ap fault_read (two_words w v k l) ∙ fault_by w v h x e f

field_read : (f : Field) → said_fault HParameter (field_text f) ≡ Some (fault.BadParameter f)
unfolding said_fault field_word field_text chosen ◌>>=◌
field_read field.Name = refl
field_read field.Value = refl
field_read field.Message = refl
field_read field.Targets = refl
field_read field.Subscription = refl

field_lacks : (f : Field) → Lacks 32 (field_text f)
unfolding field_text
field_lacks field.Name = lacks_by 32 (codes "name") refl
field_lacks field.Value = lacks_by 32 (codes "value") refl
field_lacks field.Message = lacks_by 32 (codes "message") refl
field_lacks field.Targets = lacks_by 32 (codes "targets") refl
field_lacks field.Subscription = lacks_by 32 (codes "subscription") refl

zero_is : (n : ℕ) → (n == 0) ≡ true → 0 ≡ n
zero_is n e = sym (grind (arith, nat_tests))

attr_fault_read : (f : AttrFault) → is_attr_fault f ≡ true → said_fault HAttributes (attr_fault_text f) ≡ Some (fault.BadGroupAttributes f)
unfolding said_fault attr_fault_word attr_fault_text is_attr_fault chosen ◌>>=◌
attr_fault_read (attr_fault.Limit n) e = ap (λ (m : ℕ). Some (fault.BadGroupAttributes (attr_fault.Limit m))) (zero_is n e)
attr_fault_read (attr_fault.SourceLimit n) e = ap (λ (m : ℕ). Some (fault.BadGroupAttributes (attr_fault.SourceLimit m))) (zero_is n e)
attr_fault_read attr_fault.Source e = refl

attr_fault_lacks : (f : AttrFault) → Lacks 32 (attr_fault_text f)
unfolding attr_fault_text
attr_fault_lacks (attr_fault.Limit n) = lacks_by 32 (codes "limit") refl
attr_fault_lacks (attr_fault.SourceLimit n) = lacks_by 32 (codes "slimit") refl
attr_fault_lacks attr_fault.Source = lacks_by 32 (codes "source") refl

pending_says : (r : ℕ) (w : List ℕ) → u32_word w ≡ Some r → said_fault HPending w ≡ Some (fault.Collide r)
unfolding said_fault ◌>>=◌
pending_says r w e = rw e refl

sessions_says : (n : ℕ) (w : List ℕ) → u32_word w ≡ Some n → said_fault HSessions w ≡ Some (fault.SessionsFull n)
unfolding said_fault ◌>>=◌
sessions_says n w e = rw e refl

pub fault_back : (x : GsFault) → is_fault x ≡ true → fault_read (split_on 32 (fault_text x)) ≡ Some x
unfolding is_fault fault_text plain_fault fault_head chosen
fault_back fault.NoInit e = fault_alone (codes "NO_INIT") fault.NoInit (lacks_by 32 (codes "NO_INIT") refl) refl
fault_back fault.Exists e = fault_alone (codes "EXISTS") fault.Exists (lacks_by 32 (codes "EXISTS") refl) refl
fault_back fault.NameTooLong e = fault_alone (codes "NAME_TOO_LONG") fault.NameTooLong (lacks_by 32 (codes "NAME_TOO_LONG") refl) refl
fault_back (fault.BadParameter f) e = fault_two (codes "BAD_PARAMETER") (field_text f) HParameter (fault.BadParameter f) (lacks_by 32 (codes "BAD_PARAMETER") refl) (field_lacks f) refl (field_read f)
fault_back fault.BadClientToken e = fault_alone (codes "BAD_CLIENT_TOKEN") fault.BadClientToken (lacks_by 32 (codes "BAD_CLIENT_TOKEN") refl) refl
fault_back fault.BadMemberToken e = fault_alone (codes "BAD_MEMBER_TOKEN") fault.BadMemberToken (lacks_by 32 (codes "BAD_MEMBER_TOKEN") refl) refl
fault_back fault.UnknownGroup e = fault_alone (codes "UNKNOWN_GROUP") fault.UnknownGroup (lacks_by 32 (codes "UNKNOWN_GROUP") refl) refl
fault_back (fault.BadGroupAttributes f) e = fault_two (codes "BAD_GROUP_ATTRIBUTES") (attr_fault_text f) HAttributes (fault.BadGroupAttributes f) (lacks_by 32 (codes "BAD_GROUP_ATTRIBUTES") refl) (attr_fault_lacks f) refl (attr_fault_read f e)
fault_back fault.VoteNotExpected e = fault_alone (codes "VOTE_NOT_EXPECTED") fault.VoteNotExpected (lacks_by 32 (codes "VOTE_NOT_EXPECTED") refl) refl
fault_back (fault.Collide r) e = fault_two (codes "COLLIDE") (decimal r) HPending (fault.Collide r) (lacks_by 32 (codes "COLLIDE") refl) (u32_lacks 32 r blank.0 e) refl (pending_says r (decimal r) (u32_read r e))
fault_back (fault.SessionsFull n) e = fault_two (codes "SESSIONS_FULL") (decimal n) HSessions (fault.SessionsFull n) (lacks_by 32 (codes "SESSIONS_FULL") refl) (u32_lacks 32 n blank.0 e) refl (sessions_says n (decimal n) (u32_read n e))
fault_back fault.Spent e = fault_alone (codes "SPENT") fault.Spent (lacks_by 32 (codes "SPENT") refl) refl
fault_back fault.NoMemory e = fault_alone (codes "NO_MEMORY") fault.NoMemory (lacks_by 32 (codes "NO_MEMORY") refl) refl
