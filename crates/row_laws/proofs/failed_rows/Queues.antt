-- Who is on the failed list as long as it is a member: what entries make of that, where no join begins.
use Rattle.std.proofs.Common.{◌≡◌, ℕ, List, [], ◌∷◌, Option, Some, None, Bool, true, false, refl, sym, subst}
use Rattle.std.specs.Prelude.{not, ◌&&◌, ◌||◌, is_none}
use Rattle.std.proofs.lemmas.Bool.{and_parts}
use Rattle.rsct_packet.specs.declared.ids.ViewId.{ViewId}
use Rattle.rsct_packet.specs.declared.ids.ProviderId.{ProviderId}
use Rattle.rsct_packet.specs.Providers.{among}
use Rattle.rsct_packet.proofs.ProviderLaws.{among_without}
use Rattle.proposal_core.proofs.FoldLaws.{among_both}
use Rattle.group_attr.specs.declared.attrs.Attrs.{Attrs}
use Rattle.proposal_core.specs.declared.proposal.Proposal.{Proposal}
use Rattle.proposal_core.specs.declared.proposal.Proposal.TheVariants.{Join, Leave, Fail, Expel, State, Message, Attributes, Reflect}
use Rattle.proposal_core.specs.declared.entry.Entry.{Entry}
use Rattle.proposal_core.specs.declared.entry.Entry.TheVariants.{Once, Begin, Phase, Approve, Reject, Late}
use Rattle.proposal_core.specs.declared.group_state.GroupState.{GroupState}
use Rattle.proposal_core.specs.declared.group_state.Running.{Running}
use Rattle.proposal_core.specs.Fold.{joins_of, joiners_in, fallen_of, can_begin, fits, without, effect, first_attrs, take_attrs, begun, replace_proposed, take_value, approve, take_rejection, reject, advance, next_phase, apply, after_if, after}

-- two of three: it failed, it is no member, it is no joiner
abbrev pub most : Bool → Bool → Bool → Bool
most f m j = (f && not j) || (not m && (f || not j))

abbrev pub Stays : GroupState → ProviderId → Bool
Stays st p = most (among st.failed p) (among st.members p) (among (joiners_in st.running) p)

-- ---- lists of providers

-- ---- tests

-- without some
taken_off : (f m o : Bool) → most f m false ≡ true → most (f && not o) (m && not o) false ≡ true
taken_off true m true k = by m
  where
    by : (m : Bool) → most false (m && false) false ≡ true
    by true = refl
    by false = refl
taken_off true m false k = refl
taken_off false true o k = absurd (cc)
taken_off false false o k = refl

-- joiners become members
joined_in : (f m j : Bool) → most f m j ≡ true → most f (m || j) false ≡ true
joined_in true m j k = refl
joined_in false true true k = absurd (cc)
joined_in false true false k = absurd (cc)
joined_in false false true k = absurd (cc)
joined_in false false false k = refl

-- joiners are taken off the failed list
joined_not : (f m j : Bool) → most f m j ≡ true → most (f && not j) m false ≡ true
joined_not true true true k = absurd (cc)
joined_not true true false k = refl
joined_not true false true k = refl
joined_not true false false k = refl
joined_not false true true k = absurd (cc)
joined_not false true false k = absurd (cc)
joined_not false false true k = refl
joined_not false false false k = refl

-- ---- entries

-- what bears on it
record Like (s t : GroupState) : Type 0 where
  failed : t.failed ≡ s.failed
  members : t.members ≡ s.members

like_most : (s t : GroupState) (p : ProviderId) (j : Bool) → Like s t → most (among s.failed p) (among s.members p) j ≡ true → most (among t.failed p) (among t.members p) j ≡ true
like_most s t p j k h = subst (λ (z : List ProviderId × List ProviderId). most (among z.0 p) (among z.1 p) j ≡ true) (λ i. (sym k.failed i, sym k.members i)) h

valued_like : (s : GroupState) (v : ViewId) (i : ℕ) (o : Option (List ℕ)) → Like s (take_value s v i o)
unfolding take_value
valued_like s v i None = record { failed = refl; members = refl }
valued_like s v i (Some b) = record { failed = refl; members = refl }

valued_running : (s : GroupState) (v : ViewId) (i : ℕ) (o : Option (List ℕ)) → (take_value s v i o).running ≡ s.running
unfolding take_value
valued_running s v i None = refl
valued_running s v i (Some b) = refl

-- nothing runs any more
abbrev Idle : GroupState → ProviderId → Type 0
Idle s p = Stays s p ≡ true

without_stays : (s : GroupState) (ps : List ProviderId) (p : ProviderId) → s.running ≡ None → most (among s.failed p) (among s.members p) false ≡ true → Idle (without s ps) p
unfolding without
without_stays s ps p idle k =
    subst (λ (z : Bool × Bool × Option Running). most z.0 z.1 (among (joiners_in z.2) p) ≡ true) (λ i. (sym (among_without ps s.failed p) i, sym (among_without ps s.members p) i, sym idle i)) (taken_off (among s.failed p) (among s.members p) (among ps p) k)

same_stays : (s : GroupState) (p : ProviderId) → s.running ≡ None → most (among s.failed p) (among s.members p) false ≡ true → Idle s p
same_stays s p idle k = subst (λ (z : Option Running). most (among s.failed p) (among s.members p) (among (joiners_in z) p) ≡ true) (sym idle) k

-- an approval's effect, where the joiners of the proposal are j
effect_stays : (s : GroupState) (x : Proposal) (p : ProviderId) → s.running ≡ None → most (among s.failed p) (among s.members p) (among (joins_of x) p) ≡ true → Idle (effect s x) p
unfolding effect
effect_stays s (Join ps attrs n) p idle k =
    subst (λ (z : Bool × Option Running). most (among s.failed p) z.0 (among (joiners_in z.1) p) ≡ true) (λ i. (sym (among_both s.members ps p) i, sym idle i)) (joined_in (among s.failed p) (among s.members p) (among ps p) k)
effect_stays s (Leave q r) p idle k = without_stays s (q ∷ []) p idle k
effect_stays s (Fail out) p idle k = without_stays s (fallen_of out) p idle k
effect_stays s (Expel q r out) p idle k = without_stays s out p idle k
effect_stays s (State q r value) p idle k = same_stays s p idle k
effect_stays s (Message q r bytes) p idle k = same_stays s p idle k
effect_stays s (Attributes q r attrs) p idle k = same_stays s p idle k
effect_stays s (Reflect v i value) p idle k = same_stays s p idle k

rejection_stays : (s : GroupState) (x : Proposal) (p : ProviderId) → s.running ≡ None → most (among s.failed p) (among s.members p) (among (joins_of x) p) ≡ true → Idle (take_rejection s x) p
unfolding take_rejection
rejection_stays s (Join ps attrs n) p idle k =
    subst (λ (z : Bool × Option Running). most z.0 (among s.members p) (among (joiners_in z.1) p) ≡ true) (λ i. (sym (among_without ps s.failed p) i, sym idle i)) (joined_not (among s.failed p) (among s.members p) (among ps p) k)
rejection_stays s (Leave q r) p idle k = same_stays s p idle k
rejection_stays s (Fail out) p idle k = without_stays s (fallen_of out) p idle k
rejection_stays s (Expel q r out) p idle k = same_stays s p idle k
rejection_stays s (State q r value) p idle k = same_stays s p idle k
rejection_stays s (Message q r bytes) p idle k = same_stays s p idle k
rejection_stays s (Attributes q r attrs) p idle k = same_stays s p idle k
rejection_stays s (Reflect v i value) p idle k = same_stays s p idle k

stays_valued : (s : GroupState) (v : ViewId) (i : ℕ) (o : Option (List ℕ)) (p : ProviderId) → Idle s p → Idle (take_value s v i o) p
unfolding take_value
stays_valued s v i None p k = k
stays_valued s v i (Some b) p k = k

approved_stays : (s : GroupState) (v : ViewId) (i : ℕ) (value : Option (List ℕ)) (run : Option Running) (p : ProviderId) → s.running ≡ run → Stays s p ≡ true → Stays (approve s v i value run) p ≡ true
unfolding approve
approved_stays s v i value None p e k = k
approved_stays s v i value (Some run) p e k =
    stays_valued (effect (record s { running = None }) run.proposal) v i (replace_proposed value run.proposed) p (effect_stays (record s { running = None }) run.proposal p refl (subst (λ z. most (among s.failed p) (among s.members p) (among (joiners_in z) p) ≡ true) e k))

rejected_stays : (s : GroupState) (run : Option Running) (p : ProviderId) → s.running ≡ run → Stays s p ≡ true → Stays (reject s run) p ≡ true
unfolding reject
rejected_stays s None p e k = k
rejected_stays s (Some run) p e k =
    rejection_stays (record s { running = None }) run.proposal p refl (subst (λ z. most (among s.failed p) (among s.members p) (among (joiners_in z) p) ≡ true) e k)

phase_stays : (s : GroupState) (value : Option (List ℕ)) (run : Option Running) (p : ProviderId) → s.running ≡ run → Stays s p ≡ true → Stays (next_phase s value run) p ≡ true
unfolding next_phase advance
phase_stays s value None p e k = k
phase_stays s value (Some run) p e k = subst (λ z. most (among s.failed p) (among s.members p) (among (joiners_in z) p) ≡ true) e k

attrs_like : (s : GroupState) (o : Option Attrs) → Like s (take_attrs s o)
unfolding take_attrs
attrs_like s None = record { failed = refl; members = refl }
attrs_like s (Some a) = record { failed = refl; members = refl }

begun_stays : (s : GroupState) (v : ViewId) (i : ℕ) (x : Proposal) (p : ProviderId) → s.running ≡ None → joins_of x ≡ [] → Stays s p ≡ true → Stays (begun s v i x) p ≡ true
unfolding begun
begun_stays s v i x p idle none k =
    subst (λ z. most (among (take_attrs s (first_attrs s x)).failed p) (among (take_attrs s (first_attrs s x)).members p) (among z p) ≡ true) (sym none) (like_most s (take_attrs s (first_attrs s x)) p false (attrs_like s (first_attrs s x)) (subst (λ z. most (among s.failed p) (among s.members p) (among (joiners_in z) p) ≡ true) idle k))

-- no join begins
abbrev pub BringsNone : Entry → Type 0
BringsNone (Once x) = joins_of x ≡ []
BringsNone (Begin x) = joins_of x ≡ []
BringsNone _ = Unit {0}

none_is : {A : Type 0} (o : Option A) → is_none o ≡ true → o ≡ None
none_is None e = refl
none_is (Some x) e = absurd (cc)

idle_of : (s : GroupState) (x : Proposal) → (is_none s.running && can_begin s x) ≡ true → s.running ≡ None
idle_of s x e = none_is s.running (and_parts (is_none s.running) (can_begin s x) e).0

applied_stays : (s : GroupState) (v : ViewId) (i : ℕ) (e : Entry) (p : ProviderId) → fits s e ≡ true → BringsNone e → Stays s p ≡ true → Stays (apply s v i e) p ≡ true
unfolding apply fits
applied_stays s v i (Once x) p f none k =
    approved_stays (begun s v i x) v i None (begun s v i x).running p refl (begun_stays s v i x p (idle_of s x f) none k)
applied_stays s v i (Begin x) p f none k = begun_stays s v i x p (idle_of s x f) none k
applied_stays s v i (Phase c) p f none k = phase_stays s c.value s.running p refl k
applied_stays s v i (Approve c) p f none k = approved_stays s v i c.value s.running p refl k
applied_stays s v i (Reject c) p f none k = rejected_stays s s.running p refl k
applied_stays s v i (Late proto phase ps) p f none k = k

pub stays_after : (s : GroupState) (v : ViewId) (i : ℕ) (e : Entry) (p : ProviderId) → fits s e ≡ true → BringsNone e → Stays s p ≡ true → Stays (after s v i e) p ≡ true
unfolding after after_if
stays_after s v i e p f none k = subst (λ b. Stays (after_if s v i e b) p ≡ true) (sym f) (applied_stays s v i e p f none k)

-- a member that waits as one who died is on the failed list
pub stays_failed : (st : GroupState) (p : ProviderId) → Stays st p ≡ true → among st.members p ≡ true → among st.failed p ≡ true
stays_failed st p k m = by (among st.failed p) (among st.members p) (among (joiners_in st.running) p) k m
  where
    by : (f m j : Bool) → most f m j ≡ true → m ≡ true → f ≡ true
    by true m j k e = refl
    by false true true k e = absurd (cc)
    by false true false k e = absurd (cc)
    by false false j k e = absurd (cc)

-- who is on it, and no joiner, stays
pub failed_stays : (st : GroupState) (p : ProviderId) → among st.failed p ≡ true → among (joiners_in st.running) p ≡ false → Stays st p ≡ true
failed_stays st p f j = by (among st.failed p) (among st.members p) (among (joiners_in st.running) p) f j
  where
    by : (f m j : Bool) → f ≡ true → j ≡ false → most f m j ≡ true
    by true m true f j = absurd (cc)
    by true m false f j = refl
    by false m j f k = absurd (cc)
