-- What begins, by cases.
use Rattle.std.proofs.Common.{◌≡◌, ℕ, zero, suc, ◌-◌, ◌<◌, ◌≤◌, Bool, true, false, List, [], ◌∷◌, length, get_or, drop, Option, Some, None, refl, sym, ap, ◌∙◌, arith}
use Rattle.std.specs.Prelude.{fold, IsTrue, ◌↔◌}
use Rattle.rsct_packet.specs.declared.ids.ProviderId.{ProviderId}
use Rattle.rsct_packet.specs.declared.ids.ViewId.{ViewId}
use Rattle.rsct_packet.specs.Lists.{is_empty}
use Rattle.group_attr.specs.declared.attrs.Attrs.{Attrs}
use Rattle.proposal_core.specs.declared.proposal.Failure.{Failure}
use Rattle.proposal_core.specs.declared.proposal.Proposal.TheVariants.{Join, Fail, Reflect}
use Rattle.proposal_core.specs.declared.group_state.GroupState.{GroupState}
use Rattle.batch_rules.specs.Waiting.{batches_failures, chosen_of}
use Rattle.source_target.specs.declared.owed.Due.TheVariants as due
use Rattle.source_target.specs.Due as target
use Rattle.client_callbacks.specs.declared.votes.VoteItem.{VoteItem}
use Rattle.node_state.specs.declared.state.Core.{Core}
use Rattle.node_state.specs.State.{row_of, led_of, state_of, frozen}
use Rattle.node_state.specs.HandOn.{Answering}
use Rattle.node_state.specs.Leading.{begins}
use Rattle.node_state.specs.Deciding.{known_state}
use Rattle.node_state.specs.Ending.{Pass, quiet, begun_now, failures_begin, due_begins, source_begins, carried_len, joins_begin, or_due, or_joins, first_begins, group_begins, one_pass, passes, most_begun, end_step}
use Rattle.node_groups.specs.Keeps.{Keeps}
use Rattle.entry_delivery.specs.Received.{Handing}
use Rattle.entry_delivery.specs.Doing.{Joins, IsNothing, Does}
use Rattle.entry_delivery.proofs.DoingLaws.{joins_nothing, does_nothing, does_as}
use Rattle.group_leading.proofs.WorkLaws.{keeps_follows}
use Rattle.group_deciding.specs.Passing.{passed, DoesPass}
use Rattle.group_deciding.specs.BeginFailures.{of_members, failures_chosen, failures_taken}
use Rattle.group_deciding.specs.BeginJoins.{chosen_joins, chosen_attrs, sourced, unsourced, joins_chosen}
use Rattle.group_deciding.proofs.PassLaws.{pass_next, pass_then, pass_begins, pass_nothing, pass_after, pass_as}
use Rattle.group_deciding.proofs.TickLaws.{led_head, led_tail}

empty_where : {A : Type 0} (xs : List A) → length xs ≡ 0 → is_empty xs ≡ true
empty_where [] e = refl
empty_where (x ∷ xs) e = absurd (omega arith)

empty_told : {A : Type 0} (xs : List A) (r : Bool) → (IsTrue r ↔ (xs ≡ [])) → r ≡ true → is_empty xs ≡ true
empty_told xs r tells e = ap is_empty (tells.0 e)

filled_told : {A : Type 0} (xs : List A) (r : Bool) → (IsTrue r ↔ (xs ≡ [])) → r ≡ false → is_empty xs ≡ false
filled_told [] r tells e = let t : r ≡ true = tells.1 refl in absurd cc
filled_told (x ∷ xs) r tells e = refl

filled_where : {A : Type 0} (xs : List A) → (length xs ≡ 0 → ⊥) → is_empty xs ≡ false
filled_where [] ne = absurd (ne refl)
filled_where (x ∷ xs) ne = refl

-- ---- failures

failures_more : (n : ℕ) (f : Answering) (s : Core) (g : List ℕ) → is_empty (failures_chosen s g) ≡ true → failures_begin (suc n) f s g ≡ failures_begin n f (failures_taken s g) g
unfolding failures_begin failures_chosen of_members failures_taken
failures_more n f s g e =
    ap (λ (b : Bool). elim b [ true ↦ failures_begin n f (failures_taken s g) g | false ↦ begun_now (begins f (failures_taken s g) g (Fail (failures_chosen s g)) (state_of s g).attrs.phases) ]) e

failures_now : (n : ℕ) (f : Answering) (s : Core) (g : List ℕ) → is_empty (failures_chosen s g) ≡ false → failures_begin (suc n) f s g ≡ begun_now (begins f (failures_taken s g) g (Fail (failures_chosen s g)) (state_of s g).attrs.phases)
unfolding failures_begin failures_chosen of_members failures_taken
failures_now n f s g e =
    ap (λ (b : Bool). elim b [ true ↦ failures_begin n f (failures_taken s g) g | false ↦ begun_now (begins f (failures_taken s g) g (Fail (failures_chosen s g)) (state_of s g).attrs.phases) ]) e

pub failures_none : (scripts : List (Option (List (Option VoteItem)))) (P : List Handing → Type 0) → P [] → (s : Core) (g : List ℕ) (n : ℕ) → n ≡ 0 → DoesPass scripts P s s false (λ f. failures_begin n f s g)
unfolding failures_begin
failures_none scripts P p s g zero e = pass_nothing scripts P p s false
failures_none scripts P p s g (suc n) e = absurd (omega arith)

pub failures_on : (scripts : List (Option (List (Option VoteItem)))) (P : List Handing → Type 0) (s t u : Core) (b : Bool) (g : List ℕ) (n : ℕ) (out : List Failure) (r : Bool) → (n ≡ 0 → ⊥) → out ≡ failures_chosen s g → (IsTrue r ↔ (out ≡ [])) → r ≡ true → t ≡ failures_taken s g → Keeps s t
    → DoesPass scripts P t u b (λ f. failures_begin (n - 1) f t g) → DoesPass scripts P s u b (λ f. failures_begin n f s g)
failures_on scripts P s t u b g zero out r ne chosen tells none taken keeps next = absurd (ne refl)
failures_on scripts P s t u b g (suc n) out r ne chosen tells none taken keeps next =
    let one : suc n - 1 ≡ n = omega arith in
    let gone : is_empty (failures_chosen s g) ≡ true = ap is_empty (sym chosen) ∙ empty_told out r tells none in
    pass_as scripts P s u b (λ f. failures_begin (suc n - 1) f t g) (λ f. failures_begin (suc n) f s g)
    (λ f. ap (λ (m : ℕ). failures_begin m f t g) one ∙ (ap (λ (x : Core). failures_begin n f x g) taken ∙ sym (failures_more n f s g gone)))
    (pass_after scripts P s t u b _ (keeps_follows s t keeps) next)

pub failures_began : (scripts : List (Option (List (Option VoteItem)))) (P : List Handing → Type 0) (s t u : Core) (g : List ℕ) (n : ℕ) (st : GroupState) (out : List Failure) (r : Bool) → (n ≡ 0 → ⊥) → st ≡ state_of s g → out ≡ failures_chosen s g → (IsTrue r ↔ (out ≡ [])) → r ≡ false → t ≡ failures_taken s g → Keeps s t
    → Does scripts P t u (λ f. begins f t g (Fail out) st.attrs.phases) → DoesPass scripts P s u true (λ f. failures_begin n f s g)
failures_began scripts P s t u g zero st out r ne at chosen tells some taken keeps done = absurd (ne refl)
failures_began scripts P s t u g (suc n) st out r ne at chosen tells some taken keeps done =
    let there : is_empty (failures_chosen s g) ≡ false = ap is_empty (sym chosen) ∙ filled_told out r tells some in
    pass_as scripts P s u true (λ f. begun_now (begins f t g (Fail out) st.attrs.phases)) (λ f. failures_begin (suc n) f s g)
    (λ f.
    ap (λ (x : Core). begun_now (begins f x g (Fail out) st.attrs.phases)) taken
    ∙ (ap (λ (x : List Failure). begun_now (begins f (failures_taken s g) g (Fail x) st.attrs.phases)) chosen
    ∙ (ap (λ (x : GroupState). begun_now (begins f (failures_taken s g) g (Fail (failures_chosen s g)) x.attrs.phases)) at ∙ sym (failures_now n f s g there))))
    (pass_after scripts P s t u true _ (keeps_follows s t keeps) (pass_begins scripts P t u _ done))

-- ---- joins

-- a join of those who have a source
abbrev pub join_begun : Answering → Core → List ℕ → List ProviderId → Attrs → Pass
join_begun f t g ps a = begun_now (begins f t g (Join ps a (carried_len t a.source)) a.phases)

abbrev pub joiners : Core → List ℕ → List ProviderId
joiners s g = sourced s (chosen_attrs s g).source (chosen_joins s g)

joins_more : (n : ℕ) (f : Answering) (s : Core) (g : List ℕ) → is_empty (joiners s g) ≡ true → joins_begin (suc n) f s g ≡ joins_begin n f (joins_chosen s g) g
unfolding joins_begin sourced unsourced chosen_attrs chosen_joins joins_chosen
joins_more n f s g e =
    ap (λ (b : Bool). elim b [ true ↦ joins_begin n f (joins_chosen s g) g | false ↦ join_begun f (joins_chosen s g) g (joiners s g) (chosen_attrs s g) ]) e

joins_now : (n : ℕ) (f : Answering) (s : Core) (g : List ℕ) → is_empty (joiners s g) ≡ false → joins_begin (suc n) f s g ≡ join_begun f (joins_chosen s g) g (joiners s g) (chosen_attrs s g)
unfolding joins_begin sourced unsourced chosen_attrs chosen_joins joins_chosen
joins_now n f s g e =
    ap (λ (b : Bool). elim b [ true ↦ joins_begin n f (joins_chosen s g) g | false ↦ join_begun f (joins_chosen s g) g (joiners s g) (chosen_attrs s g) ]) e

pub joins_none : (scripts : List (Option (List (Option VoteItem)))) (P : List Handing → Type 0) → P [] → (s : Core) (g : List ℕ) (n : ℕ) → n ≡ 0 → DoesPass scripts P s s false (λ f. joins_begin n f s g)
unfolding joins_begin
joins_none scripts P p s g zero e = pass_nothing scripts P p s false
joins_none scripts P p s g (suc n) e = absurd (omega arith)

pub joins_on : (scripts : List (Option (List (Option VoteItem)))) (P : List Handing → Type 0) (s t u : Core) (b : Bool) (g : List ℕ) (n : ℕ) (ps : List ProviderId) → (n ≡ 0 → ⊥) → ps ≡ joiners s g → length ps ≡ 0 → t ≡ joins_chosen s g → Keeps s t
    → DoesPass scripts P t u b (λ f. joins_begin (n - 1) f t g) → DoesPass scripts P s u b (λ f. joins_begin n f s g)
joins_on scripts P s t u b g zero ps ne chosen none taken keeps next = absurd (ne refl)
joins_on scripts P s t u b g (suc n) ps ne chosen none taken keeps next =
    let one : suc n - 1 ≡ n = omega arith in
    let gone : is_empty (joiners s g) ≡ true = ap is_empty (sym chosen) ∙ empty_where ps none in
    pass_as scripts P s u b (λ f. joins_begin (suc n - 1) f t g) (λ f. joins_begin (suc n) f s g)
    (λ f. ap (λ (m : ℕ). joins_begin m f t g) one ∙ (ap (λ (x : Core). joins_begin n f x g) taken ∙ sym (joins_more n f s g gone)))
    (pass_after scripts P s t u b _ (keeps_follows s t keeps) next)

pub joins_began : (scripts : List (Option (List (Option VoteItem)))) (P : List Handing → Type 0) (s t u : Core) (g : List ℕ) (n : ℕ) (ps : List ProviderId) (a : Attrs) (len : Option ℕ) → (n ≡ 0 → ⊥) → ps ≡ joiners s g → a ≡ chosen_attrs s g → (length ps ≡ 0 → ⊥) → t ≡ joins_chosen s g → Keeps s t
    → len ≡ carried_len t a.source → Does scripts P t u (λ f. begins f t g (Join ps a len) a.phases) → DoesPass scripts P s u true (λ f. joins_begin n f s g)
joins_began scripts P s t u g zero ps a len ne chosen attrs some taken keeps carried done = absurd (ne refl)
joins_began scripts P s t u g (suc n) ps a len ne chosen attrs some taken keeps carried done =
    let there : is_empty (joiners s g) ≡ false = ap is_empty (sym chosen) ∙ filled_where ps some in
    pass_as scripts P s u true (λ f. begun_now (begins f t g (Join ps a len) a.phases)) (λ f. joins_begin (suc n) f s g)
    (λ f.
    ap (λ (x : Option ℕ). begun_now (begins f t g (Join ps a x) a.phases)) carried
    ∙ (ap (λ (x : Core). join_begun f x g ps a) taken
    ∙ (ap (λ (x : List ProviderId). join_begun f (joins_chosen s g) g x a) chosen
    ∙ (ap (λ (x : Attrs). join_begun f (joins_chosen s g) g (joiners s g) x) attrs ∙ sym (joins_now n f s g there)))))
    (pass_after scripts P s t u true _ (keeps_follows s t keeps) (pass_begins scripts P t u _ done))

-- ---- what is owed to a source

pub cast_out : (scripts : List (Option (List (Option VoteItem)))) (P : List Handing → Type 0) (s u : Core) (g h : List ℕ) (st : GroupState) (out chosen : List Failure) → target.due st (known_state s h) ≡ Some (due.CastOut out) → chosen ≡ chosen_of (batches_failures st.attrs.batch) out
    → Does scripts P s u (λ f. begins f s g (Fail chosen) st.attrs.phases) → DoesPass scripts P s u true (λ f. due_begins f s g st h (target.due st (known_state s h)))
unfolding due_begins
cast_out scripts P s u g h st out chosen owed picked done =
    pass_as scripts P s u true (λ f. begun_now (begins f s g (Fail chosen) st.attrs.phases)) (λ f. due_begins f s g st h (target.due st (known_state s h)))
    (λ f. ap (λ (x : List Failure). begun_now (begins f s g (Fail x) st.attrs.phases)) picked ∙ ap (due_begins f s g st h) (sym owed))
    (pass_begins scripts P s u _ done)

pub reflected : (scripts : List (Option (List (Option VoteItem)))) (P : List Handing → Type 0) (s u : Core) (g h : List ℕ) (st : GroupState) (v : ViewId) (i : ℕ) (value : List ℕ) → target.due st (known_state s h) ≡ Some (due.Reflect v i) → value ≡ (state_of s h).value
    → Does scripts P s u (λ f. begins f s g (Reflect v i value) st.attrs.source_phases) → DoesPass scripts P s u true (λ f. due_begins f s g st h (target.due st (known_state s h)))
unfolding due_begins
reflected scripts P s u g h st v i value owed read done =
    pass_as scripts P s u true (λ f. begun_now (begins f s g (Reflect v i value) st.attrs.source_phases)) (λ f. due_begins f s g st h (target.due st (known_state s h)))
    (λ f. ap (λ (x : List ℕ). begun_now (begins f s g (Reflect v i x) st.attrs.source_phases)) read ∙ ap (due_begins f s g st h) (sym owed))
    (pass_begins scripts P s u _ done)

pub source_owed : (scripts : List (Option (List (Option VoteItem)))) (P : List Handing → Type 0) (s u : Core) (b : Bool) (g h : List ℕ) (st : GroupState) → st ≡ state_of s g → st.attrs.source ≡ Some h → DoesPass scripts P s u b (λ f. due_begins f s g st h (target.due st (known_state s h)))
    → DoesPass scripts P s u b (λ f. source_begins f s g (state_of s g) (state_of s g).attrs.source)
unfolding source_begins
source_owed scripts P s u b g h st at source done =
    pass_as scripts P s u b (λ f. due_begins f s g st h (target.due st (known_state s h))) (λ f. source_begins f s g (state_of s g) (state_of s g).attrs.source)
    (λ f. ap (source_begins f s g st) (sym source) ∙ ap (λ (z : GroupState). source_begins f s g z z.attrs.source) at) done

-- ---- the first that begins in a group

pub due_began : (scripts : List (Option (List (Option VoteItem)))) (P : List Handing → Type 0) (s t : Core) (b : Bool) (g : List ℕ) → b ≡ true → DoesPass scripts P s t b (λ f. source_begins f s g (state_of s g) (state_of s g).attrs.source)
    → DoesPass scripts P s t true (λ f. or_joins f g (or_due f g (quiet s)))
unfolding or_due or_joins
due_began scripts P s t true g e first = pass_then scripts P IsNothing P (joins_nothing P) s t t true true (λ f. source_begins f s g (state_of s g) (state_of s g).attrs.source) (λ f p. or_joins f g p) first (pass_nothing scripts IsNothing refl t true)
due_began scripts P s t false g e first = absurd cc

pub due_joins : (scripts : List (Option (List (Option VoteItem)))) (P Q W : List Handing → Type 0) → Joins P Q W → (s t u : Core) (b c : Bool) (g : List ℕ) (n : ℕ) → b ≡ false → n ≡ length (led_of t g).waiting.joins
    → DoesPass scripts P s t b (λ f. source_begins f s g (state_of s g) (state_of s g).attrs.source) → DoesPass scripts Q t u c (λ f. joins_begin n f t g) → DoesPass scripts W s u c (λ f. or_joins f g (or_due f g (quiet s)))
unfolding or_due or_joins
due_joins scripts P Q W join s t u true c g n e many first next = absurd cc
due_joins scripts P Q W join s t u false c g n e many first next =
    pass_then scripts P Q W join s t u false c (λ f. source_begins f s g (state_of s g) (state_of s g).attrs.source) (λ f p. or_joins f g p) first
    (pass_as scripts Q t u c (λ f. joins_begin n f t g) (λ f. or_joins f g (passed t false)) (λ f. ap (λ (m : ℕ). joins_begin m f t g) many) next)

-- after the failures
abbrev pub failures_first : Answering → Core → List ℕ → Pass
failures_first f s g = or_joins f g (or_due f g (failures_begin (length (led_of s g).waiting.failures) f s g))

pub waiting_began : (scripts : List (Option (List (Option VoteItem)))) (P : List Handing → Type 0) (s t : Core) (b : Bool) (g : List ℕ) (n : ℕ) → b ≡ true → n ≡ length (led_of s g).waiting.failures → DoesPass scripts P s t b (λ f. failures_begin n f s g) → DoesPass scripts P s t true (λ f. failures_first f s g)
unfolding or_due or_joins
waiting_began scripts P s t true g n e many first =
    pass_as scripts P s t true (λ f. or_joins f g (or_due f g (failures_begin n f s g))) (λ f. failures_first f s g) (λ f. ap (λ (m : ℕ). or_joins f g (or_due f g (failures_begin m f s g))) many)
    (pass_then scripts P IsNothing P (joins_nothing P) s t t true true (λ f. failures_begin n f s g) (λ f p. or_joins f g (or_due f g p)) first (pass_nothing scripts IsNothing refl t true))
waiting_began scripts P s t false g n e many first = absurd cc

pub waiting_on : (scripts : List (Option (List (Option VoteItem)))) (P Q W : List Handing → Type 0) → Joins P Q W → (s t u : Core) (b c : Bool) (g : List ℕ) (n : ℕ) → b ≡ false → n ≡ length (led_of s g).waiting.failures → DoesPass scripts P s t b (λ f. failures_begin n f s g)
    → DoesPass scripts Q t u c (λ f. or_joins f g (or_due f g (quiet t))) → DoesPass scripts W s u c (λ f. failures_first f s g)
waiting_on scripts P Q W join s t u true c g n e many first next = absurd cc
waiting_on scripts P Q W join s t u false c g n e many first next =
    pass_as scripts W s u c (λ f. or_joins f g (or_due f g (failures_begin n f s g))) (λ f. failures_first f s g) (λ f. ap (λ (m : ℕ). or_joins f g (or_due f g (failures_begin m f s g))) many)
    (pass_then scripts P Q W join s t u false c (λ f. failures_begin n f s g) (λ f p. or_joins f g (or_due f g p)) first next)

-- ---- again and again in a group

pub group_none : (scripts : List (Option (List (Option VoteItem)))) (P : List Handing → Type 0) → P [] → (s : Core) (b : Bool) (g : List ℕ) (n : ℕ) → n ≡ 0 → DoesPass scripts P s s b (λ f. group_begins n f g (passed s b))
unfolding group_begins
group_none scripts P p s b g zero e = pass_nothing scripts P p s b
group_none scripts P p s b g (suc n) e = absurd (omega arith)

abbrev pub group_next : ℕ → Bool → Answering → List ℕ → Pass → Pass
group_next n b f g q = elim q.began [ true ↦ group_begins n f g q | false ↦ passed q.core b ]

pub group_ends : (scripts : List (Option (List (Option VoteItem)))) (P : List Handing → Type 0) (s t : Core) (b c : Bool) (g : List ℕ) (n : ℕ) → (n ≡ 0 → ⊥) → c ≡ false → DoesPass scripts P s t c (λ f. first_begins f s g (row_of s g)) → DoesPass scripts P s t b (λ f. group_begins n f g (passed s b))
unfolding group_begins
group_ends scripts P s t b c g zero ne e first = absurd (ne refl)
group_ends scripts P s t b true g (suc n) ne e first = absurd cc
group_ends scripts P s t b false g (suc n) ne e first = pass_then scripts P IsNothing P (joins_nothing P) s t t false b (λ f. first_begins f s g (row_of s g)) (λ f q. group_next n b f g q) first (pass_nothing scripts IsNothing refl t b)

pub group_on : (scripts : List (Option (List (Option VoteItem)))) (P Q W : List Handing → Type 0) → Joins P Q W → (s t u : Core) (b c d : Bool) (g : List ℕ) (n : ℕ) → (n ≡ 0 → ⊥) → c ≡ true → DoesPass scripts P s t c (λ f. first_begins f s g (row_of s g)) → DoesPass scripts Q t u d (λ f. group_begins (n - 1) f g (passed t true))
    → DoesPass scripts W s u d (λ f. group_begins n f g (passed s b))
unfolding group_begins
group_on scripts P Q W join s t u b c d g zero ne e first next = absurd (ne refl)
group_on scripts P Q W join s t u b false d g (suc n) ne e first next = absurd cc
group_on scripts P Q W join s t u b true d g (suc n) ne e first next =
    let one : suc n - 1 ≡ n = omega arith in
    pass_then scripts P Q W join s t u true d (λ f. first_begins f s g (row_of s g)) (λ f q. group_next n b f g q) first
    (pass_as scripts Q t u d (λ f. group_begins (suc n - 1) f g (passed t true)) (λ f. group_next n b f g (passed t true)) (λ f. ap (λ (m : ℕ). group_begins m f g (passed t true)) one) next)

-- ---- over the groups

abbrev pub each_begins : ℕ → Answering → Pass → List (List ℕ) → Pass
each_begins most f p names = fold (λ p g. group_begins most f g p) p names

pub head_rest : (xs : List (List ℕ)) (x : List ℕ) → 1 ≤ length xs → x ≡ get_or xs 0 x → xs ≡ x ∷ drop 1 xs
head_rest [] x le read = absurd (omega arith)
head_rest (y ∷ ys) x le read = ap (λ (z : List ℕ). z ∷ ys) (sym read)

pub each_none : (scripts : List (Option (List (Option VoteItem)))) (P : List Handing → Type 0) → P [] → (s : Core) (b : Bool) (most : ℕ) (names : List (List ℕ)) → length names < 1 → DoesPass scripts P s s b (λ f. each_begins most f (passed s b) names)
each_none scripts P p s b most [] e = pass_nothing scripts P p s b
each_none scripts P p s b most (g ∷ rest) e = absurd (omega arith)

pub each_on : (scripts : List (Option (List (Option VoteItem)))) (P Q W : List Handing → Type 0) → Joins P Q W → (s t u : Core) (b c d : Bool) (most : ℕ) (names : List (List ℕ)) (g : List ℕ) (rest : List (List ℕ)) → names ≡ g ∷ rest → DoesPass scripts P s t c (λ f. group_begins most f g (passed s b))
    → DoesPass scripts Q t u d (λ f. each_begins most f (passed t c) rest) → DoesPass scripts W s u d (λ f. each_begins most f (passed s b) names)
each_on scripts P Q W join s t u b c d most names g rest e first next =
    pass_as scripts W s u d (λ f. each_begins most f (group_begins most f g (passed s b)) rest) (λ f. each_begins most f (passed s b) names) (λ f. ap (each_begins most f (passed s b)) (sym e))
    (pass_then scripts P Q W join s t u c d (λ f. group_begins most f g (passed s b)) (λ f p. each_begins most f p rest) first next)

-- ---- pass after pass

pub passes_none : (scripts : List (Option (List (Option VoteItem)))) (P : List Handing → Type 0) → P [] → (s : Core) (n most : ℕ) → n ≡ 0 → Does scripts P s s (λ f. passes n most f s)
unfolding passes
passes_none scripts P p s zero most e = does_nothing scripts P s p
passes_none scripts P p s (suc n) most e = absurd (omega arith)

abbrev pub passes_next : ℕ → ℕ → Answering → Pass → Core
passes_next n most f p = elim p.began [ true ↦ passes n most f p.core | false ↦ p.core ]

pub passes_end : (scripts : List (Option (List (Option VoteItem)))) (P : List Handing → Type 0) (s t : Core) (b : Bool) (n most : ℕ) → (n ≡ 0 → ⊥) → b ≡ false → DoesPass scripts P s t b (λ f. one_pass most f s) → Does scripts P s t (λ f. passes n most f s)
unfolding passes
passes_end scripts P s t b zero most ne e first = absurd (ne refl)
passes_end scripts P s t true (suc n) most ne e first = absurd cc
passes_end scripts P s t false (suc n) most ne e first =
    pass_next scripts P IsNothing P (joins_nothing P) s t t false (λ f. one_pass most f s) (λ f p. passes_next n most f p) first (does_nothing scripts IsNothing t refl)

pub passes_on : (scripts : List (Option (List (Option VoteItem)))) (P Q W : List Handing → Type 0) → Joins P Q W → (s t u : Core) (b : Bool) (n most : ℕ) → (n ≡ 0 → ⊥) → b ≡ true → DoesPass scripts P s t b (λ f. one_pass most f s) → Does scripts Q t u (λ f. passes (n - 1) most f t)
    → Does scripts W s u (λ f. passes n most f s)
unfolding passes
passes_on scripts P Q W join s t u b zero most ne e first next = absurd (ne refl)
passes_on scripts P Q W join s t u false (suc n) most ne e first next = absurd cc
passes_on scripts P Q W join s t u true (suc n) most ne e first next =
    let one : suc n - 1 ≡ n = omega arith in
    pass_next scripts P Q W join s t u true (λ f. one_pass most f s) (λ f p. passes_next n most f p) first
    (does_as scripts Q t u (λ f. passes (suc n - 1) most f t) (λ f. passes_next n most f (passed t true)) (λ f. ap (λ (m : ℕ). passes m most f t) one) next)

-- a frozen node does nothing
pub ended_frozen : (scripts : List (Option (List (Option VoteItem)))) (P : List Handing → Type 0) → P [] → (s : Core) → frozen s ≡ true → Does scripts P s s (λ f. end_step f s)
unfolding end_step
ended_frozen scripts P p s e = does_as scripts P s s (λ f. s) (λ f. end_step f s) (λ f. led_head (frozen s) s (passes (most_begun s) (most_begun s) f s) e) (does_nothing scripts P s p)

-- a node that is not frozen goes on
pub ended_thawed : (scripts : List (Option (List (Option VoteItem)))) (P : List Handing → Type 0) (s t : Core) (most : ℕ) → frozen s ≡ false → most ≡ most_begun s → Does scripts P s t (λ f. passes most most f s) → Does scripts P s t (λ f. end_step f s)
unfolding end_step
ended_thawed scripts P s t most e counted done =
    does_as scripts P s t (λ f. passes most most f s) (λ f. end_step f s)
    (λ f. ap (λ n. passes n n f s) counted ∙ led_tail (frozen s) s (passes (most_begun s) (most_begun s) f s) e) done

-- nothing is owed
pub none_owed : (scripts : List (Option (List (Option VoteItem)))) (P : List Handing → Type 0) → P [] → (s : Core) (g h : List ℕ) (st : GroupState) → target.due st (known_state s h) ≡ None → DoesPass scripts P s s false (λ f. due_begins f s g st h (target.due st (known_state s h)))
unfolding due_begins
none_owed scripts P p s g h st e = rw e (pass_nothing scripts P p s false)

-- there is no source
pub none_due : (scripts : List (Option (List (Option VoteItem)))) (P : List Handing → Type 0) → P [] → (s : Core) (g : List ℕ) (st : GroupState) → st ≡ state_of s g → st.attrs.source ≡ None → DoesPass scripts P s s false (λ f. source_begins f s g (state_of s g) (state_of s g).attrs.source)
unfolding source_begins
none_due scripts P p s g st at e =
    let none : (state_of s g).attrs.source ≡ None = ap (λ (x : GroupState). x.attrs.source) (sym at) ∙ e in rw none (pass_nothing scripts P p s false)
