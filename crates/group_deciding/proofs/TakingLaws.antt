-- What taking out of a group's queue keeps, and what refusals leave as it is.
use Rattle.std.proofs.Common.{◌≡◌, ℕ, Bool, true, false, not, cond, List, [], ◌∷◌, length, Option, Some, None, refl, ap, ◌∙◌, subst, arith, ◌⊎◌, inl, inr}
use Rattle.std.specs.Prelude.{filter, fold, ◌&&◌, ◌||◌, ◌≤◌}
use Rattle.rsct_packet.specs.declared.ids.ProviderId.{ProviderId}
use Rattle.rsct_packet.specs.Providers.{same_provider, among, differ, AreProviders}
use Rattle.group_attr.specs.declared.attrs.Attrs.{Attrs}
use Rattle.proposal_core.specs.declared.group_state.GroupState.{GroupState}
use Rattle.batch_rules.specs.Waiting.{WaitingView, next_joins, joins_left}
use Rattle.client_callbacks.specs.declared.told.Why.TheVariants.{NoSource}
use Rattle.node_state.specs.declared.group.GroupRow.{GroupRow}
use Rattle.node_state.specs.declared.state.Core.{Core}
use Rattle.node_state.specs.State.{InNameOrder, row_of, with_led, led_of, state_of}
use Rattle.node_state.specs.Leading.{with_waiting}
use Rattle.node_state.specs.Deciding.{refused, known_state, lacks_source, source_len}
use Rattle.node_state.specs.Ending.{attrs_for, source_refused}
use Rattle.node_groups.specs.Keeps.{Keeps}
use Rattle.node_groups.proofs.KeepLaws.{keeps_itself, keeps_then, keeps_as, led_keeps}
use Rattle.node_state.proofs.NameOrder.{cases_text, row_here, row_there}
use Rattle.group_deciding.proofs.RefusingLaws.{refused_keeps}
use Rattle.group_deciding.specs.BeginJoins.{chosen_joins, chosen_attrs, sourced, unsourced, joins_chosen}

pub waiting_keeps : (s t : Core) (g : List ℕ) (change : WaitingView → WaitingView) → t ≡ with_waiting s g change → Keeps s t
unfolding with_waiting
waiting_keeps s t g change e = keeps_as s (with_waiting s g change) t e (led_keeps s g _)

-- ---- refusals for want of a source

each_keeps : (s : Core) (g : List ℕ) (source : Option (List ℕ)) (ps : List ProviderId) → Keeps s (fold (λ t (p : ProviderId). refused t g p p.join (NoSource (source_len t source))) s ps)
each_keeps s g source [] = keeps_itself s
each_keeps s g source (p ∷ ps) =
    let t : Core = refused s g p p.join (NoSource (source_len s source)) in
    keeps_then s t _ (refused_keeps s t g p p.join (NoSource (source_len s source)) refl) (each_keeps t g source ps)

pub unsourced_keeps : (s : Core) (g : List ℕ) (source : Option (List ℕ)) (ps : List ProviderId) → Keeps s (source_refused s g source ps)
unfolding source_refused
unsourced_keeps s g source ps = each_keeps s g source ps

-- ---- what waits says nothing of the lists

list_same : (s : Core) (g h : List ℕ) (change : WaitingView → WaitingView) → InNameOrder s.groups → (row_of (with_waiting s g change) h).list ≡ (row_of s h).list
unfolding with_waiting with_led
list_same s g h change o = by (cases_text g h)
  where
    by : (g ≡ h) ⊎ (g ≡ h → ⊥) → (row_of (with_waiting s g change) h).list ≡ (row_of s h).list
    by (inl e) = subst (λ (k : List ℕ). (row_of (with_waiting s g change) k).list ≡ (row_of s k).list) e (ap (λ (x : GroupRow). x.list) (row_here g _ (λ x. refl) s o))
    by (inr ne) = ap (λ (x : GroupRow). x.list) (row_there g _ (λ x. refl) s h ne)

lacks_same : (s : Core) (g : List ℕ) (change : WaitingView → WaitingView) (source : Option (List ℕ)) (n : ℕ) → InNameOrder s.groups → lacks_source (with_waiting s g change) source n ≡ lacks_source s source n
unfolding lacks_source known_state
lacks_same s g change None n o = refl
lacks_same s g change (Some h) n o = rw (list_same s g h change o) refl

attrs_same : (s : Core) (g : List ℕ) (change : WaitingView → WaitingView) → InNameOrder s.groups → (row_of (with_waiting s g change) g).led.join_attrs ≡ (row_of s g).led.join_attrs
unfolding with_waiting with_led
attrs_same s g change o = ap (λ (x : GroupRow). x.led.join_attrs) (row_here g _ (λ x. refl) s o)

filter_same : {X : Type 0} (f h : X → Bool) (same : (x : X) → f x ≡ h x) (xs : List X) → filter f xs ≡ filter h xs
filter_same f h same [] = refl
filter_same f h same (x ∷ xs) = rw (same x, filter_same f h same xs) refl

sourced_same : (s : Core) (g : List ℕ) (change : WaitingView → WaitingView) (source : Option (List ℕ)) (ps : List ProviderId) → InNameOrder s.groups → sourced (with_waiting s g change) source ps ≡ sourced s source ps
unfolding sourced
sourced_same s g change source ps o = filter_same _ _ (λ p. ap not (lacks_same s g change source p.node o)) ps

unsourced_same : (s : Core) (g : List ℕ) (change : WaitingView → WaitingView) (source : Option (List ℕ)) (ps : List ProviderId) → InNameOrder s.groups → unsourced (with_waiting s g change) source ps ≡ unsourced s source ps
unfolding unsourced
unsourced_same s g change source ps o = filter_same _ _ (λ p. lacks_same s g change source p.node o) ps

-- ---- what is read once the joins are taken out

pub attrs_taken : (s t : Core) (g : List ℕ) (st : GroupState) (ps : List ProviderId) (a : Attrs) → InNameOrder s.groups → st ≡ state_of s g → t ≡ with_waiting s g (joins_left st.attrs.batch)
    → ps ≡ next_joins st.attrs.batch (led_of s g).waiting → a ≡ attrs_for st (led_of t g).join_attrs ps → a ≡ chosen_attrs s g
unfolding chosen_attrs chosen_joins led_of
attrs_taken s t g st ps a o at taken chosen read =
    let kept : (row_of t g).led.join_attrs ≡ (row_of s g).led.join_attrs = ap (λ (x : Core). (row_of x g).led.join_attrs) taken ∙ attrs_same s g _ o in
    read ∙ cc

pub sourced_taken : (s t : Core) (g : List ℕ) (st : GroupState) (ps v : List ProviderId) (a : Attrs) → InNameOrder s.groups → st ≡ state_of s g → t ≡ with_waiting s g (joins_left st.attrs.batch)
    → ps ≡ next_joins st.attrs.batch (led_of s g).waiting → a ≡ chosen_attrs s g → v ≡ sourced t a.source ps → v ≡ sourced s (chosen_attrs s g).source (chosen_joins s g)
unfolding chosen_joins
sourced_taken s t g st ps v a o at taken chosen attrs read =
    let same = sourced_same s g (joins_left st.attrs.batch) a.source ps o in
    read ∙ (ap (λ (x : Core). sourced x a.source ps) taken ∙ (same ∙ cc))

pub joins_taken : (s t u : Core) (g : List ℕ) (st : GroupState) (ps out : List ProviderId) (a : Attrs) → InNameOrder s.groups → st ≡ state_of s g → t ≡ with_waiting s g (joins_left st.attrs.batch)
    → ps ≡ next_joins st.attrs.batch (led_of s g).waiting → a ≡ chosen_attrs s g → out ≡ unsourced t a.source ps → u ≡ source_refused t g a.source out → u ≡ joins_chosen s g
unfolding joins_chosen chosen_joins
joins_taken s t u g st ps out a o at taken chosen attrs read done =
    let same = unsourced_same s g (joins_left st.attrs.batch) a.source ps o in
    let refused : out ≡ unsourced s a.source ps = read ∙ (ap (λ (x : Core). unsourced x a.source ps) taken ∙ same) in
    done ∙ cc

pub joins_keep : (s : Core) (g : List ℕ) → Keeps s (joins_chosen s g)
unfolding joins_chosen
joins_keep s g = keeps_then s _ _ (waiting_keeps s _ g _ refl) (unsourced_keeps _ g _ _)

-- ---- some of those that differ

or_false : (a b : Bool) → (a || b) ≡ false → (a ≡ false) × (b ≡ false)
or_false true b e = absurd cc
or_false false b e = (refl, e)

none_of_some : (f : ProviderId → Bool) (xs : List ProviderId) (q : ProviderId) → among xs q ≡ false → among (filter f xs) q ≡ false
none_of_some f [] q h = refl
none_of_some f (x ∷ xs) q h =
    let parts = or_false (same_provider x q) (among xs q) h in
    elim (f x) as (λ b. among (cond b (x ∷ filter f xs) (filter f xs)) q ≡ false) [ true ↦ rw parts.0 (none_of_some f xs q parts.1) | false ↦ none_of_some f xs q parts.1 ]

both : (m d : Bool) → (not m && d) ≡ true → (m ≡ false) × (d ≡ true)
both true d e = absurd cc
both false d e = (refl, e)

differ_head : (keep : Bool) (x : ProviderId) (xs ys : List ProviderId) → (not (among xs x) && differ xs) ≡ true → (among xs x ≡ false → among ys x ≡ false) → (differ xs ≡ true → differ ys ≡ true) → differ (cond keep (x ∷ ys) ys) ≡ true
differ_head true x xs ys h none rest = let parts = both (among xs x) (differ xs) h in rw (none parts.0, rest parts.1) refl
differ_head false x xs ys h none rest = rest (both (among xs x) (differ xs) h).1

some_differ : (f : ProviderId → Bool) (xs : List ProviderId) → differ xs ≡ true → differ (filter f xs) ≡ true
some_differ f [] h = refl
some_differ f (x ∷ xs) h = differ_head (f x) x xs (filter f xs) h (none_of_some f xs x) (some_differ f xs)

fewer : (f : ProviderId → Bool) (xs : List ProviderId) → length (filter f xs) ≤ length xs
fewer f [] = omega arith
fewer f (x ∷ xs) =
    let h = fewer f xs in elim (f x) as (λ b. length (cond b (x ∷ filter f xs) (filter f xs)) ≤ length (x ∷ xs)) [ true ↦ omega arith | false ↦ omega arith ]

pub sourced_apart : (s : Core) (source : Option (List ℕ)) (ps : List ProviderId) → AreProviders ps → AreProviders (sourced s source ps)
unfolding sourced
sourced_apart s source ps a = record { few = omega (arith, fewer (λ (p : ProviderId). not (lacks_source s source p.node)) ps, a.few); apart = some_differ _ ps a.apart }
