-- What the end of a step sends: a packet for each join that no longer waits, beside a hundred for each put.
use Rattle.std.proofs.Common.{◌≡◌, ◌≤◌, ℕ, zero, suc, ◌+◌, List, [], ◌∷◌, length, filter, fold, Some, None, Option, Bool, true, false, refl, ap, ◌∙◌, arith}
use Rattle.std.specs.Prelude.{not}
use Rattle.rsct_packet.specs.declared.ids.ProviderId.{ProviderId}
use Rattle.rsct_packet.specs.Lists.{is_empty}
use Rattle.rsct_packet.specs.Providers.{among}
use Rattle.group_attr.specs.declared.attrs.Attrs.{Attrs}
use Rattle.group_attr.specs.declared.attrs.Batch.{Batch}
use Rattle.proposal_core.specs.declared.proposal.Failure.{Failure}
use Rattle.proposal_core.specs.declared.proposal.Proposal.TheVariants.{Join, Fail, Reflect}
use Rattle.proposal_core.specs.declared.group_state.GroupState.{GroupState}
use Rattle.proposal_core.specs.Lists.{list_or_new}
use Rattle.batch_rules.specs.Waiting.{WaitingView, batches_joins, batches_failures, chosen_of, left_of, next_failures, failures_left, next_joins, joins_left}
use Rattle.source_target.specs.declared.Due.{Due}
use Rattle.source_target.specs.declared.Due.TheVariants as due
use Rattle.source_target.specs.Due as target
use Rattle.client_callbacks.specs.declared.told.Why.TheVariants.{NoSource}
use Rattle.node_state.specs.declared.group.GroupRow.{GroupRow}
use Rattle.node_state.specs.declared.state.Core.{Core}
use Rattle.node_state.specs.State.{row_of, with_row, with_led, led_of, state_of, frozen, led_groups}
use Rattle.node_state.specs.HandOn.{Answering}
use Rattle.node_state.specs.Leading.{with_waiting, begins}
use Rattle.node_state.specs.Deciding.{refused, known_state, lacks_source, source_len}
use Rattle.node_state.specs.Ending.{Pass, quiet, begun_now, failures_begin, due_begins, source_begins, attrs_for, carried_len, source_refused, joins_begin, or_due, or_joins, may_begin, first_begins, group_begins, one_pass, passes, most_begun, end_step}
use Rattle.send_laws.specs.Bound.{puts_of, waits_of, Stands}
use Rattle.send_laws.proofs.Counts.{kept_few, waits_with}
use Rattle.send_laws.proofs.Parts.{Goes, goes_same, then_free, fold_each}
use Rattle.send_laws.proofs.Leads.{goes_waits, goes_begins}
use Rattle.send_laws.proofs.Rules.{goes_refused}

goes_failures : (n : ℕ) (f : Answering) (s : Core) (g : List ℕ) → Stands s → Goes 0 s (failures_begin n f s g).core
unfolding failures_begin
goes_failures zero f s g k = goes_same s k
goes_failures (suc n) f s g k = by (is_empty out) (goes_failures n f t g a.stands)
  where
    st : GroupState
    st = state_of s g

    out : List Failure
    out = filter (λ (x : Failure). among st.members x.provider) (next_failures st.attrs.batch (led_of s g).waiting)

    t : Core
    t = with_waiting s g (failures_left st.attrs.batch)

    a : Goes 0 s t
    a = goes_waits s g (failures_left st.attrs.batch) (λ w. omega arith) k

    by : (b : Bool) → Goes 0 t (failures_begin n f t g).core → Goes 0 s (elim b as (λ _. Pass) [ true ↦ failures_begin n f t g | false ↦ begun_now (begins f t g (Fail out) st.attrs.phases) ]).core
    by true on = then_free 0 s t (failures_begin n f t g).core a on
    by false on = then_free 0 s t (begins f t g (Fail out) st.attrs.phases) a (goes_begins f t g (Fail out) st.attrs.phases a.stands)

goes_due : (f : Answering) (s : Core) (g : List ℕ) (st : GroupState) (h : List ℕ) (o : Option Due) → Stands s → Goes 0 s (due_begins f s g st h o).core
unfolding due_begins
goes_due f s g st h None k = goes_same s k
goes_due f s g st h (Some (due.CastOut out)) k =
    goes_begins f s g (Fail (chosen_of (batches_failures st.attrs.batch) out)) st.attrs.phases k
goes_due f s g st h (Some (due.Reflect v i)) k = goes_begins f s g (Reflect v i (state_of s h).value) st.attrs.source_phases k

goes_source : (f : Answering) (s : Core) (g : List ℕ) (st : GroupState) (source : Option (List ℕ)) → Stands s → Goes 0 s (source_begins f s g st source).core
unfolding source_begins
goes_source f s g st None k = goes_same s k
goes_source f s g st (Some h) k = goes_due f s g st h (target.due st (known_state s h)) k

-- ---- joins

goes_source_refused : (s : Core) (g : List ℕ) (source : Option (List ℕ)) (ps : List ProviderId) → Stands s → Goes (length ps) s (source_refused s g source ps)
unfolding source_refused
goes_source_refused s g source ps k =
    fold_each (λ t (p : ProviderId). refused t g p p.join (NoSource (source_len t source))) (λ t p h. goes_refused t g p p.join (NoSource (source_len t source)) h) ps s k

chosen_left : (b : Bool) (ps : List ProviderId) → length (chosen_of b ps) + length (left_of b ps) ≡ length ps
chosen_left true ps = omega arith
chosen_left false [] = refl
chosen_left false (p ∷ ps) = omega arith

-- the chosen joins no longer wait
joins_free : (s : Core) (g : List ℕ) (b : Batch) → Stands s → waits_of (with_waiting s g (joins_left b)).groups + length (next_joins b (led_of s g).waiting) ≤ waits_of s.groups
unfolding with_waiting with_led with_row led_of row_of
joins_free s g b k =
    omega (arith, waits_with g (λ row. record row { led = record (row.led) { waiting = joins_left b row.led.waiting } }) s.groups k.order, chosen_left (batches_joins b) (led_of s g).waiting.joins)

goes_joins_left : (s : Core) (g : List ℕ) (b : Batch) → Stands s → Goes 0 s (with_waiting s g (joins_left b))
goes_joins_left s g b k = goes_waits s g (joins_left b) (λ w. omega (arith, chosen_left (batches_joins b) w.joins)) k

same_sends : (s : Core) (g : List ℕ) (change : WaitingView → WaitingView) → ((with_waiting s g change).sends ≡ s.sends) × ((with_waiting s g change).records ≡ s.records)
unfolding with_waiting with_led with_row
same_sends s g change = (refl, refl)

goes_left_out : (s : Core) (g : List ℕ) (b : Batch) (source : Option (List ℕ)) (out : List ProviderId) → length out ≤ length (next_joins b (led_of s g).waiting) → Stands s → Goes 0 s (source_refused (with_waiting s g (joins_left b)) g source out)
goes_left_out s g b source out few k =
    let t : Core = with_waiting s g (joins_left b) in
    let a : Goes 0 s t = goes_joins_left s g b k in
    let r : Goes (length out) t (source_refused t g source out) = goes_source_refused t g source out a.stands in
    let e = same_sends s g (joins_left b) in
    let es : length t.sends ≡ length s.sends = ap length e.0 in
    let er : puts_of t.records ≡ puts_of s.records = ap puts_of e.1 in
    record {
      within = omega (arith, r.within, es, er, joins_free s g b k, few);
      stands = r.stands;
      views = r.views ∙ a.views;
      config = r.config ∙ a.config;
      lasts = λ h. r.lasts (a.lasts h);
    }

goes_joins : (n : ℕ) (f : Answering) (s : Core) (g : List ℕ) → Stands s → Goes 0 s (joins_begin n f s g).core
unfolding joins_begin
goes_joins zero f s g k = goes_same s k
goes_joins (suc n) f s g k = by (is_empty ps) (goes_joins n f t g x.stands)
  where
    st : GroupState
    st = state_of s g

    chosen : List ProviderId
    chosen = next_joins st.attrs.batch (led_of s g).waiting

    a : Attrs
    a = attrs_for st (led_of s g).join_attrs chosen

    ps : List ProviderId
    ps = filter (λ (p : ProviderId). not (lacks_source s a.source p.node)) chosen

    out : List ProviderId
    out = filter (λ (p : ProviderId). lacks_source s a.source p.node) chosen

    t : Core
    t = source_refused (with_waiting s g (joins_left st.attrs.batch)) g a.source out

    x : Goes 0 s t
    x = goes_left_out s g st.attrs.batch a.source out (kept_few (λ (p : ProviderId). lacks_source s a.source p.node) chosen) k

    by : (b : Bool) → Goes 0 t (joins_begin n f t g).core → Goes 0 s (elim b as (λ _. Pass) [ true ↦ joins_begin n f t g | false ↦ begun_now (begins f t g (Join ps a (carried_len t a.source)) a.phases) ]).core
    by true on = then_free 0 s t (joins_begin n f t g).core x on
    by false on =
        then_free 0 s t (begins f t g (Join ps a (carried_len t a.source)) a.phases) x (goes_begins f t g (Join ps a (carried_len t a.source)) a.phases x.stands)

-- ---- passes

goes_or_due : (f : Answering) (g : List ℕ) (p : Pass) → Stands p.core → Goes 0 p.core (or_due f g p).core
unfolding or_due
goes_or_due f g p k = by p.began
  where
    by : (b : Bool) → Goes 0 p.core (elim b as (λ _. Pass) [ true ↦ p | false ↦ source_begins f p.core g (state_of p.core g) (state_of p.core g).attrs.source ]).core
    by true = goes_same p.core k
    by false = goes_source f p.core g (state_of p.core g) (state_of p.core g).attrs.source k

goes_or_joins : (f : Answering) (g : List ℕ) (p : Pass) → Stands p.core → Goes 0 p.core (or_joins f g p).core
unfolding or_joins
goes_or_joins f g p k = by p.began
  where
    by : (b : Bool) → Goes 0 p.core (elim b as (λ _. Pass) [ true ↦ p | false ↦ joins_begin (length (led_of p.core g).waiting.joins) f p.core g ]).core
    by true = goes_same p.core k
    by false = goes_joins (length (led_of p.core g).waiting.joins) f p.core g k

goes_first : (f : Answering) (s : Core) (g : List ℕ) (row : GroupRow) → Stands s → Goes 0 s (first_begins f s g row).core
unfolding first_begins
goes_first f s g row k = by (may_begin (list_or_new row.list))
  where
    p : Pass
    p = failures_begin (length row.led.waiting.failures) f s g

    a : Goes 0 s p.core
    a = goes_failures (length row.led.waiting.failures) f s g k

    q : Pass
    q = or_due f g p

    b : Goes 0 p.core q.core
    b = goes_or_due f g p a.stands

    by : (c : Bool) → Goes 0 s (elim c as (λ _. Pass) [ false ↦ quiet s | true ↦ or_joins f g q ]).core
    by false = goes_same s k
    by true = then_free 0 s p.core (or_joins f g q).core a (then_free 0 p.core q.core (or_joins f g q).core b (goes_or_joins f g q b.stands))

goes_group : (n : ℕ) (f : Answering) (g : List ℕ) (p : Pass) → Stands p.core → Goes 0 p.core (group_begins n f g p).core
unfolding group_begins
goes_group zero f g p k = goes_same p.core k
goes_group (suc n) f g p k = by q.began (goes_group n f g q a.stands)
  where
    q : Pass
    q = first_begins f p.core g (row_of p.core g)

    a : Goes 0 p.core q.core
    a = goes_first f p.core g (row_of p.core g) k

    by : (b : Bool) → Goes 0 q.core (group_begins n f g q).core → Goes 0 p.core (elim b as (λ _. Pass) [ true ↦ group_begins n f g q | false ↦ record { core = q.core; began = p.began } ]).core
    by true on = then_free 0 p.core q.core (group_begins n f g q).core a on
    by false on = a

goes_groups : (most : ℕ) (f : Answering) (gs : List (List ℕ)) (p : Pass) → Stands p.core → Goes 0 p.core (fold (λ q g. group_begins most f g q) p gs).core
goes_groups most f [] p k = goes_same p.core k
goes_groups most f (g ∷ gs) p k =
    let q : Pass = group_begins most f g p in
    let a : Goes 0 p.core q.core = goes_group most f g p k in
    then_free 0 p.core q.core (fold (λ q g. group_begins most f g q) q gs).core a (goes_groups most f gs q a.stands)

goes_passes : (n most : ℕ) (f : Answering) (s : Core) → Stands s → Goes 0 s (passes n most f s)
unfolding passes one_pass
goes_passes zero most f s k = goes_same s k
goes_passes (suc n) most f s k = by p.began (goes_passes n most f p.core a.stands)
  where
    p : Pass
    p = one_pass most f s

    a : Goes 0 s p.core
    a = goes_groups most f (led_groups s) (quiet s) k

    by : (b : Bool) → Goes 0 p.core (passes n most f p.core) → Goes 0 s (elim b [ true ↦ passes n most f p.core | false ↦ p.core ])
    by true on = then_free 0 s p.core (passes n most f p.core) a on
    by false on = a

-- the end of a step is paid for by what it puts and by the joins that no longer wait
pub goes_ended : (f : Answering) (s : Core) → Stands s → Goes 0 s (end_step f s)
unfolding end_step
goes_ended f s k = by (frozen s)
  where
    by : (b : Bool) → Goes 0 s (elim b [ true ↦ s | false ↦ passes (most_begun s) (most_begun s) f s ])
    by true = goes_same s k
    by false = goes_passes (most_begun s) (most_begun s) f s k
