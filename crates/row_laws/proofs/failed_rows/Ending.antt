-- What a leader decides, and what begins at the end of a step.
use Rattle.std.proofs.Common.{◌≡◌, ℕ, zero, suc, ◌≤◌, List, [], ◌∷◌, length, Option, Some, None, Bool, true, false, refl, sym, ap, ◌∙◌, subst, inl, inr, ⊎_elim, ◌⊎◌, arith}
use Rattle.std.specs.Prelude.{not, length, fold, filter}
use Rattle.rsct_packet.specs.declared.ids.ProviderId.{ProviderId}
use Rattle.rsct_packet.specs.Lists.{is_empty}
use Rattle.rsct_packet.specs.Providers.{among, same_provider}
use Rattle.rsct_packet.specs.Search.{Has}
use Rattle.rsct_packet.proofs.HasLaws.{has_filter}
use Rattle.group_attr.specs.declared.attrs.Attrs.{Attrs}
use Rattle.group_attr.specs.declared.attrs.Batch.{Batch}
use Rattle.group_attr.specs.declared.attrs.Phases.{Phases}
use Rattle.proposal_core.specs.declared.proposal.Cause.{Cause}
use Rattle.proposal_core.specs.declared.proposal.Cause.TheVariants.{Died, Gone, Cast}
use Rattle.proposal_core.specs.declared.proposal.Failure.{Failure}
use Rattle.proposal_core.specs.declared.proposal.Proposal.{Proposal}
use Rattle.proposal_core.specs.declared.proposal.Proposal.TheVariants.{Join, Fail, Reflect}
use Rattle.proposal_core.specs.declared.group_state.GroupState.{GroupState}
use Rattle.proposal_core.specs.Fold.{joins_of}
use Rattle.proposal_core.specs.Lists.{list_or_new, state_in}
use Rattle.batch_rules.specs.Waiting.{WaitingView, batches_failures, chosen_of, next_failures, failures_left, next_joins, joins_left, waits_join}
use Rattle.source_target.specs.declared.Due.{Due}
use Rattle.source_target.specs.declared.Due.TheVariants as due
use Rattle.source_target.specs.Due as target
use Rattle.client_callbacks.specs.declared.told.Why.{Why}
use Rattle.client_callbacks.specs.declared.told.Why.TheVariants.{NoSource}
use Rattle.session_state.specs.HandOn.{is_dissolved}
use Rattle.node_state.specs.declared.group.Decision.{Decision}
use Rattle.node_state.specs.declared.group.GroupRow.{GroupRow}
use Rattle.node_state.specs.declared.packet.Body.TheVariants as body
use Rattle.node_state.specs.declared.state.Core.{Core}
use Rattle.node_state.specs.State.{InNameOrder, row_of, with_row, with_led, led_of, list_of, state_of, frozen, led_groups, decisions_with}
use Rattle.node_state.specs.Sending.{sent, send_on}
use Rattle.node_state.specs.HandOn.{Answering}
use Rattle.node_state.specs.Leading.{with_waiting, begins}
use Rattle.node_state.specs.Deciding.{keep_decision, refused, known_state, lacks_source, source_len, is_idle_empty, join_refusal, keep_attrs, wait_join, decide_join, other_refusal, decide_change, decided}
use Rattle.node_state.specs.Ending.{Pass, quiet, begun_now, failures_begin, due_begins, source_begins, attrs_for, carried_len, source_refused, joins_begin, or_due, or_joins, may_begin, first_begins, group_begins, one_pass, passes, most_begun, end_step}
use Rattle.run_safety.specs.Past.{History}
use Rattle.step_walk.proofs.Changes.{Fairly}
use Rattle.step_walk.proofs.Packets.{join_fair, other_fair}
use Rattle.node_state.proofs.NameOrder.{row_here, rows_ordered, led_are_led}
use Rattle.row_laws.proofs.honest_votes.At.{found, leads_row, leads_is}
use Rattle.row_laws.proofs.honest_votes.Changes.{Every, NoGroup}
use Rattle.row_laws.specs.failed_rows.Failures.{GoneCause, CauseHolds, LeavesFail}
use Rattle.row_laws.proofs.failed_rows.Queues.{stays_failed}
use Rattle.row_laws.proofs.failed_rows.Waiting.{chosen_has, left_has, left_fewer, none_left}
use Rattle.row_laws.proofs.failed_rows.Casts.{due_casts}
use Rattle.row_laws.proofs.failed_rows.Facts.{Waits, BasesFit}
use Rattle.row_laws.proofs.failed_rows.Origin.{Origin}
use Rattle.row_laws.proofs.failed_rows.At.{At, at_for, at_fold, at_sent}
use Rattle.row_laws.proofs.failed_rows.Leading.{at_led, at_waiting, queue_all, Begins, at_begins}

-- no client asks for a failure leave
abbrev pub NoFailure : Proposal → Type 0
NoFailure (Fail out) = ⊥
NoFailure _ = Unit {0}

-- who waits as a failure
abbrev pub waiting_of : Core → List ℕ → List Failure
waiting_of s g = (found s g).led.waiting.failures

-- ---- where nothing begins nobody is left that waits as a failure

waits_here : (s : Core) (g : List ℕ) (change : WaitingView → WaitingView) → InNameOrder s.groups → (found (with_waiting s g change) g).led.waiting ≡ change (found s g).led.waiting
unfolding with_waiting with_led with_row row_of
waits_here s g change o = ap (λ (z : GroupRow). z.led.waiting) (row_here g (λ row. record row { led = record (row.led) { waiting = change row.led.waiting } }) (λ x. refl) s o)

state_here : (s : Core) (g : List ℕ) (change : WaitingView → WaitingView) → InNameOrder s.groups → state_in (found (with_waiting s g change) g).list ≡ state_in (found s g).list
unfolding with_waiting with_led with_row row_of
state_here s g change o = ap (λ (z : GroupRow). state_in z.list) (row_here g (λ row. record row { led = record (row.led) { waiting = change row.led.waiting } }) (λ x. refl) s o)

order_here : (s : Core) (g : List ℕ) (change : WaitingView → WaitingView) → InNameOrder s.groups → InNameOrder (with_waiting s g change).groups
unfolding with_waiting with_led
order_here s g change o = rows_ordered g (λ row. record row { led = record (row.led) { waiting = change row.led.waiting } }) (λ x. refl) s o

failures_none : (n : ℕ) (f : Answering) (s : Core) (g : List ℕ) → InNameOrder s.groups → length (waiting_of s g) ≤ n → (failures_begin n f s g).began ≡ false → waiting_of (failures_begin n f s g).core g ≡ []
unfolding failures_begin
failures_none zero f s g o few q = none_left (waiting_of s g) few
failures_none (suc n) f s g o few q =
    let st : GroupState = state_of s g in
    let out : List Failure = filter (λ (x : Failure). among st.members x.provider) (next_failures st.attrs.batch (led_of s g).waiting) in
    let t : Core = with_waiting s g (failures_left st.attrs.batch) in
    let fewer : length (waiting_of t g) ≤ n = subst (λ (z : WaitingView). length z.failures ≤ n) (sym (waits_here s g (failures_left st.attrs.batch) o)) (left_fewer (batches_failures st.attrs.batch) n (waiting_of s g) few) in
    by t out st (is_empty out) (failures_none n f t g (order_here s g (failures_left st.attrs.batch) o) fewer) q
  where
    by : (t : Core) (out : List Failure) (st : GroupState) (b : Bool) → ((failures_begin n f t g).began ≡ false → waiting_of (failures_begin n f t g).core g ≡ []) → (elim b as (λ _. Pass) [ true ↦ failures_begin n f t g | false ↦ begun_now (begins f t g (Fail out) st.attrs.phases) ]).began ≡ false → waiting_of (elim b as (λ _. Pass) [ true ↦ failures_begin n f t g | false ↦ begun_now (begins f t g (Fail out) st.attrs.phases) ]).core g ≡ []
    by t out st true rest q = rest q
    by t out st false rest q = absurd (cc)

source_idle : (f : Answering) (s : Core) (g : List ℕ) (st : GroupState) (o : Option (List ℕ)) → (source_begins f s g st o).began ≡ false → (source_begins f s g st o).core ≡ s
unfolding source_begins due_begins
source_idle f s g st None q = refl
source_idle f s g st (Some k) q = by (target.due st (known_state s k)) q
  where
    by : (o : Option Due) → (due_begins f s g st k o).began ≡ false → (due_begins f s g st k o).core ≡ s
    by None q = refl
    by (Some (due.CastOut out)) q = absurd (cc)
    by (Some (due.Reflect v i)) q = absurd (cc)

due_none : (f : Answering) (g : List ℕ) (p : Pass) → (p.began ≡ false → waiting_of p.core g ≡ []) → (or_due f g p).began ≡ false → waiting_of (or_due f g p).core g ≡ []
unfolding or_due
due_none f g p none q = by p.began refl q
  where
    by : (b : Bool) → p.began ≡ b → (elim b as (λ _. Pass) [ true ↦ p | false ↦ source_begins f p.core g (state_of p.core g) (state_of p.core g).attrs.source ]).began ≡ false → waiting_of (elim b as (λ _. Pass) [ true ↦ p | false ↦ source_begins f p.core g (state_of p.core g) (state_of p.core g).attrs.source ]).core g ≡ []
    by true e q = none q
    by false e q = ap (λ c. waiting_of c g) (source_idle f p.core g (state_of p.core g) (state_of p.core g).attrs.source q) ∙ none e

-- what a leader keeps with one answer more: that one, or it was kept
pub with_has : (d : Decision) (xs : List Decision) (z : Decision) → Has z (decisions_with d xs) → (z ≡ d) ⊎ Has z xs
unfolding decisions_with
with_has d [] z (inl e) = inl e
with_has d [] z (inr a) = absurd a
with_has d (x ∷ xs) z h = by (same_provider x.provider d.provider) h (with_has d xs z)
  where
    by : (b : Bool) → Has z (elim b as (λ _. List Decision) [ true ↦ d ∷ xs | false ↦ x ∷ decisions_with d xs ]) → (Has z (decisions_with d xs) → (z ≡ d) ⊎ Has z xs) → (z ≡ d) ⊎ Has z (x ∷ xs)
    by true (inl e) rest = inl e
    by true (inr j) rest = inr (inr j)
    by false (inl e) rest = inr (inl e)
    by false (inr j) rest = ⊎_elim (λ (e : z ≡ d). inl e) (λ (i : Has z xs). inr (inr i)) (rest j)

module _ (h : History) (said : ProviderId → Type 0) (origin : Origin) (P L M : Type 0) (live : L) where
  module _ (T G Q : List ℕ → Type 0) where
    -- ---- deciding

    pub at_decision : (s : Core) (g : List ℕ) (p : ProviderId) (r : ℕ) (y : Option Why) → Fairly y → At h said origin P L M T G Q s → At h said origin P L M T G Q (keep_decision s g p r y)
    unfolding keep_decision
    at_decision s g p r y fine a = at_led h said origin P L M T G Q s g (λ l. record l { decided = decisions_with it l.decided }) (λ l. refl) (λ l. refl) (λ l. refl) (λ l k d i. ⊎_elim (λ (e : d ≡ it). subst (λ (z : Decision). Fairly z.why) (sym e) fine) (k d) (with_has it l.decided d i)) a
      where
        it : Decision
        it = record { provider = p; request = r; why = y }

    pub at_refused : (s : Core) (g : List ℕ) (p : ProviderId) (r : ℕ) (y : Why) → is_dissolved y ≡ false → At h said origin P L M T G Q s → At h said origin P L M T G Q (refused s g p r y)
    unfolding refused
    at_refused s g p r y fine a = at_sent h said origin P L M T G Q (keep_decision s g p r (Some y)) p.node (body.Tell s.views.view g p r y) fine (at_decision s g p r (Some y) fine a)

    at_decided_join : (s : Core) (g : List ℕ) (p : ProviderId) (r : ℕ) (attrs : Attrs) (o : Option Why) → Fairly o → At h said origin P L M T G Q s → At h said origin P L M T G Q (decide_join s g p r attrs o)
    unfolding decide_join wait_join
    at_decided_join s g p r attrs None fine a =
        at_led h said origin P L M T G Q (keep_decision s g p r None) g (λ l. record l { waiting = waits_join p l.waiting; join_attrs = keep_attrs l.join_attrs p attrs (is_idle_empty (state_of s g)) }) (λ l. refl) (λ l. refl) (λ l. refl) (λ l z. z) (at_decision s g p r None tt a)
    at_decided_join s g p r attrs (Some y) fine a = at_refused s g p r y fine a

    at_decided_other : (f : Answering) (s : Core) (g : List ℕ) (p : ProviderId) (r : ℕ) (phases : Phases) (x : Proposal) (o : Option Why) → Fairly o → T g → G g → ((c : Core) → Begins h said origin P L M T G Q c g x) → joins_of x ≡ [] → At h said origin P L M T G Q s → At h said origin P L M T G Q (decide_change f s g p r phases x o)
    unfolding decide_change
    at_decided_other f s g p r phases x None fine t led ok none a = at_begins h said origin P L M T G Q f (keep_decision s g p r None) g x phases live t led (ok (keep_decision s g p r None)) (inl none) (at_decision s g p r None tt a)
    at_decided_other f s g p r phases x (Some y) fine t led ok none a = at_refused s g p r y fine a

    pub at_decided : (f : Answering) (s : Core) (g : List ℕ) (p : ProviderId) (r : ℕ) (phases : Phases) (x : Proposal) → NoFailure x → T g → G g → At h said origin P L M T G Q s → At h said origin P L M T G Q (decided f s g p r phases x)
    unfolding decided
    at_decided f s g p r phases (Join ps attrs n) asks t led a = at_decided_join s g p r attrs (join_refusal s g p attrs) (join_fair s g p attrs) a
    at_decided f s g p r phases (Fail out) asks t led a = absurd asks
    at_decided f s g p r phases x asks t led a = at_decided_other f s g p r phases x (other_refusal s g p x) (other_fair s g p x) t led (λ c fit. tt) refl a

    -- ---- what begins in a group that the node leads, where failures wait

    module _ (f : Answering) (g : List ℕ) (t : T g) (led : G g) (q : Q g) where
      -- those who are chosen and are members fail with their cause
      chosen_fail : (s : Core) (c : Core) → BasesFit s.records → At h said origin P L M T G Q s → c.views.view ≡ s.views.view → state_in (found c g).list ≡ state_in (found s g).list → (b : Bool) → LeavesFail (GoneCause h c.views.view g) (λ k. state_in (found c k).list) (state_in (found c g).list) (Fail (filter (λ (x : Failure). among (state_in (found s g).list).members x.provider) (chosen_of b (waiting_of s g))))
      chosen_fail s c fit a view same b x i =
          let j = has_filter (λ (x : Failure). among (state_in (found s g).list).members x.provider) x (chosen_of b (waiting_of s g)) i in
          let w : Waits (GoneCause h s.views.view g) (state_in (found s g).list) x.provider x.cause = queue_all h said origin P L M T G Q (GoneCause h s.views.view g) (leads_row s (found s g)) (waiting_of s g) (state_in (found s g).list) (a.queues fit g q) x (chosen_has b (waiting_of s g) x j.0) in
          (ap (λ (z : GroupState). among z.members x.provider) same ∙ j.1, cause x.provider x.cause j.1 w)
        where
          cause : (p : ProviderId) (y : Cause) → among (state_in (found s g).list).members p ≡ true → Waits (GoneCause h s.views.view g) (state_in (found s g).list) p y → CauseHolds (GoneCause h c.views.view g) (λ k. state_in (found c k).list) (state_in (found c g).list) p y
          cause p Died m w = ap (λ (z : GroupState). among z.failed p) same ∙ stays_failed (state_in (found s g).list) p w m
          cause p Gone m w = subst (λ z. GoneCause h z g p) (sym view) w
          cause p Cast m w = absurd w

      at_failures : (n : ℕ) (s : Core) → At h said origin P L M T G Q s → At h said origin P L M T G Q (failures_begin n f s g).core
      unfolding failures_begin state_of list_of led_of row_of with_waiting with_led with_row
      at_failures zero s a = a
      at_failures (suc n) s a =
          let st : GroupState = state_in (found s g).list in
          let out : List Failure = filter (λ (x : Failure). among st.members x.provider) (next_failures st.attrs.batch (found s g).led.waiting) in
          let c : Core = with_waiting s g (failures_left st.attrs.batch) in
          let k : At h said origin P L M T G Q c = at_waiting h said origin P L M T G Q s g (failures_left st.attrs.batch) (λ fit w. inr (a.led g led, λ x i. queue_all h said origin P L M T G Q (GoneCause h s.views.view g) (leads_row s (found s g)) (waiting_of s g) st (a.queues fit g w) x (left_has (batches_failures st.attrs.batch) (waiting_of s g) x i))) a in
          by c out st (is_empty out) (begins_well st) k (at_failures n c k)
        where
          begins_well : (st : GroupState) → Begins h said origin P L M T G Q (with_waiting s g (failures_left (state_in (found s g).list).attrs.batch)) g (Fail (filter (λ (x : Failure). among (state_in (found s g).list).members x.provider) (next_failures (state_in (found s g).list).attrs.batch (found s g).led.waiting)))
          begins_well st fit = chosen_fail s (with_waiting s g (failures_left (state_in (found s g).list).attrs.batch)) fit a refl (state_here s g (failures_left (state_in (found s g).list).attrs.batch) a.order) (batches_failures (state_in (found s g).list).attrs.batch)

          by : (c : Core) (out : List Failure) (st : GroupState) (b : Bool) → Begins h said origin P L M T G Q c g (Fail out) → At h said origin P L M T G Q c → At h said origin P L M T G Q (failures_begin n f c g).core → At h said origin P L M T G Q (elim b as (λ _. Pass) [ true ↦ failures_begin n f c g | false ↦ begun_now (begins f c g (Fail out) st.attrs.phases) ]).core
          by c out st true ok k rest = rest
          by c out st false ok k rest = at_begins h said origin P L M T G Q f c g (Fail out) st.attrs.phases live t led ok (inl refl) k

      at_source : (s : Core) (o : Option (List ℕ)) → (state_in (found s g).list).attrs.source ≡ o → At h said origin P L M T G Q s → At h said origin P L M T G Q (source_begins f s g (state_in (found s g).list) o).core
      unfolding source_begins due_begins
      at_source s None e a = a
      at_source s (Some k) e a = by (target.due (state_in (found s g).list) (known_state s k)) refl
        where
          st : GroupState
          st = state_in (found s g).list

          by : (o : Option Due) → target.due st (known_state s k) ≡ o → At h said origin P L M T G Q (due_begins f s g st k o).core
          by None d = a
          by (Some (due.CastOut out)) d =
              at_begins h said origin P L M T G Q f s g (Fail (chosen_of (batches_failures st.attrs.batch) out)) st.attrs.phases live t led (λ fit x i. due_casts (GoneCause h s.views.view g) s st k out e d x (chosen_has (batches_failures st.attrs.batch) out x i)) (inl refl) a
          by (Some (due.Reflect v i)) d = at_begins h said origin P L M T G Q f s g (Reflect v i (state_of s k).value) st.attrs.source_phases live t led (λ fit. tt) (inl refl) a

      -- nobody waits as a failure
      record Free (s : Core) : Type 0 where
        at : At h said origin P L M T G Q s
        none : waiting_of s g ≡ []

      free_refused : (s : Core) (p : ProviderId) (r : ℕ) (y : Why) → is_dissolved y ≡ false → Free s → Free (refused s g p r y)
      unfolding refused keep_decision with_led sent send_on row_of
      free_refused s p r y fine k =
          record {
            at = at_refused s g p r y fine k.at;
            none = ap (λ (z : GroupRow). z.led.waiting.failures) (row_here g (λ row. record row { led = record (row.led) { decided = decisions_with (record { provider = p; request = r; why = Some y }) row.led.decided } }) (λ x. refl) s (k.at).order) ∙ k.none;
          }

      free_all : (source : Option (List ℕ)) (ps : List ProviderId) (s : Core) → Free s → Free (fold (λ c (p : ProviderId). refused c g p p.join (NoSource (source_len c source))) s ps)
      free_all source [] s k = k
      free_all source (p ∷ ps) s k = free_all source ps (refused s g p p.join (NoSource (source_len s source))) (free_refused s p p.join (NoSource (source_len s source)) refl k)

      free_left : (s : Core) (b : Batch) → Free s → Free (with_waiting s g (joins_left b))
      free_left s b k =
          record {
            at = at_waiting h said origin P L M T G Q s g (joins_left b) (λ fit w. (k.at).queues fit g w) k.at;
            none = ap (λ (z : WaitingView). z.failures) (waits_here s g (joins_left b) (k.at).order) ∙ k.none;
          }

      at_joins : (n : ℕ) (s : Core) → Free s → At h said origin P L M T G Q (joins_begin n f s g).core
      unfolding joins_begin source_refused
      at_joins zero s k = k.at
      at_joins (suc n) s k =
          let st : GroupState = state_of s g in
          let chosen : List ProviderId = next_joins st.attrs.batch (led_of s g).waiting in
          let at : Attrs = attrs_for st (led_of s g).join_attrs chosen in
          let ps : List ProviderId = filter (λ (p : ProviderId). not (lacks_source s at.source p.node)) chosen in
          let out : List ProviderId = filter (λ (p : ProviderId). lacks_source s at.source p.node) chosen in
          let c : Core = source_refused (with_waiting s g (joins_left st.attrs.batch)) g at.source out in
          let j : Free c = free_all at.source out (with_waiting s g (joins_left st.attrs.batch)) (free_left s st.attrs.batch k) in by c ps at (is_empty ps) j (at_joins n c j)
        where
          by : (c : Core) (ps : List ProviderId) (at : Attrs) (b : Bool) → Free c → At h said origin P L M T G Q (joins_begin n f c g).core → At h said origin P L M T G Q (elim b as (λ _. Pass) [ true ↦ joins_begin n f c g | false ↦ begun_now (begins f c g (Join ps at (carried_len c at.source)) at.phases) ]).core
          by c ps at true k rest = rest
          by c ps at false k rest = at_begins h said origin P L M T G Q f c g (Join ps at (carried_len c at.source)) at.phases live t led (λ fit. tt) (inr k.none) k.at

      at_or_due : (p : Pass) → At h said origin P L M T G Q p.core → At h said origin P L M T G Q (or_due f g p).core
      unfolding or_due state_of list_of row_of
      at_or_due p a = by p.began
        where
          by : (b : Bool) → At h said origin P L M T G Q (elim b as (λ _. Pass) [ true ↦ p | false ↦ source_begins f p.core g (state_in (found p.core g).list) (state_in (found p.core g).list).attrs.source ]).core
          by true = a
          by false = at_source p.core (state_in (found p.core g).list).attrs.source refl a

      at_or_joins : (p : Pass) → (p.began ≡ false → waiting_of p.core g ≡ []) → At h said origin P L M T G Q p.core → At h said origin P L M T G Q (or_joins f g p).core
      unfolding or_joins
      at_or_joins p none a = by p.began refl
        where
          by : (b : Bool) → p.began ≡ b → At h said origin P L M T G Q (elim b as (λ _. Pass) [ true ↦ p | false ↦ joins_begin (length (led_of p.core g).waiting.joins) f p.core g ]).core
          by true e = a
          by false e = at_joins (length (led_of p.core g).waiting.joins) p.core (record { at = a; none = none e })

      at_first : (s : Core) → At h said origin P L M T G Q s → At h said origin P L M T G Q (first_begins f s g (found s g)).core
      unfolding first_begins
      at_first s a = by (may_begin (list_or_new (found s g).list))
        where
          p : Pass
          p = failures_begin (length (waiting_of s g)) f s g

          by : (b : Bool) → At h said origin P L M T G Q (elim b as (λ _. Pass) [ false ↦ quiet s | true ↦ or_joins f g (or_due f g p) ]).core
          by false = a
          by true =
              at_or_joins (or_due f g p) (due_none f g p (failures_none (length (waiting_of s g)) f s g a.order (omega arith))) (at_or_due p (at_failures (length (waiting_of s g)) s a))

      at_group : (n : ℕ) (p : Pass) → At h said origin P L M T G Q p.core → At h said origin P L M T G Q (group_begins n f g p).core
      unfolding group_begins row_of
      at_group zero p a = a
      at_group (suc n) p a = let q : Pass = first_begins f p.core g (found p.core g) in
          let k : At h said origin P L M T G Q q.core = at_first p.core a in by q q.began k (at_group n q k)
        where
          by : (q : Pass) (b : Bool) → At h said origin P L M T G Q q.core → At h said origin P L M T G Q (group_begins n f g q).core → At h said origin P L M T G Q (elim b as (λ _. Pass) [ true ↦ group_begins n f g q | false ↦ record { core = q.core; began = p.began } ]).core
          by q true k rest = rest
          by q false k rest = k

    at_groups : (most : ℕ) (f : Answering) (gs : List (List ℕ)) → ((g : List ℕ) → Has g gs → T g × G g × Q g) → (p : Pass) → At h said origin P L M T G Q p.core → At h said origin P L M T G Q (fold (λ p g. group_begins most f g p) p gs).core
    at_groups most f [] all p a = a
    at_groups most f (g ∷ gs) all p a =
        let k = all g (inl refl) in at_groups most f gs (λ x i. all x (inr i)) (group_begins most f g p) (at_group f g k.0 k.1 k.2 most p a)

  -- the groups that a node leads
  abbrev pub Leads : Core → List ℕ → Type 0
  Leads s g = leads_row s (found s g) ≡ true

  pub at_leads : (s : Core) → At h said origin P L M Every NoGroup Every s → At h said origin P L M Every (Leads s) Every s
  at_leads s a = at_for h said origin P L M Every NoGroup Every Every (Leads s) Every s (λ g t. t) (λ g e. e) (λ g t. t) a

  pub at_all : (G : List ℕ → Type 0) (s : Core) → At h said origin P L M Every G Every s → At h said origin P L M Every NoGroup Every s
  at_all G s a = at_for h said origin P L M Every G Every Every NoGroup Every s (λ g t. t) (λ g z. absurd z) (λ g t. t) a

  pub led_leads : (s : Core) → At h said origin P L M Every NoGroup Every s → (g : List ℕ) → Has g (led_groups s) → Leads s g
  led_leads s a g i = leads_is s g ∙ led_are_led s g a.order i

  -- what is done in each group that the node leads
  pub at_led_groups : (f : Core → List ℕ → Core) → ((G : List ℕ → Type 0) (s : Core) (g : List ℕ) → G g → At h said origin P L M Every G Every s → At h said origin P L M Every G Every (f s g)) → (s : Core) → At h said origin P L M Every NoGroup Every s → At h said origin P L M Every NoGroup Every (fold f s (led_groups s))
  at_led_groups f step s a =
      at_all (Leads s) (fold f s (led_groups s)) (at_fold h said origin P L M Every (Leads s) Every f (led_groups s) (λ c g i k. step (Leads s) c g (led_leads s a g i) k) s (at_leads s a))

  at_pass : (most : ℕ) (f : Answering) (s : Core) → At h said origin P L M Every NoGroup Every s → At h said origin P L M Every NoGroup Every (one_pass most f s).core
  unfolding one_pass
  at_pass most f s a =
      at_all (Leads s) (fold (λ (p : Pass) g. group_begins most f g p) (quiet s) (led_groups s)).core (at_groups Every (Leads s) Every most f (led_groups s) (λ g i. (tt, led_leads s a g i, tt)) (quiet s) (at_leads s a))

  at_passes : (n most : ℕ) (f : Answering) (s : Core) → At h said origin P L M Every NoGroup Every s → At h said origin P L M Every NoGroup Every (passes n most f s)
  unfolding passes
  at_passes zero most f s a = a
  at_passes (suc n) most f s a = let p : Pass = one_pass most f s in
      let k : At h said origin P L M Every NoGroup Every p.core = at_pass most f s a in by p p.began k (at_passes n most f p.core k)
    where
      by : (p : Pass) (b : Bool) → At h said origin P L M Every NoGroup Every p.core → At h said origin P L M Every NoGroup Every (passes n most f p.core) → At h said origin P L M Every NoGroup Every (elim b as (λ _. Core) [ true ↦ passes n most f p.core | false ↦ p.core ])
      by p true k rest = rest
      by p false k rest = k

  pub at_step_ended : (f : Answering) (s : Core) → At h said origin P L M Every NoGroup Every s → At h said origin P L M Every NoGroup Every (end_step f s)
  unfolding end_step
  at_step_ended f s a = by (frozen s)
    where
      by : (b : Bool) → At h said origin P L M Every NoGroup Every (elim b as (λ _. Core) [ true ↦ s | false ↦ passes (most_begun s) (most_begun s) f s ])
      by true = a
      by false = at_passes (most_begun s) (most_begun s) f s a
