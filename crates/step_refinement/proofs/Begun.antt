-- What the end of a step leaves of a row: a list that is held stays held, no join comes to wait, and where at most one
-- join waited without a list, none waits.
use Rattle.std.proofs.Common.{◌≡◌, ◌≤◌, ◌⊎◌, ℕ, zero, suc, List, [], ◌∷◌, length, Option, Some, None, Bool, true, false, refl, sym, ap, ◌∙◌, subst, inl, inr, arith}
use Rattle.std.specs.Prelude.{not, filter, find, fold, is_some}
use Rattle.rsct_packet.specs.declared.ids.ProviderId.{ProviderId}
use Rattle.rsct_packet.specs.Lists.{is_empty}
use Rattle.rsct_packet.specs.Providers.{among}
use Rattle.rsct_packet.specs.Search.{Has}
use Rattle.rsct_packet.proofs.HasLaws.{find_has, filter_has, map_has}
use Rattle.group_attr.specs.declared.attrs.Phases.{Phases}
use Rattle.group_attr.specs.declared.attrs.Phases.TheVariants.{One, Many}
use Rattle.group_attr.specs.declared.attrs.Attrs.{Attrs}
use Rattle.proposal_core.specs.declared.proposal.Cause.{Cause}
use Rattle.proposal_core.specs.declared.proposal.Cause.TheVariants.{Died, Gone}
use Rattle.proposal_core.specs.declared.proposal.Failure.{Failure}
use Rattle.proposal_core.specs.declared.proposal.Proposal.{Proposal}
use Rattle.proposal_core.specs.declared.proposal.Proposal.TheVariants.{Join, Fail, Reflect}
use Rattle.proposal_core.specs.declared.entry.Entry.{Entry}
use Rattle.proposal_core.specs.declared.entry.Entry.TheVariants.{Once, Begin}
use Rattle.proposal_core.specs.declared.group_state.GroupState.{GroupState}
use Rattle.proposal_core.specs.GroupView.{GroupView}
use Rattle.proposal_core.specs.Lists.{list_or_new, with_entry, is_at_limit}
use Rattle.batch_rules.specs.Waiting.{add_failure, batches_failures, batches_joins, chosen_of, left_of, next_failures, failures_left, next_joins, joins_left}
use Rattle.source_target.specs.declared.Due.{Due}
use Rattle.source_target.specs.declared.Due.TheVariants as due
use Rattle.source_target.specs.Due as target
use Rattle.client_callbacks.specs.declared.told.Why.{Why}
use Rattle.client_callbacks.specs.declared.told.Why.TheVariants.{NoSource}
use Rattle.vote_phases.specs.Tally.{TallyView}
use Rattle.node_state.specs.declared.group.GroupRow.{GroupRow}
use Rattle.node_state.specs.declared.group.Led.{Led}
use Rattle.node_state.specs.declared.packet.Body.TheVariants as body
use Rattle.node_state.specs.declared.state.Core.{Core}
use Rattle.node_state.specs.State.{InNameOrder, row_found, row_of, with_row, with_led, led_of, list_of, state_of, len_of, list_forgotten, forget_below, leads_in, leads, led_groups, leader_of, others, least_acked, fits_at_end, decisions_with, recorded, has_name}
use Rattle.node_state.specs.Sending.{sent, send_on, send_all}
use Rattle.node_state.specs.HandOn.{Answering, hand_on}
use Rattle.node_state.specs.Leading.{put, forget_least, with_waiting, wait_if, new_members_wait, appended, append_if_fits, begin_many, begins, tally_set, tally_for, tally_opened, closing_entry, is_phase, closes_from, closes}
use Rattle.proposal_core.specs.Fold.{max_phases}
use Rattle.node_state.specs.Deciding.{keep_decision, refused, known_state, lacks_source, source_len}
use Rattle.node_state.specs.Ending.{Pass, quiet, begun_now, failures_begin, due_begins, source_begins, attrs_for, carried_len, source_refused, joins_begin, or_due, or_joins, may_begin, first_begins, group_begins, one_pass, passes}
use Rattle.node_state.proofs.NameOrder.{KeepsName, cases_text, text_same, row_here, row_there, rows_ordered}
use Rattle.step_refinement.proofs.Idle.{none_held, held_none, forgotten_held}
use Rattle.step_refinement.proofs.Appending.{sent_all_is, handed_rows, joins_kept}

-- what is left of the group's row
pub record Left (g : List ℕ) (c d : Core) : Type 0 where
  pub order : InNameOrder d.groups
  pub held : is_some (row_of c g).list ≡ true → is_some (row_of d g).list ≡ true
  pub joins : length (row_of d g).led.waiting.joins ≤ length (row_of c g).led.waiting.joins

abbrev pub Onward : List ℕ → Core → Core → Type 0
Onward g c d = InNameOrder c.groups → Left g c d

pub drop_fewer : {A : Type 0} (b : Bool) (xs : List A) → length (left_of b xs) ≤ length xs
drop_fewer true xs = omega arith
drop_fewer false [] = omega arith
drop_fewer false (x ∷ xs) = omega arith

module _ (g : List ℕ) where
  onward_same : (c : Core) → Onward g c c
  onward_same c o = record { order = o; held = λ h. h; joins = omega arith }

  onward_then : (a b c : Core) → Onward g a b → Onward g b c → Onward g a c
  onward_then a b c p q o =
      let x = p o in
      let y = q x.order in record { order = y.order; held = λ h. y.held (x.held h); joins = let i = x.joins in let j = y.joins in omega arith }

  onward_groups : (c d : Core) → d.groups ≡ c.groups → Onward g c d
  unfolding row_of
  onward_groups c d e o =
      let P : List GroupRow → GroupRow = λ rows. row_found g (find (has_name g) rows) in
      let same : length (P d.groups).led.waiting.joins ≡ length (P c.groups).led.waiting.joins = ap (λ rows. length (P rows).led.waiting.joins) e in
      record { order = subst InNameOrder (sym e) o; held = λ h. subst (λ rows. is_some (P rows).list ≡ true) (sym e) h; joins = omega arith }

  onward_row : (c : Core) (h : List ℕ) (f : GroupRow → GroupRow) → KeepsName f → ((row : GroupRow) → is_some row.list ≡ true → is_some (f row).list ≡ true) → ((row : GroupRow) → length (f row).led.waiting.joins ≤ length row.led.waiting.joins) → Onward g c (with_row c h f)
  onward_row c h f keeps held joins o = by (cases_text h g)
    where
      by : (h ≡ g) ⊎ (h ≡ g → ⊥) → Left g c (with_row c h f)
      by (inl e) =
          let here : row_of (with_row c h f) g ≡ f (row_of c g) = subst (λ z. row_of (with_row c h f) z ≡ f (row_of c z)) e (row_here h f keeps c o) in
          let same : length (row_of (with_row c h f) g).led.waiting.joins ≡ length (f (row_of c g)).led.waiting.joins = ap (λ (row : GroupRow). length row.led.waiting.joins) here in
          record { order = rows_ordered h f keeps c o; held = λ k. ap (λ (row : GroupRow). is_some row.list) here ∙ held (row_of c g) k; joins = let k = joins (row_of c g) in omega arith }
      by (inr ne) =
          let there : row_of (with_row c h f) g ≡ row_of c g = row_there h f keeps c g ne in
          let same : length (row_of (with_row c h f) g).led.waiting.joins ≡ length (row_of c g).led.waiting.joins = ap (λ (row : GroupRow). length row.led.waiting.joins) there in
          record { order = rows_ordered h f keeps c o; held = λ k. ap (λ (row : GroupRow). is_some row.list) there ∙ k; joins = omega arith }

  onward_led : (c : Core) (h : List ℕ) (f : Led → Led) → ((l : Led) → length (f l).waiting.joins ≤ length l.waiting.joins) → Onward g c (with_led c h f)
  unfolding with_led
  onward_led c h f fewer = onward_row c h (λ row. record row { led = f row.led }) (λ x. refl) (λ row e. e) (λ row. fewer row.led)

  -- ---- appending

  waits_onward : (c : Core) (h : List ℕ) (p : ProviderId) (why : Cause) → Onward g c (with_waiting c h (add_failure p why))
  unfolding with_waiting
  waits_onward c h p why =
      onward_led c h (λ l. record l { waiting = add_failure p why l.waiting }) (λ l. let q : length (add_failure p why l.waiting).joins ≡ length l.waiting.joins = ap (λ (z : List ProviderId). length z) (joins_kept p why l.waiting) in omega arith)

  waits_if_onward : (c : Core) (h : List ℕ) (p : ProviderId) (a b : Bool) → Onward g c (wait_if c h p a b)
  unfolding wait_if
  waits_if_onward c h p true b = waits_onward c h p Died
  waits_if_onward c h p false true = waits_onward c h p Gone
  waits_if_onward c h p false false = onward_same c

  new_onward : (h : List ℕ) (after : GroupState) (gone ps : List ProviderId) (c : Core) → Onward g c (fold (λ d p. wait_if d h p (among after.failed p) (among gone p)) c ps)
  new_onward h after gone [] c = onward_same c
  new_onward h after gone (p ∷ ps) c =
      let d : Core = wait_if c h p (among after.failed p) (among gone p) in
      onward_then c d (fold (λ d p. wait_if d h p (among after.failed p) (among gone p)) d ps) (waits_if_onward c h p (among after.failed p) (among gone p)) (new_onward h after gone ps d)

  forgets_onward : (c : Core) (h : List ℕ) (m : ℕ) → Onward g c (forget_below c h m)
  unfolding forget_below
  forgets_onward c h m = onward_row c h (λ row. record row { list = list_forgotten m row.list }) (λ x. refl) (λ row e. forgotten_held m row.list e) (λ row. omega arith)

  put_onward : (c : Core) (h : List ℕ) (e : Entry) → Onward g c (put c h e)
  unfolding put recorded
  put_onward c h e =
      let F : GroupRow → GroupRow = λ row. record row { list = Some (with_entry (list_or_new row.list) c.views.view e) } in
      onward_then c (with_row c h F) (put c h e) (onward_row c h F (λ x. refl) (λ row k. refl) (λ row. omega arith)) (onward_groups (with_row c h F) (put c h e) refl)

  appended_onward : (f : Answering) (c : Core) (h : List ℕ) (e : Entry) → Onward g c (appended f c h e)
  unfolding appended new_members_wait forget_least
  appended_onward f c h e =
      let t : Core = put c h e in
      let b = body.Entry t.views.view h (len_of c h) (least_acked t h) e in
      let u : Core = send_all t (others t) b in
      let w : Core = hand_on f u (leader_of u h) h (len_of c h) (state_of c h) (state_of t h) e in
      let x : Core = forget_below w h (least_acked w h) in
      let out : List ProviderId = filter (λ p. not (among (state_of c h).members p)) (state_of t h).members in
      let last : Core = fold (λ d p. wait_if d h p (among (state_of t h).failed p) (among (led_of x h).gone p)) x out in
      onward_then c t last (put_onward c h e) (onward_then t u last (onward_groups t u (ap (λ (z : Core). z.groups) (sent_all_is (others t) t b))) (onward_then u w last (onward_groups u w (handed_rows f u (leader_of u h) h (len_of c h) (state_of c h) (state_of t h) e).0) (onward_then w x last (forgets_onward w h (least_acked w h)) (new_onward h (state_of t h) (led_of x h).gone out x))))

  tally_onward : (c : Core) (h : List ℕ) (o : Option TallyView) → Onward g c (tally_set c h o)
  unfolding tally_set
  tally_onward c h o = onward_led c h (λ l. record l { tally = o; given = [] }) (λ l. omega arith)

  opened_onward : (c : Core) (h : List ℕ) → Onward g c (tally_opened c h)
  unfolding tally_opened
  opened_onward c h = tally_onward c h (Some (tally_for (state_of c h) (led_of c h).gone))

  closes_onward : (fuel : ℕ) (f : Answering) (c : Core) (h : List ℕ) → Onward g c (closes_from fuel f c h)
  unfolding closes_from
  closes_onward zero f c h = onward_same c
  closes_onward (suc k) f c h = by (closing_entry (led_of c h) (led_of c h).tally (state_of c h).running) (closes_onward k)
    where
      phase : (e : Entry) → ((f : Answering) (d : Core) (j : List ℕ) → Onward g d (closes_from k f d j)) → (b : Bool) → Onward g c (elim b as (λ _. Core) [ true ↦ closes_from k f (tally_opened (appended f c h e) h) h | false ↦ tally_set (appended f c h e) h None ])
      phase e rest true =
          onward_then c (appended f c h e) (closes_from k f (tally_opened (appended f c h e) h) h) (appended_onward f c h e) (onward_then (appended f c h e) (tally_opened (appended f c h e) h) (closes_from k f (tally_opened (appended f c h e) h) h) (opened_onward (appended f c h e) h) (rest f (tally_opened (appended f c h e) h) h))
      phase e rest false = onward_then c (appended f c h e) (tally_set (appended f c h e) h None) (appended_onward f c h e) (tally_onward (appended f c h e) h None)

      fits : (e : Entry) → ((f : Answering) (d : Core) (j : List ℕ) → Onward g d (closes_from k f d j)) → (b : Bool) → Onward g c (elim b as (λ _. Core) [ false ↦ c | true ↦ elim (is_phase e) as (λ _. Core) [ true ↦ closes_from k f (tally_opened (appended f c h e) h) h | false ↦ tally_set (appended f c h e) h None ] ])
      fits e rest false = onward_same c
      fits e rest true = phase e rest (is_phase e)

      by : (o : Option Entry) → ((f : Answering) (d : Core) (j : List ℕ) → Onward g d (closes_from k f d j)) → Onward g c (elim o as (λ _. Core) [ None ↦ c | Some e ↦ elim (fits_at_end c h e) as (λ _. Core) [ false ↦ c | true ↦ elim (is_phase e) as (λ _. Core) [ true ↦ closes_from k f (tally_opened (appended f c h e) h) h | false ↦ tally_set (appended f c h e) h None ] ] ])
      by None rest = onward_same c
      by (Some e) rest = fits e rest (fits_at_end c h e)

  begins_onward : (f : Answering) (c : Core) (h : List ℕ) (x : Proposal) (phases : Phases) → Onward g c (begins f c h x phases)
  unfolding begins append_if_fits begin_many closes
  begins_onward f c h x One = by (fits_at_end c h (Once x))
    where
      by : (b : Bool) → Onward g c (append_if_fits f c h (Once x) b)
      by false = onward_same c
      by true = appended_onward f c h (Once x)
  begins_onward f c h x Many = by (fits_at_end c h (Begin x))
    where
      by : (b : Bool) → Onward g c (begin_many f c h x b)
      by false = onward_same c
      by true =
          let d : Core = appended f c h (Begin x) in
          onward_then c d (closes f (tally_opened d h) h) (appended_onward f c h (Begin x)) (onward_then d (tally_opened d h) (closes f (tally_opened d h) h) (opened_onward d h) (closes_onward max_phases f (tally_opened d h) h))

  -- ---- what waits begins

  failures_onward : (fuel : ℕ) (f : Answering) (c : Core) (h : List ℕ) → Onward g c (failures_begin fuel f c h).core
  unfolding failures_begin with_waiting
  failures_onward zero f c h = onward_same c
  failures_onward (suc k) f c h = by (is_empty out) (failures_onward k)
    where
      out : List Failure
      out = filter (λ (x : Failure). among (state_of c h).members x.provider) (next_failures (state_of c h).attrs.batch (led_of c h).waiting)

      t : Core
      t = with_led c h (λ l. record l { waiting = failures_left (state_of c h).attrs.batch l.waiting })

      first : Onward g c t
      first = onward_led c h (λ l. record l { waiting = failures_left (state_of c h).attrs.batch l.waiting }) (λ l. omega arith)

      by : (b : Bool) → ((f : Answering) (d : Core) (j : List ℕ) → Onward g d (failures_begin k f d j).core) → Onward g c (elim b as (λ _. Pass) [ true ↦ failures_begin k f t h | false ↦ begun_now (begins f t h (Fail (filter (λ (x : Failure). among (state_of c h).members x.provider) (next_failures (state_of c h).attrs.batch (led_of c h).waiting))) (state_of c h).attrs.phases) ]).core
      by true rest = onward_then c t (failures_begin k f t h).core first (rest f t h)
      by false rest =
          onward_then c t (begins f t h (Fail (filter (λ (x : Failure). among (state_of c h).members x.provider) (next_failures (state_of c h).attrs.batch (led_of c h).waiting))) (state_of c h).attrs.phases) first (begins_onward f t h (Fail (filter (λ (x : Failure). among (state_of c h).members x.provider) (next_failures (state_of c h).attrs.batch (led_of c h).waiting))) (state_of c h).attrs.phases)

  source_onward : (f : Answering) (c : Core) (h : List ℕ) (st : GroupState) (o : Option (List ℕ)) → Onward g c (source_begins f c h st o).core
  unfolding source_begins due_begins
  source_onward f c h st None = onward_same c
  source_onward f c h st (Some k) = by (target.due st (known_state c k))
    where
      by : (o : Option Due) → Onward g c (due_begins f c h st k o).core
      by None = onward_same c
      by (Some (due.CastOut out)) = begins_onward f c h (Fail (chosen_of (batches_failures st.attrs.batch) out)) st.attrs.phases
      by (Some (due.Reflect v i)) = begins_onward f c h (Reflect v i (state_of c k).value) st.attrs.source_phases

  refused_onward : (c : Core) (h : List ℕ) (p : ProviderId) (r : ℕ) (why : Why) → Onward g c (refused c h p r why)
  unfolding refused keep_decision sent send_on
  refused_onward c h p r why =
      let d : Core = keep_decision c h p r (Some why) in
      onward_then c d (refused c h p r why) (onward_led c h (λ l. record l { decided = decisions_with (record { provider = p; request = r; why = Some why }) l.decided }) (λ l. omega arith)) (onward_groups d (refused c h p r why) refl)

  all_refused_onward : (h : List ℕ) (src : Option (List ℕ)) (ps : List ProviderId) (c : Core) → Onward g c (source_refused c h src ps)
  unfolding source_refused
  all_refused_onward h src [] c = onward_same c
  all_refused_onward h src (p ∷ ps) c =
      let d : Core = refused c h p p.join (NoSource (source_len c src)) in
      onward_then c d (source_refused d h src ps) (refused_onward c h p p.join (NoSource (source_len c src))) (all_refused_onward h src ps d)

  joins_onward : (fuel : ℕ) (f : Answering) (c : Core) (h : List ℕ) → Onward g c (joins_begin fuel f c h).core
  unfolding joins_begin with_waiting
  joins_onward zero f c h = onward_same c
  joins_onward (suc k) f c h = by (is_empty ps) (joins_onward k)
    where
      chosen : List ProviderId
      chosen = next_joins (state_of c h).attrs.batch (led_of c h).waiting

      a : Attrs
      a = attrs_for (state_of c h) (led_of c h).join_attrs chosen

      ps : List ProviderId
      ps = filter (λ (p : ProviderId). not (lacks_source c a.source p.node)) chosen

      out : List ProviderId
      out = filter (λ (p : ProviderId). lacks_source c a.source p.node) chosen

      d : Core
      d = with_led c h (λ l. record l { waiting = joins_left (state_of c h).attrs.batch l.waiting })

      after : Core
      after = source_refused d h a.source out

      first : Onward g c after
      first =
          onward_then c d after (onward_led c h (λ l. record l { waiting = joins_left (state_of c h).attrs.batch l.waiting }) (λ l. drop_fewer (batches_joins (state_of c h).attrs.batch) l.waiting.joins)) (all_refused_onward h a.source out d)

      by : (b : Bool) → ((f : Answering) (d : Core) (j : List ℕ) → Onward g d (joins_begin k f d j).core) → Onward g c (elim b as (λ _. Pass) [ true ↦ joins_begin k f after h | false ↦ begun_now (begins f after h (Join ps a (carried_len after a.source)) a.phases) ]).core
      by true rest = onward_then c after (joins_begin k f after h).core first (rest f after h)
      by false rest =
          onward_then c after (begins f after h (Join ps a (carried_len after a.source)) a.phases) first (begins_onward f after h (Join ps a (carried_len after a.source)) a.phases)

  due_onward : (f : Answering) (h : List ℕ) (p : Pass) → Onward g p.core (or_due f h p).core
  unfolding or_due
  due_onward f h p = by p.began
    where
      by : (b : Bool) → Onward g p.core (elim b as (λ _. Pass) [ true ↦ p | false ↦ source_begins f p.core h (state_of p.core h) (state_of p.core h).attrs.source ]).core
      by true = onward_same p.core
      by false = source_onward f p.core h (state_of p.core h) (state_of p.core h).attrs.source

  or_joins_onward : (f : Answering) (h : List ℕ) (p : Pass) → Onward g p.core (or_joins f h p).core
  unfolding or_joins
  or_joins_onward f h p = by p.began
    where
      by : (b : Bool) → Onward g p.core (elim b as (λ _. Pass) [ true ↦ p | false ↦ joins_begin (length (led_of p.core h).waiting.joins) f p.core h ]).core
      by true = onward_same p.core
      by false = joins_onward (length (led_of p.core h).waiting.joins) f p.core h

  first_onward : (f : Answering) (c : Core) (h : List ℕ) (row : GroupRow) → Onward g c (first_begins f c h row).core
  unfolding first_begins
  first_onward f c h row = by (may_begin (list_or_new row.list))
    where
      q : Pass
      q = failures_begin (length row.led.waiting.failures) f c h

      by : (b : Bool) → Onward g c (elim b as (λ _. Pass) [ false ↦ quiet c | true ↦ or_joins f h (or_due f h q) ]).core
      by false = onward_same c
      by true =
          onward_then c q.core (or_joins f h (or_due f h q)).core (failures_onward (length row.led.waiting.failures) f c h) (onward_then q.core (or_due f h q).core (or_joins f h (or_due f h q)).core (due_onward f h q) (or_joins_onward f h (or_due f h q)))

  group_onward : (fuel : ℕ) (f : Answering) (h : List ℕ) (p : Pass) → Onward g p.core (group_begins fuel f h p).core
  unfolding group_begins
  group_onward zero f h p = onward_same p.core
  group_onward (suc k) f h p = by (first_begins f p.core h (row_of p.core h)) (first_onward f p.core h (row_of p.core h)) (group_onward k)
    where
      by : (q : Pass) → Onward g p.core q.core → ((f : Answering) (h : List ℕ) (p : Pass) → Onward g p.core (group_begins k f h p).core) → Onward g p.core (elim q.began as (λ _. Pass) [ true ↦ group_begins k f h q | false ↦ record { core = q.core; began = p.began } ]).core
      by q u rest = at q.began
        where
          at : (b : Bool) → Onward g p.core (elim b as (λ _. Pass) [ true ↦ group_begins k f h q | false ↦ record { core = q.core; began = p.began } ]).core
          at true = onward_then p.core q.core (group_begins k f h q).core u (rest f h q)
          at false = u

  -- ---- no join is left waiting

  -- without a list, so many joins wait at most
  abbrev pub WaitsAtMost : ℕ → Core → Type 0
  WaitsAtMost k c = (row_of c g).list ≡ None → length (row_of c g).led.waiting.joins ≤ k

  at_most_on : (k : ℕ) (c d : Core) → Left g c d → WaitsAtMost k c → WaitsAtMost k d
  at_most_on k c d l few e =
      let none : (row_of c g).list ≡ None = none_held (row_of c g).list (λ h. held_none (row_of d g).list e (l.held h)) in
      let i = few none in
      let j = l.joins in omega arith

  -- where a group has no list, no failure of a member waits
  module _ (f : Answering) where
    nobody_fails : (xs : List Failure) → is_empty (filter (λ (x : Failure). among [] x.provider) xs) ≡ true
    nobody_fails [] = refl
    nobody_fails (x ∷ xs) = nobody_fails xs

    failures_none : (fuel : ℕ) (c : Core) → InNameOrder c.groups → (row_of c g).list ≡ None → ((failures_begin fuel f c g).began ≡ false) × ((row_of (failures_begin fuel f c g).core g).list ≡ None)
    unfolding failures_begin with_waiting with_led state_of list_of
    failures_none zero c o e = (refl, e)
    failures_none (suc k) c o e = by (is_empty out) empty (failures_none k)
      where
        out : List Failure
        out = filter (λ (x : Failure). among (state_of c g).members x.provider) (next_failures (state_of c g).attrs.batch (led_of c g).waiting)

        F : GroupRow → GroupRow
        F row = record row { led = record (row.led) { waiting = failures_left (state_of c g).attrs.batch row.led.waiting } }

        t : Core
        t = with_row c g F

        empty : is_empty out ≡ true
        empty =
            subst (λ (l : Option GroupView). is_empty (filter (λ (x : Failure). among (list_or_new l).state.members x.provider) (next_failures (state_of c g).attrs.batch (led_of c g).waiting)) ≡ true) (sym e) (nobody_fails (next_failures (state_of c g).attrs.batch (led_of c g).waiting))

        by : (b : Bool) → b ≡ true → ((c : Core) → InNameOrder c.groups → (row_of c g).list ≡ None → ((failures_begin k f c g).began ≡ false) × ((row_of (failures_begin k f c g).core g).list ≡ None)) → let p : Pass = elim b as (λ _. Pass) [ true ↦ failures_begin k f t g | false ↦ begun_now (begins f t g (Fail out) (state_of c g).attrs.phases) ] in (p.began ≡ false) × ((row_of p.core g).list ≡ None)
        by true q rest = rest t (rows_ordered g F (λ x. refl) c o) (ap (λ (row : GroupRow). row.list) (row_here g F (λ x. refl) c o) ∙ e)
        by false q rest = absurd (cc)

    -- nor is anything owed to a source
    source_none : (c : Core) → (row_of c g).list ≡ None → source_begins f c g (state_of c g) (state_of c g).attrs.source ≡ quiet c
    unfolding source_begins state_of list_of
    source_none c e = ap (λ (l : Option GroupView). source_begins f c g (list_or_new l).state (list_or_new l).state.attrs.source) e

    left_few : {A : Type 0} (b : Bool) (xs : List A) → length xs ≤ 1 → length (left_of b xs) ≤ 0
    left_few true xs e = omega arith
    left_few false [] e = omega arith
    left_few false (x ∷ []) e = omega arith
    left_few false (x ∷ y ∷ xs) e = omega arith

    -- the one join that waits begins, or is refused
    joins_none : (c : Core) → InNameOrder c.groups → length (row_of c g).led.waiting.joins ≤ 1 → (fuel : ℕ) → fuel ≡ length (row_of c g).led.waiting.joins → length (row_of (joins_begin fuel f c g).core g).led.waiting.joins ≤ 0
    unfolding joins_begin with_waiting with_led led_of
    joins_none c o few zero e = omega (arith, e)
    joins_none c o few (suc k) e = by (is_empty ps)
      where
        chosen : List ProviderId
        chosen = next_joins (state_of c g).attrs.batch (row_of c g).led.waiting

        a : Attrs
        a = attrs_for (state_of c g) (row_of c g).led.join_attrs chosen

        ps : List ProviderId
        ps = filter (λ (p : ProviderId). not (lacks_source c a.source p.node)) chosen

        out : List ProviderId
        out = filter (λ (p : ProviderId). lacks_source c a.source p.node) chosen

        F : GroupRow → GroupRow
        F row = record row { led = record (row.led) { waiting = joins_left (state_of c g).attrs.batch row.led.waiting } }

        d : Core
        d = with_row c g F

        after : Core
        after = source_refused d g a.source out

        left : length (row_of d g).led.waiting.joins ≤ 0
        left =
            let same : length (row_of d g).led.waiting.joins ≡ length (left_of (batches_joins (state_of c g).attrs.batch) (row_of c g).led.waiting.joins) = ap (λ (row : GroupRow). length row.led.waiting.joins) (row_here g F (λ x. refl) c o) in
            let z = left_few (batches_joins (state_of c g).attrs.batch) (row_of c g).led.waiting.joins few in omega arith

        refused_left : Left g d after
        refused_left = all_refused_onward g a.source out d (rows_ordered g F (λ x. refl) c o)

        rest_left : (e : Core) → Left g after e → length (row_of e g).led.waiting.joins ≤ 0
        rest_left e l = let i = l.joins in let j = refused_left.joins in let m = left in omega arith

        by : (b : Bool) → length (row_of (elim b as (λ _. Pass) [ true ↦ joins_begin k f after g | false ↦ begun_now (begins f after g (Join ps a (carried_len after a.source)) a.phases) ]).core g).led.waiting.joins ≤ 0
        by true = rest_left (joins_begin k f after g).core (joins_onward k f after g refused_left.order)
        by false = rest_left (begins f after g (Join ps a (carried_len after a.source)) a.phases) (begins_onward f after g (Join ps a (carried_len after a.source)) a.phases refused_left.order)

    -- the first of the four that is there
    first_none : (c : Core) → InNameOrder c.groups → WaitsAtMost 1 c → WaitsAtMost 0 (first_begins f c g (row_of c g)).core
    unfolding first_begins may_begin is_at_limit or_due or_joins led_of
    first_none c o few = by (row_of c g).list refl
      where
        kept : Left g c (first_begins f c g (row_of c g)).core
        kept = first_onward f c g (row_of c g) o

        fails : Pass
        fails = failures_begin (length (row_of c g).led.waiting.failures) f c g

        begins_new : may_begin (list_or_new None) ≡ true
        begins_new = refl

        by : (l : Option GroupView) → (row_of c g).list ≡ l → WaitsAtMost 0 (first_begins f c g (row_of c g)).core
        by (Some l) e none = absurd (held_none (row_of (first_begins f c g (row_of c g)).core g).list none (kept.held (ap (λ (z : Option GroupView). is_some z) e)))
        by None e none =
            subst (λ (p : Pass). length (row_of p.core g).led.waiting.joins ≤ 0) (sym first_is) joins
          where
            k : (fails.began ≡ false) × ((row_of fails.core g).list ≡ None)
            k = failures_none (length (row_of c g).led.waiting.failures) c o e

            l : Left g c fails.core
            l = failures_onward (length (row_of c g).led.waiting.failures) f c g o

            due_is : or_due f g fails ≡ quiet fails.core
            due_is = ap (λ b. elim b as (λ _. Pass) [ true ↦ fails | false ↦ source_begins f fails.core g (state_of fails.core g) (state_of fails.core g).attrs.source ]) k.0 ∙ source_none fails.core k.1

            joins_are : or_joins f g (quiet fails.core) ≡ joins_begin (length (led_of fails.core g).waiting.joins) f fails.core g
            joins_are = refl

            first_is : first_begins f c g (row_of c g) ≡ joins_begin (length (led_of fails.core g).waiting.joins) f fails.core g
            first_is =
                ap (λ b. elim b as (λ _. Pass) [ false ↦ quiet c | true ↦ or_joins f g (or_due f g fails) ]) (ap (λ z. may_begin (list_or_new z)) e ∙ begins_new) ∙ ap (or_joins f g) due_is ∙ joins_are

            joins : length (row_of (joins_begin (length (led_of fails.core g).waiting.joins) f fails.core g).core g).led.waiting.joins ≤ 0
            joins = joins_none fails.core l.order (at_most_on 1 c fails.core l few k.1) (length (row_of fails.core g).led.waiting.joins) refl

    group_none : (k : ℕ) (p : Pass) → InNameOrder p.core.groups → WaitsAtMost 1 p.core → WaitsAtMost 0 (group_begins (suc k) f g p).core
    unfolding group_begins
    group_none k p o few = by (first_begins f p.core g (row_of p.core g)) (first_onward f p.core g (row_of p.core g) o) (first_none p.core o few)
      where
        by : (q : Pass) → Left g p.core q.core → WaitsAtMost 0 q.core → WaitsAtMost 0 (elim q.began as (λ _. Pass) [ true ↦ group_begins k f g q | false ↦ record { core = q.core; began = p.began } ]).core
        by q l none = at q.began
          where
            at : (b : Bool) → WaitsAtMost 0 (elim b as (λ _. Pass) [ true ↦ group_begins k f g q | false ↦ record { core = q.core; began = p.began } ]).core
            at true = at_most_on 0 q.core (group_begins k f g q).core (group_onward k f g q l.order) none
            at false = none

    -- the groups in their turn: the group's own comes, or came
    groups_none : (k : ℕ) (hs : List (List ℕ)) (p : Pass) → InNameOrder p.core.groups → WaitsAtMost 1 p.core → Has g hs ⊎ WaitsAtMost 0 p.core → InNameOrder (fold (λ p h. group_begins (suc k) f h p) p hs).core.groups × WaitsAtMost 0 (fold (λ p h. group_begins (suc k) f h p) p hs).core
    groups_none k [] p o few (inl h) = absurd h
    groups_none k [] p o few (inr z) = (o, z)
    groups_none k (h ∷ hs) p o few (inr z) =
        let l : Left g p.core (group_begins (suc k) f h p).core = group_onward (suc k) f h p o in
        groups_none k hs (group_begins (suc k) f h p) l.order (at_most_on 1 p.core (group_begins (suc k) f h p).core l few) (inr (at_most_on 0 p.core (group_begins (suc k) f h p).core l z))
    groups_none k (h ∷ hs) p o few (inl (inl e)) =
        let l : Left g p.core (group_begins (suc k) f h p).core = group_onward (suc k) f h p o in
        groups_none k hs (group_begins (suc k) f h p) l.order (at_most_on 1 p.core (group_begins (suc k) f h p).core l few) (inr (subst (λ x. WaitsAtMost 0 (group_begins (suc k) f x p).core) e (group_none k p o few)))
    groups_none k (h ∷ hs) p o few (inl (inr i)) =
        let l : Left g p.core (group_begins (suc k) f h p).core = group_onward (suc k) f h p o in
        groups_none k hs (group_begins (suc k) f h p) l.order (at_most_on 1 p.core (group_begins (suc k) f h p).core l few) (inl i)

    -- a led group comes, and one without a row has nothing that waits
    comes : (c : Core) → leads c g ≡ true → Has g (led_groups c) ⊎ WaitsAtMost 0 c
    unfolding leads led_groups row_of
    comes c led = by (find (has_name g) c.groups) refl
      where
        by : (o : Option GroupRow) → find (has_name g) c.groups ≡ o → Has g (led_groups c) ⊎ WaitsAtMost 0 c
        by None e = inr (λ q. let z : length (row_found g (find (has_name g) c.groups)).led.waiting.joins ≡ 0 = ap (λ o. length (row_found g o).led.waiting.joins) e in omega arith)
        by (Some row) e =
            let h = find_has (has_name g) c.groups row e in
            let in_order : leads_in c row ≡ true = ap (λ o. leads_in c (row_found g o)) (sym e) ∙ led in
            let i = map_has (λ (row : GroupRow). row.name) row (filter (leads_in c) c.groups) (filter_has (leads_in c) row c.groups h.0 in_order) in
            inl (subst (λ z. Has z (led_groups c)) (text_same row.name g h.1) i)

    pass_none : (k : ℕ) (c : Core) → InNameOrder c.groups → WaitsAtMost 1 c → Has g (led_groups c) ⊎ WaitsAtMost 0 c → InNameOrder (one_pass (suc k) f c).core.groups × WaitsAtMost 0 (one_pass (suc k) f c).core
    unfolding one_pass
    pass_none k c o few z = groups_none k (led_groups c) (quiet c) o few z

    passes_none : (n k : ℕ) (c : Core) → InNameOrder c.groups → WaitsAtMost 0 c → WaitsAtMost 0 (passes n (suc k) f c)
    unfolding passes
    passes_none zero k c o z = z
    passes_none (suc n) k c o z = by (one_pass (suc k) f c) (pass_none k c o (λ e. let i = z e in omega arith) (inr z)) (passes_none n)
      where
        by : (p : Pass) → InNameOrder p.core.groups × WaitsAtMost 0 p.core → ((k : ℕ) (c : Core) → InNameOrder c.groups → WaitsAtMost 0 c → WaitsAtMost 0 (passes n (suc k) f c)) → WaitsAtMost 0 (elim p.began as (λ _. Core) [ true ↦ passes n (suc k) f p.core | false ↦ p.core ])
        by p u rest = at p.began
          where
            at : (b : Bool) → WaitsAtMost 0 (elim b as (λ _. Core) [ true ↦ passes n (suc k) f p.core | false ↦ p.core ])
            at true = rest k p.core u.0 u.1
            at false = u.1

    -- in a group that the node leads no join is left waiting without a list
    pub led_begun : (n k : ℕ) (c : Core) → InNameOrder c.groups → leads c g ≡ true → WaitsAtMost 1 c → WaitsAtMost 0 (passes (suc n) (suc k) f c)
    unfolding passes
    led_begun n k c o led few = by (one_pass (suc k) f c) (pass_none k c o few (comes c led))
      where
        by : (p : Pass) → InNameOrder p.core.groups × WaitsAtMost 0 p.core → WaitsAtMost 0 (elim p.began as (λ _. Core) [ true ↦ passes n (suc k) f p.core | false ↦ p.core ])
        by p u = at p.began
          where
            at : (b : Bool) → WaitsAtMost 0 (elim b as (λ _. Core) [ true ↦ passes n (suc k) f p.core | false ↦ p.core ])
            at true = passes_none n k p.core u.0 u.1
            at false = u.1
