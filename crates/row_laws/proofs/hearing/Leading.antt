-- What the leader of a group does, change by change: it appends, closes phases, begins protocols, and ends a step.
use Rattle.std.proofs.Common.{ℕ, zero, suc, List, [], ◌∷◌, length, Option, Some, None, Bool, true, false, refl, sym, ◌∙◌, subst}
use Rattle.std.specs.Prelude.{not, filter, fold}
use Rattle.rsct_packet.specs.declared.ids.ProviderId.{ProviderId}
use Rattle.rsct_packet.specs.Lists.{is_empty}
use Rattle.rsct_packet.specs.Providers.{among}
use Rattle.group_attr.specs.declared.attrs.Phases.{Phases}
use Rattle.group_attr.specs.declared.attrs.Phases.TheVariants.{One, Many}
use Rattle.group_attr.specs.declared.attrs.Attrs.{Attrs}
use Rattle.proposal_core.specs.declared.proposal.Cause.{Cause}
use Rattle.proposal_core.specs.declared.proposal.Cause.TheVariants.{Died, Gone}
use Rattle.proposal_core.specs.declared.proposal.Failure.{Failure}
use Rattle.proposal_core.specs.declared.proposal.Proposal.{Proposal}
use Rattle.proposal_core.specs.declared.proposal.Proposal.TheVariants.{Join, Fail, Reflect}
use Rattle.proposal_core.specs.declared.entry.Entry.{Entry}
use Rattle.proposal_core.specs.declared.entry.Entry.TheVariants.{Once, Begin}
use Rattle.proposal_core.specs.declared.group_state.GroupState.{GroupState}
use Rattle.proposal_core.specs.Lists.{list_or_new}
use Rattle.batch_rules.specs.Waiting.{add_failure, batches_failures, chosen_of, next_failures, failures_left, next_joins, joins_left}
use Rattle.source_target.specs.declared.Due.{Due}
use Rattle.source_target.specs.declared.Due.TheVariants as due
use Rattle.source_target.specs.Due as target
use Rattle.client_callbacks.specs.declared.told.Why.{Why}
use Rattle.client_callbacks.specs.declared.told.Why.TheVariants.{NoSource}
use Rattle.vote_phases.specs.Tally.{TallyView}
use Rattle.node_state.specs.declared.group.GroupRow.{GroupRow}
use Rattle.node_state.specs.declared.packet.Body.TheVariants as body
use Rattle.node_state.specs.declared.state.Core.{Core}
use Rattle.node_state.specs.State.{InNameOrder, row_of, with_led, led_of, state_of, len_of, list_forgotten, forget_below, frozen, led_groups, leader_of, others, least_acked, fits_at_end, decisions_with}
use Rattle.node_state.specs.Sending.{send_all}
use Rattle.node_state.specs.HandOn.{Answering, hand_on}
use Rattle.node_state.specs.Leading.{put, forget_least, with_waiting, wait_if, new_members_wait, appended, append_if_fits, begin_many, begins, tally_set, tally_for, tally_opened, closing_entry, is_phase, closes_from, closes}
use Rattle.proposal_core.specs.Fold.{max_phases}
use Rattle.node_state.specs.Deciding.{keep_decision, refused, known_state, lacks_source, source_len}
use Rattle.node_state.specs.Ending.{Pass, quiet, begun_now, failures_begin, due_begins, source_begins, attrs_for, carried_len, source_refused, joins_begin, or_due, or_joins, may_begin, first_begins, group_begins, one_pass, passes, most_begun, end_step}
use Rattle.row_laws.proofs.hearing.Changes.{Sends, Onward, onward_same, onward_then, onward_sends, onward_row, onward_led, sends_one, sends_all, same_sends, put_order, put_views, handed_onward}
use Rattle.step_walk.proofs.Asides.{forgotten_len, forgotten_state}

-- ---- appending

pub waits_onward : (c : Core) (h : List ℕ) (p : ProviderId) (why : Cause) → Onward c (with_waiting c h (add_failure p why))
unfolding with_waiting
waits_onward c h p why =
    onward_led c h (λ l. record l { waiting = add_failure p why l.waiting })

waits_if_onward : (c : Core) (h : List ℕ) (p : ProviderId) (a b : Bool) → Onward c (wait_if c h p a b)
unfolding wait_if
waits_if_onward c h p true b = waits_onward c h p Died
waits_if_onward c h p false true = waits_onward c h p Gone
waits_if_onward c h p false false = onward_same c

pub new_onward : (h : List ℕ) (after : GroupState) (gone ps : List ProviderId) (c : Core) → Onward c (fold (λ d p. wait_if d h p (among after.failed p) (among gone p)) c ps)
new_onward h after gone [] c = onward_same c
new_onward h after gone (p ∷ ps) c =
    let d : Core = wait_if c h p (among after.failed p) (among gone p) in
    onward_then c d (fold (λ d p. wait_if d h p (among after.failed p) (among gone p)) d ps) (waits_if_onward c h p (among after.failed p) (among gone p)) (new_onward h after gone ps d)

pub forgets_onward : (c : Core) (h : List ℕ) (m : ℕ) → Onward c (forget_below c h m)
unfolding forget_below
forgets_onward c h m = onward_row c h (λ row. record row { list = list_forgotten m row.list }) (λ x. refl) (λ row. forgotten_len m row.list) (λ row. forgotten_state m row.list)

pub appended_onward : (f : Answering) (c : Core) (h : List ℕ) (e : Entry) → Onward c (appended f c h e)
unfolding appended new_members_wait forget_least
appended_onward f c h e o =
    let t : Core = put c h e in
    let b = body.Entry t.views.view h (len_of c h) (least_acked t h) e in
    let u : Core = send_all t (others t) b in
    let w : Core = hand_on f u (leader_of u h) h (len_of c h) (state_of c h) (state_of t h) e in
    let x : Core = forget_below w h (least_acked w h) in
    let out : List ProviderId = filter (λ p. not (among (state_of c h).members p)) (state_of t h).members in
    let last : Core = fold (λ d p. wait_if d h p (among (state_of t h).failed p) (among (led_of x h).gone p)) x out in
    let sends : Sends t u = sends_all t (others t) b in
    let order : InNameOrder u.groups = subst InNameOrder (sym sends.groups) (put_order c h e o) in
    onward_then c w last (λ z. handed_onward f c u (leader_of u h) h e o order (sends.views ∙ put_views c h e) (same_sends t u sends)) (onward_then w x last (forgets_onward w h (least_acked w h)) (new_onward h (state_of t h) (led_of x h).gone out x)) o

pub tally_onward : (c : Core) (h : List ℕ) (o : Option TallyView) → Onward c (tally_set c h o)
unfolding tally_set
tally_onward c h o = onward_led c h (λ l. record l { tally = o; given = [] })

pub opened_onward : (c : Core) (h : List ℕ) → Onward c (tally_opened c h)
unfolding tally_opened
opened_onward c h = tally_onward c h (Some (tally_for (state_of c h) (led_of c h).gone))

pub closes_onward : (fuel : ℕ) (f : Answering) (c : Core) (h : List ℕ) → Onward c (closes_from fuel f c h)
unfolding closes_from
closes_onward zero f c h = onward_same c
closes_onward (suc k) f c h = by (closing_entry (led_of c h) (led_of c h).tally (state_of c h).running) (closes_onward k)
  where
    phase : (e : Entry) → ((f : Answering) (d : Core) (j : List ℕ) → Onward d (closes_from k f d j)) → (b : Bool) → Onward c (elim b as (λ _. Core) [ true ↦ closes_from k f (tally_opened (appended f c h e) h) h | false ↦ tally_set (appended f c h e) h None ])
    phase e rest true =
        onward_then c (appended f c h e) (closes_from k f (tally_opened (appended f c h e) h) h) (appended_onward f c h e) (onward_then (appended f c h e) (tally_opened (appended f c h e) h) (closes_from k f (tally_opened (appended f c h e) h) h) (opened_onward (appended f c h e) h) (rest f (tally_opened (appended f c h e) h) h))
    phase e rest false = onward_then c (appended f c h e) (tally_set (appended f c h e) h None) (appended_onward f c h e) (tally_onward (appended f c h e) h None)

    fits : (e : Entry) → ((f : Answering) (d : Core) (j : List ℕ) → Onward d (closes_from k f d j)) → (b : Bool) → Onward c (elim b as (λ _. Core) [ false ↦ c | true ↦ elim (is_phase e) as (λ _. Core) [ true ↦ closes_from k f (tally_opened (appended f c h e) h) h | false ↦ tally_set (appended f c h e) h None ] ])
    fits e rest false = onward_same c
    fits e rest true = phase e rest (is_phase e)

    by : (o : Option Entry) → ((f : Answering) (d : Core) (j : List ℕ) → Onward d (closes_from k f d j)) → Onward c (elim o as (λ _. Core) [ None ↦ c | Some e ↦ elim (fits_at_end c h e) as (λ _. Core) [ false ↦ c | true ↦ elim (is_phase e) as (λ _. Core) [ true ↦ closes_from k f (tally_opened (appended f c h e) h) h | false ↦ tally_set (appended f c h e) h None ] ] ])
    by None rest = onward_same c
    by (Some e) rest = fits e rest (fits_at_end c h e)

pub begins_onward : (f : Answering) (c : Core) (h : List ℕ) (x : Proposal) (phases : Phases) → Onward c (begins f c h x phases)
unfolding begins append_if_fits begin_many closes
begins_onward f c h x One = by (fits_at_end c h (Once x))
  where
    by : (b : Bool) → Onward c (append_if_fits f c h (Once x) b)
    by false = onward_same c
    by true = appended_onward f c h (Once x)
begins_onward f c h x Many = by (fits_at_end c h (Begin x))
  where
    by : (b : Bool) → Onward c (begin_many f c h x b)
    by false = onward_same c
    by true =
        let d : Core = appended f c h (Begin x) in
        onward_then c d (closes f (tally_opened d h) h) (appended_onward f c h (Begin x)) (onward_then d (tally_opened d h) (closes f (tally_opened d h) h) (opened_onward d h) (closes_onward max_phases f (tally_opened d h) h))

-- ---- what waits begins

failures_onward : (fuel : ℕ) (f : Answering) (c : Core) (h : List ℕ) → Onward c (failures_begin fuel f c h).core
unfolding failures_begin with_waiting
failures_onward zero f c h = onward_same c
failures_onward (suc k) f c h = by (is_empty out) (failures_onward k)
  where
    out : List Failure
    out = filter (λ (x : Failure). among (state_of c h).members x.provider) (next_failures (state_of c h).attrs.batch (led_of c h).waiting)

    t : Core
    t = with_led c h (λ l. record l { waiting = failures_left (state_of c h).attrs.batch l.waiting })

    first : Onward c t
    first = onward_led c h (λ l. record l { waiting = failures_left (state_of c h).attrs.batch l.waiting })

    by : (b : Bool) → ((f : Answering) (d : Core) (j : List ℕ) → Onward d (failures_begin k f d j).core) → Onward c (elim b as (λ _. Pass) [ true ↦ failures_begin k f t h | false ↦ begun_now (begins f t h (Fail (filter (λ (x : Failure). among (state_of c h).members x.provider) (next_failures (state_of c h).attrs.batch (led_of c h).waiting))) (state_of c h).attrs.phases) ]).core
    by true rest = onward_then c t (failures_begin k f t h).core first (rest f t h)
    by false rest =
        onward_then c t (begins f t h (Fail (filter (λ (x : Failure). among (state_of c h).members x.provider) (next_failures (state_of c h).attrs.batch (led_of c h).waiting))) (state_of c h).attrs.phases) first (begins_onward f t h (Fail (filter (λ (x : Failure). among (state_of c h).members x.provider) (next_failures (state_of c h).attrs.batch (led_of c h).waiting))) (state_of c h).attrs.phases)

source_onward : (f : Answering) (c : Core) (h : List ℕ) (st : GroupState) (o : Option (List ℕ)) → Onward c (source_begins f c h st o).core
unfolding source_begins due_begins
source_onward f c h st None = onward_same c
source_onward f c h st (Some k) = by (target.due st (known_state c k))
  where
    by : (o : Option Due) → Onward c (due_begins f c h st k o).core
    by None = onward_same c
    by (Some (due.CastOut out)) = begins_onward f c h (Fail (chosen_of (batches_failures st.attrs.batch) out)) st.attrs.phases
    by (Some (due.Reflect v i)) = begins_onward f c h (Reflect v i (state_of c k).value) st.attrs.source_phases

pub refused_onward : (c : Core) (h : List ℕ) (p : ProviderId) (r : ℕ) (why : Why) → Onward c (refused c h p r why)
unfolding refused keep_decision
refused_onward c h p r why =
    let d : Core = keep_decision c h p r (Some why) in
    onward_then c d (refused c h p r why) (onward_led c h (λ l. record l { decided = decisions_with (record { provider = p; request = r; why = Some why }) l.decided })) (onward_sends d (refused c h p r why) (sends_one d _ _))

all_refused_onward : (h : List ℕ) (src : Option (List ℕ)) (ps : List ProviderId) (c : Core) → Onward c (source_refused c h src ps)
unfolding source_refused
all_refused_onward h src [] c = onward_same c
all_refused_onward h src (p ∷ ps) c =
    let d : Core = refused c h p p.join (NoSource (source_len c src)) in
    onward_then c d (source_refused d h src ps) (refused_onward c h p p.join (NoSource (source_len c src))) (all_refused_onward h src ps d)

joins_onward : (fuel : ℕ) (f : Answering) (c : Core) (h : List ℕ) → Onward c (joins_begin fuel f c h).core
unfolding joins_begin with_waiting
joins_onward zero f c h = onward_same c
joins_onward (suc k) f c h = by (is_empty ps) (joins_onward k)
  where
    chosen : List ProviderId
    chosen = next_joins (state_of c h).attrs.batch (led_of c h).waiting

    a : Attrs
    a = attrs_for (state_of c h) (led_of c h).join_attrs chosen

    ps : List ProviderId
    ps = filter (λ (p : ProviderId). not (lacks_source c a.source p.node)) chosen

    out : List ProviderId
    out = filter (λ (p : ProviderId). lacks_source c a.source p.node) chosen

    d : Core
    d = with_led c h (λ l. record l { waiting = joins_left (state_of c h).attrs.batch l.waiting })

    after : Core
    after = source_refused d h a.source out

    first : Onward c after
    first =
        onward_then c d after (onward_led c h (λ l. record l { waiting = joins_left (state_of c h).attrs.batch l.waiting })) (all_refused_onward h a.source out d)

    by : (b : Bool) → ((f : Answering) (d : Core) (j : List ℕ) → Onward d (joins_begin k f d j).core) → Onward c (elim b as (λ _. Pass) [ true ↦ joins_begin k f after h | false ↦ begun_now (begins f after h (Join ps a (carried_len after a.source)) a.phases) ]).core
    by true rest = onward_then c after (joins_begin k f after h).core first (rest f after h)
    by false rest =
        onward_then c after (begins f after h (Join ps a (carried_len after a.source)) a.phases) first (begins_onward f after h (Join ps a (carried_len after a.source)) a.phases)

due_onward : (f : Answering) (h : List ℕ) (p : Pass) → Onward p.core (or_due f h p).core
unfolding or_due
due_onward f h p = by p.began
  where
    by : (b : Bool) → Onward p.core (elim b as (λ _. Pass) [ true ↦ p | false ↦ source_begins f p.core h (state_of p.core h) (state_of p.core h).attrs.source ]).core
    by true = onward_same p.core
    by false = source_onward f p.core h (state_of p.core h) (state_of p.core h).attrs.source

or_joins_onward : (f : Answering) (h : List ℕ) (p : Pass) → Onward p.core (or_joins f h p).core
unfolding or_joins
or_joins_onward f h p = by p.began
  where
    by : (b : Bool) → Onward p.core (elim b as (λ _. Pass) [ true ↦ p | false ↦ joins_begin (length (led_of p.core h).waiting.joins) f p.core h ]).core
    by true = onward_same p.core
    by false = joins_onward (length (led_of p.core h).waiting.joins) f p.core h

first_onward : (f : Answering) (c : Core) (h : List ℕ) (row : GroupRow) → Onward c (first_begins f c h row).core
unfolding first_begins
first_onward f c h row = by (may_begin (list_or_new row.list))
  where
    q : Pass
    q = failures_begin (length row.led.waiting.failures) f c h

    by : (b : Bool) → Onward c (elim b as (λ _. Pass) [ false ↦ quiet c | true ↦ or_joins f h (or_due f h q) ]).core
    by false = onward_same c
    by true =
        onward_then c q.core (or_joins f h (or_due f h q)).core (failures_onward (length row.led.waiting.failures) f c h) (onward_then q.core (or_due f h q).core (or_joins f h (or_due f h q)).core (due_onward f h q) (or_joins_onward f h (or_due f h q)))

pub group_onward : (fuel : ℕ) (f : Answering) (h : List ℕ) (p : Pass) → Onward p.core (group_begins fuel f h p).core
unfolding group_begins
group_onward zero f h p = onward_same p.core
group_onward (suc k) f h p = by (first_begins f p.core h (row_of p.core h)) (first_onward f p.core h (row_of p.core h)) (group_onward k)
  where
    by : (q : Pass) → Onward p.core q.core → ((f : Answering) (h : List ℕ) (p : Pass) → Onward p.core (group_begins k f h p).core) → Onward p.core (elim q.began as (λ _. Pass) [ true ↦ group_begins k f h q | false ↦ record { core = q.core; began = p.began } ]).core
    by q u rest = at q.began
      where
        at : (b : Bool) → Onward p.core (elim b as (λ _. Pass) [ true ↦ group_begins k f h q | false ↦ record { core = q.core; began = p.began } ]).core
        at true = onward_then p.core q.core (group_begins k f h q).core u (rest f h q)
        at false = u

groups_onward : (most : ℕ) (f : Answering) (hs : List (List ℕ)) (p : Pass) → Onward p.core (fold (λ p h. group_begins most f h p) p hs).core
groups_onward most f [] p = onward_same p.core
groups_onward most f (h ∷ hs) p =
    let q : Pass = group_begins most f h p in
    onward_then p.core q.core (fold (λ p h. group_begins most f h p) q hs).core (group_onward most f h p) (groups_onward most f hs q)

passes_onward : (n most : ℕ) (f : Answering) (c : Core) → Onward c (passes n most f c)
unfolding passes one_pass
passes_onward zero most f c = onward_same c
passes_onward (suc k) most f c = by (one_pass most f c) (groups_onward most f (led_groups c) (quiet c)) (passes_onward k)
  where
    by : (p : Pass) → Onward c p.core → ((most : ℕ) (f : Answering) (c : Core) → Onward c (passes k most f c)) → Onward c (elim p.began as (λ _. Core) [ true ↦ passes k most f p.core | false ↦ p.core ])
    by p u rest = at p.began
      where
        at : (b : Bool) → Onward c (elim b as (λ _. Core) [ true ↦ passes k most f p.core | false ↦ p.core ])
        at true = onward_then c p.core (passes k most f p.core) u (rest most f p.core)
        at false = u

-- the end of a step
pub end_onward : (f : Answering) (c : Core) → Onward c (end_step f c)
unfolding end_step
end_onward f c = by (frozen c)
  where
    by : (b : Bool) → Onward c (elim b as (λ _. Core) [ true ↦ c | false ↦ passes (most_begun c) (most_begun c) f c ])
    by true = onward_same c
    by false = passes_onward (most_begun c) (most_begun c) f c
