-- What a node has sent and still owes, with what it puts: a leader that closes a phase for good asks nobody to vote, so
-- its put pays for the packets and for those that it may owe to say that they are gone.
use Rattle.std.proofs.Common.{◌≡◌, ◌≤◌, ℕ, zero, suc, ◌+◌, ◌*◌, List, [], ◌∷◌, ◌++◌, length, filter, fold, flat_map, Some, None, Option, Bool, true, false, refl, sym, ap, ◌∙◌, subst, arith, length-append}
use Rattle.std.specs.Prelude.{not, is_some, nat_le, max, drop, ◌-◌, if◌then◌else◌}
use Rattle.rsct_packet.specs.declared.ids.ProviderId.{ProviderId}
use Rattle.rsct_packet.specs.Providers.{among}
use Rattle.proposal_core.specs.declared.proposal.Cause.{Cause}
use Rattle.proposal_core.specs.declared.proposal.Cause.TheVariants.{Died, Gone}
use Rattle.proposal_core.specs.declared.entry.Vote.{Vote}
use Rattle.proposal_core.specs.declared.entry.Vote.TheVariants as vote
use Rattle.proposal_core.specs.declared.entry.Entry.{Entry}
use Rattle.proposal_core.specs.declared.entry.Entry.TheVariants.{Once, Begin, Phase, Approve, Reject, Late}
use Rattle.client_callbacks.specs.declared.ballot.Filled.{Filled}
use Rattle.proposal_core.specs.declared.group_state.GroupState.{GroupState}
use Rattle.proposal_core.specs.declared.group_state.Running.{Running}
use Rattle.proposal_core.specs.Fold.{max_phases, present, joiners_in}
use Rattle.proposal_core.specs.GroupView.{GroupView}
use Rattle.proposal_core.specs.Lists.{list_or_new, state_in, with_entry, forgotten}
use Rattle.vote_phases.specs.Tally.{TallyView, outcome}
use Rattle.batch_rules.specs.Waiting.{add_failure}
use Rattle.session_state.specs.declared.casts.Cast.{Cast}
use Rattle.session_state.specs.declared.state.SessionState.{SessionState}
use Rattle.session_state.specs.HandOn.{asks, cast_with, cast_of, casts_of, casts_out, hearers, kept_by}
use Rattle.session_state.specs.HandOn as session
use Rattle.view_state.specs.declared.views.Views.{Views}
use Rattle.node_state.specs.declared.group.GroupRow.{GroupRow}
use Rattle.node_state.specs.declared.group.Led.{Led}
use Rattle.node_state.specs.declared.packet.Body.{Body}
use Rattle.node_state.specs.declared.packet.Body.TheVariants as body
use Rattle.node_state.specs.declared.state.Core.{Core}
use Rattle.node_state.specs.State.{row_of, with_row, with_led, led_of, list_of, state_of, len_of, list_forgotten, forget_below, fits_at_end, frozen, leader_of, led_groups, others, least_acked, recorded, recorded_all, with_sessions}
use Rattle.node_state.specs.Sending.{sent, send_all}
use Rattle.node_state.specs.HandOn.{Answering, fills, heard, noted, cast_sent_of, casts_sent, hand_on}
use Rattle.node_state.specs.Leading.{put, forget_least, with_waiting, wait_if, new_members_wait, appended, tally_set, tally_for, tally_opened, closed_by, value_of, closing, closing_of, closing_entry, is_phase, closes_from, closes}
use Rattle.node_state.specs.Applying.{wait_failed, phase_reopened, lead, lead_groups}
use Rattle.node_state.proofs.NameOrder.{row_here}
use Rattle.send_laws.specs.Bound.{is_own, puts_of, waits_of, owned_of, Room, Stands}
use Rattle.send_laws.specs.Lasting.{FewBody}
use Rattle.send_laws.proofs.Counts.{kept_few, own_in, owned_with}
use Rattle.send_laws.proofs.Rooms.{room_after}
use Rattle.send_laws.proofs.Parts.{Goes, free_then, goes_led, goes_sent_all, goes_recorded_all, goes_sessions}
use Rattle.send_laws.proofs.Hands.{no_put_heard, goes_noted}
use Rattle.send_laws.proofs.Leads.{Puts, puts_put, failure_joins, goes_forgets_least, others_few}
use Rattle.send_laws.proofs.Owed.{Sends, sends_fold, sends_sent, groups_same, sessions_same}
use Rattle.send_laws.proofs.Sessions.{Less, less_same, ballots_of, less_silent}
use Rattle.send_laws.proofs.Filling.{noted_groups, put_sessions}
use Rattle.send_laws.proofs.Reopened.{reopened_ends}

abbrev pub owned : Core → List GroupRow → ℕ
owned s rows = owned_of s.views.me s.views.inc rows

-- what was sent, what waits, and what is owed
abbrev pub purse : Core → ℕ
purse s = length s.sends + waits_of s.groups + (length s.sessions.requests + length s.sessions.kept + length s.sessions.providers + owned s s.groups)

pub record Spends (c : ℕ) (s t : Core) : Type 0 where
  pub within : purse t + 100 * puts_of s.records ≤ purse s + 100 * puts_of t.records + c
  pub stands : Stands t
  pub views : t.views ≡ s.views

pub spends_same : (s : Core) → Stands s → Spends 0 s s
spends_same s k = record { within = omega arith; stands = k; views = refl }

pub spends_free : (s t u : Core) → Spends 0 s t → Spends 0 t u → Spends 0 s u
spends_free s t u x y = record { within = omega (arith, x.within, y.within); stands = y.stands; views = y.views ∙ x.views }

pub spends_fold : {A : Type 0} (f : Core → A → Core) → ((s : Core) (x : A) → Stands s → Spends 0 s (f s x)) → (xs : List A) (s : Core) → Stands s → Spends 0 s (fold f s xs)
spends_fold f one [] s k = spends_same s k
spends_fold f one (x ∷ xs) s k =
    let a : Spends 0 s (f s x) = one s x k in
    spends_free s (f s x) (fold f (f s x) xs) a (spends_fold f one xs (f s x) a.stands)

-- the same node counts
pub owned_there : (s t : Core) → t.views ≡ s.views → (rows : List GroupRow) → owned t rows ≡ owned s rows
owned_there s t e rows = ap (λ (v : Views). owned_of v.me v.inc rows) e

-- where neither sessions nor lists grow
pub spends_goes : (c : ℕ) (s t : Core) → Goes c s t → Less 0 s.sessions t.sessions → owned s t.groups ≤ owned s s.groups → Spends c s t
spends_goes c s t g less own =
    let same : owned t t.groups ≡ owned s t.groups = owned_there s t g.views t.groups in
    record { within = omega (arith, g.within, less.kept, less.requests, less.providers, own, same); stands = g.stands; views = g.views }

pub less_by : (s t : SessionState) → t ≡ s → Less 0 s t
less_by s t e = subst (Less 0 s) (sym e) (less_same s)

-- ---- what is led changes

led_owned : (n inc : ℕ) (s : Core) (g : List ℕ) (change : Led → Led) → Stands s → owned_of n inc (with_led s g change).groups ≤ owned_of n inc s.groups
unfolding with_led with_row
led_owned n inc s g change k =
    let z = owned_with n inc g (λ row. record row { led = change row.led }) s.groups k.order in omega (arith, z)

led_sessions : (s : Core) (g : List ℕ) (change : Led → Led) → (with_led s g change).sessions ≡ s.sessions
unfolding with_led with_row
led_sessions s g change = refl

spends_led : (s : Core) (g : List ℕ) (change : Led → Led) → Stands s → length (change (led_of s g)).waiting.joins ≤ length (led_of s g).waiting.joins → Spends 0 s (with_led s g change)
spends_led s g change k few =
    spends_goes 0 s (with_led s g change) (goes_led s g change k few) (less_by s.sessions (with_led s g change).sessions (led_sessions s g change)) (led_owned s.views.me s.views.inc s g change k)

spends_failure : (s : Core) (g : List ℕ) (p : ProviderId) (c : Cause) → Stands s → Spends 0 s (with_waiting s g (add_failure p c))
unfolding with_waiting
spends_failure s g p c k =
    let e = failure_joins p c (led_of s g).waiting in
    spends_led s g (λ l. record l { waiting = add_failure p c l.waiting }) k (subst (λ z. length z ≤ length (led_of s g).waiting.joins) (sym e) (omega arith))

spends_waits_if : (s : Core) (g : List ℕ) (p : ProviderId) (failed gone : Bool) → Stands s → Spends 0 s (wait_if s g p failed gone)
unfolding wait_if
spends_waits_if s g p true gone k = spends_failure s g p Died k
spends_waits_if s g p false true k = spends_failure s g p Gone k
spends_waits_if s g p false false k = spends_same s k

spends_members : (s : Core) (g : List ℕ) (before after : GroupState) → Stands s → Spends 0 s (new_members_wait s g before after)
unfolding new_members_wait
spends_members s g before after k =
    spends_fold (λ t p. wait_if t g p (among after.failed p) (among (led_of s g).gone p)) (λ t p h. spends_waits_if t g p (among after.failed p) (among (led_of s g).gone p) h) (filter (λ p. not (among before.members p)) after.members) s k

spends_tally : (s : Core) (g : List ℕ) (t : Option TallyView) → Stands s → Spends 0 s (tally_set s g t)
unfolding tally_set
spends_tally s g t k = spends_led s g (λ l. record l { tally = t; given = [] }) k (omega arith)

-- ---- lists

forgot_state : (n : ℕ) (l : Option GroupView) → state_in (list_forgotten n l) ≡ state_in l
unfolding forgotten
forgot_state n None = refl
forgot_state n (Some l) = by (nat_le n l.len)
  where
    by : (b : Bool) → state_in (Some (if b then record l { start = max l.start n; entries = drop (n - l.start) l.entries } else l)) ≡ l.state
    by true = refl
    by false = refl

forgets_sessions : (s : Core) (g : List ℕ) → (forget_least s g).sessions ≡ s.sessions
unfolding forget_least forget_below with_row
forgets_sessions s g = refl

forgets_owned : (s : Core) (g : List ℕ) → Stands s → owned s (forget_least s g).groups ≤ owned s s.groups
unfolding forget_least forget_below with_row row_of
forgets_owned s g k =
    let n : ℕ = least_acked s g in
    let f : GroupRow → GroupRow = λ row. record row { list = list_forgotten n row.list } in
    let row : GroupRow = row_of s g in
    let e : own_in s.views.me s.views.inc (f row) ≡ own_in s.views.me s.views.inc row = ap (λ st. length (filter (is_own s.views.me s.views.inc) (present st))) (forgot_state n row.list) in
    let z = owned_with s.views.me s.views.inc g f s.groups k.order in
    omega (arith, z, e)

spends_forgets : (s : Core) (g : List ℕ) → Stands s → Spends 0 s (forget_least s g)
spends_forgets s g k =
    spends_goes 0 s (forget_least s g) (goes_forgets_least s g k) (less_by s.sessions (forget_least s g).sessions (forgets_sessions s g)) (forgets_owned s g k)

-- at most 64 providers of a state are
own_few : (n inc : ℕ) (st : GroupState) → Room st → length (filter (is_own n inc) (present st)) ≤ 64
own_few n inc st r =
    omega (arith, kept_few (is_own n inc) (present st), length-append st.members (joiners_in st.running), r)

put_owned : (s : Core) (g : List ℕ) (e : Entry) → Stands s → owned s (put s g e).groups ≤ owned s s.groups + 64
unfolding put recorded with_row with_entry state_of list_of row_of
put_owned s g e k =
    let f : GroupRow → GroupRow = λ row. record row { list = Some (with_entry (list_or_new row.list) s.views.view e) } in
    let l : GroupView = list_of s g in
    let z = owned_with s.views.me s.views.inc g f s.groups k.order in
    let few : own_in s.views.me s.views.inc (f (row_of s g)) ≤ 64 = own_few s.views.me s.views.inc (with_entry l s.views.view e).state (room_after l.state s.views.view l.len e (k.room g)) in
    omega (arith, z, few)

-- ---- entries that close a phase for good

abbrev pub Closing : Entry → Type 0
Closing (Approve c) = Unit {0}
Closing (Reject c) = Unit {0}
Closing _ = ⊥

-- nobody is asked to vote
not_asked : (e : Entry) → Closing e → (st : GroupState) (p : ProviderId) → asks e st p ≡ false
unfolding asks
not_asked (Once x) c st p = absurd c
not_asked (Begin x) c st p = absurd c
not_asked (Phase x) c st p = absurd c
not_asked (Approve x) c st p = refl
not_asked (Reject x) c st p = refl
not_asked (Late proto phase ps) c st p = absurd c

abbrev Silent : List Cast → Type 0
Silent [] = Unit {0}
Silent (c ∷ cs) = (c.cast ≡ None) × Silent cs

casts_silent : (e : Entry) (st : GroupState) (level : ℕ) → ((p : ProviderId) → asks e st p ≡ false) → (ps : List ProviderId) (bs : List (Option Filled)) → Silent (casts_of e st level ps bs)
unfolding cast_of
casts_silent e st level none [] bs = tt
casts_silent e st level none (p ∷ ps) [] =
    (ap (λ b. (cast_with b st.running level p None).cast) (none p), casts_silent e st level none ps [])
casts_silent e st level none (p ∷ ps) (b ∷ bs) =
    (ap (λ a. (cast_with a st.running level p b).cast) (none p), casts_silent e st level none ps bs)

no_ballots : (g : List ℕ) (cs : List Cast) → Silent cs → ballots_of g cs ≡ []
no_ballots g [] h = refl
no_ballots g (c ∷ cs) h = ap (λ o. kept_by g c.provider o ++ ballots_of g cs) h.0 ∙ no_ballots g cs h.1

silent_sent : (s : Core) (g : List ℕ) (to : Option ℕ) (cs : List Cast) → Silent cs → casts_sent s g to cs ≡ s
unfolding casts_sent cast_sent_of
silent_sent s g to cs h = by (frozen s)
  where
    each : (cs : List Cast) → Silent cs → fold (λ t (c : Cast). cast_sent_of t g to c.provider c.cast) s cs ≡ s
    each [] h = refl
    each (c ∷ cs) h =
        ap (λ o. fold (λ t (x : Cast). cast_sent_of t g to x.provider x.cast) (cast_sent_of s g to c.provider o) cs) h.0 ∙ each cs h.1

    by : (b : Bool) → elim b as (λ _. Core) [ true ↦ s | false ↦ fold (λ t (c : Cast). cast_sent_of t g to c.provider c.cast) s cs ] ≡ s
    by true = refl
    by false = each cs h

-- what such an entry leaves as it is handed on
record Quietly (s t : Core) : Type 0 where
  goes : Goes 0 s t
  groups : t.groups ≡ s.groups
  less : Less 0 s.sessions t.sessions

quietly : (f : Answering) (s : Core) (to : Option ℕ) (g : List ℕ) (i : ℕ) (before after : GroupState) (e : Entry) → Closing e → Stands s → Quietly s (hand_on f s to g i before after e)
unfolding hand_on casts_out with_sessions recorded_all
quietly f s to g i before after e c k = subst (Quietly s) (sym (silent_sent u g to cs silent)) here
  where
    bs : List (Option Filled)
    bs = fills f (length s.records) s.sessions e after (hearers s.sessions g before e)

    cs : List Cast
    cs = casts_out s.sessions g before after e bs

    silent : Silent cs
    silent = casts_silent e after s.sessions.level (not_asked e c after) (hearers s.sessions g before e) bs

    a : Core
    a = recorded_all s (flat_map (heard s g i e after) cs)

    t : Core
    t = noted a g i before after

    u : Core
    u = with_sessions t (session.handed_on s.sessions g before after e bs)

    ga : Goes 0 s a
    ga = goes_recorded_all s (flat_map (heard s g i e after) cs) (no_put_heard s g i e after cs) k

    gt : Goes 0 a t
    gt = goes_noted a g i before after ga.stands

    gu : Goes 0 t u
    gu = goes_sessions t (session.handed_on s.sessions g before after e bs) gt.stands

    here : Quietly s u
    here = record { goes = free_then 0 s a u ga (free_then 0 a t u gt gu); groups = noted_groups a g i before after; less = less_silent s.sessions g before after e bs (no_ballots g cs silent) }

spends_sent : (ns : List ℕ) (s : Core) (b : Body) → FewBody b → Stands s → Spends (length ns) s (send_all s ns b)
unfolding send_all
spends_sent ns s b few k =
    let t : Core = send_all s ns b in
    let z : Sends s t = sends_fold (λ t n. sent t n b) (λ t n. sends_sent t n b) ns s in
    let own : owned s t.groups ≡ owned s s.groups = ap (owned s) (groups_same s t z) in
    spends_goes (length ns) s t (goes_sent_all ns s b few k) (less_by s.sessions t.sessions (sessions_same s t z)) (omega (arith, own))

-- a put pays for the packets that go out and for those who may be gone
spends_appended : (f : Answering) (s : Core) (g : List ℕ) (e : Entry) → Closing e → Stands s → Spends 0 s (appended f s g e)
unfolding appended
spends_appended f s g e c k =
    let t : Core = put s g e in
    let p : Puts s t = puts_put s g e k in
    let b : Body = body.Entry t.views.view g (len_of s g) (least_acked t g) e in
    let u : Core = send_all t (others t) b in
    let su : Spends (length (others t)) t u = spends_sent (others t) t b tt p.stands in
    let w : Core = hand_on f u (leader_of u g) g (len_of s g) (state_of s g) (state_of t g) e in
    let q : Quietly u w = quietly f u (leader_of u g) g (len_of s g) (state_of s g) (state_of t g) e c su.stands in
    let same : owned u w.groups ≡ owned u u.groups = ap (owned u) q.groups in
    let sw : Spends 0 u w = spends_goes 0 u w q.goes q.less (omega (arith, same)) in
    let x : Core = forget_least w g in
    let sx : Spends 0 w x = spends_forgets w g sw.stands in
    let y : Core = new_members_wait x g (state_of s g) (state_of t g) in
    let sy : Spends 0 x y = spends_members x g (state_of s g) (state_of t g) sx.stands in
    let own : owned t t.groups ≡ owned s t.groups = owned_there s t p.views t.groups in
    let r : length t.sessions.requests ≡ length s.sessions.requests = ap (λ (z : SessionState). length z.requests) (put_sessions s g e) in
    let n : length t.sessions.kept ≡ length s.sessions.kept = ap (λ (z : SessionState). length z.kept) (put_sessions s g e) in
    let m : length t.sessions.providers ≡ length s.sessions.providers = ap (λ (z : SessionState). length z.providers) (put_sessions s g e) in
    record {
      within = omega (arith, p.within, put_owned s g e k, own, r, n, m, others_few t p.stands, su.within, sw.within, sx.within, sy.within);
      stands = sy.stands;
      views = sy.views ∙ sx.views ∙ sw.views ∙ su.views ∙ p.views;
    }

-- ---- phases that are opened anew

-- without CONTINUE the phase is closed for good
closes_for_good : (l : Led) (t : TallyView) (run : Option Running) (e : Entry) → (outcome t ≡ Some vote.Continue → ⊥) → closing_entry l (Some t) run ≡ Some e → Closing e
unfolding closing_entry closing_of closing
closes_for_good l t None e none q = absurd cc
closes_for_good l t (Some run) e none q = by (outcome t) none (nat_le max_phases run.phase) q
  where
    by : (o : Option Vote) → (o ≡ Some vote.Continue → ⊥) → (last : Bool) → closing_of l t run o ≡ Some e → Closing e
    by None n last q = absurd cc
    by (Some vote.Approve) n last q = let z : Approve (closed_by l t run (value_of l t)) ≡ e = cc in subst Closing z tt
    by (Some vote.Reject) n last q = let z : Reject (closed_by l t run None) ≡ e = cc in subst Closing z tt
    by (Some vote.Continue) n last q = absurd (n refl)

spends_closes : (n : ℕ) (f : Answering) (s : Core) (g : List ℕ) (t : TallyView) → (led_of s g).tally ≡ Some t → (outcome t ≡ Some vote.Continue → ⊥) → Stands s → Spends 0 s (closes_from n f s g)
unfolding closes_from is_phase
spends_closes zero f s g t is none k = spends_same s k
spends_closes (suc n) f s g t is none k = by (closing_entry (led_of s g) (led_of s g).tally (state_of s g).running) good
  where
    good : (e : Entry) → closing_entry (led_of s g) (led_of s g).tally (state_of s g).running ≡ Some e → Closing e
    good e q =
        closes_for_good (led_of s g) t (state_of s g).running e none (subst (λ o. closing_entry (led_of s g) o (state_of s g).running ≡ Some e) is q)

    one : (e : Entry) → Closing e → Spends 0 s (tally_set (appended f s g e) g None)
    one e c =
        let a : Spends 0 s (appended f s g e) = spends_appended f s g e c k in
        spends_free s (appended f s g e) (tally_set (appended f s g e) g None) a (spends_tally (appended f s g e) g None a.stands)

    closed : (e : Entry) → Closing e → Spends 0 s (elim (is_phase e) [ true ↦ closes_from n f (tally_opened (appended f s g e) g) g | false ↦ tally_set (appended f s g e) g None ])
    closed (Once x) c = absurd c
    closed (Begin x) c = absurd c
    closed (Phase x) c = absurd c
    closed (Approve x) c = one (Approve x) c
    closed (Reject x) c = one (Reject x) c
    closed (Late proto phase ps) c = absurd c

    fit : (e : Entry) (b : Bool) → Closing e → Spends 0 s (elim b [ false ↦ s | true ↦ elim (is_phase e) [ true ↦ closes_from n f (tally_opened (appended f s g e) g) g | false ↦ tally_set (appended f s g e) g None ] ])
    fit e false c = spends_same s k
    fit e true c = closed e c

    by : (o : Option Entry) → ((e : Entry) → o ≡ Some e → Closing e) → Spends 0 s (elim o [ None ↦ s | Some e ↦ elim (fits_at_end s g e) [ false ↦ s | true ↦ elim (is_phase e) [ true ↦ closes_from n f (tally_opened (appended f s g e) g) g | false ↦ tally_set (appended f s g e) g None ] ] ])
    by None c = spends_same s k
    by (Some e) c = fit e (fits_at_end s g e) (c e refl)

opened_tally : (s : Core) (g : List ℕ) → Stands s → (led_of (tally_opened s g) g).tally ≡ Some (tally_for (state_of s g) (led_of s g).gone)
unfolding tally_opened tally_set with_led led_of
opened_tally s g k =
    ap (λ (z : GroupRow). z.led.tally) (row_here g (λ row. record row { led = record (row.led) { tally = Some (tally_for (state_of s g) (row_of s g).led.gone); given = [] } }) (λ x. refl) s k.order)

spends_opened : (s : Core) (g : List ℕ) → Stands s → Spends 0 s (tally_opened s g)
unfolding tally_opened
spends_opened s g k = spends_tally s g (Some (tally_for (state_of s g) (led_of s g).gone)) k

spends_reopened : (f : Answering) (s : Core) (g : List ℕ) (b : Bool) → Stands s → Spends 0 s (phase_reopened f s g b)
unfolding phase_reopened closes
spends_reopened f s g false k = spends_same s k
spends_reopened f s g true k =
    let t : Core = tally_opened s g in
    let a : Spends 0 s t = spends_opened s g k in
    spends_free s t (closes_from max_phases f t g) a (spends_closes max_phases f t g (tally_for (state_of s g) (led_of s g).gone) (opened_tally s g k) (reopened_ends (state_of s g) (led_of s g).gone) a.stands)

spends_group_led : (f : Answering) (s : Core) (g : List ℕ) → Stands s → Spends 0 s (lead f s g)
unfolding lead wait_failed
spends_group_led f s g k =
    let st : GroupState = state_of s g in
    let ps : List ProviderId = filter (among st.members) st.failed in
    let t : Core = fold (λ t p. with_waiting t g (add_failure p Died)) s ps in
    let a : Spends 0 s t = spends_fold (λ t p. with_waiting t g (add_failure p Died)) (λ t p h. spends_failure t g p Died h) ps s k in
    spends_free s t (phase_reopened f t g (is_some st.running)) a (spends_reopened f t g (is_some st.running) a.stands)

-- failed members wait, and phases are opened anew
pub spends_groups_led : (f : Answering) (s : Core) → Stands s → Spends 0 s (lead_groups f s)
unfolding lead_groups
spends_groups_led f s k = spends_fold (lead f) (spends_group_led f) (led_groups s) s k
