-- What the leader of a group sends: a hundred packets for each entry that it puts, at most.
use Rattle.std.proofs.Common.{◌≡◌, ◌≤◌, ℕ, zero, suc, ◌+◌, ◌*◌, List, [], ◌∷◌, ◌++◌, length, map, filter, Some, None, Option, Bool, true, false, refl, sym, ◌∙◌, subst, arith}
use Rattle.std.specs.Prelude.{not, nat_le, ◌==◌, ◌-◌, max, drop, if◌then◌else◌}
use Rattle.std.proofs.lemmas.Bool.{and_parts}
use Rattle.std.proofs.lemmas.List.{length-map}
use Rattle.rsct_packet.specs.declared.ids.ProviderId.{ProviderId}
use Rattle.rsct_packet.specs.declared.ids.Member.{Member}
use Rattle.rsct_packet.specs.Providers.{among}
use Rattle.group_attr.specs.declared.attrs.Phases.{Phases}
use Rattle.group_attr.specs.declared.attrs.Phases.TheVariants.{One, Many}
use Rattle.proposal_core.specs.declared.proposal.Cause.{Cause}
use Rattle.proposal_core.specs.declared.proposal.Cause.TheVariants.{Died, Gone}
use Rattle.proposal_core.specs.declared.proposal.Proposal.{Proposal}
use Rattle.proposal_core.specs.declared.entry.Entry.{Entry}
use Rattle.proposal_core.specs.declared.entry.Entry.TheVariants.{Once, Begin}
use Rattle.proposal_core.specs.declared.group_state.GroupState.{GroupState}
use Rattle.proposal_core.specs.Fold.{max_phases, fits}
use Rattle.proposal_core.specs.GroupView.{GroupView}
use Rattle.proposal_core.specs.Lists.{list_or_new, state_in, has_room, entry_fits, with_entry, forgotten}
use Rattle.vote_phases.specs.Tally.{TallyView}
use Rattle.batch_rules.specs.Waiting.{WaitingView, takes_failure, add_failure}
use Rattle.view_state.specs.Views.{others_of}
use Rattle.node_state.specs.declared.group.GroupRow.{GroupRow}
use Rattle.node_state.specs.declared.happened.Happened.TheVariants as happened
use Rattle.node_state.specs.declared.packet.Body.TheVariants as body
use Rattle.node_state.specs.declared.state.Core.{Core}
use Rattle.node_state.specs.State.{row_of, with_row, led_of, list_of, state_of, len_of, list_forgotten, forget_below, fits_at_end, leader_of, others, least_acked, recorded}
use Rattle.node_state.specs.Sending.{send_all}
use Rattle.node_state.specs.HandOn.{Answering, hand_on}
use Rattle.node_state.specs.Leading.{put, put_and_hand, forget_least, with_waiting, wait_if, new_members_wait, appended, append_if_fits, tally_set, tally_for, tally_opened, with_tally, closing_entry, is_phase, closes_from, closes, begin_many, begins}
use Rattle.send_laws.specs.Bound.{puts_of, waits_of, Room, Stands}
use Rattle.send_laws.specs.Lasting.{Lasting}
use Rattle.send_laws.proofs.Counts.{kept_few, puts_both}
use Rattle.send_laws.proofs.Rooms.{room_after}
use Rattle.send_laws.proofs.Parts.{Goes, goes_same, goes_then, then_free, fold_free, goes_row, goes_led, goes_sent_all}
use Rattle.send_laws.proofs.Hands.{goes_handed}

-- ---- a put pays for a hundred packets

pub record Puts (s t : Core) : Type 0 where
  pub within : length t.sends + waits_of t.groups + 100 * puts_of s.records + 100 ≤ length s.sends + waits_of s.groups + 100 * puts_of t.records
  pub stands : Stands t
  pub views : t.views ≡ s.views
  pub config : t.config ≡ s.config
  pub lasts : Lasting s → Lasting t

pub put_then : (c : ℕ) (s t u : Core) → c ≤ 100 → Puts s t → Goes c t u → Goes 0 s u
put_then c s t u le x y =
    record { within = omega (arith, x.within, y.within, le); stands = y.stands; views = y.views ∙ x.views; config = y.config ∙ x.config; lasts = λ h. y.lasts (x.lasts h) }

pub puts_put : (s : Core) (g : List ℕ) (e : Entry) → Stands s → Puts s (put s g e)
unfolding put recorded with_entry state_of list_of row_of
puts_put s g e k =
    let f : GroupRow → GroupRow = λ row. record row { list = Some (with_entry (list_or_new row.list) s.views.view e) } in
    let l : GroupView = list_of s g in
    let m : Goes 0 s (with_row s g f) = goes_row 0 s g f (λ x. refl) k (omega arith) (room_after l.state s.views.view l.len e (k.room g)) (λ w. record { few = w.few; known = w.known }) in
    record {
      within = omega (arith, m.within, puts_both (with_row s g f).records (happened.Put s.views.me s.views.view g (len_of s g) e ∷ []));
      stands = record { few = m.stands.few; order = m.stands.order; room = m.stands.room };
      views = m.views;
      config = m.config;
      lasts = λ h. let z = m.lasts h in record { rings = z.rings; waits = z.waits; views = z.views; sent = z.sent };
    }

pub fit_state : (s : Core) (g : List ℕ) (e : Entry) → fits_at_end s g e ≡ true → fits (state_of s g) e ≡ true
unfolding fits_at_end entry_fits state_of
fit_state s g e h = (and_parts (fits (list_of s g).state e) (has_room (list_of s g) e) h).0

-- a follower hands on what it puts
pub goes_put_and_handed : (f : Answering) (s : Core) (to : Option ℕ) (g : List ℕ) (e : Entry) → fits_at_end s g e ≡ true → Stands s → Goes 0 s (put_and_hand f s to g e)
unfolding put_and_hand
goes_put_and_handed f s to g e h k =
    let p : Puts s (put s g e) = puts_put s g e k in
    put_then 64 s (put s g e) (hand_on f (put s g e) to g (len_of s g) (state_of s g) (state_of (put s g e) g) e) (omega arith) p (goes_handed f (put s g e) to g (len_of s g) (state_of s g) (state_of (put s g e) g) e (fit_state s g e h) (k.room g) p.stands)

-- ---- what is forgotten, and who waits

forgot_room : (n : ℕ) (l : Option GroupView) → Room (state_in l) → Room (state_in (list_forgotten n l))
unfolding forgotten
forgot_room n None h = h
forgot_room n (Some l) h = by (nat_le n l.len)
  where
    by : (b : Bool) → Room (state_in (Some (if b then record l { start = max l.start n; entries = drop (n - l.start) l.entries } else l)))
    by true = h
    by false = h

pub goes_forgets : (s : Core) (g : List ℕ) (n : ℕ) → Stands s → Goes 0 s (forget_below s g n)
unfolding forget_below state_of list_of
goes_forgets s g n k =
    goes_row 0 s g (λ row. record row { list = list_forgotten n row.list }) (λ x. refl) k (omega arith) (forgot_room n (row_of s g).list (k.room g)) (λ w. record { few = w.few; known = w.known })

pub goes_forgets_least : (s : Core) (g : List ℕ) → Stands s → Goes 0 s (forget_least s g)
unfolding forget_least
goes_forgets_least s g k = goes_forgets s g (least_acked s g) k

pub failure_joins : (p : ProviderId) (c : Cause) (w : WaitingView) → (add_failure p c w).joins ≡ w.joins
failure_joins p c w = by (takes_failure p w)
  where
    by : (b : Bool) → (if b then record w { failures = w.failures ++ record { provider = p; cause = c } ∷ [] } else w).joins ≡ w.joins
    by true = refl
    by false = refl

pub goes_waits : (s : Core) (g : List ℕ) (change : WaitingView → WaitingView) → ((w : WaitingView) → length (change w).joins ≤ length w.joins) → Stands s → Goes 0 s (with_waiting s g change)
unfolding with_waiting
goes_waits s g change few k = goes_led s g (λ l. record l { waiting = change l.waiting }) k (few (led_of s g).waiting)

pub goes_waits_failure : (s : Core) (g : List ℕ) (p : ProviderId) (c : Cause) → Stands s → Goes 0 s (with_waiting s g (add_failure p c))
goes_waits_failure s g p c k = goes_waits s g (add_failure p c) (λ w. let e = failure_joins p c w in subst (λ z. length z ≤ length w.joins) (sym e) (omega arith)) k

goes_waits_if : (s : Core) (g : List ℕ) (p : ProviderId) (failed gone : Bool) → Stands s → Goes 0 s (wait_if s g p failed gone)
unfolding wait_if
goes_waits_if s g p true gone k = goes_waits_failure s g p Died k
goes_waits_if s g p false true k = goes_waits_failure s g p Gone k
goes_waits_if s g p false false k = goes_same s k

goes_members_wait : (s : Core) (g : List ℕ) (before after : GroupState) → Stands s → Goes 0 s (new_members_wait s g before after)
unfolding new_members_wait
goes_members_wait s g before after k =
    fold_free (λ t p. wait_if t g p (among after.failed p) (among (led_of s g).gone p)) (λ t p h. goes_waits_if t g p (among after.failed p) (among (led_of s g).gone p) h) (filter (λ p. not (among before.members p)) after.members) s k

-- ---- appending

pub others_few : (s : Core) → Stands s → length (others s) ≤ 32
unfolding others others_of
others_few s k =
    omega (arith, kept_few (λ n. not (n == s.views.me)) (map (λ (m : Member). m.node) s.views.members), length-map s.views.members (λ (m : Member). m.node), k.few)

pub goes_appended : (f : Answering) (s : Core) (g : List ℕ) (e : Entry) → fits_at_end s g e ≡ true → Stands s → Goes 0 s (appended f s g e)
unfolding appended
goes_appended f s g e h k =
    let t : Core = put s g e in
    let p : Puts s t = puts_put s g e k in
    let u : Core = send_all t (others t) (body.Entry t.views.view g (len_of s g) (least_acked t g) e) in
    let gu : Goes (length (others t)) t u = goes_sent_all (others t) t (body.Entry t.views.view g (len_of s g) (least_acked t g) e) tt p.stands in
    let w : Core = hand_on f u (leader_of u g) g (len_of s g) (state_of s g) (state_of t g) e in
    let gw : Goes 64 u w = goes_handed f u (leader_of u g) g (len_of s g) (state_of s g) (state_of t g) e (fit_state s g e h) (k.room g) gu.stands in
    let x : Core = forget_least w g in
    let gx : Goes 0 w x = goes_forgets_least w g gw.stands in
    let gy : Goes 0 x (new_members_wait x g (state_of s g) (state_of t g)) = goes_members_wait x g (state_of s g) (state_of t g) gx.stands in
    let gz : Goes 0 w (new_members_wait x g (state_of s g) (state_of t g)) = then_free 0 w x (new_members_wait x g (state_of s g) (state_of t g)) gx gy in
    let sent : Goes (length (others t) + 64) t w = goes_then (length (others t)) 64 t u w gu gw in
    put_then (length (others t) + 64) s t (new_members_wait x g (state_of s g) (state_of t g)) (omega (arith, others_few t p.stands)) p (then_free (length (others t) + 64) t w (new_members_wait x g (state_of s g) (state_of t g)) sent gz)

pub goes_appended_if : (f : Answering) (s : Core) (g : List ℕ) (e : Entry) → Stands s → Goes 0 s (append_if_fits f s g e (fits_at_end s g e))
unfolding append_if_fits
goes_appended_if f s g e k = by (fits_at_end s g e) refl
  where
    by : (b : Bool) → fits_at_end s g e ≡ b → Goes 0 s (append_if_fits f s g e b)
    by false q = goes_same s k
    by true q = goes_appended f s g e q k

-- ---- phases

pub goes_tally_set : (s : Core) (g : List ℕ) (t : Option TallyView) → Stands s → Goes 0 s (tally_set s g t)
unfolding tally_set
goes_tally_set s g t k = goes_led s g (λ l. record l { tally = t; given = [] }) k (omega arith)

pub goes_with_tally : (s : Core) (g : List ℕ) (t : Option TallyView) → Stands s → Goes 0 s (with_tally s g t)
unfolding with_tally
goes_with_tally s g t k = goes_led s g (λ l. record l { tally = t }) k (omega arith)

pub goes_opened : (s : Core) (g : List ℕ) → Stands s → Goes 0 s (tally_opened s g)
unfolding tally_opened
goes_opened s g k = goes_tally_set s g (Some (tally_for (state_of s g) (led_of s g).gone)) k

goes_closes_from : (n : ℕ) (f : Answering) (s : Core) (g : List ℕ) → Stands s → Goes 0 s (closes_from n f s g)
unfolding closes_from
goes_closes_from zero f s g k = goes_same s k
goes_closes_from (suc n) f s g k = by (closing_entry (led_of s g) (led_of s g).tally (state_of s g).running) (λ t h. goes_closes_from n f t g h)
  where
    phase : (e : Entry) (c : Bool) → fits_at_end s g e ≡ true → ((t : Core) → Stands t → Goes 0 t (closes_from n f t g)) → Goes 0 s (elim c [ true ↦ closes_from n f (tally_opened (appended f s g e) g) g | false ↦ tally_set (appended f s g e) g None ])
    phase e true q on =
        let a : Goes 0 s (appended f s g e) = goes_appended f s g e q k in
        let b : Goes 0 (appended f s g e) (tally_opened (appended f s g e) g) = goes_opened (appended f s g e) g a.stands in
        let d : Goes 0 (tally_opened (appended f s g e) g) (closes_from n f (tally_opened (appended f s g e) g) g) = on (tally_opened (appended f s g e) g) b.stands in
        then_free 0 s (appended f s g e) (closes_from n f (tally_opened (appended f s g e) g) g) a (then_free 0 (appended f s g e) (tally_opened (appended f s g e) g) (closes_from n f (tally_opened (appended f s g e) g) g) b d)
    phase e false q on =
        let a : Goes 0 s (appended f s g e) = goes_appended f s g e q k in
        then_free 0 s (appended f s g e) (tally_set (appended f s g e) g None) a (goes_tally_set (appended f s g e) g None a.stands)

    fit : (e : Entry) (b : Bool) → fits_at_end s g e ≡ b → ((t : Core) → Stands t → Goes 0 t (closes_from n f t g)) → Goes 0 s (elim b [ false ↦ s | true ↦ elim (is_phase e) [ true ↦ closes_from n f (tally_opened (appended f s g e) g) g | false ↦ tally_set (appended f s g e) g None ] ])
    fit e false q on = goes_same s k
    fit e true q on = phase e (is_phase e) q on

    by : (o : Option Entry) → ((t : Core) → Stands t → Goes 0 t (closes_from n f t g)) → Goes 0 s (elim o [ None ↦ s | Some e ↦ elim (fits_at_end s g e) [ false ↦ s | true ↦ elim (is_phase e) [ true ↦ closes_from n f (tally_opened (appended f s g e) g) g | false ↦ tally_set (appended f s g e) g None ] ] ])
    by None on = goes_same s k
    by (Some e) on = fit e (fits_at_end s g e) refl on

pub goes_closes : (f : Answering) (s : Core) (g : List ℕ) → Stands s → Goes 0 s (closes f s g)
unfolding closes
goes_closes f s g k = goes_closes_from max_phases f s g k

pub goes_begins : (f : Answering) (s : Core) (g : List ℕ) (x : Proposal) (phases : Phases) → Stands s → Goes 0 s (begins f s g x phases)
unfolding begins begin_many
goes_begins f s g x One k = goes_appended_if f s g (Once x) k
goes_begins f s g x Many k = by (fits_at_end s g (Begin x)) refl
  where
    by : (b : Bool) → fits_at_end s g (Begin x) ≡ b → Goes 0 s (begin_many f s g x b)
    by false q = goes_same s k
    by true q =
        let t : Core = appended f s g (Begin x) in
        let a : Goes 0 s t = goes_appended f s g (Begin x) q k in
        let b : Goes 0 t (tally_opened t g) = goes_opened t g a.stands in
        then_free 0 s t (closes f (tally_opened t g) g) a (then_free 0 t (tally_opened t g) (closes f (tally_opened t g) g) b (goes_closes f (tally_opened t g) g b.stands))
