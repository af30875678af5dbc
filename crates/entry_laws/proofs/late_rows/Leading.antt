-- What the leader of a group does.
use Rattle.std.proofs.Common.{◌≡◌, ◌≤◌, ◌⊎◌, ℕ, zero, suc, ◌+◌, ◌-◌, max, List, [], ◌∷◌, ◌++◌, drop, Option, Some, None, Bool, true, false, refl, sym, ap, ◌∙◌, subst, inl, inr, arith}
use Rattle.std.specs.Prelude.{not, filter, nat_le, reverse, if◌then◌else◌}
use Rattle.std.specs.List.{list_any}
use Rattle.std.proofs.lemmas.Bool.{and_parts}
use Rattle.rsct_packet.specs.declared.ids.ViewId.{ViewId}
use Rattle.rsct_packet.specs.declared.ids.ProviderId.{ProviderId}
use Rattle.rsct_packet.specs.declared.ids.ProtoId.{ProtoId}
use Rattle.rsct_packet.specs.Providers.{among}
use Rattle.group_attr.specs.declared.attrs.Phases.{Phases}
use Rattle.group_attr.specs.declared.attrs.Phases.TheVariants.{One, Many}
use Rattle.proposal_core.specs.declared.proposal.Cause.TheVariants.{Died, Gone}
use Rattle.proposal_core.specs.declared.proposal.Proposal.{Proposal}
use Rattle.proposal_core.specs.declared.entry.Entry.{Entry}
use Rattle.proposal_core.specs.declared.entry.Entry.TheVariants.{Once, Begin, Late}
use Rattle.proposal_core.specs.declared.group_state.GroupState.{GroupState}
use Rattle.proposal_core.specs.declared.group_state.Running.{Running}
use Rattle.proposal_core.specs.Fold.{max_phases, fits, apply, after}
use Rattle.proposal_core.specs.GroupView.{GroupView}
use Rattle.proposal_core.specs.Lists.{list_or_new, state_in, has_room, entry_fits, with_entry, forgotten}
use Rattle.batch_rules.specs.Waiting.{WaitingView, add_failure}
use Rattle.vote_phases.specs.Tally.{TallyView, has_open}
use Rattle.node_state.specs.declared.group.GroupRow.{GroupRow}
use Rattle.node_state.specs.declared.group.Led.{Led}
use Rattle.node_state.specs.declared.packet.Body.TheVariants as body
use Rattle.node_state.specs.declared.happened.Happened.{Happened}
use Rattle.node_state.specs.declared.state.Core.{Core}
use Rattle.node_state.specs.Settings.{view_level}
use Rattle.node_state.proofs.NameOrder.{cases_text}
use Rattle.node_state.specs.State.{row_of, with_row, with_led, led_of, list_of, state_of, len_of, fits_at_end, list_forgotten, forget_below, leader_of, others, least_acked}
use Rattle.node_state.specs.Sending.{send_all}
use Rattle.node_state.specs.HandOn.{Answering, hand_on}
use Rattle.node_state.specs.Leading.{put, put_and_hand, forget_least, with_waiting, wait_if, new_members_wait, appended, append_if_fits, tally_for, tally_set, tally_opened, closing_entry, is_phase, closes_from, closes, begin_many, begins}
use Rattle.run_safety.specs.Past.{records_of}
use Rattle.run_safety.specs.SafeHeard.{enters}
use Rattle.entry_laws.proofs.closing_rows.Quiet.{at_fold, at_handed}
use Rattle.entry_laws.proofs.closing_rows.Calms.{calm_all}
use Rattle.entry_laws.specs.late_rows.Late.{opens, ticks_of, stay_state, state_here, EntryLate, RecordLate}
use Rattle.entry_laws.specs.late_rows.Announced.{members_now, entries_here, EntryTold, RecordTold}
use Rattle.entry_laws.proofs.late_rows.At.{Turn, ticks_now, tick_here, TallyIs, late_voters, Settled, RowIs, Alike, found, leads_row, At, at_for, at_row_for, row_is_same, ticks_silent, keeps_quiet}
use Rattle.entry_laws.proofs.late_rows.Puts.{put_row, put_record, at_put_for, opens_none}
use Rattle.entry_laws.proofs.late_rows.Tallies.{closing_late, opened_late, opened_settled, settled_told}
use Rattle.row_laws.proofs.honest_votes.Changes.{once_idle}
use Rattle.row_laws.proofs.honest_votes.Changes as votes

-- ---- lists

pub forgotten_same : (l : Option GroupView) (n : ℕ) → Alike l (list_forgotten n l)
unfolding forgotten
forgotten_same None n = (refl, refl, refl)
forgotten_same (Some l) n = by (nat_le n l.len)
  where
    by : (b : Bool) → Alike (Some l) (Some (if b then record l { start = max l.start n; entries = drop (n - l.start) l.entries } else l))
    by true = (refl, refl, refl)
    by false = (refl, refl, refl)

-- one of who is late leaves the state
pub late_same : (st : GroupState) (v : ViewId) (i : ℕ) (proto : ProtoId) (phase : ℕ) (ps : List ProviderId) → after st v i (Late proto phase ps) ≡ st
unfolding apply
late_same st v i proto phase ps = votes.late_same st v i (Late proto phase ps) refl

none_closes : (led : Led) (p : Option Running) (e : Entry) → closing_entry led None p ≡ Some e → ⊥
unfolding closing_entry
none_closes led p e c = cc

idle_closes : (led : Led) (t : TallyView) (e : Entry) → closing_entry led (Some t) None ≡ Some e → ⊥
unfolding closing_entry
idle_closes led t e c = cc

module _ (x : Turn) where
  -- where the node entered a view in this event, its ticks are this event's
  ticks_entered : (g : List ℕ) (s : Core) → list_any (enters x.node) (reverse s.records) ≡ true → ticks_now x g (reverse s.records) ≡ tick_here x
  ticks_entered g s e =
      ap (λ b. if b then tick_here x else if list_any (opens x.node g) (reverse s.records) then 0 else tick_here x + ticks_of x.node g x.before) e

  -- the state of a row is what the records make
  pub state_is : (T : List ℕ → ℕ → Type 0) (G : List ℕ → Type 0) (E : Type 0) (s : Core) (g : List ℕ) → At x T G E s → state_here x.node g (reverse s.records ++ records_of x.before) ≡ state_in (found s g).list
  state_is T G E s g a = let f = a.folds g in ap stay_state f.is ∙ sym f.state

  -- the entry of a leader is honest, by its state and its ticks
  pub put_late : (T : List ℕ → ℕ → Type 0) (G : List ℕ → Type 0) (E : Type 0) (s : Core) (g : List ℕ) (e : Entry) → EntryLate (state_in (found s g).list) (ticks_now x g (reverse s.records)) e → At x T G E s → RecordLate x.event (reverse s.records) x.before (put_record x s g e)
  put_late T G E s g e ok a first =
      subst (λ n. EntryLate (state_here n g (reverse s.records ++ records_of x.before)) (ticks_now (record x { node = n }) g (reverse s.records)) e) (sym a.me_is) (subst (λ st. EntryLate st (ticks_now x g (reverse s.records)) e) (sym (state_is T G E s g a)) ok)

  -- it tells who was late, where the view has level 2
  abbrev pub TellsAll : Core → List ℕ → Entry → Type 0
  TellsAll s g e = s.sessions.level ≡ 2 → EntryTold (entries_here x.node g (reverse s.records ++ records_of x.before)) e

  put_told : (T : List ℕ → ℕ → Type 0) (G : List ℕ → Type 0) (E : Type 0) (s : Core) (g : List ℕ) (e : Entry) → TellsAll s g e → At x T G E s → RecordTold x.config (reverse s.records) x.before (put_record x s g e)
  put_told T G E s g e ok a first two =
      let rs : List Happened = reverse s.records ++ records_of x.before in
      subst (λ n. EntryTold (entries_here n g rs) e) (sym a.me_is) (ok (a.level_is ∙ ap (λ n. view_level x.config (members_now n rs)) (sym a.me_is) ∙ two))

  -- ---- an entry is put

  module _ (T U : List ℕ → ℕ → Type 0) (G : List ℕ → Type 0) (E : Type 0) where
    pub at_put_and_handed_for : (f : Answering) (s : Core) (to : Option ℕ) (g : List ℕ) (e : Entry) → RecordLate x.event (reverse s.records) x.before (put_record x s g e) → RecordTold x.config (reverse s.records) x.before (put_record x s g e) → ((k : List ℕ) (less : ℕ) → U k less → (g ≡ k → ⊥) → T k less) → ((less : ℕ) → U g less → RowIs (ticks_now x g (put_record x s g e ∷ reverse s.records)) less (leads_row s (found s g)) (put_row x s (found s g) e)) → At x T G E s → At x U G E (put_and_hand f s to g e)
    unfolding put_and_hand
    at_put_and_handed_for f s to g e ok told others own a =
        at_handed (keeps_quiet x U G E) f (put s g e) to g (len_of s g) (state_of s g) (state_of (put s g e) g) e (at_put_for x T U G E s g e ok told others own a)

  module _ (T : List ℕ → ℕ → Type 0) (G : List ℕ → Type 0) (E : Type 0) where
    -- a row changes, and neither its tally nor the state
    pub at_row_same : (s : Core) (g : List ℕ) (f : GroupRow → GroupRow) → ((y : GroupRow) → (f y).name ≡ y.name) → ((y : GroupRow) → (f y).leader ≡ y.leader) → ((y : GroupRow) → Alike y.list (f y).list) → ((y : GroupRow) → ((f y).led.tally ≡ y.led.tally) × ((f y).led.given ≡ y.led.given)) → At x T G E s → At x T G E (with_row s g f)
    at_row_same s g f keeps leader list tally a =
        at_row_for x T T G E s g f keeps leader list (λ k less t ne. t) (λ less t. row_is_same x (ticks_now x g (reverse s.records)) less (leads_row s (found s g)) (found s g) (f (found s g)) (tally (found s g)).0 (tally (found s g)).1 (list (found s g)) (a.tallies g less t)) a

    -- what a leader keeps changes, and the tally does not
    pub at_led : (s : Core) (g : List ℕ) (f : Led → Led) → ((l : Led) → ((f l).tally ≡ l.tally) × ((f l).given ≡ l.given)) → At x T G E s → At x T G E (with_led s g f)
    unfolding with_led
    at_led s g f same a = at_row_same s g (λ row. record row { led = f row.led }) (λ y. refl) (λ y. refl) (λ y. (refl, refl, refl)) (λ y. same y.led) a

    pub at_waits : (s : Core) (g : List ℕ) (change : WaitingView → WaitingView) → At x T G E s → At x T G E (with_waiting s g change)
    unfolding with_waiting
    at_waits s g change a = at_led s g (λ l. record l { waiting = change l.waiting }) (λ l. (refl, refl)) a

    pub at_forgets : (s : Core) (g : List ℕ) (n : ℕ) → At x T G E s → At x T G E (forget_below s g n)
    unfolding forget_below
    at_forgets s g n a = at_row_same s g (λ row. record row { list = list_forgotten n row.list }) (λ y. refl) (λ y. refl) (λ y. forgotten_same y.list n) (λ y. (refl, refl)) a

    pub at_forgets_least : (s : Core) (g : List ℕ) → At x T G E s → At x T G E (forget_least s g)
    unfolding forget_least
    at_forgets_least s g a = at_forgets s g (least_acked s g) a

    at_waits_if : (s : Core) (g : List ℕ) (p : ProviderId) (a b : Bool) → At x T G E s → At x T G E (wait_if s g p a b)
    unfolding wait_if
    at_waits_if s g p true b k = at_waits s g (add_failure p Died) k
    at_waits_if s g p false true k = at_waits s g (add_failure p Gone) k
    at_waits_if s g p false false k = k

    at_new_members : (s : Core) (g : List ℕ) (before after : GroupState) → At x T G E s → At x T G E (new_members_wait s g before after)
    unfolding new_members_wait
    at_new_members s g before after a =
        at_fold (At x T G E) (λ t p. wait_if t g p (among after.failed p) (among (led_of s g).gone p)) (filter (λ p. not (among before.members p)) after.members) (λ t p i k. at_waits_if t g p (among after.failed p) (among (led_of s g).gone p) k) s a

  module _ (T U : List ℕ → ℕ → Type 0) (G : List ℕ → Type 0) (E : Type 0) where
    pub at_appended_for : (f : Answering) (s : Core) (g : List ℕ) (e : Entry) → EntryLate (state_in (found s g).list) (ticks_now x g (reverse s.records)) e → TellsAll s g e → ((k : List ℕ) (less : ℕ) → U k less → (g ≡ k → ⊥) → T k less) → ((less : ℕ) → U g less → RowIs (ticks_now x g (put_record x s g e ∷ reverse s.records)) less (leads_row s (found s g)) (put_row x s (found s g) e)) → At x T G E s → At x U G E (appended f s g e)
    unfolding appended
    at_appended_for f s g e ok told rest own a =
        let t : Core = put s g e in
        let u : Core = send_all t (others t) (body.Entry t.views.view g (len_of s g) (least_acked t g) e) in
        let w : Core = hand_on f u (leader_of u g) g (len_of s g) (state_of s g) (state_of t g) e in
        let put_at : At x U G E t = at_put_for x T U G E s g e (put_late T G E s g e ok a) (put_told T G E s g e told a) rest own a in
        let sent_at : At x U G E u = (keeps_quiet x U G E).calm t u (calm_all t (others t) (body.Entry t.views.view g (len_of s g) (least_acked t g) e)) put_at in
        let handed_at : At x U G E w = at_handed (keeps_quiet x U G E) f u (leader_of u g) g (len_of s g) (state_of s g) (state_of t g) e sent_at in
        at_new_members U G E (forget_least w g) g (state_of s g) (state_of t g) (at_forgets_least U G E w g handed_at)

  -- ---- the tally of a phase

  -- but for one group
  abbrev pub But : List ℕ → (List ℕ → ℕ → Type 0) → List ℕ → ℕ → Type 0
  But g T k less = T k less × (g ≡ k → ⊥)

  -- what is claimed of a group whose tally is opened: no tick less, or the event's own, where the node entered a view in it
  abbrev pub MayOpen : (List ℕ → ℕ → Type 0) → Type 0 → List ℕ → Type 0
  MayOpen T E g = (less : ℕ) → T g less → (less ≡ 0) ⊎ (E × (less ≤ tick_here x))

  -- the node leads the group, and may open its tally
  abbrev pub MayLead : (List ℕ → ℕ → Type 0) → (List ℕ → Type 0) → Type 0 → List ℕ → Type 0
  MayLead T G E g = ((less : ℕ) × T g less) × MayOpen T E g × G g

  module _ (T : List ℕ → ℕ → Type 0) (G : List ℕ → Type 0) (E : Type 0) where
    at_tally_set : (s : Core) (g : List ℕ) (t : Option TallyView) → ((less : ℕ) → T g less → RowIs (ticks_now x g (reverse s.records)) less (leads_row s (found s g)) (record (found s g) { led = record ((found s g).led) { tally = t; given = [] } })) → At x (But g T) G E s → At x T G E (tally_set s g t)
    unfolding tally_set with_led
    at_tally_set s g t own a =
        at_row_for x (But g T) T G E s g (λ row. record row { led = record (row.led) { tally = t; given = [] } }) (λ y. refl) (λ y. refl) (λ y. (refl, refl, refl)) (λ k less u ne. (u, ne)) own a

    pub at_tally_opened : (s : Core) (g : List ℕ) → MayOpen T E g → G g → At x (But g T) G E s → At x T G E (tally_opened s g)
    unfolding tally_opened state_of list_of row_of led_of
    at_tally_opened s g may led a = at_tally_set s g (Some opened) (λ less u t e. (a.led g led, λ run r. (own less u t e, inl (nobody t e)))) a
      where
        opened : TallyView
        opened = tally_for (state_in (found s g).list) (found s g).led.gone

        nobody : (t : TallyView) → Some opened ≡ Some t → late_voters t.voters ≡ []
        nobody t e = let q : opened ≡ t = cc in subst (λ (z : TallyView). late_voters z.voters ≡ []) q (opened_settled (state_in (found s g).list) (found s g).led.gone)

        room : (less : ℕ) → (less ≡ 0) ⊎ (E × (less ≤ tick_here x)) → less ≤ ticks_now x g (reverse s.records)
        room less (inl q) = omega arith
        room less (inr k) = let q = ticks_entered g s (a.entered k.0) in let l = k.1 in omega arith

        own : (less : ℕ) → T g less → (t : TallyView) → Some opened ≡ Some t → TallyIs (state_in (found s g).list) (ticks_now x g (reverse s.records)) less t
        own less u t e =
            let q : opened ≡ t = cc in
            subst (TallyIs (state_in (found s g).list) (ticks_now x g (reverse s.records)) less) q (opened_late (state_in (found s g).list) (ticks_now x g (reverse s.records)) less (found s g).led.gone (room less (may less u)))

    pub at_opened_anew : (s : Core) (g : List ℕ) → MayOpen T E g → G g → At x T G E s → At x T G E (tally_opened s g)
    at_opened_anew s g may led a =
        at_tally_opened s g may led (at_for x T (But g T) G G E E s (λ k less u. u.0) (λ k u. a.led k u) (λ e. e) a)

    at_appended_loose : (f : Answering) (s : Core) (g : List ℕ) (e : Entry) → EntryLate (state_in (found s g).list) (ticks_now x g (reverse s.records)) e → TellsAll s g e → At x T G E s → At x (But g T) G E (appended f s g e)
    at_appended_loose f s g e ok told a = at_appended_for T (But g T) G E f s g e ok told (λ k less u ne. u.0) (λ less u. absurd (u.1 refl)) a

    at_closes_from : (n : ℕ) (f : Answering) (s : Core) (g : List ℕ) (less : ℕ) → T g less → MayOpen T E g → G g → At x T G E s → At x T G E (closes_from n f s g)
    unfolding closes_from led_of state_of list_of row_of fits_at_end
    at_closes_from zero f s g less t may led a = a
    at_closes_from (suc n) f s g less t may led a =
        by (closing_entry (found s g).led (found s g).led.tally (state_in (found s g).list).running) refl (λ c k. at_closes_from n f c g less t may led k)
      where
        Rec : Type 0
        Rec = (c : Core) → At x T G E c → At x T G E (closes_from n f c g)

        Ok : Entry → Type 0
        Ok e = EntryLate (state_in (found s g).list) (ticks_now x g (reverse s.records)) e

        made : (e : Entry) → closing_entry (found s g).led (found s g).led.tally (state_in (found s g).list).running ≡ Some e → Ok e
        made e q =
            closing_late (state_in (found s g).list) (ticks_now x g (reverse s.records)) less (found s g).led (found s g).led.tally (state_in (found s g).list).running e (λ y z run r. ((a.tallies g less t y z).1 run r).0) q

        tells : (e : Entry) → closing_entry (found s g).led (found s g).led.tally (state_in (found s g).list).running ≡ Some e → fits_at_end s g e ≡ true → TellsAll s g e
        tells e q fit two =
            settled_told (entries_here x.node g (reverse s.records ++ records_of x.before)) (found s g).led (found s g).list (found s g).led.tally e (λ y z run r. ((a.tallies g less t y z).1 run r).1) q fit

        last : (e : Entry) → Ok e → TellsAll s g e → Rec → (b : Bool) → At x T G E (elim b as (λ _. Core) [ true ↦ closes_from n f (tally_opened (appended f s g e) g) g | false ↦ tally_set (appended f s g e) g None ])
        last e ok told rec true = rec (tally_opened (appended f s g e) g) (at_tally_opened (appended f s g e) g may led (at_appended_loose f s g e ok told a))
        last e ok told rec false = at_tally_set (appended f s g e) g None (λ k u y z. absurd (cc)) (at_appended_loose f s g e ok told a)

        fitting : (e : Entry) → Ok e → (fits_at_end s g e ≡ true → TellsAll s g e) → Rec → (b : Bool) → fits_at_end s g e ≡ b → At x T G E (elim b as (λ _. Core) [ false ↦ s | true ↦ elim (is_phase e) as (λ _. Core) [ true ↦ closes_from n f (tally_opened (appended f s g e) g) g | false ↦ tally_set (appended f s g e) g None ] ])
        fitting e ok told rec false q = a
        fitting e ok told rec true q = last e ok (told q) rec (is_phase e)

        by : (o : Option Entry) → closing_entry (found s g).led (found s g).led.tally (state_in (found s g).list).running ≡ o → Rec → At x T G E (elim o as (λ _. Core) [ None ↦ s | Some e ↦ elim (fits_at_end s g e) as (λ _. Core) [ false ↦ s | true ↦ elim (is_phase e) as (λ _. Core) [ true ↦ closes_from n f (tally_opened (appended f s g e) g) g | false ↦ tally_set (appended f s g e) g None ] ] ])
        by None q rec = a
        by (Some e) q rec = fitting e (made e q) (tells e q) rec (fits_at_end s g e) refl

    pub at_closes : (f : Answering) (s : Core) (g : List ℕ) → MayLead T G E g → At x T G E s → At x T G E (closes f s g)
    unfolding closes
    at_closes f s g m a = at_closes_from max_phases f s g (m.0).0 (m.0).1 m.1 m.2 a

    at_begun_many : (f : Answering) (s : Core) (g : List ℕ) (y : Proposal) (b : Bool) → MayLead T G E g → At x T G E s → At x T G E (begin_many f s g y b)
    unfolding begin_many
    at_begun_many f s g y false m a = a
    at_begun_many f s g y true m a =
        at_closes f (tally_opened (appended f s g (Begin y)) g) g m (at_tally_opened (appended f s g (Begin y)) g m.1 m.2 (at_appended_loose f s g (Begin y) tt (λ two. tt) a))

    pub at_begins : (f : Answering) (s : Core) (g : List ℕ) (y : Proposal) (phases : Phases) → MayLead T G E g → At x T G E s → At x T G E (begins f s g y phases)
    unfolding begins append_if_fits fits_at_end entry_fits list_of row_of with_entry
    at_begins f s g y Many m a = at_begun_many f s g y (fits_at_end s g (Begin y)) m a
    at_begins f s g y One m a = by (fits_at_end s g (Once y)) refl
      where
        idle : fits_at_end s g (Once y) ≡ true → (state_in (put_row x s (found s g) (Once y)).list).running ≡ None
        idle e = once_idle (state_in (found s g).list) s.views.view (list_or_new (found s g).list).len y (and_parts (fits (state_in (found s g).list) (Once y)) (has_room (list_or_new (found s g).list) (Once y)) e).0

        by : (b : Bool) → fits_at_end s g (Once y) ≡ b → At x T G E (append_if_fits f s g (Once y) b)
        by false e = a
        by true e =
            at_appended_for T T G E f s g (Once y) tt (λ two. tt) (λ k less u ne. u) (λ less u z q. ((a.tallies g less u z q).0, λ run r. absurd (let i = idle e in cc))) a

    -- who is late is announced: nothing else changes
    pub at_announces : (f : Answering) (s : Core) (g : List ℕ) (proto : ProtoId) (phase : ℕ) (ps : List ProviderId) → EntryLate (state_in (found s g).list) (ticks_now x g (reverse s.records)) (Late proto phase ps) → ((t : TallyView) → (found s g).led.tally ≡ Some t → late_voters t.voters ≡ []) → At x T G E s → At x T G E (appended f s g (Late proto phase ps))
    unfolding with_entry
    at_announces f s g proto phase ps ok nobody a =
        at_appended_for T T G E f s g (Late proto phase ps) ok (λ two. tt) (λ k less u ne. u) (λ less u. subst (λ n. RowIs n less (leads_row s (found s g)) (put_row x s (found s g) (Late proto phase ps))) (sym (ticks_silent x g (put_record x s g (Late proto phase ps)) (reverse s.records) refl (opens_none x.node s.views.me s.views.view g g (len_of s g) (Late proto phase ps) refl))) (own less (a.tallies g less u))) a
      where
        same : state_in (put_row x s (found s g) (Late proto phase ps)).list ≡ state_in (found s g).list
        same = late_same (state_in (found s g).list) s.views.view (list_or_new (found s g).list).len proto phase ps

        own : (less : ℕ) → RowIs (ticks_now x g (reverse s.records)) less (leads_row s (found s g)) (found s g) → RowIs (ticks_now x g (reverse s.records)) less (leads_row s (found s g)) (put_row x s (found s g) (Late proto phase ps))
        own less k t e =
            let z = k t e in
            (z.0, λ run r. (subst (λ st. TallyIs st (ticks_now x g (reverse s.records)) less t) (sym same) (z.1 run (ap (λ (st : GroupState). st.running) (sym same) ∙ r)).0, inl (nobody t e)))

    -- what is claimed of one group
    pub at_claim : (s : Core) (g : List ℕ) → ((less : ℕ) → T g less → RowIs (ticks_now x g (reverse s.records)) less (leads_row s (found s g)) (found s g)) → At x (But g T) G E s → At x T G E s
    at_claim s g own a =
        record { me_is = a.me_is; config_is = a.config_is; level_is = a.level_is; puts = a.puts; told = a.told; mine = a.mine; order = a.order; folds = a.folds; tallies = λ k less t. by k less t (cases_text g k); led = a.led; entered = a.entered }
      where
        by : (k : List ℕ) (less : ℕ) → T k less → (g ≡ k) ⊎ (g ≡ k → ⊥) → RowIs (ticks_now x k (reverse s.records)) less (leads_row s (found s k)) (found s k)
        by k less t (inl e) = subst (λ z. RowIs (ticks_now x z (reverse s.records)) less (leads_row s (found s z)) (found s z)) e (own less (subst (λ z. T z less) (sym e) t))
        by k less t (inr ne) = a.tallies k less (t, ne)

    -- closing where what is to be told is known, and what stands otherwise
    module _ (f : Answering) (s : Core) (g : List ℕ) (m : MayLead T G E g) where
      abbrev pub Ready : Type 0
      Ready = (less : ℕ) → T g less → (t : TallyView) → (found s g).led.tally ≡ Some t → (leads_row s (found s g) ≡ true) × ((run : Running) → (state_in (found s g).list).running ≡ Some run → TallyIs (state_in (found s g).list) (ticks_now x g (reverse s.records)) less t × (Settled (found s g).led (found s g).list t ⊎ ((has_open t ≡ false) × ((e : Entry) → closing_entry (found s g).led (Some t) (Some run) ≡ Some e → entry_fits (list_or_new (found s g).list) e ≡ true → TellsAll s g e))))

      pub at_closes_ready : Ready → At x (But g T) G E s → At x T G E (closes f s g)
      unfolding closes closes_from led_of state_of list_of row_of fits_at_end
      at_closes_ready ready a = by (closing_entry (found s g).led (found s g).led.tally (state_in (found s g).list).running) refl
        where
          Ok : Entry → Type 0
          Ok e = EntryLate (state_in (found s g).list) (ticks_now x g (reverse s.records)) e

          made : (e : Entry) → closing_entry (found s g).led (found s g).led.tally (state_in (found s g).list).running ≡ Some e → Ok e
          made e q =
              closing_late (state_in (found s g).list) (ticks_now x g (reverse s.records)) (m.0).0 (found s g).led (found s g).led.tally (state_in (found s g).list).running e (λ y z run r. ((ready (m.0).0 (m.0).1 y z).1 run r).0) q

          -- where it does not close
          rests : ((t : TallyView) → (found s g).led.tally ≡ Some t → (run : Running) → (state_in (found s g).list).running ≡ Some run → has_open t ≡ false → (e : Entry) → closing_entry (found s g).led (Some t) (state_in (found s g).list).running ≡ Some e → entry_fits (list_or_new (found s g).list) e ≡ false) → At x T G E s
          rests unfit =
              at_claim s g (λ less u t e. let z = ready less u t e in (z.0, λ run r. let w = z.1 run r in (w.0, settle t e run r w.1))) a
            where
              settle : (t : TallyView) → (found s g).led.tally ≡ Some t → (run : Running) → (state_in (found s g).list).running ≡ Some run → (Settled (found s g).led (found s g).list t ⊎ ((has_open t ≡ false) × ((e : Entry) → closing_entry (found s g).led (Some t) (Some run) ≡ Some e → entry_fits (list_or_new (found s g).list) e ≡ true → TellsAll s g e))) → Settled (found s g).led (found s g).list t
              settle t e run r (inl k) = k
              settle t e run r (inr k) = inr (k.0, unfit t e run r k.0)

          tells : (e : Entry) → closing_entry (found s g).led (found s g).led.tally (state_in (found s g).list).running ≡ Some e → fits_at_end s g e ≡ true → TellsAll s g e
          tells e q fit = at (found s g).led.tally refl (state_in (found s g).list).running refl q
            where
              either : (t : TallyView) (run : Running) → (found s g).led.tally ≡ Some t → (state_in (found s g).list).running ≡ Some run → closing_entry (found s g).led (Some t) (Some run) ≡ Some e → (Settled (found s g).led (found s g).list t ⊎ ((has_open t ≡ false) × ((e : Entry) → closing_entry (found s g).led (Some t) (Some run) ≡ Some e → entry_fits (list_or_new (found s g).list) e ≡ true → TellsAll s g e))) → TellsAll s g e
              either t run z r c (inl k) two =
                  settled_told (entries_here x.node g (reverse s.records ++ records_of x.before)) (found s g).led (found s g).list (Some t) e (λ y w run r. subst (Settled (found s g).led (found s g).list) (let p : t ≡ y = cc in p) k) (ap (closing_entry (found s g).led (Some t)) r ∙ c) fit
              either t run z r c (inr k) two = k.1 e c fit two

              at : (o : Option TallyView) → (found s g).led.tally ≡ o → (p : Option Running) → (state_in (found s g).list).running ≡ p → closing_entry (found s g).led o p ≡ Some e → TellsAll s g e
              at None z p r c = absurd (none_closes (found s g).led p e c)
              at (Some t) z None r c = absurd (idle_closes (found s g).led t e c)
              at (Some t) z (Some run) r c = either t run z r c ((ready (m.0).0 (m.0).1 t z).1 run r).1

          loose : (e : Entry) → Ok e → TellsAll s g e → At x (But g T) G E (appended f s g e)
          loose e ok told = at_appended_for (But g T) (But g T) G E f s g e ok told (λ k less u ne. u) (λ less u. absurd (u.1 refl)) a

          last : (e : Entry) → Ok e → TellsAll s g e → (n : ℕ) → (b : Bool) → At x T G E (elim b as (λ _. Core) [ true ↦ closes_from n f (tally_opened (appended f s g e) g) g | false ↦ tally_set (appended f s g e) g None ])
          last e ok told n true = at_closes_from n f (tally_opened (appended f s g e) g) g (m.0).0 (m.0).1 m.1 m.2 (at_tally_opened (appended f s g e) g m.1 m.2 (loose e ok told))
          last e ok told n false = at_tally_set (appended f s g e) g None (λ k u y z. absurd (cc)) (loose e ok told)

          fitting : (e : Entry) → closing_entry (found s g).led (found s g).led.tally (state_in (found s g).list).running ≡ Some e → (n : ℕ) (b : Bool) → fits_at_end s g e ≡ b → At x T G E (elim b as (λ _. Core) [ false ↦ s | true ↦ elim (is_phase e) as (λ _. Core) [ true ↦ closes_from n f (tally_opened (appended f s g e) g) g | false ↦ tally_set (appended f s g e) g None ] ])
          fitting e q n false fit = rests (λ t z run r o d c. (let p : e ≡ d = cc in subst (λ y. entry_fits (list_or_new (found s g).list) y ≡ false) p fit))
          fitting e q n true fit = last e (made e q) (tells e q fit) n (is_phase e)

          by : (o : Option Entry) → closing_entry (found s g).led (found s g).led.tally (state_in (found s g).list).running ≡ o → At x T G E (elim o as (λ _. Core) [ None ↦ s | Some e ↦ elim (fits_at_end s g e) as (λ _. Core) [ false ↦ s | true ↦ elim (is_phase e) as (λ _. Core) [ true ↦ closes_from 199 f (tally_opened (appended f s g e) g) g | false ↦ tally_set (appended f s g e) g None ] ] ])
          by None q = rests (λ t z run r o d c. absurd (let p : closing_entry (found s g).led (Some t) (state_in (found s g).list).running ≡ None = ap (λ y. closing_entry (found s g).led y (state_in (found s g).list).running) (sym z) ∙ q in cc))
          by (Some e) q = fitting e q 199 (fits_at_end s g e) refl
