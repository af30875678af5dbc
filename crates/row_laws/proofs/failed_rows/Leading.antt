-- What the leader of a group does.
use Rattle.std.proofs.Common.{◌≡◌, ◌⊎◌, ℕ, zero, suc, List, [], ◌∷◌, Option, Some, None, Bool, true, false, refl, sym, ap, ◌∙◌, subst, inl, inr}
use Rattle.std.specs.Prelude.{not, filter, find, fold, nat_le, reverse, ◌++◌}
use Rattle.std.proofs.lemmas.Bool.{and_parts, not-true}
use Rattle.rsct_packet.specs.declared.ids.ViewId.{ViewId}
use Rattle.rsct_packet.specs.declared.ids.ProtoId.{ProtoId}
use Rattle.rsct_packet.specs.declared.ids.ProviderId.{ProviderId}
use Rattle.rsct_packet.specs.Providers.{among}
use Rattle.rsct_packet.specs.Search.{Has}
use Rattle.rsct_packet.proofs.HasLaws.{has_filter}
use Rattle.group_attr.specs.declared.attrs.Phases.{Phases}
use Rattle.group_attr.specs.declared.attrs.Phases.TheVariants.{One, Many}
use Rattle.proposal_core.specs.declared.proposal.Cause.{Cause}
use Rattle.proposal_core.specs.declared.proposal.Cause.TheVariants.{Died, Gone, Cast}
use Rattle.proposal_core.specs.declared.proposal.Failure.{Failure}
use Rattle.proposal_core.specs.declared.proposal.Proposal.{Proposal}
use Rattle.proposal_core.specs.declared.entry.Vote.{Vote}
use Rattle.proposal_core.specs.declared.entry.Vote.TheVariants as vote
use Rattle.proposal_core.specs.declared.entry.Entry.{Entry}
use Rattle.proposal_core.specs.declared.entry.Entry.TheVariants.{Once, Begin, Phase, Approve, Reject, Late}
use Rattle.proposal_core.specs.declared.group_state.GroupState.{GroupState}
use Rattle.proposal_core.specs.declared.group_state.Running.{Running}
use Rattle.proposal_core.specs.Fold.{max_phases, joins_of, joiners_in, fits, first_attrs, begun, next_phase, apply, after_if, after}
use Rattle.proposal_core.proofs.FoldLaws.{idle_approved, idle_rejected}
use Rattle.proposal_core.specs.Lists.{list_or_new, state_in, len_in, has_room, entry_fits, with_entry}
use Rattle.batch_rules.specs.Waiting.{WaitingView, add_failure}
use Rattle.vote_phases.specs.Tally.{TallyView, outcome}
use Rattle.view_state.specs.declared.views.Views.{Views}
use Rattle.node_state.specs.declared.group.GroupRow.{GroupRow}
use Rattle.node_state.specs.declared.group.Led.{Led}
use Rattle.node_state.specs.declared.packet.Body.TheVariants as body
use Rattle.node_state.specs.declared.happened.Happened.{Happened}
use Rattle.node_state.specs.declared.happened.Happened.TheVariants as happened
use Rattle.node_state.specs.declared.state.Core.{Core}
use Rattle.node_state.specs.State.{InNameOrder, row_found, row_of, with_row, with_led, led_of, list_of, state_of, len_of, fits_at_end, list_forgotten, forget_below, leader_of, others, least_acked, recorded, has_name}
use Rattle.node_state.specs.Sending.{send_all}
use Rattle.node_state.specs.HandOn.{Answering, hand_on}
use Rattle.node_state.specs.Leading.{put, forget_least, with_waiting, wait_if, new_members_wait, appended, append_if_fits, tally_for, tally_set, tally_opened, closing, closing_of, closing_entry, is_phase, closes_from, closes, begin_many, begins}
use Rattle.run_safety.specs.Past.{History, records_of}
use Rattle.node_state.proofs.NameOrder.{row_here}
use Rattle.step_refinement.proofs.Appending.{handed_rows}
use Rattle.step_walk.proofs.Asides.{forgotten_len, forgotten_state}
use Rattle.row_laws.proofs.honest_votes.At.{found, leads_row}
use Rattle.row_laws.proofs.honest_votes.Changes.{once_idle}
use Rattle.row_laws.specs.failed_rows.Failures.{GoneCause, EntryFails, LeavesFail}
use Rattle.row_laws.proofs.failed_rows.Queues.{Stays, BringsNone, stays_after, failed_stays}
use Rattle.row_laws.proofs.failed_rows.Grows.{attrs_members}
use Rattle.row_laws.proofs.failed_rows.Waiting.{one_waits}
use Rattle.row_laws.proofs.hearing.Changes.{Sends, sends_all, same_sends, put_order, put_views, handed_onward}
use Rattle.row_laws.proofs.hearing.Handing.{has_among}
use Rattle.row_laws.proofs.failed_rows.Facts.{Whys, TallyWhile, TallyFails, TallyIs, Waits, AllWait, QueueIs, BasesFit}
use Rattle.row_laws.proofs.failed_rows.Origin.{Origin}
use Rattle.row_laws.proofs.failed_rows.At.{At, at_for, at_row_for}
use Rattle.row_laws.proofs.failed_rows.Tallies.{closing_fails, opened_fails}
use Rattle.row_laws.proofs.failed_rows.Sends.{at_sent_all}
use Rattle.row_laws.proofs.failed_rows.Hands.{at_handed}
use Rattle.row_laws.proofs.failed_rows.Puts.{put_row, held_is, put_holds, taken_off, put_there, at_put_for}

-- ---- lists

after_is : (st : GroupState) (v : ViewId) (i : ℕ) (e : Entry) → fits st e ≡ true → after st v i e ≡ apply st v i e
unfolding after after_if
after_is st v i e f = ap (λ b. after_if st v i e b) f

-- ---- who becomes a member

phase_members : (s : GroupState) (value : Option (List ℕ)) (run : Option Running) → (next_phase s value run).members ≡ s.members
unfolding next_phase
phase_members s value None = refl
phase_members s value (Some run) = refl

-- then nothing runs
new_idle : (s : GroupState) (v : ViewId) (i : ℕ) (e : Entry) (p : ProviderId) → among s.members p ≡ false → among (apply s v i e).members p ≡ true → (apply s v i e).running ≡ None
unfolding apply begun
new_idle s v i (Once x) p f k = idle_approved (begun s v i x) v i None (begun s v i x).running refl
new_idle s v i (Begin x) p f k = absurd (let z : among s.members p ≡ true = ap (λ ms. among ms p) (sym (attrs_members s (first_attrs s x))) ∙ k in cc)
new_idle s v i (Phase c) p f k = absurd (let z : among s.members p ≡ true = ap (λ ms. among ms p) (sym (phase_members s c.value s.running)) ∙ k in cc)
new_idle s v i (Approve c) p f k = idle_approved s v i c.value s.running refl
new_idle s v i (Reject c) p f k = idle_rejected s s.running refl
new_idle s v i (Late proto phase ps) p f k = absurd (cc)

new_no_joiner : (s : GroupState) (v : ViewId) (i : ℕ) (e : Entry) (p : ProviderId) → fits s e ≡ true → among s.members p ≡ false → among (after s v i e).members p ≡ true → among (joiners_in (after s v i e).running) p ≡ false
new_no_joiner s v i e p f out in_now =
    let a = after_is s v i e f in
    ap (λ (z : GroupState). among (joiners_in z.running) p) a ∙ ap (λ z. among (joiners_in z) p) (new_idle s v i e p out (ap (λ (z : GroupState). among z.members p) (sym a) ∙ in_now))

-- ---- where what runs is as it was, so is the tally

tally_same : (gone : ProviderId → Type 0) (led : Bool) (t : Option TallyView) (st now : GroupState) → now ≡ st → TallyIs gone led t st → TallyIs gone led t now
tally_same gone led t st now e k = subst (TallyIs gone led t) (sym e) k

tally_idle : (gone : ProviderId → Type 0) (led : Bool) (t : Option TallyView) (st now : GroupState) → now.running ≡ None → TallyIs gone led t st → TallyIs gone led t now
tally_idle gone led t st now idle (inl e) = inl e
tally_idle gone led t st now idle (inr k) = inr (k.0, by t)
  where
    by : (o : Option TallyView) → TallyFails gone now o
    by None = tt
    by (Some x) = subst (TallyWhile gone now x) (sym idle) tt

-- who waits goes on to wait
waits_on : (gone : ProviderId → Type 0) (st : GroupState) (v : ViewId) (i : ℕ) (e : Entry) → fits st e ≡ true → BringsNone e → (p : ProviderId) (c : Cause) → Waits gone st p c → Waits gone (after st v i e) p c
waits_on gone st v i e f none p Died k = stays_after st v i e p f none k
waits_on gone st v i e f none p Gone k = k
waits_on gone st v i e f none p Cast k = k

-- no join begins, or nobody waits
abbrev pub Leaves : Entry → List Failure → Type 0
Leaves e fs = BringsNone e ⊎ (fs ≡ [])

queue_on : (gone : ProviderId → Type 0) (led : Bool) (fs : List Failure) (st : GroupState) (v : ViewId) (i : ℕ) (e : Entry) → fits st e ≡ true → Leaves e fs → QueueIs gone led fs st → QueueIs gone led fs (after st v i e)
queue_on gone led fs st v i e f (inr none) k = inl none
queue_on gone led fs st v i e f (inl brings) (inl none) = inl none
queue_on gone led fs st v i e f (inl brings) (inr k) = inr (k.0, λ x j. waits_on gone st v i e f brings x.provider x.cause (k.1 x j))

module _ (h : History) (said : ProviderId → Type 0) (origin : Origin) (P L M : Type 0) where
  module _ (T G Q : List ℕ → Type 0) where
    -- what a leader keeps changes, but for the tally, the marks and who waits as a failure
    pub at_led : (s : Core) (g : List ℕ) (f : Led → Led) → ((l : Led) → (f l).tally ≡ l.tally) → ((l : Led) → (f l).gone ≡ l.gone) → ((l : Led) → (f l).waiting.failures ≡ l.waiting.failures) → ((l : Led) → Whys l → Whys (f l)) → At h said origin P L M T G Q s → At h said origin P L M T G Q (with_led s g f)
    unfolding with_led
    at_led s g f same gone waits kept a =
        let l : Led = (found s g).led in
        at_row_for h said origin P L M T G Q T Q s g (λ row. record row { led = f row.led }) (λ x. refl) (λ x. refl) (λ x. refl) (λ x. refl) (λ x z. kept x.led z) (λ y p i. a.marks y g p (subst (λ z. among z p ≡ true) (gone l) i)) (λ k t ne. t) (λ k t ne. t) (λ t. subst (λ z. TallyIs (GoneCause h s.views.view g) (leads_row s (found s g)) z (state_in (found s g).list)) (sym (same l)) (a.tallies g t)) (λ fit q. subst (λ z. QueueIs (GoneCause h s.views.view g) (leads_row s (found s g)) z (state_in (found s g).list)) (sym (waits l)) (a.queues fit g q)) a

    -- those who wait change
    pub at_waiting : (s : Core) (g : List ℕ) (change : WaitingView → WaitingView) → (BasesFit s.records → Q g → QueueIs (GoneCause h s.views.view g) (leads_row s (found s g)) (change (found s g).led.waiting).failures (state_in (found s g).list)) → At h said origin P L M T G Q s → At h said origin P L M T G Q (with_waiting s g change)
    unfolding with_waiting with_led
    at_waiting s g change queue a =
        at_row_for h said origin P L M T G Q T Q s g (λ row. record row { led = record (row.led) { waiting = change row.led.waiting } }) (λ x. refl) (λ x. refl) (λ x. refl) (λ x. refl) (λ x z. z) (λ y p i. a.marks y g p i) (λ k t ne. t) (λ k t ne. t) (λ t. a.tallies g t) queue a

    pub queue_all : (gone : ProviderId → Type 0) (led : Bool) (fs : List Failure) (st : GroupState) → QueueIs gone led fs st → AllWait gone st fs
    queue_all gone led fs st (inl none) = subst (AllWait gone st) (sym none) (λ f i. absurd i)
    queue_all gone led fs st (inr k) = k.1

    pub at_waits : (s : Core) (g : List ℕ) (p : ProviderId) (c : Cause) → G g → (BasesFit s.records → Q g → Waits (GoneCause h s.views.view g) (state_in (found s g).list) p c) → At h said origin P L M T G Q s → At h said origin P L M T G Q (with_waiting s g (add_failure p c))
    at_waits s g p c leads new a =
        at_waiting s g (add_failure p c) (λ fit q. inr (a.led g leads, one_waits (GoneCause h s.views.view g) (state_in (found s g).list) p c (found s g).led.waiting (new fit q) (queue_all (GoneCause h s.views.view g) (leads_row s (found s g)) (found s g).led.waiting.failures (state_in (found s g).list) (a.queues fit g q)))) a

    pub at_forgets : (s : Core) (g : List ℕ) (n : ℕ) → At h said origin P L M T G Q s → At h said origin P L M T G Q (forget_below s g n)
    unfolding forget_below
    at_forgets s g n a =
        at_row_for h said origin P L M T G Q T Q s g (λ row. record row { list = list_forgotten n row.list }) (λ x. refl) (λ x. refl) (λ x. forgotten_len n x.list) (λ x. forgotten_state n x.list) (λ x z. z) (λ y p i. a.marks y g p i) (λ k t ne. t) (λ k t ne. t) (λ t. a.tallies g t) (λ fit q. a.queues fit g q) a

    pub at_forgets_least : (s : Core) (g : List ℕ) → At h said origin P L M T G Q s → At h said origin P L M T G Q (forget_least s g)
    unfolding forget_least
    at_forgets_least s g a = at_forgets s g (least_acked s g) a

    -- ---- new members

    record Kept (g : List ℕ) (st : GroupState) (s : Core) : Type 0 where
      at : At h said origin P L M T G Q s
      state : state_in (found s g).list ≡ st

    kept_waits : (g : List ℕ) (st : GroupState) (s : Core) (p : ProviderId) (c : Cause) → G g → ((v : ViewId) → v ≡ s.views.view → Waits (GoneCause h v g) st p c) → Kept g st s → Kept g st (with_waiting s g (add_failure p c))
    unfolding with_waiting with_led with_row row_of
    kept_waits g st s p c leads new k =
        record {
          at = at_waits s g p c leads (λ fit q. subst (λ z. Waits (GoneCause h s.views.view g) z p c) (sym k.state) (new s.views.view refl)) k.at;
          state = ap (λ (z : GroupRow). state_in z.list) (row_here g (λ row. record row { led = record (row.led) { waiting = add_failure p c row.led.waiting } }) (λ x. refl) s (k.at).order) ∙ k.state;
        }

    all_kept : (g : List ℕ) (st : GroupState) (v : ViewId) (marks ps : List ProviderId) → G g → ((p : ProviderId) → among marks p ≡ true → GoneCause h v g p) → ((p : ProviderId) → Has p ps → among st.failed p ≡ true → Stays st p ≡ true) → (s : Core) → s.views.view ≡ v → Kept g st s → Kept g st (fold (λ t p. wait_if t g p (among st.failed p) (among marks p)) s ps)
    unfolding wait_if with_waiting with_led with_row
    all_kept g st v marks [] leads gone died s at k = k
    all_kept g st v marks (p ∷ ps) leads gone died s at k =
        by (among st.failed p) (among marks p) refl refl (all_kept g st v marks ps leads gone (λ q i. died q (inr i)))
      where
        by : (a b : Bool) → among st.failed p ≡ a → among marks p ≡ b → ((s : Core) → s.views.view ≡ v → Kept g st s → Kept g st (fold (λ t p. wait_if t g p (among st.failed p) (among marks p)) s ps)) → Kept g st (fold (λ t p. wait_if t g p (among st.failed p) (among marks p)) (wait_if s g p a b) ps)
        by true b e q rest = rest (with_waiting s g (add_failure p Died)) at (kept_waits g st s p Died leads (λ v q. died p (inl refl) e) k)
        by false true e q rest = rest (with_waiting s g (add_failure p Gone)) at (kept_waits g st s p Gone leads (λ u z. subst (λ y. GoneCause h y g p) (sym (z ∙ at)) (gone p q)) k)
        by false false e q rest = rest s at k

  module _ (T G Q U : List ℕ → Type 0) where
    -- an entry that fits
    pub at_appended_for : (f : Answering) (s : Core) (g : List ℕ) (e : Entry) → L → G g → fits (state_in (found s g).list) e ≡ true → (BasesFit s.records → EntryFails (GoneCause h s.views.view g) (λ k. state_in (found s k).list) (state_in (found s g).list) e) → Leaves e (found s g).led.waiting.failures → ((k : List ℕ) → U k → (g ≡ k → ⊥) → T k) → (U g → TallyIs (GoneCause h s.views.view g) (leads_row s (found s g)) (found s g).led.tally (state_in (put_row s (found s g) e).list)) → At h said origin P L M T G Q s → At h said origin P L M U G Q (appended f s g e)
    unfolding appended new_members_wait forget_least put recorded state_of list_of led_of row_of with_entry forget_below hand_on with_row
    at_appended_for f s g e live leads fit ok brings others_too tally a =
        (all_kept U G Q g st s.views.view (found x g).led.gone new leads (λ p i. subst (λ z. GoneCause h z g p) x_view (forgot_at.marks live g p i)) died x x_view (record { at = forgot_at; state = x_state })).at
      where
        t : Core
        t = put s g e

        u : Core
        u = send_all t (others t) (body.Entry t.views.view g (len_of s g) (least_acked t g) e)

        st : GroupState
        st = state_of t g

        w : Core
        w = hand_on f u (leader_of u g) g (len_of s g) (state_of s g) st e

        x : Core
        x = forget_below w g (least_acked w g)

        new : List ProviderId
        new = filter (λ p. not (among (state_of s g).members p)) st.members

        sends : Sends t u
        sends = sends_all t (others t) (body.Entry t.views.view g (len_of s g) (least_acked t g) e)

        put_at : At h said origin P L M U G Q t
        put_at = at_put_for h said origin P L M T G Q U Q s g e (λ l fitting. put_holds h said origin P L M T G Q s g e (len_in (found s g).list) (ok fitting) a live) others_too (λ k q ne. q) tally (λ fitting q. queue_on (GoneCause h s.views.view g) (leads_row s (found s g)) (found s g).led.waiting.failures (state_in (found s g).list) s.views.view (list_or_new (found s g).list).len e fit brings (a.queues fitting g q)) a

        sent_at : At h said origin P L M U G Q u
        sent_at = at_sent_all h said origin P L M U G Q (others t) t (body.Entry t.views.view g (len_of s g) (least_acked t g) e) tt put_at

        handed_at : At h said origin P L M U G Q w
        handed_at =
            at_handed h said origin P L M U G Q f u (leader_of u g) g (len_of s g) (state_of s g) st e s.views.view (ap (λ (z : Views). z.view) sends.views) (subst (λ (z : ℕ × List Happened). Has (happened.Put z.0 s.views.view g (len_of s g) e) (reverse z.1 ++ records_of h)) (λ j. (sym (ap (λ (z : Views). z.me) sends.views) j, sym sends.records j)) (put_there h s g e)) (taken_off h said origin P L M T G Q s u g e live a (ap (λ (z : Views). z.me) sends.views) sends.sessions sends.records (λ k. held_is h said origin P L M U G Q t live put_at k)) sent_at

        forgot_at : At h said origin P L M U G Q x
        forgot_at = at_forgets U G Q w g (least_acked w g) handed_at

        x_view : x.views.view ≡ s.views.view
        x_view =
            ap (λ (z : Views). z.view) (handed_onward f s u (leader_of u g) g e a.order (subst InNameOrder (sym sends.groups) (put_order s g e a.order)) (sends.views ∙ put_views s g e) (same_sends t u sends)).views

        x_state : state_in (found x g).list ≡ st
        x_state =
            ap (λ (z : GroupRow). state_in z.list) (row_here g (λ row. record row { list = list_forgotten (least_acked w g) row.list }) (λ x. refl) w handed_at.order) ∙ forgotten_state (least_acked w g) (found w g).list ∙ ap (λ rows. state_in (row_found g (find (has_name g) rows)).list) ((handed_rows f u (leader_of u g) g (len_of s g) (state_of s g) st e).0 ∙ sends.groups)

        st_is : st ≡ after (state_in (found s g).list) s.views.view (list_or_new (found s g).list).len e
        st_is = ap (λ (z : GroupRow). state_in z.list) (row_here g (λ row. put_row s row e) (λ x. refl) s a.order)

        died : (p : ProviderId) → Has p new → among st.failed p ≡ true → Stays st p ≡ true
        died p i failed =
            let k = has_filter (λ p. not (among (state_of s g).members p)) p st.members i in
            failed_stays st p failed (ap (λ (z : GroupState). among (joiners_in z.running) p) st_is ∙ new_no_joiner (state_in (found s g).list) s.views.view (list_or_new (found s g).list).len e p fit (not-true (among (state_of s g).members p) k.1) (ap (λ (z : GroupState). among z.members p) (sym st_is) ∙ has_among st.members p k.0))

  -- ---- the tally of a phase

  -- but for one group
  abbrev But : List ℕ → (List ℕ → Type 0) → List ℕ → Type 0
  But g T k = T k × (g ≡ k → ⊥)

  module _ (T G Q : List ℕ → Type 0) where
    pub at_tally_set : (s : Core) (g : List ℕ) (t : Option TallyView) → (T g → TallyIs (GoneCause h s.views.view g) (leads_row s (found s g)) t (state_in (found s g).list)) → At h said origin P L M (But g T) G Q s → At h said origin P L M T G Q (tally_set s g t)
    unfolding tally_set with_led
    at_tally_set s g t own a =
        at_row_for h said origin P L M (But g T) G Q T Q s g (λ row. record row { led = record (row.led) { tally = t; given = [] } }) (λ x. refl) (λ x. refl) (λ x. refl) (λ x. refl) (λ x z. z) (λ y p i. a.marks y g p i) (λ k u ne. (u, ne)) (λ k q ne. q) own (λ fit q. a.queues fit g q) a

    pub at_tally_opened : (s : Core) (g : List ℕ) → L → G g → At h said origin P L M (But g T) G Q s → At h said origin P L M T G Q (tally_opened s g)
    unfolding tally_opened state_of list_of led_of row_of
    at_tally_opened s g live led a =
        at_tally_set s g (Some (tally_for (state_of s g) (led_of s g).gone)) (λ t. inr (a.led g led, opened_fails (GoneCause h s.views.view g) (state_in (found s g).list) (found s g).led.gone (λ p i. a.marks live g p i))) a

    pub at_opened_anew : (s : Core) (g : List ℕ) → L → G g → At h said origin P L M T G Q s → At h said origin P L M T G Q (tally_opened s g)
    at_opened_anew s g live led a =
        at_tally_opened s g live led (at_for h said origin P L M T G Q (But g T) G Q s (λ k t. t.0) a.led (λ k q. q) a)

    at_appended_loose : (f : Answering) (s : Core) (g : List ℕ) (e : Entry) → L → G g → fits (state_in (found s g).list) e ≡ true → (BasesFit s.records → EntryFails (GoneCause h s.views.view g) (λ k. state_in (found s k).list) (state_in (found s g).list) e) → Leaves e (found s g).led.waiting.failures → At h said origin P L M T G Q s → At h said origin P L M (But g T) G Q (appended f s g e)
    at_appended_loose f s g e live led fit ok brings a = at_appended_for T G Q (But g T) f s g e live led fit ok brings (λ k u ne. u.0) (λ u. absurd (u.1 refl)) a

    fits_of : (s : Core) (g : List ℕ) (e : Entry) → fits_at_end s g e ≡ true → fits (state_in (found s g).list) e ≡ true
    unfolding fits_at_end entry_fits list_of row_of
    fits_of s g e k = (and_parts (fits (state_in (found s g).list) e) (has_room (list_or_new (found s g).list) e) k).0

    -- what closes a phase begins no join
    closing_brings : (l : Led) (t : Option TallyView) (run : Option Running) (e : Entry) → closing_entry l t run ≡ Some e → BringsNone e
    unfolding closing_entry closing_of closing
    closing_brings l None run e q = absurd (cc)
    closing_brings l (Some t) None e q = absurd (cc)
    closing_brings l (Some t) (Some run) e q = by (outcome t) q
      where
        one : (v : Vote) (last : Bool) → BringsNone (closing l t run v last)
        one vote.Approve last = tt
        one vote.Reject last = tt
        one vote.Continue true = tt
        one vote.Continue false = tt

        by : (o : Option Vote) → closing_of l t run o ≡ Some e → BringsNone e
        by None q = absurd (cc)
        by (Some v) q = let z : closing l t run v (nat_le max_phases run.phase) ≡ e = cc in subst BringsNone z (one v (nat_le max_phases run.phase))

    at_closes_from : (n : ℕ) (f : Answering) (s : Core) (g : List ℕ) → L → T g → G g → At h said origin P L M T G Q s → At h said origin P L M T G Q (closes_from n f s g)
    unfolding closes_from led_of state_of list_of row_of
    at_closes_from zero f s g live t led a = a
    at_closes_from (suc n) f s g live t led a =
        by (closing_entry (found s g).led (found s g).led.tally (state_in (found s g).list).running) refl (at_closes_from n f)
      where
        Rec : Type 0
        Rec = (c : Core) (g : List ℕ) → L → T g → G g → At h said origin P L M T G Q c → At h said origin P L M T G Q (closes_from n f c g)

        Closing : Entry → Type 0
        Closing e = EntryFails (GoneCause h s.views.view g) (λ k. state_in (found s k).list) (state_in (found s g).list) e

        made : (e : Entry) → closing_entry (found s g).led (found s g).led.tally (state_in (found s g).list).running ≡ Some e → Closing e
        made e q = at (a.tallies g t)
          where
            at : TallyIs (GoneCause h s.views.view g) (leads_row s (found s g)) (found s g).led.tally (state_in (found s g).list) → Closing e
            at (inl none) =
                closing_fails (GoneCause h s.views.view g) (state_in (found s g).list) (λ k. state_in (found s k).list) (found s g).led None (state_in (found s g).list).running e refl tt (ap (λ o. closing_entry (found s g).led o (state_in (found s g).list).running) (sym none) ∙ q)
            at (inr k) = closing_fails (GoneCause h s.views.view g) (state_in (found s g).list) (λ k. state_in (found s k).list) (found s g).led (found s g).led.tally (state_in (found s g).list).running e refl k.1 q

        last : (e : Entry) → Closing e → BringsNone e → fits_at_end s g e ≡ true → Rec → (b : Bool) → At h said origin P L M T G Q (elim b as (λ _. Core) [ true ↦ closes_from n f (tally_opened (appended f s g e) g) g | false ↦ tally_set (appended f s g e) g None ])
        last e ok none fit rec true = rec (tally_opened (appended f s g e) g) g live t led (at_tally_opened (appended f s g e) g live led (at_appended_loose f s g e live led (fits_of s g e fit) (λ fitting. ok) (inl none) a))
        last e ok none fit rec false = at_tally_set (appended f s g e) g None (λ u. inl refl) (at_appended_loose f s g e live led (fits_of s g e fit) (λ fitting. ok) (inl none) a)

        fitting : (e : Entry) → Closing e → BringsNone e → Rec → (b : Bool) → fits_at_end s g e ≡ b → At h said origin P L M T G Q (elim b as (λ _. Core) [ false ↦ s | true ↦ elim (is_phase e) as (λ _. Core) [ true ↦ closes_from n f (tally_opened (appended f s g e) g) g | false ↦ tally_set (appended f s g e) g None ] ])
        fitting e ok none rec false q = a
        fitting e ok none rec true q = last e ok none q rec (is_phase e)

        by : (o : Option Entry) → closing_entry (found s g).led (found s g).led.tally (state_in (found s g).list).running ≡ o → Rec → At h said origin P L M T G Q (elim o as (λ _. Core) [ None ↦ s | Some e ↦ elim (fits_at_end s g e) as (λ _. Core) [ false ↦ s | true ↦ elim (is_phase e) as (λ _. Core) [ true ↦ closes_from n f (tally_opened (appended f s g e) g) g | false ↦ tally_set (appended f s g e) g None ] ] ])
        by None q rec = a
        by (Some e) q rec = fitting e (made e q) (closing_brings (found s g).led (found s g).led.tally (state_in (found s g).list).running e q) rec (fits_at_end s g e) refl

    pub at_closes : (f : Answering) (s : Core) (g : List ℕ) → L → T g → G g → At h said origin P L M T G Q s → At h said origin P L M T G Q (closes f s g)
    unfolding closes
    at_closes f s g live t led a = at_closes_from max_phases f s g live t led a

    -- ---- beginning

    -- a proposal that is no failure leave, or one that holds
    abbrev pub Begins : Core → List ℕ → Proposal → Type 0
    Begins s g x = BasesFit s.records → LeavesFail (GoneCause h s.views.view g) (λ k. state_in (found s k).list) (state_in (found s g).list) x

    at_begun_many : (f : Answering) (s : Core) (g : List ℕ) (x : Proposal) (b : Bool) → fits_at_end s g (Begin x) ≡ b → L → T g → G g → Begins s g x → (joins_of x ≡ []) ⊎ ((found s g).led.waiting.failures ≡ []) → At h said origin P L M T G Q s → At h said origin P L M T G Q (begin_many f s g x b)
    unfolding begin_many
    at_begun_many f s g x false q live t led ok brings a = a
    at_begun_many f s g x true q live t led ok brings a =
        at_closes f (tally_opened (appended f s g (Begin x)) g) g live t led (at_tally_opened (appended f s g (Begin x)) g live led (at_appended_loose f s g (Begin x) live led (fits_of s g (Begin x) q) ok brings a))

    pub at_begins : (f : Answering) (s : Core) (g : List ℕ) (x : Proposal) (phases : Phases) → L → T g → G g → Begins s g x → (joins_of x ≡ []) ⊎ ((found s g).led.waiting.failures ≡ []) → At h said origin P L M T G Q s → At h said origin P L M T G Q (begins f s g x phases)
    unfolding begins append_if_fits with_entry
    at_begins f s g x Many live t led ok brings a = at_begun_many f s g x (fits_at_end s g (Begin x)) refl live t led ok brings a
    at_begins f s g x One live t led ok brings a = by (fits_at_end s g (Once x)) refl
      where
        idle : fits_at_end s g (Once x) ≡ true → (state_in (put_row s (found s g) (Once x)).list).running ≡ None
        idle e = once_idle (state_in (found s g).list) s.views.view (list_or_new (found s g).list).len x (fits_of s g (Once x) e)

        by : (b : Bool) → fits_at_end s g (Once x) ≡ b → At h said origin P L M T G Q (append_if_fits f s g (Once x) b)
        by false e = a
        by true e =
            at_appended_for T G Q T f s g (Once x) live led (fits_of s g (Once x) e) ok brings (λ k u ne. u) (λ u. tally_idle (GoneCause h s.views.view g) (leads_row s (found s g)) (found s g).led.tally (state_in (found s g).list) (state_in (put_row s (found s g) (Once x)).list) (idle e) (a.tallies g u)) a

    -- who is late is announced
    pub at_announces : (f : Answering) (s : Core) (g : List ℕ) (proto : ProtoId) (phase : ℕ) (ps : List ProviderId) → L → G g → At h said origin P L M T G Q s → At h said origin P L M T G Q (append_if_fits f s g (Late proto phase ps) (fits_at_end s g (Late proto phase ps)))
    unfolding append_if_fits with_entry apply
    at_announces f s g proto phase ps live led a = by (fits_at_end s g (Late proto phase ps)) refl
      where
        same : fits_at_end s g (Late proto phase ps) ≡ true → state_in (put_row s (found s g) (Late proto phase ps)).list ≡ state_in (found s g).list
        same e = after_is (state_in (found s g).list) s.views.view (list_or_new (found s g).list).len (Late proto phase ps) (fits_of s g (Late proto phase ps) e)

        by : (b : Bool) → fits_at_end s g (Late proto phase ps) ≡ b → At h said origin P L M T G Q (append_if_fits f s g (Late proto phase ps) b)
        by false e = a
        by true e =
            at_appended_for T G Q T f s g (Late proto phase ps) live led (fits_of s g (Late proto phase ps) e) (λ fitting. tt) (inl tt) (λ k u ne. u) (λ u. tally_same (GoneCause h s.views.view g) (leads_row s (found s g)) (found s g).led.tally (state_in (found s g).list) (state_in (put_row s (found s g) (Late proto phase ps)).list) (same e) (a.tallies g u)) a
