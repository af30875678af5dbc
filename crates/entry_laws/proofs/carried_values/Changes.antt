-- What each kind of change of a step keeps.
use Rattle.node_state.specs.Sending.{sent, network_to}
use Rattle.proposal_core.specs.declared.proposal.Proposal.{Proposal}
use Rattle.std.proofs.Common.{◌≡◌, ℕ, List, [], ◌++◌, Option, Some, None, Bool, true, false, refl, sym, ap, ◌∙◌, subst, inl, inr, ◌⊎◌, ◌∷◌, ⊎_elim, append_assoc, append-nil}
use Rattle.std.specs.Prelude.{reverse, ◌==◌, find, map}
use Rattle.std.proofs.lemmas.Bool.{and_parts}
use Rattle.rsct_packet.specs.declared.ids.ViewId.{ViewId}
use Rattle.rsct_packet.specs.declared.ids.ProviderId.{ProviderId}
use Rattle.group_attr.specs.declared.attrs.Phases.{Phases}
use Rattle.proposal_core.specs.declared.proposal.Proposal.{Proposal}
use Rattle.proposal_core.specs.declared.entry.Entry.{Entry}
use Rattle.proposal_core.specs.declared.entry.Entry.TheVariants.{Once, Begin, Late}
use Rattle.proposal_core.specs.declared.group_state.GroupState.{GroupState}
use Rattle.proposal_core.specs.declared.group_state.Running.{Running}
use Rattle.proposal_core.specs.Fold.{fits, apply, runs}
use Rattle.proposal_core.specs.Lists.{list_or_new, state_in, len_in, has_room, entry_fits, with_entry}
use Rattle.vote_phases.specs.Tally.{TallyView, tally_fail}
use Rattle.node_state.specs.declared.group.GroupRow.{GroupRow}
use Rattle.node_state.specs.declared.group.Led.{Led}
use Rattle.node_state.specs.declared.state.Core.{Core}
use Rattle.node_state.specs.State.{row_of, with_row, with_led, led_of, list_of, state_of, len_of, fits_at_end, others, recorded, row_found, is_this, leader_in, leads_in, leads, set_leader, with_sessions, has_name, recorded_all}
use Rattle.node_state.specs.Leading.{put, tally_for, tally_set, tally_opened, closing_entry, with_tally}
use Rattle.run_safety.specs.Past.{records_of}
use Rattle.node_state.specs.declared.happened.Happened.{Happened}
use Rattle.step_refinement.proofs.Turns.{has_turned, has_last, has_pushed_on}
use Rattle.entry_laws.proofs.closing_rows.At.{found, leads_row, leads_is}
use Rattle.node_state.specs.declared.group.Given.{Given}
use Rattle.std.specs.Option.{option_map}
use Rattle.rsct_packet.specs.declared.ids.ProtoId.{ProtoId}
use Rattle.rsct_packet.specs.Search.{Has}
use Rattle.proposal_core.specs.declared.entry.Vote.{Vote}
use Rattle.client_callbacks.specs.declared.told.Why.{Why}
use Rattle.client_callbacks.specs.declared.told.Why.TheVariants.{Dissolved}
use Rattle.session_state.specs.State.{outstanding}
use Rattle.session_state.specs.HandOn.{take_telling}
use Rattle.node_state.specs.Following.{vote_cast}
use Rattle.node_state.proofs.NameOrder.{row_here}
use Rattle.row_laws.proofs.honest_votes.Changes.{once_idle, sure, late_same, Every, NoGroup, But, unnamed, put_row}
use Rattle.row_laws.proofs.honest_votes.Closes.{runs_is}
use Rattle.std.proofs.lemmas.List.{reverse-append}
use Rattle.rsct_packet.proofs.HasLaws.{has_append, append_has_left, append_has_right}
use Rattle.view_state.specs.declared.install.Install.{Install}
use Rattle.view_state.specs.declared.install.Base.{Base}
use Rattle.view_state.specs.Bases.{bases_of, base_named}
use Rattle.view_state.specs.Views.{own_install, views_entered, views_at_work}
use Rattle.node_state.specs.Applying.{level_set, base_row, base_record, view_entered, number_of, dissolved, own_parts}
use Rattle.step_refinement.proofs.BaseOrder.{bases_ordered, row_of_base, base_noted}
use Rattle.entry_laws.proofs.closing_rows.Works.{Stays, begun_stays, ticks_stay, install_again_stays, ask_stays, prepare_stays, answer_stays, refuse_stays, install_stays, taken_stays}
use Rattle.node_state.specs.Ticks.{ring_ask, ticked_in}
use Rattle.client_callbacks.specs.declared.ballot.Filled.{Filled}
use Rattle.session_state.specs.declared.state.KeptBallot.{KeptBallot}
use Rattle.session_state.specs.declared.state.SessionState.{SessionState}
use Rattle.node_state.specs.declared.packet.Body.{Body}
use Rattle.node_state.specs.declared.packet.Packet.{Packet}
use Rattle.node_state.specs.Step.{is_used}
use Rattle.step_walk.proofs.Changes.{Any, Viewing, Asks, Prepares, Answers, Refuses, Installs, Takes, Gathers, Reminds, viewing, KeepsRing}
use Rattle.step_walk.proofs.Kept.{IsCast, KeptIs, OneMore, told_no_more}
use Rattle.step_walk.proofs.Evidence.{IsLed, Saying, delivered, Plain, Turning, KeepsBeside, KeepsLed, Keeping, KeepsPackets, KeepsEntering, KeepsCalling, KeepsDelivery}
use Rattle.step_walk.proofs.Delivering.{at_delivered}
use Rattle.step_walk.proofs.Leading.{Anything}
use Rattle.entry_laws.proofs.carried_values.At.{RowIs, PutFact, Facts, Course, At, ballot_on, body_on, at_fewer, at_sent_on, at_pushed, at_recorded, at_sessions, at_views, at_row_for, at_row}
use Rattle.entry_laws.proofs.carried_values.Slots.{TallyIs, failed_is, voted_is, ticked_is, opened_is, closing_carries}
use Rattle.entry_laws.proofs.carried_values.More.{entry_on}
use Rattle.entry_laws.specs.carried_values.Carried.{EntryCarries, BallotTold, KeptTold, BodyTold}
use Rattle.node_state.specs.declared.packet.Body.TheVariants as body
use Rattle.node_state.specs.declared.happened.Happened.TheVariants as happened
use Rattle.session_state.specs.HandOn as session
use Rattle.node_state.specs.State.{leader_by}
use Rattle.proposal_core.specs.declared.entry.Entry.TheVariants.{Phase, Approve, Reject}
use Rattle.node_state.specs.Deciding.{keep_decision, wait_join}

-- ---- rows

-- where the phase that runs is as it was, so is the tally
row_is_same : (rs : List Happened) (led : Bool) (row now : GroupRow) → now.led.tally ≡ row.led.tally → now.led.given ≡ row.led.given → (state_in now.list).running ≡ (state_in row.list).running → RowIs rs led row → RowIs rs led now
row_is_same rs led row now t g r (inl e) = inl (t ∙ e)
row_is_same rs led row now t g r (inr k) = inr (k.0, subst (λ (z : Option TallyView × List Given × Option Running). TallyIs rs z.0 z.1 z.2) (λ i. (sym t i, sym g i, sym r i)) k.1)

-- where nothing runs, no vote counts
row_is_idle : (rs : List Happened) (led : Bool) (row now : GroupRow) → now.led.tally ≡ row.led.tally → (state_in now.list).running ≡ None → RowIs rs led row → RowIs rs led now
row_is_idle rs led row now t r (inl e) = inl (t ∙ e)
row_is_idle rs led row now t r (inr k) = inr (k.0, subst (λ z. TallyIs rs now.led.tally now.led.given z) (sym r) (by now.led.tally))
  where
    by : (o : Option TallyView) → TallyIs rs o now.led.given None
    by None = tt
    by (Some x) = tt

row_ticked : (rs : List Happened) (led : Bool) (row : GroupRow) → RowIs rs led row → RowIs rs led (record row { led = record (row.led) { tally = ticked_in row.led.tally } })
row_ticked rs led row (inl e) = inl (ap ticked_in e)
row_ticked rs led row (inr k) = inr (k.0, by row.led.tally k.1)
  where
    by : (o : Option TallyView) → TallyIs rs o row.led.given (state_in row.list).running → TallyIs rs (ticked_in o) row.led.given (state_in row.list).running
    by None z = tt
    by (Some t) z = ticked_is rs t row.led.given (state_in row.list).running z

-- a vote is counted
row_voted : (rs : List Happened) (led : Bool) (row : GroupRow) (p : ProviderId) (v : Vote) (value message : Option (List ℕ)) → ((r : Running) → (state_in row.list).running ≡ Some r → Has (happened.Cast p r.proto r.phase v value message) rs) → RowIs rs led row → RowIs rs led (record row { led = vote_cast row.led p v value message row.led.tally })
unfolding vote_cast
row_voted rs led row p v value message ok k = by row.led.tally refl k
  where
    run : Option Running
    run = (state_in row.list).running

    by : (o : Option TallyView) → row.led.tally ≡ o → RowIs rs led row → ((vote_cast row.led p v value message o).tally ≡ None) ⊎ ((led ≡ true) × TallyIs rs (vote_cast row.led p v value message o).tally (vote_cast row.led p v value message o).given run)
    by None e j = inl e
    by (Some t) e (inl none) = let z : Some t ≡ None = sym e ∙ none in absurd (cc)
    by (Some t) e (inr j) = inr (j.0, voted_is rs p v value message t row.led.given run ok (subst (λ z. TallyIs rs z row.led.given run) e j.1))

row_failed : (rs : List Happened) (led : Bool) (row : GroupRow) (p : ProviderId) (t : TallyView) → row.led.tally ≡ Some t → RowIs rs led row → RowIs rs led (record row { led = record (row.led) { tally = Some (tally_fail p t) } })
row_failed rs led row p t e (inl none) = let z : Some t ≡ None = sym e ∙ none in absurd (cc)
row_failed rs led row p t e (inr k) =
    inr (k.0, failed_is rs p t row.led.given (state_in row.list).running (subst (λ z. TallyIs rs z row.led.given (state_in row.list).running) e k.1))

-- what the node does not lead is not counted
row_unled : (rs : List Happened) (led : Bool) (row : GroupRow) → led ≡ false → RowIs rs led row → row.led.tally ≡ None
row_unled rs led row e (inl none) = none
row_unled rs led row e (inr k) = let z : true ≡ false = sym k.0 ∙ e in absurd (cc)

-- ---- ballots

told_so : (rs past : List Happened) (p : ProviderId) (proto : ProtoId) (phase : ℕ) (o : Option Filled) → IsCast rs p proto phase o → BallotTold (rs ++ past) p proto phase o
told_so rs past p proto phase None k = tt
told_so rs past p proto phase (Some b) k = append_has_left _ rs past k

-- a rule of views leaves the node in its view
pub viewing_stays : (s : Core) (v : Viewing) → Stays s.views (viewing s v)
viewing_stays s (Asks mask) = ask_stays s.views (views_at_work s.views) mask (own_parts s) (begun_stays s.views)
viewing_stays s (Prepares from inc v mask) = prepare_stays s.views (views_at_work s.views) from inc v mask (own_parts s) (begun_stays s.views)
viewing_stays s (Answers v a) = answer_stays s.views (views_at_work s.views) v a (begun_stays s.views)
viewing_stays s (Refuses v n) = refuse_stays s.views (views_at_work s.views) v n (begun_stays s.views)
viewing_stays s (Installs i) = install_stays s.views (views_at_work s.views) i (begun_stays s.views)
viewing_stays s (Takes from v) = taken_stays s.views (views_at_work s.views) from v (begun_stays s.views)
viewing_stays s Gathers = ticks_stay s.views (views_at_work s.views) (ring_ask s) (own_parts s) (begun_stays s.views)
viewing_stays s Reminds = install_again_stays s.views (views_at_work s.views) (begun_stays s.views)

module _ (h : Course) where
  abbrev rs : Core → List Happened
  rs s = s.records ++ records_of h.before

  abbrev pub Full : Core → Type 0
  Full s = At h Every s

  abbrev Is : Core → GroupRow → Type 0
  Is s row = RowIs (rs s) (leads_row s row) row

  saying_told : (s : Core) (b : Body) → Saying s b → ((k : KeptBallot) → Has k s.sessions.kept → KeptTold (rs s) k) → BodyTold (rs s) b
  saying_told s (body.Vote v g proto phase p vote value message) (inl i) kept = append_has_left _ s.records (records_of h.before) i
  saying_told s (body.Vote v g proto phase p vote value message) (inr k) kept =
      subst (λ (z : ProviderId × ProtoId × ℕ × Option Filled). BallotTold (rs s) z.0 z.1 z.2 z.3) (λ i. (k.2 i, k.3 i, k.4 i, k.5 i)) (kept k.0 k.1)
  saying_told s _ saying kept = tt

  pub beside : (T : List ℕ → Type 0) → KeepsBeside (At h T) Any
  beside T =
      record {
        row = λ s g f ok aside a. at_row h T s g f aside.mild.name (λ t. subst (λ o. RowIs (rs s) (is_this s.views.me (leader_by s.config.mode s.views.view.coord o)) (f (found s g))) (sym (aside.mild.leader (found s g))) (row_is_same (rs s) (leads_row s (found s g)) (found s g) (f (found s g)) (aside.tally (found s g)) (aside.given (found s g)) (ap (λ (st : GroupState). st.running) (aside.mild.state (found s g))) (a.tallies g t))) a;
        sends = λ s network to b saying a. at_sent_on h T s network to b (saying_told s b saying a.kept) a;
        notes = λ s n client v place t a. at_recorded h T s (happened.Noted n client v place t) tt a;
      }

  -- ---- an entry is put and heard

  delivery : (T : List ℕ → Type 0) (g : List ℕ) (e : Entry) → KeepsDelivery (At h T) g e
  delivery T g e =
      record {
        sends = λ s network to v place stable a. at_sent_on h T s network to (body.Entry v g place stable e) tt a;
        hears = λ s before after bs c i j a. at_recorded h T s (happened.Heard c.provider s.views.view g i e after.members after.value) tt a;
        casts = λ s p proto phase vote value message a. at_recorded h T s (happened.Cast p proto phase vote value message) tt a;
        handed = λ s before after bs kept a. at_sessions h T s (session.handed_on s.sessions g before after e bs) (λ k i. ⊎_elim (λ (j : Has k s.sessions.kept). a.kept k j) (λ (j : KeptIs s.records k). told_so s.records (records_of h.before) k.provider k.proto k.phase k.ballot.filled j) (kept k i)) a;
      }

  at_put : (T U : List ℕ → Type 0) (s : Core) (g : List ℕ) (e : Entry) (ns : List ℕ) (stable : ℕ) (bs : List (Option Filled)) → (h.counts ≡ true → PutFact (reverse s.records) h.before s.views.view g (len_in (found s g).list) e) → ((k : List ℕ) → U k → (g ≡ k → ⊥) → T k) → (U g → Is s (put_row h.before s (found s g) e)) → At h T s → At h U (delivered s g e ns stable bs)
  unfolding put with_row row_of len_of list_of
  at_put T U s g e ns stable bs fact others own a =
      let f : GroupRow → GroupRow = λ row. put_row h.before s row e in
      at_delivered (At h U) g e (delivery U g e) s ns stable bs (at_pushed h U (with_row s g f) (happened.Put s.views.me s.views.view g (len_in (found s g).list) e) (λ c k. (fact c, k)) (at_row_for h T U s g f (λ x. refl) others own a))

  -- what its leader puts
  put_fact : (s : Core) (v : ViewId) (g : List ℕ) (i : ℕ) (e : Entry) → EntryCarries (rs s) e → PutFact (reverse s.records) h.before v g i e
  put_fact s v g i e ok = inl (entry_on (rs s) (reverse s.records ++ records_of h.before) (λ x k. has_turned x s.records (records_of h.before) k) e ok)

  -- ---- what a leader does

  plain_row : (s : Core) (g : List ℕ) (e : Entry) → Plain Anything s g e → fits_at_end s g e ≡ true → Is s (found s g) → Is s (put_row h.before s (found s g) e) × EntryCarries (rs s) e
  unfolding fits_at_end entry_fits list_of row_of with_entry apply
  plain_row s g (Once x) plain room k =
      (row_is_idle (rs s) (leads_row s (found s g)) (found s g) (put_row h.before s (found s g) (Once x)) refl (once_idle (state_in (found s g).list) s.views.view (list_or_new (found s g).list).len x (and_parts (fits (state_in (found s g).list) (Once x)) (has_room (list_or_new (found s g).list) (Once x)) room).0) k, tt)
  plain_row s g (Late proto phase ps) plain fits k =
      (row_is_same (rs s) (leads_row s (found s g)) (found s g) (put_row h.before s (found s g) (Late proto phase ps)) refl refl (ap (λ (st : GroupState). st.running) (late_same (state_in (found s g).list) s.views.view (list_or_new (found s g).list).len (Late proto phase ps) refl)) k, tt)
  plain_row s g (Begin x) plain fits k = absurd plain
  plain_row s g (Phase c) plain fits k = absurd plain
  plain_row s g (Approve c) plain fits k = absurd plain
  plain_row s g (Reject c) plain fits k = absurd plain

  carries : (s : Core) (g : List ℕ) (e : Entry) → Turning Anything s g e → Is s (found s g) → EntryCarries (rs s) e
  unfolding led_of state_of list_of row_of
  carries s g e turning k = by e turning
    where
      made : (e : Entry) → closing_entry (found s g).led (found s g).led.tally (state_in (found s g).list).running ≡ Some e → EntryCarries (rs s) e
      made e q = at k
        where
          at : Is s (found s g) → EntryCarries (rs s) e
          at (inl none) = closing_carries (rs s) (found s g).led None (state_in (found s g).list).running e tt (ap (λ o. closing_entry (found s g).led o (state_in (found s g).list).running) (sym none) ∙ q)
          at (inr k) = closing_carries (rs s) (found s g).led (found s g).led.tally (state_in (found s g).list).running e k.1 q

      by : (e : Entry) → Turning Anything s g e → EntryCarries (rs s) e
      by (Begin x) t = tt
      by (Once x) t = tt
      by (Late proto phase ps) t = tt
      by (Phase c) t = made (Phase c) t
      by (Approve c) t = made (Approve c) t
      by (Reject c) t = made (Reject c) t

  opened : (s : Core) (g : List ℕ) → leads s g ≡ true → At h (But g) s → At h Every (tally_opened s g)
  unfolding tally_opened tally_set with_led led_of state_of list_of row_of
  opened s g led a =
      at_row_for h (But g) Every s g (λ row. record row { led = record (row.led) { tally = Some (tally_for (state_in (found s g).list) (found s g).led.gone); given = [] } }) (λ x. refl) (λ k u ne. ne) (λ u. inr (leads_is s g ∙ led, opened_is (rs s) (state_in (found s g).list) (found s g).led.gone (state_in (found s g).list).running)) a

  -- what a leader keeps changes, and the tally does not
  led_row : (s : Core) (g : List ℕ) (f : Led → Led) → ((l : Led) → ((f l).tally ≡ l.tally) × ((f l).given ≡ l.given)) → Full s → Full (with_led s g f)
  unfolding with_led
  led_row s g f same a =
      at_row h Every s g (λ row. record row { led = f row.led }) (λ x. refl) (λ t. row_is_same (rs s) (leads_row s (found s g)) (found s g) (record (found s g) { led = f (found s g).led }) (same (found s g).led).0 (same (found s g).led).1 refl (a.tallies g t)) a

  leading : KeepsLed Full (λ g. At h (But g)) Anything (IsLed ⊥)
  unfolding keep_decision tally_set with_led
  leading =
      record {
        decides = λ s g q r y ok fair a. led_row s g _ (λ l. (refl, refl)) a;
        puts = λ s g e ns stable bs ok fits plain a. at_put Every Every s g e ns stable bs (λ c. put_fact s s.views.view g (len_in (found s g).list) e (plain_row s g e plain fits (a.tallies g tt)).1) (λ k u ne. tt) (λ u. (plain_row s g e plain fits (a.tallies g tt)).0) a;
        turns = λ s g e ns stable bs ok fits turning a. at_put Every (But g) s g e ns stable bs (λ c. put_fact s s.views.view g (len_in (found s g).list) e (carries s g e turning (a.tallies g tt))) (λ k u ne. tt) (λ u. absurd (u refl)) a;
        rests = λ s g ok a. at_row_for h (But g) Every s g _ (λ x. refl) (λ k u ne. ne) (λ u. inl refl) a;
        opens = λ s g ok a. opened s g (sure ok) a;
      }

  keeping : Keeping Full (λ g. At h (But g)) Anything ⊥
  keeping = record { order = λ s a. inl a.order; order_between = λ g s a. inl a.order; beside = beside Every; between = λ g. beside (But g); led = leading }

  -- ---- packets

  -- what is known of a packet that is given to a node
  pub record Known (s : Core) (q : Packet) : Type 0 where
    pub told : BodyTold (rs s) q.body
    pub entry : (v : ViewId) (g : List ℕ) (place stable : ℕ) (e : Entry) → q.body ≡ body.Entry v g place stable e → is_used s q v ≡ true → (place == len_of s g) ≡ true → PutFact (reverse s.records) h.before s.views.view g (len_in (found s g).list) e × (leads s g ≡ false)
    pub request : (v : ViewId) (g : List ℕ) (p : ProviderId) (r : ℕ) (phases : Phases) (x : Proposal) → q.body ≡ body.Request v g p r phases x → q.to ≡ s.views.me → is_used s q v ≡ true → leads (set_leader s g s.views.me) g ≡ true

  -- a leader is known
  led_by : (s : Core) (g : List ℕ) (n : ℕ) → Is s (record (found s g) { leader = Some n }) → Full s → Full (set_leader s g n)
  unfolding set_leader
  led_by s g n own a = at_row h Every s g (λ row. record row { leader = Some n }) (λ x. refl) (λ t. own) a

  idle_row : (s : Core) (g : List ℕ) → leads s g ≡ false → Full s → (found s g).led.tally ≡ None
  idle_row s g un a = row_unled (rs s) (leads_row s (found s g)) (found s g) (leads_is s g ∙ un) (a.tallies g tt)

  noted : (s : Core) (g : List ℕ) → leads (set_leader s g s.views.me) g ≡ true → Full s → Full (set_leader s g s.views.me)
  unfolding set_leader with_row leads leads_in leader_in row_of
  noted s g leads_it a = led_by s g s.views.me (own (a.tallies g tt)) a
    where
      now : leads_row s (record (found s g) { leader = Some s.views.me }) ≡ true
      now = ap (leads_row s) (sym (row_here g (λ row. record row { leader = Some s.views.me }) (λ x. refl) s a.order)) ∙ leads_it

      own : Is s (found s g) → Is s (record (found s g) { leader = Some s.views.me })
      own (inl e) = inl e
      own (inr k) = inr (now, k.1)

  counts : (s : Core) (g : List ℕ) (proto : ProtoId) (phase : ℕ) (p : ProviderId) (v : Vote) (value message : Option (List ℕ)) → Has (happened.Cast p proto phase v value message) (rs s) → runs proto phase (state_of s g).running ≡ true → Full s → Full (with_led s g (λ l. vote_cast l p v value message l.tally))
  unfolding with_led state_of list_of row_of
  counts s g proto phase p v value message ok runs_it a =
      at_row h Every s g (λ row. record row { led = vote_cast row.led p v value message row.led.tally }) (λ x. refl) (λ t. row_voted (rs s) (leads_row s (found s g)) (found s g) p v value message now (a.tallies g t)) a
    where
      now : (r : Running) → (state_in (found s g).list).running ≡ Some r → Has (happened.Cast p r.proto r.phase v value message) (rs s)
      now r e =
          let k = runs_is proto phase r (ap (runs proto phase) (sym e) ∙ runs_it) in
          subst (λ (z : ProtoId × ℕ). Has (happened.Cast p z.0 z.1 v value message) (rs s)) (λ i. (k.0 i, k.1 i)) ok

  telling : (s : Core) (p : ProviderId) (r : ℕ) (y : Why) → Full s → Full (recorded (with_sessions s (take_telling s.sessions p r y)) (happened.Told p r y))
  telling s p r y a =
      at_recorded h Every (with_sessions s (take_telling s.sessions p r y)) (happened.Told p r y) tt (at_sessions h Every s (take_telling s.sessions p r y) (λ k i. a.kept k (told_no_more s.sessions p r y k i)) a)

  pub packets : KeepsPackets Full (λ g. At h (But g)) Anything ⊥ Known
  unfolding wait_join keep_decision with_tally with_led led_of row_of
  packets =
      record {
        keeping = keeping;
        names = λ s ns a. record { sends = a.sends; kept = a.kept; facts = a.facts; order = a.order; tallies = a.tallies };
        reach = λ s x a. record { sends = a.sends; kept = a.kept; facts = a.facts; order = a.order; tallies = a.tallies };
        named = λ s g n e a. led_by s g n (inl (idle_row s g (unnamed h.before s g e) a)) a;
        requested = λ s q v g p r phases x k to is used a. (noted s g (k.request v g p r phases x is to used) a, inl (k.request v g p r phases x is to used));
        changes = λ s q v g p r phases x k to is used none fair. tt;
        joins = λ s g q r attrs e a. led_row (keep_decision s g q r None) g _ (λ l. (refl, refl)) (led_row s g _ (λ l. (refl, refl)) a);
        tells = λ s q r y telling_it numbered a. telling s q r y a;
        comes = λ s q v g place stable e bs k to is used at fits a. (let z = k.entry v g place stable e is used at in at_put Every Every s g e [] 0 bs (λ c. z.0) (λ k u ne. tt) (λ u. inl (idle_row s g z.1 a)) a, inl (k.entry v g place stable e is used at).1);
        follows = λ s g n un a. led_by s g n (inl (idle_row s g (sure un) a)) a;
        casts = λ s q v g proto phase p vote value message k is led runs_it a. counts s g proto phase p vote value message (subst (BodyTold (rs s)) is k.told) runs_it a;
        fails = λ s g p t led e a. at_row h Every s g _ (λ x. refl) (λ u. row_failed (rs s) (leads_row s (found s g)) (found s g) p t e (a.tallies g tt)) a;
        ticks = λ s g led a. at_row h Every s g _ (λ x. refl) (λ u. row_ticked (rs s) (leads_row s (found s g)) (found s g) (a.tallies g tt)) a;
        reopens = λ s g led a. opened s g (sure led) (at_fewer h Every (But g) s (λ k ne. tt) a);
      }

-- ---- views and calls

module _ (h : Course) where
  -- what is put now does not count
  abbrev pub loose : Course
  loose = record { before = h.before; counts = false }

  abbrev pub Loose : Core → Type 0
  Loose s = At loose NoGroup s

  loosened : (s : Core) → Full h s → Loose s
  loosened s a = record { sends = a.sends; kept = a.kept; facts = λ c. absurd (cc); order = a.order; tallies = λ g z. absurd z }

  -- records of bases
  based_facts : (n : ℕ) (v : ViewId) (bs : List Base) (rs : List Happened) → Facts h.before (reverse rs) → Facts h.before (reverse (rs ++ map (base_noted n v) bs))
  based_facts n v [] rs k = subst (λ l. Facts h.before (reverse l)) (sym (append-nil rs)) k
  based_facts n v (b ∷ bs) rs k =
      subst (λ l. Facts h.before (reverse l)) (append_assoc rs (base_noted n v b ∷ []) (map (base_noted n v) bs)) (based_facts n v bs (rs ++ base_noted n v b ∷ []) (subst (Facts h.before) (sym (reverse-append rs (base_noted n v b ∷ []))) (tt, k)))

  -- (2) in a view that is entered lists are those of the bases, and nothing is counted yet
  at_view_entered : (s : Core) (i : Install) → Loose s → Full h (view_entered s i (bases_of i))
  unfolding view_entered level_set base_record base_row views_entered own_install with_sessions recorded_all
  at_view_entered s i a =
      record {
        sends = λ p j. body_on now ts more p.body (a.sends p j);
        kept = λ k j. ballot_on now ts more k.provider k.proto k.phase k.ballot.filled (a.kept k j);
        facts = λ c. subst (λ l. Facts h.before (reverse l)) same (based_facts s.views.me i.view bs rs (subst (Facts h.before) (sym (reverse-append s.records (enters ∷ []))) tt));
        order = bases_ordered i;
        tallies = λ g u. inl (tally g);
      }
    where
      bs : List Base
      bs = bases_of i

      enters : Happened
      enters = happened.In s.views.me i.view i.members

      rs : List Happened
      rs = s.records ++ enters ∷ []

      added : List Happened
      added = enters ∷ map (base_noted s.views.me i.view) bs

      now : List Happened
      now = s.records ++ records_of h.before

      ts : List Happened
      ts = (s.records ++ added) ++ records_of h.before

      more : (r : Happened) → Has r now → Has r ts
      more r j =
          ⊎_elim (λ (k : Has r s.records). append_has_left r (s.records ++ added) (records_of h.before) (append_has_left r s.records added k)) (λ (k : Has r (records_of h.before)). append_has_right r (s.records ++ added) (records_of h.before) k) (has_append r s.records (records_of h.before) j)

      same : rs ++ map (base_noted s.views.me i.view) bs ≡ s.records ++ enters ∷ map (base_noted s.views.me i.view) bs
      same = append_assoc s.records (enters ∷ []) (map (base_noted s.views.me i.view) bs)

      tally : (g : List ℕ) → (row_found g (find (has_name g) (map base_row bs))).led.tally ≡ None
      tally g = ap (λ o. (row_found g o).led.tally) (row_of_base g bs) ∙ by (base_named bs g)
        where
          by : (o : Option Base) → (row_found g (option_map base_row o)).led.tally ≡ None
          by None = refl
          by (Some b) = refl

  -- a vote is recorded and kept
  votes : (s : Core) (t : SessionState) (m : OneMore s.sessions t) → Full h s → Full h (recorded (with_sessions s t) (happened.Cast m.ballot.provider m.ballot.proto m.ballot.phase m.filled.vote m.filled.value m.filled.message))
  unfolding recorded with_sessions
  votes s t m a = at_sessions h Every (recorded s r) t all (at_recorded h Every s r tt a)
    where
      r : Happened
      r = happened.Cast m.ballot.provider m.ballot.proto m.ballot.phase m.filled.vote m.filled.value m.filled.message

      now : List Happened
      now = (s.records ++ r ∷ []) ++ records_of h.before

      all : (x : KeptBallot) → Has x t.kept → KeptTold now x
      all x i = by (has_append x s.sessions.kept (m.ballot ∷ []) (subst (Has x) m.more i))
        where
          own : KeptTold now m.ballot
          own = subst (λ b. BallotTold now m.ballot.provider m.ballot.proto m.ballot.phase b) (sym m.full) (has_last r s.records (records_of h.before))

          by : Has x s.sessions.kept ⊎ Has x (m.ballot ∷ []) → KeptTold now x
          by (inl j) = ballot_on (s.records ++ records_of h.before) now (λ y z. has_pushed_on r y s.records (records_of h.before) z) x.provider x.proto x.phase x.ballot.filled (a.kept x j)
          by (inr (inl e)) = subst (KeptTold now) (sym e) own
          by (inr (inr z)) = absurd z

  pub calling : KeepsCalling (Full h)
  calling =
      record {
        sessions = λ s t less a. at_sessions h Every s t (λ k i. a.kept k (less k i)) a;
        refuses = λ s n client fault a. at_recorded h Every s (happened.Refused n client fault) tt a;
        asks = λ s p r g x a. at_recorded h Every s (happened.Asked p r g x) tt a;
        votes = votes;
      }

  pub entering : KeepsEntering (Full h) (λ s w. Unit {0}) (λ i xs. Loose) (Known h)
  unfolding dissolved sent
  entering =
      record {
        views = λ s v arisen a. (let z = viewing_stays s v in at_views h Every s (viewing s v).views z.me z.view a, tt);
        sends = λ s w x i a works. (at_sent_on h Every s (network_to s x.to) x.to (body.View x.packet) tt a, tt);
        leaves = λ s w i xs e q a works. loosened s a;
        beside = λ i xs. beside loose NoGroup;
        fills = λ s i xs x e bs here there a. at_put loose NoGroup NoGroup s x.name e [] 0 bs (λ c. absurd (cc)) (λ k z ne. z) (λ z. absurd z) a;
        enters = λ s i xs a. at_view_entered s i a;
        dissolves = λ s q x e a. telling h s x.provider (number_of (outstanding s.sessions x.provider)) Dissolved a;
      }

  pub ring : KeepsRing (Full h)
  ring =
      record {
        rings = λ s rs a. record { sends = a.sends; kept = a.kept; facts = a.facts; order = a.order; tallies = a.tallies };
        sends = λ s network to x a. at_sent_on h Every s network to (body.Ring x) tt a;
        records = λ s n network id members neighbour a. at_recorded h Every s (happened.Ring n network id members neighbour) tt a;
      }
