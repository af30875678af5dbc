-- The rows of packets of a view.
use Rattle.std.proofs.Common.{◌≡◌, ◌⊎◌, ℕ, List, [], ◌∷◌, ◌++◌, Option, Some, None, Bool, true, false, refl, sym, ap, ◌∙◌, subst, inl, inr}
use Rattle.std.specs.Prelude.{◌==◌, ◌&&◌, ◌||◌, find, nat_le, nat_lt, is_none, reverse, not, filter, if◌then◌else◌, fold}
use Rattle.std.specs.Option.{unwrap_or}
use Rattle.std.proofs.lemmas.Bool.{eqb-true}
use Rattle.std.proofs.lemmas.List.{reverse-append}
use Rattle.rsct_packet.specs.declared.ids.ViewId.{ViewId}
use Rattle.rsct_packet.specs.declared.ids.ProviderId.{ProviderId}
use Rattle.rsct_packet.specs.declared.ids.ProtoId.{ProtoId}
use Rattle.rsct_packet.specs.Providers.{among, same_provider}
use Rattle.rsct_packet.specs.Search.{Has}
use Rattle.rsct_packet.proofs.HasLaws.{append_has_left, find_has, has_filter}
use Rattle.proposal_core.proofs.FoldLaws.{among_both}
use Rattle.group_attr.specs.declared.attrs.Phases.{Phases}
use Rattle.proposal_core.specs.declared.proposal.Cause.TheVariants.{Gone}
use Rattle.proposal_core.specs.declared.proposal.Failure.{Failure}
use Rattle.proposal_core.specs.declared.proposal.Proposal.{Proposal}
use Rattle.proposal_core.specs.declared.entry.Entry.{Entry}
use Rattle.proposal_core.specs.declared.entry.Vote.{Vote}
use Rattle.proposal_core.specs.declared.group_state.GroupState.{GroupState}
use Rattle.proposal_core.specs.Fold.{runs, present, joiners_fit}
use Rattle.proposal_core.specs.Lists.{state_in, len_in}
use Rattle.batch_rules.specs.Waiting.{WaitingView, add_failure, drop_join}
use Rattle.name_server.specs.Names as names
use Rattle.name_server.specs.declared.names.Leader.{Leader}
use Rattle.vote_phases.specs.Tally.{TallyView, tally_fail}
use Rattle.view_state.specs.declared.views.Views.{Views}
use Rattle.client_callbacks.specs.declared.told.Why.{Why}
use Rattle.client_callbacks.specs.declared.told.Why.TheVariants.{GroupsFull}
use Rattle.session_state.specs.declared.state.Request.{Request}
use Rattle.session_state.specs.State.{is_asked_by, outstanding, without_providers}
use Rattle.session_state.specs.HandOn.{is_numbered, is_join, is_join_request, is_dissolved, takes_telling, told_of, take_telling}
use Rattle.node_state.specs.declared.group.Decision.{Decision}
use Rattle.node_state.specs.declared.group.GroupRow.{GroupRow}
use Rattle.node_state.specs.declared.group.Led.{Led}
use Rattle.node_state.specs.declared.happened.Happened.{Happened}
use Rattle.node_state.specs.declared.happened.Happened.TheVariants as happened
use Rattle.node_state.specs.declared.packet.Body.TheVariants as body
use Rattle.node_state.specs.declared.state.Core.{Core}
use Rattle.node_state.specs.Settings.{is_fixed}
use Rattle.node_state.specs.State.{InNameOrder, row_found, row_of, with_row, with_led, led_of, state_of, len_of, holds, fits_at_end, forget_below, coordinates, is_this, leader_by, leader_in, leader_of, leads_in, leads, set_leader, acked_raised, decision_of, recorded, with_sessions, has_name}
use Rattle.node_state.specs.Sending.{sent, send_on, send_request}
use Rattle.node_state.specs.HandOn.{Answering}
use Rattle.node_state.specs.Leading.{put, put_and_hand, with_waiting, with_tally, closes}
use Rattle.node_state.specs.Deciding.{decided}
use Rattle.node_state.specs.Following.{take_lookup, told_if, take_tell, requests_of, named, is_name_used, take_name, tell_again, decide_new, request_after, request_at, is_group_refused, take_request, entry_next, entry_elsewhere, take_entry, acked, take_ack, vote_cast, take_vote, tally_failed, wait_gone, marked, gone_present, gone_of, take_gone}
use Rattle.run_safety.specs.Past.{History, records_of}
use Rattle.step_walk.proofs.Changes.{Fairly}
use Rattle.run_safety.specs.Stays.{stays, is_join_of}
use Rattle.node_state.proofs.NameOrder.{cases_text, row_here, row_there, rows_ordered}
use Rattle.step_refinement.proofs.SessionLaws.{provider_same}
use Rattle.step_refinement.proofs.Appending.{handed_rows}
use Rattle.row_laws.proofs.hearing.Rules.{closes_on}
use Rattle.row_laws.proofs.honest_votes.At.{found, leads_row, leads_is}
use Rattle.step_walk.proofs.Asides.{handed_longer}
use Rattle.row_laws.proofs.honest_votes.Changes.{Every, NoGroup}
use Rattle.row_laws.specs.failed_rows.Failures.{IsRefused, GoneCause}
use Rattle.row_laws.proofs.failed_rows.Facts.{Whys, TallyFails, TallyIs, QueueIs, BasesFit, Track}
use Rattle.row_laws.proofs.failed_rows.Origin.{Origin}
use Rattle.row_laws.proofs.failed_rows.At.{At, at_for, at_fold, at_sent, at_row_for, at_told}
use Rattle.row_laws.proofs.failed_rows.Tallies.{failed_fails, voted_fails}
use Rattle.row_laws.proofs.failed_rows.Sends.{at_request_sent}
use Rattle.row_laws.proofs.failed_rows.Puts.{put_row, at_put_and_handed_for}
use Rattle.row_laws.proofs.failed_rows.Leading.{at_led, at_waiting, at_waits, at_forgets, at_forgets_least, at_closes}
use Rattle.row_laws.proofs.failed_rows.Ending.{NoFailure, waiting_of, at_decided}

-- a vote is counted
voted : (gone : ProviderId → Type 0) (led : Bool) (l : Led) (st : GroupState) (p : ProviderId) (v : Vote) (value message : Option (List ℕ)) → TallyIs gone led l.tally st → TallyIs gone led (vote_cast l p v value message l.tally).tally st
unfolding vote_cast
voted gone led l st p v value message k = by l.tally refl k
  where
    by : (o : Option TallyView) → l.tally ≡ o → TallyIs gone led l.tally st → TallyIs gone led (vote_cast l p v value message o).tally st
    by None e j = inl e
    by (Some t) e (inl none) = let z : Some t ≡ None = sym e ∙ none in absurd (cc)
    by (Some t) e (inr j) = inr (j.0, voted_fails gone st p v t (subst (TallyFails gone st) e j.1))

voted_gone : (l : Led) (p : ProviderId) (v : Vote) (value message : Option (List ℕ)) (o : Option TallyView) → ((vote_cast l p v value message o).gone ≡ l.gone) × ((vote_cast l p v value message o).waiting ≡ l.waiting)
unfolding vote_cast
voted_gone l p v value message None = (refl, refl)
voted_gone l p v value message (Some t) = (refl, refl)

voted_whys : (l : Led) (p : ProviderId) (v : Vote) (value message : Option (List ℕ)) (o : Option TallyView) → Whys l → Whys (vote_cast l p v value message o)
unfolding vote_cast
voted_whys l p v value message None k = k
voted_whys l p v value message (Some t) k = k

-- one more is marked
marked_is : (ps : List ProviderId) (p q : ProviderId) → among (marked ps p) q ≡ true → (among ps q ≡ true) ⊎ (q ≡ p)
unfolding marked
marked_is ps p q e = by (among ps p) e
  where
    last : (a b : Bool) → among ps q ≡ a → same_provider p q ≡ b → (a || (b || false)) ≡ true → (among ps q ≡ true) ⊎ (q ≡ p)
    last true b x y z = inl x
    last false true x y z = inr (sym (provider_same p q y))
    last false false x y z = absurd (cc)

    by : (b : Bool) → among (elim b as (λ _. List ProviderId) [ true ↦ ps | false ↦ ps ++ p ∷ [] ]) q ≡ true → (among ps q ≡ true) ⊎ (q ≡ p)
    by true z = inl z
    by false z = last (among ps q) (same_provider p q) refl refl (sym (among_both ps (p ∷ []) q) ∙ z)

module _ (h : History) (said : ProviderId → Type 0) (origin : Origin) (P L M : Type 0) (live : L) where
  abbrev Full : Core → Type 0
  Full s = At h said origin P L M Every NoGroup Every s

  at_names : (s : Core) (ns : List Leader) → Full s → Full (record s { names = ns })
  at_names s ns a = record { inc = a.inc; counted = a.counted; own = a.own; slim = a.slim; sends = a.sends; puts = a.puts; accepted = a.accepted; whose = a.whose; order = a.order; tracks = a.tracks; marks = a.marks; tallies = a.tallies; queues = a.queues; apart = a.apart; led = a.led; whys = a.whys; takers = a.takers }

  -- a leader is known
  module _ (s : Core) (g : List ℕ) (n : ℕ) where
    abbrev led_row : GroupRow → GroupRow
    led_row row = record row { leader = Some n }

    at_led_by : TallyIs (GoneCause h s.views.view g) (leads_row s (led_row (found s g))) (found s g).led.tally (state_in (found s g).list) → (BasesFit s.records → QueueIs (GoneCause h s.views.view g) (leads_row s (led_row (found s g))) (waiting_of s g) (state_in (found s g).list)) → Full s → Full (set_leader s g n)
    unfolding set_leader with_row row_of
    at_led_by own queue a =
        record {
          inc = a.inc;
          counted = a.counted;
          own = a.own;
          slim = a.slim;
          sends = a.sends;
          puts = a.puts;
          accepted = a.accepted;
          whose = a.whose;
          order = rows_ordered g led_row (λ x. refl) s a.order;
          tracks = λ l k. subst (λ (z : ℕ × GroupState). Track (stays s.views.me k (reverse s.records ++ records_of h)) s.views.view z.0 z.1) (λ i. (sym (lists k (cases_text g k)).0 i, sym (lists k (cases_text g k)).1 i)) (a.tracks l k);
          marks = λ l k p i. a.marks l k p (subst (λ z. among z p ≡ true) (gone k (cases_text g k)) i);
          tallies = λ k u. tally k (cases_text g k);
          queues = λ fit k u. waiting fit k (cases_text g k);
          apart = λ l fit k. ap joiners_fit (lists k (cases_text g k)).1 ∙ a.apart l fit k;
          led = λ k z. absurd z;
          whys = λ k. why k (cases_text g k);
          takers = a.takers;
        }
      where
        c : Core
        c = with_row s g led_row

        here : found c g ≡ led_row (found s g)
        here = row_here g led_row (λ x. refl) s a.order

        there : (k : List ℕ) → (g ≡ k → ⊥) → found c k ≡ found s k
        there k ne = row_there g led_row (λ x. refl) s k ne

        why : (k : List ℕ) → (g ≡ k) ⊎ (g ≡ k → ⊥) → Whys (found c k).led
        why k (inl e) = subst (λ z. Whys (found c z).led) e (subst (λ (z : GroupRow). Whys z.led) (sym here) (a.whys g))
        why k (inr ne) = subst (λ (z : GroupRow). Whys z.led) (sym (there k ne)) (a.whys k)

        lists : (k : List ℕ) → (g ≡ k) ⊎ (g ≡ k → ⊥) → (len_in (found c k).list ≡ len_in (found s k).list) × (state_in (found c k).list ≡ state_in (found s k).list)
        lists k (inl e) = subst (λ z. (len_in (found c z).list ≡ len_in (found s z).list) × (state_in (found c z).list ≡ state_in (found s z).list)) e (ap (λ (z : GroupRow). len_in z.list) here, ap (λ (z : GroupRow). state_in z.list) here)
        lists k (inr ne) = (ap (λ (z : GroupRow). len_in z.list) (there k ne), ap (λ (z : GroupRow). state_in z.list) (there k ne))

        gone : (k : List ℕ) → (g ≡ k) ⊎ (g ≡ k → ⊥) → (found c k).led.gone ≡ (found s k).led.gone
        gone k (inl e) = subst (λ z. (found c z).led.gone ≡ (found s z).led.gone) e (ap (λ (z : GroupRow). z.led.gone) here)
        gone k (inr ne) = ap (λ (z : GroupRow). z.led.gone) (there k ne)

        tally : (k : List ℕ) → (g ≡ k) ⊎ (g ≡ k → ⊥) → TallyIs (GoneCause h s.views.view k) (leads_row s (found c k)) (found c k).led.tally (state_in (found c k).list)
        tally k (inl e) =
            subst (λ z. TallyIs (GoneCause h s.views.view z) (leads_row s (found c z)) (found c z).led.tally (state_in (found c z).list)) e (subst (λ (z : GroupRow). TallyIs (GoneCause h s.views.view g) (leads_row s z) z.led.tally (state_in z.list)) (sym here) own)
        tally k (inr ne) = subst (λ (z : GroupRow). TallyIs (GoneCause h s.views.view k) (leads_row s z) z.led.tally (state_in z.list)) (sym (there k ne)) (a.tallies k tt)

        waiting : BasesFit s.records → (k : List ℕ) → (g ≡ k) ⊎ (g ≡ k → ⊥) → QueueIs (GoneCause h s.views.view k) (leads_row s (found c k)) (found c k).led.waiting.failures (state_in (found c k).list)
        waiting fit k (inl e) =
            subst (λ z. QueueIs (GoneCause h s.views.view z) (leads_row s (found c z)) (found c z).led.waiting.failures (state_in (found c z).list)) e (subst (λ (z : GroupRow). QueueIs (GoneCause h s.views.view g) (leads_row s z) z.led.waiting.failures (state_in z.list)) (sym here) (queue fit))
        waiting fit k (inr ne) = subst (λ (z : GroupRow). QueueIs (GoneCause h s.views.view k) (leads_row s z) z.led.waiting.failures (state_in z.list)) (sym (there k ne)) (a.queues fit k tt)

  -- one group that the node leads
  abbrev Only : List ℕ → List ℕ → Type 0
  Only g k = g ≡ k

  only_led : (s : Core) (g : List ℕ) → leads s g ≡ true → Full s → At h said origin P L M Every (Only g) Every s
  only_led s g led a = at_for h said origin P L M Every NoGroup Every Every (Only g) Every s (λ k t. t) (λ k e. subst (λ z. leads_row s (found s z) ≡ true) e (leads_is s g ∙ led)) (λ k t. t) a

  all_again : (s : Core) (g : List ℕ) → At h said origin P L M Every (Only g) Every s → Full s
  all_again s g a = at_for h said origin P L M Every (Only g) Every Every NoGroup Every s (λ k t. t) (λ k z. absurd z) (λ k t. t) a

  -- ---- LOOKUP, NAME and TELL

  pub at_lookup : (s : Core) (from : ℕ) (g : List ℕ) → Full s → Full (take_lookup s from g)
  unfolding take_lookup
  at_lookup s from g a = by (coordinates s)
    where
      by : (b : Bool) → Full (elim b as (λ _. Core) [ false ↦ s | true ↦ sent (record s { names = names.lookup g from s.names }) from (body.Name s.views.view g (unwrap_or (names.looked_up g from s.names) 0)) ])
      by false = a
      by true = at_sent h said origin P L M Every NoGroup Every (record s { names = names.lookup g from s.names }) from (body.Name s.views.view g (unwrap_or (names.looked_up g from s.names) 0)) tt (at_names s (names.lookup g from s.names) a)

  -- a join that is outstanding has the number of its provider's join, and its node did not put it
  abbrev Numbered : Core → Type 0
  Numbered s = (q : Request) → Has q s.sessions.requests → is_join q.proposal ≡ true → IsRefused (reverse s.records ++ records_of h) q.provider q.request

  at_told_if : (s : Core) (p : ProviderId) (r : ℕ) (y : Why) (b : Bool) → (b ≡ true → (is_join_request (outstanding s.sessions p) ≡ true) ⊎ (is_dissolved y ≡ true) → IsRefused (reverse s.records ++ records_of h) p r) → Full s → Full (told_if s p r y b)
  unfolding told_if
  at_told_if s p r y false ends a = a
  at_told_if s p r y true ends a = at_told h said origin P L M Every NoGroup Every s p r y (λ me inc k. inl (ends refl k)) a

  pub at_tell : (s : Core) (p : ProviderId) (r : ℕ) (y : Why) → is_dissolved y ≡ false → Numbered s → Full s → Full (take_tell s p r y)
  unfolding take_tell outstanding
  at_tell s p r y fine numbered a = at_told_if s p r y (is_numbered r (find (is_asked_by p) s.sessions.requests)) ends a
    where
      joins : (o : Option Request) → find (is_asked_by p) s.sessions.requests ≡ o → is_numbered r o ≡ true → is_join_request o ≡ true → IsRefused (reverse s.records ++ records_of h) p r
      joins None e n j = absurd (cc)
      joins (Some q) e n j =
          let k = find_has (is_asked_by p) s.sessions.requests q e in
          subst (λ (z : ProviderId × ℕ). IsRefused (reverse s.records ++ records_of h) z.0 z.1) (λ i. (provider_same q.provider p k.1 i, eqb-true q.request r n i)) (numbered q k.0 j)

      ends : is_numbered r (find (is_asked_by p) s.sessions.requests) ≡ true → (is_join_request (find (is_asked_by p) s.sessions.requests) ≡ true) ⊎ (is_dissolved y ≡ true) → IsRefused (reverse s.records ++ records_of h) p r
      ends n (inl j) = joins (find (is_asked_by p) s.sessions.requests) refl n j
      ends n (inr d) = absurd (let z : true ≡ false = sym d ∙ fine in cc)

  told_numbered : (s : Core) (p : ProviderId) (r : ℕ) (y : Why) → Numbered s → Numbered (take_tell s p r y)
  unfolding take_tell told_if recorded with_sessions take_telling told_of without_providers
  told_numbered s p r y k q i j = by (is_numbered r (outstanding s.sessions p)) (takes_telling s.sessions p r y) (is_join_request (outstanding s.sessions p) || is_dissolved y) i
    where
      -- a telling more
      told : Happened
      told = happened.Told p r y

      later : IsRefused (reverse s.records ++ records_of h) q.provider q.request → IsRefused (reverse (s.records ++ told ∷ []) ++ records_of h) q.provider q.request
      later z = subst (λ rs. IsRefused (rs ++ records_of h) q.provider q.request) (sym (reverse-append s.records (told ∷ []))) (record { join = z.join; in_view = z.in_view; unput = other z })
        where
          other : IsRefused (reverse s.records ++ records_of h) q.provider q.request → (v : ViewId) (g : List ℕ) (i : ℕ) (e : Entry) → Has (happened.Put q.provider.node v g i e) (told ∷ (reverse s.records ++ records_of h)) → is_join_of q.provider e ≡ true → ⊥
          other z v g i e (inl w) = let x : happened.Put q.provider.node v g i e ≡ happened.Told p r y = w in absurd (cc)
          other z v g i e (inr w) = z.unput v g i e w

      by : (a b c : Bool) → Has q (told_if s p r y a).sessions.requests → IsRefused (reverse (told_if s p r y a).records ++ records_of h) q.provider q.request
      by false b c i = k q i j
      by true b c i = later (k q (fewer i) j)
        where
          fewer : Has q (take_telling s.sessions p r y).requests → Has q s.sessions.requests
          fewer i = at (takes_telling s.sessions p r y) (is_join_request (outstanding s.sessions p) || is_dissolved y) i
            where
              at : (b c : Bool) → Has q (if b then (if c then without_providers s.sessions (p ∷ []) else record (s.sessions) { requests = filter (λ (q : Request). not (among (p ∷ []) q.provider)) s.sessions.requests }) else s.sessions).requests → Has q s.sessions.requests
              at false c i = i
              at true true i = (has_filter (λ (q : Request). not (among (p ∷ []) q.provider)) q s.sessions.requests i).0
              at true false i = (has_filter (λ (q : Request). not (among (p ∷ []) q.provider)) q s.sessions.requests i).0

  all_told : (qs : List Request) (s : Core) → Numbered s → Full s → Full (fold (λ t (q : Request). take_tell t q.provider q.request (GroupsFull 64)) s qs)
  all_told [] s k a = a
  all_told (q ∷ qs) s k a = all_told qs (take_tell s q.provider q.request (GroupsFull 64)) (told_numbered s q.provider q.request (GroupsFull 64) k) (at_tell s q.provider q.request (GroupsFull 64) refl k a)

  unled : (s : Core) (g : List ℕ) → is_none (leader_in s (found s g)) ≡ true → leads_row s (found s g) ≡ true → ⊥
  unfolding leader_in
  unled s g e q = by (leader_by s.config.mode s.views.view.coord (found s g).leader) e q
    where
      by : (o : Option ℕ) → is_none o ≡ true → is_this s.views.me o ≡ true → ⊥
      by None e q = absurd (cc)
      by (Some k) e q = absurd (cc)

  -- who does not lead has no tally, and nobody waits
  uncounted : (gone : ProviderId → Type 0) (led : Bool) (t : Option TallyView) (st : GroupState) → (led ≡ true → ⊥) → TallyIs gone led t st → t ≡ None
  uncounted gone led t st asks (inl z) = z
  uncounted gone led t st asks (inr k) = absurd (asks k.0)

  unqueued : (gone : ProviderId → Type 0) (led : Bool) (fs : List Failure) (st : GroupState) → (led ≡ true → ⊥) → QueueIs gone led fs st → fs ≡ []
  unqueued gone led fs st asks (inl z) = z
  unqueued gone led fs st asks (inr k) = absurd (asks k.0)

  pub at_name : (s : Core) (g : List ℕ) (n : ℕ) → Numbered s → Full s → Full (take_name s g n)
  unfolding take_name named is_name_used leader_of row_of
  at_name s g n numbered a = by (n == 0) (is_none (leader_in s (found s g))) (is_fixed s.config.mode) refl
    where
      by : (zero none fixed : Bool) → is_none (leader_in s (found s g)) ≡ none → Full (elim (none || (fixed && zero)) as (λ _. Core) [ true ↦ named s g n zero | false ↦ s ])
      by true true fixed e = all_told (requests_of s g) s numbered a
      by true false true e = all_told (requests_of s g) s numbered a
      by true false false e = a
      by false true fixed e =
          at_fold h said origin P L M Every NoGroup Every send_request (requests_of s g) (λ t q i k. at_request_sent h said origin P L M Every NoGroup Every t q k) (set_leader s g n) (at_led_by s g n (inl (uncounted (GoneCause h s.views.view g) (leads_row s (found s g)) (found s g).led.tally (state_in (found s g).list) (unled s g e) (a.tallies g tt))) (λ fit. inl (unqueued (GoneCause h s.views.view g) (leads_row s (found s g)) (waiting_of s g) (state_in (found s g).list) (unled s g e) (a.queues fit g tt))) a)
      by false false true e = a
      by false false false e = a

  -- ---- REQUEST

  at_told_again : (s : Core) (g : List ℕ) (p : ProviderId) (r : ℕ) (o : Option Why) → Fairly o → Full s → Full (tell_again s g p r o)
  unfolding tell_again
  at_told_again s g p r None fine a = a
  at_told_again s g p r (Some y) fine a = at_sent h said origin P L M Every NoGroup Every s p.node (body.Tell s.views.view g p r y) fine a

  -- noting itself as leader, the node leads
  module _ (f : Answering) (s : Core) (g : List ℕ) (leads_it : leads (set_leader s g s.views.me) g ≡ true) where
    at_noted : Full s → Full (set_leader s g s.views.me)
    unfolding set_leader with_row leads leads_in leader_in row_of
    at_noted a = at_led_by s g s.views.me (own (a.tallies g tt)) (λ fit. queue (a.queues fit g tt)) a
      where
        now : leads_row s (record (found s g) { leader = Some s.views.me }) ≡ true
        now = ap (leads_row s) (sym (row_here g (λ row. record row { leader = Some s.views.me }) (λ x. refl) s a.order)) ∙ leads_it

        own : TallyIs (GoneCause h s.views.view g) (leads_row s (found s g)) (found s g).led.tally (state_in (found s g).list) → TallyIs (GoneCause h s.views.view g) (leads_row s (record (found s g) { leader = Some s.views.me })) (found s g).led.tally (state_in (found s g).list)
        own (inl e) = inl e
        own (inr k) = inr (now, k.1)

        queue : QueueIs (GoneCause h s.views.view g) (leads_row s (found s g)) (waiting_of s g) (state_in (found s g).list) → QueueIs (GoneCause h s.views.view g) (leads_row s (record (found s g) { leader = Some s.views.me })) (waiting_of s g) (state_in (found s g).list)
        queue (inl e) = inl e
        queue (inr k) = inr (now, k.1)

    at_request_new : (p : ProviderId) (r : ℕ) (phases : Phases) (x : Proposal) → NoFailure x → Full s → Full (decide_new f s g p r phases x)
    unfolding decide_new
    at_request_new p r phases x asks a =
        let t : Core = set_leader s g s.views.me in
        all_again (decided f t g p r phases x) g (at_decided h said origin P L M live Every (Only g) Every f t g p r phases x asks tt refl (only_led t g leads_it (at_noted a)))

    at_request_after : (p : ProviderId) (r : ℕ) (phases : Phases) (x : Proposal) (d : Decision) (b c : Bool) → Fairly d.why → NoFailure x → Full s → Full (request_after f s g p r phases x d b c)
    unfolding request_after
    at_request_after p r phases x d true c fine asks a = a
    at_request_after p r phases x d false true fine asks a = at_told_again s g p r d.why fine a
    at_request_after p r phases x d false false fine asks a = at_request_new p r phases x asks a

    at_request_at : (p : ProviderId) (r : ℕ) (phases : Phases) (x : Proposal) (o : Option Decision) → ((d : Decision) → o ≡ Some d → Fairly d.why) → NoFailure x → Full s → Full (request_at f s g p r phases x o)
    unfolding request_at
    at_request_at p r phases x None fine asks a = at_request_new p r phases x asks a
    at_request_at p r phases x (Some d) fine asks a = at_request_after p r phases x d (nat_lt r d.request) (r == d.request) (fine d refl) asks a

    pub at_request : (from : ℕ) (p : ProviderId) (r : ℕ) (phases : Phases) (x : Proposal) → NoFailure x → Full s → Full (take_request f s from g p r phases x)
    unfolding take_request decision_of led_of row_of
    at_request from p r phases x asks a = by (is_group_refused s g)
      where
        by : (b : Bool) → Full (elim b as (λ _. Core) [ true ↦ sent s from (body.Name s.views.view g 0) | false ↦ request_at f s g p r phases x (decision_of (led_of s g) p) ])
        by true = at_sent h said origin P L M Every NoGroup Every s from (body.Name s.views.view g 0) tt a
        by false = at_request_at p r phases x (decision_of (led_of s g) p) (λ d e. a.whys g d (find_has (λ (y : Decision). same_provider y.provider p) (found s g).led.decided d e).0) asks a

  -- ---- ENTRY and ACK

  -- what is led stays where an entry is put
  led_after : (f : Answering) (s : Core) (from : ℕ) (g : List ℕ) (e : Entry) → InNameOrder s.groups → (found (put_and_hand f s (Some from) g e) g).led ≡ (found s g).led
  unfolding put_and_hand put recorded with_row row_of
  led_after f s from g e order =
      ap (λ rows. (row_found g (find (has_name g) rows)).led) (handed_rows f (put s g e) (Some from) g (len_of s g) (state_of s g) (state_of (put s g e) g) e).0 ∙ ap (λ (z : GroupRow). z.led) (row_here g (λ row. put_row s row e) (λ x. refl) s order)

  -- no record is lost
  put_longer : (f : Answering) (s : Core) (to : Option ℕ) (g : List ℕ) (e : Entry) (r : Happened) → Has r s.records → Has r (put_and_hand f s to g e).records
  unfolding put_and_hand put recorded with_row
  put_longer f s to g e r i = handed_longer f (put s g e) to g (len_of s g) (state_of s g) (state_of (put s g e) g) e r (append_has_left r s.records (happened.Put s.views.me s.views.view g (len_of s g) e ∷ []) i)

  -- what the node does not lead is not counted there; and its leader put the entry before
  module _ (f : Answering) (s : Core) (from : ℕ) (g : List ℕ) (stable : ℕ) (e : Entry) where
    abbrev PutBefore : Type 0
    PutBefore = (m : ℕ) × (d : Entry) × Has (happened.Put m s.views.view g (len_in (found s g).list) d) (reverse s.records ++ records_of h)

    at_next : PutBefore → (leads s g ≡ true → ⊥) → Full s → Full (entry_next f s from g stable e true)
    unfolding entry_next sent send_on
    at_next was follows a =
        let t : Core = put_and_hand f s (Some from) g e in
        let u : Core = sent t from (body.Ack t.views.view g (len_of t g)) in
        let b : Full t = at_put_and_handed_for h said origin P L M Every NoGroup Every Every Every f s (Some from) g e live (λ l fit first. absurd (first was.0 was.1 was.2)) (λ k u ne. u) (λ k u ne. u) (λ u. inl none) (λ fit u. inl (idle fit)) a in
        let c : Full u = at_sent h said origin P L M Every NoGroup Every t from (body.Ack t.views.view g (len_of t g)) tt b in
        at_forgets h said origin P L M Every NoGroup Every (set_leader u g from) g stable (at_led_by u g from (inl (ap (λ (l : Led). l.tally) (led_after f s from g e a.order) ∙ none)) (λ fit. inl (ap (λ (l : Led). l.waiting.failures) (led_after f s from g e a.order) ∙ idle_later b fit)) c)
      where
        asks : leads_row s (found s g) ≡ true → ⊥
        asks q = follows (sym (leads_is s g) ∙ q)

        none : (found s g).led.tally ≡ None
        none = uncounted (GoneCause h s.views.view g) (leads_row s (found s g)) (found s g).led.tally (state_in (found s g).list) asks (a.tallies g tt)

        idle : BasesFit s.records → waiting_of s g ≡ []
        idle fit = unqueued (GoneCause h s.views.view g) (leads_row s (found s g)) (waiting_of s g) (state_in (found s g).list) asks (a.queues fit g tt)

        idle_later : Full (put_and_hand f s (Some from) g e) → BasesFit (put_and_hand f s (Some from) g e).records → waiting_of s g ≡ []
        idle_later b fit = idle (λ r i. fit r (put_longer f s (Some from) g e r i))

    at_next_if : PutBefore → (leads s g ≡ true → ⊥) → (b : Bool) → Full s → Full (entry_next f s from g stable e b)
    unfolding entry_next
    at_next_if was follows false a = a
    at_next_if was follows true a = at_next was follows a

    at_elsewhere : (b : Bool) → Full s → Full (entry_elsewhere s from g stable b)
    unfolding entry_elsewhere
    at_elsewhere true a = at_forgets h said origin P L M Every NoGroup Every (sent s from (body.Ack s.views.view g (len_of s g))) g stable (at_sent h said origin P L M Every NoGroup Every s from (body.Ack s.views.view g (len_of s g)) tt a)
    at_elsewhere false a = by (holds s g)
      where
        by : (b : Bool) → Full (elim b as (λ _. Core) [ true ↦ forget_below s g stable | false ↦ s ])
        by true = at_forgets h said origin P L M Every NoGroup Every s g stable a
        by false = a

    pub at_entry : (place : ℕ) → ((place == len_of s g) ≡ true → PutBefore) → ((place == len_of s g) ≡ true → leads s g ≡ true → ⊥) → Full s → Full (take_entry f s from g place stable e)
    unfolding take_entry
    at_entry place was follows a = by (place == len_of s g) refl
      where
        by : (b : Bool) → (place == len_of s g) ≡ b → Full (elim b as (λ _. Core) [ true ↦ entry_next f s from g stable e (fits_at_end s g e) | false ↦ entry_elsewhere s from g stable (nat_lt place (len_of s g)) ])
        by true q = at_next_if (was q) (follows q) (fits_at_end s g e) a
        by false q = at_elsewhere (nat_lt place (len_of s g)) a

  at_acked : (s : Core) (from : ℕ) (g : List ℕ) (n : ℕ) → Full s → Full (acked s from g n)
  unfolding acked
  at_acked s from g n a =
      let t : Core = with_led s g (λ l. record l { acked = acked_raised from n l.acked }) in
      at_forgets_least h said origin P L M Every NoGroup Every t g (at_led h said origin P L M Every NoGroup Every s g (λ l. record l { acked = acked_raised from n l.acked }) (λ l. refl) (λ l. refl) (λ l. refl) (λ l z. z) a)

  pub at_ack : (s : Core) (from : ℕ) (g : List ℕ) (n : ℕ) → Full s → Full (take_ack s from g n)
  unfolding take_ack
  at_ack s from g n a = by (leads s g && nat_le n (len_of s g))
    where
      by : (b : Bool) → Full (elim b as (λ _. Core) [ true ↦ acked s from g n | false ↦ s ])
      by true = at_acked s from g n a
      by false = a

  -- ---- VOTE

  pub at_vote : (f : Answering) (s : Core) (g : List ℕ) (proto : ProtoId) (phase : ℕ) (p : ProviderId) (v : Vote) (value message : Option (List ℕ)) → Full s → Full (take_vote f s g proto phase p v value message)
  unfolding take_vote with_led
  at_vote f s g proto phase p v value message a = by (leads s g) (runs proto phase (state_of s g).running) refl
    where
      counted : leads s g ≡ true → At h said origin P L M Every (Only g) Every (with_led s g (λ l. vote_cast l p v value message l.tally))
      counted led =
          let b : At h said origin P L M Every (Only g) Every s = only_led s g led a in
          let l : Led = (found s g).led in
          let same = voted_gone l p v value message l.tally in
          at_row_for h said origin P L M Every (Only g) Every Every Every s g (λ row. record row { led = vote_cast row.led p v value message row.led.tally }) (λ x. refl) (λ x. refl) (λ x. refl) (λ x. refl) (λ x z. voted_whys x.led p v value message x.led.tally z) (λ y q i. b.marks y g q (subst (λ z. among z q ≡ true) same.0 i)) (λ k t ne. t) (λ k t ne. t) (λ t. voted (GoneCause h s.views.view g) (leads_row s (found s g)) l (state_in (found s g).list) p v value message (b.tallies g t)) (λ fit q. subst (λ (z : WaitingView). QueueIs (GoneCause h s.views.view g) (leads_row s (found s g)) z.failures (state_in (found s g).list)) (sym same.1) (b.queues fit g q)) b

      by : (b c : Bool) → leads s g ≡ b → Full (elim (b && c) as (λ _. Core) [ true ↦ closes f (with_led s g (λ l. vote_cast l p v value message l.tally)) g | false ↦ s ])
      by true true q = all_again (closes f (with_led s g (λ l. vote_cast l p v value message l.tally)) g) g (at_closes h said origin P L M Every (Only g) Every f (with_led s g (λ l. vote_cast l p v value message l.tally)) g live tt refl (counted q))
      by true false q = a
      by false c q = a

  -- ---- GONE

  module _ (f : Answering) (s : Core) (g : List ℕ) (p : ProviderId) (cause : GoneCause h s.views.view g p) where
    abbrev Mine : Core → Type 0
    Mine c = At h said origin P L M Every (Only g) Every c

    -- one who is gone has the default vote
    at_failed : (t : Core) (o : Option TallyView) → t.views.view ≡ s.views.view → (found t g).led.tally ≡ o → Mine t → Mine (tally_failed f t g p o)
    unfolding tally_failed with_tally with_led
    at_failed t None view e a = a
    at_failed t (Some y) view e a =
        at_closes h said origin P L M Every (Only g) Every f (with_tally t g (Some (tally_fail p y))) g live tt refl (at_row_for h said origin P L M Every (Only g) Every Every Every t g (λ row. record row { led = record (row.led) { tally = Some (tally_fail p y) } }) (λ x. refl) (λ x. refl) (λ x. refl) (λ x. refl) (λ x z. z) (λ l q i. a.marks l g q i) (λ k t ne. t) (λ k t ne. t) (λ u. own (a.tallies g u)) (λ fit q. a.queues fit g q) a)
      where
        own : TallyIs (GoneCause h t.views.view g) (leads_row t (found t g)) (found t g).led.tally (state_in (found t g).list) → TallyIs (GoneCause h t.views.view g) (leads_row t (found t g)) (Some (tally_fail p y)) (state_in (found t g).list)
        own (inl none) = let z : Some y ≡ None = sym e ∙ none in absurd (cc)
        own (inr k) = inr (k.0, failed_fails (GoneCause h t.views.view g) (state_in (found t g).list) p y (inr (subst (λ z. GoneCause h z g p) (sym view) cause)) (subst (TallyFails (GoneCause h t.views.view g) (state_in (found t g).list)) e k.1))

    failed_view : (t : Core) (o : Option TallyView) → InNameOrder t.groups → (tally_failed f t g p o).views ≡ t.views
    unfolding tally_failed with_tally with_led with_row
    failed_view t None order = refl
    failed_view t (Some y) order = (closes_on f (with_tally t g (Some (tally_fail p y))) g (rows_ordered g (λ row. record row { led = record (row.led) { tally = Some (tally_fail p y) } }) (λ x. refl) t order)).views

    at_gone_waits : (t : Core) → t.views.view ≡ s.views.view → Mine t → Mine (wait_gone t g p)
    unfolding wait_gone
    at_gone_waits t view a = by (among (state_of t g).members p)
      where
        by : (b : Bool) → Mine (elim b as (λ _. Core) [ true ↦ with_waiting t g (add_failure p Gone) | false ↦ t ])
        by true = at_waits h said origin P L M Every (Only g) Every t g p Gone refl (λ fit q. subst (λ z. GoneCause h z g p) (sym view) cause) a
        by false = a

    at_gone_present : leads s g ≡ true → Full s → Full (gone_present f s g p)
    unfolding gone_present led_of row_of with_led with_row
    at_gone_present led a =
        let t : Core = with_led s g (λ l. record l { gone = marked l.gone p }) in
        let u : Core = tally_failed f t g p (found t g).led.tally in
        all_again (wait_gone u g p) g (at_gone_waits u (ap (λ (z : Views). z.view) (failed_view t (found t g).led.tally marks.order)) (at_failed t (found t g).led.tally refl refl marks))
      where
        b : Mine s
        b = only_led s g led a

        marks : Mine (with_led s g (λ l. record l { gone = marked l.gone p }))
        marks =
            at_row_for h said origin P L M Every (Only g) Every Every Every s g (λ row. record row { led = record (row.led) { gone = marked row.led.gone p } }) (λ x. refl) (λ x. refl) (λ x. refl) (λ x. refl) (λ x z. z) (λ l q i. mark l q (marked_is (found s g).led.gone p q i)) (λ k t ne. t) (λ k t ne. t) (λ t. b.tallies g t) (λ fit q. b.queues fit g q) b
          where
            mark : L → (q : ProviderId) → (among (found s g).led.gone q ≡ true) ⊎ (q ≡ p) → GoneCause h s.views.view g q
            mark l q (inl i) = b.marks l g q i
            mark l q (inr e) = subst (GoneCause h s.views.view g) (sym e) cause

    at_gone_of : (b c : Bool) → leads s g ≡ true → Full s → Full (gone_of f s g p b c)
    unfolding gone_of
    at_gone_of true c led a = at_gone_present led a
    at_gone_of false true led a = at_waiting h said origin P L M Every NoGroup Every s g (drop_join p) (λ fit q. a.queues fit g q) a
    at_gone_of false false led a = a

    pub at_gone : Full s → Full (take_gone f s g p)
    unfolding take_gone
    at_gone a = by (leads s g) refl
      where
        by : (b : Bool) → leads s g ≡ b → Full (elim b as (λ _. Core) [ true ↦ gone_of f s g p (among (present (state_of s g)) p) (among (led_of s g).waiting.joins p) | false ↦ s ])
        by true q = at_gone_of (among (present (state_of s g)) p) (among (led_of s g).waiting.joins p) q a
        by false q = a
