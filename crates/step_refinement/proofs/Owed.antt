-- What is owed is sent: outstanding requests, GONE, and votes.
use Rattle.std.proofs.Common.{◌≡◌, ◌<◌, ℕ, List, [], ◌∷◌, ◌++◌, Option, Some, None, Bool, true, false, refl, sym, ap, ◌∙◌, subst, inl, inr, ⊎_elim, arith, ◌⊎◌}
use Rattle.std.specs.Prelude.{filter, fold}
use Rattle.rsct_packet.specs.declared.ids.ViewId.{ViewId}
use Rattle.rsct_packet.specs.declared.ids.ProviderId.{ProviderId}
use Rattle.rsct_packet.specs.Search.{Has}
use Rattle.proposal_core.specs.declared.entry.Entry.{Entry}
use Rattle.proposal_core.specs.declared.proposal.Proposal.{Proposal}
use Rattle.proposal_core.specs.Fold.{runs, present}
use Rattle.proposal_core.specs.Lists.{state_in}
use Rattle.client_callbacks.specs.declared.ballot.Filled.{Filled}
use Rattle.session_state.specs.declared.state.KeptBallot.{KeptBallot}
use Rattle.session_state.specs.declared.state.Request.{Request}
use Rattle.session_state.specs.declared.state.SessionState.{SessionState}
use Rattle.session_state.specs.declared.state.Provider.{Provider}
use Rattle.session_state.specs.HandOn.{is_join}
use Rattle.node_state.specs.declared.group.GroupRow.{GroupRow}
use Rattle.node_state.specs.declared.packet.Body.{Body}
use Rattle.node_state.specs.declared.packet.Body.TheVariants as body
use Rattle.node_state.specs.declared.packet.Packet.{Packet}
use Rattle.node_state.specs.declared.state.Core.{Core}
use Rattle.node_state.specs.Settings.{is_fixed}
use Rattle.node_state.specs.State.{row_of, state_of, frozen, leader_of, held_rows}
use Rattle.node_state.specs.Sending.{sent, send_on, packet_on, network_to, send_if_known, send_request_to, send_request, send_requests, vote_of, send_kept_to, send_kept, kept_sent_if, kept_sent_again, send_votes_again}
use Rattle.node_state.specs.Ticks.{is_lost, lost_told, tick_owed}
use Rattle.run_safety.specs.Group.{Put, kept}
use Rattle.run_safety.specs.Group as group
use Rattle.run_safety.specs.Requests.{requests_of, carried}
use Rattle.run_safety.specs.Moves.{Requests}
use Rattle.run_safety.specs.Past.{records_of}
use Rattle.step_refinement.specs.Ghost.{asking, Ghost, Goes}
use Rattle.step_refinement.specs.Tied.{Shows, ShowsBody, ShowsLeader, Owed, Scene, Tied, JoinPut}
use Rattle.step_refinement.proofs.Goes.{Spares, sound_on, shows_on, node_on}
use Rattle.step_refinement.proofs.Changed.{has_pushed}
use Rattle.step_refinement.proofs.Works.{tied_on, tied_sent}
use Rattle.step_refinement.proofs.Gone.{with_packet, packet_goes, packet_still, packet_spares}
use Rattle.node_state.proofs.NameOrder.{cases_text}
use Rattle.step_refinement.proofs.Leads.{known_leads, unknown_asks}

module _ (g : List ℕ) (w : Scene) (n : ℕ) where
  -- a request of the group, to its leader
  -- it is a join, or its provider's join was put
  in_turn : (s : Core) (q : Request) (t : Tied g w n s) → Has q s.sessions.requests → (q.request ≡ q.provider.join) ⊎ JoinPut (s.records ++ records_of w.before) q.provider s.views.view
  in_turn s q t h = by (t.turns.own.joined y.0 y.1)
    where
      y : (y : Provider) × Has y s.sessions.providers × (y.provider ≡ q.provider)
      y = t.own.0.owes.attended q h

      by : ((a : Request) × Has a s.sessions.requests × (a.provider ≡ y.0.provider) × (a.request ≡ y.0.provider.join) × (is_join a.proposal ≡ true)) ⊎ JoinPut (s.records ++ records_of w.before) y.0.provider s.views.view → (q.request ≡ q.provider.join) ⊎ JoinPut (s.records ++ records_of w.before) q.provider s.views.view
      by (inr a) = inr (subst (λ p. JoinPut (s.records ++ records_of w.before) p s.views.view) y.2 a)
      by (inl a) =
          let same : a.0 ≡ q = t.turns.own.single a.0 q a.1 h (a.2 ∙ y.2) in
          inl (ap (λ (z : Request). z.request) (sym same) ∙ a.3 ∙ ap (λ (p : ProviderId). p.join) y.2)

  request_own : (s : Core) (q : Request) (to : ℕ) (t : Tied g w n s) → Has q s.sessions.requests → ShowsLeader t.ghost s.views.view to → Has (asking q.provider q.request q.group) t.ghost.asked × Has (q.provider, q.request) (requests_of q.proposal) → Owed t.ghost n s.views.inc q → Tied g w n (sent s to (body.Request s.views.view q.group q.provider q.request q.phases q.proposal))
  unfolding row_of sent send_on packet_on
  request_own s q to t there leader asked owed =
      let x : Ghost = t.ghost in
      let h = t.own.0 in
      let r : group.Packet = group.Request (x.nodes n).view q.provider q.request q.proposal in
      let y : Ghost = with_packet x r in
      let p : Packet = packet_on s (network_to s to) to (body.Request s.views.view q.group q.provider q.request q.phases q.proposal) in
      let up : 0 < (x.nodes n).inc = subst (λ k. 0 < k) (sym h.stands.inc) h.stands.up in
      let o : Goes x y = packet_goes x r in
      let spares : (m : ℕ) → Spares x y m = λ m. packet_spares x r m (λ e. absurd (omega arith)) (λ e. absurd (omega arith)) in
      let new : Shows y g p = (asked.0, asked.1, λ e. record { sent = inl (ap (λ v. group.Request v q.provider q.request q.proposal) (sym h.stands.view)); leader = record { inc = leader.inc; leads = leader.leads } }) in
      let unput : (u : ViewId) (k : ℕ) (e : Entry) → Has (Put q.provider.node u k e) (kept x.all) → Has (q.provider, q.request) (carried e) → ⊥ = λ u k e i c. owed.unput u k e (subst (λ m. Has (Put m u k e) (kept x.all)) owed.node i) c in
      tied_on g w n s t (sent s to (body.Request s.views.view q.group q.provider q.request q.phases q.proposal)) y (Requests x.nodes x.ps x.all x.leads x.bases q.provider q.request q.proposal (x.nodes n) t.life (ap x.nodes owed.node) up (h.stands.inc ∙ sym owed.inc_of) owed.asked unput owed.untold) t.lines t.placed (record { own = t.turns.own; others = t.turns.others; sent = λ v p k a i. sent_too v p k a i }) (node_on x y n (spares n) refl g (is_fixed s.config.mode) s.views (row_of s g) s.groups s.sessions s.names h, t.own.1, t.own.2) (λ m ne. spares m) (λ m ne. refl) (λ q i. ⊎_elim (λ (e : q ≡ p). subst (Shows y g) (sym e) new) (λ (k : Has q (s.sends ++ w.sent)). shows_on x y o g q (t.packets q k)) (has_pushed q p s.sends w.sent i)) (sound_on x y (packet_still x r (λ e. absurd (omega arith)) (λ e. absurd (omega arith))) g t.sound)
    where
      sent_too : (v : ViewId) (p : ProviderId) (k : ℕ) (a : Proposal) → Has (group.Request v p k a) (group.Request (t.ghost.nodes n).view q.provider q.request q.proposal ∷ t.ghost.ps) → (k ≡ p.join) ⊎ JoinPut (s.records ++ records_of w.before) p v
      sent_too v p k a (inr i) = t.turns.sent v p k a i
      sent_too v p k a (inl e) =
          let b : p ≡ q.provider = cc in
          let c : k ≡ q.request = cc in
          let d : v ≡ (t.ghost.nodes n).view = cc in
          subst (λ (z : ViewId × ProviderId × ℕ). (z.2 ≡ z.1.join) ⊎ JoinPut (s.records ++ records_of w.before) z.1 z.0) (λ j. (sym (d ∙ t.own.0.stands.view) j, sym b j, sym c j)) (in_turn s q t there)

  pub request_tied : (s : Core) (q : Request) → Has q s.sessions.requests → Tied g w n s → Tied g w n (send_request s q)
  unfolding send_request send_request_to
  request_tied s q h t = by (frozen s)
    where
      at : (o : Option ℕ) → leader_of s q.group ≡ o → Tied g w n (send_request_to s q o)
      at None k = tied_sent g w n s t s.views.view.coord (body.Lookup s.views.view q.group) (unknown_asks g w n s t q.group k)
      at (Some m) k =
          ⊎_elim (λ (e : q.group ≡ g). request_own s q m t h (known_leads g w n s t m (ap (leader_of s) (sym e) ∙ k)) ((t.own.0.owes.own q h).2, (t.own.0.owes.own q h).3) (t.own.0.owes.requests q h e)) (λ (ne : q.group ≡ g → ⊥). tied_sent g w n s t m (body.Request s.views.view q.group q.provider q.request q.phases q.proposal) ((t.own.0.owes.own q h).2, (t.own.0.owes.own q h).3, λ e. absurd (ne e))) (cases_text q.group g)

      by : (b : Bool) → Tied g w n (elim b as (λ _. Core) [ true ↦ s | false ↦ send_request_to s q (leader_of s q.group) ])
      by true = t
      by false = at (leader_of s q.group) refl

  request_stays : (s : Core) (q : Request) → ((send_request s q).sessions ≡ s.sessions) × ((send_request s q).views ≡ s.views)
  unfolding send_request send_request_to sent send_on
  request_stays s q = by (frozen s)
    where
      at : (o : Option ℕ) → ((send_request_to s q o).sessions ≡ s.sessions) × ((send_request_to s q o).views ≡ s.views)
      at None = (refl, refl)
      at (Some m) = (refl, refl)

      by : (b : Bool) → ((elim b as (λ _. Core) [ true ↦ s | false ↦ send_request_to s q (leader_of s q.group) ]).sessions ≡ s.sessions) × ((elim b as (λ _. Core) [ true ↦ s | false ↦ send_request_to s q (leader_of s q.group) ]).views ≡ s.views)
      by true = (refl, refl)
      by false = at (leader_of s q.group)

  requests_views : (qs : List Request) (s : Core) → (fold send_request s qs).views ≡ s.views
  requests_views [] s = refl
  requests_views (q ∷ qs) s = requests_views qs (send_request s q) ∙ (request_stays s q).1

  pub requests_fold : (qs : List Request) (s : Core) → ((q : Request) → Has q qs → Has q s.sessions.requests) → Tied g w n s → Tied g w n (fold send_request s qs)
  requests_fold [] s all t = t
  requests_fold (q ∷ qs) s all t =
      requests_fold qs (send_request s q) (λ r h. subst (λ (z : SessionState). Has r z.requests) (sym (request_stays s q).0) (all r (inr h))) (request_tied s q (all q (inl refl)) t)

  pub requests_tied : (s : Core) → Tied g w n s → Tied g w n (send_requests s)
  unfolding send_requests
  requests_tied s t = requests_fold s.sessions.requests s (λ q h. h) t

  -- what no group sees goes to a node, if it is known
  pub known_tied : (s : Core) (o : Option ℕ) (b : Body) → ((x : Ghost) (to : ℕ) → ShowsBody x g s.views.me s.views.inc to b) → Tied g w n s → Tied g w n (send_if_known s o b)
  unfolding send_if_known
  known_tied s None b ok t = t
  known_tied s (Some m) b ok t = tied_sent g w n s t m b (ok t.ghost m)

  pub kept_sent_tied : (s : Core) (k : KeptBallot) → Tied g w n s → Tied g w n (send_kept s k)
  unfolding send_kept send_kept_to vote_of
  kept_sent_tied s k t = by k.ballot.filled
    where
      by : (b : Option Filled) → Tied g w n (send_kept_to s k (leader_of s k.group) b)
      by None = t
      by (Some b) = known_tied s (leader_of s k.group) (vote_of s k.group k.proto k.phase k.provider b) (λ x to. tt) t

  kept_tied : (s : Core) (k : KeptBallot) → Tied g w n s → Tied g w n (kept_sent_again s k)
  unfolding kept_sent_again kept_sent_if
  kept_tied s k t = by (runs k.proto k.phase (state_of s k.group).running)
    where
      by : (c : Bool) → Tied g w n (kept_sent_if s k c)
      by false = t
      by true = kept_sent_tied s k t

  kept_fold : (ks : List KeptBallot) (s : Core) → Tied g w n s → Tied g w n (fold kept_sent_again s ks)
  kept_fold [] s t = t
  kept_fold (k ∷ ks) s t = kept_fold ks (kept_sent_again s k) (kept_tied s k t)

  kept_views : (s : Core) (k : KeptBallot) → (kept_sent_again s k).views ≡ s.views
  unfolding kept_sent_again kept_sent_if send_kept send_kept_to vote_of send_if_known sent send_on
  kept_views s k = by (runs k.proto k.phase (state_of s k.group).running)
    where
      known : (o : Option ℕ) (b : Filled) → (send_kept_to s k o (Some b)).views ≡ s.views
      known None b = refl
      known (Some m) b = refl

      filled : (b : Option Filled) → (send_kept_to s k (leader_of s k.group) b).views ≡ s.views
      filled None = refl
      filled (Some b) = known (leader_of s k.group) b

      by : (c : Bool) → (kept_sent_if s k c).views ≡ s.views
      by false = refl
      by true = filled k.ballot.filled

  kept_views_all : (ks : List KeptBallot) (s : Core) → (fold kept_sent_again s ks).views ≡ s.views
  kept_views_all [] s = refl
  kept_views_all (k ∷ ks) s = kept_views_all ks (kept_sent_again s k) ∙ kept_views s k

  -- the view stays
  pub owed_views : (s : Core) → (send_votes_again (send_requests s)).views ≡ s.views
  unfolding send_votes_again send_requests
  owed_views s =
      kept_views_all (fold send_request s s.sessions.requests).sessions.kept (fold send_request s s.sessions.requests) ∙ requests_views s.sessions.requests s

  pub votes_tied : (s : Core) → Tied g w n s → Tied g w n (send_votes_again s)
  unfolding send_votes_again
  votes_tied s t = kept_fold s.sessions.kept s t

  lost_fold : (h : List ℕ) (ps : List ProviderId) (s : Core) → Tied g w n s → Tied g w n (fold (λ (t : Core) p. send_if_known t (leader_of t h) (body.Gone t.views.view h p)) s ps)
  lost_fold h [] s t = t
  lost_fold h (p ∷ ps) s t =
      lost_fold h ps (send_if_known s (leader_of s h) (body.Gone s.views.view h p)) (known_tied s (leader_of s h) (body.Gone s.views.view h p) (λ x to. tt) t)

  rows_fold : (rows : List GroupRow) (s : Core) → Tied g w n s → Tied g w n (fold lost_told s rows)
  unfolding lost_told
  rows_fold [] s t = t
  rows_fold (row ∷ rows) s t =
      rows_fold rows (lost_told s row) (lost_fold row.name (filter (is_lost s) (present (state_in row.list))) s t)

-- the tick, part (4)
pub owed_part_tied : (g : List ℕ) (w : Scene) (n : ℕ) (s : Core) → Tied g w n s → Tied g w n (tick_owed s)
unfolding tick_owed
owed_part_tied g w n s t = by (frozen s)
  where
    by : (b : Bool) → Tied g w n (elim b as (λ _. Core) [ true ↦ s | false ↦ send_votes_again (fold lost_told (send_requests s) (held_rows (send_requests s))) ])
    by true = t
    by false =
        votes_tied g w n (fold lost_told (send_requests s) (held_rows (send_requests s))) (rows_fold g w n (held_rows (send_requests s)) (send_requests s) (requests_tied g w n s t))
