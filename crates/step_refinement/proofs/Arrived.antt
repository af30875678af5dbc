-- A node that has just entered a view: who took part and does not live in the base is told so, subscriptions are noted,
-- the install is taken, and what is outstanding is sent.
use Rattle.std.proofs.Common.{◌≡◌, ℕ, List, [], ◌∷◌, ◌++◌, Option, Some, None, Bool, true, false, refl, sym, ap, ◌∙◌, subst, inl, inr, ⊎_elim, append_assoc}
use Rattle.std.specs.Prelude.{◌==◌, ◌&&◌, ◌||◌, not, reverse, map, fold, find, flat_map, is_some}
use Rattle.std.specs.Str.{bytes_eq}
use Rattle.std.proofs.lemmas.List.{append-nil}
use Rattle.rsct_packet.specs.declared.ids.ViewId.{ViewId}
use Rattle.rsct_packet.specs.declared.ids.ProviderId.{ProviderId}
use Rattle.rsct_packet.specs.Search.{Has}
use Rattle.rsct_packet.proofs.HasLaws.{has_append, find_has}
use Rattle.group_attr.specs.Attrs.{host_membership}
use Rattle.proposal_core.specs.declared.proposal.Proposal.{Proposal}
use Rattle.proposal_core.specs.Fold.{present}
use Rattle.proposal_core.specs.Lists.{state_in}
use Rattle.subscribe_core.specs.declared.subs.Subscription.{Subscription}
use Rattle.client_callbacks.specs.declared.told.Told.TheVariants as told
use Rattle.client_callbacks.specs.declared.told.Why.TheVariants.{Dissolved}
use Rattle.session_state.specs.declared.state.Provider.{Provider}
use Rattle.session_state.specs.declared.state.Request.{Request}
use Rattle.session_state.specs.State.{is_provider, is_asked_by, provider_of, outstanding}
use Rattle.session_state.specs.HandOn.{is_numbered, take_telling}
use Rattle.view_state.specs.declared.install.Base.{Base}
use Rattle.view_state.specs.Bases.{base_named}
use Rattle.view_state.specs.declared.views.Views.{Views}
use Rattle.view_state.specs.declared.packet.ViewPacket.TheVariants as view
use Rattle.node_state.specs.declared.group.GroupRow.{GroupRow}
use Rattle.node_state.specs.declared.happened.Happened.{Happened}
use Rattle.node_state.specs.declared.happened.Happened.TheVariants as happened
use Rattle.node_state.specs.declared.packet.Body.TheVariants as body
use Rattle.node_state.specs.declared.state.Core.{Core}
use Rattle.node_state.specs.State.{row_of, recorded, recorded_all, with_sessions}
use Rattle.node_state.specs.Sending.{sent, send_on, send_requests}
use Rattle.node_state.specs.HandOn.{subscriber_name, note_of}
use Rattle.node_state.specs.Applying.{is_in_base, number_of, dissolved, dissolved_if, group_dissolved, sides_dissolved, base_note, entering_note, entering_noted, taken_sent, owed_sent}
use Rattle.run_safety.specs.Past.{History, earlier, view_now, records_of}
use Rattle.run_safety.specs.Sight.{lines_of}
use Rattle.run_safety.specs.Group.{Noted}
use Rattle.run_safety.specs.Group as group
use Rattle.step_refinement.specs.Ghost.{asking}
use Rattle.step_refinement.specs.Tied.{Numbered, Scene, lines_now, Tied}
use Rattle.step_refinement.proofs.Works.{Passes, lines_pushed, now_pushed, placed_pushed, tied_sent}
use Rattle.step_refinement.proofs.Tellings.{provider_found, later_telling, told_tied}
use Rattle.step_refinement.proofs.BaseOrder.{base_noted}
use Rattle.step_refinement.proofs.Owed.{requests_tied, votes_tied, owed_views}
use Rattle.step_refinement.proofs.SessionLaws.{provider_same}
use Rattle.step_refinement.proofs.Turns.{turns_pushed, told_turn}

-- bases are no places
pub now_bases : (n m : ℕ) (v : ViewId) (bs : List Base) (rs : List Happened) (before : History) → view_now n (earlier (reverse (rs ++ map (base_noted m v) bs)) before) ≡ view_now n (earlier (reverse rs) before)
now_bases n m v [] rs before = ap (λ z. view_now n (earlier (reverse z) before)) (append-nil rs)
now_bases n m v (b ∷ bs) rs before =
    ap (λ z. view_now n (earlier (reverse z) before)) (sym (append_assoc rs (base_noted m v b ∷ []) (map (base_noted m v) bs))) ∙ now_bases n m v bs (rs ++ base_noted m v b ∷ []) before ∙ now_pushed n rs (base_noted m v b) before

module _ (g : List ℕ) (w : Scene) (n : ℕ) where
  -- a node that is where its records say, and has sent no request of its view yet
  pub record Arrived (c : Core) : Type 0 where
    pub tied : Tied g w n c
    pub unasked : (p : ProviderId) (r : ℕ) (a : Proposal) → p.node ≡ n → p.inc ≡ c.views.inc → Has (group.Request c.views.view p r a) tied.ghost.ps → ⊥
    pub thawed : c.views.promise ≡ c.views.view

  unseen_arrives : (c : Core) (r : Happened) → Passes g r → Arrived c → Arrived (recorded c r)
  unfolding recorded row_of
  unseen_arrives c r passes t =
      record {
        tied = record {
          ghost = t.tied.ghost;
          life = t.tied.life;
          lines = t.tied.lines ∙ sym (lines_pushed g c.records r w.before (lines_of g w.before) ∙ ap (λ z. z ++ lines_now g w c) (passes.0 (earlier (reverse c.records) w.before)));
          own = t.tied.own;
          others = t.tied.others;
          packets = t.tied.packets;
          sound = t.tied.sound;
          placed = placed_pushed w n c r passes.1 t.tied.placed;
          nobody = t.tied.nobody;
          turns = turns_pushed w n c.views.view c.records c.sessions t.tied.ghost.ps t.tied.turns r;
        };
        unasked = t.unasked;
        thawed = t.thawed;
      }

  all_arrive : (rs : List Happened) (c : Core) → ((r : Happened) → Has r rs → Passes g r) → Arrived c → Arrived (recorded_all c rs)
  unfolding recorded recorded_all
  all_arrive [] c fine t = subst (λ z. Arrived (record c { records = z })) (sym (append-nil c.records)) t
  all_arrive (r ∷ rs) c fine t =
      subst (λ z. Arrived (record c { records = z })) (append_assoc c.records (r ∷ []) rs) (all_arrive rs (recorded c r) (λ q k. fine q (inr k)) (unseen_arrives c r (fine r (inl refl)) t))

  -- ---- who does not live in the base is told so

  told_arrives : (c : Core) (p : ProviderId) (r : ℕ) → Arrived c → p.node ≡ n → p.inc ≡ c.views.inc → is_some (provider_of c.sessions p) ≡ true → ((t : Tied g w n c) → Numbered t.ghost p r) → Arrived (dissolved c p r)
  unfolding dissolved recorded with_sessions
  told_arrives c p r t mine own_inc there numbered =
      let l = later_telling c.sessions p r Dissolved there (either (is_numbered r (outstanding c.sessions p))) in
      let u = told_tied g w n c t.tied p r Dissolved (take_telling c.sessions p r Dissolved) l.0 l.1 (told_turn c.views.view (c.records ++ records_of w.before) c.sessions p r Dissolved t.tied.turns.own) mine own_inc (numbered t.tied) (inr (λ a i. t.unasked p r a mine own_inc i)) in
      record { tied = u.0; unasked = λ q k a m e i. t.unasked q k a m e (subst (Has (group.Request c.views.view q k a)) u.1 i); thawed = t.thawed }
    where
      either : (b : Bool) → (b || true) ≡ true
      either true = refl
      either false = refl

  dissolved_arrives : (c : Core) (h : List ℕ) (old : ViewId) (b : Option Base) (p : ProviderId) → Arrived c → Arrived (dissolved_if c h old b (provider_of c.sessions p))
  unfolding dissolved_if provider_of outstanding
  dissolved_arrives c h old b p t = at (find (is_provider p) c.sessions.providers) refl
    where
      one : (y : Provider) → Has y c.sessions.providers → Arrived (dissolved c y.provider (number_of (outstanding c.sessions y.provider)))
      one y i =
          let k = t.tied.own.0.owes.providers y i in
          told_arrives c y.provider (number_of (outstanding c.sessions y.provider)) t k.0 k.1 (provider_found c.sessions y i) (λ u. numbered u (find (is_asked_by y.provider) c.sessions.requests) refl)
        where
          numbered : (u : Tied g w n c) (o : Option Request) → find (is_asked_by y.provider) c.sessions.requests ≡ o → Numbered u.ghost y.provider (number_of o)
          numbered u None e = inl refl
          numbered u (Some q) e =
              let j = find_has (is_asked_by y.provider) c.sessions.requests q e in
              inr (q.group, subst (λ z. Has (asking z q.request q.group) u.ghost.asked) (provider_same q.provider y.provider j.1) (u.own.0.owes.own q j.0).2)

      by : (y : Provider) → Has y c.sessions.providers → (d : Bool) → Arrived (elim d as (λ _. Core) [ true ↦ dissolved c y.provider (number_of (outstanding c.sessions y.provider)) | false ↦ c ])
      by y i true = one y i
      by y i false = t

      at : (o : Option Provider) → find (is_provider p) c.sessions.providers ≡ o → Arrived (dissolved_if c h old b o)
      at None e = t
      at (Some y) e =
          by y (find_has (is_provider p) c.sessions.providers y e).0 (y.takes_part && bytes_eq y.group h && not (is_in_base old y.provider b))

  group_arrives : (ps : List ProviderId) (c : Core) (h : List ℕ) (old : ViewId) (b : Option Base) → Arrived c → Arrived (fold (λ (d : Core) p. dissolved_if d h old b (provider_of d.sessions p)) c ps)
  group_arrives [] c h old b t = t
  group_arrives (p ∷ ps) c h old b t =
      group_arrives ps (dissolved_if c h old b (provider_of c.sessions p)) h old b (dissolved_arrives c h old b p t)

  sides_arrive : (rows : List GroupRow) (c : Core) (old : ViewId) (bs : List Base) → Arrived c → Arrived (fold (group_dissolved old bs) c rows)
  unfolding group_dissolved
  sides_arrive [] c old bs t = t
  sides_arrive (row ∷ rows) c old bs t =
      sides_arrive rows (group_dissolved old bs c row) old bs (group_arrives (present (state_in row.list)) c row.name old (base_named bs row.name) t)

  -- ---- notes

  note_fine : (c : Core) (bs : List Base) (u : Subscription) (r : Happened) → Has r (entering_note c bs u) → Passes g r
  unfolding entering_note base_note note_of
  note_fine c bs u r h = by (bytes_eq u.group host_membership) h
    where
      base : (o : Option Base) → Has r (base_note c u o) → Passes g r
      base None h = absurd h
      base (Some b) (inl e) = subst (Passes g) (sym e) ((λ rs. refl), λ m o. refl)
      base (Some b) (inr z) = absurd z

      by : (b : Bool) → Has r (elim b as (λ _. List Happened) [ true ↦ happened.Noted c.views.me (subscriber_name c.sessions u) c.views.view None (told.Hosts c.views.view c.views.members) ∷ [] | false ↦ base_note c u (base_named bs u.group) ]) → Passes g r
      by true (inl e) = subst (Passes g) (sym e) ((λ rs. refl), λ m o. refl)
      by true (inr z) = absurd z
      by false h = base (base_named bs u.group) h

  notes_fine : (c : Core) (bs : List Base) (us : List Subscription) (r : Happened) → Has r (flat_map (entering_note c bs) us) → Passes g r
  notes_fine c bs [] r h = absurd h
  notes_fine c bs (u ∷ us) r h =
      ⊎_elim (λ (a : Has r (entering_note c bs u)). note_fine c bs u r a) (λ (b : Has r (flat_map (entering_note c bs) us)). notes_fine c bs us r b) (has_append r (entering_note c bs u) (flat_map (entering_note c bs) us) h)

  -- (3) to (6)
  pub arrived_tied : (c : Core) (rows : List GroupRow) (old : ViewId) (bs : List Base) → Arrived c → Tied g w n (owed_sent (taken_sent (entering_noted (sides_dissolved c rows old bs) bs))) × ((owed_sent (taken_sent (entering_noted (sides_dissolved c rows old bs) bs))).views.promise ≡ (owed_sent (taken_sent (entering_noted (sides_dissolved c rows old bs) bs))).views.view)
  unfolding owed_sent taken_sent entering_noted sides_dissolved sent send_on
  arrived_tied c rows old bs t =
      (votes_tied g w n (send_requests taken) (requests_tied g w n taken (by (noted.views.view.coord == noted.views.me))), subst (λ (v : Views). v.promise ≡ v.view) (sym (owed_views g w n taken)) (same (noted.views.view.coord == noted.views.me)))
    where
      told : Core
      told = fold (group_dissolved old bs) c rows

      noted : Core
      noted = recorded_all told (flat_map (entering_note told bs) told.sessions.subs.live)

      taken : Core
      taken = elim (noted.views.view.coord == noted.views.me) as (λ _. Core) [ true ↦ noted | false ↦ sent noted noted.views.view.coord (body.View (view.Taken noted.views.view)) ]

      arrived : Arrived noted
      arrived = (all_arrive (flat_map (entering_note told bs) told.sessions.subs.live) told (notes_fine told bs told.sessions.subs.live) (sides_arrive rows c old bs t))

      by : (b : Bool) → Tied g w n (elim b as (λ _. Core) [ true ↦ noted | false ↦ sent noted noted.views.view.coord (body.View (view.Taken noted.views.view)) ])
      by true = arrived.tied
      by false = tied_sent g w n noted arrived.tied noted.views.view.coord (body.View (view.Taken noted.views.view)) tt

      same : (b : Bool) → (elim b as (λ _. Core) [ true ↦ noted | false ↦ sent noted noted.views.view.coord (body.View (view.Taken noted.views.view)) ]).views.promise ≡ (elim b as (λ _. Core) [ true ↦ noted | false ↦ sent noted noted.views.view.coord (body.View (view.Taken noted.views.view)) ]).views.view
      same true = arrived.thawed
      same false = arrived.thawed
