-- Whoever a node holds of a group was asked for: a list and its base hold those alone whom entries named in a join.
use Rattle.std.proofs.Common.{◌≡◌, ℕ, List, [], ◌∷◌, ◌++◌, Option, Some, None, true, refl, sym, subst, ⊎_elim}
use Rattle.std.specs.Prelude.{◌&&◌, reverse, slice_get}
use Rattle.std.specs.List.{list_any}
use Rattle.std.proofs.lemmas.Bool.{eq-eqb}
use Rattle.rsct_packet.specs.declared.ids.ViewId.{ViewId}
use Rattle.rsct_packet.specs.declared.ids.ProviderId.{ProviderId}
use Rattle.rsct_packet.specs.Providers.{among}
use Rattle.rsct_packet.specs.Search.{Has}
use Rattle.rsct_packet.proofs.HasLaws.{map_has}
use Rattle.proposal_core.specs.declared.proposal.Proposal.{Proposal}
use Rattle.proposal_core.specs.declared.proposal.Proposal.TheVariants.{Join}
use Rattle.proposal_core.specs.declared.entry.Entry.{Entry}
use Rattle.proposal_core.specs.declared.entry.Entry.TheVariants.{Once, Begin}
use Rattle.proposal_core.specs.declared.group_state.GroupState.{GroupState}
use Rattle.proposal_core.specs.Fold.{joins_of, present, after}
use Rattle.proposal_core.specs.GroupView.{GroupView}
use Rattle.proposal_core.specs.Lists.{state_in}
use Rattle.node_state.specs.declared.happened.Happened.TheVariants as happened
use Rattle.node_state.specs.declared.state.Core.{Core}
use Rattle.node_state.specs.State.{row_of}
use Rattle.node_state.specs.Sending.{send_requests}
use Rattle.node_state.specs.HandOn.{Answering}
use Rattle.node_state.specs.Ticks.{tick_rings, tick_views}
use Rattle.world_model.specs.Run.{Happening}
use Rattle.run_safety.specs.Past.{History, records_of, fold_from}
use Rattle.run_safety.specs.Stays.{is_join_of, asks_join}
use Rattle.run_safety.specs.Requests.{requests_of, carried}
use Rattle.run_safety.specs.Sight.{lines_of}
use Rattle.run_safety.specs.Group.{Standing, Packet, Put, Line, Kept, Noted}
use Rattle.run_safety.specs.Group as group
use Rattle.run_safety.specs.Bases.{Bases, base_state, state_of_list}
use Rattle.run_safety.specs.Moves.{Leads, Opening, Life}
use Rattle.run_safety.proofs.Prefix.{IsPrefix}
use Rattle.run_safety.proofs.Tests.{has_any}
use Rattle.run_safety.proofs.Whole.{Whole}
use Rattle.run_safety.proofs.Lives.{whole}
use Rattle.run_safety.proofs.SightLaws.{line_kept, line_recorded}
use Rattle.step_refinement.specs.Ghost.{KeepsIf}
use Rattle.step_refinement.specs.Tied.{Scene, opening_of, lines_now, Tied}
use Rattle.step_refinement.proofs.Rings.{rings_part_tied}
use Rattle.step_refinement.proofs.FoundingRules.{founding_tick_tied}
use Rattle.step_refinement.proofs.Owed.{requests_tied}
use Rattle.step_refinement.proofs.SessionLaws.{provider_self}
use Rattle.step_refinement.proofs.Steps.{rings_quiet}
use Rattle.row_laws.proofs.hearing.Handing.{among_is}
use Rattle.row_laws.proofs.honest_votes.At.{found}
use Rattle.row_laws.proofs.failed_rows.Grows.{after_has}
use Rattle.row_laws.proofs.failed_rows.Founded.{AllPut, listed, folded, based}

-- ---- an entry that names a provider in a join carries its request

pub names_carried : (p : ProviderId) (x : Proposal) → among (joins_of x) p ≡ true → Has {A = ProviderId × ℕ} (p, p.join) (requests_of x)
names_carried p (Join ps attrs n) h = map_has (λ (q : ProviderId). (q, q.join)) p ps (among_is ps p h)
names_carried p _ h = absurd (cc)

pub join_carried : (p : ProviderId) (e : Entry) → is_join_of p e ≡ true → Has {A = ProviderId × ℕ} (p, p.join) (carried e)
join_carried p (Once x) h = names_carried p x h
join_carried p (Begin x) h = names_carried p x h
join_carried p _ h = absurd (cc)

-- ---- who is there, of every life

module _ (P : ProviderId → Type 0) where
  -- whoever an entry names in a join
  abbrev pub Joins : Entry → Type 0
  Joins e = (p : ProviderId) → is_join_of p e ≡ true → P p

  abbrev pub AllJoin : List Line → Type 0
  AllJoin = AllPut Joins

  -- whoever is there
  abbrev pub AllThere : GroupState → Type 0
  AllThere s = (p : ProviderId) → Has p (present s) → P p

  keeps : (s : GroupState) (v : ViewId) (i : ℕ) (e : Entry) → Joins e → AllThere s → AllThere (after s v i e)
  keeps s v i e n a p h = ⊎_elim (λ (k : Has p (present s)). a p k) (λ (k : is_join_of p e ≡ true). n p k) (after_has s v i e p h)

  pub fold_there : (v : ViewId) (s : GroupState) (i : ℕ) (es : List Entry) → AllThere s → ((e : Entry) → Has e es → Joins e) → AllThere (fold_from v s i es)
  fold_there v s i es a n = folded Joins AllThere (λ p h. absurd h) keeps (λ rs u s a. a) v s i es a n

  pub based_there : {o : Opening} {nodes : ℕ → Standing} {ps : List Packet} {all : List Line} {leads : Leads} {bases : Bases} → Life o nodes ps all leads bases → AllJoin all → (v : ViewId) → AllThere (base_state (bases v))
  based_there life named v = based Joins AllThere (λ p h. absurd h) keeps (λ rs u s a. a) life named v

  -- at a node
  pub listed_there : (g : List ℕ) (w : Scene) (n : ℕ) (s : Core) (t : Tied g w n s) → AllJoin t.ghost.all → AllThere (state_in (found s g).list)
  unfolding row_of
  listed_there g w n s t named = by (found s g).list t.own.0.row_is.list
    where
      o : Whole (opening_of w.config) t.ghost.nodes t.ghost.ps t.ghost.all t.ghost.leads t.ghost.bases
      o = whole t.life

      full : List Entry
      full = (t.ghost.nodes n).list

      front : IsPrefix full (o.log s.views.view)
      front = subst (λ v. IsPrefix full (o.log v)) t.own.0.stands.view (o.good.inv.node n).part

      all : AllThere (state_of_list t.ghost.bases s.views.view full)
      all =
          fold_there s.views.view (base_state (t.ghost.bases s.views.view)) 0 full (based_there t.life named s.views.view) (listed Joins (opening_of w.config) t.ghost.nodes t.ghost.ps t.ghost.all t.ghost.leads t.ghost.bases o named s.views.view full front)

      by : (l : Option GroupView) → KeepsIf t.ghost s.views.view full l → AllThere (state_in l)
      by None h = λ p i. absurd i
      by (Some l) h = subst AllThere (sym h.state) all

-- ---- what a group sees asked was recorded

pub asked_back : (p : ProviderId) (r : ℕ) (g : List ℕ) (x : Proposal) (h : History) → Has (Noted (group.Asked p r x)) (lines_of g h) → Has (happened.Asked p r g x) (records_of h)
asked_back p r g x h k = line_recorded g (Noted (group.Asked p r x)) (happened.Asked p r g x) refl h k

pub asks_it : (p : ProviderId) (g : List ℕ) (x : Proposal) → asks_join p (happened.Asked p p.join g x) ≡ true
asks_it p g x = λ k. provider_self p k && eq-eqb p.join p.join refl k

-- whoever a node holds was asked for
pub there_asked : (g : List ℕ) (w : Scene) (n : ℕ) (s : Core) → Tied g w n s → (p : ProviderId) → Has p (present (state_in (found s g).list)) → list_any (asks_join p) (reverse s.records ++ records_of w.before) ≡ true
there_asked g w n s t = listed_there (λ p. list_any (asks_join p) (reverse s.records ++ records_of w.before) ≡ true) g w n s t joined
  where
    o : Whole (opening_of w.config) t.ghost.nodes t.ghost.ps t.ghost.all t.ghost.leads t.ghost.bases
    o = whole t.life

    joined : (m : ℕ) (v : ViewId) (i : ℕ) (e : Entry) → Has (Kept (Put m v i e)) t.ghost.all → (p : ProviderId) → is_join_of p e ≡ true → list_any (asks_join p) (reverse s.records ++ records_of w.before) ≡ true
    joined m v i e h p names =
        let get : slice_get (o.log v) i ≡ Some e = o.good.inv.records (Put m v i e) (line_kept (Put m v i e) t.ghost.all h) in
        let a = o.once.asked v i p p.join e get (join_carried p e names) in
        let b = o.once.sent v p p.join a.0 a.1 in
        let line : Has (Noted (group.Asked p p.join a.0)) (lines_now g w s) = subst (Has (Noted (group.Asked p p.join a.0))) t.lines b.1 in
        let now : Happening = record { event = None; records = reverse s.records } in
        let rec = asked_back p p.join g a.0 (now ∷ w.before) line in
        has_any (asks_join p) (reverse s.records ++ records_of w.before) (happened.Asked p p.join g a.0) rec (asks_it p g a.0)

-- ---- in a tick, as GONE is sent

-- whoever a node holds as GONE is sent was asked for
pub lost_asked : (w : Scene) (n : ℕ) (f : Answering) (s : Core) → s.records ≡ [] → ((h : List ℕ) → Tied h w n s) → let t : Core = send_requests (tick_views f (tick_rings s)) in (g : List ℕ) (p : ProviderId) → Has p (present (state_in (found t g).list)) → list_any (asks_join p) (reverse t.records ++ records_of w.before) ≡ true
lost_asked w n f s none all g =
    let rings : (h : List ℕ) → Tied h w n (tick_rings s) = λ h. rings_part_tied h w n s (all h) in
    let viewed : Tied g w n (tick_views f (tick_rings s)) = founding_tick_tied w n f (tick_rings s) rings g (rings_quiet g w s none) in
    there_asked g w n (send_requests (tick_views f (tick_rings s))) (requests_tied g w n (tick_views f (tick_rings s)) viewed)
