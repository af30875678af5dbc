-- What the relation of a node to the lives of all groups says of its lists, and of the joins that wait.
use Rattle.std.proofs.Common.{◌≡◌, ◌⊎◌, ℕ, List, [], ◌∷◌, length, drop, Option, Some, None, true, false, refl, sym, ap, ◌∙◌, subst, inl, inr, arith, length-drop}
use Rattle.std.specs.Prelude.{◌==◌, ◌||◌, is_some}
use Rattle.std.proofs.lemmas.Bool.{eq-eqb}
use Rattle.rsct_packet.specs.declared.ids.ViewId.{ViewId}
use Rattle.rsct_packet.specs.declared.ids.Member.{Member}
use Rattle.rsct_packet.specs.declared.ids.ProviderId.{ProviderId}
use Rattle.rsct_packet.specs.Providers.{among}
use Rattle.rsct_packet.specs.Search.{Has}
use Rattle.node_state.proofs.NameOrder.{row_itself}
use Rattle.proposal_core.specs.declared.entry.Entry.{Entry}
use Rattle.proposal_core.specs.GroupView.{GroupView}
use Rattle.proposal_core.specs.Lists.{state_in}
use Rattle.view_state.specs.declared.install.Part.{Part}
use Rattle.view_exchange.specs.Longest.{NamesDiffer}
use Rattle.node_state.specs.declared.config.Mode.{Mode}
use Rattle.node_state.specs.declared.config.Mode.TheVariants.{Fixed, Asked, Rings}
use Rattle.node_state.specs.declared.group.GroupRow.{GroupRow}
use Rattle.node_state.specs.declared.state.Core.{Core}
use Rattle.node_state.specs.Settings.{is_fixed}
use Rattle.node_state.specs.State.{row_of, list_of, state_of, leader_by, is_this, leader_in, leads_in}
use Rattle.run_safety.specs.Group.{member}
use Rattle.step_refinement.specs.Ghost.{Ghost, KeepsIf, CarriesIf, part_of}
use Rattle.step_refinement.specs.Tied.{KnowsLeader, ShowsLeader, Scene, Tied}
use Rattle.step_refinement.proofs.SessionLaws.{provider_self}
use Rattle.step_refinement.proofs.Replies.{part_is}
use Rattle.send_laws.specs.Bound.{Room, EndsAt, ListsEnd, WaitsAtLed}
use Rattle.send_laws.specs.Lasting.{WaitsFew}
use Rattle.send_laws.proofs.Bases.{BasesRoom, list_room, bases_room}

-- ---- lists

kept_room : (x : Ghost) (v : ViewId) (full : List Entry) (o : Option GroupView) → BasesRoom x.bases → KeepsIf x v full o → Room (state_in o)
kept_room x v full None h k = omega arith
kept_room x v full (Some l) h k = subst Room (sym k.state) (list_room x.bases h v full)

kept_ends : (x : Ghost) (v : ViewId) (full : List Entry) (o : Option GroupView) → KeepsIf x v full o → EndsAt o
kept_ends x v full None k = tt
kept_ends x v full (Some l) k =
    let a : length l.entries ≡ length (drop l.start full) = ap length k.entries in
    let b = length-drop l.start full in
    omega (arith, k.len, k.starts, a, b)

-- a part that is carried has room
pub carried_room : (x : Ghost) (v : ViewId) (full : List Entry) (ps : List Part) (p : Part) → BasesRoom x.bases → NamesDiffer ps → Has p ps → CarriesIf x v full (part_of p.name ps) → Room p.state
carried_room x v full ps p h d i k =
    let c = subst (CarriesIf x v full) (part_is p.name ps p d i refl) k in
    subst Room (sym c.state) (list_room x.bases h v full)

module _ (w : Scene) (n : ℕ) (s : Core) (all : (g : List ℕ) → Tied g w n s) where
  pub rooms : (g : List ℕ) → Room (state_of s g)
  unfolding state_of list_of
  rooms g =
      let t : Tied g w n s = all g in
      kept_room t.ghost s.views.view (t.ghost.nodes n).list (row_of s g).list (bases_room t.life) t.own.0.row_is.list

  pub lists_end : ListsEnd s
  lists_end row h =
      let t : Tied row.name w n s = all row.name in
      subst (λ (z : GroupRow). EndsAt z.list) (row_itself s row t.own.0.order h) (kept_ends t.ghost s.views.view (t.ghost.nodes n).list (row_of s row.name).list t.own.0.row_is.list)

  -- ---- joins that wait

  -- a join waits at the leader alone, which knows that it leads
  waits_led : (row : GroupRow) → Has row s.groups → WaitsFew row → leads_in s row ≡ false → row.led.waiting.joins ≡ []
  unfolding leads_in leader_in
  waits_led row h few not_led = by row.led.waiting.joins refl few.known
    where
      t : Tied row.name w n s
      t = all row.name

      is : row_of s row.name ≡ row
      is = row_itself s row t.own.0.order h

      same : (p : ProviderId) → among row.led.waiting.joins p ≡ true → t.ghost.leads s.views.view ≡ Some (member n s.views.inc)
      same p a = t.own.0.decides.leads_it p (subst (λ (z : GroupRow). among z.led.waiting.joins p ≡ true) (sym is) a)

      knows : KnowsLeader t.ghost s.views.view s.views.members row.leader
      knows = subst (λ (z : GroupRow). KnowsLeader t.ghost s.views.view s.views.members z.leader) is t.own.0.row_is.leader

      me : s.views.me ≡ n
      me = t.own.0.stands.me

      this : (m j : ℕ) → t.ghost.leads s.views.view ≡ Some (member m j) → t.ghost.leads s.views.view ≡ Some (member n s.views.inc) → (m == s.views.me) ≡ true
      this m j a b =
          let z : member m j ≡ member n s.views.inc = cc in eq-eqb m s.views.me (ap (λ (x : Member). x.node) z ∙ sym me)

      leads_it : (o : Option ℕ) → KnowsLeader t.ghost s.views.view s.views.members o → is_some o ≡ true → t.ghost.leads s.views.view ≡ Some (member n s.views.inc) → is_this s.views.me o ≡ true
      leads_it None k some led = absurd cc
      leads_it (Some m) k some led = this m k.0 k.2 led

      in_mode : (mode : Mode) (o : Option ℕ) → (is_fixed mode ≡ true → ShowsLeader t.ghost s.views.view s.views.view.coord) → KnowsLeader t.ghost s.views.view s.views.members o → is_some o ≡ true → t.ghost.leads s.views.view ≡ Some (member n s.views.inc) → is_this s.views.me (leader_by mode s.views.view.coord o) ≡ true
      in_mode Fixed o fixed k some led = let z = fixed refl in this s.views.view.coord z.inc z.leads led
      in_mode Asked o fixed k some led = leads_it o k some led
      in_mode Rings o fixed k some led = leads_it o k some led

      by : (joins : List ProviderId) → row.led.waiting.joins ≡ joins → (row.led.waiting.joins ≡ []) ⊎ (is_some row.leader ≡ true) → row.led.waiting.joins ≡ []
      by [] q known = q
      by (p ∷ ps) q (inl e) = e
      by (p ∷ ps) q (inr some) =
          let led : is_this s.views.me (leader_by s.config.mode s.views.view.coord row.leader) ≡ true = in_mode s.config.mode row.leader t.own.0.led knows some (same p (subst (λ z. among z p ≡ true) (sym q) (first p ps))) in
          absurd cc
        where
          first : (p : ProviderId) (ps : List ProviderId) → among (p ∷ ps) p ≡ true
          first p ps = ap (λ b. b || among ps p) (provider_self p)

  pub waits_at_led : ((g : List ℕ) → WaitsFew (row_of s g)) → WaitsAtLed s
  waits_at_led few row h =
      let k : WaitsFew row = subst WaitsFew (row_itself s row (all row.name).own.0.order h) (few row.name) in
      (k.few, λ q. waits_led row h k q)
