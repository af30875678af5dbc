-- What is refused: by the leader, or in a view that is shut to the group; NAME with leader 0.
use Rattle.std.proofs.Common.{◌≡◌, ◌≢◌, ◌⊎◌, ℕ, List, [], ◌∷◌, Option, Some, None, Bool, true, refl, sym, ◌∙◌, ap, subst, inl, inr}
use Rattle.std.specs.Prelude.{slice_get}
use Rattle.std.proofs.lemmas.Bool.{cases_eq}
use Rattle.rsct_packet.specs.declared.ids.ViewId.{ViewId}
use Rattle.rsct_packet.specs.declared.ids.ProviderId.{ProviderId}
use Rattle.rsct_packet.specs.Providers.{among}
use Rattle.rsct_packet.specs.Search.{Has}
use Rattle.proposal_core.specs.declared.entry.Entry.{Entry}
use Rattle.name_server.specs.declared.names.Leader.{Leader}
use Rattle.view_state.specs.declared.views.Views.{Views}
use Rattle.node_state.specs.declared.config.Config.{Config}
use Rattle.node_state.specs.declared.group.GroupRow.{GroupRow}
use Rattle.node_state.specs.declared.state.Core.{Core}
use Rattle.node_state.specs.Settings.{is_fixed}
use Rattle.node_state.specs.State.{row_of}
use Rattle.node_state.specs.declared.happened.Happened.{Happened}
use Rattle.run_safety.specs.Group.{member}
use Rattle.run_safety.specs.Group as group
use Rattle.run_safety.specs.ViewOrder.{Lt}
use Rattle.run_safety.specs.Requests.{carried}
use Rattle.run_safety.specs.Moves.{Refuses}
use Rattle.run_safety.proofs.Order.{lt_refl}
use Rattle.run_safety.proofs.Parts.{member_parts}
use Rattle.step_refinement.specs.Ghost.{Ghost, Lives, Seen}
use Rattle.step_refinement.specs.Tied.{LeaderKeeps, Closed, NodeOf, NodeIsIf, Sound, Scene, opening_of, Tied, Turns}
use Rattle.step_refinement.proofs.Goes.{Spares, owes_by, node_by, shows_on, node_on, node_if_on}
use Rattle.step_refinement.proofs.Gone.{with_packet, packet_goes}
use Rattle.step_refinement.proofs.Turns.{turns_packets}
use Rattle.proposal_core.specs.declared.proposal.Proposal.{Proposal}
use Rattle.session_state.specs.declared.state.SessionState.{SessionState}

module _ (x : Ghost) (v : ViewId) (p : ProviderId) (r : ℕ) where
  abbrev pub refusing : Ghost
  refusing = with_packet x (group.Refusal v p r)

  -- of a node that does not lead the view nothing changes
  pub refusal_spares : (m : ℕ) → ((i : ℕ) → x.leads v ≡ Some (member m i) → ⊥) → Spares x refusing m
  refusal_spares m apart =
      record {
        goes = packet_goes x (group.Refusal v p r);
        list = refl;
        leads = λ u s. refl;
        refusals = λ u q k h. old u q k h;
        stables = λ u k h. inl (stable u k h);
        puts = λ u k e h. h;
        told = λ q k u e h. h;
        shut = λ u e h. h;
        shut_led = λ u i e h. h;
        asked = λ a e h. h;
      }
    where
      stable : (u : ViewId) (k : ℕ) → Has (group.Stable u k) (group.Refusal v p r ∷ x.ps) → Has (group.Stable u k) x.ps
      stable u k (inl e) = absurd (cc)
      stable u k (inr h) = h

      old : (u : ViewId) (q : ProviderId) (k : ℕ) → Has (group.Refusal u q k) (group.Refusal v p r ∷ x.ps) → Has (group.Refusal u q k) x.ps ⊎ ((i : ℕ) → x.leads u ≡ Some (member m i) → ⊥)
      old u q k (inr h) = inl h
      old u q k (inl e) = let same : u ≡ v = cc in inr (λ i l. apart i (ap x.leads (sym same) ∙ l))

  pub refusal_sound : (g : List ℕ) → Seen x v → (x.leads v ≡ None → Has v x.shut) → Sound g x → Sound g refusing
  refusal_sound g seen none t =
      record {
        refused = λ u q k h. refused u q k h;
        unled = λ u q k h e. unled u q k h e;
        shut = t.shut;
        asked = t.asked;
        one = t.one;
        started = t.started;
        told = t.told;
      }
    where
      refused : (u : ViewId) (q : ProviderId) (k : ℕ) → Has (group.Refusal u q k) (group.Refusal v p r ∷ x.ps) → Seen refusing u
      refused u q k (inr h) = t.refused u q k h
      refused u q k (inl e) = let same : v ≡ u = cc in subst (Seen x) same seen

      unled : (u : ViewId) (q : ProviderId) (k : ℕ) → Has (group.Refusal u q k) (group.Refusal v p r ∷ x.ps) → x.leads u ≡ None → Has u x.shut
      unled u q k (inr h) e = t.unled u q k h e
      unled u q k (inl c) e = let same : v ≡ u = cc in subst (λ z. Has z x.shut) same (none (ap x.leads same ∙ e))

pub refusing_turns : (x : Ghost) (v : ViewId) (p : ProviderId) (r : ℕ) (w : Scene) (n : ℕ) (u : ViewId) (rs : List Happened) (t : SessionState) → Turns w n u rs t x.ps → Turns w n u rs t (refusing x v p r).ps
refusing_turns x v p r w n u rs t h = turns_packets w n u rs t x.ps h (refusing x v p r).ps old
  where
    old : (a : ViewId) (q : ProviderId) (k : ℕ) (y : Proposal) → Has (group.Request a q k y) (group.Refusal v p r ∷ x.ps) → Has (group.Request a q k y) x.ps
    old a q k y (inl e) = absurd (cc)
    old a q k y (inr i) = i

-- the leader takes no request of the group
module _ (x : Ghost) (v : ViewId) (p : ProviderId) (r : ℕ) (shut : Has v x.shut) (c : Closed x.nodes x.leads x.asks v) where
  abbrev y : Ghost
  y = refusing x v p r

  -- nor does it keep a decision on what is refused
  closed_node : (m : ℕ) → m ≡ c.node → (g : List ℕ) (fixed : Bool) (s : Views) (row : GroupRow) (rows : List GroupRow) (t : SessionState) (table : List Leader) → NodeOf x g m fixed s row rows t table → NodeOf y g m fixed s row rows t table
  closed_node m is g fixed s row rows t table h =
      node_by x y (packet_goes x (group.Refusal v p r)) m refl g fixed s row rows t t table table (λ j k e i. h.row_is.covers j k e (stable_old k i)) (owes_by x y (packet_goes x (group.Refusal v p r)) m (λ a e i. i) (λ u k e i. i) (λ q k u e i. i) g s.inc t h.owes) decides (record { named = h.names.named; unnamed = h.names.unnamed; full = h.names.full }) (record { few = h.idles.few; shut = h.idles.shut }) h
    where
      stable_old : (k : ℕ) → Has (group.Stable s.view k) (group.Refusal v p r ∷ x.ps) → Has (group.Stable s.view k) x.ps
      stable_old k (inl e) = absurd (cc)
      stable_old k (inr i) = i

      here : s.view ≡ v
      here = sym h.stands.view ∙ ap (λ k. (x.nodes k).view) is ∙ c.stands

      shut_here : Has s.view x.shut
      shut_here = subst (λ z. Has z x.shut) (sym here) shut

      decides : LeaderKeeps y m s.inc s.view row.led
      decides =
          let d = h.decides in
          record {
            refused = λ q k e o i. absurd (o shut_here);
            begun = d.begun;
            waiting = λ q e i. absurd (let z : among [] q ≡ true = subst (λ js. among js q ≡ true) (h.idles.shut e shut_here).idle i in cc);
            later = λ u lt e q k i. later u lt e q k i;
            again = λ q z why e b. inr (d.again q z why e b);
            leads_it = d.leads_it;
            apart = d.apart;
            lasts = d.lasts;
          }
        where
          later : (u : ViewId) → Lt s.view u → x.leads u ≡ Some (member m s.inc) → (q : ProviderId) (k : ℕ) → Has (group.Refusal u q k) (group.Refusal v p r ∷ x.ps) → ⊥
          later u lt e q k (inr i) = h.decides.later u lt e q k i
          later u lt e q k (inl z) =
              let a : u ≡ v = cc in
              let b : Lt v v = subst (λ (z : ViewId × ViewId). Lt z.0 z.1) (λ i. (here i, a i)) lt in
              let f = lt_refl v in cc

  -- of each node
  node_closed : (m : ℕ) (g : List ℕ) (fixed : Bool) (s : Views) (row : GroupRow) (rows : List GroupRow) (t : SessionState) (table : List Leader) → NodeOf x g m fixed s row rows t table → NodeOf y g m fixed s row rows t table
  node_closed m g fixed s row rows t table h = by (cases_eq m c.node)
    where
      by : (m ≡ c.node) ⊎ (m ≢ c.node) → NodeOf y g m fixed s row rows t table
      by (inl e) = closed_node m e g fixed s row rows t table h
      by (inr ne) =
          node_on x y m (refusal_spares x v p r m (λ i e. ne (member_parts m c.node i (x.nodes c.node).inc (sym e ∙ c.led)).0)) refl g fixed s row rows t table h

  node_if_closed : (a : Config) (g : List ℕ) (m inc : ℕ) (o : Option Core) → NodeIsIf a x g m inc o → NodeIsIf a y g m inc o
  node_if_closed a g m inc None h = h
  node_if_closed a g m inc (Some s) h = (node_closed m g (is_fixed s.config.mode) s.views (row_of s g) s.groups s.sessions s.names h.0, h.1, h.2)

  unbegun : (i : ℕ) (e : Entry) → slice_get (x.nodes c.node).list i ≡ Some e → Has (p, r) (carried e) → ⊥
  unbegun i e q k = none (x.nodes c.node).list c.bare i e q
    where
      none : (xs : List Entry) → xs ≡ [] → (i : ℕ) (e : Entry) → slice_get xs i ≡ Some e → ⊥
      none [] q i e z = cc
      none (y ∷ xs) q i e z = cc

-- a request is refused in a view that is shut to the group
pub refused_shut : (g : List ℕ) (w : Scene) (n : ℕ) (s : Core) (t : Tied g w n s) (p : ProviderId) (r : ℕ) → Has s.views.view t.ghost.shut → (u : Tied g w n s) × Has (group.Refusal s.views.view p r) u.ghost.ps × (u.ghost.asked ≡ t.ghost.asked)
refused_shut g w n s t p r shut = by (t.sound.shut s.views.view shut).1
  where
    clash : (m i : ℕ) → None ≡ Some (member m i) → ⊥
    clash m i e = cc

    done : Lives (opening_of w.config) (refusing t.ghost s.views.view p r) → ((m inc : ℕ) (o : Option Core) → NodeIsIf w.config t.ghost g m inc o → NodeIsIf w.config (refusing t.ghost s.views.view p r) g m inc o) → (u : Tied g w n s) × Has (group.Refusal s.views.view p r) u.ghost.ps × (u.ghost.asked ≡ t.ghost.asked)
    done life node = (
      record {
        ghost = refusing t.ghost s.views.view p r;
        life = life;
        lines = t.lines;
        own = node n (w.incs n) (Some s) t.own;
        others = λ m ne. node m (w.incs m) (w.cores m) (t.others m ne);
        packets = λ q i. shows_on t.ghost (refusing t.ghost s.views.view p r) (packet_goes t.ghost (group.Refusal s.views.view p r)) g q (t.packets q i);
        sound = refusal_sound t.ghost s.views.view p r g (t.sound.shut s.views.view shut).0 (λ e. shut) t.sound;
        placed = t.placed;
        nobody = t.nobody;
        turns = refusing_turns t.ghost s.views.view p r w n s.views.view s.records s.sessions t.turns;
      },
      inl refl,
      refl,
    )

    by : (t.ghost.leads s.views.view ≡ None) ⊎ Closed t.ghost.nodes t.ghost.leads t.ghost.asks s.views.view → (u : Tied g w n s) × Has (group.Refusal s.views.view p r) u.ghost.ps × (u.ghost.asked ≡ t.ghost.asked)
    by (inl none) =
        done (Refuses t.ghost.nodes t.ghost.ps t.ghost.all t.ghost.leads t.ghost.bases s.views.view p r t.life (inl none)) (λ m inc o h. node_if_on t.ghost (refusing t.ghost s.views.view p r) m (refusal_spares t.ghost s.views.view p r m (λ i e. clash m i (sym none ∙ e))) refl w.config g inc o h)
    by (inr c) =
        done (Refuses t.ghost.nodes t.ghost.ps t.ghost.all t.ghost.leads t.ghost.bases s.views.view p r t.life (inr (c.node, t.ghost.nodes c.node, refl, c.stands, c.led, unbegun t.ghost s.views.view p r shut c))) (λ m inc o h. node_if_closed t.ghost s.views.view p r shut c w.config g m inc o h)
