-- The tick of views: asking or PREPARE again, and INSTALL again.
use Rattle.std.proofs.Common.{◌≡◌, ℕ, List, [], ◌∷◌, ◌++◌, Option, Some, None, Bool, true, false, refl, sym, ap, ◌∙◌, subst}
use Rattle.std.specs.Prelude.{◌&&◌, not, map, filter, fold, drop}
use Rattle.rsct_packet.specs.Mask.{has_node, nodes_of}
use Rattle.view_state.specs.declared.exchange.Exchange.{Exchange}
use Rattle.view_state.specs.declared.install.Install.{Install}
use Rattle.view_state.specs.Answers.{opened, has_answered, with_answer, all_answered}
use Rattle.view_state.specs.declared.packet.ViewPacket.TheVariants as view
use Rattle.view_state.specs.declared.packet.ViewSend.{ViewSend}
use Rattle.view_state.specs.declared.views.Views.{Views}
use Rattle.view_state.specs.declared.views.RingAsk.{RingAsk}
use Rattle.view_state.specs.Views.{is_frozen, is_coordinator, others_of, view_sent_all, gathering_set, own_answer, next_view, aged, prepare_again, tick_asks, note_stuck, asks_or_ages, gathering_ticks, install_again_of, install_again, is_stuck, views_at_work}
use Rattle.node_state.specs.declared.packet.Body.TheVariants as body
use Rattle.node_state.specs.declared.state.Core.{Core}
use Rattle.node_state.specs.declared.config.Mode.{Mode}
use Rattle.node_state.specs.declared.config.Mode.TheVariants.{Fixed, Asked, Rings}
use Rattle.node_reach.specs.Reach as reach
use Rattle.node_state.specs.Settings.{is_fixed, is_rings}
use Rattle.node_state.specs.State.{row_of, held_rows}
use Rattle.node_state.specs.Sending.{sent}
use Rattle.node_state.specs.HandOn.{Answering}
use Rattle.node_state.specs.Applying.{own_parts, apply_install, views_taken}
use Rattle.node_state.specs.Ticks.{ring_ask_for, ring_ask, tick_views}
use Rattle.step_refinement.specs.Ghost.{Installs, InstallsIf, GathersIf}
use Rattle.step_refinement.specs.Tied.{Scene, Tied}
use Rattle.step_refinement.proofs.Goes.{spares_same, rest_on}
use Rattle.step_refinement.proofs.Works.{sent_kept, tied_views}
use Rattle.step_refinement.proofs.Gatherings.{prepares_tied, asks_tied}

-- an install that the node keeps is sent again
installs_tied : (g : List ℕ) (w : Scene) (n : ℕ) (i : Install) (ns : List ℕ) (s : Core) (t : Tied g w n s) → Installs t.ghost g i → Tied g w n (fold (λ c (x : ViewSend). sent c x.to (body.View x.packet)) s (map (λ m. record { to = m; packet = view.Install i }) ns))
installs_tied g w n i [] s t h = t
installs_tied g w n i (m ∷ ns) s t h =
    let k = sent_kept g w n s t m (body.View (view.Install i)) h in
    installs_tied g w n i ns (sent s m (body.View (view.Install i))) k.0 (subst (λ x. Installs x g i) (sym k.1) h)

asked_free_here : (b : Bool) → not b ≡ true → b ≡ false
asked_free_here true e = absurd (cc)
asked_free_here false e = refl

module _ (g : List ℕ) (w : Scene) (n : ℕ) (f : Answering) (s : Core) (t : Tied g w n s) where
  -- what is gathered ages, and PREPARE is sent again
  pub ages_tied : Tied g w n (views_taken f s (prepare_again (views_at_work s.views) s.views.gathering))
  unfolding prepare_again gathering_set view_sent_all aged views_taken apply_install row_of
  ages_tied = at s.views.gathering refl
    where
      at : (o : Option Exchange) → s.views.gathering ≡ o → Tied g w n (views_taken f s (prepare_again (views_at_work s.views) o))
      at None q = t
      at (Some e) q =
          let h = t.own.0 in
          let k = subst (λ z. GathersIf t.ghost g n s.views.inc s.views.view s.views.promise z) q h.gathering in
          let views : Views = record (s.views) { gathering = Some (aged e) } in
          let older : GathersIf t.ghost g n s.views.inc s.views.view s.views.promise (Some (aged e)) = record {
            view = k.view;
            coord = k.coord;
            inc_of = k.inc_of;
            later = k.later;
            lt = k.lt;
            answers = k.answers;
            made = ap (λ (z : Exchange). record z { age = (aged e).age }) k.made;
            replies = k.replies;
            members = k.members;
            shown = k.shown;
            came = k.came;
            own = k.own;
            single = k.single;
            asked = k.asked;
            asks = k.asks;
          } in
          let set : Tied g w n (record s { views = views }) = tied_views g w n s t views (rest_on t.ghost t.ghost n (spares_same t.ghost n) g (is_fixed s.config.mode) s.views views (row_of s g) s.groups s.sessions s.names (record { me = h.stands.me; up = h.stands.up; inc = h.stands.inc; view = h.stands.view; promise = h.stands.promise; seated = h.stands.seated }) refl refl refl refl older h) refl in
          prepares_tied g w n e.view e.asked (filter (λ m. not (has_answered e m)) (nodes_of e.asked)) (record s { views = views }) (asked_free_here (is_fixed s.config.mode) (sym h.asks ∙ k.asks)) set

  -- the coordinator sends its install again
  pub again_tied : Tied g w n (views_taken f s (install_again (views_at_work s.views)))
  unfolding install_again install_again_of view_sent_all views_taken apply_install
  again_tied = by (is_coordinator s.views && not (is_frozen s.views))
    where
      at : (o : Option Install) → InstallsIf t.ghost g o → Tied g w n (views_taken f s (install_again_of (views_at_work s.views) o))
      at None h = t
      at (Some i) h = installs_tied g w n i (filter (λ m. not (has_node s.views.taken m)) (others_of s.views.me s.views.members)) s t h

      by : (b : Bool) → Tied g w n (views_taken f s (elim b [ true ↦ install_again_of (views_at_work s.views) s.views.install | false ↦ views_at_work s.views ]))
      by true = at s.views.install t.own.0.install
      by false = t

module _ (g : List ℕ) (w : Scene) (n : ℕ) (f : Answering) (s : Core) (t : Tied g w n s) where
  -- whether it is stuck is noted
  pub noted_tied : (bs : List Bool) → Tied g w n (record s { views = record (s.views) { stuck = bs } })
  unfolding row_of
  noted_tied bs =
      let h = t.own.0 in
      let views : Views = record (s.views) { stuck = bs } in
      tied_views g w n s t views (rest_on t.ghost t.ghost n (spares_same t.ghost n) g (is_fixed s.config.mode) s.views views (row_of s g) s.groups s.sessions s.names (record { me = h.stands.me; up = h.stands.up; inc = h.stands.inc; view = h.stands.view; promise = h.stands.promise; seated = h.stands.seated }) refl refl refl refl h.gathering h) refl

  abbrev pub noted : Core
  noted = record s { views = record (s.views) { stuck = drop 1 s.views.stuck ++ is_stuck s.views ∷ [] } }

  -- (2) asking, or PREPARE again
  gathering_tied : (o : Option RingAsk) → ((a : RingAsk) → o ≡ Some a → is_fixed s.config.mode ≡ false) → ((a : RingAsk) → o ≡ Some a → all_answered (with_answer (opened (next_view s.views) a.mask) (own_answer s.views (own_parts s))) ≡ false) → Tied g w n (views_taken f s (gathering_ticks (views_at_work s.views) o (own_parts s)))
  unfolding gathering_ticks asks_or_ages note_stuck views_taken apply_install own_parts held_rows next_view
  gathering_tied None free more = ages_tied g w n f s t
  gathering_tied (Some a) free more = by (tick_asks s.views a)
    where
      now : Tied g w n noted
      now = noted_tied (drop 1 s.views.stuck ++ is_stuck s.views ∷ [])

      by : (b : Bool) → Tied g w n (views_taken f s (asks_or_ages (note_stuck (views_at_work s.views)) a (own_parts s) b))
      by true = asks_tied a.mask g w n f noted (free a refl) (more a refl) now
      by false = ages_tied g w n f noted now

-- where the rings ask, the mode is not fixed
rings_are_free : (m : Mode) (x a : RingAsk) → elim (is_rings m) as (λ _. Option RingAsk) [ true ↦ Some x | false ↦ None ] ≡ Some a → is_fixed m ≡ false
rings_are_free Fixed x a q = absurd (cc)
rings_are_free Asked x a q = refl
rings_are_free Rings x a q = refl

pub rings_free : (s : Core) (a : RingAsk) → ring_ask s ≡ Some a → is_fixed s.config.mode ≡ false
unfolding ring_ask
rings_free s a q = rings_are_free s.config.mode (ring_ask_for s (reach.reach_of s.reach)) a q

-- (2) and (3)
pub views_part_tied : (g : List ℕ) (w : Scene) (n : ℕ) (f : Answering) (s : Core) → ((a : RingAsk) → ring_ask s ≡ Some a → all_answered (with_answer (opened (next_view s.views) a.mask) (own_answer s.views (own_parts s))) ≡ false) → Tied g w n s → Tied g w n (tick_views f s)
unfolding tick_views
views_part_tied g w n f s more t =
    again_tied g w n f (views_taken f s (gathering_ticks (views_at_work s.views) (ring_ask s) (own_parts s))) (gathering_tied g w n f s t (ring_ask s) (rings_free s) more)
