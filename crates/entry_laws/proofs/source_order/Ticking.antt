-- A tick.
use Rattle.std.proofs.Common.{◌≡◌, ℕ, List, [], Option, Some, None, Bool, true, false}
use Rattle.std.specs.Prelude.{◌==◌, ◌&&◌, fold}
use Rattle.proposal_core.specs.declared.entry.Entry.TheVariants.{Late}
use Rattle.proposal_core.specs.declared.group_state.Running.{Running}
use Rattle.vote_phases.specs.Tally.{TallyView, expires, open_voters}
use Rattle.view_state.specs.Views.{views_at_work, gathering_ticks, install_again}
use Rattle.node_state.specs.declared.state.Core.{Core}
use Rattle.node_state.specs.State.{led_of, state_of, fits_at_end, frozen, led_groups, others}
use Rattle.node_state.specs.HandOn.{Answering}
use Rattle.node_state.specs.Leading.{with_tally}
use Rattle.node_state.specs.Applying.{own_parts, views_taken}
use Rattle.node_state.specs.Ticks.{ring_ask, tick_views, late_appended, announced, ticked_in, tally_ticks, sent_again, tick_group, tick_led}
use Rattle.entry_laws.proofs.closing_rows.Quiet.{at_fold}
use Rattle.entry_laws.proofs.closing_rows.Calms.{again_calm, calm_fold}
use Rattle.entry_laws.proofs.closing_rows.Works.{begun_stays, ticks_stay, install_again_stays}
use Rattle.entry_laws.proofs.source_order.Holding.{Turn}
use Rattle.entry_laws.proofs.source_order.At.{At, at_calm}
use Rattle.entry_laws.proofs.source_order.Leading.{at_tally, at_closes, at_appended_if}
use Rattle.entry_laws.proofs.source_order.Entering.{at_views_taken}

module _ (h : Turn) where
  abbrev Full : Core → Type 0
  Full s = At h ⊥ s

  pub at_views_part : h.sent ≡ [] → (f : Answering) (s : Core) → Full s → Full (tick_views f s)
  unfolding tick_views
  at_views_part none f s a =
      let t : Core = views_taken f s (gathering_ticks (views_at_work s.views) (ring_ask s) (own_parts s)) in
      at_views_taken h none f t (install_again (views_at_work t.views)) (install_again_stays t.views (views_at_work t.views) (begun_stays t.views)) (at_views_taken h none f s (gathering_ticks (views_at_work s.views) (ring_ask s) (own_parts s)) (ticks_stay s.views (views_at_work s.views) (ring_ask s) (own_parts s) (begun_stays s.views)) a)

  module _ (f : Answering) where
    at_late : (s : Core) (g : List ℕ) (t : TallyView) (o : Option Running) → Full s → Full (late_appended f s g t o)
    unfolding late_appended
    at_late s g t None a = a
    at_late s g t (Some run) a =
        at_appended_if h ⊥ f s g (Late run.proto run.phase (open_voters t)) (fits_at_end s g (Late run.proto run.phase (open_voters t))) tt a

    at_announced : (s : Core) (g : List ℕ) (t : TallyView) (b : Bool) → Full s → Full (announced f s g t b)
    unfolding announced
    at_announced s g t false a = a
    at_announced s g t true a = at_late s g t (state_of s g).running a

    at_tally_ticks : (s : Core) (g : List ℕ) (o : Option TallyView) → Full s → Full (tally_ticks f s g o)
    unfolding tally_ticks
    at_tally_ticks s g None a = a
    at_tally_ticks s g (Some t) a =
        let u : Core = announced f s g t (s.sessions.level == 2 && expires t) in
        at_closes h ⊥ f (with_tally u g (ticked_in (led_of u g).tally)) g (at_tally h ⊥ u g (ticked_in (led_of u g).tally) (at_announced s g t (s.sessions.level == 2 && expires t) a))

    at_group_ticks : (s : Core) (g : List ℕ) → Full s → Full (tick_group f s g)
    unfolding tick_group
    at_group_ticks s g a =
        let t : Core = tally_ticks f s g (led_of s g).tally in
        at_calm h ⊥ t (fold (sent_again g) t (others t)) (calm_fold (sent_again g) (λ c n. again_calm g c n) (others t) t) (at_tally_ticks s g (led_of s g).tally a)

  pub at_led_part : (f : Answering) (s : Core) → Full s → Full (tick_led f s)
  unfolding tick_led
  at_led_part f s a = by (frozen s)
    where
      by : (b : Bool) → Full (elim b as (λ _. Core) [ true ↦ s | false ↦ fold (tick_group f) s (led_groups s) ])
      by true = a
      by false = at_fold (At h ⊥) (tick_group f) (led_groups s) (λ c g i k. at_group_ticks f c g k) s a
