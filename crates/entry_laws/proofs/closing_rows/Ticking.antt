-- A tick.
use Rattle.std.proofs.Common.{◌⊎◌, ℕ, List, Option, Some, None, Bool, true, false, refl, ap, inl, inr}
use Rattle.std.specs.Prelude.{◌==◌, ◌&&◌, fold}
use Rattle.rsct_packet.specs.declared.ids.ProviderId.{ProviderId}
use Rattle.proposal_core.specs.declared.entry.Entry.TheVariants.{Late}
use Rattle.proposal_core.specs.declared.group_state.Running.{Running}
use Rattle.proposal_core.specs.Fold.{apply}
use Rattle.proposal_core.specs.Lists.{state_in}
use Rattle.vote_phases.specs.Tally.{TallyView, expires, open_voters}
use Rattle.view_state.specs.Views.{views_at_work, gathering_ticks, install_again}
use Rattle.node_state.specs.declared.group.GroupRow.{GroupRow}
use Rattle.node_state.specs.declared.state.Core.{Core}
use Rattle.node_state.specs.State.{row_of, led_of, state_of, fits_at_end, frozen, led_groups, others, with_led}
use Rattle.node_state.specs.HandOn.{Answering}
use Rattle.node_state.specs.Leading.{append_if_fits, with_tally}
use Rattle.node_state.specs.Applying.{own_parts, views_taken}
use Rattle.node_state.specs.Ticks.{ring_ask, tick_views, late_appended, announced, ticked_in, tally_ticks, sent_again, tick_group, tick_led}
use Rattle.entry_laws.specs.closing_rows.Rows.{TallyFits}
use Rattle.entry_laws.proofs.closing_rows.At.{Frame, found, leads_row, RowIs, At, at_calm, at_row}
use Rattle.entry_laws.proofs.closing_rows.Calms.{again_calm, calm_fold}
use Rattle.entry_laws.proofs.closing_rows.Tallies.{ticked_fits}
use Rattle.entry_laws.proofs.closing_rows.Leading.{at_closes, at_announces}
use Rattle.entry_laws.proofs.closing_rows.Ending.{Every, NoGroup, at_led_groups}
use Rattle.entry_laws.proofs.closing_rows.Works.{begun_stays, ticks_stay, install_again_stays}
use Rattle.entry_laws.proofs.closing_rows.Entering.{entering, at_views_taken}

row_ticked : (led : Bool) (row : GroupRow) → RowIs led row → RowIs led (record row { led = record (row.led) { tally = ticked_in row.led.tally } })
row_ticked led row (inl e) = inl (ap ticked_in e)
row_ticked led row (inr k) = inr (k.0, by row.led.tally k.1)
  where
    by : (o : Option TallyView) → TallyFits o (state_in row.list) → TallyFits (ticked_in o) (state_in row.list)
    by None z = tt
    by (Some t) z = ticked_fits t (state_in row.list) z

module _ (h : Frame) where
  abbrev Full : Core → Type 0
  Full s = At h Every NoGroup s

  -- ---- what is led

  module _ (f : Answering) (G : List ℕ → Type 0) where
    late_leaves : (run : Running) (ps : List ProviderId) (b : Bool) (s : Core) (g : List ℕ) → G g → At h Every G s → At h Every G (append_if_fits f s g (Late run.proto run.phase ps) b)
    unfolding apply
    late_leaves run ps b s g led a = at_announces h Every G f s g (Late run.proto run.phase ps) (λ st. tt) (λ st v i. refl) b led a

    at_late : (s : Core) (g : List ℕ) (t : TallyView) (o : Option Running) → G g → At h Every G s → At h Every G (late_appended f s g t o)
    unfolding late_appended
    at_late s g t None led a = a
    at_late s g t (Some run) led a = late_leaves run (open_voters t) (fits_at_end s g (Late run.proto run.phase (open_voters t))) s g led a

    at_announced : (s : Core) (g : List ℕ) (t : TallyView) (b : Bool) → G g → At h Every G s → At h Every G (announced f s g t b)
    unfolding announced
    at_announced s g t false led a = a
    at_announced s g t true led a = at_late s g t (state_of s g).running led a

    at_ticked : (s : Core) (g : List ℕ) → At h Every G s → At h Every G (with_tally s g (ticked_in (led_of s g).tally))
    unfolding with_tally with_led led_of row_of
    at_ticked s g a =
        at_row h Every G s g (λ row. record row { led = record (row.led) { tally = ticked_in (found s g).led.tally } }) (λ x. refl) (λ x. refl) (λ x. refl) (λ x. refl) (λ x. refl) (λ x m. refl) (λ t. row_ticked (leads_row s (found s g)) (found s g) (a.rows.tallies g t)) a

    at_tally_ticks : (s : Core) (g : List ℕ) (o : Option TallyView) → G g → At h Every G s → At h Every G (tally_ticks f s g o)
    unfolding tally_ticks
    at_tally_ticks s g None led a = a
    at_tally_ticks s g (Some t) led a =
        let u : Core = announced f s g t (s.sessions.level == 2 && expires t) in
        at_closes h Every G f (with_tally u g (ticked_in (led_of u g).tally)) g tt led (at_ticked u g (at_announced s g t (s.sessions.level == 2 && expires t) led a))

    at_group_ticks : (s : Core) (g : List ℕ) → G g → At h Every G s → At h Every G (tick_group f s g)
    unfolding tick_group
    at_group_ticks s g led a =
        let t : Core = tally_ticks f s g (led_of s g).tally in
        at_calm h Every G t (fold (sent_again g) t (others t)) (calm_fold (sent_again g) (λ c n. again_calm g c n) (others t) t) (at_tally_ticks s g (led_of s g).tally led a)

  pub at_led_part : (f : Answering) (s : Core) → Full s → Full (tick_led f s)
  unfolding tick_led
  at_led_part f s a = by (frozen s)
    where
      by : (b : Bool) → Full (elim b as (λ _. Core) [ true ↦ s | false ↦ fold (tick_group f) s (led_groups s) ])
      by true = a
      by false = at_led_groups h (tick_group f) (λ G c g led k. at_group_ticks f G c g led k) s a

-- ---- views

module _ (h : Frame) where
  abbrev Parted : Core → Type 0
  Parted s = At (entering h) Every NoGroup s ⊎ At h Every NoGroup s

  -- a view may be entered as it is gathered, or as its install is taken again
  pub at_views_part : (f : Answering) (s : Core) → At h Every NoGroup s → Parted (tick_views f s)
  unfolding tick_views
  at_views_part f s a = by (at_views_taken h f s (gathering_ticks (views_at_work s.views) (ring_ask s) (own_parts s)) (ticks_stay s.views (views_at_work s.views) (ring_ask s) (own_parts s) (begun_stays s.views)) a)
    where
      t : Core
      t = views_taken f s (gathering_ticks (views_at_work s.views) (ring_ask s) (own_parts s))

      last : Core
      last = views_taken f t (install_again (views_at_work t.views))

      once : At (entering h) Every NoGroup last ⊎ At (entering h) Every NoGroup last → Parted last
      once (inl k) = inl k
      once (inr k) = inl k

      by : At (entering h) Every NoGroup t ⊎ At h Every NoGroup t → Parted last
      by (inl k) = once (at_views_taken (entering h) f t (install_again (views_at_work t.views)) (install_again_stays t.views (views_at_work t.views) (begun_stays t.views)) k)
      by (inr k) = at_views_taken h f t (install_again (views_at_work t.views)) (install_again_stays t.views (views_at_work t.views) (begun_stays t.views)) k
