-- A list starts at a stable place: one that every member of the view has put.
use Rattle.std.proofs.Common.{◌≤◌, ◌≡◌, ◌≢◌, ℕ, List, length, Some, true, sym, ap, ◌∙◌, subst, inl, inr, arith}
use Rattle.rsct_packet.specs.declared.ids.Member.{Member}
use Rattle.rsct_packet.specs.Search.{Has}
use Rattle.node_state.specs.declared.config.Config.{Config}
use Rattle.node_state.specs.declared.state.Core.{Core}
use Rattle.node_state.specs.State.{row_of, acked_from, leader_in, leads_in, leads}
use Rattle.node_state.specs.Step.{at_work}
use Rattle.run_safety.specs.Past.{puts_of, records_of}
use Rattle.run_safety.specs.Group.{kept}
use Rattle.run_safety.specs.GroupLists as lists
use Rattle.run_safety.proofs.Lives.{always_stable}
use Rattle.step_refinement.specs.Ghost.{IsStable}
use Rattle.step_refinement.specs.Tied.{Scene, NodeIs, NodeIsIf, Rests, Tied, opening_of}
use Rattle.step_refinement.specs.Runs.{Reached}
use Rattle.step_refinement.proofs.RunLaw.{reached_rests}
use Rattle.step_refinement.proofs.Begins.{begin_tied}
use Rattle.step_refinement.proofs.Leads.{leads_known}
use Rattle.run_laws.specs.tails.Tails.{start_of, EveryTailIsHeld}
use Rattle.run_laws.proofs.seen_runs.Sights.{puts_same}

module _ (c : Config) (w : Scene) (k : Reached c w) (n : ℕ) (s : Core) (up : w.cores n ≡ Some s) (g : List ℕ) where
  rests : Rests g w
  rests = reached_rests c w k g

  here : NodeIs rests.ghost g n s
  here = (subst (NodeIsIf w.config rests.ghost g n (w.incs n)) up (rests.nodes n)).0

  put : (m : Member) → Has m s.views.members → start_of s g ≤ length (puts_of m.node s.views.view g (records_of w.before))
  put m i = by here.row_is.stable
    where
      by : IsStable rests.ghost s.views.view (start_of s g) → start_of s g ≤ length (puts_of m.node s.views.view g (records_of w.before))
      by (inl none) = omega arith
      by (inr sent) =
          let le : start_of s g ≤ length (lists.puts_of m.node s.views.view (kept (rests.ghost).all)) = always_stable (opening_of w.config) (rests.ghost).nodes (rests.ghost).ps (rests.ghost).all (rests.ghost).leads (rests.ghost).bases rests.life s.views.view (start_of s g) sent n s.views.inc s.views.members here.stands.seated m.node m.inc i in
          subst (λ l. start_of s g ≤ length l) (ap (λ l. lists.puts_of m.node s.views.view (kept l)) rests.lines ∙ puts_same m.node s.views.view g w.before) le

  tied : Tied g w n (at_work s)
  tied = begin_tied g w n s up rests

  acked : (m : Member) → leads s g ≡ true → Has m s.views.members → m.node ≢ s.views.me → start_of s g ≤ acked_from m.node (row_of s g).led.acked
  unfolding leads leads_in leader_in row_of
  acked m led i other = by (tied.own.0).row_is.stable
    where
      by : IsStable tied.ghost s.views.view (start_of s g) → start_of s g ≤ acked_from m.node (row_of s g).led.acked
      by (inl none) = omega arith
      by (inr sent) =
          (tied.own.0).row_is.covers s.views.inc (start_of s g) (leads_known g w n (at_work s) tied led) sent m.node m.inc i (λ e. other (e ∙ sym (tied.own.0).stands.me))

pub tails_held : EveryTailIsHeld
tails_held c w k n s up = record { put = λ g m i. put c w k n s up g m i; acked = λ g m led i other. acked c w k n s up g m led i other }
