-- INSTALL: a member enters a view by an install that was sent.
use Rattle.std.proofs.Common.{◌≡◌, ℕ, List, [], Option, Some, None, Bool, true, false, refl, sym, subst, inl, inr, arith}
use Rattle.std.specs.Prelude.{◌&&◌, reverse}
use Rattle.std.proofs.lemmas.Bool.{and_parts}
use Rattle.std.proofs.lemmas.Bool.Decides.{nat_tests}
use Rattle.rsct_packet.specs.declared.ids.ViewId.{ViewId}
use Rattle.rsct_packet.specs.Ids.{same_view, is_member}
use Rattle.rsct_packet.specs.Search.{Has}
use Rattle.rsct_packet.proofs.HasLaws.{append_has_right}
use Rattle.view_state.specs.declared.install.Install.{Install}
use Rattle.view_state.specs.declared.install.Base.{Base}
use Rattle.view_state.specs.Bases.{bases_of, base_named}
use Rattle.view_state.specs.declared.packet.ViewPacket.TheVariants as view
use Rattle.view_state.specs.Views.{view_sent, installed, install_rule, views_at_work}
use Rattle.node_state.specs.declared.packet.Body.TheVariants as body
use Rattle.node_state.specs.declared.packet.Packet.{Packet}
use Rattle.node_state.specs.declared.state.Core.{Core}
use Rattle.node_state.specs.Settings.{is_fixed}
use Rattle.node_state.specs.State.{held_rows}
use Rattle.node_state.specs.HandOn.{Answering}
use Rattle.node_state.specs.Applying.{Lacking, lacking, fill_lists, view_entered, sides_dissolved, entering_noted, taken_sent, owed_sent, entered, entered_if, apply_install, views_taken}
use Rattle.node_state.specs.Step.{view_rule, take_body}
use Rattle.run_safety.specs.ViewOrder.{Lt, Le}
use Rattle.run_safety.specs.Sight.{lines_with, lines_of}
use Rattle.run_safety.specs.Group.{member, Standing, kept}
use Rattle.run_safety.specs.Group as group
use Rattle.run_safety.specs.Moves.{Quiet, Enters}
use Rattle.run_safety.proofs.Parts.{Entered}
use Rattle.run_safety.proofs.Whole.{Whole}
use Rattle.run_safety.proofs.Lives.{whole}
use Rattle.step_refinement.specs.Ghost.{BaseIsOf, Installs}
use Rattle.step_refinement.specs.Tied.{ShowsBody, Scene, opening_of, lines_now, Tied}
use Rattle.step_refinement.specs.Rules.{at_node}
use Rattle.step_refinement.proofs.Goes.{shows_on, installs_on}
use Rattle.step_refinement.proofs.Changed.{changes}
use Rattle.step_refinement.proofs.Works.{tied_sent, asked_free}
use Rattle.step_refinement.proofs.ViewRules.{same_of, before_of}
use Rattle.step_refinement.proofs.Acks.{has_member}
use Rattle.step_refinement.proofs.Arrived.{arrived_tied}
use Rattle.step_refinement.proofs.LedGroups.{groups_led_tied}
use Rattle.step_refinement.proofs.Entering.{Move, enters_arrived}

module _ (g : List ℕ) (w : Scene) (n : ℕ) (s : Core) (t : Tied g w n s) (i : Install) (shows : Installs t.ghost g i) (quiet : Quiet (kept t.ghost.all)) (promised : s.views.promise ≡ i.view) (lt : Lt s.views.view i.view) (among : Has (member n s.views.inc) i.members) where
  whole_life : Whole (opening_of w.config) t.ghost.nodes t.ghost.ps t.ghost.all t.ghost.leads t.ghost.bases
  whole_life = whole t.life

  -- it is not the coordinator, which has entered already
  apart : i.view.coord ≡ n → i.view.inc ≡ s.views.inc → ⊥
  apart a b = at (subst (λ m. Entered (t.ghost.nodes m) i.view.inc i.view) a (whole_life.good.inv.packet (group.Install i.view i.members shows.whole) shows.sent).used)
    where
      inc : (t.ghost.nodes n).inc ≡ s.views.inc
      inc = t.own.0.stands.inc

      before : Lt (t.ghost.nodes n).view i.view
      before = subst (λ z. Lt z i.view) (sym t.own.0.stands.view) lt

      at : Entered (t.ghost.nodes n) i.view.inc i.view → ⊥
      at (inl l) = omega arith
      at (inr l) = let z : Le i.view (t.ghost.nodes n).view = l.1 in let d = before in absurd (cc)

  same_base : (o : Option Base) → BaseIsOf t.ghost i.view i.members o → BaseIsOf (record (t.ghost) { leads = t.ghost.leads; bases = t.ghost.bases }) i.view i.members o
  same_base None h = h
  same_base (Some b) h = h

  abbrev was : Standing
  was =
      record { inc = s.views.inc; view = s.views.view; promise = s.views.promise; list = (t.ghost.nodes n).list }

  was_is : t.ghost.nodes n ≡ was
  was_is = λ j. record { inc = t.own.0.stands.inc j; view = t.own.0.stands.view j; promise = t.own.0.stands.promise j; list = (t.ghost.nodes n).list }

  pub member_moves : Move t.ghost (opening_of w.config) g n s.views.inc s.views.view i
  member_moves =
      record {
        whole = shows.whole;
        ps = t.ghost.ps;
        leads = t.ghost.leads;
        bases = t.ghost.bases;
        life = Enters t.ghost.nodes (at_node t.ghost.nodes n (record { inc = s.views.inc; view = i.view; promise = i.view; list = [] })) t.ghost.ps t.ghost.all t.ghost.leads t.ghost.bases n was i.view i.members shows.whole t.life was_is quiet t.own.0.stands.up promised lt among shows.sent (changes t.ghost.nodes n (record { inc = s.views.inc; view = i.view; promise = i.view; list = [] }));
        sent = shows.sent;
        more = λ p h. h;
        refusals = λ v p r h. h;
        stables = λ v k h. h;
        requests = λ v p r a h. h;
        leads_on = λ v l e. e;
        leads_same = λ v h. refl;
        bases_same = λ v h. refl;
        rest = shows.rest;
        parts = shows.parts;
        differ = shows.names;
        base = same_base (base_named (bases_of i) g) shows.base;
        names = λ fixed. record { named = λ m a b d e. absurd (apart a b); unnamed = λ a b d e. absurd (apart a b); full = λ a b d e. absurd (apart a b) };
        unrefused = λ q p r h. t.own.0.decides.later i.view lt q p r h;
      }

-- no node put anything since the event began
quiet_now : (g : List ℕ) (w : Scene) (s : Core) → s.records ≡ [] → Quiet (kept (lines_now g w s))
quiet_now g w s none =
    subst (λ rs. Quiet (kept (lines_with g (reverse rs) w.before (lines_of g w.before)))) (sym none) (record { at = λ m u. refl })

-- an install that is applied
enters_row : (i : Install) (xs : List Lacking) (g : List ℕ) (w : Scene) (n : ℕ) (f : Answering) (s : Core) (p : Packet) → p.body ≡ body.View (view.Install i) → Has p w.sent → s.records ≡ [] → same_view s.views.view i.view ≡ false → (same_view s.views.promise i.view && is_member i.members s.views.me s.views.inc) ≡ true → lacking s i ≡ Some xs → Tied g w n s → Tied g w n (entered f s i xs)
unfolding entered entered_if
enters_row i xs g w n f s p is delivered none other may lacks t =
    let k = arrived_tied g w n (view_entered (fill_lists f s xs) i (bases_of i)) (held_rows (fill_lists f s xs)) (fill_lists f s xs).views.view (bases_of i) (enters_arrived g w n f s (record { ghost = t.ghost; life = t.life; lines = t.lines; own = t.own; others = t.others; sound = t.sound; placed = t.placed; nobody = t.nobody; turns = t.turns }) free i xs (member_moves g w n s t i shown (subst (λ l. Quiet (kept l)) (sym t.lines) (quiet_now g w s none)) promised lt among) (λ y a. installs_on t.ghost y a.goes g i shown) (λ y a q h. shows_on t.ghost y a.goes g q (t.packets q h)) lt among lacks) in
    groups_led_tied g w n (owed_sent (taken_sent (entering_noted (sides_dissolved (view_entered (fill_lists f s xs) i (bases_of i)) (held_rows (fill_lists f s xs)) (fill_lists f s xs).views.view (bases_of i)) (bases_of i)))) f k.1 k.0
  where
    shown : Installs t.ghost g i
    shown = subst (ShowsBody t.ghost g p.from p.inc p.to) is (t.packets p (append_has_right p s.sends w.sent delivered))

    parts : (same_view s.views.promise i.view ≡ true) × (is_member i.members s.views.me s.views.inc ≡ true)
    parts = and_parts (same_view s.views.promise i.view) (is_member i.members s.views.me s.views.inc) may

    free : is_fixed w.config.mode ≡ false
    free = asked_free g w n s t shown.asks

    promised : s.views.promise ≡ i.view
    promised = same_of s.views.promise i.view parts.0

    below : Le s.views.view s.views.promise
    below =
        let k : Whole (opening_of w.config) t.ghost.nodes t.ghost.ps t.ghost.all t.ghost.leads t.ghost.bases = whole t.life in
        subst (λ (z : ViewId × ViewId). Le z.0 z.1) (λ j. (t.own.0.stands.view j, t.own.0.stands.promise j)) (k.good.inv.node n).below

    lt : Lt s.views.view i.view
    lt = before_of s.views.view i.view (subst (Le s.views.view) promised below) (λ (e : i.view ≡ s.views.view). not_same e)
      where
        same_self : (v : ViewId) → same_view v v ≡ false → ⊥
        same_self v e = grind (arith, nat_tests)

        not_same : i.view ≡ s.views.view → ⊥
        not_same e = let z : same_view s.views.view s.views.view ≡ false = subst (λ v. same_view s.views.view v ≡ false) e other in same_self s.views.view z

    among : Has (member n s.views.inc) i.members
    among = subst (λ m. Has (member m s.views.inc) i.members) t.own.0.stands.me (has_member i.members s.views.me s.views.inc parts.1)

-- INSTALL
pub install_rule_tied : (i : Install) (g : List ℕ) (w : Scene) (n : ℕ) (f : Answering) (s : Core) (p : Packet) → p.body ≡ body.View (view.Install i) → Has p w.sent → s.records ≡ [] → Tied g w n s → Tied g w n (take_body f s p (body.View (view.Install i)))
unfolding take_body view_rule views_taken apply_install entered_if install_rule installed view_sent
install_rule_tied i g w n f s p is delivered none t =
    by (same_view s.views.view i.view) (same_view s.views.promise i.view && is_member i.members s.views.me s.views.inc) refl refl
  where
    lists : (o : Option (List Lacking)) → same_view s.views.view i.view ≡ false → (same_view s.views.promise i.view && is_member i.members s.views.me s.views.inc) ≡ true → lacking s i ≡ o → Tied g w n (entered_if f s i o)
    lists None b c q = t
    lists (Some xs) b c q = enters_row i xs g w n f s p is delivered none b c q t

    by : (b c : Bool) → same_view s.views.view i.view ≡ b → (same_view s.views.promise i.view && is_member i.members s.views.me s.views.inc) ≡ c → Tied g w n (views_taken f s (installed (views_at_work s.views) i b c))
    by true c a d = tied_sent g w n s t i.view.coord (body.View (view.Taken i.view)) tt
    by false false a d = t
    by false true a d = lists (lacking s i) a d refl
