-- Who leads a group, as a node knows it.
use Rattle.std.proofs.Common.{◌≡◌, ◌⊎◌, ℕ, List, Option, Some, None, Bool, true, refl, ap, ◌∙◌, subst, inl, inr}
use Rattle.std.specs.Prelude.{not, find}
use Rattle.std.proofs.lemmas.Bool.{eqb-true}
use Rattle.node_state.specs.declared.config.Mode.{Mode}
use Rattle.node_state.specs.declared.config.Mode.TheVariants.{Fixed, Asked, Rings}
use Rattle.node_state.specs.declared.group.GroupRow.{GroupRow}
use Rattle.node_state.specs.declared.group.Led.{Led}
use Rattle.node_state.specs.declared.state.Core.{Core}
use Rattle.node_state.specs.Settings.{is_fixed}
use Rattle.node_state.specs.State.{InNameOrder, row_found, row_of, with_row, with_led, is_this, leader_by, leader_in, leader_of, leads_in, leads, has_name}
use Rattle.run_safety.specs.Group.{member}
use Rattle.run_safety.proofs.Whole.{Whole}
use Rattle.run_safety.proofs.Lives.{whole}
use Rattle.step_refinement.specs.Tied.{ShowsLeader, KnowsLeader, Scene, opening_of, Tied}
use Rattle.node_state.proofs.NameOrder.{KeepsName, cases_text, row_here, row_there}

-- who is known to lead leads: in mode fixed the coordinator
pub known_leads : (g : List ℕ) (w : Scene) (n : ℕ) (s : Core) (t : Tied g w n s) (m : ℕ) → leader_of s g ≡ Some m → ShowsLeader t.ghost s.views.view m
unfolding leader_of leader_in
known_leads g w n s t m q = by s.config.mode (row_of s g).leader q t.own.0.led t.own.0.row_is.leader
  where
    one : (k : ℕ) → Some k ≡ Some m → ShowsLeader t.ghost s.views.view k → ShowsLeader t.ghost s.views.view m
    one k q h = let e : k ≡ m = cc in subst (ShowsLeader t.ghost s.views.view) e h

    known : (o : Option ℕ) → o ≡ Some m → KnowsLeader t.ghost s.views.view s.views.members o → ShowsLeader t.ghost s.views.view m
    known None q k = absurd (cc)
    known (Some j) q k = one j q (record { inc = k.0; leads = k.2 })

    by : (mode : Mode) (o : Option ℕ) → leader_by mode s.views.view.coord o ≡ Some m → (is_fixed mode ≡ true → ShowsLeader t.ghost s.views.view s.views.view.coord) → KnowsLeader t.ghost s.views.view s.views.members o → ShowsLeader t.ghost s.views.view m
    by Fixed o q led k = one s.views.view.coord q (led refl)
    by Asked o q led k = known o q k
    by Rings o q led k = known o q k

-- where a leader is not known, views are asked for
pub unknown_asks : (g : List ℕ) (w : Scene) (n : ℕ) (s : Core) (t : Tied g w n s) (h : List ℕ) → leader_of s h ≡ None → t.ghost.asks ≡ true
unfolding leader_of leader_in
unknown_asks g w n s t h q = by s.config.mode (row_of s h).leader q t.own.0.asks
  where
    by : (mode : Mode) (o : Option ℕ) → leader_by mode s.views.view.coord o ≡ None → t.ghost.asks ≡ not (is_fixed mode) → t.ghost.asks ≡ true
    by Fixed o q e = absurd (cc)
    by Asked o q e = e
    by Rings o q e = e

-- it leads what it led
abbrev pub LeadsAs : Core → Core → Type 0
LeadsAs c d = (k : List ℕ) → leads d k ≡ leads c k

pub leads_same : (c d : Core) → d.groups ≡ c.groups → d.views ≡ c.views → d.config ≡ c.config → LeadsAs c d
unfolding leads leads_in leader_in row_of
leads_same c d rows views config k =
    λ i. is_this (views i).me (leader_by (config i).mode (views i).view.coord (row_found k (find (has_name k) (rows i))).leader)

pub leads_row : (c : Core) (h : List ℕ) (f : GroupRow → GroupRow) → KeepsName f → ((x : GroupRow) → (f x).leader ≡ x.leader) → InNameOrder c.groups → LeadsAs c (with_row c h f)
unfolding leads leads_in leader_in with_row
leads_row c h f keeps leader order k = by (cases_text h k)
  where
    abbrev_leads : GroupRow → Bool
    abbrev_leads row = is_this c.views.me (leader_by c.config.mode c.views.view.coord row.leader)

    own : abbrev_leads (row_of (with_row c h f) h) ≡ abbrev_leads (row_of c h)
    own =
        ap abbrev_leads (row_here h f keeps c order) ∙ ap (λ o. is_this c.views.me (leader_by c.config.mode c.views.view.coord o)) (leader (row_of c h))

    by : (h ≡ k) ⊎ (h ≡ k → ⊥) → leads_in (with_row c h f) (row_of (with_row c h f) k) ≡ leads_in c (row_of c k)
    by (inl e) = subst (λ z. leads_in (with_row c h f) (row_of (with_row c h f) z) ≡ leads_in c (row_of c z)) e (same (row_of (with_row c h f) h) ∙ own)
      where
        same : (row : GroupRow) → leads_in (with_row c h f) row ≡ abbrev_leads row
        same row = refl
    by (inr ne) = ap abbrev_leads (row_there h f keeps c k ne)

-- what a leader keeps changes
pub leads_led : (c : Core) (h : List ℕ) (f : Led → Led) → InNameOrder c.groups → LeadsAs c (with_led c h f)
unfolding with_led
leads_led c h f order = leads_row c h (λ row. record row { led = f row.led }) (λ x. refl) (λ x. refl) order

-- who leads is the node that is up, in its incarnation
pub leader_inc : (g : List ℕ) (w : Scene) (n : ℕ) (c : Core) (t : Tied g w n c) → ShowsLeader t.ghost c.views.view n → t.ghost.leads c.views.view ≡ Some (member n c.views.inc)
leader_inc g w n c t k =
    let h = t.own.0.stands in
    let o : Whole (opening_of w.config) t.ghost.nodes t.ghost.ps t.ghost.all t.ghost.leads t.ghost.bases = whole t.life in
    let inc : k.inc ≡ c.views.inc = (o.good.inv.node n).mine k.inc (ap t.ghost.leads h.view ∙ k.leads) ∙ h.inc in
    k.leads ∙ ap (λ j. Some (member n j)) inc

-- a group that the node leads it leads as a member
pub leads_known : (g : List ℕ) (w : Scene) (n : ℕ) (c : Core) (t : Tied g w n c) → leads c g ≡ true → t.ghost.leads c.views.view ≡ Some (member n c.views.inc)
unfolding leads leads_in leader_of
leads_known g w n c t l = leader_inc g w n c t (by (leader_in c (row_of c g)) refl l)
  where
    by : (o : Option ℕ) → leader_in c (row_of c g) ≡ o → is_this c.views.me o ≡ true → ShowsLeader t.ghost c.views.view n
    by None q a = absurd (cc)
    by (Some m) q a = subst (ShowsLeader t.ghost c.views.view) (eqb-true m c.views.me a ∙ t.own.0.stands.me) (known_leads g w n c t m q)
