-- The tick, part (5): what is led.
use Rattle.std.proofs.Common.{◌≡◌, ◌≢◌, ◌≤◌, ◌⊎◌, ℕ, zero, suc, ◌+◌, ◌-◌, List, [], ◌∷◌, take, drop, Option, Some, None, Bool, true, false, refl, sym, ap, ◌∙◌, subst, inl, inr, arith}
use Rattle.std.specs.Prelude.{◌==◌, ◌&&◌, not, filter, fold, map, slice_get}
use Rattle.std.proofs.lemmas.Bool.{eqb-true, eq-eqb}
use Rattle.rsct_packet.specs.declared.ids.Member.{Member}
use Rattle.rsct_packet.specs.Ids.{same_view}
use Rattle.rsct_packet.specs.Search.{Has}
use Rattle.rsct_packet.proofs.HasLaws.{has_filter, has_map}
use Rattle.proposal_core.specs.declared.entry.Entry.{Entry}
use Rattle.proposal_core.specs.declared.entry.Entry.TheVariants.{Late}
use Rattle.proposal_core.specs.declared.group_state.Running.{Running}
use Rattle.proposal_core.specs.GroupView.{GroupView}
use Rattle.proposal_core.specs.Lists.{list_or_new, len_in}
use Rattle.vote_phases.specs.Tally.{TallyView, expires, open_voters}
use Rattle.view_state.specs.declared.views.Views.{Views}
use Rattle.view_state.specs.Views.{is_frozen, others_of}
use Rattle.node_state.specs.declared.packet.Body.TheVariants as body
use Rattle.node_state.specs.declared.state.Core.{Core}
use Rattle.node_state.specs.State.{row_of, led_of, state_of, fits_at_end, frozen, leads, led_groups, others, acked_from, acked_by, least_acked}
use Rattle.node_state.specs.Sending.{sent, send_on}
use Rattle.node_state.specs.HandOn.{Answering}
use Rattle.node_state.specs.Leading.{append_if_fits, with_tally}
use Rattle.node_state.specs.Ticks.{late_appended, announced, ticked_in, tally_ticks, entries_sent, list_sent_again, sent_again, tick_group, tick_led}
use Rattle.run_safety.specs.Group.{member}
use Rattle.run_safety.specs.Group as group
use Rattle.step_refinement.specs.Ghost.{Ghost, KeepsIf, IsStable}
use Rattle.step_refinement.specs.Tied.{RowIs, Scene, Tied}
use Rattle.step_refinement.proofs.Works.{sent_kept, tied_sent}
use Rattle.node_state.proofs.NameOrder.{cases_text, led_are_led}
use Rattle.step_refinement.proofs.ViewRules.{same_of}
use Rattle.step_refinement.proofs.Leads.{leads_same, leads_known}
use Rattle.step_refinement.proofs.Acks.{settled, fold_least}
use Rattle.step_refinement.proofs.Fills.{dropped}
use Rattle.step_refinement.proofs.AllSent.{all_sent}
use Rattle.step_refinement.proofs.Appending.{may_carry_none, running_open, Leading, led_goes, appended_goes, closed_goes}

-- ---- parts of lists

get_taken : {A : Type 0} (n : ℕ) (xs : List A) (k : ℕ) (x : A) → slice_get (take n xs) k ≡ Some x → slice_get xs k ≡ Some x
get_taken zero xs k x e = absurd (cc)
get_taken (suc n) [] k x e = absurd (cc)
get_taken (suc n) (y ∷ xs) zero x e = e
get_taken (suc n) (y ∷ xs) (suc k) x e = get_taken n xs k x e

get_dropped : {A : Type 0} (n : ℕ) (xs : List A) (k : ℕ) (x : A) → slice_get (drop n xs) k ≡ Some x → slice_get xs (n + k) ≡ Some x
get_dropped zero xs k x e = let q : 0 + k ≡ k = omega arith in ap (slice_get xs) q ∙ e
get_dropped (suc n) [] k x e = absurd (cc)
get_dropped (suc n) (y ∷ xs) k x e =
    let q : suc n + k ≡ suc (n + k) = omega arith in ap (slice_get (y ∷ xs)) q ∙ get_dropped n xs k x e

-- ---- entries are sent again

module _ (g : List ℕ) (w : Scene) (n : ℕ) where
  -- of the group, which were sent
  entries_own : (to i stable : ℕ) (es : List Entry) (c : Core) (t : Tied g w n c) → IsStable t.ghost c.views.view stable → t.ghost.leads c.views.view ≡ Some (member c.views.me c.views.inc) → ((k : ℕ) (e : Entry) → slice_get es k ≡ Some e → Has (group.Append c.views.view (i + k) e) t.ghost.ps) → Tied g w n (entries_sent to g i stable es c)
  unfolding entries_sent sent send_on
  entries_own to i stable [] c t settled led all = t
  entries_own to i stable (e ∷ es) c t settled led all =
      let first : i + 0 ≡ i = omega arith in
      let u = sent_kept g w n c t to (body.Entry c.views.view g i stable e) (λ q. record { sent = subst (λ j. Has (group.Append c.views.view j e) t.ghost.ps) first (all 0 e refl); stable = settled; leads = led }) in
      entries_own to (i + 1) stable es (sent c to (body.Entry c.views.view g i stable e)) u.0 (subst (λ (x : Ghost). IsStable x c.views.view stable) (sym u.1) settled) (subst (λ (x : Ghost). x.leads c.views.view ≡ Some (member c.views.me c.views.inc)) (sym u.1) led) (λ k d q. let next : i + suc k ≡ (i + 1) + k = omega arith in
      subst (λ (x : Ghost). Has (group.Append c.views.view ((i + 1) + k) d) x.ps) (sym u.1) (subst (λ j. Has (group.Append c.views.view j d) t.ghost.ps) next (all (suc k) d q)))

  -- of another group
  entries_other : (h : List ℕ) → (h ≡ g → ⊥) → (to i stable : ℕ) (es : List Entry) (c : Core) → Tied g w n c → Tied g w n (entries_sent to h i stable es c)
  unfolding entries_sent
  entries_other h ne to i stable [] c t = t
  entries_other h ne to i stable (e ∷ es) c t =
      entries_other h ne to (i + 1) stable es (sent c to (body.Entry c.views.view h i stable e)) (tied_sent g w n c t to (body.Entry c.views.view h i stable e) (λ q. absurd (ne q)))

entries_same : (h : List ℕ) (to i stable : ℕ) (es : List Entry) (c : Core) → ((entries_sent to h i stable es c).groups ≡ c.groups) × ((entries_sent to h i stable es c).views ≡ c.views) × ((entries_sent to h i stable es c).config ≡ c.config)
unfolding entries_sent sent send_on
entries_same h to i stable [] c = (refl, refl, refl)
entries_same h to i stable (e ∷ es) c = entries_same h to (i + 1) stable es (sent c to (body.Entry c.views.view h i stable e))

again_same : (h : List ℕ) (m : ℕ) (c : Core) → ((sent_again h c m).groups ≡ c.groups) × ((sent_again h c m).views ≡ c.views) × ((sent_again h c m).config ≡ c.config)
unfolding sent_again list_sent_again
again_same h m c = by (row_of c h).list
  where
    by : (o : Option GroupView) → ((list_sent_again c h m (acked_by c (row_of c h) m) o).groups ≡ c.groups) × ((list_sent_again c h m (acked_by c (row_of c h) m) o).views ≡ c.views) × ((list_sent_again c h m (acked_by c (row_of c h) m) o).config ≡ c.config)
    by None = (refl, refl, refl)
    by (Some l) = entries_same h m (acked_by c (row_of c h) m) (least_acked c h) (take 16 (drop (acked_by c (row_of c h) m - l.start) l.entries)) c

module _ (g : List ℕ) (w : Scene) (n : ℕ) where
  -- the own group's list, to another member
  module _ (m j : ℕ) (c : Core) (t : Tied g w n c) (led : t.ghost.leads c.views.view ≡ Some (member n c.views.inc)) (among : Has (member m j) c.views.members) (apart : m ≢ n) (l : GroupView) (is : (row_of c g).list ≡ Some l) where
    first_is : acked_by c (row_of c g) m ≡ acked_from m (row_of c g).led.acked
    unfolding acked_by
    first_is = by (m == c.views.me) refl
      where
        by : (b : Bool) → (m == c.views.me) ≡ b → elim b as (λ _. ℕ) [ true ↦ len_in (row_of c g).list | false ↦ acked_from m (row_of c g).led.acked ] ≡ acked_from m (row_of c g).led.acked
        by true e = absurd (apart (eqb-true m c.views.me e ∙ t.own.0.stands.me))
        by false e = refl

    -- what all have is stable
    known : (t' : Tied g w n c) × IsStable t'.ghost c.views.view (least_acked c g) × (t'.ghost.leads c.views.view ≡ Some (member n c.views.inc))
    unfolding least_acked
    known =
        let k = settled g w n c t (least_acked c g) (λ a i. fold_least (λ (a : Member). acked_by c (row_of c g) a.node) c.views.members (len_in (row_of c g).list) a i) led in
        (k.0, k.1, ap (λ f. f c.views.view) k.2.leads ∙ led)

    module _ (u : Tied g w n c) (led_now : u.ghost.leads c.views.view ≡ Some (member n c.views.inc)) where
      full : List Entry
      full = (u.ghost.nodes n).list

      row : RowIs u.ghost n c.views.view c.views.members (row_of c g)
      row = u.own.0.row_is

      starts : l.start ≤ acked_by c (row_of c g) m
      starts =
          subst (λ z. l.start ≤ z) (sym first_is) (subst (λ o. (list_or_new o).start ≤ acked_from m (row_of c g).led.acked) is (by row.stable))
        where
          by : IsStable u.ghost c.views.view (list_or_new (row_of c g).list).start → (list_or_new (row_of c g).list).start ≤ acked_from m (row_of c g).led.acked
          by (inl z) = omega arith
          by (inr h) = row.covers c.views.inc (list_or_new (row_of c g).list).start led_now h m j among apart

      keeps : l.entries ≡ drop l.start (u.ghost.nodes n).list
      keeps = let k : KeepsIf u.ghost c.views.view (u.ghost.nodes n).list (Some l) = subst (KeepsIf u.ghost c.views.view (u.ghost.nodes n).list) is row.list in k.entries

      -- each of them was sent
      were_sent : (k : ℕ) (e : Entry) → slice_get (take 16 (drop (acked_by c (row_of c g) m - l.start) l.entries)) k ≡ Some e → Has (group.Append c.views.view (acked_by c (row_of c g) m + k) e) u.ghost.ps
      were_sent k e q =
          let a : ℕ = acked_by c (row_of c g) m in
          let b : slice_get (drop (a - l.start) l.entries) k ≡ Some e = get_taken 16 (drop (a - l.start) l.entries) k e q in
          let d : drop (a - l.start) l.entries ≡ drop a (u.ghost.nodes n).list = ap (drop (a - l.start)) keeps ∙ dropped l.start a (u.ghost.nodes n).list starts in
          let i : slice_get (u.ghost.nodes n).list (a + k) ≡ Some e = get_dropped a (u.ghost.nodes n).list k e (subst (λ z. slice_get z k ≡ Some e) d b) in
          subst (λ v. Has (group.Append v (a + k) e) u.ghost.ps) u.own.0.stands.view (all_sent u.life n (a + k) e i)

    own_again : Tied g w n (entries_sent m g (acked_by c (row_of c g) m) (least_acked c g) (take 16 (drop (acked_by c (row_of c g) m - l.start) l.entries)) c)
    own_again =
        entries_own g w n m (acked_by c (row_of c g) m) (least_acked c g) (take 16 (drop (acked_by c (row_of c g) m - l.start) l.entries)) c known.0 known.1 (known.2 ∙ ap (λ a. Some (member a c.views.inc)) (sym t.own.0.stands.me)) (were_sent known.0 known.2)

  again_tied : (h : List ℕ) (m j : ℕ) (c : Core) (t : Tied g w n c) → (h ≡ g → t.ghost.leads c.views.view ≡ Some (member n c.views.inc)) → Has (member m j) c.views.members → m ≢ n → Tied g w n (sent_again h c m)
  unfolding sent_again list_sent_again
  again_tied h m j c t led among apart = by (cases_text h g)
    where
      own : t.ghost.leads c.views.view ≡ Some (member n c.views.inc) → (o : Option GroupView) → (row_of c g).list ≡ o → Tied g w n (list_sent_again c g m (acked_by c (row_of c g) m) o)
      own l None e = t
      own l (Some v) e = own_again m j c t l among apart v e

      other : (h ≡ g → ⊥) → (o : Option GroupView) → Tied g w n (list_sent_again c h m (acked_by c (row_of c h) m) o)
      other ne None = t
      other ne (Some v) = entries_other g w n h ne m (acked_by c (row_of c h) m) (least_acked c h) (take 16 (drop (acked_by c (row_of c h) m - v.start) v.entries)) c t

      by : (h ≡ g) ⊎ (h ≡ g → ⊥) → Tied g w n (list_sent_again c h m (acked_by c (row_of c h) m) (row_of c h).list)
      by (inl e) = subst (λ z. Tied g w n (list_sent_again c z m (acked_by c (row_of c z) m) (row_of c z).list)) (sym e) (own (led e) (row_of c g).list refl)
      by (inr ne) = other ne (row_of c h).list

  module _ (s : Core) (f : Answering) (thawed : s.views.promise ≡ s.views.view) where
    again_goes : (h : List ℕ) → (h ≡ g → leads s h ≡ true) → (ms : List ℕ) (c : Core) → ((m : ℕ) → Has m ms → (m ≢ n) × ((j : ℕ) × Has (member m j) s.views.members)) → Leading g w n s c → Leading g w n s (fold (sent_again h) c ms)
    again_goes h led [] c all t = t
    again_goes h led (m ∷ ms) c all t =
        let k = all m (inl refl) in
        let same = again_same h m c in
        let among : Has (member m k.1.0) c.views.members = subst (λ (z : Views). Has (member m k.1.0) z.members) (sym t.same) k.1.1 in
        let u = again_tied h m k.1.0 c t.tied (λ e. leads_known g w n c t.tied (t.leads g ∙ subst (λ z. leads s z ≡ true) e (led e))) among k.0 in
        again_goes h led ms (sent_again h c m) (λ a i. all a (inr i)) (record { tied = u; same = same.1 ∙ t.same; leads = λ z. leads_same c (sent_again h c m) same.0 same.1 same.2 z ∙ t.leads z })

    -- who passes the limit is announced
    late_goes : (c : Core) (h : List ℕ) (t : TallyView) (o : Option Running) → (state_of c h).running ≡ o → (h ≡ g → leads s h ≡ true) → Leading g w n s c → Leading g w n s (late_appended f c h t o)
    unfolding late_appended append_if_fits
    late_goes c h t None runs led k = k
    late_goes c h t (Some run) runs led k = by (fits_at_end c h (Late run.proto run.phase (open_voters t))) refl
      where
        by : (b : Bool) → fits_at_end c h (Late run.proto run.phase (open_voters t)) ≡ b → Leading g w n s (append_if_fits f c h (Late run.proto run.phase (open_voters t)) b)
        by false q = k
        by true q =
            appended_goes g w n s f thawed c h (Late run.proto run.phase (open_voters t)) led q k (λ e. may_carry_none k.tied.ghost c.views.view (k.tied.ghost.nodes n).list (row_of c h).led (Late run.proto run.phase (open_voters t)) refl (running_open g w n s c h k led e (λ none. let z : Some run ≡ None = sym runs ∙ none in cc))) tt

    announced_goes : (c : Core) (h : List ℕ) (t : TallyView) (b : Bool) → (h ≡ g → leads s h ≡ true) → Leading g w n s c → Leading g w n s (announced f c h t b)
    unfolding announced
    announced_goes c h t false led k = k
    announced_goes c h t true led k = late_goes c h t (state_of c h).running refl led k

    tally_goes : (c : Core) (h : List ℕ) (o : Option TallyView) → (h ≡ g → leads s h ≡ true) → Leading g w n s c → Leading g w n s (tally_ticks f c h o)
    unfolding tally_ticks with_tally
    tally_goes c h None led k = k
    tally_goes c h (Some t) led k =
        let u : Core = announced f c h t (c.sessions.level == 2 && expires t) in
        closed_goes g w n s f thawed (with_tally u h (ticked_in (led_of u h).tally)) h led (led_goes g w n s u h (λ l. record l { tally = ticked_in (led_of u h).tally }) (λ l. (refl, refl, refl)) (announced_goes c h t (c.sessions.level == 2 && expires t) led k))

    group_goes : (h : List ℕ) → (h ≡ g → leads s h ≡ true) → (c : Core) → s.views.me ≡ n → Leading g w n s c → Leading g w n s (tick_group f c h)
    unfolding tick_group others others_of
    group_goes h led c me k =
        let t : Core = tally_ticks f c h (led_of c h).tally in
        let u = tally_goes c h (led_of c h).tally led k in
        again_goes h led (filter (λ m. not (m == t.views.me)) (map (λ (m : Member). m.node) t.views.members)) t (λ m i. other t u.same m i) u
      where
        other : (t : Core) → t.views ≡ s.views → (m : ℕ) → Has m (filter (λ m. not (m == t.views.me)) (map (λ (m : Member). m.node) t.views.members)) → (m ≢ n) × ((j : ℕ) × Has (member m j) s.views.members)
        other t same m i =
            let a = has_filter (λ m. not (m == t.views.me)) m (map (λ (m : Member). m.node) t.views.members) i in
            let b = has_map (λ (m : Member). m.node) m t.views.members a.0 in
            let mine : t.views.me ≡ n = ap (λ (z : Views). z.me) same ∙ me in
            (apart m t.views.me n mine a.1, ((b.0).inc, subst (λ (z : Member). Has z s.views.members) (λ q. member (sym b.2 q) (b.0).inc) (subst (λ (z : Views). Has b.0 z.members) same b.1)))
          where
            apart : (m a b : ℕ) → a ≡ b → not (m == a) ≡ true → m ≢ b
            apart m a b e q r = let z : (m == a) ≡ true = eq-eqb m a (r ∙ sym e) in
                let y : not true ≡ true = ap not (sym z) ∙ q in cc

    groups_go : (hs : List (List ℕ)) → ((h : List ℕ) → Has h hs → leads s h ≡ true) → (c : Core) → s.views.me ≡ n → Leading g w n s c → Leading g w n s (fold (tick_group f) c hs)
    groups_go [] all c me k = k
    groups_go (h ∷ hs) all c me k = groups_go hs (λ a i. all a (inr i)) (tick_group f c h) me (group_goes h (λ e. all h (inl refl)) c me k)

-- the tick, part (5)
pub led_part_tied : (g : List ℕ) (w : Scene) (n : ℕ) (f : Answering) (s : Core) → Tied g w n s → Tied g w n (tick_led f s)
unfolding tick_led frozen is_frozen
led_part_tied g w n f s t = by (same_view s.views.promise s.views.view) refl
  where
    by : (b : Bool) → same_view s.views.promise s.views.view ≡ b → Tied g w n (elim (not b) as (λ _. Core) [ true ↦ s | false ↦ fold (tick_group f) s (led_groups s) ])
    by false e = t
    by true e =
        (groups_go g w n s f (same_of s.views.promise s.views.view e) (led_groups s) (λ h i. led_are_led s h t.own.0.order i) s t.own.0.stands.me (record { tied = t; same = refl; leads = λ k. refl })).tied
