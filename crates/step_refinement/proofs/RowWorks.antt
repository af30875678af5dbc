-- What changes of a row make of the tie.
use Rattle.std.proofs.Common.{◌≡◌, ◌≤◌, ◌⊎◌, ℕ, ◌+◌, ◌-◌, max, List, ◌++◌, length, drop, Option, Some, None, Bool, true, false, refl, sym, ap, ◌∙◌, subst, inl, inr, ⊎_elim, arith}
use Rattle.std.specs.Prelude.{nat_le, if◌then◌else◌}
use Rattle.std.proofs.lemmas.List.{drop-drop}
use Rattle.std.proofs.lemmas.Grind.{common_steps}
use Rattle.std.proofs.lemmas.Bool.Decides.{nat_tests}
use Rattle.rsct_packet.specs.declared.ids.ViewId.{ViewId}
use Rattle.rsct_packet.specs.declared.ids.ProviderId.{ProviderId}
use Rattle.rsct_packet.specs.Providers.{among}
use Rattle.rsct_packet.specs.Search.{Has}
use Rattle.proposal_core.specs.declared.entry.Entry.{Entry}
use Rattle.proposal_core.specs.GroupView.{GroupView, new_list}
use Rattle.proposal_core.specs.Lists.{list_or_new, forgotten}
use Rattle.view_state.specs.Cut.{all_fit}
use Rattle.view_bases.proofs.CutLaws.{fit_ends}
use Rattle.node_state.specs.declared.packet.Body.TheVariants as body
use Rattle.node_state.specs.declared.packet.Packet.{Packet}
use Rattle.node_state.specs.declared.group.GroupRow.{GroupRow}
use Rattle.node_state.specs.declared.state.Core.{Core}
use Rattle.node_state.specs.Settings.{is_fixed}
use Rattle.node_state.specs.State.{InNameOrder, row_of, with_row, list_of, len_of, list_forgotten, forget_below, set_leader}
use Rattle.node_state.specs.Sending.{sent, send_on, packet_on, network_to}
use Rattle.run_safety.specs.Group as group
use Rattle.run_safety.specs.Bases.{base_state, state_of_list}
use Rattle.run_safety.specs.Moves.{Acknowledges}
use Rattle.step_refinement.specs.Ghost.{asking, Ghost, Goes, Keeps, KeepsIf, bytes_of, IsStable}
use Rattle.step_refinement.specs.Tied.{Waiting, Shows, KnowsLeader, RowIs, LeaderKeeps, NodeIs, Scene, Tied}
use Rattle.step_refinement.proofs.Goes.{Spares, sound_on, shows_on, node_on}
use Rattle.step_refinement.proofs.Idle.{Holds, Calm, Lightens, calm_of, calm_lighter, idles_with, leader_lightens, forgets_lighten}
use Rattle.step_refinement.proofs.Changed.{has_pushed}
use Rattle.step_refinement.proofs.Works.{tied_on}
use Rattle.node_state.proofs.NameOrder.{KeepsName, cases_text, row_here, row_there, rows_ordered}
use Rattle.step_refinement.proofs.Gone.{with_packet, packet_goes, packet_still, packet_spares}
use Rattle.step_refinement.proofs.Turns.{packet_turns}

-- a list that shows a whole one, whether it is held or not
pub keeps_of : (x : Ghost) (v : ViewId) (full : List Entry) (l : Option GroupView) → KeepsIf x v full l → Keeps x v full (list_or_new l)
keeps_of x v full None h =
    record {
      starts = omega arith;
      len = sym (ap length h.0);
      entries = sym (ap (drop 0) h.0);
      state = λ i. state_of_list (λ u. sym h.1 i) v (sym h.0 i);
      bytes = sym (ap bytes_of h.0);
      fits = ap (all_fit v (new_list (base_state (x.bases v)))) h.0 ∙ fit_ends v (new_list (base_state (x.bases v)));
    }
keeps_of x v full (Some l) h = h

-- forgetting a front leaves what it shows
pub forgotten_keeps : (x : Ghost) (v : ViewId) (full : List Entry) (l : GroupView) (k : ℕ) → Keeps x v full l → Keeps x v full (forgotten l k)
unfolding forgotten
forgotten_keeps x v full l k h = by (nat_le k l.len) refl
  where
    by : (b : Bool) → nat_le k l.len ≡ b → Keeps x v full (if b then record l { start = max l.start k; entries = drop (k - l.start) l.entries } else l)
    by false e = h
    by true e =
        let le : k ≤ l.len = grind (arith, nat_tests) in
        record {
          starts = let a = h.starts in let b = h.len in omega arith;
          len = h.len;
          entries = ap (drop (k - l.start)) h.entries ∙ dropped l.start k full;
          state = h.state;
          bytes = h.bytes;
          fits = h.fits;
        }
      where
        dropped : (a k : ℕ) (xs : List Entry) → drop (k - a) (drop a xs) ≡ drop (max a k) xs
        dropped a k xs = let q : a + (k - a) ≡ max a k = omega arith in grind (arith, common_steps, drop-drop)

pub max_one : (a k : ℕ) → (max a k ≡ a) ⊎ (max a k ≡ k)
max_one a k = grind arith

pub forgotten_stable : (x : Ghost) (v : ViewId) (l : GroupView) (k : ℕ) → IsStable x v k → IsStable x v l.start → IsStable x v (forgotten l k).start
unfolding forgotten
forgotten_stable x v l k new old = by (nat_le k l.len)
  where
    by : (b : Bool) → IsStable x v (if b then record l { start = max l.start k; entries = drop (k - l.start) l.entries } else l).start
    by false = old
    by true = ⊎_elim (λ (e : max l.start k ≡ l.start). subst (IsStable x v) (sym e) old) (λ (e : max l.start k ≡ k). subst (IsStable x v) (sym e) new) (max_one l.start k)

-- joins that wait in a row that changes were asked in its group
pub waits_with : (x : Ghost) (s : Core) (h : List ℕ) (f : GroupRow → GroupRow) → KeepsName f → InNameOrder s.groups → Waiting x s.groups → ((p : ProviderId) → among (f (row_of s h)).led.waiting.joins p ≡ true → Has (asking p p.join h) x.asked) → Waiting x (with_row s h f).groups
unfolding row_of with_row
waits_with x s h f keeps order old new k p e = by (cases_text h k)
  where
    by : (h ≡ k) ⊎ (h ≡ k → ⊥) → Has (asking p p.join k) x.asked
    by (inl q) =
        let P : List ℕ → Type 0 = λ z. among (row_of (with_row s h f) z).led.waiting.joins p ≡ true in
        let e' : among (row_of (with_row s h f) h).led.waiting.joins p ≡ true = subst P (sym q) e in
        subst (λ z. Has (asking p p.join z) x.asked) q (new p (subst (λ (row : GroupRow). among row.led.waiting.joins p ≡ true) (row_here h f keeps s order) e'))
    by (inr ne) = old k p (subst (λ (row : GroupRow). among row.led.waiting.joins p ≡ true) (row_there h f keeps s k ne) e)

module _ (g : List ℕ) (w : Scene) (n : ℕ) (s : Core) (t : Tied g w n s) where
  -- a row changes
  pub row_calm : (h : List ℕ) (f : GroupRow → GroupRow) → KeepsName f → Holds f → (h ≡ g → Calm t.ghost n s.views.inc s.views.view (is_fixed s.config.mode) (f (row_of s h))) → ((p : ProviderId) → among (f (row_of s h)).led.waiting.joins p ≡ true → Has (asking p p.join h) t.ghost.asked) → (h ≡ g → RowIs t.ghost n s.views.view s.views.members (f (row_of s h)) × LeaderKeeps t.ghost n s.views.inc s.views.view (f (row_of s h)).led) → (u : Tied g w n (with_row s h f)) × (u.ghost ≡ t.ghost)
  unfolding with_row
  row_calm h f keeps holds calm waits new = (
    record {
      ghost = t.ghost;
      life = t.life;
      lines = t.lines;
      own = (own (cases_text h g), t.own.1, t.own.2);
      others = t.others;
      packets = t.packets;
      sound = t.sound;
      placed = t.placed;
      nobody = t.nobody;
      turns = t.turns;
    },
    refl,
  )
    where
      k : NodeIs t.ghost g n s
      k = t.own.0

      row : (h ≡ g) ⊎ (h ≡ g → ⊥) → RowIs t.ghost n s.views.view s.views.members (row_of (with_row s h f) g) × LeaderKeeps t.ghost n s.views.inc s.views.view (row_of (with_row s h f) g).led
      row (inl e) =
          let P : List ℕ → Type 0 = λ z. RowIs t.ghost n s.views.view s.views.members (row_of (with_row s h f) z) × LeaderKeeps t.ghost n s.views.inc s.views.view (row_of (with_row s h f) z).led in
          let Q : GroupRow → Type 0 = λ z. RowIs t.ghost n s.views.view s.views.members z × LeaderKeeps t.ghost n s.views.inc s.views.view z.led in
          subst P e (subst Q (sym (row_here h f keeps s k.order)) (new e))
      row (inr ne) =
          let Q : GroupRow → Type 0 = λ z. RowIs t.ghost n s.views.view s.views.members z × LeaderKeeps t.ghost n s.views.inc s.views.view z.led in
          subst Q (sym (row_there h f keeps s g ne)) (k.row_is, k.decides)

      own : (h ≡ g) ⊎ (h ≡ g → ⊥) → NodeIs t.ghost g n (with_row s h f)
      own c =
          record {
            stands = k.stands;
            row_is = (row c).0;
            order = rows_ordered h f keeps s k.order;
            gathering = k.gathering;
            install = k.install;
            owes = k.owes;
            decides = (row c).1;
            names = k.names;
            asks = k.asks;
            led = k.led;
            waits = waits_with t.ghost s h f keeps k.order k.waits waits;
            idles = idles_with t.ghost n s.views.inc s.views.view (is_fixed s.config.mode) s h g f keeps holds k.order calm k.idles;
          }

  -- no list is begun, and no join comes to wait
  pub row_kept : (h : List ℕ) (f : GroupRow → GroupRow) → KeepsName f → Lightens f → ((p : ProviderId) → among (f (row_of s h)).led.waiting.joins p ≡ true → Has (asking p p.join h) t.ghost.asked) → (h ≡ g → RowIs t.ghost n s.views.view s.views.members (f (row_of s h)) × LeaderKeeps t.ghost n s.views.inc s.views.view (f (row_of s h)).led) → (u : Tied g w n (with_row s h f)) × (u.ghost ≡ t.ghost)
  row_kept h f keeps light waits new =
      row_calm h f keeps light.held (λ e. calm_lighter t.ghost n s.views.inc s.views.view (is_fixed s.config.mode) (row_of s h) f light (subst (λ z. Calm t.ghost n s.views.inc s.views.view (is_fixed s.config.mode) (row_of s z)) (sym e) (calm_of t.ghost n s.views.inc s.views.view (is_fixed s.config.mode) (row_of s g) s.groups t.own.0.idles))) waits new

  pub tied_row : (h : List ℕ) (f : GroupRow → GroupRow) → KeepsName f → Lightens f → ((p : ProviderId) → among (f (row_of s h)).led.waiting.joins p ≡ true → Has (asking p p.join h) t.ghost.asked) → (h ≡ g → RowIs t.ghost n s.views.view s.views.members (f (row_of s h)) × LeaderKeeps t.ghost n s.views.inc s.views.view (f (row_of s h)).led) → Tied g w n (with_row s h f)
  tied_row h f keeps light waits new = (row_kept h f keeps light waits new).0

  pub waits_of : (h : List ℕ) (p : ProviderId) → among (row_of s h).led.waiting.joins p ≡ true → Has (asking p p.join h) t.ghost.asked
  unfolding row_of
  waits_of h p e = t.own.0.waits h p e

  -- what is stable is forgotten
  pub tied_forgets : (h : List ℕ) (m : ℕ) → (h ≡ g → IsStable t.ghost s.views.view m) → Tied g w n (forget_below s h m)
  unfolding forget_below
  tied_forgets h m stable = tied_row h (λ row. record row { list = list_forgotten m row.list }) (λ x. refl) (forgets_lighten m) (waits_of h) new
    where
      new : h ≡ g → RowIs t.ghost n s.views.view s.views.members (record (row_of s h) { list = list_forgotten m (row_of s h).list }) × LeaderKeeps t.ghost n s.views.inc s.views.view (row_of s h).led
      new e =
          let P : List ℕ → Type 0 = λ z. RowIs t.ghost n s.views.view s.views.members (record (row_of s z) { list = list_forgotten m (row_of s z).list }) × LeaderKeeps t.ghost n s.views.inc s.views.view (row_of s z).led in
          subst P (sym e) (
            record {
              list = keeps (row_of s g).list t.own.0.row_is.list;
              stable = start (row_of s g).list (stable e) t.own.0.row_is.stable;
              leader = t.own.0.row_is.leader;
              acked = t.own.0.row_is.acked;
              covers = t.own.0.row_is.covers;
            },
            t.own.0.decides,
          )
        where
          keeps : (l : Option GroupView) → KeepsIf t.ghost s.views.view (t.ghost.nodes n).list l → KeepsIf t.ghost s.views.view (t.ghost.nodes n).list (list_forgotten m l)
          keeps None k = k
          keeps (Some l) k = forgotten_keeps t.ghost s.views.view (t.ghost.nodes n).list l m k

          start : (l : Option GroupView) → IsStable t.ghost s.views.view m → IsStable t.ghost s.views.view (list_or_new l).start → IsStable t.ghost s.views.view (list_or_new (list_forgotten m l)).start
          start None new old = old
          start (Some l) new old = forgotten_stable t.ghost s.views.view l m new old

  -- the leader is known
  pub led_by_kept : (h : List ℕ) (m : ℕ) → (h ≡ g → KnowsLeader t.ghost s.views.view s.views.members (Some m)) → (u : Tied g w n (set_leader s h m)) × (u.ghost ≡ t.ghost)
  unfolding set_leader
  led_by_kept h m knows = row_kept h (λ row. record row { leader = Some m }) (λ x. refl) (leader_lightens m) (waits_of h) new
    where
      new : h ≡ g → RowIs t.ghost n s.views.view s.views.members (record (row_of s h) { leader = Some m }) × LeaderKeeps t.ghost n s.views.inc s.views.view (row_of s h).led
      new e =
          let P : List ℕ → Type 0 = λ z. RowIs t.ghost n s.views.view s.views.members (record (row_of s z) { leader = Some m }) × LeaderKeeps t.ghost n s.views.inc s.views.view (row_of s z).led in
          subst P (sym e) (
            record { list = t.own.0.row_is.list; stable = t.own.0.row_is.stable; leader = knows e; acked = t.own.0.row_is.acked; covers = t.own.0.row_is.covers },
            t.own.0.decides,
          )

  pub tied_led_by : (h : List ℕ) (m : ℕ) → (h ≡ g → KnowsLeader t.ghost s.views.view s.views.members (Some m)) → Tied g w n (set_leader s h m)
  tied_led_by h m knows = (led_by_kept h m knows).0

  -- the length that the node's list has
  pub len_is : len_of s g ≡ length (t.ghost.nodes n).list
  unfolding len_of list_of
  len_is = (keeps_of t.ghost s.views.view (t.ghost.nodes n).list (row_of s g).list t.own.0.row_is.list).len

  -- an acknowledgement is sent
  pub tied_acks : (to : ℕ) (h : List ℕ) → Tied g w n (sent s to (body.Ack s.views.view h (len_of s h)))
  unfolding sent send_on packet_on row_of
  tied_acks to h =
      let x : Ghost = t.ghost in
      let k = t.own.0 in
      let a : group.Packet = group.Ack (x.nodes n).view n (x.nodes n).inc (length (x.nodes n).list) in
      let y : Ghost = with_packet x a in
      let o : Goes x y = packet_goes x a in
      let spares : (m : ℕ) → Spares x y m = λ m. packet_spares x a m (λ e. absurd (omega arith)) (λ e. absurd (omega arith)) in
      let p : Packet = packet_on s (network_to s to) to (body.Ack s.views.view h (len_of s h)) in
      let new : Shows y g p = λ e. inl (λ i. group.Ack (sym k.stands.view i) (k.stands.me i) (sym k.stands.inc i) ((ap (len_of s) e ∙ len_is) i)) in
      tied_on g w n s t (sent s to (body.Ack s.views.view h (len_of s h))) y (Acknowledges x.nodes x.ps x.all x.leads x.bases n (x.nodes n) (length (x.nodes n).list) t.life refl (omega arith)) t.lines t.placed (packet_turns w n s.views.view s.records s.sessions x.ps t.turns a (λ b c d f e. cc)) (node_on x y n (spares n) refl g (is_fixed s.config.mode) s.views (row_of s g) s.groups s.sessions s.names k, t.own.1, t.own.2) (λ m ne. spares m) (λ m ne. refl) (λ q i. ⊎_elim (λ (e : q ≡ p). subst (Shows y g) (sym e) new) (λ (j : Has q (s.sends ++ w.sent)). shows_on x y o g q (t.packets q j)) (has_pushed q p s.sends w.sent i)) (sound_on x y (packet_still x a (λ e. absurd (omega arith)) (λ e. absurd (omega arith))) g t.sound)
