-- REQUEST: the leader of a group decides.
use Rattle.std.proofs.Common.{◌≡◌, ◌≢◌, ◌≤◌, ◌⊎◌, ℕ, List, [], ◌∷◌, ◌++◌, length, Option, Some, None, Bool, true, false, refl, sym, ap, ◌∙◌, subst, inl, inr, arith}
use Rattle.std.specs.Prelude.{◌&&◌, ◌||◌, not, find, map}
use Rattle.rsct_packet.specs.declared.ids.ViewId.{ViewId}
use Rattle.rsct_packet.specs.declared.ids.ProviderId.{ProviderId}
use Rattle.rsct_packet.specs.Providers.{same_provider, among, differ}
use Rattle.rsct_packet.specs.Search.{Has}
use Rattle.group_attr.specs.declared.attrs.Attrs.{Attrs}
use Rattle.group_attr.specs.declared.attrs.Phases.{Phases}
use Rattle.group_attr.specs.Agree.{agree}
use Rattle.proposal_core.specs.declared.entry.Entry.{Entry}
use Rattle.proposal_core.specs.declared.proposal.Proposal.{Proposal}
use Rattle.proposal_core.specs.declared.proposal.Proposal.TheVariants.{Join, Leave, Fail, Expel, State, Message, Attributes, Reflect}
use Rattle.proposal_core.specs.Fold.{present}
use Rattle.batch_rules.specs.Waiting.{waits_join, has_instance}
use Rattle.client_callbacks.specs.declared.told.Why.{Why}
use Rattle.client_callbacks.specs.declared.told.Why.TheVariants as reasons
use Rattle.node_state.specs.declared.group.Decision.{Decision}
use Rattle.node_state.specs.declared.group.GroupRow.{GroupRow}
use Rattle.node_state.specs.declared.group.Led.{Led}
use Rattle.node_state.specs.declared.packet.Body.TheVariants as body
use Rattle.node_state.specs.declared.state.Core.{Core}
use Rattle.node_state.specs.Settings.{is_fixed}
use Rattle.node_state.specs.State.{decisions_with, row_of, with_row, with_led, led_of, state_of, decision_of, leads}
use Rattle.node_state.specs.Sending.{sent, send_on}
use Rattle.node_state.specs.HandOn.{Answering}
use Rattle.node_state.specs.Leading.{begins}
use Rattle.node_state.specs.Deciding.{keep_decision, refused, is_idle_empty, keep_attrs, wait_join, join_refusal, decide_join, other_refusal, decide_change, decided}
use Rattle.run_safety.specs.ViewOrder.{Lt}
use Rattle.run_safety.specs.Group.{member}
use Rattle.run_safety.specs.Group as group
use Rattle.run_safety.specs.Requests.{requests_of, proposal_of, carried, carried_by, IsJoin}
use Rattle.run_safety.specs.Moves.{Due, Refuses}
use Rattle.run_safety.proofs.Order.{lt_refl}
use Rattle.run_safety.proofs.Parts.{member_parts}
use Rattle.step_refinement.specs.Ghost.{asking, Ghost, Goes}
use Rattle.step_refinement.specs.Tied.{RowIs, Decided, Waits, LeaderKeeps, NodeOf, Scene, Tied}
use Rattle.step_refinement.proofs.Goes.{owes_by, node_rows_by, shows_on, node_if_on}
use Rattle.step_refinement.proofs.Works.{sent_kept}
use Rattle.step_refinement.proofs.Gone.{packet_goes}
use Rattle.step_refinement.proofs.Leads.{leads_known, leads_row, leads_same}
use Rattle.node_state.proofs.NameOrder.{cases_text, row_here, rows_ordered}
use Rattle.step_refinement.proofs.Idle.{Calm, held_with, led_lightens}
use Rattle.step_refinement.proofs.RowWorks.{waits_with, waits_of, row_calm, row_kept}
use Rattle.step_refinement.proofs.Refusals.{refusing, refusal_spares, refusal_sound, refusing_turns}
use Rattle.step_refinement.proofs.Decisions.{among_push, differ_push, apart_instances, with_here, with_there, Newer, NoOlder, Ripe, newer_no_older, Unbegun, Fresh, fresh_unbegun, fresh_of, with_decision, decided_now, no_older_now, decided_still}
use Rattle.step_refinement.proofs.Appending.{MayPut, Leading, begins_goes}
use Rattle.step_refinement.proofs.SessionLaws.{provider_self, provider_same}

-- ---- what a leader keeps

module _ (x : Ghost) (n inc : ℕ) (v : ViewId) (l : Led) (p : ProviderId) (r : ℕ) (newer : NoOlder l p r) (ripe : Ripe l p r) (h : LeaderKeeps x n inc v l) where
  -- the decision that is kept now, or one that was kept
  kept_or : (why : Option Why) (q : ProviderId) (d : Decision) → decision_of (with_decision p r why l) q ≡ Some d → ((q ≡ p) × (d.request ≡ r) × (d.why ≡ why)) ⊎ (decision_of l q ≡ Some d)
  unfolding decision_of
  kept_or why q d e = by (same_provider p q) refl
    where
      parts : record { provider = p; request = r; why = why } ≡ d → (d.request ≡ r) × (d.why ≡ why)
      parts s = (ap (λ (z : Decision). z.request) (sym s), ap (λ (z : Decision). z.why) (sym s))

      by : (b : Bool) → same_provider p q ≡ b → ((q ≡ p) × (d.request ≡ r) × (d.why ≡ why)) ⊎ (find (λ (z : Decision). same_provider z.provider q) l.decided ≡ Some d)
      by true s =
          let same : p ≡ q = provider_same p q s in
          let k : find (λ (z : Decision). same_provider z.provider q) (decisions_with (record { provider = p; request = r; why = why }) l.decided) ≡ Some (record { provider = p; request = r; why = why }) = ap (λ y. find (λ (z : Decision). same_provider z.provider y) (decisions_with (record { provider = p; request = r; why = why }) l.decided)) (sym same) ∙ with_here (record { provider = p; request = r; why = why }) l.decided in
          let f : Some (record { provider = p; request = r; why = why }) ≡ Some d = sym k ∙ e in
          let c : record { provider = p; request = r; why = why } ≡ d = cc in
          let z = parts c in inl (sym same, z.0, z.1)
      by false s = inr (sym (with_there (record { provider = p; request = r; why = why }) l.decided q s) ∙ e)

  -- no join that waits was decided on later
  lasts_on : (why : Option Why) (q : ProviderId) (d : Decision) → among l.waiting.joins q ≡ true → decision_of (with_decision p r why l) q ≡ Some d → d.request ≤ q.join
  lasts_on why q d i e = by (kept_or why q d e)
    where
      by : ((q ≡ p) × (d.request ≡ r) × (d.why ≡ why)) ⊎ (decision_of l q ≡ Some d) → d.request ≤ q.join
      by (inr k) = h.lasts q d i k
      by (inl k) =
          let le : r ≤ p.join = ripe (subst (λ z. among l.waiting.joins z ≡ true) k.0 i) in
          let same : q.join ≡ p.join = ap (λ (z : ProviderId). z.join) k.0 in
          let number = k.1 in omega arith

  -- a request was taken
  pub taken_leader : LeaderKeeps x n inc v (with_decision p r None l)
  taken_leader =
      record {
        refused = λ q k e o i. decided_still l p r None newer q k (h.refused q k e o i);
        begun = λ q k i e a b c. decided_still l p r None newer q k (h.begun q k i e a b c);
        waiting = λ q e i. let z = h.waiting q e i in
            record { proposal = z.proposal; sent = z.sent; joins = z.joins; open_still = z.open_still; unbegun = z.unbegun; decided = decided_still l p r None newer q q.join z.decided };
        later = h.later;
        again = λ q d why e c. again q d why (kept_or None q d e) c;
        leads_it = h.leads_it;
        apart = h.apart;
        lasts = lasts_on None;
      }
    where
      again : (q : ProviderId) (d : Decision) (why : Why) → ((q ≡ p) × (d.request ≡ r) × (d.why ≡ None)) ⊎ (decision_of l q ≡ Some d) → d.why ≡ Some why → Has (group.Refusal v q d.request) x.ps
      again q d why (inl k) c = absurd (let f : None ≡ Some why = sym k.2 ∙ c in cc)
      again q d why (inr k) c = h.again q d why k c

  -- it was refused
  pub refusing_leader : (why : Why) → Unbegun (x.nodes n).list l p r → LeaderKeeps (refusing x v p r) n inc v (with_decision p r (Some why) l)
  refusing_leader why fresh =
      record {
        refused = λ q k e o i. refused q k e o i;
        begun = λ q k i e a b c. decided_still l p r (Some why) newer q k (h.begun q k i e a b c);
        waiting = λ q e i. let z = h.waiting q e i in
            record { proposal = z.proposal; sent = inr z.sent; joins = z.joins; open_still = λ k. still_open q i z.open_still k; unbegun = z.unbegun; decided = decided_still l p r (Some why) newer q q.join z.decided };
        later = λ u lt e q k i. later u lt e q k i;
        again = λ q d y e c. again q d y (kept_or (Some why) q d e) c;
        leads_it = h.leads_it;
        apart = h.apart;
        lasts = lasts_on (Some why);
      }
    where
      refused : (q : ProviderId) (k : ℕ) → x.leads v ≡ Some (member n inc) → (Has v x.shut → ⊥) → Has (group.Refusal v q k) (group.Refusal v p r ∷ x.ps) → Decided (with_decision p r (Some why) l) q k
      refused q k e o (inr i) = decided_still l p r (Some why) newer q k (h.refused q k e o i)
      refused q k e o (inl s) =
          let a : p ≡ q = cc in
          let b : r ≡ k = cc in
          subst (λ (z : ProviderId × ℕ). Decided (with_decision p r (Some why) l) z.0 z.1) (λ i. (a i, b i)) (decided_now l p r (Some why))

      still_open : (q : ProviderId) → among l.waiting.joins q ≡ true → (Has (group.Refusal v q q.join) x.ps → ⊥) → Has (group.Refusal v q q.join) (group.Refusal v p r ∷ x.ps) → ⊥
      still_open q i not_yet (inr k) = not_yet k
      still_open q i not_yet (inl s) =
          let a : q ≡ p = cc in
          let b : q.join ≡ r = cc in
          fresh.unwaiting (subst (λ z. among l.waiting.joins z ≡ true) a i) (ap (λ (z : ProviderId). z.join) (sym a) ∙ b)

      later : (u : ViewId) → Lt v u → x.leads u ≡ Some (member n inc) → (q : ProviderId) (k : ℕ) → Has (group.Refusal u q k) (group.Refusal v p r ∷ x.ps) → ⊥
      later u lt e q k (inr i) = h.later u lt e q k i
      later u lt e q k (inl s) =
          let a : u ≡ v = cc in
          let b : Lt v v = subst (Lt v) a lt in
          let c = lt_refl v in cc

      again : (q : ProviderId) (d : Decision) (y : Why) → ((q ≡ p) × (d.request ≡ r) × (d.why ≡ Some why)) ⊎ (decision_of l q ≡ Some d) → d.why ≡ Some y → Has (group.Refusal v q d.request) (group.Refusal v p r ∷ x.ps)
      again q d y (inl k) c = inl (λ i. group.Refusal v (k.0 i) (k.1 i))
      again q d y (inr k) c = inr (h.again q d y k c)

-- a join waits
pub waiting_leader : (x : Ghost) (n inc : ℕ) (v : ViewId) (l m : Led) (p : ProviderId) (a : Proposal) → m.decided ≡ l.decided → m.waiting.joins ≡ l.waiting.joins ++ p ∷ [] → x.leads v ≡ Some (member n inc) → Has (group.Request v p p.join a) x.ps → IsJoin p a → Decided l p p.join → NoOlder l p p.join → Fresh x v (x.nodes n).list l p p.join → among l.waiting.joins p ≡ false → LeaderKeeps x n inc v l → LeaderKeeps x n inc v m
unfolding decision_of
waiting_leader x n inc v l m p a same more led sent joins decided last fresh apart h =
    record {
      refused = λ q k e o i. moved q k (h.refused q k e o i);
      begun = λ q k i e b c d. moved q k (h.begun q k i e b c d);
      waiting = λ q e i. waits q (among_push l.waiting.joins p q (subst (λ js. among js q ≡ true) more i));
      later = h.later;
      again = λ q d why e c. h.again q d why (ap (λ ds. find (λ (z : Decision). same_provider z.provider q) ds) (sym same) ∙ e) c;
      leads_it = λ q i. led;
      apart = ap differ more ∙ differ_push l.waiting.joins p h.apart apart;
      lasts = λ q d i e. lasts q d (among_push l.waiting.joins p q (subst (λ js. among js q ≡ true) more i)) (ap (λ ds. find (λ (z : Decision). same_provider z.provider q) ds) (sym same) ∙ e);
    }
  where
    lasts : (q : ProviderId) (d : Decision) → (among l.waiting.joins q ≡ true) ⊎ (q ≡ p) → find (λ (z : Decision). same_provider z.provider q) l.decided ≡ Some d → d.request ≤ q.join
    lasts q d (inl i) e = h.lasts q d i e
    lasts q d (inr s) e =
        let le : d.request ≤ p.join = last d (ap (λ y. find (λ (z : Decision). same_provider z.provider y) l.decided) (sym s) ∙ e) in
        let k : q.join ≡ p.join = ap (λ (z : ProviderId). z.join) s in omega arith

    moved : (q : ProviderId) (k : ℕ) → Decided l q k → Decided m q k
    moved q k z = record { last = z.last; kept_it = ap (λ ds. find (λ (d : Decision). same_provider d.provider q) ds) same ∙ z.kept_it; later = z.later }

    new : Waits x v (x.nodes n).list m p
    new = record { proposal = a; sent = sent; joins = joins; open_still = fresh.unrefused; unbegun = fresh.unbegun; decided = moved p p.join decided }

    waits : (q : ProviderId) → (among l.waiting.joins q ≡ true) ⊎ (q ≡ p) → Waits x v (x.nodes n).list m q
    waits q (inl i) = let z = h.waiting q led i in
        record { proposal = z.proposal; sent = z.sent; joins = z.joins; open_still = z.open_still; unbegun = z.unbegun; decided = moved q q.join z.decided }
    waits q (inr e) = subst (Waits x v (x.nodes n).list m) (sym e) new

-- ---- what a proposal carries

one_of : {A : Type 0} (a x y : A) → Has x (a ∷ []) → Has y (a ∷ []) → y ≡ x
one_of a x y (inl e) (inl f) = f ∙ sym e
one_of a x y (inr z) f = absurd z
one_of a x y (inl e) (inr z) = absurd z

abbrev pub is_joining : Proposal → Bool
is_joining (Join ps attrs n) = true
is_joining _ = false

-- no more than the request that it is
carries_one : (x : Proposal) (p q : ProviderId) (r k : ℕ) → is_joining x ≡ false → Has (p, r) (requests_of x) → Has (q, k) (requests_of x) → (q ≡ p) × (k ≡ r)
carries_one x p q r k e a b = by x e a b
  where
    parts : {z : ProviderId × ℕ} → Has {A = ProviderId × ℕ} (p, r) (z ∷ []) → Has {A = ProviderId × ℕ} (q, k) (z ∷ []) → (q ≡ p) × (k ≡ r)
    parts {z = z} a b = let s : (q, k) ≡ (p, r) = one_of {A = ProviderId × ℕ} z (p, r) (q, k) a b in
        (ap (λ (z : ProviderId × ℕ). z.0) s, ap (λ (z : ProviderId × ℕ). z.1) s)

    by : (x : Proposal) → is_joining x ≡ false → Has (p, r) (requests_of x) → Has (q, k) (requests_of x) → (q ≡ p) × (k ≡ r)
    by (Join ps attrs n) e a b = absurd (cc)
    by (Leave c i) e a b = parts {z = (c, i)} a b
    by (Fail out) e a b = absurd a
    by (Expel c i out) e a b = parts {z = (c, i)} a b
    by (State c i value) e a b = parts {z = (c, i)} a b
    by (Message c i bytes) e a b = parts {z = (c, i)} a b
    by (Attributes c i attrs) e a b = parts {z = (c, i)} a b
    by (Reflect view place value) e a b = absurd a

-- a join's request is numbered as it is
joins_numbered : (ps : List ProviderId) (p : ProviderId) (r : ℕ) → Has {A = ProviderId × ℕ} (p, r) (map (λ (q : ProviderId). (q, q.join)) ps) → (r ≡ p.join) × (among ps p ≡ true)
joins_numbered [] p r h = absurd h
joins_numbered (q ∷ ps) p r (inl e) =
    let a : p ≡ q = ap (λ (z : ProviderId × ℕ). z.0) e in
    let b : r ≡ q.join = ap (λ (z : ProviderId × ℕ). z.1) e in
    (b ∙ ap (λ (z : ProviderId). z.join) (sym a), ap (λ t. t || among ps p) (ap (λ z. same_provider q z) a ∙ provider_self q))
joins_numbered (q ∷ ps) p r (inr h) =
    let k = joins_numbered ps p r h in (k.0, either (same_provider q p) (among ps p) k.1)
  where
    either : (a b : Bool) → b ≡ true → (a || b) ≡ true
    either true b e = refl
    either false b e = e

module _ (g : List ℕ) (w : Scene) (n : ℕ) (s : Core) where
  abbrev deciding_row : ProviderId → ℕ → Option Why → GroupRow → GroupRow
  deciding_row p r why row = record row { led = with_decision p r why row.led }

  module _ (c : Core) (h : List ℕ) (p : ProviderId) (r : ℕ) (t : Leading g w n s c) (newer : h ≡ g → NoOlder (row_of c h).led p r) (ripe : h ≡ g → Ripe (row_of c h).led p r) where
    row_leads : (why : Option Why) → (z : List ℕ) → leads (keep_decision c h p r why) z ≡ leads s z
    unfolding keep_decision with_led
    row_leads why z = leads_row c h (deciding_row p r why) (λ x. refl) (λ x. refl) t.tied.own.0.order z ∙ t.leads z

    -- a request is taken
    pub taken_goes : (u : Leading g w n s (keep_decision c h p r None)) × (u.tied.ghost ≡ t.tied.ghost)
    unfolding keep_decision with_led with_row
    taken_goes =
        let k = row_kept g w n c t.tied h (deciding_row p r None) (λ x. refl) (led_lightens (with_decision p r None) (λ l. omega arith)) (waits_of g w n c t.tied h) new in
        (record { tied = k.0; same = t.same; leads = row_leads None }, k.1)
      where
        new : h ≡ g → RowIs t.tied.ghost n c.views.view c.views.members (deciding_row p r None (row_of c h)) × LeaderKeeps t.tied.ghost n c.views.inc c.views.view (with_decision p r None (row_of c h).led)
        new e =
            let is = t.tied.own.0 in
            let P : List ℕ → Type 0 = λ z. RowIs t.tied.ghost n c.views.view c.views.members (row_of c z) × LeaderKeeps t.tied.ghost n c.views.inc c.views.view (row_of c z).led in
            let k : P h = subst P (sym e) (is.row_is, is.decides) in
            (record { list = k.0.list; stable = k.0.stable; leader = k.0.leader; acked = k.0.acked; covers = k.0.covers }, taken_leader t.tied.ghost n c.views.inc c.views.view (row_of c h).led p r (newer e) (ripe e) k.1)

  -- the leader refuses a request of the group
  module _ (c : Core) (p : ProviderId) (r : ℕ) (why : Why) (t : Tied g w n c) (newer : NoOlder (row_of c g).led p r) (ripe : Ripe (row_of c g).led p r) (led : t.ghost.leads c.views.view ≡ Some (member n c.views.inc)) (fresh : Unbegun (t.ghost.nodes n).list (row_of c g).led p r) where
    abbrev x : Ghost
    x = t.ghost

    abbrev v : ViewId
    v = c.views.view

    abbrev y : Ghost
    y = refusing t.ghost c.views.view p r

    apart : (m : ℕ) → m ≢ n → (i : ℕ) → x.leads v ≡ Some (member m i) → ⊥
    apart m ne i e = ne (sym (member_parts n m c.views.inc i (sym led ∙ e)).0)

    stable_old : (k : ℕ) → Has (group.Stable v k) (group.Refusal v p r ∷ x.ps) → Has (group.Stable v k) x.ps
    stable_old k (inl e) = absurd (cc)
    stable_old k (inr h) = h

    own : NodeOf y g n (is_fixed c.config.mode) c.views (row_of (with_row c g (deciding_row p r (Some why))) g) (with_row c g (deciding_row p r (Some why))).groups c.sessions c.names
    own =
        let k = t.own.0 in
        let F : GroupRow → GroupRow = deciding_row p r (Some why) in
        let o : Goes x y = packet_goes x (group.Refusal v p r) in
        let is : RowIs x n v c.views.members (F (row_of c g)) = record { list = k.row_is.list; stable = k.row_is.stable; leader = k.row_is.leader; acked = k.row_is.acked; covers = k.row_is.covers } in
        subst (λ row. NodeOf y g n (is_fixed c.config.mode) c.views row (with_row c g F).groups c.sessions c.names) (sym (row_here g F (λ z. refl) c k.order)) (node_rows_by x y o n refl g (is_fixed c.config.mode) c.views (row_of c g) (F (row_of c g)) c.groups (with_row c g F).groups c.sessions c.sessions c.names c.names is (λ j i e b. k.row_is.covers j i e (stable_old i b)) (rows_ordered g F (λ z. refl) c k.order) (waits_with x c g F (λ z. refl) k.order k.waits (waits_of g w n c t g)) (owes_by x y o n (λ a e i. i) (λ u j e i. i) (λ q j u e i. i) g c.views.inc c.sessions k.owes) (refusing_leader x n c.views.inc v (row_of c g).led p r newer ripe k.decides why fresh) (record { named = k.names.named; unnamed = k.names.unnamed; full = k.names.full }) (record { few = k.idles.few; shut = λ e i. let a = k.idles.shut e i in record { bare = a.bare; idle = a.idle; full = let b = a.full in let d = held_with c g F (λ row e. e) in omega arith } }) k)

    refused_row : (u : Tied g w n (with_row c g (deciding_row p r (Some why)))) × (u.ghost ≡ y)
    unfolding row_of with_row
    refused_row =
        let k = t.own.0 in
        let led' : x.leads v ≡ Some (member n (x.nodes n).inc) = led ∙ ap (λ j. Some (member n j)) (sym k.stands.inc) in (
          record {
            ghost = y;
            life = Refuses x.nodes x.ps x.all x.leads x.bases v p r t.life (inr (n, x.nodes n, refl, k.stands.view, led', fresh.unbegun));
            lines = t.lines;
            own = (own, t.own.1, t.own.2);
            others = λ m ne. node_if_on x y m (refusal_spares x v p r m (apart m ne)) refl w.config g (w.incs m) (w.cores m) (t.others m ne);
            packets = λ q i. shows_on x y (packet_goes x (group.Refusal v p r)) g q (t.packets q i);
            sound = refusal_sound x v p r g (n, c.views.inc, c.views.members, k.stands.seated) (λ e. absurd (let f : None ≡ Some (member n c.views.inc) = sym e ∙ led in cc)) t.sound;
            placed = t.placed;
            nobody = t.nobody;
            turns = refusing_turns t.ghost c.views.view p r w n c.views.view c.records c.sessions t.turns;
          },
          refl,
        )

  -- a request is refused
  pub refused_goes : (c : Core) (h : List ℕ) (p : ProviderId) (r : ℕ) (why : Why) (t : Leading g w n s c) → (h ≡ g → NoOlder (row_of c h).led p r) → (h ≡ g → Ripe (row_of c h).led p r) → (h ≡ g → leads s h ≡ true) → (h ≡ g → Unbegun (t.tied.ghost.nodes n).list (row_of c h).led p r) → Has (asking p r h) t.tied.ghost.asked → (u : Leading g w n s (refused c h p r why)) × (u.tied.ghost.asked ≡ t.tied.ghost.asked) × (h ≡ g → u.tied.ghost ≡ refusing t.tied.ghost c.views.view p r)
  unfolding refused keep_decision with_led with_row sent send_on
  refused_goes c h p r why t newer ripe led fresh asked = by (cases_text h g)
    where
      leads_on : (z : List ℕ) → leads (with_row c h (deciding_row p r (Some why))) z ≡ leads s z
      leads_on z = leads_row c h (deciding_row p r (Some why)) (λ x. refl) (λ x. refl) t.tied.own.0.order z ∙ t.leads z

      done : (u : Tied g w n (with_row c h (deciding_row p r (Some why)))) → (h ≡ g → Has (group.Refusal c.views.view p r) u.ghost.ps) → (u.ghost.asked ≡ t.tied.ghost.asked) → (h ≡ g → u.ghost ≡ refusing t.tied.ghost c.views.view p r) → (d : Leading g w n s (sent (with_row c h (deciding_row p r (Some why))) p.node (body.Tell c.views.view h p r why))) × (d.tied.ghost.asked ≡ t.tied.ghost.asked) × (h ≡ g → d.tied.ghost ≡ refusing t.tied.ghost c.views.view p r)
      done u refusal same is =
          let k = sent_kept g w n (with_row c h (deciding_row p r (Some why))) u p.node (body.Tell c.views.view h p r why) (subst (Has (asking p r h)) (sym same) asked, refusal) in
          (record { tied = k.0; same = t.same; leads = λ z. leads_same (with_row c h (deciding_row p r (Some why))) (sent (with_row c h (deciding_row p r (Some why))) p.node (body.Tell c.views.view h p r why)) refl refl refl z ∙ leads_on z }, ap (λ (z : Ghost). z.asked) k.1 ∙ same, λ e. k.1 ∙ is e)

      by : (h ≡ g) ⊎ (h ≡ g → ⊥) → (d : Leading g w n s (sent (with_row c h (deciding_row p r (Some why))) p.node (body.Tell c.views.view h p r why))) × (d.tied.ghost.asked ≡ t.tied.ghost.asked) × (h ≡ g → d.tied.ghost ≡ refusing t.tied.ghost c.views.view p r)
      by (inl e) =
          let P : List ℕ → Type 0 = λ z. (u : Tied g w n (with_row c z (deciding_row p r (Some why)))) × (u.ghost ≡ refusing t.tied.ghost c.views.view p r) in
          let known = leads_known g w n c t.tied (t.leads g ∙ subst (λ z. leads s z ≡ true) e (led e)) in
          let k : P h = subst P (sym e) (refused_row c p r why t.tied (subst (λ z. NoOlder (row_of c z).led p r) e (newer e)) (subst (λ z. Ripe (row_of c z).led p r) e (ripe e)) known (subst (λ z. Unbegun (t.tied.ghost.nodes n).list (row_of c z).led p r) e (fresh e))) in
          done k.0 (λ _. subst (λ (z : Ghost). Has (group.Refusal c.views.view p r) z.ps) (sym k.1) (inl refl)) (ap (λ (z : Ghost). z.asked) k.1) (λ _. k.1)
      by (inr ne) =
          let k = row_kept g w n c t.tied h (deciding_row p r (Some why)) (λ x. refl) (led_lightens (with_decision p r (Some why)) (λ l. omega arith)) (waits_of g w n c t.tied h) (λ e. absurd (ne e)) in
          done k.0 (λ e. absurd (ne e)) (ap (λ (z : Ghost). z.asked) k.1) (λ e. absurd (ne e))

module _ (g : List ℕ) (w : Scene) (n : ℕ) (s : Core) (f : Answering) (thawed : s.views.promise ≡ s.views.view) (h : List ℕ) (p : ProviderId) (r : ℕ) (x : Proposal) (made : Has (p, r) (requests_of x)) (led : h ≡ g → leads s h ≡ true) (c : Core) (t : Leading g w n s c) (newer : h ≡ g → Newer (row_of c h).led p r) (ripe : h ≡ g → Ripe (row_of c h).led p r) (asked : Has (asking p r h) t.tied.ghost.asked) (request : h ≡ g → Has (group.Request c.views.view p r x) t.tied.ghost.ps) (unshut : h ≡ g → Has c.views.view t.tied.ghost.shut → ⊥) (begun : h ≡ g → is_fixed c.config.mode ≡ true → (row_of c h).list ≡ None → (row_of c h).led.waiting.joins ≡ []) where
  known : h ≡ g → t.tied.ghost.leads c.views.view ≡ Some (member n c.views.inc)
  known e = leads_known g w n c t.tied (t.leads g ∙ subst (λ z. leads s z ≡ true) e (led e))

  fresh_now : h ≡ g → Fresh t.tied.ghost c.views.view (t.tied.ghost.nodes n).list (row_of c h).led p r
  fresh_now e =
      fresh_of t.tied.ghost n c.views.inc c.views.view (row_of c h).led p r (known e) (unshut e) (subst (λ z. LeaderKeeps t.tied.ghost n c.views.inc c.views.view (row_of c z).led) (sym e) t.tied.own.0.decides) (newer e)

  no_older : h ≡ g → NoOlder (row_of c h).led p r
  no_older e = newer_no_older (row_of c h).led p r (newer e)

  abbrev taken : Core
  taken = keep_decision c h p r None

  taken_rule : (row_of (keep_decision c h p r None) h).led ≡ with_decision p r None (row_of c h).led
  unfolding keep_decision with_led
  taken_rule = ap (λ (z : GroupRow). z.led) (row_here h (deciding_row g w n s p r None) (λ z. refl) c t.tied.own.0.order)

  taken_whole : row_of (keep_decision c h p r None) h ≡ deciding_row g w n s p r None (row_of c h)
  unfolding keep_decision with_led
  taken_whole = row_here h (deciding_row g w n s p r None) (λ z. refl) c t.tied.own.0.order

  -- a join waits
  waits_goes_on : (a : Attrs) (idle : Bool) (ps : List ProviderId) (attrs : Attrs) (len : Option ℕ) → x ≡ Join ps attrs len → among (row_of c h).led.waiting.joins p ≡ false → Leading g w n s (wait_join c h p r a idle)
  unfolding wait_join keep_decision with_led with_row
  waits_goes_on a idle ps attrs len is apart =
      let u = taken_goes g w n s c h p r t no_older ripe in
      let F : GroupRow → GroupRow = λ row. record row { led = record (row.led) { waiting = waits_join p row.led.waiting; join_attrs = keep_attrs row.led.join_attrs p a idle } } in
      let numbered = joins_numbered ps p r (subst (λ z. Has (p, r) (requests_of z)) is made) in
      let k = row_calm g w n taken u.0.tied h F (λ z. refl) (λ row e. e) (λ e. calm u.0.tied u.1 e) (λ q i. asked_of u.0.tied u.1 numbered.0 q i) (new u.0.tied u.1 numbered.0 numbered.1) in
      record { tied = k.0; same = u.0.same; leads = λ z. leads_row taken h F (λ z. refl) (λ z. refl) u.0.tied.own.0.order z ∙ u.0.leads z }
    where
      -- no other join waits where there is no list
      calm : (u : Tied g w n taken) → u.ghost ≡ t.tied.ghost → h ≡ g → Calm u.ghost n taken.views.inc taken.views.view (is_fixed taken.config.mode) (record (row_of taken h) { led = record ((row_of taken h).led) { waiting = waits_join p (row_of taken h).led.waiting; join_attrs = keep_attrs (row_of taken h).led.join_attrs p a idle } })
      calm u same e =
          record {
            few = λ q none. let b = begun e q (sym (ap (λ (row : GroupRow). row.list) taken_whole) ∙ none) in let d : (row_of taken h).led.waiting.joins ≡ [] = ap (λ (row : GroupRow). row.led.waiting.joins) taken_whole ∙ b in let i : length ((row_of taken h).led.waiting.joins ++ p ∷ []) ≡ 1 = ap (λ (js : List ProviderId). length (js ++ p ∷ [])) d in omega arith;
            idle = λ q i. absurd (unshut e (subst (λ (z : Ghost). Has c.views.view z.shut) same i));
          }

      asked_of : (u : Tied g w n taken) → u.ghost ≡ t.tied.ghost → r ≡ p.join → (q : ProviderId) → among ((row_of taken h).led.waiting.joins ++ p ∷ []) q ≡ true → Has (asking q q.join h) u.ghost.asked
      asked_of u same number q i = at (among_push (row_of taken h).led.waiting.joins p q i)
        where
          mine : Has (asking p p.join h) u.ghost.asked
          mine = subst (λ (z : Ghost × ℕ). Has (asking p z.1 h) z.0.asked) (λ j. (sym same j, number j)) asked

          at : (among (row_of taken h).led.waiting.joins q ≡ true) ⊎ (q ≡ p) → Has (asking q q.join h) u.ghost.asked
          at (inl j) = waits_of g w n taken u h q j
          at (inr e) = subst (λ z. Has (asking z z.join h) u.ghost.asked) (sym e) mine

      new : (u : Tied g w n taken) → u.ghost ≡ t.tied.ghost → r ≡ p.join → among ps p ≡ true → h ≡ g → RowIs u.ghost n taken.views.view taken.views.members (record (row_of taken h) { led = record ((row_of taken h).led) { waiting = waits_join p (row_of taken h).led.waiting; join_attrs = keep_attrs (row_of taken h).led.join_attrs p a idle } }) × LeaderKeeps u.ghost n taken.views.inc taken.views.view (record ((row_of taken h).led) { waiting = waits_join p (row_of taken h).led.waiting; join_attrs = keep_attrs (row_of taken h).led.join_attrs p a idle })
      new u same number inside e =
          let P : List ℕ → Type 0 = λ z. RowIs u.ghost n c.views.view c.views.members (row_of taken z) × LeaderKeeps u.ghost n c.views.inc c.views.view (row_of taken z).led in
          let k : P h = subst P (sym e) (u.own.0.row_is, u.own.0.decides) in
          let now : Led = (row_of taken h).led in
          let Q : Ghost → Type 0 = λ z. (z.leads c.views.view ≡ Some (member n c.views.inc)) × Has (group.Request c.views.view p p.join x) z.ps × Fresh z c.views.view (z.nodes n).list now p p.join in
          let old = fresh_now e in
          let fresh : Fresh t.tied.ghost c.views.view (t.tied.ghost.nodes n).list now p p.join = subst (λ (z : ℕ × Led). Fresh t.tied.ghost c.views.view (t.tied.ghost.nodes n).list z.1 p z.0) (λ j. (number j, sym taken_rule j)) (record { unrefused = old.unrefused; unbegun = old.unbegun; unwaiting = old.unwaiting }) in
          let q : Q u.ghost = subst Q (sym same) (known e, subst (λ z. Has (group.Request c.views.view p z x) t.tied.ghost.ps) number (request e), fresh) in
          let decided : Decided now p p.join = subst (λ (z : ℕ × Led). Decided z.1 p z.0) (λ j. (number j, sym taken_rule j)) (decided_now (row_of c h).led p r None) in
          let last : NoOlder now p p.join = subst (λ (z : ℕ × Led). NoOlder z.1 p z.0) (λ j. (number j, sym taken_rule j)) (no_older_now (row_of c h).led p r None) in
          let none : among now.waiting.joins p ≡ false = ap (λ (z : Led). among z.waiting.joins p) taken_rule ∙ apart in (
            record { list = k.0.list; stable = k.0.stable; leader = k.0.leader; acked = k.0.acked; covers = k.0.covers },
            waiting_leader u.ghost n c.views.inc c.views.view now (record now { waiting = waits_join p now.waiting; join_attrs = keep_attrs now.join_attrs p a idle }) p x refl refl q.0 q.1 (subst (IsJoin p) (sym is) inside) decided last q.2 none k.1,
          )

  -- another request begins
  begins_taken : (phases : Phases) → is_joining x ≡ false → Leading g w n s (begins f taken h x phases)
  unfolding keep_decision with_led with_row
  begins_taken phases single =
      let u = taken_goes g w n s c h p r t no_older ripe in
      begins_goes g w n s f thawed taken h x phases led u.0 (λ e d q. subst (λ z. MayPut z taken.views.view (z.nodes n).list (row_of taken h).led d) (sym u.1) (may e d q))
    where
      may : h ≡ g → (d : Entry) → proposal_of d ≡ Some x → MayPut t.tied.ghost taken.views.view (t.tied.ghost.nodes n).list (row_of taken h).led d
      may e d q =
          let old = fresh_now e in
          record {
            due = λ a k i. let z = same a k i in
                subst (λ (y : ProviderId × ℕ). Due t.tied.ghost.ps c.views.view (t.tied.ghost.nodes n).list d y.0 y.1) (λ j. (sym z.0 j, sym z.1 j)) (record { sent = (x, request e, (x, q, inl refl)); open_still = old.unrefused; unbegun = old.unbegun });
            decided = λ a k i. let z = same a k i in
                subst (λ (y : ProviderId × ℕ × Led). Decided y.2 y.0 y.1) (λ j. (sym z.0 j, sym z.1 j, sym taken_rule j)) (decided_now (row_of c h).led p r None);
            waits_not = λ a i k. let z = same a a.join k in
                old.unwaiting (subst (λ (y : ProviderId × Led). among y.1.waiting.joins y.0 ≡ true) (λ j. (z.0 j, taken_rule j)) i) (ap (λ (y : ProviderId). y.join) (sym z.0) ∙ z.1);
            unshut = unshut e;
          }
        where
          same : (a : ProviderId) (k : ℕ) → Has (a, k) (carried d) → (a ≡ p) × (k ≡ r)
          same a k i = carries_one x p a r k single made (subst (λ z. Has {A = ProviderId × ℕ} (a, k) (carried_by z)) q i)

  -- decided
  pub joins_decided : (ps : List ProviderId) (attrs : Attrs) (len : Option ℕ) → x ≡ Join ps attrs len → (o : Option Why) → join_refusal c h p attrs ≡ o → Leading g w n s (decide_join c h p r attrs o)
  unfolding decide_join join_refusal led_of
  joins_decided ps attrs len is (Some why) e = (refused_goes g w n s c h p r why t no_older ripe led (λ e. fresh_unbegun t.tied.ghost c.views.view (t.tied.ghost.nodes n).list (row_of c h).led p r (fresh_now e)) asked).0
  joins_decided ps attrs len is None e =
      waits_goes_on attrs (is_idle_empty (state_of c h)) ps attrs len is (apart_instances (present (state_of c h)) (row_of c h).led.waiting.joins p (alone e))
    where
      by : (a b : Bool) (rest : Option Why) → elim a as (λ _. Option Why) [ true ↦ Some reasons.BadAttributes | false ↦ elim b as (λ _. Option Why) [ true ↦ Some reasons.DuplicateInstance | false ↦ rest ] ] ≡ None → b ≡ false
      by true b rest e = absurd (cc)
      by false true rest e = absurd (cc)
      by false false rest e = refl

      alone : join_refusal c h p attrs ≡ None → has_instance (present (state_of c h) ++ (row_of c h).led.waiting.joins) p ≡ false
      alone e = by (not (is_idle_empty (state_of c h)) && not (agree attrs (state_of c h).attrs)) (has_instance (present (state_of c h) ++ (row_of c h).led.waiting.joins) p) _ e

  pub others_decided : (phases : Phases) → is_joining x ≡ false → Leading g w n s (decide_change f c h p r phases x (other_refusal c h p x))
  unfolding decide_change
  others_decided phases single = by (other_refusal c h p x)
    where
      by : (o : Option Why) → Leading g w n s (decide_change f c h p r phases x o)
      by (Some why) = (refused_goes g w n s c h p r why t no_older ripe led (λ e. fresh_unbegun t.tied.ghost c.views.view (t.tied.ghost.nodes n).list (row_of c h).led p r (fresh_now e)) asked).0
      by None = begins_taken phases single
