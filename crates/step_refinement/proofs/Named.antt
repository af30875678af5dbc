-- LOOKUP and NAME: a view without a leader gets one, or has none for good.
use Rattle.std.proofs.Common.{◌≡◌, ◌≢◌, ◌≤◌, ◌⊎◌, ℕ, List, [], ◌∷◌, ◌++◌, length, Option, Some, None, Bool, true, false, refl, sym, ap, ◌∙◌, subst, inl, inr, ⊎_elim, arith}
use Rattle.std.specs.Prelude.{◌==◌, ◌&&◌, fold, slice_get, nat_le, if◌then◌else◌}
use Rattle.std.specs.Option.{unwrap_or}
use Rattle.std.specs.Str.{bytes_eq}
use Rattle.std.proofs.lemmas.Bool.{eqb-true, eqb-false, and_parts}
use Rattle.std.proofs.lemmas.Bool.Decides.{nat_tests}
use Rattle.rsct_packet.specs.declared.ids.ViewId.{ViewId}
use Rattle.rsct_packet.specs.declared.ids.Member.{Member}
use Rattle.rsct_packet.specs.declared.ids.ProviderId.{ProviderId}
use Rattle.rsct_packet.specs.Search.{Has}
use Rattle.rsct_packet.proofs.HasLaws.{has_filter, append_has_right}
use Rattle.proposal_core.specs.declared.entry.Entry.{Entry}
use Rattle.name_server.specs.declared.names.Leader.{Leader}
use Rattle.name_server.specs.Names as names
use Rattle.client_callbacks.specs.declared.told.Why.TheVariants.{GroupsFull}
use Rattle.session_state.specs.declared.state.Request.{Request}
use Rattle.session_state.specs.declared.state.SessionState.{SessionState}
use Rattle.view_state.specs.declared.views.Views.{Views}
use Rattle.view_state.specs.Views.{is_coordinator}
use Rattle.node_state.specs.declared.config.Config.{Config}
use Rattle.node_state.specs.declared.group.GroupRow.{GroupRow}
use Rattle.node_state.specs.declared.group.Led.{Led}
use Rattle.node_state.specs.declared.packet.Body.TheVariants as body
use Rattle.node_state.specs.declared.packet.Packet.{Packet}
use Rattle.node_state.specs.declared.state.Core.{Core}
use Rattle.node_state.specs.Settings.{is_fixed}
use Rattle.node_state.specs.State.{row_of, with_row, acked_from, coordinates, set_leader}
use Rattle.node_state.specs.Sending.{sent}
use Rattle.node_state.specs.HandOn.{Answering}
use Rattle.node_state.specs.Following.{take_lookup, requests_of, named, is_name_used, take_name, take_tell}
use Rattle.node_state.specs.Step.{is_used, used_if, take_body}
use Rattle.run_safety.specs.Group.{member, In, kept}
use Rattle.run_safety.specs.Group as group
use Rattle.run_safety.specs.GroupLists.{puts_of}
use Rattle.run_safety.specs.Moves.{Opening, Alone}
use Rattle.run_safety.specs.Moves as moves
use Rattle.run_safety.proofs.Order.{cases_view}
use Rattle.run_safety.proofs.Prefix.{IsPrefix}
use Rattle.run_safety.proofs.Past.{Origin, born_number}
use Rattle.run_safety.proofs.Whole.{Whole}
use Rattle.run_safety.proofs.Lives.{whole, always_same_members}
use Rattle.step_refinement.specs.Ghost.{asking, Ghost, Goes, Lives, Seen}
use Rattle.step_refinement.specs.Tied.{Stands, ShowsBody, ShowsLeader, KnowsLeader, LeaderKeeps, Names, Closed, NodeOf, NodeIsIf, Sound, Scene, opening_of, Tied}
use Rattle.step_refinement.proofs.Goes.{Spares, owes_by, decides_by, node_by, shows_on, node_if_on}
use Rattle.step_refinement.proofs.Changed.{set_view, view_here, view_there}
use Rattle.step_refinement.proofs.Works.{asked_free, tied_sent}
use Rattle.node_state.proofs.NameOrder.{text_same, text_self, text_other, cases_text}
use Rattle.step_refinement.proofs.Begins.{opening_alone}
use Rattle.step_refinement.proofs.Acks.{used_is}
use Rattle.step_refinement.proofs.RowWorks.{tied_led_by}
use Rattle.step_refinement.proofs.Owed.{requests_fold}
use Rattle.step_refinement.proofs.Tellings.{unrequested, told_views, tell_tied}
use Rattle.step_refinement.proofs.Numbers.{no_member}
use Rattle.step_refinement.proofs.Refusals.{refused_shut}

-- ---- a leader is named

module _ (g : List ℕ) (x : Ghost) (v : ViewId) (l : Member) (was : x.leads v ≡ None) (unrefused : (p : ProviderId) (r : ℕ) → Has (group.Refusal v p r) x.ps → ⊥) (unshut : Has v x.shut → ⊥) where
  abbrev pub naming : Ghost
  naming = record x { leads = set_view x.leads v (Some l) }

  leads_here : naming.leads v ≡ Some l
  leads_here = view_here x.leads v (Some l)

  leads_there : (u : ViewId) → (u ≡ v → ⊥) → naming.leads u ≡ x.leads u
  leads_there u ne = view_there x.leads v (Some l) u ne

  led_other : (u : ViewId) (k : Member) → x.leads u ≡ Some k → u ≡ v → ⊥
  led_other u k e q = let z : None ≡ Some k = sym was ∙ ap x.leads (sym q) ∙ e in cc

  pub naming_goes : Goes x naming
  naming_goes =
      record {
        packets = λ p h. h;
        records = λ r h. h;
        lines = λ r h. h;
        leads = λ u k e. leads_there u (led_other u k e) ∙ e;
        bases = λ u s. refl;
        asks = refl;
        shut = λ u h. h;
        asked = λ a h. h;
      }

  pub naming_sound : Sound g x → Sound g naming
  naming_sound t =
      record {
        refused = t.refused;
        unled = λ u p r h e. t.unled u p r h (sym (leads_there u (λ q. unrefused p r (subst (λ z. Has (group.Refusal z p r) x.ps) q h))) ∙ e);
        shut = λ u h. let k = t.shut u h in
            (k.0, ⊎_elim (λ (e : x.leads u ≡ None). inl (leads_there u (λ q. unshut (subst (λ z. Has z x.shut) q h)) ∙ e)) (λ (c : Closed x.nodes x.leads x.asks u). inr (record { asks_not = c.asks_not; node = c.node; stands = c.stands; led = naming_goes.leads u (member c.node (x.nodes c.node).inc) c.led; bare = c.bare })) k.1);
        asked = t.asked;
        one = t.one;
        started = t.started;
        told = t.told;
      }

  module _ (m inc : ℕ) (u : ViewId) (bare : u ≡ v → (x.nodes m).list ≡ []) where
    naming_decides : (led : Led) → LeaderKeeps x m inc u led → LeaderKeeps naming m inc u led
    naming_decides led h =
        record {
          refused = λ p r e o i. h.refused p r (sym (leads_there u (λ q. unrefused p r (subst (λ z. Has (group.Refusal z p r) x.ps) q i))) ∙ e) o i;
          begun = λ p r i e a b c. ⊎_elim (λ (q : u ≡ v). absurd (none (x.nodes m).list (bare q) i e b)) (λ (ne : u ≡ v → ⊥). h.begun p r i e (sym (leads_there u ne) ∙ a) b c) (cases_view u v);
          waiting = λ p e i. let z = h.waiting p (h.leads_it p i) i in
              record { proposal = z.proposal; sent = z.sent; joins = z.joins; open_still = z.open_still; unbegun = z.unbegun; decided = z.decided };
          later = λ a b e p r i. h.later a b (sym (leads_there a (λ q. unrefused p r (subst (λ z. Has (group.Refusal z p r) x.ps) q i))) ∙ e) p r i;
          again = h.again;
          leads_it = λ p i. naming_goes.leads u (member m inc) (h.leads_it p i);
          apart = h.apart;
          lasts = h.lasts;
        }
      where
        none : (xs : List Entry) → xs ≡ [] → (i : ℕ) (e : Entry) → slice_get xs i ≡ Some e → ⊥
        none [] q i e z = cc
        none (y ∷ xs) q i e z = cc

  pub naming_node : (m : ℕ) (fixed : Bool) (s : Views) (row : GroupRow) (rows : List GroupRow) (t : SessionState) (table now : List Leader) → (s.view ≡ v → (x.nodes m).list ≡ []) → (s.view ≡ v → (k : ℕ) → Has (group.Stable s.view k) x.ps → k ≤ 0) → Names naming g fixed m s.inc s.view s.members now → NodeOf x g m fixed s row rows t table → NodeOf naming g m fixed s row rows t now
  naming_node m fixed s row rows t table now bare unstable names h =
      node_by x naming naming_goes m refl g fixed s row rows t t table now covers (owes_by x naming naming_goes m (λ a e i. i) (λ u k e i. i) (λ p r u e i. i) g s.inc t h.owes) (naming_decides m s.inc s.view bare row.led h.decides) names (record { few = h.idles.few; shut = λ e k. h.idles.shut (sym (leads_there s.view (λ q. unshut (subst (λ z. Has z x.shut) q k))) ∙ e) k }) h
    where
      covers : (j k : ℕ) → naming.leads s.view ≡ Some (member m j) → Has (group.Stable s.view k) x.ps → (b i : ℕ) → Has (member b i) s.members → b ≢ m → k ≤ acked_from b row.led.acked
      covers j k e c b i a ne =
          ⊎_elim (λ (q : s.view ≡ v). let z = unstable q k c in omega arith) (λ (q : s.view ≡ v → ⊥). h.row_is.covers j k (sym (leads_there s.view q) ∙ e) c b i a ne) (cases_view s.view v)

  -- another's table is as it was
  pub naming_other : (m n : ℕ) (fixed : Bool) (inc : ℕ) (u : ViewId) (ms : List Member) (table : List Leader) → v.coord ≡ n → m ≢ n → Names x g fixed m inc u ms table → Names naming g fixed m inc u ms table
  naming_other m n fixed inc u ms table coord ne h =
      record {
        named = λ k a b c e. let z = h.named k a b c e in (z.0, z.1, naming_goes.leads u (member k z.0) z.2);
        unnamed = λ a b c e. leads_there u (λ q. ne (sym a ∙ ap (λ (z : ViewId). z.coord) q ∙ coord)) ∙ h.unnamed a b c e;
        full = h.full;
      }

-- ---- members of a view lead it

-- who leads is a member
leader_member : {o : Opening} (x : Ghost) → Lives o x → (n j : ℕ) (v : ViewId) (ms : List Member) → Has (In n j v ms) (kept x.all) → (m i : ℕ) → x.leads v ≡ Some (member m i) → Has (member m i) ms
leader_member {o = o} x life n j v ms h m i e = by (k.good.past.led v m i e)
  where
    k : Whole o x.nodes x.ps x.all x.leads x.bases
    k = whole life

    installed : (ns : List Member) (ss : ViewId → List Entry) → Has (group.Install v ns ss) x.ps → Has (member m i) ns → Origin o x.ps n j v ms → Has (member m i) ms
    installed ns ss a b (inl born) =
        absurd (let l = (k.good.past.made v ns ss a).later in let one = born_number o n j v ms born in omega arith)
    installed ns ss a b (inr q) = subst (Has (member m i)) (k.good.inv.one v ns ms ss q.0 a q.1).0 b

    by : moves.Led x.ps (kept x.all) v m i → Has (member m i) ms
    by (inl a) = let q = always_same_members o x.nodes x.ps x.all x.leads x.bases life m n i j v a.0 ms a.1 h in subst (Has (member m i)) q.0 q.1
    by (inr a) = installed a.0 a.1 a.2 a.3 (k.good.past.origin n j v ms h)

-- a member of a view may be named there
member_led : (x : Ghost) → Lives Alone x → (n j : ℕ) (v : ViewId) (ms : List Member) → Has (In n j v ms) (kept x.all) → (m i : ℕ) → Has (member m i) ms → moves.Led x.ps (kept x.all) v m i
member_led x life n j v ms h m i q = by ((whole life).good.past.origin n j v ms h)
  where
    alone : Has (member m i) (member n j ∷ []) → moves.Led x.ps (kept x.all) v m i
    alone (inl e) = inl (ms, subst (λ (z : Member). Has (In z.node z.inc v ms) (kept x.all)) (sym e) h)
    alone (inr z) = absurd z

    by : Origin Alone x.ps n j v ms → moves.Led x.ps (kept x.all) v m i
    by (inl b) = alone (subst (Has (member m i)) b.1 q)
    by (inr b) = inr (ms, b.0, b.1, q)

-- ---- tables

node_of_more : (g h : List ℕ) (m : ℕ) (table : List Leader) → names.node_of g (names.named h m table) ≡ elim (names.node_of g table) as (λ _. Option ℕ) [ Some k ↦ Some k | None ↦ if bytes_eq g h then Some m else None ]
node_of_more g h m [] = refl
node_of_more g h m (y ∷ table) = by (bytes_eq g y.group) (node_of_more g h m table)
  where
    by : (b : Bool) → names.node_of g (names.named h m table) ≡ elim (names.node_of g table) as (λ _. Option ℕ) [ Some k ↦ Some k | None ↦ if bytes_eq g h then Some m else None ] → (if b then Some y.node else names.node_of g (names.named h m table)) ≡ elim (if b then Some y.node else names.node_of g table) as (λ _. Option ℕ) [ Some k ↦ Some k | None ↦ if bytes_eq g h then Some m else None ]
    by true e = refl
    by false e = e

-- ---- LOOKUP

module _ (g : List ℕ) (w : Scene) (n : ℕ) (s : Core) (t : Tied g w n s) (h : List ℕ) (from inc : ℕ) (free : is_fixed w.config.mode ≡ false) (coord : (s.views.view.coord ≡ n) × (s.views.view.inc ≡ s.views.inc)) (among : Has (member from inc) s.views.members) (positive : (m i : ℕ) → Has (member m i) s.views.members → m ≢ 0) where
  abbrev x : Ghost
  x = t.ghost

  abbrev v : ViewId
  v = s.views.view

  free_now : is_fixed s.config.mode ≡ false
  free_now = ap (λ (z : Config). is_fixed z.mode) t.own.1 ∙ free

  -- what is answered
  abbrev Answers : Ghost → ℕ → Type 0
  Answers y m = h ≡ g → (m ≢ 0 → ShowsLeader y v m) × (m ≡ 0 → Has v y.shut)

  answered : (c : Core) (y : Ghost) (u : (k : Tied g w n c) × (k.ghost ≡ y)) (m : ℕ) → Answers y m → Tied g w n (sent c from (body.Name v h m))
  answered c y u m shows = tied_sent g w n c u.0 from (body.Name v h m) (subst (λ z. Answers z m) (sym u.1) shows)

  -- the table changes, and nothing else that concerns the group
  table_set : (table : List Leader) → Names x g (is_fixed s.config.mode) n s.views.inc v s.views.members table → (u : Tied g w n (record s { names = table })) × (u.ghost ≡ x)
  unfolding row_of
  table_set table names =
      let k = t.own.0 in (
        record {
          ghost = x;
          life = t.life;
          lines = t.lines;
          own = (record { stands = k.stands; row_is = k.row_is; order = k.order; gathering = k.gathering; install = k.install; owes = k.owes; decides = k.decides; names = names; asks = k.asks; led = k.led; waits = k.waits; idles = k.idles }, t.own.1, t.own.2);
          others = t.others;
          packets = t.packets;
          sound = t.sound;
          placed = t.placed;
          nobody = t.nobody;
          turns = t.turns;
        },
        refl,
      )

  -- ---- the group has no leader for good

  module _ (unnamed : names.node_of g s.names ≡ None) (full : names.max_names ≤ length s.names) where
    unled : x.leads v ≡ None
    unled = t.own.0.names.unnamed coord.0 coord.1 free_now unnamed

    abbrev y : Ghost
    y = record (t.ghost) { shut = s.views.view ∷ t.ghost.shut }

    goes : Goes x y
    goes = record { packets = λ p h. h; records = λ r h. h; lines = λ l h. h; leads = λ u l e. e; bases = λ u s. refl; asks = refl; shut = λ u h. inr h; asked = λ a h. h }

    spares : (m : ℕ) → m ≢ n → Spares x y m
    spares m ne =
        record { goes = goes; list = refl; leads = λ u s. refl; refusals = λ u p r h. inl h; stables = λ u k h. inl h; puts = λ u k e h. h; told = λ p r u e h. h; shut = λ u e h. old u e h; shut_led = λ u i e h. old_led u i e h; asked = λ a e h. h }
      where
        old_led : (u : ViewId) (i : ℕ) → x.leads u ≡ Some (member m i) → Has u (v ∷ x.shut) → Has u x.shut
        old_led u i e (inr h) = h
        old_led u i e (inl q) = absurd (let z : None ≡ Some (member m i) = sym unled ∙ ap x.leads (sym q) ∙ e in cc)

        old : (u : ViewId) → u.coord ≡ m → Has u (v ∷ x.shut) → Has u x.shut
        old u e (inr h) = h
        old u e (inl q) = absurd (ne (sym e ∙ ap (λ (z : ViewId). z.coord) q ∙ coord.0))

    sound : Sound g y
    sound =
        record { refused = t.sound.refused; unled = λ u p r h e. inr (t.sound.unled u p r h e); shut = λ u h. shut u h; asked = t.sound.asked; one = t.sound.one; started = t.sound.started; told = t.sound.told }
      where
        shut : (u : ViewId) → Has u (v ∷ x.shut) → Seen y u × ((x.leads u ≡ None) ⊎ Closed x.nodes x.leads x.asks u)
        shut u (inr h) = t.sound.shut u h
        shut u (inl q) = subst (λ z. Seen x z × ((x.leads z ≡ None) ⊎ Closed x.nodes x.leads x.asks z)) (sym q) ((n, s.views.inc, s.views.members, t.own.0.stands.seated), inl unled)

    own : NodeOf y g n (is_fixed s.config.mode) s.views (row_of s g) s.groups s.sessions s.names
    own =
        let k = t.own.0 in
        node_by x y goes n refl g (is_fixed s.config.mode) s.views (row_of s g) s.groups s.sessions s.sessions s.names s.names k.row_is.covers (owes_by x y goes n (λ a e i. i) (λ u j e i. i) (λ p r u e i. i) g s.views.inc s.sessions k.owes) (decides_by x y goes n refl (λ u l e. e) (λ u p r h. h) s.views.inc s.views.view (row_of s g).led k.decides) (record { named = k.names.named; unnamed = k.names.unnamed; full = λ a b c d. (unnamed, full) }) (record { few = k.idles.few; shut = λ e i. absurd (let z : None ≡ Some (member n s.views.inc) = sym unled ∙ e in cc) }) k

    shuts : (u : Tied g w n s) × Has v u.ghost.shut
    shuts = (
      record {
        ghost = y;
        life = t.life;
        lines = t.lines;
        own = (own, t.own.1, t.own.2);
        others = λ m ne. node_if_on x y m (spares m ne) refl w.config g (w.incs m) (w.cores m) (t.others m ne);
        packets = λ p i. shows_on x y goes g p (t.packets p i);
        sound = sound;
        placed = t.placed;
        nobody = t.nobody;
        turns = t.turns;
      },
      inl refl,
    )

  -- ---- a new name

  module _ (new : names.node_of g s.names ≡ None) (room : nat_le names.max_names (length s.names) ≡ false) (own_name : h ≡ g) where
    unled_yet : x.leads v ≡ None
    unled_yet = t.own.0.names.unnamed coord.0 coord.1 free_now new

    unshut : Has v x.shut → ⊥
    unshut i = let k = t.own.0.names.full coord.0 coord.1 free_now i in absurd (below (length s.names) k.1 room)
      where
        below : (k : ℕ) → names.max_names ≤ k → nat_le names.max_names k ≡ false → ⊥
        below k a b = grind (arith, nat_tests)

    unrefused : (p : ProviderId) (r : ℕ) → Has (group.Refusal v p r) x.ps → ⊥
    unrefused p r i = unshut (t.sound.unled v p r i unled_yet)

    k : Whole (opening_of w.config) x.nodes x.ps x.all x.leads x.bases
    k = whole t.life

    bare : (m : ℕ) → (x.nodes m).view ≡ v → (x.nodes m).list ≡ []
    bare m e =
        let p : IsPrefix (x.nodes m).list (k.log (x.nodes m).view) = (k.good.inv.node m).part in
        let none : k.log (x.nodes m).view ≡ [] = ap k.log e ∙ k.good.inv.none v unled_yet in front (x.nodes m).list p.rest (p.is ∙ none)
      where
        front : (xs ys : List Entry) → xs ++ ys ≡ [] → xs ≡ []
        front [] ys q = refl
        front (z ∷ xs) ys q = absurd (cc)

    -- nothing is stable yet
    unstable : (m : ℕ) (z : Views) → Stands x m z → z.view ≡ v → (j : ℕ) → Has (group.Stable z.view j) x.ps → j ≤ 0
    unstable m z at e j i =
        let st = k.stable.stable z.view j i in
        let same = always_same_members (opening_of w.config) x.nodes x.ps x.all x.leads x.bases t.life m st.0 z.inc st.1 z.view z.members st.2 at.seated st.3 in
        let most = st.4 m z.inc (subst (Has (member m z.inc)) same.0 same.1) in
        let none : puts_of m z.view (kept x.all) ≡ [] = ap (λ u. puts_of m u (kept x.all)) (sym at.view) ∙ (k.good.past.seated m).list ∙ bare m (at.view ∙ e) in
        let zero : length (puts_of m z.view (kept x.all)) ≡ 0 = ap (λ (l : List Entry). length l) none in omega arith

    abbrev l : Member
    l = member from inc

    abbrev y' : Ghost
    y' = naming g x v l unled_yet unrefused unshut

    life : Lives (opening_of w.config) y'
    life =
        let o : opening_of w.config ≡ Alone = opening_alone w.config w.config.mode free in
        let alone : Lives Alone x = subst (λ z. Lives z x) o t.life in
        subst (λ z. Lives z y') (sym o) (moves.Names x.nodes x.ps x.all x.leads y'.leads x.bases v from inc alone unled_yet (record { here = view_here x.leads v (Some l); there = λ u ne. view_there x.leads v (Some l) u ne }) (member_led x alone n s.views.inc v s.views.members t.own.0.stands.seated from inc among) tt)

    table : List Leader
    table = names.named h from s.names

    names_now : Names y' g (is_fixed s.config.mode) n s.views.inc v s.views.members table
    unfolding table
    names_now =
        record {
          named = λ m a b c e. let q : from ≡ m = known m e in (inc, subst (λ z. Has (member z inc) s.views.members) q among, view_here x.leads v (Some l) ∙ ap (λ z. Some (member z inc)) q);
          unnamed = λ a b c e. absurd (let q : Some from ≡ None = sym named_now ∙ e in cc);
          full = λ a b c e. absurd (unshut e);
        }
      where
        named_now : names.node_of g (names.named h from s.names) ≡ Some from
        named_now =
            node_of_more g h from s.names ∙ ap (λ o. elim o as (λ _. Option ℕ) [ Some k ↦ Some k | None ↦ if bytes_eq g h then Some from else None ]) new ∙ ap (λ b. if b then Some from else None) (ap (bytes_eq g) own_name ∙ text_self g)

        known : (m : ℕ) → names.node_of g (names.named h from s.names) ≡ Some m → from ≡ m
        known m e = let q : Some from ≡ Some m = sym named_now ∙ e in cc

    named_tied : (u : Tied g w n (record s { names = names.named h from s.names })) × (u.ghost.leads v ≡ Some l)
    unfolding row_of table
    named_tied = (
      record {
        ghost = y';
        life = life;
        lines = t.lines;
        own = (naming_node g x v l unled_yet unrefused unshut n (is_fixed s.config.mode) s.views (row_of s g) s.groups s.sessions s.names table (λ e. bare n t.own.0.stands.view) (λ e. unstable n s.views t.own.0.stands e) names_now t.own.0, t.own.1, t.own.2);
        others = λ m ne. other m ne (w.cores m) (t.others m ne);
        packets = λ p i. shows_on x y' (naming_goes g x v l unled_yet unrefused unshut) g p (t.packets p i);
        sound = naming_sound g x v l unled_yet unrefused unshut t.sound;
        placed = t.placed;
        nobody = t.nobody;
        turns = t.turns;
      },
      view_here x.leads v (Some l),
    )
      where
        other : (m : ℕ) → m ≢ n → (o : Option Core) → NodeIsIf w.config x g m (w.incs m) o → NodeIsIf w.config y' g m (w.incs m) o
        other m ne None i = i
        other m ne (Some c) i =
            (naming_node g x v l unled_yet unrefused unshut m (is_fixed c.config.mode) c.views (row_of c g) c.groups c.sessions c.names c.names (λ e. bare m (i.0.stands.view ∙ e)) (λ e. unstable m c.views i.0.stands e) (naming_other g x v l unled_yet unrefused unshut m n (is_fixed c.config.mode) c.views.inc c.views.view c.views.members c.names coord.0 ne i.0.names) i.0, i.1, i.2)

  -- ---- the answer

  pub looked_tied : Tied g w n (sent (record s { names = names.lookup h from s.names }) from (body.Name v h (unwrap_or (names.looked_up h from s.names) 0)))
  looked_tied = by (names.node_of h s.names) (nat_le names.max_names (length s.names)) refl refl (cases_text h g)
    where
      same_node : h ≡ g → names.node_of h s.names ≡ names.node_of g s.names
      same_node e = ap (λ z. names.node_of z s.names) e

      most : nat_le names.max_names (length s.names) ≡ true → names.max_names ≤ length s.names
      most e = at (length s.names) e
        where
          at : (k : ℕ) → nat_le names.max_names k ≡ true → names.max_names ≤ k
          at k e = grind (arith, nat_tests)

      -- of another group
      more : (h ≡ g → ⊥) → names.node_of g (names.named h from s.names) ≡ names.node_of g s.names
      more ne =
          node_of_more g h from s.names ∙ ap (λ b. elim (names.node_of g s.names) as (λ _. Option ℕ) [ Some k ↦ Some k | None ↦ if b then Some from else None ]) (text_other g h (λ e. ne (sym e))) ∙ same (names.node_of g s.names)
        where
          same : (o : Option ℕ) → elim o as (λ _. Option ℕ) [ Some k ↦ Some k | None ↦ if false then Some from else None ] ≡ o
          same None = refl
          same (Some k) = refl

      longer : (k : List Leader) → length k ≤ length (names.named h from k)
      longer [] = omega arith
      longer (z ∷ k) = let q = longer k in omega arith

      other_names : (h ≡ g → ⊥) → Names x g (is_fixed s.config.mode) n s.views.inc v s.views.members (names.named h from s.names)
      other_names ne =
          let k = t.own.0.names in
          record {
            named = λ m a b c e. k.named m a b c (sym (more ne) ∙ e);
            unnamed = λ a b c e. k.unnamed a b c (sym (more ne) ∙ e);
            full = λ a b c e. let z = k.full a b c e in let q = longer s.names in (more ne ∙ z.0, let d = z.1 in omega arith);
          }

      by : (o : Option ℕ) (b : Bool) → names.node_of h s.names ≡ o → nat_le names.max_names (length s.names) ≡ b → (h ≡ g) ⊎ (h ≡ g → ⊥) → Tied g w n (sent (record s { names = names.table_at h from s.names b o }) from (body.Name v h (unwrap_or (names.answer_at from b o) 0)))
      by (Some m) b e q c =
          answered (record s { names = s.names }) x (table_set s.names t.own.0.names) m (λ same. ((λ ne. let z = t.own.0.names.named m coord.0 coord.1 free_now (sym (same_node same) ∙ e) in record { inc = z.0; leads = z.2 }), λ zero. absurd (let z = t.own.0.names.named m coord.0 coord.1 free_now (sym (same_node same) ∙ e) in positive m z.0 z.1 zero)))
      by None true e q (inr ne) =
          answered (record s { names = s.names }) x (table_set s.names t.own.0.names) 0 (λ same. absurd (ne same))
      by None true e q (inl same) =
          let k = shuts (sym (same_node same) ∙ e) (most q) in
          answered_by k.0 k.1
        where
          answered_by : (u : Tied g w n s) → Has v u.ghost.shut → Tied g w n (sent (record s { names = s.names }) from (body.Name v h 0))
          answered_by u shut = tied_sent g w n s u from (body.Name v h 0) (λ same. ((λ ne. absurd (ne refl)), λ zero. shut))
      by None false e q (inr ne) =
          answered (record s { names = names.named h from s.names }) x (table_set (names.named h from s.names) (other_names ne)) from (λ same. absurd (ne same))
      by None false e q (inl same) =
          let k = named_tied (sym (same_node same) ∙ e) q same in
          answered (record s { names = names.named h from s.names }) k.0.ghost (k.0, refl) from (λ z. ((λ ne. record { inc = inc; leads = k.1 }), λ zero. absurd (positive from inc among zero)))

-- LOOKUP
pub lookup_is_tied : (v : ViewId) (h : List ℕ) (g : List ℕ) (w : Scene) (n : ℕ) (f : Answering) (s : Core) (p : Packet) → p.body ≡ body.Lookup v h → Has p w.sent → Tied g w n s → Tied g w n (take_body f s p (body.Lookup v h))
unfolding take_body used_if take_lookup coordinates is_coordinator
lookup_is_tied v h g w n f s p is delivered t = by (is_used s p v) refl
  where
    shown : t.ghost.asks ≡ true
    shown = subst (ShowsBody t.ghost g p.from p.inc p.to) is (t.packets p (append_has_right p s.sends w.sent delivered))

    by : (b : Bool) → is_used s p v ≡ b → Tied g w n (used_if s (take_lookup s p.from h) b)
    by false e = t
    by true e = at (s.views.view.coord == s.views.me && s.views.view.inc == s.views.inc) refl
      where
        at : (b : Bool) → (s.views.view.coord == s.views.me && s.views.view.inc == s.views.inc) ≡ b → Tied g w n (elim b as (λ _. Core) [ false ↦ s | true ↦ sent (record s { names = names.lookup h p.from s.names }) p.from (body.Name s.views.view h (unwrap_or (names.looked_up h p.from s.names) 0)) ])
        at false q = t
        at true q =
            let k = and_parts (s.views.view.coord == s.views.me) (s.views.view.inc == s.views.inc) q in
            looked_tied g w n s t h p.from p.inc (asked_free g w n s t shown) (eqb-true s.views.view.coord s.views.me k.0 ∙ t.own.0.stands.me, eqb-true s.views.view.inc s.views.inc k.1) (used_is s p v e).2 (no_member g w n s t (asked_free g w n s t shown))

-- ---- NAME

module _ (v : ViewId) (h : List ℕ) (k : ℕ) (g : List ℕ) (w : Scene) (n : ℕ) (s : Core) (p : Packet) (is : p.body ≡ body.Name v h k) (delivered : Has p w.sent) (view_is : v ≡ s.views.view) where
  -- what the packet shows, at any moment
  shown : (c : Core) (t : Tied g w n c) → h ≡ g → (k ≢ 0 → ShowsLeader t.ghost v k) × (k ≡ 0 → Has v t.ghost.shut)
  shown c t = subst (ShowsBody t.ghost g p.from p.inc p.to) is (t.packets p (append_has_right p c.sends w.sent delivered))

  -- nobody leads for good: each request of the group is refused
  one_refused : k ≡ 0 → (c : Core) (t : Tied g w n c) → c.views ≡ s.views → (q : ProviderId) (r : ℕ) → Has (asking q r h) t.ghost.asked → (u : Tied g w n (take_tell c q r (GroupsFull 64))) × (u.ghost.asked ≡ t.ghost.asked)
  one_refused zero c t same q r asked = by (cases_text h g)
    where
      by : (h ≡ g) ⊎ (h ≡ g → ⊥) → (u : Tied g w n (take_tell c q r (GroupsFull 64))) × (u.ghost.asked ≡ t.ghost.asked)
      by (inr ne) = tell_tied g w n c q r (GroupsFull 64) t (λ z i a b. inr (unrequested g w n c t h q r asked ne c.views.view))
      by (inl e) =
          let here : c.views.view ≡ v = ap (λ (z : Views). z.view) same ∙ sym view_is in
          let d = refused_shut g w n c t q r (subst (λ z. Has z t.ghost.shut) (sym here) ((shown c t e).1 zero)) in
          let u = tell_tied g w n c q r (GroupsFull 64) d.0 (λ z i a b. inl d.1) in (u.0, u.1 ∙ d.2)

  all_refused : k ≡ 0 → (qs : List Request) (c : Core) (t : Tied g w n c) → c.views ≡ s.views → ((q : Request) → Has q qs → Has (asking q.provider q.request h) t.ghost.asked) → Tied g w n (fold (λ d (q : Request). take_tell d q.provider q.request (GroupsFull 64)) c qs)
  all_refused zero [] c t same asked = t
  all_refused zero (q ∷ qs) c t same asked =
      let u = one_refused zero c t same q.provider q.request (asked q (inl refl)) in
      all_refused zero qs (take_tell c q.provider q.request (GroupsFull 64)) u.0 (told_views c q.provider q.request (GroupsFull 64) ∙ same) (λ z i. subst (Has (asking z.provider z.request h)) (sym u.1) (asked z (inr i)))

  asked_of : (t : Tied g w n s) (q : Request) → Has q (requests_of s h) → Has q s.sessions.requests × Has (asking q.provider q.request h) t.ghost.asked
  unfolding requests_of
  asked_of t q i =
      let j = has_filter (λ (q : Request). bytes_eq q.group h) q s.sessions.requests i in
      (j.0, subst (λ z. Has (asking q.provider q.request z) t.ghost.asked) (text_same q.group h j.1) (t.own.0.owes.own q j.0).2)

  name_tied : (t : Tied g w n s) → (b : Bool) → (k == 0) ≡ b → Tied g w n (named s h k b)
  unfolding named set_leader with_row
  name_tied t true e = all_refused (eqb-true k 0 e) (requests_of s h) s t refl (λ q i. (asked_of t q i).1)
  name_tied t false e =
      requests_fold g w n (requests_of s h) (set_leader s h k) (λ q i. (asked_of t q i).0) (tied_led_by g w n s t h k (λ same. knows same))
    where
      knows : h ≡ g → KnowsLeader t.ghost s.views.view s.views.members (Some k)
      knows same =
          let z = (shown s t same).0 (eqb-false k 0 e) in
          let l : t.ghost.leads s.views.view ≡ Some (member k z.inc) = ap t.ghost.leads (sym view_is) ∙ z.leads in
          (z.inc, leader_member t.ghost t.life n s.views.inc s.views.view s.views.members t.own.0.stands.seated k z.inc l, l)

-- NAME
pub name_is_tied : (v : ViewId) (h : List ℕ) (k : ℕ) (g : List ℕ) (w : Scene) (n : ℕ) (f : Answering) (s : Core) (p : Packet) → p.body ≡ body.Name v h k → Has p w.sent → Tied g w n s → Tied g w n (take_body f s p (body.Name v h k))
unfolding take_body used_if take_name
name_is_tied v h k g w n f s p is delivered t = by (is_used s p v) refl (is_name_used s h k)
  where
    by : (b : Bool) → is_used s p v ≡ b → (c : Bool) → Tied g w n (used_if s (elim c as (λ _. Core) [ true ↦ named s h k (k == 0) | false ↦ s ]) b)
    by false e c = t
    by true e false = t
    by true e true = name_tied v h k g w n s p is delivered (used_is s p v e).0 t (k == 0) refl
