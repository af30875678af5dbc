-- REQUEST: the leader of a group notes itself and decides.
use Rattle.std.proofs.Common.{◌≡◌, ◌≢◌, ◌≤◌, ◌<◌, ◌⊎◌, ℕ, List, [], ◌∷◌, Option, Some, None, Bool, true, false, refl, sym, ap, ◌∙◌, subst, inl, inr, arith}
use Rattle.std.specs.Prelude.{◌==◌, ◌&&◌, not, length, nat_lt, nat_le, is_some}
use Rattle.std.proofs.lemmas.Bool.{eqb-true, eq-eqb, and_parts}
use Rattle.std.proofs.lemmas.Bool.Decides.{nat_tests}
use Rattle.rsct_packet.specs.declared.ids.ViewId.{ViewId}
use Rattle.rsct_packet.specs.declared.ids.ProviderId.{ProviderId}
use Rattle.rsct_packet.specs.Providers.{among}
use Rattle.rsct_packet.specs.Search.{Has}
use Rattle.rsct_packet.proofs.HasLaws.{append_has_right}
use Rattle.group_attr.specs.declared.attrs.Phases.{Phases}
use Rattle.proposal_core.specs.declared.proposal.Proposal.{Proposal}
use Rattle.proposal_core.specs.declared.proposal.Proposal.TheVariants.{Join, Leave, Fail, Expel, State, Message, Attributes, Reflect}
use Rattle.proposal_core.specs.GroupView.{GroupView}
use Rattle.client_callbacks.specs.declared.told.Why.{Why}
use Rattle.view_state.specs.declared.views.Views.{Views}
use Rattle.node_state.specs.declared.config.Config.{Config}
use Rattle.node_state.specs.declared.config.Mode.{Mode}
use Rattle.node_state.specs.declared.config.Mode.TheVariants.{Fixed, Asked, Rings}
use Rattle.node_state.specs.declared.group.Decision.{Decision}
use Rattle.node_state.specs.declared.group.GroupRow.{GroupRow}
use Rattle.node_state.specs.declared.group.Led.{Led}
use Rattle.node_state.specs.declared.packet.Body.TheVariants as body
use Rattle.node_state.specs.declared.packet.Packet.{Packet}
use Rattle.node_state.specs.declared.state.Core.{Core}
use Rattle.node_state.specs.Settings.{is_fixed}
use Rattle.node_state.specs.State.{row_of, with_row, led_of, held_rows, holds, decision_of, is_this, leader_by, leader_in, leads_in, leads, set_leader}
use Rattle.node_state.specs.HandOn.{Answering}
use Rattle.node_state.specs.Sending.{sent}
use Rattle.node_state.specs.Deciding.{join_refusal, decide_change, other_refusal, decided}
use Rattle.node_state.specs.Following.{max_groups, tell_again, decide_new, request_after, request_at, is_group_refused, take_request}
use Rattle.node_state.specs.Step.{is_used, used_if, take_body}
use Rattle.run_safety.specs.Group.{member}
use Rattle.run_safety.specs.Group as group
use Rattle.run_safety.specs.Requests.{requests_of}
use Rattle.run_safety.proofs.Parts.{member_parts}
use Rattle.step_refinement.specs.Ghost.{asking, Ghost, Goes, Seen, KeepsIf}
use Rattle.step_refinement.specs.Tied.{ShowsBody, ShowsLeader, ShowsRequest, KnowsLeader, rows_held, Closed, NodeOf, Sound, Scene, Begun, Tied}
use Rattle.step_refinement.proofs.Goes.{Spares, owes_by, decides_by, node_by, shows_on, node_if_on}
use Rattle.step_refinement.proofs.Works.{tied_sent}
use Rattle.node_state.proofs.NameOrder.{cases_text, row_here}
use Rattle.step_refinement.proofs.Acks.{used_is, member_self}
use Rattle.step_refinement.proofs.RowWorks.{led_by_kept}
use Rattle.step_refinement.proofs.Decisions.{Newer, Ripe}
use Rattle.step_refinement.proofs.Deciding.{is_joining, joins_decided, others_decided}
use Rattle.step_refinement.proofs.Appending.{Leading}
use Rattle.step_refinement.proofs.Leads.{leader_inc}

-- numbers and tests
le_true : (k n : ℕ) → k ≤ n → nat_le k n ≡ true
le_true k n a = grind (arith, nat_tests)

true_le : (k n : ℕ) → nat_le k n ≡ true → k ≤ n
true_le k n a = grind (arith, nat_tests)

fixed_of : (b : Bool) → not b ≡ false → b ≡ true
fixed_of true e = refl
fixed_of false e = absurd (cc)

not_true : (b : Bool) → not b ≡ true → b ≡ false
not_true false e = refl
not_true true e = absurd (cc)

none_is : (l : Option GroupView) → is_some l ≡ false → l ≡ None
none_is None e = refl
none_is (Some l) e = absurd (cc)

-- numbers in their order
newer_than : (r k : ℕ) → nat_lt r k ≡ false → (r == k) ≡ false → k < r
newer_than r k a b = grind (arith, nat_tests)

module _ (v : ViewId) (h : List ℕ) (q : ProviderId) (r : ℕ) (phases : Phases) (x : Proposal) (g : List ℕ) (w : Scene) (n : ℕ) (f : Answering) (s : Core) (p : Packet) (to : p.to ≡ n) (is : p.body ≡ body.Request v h q r phases x) (delivered : Has p w.sent) (view_is : v ≡ s.views.view) (thawed : s.views.promise ≡ s.views.view) (ripe : h ≡ g → Ripe (led_of s h) q r) (begun : Begun h s) where
  shown : (c : Core) (t : Tied g w n c) → Has (asking q r h) t.ghost.asked × Has (q, r) (requests_of x) × (h ≡ g → ShowsRequest t.ghost p.to v q r x)
  shown c t = subst (ShowsBody t.ghost g p.from p.inc p.to) is (t.packets p (append_has_right p c.sends w.sent delivered))

  -- the node leads the group
  leads_here : (t : Tied g w n s) → h ≡ g → t.ghost.leads s.views.view ≡ Some (member n s.views.inc)
  leads_here t e =
      let k = ((shown s t).2 e).leader in
      leader_inc g w n s t (record { inc = k.inc; leads = ap t.ghost.leads (sym view_is) ∙ k.leads ∙ ap (λ m. Some (member m k.inc)) to })

  coordinates : (t : Tied g w n s) → h ≡ g → ShowsLeader t.ghost s.views.view s.views.view.coord → s.views.view.coord ≡ n
  coordinates t e k = (member_parts s.views.view.coord n k.inc s.views.inc (sym k.leads ∙ leads_here t e)).0

  -- in mode fixed as the coordinator
  leads_fixed : (t : Tied g w n s) → h ≡ g → is_fixed s.config.mode ≡ true → leads s h ≡ true
  unfolding leads leads_in leader_in
  leads_fixed t e = by s.config.mode t.own.0.led
    where
      by : (mode : Mode) → (is_fixed mode ≡ true → ShowsLeader t.ghost s.views.view s.views.view.coord) → is_fixed mode ≡ true → is_this s.views.me (leader_by mode s.views.view.coord (row_of s h).leader) ≡ true
      by Fixed led q = eq-eqb s.views.view.coord s.views.me (coordinates t e (led refl) ∙ sym t.own.0.stands.me)
      by Asked led q = absurd (cc)
      by Rings led q = absurd (cc)

  -- a group whose requests it takes is not shut out
  open_here : (t : Tied g w n s) → is_group_refused s h ≡ false → h ≡ g → Has s.views.view t.ghost.shut → ⊥
  unfolding is_group_refused holds held_rows
  open_here t taken e k = by (t.sound.shut s.views.view k).1
    where
      by : (t.ghost.leads s.views.view ≡ None) ⊎ Closed t.ghost.nodes t.ghost.leads t.ghost.asks s.views.view → ⊥
      by (inl none) = let z : None ≡ Some (member n s.views.inc) = sym none ∙ leads_here t e in cc
      by (inr c) =
          let z = t.own.0.idles.shut (leads_here t e) k in
          let fixed : is_fixed s.config.mode ≡ true = fixed_of (is_fixed s.config.mode) (sym t.own.0.asks ∙ c.asks_not) in
          let bare : is_some (row_of s h).list ≡ false = ap (λ y. is_some (row_of s y).list) e ∙ ap (λ (l : Option GroupView). is_some l) z.bare in
          let full : nat_le max_groups (length (rows_held s.groups)) ≡ true = le_true max_groups (length (rows_held s.groups)) z.full in
          let all : (is_fixed s.config.mode && not (is_some (row_of s h).list) && nat_le max_groups (length (rows_held s.groups))) ≡ true = λ i. fixed i && not (bare i) && full i in
          let y : true ≡ false = sym all ∙ taken in cc

  noted_kept : (t : Tied g w n s) → (u : Tied g w n (set_leader s h s.views.me)) × (u.ghost ≡ t.ghost)
  noted_kept t = led_by_kept g w n s t h s.views.me (λ e. knows e)
    where
      knows : h ≡ g → KnowsLeader t.ghost s.views.view s.views.members (Some s.views.me)
      knows e =
          let k = t.own.0.stands in
          (s.views.inc, subst (λ m. Has (member m s.views.inc) s.views.members) (sym k.me) (member_self t.ghost t.life n s.views.inc s.views.view s.views.members k.seated), leads_here t e ∙ ap (λ m. Some (member m s.views.inc)) (sym k.me))

  noted : (t : Tied g w n s) → Tied g w n (set_leader s h s.views.me)
  noted t = (noted_kept t).0

  leads_noted : (t : Tied g w n s) → h ≡ g → leads (set_leader s h s.views.me) h ≡ true
  unfolding leads leads_in leader_in set_leader with_row
  leads_noted t e = by s.config.mode t.own.0.led
    where
      row : (row_of (with_row s h (λ row. record row { leader = Some s.views.me })) h).leader ≡ Some s.views.me
      row = ap (λ (z : GroupRow). z.leader) (row_here h (λ row. record row { leader = Some s.views.me }) (λ z. refl) s t.own.0.order)

      by : (mode : Mode) → (is_fixed mode ≡ true → ShowsLeader t.ghost s.views.view s.views.view.coord) → is_this s.views.me (leader_by mode s.views.view.coord (row_of (with_row s h (λ row. record row { leader = Some s.views.me })) h).leader) ≡ true
      by Fixed led = eq-eqb s.views.view.coord s.views.me (coordinates t e (led refl) ∙ sym t.own.0.stands.me)
      by Asked led = ap (is_this s.views.me) row ∙ eq-eqb s.views.me s.views.me refl
      by Rings led = ap (is_this s.views.me) row ∙ eq-eqb s.views.me s.views.me refl

  noted_views : (set_leader s h s.views.me).views ≡ s.views
  unfolding set_leader with_row
  noted_views = refl

  led_row : (t : Tied g w n s) → (row_of (set_leader s h s.views.me) h).led ≡ (row_of s h).led
  unfolding set_leader
  led_row t = ap (λ (z : GroupRow). z.led) (row_here h (λ row. record row { leader = Some s.views.me }) (λ z. refl) s t.own.0.order)

  list_row : (t : Tied g w n s) → (row_of (set_leader s h s.views.me) h).list ≡ (row_of s h).list
  unfolding set_leader
  list_row t = ap (λ (z : GroupRow). z.list) (row_here h (λ row. record row { leader = Some s.views.me }) (λ z. refl) s t.own.0.order)

  config_same : (set_leader s h s.views.me).config ≡ s.config
  unfolding set_leader with_row
  config_same = refl

  -- it notes itself and decides
  new_tied : (t : Tied g w n s) → (h ≡ g → Has s.views.view t.ghost.shut → ⊥) → (h ≡ g → Newer (row_of s h).led q r) → Tied g w n (decide_new f s h q r phases x)
  unfolding decide_new decided led_of noted_kept noted
  new_tied t unshut newer = by x refl
    where
      c : Core
      c = set_leader s h s.views.me

      views_are : c.views ≡ s.views
      views_are = noted_views

      start : Leading g w n c c
      start = record { tied = noted t; same = refl; leads = λ k. refl }

      ripe_now : h ≡ g → Ripe (row_of c h).led q r
      ripe_now e = subst (λ l. Ripe l q r) (sym (led_row t)) (ripe e)

      newer_now : h ≡ g → Newer (row_of c h).led q r
      newer_now e = subst (λ l. Newer l q r) (sym (led_row t)) (newer e)

      facts : Has (asking q r h) start.tied.ghost.asked × Has (q, r) (requests_of x) × (h ≡ g → ShowsRequest start.tied.ghost p.to v q r x)
      facts = shown c start.tied

      request : h ≡ g → Has (group.Request c.views.view q r x) start.tied.ghost.ps
      request e = subst (λ z. Has (group.Request z q r x) start.tied.ghost.ps) (view_is ∙ ap (λ (z : Views). z.view) (sym views_are)) (facts.2 e).sent

      open_now : h ≡ g → Has c.views.view start.tied.ghost.shut → ⊥
      open_now e k = unshut e (subst (λ (z : Views × Ghost). Has z.0.view z.1.shut) (λ i. (views_are i, (noted_kept t).1 i)) k)

      begun_now : h ≡ g → is_fixed c.config.mode ≡ true → (row_of c h).list ≡ None → (row_of c h).led.waiting.joins ≡ []
      begun_now e fixed bare =
          let was : is_fixed s.config.mode ≡ true = ap (λ (z : Config). is_fixed z.mode) (sym config_same) ∙ fixed in
          ap (λ (l : Led). l.waiting.joins) (led_row t) ∙ begun was (leads_fixed t e was) (sym (list_row t) ∙ bare)

      thawed_now : c.views.promise ≡ c.views.view
      thawed_now = subst (λ (z : Views). z.promise ≡ z.view) (sym views_are) thawed

      other : (y : Proposal) → x ≡ y → is_joining x ≡ false → Tied g w n (decide_change f c h q r phases y (other_refusal c h q y))
      other y e single =
          subst (λ z. Tied g w n (decide_change f c h q r phases z (other_refusal c h q z))) e (others_decided g w n c f thawed_now h q r x facts.1 (λ k. leads_noted t k) c start newer_now ripe_now facts.0 request open_now begun_now phases single).tied

      by : (y : Proposal) → x ≡ y → Tied g w n (decided f c h q r phases y)
      by (Join ps attrs len) e =
          (joins_decided g w n c f thawed_now h q r x facts.1 (λ k. leads_noted t k) c start newer_now ripe_now facts.0 request open_now begun_now ps attrs len e (join_refusal c h q attrs) refl).tied
      by (Leave a i) e = other (Leave a i) e (ap is_joining e)
      by (Fail out) e = other (Fail out) e (ap is_joining e)
      by (Expel a i out) e = other (Expel a i out) e (ap is_joining e)
      by (State a i value) e = other (State a i value) e (ap is_joining e)
      by (Message a i bytes) e = other (Message a i bytes) e (ap is_joining e)
      by (Attributes a i attrs) e = other (Attributes a i attrs) e (ap is_joining e)
      by (Reflect view place value) e = other (Reflect view place value) e (ap is_joining e)

  -- a refusal is told again
  again_tied : (t : Tied g w n s) (d : Decision) → decision_of (led_of s h) q ≡ Some d → (r == d.request) ≡ true → Tied g w n (tell_again s h q r d.why)
  unfolding tell_again led_of
  again_tied t d e same = by d.why refl
    where
      by : (o : Option Why) → d.why ≡ o → Tied g w n (tell_again s h q r o)
      by None k = t
      by (Some why) k = tied_sent g w n s t q.node (body.Tell s.views.view h q r why) ((shown s t).0, refusal)
        where
          refusal : h ≡ g → Has (group.Refusal s.views.view q r) t.ghost.ps
          refusal z =
              subst (λ i. Has (group.Refusal s.views.view q i) t.ghost.ps) (sym (eqb-true r d.request same)) (t.own.0.decides.again q d why (ap (λ y. decision_of (row_of s y).led q) (sym z) ∙ e) k)

  at_tied : (t : Tied g w n s) → (h ≡ g → Has s.views.view t.ghost.shut → ⊥) → (o : Option Decision) → decision_of (led_of s h) q ≡ o → Tied g w n (request_at f s h q r phases x o)
  unfolding request_at request_after led_of
  at_tied t unshut None e = new_tied t unshut (λ z d k. absurd (let c : None ≡ Some d = sym e ∙ k in cc))
  at_tied t unshut (Some d) e = by (nat_lt r d.request) (r == d.request) refl refl
    where
      by : (a b : Bool) → nat_lt r d.request ≡ a → (r == d.request) ≡ b → Tied g w n (request_after f s h q r phases x d a b)
      by true b i j = t
      by false true i j = again_tied t d e j
      by false false i j =
          new_tied t unshut (λ z y k. let c : Some d ≡ Some y = sym e ∙ k in
          let same : d ≡ y = cc in subst (λ (y : Decision). y.request < r) same (newer_than r d.request i j))

  -- a new group where 64 lists are held, in mode fixed: the view is shut to it
  module _ (t : Tied g w n s) (refused : is_group_refused s h ≡ true) (same : h ≡ g) where
    abbrev y : Ghost
    y = record (t.ghost) { shut = s.views.view ∷ t.ghost.shut }

    why : (is_fixed s.config.mode ≡ true) × (is_some (row_of s h).list ≡ false) × (max_groups ≤ length (rows_held s.groups))
    unfolding is_group_refused holds held_rows
    why =
        let a = and_parts (is_fixed s.config.mode && not (is_some (row_of s h).list)) (nat_le max_groups (length (rows_held s.groups))) refused in
        let b = and_parts (is_fixed s.config.mode) (not (is_some (row_of s h).list)) a.0 in
        (b.0, not_true (is_some (row_of s h).list) b.1, true_le max_groups (length (rows_held s.groups)) a.1)

    bare : (row_of s g).list ≡ None
    bare = none_is (row_of s g).list (ap (λ z. is_some (row_of s z).list) (sym same) ∙ why.1)

    idle : (row_of s g).led.waiting.joins ≡ []
    idle =
        subst (λ z. (row_of s z).led.waiting.joins ≡ []) same (begun why.0 (leads_fixed t same why.0) (none_is (row_of s h).list why.1))

    led : t.ghost.leads s.views.view ≡ Some (member n s.views.inc)
    led = leads_here t same

    coord : s.views.view.coord ≡ n
    coord = coordinates t same (t.own.0.led why.0)

    no_entry : (t.ghost.nodes n).list ≡ []
    no_entry =
        (subst (KeepsIf t.ghost s.views.view (t.ghost.nodes n).list) bare t.own.0.row_is.list).0

    closed : Closed t.ghost.nodes t.ghost.leads t.ghost.asks s.views.view
    closed =
        record { asks_not = t.own.0.asks ∙ ap not why.0; node = n; stands = t.own.0.stands.view; led = led ∙ ap (λ j. Some (member n j)) (sym t.own.0.stands.inc); bare = no_entry }

    goes : Goes t.ghost y
    goes = record { packets = λ p h. h; records = λ r h. h; lines = λ l h. h; leads = λ u l e. e; bases = λ u s. refl; asks = refl; shut = λ u h. inr h; asked = λ a h. h }

    spares : (m : ℕ) → m ≢ n → Spares t.ghost y m
    spares m ne =
        record { goes = goes; list = refl; leads = λ u s. refl; refusals = λ u p r h. inl h; stables = λ u k h. inl h; puts = λ u k e h. h; told = λ p r u e h. h; shut = λ u e h. old u e h; shut_led = λ u i e h. old_led u i e h; asked = λ a e h. h }
      where
        old : (u : ViewId) → u.coord ≡ m → Has u (s.views.view ∷ t.ghost.shut) → Has u t.ghost.shut
        old u e (inr h) = h
        old u e (inl q) = absurd (ne (sym e ∙ ap (λ (z : ViewId). z.coord) q ∙ coord))

        old_led : (u : ViewId) (i : ℕ) → t.ghost.leads u ≡ Some (member m i) → Has u (s.views.view ∷ t.ghost.shut) → Has u t.ghost.shut
        old_led u i e (inr h) = h
        old_led u i e (inl q) = absurd (ne (member_parts m n i s.views.inc (sym e ∙ ap t.ghost.leads q ∙ led)).0)

    sound : Sound g y
    sound =
        record { refused = t.sound.refused; unled = λ u p r h e. inr (t.sound.unled u p r h e); shut = λ u h. shut u h; asked = t.sound.asked; one = t.sound.one; started = t.sound.started; told = t.sound.told }
      where
        shut : (u : ViewId) → Has u (s.views.view ∷ t.ghost.shut) → Seen y u × ((t.ghost.leads u ≡ None) ⊎ Closed t.ghost.nodes t.ghost.leads t.ghost.asks u)
        shut u (inr h) = t.sound.shut u h
        shut u (inl q) = subst (λ z. Seen t.ghost z × ((t.ghost.leads z ≡ None) ⊎ Closed t.ghost.nodes t.ghost.leads t.ghost.asks z)) (sym q) ((n, s.views.inc, s.views.members, t.own.0.stands.seated), inr closed)

    own : NodeOf y g n (is_fixed s.config.mode) s.views (row_of s g) s.groups s.sessions s.names
    own =
        let k = t.own.0 in
        node_by t.ghost y goes n refl g (is_fixed s.config.mode) s.views (row_of s g) s.groups s.sessions s.sessions s.names s.names k.row_is.covers (owes_by t.ghost y goes n (λ a e i. i) (λ u j e i. i) (λ p r u e i. i) g s.views.inc s.sessions k.owes) (decides_by t.ghost y goes n refl (λ u l e. e) (λ u p r h. h) s.views.inc s.views.view (row_of s g).led k.decides) (record { named = k.names.named; unnamed = k.names.unnamed; full = λ a b c d. absurd (let z : true ≡ false = sym why.0 ∙ c in cc) }) (record { few = k.idles.few; shut = λ e i. record { bare = bare; idle = idle; full = why.2 } }) k

    shuts : (u : Tied g w n s) × Has s.views.view u.ghost.shut
    shuts = (
      record {
        ghost = y;
        life = t.life;
        lines = t.lines;
        own = (own, t.own.1, t.own.2);
        others = λ m ne. node_if_on t.ghost y m (spares m ne) refl w.config g (w.incs m) (w.cores m) (t.others m ne);
        packets = λ p i. shows_on t.ghost y goes g p (t.packets p i);
        sound = sound;
        placed = t.placed;
        nobody = t.nobody;
        turns = t.turns;
      },
      inl refl,
    )

  full_tied : (t : Tied g w n s) → is_group_refused s h ≡ true → Tied g w n (sent s p.from (body.Name s.views.view h 0))
  full_tied t e = by (cases_text h g)
    where
      by : (h ≡ g) ⊎ (h ≡ g → ⊥) → Tied g w n (sent s p.from (body.Name s.views.view h 0))
      by (inl same) =
          let u = shuts t e same in
          tied_sent g w n s u.0 p.from (body.Name s.views.view h 0) (λ z. ((λ ne. absurd (ne refl)), λ zero. u.1))
      by (inr ne) = tied_sent g w n s t p.from (body.Name s.views.view h 0) (λ z. absurd (ne z))

  pub request_tied : (t : Tied g w n s) → Tied g w n (take_request f s p.from h q r phases x)
  unfolding take_request
  request_tied t = by (is_group_refused s h) refl
    where
      by : (b : Bool) → is_group_refused s h ≡ b → Tied g w n (elim b as (λ _. Core) [ true ↦ sent s p.from (body.Name s.views.view h 0) | false ↦ request_at f s h q r phases x (decision_of (led_of s h) q) ])
      by true e = full_tied t e
      by false e = at_tied t (open_here t e) (decision_of (led_of s h) q) refl

-- REQUEST, given to whom it was sent, where no older join of its provider waits
pub request_is_tied : (v : ViewId) (h : List ℕ) (q : ProviderId) (r : ℕ) (phases : Phases) (x : Proposal) (g : List ℕ) (w : Scene) (n : ℕ) (f : Answering) (s : Core) (p : Packet) → p.to ≡ n → p.body ≡ body.Request v h q r phases x → Has p w.sent → (v ≡ s.views.view → among (led_of s h).waiting.joins q ≡ true → r ≤ q.join) → Begun h s → Tied g w n s → Tied g w n (take_body f s p (body.Request v h q r phases x))
unfolding take_body used_if
request_is_tied v h q r phases x g w n f s p to is delivered ripe begun t = by (is_used s p v) refl
  where
    by : (b : Bool) → is_used s p v ≡ b → Tied g w n (used_if s (take_request f s p.from h q r phases x) b)
    by false e = t
    by true e = let u = used_is s p v e in request_tied v h q r phases x g w n f s p to is delivered u.0 u.1 (λ e. ripe u.0) begun t
