-- A provider is told a refusal, and its request is outstanding no longer; TELL.
use Rattle.std.proofs.Common.{◌≡◌, ◌≢◌, ◌<◌, ◌⊎◌, ℕ, List, [], ◌∷◌, ◌++◌, Option, Some, None, Bool, true, false, refl, sym, ap, ◌∙◌, subst, inl, inr, arith}
use Rattle.std.specs.Prelude.{◌==◌, ◌&&◌, ◌||◌, not, reverse, filter, find, is_some, is_none, if◌then◌else◌}
use Rattle.std.proofs.lemmas.Bool.{eqb-true}
use Rattle.rsct_packet.specs.declared.ids.ViewId.{ViewId}
use Rattle.rsct_packet.specs.declared.ids.ProviderId.{ProviderId}
use Rattle.rsct_packet.specs.Providers.{same_provider, among}
use Rattle.rsct_packet.specs.Search.{Has}
use Rattle.rsct_packet.proofs.HasLaws.{has_filter, find_has, find_none, append_has_right}
use Rattle.proposal_core.specs.declared.proposal.Proposal.{Proposal}
use Rattle.client_callbacks.specs.declared.told.Why.{Why}
use Rattle.session_state.specs.declared.state.Provider.{Provider}
use Rattle.session_state.specs.declared.state.Request.{Request}
use Rattle.session_state.specs.declared.state.SessionState.{SessionState}
use Rattle.session_state.specs.State.{is_provider, is_asked_by, provider_of, outstanding, without_providers}
use Rattle.session_state.specs.HandOn.{is_numbered, is_dissolved, takes_telling, is_join_request, told_of, take_telling}
use Rattle.node_state.specs.declared.happened.Happened.TheVariants as happened
use Rattle.node_state.specs.declared.packet.Body.TheVariants as body
use Rattle.node_state.specs.declared.packet.Packet.{Packet}
use Rattle.node_state.specs.declared.state.Core.{Core}
use Rattle.node_state.specs.Settings.{is_fixed}
use Rattle.node_state.specs.State.{row_of, recorded, with_sessions}
use Rattle.node_state.specs.HandOn.{Answering}
use Rattle.node_state.specs.Following.{told_if, take_tell}
use Rattle.node_state.specs.Step.{is_used, used_if, take_body}
use Rattle.run_safety.specs.Past.{earlier, view_now, records_of}
use Rattle.run_safety.specs.Sight.{told_in, lines_of}
use Rattle.run_safety.specs.Group.{Noted, Asked, Told}
use Rattle.run_safety.specs.Group as group
use Rattle.run_safety.specs.Moves.{IsTold}
use Rattle.run_safety.proofs.Whole.{Whole}
use Rattle.run_safety.proofs.Lives.{whole}
use Rattle.step_refinement.specs.Ghost.{asking, Ghost, Goes}
use Rattle.step_refinement.specs.Tied.{Numbered, ShowsBody, Owed, NodeOf, Scene, opening_of, lines_now, Tied, InTurn}
use Rattle.step_refinement.proofs.Goes.{Spares, Still, still_spares, sound_on, decides_by, node_by, shows_on, node_if_on}
use Rattle.step_refinement.proofs.Works.{lines_pushed, placed_pushed}
use Rattle.node_state.proofs.NameOrder.{cases_text}
use Rattle.step_refinement.proofs.Acks.{used_is}
use Rattle.step_refinement.proofs.SessionLaws.{Later, later_without, owes_later, provider_self, provider_same}
use Rattle.step_refinement.proofs.Turns.{turns_pushed, turns_sessions, told_turn}

-- ---- sessions

-- what is asked by a provider goes with it
pub not_there : (p : ProviderId) (qs : List Request) (q : Request) → Has q (filter (λ (z : Request). not (among (p ∷ []) z.provider)) qs) → q.provider ≡ p → ⊥
not_there p qs q h e =
    let k = (has_filter (λ (z : Request). not (among (p ∷ []) z.provider)) q qs h).1 in
    let f : not (among (p ∷ []) p) ≡ true = subst (λ z. not (among (p ∷ []) z) ≡ true) e k in
    let d : not (same_provider p p || false) ≡ true = f in
    let b : not (true || false) ≡ true = subst (λ z. not (z || false) ≡ true) (provider_self p) d in absurd (cc)

-- a provider that is there is found
pub provider_found : (s : SessionState) (y : Provider) → Has y s.providers → is_some (provider_of s y.provider) ≡ true
unfolding provider_of
provider_found s y i = found (find (is_provider y.provider) s.providers) refl
  where
    found : (o : Option Provider) → find (is_provider y.provider) s.providers ≡ o → is_some o ≡ true
    found None e = absurd (find_none (is_provider y.provider) s.providers y (ap is_none e) i (provider_self y.provider))
    found (Some z) e = refl

later_told : (s : SessionState) (p : ProviderId) (y : Why) → Later s (told_of s p y) × ((q : Request) → Has q (told_of s p y).requests → q.provider ≡ p → ⊥)
unfolding told_of without_providers
later_told s p y = by (is_join_request (outstanding s p) || is_dissolved y)
  where
    by : (b : Bool) → Later s (if b then without_providers s (p ∷ []) else record s { requests = filter (λ (q : Request). not (among (p ∷ []) q.provider)) s.requests }) × ((q : Request) → Has q (if b then without_providers s (p ∷ []) else record s { requests = filter (λ (q : Request). not (among (p ∷ []) q.provider)) s.requests }).requests → q.provider ≡ p → ⊥)
    by true = (later_without s (p ∷ []), not_there p s.requests)
    by false = (
      record {
        me = refl;
        inc = refl;
        level = refl;
        last = refl;
        providers = λ z h. (z, h, refl);
        requests = λ q h. (has_filter (λ (q : Request). not (among (p ∷ []) q.provider)) q s.requests h).0;
        attended = λ a q h. a q (has_filter (λ (q : Request). not (among (p ∷ []) q.provider)) q s.requests h).0;
      },
      not_there p s.requests,
    )

-- a telling of what is outstanding is taken
pub later_telling : (s : SessionState) (p : ProviderId) (r : ℕ) (y : Why) → is_some (provider_of s p) ≡ true → (is_numbered r (outstanding s p) || is_dissolved y) ≡ true → Later s (take_telling s p r y) × ((q : Request) → Has q (take_telling s p r y).requests → q.provider ≡ p → ⊥)
unfolding take_telling takes_telling
later_telling s p r y there told =
    let P : Bool → Type 0 = λ b. Later s (if b then told_of s p y else s) × ((q : Request) → Has q (if b then told_of s p y else s).requests → q.provider ≡ p → ⊥) in
    let e : true ≡ (is_some (provider_of s p) && (is_numbered r (outstanding s p) || is_dissolved y)) = λ i. sym there i && sym told i in
    subst P e (later_told s p y)

-- ---- a provider is told

module _ (g : List ℕ) (w : Scene) (n : ℕ) (c : Core) (t : Tied g w n c) (p : ProviderId) (r : ℕ) (why : Why) (left : SessionState) (later : Later c.sessions left) (gone : (q : Request) → Has q left.requests → q.provider ≡ p → ⊥) (turn : InTurn c.views.view (c.records ++ records_of w.before) left) (mine : p.node ≡ n) (own_inc : p.inc ≡ c.views.inc) (numbered : Numbered t.ghost p r) (reason : Has (group.Refusal c.views.view p r) t.ghost.ps ⊎ ((a : Proposal) → Has (group.Request c.views.view p r a) t.ghost.ps → ⊥)) where
  abbrev x : Ghost
  x = t.ghost

  abbrev y : Ghost
  y = record (t.ghost) { all = Noted (Told p r (t.ghost.nodes n).view) ∷ t.ghost.all }

  goes : Goes x y
  goes = record { packets = λ q h. h; records = λ q h. h; lines = λ l h. inr h; leads = λ v l e. e; bases = λ v s. refl; asks = refl; shut = λ v h. h; asked = λ a h. h }

  still : Still x y
  still =
      record { goes = goes; leads = λ v s. refl; refusals = λ v q k h. h; stables = λ v k h. h; shut = λ v h. h; asked = λ a h. h; asks = λ q k a h. not_asked q k a h; told = λ q k u h. told_or q k u h; incs = λ m. omega arith; closed = λ v s c. c }
    where
      told_or : (q : ProviderId) (k : ℕ) (u : ViewId) → Has (Noted (Told q k u)) (Noted (Told p r (x.nodes n).view) ∷ x.all) → Has (Noted (Told q k u)) x.all ⊎ Numbered x q k
      told_or q k u (inr h) = inl h
      told_or q k u (inl z) =
          let a : p ≡ q = cc in
          let b : r ≡ k = cc in
          inr (subst (λ (z : ProviderId × ℕ). Numbered x z.0 z.1) (λ i. (a i, b i)) numbered)

      not_asked : (q : ProviderId) (k : ℕ) (a : Proposal) → Has (Noted (Asked q k a)) (Noted (Told p r (x.nodes n).view) ∷ x.all) → Has (Noted (Asked q k a)) x.all
      not_asked q k a (inl z) = absurd (cc)
      not_asked q k a (inr h) = h

  spares : (m : ℕ) → m ≢ n → Spares x y m
  spares m ne = still_spares x y still m refl (λ u k e h. h) (λ q k u e h. not_told q k u e h)
    where
      not_told : (q : ProviderId) (k : ℕ) (u : ViewId) → q.node ≡ m → Has (Noted (Told q k u)) (Noted (Told p r (x.nodes n).view) ∷ x.all) → Has (Noted (Told q k u)) x.all
      not_told q k u e (inl z) = absurd (let same : q ≡ p = cc in ne (sym e ∙ ap (λ (a : ProviderId). a.node) same ∙ mine))
      not_told q k u e (inr h) = h

  owed_left : (q : Request) → Has q left.requests → q.group ≡ g → Owed y n c.views.inc q
  owed_left q h same =
      let o = t.own.0.owes.requests q (later.requests q h) same in
      record { node = o.node; inc_of = o.inc_of; asked = inr o.asked; unput = o.unput; untold = λ u a. untold u a }
    where
      untold : (u : ViewId) → Has (Noted (Told q.provider q.request u)) (Noted (Told p r (x.nodes n).view) ∷ x.all) → ⊥
      untold u (inl z) = let e : q.provider ≡ p = cc in gone q h e
      untold u (inr a) = (t.own.0.owes.requests q (later.requests q h) same).untold u a

  node_left : NodeOf y g n (is_fixed c.config.mode) c.views (row_of c g) c.groups left c.names
  node_left =
      let k = t.own.0 in
      let less = owes_later x g n c.views.inc c.sessions left later k.owes in
      node_by x y goes n refl g (is_fixed c.config.mode) c.views (row_of c g) c.groups c.sessions left c.names c.names k.row_is.covers (record { me = less.me; inc_of = less.inc_of; providers = less.providers; own = less.own; requests = owed_left; attended = less.attended; given = less.given }) (decides_by x y goes n refl (λ v l e. e) (λ v q k h. h) c.views.inc c.views.view (row_of c g).led k.decides) (record { named = k.names.named; unnamed = k.names.unnamed; full = k.names.full }) (record { few = k.idles.few; shut = k.idles.shut }) k

  -- nothing else changes
  pub told_tied : (u : Tied g w n (recorded (with_sessions c left) (happened.Told p r why))) × (u.ghost.ps ≡ t.ghost.ps) × (u.ghost.asked ≡ t.ghost.asked)
  unfolding recorded with_sessions row_of
  told_tied =
      let h = t.own.0 in
      let up : 0 < (x.nodes n).inc = subst (λ k. 0 < k) (sym h.stands.inc) h.stands.up in
      let now : view_now p.node (earlier (reverse c.records) w.before) ≡ Some c.views.view = ap (λ m. view_now m (earlier (reverse c.records) w.before)) mine ∙ t.placed.0 in
      let why_told : Has (group.Refusal (x.nodes n).view p r) x.ps ⊎ ((a : Proposal) → Has (group.Request (x.nodes n).view p r a) x.ps → ⊥) = subst (λ v. Has (group.Refusal v p r) x.ps ⊎ ((a : Proposal) → Has (group.Request v p r a) x.ps → ⊥)) (sym h.stands.view) reason in (
        record {
          ghost = y;
          life = IsTold x.nodes x.ps x.all x.leads x.bases p r (x.nodes n) t.life (ap x.nodes mine) up (h.stands.inc ∙ sym own_inc) why_told;
          lines = ap (λ l. Noted (Told p r (x.nodes n).view) ∷ l) t.lines ∙ ap (λ v. Noted (Told p r v) ∷ lines_now g w c) h.stands.view ∙ ap (λ o. told_in p r o ++ lines_now g w c) (sym now) ∙ sym (lines_pushed g c.records (happened.Told p r why) w.before (lines_of g w.before));
          own = (node_left, t.own.1, t.own.2);
          others = λ m ne. node_if_on x y m (spares m ne) refl w.config g (w.incs m) (w.cores m) (t.others m ne);
          packets = λ q k. shows_on x y goes g q (t.packets q k);
          sound = sound_on x y still g t.sound;
          placed = placed_pushed w n c (happened.Told p r why) (λ m o. refl) t.placed;
          nobody = t.nobody;
          turns = turns_pushed w n c.views.view c.records left t.ghost.ps (turns_sessions w n c.views.view c.records c.sessions t.ghost.ps t.turns left turn) (happened.Told p r why);
        },
        refl,
        refl,
      )

-- a request of another group is no request of this one
pub unrequested : (g : List ℕ) (w : Scene) (n : ℕ) (c : Core) (t : Tied g w n c) (h : List ℕ) (p : ProviderId) (r : ℕ) → Has (asking p r h) t.ghost.asked → (h ≡ g → ⊥) → (v : ViewId) (a : Proposal) → Has (group.Request v p r a) t.ghost.ps → ⊥
unrequested g w n c t h p r i ne v a j =
    let o : Whole (opening_of w.config) t.ghost.nodes t.ghost.ps t.ghost.all t.ghost.leads t.ghost.bases = whole t.life in
    ne (t.sound.one p r h g i (t.sound.asked p r a (o.once.sent v p r a j).1))

pub told_views : (s : Core) (p : ProviderId) (r : ℕ) (why : Why) → (take_tell s p r why).views ≡ s.views
unfolding take_tell told_if recorded with_sessions
told_views s p r why = by (is_numbered r (outstanding s.sessions p))
  where
    by : (b : Bool) → (told_if s p r why b).views ≡ s.views
    by true = refl
    by false = refl

module _ (g : List ℕ) (w : Scene) (n : ℕ) where
  -- a telling, where there is a reason if the request is outstanding
  pub tell_tied : (s : Core) (p : ProviderId) (r : ℕ) (why : Why) (t : Tied g w n s) → ((q : Request) → Has q s.sessions.requests → q.provider ≡ p → q.request ≡ r → Has (group.Refusal s.views.view p r) t.ghost.ps ⊎ ((a : Proposal) → Has (group.Request s.views.view p r a) t.ghost.ps → ⊥)) → (u : Tied g w n (take_tell s p r why)) × (u.ghost.asked ≡ t.ghost.asked)
  unfolding take_tell told_if outstanding
  tell_tied s p r why t reason = by (find (is_asked_by p) s.sessions.requests) refl
    where
      one : (q : Request) → find (is_asked_by p) s.sessions.requests ≡ Some q → (q.request == r) ≡ true → (u : Tied g w n (recorded (with_sessions s (take_telling s.sessions p r why)) (happened.Told p r why))) × (u.ghost.asked ≡ t.ghost.asked)
      one q e k =
          let i = find_has (is_asked_by p) s.sessions.requests q e in
          let same : q.provider ≡ p = provider_same q.provider p i.1 in
          let own = t.own.0.owes.own q i.0 in
          let y = t.own.0.owes.attended q i.0 in
          let there : is_some (provider_of s.sessions p) ≡ true = ap (λ z. is_some (provider_of s.sessions z)) (sym (y.2 ∙ same)) ∙ provider_found s.sessions y.0 y.1 in
          let numbered : (is_numbered r (outstanding s.sessions p) || is_dissolved why) ≡ true = ap (λ o. is_numbered r o || is_dissolved why) e ∙ ap (λ b. b || is_dissolved why) k in
          let l = later_telling s.sessions p r why there numbered in
          let u = told_tied g w n s t p r why (take_telling s.sessions p r why) l.0 l.1 (told_turn s.views.view (s.records ++ records_of w.before) s.sessions p r why t.turns.own) (ap (λ (z : ProviderId). z.node) (sym same) ∙ own.0) (ap (λ (z : ProviderId). z.inc) (sym same) ∙ own.1) (inr (q.group, subst (λ (z : ProviderId × ℕ). Has (asking z.0 z.1 q.group) t.ghost.asked) (λ i. (same i, eqb-true q.request r k i)) own.2)) (reason q i.0 same (eqb-true q.request r k)) in (u.0, u.2)

      at : (q : Request) → find (is_asked_by p) s.sessions.requests ≡ Some q → (b : Bool) → (q.request == r) ≡ b → (u : Tied g w n (told_if s p r why b)) × (u.ghost.asked ≡ t.ghost.asked)
      at q e true k = one q e k
      at q e false k = (t, refl)

      by : (o : Option Request) → find (is_asked_by p) s.sessions.requests ≡ o → (u : Tied g w n (told_if s p r why (is_numbered r o))) × (u.ghost.asked ≡ t.ghost.asked)
      by None e = (t, refl)
      by (Some q) e = at q e (q.request == r) refl

-- TELL
pub tell_is_tied : (v : ViewId) (h : List ℕ) (q : ProviderId) (r : ℕ) (why : Why) (g : List ℕ) (w : Scene) (n : ℕ) (f : Answering) (s : Core) (p : Packet) → p.body ≡ body.Tell v h q r why → Has p w.sent → Tied g w n s → Tied g w n (take_body f s p (body.Tell v h q r why))
unfolding take_body used_if
tell_is_tied v h q r why g w n f s p is sent t = by (is_used s p v) refl
  where
    shown : Has (asking q r h) t.ghost.asked × (h ≡ g → Has (group.Refusal v q r) t.ghost.ps)
    shown = subst (ShowsBody t.ghost g p.from p.inc p.to) is (t.packets p (append_has_right p s.sends w.sent sent))

    reason : v ≡ s.views.view → (h ≡ g) ⊎ (h ≡ g → ⊥) → Has (group.Refusal s.views.view q r) t.ghost.ps ⊎ ((a : Proposal) → Has (group.Request s.views.view q r a) t.ghost.ps → ⊥)
    reason e (inl same) = inl (subst (λ z. Has (group.Refusal z q r) t.ghost.ps) e (shown.1 same))
    reason e (inr ne) = inr (unrequested g w n s t h q r shown.0 ne s.views.view)

    by : (b : Bool) → is_used s p v ≡ b → Tied g w n (used_if s (take_tell s q r why) b)
    by false e = t
    by true e = (tell_tied g w n s q r why t (λ z i a b. reason (used_is s p v e).0 (cases_text h g))).0
