-- A step begins and ends; a node starts and stops.
use Rattle.std.proofs.Common.{◌≡◌, ◌≢◌, ◌<◌, Bool, true, false, ℕ, ◌+◌, List, [], ◌∷◌, ◌++◌, Option, Some, None, refl, sym, ap, ◌∙◌, subst, inl, inr, ⊎_elim, arith}
use Rattle.std.specs.Prelude.{not, ◌==◌, if◌then◌else◌, reverse, map}
use Rattle.std.proofs.lemmas.Bool.{eqb-true, cases_eq}
use Rattle.std.proofs.lemmas.List.{reverse-append}
use Rattle.std.proofs.lemmas.Bool.Decides.{Decides-eqb}
use Rattle.rsct_packet.specs.declared.ids.ViewId.{ViewId}
use Rattle.rsct_packet.specs.declared.ids.Member.{Member}
use Rattle.rsct_packet.specs.declared.ids.ProviderId.{ProviderId}
use Rattle.rsct_packet.specs.Search.{Has}
use Rattle.rsct_packet.proofs.HasLaws.{append_has_right}
use Rattle.proposal_core.specs.declared.entry.Entry.{Entry}
use Rattle.adapter_ring.specs.declared.ring.Ring.{Ring}
use Rattle.node_state.specs.declared.config.Config.{Config}
use Rattle.node_state.specs.declared.config.Mode.{Mode}
use Rattle.node_state.specs.declared.config.Mode.TheVariants.{Fixed, Asked, Rings}
use Rattle.node_state.specs.declared.happened.Happened.{Happened}
use Rattle.node_state.specs.declared.happened.Happened.TheVariants as happened
use Rattle.node_state.specs.declared.packet.Packet.{Packet}
use Rattle.node_state.specs.declared.state.Core.{Core}
use Rattle.node_state.specs.Settings.{is_fixed}
use Rattle.node_state.specs.State.{row_of, with_sessions, acked_from, decision_of}
use Rattle.node_state.specs.Applying.{level_set}
use Rattle.node_state.specs.Step.{at_work, started, first_view, first_members, own_rings, ring_record}
use Rattle.view_state.specs.Views.{views_new}
use Rattle.world_model.specs.declared.event.Event.{Event}
use Rattle.run_safety.specs.Past.{records_of, place_after, view_now}
use Rattle.run_safety.specs.Sight.{inc_in, lines_with, lines_of}
use Rattle.proposal_core.specs.declared.proposal.Proposal.{Proposal}
use Rattle.run_safety.specs.Group.{member, Standing, Kept, Noted, Told, In, Put, Begins, kept}
use Rattle.run_safety.specs.Group as group
use Rattle.run_safety.specs.Moves.{Opening, Alone, Born, Led, Dawn, NextEvent, Starts, first}
use Rattle.run_safety.proofs.Parts.{Entered, Gave}
use Rattle.run_safety.proofs.Past.{Origin}
use Rattle.run_safety.proofs.Whole.{Whole}
use Rattle.run_safety.proofs.Lives.{whole}
use Rattle.run_safety.proofs.PastIn.{start_unled}
use Rattle.run_safety.proofs.Order.{lt_refl}
use Rattle.step_refinement.specs.Ghost.{Ghost, Lives, Goes, Seen}
use Rattle.step_refinement.specs.Tied.{Shows, NodeIsIf, Scene, opening_in, opening_of, Begun, Rests, Tied, InTurn}
use Rattle.step_refinement.specs.Rules.{at_node, over, stopped, start_with, ended, nothing_yet}
use Rattle.step_refinement.proofs.Goes.{Spares, Still, still_spares, sound_on, shows_on, node_if_on}
use Rattle.step_refinement.proofs.Changed.{set_here, set_there, each_set, changes, incs_set}
use Rattle.step_refinement.proofs.Works.{Unseen, Stays, lines_pushed, lines_none, now_still}
use Rattle.step_refinement.proofs.Turns.{turn_on, sent_on_more, idle_turn, has_turned}

-- an event begins
abbrev pub turned : Ghost → Ghost
turned x = record x { all = Kept Begins ∷ x.all }

module _ (x : Ghost) where
  pub turned_goes : Goes x (turned x)
  turned_goes = record { packets = λ p h. h; records = λ r h. inr h; lines = λ l h. inr h; leads = λ v l e. e; bases = λ v s. refl; asks = refl; shut = λ v h. h; asked = λ a h. h }

  pub turned_still : Still x (turned x)
  turned_still =
      record { goes = turned_goes; leads = λ v s. refl; refusals = λ v p r h. h; stables = λ v k h. h; shut = λ v h. h; asked = λ a h. h; asks = λ p r q h. not_asked p r q h; told = λ p r u h. inl (not_told p r u h); incs = λ m. omega arith; closed = λ v s c. c }
    where
      not_told : (p : ProviderId) (r : ℕ) (u : ViewId) → Has (Noted (Told p r u)) (Kept Begins ∷ x.all) → Has (Noted (Told p r u)) x.all
      not_told p r u (inl q) = absurd (cc)
      not_told p r u (inr h) = h

      not_asked : (p : ProviderId) (r : ℕ) (q : Proposal) → Has (Noted (group.Asked p r q)) (Kept Begins ∷ x.all) → Has (Noted (group.Asked p r q)) x.all
      not_asked p r q (inl e) = absurd (cc)
      not_asked p r q (inr h) = h

  pub turned_spares : (m : ℕ) → Spares x (turned x) m
  turned_spares m = still_spares x (turned x) turned_still m refl (λ u k e h. not_put u k e h) (λ p r u e h. not_told p r u h)
    where
      not_put : (u : ViewId) (k : ℕ) (e : Entry) → Has (Put m u k e) (Begins ∷ kept x.all) → Has (Put m u k e) (kept x.all)
      not_put u k e (inl q) = absurd (cc)
      not_put u k e (inr h) = h

      not_told : (p : ProviderId) (r : ℕ) (u : ViewId) → Has (Noted (Told p r u)) (Kept Begins ∷ x.all) → Has (Noted (Told p r u)) x.all
      not_told p r u (inl q) = absurd (cc)
      not_told p r u (inr h) = h

  pub turned_lives : (o : Opening) → Lives o x → Lives o (turned x)
  turned_lives o life = NextEvent x.nodes x.ps x.all x.leads x.bases life

pub begin_tied : (g : List ℕ) (w : Scene) (n : ℕ) (s : Core) → w.cores n ≡ Some s → Rests g w → Tied g w n (at_work s)
unfolding row_of
begin_tied g w n s is t =
    record {
      ghost = turned x;
      life = turned_lives x (opening_of w.config) t.life;
      lines = ap (λ l. Kept Begins ∷ l) t.lines;
      own = node n (Some s) (subst (λ k. NodeIsIf w.config x g n (w.incs n) k) is (t.nodes n));
      others = λ m ne. node m (w.cores m) (t.nodes m);
      packets = λ p h. shows_on x (turned x) (turned_goes x) g p (t.packets p h);
      sound = sound_on x (turned x) (turned_still x) g t.sound;
      placed = (t.placed n s is, λ m c ne e. t.placed m c e);
      nobody = t.nobody;
      turns = record { own = t.turns n s is; others = λ m c ne e. t.turns m c e; sent = t.sent };
    }
  where
    x : Ghost
    x = t.ghost

    node : (m : ℕ) (k : Option Core) → NodeIsIf w.config x g m (w.incs m) k → NodeIsIf w.config (turned x) g m (w.incs m) k
    node m k h = node_if_on x (turned x) m (turned_spares x m) refl w.config g (w.incs m) k h

-- a node that starts has no clients
pub idle_start : (c : Config) (n j : ℕ) → ((started c n j).sessions.providers ≡ []) × ((started c n j).sessions.requests ≡ [])
unfolding started with_sessions level_set
idle_start c n j = (refl, refl)

-- nor has it a row
pub begun_start : (g : List ℕ) (c : Config) (n j : ℕ) → Begun g (started c n j)
unfolding started with_sessions row_of
begun_start g c n j fixed led bare = refl

pub end_tied : (g : List ℕ) (w : Scene) (n : ℕ) (s : Core) (e : Event) → Begun g s → ((m : ℕ) (c : Core) → m ≢ n → w.cores m ≡ Some c → Begun g c) → Tied g w n s → Rests g (ended w n e s)
end_tied g w n s e own others t =
    record {
      ghost = t.ghost;
      life = t.life;
      lines = t.lines;
      nodes = each_set (λ m k. NodeIsIf w.config t.ghost g m (w.incs m) k) w.cores n (Some s) t.own t.others;
      packets = t.packets;
      sound = t.sound;
      placed = each_set (λ m o. (c : Core) → o ≡ Some c → view_now m (reverse s.records ++ records_of w.before) ≡ Some c.views.view) w.cores n (Some s) (λ c q. let same : s ≡ c = cc in subst (λ (z : Core). view_now n (reverse s.records ++ records_of w.before) ≡ Some z.views.view) same t.placed.0) (λ m ne c q. t.placed.1 m c ne q);
      asks = t.own.0.asks ∙ ap (λ (z : Config). not (is_fixed z.mode)) t.own.1;
      nobody = t.nobody;
      turns = each_set (λ m o. (c : Core) → o ≡ Some c → InTurn c.views.view (reverse s.records ++ records_of w.before) c.sessions) w.cores n (Some s) (λ c q. let same : s ≡ c = cc in subst (λ (z : Core). InTurn z.views.view (reverse s.records ++ records_of w.before) z.sessions) same (turn_on (s.records ++ records_of w.before) (reverse s.records ++ records_of w.before) (λ r h. has_turned r s.records (records_of w.before) h) s.views.view s.views.view (lt_refl s.views.view) s.sessions t.turns.own)) (λ m ne c q. turn_on (records_of w.before) (reverse s.records ++ records_of w.before) (λ r h. append_has_right r (reverse s.records) (records_of w.before) h) c.views.view c.views.view (lt_refl c.views.view) c.sessions (t.turns.others m c ne q));
      sent = sent_on_more (s.records ++ records_of w.before) (reverse s.records ++ records_of w.before) (λ r h. has_turned r s.records (records_of w.before) h) t.ghost.ps t.ghost.ps (λ v p r y h. h) t.turns.sent;
      begun = each_set (λ m o. (c : Core) → o ≡ Some c → Begun g c) w.cores n (Some s) (λ c q. let same : s ≡ c = cc in subst (Begun g) same own) (λ m ne c q. others m c ne q);
    }

pub number_self : (n : ℕ) → (n == n) ≡ true
number_self n = (Decides-eqb n n).1 refl

pub number_other : (n m : ℕ) → m ≢ n → (n == m) ≡ false
number_other n m ne = by (n == m) refl
  where
    by : (b : Bool) → (n == m) ≡ b → b ≡ false
    by true e = absurd (ne (sym (eqb-true n m e)))
    by false e = refl

pub stop_tied : (g : List ℕ) (w : Scene) (n : ℕ) (e : Event) (s : Core) → w.cores n ≡ Some s → Rests g w → Rests g (stopped w n e)
stop_tied g w n e s is t =
    record {
      ghost = turned x;
      life = turned_lives x (opening_of w.config) t.life;
      lines = ap (λ l. Kept Begins ∷ l) t.lines;
      nodes = each_set (λ m k. NodeIsIf w.config (turned x) g m (w.incs m) k) w.cores n None down (λ m ne. node_if_on x (turned x) m (turned_spares x m) refl w.config g (w.incs m) (w.cores m) (t.nodes m));
      packets = λ p h. shows_on x (turned x) (turned_goes x) g p (t.packets p h);
      sound = sound_on x (turned x) (turned_still x) g t.sound;
      placed = each_set (λ m o. (c : Core) → o ≡ Some c → view_now m (happened.Down n ∷ records_of w.before) ≡ Some c.views.view) w.cores n None (λ c q. absurd (cc)) (λ m ne c q. ap (λ b. if b then None else view_now m (records_of w.before)) (number_other n m ne) ∙ t.placed m c q);
      asks = t.asks;
      nobody = t.nobody;
      turns = each_set (λ m o. (c : Core) → o ≡ Some c → InTurn c.views.view (happened.Down n ∷ records_of w.before) c.sessions) w.cores n None (λ c q. absurd (cc)) (λ m ne c q. turn_on (records_of w.before) (happened.Down n ∷ records_of w.before) (λ r h. inr h) c.views.view c.views.view (lt_refl c.views.view) c.sessions (t.turns m c q));
      sent = sent_on_more (records_of w.before) (happened.Down n ∷ records_of w.before) (λ r h. inr h) t.ghost.ps t.ghost.ps (λ v p r y h. h) t.sent;
      begun = each_set (λ m o. (c : Core) → o ≡ Some c → Begun g c) w.cores n None (λ c q. absurd (cc)) (λ m ne c q. t.begun m c q);
    }
  where
    x : Ghost
    x = t.ghost

    down : (x.nodes n).inc ≡ w.incs n
    down = let k : NodeIsIf w.config x g n (w.incs n) (Some s) = subst (λ k. NodeIsIf w.config x g n (w.incs n) k) is (t.nodes n) in k.0.stands.inc ∙ k.2

pub nothing_tied : (g : List ℕ) (c : Config) → Rests g (nothing_yet c)
nothing_tied g c =
    record {
      ghost = record { nodes = λ m. record { inc = 0; view = first 0 0; promise = first 0 0; list = [] }; ps = []; all = []; leads = λ v. None; bases = λ v. None; asks = not (is_fixed c.mode); shut = []; asked = [] };
      life = Dawn (λ m. record { inc = 0; view = first 0 0; promise = first 0 0; list = [] }) (λ m. (refl, refl, refl));
      lines = refl;
      nodes = λ m. refl;
      packets = λ p h. absurd h;
      sound = record { refused = λ v p r h. absurd h; unled = λ v p r h. absurd h; shut = λ v h. absurd h; asked = λ p r y h. absurd h; one = λ p r h k a. absurd a; started = λ a h. absurd h; told = λ p r u h. absurd h };
      asks = refl;
      placed = λ m c e. absurd (cc);
      nobody = refl;
      turns = λ m c e. absurd (cc);
      sent = λ v p r y h. absurd h;
      begun = λ m c e. absurd (cc);
    }

-- ---- a start

pub opening_alone : (c : Config) (m : Mode) → is_fixed m ≡ false → opening_in c m ≡ Alone
opening_alone c Fixed e = absurd (cc)
opening_alone c Asked e = refl
opening_alone c Rings e = refl

view_alone : (c : Config) (m : Mode) (n j : ℕ) → is_fixed m ≡ false → first_view c m n j ≡ first n j
unfolding first_view
view_alone c Fixed n j e = absurd (cc)
view_alone c Asked n j e = refl
view_alone c Rings n j e = refl

members_alone : (c : Config) (m : Mode) (n j : ℕ) → is_fixed m ≡ false → first_members c m n j ≡ member n j ∷ []
unfolding first_members
members_alone c Fixed n j e = absurd (cc)
members_alone c Asked n j e = refl
members_alone c Rings n j e = refl

unseen_ring : (g : List ℕ) (n : ℕ) (x : Ring) → Unseen g (ring_record n x)
unfolding ring_record
unseen_ring g n x rs = refl

pub unseen_rings : (g : List ℕ) (n : ℕ) (rings : List Ring) (r : Happened) → Has r (map (ring_record n) rings) → Unseen g r
unseen_rings g n [] r h = absurd h
unseen_rings g n (x ∷ rings) r (inl q) = subst (Unseen g) (sym q) (unseen_ring g n x)
unseen_rings g n (x ∷ rings) r (inr h) = unseen_rings g n rings r h

pub rings_stay : (m n : ℕ) (rings : List Ring) (r : Happened) → Has r (map (ring_record n) rings) → Stays m r
unfolding ring_record
rings_stay m n [] r h = absurd h
rings_stay m n (x ∷ rings) r (inl q) = subst (Stays m) (sym q) (λ o. refl)
rings_stay m n (x ∷ rings) r (inr h) = rings_stay m n rings r h

-- what stands before the first view
unbased : {o : Opening} (x : Ghost) → Lives o x → (v : ViewId) → v.number ≡ 1 → x.bases v ≡ None
unbased {o = o} x life v one = by (x.bases v) refl
  where
    by : (b : Option group.Origin) → x.bases v ≡ b → b ≡ None
    by None e = refl
    by (Some b) e =
        let w : Whole o x.nodes x.ps x.all x.leads x.bases = whole life in
        let k = w.based_ok.installed v b e in
        let l : 1 < v.number = (w.good.past.made v k.0 k.1 k.2).later in absurd (omega arith)

-- an incarnation that did not start leads nothing
not_led : {o : Opening} (x : Ghost) → Lives o x → (n : ℕ) (u : ViewId) (j : ℕ) → (x.nodes n).inc < j → x.leads u ≡ Some (member n j) → ⊥
not_led {o = o} x life n u j l e = at (k.good.past.led u n j e)
  where
    k : Whole o x.nodes x.ps x.all x.leads x.bases
    k = whole life

    entered : Entered (x.nodes n) j u → ⊥
    entered (inl z) = omega arith
    entered (inr z) = let q = z.0 in omega arith

    gave : (ss : ViewId → List Entry) → Gave (x.nodes n) u j ss → ⊥
    gave ss (inl z) = omega arith
    gave ss (inr z) = let q = z.0 in omega arith

    at : Led x.ps (kept x.all) u n j → ⊥
    at (inl a) = entered (k.good.inv.records (In n j u a.0) a.1)
    at (inr b) = gave b.1 ((k.good.inv.packet (group.Install u b.0 b.1) b.2).gave n j b.3)

module _ (g : List ℕ) (w : Scene) (n : ℕ) (e : Event) (free : is_fixed w.config.mode ≡ false) (real : n ≢ 0) (down : w.cores n ≡ None) (t : Rests g w) where
  abbrev j : ℕ
  j = w.incs n + 1

  abbrev v : ViewId
  v = first_view w.config w.config.mode n j

  abbrev ms : List Member
  ms = first_members w.config w.config.mode n j

  abbrev s : Core
  s = started w.config n j

  abbrev z : Standing
  z = record { inc = w.incs n + 1; view = v; promise = v; list = [] }

  abbrev y : Ghost
  y = record { nodes = at_node t.ghost.nodes n z; ps = t.ghost.ps; all = Kept (In n (w.incs n + 1) v ms) ∷ Kept Begins ∷ t.ghost.all; leads = t.ghost.leads; bases = t.ghost.bases; asks = t.ghost.asks; shut = t.ghost.shut; asked = t.ghost.asked }

  inc_is : (t.ghost.nodes n).inc ≡ w.incs n
  inc_is = subst (λ k. NodeIsIf w.config t.ghost g n (w.incs n) k) down (t.nodes n)

  abbrev was : Standing
  was = record (t.ghost.nodes n) { inc = w.incs n }

  alone : Lives Alone t.ghost
  alone = subst (λ o. Lives o t.ghost) (opening_alone w.config w.config.mode free) t.life

  unled : t.ghost.leads v ≡ None
  unled =
      let k : Whole Alone t.ghost.nodes t.ghost.ps t.ghost.all t.ghost.leads t.ghost.bases = whole alone in
      let l : t.ghost.leads (first n ((t.ghost.nodes n).inc + 1)) ≡ None = start_unled t.ghost.nodes t.ghost.ps (kept t.ghost.all) k.log t.ghost.leads k.good.inv k.good.past n in
      ap t.ghost.leads (view_alone w.config w.config.mode n (w.incs n + 1) free) ∙ ap (λ i. t.ghost.leads (first n (i + 1))) (sym inc_is) ∙ l

  bare : t.ghost.bases v ≡ None
  bare = unbased t.ghost alone v (ap (λ (k : ViewId). k.number) (view_alone w.config w.config.mode n (w.incs n + 1) free))

  lives : Lives (opening_of w.config) y
  lives =
      let q : t.ghost.nodes n ≡ was = ap (λ (k : ℕ). record { inc = k; view = (t.ghost.nodes n).view; promise = (t.ghost.nodes n).promise; list = (t.ghost.nodes n).list }) inc_is in
      let o : opening_of w.config ≡ Alone = opening_alone w.config w.config.mode free in
      let born : Born (opening_of w.config) n (w.incs n + 1) v ms = subst (λ o. Born o n (w.incs n + 1) v ms) (sym o) (view_alone w.config w.config.mode n (w.incs n + 1) free, members_alone w.config w.config.mode n (w.incs n + 1) free) in
      Starts t.ghost.nodes (at_node t.ghost.nodes n z) t.ghost.ps (Kept Begins ∷ t.ghost.all) t.ghost.leads t.ghost.bases n was v ms (turned_lives t.ghost (opening_of w.config) t.life) q (record { at = λ m u. refl }) born (inl o) (changes t.ghost.nodes n z)

  line : y.all ≡ lines_of g (over e s ∷ w.before)
  unfolding started with_sessions
  line =
      let rings : List Happened = happened.Up n j ∷ map (ring_record n) (own_rings w.config w.config.mode n j) in
      let unseen : (r : Happened) → Has r rings → Unseen g r = λ r h. up r h in
      let a = lines_pushed g rings (happened.In n v ms) w.before (lines_of g w.before) in
      let b : lines_with g (reverse rings) w.before (lines_of g w.before) ≡ Kept Begins ∷ lines_of g w.before = lines_none g rings w.before (lines_of g w.before) unseen in
      let c : inc_in n ms ≡ w.incs n + 1 = ap (inc_in n) (members_alone w.config w.config.mode n (w.incs n + 1) free) ∙ ap (λ k. if k then w.incs n + 1 else 0) (number_self n) in
      ap (λ l. Kept (In n (w.incs n + 1) v ms) ∷ Kept Begins ∷ l) t.lines ∙ ap (λ k. Kept (In n k v ms) ∷ Kept Begins ∷ lines_of g w.before) (sym c) ∙ ap (λ l. Kept (In n (inc_in n ms) v ms) ∷ l) (sym b) ∙ sym a
    where
      up : (r : Happened) → Has r (happened.Up n j ∷ map (ring_record n) (own_rings w.config w.config.mode n j)) → Unseen g r
      up r (inl q) = subst (Unseen g) (sym q) (λ rs. refl)
      up r (inr h) = unseen_rings g n (own_rings w.config w.config.mode n j) r h

  -- nobody entered the view
  unseen : Seen t.ghost v → ⊥
  unseen a = at (k.good.past.origin a.0 a.1 v a.2 a.3)
    where
      k : Whole Alone t.ghost.nodes t.ghost.ps t.ghost.all t.ghost.leads t.ghost.bases
      k = whole alone

      is : v ≡ first n (w.incs n + 1)
      is = view_alone w.config w.config.mode n (w.incs n + 1) free

      came : a.0 ≡ n → a.1 ≡ w.incs n + 1 → Entered (t.ghost.nodes a.0) a.1 v → ⊥
      came e f (inl l) = let q : (t.ghost.nodes a.0).inc ≡ w.incs n = ap (λ m. (t.ghost.nodes m).inc) e ∙ inc_is in omega arith
      came e f (inr l) = let q : (t.ghost.nodes a.0).inc ≡ w.incs n = ap (λ m. (t.ghost.nodes m).inc) e ∙ inc_is in let d = l.0 in omega arith

      at : Origin Alone t.ghost.ps a.0 a.1 v a.2 → ⊥
      at (inl b) = let q : first a.0 a.1 ≡ first n (w.incs n + 1) = sym b.0 ∙ is in
          came (ap (λ (z : ViewId). z.coord) q) (ap (λ (z : ViewId). z.inc) q) (k.good.inv.records (In a.0 a.1 v a.2) a.3)
      at (inr b) = let l = (k.good.past.made v a.2 b.0 b.1).later in
          let one : v.number ≡ 1 = ap (λ (z : ViewId). z.number) is in omega arith

  goes : Goes t.ghost y
  goes = record { packets = λ p h. h; records = λ r h. inr (inr h); lines = λ l h. inr (inr h); leads = λ v l e. e; bases = λ v s. refl; asks = refl; shut = λ v h. h; asked = λ a h. h }

  still : Still t.ghost y
  still =
      record {
        goes = goes;
        leads = λ v s. refl;
        refusals = λ v p r h. h;
        stables = λ v k h. h;
        shut = λ v h. h;
        asked = λ a h. h;
        asks = λ p r q h. not_asked p r q h;
        told = λ p r u h. inl (not_told p r u h);
        incs = λ m. incs_set t.ghost.nodes n z (omega (arith, inc_is)) m;
        closed = λ v s c. absurd (let f : t.ghost.asks ≡ true = t.asks ∙ ap not free in let d = c.asks_not in cc);
      }
    where
      not_told : (p : ProviderId) (r : ℕ) (u : ViewId) → Has (Noted (Told p r u)) (Kept (In n (w.incs n + 1) v ms) ∷ Kept Begins ∷ t.ghost.all) → Has (Noted (Told p r u)) t.ghost.all
      not_told p r u (inl q) = absurd (cc)
      not_told p r u (inr (inl q)) = absurd (cc)
      not_told p r u (inr (inr h)) = h

      not_asked : (p : ProviderId) (r : ℕ) (q : Proposal) → Has (Noted (group.Asked p r q)) (Kept (In n (w.incs n + 1) v ms) ∷ Kept Begins ∷ t.ghost.all) → Has (Noted (group.Asked p r q)) t.ghost.all
      not_asked p r q (inl e) = absurd (cc)
      not_asked p r q (inr (inl e)) = absurd (cc)
      not_asked p r q (inr (inr h)) = h

  spares : (m : ℕ) → m ≢ n → Spares t.ghost y m
  spares m ne =
      still_spares t.ghost y still m (ap (λ (k : Standing). k.list) (set_there t.ghost.nodes n z m ne)) (λ u k e h. not_put u k e h) (λ p r u e h. not_told p r u h)
    where
      not_put : (u : ViewId) (k : ℕ) (e : Entry) → Has (Put m u k e) (In n (w.incs n + 1) v ms ∷ Begins ∷ kept t.ghost.all) → Has (Put m u k e) (kept t.ghost.all)
      not_put u k e (inl q) = absurd (cc)
      not_put u k e (inr (inl q)) = absurd (cc)
      not_put u k e (inr (inr h)) = h

      not_told : (p : ProviderId) (r : ℕ) (u : ViewId) → Has (Noted (Told p r u)) (Kept (In n (w.incs n + 1) v ms) ∷ Kept Begins ∷ t.ghost.all) → Has (Noted (Told p r u)) t.ghost.all
      not_told p r u (inl q) = absurd (cc)
      not_told p r u (inr (inl q)) = absurd (cc)
      not_told p r u (inr (inr h)) = h

  own : NodeIsIf w.config y g n (w.incs n + 1) (Some (started w.config n j))
  unfolding started with_sessions level_set views_new row_of acked_from decision_of
  own =
      let here : at_node t.ghost.nodes n z n ≡ z = set_here t.ghost.nodes n z in
      let positive : 0 < w.incs n + 1 = omega arith in (
        record {
          stands = record {
            me = refl;
            up = positive;
            inc = ap (λ (k : Standing). k.inc) here;
            view = ap (λ (k : Standing). k.view) here;
            promise = ap (λ (k : Standing). k.promise) here;
            seated = inl refl;
          };
          row_is = record { list = (ap (λ (k : Standing). k.list) here, bare); stable = inl refl; leader = tt; acked = λ m i h. inl refl; covers = λ j k q h. absurd (let f = unled in cc) };
          order = tt;
          gathering = λ a. refl;
          install = tt;
          owes = record {
            me = refl;
            inc_of = refl;
            providers = λ q h. absurd h;
            own = λ q h. absurd h;
            requests = λ q h. absurd h;
            attended = λ q h. absurd h;
            given = λ a h e f. absurd (let l = t.sound.started a h in let q : (t.ghost.nodes a.provider.node).inc ≡ w.incs n = ap (λ m. (t.ghost.nodes m).inc) e ∙ inc_is in omega arith);
          };
          decides = record {
            refused = λ p r q c h. absurd (let f = unled in cc);
            begun = λ p r i f q h. absurd (let f = unled in cc);
            waiting = λ p q h. absurd (let f = unled in cc);
            later = λ u l q p r h. not_led t.ghost t.life n u (w.incs n + 1) (omega (arith, inc_is)) q;
            again = λ p d why q r. absurd (cc);
            leads_it = λ p h. absurd (cc);
            apart = refl;
            lasts = λ p d h. absurd (cc);
          };
          names = record { named = λ m a b c f. absurd (cc); unnamed = λ a b c f. unled; full = λ a b c f. absurd (unseen (t.sound.shut v f).0) };
          asks = t.asks;
          led = λ q. absurd (let f = free in cc);
          waits = λ k p q. absurd (cc);
          idles = record { few = λ q e. omega arith; shut = λ e h. absurd (let f = unled in cc) };
        },
        refl,
        refl,
      )

  packets : (p : Packet) → Has p ((started w.config n j).sends ++ w.sent) → Shows y g p
  unfolding started with_sessions
  packets p h = shows_on t.ghost y goes g p (t.packets p h)

  abbrev ups : List Happened
  ups = happened.Up n (w.incs n + 1) ∷ map (ring_record n) (own_rings w.config w.config.mode n (w.incs n + 1))

  now_turned : (m : ℕ) → view_now m (reverse (started w.config n (w.incs n + 1)).records ++ records_of w.before) ≡ place_after m (happened.In n v ms) (view_now m (reverse ups ++ records_of w.before))
  unfolding started with_sessions
  now_turned m = ap (λ z. view_now m (z ++ records_of w.before)) (reverse-append ups (happened.In n v ms ∷ []))

  now_here : view_now n (reverse (started w.config n (w.incs n + 1)).records ++ records_of w.before) ≡ Some (started w.config n (w.incs n + 1)).views.view
  unfolding started with_sessions views_new
  now_here = now_turned n ∙ ap (λ b. if b then Some v else view_now n (reverse ups ++ records_of w.before)) (number_self n)

  now_there : (m : ℕ) → m ≢ n → view_now m (reverse (started w.config n (w.incs n + 1)).records ++ records_of w.before) ≡ view_now m (records_of w.before)
  now_there m ne =
      now_turned m ∙ ap (λ b. if b then Some v else view_now m (reverse ups ++ records_of w.before)) (number_other n m ne) ∙ now_still m ups (records_of w.before) stays
    where
      stays : (r : Happened) → Has r ups → Stays m r
      stays r (inl q) = subst (Stays m) (sym q) (λ o. ap (λ b. if b then None else o) (number_other n m ne))
      stays r (inr h) = rings_stay m n (own_rings w.config w.config.mode n (w.incs n + 1)) r h

  pub start_tied : Rests g (start_with w n e (started w.config n (w.incs n + 1)))
  start_tied =
      record {
        ghost = y;
        life = lives;
        lines = line;
        nodes = λ m. ⊎_elim (λ (q : m ≡ n). subst (λ k. NodeIsIf w.config y g k (at_node w.incs n j k) (at_node w.cores n (Some s) k)) (sym q) here) (λ (ne : m ≢ n). there m ne) (cases_eq m n);
        packets = packets;
        sound = sound_on t.ghost y still g t.sound;
        asks = t.asks;
        nobody = set_there w.incs n j 0 (λ q. real (sym q)) ∙ t.nobody;
        turns = each_set (λ m o. (c : Core) → o ≡ Some c → InTurn c.views.view (reverse s.records ++ records_of w.before) c.sessions) w.cores n (Some s) (λ c q. let same : s ≡ c = cc in subst (λ (z : Core). InTurn z.views.view (reverse s.records ++ records_of w.before) z.sessions) same (idle_turn s.views.view (reverse s.records ++ records_of w.before) s.sessions (idle_start w.config n j).0 (idle_start w.config n j).1)) (λ m ne c q. turn_on (records_of w.before) (reverse s.records ++ records_of w.before) (λ r h. append_has_right r (reverse s.records) (records_of w.before) h) c.views.view c.views.view (lt_refl c.views.view) c.sessions (t.turns m c q));
        sent = sent_on_more (records_of w.before) (reverse s.records ++ records_of w.before) (λ r h. append_has_right r (reverse s.records) (records_of w.before) h) t.ghost.ps t.ghost.ps (λ v p r y h. h) t.sent;
        begun = each_set (λ m o. (c : Core) → o ≡ Some c → Begun g c) w.cores n (Some s) (λ c q. let same : s ≡ c = cc in subst (Begun g) same (begun_start g w.config n j)) (λ m ne c q. t.begun m c q);
        placed = each_set (λ m o. (c : Core) → o ≡ Some c → view_now m (reverse s.records ++ records_of w.before) ≡ Some c.views.view) w.cores n (Some s) (λ c q. let same : s ≡ c = cc in subst (λ (k : Core). view_now n (reverse s.records ++ records_of w.before) ≡ Some k.views.view) same now_here) (λ m ne c q. now_there m ne ∙ t.placed m c q);
      }
    where
      here : NodeIsIf w.config y g n (at_node w.incs n j n) (at_node w.cores n (Some s) n)
      here =
          subst (λ (k : ℕ × Option Core). NodeIsIf w.config y g n k.0 k.1) (λ i. (sym (set_here w.incs n j) i, sym (set_here w.cores n (Some s)) i)) own

      there : (m : ℕ) → m ≢ n → NodeIsIf w.config y g m (at_node w.incs n j m) (at_node w.cores n (Some s) m)
      there m ne =
          subst (λ (k : ℕ × Option Core). NodeIsIf w.config y g m k.0 k.1) (λ i. (sym (set_there w.incs n j m ne) i, sym (set_there w.cores n (Some s) m ne) i)) (node_if_on t.ghost y m (spares m ne) (set_there t.ghost.nodes n z m ne) w.config g (w.incs m) (w.cores m) (t.nodes m))
