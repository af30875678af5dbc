-- In mode fixed every node starts at the beginning, in one event.
use Rattle.std.proofs.Common.{◌⊎◌, ◌≡◌, ◌≢◌, ◌<◌, ℕ, ◌+◌, List, [], ◌∷◌, ◌++◌, Option, Some, None, Bool, true, false, refl, sym, ap, ◌∙◌, subst, inl, inr, ⊎_elim, arith}
use Rattle.std.specs.Prelude.{not, ◌==◌, if◌then◌else◌, reverse, map, filter, find, fold, slice_get}
use Rattle.std.specs.Option.{unwrap_or}
use Rattle.std.proofs.lemmas.Bool.{eq-eqb, cases_eq}
use Rattle.std.proofs.lemmas.List.{reverse-append, append-nil}
use Rattle.rsct_packet.specs.declared.ids.ViewId.{ViewId}
use Rattle.rsct_packet.specs.declared.ids.Member.{Member}
use Rattle.rsct_packet.specs.declared.ids.ProviderId.{ProviderId}
use Rattle.rsct_packet.specs.declared.mask.Mask.{Mask}
use Rattle.rsct_packet.specs.Mask.{has_node, node_numbers, nodes_of}
use Rattle.rsct_packet.specs.Search.{Has}
use Rattle.rsct_packet.proofs.HasLaws.{has_filter}
use Rattle.proposal_core.specs.declared.entry.Entry.{Entry}
use Rattle.proposal_core.specs.declared.proposal.Proposal.{Proposal}
use Rattle.node_state.specs.declared.config.Config.{Config}
use Rattle.node_state.specs.declared.config.Mode.{Mode}
use Rattle.node_state.specs.declared.config.Mode.TheVariants.{Fixed, Asked, Rings}
use Rattle.node_state.specs.declared.happened.Happened.{Happened}
use Rattle.node_state.specs.declared.happened.Happened.TheVariants as happened
use Rattle.node_state.specs.declared.state.Core.{Core}
use Rattle.node_state.specs.Settings.{is_fixed, least_node}
use Rattle.node_state.specs.State.{row_of, with_sessions, acked_from, decision_of}
use Rattle.node_state.specs.Applying.{level_set}
use Rattle.node_state.specs.Step.{started, first_view, first_members, own_rings, ring_record}
use Rattle.view_state.specs.Views.{views_new}
use Rattle.run_safety.specs.Past.{place_after, view_now}
use Rattle.run_safety.specs.Sight.{inc_in, lines_with}
use Rattle.run_safety.specs.Group.{member, Standing, Line, Kept, Noted, Told, In, Put, Begins, kept}
use Rattle.run_safety.specs.GroupLists.{held_by}
use Rattle.run_safety.specs.Group as group
use Rattle.run_safety.specs.Moves.{Leads, MayLead, Together, Born, Quiet, Life, Dawn, NextEvent, Starts, Names, first}
use Rattle.step_refinement.specs.Ghost.{Ghost, Goes}
use Rattle.step_refinement.specs.Tied.{ShowsLeader, NodeIsIf, Scene, opening_in, opening_of, Begun, Rests}
use Rattle.step_refinement.specs.Rules.{at_node, starts_too, all_started}
use Rattle.step_refinement.proofs.Goes.{Spares, node_if_on}
use Rattle.step_refinement.proofs.Changed.{set_here, set_there, each_set, changes, set_view, view_here, view_there}
use Rattle.step_refinement.proofs.Works.{Unseen, Stays, lines_unseen, now_still}
use Rattle.step_refinement.proofs.Begins.{number_self, number_other, unseen_rings, rings_stay, idle_start, begun_start}
use Rattle.step_refinement.proofs.Turns.{idle_turn}

-- ---- what the settings say

opening_fixed : (c : Config) (m : Mode) → is_fixed m ≡ true → opening_in c m ≡ Together (first_view c Fixed 0 1) (first_members c Fixed 0 1)
opening_fixed c Fixed e = refl
opening_fixed c Asked e = absurd (cc)
opening_fixed c Rings e = absurd (cc)

first_passing : (test : ℕ → Bool) (xs : List ℕ) (n : ℕ) → Has n (filter test xs) → (k : ℕ) × (find test xs ≡ Some k)
first_passing test [] n h = absurd h
first_passing test (x ∷ xs) n h = by (test x) h (first_passing test xs n)
  where
    by : (b : Bool) → Has n (if b then x ∷ filter test xs else filter test xs) → (Has n (filter test xs) → (k : ℕ) × (find test xs ≡ Some k)) → (k : ℕ) × ((if b then Some x else find test xs) ≡ Some k)
    by true h more = (x, refl)
    by false h more = more h

least_there : (mask : Mask) (n : ℕ) → Has n (nodes_of mask) → (k : ℕ) × (least_node mask ≡ Some k)
unfolding nodes_of least_node
least_there mask n h = first_passing (has_node mask) node_numbers n h

-- 0 is no node's number
nodes_real : (mask : Mask) (n : ℕ) → Has n (nodes_of mask) → n ≢ 0
unfolding nodes_of
nodes_real mask n h e = positive node_numbers refl (subst (λ z. Has z node_numbers) e (has_filter (has_node mask) n node_numbers h).0)
  where
    positive : (xs : List ℕ) → filter (λ z. z == 0) xs ≡ [] → Has 0 xs → ⊥
    positive [] none i = i
    positive (x ∷ xs) none i = by (x == 0) refl none i (positive xs)
      where
        by : (b : Bool) → (x == 0) ≡ b → (if b then x ∷ filter (λ z. z == 0) xs else filter (λ z. z == 0) xs) ≡ [] → Has 0 (x ∷ xs) → (filter (λ z. z == 0) xs ≡ [] → Has 0 xs → ⊥) → ⊥
        by true q none i rest = cc
        by false q none (inl z) rest = let k : (x == 0) ≡ true = eq-eqb x 0 (sym z) in cc
        by false q none (inr i) rest = rest none i

view_fixed : (c : Config) (m : Mode) (n j : ℕ) → is_fixed m ≡ true → Has n (nodes_of c.nodes) → first_view c m n j ≡ first_view c Fixed 0 1
unfolding first_view
view_fixed c Fixed n j e h =
    let k = least_there c.nodes n h in
    ap (λ (o : Option ℕ). record { number = 1; coord = unwrap_or o n; inc = 1 }) k.1 ∙ ap (λ (o : Option ℕ). record { number = 1; coord = unwrap_or o 0; inc = 1 }) (sym k.1)
view_fixed c Asked n j e h = absurd (cc)
view_fixed c Rings n j e h = absurd (cc)

number_fixed : (c : Config) → (first_view c Fixed 0 1).number ≡ 1
unfolding first_view
number_fixed c = refl

abbrev all_members : Config → List Member
all_members c = map (λ n. member n 1) (nodes_of c.nodes)

members_fixed : (c : Config) (m : Mode) (n j : ℕ) → is_fixed m ≡ true → first_members c m n j ≡ all_members c
unfolding first_members
members_fixed c Fixed n j e = refl
members_fixed c Asked n j e = absurd (cc)
members_fixed c Rings n j e = absurd (cc)

has_mapped : (n : ℕ) (ns : List ℕ) → Has n ns → Has (member n 1) (map (λ m. member m 1) ns)
has_mapped n [] h = h
has_mapped n (m ∷ ns) (inl e) = inl (λ i. member (e i) 1)
has_mapped n (m ∷ ns) (inr h) = inr (has_mapped n ns h)

inc_one : (n : ℕ) (ns : List ℕ) → Has n ns → inc_in n (map (λ m. member m 1) ns) ≡ 1
inc_one n [] h = absurd h
inc_one n (m ∷ ns) h = by (m == n) refl h (inc_one n ns)
  where
    by : (b : Bool) → (m == n) ≡ b → Has n (m ∷ ns) → (Has n ns → inc_in n (map (λ k. member k 1) ns) ≡ 1) → (if b then 1 else inc_in n (map (λ k. member k 1) ns)) ≡ 1
    by true q h rest = refl
    by false q (inl e) rest = absurd (let k : (m == n) ≡ true = eq-eqb m n (sym e) in cc)
    by false q (inr h) rest = rest h

-- ---- one node after another

-- the view of all nodes
abbrev first_of : Config → ViewId
first_of c = first_view c Fixed 0 1

-- its coordinator leads
abbrev leads_of : Config → Leads
leads_of c = set_view (λ v. None) (first_of c) (Some (member (first_of c).coord 1))

-- nothing was sent
abbrev bare : Config → (ℕ → Standing) → List Line → Ghost
bare c nodes all = record { nodes = nodes; ps = []; all = all; leads = leads_of c; bases = λ v. None; asks = false; shut = []; asked = [] }

abbrev scene : Config → (ℕ → Option Core) → (ℕ → ℕ) → List Happened → Scene
scene c cores incs rs = record { config = c; cores = cores; incs = incs; sent = []; before = record { event = None; records = rs } ∷ [] }

-- so many have started; nobody leads yet, which is settled once all have
record Opens (g : List ℕ) (c : Config) (cores : ℕ → Option Core) (incs : ℕ → ℕ) (rs : List Happened) : Type 0 where
  pub nodes : ℕ → Standing
  pub all : List Line
  pub life : Life (opening_of c) nodes [] all (λ v. None) (λ v. None)
  pub quiet : Quiet (kept all)
  pub lines : all ≡ lines_with g rs [] []
  pub stand : (m : ℕ) → NodeIsIf c (bare c nodes all) g m (incs m) (cores m)
  pub placed : (m : ℕ) (k : Core) → cores m ≡ Some k → view_now m rs ≡ Some k.views.view
  pub untold : (p : ProviderId) (r : ℕ) (u : ViewId) → Has (Noted (Told p r u)) all → ⊥
  pub unasked : (p : ProviderId) (r : ℕ) (y : Proposal) → Has (Noted (group.Asked p r y)) all → ⊥
  pub fresh : (m : ℕ) → cores m ≡ None → incs m ≡ 0
  pub nobody : incs 0 ≡ 0
  pub idle : (m : ℕ) (k : Core) → cores m ≡ Some k → (k.sessions.providers ≡ []) × (k.sessions.requests ≡ [])
  pub begun : (m : ℕ) (k : Core) → cores m ≡ Some k → Begun g k

module _ (g : List ℕ) (c : Config) (fixed : is_fixed c.mode ≡ true) (cores : ℕ → Option Core) (incs : ℕ → ℕ) (rs : List Happened) (t : Opens g c cores incs rs) (n : ℕ) (down : cores n ≡ None) (there : Has n (nodes_of c.nodes)) where
  abbrev j : ℕ
  j = incs n + 1

  abbrev v : ViewId
  v = first_view c c.mode n j

  abbrev ms : List Member
  ms = first_members c c.mode n j

  abbrev s : Core
  s = started c n j

  abbrev z : Standing
  z = record { inc = incs n + 1; view = v; promise = v; list = [] }

  abbrev was : Standing
  was = record (t.nodes n) { inc = incs n }

  abbrev nodes : ℕ → Standing
  nodes = at_node t.nodes n z

  abbrev all : List Line
  all = Kept (In n (incs n + 1) v ms) ∷ t.all

  first_one : incs n + 1 ≡ 1
  first_one = ap (λ k. k + 1) (t.fresh n down)

  was_is : t.nodes n ≡ was
  was_is =
      let q : (t.nodes n).inc ≡ incs n = subst (NodeIsIf c (bare c t.nodes t.all) g n (incs n)) down (t.stand n) in
      ap (λ (k : ℕ). record { inc = k; view = (t.nodes n).view; promise = (t.nodes n).promise; list = (t.nodes n).list }) q

  born : Born (opening_of c) n (incs n + 1) v ms
  born =
      subst (λ o. Born o n (incs n + 1) v ms) (sym (opening_fixed c c.mode fixed)) (view_fixed c c.mode n j fixed there, members_fixed c c.mode n j fixed ∙ sym (members_fixed c Fixed 0 1 refl), first_one, number_fixed c, subst (Has (member n 1)) (sym (members_fixed c Fixed 0 1 refl)) (has_mapped n (nodes_of c.nodes) there))

  life : Life (opening_of c) nodes [] all (λ v. None) (λ v. None)
  life =
      Starts t.nodes nodes [] t.all (λ v. None) (λ v. None) n was v ms t.life was_is t.quiet born (inr refl) (changes t.nodes n z)

  quiet : Quiet (kept all)
  quiet = record { at = λ m u. by m u (n == m) }
    where
      by : (m : ℕ) (u : ViewId) (b : Bool) → (if b then held_by m u true (kept t.all) else held_by m u true (kept t.all)) ≡ (if b then held_by m u true (kept t.all) else held_by m u false (kept t.all))
      by m u true = refl
      by m u false = t.quiet.at m u

  lines : all ≡ lines_with g (reverse s.records ++ rs) [] []
  unfolding started with_sessions
  lines =
      let up : List Happened = happened.Up n j ∷ map (ring_record n) (own_rings c c.mode n j) in
      let a : reverse (up ++ happened.In n v ms ∷ []) ≡ happened.In n v ms ∷ reverse up = reverse-append up (happened.In n v ms ∷ []) in
      let b : lines_with g (reverse up ++ rs) [] [] ≡ lines_with g rs [] [] = lines_unseen g up rs [] [] (λ r h. unseen r h) in
      let d : inc_in n ms ≡ incs n + 1 = ap (inc_in n) (members_fixed c c.mode n j fixed) ∙ inc_one n (nodes_of c.nodes) there ∙ sym first_one in
      ap (λ l. Kept (In n (incs n + 1) v ms) ∷ l) (t.lines ∙ sym b) ∙ ap (λ k. Kept (In n k v ms) ∷ lines_with g (reverse up ++ rs) [] []) (sym d) ∙ ap (λ l. lines_with g (l ++ rs) [] []) (sym a)
    where
      unseen : (r : Happened) → Has r (happened.Up n j ∷ map (ring_record n) (own_rings c c.mode n j)) → Unseen g r
      unseen r (inl q) = subst (Unseen g) (sym q) (λ rs. refl)
      unseen r (inr h) = unseen_rings g n (own_rings c c.mode n j) r h

  goes : Goes (bare c t.nodes t.all) (bare c nodes all)
  goes = record { packets = λ p h. h; records = λ r h. inr h; lines = λ l h. inr h; leads = λ v l e. e; bases = λ v s. refl; asks = refl; shut = λ v h. h; asked = λ a h. h }

  spares : (m : ℕ) → m ≢ n → Spares (bare c t.nodes t.all) (bare c nodes all) m
  spares m ne =
      record {
        goes = goes;
        list = ap (λ (k : Standing). k.list) (set_there t.nodes n z m ne);
        leads = λ v s. refl;
        refusals = λ v p r h. inl h;
        stables = λ v k h. inl h;
        puts = λ u k e h. not_put u k e h;
        told = λ p r u e h. not_told p r u h;
        shut = λ v e h. h;
        shut_led = λ v i e h. h;
        asked = λ a e h. h;
      }
    where
      not_put : (u : ViewId) (k : ℕ) (e : Entry) → Has (Put m u k e) (In n (incs n + 1) v ms ∷ kept t.all) → Has (Put m u k e) (kept t.all)
      not_put u k e (inl q) = absurd (cc)
      not_put u k e (inr h) = h

      not_told : (p : ProviderId) (r : ℕ) (u : ViewId) → Has (Noted (Told p r u)) (Kept (In n (incs n + 1) v ms) ∷ t.all) → Has (Noted (Told p r u)) t.all
      not_told p r u (inl q) = absurd (cc)
      not_told p r u (inr h) = h

  own : NodeIsIf c (bare c nodes all) g n (incs n + 1) (Some s)
  unfolding started with_sessions level_set views_new row_of acked_from decision_of
  own =
      let here : nodes n ≡ z = set_here t.nodes n z in
      let positive : 0 < incs n + 1 = omega arith in (
        record {
          stands = record {
            me = refl;
            up = positive;
            inc = ap (λ (k : Standing). k.inc) here;
            view = ap (λ (k : Standing). k.view) here;
            promise = ap (λ (k : Standing). k.promise) here;
            seated = inl refl;
          };
          row_is = record { list = (ap (λ (k : Standing). k.list) here, refl); stable = inl refl; leader = tt; acked = λ m i h. inl refl; covers = λ j k q h. absurd h };
          order = tt;
          gathering = λ a. refl;
          install = tt;
          owes = record { me = refl; inc_of = refl; providers = λ q h. absurd h; own = λ q h. absurd h; requests = λ q h. absurd h; attended = λ q h. absurd h; given = λ a h. absurd h };
          decides = record {
            refused = λ p r q c h. absurd h;
            begun = λ p r i f q h. absurd (empty i f (subst (λ (k : Standing). slice_get k.list i ≡ Some f) here h));
            waiting = λ p q h. absurd (cc);
            later = λ u l q p r h. h;
            again = λ p d why q r. absurd (cc);
            leads_it = λ p h. absurd (cc);
            apart = refl;
            lasts = λ p d h. absurd (cc);
          };
          names = record { named = λ m a b d f. absurd (cc); unnamed = λ a b d f. absurd (let k = fixed in cc); full = λ a b d f. absurd f };
          asks = ap not (sym fixed);
          led = λ q. subst (λ z. ShowsLeader (bare c nodes all) z z.coord) (sym (view_fixed c c.mode n (incs n + 1) fixed there)) (record { inc = 1; leads = view_here (λ v. None) (first_of c) (Some (member (first_of c).coord 1)) });
          waits = λ k p q. absurd (cc);
          idles = record { few = λ q e. omega arith; shut = λ e h. absurd h };
        },
        refl,
        refl,
      )
    where
      empty : (i : ℕ) (f : Entry) → slice_get [] i ≡ Some f → ⊥
      empty i f q = cc

  abbrev ups : List Happened
  ups = happened.Up n (incs n + 1) ∷ map (ring_record n) (own_rings c c.mode n (incs n + 1))

  now_turned : (m : ℕ) → view_now m (reverse (started c n (incs n + 1)).records ++ rs) ≡ place_after m (happened.In n v ms) (view_now m (reverse ups ++ rs))
  unfolding started with_sessions
  now_turned m = ap (λ z. view_now m (z ++ rs)) (reverse-append ups (happened.In n v ms ∷ []))

  now_here : view_now n (reverse (started c n (incs n + 1)).records ++ rs) ≡ Some (started c n (incs n + 1)).views.view
  unfolding started with_sessions views_new
  now_here = now_turned n ∙ ap (λ b. if b then Some v else view_now n (reverse ups ++ rs)) (number_self n)

  now_there : (m : ℕ) → m ≢ n → view_now m (reverse (started c n (incs n + 1)).records ++ rs) ≡ view_now m rs
  now_there m ne =
      now_turned m ∙ ap (λ b. if b then Some v else view_now m (reverse ups ++ rs)) (number_other n m ne) ∙ now_still m ups rs stays
    where
      stays : (r : Happened) → Has r ups → Stays m r
      stays r (inl q) = subst (Stays m) (sym q) (λ o. ap (λ b. if b then None else o) (number_other n m ne))
      stays r (inr h) = rings_stay m n (own_rings c c.mode n (incs n + 1)) r h

  -- who was in the view, or is this node
  in_view : (k : ℕ) → (n ≡ k) ⊎ Has (In k 1 (first_of c) (all_members c)) (kept t.all) → Has (In k 1 (first_of c) (all_members c)) (kept all)
  in_view k (inr h) = inr h
  in_view k (inl e) =
      inl (λ i. In (sym e i) (sym first_one i) (sym (view_fixed c c.mode n (incs n + 1) fixed there) i) (sym (members_fixed c c.mode n (incs n + 1) fixed) i))

  one_more : Opens g c (at_node cores n (Some s)) (at_node incs n j) (reverse s.records ++ rs)
  one_more =
      record {
        nodes = nodes;
        all = all;
        life = life;
        quiet = quiet;
        lines = lines;
        stand = λ m. ⊎_elim (λ (q : m ≡ n). subst (λ k. NodeIsIf c (bare c nodes all) g k (at_node incs n j k) (at_node cores n (Some s) k)) (sym q) here) (λ (ne : m ≢ n). old m ne) (cases_eq m n);
        placed = each_set (λ m o. (k : Core) → o ≡ Some k → view_now m (reverse s.records ++ rs) ≡ Some k.views.view) cores n (Some s) (λ k q. let same : s ≡ k = cc in subst (λ (z : Core). view_now n (reverse s.records ++ rs) ≡ Some z.views.view) same now_here) (λ m ne k q. now_there m ne ∙ t.placed m k q);
        unasked = λ p r y h. not_asked p r y h;
        untold = λ p r u h. not_told p r u h;
        fresh = λ m e. ⊎_elim (λ (q : m ≡ n). absurd (let k = ap (at_node cores n (Some s)) q ∙ set_here cores n (Some s) in cc)) (λ (ne : m ≢ n). set_there incs n j m ne ∙ t.fresh m (sym (set_there cores n (Some s) m ne) ∙ e)) (cases_eq m n);
        nobody = set_there incs n j 0 (λ q. nodes_real c.nodes n there (sym q)) ∙ t.nobody;
        idle = each_set (λ m o. (k : Core) → o ≡ Some k → (k.sessions.providers ≡ []) × (k.sessions.requests ≡ [])) cores n (Some s) (λ k q. let same : s ≡ k = cc in subst (λ (z : Core). (z.sessions.providers ≡ []) × (z.sessions.requests ≡ [])) same (idle_start c n j)) (λ m ne k q. t.idle m k q);
        begun = each_set (λ m o. (k : Core) → o ≡ Some k → Begun g k) cores n (Some s) (λ k q. let same : s ≡ k = cc in subst (Begun g) same (begun_start g c n j)) (λ m ne k q. t.begun m k q);
      }
    where
      not_told : (p : ProviderId) (r : ℕ) (u : ViewId) → Has (Noted (Told p r u)) (Kept (In n (incs n + 1) v ms) ∷ t.all) → ⊥
      not_told p r u (inl e) = cc
      not_told p r u (inr h) = t.untold p r u h

      not_asked : (p : ProviderId) (r : ℕ) (y : Proposal) → Has (Noted (group.Asked p r y)) (Kept (In n (incs n + 1) v ms) ∷ t.all) → ⊥
      not_asked p r y (inl e) = cc
      not_asked p r y (inr h) = t.unasked p r y h

      here : NodeIsIf c (bare c nodes all) g n (at_node incs n j n) (at_node cores n (Some s) n)
      here = subst (λ (k : ℕ × Option Core). NodeIsIf c (bare c nodes all) g n k.0 k.1) (λ i. (sym (set_here incs n j) i, sym (set_here cores n (Some s)) i)) own

      old : (m : ℕ) → m ≢ n → NodeIsIf c (bare c nodes all) g m (at_node incs n j m) (at_node cores n (Some s) m)
      old m ne =
          subst (λ (k : ℕ × Option Core). NodeIsIf c (bare c nodes all) g m k.0 k.1) (λ i. (sym (set_there incs n j m ne) i, sym (set_there cores n (Some s) m ne) i)) (node_if_on (bare c t.nodes t.all) (bare c nodes all) m (spares m ne) (set_there t.nodes n z m ne) c g (incs m) (cores m) (t.stand m))

-- who was in the view, or starts now
in_more : (g : List ℕ) (c : Config) (fixed : is_fixed c.mode ≡ true) (cores : ℕ → Option Core) (incs : ℕ → ℕ) (rs : List Happened) (t : Opens g c cores incs rs) (n : ℕ) (down : cores n ≡ None) (there : Has n (nodes_of c.nodes)) (k : ℕ) → (n ≡ k) ⊎ Has (In k 1 (first_of c) (all_members c)) (kept t.all) → Has (In k 1 (first_of c) (all_members c)) (kept (one_more g c fixed cores incs rs t n down there).all)
unfolding one_more
in_more g c fixed cores incs rs t n down there k h = in_view g c fixed cores incs rs t n down there k h

-- the coordinator leads
names_first : (g : List ℕ) (c : Config) (cores : ℕ → Option Core) (incs : ℕ → ℕ) (rs : List Happened) (t : Opens g c cores incs rs) → is_fixed c.mode ≡ true → Has (In (first_of c).coord 1 (first_of c) (all_members c)) (kept t.all) → Life (opening_of c) t.nodes [] t.all (leads_of c) (λ v. None)
names_first g c cores incs rs t fixed h =
    Names t.nodes [] t.all (λ v. None) (leads_of c) (λ v. None) (first_of c) (first_of c).coord 1 t.life refl (record { here = view_here (λ v. None) (first_of c) (Some (member (first_of c).coord 1)); there = λ u ne. view_there (λ v. None) (first_of c) (Some (member (first_of c).coord 1)) u ne }) (inl (all_members c, h)) (subst (λ o. MayLead o (first_of c) (first_of c).coord) (sym (opening_fixed c c.mode fixed)) refl)

opens_rest : (g : List ℕ) (c : Config) → is_fixed c.mode ≡ true → (ns : List ℕ) → ((m : ℕ) → Has m ns → Has m (nodes_of c.nodes)) → (cores : ℕ → Option Core) (incs : ℕ → ℕ) (rs : List Happened) (t : Opens g c cores incs rs) → Has (In (first_of c).coord 1 (first_of c) (all_members c)) (kept t.all) → Rests g (fold (λ (w : Scene) n. starts_too w n (w.cores n)) (scene c cores incs rs) ns)
opens_rest g c fixed [] there cores incs rs t up =
    record {
      ghost = bare c t.nodes t.all;
      life = names_first g c cores incs rs t fixed up;
      lines = t.lines;
      nodes = t.stand;
      packets = λ p h. absurd h;
      sound = record { refused = λ v p r h. absurd h; unled = λ v p r h. absurd h; shut = λ v h. absurd h; asked = λ p r y h. absurd (t.unasked p r y h); one = λ p r h k a. absurd a; started = λ a h. absurd h; told = λ p r u h. absurd (t.untold p r u h) };
      asks = ap not (sym fixed);
      placed = λ m k e. ap (view_now m) (append-nil rs) ∙ t.placed m k e;
      nobody = t.nobody;
      turns = λ m k e. let i = t.idle m k e in idle_turn k.views.view (rs ++ []) k.sessions i.0 i.1;
      sent = λ v p r y h. absurd h;
      begun = t.begun;
    }
opens_rest g c fixed (n ∷ ns) there cores incs rs t up =
    by (cores n) refl (λ cores' incs' rs' u h. opens_rest g c fixed ns (λ m i. there m (inr i)) cores' incs' rs' u h)
  where
    by : (o : Option Core) → cores n ≡ o → ((cores' : ℕ → Option Core) (incs' : ℕ → ℕ) (rs' : List Happened) (u : Opens g c cores' incs' rs') → Has (In (first_of c).coord 1 (first_of c) (all_members c)) (kept u.all) → Rests g (fold (λ (w : Scene) m. starts_too w m (w.cores m)) (scene c cores' incs' rs') ns)) → Rests g (fold (λ (w : Scene) m. starts_too w m (w.cores m)) (starts_too (scene c cores incs rs) n o) ns)
    by (Some x) e rest = rest cores incs rs t up
    by None e rest =
        rest (at_node cores n (Some (started c n (incs n + 1)))) (at_node incs n (incs n + 1)) (reverse (started c n (incs n + 1)).records ++ rs) (one_more g c fixed cores incs rs t n e (there n (inl refl))) (in_more g c fixed cores incs rs t n e (there n (inl refl)) (first_of c).coord (inr up))

-- the first node coordinates
first_coordinates : (c : Config) (n : ℕ) (ns : List ℕ) → nodes_of c.nodes ≡ n ∷ ns → n ≡ (first_of c).coord
unfolding first_view nodes_of least_node
first_coordinates c n ns e = ap (λ (o : Option ℕ). unwrap_or o 0) (sym (at node_numbers e))
  where
    at : (xs : List ℕ) → filter (has_node c.nodes) xs ≡ n ∷ ns → find (has_node c.nodes) xs ≡ Some n
    at [] q = absurd (cc)
    at (x ∷ xs) q = by (has_node c.nodes x) q (at xs)
      where
        by : (b : Bool) → (if b then x ∷ filter (has_node c.nodes) xs else filter (has_node c.nodes) xs) ≡ n ∷ ns → (filter (has_node c.nodes) xs ≡ n ∷ ns → find (has_node c.nodes) xs ≡ Some n) → (if b then Some x else find (has_node c.nodes) xs) ≡ Some n
        by true q rest = let same : x ≡ n = cc in ap (λ z. Some z) same
        by false q rest = rest q

abbrev nobody : ℕ → Standing
nobody = λ m. record { inc = 0; view = first 0 0; promise = first 0 0; list = [] }

pub fixed_start_tied : (g : List ℕ) (c : Config) → is_fixed c.mode ≡ true → Rests g (all_started c)
fixed_start_tied g c fixed = by (nodes_of c.nodes) refl
  where
    begun : Life (opening_of c) nobody [] (Kept Begins ∷ []) (λ v. None) (λ v. None)
    begun = NextEvent nobody [] [] (λ v. None) (λ v. None) (Dawn nobody (λ m. (refl, refl, refl)))

    none : Opens g c (λ m. None) (λ m. 0) []
    none =
        record {
          nodes = nobody;
          all = Kept Begins ∷ [];
          life = begun;
          quiet = record { at = λ m u. refl };
          lines = refl;
          stand = λ m. refl;
          placed = λ m k e. absurd (cc);
          unasked = λ p r y h. not_asked p r y h;
          untold = λ p r u h. not_told p r u h;
          fresh = λ m e. refl;
          nobody = refl;
          idle = λ m k e. absurd (cc);
          begun = λ m k e. absurd (cc);
        }
      where
        not_told : (p : ProviderId) (r : ℕ) (u : ViewId) → Has (Noted (Told p r u)) (Kept Begins ∷ []) → ⊥
        not_told p r u (inl e) = cc
        not_told p r u (inr h) = h

        not_asked : (p : ProviderId) (r : ℕ) (y : Proposal) → Has (Noted (group.Asked p r y)) (Kept Begins ∷ []) → ⊥
        not_asked p r y (inl e) = cc
        not_asked p r y (inr h) = h

    by : (ns : List ℕ) → nodes_of c.nodes ≡ ns → Rests g (fold (λ (w : Scene) n. starts_too w n (w.cores n)) (scene c (λ m. None) (λ m. 0) []) ns)
    by [] e =
        record {
          ghost = record { nodes = nobody; ps = []; all = Kept Begins ∷ []; leads = λ v. None; bases = λ v. None; asks = false; shut = []; asked = [] };
          life = begun;
          lines = refl;
          nodes = none.stand;
          packets = λ p h. absurd h;
          sound = record { refused = λ v p r h. absurd h; unled = λ v p r h. absurd h; shut = λ v h. absurd h; asked = λ p r y h. absurd (none.unasked p r y h); one = λ p r h k a. absurd a; started = λ a h. absurd h; told = λ p r u h. absurd (none.untold p r u h) };
          asks = ap not (sym fixed);
          placed = λ m k e. absurd (cc);
          nobody = refl;
          turns = λ m k e. absurd (cc);
          sent = λ v p r y h. absurd h;
          begun = λ m k e. absurd (cc);
        }
    by (n ∷ ns) e =
        let there : (m : ℕ) → Has m (n ∷ ns) → Has m (nodes_of c.nodes) = λ m h. subst (Has m) (sym e) h in
        let t = one_more g c fixed (λ m. None) (λ m. 0) [] none n refl (there n (inl refl)) in
        opens_rest g c fixed ns (λ m h. there m (inr h)) (at_node (λ m. None) n (Some (started c n 1))) (at_node (λ m. 0) n 1) (reverse (started c n 1).records ++ []) t (in_more g c fixed (λ m. None) (λ m. 0) [] none n refl (there n (inl refl)) (first_of c).coord (inl (first_coordinates c n ns e)))
