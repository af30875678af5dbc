-- A node starts: the ring of its adapter starts in the network, where it has one there.
use Rattle.std.proofs.Common.{◌≡◌, ◌≢◌, ◌≤◌, ◌<◌, ◌⊎◌, ℕ, suc, ◌+◌, ◌-◌, List, [], ◌∷◌, ◌++◌, length, get_or, Option, Some, None, Bool, true, false, refl, sym, ap, ◌∙◌, subst, inl, inr, ⊎_elim, arith}
use Rattle.std.specs.Prelude.{◌==◌, ◌&&◌, ◌||◌, not, map, filter, find, is_none, nat_le, nat_lt, if◌then◌else◌}
use Rattle.std.specs.List.{list_all}
use Rattle.std.proofs.lemmas.Bool.{cases_lt, le-leb, eq-eqb, eqb-true}
use Rattle.std.proofs.lemmas.List.{get_or_past}
use Rattle.std.proofs.lemmas.Option.{unwrap_or-slice_get}
use Rattle.rsct_packet.specs.Mask.{is_node}
use Rattle.rsct_packet.specs.Search.{Has}
use Rattle.rsct_packet.proofs.HasLaws.{has_append, append_has_left, append_has_right, has_map, has_filter, find_has, find_none}
use Rattle.adapter_ring.specs.declared.ring.Ring.{Ring}
use Rattle.adapter_ring.specs.Addresses.{addr_of, has_addr}
use Rattle.adapter_ring.specs.Rings.{ring_new, neighbour}
use Rattle.adapter_ring.specs.Network.{Starts, Told, Started, Network, ring_at, may_start, ring_told, ring_started, happens}
use Rattle.node_state.specs.declared.config.Config.{Config}
use Rattle.node_state.specs.declared.config.Mode.{Mode}
use Rattle.node_state.specs.declared.config.Mode.TheVariants.{Fixed, Asked, Rings}
use Rattle.node_state.specs.declared.happened.Happened.{Happened}
use Rattle.node_state.specs.declared.happened.Happened.TheVariants as happened
use Rattle.node_state.specs.declared.packet.Packet.{Packet}
use Rattle.node_state.specs.declared.state.Core.{Core}
use Rattle.node_state.specs.Settings.{is_fixed, networks, addresses_on, address_at, has_adapter, networks_of}
use Rattle.node_state.specs.State.{with_sessions}
use Rattle.node_state.specs.Step.{own_ring, own_rings, first_view, first_members, ring_record, started}
use Rattle.view_state.specs.Views.{views_new}
use Rattle.step_refinement.specs.Rules.{at_node}
use Rattle.step_refinement.proofs.Changed.{set_here, set_there, each_set}
use Rattle.run_laws.specs.ring_runs.Rings.{ring_settings}
use Rattle.run_laws.proofs.ring_runs.Finding.{is_on, is_of, nets_of, Differ, first_here, first_there, me_of}
use Rattle.run_laws.proofs.ring_runs.Playing.{ring_on, Own, Carried, Tells, Comes, comes_on, Grows, carried_on, tells_on}

-- between two events: nodes, incarnations, what was sent and what was recorded
pub record Stands (net : ℕ) (c : Config) (cores : ℕ → Option Core) (incs : ℕ → ℕ) (sent : List Packet) (rs : List Happened) (v : Network) : Type 0 where
  pub net_is : v.net ≡ net
  pub settings : v.settings ≡ ring_settings c net
  pub own : (m : ℕ) (s : Core) → cores m ≡ Some s → Own m (incs m) s
  pub rings : (m : ℕ) → ring_on net (cores m) ≡ ring_at v m
  pub sends : (p : Packet) → Has p sent → Carried net v p p.body
  pub records : (r : Happened) → Has r rs → Tells net v r
  pub starts : (x : Started) → Has x v.starts → x.inc ≤ incs x.node

abbrev pub Plays : ℕ → Config → (ℕ → Option Core) → (ℕ → ℕ) → List Packet → List Happened → Type 0
Plays net c cores incs sent rs = (v : Network) × Comes net (ring_settings c net) v × Stands net c cores incs sent rs v

-- ---- addresses

positive : (n : ℕ) → n ≢ 0 → 1 ≤ n
positive n real = ⊎_elim (λ (lt : 0 < n). omega arith) (λ (le : n ≤ 0). absurd (real (omega arith))) (cases_lt 0 n)

real_node : (n : ℕ) → 1 ≤ n → n ≤ 32 → is_node n ≡ true
real_node n low high = by (nat_le 1 n) (nat_le n 32) (le-leb 1 n low) (le-leb n 32 high)
  where
    by : (a b : Bool) → a ≡ true → b ≡ true → (a && b) ≡ true
    by true true e f = refl
    by true false e f = f
    by false b e f = absurd (cc)

-- a node that has an adapter has an address
adapter_addr : (c : Config) (n net : ℕ) → n ≢ 0 → length (addresses_on c net) ≤ 32 → has_adapter c n net ≡ true → has_addr (ring_settings c net) n ≡ true
unfolding has_adapter address_at has_addr addr_of
adapter_addr c n net real few e = by (is_node n) (real_node n (positive n real) (within (cases_lt (n - 1) (length row))))
  where
    row : List ℕ
    row = addresses_on c net

    address : nat_lt 0 (get_or row (n - 1) 0) ≡ true
    address = subst (λ z. nat_lt 0 z ≡ true) (unwrap_or-slice_get row (n - 1) 0) e

    none : nat_lt 0 0 ≡ true → ⊥
    none f = cc

    within : (n - 1 < length row) ⊎ (length row ≤ n - 1) → n ≤ 32
    within (inl lt) = omega arith
    within (inr past) = absurd (none (subst (λ z. nat_lt 0 z ≡ true) (get_or_past row (n - 1) 0 past) address))

    by : (b : Bool) → b ≡ true → nat_lt 0 (elim b as (λ _. ℕ) [ true ↦ get_or row (n - 1) 0 | false ↦ 0 ]) ≡ true
    by true f = address
    by false f = absurd (cc)

-- ---- the rings that a node starts with

differ_filter : (test : ℕ → Bool) (ns : List ℕ) → Differ ns → Differ (filter test ns)
differ_filter test [] d = tt
differ_filter test (n ∷ ns) d = by (test n) (differ_filter test ns d.1)
  where
    by : (b : Bool) → Differ (filter test ns) → Differ (if b then n ∷ filter test ns else filter test ns)
    by true more = ((λ h. d.0 (has_filter test n ns h).0), more)
    by false more = more

networks_differ : Differ networks
networks_differ = (one, (two, (three, ((λ h. h), tt))))
  where
    one : Has {A = ℕ} 1 (2 ∷ 3 ∷ 4 ∷ []) → ⊥
    one (inl e) = omega arith
    one (inr (inl e)) = omega arith
    one (inr (inr (inl e))) = omega arith
    one (inr (inr (inr z))) = z

    two : Has {A = ℕ} 2 (3 ∷ 4 ∷ []) → ⊥
    two (inl e) = omega arith
    two (inr (inl e)) = omega arith
    two (inr (inr z)) = z

    three : Has {A = ℕ} 3 (4 ∷ []) → ⊥
    three (inl e) = omega arith
    three (inr z) = z

module _ (c : Config) (n j : ℕ) where
  own_nets : (ks : List ℕ) → nets_of (map (own_ring c n j) ks) ≡ ks
  unfolding own_ring ring_new
  own_nets [] = refl
  own_nets (k ∷ ks) = ap (λ z. k ∷ z) (own_nets ks)

  own_apart : (mode : Mode) → Differ (nets_of (own_rings c mode n j))
  unfolding own_rings networks_of
  own_apart Fixed = tt
  own_apart Asked = tt
  own_apart Rings = subst Differ (sym (own_nets (filter (has_adapter c n) networks))) (differ_filter (has_adapter c n) networks networks_differ)

  -- one of them: of an adapter, in mode rings
  pub record IsOwn (mode : Mode) (r : Ring) : Type 0 where
    pub rung : is_fixed mode ≡ false
    pub adapter : has_adapter c n r.net ≡ true
    pub is : r ≡ own_ring c n j r.net

  own_is : (mode : Mode) (r : Ring) → Has r (own_rings c mode n j) → IsOwn mode r
  unfolding own_rings networks_of own_ring ring_new
  own_is Fixed r h = absurd h
  own_is Asked r h = absurd h
  own_is Rings r h =
      let m = has_map (own_ring c n j) r (filter (has_adapter c n) networks) h in
      let net : r.net ≡ m.0 = ap (λ (z : Ring). z.net) m.2 in
      record {
        rung = refl;
        adapter = ap (has_adapter c n) net ∙ (has_filter (has_adapter c n) m.0 networks m.1).1;
        is = m.2 ∙ ap (own_ring c n j) (sym net);
      }

  start_own : Own n j (started c n j)
  unfolding started with_sessions views_new own_ring ring_new
  start_own =
      record {
        me = refl;
        inc = refl;
        mine = λ r h. ap (λ (z : Ring). z.me) (own_is c.mode r h).is;
        life = λ r h. ap (λ (z : Ring). z.inc) (own_is c.mode r h).is;
        apart = own_apart c.mode;
      }

  start_rings : (started c n j).rings ≡ own_rings c c.mode n j
  unfolding started with_sessions
  start_rings = refl

  -- what is told of rings at a start
  start_tells : (net : ℕ) (v : Network) → ((r : Ring) → Has r (own_rings c c.mode n j) → r.net ≡ net → Has {A = Told} (record { node = n; id = r.id; members = r.members; neighbour = neighbour r }) v.told) → (q : Happened) → Has q (started c n j).records → Tells net v q
  unfolding started with_sessions ring_record
  start_tells net v all q (inl e) = subst (Tells net v) (sym e) tt
  start_tells net v all q (inr h) =
      ⊎_elim (λ (a : Has q (map (ring_record n) (own_rings c c.mode n j))). rings a) (λ (a : Has q (happened.In n (first_view c c.mode n j) (first_members c c.mode n j) ∷ [])). last a) (has_append q (map (ring_record n) (own_rings c c.mode n j)) (happened.In n (first_view c c.mode n j) (first_members c c.mode n j) ∷ []) h)
    where
      rings : Has q (map (ring_record n) (own_rings c c.mode n j)) → Tells net v q
      rings a =
          let m = has_map (ring_record n) q (own_rings c c.mode n j) a in
          let here : Tells net v (happened.Ring n m.0.net m.0.id m.0.members (neighbour m.0)) = λ e. all m.0 m.1 e in
          subst (Tells net v) (sym m.2) here

      last : Has q (happened.In n (first_view c c.mode n j) (first_members c c.mode n j) ∷ []) → Tells net v q
      last (inl e) = subst (Tells net v) (sym e) tt
      last (inr z) = absurd z

-- ---- a start

nothing_found : {A : Type 0} (o : Option A) → o ≡ None → is_none o ≡ true
nothing_found None e = refl
nothing_found (Some x) e = absurd (cc)

all_less : (starts : List Started) (n j : ℕ) → ((x : Started) → Has x starts → x.node ≡ n → x.inc < j) → list_all (λ (x : Started). not (x.node == n) || nat_lt x.inc j) starts ≡ true
all_less [] n j less = refl
all_less (x ∷ xs) n j less = by (x.node == n) refl (all_less xs n j (λ y h. less y (inr h)))
  where
    later : (b : Bool) → nat_lt x.inc j ≡ b → b ≡ true → list_all (λ (x : Started). not (x.node == n) || nat_lt x.inc j) xs ≡ true → (b && list_all (λ (x : Started). not (x.node == n) || nat_lt x.inc j) xs) ≡ true
    later true e f more = more
    later false e f more = f

    by : (b : Bool) → (x.node == n) ≡ b → list_all (λ (x : Started). not (x.node == n) || nat_lt x.inc j) xs ≡ true → ((not b || nat_lt x.inc j) && list_all (λ (x : Started). not (x.node == n) || nat_lt x.inc j) xs) ≡ true
    by true e more = later (nat_lt x.inc j) refl (le-leb (suc x.inc) j (let l : x.inc < j = less x (inl refl) (eqb-true x.node n e) in omega arith)) more
    by false e more = more

both : (a b : Bool) → a ≡ true → b ≡ true → (a && b) ≡ true
both true b e f = f
both false b e f = e

-- a node that is down starts in a greater incarnation
may_start_now : (v : Network) (n j : ℕ) → has_addr v.settings n ≡ true → ring_at v n ≡ None → ((x : Started) → Has x v.starts → x.node ≡ n → x.inc < j) → may_start v n j ≡ true
unfolding may_start
may_start_now v n j addr down less =
    both (has_addr v.settings n && is_none (ring_at v n)) (list_all (λ (x : Started). not (x.node == n) || nat_lt x.inc j) v.starts) (both (has_addr v.settings n) (is_none (ring_at v n)) addr (nothing_found (ring_at v n) down)) (all_less v.starts n j less)

module _ (net : ℕ) (c : Config) (cores : ℕ → Option Core) (incs : ℕ → ℕ) (sent : List Packet) (rs more : List Happened) (n : ℕ) where
  abbrev j : ℕ
  j = incs n + 1

  abbrev s : Core
  s = started c n j

  abbrev rings : List Ring
  rings = own_rings c c.mode n j

  abbrev After : Network → Type 0
  After v = Stands net c (at_node cores n (Some s)) (at_node incs n j) sent more v

  own_after : (v : Network) → Stands net c cores incs sent rs v → (m : ℕ) (d : Core) → at_node cores n (Some s) m ≡ Some d → Own m (at_node incs n j m) d
  own_after v k m = each_set (λ m o. (d : Core) → o ≡ Some d → Own m (at_node incs n j m) d) cores n (Some s) new old m
    where
      new : (d : Core) → Some s ≡ Some d → Own n (at_node incs n j n) d
      new d e = let same : s ≡ d = cc in subst (Own n (at_node incs n j n)) same (subst (λ i. Own n i s) (sym (set_here incs n j)) (start_own c n j))

      old : (m : ℕ) → m ≢ n → (d : Core) → cores m ≡ Some d → Own m (at_node incs n j m) d
      old m ne d e = subst (λ i. Own m i d) (sym (set_there incs n j m ne)) (k.own m d e)

  later_inc : (x : Started) → x.inc ≤ incs x.node → x.inc ≤ at_node incs n j x.node
  later_inc x le = each_set (λ m i. (x.node ≡ m) → x.inc ≤ i) incs n j (λ e. (let l : x.inc ≤ incs n = subst (λ z. x.inc ≤ incs z) e le in omega arith)) (λ m ne e. subst (λ z. x.inc ≤ incs z) e le) x.node refl

  -- it has no ring there
  starts_without : (v : Network) → find (is_on net) rings ≡ None → cores n ≡ None → ((r : Happened) → Has r more → Has r s.records ⊎ Has r rs) → Stands net c cores incs sent rs v → After v
  starts_without v none down grown k =
      record {
        net_is = k.net_is;
        settings = k.settings;
        own = own_after v k;
        rings = each_set (λ m o. ring_on net o ≡ ring_at v m) cores n (Some s) (ap (find (is_on net)) (start_rings c n j) ∙ none ∙ sym (ap (ring_on net) down) ∙ k.rings n) (λ m ne. k.rings m);
        sends = k.sends;
        records = λ r h. ⊎_elim (λ (a : Has r s.records). start_tells c n j net v (λ q i e. absurd (find_none (is_on net) rings q (nothing_found (find (is_on net) rings) none) i (eq-eqb q.net net e))) r a) (λ (a : Has r rs). k.records r a) (grown r h);
        starts = λ x h. later_inc x (k.starts x h);
      }

  -- it has one there, and that starts
  starts_with : (v : Network) (r : Ring) → r ≡ own_ring c n j net → cores n ≡ None → ((r : Happened) → Has r more → Has r s.records ⊎ Has r rs) → find (is_on net) rings ≡ Some r → Stands net c cores incs sent rs v → After (ring_started v r)
  unfolding ring_started ring_at ring_told own_ring ring_new
  starts_with v r is down grown found k =
      record {
        net_is = k.net_is;
        settings = k.settings;
        own = own_after v k;
        rings = each_set (λ m o. ring_on net o ≡ find (is_of m) (r ∷ v.rings)) cores n (Some s) (ap (find (is_on net)) (start_rings c n j) ∙ found ∙ sym (first_here me_of n r v.rings mine)) (λ m ne. k.rings m ∙ sym (first_there me_of m r v.rings (λ e. ne (sym e ∙ mine))));
        sends = λ p h. carried_on net v (ring_started v r) grows p p.body (k.sends p h);
        records = λ q h. ⊎_elim (λ (a : Has q s.records). start_tells c n j net (ring_started v r) told q a) (λ (a : Has q rs). tells_on net v (ring_started v r) grows q (k.records q a)) (grown q h);
        starts = λ x h. ⊎_elim (λ (e : x ≡ record { node = r.me; inc = r.inc }). subst (λ (z : Started). z.inc ≤ at_node incs n j z.node) (sym e) here) (λ (i : Has x v.starts). later_inc x (k.starts x i)) h;
      }
    where
      mine : r.me ≡ n
      mine = ap (λ (z : Ring). z.me) is

      life : r.inc ≡ j
      life = ap (λ (z : Ring). z.inc) is

      grows : Grows v (ring_started v r)
      grows = record { sent = λ y i. i; told = λ y i. append_has_left y v.told (ring_told r ∷ []) i }

      here : r.inc ≤ at_node incs n j r.me
      here = subst (λ z. r.inc ≤ at_node incs n j z) (sym mine) (subst (λ z. r.inc ≤ z) (sym (set_here incs n j)) (let e = life in omega arith))

      told : (q : Ring) → Has q rings → q.net ≡ net → Has {A = Told} (record { node = n; id = q.id; members = q.members; neighbour = neighbour q }) (v.told ++ ring_told r ∷ [])
      told q h e =
          let same : q ≡ r = (own_is c n j c.mode q h).is ∙ ap (own_ring c n j) e ∙ sym is in
          append_has_right (record { node = n; id = q.id; members = q.members; neighbour = neighbour q }) v.told (ring_told r ∷ []) (inl (ap (λ (z : Ring). record { node = n; id = z.id; members = z.members; neighbour = neighbour z }) same ∙ ap (λ m. record { node = m; id = r.id; members = r.members; neighbour = neighbour r }) (sym mine)))

  pub start_plays : length (addresses_on c net) ≤ 32 → (is_fixed c.mode ≡ false → n ≢ 0) → cores n ≡ None → ((r : Happened) → Has r more → Has r s.records ⊎ Has r rs) → Plays net c cores incs sent rs → Plays net c (at_node cores n (Some s)) (at_node incs n j) sent more
  unfolding happens own_ring
  start_plays few real down grown p = by (find (is_on net) rings) refl
    where
      v : Network
      v = p.0

      k : Stands net c cores incs sent rs v
      k = p.2

      less : (x : Started) → Has x v.starts → x.node ≡ n → x.inc < j
      less x h e = let l : x.inc ≤ incs n = subst (λ z. x.inc ≤ incs z) e (k.starts x h) in omega arith

      by : (o : Option Ring) → find (is_on net) rings ≡ o → Plays net c (at_node cores n (Some s)) (at_node incs n j) sent more
      by None e = (v, p.1, starts_without v e down grown k)
      by (Some r) e =
          let f = find_has (is_on net) rings r e in
          let on : r.net ≡ net = eqb-true r.net net f.1 in
          let own : IsOwn c n j c.mode r = own_is c n j c.mode r f.0 in
          let is : r ≡ own_ring c n j net = own.is ∙ ap (own_ring c n j) on in
          let addr : has_addr (ring_settings c net) n ≡ true = adapter_addr c n net (real own.rung) few (ap (has_adapter c n) (sym on) ∙ own.adapter) in
          let may : may_start v n j ≡ true = may_start_now v n j (ap (λ z. has_addr z n) k.settings ∙ addr) (sym (k.rings n) ∙ ap (ring_on net) down) less in
          let new : ring_new v.net n j v.settings ≡ r = ap (λ z. ring_new z n j v.settings) k.net_is ∙ ap (λ z. ring_new net n j z) k.settings ∙ sym is in
          let comes : Comes net (ring_settings c net) (elim (may_start v n j) [ true ↦ ring_started v (ring_new v.net n j v.settings) | false ↦ v ]) = comes_on net (ring_settings c net) v (Starts n j) p.1 in
          let now : Comes net (ring_settings c net) (ring_started v (ring_new v.net n j v.settings)) = subst (λ b. Comes net (ring_settings c net) (elim b [ true ↦ ring_started v (ring_new v.net n j v.settings) | false ↦ v ])) may comes in
          (ring_started v r, subst (λ z. Comes net (ring_settings c net) (ring_started v z)) new now, starts_with v r is down grown e k)
