-- Whatever happens in a network, its rings agree.
use Rattle.std.proofs.Common.{◌≡◌, ℕ, ◌<◌, ◌≤◌, ◌⊎◌, Bool, true, false, List, [], ◌∷◌, Option, Some, None, refl, sym, ap, ◌∙◌, subst, inl, inr, ⊎_elim, arith}
use Rattle.std.specs.Prelude.{◌==◌, ◌&&◌, ◌||◌, not, nat_lt, map, filter, find, is_none, slice_get}
use Rattle.std.specs.List.{list_all}
use Rattle.std.proofs.lemmas.Bool.{and_parts, or_cases, eqb-false, eq-eqb, not-true, ltb-true}
use Rattle.rsct_packet.specs.declared.ids.RingId.{RingId}
use Rattle.rsct_packet.specs.declared.mask.Mask.{Mask}
use Rattle.rsct_packet.specs.Mask.{no_nodes, with_node}
use Rattle.rsct_packet.specs.Search.{Has}
use Rattle.rsct_packet.proofs.HasLaws.{all_has, find_has, find_none, get_has, has_filter, has_append, has_map}
use Rattle.adapter_ring.specs.declared.packet.RingEvent.{RingEvent}
use Rattle.adapter_ring.specs.declared.packet.RingEvent.TheVariants.{Tick, Packet}
use Rattle.adapter_ring.specs.declared.ring.Ring.{Ring}
use Rattle.adapter_ring.specs.declared.ring.RingSet.{RingSet}
use Rattle.adapter_ring.specs.declared.ring.RingSettings.{RingSettings}
use Rattle.adapter_ring.specs.declared.ring.Gathering.{Gathering}
use Rattle.adapter_ring.specs.declared.work.RingWork.{RingWork}
use Rattle.adapter_ring.specs.Addresses.{addr_of, has_addr, neighbour_in}
use Rattle.adapter_ring.specs.Rings.{neighbour, ring_new, ring_step}
use Rattle.adapter_ring.specs.Network.{Happening, Starts, Stops, Ticks, Given, Sent, Told, Started, Network, quiet, ring_at, may_start, ring_told, ring_started, sent_by, told_by, with_ring, step_taken, stepped_in, given_in, happens, after}
use Rattle.adapter_ring.specs.Agreement.{AddressesDiffer, IsNeighbour, RingsAgree}
use Rattle.adapter_ring.proofs.AddressLaws.{neighbour_is, greatest_alone}
use Rattle.adapter_ring.proofs.Parts.{Made, Books, GathersOk, RingOk, PacketOk, SetOk, SetsOk, WorkOk, books_more, packet_kept, either}
use Rattle.adapter_ring.proofs.Works.{EventOk, stepped_ok}

-- what holds of a network at every moment
pub record Fine (s : RingSettings) (w : Network) : Type 0 where
  pub settings : w.settings ≡ s
  pub made : List Made
  pub books : Books s made
  pub started : (a : Made) → Has a made → Has (record { node = a.id.leader; inc = a.id.inc }) w.starts
  pub ring : (r : Ring) → Has r w.rings → RingOk s made r
  pub up : (r : Ring) → Has r w.rings → Has (record { node = r.me; inc = r.inc }) w.starts
  pub one : (r q : Ring) → Has r w.rings → Has q w.rings → r.me ≡ q.me → r ≡ q
  pub sent : (x : Sent) → Has x w.sent → PacketOk made x.packet
  pub told : (t : Told) → Has t w.told → SetOk s made t.node t.id t.members t.neighbour

-- a ring of another node after the step of one: nothing that was made concerns it
other_ring : (s : RingSettings) (n j : ℕ) (made more : List Made) (q : Ring) → ((a : Made) → Has a made → Has a more) → ((a : Made) → Has a more → Has a made ⊎ ((a.id.leader ≡ n) × (a.id.inc ≡ j))) → (q.me ≡ n → ⊥) → RingOk s made q → RingOk s more q
other_ring s n j made more q kept new ne k =
    record {
      settings = k.settings;
      addr = k.addr;
      own = kept (record { id = q.id; members = q.members }) k.own;
      mine = k.mine;
      below = λ a h l i. ⊎_elim (λ (g : Has a made). k.below a g l i) (λ (g : (a.id.leader ≡ n) × (a.id.inc ≡ j)). absurd (ne (sym l ∙ g.0))) (new a h);
      gathers = by q.gathering k.gathers;
    }
  where
    by : (o : Option Gathering) → GathersOk s made q.me q.inc q.last o → GathersOk s more q.me q.inc q.last o
    by None h = tt
    by (Some g) h = record {
      leader = h.leader;
      life = h.life;
      number = h.number;
      fresh = λ a t e.
          ⊎_elim
          (λ (f : Has a made). h.fresh a f e)
          (λ (f : (a.id.leader ≡ n) × (a.id.inc ≡ j)). ne (sym h.leader ∙ sym (ap (λ (z : RingId). z.leader) e) ∙ f.0))
          (new a t);
      asked = h.asked;
      acked = h.acked;
    }

-- a ring of the network after one was put in its place
with_ring_has : (x : Ring) (rs : List Ring) (q : Ring) → Has q (with_ring x rs) → (q ≡ x) ⊎ (Has q rs × (q.me ≡ x.me → ⊥))
unfolding with_ring
with_ring_has x rs q h =
    let m = has_map (λ (y : Ring). elim (y.me == x.me) [ true ↦ x | false ↦ y ]) q rs h in by m.0 (m.0.me == x.me) refl m.1 m.2
  where
    by : (p : Ring) (b : Bool) → (p.me == x.me) ≡ b → Has p rs → q ≡ elim b [ true ↦ x | false ↦ p ] → (q ≡ x) ⊎ (Has q rs × (q.me ≡ x.me → ⊥))
    by p true e t f = inl f
    by p false e t f = inr (subst (λ z. Has z rs × (z.me ≡ x.me → ⊥)) (sym f) (t, eqb-false p.me x.me e))

set_kept : (s : RingSettings) (made more : List Made) → ((a : Made) → Has a made → Has a more) → (t : Told) → SetOk s made t.node t.id t.members t.neighbour → SetOk s more t.node t.id t.members t.neighbour
set_kept s made more kept t k = record { own = kept (record { id = t.id; members = t.members }) k.own; mine = k.mine; beside = k.beside }

-- what a ring's step leaves
pub taken_fine : (s : RingSettings) (w : Network) (r : Ring) (x : RingWork) (f : Fine s w) (more : List Made) → Has r w.rings → WorkOk s r.me r.inc f.made more x → Fine s (step_taken w x)
unfolding step_taken sent_by told_by
taken_fine s w r x f more h o =
    record {
      settings = f.settings;
      made = more;
      books = o.books;
      started = λ a g.
          ⊎_elim
          (λ (b : Has a f.made). f.started a b)
          (λ (b : (a.id.leader ≡ r.me) × (a.id.inc ≡ r.inc)). subst (λ l. Has (record { node = l; inc = a.id.inc }) w.starts) (sym b.0) (subst (λ i. Has (record { node = r.me; inc = i }) w.starts) (sym b.1) (f.up r h)))
          (o.new a g);
      ring = λ q g.
          ⊎_elim
          (λ (e : q ≡ x.ring). subst (λ z. RingOk s more z) (sym e) o.ring)
          (λ (b : Has q w.rings × (q.me ≡ x.ring.me → ⊥)). other_ring s r.me r.inc f.made more q o.kept o.new (λ e. b.1 (e ∙ sym o.me)) (f.ring q b.0))
          (with_ring_has x.ring w.rings q g);
      up = λ q g.
          ⊎_elim
          (λ (e : q ≡ x.ring). subst (λ (z : Ring). Has (record { node = z.me; inc = z.inc }) w.starts) (sym e) own)
          (λ (b : Has q w.rings × (q.me ≡ x.ring.me → ⊥)). f.up q b.0)
          (with_ring_has x.ring w.rings q g);
      one = λ q p g k e. same q p (with_ring_has x.ring w.rings q g) (with_ring_has x.ring w.rings p k) e;
      sent = λ y g.
          ⊎_elim
          (λ (b : Has y w.sent). packet_kept f.made more o.kept y.packet (f.sent y b))
          (λ (b : Has y (map (sent_by x.ring) x.sends)). (let m = has_map (sent_by x.ring) y x.sends b in subst (λ (z : Sent). PacketOk more z.packet) (sym m.2) (o.sends m.0 m.1)))
          (has_append y w.sent (map (sent_by x.ring) x.sends) g);
      told = λ t g.
          ⊎_elim
          (λ (b : Has t w.told). set_kept s f.made more o.kept t (f.told t b))
          (λ (b : Has t (told_by x.ring x.set)). told_new x.set o.set t b)
          (has_append t w.told (told_by x.ring x.set) g);
    }
  where
    own : Has (record { node = x.ring.me; inc = x.ring.inc }) w.starts
    own = subst (λ l. Has (record { node = l; inc = x.ring.inc }) w.starts) (sym o.me) (subst (λ i. Has (record { node = r.me; inc = i }) w.starts) (sym o.life) (f.up r h))

    same : (q p : Ring) → (q ≡ x.ring) ⊎ (Has q w.rings × (q.me ≡ x.ring.me → ⊥)) → (p ≡ x.ring) ⊎ (Has p w.rings × (p.me ≡ x.ring.me → ⊥)) → q.me ≡ p.me → q ≡ p
    same q p (inl a) (inl b) e = a ∙ sym b
    same q p (inl a) (inr b) e = absurd (b.1 (sym e ∙ ap (λ (z : Ring). z.me) a))
    same q p (inr a) (inl b) e = absurd (a.1 (e ∙ ap (λ (z : Ring). z.me) b))
    same q p (inr a) (inr b) e = f.one q p a.0 b.0 e

    told_new : (k : Option RingSet) → SetsOk s more x.ring.me k → (t : Told) → Has t (told_by x.ring k) → SetOk s more t.node t.id t.members t.neighbour
    told_new None k t h = absurd h
    told_new (Some y) k t h =
        ⊎_elim
        (λ (e : t ≡ record { node = x.ring.me; id = y.id; members = y.members; neighbour = y.neighbour }). subst (λ (z : Told). SetOk s more z.node z.id z.members z.neighbour) (sym e) k)
        (λ (g : ⊥). absurd g)
        h

-- a node that has a ring, or none
stepped_fine : (s : RingSettings) (differ : AddressesDiffer s) (w : Network) (e : RingEvent) (n : ℕ) → (f : Fine s w) → EventOk f.made e → Fine s (stepped_in w e (ring_at w n))
unfolding stepped_in ring_at
stepped_fine s differ w e n f ok = by (find (λ (r : Ring). r.me == n) w.rings) refl
  where
    by : (o : Option Ring) → find (λ (r : Ring). r.me == n) w.rings ≡ o → Fine s (stepped_in w e o)
    by None g = f
    by (Some r) g =
        let h = (find_has (λ (q : Ring). q.me == n) w.rings r g).0 in
        let o = stepped_ok s differ f.made r e f.books (f.ring r h) ok in
        taken_fine s w r (ring_step r e) f o.0 h o.1

given_fine : (s : RingSettings) (differ : AddressesDiffer s) (w : Network) (k : ℕ) → Fine s w → Fine s (given_in w (slice_get w.sent k))
unfolding given_in
given_fine s differ w k f = by (slice_get w.sent k) refl
  where
    by : (o : Option Sent) → slice_get w.sent k ≡ o → Fine s (given_in w o)
    by None g = f
    by (Some x) g = stepped_fine s differ w (Packet x.from x.inc x.packet) x.to f (f.sent x (get_has w.sent k x g))

pub stop_fine : (s : RingSettings) (w : Network) (n : ℕ) → Fine s w → Fine s (happens w (Stops n))
unfolding happens
stop_fine s w n f =
    let rest : (q : Ring) → Has q (filter (λ (r : Ring). not (r.me == n)) w.rings) → Has q w.rings = λ q h. (has_filter (λ (r : Ring). not (r.me == n)) q w.rings h).0 in
    record {
      settings = f.settings;
      made = f.made;
      books = f.books;
      started = f.started;
      ring = λ q h. f.ring q (rest q h);
      up = λ q h. f.up q (rest q h);
      one = λ q p g h e. f.one q p (rest q g) (rest p h) e;
      sent = f.sent;
      told = f.told;
    }

-- each earlier start of the node was in a lesser incarnation
earlier : (n inc : ℕ) (starts : List Started) (b : Started) → list_all (λ (x : Started). not (x.node == n) || nat_lt x.inc inc) starts ≡ true → Has b starts → b.node ≡ n → b.inc < inc
earlier n inc starts b h t e =
    ⊎_elim
    (λ (f : not (b.node == n) ≡ true). absurd (eqb-false b.node n (not-true (b.node == n) f) e))
    (λ (f : nat_lt b.inc inc ≡ true). ltb-true b.inc inc f)
    (or_cases (not (b.node == n)) (nat_lt b.inc inc) (all_has (λ (x : Started). not (x.node == n) || nat_lt x.inc inc) starts b h t))

has_addr_up : (s : RingSettings) (n : ℕ) → has_addr s n ≡ true → 0 < addr_of s n
unfolding has_addr
has_addr_up s n h = ltb-true 0 (addr_of s n) h

pub started_fine : (s : RingSettings) (w : Network) (n inc : ℕ) → Fine s w → 0 < addr_of s n → ((q : Ring) → Has q w.rings → q.me ≡ n → ⊥) → ((b : Started) → Has b w.starts → b.node ≡ n → b.inc < inc) → Fine s (ring_started w (ring_new w.net n inc w.settings))
unfolding ring_started ring_new ring_told neighbour
started_fine s w n inc f up down later =
    let r : Ring = ring_new w.net n inc w.settings in
    let ms : Mask = with_node no_nodes n in
    let great = greatest_alone s n up in
    let a : Made = record { id = record { leader = n; inc = inc; number = 1 }; members = ms } in
    let more : List Made = a ∷ f.made in
    let fresh : (b : Made) → Has b f.made → b.id.leader ≡ n → b.id.inc ≡ inc → ⊥ = λ b h l i. (let lt = later (record { node = b.id.leader; inc = b.id.inc }) (f.started b h) l in absurd (omega (arith, i))) in
    record {
      settings = f.settings;
      made = more;
      books = books_more s f.made a f.books (λ b h e. fresh b h (ap (λ (z : RingId). z.leader) e) (ap (λ (z : RingId). z.inc) e)) great;
      started = λ b h.
          ⊎_elim
          (λ (e : b ≡ a). inl (ap (λ (z : Made). record { node = z.id.leader; inc = z.id.inc }) e))
          (λ (g : Has b f.made). inr (f.started b g))
          h;
      ring = λ q h.
          ⊎_elim
          (λ (e : q ≡ r). subst (λ z. RingOk s more z) (sym e) (record {
            settings = f.settings;
            addr = up;
            own = inl refl;
            mine = great.among;
            below = λ b g l i. ⊎_elim (λ (d : b ≡ a). subst (λ (z : Made). z.id.number ≤ 1) (sym d) (omega arith)) (λ (d : Has b f.made). absurd (fresh b d l i)) g;
            gathers = tt;
          }))
          (λ (g : Has q w.rings). other_ring s n inc f.made more q (λ b k. inr k) (λ b k. new b k) (down q g) (f.ring q g))
          h;
      up = λ q h.
          ⊎_elim
          (λ (e : q ≡ r). inl (ap (λ (z : Ring). record { node = z.me; inc = z.inc }) e))
          (λ (g : Has q w.rings). inr (f.up q g))
          h;
      one = λ q p g h e. same q p g h e;
      sent = λ x h. packet_kept f.made more (λ b k. inr k) x.packet (f.sent x h);
      told = λ t h.
          ⊎_elim
          (λ (g : Has t w.told). set_kept s f.made more (λ b k. inr k) t (f.told t g))
          (λ (g : Has t (ring_told r ∷ [])).
          ⊎_elim
          (λ (e : t ≡ ring_told r). subst (λ (z : Told). SetOk s more z.node z.id z.members z.neighbour) (sym e) (record {
            own = inl refl;
            mine = great.among;
            beside = subst (λ u. IsNeighbour s n ms (neighbour_in u n ms)) (sym f.settings) (neighbour_is s n ms great.among);
          }))
          (λ (k : ⊥). absurd k)
          g)
          (has_append t w.told (ring_told r ∷ []) h);
    }
  where
    new : (b : Made) → Has b (record { id = record { leader = n; inc = inc; number = 1 }; members = with_node no_nodes n } ∷ f.made) → Has b f.made ⊎ ((b.id.leader ≡ n) × (b.id.inc ≡ inc))
    new b (inl e) = inr (ap (λ (z : Made). z.id.leader) e, ap (λ (z : Made). z.id.inc) e)
    new b (inr g) = inl g

    same : (q p : Ring) → (q ≡ ring_new w.net n inc w.settings) ⊎ Has q w.rings → (p ≡ ring_new w.net n inc w.settings) ⊎ Has p w.rings → q.me ≡ p.me → q ≡ p
    same q p (inl a) (inl b) e = a ∙ sym b
    same q p (inl a) (inr b) e = absurd (down p b (sym e ∙ ap (λ (z : Ring). z.me) a))
    same q p (inr a) (inl b) e = absurd (down q a (e ∙ ap (λ (z : Ring). z.me) b))
    same q p (inr a) (inr b) e = f.one q p a b e

start_fine : (s : RingSettings) (w : Network) (n inc : ℕ) → Fine s w → Fine s (happens w (Starts n inc))
unfolding happens may_start ring_at
start_fine s w n inc f =
    either (Fine s) (may_start w n inc) (ring_started w (ring_new w.net n inc w.settings)) w
    (λ e.
    (let two = and_parts (has_addr w.settings n && is_none (ring_at w n)) (list_all (λ (x : Started). not (x.node == n) || nat_lt x.inc inc) w.starts) e in
    let one = and_parts (has_addr w.settings n) (is_none (ring_at w n)) two.0 in
    started_fine s w n inc f
    (has_addr_up s n (subst (λ t. has_addr t n ≡ true) f.settings one.0))
    (λ q h d. find_none (λ (r : Ring). r.me == n) w.rings q one.1 h (eq-eqb q.me n d))
    (λ b h d. earlier n inc w.starts b two.1 h d)))
    (λ e. f)

happens_fine : (s : RingSettings) (differ : AddressesDiffer s) (w : Network) (e : Happening) → Fine s w → Fine s (happens w e)
unfolding happens
happens_fine s differ w (Starts n inc) f = start_fine s w n inc f
happens_fine s differ w (Stops n) f = stop_fine s w n f
happens_fine s differ w (Ticks n) f = stepped_fine s differ w Tick n f tt
happens_fine s differ w (Given k) f = given_fine s differ w k f

pub quiet_fine : (s : RingSettings) (net : ℕ) → Fine s (quiet net s)
unfolding quiet
quiet_fine s net =
    record {
      settings = refl;
      made = [];
      books = record { one = λ a b h. absurd h; led = λ a h. absurd h };
      started = λ a h. absurd h;
      ring = λ r h. absurd h;
      up = λ r h. absurd h;
      one = λ r q h. absurd h;
      sent = λ x h. absurd h;
      told = λ t h. absurd h;
    }

pub after_fine : (s : RingSettings) (differ : AddressesDiffer s) (w : Network) (es : List Happening) → Fine s w → Fine s (after w es)
unfolding after
after_fine s differ w [] f = f
after_fine s differ w (e ∷ es) f = after_fine s differ (happens w e) es (happens_fine s differ w e f)

pub fine_agree : (s : RingSettings) (w : Network) → Fine s w → RingsAgree s w.told
fine_agree s w f =
    record {
      same = λ a b g h e. f.books.one (record { id = a.id; members = a.members }) (record { id = b.id; members = b.members }) (f.told a g).own (f.told b h).own e;
      mine = λ a h. (f.told a h).mine;
      led = λ a h. f.books.led (record { id = a.id; members = a.members }) (f.told a h).own;
      beside = λ a h. (f.told a h).beside;
    }

pub rings_agree : (net : ℕ) (s : RingSettings) → AddressesDiffer s → (es : List Happening) → RingsAgree s (after (quiet net s) es).told
rings_agree net s differ es = fine_agree s (after (quiet net s) es) (after_fine s differ (quiet net s) es (quiet_fine s net))
