-- Where each packet has a network, each leaves its node by itself, and the run is one of the direct world.
use Rattle.std.proofs.Common.{◌≡◌, ◌≢◌, ◌==◌, ◌&&◌, ◌-◌, ℕ, zero, suc, Bool, true, false, cond, List, [], ◌∷◌, ◌++◌, length, Option, Some, None, refl, sym, ap, ◌∙◌, subst, inl, inr}
use Rattle.std.specs.Prelude.{find, fold, map, take, nat_lt, nat_le, slice_get}
use Rattle.std.specs.Option.{option_map}
use Rattle.std.proofs.lemmas.Bool.{ne_eqb}
use Rattle.std.proofs.lemmas.List.Sums.{fold-append}
use Rattle.rsct_packet.specs.Lists.{reverse_onto}
use Rattle.rsct_packet.specs.Search.{Has}
use Rattle.node_state.specs.declared.config.Config.{Config}
use Rattle.node_state.specs.declared.config.Mode.{Mode}
use Rattle.node_state.specs.declared.config.Mode.TheVariants.{Fixed, Asked, Rings}
use Rattle.node_state.specs.declared.packet.Packet.{Packet}
use Rattle.node_state.specs.declared.state.Core.{Core}
use Rattle.node_state.specs.HandOn.{Answering}
use Rattle.node_state.specs.Step.{Given}
use Rattle.rsct_packet.specs.Mask.{nodes_of}
use Rattle.route_state.specs.Relaying.{may_relay}
use Rattle.world_model.specs.declared.event.Event.{Event}
use Rattle.world_model.specs.declared.event.Event.TheVariants as event
use Rattle.world_model.specs.World.{Node, World, node_at, posted, kth_between, empty_world, world_of, world_new}
use Rattle.world_model.specs.World as direct
use Rattle.world_model.specs.Kept.{sent_since}
use Rattle.world_laws.specs.world_runs.Runs.{SameRun}
use Rattle.world_laws.proofs.world_runs.Backwards.{reversed, added_since}
use Rattle.world_laws.specs.world_answers.Answers.{Answered, step_by, delivers_by_if, happens_by, goes_on, answered_after}
use Rattle.world_laws.proofs.world_answers.Waits.{same_goes}
use Rattle.relay_model.specs.Leaving.{Bare, Leaving, alone, around_if, leaves_as}
use Rattle.relay_model.specs.Relays.{Relayed, is_pair, pair_with, pairs_with, leaves, datagram_in, datagram_between, handled, core_in, leaves_if, sends, settled, given_to, comes_to, arrives_if, relays_by, relays_on, relayed_new, relayed_after}
use Rattle.relay_laws.specs.Bare.{bare_pair, AllBare, HaveNetworks, RunsWithoutRelays}
use Rattle.relay_laws.proofs.Holding.{step_holds, happens_holds, all_start, happens_keeps}
use Rattle.relay_laws.proofs.Delivering.{same_node, same_kth, step_delivers}
use Rattle.relay_runs.proofs.Grown.{settled_world}

-- ---- what an event of the direct world sent

abbrev pairs_on : List direct.Pair → Packet → List direct.Pair
pairs_on xs p = direct.pairs_with p xs

-- these packets more, in order
record Grown (w v : World) : Type 0 where
  packets : List Packet
  sent : v.sent ≡ reverse_onto packets w.sent
  pairs : v.pairs ≡ fold pairs_on w.pairs packets

none_grown : (w : World) → Grown w w
none_grown w = record { packets = []; sent = refl; pairs = refl }

same_grown : (w u v : World) → v.pairs ≡ u.pairs → v.sent ≡ u.sent → Grown w u → Grown w v
same_grown w u v pairs sent g = record { packets = g.packets; sent = sent ∙ g.sent; pairs = pairs ∙ g.pairs }

one_grown : (w u : World) (p : Packet) → Grown w u → Grown w (posted u p)
unfolding posted
one_grown w u p g =
    record {
      packets = g.packets ++ p ∷ [];
      sent = ap (λ ps. p ∷ ps) g.sent ∙ reversed g.packets (p ∷ []) w.sent;
      pairs = ap (direct.pairs_with p) g.pairs ∙ sym (fold-append pairs_on w.pairs g.packets (p ∷ []));
    }

step_grown : (f : Answering) (w : World) (x : Node) (p : Packet) → Grown w (step_by f w (Given p) x)
step_grown f w x p = step_holds (Grown w) (same_grown w) (one_grown w) f w (Given p) x (none_grown w)

happens_grown : (f : Answering) (w : World) (e : Event) → Grown w (happens_by f w e)
happens_grown f w e = happens_holds (Grown w) (same_grown w) (one_grown w) f w e (none_grown w)

turned_has : {A : Type 0} (x : A) (xs ys : List A) → Has x ys → Has x (reverse_onto xs ys)
turned_has x [] ys h = h
turned_has x (y ∷ xs) ys h = turned_has x xs (y ∷ ys) (inr h)

has_first : {A : Type 0} (x : A) (xs ys : List A) → Has x xs → Has x (reverse_onto xs ys)
has_first x [] ys h = absurd h
has_first x (y ∷ xs) ys (inl e) = turned_has x xs (y ∷ ys) (inl e)
has_first x (y ∷ xs) ys (inr h) = has_first x xs (y ∷ ys) h

-- ---- as it leaves its node

pairs_alike : (p : Packet) (xs : List direct.Pair) → pairs_with p.from p.to (Bare p) (map bare_pair xs) ≡ map bare_pair (direct.pairs_with p xs)
unfolding pairs_with pair_with is_pair direct.pairs_with direct.pair_with direct.is_pair
pairs_alike p [] = refl
pairs_alike p (x ∷ xs) = by (x.from == p.from && x.to == p.to) (pairs_alike p xs)
  where
    by : (b : Bool) → pairs_with p.from p.to (Bare p) (map bare_pair xs) ≡ map bare_pair (direct.pairs_with p xs)
        → elim b [ true ↦ pair_with (Bare p) (bare_pair x) ∷ map bare_pair xs | false ↦ bare_pair x ∷ pairs_with p.from p.to (Bare p) (map bare_pair xs) ]
        ≡ map bare_pair (elim b [ true ↦ direct.pair_with p x ∷ xs | false ↦ x ∷ direct.pairs_with p xs ])
    by true rest = refl
    by false rest = ap (λ ys. bare_pair x ∷ ys) rest

leaves_alone : (o : Option Core) (p : Packet) → p.network ≢ 0 → leaves_as o p ≡ Some (alone p)
unfolding leaves_as
leaves_alone o p some = ap (λ b. elim b as (λ t. Option Leaving) [ true ↦ around_if (may_relay p.body) o p | false ↦ Some (alone p) ]) (ne_eqb p.network 0 some)

-- these datagrams are these packets, by themselves
record Holds (r : Relayed) (xs : List direct.Pair) (ps : List Packet) : Type 0 where
  pairs : r.pairs ≡ map bare_pair xs
  left : r.left ≡ map Bare ps

one_holds : (v : World) (r : Relayed) (xs : List direct.Pair) (ps : List Packet) (p : Packet) → p.network ≢ 0 → Holds r xs ps → Holds (sends v r p) (direct.pairs_with p xs) (p ∷ ps)
unfolding sends leaves
one_holds v r xs ps p some h =
    subst (λ o. Holds (leaves_if r o) (direct.pairs_with p xs) (p ∷ ps)) (sym (leaves_alone (core_in v p.from) p some))
    (record { pairs = ap (pairs_with p.from p.to (Bare p)) h.pairs ∙ pairs_alike p xs; left = ap (λ ds. Bare p ∷ ds) h.left })

all_hold : (v : World) (qs : List Packet) (r : Relayed) (xs : List direct.Pair) (ps : List Packet) → ((p : Packet) → Has p qs → p.network ≢ 0) → Holds r xs ps → Holds (fold (sends v) r qs) (fold pairs_on xs qs) (reverse_onto qs ps)
all_hold v [] r xs ps some h = h
all_hold v (q ∷ qs) r xs ps some h = all_hold v qs (sends v r q) (direct.pairs_with q xs) (q ∷ ps) (λ p i. some p (inr i)) (one_holds v r xs ps q (some q (inl refl)) h)

settled_bare : (r : Relayed) (v : World) → Grown r.world v → HaveNetworks v → AllBare r → AllBare (settled r v)
unfolding settled sent_since
settled_bare r v g some all =
    let since : reverse_onto (take (length v.sent - length r.world.sent) v.sent) [] ≡ g.packets =
    ap (λ ps. reverse_onto (take (length ps - length r.world.sent) ps) []) g.sent ∙ added_since g.packets r.world.sent in
    let h = all_hold v g.packets (record r { world = v }) r.world.pairs r.world.sent (λ p i. some p (subst (Has p) (sym g.sent) (has_first p g.packets r.world.sent i))) (record { pairs = all.pairs; left = all.left }) in
    let is : fold (sends v) (record r { world = v }) g.packets ≡ settled r v = ap (fold (sends v) (record r { world = v })) (sym since) in
    let world : (settled r v).world ≡ v = settled_world r v in
    record {
      pairs = ap (λ (z : Relayed). z.pairs) (sym is) ∙ h.pairs ∙ ap (map bare_pair) (sym g.pairs ∙ ap (λ (z : World). z.pairs) (sym world));
      left = ap (λ (z : Relayed). z.left) (sym is) ∙ h.left ∙ ap (map Bare) (sym g.sent ∙ ap (λ (z : World). z.sent) (sym world));
    }

-- ---- a delivery

get_alike : (ps : List Packet) (i : ℕ) → slice_get (map Bare ps) i ≡ option_map Bare (slice_get ps i)
get_alike [] i = refl
get_alike (p ∷ ps) zero = refl
get_alike (p ∷ ps) (suc i) = get_alike ps i

kth_alike : (k : ℕ) (o : Option direct.Pair) → datagram_in k (option_map bare_pair o) ≡ option_map Bare (direct.kth_in k o)
unfolding datagram_in direct.kth_in
kth_alike k None = refl
kth_alike k (Some x) = by (nat_lt 0 k && nat_le k x.count)
  where
    by : (b : Bool) → elim b [ true ↦ slice_get (map Bare x.packets) (x.count - k) | false ↦ None ] ≡ option_map Bare (elim b [ true ↦ slice_get x.packets (x.count - k) | false ↦ None ])
    by true = get_alike x.packets (x.count - k)
    by false = refl

find_alike : (a b : ℕ) (xs : List direct.Pair) → find (is_pair a b) (map bare_pair xs) ≡ option_map bare_pair (find (direct.is_pair a b) xs)
unfolding is_pair direct.is_pair
find_alike a b [] = refl
find_alike a b (x ∷ xs) = by (x.from == a && x.to == b) (find_alike a b xs)
  where
    by : (c : Bool) → find (is_pair a b) (map bare_pair xs) ≡ option_map bare_pair (find (direct.is_pair a b) xs)
        → cond c (Some (bare_pair x)) (find (is_pair a b) (map bare_pair xs)) ≡ option_map bare_pair (cond c (Some x) (find (direct.is_pair a b) xs))
    by true rest = refl
    by false rest = rest

datagram_is : (r : Relayed) (a b k : ℕ) → AllBare r → datagram_between r a b k ≡ option_map Bare (kth_between r.world a b k)
unfolding datagram_between kth_between
datagram_is r a b k all =
    ap (λ ps. datagram_in k (find (is_pair a b) ps)) all.pairs ∙ (ap (datagram_in k) (find_alike a b r.world.pairs) ∙ kth_alike k (find (direct.is_pair a b) r.world.pairs))

-- ---- an event

same_back : (w v : World) → SameRun w v → SameRun v w
same_back w v h = sym (ap (λ (z : World). record z { queue = w.queue }) h)

down_is : (f : Answering) (w : World) (a b k : ℕ) → node_at w b ≡ None → happens_by f w (event.Deliver a b k) ≡ w
unfolding happens_by delivers_by_if
down_is f w a b k up = rw up refl

unsent_is : (f : Answering) (w : World) (a b k : ℕ) (x : Node) → node_at w b ≡ Some x → kth_between w a b k ≡ None → happens_by f w (event.Deliver a b k) ≡ w
unfolding happens_by delivers_by_if
unsent_is f w a b k x up kth = rw (up, kth) refl

-- the layer came to this from the world that a run of the direct world came to
record Follows (v : World) (r : Relayed) : Type 0 where
  same : SameRun v r.world
  bare : AllBare r

sent_alike : (w v : World) → SameRun w v → HaveNetworks w → HaveNetworks v
sent_alike w v h some p i = some p (subst (Has p) (ap (λ (z : World). z.sent) h) i)

settled_follows : (r : Relayed) (w v : World) → Grown r.world v → HaveNetworks w → SameRun w v → AllBare r → Follows w (settled r v)
settled_follows r w v g some same all =
    record { same = subst (SameRun w) (sym (settled_world r v)) same; bare = settled_bare r v g (sent_alike w v same some) all }

module _ (f : Answering) (w : World) (r : Relayed) (h : Follows w r) where
  happens_follows : (e : Event) → HaveNetworks (happens_by f w e) → Follows (happens_by f w e) (settled r (happens_by f r.world e))
  happens_follows e some = settled_follows r (happens_by f w e) (happens_by f r.world e) (happens_grown f r.world e) some (same_goes w r.world (record { event = e; answers = f }) h.same) h.bare

  given_follows : (a b k : ℕ) (x : Node) (q : Packet) → node_at r.world b ≡ Some x → kth_between r.world a b k ≡ Some q → HaveNetworks (happens_by f w (event.Deliver a b k)) → Follows (happens_by f w (event.Deliver a b k)) (given_to f (handled r a b k) x q)
  unfolding given_to handled
  given_follows a b k x q up kth some =
      let v : World = step_by f r.world (Given q) x in
      let done : World = happens_by f w (event.Deliver a b k) in
      settled_follows (handled r a b k) done v (step_grown f r.world x q) some (same_back v done (step_delivers f r.world w a b k x q (same_back w r.world h.same) up kth)) (record { pairs = h.bare.pairs; left = h.bare.left })

  arrive_follows : (a b k : ℕ) → HaveNetworks (happens_by f w (event.Deliver a b k)) → (o : Option Node) → node_at r.world b ≡ o → (d : Option Packet) → kth_between r.world a b k ≡ d → Follows (happens_by f w (event.Deliver a b k)) (arrives_if f r a b k o (option_map Bare d))
  unfolding arrives_if comes_to
  arrive_follows a b k some None up d kth = subst (λ v. Follows v r) (sym (down_is f w a b k (sym (same_node w r.world b h.same) ∙ up))) h
  arrive_follows a b k some (Some x) up None kth = subst (λ v. Follows v r) (sym (unsent_is f w a b k x (sym (same_node w r.world b h.same) ∙ up) (sym (same_kth w r.world a b k h.same) ∙ kth))) h
  arrive_follows a b k some (Some x) up (Some q) kth = given_follows a b k x q up kth some

event_follows : (f : Answering) (w : World) (r : Relayed) → Follows w r → (e : Event) → HaveNetworks (happens_by f w e) → Follows (happens_by f w e) (relays_by f r e)
unfolding relays_by
event_follows f w r h (event.Start n) some = happens_follows f w r h (event.Start n) some
event_follows f w r h (event.Stop n) some = happens_follows f w r h (event.Stop n) some
event_follows f w r h (event.Tick n) some = happens_follows f w r h (event.Tick n) some
event_follows f w r h (event.Ask n mask) some = happens_follows f w r h (event.Ask n mask) some
event_follows f w r h (event.Call n x) some = happens_follows f w r h (event.Call n x) some
event_follows f w r h (event.Show n what) some = happens_follows f w r h (event.Show n what) some
event_follows f w r h (event.Garbage n bytes) some = happens_follows f w r h (event.Garbage n bytes) some
event_follows f w r h (event.Deliver a b k) some =
    subst (λ d. Follows (happens_by f w (event.Deliver a b k)) (arrives_if f r a b k (node_at r.world b) d)) (sym (datagram_is r a b k h.bare)) (arrive_follows f w r h a b k some (node_at r.world b) refl (kth_between r.world a b k) refl)

-- ---- all events

early : (es : List Answered) (w : World) → HaveNetworks (fold goes_on w es) → HaveNetworks w
early es w some p i = some p (stays es w p i)
  where
    stays : (es : List Answered) (w : World) (p : Packet) → Has p w.sent → Has p (fold goes_on w es).sent
    stays [] w p i = i
    stays (e ∷ es) w p i = stays es (goes_on w e) p (happens_keeps e.answers w e.event p i)

all_follow : (es : List Answered) (w : World) (r : Relayed) → Follows w r → HaveNetworks (fold goes_on w es) → Follows (fold goes_on w es) (fold relays_on r es)
all_follow [] w r h some = h
all_follow (e ∷ es) w r h some = all_follow es (goes_on w e) (relays_on r e) (event_follows e.answers w r h e.event (early es (goes_on w e) some)) some

abbrev NothingSent : World → Type 0
NothingSent w = (w.pairs ≡ []) × (w.sent ≡ [])

none_sent : (c : Config) (m : Mode) → NothingSent (world_of c m)
unfolding world_of
none_sent c Fixed = all_start NothingSent (λ w v pairs sent h. (pairs ∙ h.0, sent ∙ h.1)) (nodes_of c.nodes) (empty_world c) (refl, refl)
none_sent c Asked = (refl, refl)
none_sent c Rings = (refl, refl)

pub runs_without_relays : RunsWithoutRelays
unfolding answered_after relayed_after relayed_new world_new
runs_without_relays c es some =
    let none = none_sent c c.mode in
    let begun : Follows (world_new c) (relayed_new c) = record { same = refl; bare = record { pairs = sym (ap (map bare_pair) none.0); left = sym (ap (map Bare) none.1) } } in
    let h = all_follow es (world_new c) (relayed_new c) begun some in
    (h.same, h.bare)
