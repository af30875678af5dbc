-- The highest of some nodes, and a node's neighbour.
use Rattle.std.proofs.Common.{◌≡◌, ◌≢◌, ℕ, ◌<◌, ◌≤◌, ◌⊎◌, Bool, true, false, List, [], ◌∷◌, Option, Some, None, refl, sym, ap, ◌∙◌, subst, inl, inr, ⊎_elim, arith}
use Rattle.std.specs.Prelude.{◌==◌, ◌&&◌, not, slice_index, ◌-◌, filter}
use Rattle.std.specs.List.{fold}
use Rattle.std.proofs.lemmas.Bool.{ltb-true, ltb-false, lt-ltb, cases_lt, and_parts, and_from, or_cases, or_left, or_right, eq-eqb, eqb-true, ne_eqb, not_from_false}
use Rattle.rsct_packet.specs.declared.mask.Mask.{Mask}
use Rattle.rsct_packet.specs.Mask.{is_node, no_nodes, has_node, with_node, without_node, union_of, nodes_of}
use Rattle.rsct_packet.specs.Search.{Has}
use Rattle.rsct_packet.proofs.HasLaws.{has_filter, filter_has}
use Rattle.rsct_packet.proofs.MaskLaws.{has_listed, listed_has, has_no_nodes, has_with, has_without, has_union}
use Rattle.adapter_ring.specs.declared.ring.RingSettings.{RingSettings}
use Rattle.adapter_ring.specs.Addresses.{addr_of, is_higher, higher_of, highest, highest_of, next_lower, some_of, neighbour_in, node_or_none, crown_prince_in}
use Rattle.adapter_ring.specs.Agreement.{AddressesDiffer, HasGreatest, IsNeighbour}

-- only a node has an address
pub node_of_addr : (s : RingSettings) (n : ℕ) → 0 < addr_of s n → is_node n ≡ true
unfolding addr_of
node_of_addr s n up = by (is_node n) refl up
  where
    by : (b : Bool) → is_node n ≡ b → 0 < elim b [ true ↦ slice_index s.addr (n - 1) | false ↦ 0 ] → is_node n ≡ true
    by true e h = e
    by false e h = absurd (omega arith)

pub higher_lt : (s : RingSettings) (a b : ℕ) → is_higher s a b ≡ true → addr_of s b < addr_of s a
unfolding is_higher
higher_lt s a b h = ltb-true (addr_of s b) (addr_of s a) h

pub lt_higher : (s : RingSettings) (a b : ℕ) → addr_of s b < addr_of s a → is_higher s a b ≡ true
unfolding is_higher
lt_higher s a b h = lt-ltb (addr_of s b) (addr_of s a) h

not_higher : (s : RingSettings) (a b : ℕ) → is_higher s a b ≡ false → addr_of s a ≤ addr_of s b
unfolding is_higher
not_higher s a b h = ltb-false (addr_of s b) (addr_of s a) h

-- what a search from b on finds
record Best (s : RingSettings) (b : ℕ) (ns : List ℕ) : Type 0 where
  x : ℕ
  found : fold (higher_of s) (Some b) ns ≡ Some x
  from : (x ≡ b) ⊎ Has x ns
  above : addr_of s b ≤ addr_of s x
  all : (k : ℕ) → Has k ns → addr_of s k ≤ addr_of s x

picked : (s : RingSettings) (n b : ℕ) (c : Bool) → is_higher s n b ≡ c → higher_of s (Some b) n ≡ Some (elim c [ true ↦ n | false ↦ b ])
unfolding higher_of
picked s n b true e = ap (λ c. elim c as (λ d. Option ℕ) [ true ↦ Some n | false ↦ Some b ]) e
picked s n b false e = ap (λ c. elim c as (λ d. Option ℕ) [ true ↦ Some n | false ↦ Some b ]) e

best : (s : RingSettings) (ns : List ℕ) (b : ℕ) → Best s b ns
best s [] b = record { x = b; found = refl; from = inl refl; above = omega arith; all = λ k h. absurd h }
best s (n ∷ ns) b = by (is_higher s n b) refl (best s ns n) (best s ns b)
  where
    by : (c : Bool) → is_higher s n b ≡ c → Best s n ns → Best s b ns → Best s b (n ∷ ns)
    by true e r q =
        let lt = higher_lt s n b e in
        let up = r.above in
        record {
          x = r.x;
          found = ap (λ o. fold (higher_of s) o ns) (picked s n b true e) ∙ r.found;
          from = inr r.from;
          above = omega arith;
          all = λ k g. ⊎_elim (λ (f : k ≡ n). subst (λ j. addr_of s j ≤ addr_of s r.x) (sym f) r.above) (λ (t : Has k ns). r.all k t) g;
        }
    by false e r q =
        let le = not_higher s n b e in
        let up = q.above in
        record {
          x = q.x;
          found = ap (λ o. fold (higher_of s) o ns) (picked s n b false e) ∙ q.found;
          from = ⊎_elim (λ (f : q.x ≡ b). inl f) (λ (t : Has q.x ns). inr (inr t)) q.from;
          above = q.above;
          all = λ k g.
              ⊎_elim
              (λ (f : k ≡ n). subst (λ j. addr_of s j ≤ addr_of s q.x) (sym f) (omega arith))
              (λ (t : Has k ns). q.all k t)
              g;
        }

pub record Top (s : RingSettings) (ns : List ℕ) : Type 0 where
  pub x : ℕ
  pub found : highest s ns ≡ Some x
  pub from : Has x ns
  pub all : (k : ℕ) → Has k ns → addr_of s k ≤ addr_of s x

-- where there is a node there is a highest
pub top : (s : RingSettings) (ns : List ℕ) (n : ℕ) → Has n ns → Top s ns
unfolding highest higher_of
top s [] n h = absurd h
top s (m ∷ ns) n h =
    let b = best s ns m in
    record {
      x = b.x;
      found = b.found;
      from = ⊎_elim (λ (e : b.x ≡ m). inl e) (λ (g : Has b.x ns). inr g) b.from;
      all = λ k g. ⊎_elim (λ (e : k ≡ m). subst (λ j. addr_of s j ≤ addr_of s b.x) (sym e) b.above) (λ (t : Has k ns). b.all k t) g;
    }

-- what is found is the highest
pub top_found : (s : RingSettings) (ns : List ℕ) (x : ℕ) → highest s ns ≡ Some x → Has x ns × ((k : ℕ) → Has k ns → addr_of s k ≤ addr_of s x)
unfolding highest higher_of
top_found s [] x e = absurd (cc)
top_found s (m ∷ ns) x e =
    let t = top s (m ∷ ns) m (inl refl) in
    let same : t.x ≡ x = (let f = t.found in cc) in
    subst (λ y. Has y (m ∷ ns) × ((k : ℕ) → Has k (m ∷ ns) → addr_of s k ≤ addr_of s y)) same (t.from, t.all)

-- where a set has a node, the one that is found is its highest
pub highest_found : (s : RingSettings) (ms : Mask) (x : ℕ) → highest_of s ms ≡ Some x → HasGreatest s x ms
unfolding highest_of
highest_found s ms x e =
    let t = top_found s (nodes_of ms) x e in
    record { among = listed_has ms x t.0; greatest = λ k h. t.1 k (has_listed ms k h) }

pub highest_there : (s : RingSettings) (ms : Mask) (n : ℕ) → has_node ms n ≡ true → (x : ℕ) × (highest_of s ms ≡ Some x)
unfolding highest_of
highest_there s ms n h = let t = top s (nodes_of ms) n (has_listed ms n h) in (t.x, t.found)

-- no member is lower, and the highest is x
round_the_end : (s : RingSettings) (n : ℕ) (ms : Mask) (x : ℕ) → highest_of s ms ≡ Some x → next_lower s n ms ≡ None → IsNeighbour s n ms x
unfolding next_lower
round_the_end s n ms x e none =
    let t = highest_found s ms x e in
    record {
      among = t.among;
      place = inr (record {
        lowest = λ k g.
            ⊎_elim
            (λ (lt : addr_of s k < addr_of s n).
            absurd (let p = top s (filter (is_higher s n) (nodes_of ms)) k (filter_has (is_higher s n) k (nodes_of ms) (has_listed ms k g) (lt_higher s n k lt)) in let f = p.found in cc))
            (λ (ge : addr_of s n ≤ addr_of s k). ge)
            (cases_lt (addr_of s k) (addr_of s n));
        highest = t.greatest;
      });
    }

one_lower : (s : RingSettings) (n : ℕ) (ms : Mask) (x : ℕ) → next_lower s n ms ≡ Some x → IsNeighbour s n ms x
unfolding next_lower
one_lower s n ms x e =
    let t = top_found s (filter (is_higher s n) (nodes_of ms)) x e in
    let f = has_filter (is_higher s n) x (nodes_of ms) t.0 in
    record {
      among = listed_has ms x f.0;
      place = inl (record {
        lower = higher_lt s n x f.1;
        next = λ k g lt. t.1 k (filter_has (is_higher s n) k (nodes_of ms) (has_listed ms k g) (lt_higher s n k lt));
      });
    }

pub neighbour_is : (s : RingSettings) (n : ℕ) (ms : Mask) → has_node ms n ≡ true → IsNeighbour s n ms (neighbour_in s n ms)
unfolding neighbour_in some_of
neighbour_is s n ms h = by (next_lower s n ms) refl
  where
    by : (o : Option ℕ) → next_lower s n ms ≡ o → IsNeighbour s n ms (some_of o (highest_of s ms) n)
    by (Some x) e = one_lower s n ms x e
    by None e = let t = highest_there s ms n h in subst (λ o. IsNeighbour s n ms (some_of None o n)) (sym t.1) (round_the_end s n ms t.0 t.1 e)

-- alone, a node is the highest
pub greatest_alone : (s : RingSettings) (n : ℕ) → 0 < addr_of s n → HasGreatest s n (with_node no_nodes n)
greatest_alone s n up =
    let i = node_of_addr s n up in
    record {
      among = has_with no_nodes n n ∙ or_right (has_node no_nodes n) (is_node n && n == n) (and_from (is_node n) (n == n) i (eq-eqb n n refl));
      greatest = λ k h.
          let o = or_cases (has_node no_nodes k) (is_node n && k == n) (sym (has_with no_nodes n k) ∙ h) in
          ⊎_elim
          (λ (f : has_node no_nodes k ≡ true). absurd (let z = has_no_nodes k in cc))
          (λ (f : (is_node n && k == n) ≡ true). subst (λ j. addr_of s j ≤ addr_of s n) (sym (eqb-true k n (and_parts (is_node n) (k == n) f).1)) (omega arith))
          o;
    }

-- without another it still is
pub greatest_without : (s : RingSettings) (n : ℕ) (ms : Mask) (d : ℕ) → n ≢ d → HasGreatest s n ms → HasGreatest s n (without_node ms d)
greatest_without s n ms d ne g =
    record {
      among = has_without ms d n ∙ and_from (has_node ms n) (not (n == d)) g.among (not_from_false (n == d) (ne_eqb n d ne));
      greatest = λ k h. g.greatest k (and_parts (has_node ms k) (not (k == d)) (sym (has_without ms d k) ∙ h)).0;
    }

-- and with others that are lower
pub greatest_union : (s : RingSettings) (n : ℕ) (a b : Mask) → HasGreatest s n a → ((k : ℕ) → has_node b k ≡ true → addr_of s k ≤ addr_of s n) → HasGreatest s n (union_of a b)
greatest_union s n a b g low =
    record {
      among = has_union a b n ∙ or_left (has_node a n) (has_node b n) g.among;
      greatest = λ k h.
          ⊎_elim
          (λ (f : has_node a k ≡ true). g.greatest k f)
          (λ (f : has_node b k ≡ true). low k f)
          (or_cases (has_node a k) (has_node b k) (sym (has_union a b k) ∙ h));
    }

pub greatest_with : (s : RingSettings) (n : ℕ) (ms : Mask) (k : ℕ) → HasGreatest s n ms → addr_of s k ≤ addr_of s n → HasGreatest s n (with_node ms k)
greatest_with s n ms k g le =
    record {
      among = has_with ms k n ∙ or_left (has_node ms n) (is_node k && n == k) g.among;
      greatest = λ j h.
          ⊎_elim
          (λ (f : has_node ms j ≡ true). g.greatest j f)
          (λ (f : (is_node k && j == k) ≡ true). subst (λ i. addr_of s i ≤ addr_of s n) (sym (eqb-true j k (and_parts (is_node k) (j == k) f).1)) le)
          (or_cases (has_node ms j) (is_node k && j == k) (sym (has_with ms k j) ∙ h));
    }

-- without the leader the Crown Prince is the highest
pub prince_greatest : (s : RingSettings) (differ : AddressesDiffer s) (l n : ℕ) (ms : Mask) → HasGreatest s l ms → 0 < addr_of s l → has_node ms n ≡ true → n ≢ l → crown_prince_in s ms ≡ n → HasGreatest s n (without_node ms l)
unfolding crown_prince_in node_or_none
prince_greatest s differ l n ms g up mine ne prince =
    let t = highest_there s ms l g.among in
    let f = highest_found s ms t.0 t.1 in
    let low = g.greatest t.0 f.among in
    let high = f.greatest l g.among in
    let same : l ≡ t.0 = differ l t.0 up (omega arith) in
    let rest : has_node (without_node ms l) n ≡ true = has_without ms l n ∙ and_from (has_node ms n) (not (n == l)) mine (not_from_false (n == l) (ne_eqb n l ne)) in
    let u = highest_there s (without_node ms l) n rest in
    let first : node_or_none (highest_of s ms) ≡ l = ap node_or_none t.1 ∙ sym same in
    let second : node_or_none (highest_of s (without_node ms l)) ≡ u.0 = ap node_or_none u.1 in
    let all : node_or_none (highest_of s (without_node ms l)) ≡ n = subst (λ k. node_or_none (highest_of s (without_node ms k)) ≡ n) first prince in
    subst (λ k. HasGreatest s k (without_node ms l)) (sym second ∙ all) (highest_found s (without_node ms l) u.0 u.1)
