-- The next hop: the search goes outward from the target, and each time it has just the nodes that are so few steps from it.
use Rattle.std.proofs.Common.{◌≡◌, ℕ, zero, suc, ◌+◌, ◌-◌, ◌<◌, ◌≤◌, ◌⊎◌, Bool, true, false, List, [], ◌∷◌, length, Option, Some, None, refl, sym, ap, ◌∙◌, inl, inr, ⊎_elim, arith}
use Rattle.std.specs.Prelude.{◌==◌, ◌&&◌, ◌↔◌, not, filter, find, is_none, nat_lt, IsTrue, IfSome, if◌then◌else◌}
use Rattle.std.specs.List.{list_any}
use Rattle.std.proofs.lemmas.Bool.{and_parts, and_from, or_cases, or_left, or_right, cases_Bool, cases_lt, not-true, not_from_true, not_from_false, eqb-true, eqb-false, eq-eqb, ltb-true}
use Rattle.rsct_packet.specs.declared.mask.Mask.{Mask}
use Rattle.rsct_packet.specs.Mask.{is_node, node_numbers, no_nodes, has_node, with_node, union_of}
use Rattle.rsct_packet.specs.Listed.{ascending_from}
use Rattle.rsct_packet.specs.Search.{Has}
use Rattle.rsct_packet.proofs.HasLaws.{has_filter, filter_has, find_has, find_none}
use Rattle.rsct_packet.proofs.MaskLaws.{node_numbered, has_is_node, has_no_nodes, has_with, has_union}
use Rattle.node_reach.specs.declared.reach.Reach.{Reach}
use Rattle.node_reach.specs.Reach.{names}
use Rattle.node_reach.specs.Walks.{IsWalk, Reached}
use Rattle.node_reach.specs.Hops.{is_linked, touches, is_further, further, is_hop, hop_in, hop_from, next_hop, IsNextHop}
use Rattle.node_reach.proofs.WalkLaws.{has_folded, folded_has, named_is_node, passing, passing_le, count_less}

-- ---- lists

any_has : (test : ℕ → Bool) (xs : List ℕ) → list_any test xs ≡ true → (x : ℕ) × Has x xs × (test x ≡ true)
any_has test [] e = absurd (cc)
any_has test (y ∷ ys) e =
    ⊎_elim
    (λ (f : test y ≡ true). (y, inl refl, f))
    (λ (f : list_any test ys ≡ true). let r = any_has test ys f in (r.0, inr r.1, r.2))
    (or_cases (test y) (list_any test ys) e)

has_any : (test : ℕ → Bool) (xs : List ℕ) (x : ℕ) → Has x xs → test x ≡ true → list_any test xs ≡ true
has_any test [] x h e = absurd h
has_any test (y ∷ ys) x (inl s) e = or_left (test y) (list_any test ys) (ap test (sym s) ∙ e)
has_any test (y ∷ ys) x (inr t) e = or_right (test y) (list_any test ys) (has_any test ys x t e)

above : (last : ℕ) (xs : List ℕ) (m : ℕ) → IsTrue (ascending_from last xs) → Has m xs → last < m
above last [] m h i = absurd i
above last (x ∷ xs) m h (inl e) =
    let lt : last < x = ltb-true last x (and_parts (nat_lt last x) (ascending_from x xs) h).0 in omega arith
above last (x ∷ xs) m h (inr i) =
    let p = and_parts (nat_lt last x) (ascending_from x xs) h in
    let lt : last < x = ltb-true last x p.0 in
    let more : x < m = above x xs m p.1 i in
    omega arith

-- of an ascending list a search finds the least
find_least : (test : ℕ → Bool) (last : ℕ) (xs : List ℕ) (n m : ℕ) → IsTrue (ascending_from last xs) → find test xs ≡ Some n → Has m xs → test m ≡ true → n ≤ m
find_least test last [] n m h e i f = absurd i
find_least test last (x ∷ xs) n m h e i f =
    let rest : IsTrue (ascending_from x xs) = (and_parts (nat_lt last x) (ascending_from x xs) h).1 in
    by (test x) refl e i (above x xs m rest) (λ e t. find_least test x xs n m rest e t f)
  where
    by : (b : Bool) → test x ≡ b → (if b then Some x else find test xs) ≡ Some n → Has m (x ∷ xs) → (Has m xs → x < m) → (find test xs ≡ Some n → Has m xs → n ≤ m) → n ≤ m
    by true g e (inl s) up more = let is : x ≡ n = cc in omega arith
    by true g e (inr t) up more = let is : x ≡ n = cc in let lt : x < m = up t in omega arith
    by false g e (inl s) up more = absurd (let u : test m ≡ false = ap test s ∙ g in cc)
    by false g e (inr t) up more = more e t

-- ---- steps

pub linked_parts : (r : Reach) (a b : ℕ) → is_linked r a b ≡ true → (names r a b ≡ true) × (names r b a ≡ true)
unfolding is_linked
linked_parts r a b h = and_parts (names r a b) (names r b a) h

linked_from : (r : Reach) (a b : ℕ) → names r a b ≡ true → names r b a ≡ true → is_linked r a b ≡ true
unfolding is_linked
linked_from r a b f g = and_from (names r a b) (names r b a) f g

pub hop_parts : (r : Reach) (near : Mask) (n : ℕ) → is_hop r near n ≡ true → (has_node near n ≡ true) × (is_linked r r.me n ≡ true)
unfolding is_hop
hop_parts r near n h = and_parts (has_node near n) (is_linked r r.me n) h

hop_of : (r : Reach) (near : Mask) (n : ℕ) → has_node near n ≡ true → is_linked r r.me n ≡ true → is_hop r near n ≡ true
unfolding is_hop
hop_of r near n f g = and_from (has_node near n) (is_linked r r.me n) f g

-- what is a step further was not there, and is linked with what was
pub record IsFurther (r : Reach) (near : Mask) (b : ℕ) : Type 0 where
  pub new : has_node near b ≡ false
  pub beside : ℕ
  pub there : has_node near beside ≡ true
  pub link : is_linked r b beside ≡ true

further_is : (r : Reach) (near : Mask) (b : ℕ) → has_node (further r near) b ≡ true → IsFurther r near b
unfolding further is_further touches
further_is r near b h =
    ⊎_elim
    (λ (f : has_node no_nodes b ≡ true). absurd (let z = has_no_nodes b in cc))
    (λ (f : Has b (filter (is_further r near) node_numbers)).
    (let two = and_parts (not (has_node near b)) (touches r near b) (has_filter (is_further r near) b node_numbers f).1 in
    let any = any_has (λ a. has_node near a && is_linked r b a) node_numbers two.1 in
    let one = and_parts (has_node near any.0) (is_linked r b any.0) any.2 in
    record { new = not-true (has_node near b) two.0; beside = any.0; there = one.0; link = one.1 }))
    (has_folded (filter (is_further r near) node_numbers) no_nodes b h)

further_has : (r : Reach) (near : Mask) (b a : ℕ) → is_node b ≡ true → has_node near b ≡ false → has_node near a ≡ true → is_linked r b a ≡ true → has_node (further r near) b ≡ true
unfolding further is_further touches
further_has r near b a i new there link =
    folded_has (filter (is_further r near) node_numbers) no_nodes b i
    (filter_has (is_further r near) b node_numbers (node_numbered b i)
    (and_from (not (has_node near b)) (touches r near b) (not_from_false (has_node near b) new)
    (has_any (λ c. has_node near c && is_linked r b c) node_numbers a (node_numbered a (has_is_node near a there)) (and_from (has_node near a) (is_linked r b a) there link))))

-- ---- the search

-- near are just the nodes that are at most j steps from the target, and the own node is further away
pub record Nears (r : Reach) (to j : ℕ) (near : Mask) : Type 0 where
  pub sound : (n : ℕ) → has_node near n ≡ true → (bs : List ℕ) × IsWalk r n bs to × (length bs ≤ j)
  pub whole : (n : ℕ) (bs : List ℕ) → is_node n ≡ true → IsWalk r n bs to → length bs ≤ j → has_node near n ≡ true
  pub far : (bs : List ℕ) → IsWalk r r.me bs to → j < length bs

pub starts_near : (r : Reach) (to : ℕ) → (to ≡ r.me → ⊥) → Nears r to 0 (with_node no_nodes to)
starts_near r to other = record { sound = sound; whole = whole; far = far }
  where
    sound : (n : ℕ) → has_node (with_node no_nodes to) n ≡ true → (bs : List ℕ) × IsWalk r n bs to × (length bs ≤ 0)
    sound n h =
        ⊎_elim
        (λ (f : has_node no_nodes n ≡ true). absurd (let z = has_no_nodes n in cc))
        (λ (f : (is_node to && n == to) ≡ true). ([], eqb-true n to (and_parts (is_node to) (n == to) f).1, omega arith))
        (or_cases (has_node no_nodes n) (is_node to && n == to) (sym (has_with no_nodes to n) ∙ h))

    whole : (n : ℕ) (bs : List ℕ) → is_node n ≡ true → IsWalk r n bs to → length bs ≤ 0 → has_node (with_node no_nodes to) n ≡ true
    whole n [] i w le =
        has_with no_nodes to n ∙ or_right (has_node no_nodes n) (is_node to && n == to) (and_from (is_node to) (n == to) (ap is_node (sym w) ∙ i) (eq-eqb n to w))
    whole n (b ∷ bs) i w le = absurd (omega arith)

    far : (bs : List ℕ) → IsWalk r r.me bs to → 0 < length bs
    far [] w = absurd (other (sym w))
    far (b ∷ bs) w = omega arith

-- who is on a walk of some steps is a node
pub own_node : (r : Reach) (to j : ℕ) (near : Mask) → Nears r to j near → (bs : List ℕ) → IsWalk r r.me bs to → is_node r.me ≡ true
own_node r to j near k [] w = absurd (let lt : j < 0 = k.far [] w in omega arith)
own_node r to j near k (b ∷ bs) w = named_is_node r b r.me w.1

pub own_far : (r : Reach) (to j : ℕ) (near : Mask) → Nears r to j near → has_node near r.me ≡ true → ⊥
own_far r to j near k h =
    let s = k.sound r.me h in
    let lt : j < length s.0 = k.far s.0 s.1 in
    let le : length s.0 ≤ j = s.2 in
    omega arith

no_hop : (r : Reach) (near : Mask) → hop_in r near ≡ None → (n : ℕ) → has_node near n ≡ true → is_linked r r.me n ≡ true → ⊥
unfolding hop_in
no_hop r near none n there link = find_none (is_hop r near) node_numbers n (ap is_none none) (node_numbered n (has_is_node near n there)) (hop_of r near n there link)

-- a step more
pub nears_on : (r : Reach) (to j : ℕ) (near : Mask) → Nears r to j near → hop_in r near ≡ None → Nears r to (suc j) (union_of near (further r near))
nears_on r to j near k none = record { sound = sound; whole = whole; far = far }
  where
    new : Mask
    new = further r near

    sound : (n : ℕ) → has_node (union_of near (further r near)) n ≡ true → (bs : List ℕ) × IsWalk r n bs to × (length bs ≤ suc j)
    sound n h =
        ⊎_elim
        (λ (f : has_node near n ≡ true). (let s = k.sound n f in let le : length s.0 ≤ j = s.2 in (s.0, s.1, omega arith)))
        (λ (f : has_node (further r near) n ≡ true).
        (let x = further_is r near n f in
        let s = k.sound x.beside x.there in
        let le : length s.0 ≤ j = s.2 in
        let p = linked_parts r n x.beside x.link in
        (x.beside ∷ s.0, (p.0, p.1, s.1), omega arith)))
        (or_cases (has_node near n) (has_node (further r near) n) (sym (has_union near (further r near) n) ∙ h))

    whole : (n : ℕ) (bs : List ℕ) → is_node n ≡ true → IsWalk r n bs to → length bs ≤ suc j → has_node (union_of near (further r near)) n ≡ true
    whole n [] i w le = has_union near new n ∙ or_left (has_node near n) (has_node new n) (k.whole n [] i w (omega arith))
    whole n (b ∷ bs) i w le =
        let there : has_node near b ≡ true = k.whole b bs (named_is_node r n b w.0) w.2 (omega arith) in
        has_union near new n ∙
        ⊎_elim
        (λ (f : has_node near n ≡ true). or_left (has_node near n) (has_node new n) f)
        (λ (f : has_node near n ≡ false). or_right (has_node near n) (has_node new n) (further_has r near n b i f there (linked_from r n b w.0 w.1)))
        (cases_Bool (has_node near n))

    far : (bs : List ℕ) → IsWalk r r.me bs to → suc j < length bs
    far [] w = absurd (let lt : j < 0 = k.far [] w in omega arith)
    far (b ∷ bs) w =
        ⊎_elim
        (λ (lt : j < length bs). omega arith)
        (λ (le : length bs ≤ j). absurd (no_hop r near none b (k.whole b bs (named_is_node r r.me b w.0) w.2 le) (linked_from r r.me b w.0 w.1)))
        (cases_lt j (length bs))

-- nothing is a step further: no walk leads to the target from elsewhere
pub nears_all : (r : Reach) (to j : ℕ) (near : Mask) → Nears r to j near → find (has_node (further r near)) node_numbers ≡ None → (bs : List ℕ) (a : ℕ) → is_node a ≡ true → IsWalk r a bs to → has_node near a ≡ true
nears_all r to j near k none [] a i w = k.whole a [] i w (omega arith)
nears_all r to j near k none (b ∷ bs) a i w =
    let there = nears_all r to j near k none bs b (named_is_node r a b w.0) w.2 in
    ⊎_elim
    (λ (f : has_node near a ≡ true). f)
    (λ (f : has_node near a ≡ false). absurd (find_none (has_node (further r near)) node_numbers a (ap is_none none) (node_numbered a i) (further_has r near a b i f there (linked_from r a b w.0 w.1))))
    (cases_Bool (has_node near a))

-- what a search ends with
abbrev Ends : Reach → ℕ → Option ℕ → Type 0
Ends r to None = Reached r to → ⊥
Ends r to (Some n) = IsNextHop r to n

-- so many nodes are not near yet
abbrev pub is_left : Mask → ℕ → Bool
is_left near n = not (has_node near n)

pub left_less : (r : Reach) (near : Mask) (b : ℕ) → has_node (further r near) b ≡ true → passing (is_left (union_of near (further r near))) node_numbers < passing (is_left near) node_numbers
left_less r near b h =
    count_less (is_left near) (is_left (union_of near (further r near))) sub node_numbers b (node_numbered b (has_is_node (further r near) b h)) (not_from_false (has_node near b) (further_is r near b h).new) there
  where
    sub : (x : ℕ) → not (has_node (union_of near (further r near)) x) ≡ true → not (has_node near x) ≡ true
    sub x e =
        let out : has_node (union_of near (further r near)) x ≡ false = not-true (has_node (union_of near (further r near)) x) e in
        ⊎_elim
        (λ (f : has_node near x ≡ true). absurd (let g : has_node (union_of near (further r near)) x ≡ true = has_union near (further r near) x ∙ or_left (has_node near x) (has_node (further r near) x) f in cc))
        (λ (f : has_node near x ≡ false). not_from_false (has_node near x) f)
        (cases_Bool (has_node near x))

    there : not (has_node (union_of near (further r near)) b) ≡ false
    there = not_from_true (has_node (union_of near (further r near)) b) (has_union near (further r near) b ∙ or_right (has_node near b) (has_node (further r near) b) h)

found : (r : Reach) (to j : ℕ) (near : Mask) (n : ℕ) → Nears r to j near → hop_in r near ≡ Some n → IsNextHop r to n
unfolding hop_in
found r to j near n k e =
    let f = find_has (is_hop r near) node_numbers n e in
    let p = hop_parts r near n f.1 in
    let s = k.sound n p.0 in
    let le : length s.0 ≤ j = s.2 in
    let q = linked_parts r r.me n p.1 in
    record {
      second = record { rest = s.0; walk = (q.0, q.1, s.1); shortest = λ bs w. let lt : j < length bs = k.far bs w in omega arith };
      least = λ m x.
          let short : length (m ∷ x.rest) ≤ length (n ∷ s.0) = x.shortest (n ∷ s.0) (q.0, q.1, s.1) in
          let there : has_node near m ≡ true = k.whole m x.rest (named_is_node r r.me m x.walk.0) x.walk.2 (omega arith) in
          find_least (is_hop r near) 0 node_numbers n m refl e (node_numbered m (has_is_node near m there)) (hop_of r near m there (linked_from r r.me m x.walk.0 x.walk.1));
    }

searched : (k : ℕ) (r : Reach) (to j : ℕ) (near : Mask) → Nears r to j near → passing (is_left near) node_numbers ≤ k → Ends r to (hop_from k r near)
unfolding hop_from
searched zero r to j near h le = λ w.
    let i : is_node r.me ≡ true = own_node r to j near h w.0 w.1 in
    ⊎_elim
    (λ (f : has_node near r.me ≡ true). own_far r to j near h f)
    (λ (f : has_node near r.me ≡ false). (let lt = count_less (is_left near) (λ x. false) (λ x e. absurd (cc)) node_numbers r.me (node_numbered r.me i) (not_from_false (has_node near r.me) f) refl in omega arith))
    (cases_Bool (has_node near r.me))
searched (suc k) r to j near h le =
    by (hop_in r near) refl (find (has_node (further r near)) node_numbers) refl
    (λ none b new. searched k r to (suc j) (union_of near (further r near)) (nears_on r to j near h none) (let lt = left_less r near b new in omega arith))
  where
    by : (o : Option ℕ) → hop_in r near ≡ o → (x : Option ℕ) → find (has_node (further r near)) node_numbers ≡ x → (hop_in r near ≡ None → (b : ℕ) → has_node (further r near) b ≡ true → Ends r to (hop_from k r (union_of near (further r near)))) → Ends r to (elim o [ Some n ↦ Some n | None ↦ elim x [ None ↦ None | Some b ↦ hop_from k r (union_of near (further r near)) ] ])
    by (Some n) e x f more = found r to j near n h e
    by None e None f more = λ w. own_far r to j near h (nears_all r to j near h f w.0 r.me (own_node r to j near h w.0 w.1) w.1)
    by None e (Some b) f more = more e b (find_has (has_node (further r near)) node_numbers b f).1

-- ---- what is answered

next_ends : (r : Reach) (to : ℕ) → (to ≡ r.me → ⊥) → Ends r to (hop_from 32 r (with_node no_nodes to))
next_ends r to other = searched 32 r to 0 (with_node no_nodes to) (starts_near r to other) (passing_le (is_left (with_node no_nodes to)) node_numbers)

pub record IsExact (r : Reach) (to : ℕ) (o : Option ℕ) : Type 0 where
  pub none : o ≡ None ↔ (to ≡ r.me) ⊎ (Reached r to → ⊥)
  pub some : IfSome o (λ n. IsNextHop r to n)

exact_by : (r : Reach) (to : ℕ) (o : Option ℕ) → (to ≡ r.me → ⊥) → Ends r to o → IsExact r to o
exact_by r to None other end = record { none = (λ e. inr end, λ e. refl); some = tt }
exact_by r to (Some n) other end = record { none = (λ e. absurd (cc), λ e. ⊎_elim (λ (f : to ≡ r.me). absurd (other f)) (λ (f : Reached r to → ⊥). absurd (f (n ∷ end.second.rest, end.second.walk))) e); some = end }

pub hops_are_exact : (r : Reach) (to : ℕ) → IsExact r to (next_hop r to)
unfolding next_hop
hops_are_exact r to = by (to == r.me) refl
  where
    by : (b : Bool) → (to == r.me) ≡ b → IsExact r to (elim b [ true ↦ None | false ↦ hop_from 32 r (with_node no_nodes to) ])
    by true e = record { none = (λ f. inl (eqb-true to r.me e), λ f. refl); some = tt }
    by false e = exact_by r to (hop_from 32 r (with_node no_nodes to)) (eqb-false to r.me e) (next_ends r to (eqb-false to r.me e))

-- ---- a step of the loop that searches

ended_at : (k : ℕ) (r : Reach) (near : Mask) (n : ℕ) → hop_in r near ≡ Some n → hop_from (suc k) r near ≡ Some n
unfolding hop_from
ended_at k r near n e =
    ap (λ (o : Option ℕ). elim o as (λ t. Option ℕ) [ Some m ↦ Some m | None ↦ elim (find (has_node (further r near)) node_numbers) as (λ t. Option ℕ) [ None ↦ None | Some b ↦ hop_from k r (union_of near (further r near)) ] ]) e

went_on : (k : ℕ) (r : Reach) (near : Mask) (x : Option ℕ) → hop_in r near ≡ None → find (has_node (further r near)) node_numbers ≡ x → hop_from (suc k) r near ≡ elim x [ None ↦ None | Some b ↦ hop_from k r (union_of near (further r near)) ]
unfolding hop_from
went_on k r near x e f =
    ap (λ (o : Option ℕ). elim o as (λ t. Option ℕ) [ Some m ↦ Some m | None ↦ elim (find (has_node (further r near)) node_numbers) as (λ t. Option ℕ) [ None ↦ None | Some b ↦ hop_from k r (union_of near (further r near)) ] ]) e
    ∙ ap (λ (o : Option ℕ). elim o as (λ t. Option ℕ) [ None ↦ None | Some b ↦ hop_from k r (union_of near (further r near)) ]) f

pub hop_found : (i : ℕ) (r : Reach) (near : Mask) (n : ℕ) → i < 32 → hop_in r near ≡ Some n → hop_from (32 - i) r near ≡ Some n
hop_found i r near n lt e =
    let k : 32 - i ≡ suc (32 - (i + 1)) = omega arith in ap (λ j. hop_from j r near) k ∙ ended_at (32 - (i + 1)) r near n e

pub hop_on : (i : ℕ) (r : Reach) (near new : Mask) → i < 32 → hop_in r near ≡ None → new ≡ further r near → is_none (find (has_node new) node_numbers) ≡ false → hop_from (32 - i) r near ≡ hop_from (32 - (i + 1)) r (union_of near new)
hop_on i r near new lt e is more =
    let k : 32 - i ≡ suc (32 - (i + 1)) = omega arith in
    ap (λ j. hop_from j r near) k ∙ by (find (has_node (further r near)) node_numbers) refl (ap (λ m. is_none (find (has_node m) node_numbers)) (sym is) ∙ more)
  where
    by : (x : Option ℕ) → find (has_node (further r near)) node_numbers ≡ x → is_none x ≡ false → hop_from (suc (32 - (i + 1))) r near ≡ hop_from (32 - (i + 1)) r (union_of near new)
    by None f g = absurd (cc)
    by (Some b) f g = went_on (32 - (i + 1)) r near (Some b) e f ∙ ap (λ m. hop_from (32 - (i + 1)) r (union_of near m)) (sym is)

pub hop_closed : (i : ℕ) (r : Reach) (near new : Mask) → i < 32 → hop_in r near ≡ None → new ≡ further r near → is_none (find (has_node new) node_numbers) ≡ true → hop_from (32 - i) r near ≡ None
hop_closed i r near new lt e is all =
    let k : 32 - i ≡ suc (32 - (i + 1)) = omega arith in
    ap (λ j. hop_from j r near) k ∙ by (find (has_node (further r near)) node_numbers) refl (ap (λ m. is_none (find (has_node m) node_numbers)) (sym is) ∙ all)
  where
    by : (x : Option ℕ) → find (has_node (further r near)) node_numbers ≡ x → is_none x ≡ true → hop_from (suc (32 - (i + 1))) r near ≡ None
    by None f g = went_on (32 - (i + 1)) r near None e f
    by (Some b) f g = absurd (cc)

pub hop_end : (i : ℕ) (r : Reach) (near : Mask) → 32 ≤ i → hop_from (32 - i) r near ≡ None
unfolding hop_from
hop_end i r near le = let k : 32 - i ≡ 0 = omega arith in ap (λ j. hop_from j r near) k
