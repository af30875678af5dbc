-- Numbers, ids, values and lists are read as they are written.
use Rattle.std.proofs.Common.{◌≡◌, ◌⊎◌, inl, inr, ℕ, zero, suc, ◌+◌, ◌-◌, ◌*◌, ◌/◌, ◌%◌, ◌<◌, ◌≤◌, ◌^◌, Bool, true, false, List, [], ◌∷◌, ◌++◌, length, map, Option, Some, None, refl, sym, ◌∙◌, ap, subst, arith, append_assoc, append-nil}
use Rattle.std.specs.Prelude.{◌==◌, ◌&&◌, ◌||◌, nat_le, nat_lt, decimal, codes, flat_map, if◌then◌else◌}
use Rattle.std.specs.List.{fold, list_all}
use Rattle.std.specs.Str.{bytes_eq}
use Rattle.std.proofs.Math.Nat.{div-add-mod}
use Rattle.std.proofs.lemmas.Bool.Decides.{nat_tests}
use Rattle.std.proofs.lemmas.Fmt.{decimal_nonempty}
use Rattle.std.proofs.lemmas.List.Sums.{fold-append}
use Rattle.rsct_packet.specs.declared.ids.Member.{Member}
use Rattle.rsct_packet.specs.declared.ids.ProtoId.{ProtoId}
use Rattle.rsct_packet.specs.declared.ids.ProviderId.{ProviderId}
use Rattle.rsct_packet.specs.declared.ids.RingId.{RingId}
use Rattle.rsct_packet.specs.declared.ids.ViewId.{ViewId}
use Rattle.rsct_packet.specs.Ids.{last_u32}
use Rattle.rsct_packet.specs.Mask.{is_node}
use Rattle.value_words.specs.Escapes.{with_byte, text_byte, text_end_at, text_end, text_of}
use Rattle.value_words.specs.Wording.{view_text, provider_text, ring_text, proto_text, member_text, joined, nodes_text, members_text, providers_text, hex_digit, byte_text, escaped, value_text}
use Rattle.value_words.specs.Words.{◌>>=◌, hex_value, hex_pair, split_on, each_read, number_word, node_word, provider_of, provider_word}
use Rattle.entry_words.specs.Wording.{value_option_text}
use Rattle.word_laws.specs.Ranges.{is_u32, is_u16, is_view, is_ring, is_proto, is_provider, is_member, is_value, is_value_option}
use Rattle.word_laws.specs.Values.{u32_word, u16_word, both_of, two_word, view_of, view_word, ring_of, ring_word, proto_word, member_word, list_word, value_word, some_value, value_or_none}
use Rattle.word_laws.proofs.Pieces.{Lacks, lacks_both, split_last, split_first, IsNoDigit, decimal_lacks, number_read}

-- ---- small steps

pub and_parts : (a b : Bool) → (a && b) ≡ true → (a ≡ true) × (b ≡ true)
and_parts true b e = (refl, e)
and_parts false b e = absurd cc

pub bind_some : {X Y : Type 0} (o : Option X) (x : X) (f : X → Option Y) → o ≡ Some x → (o >>= f) ≡ f x
unfolding ◌>>=◌
bind_some o x f e = ap (λ z. z >>= f) e

pub within_node : (n : ℕ) → is_node n ≡ true → (1 ≤ n) × (n ≤ 32)
within_node n e = let p = and_parts (nat_le 1 n) (nat_le n 32) e in (grind (arith, nat_tests, p.0), grind (arith, nat_tests, p.1))

pub within_u32 : (n : ℕ) → is_u32 n ≡ true → n ≤ 4294967295
unfolding is_u32
within_u32 n e = grind (arith, nat_tests)

pub within_u16 : (n : ℕ) → is_u16 n ≡ true → n ≤ 65535
unfolding is_u16
within_u16 n e = grind (arith, nat_tests)

-- ---- numbers in their ranges

pub node_read : (n : ℕ) → is_node n ≡ true → node_word (decimal n) ≡ Some n
unfolding node_word
node_read n e = let p = within_node n e in number_read 1 32 n p.0 p.1 (omega arith)

pub u32_read : (n : ℕ) → is_u32 n ≡ true → u32_word (decimal n) ≡ Some n
unfolding u32_word
u32_read n e = number_read 0 4294967295 n (omega arith) (within_u32 n e) (omega arith)

pub u16_read : (n : ℕ) → is_u16 n ≡ true → u16_word (decimal n) ≡ Some n
unfolding u16_word
u16_read n e = number_read 0 65535 n (omega arith) (within_u16 n e) (omega arith)

pub node_lacks : (c n : ℕ) → IsNoDigit c → is_node n ≡ true → Lacks c (decimal n)
node_lacks c n h e = let p = within_node n e in decimal_lacks c n h (omega (arith, p.1))

pub u32_lacks : (c n : ℕ) → IsNoDigit c → is_u32 n ≡ true → Lacks c (decimal n)
u32_lacks c n h e = let p = within_u32 n e in decimal_lacks c n h (omega (arith, p))

pub u16_lacks : (c n : ℕ) → IsNoDigit c → is_u16 n ≡ true → Lacks c (decimal n)
u16_lacks c n h e = let p = within_u16 n e in decimal_lacks c n h (omega (arith, p))

-- a mark that is neither a digit nor a dot
abbrev pub IsApart : ℕ → Type 0
IsApart c = IsNoDigit c × ((46 == c) ≡ false)

pub lacks_mark : (m c : ℕ) (a b : List ℕ) → (m == c) ≡ false → Lacks c a → Lacks c b → Lacks c (a ++ m ∷ b)
lacks_mark m c a b e h k = lacks_both c a (m ∷ b) h (e, k)

-- ---- ids

view_parts : (v : ViewId) → is_view v ≡ true → (is_u32 v.number ≡ true) × (is_node v.coord ≡ true) × (is_u32 v.inc ≡ true)
unfolding is_view
view_parts v e =
    let a = and_parts (is_u32 v.number) (is_node v.coord && is_u32 v.inc) e in
    let b = and_parts (is_node v.coord) (is_u32 v.inc) a.1 in
    (a.0, b.0, b.1)

view_is : (v : ViewId) → view_text v ≡ decimal v.number ++ 46 ∷ (decimal v.coord ++ 46 ∷ decimal v.inc)
unfolding view_text
view_is v =
    append_assoc (decimal v.number ++ 46 ∷ [] ++ decimal v.coord) (46 ∷ []) (decimal v.inc)
    ∙ append_assoc (decimal v.number ++ 46 ∷ []) (decimal v.coord) (46 ∷ decimal v.inc)
    ∙ append_assoc (decimal v.number) (46 ∷ []) (decimal v.coord ++ 46 ∷ decimal v.inc)

pub three_pieces : (c : ℕ) (a b d : List ℕ) → Lacks c a → Lacks c b → Lacks c d → split_on c (a ++ c ∷ (b ++ c ∷ d)) ≡ a ∷ b ∷ d ∷ []
three_pieces c a b d h k l = split_first c a (b ++ c ∷ d) h ∙ ap (λ z. a ∷ z) (split_first c b d k ∙ ap (λ z. b ∷ z) (split_last c d l))

pub two_pieces : (c : ℕ) (a b : List ℕ) → Lacks c a → Lacks c b → split_on c (a ++ c ∷ b) ≡ a ∷ b ∷ []
two_pieces c a b h k = split_first c a b h ∙ ap (λ z. a ∷ z) (split_last c b k)

pub dot : IsNoDigit 46
dot = inl (omega arith)

-- three words that are read
three_read : (v : ViewId) (a b c : List ℕ) → u32_word a ≡ Some v.number → node_word b ≡ Some v.coord → u32_word c ≡ Some v.inc → view_of (a ∷ b ∷ c ∷ []) ≡ Some v
unfolding view_of ◌>>=◌
three_read v a b c e f g = rw (e, f, g) refl

pub view_read : (v : ViewId) → is_view v ≡ true → view_word (view_text v) ≡ Some v
unfolding view_word
view_read v e =
    let p = view_parts v e in
    ap (λ z. view_of (split_on 46 z)) (view_is v)
    ∙ ap view_of (three_pieces 46 (decimal v.number) (decimal v.coord) (decimal v.inc) (u32_lacks 46 v.number dot p.0) (node_lacks 46 v.coord dot p.1) (u32_lacks 46 v.inc dot p.2))
    ∙ three_read v (decimal v.number) (decimal v.coord) (decimal v.inc) (u32_read v.number p.0) (node_read v.coord p.1) (u32_read v.inc p.2)

pub view_lacks : (c : ℕ) (v : ViewId) → IsApart c → is_view v ≡ true → Lacks c (view_text v)
view_lacks c v h e =
    let p = view_parts v e in
    subst (Lacks c) (sym (view_is v)) (lacks_mark 46 c (decimal v.number) (decimal v.coord ++ 46 ∷ decimal v.inc) h.1 (u32_lacks c v.number h.0 p.0) (lacks_mark 46 c (decimal v.coord) (decimal v.inc) h.1 (node_lacks c v.coord h.0 p.1) (u32_lacks c v.inc h.0 p.2)))

-- a protocol
proto_parts : (p : ProtoId) → is_proto p ≡ true → (is_view p.view ≡ true) × (is_u32 p.place ≡ true)
unfolding is_proto
proto_parts p e = and_parts (is_view p.view) (is_u32 p.place) e

proto_is : (p : ProtoId) → proto_text p ≡ view_text p.view ++ 47 ∷ decimal p.place
unfolding proto_text
proto_is p = append_assoc (view_text p.view) (47 ∷ []) (decimal p.place)

two_are : {X Y : Type 0} (f : List ℕ → Option X) (g : List ℕ → Option Y) (a b : List ℕ) (x : X) (y : Y) → f a ≡ Some x → g b ≡ Some y → both_of f g (a ∷ b ∷ []) ≡ Some (x, y)
unfolding both_of ◌>>=◌
two_are f g a b x y e h = rw (e, h) refl

pub two_read : {X Y : Type 0} (c : ℕ) (f : List ℕ → Option X) (g : List ℕ → Option Y) (a b : List ℕ) (x : X) (y : Y) → Lacks c a → Lacks c b → f a ≡ Some x → g b ≡ Some y → two_word c f g (a ++ c ∷ b) ≡ Some (x, y)
unfolding two_word
two_read c f g a b x y h k e q = ap (both_of f g) (two_pieces c a b h k) ∙ two_are f g a b x y e q

pub slash : IsApart 47
slash = (inl (omega arith), grind (arith, nat_tests))

pub proto_read : (p : ProtoId) → is_proto p ≡ true → proto_word (proto_text p) ≡ Some p
unfolding proto_word ◌>>=◌
proto_read p e =
    let q = proto_parts p e in
    ap proto_word (proto_is p)
    ∙ ap (λ o. o >>= (λ (x : ViewId × ℕ). Some (record { view = x.0; place = x.1 }))) (two_read 47 view_word u32_word (view_text p.view) (decimal p.place) p.view p.place (view_lacks 47 p.view slash q.0) (u32_lacks 47 p.place slash.0 q.1) (view_read p.view q.0) (u32_read p.place q.1))

pub proto_lacks : (c : ℕ) (p : ProtoId) → IsApart c → ((47 == c) ≡ false) → is_proto p ≡ true → Lacks c (proto_text p)
proto_lacks c p h k e =
    let q = proto_parts p e in
    subst (Lacks c) (sym (proto_is p)) (lacks_mark 47 c (view_text p.view) (decimal p.place) k (view_lacks c p.view h q.0) (u32_lacks c p.place h.0 q.1))

-- a provider
provider_parts : (p : ProviderId) → is_provider p ≡ true → (is_node p.node ≡ true) × (is_u32 p.inc ≡ true) × (is_u16 p.instance ≡ true) × (is_u32 p.join ≡ true)
unfolding is_provider
provider_parts p e =
    let a = and_parts (is_node p.node) (is_u32 p.inc && (is_u16 p.instance && is_u32 p.join)) e in
    let b = and_parts (is_u32 p.inc) (is_u16 p.instance && is_u32 p.join) a.1 in
    let c = and_parts (is_u16 p.instance) (is_u32 p.join) b.1 in
    (a.0, b.0, c.0, c.1)

provider_is : (p : ProviderId) → provider_text p ≡ decimal p.node ++ 46 ∷ (decimal p.inc ++ 46 ∷ (decimal p.instance ++ 46 ∷ decimal p.join))
unfolding provider_text
provider_is p =
    append_assoc (decimal p.node ++ 46 ∷ [] ++ decimal p.inc ++ 46 ∷ [] ++ decimal p.instance) (46 ∷ []) (decimal p.join)
    ∙ append_assoc (decimal p.node ++ 46 ∷ [] ++ decimal p.inc ++ 46 ∷ []) (decimal p.instance) (46 ∷ decimal p.join)
    ∙ append_assoc (decimal p.node ++ 46 ∷ [] ++ decimal p.inc) (46 ∷ []) (decimal p.instance ++ 46 ∷ decimal p.join)
    ∙ append_assoc (decimal p.node ++ 46 ∷ []) (decimal p.inc) (46 ∷ (decimal p.instance ++ 46 ∷ decimal p.join))
    ∙ append_assoc (decimal p.node) (46 ∷ []) (decimal p.inc ++ 46 ∷ (decimal p.instance ++ 46 ∷ decimal p.join))

four_read : (p : ProviderId) (a b c d : List ℕ) → node_word a ≡ Some p.node → number_word 0 last_u32 b ≡ Some p.inc → number_word 0 65535 c ≡ Some p.instance → number_word 0 last_u32 d ≡ Some p.join → provider_of (a ∷ b ∷ c ∷ d ∷ []) ≡ Some p
unfolding provider_of ◌>>=◌
four_read p a b c d e f g h = rw (e, f, g, h) refl

pub provider_read : (p : ProviderId) → is_provider p ≡ true → provider_word (provider_text p) ≡ Some p
unfolding provider_word u32_word u16_word
provider_read p e =
    let q = provider_parts p e in
    ap (λ z. provider_of (split_on 46 z)) (provider_is p)
    ∙ ap provider_of (split_first 46 (decimal p.node) (decimal p.inc ++ 46 ∷ (decimal p.instance ++ 46 ∷ decimal p.join)) (node_lacks 46 p.node dot q.0) ∙ ap (λ z. decimal p.node ∷ z) (three_pieces 46 (decimal p.inc) (decimal p.instance) (decimal p.join) (u32_lacks 46 p.inc dot q.1) (u16_lacks 46 p.instance dot q.2) (u32_lacks 46 p.join dot q.3)))
    ∙ four_read p (decimal p.node) (decimal p.inc) (decimal p.instance) (decimal p.join) (node_read p.node q.0) (u32_read p.inc q.1) (u16_read p.instance q.2) (u32_read p.join q.3)

pub provider_lacks : (c : ℕ) (p : ProviderId) → IsApart c → is_provider p ≡ true → Lacks c (provider_text p)
provider_lacks c p h e =
    let q = provider_parts p e in
    subst (Lacks c) (sym (provider_is p)) (lacks_mark 46 c (decimal p.node) (decimal p.inc ++ 46 ∷ (decimal p.instance ++ 46 ∷ decimal p.join)) h.1 (node_lacks c p.node h.0 q.0) (lacks_mark 46 c (decimal p.inc) (decimal p.instance ++ 46 ∷ decimal p.join) h.1 (u32_lacks c p.inc h.0 q.1) (lacks_mark 46 c (decimal p.instance) (decimal p.join) h.1 (u16_lacks c p.instance h.0 q.2) (u32_lacks c p.join h.0 q.3))))

-- a member
member_is : (m : Member) → member_text m ≡ decimal m.node ++ 46 ∷ decimal m.inc
unfolding member_text
member_is m = append_assoc (decimal m.node) (46 ∷ []) (decimal m.inc)

pub member_read : (m : Member) → is_member m ≡ true → member_word (member_text m) ≡ Some m
unfolding is_member member_word ◌>>=◌
member_read m e =
    let q = and_parts (is_node m.node) (is_u32 m.inc) e in
    ap member_word (member_is m)
    ∙ ap (λ o. o >>= (λ (x : ℕ × ℕ). Some (record { node = x.0; inc = x.1 }))) (two_read 46 node_word u32_word (decimal m.node) (decimal m.inc) m.node m.inc (node_lacks 46 m.node dot q.0) (u32_lacks 46 m.inc dot q.1) (node_read m.node q.0) (u32_read m.inc q.1))

pub member_lacks : (c : ℕ) (m : Member) → IsApart c → is_member m ≡ true → Lacks c (member_text m)
unfolding is_member
member_lacks c m h e =
    let q = and_parts (is_node m.node) (is_u32 m.inc) e in
    subst (Lacks c) (sym (member_is m)) (lacks_mark 46 c (decimal m.node) (decimal m.inc) h.1 (node_lacks c m.node h.0 q.0) (u32_lacks c m.inc h.0 q.1))

-- a ring
ring_parts : (r : RingId) → is_ring r ≡ true → (is_node r.leader ≡ true) × (is_u32 r.inc ≡ true) × (is_u32 r.number ≡ true)
unfolding is_ring
ring_parts r e =
    let a = and_parts (is_node r.leader) (is_u32 r.inc && is_u32 r.number) e in
    let b = and_parts (is_u32 r.inc) (is_u32 r.number) a.1 in
    (a.0, b.0, b.1)

ring_is : (r : RingId) → ring_text r ≡ decimal r.leader ++ 46 ∷ (decimal r.inc ++ 46 ∷ decimal r.number)
unfolding ring_text
ring_is r =
    append_assoc (decimal r.leader ++ 46 ∷ [] ++ decimal r.inc) (46 ∷ []) (decimal r.number)
    ∙ append_assoc (decimal r.leader ++ 46 ∷ []) (decimal r.inc) (46 ∷ decimal r.number)
    ∙ append_assoc (decimal r.leader) (46 ∷ []) (decimal r.inc ++ 46 ∷ decimal r.number)

ring_by_words : (r : RingId) (a b c : List ℕ) → node_word a ≡ Some r.leader → u32_word b ≡ Some r.inc → u32_word c ≡ Some r.number → ring_of (a ∷ b ∷ c ∷ []) ≡ Some r
unfolding ring_of ◌>>=◌
ring_by_words r a b c e f g = rw (e, f, g) refl

pub ring_read : (r : RingId) → is_ring r ≡ true → ring_word (ring_text r) ≡ Some r
unfolding ring_word
ring_read r e =
    let p = ring_parts r e in
    ap (λ z. ring_of (split_on 46 z)) (ring_is r)
    ∙ ap ring_of (three_pieces 46 (decimal r.leader) (decimal r.inc) (decimal r.number) (node_lacks 46 r.leader dot p.0) (u32_lacks 46 r.inc dot p.1) (u32_lacks 46 r.number dot p.2))
    ∙ ring_by_words r (decimal r.leader) (decimal r.inc) (decimal r.number) (node_read r.leader p.0) (u32_read r.inc p.1) (u32_read r.number p.2)

-- ---- lists between commas

module _ {X : Type 0} (f : X → List ℕ) (g : List ℕ → Option X) where
  -- each is read as it is written, and is written without commas and dashes, with some byte
  abbrev pub Item : X → Type 0
  Item x = (g (f x) ≡ Some x) × Lacks 44 (f x) × Lacks 45 (f x) × (0 < length (f x))

  abbrev pub Items : List X → Type 0
  Items [] = Unit {0}
  Items (x ∷ xs) = Item x × Items xs

  some_more : (x : X) (xs : List X) (o : Option X) (os : Option (List X)) → o ≡ Some x → os ≡ Some xs → (o >>= λ y. os >>= λ ys. Some (y ∷ ys)) ≡ Some (x ∷ xs)
  unfolding ◌>>=◌
  some_more x xs o os e h = rw (e, h) refl

  each_is : (xs : List X) → Items xs → each_read g (map f xs) ≡ Some xs
  unfolding each_read
  each_is [] h = refl
  each_is (x ∷ xs) h = some_more x xs (g (f x)) (each_read g (map f xs)) h.0.0 (each_is xs h.1)

  pieces : (x : X) (xs : List X) → Items (x ∷ xs) → split_on 44 (f x ++ flat_map (λ y. codes "," ++ f y) xs) ≡ f x ∷ map f xs
  pieces x [] h = ap (split_on 44) (append-nil (f x)) ∙ split_last 44 (f x) h.0.1
  pieces x (y ∷ xs) h = split_first 44 (f x) (f y ++ flat_map (λ y. codes "," ++ f y) xs) h.0.1 ∙ ap (λ z. f x ∷ z) (pieces y xs h.1)

  no_dash : (w rest : List ℕ) → 0 < length w → Lacks 45 w → bytes_eq (w ++ rest) (codes "-") ≡ false
  no_dash [] rest h k = absurd (omega arith)
  no_dash (b ∷ w) rest h k = first_differs b (w ++ rest) k.0
    where
      first_differs : (b : ℕ) (ws : List ℕ) → (b == 45) ≡ false → bytes_eq (b ∷ ws) (45 ∷ []) ≡ false
      first_differs b ws e = rw e refl

  list_if : (t : Bool) (w : List ℕ) (xs : List X) → t ≡ false → each_read g (split_on 44 w) ≡ Some xs → elim t [ true ↦ Some [] | false ↦ each_read g (split_on 44 w) ] ≡ Some xs
  list_if true w xs e h = absurd cc
  list_if false w xs e h = h

  pub list_is : (xs : List X) → Items xs → list_word g (joined f xs) ≡ Some xs
  unfolding list_word joined
  list_is [] h = refl
  list_is (x ∷ xs) h =
      list_if (bytes_eq (f x ++ flat_map (λ y. codes "," ++ f y) xs) (codes "-")) (f x ++ flat_map (λ y. codes "," ++ f y) xs) (x ∷ xs) (no_dash (f x) (flat_map (λ y. codes "," ++ f y) xs) h.0.3 h.0.2) (ap (each_read g) (pieces x xs h) ∙ each_is (x ∷ xs) h)

-- ---- values

hex_read : (k : ℕ) → k < 16 → hex_value (hex_digit k) ≡ Some k
unfolding hex_value hex_digit
hex_read k h = by (nat_lt k 10) refl
  where
    small : (k : ℕ) → k < 10 → (nat_le 48 (48 + k) && nat_le (48 + k) 57) ≡ true
    small k l = grind (arith, nat_tests)

    large : (k : ℕ) → 10 ≤ k → k < 16 → ((nat_le 48 (55 + k) && nat_le (55 + k) 57) ≡ false) × ((nat_le 65 (55 + k) && nat_le (55 + k) 70) ≡ true)
    large k l m = (grind (arith, nat_tests), grind (arith, nat_tests))

    by : (t : Bool) → nat_lt k 10 ≡ t → hex_value (if t then 48 + k else 55 + k) ≡ Some k
    by true e = let l : k < 10 = grind (arith, nat_tests) in let a : 48 + k - 48 ≡ k = omega arith in rw (small k l, a) refl
    by false e = let l : 10 ≤ k = grind (arith, nat_tests) in let a : 55 + k - 55 ≡ k = omega arith in let p = large k l h in rw (p.0, p.1, a) refl

pair_read : (b : ℕ) → b < 256 → hex_pair (hex_digit (b / 16)) (hex_digit (b % 16)) ≡ Some b
unfolding hex_pair ◌>>=◌
pair_read b h =
    let hi : b / 16 < 16 = omega arith in
    let lo : b % 16 < 16 = omega arith in
    let e : hex_value (hex_digit (b / 16)) ≡ Some (b / 16) = hex_read (b / 16) hi in
    let f : hex_value (hex_digit (b % 16)) ≡ Some (b % 16) = hex_read (b % 16) lo in
    let g : 16 * (b / 16) + b % 16 ≡ b = div-add-mod b 16 in
    rw (e, f, g) refl

-- the states of the machine that reads `%XX`, by the type of what they are asked
abbrev Asked : {A B : Type 0} → (A → B) → Type 0
Asked {A = A} f = A

abbrev State : Type 0
State = Asked text_end

abbrev Under : Type 0
Under = Asked (text_end_at None)

abbrev state : Under → Option (List ℕ) → State
state e bytes = record { bytes = bytes; escape = e }

-- no `%XX` is under way
record IsPlain (e : Under) : Type 0 where
  byte : (bytes : Option (List ℕ)) (b : ℕ) → (b == 37) ≡ false → text_byte (state e bytes) b ≡ state e (with_byte bytes (Some b))
  pair : (bytes : Option (List ℕ)) (a b : ℕ) → text_byte (text_byte (text_byte (state e bytes) 37) a) b ≡ state e (with_byte bytes (hex_pair a b))
  ends : (bytes : Option (List ℕ)) → text_end (state e bytes) ≡ bytes

not_percent : (a c d : Bool) → (a || c || d) ≡ false → d ≡ false
not_percent false false false e = refl
not_percent false false true e = absurd cc
not_percent false true d e = absurd cc
not_percent true c d e = absurd cc

-- a byte is added to those so far
byte_reads : (u : Under) (p : IsPlain u) (b : ℕ) (acc : List ℕ) → b < 256 → fold text_byte (state u (Some acc)) (byte_text b) ≡ state u (Some (acc ++ b ∷ []))
unfolding byte_text
byte_reads u p b acc h = by (nat_lt b 33 || nat_lt 126 b || (b == 37)) refl
  where
    by : (t : Bool) → (nat_lt b 33 || nat_lt 126 b || (b == 37)) ≡ t → fold text_byte (state u (Some acc)) (if t then 37 ∷ hex_digit (b / 16) ∷ hex_digit (b % 16) ∷ [] else b ∷ []) ≡ state u (Some (acc ++ b ∷ []))
    by true e = p.pair (Some acc) (hex_digit (b / 16)) (hex_digit (b % 16)) ∙ ap (λ (z : Option ℕ). state u (with_byte (Some acc) z)) (pair_read b h)
    by false e = p.byte (Some acc) b (not_percent (nat_lt b 33) (nat_lt 126 b) (b == 37) e)

abbrev pub AreBytes : List ℕ → Type 0
AreBytes [] = Unit {0}
AreBytes (b ∷ bs) = (b < 256) × AreBytes bs

reads_on : (u : Under) (p : IsPlain u) (bs acc : List ℕ) → AreBytes bs → fold text_byte (state u (Some acc)) (escaped bs) ≡ state u (Some (acc ++ bs))
unfolding escaped
reads_on u p [] acc h = ap (λ (l : List ℕ). state u (Some l)) (sym (append-nil acc))
reads_on u p (b ∷ bs) acc h =
    fold-append text_byte (state u (Some acc)) (byte_text b) (escaped bs)
    ∙ (ap (λ (r : State). fold text_byte r (escaped bs)) (byte_reads u p b acc h.0)
    ∙ (reads_on u p bs (acc ++ b ∷ []) h.1 ∙ ap (λ (l : List ℕ). state u (Some l)) (append_assoc acc (b ∷ []) bs)))

reads_all : (u : Under) → ((w : List ℕ) → text_of w ≡ text_end (fold text_byte (state u (Some [])) w)) → IsPlain u → (bs : List ℕ) → AreBytes bs → text_of (escaped bs) ≡ Some bs
reads_all u begins p bs h = begins (escaped bs) ∙ (ap text_end (reads_on u p bs [] h) ∙ p.ends (Some bs))

pub escaped_read : (bs : List ℕ) → AreBytes bs → text_of (escaped bs) ≡ Some bs
unfolding text_of text_byte text_end
escaped_read bs h = reads_all _ (λ w. refl) (record { byte = λ bytes b e. rw e refl; pair = λ bytes a b. refl; ends = λ bytes. refl }) bs h

digit_lacks : (c k : ℕ) → c < 48 → k < 16 → (hex_digit k == c) ≡ false
unfolding hex_digit
digit_lacks c k h l = by (nat_lt k 10)
  where
    by : (t : Bool) → ((if t then 48 + k else 55 + k) == c) ≡ false
    by true = grind (arith, nat_tests)
    by false = grind (arith, nat_tests)

byte_lacks : (c b : ℕ) → c < 33 → b < 256 → Lacks c (byte_text b)
unfolding byte_text
byte_lacks c b k h = by (nat_lt b 33 || nat_lt 126 b || (b == 37)) refl
  where
    not_low : (x y z : Bool) → (x || y || z) ≡ false → x ≡ false
    not_low false y z e = refl
    not_low true y z e = absurd cc

    by : (t : Bool) → (nat_lt b 33 || nat_lt 126 b || (b == 37)) ≡ t → Lacks c (if t then 37 ∷ hex_digit (b / 16) ∷ hex_digit (b % 16) ∷ [] else b ∷ [])
    by true e = (grind (arith, nat_tests), (digit_lacks c (b / 16) (omega arith) (omega arith), (digit_lacks c (b % 16) (omega arith) (omega arith), tt)))
    by false e = let l : nat_lt b 33 ≡ false = not_low (nat_lt b 33) (nat_lt 126 b) (b == 37) e in (grind (arith, nat_tests), tt)

-- no mark below 33 is in a value
pub escaped_lacks : (c : ℕ) (bs : List ℕ) → c < 33 → AreBytes bs → Lacks c (escaped bs)
unfolding escaped
escaped_lacks c [] k h = tt
escaped_lacks c (b ∷ bs) k h = lacks_both c (byte_text b) (escaped bs) (byte_lacks c b k h.0) (escaped_lacks c bs k h.1)

bytes_are : (bs : List ℕ) → list_all (λ b. nat_lt b 256) bs ≡ true → AreBytes bs
bytes_are [] e = tt
bytes_are (b ∷ bs) e = let p = and_parts (nat_lt b 256) (list_all (λ b. nat_lt b 256) bs) e in (grind (arith, nat_tests, p.0), bytes_are bs p.1)

pub value_parts : (bs : List ℕ) → is_value bs ≡ true → AreBytes bs
unfolding is_value
value_parts bs e = bytes_are bs e

pub value_read : (bs : List ℕ) → is_value bs ≡ true → value_word (value_text bs) ≡ Some bs
unfolding value_word value_text
value_read bs e = escaped_read bs (value_parts bs e)

pub value_lacks : (c : ℕ) (bs : List ℕ) → c < 33 → is_value bs ≡ true → Lacks c (value_text bs)
unfolding value_text
value_lacks c bs k e = (grind (arith, nat_tests), escaped_lacks c bs k (value_parts bs e))

-- ---- items between commas

-- items without the mark, between commas, lack it
module _ {X : Type 0} (f : X → List ℕ) (c : ℕ) where
  abbrev pub Unmarked : List X → Type 0
  Unmarked [] = Unit {0}
  Unmarked (x ∷ xs) = Lacks c (f x) × Unmarked xs

  more_lack : (ys : List X) → (44 == c) ≡ false → Unmarked ys → Lacks c (flat_map (λ y. codes "," ++ f y) ys)
  more_lack [] d h = tt
  more_lack (y ∷ ys) d h = lacks_both c (44 ∷ f y) (flat_map (λ y. codes "," ++ f y) ys) (d, h.0) (more_lack ys d h.1)

  pub joined_lacks : (xs : List X) → (45 == c) ≡ false → (44 == c) ≡ false → Unmarked xs → Lacks c (joined f xs)
  unfolding joined
  joined_lacks [] e d h = (e, tt)
  joined_lacks (x ∷ xs) e d h = lacks_both c (f x) (flat_map (λ y. codes "," ++ f y) xs) h.0 (more_lack xs d h.1)

pub comma : IsApart 44
comma = (inl (omega arith), grind (arith, nat_tests))

pub dash : IsApart 45
dash = (inl (omega arith), grind (arith, nat_tests))

pub blank : IsApart 32
blank = (inl (omega arith), grind (arith, nat_tests))

pub longer : (a b : List ℕ) → 0 < length a → 0 < length (a ++ b)
longer [] b h = absurd (omega arith)
longer (x ∷ a) b h = omega arith

pub provider_filled : (p : ProviderId) → is_provider p ≡ true → 0 < length (provider_text p)
provider_filled p e =
    let q = within_node p.node (provider_parts p e).0 in
    subst (λ z. 0 < length z) (sym (provider_is p)) (longer (decimal p.node) (46 ∷ (decimal p.inc ++ 46 ∷ (decimal p.instance ++ 46 ∷ decimal p.join))) (decimal_nonempty p.node (omega (arith, q.1))))

member_filled : (m : Member) → is_member m ≡ true → 0 < length (member_text m)
unfolding is_member
member_filled m e =
    let q = within_node m.node (and_parts (is_node m.node) (is_u32 m.inc) e).0 in
    subst (λ z. 0 < length z) (sym (member_is m)) (longer (decimal m.node) (46 ∷ decimal m.inc) (decimal_nonempty m.node (omega (arith, q.1))))

-- from a test of each to what is asked of each
module _ {X : Type 0} (p : X → Bool) (f : X → List ℕ) (g : List ℕ → Option X) (item : (x : X) → p x ≡ true → Item f g x) where
  pub items_are : (xs : List X) → list_all p xs ≡ true → Items f g xs
  items_are [] e = tt
  items_are (x ∷ xs) e = let q = and_parts (p x) (list_all p xs) e in (item x q.0, items_are xs q.1)

module _ {X : Type 0} (p : X → Bool) (f : X → List ℕ) (c : ℕ) (lacks : (x : X) → p x ≡ true → Lacks c (f x)) where
  pub unmarked : (xs : List X) → list_all p xs ≡ true → Unmarked f c xs
  unmarked [] e = tt
  unmarked (x ∷ xs) e = let q = and_parts (p x) (list_all p xs) e in (lacks x q.0, unmarked xs q.1)

provider_item : (p : ProviderId) → is_provider p ≡ true → Item provider_text provider_word p
provider_item p e = (provider_read p e, provider_lacks 44 p comma e, provider_lacks 45 p dash e, provider_filled p e)

pub providers_read : (ps : List ProviderId) → list_all is_provider ps ≡ true → list_word provider_word (providers_text ps) ≡ Some ps
unfolding providers_text
providers_read ps e = list_is provider_text provider_word ps (items_are is_provider provider_text provider_word provider_item ps e)

pub providers_lack : (ps : List ProviderId) → list_all is_provider ps ≡ true → Lacks 32 (providers_text ps)
unfolding providers_text
providers_lack ps e = joined_lacks provider_text 32 ps refl refl (unmarked is_provider provider_text 32 (λ p h. provider_lacks 32 p blank h) ps e)

member_item : (m : Member) → is_member m ≡ true → Item member_text member_word m
member_item m e = (member_read m e, member_lacks 44 m comma e, member_lacks 45 m dash e, member_filled m e)

pub members_read : (ms : List Member) → list_all is_member ms ≡ true → list_word member_word (members_text ms) ≡ Some ms
unfolding members_text
members_read ms e = list_is member_text member_word ms (items_are is_member member_text member_word member_item ms e)

node_item : (n : ℕ) → is_node n ≡ true → Item decimal node_word n
node_item n e = let q = within_node n e in (node_read n e, node_lacks 44 n comma.0 e, node_lacks 45 n dash.0 e, decimal_nonempty n (omega (arith, q.1)))

pub nodes_read : (ns : List ℕ) → list_all is_node ns ≡ true → list_word node_word (nodes_text ns) ≡ Some ns
unfolding nodes_text
nodes_read ns e = list_is decimal node_word ns (items_are is_node decimal node_word node_item ns e)

-- ---- what may be missing

or_none : (t : Bool) (w : List ℕ) (bs : List ℕ) → t ≡ false → value_word w ≡ Some bs → elim t [ true ↦ Some None | false ↦ some_value (value_word w) ] ≡ Some (Some bs)
unfolding some_value
or_none true w bs e h = absurd cc
or_none false w bs e h = rw h refl

marked : (bs : List ℕ) → bytes_eq (value_text bs) (codes "-") ≡ false
unfolding value_text
marked bs = refl

pub value_option_read : (o : Option (List ℕ)) → is_value_option o ≡ true → value_or_none (value_option_text o) ≡ Some o
unfolding is_value_option value_or_none value_option_text
value_option_read None e = refl
value_option_read (Some bs) e = or_none (bytes_eq (value_text bs) (codes "-")) (value_text bs) bs (marked bs) (value_read bs e)

pub value_option_lacks : (o : Option (List ℕ)) → is_value_option o ≡ true → Lacks 32 (value_option_text o)
unfolding is_value_option value_option_text
value_option_lacks None e = (refl, tt)
value_option_lacks (Some bs) e = value_lacks 32 bs (omega arith) e

pub value_bytes_read : (bs : List ℕ) → is_value bs ≡ true → text_of (escaped bs) ≡ Some bs
value_bytes_read bs e = escaped_read bs (value_parts bs e)

pub ring_lacks : (c : ℕ) (r : RingId) → IsApart c → is_ring r ≡ true → Lacks c (ring_text r)
ring_lacks c r h e =
    let p = ring_parts r e in
    subst (Lacks c) (sym (ring_is r)) (lacks_mark 46 c (decimal r.leader) (decimal r.inc ++ 46 ∷ decimal r.number) h.1 (node_lacks c r.leader h.0 p.0) (lacks_mark 46 c (decimal r.inc) (decimal r.number) h.1 (u32_lacks c r.inc h.0 p.1) (u32_lacks c r.number h.0 p.2)))

pub members_lack : (ms : List Member) → list_all is_member ms ≡ true → Lacks 32 (members_text ms)
unfolding members_text
members_lack ms e = joined_lacks member_text 32 ms refl refl (unmarked is_member member_text 32 (λ m h. member_lacks 32 m blank h) ms e)

pub nodes_lack : (ns : List ℕ) → list_all is_node ns ≡ true → Lacks 32 (nodes_text ns)
unfolding nodes_text
nodes_lack ns e = joined_lacks decimal 32 ns refl refl (unmarked is_node decimal 32 (λ n h. node_lacks 32 n blank.0 h) ns e)
