-- Nodes that come from sources, one source after another.
use Rattle.std.proofs.Common.{◌≡◌, ℕ, Bool, true, false, List, [], ◌∷◌, refl, ap, ◌∙◌}
use Rattle.std.specs.Prelude.{◌&&◌, ◌||◌}
use Rattle.std.specs.List.{list_any, list_all}
use Rattle.rsct_packet.specs.declared.ids.Member.{Member}
use Rattle.rsct_packet.specs.declared.mask.Mask.{Mask}
use Rattle.rsct_packet.specs.Mask.{node_numbers, no_nodes, has_node, union_of}
use Rattle.rsct_packet.proofs.MaskLaws.{has_no_nodes, has_union}
use Rattle.view_state.specs.declared.install.Source.{Source}
use Rattle.view_state.specs.Codec.{has_member, comes_from, comes_once, each_comes_once}
use Rattle.view_exchange.specs.Coming.{have_common, comes_after, each_comes_after}

and_same : (a b c d : Bool) → a ≡ c → b ≡ d → (a && b) ≡ (c && d)
and_same a b c d e f = ap (λ (x : Bool). x && b) e ∙ ap (λ (y : Bool). c && y) f

and_false : (b : Bool) → (b && false) ≡ false
and_false true = refl
and_false false = refl

all_same : (p q : ℕ → Bool) (ns : List ℕ) → ((n : ℕ) → p n ≡ q n) → list_all p ns ≡ list_all q ns
all_same p q [] e = refl
all_same p q (n ∷ ns) e = and_same (p n) (list_all p ns) (q n) (list_all q ns) (e n) (all_same p q ns e)

-- before the first source nobody has come
one_begins : (ms : List Member) (ss : List Source) (n : ℕ) → comes_once ms ss n ≡ comes_after no_nodes ms ss n
one_begins ms ss n = by (has_node no_nodes n) (has_no_nodes n)
  where
    by : (b : Bool) → b ≡ false → ◌≡◌ {A = Bool} (comes_from (has_member ms n) ss n) (elim b [ true ↦ has_member ms n && comes_from false ss n | false ↦ comes_from (has_member ms n) ss n ])
    by true e = absurd cc
    by false e = refl

pub nobody_came : (ms : List Member) (ss : List Source) → each_comes_once ms ss ≡ each_comes_after no_nodes ms ss
unfolding each_comes_once
nobody_came ms ss = all_same (comes_once ms ss) (comes_after no_nodes ms ss) node_numbers (one_begins ms ss)

-- those of a source come behind those that have come, where no node is one of both
one_came : (come : Mask) (ms : List Member) (s : Source) (ss : List Source) (n : ℕ) → (has_node come n && has_node s.nodes n) ≡ false → comes_after come ms (s ∷ ss) n ≡ comes_after (union_of come s.nodes) ms ss n
one_came come ms s ss n apart = by (has_node come n) (has_node s.nodes n) (has_node (union_of come s.nodes) n) apart (has_union come s.nodes n)
  where
    by : (a b c : Bool) → (a && b) ≡ false → c ≡ (a || b) → ◌≡◌ {A = Bool} (elim a [ true ↦ has_member ms n && elim b [ true ↦ false && comes_from false ss n | false ↦ comes_from false ss n ] | false ↦ elim b [ true ↦ has_member ms n && comes_from false ss n | false ↦ comes_from (has_member ms n) ss n ] ]) (elim c [ true ↦ has_member ms n && comes_from false ss n | false ↦ comes_from (has_member ms n) ss n ])
    by true true c e f = absurd cc
    by true false true e f = refl
    by true false false e f = absurd cc
    by false true true e f = refl
    by false true false e f = absurd cc
    by false false true e f = absurd cc
    by false false false e f = refl

each_came : (come : Mask) (ms : List Member) (s : Source) (ss : List Source) (ns : List ℕ) → list_any (λ n. has_node come n && has_node s.nodes n) ns ≡ false → list_all (comes_after come ms (s ∷ ss)) ns ≡ list_all (comes_after (union_of come s.nodes) ms ss) ns
each_came come ms s ss [] e = refl
each_came come ms s ss (n ∷ ns) e = by (has_node come n && has_node s.nodes n) refl e (each_came come ms s ss ns)
  where
    by : (b : Bool) → (has_node come n && has_node s.nodes n) ≡ b → (b || list_any (λ n. has_node come n && has_node s.nodes n) ns) ≡ false → (list_any (λ n. has_node come n && has_node s.nodes n) ns ≡ false → list_all (comes_after come ms (s ∷ ss)) ns ≡ list_all (comes_after (union_of come s.nodes) ms ss) ns) → (comes_after come ms (s ∷ ss) n && list_all (comes_after come ms (s ∷ ss)) ns) ≡ (comes_after (union_of come s.nodes) ms ss n && list_all (comes_after (union_of come s.nodes) ms ss) ns)
    by true p q more = absurd cc
    by false p q more = and_same _ _ _ _ (one_came come ms s ss n p) (more q)

pub more_came : (come : Mask) (ms : List Member) (s : Source) (ss : List Source) → have_common come s.nodes ≡ false → each_comes_after come ms (s ∷ ss) ≡ each_comes_after (union_of come s.nodes) ms ss
more_came come ms s ss e = each_came come ms s ss node_numbers e

-- a node that has come and comes again
one_twice : (come : Mask) (ms : List Member) (s : Source) (ss : List Source) (n : ℕ) → (has_node come n && has_node s.nodes n) ≡ true → comes_after come ms (s ∷ ss) n ≡ false
one_twice come ms s ss n both = by (has_node come n) (has_node s.nodes n) both
  where
    by : (a b : Bool) → (a && b) ≡ true → ◌≡◌ {A = Bool} (elim a [ true ↦ has_member ms n && elim b [ true ↦ false && comes_from false ss n | false ↦ comes_from false ss n ] | false ↦ elim b [ true ↦ has_member ms n && comes_from false ss n | false ↦ comes_from (has_member ms n) ss n ] ]) false
    by true true e = and_false (has_member ms n)
    by true false e = absurd cc
    by false b e = absurd cc

each_twice : (come : Mask) (ms : List Member) (s : Source) (ss : List Source) (ns : List ℕ) → list_any (λ n. has_node come n && has_node s.nodes n) ns ≡ true → list_all (comes_after come ms (s ∷ ss)) ns ≡ false
each_twice come ms s ss [] e = absurd cc
each_twice come ms s ss (n ∷ ns) e = by (has_node come n && has_node s.nodes n) refl e (each_twice come ms s ss ns)
  where
    by : (b : Bool) → (has_node come n && has_node s.nodes n) ≡ b → (b || list_any (λ n. has_node come n && has_node s.nodes n) ns) ≡ true → (list_any (λ n. has_node come n && has_node s.nodes n) ns ≡ true → list_all (comes_after come ms (s ∷ ss)) ns ≡ false) → (comes_after come ms (s ∷ ss) n && list_all (comes_after come ms (s ∷ ss)) ns) ≡ false
    by true p q more = ap (λ (x : Bool). x && list_all (comes_after come ms (s ∷ ss)) ns) (one_twice come ms s ss n p)
    by false p q more = ap (λ (x : Bool). comes_after come ms (s ∷ ss) n && x) (more q) ∙ and_false (comes_after come ms (s ∷ ss) n)

pub came_twice : (come : Mask) (ms : List Member) (s : Source) (ss : List Source) → have_common come s.nodes ≡ true → each_comes_after come ms (s ∷ ss) ≡ false
came_twice come ms s ss e = each_twice come ms s ss node_numbers e
