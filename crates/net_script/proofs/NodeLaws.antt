-- Nodes that stand for those of the definitions, in the order of their numbers.
use Rattle.std.proofs.Common.{◌≡◌, ℕ, suc, Bool, true, false, cond, ◌==◌, List, [], ◌∷◌, set, get_or, Option, Some, None, refl, sym, ap, ◌∙◌, subst}
use Rattle.std.specs.Prelude.{find, is_some, nat_lt}
use Rattle.std.specs.Option.{option_map}
use Rattle.std.proofs.lemmas.Bool.{eqb-true}
use Rattle.rsct_packet.specs.Lists.{drop_where}
use Rattle.rsct_packet.specs.Search.{place_where, insert_before}
use Rattle.node_state.specs.declared.state.Core.{Core}
use Rattle.node_state.specs.HandOn.{Answering}
use Rattle.node_state.specs.Step.{NodeEvent}
use Rattle.node_core.specs.Node.{NodeView}
use Rattle.world_model.specs.World.{Script, is_node, nodes_with}
use Rattle.world_model.specs.World as world
use Rattle.world_laws.specs.world_answers.Answers.{Items}
use Rattle.net_script.specs.Standing.{is_me, comes_before, NodeStands, NodesStand, StepDone, StepsAs, StepsNode, StepsIn}
use Rattle.net_script.specs.declared.steps.Left.{Left}

missing_head : (t : Bool) (o : Option ℕ) (x : world.Node) (rest : Option world.Node) → (o ≡ None → rest ≡ None) → cond t (Some 0) (option_map suc o) ≡ None → cond t (Some x) rest ≡ None
missing_head true o x rest ih e = absurd cc
missing_head false None x rest ih e = ih refl
missing_head false (Some j) x rest ih e = absurd cc

-- the node at a place, and the one that it stands for
pub record StandsAt {C : Type 0} (script : C → Option Items) (said : Items → Option Items) (k : ℕ) (n : NodeView C) (xs : List world.Node) : Type 0 where
  pub node : world.Node
  pub found : find (is_node k) xs ≡ Some node
  pub stands : NodeStands script said n node
  pub me : node.core.views.me ≡ k

abbrev pub node_before : ℕ → world.Node → Bool
node_before k x = nat_lt k x.core.views.me

none_head : {C : Type 0} (t : Bool) (n : NodeView C) (ns ms : List (NodeView C)) (a : Option (NodeView C)) → (is_some a ≡ false → ms ≡ ns) → is_some (cond t (Some n) a) ≡ false → elim t [ true ↦ ns | false ↦ n ∷ ms ] ≡ n ∷ ns
none_head true n ns ms a ih e = absurd cc
none_head false n ns ms a ih e = ap (λ ys. n ∷ ys) (ih e)

pub stands_none : {C : Type 0} (k : ℕ) (ns : List (NodeView C)) → is_some (find (is_me k) ns) ≡ false → drop_where (is_me k) ns ≡ ns
stands_none k [] e = refl
stands_none k (n ∷ ns) e = none_head (is_me k n) n ns (drop_where (is_me k) ns) (find (is_me k) ns) (stands_none k ns) e

module _ {C : Type 0} (script : C → Option Items) (said : Items → Option Items) where
  -- the same number
  pub same_me : (n : NodeView C) (x : world.Node) → NodeStands script said n x → n.core.views.me ≡ x.core.views.me
  same_me n x h = ap (λ (s : Core). s.views.me) h.core

  pub is_same : (k : ℕ) (n : NodeView C) (x : world.Node) → NodeStands script said n x → is_node k x ≡ is_me k n
  unfolding is_node
  is_same k n x h = ap (λ m. m == k) (sym (same_me n x h))

  pub stands_missing : (k : ℕ) (ns : List (NodeView C)) (xs : List world.Node) → NodesStand script said ns xs → place_where (is_me k) ns ≡ None → find (is_node k) xs ≡ None
  stands_missing k [] [] h e = refl
  stands_missing k [] (x ∷ xs) h e = absurd h
  stands_missing k (n ∷ ns) [] h e = absurd h
  stands_missing k (n ∷ ns) (x ∷ xs) h e = rw (is_same k n x h.0) (missing_head (is_me k n) (place_where (is_me k) ns) x (find (is_node k) xs) (stands_missing k ns xs h.1) e)

  at_head : (k : ℕ) (t : Bool) (o : Option ℕ) (n : NodeView C) (ns : List (NodeView C)) (x : world.Node) (xs : List world.Node) (d : NodeView C) → NodeStands script said n x → is_me k n ≡ t
      → ((j : ℕ) → o ≡ Some j → StandsAt script said k (get_or ns j d) xs) → (i : ℕ) → cond t (Some 0) (option_map suc o) ≡ Some i → StandsAt script said k (get_or (n ∷ ns) i d) (x ∷ xs)
  at_head k true o n ns x xs d h p ih i e =
      let z : i ≡ 0 = cc in
      let me : x.core.views.me ≡ k = sym (same_me n x h) ∙ eqb-true n.core.views.me k p in
      rw z (record { node = x; found = rw (is_same k n x h, p) refl; stands = h; me = me })
  at_head k false None n ns x xs d h p ih i e = absurd cc
  at_head k false (Some j) n ns x xs d h p ih i e =
      let s : i ≡ suc j = cc in
      let rest : StandsAt script said k (get_or ns j d) xs = ih j refl in
      rw s (record { node = rest.node; found = rw (is_same k n x h, p) rest.found; stands = rest.stands; me = rest.me })

  pub stands_at : (k : ℕ) (ns : List (NodeView C)) (xs : List world.Node) (i : ℕ) (d : NodeView C) → NodesStand script said ns xs → place_where (is_me k) ns ≡ Some i → StandsAt script said k (get_or ns i d) xs
  stands_at k [] xs i d h e = absurd cc
  stands_at k (n ∷ ns) [] i d h e = absurd h
  stands_at k (n ∷ ns) (x ∷ xs) i d h e = at_head k (is_me k n) (place_where (is_me k) ns) n ns x xs d h.0 refl (λ j q. stands_at k ns xs j d h.1 q) i e

  at_first : (k : ℕ) (t : Bool) (o : Option (NodeView C)) (m n : NodeView C) (y : world.Node) (ys : List world.Node) → NodeStands script said m y → is_me k m ≡ t → (o ≡ Some n → StandsAt script said k n ys) → cond t (Some m) o ≡ Some n → StandsAt script said k n (y ∷ ys)
  at_first k true o m n y ys h p ih e =
      let same : m ≡ n = cc in
      rw (← same) (record { node = y; found = rw (is_same k m y h, p) refl; stands = h; me = sym (same_me m y h) ∙ eqb-true m.core.views.me k p })
  at_first k false o m n y ys h p ih e = let rest : StandsAt script said k n ys = ih e in record { node = rest.node; found = rw (is_same k m y h, p) rest.found; stands = rest.stands; me = rest.me }

  -- the node of a number, and the one that it stands for
  pub stands_first : (k : ℕ) (ns : List (NodeView C)) (xs : List world.Node) (n : NodeView C) → NodesStand script said ns xs → find (is_me k) ns ≡ Some n → StandsAt script said k n xs
  stands_first k [] xs n h e = absurd cc
  stands_first k (m ∷ ns) [] n h e = absurd h
  stands_first k (m ∷ ns) (y ∷ ys) n h e = at_first k (is_me k m) (find (is_me k) ns) m n y ys h.0 refl (stands_first k ns ys n h.1) e

  set_head : (k : ℕ) (t : Bool) (o : Option ℕ) (m n : NodeView C) (ns : List (NodeView C)) (x y : world.Node) (xs : List world.Node) → NodeStands script said n x → NodeStands script said m y → NodesStand script said ns xs
      → ((j : ℕ) → o ≡ Some j → NodesStand script said (set ns j n) (nodes_with x xs)) → (i : ℕ) → cond t (Some 0) (option_map suc o) ≡ Some i → NodesStand script said (set (m ∷ ns) i n) (elim t [ true ↦ x ∷ xs | false ↦ y ∷ nodes_with x xs ])
  set_head k true o m n ns x y xs s h rest ih i e = let z : i ≡ 0 = cc in rw z (s, rest)
  set_head k false None m n ns x y xs s h rest ih i e = absurd cc
  set_head k false (Some j) m n ns x y xs s h rest ih i e = let z : i ≡ suc j = cc in rw z (h, ih j refl)

  -- a node that goes on stays at its place
  pub stands_set : (k : ℕ) (ns : List (NodeView C)) (xs : List world.Node) (i : ℕ) (n : NodeView C) (x : world.Node)
      → NodesStand script said ns xs → place_where (is_me k) ns ≡ Some i → NodeStands script said n x → x.core.views.me ≡ k → NodesStand script said (set ns i n) (nodes_with x xs)
  unfolding nodes_with
  stands_set k [] xs i n x h e s me = absurd cc
  stands_set k (m ∷ ns) [] i n x h e s me = absurd h
  stands_set k (m ∷ ns) (y ∷ xs) i n x h e s me =
      let test : (y.core.views.me == x.core.views.me) ≡ is_me k m = ap (λ z. y.core.views.me == z) me ∙ ap (λ z. z == k) (sym (same_me m y h.0)) in
      rw (test, nodes_with) (set_head k (is_me k m) (place_where (is_me k) ns) m n ns x y xs s h.0 h.1 (λ j q. stands_set k ns xs j n x h.1 q s me) i e)

  inserted_head : (t : Bool) (m n : NodeView C) (ns ms : List (NodeView C)) (x y : world.Node) (xs ys : List world.Node) → NodeStands script said n x → NodeStands script said m y → NodesStand script said ns xs → NodesStand script said ms ys
      → NodesStand script said (cond t (n ∷ m ∷ ns) (m ∷ ms)) (cond t (x ∷ y ∷ xs) (y ∷ ys))
  inserted_head true m n ns ms x y xs ys s h rest ih = (s, (h, rest))
  inserted_head false m n ns ms x y xs ys s h rest ih = (h, ih)

  -- a node that starts stands before those of greater numbers
  pub stands_inserted : (k : ℕ) (ns : List (NodeView C)) (xs : List world.Node) (n : NodeView C) (x : world.Node)
      → NodesStand script said ns xs → NodeStands script said n x → NodesStand script said (insert_before (comes_before k) n ns) (insert_before (node_before k) x xs)
  stands_inserted k [] [] n x h s = (s, tt)
  stands_inserted k [] (y ∷ xs) n x h s = absurd h
  stands_inserted k (m ∷ ns) [] n x h s = absurd h
  stands_inserted k (m ∷ ns) (y ∷ xs) n x h s =
      let test : node_before k y ≡ comes_before k m = ap (nat_lt k) (sym (same_me m y h.0)) in
      rw test (inserted_head (comes_before k m) m n ns (insert_before (comes_before k) n ns) x y xs (insert_before (node_before k) x xs) s h.0 h.1 (stands_inserted k ns xs n x h.1 s))

  -- a node at a place steps, with scripts of its clients that may be others than before
  pub steps_by : (a : Answering) (g : world.Node → List Script) (ns : List (NodeView C)) (k i : ℕ) (old new : NodeView C) (l : Left) (ev : NodeEvent) → Some i ≡ place_where (is_me k) ns → old ≡ get_or ns i old
      → ((x : world.Node) → NodeStands script said old x → StepDone script said a new l x (g x) ev)
      → (xs : List world.Node) → NodesStand script said ns xs → StepsNode script said a (set ns i new) k l (λ x. record x { scripts = g x }) ev xs
  steps_by a g ns k i old new l ev at here stepping xs h =
      let s : StandsAt script said k (get_or ns i old) xs = stands_at k ns xs i old h (sym at) in
      let x : world.Node = s.node in
      let t : StepDone script said a new l x (g x) ev = stepping x (subst (λ z. NodeStands script said z x) (sym here) s.stands) in
      record { node = x; found = s.found; stands = stands_set k ns xs i new _ h (sym at) t.left.stands (t.left.me ∙ s.me); sends = t.left.sends; records = t.left.records; worded = t.worded }

  pub steps_at : (ns : List (NodeView C)) (k i : ℕ) (old new : NodeView C) (l : Left) (ev : NodeEvent) → Some i ≡ place_where (is_me k) ns → old ≡ get_or ns i old → StepsAs script said old new l ev
      → StepsIn script said ns (set ns i new) k (Some l) (λ x. x) ev
  steps_at ns k i old new l ev at here stepping = (stepping.0, steps_by stepping.0 (λ x. x.scripts) ns k i old new l ev at here stepping.1)

  pub stands_nowhere : (ns : List (NodeView C)) (k : ℕ) → None ≡ place_where (is_me k) ns → (xs : List world.Node) → NodesStand script said ns xs → find (is_node k) xs ≡ None
  stands_nowhere ns k e xs h = stands_missing k ns xs h (sym e)

  -- ---- the node of a number

  found_head : (t : Bool) (n : NodeView C) (x : world.Node) (a : Option (NodeView C)) (b : Option world.Node) → is_some b ≡ is_some a → is_some (cond t (Some x) b) ≡ is_some (cond t (Some n) a)
  found_head true n x a b e = refl
  found_head false n x a b e = e

  pub stands_found : (k : ℕ) (ns : List (NodeView C)) (xs : List world.Node) → NodesStand script said ns xs → is_some (find (is_node k) xs) ≡ is_some (find (is_me k) ns)
  stands_found k [] [] h = refl
  stands_found k [] (x ∷ xs) h = absurd h
  stands_found k (n ∷ ns) [] h = absurd h
  stands_found k (n ∷ ns) (x ∷ xs) h = rw (is_same k n x h.0) (found_head (is_me k n) n x (find (is_me k) ns) (find (is_node k) xs) (stands_found k ns xs h.1))

  dropped_head : (k : ℕ) (t : Bool) (n : NodeView C) (ns ms : List (NodeView C)) (x : world.Node) (xs ys : List world.Node) → NodeStands script said n x → NodesStand script said ns xs → NodesStand script said ms ys
      → NodesStand script said (elim t [ true ↦ ns | false ↦ n ∷ ms ]) (elim t [ true ↦ xs | false ↦ x ∷ ys ])
  dropped_head k true n ns ms x xs ys h rest ih = rest
  dropped_head k false n ns ms x xs ys h rest ih = (h, ih)

  pub stands_dropped : (k : ℕ) (ns : List (NodeView C)) (xs : List world.Node) → NodesStand script said ns xs → NodesStand script said (drop_where (is_me k) ns) (drop_where (is_node k) xs)
  stands_dropped k [] [] h = tt
  stands_dropped k [] (x ∷ xs) h = absurd h
  stands_dropped k (n ∷ ns) [] h = absurd h
  stands_dropped k (n ∷ ns) (x ∷ xs) h = rw (is_same k n x h.0, drop_where) (dropped_head k (is_me k n) n ns (drop_where (is_me k) ns) x xs (drop_where (is_node k) xs) h.0 h.1 (stands_dropped k ns xs h.1))
