-- The logs of the clients of nodes, in the order of their numbers.
use Rattle.std.proofs.Common.{◌≡◌, ℕ, suc, Bool, true, false, cond, ◌==◌, List, [], ◌∷◌, set, get_or, Option, Some, None, refl, sym, ap, ◌∙◌}
use Rattle.std.specs.Prelude.{nat_lt}
use Rattle.std.specs.Option.{option_map}
use Rattle.std.proofs.lemmas.Bool.{eqb-true}
use Rattle.rsct_packet.specs.Lists.{drop_where}
use Rattle.rsct_packet.specs.Search.{place_where, insert_before}
use Rattle.client_callbacks.specs.Handed.{Handed}
use Rattle.node_state.specs.Handed.{Logged}
use Rattle.entry_delivery.specs.Received.{WereHanded}
use Rattle.node_core.specs.Node.{NodeView}
use Rattle.net_script.specs.Standing.{is_me, comes_before}
use Rattle.run_hands.specs.Hands.{ClientLogs, Logs, is_log, logs_of, logs_with, LogsStand, logs_begun}

module _ {C : Type 0} (R : C → List Handed → Type 0) where
  -- the same number
  is_same : (k : ℕ) (n : NodeView C) (x : ClientLogs) → x.node ≡ n.core.views.me → is_log k x ≡ is_me k n
  is_same k n x e = ap (λ m. m == k) e

  -- ---- the logs of one node

  at_head : (k : ℕ) (t : Bool) (o : Option ℕ) (n : NodeView C) (ns : List (NodeView C)) (x : ClientLogs) (xs : Logs) (d : NodeView C) → WereHanded R n.clients x.logs → is_log k x ≡ t
      → ((j : ℕ) → o ≡ Some j → WereHanded R (get_or ns j d).clients (logs_of k xs)) → (i : ℕ) → cond t (Some 0) (option_map suc o) ≡ Some i → WereHanded R (get_or (n ∷ ns) i d).clients (logs_of k (x ∷ xs))
  at_head k true o n ns x xs d h p ih i e = let z : i ≡ 0 = cc in rw (z, p) h
  at_head k false None n ns x xs d h p ih i e = absurd cc
  at_head k false (Some j) n ns x xs d h p ih i e = let s : i ≡ suc j = cc in rw (s, p) (ih j refl)

  pub logs_at : (k : ℕ) (ns : List (NodeView C)) (xs : Logs) (i : ℕ) (d : NodeView C) → LogsStand R ns xs → place_where (is_me k) ns ≡ Some i → WereHanded R (get_or ns i d).clients (logs_of k xs)
  logs_at k [] xs i d h e = absurd cc
  logs_at k (n ∷ ns) [] i d h e = absurd h
  logs_at k (n ∷ ns) (x ∷ xs) i d h e = at_head k (is_me k n) (place_where (is_me k) ns) n ns x xs d h.1 (is_same k n x h.0) (λ j q. logs_at k ns xs j d h.2 q) i e

  set_head : (k : ℕ) (t : Bool) (o : Option ℕ) (m n : NodeView C) (ns : List (NodeView C)) (x : ClientLogs) (xs : Logs) (ls : List (List Logged)) → m.core.views.me ≡ k → is_log k x ≡ t
      → (x.node ≡ n.core.views.me) × WereHanded R n.clients x.logs → WereHanded R m.clients ls → LogsStand R ns xs → ((j : ℕ) → o ≡ Some j → LogsStand R (set ns j m) (logs_with k ls xs))
      → (i : ℕ) → cond t (Some 0) (option_map suc o) ≡ Some i → LogsStand R (set (n ∷ ns) i m) (logs_with k ls (x ∷ xs))
  set_head k true o m n ns x xs ls me p h were rest ih i e = let z : i ≡ 0 = cc in rw (z, p, logs_with) (eqb-true x.node k p ∙ sym me, were, rest)
  set_head k false None m n ns x xs ls me p h were rest ih i e = absurd cc
  set_head k false (Some j) m n ns x xs ls me p h were rest ih i e = let s : i ≡ suc j = cc in rw (s, p, logs_with) (h.0, h.1, ih j refl)

  -- a node that goes on stays at its place
  pub logs_set : (k : ℕ) (ns : List (NodeView C)) (xs : Logs) (i : ℕ) (m : NodeView C) (ls : List (List Logged))
      → LogsStand R ns xs → place_where (is_me k) ns ≡ Some i → m.core.views.me ≡ k → WereHanded R m.clients ls → LogsStand R (set ns i m) (logs_with k ls xs)
  logs_set k [] xs i m ls h e me were = absurd cc
  logs_set k (n ∷ ns) [] i m ls h e me were = absurd h
  logs_set k (n ∷ ns) (x ∷ xs) i m ls h e me were =
      set_head k (is_me k n) (place_where (is_me k) ns) m n ns x xs ls me (is_same k n x h.0) (h.0, h.1) were h.2 (λ j q. logs_set k ns xs j m ls h.2 q me were) i e

  -- ---- nodes that come and go

  inserted_head : (t : Bool) (m n : NodeView C) (ns ms : List (NodeView C)) (x y : ClientLogs) (xs ys : Logs) → (x.node ≡ n.core.views.me) × WereHanded R n.clients x.logs → (y.node ≡ m.core.views.me) × WereHanded R m.clients y.logs → LogsStand R ns xs → LogsStand R ms ys
      → LogsStand R (cond t (n ∷ m ∷ ns) (m ∷ ms)) (cond t (x ∷ y ∷ xs) (y ∷ ys))
  inserted_head true m n ns ms x y xs ys s h rest ih = (s.0, s.1, (h.0, h.1, rest))
  inserted_head false m n ns ms x y xs ys s h rest ih = (h.0, h.1, ih)

  -- a node that starts, with no client, stands before those of greater numbers
  pub logs_inserted : (k : ℕ) (ns : List (NodeView C)) (xs : Logs) (n : NodeView C) → LogsStand R ns xs → k ≡ n.core.views.me → n.clients ≡ [] → LogsStand R (insert_before (comes_before k) n ns) (logs_begun k xs)
  logs_inserted k ns xs n h me none = by ns xs h
    where
      new : ClientLogs
      new = record { node = k; logs = [] }

      stands : (k ≡ n.core.views.me) × WereHanded R n.clients []
      stands = (me, rw none (record { stand = tt; logs = tt }))

      by : (ms : List (NodeView C)) (ys : Logs) → LogsStand R ms ys → LogsStand R (insert_before (comes_before k) n ms) (logs_begun k ys)
      by [] [] g = (stands.0, stands.1, tt)
      by [] (y ∷ ys) g = absurd g
      by (m ∷ ms) [] g = absurd g
      by (m ∷ ms) (y ∷ ys) g =
          let test : nat_lt k y.node ≡ comes_before k m = ap (nat_lt k) g.0 in
          rw test (inserted_head (comes_before k m) m n ms (insert_before (comes_before k) n ms) new y ys (logs_begun k ys) stands (g.0, g.1) g.2 (by ms ys g.2))

  dropped_head : (t : Bool) (n : NodeView C) (ns ms : List (NodeView C)) (x : ClientLogs) (xs ys : Logs) → (x.node ≡ n.core.views.me) × WereHanded R n.clients x.logs → LogsStand R ns xs → LogsStand R ms ys
      → LogsStand R (elim t [ true ↦ ns | false ↦ n ∷ ms ]) (elim t [ true ↦ xs | false ↦ x ∷ ys ])
  dropped_head true n ns ms x xs ys h rest ih = rest
  dropped_head false n ns ms x xs ys h rest ih = (h.0, h.1, ih)

  -- a node that stops takes its logs away
  pub logs_dropped : (k : ℕ) (ns : List (NodeView C)) (xs : Logs) → LogsStand R ns xs → LogsStand R (drop_where (is_me k) ns) (drop_where (is_log k) xs)
  logs_dropped k [] [] h = tt
  logs_dropped k [] (x ∷ xs) h = absurd h
  logs_dropped k (n ∷ ns) [] h = absurd h
  logs_dropped k (n ∷ ns) (x ∷ xs) h = rw (is_same k n x h.0, drop_where) (dropped_head (is_me k n) n ns (drop_where (is_me k) ns) x xs (drop_where (is_log k) xs) (h.0, h.1) h.2 (logs_dropped k ns xs h.2))
