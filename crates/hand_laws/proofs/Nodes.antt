-- The nodes of a world and their logs, side by side.
use Rattle.std.proofs.Common.{◌≡◌, ◌⊎◌, inl, inr, ℕ, Bool, true, false, List, [], ◌∷◌, Option, Some, None, refl, sym, ap, subst, ◌∙◌}
use Rattle.std.specs.Prelude.{◌==◌, find, is_none, nat_lt, if◌then◌else◌}
use Rattle.std.proofs.lemmas.Bool.{eqb-true, eq-eqb}
use Rattle.rsct_packet.specs.Lists.{drop_where}
use Rattle.rsct_packet.specs.Search.{Has, insert_before}
use Rattle.rsct_packet.proofs.HasLaws.{find_none}
use Rattle.node_state.specs.declared.state.Core.{Core}
use Rattle.node_state.specs.Handed.{Logged}
use Rattle.world_model.specs.World.{Node, is_node, nodes_with}
use Rattle.world_safety.specs.Mirrors.{Once}
use Rattle.run_hands.specs.Hands.{ClientLogs, Logs, is_log, logs_in, logs_of, logs_with, logs_begun}
use Rattle.run_hands.specs.Logs.{OfEach, OfLogs}

-- each node has its logs, and Q holds of both
abbrev pub AllNodes : (Core → List (List Logged) → Type 0) → List Node → Logs → Type 0
AllNodes Q [] [] = Unit {0}
AllNodes Q [] (l ∷ ls) = ⊥
AllNodes Q (x ∷ xs) [] = ⊥
AllNodes Q (x ∷ xs) (l ∷ ls) = (l.node ≡ x.core.views.me) × Q x.core l.logs × AllNodes Q xs ls

abbrev pub Found : ℕ → Logs → List (List Logged) → Type 0
Found n ls logs = (l : ClientLogs) × (find (is_log n) ls ≡ Some l) × (l.logs ≡ logs)

pub found : (Q : Core → List (List Logged) → Type 0) (n : ℕ) (x : Node) (xs : List Node) (ls : Logs) → AllNodes Q xs ls → find (is_node n) xs ≡ Some x → Q x.core (logs_of n ls) × Found n ls (logs_of n ls)
unfolding is_node
found Q n x [] ls k e = absurd (cc)
found Q n x (y ∷ xs) [] k e = absurd k
found Q n x (y ∷ xs) (l ∷ ls) k e = by (λ z. found Q n x xs ls k.2 z) (y.core.views.me == n) refl e
  where
    Here : Option ClientLogs → Type 0
    Here o = Q x.core (logs_in o) × ((m : ClientLogs) × (o ≡ Some m) × (m.logs ≡ logs_in o))

    by : (find (λ (z : Node). z.core.views.me == n) xs ≡ Some x → Here (find (is_log n) ls)) → (b : Bool) → (y.core.views.me == n) ≡ b → (if b then Some y else find (λ (z : Node). z.core.views.me == n) xs) ≡ Some x → Here (if l.node == n then Some l else find (is_log n) ls)
    by rest true t z =
        let same : y ≡ x = cc in
        let own : (l.node == n) ≡ true = ap (λ m. m == n) k.0 ∙ t in
        subst (λ b. Here (if b then Some l else find (is_log n) ls)) (sym own) (subst (λ (w : Node). Q w.core l.logs) same k.1, (l, refl, refl))
    by rest false t z =
        let other : (l.node == n) ≡ false = ap (λ m. m == n) k.0 ∙ t in
        subst (λ b. Here (if b then Some l else find (is_log n) ls)) (sym other) (rest z)

-- the logs of that node are found as they were changed
pub found_with : (n : ℕ) (new old : List (List Logged)) (ls : Logs) → Found n ls old → Found n (logs_with n new ls) new
found_with n new old [] k = absurd (let e = k.1 in cc)
found_with n new old (x ∷ ls) k = by (λ z. found_with n new old ls z) (is_log n x) refl k.1
  where
    by : (Found n ls old → Found n (logs_with n new ls) new) → (b : Bool) → is_log n x ≡ b → (if b then Some x else find (is_log n) ls) ≡ Some k.0 → Found n (elim b as (λ _. Logs) [ true ↦ record x { logs = new } ∷ ls | false ↦ x ∷ logs_with n new ls ]) new
    by rest true t z = (record x { logs = new }, ap (λ b. if b then Some (record x { logs = new }) else find (is_log n) ls) t, refl)
    by rest false t z = let r = rest (k.0, z, k.2) in (r.0, ap (λ b. if b then Some x else find (is_log n) (logs_with n new ls)) t ∙ r.1, r.2)

-- each node on
pub nodes_on : (Q W : Core → List (List Logged) → Type 0) (xs : List Node) (ls : Logs) → ((x : Node) → Has x xs → (logs : List (List Logged)) → Q x.core logs → W x.core logs) → AllNodes Q xs ls → AllNodes W xs ls
nodes_on Q W [] [] on k = tt
nodes_on Q W [] (l ∷ ls) on k = k
nodes_on Q W (x ∷ xs) [] on k = k
nodes_on Q W (x ∷ xs) (l ∷ ls) on k = (k.0, on x (inl refl) l.logs k.1, nodes_on Q W xs ls (λ y i. on y (inr i)) k.2)

none_there : (n : ℕ) (xs : List Node) (z : Node) → find (is_node n) xs ≡ None → Has z xs → z.core.views.me ≡ n → ⊥
unfolding is_node
none_there n xs z e h same = find_none (is_node n) xs z (ap is_none e) h (eq-eqb z.core.views.me n same)

-- one node changed, and the others on
pub nodes_changed : (Q W : Core → List (List Logged) → Type 0) (n : ℕ) (y : Node) (new : List (List Logged)) → y.core.views.me ≡ n → W y.core new → (xs : List Node) (ls : Logs) → Once xs → ((x : Node) → Has x xs → (x.core.views.me ≡ n → ⊥) → (logs : List (List Logged)) → Q x.core logs → W x.core logs) → AllNodes Q xs ls → AllNodes W (nodes_with y xs) (logs_with n new ls)
unfolding nodes_with
nodes_changed Q W n y new me own [] [] once on k = tt
nodes_changed Q W n y new me own [] (l ∷ ls) once on k = absurd k
nodes_changed Q W n y new me own (x ∷ xs) [] once on k = absurd k
nodes_changed Q W n y new me own (x ∷ xs) (l ∷ ls) once on k =
    by (nodes_changed Q W n y new me own xs ls once.1 (λ z i. on z (inr i)) k.2) (x.core.views.me == n) refl
  where
    all : AllNodes W (elim (x.core.views.me == n) as (λ _. List Node) [ true ↦ y ∷ xs | false ↦ x ∷ nodes_with y xs ]) (elim (l.node == n) as (λ _. Logs) [ true ↦ record l { logs = new } ∷ ls | false ↦ l ∷ logs_with n new ls ]) → AllNodes W (nodes_with y (x ∷ xs)) (logs_with n new (l ∷ ls))
    all = subst (λ m. AllNodes W (elim (x.core.views.me == m) as (λ _. List Node) [ true ↦ y ∷ xs | false ↦ x ∷ nodes_with y xs ]) (elim (l.node == n) as (λ _. Logs) [ true ↦ record l { logs = new } ∷ ls | false ↦ l ∷ logs_with n new ls ])) (sym me)

    by : AllNodes W (nodes_with y xs) (logs_with n new ls) → (b : Bool) → (x.core.views.me == n) ≡ b → AllNodes W (nodes_with y (x ∷ xs)) (logs_with n new (l ∷ ls))
    by rest b t = all (subst (λ (z : Bool × Bool). AllNodes W (elim z.0 as (λ _. List Node) [ true ↦ y ∷ xs | false ↦ x ∷ nodes_with y xs ]) (elim z.1 as (λ _. Logs) [ true ↦ record l { logs = new } ∷ ls | false ↦ l ∷ logs_with n new ls ])) (λ i. (sym t i, sym (ap (λ m. m == n) k.0 ∙ t) i)) (at b t))
      where
        at : (b : Bool) → (x.core.views.me == n) ≡ b → AllNodes W (elim b as (λ _. List Node) [ true ↦ y ∷ xs | false ↦ x ∷ nodes_with y xs ]) (elim b as (λ _. Logs) [ true ↦ record l { logs = new } ∷ ls | false ↦ l ∷ logs_with n new ls ])
        at true t =
            let own_me : x.core.views.me ≡ n = eqb-true x.core.views.me n t in
            (k.0 ∙ own_me ∙ sym me, own, nodes_on Q W xs ls (λ z i. on z (inr i) (λ q. none_there x.core.views.me xs z once.0 i (q ∙ sym own_me))) k.2)
        at false t = (k.0, on x (inl refl) (λ q. let no : true ≡ false = sym (eq-eqb x.core.views.me n q) ∙ t in absurd (cc)) l.logs k.1, rest)

-- one node gone
pub nodes_dropped : (Q : Core → List (List Logged) → Type 0) (n : ℕ) (xs : List Node) (ls : Logs) → AllNodes Q xs ls → AllNodes Q (drop_where (is_node n) xs) (drop_where (is_log n) ls)
unfolding is_node
nodes_dropped Q n [] [] k = tt
nodes_dropped Q n [] (l ∷ ls) k = absurd k
nodes_dropped Q n (x ∷ xs) [] k = absurd k
nodes_dropped Q n (x ∷ xs) (l ∷ ls) k = same (by (nodes_dropped Q n xs ls k.2) (x.core.views.me == n))
  where
    At : Bool → Bool → Type 0
    At a b = AllNodes Q (elim a as (λ _. List Node) [ true ↦ xs | false ↦ x ∷ drop_where (is_node n) xs ]) (elim b as (λ _. Logs) [ true ↦ ls | false ↦ l ∷ drop_where (is_log n) ls ])

    same : At (x.core.views.me == n) (x.core.views.me == n) → At (x.core.views.me == n) (l.node == n)
    same = subst (λ m. At (x.core.views.me == n) (m == n)) (sym k.0)

    by : AllNodes Q (drop_where (is_node n) xs) (drop_where (is_log n) ls) → (b : Bool) → At b b
    by rest true = k.2
    by rest false = (k.0, k.1, rest)

-- one node more
pub nodes_begun : (Q : Core → List (List Logged) → Type 0) (n : ℕ) (y : Node) → y.core.views.me ≡ n → Q y.core [] → (xs : List Node) (ls : Logs) → AllNodes Q xs ls → AllNodes Q (insert_before (λ (z : Node). nat_lt n z.core.views.me) y xs) (logs_begun n ls)
nodes_begun Q n y me own [] [] k = (sym me, own, tt)
nodes_begun Q n y me own [] (l ∷ ls) k = absurd k
nodes_begun Q n y me own (x ∷ xs) [] k = absurd k
nodes_begun Q n y me own (x ∷ xs) (l ∷ ls) k = same (by (nodes_begun Q n y me own xs ls k.2) (nat_lt n x.core.views.me))
  where
    At : Bool → Bool → Type 0
    At a b = AllNodes Q (if a then y ∷ x ∷ xs else x ∷ insert_before (λ (z : Node). nat_lt n z.core.views.me) y xs) (if b then record { node = n; logs = [] } ∷ l ∷ ls else l ∷ logs_begun n ls)

    same : At (nat_lt n x.core.views.me) (nat_lt n x.core.views.me) → At (nat_lt n x.core.views.me) (nat_lt n l.node)
    same = subst (λ m. At (nat_lt n x.core.views.me) (nat_lt n m)) (sym k.0)

    by : AllNodes Q (insert_before (λ (z : Node). nat_lt n z.core.views.me) y xs) (logs_begun n ls) → (b : Bool) → At b b
    by rest true = (sym me, own, k)
    by rest false = (k.0, k.1, rest)

-- what holds of the logs of each node holds of all logs
pub of_nodes : (P : List Logged → Type 0) (Q : Core → List (List Logged) → Type 0) → ((s : Core) (logs : List (List Logged)) → Q s logs → OfEach P logs) → (xs : List Node) (ls : Logs) → AllNodes Q xs ls → OfLogs P ls
of_nodes P Q of xs [] k = tt
of_nodes P Q of [] (l ∷ ls) k = absurd k
of_nodes P Q of (x ∷ xs) (l ∷ ls) k = (of x.core l.logs k.1, of_nodes P Q of xs ls k.2)

-- a node is found under its number
pub once_found : (xs : List Node) (z : Node) → Once xs → Has z xs → find (is_node z.core.views.me) xs ≡ Some z
unfolding is_node
once_found [] z once h = absurd h
once_found (x ∷ xs) z once h = by (λ i. once_found xs z once.1 i) h
  where
    by : (Has z xs → find (is_node z.core.views.me) xs ≡ Some z) → (z ≡ x) ⊎ Has z xs → (if x.core.views.me == z.core.views.me then Some x else find (is_node z.core.views.me) xs) ≡ Some z
    by rest (inl q) = ap (λ b. if b then Some x else find (is_node z.core.views.me) xs) (eq-eqb x.core.views.me z.core.views.me (ap (λ (w : Node). w.core.views.me) (sym q))) ∙ ap Some (sym q)
    by rest (inr i) = at (x.core.views.me == z.core.views.me) refl
      where
        at : (b : Bool) → (x.core.views.me == z.core.views.me) ≡ b → (if b then Some x else find (is_node z.core.views.me) xs) ≡ Some z
        at false t = rest i
        at true t = absurd (none_there x.core.views.me xs z once.0 i (sym (eqb-true x.core.views.me z.core.views.me t)))
