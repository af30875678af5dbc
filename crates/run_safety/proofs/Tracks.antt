-- What one record changes of what the records say.
use Rattle.std.proofs.Common.{refl, Some, ◌≡◌, ℕ, ◌+◌, ◌⊎◌, List, [], ◌∷◌, ◌++◌, length, Bool, true, false, sym, ap, ◌∙◌, subst, inl, inr, arith, length-append, append_assoc}
use Rattle.std.specs.Prelude.{◌&&◌, not, ◌==◌, if◌then◌else◌, slice_get}
use Rattle.std.proofs.lemmas.Bool.{eqb-true}
use Rattle.std.proofs.lemmas.Bool.Decides.{nat_tests}
use Rattle.std.proofs.lemmas.List.{append-nil}
use Rattle.rsct_packet.specs.declared.ids.ViewId.{ViewId}
use Rattle.rsct_packet.specs.declared.ids.Member.{Member}
use Rattle.proposal_core.specs.declared.entry.Entry.{Entry}
use Rattle.rsct_packet.specs.Search.{Has}
use Rattle.run_safety.specs.ViewOrder.{is_same}
use Rattle.run_safety.specs.Group.{Record, In, Put, Begins, puts_from}
use Rattle.run_safety.specs.GroupLists.{Rises, puts_of, held_by, held, InOrder, From}
use Rattle.run_safety.proofs.Order.{le_antisym, eq_true, eq_same}
use Rattle.run_safety.proofs.Prefix.{IsPrefix, prefix_get, at_end}

-- the node or the view is another
abbrev pub Other : ℕ → ViewId → ℕ → ViewId → Type 0
Other n u m v = (m ≡ n) × (v ≡ u) → ⊥

other_test : (n m : ℕ) (u v : ViewId) (c : Bool) → Other n u m v → (m == n && (is_same v u && c)) ≡ false
other_test n m u v c o = by (m == n) (is_same v u) refl refl
  where
    by : (a b : Bool) → (m == n) ≡ a → is_same v u ≡ b → (a && (b && c)) ≡ false
    by true true e f = absurd (o (eqb-true m n e, eq_true v u f))
    by true false e f = refl
    by false b e f = refl

other_test2 : (n m : ℕ) (u v : ViewId) → Other n u m v → (m == n && is_same v u) ≡ false
other_test2 n m u v o = by (m == n) (is_same v u) refl refl
  where
    by : (a b : Bool) → (m == n) ≡ a → is_same v u ≡ b → (a && b) ≡ false
    by true true e f = absurd (o (eqb-true m n e, eq_true v u f))
    by true false e f = refl
    by false b e f = refl

own_test : (n : ℕ) (u : ViewId) (c : Bool) → (n == n && (is_same u u && c)) ≡ c
own_test n u c = let e : is_same u u ≡ true = eq_same u in grind (arith, nat_tests)

own_test2 : (n : ℕ) (u : ViewId) → (n == n && is_same u u) ≡ true
own_test2 n u = let e : is_same u u ≡ true = eq_same u in grind (arith, nat_tests)

pub puts_other : (n m : ℕ) (u v : ViewId) (i : ℕ) (e : Entry) (tr : List Record) → Other n u m v → puts_of n u (Put m v i e ∷ tr) ≡ puts_of n u tr
puts_other n m u v i e tr o = ap (λ b. if b then puts_of n u tr ++ e ∷ [] else puts_of n u tr) (other_test2 n m u v o)

pub puts_own : (n : ℕ) (u : ViewId) (i : ℕ) (e : Entry) (tr : List Record) → puts_of n u (Put n u i e ∷ tr) ≡ puts_of n u tr ++ e ∷ []
puts_own n u i e tr = ap (λ b. if b then puts_of n u tr ++ e ∷ [] else puts_of n u tr) (own_test2 n u)

pub held_other : (n m : ℕ) (u v : ViewId) (l : Bool) (i : ℕ) (e : Entry) (tr : List Record) → Other n u m v → held_by n u l (Put m v i e ∷ tr) ≡ held_by n u l tr
held_other n m u v l i e tr o = ap (λ b. if b then held_by n u l tr + 1 else held_by n u l tr) (other_test n m u v (not l) o)

pub held_own : (n : ℕ) (u : ViewId) (i : ℕ) (e : Entry) (tr : List Record) → held n u (Put n u i e ∷ tr) ≡ held n u tr + 1
held_own n u i e tr = ap (λ b. if b then held n u tr + 1 else held n u tr) (own_test n u true)

pub held_left : (n m : ℕ) (u v : ViewId) (i : ℕ) (e : Entry) (tr : List Record) → held_by n u true (Put m v i e ∷ tr) ≡ held_by n u true tr
held_left n m u v i e tr = ap (λ b. if b then held_by n u true tr + 1 else held_by n u true tr) (none (m == n) (is_same v u))
  where
    none : (a b : Bool) → (a && (b && false)) ≡ false
    none true true = refl
    none true false = refl
    none false b = refl

pub held_in_other : (n m j : ℕ) (u v : ViewId) (l : Bool) (ms : List Member) (tr : List Record) → (m ≡ n → ⊥) → held_by n u l (In m j v ms ∷ tr) ≡ held_by n u l tr
held_in_other n m j u v l ms tr ne = grind (arith, nat_tests)

pub held_in_own : (n j : ℕ) (u v : ViewId) (l : Bool) (ms : List Member) (tr : List Record) → held_by n u l (In n j v ms ∷ tr) ≡ held_by n u true tr
held_in_own n j u v l ms tr = grind (arith, nat_tests)

-- many puts in a row
pub puts_many_other : (n m : ℕ) (u v : ViewId) (i : ℕ) (es : List Entry) (tr : List Record) → Other n u m v → puts_of n u (puts_from m v i es tr) ≡ puts_of n u tr
puts_many_other n m u v i [] tr o = refl
puts_many_other n m u v i (e ∷ es) tr o = puts_many_other n m u v (i + 1) es (Put m v i e ∷ tr) o ∙ puts_other n m u v i e tr o

pub puts_many_own : (n : ℕ) (u : ViewId) (i : ℕ) (es : List Entry) (tr : List Record) → puts_of n u (puts_from n u i es tr) ≡ puts_of n u tr ++ es
puts_many_own n u i [] tr = sym (append-nil (puts_of n u tr))
puts_many_own n u i (e ∷ es) tr =
    puts_many_own n u (i + 1) es (Put n u i e ∷ tr) ∙ ap (λ l. l ++ es) (puts_own n u i e tr) ∙ append_assoc (puts_of n u tr) (e ∷ []) es

pub held_many_other : (n m : ℕ) (u v : ViewId) (l : Bool) (i : ℕ) (es : List Entry) (tr : List Record) → Other n u m v → held_by n u l (puts_from m v i es tr) ≡ held_by n u l tr
held_many_other n m u v l i [] tr o = refl
held_many_other n m u v l i (e ∷ es) tr o = held_many_other n m u v l (i + 1) es (Put m v i e ∷ tr) o ∙ held_other n m u v l i e tr o

pub held_many_left : (n m : ℕ) (u v : ViewId) (i : ℕ) (es : List Entry) (tr : List Record) → held_by n u true (puts_from m v i es tr) ≡ held_by n u true tr
held_many_left n m u v i [] tr = refl
held_many_left n m u v i (e ∷ es) tr = held_many_left n m u v (i + 1) es (Put m v i e ∷ tr) ∙ held_left n m u v i e tr

pub order_many : (n : ℕ) (u : ViewId) (i : ℕ) (es : List Entry) (tr : List Record) → i ≡ length (puts_of n u tr) → InOrder tr → InOrder (puts_from n u i es tr)
order_many n u i [] tr e h = h
order_many n u i (x ∷ es) tr e h =
    let e' : i + 1 ≡ length (puts_of n u (Put n u i x ∷ tr)) = ap (λ k. k + 1) e ∙ sym (length-append (puts_of n u tr) (x ∷ [])) ∙ ap length (sym (puts_own n u i x tr)) in
    order_many n u (i + 1) es (Put n u i x ∷ tr) e' (e, h)

-- puts enter never view
pub was_many : (n m j : ℕ) (u v : ViewId) (ms : List Member) (i : ℕ) (es : List Entry) (tr : List Record) → Has (In n j u ms) (puts_from m v i es tr) → Has (In n j u ms) tr
was_many n m j u v ms i [] tr h = h
was_many n m j u v ms i (e ∷ es) tr h = at (was_many n m j u v ms (i + 1) es (Put m v i e ∷ tr) h)
  where
    at : Has (In n j u ms) (Put m v i e ∷ tr) → Has (In n j u ms) tr
    at (inl q) = absurd (cc)
    at (inr h) = h

pub has_many : (r : Record) (m : ℕ) (v : ViewId) (i : ℕ) (es : List Entry) (tr : List Record) → Has r tr → Has r (puts_from m v i es tr)
has_many r m v i [] tr h = h
has_many r m v i (e ∷ es) tr h = has_many r m v (i + 1) es (Put m v i e ∷ tr) (inr h)

-- a node that put something in a view
pub put_many : (n m : ℕ) (u v : ViewId) (k : ℕ) (e : Entry) (i : ℕ) (es : List Entry) (tr : List Record) → Has (Put n u k e) (puts_from m v i es tr) → Has (Put n u k e) tr ⊎ ((m ≡ n) × (v ≡ u))
put_many n m u v k e i [] tr h = inl h
put_many n m u v k e i (x ∷ es) tr h = at (put_many n m u v k e (i + 1) es (Put m v i x ∷ tr) h)
  where
    at : Has (Put n u k e) (Put m v i x ∷ tr) ⊎ ((m ≡ n) × (v ≡ u)) → Has (Put n u k e) tr ⊎ ((m ≡ n) × (v ≡ u))
    at (inl (inl q)) = let a : m ≡ n = cc in let b : v ≡ u = cc in inr (a, b)
    at (inl (inr h)) = inl h
    at (inr b) = inr b

-- who put nothing has never list, and held nothing
pub puts_none : (n : ℕ) (u : ViewId) (tr : List Record) → ((k : ℕ) (e : Entry) → Has (Put n u k e) tr → ⊥) → puts_of n u tr ≡ []
puts_none n u [] never = refl
puts_none n u (In m j v ms ∷ tr) never = puts_none n u tr (λ k e h. never k e (inr h))
puts_none n u (Begins ∷ tr) never = puts_none n u tr (λ k e h. never k e (inr h))
puts_none n u (Put m v i e ∷ tr) never =
    puts_other n m u v i e tr (λ q. never i e (inl (λ z. Put (sym q.0 z) (sym q.1 z) i e))) ∙ puts_none n u tr (λ k e h. never k e (inr h))

pub held_none : (n : ℕ) (u : ViewId) (l : Bool) (tr : List Record) → ((k : ℕ) (e : Entry) → Has (Put n u k e) tr → ⊥) → held_by n u l tr ≡ 0
held_none n u l [] never = refl
held_none n u l (In m j v ms ∷ tr) never = by (m == n) (held_none n u true tr (λ k e h. never k e (inr h))) (held_none n u l tr (λ k e h. never k e (inr h)))
  where
    by : (b : Bool) → held_by n u true tr ≡ 0 → held_by n u l tr ≡ 0 → (if b then held_by n u true tr else held_by n u l tr) ≡ 0
    by true p q = p
    by false p q = q
held_none n u l (Begins ∷ tr) never = held_none n u false tr (λ k e h. never k e (inr h))
held_none n u l (Put m v i e ∷ tr) never =
    held_other n m u v l i e tr (λ q. never i e (inl (λ z. Put (sym q.0 z) (sym q.1 z) i e))) ∙ held_none n u l tr (λ k e h. never k e (inr h))

-- there is one view that a node came from
pub from_one : (tr : List Record) (n j : ℕ) (v u t : ViewId) → From tr n j v u → From tr n j v t → u ≡ t
from_one tr n j v u t f g = le_antisym u t (g.last u f.was f.less) (f.last t g.was g.less)

pub rises_puts : (n : ℕ) (v : ViewId) (i : ℕ) (es : List Entry) (tr : List Record) → Rises tr → Rises (puts_from n v i es tr)
rises_puts n v i [] tr h = h
rises_puts n v i (e ∷ es) tr h = rises_puts n v (i + 1) es (Put n v i e ∷ tr) h

-- what holds of the records before and of each entry that is put
pub records_puts : (P : Record → Type 0) (n : ℕ) (v : ViewId) (log xs es : List Entry) (i : ℕ) (tr : List Record) → i ≡ length xs → IsPrefix (xs ++ es) log → ((k : ℕ) (e : Entry) → slice_get log k ≡ Some e → P (Put n v k e)) → ((r : Record) → Has r tr → P r) → (r : Record) → Has r (puts_from n v i es tr) → P r
records_puts P n v log xs [] i tr l p put h r at = h r at
records_puts P n v log xs (e ∷ es) i tr l p put h r at =
    let here : slice_get log i ≡ Some e = prefix_get (xs ++ e ∷ es) log p i e (rw l (at_end xs e es)) in
    let p' : IsPrefix ((xs ++ e ∷ []) ++ es) log = rw append_assoc p in
    let l' : i + 1 ≡ length (xs ++ e ∷ []) = rw length-append (rw l refl) in
    records_puts P n v log (xs ++ e ∷ []) es (i + 1) (Put n v i e ∷ tr) l' p' put (λ q. λ (w : Has q (Put n v i e ∷ tr)). both q w here) r at
  where
    both : (q : Record) → Has q (Put n v i e ∷ tr) → slice_get log i ≡ Some e → P q
    both q (inl s) here = subst P (sym s) (put i e here)
    both q (inr s) here = h q s
