-- Facts of a life's older lines: what a later line sees.
use Rattle.std.proofs.Common.{refl, ◌≡◌, ℕ, ◌+◌, ◌≤◌, inl, inr, sym, ◌∙◌, subst, true, false, Bool, List, [], ◌∷◌, ◌++◌, length, Some, arith, length-append, append_assoc}
use Rattle.std.specs.Prelude.{◌==◌, ◌&&◌, not, slice_get, if◌then◌else◌}
use Rattle.rsct_packet.specs.declared.ids.Member.{Member}
use Rattle.rsct_packet.specs.declared.ids.ViewId.{ViewId}
use Rattle.rsct_packet.specs.Search.{Has}
use Rattle.proposal_core.specs.declared.entry.Entry.{Entry}
use Rattle.run_safety.specs.ViewOrder.{is_same, Lt, Le}
use Rattle.run_safety.specs.Group.{Record, In, Put, Begins, Line, Kept, Noted, kept, puts_from, lines_from}
use Rattle.run_safety.specs.GroupLists.{puts_of, held_by, InOrder, WasIn, From}
use Rattle.run_safety.specs.GroupLaws.{AskedFirst}
use Rattle.run_safety.proofs.Order.{lt_refl}
use Rattle.run_safety.proofs.Prefix.{prefix_get, prefix_push}
use Rattle.run_safety.proofs.Tracks.{puts_own}
use Rattle.run_laws.proofs.seen_runs.LineRules.{last_in}

-- ---- older lines

pub order_older : (newer older : List Line) → InOrder (kept (newer ++ older)) → InOrder (kept older)
order_older [] older h = h
order_older (Kept (In n j v ms) ∷ newer) older h = order_older newer older h
order_older (Kept (Put n v i e) ∷ newer) older h = order_older newer older h.1
order_older (Kept Begins ∷ newer) older h = order_older newer older h
order_older (Noted x ∷ newer) older h = order_older newer older h

pub asked_older : (newer older : List Line) → AskedFirst (newer ++ older) → AskedFirst older
asked_older [] older h = h
asked_older (Kept (In n j v ms) ∷ newer) older h = asked_older newer older h
asked_older (Kept (Put n v i e) ∷ newer) older h = asked_older newer older h.1
asked_older (Kept Begins ∷ newer) older h = asked_older newer older h
asked_older (Noted x ∷ newer) older h = asked_older newer older h

pub kept_older : (r : Record) (newer older : List Line) → Has r (kept older) → Has r (kept (newer ++ older))
kept_older r [] older h = h
kept_older r (Kept q ∷ newer) older h = inr (kept_older r newer older h)
kept_older r (Noted x ∷ newer) older h = kept_older r newer older h

-- ---- puts in a row

-- what is put in a row stands before what was there
pub lines_split : (n : ℕ) (v : ViewId) (i : ℕ) (es : List Entry) (all : List Line) → (newer : List Line) × (lines_from n v i es all ≡ newer ++ all)
lines_split n v i [] all = ([], refl)
lines_split n v i (e ∷ es) all =
    let k = lines_split n v (i + 1) es (Kept (Put n v i e) ∷ all) in
    (k.0 ++ Kept (Put n v i e) ∷ [], k.1 ∙ sym (append_assoc k.0 (Kept (Put n v i e) ∷ []) all))

pub last_puts : (m n : ℕ) (v : ViewId) (i : ℕ) (es : List Entry) (tr : List Record) → last_in m (puts_from n v i es tr) ≡ last_in m tr
last_puts m n v i [] tr = refl
last_puts m n v i (e ∷ es) tr = last_puts m n v (i + 1) es (Put n v i e ∷ tr)

-- ---- what was put stands at its place

pub put_at : (n : ℕ) (v : ViewId) (i : ℕ) (e : Entry) (tr : List Record) → InOrder tr → Has (Put n v i e) tr → slice_get (puts_of n v tr) i ≡ Some e
put_at n v i e [] order h = absurd h
put_at n v i e (In k j u ms ∷ tr) order (inl q) = absurd (cc)
put_at n v i e (In k j u ms ∷ tr) order (inr h) = put_at n v i e tr order h
put_at n v i e (Begins ∷ tr) order (inl q) = absurd (cc)
put_at n v i e (Begins ∷ tr) order (inr h) = put_at n v i e tr order h
put_at n v i e (Put m u k f ∷ tr) order (inl q) =
    let a : n ≡ m = cc in
    let b : v ≡ u = cc in
    let c : i ≡ k = cc in
    let d : e ≡ f = cc in
    let P : ℕ × ViewId × ℕ × Entry → Type 0 = λ z. slice_get (puts_of z.0 z.1 (Put m u k f ∷ tr)) z.2 ≡ Some z.3 in
    let here : P (m, u, k, f) = rw (puts_own m u k f tr) (subst (λ z. slice_get (puts_of m u tr ++ f ∷ []) z ≡ Some f) (sym order.0) (at_end (puts_of m u tr) f)) in
    subst P (λ z. (sym a z, sym b z, sym c z, sym d z)) here
  where
    at_end : (xs : List Entry) (x : Entry) → slice_get (xs ++ x ∷ []) (length xs) ≡ Some x
    at_end [] x = refl
    at_end (y ∷ xs) x = at_end xs x
put_at n v i e (Put m u k f ∷ tr) order (inr h) = by (m == n && is_same u v) (put_at n v i e tr order.1 h)
  where
    by : (b : Bool) → slice_get (puts_of n v tr) i ≡ Some e → slice_get (if b then puts_of n v tr ++ f ∷ [] else puts_of n v tr) i ≡ Some e
    by true s = prefix_get (puts_of n v tr) (puts_of n v tr ++ f ∷ []) (prefix_push (puts_of n v tr) f) i e s
    by false s = s

-- ---- what was held is no more than what was put

pub held_puts : (n : ℕ) (u : ViewId) (left : Bool) (tr : List Record) → held_by n u left tr ≤ length (puts_of n u tr)
held_puts n u left [] = omega arith
held_puts n u left (In m j v ms ∷ tr) = by (m == n) (held_puts n u true tr) (held_puts n u left tr)
  where
    by : (b : Bool) → held_by n u true tr ≤ length (puts_of n u tr) → held_by n u left tr ≤ length (puts_of n u tr) → (if b then held_by n u true tr else held_by n u left tr) ≤ length (puts_of n u tr)
    by true h k = h
    by false h k = k
held_puts n u left (Begins ∷ tr) = held_puts n u false tr
held_puts n u left (Put m v i e ∷ tr) = by (m == n) (is_same v u) (not left) (held_puts n u left tr)
  where
    by : (a b l : Bool) → held_by n u left tr ≤ length (puts_of n u tr) → (if a && (b && l) then held_by n u left tr + 1 else held_by n u left tr) ≤ length (if a && b then puts_of n u tr ++ e ∷ [] else puts_of n u tr)
    by true true true h = let s = length-append (puts_of n u tr) (e ∷ []) in omega arith
    by true true false h = let s = length-append (puts_of n u tr) (e ∷ []) in omega arith
    by true false l h = h
    by false b l h = h

-- ---- entering a view says nothing of where a node came from into it, or before it

pub from_in : (n m i k : ℕ) (v u : ViewId) (ms : List Member) (tr : List Record) → From tr m i v u → From (In n k v ms ∷ tr) m i v u
from_in n m i k v u ms tr f =
    record {
      was = (f.was.0, inr f.was.1);
      less = f.less;
      last = λ t w l. last t w l;
    }
  where
    last : (t : ViewId) → WasIn (In n k v ms ∷ tr) m i t → Lt t v → Le t u
    last t (ns, inl q) l = let a : t ≡ v = cc in let z : Lt v v = subst (λ w. Lt w v) a l in let r : Le v v = lt_refl v in absurd (cc)
    last t (ns, inr h) l = f.last t (ns, h) l
