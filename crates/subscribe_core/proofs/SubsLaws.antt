-- Tokens rise.
use Rattle.std.proofs.Common.{◌≡◌, ℕ, ◌+◌, ◌<◌, ◌≤◌, Bool, true, false, ◌&&◌, IsTrue, List, [], ◌∷◌, ◌++◌, nat_lt, nat_le, filter, if◌then◌else◌, arith}
use Rattle.std.specs.Cmp.{first_so, second_so}
use Rattle.std.proofs.lemmas.Bool.{lt-ltb, le-leb, ltb-true, leb-true}
use Rattle.subscribe_core.specs.declared.subs.Subscription.{Subscription}
use Rattle.subscribe_core.specs.Subs.{rise}

both : (a b : Bool) → a ≡ true → b ≡ true → (a && b) ≡ true
both true b p q = q
both false b p q = p

lower : (low l last : ℕ) (xs : List Subscription) → low ≤ l → IsTrue (rise l last xs) → IsTrue (rise low last xs)
lower low l last [] le h = let g : l ≤ last = leb-true l last h in le-leb low last (omega arith)
lower low l last (x ∷ xs) le h =
    let g : l < x.token.number = ltb-true l x.token.number (first_so (nat_lt l x.token.number) (rise x.token.number last xs) h) in
    both (nat_lt low x.token.number) (rise x.token.number last xs) (lt-ltb low x.token.number (omega arith)) (second_so (nat_lt l x.token.number) (rise x.token.number last xs) h)

kept_head : (b : Bool) (low last : ℕ) (x : Subscription) (ys : List Subscription) → nat_lt low x.token.number ≡ true → IsTrue (rise x.token.number last ys) → IsTrue (rise low last (if b then x ∷ ys else ys))
kept_head true low last x ys h g = both (nat_lt low x.token.number) (rise x.token.number last ys) h g
kept_head false low last x ys h g = let k : low < x.token.number = ltb-true low x.token.number h in lower low x.token.number last ys (omega arith) g

pub rise_kept : (test : Subscription → Bool) (low last : ℕ) (xs : List Subscription) → IsTrue (rise low last xs) → IsTrue (rise low last (filter test xs))
rise_kept test low last [] h = h
rise_kept test low last (x ∷ xs) h =
    kept_head (test x) low last x (filter test xs) (first_so (nat_lt low x.token.number) (rise x.token.number last xs) h)
    (rise_kept test x.token.number last xs (second_so (nat_lt low x.token.number) (rise x.token.number last xs) h))

pub rise_added : (low last : ℕ) (x : Subscription) (xs : List Subscription) → x.token.number ≡ last + 1 → IsTrue (rise low last xs) → IsTrue (rise low (last + 1) (xs ++ x ∷ []))
rise_added low last x [] e h =
    let g : low ≤ last = leb-true low last h in
    both (nat_lt low x.token.number) (nat_le x.token.number (last + 1)) (lt-ltb low x.token.number (omega arith)) (le-leb x.token.number (last + 1) (omega arith))
rise_added low last x (y ∷ ys) e h =
    both (nat_lt low y.token.number) (rise y.token.number (last + 1) (ys ++ x ∷ [])) (first_so (nat_lt low y.token.number) (rise y.token.number last ys) h)
    (rise_added y.token.number last x ys e (second_so (nat_lt low y.token.number) (rise y.token.number last ys) h))
