-- The first answer of a node alone counts.
use Rattle.std.proofs.Common.{◌≡◌, ℕ, Bool, true, false, cond, List, [], ◌∷◌, ◌++◌, refl, sym, ap, subst, ◌∙◌, inl, inr, arith}
use Rattle.std.specs.Prelude.{not, ◌==◌, ◌&&◌, ◌||◌}
use Rattle.std.specs.List.{list_any}
use Rattle.std.proofs.lemmas.Bool.Decides.{nat_tests}
use Rattle.rsct_packet.specs.declared.ids.Member.{Member}
use Rattle.rsct_packet.specs.Mask.{has_node}
use Rattle.rsct_packet.specs.Search.{Has}
use Rattle.view_state.specs.declared.answer.Answer.{Answer}
use Rattle.view_state.specs.declared.exchange.Exchange.{Exchange}
use Rattle.view_state.specs.Answers.{has_answered, may_answer, with_answer, add_answer, member_of, is_member_above, with_member}
use Rattle.view_exchange.specs.Gathered.{added, all_added, FirstsCount}

or_swap : (a b c : Bool) → (a || (b || c)) ≡ (b || (a || c))
or_swap true true c = refl
or_swap true false c = refl
or_swap false b c = refl

any_inserted : (n : ℕ) (m : Member) (ms : List Member) → list_any (λ (k : Member). k.node == n) (with_member ms m) ≡ ((m.node == n) || list_any (λ (k : Member). k.node == n) ms)
any_inserted n m [] = refl
any_inserted n m (k ∷ ks) =
    let more = any_inserted n m ks in
    elim (is_member_above m.node k) as (λ b. list_any (λ (k : Member). k.node == n) (cond b (m ∷ k ∷ ks) (k ∷ with_member ks m)) ≡ ((m.node == n) || ((k.node == n) || list_any (λ (k : Member). k.node == n) ks))) [
      | true ↦ refl
      | false ↦ rw more (or_swap (k.node == n) (m.node == n) (list_any (λ (k : Member). k.node == n) ks))
    ]

answered_with : (x : Exchange) (a : Answer) (n : ℕ) → has_answered (with_answer x a) n ≡ ((a.node == n) || has_answered x n)
unfolding has_answered with_answer
answered_with x a n = any_inserted n (member_of a) x.members

asked_with : (x : Exchange) (a : Answer) (t : Bool) → (add_answer x a t).asked ≡ x.asked
unfolding add_answer with_answer
asked_with x a true = refl
asked_with x a false = refl

or_right : (a b : Bool) → b ≡ true → (a || b) ≡ true
or_right true b e = refl
or_right false b e = e

stays_answered : (x : Exchange) (a : Answer) (n : ℕ) (t : Bool) → has_answered x n ≡ true → has_answered (add_answer x a t) n ≡ true
unfolding add_answer
stays_answered x a n true h = answered_with x a n ∙ or_right (a.node == n) (has_answered x n) h
stays_answered x a n false h = h

all_stay : (x : Exchange) (given : List Answer) (n : ℕ) → has_answered x n ≡ true → has_answered (all_added x given) n ≡ true
all_stay x [] n h = h
all_stay x (a ∷ given) n h = all_stay (added x a) given n (stays_answered x a n (may_answer x a.node) h)

itself : (n : ℕ) → (n == n) ≡ true
itself n = grind (arith, nat_tests)

and_not : (a b : Bool) → a ≡ true → (a && not b) ≡ false → b ≡ true
and_not true true p q = refl
and_not true false p q = absurd cc
and_not false b p q = absurd cc

-- after its answer came, a node that was asked has answered
comes_itself : (x : Exchange) (a : Answer) → has_answered (add_answer x a true) a.node ≡ true
unfolding add_answer
comes_itself x a = answered_with x a a.node ∙ rw (itself a.node) refl

may_has : (x : Exchange) (n : ℕ) → has_node x.asked n ≡ true → may_answer x n ≡ false → has_answered x n ≡ true
unfolding may_answer
may_has x n asked e = and_not (has_node x.asked n) (has_answered x n) asked e

has_come : (x : Exchange) (a : Answer) → has_node x.asked a.node ≡ true → has_answered (added x a) a.node ≡ true
has_come x a asked = by (may_answer x a.node) refl
  where
    by : (t : Bool) → may_answer x a.node ≡ t → has_answered (add_answer x a t) a.node ≡ true
    by true e = comes_itself x a
    by false e = stays_answered x a a.node false (may_has x a.node asked e)

all_come : (x : Exchange) (given : List Answer) (a : Answer) → Has a given → has_node x.asked a.node ≡ true → has_answered (all_added x given) a.node ≡ true
all_come x [] a h asked = absurd h
all_come x (c ∷ cs) a (inl e) asked =
    all_stay (added x c) cs a.node
    (subst (λ (z : Answer). has_answered (added x z) a.node ≡ true) e (has_come x a asked))
all_come x (c ∷ cs) a (inr h) asked =
    all_come (added x c) cs a h (subst (λ m. has_node m a.node ≡ true) (sym (asked_with x c (may_answer x c.node))) asked)

all_asked : (x : Exchange) (given : List Answer) → (all_added x given).asked ≡ x.asked
all_asked x [] = refl
all_asked x (a ∷ given) = all_asked (added x a) given ∙ asked_with x a (may_answer x a.node)

all_added-append : (x : Exchange) (given bs : List Answer) → all_added x (given ++ bs) ≡ all_added (all_added x given) bs
all_added-append x [] bs = refl
all_added-append x (a ∷ given) bs = all_added-append (added x a) given bs

not_added : (y : Exchange) (b : Answer) → may_answer y b.node ≡ false → added y b ≡ y
unfolding add_answer
not_added y b e = rw e refl

may_not : (y : Exchange) (n : ℕ) → (has_node y.asked n ≡ true → has_answered y n ≡ true) → may_answer y n ≡ false
unfolding may_answer
may_not y n h = by (has_node y.asked n) h
  where
    by : (t : Bool) → (t ≡ true → has_answered y n ≡ true) → (t && not (has_answered y n)) ≡ false
    by true f = rw (f refl) refl
    by false f = refl

pub firsts_count : FirstsCount
firsts_count x given bs a b h same =
    let y : Exchange = all_added x given in
    let none : added y b ≡ y =
    not_added y b
    (may_not y b.node
    (λ asked.
    subst (λ (n : ℕ). has_answered y n ≡ true) same
    (all_come x given a h (subst (λ (n : ℕ). has_node x.asked n ≡ true) (sym same) (subst (λ m. has_node m b.node ≡ true) (all_asked x given) asked)))))
    in
    all_added-append x given (b ∷ bs) ∙ (ap (λ (z : Exchange). all_added z bs) none ∙ sym (all_added-append x given bs))
