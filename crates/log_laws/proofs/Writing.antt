-- How logs grow: by all that is recorded, or by nothing where a node lives a life in which it does nothing, or goes down.
use Rattle.std.proofs.Common.{◌≡◌, ◌<◌, ◌≤◌, ℕ, inl, inr, refl, sym, ◌∙◌, subst, true, false, List, [], ◌∷◌, ◌++◌, arith}
use Rattle.std.proofs.lemmas.Bool.{cases_eq}
use Rattle.rsct_packet.specs.declared.ids.ViewId.{ViewId}
use Rattle.rsct_packet.specs.Search.{Has}
use Rattle.node_state.specs.declared.happened.Happened.{Happened}
use Rattle.node_state.specs.declared.happened.Happened.TheVariants.{Up, Down, Ring, In}
use Rattle.run_safety.specs.Past.{inc_now, inc_after}
use Rattle.log_laws.specs.Logs.{is_up, up_after, LivesAreLogged, IsLeftOut, Logs, Nothing, Writes, LeavesOut}
use Rattle.log_laws.proofs.Kept.{if_same, if_other}

-- ---- what is recorded is written

lives_on : (r : Happened) (rs ls : List Happened) → LivesAreLogged rs ls → LivesAreLogged (r ∷ rs) (r ∷ ls)
lives_on r rs ls a n up = by r up
  where
    by : (r : Happened) → up_after n r (is_up n rs) ≡ true → inc_after n r (inc_now n rs) ≡ inc_after n r (inc_now n ls)
    by (Up m j) up = elim (cases_eq m n) [
      | inl e ↦ if_same m n j (inc_now n rs) e ∙ sym (if_same m n j (inc_now n ls) e)
      | inr ne ↦ if_other m n j (inc_now n rs) ne ∙ a n (sym (if_other m n true (is_up n rs) ne) ∙ up) ∙ sym (if_other m n j (inc_now n ls) ne)
    ]
    by (Down m) up = elim (cases_eq m n) [
      | inl e ↦ absurd (let z : false ≡ true = sym (if_same m n false (is_up n rs) e) ∙ up in cc)
      | inr ne ↦ a n (sym (if_other m n false (is_up n rs) ne) ∙ up)
    ]
    by r up = a n up

pub writes_all : (xs rs ls : List Happened) → Logs rs ls → LivesAreLogged rs ls → Logs (xs ++ rs) (xs ++ ls) × LivesAreLogged (xs ++ rs) (xs ++ ls)
writes_all [] rs ls k a = (k, a)
writes_all (x ∷ xs) rs ls k a =
    let q = writes_all xs rs ls k a in
    (Writes x (xs ++ rs) (xs ++ ls) q.0 q.1, lives_on x (xs ++ rs) (xs ++ ls) q.1)

-- ---- a node goes down

pub goes_down : (n : ℕ) (rs ls : List Happened) → LivesAreLogged rs ls → LivesAreLogged (Down n ∷ rs) ls
goes_down n rs ls a m up = elim (cases_eq n m) [
  | inl e ↦ absurd (let z : false ≡ true = sym (if_same n m false (is_up m rs) e) ∙ up in cc)
  | inr ne ↦ a m (sym (if_other n m false (is_up m rs) ne) ∙ up)
]

-- ---- a life in which it does nothing

abbrev pub IsRing : Happened → Type 0
IsRing (Ring n network id ms b) = Unit {0}
IsRing _ = ⊥

-- rings change nothing
record Passes (qs rs : List Happened) : Type 0 where
  up : (n : ℕ) → is_up n (qs ++ rs) ≡ is_up n rs
  inc : (n : ℕ) → inc_now n (qs ++ rs) ≡ inc_now n rs

passes : (qs rs : List Happened) → ((r : Happened) → Has r qs → IsRing r) → Passes qs rs
passes [] rs are = record { up = λ n. refl; inc = λ n. refl }
passes (q ∷ qs) rs are =
    let k : Passes qs rs = passes qs rs (λ r h. are r (inr h)) in
    record { up = λ n. up n q (are q (inl refl)) ∙ k.up n; inc = λ n. inc n q (are q (inl refl)) ∙ k.inc n }
  where
    up : (n : ℕ) (q : Happened) → IsRing q → up_after n q (is_up n (qs ++ rs)) ≡ is_up n (qs ++ rs)
    up n (Ring m network id ms b) r = refl
    up n _ r = absurd r

    inc : (n : ℕ) (q : Happened) → IsRing q → inc_after n q (inc_now n (qs ++ rs)) ≡ inc_now n (qs ++ rs)
    inc n (Ring m network id ms b) r = refl
    inc n _ r = absurd r

rings_out : (qs rs ls : List Happened) → ((r : Happened) → Has r qs → IsRing r) → Logs rs ls → Logs (qs ++ rs) ls
rings_out [] rs ls are k = k
rings_out (q ∷ qs) rs ls are k =
    LeavesOut q (qs ++ rs) ls (rings_out qs rs ls (λ r h. are r (inr h)) k) (out q (are q (inl refl)))
  where
    out : (q : Happened) → IsRing q → IsLeftOut (qs ++ rs) ls q
    out (Ring m network id ms b) r = tt
    out _ r = absurd r

module _ (n j : ℕ) (v : ViewId) (qs rs ls : List Happened) (are : (r : Happened) → Has r qs → IsRing r) where
  -- the records of the life, the latest first
  abbrev pub life_onto : List Happened
  life_onto = Down n ∷ In n v (record { node = n; inc = j } ∷ []) ∷ (qs ++ Up n j ∷ rs)

  pub life_left_out : inc_now n ls < j → Logs rs ls → LivesAreLogged rs ls → Logs life_onto ls × LivesAreLogged life_onto ls
  life_left_out later k a = (out, lives)
    where
      up : List Happened
      up = Up n j ∷ rs

      over : Passes qs up
      over = passes qs up are

      inc_is : inc_now n (qs ++ up) ≡ j
      inc_is = over.inc n ∙ if_same n n j (inc_now n rs) refl

      entered : IsLeftOut (qs ++ up) ls (In n v (record { node = n; inc = j } ∷ []))
      entered = (subst (λ i. inc_now n ls < i) (sym inc_is) later, λ i. record { node = n; inc = sym inc_is i } ∷ [])

      out : Logs life_onto ls
      out =
          LeavesOut (Down n) (In n v (record { node = n; inc = j } ∷ []) ∷ (qs ++ up)) ls (LeavesOut (In n v (record { node = n; inc = j } ∷ [])) (qs ++ up) ls (rings_out qs up ls are (LeavesOut (Up n j) rs ls k later)) entered) tt

      lives : LivesAreLogged life_onto ls
      lives m is_on = elim (cases_eq n m) [
        | inl e ↦ absurd (let z : false ≡ true = sym (if_same n m false (is_up m (qs ++ up)) e) ∙ is_on in cc)
        | inr ne ↦ over.inc m ∙ if_other n m j (inc_now m rs) ne ∙ a m (sym (if_other n m true (is_up m rs) ne) ∙ sym (over.up m) ∙ sym (if_other n m false (is_up m (qs ++ up)) ne) ∙ is_on)
      ]

-- ---- incarnations

-- by the logs a node is in no later incarnation
pub no_later : (n : ℕ) (rs ls : List Happened) → Logs rs ls → inc_now n ls ≤ inc_now n rs
no_later n _ _ Nothing = omega arith
no_later n _ _ (Writes r rs ls k a) = by r (no_later n rs ls k)
  where
    by : (r : Happened) → inc_now n ls ≤ inc_now n rs → inc_after n r (inc_now n ls) ≤ inc_after n r (inc_now n rs)
    by (Up m j) le = elim (cases_eq m n) [
      | inl e ↦ (let x = if_same m n j (inc_now n ls) e in let y = if_same m n j (inc_now n rs) e in omega (arith, x, y))
      | inr ne ↦ (let x = if_other m n j (inc_now n ls) ne in let y = if_other m n j (inc_now n rs) ne in omega (arith, x, y, le))
    ]
    by r le = le
no_later n _ _ (LeavesOut r rs ls k o) = by r o (no_later n rs ls k)
  where
    by : (r : Happened) → IsLeftOut rs ls r → inc_now n ls ≤ inc_now n rs → inc_now n ls ≤ inc_after n r (inc_now n rs)
    by (Up m j) o le = elim (cases_eq m n) [
      | inl e ↦ (let less : inc_now n ls < j = subst (λ i. inc_now i ls < j) e o in let y = if_same m n j (inc_now n rs) e in omega (arith, less, y))
      | inr ne ↦ (let y = if_other m n j (inc_now n rs) ne in omega (arith, y, le))
    ]
    by r o le = le
