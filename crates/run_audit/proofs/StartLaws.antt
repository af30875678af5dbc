-- The last start of a node tells what the rule on starts says.
use Rattle.std.proofs.Common.{◌≡◌, ℕ, ◌+◌, ◌<◌, ◌≤◌, Bool, true, false, List, [], ◌∷◌, length, Option, Some, None, refl, sym, ◌∙◌, ap, subst, arith, cond}
use Rattle.std.specs.Prelude.{◌==◌, ◌&&◌, ◌||◌, not, nat_lt, nat_eq, if◌then◌else◌}
use Rattle.std.specs.List.{list_all}
use Rattle.std.specs.Map.{lookup}
use Rattle.std.proofs.lemmas.Bool.Decides.{nat_tests}
use Rattle.run_audit.specs.declared.broken.Rule.TheVariants as rule
use Rattle.record_lines.specs.declared.line.Line.{Line}
use Rattle.record_lines.specs.declared.line.Line.TheVariants as line
use Rattle.run_audit.specs.declared.starts.Start.{Start}
use Rattle.run_audit.specs.Past.{inc_after, inc_of, last_no}
use Rattle.run_audit.specs.Kept.{Keep, fault_of}
use Rattle.run_audit.specs.Starts.{start_of, AreStarts, inc_in}
use Rattle.run_audit.specs.Table.{holds, with_of, starts_below, is_up}

-- the incarnation is greater than that of a start, where there is one
abbrev below : ℕ → Option Start → Bool
below j None = true
below j (Some s) = nat_lt s.inc j

-- what is below a start that rises is below the next
below_on : (k j : ℕ) (o : Option Start) → below k o ≡ true → (nat_lt k j && below j o) ≡ nat_lt k j
below_on k j None e = by (nat_lt k j)
  where
    by : (t : Bool) → (t && true) ≡ t
    by true = refl
    by false = refl
below_on k j (Some s) e = by (nat_lt k j) refl
  where
    by : (t : Bool) → nat_lt k j ≡ t → (t && nat_lt s.inc j) ≡ t
    by true q = grind (arith, nat_tests)
    by false q = refl

module _ (n j : ℕ) where
  first_of : (m k : ℕ) (ls : List Line) (t : Bool) → (m == n) ≡ t → list_all (starts_below n j) ls ≡ below j (start_of n ls) → below k (start_of n ls) ≡ true
      → ((not t || nat_lt k j) && list_all (starts_below n j) ls) ≡ below j (if t then Some (record { inc = k; number = length ls + 1 }) else start_of n ls)
  first_of m k ls true e old rises = ap (λ b. nat_lt k j && b) old ∙ below_on k j (start_of n ls) rises
  first_of m k ls false e old rises = old

-- where the node is another one, nothing is asked of the older starts
all_below : (n j : ℕ) (ls : List Line) → Keep rule.Life ls → list_all (starts_below n j) ls ≡ below j (start_of n ls)
unfolding starts_below holds
all_below n j [] h = refl
all_below n j (line.Up m k ∷ ls) h = by (all_below n j ls h.1) (all_below n k ls h.1) (m == n) refl
  where
    by : list_all (starts_below n j) ls ≡ below j (start_of n ls) → list_all (starts_below n k) ls ≡ below k (start_of n ls) → (t : Bool) → (m == n) ≡ t → ((not t || nat_lt k j) && list_all (starts_below n j) ls) ≡ below j (if t then Some (record { inc = k; number = length ls + 1 }) else start_of n ls)
    by old others true e =
        let same : m ≡ n = grind (arith, nat_tests) in
        let rises : below k (start_of n ls) ≡ true = sym others ∙ subst (λ z. list_all (starts_below z k) ls ≡ true) same h.0 in
        first_of n j m k ls true e old rises
    by old others false e = old
all_below n j (_ ∷ ls) h = all_below n j ls h.1

-- the number of its line
number_of : Option Start → Option ℕ
number_of None = None
number_of (Some s) = Some s.number

last_line : (n : ℕ) (ls : List Line) → last_no (is_up n) ls ≡ number_of (start_of n ls)
unfolding last_no is_up number_of
last_line n [] = refl
last_line n (line.Up m k ∷ ls) = by (last_line n ls) (m == n)
  where
    by : last_no (is_up n) ls ≡ number_of (start_of n ls) → (t : Bool) → elim t [ true ↦ Some (length ls + 1) | false ↦ last_no (is_up n) ls ] ≡ number_of (if t then Some (record { inc = k; number = length ls + 1 }) else start_of n ls)
    by old true = refl
    by old false = old
last_line n (_ ∷ ls) = last_line n ls

fault_at : (n j : ℕ) (ls : List Line) (o : Option Start) → Keep rule.Life ls → start_of n ls ≡ o → fault_of rule.Life (line.Up n j) ls ≡ (if below j o then None else Some (record { rule = rule.Life; with_line = number_of o }))
unfolding holds with_of
fault_at n j ls o h e =
    let a : list_all (starts_below n j) ls ≡ below j o = all_below n j ls h ∙ ap (below j) e in
    let b : last_no (is_up n) ls ≡ number_of o = last_line n ls ∙ ap number_of e in
    rw (a, b) refl

-- the node has no start
pub first_start : (n j : ℕ) (es : List (ℕ × Start)) (ls : List Line) → AreStarts ls es → Keep rule.Life ls → lookup (nat_eq n) es ≡ None → None ≡ fault_of rule.Life (line.Up n j) ls
first_start n j es ls k h e = sym (fault_at n j ls None h (sym (k n) ∙ e))

-- it has one, of a lesser incarnation
pub kept_start : (n j : ℕ) (s : Start) (es : List (ℕ × Start)) (ls : List Line) → AreStarts ls es → Keep rule.Life ls → lookup (nat_eq n) es ≡ Some s → s.inc < j → None ≡ fault_of rule.Life (line.Up n j) ls
unfolding number_of
kept_start n j s es ls k h e l =
    let a = fault_at n j ls (Some s) h (sym (k n) ∙ e) in
    let t : nat_lt s.inc j ≡ true = grind (arith, nat_tests) in
    sym (a ∙ ap (λ b. if b then None else Some (record { rule = rule.Life; with_line = Some s.number })) t)

-- or not
pub broken_start : (n j : ℕ) (s : Start) (es : List (ℕ × Start)) (ls : List Line) → AreStarts ls es → Keep rule.Life ls → lookup (nat_eq n) es ≡ Some s → j ≤ s.inc → Some (record { rule = rule.Life; with_line = Some s.number }) ≡ fault_of rule.Life (line.Up n j) ls
unfolding number_of
broken_start n j s es ls k h e l =
    let a = fault_at n j ls (Some s) h (sym (k n) ∙ e) in
    let t : nat_lt s.inc j ≡ false = grind (arith, nat_tests) in
    sym (a ∙ ap (λ b. if b then None else Some (record { rule = rule.Life; with_line = Some s.number })) t)

-- after the line of a start
pub noted : (n j number : ℕ) (es fs : List (ℕ × Start)) (ls : List Line) → ((q : ℕ) → lookup (nat_eq q) fs ≡ cond (nat_eq n q) (Some (record { inc = j; number = number })) (lookup (nat_eq q) es)) → AreStarts ls es → number ≡ length ls + 1 → AreStarts (line.Up n j ∷ ls) fs
noted n j number es fs ls up k e q = up q ∙ by (nat_eq n q)
  where
    by : (t : Bool) → cond t (Some (record { inc = j; number = number })) (lookup (nat_eq q) es) ≡ (if t then Some (record { inc = j; number = length ls + 1 }) else start_of q ls)
    by true = ap (λ z. Some (record { inc = j; number = z })) e
    by false = k q

-- the incarnation of the last start
inc_by : (n : ℕ) (ls : List Line) → inc_of n ls ≡ inc_in (start_of n ls)
unfolding inc_of inc_after inc_in
inc_by n [] = refl
inc_by n (line.Up m k ∷ ls) = by (inc_by n ls) (m == n)
  where
    by : inc_of n ls ≡ inc_in (start_of n ls) → (t : Bool) → (if t then Some k else inc_of n ls) ≡ inc_in (if t then Some (record { inc = k; number = length ls + 1 }) else start_of n ls)
    by old true = refl
    by old false = old
inc_by n (_ ∷ ls) = inc_by n ls

pub inc_is : (n : ℕ) (es : List (ℕ × Start)) (ls : List Line) → AreStarts ls es → inc_of n ls ≡ inc_in (lookup (nat_eq n) es)
inc_is n es ls are = inc_by n ls ∙ ap inc_in (sym (are n))
