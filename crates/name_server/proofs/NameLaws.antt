-- The map's words are the table's.
use Rattle.std.proofs.Common.{◌≡◌, ℕ, zero, suc, ◌<◌, Bool, true, false, not, IsTrue, List, [], ◌∷◌, length, take, get_or, Option, Some, None, refl, ap, subst, ◌∙◌, cond, if◌then◌else◌, Vec, arith}
use Rattle.std.specs.List.{list_any}
use Rattle.std.specs.Cmp.{first_so, second_so}
use Rattle.std.proofs.lemmas.List.Folds.{list_any_at}
use Rattle.std.specs.Str.{bytes_eq}
use Rattle.std.specs.Map.{lookup}
use Rattle.std.specs.declared.alloc.Global.{Global}
use Rattle.indexmap.specs.IndexMap.{insert_entry}
use Rattle.name_server.specs.declared.names.Leader.{Leader}
use Rattle.name_server.specs.Names.{node_of, table_of, named, names_differ}

pub lookup_is : (g : List ℕ) (es : List (Vec ℕ Global × ℕ)) → lookup (λ k. bytes_eq g k.items) es ≡ node_of g (table_of es)
lookup_is g [] = refl
lookup_is g (e ∷ es) = ap (λ r. cond (bytes_eq g e.0.items) (Some e.1) r) (lookup_is g es)

inserted_head : (t : Bool) (k : Vec ℕ Global) (v : ℕ) (e : Vec ℕ Global × ℕ) (es fs : List (Vec ℕ Global × ℕ)) (r : Option ℕ) → (r ≡ None → table_of fs ≡ named k.items v (table_of es))
    → (if t then Some e.1 else r) ≡ None → table_of (if t then (e.0, v) ∷ es else e ∷ fs) ≡ record { group = e.0.items; node = e.1 } ∷ named k.items v (table_of es)
inserted_head true k v e es fs r h none = absurd cc
inserted_head false k v e es fs r h none = ap (λ xs. record { group = e.0.items; node = e.1 } ∷ xs) (h none)

pub inserted : (k : Vec ℕ Global) (v : ℕ) (es : List (Vec ℕ Global × ℕ)) → node_of k.items (table_of es) ≡ None
    → table_of (insert_entry (λ a b. bytes_eq a.items b.items) es k v) ≡ named k.items v (table_of es)
inserted k v [] none = refl
inserted k v (e ∷ es) none = inserted_head (bytes_eq k.items e.0.items) k v e es (insert_entry (λ a b. bytes_eq a.items b.items) es k v) (node_of k.items (table_of es)) (inserted k v es) none

pub inserted_as : (k : Vec ℕ Global) (g : List ℕ) (v : ℕ) (es : List (Vec ℕ Global × ℕ)) → k.items ≡ g → node_of g (table_of es) ≡ None
    → table_of (insert_entry (λ a b. bytes_eq a.items b.items) es k v) ≡ named g v (table_of es)
inserted_as k g v es same none = subst (λ h. node_of h (table_of es) ≡ None → table_of (insert_entry (λ a b. bytes_eq a.items b.items) es k v) ≡ named h v (table_of es)) same (inserted k v es) none

unlike : (b a : Bool) → (b ≡ true → a ≡ true) → not a ≡ true → b ≡ false
unlike false a f e = refl
unlike true true f e = absurd cc
unlike true false f e = absurd (let g = f refl in cc)

fresh : (xs : List Leader) (i : ℕ) (d : Leader) → names_differ xs ≡ true → i < length xs → node_of (get_or xs i d).group (take i xs) ≡ None
fresh [] i d e h = absurd (omega arith)
fresh (x ∷ xs) zero d e h = refl
fresh (x ∷ xs) (suc i) d e h =
    let g = (get_or xs i d).group in
    let within : i < length xs = omega arith in
    let apart : bytes_eq g x.group ≡ false =
    unlike (bytes_eq g x.group) (list_any (λ (y : Leader). bytes_eq y.group x.group) xs) (list_any_at (λ (y : Leader). bytes_eq y.group x.group) xs i d within)
    (first_so (not (list_any (λ (y : Leader). bytes_eq y.group x.group) xs)) (names_differ xs) e) in
    rw apart (fresh xs i d (second_so (not (list_any (λ (y : Leader). bytes_eq y.group x.group) xs)) (names_differ xs) e) within)

-- a name that comes later is not among those before it
pub fresh_at : (xs : List Leader) (i : ℕ) (x : Leader) → IsTrue (names_differ xs) → i < length xs → x ≡ get_or xs i x → node_of x.group (take i xs) ≡ None
fresh_at xs i x e h is = ap (λ (y : Leader). node_of y.group (take i xs)) is ∙ fresh xs i x e h
