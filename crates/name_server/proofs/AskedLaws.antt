-- A name that is kept keeps its node.
use Rattle.std.proofs.Common.{◌≡◌, ℕ, Bool, true, false, List, [], ◌∷◌, length, Option, Some, None, nat_le, refl, ap, ◌∙◌, ◌<◌, if◌then◌else◌}
use Rattle.std.specs.Str.{bytes_eq}
use Rattle.std.proofs.lemmas.Bool.{lt-leb}
use Rattle.std.proofs.lemmas.Cmp.{nat_list_eq_equiv}
use Rattle.name_server.specs.declared.names.Leader.{Leader}
use Rattle.name_server.specs.Names.{max_names, node_of, named, answer_at, looked_up, table_at, lookup}
use Rattle.name_server.specs.Asked.{LookUp, all_asked}

kept_head : (t : Bool) (m n : ℕ) (r s : Option ℕ) → (r ≡ Some n → s ≡ Some n) → (if t then Some m else r) ≡ Some n → (if t then Some m else s) ≡ Some n
kept_head true m n r s h e = e
kept_head false m n r s h e = h e

-- a name that is kept stays where another comes
kept_named : (g h : List ℕ) (n a : ℕ) (table : List Leader) → node_of g table ≡ Some n → node_of g (named h a table) ≡ Some n
kept_named g h n a [] e = absurd cc
kept_named g h n a (x ∷ xs) e = kept_head (bytes_eq g x.group) x.node n (node_of g xs) (node_of g (named h a xs)) (kept_named g h n a xs) e

kept_at : (g h : List ℕ) (n a : ℕ) (table : List Leader) (full : Bool) (o : Option ℕ) → node_of g table ≡ Some n → node_of g (table_at h a table full o) ≡ Some n
kept_at g h n a table full (Some m) e = e
kept_at g h n a table true None e = e
kept_at g h n a table false None e = kept_named g h n a table e

kept_all : (asked : List LookUp) (g : List ℕ) (n : ℕ) (table : List Leader) → node_of g table ≡ Some n → node_of g (all_asked asked table) ≡ Some n
kept_all [] g n table e = e
kept_all (a ∷ rest) g n table e =
    kept_all rest g n (lookup a.group a.asker table) (kept_at g a.group n a.asker table (nat_le max_names (length table)) (node_of a.group table) e)

-- a new name is kept with the node that asked
new_named : (g : List ℕ) (a : ℕ) (table : List Leader) → node_of g table ≡ None → node_of g (named g a table) ≡ Some a
new_named g a [] e = rw (nat_list_eq_equiv.refl g) refl
new_named g a (x ∷ xs) e = new_head (bytes_eq g x.group) x.node a (node_of g xs) (node_of g (named g a xs)) (new_named g a xs) e
  where
    new_head : (t : Bool) (m n : ℕ) (r s : Option ℕ) → (r ≡ None → s ≡ Some n) → (if t then Some m else r) ≡ None → (if t then Some m else s) ≡ Some n
    new_head true m n r s h e = absurd cc
    new_head false m n r s h e = h e

answered_at : (g : List ℕ) (a n : ℕ) (table : List Leader) (full : Bool) (o : Option ℕ) → node_of g table ≡ o → answer_at a full o ≡ Some n → node_of g (table_at g a table full o) ≡ Some n
answered_at g a n table full (Some m) is e = is ∙ e
answered_at g a n table true None is e = absurd cc
answered_at g a n table false None is e = new_named g a table is ∙ e

-- whatever a look-up of a group answers, every later one answers
pub stays : (g : List ℕ) (a b n : ℕ) (asked : List LookUp) (table : List Leader) → looked_up g a table ≡ Some n → looked_up g b (all_asked asked (lookup g a table)) ≡ Some n
stays g a b n asked table e =
    let later = all_asked asked (lookup g a table) in
    let at : node_of g later ≡ Some n = kept_all asked g n (lookup g a table) (answered_at g a n table (nat_le max_names (length table)) (node_of g table) refl e) in
    ap (answer_at b (nat_le max_names (length later))) at

-- a new name where there is room gets its asker
pub first : (g : List ℕ) (a : ℕ) (table : List Leader) → node_of g table ≡ None → length table < 64 → looked_up g a table ≡ Some a
first g a table new room =
    ap (answer_at a (nat_le max_names (length table))) new ∙ ap (λ full. answer_at a full None) (lt-leb max_names (length table) room)
