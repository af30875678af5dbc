-- The bases of a view stand in the order of their names, one of each.
use Rattle.std.proofs.Common.{◌≡◌, ℕ, List, [], ◌∷◌, ◌++◌, Option, Some, None, Bool, true, false, refl, sym, ap, ◌∙◌, subst, append_assoc}
use Rattle.std.specs.Prelude.{reverse, map, find, fold, if◌then◌else◌}
use Rattle.std.specs.Option.{option_map}
use Rattle.std.specs.Str.{bytes_eq}
use Rattle.std.proofs.lemmas.List.{append-nil}
use Rattle.rsct_packet.specs.declared.ids.ViewId.{ViewId}
use Rattle.rsct_packet.specs.Text.{name_lt}
use Rattle.rsct_packet.specs.Lists.{best_of}
use Rattle.view_state.specs.declared.install.Part.{Part}
use Rattle.view_state.specs.declared.install.Source.{Source}
use Rattle.view_state.specs.declared.install.Install.{Install}
use Rattle.view_state.specs.declared.install.Base.{Base}
use Rattle.view_state.specs.Bases.{Candidate, candidates, beats, base_from, base_of_best, base_of, with_name, names_in, bases_for, bases_of, base_named}
use Rattle.node_state.specs.declared.group.GroupRow.{GroupRow}
use Rattle.node_state.specs.declared.happened.Happened.{Happened}
use Rattle.node_state.specs.declared.happened.Happened.TheVariants as happened
use Rattle.node_state.specs.State.{AllAfter, InNameOrder, new_row, has_name}
use Rattle.node_state.specs.Applying.{base_row}
use Rattle.run_safety.specs.Past.{History}
use Rattle.run_safety.specs.Sight.{lines_with}
use Rattle.run_safety.specs.Group.{Line, Noted, Based}
use Rattle.run_safety.specs.Moves.{based}
use Rattle.step_refinement.specs.Ghost.{origin_of}
use Rattle.step_refinement.proofs.Works.{lines_pushed}
use Rattle.node_state.proofs.NameOrder.{text_same, text_self, name_lt_total, none_after, after_less}

abbrev rows_of : List (List ℕ) → List GroupRow
rows_of ns = map new_row ns

after_name : (h : List ℕ) (p : Part) (ns : List (List ℕ)) → name_lt h p.name ≡ true → AllAfter h (rows_of ns) → AllAfter h (rows_of (with_name ns p))
unfolding with_name
after_name h p [] l a = (l, tt)
after_name h p (n ∷ ns) l a = by (name_lt p.name n) (bytes_eq p.name n) (after_name h p ns l a.1)
  where
    by : (b c : Bool) → AllAfter h (rows_of (with_name ns p)) → AllAfter h (rows_of (elim b as (λ _. List (List ℕ)) [ true ↦ p.name ∷ n ∷ ns | false ↦ elim c as (λ _. List (List ℕ)) [ true ↦ n ∷ ns | false ↦ n ∷ with_name ns p ] ]))
    by true c k = (l, a)
    by false true k = a
    by false false k = (a.0, k)

order_name : (p : Part) (ns : List (List ℕ)) → InNameOrder (rows_of ns) → InNameOrder (rows_of (with_name ns p))
unfolding with_name
order_name p [] o = (tt, tt)
order_name p (n ∷ ns) o = by (name_lt p.name n) (bytes_eq p.name n) refl refl (order_name p ns o.1)
  where
    by : (b c : Bool) → name_lt p.name n ≡ b → bytes_eq p.name n ≡ c → InNameOrder (rows_of (with_name ns p)) → InNameOrder (rows_of (elim b as (λ _. List (List ℕ)) [ true ↦ p.name ∷ n ∷ ns | false ↦ elim c as (λ _. List (List ℕ)) [ true ↦ n ∷ ns | false ↦ n ∷ with_name ns p ] ]))
    by true c l e k = ((l, after_less p.name n (rows_of ns) l o.0), o)
    by false true l e k = o
    by false false l e k = (after_name n p ns (name_lt_total p.name n l (other e)) o.0, k)
      where
        other : bytes_eq p.name n ≡ false → bytes_eq n p.name ≡ false
        other e = at (bytes_eq n p.name) refl
          where
            at : (b : Bool) → bytes_eq n p.name ≡ b → b ≡ false
            at false q = refl
            at true q = let same : n ≡ p.name = text_same n p.name q in let z = ap (λ m. bytes_eq p.name m) same in let y = text_self p.name in absurd (cc)

order_parts : (ps : List Part) (ns : List (List ℕ)) → InNameOrder (rows_of ns) → InNameOrder (rows_of (fold with_name ns ps))
order_parts [] ns o = o
order_parts (p ∷ ps) ns o = order_parts ps (with_name ns p) (order_name p ns o)

order_names : (ss : List Source) (ns : List (List ℕ)) → InNameOrder (rows_of ns) → InNameOrder (rows_of (fold (λ ns (s : Source). fold with_name ns s.parts) ns ss))
order_names [] ns o = o
order_names (s ∷ ss) ns o = order_names ss (fold with_name ns s.parts) (order_parts s.parts ns o)

pub base_name : (i : Install) (g : List ℕ) (b : Base) → base_of i g ≡ Some b → b.name ≡ g
unfolding base_of base_from
base_name i g b e = by (best_of beats (candidates i g i.sources)) e
  where
    by : (o : Option Candidate) → base_of_best i g o ≡ Some b → b.name ≡ g
    by None e = absurd (cc)
    by (Some c) e = let q : base_from i g c ≡ b = cc in ap (λ (z : Base). z.name) (sym q)

after_bases : (i : Install) (h : List ℕ) (ns : List (List ℕ)) → AllAfter h (rows_of ns) → AllAfter h (map base_row (bases_for i ns))
unfolding bases_for base_row
after_bases i h [] a = tt
after_bases i h (n ∷ ns) a = by (base_of i n) refl (after_bases i h ns a.1)
  where
    by : (o : Option Base) → base_of i n ≡ o → AllAfter h (map base_row (bases_for i ns)) → AllAfter h (map base_row (elim o as (λ _. List Base) [ None ↦ bases_for i ns | Some b ↦ b ∷ bases_for i ns ]))
    by None e k = k
    by (Some b) e k = (subst (λ z. name_lt h z ≡ true) (sym (base_name i n b e)) a.0, k)

order_bases : (i : Install) (ns : List (List ℕ)) → InNameOrder (rows_of ns) → InNameOrder (map base_row (bases_for i ns))
unfolding bases_for base_row
order_bases i [] o = tt
order_bases i (n ∷ ns) o = by (base_of i n) refl (order_bases i ns o.1)
  where
    by : (b : Option Base) → base_of i n ≡ b → InNameOrder (map base_row (bases_for i ns)) → InNameOrder (map base_row (elim b as (λ _. List Base) [ None ↦ bases_for i ns | Some b ↦ b ∷ bases_for i ns ]))
    by None e k = k
    by (Some b) e k = (subst (λ z. AllAfter z (map base_row (bases_for i ns))) (sym (base_name i n b e)) (after_bases i n ns o.0), k)

pub bases_ordered : (i : Install) → InNameOrder (map base_row (bases_of i))
unfolding bases_of names_in
bases_ordered i = order_bases i (names_in i.sources) (order_names i.sources [] tt)

-- the row of a group is that of its base
pub row_of_base : (g : List ℕ) (bs : List Base) → find (has_name g) (map base_row bs) ≡ option_map base_row (base_named bs g)
unfolding base_named base_row
row_of_base g [] = refl
row_of_base g (b ∷ bs) = by (bytes_eq b.name g) (row_of_base g bs)
  where
    by : (t : Bool) → find (has_name g) (map base_row bs) ≡ option_map base_row (base_named bs g) → (if t then Some (base_row b) else find (has_name g) (map base_row bs)) ≡ option_map base_row (if t then Some b else base_named bs g)
    by true k = refl
    by false k = k

-- what is noted of the bases, by one node
abbrev pub base_noted : ℕ → ViewId → Base → Happened
base_noted n v b = happened.Base n v b.name b.from b.len b.state

-- no base of a name whom all come after
pub none_named : (g : List ℕ) (bs : List Base) → AllAfter g (map base_row bs) → base_named bs g ≡ None
unfolding base_row
none_named g bs a = by (base_named bs g) refl
  where
    by : (o : Option Base) → base_named bs g ≡ o → o ≡ None
    by None e = refl
    by (Some b) e = let k = none_after g (map base_row bs) a in let q = row_of_base g bs in let z = ap (option_map base_row) e in absurd (cc)

-- the group sees its base alone
pub lines_of_bases : (g : List ℕ) (n : ℕ) (v : ViewId) (bs : List Base) (rs : List Happened) (before : History) (all : List Line) → InNameOrder (map base_row bs) → lines_with g (reverse (rs ++ map (base_noted n v) bs)) before all ≡ based n v (option_map origin_of (base_named bs g)) (lines_with g (reverse rs) before all)
unfolding base_named base_row
lines_of_bases g n v [] rs before all o = ap (λ z. lines_with g (reverse z) before all) (append-nil rs)
lines_of_bases g n v (b ∷ bs) rs before all o =
    ap (λ z. lines_with g (reverse z) before all) (sym (append_assoc rs (base_noted n v b ∷ []) (map (base_noted n v) bs))) ∙ lines_of_bases g n v bs (rs ++ base_noted n v b ∷ []) before all o.1 ∙ ap (based n v (option_map origin_of (base_named bs g))) (lines_pushed g rs (base_noted n v b) before all) ∙ by (bytes_eq b.name g) refl
  where
    old : List Line
    old = lines_with g (reverse rs) before all

    by : (t : Bool) → bytes_eq b.name g ≡ t → based n v (option_map origin_of (base_named bs g)) ((if t then Noted (Based n v (origin_of b)) ∷ [] else []) ++ old) ≡ based n v (option_map origin_of (if t then Some b else base_named bs g)) old
    by true e =
        let none : base_named bs g ≡ None = none_named g bs (subst (λ z. AllAfter z (map base_row bs)) (text_same b.name g e) o.0) in
        ap (λ z. based n v (option_map origin_of z) (Noted (Based n v (origin_of b)) ∷ old)) none
    by false e = refl
