-- The bases of a view stand in the order of their names, one of each.
use Rattle.std.proofs.Common.{◌≡◌, ℕ, List, [], ◌∷◌, Option, Some, None, Bool, true, false, refl, sym, ap, subst}
use Rattle.std.specs.Prelude.{map, fold, IsTrue}
use Rattle.std.specs.List.{list_any}
use Rattle.std.specs.Str.{bytes_eq}
use Rattle.rsct_packet.specs.Text.{name_lt}
use Rattle.rsct_packet.specs.Lists.{best_of}
use Rattle.name_server.specs.Names.{names_differ}
use Rattle.view_state.specs.declared.install.Part.{Part}
use Rattle.view_state.specs.declared.install.Source.{Source}
use Rattle.view_state.specs.declared.install.Install.{Install}
use Rattle.view_state.specs.declared.install.Base.{Base}
use Rattle.view_state.specs.Bases.{Candidate, candidates, beats, base_from, base_of_best, base_of, with_name, names_in, bases_for, bases_of}
use Rattle.node_state.specs.declared.group.GroupRow.{GroupRow}
use Rattle.node_state.specs.State.{AllAfter, InNameOrder, new_row}
use Rattle.node_state.specs.Applying.{base_row, base_leader}
use Rattle.node_state.proofs.NameOrder.{text_same, text_self, text_other, name_lt_total, lt_self, after_less}

abbrev rows_of : List (List ℕ) → List GroupRow
rows_of ns = map new_row ns

after_name : (h : List ℕ) (p : Part) (ns : List (List ℕ)) → name_lt h p.name ≡ true → AllAfter h (rows_of ns) → AllAfter h (rows_of (with_name ns p))
unfolding with_name
after_name h p [] l a = (l, tt)
after_name h p (n ∷ ns) l a = by (name_lt p.name n) (bytes_eq p.name n) (after_name h p ns l a.1)
  where
    by : (b c : Bool) → AllAfter h (rows_of (with_name ns p)) → AllAfter h (rows_of (elim b as (λ _. List (List ℕ)) [ true ↦ p.name ∷ n ∷ ns | false ↦ elim c as (λ _. List (List ℕ)) [ true ↦ n ∷ ns | false ↦ n ∷ with_name ns p ] ]))
    by true c k = (l, a)
    by false true k = a
    by false false k = (a.0, k)

order_name : (p : Part) (ns : List (List ℕ)) → InNameOrder (rows_of ns) → InNameOrder (rows_of (with_name ns p))
unfolding with_name
order_name p [] o = (tt, tt)
order_name p (n ∷ ns) o = by (name_lt p.name n) (bytes_eq p.name n) refl refl (order_name p ns o.1)
  where
    by : (b c : Bool) → name_lt p.name n ≡ b → bytes_eq p.name n ≡ c → InNameOrder (rows_of (with_name ns p)) → InNameOrder (rows_of (elim b as (λ _. List (List ℕ)) [ true ↦ p.name ∷ n ∷ ns | false ↦ elim c as (λ _. List (List ℕ)) [ true ↦ n ∷ ns | false ↦ n ∷ with_name ns p ] ]))
    by true c l e k = ((l, after_less p.name n (rows_of ns) l o.0), o)
    by false true l e k = o
    by false false l e k = (after_name n p ns (name_lt_total p.name n l (other e)) o.0, k)
      where
        other : bytes_eq p.name n ≡ false → bytes_eq n p.name ≡ false
        other e = at (bytes_eq n p.name) refl
          where
            at : (b : Bool) → bytes_eq n p.name ≡ b → b ≡ false
            at false q = refl
            at true q = let same : n ≡ p.name = text_same n p.name q in let z = ap (λ m. bytes_eq p.name m) same in let y = text_self p.name in absurd (cc)

order_parts : (ps : List Part) (ns : List (List ℕ)) → InNameOrder (rows_of ns) → InNameOrder (rows_of (fold with_name ns ps))
order_parts [] ns o = o
order_parts (p ∷ ps) ns o = order_parts ps (with_name ns p) (order_name p ns o)

order_names : (ss : List Source) (ns : List (List ℕ)) → InNameOrder (rows_of ns) → InNameOrder (rows_of (fold (λ ns (s : Source). fold with_name ns s.parts) ns ss))
order_names [] ns o = o
order_names (s ∷ ss) ns o = order_names ss (fold with_name ns s.parts) (order_parts s.parts ns o)

pub base_name : (i : Install) (g : List ℕ) (b : Base) → base_of i g ≡ Some b → b.name ≡ g
unfolding base_of base_from
base_name i g b e = by (best_of beats (candidates i g i.sources)) e
  where
    by : (o : Option Candidate) → base_of_best i g o ≡ Some b → b.name ≡ g
    by None e = absurd (cc)
    by (Some c) e = let q : base_from i g c ≡ b = cc in ap (λ (z : Base). z.name) (sym q)

after_bases : (i : Install) (h : List ℕ) (ns : List (List ℕ)) → AllAfter h (rows_of ns) → AllAfter h (map base_row (bases_for i ns))
unfolding bases_for base_row
after_bases i h [] a = tt
after_bases i h (n ∷ ns) a = by (base_of i n) refl (after_bases i h ns a.1)
  where
    by : (o : Option Base) → base_of i n ≡ o → AllAfter h (map base_row (bases_for i ns)) → AllAfter h (map base_row (elim o as (λ _. List Base) [ None ↦ bases_for i ns | Some b ↦ b ∷ bases_for i ns ]))
    by None e k = k
    by (Some b) e k = (subst (λ z. name_lt h z ≡ true) (sym (base_name i n b e)) a.0, k)

order_bases : (i : Install) (ns : List (List ℕ)) → InNameOrder (rows_of ns) → InNameOrder (map base_row (bases_for i ns))
unfolding bases_for base_row
order_bases i [] o = tt
order_bases i (n ∷ ns) o = by (base_of i n) refl (order_bases i ns o.1)
  where
    by : (b : Option Base) → base_of i n ≡ b → InNameOrder (map base_row (bases_for i ns)) → InNameOrder (map base_row (elim b as (λ _. List Base) [ None ↦ bases_for i ns | Some b ↦ b ∷ bases_for i ns ]))
    by None e k = k
    by (Some b) e k = (subst (λ z. AllAfter z (map base_row (bases_for i ns))) (sym (base_name i n b e)) (after_bases i n ns o.0), k)

pub bases_ordered : (i : Install) → InNameOrder (map base_row (bases_of i))
unfolding bases_of names_in
bases_ordered i = order_bases i (names_in i.sources) (order_names i.sources [] tt)

-- each name differs from those after it
comes_later : (g n : List ℕ) → name_lt g n ≡ true → bytes_eq n g ≡ false
comes_later g n l = text_other n g (λ q. let f : name_lt g g ≡ true = subst (λ z. name_lt g z ≡ true) q l in let k = lt_self g in cc)

others_differ : (g : List ℕ) (bs : List Base) → AllAfter g (map base_row bs) → list_any (λ y. bytes_eq y.group g) (map base_leader bs) ≡ false
unfolding base_row base_leader
others_differ g [] a = refl
others_differ g (b ∷ bs) a = rw (comes_later g b.name a.0) (others_differ g bs a.1)

pub leaders_differ : (bs : List Base) → InNameOrder (map base_row bs) → IsTrue (names_differ (map base_leader bs))
unfolding base_row base_leader
leaders_differ [] o = refl
leaders_differ (b ∷ bs) o = rw (others_differ b.name bs o.0) (leaders_differ bs o.1)
