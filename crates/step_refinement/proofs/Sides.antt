-- The sources of an install that answers made: one of each old view, from which some answer came, with just the nodes
-- that answered from there; and the names of what each carries differ.
use Rattle.std.proofs.Common.{◌≡◌, ◌⊎◌, ℕ, Bool, true, false, cond, List, [], ◌∷◌, ◌++◌, Option, Some, None, refl, sym, ap, subst, ◌∙◌, append_assoc, append-nil, inl, inr, ⊎_elim, arith}
use Rattle.std.specs.Prelude.{IsTrue, map, find, ◌==◌, ◌||◌, ◌&&◌}
use Rattle.std.specs.Str.{bytes_eq}
use Rattle.std.proofs.lemmas.Bool.{eqb-true, eq-eqb, and_parts}
use Rattle.std.proofs.lemmas.Bool.Decides.{nat_tests}
use Rattle.rsct_packet.specs.declared.ids.ViewId.{ViewId}
use Rattle.rsct_packet.specs.declared.mask.Mask.{Mask}
use Rattle.rsct_packet.specs.Ids.{same_view, view_lt}
use Rattle.rsct_packet.specs.Mask.{is_node, no_nodes, has_node, with_node}
use Rattle.rsct_packet.specs.Search.{Has, place_where, edit_where, insert_before}
use Rattle.rsct_packet.proofs.HasLaws.{has_append, append_has_left, append_has_right, has_map}
use Rattle.rsct_packet.proofs.MaskLaws.{has_with, has_no_nodes}
use Rattle.rsct_packet.proofs.SearchLaws.{place_has}
use Rattle.view_state.specs.declared.answer.Answer.{Answer}
use Rattle.view_state.specs.declared.exchange.Exchange.{Exchange}
use Rattle.view_state.specs.declared.sides.Kept.{Kept}
use Rattle.view_state.specs.declared.sides.Side.{Side}
use Rattle.view_state.specs.declared.install.Part.{Part}
use Rattle.view_state.specs.declared.install.Source.{Source}
use Rattle.view_state.specs.Parts.{part_len}
use Rattle.view_state.specs.Answers.{opened, kept_of, is_beaten, better_of, is_kept_of, is_kept_above, with_kept_at, with_kept, with_parts, side_with, side_from, is_side_of, is_side_above, with_side_at, with_side, with_answer, source_of, install_of}
use Rattle.view_state.specs.Bases.{source_at}
use Rattle.view_state.specs.Codec.{views_ascend_from, views_ascend}
use Rattle.view_exchange.specs.Longest.{all_counted, NamesDiffer}
use Rattle.view_state.proofs.ViewOrder.{not_before_itself, before_trans, same_view_is}
use Rattle.view_exchange.proofs.Edits.{inserted_has, has_inserted, Once, edited_has, has_edited, none_placed}
use Rattle.node_state.proofs.NameOrder.{text_same, text_self}

-- ---- names of kept lists

abbrev i_name : Kept → List ℕ
i_name k = k.part.name

named_is : (name : List ℕ) (k : Kept) → is_kept_of name k ≡ true → k.part.name ≡ name
named_is name k e = text_same k.part.name name e

abbrev Differ : List Kept → Type 0
Differ [] = Unit {0}
Differ (k ∷ ks) = ((j : Kept) → Has j ks → j.part.name ≡ k.part.name → ⊥) × Differ ks

not_true_is : (b : Bool) → (b ≡ true → ⊥) → b ≡ false
not_true_is true h = absurd (h refl)
not_true_is false h = refl

not_named : (name : List ℕ) (k : Kept) → is_kept_of name k ≡ false → k.part.name ≡ name → ⊥
not_named name k f e =
    let t : is_kept_of name k ≡ true = subst (λ z. bytes_eq z name ≡ true) (sym e) (text_self name) in
    absurd (cc)

once_named : (name : List ℕ) (ks : List Kept) → Differ ks → Once (is_kept_of name) ks
once_named name [] d = tt
once_named name (k ∷ ks) d =
    (λ t j h. not_true_is (is_kept_of name j) (λ s. d.0 j h (named_is name j s ∙ sym (named_is name k t))), once_named name ks d.1)

better_name : (new k : Kept) → k.part.name ≡ new.part.name → (better_of new k).part.name ≡ new.part.name
better_name new k e = by (is_beaten k new.node (part_len new.part))
  where
    by : (t : Bool) → i_name (elim t as (λ _. Kept) [ true ↦ new | false ↦ k ]) ≡ new.part.name
    by true = refl
    by false = e

edit_differ : (new : Kept) (ks : List Kept) → Differ ks → Differ (edit_where (is_kept_of new.part.name) (better_of new) ks)
edit_differ new [] d = tt
edit_differ new (k ∷ ks) d = by (is_kept_of new.part.name k) refl (edit_differ new ks d.1)
  where
    by : (t : Bool) → is_kept_of new.part.name k ≡ t → Differ (edit_where (is_kept_of new.part.name) (better_of new) ks) → Differ (cond t (better_of new k ∷ ks) (k ∷ edit_where (is_kept_of new.part.name) (better_of new) ks))
    by true e more = (λ j h s. d.0 j h (s ∙ (better_name new k (named_is new.part.name k e) ∙ sym (named_is new.part.name k e))), d.1)
    by false e more = (
      λ j h s.
          ⊎_elim (λ (r : Has j ks × (is_kept_of new.part.name j ≡ false)). d.0 j r.0 s)
          (λ (r : (i : Kept) × Has i ks × (is_kept_of new.part.name i ≡ true) × (j ≡ better_of new i)).
          let same : i_name r.0 ≡ i_name j = sym (ap i_name r.3 ∙ (better_name new r.0 (named_is new.part.name r.0 r.2) ∙ sym (named_is new.part.name r.0 r.2))) in
          d.0 r.0 r.1 (same ∙ s))
          (edited_has (is_kept_of new.part.name) (better_of new) j ks (once_named new.part.name ks d.1) h),
      more,
    )

insert_differ : (test : Kept → Bool) (new : Kept) (ks : List Kept) → Differ ks → ((k : Kept) → Has k ks → k.part.name ≡ new.part.name → ⊥) → Differ (insert_before test new ks)
insert_differ test new [] d none = (λ j h s. h, tt)
insert_differ test new (k ∷ ks) d none = by (test k) (insert_differ test new ks d.1 (λ j h. none j (inr h)))
  where
    by : (t : Bool) → Differ (insert_before test new ks) → Differ (cond t (new ∷ k ∷ ks) (k ∷ insert_before test new ks))
    by true more = (λ j h s. none j h s, d)
    by false more = (
      λ j h s.
          ⊎_elim (λ (e : j ≡ new). none k (inl refl) (sym (sym (ap i_name e) ∙ s)))
          (λ (r : Has j ks). d.0 j r s)
          (inserted_has test new j ks h),
      more,
    )

kept_differ : (ks : List Kept) (new : Kept) → Differ ks → Differ (with_kept ks new)
unfolding with_kept
kept_differ ks new d = by (place_where (is_kept_of new.part.name) ks) refl
  where
    by : (o : Option ℕ) → place_where (is_kept_of new.part.name) ks ≡ o → Differ (with_kept_at ks new o)
    by None e = insert_differ (is_kept_above new.part.name) new ks d (λ k m s. not_named new.part.name k (none_placed (is_kept_of new.part.name) ks k e m) s)
    by (Some i) e = edit_differ new ks d

parts_differ : (n : ℕ) (ps : List Part) (ks : List Kept) → Differ ks → Differ (with_parts n ks ps)
unfolding with_parts
parts_differ n [] ks d = d
parts_differ n (p ∷ ps) ks d = parts_differ n ps (with_kept ks (kept_of n p)) (kept_differ ks (kept_of n p) d)

map_differ : (n : ℕ) (ps : List Part) → NamesDiffer ps → Differ (map (kept_of n) ps)
map_differ n [] d = tt
map_differ n (p ∷ ps) d =
    (λ j h s. let m = has_map (kept_of n) j ps h in d.0 m.0 m.1 (sym (ap i_name m.2) ∙ s), map_differ n ps d.1)

part_names : (ks : List Kept) → Differ ks → NamesDiffer (map (λ (k : Kept). k.part) ks)
part_names [] d = tt
part_names (k ∷ ks) d =
    (λ q h s. let m = has_map (λ (z : Kept). z.part) q ks h in d.0 m.0 m.1 (sym (ap (λ (z : Part). z.name) m.2) ∙ s), part_names ks d.1)

-- ---- views ascend

abbrev Ascend : List Side → Type 0
Ascend [] = Unit {0}
Ascend (s ∷ ss) = ((t : Side) → Has t ss → view_lt s.view t.view ≡ true) × Ascend ss

same_itself : (v : ViewId) → same_view v v ≡ true
same_itself v = grind (arith, nat_tests)

else_before : (a b : ViewId) → view_lt a b ≡ false → same_view b a ≡ false → view_lt b a ≡ true
else_before a b p q = grind (arith, nat_tests)

view_is : (v : ViewId) (s : Side) → is_side_of v s ≡ true → s.view ≡ v
view_is v s e = same_view_is s.view v e

not_view : (v : ViewId) (s : Side) → is_side_of v s ≡ false → s.view ≡ v → ⊥
not_view v s f e = let t : same_view s.view v ≡ true = subst (λ (z : ViewId). same_view z v ≡ true) (sym e) (same_itself v) in absurd (cc)

not_both : (v : ViewId) → view_lt v v ≡ true → ⊥
not_both v e = let f = not_before_itself v in absurd (cc)

with_view : (a : Answer) (s : Side) → (side_with a s).view ≡ s.view
unfolding side_with
with_view a s = refl

from_view : (a : Answer) → (side_from a).view ≡ a.view
unfolding side_from
from_view a = refl

abbrev s_view : Side → ViewId
s_view s = s.view

once_view : (v : ViewId) (ss : List Side) → Ascend ss → Once (is_side_of v) ss
once_view v [] d = tt
once_view v (s ∷ ss) d =
    (λ e t h. not_true_is (is_side_of v t) (λ f. not_both v (subst (λ (z : ViewId × ViewId). view_lt z.0 z.1 ≡ true) (λ i. (view_is v s e i, view_is v t f i)) (d.0 t h))), once_view v ss d.1)

edit_ascend : (a : Answer) (ss : List Side) → Ascend ss → Ascend (edit_where (is_side_of a.view) (side_with a) ss)
edit_ascend a [] d = tt
edit_ascend a (s ∷ ss) d = by (is_side_of a.view s) refl (edit_ascend a ss d.1)
  where
    by : (t : Bool) → is_side_of a.view s ≡ t → Ascend (edit_where (is_side_of a.view) (side_with a) ss) → Ascend (cond t (side_with a s ∷ ss) (s ∷ edit_where (is_side_of a.view) (side_with a) ss))
    by true e more = (λ t h. subst (λ z. view_lt z t.view ≡ true) (sym (with_view a s)) (d.0 t h), d.1)
    by false e more = (
      λ t h.
          ⊎_elim (λ (r : Has t ss × (is_side_of a.view t ≡ false)). d.0 t r.0)
          (λ (r : (u : Side) × Has u ss × (is_side_of a.view u ≡ true) × (t ≡ side_with a u)). subst (λ z. view_lt s.view z ≡ true) (sym (ap s_view r.3 ∙ with_view a r.0)) (d.0 r.0 r.1))
          (edited_has (is_side_of a.view) (side_with a) t ss (once_view a.view ss d.1) h),
      more,
    )

insert_ascend : (v : ViewId) (new : Side) (ss : List Side) → new.view ≡ v → Ascend ss → ((s : Side) → Has s ss → is_side_of v s ≡ false) → Ascend (insert_before (is_side_above v) new ss)
insert_ascend v new [] e d none = (λ t h. absurd h, tt)
insert_ascend v new (s ∷ ss) e d none = by (is_side_above v s) refl (insert_ascend v new ss e d.1 (λ t h. none t (inr h)))
  where
    by : (t : Bool) → is_side_above v s ≡ t → Ascend (insert_before (is_side_above v) new ss) → Ascend (cond t (new ∷ s ∷ ss) (s ∷ insert_before (is_side_above v) new ss))
    by true q more =
        let first : view_lt new.view s.view ≡ true = subst (λ z. view_lt z s.view ≡ true) (sym e) q in (
          λ t h.
              ⊎_elim (λ (r : t ≡ s). subst (λ (z : Side). view_lt new.view z.view ≡ true) (sym r) first) (λ (r : Has t ss). before_trans new.view s.view t.view first (d.0 t r)) h,
          d,
        )
    by false q more = (
      λ t h.
          ⊎_elim (λ (r : t ≡ new). subst (λ z. view_lt s.view z ≡ true) (sym (ap s_view r ∙ e)) (else_before v s.view q (none s (inl refl)))) (λ (r : Has t ss). d.0 t r) (inserted_has (is_side_above v) new t ss h),
      more,
    )

-- ---- the sides of answers

record SidesAre (given : List Answer) (ss : List Side) : Type 0 where
  ascend : Ascend ss
  from : (s : Side) → Has s ss → (a : Answer) × Has a given × (a.view ≡ s.view)
  each : (a : Answer) → Has a given → (s : Side) × Has s ss × (s.view ≡ a.view)
  nodes : (s : Side) → Has s ss → (k : ℕ) → has_node s.nodes k ≡ true → (a : Answer) × Has a given × (a.node ≡ k) × (a.view ≡ s.view)
  holds : (a : Answer) → Has a given → (s : Side) → Has s ss → s.view ≡ a.view → has_node s.nodes a.node ≡ true
  differ : (s : Side) → Has s ss → Differ s.parts

or_left : (a b : Bool) → a ≡ true → (a || b) ≡ true
or_left true b e = refl
or_left false b e = absurd (cc)

pub or_right : (a b : Bool) → b ≡ true → (a || b) ≡ true
or_right true b e = refl
or_right false b e = e

or_split : (a b : Bool) → (a || b) ≡ true → (a ≡ true) ⊎ (b ≡ true)
or_split true b e = inl refl
or_split false b e = inr e

pub and_true : (a b : Bool) → a ≡ true → b ≡ true → (a && b) ≡ true
and_true true b e f = f
and_true false b e f = absurd (cc)

-- one that was there is there, and so is the one put in
stays : (m : Mask) (n k : ℕ) → has_node m k ≡ true → has_node (with_node m n) k ≡ true
stays m n k e = has_with m n k ∙ or_left (has_node m k) (is_node n && k == n) e

put_in : (m : Mask) (n : ℕ) → is_node n ≡ true → has_node (with_node m n) n ≡ true
put_in m n e = has_with m n n ∙ or_right (has_node m n) (is_node n && n == n) (and_true (is_node n) (n == n) e (eq-eqb n n refl))

put_or : (m : Mask) (n k : ℕ) → has_node (with_node m n) k ≡ true → (has_node m k ≡ true) ⊎ (k ≡ n)
put_or m n k e =
    ⊎_elim (λ (a : has_node m k ≡ true). inl a) (λ (b : (is_node n && k == n) ≡ true). inr (eqb-true k n (and_parts (is_node n) (k == n) b).1)) (or_split (has_node m k) (is_node n && k == n) (sym (has_with m n k) ∙ e))

with_nodes : (a : Answer) (s : Side) → (side_with a s).nodes ≡ with_node s.nodes a.node
unfolding side_with
with_nodes a s = refl

from_nodes : (a : Answer) → (side_from a).nodes ≡ with_node no_nodes a.node
unfolding side_from
from_nodes a = refl

with_differ : (a : Answer) (s : Side) → Differ s.parts → Differ (side_with a s).parts
unfolding side_with
with_differ a s d = parts_differ a.node a.parts s.parts d

from_differ : (a : Answer) → NamesDiffer a.parts → Differ (side_from a).parts
unfolding side_from
from_differ a d = map_differ a.node a.parts d

last_one : (a b : Answer) (given : List Answer) → Has b (given ++ a ∷ []) → Has b given ⊎ (b ≡ a)
last_one a b given h =
    ⊎_elim (λ (i : Has b given). inl i) (λ (i : Has b (a ∷ [])). inr (only b i)) (has_append b given (a ∷ []) h)
  where
    only : (b : Answer) → Has b (a ∷ []) → b ≡ a
    only b (inl e) = e
    only b (inr z) = absurd z

module _ (given : List Answer) (ss : List Side) (a : Answer) (names : NamesDiffer a.parts) (numbered : is_node a.node ≡ true) (h : SidesAre given ss) where
  abbrev more : List Answer
  more = given ++ a ∷ []

  kept_on : (b : Answer) → Has b given → Has b more
  kept_on b i = append_has_left b given (a ∷ []) i

  a_last : Has a more
  a_last = append_has_right a given (a ∷ []) (inl refl)

  abbrev test : Side → Bool
  test = is_side_of a.view

  inserted : place_where test ss ≡ None → SidesAre more (insert_before (is_side_above a.view) (side_from a) ss)
  inserted e =
      record {
        ascend = insert_ascend a.view (side_from a) ss (from_view a) h.ascend none;
        from = λ s m. ⊎_elim (λ (r : s ≡ side_from a). (a, a_last, sym (ap s_view r ∙ from_view a))) (λ (r : Has s ss). let z = h.from s r in (z.0, kept_on z.0 z.1, z.2)) (split s m);
        each = λ b i. ⊎_elim (λ (r : Has b given). let z = h.each b r in (z.0, has_inserted above (side_from a) z.0 ss (inr z.1), z.2)) (λ (r : b ≡ a). (side_from a, has_inserted above (side_from a) (side_from a) ss (inl refl), from_view a ∙ sym (ap (λ (z : Answer). z.view) r))) (last_one a b given i);
        nodes = λ s m k q. ⊎_elim (λ (r : s ≡ side_from a). new_nodes s k r q) (λ (r : Has s ss). let z = h.nodes s r k q in (z.0, kept_on z.0 z.1, z.2, z.3)) (split s m);
        holds = λ b i s m q. ⊎_elim (λ (r : s ≡ side_from a). new_holds b (last_one a b given i) s r q) (λ (r : Has s ss). old_holds b (last_one a b given i) s r q) (split s m);
        differ = λ s m. ⊎_elim (λ (r : s ≡ side_from a). subst (λ (z : Side). Differ z.parts) (sym r) (from_differ a names)) (λ (r : Has s ss). h.differ s r) (split s m);
      }
    where
      above : Side → Bool
      above = is_side_above a.view

      none : (s : Side) → Has s ss → is_side_of a.view s ≡ false
      none s m = none_placed test ss s e m

      split : (s : Side) → Has s (insert_before above (side_from a) ss) → (s ≡ side_from a) ⊎ Has s ss
      split s m = inserted_has above (side_from a) s ss m

      new_nodes : (s : Side) (k : ℕ) → s ≡ side_from a → has_node s.nodes k ≡ true → (b : Answer) × Has b more × (b.node ≡ k) × (b.view ≡ s.view)
      new_nodes s k r q =
          let there : has_node (with_node no_nodes a.node) k ≡ true = subst (λ z. has_node z k ≡ true) (ap (λ (z : Side). z.nodes) r ∙ from_nodes a) q in
          let same : k ≡ a.node = ⊎_elim (λ (z : has_node no_nodes k ≡ true). absurd (let f = has_no_nodes k in cc)) (λ (z : k ≡ a.node). z) (put_or no_nodes a.node k there) in
          (a, a_last, sym same, sym (ap s_view r ∙ from_view a))

      new_holds : (b : Answer) → Has b given ⊎ (b ≡ a) → (s : Side) → s ≡ side_from a → s.view ≡ b.view → has_node s.nodes b.node ≡ true
      new_holds b (inl i) s r q =
          let z = h.each b i in
          absurd (not_view a.view z.0 (none z.0 z.1) (z.2 ∙ sym q ∙ ap s_view r ∙ from_view a))
      new_holds b (inr i) s r q =
          subst (λ (z : Mask × ℕ). has_node z.0 z.1 ≡ true) (λ j. (sym (ap (λ (z : Side). z.nodes) r ∙ from_nodes a) j, sym (ap (λ (z : Answer). z.node) i) j)) (put_in no_nodes a.node numbered)

      old_holds : (b : Answer) → Has b given ⊎ (b ≡ a) → (s : Side) → Has s ss → s.view ≡ b.view → has_node s.nodes b.node ≡ true
      old_holds b (inl i) s r q = h.holds b i s r q
      old_holds b (inr i) s r q = absurd (not_view a.view s (none s r) (q ∙ ap (λ (z : Answer). z.view) i))

  edited : (i : ℕ) → place_where test ss ≡ Some i → SidesAre more (edit_where test (side_with a) ss)
  edited i e =
      record {
        ascend = edit_ascend a ss h.ascend;
        from = λ s m. ⊎_elim (λ (r : Old s). let z = h.from s r.0 in (z.0, kept_on z.0 z.1, z.2)) (λ (r : New s). let z = h.from r.0 r.1 in (z.0, kept_on z.0 z.1, z.2 ∙ sym (ap s_view r.3 ∙ with_view a r.0))) (split s m);
        each = λ b j. ⊎_elim (λ (r : Has b given). let z = h.each b r in let k = found z.0 z.1 in (k.0, k.1, k.2 ∙ z.2)) (λ (r : b ≡ a). let z = place_has test ss i e in let k = found z.0 z.1 in (k.0, k.1, k.2 ∙ view_is a.view z.0 z.2 ∙ sym (ap (λ (z : Answer). z.view) r))) (last_one a b given j);
        nodes = λ s m k q. ⊎_elim (λ (r : Old s). let z = h.nodes s r.0 k q in (z.0, kept_on z.0 z.1, z.2, z.3)) (λ (r : New s). new_nodes s k r q) (split s m);
        holds = λ b j s m q. ⊎_elim (λ (r : Old s). old_holds b (last_one a b given j) s r q) (λ (r : New s). new_holds b (last_one a b given j) s r q) (split s m);
        differ = λ s m. ⊎_elim (λ (r : Old s). h.differ s r.0) (λ (r : New s). subst (λ (z : Side). Differ z.parts) (sym r.3) (with_differ a r.0 (h.differ r.0 r.1))) (split s m);
      }
    where
      Old : Side → Type 0
      Old s = Has s ss × (test s ≡ false)

      New : Side → Type 0
      New s = (u : Side) × Has u ss × (test u ≡ true) × (s ≡ side_with a u)

      split : (s : Side) → Has s (edit_where test (side_with a) ss) → Old s ⊎ New s
      split s m = edited_has test (side_with a) s ss (once_view a.view ss h.ascend) m

      found : (x : Side) → Has x ss → (s : Side) × Has s (edit_where test (side_with a) ss) × (s.view ≡ x.view)
      found x m =
          ⊎_elim (λ (r : Has x (edit_where test (side_with a) ss)). (x, r, refl)) (λ (r : (test x ≡ true) × Has (side_with a x) (edit_where test (side_with a) ss)). (side_with a x, r.1, with_view a x)) (has_edited test (side_with a) x ss m)

      new_nodes : (s : Side) (k : ℕ) → New s → has_node s.nodes k ≡ true → (b : Answer) × Has b more × (b.node ≡ k) × (b.view ≡ s.view)
      new_nodes s k r q =
          let there : has_node (with_node r.0.nodes a.node) k ≡ true = subst (λ z. has_node z k ≡ true) (ap (λ (z : Side). z.nodes) r.3 ∙ with_nodes a r.0) q in
          let same : s.view ≡ r.0.view = ap s_view r.3 ∙ with_view a r.0 in
          ⊎_elim (λ (y : has_node r.0.nodes k ≡ true). let z = h.nodes r.0 r.1 k y in (z.0, kept_on z.0 z.1, z.2, z.3 ∙ sym same)) (λ (y : k ≡ a.node). (a, a_last, sym y, sym (same ∙ view_is a.view r.0 r.2))) (put_or r.0.nodes a.node k there)

      new_holds : (b : Answer) → Has b given ⊎ (b ≡ a) → (s : Side) → New s → s.view ≡ b.view → has_node s.nodes b.node ≡ true
      new_holds b (inl j) s r q =
          subst (λ z. has_node z b.node ≡ true) (sym (ap (λ (z : Side). z.nodes) r.3 ∙ with_nodes a r.0)) (stays r.0.nodes a.node b.node (h.holds b j r.0 r.1 (sym (ap s_view r.3 ∙ with_view a r.0) ∙ q)))
      new_holds b (inr j) s r q =
          subst (λ (z : Mask × ℕ). has_node z.0 z.1 ≡ true) (λ k. (sym (ap (λ (z : Side). z.nodes) r.3 ∙ with_nodes a r.0) k, sym (ap (λ (z : Answer). z.node) j) k)) (put_in r.0.nodes a.node numbered)

      old_holds : (b : Answer) → Has b given ⊎ (b ≡ a) → (s : Side) → Old s → s.view ≡ b.view → has_node s.nodes b.node ≡ true
      old_holds b (inl j) s r q = h.holds b j s r.0 q
      old_holds b (inr j) s r q = absurd (not_view a.view s r.1 (q ∙ ap (λ (z : Answer). z.view) j))

  side_more : SidesAre more (with_side ss a)
  unfolding with_side
  side_more = by (place_where test ss) refl
    where
      by : (o : Option ℕ) → place_where test ss ≡ o → SidesAre more (with_side_at ss a o)
      by None e = inserted e
      by (Some i) e = edited i e

answer_sides : (x : Exchange) (a : Answer) → (with_answer x a).sides ≡ with_side x.sides a
unfolding with_answer
answer_sides x a = refl

all_sides : (given past : List Answer) (x : Exchange) → ((a : Answer) → Has a given → NamesDiffer a.parts) → ((a : Answer) → Has a given → is_node a.node ≡ true) → SidesAre past x.sides → SidesAre (past ++ given) (all_counted x given).sides
all_sides [] past x d numbered h = subst (λ (z : List Answer). SidesAre z x.sides) (sym (append-nil past)) h
all_sides (a ∷ given) past x d numbered h =
    subst (λ (z : List Answer). SidesAre z (all_counted (with_answer x a) given).sides) (append_assoc past (a ∷ []) given) (all_sides given (past ++ a ∷ []) (with_answer x a) (λ b m. d b (inr m)) (λ b m. numbered b (inr m)) (subst (λ (ss : List Side). SidesAre (past ++ a ∷ []) ss) (sym (answer_sides x a)) (side_more past x.sides a (d a (inl refl)) (numbered a (inl refl)) h)))

nothing_there : (v : ViewId) (asked : Mask) → SidesAre [] (opened v asked).sides
unfolding opened
nothing_there v asked =
    record { ascend = tt; from = λ s m. absurd m; each = λ a m. absurd m; nodes = λ s m k q. absurd m; holds = λ a i s m q. absurd m; differ = λ s m. absurd m }

-- ---- the sources

pub record SourcesAre (given : List Answer) (ss : List Source) : Type 0 where
  pub ascend : IsTrue (views_ascend ss)
  pub found : (s : Source) → Has s ss → source_at ss s.view ≡ Some s
  pub from : (s : Source) → Has s ss → (a : Answer) × Has a given × (a.view ≡ s.view)
  pub each : (a : Answer) → Has a given → (s : Source) × Has s ss × (s.view ≡ a.view)
  pub nodes : (s : Source) → Has s ss → (k : ℕ) → has_node s.nodes k ≡ true → (a : Answer) × Has a given × (a.node ≡ k) × (a.view ≡ s.view)
  pub holds : (a : Answer) → Has a given → (s : Source) → Has s ss → s.view ≡ a.view → has_node s.nodes a.node ≡ true
  pub differ : (s : Source) → Has s ss → NamesDiffer s.parts

source_has : (s : Side) (ss : List Side) → Has s ss → Has (source_of s) (map source_of ss)
source_has s [] h = absurd h
source_has s (t ∷ ss) (inl e) = inl (ap source_of e)
source_has s (t ∷ ss) (inr h) = inr (source_has s ss h)

ascend_from : (v : ViewId) (ss : List Side) → ((t : Side) → Has t ss → view_lt v t.view ≡ true) → Ascend ss → IsTrue (views_ascend_from (Some v) (map source_of ss))
ascend_from v [] below d = refl
ascend_from v (s ∷ ss) below d =
    and_true (view_lt v s.view) (views_ascend_from (Some s.view) (map source_of ss)) (below s (inl refl)) (ascend_from s.view ss d.0 d.1)

ascend_all : (ss : List Side) → Ascend ss → IsTrue (views_ascend (map source_of ss))
ascend_all [] d = refl
ascend_all (s ∷ ss) d = ascend_from s.view ss d.0 d.1

found_side : (ss : List Side) (s : Side) → Ascend ss → Has s ss → find (λ (t : Source). same_view t.view s.view) (map source_of ss) ≡ Some (source_of s)
found_side [] s d h = absurd h
found_side (t ∷ ss) s d (inl e) =
    ap (λ b. cond b (Some (source_of t)) (find (λ (z : Source). same_view z.view s.view) (map source_of ss))) (ap (λ (z : Side). same_view z.view s.view) (sym e) ∙ same_itself s.view) ∙ ap (λ z. Some (source_of z)) (sym e)
found_side (t ∷ ss) s d (inr h) =
    ap (λ b. cond b (Some (source_of t)) (find (λ (z : Source). same_view z.view s.view) (map source_of ss))) (not_true_is (same_view t.view s.view) (λ e. not_both s.view (subst (λ z. view_lt z s.view ≡ true) (same_view_is t.view s.view e) (d.0 s h)))) ∙ found_side ss s d.1 h

pub sources_are : (v : ViewId) (asked : Mask) (given : List Answer) → ((a : Answer) → Has a given → NamesDiffer a.parts) → ((a : Answer) → Has a given → is_node a.node ≡ true) → SourcesAre given (install_of (all_counted (opened v asked) given)).sources
unfolding install_of source_at
sources_are v asked given d numbered =
    record {
      ascend = ascend_all sides k.ascend;
      found = λ s m. let r = back s m in subst (λ (z : Source). find (λ (t : Source). same_view t.view z.view) (map source_of sides) ≡ Some z) (sym r.2) (found_side sides r.0 k.ascend r.1);
      from = λ s m. let r = back s m in let z = k.from r.0 r.1 in (z.0, z.1, z.2 ∙ sym (ap (λ (z : Source). z.view) r.2));
      each = λ a m. let z = k.each a m in (source_of z.0, source_has z.0 sides z.1, z.2);
      nodes = λ s m n q. let r = back s m in let z = k.nodes r.0 r.1 n (subst (λ (y : Source). has_node y.nodes n ≡ true) r.2 q) in (z.0, z.1, z.2, z.3 ∙ sym (ap (λ (z : Source). z.view) r.2));
      holds = λ a i s m q. let r = back s m in subst (λ (y : Source). has_node y.nodes a.node ≡ true) (sym r.2) (k.holds a i r.0 r.1 (sym (ap (λ (z : Source). z.view) r.2) ∙ q));
      differ = λ s m. let r = back s m in subst (λ (z : Source). NamesDiffer z.parts) (sym r.2) (part_names r.0.parts (k.differ r.0 r.1));
    }
  where
    sides : List Side
    sides = (all_counted (opened v asked) given).sides

    k : SidesAre given sides
    k = all_sides given [] (opened v asked) d numbered (nothing_there v asked)

    back : (s : Source) → Has s (map source_of sides) → (r : Side) × Has r sides × (s ≡ source_of r)
    back s m = has_map source_of s sides m
