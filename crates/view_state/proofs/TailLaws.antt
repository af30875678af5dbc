-- A gathering of parts of lists keeps parts of lists, and so does its install.
use Rattle.std.proofs.Common.{◌≡◌, ℕ, Bool, true, false, cond, List, [], ◌∷◌, Option, Some, None, refl, sym, subst}
use Rattle.std.specs.Prelude.{map, IfOk, Result, Ok, Err}
use Rattle.rsct_packet.specs.declared.ids.ViewId.{ViewId}
use Rattle.rsct_packet.specs.declared.mask.Mask.{Mask}
use Rattle.rsct_packet.specs.Format.{EachFits}
use Rattle.rsct_packet.specs.Search.{place_where, edit_where, insert_before}
use Rattle.view_state.specs.declared.answer.Answer.{Answer}
use Rattle.view_state.specs.declared.exchange.Exchange.{Exchange}
use Rattle.view_state.specs.declared.sides.Kept.{Kept}
use Rattle.view_state.specs.declared.sides.Side.{Side}
use Rattle.view_state.specs.declared.install.Part.{Part}
use Rattle.view_state.specs.declared.install.Install.{Install}
use Rattle.view_state.specs.Parts.{part_len}
use Rattle.view_state.specs.Answers.{opened, kept_of, is_beaten, better_of, is_kept_of, is_kept_above, with_kept_at, with_kept, with_parts, side_with, side_from, is_side_of, is_side_above, with_side_at, with_side, with_answer, source_of, install_of}
use Rattle.view_state.specs.Tails.{IsTail, AreTails, HasTails, IsKeptTail, AreKeptTails, KeepsTails}

insert_fits : {A : Type 0} (fits : A → Type 0) (test : A → Bool) (y : A) (xs : List A) → fits y → EachFits fits xs → EachFits fits (insert_before test y xs)
insert_fits fits test y [] h k = (h, tt)
insert_fits fits test y (x ∷ xs) h k =
    let more = insert_fits fits test y xs h k.1 in
    elim (test x) as (λ b. EachFits fits (cond b (y ∷ x ∷ xs) (x ∷ insert_before test y xs))) [
      | true ↦ (h, k)
      | false ↦ (k.0, more)
    ]

edit_fits : {A : Type 0} (fits : A → Type 0) (test : A → Bool) (f : A → A) (xs : List A) → ((x : A) → fits x → fits (f x)) → EachFits fits xs → EachFits fits (edit_where test f xs)
edit_fits fits test f [] h k = tt
edit_fits fits test f (x ∷ xs) h k =
    let more = edit_fits fits test f xs h k.1 in
    elim (test x) as (λ b. EachFits fits (cond b (f x ∷ xs) (x ∷ edit_where test f xs))) [
      | true ↦ (h x k.0, k.1)
      | false ↦ (k.0, more)
    ]

better_fits : (new k : Kept) → IsKeptTail new → IsKeptTail k → IsKeptTail (better_of new k)
better_fits new k h g = by (is_beaten k new.node (part_len new.part))
  where
    by : (t : Bool) → IsKeptTail (elim t [ true ↦ new | false ↦ k ])
    by true = h
    by false = g

kept_fits_at : (ks : List Kept) (new : Kept) (o : Option ℕ) → IsKeptTail new → EachFits IsKeptTail ks → EachFits IsKeptTail (with_kept_at ks new o)
kept_fits_at ks new None h k = insert_fits IsKeptTail (is_kept_above new.part.name) new ks h k
kept_fits_at ks new (Some i) h k = edit_fits IsKeptTail (is_kept_of new.part.name) (better_of new) ks (λ x g. better_fits new x h g) k

kept_fits : (ks : List Kept) (new : Kept) → IsKeptTail new → EachFits IsKeptTail ks → EachFits IsKeptTail (with_kept ks new)
unfolding with_kept
kept_fits ks new h k = kept_fits_at ks new (place_where (is_kept_of new.part.name) ks) h k

parts_fit : (n : ℕ) (ks : List Kept) (ps : List Part) → EachFits IsTail ps → EachFits IsKeptTail ks → EachFits IsKeptTail (with_parts n ks ps)
unfolding with_parts
parts_fit n ks [] h k = k
parts_fit n ks (p ∷ ps) h k = parts_fit n (with_kept ks (kept_of n p)) ps h.1 (kept_fits ks (kept_of n p) h.0 k)

map_fits : (n : ℕ) (ps : List Part) → EachFits IsTail ps → EachFits IsKeptTail (map (kept_of n) ps)
map_fits n [] h = tt
map_fits n (p ∷ ps) h = (h.0, map_fits n ps h.1)

side_with_fits : (a : Answer) (s : Side) → EachFits IsTail a.parts → AreKeptTails s → AreKeptTails (side_with a s)
unfolding side_with
side_with_fits a s h k = parts_fit a.node s.parts a.parts h k

side_from_fits : (a : Answer) → EachFits IsTail a.parts → AreKeptTails (side_from a)
unfolding side_from
side_from_fits a h = map_fits a.node a.parts h

sides_fit_at : (ss : List Side) (a : Answer) (o : Option ℕ) → EachFits IsTail a.parts → EachFits AreKeptTails ss → EachFits AreKeptTails (with_side_at ss a o)
sides_fit_at ss a None h k = insert_fits AreKeptTails (is_side_above a.view) (side_from a) ss (side_from_fits a h) k
sides_fit_at ss a (Some i) h k = edit_fits AreKeptTails (is_side_of a.view) (side_with a) ss (λ s g. side_with_fits a s h g) k

pub answer_keeps : (x : Exchange) (a : Answer) → KeepsTails x → EachFits IsTail a.parts → KeepsTails (with_answer x a)
unfolding with_answer with_side
answer_keeps x a h k = record { each = sides_fit_at x.sides a (place_where (is_side_of a.view) x.sides) k h.each }

pub opened_keeps : (v : ViewId) (asked : Mask) → KeepsTails (opened v asked)
unfolding opened
opened_keeps v asked = record { each = tt }

pub begun_keeps : {E : Type 0} (v : ViewId) (asked : Mask) (a : Answer) (r : Result Exchange E) → IfOk r (λ x. x ≡ with_answer (opened v asked) a) → EachFits IsTail a.parts → IfOk r KeepsTails
begun_keeps v asked a (Ok x) e h = subst (λ (y : Exchange). KeepsTails y) (sym e) (answer_keeps (opened v asked) a (opened_keeps v asked) h)
begun_keeps v asked a (Err x) e h = tt

kept_are_tails : (ks : List Kept) → EachFits IsKeptTail ks → EachFits IsTail (map (λ (k : Kept). k.part) ks)
kept_are_tails [] h = tt
kept_are_tails (k ∷ ks) h = (h.0, kept_are_tails ks h.1)

sides_are_tails : (ss : List Side) → EachFits AreKeptTails ss → EachFits AreTails (map source_of ss)
sides_are_tails [] h = tt
sides_are_tails (s ∷ ss) h = (kept_are_tails s.parts h.0, sides_are_tails ss h.1)

pub install_has_tails : (x : Exchange) → KeepsTails x → HasTails (install_of x)
unfolding install_of
install_has_tails x h = record { each = sides_are_tails x.sides h.each }
