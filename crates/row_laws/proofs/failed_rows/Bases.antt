-- Records of a view that is entered, and of its bases.
use Rattle.std.proofs.Common.{◌≡◌, ℕ, List, [], ◌∷◌, ◌++◌, Option, Some, None, Bool, true, false, refl, sym, ap, ◌∙◌, subst, append_assoc, append-nil}
use Rattle.std.specs.Prelude.{map, find, reverse, ◌&&◌, if◌then◌else◌}
use Rattle.std.specs.Str.{bytes_eq}
use Rattle.std.specs.Option.{option_map}
use Rattle.std.proofs.lemmas.Bool.{eq-eqb}
use Rattle.std.proofs.lemmas.List.{reverse-append}
use Rattle.rsct_packet.specs.declared.ids.ViewId.{ViewId}
use Rattle.rsct_packet.specs.declared.ids.Member.{Member}
use Rattle.proposal_core.specs.Fold.{empty_state}
use Rattle.proposal_core.specs.declared.group_state.GroupState.{GroupState}
use Rattle.proposal_core.specs.Lists.{len_in, state_in}
use Rattle.view_state.specs.declared.install.Base.{Base}
use Rattle.view_state.specs.Bases.{base_named}
use Rattle.node_state.specs.declared.group.GroupRow.{GroupRow}
use Rattle.node_state.specs.declared.happened.Happened.{Happened}
use Rattle.node_state.specs.declared.happened.Happened.TheVariants as happened
use Rattle.node_state.specs.State.{AllAfter, InNameOrder, row_found, has_name}
use Rattle.node_state.specs.Applying.{base_row}
use Rattle.run_safety.specs.Past.{History}
use Rattle.run_safety.specs.Stays.{Stay, stays, with_base}
use Rattle.node_state.proofs.NameOrder.{text_same}
use Rattle.step_refinement.proofs.BaseOrder.{row_of_base, base_noted, none_named}
use Rattle.row_laws.specs.failed_rows.Failures.{EachPut}
use Rattle.row_laws.proofs.failed_rows.Facts.{Track}

-- what is noted of the bases puts nothing
pub bases_put : (h : History) (n : ℕ) (v : ViewId) (bs : List Base) (acc : List Happened) → EachPut (reverse acc) h → EachPut (reverse (acc ++ map (base_noted n v) bs)) h
bases_put h n v [] acc k = subst (λ z. EachPut (reverse z) h) (sym (append-nil acc)) k
bases_put h n v (b ∷ bs) acc k =
    subst (λ z. EachPut (reverse z) h) (append_assoc acc (base_noted n v b ∷ []) (map (base_noted n v) bs)) (bases_put h n v bs (acc ++ base_noted n v b ∷ []) (subst (λ z. EachPut z h) (sym (reverse-append acc (base_noted n v b ∷ []))) (tt, k)))

-- the stay begins from the base
abbrev pub from_base : Option Base → List Stay → List Stay
from_base None xs = xs
from_base (Some b) xs = with_base b.state xs

pub bases_stay : (n : ℕ) (v : ViewId) (g : List ℕ) (bs : List Base) (acc rest : List Happened) → InNameOrder (map base_row bs) → stays n g (reverse (acc ++ map (base_noted n v) bs) ++ rest) ≡ from_base (base_named bs g) (stays n g (reverse acc ++ rest))
unfolding base_named base_row
bases_stay n v g [] acc rest o = ap (λ z. stays n g (reverse z ++ rest)) (append-nil acc)
bases_stay n v g (b ∷ bs) acc rest o =
    ap (λ z. stays n g (reverse z ++ rest)) (sym (append_assoc acc (base_noted n v b ∷ []) (map (base_noted n v) bs))) ∙ bases_stay n v g bs (acc ++ base_noted n v b ∷ []) rest o.1 ∙ ap (λ z. from_base (base_named bs g) (stays n g (z ++ rest))) (reverse-append acc (base_noted n v b ∷ [])) ∙ ap (λ z. from_base (base_named bs g) (if z && bytes_eq b.name g then with_base b.state old else old)) (eq-eqb n n refl) ∙ by (bytes_eq b.name g) refl
  where
    old : List Stay
    old = stays n g (reverse acc ++ rest)

    by : (t : Bool) → bytes_eq b.name g ≡ t → from_base (base_named bs g) (if t then with_base b.state old else old) ≡ from_base (if t then Some b else base_named bs g) old
    by true e = ap (λ z. from_base z (with_base b.state old)) (none_named g bs (subst (λ z. AllAfter z (map base_row bs)) (text_same b.name g e) o.0))
    by false e = refl

-- the stay of a view that is entered, with its base
abbrev pub base_is : Option Base → GroupState
base_is None = empty_state
base_is (Some b) = b.state

abbrev pub new_stay : ViewId → GroupState → Stay
new_stay v s = record { view = v; base = s; entries = [] }

pub bases_entered : (n : ℕ) (v : ViewId) (ms : List Member) (g : List ℕ) (bs : List Base) (acc rest : List Happened) → InNameOrder (map base_row bs) → stays n g (reverse ((acc ++ happened.In n v ms ∷ []) ++ map (base_noted n v) bs) ++ rest) ≡ new_stay v (base_is (base_named bs g)) ∷ stays n g (reverse acc ++ rest)
bases_entered n v ms g bs acc rest o =
    bases_stay n v g bs (acc ++ happened.In n v ms ∷ []) rest o ∙ ap (λ z. from_base (base_named bs g) (stays n g (z ++ rest))) (reverse-append acc (happened.In n v ms ∷ [])) ∙ ap (λ z. from_base (base_named bs g) (if z then new_stay v empty_state ∷ stays n g (reverse acc ++ rest) else stays n g (reverse acc ++ rest))) (eq-eqb n n refl) ∙ by (base_named bs g)
  where
    by : (b : Option Base) → from_base b (new_stay v empty_state ∷ stays n g (reverse acc ++ rest)) ≡ new_stay v (base_is b) ∷ stays n g (reverse acc ++ rest)
    by None = refl
    by (Some b) = refl

-- the list of a view that is entered is its base
pub bases_track : (n : ℕ) (v : ViewId) (ms : List Member) (g : List ℕ) (bs : List Base) (acc rest : List Happened) → InNameOrder (map base_row bs) → Track (stays n g (reverse ((acc ++ happened.In n v ms ∷ []) ++ map (base_noted n v) bs) ++ rest)) v (len_in (row_found g (find (has_name g) (map base_row bs))).list) (state_in (row_found g (find (has_name g) (map base_row bs))).list)
unfolding base_row
bases_track n v ms g bs acc rest o =
    subst (λ (z : List Stay × Option GroupRow). Track z.0 v (len_in (row_found g z.1).list) (state_in (row_found g z.1).list)) (λ i. (sym known i, sym (row_of_base g bs) i)) (by (base_named bs g))
  where
    fresh : Stay
    fresh = record { view = v; base = empty_state; entries = [] }

    older : List Stay
    older = stays n g (reverse acc ++ rest)

    known : stays n g (reverse ((acc ++ happened.In n v ms ∷ []) ++ map (base_noted n v) bs) ++ rest) ≡ from_base (base_named bs g) (fresh ∷ older)
    known =
        bases_stay n v g bs (acc ++ happened.In n v ms ∷ []) rest o ∙ ap (λ z. from_base (base_named bs g) (stays n g (z ++ rest))) (reverse-append acc (happened.In n v ms ∷ [])) ∙ ap (λ z. from_base (base_named bs g) (if z then fresh ∷ older else older)) (eq-eqb n n refl)

    by : (b : Option Base) → Track (from_base b (fresh ∷ older)) v (len_in (row_found g (option_map base_row b)).list) (state_in (row_found g (option_map base_row b)).list)
    by None = record { stay = fresh; older = older; is = refl; view = refl; len_is = refl; state = refl }
    by (Some b) = record { stay = record { view = v; base = b.state; entries = [] }; older = older; is = refl; view = refl; len_is = refl; state = refl }
