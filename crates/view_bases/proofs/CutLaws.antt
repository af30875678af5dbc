-- Whether entries fit at the end of a list is said of its end alone.
use Rattle.std.proofs.Common.{◌≡◌, ℕ, suc, ◌+◌, ◌<◌, ◌≤◌, Bool, true, false, List, [], ◌∷◌, length, drop, get_or, refl, sym, ap, ◌∙◌, arith}
use Rattle.std.proofs.Math.Seq.{drop-cons}
use Rattle.rsct_packet.specs.declared.ids.ViewId.{ViewId}
use Rattle.proposal_core.specs.declared.entry.Entry.{Entry}
use Rattle.proposal_core.specs.Sizes.{entry_len}
use Rattle.proposal_core.specs.declared.group_state.GroupState.{GroupState}
use Rattle.proposal_core.specs.Fold.{after}
use Rattle.proposal_core.specs.GroupView.{GroupView}
use Rattle.proposal_core.specs.Lists.{has_room, entry_fits, with_entry}
use Rattle.view_bases.specs.declared.cut.ListEnd.{ListEnd}
use Rattle.view_state.specs.Cut.{all_fit}
use Rattle.view_bases.specs.Fitting.{list_with, end_of, passed}

if_fits : (t x y : Bool) → x ≡ y → elim t as (λ b. Bool) [ false ↦ false | true ↦ x ] ≡ elim t as (λ b. Bool) [ false ↦ false | true ↦ y ]
if_fits true x y e = e
if_fits false x y e = refl

fits_alike : (l m : GroupView) (e : Entry) → l.len ≡ m.len → l.bytes ≡ m.bytes → l.state ≡ m.state → entry_fits l e ≡ entry_fits m e
unfolding entry_fits has_room
fits_alike l m e a b s = rw (a, b, s) refl

all_fit_alike : (v : ViewId) (l m : GroupView) (es : List Entry) → l.len ≡ m.len → l.bytes ≡ m.bytes → l.state ≡ m.state → all_fit v l es ≡ all_fit v m es
unfolding all_fit with_entry
all_fit_alike v l m [] a b s = refl
all_fit_alike v l m (e ∷ es) a b s =
    ap (λ (t : Bool). elim t as (λ b. Bool) [ false ↦ false | true ↦ all_fit v (with_entry l v e) es ]) (fits_alike l m e a b s)
    ∙ if_fits (entry_fits m e) (all_fit v (with_entry l v e) es) (all_fit v (with_entry m v e) es)
    (all_fit_alike v (with_entry l v e) (with_entry m v e) es (ap (λ (n : ℕ). n + 1) a) (ap (λ (n : ℕ). n + entry_len e) b) (ap (λ (x : GroupState). after x v l.len e) s ∙ ap (λ (n : ℕ). after m.state v n e) a))

pub fit_begins : (v : ViewId) (l : GroupView) (es : List Entry) → all_fit v l es ≡ all_fit v (list_with (end_of l)) es
fit_begins v l es = all_fit_alike v l (list_with (end_of l)) es refl refl refl

fits_first : (v : ViewId) (s : ListEnd) (e : Entry) (es : List Entry) → entry_fits (list_with s) e ≡ true → all_fit v (list_with s) (e ∷ es) ≡ all_fit v (list_with (passed s v e)) es
unfolding all_fit with_entry passed
fits_first v s e es h =
    ap (λ (t : Bool). elim t as (λ b. Bool) [ false ↦ false | true ↦ all_fit v (with_entry (list_with s) v e) es ]) h
    ∙ all_fit_alike v (with_entry (list_with s) v e) (list_with (passed s v e)) es refl refl refl

fits_no_first : (v : ViewId) (s : ListEnd) (e : Entry) (es : List Entry) → entry_fits (list_with s) e ≡ false → all_fit v (list_with s) (e ∷ es) ≡ false
unfolding all_fit
fits_no_first v s e es h =
    ap (λ (t : Bool). elim t as (λ b. Bool) [ false ↦ false | true ↦ all_fit v (with_entry (list_with s) v e) es ]) h

drop_more : (es : List Entry) (k : ℕ) (e : Entry) → k < length es → drop k es ≡ get_or es k e ∷ drop (k + 1) es
drop_more es k e lt = let n : suc k ≡ k + 1 = omega arith in drop-cons es k e lt ∙ ap (λ (i : ℕ). get_or es k e ∷ drop i es) n

pub fit_goes_on : (v : ViewId) (s : ListEnd) (es : List Entry) (k : ℕ) (e : Entry) → k < length es → e ≡ get_or es k e → entry_fits (list_with s) e ≡ true → all_fit v (list_with s) (drop k es) ≡ all_fit v (list_with (passed s v e)) (drop (k + 1) es)
fit_goes_on v s es k e lt is h = rw (drop_more es k e lt, ← is) (fits_first v s e (drop (k + 1) es) h)

pub fit_stops : (v : ViewId) (s : ListEnd) (es : List Entry) (k : ℕ) (e : Entry) → k < length es → e ≡ get_or es k e → entry_fits (list_with s) e ≡ false → all_fit v (list_with s) (drop k es) ≡ false
fit_stops v s es k e lt is h = rw (drop_more es k e lt, ← is) (fits_no_first v s e (drop (k + 1) es) h)

pub fit_ends : (v : ViewId) (l : GroupView) → all_fit v l [] ≡ true
unfolding all_fit
fit_ends v l = refl
