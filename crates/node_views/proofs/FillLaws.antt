-- How what the lists lack is gathered, and then put.
use Rattle.std.proofs.Common.{◌≡◌, ℕ, ◌+◌, ◌<◌, ◌≤◌, List, [], ◌∷◌, ◌++◌, length, drop, get_or, map, Option, Some, None, refl, sym, ap, ◌∙◌, append_assoc, drop-cons, add-one}
use Rattle.std.proofs.lemmas.List.{append-nil, map-append, at_drop_all}
use Rattle.proposal_core.specs.declared.entry.Entry.{Entry}
use Rattle.view_state.specs.declared.install.Part.{Part}
use Rattle.view_state.specs.Cut.{lacking_of}
use Rattle.node_state.specs.declared.state.Core.{Core}
use Rattle.node_state.specs.State.{list_of}
use Rattle.node_state.specs.Applying.{Lacking, lacking_in}
use Rattle.node_views.specs.declared.missing_entries.Missing.{Missing}
use Rattle.node_views.specs.Filling.{lacking_at, with_more}

nothing_before : (o : Option (List Lacking)) → o ≡ with_more [] o
nothing_before None = refl
nothing_before (Some xs) = refl

pub missing_begins : (s : Core) (ps : List Part) → lacking_in s ps ≡ with_more (map lacking_at []) (lacking_in s (drop 0 ps))
missing_begins s ps = nothing_before (lacking_in s ps)

more_head : (xs : List Lacking) (x : Lacking) (o : Option (List Lacking)) → with_more xs (elim o as (λ _. Option (List Lacking)) [ None ↦ None | Some ys ↦ Some (x ∷ ys) ]) ≡ with_more (xs ++ x ∷ []) o
more_head xs x None = refl
more_head xs x (Some ys) = ap Some (sym (append_assoc xs (x ∷ []) ys))

of_part : (s : Core) (p : Part) (ps : List Part) (o : Option (List Entry)) → lacking_of s.views.view (list_of s p.name) p ≡ o
    → lacking_in s (p ∷ ps) ≡ elim o as (λ _. Option (List Lacking)) [ None ↦ None | Some es ↦ elim (lacking_in s ps) as (λ _. Option (List Lacking)) [ None ↦ None | Some xs ↦ Some (record { name = p.name; entries = es } ∷ xs) ] ]
unfolding lacking_in
of_part s p ps o e =
    ap (λ (z : Option (List Entry)). elim z as (λ _. Option (List Lacking)) [ None ↦ None | Some es ↦ elim (lacking_in s ps) as (λ _. Option (List Lacking)) [ None ↦ None | Some xs ↦ Some (record { name = p.name; entries = es } ∷ xs) ] ]) e

-- the next list goes on to its part
pub missing_more : (s : Core) (ps : List Part) (k : ℕ) (p : Part) (ms : List Missing) (m : Missing) → k < length ps → p ≡ get_or ps k p → lacking_in s ps ≡ with_more (map lacking_at ms) (lacking_in s (drop k ps))
    → m.group.now ≡ p.name → Some m.entries.now ≡ lacking_of s.views.view (list_of s p.name) p → lacking_in s ps ≡ with_more (map lacking_at (ms ++ m ∷ [])) (lacking_in s (drop (k + 1) ps))
missing_more s ps k p ms m lt is before name goes =
    let rest : List Part = drop (k + 1) ps in
    let front : drop k ps ≡ p ∷ rest = rw add-one (drop-cons ps k p lt) ∙ ap (λ x. x ∷ rest) (sym is) in
    let here : record { name = p.name; entries = m.entries.now } ≡ lacking_at m = ap (λ g. record { name = g; entries = m.entries.now }) (sym name) in
    before
    ∙ (ap (λ zs. with_more (map lacking_at ms) (lacking_in s zs)) front
    ∙ (ap (with_more (map lacking_at ms)) (of_part s p rest (Some m.entries.now) (sym goes))
    ∙ (more_head (map lacking_at ms) (record { name = p.name; entries = m.entries.now }) (lacking_in s rest)
    ∙ (ap (λ x. with_more (map lacking_at ms ++ x ∷ []) (lacking_in s rest)) here
    ∙ ap (λ zs. with_more zs (lacking_in s rest)) (sym (map-append lacking_at ms (m ∷ [])))))))

-- it does not
pub missing_stops : (s : Core) (ps : List Part) (k : ℕ) (p : Part) (ms : List Missing) → k < length ps → p ≡ get_or ps k p → lacking_in s ps ≡ with_more (map lacking_at ms) (lacking_in s (drop k ps))
    → None ≡ lacking_of s.views.view (list_of s p.name) p → lacking_in s ps ≡ None
missing_stops s ps k p ms lt is before stops =
    let rest : List Part = drop (k + 1) ps in
    let front : drop k ps ≡ p ∷ rest = rw add-one (drop-cons ps k p lt) ∙ ap (λ x. x ∷ rest) (sym is) in
    before ∙ (ap (λ zs. with_more (map lacking_at ms) (lacking_in s zs)) front ∙ ap (with_more (map lacking_at ms)) (of_part s p rest None (sym stops)))

pub missing_ends : (s : Core) (ps : List Part) (k : ℕ) (ms : List Missing) → length ps ≤ k → lacking_in s ps ≡ with_more (map lacking_at ms) (lacking_in s (drop k ps)) → lacking_in s ps ≡ Some (map lacking_at ms)
unfolding lacking_in
missing_ends s ps k ms h before =
    before ∙ (ap (with_more (map lacking_at ms)) (at_drop_all (lacking_in s) ps k h) ∙ ap Some (append-nil (map lacking_at ms)))
