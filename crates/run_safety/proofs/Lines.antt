-- Lines with and without their notes.
use Rattle.std.proofs.Common.{refl, Some, None, Option, ◌≡◌, ℕ, ◌+◌, ◌⊎◌, List, [], ◌∷◌, ◌++◌, length, drop, sym, ap, ◌∙◌, subst, inl, inr, ⊎_elim}
use Rattle.rsct_packet.specs.declared.ids.ViewId.{ViewId}
use Rattle.rsct_packet.specs.declared.ids.Member.{Member}
use Rattle.proposal_core.specs.declared.entry.Entry.{Entry}
use Rattle.rsct_packet.specs.Search.{Has}
use Rattle.run_safety.specs.Group.{Standing, Origin, In, Put, Note, Based, Line, Kept, Noted, kept, lines_from, puts_from}
use Rattle.run_safety.specs.Moves.{based, entered, Inserted}

pub kept_lines : (n : ℕ) (v : ViewId) (i : ℕ) (es : List Entry) (all : List Line) → kept (lines_from n v i es all) ≡ puts_from n v i es (kept all)
kept_lines n v i [] all = refl
kept_lines n v i (e ∷ es) all = kept_lines n v (i + 1) es (Kept (Put n v i e) ∷ all)

pub kept_based : (n : ℕ) (v : ViewId) (b : Option Origin) (all : List Line) → kept (based n v b all) ≡ kept all
kept_based n v None all = refl
kept_based n v (Some b) all = refl

pub kept_entered : (n : ℕ) (x : Standing) (v : ViewId) (ms : List Member) (ss : ViewId → List Entry) (b : Option Origin) (all : List Line) → kept (entered n x v ms ss b all) ≡ In n x.inc v ms ∷ puts_from n x.view (length x.list) (drop (length x.list) (ss x.view)) (kept all)
kept_entered n x v ms ss b all =
    kept_based n v b (Kept (In n x.inc v ms) ∷ lines_from n x.view (length x.list) (drop (length x.list) (ss x.view)) all) ∙ ap (λ tr. In n x.inc v ms ∷ tr) (kept_lines n x.view (length x.list) (drop (length x.list) (ss x.view)) all)

pub kept_noted : (x : Note) (newer older : List Line) → kept (newer ++ Noted x ∷ older) ≡ kept (newer ++ older)
kept_noted x [] older = refl
kept_noted x (Kept r ∷ newer) older = ap (λ tr. r ∷ tr) (kept_noted x newer older)
kept_noted x (Noted y ∷ newer) older = kept_noted x newer older

pub kept_inserted : (x : Note) (all more : List Line) → Inserted x all more → kept more ≡ kept all
kept_inserted x all more h = ap kept h.is ∙ kept_noted x h.newer h.older ∙ ap kept (sym h.was)

pub has_insert : (x y : Line) (newer older : List Line) → Has y (newer ++ older) → Has y (newer ++ x ∷ older)
has_insert x y [] older h = inr h
has_insert x y (z ∷ newer) older (inl e) = inl e
has_insert x y (z ∷ newer) older (inr h) = inr (has_insert x y newer older h)

pub had_insert : (x y : Line) (newer older : List Line) → Has y (newer ++ x ∷ older) → (y ≡ x) ⊎ Has y (newer ++ older)
had_insert x y [] older h = h
had_insert x y (z ∷ newer) older (inl e) = inr (inl e)
had_insert x y (z ∷ newer) older (inr h) = ⊎_elim (λ (e : y ≡ x). inl e) (λ (k : Has y (newer ++ older)). inr (inr k)) (had_insert x y newer older h)

pub has_inserted : (x : Note) (all more : List Line) → Inserted x all more → (y : Line) → Has y all → Has y more
has_inserted x all more s y h =
    subst (λ l. Has y l) (sym s.is) (has_insert (Noted x) y s.newer s.older (subst (λ l. Has y l) s.was h))

pub had_inserted : (x : Note) (all more : List Line) → Inserted x all more → (y : Line) → Has y more → (y ≡ Noted x) ⊎ Has y all
had_inserted x all more s y h =
    ⊎_elim (λ (e : y ≡ Noted x). inl e) (λ (k : Has y (s.newer ++ s.older)). inr (subst (λ l. Has y l) (sym s.was) k)) (had_insert (Noted x) y s.newer s.older (subst (λ l. Has y l) s.is h))

-- puts are no notes
pub has_lines : (y : Line) (n : ℕ) (v : ViewId) (i : ℕ) (es : List Entry) (all : List Line) → Has y all → Has y (lines_from n v i es all)
has_lines y n v i [] all h = h
has_lines y n v i (e ∷ es) all h = has_lines y n v (i + 1) es (Kept (Put n v i e) ∷ all) (inr h)

pub note_lines : (x : Note) (n : ℕ) (v : ViewId) (i : ℕ) (es : List Entry) (all : List Line) → Has (Noted x) (lines_from n v i es all) → Has (Noted x) all
note_lines x n v i [] all h = h
note_lines x n v i (e ∷ es) all h = at (note_lines x n v (i + 1) es (Kept (Put n v i e) ∷ all) h)
  where
    at : Has (Noted x) (Kept (Put n v i e) ∷ all) → Has (Noted x) all
    at (inl q) = absurd (cc)
    at (inr k) = k

pub has_based : (y : Line) (n : ℕ) (v : ViewId) (b : Option Origin) (all : List Line) → Has y all → Has y (based n v b all)
has_based y n v None all h = h
has_based y n v (Some b) all h = inr h

pub note_based : (x : Note) (n : ℕ) (v : ViewId) (b : Option Origin) (all : List Line) → Has (Noted x) (based n v b all) → ((c : Origin) × (b ≡ Some c) × (x ≡ Based n v c)) ⊎ Has (Noted x) all
note_based x n v None all h = inr h
note_based x n v (Some b) all (inl q) = let e : x ≡ Based n v b = cc in inl (b, refl, e)
note_based x n v (Some b) all (inr h) = inr h

pub has_entered : (y : Line) (n : ℕ) (x : Standing) (v : ViewId) (ms : List Member) (ss : ViewId → List Entry) (b : Option Origin) (all : List Line) → Has y all → Has y (entered n x v ms ss b all)
has_entered y n x v ms ss b all h =
    has_based y n v b (Kept (In n x.inc v ms) ∷ lines_from n x.view (length x.list) (drop (length x.list) (ss x.view)) all) (inr (has_lines y n x.view (length x.list) (drop (length x.list) (ss x.view)) all h))

pub note_entered : (y : Note) (n : ℕ) (x : Standing) (v : ViewId) (ms : List Member) (ss : ViewId → List Entry) (b : Option Origin) (all : List Line) → Has (Noted y) (entered n x v ms ss b all) → ((c : Origin) × (b ≡ Some c) × (y ≡ Based n v c)) ⊎ Has (Noted y) all
note_entered y n x v ms ss b all h =
    at (note_based y n v b (Kept (In n x.inc v ms) ∷ lines_from n x.view (length x.list) (drop (length x.list) (ss x.view)) all) h)
  where
    at : ((c : Origin) × (b ≡ Some c) × (y ≡ Based n v c)) ⊎ Has (Noted y) (Kept (In n x.inc v ms) ∷ lines_from n x.view (length x.list) (drop (length x.list) (ss x.view)) all) → ((c : Origin) × (b ≡ Some c) × (y ≡ Based n v c)) ⊎ Has (Noted y) all
    at (inl k) = inl k
    at (inr (inl q)) = absurd (cc)
    at (inr (inr k)) = inr (note_lines y n x.view (length x.list) (drop (length x.list) (ss x.view)) all k)
