-- What was done, part after part, and fronts of it.
use Rattle.std.proofs.Common.{◌≡◌, ℕ, ◌≤◌, Bool, true, false, List, [], ◌∷◌, ◌++◌, map, Some, refl, sym, ◌∙◌, ap, ap₂, subst, arith, inl, inr}
use Rattle.std.proofs.lemmas.List.{map-append}
use Rattle.hags_io.specs.declared.link.LinkCall.TheVariants as call
use Rattle.hags_io.specs.Deeds.{Deed, Read, Placed, Opened, Exchanged, Wrote}
use Rattle.hags_io.specs.Edges.{Rose}
use Rattle.hags_io.specs.Telling.{Telling, Did, link_failure, link_failures, write_failure, write_failures, Rises}
use Rattle.hags_io.specs.Fronts.{as_gone, Went, AreFront, WentFront, last_deed, OfLast, IsFailedWrite, IsFailedReceive, EndsByWrite, EndsByReceive}
use Rattle.hags_io.proofs.DeedLaws.{did_none, did_on}

-- ---- all of it

pub went_nothing : (t : Telling) → Went t t []
went_nothing t = record { deeds = []; told = did_none t; are = refl }

pub went_still : (t u : Telling) → Did t u [] → Went t u []
went_still t u h = record { deeds = []; told = h; are = refl }

pub went_on : (t u v : Telling) (xs ys : List Deed) → Went t u xs → Went u v ys → Went t v (xs ++ ys)
went_on t u v xs ys p q = record {
  deeds = p.deeds ++ q.deeds;
  told = did_on t u v p.deeds q.deeds p.told q.told;
  are = map-append as_gone p.deeds q.deeds ∙ ap₂ (λ r s. r ++ s) p.are q.are;
}

pub went_as : (t u : Telling) (d e : Deed) → as_gone d ≡ e → Did t u (d ∷ []) → Went t u (e ∷ [])
went_as t u d e is h = record { deeds = d ∷ []; told = h; are = ap (λ x. x ∷ []) is }

pub went_one : (t u : Telling) (node network : ℕ) (piece : List ℕ) (out : Bool) → Did t u (Exchanged (call.Sent node network piece out) ∷ []) → Went t u (Exchanged (call.Sent node network piece true) ∷ [])
went_one t u node network piece out h = went_as t u (Exchanged (call.Sent node network piece out)) (Exchanged (call.Sent node network piece true)) refl h

-- ---- fronts

pub all_are_front : (ds es : List Deed) → map as_gone ds ≡ es → AreFront ds es
all_are_front [] es h = tt
all_are_front (d ∷ ds) es h = subst (AreFront (d ∷ ds)) h (inl (refl, all_are_front ds (map as_gone ds) refl))

pub front_on : (ds es more rest : List Deed) → map as_gone ds ≡ more → AreFront es rest → AreFront (ds ++ es) (more ++ rest)
front_on [] es more rest h f = subst (λ (m : List Deed). AreFront es (m ++ rest)) h f
front_on (d ∷ ds) es more rest h f = subst (λ (m : List Deed). AreFront (d ∷ (ds ++ es)) (m ++ rest)) h (inl (refl, front_on ds es (map as_gone ds) rest refl f))

pub front_more : (ds es more : List Deed) → AreFront ds es → AreFront ds (es ++ more)
front_more [] es more f = tt
front_more (d ∷ ds) [] more f = absurd f
front_more (d ∷ ds) (e ∷ es) more (inl h) = inl (h.0, front_more ds es more h.1)
front_more (d ∷ ds) (e ∷ es) more (inr h) = inr h

-- so each front of what was done is one of what was to be done
pub front_of_front : (ds later es : List Deed) → AreFront (ds ++ later) es → AreFront ds es
front_of_front [] later es f = tt
front_of_front (d ∷ ds) later [] f = absurd f
front_of_front (d ∷ ds) later (e ∷ es) (inl h) = inl (h.0, front_of_front ds later es h.1)
front_of_front (d ∷ []) later (e ∷ es) (inr h) = inr (h.0, refl)
front_of_front (d ∷ d2 ∷ ds) later (e ∷ es) (inr h) = let no : d2 ∷ (ds ++ later) ≡ [] = h.1 in absurd cc

pub all_went : (t u : Telling) (more : List Deed) → Went t u more → WentFront t u more
all_went t u more w = record { deeds = w.deeds; told = w.told; front = all_are_front w.deeds more w.are }

pub none_went : (t : Telling) (more : List Deed) → WentFront t t more
none_went t more = record { deeds = []; told = did_none t; front = tt }

pub still_went : (t u : Telling) (more : List Deed) → Did t u [] → WentFront t u more
still_went t u more h = record { deeds = []; told = h; front = tt }

pub went_front_on : (t u v : Telling) (xs ys : List Deed) → Went t u xs → WentFront u v ys → WentFront t v (xs ++ ys)
went_front_on t u v xs ys p q = record { deeds = p.deeds ++ q.deeds; told = did_on t u v p.deeds q.deeds p.told q.told; front = front_on p.deeds q.deeds xs ys p.are q.front }

pub went_front_more : (t u : Telling) (xs ys : List Deed) → WentFront t u xs → WentFront t u (xs ++ ys)
went_front_more t u xs ys p = record { deeds = p.deeds; told = p.told; front = front_more p.deeds xs ys p.front }

-- a write that failed
pub write_failed : (t u : Telling) (bytes : List ℕ) (more : List Deed) → Did t u (Wrote bytes false ∷ []) → WentFront t u (Wrote bytes true ∷ more)
write_failed t u bytes more h = record { deeds = Wrote bytes false ∷ []; told = h; front = inr (refl, refl) }

-- ---- the last deed

last_append : (xs : List Deed) (y : Deed) (ys : List Deed) → last_deed (xs ++ y ∷ ys) ≡ last_deed (y ∷ ys)
last_append [] y ys = refl
last_append (x ∷ []) y ys = refl
last_append (x ∷ z ∷ xs) y ys = last_append (z ∷ xs) y ys

last_is : (t u : Telling) (d : Deed) → Did t u (d ∷ []) → last_deed u.deeds ≡ Some d
last_is t u d h = ap last_deed h.deeds ∙ last_append t.deeds d []

pub ends_by_write : (t u : Telling) (bytes : List ℕ) → Did t u (Wrote bytes false ∷ []) → EndsByWrite u
ends_by_write t u bytes h = subst (OfLast IsFailedWrite) (sym (last_is t u (Wrote bytes false) h)) tt

pub ends_by_receive : (t u : Telling) → Did t u (Exchanged call.Failed ∷ []) → EndsByReceive u
ends_by_receive t u h = subst (OfLast IsFailedReceive) (sym (last_is t u (Exchanged call.Failed) h)) tt

one_write : (d : Deed) → IsFailedWrite d → 1 ≤ write_failure d
one_write (Wrote bytes false) h = omega arith
one_write (Wrote bytes true) h = absurd h
one_write (Read m) h = absurd h
one_write (Placed n k a p) h = absurd h
one_write (Opened p d) h = absurd h
one_write (Exchanged c) h = absurd h

some_write : (ds : List Deed) → OfLast IsFailedWrite (last_deed ds) → 1 ≤ write_failures ds
some_write [] h = absurd h
some_write (d ∷ []) h = let one : 1 ≤ write_failure d = one_write d h in omega arith
some_write (d ∷ e ∷ ds) h = let one : 1 ≤ write_failures (e ∷ ds) = some_write (e ∷ ds) h in omega arith

one_receive : (d : Deed) → IsFailedReceive d → 1 ≤ link_failure d
one_receive (Exchanged call.Failed) h = omega arith
one_receive (Exchanged call.Quiet) h = absurd h
one_receive (Exchanged (call.Received k b)) h = absurd h
one_receive (Exchanged (call.Sent n k b o)) h = absurd h
one_receive (Wrote bytes w) h = absurd h
one_receive (Read m) h = absurd h
one_receive (Placed n k a p) h = absurd h
one_receive (Opened p d) h = absurd h

some_receive : (ds : List Deed) → OfLast IsFailedReceive (last_deed ds) → 1 ≤ link_failures ds
some_receive [] h = absurd h
some_receive (d ∷ []) h = let one : 1 ≤ link_failure d = one_receive d h in omega arith
some_receive (d ∷ e ∷ ds) h = let one : 1 ≤ link_failures (e ∷ ds) = some_receive (e ∷ ds) h in omega arith

-- so the count of failures rose
pub rose_by_write : (t u : Telling) (d : Deed) (ds : List Deed) → Did t u (d ∷ ds) → EndsByWrite u → Rose t.write_faults u.write_faults
rose_by_write t u d ds h e =
    let last : last_deed u.deeds ≡ last_deed (d ∷ ds) = ap last_deed h.deeds ∙ last_append t.deeds d ds in
    let some : 1 ≤ write_failures (d ∷ ds) = some_write (d ∷ ds) (subst (OfLast IsFailedWrite) last e) in
    let rises : Rises t.write_faults u.write_faults (write_failures (d ∷ ds)) = h.write_faults in
    omega arith

pub rose_by_receive : (t u : Telling) (d : Deed) (ds : List Deed) → Did t u (d ∷ ds) → EndsByReceive u → Rose t.link_faults u.link_faults
rose_by_receive t u d ds h e =
    let last : last_deed u.deeds ≡ last_deed (d ∷ ds) = ap last_deed h.deeds ∙ last_append t.deeds d ds in
    let some : 1 ≤ link_failures (d ∷ ds) = some_receive (d ∷ ds) (subst (OfLast IsFailedReceive) last e) in
    let rises : Rises t.link_faults u.link_faults (link_failures (d ∷ ds)) = h.link_faults in
    omega arith
