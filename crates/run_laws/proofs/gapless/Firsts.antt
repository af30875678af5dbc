-- First and last places of a provider as an entry comes: who takes part after it did before, or joins by it, and is present.
use Rattle.std.proofs.Common.{◌≡◌, ◌<◌, ◌⊎◌, ℕ, suc, ◌+◌, List, [], ◌∷◌, ◌++◌, length, Option, Some, None, Bool, true, false, refl, sym, ap, ◌∙◌, inl, inr, arith}
use Rattle.std.specs.Prelude.{not, ◌&&◌, nat_le, is_some, is_none, IsTrue, if◌then◌else◌}
use Rattle.std.proofs.lemmas.Bool.{and_parts, leb-true, le-leb}
use Rattle.rsct_packet.specs.declared.ids.ViewId.{ViewId}
use Rattle.rsct_packet.specs.declared.ids.ProviderId.{ProviderId}
use Rattle.rsct_packet.specs.Providers.{among}
use Rattle.rsct_packet.proofs.SearchLaws.{place_is_in}
use Rattle.proposal_core.specs.declared.entry.Entry.{Entry}
use Rattle.proposal_core.specs.declared.group_state.GroupState.{GroupState}
use Rattle.proposal_core.specs.Fold.{after, present}
use Rattle.run_safety.specs.Past.{fold_from}
use Rattle.run_safety.specs.Stays.{Stay, is_join_of, passes, first_in, last_from, last_in, part, from_first, up_to_last, takes_part}
use Rattle.provider_laws.proofs.attending.Parts.{first_stays, first_comes, pushed_stay}
use Rattle.run_laws.specs.gapless.Takers.{Taker}

-- ---- the first place

-- a first place is that of an entry, or the provider passed
first_below : (p : ProviderId) (es : List Entry) (b : Bool) (f : ℕ) → first_in p es b ≡ Some f → (f < length es) ⊎ ((es ≡ []) × (b ≡ true))
first_below p [] true f q = inr (refl, refl)
first_below p (x ∷ xs) true f q = let e : 0 ≡ f = cc in inl (omega (arith, e))
first_below p es false f q = inl (place_is_in (is_join_of p) es f q)

-- ---- the last place

-- a last place stays
last_stays : (p : ProviderId) (v : ViewId) (f : ℕ) (s : GroupState) (i : ℕ) (es : List Entry) (e : Entry) (l : ℕ) → last_from p v f s i es ≡ Some l → (last_from p v f s i (es ++ e ∷ []) ≡ Some l) × (l < i + length es)
last_stays p v f s i [] e l q = absurd (cc)
last_stays p v f s i (x ∷ xs) e l q = by (nat_le f i && not (among (present (after s v i x)) p)) (last_stays p v f (after s v i x) (i + 1) xs e l) q
  where
    by : (b : Bool) → (last_from p v f (after s v i x) (i + 1) xs ≡ Some l → (last_from p v f (after s v i x) (i + 1) (xs ++ e ∷ []) ≡ Some l) × (l < (i + 1) + length xs)) → (if b then Some i else last_from p v f (after s v i x) (i + 1) xs) ≡ Some l → ((if b then Some i else last_from p v f (after s v i x) (i + 1) (xs ++ e ∷ [])) ≡ Some l) × (l < i + suc (length xs))
    by true rest r = let z : i ≡ l = cc in (r, omega (arith, z))
    by false rest r = let k = rest r in let z = k.1 in (k.0, omega (arith, z))

-- where there is none, the provider is present after what came since its first place
last_present : (p : ProviderId) (v : ViewId) (f : ℕ) (s : GroupState) (i : ℕ) (es : List Entry) → last_from p v f s i es ≡ None → (f < i + length es) → (f < i → among (present s) p ≡ true) → among (present (fold_from v s i es)) p ≡ true
last_present p v f s i [] q lt here = here (omega (arith, lt))
last_present p v f s i (x ∷ xs) q lt here = by (λ r on. last_present p v f (after s v i x) (i + 1) xs r (omega (arith, lt)) on) (nat_le f i) (among (present (after s v i x)) p) refl refl q
  where
    by : (last_from p v f (after s v i x) (i + 1) xs ≡ None → (f < i + 1 → among (present (after s v i x)) p ≡ true) → among (present (fold_from v (after s v i x) (i + 1) xs)) p ≡ true) → (a b : Bool) → nat_le f i ≡ a → among (present (after s v i x)) p ≡ b → (if a && not b then Some i else last_from p v f (after s v i x) (i + 1) xs) ≡ None → among (present (fold_from v (after s v i x) (i + 1) xs)) p ≡ true
    by next true true k m r = next r (λ z. m)
    by next true false k m r = absurd (cc)
    by next false b k m r = next r (λ z. absurd (let le : nat_le f i ≡ true = le-leb f i (omega (arith, z)) in let u : true ≡ false = sym le ∙ k in cc))

-- ---- who takes part

-- is present
pub taker_present : (p : ProviderId) (x : Stay) (older : List Stay) → Taker p (x ∷ older) → among (present (fold_from x.view x.base 0 x.entries)) p ≡ true
taker_present p x older k = by (first_below p x.entries (passes p x.base (part p older)) k.first k.is)
  where
    none : last_from p x.view k.first x.base 0 x.entries ≡ None
    none = ap (last_in p x) (sym k.is) ∙ k.last

    zero : (n : ℕ) → k.first < n → k.first < 0 + n
    zero n lt = omega (arith, lt)

    base : passes p x.base (part p older) ≡ true → among (present x.base) p ≡ true
    base e =
        let a = and_parts (is_some (part p older).first) (is_none (part p older).last && (among (present x.base) p && not (among x.base.failed p))) e in
        let b = and_parts (is_none (part p older).last) (among (present x.base) p && not (among x.base.failed p)) a.1 in
        (and_parts (among (present x.base) p) (not (among x.base.failed p)) b.1).0

    by : (k.first < length x.entries) ⊎ ((x.entries ≡ []) × (passes p x.base (part p older) ≡ true)) → among (present (fold_from x.view x.base 0 x.entries)) p ≡ true
    by (inl lt) = last_present p x.view k.first x.base 0 x.entries none (zero (length x.entries) lt) (λ z. absurd (omega (arith, z)))
    by (inr e) = ap (λ es. among (present (fold_from x.view x.base 0 es)) p) e.0 ∙ base e.1

-- takes part to the end of the stay before, where it passes
pub taker_passed : (p : ProviderId) (v : ViewId) (base : GroupState) (older : List Stay) → Taker p (record { view = v; base = base; entries = [] } ∷ older) → Taker p older × (passes p base (part p older) ≡ true)
taker_passed p v base older k = by (passes p base (part p older)) refl k.is
  where
    of : passes p base (part p older) ≡ true → Taker p older
    of e =
        let a = and_parts (is_some (part p older).first) (is_none (part p older).last && (among (present base) p && not (among base.failed p))) e in
        let b = and_parts (is_none (part p older).last) (among (present base) p && not (among base.failed p)) a.1 in
        at (part p older).first (part p older).last refl refl a.0 b.0
      where
        at : (o l : Option ℕ) → (part p older).first ≡ o → (part p older).last ≡ l → is_some o ≡ true → is_none l ≡ true → Taker p older
        at None l q r s t = absurd (cc)
        at (Some f) None q r s t = record { first = f; is = q; last = r }
        at (Some f) (Some z) q r s t = absurd (cc)

    by : (b : Bool) → passes p base (part p older) ≡ b → first_in p [] b ≡ Some k.first → Taker p older × (passes p base (part p older) ≡ true)
    by true e q = (of e, e)
    by false e q = absurd (cc)

-- who takes part after an entry, or at its place, took part before it or joins by it
abbrev pub Came : ProviderId → Stay → List Stay → Entry → Type 0
Came p x older e = Taker p (x ∷ older) ⊎ (((part p (x ∷ older)).first ≡ None) × (is_join_of p e ≡ true))

came_of : (p : ProviderId) (x : Stay) (older : List Stay) (e : Entry) (f : ℕ) → (part p (pushed_stay x e ∷ older)).first ≡ Some f → ((l : ℕ) → (part p (pushed_stay x e ∷ older)).last ≡ Some l → l < length x.entries → ⊥) → Came p x older e
came_of p x older e f is out = by (part p (x ∷ older)).first refl
  where
    pass : Bool
    pass = passes p x.base (part p older)

    join : (b : Bool) → is_join_of p e ≡ b → (part p (x ∷ older)).first ≡ None → is_join_of p e ≡ true
    join true q none = q
    join false q none =
        let z : (part p (pushed_stay x e ∷ older)).first ≡ None = first_comes p x.entries e pass none ∙ ap (λ t. if t then Some (length x.entries) else None) q in
        absurd (let u : Some f ≡ None = sym is ∙ z in cc)

    ends : (g : ℕ) → (part p (x ∷ older)).first ≡ Some g → (o : Option ℕ) → (part p (x ∷ older)).last ≡ o → (part p (x ∷ older)).last ≡ None
    ends g first None q = q
    ends g first (Some l) q =
        let now : (part p (pushed_stay x e ∷ older)).first ≡ Some g = first_stays p x.entries e pass g first in
        let was : last_from p x.view g x.base 0 x.entries ≡ Some l = ap (last_in p x) (sym first) ∙ q in
        let k = last_stays p x.view g x.base 0 x.entries e l was in
        absurd (out l (ap (last_in p (pushed_stay x e)) now ∙ k.0) (let z = k.1 in omega (arith, z)))

    by : (o : Option ℕ) → (part p (x ∷ older)).first ≡ o → Came p x older e
    by None q = inr (q, join (is_join_of p e) refl q)
    by (Some g) q = inl (record { first = g; is = q; last = ends g q (part p (x ∷ older)).last refl })

pub taker_came : (p : ProviderId) (x : Stay) (older : List Stay) (e : Entry) → Taker p (pushed_stay x e ∷ older) → Came p x older e
taker_came p x older e k = came_of p x older e k.first k.is (λ l q lt. let z : Some l ≡ None = sym q ∙ k.last in cc)

pub part_came : (p : ProviderId) (x : Stay) (older : List Stay) (e : Entry) → IsTrue (takes_part (length x.entries) (part p (pushed_stay x e ∷ older))) → Came p x older e
part_came p x older e t = by (part p (pushed_stay x e ∷ older)).first refl k.0
  where
    k : (from_first (length x.entries) (part p (pushed_stay x e ∷ older)).first ≡ true) × (up_to_last (length x.entries) (part p (pushed_stay x e ∷ older)).last ≡ true)
    k = and_parts (from_first (length x.entries) (part p (pushed_stay x e ∷ older)).first) (up_to_last (length x.entries) (part p (pushed_stay x e ∷ older)).last) t

    out : (l : ℕ) → (part p (pushed_stay x e ∷ older)).last ≡ Some l → l < length x.entries → ⊥
    out l q lt =
        let a : nat_le (length x.entries) l ≡ true = ap (up_to_last (length x.entries)) (sym q) ∙ k.1 in
        let b = leb-true (length x.entries) l a in omega (arith, b, lt)

    by : (o : Option ℕ) → (part p (pushed_stay x e ∷ older)).first ≡ o → from_first (length x.entries) o ≡ true → Came p x older e
    by None q r = absurd (cc)
    by (Some f) q r = came_of p x older e f q out
