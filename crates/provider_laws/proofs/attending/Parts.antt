-- First and last places of a provider in a stay, as entries come.
use Rattle.std.proofs.Common.{◌≡◌, ◌≤◌, ◌⊎◌, ℕ, suc, ◌+◌, List, [], ◌∷◌, ◌++◌, length, Option, Some, None, Bool, true, false, refl, sym, ap, ◌∙◌, inl, inr, arith}
use Rattle.std.specs.Prelude.{not, ◌&&◌, nat_le, is_some, is_none, IsTrue, if◌then◌else◌}
use Rattle.std.specs.Option.{option_map}
use Rattle.std.proofs.lemmas.Bool.{leb-true, le-leb}
use Rattle.rsct_packet.specs.declared.ids.ViewId.{ViewId}
use Rattle.rsct_packet.specs.declared.ids.ProviderId.{ProviderId}
use Rattle.rsct_packet.specs.Providers.{among}
use Rattle.rsct_packet.specs.Search.{place_where}
use Rattle.proposal_core.specs.declared.entry.Entry.{Entry}
use Rattle.proposal_core.specs.declared.group_state.GroupState.{GroupState}
use Rattle.proposal_core.specs.Fold.{after, present}
use Rattle.run_safety.specs.Past.{fold_from}
use Rattle.run_safety.specs.Stays.{Stay, Part, is_join_of, passes, first_in, last_from, last_in, part, from_first, up_to_last, takes_part}

-- ---- the first place

place_stays : (p : ProviderId) (e : Entry) (es : List Entry) (f : ℕ) → place_where (is_join_of p) es ≡ Some f → place_where (is_join_of p) (es ++ e ∷ []) ≡ Some f
place_stays p e [] f q = absurd (cc)
place_stays p e (x ∷ xs) f q = by (is_join_of p x) (place_stays p e xs) q
  where
    deeper : (o : Option ℕ) → ((k : ℕ) → o ≡ Some k → place_where (is_join_of p) (xs ++ e ∷ []) ≡ Some k) → option_map suc o ≡ Some f → option_map suc (place_where (is_join_of p) (xs ++ e ∷ [])) ≡ Some f
    deeper None rest r = absurd (cc)
    deeper (Some k) rest r = ap (option_map suc) (rest k refl) ∙ r

    by : (t : Bool) → ((k : ℕ) → place_where (is_join_of p) xs ≡ Some k → place_where (is_join_of p) (xs ++ e ∷ []) ≡ Some k) → (if t then Some 0 else option_map suc (place_where (is_join_of p) xs)) ≡ Some f → (if t then Some 0 else option_map suc (place_where (is_join_of p) (xs ++ e ∷ []))) ≡ Some f
    by true rest r = r
    by false rest r = deeper (place_where (is_join_of p) xs) rest r

-- an entry more leaves the first place that there is
pub first_stays : (p : ProviderId) (es : List Entry) (e : Entry) (b : Bool) (f : ℕ) → first_in p es b ≡ Some f → first_in p (es ++ e ∷ []) b ≡ Some f
first_stays p es e true f q = q
first_stays p es e false f q = place_stays p e es f q

place_comes : (p : ProviderId) (e : Entry) (es : List Entry) → place_where (is_join_of p) es ≡ None → place_where (is_join_of p) (es ++ e ∷ []) ≡ (if is_join_of p e then Some (length es) else None)
place_comes p e [] q = refl
place_comes p e (x ∷ xs) q = by (is_join_of p x) (place_comes p e xs) q
  where
    up : (t : Bool) → option_map suc (if t then Some (length xs) else None) ≡ (if t then Some (suc (length xs)) else None)
    up true = refl
    up false = refl

    none : (o : Option ℕ) → option_map suc o ≡ None → o ≡ None
    none None r = refl
    none (Some k) r = absurd (cc)

    by : (t : Bool) → (place_where (is_join_of p) xs ≡ None → place_where (is_join_of p) (xs ++ e ∷ []) ≡ (if is_join_of p e then Some (length xs) else None)) → (if t then Some 0 else option_map suc (place_where (is_join_of p) xs)) ≡ None → (if t then Some 0 else option_map suc (place_where (is_join_of p) (xs ++ e ∷ []))) ≡ (if is_join_of p e then Some (suc (length xs)) else None)
    by true rest r = absurd (cc)
    by false rest r = ap (option_map suc) (rest (none (place_where (is_join_of p) xs) r)) ∙ up (is_join_of p e)

-- where there is none, the entry is the first place if it is a join of the provider
pub first_comes : (p : ProviderId) (es : List Entry) (e : Entry) (b : Bool) → first_in p es b ≡ None → first_in p (es ++ e ∷ []) b ≡ (if is_join_of p e then Some (length es) else None)
first_comes p es e true q = absurd (cc)
first_comes p es e false q = place_comes p e es q

-- ---- the last place

-- no last place before the first one
pub last_before : (p : ProviderId) (v : ViewId) (f : ℕ) (s : GroupState) (i : ℕ) (es : List Entry) → i + length es ≤ f → last_from p v f s i es ≡ None
last_before p v f s i [] le = refl
last_before p v f s i (e ∷ es) le = by (nat_le f i) refl (last_before p v f (after s v i e) (i + 1) es (omega (arith, le)))
  where
    by : (b : Bool) → nat_le f i ≡ b → last_from p v f (after s v i e) (i + 1) es ≡ None → (if b && not (among (present (after s v i e)) p) then Some i else last_from p v f (after s v i e) (i + 1) es) ≡ None
    by true q rest = absurd (let z : f ≤ i = leb-true f i q in omega (arith, z, le))
    by false q rest = rest

-- where there is none, the entry is the last place if it leaves the provider neither a member nor a joiner
pub last_comes : (p : ProviderId) (v : ViewId) (f : ℕ) (s : GroupState) (i : ℕ) (es : List Entry) (e : Entry) → f ≤ i + length es → last_from p v f s i es ≡ None → last_from p v f s i (es ++ e ∷ []) ≡ (if not (among (present (after (fold_from v s i es) v (i + length es) e)) p) then Some (i + length es) else None)
last_comes p v f s i [] e le q = here (i + 0) (omega arith) (nat_le f i) (le-leb f i (omega (arith, le)))
  where
    here : (k : ℕ) → i ≡ k → (b : Bool) → b ≡ true → (if b && not (among (present (after s v i e)) p) then Some i else None) ≡ (if not (among (present (after s v k e)) p) then Some k else None)
    here k same true z = ap (λ k. if not (among (present (after s v k e)) p) then Some k else None) same
    here k same false z = absurd (cc)
last_comes p v f s i (x ∷ es) e le q =
    by (nat_le f i && not (among (present (after s v i x)) p)) (λ r. last_comes p v f (after s v i x) (i + 1) es e (omega (arith, le)) r) q
  where
    next : ℕ
    next = i + 1

    same : next + length es ≡ i + suc (length es)
    same = omega arith

    by : (b : Bool) → (last_from p v f (after s v i x) next es ≡ None → last_from p v f (after s v i x) next (es ++ e ∷ []) ≡ (if not (among (present (after (fold_from v (after s v i x) next es) v (next + length es) e)) p) then Some (next + length es) else None)) → (if b then Some i else last_from p v f (after s v i x) next es) ≡ None → (if b then Some i else last_from p v f (after s v i x) next (es ++ e ∷ [])) ≡ (if not (among (present (after (fold_from v (after s v i x) next es) v (i + suc (length es)) e)) p) then Some (i + suc (length es)) else None)
    by true rest r = absurd (cc)
    by false rest r =
        rest r ∙ ap (λ k. if not (among (present (after (fold_from v (after s v i x) next es) v k e)) p) then Some k else None) same

-- ---- folds

pub zero_and : (n : ℕ) → 0 + n ≡ n
zero_and n = omega arith

-- ---- a stay with an entry more

abbrev pub pushed_stay : Stay → Entry → Stay
pushed_stay x e = record x { entries = x.entries ++ e ∷ [] }

-- who has a first place and no last one keeps the first place, and the entry is the last one if it leaves the provider out
pub part_goes : (p : ProviderId) (x : Stay) (older : List Stay) (e : Entry) (f : ℕ) → (part p (x ∷ older)).first ≡ Some f → (part p (x ∷ older)).last ≡ None → f ≤ length x.entries → ((part p (pushed_stay x e ∷ older)).first ≡ Some f) × ((part p (pushed_stay x e ∷ older)).last ≡ (if not (among (present (after (fold_from x.view x.base 0 x.entries) x.view (length x.entries) e)) p) then Some (length x.entries) else None))
part_goes p x older e f first last le =
    let b : Bool = passes p x.base (part p older) in
    let now : first_in p (x.entries ++ e ∷ []) b ≡ Some f = first_stays p x.entries e b f first in
    let none : last_from p x.view f x.base 0 x.entries ≡ None = ap (last_in p x) (sym first) ∙ last in
    (now, ap (last_in p (pushed_stay x e)) now ∙ last_comes p x.view f x.base 0 x.entries e (zero_le f (length x.entries) le) none ∙ ap (λ k. if not (among (present (after (fold_from x.view x.base 0 x.entries) x.view k e)) p) then Some k else None) (zero_and (length x.entries)))
  where
    zero_le : (f n : ℕ) → f ≤ n → f ≤ 0 + n
    zero_le f n le = omega arith

-- who has no first place gets it by a join that names it
pub part_joins : (p : ProviderId) (x : Stay) (older : List Stay) (e : Entry) → (part p (x ∷ older)).first ≡ None → is_join_of p e ≡ true → ((part p (pushed_stay x e ∷ older)).first ≡ Some (length x.entries)) × ((part p (pushed_stay x e ∷ older)).last ≡ (if not (among (present (after (fold_from x.view x.base 0 x.entries) x.view (length x.entries) e)) p) then Some (length x.entries) else None))
part_joins p x older e first joins =
    let b : Bool = passes p x.base (part p older) in
    let n : ℕ = length x.entries in
    let now : first_in p (x.entries ++ e ∷ []) b ≡ Some n = first_comes p x.entries e b first ∙ ap (λ t. if t then Some n else None) joins in
    (now, ap (last_in p (pushed_stay x e)) now ∙ last_comes p x.view n x.base 0 x.entries e (le_zero n) (last_before p x.view n x.base 0 x.entries (zero_le n)) ∙ ap (λ k. if not (among (present (after (fold_from x.view x.base 0 x.entries) x.view k e)) p) then Some k else None) (zero_and (length x.entries)))
  where
    le_zero : (n : ℕ) → n ≤ 0 + n
    le_zero n = omega arith

    zero_le : (n : ℕ) → 0 + n ≤ n
    zero_le n = omega arith

-- and by no other entry
pub part_waits : (p : ProviderId) (x : Stay) (older : List Stay) (e : Entry) → (part p (x ∷ older)).first ≡ None → is_join_of p e ≡ false → (part p (pushed_stay x e ∷ older)).first ≡ None
part_waits p x older e first other =
    first_comes p x.entries e (passes p x.base (part p older)) first ∙ ap (λ t. if t then Some (length x.entries) else None) other

-- who took part to the end, and lives in the base, takes part from 0 on in a new stay; who had no first place has none there
pub part_passes : (p : ProviderId) (v : ViewId) (base : GroupState) (older : List Stay) (f : ℕ) → (part p older).first ≡ Some f → (part p older).last ≡ None → among (present base) p ≡ true → among base.failed p ≡ false → ((part p (record { view = v; base = base; entries = [] } ∷ older)).first ≡ Some 0) × ((part p (record { view = v; base = base; entries = [] } ∷ older)).last ≡ None)
part_passes p v base older f first last there lives =
    let pass : passes p base (part p older) ≡ true = λ i. is_some (first i) && (is_none (last i) && (there i && not (lives i))) in
    let now : first_in p [] (passes p base (part p older)) ≡ Some 0 = ap (first_in p []) pass in
    (now, ap (last_in p (record { view = v; base = base; entries = [] })) now)

pub part_enters : (p : ProviderId) (v : ViewId) (base : GroupState) (older : List Stay) → (part p older).first ≡ None → (part p (record { view = v; base = base; entries = [] } ∷ older)).first ≡ None
part_enters p v base older first = ap (first_in p []) (ap (λ (o : Option ℕ). is_some o && (is_none (part p older).last && (among (present base) p && not (among base.failed p)))) first)

-- ---- taking part at a place

pub takes_at : (x : Part) (f i : ℕ) → x.first ≡ Some f → f ≤ i → (x.last ≡ None) ⊎ (x.last ≡ Some i) → IsTrue (takes_part i x)
takes_at x f i first le last = ap (λ (o : Option ℕ). from_first i o && up_to_last i x.last) first ∙ ap (λ b. b && up_to_last i x.last) (le-leb f i le) ∙ by last
  where
    self : (i : ℕ) → i ≤ i
    self i = omega arith

    by : (x.last ≡ None) ⊎ (x.last ≡ Some i) → up_to_last i x.last ≡ true
    by (inl q) = ap (up_to_last i) q
    by (inr q) = ap (up_to_last i) q ∙ le-leb i i (self i)
