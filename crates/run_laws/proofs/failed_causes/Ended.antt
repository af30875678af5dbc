-- Whoever took part to an end, or never did, passes into no later view, and is there only by the base.
use Rattle.std.proofs.Common.{◌≡◌, ◌⊎◌, ◌≤◌, ℕ, suc, ◌+◌, List, [], ◌∷◌, ◌++◌, length, Option, Some, None, Bool, true, false, refl, sym, ap, ◌∙◌, subst, inl, inr, arith}
use Rattle.std.specs.Prelude.{not, ◌==◌, ◌&&◌, ◌||◌, nat_le, is_some, is_none, if◌then◌else◌}
use Rattle.std.specs.Option.{option_map}
use Rattle.std.specs.List.{list_any}
use Rattle.std.specs.Str.{bytes_eq}
use Rattle.std.proofs.lemmas.Bool.{eqb-true}
use Rattle.rsct_packet.specs.declared.ids.ViewId.{ViewId}
use Rattle.rsct_packet.specs.declared.ids.ProviderId.{ProviderId}
use Rattle.rsct_packet.specs.Providers.{among}
use Rattle.rsct_packet.specs.Search.{place_where}
use Rattle.rsct_packet.proofs.SearchLaws.{place_nowhere}
use Rattle.proposal_core.specs.declared.entry.Entry.{Entry}
use Rattle.proposal_core.specs.declared.group_state.GroupState.{GroupState}
use Rattle.proposal_core.specs.Fold.{empty_state, after, present}
use Rattle.node_state.specs.declared.happened.Happened.{Happened}
use Rattle.node_state.specs.declared.happened.Happened.TheVariants as happened
use Rattle.run_safety.specs.Past.{fold_from}
use Rattle.run_safety.specs.Stays.{Stay, stays, with_base, with_entry, is_join_of, Part, part, passes, first_in, last_in, last_from}
use Rattle.node_state.proofs.NameOrder.{text_same}
use Rattle.row_laws.specs.failed_rows.Failures.{state_of_stay}
use Rattle.provider_laws.proofs.attending.Parts.{first_stays, last_comes, pushed_stay}
use Rattle.run_laws.specs.failed_causes.Passed.{puts_join, latest_entries, BaseFirst}
use Rattle.row_laws.proofs.failed_rows.Grows.{there_before, there_first}
use Rattle.run_laws.proofs.failed_causes.Records.{Every}
use Rattle.step_refinement.proofs.Puts.{fold_pushed}

-- it has a first place and no last one
abbrev pub goes_on : Part → Bool
goes_on x = is_some x.first && is_none x.last

pub not_passing : (p : ProviderId) (base : GroupState) (x : Part) → goes_on x ≡ false → passes p base x ≡ false
not_passing p base x k = by (is_some x.first) (is_none x.last) k
  where
    by : (a b : Bool) → (a && b) ≡ false → (a && (b && (among (present base) p && not (among base.failed p)))) ≡ false
    by true true q = absurd (cc)
    by true false q = refl
    by false b q = refl

pub any_more : (p : ProviderId) (es : List Entry) (e : Entry) → list_any (is_join_of p) es ≡ false → is_join_of p e ≡ false → list_any (is_join_of p) (es ++ e ∷ []) ≡ false
any_more p [] e a b = ap (λ z. z || false) b
any_more p (x ∷ es) e a b = by (is_join_of p x) a (λ k. any_more p es e k b)
  where
    by : (z : Bool) → (z || list_any (is_join_of p) es) ≡ false → (list_any (is_join_of p) es ≡ false → list_any (is_join_of p) (es ++ e ∷ []) ≡ false) → (z || list_any (is_join_of p) (es ++ e ∷ [])) ≡ false
    by true q rest = absurd (cc)
    by false q rest = rest q

-- ---- a stay after all that

-- nobody passes out of the stays before, and no entry names it
abbrev pub Later : ProviderId → Stay → List Stay → Type 0
Later p x older = (goes_on (part p older) ≡ false) × (list_any (is_join_of p) x.entries ≡ false)

later_first : (p : ProviderId) (x : Stay) (older : List Stay) → Later p x older → (part p (x ∷ older)).first ≡ None
later_first p x older k = ap (first_in p x.entries) (not_passing p x.base (part p older) k.0) ∙ place_nowhere (is_join_of p) x.entries k.1

-- or it had its last place in this stay
pub record Here (p : ProviderId) (x : Stay) (older : List Stay) : Type 0 where
  pub first : ℕ
  pub last : ℕ
  pub first_is : (part p (x ∷ older)).first ≡ Some first
  pub last_is : (part p (x ∷ older)).last ≡ Some last
  pub off : among (present (state_of_stay x)) p ≡ false
  pub some : x.entries ≡ [] → ⊥

-- a: where it had a last place in this stay
abbrev pub Out : Bool → ProviderId → List Stay → Type 0
Out a p [] = Unit {0}
Out a p (x ∷ older) = Later p x older ⊎ ((a ≡ true) × Here p x older)

out_over : (a : Bool) (p : ProviderId) (xs : List Stay) → Out a p xs → goes_on (part p xs) ≡ false
out_over a p [] k = refl
out_over a p (x ∷ older) (inl k) = ap (λ (o : Option ℕ). is_some o && is_none (part p (x ∷ older)).last) (later_first p x older k)
out_over a p (x ∷ older) (inr k) =
    let h = k.1 in
    (λ i. is_some (h.first_is i) && is_none (h.last_is i))

-- ---- an entry more

last_stays : (p : ProviderId) (v : ViewId) (f : ℕ) (s : GroupState) (i : ℕ) (es : List Entry) (e : Entry) (l : ℕ) → last_from p v f s i es ≡ Some l → last_from p v f s i (es ++ e ∷ []) ≡ Some l
last_stays p v f s i [] e l q = absurd (cc)
last_stays p v f s i (x ∷ es) e l q =
    by (nat_le f i && not (among (present (after s v i x)) p)) q (last_stays p v f (after s v i x) (i + 1) es e l)
  where
    by : (b : Bool) → (if b then Some i else last_from p v f (after s v i x) (i + 1) es) ≡ Some l → (last_from p v f (after s v i x) (i + 1) es ≡ Some l → last_from p v f (after s v i x) (i + 1) (es ++ e ∷ []) ≡ Some l) → (if b then Some i else last_from p v f (after s v i x) (i + 1) (es ++ e ∷ [])) ≡ Some l
    by true q rest = q
    by false q rest = rest q

pushed_off : (p : ProviderId) (x : Stay) (e : Entry) → is_join_of p e ≡ false → among (present (state_of_stay x)) p ≡ false → among (present (state_of_stay (pushed_stay x e))) p ≡ false
pushed_off p x e other off = by (among (present (state_of_stay (pushed_stay x e))) p) refl
  where
    now : among (present (state_of_stay (pushed_stay x e))) p ≡ true → among (present (state_of_stay x)) p ≡ true
    now q =
        there_before (state_of_stay x) x.view (0 + length x.entries) e p other (subst (λ z. among (present z) p ≡ true) (fold_pushed x.view x.entries x.base 0 e) q)

    by : (b : Bool) → among (present (state_of_stay (pushed_stay x e))) p ≡ b → b ≡ false
    by true q = absurd (let z = now q in cc)
    by false q = refl

some_pushed : (es : List Entry) (e : Entry) → es ++ e ∷ [] ≡ [] → ⊥
some_pushed [] e q = cc
some_pushed (x ∷ es) e q = cc

pushed_out : (a : Bool) (p : ProviderId) (x : Stay) (older : List Stay) (e : Entry) → is_join_of p e ≡ false → Out a p (x ∷ older) → Out a p (pushed_stay x e ∷ older)
pushed_out a p x older e other (inl k) = inl (k.0, any_more p x.entries e k.1 other)
pushed_out a p x older e other (inr k) =
    let h = k.1 in
    let now : (part p (pushed_stay x e ∷ older)).first ≡ Some h.first = first_stays p x.entries e (passes p x.base (part p older)) h.first h.first_is in
    let was : last_from p x.view h.first x.base 0 x.entries ≡ Some h.last = ap (last_in p x) (sym h.first_is) ∙ h.last_is in
    inr (
      k.0,
      record {
        first = h.first;
        last = h.last;
        first_is = now;
        last_is = ap (last_in p (pushed_stay x e)) now ∙ last_stays p x.view h.first x.base 0 x.entries e h.last was;
        off = pushed_off p x e other h.off;
        some = some_pushed x.entries e;
      },
    )

based_out : (a : Bool) (p : ProviderId) (s : GroupState) (xs : List Stay) → latest_entries xs ≡ [] → Out a p xs → Out a p (with_base s xs)
based_out a p s [] e k = tt
based_out a p s (x ∷ older) e (inl k) = inl k
based_out a p s (x ∷ older) e (inr k) = absurd (k.1.some e)

entry_out : (a : Bool) (p : ProviderId) (e : Entry) (xs : List Stay) → is_join_of p e ≡ false → Out a p xs → Out a p (with_entry e xs)
entry_out a p e [] other k = tt
entry_out a p e (x ∷ older) other k = pushed_out a p x older e other k

-- ---- what each record makes of it

-- each base comes first
abbrev pub Firsts : List Happened → Type 0
Firsts = Every BaseFirst

module _ (a : Bool) (p : ProviderId) (g : List ℕ) where
  down_out : (b : Bool) (xs : List Stay) → Out a p xs → Out a p (if b then [] else xs)
  down_out true xs k = tt
  down_out false xs k = k

  in_out : (b : Bool) (v : ViewId) (xs : List Stay) → Out a p xs → Out a p (if b then record { view = v; base = empty_state; entries = [] } ∷ xs else xs)
  in_out true v xs k = inl (out_over a p xs k, refl)
  in_out false v xs k = k

  pub out_step : (r : Happened) (rs : List Happened) → BaseFirst rs r → puts_join p g r ≡ false → Out a p (stays p.node g rs) → Out a p (stays p.node g (r ∷ rs))
  out_step (happened.Up m j) rs first other k = down_out (m == p.node) (stays p.node g rs) k
  out_step (happened.Down m) rs first other k = down_out (m == p.node) (stays p.node g rs) k
  out_step (happened.In m v ms) rs first other k = in_out (m == p.node) v (stays p.node g rs) k
  out_step (happened.Base m v h u len s) rs first other k = by (m == p.node) (bytes_eq h g) refl refl
    where
      by : (b c : Bool) → (m == p.node) ≡ b → bytes_eq h g ≡ c → Out a p (if b && c then with_base s (stays p.node g rs) else stays p.node g rs)
      by true true q z = based_out a p s (stays p.node g rs) (same first) k
        where
          same : latest_entries (stays m h rs) ≡ [] → latest_entries (stays p.node g rs) ≡ []
          same e = subst (λ (y : ℕ × List ℕ). latest_entries (stays y.0 y.1 rs) ≡ []) (λ i. (node q i, name z i)) e
            where
              node : (m == p.node) ≡ true → m ≡ p.node
              node q = eqb-true m p.node q

              name : bytes_eq h g ≡ true → h ≡ g
              name z = text_same h g z
      by true false q z = k
      by false c q z = k
  out_step (happened.Put m v h i e) rs first other k = by (m == p.node) (bytes_eq h g) (is_join_of p e) refl other
    where
      by : (b c d : Bool) → is_join_of p e ≡ d → (b && (c && d)) ≡ false → Out a p (if b && c then with_entry e (stays p.node g rs) else stays p.node g rs)
      by true true true q z = absurd (cc)
      by true true false q z = entry_out a p e (stays p.node g rs) q k
      by true false d q z = k
      by false c d q z = k
  out_step _ rs first other k = k

  pub out_on : (newer older : List Happened) → Firsts (newer ++ older) → list_any (puts_join p g) newer ≡ false → Out a p (stays p.node g older) → Out a p (stays p.node g (newer ++ older))
  out_on [] older f others k = k
  out_on (r ∷ newer) older f others k = by (puts_join p g r) refl others (λ z. out_on newer older f.1 z k)
    where
      by : (b : Bool) → puts_join p g r ≡ b → (b || list_any (puts_join p g) newer) ≡ false → (list_any (puts_join p g) newer ≡ false → Out a p (stays p.node g (newer ++ older))) → Out a p (stays p.node g (r ∷ newer ++ older))
      by true q z rest = absurd (cc)
      by false q z rest = out_step r (newer ++ older) f.0 q (rest z)

-- ---- what follows

-- whoever is there all the same is of the base, and did not pass
pub there_out : (a : Bool) (p : ProviderId) (x : Stay) (older : List Stay) → Out a p (x ∷ older) → among (present (state_of_stay x)) p ≡ true → (among (present x.base) p ≡ true) × ((passes p x.base (part p older) ≡ false) × (list_any (is_join_of p) x.entries ≡ false))
there_out a p x older (inl k) there =
    (there_first x.view x.base 0 x.entries p k.1 there, (not_passing p x.base (part p older) k.0, k.1))
there_out a p x older (inr k) there = absurd (let z : true ≡ false = sym there ∙ k.1.off in cc)

pub first_out : (p : ProviderId) (xs : List Stay) → Out false p xs → (part p xs).first ≡ None
first_out p [] k = refl
first_out p (x ∷ older) (inl k) = later_first p x older k
first_out p (x ∷ older) (inr k) = absurd (let z = k.0 in cc)

-- ---- it is taken off

place_le : (p : ProviderId) (es : List Entry) (e : Entry) (f : ℕ) → place_where (is_join_of p) (es ++ e ∷ []) ≡ Some f → f ≤ length es
place_le p [] e f q = by (is_join_of p e) q
  where
    by : (b : Bool) → (if b then Some 0 else None) ≡ Some f → f ≤ 0
    by true q = let z : 0 ≡ f = cc in omega (arith, z)
    by false q = absurd (cc)
place_le p (x ∷ es) e f q = by (is_join_of p x) q (place_le p es e)
  where
    deeper : (o : Option ℕ) → option_map suc o ≡ Some f → ((k : ℕ) → o ≡ Some k → k ≤ length es) → f ≤ suc (length es)
    deeper None q rest = absurd (cc)
    deeper (Some k) q rest = let z : suc k ≡ f = cc in let le = rest k refl in omega (arith, z, le)

    by : (b : Bool) → (if b then Some 0 else option_map suc (place_where (is_join_of p) (es ++ e ∷ []))) ≡ Some f → ((k : ℕ) → place_where (is_join_of p) (es ++ e ∷ []) ≡ Some k → k ≤ length es) → f ≤ suc (length es)
    by true q rest = let z : 0 ≡ f = cc in omega (arith, z)
    by false q rest = deeper (place_where (is_join_of p) (es ++ e ∷ [])) q rest

first_le : (p : ProviderId) (es : List Entry) (e : Entry) (b : Bool) (f : ℕ) → first_in p (es ++ e ∷ []) b ≡ Some f → f ≤ length es
first_le p es e true f q = let z : 0 ≡ f = cc in omega (arith, z)
first_le p es e false f q = place_le p es e f q

-- who is not there at the end, and had a first place, has a last one
last_there : (p : ProviderId) (v : ViewId) (f : ℕ) (s : GroupState) (es : List Entry) (e : Entry) → f ≤ length es → among (present (fold_from v s 0 (es ++ e ∷ []))) p ≡ false → (l : ℕ) × (last_from p v f s 0 (es ++ e ∷ []) ≡ Some l)
last_there p v f s es e le off = by (last_from p v f s 0 es) refl
  where
    zero : f ≤ 0 + length es
    zero = omega (arith, le)

    gone : among (present (after (fold_from v s 0 es) v (0 + length es) e)) p ≡ false
    gone = ap (λ z. among (present z) p) (sym (fold_pushed v es s 0 e)) ∙ off

    by : (o : Option ℕ) → last_from p v f s 0 es ≡ o → (l : ℕ) × (last_from p v f s 0 (es ++ e ∷ []) ≡ Some l)
    by (Some l) q = (l, last_stays p v f s 0 es e l q)
    by None q = (0 + length es, last_comes p v f s 0 es e zero q ∙ ap (λ b. if not b then Some (0 + length es) else None) gone)

pub off_out : (p : ProviderId) (x : Stay) (older : List Stay) (e : Entry) (f : ℕ) → (part p (pushed_stay x e ∷ older)).first ≡ Some f → among (present (state_of_stay (pushed_stay x e))) p ≡ false → Out true p (pushed_stay x e ∷ older)
off_out p x older e f first off =
    let l = last_there p x.view f x.base x.entries e (first_le p x.entries e (passes p x.base (part p older)) f first) off in
    inr (
      refl,
      record {
        first = f;
        last = l.0;
        first_is = first;
        last_is = ap (last_in p (pushed_stay x e)) first ∙ l.1;
        off = off;
        some = some_pushed x.entries e;
      },
    )
