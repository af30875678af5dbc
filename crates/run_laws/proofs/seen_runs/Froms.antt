-- Where a node came from into a view, by the records and by the lines of a group.
use Rattle.std.proofs.Common.{refl, ◌≡◌, ℕ, ◌⊎◌, ⊎_elim, inl, inr, sym, ◌∙◌, ap, subst, true, false, Bool, List, [], ◌∷◌, Option, Some, None, arith}
use Rattle.std.specs.Prelude.{◌==◌, ◌&&◌, if◌then◌else◌}
use Rattle.std.proofs.lemmas.Bool.{eqb-true, and_parts}
use Rattle.std.proofs.lemmas.Bool.Decides.{nat_tests}
use Rattle.rsct_packet.specs.declared.ids.Member.{Member}
use Rattle.rsct_packet.specs.declared.ids.ViewId.{ViewId}
use Rattle.rsct_packet.specs.Ids.{view_lt}
use Rattle.rsct_packet.specs.Search.{Has}
use Rattle.node_state.specs.declared.happened.Happened.{Happened}
use Rattle.node_state.specs.declared.happened.Happened.TheVariants as happened
use Rattle.run_safety.specs.ViewOrder.{is_before, Lt, Le}
use Rattle.run_safety.specs.Group.{In, Line, Kept, kept}
use Rattle.run_safety.specs.GroupLists.{WasIn, From}
use Rattle.run_safety.specs.Past.{History, records_of}
use Rattle.run_safety.specs.Sight.{inc_in, lines_at, lines_of}
use Rattle.run_safety.proofs.Order.{lt_refl, le_lt_trans, lt_le, le_antisym}
use Rattle.run_laws.specs.seen_runs.Seen.{greater, from_after, from_of}
use Rattle.run_laws.proofs.seen_runs.Sights.{LineOf, Enters, Puts, Bases, Hears, Asks, Tells, Else, line_of, recorded}
use Rattle.run_safety.proofs.SightLaws.{line_kept, kept_line, line_seen}

-- ---- who entered which view

pub in_kept : (g : List ℕ) (n : ℕ) (v : ViewId) (ms : List Member) (h : History) → Has (happened.In n v ms) (records_of h) → Has (In n (inc_in n ms) v ms) (kept (lines_of g h))
in_kept g n v ms h k =
    line_kept (In n (inc_in n ms) v ms) (lines_of g h) (line_seen (Kept (In n (inc_in n ms) v ms)) g (happened.In n v ms) (λ rs. inl refl) h k)

-- the record of a line of entering
pub in_recorded : (g : List ℕ) (n j : ℕ) (v : ViewId) (ms : List Member) (h : History) → Has (In n j v ms) (kept (lines_of g h)) → Has (happened.In n v ms) (records_of h) × (j ≡ inc_in n ms)
in_recorded g n j v ms h k =
    let q = recorded g (Kept (In n j v ms)) h (λ e. cc) (kept_line (In n j v ms) (lines_of g h) k) in
    at q.of (lines_at g q.rs q.of) (line_of g q.rs q.of) q.there q.shows
  where
    at : {rs : List Happened} (r : Happened) (ls : List Line) → LineOf g rs r ls → Has r (records_of h) → Has (Kept (In n j v ms)) ls → Has (happened.In n v ms) (records_of h) × (j ≡ inc_in n ms)
    at _ _ (Enters m u ns) there (inl e) =
        let a : n ≡ m = cc in
        let b : j ≡ inc_in m ns = cc in
        let c : v ≡ u = cc in
        let d : ms ≡ ns = cc in
        (subst (λ (z : ℕ × ViewId × List Member). Has (happened.In z.0 z.1 z.2) (records_of h)) (λ i. (sym a i, sym c i, sym d i)) there, b ∙ (λ i. inc_in (sym a i) (sym d i)))
    at _ _ (Enters m u ns) there (inr z) = absurd z
    at _ _ (Puts m u k i e q) there (inl s) = absurd (cc)
    at _ _ (Puts m u k i e q) there (inr z) = absurd z
    at _ _ (Bases m u k o len s q) there (inl e) = absurd (cc)
    at _ _ (Bases m u k o len s q) there (inr z) = absurd z
    at _ _ (Hears p u k i e ns value q) there (inl s) = absurd (cc)
    at _ _ (Hears p u k i e ns value q) there (inr z) = absurd z
    at _ _ (Asks p r k x q) there (inl e) = absurd (cc)
    at _ _ (Asks p r k x q) there (inr z) = absurd z
    at _ _ (Tells p r why u q) there (inl e) = absurd (cc)
    at _ _ (Tells p r why u q) there (inr z) = absurd z
    at _ _ (Else r silent) there z = absurd z

-- ---- the greatest view below

-- the node entered it in this incarnation, below v
record Below (rs : List Happened) (m j : ℕ) (v u : ViewId) : Type 0 where
  members : List Member
  there : Has (happened.In m u members) rs
  inc : inc_in m members ≡ j
  less : Lt u v

abbrev FromIs : List Happened → ℕ → ℕ → ViewId → Option ViewId → Type 0
FromIs rs m j v None = (u : ViewId) → Below rs m j v u → ⊥
FromIs rs m j v (Some u) = Below rs m j v u × ((t : ViewId) → Below rs m j v t → Le t u)

-- a record that is no entering of it
skipped : (rs : List Happened) (r : Happened) (m j : ℕ) (v : ViewId) (o : Option ViewId) → ((u : ViewId) → Below (r ∷ rs) m j v u → Below rs m j v u) → FromIs rs m j v o → FromIs (r ∷ rs) m j v o
skipped rs r m j v None back h = λ u b. h u (back u b)
skipped rs r m j v (Some u) back h = (record { members = h.0.members; there = inr h.0.there; inc = h.0.inc; less = h.0.less }, λ t b. h.1 t (back t b))

older : (rs : List Happened) (r : Happened) (m j : ℕ) (v : ViewId) → ((u : ViewId) (ms : List Member) → happened.In m u ms ≡ r → (inc_in m ms ≡ j) → Lt u v → ⊥) → (u : ViewId) → Below (r ∷ rs) m j v u → Below rs m j v u
older rs r m j v other u b = at b.there
  where
    at : (happened.In m u b.members ≡ r) ⊎ Has (happened.In m u b.members) rs → Below rs m j v u
    at (inl e) = absurd (other u b.members e b.inc b.less)
    at (inr h) = record { members = b.members; there = h; inc = b.inc; less = b.less }

from_is : (m j : ℕ) (v : ViewId) (rs : List Happened) → FromIs rs m j v (from_of m j v rs)
unfolding is_before
from_is m j v [] = λ u b. b.there
from_is m j v (r ∷ rs) = by r (lines_at [] rs r) (line_of [] rs r) (from_is m j v rs)
  where
    by : (r : Happened) (ls : List Line) → LineOf [] rs r ls → FromIs rs m j v (from_of m j v rs) → FromIs (r ∷ rs) m j v (from_after m j v r (from_of m j v rs))
    by _ _ (Puts n u k i e q) h = skipped rs _ m j v (from_of m j v rs) (older rs _ m j v (λ u ms e a b. cc)) h
    by _ _ (Bases n u k o len s q) h = skipped rs _ m j v (from_of m j v rs) (older rs _ m j v (λ u ms e a b. cc)) h
    by _ _ (Hears p u k i e ms value q) h = skipped rs _ m j v (from_of m j v rs) (older rs _ m j v (λ u ms e a b. cc)) h
    by _ _ (Asks p r k x q) h = skipped rs _ m j v (from_of m j v rs) (older rs _ m j v (λ u ms e a b. cc)) h
    by _ _ (Tells p r why u q) h = skipped rs _ m j v (from_of m j v rs) (older rs _ m j v (λ u ms e a b. cc)) h
    by r _ (Else _ silent) h =
        subst (FromIs (r ∷ rs) m j v) (sym (silent.from m j v (from_of m j v rs))) (skipped rs r m j v (from_of m j v rs) (older rs r m j v (λ u ms e a b. silent.no_view m u ms e)) h)
    by _ _ (Enters n u ms) h = entered (from_of m j v rs) (n == m && (inc_in m ms == j && view_lt u v)) refl h
      where
        it : Happened
        it = happened.In n u ms

        entered : (o : Option ViewId) (b : Bool) → (n == m && (inc_in m ms == j && view_lt u v)) ≡ b → FromIs rs m j v o → FromIs (it ∷ rs) m j v (if b then Some (greater u o) else o)
        entered o false e h = skipped rs it m j v o (older rs it m j v apart) h
          where
            apart : (t : ViewId) (ns : List Member) → happened.In m t ns ≡ it → (inc_in m ns ≡ j) → Lt t v → ⊥
            apart t ns q i l =
                let a : m ≡ n = cc in
                let c : t ≡ u = cc in
                let d : ns ≡ ms = cc in
                let i' : inc_in m ms ≡ j = ap (inc_in m) (sym d) ∙ i in
                let l' : view_lt u v ≡ true = subst (λ z. view_lt z v ≡ true) c l in
                absurd (let z : (n == m && (inc_in m ms == j && view_lt u v)) ≡ true = grind (arith, nat_tests) in cc)
        entered o true e h = at o h
          where
            parts : (n ≡ m) × (inc_in m ms ≡ j) × Lt u v
            parts =
                let x = and_parts (n == m) (inc_in m ms == j && view_lt u v) e in
                let y = and_parts (inc_in m ms == j) (view_lt u v) x.1 in
                (eqb-true n m x.0, eqb-true (inc_in m ms) j y.0, y.1)

            new : Below (it ∷ rs) m j v u
            new = record { members = ms; there = inl (λ z. happened.In (sym parts.0 z) u ms); inc = parts.1; less = parts.2 }

            -- what is below v is this one, or was below v before
            split : (t : ViewId) → Below (it ∷ rs) m j v t → (t ≡ u) ⊎ Below rs m j v t
            split t b = found b.there
              where
                found : (happened.In m t b.members ≡ it) ⊎ Has (happened.In m t b.members) rs → (t ≡ u) ⊎ Below rs m j v t
                found (inl q) = let c : t ≡ u = cc in inl c
                found (inr k) = inr (record { members = b.members; there = k; inc = b.inc; less = b.less })

            at : (o : Option ViewId) → FromIs rs m j v o → FromIs (it ∷ rs) m j v (Some (greater u o))
            at None h = (new, λ t b. ⊎_elim (λ (c : t ≡ u). subst (λ z. Le z u) (sym c) (lt_refl u)) (λ (k : Below rs m j v t). absurd (h t k)) (split t b))
            at (Some t) h = pick (view_lt t u) refl
              where
                pick : (b : Bool) → view_lt t u ≡ b → FromIs (it ∷ rs) m j v (Some (if b then u else t))
                pick true q =
                    (new, λ z b. ⊎_elim (λ (c : z ≡ u). subst (λ y. Le y u) (sym c) (lt_refl u)) (λ (k : Below rs m j v z). let a : Le z t = h.1 z k in let l : Lt t u = q in let s : Lt z u = le_lt_trans z t u a l in lt_le z u s) (split z b))
                pick false q =
                    (record { members = h.0.members; there = inr h.0.there; inc = h.0.inc; less = h.0.less }, λ z b. ⊎_elim (λ (c : z ≡ u). subst (λ y. Le y t) (sym c) q) (λ (k : Below rs m j v z). h.1 z k) (split z b))

-- ---- lines and records say the same

below_was : (g : List ℕ) (h : History) (m j : ℕ) (v u : ViewId) → Below (records_of h) m j v u → WasIn (kept (lines_of g h)) m j u
below_was g h m j v u b =
    (b.members, subst (λ i. Has (In m i u b.members) (kept (lines_of g h))) b.inc (in_kept g m u b.members h b.there))

was_below : (g : List ℕ) (h : History) (m j : ℕ) (v u : ViewId) → Lt u v → WasIn (kept (lines_of g h)) m j u → Below (records_of h) m j v u
was_below g h m j v u l k = let q = in_recorded g m j u k.0 h k.1 in record { members = k.0; there = q.0; inc = sym q.1; less = l }

pub from_line : (g : List ℕ) (h : History) (m j : ℕ) (v u : ViewId) → from_of m j v (records_of h) ≡ Some u → From (kept (lines_of g h)) m j v u
from_line g h m j v u e =
    let k : FromIs (records_of h) m j v (Some u) = subst (FromIs (records_of h) m j v) e (from_is m j v (records_of h)) in
    record {
      was = below_was g h m j v u k.0;
      less = k.0.less;
      last = λ t w l. k.1 t (was_below g h m j v t l w);
    }

pub line_from : (g : List ℕ) (h : History) (m j : ℕ) (v u : ViewId) → From (kept (lines_of g h)) m j v u → from_of m j v (records_of h) ≡ Some u
line_from g h m j v u f = at (from_of m j v (records_of h)) refl (from_is m j v (records_of h))
  where
    here : Below (records_of h) m j v u
    here = was_below g h m j v u f.less f.was

    at : (o : Option ViewId) → from_of m j v (records_of h) ≡ o → FromIs (records_of h) m j v o → from_of m j v (records_of h) ≡ Some u
    at None e k = absurd (k u here)
    at (Some t) e k =
        let a : Le u t = k.1 u here in
        let b : Le t u = f.last t (below_was g h m j v t k.0) k.0.less in
        e ∙ ap (λ z. Some z) (le_antisym t u b a)
