-- What is put since a node entered a view stands in its latest stay, and nothing else.
use Rattle.std.proofs.Common.{◌≡◌, ◌⊎◌, ℕ, List, [], ◌∷◌, ◌++◌, Bool, true, false, refl, sym, ap, ◌∙◌, inl, inr, ⊎_elim}
use Rattle.std.specs.Prelude.{◌==◌, ◌&&◌, if◌then◌else◌}
use Rattle.std.specs.Str.{bytes_eq}
use Rattle.std.proofs.lemmas.Bool.{eqb-true}
use Rattle.rsct_packet.specs.declared.ids.ViewId.{ViewId}
use Rattle.rsct_packet.specs.Search.{Has}
use Rattle.rsct_packet.proofs.HasLaws.{has_append}
use Rattle.proposal_core.specs.declared.entry.Entry.{Entry}
use Rattle.node_state.specs.declared.happened.Happened.{Happened}
use Rattle.node_state.specs.declared.happened.Happened.TheVariants as happened
use Rattle.run_safety.specs.Stays.{Stay, stays, with_entry}
use Rattle.node_state.proofs.NameOrder.{text_same}
use Rattle.run_laws.proofs.gapless.Fair.{Mild}

-- a list that is cut in two, at an element
abbrev pub Cut : List Happened → List Happened → List Happened → Happened → List Happened → Type 0
Cut xs bs cs x ds = ((es : List Happened) × (xs ≡ cs ++ x ∷ es) × (ds ≡ es ++ bs)) ⊎ ((es : List Happened) × (bs ≡ es ++ x ∷ ds))

head_is : {a b : Happened} {xs ys : List Happened} → a ∷ xs ≡ b ∷ ys → a ≡ b
head_is e = cc

tail_is : {a b : Happened} {xs ys : List Happened} → a ∷ xs ≡ b ∷ ys → xs ≡ ys
tail_is e = cc

pub cut_at : (xs bs cs : List Happened) (x : Happened) (ds : List Happened) → xs ++ bs ≡ cs ++ x ∷ ds → Cut xs bs cs x ds
cut_at [] bs cs x ds e = inr (cs, e)
cut_at (a ∷ xs) bs [] x ds e = inl (xs, ap (λ z. z ∷ xs) (head_is e), sym (tail_is e))
cut_at (a ∷ xs) bs (c ∷ cs) x ds e = by (cut_at xs bs cs x ds (tail_is e))
  where
    by : Cut xs bs cs x ds → Cut (a ∷ xs) bs (c ∷ cs) x ds
    by (inl k) = inl (k.0, (λ i. head_is e i ∷ k.1 i), k.2)
    by (inr k) = inr k

-- the node put the entry among these records
pub record Later (n : ℕ) (g : List ℕ) (e : Entry) (rs : List Happened) : Type 0 where
  pub view : ViewId
  pub place : ℕ
  pub newer : List Happened
  pub older : List Happened
  pub is : rs ≡ newer ++ happened.Put n view g place e ∷ older

later_on : (n : ℕ) (g : List ℕ) (e : Entry) (r : Happened) (rs : List Happened) → Later n g e rs → Later n g e (r ∷ rs)
later_on n g e r rs k = record { view = k.view; place = k.place; newer = r ∷ k.newer; older = k.older; is = ap (λ z. r ∷ z) k.is }

-- the stay with what was put
pub record Grown (n : ℕ) (g : List ℕ) (rs : List Happened) (xs : List Stay) (x : Stay) (older : List Stay) : Type 0 where
  pub now : Stay
  pub is : xs ≡ now ∷ older
  pub base : now.base ≡ x.base
  pub entries : (e : Entry) → Has e now.entries → Later n g e rs ⊎ Has e x.entries

grown_same : (n : ℕ) (g : List ℕ) (r : Happened) (rs : List Happened) (xs ys : List Stay) (x : Stay) (older : List Stay) → ys ≡ xs → Grown n g rs xs x older → Grown n g (r ∷ rs) ys x older
grown_same n g r rs xs ys x older q k =
    record { now = k.now; is = q ∙ k.is; base = k.base; entries = λ e h. ⊎_elim (λ (a : Later n g e rs). inl (later_on n g e r rs a)) (λ (a : Has e x.entries). inr a) (k.entries e h) }

pub grown : (n : ℕ) (g : List ℕ) (rs base : List Happened) (x : Stay) (older : List Stay) → ((r : Happened) → Has r rs → Mild r) → stays n g base ≡ x ∷ older → Grown n g rs (stays n g (rs ++ base)) x older
grown n g [] base x older all q = record { now = x; is = q; base = refl; entries = λ e h. inr h }
grown n g (r ∷ rs) base x older all q = by r (all r (inl refl)) (grown n g rs base x older (λ z i. all z (inr i)) q)
  where
    by : (r : Happened) → Mild r → Grown n g rs (stays n g (rs ++ base)) x older → Grown n g (r ∷ rs) (stays n g (r ∷ rs ++ base)) x older
    by (happened.Up m j) a k = absurd a
    by (happened.Down m) a k = absurd a
    by (happened.In m v ms) a k = absurd a
    by (happened.Base m v h u len s) a k = absurd a
    by (happened.Put m v h i e) a k = put (m == n) (bytes_eq h g) refl refl
      where
        it : Happened
        it = happened.Put m v h i e

        put : (a b : Bool) → (m == n) ≡ a → bytes_eq h g ≡ b → Grown n g (it ∷ rs) (if a && b then with_entry e (stays n g (rs ++ base)) else stays n g (rs ++ base)) x older
        put true true c d =
            record {
              now = record (k.now) { entries = k.now.entries ++ e ∷ [] };
              is = ap (with_entry e) k.is;
              base = k.base;
              entries = λ z j. ⊎_elim (λ (y : Has z k.now.entries). ⊎_elim (λ (b : Later n g z rs). inl (later_on n g z it rs b)) (λ (b : Has z x.entries). inr b) (k.entries z y)) (λ (y : Has z (e ∷ [])). inl (new z y)) (has_append z k.now.entries (e ∷ []) j);
            }
          where
            new : (z : Entry) → Has z (e ∷ []) → Later n g z (it ∷ rs)
            new z (inl y) = record { view = v; place = i; newer = []; older = rs; is = (λ j. happened.Put (eqb-true m n c j) v (text_same h g d j) i (sym y j) ∷ rs) }
            new z (inr y) = absurd y
        put true false c d = grown_same n g it rs (stays n g (rs ++ base)) _ x older refl k
        put false b c d = grown_same n g it rs (stays n g (rs ++ base)) _ x older refl k
    by r a k = grown_same n g r rs (stays n g (rs ++ base)) _ x older refl k
