-- The states of groups: what the lines make of bases and entries is what the records make of them.
use Rattle.std.proofs.Common.{◌≡◌, ℕ, zero, suc, arith, ◌+◌, ◌≤◌, Bool, true, false, List, [], ◌∷◌, ◌++◌, length, take, Option, Some, None, inl, inr, refl, sym, ◌∙◌, ap, subst}
use Rattle.std.specs.Prelude.{◌==◌, ◌&&◌, map, is_none, if◌then◌else◌}
use Rattle.std.specs.Str.{bytes_eq}
use Rattle.std.proofs.lemmas.Bool.{and_parts}
use Rattle.rsct_packet.specs.declared.ids.Member.{Member}
use Rattle.rsct_packet.specs.declared.ids.ViewId.{ViewId}
use Rattle.rsct_packet.specs.Ids.{same_view}
use Rattle.rsct_packet.specs.Search.{Has}
use Rattle.view_state.proofs.ViewOrder.{same_view_is}
use Rattle.proposal_core.specs.declared.entry.Entry.{Entry}
use Rattle.proposal_core.specs.declared.entry.Entry.TheVariants as entry
use Rattle.proposal_core.specs.declared.group_state.GroupState.{GroupState}
use Rattle.proposal_core.specs.Fold.{empty_state, fits, apply, after_if, after}
use Rattle.record_lines.specs.declared.line.BaseLine.{BaseLine}
use Rattle.node_state.specs.declared.happened.Happened.{Happened}
use Rattle.node_state.specs.declared.happened.Happened.TheVariants as happened
use Rattle.run_safety.specs.Past as past
use Rattle.run_safety.proofs.Prefix.{IsPrefix}
use Rattle.run_laws.specs.seen_runs.Seen as seen
use Rattle.run_laws.specs.seen_runs.Seen.{Seen, SeenAt, CutFrom}
use Rattle.line_laws.specs.Shown.{entry_shown, base_shown}
use Rattle.run_audit.specs.Past.{is_list, puts_of, list_of, fold_from, or_base, base_after, base_of, base_state, state_of}
use Rattle.run_audit.proofs.ListLaws.{list_same, text_same}
use Rattle.run_audit.proofs.PlaceLaws.{list_self}
use Rattle.audit_laws.specs.Lines.{shown, lines}
use Rattle.audit_laws.proofs.Lists.{puts_are, puts_length, front}
use Rattle.audit_laws.proofs.Tests.{both, eq_self, view_self, text_self, map_take}

-- ---- a message changes no state, nor does the value of what is rejected

pub fits_shown : (s : GroupState) (e : Entry) → fits s (entry_shown e) ≡ fits s e
unfolding fits
fits_shown s (entry.Once x) = refl
fits_shown s (entry.Begin x) = refl
fits_shown s (entry.Phase c) = refl
fits_shown s (entry.Approve c) = refl
fits_shown s (entry.Reject c) = refl
fits_shown s (entry.Late proto phase ps) = refl

apply_shown : (s : GroupState) (v : ViewId) (i : ℕ) (e : Entry) → apply s v i (entry_shown e) ≡ apply s v i e
unfolding apply
apply_shown s v i (entry.Once x) = refl
apply_shown s v i (entry.Begin x) = refl
apply_shown s v i (entry.Phase c) = refl
apply_shown s v i (entry.Approve c) = refl
apply_shown s v i (entry.Reject c) = refl
apply_shown s v i (entry.Late proto phase ps) = refl

pub after_shown : (s : GroupState) (v : ViewId) (i : ℕ) (e : Entry) → after s v i (entry_shown e) ≡ after s v i e
unfolding after after_if
after_shown s v i e = ap (after_if s v i (entry_shown e)) (fits_shown s e) ∙ by (fits s e)
  where
    by : (t : Bool) → after_if s v i (entry_shown e) t ≡ after_if s v i e t
    by true = apply_shown s v i e
    by false = refl

pub fold_shown : (v : ViewId) (s : GroupState) (i : ℕ) (es : List Entry) → fold_from v s i (map entry_shown es) ≡ past.fold_from v s i es
unfolding fold_from
fold_shown v s i [] = refl
fold_shown v s i (e ∷ es) = ap (λ t. fold_from v t (i + 1) (map entry_shown es)) (after_shown s v i e) ∙ fold_shown v (after s v i e) (i + 1) es

-- ---- bases

-- somebody noted the base
pub record WasBase (v : ViewId) (g : List ℕ) (b : BaseLine) (rs : List Happened) : Type 0 where
  pub node : ℕ
  pub old : ViewId
  pub len : ℕ
  pub state : GroupState
  pub there : Has (happened.Base node v g old len state) rs
  pub is : b ≡ base_shown old len state

base_later : (v : ViewId) (g : List ℕ) (b : BaseLine) (r : Happened) (rs : List Happened) → WasBase v g b rs → WasBase v g b (r ∷ rs)
base_later v g b r rs k = record { node = k.node; old = k.old; len = k.len; state = k.state; there = inr k.there; is = k.is }

pub base_was : (v : ViewId) (g : List ℕ) (b : BaseLine) (rs : List Happened) → base_of v g (lines rs) ≡ Some b → WasBase v g b rs
unfolding lines shown base_of base_after or_base
base_was v g b [] e = absurd cc
base_was v g b (happened.Base m u h old len s ∷ rs) e = by (is_list v g u h) refl (base_of v g (lines rs)) e (base_was v g b rs)
  where
    by : (t : Bool) → is_list v g u h ≡ t → (o : Option BaseLine) → (if t then or_base o (base_shown old len s) else o) ≡ Some b → (o ≡ Some b → WasBase v g b rs) → WasBase v g b (happened.Base m u h old len s ∷ rs)
    by true f None q k =
        let a = list_same v u g h f in
        let its : BaseLine = base_shown old len s in
        let c : Some its ≡ Some b = q in
        let d : its ≡ b = cc in
        record { node = m; old = old; len = len; state = s; there = inl (λ i. happened.Base m (sym a.0 i) (sym a.1 i) old len s); is = sym d }
    by true f (Some c) q k = base_later v g b (happened.Base m u h old len s) rs (k q)
    by false f o q k = base_later v g b (happened.Base m u h old len s) rs (k q)
base_was v g b (r ∷ rs) e = base_later v g b r rs (base_was v g b rs e)

-- where somebody did, the lines have one
base_there : (m : ℕ) (v : ViewId) (g : List ℕ) (t : ViewId) (k : ℕ) (x : GroupState) (rs : List Happened) → Has (happened.Base m v g t k x) rs → is_none (base_of v g (lines rs)) ≡ false
unfolding lines shown base_of base_after or_base
base_there m v g t k x [] h = absurd h
base_there m v g t k x (happened.Base n u w old len s ∷ rs) (inl e) =
    let a : v ≡ u = cc in
    let b : g ≡ w = cc in
    by (base_of v g (lines rs)) ((λ i. is_list v g (sym a i) (sym b i)) ∙ list_self v g)
  where
    by : (o : Option BaseLine) → is_list v g u w ≡ true → is_none (if is_list v g u w then or_base o (base_shown old len s) else o) ≡ false
    by None f = ap (λ z. is_none (if z then Some (base_shown old len s) else None)) f
    by (Some c) f = ap (λ z. is_none (if z then Some c else Some c)) f
base_there m v g t k x (happened.Base n u w old len s ∷ rs) (inr h) = by (is_list v g u w) (base_of v g (lines rs)) (base_there m v g t k x rs h)
  where
    by : (f : Bool) (o : Option BaseLine) → is_none o ≡ false → is_none (if f then or_base o (base_shown old len s) else o) ≡ false
    by true None q = absurd cc
    by true (Some c) q = refl
    by false o q = q
base_there m v g t k x (_ ∷ rs) (inl e) = absurd cc
base_there m v g t k x (_ ∷ rs) (inr h) = base_there m v g t k x rs h

-- where nobody did, the group begins with nothing
none_state : (v : ViewId) (g : List ℕ) (rs : List Happened) → base_of v g (lines rs) ≡ None → base_state v g (lines rs) ≡ empty_state
unfolding lines shown base_of base_after or_base base_state
none_state v g [] e = refl
none_state v g (happened.Base m u h old len s ∷ rs) e = by (is_list v g u h) (base_of v g (lines rs)) refl e (none_state v g rs)
  where
    Cut : GroupState
    Cut = record (fold_from old (base_state old g (lines rs)) 0 (take len (list_of old g (lines rs)))) { failed = s.failed }

    by : (t : Bool) (o : Option BaseLine) → base_of v g (lines rs) ≡ o → (if t then or_base o (base_shown old len s) else o) ≡ None → (base_of v g (lines rs) ≡ None → base_state v g (lines rs) ≡ empty_state) → elim (t && is_none (base_of v g (lines rs))) [ true ↦ Cut | false ↦ base_state v g (lines rs) ] ≡ empty_state
    by true None f q k = absurd cc
    by true (Some c) f q k = absurd cc
    by false o f q k = k (f ∙ q)
none_state v g (_ ∷ rs) e = none_state v g rs e

none_own : (n : ℕ) (v : ViewId) (g : List ℕ) (rs : List Happened) → base_of v g (lines rs) ≡ None → past.base_of n v g rs ≡ empty_state
unfolding lines shown base_of base_after or_base is_list
none_own n v g [] e = refl
none_own n v g (happened.Base m u h old len s ∷ rs) e = by (m == n) (same_view u v && bytes_eq h g) (base_of v g (lines rs)) refl e (none_own n v g rs)
  where
    by : (a t : Bool) (o : Option BaseLine) → base_of v g (lines rs) ≡ o → (if t then or_base o (base_shown old len s) else o) ≡ None → (base_of v g (lines rs) ≡ None → past.base_of n v g rs ≡ empty_state) → (if a && t then s else past.base_of n v g rs) ≡ empty_state
    by a true None f q k = absurd cc
    by a true (Some c) f q k = absurd cc
    by true false o f q k = k (f ∙ q)
    by false false o f q k = k (f ∙ q)
none_own n v g (_ ∷ rs) e = none_own n v g rs e

-- what a node noted is its base: it noted no other
pub own_base : (n : ℕ) (v : ViewId) (g : List ℕ) (t : ViewId) (k : ℕ) (x : GroupState) (rs : List Happened) → Seen rs → Has (happened.Base n v g t k x) rs → past.base_of n v g rs ≡ x
own_base n v g t k x [] s h = absurd h
own_base n v g t k x (happened.Base m u w old len st ∷ rs) s (inl e) =
    let a : n ≡ m = cc in
    let b : v ≡ u = cc in
    let c : g ≡ w = cc in
    let d : x ≡ st = cc in
    ap (λ f. if f then st else past.base_of n v g rs) (here a b c) ∙ sym d
  where
    here : n ≡ m → v ≡ u → g ≡ w → past.is_list n v g m u w ≡ true
    here a b c = (λ i. past.is_list n v g (sym a i) (sym b i) (sym c i)) ∙ itself
      where
        itself : past.is_list n v g n v g ≡ true
        itself = both (n == n) (same_view v v && bytes_eq g g) (eq_self n) (both (same_view v v) (bytes_eq g g) (view_self v) (text_self g))
own_base n v g t k x (happened.Base m u w old len st ∷ rs) s (inr h) = by (past.is_list n v g m u w) refl (own_base n v g t k x rs s.1 h)
  where
    by : (f : Bool) → past.is_list n v g m u w ≡ f → past.base_of n v g rs ≡ x → (if f then st else past.base_of n v g rs) ≡ x
    by false f q = q
    by true f q =
        let p = and_parts (m == n) (same_view u v && bytes_eq w g) f in
        let z = and_parts (same_view u v) (bytes_eq w g) p.1 in
        let a : u ≡ v = same_view_is u v z.0 in
        let b : w ≡ g = text_same w g z.1 in
        let there : Has (happened.Base n u w t k x) rs = subst (λ (y : ViewId × List ℕ). Has (happened.Base n y.0 y.1 t k x) rs) (λ i. (sym a i, sym b i)) h in
        sym (s.0.base.same n t k x there).2
own_base n v g t k x (_ ∷ rs) s (inl e) = absurd cc
own_base n v g t k x (_ ∷ rs) s (inr h) = own_base n v g t k x rs s.1 h

-- where a node noted the base, if anybody did, the group begins as the node's records say
abbrev pub Knows : ℕ → ViewId → List ℕ → List Happened → Type 0
Knows n v g rs = (m : ℕ) (t : ViewId) (k : ℕ) (x : GroupState) → Has (happened.Base m v g t k x) rs → Has (happened.Base n v g t k x) rs

abbrev Bases : List Happened → Type 0
Bases rs = (m : ℕ) (v : ViewId) (g : List ℕ) (t : ViewId) (k : ℕ) (x : GroupState) → Has (happened.Base m v g t k x) rs → base_state v g (lines rs) ≡ x

known_by : (rs : List Happened) → Seen rs → Bases rs → (n : ℕ) (v : ViewId) (g : List ℕ) → Knows n v g rs → base_state v g (lines rs) ≡ past.base_of n v g rs
known_by rs s bases n v g knows = by (base_of v g (lines rs)) refl
  where
    by : (o : Option BaseLine) → base_of v g (lines rs) ≡ o → base_state v g (lines rs) ≡ past.base_of n v g rs
    by None e = none_state v g rs e ∙ sym (none_own n v g rs e)
    by (Some b) e =
        let w = base_was v g b rs e in
        bases w.node v g w.old w.len w.state w.there ∙ sym (own_base n v g w.old w.len w.state rs s (knows w.node w.old w.len w.state w.there))

prefix_take : (k : ℕ) (xs ys : List Entry) → IsPrefix xs ys → k ≤ length xs → take k ys ≡ take k xs
prefix_take k xs ys p h = ap (take k) (sym p.is) ∙ front_of k xs p.rest h
  where
    front_of : (k : ℕ) (xs zs : List Entry) → k ≤ length xs → take k (xs ++ zs) ≡ take k xs
    front_of zero xs zs h = refl
    front_of (suc k) [] zs h = absurd (omega arith)
    front_of (suc k) (x ∷ xs) zs h = ap (λ z. x ∷ z) (front_of k xs zs (omega arith))

-- the view's list up to a length that a node's list reaches is that node's
pub list_reaches : (n : ℕ) (v : ViewId) (g : List ℕ) (k : ℕ) (rs : List Happened) → Seen rs → k ≤ length (past.puts_of n v g rs) → take k (list_of v g (lines rs)) ≡ map entry_shown (take k (past.puts_of n v g rs))
list_reaches n v g k rs s h =
    prefix_take k (puts_of n v g (lines rs)) (list_of v g (lines rs)) (front n v g rs s) (subst (λ z. k ≤ z) (sym (puts_length n v g rs)) h)
    ∙ (ap (take k) (puts_are n v g rs) ∙ map_take entry_shown k (past.puts_of n v g rs))

-- what the old list comes to
pub cut_state : (rs : List Happened) → Seen rs → Bases rs → (v : ViewId) (ms : List Member) (g : List ℕ) (u : ViewId) (len : ℕ) (st : GroupState) (c : CutFrom rs v ms g u len st)
    → fold_from u (base_state u g (lines rs)) 0 (take len (list_of u g (lines rs))) ≡ past.fold_from u (past.base_of c.node u g rs) 0 (take len (past.puts_of c.node u g rs))
cut_state rs s bases v ms g u len st c =
    (λ i. fold_from u (known_by rs s bases c.node u g c.knows i) 0 (list_reaches c.node u g len rs s c.reaches i)) ∙ fold_shown u (past.base_of c.node u g rs) 0 (take len (past.puts_of c.node u g rs))

cut_is : (rs : List Happened) → Seen rs → Bases rs → (v : ViewId) (ms : List Member) (g : List ℕ) (u : ViewId) (len : ℕ) (st : GroupState) → CutFrom rs v ms g u len st → record (fold_from u (base_state u g (lines rs)) 0 (take len (list_of u g (lines rs)))) { failed = st.failed } ≡ st
cut_is rs s bases v ms g u len st c =
    let F : GroupState = past.fold_from u (past.base_of c.node u g rs) 0 (take len (past.puts_of c.node u g rs)) in
    let same : st ≡ seen.marked rs v ms u F = c.state in
    let failed : st.failed ≡ (seen.marked rs v ms u F).failed = ap (λ (x : GroupState). x.failed) same in
    (λ i. record (cut_state rs s bases v ms g u len st c i) { failed = failed i }) ∙ sym same

-- the base that anybody noted is the state that the group begins with, by the lines
pub bases_are : (rs : List Happened) → Seen rs → Bases rs
unfolding lines shown base_state
bases_are [] s m v g t k x h = absurd h
bases_are (happened.Base n u w old len st ∷ rs) s m v g t k x (inl e) =
    let a : v ≡ u = cc in
    let b : g ≡ w = cc in
    let d : x ≡ st = cc in
    by (bases_are rs s.1) (base_of v g (lines rs)) refl ((λ i. is_list v g (sym a i) (sym b i)) ∙ list_self v g) a b ∙ sym d
  where
    Cut : GroupState
    Cut = record (fold_from old (base_state old g (lines rs)) 0 (take len (list_of old g (lines rs)))) { failed = st.failed }

    by : Bases rs → (o : Option BaseLine) → base_of v g (lines rs) ≡ o → is_list v g u w ≡ true → v ≡ u → g ≡ w → elim (is_list v g u w && is_none (base_of v g (lines rs))) [ true ↦ Cut | false ↦ base_state v g (lines rs) ] ≡ st
    by bases None f q a b =
        (λ i. elim (q i && is_none (f i)) [ true ↦ Cut | false ↦ base_state v g (lines rs) ])
        ∙ subst (λ z. record (fold_from old (base_state old z (lines rs)) 0 (take len (list_of old z (lines rs)))) { failed = st.failed } ≡ st) (sym b) (cut_is rs s.1 bases u s.0.base.members w old len st s.0.base.cut)
    by bases (Some c) f q a b =
        let y = base_was v g c rs f in
        let there : Has (happened.Base y.node u w y.old y.len y.state) rs = subst (λ (z : ViewId × List ℕ). Has (happened.Base y.node z.0 z.1 y.old y.len y.state) rs) (λ i. (a i, b i)) y.there in
        (λ i. elim (q i && is_none (f i)) [ true ↦ Cut | false ↦ base_state v g (lines rs) ])
        ∙ (bases y.node v g y.old y.len y.state y.there ∙ (s.0.base.same y.node y.old y.len y.state there).2)
bases_are (happened.Base n u w old len st ∷ rs) s m v g t k x (inr h) =
    ap (λ z. elim (is_list v g u w && z) [ true ↦ record (fold_from old (base_state old g (lines rs)) 0 (take len (list_of old g (lines rs)))) { failed = st.failed } | false ↦ base_state v g (lines rs) ]) (base_there m v g t k x rs h)
    ∙ (by (is_list v g u w) ∙ bases_are rs s.1 m v g t k x h)
  where
    by : (t : Bool) → elim (t && false) [ true ↦ record (fold_from old (base_state old g (lines rs)) 0 (take len (list_of old g (lines rs)))) { failed = st.failed } | false ↦ base_state v g (lines rs) ] ≡ base_state v g (lines rs)
    by true = refl
    by false = refl
bases_are (_ ∷ rs) s m v g t k x (inl e) = absurd cc
bases_are (_ ∷ rs) s m v g t k x (inr h) = bases_are rs s.1 m v g t k x h

pub base_is : (rs : List Happened) → Seen rs → (n : ℕ) (v : ViewId) (g : List ℕ) → Knows n v g rs → base_state v g (lines rs) ≡ past.base_of n v g rs
base_is rs s n v g knows = known_by rs s (bases_are rs s) n v g knows

pub state_is : (rs : List Happened) → Seen rs → (n : ℕ) (v : ViewId) (g : List ℕ) → Knows n v g rs → state_of n v g (lines rs) ≡ past.state_now n v g rs
unfolding state_of
state_is rs s n v g knows = (λ i. fold_from v (base_is rs s n v g knows i) 0 (puts_are n v g rs i)) ∙ fold_shown v (past.base_of n v g rs) 0 (past.puts_of n v g rs)
