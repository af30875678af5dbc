-- The views that a node enters rise while it is up, and it puts and hears in the one that it is in.
use Rattle.std.proofs.Common.{◌≡◌, inl, inr, ℕ, ◌+◌, Bool, true, false, List, [], ◌∷◌, ◌++◌, length, Some, None, refl, sym, ap, subst, ◌∙◌}
use Rattle.std.specs.Prelude.{◌==◌, ◌&&◌, slice_get, if◌then◌else◌}
use Rattle.std.specs.Str.{bytes_eq}
use Rattle.std.proofs.lemmas.Bool.{and_parts, eqb-true, eq-eqb}
use Rattle.std.proofs.lemmas.List.{length-append}
use Rattle.rsct_packet.specs.declared.ids.ViewId.{ViewId}
use Rattle.rsct_packet.specs.declared.ids.Member.{Member}
use Rattle.rsct_packet.specs.declared.ids.ProviderId.{ProviderId}
use Rattle.rsct_packet.specs.Ids.{same_view}
use Rattle.rsct_packet.specs.Search.{Has}
use Rattle.rsct_packet.proofs.HasLaws.{append_has_right}
use Rattle.proposal_core.specs.declared.entry.Entry.{Entry}
use Rattle.view_state.proofs.ViewOrder.{same_view_is}
use Rattle.node_state.specs.declared.happened.Happened.{Happened}
use Rattle.node_state.specs.declared.happened.Happened.TheVariants as happened
use Rattle.node_state.proofs.NameOrder.{text_same, text_self}
use Rattle.run_safety.specs.Past.{view_now, inc_now, is_list, puts_of}
use Rattle.run_safety.specs.SafeHeard.{latest_put}
use Rattle.run_safety.specs.SafeLists.{NextPlace}
use Rattle.run_safety.specs.Sight.{inc_in}
use Rattle.run_safety.specs.ViewOrder.{Lt, Le}
use Rattle.run_safety.proofs.Order.{lt_refl, lt_le, lt_trans, lt_not_same}
use Rattle.run_safety.proofs.Prefix.{prefix_get, prefix_push, at_end}
use Rattle.run_laws.specs.seen_runs.Seen.{Seen, SeenAt, SameSeen, RisesSeen, HeardSeen}
use Rattle.run_laws.proofs.failed_causes.Bases.{view_self}

-- what stands in a list with one more in front, and is not that one
pub had : (y r : Happened) (rs : List Happened) → (y ≡ r → ⊥) → Has y (r ∷ rs) → Has y rs
had y r rs other (inl q) = absurd (other q)
had y r rs other (inr h) = h

module _ (n : ℕ) where
  -- ---- a node is in a view that it entered in its incarnation

  abbrev Entered : ViewId → ℕ → List Happened → Type 0
  Entered v j rs = (ms : List Member) × Has (happened.In n v ms) rs × (inc_in n ms ≡ j)

  more : (v : ViewId) (j : ℕ) (r : Happened) (rs : List Happened) → Entered v j rs → Entered v j (r ∷ rs)
  more v j r rs k = (k.0, inr k.1, k.2)

  pub view_in : (rs : List Happened) → Seen rs → (v : ViewId) → view_now n rs ≡ Some v → (ms : List Member) × Has (happened.In n v ms) rs × (inc_in n ms ≡ inc_now n rs)
  view_in [] s v q = absurd (cc)
  view_in (happened.Up m j ∷ rs) s v q = by (m == n) (λ z. view_in rs s.1 v z) q
    where
      by : (b : Bool) → (view_now n rs ≡ Some v → Entered v (inc_now n rs) rs) → (if b then None else view_now n rs) ≡ Some v → Entered v (if b then j else inc_now n rs) (happened.Up m j ∷ rs)
      by true old z = absurd (cc)
      by false old z = more v (inc_now n rs) (happened.Up m j) rs (old z)
  view_in (happened.Down m ∷ rs) s v q = by (m == n) (λ z. view_in rs s.1 v z) q
    where
      by : (b : Bool) → (view_now n rs ≡ Some v → Entered v (inc_now n rs) rs) → (if b then None else view_now n rs) ≡ Some v → Entered v (inc_now n rs) (happened.Down m ∷ rs)
      by true old z = absurd (cc)
      by false old z = more v (inc_now n rs) (happened.Down m) rs (old z)
  view_in (happened.In m u ms ∷ rs) s v q = by (m == n) refl (λ z. view_in rs s.1 v z) q
    where
      by : (b : Bool) → (m == n) ≡ b → (view_now n rs ≡ Some v → Entered v (inc_now n rs) rs) → (if b then Some u else view_now n rs) ≡ Some v → Entered v (inc_now n rs) (happened.In m u ms ∷ rs)
      by true e old z =
          let node : m ≡ n = eqb-true m n e in
          let view : u ≡ v = cc in
          (ms, inl (λ i. happened.In (sym node i) (sym view i) ms), subst (λ k. inc_in k ms ≡ inc_now k rs) node s.0.started.1)
      by false e old z = more v (inc_now n rs) (happened.In m u ms) rs (old z)
  view_in (r ∷ rs) s v q = more v (inc_now n rs) r rs (view_in rs s.1 v q)

  -- and entered no later one in that incarnation
  latest_at : (w u : ViewId) (ms ns : List Member) (rs : List Happened) → SeenAt rs (happened.In n w ms) → Has (happened.In n u ns) (happened.In n w ms ∷ rs) → inc_in n ns ≡ inc_now n rs → Le u w
  latest_at w u ms ns rs s (inl q) same = let view : w ≡ u = cc in subst (λ z. Le z w) view (lt_refl w)
  latest_at w u ms ns rs s (inr h) same = lt_le u w (s.rises u ns h (same ∙ sym s.started.1))

  pub view_latest : (rs : List Happened) → Seen rs → (v : ViewId) → view_now n rs ≡ Some v → (u : ViewId) (ns : List Member) → Has (happened.In n u ns) rs → inc_in n ns ≡ inc_now n rs → Le u v
  view_latest [] s v q u ns h same = absurd h
  view_latest (happened.Up m j ∷ rs) s v q u ns h same = by (λ z k. view_latest rs s.1 v z u ns (had (happened.In n u ns) (happened.Up m j) rs (λ e. cc) h) k) (m == n) q same
    where
      by : (view_now n rs ≡ Some v → inc_in n ns ≡ inc_now n rs → Le u v) → (b : Bool) → (if b then None else view_now n rs) ≡ Some v → inc_in n ns ≡ (if b then j else inc_now n rs) → Le u v
      by rest true z k = absurd (cc)
      by rest false z k = rest z k
  view_latest (happened.Down m ∷ rs) s v q u ns h same = by (λ z. view_latest rs s.1 v z u ns (had (happened.In n u ns) (happened.Down m) rs (λ e. cc) h) same) (m == n) q
    where
      by : (view_now n rs ≡ Some v → Le u v) → (b : Bool) → (if b then None else view_now n rs) ≡ Some v → Le u v
      by rest true z = absurd (cc)
      by rest false z = rest z
  view_latest (happened.In m w ms ∷ rs) s v q u ns h same = by (λ z k. view_latest rs s.1 v z u ns k same) (m == n) refl q
    where
      by : (view_now n rs ≡ Some v → Has (happened.In n u ns) rs → Le u v) → (b : Bool) → (m == n) ≡ b → (if b then Some w else view_now n rs) ≡ Some v → Le u v
      by rest true e z =
          let node : m ≡ n = eqb-true m n e in
          let view : w ≡ v = cc in
          subst (Le u) view (latest_at w u ms ns rs (subst (λ k. SeenAt rs (happened.In k w ms)) node s.0) (subst (λ k. Has (happened.In n u ns) (happened.In k w ms ∷ rs)) node h) same)
      by rest false e z = rest z (had (happened.In n u ns) (happened.In m w ms) rs (λ i. let node : n ≡ m = cc in let y : true ≡ false = sym (eq-eqb m n (sym node)) ∙ e in cc) h)
  view_latest (r ∷ rs) s v q u ns h same = view_latest rs s.1 v q u ns (had (happened.In n u ns) r rs (λ e. cc) h) same

-- who enters a view names the same members as each other node that does
pub members_same : (rs : List Happened) → Seen rs → (n m : ℕ) (v : ViewId) (ms ns : List Member) → Has (happened.In n v ms) rs → Has (happened.In m v ns) rs → ms ≡ ns
members_same [] s n m v ms ns a b = absurd a
members_same (r ∷ rs) s n m v ms ns (inl p) (inl q) = cc
members_same (r ∷ rs) s n m v ms ns (inl p) (inr b) = sym ((subst (SameSeen rs) (sym p) s.0.members) m ns b)
members_same (r ∷ rs) s n m v ms ns (inr a) (inl q) = (subst (SameSeen rs) (sym q) s.0.members) n ms a
members_same (r ∷ rs) s n m v ms ns (inr a) (inr b) = members_same rs s.1 n m v ms ns a b

-- ---- puts

own_list : (n : ℕ) (v : ViewId) (g : List ℕ) → is_list n v g n v g ≡ true
own_list n v g = λ z. eq-eqb n n refl z && (view_self v v refl z && text_self g z)

-- whose list a test says it is
pub list_is : (n : ℕ) (v : ViewId) (g : List ℕ) (m : ℕ) (u : ViewId) (h : List ℕ) → is_list n v g m u h ≡ true → (m ≡ n) × (u ≡ v) × (h ≡ g)
list_is n v g m u h q =
    let x = and_parts (m == n) (same_view u v && bytes_eq h g) q in
    let y = and_parts (same_view u v) (bytes_eq h g) x.1 in
    (eqb-true m n x.0, same_view_is u v y.0, text_same h g y.1)

-- an entry that a node put stands at its place
get_more : (b : Bool) (xs : List Entry) (f : Entry) (i : ℕ) (e : Entry) → slice_get xs i ≡ Some e → slice_get (if b then xs ++ f ∷ [] else xs) i ≡ Some e
get_more true xs f i e h = prefix_get xs (xs ++ f ∷ []) (prefix_push xs f) i e h
get_more false xs f i e h = h

pub put_get : (rs : List Happened) → Seen rs → (n : ℕ) (v : ViewId) (g : List ℕ) (i : ℕ) (e : Entry) → Has (happened.Put n v g i e) rs → slice_get (puts_of n v g rs) i ≡ Some e
put_get [] s n v g i e h = absurd h
put_get (r ∷ rs) s n v g i e (inl q) = subst (λ z. slice_get (puts_of n v g (z ∷ rs)) i ≡ Some e) q here
  where
    place : i ≡ length (puts_of n v g rs)
    place = subst (NextPlace rs) (sym q) s.0.place

    here : slice_get (puts_of n v g (happened.Put n v g i e ∷ rs)) i ≡ Some e
    here =
        subst (λ k. slice_get (puts_of n v g (happened.Put n v g i e ∷ rs)) k ≡ Some e) (sym place)
        (subst (λ b. slice_get (if b then puts_of n v g rs ++ e ∷ [] else puts_of n v g rs) (length (puts_of n v g rs)) ≡ Some e) (sym (own_list n v g)) (at_end (puts_of n v g rs) e []))
put_get (happened.Put m u k j f ∷ rs) s n v g i e (inr h) = get_more (is_list n v g m u k) (puts_of n v g rs) f i e (put_get rs s.1 n v g i e h)
put_get (r ∷ rs) s n v g i e (inr h) = put_get rs s.1 n v g i e h

-- the latest put is one, and the last of its list
pub record LastPut (n : ℕ) (v : ViewId) (g : List ℕ) (i : ℕ) (e : Entry) (rs : List Happened) : Type 0 where
  pub there : Has (happened.Put n v g i e) rs
  pub last : length (puts_of n v g rs) ≡ i + 1

some_pair : (a b : ℕ × Entry) → Some a ≡ Some b → a ≡ b
some_pair a b e = cc

pub latest_is : (rs : List Happened) → Seen rs → (n : ℕ) (v : ViewId) (g : List ℕ) (i : ℕ) (e : Entry) → latest_put n v g rs ≡ Some (i, e) → LastPut n v g i e rs
latest_is [] s n v g i e q = absurd (cc)
latest_is (happened.Put m u h k f ∷ rs) s n v g i e q = by (λ z. latest_is rs s.1 n v g i e z) (is_list n v g m u h) refl q
  where
    by : (latest_put n v g rs ≡ Some (i, e) → LastPut n v g i e rs) → (b : Bool) → is_list n v g m u h ≡ b → (if b then Some (k, f) else latest_put n v g rs) ≡ Some (i, e) → LastPut n v g i e (happened.Put m u h k f ∷ rs)
    by rest true t z =
        let own = list_is n v g m u h t in
        let pair : (k, f) ≡ (i, e) = some_pair (k, f) (i, e) z in
        let place : k ≡ i = ap (λ (y : ℕ × Entry). y.0) pair in
        let entry : f ≡ e = ap (λ (y : ℕ × Entry). y.1) pair in
        let node : m ≡ n = own.0 in
        let view : u ≡ v = own.1 in
        let name : h ≡ g = own.2 in
        let next : k ≡ length (puts_of n v g rs) = subst (λ (y : ℕ × ViewId × List ℕ). k ≡ length (puts_of y.0 y.1 y.2 rs)) (λ j. (node j, view j, name j)) s.0.place in
        let pushed : length (puts_of n v g rs ++ f ∷ []) ≡ length (puts_of n v g rs) + 1 = length-append (puts_of n v g rs) (f ∷ []) in
        record {
          there = inl (λ j. happened.Put (sym node j) (sym view j) (sym name j) (sym place j) (sym entry j));
          last = ap (λ b. length (if b then puts_of n v g rs ++ f ∷ [] else puts_of n v g rs)) t ∙ pushed ∙ ap (λ z. z + 1) (sym next ∙ place);
        }
    by rest false t z =
        let old = rest z in
        record { there = inr old.there; last = ap (λ b. length (if b then puts_of n v g rs ++ f ∷ [] else puts_of n v g rs)) t ∙ old.last }
latest_is (r ∷ rs) s n v g i e q = let old = latest_is rs s.1 n v g i e q in record { there = inr old.there; last = old.last }

pub puts_none : (n : ℕ) (v : ViewId) (g : List ℕ) (rs : List Happened) → ((i : ℕ) (e : Entry) → Has (happened.Put n v g i e) rs → ⊥) → puts_of n v g rs ≡ []
puts_none n v g [] none = refl
puts_none n v g (happened.Put m u h k f ∷ rs) none = by (puts_none n v g rs (λ i e a. none i e (inr a))) (is_list n v g m u h) refl
  where
    by : puts_of n v g rs ≡ [] → (b : Bool) → is_list n v g m u h ≡ b → (if b then puts_of n v g rs ++ f ∷ [] else puts_of n v g rs) ≡ []
    by rest true t = let own = list_is n v g m u h t in absurd (none k f (inl (λ j. happened.Put (sym own.0 j) (sym own.1 j) (sym own.2 j) k f)))
    by rest false t = rest
puts_none n v g (r ∷ rs) none = puts_none n v g rs (λ i e a. none i e (inr a))

-- ---- what a node left is left

-- once it entered a later view it is in the earlier one no more
module _ (n : ℕ) (u v : ViewId) (ms ns : List Member) (same : inc_in n ms ≡ inc_in n ns) (less : Lt u v) where
  pub left : (rs : List Happened) → Seen rs → Has (happened.In n u ms) rs → Has (happened.In n v ns) rs → view_now n rs ≡ Some u → ⊥
  left rs s old new now =
      let k = view_in n rs s u now in
      let one : ms ≡ k.0 = members_same rs s n n u ms k.0 old k.1 in
      let inc : inc_in n ns ≡ inc_now n rs = sym same ∙ ap (inc_in n) one ∙ k.2 in
      let no : Le v u = view_latest n rs s u now v ns new inc in
      absurd (cc)

  -- and puts nothing there
  pub left_puts : (g : List ℕ) (newer rs : List Happened) → Seen (newer ++ rs) → Has (happened.In n u ms) rs → Has (happened.In n v ns) rs → puts_of n u g (newer ++ rs) ≡ puts_of n u g rs
  left_puts g [] rs s old new = refl
  left_puts g (happened.Put m w h k f ∷ newer) rs s old new = by (left_puts g newer rs s.1 old new) (is_list n u g m w h) refl
    where
      by : puts_of n u g (newer ++ rs) ≡ puts_of n u g rs → (b : Bool) → is_list n u g m w h ≡ b → (if b then puts_of n u g (newer ++ rs) ++ f ∷ [] else puts_of n u g (newer ++ rs)) ≡ puts_of n u g rs
      by rest true t =
          let own = list_is n u g m w h t in
          let now : view_now n (newer ++ rs) ≡ Some u = subst (λ (z : ℕ × ViewId). view_now z.0 (newer ++ rs) ≡ Some z.1) (λ j. (own.0 j, own.1 j)) s.0.in_view in
          absurd (left (newer ++ rs) s.1 (append_has_right (happened.In n u ms) newer rs old) (append_has_right (happened.In n v ns) newer rs new) now)
      by rest false t = rest
  left_puts g (r ∷ newer) rs s old new = left_puts g newer rs s.1 old new

  -- nor does anybody hear there
  pub left_hears : (p : ProviderId) → p.node ≡ n → (g : List ℕ) (i : ℕ) (e : Entry) (members : List ProviderId) (value : List ℕ) (newer rs : List Happened) → Seen (newer ++ rs) → Has (happened.In n u ms) rs → Has (happened.In n v ns) rs → Has (happened.Heard p u g i e members value) (newer ++ rs) → Has (happened.Heard p u g i e members value) rs
  left_hears p node g i e members value [] rs s old new h = h
  left_hears p node g i e members value (r ∷ newer) rs s old new (inr h) = left_hears p node g i e members value newer rs s.1 old new h
  left_hears p node g i e members value (r ∷ newer) rs s old new (inl q) =
      let at : HeardSeen (newer ++ rs) (happened.Heard p u g i e members value) = subst (HeardSeen (newer ++ rs)) (sym q) s.0.heard in
      absurd (left (newer ++ rs) s.1 (append_has_right (happened.In n u ms) newer rs old) (append_has_right (happened.In n v ns) newer rs new) (subst (λ k. view_now k (newer ++ rs) ≡ Some u) node at.2.0))

-- an earlier view was entered before
pub entered_before : (n : ℕ) (u v : ViewId) (ms ns : List Member) → inc_in n ms ≡ inc_in n ns → Lt u v → (newer older : List Happened) → Seen (newer ++ happened.In n v ns ∷ older) → Has (happened.In n u ms) (newer ++ happened.In n v ns ∷ older) → Has (happened.In n u ms) older
entered_before n u v ms ns same less [] older s (inl q) = let view : u ≡ v = cc in absurd (lt_not_same u v less view)
entered_before n u v ms ns same less [] older s (inr h) = h
entered_before n u v ms ns same less (r ∷ newer) older s (inr h) = entered_before n u v ms ns same less newer older s.1 h
entered_before n u v ms ns same less (r ∷ newer) older s (inl q) =
    let at : RisesSeen (newer ++ happened.In n v ns ∷ older) (happened.In n u ms) = subst (RisesSeen (newer ++ happened.In n v ns ∷ older)) (sym q) s.0.rises in
    let back : Lt v u = at v ns (append_has_right (happened.In n v ns) newer (happened.In n v ns ∷ older) (inl refl)) (sym same) in
    absurd (lt_not_same u u (lt_trans u v u less back) refl)
