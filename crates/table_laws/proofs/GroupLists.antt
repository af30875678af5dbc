-- The lists of a group that sees these lines of a safe run are as the laws of the table want them.
use Rattle.std.proofs.Common.{refl, ◌≡◌, ◌⊎◌, ⊎_elim, inl, inr, ℕ, zero, suc, ◌+◌, ◌<◌, ◌≤◌, Bool, true, false, List, [], ◌∷◌, ◌++◌, length, take, Option, Some, None, sym, ap, subst, ◌∙◌, arith}
use Rattle.std.specs.Prelude.{◌==◌, ◌&&◌, slice_get, if◌then◌else◌}
use Rattle.std.specs.Option.{option_map}
use Rattle.std.proofs.lemmas.Bool.{and_parts, eqb-true, eqb-false, cases_lt}
use Rattle.rsct_packet.specs.declared.ids.ViewId.{ViewId}
use Rattle.rsct_packet.specs.declared.ids.Member.{Member}
use Rattle.rsct_packet.specs.Search.{Has}
use Rattle.proposal_core.specs.declared.entry.Entry.{Entry}
use Rattle.proposal_core.specs.declared.group_state.GroupState.{GroupState}
use Rattle.proposal_core.specs.Fold.{after, fits}
use Rattle.table_client.specs.Maps.{AreSafe, entry_map}
use Rattle.table_client.specs.Maps as maps
use Rattle.run_safety.specs.ViewOrder.{is_same, Lt}
use Rattle.run_safety.specs.Past.{fold_from}
use Rattle.run_safety.specs.Group.{Reply, Origin, Record, In, Put, Begins, Based, Heard, Asked, Told, Line, Kept, Noted, kept}
use Rattle.run_safety.specs.GroupLists.{OneEntryOf, InOrder, WasIn, puts_of}
use Rattle.run_safety.specs.GroupLaws.{Brought}
use Rattle.run_safety.specs.Bases.{base_state, state_of_list, side_state, Wins}
use Rattle.run_safety.specs.Moves.{Opening}
use Rattle.run_safety.specs.SafeGroups.{SafeLines}
use Rattle.run_safety.proofs.Order.{eq_true, eq_same}
use Rattle.run_safety.proofs.Prefix.{IsPrefix, prefix_push, prefix_get, at_end}
use Rattle.run_safety.proofs.Firsts.{at_longer}
use Rattle.run_safety.proofs.HeardLaw.{puts_front, take_front, get_within}
use Rattle.run_safety.proofs.Lives.{noted_bases_win}
use Rattle.run_laws.proofs.seen_runs.LineFacts.{put_at}
use Rattle.entry_laws.proofs.source_order.Basing.{each_view}
use Rattle.agreed_table.specs.Pairs.{Pairs}
use Rattle.table_laws.specs.GroupLists.{log_of, base_by, origin_of, lists_of}

-- ---- the longest list of a view

-- each of its entries was put
pub log_put : (v : ViewId) (tr : List Record) (i : ℕ) (e : Entry) → slice_get (log_of v tr) i ≡ Some e → (n : ℕ) × Has (Put n v i e) tr
log_put v [] i e h = absurd (cc)
log_put v (In n j u ms ∷ tr) i e h = let k = log_put v tr i e h in (k.0, inr k.1)
log_put v (Begins ∷ tr) i e h = let k = log_put v tr i e h in (k.0, inr k.1)
log_put v (Put n u k f ∷ tr) i e h = by (is_same u v && (k == length (log_of v tr))) refl (λ s. log_put v tr i e s) h
  where
    older : (m : ℕ) × Has (Put m v i e) tr → (m : ℕ) × Has (Put m v i e) (Put n u k f ∷ tr)
    older z = (z.0, inr z.1)

    new : u ≡ v → k ≡ length (log_of v tr) → i ≡ length (log_of v tr) → slice_get (log_of v tr ++ f ∷ []) i ≡ Some e → (m : ℕ) × Has (Put m v i e) (Put n u k f ∷ tr)
    new same place here s =
        let there : slice_get (log_of v tr ++ f ∷ []) (length (log_of v tr)) ≡ Some e = subst (λ j. slice_get (log_of v tr ++ f ∷ []) j ≡ Some e) here s in
        let both : Some f ≡ Some e = sym (at_end (log_of v tr) f []) ∙ there in
        let entry : e ≡ f = cc in
        let at : i ≡ k = here ∙ sym place in
        (n, inl (λ z. Put n (sym same z) (at z) (entry z)))

    by : (b : Bool) → (is_same u v && (k == length (log_of v tr))) ≡ b → (slice_get (log_of v tr) i ≡ Some e → (m : ℕ) × Has (Put m v i e) tr) → slice_get (if b then log_of v tr ++ f ∷ [] else log_of v tr) i ≡ Some e → (m : ℕ) × Has (Put m v i e) (Put n u k f ∷ tr)
    by false q rest s = older (rest s)
    by true q rest s =
        let t = and_parts (is_same u v) (k == length (log_of v tr)) q in
        ⊎_elim (λ (a : slice_get (log_of v tr) i ≡ Some e). older (rest a)) (λ (b : i ≡ length (log_of v tr)). new (eq_true u v t.0) (eqb-true k (length (log_of v tr)) t.1) b s) (at_longer (log_of v tr) f i e s)

-- where a node's list has an entry it has put one
pub some_put : (n : ℕ) (u : ViewId) (tr : List Record) (i : ℕ) (e : Entry) → slice_get (puts_of n u tr) i ≡ Some e → (k : ℕ) × (f : Entry) × Has (Put n u k f) tr
some_put n u [] i e h = absurd (cc)
some_put n u (In m j v ms ∷ tr) i e h = let k = some_put n u tr i e h in (k.0, k.1, inr k.2)
some_put n u (Begins ∷ tr) i e h = let k = some_put n u tr i e h in (k.0, k.1, inr k.2)
some_put n u (Put m v j f ∷ tr) i e h = by (m == n && is_same v u) refl (λ s. some_put n u tr i e s) h
  where
    by : (b : Bool) → (m == n && is_same v u) ≡ b → (slice_get (puts_of n u tr) i ≡ Some e → (k : ℕ) × (x : Entry) × Has (Put n u k x) tr) → slice_get (if b then puts_of n u tr ++ f ∷ [] else puts_of n u tr) i ≡ Some e → (k : ℕ) × (x : Entry) × Has (Put n u k x) (Put m v j f ∷ tr)
    by false q rest s = let k = rest s in (k.0, k.1, inr k.2)
    by true q rest s =
        let t = and_parts (m == n) (is_same v u) q in
        let node : m ≡ n = eqb-true m n t.0 in
        let view : v ≡ u = eq_true v u t.1 in
        (j, f, inl (λ z. Put (sym node z) (sym view z) j f))

-- there is an entry at each place within a list
pub get_some : (xs : List Entry) (i : ℕ) → i < length xs → (e : Entry) × (slice_get xs i ≡ Some e)
get_some [] i l = absurd (omega arith)
get_some (x ∷ xs) zero l = (x, refl)
get_some (x ∷ xs) (suc i) l = get_some xs i (omega arith)

pub prefix_len : (xs ys : List Entry) → IsPrefix xs ys → length xs ≤ length ys
prefix_len xs ys p = subst (λ (zs : List Entry). length xs ≤ length zs) p.is (more xs p.rest)
  where
    more : (xs rest : List Entry) → length xs ≤ length (xs ++ rest)
    more [] rest = omega arith
    more (x ∷ xs) rest = let k = more xs rest in omega arith

one_older : (r : Record) (tr : List Record) → OneEntryOf (r ∷ tr) → OneEntryOf tr
one_older r tr one n m v i e f a b = one n m v i e f (inr a) (inr b)

-- one put more, where each older one stands in the longest list
module _ (tr : List Record) (m : ℕ) (u : ViewId) (k : ℕ) (f : Entry) (order : InOrder (Put m u k f ∷ tr)) (one : OneEntryOf (Put m u k f ∷ tr)) (v : ViewId) (older : (n : ℕ) (i : ℕ) (e : Entry) → Has (Put n v i e) tr → slice_get (log_of v tr) i ≡ Some e) where
  abbrev log : List Entry
  log = log_of v tr

  -- it is the last of its node's list, which is a front of the longest
  put_within : u ≡ v → k ≤ length log
  put_within same =
      let front : IsPrefix (puts_of m v tr) log = puts_front m v log tr (λ j x a. older m j x a) order.1 in
      let l = prefix_len (puts_of m v tr) log front in
      let place : k ≡ length (puts_of m v tr) = order.0 ∙ ap (λ w. length (puts_of m w tr)) same in
      omega (arith, l, place)

  -- the entry that stands at its place is the same
  put_stands : u ≡ v → k < length log → slice_get log k ≡ Some f
  put_stands same l =
      let x = get_some log k l in
      let p = log_put v tr k x.0 x.1 in
      let q : x.0 ≡ f = one p.0 m v k x.0 f (inr p.1) (inl (λ z. Put m (sym same z) k f)) in
      x.1 ∙ ap Some q

  other_part : (a b : Bool) → a ≡ true → (a && b) ≡ false → b ≡ false
  other_part true b p q = q
  other_part false b p q = absurd (cc)

  put_below : (is_same v v && (k == length log)) ≡ false → k ≤ length log → k < length log
  put_below q l = ⊎_elim (λ (a : k < length log). a) (λ (b : length log ≤ k). absurd (eqb-false k (length log) (other_part (is_same v v) (k == length log) (eq_same v) q) (omega (arith, b, l)))) (cases_lt k (length log))

  put_here : (b : Bool) → (is_same u v && (k == length log)) ≡ b → u ≡ v → slice_get (if b then log ++ f ∷ [] else log) k ≡ Some f
  put_here true q same = let t = and_parts (is_same u v) (k == length log) q in subst (λ j. slice_get (log ++ f ∷ []) j ≡ Some f) (sym (eqb-true k (length log) t.1)) (at_end log f [])
  put_here false q same = put_stands same (put_below (subst (λ w. (is_same w v && (k == length log)) ≡ false) same q) (put_within same))

  put_more : (b : Bool) → (is_same u v && (k == length log)) ≡ b → (n : ℕ) (i : ℕ) (e : Entry) → (Put n v i e ≡ Put m u k f) ⊎ Has (Put n v i e) tr → slice_get (if b then log ++ f ∷ [] else log) i ≡ Some e
  put_more b q n i e (inl p) =
      let same : u ≡ v = cc in
      let place : k ≡ i = cc in
      let entry : f ≡ e = cc in
      subst (λ (z : ℕ × Entry). slice_get (if b then log ++ f ∷ [] else log) z.0 ≡ Some z.1) (λ z. (place z, entry z)) (put_here b q same)
  put_more true q n i e (inr a) = prefix_get log (log ++ f ∷ []) (prefix_push log f) i e (older n i e a)
  put_more false q n i e (inr a) = older n i e a

-- and each entry that was put is one of them
pub put_in_log : (tr : List Record) → InOrder tr → OneEntryOf tr → (n : ℕ) (v : ViewId) (i : ℕ) (e : Entry) → Has (Put n v i e) tr → slice_get (log_of v tr) i ≡ Some e
put_in_log [] order one n v i e h = absurd h
put_in_log (In m j u ms ∷ tr) order one n v i e (inl q) = absurd (cc)
put_in_log (In m j u ms ∷ tr) order one n v i e (inr h) = put_in_log tr order (one_older (In m j u ms) tr one) n v i e h
put_in_log (Begins ∷ tr) order one n v i e (inl q) = absurd (cc)
put_in_log (Begins ∷ tr) order one n v i e (inr h) = put_in_log tr order (one_older Begins tr one) n v i e h
put_in_log (Put m u k f ∷ tr) order one n v i e h =
    put_more tr m u k f order one v (λ l j x a. put_in_log tr order.1 (one_older (Put m u k f) tr one) l v j x a) (is_same u v && (k == length (log_of v tr))) refl n i e h

-- ---- the base that is noted

pub base_was_noted : (v : ViewId) (all : List Line) (b : Origin) → base_by v all ≡ Some b → (n : ℕ) × Has (Noted (Based n v b)) all
base_was_noted v [] b e = absurd (cc)
base_was_noted v (Kept r ∷ all) b e = let k = base_was_noted v all b e in (k.0, inr k.1)
base_was_noted v (Noted (Heard p u i x ms value) ∷ all) b e = let k = base_was_noted v all b e in (k.0, inr k.1)
base_was_noted v (Noted (Asked p r x) ∷ all) b e = let k = base_was_noted v all b e in (k.0, inr k.1)
base_was_noted v (Noted (Told p r u) ∷ all) b e = let k = base_was_noted v all b e in (k.0, inr k.1)
base_was_noted v (Noted (Based m u c) ∷ all) b e = by (is_same u v) refl (λ s. base_was_noted v all b s) e
  where
    by : (t : Bool) → is_same u v ≡ t → (base_by v all ≡ Some b → (n : ℕ) × Has (Noted (Based n v b)) all) → (if t then Some c else base_by v all) ≡ Some b → (n : ℕ) × Has (Noted (Based n v b)) (Noted (Based m u c) ∷ all)
    by true q rest s = let same : u ≡ v = eq_true u v q in let is : b ≡ c = cc in (m, inl (λ z. Noted (Based m (sym same z) (is z))))
    by false q rest s = let k = rest s in (k.0, inr k.1)

pub noted_is_found : (v : ViewId) (all : List Line) (n : ℕ) (b : Origin) → Has (Noted (Based n v b)) all → (c : Origin) × (base_by v all ≡ Some c)
noted_is_found v [] n b h = absurd h
noted_is_found v (Kept r ∷ all) n b (inl q) = absurd (cc)
noted_is_found v (Kept r ∷ all) n b (inr h) = noted_is_found v all n b h
noted_is_found v (Noted (Heard p u i x ms value) ∷ all) n b (inl q) = absurd (cc)
noted_is_found v (Noted (Heard p u i x ms value) ∷ all) n b (inr h) = noted_is_found v all n b h
noted_is_found v (Noted (Asked p r x) ∷ all) n b (inl q) = absurd (cc)
noted_is_found v (Noted (Asked p r x) ∷ all) n b (inr h) = noted_is_found v all n b h
noted_is_found v (Noted (Told p r u) ∷ all) n b (inl q) = absurd (cc)
noted_is_found v (Noted (Told p r u) ∷ all) n b (inr h) = noted_is_found v all n b h
noted_is_found v (Noted (Based m u c) ∷ all) n b h = by (is_same u v) refl (λ k. noted_is_found v all n b k) h
  where
    by : (t : Bool) → is_same u v ≡ t → (Has (Noted (Based n v b)) all → (d : Origin) × (base_by v all ≡ Some d)) → (Noted (Based n v b) ≡ Noted (Based m u c)) ⊎ Has (Noted (Based n v b)) all → (d : Origin) × ((if t then Some c else base_by v all) ≡ Some d)
    by true q rest k = (c, refl)
    by false q rest (inl e) = let same : u ≡ v = cc in let both : true ≡ false = sym (eq_same v) ∙ ap (λ w. is_same w v) (sym same) ∙ q in absurd (cc)
    by false q rest (inr k) = rest k

-- ---- the lists

-- two folds of one kind
pub fold_same : (v : ViewId) (s : GroupState) (i : ℕ) (es : List Entry) → maps.fold_from v s i es ≡ fold_from v s i es
fold_same v s i [] = refl
fold_same v s i (e ∷ es) = fold_same v (after s v i e) (i + 1) es

-- whoever puts an entry has entered the view
abbrev pub PutsEntered : List Record → Type 0
PutsEntered tr = (n : ℕ) (v : ViewId) (i : ℕ) (e : Entry) → Has (Put n v i e) tr → (j : ℕ) × (ms : List Member) × Has (In n j v ms) tr

-- a list that agrees with a longer one at each of its places is a front of it
taken_is : (xs ys : List Entry) → ((i : ℕ) (e : Entry) → slice_get xs i ≡ Some e → slice_get ys i ≡ Some e) → take (length xs) ys ≡ xs
taken_is [] ys all = refl
taken_is (x ∷ xs) [] all = let h = all 0 x refl in absurd (cc)
taken_is (x ∷ xs) (y ∷ ys) all =
    let h = all 0 x refl in
    let same : y ≡ x = cc in
    let rest : take (length xs) ys ≡ xs = taken_is xs ys (λ i e k. all (suc i) e k) in
    cc

within : (xs ys : List Entry) → ((i : ℕ) (e : Entry) → slice_get xs i ≡ Some e → slice_get ys i ≡ Some e) → length xs ≤ length ys
within [] ys all = omega arith
within (x ∷ xs) [] all = let h = all 0 x refl in absurd (cc)
within (x ∷ xs) (y ∷ ys) all = let k : length xs ≤ length ys = within xs ys (λ i e h. all (suc i) e h) in omega arith

module _ (o : Opening) (all : List Line) (safe : SafeLines o all) (entered : PutsEntered (kept all)) where
  abbrev tr : List Record
  tr = kept all

  pub in_log : (n : ℕ) (v : ViewId) (i : ℕ) (e : Entry) → Has (Put n v i e) tr → slice_get (log_of v tr) i ≡ Some e
  in_log n v i e h = put_in_log tr safe.in_order safe.one_list n v i e h

  pub front_of_log : (n : ℕ) (v : ViewId) → IsPrefix (puts_of n v tr) (log_of v tr)
  front_of_log n v = puts_front n v (log_of v tr) tr (λ i e h. in_log n v i e h) safe.in_order

  -- the base that is found is the one that is noted
  pub found_is : (n : ℕ) (v : ViewId) (b : Origin) → Has (Noted (Based n v b)) all → base_by v all ≡ Some b
  found_is n v b h =
      let k = noted_is_found v all n b h in
      let p = base_was_noted v all k.0 k.1 in
      let both : Some k.0 ≡ Some b = sym (safe.one_base.noted p.0 v k.0 p.1) ∙ safe.one_base.noted n v b h in
      k.1 ∙ both

  -- in a view that a node entered each group begins so
  pub begins_as : (n j : ℕ) (v : ViewId) (ms : List Member) → Has (In n j v ms) tr → maps.base_state ((lists_of all).base v) ≡ base_state (safe.bases v)
  begins_as n j v ms was = by (safe.bases v) refl
    where
      none : (x : Option Origin) → base_by v all ≡ x → safe.bases v ≡ None → maps.base_state (option_map origin_of x) ≡ base_state None
      none None q e = refl
      none (Some c) q e = let p = base_was_noted v all c q in let both : Some c ≡ None = sym (safe.one_base.noted p.0 v c p.1) ∙ e in absurd (cc)

      by : (x : Option Origin) → safe.bases v ≡ x → maps.base_state (option_map origin_of (base_by v all)) ≡ base_state x
      by None e = none (base_by v all) refl e
      by (Some b) e = ap (λ (x : Option Origin). maps.base_state (option_map origin_of x)) (found_is n v b (safe.one_base.by_all n j v ms b was e))

  -- the state after entries of a list that a node has put is that of the longest list
  pub state_is : (n j : ℕ) (v : ViewId) (ms : List Member) (i : ℕ) → Has (In n j v ms) tr → i ≤ length (puts_of n v tr) → maps.state_at (lists_of all) v i ≡ state_of_list safe.bases v (take i (puts_of n v tr))
  state_is n j v ms i was l =
      ap (λ (s : GroupState). maps.fold_from v s 0 (take i (log_of v tr))) (begins_as n j v ms was) ∙ fold_same v (base_state (safe.bases v)) 0 (take i (log_of v tr))
      ∙ ap (fold_from v (base_state (safe.bases v)) 0) (take_front i (puts_of n v tr) (log_of v tr) (front_of_log n v) l)

  fitted : (v : ViewId) (i : ℕ) (e : Entry) → slice_get (log_of v tr) i ≡ Some e → fits (maps.state_at (lists_of all) v i) e ≡ true
  fitted v i e h =
      let p = log_put v tr i e h in
      let was = entered p.0 v i e p.1 in
      let l : i < length (puts_of p.0 v tr) = get_within i e (puts_of p.0 v tr) (put_at p.0 v i e tr safe.in_order p.1) in
      let le : i ≤ length (puts_of p.0 v tr) = omega arith in
      subst (λ (s : GroupState). fits s e ≡ true) (sym (state_is p.0 was.0 v was.1 i was.2 le)) (safe.fitted p.0 v i e p.1 p.0 le)

  -- what a base begins with is the state of the old view's list at its length, but for who has failed
  pub side_is : (v : ViewId) (b : Origin) → base_by v all ≡ Some b → (b.state.members ≡ (maps.state_at (lists_of all) b.old b.len).members) × (b.state.running ≡ (maps.state_at (lists_of all) b.old b.len).running)
  side_is v b is =
      let p = base_was_noted v all b is in
      from_won (noted_bases_win o all safe p.0 v b p.1)
    where
      from_won : (j : ℕ) × (ms : List Member) × Has (In (base_was_noted v all b is).0 j v ms) (kept all) × (rs : List Reply) × (ss : (ViewId → List Entry)) × Brought (kept all) safe.bases v ms rs ss × Wins rs ss (λ u. side_state safe.bases ss u) b
          → (b.state.members ≡ (maps.state_at (lists_of all) b.old b.len).members) × (b.state.running ≡ (maps.state_at (lists_of all) b.old b.len).running)
      from_won (j, ms, was, rs, ss, brought, wins) =
          (ap (λ (s : GroupState). s.members) wins.state ∙ ap (λ (s : GroupState). s.members) (sym at_cut), ap (λ (s : GroupState). s.running) wins.state ∙ ap (λ (s : GroupState). s.running) (sym at_cut))
        where
          r : Reply
          r = wins.from.0

          old_in : WasIn tr r.node r.inc b.old
          old_in = subst (λ u. WasIn tr r.node r.inc u) wins.from.2 (brought.from r wins.from.1).was

          entries : (i : ℕ) (e : Entry) → slice_get (ss b.old) i ≡ Some e → slice_get (log_of b.old tr) i ≡ Some e
          entries i e h =
              let k = brought.entries r i e wins.from.1 (subst (λ u. slice_get (ss u) i ≡ Some e) (sym wins.from.2) h) in
              in_log k.0 b.old i e (subst (λ u. Has (Put k.0 u i e) tr) wins.from.2 k.1)

          at_cut : maps.state_at (lists_of all) b.old b.len ≡ side_state safe.bases ss b.old
          at_cut =
              ap (λ (s : GroupState). maps.fold_from b.old s 0 (take b.len (log_of b.old tr))) (begins_as r.node r.inc b.old old_in.0 old_in.1)
              ∙ fold_same b.old (base_state (safe.bases b.old)) 0 (take b.len (log_of b.old tr))
              ∙ ap (fold_from b.old (base_state (safe.bases b.old)) 0) (ap (λ k. take k (log_of b.old tr)) wins.len ∙ taken_is (ss b.old) (log_of b.old tr) entries)

  kept_on : (v : ViewId) (b : maps.Origin) → option_map origin_of (base_by v all) ≡ Some b → (b.state.members ≡ (maps.state_at (lists_of all) b.old b.len).members) × (b.state.running ≡ (maps.state_at (lists_of all) b.old b.len).running)
  kept_on v b is = by (base_by v all) refl is
    where
      by : (x : Option Origin) → base_by v all ≡ x → option_map origin_of x ≡ Some b → (b.state.members ≡ (maps.state_at (lists_of all) b.old b.len).members) × (b.state.running ≡ (maps.state_at (lists_of all) b.old b.len).running)
      by None q e = absurd (cc)
      by (Some c) q e =
          let same : origin_of c ≡ b = cc in
          subst (λ (x : maps.Origin). (x.state.members ≡ (maps.state_at (lists_of all) x.old x.len).members) × (x.state.running ≡ (maps.state_at (lists_of all) x.old x.len).running)) same (side_is v c q)

  pub lists_are_safe : AreSafe (lists_of all)
  lists_are_safe = record { fitted = fitted; kept = kept_on }

  -- ---- there is a map at each place

  abbrev Mapped : ViewId → Type 0
  Mapped v = (i : ℕ) → i ≤ length (log_of v tr) → (m : Pairs) × maps.MapIs (lists_of all) v i m

  -- a base is of an earlier view, and within its list
  pub base_before : (v : ViewId) (b : Origin) → base_by v all ≡ Some b → Lt b.old v × (b.len ≤ length (log_of b.old tr))
  base_before v b is = let p = base_was_noted v all b is in from_won (noted_bases_win o all safe p.0 v b p.1)
    where
      from_won : (j : ℕ) × (ms : List Member) × Has (In (base_was_noted v all b is).0 j v ms) (kept all) × (rs : List Reply) × (ss : (ViewId → List Entry)) × Brought (kept all) safe.bases v ms rs ss × Wins rs ss (λ u. side_state safe.bases ss u) b → Lt b.old v × (b.len ≤ length (log_of b.old tr))
      from_won (j, ms, was, rs, ss, brought, wins) =
          (subst (λ u. Lt u v) wins.from.2 (brought.from wins.from.0 wins.from.1).less, subst (λ k. k ≤ length (log_of b.old tr)) (sym wins.len) (within (ss b.old) (log_of b.old tr) entries))
        where
          entries : (i : ℕ) (e : Entry) → slice_get (ss b.old) i ≡ Some e → slice_get (log_of b.old tr) i ≡ Some e
          entries i e h =
              let k = brought.entries wins.from.0 i e wins.from.1 (subst (λ u. slice_get (ss u) i ≡ Some e) (sym wins.from.2) h) in
              in_log k.0 b.old i e (subst (λ u. Has (Put k.0 u i e) tr) wins.from.2 k.1)

  first_mapped : (v : ViewId) → ((u : ViewId) → Lt u v → Mapped u) → (m : Pairs) × maps.MapIs (lists_of all) v 0 m
  first_mapped v below = by (base_by v all) refl
    where
      by : (x : Option Origin) → base_by v all ≡ x → (m : Pairs) × maps.MapIs (lists_of all) v 0 m
      by None q = ([], maps.Fresh v 0 [] refl refl (ap (option_map origin_of) q))
      by (Some b) q =
          let k = base_before v b q in
          let old = below b.old k.0 b.len k.1 in
          (old.0, maps.Based v 0 old.0 (origin_of b) refl (ap (option_map origin_of) q) old.1)

  mapped_on : (v : ViewId) → ((u : ViewId) → Lt u v → Mapped u) → Mapped v
  mapped_on v below zero l = first_mapped v below
  mapped_on v below (suc i) l =
      let before = mapped_on v below i (omega arith) in
      let x = get_some (log_of v tr) i (omega arith) in
      (entry_map (maps.state_at (lists_of all) v i) v i x.0 before.0, maps.Then v (suc i) _ i x.0 before.0 (omega arith) refl x.1 before.1)

  pub mapped : (v : ViewId) → Mapped v
  mapped v = each_view Mapped mapped_on v
