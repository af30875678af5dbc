-- What is heard is the fold of the list; what is stable every member holds.
use Rattle.std.proofs.Common.{refl, Some, ◌≤◌, ◌≡◌, ℕ, zero, suc, ◌+◌, ◌<◌, ◌⊎◌, List, [], ◌∷◌, ◌++◌, length, take, Bool, true, false, sym, ap, ◌∙◌, subst, inl, inr, arith, length-append}
use Rattle.std.specs.Prelude.{◌&&◌, ◌==◌, if◌then◌else◌, slice_get}
use Rattle.rsct_packet.specs.declared.ids.ViewId.{ViewId}
use Rattle.rsct_packet.specs.declared.ids.ProviderId.{ProviderId}
use Rattle.proposal_core.specs.declared.entry.Entry.{Entry}
use Rattle.proposal_core.specs.declared.group_state.GroupState.{GroupState}
use Rattle.rsct_packet.specs.Search.{Has}
use Rattle.run_safety.specs.Past.{fold_from}
use Rattle.run_safety.specs.ViewOrder.{is_same}
use Rattle.run_safety.specs.Group.{Standing, Packet, Record, In, Put, Begins, Heard, Line, Noted, kept}
use Rattle.run_safety.specs.GroupLists.{puts_of, InOrder}
use Rattle.run_safety.specs.Bases.{Bases, base_state, state_of_list}
use Rattle.run_safety.specs.Moves.{Leads, Opening, Inserted}
use Rattle.run_safety.specs.GroupLaws.{HeardIsFold}
use Rattle.run_safety.proofs.Order.{eq_true}
use Rattle.run_safety.proofs.Prefix.{IsPrefix, prefix_nil, prefix_get, prefix_next}
use Rattle.run_safety.proofs.Tracks.{puts_own}
use Rattle.run_safety.proofs.Moves.{Good}
use Rattle.run_safety.proofs.Lines.{had_inserted}
use Rattle.std.proofs.lemmas.List.{take-append-le}
use Rattle.std.proofs.lemmas.Bool.{and_parts, eqb-true}

-- each list is a front of the log
pub puts_front : (n : ℕ) (u : ViewId) (log : List Entry) (tr : List Record) → ((i : ℕ) (e : Entry) → Has (Put n u i e) tr → slice_get log i ≡ Some e) → InOrder tr → IsPrefix (puts_of n u tr) log
puts_front n u log [] ok order = prefix_nil log
puts_front n u log (In m j v ms ∷ tr) ok order = puts_front n u log tr (λ i e h. ok i e (inr h)) order
puts_front n u log (Begins ∷ tr) ok order = puts_front n u log tr (λ i e h. ok i e (inr h)) order
puts_front n u log (Put m v i e ∷ tr) ok order =
    by (m == n && is_same v u) refl (puts_front n u log tr (λ k f h. ok k f (inr h)) order.1)
  where
    by : (b : Bool) → (m == n && is_same v u) ≡ b → IsPrefix (puts_of n u tr) log → IsPrefix (if b then puts_of n u tr ++ e ∷ [] else puts_of n u tr) log
    by false q p = p
    by true q p =
        let t = and_parts (m == n) (is_same v u) q in
        let a : m ≡ n = eqb-true m n t.0 in
        let c : v ≡ u = eq_true v u t.1 in
        let place : i ≡ length (puts_of n u tr) = order.0 ∙ ap (λ (k : ℕ × ViewId). length (puts_of k.0 k.1 tr)) (λ z. (a z, c z)) in
        let here : slice_get log i ≡ Some e = ok i e (inl (λ z. Put (sym a z) (sym c z) i e)) in
        prefix_next (puts_of n u tr) log e p (subst (λ k. slice_get log k ≡ Some e) place here)

-- a front that is long enough has the same first entries
pub take_front : (k : ℕ) (xs ys : List Entry) → IsPrefix xs ys → k ≤ length xs → take k ys ≡ take k xs
take_front k xs ys p l = ap (take k) (sym p.is) ∙ take-append-le k xs p.rest l

-- the entry at a place within the list
pub get_front : (i : ℕ) (e : Entry) (xs ys : List Entry) → IsPrefix xs ys → i < length xs → slice_get ys i ≡ Some e → slice_get xs i ≡ Some e
get_front i e xs ys p l h = front i xs p.rest l (subst (λ q. slice_get q i ≡ Some e) (sym p.is) h)
  where
    front : (i : ℕ) (xs rest : List Entry) → i < length xs → slice_get (xs ++ rest) i ≡ Some e → slice_get xs i ≡ Some e
    front i [] rest l h = absurd (omega arith)
    front zero (x ∷ xs) rest l h = h
    front (suc i) (x ∷ xs) rest l h = front i xs rest (omega arith) h

-- a place that has an entry is within the list
pub get_within : (i : ℕ) (e : Entry) (xs : List Entry) → slice_get xs i ≡ Some e → i < length xs
get_within i e [] h = absurd (cc)
get_within zero e (x ∷ xs) h = omega arith
get_within (suc i) e (x ∷ xs) h = let l = get_within i e xs h in omega arith

-- what a provider heard, of the log
pub record HeardAt (log : ViewId → List Entry) (bases : Bases) (v : ViewId) (i : ℕ) (e : Entry) (ms : List ProviderId) (value : List ℕ) : Type 0 where
  pub entry : slice_get (log v) i ≡ Some e
  pub members : ms ≡ (state_of_list bases v (take (i + 1) (log v))).members
  pub value_is : value ≡ (state_of_list bases v (take (i + 1) (log v))).value

pub record HeardOk (all : List Line) (log : ViewId → List Entry) (bases : Bases) : Type 0 where
  pub heard : (p : ProviderId) (v : ViewId) (i : ℕ) (e : Entry) (ms : List ProviderId) (value : List ℕ) → Has (Noted (Heard p v i e ms value)) all → HeardAt log bases v i e ms value

-- logs grow, and a view with entries keeps its base
pub heard_on : (all all' : List Line) (log log' : ViewId → List Entry) (bases bases' : Bases) → ((v : ViewId) → IsPrefix (log v) (log' v)) → ((v : ViewId) (i : ℕ) (e : Entry) → slice_get (log v) i ≡ Some e → bases v ≡ bases' v) → ((p : ProviderId) (v : ViewId) (i : ℕ) (e : Entry) (ms : List ProviderId) (value : List ℕ) → Has (Noted (Heard p v i e ms value)) all' → Has (Noted (Heard p v i e ms value)) all) → HeardOk all log bases → HeardOk all' log' bases'
heard_on all all' log log' bases bases' grows same was old =
    record { heard = λ p v i e ms value h. on v i e ms value (old.heard p v i e ms value (was p v i e ms value h)) }
  where
    on : (v : ViewId) (i : ℕ) (e : Entry) (ms : List ProviderId) (value : List ℕ) → HeardAt log bases v i e ms value → HeardAt log' bases' v i e ms value
    on v i e ms value h =
        let l : i < length (log v) = get_within i e (log v) h.entry in
        let same_list : take (i + 1) (log v) ≡ take (i + 1) (log' v) = sym (take_front (i + 1) (log v) (log' v) (grows v) (omega arith)) in
        let s : state_of_list bases v (take (i + 1) (log v)) ≡ state_of_list bases' v (take (i + 1) (log' v)) = λ z. fold_from v (base_state (same v i e h.entry z)) 0 (same_list z) in
        record {
          entry = prefix_get (log v) (log' v) (grows v) i e h.entry;
          members = h.members ∙ ap (λ (k : GroupState). k.members) s;
          value_is = h.value_is ∙ ap (λ (k : GroupState). k.value) s;
        }

module _ (o : Opening) (nodes : ℕ → Standing) (ps : List Packet) (all : List Line) (log : ViewId → List Entry) (lead : Leads) (bases : Bases) (good : Good o nodes ps (kept all) log lead) where
  pub front_of : (m : ℕ) (v : ViewId) → IsPrefix (puts_of m v (kept all)) (log v)
  front_of m v = puts_front m v (log v) (kept all) (λ i e h. good.inv.records (Put m v i e) h) good.past.order

  -- a put is at a place of its node's list
  pub put_within : (m : ℕ) (v : ViewId) (i : ℕ) (e : Entry) (tr : List Record) → InOrder tr → Has (Put m v i e) tr → i < length (puts_of m v tr)
  put_within m v i e [] order h = absurd h
  put_within m v i e (In k j u ms ∷ tr) order (inl q) = absurd (cc)
  put_within m v i e (In k j u ms ∷ tr) order (inr h) = put_within m v i e tr order h
  put_within m v i e (Begins ∷ tr) order (inl q) = absurd (cc)
  put_within m v i e (Begins ∷ tr) order (inr h) = put_within m v i e tr order h
  put_within m v i e (Put k u l f ∷ tr) order (inl q) =
      let a : m ≡ k = cc in
      let b : v ≡ u = cc in
      let c : i ≡ l = cc in
      let P : ℕ × ViewId → Type 0 = λ z. i < length (puts_of z.0 z.1 (Put k u l f ∷ tr)) in
      let here : P (k, u) = rw (puts_own k u l f tr) (let s = length-append (puts_of k u tr) (f ∷ []) in let d = order.0 in omega arith) in
      subst P (λ z. (sym a z, sym b z)) here
  put_within m v i e (Put k u l f ∷ tr) order (inr h) = by (k == m && is_same u v) (put_within m v i e tr order.1 h)
    where
      by : (b : Bool) → i < length (puts_of m v tr) → i < length (if b then puts_of m v tr ++ f ∷ [] else puts_of m v tr)
      by true w = let s = length-append (puts_of m v tr) (f ∷ []) in omega arith
      by false w = w

  pub heard_hears : (more : List Line) (p : ProviderId) (v : ViewId) (i : ℕ) (e : Entry) (s : GroupState) → HeardOk all log bases → Has (Put p.node v i e) (kept all) → s ≡ state_of_list bases v (take (i + 1) (puts_of p.node v (kept all))) → Inserted (Heard p v i e s.members s.value) all more → HeardOk more log bases
  heard_hears more p v i e s old put is new =
      record { heard = λ q u k f ms value h. at q u k f ms value (had_inserted (Heard p v i e s.members s.value) all more new (Noted (Heard q u k f ms value)) h) }
    where
      l : i < length (puts_of p.node v (kept all))
      l = put_within p.node v i e (kept all) good.past.order put

      same : s ≡ state_of_list bases v (take (i + 1) (log v))
      same = is ∙ ap (state_of_list bases v) (sym (take_front (i + 1) (puts_of p.node v (kept all)) (log v) (front_of p.node v) (omega (arith, l))))

      here : HeardAt log bases v i e s.members s.value
      here = record {
        entry = good.inv.records (Put p.node v i e) put;
        members = ap (λ (k : GroupState). k.members) same;
        value_is = ap (λ (k : GroupState). k.value) same;
      }

      at : (q : ProviderId) (u : ViewId) (k : ℕ) (f : Entry) (ms : List ProviderId) (value : List ℕ) → (Noted (Heard q u k f ms value) ≡ Noted (Heard p v i e s.members s.value)) ⊎ Has (Noted (Heard q u k f ms value)) all → HeardAt log bases u k f ms value
      at q u k f ms value (inr h) = old.heard q u k f ms value h
      at q u k f ms value (inl w) =
          let a : u ≡ v = cc in
          let b : k ≡ i = cc in
          let c : f ≡ e = cc in
          let d : ms ≡ s.members = cc in
          let g : value ≡ s.value = cc in
          subst (λ (z : ViewId × ℕ × Entry × List ProviderId × List ℕ). HeardAt log bases z.0 z.1 z.2 z.3 z.4) (λ z. (sym a z, sym b z, sym c z, sym d z, sym g z)) here

  -- the law: every list that is long enough gives what was heard
  pub heard_law : HeardOk all log bases → HeardIsFold all bases
  heard_law old p v i e ms value h m l =
      let k = old.heard p v i e ms value h in
      let q = front_of m v in
      let s : state_of_list bases v (take (i + 1) (log v)) ≡ state_of_list bases v (take (i + 1) (puts_of m v (kept all))) = ap (state_of_list bases v) (take_front (i + 1) (puts_of m v (kept all)) (log v) q (omega (arith, l))) in (
        get_front i e (puts_of m v (kept all)) (log v) q l k.entry,
        k.members ∙ ap (λ (k : GroupState). k.members) s,
        k.value_is ∙ ap (λ (k : GroupState). k.value) s,
      )
