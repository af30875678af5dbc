-- Each reflection of a node's list is greater than those before it in the list.
use Rattle.std.proofs.Common.{◌≡◌, ◌≤◌, ◌<◌, ℕ, zero, suc, ◌+◌, ◌-◌, List, [], ◌∷◌, ◌++◌, length, take, Some, true, refl, sym, ap, ◌∙◌, subst, inl, inr, arith}
use Rattle.std.specs.Prelude.{slice_get, if◌then◌else◌}
use Rattle.rsct_packet.specs.declared.ids.ViewId.{ViewId}
use Rattle.rsct_packet.specs.declared.ids.ProtoId.{ProtoId}
use Rattle.rsct_packet.specs.Ids.{proto_lt}
use Rattle.rsct_packet.specs.Search.{Has}
use Rattle.rsct_packet.proofs.HasLaws.{append_has_left, append_has_right, has_get}
use Rattle.proposal_core.specs.declared.entry.Entry.{Entry}
use Rattle.proposal_core.specs.declared.group_state.GroupState.{GroupState}
use Rattle.proposal_core.specs.declared.group_state.Running.{Running}
use Rattle.proposal_core.specs.Fold.{fits, after}
use Rattle.node_state.specs.declared.happened.Happened.{Happened}
use Rattle.node_state.specs.declared.happened.Happened.TheVariants as happened
use Rattle.run_safety.specs.Past.{History, records_of, earlier, Within, fold_from, puts_of}
use Rattle.run_safety.specs.Sight.{lines_at, lines_with, lines_of}
use Rattle.run_safety.specs.Group.{Line, Put, Based, Kept, Noted, kept}
use Rattle.run_safety.specs.GroupLists as lists
use Rattle.run_safety.specs.Bases.{Bases, base_state, state_of_list}
use Rattle.run_safety.proofs.HeardLaw.{puts_front, get_within}
use Rattle.run_safety.proofs.Prefix.{IsPrefix, prefix_get}
use Rattle.node_state.proofs.NameOrder.{text_self}
use Rattle.entry_laws.proofs.closing_rows.Told.{Told, less_many, less_now}
use Rattle.entry_laws.proofs.closing_rows.Lists.{puts_here}
use Rattle.entry_laws.specs.source_order.Sources.{OfBegun, Rises, reflected_by, reflects, HasReached, RecordClimbs, ReflectionsClimb}
use Rattle.entry_laws.proofs.source_order.Climbing.{NotBehind, Reached, Ahead, PassedIn, still_passed, first_passed, later_greater}
use Rattle.step_refinement.proofs.Puts.{fold_pushed}

-- ---- fronts

take_next : (xs : List Entry) (k : ℕ) (x : Entry) → slice_get xs k ≡ Some x → take (suc k) xs ≡ take k xs ++ x ∷ []
take_next [] k x e = absurd (cc)
take_next (y ∷ xs) zero x e = let q : y ≡ x = cc in ap (λ z. z ∷ []) q
take_next (y ∷ xs) (suc k) x e = ap (λ l. y ∷ l) (take_next xs k x e)

length_taken : (xs : List Entry) (k : ℕ) (x : Entry) → slice_get xs k ≡ Some x → length (take k xs) ≡ k
length_taken [] k x e = absurd (cc)
length_taken (y ∷ xs) zero x e = refl
length_taken (y ∷ xs) (suc k) x e = ap suc (length_taken xs k x e)

pub get_there : (xs : List Entry) (k : ℕ) → k < length xs → (x : Entry) × (slice_get xs k ≡ Some x)
get_there [] k l = absurd (omega arith)
get_there (y ∷ xs) zero l = (y, refl)
get_there (y ∷ xs) (suc k) l = get_there xs k (omega arith)

-- ---- a list whose entries fit, and whose reflections rise

module _ (base : GroupState) (v : ViewId) (log : List Entry) where
  abbrev pub at_place : ℕ → GroupState
  at_place k = fold_from v base 0 (take k log)

  pub state_next : (k : ℕ) (x : Entry) → slice_get log k ≡ Some x → at_place (suc k) ≡ after (at_place k) v k x
  state_next k x e =
      let l : length (take k log) ≡ k = length_taken log k x e in
      let n : 0 + length (take k log) ≡ k = omega arith in
      ap (fold_from v base 0) (take_next log k x e) ∙ fold_pushed v (take k log) base 0 x ∙ ap (λ z. after (at_place k) v z x) n

  module _ (good : (k : ℕ) (x : Entry) → slice_get log k ≡ Some x → (fits (at_place k) x ≡ true) × OfBegun (Rises (at_place k)) x) where
    -- it has passed at each later place
    passed : (j : ℕ) (f : Entry) (a : ProtoId) → slice_get log j ≡ Some f → reflects f ≡ Some a → (d : ℕ) → suc (j + d) ≤ length log → PassedIn a (at_place (suc (j + d)))
    passed j f a e q zero l =
        let z : j ≡ j + 0 = omega arith in
        subst (λ k. PassedIn a (at_place (suc k))) z (subst (PassedIn a) (sym (state_next j f e)) (first_passed a (at_place j) v j f (good j f e).0 q))
    passed j f a e q (suc d) l =
        let z : suc (j + d) ≡ j + suc d = omega arith in
        let x = get_there log (suc (j + d)) (omega arith) in
        let old : PassedIn a (at_place (suc (j + d))) = passed j f a e q d (omega arith) in
        let g = good (suc (j + d)) x.0 x.1 in
        subst (λ k. PassedIn a (at_place (suc k))) z (subst (PassedIn a) (sym (state_next (suc (j + d)) x.0 x.1)) (still_passed a (at_place (suc (j + d))) v (suc (j + d)) x.0 g.0 g.1 old))

    greater : (j i : ℕ) (f e : Entry) (a c : ProtoId) → j < i → slice_get log j ≡ Some f → slice_get log i ≡ Some e → reflects f ≡ Some a → reflects e ≡ Some c → proto_lt a c ≡ true
    greater j i f e a c l there here p q =
        let same : suc (j + (i - suc j)) ≡ i = omega arith in
        let w : i < length log = get_within i e log here in
        let k : PassedIn a (at_place i) = subst (λ z. PassedIn a (at_place z)) same (passed j f a there p (i - suc j) (omega arith)) in
        let g = good i e here in later_greater a (at_place i) v i e c g.0 g.1 q k

    -- what the base has reached
    base_passed : (a : ProtoId) → PassedIn a base → (d : ℕ) → d ≤ length log → PassedIn a (at_place d)
    base_passed a b zero l = subst (PassedIn a) (λ j. base) b
    base_passed a b (suc d) l =
        let x = get_there log d (omega arith) in
        let g = good d x.0 x.1 in
        subst (PassedIn a) (sym (state_next d x.0 x.1)) (still_passed a (at_place d) v d x.0 g.0 g.1 (base_passed a b d (omega arith)))

    base_greater : (i : ℕ) (e : Entry) (a c : ProtoId) → slice_get log i ≡ Some e → reflects e ≡ Some c → PassedIn a base → proto_lt a c ≡ true
    base_greater i e a c here q b =
        let w : i < length log = get_within i e log here in
        let g = good i e here in later_greater a (at_place i) v i e c g.0 g.1 q (base_passed a b i (omega arith))

-- ---- the lists of nodes

-- a base that was recorded is a line of its group
base_now : (n : ℕ) (v : ViewId) (g : List ℕ) (old : ViewId) (len : ℕ) (s : GroupState) (now : List Happened) (before : History) → (Has (happened.Base n v g old len s) (records_of before) → Has (Noted (Based n v (record { old = old; len = len; state = s }))) (lines_of g before)) → Has (happened.Base n v g old len s) (earlier now before) → Has (Noted (Based n v (record { old = old; len = len; state = s }))) (lines_with g now before (lines_of g before))
base_now n v g old len s [] before k h = inr (k h)
base_now n v g old len s (r ∷ now) before k (inl e) =
    append_has_left (Noted (Based n v (record { old = old; len = len; state = s }))) (lines_at g (earlier now before) r) (lines_with g now before (lines_of g before)) (subst (λ z. Has (Noted (Based n v (record { old = old; len = len; state = s }))) (lines_at g (earlier now before) z)) e here)
  where
    here : Has (Noted (Based n v (record { old = old; len = len; state = s }))) (lines_at g (earlier now before) (happened.Base n v g old len s))
    here = subst (λ b. Has (Noted (Based n v (record { old = old; len = len; state = s }))) (if b then Noted (Based n v (record { old = old; len = len; state = s })) ∷ [] else [])) (sym (text_self g)) (inl refl)
base_now n v g old len s (r ∷ now) before k (inr h) =
    append_has_right (Noted (Based n v (record { old = old; len = len; state = s }))) (lines_at g (earlier now before) r) (lines_with g now before (lines_of g before)) (base_now n v g old len s now before k h)

pub base_line : (n : ℕ) (v : ViewId) (g : List ℕ) (old : ViewId) (len : ℕ) (s : GroupState) (h : History) → Has (happened.Base n v g old len s) (records_of h) → Has (Noted (Based n v (record { old = old; len = len; state = s }))) (lines_of g h)
base_line n v g old len s [] i = absurd i
base_line n v g old len s (e ∷ before) i = base_now n v g old len s e.records before (base_line n v g old len s before) i

-- what a settled state has reached it has passed
reached_passed : (st : GroupState) (a : ProtoId) → Ahead st.running st.reflected_at → HasReached st a → PassedIn a st
reached_passed st a k (inl p) =
    record { runs = λ r e c q. k r c a e q p; done = inl (subst (Reached a) (sym p) (inl refl)) }
reached_passed st a k (inr z) = record { runs = λ r e c q. runs r e c q; done = inr z }
  where
    runs : (r : Running) → st.running ≡ Some r → (c : ProtoId) → reflected_by r.proposal ≡ Some c → NotBehind a c
    runs r e c q =
        let same : Some r ≡ Some z.0 = sym e ∙ z.1 in
        let s : r ≡ z.0 = cc in
        let t : Some a ≡ Some c = sym z.2 ∙ ap (λ (y : Running). reflected_by y.proposal) (sym s) ∙ q in inl (cc)

module _ (bases : List ℕ → Bases) (log : List ℕ → ViewId → List Entry) (good : (g : List ℕ) (v : ViewId) (k : ℕ) (x : Entry) → slice_get (log g v) k ≡ Some x → (fits (state_of_list (bases g) v (take k (log g v))) x ≡ true) × OfBegun (Rises (state_of_list (bases g) v (take k (log g v)))) x) (settled : (g : List ℕ) (v : ViewId) → Ahead (base_state (bases g v)).running (base_state (bases g v)).reflected_at) where
  abbrev ToldNow : List Happened → History → Type 0
  ToldNow now before = (g : List ℕ) → Told (bases g) (log g) (lines_with g now before (lines_of g before))

  put_climbs : (n : ℕ) (v : ViewId) (g : List ℕ) (i : ℕ) (e : Entry) (now : List Happened) (before : History) → ToldNow (happened.Put n v g i e ∷ now) before → RecordClimbs now before (happened.Put n v g i e)
  put_climbs n v g i e now before t c q = record { over_list = λ f a there p. over_list f a there p; over_base = λ old len s a there p. over_base old len s a there p }
    where
      all : List Line
      all = lines_with g now before (lines_of g before)

      k : Told (bases g) (log g) (Kept (Put n v i e) ∷ all)
      k = subst (λ b. Told (bases g) (log g) ((if b then Kept (Put n v i e) ∷ [] else []) ++ all)) (text_self g) (t g)

      over_list : (f : Entry) (a : ProtoId) → Has f (puts_of n v g (earlier now before)) → reflects f ≡ Some a → proto_lt a c ≡ true
      over_list f a there p =
          let ys : List Entry = lists.puts_of n v (kept all) in
          let front : IsPrefix ys (log g v) = puts_front n v (log g v) (kept all) (λ j x h. k.puts n v j x (inr h)) k.places.1 in
          let j = has_get f ys (subst (Has f) (puts_here n v g now before) there) in
          let l : j.0 < length ys = j.1 in
          let place : i ≡ length ys = k.places.0 in
          greater (base_state (bases g v)) v (log g v) (good g v) j.0 i f e a c (omega arith) (prefix_get ys (log g v) front j.0 f j.2) (k.puts n v i e (inl refl)) p q

      over_base : (old : ViewId) (len : ℕ) (s : GroupState) (a : ProtoId) → Has (happened.Base n v g old len s) (earlier now before) → HasReached s a → proto_lt a c ≡ true
      over_base old len s a there p =
          let b : bases g v ≡ Some (record { old = old; len = len; state = s }) = k.noted n v (record { old = old; len = len; state = s }) (inr (base_now n v g old len s now before (base_line n v g old len s before) there)) in
          let is : base_state (bases g v) ≡ s = ap base_state b in
          base_greater (base_state (bases g v)) v (log g v) (good g v) i e a c (k.puts n v i e (inl refl)) q (reached_passed (base_state (bases g v)) a (settled g v) (subst (λ z. HasReached z a) (sym is) p))

  record_climbs : (r : Happened) (now : List Happened) (before : History) → ToldNow (r ∷ now) before → RecordClimbs now before r
  record_climbs (happened.Put n v g i e) now before t = put_climbs n v g i e now before t
  record_climbs _ now before t = tt

  within_climbs : (now : List Happened) (before : History) → ToldNow now before → Within RecordClimbs now before
  within_climbs [] before t = tt
  within_climbs (r ∷ now) before t =
      (record_climbs r now before t, within_climbs now before (λ g. less_many (bases g) (log g) (lines_at g (earlier now before) r) (lines_with g now before (lines_of g before)) (t g)))

  pub all_climb : (h : History) → ((g : List ℕ) → Told (bases g) (log g) (lines_of g h)) → ReflectionsClimb h
  all_climb [] t = tt
  all_climb (e ∷ before) t =
      (within_climbs e.records before t, all_climb before (λ g. less_now (bases g) (log g) g e.records before (t g)))
