-- What is heard carries the members and the value that the records make of the list up to its place.
use Rattle.std.proofs.Common.{◌≡◌, ◌<◌, ℕ, ◌+◌, List, [], ◌∷◌, length, take, Some, Bool, true, false, refl, sym, ap, ◌∙◌, subst, inl, inr, arith}
use Rattle.std.specs.Prelude.{◌==◌, ◌&&◌, if◌then◌else◌}
use Rattle.std.specs.Str.{bytes_eq}
use Rattle.std.proofs.lemmas.Bool.{eqb-true, and_parts}
use Rattle.rsct_packet.specs.declared.ids.ViewId.{ViewId}
use Rattle.rsct_packet.specs.Ids.{same_view}
use Rattle.rsct_packet.specs.Search.{Has}
use Rattle.rsct_packet.proofs.HasLaws.{append_has_left, append_has_right}
use Rattle.view_state.proofs.ViewOrder.{same_view_is}
use Rattle.proposal_core.specs.declared.entry.Entry.{Entry}
use Rattle.proposal_core.specs.declared.group_state.GroupState.{GroupState}
use Rattle.node_state.proofs.NameOrder.{text_same, text_self}
use Rattle.node_state.specs.declared.happened.Happened.{Happened}
use Rattle.node_state.specs.declared.happened.Happened.TheVariants as happened
use Rattle.run_safety.specs.Past.{History, earlier, records_of, Within, EachRecord, is_list, puts_of, base_of, fold_from, state_at}
use Rattle.run_safety.specs.Sight.{lines_at, lines_with, lines_of}
use Rattle.run_safety.specs.Group.{Origin, Record, Put, Based, Heard, Line, Kept, Noted, kept}
use Rattle.run_safety.specs.GroupLists as lists
use Rattle.run_safety.specs.Bases.{Bases, base_state, state_of_list}
use Rattle.run_safety.specs.SafeHeard.{latest_put, put_after, HeardState}
use Rattle.run_safety.proofs.HeardLaw.{puts_front, take_front, HeardAt, HeardOk, put_within}
use Rattle.run_safety.proofs.Lives.{whole}
use Rattle.row_laws.specs.hearing.Hearing.{AtPut}
use Rattle.row_laws.proofs.hearing.Listening.{providers_hear}
use Rattle.entry_laws.proofs.closing_rows.Orders.{Clause, Ordered}
use Rattle.entry_laws.proofs.closing_rows.Told.{Told, less_many, each_told, each_all}
use Rattle.entry_laws.proofs.closing_rows.Law.{bases_in, logs_in, told_in}
use Rattle.step_refinement.specs.Tied.{Scene, Rests, opening_of}
use Rattle.step_refinement.proofs.RunLaw.{reached_rests}
use Rattle.run_laws.specs.seen_runs.Law.{EveryHeardIsFold}
use Rattle.run_laws.proofs.seen_runs.BareLines.{kept_bare, base_is}
use Rattle.run_laws.proofs.seen_runs.Sights.{cut, puts_same, base_same}
use Rattle.run_laws.proofs.seen_runs.Shown.{put_there}
use Rattle.run_laws.proofs.seen_runs.Pairs.{each_both}

-- ---- records

-- what was put last was put
latest_there : (n : ℕ) (v : ViewId) (g : List ℕ) (i : ℕ) (e : Entry) (rs : List Happened) → latest_put n v g rs ≡ Some (i, e) → Has (happened.Put n v g i e) rs
latest_there n v g i e [] q = absurd (cc)
latest_there n v g i e (r ∷ rs) q = by r q (latest_there n v g i e rs)
  where
    by : (r : Happened) → put_after n v g r (latest_put n v g rs) ≡ Some (i, e) → (latest_put n v g rs ≡ Some (i, e) → Has (happened.Put n v g i e) rs) → Has (happened.Put n v g i e) (r ∷ rs)
    by (happened.Put m u h k f) q old = at (is_list n v g m u h) refl q
      where
        at : (b : Bool) → is_list n v g m u h ≡ b → (if b then Some (k, f) else latest_put n v g rs) ≡ Some (i, e) → Has (happened.Put n v g i e) (happened.Put m u h k f ∷ rs)
        at false t q = inr (old q)
        at true t q =
            let x = and_parts (m == n) (same_view u v && bytes_eq h g) t in
            let y = and_parts (same_view u v) (bytes_eq h g) x.1 in
            let a : m ≡ n = eqb-true m n x.0 in
            let b : u ≡ v = same_view_is u v y.0 in
            let c : h ≡ g = text_same h g y.1 in
            let mine : ℕ × Entry = (k, f) in
            let its : ℕ × Entry = (i, e) in
            let z : mine ≡ its = cc in
            let d : k ≡ i = ap (λ (y : ℕ × Entry). y.0) z in
            let l : f ≡ e = ap (λ (y : ℕ × Entry). y.1) z in
            inl (λ j. happened.Put (sym a j) (sym b j) (sym c j) (sym d j) (sym l j))
    by _ q old = inr (old q)

-- ---- lines

-- who put something into a view had noted its base
put_noted : (bases : Bases) (n : ℕ) (v : ViewId) (i : ℕ) (e : Entry) (all : List Line) → Ordered bases all → Has (Put n v i e) (kept all) → (b : Origin) → bases v ≡ Some b → Has (Noted (Based n v b)) all
put_noted bases n v i e [] o h b q = absurd h
put_noted bases n v i e (Noted x ∷ older) o h b q = inr (put_noted bases n v i e older o.1 h b q)
put_noted bases n v i e (Kept r ∷ older) o (inl p) b q =
    inr ((subst (λ z. Clause bases (Kept z) older) (sym p) o.0).1 b q)
put_noted bases n v i e (Kept r ∷ older) o (inr h) b q = inr (put_noted bases n v i e older o.1 h b q)

-- what holds of each line of a run holds of those of each record
module _ (g : List ℕ) (Q : Line → Type 0) where
  abbrev OfItsLines : List Happened → History → Happened → Type 0
  OfItsLines now before r = (l : Line) → Has l (lines_at g (earlier now before) r) → Q l

  within_lines : (now : List Happened) (before : History) → ((l : Line) → Has l (lines_with g now before (lines_of g before)) → Q l) → Within OfItsLines now before × ((l : Line) → Has l (lines_of g before) → Q l)
  within_lines [] before k = (tt, λ l h. k l (inr h))
  within_lines (r ∷ now) before k =
      let ls : List Line = lines_at g (earlier now before) r in
      let older : List Line = lines_with g now before (lines_of g before) in
      let rest = within_lines now before (λ l h. k l (append_has_right l ls older h)) in
      ((λ l h. k l (append_has_left l ls older h), rest.0), rest.1)

  each_line : (h : History) → ((l : Line) → Has l (lines_of g h) → Q l) → EachRecord OfItsLines h
  each_line [] k = tt
  each_line (e ∷ before) k = let rest = within_lines e.records before k in (rest.0, each_line before rest.1)

-- ---- one group

-- what is heard of a group carries what the records make of the list up to its place, where its node put it
abbrev Carries : List ℕ → List Happened → History → Happened → Type 0
Carries g now before (happened.Heard p v h i e ms value) =
    h ≡ g → Has (happened.Put p.node v h i e) (earlier now before) → HeardState (earlier now before) (happened.Heard p v h i e ms value)
Carries g now before _ = Unit {0}

-- where a node has put an entry, its list reaches that far
abbrev Reaching : Type 0
Reaching =
    (m : ℕ) (v : ViewId) (i : ℕ) (e : Entry) (tr : List Record) → lists.InOrder tr → Has (Put m v i e) tr → i < length (lists.puts_of m v tr)

module _ (bases : Bases) (log : ViewId → List Entry) (reaching : Reaching) (g : List ℕ) where
  -- what the records make of the list up to a place that was put is what the whole list makes of the view's base
  state_there : (n : ℕ) (v : ViewId) (i : ℕ) (e : Entry) (now : List Happened) (before : History) → Told bases log (lines_of g (cut now before)) → Has (happened.Put n v g i e) (earlier now before) → state_at n v g (i + 1) (earlier now before) ≡ state_of_list bases v (take (i + 1) (log v))
  state_there n v i e now before t h =
      let all : List Line = lines_of g (cut now before) in
      let xs : List Entry = lists.puts_of n v (kept all) in
      let put : Has (Put n v i e) (kept all) = subst (Has (Put n v i e)) (kept_bare all) (put_there now before g n v i e h) in
      let base : base_of n v g (earlier now before) ≡ base_state (bases v) = sym (base_same n v g (cut now before)) ∙ base_is bases n v all (λ b k. t.noted n v b k) (put_noted bases n v i e all t.in_order put) in
      let within : i < length xs = reaching n v i e (kept all) t.places put in
      let front : take (i + 1) (log v) ≡ take (i + 1) xs = take_front (i + 1) xs (log v) (puts_front n v (log v) (kept all) (λ k f z. t.puts n v k f z) t.places) (omega (arith, within)) in
      let own : take (i + 1) (puts_of n v g (earlier now before)) ≡ take (i + 1) (log v) = ap (take (i + 1)) (sym (puts_same n v g (cut now before))) ∙ sym front in
      λ j. fold_from v (base j) 0 (own j)

  abbrev StateOf : List Happened → History → Happened → Type 0
  StateOf now before (happened.Heard p v h i e ms value) =
      h ≡ g → Has (happened.Put p.node v g i e) (earlier now before) → state_at p.node v g (i + 1) (earlier now before) ≡ state_of_list bases v (take (i + 1) (log v))
  StateOf now before _ = Unit {0}

  state_of : (now : List Happened) (before : History) (r : Happened) → Told bases log (lines_with g (r ∷ now) before (lines_of g before)) → StateOf now before r
  state_of now before (happened.Heard p v h i e ms value) t = λ same put. state_there p.node v i e now before (less t) put
    where
      less : Told bases log (lines_with g (happened.Heard p v h i e ms value ∷ now) before (lines_of g before)) → Told bases log (lines_of g (cut now before))
      less t = less_many bases log (lines_at g (earlier now before) (happened.Heard p v h i e ms value)) (lines_with g now before (lines_of g before)) t
  state_of now before _ t = tt

  -- what is heard is that of the whole list
  abbrev HeardOf : Line → Type 0
  HeardOf (Noted (Heard p v i e ms value)) = HeardAt log bases v i e ms value
  HeardOf _ = Unit {0}

  heard_of : (all : List Line) → HeardOk all log bases → (l : Line) → Has l all → HeardOf l
  heard_of all k (Noted (Heard p v i e ms value)) h = k.heard p v i e ms value h
  heard_of all k _ h = tt

  carries : (now : List Happened) (before : History) (r : Happened) → StateOf now before r → OfItsLines g HeardOf now before r → Carries g now before r
  carries now before (happened.Heard p v h i e ms value) s k = λ same put. subst (λ z. Has (happened.Put p.node v z i e) (earlier now before) → HeardState (earlier now before) (happened.Heard p v z i e ms value)) (sym same) (at same) put
    where
      at : h ≡ g → Has (happened.Put p.node v g i e) (earlier now before) → HeardState (earlier now before) (happened.Heard p v g i e ms value)
      at same put =
          let is : state_at p.node v g (i + 1) (earlier now before) ≡ state_of_list bases v (take (i + 1) (log v)) = s same put in
          let named : bytes_eq h g ≡ true = ap (λ z. bytes_eq z g) same ∙ text_self g in
          let line : Has (Noted (Heard p v i e ms value)) (lines_at g (earlier now before) (happened.Heard p v h i e ms value)) = subst (λ b. Has (Noted (Heard p v i e ms value)) (if b then Noted (Heard p v i e ms value) ∷ [] else [])) (sym named) (inl refl) in
          let x : HeardAt log bases v i e ms value = k (Noted (Heard p v i e ms value)) line in
          (x.members ∙ ap (λ (s : GroupState). s.members) (sym is), x.value_is ∙ ap (λ (s : GroupState). s.value) (sym is))
  carries now before _ s k = tt

  each_carries : (h : History) → Told bases log (lines_of g h) → HeardOk (lines_of g h) log bases → EachRecord (Carries g) h
  each_carries h t k =
      each_both carries h (each_told bases log g StateOf state_of h t) (each_line g HeardOf h (heard_of (lines_of g h) k))

-- ---- every run

heard_carries : (now : List Happened) (before : History) (r : Happened) → ((g : List ℕ) → Carries g now before r) → AtPut now before r → HeardState (earlier now before) r
heard_carries now before (happened.Heard p v g i e ms value) k put =
    k g refl (append_has_left (happened.Put p.node v g i e) now (records_of before) (latest_there p.node v g i e now put.0))
heard_carries now before _ k put = tt

module _ (w : Scene) (rests : (g : List ℕ) → Rests g w) where
  group_carries : (g : List ℕ) → EachRecord (Carries g) w.before
  group_carries g =
      let t = rests g in
      let x = t.ghost in
      let l = whole t.life in
      each_carries (bases_in w rests g) (logs_in w rests g) (put_within (opening_of w.config) x.nodes x.ps x.all l.log x.leads x.bases l.good) g w.before (told_in w rests g) (subst (λ (all : List Line). HeardOk all (logs_in w rests g) (bases_in w rests g)) t.lines l.heard)

pub heard_folds : EveryHeardIsFold
heard_folds c w k =
    each_both heard_carries w.before (each_all Carries w.before (group_carries w (λ g. reached_rests c w k g))) (providers_hear c w k)
