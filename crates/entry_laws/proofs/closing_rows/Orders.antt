-- In what order the lines of a group stand, in every life: a node puts and notes its base after it entered the view, its base
-- is noted before it puts anything there, and what it puts in the event in which it enters a view was put before.
use Rattle.std.proofs.Common.{◌≡◌, ◌⊎◌, ◌≤◌, ◌<◌, ℕ, zero, suc, ◌+◌, List, [], ◌∷◌, ◌++◌, length, drop, Option, Some, None, Bool, true, false, refl, sym, ◌∙◌, subst, inl, inr, arith}
use Rattle.std.specs.Prelude.{◌==◌, ◌&&◌, slice_get, if◌then◌else◌}
use Rattle.rsct_packet.specs.declared.ids.ViewId.{ViewId}
use Rattle.rsct_packet.specs.declared.ids.Member.{Member}
use Rattle.rsct_packet.specs.Search.{Has}
use Rattle.proposal_core.specs.declared.entry.Entry.{Entry}
use Rattle.run_safety.specs.ViewOrder.{is_same}
use Rattle.run_safety.specs.Group.{Standing, Reply, members_of, Origin, Packet, Answer, Install, Record, In, Put, Begins, Note, Based, Heard, Asked, Told, Line, Kept, Noted, kept, lines_from}
use Rattle.run_safety.specs.GroupLists.{WasIn, held_by, held}
use Rattle.run_safety.specs.GroupLaws.{Earlier}
use Rattle.run_safety.specs.Bases.{Bases}
use Rattle.run_safety.specs.Moves.{Opening, Leads, Life, Dawn, NextEvent, Promises, Answers, Appends, Follows, Starts, Enters, Founds, Names, Hears, Asks, Requests, Refuses, IsTold, Acknowledges, Settles, Collected, entered}
use Rattle.run_safety.proofs.Prefix.{IsPrefix, prefix_get, prefix_nil}
use Rattle.run_safety.proofs.Lines.{kept_noted, has_insert}
use Rattle.run_safety.proofs.Tracks.{held_left, held_own}
use Rattle.run_safety.proofs.Founds.{found_new}
use Rattle.run_safety.proofs.Whole.{Whole}
use Rattle.run_safety.proofs.Lives.{whole}

-- the node had entered the view
abbrev pub WasThere : ℕ → ViewId → List Line → Type 0
WasThere n v older = (j : ℕ) × WasIn (kept older) n j v

-- each put of the event that goes on was put before
abbrev pub Again : List Line → Type 0
Again [] = Unit {0}
Again (Kept (In n j v ms) ∷ older) = Again older
Again (Kept (Put n v i e) ∷ older) = Earlier (kept older) v i × Again older
Again (Kept Begins ∷ older) = Unit {0}
Again (Noted x ∷ older) = Again older

-- what stands before a line
abbrev pub Clause : Bases → Line → List Line → Type 0
Clause bases (Kept (In n j v ms)) older = Again older
Clause bases (Kept (Put n v i e)) older = WasThere n v older × ((b : Origin) → bases v ≡ Some b → Has (Noted (Based n v b)) older)
Clause bases (Kept Begins) older = Unit {0}
Clause bases (Noted (Based n v b)) older = WasThere n v older
Clause bases (Noted (Heard p v i e ms value)) older = Unit {0}
Clause bases (Noted (Asked p r x)) older = Unit {0}
Clause bases (Noted (Told p r v)) older = Unit {0}

abbrev pub Ordered : Bases → List Line → Type 0
Ordered bases [] = Unit {0}
Ordered bases (l ∷ older) = Clause bases l older × Ordered bases older

-- ---- an event in which no node put anything

held_less : (n : ℕ) (u : ViewId) (tr : List Record) → held_by n u true tr ≤ held_by n u false tr
held_less n u [] = omega arith
held_less n u (In m j v ms ∷ tr) = by (m == n) (held_less n u tr)
  where
    by : (b : Bool) → held_by n u true tr ≤ held_by n u false tr → (if b then held_by n u true tr else held_by n u true tr) ≤ (if b then held_by n u true tr else held_by n u false tr)
    by true l = omega arith
    by false l = l
held_less n u (Put m v i e ∷ tr) =
    subst (λ k. k ≤ held_by n u false (Put m v i e ∷ tr)) (sym (held_left n m u v i e tr)) (by (m == n && (is_same v u && true)) (held_less n u tr))
  where
    by : (b : Bool) → held_by n u true tr ≤ held_by n u false tr → held_by n u true tr ≤ (if b then held_by n u false tr + 1 else held_by n u false tr)
    by true l = omega arith
    by false l = l
held_less n u (Begins ∷ tr) = omega arith

quiet_again : (bases : Bases) (all : List Line) → Ordered bases all → ((m : ℕ) (u : ViewId) → held_by m u true (kept all) ≡ held_by m u false (kept all)) → Again all
quiet_again bases [] o q = tt
quiet_again bases (Kept (In n j v ms) ∷ older) o q = o.0
quiet_again bases (Kept Begins ∷ older) o q = tt
quiet_again bases (Noted x ∷ older) o q = quiet_again bases older o.1 q
quiet_again bases (Kept (Put n v i e) ∷ older) o q =
    let a : held_by n v true (Put n v i e ∷ kept older) ≡ held_by n v true (kept older) = held_left n n v v i e (kept older) in
    let b : held n v (Put n v i e ∷ kept older) ≡ held n v (kept older) + 1 = held_own n v i e (kept older) in
    let c : held_by n v true (kept older) ≤ held_by n v false (kept older) = held_less n v (kept older) in
    let d : held_by n v true (Put n v i e ∷ kept older) ≡ held_by n v false (Put n v i e ∷ kept older) = q n v in absurd (omega arith)

-- ---- a note comes in between

module _ (bases : Bases) (x : Note) (older : List Line) where
  was_more : (newer : List Line) (n : ℕ) (v : ViewId) → WasThere n v (newer ++ older) → WasThere n v (newer ++ Noted x ∷ older)
  was_more newer n v k = subst (λ tr. (j : ℕ) × WasIn tr n j v) (sym (kept_noted x newer older)) k

  again_more : (newer : List Line) → Again (newer ++ older) → Again (newer ++ Noted x ∷ older)
  again_more [] k = k
  again_more (Kept (In n j v ms) ∷ newer) k = again_more newer k
  again_more (Kept Begins ∷ newer) k = tt
  again_more (Noted y ∷ newer) k = again_more newer k
  again_more (Kept (Put n v i e) ∷ newer) k =
      (subst (λ tr. Earlier tr v i) (sym (kept_noted x newer older)) k.0, again_more newer k.1)

  clause_more : (newer : List Line) (l : Line) → Clause bases l (newer ++ older) → Clause bases l (newer ++ Noted x ∷ older)
  clause_more newer (Kept (In n j v ms)) k = again_more newer k
  clause_more newer (Kept (Put n v i e)) k = (was_more newer n v k.0, λ b q. has_insert (Noted x) (Noted (Based n v b)) newer older (k.1 b q))
  clause_more newer (Kept Begins) k = tt
  clause_more newer (Noted (Based n v b)) k = was_more newer n v k
  clause_more newer (Noted (Heard p v i e ms value)) k = tt
  clause_more newer (Noted (Asked p r y)) k = tt
  clause_more newer (Noted (Told p r v)) k = tt

  ordered_more : (newer : List Line) → Clause bases (Noted x) older → Ordered bases (newer ++ older) → Ordered bases (newer ++ Noted x ∷ older)
  ordered_more [] new k = (new, k)
  ordered_more (l ∷ newer) new k = (clause_more newer l k.0, ordered_more newer new k.1)

-- ---- other bases, which are the same in the views that were entered

clause_based : (bases now : Bases) (l : Line) (older : List Line) → ((n : ℕ) (v : ViewId) → WasThere n v older → now v ≡ bases v) → Clause bases l older → Clause now l older
clause_based bases now (Kept (In n j v ms)) older same k = k
clause_based bases now (Kept (Put n v i e)) older same k = (k.0, λ b q. k.1 b (sym (same n v k.0) ∙ q))
clause_based bases now (Kept Begins) older same k = tt
clause_based bases now (Noted (Based n v b)) older same k = k
clause_based bases now (Noted (Heard p v i e ms value)) older same k = tt
clause_based bases now (Noted (Asked p r x)) older same k = tt
clause_based bases now (Noted (Told p r v)) older same k = tt

pub was_on : (l : Line) (older : List Line) (n : ℕ) (v : ViewId) → WasThere n v older → WasThere n v (l ∷ older)
was_on (Kept r) older n v k = (k.0, (k.1.0, inr k.1.1))
was_on (Noted x) older n v k = k

ordered_based : (bases now : Bases) (all : List Line) → ((n : ℕ) (v : ViewId) → WasThere n v all → now v ≡ bases v) → Ordered bases all → Ordered now all
ordered_based bases now [] same k = tt
ordered_based bases now (l ∷ older) same k =
    (clause_based bases now l older (λ n v was. same n v (was_on l older n v was)) k.0, ordered_based bases now older (λ n v was. same n v (was_on l older n v was)) k.1)

-- ---- a view is entered

get_drop : (a : ℕ) (xs : List Entry) (k : ℕ) (e : Entry) → slice_get (drop a xs) k ≡ Some e → slice_get xs (a + k) ≡ Some e
get_drop zero xs k e h = let q : k ≡ 0 + k = omega arith in subst (λ z. slice_get xs z ≡ Some e) q h
get_drop (suc a) [] k e h = absurd (cc)
get_drop (suc a) (x ∷ xs) k e h =
    let q : suc (a + k) ≡ suc a + k = omega arith in subst (λ z. slice_get (x ∷ xs) z ≡ Some e) q (get_drop a xs k e h)

-- what a node knows of a view that it is in
record Knows (bases : Bases) (n : ℕ) (v : ViewId) (all : List Line) : Type 0 where
  ordered : Ordered bases all
  again : Again all
  was : WasThere n v all
  noted : (b : Origin) → bases v ≡ Some b → Has (Noted (Based n v b)) all

-- what its list lacks is put: each was put before
filled_knows : (bases : Bases) (n : ℕ) (v : ViewId) (es : List Entry) (i : ℕ) (all : List Line) → ((k : ℕ) (e : Entry) → slice_get es k ≡ Some e → Earlier (kept all) v (i + k)) → Knows bases n v all → Knows bases n v (lines_from n v i es all)
filled_knows bases n v [] i all old k = k
filled_knows bases n v (e ∷ es) i all old k =
    filled_knows bases n v es (i + 1) (Kept (Put n v i e) ∷ all) older (record {
      ordered = ((k.was, k.noted), k.ordered);
      again = (let p : i + 0 ≡ i = omega arith in subst (Earlier (kept all) v) p (old 0 e refl), k.again);
      was = (k.was.0, (k.was.1.0, inr k.was.1.1));
      noted = λ b q. inr (k.noted b q);
    })
  where
    older : (a : ℕ) (d : Entry) → slice_get es a ≡ Some d → Earlier (Put n v i e ∷ kept all) v ((i + 1) + a)
    older a d h =
        let p : i + suc a ≡ (i + 1) + a = omega arith in
        let j : Earlier (kept all) v ((i + 1) + a) = subst (Earlier (kept all) v) p (old (suc a) d h) in
        (j.0, j.1, inr j.2)

entered_ordered : (bases : Bases) (n : ℕ) (x : Standing) (v : ViewId) (ms : List Member) (ss : ViewId → List Entry) (b : Option Origin) (all : List Line) → Knows bases n x.view (lines_from n x.view (length x.list) (drop (length x.list) (ss x.view)) all) → Ordered bases (entered n x v ms ss b all)
entered_ordered bases n x v ms ss None all k = (k.again, k.ordered)
entered_ordered bases n x v ms ss (Some b) all k = ((x.inc, (ms, inl refl)), (k.again, k.ordered))

-- ---- every life

module _ (o : Opening) (nodes : ℕ → Standing) (ps : List Packet) (all : List Line) (leads : Leads) (bases : Bases) (w : Whole o nodes ps all leads bases) where
  -- of the view that a node is in
  stands : (n : ℕ) → 0 < (nodes n).inc → WasThere n (nodes n).view all × ((b : Origin) → bases (nodes n).view ≡ Some b → Has (Noted (Based n (nodes n).view b)) all)
  stands n up =
      let k = (w.good.past.seated n).was up in
      (((nodes n).inc, k.0), λ b q. w.based_ok.by_all n (nodes n).inc (nodes n).view k.0.0 b k.0.1 q)

  -- where it puts something
  puts_clause : (n i : ℕ) (x : Standing) (e : Entry) → nodes n ≡ x → 0 < x.inc → Clause bases (Kept (Put n x.view i e)) all
  puts_clause n i x e is = subst (λ (z : Standing). 0 < z.inc → Clause bases (Kept (Put n z.view i e)) all) is (stands n)

  -- where it leaves the view: what it lacks is put
  leaves_knows : (now : Bases) (n : ℕ) (x : Standing) (ss : ViewId → List Entry) → nodes n ≡ x → 0 < x.inc → ((m : ℕ) (v : ViewId) → WasThere m v all → now v ≡ bases v) → Again all → Ordered bases all → IsPrefix (ss x.view) (w.log x.view) → Knows now n x.view (lines_from n x.view (length x.list) (drop (length x.list) (ss x.view)) all)
  leaves_knows now n x ss is up same again ordered front =
      filled_knows now n x.view (drop (length x.list) (ss x.view)) (length x.list) all (λ a e h. w.firsts.put x.view (length x.list + a) e (prefix_get (ss x.view) (w.log x.view) front (length x.list + a) e (get_drop (length x.list) (ss x.view) a e h))) (record {
        ordered = ordered_based bases now all same ordered;
        again = again;
        was = there.0;
        noted = λ b q. there.1 b (sym (same n x.view there.0) ∙ q);
      })
    where
      there : WasThere n x.view all × ((b : Origin) → bases x.view ≡ Some b → Has (Noted (Based n x.view b)) all)
      there = subst (λ (z : Standing). 0 < z.inc → WasThere n z.view all × ((b : Origin) → bases z.view ≡ Some b → Has (Noted (Based n z.view b)) all)) is (stands n) up

  -- what answers carry
  collected_front : (n : ℕ) (x : Standing) (rs : List Reply) (ss : ViewId → List Entry) → Collected ps n x rs ss → (u : ViewId) → IsPrefix (ss u) (w.log u)
  collected_front n x rs ss ok u = by (ok.longest.one u)
    where
      by : (ss u ≡ []) ⊎ ((r : Reply) × Has r rs × (r.view ≡ u) × (r.list ≡ ss u)) → IsPrefix (ss u) (w.log u)
      by (inl e) = subst (λ l. IsPrefix l (w.log u)) (sym e) (prefix_nil (w.log u))
      by (inr k) =
          let r : IsPrefix (k.0).list (w.log (k.0).view) = (w.good.inv.packet (Answer x.promise k.0) (ok.sent k.0 k.1)).1 in
          subst (λ (z : List Entry × ViewId). IsPrefix z.0 (w.log z.1)) (λ i. (k.3 i, k.2 i)) r

pub ordered : {o : Opening} {nodes : ℕ → Standing} {ps : List Packet} {all : List Line} {leads : Leads} {bases : Bases} → Life o nodes ps all leads bases → Ordered bases all
ordered (Dawn nodes new) = tt
ordered (NextEvent nodes ps all leads bases life) = (tt, ordered life)
ordered (Promises nodes now ps all leads bases n x v life is le c) = ordered life
ordered (Answers nodes ps all leads bases n x v life is up le lt) = ordered life
ordered {o = o} (Appends nodes now ps all leads bases n x e life is up led same due tallied room c) =
    (puts_clause o nodes ps all leads bases (whole life) n (length x.list) x e is up, ordered life)
ordered {o = o} (Follows nodes now ps all leads bases n x e life is up same sent c) =
    (puts_clause o nodes ps all leads bases (whole life) n (length x.list) x e is up, ordered life)
ordered (Starts nodes now ps all leads bases n x v ms life is quiet born how c) =
    (quiet_again bases all (ordered life) quiet.at, ordered life)
ordered {o = o} (Enters nodes now ps all leads bases n x v ms ss life is quiet up at lt among sent c) =
    let w : Whole o nodes ps all leads bases = whole life in
    entered_ordered bases n x v ms ss (bases v) all (leaves_knows o nodes ps all leads bases w bases n x ss is up (λ m u was. refl) (quiet_again bases all (ordered life) quiet.at) (ordered life) ((w.good.inv.packet (Install v ms ss) sent).sources x.view))
ordered {o = o} (Founds nodes now ps all leads leads' bases bases' n x rs ss b life is quiet ok base set_base set_lead c) =
    let w : Whole o nodes ps all leads bases = whole life in
    entered_ordered bases' n x x.promise (members_of rs) ss b all (leaves_knows o nodes ps all leads bases w bases' n x ss is ok.up (λ m u was. set_base.there u (λ (q : u ≡ x.promise). found_new o nodes ps (kept all) w.log leads n x rs ss is w.good ok m was.0 was.1.0 (subst (λ z. Has (In m was.0 z was.1.0) (kept all)) q was.1.1))) (quiet_again bases all (ordered life) quiet.at) (ordered life) (collected_front o nodes ps all leads bases w n x rs ss ok x.view))
ordered (Names nodes ps all leads leads' bases v n j life was set led may) = ordered life
ordered (Hears nodes ps all more leads bases p v i e life put s is new) =
    subst (Ordered bases) (sym new.is) (ordered_more bases (Heard p v i e s.members s.value) new.older new.newer tt (subst (Ordered bases) new.was (ordered life)))
ordered (Asks nodes ps all leads bases p r x life) = (tt, ordered life)
ordered (Requests nodes ps all leads bases p r x y life is up same asked never untold) = ordered life
ordered (Refuses nodes ps all leads bases v p r life why) = ordered life
ordered (IsTold nodes ps all leads bases p r y life is up same why) = (tt, ordered life)
ordered (Acknowledges nodes ps all leads bases n x k life is le) = ordered life
ordered (Settles nodes ps all leads bases n j v ms k life was acked) = ordered life
