-- What the lines of a group say of its lists.
use Rattle.std.proofs.Common.{◌≡◌, ℕ, List, [], ◌∷◌, ◌++◌, Some, sym, subst, inl, inr}
use Rattle.std.specs.Prelude.{slice_get}
use Rattle.rsct_packet.specs.declared.ids.ViewId.{ViewId}
use Rattle.rsct_packet.specs.Search.{Has}
use Rattle.proposal_core.specs.declared.entry.Entry.{Entry}
use Rattle.node_state.specs.declared.happened.Happened.{Happened}
use Rattle.run_safety.specs.Past.{History, earlier, Within, EachRecord}
use Rattle.run_safety.specs.Sight.{lines_at, lines_with, lines_of}
use Rattle.run_safety.specs.Group.{Origin, Record, In, Put, Begins, Based, Line, Kept, Noted, kept}
use Rattle.run_safety.specs.GroupLists.{WasIn, Rises, InOrder}
use Rattle.run_safety.specs.Bases.{Bases}
use Rattle.run_safety.specs.Moves.{Opening}
use Rattle.run_safety.proofs.Whole.{Whole}
use Rattle.run_safety.proofs.Lives.{whole}
use Rattle.step_refinement.specs.Ghost.{Ghost, Lives}
use Rattle.entry_laws.proofs.closing_rows.Orders.{WasThere, Clause, Ordered, was_on, ordered}

-- what holds of a group's lines, where these are the bases and the whole lists of views
pub record Told (bases : Bases) (log : ViewId → List Entry) (all : List Line) : Type 0 where
  pub in_order : Ordered bases all
  pub rises : Rises (kept all)
  pub places : InOrder (kept all)
  pub puts : (n : ℕ) (v : ViewId) (i : ℕ) (e : Entry) → Has (Put n v i e) (kept all) → slice_get (log v) i ≡ Some e
  pub noted : (n : ℕ) (v : ViewId) (b : Origin) → Has (Noted (Based n v b)) all → bases v ≡ Some b
  pub single : (n j i : ℕ) (v : ViewId) → WasIn (kept all) n j v → WasIn (kept all) n i v → j ≡ i

-- of a life
pub told_of : (o : Opening) (x : Ghost) (l : Lives o x) → Told x.bases (whole l).log x.all
told_of o x l =
    let w : Whole o x.nodes x.ps x.all x.leads x.bases = whole l in
    record {
      in_order = ordered l;
      rises = w.good.inv.rises;
      places = w.good.past.order;
      puts = λ n v i e h. w.good.inv.records (Put n v i e) h;
      noted = w.based_ok.noted;
      single = w.good.past.single;
    }

module _ (bases : Bases) (log : ViewId → List Entry) where
  -- without the latest lines
  less_kept : (r : Record) (all : List Line) → Told bases log (Kept r ∷ all) → Told bases log all
  less_kept r all t =
      record {
        in_order = t.in_order.1;
        rises = rises r t.rises;
        places = places r t.places;
        puts = λ n v i e h. t.puts n v i e (inr h);
        noted = λ n v b h. t.noted n v b (inr h);
        single = λ n j i v a b. t.single n j i v (a.0, inr a.1) (b.0, inr b.1);
      }
    where
      rises : (r : Record) → Rises (r ∷ kept all) → Rises (kept all)
      rises (In n j v ms) k = k.1
      rises (Put n v i e) k = k
      rises Begins k = k

      places : (r : Record) → InOrder (r ∷ kept all) → InOrder (kept all)
      places (In n j v ms) k = k
      places (Put n v i e) k = k.1
      places Begins k = k

  pub less_one : (l : Line) (all : List Line) → Told bases log (l ∷ all) → Told bases log all
  less_one (Kept r) all t = less_kept r all t
  less_one (Noted x) all t =
      record { in_order = t.in_order.1; rises = t.rises; places = t.places; puts = t.puts; noted = λ n v b h. t.noted n v b (inr h); single = t.single }

  pub less_many : (ls : List Line) (all : List Line) → Told bases log (ls ++ all) → Told bases log all
  less_many [] all t = t
  less_many (l ∷ ls) all t = less_many ls all (less_one l (ls ++ all) t)

  module _ (g : List ℕ) where
    pub less_now : (rs : List Happened) (before : History) → Told bases log (lines_with g rs before (lines_of g before)) → Told bases log (lines_of g before)
    less_now [] before t = less_one (Kept Begins) (lines_of g before) t
    less_now (r ∷ rs) before t =
        less_now rs before (less_many (lines_at g (earlier rs before) r) (lines_with g rs before (lines_of g before)) t)

    -- what follows from the lines of a record and those before holds of each record
    module _ (P : List Happened → History → Happened → Type 0) (one : (now : List Happened) (before : History) (r : Happened) → Told bases log (lines_with g (r ∷ now) before (lines_of g before)) → P now before r) where
      pub within_told : (rs : List Happened) (before : History) → Told bases log (lines_with g rs before (lines_of g before)) → Within P rs before
      within_told [] before t = tt
      within_told (r ∷ now) before t =
          (one now before r t, within_told now before (less_many (lines_at g (earlier now before) r) (lines_with g now before (lines_of g before)) t))

      pub each_told : (h : History) → Told bases log (lines_of g h) → EachRecord P h
      each_told [] t = tt
      each_told (e ∷ before) t = (within_told e.records before t, each_told before (less_now e.records before t))

-- what follows from what holds of each record
within_map : (P Q : List Happened → History → Happened → Type 0) (rs : List Happened) (before : History) → ((now : List Happened) (b : History) (r : Happened) → P now b r → Q now b r) → Within P rs before → Within Q rs before
within_map P Q [] before f k = tt
within_map P Q (r ∷ now) before f k = (f now before r k.0, within_map P Q now before f k.1)

pub each_map : (P Q : List Happened → History → Happened → Type 0) (h : History) → ((now : List Happened) (b : History) (r : Happened) → P now b r → Q now b r) → EachRecord P h → EachRecord Q h
each_map P Q [] f k = tt
each_map P Q (e ∷ before) f k = (within_map P Q e.records before f k.0, each_map P Q before f k.1)

-- what holds for each group holds for all
pub within_all : (P : List ℕ → List Happened → History → Happened → Type 0) (rs : List Happened) (before : History) → ((g : List ℕ) → Within (P g) rs before) → Within (λ now b r. (g : List ℕ) → P g now b r) rs before
within_all P [] before k = tt
within_all P (r ∷ now) before k = ((λ g. (k g).0), within_all P now before (λ g. (k g).1))

pub each_all : (P : List ℕ → List Happened → History → Happened → Type 0) (h : History) → ((g : List ℕ) → EachRecord (P g) h) → EachRecord (λ now b r. (g : List ℕ) → P g now b r) h
each_all P [] k = tt
each_all P (e ∷ before) k = (within_all P e.records before (λ g. (k g).0), each_all P before (λ g. (k g).1))

-- ---- who puts or notes something in a view was there

pub put_was : (bases : Bases) (n : ℕ) (v : ViewId) (i : ℕ) (e : Entry) (all : List Line) → Ordered bases all → Has (Put n v i e) (kept all) → WasThere n v all
put_was bases n v i e [] o h = absurd h
put_was bases n v i e (Noted x ∷ older) o h = put_was bases n v i e older o.1 h
put_was bases n v i e (Kept r ∷ older) o (inl q) =
    was_on (Kept r) older n v (subst (λ z. Clause bases (Kept z) older) (sym q) o.0).0
put_was bases n v i e (Kept r ∷ older) o (inr h) = was_on (Kept r) older n v (put_was bases n v i e older o.1 h)

pub note_was : (bases : Bases) (n : ℕ) (v : ViewId) (b : Origin) (all : List Line) → Ordered bases all → Has (Noted (Based n v b)) all → WasThere n v all
note_was bases n v b [] o h = absurd h
note_was bases n v b (l ∷ older) o (inl q) = was_on l older n v (subst (λ z. Clause bases z older) (sym q) o.0)
note_was bases n v b (l ∷ older) o (inr h) = was_on l older n v (note_was bases n v b older o.1 h)
