-- Entries stand one after another and fit what stands before them, over the run's own records.
use Rattle.std.proofs.Common.{◌≡◌, ℕ, List, [], ◌∷◌, ◌++◌, length, take, Some, true, refl, sym, ap, ◌∙◌, subst, inl}
use Rattle.std.specs.Prelude.{slice_get, if◌then◌else◌}
use Rattle.std.specs.Str.{bytes_eq}
use Rattle.rsct_packet.specs.declared.ids.ViewId.{ViewId}
use Rattle.proposal_core.specs.declared.entry.Entry.{Entry}
use Rattle.proposal_core.specs.Fold.{fits}
use Rattle.node_state.specs.declared.happened.Happened.{Happened}
use Rattle.node_state.specs.declared.happened.Happened.TheVariants as happened
use Rattle.run_safety.specs.Past.{History, earlier, EachRecord, puts_of, state_now}
use Rattle.run_safety.specs.Sight.{lines_with, lines_of}
use Rattle.run_safety.specs.SafeLists.{NextPlace, Fitting, Each}
use Rattle.run_safety.specs.Group.{Put, Kept}
use Rattle.run_safety.specs.Bases.{Bases, state_of_list}
use Rattle.run_safety.proofs.Lives.{whole}
use Rattle.node_state.proofs.NameOrder.{text_self}
use Rattle.step_refinement.specs.Tied.{Scene, Rests}
use Rattle.step_refinement.proofs.RunLaw.{reached_rests}
use Rattle.entry_laws.specs.closing_rows.Rows.{PutsAreInOrder, PutsFit}
use Rattle.entry_laws.proofs.closing_rows.Told.{Told, each_told, each_map, each_all}
use Rattle.entry_laws.proofs.closing_rows.Lists.{place_before, now_before}
use Rattle.entry_laws.proofs.closing_rows.Law.{bases_in, logs_in, told_in}

-- of a put of this group: its place, and that its entry fits
record GoesOn (now : List Happened) (before : History) (n : ℕ) (v : ViewId) (g : List ℕ) (i : ℕ) (e : Entry) : Type 0 where
  place : i ≡ length (puts_of n v g (earlier now before))
  fitting : fits (state_now n v g (earlier now before)) e ≡ true

abbrev GoesOnOf : List ℕ → List Happened → History → Happened → Type 0
GoesOnOf g now before (happened.Put n v h i e) = h ≡ g → GoesOn now before n v h i e
GoesOnOf g now before _ = Unit {0}

-- each entry of the whole lists fits
abbrev AllFit : Bases → (ViewId → List Entry) → Type 0
AllFit bases log = (v : ViewId) (i : ℕ) (e : Entry) → slice_get (log v) i ≡ Some e → fits (state_of_list bases v (take i (log v))) e ≡ true

goes_on : (bases : Bases) (log : ViewId → List Entry) → AllFit bases log → (g : List ℕ) (now : List Happened) (before : History) (r : Happened) → Told bases log (lines_with g (r ∷ now) before (lines_of g before)) → GoesOnOf g now before r
goes_on bases log all g now before (happened.Put n v h i e) t = λ (same : h ≡ g). subst (λ z. GoesOn now before n v z i e) (sym same) (at (ap (λ z. bytes_eq z g) same ∙ text_self g))
  where
    at : bytes_eq h g ≡ true → GoesOn now before n v g i e
    at here =
        let k : Told bases log (Kept (Put n v i e) ∷ lines_with g now before (lines_of g before)) = subst (λ b. Told bases log ((if b then Kept (Put n v i e) ∷ [] else []) ++ lines_with g now before (lines_of g before))) here t in
        record {
          place = place_before n v g bases log i e now before k;
          fitting = ap (λ st. fits st e) (now_before n v g bases log i e now before k) ∙ all v i e (k.puts n v i e (inl refl));
        }
goes_on bases log all g now before _ t = tt

next_place : (now : List Happened) (before : History) (r : Happened) → ((g : List ℕ) → GoesOnOf g now before r) → NextPlace (earlier now before) r
next_place now before (happened.Put n v g i e) k = (k g refl).place
next_place now before _ k = tt

fits_there : (now : List Happened) (before : History) (r : Happened) → ((g : List ℕ) → GoesOnOf g now before r) → Fitting (earlier now before) r
fits_there now before (happened.Put n v g i e) k = (k g refl).fitting
fits_there now before _ k = tt

module _ (w : Scene) (rests : (g : List ℕ) → Rests g w) where
  abbrev Every : List Happened → History → Happened → Type 0
  Every now before r = (g : List ℕ) → GoesOnOf g now before r

  all_go_on : EachRecord Every w.before
  all_go_on =
      each_all GoesOnOf w.before (λ g. each_told (bases_in w rests g) (logs_in w rests g) g (GoesOnOf g) (λ now before r t. goes_on (bases_in w rests g) (logs_in w rests g) (whole (rests g).life).tallied.fitting g now before r t) w.before (told_in w rests g))

  in_order : Each NextPlace w.before
  in_order = each_map Every (λ now before r. NextPlace (earlier now before) r) w.before next_place all_go_on

  fitting : Each Fitting w.before
  fitting = each_map Every (λ now before r. Fitting (earlier now before) r) w.before fits_there all_go_on

pub puts_are_in_order : PutsAreInOrder
puts_are_in_order c w k = in_order w (λ g. reached_rests c w k g)

pub puts_fit : PutsFit
puts_fit c w k = fitting w (λ g. reached_rests c w k g)
