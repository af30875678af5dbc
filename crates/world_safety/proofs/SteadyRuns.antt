-- In every run each record stands where it has to, by laws of runs.
use Rattle.std.proofs.Common.{◌≡◌, ℕ, List, [], ◌∷◌, ◌++◌, Some, Bool, true, false, refl, sym, ap, ◌∙◌, subst, inl, inr}
use Rattle.std.specs.Prelude.{◌==◌, ◌&&◌, map, reverse, if◌then◌else◌}
use Rattle.std.specs.Str.{bytes_eq}
use Rattle.std.proofs.lemmas.Bool.{eqb-true, and_parts}
use Rattle.std.proofs.lemmas.Grind.{flat_map-append}
use Rattle.std.proofs.lemmas.List.{reverse-append, append-nil}
use Rattle.rsct_packet.specs.declared.ids.ViewId.{ViewId}
use Rattle.rsct_packet.specs.Ids.{same_view}
use Rattle.rsct_packet.specs.Search.{Has}
use Rattle.proposal_core.specs.declared.entry.Entry.{Entry}
use Rattle.proposal_core.specs.Fold.{empty_state}
use Rattle.view_state.proofs.ViewOrder.{same_view_is}
use Rattle.node_state.specs.declared.config.Config.{Config}
use Rattle.node_state.specs.declared.happened.Happened.{Happened}
use Rattle.node_state.specs.declared.happened.Happened.TheVariants as happened
use Rattle.world_model.specs.Run.{Happening, Run, trace_of}
use Rattle.run_safety.specs.Past.{History, records_of, earlier, Within, EachRecord, view_now, is_list, puts_of, base_of, turned, history_of}
use Rattle.run_safety.specs.Sight.{lines_with, lines_of}
use Rattle.run_safety.specs.Bases.{Bases}
use Rattle.run_safety.specs.SafeHeard.{latest_put}
use Rattle.step_refinement.specs.Tied.{Scene, Rests}
use Rattle.step_refinement.specs.Runs.{Reached}
use Rattle.step_refinement.proofs.RunLaw.{reached_rests}
use Rattle.row_laws.specs.hearing.Hearing.{AtPut}
use Rattle.entry_laws.proofs.closing_rows.Told.{Told, each_told, each_all}
use Rattle.entry_laws.proofs.closing_rows.Lists.{fresh_before}
use Rattle.entry_laws.proofs.closing_rows.Law.{bases_in, logs_in, told_in}
use Rattle.run_laws.specs.seen_runs.Seen.{SeenAt, Seen}
use Rattle.run_laws.proofs.seen_runs.Law.{traces_seen, seen_after}
use Rattle.run_laws.proofs.seen_runs.Steps.{Mine}
use Rattle.run_laws.specs.failed_causes.Entering.{just_entered, FollowsEntering}
use Rattle.run_laws.proofs.failed_causes.Bases.{each_base_follows}
use Rattle.world_safety.proofs.Steady.{Steady, AllSteady, Own}

-- ---- all records of a history

pub history_records : (run : Run) → records_of (history_of run) ≡ reverse (trace_of run)
history_records [] = refl
history_records (h ∷ run) =
    ap records_of (reverse-append (turned h ∷ []) (map turned run)) ∙ (flat_map-append (λ (e : Happening). e.records) (reverse (map turned run)) (turned h ∷ []) ∙ ((λ i. history_records run i ++ append-nil (reverse h.records) i) ∙ sym (reverse-append h.records (trace_of run))))

-- ---- views that are entered

-- a node has nothing of a group in a view that it enters
abbrev BareOf : List ℕ → List Happened → History → Happened → Type 0
BareOf g now before (happened.In n v ms) = (puts_of n v g (earlier now before) ≡ []) × (base_of n v g (earlier now before) ≡ empty_state)
BareOf g now before _ = Unit {0}

bare_one : (bases : Bases) (log : ViewId → List Entry) (g : List ℕ) (now : List Happened) (before : History) (r : Happened) → Told bases log (lines_with g (r ∷ now) before (lines_of g before)) → BareOf g now before r
bare_one bases log g now before (happened.In n v ms) t = fresh_before n v g bases log _ ms now before t
bare_one bases log g now before _ t = tt

abbrev Bare : List Happened → History → Happened → Type 0
Bare now before r = (g : List ℕ) → BareOf g now before r

bares : (c : Config) (w : Scene) → Reached c w → EachRecord Bare w.before
bares c w k =
    let rests : (g : List ℕ) → Rests g w = λ g. reached_rests c w k g in
    each_all BareOf w.before (λ g. each_told (bases_in w rests g) (logs_in w rests g) g (BareOf g) (bare_one (bases_in w rests g) (logs_in w rests g) g) w.before (told_in w rests g))

-- so it has none of the view that it has just entered, where it notes its bases
record JustIn (n : ℕ) (v : ViewId) (g : List ℕ) (now : List Happened) (before : History) : Type 0 where
  view : view_now n (earlier now before) ≡ Some v
  bare : puts_of n v g (earlier now before) ≡ []

just_in : (n : ℕ) (v : ViewId) (g : List ℕ) (now : List Happened) (before : History) → Within Bare now before → just_entered n v now ≡ true → JustIn n v g now before
just_in n v g [] before k q = absurd (cc)
just_in n v g (happened.In m u ms ∷ now) before k q =
    let x = and_parts (m == n) (same_view u v) q in
    let node : m ≡ n = eqb-true m n x.0 in
    let view : u ≡ v = same_view_is u v x.1 in
    record {
      view = ap (λ b. if b then Some u else view_now n (earlier now before)) x.0 ∙ ap (λ z. Some z) view;
      bare = (λ j. puts_of (sym node j) (sym view j) g (earlier now before)) ∙ (k.0 g).0;
    }
just_in n v g (happened.Base m u h old len s ∷ now) before k q =
    let x = and_parts (m == n) (same_view u v && just_entered n v now) q in
    let y = and_parts (same_view u v) (just_entered n v now) x.1 in
    let j : JustIn n v g now before = just_in n v g now before k.1 y.1 in
    record { view = j.view; bare = j.bare }
just_in n v g (_ ∷ now) before k q = absurd (cc)

-- ---- each record

abbrev Follows : List Happened → History → Happened → Type 0
Follows now before r = FollowsEntering now r

steady_one : (r : Happened) (now : List Happened) (before : History) → Bare now before r → Within Bare now before → FollowsEntering now r → SeenAt (earlier now before) r → Steady (earlier now before) r
steady_one (happened.In n v ms) now before bare bares follows seen = bare
steady_one (happened.Base n v g old len s) now before bare bares follows seen = let j : JustIn n v g now before = just_in n v g now before bares follows in (j.view, j.bare)
steady_one (happened.Put n v g i e) now before bare bares follows seen = (seen.in_view, seen.place)
steady_one (happened.Heard p v g i e ms value) now before bare bares follows seen = (seen.heard.2.0, seen.heard.0)
steady_one _ now before bare bares follows seen = tt

steady_within : (now : List Happened) (before : History) → Within Bare now before → Within Follows now before → Seen (earlier now before) → AllSteady (records_of before) → AllSteady (earlier now before)
steady_within [] before bares follows seen old = old
steady_within (r ∷ now) before bares follows seen old = (steady_one r now before bares.0 bares.1 follows.0 seen.0, steady_within now before bares.1 follows.1 seen.1 old)

steady_all : (h : History) → EachRecord Bare h → EachRecord Follows h → Seen (records_of h) → AllSteady (records_of h)
steady_all [] bares follows seen = tt
steady_all (e ∷ before) bares follows seen =
    steady_within e.records before bares.0 follows.0 seen (steady_all before bares.1 follows.1 (seen_after e.records (records_of before) seen))

pub runs_steady : (c : Config) (w : Scene) → Reached c w → AllSteady (records_of w.before)
runs_steady c w k = steady_all w.before (bares c w k) (each_base_follows c w k) (traces_seen c w k)

-- ---- the records of a step

-- what a provider hears its own node put last, in the same step
latest_own : (n m : ℕ) (v : ViewId) (g : List ℕ) (i : ℕ) (e : Entry) (now : List Happened) → ((r : Happened) → Has r now → Mine n r) → latest_put m v g now ≡ Some (i, e) → m ≡ n
latest_own n m v g i e [] mine q = absurd (cc)
latest_own n m v g i e (r ∷ now) mine q = by r (mine r (inl refl)) q (latest_own n m v g i e now (λ x h. mine x (inr h)))
  where
    by : (r : Happened) → Mine n r → latest_put m v g (r ∷ now) ≡ Some (i, e) → (latest_put m v g now ≡ Some (i, e) → m ≡ n) → m ≡ n
    by (happened.Put k u h j f) own q old = at (is_list m v g k u h) refl q
      where
        at : (b : Bool) → is_list m v g k u h ≡ b → (if b then Some (j, f) else latest_put m v g now) ≡ Some (i, e) → m ≡ n
        at false t q = old q
        at true t q = sym (eqb-true k m (and_parts (k == m) (same_view u v && bytes_eq h g) t).0) ∙ own
    by _ own q old = old q

own_one : (n : ℕ) (r : Happened) (now : List Happened) (before : History) → ((x : Happened) → Has x now → Mine n x) → Mine n r → AtPut now before r → Own n r
own_one n (happened.Heard p v g i e ms value) now before mine own put = latest_own n p.node v g i e now mine put.0
own_one n _ now before mine own put = own

pub step_own : (n : ℕ) (now : List Happened) (before : History) → ((r : Happened) → Has r now → Mine n r) → Within AtPut now before → (r : Happened) → Has r now → Own n r
step_own n [] before mine puts r h = absurd h
step_own n (x ∷ now) before mine puts r (inl e) = subst (Own n) (sym e) (own_one n x now before (λ y h. mine y (inr h)) (mine x (inl refl)) puts.0)
step_own n (x ∷ now) before mine puts r (inr h) = step_own n now before (λ y i. mine y (inr i)) puts.1 r h
