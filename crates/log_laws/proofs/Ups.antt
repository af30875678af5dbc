-- In every run a node enters views while it is up, and notes bases of the view that it is in.
use Rattle.std.proofs.Common.{◌≡◌, ◌≢◌, ℕ, ◌+◌, inl, inr, refl, sym, ap, ◌∙◌, subst, true, false, List, [], ◌∷◌, ◌++◌, Option, Some, None, append_assoc}
use Rattle.std.specs.Prelude.{◌==◌, ◌&&◌, map, reverse, if◌then◌else◌}
use Rattle.std.proofs.lemmas.Bool.{and_parts}
use Rattle.rsct_packet.specs.declared.ids.ViewId.{ViewId}
use Rattle.rsct_packet.specs.Ids.{same_view}
use Rattle.rsct_packet.specs.Search.{Has}
use Rattle.rsct_packet.proofs.HasLaws.{has_map, has_reverse}
use Rattle.view_state.proofs.ViewOrder.{same_view_is}
use Rattle.node_state.specs.declared.config.Config.{Config}
use Rattle.node_state.specs.declared.happened.Happened.{Happened}
use Rattle.node_state.specs.declared.happened.Happened.TheVariants as happened
use Rattle.node_state.specs.declared.state.Core.{Core}
use Rattle.node_state.specs.HandOn.{Answering}
use Rattle.node_state.specs.Step.{NodeEvent, own_rings, ring_record, first_view, first_members, started, stepped}
use Rattle.world_model.specs.declared.event.Event.{Event}
use Rattle.run_safety.specs.Past.{History, records_of, Within, view_now}
use Rattle.step_refinement.specs.Tied.{Scene, NodeIs, NodeIsIf}
use Rattle.run_induction.proofs.Ran.{all_start_holds}
use Rattle.step_refinement.specs.Rules.{at_node, ended, starts_too, with_records}
use Rattle.step_refinement.specs.Runs.{IsNote, Reached, Nothing, AllStart, Starts, Stops, Steps, Notes}
use Rattle.step_refinement.proofs.Changed.{each_set}
use Rattle.step_refinement.proofs.RunLaw.{reached_rests}
use Rattle.row_laws.proofs.hearing.Listening.{steps_change}
use Rattle.run_laws.specs.failed_causes.Entering.{just_entered, FollowsEntering, BasesFollowEntering}
use Rattle.run_laws.proofs.failed_causes.Bases.{each_base_follows}
use Rattle.run_laws.proofs.seen_runs.Starting.{start_records}
use Rattle.run_laws.proofs.seen_runs.Steps.{Mine, step_mine}
use Rattle.log_laws.specs.Logs.{is_up, up_after, Upright, AllUpright}
use Rattle.log_laws.proofs.Kept.{if_same, if_other}

-- ---- views are entered by nodes that are up

abbrev EntersUp : List Happened → Happened → Type 0
EntersUp rs (happened.In n v ms) = is_up n rs ≡ true
EntersUp rs _ = Unit {0}

abbrev AllEnterUp : List Happened → Type 0
AllEnterUp [] = Unit {0}
AllEnterUp (r ∷ rs) = EntersUp rs r × AllEnterUp rs

-- more records, by which nobody starts or stops
record Goes (now rs : List Happened) : Type 0 where
  enter : AllEnterUp (now ++ rs)
  same : (m : ℕ) → is_up m (now ++ rs) ≡ is_up m rs

-- those of a node that is up
mine_go : (n : ℕ) (now rs : List Happened) → ((r : Happened) → Has r now → Mine n r) → is_up n rs ≡ true → AllEnterUp rs → Goes now rs
mine_go n [] rs mine up old = record { enter = old; same = λ m. refl }
mine_go n (r ∷ now) rs mine up old =
    let k : Goes now rs = mine_go n now rs (λ q h. mine q (inr h)) up old in
    let x = one r (mine r (inl refl)) (k.same n ∙ up) in
    record { enter = (x.0, k.enter); same = λ m. x.1 m ∙ k.same m }
  where
    one : (r : Happened) → Mine n r → is_up n (now ++ rs) ≡ true → EntersUp (now ++ rs) r × ((m : ℕ) → up_after m r (is_up m (now ++ rs)) ≡ is_up m (now ++ rs))
    one (happened.Up m j) own on = absurd own
    one (happened.Down m) own on = absurd own
    one (happened.In m v ms) own on = (subst (λ i. is_up i (now ++ rs) ≡ true) (sym own) on, λ i. refl)
    one r own on = (tt, λ i. refl)

-- those of what no node does
notes_go : (now rs : List Happened) → ((r : Happened) → Has r now → IsNote r) → AllEnterUp rs → Goes now rs
notes_go [] rs notes old = record { enter = old; same = λ m. refl }
notes_go (r ∷ now) rs notes old =
    let k : Goes now rs = notes_go now rs (λ q h. notes q (inr h)) old in
    let x = one r (notes r (inl refl)) in
    record { enter = (x.0, k.enter); same = λ m. x.1 m ∙ k.same m }
  where
    one : (r : Happened) → IsNote r → EntersUp (now ++ rs) r × ((m : ℕ) → up_after m r (is_up m (now ++ rs)) ≡ is_up m (now ++ rs))
    one (happened.Refused m c f) note = (tt, λ i. refl)
    one (happened.Shown m l) note = (tt, λ i. refl)
    one _ note = absurd note

-- ---- which nodes are up

abbrev UpIf : List Happened → ℕ → Option Core → Type 0
UpIf rs n None = Unit {0}
UpIf rs n (Some s) = is_up n rs ≡ true

up_same : (rs xs : List Happened) (n : ℕ) → is_up n xs ≡ is_up n rs → (o : Option Core) → UpIf rs n o → UpIf xs n o
up_same rs xs n e None up = tt
up_same rs xs n e (Some s) up = e ∙ up

-- each node that has a core is up
record Stand (w : Scene) : Type 0 where
  up : (n : ℕ) → UpIf (records_of w.before) n (w.cores n)
  enter : AllEnterUp (records_of w.before)

module _ (c : Config) (n j : ℕ) (rs : List Happened) (old : AllEnterUp rs) where
  abbrev rings : List Happened
  rings = map (ring_record n) (own_rings c c.mode n j)

  abbrev since : List Happened
  since = happened.In n (first_view c c.mode n j) (first_members c c.mode n j) ∷ reverse rings

  begun_mine : (r : Happened) → Has r since → Mine n r
  unfolding ring_record
  begun_mine r (inl e) = subst (Mine n) (sym e) refl
  begun_mine r (inr h) = let k = has_map (ring_record n) r (own_rings c c.mode n j) (has_reverse r rings h) in subst (Mine n) (sym k.2) tt

  is_on : is_up n (happened.Up n j ∷ rs) ≡ true
  is_on = if_same n n true (is_up n rs) refl

  goes : Goes since (happened.Up n j ∷ rs)
  goes = mine_go n since (happened.Up n j ∷ rs) begun_mine is_on (tt, old)

  -- a node that starts
  begins : AllEnterUp (reverse (started c n j).records ++ rs) × (is_up n (reverse (started c n j).records ++ rs) ≡ true) × ((m : ℕ) → m ≢ n → is_up m (reverse (started c n j).records ++ rs) ≡ is_up m rs)
  begins =
      subst (λ xs. AllEnterUp xs × (is_up n xs ≡ true) × ((m : ℕ) → m ≢ n → is_up m xs ≡ is_up m rs)) (sym (start_records c n j rs [])) (goes.enter, goes.same n ∙ is_on, λ m ne. goes.same m ∙ if_other n m true (is_up m rs) (λ e. ne (sym e)))

-- a node that takes a step
module _ (c : Config) (w : Scene) (k : Reached c w) (n : ℕ) (f : Answering) (s : Core) (e : NodeEvent) (v : Event) (up : w.cores n ≡ Some s) (old : Stand w) where
  step_stands : Stand (ended w n v (stepped f s e))
  step_stands = record {
    up = each_set (λ m o. UpIf (rs ++ records_of w.before) m o) w.cores n (Some (stepped f s e)) (goes_on.same n ∙ here) (λ m ne. up_same (records_of w.before) (rs ++ records_of w.before) m (goes_on.same m) (w.cores m) (old.up m));
    enter = goes_on.enter;
  }
    where
      rs : List Happened
      rs = reverse (stepped f s e).records

      here : is_up n (records_of w.before) ≡ true
      here = subst (UpIf (records_of w.before) n) up (old.up n)

      own : NodeIs (reached_rests c w k []).ghost [] n s × (s.config ≡ w.config) × (s.views.inc ≡ w.incs n)
      own = subst (NodeIsIf w.config (reached_rests c w k []).ghost [] n (w.incs n)) up ((reached_rests c w k []).nodes n)

      mine : (r : Happened) → Has r rs → Mine n r
      mine r h = step_mine f s e n own.0.stands.me (steps_change c w k n s up f e) r (has_reverse r (stepped f s e).records h)

      goes_on : Goes rs (records_of w.before)
      goes_on = mine_go n rs (records_of w.before) mine here old.enter

-- a node that starts in the event that goes on
records_with : (before : History) (rs : List Happened) → records_of (with_records before rs) ≡ reverse rs ++ records_of before
records_with [] rs = refl
records_with (h ∷ before) rs = append_assoc (reverse rs) h.records (records_of before)

starts_standing : (w : Scene) (n : ℕ) → Stand w → Stand (starts_too w n None)
starts_standing w n old =
    let rs : List Happened = (started w.config n (w.incs n + 1)).records in
    let q = begins w.config n (w.incs n + 1) (records_of w.before) old.enter in
    let cores : (m : ℕ) → UpIf (reverse rs ++ records_of w.before) m (at_node w.cores n (Some (started w.config n (w.incs n + 1))) m) =
    each_set (λ m o. UpIf (reverse rs ++ records_of w.before) m o) w.cores n (Some (started w.config n (w.incs n + 1))) q.1 (λ m ne. up_same (records_of w.before) (reverse rs ++ records_of w.before) m (q.2 m ne) (w.cores m) (old.up m)) in
    record {
      up = λ m. subst (λ xs. UpIf xs m (at_node w.cores n (Some (started w.config n (w.incs n + 1))) m)) (sym (records_with w.before rs)) (cores m);
      enter = subst AllEnterUp (sym (records_with w.before rs)) q.0;
    }

stands : (c : Config) (w : Scene) → Reached c w → Stand w
stands c _ Nothing = record { up = λ n. tt; enter = tt }
stands c _ (AllStart fixed) = (all_start_holds c Stand (λ w n k there down old. starts_standing w n old) (record { up = λ n. tt; enter = tt })).1
stands c _ (Starts w n e k real nz down) =
    let old : Stand w = stands c w k in
    let q = begins w.config n (w.incs n + 1) (records_of w.before) old.enter in
    record { up = each_set (λ m o. UpIf (reverse (started w.config n (w.incs n + 1)).records ++ records_of w.before) m o) w.cores n (Some (started w.config n (w.incs n + 1))) q.1 (λ m ne. up_same (records_of w.before) (reverse (started w.config n (w.incs n + 1)).records ++ records_of w.before) m (q.2 m ne) (w.cores m) (old.up m)); enter = q.0 }
stands c _ (Stops w n e s k up) =
    let old : Stand w = stands c w k in
    record { up = each_set (λ m o. UpIf (happened.Down n ∷ records_of w.before) m o) w.cores n None tt (λ m ne. up_same (records_of w.before) (happened.Down n ∷ records_of w.before) m (if_other n m false (is_up m (records_of w.before)) (λ e. ne (sym e))) (w.cores m) (old.up m)); enter = (tt, old.enter) }
stands c _ (Steps w n f s e v k up arises) = step_stands c w k n f s e v up (stands c w k)
stands c _ (Notes w e rs k notes) =
    let old : Stand w = stands c w k in
    let q : Goes (reverse rs) (records_of w.before) = notes_go (reverse rs) (records_of w.before) (λ r h. notes r (has_reverse r rs h)) old.enter in
    record { up = λ m. up_same (records_of w.before) (reverse rs ++ records_of w.before) m (q.same m) (w.cores m) (old.up m); enter = q.enter }

-- ---- bases are noted in their view

in_its_view : (n : ℕ) (v : ViewId) (now xs : List Happened) → just_entered n v now ≡ true → view_now n (now ++ xs) ≡ Some v
in_its_view n v [] xs q = absurd (cc)
in_its_view n v (happened.In m u ms ∷ now) xs q =
    let x = and_parts (m == n) (same_view u v) q in
    ap (λ b. if b then Some u else view_now n (now ++ xs)) x.0 ∙ ap (λ z. Some z) (same_view_is u v x.1)
in_its_view n v (happened.Base m u h old len s ∷ now) xs q =
    let x = and_parts (m == n) (same_view u v && just_entered n v now) q in
    let y = and_parts (same_view u v) (just_entered n v now) x.1 in
    in_its_view n v now xs y.1
in_its_view n v (_ ∷ now) xs q = absurd (cc)

upright_now : (now : List Happened) (before : History) → Within (λ now before r. FollowsEntering now r) now before → AllEnterUp (now ++ records_of before) → AllUpright (records_of before) → AllUpright (now ++ records_of before)
upright_now [] before follows enter old = old
upright_now (r ∷ now) before follows enter old = (one r follows.0 enter.0, upright_now now before follows.1 enter.1 old)
  where
    one : (r : Happened) → FollowsEntering now r → EntersUp (now ++ records_of before) r → Upright (now ++ records_of before) r
    one (happened.In n v ms) follows enter = enter
    one (happened.Base n v g old len s) follows enter = in_its_view n v now (records_of before) follows
    one _ follows enter = tt

enter_before : (now rs : List Happened) → AllEnterUp (now ++ rs) → AllEnterUp rs
enter_before [] rs enter = enter
enter_before (r ∷ now) rs enter = enter_before now rs enter.1

upright_all : (h : History) → BasesFollowEntering h → AllEnterUp (records_of h) → AllUpright (records_of h)
upright_all [] follows enter = tt
upright_all (e ∷ before) follows enter =
    upright_now e.records before follows.0 enter (upright_all before follows.1 (enter_before e.records (records_of before) enter))

pub runs_upright : (c : Config) (w : Scene) → Reached c w → AllUpright (records_of w.before)
runs_upright c w k = upright_all w.before (each_base_follows c w k) (stands c w k).enter
