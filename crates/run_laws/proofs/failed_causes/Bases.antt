-- A node notes bases directly after it enters the view, in the same event; so it put nothing of their groups since then.
use Rattle.std.proofs.Common.{◌≡◌, ℕ, List, [], ◌∷◌, Bool, true, false, refl, sym, ap, ◌∙◌, subst, arith}
use Rattle.std.specs.Prelude.{◌==◌, ◌&&◌, reverse, map, if◌then◌else◌}
use Rattle.std.specs.Str.{bytes_eq}
use Rattle.std.proofs.lemmas.Bool.{eq-eqb}
use Rattle.std.proofs.lemmas.Bool.Decides.{nat_tests}
use Rattle.rsct_packet.specs.declared.ids.ViewId.{ViewId}
use Rattle.rsct_packet.specs.declared.ids.Member.{Member}
use Rattle.rsct_packet.specs.Ids.{same_view}
use Rattle.proposal_core.specs.declared.group_state.GroupState.{GroupState}
use Rattle.proposal_core.specs.Fold.{empty_state}
use Rattle.view_state.specs.declared.install.Base.{Base}
use Rattle.view_state.specs.Bases.{bases_of}
use Rattle.node_state.specs.declared.config.Config.{Config}
use Rattle.node_state.specs.declared.happened.Happened.{Happened}
use Rattle.node_state.specs.declared.happened.Happened.TheVariants as happened
use Rattle.node_state.specs.declared.state.Core.{Core}
use Rattle.node_state.specs.State.{with_row, recorded, recorded_all, with_sessions}
use Rattle.node_state.specs.Leading.{put}
use Rattle.node_state.specs.Step.{stepped, at_work}
use Rattle.run_safety.specs.Past.{History, EachRecord, Within, earlier}
use Rattle.run_safety.specs.Stays.{Stay, stays, with_base}
use Rattle.step_refinement.specs.Tied.{Scene}
use Rattle.step_refinement.specs.Runs.{Reached}
use Rattle.step_refinement.proofs.BaseOrder.{base_noted}
use Rattle.row_laws.specs.hearing.Changes.{Does, Stays, Then, Records, Hands, Loses, Joins, Votes, Enters}
use Rattle.row_laws.proofs.hearing.Attending.{pushed}
use Rattle.row_laws.proofs.hearing.Listening.{steps_change}
use Rattle.entry_laws.proofs.closing_rows.Told.{each_map}
use Rattle.run_laws.proofs.failed_causes.Records.{NoBase, inner_none, turned_none, hands_none, each_scene, enters_none}
use Rattle.run_laws.specs.failed_causes.Passed.{latest_entries, BaseFirst, BasesComeFirst}
use Rattle.run_laws.specs.failed_causes.Entering.{just_entered, FollowsEntering, EachBaseFollows}

abbrev pub First : List Happened → History → Happened → Type 0
First now before r = BaseFirst (earlier now before) r × FollowsEntering now r

none_first : (r : Happened) (now : List Happened) (before : History) → NoBase r → First now before r
none_first (happened.Base n v g u len s) now before a = absurd a
none_first _ now before a = (tt, tt)

pub view_self : (a b : ViewId) → a ≡ b → same_view a b ≡ true
view_self a b e = subst (λ z. same_view a z ≡ true) e (self a)
  where
    self : (a : ViewId) → same_view a a ≡ true
    self a = grind (arith, nat_tests)

-- ---- a view is entered

with_latest : (s : GroupState) (xs : List Stay) → latest_entries (with_base s xs) ≡ latest_entries xs
with_latest s [] = refl
with_latest s (x ∷ older) = refl

module _ (n : ℕ) (v : ViewId) (before : History) where
  based_first : (bs : List Base) (now : List Happened) → ((g : List ℕ) → latest_entries (stays n g (earlier now before)) ≡ []) → just_entered n v now ≡ true → Within First now before → Within First (pushed (map (base_noted n v) bs) now) before
  based_first [] now none just k = k
  based_first (b ∷ bs) now none just k =
      based_first bs (base_noted n v b ∷ now) (λ g. by g (n == n && bytes_eq b.name g)) (λ i. eq-eqb n n refl i && (view_self v v refl i && just i)) ((none b.name, just), k)
    where
      by : (g : List ℕ) (t : Bool) → latest_entries (if t then with_base b.state (stays n g (earlier now before)) else stays n g (earlier now before)) ≡ []
      by g true = with_latest b.state (stays n g (earlier now before)) ∙ none g
      by g false = none g

  entered_none : (ms : List Member) (now : List Happened) (g : List ℕ) → latest_entries (stays n g (earlier (happened.In n v ms ∷ now) before)) ≡ []
  entered_none ms now g =
      ap (λ b. latest_entries (if b then record { view = v; base = empty_state; entries = [] } ∷ stays n g (earlier now before) else stays n g (earlier now before))) (eq-eqb n n refl)

-- ---- every change

does_first : (before : History) (s t : Core) → Does s t → Within First (reverse s.records) before → Within First (reverse t.records) before
unfolding recorded with_sessions put recorded_all with_row
does_first before _ _ (Stays s t same) k = subst (λ z. Within First (reverse z) before) (sym same.records) k
does_first before _ _ (Then s t u a b) k = does_first before t u b (does_first before s t a k)
does_first before _ _ (Records s r a) k = turned_none First none_first before s.records r (inner_none r a) k
does_first before _ _ (Hands s c h e bs o same) k = hands_none First none_first before s c h e bs same k
does_first before _ _ (Loses s t f) k = k
does_first before _ _ (Joins s t g instance attrs none) k = k
does_first before _ _ (Votes s x o b found opened unkept) k = turned_none First none_first before s.records (happened.Cast x.provider o.proto o.phase b.vote b.value b.message) tt k
does_first before _ _ (Enters s i lt none) k =
    enters_none First none_first before s i (based_first s.views.me i.view before (bases_of i) (happened.In s.views.me i.view i.members ∷ reverse s.records) (entered_none s.views.me i.view before i.members (reverse s.records)) (λ j. eq-eqb s.views.me s.views.me refl j && view_self i.view i.view refl j) ((tt, tt), k))

-- ---- every scene

pub bases_follow : (c : Config) (w : Scene) → Reached c w → EachRecord First w.before
bases_follow c w k =
    each_scene First none_first c (λ w n f s e v k up arises. does_first w.before (at_work s) (stepped f s e) (steps_change c w k n s up f e) tt) w k

pub bases_come_first : BasesComeFirst
bases_come_first c w k = each_map First (λ now before r. BaseFirst (earlier now before) r) w.before (λ now before r b. b.0) (bases_follow c w k)

pub each_base_follows : EachBaseFollows
each_base_follows c w k = each_map First (λ now before r. FollowsEntering now r) w.before (λ now before r b. b.1) (bases_follow c w k)
