-- Who is gone without a goodbye: it stands in the base of the view, and did not pass into it.
use Rattle.std.specs.Prelude.{◌≡◌, ℕ, ◌==◌, ◌&&◌, Bool, true, false, List, [], ◌∷◌, ◌++◌}
use Rattle.std.specs.List.{list_any}
use Rattle.std.specs.Str.{bytes_eq}
use Rattle.rsct_packet.specs.declared.ids.ViewId.{ViewId}
use Rattle.rsct_packet.specs.declared.ids.ProviderId.{ProviderId}
use Rattle.rsct_packet.specs.Ids.{same_view}
use Rattle.rsct_packet.specs.Providers.{among}
use Rattle.rsct_packet.specs.Search.{Has}
use Rattle.proposal_core.specs.declared.entry.Entry.{Entry}
use Rattle.proposal_core.specs.Fold.{present}
use Rattle.node_state.specs.declared.config.Config.{Config}
use Rattle.node_state.specs.declared.happened.Happened.{Happened}
use Rattle.node_state.specs.declared.happened.Happened.TheVariants.{Base, Put}
use Rattle.run_safety.specs.Past.{records_of, earlier, inc_now, EachRecord}
use Rattle.run_safety.specs.Stays.{Stay, stays, is_join_of, part, passes}
use Rattle.step_refinement.specs.Tied.{Scene}
use Rattle.step_refinement.specs.Runs.{Reached}
use Rattle.row_laws.specs.failed_rows.Failures.{StoodThere}

-- the provider's own node puts an entry of the group that names it in a join
abbrev pub puts_join : ProviderId → List ℕ → Happened → Bool
puts_join p g (Put m v h i e) = m == p.node && (bytes_eq h g && is_join_of p e)
puts_join p g _ = false

-- At some moment its own node was in the view, and by that node's records it is a member or a running joiner of the base there,
-- and it did not pass into the view as the node entered it. No entry that any node puts into the view's list, at any time of the
-- run, names it in a join; nor does one that its own node puts into any list of the group from that moment on.
pub record DidNotPass (run rs : List Happened) (v : ViewId) (g : List ℕ) (p : ProviderId) : Type 0 where
  pub newer : List Happened
  pub older : List Happened
  pub moment : rs ≡ newer ++ older
  pub stay : Stay
  pub rest : List Stay
  pub stays_so : stays p.node g older ≡ stay ∷ rest
  pub view : stay.view ≡ v
  pub of_base : among (present stay.base) p ≡ true
  pub apart : passes p stay.base (part p rest) ≡ false
  pub unnamed : (n i : ℕ) (e : Entry) → Has (Put n v g i e) run → is_join_of p e ≡ false
  pub later : list_any (puts_join p g) newer ≡ false

-- whatever starts, stops and steps: who stood there although it was over did not pass
abbrev pub WhoIsOverDidNotPass : Type 0
WhoIsOverDidNotPass =
    (c : Config) (w : Scene) → Reached c w → (v : ViewId) (g : List ℕ) (p : ProviderId) → StoodThere (records_of w.before) v g p → DidNotPass (records_of w.before) (records_of w.before) v g p

-- ---- bases come first

abbrev pub latest_entries : List Stay → List Entry
latest_entries [] = []
latest_entries (x ∷ older) = x.entries

-- where a node notes a base, it put nothing of the group since it entered the view
abbrev pub BaseFirst : List Happened → Happened → Type 0
BaseFirst rs (Base n v g u len s) = latest_entries (stays n g rs) ≡ []
BaseFirst rs _ = Unit {0}

abbrev pub BasesComeFirst : Type 0
BasesComeFirst = (c : Config) (w : Scene) → Reached c w → EachRecord (λ now before r. BaseFirst (earlier now before) r) w.before

-- ---- bases from elsewhere

-- where a node notes a base from another view than the one that it was in before, whoever is there of the node, in its incarnation,
-- is on the base's failed list
abbrev pub ElsewhereFails : List Happened → Happened → Type 0
ElsewhereFails rs (Base n v g u len s) =
    (x last : Stay) (older : List Stay) → stays n g rs ≡ x ∷ last ∷ older → same_view u last.view ≡ false → (p : ProviderId) → p.node ≡ n → inc_now n rs ≡ p.inc → Has p (present s) → among s.failed p ≡ true
ElsewhereFails rs _ = Unit {0}

abbrev pub BasesFromElsewhereFail : Type 0
BasesFromElsewhereFail = (c : Config) (w : Scene) → Reached c w → EachRecord (λ now before r. ElsewhereFails (earlier now before) r) w.before
