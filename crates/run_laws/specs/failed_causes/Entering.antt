-- Where bases are noted: a node notes the bases of a view in the event in which it enters the view, directly after that.
use Rattle.std.specs.Prelude.{◌≡◌, ℕ, ◌==◌, ◌&&◌, Bool, true, false, List, [], ◌∷◌}
use Rattle.rsct_packet.specs.declared.ids.ViewId.{ViewId}
use Rattle.rsct_packet.specs.Ids.{same_view}
use Rattle.node_state.specs.declared.config.Config.{Config}
use Rattle.node_state.specs.declared.happened.Happened.{Happened}
use Rattle.node_state.specs.declared.happened.Happened.TheVariants.{In, Base}
use Rattle.run_safety.specs.Past.{History, EachRecord}
use Rattle.step_refinement.specs.Tied.{Scene}
use Rattle.step_refinement.specs.Runs.{Reached}

-- the latest of these records are the node's entering of the view, and its bases of it
abbrev pub just_entered : ℕ → ViewId → List Happened → Bool
just_entered n v [] = false
just_entered n v (In m u ms ∷ rs) = m == n && same_view u v
just_entered n v (Base m u g from len s ∷ rs) = m == n && (same_view u v && just_entered n v rs)
just_entered n v (r ∷ rs) = false

-- before a base, in its event, stands that its node entered the view, and between the two nothing but other bases of both
abbrev pub FollowsEntering : List Happened → Happened → Type 0
FollowsEntering now (Base n v g u len s) = just_entered n v now ≡ true
FollowsEntering now _ = Unit {0}

abbrev pub BasesFollowEntering : History → Type 0
BasesFollowEntering h = EachRecord (λ now before r. FollowsEntering now r) h

-- whatever starts, stops and steps
abbrev pub EachBaseFollows : Type 0
EachBaseFollows = (c : Config) (w : Scene) → Reached c w → BasesFollowEntering w.before
