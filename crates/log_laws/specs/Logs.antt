-- What the logs of daemons have of a run's records, the latest first. A node that skips an incarnation has a life in it in which it does
-- nothing: it starts, its rings are set, it enters the view of itself alone, and it is down. No daemon lives that life, so no log has
-- it; nor does a log say that a node goes down, since its daemon is gone by then.
use Rattle.std.specs.Prelude.{ℕ, ◌≡◌, ◌<◌, ◌==◌, ◌⊎◌, Bool, true, false, List, [], ◌∷◌, Some, if◌then◌else◌}
use Rattle.rsct_packet.specs.declared.ids.Member.{Member}
use Rattle.rsct_packet.specs.declared.ids.ViewId.{ViewId}
use Rattle.rsct_packet.specs.Search.{Has}
use Rattle.proposal_core.specs.declared.entry.Entry.{Entry}
use Rattle.proposal_core.specs.declared.group_state.GroupState.{GroupState}
use Rattle.node_state.specs.declared.happened.Happened.{Happened}
use Rattle.node_state.specs.declared.happened.Happened.TheVariants.{Up, Down, Ring, In, Base, Put}
use Rattle.run_safety.specs.Past.{view_now, inc_now}

-- ---- which nodes are up

-- the node started since it went down last
abbrev pub up_after : ℕ → Happened → Bool → Bool
up_after n (Up m j) old = if m == n then true else old
up_after n (Down m) old = if m == n then false else old
up_after n _ old = old

abbrev pub is_up : ℕ → List Happened → Bool
is_up n [] = false
is_up n (r ∷ rs) = up_after n r (is_up n rs)

-- ---- logs

-- each node that is up lives in the incarnation that it has by the logs: its life is one that they have
abbrev pub LivesAreLogged : List Happened → List Happened → Type 0
LivesAreLogged rs ls = (n : ℕ) → is_up n rs ≡ true → inc_now n rs ≡ inc_now n ls

-- A record that logs leave out: that a node starts, in a later incarnation than it has by the logs; that it then enters the view of
-- itself alone; a ring; and that a node goes down.
abbrev pub IsLeftOut : List Happened → List Happened → Happened → Type 0
IsLeftOut rs ls (Up n j) = inc_now n ls < j
IsLeftOut rs ls (Down n) = Unit {0}
IsLeftOut rs ls (Ring n network id ms b) = Unit {0}
IsLeftOut rs ls (In n v ms) = (inc_now n ls < inc_now n rs) × (ms ≡ record { node = n; inc = inc_now n rs } ∷ [])
IsLeftOut rs ls _ = ⊥

-- The logs have these of the records. Where they have a record, no node is in a life that they leave out.
pub data Logs : List Happened → List Happened → Type 0 where
  Nothing : Logs [] []
  Writes : (r : Happened) (rs ls : List Happened) → Logs rs ls → LivesAreLogged rs ls → Logs (r ∷ rs) (r ∷ ls)
  LeavesOut : (r : Happened) (rs ls : List Happened) → Logs rs ls → IsLeftOut rs ls r → Logs (r ∷ rs) ls

-- ---- what holds of the records of every run

-- a node enters views while it is up, and notes bases of the view that it is in
abbrev pub Upright : List Happened → Happened → Type 0
Upright rs (In n v ms) = is_up n rs ≡ true
Upright rs (Base n v g u len s) = view_now n rs ≡ Some v
Upright rs _ = Unit {0}

abbrev pub AllUpright : List Happened → Type 0
AllUpright [] = Unit {0}
AllUpright (r ∷ rs) = Upright rs r × AllUpright rs

-- some node put an entry into the view's list of the group
pub record PutThere (rs : List Happened) (v : ViewId) (g : List ℕ) : Type 0 where
  pub node : ℕ
  pub place : ℕ
  pub entry : Entry
  pub there : Has (Put node v g place entry) rs

-- the node noted a base of the group in the view
pub record BaseThere (rs : List Happened) (n : ℕ) (v : ViewId) (g : List ℕ) : Type 0 where
  pub old : ViewId
  pub len : ℕ
  pub state : GroupState
  pub there : Has (Base n v g old len state) rs

-- the group was in the view: an entry was put there, or each node that entered it noted a base
abbrev pub HadGroup : List Happened → ViewId → List ℕ → Type 0
HadGroup rs v g = PutThere rs v g ⊎ ((n : ℕ) (ms : List Member) → Has (In n v ms) rs → BaseThere rs n v g)

-- each base comes from a view in which its group was
abbrev pub BasesComeFromGroups : List Happened → Type 0
BasesComeFromGroups rs =
    (n : ℕ) (v : ViewId) (g : List ℕ) (u : ViewId) (len : ℕ) (s : GroupState) → Has (Base n v g u len s) rs → HadGroup rs u g
