-- What the records of a safe run show by themselves, one after another: what holds of each record and of those before it, the
-- latest first. It asks for no events, so a transcript alone tells it. What is shown of rings stands in Rings.
use Rattle.std.specs.Prelude.{ℕ, ◌≡◌, ◌⊎◌, ◌<◌, ◌≤◌, Bool, false, not, ◌==◌, ◌&&◌, List, [], ◌∷◌, filter, length, take, Option, Some, None, if◌then◌else◌}
use Rattle.rsct_packet.specs.declared.ids.Member.{Member}
use Rattle.rsct_packet.specs.declared.ids.ProviderId.{ProviderId}
use Rattle.rsct_packet.specs.declared.ids.ViewId.{ViewId}
use Rattle.rsct_packet.specs.Ids.{same_view, view_lt, is_member}
use Rattle.rsct_packet.specs.Search.{Has}
use Rattle.proposal_core.specs.declared.entry.Entry.{Entry}
use Rattle.proposal_core.specs.declared.proposal.Proposal.{Proposal}
use Rattle.proposal_core.specs.declared.group_state.GroupState.{GroupState}
use Rattle.proposal_core.specs.Fold.{present}
use Rattle.node_state.specs.declared.happened.Happened.{Happened}
use Rattle.node_state.specs.declared.happened.Happened.TheVariants.{Up, In, Base, Put, Heard, Asked, Told}
use Rattle.run_safety.specs.Past.{inc_now, puts_of, base_of, fold_from, state_at}
use Rattle.run_safety.specs.Sight.{inc_in}
use Rattle.run_safety.specs.ViewOrder.{Lt}
use Rattle.run_safety.specs.SafeLists.{NextPlace, InItsView, Fitting, Rising, AmongMembers}
use Rattle.run_safety.specs.Requests.{carried, Meets}
use Rattle.run_safety.specs.Tallies.{IsTallied}
use Rattle.run_safety.specs.SafeHeard.{latest_put, InOrder, HeardState}
use Rattle.row_laws.specs.hearing.Hearing.{last_heard}
use Rattle.row_laws.specs.honest_votes.Casts.{EntryCast}
use Rattle.entry_laws.specs.closing_rows.Rows.{HasRows}
use Rattle.provider_laws.specs.attending.Places.{IsNext, IsUp}
use Rattle.provider_laws.specs.single_casts.Single.{CastAfterNotice, NotCastBefore}

-- ---- nodes and views

-- a node starts in a greater incarnation than before
abbrev pub StartsLater : List Happened → Happened → Type 0
StartsLater rs (Up n j) = (k : ℕ) → Has (Up n k) rs → k < j
StartsLater rs _ = Unit {0}

-- the views that a node enters in one incarnation rise, whatever stopped it in between
abbrev pub RisesSeen : List Happened → Happened → Type 0
RisesSeen rs (In n v ms) = (u : ViewId) (ns : List Member) → Has (In n u ns) rs → inc_in n ns ≡ inc_in n ms → Lt u v
RisesSeen rs _ = Unit {0}

-- a node that enters a view has started, and stands among the members in the incarnation of its last start
abbrev pub StartedSeen : List Happened → Happened → Type 0
StartedSeen rs (In n v ms) = (0 < inc_now n rs) × (inc_in n ms ≡ inc_now n rs)
StartedSeen rs _ = Unit {0}

-- all who enter a view name the same members
abbrev pub SameSeen : List Happened → Happened → Type 0
SameSeen rs (In n v ms) = (m : ℕ) (ns : List Member) → Has (In m v ns) rs → ns ≡ ms
SameSeen rs _ = Unit {0}

-- the greater of two views
abbrev pub greater : ViewId → Option ViewId → ViewId
greater u None = u
greater u (Some t) = if view_lt t u then u else t

-- where a node came from into v: the greatest view less than v that it entered in this incarnation
abbrev pub from_after : ℕ → ℕ → ViewId → Happened → Option ViewId → Option ViewId
from_after m j v (In n u ms) old = if n == m && (inc_in m ms == j && view_lt u v) then Some (greater u old) else old
from_after m j v _ old = old

abbrev pub from_of : ℕ → ℕ → ViewId → List Happened → Option ViewId
from_of m j v [] = None
from_of m j v (r ∷ rs) = from_after m j v r (from_of m j v rs)

-- who enters a view leaves the one before with the same lists as each who came from there
abbrev pub LeavesTogether : List Happened → Happened → Type 0
LeavesTogether rs (In n w ms) =
    (m : ℕ) (v : ViewId) (g : List ℕ) → Has (In m w ms) rs → from_of m (inc_in m ms) w rs ≡ Some v → from_of n (inc_in n ms) w rs ≡ Some v → puts_of n v g rs ≡ puts_of m v g rs
LeavesTogether rs _ = Unit {0}

-- ---- bases

abbrev pub is_from : ViewId → Option ViewId → Bool
is_from u None = false
is_from u (Some t) = same_view t u

-- a provider lives where its node is a member in its incarnation, and came from the old view
abbrev pub lives : List Happened → ViewId → List Member → ViewId → ProviderId → Bool
lives rs v ms u p = is_member ms p.node p.inc && is_from u (from_of p.node p.inc v rs)

abbrev pub marked : List Happened → ViewId → List Member → ViewId → GroupState → GroupState
marked rs v ms u s = record s { failed = filter (λ p. not (lives rs v ms u p)) (present s) }

-- the old view is one that a member came from, the list there reaches the length, and the state is its fold there, whose
-- failed are those that do not live
pub record CutFrom (rs : List Happened) (v : ViewId) (ms : List Member) (g : List ℕ) (u : ViewId) (len : ℕ) (s : GroupState) : Type 0 where
  pub from : (x : Member) × Has x ms × (from_of x.node x.inc v rs ≡ Some u)
  pub node : ℕ
  pub reaches : len ≤ length (puts_of node u g rs)
  pub knows : (m : ℕ) (t : ViewId) (k : ℕ) (x : GroupState) → Has (Base m u g t k x) rs → Has (Base node u g t k x) rs
  pub state : s ≡ marked rs v ms u (fold_from u (base_of node u g rs) 0 (take len (puts_of node u g rs)))

-- a base is of a view that the node entered, with these members, and it is the same for all nodes
pub record BaseSeenAt (rs : List Happened) (n : ℕ) (v : ViewId) (g : List ℕ) (u : ViewId) (len : ℕ) (s : GroupState) : Type 0 where
  pub members : List Member
  pub entered : Has (In n v members) rs
  pub cut : CutFrom rs v members g u len s
  pub same : (m : ℕ) (t : ViewId) (k : ℕ) (x : GroupState) → Has (Base m v g t k x) rs → (t ≡ u) × (k ≡ len) × (x ≡ s)

abbrev pub BaseSeen : List Happened → Happened → Type 0
BaseSeen rs (Base n v g u len s) = BaseSeenAt rs n v g u len s
BaseSeen rs _ = Unit {0}

-- of any two nodes that were in a view, each recorded the bases of the other, as some node enters a view
abbrev pub SameBases : List Happened → Happened → Type 0
SameBases rs (In n w ms) =
    (m k : ℕ) (v : ViewId) (os ns : List Member) (g : List ℕ) (u : ViewId) (len : ℕ) (s : GroupState) → Has (In m v os) rs → Has (In k v ns) rs → Has (Base m v g u len s) rs → Has (Base k v g u len s) rs
SameBases rs _ = Unit {0}

-- ---- entries

-- two entries at one place of one list are the same
abbrev pub SameEntry : List Happened → Happened → Type 0
SameEntry rs (Put n v g i e) = (m : ℕ) (f : Entry) → Has (Put m v g i f) rs → f ≡ e
SameEntry rs _ = Unit {0}

-- what closes a phase has the tally that its kind says
abbrev pub TallySeen : List Happened → Happened → Type 0
TallySeen rs (Put n v g i e) = IsTallied e
TallySeen rs _ = Unit {0}

-- and the votes that it records were cast
abbrev pub VotesSeen : List Happened → Happened → Type 0
VotesSeen rs (Put n v g i e) = EntryCast rs e
VotesSeen rs _ = Unit {0}

-- the provider was told a refusal of it, or that its group was dissolved
abbrev pub IsTold : ProviderId → ℕ → Happened → Type 0
IsTold p r (Told q k why) = (q ≡ p) × (k ≡ r)
IsTold p r _ = ⊥

abbrev pub WasTold : ProviderId → ℕ → List Happened → Type 0
WasTold p r [] = ⊥
WasTold p r (x ∷ rs) = IsTold p r x ⊎ WasTold p r rs

-- each request is of one group
abbrev pub AskedInOne : List Happened → Happened → Type 0
AskedInOne rs (Asked p r g x) = (h : List ℕ) (y : Proposal) → Has (Asked p r h y) rs → h ≡ g
AskedInOne rs _ = Unit {0}

-- of a provider of the node, a request begins once there, over all groups, after it was asked and not after it was told a refusal
pub record BeginsOnce (rs : List Happened) (n : ℕ) (g : List ℕ) (e : Entry) (p : ProviderId) (r : ℕ) : Type 0 where
  pub asked : (x : Proposal) × Has (Asked p r g x) rs × Meets p x e
  pub untold : WasTold p r rs → ⊥
  pub once : (v : ViewId) (h : List ℕ) (i : ℕ) (f : Entry) → Has (Put n v h i f) rs → Has (p, r) (carried f) → ⊥

abbrev pub OnceSeen : List Happened → Happened → Type 0
OnceSeen rs (Put n v g i e) = (p : ProviderId) (r : ℕ) → p.node ≡ n → Has (p, r) (carried e) → BeginsOnce rs n g e p r
OnceSeen rs _ = Unit {0}

-- its rows are one for each voter of the state before it, in the voters' order
abbrev pub RowsSeen : List Happened → Happened → Type 0
RowsSeen rs (Put n v g i e) = HasRows (state_at n v g i rs) e
RowsSeen rs _ = Unit {0}

-- ---- providers

-- what is heard is what the provider's node put last into that list; its place is the one after the last that the provider heard of
-- it, or, where it heard none, 0 or that of its join; and its node is in that view, in the provider's incarnation
abbrev pub HeardSeen : List Happened → Happened → Type 0
HeardSeen rs (Heard p v g i e ms value) = (latest_put p.node v g rs ≡ Some (i, e)) × IsNext p e (last_heard p v g rs) i × IsUp p v rs
HeardSeen rs _ = Unit {0}

-- ---- the trace

pub record SeenAt (rs : List Happened) (r : Happened) : Type 0 where
  pub life : StartsLater rs r
  pub rising : Rising rs r
  pub rises : RisesSeen rs r
  pub among : AmongMembers rs r
  pub started : StartedSeen rs r
  pub members : SameSeen rs r
  pub together : LeavesTogether rs r
  pub base : BaseSeen rs r
  pub bases : SameBases rs r
  pub in_view : InItsView rs r
  pub place : NextPlace rs r
  pub entry : SameEntry rs r
  pub fitting : Fitting rs r
  pub tally : TallySeen rs r
  pub votes : VotesSeen rs r
  pub asked : AskedInOne rs r
  pub once : OnceSeen rs r
  pub rows : RowsSeen rs r
  pub heard : HeardSeen rs r
  pub takes_part : InOrder rs r
  pub carries : HeardState rs r
  pub noticed : CastAfterNotice rs r
  pub cast : NotCastBefore rs r

abbrev pub Seen : List Happened → Type 0
Seen [] = Unit {0}
Seen (r ∷ rs) = SeenAt rs r × Seen rs
