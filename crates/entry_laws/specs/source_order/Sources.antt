-- Source groups and target groups: what begins in a target follows from its source.
use Rattle.std.specs.Prelude.{ℕ, ◌≡◌, ◌⊎◌, ◌≤◌, ◌<◌, Bool, IsTrue, List, ◌∷◌, length, Option, Some, None}
use Rattle.std.specs.List.{list_any}
use Rattle.rsct_packet.specs.declared.ids.ViewId.{ViewId}
use Rattle.rsct_packet.specs.declared.ids.ProtoId.{ProtoId}
use Rattle.rsct_packet.specs.declared.ids.ProviderId.{ProviderId}
use Rattle.rsct_packet.specs.Ids.{proto_lt, place_lt}
use Rattle.rsct_packet.specs.Search.{Has}
use Rattle.group_attr.specs.declared.attrs.Attrs.{Attrs}
use Rattle.proposal_core.specs.declared.proposal.Proposal.{Proposal}
use Rattle.proposal_core.specs.declared.proposal.Proposal.TheVariants.{Join, Reflect}
use Rattle.proposal_core.specs.declared.entry.Entry.{Entry}
use Rattle.proposal_core.specs.declared.entry.Entry.TheVariants.{Once, Begin}
use Rattle.proposal_core.specs.declared.group_state.GroupState.{GroupState}
use Rattle.proposal_core.specs.declared.group_state.Running.{Running}
use Rattle.source_target.specs.Due.{is_on}
use Rattle.node_state.specs.declared.config.Config.{Config}
use Rattle.node_state.specs.declared.happened.Happened.{Happened}
use Rattle.node_state.specs.declared.happened.Happened.TheVariants.{Base, Put}
use Rattle.world_model.specs.Run.{Happening}
use Rattle.run_safety.specs.Past.{History, records_of, earlier, EachEvent, EachRecord, Within, puts_of, state_at, state_now}
use Rattle.step_refinement.specs.Tied.{Scene}
use Rattle.step_refinement.specs.Runs.{Reached}
use Rattle.entry_laws.specs.source_order.Meant.{Decided, meant, DeliveriesAreNoted}

-- what holds of the proposal that an entry begins
abbrev pub OfBegun : (Proposal → Type 0) → Entry → Type 0
OfBegun P (Once x) = P x
OfBegun P (Begin x) = P x
OfBegun P _ = Unit {0}

-- ---- reflections

-- a reflection names a place greater than the reflected one of the state
abbrev pub Rises : GroupState → Proposal → Type 0
Rises st (Reflect v i value) = IsTrue (place_lt st.reflected_at (Some (record { view = v; place = i })))
Rises st _ = Unit {0}

-- of the state before the entry
abbrev pub RecordRises : List Happened → History → Happened → Type 0
RecordRises now before (Put n v g i e) = OfBegun (Rises (state_at n v g i (earlier now before))) e
RecordRises now before _ = Unit {0}

-- each reflection of each node's list
abbrev pub ReflectionsRise : History → Type 0
ReflectionsRise h = EachRecord RecordRises h

-- the place that an entry begins a reflection of
abbrev pub reflected_by : Proposal → Option ProtoId
reflected_by (Reflect v i value) = Some (record { view = v; place = i })
reflected_by _ = None

abbrev pub reflects : Entry → Option ProtoId
reflects (Once x) = reflected_by x
reflects (Begin x) = reflected_by x
reflects _ = None

-- the place is the reflected one of the state, or that of the reflection that runs in it
abbrev pub HasReached : GroupState → ProtoId → Type 0
HasReached st a = (st.reflected_at ≡ Some a) ⊎ ((r : Running) × (st.running ≡ Some r) × (reflected_by r.proposal ≡ Some a))

-- a place greater than those of the reflections before it in the list, whether these were approved, rejected or neither, and
-- than what the base has reached, as the node recorded it
pub record Climbs (n : ℕ) (v : ViewId) (g : List ℕ) (rs : List Happened) (c : ProtoId) : Type 0 where
  pub over_list : (f : Entry) (a : ProtoId) → Has f (puts_of n v g rs) → reflects f ≡ Some a → IsTrue (proto_lt a c)
  pub over_base : (old : ViewId) (len : ℕ) (base : GroupState) (a : ProtoId) → Has (Base n v g old len base) rs → HasReached base a → IsTrue (proto_lt a c)

abbrev pub RecordClimbs : List Happened → History → Happened → Type 0
RecordClimbs now before (Put n v g i e) = (c : ProtoId) → reflects e ≡ Some c → Climbs n v g (earlier now before) c
RecordClimbs now before _ = Unit {0}

abbrev pub ReflectionsClimb : History → Type 0
ReflectionsClimb h = EachRecord RecordClimbs h

-- ---- where a join came from

-- a length is carried exactly where there is a source
abbrev pub SameThere : Option (List ℕ) → Option ℕ → Type 0
SameThere None None = Unit {0}
SameThere None (Some k) = ⊥
SameThere (Some h) None = ⊥
SameThere (Some h) (Some k) = Unit {0}

abbrev pub CarriesLength : Proposal → Type 0
CarriesLength (Join ps a len) = SameThere a.source len
CarriesLength _ = Unit {0}

abbrev pub RecordCarries : List Happened → History → Happened → Type 0
RecordCarries now before (Put n v g i e) = OfBegun CarriesLength e
RecordCarries now before _ = Unit {0}

-- each join of each node's list
abbrev pub JoinsCarryLengths : History → Type 0
JoinsCarryLengths h = EachRecord RecordCarries h

-- ---- who puts the entry first

-- a reflection is of the value that the source's state has at the node, and of that value's place
pub record IsOfSource (n : ℕ) (v : ViewId) (g : List ℕ) (rs : List Happened) (at : ProtoId) (value : List ℕ) : Type 0 where
  pub source : List ℕ
  pub attrs : (state_now n v g rs).attrs.source ≡ Some source
  pub value_place : (state_now n v source rs).value_at ≡ Some at
  pub value_is : (state_now n v source rs).value ≡ value

-- a member of the group stands on the node
abbrev pub HasMemberOn : GroupState → ℕ → Type 0
HasMemberOn st n = IsTrue (list_any (is_on n) st.members)

-- the length is that of the source's list at the node, and each joiner has a member of the state of so many entries on its
-- own node
pub record JoinsOver (n : ℕ) (v : ViewId) (source : List ℕ) (k : ℕ) (rs : List Happened) (ps : List ProviderId) : Type 0 where
  pub len : k ≡ length (puts_of n v source rs)
  pub members : (p : ProviderId) → Has p ps → HasMemberOn (state_at n v source k rs) p.node

abbrev pub JoinsFrom : ℕ → ViewId → Option (List ℕ) → Option ℕ → List Happened → List ProviderId → Type 0
JoinsFrom n v None len rs ps = Unit {0}
JoinsFrom n v (Some source) None rs ps = ⊥
JoinsFrom n v (Some source) (Some k) rs ps = JoinsOver n v source k rs ps

-- the provider is the first joiner
abbrev pub IsFirst : ProviderId → List ProviderId → Type 0
IsFirst p ps = (rest : List ProviderId) × (ps ≡ p ∷ rest)

-- there is a source, of which no member stands on the provider's node
abbrev pub LacksMember : ℕ → ViewId → Option (List ℕ) → List Happened → ProviderId → Type 0
LacksMember n v None rs p = ⊥
LacksMember n v (Some source) rs p = HasMemberOn (state_now n v source rs) p.node → ⊥

-- a join that begins at a node, with these events so far, has the attributes that are meant by the request of the first joiner
-- that was chosen: so it is over the source of these; and that joiner is the first of it, or has no member of the source
pub record BeginsAsMeant (h : History) (n : ℕ) (v : ViewId) (g : List ℕ) (ps : List ProviderId) (a : Attrs) (len : Option ℕ) : Type 0 where
  pub first : ProviderId
  pub idle : Bool
  pub asked : Attrs
  pub decided : Decided h n v g first idle asked
  pub attrs : a ≡ meant idle asked (state_now n v g (records_of h)).attrs
  pub from : JoinsFrom n v (meant idle asked (state_now n v g (records_of h)).attrs).source len (records_of h) ps
  pub chosen : IsFirst first ps ⊎ LacksMember n v a.source (records_of h) first

abbrev pub BegunFirst : History → ℕ → ViewId → List ℕ → Proposal → Type 0
BegunFirst h n v g (Reflect u k value) = IsOfSource n v g (records_of h) (record { view = u; place = k }) value
BegunFirst h n v g (Join ps a len) = BeginsAsMeant h n v g ps a len
BegunFirst h n v g _ = Unit {0}

-- a node put that place of the view's list
abbrev pub PutBefore : List Happened → ViewId → List ℕ → ℕ → Type 0
PutBefore rs v g i = (m : ℕ) × (f : Entry) × Has (Put m v g i f) rs

abbrev pub RecordFirst : Happening → List Happened → History → Happened → Type 0
RecordFirst event now before (Put n v g i e) =
    (PutBefore (earlier now before) v g i → ⊥) → OfBegun (BegunFirst (record { event = event.event; records = now } ∷ before) n v g) e
RecordFirst event now before _ = Unit {0}

-- each reflection and each join, where the entry is first put
abbrev pub FirstsFollowSources : History → Type 0
FirstsFollowSources h = EachEvent (λ event before. Within (RecordFirst event) event.records before) h

-- ---- whose node has a member of the source

pub record RecordedBase (m : ℕ) (v : ViewId) (g : List ℕ) (rs : List Happened) : Type 0 where
  pub old : ViewId
  pub len : ℕ
  pub base : GroupState
  pub there : Has (Base m v g old len base) rs

-- the node put the first k entries of the view's list of the group, or, where that is none, recorded the base
abbrev pub HasFront : ℕ → ViewId → List ℕ → ℕ → List Happened → Type 0
HasFront m v g k rs = (k ≤ length (puts_of m v g rs)) × ((0 < k) ⊎ RecordedBase m v g rs)

-- by the records of each node that has so many entries of the source's list, each joiner has a member of their state on its
-- own node
abbrev pub OverSource : ViewId → List Happened → Proposal → Type 0
OverSource v rs (Join ps a len) =
    (source : List ℕ) (k m : ℕ) → a.source ≡ Some source → len ≡ Some k → HasFront m v source k rs → (p : ProviderId) → Has p ps → HasMemberOn (state_at m v source k rs) p.node
OverSource v rs _ = Unit {0}

-- each join of each node's list, also where it is put later, and whoever has the source's entries by now
abbrev pub JoinsOverSources : History → Type 0
JoinsOverSources h =
    (n : ℕ) (v : ViewId) (g : List ℕ) (i : ℕ) (e : Entry) → Has (Put n v g i e) (records_of h) → OfBegun (OverSource v (records_of h)) e

-- ---- in every scene that events lead to

abbrev pub ReflectionsAlwaysRise : Type 0
ReflectionsAlwaysRise = (c : Config) (w : Scene) → Reached c w → ReflectionsRise w.before

abbrev pub ReflectionsAlwaysClimb : Type 0
ReflectionsAlwaysClimb = (c : Config) (w : Scene) → Reached c w → ReflectionsClimb w.before

abbrev pub JoinsAlwaysCarryLengths : Type 0
JoinsAlwaysCarryLengths = (c : Config) (w : Scene) → Reached c w → JoinsCarryLengths w.before

abbrev pub FirstsAlwaysFollowSources : Type 0
FirstsAlwaysFollowSources = (c : Config) (w : Scene) (k : Reached c w) → DeliveriesAreNoted c w k → FirstsFollowSources w.before

abbrev pub JoinsAlwaysOverSources : Type 0
JoinsAlwaysOverSources = (c : Config) (w : Scene) → Reached c w → JoinsOverSources w.before
