-- What a provider hears, one thing after another: a walk through the lists of its group, from its own join on.
use Rattle.std.specs.Prelude.{◌≡◌, ◌⊎◌, ℕ, ◌+◌, true, false, List, [], ◌∷◌, if◌then◌else◌}
use Rattle.rsct_packet.specs.declared.ids.ViewId.{ViewId}
use Rattle.rsct_packet.specs.declared.ids.ProviderId.{ProviderId}
use Rattle.rsct_packet.specs.Providers.{same_provider}
use Rattle.rsct_packet.specs.Search.{Has}
use Rattle.proposal_core.specs.declared.entry.Entry.{Entry}
use Rattle.proposal_core.specs.declared.group_state.GroupState.{GroupState}
use Rattle.node_state.specs.declared.happened.Happened.{Happened}
use Rattle.node_state.specs.declared.happened.Happened.TheVariants.{Base, Heard}
use Rattle.run_safety.specs.Past.{History, EachEvent, EachRecord, Within, records_of}
use Rattle.run_safety.specs.Moves.{Opening}
use Rattle.run_safety.specs.SafeGroups.{SafeGroups}
use Rattle.run_safety.specs.SafeHeard.{NotLetGo, AllHear}
use Rattle.run_safety.specs.Stays.{is_join_of}
use Rattle.run_laws.specs.failed_causes.Entering.{BasesFollowEntering}
use Rattle.run_laws.specs.seen_runs.Seen.{Seen}
use Rattle.run_laws.specs.seen_runs.Once.{RequestsBeginOnce}

-- an entry that is heard, at its place of a group's list in a view
pub record Hearing : Type 0 where
  pub view : ViewId
  pub group : List ℕ
  pub place : ℕ
  pub entry : Entry

-- what a provider heard, the latest first
abbrev pub heard_after : ProviderId → Happened → List Hearing → List Hearing
heard_after p (Heard q v g i e members value) old = if same_provider q p then record { view = v; group = g; place = i; entry = e } ∷ old else old
heard_after p _ old = old

abbrev pub heard_by : ProviderId → List Happened → List Hearing
heard_by p [] = []
heard_by p (r ∷ rs) = heard_after p r (heard_by p rs)

-- By its bases the group goes on in the view where a list of another one ended, so many entries long: its base there is that list, or
-- the empty list of a view for which the same holds.
pub data GoesOn (rs : List Happened) (g : List ℕ) (u : ViewId) (len : ℕ) : ViewId → Type 0 where
  Next : (v : ViewId) (n : ℕ) (s : GroupState) → Has (Base n v g u len s) rs → GoesOn rs g u len v
  Over : (v : ViewId) (n : ℕ) (w : ViewId) (s : GroupState) → Has (Base n v g w 0 s) rs → GoesOn rs g u len w → GoesOn rs g u len v

-- the place behind the last one, or the first of a view in which the group goes on from there
abbrev pub IsBehind : List Happened → Hearing → Hearing → Type 0
IsBehind rs a b = ((b.view ≡ a.view) × (b.place ≡ a.place + 1)) ⊎ ((b.place ≡ 0) × GoesOn rs b.group a.view (a.place + 1) b.view)

-- What is heard next is the place behind, in the same group; and no join of the provider begins there.
pub record Follows (rs : List Happened) (p : ProviderId) (a b : Hearing) : Type 0 where
  pub group : b.group ≡ a.group
  pub joined : is_join_of p b.entry ≡ false
  pub behind : IsBehind rs a b

-- The provider's join begins with the first thing that it hears, and each other one follows the one before it.
abbrev pub IsWalk : List Happened → ProviderId → List Hearing → Type 0
IsWalk rs p [] = Unit {0}
IsWalk rs p (b ∷ []) = is_join_of p b.entry ≡ true
IsWalk rs p (b ∷ a ∷ older) = Follows rs p a b × IsWalk rs p (a ∷ older)

-- so it is with what each provider hears in a run
abbrev pub HearingsWalk : History → Type 0
HearingsWalk h = (p : ProviderId) → IsWalk (records_of h) p (heard_by p (records_of h))

-- of every safe run
abbrev pub SafeHearingsWalk : Type 0
SafeHearingsWalk =
    (o : Opening) (h : History) → SafeGroups o h → Seen (records_of h) → BasesFollowEntering h → EachEvent (λ event before. Within (AllHear event) event.records before) h → EachRecord NotLetGo h → RequestsBeginOnce h → HearingsWalk h
