-- Each place of a list is heard once, by a provider that hears it, and in turn, from its join on and while its node is up.
use Rattle.std.specs.Prelude.{ℕ, ◌+◌, ◌≡◌, ◌⊎◌, true, List, [], ◌∷◌, Option, Some, None}
use Rattle.rsct_packet.specs.declared.ids.ViewId.{ViewId}
use Rattle.rsct_packet.specs.declared.ids.ProviderId.{ProviderId}
use Rattle.rsct_packet.specs.Search.{Has}
use Rattle.proposal_core.specs.declared.entry.Entry.{Entry}
use Rattle.proposal_core.specs.declared.entry.Entry.TheVariants.{Once, Begin, Phase, Approve, Reject, Late}
use Rattle.proposal_core.specs.Fold.{joins_of, present}
use Rattle.node_state.specs.declared.config.Config.{Config}
use Rattle.node_state.specs.declared.happened.Happened.{Happened}
use Rattle.node_state.specs.declared.happened.Happened.TheVariants.{Heard, Put}
use Rattle.node_state.specs.declared.state.Core.{Core}
use Rattle.node_state.specs.State.{state_of}
use Rattle.run_safety.specs.Past.{History, EachRecord, earlier, view_now, inc_now}
use Rattle.run_safety.specs.Stays.{is_join_of}
use Rattle.row_laws.specs.hearing.Hearing.{last_heard}
use Rattle.step_refinement.specs.Tied.{Scene}
use Rattle.step_refinement.specs.Runs.{Reached}

-- nobody stands twice in the list
abbrev pub Alone : List ProviderId → Type 0
Alone [] = Unit {0}
Alone (x ∷ xs) = (Has x xs → ⊥) × Alone xs

-- an entry that begins names no joiner twice
abbrev pub Named : Entry → Type 0
Named (Once x) = Alone (joins_of x)
Named (Begin x) = Alone (joins_of x)
Named (Phase c) = Unit {0}
Named (Approve c) = Unit {0}
Named (Reject c) = Unit {0}
Named (Late proto phase ps) = Unit {0}

-- the first place that is heard of a list is 0, or that of a join that names the provider; and any other just the place after the
-- one that was heard last
abbrev pub IsNext : ProviderId → Entry → Option ℕ → ℕ → Type 0
IsNext p e None i = (i ≡ 0) ⊎ (is_join_of p e ≡ true)
IsNext p e (Some j) i = i ≡ j + 1

-- the provider's node is in the view, in the provider's incarnation
abbrev pub IsUp : ProviderId → ViewId → List Happened → Type 0
IsUp p v rs = (view_now p.node rs ≡ Some v) × (inc_now p.node rs ≡ p.inc)

-- what a provider hears of a view's list is the place after the last that it heard of it, never that one again, from 0 or from its
-- join on; and it hears while its node is in that view, and was not stopped since the provider joined
abbrev pub NextHeard : List Happened → History → Happened → Type 0
NextHeard now before (Heard p v g i e ms value) =
    IsNext p e (last_heard p v g (earlier now before)) i × IsUp p v (earlier now before)
NextHeard now before _ = Unit {0}

abbrev pub PlacesHeardOnce : History → Type 0
PlacesHeardOnce h = EachRecord NextHeard h

-- an entry that is put names no joiner twice
abbrev pub PutNamed : List Happened → History → Happened → Type 0
PutNamed now before (Put n v g i e) = Named e
PutNamed now before _ = Unit {0}

-- whatever starts, stops and steps
abbrev pub EachPlaceIsHeardOnce : Type 0
EachPlaceIsHeardOnce = (c : Config) (w : Scene) → Reached c w → PlacesHeardOnce w.before

abbrev pub EntriesNameOnce : Type 0
EntriesNameOnce = (c : Config) (w : Scene) → Reached c w → EachRecord PutNamed w.before

-- nobody stands twice among the members and the running joiners of a group, at any node
abbrev pub MembersStandOnce : Type 0
MembersStandOnce = (c : Config) (w : Scene) → Reached c w → (n : ℕ) (s : Core) → w.cores n ≡ Some s → (g : List ℕ) → Alone (present (state_of s g))
