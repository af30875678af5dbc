-- What providers hear, in a run of many nodes and views: each hears at the puts of its node, place after place.
use Rattle.std.specs.Prelude.{true, ◌≡◌, ◌⊎◌, ◌≤◌, ℕ, ◌+◌, ◌&&◌, List, [], ◌∷◌, Option, Some, None, if◌then◌else◌}
use Rattle.std.specs.Str.{bytes_eq}
use Rattle.rsct_packet.specs.declared.ids.ViewId.{ViewId}
use Rattle.rsct_packet.specs.declared.ids.ProviderId.{ProviderId}
use Rattle.rsct_packet.specs.Ids.{same_view}
use Rattle.rsct_packet.specs.Providers.{same_provider}
use Rattle.rsct_packet.specs.Search.{Has}
use Rattle.proposal_core.specs.declared.entry.Entry.{Entry}
use Rattle.session_state.specs.declared.state.Provider.{Provider}
use Rattle.session_state.specs.State.{provider_of}
use Rattle.node_state.specs.declared.config.Config.{Config}
use Rattle.node_state.specs.declared.happened.Happened.{Happened}
use Rattle.node_state.specs.declared.happened.Happened.TheVariants.{Heard}
use Rattle.node_state.specs.declared.state.Core.{Core}
use Rattle.node_state.specs.State.{len_of}
use Rattle.run_safety.specs.Past.{History, EachRecord, earlier, records_of}
use Rattle.run_safety.specs.SafeHeard.{AtItsPut}
use Rattle.step_refinement.specs.Tied.{Scene}
use Rattle.step_refinement.specs.Runs.{Reached}

-- the place that the provider heard last of the view's list of the group
abbrev pub heard_after : ProviderId → ViewId → List ℕ → Happened → Option ℕ → Option ℕ
heard_after p v g (Heard q u h i e ms value) old = if same_provider q p && (same_view u v && bytes_eq h g) then Some i else old
heard_after p v g _ old = old

abbrev pub last_heard : ProviderId → ViewId → List ℕ → List Happened → Option ℕ
last_heard p v g [] = None
last_heard p v g (r ∷ rs) = heard_after p v g r (last_heard p v g rs)

-- the place after the one that was heard last, or that one once more
abbrev pub Follows : Option ℕ → ℕ → Type 0
Follows None i = Unit {0}
Follows (Some j) i = (i ≡ j + 1) ⊎ (i ≡ j)

abbrev pub InARow : List Happened → Happened → Type 0
InARow rs (Heard p v g i e ms value) = Follows (last_heard p v g rs) i
InARow rs _ = Unit {0}

-- what is heard stands in the event of the node's put of that place, which is its latest one, with that put's entry; and no
-- place is left out between two that a provider hears, nor does it go back
abbrev pub AtPut : List Happened → History → Happened → Type 0
AtPut now before r = AtItsPut now before r × InARow (earlier now before) r

abbrev pub HeardInARow : History → Type 0
HeardInARow h = EachRecord AtPut h

-- the place after the one that was heard last
abbrev pub next_place : Option ℕ → ℕ
next_place None = 0
next_place (Some j) = j + 1

-- the provider heard the place of the view's list of the group
pub record HeardPlace (p : ProviderId) (v : ViewId) (g : List ℕ) (i : ℕ) (rs : List Happened) : Type 0 where
  pub entry : Entry
  pub members : List ProviderId
  pub value : List ℕ
  pub there : Has (Heard p v g i entry members value) rs

-- between two places that a provider hears it hears each
abbrev pub NoGap : History → Type 0
NoGap h =
    (p : ProviderId) (v : ViewId) (g : List ℕ) (i k j : ℕ) → HeardPlace p v g i (records_of h) → HeardPlace p v g j (records_of h) → i ≤ k → k ≤ j → HeardPlace p v g k (records_of h)

-- whatever starts, stops and steps
abbrev pub ProvidersHearInARow : Type 0
ProvidersHearInARow = (c : Config) (w : Scene) → Reached c w → HeardInARow w.before

-- so it is wherever places are heard in a row
abbrev pub HeardLeavesNoGap : Type 0
HeardLeavesNoGap = (h : History) → HeardInARow h → NoGap h

-- Whoever is a provider of a node and takes part has heard all that the node put into the list of its view: the last place that
-- it heard is the list's last one, and where it heard nothing of that view, the list is empty.
abbrev pub TakersHearAll : Type 0
TakersHearAll =
    (c : Config) (w : Scene) → Reached c w → (n : ℕ) (s : Core) → w.cores n ≡ Some s → (p : ProviderId) (x : Provider) → provider_of s.sessions p ≡ Some x → x.takes_part ≡ true → len_of s x.group ≡ next_place (last_heard p s.views.view x.group (records_of w.before))
