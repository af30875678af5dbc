-- Gapless: what providers hear, and with which members and value.
use Rattle.std.specs.Prelude.{◌≡◌, ℕ, ◌+◌, Bool, false, not, ◌==◌, ◌&&◌, List, [], ◌∷◌, Option, Some, None, IsTrue, is_some, is_none, if◌then◌else◌}
use Rattle.std.specs.List.{list_any}
use Rattle.std.specs.Str.{bytes_eq}
use Rattle.rsct_packet.specs.declared.ids.ViewId.{ViewId}
use Rattle.rsct_packet.specs.declared.ids.ProviderId.{ProviderId}
use Rattle.rsct_packet.specs.Ids.{same_view}
use Rattle.rsct_packet.specs.Providers.{same_provider}
use Rattle.client_callbacks.specs.declared.told.Why.TheVariants.{Dissolved}
use Rattle.proposal_core.specs.declared.entry.Entry.{Entry}
use Rattle.proposal_core.specs.declared.group_state.GroupState.{GroupState}
use Rattle.node_state.specs.declared.happened.Happened.{Happened}
use Rattle.node_state.specs.declared.happened.Happened.TheVariants.{In, Put, Heard, Told}
use Rattle.world_model.specs.Run.{Happening}
use Rattle.rsct_packet.specs.Search.{Has}
use Rattle.run_safety.specs.Past.{History, EachRecord, EachEvent, Within, earlier, is_list, state_at}
use Rattle.run_safety.specs.Stays.{Stay, stays, Part, part, passes, takes_part, was_let_go}
use Rattle.run_safety.specs.SafeLists.{Each}

-- the place and the entry of the node's latest put into the list
abbrev pub put_after : ℕ → ViewId → List ℕ → Happened → Option (ℕ × Entry) → Option (ℕ × Entry)
put_after n v g (Put m u h i e) old = if is_list n v g m u h then Some (i, e) else old
put_after n v g _ old = old

abbrev pub latest_put : ℕ → ViewId → List ℕ → List Happened → Option (ℕ × Entry)
latest_put n v g [] = None
latest_put n v g (r ∷ rs) = put_after n v g r (latest_put n v g rs)

-- what is heard is what the node put last into that list, in the same event
abbrev pub AtItsPut : List Happened → History → Happened → Type 0
AtItsPut now before (Heard p v g i e ms value) = latest_put p.node v g now ≡ Some (i, e)
AtItsPut now before _ = Unit {0}

-- how often the provider heard something of the list
abbrev pub heard_after : ProviderId → ViewId → List ℕ → Happened → ℕ → ℕ
heard_after p v g (Heard q u h i e ms value) old =
    if same_provider q p && (same_view u v && bytes_eq h g) then old + 1 else old
heard_after p v g _ old = old

abbrev pub heard_count : ProviderId → ViewId → List ℕ → List Happened → ℕ
heard_count p v g [] = 0
heard_count p v g (r ∷ rs) = heard_after p v g r (heard_count p v g rs)

-- it is the first place or the one after the place heard last, and the provider takes part there
abbrev pub is_after : ℕ → Option ℕ → ℕ → Bool
is_after count None i = false
is_after count (Some first) i = i == first + count

abbrev pub InOrder : List Happened → Happened → Type 0
InOrder rs (Heard p v g i e ms value) =
    let x : Part = part p (stays p.node g rs) in
    IsTrue (is_after (heard_count p v g rs) x.first i) × IsTrue (takes_part i x)
InOrder rs _ = Unit {0}

-- who was let go by an earlier event hears nothing
abbrev pub NotLetGo : List Happened → History → Happened → Type 0
NotLetGo now before (Heard p v g i e ms value) = was_let_go p before ≡ false
NotLetGo now before _ = Unit {0}

-- in the event of a put, each provider of the node that takes part at its place hears it, unless it was let go
abbrev pub AllHear : Happening → List Happened → History → Happened → Type 0
AllHear event now before (Put n v g i e) =
    (p : ProviderId) → p.node ≡ n → IsTrue (takes_part i (part p (stays n g (Put n v g i e ∷ earlier now before)))) → was_let_go p before ≡ false → (ms : List ProviderId) × (value : List ℕ) × Has (Heard p v g i e ms value) event.records
AllHear event now before _ = Unit {0}

-- whoever took part to the end of the last stay, and does not pass into this one
abbrev pub is_left_behind : ProviderId → List Stay → Bool
is_left_behind p [] = false
is_left_behind p (s ∷ older) =
    let x : Part = part p older in is_some x.first && (is_none x.last && not (passes p s.base x))

abbrev pub enters : ℕ → Happened → Bool
enters n (In m v ms) = m == n
enters n _ = false

-- in this event the provider's node enters a view into which it does not pass
pub record LeftBehind (p : ProviderId) (event : Happening) (before : History) : Type 0 where
  pub entered : IsTrue (list_any (enters p.node) event.records)
  pub group : List ℕ
  pub left : IsTrue (is_left_behind p (stays p.node group (earlier event.records before)))
  pub lives : was_let_go p before ≡ false

-- just these are told DISSOLVED
abbrev pub Dissolves : Happening → History → Type 0
Dissolves event before =
    (p : ProviderId) → (LeftBehind p event before → (r : ℕ) × Has (Told p r Dissolved) event.records) × ((r : ℕ) → Has (Told p r Dissolved) event.records → LeftBehind p event before)

pub record Gapless (h : History) : Type 0 where
  pub at_put : EachRecord AtItsPut h
  pub in_order : Each InOrder h
  pub not_let_go : EachRecord NotLetGo h
  pub all_hear : EachEvent (λ event before. Within (AllHear event) event.records before) h
  pub dissolves : EachEvent Dissolves h

-- what is heard carries the members and the value that the list up to its place gives
abbrev pub HeardState : List Happened → Happened → Type 0
HeardState rs (Heard p v g i e ms value) =
    let s : GroupState = state_at p.node v g (i + 1) rs in (ms ≡ s.members) × (value ≡ s.value)
HeardState rs _ = Unit {0}

abbrev pub FoldHeard : History → Type 0
FoldHeard h = Each HeardState h
