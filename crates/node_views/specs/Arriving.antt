-- What a node does at an install that no client answers, and what it is told.
use Rattle.std.specs.Prelude.{ℕ, true, false, List, [], ◌∷◌, fold, map, Option, Some, None}
use Rattle.std.specs.Str.{bytes_eq}
use Rattle.rsct_packet.specs.declared.ids.ViewId.{ViewId}
use Rattle.rsct_packet.specs.declared.ids.Member.{Member}
use Rattle.group_attr.specs.Attrs.{host_membership}
use Rattle.proposal_core.specs.Fold.{empty_state}
use Rattle.subscribe_core.specs.declared.subs.Subscription.{Subscription}
use Rattle.client_callbacks.specs.declared.told.Told.TheVariants as told
use Rattle.session_state.specs.declared.state.SessionState.{SessionState}
use Rattle.session_state.specs.State.{client_place}
use Rattle.view_state.specs.declared.install.Install.{Install}
use Rattle.view_state.specs.declared.install.Base.{Base}
use Rattle.view_state.specs.Bases.{base_named}
use Rattle.view_state.specs.declared.packet.ViewSend.{ViewSend}
use Rattle.view_state.specs.declared.views.ViewWork.{ViewWork}
use Rattle.node_state.specs.declared.happened.Happened.{Happened}
use Rattle.node_state.specs.declared.happened.Happened.TheVariants as happened
use Rattle.node_state.specs.declared.packet.Body.TheVariants as body
use Rattle.node_state.specs.declared.state.Core.{Core}
use Rattle.node_state.specs.State.{held_rows}
use Rattle.node_state.specs.Sending.{sent}
use Rattle.node_state.specs.HandOn.{subscriber_name}
use Rattle.node_state.specs.Applying.{view_entered, sides_dissolved, entering_noted, taken_sent, owed_sent}
use Rattle.entry_delivery.specs.Received.{Handing}

-- an event of views is taken: its state stands, and what it sends is sent
unfoldable pub views_sent : Core → ViewWork → Core
views_sent s w = fold (λ t (x : ViewSend). sent t x.to (body.View x.packet)) (record s { views = w.views }) w.sends

-- the view is entered, and all is told and sent that comes before leading
unfoldable pub arrived : Core → Install → List Base → Core
arrived s i bs = owed_sent (taken_sent (entering_noted (sides_dissolved (view_entered s i bs) (held_rows s) s.views.view bs) bs))

-- the record of a base, at this node in this view
abbrev pub base_at : ℕ → ViewId → Base → Happened
base_at n v b = happened.Base n v b.name b.from b.len b.state

-- what a subscription is told of its group's base
abbrev pub note_at : ℕ → ViewId → SessionState → Subscription → Option Base → List Happened
note_at n v s u None = []
note_at n v s u (Some b) = happened.Noted n (subscriber_name s u) v None (told.Note b.name b.state.members b.state.value) ∷ []

-- what it is told at this node in this view with these members
abbrev pub notes_at : ℕ → ViewId → List Member → SessionState → List Base → Subscription → List Happened
notes_at n v ms s bs u =
    elim (bytes_eq u.group host_membership) [
      | true ↦ happened.Noted n (subscriber_name s u) v None (told.Hosts v ms) ∷ []
      | false ↦ note_at n v s u (base_named bs u.group)
    ]

-- what is handed to the client at a place, as a record tells it
abbrev pub handed_at : Option ℕ → Happened → Handing
handed_at place r = record { place = place; what = r; after = empty_state }

-- what the client of the subscription is handed
abbrev pub note_handings : ℕ → ViewId → List Member → SessionState → List Base → Subscription → List Handing
note_handings n v ms s bs u = map (handed_at (client_place s u.client)) (notes_at n v ms s bs u)
