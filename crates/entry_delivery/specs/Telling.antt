-- The records of an entry that is handed on, by what each of them names.
use Rattle.std.specs.Prelude.{ℕ, true, false, List, [], ◌∷◌, map, flat_map, filter, Option, Some}
use Rattle.rsct_packet.specs.declared.ids.ViewId.{ViewId}
use Rattle.proposal_core.specs.declared.entry.Entry.{Entry}
use Rattle.proposal_core.specs.declared.group_state.GroupState.{GroupState}
use Rattle.proposal_core.specs.Fold.{empty_state}
use Rattle.subscribe_core.specs.declared.subs.Subscription.{Subscription}
use Rattle.subscribe_core.specs.Subs.{is_of_group, differs}
use Rattle.client_callbacks.specs.declared.told.Told.TheVariants as told
use Rattle.session_state.specs.declared.casts.Cast.{Cast}
use Rattle.session_state.specs.declared.state.SessionState.{SessionState}
use Rattle.session_state.specs.State.{client_place, place_of}
use Rattle.node_state.specs.declared.happened.Happened.{Happened}
use Rattle.node_state.specs.declared.happened.Happened.TheVariants as happened
use Rattle.node_state.specs.declared.state.Core.{Core}
use Rattle.node_state.specs.HandOn.{cast_records, subscriber_name}
use Rattle.entry_delivery.specs.Received.{Handing}

-- a provider hears the entry at place i in view v, and its ballot is kept
abbrev pub heard_in : ViewId → List ℕ → ℕ → Entry → GroupState → Cast → List Happened
heard_in v g i e after c = happened.Heard c.provider v g i e after.members after.value ∷ cast_records c.provider c.cast

-- the client of a subscription is told at node me in view v
abbrev pub note_in : ℕ → ViewId → SessionState → List ℕ → Option ℕ → GroupState → Subscription → Happened
note_in me v t g place st u = happened.Noted me (subscriber_name t u) v place (told.Note g st.members st.value)

-- ---- what clients are handed

abbrev pub filled_handing : Option ℕ → Happened → Handing
filled_handing place r = record { place = place; what = r; after = empty_state }

-- the client of the provider is handed the notice, and fills what is cast
abbrev pub heard_handing : SessionState → ViewId → List ℕ → ℕ → Entry → GroupState → Cast → List Handing
heard_handing s v g i e after c =
    record { place = place_of s c.provider; what = happened.Heard c.provider v g i e after.members after.value; after = after } ∷ map (filled_handing (place_of s c.provider)) (cast_records c.provider c.cast)

-- for each of cs
abbrev pub heard_handings : SessionState → ViewId → List ℕ → ℕ → Entry → GroupState → List Cast → List Handing
heard_handings s v g i e after cs = flat_map (heard_handing s v g i e after) cs

-- by the client of a subscription
abbrev pub note_handing : ℕ → ViewId → SessionState → List ℕ → Option ℕ → GroupState → Subscription → Handing
note_handing me v t g place st u = record { place = client_place t u.client; what = note_in me v t g place st u; after = empty_state }

-- by the subscribers of a group, where its members or its value differ
unfoldable pub noted_handings : Core → List ℕ → ℕ → GroupState → GroupState → List Handing
noted_handings s g i before after =
    elim (differs before after) [
      | true ↦ map (note_handing s.views.me s.views.view s.sessions g (Some i) after) (filter (is_of_group g) s.sessions.subs.live)
      | false ↦ []
    ]
