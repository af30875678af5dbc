-- Entering a view.
use Rattle.std.specs.Prelude.{ℕ, Bool, true, false, not, ◌==◌, ◌&&◌, List, [], ◌∷◌, map, filter, fold, flat_map, Option, Some, None, is_some}
use Rattle.std.specs.Str.{bytes_eq}
use Rattle.rsct_packet.specs.declared.ids.ProviderId.{ProviderId}
use Rattle.rsct_packet.specs.declared.ids.ViewId.{ViewId}
use Rattle.rsct_packet.specs.declared.ids.Member.{Member}
use Rattle.rsct_packet.specs.Ids.{same_view}
use Rattle.rsct_packet.specs.Providers.{among}
use Rattle.group_attr.specs.Attrs.{host_membership}
use Rattle.proposal_core.specs.declared.proposal.Cause.TheVariants.{Died}
use Rattle.proposal_core.specs.declared.entry.Entry.{Entry}
use Rattle.proposal_core.specs.declared.group_state.GroupState.{GroupState}
use Rattle.proposal_core.specs.Fold.{present}
use Rattle.proposal_core.specs.GroupView.{GroupView, new_list}
use Rattle.proposal_core.specs.Lists.{list_or_new, state_in}
use Rattle.batch_rules.specs.Waiting.{add_failure}
use Rattle.name_server.specs.declared.names.Leader.{Leader}
use Rattle.subscribe_core.specs.declared.subs.Subscription.{Subscription}
use Rattle.client_callbacks.specs.declared.told.Told.TheVariants as told
use Rattle.client_callbacks.specs.declared.told.Why.TheVariants.{Dissolved}
use Rattle.session_state.specs.declared.state.Provider.{Provider}
use Rattle.session_state.specs.declared.state.Request.{Request}
use Rattle.session_state.specs.declared.state.SessionState.{SessionState}
use Rattle.session_state.specs.State.{provider_of, outstanding}
use Rattle.session_state.specs.HandOn.{take_telling}
use Rattle.view_state.specs.declared.install.Part.{Part}
use Rattle.view_state.specs.declared.install.Install.{Install}
use Rattle.view_state.specs.declared.install.Base.{Base}
use Rattle.view_state.specs.Bases.{parts_from, bases_of, base_named}
use Rattle.view_state.specs.Cut.{lacking_of}
use Rattle.view_state.specs.declared.packet.ViewPacket.TheVariants as packet
use Rattle.view_state.specs.declared.packet.ViewSend.{ViewSend}
use Rattle.view_state.specs.declared.views.ViewWork.{ViewWork}
use Rattle.view_state.specs.Views.{views_entered}
use Rattle.node_state.specs.declared.group.GroupRow.{GroupRow}
use Rattle.node_state.specs.declared.happened.Happened.{Happened}
use Rattle.node_state.specs.declared.happened.Happened.TheVariants as happened
use Rattle.node_state.specs.declared.packet.Body.TheVariants as body
use Rattle.node_state.specs.declared.state.Core.{Core}
use Rattle.node_state.specs.Settings.{view_level}
use Rattle.node_state.specs.State.{nothing_led, list_of, state_of, held_rows, led_groups, recorded, recorded_all, with_sessions}
use Rattle.node_state.specs.Sending.{sent, send_requests, send_votes_again}
use Rattle.node_state.specs.HandOn.{Answering, subscriber_name, note_of}
use Rattle.node_state.specs.Leading.{put_and_hand, with_waiting, tally_opened, closes}

unfoldable pub part_of_list : GroupRow → GroupView → Part
part_of_list row l = record { name = row.name; start = l.start; state = l.state; entries = l.entries }

-- the node's own lists, as an answer carries them
unfoldable pub own_parts : Core → List Part
own_parts s = map (λ row. part_of_list row (list_or_new row.list)) (held_rows s)

-- ---- what the own lists lack

pub record Lacking : Type 0 where
  pub name : List ℕ
  pub entries : List Entry

unfoldable pub lacking_in : Core → List Part → Option (List Lacking)
lacking_in s [] = Some []
lacking_in s (p ∷ ps) =
    elim (lacking_of s.views.view (list_of s p.name) p) [
      | None ↦ None
      | Some es ↦ elim (lacking_in s ps) [ None ↦ None | Some xs ↦ Some (record { name = p.name; entries = es } ∷ xs) ]
    ]

-- of the lists that the install carries of the own old view, in name order
unfoldable pub lacking : Core → Install → Option (List Lacking)
lacking s i = lacking_in s (parts_from i s.views.view)

-- ---- the parts of entering a view

-- (1) they are put and handed on
unfoldable pub fill_lists : Answering → Core → List Lacking → Core
fill_lists f s xs = fold (λ t (x : Lacking). fold (λ u e. put_and_hand f u None x.name e) t x.entries) s xs

-- values are limited by the level of the view
unfoldable pub level_set : Core → List Member → SessionState
level_set s ms = record (s.sessions) { level = view_level s.config ms }

-- a group begins from its base, and its leader is the base's
unfoldable pub base_row : Base → GroupRow
base_row b = record { name = b.name; list = Some (new_list b.state); leader = Some b.leader; led = nothing_led }

unfoldable pub base_leader : Base → Leader
base_leader b = record { group = b.name; node = b.leader }

unfoldable pub base_record : Core → Base → Happened
base_record s b = happened.Base s.views.me s.views.view b.name b.from b.len b.state

-- (2) the view is entered; lists, leaders, names and what was led start anew
unfoldable pub view_entered : Core → Install → List Base → Core
view_entered s i bs =
    let t : Core = record s { views = views_entered s.views i; sessions = level_set s i.members; groups = map base_row bs; names = map base_leader bs } in
    recorded_all t (happened.In t.views.me i.view i.members ∷ map (base_record t) bs)

unfoldable pub is_in_base : ViewId → ProviderId → Option Base → Bool
is_in_base old p None = false
is_in_base old p (Some b) = same_view b.from old && among (present b.state) p

abbrev pub number_of : Option Request → ℕ
number_of None = 0
number_of (Some q) = q.request

unfoldable pub dissolved : Core → ProviderId → ℕ → Core
dissolved s p r = recorded (with_sessions s (take_telling s.sessions p r Dissolved)) (happened.Told p r Dissolved)

-- one that took part in the group, and does not live in its base
unfoldable pub dissolved_if : Core → List ℕ → ViewId → Option Base → Option Provider → Core
dissolved_if s g old b None = s
dissolved_if s g old b (Some x) =
    elim (x.takes_part && bytes_eq x.group g && not (is_in_base old x.provider b)) [
      | true ↦ dissolved s x.provider (number_of (outstanding s.sessions x.provider))
      | false ↦ s
    ]

unfoldable pub group_dissolved : ViewId → List Base → Core → GroupRow → Core
group_dissolved old bs s row =
    fold (λ (t : Core) p. dissolved_if t row.name old (base_named bs row.name) (provider_of t.sessions p)) s (present (state_in row.list))

-- (3) in name order, and in membership order of the old lists
unfoldable pub sides_dissolved : Core → List GroupRow → ViewId → List Base → Core
sides_dissolved s rows old bs = fold (group_dissolved old bs) s rows

unfoldable pub base_note : Core → Subscription → Option Base → List Happened
base_note s u None = []
base_note s u (Some b) = note_of s b.name None b.state u ∷ []

unfoldable pub entering_note : Core → List Base → Subscription → List Happened
entering_note s bs u =
    elim (bytes_eq u.group host_membership) [
      | true ↦ happened.Noted s.views.me (subscriber_name s.sessions u) s.views.view None (told.Hosts s.views.view s.views.members) ∷ []
      | false ↦ base_note s u (base_named bs u.group)
    ]

-- (4) each subscription of a group with a base, and of the hosts, oldest first
unfoldable pub entering_noted : Core → List Base → Core
entering_noted s bs = recorded_all s (flat_map (entering_note s bs) s.sessions.subs.live)

-- (5) TAKEN to the coordinator, if it is another
unfoldable pub taken_sent : Core → Core
taken_sent s = elim (s.views.view.coord == s.views.me) [ true ↦ s | false ↦ sent s s.views.view.coord (body.View (packet.Taken s.views.view)) ]

-- (6) what is outstanding is sent
unfoldable pub owed_sent : Core → Core
owed_sent s = send_votes_again (send_requests s)

unfoldable pub wait_failed : Core → List ℕ → List ProviderId → Core
wait_failed s g ps = fold (λ t p. with_waiting t g (add_failure p Died)) s ps

unfoldable pub phase_reopened : Answering → Core → List ℕ → Bool → Core
phase_reopened f s g false = s
phase_reopened f s g true = closes f (tally_opened s g) g

unfoldable pub lead : Answering → Core → List ℕ → Core
lead f s g =
    let st : GroupState = state_of s g in
    phase_reopened f (wait_failed s g (filter (among st.members) st.failed)) g (is_some st.running)

-- (7) the led groups, in name order: failed members wait, and the phase that runs is opened anew
unfoldable pub lead_groups : Answering → Core → Core
lead_groups f s = fold (lead f) s (led_groups s)

unfoldable pub entered : Answering → Core → Install → List Lacking → Core
entered f s i xs =
    let t : Core = fill_lists f s xs in
    let bs : List Base = bases_of i in
    lead_groups f (owed_sent (taken_sent (entering_noted (sides_dissolved (view_entered t i bs) (held_rows t) t.views.view bs) bs)))

unfoldable pub entered_if : Answering → Core → Install → Option (List Lacking) → Core
entered_if f s i None = s
entered_if f s i (Some xs) = entered f s i xs

-- an install is applied where the lists go on to it
unfoldable pub apply_install : Answering → Core → Option Install → Core
apply_install f s None = s
apply_install f s (Some i) = entered_if f s i (lacking s i)

-- what a rule of views leaves: its state, what it sends, and the install that is to be applied
unfoldable pub views_taken : Answering → Core → ViewWork → Core
views_taken f s w =
    apply_install f (fold (λ t (x : ViewSend). sent t x.to (body.View x.packet)) (record s { views = w.views }) w.sends) w.install

-- opens each word of this file, for a computation
unfoldable pub applying_opens : Unit {0}
unfolding part_of_list own_parts lacking_in lacking fill_lists level_set base_row base_leader base_record view_entered is_in_base dissolved dissolved_if group_dissolved sides_dissolved base_note entering_note entering_noted taken_sent owed_sent wait_failed phase_reopened lead lead_groups entered entered_if apply_install views_taken
applying_opens = tt
