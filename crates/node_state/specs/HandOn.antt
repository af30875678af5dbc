-- Handing an entry on to the clients of a node.
use Rattle.std.specs.Prelude.{ℕ, Bool, true, false, ◌+◌, List, [], ◌∷◌, map, filter, fold, length, Option, Some, None, flat_map}
use Rattle.std.specs.Option.{unwrap_or}
use Rattle.rsct_packet.specs.declared.ids.ProviderId.{ProviderId}
use Rattle.rsct_packet.specs.declared.ids.ProtoId.{ProtoId}
use Rattle.proposal_core.specs.declared.entry.Entry.{Entry}
use Rattle.proposal_core.specs.declared.group_state.GroupState.{GroupState}
use Rattle.subscribe_core.specs.declared.subs.Subscription.{Subscription}
use Rattle.subscribe_core.specs.Subs.{is_of_group, differs}
use Rattle.client_callbacks.specs.declared.ballot.Filled.{Filled}
use Rattle.client_callbacks.specs.declared.told.Told.TheVariants as told
use Rattle.client_callbacks.specs.Ballots.{BallotView}
use Rattle.session_state.specs.declared.casts.Cast.{Cast}
use Rattle.session_state.specs.declared.state.SessionState.{SessionState}
use Rattle.session_state.specs.State.{client_name}
use Rattle.session_state.specs.HandOn.{asks, hearers, casts_out}
use Rattle.session_state.specs.HandOn as session
use Rattle.node_state.specs.declared.happened.Happened.{Happened}
use Rattle.node_state.specs.declared.happened.Happened.TheVariants as happened
use Rattle.node_state.specs.declared.state.Core.{Core}
use Rattle.node_state.specs.State.{frozen, recorded_all, with_sessions}
use Rattle.node_state.specs.Sending.{send_if_known, vote_of}

-- What clients answer is an input of a step: what the client of a provider fills into the ballot that is handed with
-- a notice of this entry and the state after it, where so many records of the step stand before the notice.
abbrev pub Answering : Type 0
Answering = ℕ → SessionState → Entry → GroupState → ProviderId → Option Filled

unfoldable pub answer_if : Bool → Option Filled → Option Filled
answer_if true b = b
answer_if false b = None

-- a notice is one record, and its ballot another one
unfoldable pub records_of_notice : Option Filled → ℕ
records_of_notice None = 1
records_of_notice (Some b) = 2

-- what the clients of those that hear fill, one after another
unfoldable pub fills : Answering → ℕ → SessionState → Entry → GroupState → List ProviderId → List (Option Filled)
fills f n s e after [] = []
fills f n s e after (p ∷ ps) =
    let b : Option Filled = answer_if (asks e after p) (f n s e after p) in b ∷ fills f (n + records_of_notice b) s e after ps

unfoldable pub cast_record : ProviderId → ProtoId → ℕ → Option Filled → List Happened
cast_record p proto phase None = []
cast_record p proto phase (Some b) = happened.Cast p proto phase b.vote b.value b.message ∷ []

unfoldable pub cast_records : ProviderId → Option (ProtoId × ℕ × BallotView) → List Happened
cast_records p None = []
cast_records p (Some c) = cast_record p c.0 c.1 (c.2).filled

-- a provider hears the entry, and its ballot is kept
unfoldable pub heard : Core → List ℕ → ℕ → Entry → GroupState → Cast → List Happened
heard s g i e after c = happened.Heard c.provider s.views.view g i e after.members after.value ∷ cast_records c.provider c.cast

-- the name of a subscription's client, which is live
unfoldable pub subscriber_name : SessionState → Subscription → List ℕ
subscriber_name s u = unwrap_or (client_name s u.client) []

unfoldable pub note_of : Core → List ℕ → Option ℕ → GroupState → Subscription → Happened
note_of s g place st u = happened.Noted s.views.me (subscriber_name s.sessions u) s.views.view place (told.Note g st.members st.value)

unfoldable pub notes : Core → List ℕ → Option ℕ → GroupState → Core
notes s g place st = recorded_all s (map (note_of s g place st) (filter (is_of_group g) s.sessions.subs.live))

-- the group's subscribers, oldest first, where members or value differ
unfoldable pub noted : Core → List ℕ → ℕ → GroupState → GroupState → Core
noted s g i before after = elim (differs before after) [ true ↦ notes s g (Some i) after | false ↦ s ]

unfoldable pub ballot_sent : Core → List ℕ → Option ℕ → ProviderId → ProtoId → ℕ → Option Filled → Core
ballot_sent s g to p proto phase None = s
ballot_sent s g to p proto phase (Some b) = send_if_known s to (vote_of s g proto phase p b)

unfoldable pub cast_sent_of : Core → List ℕ → Option ℕ → ProviderId → Option (ProtoId × ℕ × BallotView) → Core
cast_sent_of s g to p None = s
cast_sent_of s g to p (Some c) = ballot_sent s g to p c.0 c.1 (c.2).filled

-- the ballots go to the leader
unfoldable pub casts_sent : Core → List ℕ → Option ℕ → List Cast → Core
casts_sent s g to cs = elim (frozen s) [ true ↦ s | false ↦ fold (λ t c. cast_sent_of t g to c.provider c.cast) s cs ]

-- The entry at place i is handed on; `to` leads, and is sent the ballots.
unfoldable pub hand_on : Answering → Core → Option ℕ → List ℕ → ℕ → GroupState → GroupState → Entry → Core
hand_on f s to g i before after e =
    let bs : List (Option Filled) = fills f (length s.records) s.sessions e after (hearers s.sessions g before e) in
    let cs : List Cast = casts_out s.sessions g before after e bs in
    let t : Core = noted (recorded_all s (flat_map (heard s g i e after) cs)) g i before after in
    casts_sent (with_sessions t (session.handed_on s.sessions g before after e bs)) g to cs

-- opens each word of this file, for a computation
unfoldable pub handing_opens : Unit {0}
unfolding answer_if records_of_notice fills cast_record cast_records heard subscriber_name note_of notes noted ballot_sent cast_sent_of casts_sent hand_on
handing_opens = tt
