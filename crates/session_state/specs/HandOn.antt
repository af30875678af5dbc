-- What an entry makes of a node's sessions: who is handed it, what each is told, and what then ends.
use Rattle.std.specs.Prelude.{ℕ, Bool, true, false, not, ◌==◌, ◌&&◌, ◌||◌, ◌++◌, List, [], ◌∷◌, filter, Option, Some, None, is_some, find, if◌then◌else◌}
use Rattle.std.specs.List.{fold, flat_map}
use Rattle.std.specs.Str.{bytes_eq}
use Rattle.rsct_packet.specs.declared.ids.ProviderId.{ProviderId}
use Rattle.rsct_packet.specs.declared.ids.ProtoId.{ProtoId}
use Rattle.rsct_packet.specs.Providers.{among}
use Rattle.proposal_core.specs.declared.entry.Entry.{Entry}
use Rattle.proposal_core.specs.declared.entry.Entry.TheVariants.{Once, Begin, Phase, Approve, Reject, Late}
use Rattle.proposal_core.specs.declared.proposal.Proposal.{Proposal}
use Rattle.proposal_core.specs.declared.proposal.Proposal.TheVariants.{Join, Leave, Fail, Expel, State, Message, Attributes, Reflect}
use Rattle.proposal_core.specs.declared.group_state.GroupState.{GroupState}
use Rattle.proposal_core.specs.declared.group_state.Running.{Running}
use Rattle.proposal_core.specs.Fold.{joiners_in, joins_of, voters}
use Rattle.subscribe_core.specs.declared.subs.SubToken.{SubToken}
use Rattle.subscribe_core.specs.declared.subs.Subscription.{Subscription}
use Rattle.subscribe_core.specs.Subs.{has_token}
use Rattle.client_callbacks.specs.declared.ballot.Filled.{Filled}
use Rattle.client_callbacks.specs.declared.told.Why.{Why}
use Rattle.client_callbacks.specs.declared.told.Why.TheVariants as why
use Rattle.client_callbacks.specs.Ballots.{BallotView}
use Rattle.session_state.specs.declared.casts.Cast.{Cast}
use Rattle.session_state.specs.declared.state.OpenPhase.{OpenPhase}
use Rattle.session_state.specs.declared.state.Provider.{Provider}
use Rattle.session_state.specs.declared.state.Request.{Request}
use Rattle.session_state.specs.declared.state.KeptBallot.{KeptBallot}
use Rattle.session_state.specs.declared.state.SessionState.{SessionState}
use Rattle.session_state.specs.State.{is_kept_in, client_place, provider_of, outstanding, with_provider, end_request, without_providers}

-- an entry that closes a phase ends the kept ballots of that phase of its group

unfoldable pub kept_ended : SessionState → List ℕ → ProtoId → ℕ → SessionState
kept_ended s g proto phase = record s { kept = filter (λ k. not (is_kept_in g proto phase k)) s.kept }

unfoldable pub kept_after : SessionState → List ℕ → Entry → SessionState
kept_after s g (Once x) = s
kept_after s g (Begin x) = s
kept_after s g (Phase c) = kept_ended s g c.proto c.phase
kept_after s g (Approve c) = kept_ended s g c.proto c.phase
kept_after s g (Reject c) = kept_ended s g c.proto c.phase
kept_after s g (Late proto phase ps) = s

-- who is handed an entry

abbrev pub hears : List ℕ → Bool → Option Provider → Bool
hears g part None = false
hears g true (Some x) = x.takes_part && bytes_eq x.group g
hears g false (Some x) = not x.takes_part && bytes_eq x.group g

-- those of ps that are local providers of the group and take part, or that do not
unfoldable pub hearers_in : SessionState → List ℕ → Bool → List ProviderId → List ProviderId
hearers_in s g part ps = filter (λ p. hears g part (provider_of s p)) ps

-- those whom an entry's join brings
abbrev pub brought_by : Entry → List ProviderId
brought_by (Once x) = joins_of x
brought_by (Begin x) = joins_of x
brought_by _ = []

-- the local providers that begin to take part
unfoldable pub beginners : SessionState → List ℕ → Entry → List ProviderId
beginners s g e = hearers_in s g false (brought_by e)

-- members before the entry, running joiners before it, new ones
unfoldable pub hearers : SessionState → List ℕ → GroupState → Entry → List ProviderId
hearers s g before e = hearers_in s g true before.members ++ hearers_in s g true (joiners_in before.running) ++ beginners s g e

abbrev pub taking_part : Provider → Provider
taking_part x = record x { takes_part = true }

unfoldable pub part_taken : SessionState → List ProviderId → SessionState
part_taken s ps = fold (λ t p. with_provider t p taking_part) s ps

-- the notice, and the phase that it opens

abbrev pub opens_phase : Entry → Bool
opens_phase (Begin x) = true
opens_phase (Phase c) = true
opens_phase _ = false

-- the notice of a Begin or a Phase asks each voter for its vote
unfoldable pub asks : Entry → GroupState → ProviderId → Bool
asks e after p = opens_phase e && among (voters after) p

abbrev pub running_phase : Option Running → Option OpenPhase
running_phase None = None
running_phase (Some run) = Some (record { proto = run.proto; phase = run.phase })

abbrev pub is_late : Entry → Bool
is_late (Late proto phase ps) = true
is_late _ = false

-- a Late leaves the phase as it is for the provider, any other entry opens or closes it
unfoldable pub opened_after : Entry → GroupState → Provider → Provider
opened_after e after x =
    if is_late e then x
    else record x { opened = if asks e after x.provider then running_phase after.running else None }

unfoldable pub open_phases : SessionState → Entry → GroupState → List ProviderId → SessionState
open_phases s e after ps = fold (λ t p. with_provider t p (opened_after e after)) s ps

-- the ballots that clients fill

abbrev pub cast_in : Option Running → ℕ → Option Filled → Option (ProtoId × ℕ × BallotView)
cast_in None level b = None
cast_in (Some run) level None = None
cast_in (Some run) level (Some f) = Some (run.proto, run.phase, record { votes = true; level = level; filled = Some f })

abbrev pub cast_with : Bool → Option Running → ℕ → ProviderId → Option Filled → Cast
cast_with votes running level p b = record { provider = p; cast = if votes then cast_in running level b else None }

-- what a provider that was handed the notice casts, where its client fills the ballot with b
unfoldable pub cast_of : Entry → GroupState → ℕ → ProviderId → Option Filled → Cast
cast_of e after level p b = cast_with (asks e after p) after.running level p b

-- bs: what each client fills, in the order of ps
abbrev pub casts_of : Entry → GroupState → ℕ → List ProviderId → List (Option Filled) → List Cast
casts_of e after level [] bs = []
casts_of e after level (p ∷ ps) [] = cast_of e after level p None ∷ casts_of e after level ps []
casts_of e after level (p ∷ ps) (b ∷ bs) = cast_of e after level p b ∷ casts_of e after level ps bs

abbrev pub kept_by : List ℕ → ProviderId → Option (ProtoId × ℕ × BallotView) → List KeptBallot
kept_by g p None = []
kept_by g p (Some c) = record { provider = p; group = g; proto = c.0; phase = c.1; ballot = c.2 } ∷ []

unfoldable pub keep_casts : SessionState → List ℕ → List Cast → SessionState
keep_casts s g cs = record s { kept = s.kept ++ flat_map (λ c. kept_by g c.provider c.cast) cs }

-- the outstanding requests that a Begin or Once carries are ended

unfoldable pub proposal_begun : SessionState → Proposal → SessionState
proposal_begun s (Join ps attrs n) = fold (λ t p. end_request t p p.join) s ps
proposal_begun s (Leave p r) = end_request s p r
proposal_begun s (Fail out) = s
proposal_begun s (Expel p r out) = end_request s p r
proposal_begun s (State p r value) = end_request s p r
proposal_begun s (Message p r bytes) = end_request s p r
proposal_begun s (Attributes p r attrs) = end_request s p r
proposal_begun s (Reflect view place value) = s

unfoldable pub requests_after : SessionState → Entry → SessionState
requests_after s (Once x) = proposal_begun s x
requests_after s (Begin x) = proposal_begun s x
requests_after s (Phase c) = s
requests_after s (Approve c) = s
requests_after s (Reject c) = s
requests_after s (Late proto phase ps) = s

-- a member or a running joiner
unfoldable pub is_present : GroupState → ProviderId → Bool
is_present after p = among after.members p || among (joiners_in after.running) p

-- those of ps whom the entry removes, or whose join it rejects
unfoldable pub removed_from : GroupState → List ProviderId → List ProviderId
removed_from after ps = filter (λ p. not (is_present after p)) ps

-- hand on

-- what is given out, where the clients of those that hear fill bs
unfoldable pub casts_out : SessionState → List ℕ → GroupState → GroupState → Entry → List (Option Filled) → List Cast
casts_out s g before after e bs = casts_of e after s.level (hearers s g before e) bs

-- ps were handed the notice, of whom beginning begin to take part, and their clients cast cs
unfoldable pub heard : SessionState → List ℕ → GroupState → Entry → List ProviderId → List ProviderId → List Cast → SessionState
heard s g after e ps beginning cs =
    let t : SessionState = part_taken (kept_after s g e) beginning in
    let u : SessionState = keep_casts (open_phases t e after ps) g cs in
    without_providers (requests_after u e) (removed_from after ps)

-- the state after an entry was handed on, and the clients filled bs
unfoldable pub handed_on : SessionState → List ℕ → GroupState → GroupState → Entry → List (Option Filled) → SessionState
handed_on s g before after e bs = heard s g after e (hearers s g before e) (beginners s g e) (casts_out s g before after e bs)

-- telling

abbrev pub is_dissolved : Why → Bool
is_dissolved why.Dissolved = true
is_dissolved _ = false

abbrev pub is_numbered : ℕ → Option Request → Bool
is_numbered r None = false
is_numbered r (Some q) = q.request == r

-- a telling is for a live provider: of its outstanding request, or that it is dissolved
unfoldable pub takes_telling : SessionState → ProviderId → ℕ → Why → Bool
takes_telling s p r y = is_some (provider_of s p) && (is_numbered r (outstanding s p) || is_dissolved y)

abbrev pub is_join : Proposal → Bool
is_join (Join ps attrs n) = true
is_join _ = false

abbrev pub is_join_request : Option Request → Bool
is_join_request None = false
is_join_request (Some q) = is_join q.proposal

-- a provider whose join is refused, or that is dissolved, is dropped
unfoldable pub told_of : SessionState → ProviderId → Why → SessionState
told_of s p y =
    if is_join_request (outstanding s p) || is_dissolved y then without_providers s (p ∷ [])
    else record s { requests = filter (λ q. not (among (p ∷ []) q.provider)) s.requests }

unfoldable pub take_telling : SessionState → ProviderId → ℕ → Why → SessionState
take_telling s p r y = if takes_telling s p r y then told_of s p y else s

abbrev pub place_subscribed : SessionState → Option Subscription → Option ℕ
place_subscribed s None = None
place_subscribed s (Some x) = client_place s x.client

-- the place of the client that has the subscription
unfoldable pub subscriber_of : SessionState → SubToken → Option ℕ
subscriber_of s t = place_subscribed s (find (has_token t) s.subs.live)

-- opens each word of this file, for a computation
unfoldable pub handon_opens : Unit {0}
unfolding kept_ended kept_after hearers_in beginners hearers part_taken asks opened_after open_phases cast_of keep_casts proposal_begun requests_after is_present removed_from casts_out heard handed_on takes_telling told_of take_telling subscriber_of
handon_opens = tt
