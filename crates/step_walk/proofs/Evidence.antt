-- What a step changes, each change with all that its rule has tested: that the node leads the group, which packet was given,
-- that a ballot was cast, and which entry closes a phase. What keeps each of these keeps every rule.
use Rattle.std.specs.Prelude.{filter}
use Rattle.rsct_packet.specs.Providers.{differ}
use Rattle.proposal_core.specs.declared.proposal.Failure.{Failure}
use Rattle.proposal_core.specs.declared.proposal.Proposal.TheVariants.{Join, Fail, Reflect}
use Rattle.rsct_packet.specs.Providers.{among}
use Rattle.proposal_core.specs.Fold.{joins_of}
use Rattle.proposal_core.specs.Lists.{list_or_new}
use Rattle.batch_rules.specs.Waiting.{batches_failures, chosen_of, failures_left, joins_left, next_failures, next_joins}
use Rattle.source_target.specs.declared.Due.TheVariants as due
use Rattle.source_target.specs.Due as target
use Rattle.view_state.specs.declared.packet.ViewPacket.{ViewPacket}
use Rattle.view_state.specs.declared.packet.ViewPacket.TheVariants as packet
use Rattle.view_state.specs.declared.packet.ViewSend.{ViewSend}
use Rattle.view_state.specs.declared.views.ViewWork.{ViewWork}
use Rattle.node_state.specs.State.{list_of}
use Rattle.node_state.specs.Sending.{sent}
use Rattle.node_state.specs.Applying.{Lacking, lacking}
use Rattle.step_walk.proofs.Changes.{Answers, Installs}
use Rattle.std.proofs.Common.{◌≡◌, ◌⊎◌, ℕ, List, [], Option, Some, None, true, false}
use Rattle.std.specs.Prelude.{◌==◌, is_none, not}
use Rattle.rsct_packet.specs.declared.ids.ViewId.{ViewId}
use Rattle.rsct_packet.specs.declared.ids.ProviderId.{ProviderId}
use Rattle.rsct_packet.specs.declared.ids.ProtoId.{ProtoId}
use Rattle.rsct_packet.specs.Search.{Has}
use Rattle.group_attr.specs.declared.attrs.Attrs.{Attrs}
use Rattle.group_attr.specs.declared.attrs.Phases.{Phases}
use Rattle.group_attr.specs.declared.attrs.Phases.TheVariants.{One, Many}
use Rattle.proposal_core.specs.declared.proposal.Proposal.{Proposal}
use Rattle.proposal_core.specs.declared.entry.Vote.{Vote}
use Rattle.proposal_core.specs.declared.entry.Entry.{Entry}
use Rattle.proposal_core.specs.declared.entry.Entry.TheVariants.{Once, Begin, Late}
use Rattle.proposal_core.specs.declared.group_state.GroupState.{GroupState}
use Rattle.proposal_core.specs.declared.group_state.Running.{Running}
use Rattle.proposal_core.specs.Fold.{runs}
use Rattle.vote_phases.specs.Tally.{TallyView, expires, tally_fail, open_voters}
use Rattle.name_server.specs.declared.names.Leader.{Leader}
use Rattle.node_reach.specs.declared.reach.Reach.{Reach}
use Rattle.client_callbacks.specs.declared.told.Told.{Told}
use Rattle.client_callbacks.specs.declared.told.Why.{Why}
use Rattle.client_callbacks.specs.declared.ballot.Filled.{Filled}
use Rattle.session_state.specs.declared.casts.Cast.{Cast}
use Rattle.session_state.specs.declared.fault.GsFault.{GsFault}
use Rattle.session_state.specs.declared.state.KeptBallot.{KeptBallot}
use Rattle.session_state.specs.declared.state.Provider.{Provider}
use Rattle.session_state.specs.declared.state.SessionState.{SessionState}
use Rattle.session_state.specs.State.{provider_of, outstanding}
use Rattle.session_state.specs.HandOn.{casts_out, is_numbered, take_telling}
use Rattle.session_state.specs.HandOn as session
use Rattle.view_state.specs.declared.install.Install.{Install}
use Rattle.view_state.specs.Bases.{bases_of}
use Rattle.node_state.specs.declared.group.GroupRow.{GroupRow}
use Rattle.node_state.specs.declared.happened.Happened.TheVariants as happened
use Rattle.node_state.specs.declared.packet.Body.{Body}
use Rattle.node_state.specs.declared.packet.Body.TheVariants as body
use Rattle.node_state.specs.declared.packet.Packet.{Packet}
use Rattle.node_state.specs.declared.state.Core.{Core}
use Rattle.node_state.specs.State.{InNameOrder, with_row, with_led, led_of, state_of, len_of, fits_at_end, leader_of, leads, set_leader, recorded, with_sessions}
use Rattle.node_state.specs.Sending.{send_on}
use Rattle.node_state.specs.Leading.{put, with_tally, with_waiting, tally_set, tally_opened, closing_entry}
use Rattle.node_state.specs.Deciding.{keep_decision, is_idle_empty, join_refusal, known_state, lacks_source, other_refusal, wait_join}
use Rattle.node_state.specs.Ending.{attrs_for, carried_len, source_refused}
use Rattle.node_state.specs.Following.{vote_cast}
use Rattle.node_state.specs.Applying.{view_entered, number_of, dissolved}
use Rattle.node_state.specs.Ticks.{ticked_in}
use Rattle.node_state.specs.Step.{is_used}
use Rattle.step_walk.proofs.Changes.{Any, Mild, put_sent, handing, Viewing, viewing, Fairly, Asking, Refusal, Telling}
use Rattle.step_walk.proofs.Kept.{KeptIs, KeepsNoMore, OneMore}

-- ---- what rules have tested

-- the node leads the group, unless that is not asked
abbrev pub IsLed : Type 0 → Core → List ℕ → Type 0
IsLed Unasked s g = (leads s g ≡ true) ⊎ Unasked

-- a row changes, and what is counted in it does not: its list has no new entry, and joins that wait differ as before
pub record Beside (f : GroupRow → GroupRow) : Type 0 where
  pub mild : Mild f
  pub entries : (row : GroupRow) (e : Entry) → Has e (list_or_new (f row).list).entries → Has e (list_or_new row.list).entries
  pub apart : (row : GroupRow) → differ row.led.waiting.joins ≡ true → differ (f row).led.waiting.joins ≡ true
  pub tally : (row : GroupRow) → (f row).led.tally ≡ row.led.tally
  pub given : (row : GroupRow) → (f row).led.given ≡ row.led.given

-- a ballot was recorded in this step, or is one that the node keeps
abbrev pub Voting : Core → ProviderId → ProtoId → ℕ → Filled → Type 0
Voting s p proto phase b =
    Has (happened.Cast p proto phase b.vote b.value b.message) s.records ⊎ ((k : KeptBallot) × Has k s.sessions.kept × (k.provider ≡ p) × (k.proto ≡ proto) × (k.phase ≡ phase) × (k.ballot.filled ≡ Some b))

-- of views a node says by itself only that it has taken one
abbrev pub Taking : ViewPacket → Type 0
Taking (packet.Taken v) = Unit {0}
Taking _ = ⊥

-- what is sent, beside packets of rings and what the rules of views send: requests that are outstanding, refusals as they were
-- decided, ballots as they were cast, entries that stand in the list
abbrev pub Saying : Core → Body → Type 0
Saying s (body.Ring x) = ⊥
Saying s (body.Request v g p r phases x) = Asking s (body.Request v g p r phases x)
Saying s (body.Tell v g q r y) = Refusal s y
Saying s (body.Entry v g place stable e) = Has e (list_of s g).entries
Saying s (body.View y) = Taking y
Saying s (body.Vote v g proto phase p vote value message) = Voting s p proto phase (record { vote = vote; value = value; message = message })
Saying s _ = Unit {0}

-- an entry is put, sent to these nodes, and heard, where clients fill bs
abbrev pub delivered : Core → List ℕ → Entry → List ℕ → ℕ → List (Option Filled) → Core
delivered s g e ns stable bs = handing (put_sent s g e ns stable) g (len_of s g) (state_of s g) (state_of (put s g e) g) e bs

-- an entry of the leader that leaves the phase that runs: a proposal of one phase, or who is late
abbrev pub Plain : (Core → List ℕ → Phases → Proposal → Type 0) → Core → List ℕ → Entry → Type 0
Plain Begun s g (Once x) = Begun s g One x
Plain Begun s g (Late proto phase ps) =
    (t : TallyView) × (run : Running) × ((led_of s g).tally ≡ Some t) × ((state_of s g).running ≡ Some run) × (Late proto phase ps ≡ Late run.proto run.phase (open_voters t)) × (expires t ≡ true)
Plain Begun s g _ = ⊥

-- an entry of the leader that begins a phase, or is the closing entry of the one that runs
abbrev pub Turning : (Core → List ℕ → Phases → Proposal → Type 0) → Core → List ℕ → Entry → Type 0
Turning Begun s g (Begin x) = Begun s g Many x
Turning Begun s g e = closing_entry (led_of s g) (led_of s g).tally (state_of s g).running ≡ Some e

-- ---- what waits and begins at the end of a step

-- the failures that are chosen next, of those who are members
abbrev pub fallen : Core → List ℕ → List Failure
fallen s g = filter (λ (x : Failure). among (state_of s g).members x.provider) (next_failures (state_of s g).attrs.batch (led_of s g).waiting)

-- the joins that are chosen next, and the attributes that they begin with
abbrev pub chosen : Core → List ℕ → List ProviderId
chosen s g = next_joins (state_of s g).attrs.batch (led_of s g).waiting

abbrev pub chosen_attrs : Core → List ℕ → Attrs
chosen_attrs s g = attrs_for (state_of s g) (led_of s g).join_attrs (chosen s g)

-- of these those whose nodes have the source, and the others
abbrev pub joiners : Core → List ℕ → List ProviderId
joiners s g = filter (λ (q : ProviderId). not (lacks_source s (chosen_attrs s g).source q.node)) (chosen s g)

abbrev pub sourceless : Core → List ℕ → List ProviderId
sourceless s g = filter (λ (q : ProviderId). lacks_source s (chosen_attrs s g).source q.node) (chosen s g)

-- they wait no more, and the others were refused
abbrev pub joins_taken : Core → List ℕ → Core
joins_taken s g = source_refused (with_waiting s g (joins_left (state_of s g).attrs.batch)) g (chosen_attrs s g).source (sourceless s g)

-- ---- what is kept

-- by what changes beside lists, tallies and leaders
pub record KeepsBeside (P : Core → Type 0) (Ok : List ℕ → Type 0) : Type 0 where
  pub row : (s : Core) (g : List ℕ) (f : GroupRow → GroupRow) → Ok g → Beside f → P s → P (with_row s g f)
  pub sends : (s : Core) (network to : ℕ) (b : Body) → Saying s b → P s → P (send_on s network to b)
  pub notes : (s : Core) (n : ℕ) (client : List ℕ) (v : ViewId) (place : Option ℕ) (t : Told) → P s → P (recorded s (happened.Noted n client v place t))

-- by what a leader does in its groups, where what it begins is as Begun says, in so many phases. Between an entry that turns the
-- phase and the tally of the next one something else holds
pub record KeepsLed (P : Core → Type 0) (Between : List ℕ → Core → Type 0) (Begun : Core → List ℕ → Phases → Proposal → Type 0) (Ok : Core → List ℕ → Type 0) : Type 0 where
  pub decides : (s : Core) (g : List ℕ) (q : ProviderId) (r : ℕ) (y : Option Why) → Ok s g → Fairly y → P s → P (keep_decision s g q r y)
  pub puts : (s : Core) (g : List ℕ) (e : Entry) (ns : List ℕ) (stable : ℕ) (bs : List (Option Filled)) → Ok s g → fits_at_end s g e ≡ true → Plain Begun s g e → P s → P (delivered s g e ns stable bs)
  pub turns : (s : Core) (g : List ℕ) (e : Entry) (ns : List ℕ) (stable : ℕ) (bs : List (Option Filled)) → Ok s g → fits_at_end s g e ≡ true → Turning Begun s g e → P s → Between g (delivered s g e ns stable bs)
  pub rests : (s : Core) (g : List ℕ) → Ok s g → Between g s → P (tally_set s g None)
  pub opens : (s : Core) (g : List ℕ) → Ok s g → Between g s → P (tally_opened s g)

-- what begins at the end of a step is as Begun says: a failure, which waited or which is due, a reflection that is due, and a join
pub record KeepsEnding (P : Core → Type 0) (Begun : Core → List ℕ → Phases → Proposal → Type 0) : Type 0 where
  pub fails : (s : Core) (g : List ℕ) → P s → Begun (with_waiting s g (failures_left (state_of s g).attrs.batch)) g (state_of s g).attrs.phases (Fail (fallen s g))
  pub casts_out : (s : Core) (g h : List ℕ) (out : List Failure) → (state_of s g).attrs.source ≡ Some h → target.due (state_of s g) (known_state s h) ≡ Some (due.CastOut out) → P s → Begun s g (state_of s g).attrs.phases (Fail (chosen_of (batches_failures (state_of s g).attrs.batch) out))
  pub reflects : (s : Core) (g h : List ℕ) (v : ViewId) (i : ℕ) → (state_of s g).attrs.source ≡ Some h → target.due (state_of s g) (known_state s h) ≡ Some (due.Reflect v i) → P s → Begun s g (state_of s g).attrs.source_phases (Reflect v i (state_of s h).value)
  pub joins : (s : Core) (g : List ℕ) → P s → P (joins_taken s g) → Begun (joins_taken s g) g (chosen_attrs s g).phases (Join (joiners s g) (chosen_attrs s g) (carried_len (joins_taken s g) (chosen_attrs s g).source))

-- by both
pub record Keeping (P : Core → Type 0) (Between : List ℕ → Core → Type 0) (Begun : Core → List ℕ → Phases → Proposal → Type 0) (Unasked : Type 0) : Type 0 where
  pub order : (s : Core) → P s → InNameOrder s.groups ⊎ Unasked
  pub order_between : (g : List ℕ) (s : Core) → Between g s → InNameOrder s.groups ⊎ Unasked
  pub beside : KeepsBeside P Any
  pub between : (g : List ℕ) → KeepsBeside (Between g) Any
  pub led : KeepsLed P Between Begun (IsLed Unasked)

-- by the rules of packets of groups, by what is owed and what is led, where such packets are given. A change begins that was not
-- refused
pub record KeepsPackets (P : Core → Type 0) (Between : List ℕ → Core → Type 0) (Begun : Core → List ℕ → Phases → Proposal → Type 0) (Unasked : Type 0) (Given : Core → Packet → Type 0) : Type 0 where
  pub keeping : Keeping P Between Begun Unasked
  pub names : (s : Core) (ns : List Leader) → P s → P (record s { names = ns })
  pub reach : (s : Core) (x : Reach) → P s → P (record s { reach = x })
  pub named : (s : Core) (g : List ℕ) (n : ℕ) → is_none (leader_of s g) ≡ true → P s → P (set_leader s g n)
  pub requested : (s : Core) (q : Packet) (v : ViewId) (g : List ℕ) (p : ProviderId) (r : ℕ) (phases : Phases) (x : Proposal) → Given s q → q.to ≡ s.views.me → q.body ≡ body.Request v g p r phases x → is_used s q v ≡ true → P s → P (set_leader s g s.views.me) × IsLed Unasked (set_leader s g s.views.me) g
  pub changes : (s : Core) (q : Packet) (v : ViewId) (g : List ℕ) (p : ProviderId) (r : ℕ) (phases : Phases) (x : Proposal) → Given s q → q.to ≡ s.views.me → q.body ≡ body.Request v g p r phases x → is_used s q v ≡ true → joins_of x ≡ [] → other_refusal (set_leader s g s.views.me) g p x ≡ None → Begun (keep_decision (set_leader s g s.views.me) g p r None) g phases x
  pub joins : (s : Core) (g : List ℕ) (q : ProviderId) (r : ℕ) (a : Attrs) → join_refusal s g q a ≡ None → P s → P (wait_join s g q r a (is_idle_empty (state_of s g)))
  pub tells : (s : Core) (q : ProviderId) (r : ℕ) (y : Why) → Telling (Given s) y → is_numbered r (outstanding s.sessions q) ≡ true → P s → P (recorded (with_sessions s (take_telling s.sessions q r y)) (happened.Told q r y))
  pub comes : (s : Core) (q : Packet) (v : ViewId) (g : List ℕ) (place stable : ℕ) (e : Entry) (bs : List (Option Filled)) → Given s q → q.to ≡ s.views.me → q.body ≡ body.Entry v g place stable e → is_used s q v ≡ true → (place == len_of s g) ≡ true → fits_at_end s g e ≡ true → P s → P (delivered s g e [] 0 bs) × ((leads s g ≡ false) ⊎ Unasked)
  pub follows : (s : Core) (g : List ℕ) (n : ℕ) → (leads s g ≡ false) ⊎ Unasked → P s → P (set_leader s g n)
  pub casts : (s : Core) (q : Packet) (v : ViewId) (g : List ℕ) (proto : ProtoId) (phase : ℕ) (p : ProviderId) (vote : Vote) (value message : Option (List ℕ)) → Given s q → q.body ≡ body.Vote v g proto phase p vote value message → leads s g ≡ true → runs proto phase (state_of s g).running ≡ true → P s → P (with_led s g (λ l. vote_cast l p vote value message l.tally))
  pub fails : (s : Core) (g : List ℕ) (p : ProviderId) (t : TallyView) → IsLed Unasked s g → (led_of s g).tally ≡ Some t → P s → P (with_tally s g (Some (tally_fail p t)))
  pub ticks : (s : Core) (g : List ℕ) → IsLed Unasked s g → P s → P (with_tally s g (ticked_in (led_of s g).tally))
  pub reopens : (s : Core) (g : List ℕ) → IsLed Unasked s g → P s → P (tally_opened s g)

-- what a rule of views is given, where it is given more than its own
abbrev pub Arisen : (Core → Packet → Type 0) → Core → Viewing → Type 0
Arisen Given s (Answers v a) = (q : Packet) × Given s q × (q.body ≡ body.View (packet.Answer v a.view a.parts))
Arisen Given s (Installs i) = (q : Packet) × Given s q × (q.body ≡ body.View (packet.Install i))
Arisen Given s _ = Unit {0}

-- by the rules of views: what is known of a rule's work lasts while it is sent. What the node lacks of an install is put where
-- something less holds, until the view is entered
pub record KeepsEntering (P : Core → Type 0) (Works : Core → ViewWork → Type 0) (Leaving : Install → List Lacking → Core → Type 0) (Given : Core → Packet → Type 0) : Type 0 where
  pub views : (s : Core) (v : Viewing) → Arisen Given s v → P s → P (record s { views = (viewing s v).views }) × Works (record s { views = (viewing s v).views }) (viewing s v)
  pub sends : (s : Core) (w : ViewWork) (x : ViewSend) → Has x w.sends → P s → Works s w → P (sent s x.to (body.View x.packet)) × Works (sent s x.to (body.View x.packet)) w
  pub leaves : (s : Core) (w : ViewWork) (i : Install) (xs : List Lacking) → w.install ≡ Some i → lacking s i ≡ Some xs → P s → Works s w → Leaving i xs s
  pub beside : (i : Install) (xs : List Lacking) → KeepsBeside (Leaving i xs) Any
  pub fills : (s : Core) (i : Install) (xs : List Lacking) (x : Lacking) (e : Entry) (bs : List (Option Filled)) → Has x xs → Has e x.entries → Leaving i xs s → Leaving i xs (delivered s x.name e [] 0 bs)
  pub enters : (s : Core) (i : Install) (xs : List Lacking) → Leaving i xs s → P (view_entered s i (bases_of i))
  pub dissolves : (s : Core) (q : ProviderId) (x : Provider) → provider_of s.sessions q ≡ Some x → P s → P (dissolved s x.provider (number_of (outstanding s.sessions x.provider)))

-- by the calls of clients: no new ballot is kept, but by a vote, which is recorded
pub record KeepsCalling (P : Core → Type 0) : Type 0 where
  pub sessions : (s : Core) (t : SessionState) → KeepsNoMore s.sessions t → P s → P (with_sessions s t)
  pub refuses : (s : Core) (n : ℕ) (client : List ℕ) (fault : GsFault) → P s → P (recorded s (happened.Refused n client fault))
  pub asks : (s : Core) (p : ProviderId) (r : ℕ) (g : List ℕ) (x : Proposal) → P s → P (recorded s (happened.Asked p r g x))
  pub votes : (s : Core) (t : SessionState) (m : OneMore s.sessions t) → P s → P (recorded (with_sessions s t) (happened.Cast m.ballot.provider m.ballot.proto m.ballot.phase m.filled.vote m.filled.value m.filled.message))

-- by what follows as this entry was put, each by itself
pub record KeepsDelivery (P : Core → Type 0) (g : List ℕ) (e : Entry) : Type 0 where
  pub sends : (s : Core) (network to : ℕ) (v : ViewId) (place stable : ℕ) → P s → P (send_on s network to (body.Entry v g place stable e))
  pub hears : (s : Core) (before after : GroupState) (bs : List (Option Filled)) (c : Cast) (i : ℕ) → Has c (casts_out s.sessions g before after e bs) → P s → P (recorded s (happened.Heard c.provider s.views.view g i e after.members after.value))
  pub casts : (s : Core) (p : ProviderId) (proto : ProtoId) (phase : ℕ) (vote : Vote) (value message : Option (List ℕ)) → P s → P (recorded s (happened.Cast p proto phase vote value message))
  pub handed : (s : Core) (before after : GroupState) (bs : List (Option Filled)) → ((k : KeptBallot) → Has k (session.handed_on s.sessions g before after e bs).kept → Has k s.sessions.kept ⊎ KeptIs s.records k) → P s → P (with_sessions s (session.handed_on s.sessions g before after e bs))
