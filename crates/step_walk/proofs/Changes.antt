-- What a step changes, at the finest, each change with what its rule has tested: what keeps each of these keeps every rule.
use Rattle.std.proofs.Common.{◌≡◌, ◌⊎◌, ℕ, List, Option, Some, None, true, false}
use Rattle.std.specs.Prelude.{flat_map}
use Rattle.rsct_packet.specs.declared.ids.ProviderId.{ProviderId}
use Rattle.rsct_packet.specs.declared.ids.ProtoId.{ProtoId}
use Rattle.rsct_packet.specs.declared.ids.RingId.{RingId}
use Rattle.rsct_packet.specs.declared.ids.ViewId.{ViewId}
use Rattle.rsct_packet.specs.declared.mask.Mask.{Mask}
use Rattle.rsct_packet.specs.Search.{Has}
use Rattle.group_attr.specs.declared.attrs.Attrs.{Attrs}
use Rattle.proposal_core.specs.declared.proposal.Proposal.{Proposal}
use Rattle.proposal_core.specs.declared.entry.Vote.{Vote}
use Rattle.proposal_core.specs.declared.entry.Entry.{Entry}
use Rattle.proposal_core.specs.declared.group_state.GroupState.{GroupState}
use Rattle.proposal_core.specs.Lists.{len_in, state_in}
use Rattle.name_server.specs.declared.names.Leader.{Leader}
use Rattle.adapter_ring.specs.declared.ring.Ring.{Ring}
use Rattle.adapter_ring.specs.declared.packet.RingPacket.{RingPacket}
use Rattle.node_reach.specs.declared.reach.Reach.{Reach}
use Rattle.client_callbacks.specs.declared.told.Told.{Told}
use Rattle.client_callbacks.specs.declared.told.Why.{Why}
use Rattle.client_callbacks.specs.declared.told.Why.TheVariants.{GroupsFull}
use Rattle.client_callbacks.specs.declared.ballot.Filled.{Filled}
use Rattle.session_state.specs.declared.casts.Cast.{Cast}
use Rattle.session_state.specs.declared.fault.GsFault.{GsFault}
use Rattle.session_state.specs.declared.state.Provider.{Provider}
use Rattle.session_state.specs.declared.state.Request.{Request}
use Rattle.session_state.specs.declared.state.SessionState.{SessionState}
use Rattle.session_state.specs.State.{provider_of, outstanding}
use Rattle.session_state.specs.HandOn.{casts_out, is_dissolved, is_numbered, take_telling}
use Rattle.session_state.specs.HandOn as session
use Rattle.view_state.specs.declared.answer.Answer.{Answer}
use Rattle.view_state.specs.declared.install.Install.{Install}
use Rattle.view_state.specs.declared.views.ViewWork.{ViewWork}
use Rattle.view_state.specs.Bases.{bases_of}
use Rattle.view_state.specs.Views.{views_at_work, ask_rule, prepare_rule, answer_rule, refuse_rule, install_rule, taken_rule, gathering_ticks, install_again}
use Rattle.node_state.specs.declared.group.Decision.{Decision}
use Rattle.node_state.specs.declared.group.GroupRow.{GroupRow}
use Rattle.node_state.specs.declared.happened.Happened.TheVariants as happened
use Rattle.node_state.specs.declared.packet.Body.{Body}
use Rattle.node_state.specs.declared.packet.Body.TheVariants as body
use Rattle.node_state.specs.declared.packet.Packet.{Packet}
use Rattle.node_state.specs.declared.state.Core.{Core}
use Rattle.node_state.specs.State.{with_row, led_of, state_of, len_of, set_leader, decision_of, recorded, recorded_all, with_sessions}
use Rattle.node_state.specs.Sending.{send_on, send_all}
use Rattle.node_state.specs.HandOn.{heard}
use Rattle.node_state.specs.Leading.{put}
use Rattle.node_state.specs.Deciding.{keep_decision, is_idle_empty, join_refusal, wait_join}
use Rattle.node_state.specs.Applying.{own_parts, view_entered, number_of, dissolved}
use Rattle.node_state.specs.Ticks.{ring_rule, ring_ask, tick_rings}
use Rattle.node_state.proofs.NameOrder.{KeepsName}
use Rattle.step_walk.proofs.Waiting.{Few}

-- ---- what changes

-- every group
abbrev pub Any : List ℕ → Type 0
Any g = Unit {0}

-- every packet
abbrev pub Whatever : Packet → Type 0
Whatever q = Unit {0}

-- a row changes in what is led, or its list forgets: its name, its leader, how long its list is and what it has come to, and
-- what was decided stay, and few wait
pub record Mild (f : GroupRow → GroupRow) : Type 0 where
  pub name : KeepsName f
  pub leader : (row : GroupRow) → (f row).leader ≡ row.leader
  pub len : (row : GroupRow) → len_in (f row).list ≡ len_in row.list
  pub state : (row : GroupRow) → state_in (f row).list ≡ state_in row.list
  pub decided : (row : GroupRow) → (f row).led.decided ≡ row.led.decided
  pub few : (row : GroupRow) → Few row.led.waiting → Few (f row).led.waiting

-- an entry is put, and sent to these nodes
abbrev pub put_sent : Core → List ℕ → Entry → List ℕ → ℕ → Core
put_sent s g e ns stable = let t : Core = put s g e in send_all t ns (body.Entry t.views.view g (len_of s g) stable e)

-- those who hear an entry hear it, where clients fill bs
abbrev pub handing : Core → List ℕ → ℕ → GroupState → GroupState → Entry → List (Option Filled) → Core
handing c g i before after e bs =
    with_sessions (recorded_all c (flat_map (heard c g i e after) (casts_out c.sessions g before after e bs))) (session.handed_on c.sessions g before after e bs)

-- a rule of views
pub data Viewing : Type 0 where
  Asks : (mask : Mask) → Viewing
  Prepares : (from inc : ℕ) (v : ViewId) (mask : Mask) → Viewing
  Answers : (v : ViewId) (a : Answer) → Viewing
  Refuses : (v : ViewId) (n : ℕ) → Viewing
  Installs : (i : Install) → Viewing
  Takes : (from : ℕ) (v : ViewId) → Viewing
  Gathers : Viewing
  Reminds : Viewing

-- and what it makes of the views of a node
abbrev pub viewing : Core → Viewing → ViewWork
viewing s (Asks mask) = ask_rule (views_at_work s.views) mask (own_parts s)
viewing s (Prepares from inc v mask) = prepare_rule (views_at_work s.views) from inc v mask (own_parts s)
viewing s (Answers v a) = answer_rule (views_at_work s.views) v a
viewing s (Refuses v n) = refuse_rule (views_at_work s.views) v n
viewing s (Installs i) = install_rule (views_at_work s.views) i
viewing s (Takes from v) = taken_rule (views_at_work s.views) from v
viewing s Gathers = gathering_ticks (views_at_work s.views) (ring_ask s) (own_parts s)
viewing s Reminds = install_again (views_at_work s.views)

-- ---- what is sent and told

-- it is not that a group was dissolved
abbrev pub Fairly : Option Why → Type 0
Fairly None = Unit {0}
Fairly (Some y) = is_dissolved y ≡ false

-- what a leader answers: such a refusal, or what it decided before
abbrev pub Refusal : Core → Why → Type 0
Refusal s y = (is_dissolved y ≡ false) ⊎ ((g : List ℕ) × (q : ProviderId) × (d : Decision) × (decision_of (led_of s g) q ≡ Some d) × (d.why ≡ Some y))

-- a request is sent that is outstanding
abbrev pub Asking : Core → Body → Type 0
Asking s b = (q : Request) × Has q s.sessions.requests × (b ≡ body.Request s.views.view q.group q.provider q.request q.phases q.proposal)

-- what is sent, beside packets of rings
abbrev pub Spoken : Core → Body → Type 0
Spoken s (body.Ring x) = ⊥
Spoken s (body.Request v g p r phases x) = Asking s (body.Request v g p r phases x)
Spoken s (body.Tell v g q r y) = Refusal s y
Spoken s _ = Unit {0}

abbrev pub Tells : Body → Why → Type 0
Tells (body.Tell v g q r x) y = y ≡ x
Tells _ y = ⊥

-- what a client is told outside of a view's beginning: that there are too many groups, or what a packet tells that was given
abbrev pub Telling : (Packet → Type 0) → Why → Type 0
Telling Given y = (y ≡ GroupsFull 64) ⊎ ((q : Packet) × Given q × Tells q.body y)

-- ---- what is kept

-- by appending, closing, beginning and refusing in such groups
pub record Keeps (P : Core → Type 0) (Ok : List ℕ → Type 0) : Type 0 where
  pub row : (s : Core) (g : List ℕ) (f : GroupRow → GroupRow) → Ok g → Mild f → P s → P (with_row s g f)
  pub decides : (s : Core) (g : List ℕ) (q : ProviderId) (r : ℕ) (y : Option Why) → Ok g → Fairly y → P s → P (keep_decision s g q r y)
  pub sends : (s : Core) (network to : ℕ) (b : Body) → Spoken s b → P s → P (send_on s network to b)
  pub notes : (s : Core) (n : ℕ) (client : List ℕ) (v : ViewId) (place : Option ℕ) (t : Told) → P s → P (recorded s (happened.Noted n client v place t))
  pub hands : (s : Core) (g : List ℕ) (e : Entry) (ns : List ℕ) (stable : ℕ) (bs : List (Option Filled)) → Ok g → P s → P (handing (put_sent s g e ns stable) g (len_of s g) (state_of s g) (state_of (put s g e) g) e bs)

-- by the rules of packets of groups, by what is owed and what is led, where such packets are given
pub record KeepsRules (P : Core → Type 0) (Given : Packet → Type 0) : Type 0 where
  pub keeps : Keeps P Any
  pub names : (s : Core) (ns : List Leader) → P s → P (record s { names = ns })
  pub reach : (s : Core) (x : Reach) → P s → P (record s { reach = x })
  pub leads : (s : Core) (g : List ℕ) (n : ℕ) → P s → P (set_leader s g n)
  pub joins : (s : Core) (g : List ℕ) (q : ProviderId) (r : ℕ) (a : Attrs) → join_refusal s g q a ≡ None → P s → P (wait_join s g q r a (is_idle_empty (state_of s g)))
  pub tells : (s : Core) (q : ProviderId) (r : ℕ) (y : Why) → Telling Given y → is_numbered r (outstanding s.sessions q) ≡ true → P s → P (recorded (with_sessions s (take_telling s.sessions q r y)) (happened.Told q r y))

-- by the rules of rings
pub record KeepsRings (P : Core → Type 0) (Given : Packet → Type 0) : Type 0 where
  pub ticks : (s : Core) → P s → P (tick_rings s)
  pub takes : (s : Core) (q : Packet) (x : RingPacket) → Given q → q.to ≡ s.views.me → q.body ≡ body.Ring x → P s → P (ring_rule s q.network q.from q.inc x)

-- by the rules of views, and by entering one
pub record KeepsViews (P : Core → Type 0) : Type 0 where
  pub views : (s : Core) (v : Viewing) → P s → P (record s { views = (viewing s v).views })
  pub enters : (s : Core) (i : Install) → P s → P (view_entered s i (bases_of i))
  pub dissolves : (s : Core) (q : ProviderId) (x : Provider) → provider_of s.sessions q ≡ Some x → P s → P (dissolved s x.provider (number_of (outstanding s.sessions x.provider)))

-- by the calls of clients
pub record KeepsCalls (P : Core → Type 0) : Type 0 where
  pub sessions : (s : Core) (t : SessionState) → P s → P (with_sessions s t)
  pub refuses : (s : Core) (n : ℕ) (client : List ℕ) (fault : GsFault) → P s → P (recorded s (happened.Refused n client fault))
  pub asks : (s : Core) (p : ProviderId) (r : ℕ) (g : List ℕ) (x : Proposal) → P s → P (recorded s (happened.Asked p r g x))
  pub casts : (s : Core) (p : ProviderId) (proto : ProtoId) (phase : ℕ) (vote : Vote) (value message : Option (List ℕ)) → P s → P (recorded s (happened.Cast p proto phase vote value message))

-- ---- what is kept by parts

-- putting, sending, and what is recorded and what becomes of the sessions as an entry is heard, each by itself
pub record KeepsParts (P : Core → Type 0) (Ok : List ℕ → Type 0) : Type 0 where
  pub sends : (s : Core) (network to : ℕ) (b : Body) → Spoken s b → P s → P (send_on s network to b)
  pub puts : (s : Core) (g : List ℕ) (e : Entry) → Ok g → P s → P (put s g e)
  pub hears : (s : Core) (g : List ℕ) (before after : GroupState) (e : Entry) (bs : List (Option Filled)) (c : Cast) (i : ℕ) → Has c (casts_out s.sessions g before after e bs) → P s → P (recorded s (happened.Heard c.provider s.views.view g i e after.members after.value))
  pub casts : (s : Core) (p : ProviderId) (proto : ProtoId) (phase : ℕ) (vote : Vote) (value message : Option (List ℕ)) → P s → P (recorded s (happened.Cast p proto phase vote value message))
  pub handed : (s : Core) (g : List ℕ) (before after : GroupState) (e : Entry) (bs : List (Option Filled)) → P s → P (with_sessions s (session.handed_on s.sessions g before after e bs))

-- a ring that is set, what it sends and what is recorded of it
pub record KeepsRing (P : Core → Type 0) : Type 0 where
  pub rings : (s : Core) (rs : List Ring) → P s → P (record s { rings = rs })
  pub sends : (s : Core) (network to : ℕ) (x : RingPacket) → P s → P (send_on s network to (body.Ring x))
  pub records : (s : Core) (n network : ℕ) (id : RingId) (members : Mask) (neighbour : ℕ) → P s → P (recorded s (happened.Ring n network id members neighbour))
