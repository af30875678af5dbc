-- What is tied: the step begins and ends, a node starts and stops, and rules of the step.
use Rattle.std.specs.Prelude.{ℕ, ◌+◌, ◌≡◌, ◌≢◌, ◌==◌, true, false, ◌∷◌, ◌++◌, [], List, reverse, fold, Option, Some, None, if◌then◌else◌}
use Rattle.rsct_packet.specs.declared.ids.ViewId.{ViewId}
use Rattle.rsct_packet.specs.declared.ids.ProtoId.{ProtoId}
use Rattle.rsct_packet.specs.declared.ids.ProviderId.{ProviderId}
use Rattle.rsct_packet.specs.declared.mask.Mask.{Mask}
use Rattle.rsct_packet.specs.Mask.{nodes_of}
use Rattle.rsct_packet.specs.Search.{Has}
use Rattle.packet_bodies.specs.declared.body.ReportRow.{ReportRow}
use Rattle.packet_bodies.specs.declared.body.What.{What}
use Rattle.adapter_ring.specs.declared.packet.RingPacket.{RingPacket}
use Rattle.group_attr.specs.declared.attrs.Phases.{Phases}
use Rattle.proposal_core.specs.declared.proposal.Proposal.{Proposal}
use Rattle.proposal_core.specs.declared.entry.Entry.{Entry}
use Rattle.proposal_core.specs.declared.entry.Vote.{Vote}
use Rattle.view_state.specs.declared.packet.ViewPacket.{ViewPacket}
use Rattle.view_state.specs.declared.packet.ViewPacket.TheVariants as view
use Rattle.client_callbacks.specs.declared.told.Why.{Why}
use Rattle.node_state.specs.Ending.{end_step}
use Rattle.node_state.specs.declared.call.CallLine.{CallLine}
use Rattle.node_state.specs.Calls.{take_call}
use Rattle.node_state.specs.declared.config.Config.{Config}
use Rattle.node_state.specs.declared.happened.Happened.{Happened}
use Rattle.node_state.specs.declared.happened.Happened.TheVariants as happened
use Rattle.node_state.specs.declared.packet.Body.TheVariants as body
use Rattle.node_state.specs.declared.packet.Body.{Body}
use Rattle.node_state.specs.declared.packet.Packet.{Packet}
use Rattle.node_state.specs.declared.state.Core.{Core}
use Rattle.node_state.specs.Settings.{is_fixed}
use Rattle.node_state.specs.HandOn.{Answering}
use Rattle.view_state.specs.declared.install.Part.{Part}
use Rattle.view_state.specs.declared.install.Install.{Install}
use Rattle.view_state.specs.declared.exchange.Exchange.{Exchange}
use Rattle.view_state.specs.Answers.{opened, with_answer, all_answered}
use Rattle.view_state.specs.declared.views.RingAsk.{RingAsk}
use Rattle.view_state.specs.Views.{own_answer, next_view}
use Rattle.node_state.specs.Applying.{own_parts}
use Rattle.node_state.specs.Ticks.{ring_ask, tick_rings, tick_views, tick_owed, tick_led}
use Rattle.node_state.specs.Step.{NodeEvent, Ticks, Asks, Given, Calls, Garbage, take_order, at_work, started, view_rule, take_body, packet_rule, stepped}
use Rattle.world_model.specs.declared.event.Event.{Event}
use Rattle.world_model.specs.Run.{Happening}
use Rattle.run_safety.specs.Past.{History}
use Rattle.run_safety.specs.Group.{kept}
use Rattle.run_safety.specs.Moves.{Quiet}
use Rattle.step_refinement.specs.Tied.{Scene, Begun, Rests, lines_now, Tied}

-- one value set
unfoldable pub at_node : {A : Type 0} → (ℕ → A) → ℕ → A → ℕ → A
at_node f n x m = if m == n then x else f m

-- an event that is over
abbrev pub over : Event → Core → Happening
over e s = record { event = Some e; records = reverse s.records }

-- a step is over: the node is as the step left it, what it sent is sent, and its records are those of the event
abbrev pub ended : Scene → ℕ → Event → Core → Scene
ended w n e s = record w { cores = at_node w.cores n (Some s); sent = s.sends ++ w.sent; before = over e s ∷ w.before }

abbrev pub start_with : Scene → ℕ → Event → Core → Scene
start_with w n e s = record (ended w n e s) { incs = at_node w.incs n (w.incs n + 1) }

abbrev pub stopped : Scene → ℕ → Event → Scene
stopped w n e =
    record w { cores = at_node w.cores n None; before = record { event = Some e; records = happened.Down n ∷ [] } ∷ w.before }

-- before anything happened
abbrev pub nothing_yet : Config → Scene
nothing_yet c = record { config = c; cores = λ m. None; incs = λ m. 0; sent = []; before = [] }

abbrev pub NothingTied : Type 0
NothingTied = (g : List ℕ) (c : Config) → Rests g (nothing_yet c)

-- a node starts too, in the event that goes on
abbrev pub with_records : History → List Happened → History
with_records [] rs = record { event = None; records = reverse rs } ∷ []
with_records (h ∷ before) rs = record h { records = reverse rs ++ h.records } ∷ before

abbrev pub starts_too : Scene → ℕ → Option Core → Scene
starts_too w n (Some s) = w
starts_too w n None =
    record w { cores = at_node w.cores n (Some (started w.config n (w.incs n + 1))); incs = at_node w.incs n (w.incs n + 1); before = with_records w.before (started w.config n (w.incs n + 1)).records }

-- every node starts, in one event
abbrev pub all_started : Config → Scene
all_started c =
    fold (λ (w : Scene) n. starts_too w n (w.cores n)) (record (nothing_yet c) { before = record { event = None; records = [] } ∷ [] }) (nodes_of c.nodes)

-- in mode fixed
abbrev pub FixedStartTied : Type 0
FixedStartTied = (g : List ℕ) (c : Config) → is_fixed c.mode ≡ true → Rests g (all_started c)

-- outside of mode fixed; 0 is no node's number
abbrev pub StartTied : Type 0
StartTied =
    (g : List ℕ) (w : Scene) (n : ℕ) (e : Event) → is_fixed w.config.mode ≡ false → n ≢ 0 → w.cores n ≡ None → Rests g w → Rests g (start_with w n e (started w.config n (w.incs n + 1)))

abbrev pub StopTied : Type 0
StopTied = (g : List ℕ) (w : Scene) (n : ℕ) (e : Event) (s : Core) → w.cores n ≡ Some s → Rests g w → Rests g (stopped w n e)

abbrev pub BeginTied : Type 0
BeginTied = (g : List ℕ) (w : Scene) (n : ℕ) (s : Core) → w.cores n ≡ Some s → Rests g w → Tied g w n (at_work s)

-- where no join of a led group waits without a list, neither at the node nor at the others
abbrev pub EndTied : Type 0
EndTied =
    (g : List ℕ) (w : Scene) (n : ℕ) (s : Core) (e : Event) → Begun g s → ((m : ℕ) (c : Core) → m ≢ n → w.cores m ≡ Some c → Begun g c) → Tied g w n s → Rests g (ended w n e s)

-- a packet that was sent is given, and this is its row
abbrev pub GivenTied : Body → Type 0
GivenTied b =
    (g : List ℕ) (w : Scene) (n : ℕ) (f : Answering) (s : Core) (p : Packet) → p.body ≡ b → Has p w.sent → Tied g w n s → Tied g w n (take_body f s p b)

abbrev pub ViewTied : ViewPacket → Type 0
ViewTied y =
    (g : List ℕ) (w : Scene) (n : ℕ) (f : Answering) (s : Core) (from inc : ℕ) → Tied g w n s → Tied g w n (view_rule f s from inc y)

abbrev pub TakenTied : Type 0
TakenTied = (v : ViewId) → ViewTied (view.Taken v)

abbrev pub RefuseTied : Type 0
RefuseTied = (v : ViewId) (k : ℕ) → ViewTied (view.Refuse v k)

abbrev pub PrepareTied : Type 0
PrepareTied = (v : ViewId) (mask : Mask) → GivenTied (body.View (view.Prepare v mask))

abbrev pub AckTied : Type 0
AckTied = (v : ViewId) (h : List ℕ) (k : ℕ) → GivenTied (body.Ack v h k)

abbrev pub EntryTied : Type 0
EntryTied = (v : ViewId) (h : List ℕ) (i stable : ℕ) (e : Entry) → GivenTied (body.Entry v h i stable e)

abbrev pub LookupTied : Type 0
LookupTied = (v : ViewId) (h : List ℕ) → GivenTied (body.Lookup v h)

abbrev pub NameTied : Type 0
NameTied = (v : ViewId) (h : List ℕ) (k : ℕ) → GivenTied (body.Name v h k)

abbrev pub TellTied : Type 0
TellTied = (v : ViewId) (h : List ℕ) (q : ProviderId) (r : ℕ) (why : Why) → GivenTied (body.Tell v h q r why)

-- REQUEST, given to whom it was sent, as the first rule of a step, before which no join of a led group waited without a
-- list; the relation stands for every group, since an older join of the provider may have been put in any
abbrev pub RequestTied : Type 0
RequestTied =
    (v : ViewId) (h : List ℕ) (q : ProviderId) (r : ℕ) (phases : Phases) (x : Proposal) (w : Scene) (n : ℕ) (f : Answering) (s : Core) (p : Packet) → p.to ≡ n → p.body ≡ body.Request v h q r phases x → Has p w.sent → s.records ≡ [] → ((k : List ℕ) → Begun k s) → ((k : List ℕ) → Tied k w n s) → (g : List ℕ) → Tied g w n (take_body f s p (body.Request v h q r phases x))

-- an answer that is not the last one
abbrev pub AnswerTied : Type 0
AnswerTied =
    (v old : ViewId) (parts : List Part) (g : List ℕ) (w : Scene) (n : ℕ) (f : Answering) (s : Core) (p : Packet) → p.body ≡ body.View (view.Answer v old parts) → Has p w.sent → ((e : Exchange) → s.views.gathering ≡ Some e → all_answered (with_answer e (record { node = p.from; inc = p.inc; view = old; parts = parts })) ≡ false) → Tied g w n s → Tied g w n (take_body f s p (body.View (view.Answer v old parts)))

-- an order to ask others too
abbrev pub AskTied : Type 0
AskTied =
    (mask : Mask) (g : List ℕ) (w : Scene) (n : ℕ) (f : Answering) (s : Core) → all_answered (with_answer (opened (next_view s.views) mask) (own_answer s.views (own_parts s))) ≡ false → Tied g w n s → Tied g w n (take_order f s mask)

-- the tick of views, parts (2) and (3), where others are asked too if it asks anew
abbrev pub ViewsPartTied : Type 0
ViewsPartTied =
    (g : List ℕ) (w : Scene) (n : ℕ) (f : Answering) (s : Core) → ((a : RingAsk) → ring_ask s ≡ Some a → all_answered (with_answer (opened (next_view s.views) a.mask) (own_answer s.views (own_parts s))) ≡ false) → Tied g w n s → Tied g w n (tick_views f s)

-- no node put anything since the event began
abbrev pub QuietNow : List ℕ → Scene → Core → Type 0
QuietNow g w s = Quiet (kept (lines_now g w s))

-- ANSWER, also the last one, with which the coordinator founds the view, as the first rule of a step;
-- the relation stands for every group, since the install carries the lists of all
abbrev pub FoundingAnswerTied : Type 0
FoundingAnswerTied =
    (v old : ViewId) (parts : List Part) (w : Scene) (n : ℕ) (f : Answering) (s : Core) (p : Packet) → p.body ≡ body.View (view.Answer v old parts) → Has p w.sent → s.records ≡ [] → ((h : List ℕ) → Tied h w n s) → (g : List ℕ) → Tied g w n (take_body f s p (body.View (view.Answer v old parts)))

-- an order to ask, also oneself alone, as the first rule of a step
abbrev pub FoundingAskTied : Type 0
FoundingAskTied =
    (mask : Mask) (w : Scene) (n : ℕ) (f : Answering) (s : Core) → s.records ≡ [] → ((h : List ℕ) → Tied h w n s) → (g : List ℕ) → Tied g w n (take_order f s mask)

-- the tick of views, parts (2) and (3), also where it asks oneself alone
abbrev pub FoundingTickTied : Type 0
FoundingTickTied =
    (w : Scene) (n : ℕ) (f : Answering) (s : Core) → ((h : List ℕ) → Tied h w n s) → (g : List ℕ) → QuietNow g w s → Tied g w n (tick_views f s)

-- INSTALL, as the first rule of a step
abbrev pub InstallTied : Type 0
InstallTied =
    (i : Install) (g : List ℕ) (w : Scene) (n : ℕ) (f : Answering) (s : Core) (p : Packet) → p.body ≡ body.View (view.Install i) → Has p w.sent → s.records ≡ [] → Tied g w n s → Tied g w n (take_body f s p (body.View (view.Install i)))

-- the tick, part (4): what is owed is sent
abbrev pub OwedPartTied : Type 0
OwedPartTied = (g : List ℕ) (w : Scene) (n : ℕ) (s : Core) → Tied g w n s → Tied g w n (tick_owed s)

-- VOTE
abbrev pub VoteTied : Type 0
VoteTied =
    (v : ViewId) (h : List ℕ) (proto : ProtoId) (phase : ℕ) (q : ProviderId) (ballot : Vote) (value message : Option (List ℕ)) (g : List ℕ) (w : Scene) (n : ℕ) (f : Answering) (s : Core) (p : Packet) → Tied g w n s → Tied g w n (take_body f s p (body.Vote v h proto phase q ballot value message))

-- GONE
abbrev pub GoneTied : Type 0
GoneTied =
    (v : ViewId) (h : List ℕ) (q : ProviderId) (g : List ℕ) (w : Scene) (n : ℕ) (f : Answering) (s : Core) (p : Packet) → Tied g w n s → Tied g w n (take_body f s p (body.Gone v h q))

-- a call
abbrev pub CallTied : Type 0
CallTied = (c : CallLine) (g : List ℕ) (w : Scene) (n : ℕ) (s : Core) → Tied g w n s → Tied g w n (take_call s c)

abbrev pub StepEndTied : Type 0
StepEndTied = (g : List ℕ) (w : Scene) (n : ℕ) (f : Answering) (s : Core) → Tied g w n s → Tied g w n (end_step f s)

-- a step up to its end
abbrev pub acted : Answering → Core → NodeEvent → Core
acted f s Ticks = tick_led f (tick_owed (tick_views f (tick_rings s)))
acted f s (Asks mask) = take_order f s mask
acted f s (Given p) = packet_rule f s p
acted f s (Calls c) = take_call s c
acted f s Garbage = s

-- a packet that is given was sent
abbrev pub Arises : Scene → NodeEvent → Type 0
Arises w (Given p) = Has p w.sent
Arises w _ = Unit {0}

-- a whole step: from the relation of all groups between two events to that of each
abbrev pub StepTied : Type 0
StepTied =
    (w : Scene) (n : ℕ) (f : Answering) (s : Core) (e : NodeEvent) (v : Event) → w.cores n ≡ Some s → ((h : List ℕ) → Rests h w) → Arises w e → (g : List ℕ) → Rests g (ended w n v (stepped f s e))

-- the tick, part (5): what is led
abbrev pub LedPartTied : Type 0
LedPartTied = (g : List ℕ) (w : Scene) (n : ℕ) (f : Answering) (s : Core) → Tied g w n s → Tied g w n (tick_led f s)

-- what no group sees: the tick, part (1), packets of rings, reports, questions and answers
abbrev pub RingsPartTied : Type 0
RingsPartTied = (g : List ℕ) (w : Scene) (n : ℕ) (s : Core) → Tied g w n s → Tied g w n (tick_rings s)

abbrev pub AnyTied : Body → Type 0
AnyTied b =
    (g : List ℕ) (w : Scene) (n : ℕ) (f : Answering) (s : Core) (p : Packet) → Tied g w n s → Tied g w n (take_body f s p b)

abbrev pub RingTied : Type 0
RingTied = (x : RingPacket) → AnyTied (body.Ring x)

abbrev pub ReportTied : Type 0
ReportTied = (rows : List ReportRow) → AnyTied (body.Report rows)

abbrev pub QueryTied : Type 0
QueryTied = (question : ℕ) (what : What) → AnyTied (body.Query question what)

abbrev pub ReplyTied : Type 0
ReplyTied = (question : ℕ) (text : List ℕ) → AnyTied (body.Reply question text)
