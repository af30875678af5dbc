-- The rows of an entry that closes a phase: one for each voter.
use Rattle.std.specs.Prelude.{ℕ, ◌≡◌, ◌≤◌, ◌⊎◌, true, false, List, map, Option, Some, None}
use Rattle.rsct_packet.specs.declared.ids.Member.{Member}
use Rattle.rsct_packet.specs.Search.{Has}
use Rattle.proposal_core.specs.declared.entry.Row.{Row}
use Rattle.proposal_core.specs.declared.entry.Entry.{Entry}
use Rattle.proposal_core.specs.declared.entry.Entry.TheVariants.{Once, Begin, Phase, Approve, Reject, Late}
use Rattle.proposal_core.specs.declared.group_state.GroupState.{GroupState}
use Rattle.proposal_core.specs.Fold.{voters}
use Rattle.proposal_core.specs.GroupView.{GroupView}
use Rattle.proposal_core.specs.Lists.{list_or_new, has_room}
use Rattle.vote_phases.specs.declared.voter.Voter.{Voter}
use Rattle.vote_phases.specs.Tally.{TallyView}
use Rattle.node_state.specs.declared.config.Config.{Config}
use Rattle.node_state.specs.declared.packet.Body.TheVariants as body
use Rattle.node_state.specs.declared.packet.Packet.{Packet}
use Rattle.node_state.specs.declared.state.Core.{Core}
use Rattle.node_state.specs.State.{row_of, led_of, state_of, list_of, len_of, acked_from, least_acked, leads}
use Rattle.node_state.specs.HandOn.{Answering}
use Rattle.node_state.specs.Step.{NodeEvent, Given, is_used, stepped}
use Rattle.node_state.specs.declared.happened.Happened.{Happened}
use Rattle.node_state.specs.declared.happened.Happened.TheVariants as happened
use Rattle.run_safety.specs.Past.{History, earlier, EachRecord, state_at}
use Rattle.run_safety.specs.SafeLists.{NextPlace, Fitting, Each}
use Rattle.step_refinement.specs.Tied.{Scene}
use Rattle.step_refinement.specs.Rules.{Arises}
use Rattle.step_refinement.specs.Runs.{Reached}

-- one row for each voter of the state, in the voters' order
abbrev pub AreOfVoters : GroupState → List Row → Type 0
AreOfVoters s rows = map (λ (r : Row). r.provider) rows ≡ voters s

-- the rows of an entry that closes a phase, where the state before it is this
abbrev pub HasRows : GroupState → Entry → Type 0
HasRows s (Once x) = Unit {0}
HasRows s (Begin x) = Unit {0}
HasRows s (Phase c) = AreOfVoters s c.rows
HasRows s (Approve c) = AreOfVoters s c.rows
HasRows s (Reject c) = AreOfVoters s c.rows
HasRows s (Late proto phase ps) = Unit {0}

-- the state before is that of the node's list up to the place
abbrev pub RecordRows : List Happened → History → Happened → Type 0
RecordRows now before (happened.Put n v g i e) = HasRows (state_at n v g i (earlier now before)) e
RecordRows now before _ = Unit {0}

-- Each entry that closes a phase, where a node puts it, has rows that are one for each voter of the state before it, in the
-- voters' order.
abbrev pub RowsAreVoters : History → Type 0
RowsAreVoters h = EachRecord RecordRows h

-- so in every scene that events lead to
abbrev pub RowsAreAlwaysVoters : Type 0
RowsAreAlwaysVoters = (c : Config) (w : Scene) → Reached c w → RowsAreVoters w.before

-- ---- the leader's tally

-- a slot for each voter of the state, in order
abbrev pub TallyFits : Option TallyView → GroupState → Type 0
TallyFits None st = Unit {0}
TallyFits (Some t) st = map (λ (x : Voter). x.provider) t.voters ≡ voters st

-- each tally that a node keeps of a group is of the voters of its list's state
abbrev pub TalliesAreOfVoters : Type 0
TalliesAreOfVoters =
    (c : Config) (w : Scene) → Reached c w → (n : ℕ) (s : Core) → w.cores n ≡ Some s → (g : List ℕ) → TallyFits (led_of s g).tally (state_of s g)

-- ---- what a list lacks at its front

-- where a list starts; 0 where there is none
abbrev pub start_in : Option GroupView → ℕ
start_in l = (list_or_new l).start

-- where the node's list of the group starts; 0 where it has none
abbrev pub start_of : Core → List ℕ → ℕ
start_of s g = start_in (row_of s g).list

-- The event gives the node an ENTRY of its view that says that all members hold so many entries of the group, and the node takes
-- it: at the end of its list one for which it has room, since places and bytes are counted in 32 bits.
pub record Tells (s : Core) (e : NodeEvent) (g : List ℕ) (k : ℕ) : Type 0 where
  pub packet : Packet
  pub given : e ≡ Given packet
  pub to : packet.to ≡ s.views.me
  pub place : ℕ
  pub entry : Entry
  pub says : packet.body ≡ body.Entry s.views.view g place k entry
  pub used : is_used s packet s.views.view ≡ true
  pub room : place ≡ len_of s g → has_room (list_of s g) entry ≡ true

-- The event gives the node, which leads the group, an ACK of its view in which the member says that it holds so many entries of the
-- group, and the node takes it.
pub record Acknowledges (s : Core) (e : NodeEvent) (g : List ℕ) (m k : ℕ) : Type 0 where
  pub packet : Packet
  pub given : e ≡ Given packet
  pub to : packet.to ≡ s.views.me
  pub from : packet.from ≡ m
  pub says : packet.body ≡ body.Ack s.views.view g k
  pub used : is_used s packet s.views.view ≡ true
  pub led : leads s g ≡ true

-- From one moment to the next, in one view: a number stays what it was, or becomes what the event says, whichever is greater.
pub record GoesOn (value : Core → ℕ) (Says : Core → NodeEvent → ℕ → Type 0) (s : Core) (e : NodeEvent) (t : Core) : Type 0 where
  pub view : t.views.view ≡ s.views.view
  pub old : value s ≤ value t
  pub told : (k : ℕ) → Says s e k → k ≤ value t
  pub one : (value t ≡ value s) ⊎ Says s e (value t)

-- the node entered its view in the event
pub record EntersView (t : Core) : Type 0 where
  pub members : List Member
  pub enters : Has (happened.In t.views.me t.views.view members) t.records

-- Whatever starts, stops and steps: at each node that takes a step, of each group that it does not lead after it, the start of the
-- list goes on to what the event tells. In a view that the node enters it is 0.
abbrev pub StepsForget : Type 0
StepsForget =
    (c : Config) (w : Scene) → Reached c w → (n : ℕ) (f : Answering) (s : Core) (e : NodeEvent) → w.cores n ≡ Some s → Arises w e → (g : List ℕ) → leads (stepped f s e) g ≡ false → ((leads s g ≡ false) × GoesOn (λ c. start_of c g) (λ c e k. Tells c e g k) s e (stepped f s e)) ⊎ (EntersView (stepped f s e) × (start_of (stepped f s e) g ≡ 0))

-- how many entries of the group a member acknowledged to the node, as it keeps that
abbrev pub acked_of : Core → List ℕ → ℕ → ℕ
acked_of s g m = acked_from m (led_of s g).acked

-- so does that number, of each group and member
abbrev pub StepsKeepAcks : Type 0
StepsKeepAcks =
    (c : Config) (w : Scene) → Reached c w → (n : ℕ) (f : Answering) (s : Core) (e : NodeEvent) → w.cores n ≡ Some s → Arises w e → (g : List ℕ) (m : ℕ) → GoesOn (λ c. acked_of c g m) (λ c e k. Acknowledges c e g m k) s e (stepped f s e) ⊎ (EntersView (stepped f s e) × (acked_of (stepped f s e) g m ≡ 0))

-- a list of a group that the node leads starts at the least length that a member of its view holds, as the node knows it
abbrev pub LeadersForget : Type 0
LeadersForget =
    (c : Config) (w : Scene) → Reached c w → (n : ℕ) (s : Core) → w.cores n ≡ Some s → (g : List ℕ) → leads s g ≡ true → start_of s g ≡ least_acked s g

-- ---- the records of one node

-- the places of a node's puts of one view and group are 0, 1, 2 and on
abbrev pub PutsAreInOrder : Type 0
PutsAreInOrder = (c : Config) (w : Scene) → Reached c w → Each NextPlace w.before

-- each entry fits the state that the node's records make before it: what closes a phase names the protocol and the phase
-- that run there
abbrev pub PutsFit : Type 0
PutsFit = (c : Config) (w : Scene) → Reached c w → Each Fitting w.before
