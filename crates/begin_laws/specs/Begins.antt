-- What an entry begins, where it is first put: in as many phases as its call said or its group's attributes have it, of a member, and
-- no more together than the attributes have it.
use Rattle.std.specs.Prelude.{◌≡◌, ◌⊎◌, ◌≤◌, ℕ, Bool, true, false, List, [], ◌∷◌, Some, length}
use Rattle.rsct_packet.specs.declared.ids.ProviderId.{ProviderId}
use Rattle.rsct_packet.specs.Providers.{among}
use Rattle.rsct_packet.specs.Search.{Has}
use Rattle.group_attr.specs.declared.attrs.Batch.{Batch}
use Rattle.group_attr.specs.declared.attrs.Batch.TheVariants.{Neither, Joins, Failures, Both}
use Rattle.group_attr.specs.declared.attrs.Phases.{Phases}
use Rattle.group_attr.specs.declared.attrs.Phases.TheVariants.{One, Many}
use Rattle.proposal_core.specs.declared.entry.Entry.{Entry}
use Rattle.proposal_core.specs.declared.entry.Entry.TheVariants.{Once, Begin}
use Rattle.proposal_core.specs.declared.group_state.GroupState.{GroupState}
use Rattle.proposal_core.specs.declared.proposal.Proposal.{Proposal}
use Rattle.proposal_core.specs.declared.proposal.Proposal.TheVariants.{Join, Leave, Fail, Expel, State, Message, Attributes, Reflect}
use Rattle.node_state.specs.declared.call.CallLine.{CallLine}
use Rattle.node_state.specs.declared.call.CallLine.TheVariants as call
use Rattle.node_state.specs.declared.config.Config.{Config}
use Rattle.node_state.specs.declared.happened.Happened.{Happened}
use Rattle.node_state.specs.declared.happened.Happened.TheVariants.{Asked, Put}
use Rattle.world_model.specs.Run.{Happening}
use Rattle.world_model.specs.declared.event.Event.TheVariants.{Call}
use Rattle.run_safety.specs.Past.{History, EachEvent, Within, earlier, state_now}
use Rattle.step_refinement.specs.Tied.{Scene}
use Rattle.row_laws.specs.failed_rows.Scenes.{Played}
use Rattle.entry_laws.specs.source_order.Sources.{PutBefore}

-- ---- who asked, and in how many phases

-- the call asks in so many phases. A join says nothing of them: its group's attributes do
abbrev pub AsksIn : CallLine → Phases → Type 0
AsksIn (call.Leave client g phases) n = phases ≡ n
AsksIn (call.Expel client g phases out) n = phases ≡ n
AsksIn (call.ChangeState client g phases value) n = phases ≡ n
AsksIn (call.SendMessage client g phases bytes) n = phases ≡ n
AsksIn (call.ChangeAttributes client g phases attrs) n = phases ≡ n
AsksIn _ n = ⊥

-- the event is a call, at the provider's own node, that asks in so many phases, and this is what it asked for
pub record AskedNow (e : Happening) (p : ProviderId) (r : ℕ) (g : List ℕ) (x : Proposal) (phases : Phases) : Type 0 where
  pub line : CallLine
  pub is : e.event ≡ Some (Call p.node line)
  pub asks : AsksIn line phases
  pub recorded : Has (Asked p r g x) e.records

-- one of these events is
abbrev pub AskedIn : History → ProviderId → ℕ → List ℕ → Proposal → Phases → Type 0
AskedIn [] p r g x phases = ⊥
AskedIn (e ∷ before) p r g x phases = AskedNow e p r g x phases ⊎ AskedIn before p r g x phases

-- ---- what begins

-- whether the attributes have joins begin together, and whether they have failures
abbrev pub joins_together : Batch → Bool
joins_together Neither = false
joins_together Joins = true
joins_together Failures = false
joins_together Both = true

abbrev pub failures_together : Batch → Bool
failures_together Neither = false
failures_together Joins = false
failures_together Failures = true
failures_together Both = true

-- all together, or no more than one
abbrev pub IsBatch : {A : Type 0} → Bool → List A → Type 0
IsBatch together xs = (together ≡ true) ⊎ (length xs ≤ 1)

-- who expels names members
abbrev pub expels : Proposal → List ProviderId
expels (Expel p r out) = out
expels _ = []

-- A change that a client asked for, in so many phases, where the group is in this state: its provider is a member that has not failed,
-- and whom it expels are members.
pub record ChangeBegins (h : History) (st : GroupState) (g : List ℕ) (phases : Phases) (p : ProviderId) (r : ℕ) (x : Proposal) : Type 0 where
  pub asked : AskedIn h p r g x phases
  pub member : among st.members p ≡ true
  pub living : among st.failed p ≡ false
  pub expelled : (q : ProviderId) → Has q (expels x) → among st.members q ≡ true

-- in so many phases this begins, with these events so far, where the group is in this state
abbrev pub IsBegun : History → GroupState → List ℕ → Phases → Proposal → Type 0
IsBegun h st g phases (Join ps attrs len) = (phases ≡ attrs.phases) × IsBatch (joins_together st.attrs.batch) ps
IsBegun h st g phases (Fail out) = (phases ≡ st.attrs.phases) × IsBatch (failures_together st.attrs.batch) out
IsBegun h st g phases (Leave p r) = ChangeBegins h st g phases p r (Leave p r)
IsBegun h st g phases (Expel p r out) = ChangeBegins h st g phases p r (Expel p r out)
IsBegun h st g phases (State p r value) = ChangeBegins h st g phases p r (State p r value)
IsBegun h st g phases (Message p r bytes) = ChangeBegins h st g phases p r (Message p r bytes)
IsBegun h st g phases (Attributes p r attrs) = ChangeBegins h st g phases p r (Attributes p r attrs)
IsBegun h st g phases (Reflect v i value) = phases ≡ st.attrs.source_phases

-- what the entry begins, with its phases: a proposal of one is decided at once, one of many is voted on
abbrev pub OfPhases : (Phases → Proposal → Type 0) → Entry → Type 0
OfPhases P (Once x) = P One x
OfPhases P (Begin x) = P Many x
OfPhases P _ = Unit {0}

-- a put of a place that nobody had put, by its node's records
abbrev pub RecordBegins : Happening → List Happened → History → Happened → Type 0
RecordBegins e now before (Put n v g i entry) =
    (PutBefore (earlier now before) v g i → ⊥) → OfPhases (IsBegun (record { event = e.event; records = now } ∷ before) (state_now n v g (earlier now before)) g) entry
RecordBegins e now before _ = Unit {0}

abbrev pub BeginsAsMeant : Happening → History → Type 0
BeginsAsMeant e before = Within (RecordBegins e) e.records before

-- each entry, where it is first put
abbrev pub EntriesBeginAsMeant : History → Type 0
EntriesBeginAsMeant h = EachEvent BeginsAsMeant h

-- whatever starts, stops and steps, where each call is noted as such
abbrev pub EntriesOfScenesBeginAsMeant : Type 0
EntriesOfScenesBeginAsMeant = (c : Config) (w : Scene) → Played c w → EntriesBeginAsMeant w.before
