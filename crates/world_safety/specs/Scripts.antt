-- Every run of a script is safe.
use Rattle.std.specs.Prelude.{ℕ, ◌≡◌, ◌++◌, true, List}
use Rattle.node_state.specs.declared.config.Config.{Config}
use Rattle.node_state.specs.declared.happened.Happened.{Happened}
use Rattle.world_model.specs.declared.event.Event.{Event}
use Rattle.world_model.specs.declared.script.Script.{Script}
use Rattle.world_model.specs.Run.{trace_of}
use Rattle.world_model.specs.Reading.{IsScript, script_of}
use Rattle.world_model.specs.Play.{events_of, script_records}
use Rattle.world_model.specs.Kept.{kept_records}
use Rattle.run_safety.specs.Past.{History, EachEvent, EachRecord, Within, history_of}
use Rattle.run_safety.specs.Past as past
use Rattle.run_safety.specs.SafeGroups.{SafeGroups}
use Rattle.step_refinement.specs.Tied.{opening_of}
use Rattle.row_laws.specs.hearing.Hearing.{HeardInARow}
use Rattle.row_laws.specs.honest_votes.Casts.{VotesWereCast}
use Rattle.entry_laws.specs.closing_rows.Rows.{RowsAreVoters}
use Rattle.entry_laws.specs.late_rows.Late.{LateHadTime}
use Rattle.entry_laws.specs.late_rows.Announced.{LateWereAnnounced}
use Rattle.provider_laws.specs.attending.Places.{PlacesHeardOnce, PutNamed}
use Rattle.provider_laws.specs.single_casts.Single.{CastsOnce, CastsAfterNotice}
use Rattle.entry_laws.specs.carried_values.Carried.{FirstBallotsCarry}
use Rattle.row_laws.specs.failed_rows.Failures.{FailuresHaveCauses}
use Rattle.run_laws.specs.failed_causes.Causes.{FailuresHaveExactCauses}
use Rattle.run_laws.specs.failed_causes.Entering.{BasesFollowEntering}
use Rattle.entry_laws.specs.source_order.Sources.{ReflectionsRise, ReflectionsClimb, JoinsCarryLengths, FirstsFollowSources, JoinsOverSources}
use Rattle.run_laws.specs.ring_runs.Rings.{AddressesFit, NetworkAgrees}
use Rattle.run_laws.specs.seen_runs.Seen.{Seen}
use Rattle.run_laws.specs.seen_runs.Once.{RequestsBeginOnce}
use Rattle.run_laws.specs.seen_runs.Rings.{RingsSeen}
use Rattle.run_laws.specs.gapless.Alike.{HeardAlike}
use Rattle.run_safety.specs.SafeLists.{Each}
use Rattle.run_safety.specs.SafeHeard.{InOrder, NotLetGo, AllHear, Dissolves}
use Rattle.world_laws.specs.world_answers.Answers.{Answered, all_worded}
use Rattle.world_safety.specs.Events.{run_of_events}
use Rattle.world_safety.specs.Askers.{FirstAskersLead}
use Rattle.world_safety.specs.Floors.{ListsStartAsTold, LedListsStartAsHeld}
use Rattle.world_safety.specs.Moments.{AfterEach, AtEachMoment, AllTailsHeld, StepsSendFew}

-- the events of the run of these events with these answers, the latest first, each with its records
abbrev pub history_in : Config → List Answered → History
history_in c es = history_of (run_of_events c es)

-- These are the records of the run of these events with these answers, and it is safe. What each group sees of it stands in
-- `SafeLines`; each other field is of the run's own records, events and worlds. What follows from these fields stands in `Lemmas`.
pub record IsSafe (c : Config) (es : List Answered) (rs : List Happened) : Type 0 where
  -- ---- the run
  -- the records are those of the run of these events
  pub records : trace_of (run_of_events c es) ≡ rs
  -- ---- order, view synchrony, fold and bases, tallies, leaders: what each group sees is safe
  pub safe : SafeGroups (opening_of c) (history_in c es)
  -- a node notes the bases of a view directly after it enters that view, in the same event
  pub bases_follow : BasesFollowEntering (history_in c es)
  -- no entry names a joiner twice
  pub named : EachRecord PutNamed (history_in c es)
  -- ---- delivery
  -- a provider hears an entry as its node puts it, at the place after the last that it heard, or at that place once more
  pub hears : HeardInARow (history_in c es)
  -- it hears each place once, from 0 or its join on, while its node is up in that view
  pub heard_once : PlacesHeardOnce (history_in c es)
  -- it hears its first place, the next and so on, and takes part at each
  pub in_order : Each InOrder (history_in c es)
  -- in the event of a put each provider of the node that takes part at its place hears it, unless an earlier event let it go
  pub all_hear : EachEvent (λ event before. Within (AllHear event) event.records before) (history_in c es)
  -- two providers that take part at a place both heard it, with the same entry, members and value: so those whose nodes pass together
  -- heard the same from the greater of their first places on
  pub alike : HeardAlike (history_in c es)
  -- a provider hears nothing after an event that let it go
  pub not_let_go : EachRecord NotLetGo (history_in c es)
  -- just those are told DISSOLVED who are left behind as their node enters a view
  pub dissolves : EachEvent Dissolves (history_in c es)
  -- ---- votes and defaults
  -- an entry that closes a phase has one row for each voter, in the voters' order
  pub rows : RowsAreVoters (history_in c es)
  -- each vote in such a row was cast, in that phase
  pub cast : VotesWereCast (history_in c es)
  -- no provider casts twice in one phase of one protocol
  pub cast_once : CastsOnce (history_in c es)
  -- a provider casts after it heard the entry that opened the phase
  pub noticed : CastsAfterNotice (history_in c es)
  -- the value and the message of such an entry are those of the earliest row whose ballot has one
  pub carried : FirstBallotsCarry (history_in c es)
  -- who is late has the default vote, and the time limit was over
  pub late : LateHadTime (history_in c es)
  -- in a view of level 2 who is late was announced directly before
  pub announced : LateWereAnnounced c (history_in c es)
  -- ---- leaders and requests
  -- outside of mode fixed, who asks first for a group without a base leads it: the sender of the first LOOKUP that the coordinator took
  pub asked_first : FirstAskersLead c es
  -- each request is asked in one group, and at its own node it begins at one place of one view, over all groups
  pub once : RequestsBeginOnce (history_in c es)
  -- ---- failures
  -- who is said to have failed is on the failed list, or its own node gave it up, or it was cast out
  pub failed : FailuresHaveCauses (history_in c es)
  -- and whom its own node gave up without a goodbye did not pass into the view, and no join of that list names it
  pub causes : FailuresHaveExactCauses (history_in c es)
  -- ---- source groups
  -- a reflection names a place greater than the reflected one of the state before it
  pub rises : ReflectionsRise (history_in c es)
  -- and greater than that of each earlier one, along the list and through its bases
  pub climbs : ReflectionsClimb (history_in c es)
  -- a join carries a source length just where its attributes have a source
  pub lengths : JoinsCarryLengths (history_in c es)
  -- where it is put first, a reflection has the source's place and value; and a join has the attributes of its request where that was
  -- decided in an empty idle group, else the group's, and the length of the list of the source that these name
  pub sources : FirstsFollowSources (history_in c es)
  -- each joiner over a source has a member of the source on its node
  pub over : JoinsOverSources (history_in c es)
  -- ---- rings: of each network whose addresses differ, as those of every script do
  -- two records of one ring have the same members, with its leader and the node's neighbour where they have to be
  pub rings : (net : ℕ) → AddressesFit c net → NetworkAgrees c net (history_in c es)
  -- and the records by themselves show what they can of it
  pub rings_seen : (net : ℕ) → AddressesFit c net → RingsSeen net (past.records_of (history_in c es))
  -- ---- bounds: at each moment of the run
  -- what a node's list lacks at its front each member of its view has put, and acknowledged to the leader
  pub tails : AtEachMoment AllTailsHeld c es
  -- a list of a group that a node does not lead starts at the greatest place that it was told, by the ENTRYs that it took in its view
  pub forgets : AfterEach (ListsStartAsTold c) es
  -- and one of a group that it leads at the least number of entries that a member of its view holds, as it acknowledged
  pub forgets_least : AfterEach (LedListsStartAsHeld c) es
  -- the next step of a node sends few packets
  pub sends : AtEachMoment StepsSendFew c es
  -- ---- what records show
  -- the records by themselves show what records alone can show of all this
  pub seen : Seen (past.records_of (history_in c es))

-- where the clients vote by the words of a script
abbrev pub IsSafeRun : Config → List Event → List Happened → Type 0
IsSafeRun c es rs = IsSafe c (all_worded c es) rs

-- and the addresses of each network differ: then the rings of every network agree, and the records show that
pub record IsSafeScript (c : Config) (es : List Event) (rs : List Happened) : Type 0 where
  pub run : IsSafeRun c es rs
  pub rings : (net : ℕ) → NetworkAgrees c net (history_in c (all_worded c es))
  pub rings_seen : (net : ℕ) → RingsSeen net (past.records_of (history_in c (all_worded c es)))

-- the records of a script that has a `begin` are those of a safe run
abbrev pub ScriptIsSafe : Script → Type 0
ScriptIsSafe s = s.begun ≡ true → IsSafeScript s.config (events_of s.config s.lines) (script_records s)

-- so are those up to the event whose packets pass a number of bytes: they are the run of a front of its events
abbrev pub KeptRunIsSafe : ℕ → Script → Type 0
KeptRunIsSafe limit s = s.begun ≡ true → (es : List Event) × (fs : List Event) × (events_of s.config s.lines ≡ es ++ fs) × IsSafeScript s.config es (kept_records limit s)

-- whatever the bytes of a script are
abbrev pub EveryScriptIsSafe : Type 0
EveryScriptIsSafe = (bytes : List ℕ) (s : Script) → script_of bytes ≡ IsScript s → ScriptIsSafe s

abbrev pub EveryKeptRunIsSafe : Type 0
EveryKeptRunIsSafe = (limit : ℕ) (bytes : List ℕ) (s : Script) → script_of bytes ≡ IsScript s → KeptRunIsSafe limit s
