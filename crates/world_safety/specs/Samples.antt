-- Small runs, for worked examples of what is asked of a run: in each a client comes and joins a group.
use Rattle.std.specs.Prelude.{ℕ, List, [], ◌∷◌, ◌++◌, length, map, reverse, codes, Option, Some, None}
use Rattle.rsct_packet.specs.declared.ids.ViewId.{ViewId}
use Rattle.rsct_packet.specs.declared.ids.Member.{Member}
use Rattle.rsct_packet.specs.declared.ids.ProviderId.{ProviderId}
use Rattle.group_attr.specs.Attrs.{empty_attrs}
use Rattle.group_attr.specs.declared.attrs.Attrs.{Attrs}
use Rattle.group_attr.specs.declared.attrs.Phases.TheVariants.{One}
use Rattle.client_callbacks.specs.declared.told.Why.TheVariants.{Dissolved}
use Rattle.proposal_core.specs.declared.proposal.Proposal.{Proposal}
use Rattle.proposal_core.specs.declared.proposal.Proposal.TheVariants as proposal
use Rattle.proposal_core.specs.declared.entry.Entry.{Entry}
use Rattle.proposal_core.specs.declared.group_state.GroupState.{GroupState}
use Rattle.proposal_core.specs.declared.entry.Entry.TheVariants.{Once}
use Rattle.node_state.specs.declared.call.CallLine.TheVariants as call
use Rattle.node_state.specs.declared.config.Config.{Config}
use Rattle.node_state.specs.declared.config.Mode.TheVariants.{Fixed, Asked}
use Rattle.node_state.specs.declared.happened.Happened.{Happened}
use Rattle.node_state.specs.declared.happened.Happened.TheVariants as happened
use Rattle.node_state.specs.declared.packet.Body.TheVariants as body
use Rattle.node_state.specs.declared.packet.Packet.{Packet}
use Rattle.node_state.specs.declared.state.Core.{Core}
use Rattle.node_state.specs.Step.{started}
use Rattle.world_model.specs.declared.event.Event.{Event}
use Rattle.world_model.specs.declared.event.Event.TheVariants as event
use Rattle.world_model.specs.Run.{Happening}
use Rattle.world_model.specs.Load.{settings_of, mask_of}
use Rattle.run_safety.specs.Past.{History, history_of}
use Rattle.world_laws.specs.world_answers.Answers.{answered_after, all_worded}
use Rattle.entry_laws.specs.closing_rows.Rows.{start_of}
use Rattle.world_safety.specs.Events.{run_of_events}
use Rattle.world_safety.specs.Mirrors.{core_at}

-- what is recorded, the latest event first, where the clients vote by their words
unfoldable pub history_after : Config → List Event → History
history_after c es = history_of (run_of_events c (all_worded c es))

-- ---- what is called and recorded

-- a client begins a session, in which it votes APPROVE
abbrev pub comes : ℕ → List ℕ → Event
comes n name = event.Call n (call.Init n name (codes "A"))

abbrev pub joins : ℕ → List ℕ → List ℕ → ℕ → Attrs → Event
joins n name group instance attrs = event.Call n (call.Join name group instance attrs)

abbrev pub db : List ℕ
db = codes "db"

abbrev pub src : List ℕ
src = codes "src"

-- an event, with what it records, the latest record first
abbrev pub happening : Event → List Happened → Happening
happening e rs = record { event = Some e; records = rs }

-- one provider joins, with these attributes, over so many entries of a source
abbrev pub join_of : ProviderId → Attrs → Option ℕ → Proposal
join_of p attrs len = proposal.Join (p ∷ []) attrs len

abbrev pub asks : ProviderId → List ℕ → Attrs → List Happened
asks p g attrs = happened.Asked p p.join g (join_of p attrs None) ∷ []

-- ---- the attributes of a join: one node, in mode fixed

abbrev pub one : Config
one = settings_of Fixed (1 ∷ [])

abbrev pub one_view : ViewId
one_view = record { number = 1; coord = 1; inc = 1 }

abbrev pub one_member : Member
one_member = record { node = 1; inc = 1 }

-- the provider that joined first on the node, and the second one
abbrev pub first_joiner : ProviderId
first_joiner = record { node = 1; inc = 1; instance = 7; join = 1 }

abbrev pub second_joiner : ProviderId
second_joiner = record { node = 1; inc = 1; instance = 8; join = 2 }

-- the node starts
abbrev pub begins : Happening
begins = record { event = None; records = happened.In 1 one_view (one_member ∷ []) ∷ happened.Up 1 1 ∷ [] }

-- it puts an entry into its list of the group, and a provider hears it
abbrev pub puts : List ℕ → ℕ → Entry → Happened
puts g i e = happened.Put 1 one_view g i e

abbrev pub hears : ProviderId → List ℕ → ℕ → Entry → List ProviderId → Happened
hears p g i e members = happened.Heard p one_view g i e members []

-- a time limit of five ticks
abbrev pub limited : Attrs
limited = record (empty_attrs) { limit = 5 }

-- a client joins a group, and asks for these attributes; and then a second one
unfoldable pub one_join : List Event
one_join = comes 1 (codes "a") ∷ joins 1 (codes "a") db 7 limited ∷ event.Deliver 1 1 1 ∷ []

unfoldable pub two_join : List Event
two_join = one_join ++ comes 1 (codes "b") ∷ joins 1 (codes "b") db 8 limited ∷ event.Deliver 1 1 2 ∷ []

abbrev pub one_in : Attrs → List Happened
one_in attrs =
    let e : Entry = Once (join_of first_joiner attrs None) in hears first_joiner db 0 e (first_joiner ∷ []) ∷ puts db 0 e ∷ []

abbrev pub two_in : Attrs → List Happened
two_in attrs =
    let e : Entry = Once (join_of second_joiner attrs None) in
    let members : List ProviderId = first_joiner ∷ second_joiner ∷ [] in
    hears second_joiner db 1 e members ∷ hears first_joiner db 1 e members ∷ puts db 1 e ∷ []

-- what is recorded where the entries carry these attributes
unfoldable pub one_joined : Attrs → History
one_joined attrs =
    happening (event.Deliver 1 1 1) (one_in attrs)
    ∷ happening (joins 1 (codes "a") db 7 limited) (asks first_joiner db limited)
    ∷ happening (comes 1 (codes "a")) []
    ∷ begins
    ∷ []

unfoldable pub two_joined : Attrs → Attrs → History
two_joined first second =
    happening (event.Deliver 1 1 2) (two_in second)
    ∷ happening (joins 1 (codes "b") db 8 limited) (asks second_joiner db limited)
    ∷ happening (comes 1 (codes "b")) []
    ∷ one_joined first

-- the group follows a source
abbrev pub sourced : Attrs
sourced = record (empty_attrs) { source = Some src }

-- one client joins the source, and another one the target
unfoldable pub target_joins : List Event
target_joins = comes 1 (codes "a") ∷ joins 1 (codes "a") src 7 empty_attrs ∷ event.Deliver 1 1 1 ∷ comes 1 (codes "b") ∷ joins 1 (codes "b") db 8 sourced ∷ event.Deliver 1 1 2 ∷ []

abbrev pub source_in : List Happened
source_in =
    let e : Entry = Once (join_of first_joiner empty_attrs None) in hears first_joiner src 0 e (first_joiner ∷ []) ∷ puts src 0 e ∷ []

abbrev pub target_in : Attrs → Option ℕ → List Happened
target_in attrs len =
    let e : Entry = Once (join_of second_joiner attrs len) in hears second_joiner db 0 e (second_joiner ∷ []) ∷ puts db 0 e ∷ []

-- what is recorded where the target's entry carries these attributes, and this length of the source's list
unfoldable pub target_joined : Attrs → Option ℕ → History
target_joined attrs len =
    happening (event.Deliver 1 1 2) (target_in attrs len)
    ∷ happening (joins 1 (codes "b") db 8 sourced) (asks second_joiner db sourced)
    ∷ happening (comes 1 (codes "b")) []
    ∷ happening (event.Deliver 1 1 1) source_in
    ∷ happening (joins 1 (codes "a") src 7 empty_attrs) (asks first_joiner src empty_attrs)
    ∷ happening (comes 1 (codes "a")) []
    ∷ begins
    ∷ []

-- ---- who asks first: two nodes, in mode asked

abbrev pub two : Config
two = settings_of Asked (1 ∷ 2 ∷ [])

-- the view of both
abbrev pub two_view : ViewId
two_view = record { number = 2; coord = 1; inc = 1 }

-- a node asks node 1 who leads the group
abbrev pub lookup_of : ℕ → Packet
lookup_of asker = record { network = 1; from = asker; to = 1; inc = 1; level = 1; domain = 0; body = body.Lookup two_view db }

-- node 1 asks for a view of both; a client of node 2 joins, and node 2 asks who leads
unfoldable pub until_asked : List Event
until_asked =
    event.Start 1 ∷ event.Start 2 ∷ event.Ask 1 (mask_of (1 ∷ 2 ∷ [])) ∷ event.Deliver 1 2 1 ∷ event.Deliver 2 1 1 ∷ event.Deliver 1 2 2 ∷ comes 2 (codes "a") ∷ joins 2 (codes "a") db 7 empty_attrs ∷ []

-- node 1 takes what it asks itself for a client of its own; node 2 is told who leads
unfoldable pub after_asked : List Event
after_asked = comes 1 (codes "b") ∷ joins 1 (codes "b") db 8 empty_attrs ∷ event.Deliver 1 1 1 ∷ event.Deliver 1 2 3 ∷ []

-- it is itself: it takes its client's request, and node 1 takes the entry
unfoldable pub second_leads : List Event
second_leads = after_asked ++ event.Deliver 2 2 1 ∷ event.Deliver 2 1 4 ∷ []

-- it is node 1, which takes that request, and node 2 takes the entry
unfoldable pub first_leads : List Event
first_leads = after_asked ++ event.Deliver 2 1 4 ∷ event.Deliver 1 2 4 ∷ []

abbrev pub asks_first : Event
asks_first = event.Deliver 2 1 3

-- node 2 asks first, and then this happens
unfoldable pub two_ask : List Event → List Event
two_ask then = until_asked ++ asks_first ∷ then

abbrev pub two_members : List Member
two_members = one_member ∷ record { node = 2; inc = 1 } ∷ []

abbrev pub alone : ℕ → Happening
alone n =
    happening (event.Start n) (happened.In n (record { number = 1; coord = n; inc = 1 }) (record { node = n; inc = 1 } ∷ []) ∷ happened.Up n 1 ∷ [])

abbrev pub enters : ℕ → List Happened
enters n = happened.In n two_view two_members ∷ []

-- the provider that node 2 asks for, and the one that node 1 asks for
abbrev pub first_asker : ProviderId
first_asker = record { node = 2; inc = 1; instance = 7; join = 1 }

abbrev pub second_asker : ProviderId
second_asker = record { node = 1; inc = 1; instance = 8; join = 1 }

-- what is recorded until node 2 knows who leads
unfoldable pub until_named : History
until_named =
    happening (event.Deliver 1 2 3) []
    ∷ happening (event.Deliver 1 1 1) []
    ∷ happening (joins 1 (codes "b") db 8 empty_attrs) (asks second_asker db empty_attrs)
    ∷ happening (comes 1 (codes "b")) []
    ∷ happening asks_first []
    ∷ happening (joins 2 (codes "a") db 7 empty_attrs) (asks first_asker db empty_attrs)
    ∷ happening (comes 2 (codes "a")) []
    ∷ happening (event.Deliver 1 2 2) (enters 2)
    ∷ happening (event.Deliver 2 1 1) (enters 1)
    ∷ happening (event.Deliver 1 2 1) []
    ∷ happening (event.Ask 1 (mask_of (1 ∷ 2 ∷ []))) []
    ∷ alone 2
    ∷ alone 1
    ∷ []

-- a node puts the entry of the first asker, and the provider hears it
abbrev pub puts_first : ℕ → Happened
puts_first n = happened.Put n two_view db 0 (Once (join_of first_asker empty_attrs None))

abbrev pub first_hears : Happened
first_hears = happened.Heard first_asker two_view db 0 (Once (join_of first_asker empty_attrs None)) (first_asker ∷ []) []

-- where node 2 leads, and where node 1 does
unfoldable pub second_led : History
second_led = happening (event.Deliver 2 1 4) (puts_first 1 ∷ []) ∷ happening (event.Deliver 2 2 1) (first_hears ∷ puts_first 2 ∷ []) ∷ until_named

unfoldable pub first_led : History
first_led = happening (event.Deliver 1 2 4) (first_hears ∷ puts_first 2 ∷ []) ∷ happening (event.Deliver 2 1 4) (puts_first 1 ∷ []) ∷ until_named

-- ---- whose state a group goes on with: two nodes, in mode asked, each at first alone

-- the view in which a node starts
abbrev pub own_view : ℕ → ViewId
own_view n = record { number = 1; coord = n; inc = 1 }

-- a provider of a node, with its instance number, and the number of its request
abbrev pub joiner : ℕ → ℕ → ℕ → ProviderId
joiner n instance number = record { node = n; inc = 1; instance = instance; join = number }

-- two of node 1, and one of node 2
abbrev pub more : List ProviderId
more = joiner 1 7 1 ∷ joiner 1 8 2 ∷ []

abbrev pub fewer : List ProviderId
fewer = joiner 2 9 1 ∷ []

-- on each node they join the group; then node 1 asks for a view of both
unfoldable pub two_sides : List Event
two_sides =
    event.Start 1 ∷ event.Start 2 ∷ comes 1 (codes "a") ∷ joins 1 (codes "a") db 7 empty_attrs ∷ event.Deliver 1 1 1 ∷ event.Deliver 1 1 2 ∷ event.Deliver 1 1 3 ∷ comes 1 (codes "b") ∷ joins 1 (codes "b") db 8 empty_attrs ∷ event.Deliver 1 1 4 ∷ comes 2 (codes "c") ∷ joins 2 (codes "c") db 9 empty_attrs ∷ event.Deliver 2 2 1 ∷ event.Deliver 2 2 2 ∷ event.Deliver 2 2 3 ∷ event.Ask 1 (mask_of (1 ∷ 2 ∷ [])) ∷ event.Deliver 1 2 1 ∷ event.Deliver 2 1 1 ∷ event.Deliver 1 2 2 ∷ []

abbrev pub joined : ProviderId → Entry
joined p = Once (join_of p empty_attrs None)

-- on its node it is put at this place of the list, and these hear it, who are the members then
abbrev pub put_and_heard : ProviderId → ℕ → List ProviderId → List Happened
put_and_heard p i members =
    map (λ q. happened.Heard q (own_view p.node) db i (joined p) members []) (reverse members) ++ happened.Put p.node (own_view p.node) db i (joined p) ∷ []

-- they are the members
abbrev pub state_with : List ProviderId → GroupState
state_with ps = record { members = ps; value = []; value_at = None; reflected_at = None; attrs = empty_attrs; running = None; failed = [] }

-- in the view of both the group goes on as it was on the side of a node: with these members, after as many entries
abbrev pub goes_on_as : ℕ → List ProviderId → ℕ → Happened
goes_on_as side members n =
    happened.Base n two_view db (own_view side) (length members) (state_with members)

-- that the group is dissolved for these
abbrev pub lose : List ProviderId → List Happened
lose ps = map (λ p. happened.Told p 0 Dissolved) (reverse ps)

-- what is recorded where node 1 notes this as it enters the view of both, and node 2 that
unfoldable pub two_merged : List Happened → List Happened → History
two_merged first second =
    happening (event.Deliver 1 2 2) (second ++ enters 2)
    ∷ happening (event.Deliver 2 1 1) (first ++ enters 1)
    ∷ happening (event.Deliver 1 2 1) []
    ∷ happening (event.Ask 1 (mask_of (1 ∷ 2 ∷ []))) []
    ∷ happening (event.Deliver 2 2 3) (put_and_heard (joiner 2 9 1) 0 fewer)
    ∷ happening (event.Deliver 2 2 2) []
    ∷ happening (event.Deliver 2 2 1) []
    ∷ happening (joins 2 (codes "c") db 9 empty_attrs) (asks (joiner 2 9 1) db empty_attrs)
    ∷ happening (comes 2 (codes "c")) []
    ∷ happening (event.Deliver 1 1 4) (put_and_heard (joiner 1 8 2) 1 more)
    ∷ happening (joins 1 (codes "b") db 8 empty_attrs) (asks (joiner 1 8 2) db empty_attrs)
    ∷ happening (comes 1 (codes "b")) []
    ∷ happening (event.Deliver 1 1 3) (put_and_heard (joiner 1 7 1) 0 (joiner 1 7 1 ∷ []))
    ∷ happening (event.Deliver 1 1 2) []
    ∷ happening (event.Deliver 1 1 1) []
    ∷ happening (joins 1 (codes "a") db 7 empty_attrs) (asks (joiner 1 7 1) db empty_attrs)
    ∷ happening (comes 1 (codes "a")) []
    ∷ alone 2
    ∷ alone 1
    ∷ []

-- the side of the two wins
unfoldable pub more_win : History
more_win = two_merged (goes_on_as 1 more 1 ∷ []) (lose fewer ++ goes_on_as 1 more 2 ∷ [])

-- the side of the one wins
unfoldable pub fewer_win : History
fewer_win = two_merged (lose more ++ goes_on_as 2 fewer 1 ∷ []) (goes_on_as 2 fewer 2 ∷ [])

-- no side wins
unfoldable pub none_wins : History
none_wins = two_merged (lose more) (lose fewer)

-- ---- what a member forgets: two nodes, in mode fixed

abbrev pub pair : Config
pair = settings_of Fixed (1 ∷ 2 ∷ [])

abbrev pub hello : List ℕ
hello = codes "hello"

-- a client of node 1 joins, and node 2 takes the entry
unfoldable pub until_acked : List Event
until_acked = comes 1 (codes "a") ∷ joins 1 (codes "a") db 7 empty_attrs ∷ event.Deliver 1 1 1 ∷ event.Deliver 1 2 1 ∷ []

abbrev pub acks : Event
acks = event.Deliver 2 1 1

-- node 1 takes the ACK of node 2, and its client sends a message
unfoldable pub until_told : List Event
until_told = acks ∷ event.Call 1 (call.SendMessage (codes "a") db One hello) ∷ event.Deliver 1 1 2 ∷ []

-- node 2 takes that entry
abbrev pub tells : Event
tells = event.Deliver 1 2 2

unfoldable pub two_entries : List Event
two_entries = until_acked ++ until_told ++ tells ∷ []

-- the entry at place 1, with the place below which all have acknowledged
abbrev pub second_entry : Packet
second_entry =
    record { network = 1; from = 1; to = 2; inc = 1; level = 1; domain = 0; body = body.Entry one_view db 1 1 (Once (proposal.Message first_joiner 2 hello)) }

-- the ACK
abbrev pub first_ack : Packet
first_ack = record { network = 1; from = 2; to = 1; inc = 1; level = 1; domain = 0; body = body.Ack one_view db 1 }

unfoldable pub sent_after : Config → List Event → List Packet
sent_after c es = (answered_after c (all_worded c es)).sent

-- a node as it is then, where it is up
abbrev pub core_or : Core → Option Core → Core
core_or s None = s
core_or s (Some t) = t

unfoldable pub core_after : Config → List Event → ℕ → Core
core_after c es n = core_or (started c n 1) (core_at (answered_after c (all_worded c es)).nodes n)

-- where the node's list of the group starts then
unfoldable pub start_after : Config → List Event → ℕ → List ℕ → ℕ
start_after c es n g = start_of (core_after c es n) g

-- opens each word of this file, for a computation
unfoldable pub samples_opens : Unit {0}
unfolding history_after one_join one_joined two_join two_joined target_joins target_joined until_asked after_asked second_leads first_leads two_ask until_named second_led first_led two_sides two_merged more_win fewer_win none_wins until_acked until_told two_entries sent_after core_after start_after
samples_opens = tt
