-- The rules of views: asking, answering, installing.
use Rattle.std.specs.Prelude.{ℕ, Bool, true, false, not, ◌==◌, ◌&&◌, ◌||◌, ◌+◌, ◌++◌, List, [], ◌∷◌, map, filter, drop, length, max, Option, Some, None, nat_le, nat_lt, is_none}
use Rattle.std.specs.List.{list_all}
use Rattle.rsct_packet.specs.declared.ids.ViewId.{ViewId}
use Rattle.rsct_packet.specs.declared.ids.Member.{Member}
use Rattle.rsct_packet.specs.declared.mask.Mask.{Mask}
use Rattle.rsct_packet.specs.Ids.{last_u32, same_view, view_lt, is_member, risen}
use Rattle.rsct_packet.specs.Mask.{no_nodes, has_node, with_node, same_mask, nodes_of}
use Rattle.view_state.specs.declared.answer.Answer.{Answer}
use Rattle.view_state.specs.declared.exchange.Exchange.{Exchange}
use Rattle.view_state.specs.declared.install.Part.{Part}
use Rattle.view_state.specs.declared.install.Install.{Install}
use Rattle.view_state.specs.Answers.{max_parts, opened, has_answered, may_answer, with_answer, all_answered, install_of, is_spelled}
use Rattle.view_state.specs.declared.packet.ViewPacket.{ViewPacket}
use Rattle.view_state.specs.declared.packet.ViewPacket.TheVariants as packet
use Rattle.view_state.specs.declared.packet.ViewSend.{ViewSend}
use Rattle.view_state.specs.declared.views.Views.{Views}
use Rattle.view_state.specs.declared.views.RingAsk.{RingAsk}
use Rattle.view_state.specs.declared.views.ViewWork.{ViewWork}

unfoldable pub is_frozen : Views → Bool
is_frozen s = not (same_view s.promise s.view)

unfoldable pub is_coordinator : Views → Bool
is_coordinator s = s.view.coord == s.me && s.view.inc == s.inc

-- the nodes of members but for one, ascending
unfoldable pub others_of : ℕ → List Member → List ℕ
others_of me ms = filter (λ n. not (n == me)) (map (λ (m : Member). m.node) ms)

-- a node that starts in this view
unfoldable pub views_new : ℕ → ℕ → ViewId → List Member → Views
views_new me inc v ms =
    record { me = me; inc = inc; view = v; members = ms; promise = v; floor = 0; gathering = None; install = None; taken = no_nodes; stuck = false ∷ false ∷ false ∷ [] }

unfoldable pub own_install : Views → Install → Option Install
own_install s i = elim (i.view.coord == s.me && i.view.inc == s.inc) [ true ↦ Some i | false ↦ None ]

-- the view is entered; its coordinator keeps the install, and has taken it
unfoldable pub views_entered : Views → Install → Views
views_entered s i =
    record s { view = i.view; members = i.members; promise = i.view; gathering = None; install = own_install s i; taken = with_node no_nodes s.me }

unfoldable pub view_sent : ViewWork → ℕ → ViewPacket → ViewWork
view_sent w to p = record w { sends = w.sends ++ record { to = to; packet = p } ∷ [] }

unfoldable pub view_sent_all : ViewWork → List ℕ → ViewPacket → ViewWork
view_sent_all w ns p = record w { sends = w.sends ++ map (λ n. record { to = n; packet = p }) ns }

unfoldable pub gathering_set : ViewWork → Option Exchange → ViewWork
gathering_set w g = record w { views = record (w.views) { gathering = g } }

-- a promise drops a gathering
unfoldable pub promised : ViewWork → ViewId → ViewWork
promised w v = record w { views = record (w.views) { promise = v; gathering = None } }

-- sent to the others ascending, and then applied here; an install without a spelling is dropped
unfoldable pub begin_install : ViewWork → Install → Bool → ViewWork
begin_install w i false = w
begin_install w i true = record (view_sent_all w (others_of w.views.me i.members) (packet.Install i)) { install = Some i }

-- the gathering goes on, or all have answered
unfoldable pub gathered : ViewWork → Exchange → Bool → ViewWork
gathered w g false = gathering_set w (Some g)
gathered w g true = begin_install (gathering_set w None) (install_of g) (is_spelled (install_of g))

unfoldable pub gather_on : ViewWork → Exchange → ViewWork
gather_on w g = gathered w g (all_answered g)

abbrev pub own_answer : Views → List Part → Answer
own_answer s parts = record { node = s.me; inc = s.inc; view = s.view; parts = parts }

-- an own answer without a spelling: the promise stands, and nobody is asked
unfoldable pub ask_others : ViewWork → ViewId → Mask → List Part → Bool → ViewWork
ask_others w v mask parts false = promised w v
ask_others w v mask parts true =
    gather_on
    (view_sent_all (promised w v) (filter (λ n. not (n == w.views.me)) (nodes_of mask)) (packet.Prepare v mask))
    (with_answer (opened v mask) (own_answer w.views parts))

-- above what was promised and refused
unfoldable pub next_view : Views → ViewId
next_view s = record { number = max s.promise.number s.floor + 1; coord = s.me; inc = s.inc }

-- past the last number there is no view
unfoldable pub may_ask : Views → Mask → Bool
may_ask s mask = has_node mask s.me && nat_lt (max s.promise.number s.floor) last_u32

unfoldable pub ask_if : ViewWork → Mask → List Part → Bool → ViewWork
ask_if w mask parts false = w
ask_if w mask parts true = ask_others w (next_view w.views) mask parts (nat_le (length parts) max_parts)

-- an order to ask for a view of these nodes, with the node's own lists
unfoldable pub ask_rule : ViewWork → Mask → List Part → ViewWork
ask_rule w mask parts = ask_if w mask parts (may_ask w.views mask)

-- an answer without a spelling is not sent
unfoldable pub answered : ViewWork → ViewId → List Part → ViewWork
answered w v parts =
    elim (nat_le (length parts) max_parts) [ true ↦ view_sent w v.coord (packet.Answer v w.views.view parts) | false ↦ w ]

-- above the promise, the promise that is not the view yet, or below the promise
unfoldable pub prepare : ViewWork → ViewId → List Part → Bool → Bool → Bool → ViewWork
prepare w v parts true again below = answered (promised w v) v parts
prepare w v parts false true below = answered w v parts
prepare w v parts false false true = view_sent w v.coord (packet.Refuse v w.views.promise.number)
prepare w v parts false false false = w

-- PREPARE, from a node in an incarnation
unfoldable pub prepare_rule : ViewWork → ℕ → ℕ → ViewId → Mask → List Part → ViewWork
prepare_rule w from inc v mask parts =
    let asked : Bool = v.coord == from && v.inc == inc && has_node mask w.views.me in
    prepare w v parts (asked && view_lt w.views.promise v) (asked && same_view v w.views.promise && not (same_view v w.views.view)) (view_lt v w.views.promise)

unfoldable pub answer_to : ViewWork → ViewId → Answer → Option Exchange → ViewWork
answer_to w v a None = w
answer_to w v a (Some g) = elim (same_view g.view v && may_answer g a.node) [ true ↦ gather_on w (with_answer g a) | false ↦ w ]

-- ANSWER
unfoldable pub answer_rule : ViewWork → ViewId → Answer → ViewWork
answer_rule w v a = answer_to w v a w.views.gathering

unfoldable pub refused_by : ViewWork → ℕ → ViewWork
refused_by w n = record w { views = record (w.views) { floor = max w.views.floor n; gathering = None } }

unfoldable pub refuse_to : ViewWork → ViewId → ℕ → Option Exchange → ViewWork
refuse_to w v n None = w
refuse_to w v n (Some g) = elim (same_view g.view v) [ true ↦ refused_by w n | false ↦ w ]

-- REFUSE
unfoldable pub refuse_rule : ViewWork → ViewId → ℕ → ViewWork
refuse_rule w v n = refuse_to w v n w.views.gathering

-- INSTALL of the view, of the promise, or of neither; whether the lists go on to it is the node's to see
unfoldable pub installed : ViewWork → Install → Bool → Bool → ViewWork
installed w i true ok = view_sent w i.view.coord (packet.Taken i.view)
installed w i false true = record w { install = Some i }
installed w i false false = w

unfoldable pub install_rule : ViewWork → Install → ViewWork
install_rule w i = installed w i (same_view w.views.view i.view) (same_view w.views.promise i.view && is_member i.members w.views.me w.views.inc)

-- TAKEN, also while frozen
unfoldable pub taken_rule : ViewWork → ℕ → ViewId → ViewWork
taken_rule w from v =
    elim (same_view w.views.view v) [ true ↦ record w { views = record (w.views) { taken = with_node w.views.taken from } } | false ↦ w ]

-- ---- a tick

unfoldable pub aged : Exchange → Exchange
aged g = record g { age = risen g.age }

-- PREPARE again to those that have not answered
unfoldable pub prepare_again : ViewWork → Option Exchange → ViewWork
prepare_again w None = w
prepare_again w (Some g) =
    view_sent_all (gathering_set w (Some (aged g))) (filter (λ n. not (has_answered g n)) (nodes_of g.asked)) (packet.Prepare g.view g.asked)

-- frozen without a gathering
unfoldable pub is_stuck : Views → Bool
is_stuck s = is_frozen s && is_none s.gathering

-- no gathering, or one of age 4 or of other nodes
unfoldable pub may_ask_anew : Mask → Option Exchange → Bool
may_ask_anew mask None = true
may_ask_anew mask (Some g) = g.age == 4 || not (same_mask g.asked mask)

-- stuck now, and at each of the three ticks before
unfoldable pub was_stuck : Views → Bool
was_stuck s = is_stuck s && list_all (λ b. b) s.stuck

unfoldable pub tick_asks : Views → RingAsk → Bool
tick_asks s a = a.is_least && (a.is_due || was_stuck s) && may_ask_anew a.mask s.gathering

unfoldable pub note_stuck : ViewWork → ViewWork
note_stuck w = record w { views = record (w.views) { stuck = drop 1 w.views.stuck ++ is_stuck w.views ∷ [] } }

unfoldable pub asks_or_ages : ViewWork → RingAsk → List Part → Bool → ViewWork
asks_or_ages w a parts true = ask_rule w a.mask parts
asks_or_ages w a parts false = prepare_again w w.views.gathering

-- without rings, nobody is asked anew
unfoldable pub gathering_ticks : ViewWork → Option RingAsk → List Part → ViewWork
gathering_ticks w None parts = prepare_again w w.views.gathering
gathering_ticks w (Some a) parts = asks_or_ages (note_stuck w) a parts (tick_asks w.views a)

unfoldable pub install_again_of : ViewWork → Option Install → ViewWork
install_again_of w None = w
install_again_of w (Some i) =
    view_sent_all w (filter (λ n. not (has_node w.views.taken n)) (others_of w.views.me w.views.members)) (packet.Install i)

-- INSTALL again to those that have not taken it
unfoldable pub install_again : ViewWork → ViewWork
install_again w =
    elim (is_coordinator w.views && not (is_frozen w.views)) [ true ↦ install_again_of w w.views.install | false ↦ w ]

abbrev pub views_at_work : Views → ViewWork
views_at_work s = record { views = s; sends = []; install = None }

-- opens each word of this file, for a computation
unfoldable pub views_open : Unit {0}
unfolding is_frozen is_coordinator others_of views_new own_install views_entered view_sent view_sent_all gathering_set promised begin_install gathered gather_on ask_others next_view may_ask ask_if ask_rule answered prepare prepare_rule answer_to answer_rule refused_by refuse_to refuse_rule installed install_rule taken_rule aged prepare_again is_stuck may_ask_anew was_stuck tick_asks note_stuck asks_or_ages gathering_ticks install_again_of install_again
views_open = tt
