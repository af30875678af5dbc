-- How the parts of an event come together.
use Rattle.std.proofs.Common.{◌≡◌, ℕ, ◌==◌, Bool, true, false, List, [], Option, Some, None, refl, sym, ap, subst, arith, ne_eqb}
use Rattle.std.proofs.lemmas.Bool.Decides.{nat_tests}
use Rattle.rsct_packet.specs.declared.mask.Mask.{Mask}
use Rattle.client_callbacks.specs.declared.votes.VoteItem.{VoteItem}
use Rattle.session_state.specs.declared.state.SessionState.{SessionState}
use Rattle.node_state.specs.declared.call.CallLine.{CallLine}
use Rattle.node_state.specs.declared.packet.Body.{Body}
use Rattle.node_state.specs.declared.packet.Packet.{Packet}
use Rattle.node_state.specs.declared.state.Core.{Core}
use Rattle.node_state.specs.HandOn.{Answering}
use Rattle.node_state.specs.Sending.{send_on}
use Rattle.node_state.specs.Ticks.{tick_rings, tick_views, tick_owed, tick_led, tick_rule}
use Rattle.node_state.specs.Ending.{end_step}
use Rattle.node_state.specs.Calls.{take_call}
use Rattle.node_state.specs.Bytes.{event_in}
use Rattle.node_state.specs.Step.{Asks, Calls, take_order, take_body, packet_rule, used_if, event_rule, at_work, stepped}
use Rattle.entry_delivery.specs.Received.{Handing}
use Rattle.entry_delivery.specs.Doing.{Joins, Does}
use Rattle.entry_delivery.proofs.DoingLaws.{does_then, does_plain, does_nothing, does_after, does_before, does_as, ready_same}
use Rattle.session_state.proofs.OwnerLaws.{owners_themselves}
use Rattle.node_state.proofs.AlongLaws.{along_same}
use Rattle.node_groups.specs.Keeps.{Keeps}
use Rattle.group_leading.specs.Working.{AtWork}
use Rattle.group_leading.proofs.WorkLaws.{keeps_follows}
use Rattle.node_core.specs.Event.{called, datagram_rule}

abbrev Scripts : Type 0
Scripts = List (Option (List (Option VoteItem)))

-- ---- nodes at work

-- another core with the same sessions and groups
pub work_beside : {C : Type 0} (s t : Core) (cs : List C) → t.sessions ≡ s.sessions → t.groups ≡ s.groups → AtWork s cs → AtWork t cs
work_beside s t cs sessions groups w = record {
  ready = ready_same s t cs cs (ap (λ (x : SessionState). x.sessions) sessions) (ap (λ (x : SessionState). x.level) sessions) refl w.ready;
  order = rw groups w.order;
}

-- nothing sent or recorded yet
pub work_cleared : {C : Type 0} (s : Core) (cs : List C) → AtWork s cs → AtWork (at_work s) cs
work_cleared s cs w = work_beside s (at_work s) cs refl refl w

-- ---- rows

-- a row of clients that vote by the same scripts
pub does_by : (old new : Scripts) (P : List Handing → Type 0) (s t : Core) (row : Answering → Core) → new ≡ old → Does new P s t row → Does old P s t row
does_by old new P s t row e d = subst (λ ss. Does ss P s t row) e d

-- a row that asks no client, and hands nothing to any
pub plain_does : (ss : Scripts) (P : List Handing → Type 0) → P [] → (s t k : Core) → t ≡ k → Keeps s t → Does ss P s t (λ f. k)
plain_does ss P p s t k e keeps = does_plain ss P s t k p e (keeps_follows s t keeps)

-- a packet that is used, and one that is not
pub used_does : (ss : Scripts) (P : List Handing → Type 0) (s t : Core) (row : Answering → Core) (b : Bool) → b ≡ true → Does ss P s t row → Does ss P s t (λ f. used_if s (row f) b)
unfolding used_if
used_does ss P s t row b e d = subst (λ x. Does ss P s t (λ f. used_if s (row f) x)) (sym e) d

pub unused_does : (ss : Scripts) (P : List Handing → Type 0) → P [] → (s : Core) (row : Answering → Core) (b : Bool) → b ≡ false → Does ss P s s (λ f. used_if s (row f) b)
unfolding used_if
unused_does ss P p s row b e = subst (λ x. Does ss P s s (λ f. used_if s (row f) x)) (sym e) (does_nothing ss P s p)

-- a packet for another node, and bytes that are no packet
pub away_does : (ss : Scripts) (P : List Handing → Type 0) → P [] → (s : Core) (x : Packet) → (x.to ≡ s.views.me → ⊥) → Does ss P s s (λ f. packet_rule f s x)
unfolding packet_rule
away_does ss P p s x e = let away : (x.to == s.views.me) ≡ false = ne_eqb x.to s.views.me e in rw (packet_rule, away) (does_nothing ss P s p)

-- a packet for this node
pub here_does : (ss : Scripts) (P : List Handing → Type 0) (s t : Core) (x : Packet) → x.to ≡ s.views.me → Does ss P s t (λ f. take_body f s x x.body) → Does ss P s t (λ f. packet_rule f s x)
unfolding packet_rule
here_does ss P s t x e done = let here : (x.to == s.views.me) ≡ true = grind (arith, nat_tests) in rw (packet_rule, here) done

pub given_does : (ss : Scripts) (P : List Handing → Type 0) (s t : Core) (o : Option Packet) (x : Packet) → o ≡ Some x → Does ss P s t (λ f. packet_rule f s x) → Does ss P s t (λ f. datagram_rule f s o)
unfolding datagram_rule
given_does ss P s t o x e done = rw e done

pub dropped_does : (ss : Scripts) (P : List Handing → Type 0) → P [] → (s : Core) (o : Option Packet) → o ≡ None → Does ss P s s (λ f. datagram_rule f s o)
unfolding datagram_rule
dropped_does ss P p s None e = does_nothing ss P s p
dropped_does ss P p s (Some x) e = absurd cc

pub sent_on_keeps : (s t : Core) (network to : ℕ) (b : Body) → t ≡ send_on s network to b → Keeps s t
unfolding send_on
sent_on_keeps s t network to b e = rw e (record { records = omega arith; sessions = (refl, refl); order = λ h. h; handed = refl; owners = owners_themselves s.sessions; along = along_same s (send_on s network to b) refl refl })

-- ---- events

pub tick_does : (ss : Scripts) (P Q V W X : List Handing → Type 0) → Joins P Q V → Joins V W X → (s a b c d t : Core) → a ≡ tick_rings s → Keeps s a → Does ss P a b (λ f. tick_views f a) → c ≡ tick_owed b → Keeps b c → Does ss Q c d (λ f. tick_led f c) → Does ss W d t (λ f. end_step f d)
    → Does ss X s t (λ f. tick_rule f s)
unfolding tick_rule
tick_does ss P Q V W X first_two all s a b c d t rings first views owed next led ends =
    let one : Does ss P s b (λ f. tick_views f (tick_rings s)) =
    does_as ss P s b (λ f. tick_views f a) (λ f. tick_views f (tick_rings s)) (λ f. ap (tick_views f) rings) (does_after ss P s a b (λ f. tick_views f a) (keeps_follows s a first) views) in
    let two : Does ss P s c (λ f. tick_owed (tick_views f (tick_rings s))) = does_before ss P s b c (λ f. tick_views f (tick_rings s)) tick_owed one owed (keeps_follows b c next) in
    let three : Does ss V s d (λ f. tick_led f (tick_owed (tick_views f (tick_rings s)))) = does_then ss P Q V first_two s c d (λ f. tick_owed (tick_views f (tick_rings s))) tick_led two led in
    does_then ss V W X all s d t (λ f. tick_led f (tick_owed (tick_views f (tick_rings s)))) end_step three ends

pub order_does : (ss : Scripts) (P Q W : List Handing → Type 0) → Joins P Q W → (s a t : Core) (mask : Mask) → Does ss P s a (λ f. take_order f s mask) → Does ss Q a t (λ f. end_step f a) → Does ss W s t (λ f. event_rule f s (Asks mask))
unfolding event_rule
order_does ss P Q W join s a t mask first ends = does_then ss P Q W join s a t (λ f. take_order f s mask) end_step first ends

pub datagram_does : (ss : Scripts) (P Q W : List Handing → Type 0) → Joins P Q W → (s a t : Core) (p : Option Packet) → Does ss P s a (λ f. datagram_rule f s p) → Does ss Q a t (λ f. end_step f a) → Does ss W s t (λ f. event_rule f s (event_in p))
unfolding event_rule datagram_rule
datagram_does ss P Q W join s a t None first ends = does_then ss P Q W join s a t (λ f. s) end_step first ends
datagram_does ss P Q W join s a t (Some p) first ends = does_then ss P Q W join s a t (λ f. packet_rule f s p) end_step first ends

-- no packet is a call
pub received_does : (ss : Scripts) (P : List Handing → Type 0) (s t : Core) (p : Option Packet) → Does ss P s t (λ f. event_rule f s (event_in p)) → Does ss P (called s (event_in p)) t (λ f. event_rule f s (event_in p))
received_does ss P s t None d = d
received_does ss P s t (Some p) d = d

pub call_does : (ss : Scripts) (P : List Handing → Type 0) (s a t : Core) (c : CallLine) → a ≡ take_call s c → Does ss P a t (λ f. end_step f a) → Does ss P (take_call s c) t (λ f. event_rule f s (Calls c))
unfolding event_rule
call_does ss P s a t c call ends = subst (λ (x : Core). Does ss P x t (λ f. end_step f x)) call ends

-- the end of a step after a call that begins or ends a session
pub session_does : (ss : Scripts) (P : List Handing → Type 0) (s a t : Core) (c : CallLine) → a ≡ take_call (at_work s) c → Does ss P a t (λ f. end_step f a) → Does ss P (take_call (at_work s) c) t (λ f. stepped f s (Calls c))
unfolding stepped
session_does ss P s a t c call ends = call_does ss P (at_work s) a t c call ends
