-- Clients that come and go, and what the rules of a step hand to them.
use Rattle.std.proofs.Common.{◌≡◌, ℕ, zero, suc, ◌+◌, Bool, true, false, List, [], ◌∷◌, ◌++◌, length, Option, Some, None, Result, Ok, Err, IsTrue, refl, sym, ap, ◌∙◌, subst, append-nil, length-append, arith}
use Rattle.std.specs.Prelude.{map, remove, drop, get_or, is_none, is_some, fold, IfSome}
use Rattle.std.specs.List.{last_or}
use Rattle.std.proofs.lemmas.List.{map-append, length-map, get_or-drop, drop-drop}
use Rattle.client_callbacks.specs.declared.ballot.Filled.{Filled}
use Rattle.client_callbacks.specs.declared.votes.VoteItem.{VoteItem}
use Rattle.client_callbacks.specs.Handed.{Handed}
use Rattle.session_clients.specs.Clients.{StandFor}
use Rattle.session_state.specs.declared.fault.GsFault.{GsFault}
use Rattle.session_state.specs.declared.state.KeptBallot.{KeptBallot}
use Rattle.session_state.specs.declared.state.Provider.{Provider}
use Rattle.session_state.specs.declared.state.Request.{Request}
use Rattle.session_state.specs.declared.state.SessionState.{SessionState}
use Rattle.session_state.specs.Calls.{removed_at}
use Rattle.node_state.specs.declared.call.CallLine.{CallLine}
use Rattle.node_state.specs.declared.call.CallLine.TheVariants as call
use Rattle.node_state.specs.declared.packet.Body.{Body}
use Rattle.node_state.specs.declared.packet.Packet.{Packet}
use Rattle.node_state.specs.declared.state.Core.{Core}
use Rattle.node_state.specs.Bytes.{packet_of, event_in, event_of}
use Rattle.node_state.specs.HandOn.{Answering}
use Rattle.node_state.specs.Handed.{Logged}
use Rattle.node_state.specs.State.{InNameOrder, frozen, leader_of, with_sessions, recorded}
use Rattle.node_state.specs.Sending.{sent, send_on, send_if_known, send_request_to, send_request, send_kept_to, send_kept}
use Rattle.node_state.specs.Calls.{refuse_call, changed, ask_last, proposed, record_ballot, ballot_sent_if, cast_last, give_ballot, send_gone, send_all_gone, goodbye_said, take_call}
use Rattle.node_state.specs.Step.{NodeEvent, Ticks, Asks, Given, Calls, at_work}
use Rattle.node_state.specs.Step as step
use Rattle.node_calls.specs.Calling.{clients_with, is_within_session}
use Rattle.entry_delivery.specs.Received.{handed_by, AreLogs, joined, WereHandedFrom, Handing, logged, given_at, given_to, after_handings, Receive}
use Rattle.entry_delivery.specs.Doing.{Does}
use Rattle.node_core.specs.declared.events.NodeEvent.TheVariants as event
use Rattle.node_core.specs.declared.events.NodeEvent as events
use Rattle.node_core.specs.Event.{called, is_taken}
use Rattle.node_core.specs.Event as taken
use Rattle.daemon_run.specs.declared.hosted.Hosted.{Hosted}
use Rattle.daemon_run.specs.Hosting.{Known, StandWhere, marked, Says, hosted_stands}
use Rattle.daemon_run.specs.Audience.{Audience, is_boxed, object_if, object_for, next_if, next_for, first_if, first_for, left_if, left_for, audience_called, attended, RowsHand, first_of_client, heard_since, lists_now, client_stands, client_script, Attend}

-- ---- a call leaves the groups as they are

abbrev SameGroups : Core → Core → Type 0
SameGroups s t = t.groups ≡ s.groups

known_groups : (s : Core) (to : Option ℕ) (b : Body) → SameGroups s (send_if_known s to b)
unfolding send_if_known sent send_on
known_groups s None b = refl
known_groups s (Some n) b = refl

to_groups : (s : Core) (q : Request) (to : Option ℕ) → SameGroups s (send_request_to s q to)
unfolding send_request_to sent send_on
to_groups s q None = refl
to_groups s q (Some n) = refl

request_groups : (s : Core) (q : Request) → SameGroups s (send_request s q)
unfolding send_request
request_groups s q = by (frozen s)
  where
    by : (b : Bool) → SameGroups s (elim b as (λ x. Core) [ true ↦ s | false ↦ send_request_to s q (leader_of s q.group) ])
    by true = refl
    by false = to_groups s q (leader_of s q.group)

asked_groups : (s : Core) (o : Option Request) → SameGroups s (ask_last s o)
unfolding ask_last recorded
asked_groups s None = refl
asked_groups s (Some q) = request_groups _ q

kept_groups : (s : Core) (k : KeptBallot) (to : Option ℕ) (b : Option Filled) → SameGroups s (send_kept_to s k to b)
unfolding send_kept_to
kept_groups s k to None = refl
kept_groups s k to (Some b) = known_groups s to _

ballot_groups : (s : Core) (k : KeptBallot) (b : Bool) → SameGroups s (ballot_sent_if s k b)
unfolding ballot_sent_if send_kept
ballot_groups s k true = refl
ballot_groups s k false = kept_groups s k (leader_of s k.group) k.ballot.filled

noted_groups : (s : Core) (k : KeptBallot) (b : Option Filled) → SameGroups s (record_ballot s k b)
unfolding record_ballot recorded
noted_groups s k None = refl
noted_groups s k (Some b) = refl

cast_groups : (s : Core) (o : Option KeptBallot) → SameGroups s (cast_last s o)
unfolding cast_last
cast_groups s None = refl
cast_groups s (Some k) = ballot_groups (record_ballot s k k.ballot.filled) k (frozen s) ∙ noted_groups s k k.ballot.filled

each_gone_groups : (s : Core) (xs : List Provider) → SameGroups s (fold send_gone s xs)
unfolding send_gone
each_gone_groups s [] = refl
each_gone_groups s (x ∷ xs) = each_gone_groups (send_gone s x) xs ∙ known_groups s (leader_of s x.group) _

all_gone_groups : (s : Core) (xs : List Provider) → SameGroups s (send_all_gone s xs)
unfolding send_all_gone
all_gone_groups s xs = by (frozen s)
  where
    by : (b : Bool) → SameGroups s (elim b as (λ x. Core) [ true ↦ s | false ↦ fold send_gone s xs ])
    by true = refl
    by false = each_gone_groups s xs

changed_groups : (s : Core) (client : List ℕ) (r : Result SessionState GsFault) → SameGroups s (changed s client r)
unfolding changed refuse_call with_sessions recorded
changed_groups s client (Ok t) = refl
changed_groups s client (Err f) = refl

proposed_groups : (s : Core) (client : List ℕ) (r : Result SessionState GsFault) → SameGroups s (proposed s client r)
unfolding proposed refuse_call with_sessions recorded
proposed_groups s client (Ok t) = asked_groups _ (last_or None t.requests)
proposed_groups s client (Err f) = refl

given_groups : (s : Core) (client : List ℕ) (r : Result SessionState GsFault) → SameGroups s (give_ballot s client r)
unfolding give_ballot refuse_call with_sessions recorded
given_groups s client (Ok t) = cast_groups _ (last_or None t.kept)
given_groups s client (Err f) = refl

said_groups : (s : Core) (client : List ℕ) (ended : List Provider) (r : Result SessionState GsFault) → SameGroups s (goodbye_said s client ended r)
unfolding goodbye_said refuse_call with_sessions recorded
said_groups s client ended (Ok t) = all_gone_groups _ ended
said_groups s client ended (Err f) = refl

call_groups : (s : Core) (c : CallLine) → SameGroups s (take_call s c)
unfolding take_call
call_groups s (call.Init node name votes) = changed_groups s name _
call_groups s (call.Join client g instance attrs) = proposed_groups s client _
call_groups s (call.Leave client g phases) = proposed_groups s client _
call_groups s (call.Expel client g phases out) = proposed_groups s client _
call_groups s (call.ChangeState client g phases value) = proposed_groups s client _
call_groups s (call.SendMessage client g phases bytes) = proposed_groups s client _
call_groups s (call.ChangeAttributes client g phases attrs) = proposed_groups s client _
call_groups s (call.Vote client g v value) = given_groups s client _
call_groups s (call.Subscribe client g) = changed_groups s client _
call_groups s (call.Unsubscribe client g) = changed_groups s client _
call_groups s (call.Goodbye client) = said_groups s client _ _

called_groups : (s : Core) (e : NodeEvent) → SameGroups s (called s e)
called_groups s Ticks = refl
called_groups s (Asks mask) = refl
called_groups s (Given p) = refl
called_groups s step.Garbage = refl
called_groups s (Calls c) = call_groups s c

pub called_order : (s : Core) (e : NodeEvent) → InNameOrder s.groups → InNameOrder (called (at_work s) e).groups
called_order s e order = subst InNameOrder (sym (called_groups (at_work s) e)) order

-- ---- events that neither begin nor end a session

packet_attended : (p : Option Packet) (s : Core) (x : Audience) → attended s (event_in p) x ≡ x
packet_attended None s x = refl
packet_attended (Some p) s x = refl

pub message_attended : (message : List ℕ) (s : Core) (x : Audience) → attended s (event_of message) x ≡ x
unfolding event_of
message_attended message s x = packet_attended (packet_of message) s x

pub within_attended : (c : CallLine) → IsTrue (is_within_session c) → (s : Core) (x : Audience) → audience_called s c x ≡ x
within_attended (call.Init node name votes) h s x = absurd cc
within_attended (call.Goodbye client) h s x = absurd cc
within_attended _ h s x = refl

pub taken_attended : (e : events.NodeEvent) → IsTrue (is_taken e) → (s : Core) (x : Audience) → attended s (taken.event_in e) x ≡ x
taken_attended event.Tick h s x = refl
taken_attended (event.Ask mask) h s x = refl
taken_attended (event.Datagram bytes) h s x = message_attended bytes.now s x
taken_attended (event.Call c) h s x = within_attended c.now h s x

-- ---- lists of clients

lists_added : (fs : Known) (rss : List (List Logged)) (f : Option (List Handed)) → length fs ≡ length rss → lists_now (fs ++ f ∷ []) (rss ++ [] ∷ []) ≡ lists_now fs rss ++ heard_since f [] ∷ []
lists_added [] [] f e = refl
lists_added [] (rs ∷ rss) f e = absurd (omega arith)
lists_added (g ∷ fs) [] f e = absurd (omega arith)
lists_added (g ∷ fs) (rs ∷ rss) f e =
    let below : length fs ≡ length rss = omega arith in ap (λ (t : Known). heard_since g rs ∷ t) (lists_added fs rss f below)

lists_removed : (i : ℕ) (fs : Known) (rss : List (List Logged)) → length fs ≡ length rss → lists_now (remove fs i) (remove rss i) ≡ remove (lists_now fs rss) i
lists_removed zero [] [] e = refl
lists_removed (suc i) [] [] e = refl
lists_removed zero [] (rs ∷ rss) e = absurd (omega arith)
lists_removed (suc i) [] (rs ∷ rss) e = absurd (omega arith)
lists_removed zero (g ∷ fs) [] e = absurd (omega arith)
lists_removed (suc i) (g ∷ fs) [] e = absurd (omega arith)
lists_removed zero (g ∷ fs) (rs ∷ rss) e = refl
lists_removed (suc i) (g ∷ fs) (rs ∷ rss) e =
    let below : length fs ≡ length rss = omega arith in ap (λ (t : Known). heard_since g rs ∷ t) (lists_removed i fs rss below)

even_removed : {X Y : Type 0} (i : ℕ) (xs : List X) (ys : List Y) → length xs ≡ length ys → length (remove xs i) ≡ length (remove ys i)
even_removed zero [] [] e = refl
even_removed (suc i) [] [] e = refl
even_removed zero [] (y ∷ ys) e = absurd (omega arith)
even_removed (suc i) [] (y ∷ ys) e = absurd (omega arith)
even_removed zero (x ∷ xs) [] e = absurd (omega arith)
even_removed (suc i) (x ∷ xs) [] e = absurd (omega arith)
even_removed zero (x ∷ xs) (y ∷ ys) e = let below : length xs ≡ length ys = omega arith in below
even_removed (suc i) (x ∷ xs) (y ∷ ys) e =
    let below : length xs ≡ length ys = omega arith in ap suc (even_removed i xs ys below)

map_removed : {X Y : Type 0} (f : X → Y) (i : ℕ) (xs : List X) → map f (remove xs i) ≡ remove (map f xs) i
map_removed f zero [] = refl
map_removed f (suc i) [] = refl
map_removed f zero (x ∷ xs) = refl
map_removed f (suc i) (x ∷ xs) = ap (λ ys. f x ∷ ys) (map_removed f i xs)

logs_added : (rss : List (List Logged)) → AreLogs rss → AreLogs (rss ++ [] ∷ [])
logs_added [] h = (tt, tt)
logs_added (rs ∷ rss) h = (h.0, logs_added rss h.1)

logs_removed : (i : ℕ) (rss : List (List Logged)) → AreLogs rss → AreLogs (remove rss i)
logs_removed zero [] h = tt
logs_removed (suc i) [] h = tt
logs_removed zero (rs ∷ rss) h = h.1
logs_removed (suc i) (rs ∷ rss) h = (h.0, logs_removed i rss h.1)

given_even : (i : ℕ) (r : Logged) (rss : List (List Logged)) → length (given_at i r rss) ≡ length rss
given_even zero r [] = refl
given_even (suc i) r [] = refl
given_even zero r (rs ∷ rss) = refl
given_even (suc i) r (rs ∷ rss) = ap suc (given_even i r rss)

to_even : (o : Option ℕ) (r : Logged) (rss : List (List Logged)) → length (given_to o r rss) ≡ length rss
to_even None r rss = refl
to_even (Some i) r rss = given_even i r rss

handings_even : (hs : List Handing) (rss : List (List Logged)) → length (after_handings hs rss) ≡ length rss
unfolding after_handings
handings_even [] rss = refl
handings_even (h ∷ hs) rss = handings_even hs (given_to h.place (logged h) rss) ∙ to_even h.place (logged h) rss

module _ {X : Type 0} (R : X → List Handed → Type 0) where
  stand_added : (xs : List X) (hs : Known) (x : X) (h : Option (List Handed)) → IfSome h (R x) → StandWhere R xs hs → StandWhere R (xs ++ x ∷ []) (hs ++ h ∷ [])
  stand_added [] [] x h new p = (new, tt)
  stand_added [] (g ∷ hs) x h new p = absurd p
  stand_added (y ∷ xs) [] x h new p = absurd p
  stand_added (y ∷ xs) (g ∷ hs) x h new p = (p.0, stand_added xs hs x h new p.1)

  stand_removed : (i : ℕ) (xs : List X) (hs : Known) → StandWhere R xs hs → StandWhere R (remove xs i) (remove hs i)
  stand_removed zero [] [] p = tt
  stand_removed (suc i) [] [] p = tt
  stand_removed i [] (g ∷ hs) p = absurd p
  stand_removed i (y ∷ xs) [] p = absurd p
  stand_removed zero (y ∷ xs) (g ∷ hs) p = p.1
  stand_removed (suc i) (y ∷ xs) (g ∷ hs) p = (p.0, stand_removed i xs hs p.1)

module _ {C : Type 0} (R : C → List Handed → Type 0) where
  -- ---- as the node says it

  one_said : (c : Hosted C) (f : Option (List Handed)) (rs : List Logged) → IfSome (heard_since f rs) (client_stands R c) → Says R c.client (marked f ++ handed_by rs)
  one_said c None rs h = tt
  one_said c (Some f) rs h = h

  one_known : (c : Hosted C) (f : Option (List Handed)) (rs : List Logged) → Says R c.client (marked f ++ handed_by rs) → IfSome (heard_since f rs) (client_stands R c)
  one_known c None rs h = tt
  one_known c (Some f) rs h = h

  all_said : (cs : List (Hosted C)) (fs : Known) (rss : List (List Logged)) → length fs ≡ length rss → StandWhere (client_stands R) cs (lists_now fs rss) → StandFor (hosted_stands R) cs (joined (map marked fs) (map handed_by rss))
  all_said [] [] [] e h = tt
  all_said (c ∷ cs) [] [] e h = absurd h
  all_said cs [] (rs ∷ rss) e h = absurd (omega arith)
  all_said cs (f ∷ fs) [] e h = absurd (omega arith)
  all_said [] (f ∷ fs) (rs ∷ rss) e h = absurd h
  all_said (c ∷ cs) (f ∷ fs) (rs ∷ rss) e h = let below : length fs ≡ length rss = omega arith in (one_said c f rs h.0, all_said cs fs rss below h.1)

  all_known : (cs : List (Hosted C)) (fs : Known) (rss : List (List Logged)) → length fs ≡ length rss → StandFor (hosted_stands R) cs (joined (map marked fs) (map handed_by rss)) → StandWhere (client_stands R) cs (lists_now fs rss)
  all_known [] [] [] e h = tt
  all_known (c ∷ cs) [] [] e h = absurd h
  all_known cs [] (rs ∷ rss) e h = absurd (omega arith)
  all_known cs (f ∷ fs) [] e h = absurd (omega arith)
  all_known [] (f ∷ fs) (rs ∷ rss) e h = absurd h
  all_known (c ∷ cs) (f ∷ fs) (rs ∷ rss) e h = let below : length fs ≡ length rss = omega arith in (one_known c f rs h.0, all_known cs fs rss below h.1)

  first_heard : (c : Hosted C) (f : Option (List Handed)) → IfSome f (client_stands R c) → IfSome (heard_since f []) (client_stands R c)
  first_heard c None h = tt
  first_heard c (Some f) h = subst (R c.client) (sym (append-nil f)) h

module _ {C : Type 0} (R : C → List Handed → Type 0) (script : C → Option (List (Option VoteItem))) (known : Known) where
  boxed_added : (cs : List (Hosted C)) (c : Hosted C) → map is_none (map (client_script script) (cs ++ c ∷ [])) ≡ map is_none (map (client_script script) cs) ++ is_none (script c.client) ∷ []
  boxed_added cs c = ap (map is_none) (map-append (client_script script) cs (c ∷ [])) ∙ map-append is_none (map (client_script script) cs) (script c.client ∷ [])

  even_firsts : (x : Audience) → length x.objects ≡ length x.logs → length (map (first_of_client known) x.objects) ≡ length x.logs
  even_firsts x even = length-map x.objects (first_of_client known) ∙ even

  -- a session that begins has its client behind all others
  pub attend_with : (c : Hosted C) (cs : List (Hosted C)) (x : Audience) (next : ℕ) (object : Option ℕ) (r : Result SessionState GsFault) → IfSome (first_of_client known object) (client_stands R c) → is_none (script c.client) ≡ is_some object → Attend R script known cs x
      → Attend R script known (clients_with c cs r) (record { next = next; objects = clients_with object x.objects r; logs = clients_with [] x.logs r })
  attend_with c cs x next object (Ok t) new is h =
      let firsts : Known = map (first_of_client known) x.objects in
      let first : Option (List Handed) = first_of_client known object in
      record {
        stand = subst (λ (fs : Known). StandWhere (client_stands R) (cs ++ c ∷ []) (lists_now fs (x.logs ++ [] ∷ []))) (sym (map-append (first_of_client known) x.objects (object ∷ [])))
            (subst (StandWhere (client_stands R) (cs ++ c ∷ [])) (sym (lists_added firsts x.logs first (even_firsts x h.even))) (stand_added (client_stands R) cs (lists_now firsts x.logs) c (heard_since first []) (first_heard R c first new) h.stand));
        even = length-append x.objects (object ∷ []) ∙ (ap (λ n. n + 1) h.even ∙ sym (length-append x.logs ([] ∷ [])));
        logs = logs_added x.logs h.logs;
        boxed = boxed_added cs c ∙ (ap (λ bs. bs ++ is_none (script c.client) ∷ []) h.boxed ∙ (ap (λ b. map is_some x.objects ++ b ∷ []) is ∙ sym (map-append is_some x.objects (object ∷ []))));
      }
  attend_with c cs x next object (Err f) new is h = record { stand = h.stand; even = h.even; logs = h.logs; boxed = h.boxed }

  -- one that ends takes its client away
  pub attend_without : (place : Option ℕ) (cs : List (Hosted C)) (x : Audience) → Attend R script known cs x
      → Attend R script known (removed_at place cs) (record { next = x.next; objects = removed_at place x.objects; logs = removed_at place x.logs })
  attend_without None cs x h = record { stand = h.stand; even = h.even; logs = h.logs; boxed = h.boxed }
  attend_without (Some i) cs x h =
      let firsts : Known = map (first_of_client known) x.objects in
      record {
        stand = subst (λ (fs : Known). StandWhere (client_stands R) (remove cs i) (lists_now fs (remove x.logs i))) (sym (map_removed (first_of_client known) i x.objects))
            (subst (StandWhere (client_stands R) (remove cs i)) (sym (lists_removed i firsts x.logs (even_firsts x h.even))) (stand_removed (client_stands R) i cs (lists_now firsts x.logs) h.stand));
        even = even_removed i x.objects x.logs h.even;
        logs = logs_removed i x.logs h.logs;
        boxed = ap (map is_none) (map_removed (client_script script) i cs) ∙ (map_removed is_none i (map (client_script script) cs) ∙ (ap (λ bs. remove bs i) h.boxed ∙ sym (map_removed is_some i x.objects)));
      }

  -- what rules hand
  pub attend_rows : (cs ds : List (Hosted C)) (x : Audience) (hs : List Handing) → Receive (hosted_stands R) cs ds hs → map (client_script script) ds ≡ map (client_script script) cs → Attend R script known cs x → Attend R script known ds (record x { logs = after_handings hs x.logs })
  attend_rows cs ds x hs received same h =
      let firsts : Known = map (first_of_client known) x.objects in
      let even : length x.objects ≡ length (after_handings hs x.logs) = h.even ∙ sym (handings_even hs x.logs) in
      let after : WereHandedFrom (hosted_stands R) (map marked firsts) ds (after_handings hs x.logs) = received (map marked firsts) x.logs (record { stand = all_said R cs firsts x.logs (even_firsts x h.even) h.stand; logs = h.logs }) in
      record {
        stand = all_known R ds firsts (after_handings hs x.logs) (length-map x.objects (first_of_client known) ∙ even) after.stand;
        even = even;
        logs = after.logs;
        boxed = ap (map is_none) same ∙ h.boxed;
      }

-- ---- objects that are taken

first_left : (b : Bool) (n : ℕ) (known : Known) → first_of_client known (object_if b n) ≡ first_if b (drop n known)
first_left true n known = let same : n + 0 ≡ n = omega arith in sym (get_or-drop n known 0 None ∙ ap (λ k. get_or known k None) same)
first_left false n known = refl

pub first_taken : (P : List Handed → Type 0) (votes : List ℕ) (n : ℕ) (known : Known) → IfSome (first_for votes (drop n known)) P → IfSome (first_of_client known (object_for votes n)) P
first_taken P votes n known h = subst (λ (f : Option (List Handed)). IfSome f P) (sym (first_left (is_boxed votes) n known)) h

left_is : (b : Bool) (n : ℕ) (known : Known) → left_if b (drop n known) ≡ drop (next_if b n) known
left_is true n known = drop-drop 1 n known
left_is false n known = refl

pub left_taken : (Q : Known → Type 0) (votes : List ℕ) (n m : ℕ) (known : Known) → m ≡ next_for votes n → Q (left_for votes (drop n known)) → Q (drop m known)
left_taken Q votes n m known is h = subst (λ (k : ℕ). Q (drop k known)) (sym is) (subst Q (left_is (is_boxed votes) n known) h)

object_is : (b : Bool) (n : ℕ) → is_some (object_if b n) ≡ b
object_is true n = refl
object_is false n = refl

pub taken_boxed : (votes : List ℕ) (n : ℕ) (b : Bool) → b ≡ is_boxed votes → b ≡ is_some (object_for votes n)
taken_boxed votes n b is = is ∙ sym (object_is (is_boxed votes) n)

pub first_none : (P : List Handed → Type 0) (votes : List ℕ) (n : ℕ) (known : Known) → is_boxed votes ≡ false → P [] → IfSome (first_of_client known (object_for votes n)) P
first_none P votes n known plain h = subst (λ (b : Bool). IfSome (first_of_client known (object_if b n)) P) (sym plain) h

pub rows_hand : {scripts : List (Option (List (Option VoteItem)))} {P : List Handing → Type 0} {row : Answering → Core} (s t u : Core) (x : Audience) → t ≡ u → InNameOrder s.groups → (d : Does scripts P s t row) → RowsHand s u x (record x { logs = after_handings d.handings x.logs })
rows_hand s t u x same order d = subst (λ v. RowsHand s v x (record x { logs = after_handings d.handings x.logs })) same (record {
  records = d.along.records;
  more = d.along.more;
  handings = d.handings;
  told = d.stated order;
  owned = d.owned;
  logs = refl;
})
