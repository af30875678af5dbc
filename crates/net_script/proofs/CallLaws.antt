-- Calls of clients, whose sessions begin and end with some.
use Rattle.std.proofs.Common.{◌≡◌, ℕ, zero, suc, ◌+◌, ◌==◌, Bool, true, false, cond, List, [], ◌∷◌, ◌++◌, map, Option, Some, None, Result, Ok, Err, IsTrue, get_or, set, refl, sym, ap, ◌∙◌, subst, ne_eqb}
use Rattle.std.specs.Prelude.{fold, find, remove}
use Rattle.std.specs.List.{list_any}
use Rattle.std.specs.Option.{ForSome, unwrap_or}
use Rattle.std.proofs.lemmas.Bool.{or_parts, eqb-false, eq-eqb}
use Rattle.std.proofs.lemmas.List.{map-append}
use Rattle.client_callbacks.specs.declared.votes.VoteItem.{VoteItem}
use Rattle.client_callbacks.specs.Votes.{votes_word, votes_end, votes_byte, vote_item, with_item, is_word}
use Rattle.session_clients.specs.Notices.{FillTheirScripts}
use Rattle.rsct_packet.specs.Search.{place_where}
use Rattle.session_state.specs.declared.fault.GsFault.{GsFault}
use Rattle.session_state.specs.declared.fault.GsFault.TheVariants.{NoInit}
use Rattle.session_state.specs.declared.state.Provider.{Provider}
use Rattle.session_state.specs.declared.state.Session.{Session}
use Rattle.session_state.specs.declared.state.SessionState.{SessionState}
use Rattle.session_state.specs.State.{is_session, client_token, client_place}
use Rattle.session_state.specs.Calls.{unless_fault, client_fault, init_fault, add_session, inited, removed_at, end_session, goodbye_taken}
use Rattle.node_calls.specs.Calling.{clients_with, is_within_session}
use Rattle.node_calls.proofs.CallLaws.{gone_keeps, refused_place}
use Rattle.node_state.specs.declared.call.CallLine.{CallLine}
use Rattle.node_state.specs.declared.call.CallLine.TheVariants as call
use Rattle.node_state.specs.declared.happened.Happened.{Happened}
use Rattle.node_state.specs.declared.happened.Happened.TheVariants as happened
use Rattle.node_state.specs.declared.state.Core.{Core}
use Rattle.node_state.specs.State.{frozen, recorded, with_sessions}
use Rattle.node_state.specs.HandOn.{Answering}
use Rattle.node_state.specs.Calls.{caller_of, refuse_call, changed, send_gone, send_all_gone, goodbye_said, take_call}
use Rattle.node_state.specs.Step.{Calls, at_work, stepped}
use Rattle.entry_delivery.specs.Received.{Handing}
use Rattle.entry_delivery.specs.Doing.{Does}
use Rattle.group_leading.proofs.AnswerLaws.{does_some}
use Rattle.node_core.specs.Node.{NodeView}
use Rattle.world_model.specs.World.{Script, by_scripts, is_node, node_at, traced, after_step, steps, script_of, scripts_after, calls_if}
use Rattle.world_model.specs.World as world
use Rattle.net_script.specs.declared.steps.Left.{Left}
use Rattle.net_script.specs.declared.world.World.{World}
use Rattle.world_laws.specs.world_answers.Answers.{step_by, calls_by_if}
use Rattle.world_laws.specs.world_answers.Answers.{Items, AllWorded}
use Rattle.net_script.specs.Standing.{is_me, silent_or, votes_by, votes_in, NodesStand, Leaves, StepDone, StepsAs, StepsNode, StepsSome, StepsIn, with_scripts, CallDone, Goes, Passes, Comes, Settled}
use Rattle.play_state.specs.Posting.{bytes_after}
use Rattle.net_script.proofs.NodeLaws.{steps_by}
use Rattle.net_script.proofs.StepLaws.{same_lives, row_done}
use Rattle.net_script.proofs.WorldLaws.{goes_recorded, after_goes, after_passes}

silent_or_one : (xs : Items) (i : Option VoteItem) → silent_or (xs ++ i ∷ []) ≡ xs ++ i ∷ []
silent_or_one [] i = refl
silent_or_one (x ∷ xs) i = refl

some_end : (a : Option Items) (b : Option (Option VoteItem)) (items : Items) → with_item a b ≡ Some items → silent_or items ≡ items
some_end None b items e = absurd cc
some_end (Some xs) None items e = absurd cc
some_end (Some xs) (Some i) items e = let is : items ≡ xs ++ i ∷ [] = cc in rw is (silent_or_one xs i)

some_word : (t : Bool) (o : Option Items) (items : Items) → ((is : Items) → o ≡ Some is → silent_or is ≡ is) → cond t o None ≡ Some items → silent_or items ≡ items
some_word true o items h e = h items e
some_word false o items h e = absurd cc

-- a votes word has an item
pub votes_by_word : (w : List ℕ) (items : Items) → Some items ≡ votes_word w → items ≡ silent_or (unwrap_or (votes_word w) [])
unfolding votes_word votes_end
votes_by_word w items e =
    sym (ap (λ o. silent_or (unwrap_or o [])) (sym e) ∙ some_word (is_word w) (votes_end (fold votes_byte (record { items = Some []; piece = [] }) w)) items
    (some_end (fold votes_byte (record { items = Some []; piece = [] }) w).items (vote_item (fold votes_byte (record { items = Some []; piece = [] }) w).piece)) (sym e))

dash : (items : Items) → Some items ≡ votes_word (45 ∷ []) → items ≡ None ∷ []
unfolding votes_word votes_end votes_byte vote_item
dash items e = let is : Some items ≡ Some (None ∷ []) = e in cc

-- the word `-` says what one says who is silent
pub silent_without_word : (w : List ℕ) (items : Items) → None ≡ votes_word w → Some items ≡ votes_word (45 ∷ []) → items ≡ silent_or (unwrap_or (votes_word w) [])
silent_without_word w items none e = rw (← none) (dash items e)

turned : (a b : ℕ) → (a == b) ≡ false → (b == a) ≡ false
turned a b e = ne_eqb b a (λ same. eqb-false a b e (sym same))

map_removed : {A B : Type 0} (f : A → B) (xs : List A) (i : ℕ) → map f (remove xs i) ≡ remove (map f xs) i
map_removed f [] zero = refl
map_removed f [] (suc i) = refl
map_removed f (x ∷ xs) zero = refl
map_removed f (x ∷ xs) (suc i) = ap (λ ys. f x ∷ ys) (map_removed f xs i)

map_left : {A B : Type 0} (f : A → B) (o : Option ℕ) (xs : List A) → map f (removed_at o xs) ≡ removed_at o (map f xs)
map_left f None xs = refl
map_left f (Some i) xs = map_removed f xs i

each_gone : (s : Core) (xs : List Provider) → (fold send_gone s xs).sessions.sessions ≡ s.sessions.sessions
each_gone s [] = refl
each_gone s (x ∷ xs) = each_gone (send_gone s x) xs ∙ (gone_keeps s (send_gone s x) x refl).sessions.0

gone_if : (t : Bool) (s g : Core) → g.sessions.sessions ≡ s.sessions.sessions → (elim t as (λ b. Core) [ true ↦ s | false ↦ g ]).sessions.sessions ≡ s.sessions.sessions
gone_if true s g e = refl
gone_if false s g e = e

ended_if : (o : Option GsFault) (t u : SessionState) → unless_fault o t ≡ Ok u → u ≡ t
ended_if None t u e = cc
ended_if (Some f) t u e = absurd cc

said_sessions : (s : Core) (client : List ℕ) (ended : List Provider) (r : Result SessionState GsFault) → goodbye_taken s.sessions (client_token s.sessions client) ≡ r
    → (goodbye_said s client ended r).sessions.sessions ≡ removed_at (client_place s.sessions (client_token s.sessions client)) s.sessions.sessions
unfolding goodbye_said goodbye_taken send_all_gone refuse_call recorded with_sessions end_session
said_sessions s client ended (Ok u) e =
    gone_if (frozen (record s { sessions = u })) (record s { sessions = u }) _ (each_gone (record s { sessions = u }) ended) ∙ ap (λ (z : SessionState). z.sessions) (ended_if (client_fault s.sessions (client_token s.sessions client)) (end_session s.sessions (client_token s.sessions client)) u e)
said_sessions s client ended (Err f) e = sym (ap (λ o. removed_at o s.sessions.sessions) (refused_place s.sessions (client_token s.sessions client) f e))

within_scripts : (c : CallLine) (x : Core) (ss : List Script) → IsTrue (is_within_session c) → scripts_after c x ss ≡ ss
unfolding scripts_after
within_scripts (call.Init node name votes) x ss h = absurd cc
within_scripts _ x ss h = refl

called_down : (k : ℕ) (c : CallLine) (w : world.World) → find (is_node k) w.nodes ≡ None → calls_if w k c (node_at w k) ≡ traced w (happened.Refused k (caller_of c) NoInit ∷ [])
unfolding calls_if node_at
called_down k c w e = rw e refl

called_up : (k : ℕ) (c : CallLine) (w : world.World) (x : world.Node) → find (is_node k) w.nodes ≡ Some x
    → calls_if w k c (node_at w k) ≡ after_step w (scripts_after c x.core x.scripts) (stepped (by_scripts (scripts_after c x.core x.scripts)) x.core (Calls c))
unfolding calls_if node_at steps
called_up k c w x e = rw e refl

-- what a call makes of a world where clients answer like this
abbrev pub called : ℕ → CallLine → Answering → world.World → world.World
called k c f w = calls_by_if f w k c (node_at w k)

called_down_by : (f : Answering) (k : ℕ) (c : CallLine) (w : world.World) → find (is_node k) w.nodes ≡ None → called k c f w ≡ traced w (happened.Refused k (caller_of c) NoInit ∷ [])
unfolding calls_by_if node_at
called_down_by f k c w e = rw e refl

called_up_by : (f : Answering) (k : ℕ) (c : CallLine) (w : world.World) (x : world.Node) → find (is_node k) w.nodes ≡ Some x → called k c f w ≡ after_step w (scripts_after c x.core x.scripts) (stepped f x.core (Calls c))
unfolding calls_by_if node_at step_by
called_up_by f k c w x e = rw e refl

-- a client that is made of a votes word
pub said_by_word : {C : Type 0} (script : C → Option Items) (said : Items → Option Items) (c : C) (w : List ℕ) (items : Items) → Some items ≡ votes_word w → ForSome (votes_word w) (λ is. script c ≡ said is) → script c ≡ said (silent_or (unwrap_or (votes_word w) []))
said_by_word script said c w items e h = h items (sym e) ∙ ap said (votes_by_word w items e)

-- one that is made of the word `-`, since there is no votes word
pub said_without_word : {C : Type 0} (script : C → Option Items) (said : Items → Option Items) (c : C) (w : List ℕ) → None ≡ votes_word w → ForSome (votes_word (45 ∷ [])) (λ is. script c ≡ said is) → script c ≡ said (silent_or (unwrap_or (votes_word w) []))
unfolding votes_word votes_end votes_byte vote_item
said_without_word script said c w none h = h (None ∷ []) refl ∙ ap said (silent_without_word w (None ∷ []) none refl)

other_votes : (said : Items → Option Items) (s : Script) (ss : List Script) (x : Session) → is_session s.token x ≡ false → votes_by said (s ∷ ss) x ≡ votes_by said ss x
other_votes said s ss x e = rw (turned x.token.number s.token.number e) refl

-- a script of a token that no session has
fresh_votes : (said : Items → Option Items) (s : Script) (ss : List Script) (xs : List Session) → list_any (is_session s.token) xs ≡ false → votes_in said (s ∷ ss) xs ≡ votes_in said ss xs
fresh_votes said s ss [] e = refl
fresh_votes said s ss (x ∷ xs) e =
    let parts : (is_session s.token x ≡ false) × (list_any (is_session s.token) xs ≡ false) = or_parts (is_session s.token x) (list_any (is_session s.token) xs) e in
    ap (λ v. v ∷ votes_in said (s ∷ ss) xs) (other_votes said s ss x parts.0) ∙ ap (λ vs. votes_by said ss x ∷ vs) (fresh_votes said s ss xs parts.1)

own_votes : (said : Items → Option Items) (s : Script) (ss : List Script) (x : Session) → (s.token.number == x.token.number) ≡ true → votes_by said (s ∷ ss) x ≡ said (silent_or s.items)
own_votes said s ss x e = rw e refl

-- the clients vote by the scripts, with that of the new one
begun_votes : {C : Type 0} (script : C → Option Items) (said : Items → Option Items) (o : Option GsFault) (s : Script) (ss : List Script) (core : Core) (name : List ℕ) (c : C) (cs : List C)
    → s.token.number ≡ core.sessions.last_client + 1 → list_any (is_session s.token) core.sessions.sessions ≡ false → script c ≡ said (silent_or s.items) → map script cs ≡ votes_in said ss core.sessions.sessions
    → map script (clients_with c cs (unless_fault o (add_session core.sessions name))) ≡ votes_in said (s ∷ ss) (changed core name (unless_fault o (add_session core.sessions name))).sessions.sessions
unfolding add_session changed refuse_call recorded with_sessions
begun_votes script said None s ss core name c cs token fresh items votes =
    let new : Session = record { token = record { number = core.sessions.last_client + 1 }; name = name } in
    let own : script c ≡ votes_by said (s ∷ ss) new = items ∙ sym (own_votes said s ss new (eq-eqb s.token.number new.token.number token)) in
    map-append script cs (c ∷ []) ∙ (ap (λ vs. vs ++ script c ∷ []) (votes ∙ sym (fresh_votes said s ss core.sessions.sessions fresh))
    ∙ (ap (λ v. votes_in said (s ∷ ss) core.sessions.sessions ++ v ∷ []) own ∙ sym (map-append (votes_by said (s ∷ ss)) core.sessions.sessions (new ∷ []))))
begun_votes script said (Some f) s ss core name c cs token fresh items votes = votes ∙ sym (fresh_votes said s ss core.sessions.sessions fresh)

module _ {C : Type 0} {script : C → Option Items} {said : Items → Option Items} where
  -- ---- the words that clients vote by

  -- ---- a session that begins

  pub init_done : FillTheirScripts → (n m o : NodeView C) (l : Left) (c : C) (P : List Handing → Type 0) (name votes : List ℕ) (k : ℕ) → false ≡ list_any (is_session (record { number = n.core.sessions.last_client + 1 })) n.core.sessions.sessions
      → script c ≡ said (silent_or (unwrap_or (votes_word votes) [])) → map script m.clients ≡ map script (clients_with c n.clients (inited n.core.sessions name))
      → Does (map script m.clients) P (take_call (at_work n.core) (call.Init k name votes)) m.core (λ f. stepped f n.core (Calls (call.Init k name votes))) → Leaves m o l n.core.views.me → CallDone script said n o l (call.Init k name votes)
  unfolding scripts_after script_of inited take_call
  init_done fill n m o l c P name votes k fresh items after d left =
      let some : (f : Answering) × (m.core ≡ stepped f n.core (Calls (call.Init k name votes))) = does_some (map script m.clients) P (take_call (at_work n.core) (call.Init k name votes)) m.core (λ f. stepped f n.core (Calls (call.Init k name votes))) d in (
        some.0,
        λ x h.
            let last : x.core.sessions.last_client ≡ n.core.sessions.last_client = ap (λ (s : Core). s.sessions.last_client) (sym h.core) in
            let s : Script = record { token = record { number = x.core.sessions.last_client + 1 }; items = unwrap_or (votes_word votes) [] } in
            row_done fill n m o l x (s ∷ x.scripts) P (take_call (at_work n.core) (call.Init k name votes)) (Calls (call.Init k name votes)) some.0 h
            (after ∙ begun_votes script said (init_fault n.core.sessions name) s x.scripts (at_work n.core) name c n.clients (ap (λ z. z + 1) last)
            (ap (λ z. list_any (is_session (record { number = z + 1 })) n.core.sessions.sessions) last ∙ sym fresh) items (h.votes ∙ ap (votes_in said x.scripts) (sym (same_lives n x h))))
            d some.1 left,
      )

  -- ---- a session that ends

  pub goodbye_done : FillTheirScripts → (n m o : NodeView C) (l : Left) (P : List Handing → Type 0) (client : List ℕ) → map script m.clients ≡ map script (removed_at (client_place n.core.sessions (client_token n.core.sessions client)) n.clients)
      → Does (map script m.clients) P (take_call (at_work n.core) (call.Goodbye client)) m.core (λ f. stepped f n.core (Calls (call.Goodbye client))) → Leaves m o l n.core.views.me → CallDone script said n o l (call.Goodbye client)
  unfolding scripts_after take_call
  goodbye_done fill n m o l P client after d left =
      let place : Option ℕ = client_place n.core.sessions (client_token n.core.sessions client) in
      let some : (f : Answering) × (m.core ≡ stepped f n.core (Calls (call.Goodbye client))) = does_some (map script m.clients) P (take_call (at_work n.core) (call.Goodbye client)) m.core (λ f. stepped f n.core (Calls (call.Goodbye client))) d in (
        some.0,
        λ x h.
            let votes : map script n.clients ≡ votes_in said x.scripts n.core.sessions.sessions = h.votes ∙ ap (votes_in said x.scripts) (sym (same_lives n x h)) in
            row_done fill n m o l x x.scripts P (take_call (at_work n.core) (call.Goodbye client)) (Calls (call.Goodbye client)) some.0 h
            (after ∙ (map_left script place n.clients ∙ (ap (removed_at place) votes ∙ (sym (map_left (votes_by said x.scripts) place n.core.sessions.sessions) ∙ ap (votes_in said x.scripts) (sym (said_sessions (at_work n.core) client _ _ refl))))))
            d some.1 left,
      )

  -- ---- other calls

  pub within_done : (n o : NodeView C) (l : Left) (c : CallLine) → IsTrue (is_within_session c) → StepsAs script said n o l (Calls c) → CallDone script said n o l c
  within_done n o l c within done = (done.0, λ x h. subst (λ ss. StepDone script said done.0 o l x ss (Calls c)) (sym (within_scripts c x.core x.scripts within)) (done.1 x h))

  -- a node at a place is called
  pub call_at : (ns : List (NodeView C)) (k i : ℕ) (old new : NodeView C) (l : Left) (c : CallLine) → Some i ≡ place_where (is_me k) ns → old ≡ get_or ns i old
      → CallDone script said old new l c → StepsIn script said ns (set ns i new) k (Some l) (with_scripts c) (Calls c)
  call_at ns k i old new l c at here done = (done.0, steps_by script said done.0 (λ x. scripts_after c x.core x.scripts) ns k i old new l (Calls c) at here done.1)

  -- ---- a call in a world

  -- where each client votes just as its word says, the call is the world's own
  called_worded : (a : Answering) (ms : List (NodeView C)) (k : ℕ) (l : Left) (call : CallLine) (w : world.World) → StepsNode script said a ms k l (with_scripts call) (Calls call) w.nodes → AllWorded said → called k call a w ≡ calls_if w k call (node_at w k)
  called_worded a ms k l call w s all =
      called_up_by a k call w s.node s.found ∙ (ap (after_step w (scripts_after call s.node.core s.node.scripts)) (s.worded all) ∙ sym (called_up k call w s.node s.found))

  pub call_refuses : (c d : World C) (k : ℕ) (call : CallLine) (before after : List Happened) → d ≡ c → ((xs : List world.Node) → NodesStand script said c.nodes xs → find (is_node k) xs ≡ None) → after ≡ before ++ happened.Refused k (caller_of call) NoInit ∷ []
      → Comes script said c (Goes script said c d before after) (called k call) (λ w. calls_if w k call (node_at w k))
  call_refuses c d k call before after same missing out = record {
    answers = none;
    comes = λ w h.
        subst (λ z. Goes script said c z before after w (called k call none w)) (sym same)
        (subst (Goes script said c c before after w) (sym (called_down_by none k call w (missing w.nodes h.nodes))) (goes_recorded c before after (happened.Refused k (caller_of call) NoInit ∷ []) w h out));
    worded = λ all w h. called_down_by none k call w (missing w.nodes h.nodes) ∙ sym (called_down k call w (missing w.nodes h.nodes));
  }
    where
      none : Answering
      none = λ n s e after p. None

  pub call_goes : (c m d : World C) (k : ℕ) (l : Left) (call : CallLine) (before after : List Happened) → m ≡ record c { nodes = m.nodes } → StepsSome script said c.nodes m.nodes k l (with_scripts call) (Calls call)
      → Settled m d l before after → Comes script said c (Goes script said c d before after) (called k call) (λ w. calls_if w k call (node_at w k))
  call_goes c m d k l call before after same stepping settled = record {
    answers = stepping.0;
    comes = λ w h.
        let s : StepsNode script said stepping.0 m.nodes k l (with_scripts call) (Calls call) w.nodes = stepping.1 w.nodes h.nodes in
        subst (Goes script said c d before after w) (sym (called_up_by stepping.0 k call w s.node s.found))
        (after_goes c m d l _ (scripts_after call s.node.core s.node.scripts) before after w h same s.stands s.sends s.records settled);
    worded = λ all w h. called_worded stepping.0 m.nodes k l call w (stepping.1 w.nodes h.nodes) all;
  }

  pub call_passes : (c m : World C) (k sum : ℕ) (l : Left) (call : CallLine) → m ≡ record c { nodes = m.nodes } → StepsSome script said c.nodes m.nodes k l (with_scripts call) (Calls call)
      → (bytes_after m.limit m.kept l.sends).passed ≡ Some sum → Comes script said c (Passes sum c) (called k call) (λ w. calls_if w k call (node_at w k))
  call_passes c m k sum l call same stepping passed = record {
    answers = stepping.0;
    comes = λ w h.
        let s : StepsNode script said stepping.0 m.nodes k l (with_scripts call) (Calls call) w.nodes = stepping.1 w.nodes h.nodes in
        subst (Passes sum c w) (sym (called_up_by stepping.0 k call w s.node s.found)) (after_passes c m sum l _ (scripts_after call s.node.core s.node.scripts) w same s.sends passed);
    worded = λ all w h. called_worded stepping.0 m.nodes k l call w (stepping.1 w.nodes h.nodes) all;
  }
