-- The calls of clients.
use Rattle.std.proofs.Common.{◌≡◌, ◌⊎◌, ℕ, List, [], ◌∷◌, ◌++◌, Option, Some, None, Bool, true, false, refl, sym, ap, ◌∙◌, subst, inl, inr}
use Rattle.std.specs.Prelude.{filter, fold, Result, Ok, Err, not, reverse}
use Rattle.std.specs.List.{last_or}
use Rattle.rsct_packet.specs.declared.ids.ProviderId.{ProviderId}
use Rattle.rsct_packet.specs.Search.{Has}
use Rattle.rsct_packet.proofs.HasLaws.{has_append, filter_has}
use Rattle.group_attr.specs.declared.attrs.Attrs.{Attrs}
use Rattle.subscribe_core.specs.declared.subs.ClientToken.{ClientToken}
use Rattle.client_callbacks.specs.declared.ballot.Filled.{Filled}
use Rattle.session_state.specs.declared.fault.GsFault.{GsFault}
use Rattle.session_state.specs.declared.state.Provider.{Provider}
use Rattle.session_state.specs.declared.state.Request.{Request}
use Rattle.session_state.specs.declared.state.KeptBallot.{KeptBallot}
use Rattle.session_state.specs.declared.state.SessionState.{SessionState}
use Rattle.session_state.specs.State.{is_client_of, client_token}
use Rattle.session_state.specs.Calls.{inited, joined, left, expelled, state_changed, message_sent, attributes_changed, voted, subscribe_taken, unsubscribe_taken, goodbye_taken, unless_fault, client_fault, end_session, join_fault, join_asked, new_provider}
use Rattle.node_state.specs.declared.call.CallLine.{CallLine}
use Rattle.node_state.specs.declared.call.CallLine.TheVariants as call
use Rattle.node_state.specs.declared.happened.Happened.TheVariants as happened
use Rattle.node_state.specs.declared.packet.Body.TheVariants as body
use Rattle.node_state.specs.declared.state.Core.{Core}
use Rattle.node_state.specs.State.{holds, frozen, leader_of, with_sessions}
use Rattle.node_state.specs.Calls.{caller, subscriber, refuse_call, changed, ask_last, proposed, record_ballot, ballot_sent_if, cast_last, give_ballot, send_gone, send_all_gone, goodbye_said, take_call}
use Rattle.run_safety.specs.Past.{History, records_of}
use Rattle.row_laws.proofs.honest_votes.Changes.{Every, NoGroup}
use Rattle.row_laws.proofs.hearing.Sessions.{fewer_ended}
use Rattle.row_laws.proofs.failed_rows.Living.{IsLive, NoLoss, NewAsks, joined_lives, left_lives, expelled_lives, state_lives, message_lives, attributes_lives, left_same, expelled_same, state_same, message_same, attributes_same, inited_lives, voted_lives, subscribe_lives, unsubscribe_lives, NoTaker, same_taker, joined_taker, inited_same, voted_same, subscribe_same, unsubscribe_same}
use Rattle.row_laws.proofs.failed_rows.Facts.{Lives, OwnFor}
use Rattle.row_laws.proofs.failed_rows.Origin.{Origin, slim_free}
use Rattle.row_laws.proofs.failed_rows.At.{At, at_fold, at_recorded, at_call_refused, at_sessions, at_asked}
use Rattle.row_laws.proofs.failed_rows.Sends.{at_sent_if_known, at_request_sent, at_kept_sent}

abbrev pub IsTaken : Result SessionState GsFault → Type 0
IsTaken (Ok t) = Unit {0}
IsTaken (Err f) = ⊥

-- a goodbye that is taken; of other calls it is not said
abbrev pub Taken : SessionState → CallLine → Type 0
Taken s (call.Goodbye client) = IsTaken (goodbye_taken s (client_token s client))
Taken s _ = ⊥

-- whose providers a goodbye ends
abbrev pub Ended : SessionState → CallLine → List Provider
Ended s (call.Goodbye client) = filter (is_client_of (client_token s client)) s.providers
Ended s _ = []

-- through a call no state is followed, since a join lets a provider come in
module _ (h : History) (said : ProviderId → Type 0) (origin : Origin) (free : origin.root ≡ None) (P L M : Type 0) where
  abbrev Full : Core → Type 0
  Full s = At h said origin P L M Every NoGroup Every s

  refused_at : (s : Core) (client : List ℕ) (f : GsFault) → (M → ⊥) → Full s → Full (refuse_call s client f)
  unfolding refuse_call
  refused_at s client f none a = at_call_refused h said origin P L M Every NoGroup Every s s.views.me client f none a

  -- the sessions change, and whoever is there stays
  kept_own : (s : Core) (t : SessionState) → ((p : ProviderId) → IsLive s.sessions p → IsLive t p) → Full s → OwnFor h said origin.born t s
  kept_own s t keeps a p node inc asked = by (a.own p node inc asked)
    where
      by : Lives said s.sessions (reverse s.records ++ records_of h) p → Lives said t (reverse s.records ++ records_of h) p
      by (inl k) = inl (keeps p k)
      by (inr k) = inr k

  at_kept : (s : Core) (t : SessionState) → ((p : ProviderId) → IsLive s.sessions p → IsLive t p) → NoTaker s.sessions (Ok t) → Full s → Full (with_sessions s t)
  at_kept s t keeps takes a = at_sessions h said origin P L M Every NoGroup Every s t (slim_free origin.root t s.records free) (kept_own s t keeps a) (λ p y q part. a.takers p y (takes p y q part) part) a

  at_changed : (s : Core) (client : List ℕ) (r : Result SessionState GsFault) → (M → ⊥) → NoLoss s.sessions r → NoTaker s.sessions r → Full s → Full (changed s client r)
  unfolding changed
  at_changed s client (Ok t) none keeps takes a = at_kept s t keeps takes a
  at_changed s client (Err f) none keeps takes a = refused_at s client f none a

  -- whose requests these are is of the node
  abbrev Mine : Core → Type 0
  Mine s = (p : ProviderId) → IsLive s.sessions p → p.node ≡ s.views.me

  at_last_asked : (s : Core) (o : Option Request) → ((q : Request) → o ≡ Some q → IsLive s.sessions q.provider) → Mine s → Full s → Full (ask_last s o)
  unfolding ask_last
  at_last_asked s None live mine a = a
  at_last_asked s (Some q) live mine a =
      at_request_sent h said origin P L M Every NoGroup Every _ q (at_asked h said origin P L M Every NoGroup Every free s q.provider q.request q.group q.proposal (live q refl) (mine q.provider (live q refl)) a)

  abbrev MineAfter : Core → Result SessionState GsFault → Type 0
  MineAfter s (Ok t) = (p : ProviderId) → IsLive t p → p.node ≡ s.views.me
  MineAfter s (Err f) = Unit {0}

  at_proposed : (s : Core) (client : List ℕ) (r : Result SessionState GsFault) → (M → ⊥) → NoLoss s.sessions r × NewAsks r → NoTaker s.sessions r → MineAfter s r → Full s → Full (proposed s client r)
  unfolding proposed with_sessions
  at_proposed s client (Ok t) none keeps takes mine a = at_last_asked (with_sessions s t) (last_or None t.requests) keeps.1 mine (at_kept s t keeps.0 takes a)
  at_proposed s client (Err f) none keeps takes mine a = refused_at s client f none a

  at_cast : (s : Core) (k : KeptBallot) (b : Option Filled) → Full s → Full (record_ballot s k b)
  unfolding record_ballot
  at_cast s k None a = a
  at_cast s k (Some b) a = at_recorded h said origin P L M Every NoGroup Every s (happened.Cast k.provider k.proto k.phase b.vote b.value b.message) tt a

  at_cast_sent : (s : Core) (k : KeptBallot) (b : Bool) → Full s → Full (ballot_sent_if s k b)
  unfolding ballot_sent_if
  at_cast_sent s k true a = a
  at_cast_sent s k false a = at_kept_sent h said origin P L M Every NoGroup Every s k a

  at_last_cast : (s : Core) (o : Option KeptBallot) → Full s → Full (cast_last s o)
  unfolding cast_last
  at_last_cast s None a = a
  at_last_cast s (Some k) a = at_cast_sent (record_ballot s k k.ballot.filled) k (frozen s) (at_cast s k k.ballot.filled a)

  at_ballot : (s : Core) (client : List ℕ) (r : Result SessionState GsFault) → (M → ⊥) → NoLoss s.sessions r → NoTaker s.sessions r → Full s → Full (give_ballot s client r)
  unfolding give_ballot
  at_ballot s client (Ok t) none keeps takes a = at_last_cast (with_sessions s t) (last_or None t.kept) (at_kept s t keeps takes a)
  at_ballot s client (Err f) none keeps takes a = refused_at s client f none a

  -- GONE is sent for each provider that a goodbye ends
  at_gone_sent : (s : Core) (x : Provider) → said x.provider → Full s → Full (send_gone s x)
  unfolding send_gone
  at_gone_sent s x ok a = at_sent_if_known h said origin P L M Every NoGroup Every s (leader_of s x.group) (body.Gone s.views.view x.group x.provider) (inl ok) a

  at_all_gone : (s : Core) (xs : List Provider) → ((x : Provider) → Has x xs → said x.provider) → Full s → Full (send_all_gone s xs)
  unfolding send_all_gone
  at_all_gone s xs ok a = by (frozen s)
    where
      by : (b : Bool) → Full (elim b as (λ _. Core) [ true ↦ s | false ↦ fold send_gone s xs ])
      by true = a
      by false = at_fold h said origin P L M Every NoGroup Every send_gone xs (λ t x i k. at_gone_sent t x (ok x i) k) s a

  abbrev Ends : Core → List Provider → Result SessionState GsFault → Type 0
  Ends s xs (Ok t) = OwnFor h said origin.born t s
  Ends s xs (Err f) = Unit {0}

  at_goodbye : (s : Core) (client : List ℕ) (xs : List Provider) (r : Result SessionState GsFault) → (M → IsTaken r) → (IsTaken r → (x : Provider) → Has x xs → said x.provider) → Ends s xs r → NoTaker s.sessions r → Full s → Full (goodbye_said s client xs r)
  unfolding goodbye_said
  at_goodbye s client xs (Ok t) taken ok ends takes a = at_all_gone (with_sessions s t) xs (ok tt) (at_sessions h said origin P L M Every NoGroup Every s t (slim_free origin.root t s.records free) ends (λ p y q part. a.takers p y (takes p y q part) part) a)
  at_goodbye s client xs (Err f) taken ok ends takes a = refused_at s client f (λ m. taken m) a

  -- whom a goodbye ends it is said of
  ended_own : (s : Core) (t : ClientToken) → ((x : Provider) → Has x (filter (is_client_of t) s.sessions.providers) → said x.provider) → Full s → OwnFor h said origin.born (end_session s.sessions t) s
  unfolding end_session
  ended_own s t ok a p node inc asked = by (a.own p node inc asked)
    where
      here : (x : Provider) → Has x s.sessions.providers → x.provider ≡ p → (b : Bool) → is_client_of t x ≡ b → Lives said (end_session s.sessions t) (reverse s.records ++ records_of h) p
      here x i e true c = inr (inl (subst said e (ok x (filter_has (is_client_of t) x s.sessions.providers i c))))
      here x i e false c = inl (x, filter_has (λ x. not (is_client_of t x)) x s.sessions.providers i (ap not c), e)

      by : Lives said s.sessions (reverse s.records ++ records_of h) p → Lives said (end_session s.sessions t) (reverse s.records ++ records_of h) p
      by (inl k) = here k.0 k.1 k.2 (is_client_of t k.0) refl
      by (inr k) = inr k

  goodbye_ends : (s : Core) (client : List ℕ) → (Taken s.sessions (call.Goodbye client) → (x : Provider) → Has x (Ended s.sessions (call.Goodbye client)) → said x.provider) → Full s → Ends s (Ended s.sessions (call.Goodbye client)) (goodbye_taken s.sessions (client_token s.sessions client))
  unfolding goodbye_taken
  goodbye_ends s client ok a = by (client_fault s.sessions (client_token s.sessions client)) ok
    where
      by : (o : Option GsFault) → (IsTaken (unless_fault o (end_session s.sessions (client_token s.sessions client))) → (x : Provider) → Has x (Ended s.sessions (call.Goodbye client)) → said x.provider) → Ends s (Ended s.sessions (call.Goodbye client)) (unless_fault o (end_session s.sessions (client_token s.sessions client)))
      by None ok = ended_own s (client_token s.sessions client) (ok tt) a
      by (Some f) ok = tt

  goodbye_taker : (s : Core) (client : List ℕ) → ((a b : Provider) → Has a s.sessions.providers → Has b s.sessions.providers → a.provider ≡ b.provider → a.client ≡ b.client) → NoTaker s.sessions (goodbye_taken s.sessions (client_token s.sessions client))
  unfolding goodbye_taken
  goodbye_taker s client owner = by (client_fault s.sessions (client_token s.sessions client))
    where
      by : (o : Option GsFault) → NoTaker s.sessions (unless_fault o (end_session s.sessions (client_token s.sessions client)))
      by None = λ p y q part. (fewer_ended s.sessions (client_token s.sessions client) owner).providers p y q
      by (Some f) = tt

  -- providers that come in are the node's own
  joined_mine : (s : Core) (t : ClientToken) (g : List ℕ) (instance : ℕ) (attrs : Attrs) → Mine s → s.sessions.me ≡ s.views.me → MineAfter s (joined s.sessions t g instance attrs)
  unfolding joined join_asked
  joined_mine s t g instance attrs mine me = by (join_fault s.sessions t g attrs)
    where
      new : Provider
      new = record { provider = new_provider s.sessions instance; client = t; group = g; takes_part = false; opened = None }

      one : (p : ProviderId) (x : Provider) → Has x s.sessions.providers ⊎ Has x (new ∷ []) → x.provider ≡ p → p.node ≡ s.views.me
      one p x (inl i) e = mine p (x, i, e)
      one p x (inr (inl q)) e = ap (λ (z : ProviderId). z.node) (sym e) ∙ ap (λ (z : Provider). z.provider.node) q ∙ me
      one p x (inr (inr z)) e = absurd z

      by : (o : Option GsFault) → MineAfter s (unless_fault o (join_asked s.sessions t g instance attrs))
      by None = λ p k. one p k.0 (has_append k.0 s.sessions.providers (new ∷ []) k.1) k.2
      by (Some f) = tt

  -- where the providers stay
  abbrev SameAfter : Core → Result SessionState GsFault → Type 0
  SameAfter s (Ok t) = t.providers ≡ s.sessions.providers
  SameAfter s (Err f) = Unit {0}

  same_mine : (s : Core) (r : Result SessionState GsFault) → Mine s → SameAfter s r → MineAfter s r
  same_mine s (Ok t) mine e = λ p k. mine p (k.0, subst (Has k.0) e k.1, k.2)
  same_mine s (Err f) mine e = tt

  pub at_call : (s : Core) (c : CallLine) → (M → Taken s.sessions c) → (Taken s.sessions c → (x : Provider) → Has x (Ended s.sessions c) → said x.provider) → Mine s → ((a b : Provider) → Has a s.sessions.providers → Has b s.sessions.providers → a.provider ≡ b.provider → a.client ≡ b.client) → s.sessions.me ≡ s.views.me → Full s → Full (take_call s c)
  unfolding take_call
  at_call s (call.Init node name votes) m ok mine owner me a = at_changed s name (inited s.sessions name) m (inited_lives s.sessions name) (same_taker s.sessions (inited s.sessions name) (inited_same s.sessions name)) a
  at_call s (call.Join client g instance attrs) m ok mine owner me a = at_proposed s client (joined s.sessions (client_token s.sessions client) g instance attrs) m (joined_lives s.sessions (client_token s.sessions client) g instance attrs) (joined_taker s.sessions (client_token s.sessions client) g instance attrs) (joined_mine s (client_token s.sessions client) g instance attrs mine me) a
  at_call s (call.Leave client g phases) m ok mine owner me a = at_proposed s client (left s.sessions (caller s.sessions client g) phases) m (left_lives s.sessions (caller s.sessions client g) phases) (same_taker s.sessions (left s.sessions (caller s.sessions client g) phases) (left_same s.sessions (caller s.sessions client g) phases)) (same_mine s (left s.sessions (caller s.sessions client g) phases) mine (left_same s.sessions (caller s.sessions client g) phases)) a
  at_call s (call.Expel client g phases out) m ok mine owner me a = at_proposed s client (expelled s.sessions (caller s.sessions client g) phases out) m (expelled_lives s.sessions (caller s.sessions client g) phases out) (same_taker s.sessions (expelled s.sessions (caller s.sessions client g) phases out) (expelled_same s.sessions (caller s.sessions client g) phases out)) (same_mine s (expelled s.sessions (caller s.sessions client g) phases out) mine (expelled_same s.sessions (caller s.sessions client g) phases out)) a
  at_call s (call.ChangeState client g phases value) m ok mine owner me a = at_proposed s client (state_changed s.sessions (caller s.sessions client g) phases value) m (state_lives s.sessions (caller s.sessions client g) phases value) (same_taker s.sessions (state_changed s.sessions (caller s.sessions client g) phases value) (state_same s.sessions (caller s.sessions client g) phases value)) (same_mine s (state_changed s.sessions (caller s.sessions client g) phases value) mine (state_same s.sessions (caller s.sessions client g) phases value)) a
  at_call s (call.SendMessage client g phases bytes) m ok mine owner me a = at_proposed s client (message_sent s.sessions (caller s.sessions client g) phases bytes) m (message_lives s.sessions (caller s.sessions client g) phases bytes) (same_taker s.sessions (message_sent s.sessions (caller s.sessions client g) phases bytes) (message_same s.sessions (caller s.sessions client g) phases bytes)) (same_mine s (message_sent s.sessions (caller s.sessions client g) phases bytes) mine (message_same s.sessions (caller s.sessions client g) phases bytes)) a
  at_call s (call.ChangeAttributes client g phases attrs) m ok mine owner me a = at_proposed s client (attributes_changed s.sessions (caller s.sessions client g) phases attrs) m (attributes_lives s.sessions (caller s.sessions client g) phases attrs) (same_taker s.sessions (attributes_changed s.sessions (caller s.sessions client g) phases attrs) (attributes_same s.sessions (caller s.sessions client g) phases attrs)) (same_mine s (attributes_changed s.sessions (caller s.sessions client g) phases attrs) mine (attributes_same s.sessions (caller s.sessions client g) phases attrs)) a
  at_call s (call.Vote client g v value) m ok mine owner me a = at_ballot s client (voted s.sessions (caller s.sessions client g) v value) m (voted_lives s.sessions (caller s.sessions client g) v value) (same_taker s.sessions (voted s.sessions (caller s.sessions client g) v value) (voted_same s.sessions (caller s.sessions client g) v value)) a
  at_call s (call.Subscribe client g) m ok mine owner me a = at_changed s client (subscribe_taken s.sessions (client_token s.sessions client) g (holds s g)) m (subscribe_lives s.sessions (client_token s.sessions client) g (holds s g)) (same_taker s.sessions (subscribe_taken s.sessions (client_token s.sessions client) g (holds s g)) (subscribe_same s.sessions (client_token s.sessions client) g (holds s g))) a
  at_call s (call.Unsubscribe client g) m ok mine owner me a = at_changed s client (unsubscribe_taken s.sessions (client_token s.sessions client) (subscriber s.sessions client g)) m (unsubscribe_lives s.sessions (client_token s.sessions client) (subscriber s.sessions client g)) (same_taker s.sessions (unsubscribe_taken s.sessions (client_token s.sessions client) (subscriber s.sessions client g)) (unsubscribe_same s.sessions (client_token s.sessions client) (subscriber s.sessions client g))) a
  at_call s (call.Goodbye client) m ok mine owner me a = at_goodbye s client (filter (is_client_of (client_token s.sessions client)) s.sessions.providers) (goodbye_taken s.sessions (client_token s.sessions client)) m ok (goodbye_ends s client ok a) (goodbye_taker s client owner) a
