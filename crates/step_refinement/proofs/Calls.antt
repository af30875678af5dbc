-- The calls of clients.
use Rattle.std.proofs.Common.{◌≡◌, ◌≢◌, ◌≤◌, ◌⊎◌, ℕ, ◌+◌, List, [], ◌∷◌, ◌++◌, Option, Some, None, Bool, true, false, refl, sym, ap, ◌∙◌, subst, inl, inr, ⊎_elim, arith}
use Rattle.std.specs.Prelude.{◌&&◌, ◌||◌, not, filter, find, fold, Result, Ok, Err, if◌then◌else◌, ◌==◌}
use Rattle.std.specs.List.{last_or}
use Rattle.std.specs.Str.{bytes_eq}
use Rattle.rsct_packet.specs.declared.ids.ViewId.{ViewId}
use Rattle.rsct_packet.specs.declared.ids.ProviderId.{ProviderId}
use Rattle.rsct_packet.specs.Providers.{same_provider}
use Rattle.rsct_packet.specs.Search.{Has}
use Rattle.rsct_packet.proofs.HasLaws.{has_append, append_has_left, append_has_right, has_filter, filter_has, find_has}
use Rattle.group_attr.specs.declared.attrs.Attrs.{Attrs}
use Rattle.group_attr.specs.declared.attrs.Phases.{Phases}
use Rattle.group_attr.specs.declared.attrs.Phases.TheVariants.{One}
use Rattle.proposal_core.specs.declared.entry.Entry.{Entry}
use Rattle.proposal_core.specs.declared.entry.Vote.{Vote}
use Rattle.proposal_core.specs.declared.proposal.Proposal.{Proposal}
use Rattle.proposal_core.specs.declared.proposal.Proposal.TheVariants.{Join, Attributes}
use Rattle.client_callbacks.specs.declared.ballot.Filled.{Filled}
use Rattle.subscribe_core.specs.declared.subs.ClientToken.{ClientToken}
use Rattle.session_state.specs.declared.fault.GsFault.{GsFault}
use Rattle.session_state.specs.declared.state.MemberToken.{MemberToken}
use Rattle.session_state.specs.declared.state.OpenPhase.{OpenPhase}
use Rattle.session_state.specs.declared.state.Provider.{Provider}
use Rattle.session_state.specs.declared.state.Request.{Request}
use Rattle.session_state.specs.declared.state.KeptBallot.{KeptBallot}
use Rattle.session_state.specs.declared.state.SessionState.{SessionState}
use Rattle.session_state.specs.State.{is_client_of, is_member_of, client_token, outstanding}
use Rattle.session_state.specs.Calls.{unless_fault, if_session, is_empty, init_fault, add_session, inited, join_fault, join_asked, joined, asked, ask_fault, member_asks, member_changes, request_made, left, expelled, state_changed, message_sent, attributes_changed, member_votes, vote_in, keeps, voted, subscribe_taken, unsubscribe_taken, client_fault, is_owned, end_session, goodbye_taken, or_fault, collide_with, collide_fault, spent_fault}
use Rattle.node_state.specs.declared.call.CallLine.{CallLine}
use Rattle.node_state.specs.declared.call.CallLine.TheVariants as call
use Rattle.node_state.specs.declared.happened.Happened.TheVariants as happened
use Rattle.node_state.specs.declared.packet.Body.TheVariants as body
use Rattle.node_state.specs.declared.state.Core.{Core}
use Rattle.node_state.specs.Settings.{is_fixed}
use Rattle.node_state.specs.State.{holds, row_of, frozen, leader_of, recorded, with_sessions}
use Rattle.node_state.specs.Sending.{send_request}
use Rattle.node_state.specs.Calls.{caller, subscriber, refuse_call, changed, ask_last, proposed, record_ballot, ballot_sent_if, cast_last, give_ballot, send_gone, send_all_gone, goodbye_said, take_call}
use Rattle.node_state.specs.declared.happened.Happened.{Happened}
use Rattle.run_safety.specs.Sight.{lines_of}
use Rattle.run_safety.specs.Group.{Line, Noted, Asked, Told, Put, kept}
use Rattle.run_safety.specs.Requests.{requests_of, carried}
use Rattle.run_safety.specs.Moves.{Asks}
use Rattle.run_safety.proofs.Whole.{Whole}
use Rattle.run_safety.proofs.Lives.{whole}
use Rattle.run_safety.specs.Past.{records_of}
use Rattle.step_refinement.specs.Ghost.{Asking, asking, Ghost, Lives, Goes}
use Rattle.step_refinement.specs.Tied.{Numbered, Owed, Owes, Sound, NodeOf, Scene, opening_of, lines_now, Tied, InTurn}
use Rattle.step_refinement.proofs.Goes.{Spares, seen_on, numbered_on, decides_by, node_by, shows_on, node_if_on}
use Rattle.step_refinement.proofs.Works.{lines_pushed, placed_pushed, tied_unseen}
use Rattle.node_state.proofs.NameOrder.{text_self, text_other, cases_text}
use Rattle.step_refinement.proofs.SessionLaws.{Later, owes_later, provider_self, Attended, provider_same}
use Rattle.step_refinement.proofs.Owed.{request_tied, known_tied, kept_sent_tied}
use Rattle.step_refinement.proofs.Turns.{fewer_turn, fewer_same, turns_sessions, turns_pushed, joined_turn, asked_turn}

-- ---- sessions that change

-- a call is taken unless it has a fault
taken_is : (o : Option GsFault) (s u : SessionState) → unless_fault o s ≡ Ok u → u ≡ s
taken_is None s u e = let z : s ≡ u = cc in sym z
taken_is (Some x) s u e = absurd (cc)

if_taken : (b : Bool) (r : Result SessionState GsFault) (u : SessionState) → if_session b r ≡ Ok u → r ≡ Ok u
if_taken true r u e = absurd (cc)
if_taken false r u e = e

-- what has no fault asks nothing else
none_is : (o : Option GsFault) (s u : SessionState) → unless_fault o s ≡ Ok u → o ≡ None
none_is None s u e = refl
none_is (Some x) s u e = absurd (cc)

asks_nothing : (s : SessionState) (x : Provider) (parameter : Option GsFault) (now u : SessionState) → unless_fault (ask_fault s x parameter) now ≡ Ok u → outstanding s x.provider ≡ None
unfolding ask_fault collide_fault
asks_nothing s x parameter now u e = by parameter (outstanding s x.provider) (none_is _ now u e)
  where
    by : (a : Option GsFault) (o : Option Request) → or_fault a (or_fault (collide_with o) (spent_fault s.last_request)) ≡ None → o ≡ None
    by None None k = refl
    by None (Some q) k = absurd (cc)
    by (Some f) o k = absurd (cc)

-- a provider asks for something under the next number
pub record Proposes (s u : SessionState) (q : Request) : Type 0 where
  pub me : u.me ≡ s.me
  pub inc : u.inc ≡ s.inc
  pub last : u.last_request ≡ s.last_request + 1
  pub number : q.request ≡ s.last_request + 1
  pub made : Has (q.provider, q.request) (requests_of q.proposal)
  pub more : u.requests ≡ s.requests ++ q ∷ []
  pub providers : (y : Provider) → Has y u.providers → Has y s.providers ⊎ ((y.provider ≡ q.provider) × (q.provider.node ≡ s.me) × (q.provider.inc ≡ s.inc))
  pub kept : (y : Provider) → Has y s.providers → Has y u.providers
  pub there : (y : Provider) × Has y u.providers × (y.provider ≡ q.provider)
  pub turn : Attended s → (v : ViewId) (rs : List Happened) → InTurn v rs s → InTurn v rs u

join_proposes : (s : SessionState) (t : ClientToken) (g : List ℕ) (instance : ℕ) (attrs : Attrs) (u : SessionState) → u ≡ join_asked s t g instance attrs → (q : Request) × Proposes s u q
unfolding join_asked
join_proposes s t g instance attrs u e =
    let p : ProviderId = record { node = s.me; inc = s.inc; instance = instance; join = s.last_request + 1 } in
    let y : Provider = record { provider = p; client = t; group = g; takes_part = false; opened = None } in
    let q : Request = record { provider = p; request = s.last_request + 1; group = g; phases = One; proposal = Join (p ∷ []) attrs None } in
    (q, subst (λ z. Proposes s z q) (sym e) (record { me = refl; inc = refl; last = refl; number = refl; made = inl refl; more = refl; providers = λ z h. new z y (has_append z s.providers (y ∷ []) h) refl; kept = λ z h. append_has_left z s.providers (y ∷ []) h; there = (y, append_has_right y s.providers (y ∷ []) (inl refl), refl); turn = λ a v rs h. joined_turn v rs s y q a h refl refl refl refl }))
  where
    new : (z y : Provider) → Has z s.providers ⊎ Has z (y ∷ []) → y.provider ≡ record { node = s.me; inc = s.inc; instance = instance; join = s.last_request + 1 } → Has z s.providers ⊎ ((z.provider ≡ record { node = s.me; inc = s.inc; instance = instance; join = s.last_request + 1 }) × (s.me ≡ s.me) × (s.inc ≡ s.inc))
    new z y (inl h) k = inl h
    new z y (inr (inl e)) k = inr (ap (λ (a : Provider). a.provider) e ∙ k, refl, refl)
    new z y (inr (inr e)) k = absurd e

asked_proposes : (s : SessionState) (x : Provider) (phases : Phases) (make : ℕ → Proposal) (u : SessionState) → Has x s.providers → Has (x.provider, s.last_request + 1) (requests_of (make (s.last_request + 1))) → outstanding s x.provider ≡ None → u ≡ asked s x phases make → (q : Request) × Proposes s u q
unfolding asked
asked_proposes s x phases make u h made free e =
    let q : Request = record { provider = x.provider; request = s.last_request + 1; group = x.group; phases = phases; proposal = make (s.last_request + 1) } in
    (q, subst (λ z. Proposes s z q) (sym e) (record { me = refl; inc = refl; last = refl; number = refl; made = made; more = refl; providers = λ z i. inl i; kept = λ z i. i; there = (x, h, refl); turn = λ a v rs h. asked_turn v rs s q h free }))

-- the request of a provider of a token
member_proposes : (s : SessionState) (m : MemberToken) (phases : Phases) (parameter : Option GsFault) (make : Provider → ℕ → Proposal) (u : SessionState) → ((x : Provider) (r : ℕ) → Has (x.provider, r) (requests_of (make x r))) → request_made s m phases parameter make ≡ Ok u → (q : Request) × Proposes s u q
unfolding request_made
member_proposes s m phases parameter make u made e =
    by (find (is_member_of m) s.providers) refl (if_taken (is_empty s.sessions) (member_asks s (find (is_member_of m) s.providers) phases parameter make) u e)
  where
    by : (o : Option Provider) → find (is_member_of m) s.providers ≡ o → member_asks s o phases parameter make ≡ Ok u → (q : Request) × Proposes s u q
    by None k d = absurd (cc)
    by (Some x) k d =
        asked_proposes s x phases (make x) u (find_has (is_member_of m) s.providers x k).0 (made x (s.last_request + 1)) (asks_nothing s x parameter (asked s x phases (make x)) u d) (taken_is (ask_fault s x parameter) (asked s x phases (make x)) u d)

attributes_propose : (s : SessionState) (m : MemberToken) (phases : Phases) (attrs : Attrs) (u : SessionState) → attributes_changed s m phases attrs ≡ Ok u → (q : Request) × Proposes s u q
unfolding attributes_changed
attributes_propose s m phases attrs u e =
    by (find (is_member_of m) s.providers) refl (if_taken (is_empty s.sessions) (member_changes s (find (is_member_of m) s.providers) phases attrs) u e)
  where
    by : (o : Option Provider) → find (is_member_of m) s.providers ≡ o → member_changes s o phases attrs ≡ Ok u → (q : Request) × Proposes s u q
    by None k d = absurd (cc)
    by (Some x) k d =
        asked_proposes s x phases (λ r. Attributes x.provider r attrs) u (find_has (is_member_of m) s.providers x k).0 (inl refl) (asks_nothing s x _ (asked s x phases (λ r. Attributes x.provider r attrs)) u d) (taken_is _ (asked s x phases (λ r. Attributes x.provider r attrs)) u d)

-- nothing is asked, and what is outstanding stays in turn
abbrev Less : SessionState → SessionState → Type 0
Less s u = Later s u × ((v : ViewId) (rs : List Happened) → InTurn v rs s → InTurn v rs u)

-- what leaves requests and providers as they are
later_kept_only : (s u : SessionState) → u.me ≡ s.me → u.inc ≡ s.inc → u.level ≡ s.level → u.last_request ≡ s.last_request → u.providers ≡ s.providers → u.requests ≡ s.requests → Less s u
later_kept_only s u a b c d e f = (
  record {
    me = a;
    inc = b;
    level = c;
    last = d;
    providers = λ y h. (y, subst (Has y) e h, refl);
    requests = λ q h. subst (Has q) f h;
    attended = λ k q h. let z = k q (subst (Has q) f h) in (z.0, subst (Has z.0) (sym e) z.1, z.2);
  },
  λ v rs h. fewer_turn rs rs (λ x i. i) v s u [] (fewer_same s u [] d e f) (λ q i j k. absurd k) h,
)

voted_later : (s : SessionState) (m : MemberToken) (v : Vote) (value : Option (List ℕ)) (u : SessionState) → voted s m v value ≡ Ok u → Less s u
unfolding voted
voted_later s m v value u e =
    by (find (is_member_of m) s.providers) (if_taken (is_empty s.sessions) (member_votes s (find (is_member_of m) s.providers) v value) u e)
  where
    kept_more : (x : Provider) (o : OpenPhase) (b : Filled) → u ≡ keeps s x o b → Less s u
    kept_more x o b k = subst (Less s) (sym k) (later_kept_only s (keeps s x o b) refl refl refl refl refl refl)

    opened : (x : Provider) (o : Option OpenPhase) → vote_in s x v value o ≡ Ok u → Less s u
    opened x None d = absurd (cc)
    opened x (Some o) d = kept_more x o (record { vote = v; value = value; message = None }) (taken_is _ (keeps s x o (record { vote = v; value = value; message = None })) u d)

    within : (x : Provider) (b : Bool) (f : GsFault) → (if b then vote_in s x v value x.opened else Err f) ≡ Ok u → Less s u
    within x true f d = opened x x.opened d
    within x false f d = absurd (cc)

    by : (o : Option Provider) → member_votes s o v value ≡ Ok u → Less s u
    by None d = absurd (cc)
    by (Some x) d = within x _ _ d

ended_later : (s : SessionState) (t : ClientToken) → Less s (end_session s t)
unfolding end_session
ended_later s t = (
  record {
    me = refl;
    inc = refl;
    level = refl;
    last = refl;
    providers = λ y h. (y, (has_filter (λ x. not (is_client_of t x)) y s.providers h).0, refl);
    requests = λ q h. (has_filter (λ (q : Request). not (is_owned s.providers t q.provider)) q s.requests h).0;
    attended = λ a q h. let i = has_filter (λ (q : Request). not (is_owned s.providers t q.provider)) q s.requests h in
        let k = a q i.0 in (k.0, filter_has (λ x. not (is_client_of t x)) k.0 s.providers k.1 (apart k.0 q k.1 k.2 i.1), k.2);
  },
  λ v rs h. in_turn v rs h,
)
  where
    owned : (xs : List Provider) (y : Provider) (p : ProviderId) → Has y xs → y.provider ≡ p → is_client_of t y ≡ true → is_owned xs t p ≡ true
    owned [] y p h e c = absurd h
    owned (x ∷ xs) y p (inl q) e c =
        ap (λ (z : Provider). (is_client_of t z && same_provider z.provider p) || is_owned xs t p) (sym q) ∙ ap (λ b. (b && same_provider y.provider p) || is_owned xs t p) c ∙ ap (λ b. b || is_owned xs t p) (ap (λ z. same_provider z p) e ∙ provider_self p)
    owned (x ∷ xs) y p (inr h) e c = either (is_client_of t x && same_provider x.provider p) (is_owned xs t p) (owned xs y p h e c)
      where
        either : (a b : Bool) → b ≡ true → (a || b) ≡ true
        either true b e = refl
        either false b e = e

    apart : (y : Provider) (q : Request) → Has y s.providers → y.provider ≡ q.provider → not (is_owned s.providers t q.provider) ≡ true → not (is_client_of t y) ≡ true
    apart y q h e c = by (is_client_of t y) refl
      where
        by : (b : Bool) → is_client_of t y ≡ b → not b ≡ true
        by false d = refl
        by true d = absurd (let k = owned s.providers y q.provider h e d in let z : not true ≡ true = ap not (sym k) ∙ c in cc)

    owned_by : (xs : List Provider) (p : ProviderId) → is_owned xs t p ≡ true → (x : Provider) × Has x xs × (is_client_of t x ≡ true) × (x.provider ≡ p)
    owned_by [] p e = absurd (cc)
    owned_by (x ∷ xs) p e = by (is_client_of t x) (same_provider x.provider p) refl refl e (owned_by xs p)
      where
        by : (a b : Bool) → is_client_of t x ≡ a → same_provider x.provider p ≡ b → ((a && b) || is_owned xs t p) ≡ true → (is_owned xs t p ≡ true → (x : Provider) × Has x xs × (is_client_of t x ≡ true) × (x.provider ≡ p)) → (y : Provider) × Has y (x ∷ xs) × (is_client_of t y ≡ true) × (y.provider ≡ p)
        by true true i j k rest = (x, inl refl, i, provider_same x.provider p j)
        by true false i j k rest = let z = rest k in (z.0, inr z.1, z.2, z.3)
        by false b i j k rest = let z = rest k in (z.0, inr z.1, z.2, z.3)

    in_turn : (v : ViewId) (rs : List Happened) → InTurn v rs s → InTurn v rs (end_session s t)
    in_turn v rs h =
        fewer_turn rs rs (λ x i. i) v s (end_session s t) [] (record { last = refl; providers = λ y i. (y, (has_filter (λ x. not (is_client_of t x)) y s.providers i).0, refl, refl); requests = λ q i. (has_filter (λ (q : Request). not (is_owned s.providers t q.provider)) q s.requests i).0; stays = λ y i q j e. stays y i q j e (is_owned s.providers t q.provider) refl }) (λ q i j k. absurd k) h
      where
        stays : (y : Provider) → Has y (filter (λ x. not (is_client_of t x)) s.providers) → (q : Request) → Has q s.requests → q.provider ≡ y.provider → (b : Bool) → is_owned s.providers t q.provider ≡ b → Has q (filter (λ (q : Request). not (is_owned s.providers t q.provider)) s.requests) ⊎ Has {A = ProviderId × ℕ} (q.provider, q.request) []
        stays y i q j e false k = inl (filter_has (λ (q : Request). not (is_owned s.providers t q.provider)) q s.requests j (ap not k))
        stays y i q j e true k =
            absurd (let there = has_filter (λ x. not (is_client_of t x)) y s.providers i in
            let o = owned_by s.providers q.provider k in
            let same : o.0.client ≡ y.client = h.owner o.0 y o.1 there.0 (o.3 ∙ e) in
            let mine : is_client_of t y ≡ true = ap (λ (c : ClientToken). c.number == t.number) (sym same) ∙ o.2 in
            let z : not true ≡ true = ap not (sym mine) ∙ there.1 in cc)

last_of : (xs : List Request) (q : Request) (o : Option Request) → last_or o (xs ++ q ∷ []) ≡ Some q
last_of [] q o = refl
last_of (x ∷ xs) q o = last_of xs q (Some x)

-- ---- a request is asked

module _ (g : List ℕ) (w : Scene) (n : ℕ) (s : Core) (t : Tied g w n s) where
  -- nothing is asked
  later_tied : (u : SessionState) → Less s.sessions u → Tied g w n (with_sessions s u)
  unfolding with_sessions row_of
  later_tied u l =
      let k = t.own.0 in
      record {
        ghost = t.ghost;
        life = t.life;
        lines = t.lines;
        own = (record { stands = k.stands; row_is = k.row_is; order = k.order; gathering = k.gathering; install = k.install; owes = owes_later t.ghost g n s.views.inc s.sessions u l.0 k.owes; decides = k.decides; names = k.names; asks = k.asks; led = k.led; waits = k.waits; idles = k.idles }, t.own.1, t.own.2);
        others = t.others;
        packets = t.packets;
        sound = t.sound;
        placed = t.placed;
        nobody = t.nobody;
        turns = turns_sessions w n s.views.view s.records s.sessions t.ghost.ps t.turns u (l.1 s.views.view (s.records ++ records_of w.before) t.turns.own);
      }

  refused_tied : (client : List ℕ) (f : GsFault) → Tied g w n (refuse_call s client f)
  unfolding refuse_call
  refused_tied client f = tied_unseen g w n s t (happened.Refused s.views.me client f) ((λ rs. refl), λ m o. refl)

  module _ (u : SessionState) (q : Request) (a : Proposes s.sessions u q) where
    abbrev x : Ghost
    x = t.ghost

    mine : (q.provider.node ≡ n) × (q.provider.inc ≡ s.views.inc)
    mine = by (a.providers a.there.0 a.there.1)
      where
        by : Has a.there.0 s.sessions.providers ⊎ ((a.there.0.provider ≡ q.provider) × (q.provider.node ≡ s.sessions.me) × (q.provider.inc ≡ s.sessions.inc)) → (q.provider.node ≡ n) × (q.provider.inc ≡ s.views.inc)
        by (inl h) = let k = t.own.0.owes.providers a.there.0 h in
            (ap (λ (z : ProviderId). z.node) (sym a.there.2) ∙ k.0, ap (λ (z : ProviderId). z.inc) (sym a.there.2) ∙ k.1)
        by (inr k) = (k.1 ∙ t.own.0.owes.me, k.2 ∙ t.own.0.owes.inc_of)

    -- its number is new
    unasked : (h : List ℕ) → Has (asking q.provider q.request h) x.asked → ⊥
    unasked h i = let k = t.own.0.owes.given (asking q.provider q.request h) i mine.0 mine.1 in let l = a.number in omega arith

    module _ (all : List Line) (life : Lives (opening_of w.config) (record x { all = all })) (old : (l : Line) → Has l x.all → Has l all) (same : kept all ≡ kept x.all) (told_old : (p : ProviderId) (r : ℕ) (v : ViewId) → Has (Noted (Told p r v)) all → Has (Noted (Told p r v)) x.all) (asked_new : (p : ProviderId) (r : ℕ) (y : Proposal) → Has (Noted (Asked p r y)) all → Has (Noted (Asked p r y)) x.all ⊎ ((q.provider ≡ p) × (q.request ≡ r) × (q.group ≡ g))) (line : q.group ≡ g → Has (Noted (Asked q.provider q.request q.proposal)) all) (lines : all ≡ lines_now g w (recorded (with_sessions s u) (happened.Asked q.provider q.request q.group q.proposal))) where
      abbrev y : Ghost
      y = record x { all = all; asked = asking q.provider q.request q.group ∷ x.asked }

      goes : Goes x y
      goes = record { packets = λ p h. h; records = λ r h. subst (Has r) (sym same) h; lines = old; leads = λ v l e. e; bases = λ v z. refl; asks = refl; shut = λ v h. h; asked = λ b h. inr h }

      puts_old : (m : ℕ) (v : ViewId) (k : ℕ) (e : Entry) → Has (Put m v k e) (kept all) → Has (Put m v k e) (kept x.all)
      puts_old m v k e h = subst (Has (Put m v k e)) same h

      spares : (m : ℕ) → m ≢ n → Spares x y m
      spares m ne =
          record { goes = goes; list = refl; leads = λ v z. refl; refusals = λ v p r h. inl h; stables = λ v k h. inl h; puts = puts_old m; told = λ p r v e h. told_old p r v h; shut = λ v e h. h; shut_led = λ v i e h. h; asked = λ b e h. asked_old b e h }
        where
          asked_old : (b : Asking) → b.provider.node ≡ m → Has b (asking q.provider q.request q.group ∷ x.asked) → Has b x.asked
          asked_old b e (inr h) = h
          asked_old b e (inl z) = absurd (ne (sym e ∙ ap (λ (c : Asking). c.provider.node) z ∙ mine.0))

      sound : Sound g y
      sound =
          record {
            refused = λ v p r h. seen_on x y goes v (t.sound.refused v p r h);
            unled = t.sound.unled;
            shut = λ v h. let k = t.sound.shut v h in (seen_on x y goes v k.0, k.1);
            asked = λ p r z h. ⊎_elim (λ (i : Has (Noted (Asked p r z)) x.all). inr (t.sound.asked p r z i)) (λ (i : (q.provider ≡ p) × (q.request ≡ r) × (q.group ≡ g)). inl (λ j. asking (sym i.0 j) (sym i.1 j) (sym i.2 j))) (asked_new p r z h);
            one = λ p r h k i j. one p r h k i j;
            started = λ b h. started b h;
            told = λ p r v h. numbered_on x y goes p r (t.sound.told p r v (told_old p r v h));
          }
        where
          new_old : (p : ProviderId) (r : ℕ) (h k : List ℕ) → asking p r h ≡ asking q.provider q.request q.group → Has (asking p r k) x.asked → ⊥
          new_old p r h k e i = unasked k (subst (λ (z : Asking). Has (asking z.provider z.request k) x.asked) e i)

          one : (p : ProviderId) (r : ℕ) (h k : List ℕ) → Has (asking p r h) (asking q.provider q.request q.group ∷ x.asked) → Has (asking p r k) (asking q.provider q.request q.group ∷ x.asked) → h ≡ k
          one p r h k (inr i) (inr j) = t.sound.one p r h k i j
          one p r h k (inl i) (inl j) = ap (λ (z : Asking). z.group) (i ∙ sym j)
          one p r h k (inl i) (inr j) = absurd (new_old p r h k i j)
          one p r h k (inr i) (inl j) = absurd (new_old p r k h j i)

          started : (b : Asking) → Has b (asking q.provider q.request q.group ∷ x.asked) → b.provider.inc ≤ (x.nodes b.provider.node).inc
          started b (inr h) = t.sound.started b h
          started b (inl e) =
              let i : (x.nodes q.provider.node).inc ≡ q.provider.inc = ap (λ m. (x.nodes m).inc) mine.0 ∙ t.own.0.stands.inc ∙ sym mine.1 in
              let l : q.provider.inc ≤ (x.nodes q.provider.node).inc = omega arith in
              subst (λ (z : Asking). z.provider.inc ≤ (x.nodes z.provider.node).inc) (sym e) l

      -- what is new was neither put nor told
      owed_new : q.group ≡ g → Owed y n s.views.inc q
      owed_new e =
          record {
            node = mine.0;
            inc_of = mine.1;
            asked = line e;
            unput = λ v k d h c. unput v k d (puts_old n v k d h) c;
            untold = λ v h. untold (t.sound.told q.provider q.request v (told_old q.provider q.request v h));
          }
        where
          o : Whole (opening_of w.config) x.nodes x.ps x.all x.leads x.bases
          o = whole t.life

          unput : (v : ViewId) (k : ℕ) (d : Entry) → Has (Put n v k d) (kept x.all) → Has (q.provider, q.request) (carried d) → ⊥
          unput v k d h c =
              let i = o.once.asked v k q.provider q.request d (o.good.inv.records (Put n v k d) h) c in
              let j = o.once.sent v q.provider q.request i.0 i.1 in unasked g (t.sound.asked q.provider q.request i.0 j.1)

          untold : Numbered x q.provider q.request → ⊥
          untold (inl z) = let l = a.number in omega arith
          untold (inr z) = unasked z.0 z.1

      owed_old : (z : Request) → Owed x n s.views.inc z → Owed y n s.views.inc z
      owed_old z h =
          record { node = h.node; inc_of = h.inc_of; asked = old (Noted (Asked z.provider z.request z.proposal)) h.asked; unput = λ v k d i. h.unput v k d (puts_old n v k d i); untold = λ v i. h.untold v (told_old z.provider z.request v i) }

      owes : Owes y g n s.views.inc u
      owes =
          let k = t.own.0.owes in
          record {
            me = a.me ∙ k.me;
            inc_of = a.inc ∙ k.inc_of;
            providers = λ z h. ⊎_elim (λ (i : Has z s.sessions.providers). k.providers z i) (λ (i : (z.provider ≡ q.provider) × (q.provider.node ≡ s.sessions.me) × (q.provider.inc ≡ s.sessions.inc)). (ap (λ (b : ProviderId). b.node) i.0 ∙ mine.0, ap (λ (b : ProviderId). b.inc) i.0 ∙ mine.1)) (a.providers z h);
            own = λ z h. own z (asked_or z h);
            requests = λ z h c. requests z c (asked_or z h);
            attended = λ z h. attended z (asked_or z h);
            given = λ b h e f. given b h e f;
          }
        where
          asked_or : (z : Request) → Has z u.requests → Has z s.sessions.requests ⊎ (z ≡ q)
          asked_or z h = by (has_append z s.sessions.requests (q ∷ []) (subst (Has z) a.more h))
            where
              by : Has z s.sessions.requests ⊎ Has z (q ∷ []) → Has z s.sessions.requests ⊎ (z ≡ q)
              by (inl i) = inl i
              by (inr (inl e)) = inr e
              by (inr (inr e)) = absurd e

          own : (z : Request) → Has z s.sessions.requests ⊎ (z ≡ q) → (z.provider.node ≡ n) × (z.provider.inc ≡ s.views.inc) × Has (asking z.provider z.request z.group) (asking q.provider q.request q.group ∷ x.asked) × Has (z.provider, z.request) (requests_of z.proposal)
          own z (inl i) = let k = t.own.0.owes.own z i in (k.0, k.1, inr k.2, k.3)
          own z (inr e) = subst (λ (b : Request). (b.provider.node ≡ n) × (b.provider.inc ≡ s.views.inc) × Has (asking b.provider b.request b.group) (asking q.provider q.request q.group ∷ x.asked) × Has (b.provider, b.request) (requests_of b.proposal)) (sym e) (mine.0, mine.1, inl refl, a.made)

          requests : (z : Request) → z.group ≡ g → Has z s.sessions.requests ⊎ (z ≡ q) → Owed y n s.views.inc z
          requests z c (inl i) = owed_old z (t.own.0.owes.requests z i c)
          requests z c (inr e) = subst (Owed y n s.views.inc) (sym e) (owed_new (ap (λ (b : Request). b.group) (sym e) ∙ c))

          attended : (z : Request) → Has z s.sessions.requests ⊎ (z ≡ q) → (b : Provider) × Has b u.providers × (b.provider ≡ z.provider)
          attended z (inl i) = let k = t.own.0.owes.attended z i in (k.0, a.kept k.0 k.1, k.2)
          attended z (inr e) = (a.there.0, a.there.1, a.there.2 ∙ ap (λ (b : Request). b.provider) (sym e))

          given : (b : Asking) → Has b (asking q.provider q.request q.group ∷ x.asked) → b.provider.node ≡ n → b.provider.inc ≡ s.views.inc → b.request ≤ u.last_request
          given b (inr h) e f = let k = t.own.0.owes.given b h e f in let l = a.last in omega arith
          given b (inl z) e f = let k : b.request ≡ q.request = ap (λ (c : Asking). c.request) z in let l = a.last in let m = a.number in omega arith

      own_asks : NodeOf y g n (is_fixed s.config.mode) s.views (row_of s g) s.groups u s.names
      own_asks =
          let k = t.own.0 in
          node_by x y goes n refl g (is_fixed s.config.mode) s.views (row_of s g) s.groups s.sessions u s.names s.names k.row_is.covers owes (decides_by x y goes n refl (λ v l e. e) (λ v p r h. h) s.views.inc s.views.view (row_of s g).led k.decides) (record { named = k.names.named; unnamed = k.names.unnamed; full = k.names.full }) (record { few = k.idles.few; shut = k.idles.shut }) k

      asks_with : Tied g w n (recorded (with_sessions s u) (happened.Asked q.provider q.request q.group q.proposal))
      unfolding recorded with_sessions row_of
      asks_with =
          record {
            ghost = y;
            life = life;
            lines = lines;
            own = (own_asks, t.own.1, t.own.2);
            others = λ m ne. node_if_on x y m (spares m ne) refl w.config g (w.incs m) (w.cores m) (t.others m ne);
            packets = λ p i. shows_on x y goes g p (t.packets p i);
            sound = sound;
            placed = placed_pushed w n s (happened.Asked q.provider q.request q.group q.proposal) (λ m o. refl) t.placed;
            nobody = t.nobody;
            turns = turns_pushed w n s.views.view s.records u t.ghost.ps (turns_sessions w n s.views.view s.records s.sessions t.ghost.ps t.turns u (a.turn t.own.0.owes.attended s.views.view (s.records ++ records_of w.before) t.turns.own)) (happened.Asked q.provider q.request q.group q.proposal);
          }

    -- of this group, or of another
    pub asks_tied : Tied g w n (recorded (with_sessions s u) (happened.Asked q.provider q.request q.group q.proposal))
    unfolding recorded with_sessions
    asks_tied = by (cases_text q.group g)
      where
        pushed : lines_now g w (recorded (with_sessions s u) (happened.Asked q.provider q.request q.group q.proposal)) ≡ (if bytes_eq q.group g then Noted (Asked q.provider q.request q.proposal) ∷ [] else []) ++ lines_now g w s
        pushed = lines_pushed g s.records (happened.Asked q.provider q.request q.group q.proposal) w.before (lines_of g w.before)

        told : (p : ProviderId) (r : ℕ) (v : ViewId) → Has (Noted (Told p r v)) (Noted (Asked q.provider q.request q.proposal) ∷ x.all) → Has (Noted (Told p r v)) x.all
        told p r v (inl e) = absurd (cc)
        told p r v (inr h) = h

        new : q.group ≡ g → (p : ProviderId) (r : ℕ) (y : Proposal) → Has (Noted (Asked p r y)) (Noted (Asked q.provider q.request q.proposal) ∷ x.all) → Has (Noted (Asked p r y)) x.all ⊎ ((q.provider ≡ p) × (q.request ≡ r) × (q.group ≡ g))
        new e p r y (inr h) = inl h
        new e p r y (inl z) =
            let b : q.provider ≡ p = cc in
            let c : q.request ≡ r = cc in inr (b, c, e)

        by : (q.group ≡ g) ⊎ (q.group ≡ g → ⊥) → Tied g w n (recorded (with_sessions s u) (happened.Asked q.provider q.request q.group q.proposal))
        by (inl e) =
            asks_with (Noted (Asked q.provider q.request q.proposal) ∷ x.all) (Asks x.nodes x.ps x.all x.leads x.bases q.provider q.request q.proposal t.life) (λ l h. inr h) refl told (new e) (λ z. inl refl) (ap (λ l. Noted (Asked q.provider q.request q.proposal) ∷ l) t.lines ∙ ap (λ b. (if b then Noted (Asked q.provider q.request q.proposal) ∷ [] else []) ++ lines_now g w s) (sym (text_self g) ∙ ap (λ z. bytes_eq z g) (sym e)) ∙ sym pushed)
        by (inr ne) =
            asks_with x.all t.life (λ l h. h) refl (λ p r v h. h) (λ p r y h. inl h) (λ z. absurd (ne z)) (t.lines ∙ ap (λ b. (if b then Noted (Asked q.provider q.request q.proposal) ∷ [] else []) ++ lines_now g w s) (sym (text_other q.group g ne)) ∙ sym pushed)

  -- ---- the calls

  changes_tied : (client : List ℕ) (r : Result SessionState GsFault) → ((u : SessionState) → r ≡ Ok u → Less s.sessions u) → Tied g w n (changed s client r)
  unfolding changed
  changes_tied client (Ok u) later = later_tied u (later u refl)
  changes_tied client (Err f) later = refused_tied client f

  proposes_tied : (client : List ℕ) (r : Result SessionState GsFault) → ((u : SessionState) → r ≡ Ok u → (q : Request) × Proposes s.sessions u q) → Tied g w n (proposed s client r)
  unfolding proposed ask_last recorded with_sessions
  proposes_tied client (Err f) made = refused_tied client f
  proposes_tied client (Ok u) made =
      let k = made u refl in
      let last : last_or None u.requests ≡ Some k.0 = ap (last_or None) k.1.more ∙ last_of s.sessions.requests k.0 None in
      subst (λ o. Tied g w n (ask_last (with_sessions s u) o)) (sym last) (asked_sent k.0 k.1)
    where
      asked_sent : (q : Request) → Proposes s.sessions u q → Tied g w n (send_request (recorded (with_sessions s u) (happened.Asked q.provider q.request q.group q.proposal)) q)
      asked_sent q a =
          request_tied g w n (recorded (with_sessions s u) (happened.Asked q.provider q.request q.group q.proposal)) q (in_requests q a) (asks_tied u q a)
        where
          sessions_of : (q : Request) → Has q u.requests → Has q (recorded (with_sessions s u) (happened.Asked q.provider q.request q.group q.proposal)).sessions.requests
          sessions_of q h = h

          in_requests : (q : Request) → Proposes s.sessions u q → Has q (recorded (with_sessions s u) (happened.Asked q.provider q.request q.group q.proposal)).sessions.requests
          in_requests q a = sessions_of q (subst (Has q) (sym a.more) (append_has_right q s.sessions.requests (q ∷ []) (inl refl)))

module _ (g : List ℕ) (w : Scene) (n : ℕ) where
  -- a ballot is recorded, and sent
  cast_tied : (c : Core) (k : KeptBallot) → Tied g w n c → Tied g w n (ballot_sent_if (record_ballot c k k.ballot.filled) k (frozen c))
  unfolding ballot_sent_if record_ballot
  cast_tied c k t = by (frozen c) (record_ballot c k k.ballot.filled) (recorded_so k.ballot.filled)
    where
      recorded_so : (o : Option Filled) → Tied g w n (record_ballot c k o)
      recorded_so None = t
      recorded_so (Some b) = tied_unseen g w n c t (happened.Cast k.provider k.proto k.phase b.vote b.value b.message) ((λ rs. refl), λ m o. refl)

      by : (b : Bool) (d : Core) → Tied g w n d → Tied g w n (ballot_sent_if d k b)
      by true d u = u
      by false d u = kept_sent_tied g w n d k u

  last_tied : (c : Core) (o : Option KeptBallot) → Tied g w n c → Tied g w n (cast_last c o)
  unfolding cast_last
  last_tied c None t = t
  last_tied c (Some k) t = cast_tied c k t

  ballots_tied : (s : Core) (t : Tied g w n s) (client : List ℕ) (r : Result SessionState GsFault) → ((u : SessionState) → r ≡ Ok u → Less s.sessions u) → Tied g w n (give_ballot s client r)
  unfolding give_ballot
  ballots_tied s t client (Ok u) later = last_tied (with_sessions s u) (last_or None u.kept) (later_tied g w n s t u (later u refl))
  ballots_tied s t client (Err f) later = refused_tied g w n s t client f

  gone_fold : (xs : List Provider) (c : Core) → Tied g w n c → Tied g w n (fold send_gone c xs)
  unfolding send_gone
  gone_fold [] c t = t
  gone_fold (x ∷ xs) c t = gone_fold xs (send_gone c x) (known_tied g w n c (leader_of c x.group) (body.Gone c.views.view x.group x.provider) (λ y to. tt) t)

  all_gone_tied : (c : Core) (xs : List Provider) → Tied g w n c → Tied g w n (send_all_gone c xs)
  unfolding send_all_gone
  all_gone_tied c xs t = by (frozen c)
    where
      by : (b : Bool) → Tied g w n (elim b as (λ _. Core) [ true ↦ c | false ↦ fold send_gone c xs ])
      by true = t
      by false = gone_fold xs c t

  goodbyes_tied : (s : Core) (t : Tied g w n s) (client : List ℕ) (xs : List Provider) (r : Result SessionState GsFault) → ((u : SessionState) → r ≡ Ok u → Less s.sessions u) → Tied g w n (goodbye_said s client xs r)
  unfolding goodbye_said
  goodbyes_tied s t client xs (Ok u) later = all_gone_tied (with_sessions s u) xs (later_tied g w n s t u (later u refl))
  goodbyes_tied s t client xs (Err f) later = refused_tied g w n s t client f

-- a call
pub call_is_tied : (c : CallLine) (g : List ℕ) (w : Scene) (n : ℕ) (s : Core) → Tied g w n s → Tied g w n (take_call s c)
unfolding take_call inited joined left expelled state_changed message_sent subscribe_taken unsubscribe_taken goodbye_taken add_session
call_is_tied (call.Init node name votes) g w n s t =
    changes_tied g w n s t name (inited s.sessions name) (λ u e. subst (Less s.sessions) (sym (taken_is (init_fault s.sessions name) (add_session s.sessions name) u e)) (later_kept_only s.sessions (add_session s.sessions name) refl refl refl refl refl refl))
call_is_tied (call.Join client h instance attrs) g w n s t =
    proposes_tied g w n s t client (joined s.sessions (client_token s.sessions client) h instance attrs) (λ u e. join_proposes s.sessions (client_token s.sessions client) h instance attrs u (taken_is (join_fault s.sessions (client_token s.sessions client) h attrs) (join_asked s.sessions (client_token s.sessions client) h instance attrs) u e))
call_is_tied (call.Leave client h phases) g w n s t =
    proposes_tied g w n s t client (left s.sessions (caller s.sessions client h) phases) (λ u e. member_proposes s.sessions (caller s.sessions client h) phases _ _ u (λ x r. inl refl) e)
call_is_tied (call.Expel client h phases out) g w n s t =
    proposes_tied g w n s t client (expelled s.sessions (caller s.sessions client h) phases out) (λ u e. member_proposes s.sessions (caller s.sessions client h) phases _ _ u (λ x r. inl refl) e)
call_is_tied (call.ChangeState client h phases value) g w n s t =
    proposes_tied g w n s t client (state_changed s.sessions (caller s.sessions client h) phases value) (λ u e. member_proposes s.sessions (caller s.sessions client h) phases _ _ u (λ x r. inl refl) e)
call_is_tied (call.SendMessage client h phases bytes) g w n s t =
    proposes_tied g w n s t client (message_sent s.sessions (caller s.sessions client h) phases bytes) (λ u e. member_proposes s.sessions (caller s.sessions client h) phases _ _ u (λ x r. inl refl) e)
call_is_tied (call.ChangeAttributes client h phases attrs) g w n s t =
    proposes_tied g w n s t client (attributes_changed s.sessions (caller s.sessions client h) phases attrs) (λ u e. attributes_propose s.sessions (caller s.sessions client h) phases attrs u e)
call_is_tied (call.Vote client h v value) g w n s t =
    ballots_tied g w n s t client (voted s.sessions (caller s.sessions client h) v value) (λ u e. voted_later s.sessions (caller s.sessions client h) v value u e)
call_is_tied (call.Subscribe client h) g w n s t =
    changes_tied g w n s t client (subscribe_taken s.sessions (client_token s.sessions client) h (holds s h)) (λ u e. subst (Less s.sessions) (sym (taken_is _ _ u e)) (later_kept_only s.sessions _ refl refl refl refl refl refl))
call_is_tied (call.Unsubscribe client h) g w n s t =
    changes_tied g w n s t client (unsubscribe_taken s.sessions (client_token s.sessions client) (subscriber s.sessions client h)) (λ u e. subst (Less s.sessions) (sym (taken_is _ _ u e)) (later_kept_only s.sessions _ refl refl refl refl refl refl))
call_is_tied (call.Goodbye client) g w n s t =
    goodbyes_tied g w n s t client (filter (is_client_of (client_token s.sessions client)) s.sessions.providers) (goodbye_taken s.sessions (client_token s.sessions client)) (λ u e. subst (Less s.sessions) (sym (taken_is (client_fault s.sessions (client_token s.sessions client)) (end_session s.sessions (client_token s.sessions client)) u e)) (ended_later s.sessions (client_token s.sessions client)))
