-- What is sent of what a node owes to the leaders of groups, in a tick.
use Rattle.std.proofs.Common.{◌≡◌, ◌≤◌, ℕ, ◌+◌, List, [], ◌∷◌, length, filter, fold, Some, None, Option, Bool, true, false, cond, refl, ap, ◌∙◌, subst, arith}
use Rattle.std.specs.Prelude.{◌&&◌, ◌==◌, is_some, is_none}
use Rattle.std.proofs.lemmas.Bool.{and_parts}
use Rattle.rsct_packet.specs.declared.ids.ProviderId.{ProviderId}
use Rattle.proposal_core.specs.Lists.{state_in}
use Rattle.proposal_core.specs.Fold.{present, runs}
use Rattle.session_state.specs.declared.state.KeptBallot.{KeptBallot}
use Rattle.client_callbacks.specs.declared.ballot.Filled.{Filled}
use Rattle.session_state.specs.State.{provider_of}
use Rattle.session_state.specs.declared.state.Request.{Request}
use Rattle.node_state.specs.declared.group.GroupRow.{GroupRow}
use Rattle.node_state.specs.declared.packet.Packet.{Packet}
use Rattle.node_state.specs.declared.packet.Body.{Body}
use Rattle.node_state.specs.declared.packet.Body.TheVariants as body
use Rattle.node_state.specs.declared.state.Core.{Core}
use Rattle.view_state.specs.declared.views.Views.{Views}
use Rattle.node_state.specs.State.{state_of, held_rows, frozen, leader_of}
use Rattle.node_state.specs.Sending.{send_on, sent, send_if_known, send_request_to, send_request, send_requests, vote_of, send_kept_to, send_kept, kept_sent_if, kept_sent_again, send_votes_again}
use Rattle.node_state.specs.Ticks.{is_lost, lost_told, tick_owed}
use Rattle.send_laws.specs.Bound.{is_own, owned_of, owed_count, Stands}
use Rattle.send_laws.proofs.Counts.{own_in}
use Rattle.send_laws.proofs.Parts.{Goes, goes_same, goes_then, goes_more, fold_each, goes_sent_if}
use Rattle.send_laws.proofs.Rules.{nothing_of}
use Rattle.send_laws.proofs.Ticks.{goes_requests_sent, goes_votes_again}

-- ---- packets alone

-- nothing but packets differs
unfoldable pub Sends : Core → Core → Type 0
Sends s t = (ps : List Packet) × (t ≡ record s { sends = ps })

pub sends_none : (s : Core) → Sends s s
unfolding Sends
sends_none s = (s.sends, refl)

pub sends_then : (s t u : Core) → Sends s t → Sends t u → Sends s u
unfolding Sends
sends_then s t u a b = (b.0, b.1 ∙ ap (λ (z : Core). record z { sends = b.0 }) a.1)

pub sends_fold : {A : Type 0} (f : Core → A → Core) → ((s : Core) (x : A) → Sends s (f s x)) → (xs : List A) (s : Core) → Sends s (fold f s xs)
sends_fold f one [] s = sends_none s
sends_fold f one (x ∷ xs) s = sends_then s (f s x) (fold f (f s x) xs) (one s x) (sends_fold f one xs (f s x))

pub sends_sent : (s : Core) (to : ℕ) (b : Body) → Sends s (sent s to b)
unfolding Sends sent send_on
sends_sent s to b = ((sent s to b).sends, refl)

pub sends_if : (s : Core) (to : Option ℕ) (b : Body) → Sends s (send_if_known s to b)
unfolding send_if_known
sends_if s None b = sends_none s
sends_if s (Some n) b = sends_sent s n b

pub sends_request : (s : Core) (q : Request) → Sends s (send_request s q)
unfolding send_request send_request_to
sends_request s q = by (frozen s)
  where
    to : (n : Option ℕ) → Sends s (send_request_to s q n)
    to None = sends_sent s s.views.view.coord (body.Lookup s.views.view q.group)
    to (Some n) = sends_sent s n (body.Request s.views.view q.group q.provider q.request q.phases q.proposal)

    by : (b : Bool) → Sends s (elim b [ true ↦ s | false ↦ send_request_to s q (leader_of s q.group) ])
    by true = sends_none s
    by false = to (leader_of s q.group)

pub sends_requests : (s : Core) → Sends s (send_requests s)
unfolding send_requests
sends_requests s = sends_fold send_request sends_request s.sessions.requests s

pub groups_same : (s t : Core) → Sends s t → t.groups ≡ s.groups
unfolding Sends
groups_same s t a = ap (λ (z : Core). z.groups) a.1

pub sessions_same : (s t : Core) → Sends s t → t.sessions ≡ s.sessions
unfolding Sends
sessions_same s t a = ap (λ (z : Core). z.sessions) a.1

pub views_same : (s t : Core) → Sends s t → t.views ≡ s.views
unfolding Sends
views_same s t a = ap (λ (z : Core). z.views) a.1

pub records_same : (s t : Core) → Sends s t → t.records ≡ s.records
unfolding Sends
records_same s t a = ap (λ (z : Core). z.records) a.1

pub kept_same : (s t : Core) → Sends s t → t.sessions.kept ≡ s.sessions.kept
unfolding Sends
kept_same s t a = ap (λ (z : Core). z.sessions.kept) a.1

-- ---- who is lost

pub fewer : {A : Type 0} (p q : A → Bool) → ((x : A) → p x ≡ true → q x ≡ true) → (xs : List A) → length (filter p xs) ≤ length (filter q xs)
fewer p q more [] = omega arith
fewer p q more (x ∷ xs) = by (p x) (q x) (more x) (fewer p q more xs)
  where
    by : (b c : Bool) → (b ≡ true → c ≡ true) → length (filter p xs) ≤ length (filter q xs) → length (cond b (x ∷ filter p xs) (filter p xs)) ≤ length (cond c (x ∷ filter q xs) (filter q xs))
    by true true m k = omega arith
    by true false m k = absurd (let z = m refl in cc)
    by false true m k = omega arith
    by false false m k = k

lost_own : (s : Core) (p : ProviderId) → is_lost s p ≡ true → is_own s.views.me s.views.inc p ≡ true
unfolding is_lost
lost_own s p e = (and_parts (p.node == s.views.me && p.inc == s.views.inc) (is_none (provider_of s.sessions p)) e).0

goes_lost : (s : Core) (row : GroupRow) → Stands s → Goes (own_in s.views.me s.views.inc row) s (lost_told s row)
unfolding lost_told
goes_lost s row k =
    let ps : List ProviderId = filter (is_lost s) (present (state_in row.list)) in
    let f : Core → ProviderId → Core = λ t p. send_if_known t (leader_of t row.name) (body.Gone t.views.view row.name p) in
    goes_more (length ps) (own_in s.views.me s.views.inc row) s (fold f s ps) (fewer (is_lost s) (is_own s.views.me s.views.inc) (lost_own s) (present (state_in row.list))) (fold_each f (λ t p h. goes_sent_if t (leader_of t row.name) (body.Gone t.views.view row.name p) tt h) ps s k)

pub sends_lost : (s : Core) (row : GroupRow) → Sends s (lost_told s row)
unfolding lost_told
sends_lost s row =
    sends_fold (λ t p. send_if_known t (leader_of t row.name) (body.Gone t.views.view row.name p)) (λ t p. sends_if t (leader_of t row.name) (body.Gone t.views.view row.name p)) (filter (is_lost s) (present (state_in row.list))) s

goes_all_lost : (n inc : ℕ) (rows : List GroupRow) (s : Core) → s.views.me ≡ n → s.views.inc ≡ inc → Stands s → Goes (owned_of n inc rows) s (fold lost_told s rows)
goes_all_lost n inc [] s e i k = goes_same s k
goes_all_lost n inc (row ∷ rows) s e i k =
    let t : Core = lost_told s row in
    let one : Goes (own_in s.views.me s.views.inc row) s t = goes_lost s row k in
    let a : Goes (own_in n inc row) s t = subst (λ z. Goes (own_in z inc row) s t) e (subst (λ z. Goes (own_in s.views.me z row) s t) i one) in
    let me : t.views.me ≡ n = ap (λ (v : Views). v.me) a.views ∙ e in
    let ic : t.views.inc ≡ inc = ap (λ (v : Views). v.inc) a.views ∙ i in
    goes_then (own_in n inc row) (owned_of n inc rows) s t (fold lost_told t rows) a (goes_all_lost n inc rows t me ic a.stands)

held_owned : (n inc : ℕ) (rows : List GroupRow) → owned_of n inc (filter (λ (row : GroupRow). is_some row.list) rows) ≤ owned_of n inc rows
held_owned n inc [] = omega arith
held_owned n inc (row ∷ rows) = by (is_some row.list) (held_owned n inc rows)
  where
    by : (b : Bool) → owned_of n inc (filter (λ (row : GroupRow). is_some row.list) rows) ≤ owned_of n inc rows → owned_of n inc (cond b (row ∷ filter (λ (row : GroupRow). is_some row.list) rows) (filter (λ (row : GroupRow). is_some row.list) rows)) ≤ owned_of n inc (row ∷ rows)
    by true k = omega arith
    by false k = omega arith

-- (4) outstanding requests, those who are lost, and kept ballots
pub goes_owed_part : (s : Core) → Stands s → Goes (owed_count s) s (tick_owed s)
unfolding tick_owed owed_count held_rows
goes_owed_part s k = by (frozen s)
  where
    n : ℕ
    n = owed_count s

    t : Core
    t = send_requests s

    a : Goes (length s.sessions.requests) s t
    a = goes_requests_sent s k

    rows : List GroupRow
    rows = filter (λ (row : GroupRow). is_some row.list) t.groups

    same : t.groups ≡ s.groups
    same = groups_same s t (sends_requests s)

    u : Core
    u = fold lost_told t rows

    me : t.views.me ≡ s.views.me
    me = ap (λ (v : Views). v.me) a.views

    ic : t.views.inc ≡ s.views.inc
    ic = ap (λ (v : Views). v.inc) a.views

    b : Goes (owned_of s.views.me s.views.inc rows) t u
    b = goes_all_lost s.views.me s.views.inc rows t me ic a.stands

    kept : u.sessions.kept ≡ s.sessions.kept
    kept = kept_same s u (sends_then s t u (sends_requests s) (sends_fold lost_told sends_lost rows t))

    owned : owned_of s.views.me s.views.inc rows ≤ owned_of s.views.me s.views.inc s.groups
    owned = subst (λ z. owned_of s.views.me s.views.inc rows ≤ owned_of s.views.me s.views.inc z) same (held_owned s.views.me s.views.inc t.groups)

    c : Goes (length s.sessions.kept) u (send_votes_again u)
    c = subst (λ z. Goes (length z) u (send_votes_again u)) kept (goes_votes_again u b.stands)

    by : (b : Bool) → Goes (owed_count s) s (elim b [ true ↦ s | false ↦ send_votes_again u ])
    by true = nothing_of (owed_count s) s k
    by false =
        let ab : Goes (length s.sessions.requests + owned_of s.views.me s.views.inc rows) s u = goes_then (length s.sessions.requests) (owned_of s.views.me s.views.inc rows) s t u a b in
        goes_more (length s.sessions.requests + owned_of s.views.me s.views.inc rows + length s.sessions.kept) (owed_count s) s (send_votes_again u) (omega (arith, owned)) (goes_then (length s.sessions.requests + owned_of s.views.me s.views.inc rows) (length s.sessions.kept) s u (send_votes_again u) ab c)

pub sends_votes : (s : Core) → Sends s (send_votes_again s)
unfolding send_votes_again kept_sent_again kept_sent_if send_kept send_kept_to
sends_votes s = sends_fold kept_sent_again (λ t x. again t x (runs x.proto x.phase (state_of t x.group).running)) s.sessions.kept s
  where
    to : (t : Core) (x : KeptBallot) (b : Option Filled) → Sends t (send_kept_to t x (leader_of t x.group) b)
    to t x None = sends_none t
    to t x (Some b) = sends_if t (leader_of t x.group) (vote_of t x.group x.proto x.phase x.provider b)

    again : (t : Core) (x : KeptBallot) (b : Bool) → Sends t (kept_sent_if t x b)
    again t x false = sends_none t
    again t x true = to t x x.ballot.filled
