-- What a node sends and what it keeps for its clients leaves its lists and tallies.
use Rattle.std.proofs.Common.{◌≡◌, ◌∙◌, ℕ, ◌+◌, ◌-◌, List, [], ◌∷◌, take, drop, Option, Some, None, Bool, true, false, refl}
use Rattle.std.specs.Prelude.{◌==◌, not, filter, fold}
use Rattle.rsct_packet.specs.declared.ids.ProviderId.{ProviderId}
use Rattle.rsct_packet.specs.declared.ids.ProtoId.{ProtoId}
use Rattle.rsct_packet.specs.declared.mask.Mask.{Mask}
use Rattle.rsct_packet.specs.Mask.{nodes_of}
use Rattle.rsct_packet.specs.Search.{Has}
use Rattle.rsct_packet.proofs.HasLaws.{append_has_left}
use Rattle.proposal_core.specs.declared.entry.Entry.{Entry}
use Rattle.proposal_core.specs.GroupView.{GroupView}
use Rattle.proposal_core.specs.Fold.{runs, present}
use Rattle.proposal_core.specs.Lists.{state_in}
use Rattle.node_reach.specs.Reach as reach
use Rattle.client_callbacks.specs.declared.ballot.Filled.{Filled}
use Rattle.client_callbacks.specs.Ballots.{BallotView}
use Rattle.session_state.specs.declared.casts.Cast.{Cast}
use Rattle.session_state.specs.declared.state.KeptBallot.{KeptBallot}
use Rattle.session_state.specs.declared.state.Request.{Request}
use Rattle.session_state.specs.declared.state.SessionState.{SessionState}
use Rattle.node_state.specs.declared.group.GroupRow.{GroupRow}
use Rattle.node_state.specs.declared.happened.Happened.{Happened}
use Rattle.node_state.specs.declared.happened.Happened.TheVariants as happened
use Rattle.node_state.specs.declared.packet.Body.{Body}
use Rattle.node_state.specs.declared.packet.Body.TheVariants as body
use Rattle.node_state.specs.declared.packet.Packet.{Packet}
use Rattle.node_state.specs.declared.state.Core.{Core}
use Rattle.node_state.specs.State.{row_of, state_of, held_rows, frozen, leader_of, acked_by, least_acked, with_sessions}
use Rattle.node_state.specs.Sending.{packet_on, send_on, sent, send_all, send_if_known, send_request_to, send_request, send_requests, send_kept_to, send_kept, kept_sent_if, kept_sent_again, send_votes_again}
use Rattle.node_state.specs.HandOn.{ballot_sent, cast_sent_of, casts_sent}
use Rattle.node_state.specs.Ticks.{report_of, send_report, is_lost, lost_told, tick_owed, entries_sent, list_sent_again, sent_again}

-- what changes no list, enters no view, and starts or stops no node
abbrev pub Silent : Happened → Type 0
Silent (happened.Put n v g i e) = ⊥
Silent (happened.In n v ms) = ⊥
Silent (happened.Base n v g old len st) = ⊥
Silent (happened.Up n j) = ⊥
Silent (happened.Down n) = ⊥
Silent _ = Unit {0}

abbrev pub AllSilent : List Happened → Type 0
AllSilent rs = (r : Happened) → Has r rs → Silent r

-- nothing changes but what is sent more, and the sessions, whose level stays
pub record Calm (c d : Core) : Type 0 where
  pub groups : d.groups ≡ c.groups
  pub views : d.views ≡ c.views
  pub config : d.config ≡ c.config
  pub names : d.names ≡ c.names
  pub records : d.records ≡ c.records
  pub level : d.sessions.level ≡ c.sessions.level
  pub sends : (p : Packet) → Has p c.sends → Has p d.sends

pub calm_self : (c : Core) → Calm c c
calm_self c = record { groups = refl; views = refl; config = refl; names = refl; records = refl; level = refl; sends = λ p h. h }

pub calm_then : (a b c : Core) → Calm a b → Calm b c → Calm a c
calm_then a b c p q = record { groups = q.groups ∙ p.groups; views = q.views ∙ p.views; config = q.config ∙ p.config; names = q.names ∙ p.names; records = q.records ∙ p.records; level = q.level ∙ p.level; sends = λ x h. q.sends x (p.sends x h) }

pub calm_fold : {A : Type 0} (f : Core → A → Core) → ((c : Core) (x : A) → Calm c (f c x)) → (xs : List A) (c : Core) → Calm c (fold f c xs)
calm_fold f one [] c = calm_self c
calm_fold f one (x ∷ xs) c = calm_then c (f c x) (fold f (f c x) xs) (one c x) (calm_fold f one xs (f c x))

-- ---- what is sent

pub calm_on : (c : Core) (network to : ℕ) (b : Body) → Calm c (send_on c network to b)
unfolding send_on
calm_on c network to b = record { groups = refl; views = refl; config = refl; names = refl; records = refl; level = refl; sends = λ p h. append_has_left p c.sends (packet_on c network to b ∷ []) h }

pub calm_sent : (c : Core) (to : ℕ) (b : Body) → Calm c (sent c to b)
unfolding sent
calm_sent c to b = calm_on c _ to b

pub calm_all : (c : Core) (ns : List ℕ) (b : Body) → Calm c (send_all c ns b)
unfolding send_all
calm_all c ns b = calm_fold (λ t n. sent t n b) (λ t n. calm_sent t n b) ns c

pub calm_known : (c : Core) (to : Option ℕ) (b : Body) → Calm c (send_if_known c to b)
unfolding send_if_known
calm_known c None b = calm_self c
calm_known c (Some n) b = calm_sent c n b

pub calm_sessions : (c : Core) (t : SessionState) → t.level ≡ c.sessions.level → Calm c (with_sessions c t)
unfolding with_sessions
calm_sessions c t level = record { groups = refl; views = refl; config = refl; names = refl; records = refl; level = level; sends = λ p i. i }

calm_cast : (c : Core) (k : List ℕ) (to : Option ℕ) (x : Cast) → Calm c (cast_sent_of c k to x.provider x.cast)
unfolding cast_sent_of ballot_sent
calm_cast c k to x = by x.cast
  where
    ballot : (p : ProviderId) (y : ProtoId × ℕ × BallotView) (b : Option Filled) → Calm c (ballot_sent c k to p y.0 y.1 b)
    ballot p y None = calm_self c
    ballot p y (Some b) = calm_known c to _

    by : (o : Option (ProtoId × ℕ × BallotView)) → Calm c (cast_sent_of c k to x.provider o)
    by None = calm_self c
    by (Some y) = ballot x.provider y (y.2).filled

pub calm_casts : (c : Core) (k : List ℕ) (to : Option ℕ) (cs : List Cast) → Calm c (casts_sent c k to cs)
unfolding casts_sent
calm_casts c k to cs = by (frozen c)
  where
    by : (b : Bool) → Calm c (elim b as (λ _. Core) [ true ↦ c | false ↦ fold (λ t x. cast_sent_of t k to x.provider x.cast) c cs ])
    by true = calm_self c
    by false = calm_fold (λ t (x : Cast). cast_sent_of t k to x.provider x.cast) (λ t x. calm_cast t k to x) cs c

-- ---- what is owed is sent

request_to_calm : (c : Core) (q : Request) (o : Option ℕ) → Calm c (send_request_to c q o)
unfolding send_request_to
request_to_calm c q None = calm_sent c _ _
request_to_calm c q (Some n) = calm_sent c _ _

pub request_calm : (c : Core) (q : Request) → Calm c (send_request c q)
unfolding send_request
request_calm c q = by (frozen c)
  where
    by : (b : Bool) → Calm c (elim b as (λ _. Core) [ true ↦ c | false ↦ send_request_to c q (leader_of c q.group) ])
    by true = calm_self c
    by false = request_to_calm c q (leader_of c q.group)

requests_calm : (c : Core) → Calm c (send_requests c)
unfolding send_requests
requests_calm c = calm_fold send_request request_calm c.sessions.requests c

pub kept_calm : (c : Core) (k : KeptBallot) → Calm c (send_kept c k)
unfolding send_kept send_kept_to
kept_calm c k = by k.ballot.filled
  where
    by : (o : Option Filled) → Calm c (send_kept_to c k (leader_of c k.group) o)
    by None = calm_self c
    by (Some b) = calm_known c _ _

kept_again_calm : (c : Core) (k : KeptBallot) → Calm c (kept_sent_again c k)
unfolding kept_sent_again kept_sent_if
kept_again_calm c k = by (runs k.proto k.phase (state_of c k.group).running)
  where
    by : (b : Bool) → Calm c (kept_sent_if c k b)
    by false = calm_self c
    by true = kept_calm c k

votes_calm : (c : Core) → Calm c (send_votes_again c)
unfolding send_votes_again
votes_calm c = calm_fold kept_sent_again kept_again_calm c.sessions.kept c

pub owed_calm : (c : Core) → Calm c (send_votes_again (send_requests c))
owed_calm c = calm_then c (send_requests c) (send_votes_again (send_requests c)) (requests_calm c) (votes_calm (send_requests c))

lost_calm : (c : Core) (row : GroupRow) → Calm c (lost_told c row)
unfolding lost_told
lost_calm c row = calm_fold (λ t p. send_if_known t (leader_of t row.name) (body.Gone t.views.view row.name p)) (λ t p. calm_known t _ _) (filter (is_lost c) (present (state_in row.list))) c

pub owed_part_calm : (c : Core) → Calm c (tick_owed c)
unfolding tick_owed
owed_part_calm c = by (frozen c)
  where
    t : Core
    t = send_requests c

    u : Core
    u = fold lost_told t (held_rows t)

    by : (b : Bool) → Calm c (elim b as (λ _. Core) [ true ↦ c | false ↦ send_votes_again u ])
    by true = calm_self c
    by false = calm_then c t (send_votes_again u) (requests_calm c) (calm_then t u (send_votes_again u) (calm_fold lost_told lost_calm (held_rows t) t) (votes_calm u))

entries_calm : (to : ℕ) (h : List ℕ) (stable : ℕ) (es : List Entry) (i : ℕ) (c : Core) → Calm c (entries_sent to h i stable es c)
unfolding entries_sent
entries_calm to h stable [] i c = calm_self c
entries_calm to h stable (e ∷ es) i c =
    let d : Core = sent c to (body.Entry c.views.view h i stable e) in calm_then c d (entries_sent to h (i + 1) stable es d) (calm_sent c _ _) (entries_calm to h stable es (i + 1) d)

pub again_calm : (h : List ℕ) (c : Core) (n : ℕ) → Calm c (sent_again h c n)
unfolding sent_again list_sent_again
again_calm h c n = by (row_of c h).list
  where
    by : (o : Option GroupView) → Calm c (list_sent_again c h n (acked_by c (row_of c h) n) o)
    by None = calm_self c
    by (Some l) = entries_calm n h (least_acked c h) (take 16 (drop (acked_by c (row_of c h) n - l.start) l.entries)) (acked_by c (row_of c h) n) c

pub report_calm : (c : Core) (m : Mask) → Calm c (send_report c m)
unfolding send_report
report_calm c m =
    let t : Core = record c { reach = reach.set_own c.reach m } in
    calm_then c t (send_all t (filter (λ n. not (n == c.views.me)) (nodes_of m)) (body.Report (report_of t.reach))) (record { groups = refl; views = refl; config = refl; names = refl; records = refl; level = refl; sends = λ p i. i }) (calm_all t _ _)
