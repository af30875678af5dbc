-- What a node sends, but for GONE.
use Rattle.std.proofs.Common.{ℕ, List, [], ◌∷◌, ◌++◌, Option, Some, None, Bool, true, false}
use Rattle.std.specs.Prelude.{fold, reverse}
use Rattle.rsct_packet.specs.declared.ids.ProviderId.{ProviderId}
use Rattle.rsct_packet.specs.declared.ids.ProtoId.{ProtoId}
use Rattle.proposal_core.specs.Fold.{runs}
use Rattle.client_callbacks.specs.declared.ballot.Filled.{Filled}
use Rattle.client_callbacks.specs.Ballots.{BallotView}
use Rattle.session_state.specs.declared.casts.Cast.{Cast}
use Rattle.session_state.specs.declared.state.KeptBallot.{KeptBallot}
use Rattle.session_state.specs.declared.state.Request.{Request}
use Rattle.node_state.specs.declared.packet.Body.{Body}
use Rattle.node_state.specs.declared.packet.Body.TheVariants as body
use Rattle.node_state.specs.declared.state.Core.{Core}
use Rattle.node_state.specs.State.{frozen, leader_of, state_of}
use Rattle.node_state.specs.Sending.{sent, send_on, send_all, send_if_known, send_request_to, send_request, send_requests, vote_of, send_kept_to, send_kept, kept_sent_if, kept_sent_again, send_votes_again}
use Rattle.node_state.specs.HandOn.{ballot_sent, cast_sent_of, casts_sent}
use Rattle.run_safety.specs.Past.{History, records_of}
use Rattle.row_laws.proofs.failed_rows.Facts.{BodyFails}
use Rattle.row_laws.proofs.failed_rows.Origin.{Origin}
use Rattle.row_laws.proofs.failed_rows.At.{At, at_fold, at_sent}

module _ (h : History) (said : ProviderId → Type 0) (origin : Origin) (P L M : Type 0) (T G Q : List ℕ → Type 0) where
  pub at_sent_all : (ns : List ℕ) (s : Core) (b : Body) → BodyFails said (reverse s.records ++ records_of h) b → At h said origin P L M T G Q s → At h said origin P L M T G Q (send_all s ns b)
  unfolding send_all sent send_on
  at_sent_all [] s b ok a = a
  at_sent_all (n ∷ ns) s b ok a = at_sent_all ns (sent s n b) b ok (at_sent h said origin P L M T G Q s n b ok a)

  pub at_sent_if_known : (s : Core) (to : Option ℕ) (b : Body) → BodyFails said (reverse s.records ++ records_of h) b → At h said origin P L M T G Q s → At h said origin P L M T G Q (send_if_known s to b)
  unfolding send_if_known
  at_sent_if_known s None b ok a = a
  at_sent_if_known s (Some n) b ok a = at_sent h said origin P L M T G Q s n b ok a

  at_request_to : (s : Core) (q : Request) (to : Option ℕ) → At h said origin P L M T G Q s → At h said origin P L M T G Q (send_request_to s q to)
  unfolding send_request_to
  at_request_to s q None a = at_sent h said origin P L M T G Q s s.views.view.coord (body.Lookup s.views.view q.group) tt a
  at_request_to s q (Some n) a = at_sent h said origin P L M T G Q s n (body.Request s.views.view q.group q.provider q.request q.phases q.proposal) tt a

  pub at_request_sent : (s : Core) (q : Request) → At h said origin P L M T G Q s → At h said origin P L M T G Q (send_request s q)
  unfolding send_request
  at_request_sent s q a = by (frozen s)
    where
      by : (b : Bool) → At h said origin P L M T G Q (elim b as (λ _. Core) [ true ↦ s | false ↦ send_request_to s q (leader_of s q.group) ])
      by true = a
      by false = at_request_to s q (leader_of s q.group) a

  pub at_requests_sent : (s : Core) → At h said origin P L M T G Q s → At h said origin P L M T G Q (send_requests s)
  unfolding send_requests
  at_requests_sent s a = at_fold h said origin P L M T G Q send_request s.sessions.requests (λ t q i k. at_request_sent t q k) s a

  at_kept_to : (s : Core) (k : KeptBallot) (to : Option ℕ) (b : Option Filled) → At h said origin P L M T G Q s → At h said origin P L M T G Q (send_kept_to s k to b)
  unfolding send_kept_to vote_of
  at_kept_to s k to None a = a
  at_kept_to s k to (Some b) a = at_sent_if_known s to (vote_of s k.group k.proto k.phase k.provider b) tt a

  pub at_kept_sent : (s : Core) (k : KeptBallot) → At h said origin P L M T G Q s → At h said origin P L M T G Q (send_kept s k)
  unfolding send_kept
  at_kept_sent s k a = at_kept_to s k (leader_of s k.group) k.ballot.filled a

  at_kept_again : (s : Core) (k : KeptBallot) → At h said origin P L M T G Q s → At h said origin P L M T G Q (kept_sent_again s k)
  unfolding kept_sent_again kept_sent_if
  at_kept_again s k a = by (runs k.proto k.phase (state_of s k.group).running)
    where
      by : (b : Bool) → At h said origin P L M T G Q (kept_sent_if s k b)
      by false = a
      by true = at_kept_sent s k a

  pub at_votes_again : (s : Core) → At h said origin P L M T G Q s → At h said origin P L M T G Q (send_votes_again s)
  unfolding send_votes_again
  at_votes_again s a = at_fold h said origin P L M T G Q kept_sent_again s.sessions.kept (λ t k i b. at_kept_again t k b) s a

  at_ballot_sent : (s : Core) (g : List ℕ) (to : Option ℕ) (p : ProviderId) (proto : ProtoId) (phase : ℕ) (b : Option Filled) → At h said origin P L M T G Q s → At h said origin P L M T G Q (ballot_sent s g to p proto phase b)
  unfolding ballot_sent vote_of
  at_ballot_sent s g to p proto phase None a = a
  at_ballot_sent s g to p proto phase (Some b) a = at_sent_if_known s to (vote_of s g proto phase p b) tt a

  pub at_cast_sent : (s : Core) (g : List ℕ) (to : Option ℕ) (p : ProviderId) (c : Option (ProtoId × ℕ × BallotView)) → At h said origin P L M T G Q s → At h said origin P L M T G Q (cast_sent_of s g to p c)
  unfolding cast_sent_of
  at_cast_sent s g to p None a = a
  at_cast_sent s g to p (Some c) a = at_ballot_sent s g to p c.0 c.1 (c.2).filled a

  pub at_casts_sent : (s : Core) (g : List ℕ) (to : Option ℕ) (cs : List Cast) → At h said origin P L M T G Q s → At h said origin P L M T G Q (casts_sent s g to cs)
  unfolding casts_sent
  at_casts_sent s g to cs a = by (frozen s)
    where
      by : (b : Bool) → At h said origin P L M T G Q (elim b as (λ _. Core) [ true ↦ s | false ↦ fold (λ t (c : Cast). cast_sent_of t g to c.provider c.cast) s cs ])
      by true = a
      by false = at_fold h said origin P L M T G Q (λ t (c : Cast). cast_sent_of t g to c.provider c.cast) cs (λ t c i k. at_cast_sent t g to c.provider c.cast k) s a
