-- What is sent for clients leaves all else as it is, whichever requests and ballots wait meanwhile.
use Rattle.std.proofs.Common.{◌≡◌, ℕ, ◌≤◌, Bool, true, false, List, [], ◌∷◌, filter, length, Option, Some, None, refl, sym, ap, ◌∙◌, subst, arith}
use Rattle.std.specs.List.{fold}
use Rattle.std.specs.Str.{bytes_eq}
use Rattle.client_callbacks.specs.declared.ballot.Filled.{Filled}
use Rattle.session_state.specs.declared.state.Request.{Request}
use Rattle.session_state.specs.declared.state.KeptBallot.{KeptBallot}
use Rattle.node_state.specs.declared.packet.Body.{Body}
use Rattle.node_state.specs.declared.state.Core.{Core}
use Rattle.node_state.specs.State.{InNameOrder, row_of, list_of, state_of, frozen, leader_in, leader_of}
use Rattle.node_state.specs.Sending.{ring_network, network_to, level_for, domain_at, packet_on, send_on, sent, send_if_known, send_request_to, send_request, send_requests, vote_of, send_kept_to, send_kept, kept_sent_if, kept_sent_again, send_votes_again}
use Rattle.node_state.specs.Following.{requests_of}
use Rattle.session_state.specs.Calls.{SameSessions}
use Rattle.node_groups.specs.Keeps.{Stays, Keeps}
use Rattle.session_state.proofs.OwnerLaws.{owners_themselves}
use Rattle.node_state.proofs.AlongLaws.{along_same}
use Rattle.node_groups.proofs.KeepLaws.{keeps_as}

-- ---- what sends alone

-- t is s, but for what it has sent
abbrev pub SendsAlone : Core → Core → Type 0
SendsAlone s t = t ≡ record s { sends = t.sends }

alone_then : (s t u : Core) → SendsAlone s t → SendsAlone t u → SendsAlone s u
alone_then s t u a b = b ∙ ap (λ (x : Core). record x { sends = u.sends }) a

-- what leaves the groups as they are
pub groups_stay : (s t : Core) → length s.records ≤ length t.records → SameSessions s.sessions t.sessions → t.groups ≡ s.groups → Stays s t
groups_stay s t grows same groups = record { records = grows; sessions = same; order = λ o. subst InNameOrder (sym groups) o }

alone_keeps : (s t : Core) → SendsAlone s t → Keeps s t
alone_keeps s t e =
    let u : Core = record s { sends = t.sends } in
    keeps_as s u t e (record { records = omega arith; sessions = (refl, refl); order = λ o. o; handed = refl; owners = owners_themselves s.sessions; along = along_same s u refl refl })

-- s where these requests and ballots wait
abbrev pub apart : Core → List Request → List KeptBallot → Core
apart s rs ks = record s { sessions = record (s.sessions) { requests = rs; kept = ks } }

-- what f sends does not depend on what waits
pub record Sends {A : Type 0} (f : Core → A → Core) : Type 0 where
  pub alone : (s : Core) (a : A) → SendsAlone s (f s a)
  pub apart : (s : Core) (a : A) (rs : List Request) (ks : List KeptBallot) → f (apart s rs ks) a ≡ apart (f s a) rs ks

each_alone : {A : Type 0} (f : Core → A → Core) (sends : Sends f) (s : Core) (xs : List A) → SendsAlone s (fold f s xs)
each_alone f sends s [] = refl
each_alone f sends s (x ∷ xs) = alone_then s (f s x) (fold f (f s x) xs) (sends.alone s x) (each_alone f sends (f s x) xs)

each_apart : {A : Type 0} (f : Core → A → Core) (sends : Sends f) (s : Core) (rs : List Request) (ks : List KeptBallot) (xs : List A) → fold f (apart s rs ks) xs ≡ apart (fold f s xs) rs ks
each_apart f sends s rs ks [] = refl
each_apart f sends s rs ks (x ∷ xs) = ap (λ (t : Core). fold f t xs) (sends.apart s x rs ks) ∙ each_apart f sends (f s x) rs ks xs

-- the requests are put back
requests_back : {A : Type 0} (f : Core → A → Core) (sends : Sends f) (s t : Core) (none rs : List Request) (xs : List A) → rs ≡ s.sessions.requests → t ≡ fold f (apart s none s.sessions.kept) xs → apart t rs t.sessions.kept ≡ fold f s xs
requests_back f sends s t none rs xs same e =
    ap (λ (x : Core). apart x rs x.sessions.kept) (e ∙ each_apart f sends s none s.sessions.kept xs)
    ∙ (ap (λ (x : Core). apart x rs s.sessions.kept) (each_alone f sends s xs)
    ∙ (ap (λ (qs : List Request). apart (record s { sends = (fold f s xs).sends }) qs s.sessions.kept) same ∙ sym (each_alone f sends s xs)))

-- the ballots are put back
kept_back : {A : Type 0} (f : Core → A → Core) (sends : Sends f) (s t : Core) (none ks : List KeptBallot) (xs : List A) → ks ≡ s.sessions.kept → t ≡ fold f (apart s s.sessions.requests none) xs → apart t t.sessions.requests ks ≡ fold f s xs
kept_back f sends s t none ks xs same e =
    ap (λ (x : Core). apart x x.sessions.requests ks) (e ∙ each_apart f sends s s.sessions.requests none xs)
    ∙ (ap (λ (x : Core). apart x s.sessions.requests ks) (each_alone f sends s xs)
    ∙ (ap (λ (bs : List KeptBallot). apart (record s { sends = (fold f s xs).sends }) s.sessions.requests bs) same ∙ sym (each_alone f sends s xs)))

pub each_keeps : {A : Type 0} (f : Core → A → Core) (sends : Sends f) (s t : Core) (xs : List A) → t ≡ fold f s xs → Keeps s t
each_keeps f sends s t xs e = keeps_as s (fold f s xs) t e (alone_keeps s (fold f s xs) (each_alone f sends s xs))

-- ---- packets

sent_alone : (s : Core) (to : ℕ) (b : Body) → SendsAlone s (sent s to b)
unfolding sent send_on
sent_alone s to b = refl

sent_apart : (s : Core) (to : ℕ) (b : Body) (rs : List Request) (ks : List KeptBallot) → sent (apart s rs ks) to b ≡ apart (sent s to b) rs ks
unfolding sent send_on packet_on level_for domain_at network_to ring_network
sent_apart s to b rs ks = refl

known_alone : (s : Core) (to : Option ℕ) (b : Body) → SendsAlone s (send_if_known s to b)
unfolding send_if_known
known_alone s None b = refl
known_alone s (Some n) b = sent_alone s n b

known_apart : (s : Core) (to : Option ℕ) (b : Body) (rs : List Request) (ks : List KeptBallot) → send_if_known (apart s rs ks) to b ≡ apart (send_if_known s to b) rs ks
unfolding send_if_known
known_apart s None b rs ks = refl
known_apart s (Some n) b rs ks = sent_apart s n b rs ks

-- ---- requests

request_to_alone : (s : Core) (q : Request) (to : Option ℕ) → SendsAlone s (send_request_to s q to)
unfolding send_request_to
request_to_alone s q None = sent_alone s _ _
request_to_alone s q (Some n) = sent_alone s _ _

request_to_apart : (s : Core) (q : Request) (to : Option ℕ) (rs : List Request) (ks : List KeptBallot) → send_request_to (apart s rs ks) q to ≡ apart (send_request_to s q to) rs ks
unfolding send_request_to
request_to_apart s q None rs ks = sent_apart s _ _ rs ks
request_to_apart s q (Some n) rs ks = sent_apart s _ _ rs ks

pub to_keeps : (s t : Core) (q : Request) (to : Option ℕ) → t ≡ send_request_to s q to → Keeps s t
to_keeps s t q to e = keeps_as s (send_request_to s q to) t e (alone_keeps s (send_request_to s q to) (request_to_alone s q to))

unless_frozen_alone : (is_frozen : Bool) (s : Core) (q : Request) (to : Option ℕ) → SendsAlone s (elim is_frozen [ true ↦ s | false ↦ send_request_to s q to ])
unless_frozen_alone true s q to = refl
unless_frozen_alone false s q to = request_to_alone s q to

unless_frozen_apart : (is_frozen : Bool) (s : Core) (q : Request) (to : Option ℕ) (rs : List Request) (ks : List KeptBallot)
    → elim is_frozen [ true ↦ apart s rs ks | false ↦ send_request_to (apart s rs ks) q to ] ≡ apart (elim is_frozen [ true ↦ s | false ↦ send_request_to s q to ]) rs ks
unless_frozen_apart true s q to rs ks = refl
unless_frozen_apart false s q to rs ks = request_to_apart s q to rs ks

pub request_sends : Sends send_request
unfolding send_request frozen leader_of leader_in row_of
request_sends =
    record {
      alone = λ s q. unless_frozen_alone (frozen s) s q (leader_of s q.group);
      apart = λ s q rs ks. unless_frozen_apart (frozen s) s q (leader_of s q.group) rs ks;
    }

-- ---- ballots

kept_to_alone : (s : Core) (k : KeptBallot) (to : Option ℕ) (b : Option Filled) → SendsAlone s (send_kept_to s k to b)
unfolding send_kept_to
kept_to_alone s k to None = refl
kept_to_alone s k to (Some b) = known_alone s to _

pub kept_to_keeps : (s t : Core) (k : KeptBallot) (to : Option ℕ) → t ≡ send_kept_to s k to k.ballot.filled → Keeps s t
kept_to_keeps s t k to e = keeps_as s (send_kept_to s k to k.ballot.filled) t e (alone_keeps s (send_kept_to s k to k.ballot.filled) (kept_to_alone s k to k.ballot.filled))

kept_to_apart : (s : Core) (k : KeptBallot) (to : Option ℕ) (b : Option Filled) (rs : List Request) (ks : List KeptBallot) → send_kept_to (apart s rs ks) k to b ≡ apart (send_kept_to s k to b) rs ks
unfolding send_kept_to vote_of
kept_to_apart s k to None rs ks = refl
kept_to_apart s k to (Some b) rs ks = known_apart s to _ rs ks

pub kept_sends : Sends send_kept
unfolding send_kept leader_of leader_in row_of
kept_sends =
    record {
      alone = λ s k. kept_to_alone s k (leader_of s k.group) k.ballot.filled;
      apart = λ s k rs ks. kept_to_apart s k (leader_of s k.group) k.ballot.filled rs ks;
    }

kept_if_alone : (s : Core) (k : KeptBallot) (is_running : Bool) → SendsAlone s (kept_sent_if s k is_running)
unfolding kept_sent_if
kept_if_alone s k false = refl
kept_if_alone s k true = kept_sends.alone s k

kept_if_apart : (s : Core) (k : KeptBallot) (is_running : Bool) (rs : List Request) (ks : List KeptBallot) → kept_sent_if (apart s rs ks) k is_running ≡ apart (kept_sent_if s k is_running) rs ks
unfolding kept_sent_if
kept_if_apart s k false rs ks = refl
kept_if_apart s k true rs ks = kept_sends.apart s k rs ks

pub again_sends : Sends kept_sent_again
unfolding kept_sent_again state_of list_of row_of
again_sends =
    record {
      alone = λ s k. kept_if_alone s k _;
      apart = λ s k rs ks. kept_if_apart s k _ rs ks;
    }

-- ---- each of those that wait

pub requests_sent_back : (s t : Core) (none rs xs : List Request) → rs ≡ s.sessions.requests → xs ≡ rs → t ≡ fold send_request (apart s none s.sessions.kept) xs → apart t rs t.sessions.kept ≡ send_requests s
unfolding send_requests
requests_sent_back s t none rs xs same items e = requests_back send_request request_sends s t none rs xs same e ∙ ap (fold send_request s) (items ∙ same)

pub requests_of_back : (s t : Core) (g : List ℕ) (none rs xs : List Request) → rs ≡ s.sessions.requests → xs ≡ rs → t ≡ fold send_request (apart s none s.sessions.kept) (filter (λ (q : Request). bytes_eq q.group g) xs)
    → apart t rs t.sessions.kept ≡ fold send_request s (requests_of s g)
unfolding requests_of
requests_of_back s t g none rs xs same items e =
    requests_back send_request request_sends s t none rs (filter (λ (q : Request). bytes_eq q.group g) xs) same e
    ∙ ap (λ (qs : List Request). fold send_request s (filter (λ (q : Request). bytes_eq q.group g) qs)) (items ∙ same)

pub votes_sent_back : (s t : Core) (none ks xs : List KeptBallot) → ks ≡ s.sessions.kept → xs ≡ ks → t ≡ fold kept_sent_again (apart s s.sessions.requests none) xs → apart t t.sessions.requests ks ≡ send_votes_again s
unfolding send_votes_again
votes_sent_back s t none ks xs same items e = kept_back kept_sent_again again_sends s t none ks xs same e ∙ ap (fold kept_sent_again s) (items ∙ same)

pub requests_keep : (s u : Core) → u ≡ send_requests s → Keeps s u
unfolding send_requests
requests_keep s u e = each_keeps send_request request_sends s u s.sessions.requests e

pub votes_keep : (s u : Core) → u ≡ send_votes_again s → Keeps s u
unfolding send_votes_again
votes_keep s u e = each_keeps kept_sent_again again_sends s u s.sessions.kept e
