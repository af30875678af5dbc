-- What a node sends.
use Rattle.std.specs.Prelude.{ℕ, Bool, true, false, ◌==◌, ◌&&◌, ◌++◌, List, [], ◌∷◌, fold, find, Option, Some, None}
use Rattle.std.specs.Option.{unwrap_or, option_map}
use Rattle.rsct_packet.specs.declared.ids.ProtoId.{ProtoId}
use Rattle.rsct_packet.specs.declared.ids.ProviderId.{ProviderId}
use Rattle.rsct_packet.specs.Mask.{has_node}
use Rattle.proposal_core.specs.declared.entry.Vote.{Vote}
use Rattle.proposal_core.specs.Fold.{runs}
use Rattle.adapter_ring.specs.declared.ring.Ring.{Ring}
use Rattle.client_callbacks.specs.declared.ballot.Filled.{Filled}
use Rattle.session_state.specs.declared.state.Request.{Request}
use Rattle.session_state.specs.declared.state.KeptBallot.{KeptBallot}
use Rattle.node_state.specs.declared.packet.Body.{Body}
use Rattle.node_state.specs.declared.packet.Body.TheVariants as body
use Rattle.node_state.specs.declared.packet.Packet.{Packet}
use Rattle.node_state.specs.declared.state.Core.{Core}
use Rattle.node_state.specs.Settings.{is_rings, shared_network}
use Rattle.node_state.specs.State.{state_of, leader_of, frozen}

-- both nodes stand in the ring
unfoldable pub joins_nodes : ℕ → ℕ → Ring → Bool
joins_nodes a b r = has_node r.members a && has_node r.members b

-- the least network in whose current ring both stand, if there is one
unfoldable pub ring_network : Core → ℕ → Option ℕ
ring_network s n = option_map (λ (r : Ring). r.net) (find (joins_nodes s.views.me n) s.rings)

-- in mode rings such a one; else the least that both have
unfoldable pub network_to : Core → ℕ → ℕ
network_to s n =
    elim (is_rings s.config.mode) [
      | true ↦ unwrap_or (ring_network s n) (shared_network s.config s.views.me n)
      | false ↦ shared_network s.config s.views.me n
    ]

-- the packets that are used in their view alone
unfoldable pub is_in_view : Body → Bool
is_in_view (body.Lookup view name) = true
is_in_view (body.Name view name leader) = true
is_in_view (body.Request view name p r phases proposal) = true
is_in_view (body.Tell view name p r why) = true
is_in_view (body.Entry view name place stable entry) = true
is_in_view (body.Ack view name len) = true
is_in_view (body.Vote view name proto phase p vote value message) = true
is_in_view (body.Gone view name p) = true
is_in_view _ = false

-- they are sent at the level of the view
unfoldable pub level_for : Core → Body → ℕ
level_for s b = elim (is_in_view b) [ true ↦ s.sessions.level | false ↦ 1 ]

unfoldable pub domain_at : Core → ℕ → ℕ
domain_at s level = elim (level == 2) [ true ↦ s.config.domain | false ↦ 0 ]

unfoldable pub packet_on : Core → ℕ → ℕ → Body → Packet
packet_on s network to b =
    let level : ℕ = level_for s b in
    record { network = network; from = s.views.me; to = to; inc = s.views.inc; level = level; domain = domain_at s level; body = b }

unfoldable pub send_on : Core → ℕ → ℕ → Body → Core
send_on s network to b = record s { sends = s.sends ++ packet_on s network to b ∷ [] }

unfoldable pub sent : Core → ℕ → Body → Core
sent s to b = send_on s (network_to s to) to b

unfoldable pub send_all : Core → List ℕ → Body → Core
send_all s ns b = fold (λ t n. sent t n b) s ns

unfoldable pub send_if_known : Core → Option ℕ → Body → Core
send_if_known s None b = s
send_if_known s (Some n) b = sent s n b

unfoldable pub send_request_to : Core → Request → Option ℕ → Core
send_request_to s q None = sent s s.views.view.coord (body.Lookup s.views.view q.group)
send_request_to s q (Some n) = sent s n (body.Request s.views.view q.group q.provider q.request q.phases q.proposal)

-- an outstanding request goes to the leader, where that is known, or its name is looked up
unfoldable pub send_request : Core → Request → Core
send_request s q = elim (frozen s) [ true ↦ s | false ↦ send_request_to s q (leader_of s q.group) ]

-- in order of number
unfoldable pub send_requests : Core → Core
send_requests s = fold send_request s s.sessions.requests

unfoldable pub vote_of : Core → List ℕ → ProtoId → ℕ → ProviderId → Filled → Body
vote_of s g proto phase p b = body.Vote s.views.view g proto phase p b.vote b.value b.message

-- a ballot that is kept is filled
unfoldable pub send_kept_to : Core → KeptBallot → Option ℕ → Option Filled → Core
send_kept_to s k to None = s
send_kept_to s k to (Some b) = send_if_known s to (vote_of s k.group k.proto k.phase k.provider b)

unfoldable pub send_kept : Core → KeptBallot → Core
send_kept s k = send_kept_to s k (leader_of s k.group) k.ballot.filled

unfoldable pub kept_sent_if : Core → KeptBallot → Bool → Core
kept_sent_if s k false = s
kept_sent_if s k true = send_kept s k

unfoldable pub kept_sent_again : Core → KeptBallot → Core
kept_sent_again s k = kept_sent_if s k (runs k.proto k.phase (state_of s k.group).running)

-- each kept ballot of a running phase
unfoldable pub send_votes_again : Core → Core
send_votes_again s = fold kept_sent_again s s.sessions.kept

-- opens each word of this file, for a computation
unfoldable pub sending_opens : Unit {0}
unfolding joins_nodes ring_network network_to is_in_view level_for domain_at packet_on send_on sent send_all send_if_known send_request_to send_request send_requests vote_of send_kept_to send_kept kept_sent_if kept_sent_again send_votes_again
sending_opens = tt
