-- Small lives of a daemon with options, for worked examples: node 1 in incarnation 5, alone, with a client on another machine;
-- and node 2, which was left behind.
use Rattle.std.specs.Prelude.{ℕ, Bool, List, [], ◌∷◌, map, codes, Option, Some, None, is_some}
use Rattle.rsct_packet.specs.declared.mask.Mask.{Mask}
use Rattle.rsct_packet.specs.Mask.{no_nodes, with_node}
use Rattle.node_reach.specs.Reach.{reach_new, set_own, reported}
use Rattle.node_state.specs.declared.state.Core.{Core}
use Rattle.node_state.specs.Step.{at_work, started}
use Rattle.remote_clients.specs.declared.sessions.Sessions.{Sessions}
use Rattle.remote_clients.specs.declared.clients.RemoteClient.{RemoteClient}
use Rattle.daemon_model.specs.Daemon.{Daemon, Turn, serves_nobody, fresh}
use Rattle.daemon_model.specs.Samples.{settings_for, silent, server_after, given_at, quiet_at, up_piece}

-- ---- a client that is silent

-- key 7 makes its client
unfoldable pub first_call : Turn
first_call = given_at 0 (up_piece 1 1 (codes "client 1 a -"))

-- and then nothing comes, at these moments
unfoldable pub silent_after : List ℕ → Daemon
silent_after moments = server_after (1 ∷ []) (first_call ∷ map quiet_at moments)

-- its key ends at moment 200
unfoldable pub ended_at_200 : Daemon
ended_at_200 = server_after (1 ∷ []) (first_call ∷ quiet_at 100 ∷ record (quiet_at 200) { ends = record { key = 7; answers = silent } ∷ [] } ∷ [])

abbrev pub ended_keys : Option Sessions → List ℕ
ended_keys None = []
ended_keys (Some s) = s.remote.ended

-- the names of the clients that keys made
abbrev pub made_names : Option Sessions → List (List ℕ)
made_names None = []
made_names (Some s) = map (λ (c : RemoteClient). c.name) s.clients.made

-- ---- a node that was left behind

abbrev pub both_nodes : Mask
both_nodes = with_node (with_node no_nodes 1) 2

-- node 2 is in a view of its own, and node 1, in incarnation 3, is within its reach
unfoldable pub left_behind : Core
left_behind =
    record (at_work (started (settings_for (1 ∷ 2 ∷ [])) 2 5)) {
      reach = reported (set_own (reach_new 2 5) both_nodes) 1 (record { inc = 3; seq = 1; mask = both_nodes });
    }

unfoldable pub behind : Daemon
behind = record (fresh serves_nobody (settings_for (1 ∷ 2 ∷ [])) 2 5 0) { core = left_behind }

abbrev pub is_gathering : Daemon → Bool
is_gathering d = is_some d.core.views.gathering

-- opens each word of this file, for a computation
unfoldable pub option_samples_opens : Unit {0}
unfolding first_call silent_after ended_at_200 left_behind behind
option_samples_opens = tt
