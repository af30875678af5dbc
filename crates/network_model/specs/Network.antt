-- A network of daemons: daemons that start, act and end, all in one order.
use Rattle.std.specs.Prelude.{ℕ, zero, suc, ◌+◌, ◌-◌, List, [], ◌∷◌, ◌++◌, length, drop, fold, Option, Some, None}
use Rattle.node_state.specs.declared.config.Config.{Config}
use Rattle.node_state.specs.declared.happened.Happened.{Happened}
use Rattle.node_state.specs.declared.happened.Happened.TheVariants as happened
use Rattle.step_refinement.specs.Rules.{at_node}
use Rattle.daemon_model.specs.declared.options.Service.{Service}
use Rattle.daemon_model.specs.Sent.{Exchange}
use Rattle.daemon_model.specs.Daemon.{Daemon, begun_for, serves_nobody}
use Rattle.daemon_model.specs.Actions.{Action, did}

-- what happens in a network: the daemon of a node starts, in an incarnation and at a moment, with what it serves; it acts; and
-- it ends, however it does
pub data Act : Type 0 where
  Begins : (node incarnation moment : ℕ) (service : Service) → Act
  Does : (node : ℕ) (action : Action) → Act
  Ends : (node : ℕ) → Act

-- The daemons that are up, by their nodes; the incarnation in which the last daemon of each node started, or 0; all that
-- was sent and received; and all that was recorded, in one order, as a world of nodes records it. So it has also that a
-- node is down, where its daemon ended, and of each incarnation that a node skips a life in which it did nothing.
pub record Net : Type 0 where
  pub daemons : ℕ → Option Daemon
  pub incarnations : ℕ → ℕ
  pub wire : List Exchange
  pub records : List Happened

-- before anything happened
abbrev pub no_net : Net
no_net = record { daemons = λ n. None; incarnations = λ n. 0; wire = []; records = [] }

-- ---- what a daemon adds

-- what a daemon sent and received since it was as the first
unfoldable pub made_since : Daemon → Daemon → List Exchange
made_since d e = drop (length d.calls) e.calls

-- and what its node recorded since then
unfoldable pub noted_since : Daemon → Daemon → List Happened
noted_since d e = drop (length d.records) e.records

-- the daemon of a node went on from the first to the second
unfoldable pub went_on : ℕ → Daemon → Daemon → Net → Net
went_on n d e net = record net {
  daemons = at_node net.daemons n (Some e);
  wire = net.wire ++ made_since d e;
  records = net.records ++ noted_since d e;
}

-- ---- acts

unfoldable pub starts : Service → Config → ℕ → ℕ → ℕ → Net → Net
starts service c n incarnation moment net =
    let d : Daemon = begun_for service c n incarnation moment in
    record {
      daemons = at_node net.daemons n (Some d);
      incarnations = at_node net.incarnations n incarnation;
      wire = net.wire ++ d.calls;
      records = net.records ++ d.records;
    }

unfoldable pub ends : ℕ → Net → Net
ends n net = record net { daemons = at_node net.daemons n None; records = net.records ++ happened.Down n ∷ [] }

-- in each of the next incarnations, so many, the node starts and is down at once
unfoldable pub idles : Config → ℕ → ℕ → Net → Net
idles c n zero net = net
idles c n (suc k) net = idles c n k (ends n (starts serves_nobody c n (net.incarnations n + 1) 0 net))

-- how many incarnations a node skips that starts in this one
abbrev pub skipped : Net → ℕ → ℕ → ℕ
skipped net n incarnation = incarnation - 1 - net.incarnations n

unfoldable pub begins : Service → Config → ℕ → ℕ → ℕ → Net → Net
begins service c n incarnation moment net = starts service c n incarnation moment (idles c n (skipped net n incarnation) net)

-- what the daemon of a node does, if it is up
abbrev pub does_if : (Daemon → Daemon) → ℕ → Option Daemon → Net → Net
does_if f n None net = net
does_if f n (Some d) net = went_on n d (f d) net

unfoldable pub acted : Config → Net → Act → Net
acted c net (Begins n incarnation moment service) = begins service c n incarnation moment net
acted c net (Does n action) = does_if (λ d. did d action) n (net.daemons n) net
acted c net (Ends n) = ends n net

-- the network after these acts, in their order
unfoldable pub net_after : Config → List Act → Net
net_after c acts = fold (acted c) no_net acts

-- opens each word of this file, for a computation
unfoldable pub network_opens : Unit {0}
unfolding at_node made_since noted_since went_on starts ends idles begins acted net_after
network_opens = tt
