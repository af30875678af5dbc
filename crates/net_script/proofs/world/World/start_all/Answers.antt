-- The next node starts.
use Rattle.std.proofs.Common.{rules, ◌≡◌, ◌∷◌}
use Rattle.net_script.proofs.BeginLaws.{starts_first, starts_next}
use Rattle.net_script.proofs.EmptyLaws.{empty_first, empty_next}
use Rattle.net_script.proofs.world.World.start_all.Goals as goal

pub loop-n-init : goal.loop-n-init
loop-n-init g c = record { starts = starts_first c.args.self.now c.args.out.now c.args.nodes.now; empty = empty_first g.C.Callbacks.stands_for g.C.Callbacks.script g.C.Made.script_of c.args.self.now c.args.nodes.now }

pub loop-n-preserved : goal.loop-n-preserved
loop-n-preserved g c =
    let front : c.loop-n.left.now ≡ c.in-Some.n.now ∷ c.in-Some.rest.now = search rules in
    record {
      starts = starts_next c.args.self.now c.loop-n.self c.start.new.self c.args.out.now c.loop-n.out c.start.new.out c.args.nodes.now c.loop-n.left.now c.in-Some.rest.now c.in-Some.n.now c.loop-n.invariant.starts front c.in_ok-start.ensures.goes;
      empty = empty_next g.C.Callbacks.stands_for g.C.Callbacks.script g.C.Made.script_of c.args.self.now c.loop-n.self c.start.new.self c.loop-n.out c.start.new.out c.args.nodes.now c.loop-n.left.now c.in-Some.rest.now c.in-Some.n.now c.loop-n.invariant.empty front c.in_ok-start.ensures.goes c.in_ok-start.ensures.hears;
    }
