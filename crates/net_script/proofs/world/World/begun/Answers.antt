-- In mode fixed the nodes of the domain start.
use Rattle.std.proofs.Common.{List, ℕ, sym, ◌∙◌, subst}
use Rattle.std.specs.Prelude.{fold}
use Rattle.rsct_packet.specs.Mask.{nodes_of}
use Rattle.world_model.specs.World.{node_starts, empty_world, world_new}
use Rattle.world_model.specs.World as world
use Rattle.net_script.specs.declared.world.World.{World}
use Rattle.net_script.specs.Standing.{Stands, Goes, kept_empty}
use Rattle.net_script.proofs.BeginLaws.{begins_fixed, begins_down}
use Rattle.run_hands.specs.Hands.{LogsStand, empty_logs}
use Rattle.net_script.proofs.EmptyLaws.{empty_fixed, empty_down}
use Rattle.net_script.proofs.world.World.begun.Goals as goal

pub returns-in_ok-start_all-in-Fixed-clause-goes : goal.returns-in_ok-start_all-in-Fixed-clause-goes
returns-in_ok-start_all-in-Fixed-clause-goes g c =
    begins_fixed c.args.config c.args.limit c.start_all.new.self c.args.out.now c.start_all.new.out c.in-Fixed.is
    (subst (λ (k : World g.row.C.Denot). (w : world.World) → Stands g.C.Callbacks.script g.C.Made.script_of k w → Goes g.C.Callbacks.script g.C.Made.script_of k c.start_all.new.self c.args.out.now c.start_all.new.out w (fold node_starts w (nodes_of c.args.config.nodes))) c.empty-world.ensures
    (subst (λ (ns : List ℕ). (w : world.World) → Stands g.C.Callbacks.script g.C.Made.script_of c.empty-world.result w → Goes g.C.Callbacks.script g.C.Made.script_of c.empty-world.result c.start_all.new.self c.args.out.now c.start_all.new.out w (fold node_starts w ns))
    (c.as_slice.ensures.value ∙ c.in_ok-nodes-in-Fixed.ensures) c.in_ok-start_all-in-Fixed.ensures.goes))

pub returns-in-Asked-clause-goes : goal.returns-in-Asked-clause-goes
returns-in-Asked-clause-goes g c =
    subst (λ (k : World g.row.C.Denot). Goes g.C.Callbacks.script g.C.Made.script_of (kept_empty c.args.config c.args.limit) k c.args.out.now c.args.out.now (empty_world c.args.config) (world_new c.args.config)) (sym c.empty-world.ensures) (begins_down c.args.config c.args.limit c.args.out.now c.in-Asked.is)

pub returns-in_ok-start_all-in-Fixed-clause-hears : goal.returns-in_ok-start_all-in-Fixed-clause-hears
returns-in_ok-start_all-in-Fixed-clause-hears g c =
    empty_fixed g.C.Callbacks.stands_for g.C.Callbacks.script g.C.Made.script_of c.args.config c.args.limit c.start_all.new.self c.in-Fixed.is
    (subst (λ (k : World g.row.C.Denot). (w : world.World) → Stands g.C.Callbacks.script g.C.Made.script_of k w → LogsStand g.C.Callbacks.stands_for k.nodes (empty_logs w) → LogsStand g.C.Callbacks.stands_for c.start_all.new.self.nodes (empty_logs (fold node_starts w (nodes_of c.args.config.nodes)))) c.empty-world.ensures
    (subst (λ (ns : List ℕ). (w : world.World) → Stands g.C.Callbacks.script g.C.Made.script_of c.empty-world.result w → LogsStand g.C.Callbacks.stands_for c.empty-world.result.nodes (empty_logs w) → LogsStand g.C.Callbacks.stands_for c.start_all.new.self.nodes (empty_logs (fold node_starts w ns)))
    (c.as_slice.ensures.value ∙ c.in_ok-nodes-in-Fixed.ensures) c.in_ok-start_all-in-Fixed.ensures.hears))

pub returns-in-Asked-clause-hears : goal.returns-in-Asked-clause-hears
returns-in-Asked-clause-hears g c =
    subst (λ (k : World g.row.C.Denot). LogsStand g.C.Callbacks.stands_for k.nodes (empty_logs (world_new c.args.config))) (sym c.empty-world.ensures) (empty_down g.C.Callbacks.stands_for c.args.config c.in-Asked.is)
