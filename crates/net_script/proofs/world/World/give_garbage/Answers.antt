-- What a node is handed is no packet.
use Rattle.std.proofs.Common.{ℕ, OnOk, IsErrOf, subst}
use Rattle.node_state.specs.Step.{NodeEvent}
use Rattle.world_model.specs.World.{node_at, node_steps}
use Rattle.world_laws.specs.world_answers.Answers.{step_by_if}
use Rattle.play_state.specs.declared.world_fault.WorldFault.TheVariants.{TooMuchKept}
use Rattle.net_script.specs.Standing.{Goes, Passes, Comes}
use Rattle.run_hands.specs.Hands.{NodeHands}
use Rattle.net_script.specs.Hearing.{HearsAs}
use Rattle.net_script.proofs.world.World.give_garbage.Goals as goal

pub returns-clause-goes : goal.returns-clause-goes
returns-clause-goes g c =
    subst (λ (e : NodeEvent). OnOk c.step.result (Comes g.C.Callbacks.script g.C.Made.script_of c.args.self.now (Goes g.C.Callbacks.script g.C.Made.script_of c.args.self.now c.step.new.self c.args.out.now c.step.new.out) (λ f w. step_by_if f w e (node_at w c.args.node)) (λ w. node_steps w c.args.node e)))
    c.garbage.ensures c.step.ensures.goes

pub returns-clause-passes : goal.returns-clause-passes
returns-clause-passes g c =
    subst (λ (e : NodeEvent). (k : ℕ) → IsErrOf c.step.result (TooMuchKept k) → Comes g.C.Callbacks.script g.C.Made.script_of c.args.self.now (Passes k c.args.self.now) (λ f w. step_by_if f w e (node_at w c.args.node)) (λ w. node_steps w c.args.node e))
    c.garbage.ensures c.step.ensures.passes

pub returns-clause-hears : goal.returns-clause-hears
returns-clause-hears g c =
    subst (λ (e : NodeEvent). OnOk c.step.result (HearsAs g.C.Callbacks.stands_for g.C.Callbacks.script g.C.Made.script_of c.args.self.now c.step.new.self.nodes c.args.out.now c.step.new.out (λ w rs old new. NodeHands (node_at w c.args.node) c.args.node e rs old new)))
    c.garbage.ensures c.step.ensures.hears
