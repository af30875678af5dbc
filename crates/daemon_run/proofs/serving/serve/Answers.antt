-- A count of failures rose from before the link was opened on.
use Rattle.std.proofs.Common.{◌≡◌, ◌≢◌, sym, ◌∙◌, Result, Err}
use Rattle.link_use.specs.declared.stop.Stop.{Stop}
use Rattle.link_use.specs.declared.stop.Stop.TheVariants as stop
use Rattle.daemon_run.proofs.EndLaws.{rose_writing, rose_receiving}
use Rattle.daemon_run.proofs.serving.serve.Goals as goal

no_pause : (r : Result (Unit {0}) Stop) (f : Stop) → f ≢ stop.Paused → r ≡ Err f → r ≡ Err stop.Paused → ⊥
no_pause r f other is paused = let same : ◌≡◌ {A = Result (Unit {0}) Stop} (Err f) (Err stop.Paused) = sym is ∙ paused in other cc

pub returns-clause-write_fault : goal.returns-clause-write_fault
returns-clause-write_fault g c = λ e.
    rose_writing c.args.script.now.config _ c.open_link.result c.args.script.now c.args.serving.me c.args.serving.incarnation c.args.serving.options c.args.serving.turns _ _ _ c.open_link.ensures (c.live.ensures.ever (no_pause _ stop.WriteFault (λ no. absurd cc) e)) (c.live.ensures.written e)

pub returns-clause-link_fault : goal.returns-clause-link_fault
returns-clause-link_fault g c = λ e.
    rose_receiving c.args.script.now.config _ c.open_link.result c.args.script.now c.args.serving.me c.args.serving.incarnation c.args.serving.options c.args.serving.turns _ _ _ c.open_link.ensures (c.live.ensures.ever (no_pause _ stop.LinkFault (λ no. absurd cc) e)) (c.live.ensures.failed e)
