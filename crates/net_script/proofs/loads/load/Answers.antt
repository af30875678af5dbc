-- A safe run speaks of all groups, for any number, so its laws are named here.
use Rattle.std.proofs.Common.{ℕ, List, subst}
use Rattle.std.specs.Io.KnownBytes.{Appends}
use Rattle.world_model.specs.Load.{load_text}
use Rattle.net_script.proofs.LoadLaws.{load_is_safe, load_front_is_safe, summary_is, written_then}
use Rattle.net_script.proofs.loads.load.Goals as goal

pub returns-in_err-counts-clause-safe_front : goal.returns-in_err-counts-clause-safe_front
returns-in_err-counts-clause-safe_front g c = load_front_is_safe c.args.limit c.args.steps

pub returns-in_err-text-clause-safe_front : goal.returns-in_err-text-clause-safe_front
returns-in_err-text-clause-safe_front g c = load_front_is_safe c.args.limit c.args.steps

pub returns-in_err-put_all-clause-safe_front : goal.returns-in_err-put_all-clause-safe_front
returns-in_err-put_all-clause-safe_front g c = load_front_is_safe c.args.limit c.args.steps

pub returns-clause-safe_front : goal.returns-clause-safe_front
returns-clause-safe_front g c = load_front_is_safe c.args.limit c.args.steps

pub returns-clause-safe : goal.returns-clause-safe
returns-clause-safe g c = load_is_safe c.args.steps

pub returns-clause-done : goal.returns-clause-done
returns-clause-done g c = (
  c.in_ok-counts.ensures.done.0,
  written_then _ _ _ (load_text c.args.steps) c.play_load.ensures.still
      (subst (λ (t : List ℕ). Appends (g.K.Sink.held c.play_load.new.out) (g.K.Sink.held c.put_all.new.out) t) (summary_is c.args.steps c.in_ok-counts.counts c.in_ok-text.text.items c.in_ok-counts.ensures.done.1 c.in_ok-text.ensures) (rw c.as_slice.ensures.value at c.in_ok-put_all.ensures.done)),
)
