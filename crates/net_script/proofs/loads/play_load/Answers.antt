-- A client that is made of a votes word votes just as it says.
use Rattle.std.proofs.Common.{Ok, Err, refl}
use Rattle.node_state.specs.declared.config.Mode.TheVariants as mode
use Rattle.world_model.specs.Load.{eight, settings_of}
use Rattle.net_script.proofs.PlayLaws.{opened}
use Rattle.net_script.proofs.LoadLaws.{load_done, load_still, load_past}
use Rattle.net_script.proofs.loads.play_load.Goals as goal

pub returns-in-Ok-clause-done : goal.returns-in-Ok-clause-done
returns-in-Ok-clause-done g c =
    load_done (λ items. refl) _ _ c.args.limit (record { world = c.in_ok-world.world; cuts = c.new-2.result; counts = c.none.result; text = c.new-3.result }) c.play_steps.new.stage c.args.steps c.new.new.out
    (opened (settings_of mode.Asked eight) c.args.limit (record { world = c.in_ok-world.world; cuts = c.new-2.result; counts = c.none.result; text = c.new-3.result }) c.new-records.result c.new.new.out c.new-records.ensures c.new-2.ensures (rw c.load_settings.ensures at c.in_ok-world.ensures.goes)) c.new-3.ensures.items (rw c.load_settings.ensures at c.in_ok-world.ensures.hears) c.none.ensures (rw c.none-2.ensures at c.in-Ok.ensures.outcome)

pub returns-in-Ok-clause-still : goal.returns-in-Ok-clause-still
returns-in-Ok-clause-still g c =
    load_still (Ok tt) (λ items. refl) _ _ c.args.limit (record { world = c.in_ok-world.world; cuts = c.new-2.result; counts = c.none.result; text = c.new-3.result }) c.play_steps.new.stage c.args.steps c.new.new.out
    (opened (settings_of mode.Asked eight) c.args.limit (record { world = c.in_ok-world.world; cuts = c.new-2.result; counts = c.none.result; text = c.new-3.result }) c.new-records.result c.new.new.out c.new-records.ensures c.new-2.ensures (rw c.load_settings.ensures at c.in_ok-world.ensures.goes)) c.new-3.ensures.items (rw c.load_settings.ensures at c.in_ok-world.ensures.hears) (rw c.none-2.ensures at c.in-Ok.ensures.outcome)

pub returns-clause-kept : goal.returns-clause-kept
returns-clause-kept g c n is =
    load_past (λ items. refl) c.in-Err.e n _ _ c.args.limit (record { world = c.in_ok-world.world; cuts = c.new-2.result; counts = c.none.result; text = c.new-3.result }) c.play_steps.new.stage c.args.steps c.new.new.out (cc is)
    (opened (settings_of mode.Asked eight) c.args.limit (record { world = c.in_ok-world.world; cuts = c.new-2.result; counts = c.none.result; text = c.new-3.result }) c.new-records.result c.new.new.out c.new-records.ensures c.new-2.ensures (rw c.load_settings.ensures at c.in_ok-world.ensures.goes)) c.new-3.ensures.items (rw c.none-2.ensures at c.in-Err.ensures.outcome)

pub returns-clause-still : goal.returns-clause-still
returns-clause-still g c =
    load_still (Err c.in-Err.e) (λ items. refl) _ _ c.args.limit (record { world = c.in_ok-world.world; cuts = c.new-2.result; counts = c.none.result; text = c.new-3.result }) c.play_steps.new.stage c.args.steps c.new.new.out
    (opened (settings_of mode.Asked eight) c.args.limit (record { world = c.in_ok-world.world; cuts = c.new-2.result; counts = c.none.result; text = c.new-3.result }) c.new-records.result c.new.new.out c.new-records.ensures c.new-2.ensures (rw c.load_settings.ensures at c.in_ok-world.ensures.goes)) c.new-3.ensures.items (rw c.load_settings.ensures at c.in_ok-world.ensures.hears) (rw c.none-2.ensures at c.in-Err.ensures.outcome)
