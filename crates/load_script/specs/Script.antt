-- The script of a load.
use Rattle.std.specs.Prelude.{ℕ, true, []}
use Rattle.node_state.specs.declared.config.Mode.TheVariants as mode
use Rattle.world_model.specs.declared.script.Script.{Script}
use Rattle.world_model.specs.Load.{eight, settings_of, load_lines}

-- the script that a load of n steps generates; no bytes of calls are kept for it
abbrev pub load_script : ℕ → Script
load_script n = record { config = settings_of mode.Asked eight; begun = true; lines = load_lines n; texts = [] }
