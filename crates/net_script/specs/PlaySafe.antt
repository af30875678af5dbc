-- That the run of a script is safe, for whoever plays one.
pub use Rattle.net_script.specs.Safe.{ScriptIsSafe, KeptRunIsSafe, MayPlay}
