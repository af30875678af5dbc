-- Each script that is read may be played, for whoever plays one; and what holds in any case holds where a call succeeds.
use Rattle.std.proofs.Common.{Result, Ok, Err}
use Rattle.std.specs.Result.{OnOk}
pub use Rattle.net_script.proofs.SafeLaws.{scripts_may_play}

pub always : {T E P : Type 0} (r : Result T E) → P → OnOk r P
always (Ok x) p = p
always (Err e) p = tt
