-- Joins that wait, and what is kept of them.
use Rattle.std.proofs.Common.{◌≡◌, List, ◌++◌, sym}
use Rattle.std.specs.Prelude.{◌||◌}
use Rattle.std.proofs.lemmas.List.Folds.{list_any-append}
use Rattle.rsct_packet.specs.declared.ids.ProviderId.{ProviderId}
use Rattle.batch_rules.specs.Waiting.{same_instance, has_instance}

pub here_or_waits : (present joins : List ProviderId) (p : ProviderId) → (has_instance present p || has_instance joins p) ≡ has_instance (present ++ joins) p
here_or_waits present joins p = sym (list_any-append (λ q. same_instance q p) present joins)
