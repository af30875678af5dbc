-- The bases of the names so far, and the last of these.
use Rattle.std.proofs.Common.{◌≡◌, ◌≤◌, length, take}
use Rattle.std.specs.Prelude.{option_copied}
use Rattle.view_state.specs.Bases.{names_in, bases_for}
use Rattle.view_bases.proofs.NameLaws.{name_before}
use Rattle.node_views.proofs.bases.bases_in.Given as goal

abbrev pub invariant-loop-k : goal.invariant-loop-k
invariant-loop-k l = record {
  bases : l.bases ≡ bases_for l.install (take l.k (names_in l.install.sources));
  name : option_copied l.last ≡ name_before (names_in l.install.sources) l.k;
  within : l.k ≤ length (names_in l.install.sources);
}
