-- The names so far.
use Rattle.std.proofs.Common.{◌≡◌, [], take}
use Rattle.std.specs.List.{fold}
use Rattle.table_lines.specs.Names.{with_session}
use Rattle.table_lines.proofs.names.client_names.Given as goal

abbrev pub invariant-loop-session : goal.invariant-loop-session
invariant-loop-session l = l.names.items ≡ fold with_session [] (take l.session-index l.sessions)
