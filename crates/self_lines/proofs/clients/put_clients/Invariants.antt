-- The lines so far.
use Rattle.std.proofs.Common.{◌≡◌, ◌++◌, take}
use Rattle.std.specs.Prelude.{flat_map}
use Rattle.daemon_model.specs.SelfLines.{client_line}
use Rattle.self_lines.proofs.clients.put_clients.Given as goal

abbrev pub invariant-loop-session : goal.invariant-loop-session
invariant-loop-session l = l.out.items ≡ l.initial.out.items ++ flat_map (client_line l.sessions l.state) (take l.session-index l.session-items)
