use Rattle.std.proofs.Common.{◌≡◌, drop}
use Rattle.remote_session.proofs.session.drop_front.Given as goal

abbrev pub invariant-loop-i : goal.invariant-loop-i
invariant-loop-i l = l.lines.items ≡ drop l._i l.initial.lines.items
