use Rattle.std.proofs.Common.{◌≡◌, ◌+◌, ◌≤◌, ◌<◌, ◌^◌, length, take}
use Rattle.remote_session.specs.Client.{heard_with}
use Rattle.remote_session.proofs.far.hear_each.Given as goal

abbrev pub invariant-loop-line : goal.invariant-loop-line
invariant-loop-line l = record {
  same : heard_with l.heard.items l.number l.events ≡ heard_with l.initial.heard.items l.initial.number l.initial.events;
  before : take (length l.initial.heard.items) l.heard.items ≡ l.initial.heard.items;
  bound : l.number + length l.events ≤ l.first + 16;
  few : length l.initial.heard.items < 2 ^ 32 → length l.heard.items < 2 ^ 32;
}

abbrev pub decreases-loop-line : goal.decreases-loop-line
decreases-loop-line l = length l.events
