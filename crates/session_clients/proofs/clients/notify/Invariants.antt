use Rattle.std.proofs.Common.{◌≡◌, ◌++◌, List, Option, length, take}
use Rattle.std.specs.Prelude.{map}
use Rattle.client_callbacks.specs.declared.ballot.Filled.{Filled}
use Rattle.session_clients.specs.Clients.{StandAfter, KeepsAllBut}
use Rattle.session_state.specs.HandOn.{casts_of}
use Rattle.session_clients.specs.Notices.{notified, hears_at, Fillings}
use Rattle.session_clients.proofs.clients.notify.Given as goal

abbrev pub invariant-loop-p : goal.invariant-loop-p
invariant-loop-p g l = record {
  scripts : map g.C.Callbacks.script l.clients.items ≡ map g.C.Callbacks.script l.fn.clients.items;
  length : length l.clients.items ≡ length l.fn.clients.items;
  others : KeepsAllBut (hears_at l.state l.providers) l.fn.clients.items l.clients.items;
  casts : (bs : List (Option Filled)) × Fillings (map g.C.Callbacks.script l.fn.clients.items) l.state l.entry.entry.now l.entry.after.now (take l.p-index l.providers) bs × (l.casts ≡ l.initial.casts ++ casts_of l.entry.entry.now l.entry.after.now l.state.level (take l.p-index l.providers) bs)
      × StandAfter g.C.Callbacks.stands_for l.fn.clients.items l.clients.items (notified l.state l.entry.view l.entry.group.now l.entry.place l.entry.entry.now l.entry.after.now (casts_of l.entry.entry.now l.entry.after.now l.state.level (take l.p-index l.providers) bs));
}
