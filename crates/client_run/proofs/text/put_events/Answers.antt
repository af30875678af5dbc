-- All events are written.
use Rattle.client_run.proofs.TextLaws.{events_end}
use Rattle.client_run.proofs.text.put_events.Goals as goal

pub returns-in-None-clause-text : goal.returns-in-None-clause-text
returns-in-None-clause-text c = events_end c.loop-place.out.items _ c.loop-place.place c.args.far.now.heard c.in-None.ensures c.loop-place.invariant.text
