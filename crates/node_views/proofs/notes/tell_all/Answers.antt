-- One subscription after another.
use Rattle.std.proofs.Common.{refl, sym, ◌∙◌, append-nil}
use Rattle.node_views.specs.Arriving.{notes_at, note_handings}
use Rattle.entry_delivery.proofs.DoingLaws.{receive_nothing}
use Rattle.node_views.proofs.ToldLaws.{record_more, receive_more}
use Rattle.node_views.proofs.notes.tell_all.Goals as goal

pub loop-u-init : goal.loop-u-init
loop-u-init g c = (refl, refl, receive_nothing _ _, sym (append-nil _))

pub loop-u-preserved : goal.loop-u-preserved
loop-u-preserved g c =
    let us = c.args.sessions.now.subs.live in
    let handings = note_handings c.args.arrival.now.node c.args.arrival.now.view c.args.arrival.now.members.now c.args.sessions.now c.args.arrival.now.bases.now in
    let notes = notes_at c.args.arrival.now.node c.args.arrival.now.view c.args.arrival.now.members.now c.args.sessions.now c.args.arrival.now.bases.now in
    let within = rw c.live-u-items.ensures.value at c.loop-u-test.true in
    let is = rw c.live-u-items.ensures.value at c.u-item.is in (
      c.in_ok-tell_one.ensures.length ∙ c.loop-u.invariant.0,
      c.in_ok-tell_one.ensures.scripts ∙ c.loop-u.invariant.1,
      receive_more g.C.Callbacks.stands_for c.args.clients.now.items c.loop-u.clients.items c.tell_one.new.clients.items handings us c.loop-u.u-index c.u-item.result within is c.loop-u.invariant.2 c.in_ok-tell_one.ensures.received,
      record_more notes us c.loop-u.u-index c.u-item.result c.args.records.now c.loop-u.records c.tell_one.new.records within is c.loop-u.invariant.3 c.in_ok-tell_one.ensures.records,
    )
