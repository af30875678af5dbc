-- One subscription after another.
use Rattle.std.proofs.Common.{◌++◌, ◌∷◌, [], length, map, refl, sym, ap, ◌∙◌, append-nil, append_assoc}
use Rattle.subscribe_core.specs.Subs.{is_of_group}
use Rattle.entry_delivery.specs.Telling.{note_in, note_handing}
use Rattle.entry_delivery.proofs.DoingLaws.{receive_nothing, receive_then}
use Rattle.entry_delivery.proofs.ReceiveLaws.{kept_more, left_more}
use Rattle.entry_delivery.proofs.notes.note_all.Goals.{then-eq+in_ok-note_one, else-eq}
use Rattle.entry_delivery.proofs.notes.note_all.Goals as goal

pub loop-u-init : goal.loop-u-init
loop-u-init g c = (refl, refl, receive_nothing _ _, sym (append-nil _))

pub loop-u-preserved : goal.loop-u-preserved
loop-u-preserved g c =
    let us = c.args.sessions.now.subs.live in
    let test = is_of_group c.args.news.now.group.now in
    let handing = note_handing c.args.news.now.node c.args.news.now.view c.args.sessions.now c.args.news.now.group.now c.args.news.now.place c.args.news.now.state.now in
    let happens = note_in c.args.news.now.node c.args.news.now.view c.args.sessions.now c.args.news.now.group.now c.args.news.now.place c.args.news.now.state.now in
    let within = rw c.live-u-items.ensures.value at c.loop-u-test.true in
    let is = rw c.live-u-items.ensures.value at c.u-item.is in
    let tests = rw (c.as_slice.ensures, c.bytes.ensures.value) at c.eq.ensures in
    elim c.if-eq.branch [
      | then-eq+in_ok-note_one w ↦ (
        ap (λ v. length v.items) w.clients-is ∙ (w.in_ok-note_one.ensures.length ∙ c.loop-u.invariant.0),
        ap (λ v. map g.C.Callbacks.script v.items) w.clients-is ∙ (w.in_ok-note_one.ensures.scripts ∙ c.loop-u.invariant.1),
        rw (w.clients-is, kept_more test handing us c.loop-u.u-index c.u-item.result within is (sym tests ∙ w.if-eq.true))
            (receive_then _ _ _ _ _ _ c.loop-u.invariant.2 w.in_ok-note_one.ensures.received),
        w.records-is
            ∙ (w.in_ok-note_one.ensures.records
            ∙ (ap (λ rs. rs ++ happens c.u-item.result ∷ []) c.loop-u.invariant.3
            ∙ (append_assoc c.args.records.now _ _
            ∙ ap (λ rs. c.args.records.now ++ rs) (sym (kept_more test happens us c.loop-u.u-index c.u-item.result within is (sym tests ∙ w.if-eq.true)))))),
      )
      | else-eq w ↦ (
        ap (λ v. length v.items) w.clients-is ∙ c.loop-u.invariant.0,
        ap (λ v. map g.C.Callbacks.script v.items) w.clients-is ∙ c.loop-u.invariant.1,
        rw (w.clients-is, left_more test handing us c.loop-u.u-index c.u-item.result within is (sym tests ∙ w.if-eq.false)) c.loop-u.invariant.2,
        w.records-is ∙ (c.loop-u.invariant.3 ∙ ap (λ rs. c.args.records.now ++ rs) (sym (left_more test happens us c.loop-u.u-index c.u-item.result within is (sym tests ∙ w.if-eq.false)))),
      )
    ]
