-- The view is entered, and then told of and sent in.
use Rattle.std.proofs.Common.{◌∙◌}
use Rattle.std.proofs.lemmas.Result.{on_ok_weaker}
use Rattle.entry_delivery.proofs.DoingLaws.{receive_then}
use Rattle.group_leading.proofs.WorkLaws.{on_ok_both}
use Rattle.node_views.proofs.BaseOrder.{leaders_differ}
use Rattle.node_views.proofs.WorkLaws.{arrive_does, arrived_work, entered_aligned, stays_aligned}
use Rattle.node_views.proofs.entry.arrive.Goals as goal

pub start_anew-requires-clause-differ : goal.start_anew-requires-clause-differ
start_anew-requires-clause-differ g c = leaders_differ c.args.bases.now c.requires.order

pub dissolve_sides-requires : goal.dissolve_sides-requires
dissolve_sides-requires g c = record { aligned = entered_aligned c.args.core.now c.start_anew.new.core c.args.install c.args.bases.now c.args.clients.now.items c.in_ok-rows.ensures.core c.requires.work }

pub note_bases-requires : goal.note_bases-requires
note_bases-requires g c = record {
  aligned =
      stays_aligned c.start_anew.new.core c.dissolve_sides.new.core c.args.clients.now.items c.dissolve_sides.new.clients.items c.in_ok-dissolve_sides.ensures.stays c.dissolve_sides.ensures.length
      (entered_aligned c.args.core.now c.start_anew.new.core c.args.install c.args.bases.now c.args.clients.now.items c.in_ok-rows.ensures.core c.requires.work);
}

pub returns-clause-work : goal.returns-clause-work
returns-clause-work g c =
    on_ok_weaker c.send_owed.result
    (λ keeps. arrived_work c.args.core.now c.start_anew.new.core c.dissolve_sides.new.core c.note_bases.new.core c.send_taken.new.core c.send_owed.new.core c.args.install c.args.bases.now c.args.clients.now.items c.note_bases.new.clients.items
    c.requires.work c.requires.order c.in_ok-rows.ensures.core c.in_ok-dissolve_sides.ensures.stays c.in_ok-note_bases.ensures.stays c.in_ok-send_taken.ensures.keeps keeps (c.note_bases.ensures.length ∙ c.dissolve_sides.ensures.length))
    c.send_owed.ensures.keeps

pub returns-clause-does : goal.returns-clause-does
returns-clause-does g c =
    on_ok_weaker c.send_owed.result
    (λ owing. arrive_does _ _ _ _ (receive_then _ _ _ _) c.args.core.now c.start_anew.new.core c.dissolve_sides.new.core c.note_bases.new.core c.send_taken.new.core c.send_owed.new.core c.args.install c.args.bases.now c.as_slice.result.now
    (cc (c.as_slice.ensures.value, c.rows.view_is, c.in_ok-rows.ensures.rows)) c.requires.order c.in_ok-rows.ensures.core c.in_ok-dissolve_sides.ensures.does (rw c.in_ok-dissolve_sides.ensures.scripts at c.in_ok-note_bases.ensures.does)
    c.in_ok-send_taken.ensures.rule c.in_ok-send_taken.ensures.keeps owing.0 owing.1)
    (on_ok_both _ _ c.send_owed.result c.send_owed.ensures.rule c.send_owed.ensures.keeps)
