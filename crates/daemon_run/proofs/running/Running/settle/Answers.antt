-- What the node left is written and sent, or a front of it.
use Rattle.std.proofs.Common.{◌≡◌, ◌∙◌}
use Rattle.link_use.proofs.SendLaws.{on_err}
use Rattle.daemon_model.proofs.MadeLaws.{all_made}
use Rattle.daemon_run.specs.Doing.{left_doings}
use Rattle.daemon_run.proofs.FailLaws.{unwritten_by}
use Rattle.daemon_run.proofs.StepLaws.{records_left, left_made, left_front, left_fails, settles}
use Rattle.daemon_run.proofs.running.Running.settle.Goals as goal

pub returns-in_err-sent-clause-broke : goal.returns-in_err-sent-clause-broke
returns-in_err-sent-clause-broke g c =
    let recorded : c.as_slice.result.now ≡ c.args.self.now.node.core.records = c.as_slice.ensures ∙ records_left c.args.self.now c.take_sends-sends.new.self c.take_records-records.result c.take_sends-sends.ensures.left c.take_records-records.ensures.taken in
    let sent : c.as_slice-2.result.now ≡ c.args.self.now.node.core.sends = c.as_slice-2.ensures ∙ c.take_sends-sends.ensures.taken in
    on_err c.from_residual.result (left_front c.args.self.now c.as_slice-2.result.now c.as_slice.result.now _ _ sent recorded c.in_err-sent.ensures.broke)

pub returns-in_err-sent-clause-unwritten : goal.returns-in_err-sent-clause-unwritten
returns-in_err-sent-clause-unwritten g c =
    let recorded : c.as_slice.result.now ≡ c.args.self.now.node.core.records = c.as_slice.ensures ∙ records_left c.args.self.now c.take_sends-sends.new.self c.take_records-records.result c.take_sends-sends.ensures.left c.take_records-records.ensures.taken in
    let sent : c.as_slice-2.result.now ≡ c.args.self.now.node.core.sends = c.as_slice-2.ensures ∙ c.take_sends-sends.ensures.taken in
    unwritten_by c.from_residual.result _ c.from_residual.ensures
    (λ e. left_fails c.args.self.now c.take_sends-sends.new.self c.take_records-records.new.self c.write_and_send.new.outbox c.as_slice-2.result.now c.as_slice.result.now _ _ c.take_sends-sends.ensures.left c.take_records-records.ensures.left sent recorded (c.in_err-sent.ensures.unwritten e))

pub returns-in_err-note-clause-broke : goal.returns-in_err-note-clause-broke
returns-in_err-note-clause-broke g c =
    let recorded : c.as_slice.result.now ≡ c.args.self.now.node.core.records = c.as_slice.ensures ∙ records_left c.args.self.now c.take_sends-sends.new.self c.take_records-records.result c.take_sends-sends.ensures.left c.take_records-records.ensures.taken in
    let sent : c.as_slice-2.result.now ≡ c.args.self.now.node.core.sends = c.as_slice-2.ensures ∙ c.take_sends-sends.ensures.taken in
    on_err c.from_residual-in_err-note.result (all_made _ _ (left_doings c.args.self.now) (left_made c.args.self.now c.as_slice-2.result.now c.as_slice.result.now _ _ sent recorded c.in_ok-sent.ensures.done))

pub returns-clause-done : goal.returns-clause-done
returns-clause-done g c =
    let recorded : c.as_slice.result.now ≡ c.args.self.now.node.core.records = c.as_slice.ensures ∙ records_left c.args.self.now c.take_sends-sends.new.self c.take_records-records.result c.take_sends-sends.ensures.left c.take_records-records.ensures.taken in
    let noted : c.as_slice-3.result.now ≡ c.args.self.now.node.core.records = c.as_slice-3.ensures ∙ records_left c.args.self.now c.take_sends-sends.new.self c.take_records-records.result c.take_sends-sends.ensures.left c.take_records-records.ensures.taken in
    let sent : c.as_slice-2.result.now ≡ c.args.self.now.node.core.sends = c.as_slice-2.ensures ∙ c.take_sends-sends.ensures.taken in
    settles c.args.calling c.args.self.now c.note.new.self c.take_sends-sends.new.self c.take_records-records.new.self c.write_and_send.new.outbox c.in_ok-sent.sent c.saturating_add-total.result c.as_slice-2.result.now c.as_slice-3.result.now _ _ c.take_sends-sends.ensures.left c.take_records-records.ensures.left sent noted
    c.in_ok-sent.ensures.number c.in_ok-sent.ensures.count c.saturating_add-total.ensures c.in_ok-note.ensures.noted (left_made c.args.self.now c.as_slice-2.result.now c.as_slice.result.now _ _ sent recorded c.in_ok-sent.ensures.done)
