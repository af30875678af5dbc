use Rattle.run_audit.proofs.RequestLaws.{own_begins, other_begins}
use Rattle.run_audit.proofs.requests.note_request.Goals as goal

pub returns-then-is_other : goal.returns-then-is_other
returns-then-is_other c = λ q. other_begins c.args.node c.args.number c.args.provider c.args.request q c.args.begun.now c.is_other.result c.is_other.ensures c.if-is_other.true

pub returns : goal.returns
returns c =
    λ q. own_begins c.args.node c.args.number c.args.provider c.args.request q c.args.begun.now c.is_other.result c.is_other.ensures c.request_key.result c.note.new.self c.if-is_other.false c.request_key.ensures (c.in_ok-note.ensures q)
