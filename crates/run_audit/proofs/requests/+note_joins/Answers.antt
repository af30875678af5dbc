-- The first of them, and then the others.
use Rattle.std.proofs.Common.{get_or}
use Rattle.rsct_packet.specs.declared.ids.ProviderId.{ProviderId}
use Rattle.run_audit.proofs.RequestLaws.{first_read, no_joins, more_joins}
use Rattle.run_audit.proofs.requests.+note_joins.Goals as goal

pub returns-in-empty : goal.returns-in-empty
returns-in-empty t c = λ q. no_joins c.args.node c.args.number c.args.providers.now q c.args.begun.now c.in-empty.len_below

pub returns-in_ok-note_joins-in-len1-up : goal.returns-in_ok-note_joins-in-len1-up
returns-in_ok-note_joins-in-len1-up t c =
    let none : ProviderId = record { node = 0; inc = 0; instance = 0; join = 0 } in
    let first : ProviderId = get_or c.args.providers.now 0 none in
    λ q. more_joins c.args.node c.args.number c.args.providers.now first q c.args.begun.now c.note_request.new.begun c.note_joins.new.begun c.in-len1-up.len_at_least (first_read c.args.providers.now none c.in-len1-up.len_at_least) (c.in_ok-note_request-in-len1-up.ensures q)
    (c.in_ok-note_joins-in-len1-up.ensures q)
