-- The first of them, and then the others.
use Rattle.std.proofs.Common.{◌∙◌, get_or}
use Rattle.run_audit.specs.declared.leavers.Entrant.{Entrant}
use Rattle.run_audit.proofs.PassLaws.{parted_none, parted_next}
use Rattle.run_audit.proofs.RequestLaws.{first_read}
use Rattle.run_audit.proofs.passing.PutGroups.+parted.Goals as goal

pub returns-in-empty : goal.returns-in-empty
returns-in-empty t c = λ ls put rows places entries. parted_none c.args.node c.args.view ls c.args.entrants.now c.in-empty.len_below

pub returns-in_ok-later-in-len1-up : goal.returns-in_ok-later-in-len1-up
returns-in_ok-later-in-len1-up t c =
    let none : Entrant = record { node = 0; number = 0 } in
    let first : Entrant = get_or c.args.entrants.now 0 none in
    λ ls put rows places entries. c.or_number.ensures
    ∙ parted_next c.args.node c.args.view ls c.args.entrants.now first c.parted_at.result c.in_ok-later-in-len1-up.later c.in_ok-same-in-len1-up.same c.in-len1-up.len_at_least (first_read c.args.entrants.now none c.in-len1-up.len_at_least) (c.in_ok-same-in-len1-up.ensures ls put rows places entries) c.parted_at.ensures
    (c.in_ok-later-in-len1-up.ensures ls put rows places entries)
