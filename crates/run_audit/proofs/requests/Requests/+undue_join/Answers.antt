-- The first of them, and then the others.
use Rattle.std.proofs.Common.{◌∙◌, get_or}
use Rattle.rsct_packet.specs.declared.ids.ProviderId.{ProviderId}
use Rattle.word_laws.specs.declared.kind.Kind.TheVariants as kinds
use Rattle.run_audit.specs.Table.{is_undue}
use Rattle.run_audit.proofs.RequestLaws.{first_read, undue_none, undue_next}
use Rattle.run_audit.proofs.requests.Requests.+undue_join.Goals as goal

pub returns-in-empty : goal.returns-in-empty
returns-in-empty t c = λ ls are. undue_none (is_undue c.args.node c.args.group.now kinds.Join ls) c.args.providers.now c.in-empty.len_below

pub returns-in_ok-later-in-len1-up : goal.returns-in_ok-later-in-len1-up
returns-in_ok-later-in-len1-up t c =
    let none : ProviderId = record { node = 0; inc = 0; instance = 0; join = 0 } in
    let first : ProviderId = get_or c.args.providers.now 0 none in
    λ ls are. c.or_request.ensures
    ∙ undue_next (is_undue c.args.node c.args.group.now kinds.Join ls) c.args.providers.now first c.in_ok-here-in-len1-up.here c.in_ok-later-in-len1-up.later c.in-len1-up.len_at_least (first_read c.args.providers.now none c.in-len1-up.len_at_least) (c.in_ok-here-in-len1-up.ensures ls are)
    (c.in_ok-later-in-len1-up.ensures ls are)
