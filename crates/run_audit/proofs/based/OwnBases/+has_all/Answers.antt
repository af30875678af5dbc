-- The first of them, and then the others.
use Rattle.std.proofs.Common.{ℕ, List, ◌∙◌, ap}
use Rattle.std.specs.Map.{lookup}
use Rattle.run_audit.specs.Lists.{RowAt, is_row_key}
use Rattle.run_audit.proofs.BasedLaws.{has_none, has_next}
use Rattle.run_audit.proofs.based.OwnBases.+has_all.Goals as goal

pub returns-in-empty : goal.returns-in-empty
returns-in-empty t c = has_none c.args.self.now c.args.node c.args.view c.args.groups.now c.in-empty.len_below

pub returns-in_ok-later-in-len1-up : goal.returns-in_ok-later-in-len1-up
returns-in_ok-later-in-len1-up t c =
    let at : List ℕ → RowAt = λ g. record { node = c.args.node; view = c.args.view; group = g } in
    c.are_both.ensures
    ∙ has_next c.args.self.now c.args.node c.args.view c.args.groups.now c.first-item.result c.in_ok-line-in-len1-up.line c.is_some.result c.in_ok-later-in-len1-up.later c.in-len1-up.len_at_least c.first-item.is c.is_some.ensures
    (c.in_ok-line-in-len1-up.ensures ∙ ap (λ g. lookup (is_row_key (at g)) c.args.self.now) c.bytes.ensures.value) c.in_ok-later-in-len1-up.ensures
