-- The first of them, and then the others.
use Rattle.std.proofs.Common.{ℕ, List, ◌∙◌, ap}
use Rattle.std.specs.Map.{lookup}
use Rattle.run_audit.specs.Lists.{RowAt, is_row_key}
use Rattle.run_audit.proofs.PassLaws.{counts_none, counts_next}
use Rattle.run_audit.proofs.passing.+are_counts_same.Goals as goal

pub returns-in-empty : goal.returns-in-empty
returns-in-empty t c = counts_none c.args.rows.now c.args.node c.args.other c.args.view c.args.groups.now c.in-empty.len_below

pub returns-in_ok-later-in-len1-up : goal.returns-in_ok-later-in-len1-up
returns-in_ok-later-in-len1-up t c =
    let at : ℕ → List ℕ → RowAt = λ n g. record { node = n; view = c.args.view; group = g } in
    c.are_both.ensures
    ∙ counts_next c.args.rows.now c.args.node c.args.other c.args.view c.args.groups.now c.first-item.result c.in_ok-one-in-len1-up.one c.in_ok-two-in-len1-up.two c.is_same_last.result c.in_ok-later-in-len1-up.later c.in-len1-up.len_at_least c.first-item.is
    (c.in_ok-one-in-len1-up.ensures ∙ ap (λ g. lookup (is_row_key (at c.args.node g)) c.args.rows.now) c.bytes.ensures.value) (c.in_ok-two-in-len1-up.ensures ∙ ap (λ g. lookup (is_row_key (at c.args.other g)) c.args.rows.now) c.bytes-in-len1-up.ensures.value) c.is_same_last.ensures
    c.in_ok-later-in-len1-up.ensures
