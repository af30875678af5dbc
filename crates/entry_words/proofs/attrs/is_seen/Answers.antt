use Rattle.std.proofs.Common.{ap, ◌∙◌, ◌==◌}
use Rattle.std.specs.List.{list_any}
use Rattle.entry_words.proofs.attrs.is_seen.Goals as goal

pub returns : goal.returns
returns c = c.has_number.ensures ∙ ap (λ k. list_any (λ n. n == k) c.args.seen.now) c.number.ensures
