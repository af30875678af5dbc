use Rattle.std.proofs.Common.{ℕ, List, ◌++◌, sym, ◌∙◌, ap, append-nil}
use Rattle.net_script.proofs.TextLaws.{hidden_text}
use Rattle.net_script.proofs.records.put_record.Goals as goal

pub returns-else-shows : goal.returns-else-shows
returns-else-shows c =
    sym (ap (λ (t : List ℕ). c.args.text.now.items ++ t) (hidden_text c.args.kinds c.args.happened.now (sym c.shows.ensures ∙ c.if-shows.false)) ∙ append-nil c.args.text.now.items)
