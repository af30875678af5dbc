use Rattle.entry_words.proofs.AttrLaws.{number_by_tag}
use Rattle.entry_words.proofs.attrs.AttrKey.number.Goals as goal

pub returns : goal.returns
returns c = number_by_tag c.args.self
