use Rattle.group_codec.proofs.EntryFormat.{entry_only}
use Rattle.group_codec.proofs.entries.read_entry.Goals as goal

pub returns-clause-only : goal.returns-clause-only
returns-clause-only c = λ e h is. entry_only c.args.bytes.now _ e c.whole_entry.ensures.value h is
