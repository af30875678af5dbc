-- A copy, as it is shown.
use Rattle.std.specs.Prelude.{ℕ, List}
use Rattle.rsct_packet.specs.declared.ids.ProviderId.{ProviderId}
use Rattle.table_client.specs.declared.copies.TableCopy.{TableCopy}
use Rattle.table_client.specs.Rules.{Copied}

abbrev pub shown : Copied → TableCopy
shown c = record { view = c.view; len = c.len; map = c.map }

-- with its provider and its group
abbrev pub shown_at : Copied → ProviderId × List ℕ × TableCopy
shown_at c = (c.provider, c.group, shown c)
