-- The lines of the copies of a table.
use Rattle.std.specs.Prelude.{ℕ, ◌==◌, ◌++◌, List, [], Option, Some, None, codes, decimal, flat_map, if◌then◌else◌}
use Rattle.std.specs.Str.{bytes_eq}
use Rattle.rsct_packet.specs.declared.ids.ProviderId.{ProviderId}
use Rattle.value_words.specs.Wording.{word, view_text, provider_text, joined, byte_text, wording_opens}
use Rattle.agreed_table.specs.Pairs.{Pair, Pairs}
use Rattle.table_client.specs.declared.copies.TableCopy.{TableCopy}
use Rattle.table_client.specs.Rules.{Copied}
use Rattle.table_client.specs.Shown.{shown_at}

-- a byte of a key or a value: as in a value, but that `,` and `=` are written out
unfoldable pub part_byte : ℕ → List ℕ
part_byte b = if b == 44 then codes "%2C" else if b == 61 then codes "%3D" else byte_text b

unfoldable pub part_text : List ℕ → List ℕ
part_text bytes = flat_map part_byte bytes

unfoldable pub pair_text : Pair → List ℕ
pair_text e = part_text e.0 ++ codes "=" ++ part_text e.1

-- pairs, each behind a comma
abbrev pub more_text : Pairs → List ℕ
more_text pairs = flat_map (λ e. codes "," ++ pair_text e) pairs

-- the pairs in order, joined by commas, `-` for none
unfoldable pub pairs_text : Pairs → List ℕ
pairs_text pairs = joined pair_text pairs

-- whether the map is whole, and its pairs
unfoldable pub map_text : Option Pairs → List ℕ
map_text None = codes "part -"
map_text (Some pairs) = codes "whole " ++ pairs_text pairs

unfoldable pub copy_line : ProviderId → TableCopy → List ℕ
copy_line p copy = codes "table " ++ word (provider_text p) ++ word (view_text copy.view) ++ word (decimal copy.len) ++ map_text copy.map ++ codes "\n"

-- that of a copy, with its provider and its group, where it is of this group
unfoldable pub line_of : List ℕ → ProviderId × List ℕ × TableCopy → List ℕ
line_of g x = if bytes_eq x.1 g then copy_line x.0 x.2 else []

-- the lines of the copies of a group, in their order
unfoldable pub copies_text : List ℕ → List Copied → List ℕ
copies_text g copies = flat_map (λ c. line_of g (shown_at c)) copies

-- opens each word of this file, for a computation
unfoldable pub lines_open : Unit {0}
unfolding wording_opens part_byte part_text pair_text pairs_text map_text copy_line line_of copies_text
lines_open = tt
