-- Attributes, word by word.
use Rattle.std.specs.Prelude.{ℕ, ◌==◌, ◌++◌, List, [], ◌∷◌, Option, Some, None, if◌then◌else◌}
use Rattle.std.specs.List.{list_any}
use Rattle.value_words.specs.Words.{◌>>=◌}
use Rattle.entry_words.specs.Words.{attr_row, key_number, key_word, before_equals, after_equals}
use Rattle.entry_words.specs.declared.attrs.AttrKey.{AttrKey}
use Rattle.entry_words.specs.declared.attrs.AttrsRead.{AttrsRead}

-- what the word sets, where it is not set yet
unfoldable pub new_key : List ℕ → List ℕ → Option AttrKey
new_key seen w = do
  k ← key_word (before_equals w)
  if list_any (λ n. n == key_number k) seen then None else Some k

-- with the attribute of one word more
unfoldable pub attr_step : AttrsRead → List ℕ → Option AttrsRead
attr_step r w = do
  k ← new_key r.seen w
  v ← after_equals w
  b ← (attr_row k).set r.attrs v
  Some (record { attrs = b; seen = r.seen ++ key_number k ∷ [] })
