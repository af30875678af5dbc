-- What is kept of lists: the first put of each place.
use Rattle.std.specs.Prelude.{ℕ, ◌≡◌, Bool, true, ◌==◌, ◌&&◌, cond, List, Option, Some, None}
use Rattle.std.specs.Map.{lookup}
use Rattle.std.specs.Str.{bytes_eq}
use Rattle.rsct_packet.specs.declared.ids.ViewId.{ViewId}
use Rattle.entry_words.specs.Wording.{entry_text}
use Rattle.record_lines.specs.declared.line.Line.{Line}
use Rattle.record_lines.specs.declared.line.Line.TheVariants as line
use Rattle.run_audit.specs.declared.places.FirstPut.{FirstPut}
use Rattle.run_audit.specs.declared.places.PlaceKey.{PlaceKey}
use Rattle.run_audit.specs.Kept.{first_given}
use Rattle.run_audit.specs.Lists.{is_list_key, same_list_key}
use Rattle.run_audit.specs.Past.{is_list}

-- a place of a list of a group in a view
pub record PlaceAt : Type 0 where
  pub view : ViewId
  pub group : List ℕ
  pub place : ℕ

abbrev pub is_place_key : PlaceAt → PlaceKey → Bool
is_place_key p key = is_list_key p.view p.group key.list && (p.place == key.place)

abbrev pub same_place_key : PlaceKey → PlaceKey → Bool
same_place_key a b = same_list_key a.list b.list && (a.place == b.place)

abbrev pub first_put_at : PlaceAt → Line → ℕ → Option FirstPut
first_put_at p (line.Put m u h i e) number = cond (is_list p.view p.group u h && (i == p.place)) (Some (record { text = entry_text e; number = number })) None
first_put_at p _ number = None

-- the entries are the first puts of places
abbrev pub ArePlaces : List Line → List (PlaceKey × FirstPut) → Type 0
ArePlaces ls es = (p : PlaceAt) → lookup (is_place_key p) es ≡ first_given (first_put_at p) ls

unfoldable pub line_of : Option FirstPut → Option ℕ
line_of None = None
line_of (Some x) = Some x.number

-- the entry of this text is that of the place, where it has one
unfoldable pub is_entry_there : List ℕ → Option FirstPut → Bool
is_entry_there text None = true
is_entry_there text (Some x) = bytes_eq text x.text
