-- The lists and bases of one group, by the lines that it sees of a run: the longest list of each view, and the base that is noted
-- there.
use Rattle.std.specs.Prelude.{◌==◌, ◌&&◌, List, [], ◌∷◌, ◌++◌, length, Option, Some, None, if◌then◌else◌}
use Rattle.std.specs.Option.{option_map}
use Rattle.rsct_packet.specs.declared.ids.ViewId.{ViewId}
use Rattle.proposal_core.specs.declared.entry.Entry.{Entry}
use Rattle.table_client.specs.Maps.{Lists}
use Rattle.table_client.specs.Maps as maps
use Rattle.run_safety.specs.ViewOrder.{is_same}
use Rattle.run_safety.specs.Group.{Origin, Record, In, Put, Begins, Note, Based, Heard, Asked, Told, Line, Kept, Noted, kept}

-- an entry that is put at the end of the longest list so far makes it longer
abbrev pub longer : ViewId → Record → List Entry → List Entry
longer v (In n j u ms) old = old
longer v (Put n u i e) old = if is_same u v && (i == length old) then old ++ e ∷ [] else old
longer v Begins old = old

-- by these records, the latest first
abbrev pub log_of : ViewId → List Record → List Entry
log_of v [] = []
log_of v (r ∷ tr) = longer v r (log_of v tr)

abbrev pub noted_base : ViewId → Note → Option Origin → Option Origin
noted_base v (Based m u b) old = if is_same u v then Some b else old
noted_base v (Heard p u i e ms value) old = old
noted_base v (Asked p r x) old = old
noted_base v (Told p r u) old = old

abbrev pub base_by : ViewId → List Line → Option Origin
base_by v [] = None
base_by v (Kept r ∷ all) = base_by v all
base_by v (Noted x ∷ all) = noted_base v x (base_by v all)

abbrev pub origin_of : Origin → maps.Origin
origin_of b = record { old = b.old; len = b.len; state = b.state }

abbrev pub lists_of : List Line → Lists
lists_of all = record { list = λ v. log_of v (kept all); base = λ v. option_map origin_of (base_by v all) }
