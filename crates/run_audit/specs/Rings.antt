-- The first line of each ring, as it is kept.
use Rattle.std.specs.Prelude.{ℕ, ◌≡◌, Bool, true, ◌==◌, ◌&&◌, ◌||◌, cond, List, Option, Some, None}
use Rattle.std.specs.Map.{lookup}
use Rattle.std.specs.Str.{bytes_eq}
use Rattle.rsct_packet.specs.declared.ids.RingId.{RingId}
use Rattle.rsct_packet.specs.Ids.{last_u32}
use Rattle.record_lines.specs.declared.line.Line.{Line}
use Rattle.record_lines.specs.declared.line.Line.TheVariants as line
use Rattle.run_audit.specs.Kept.{first_given}
use Rattle.run_audit.specs.Table.{has_node}
use Rattle.run_audit.specs.declared.rings.FirstRing.{FirstRing}
use Rattle.run_audit.specs.declared.rings.RingKey.{RingKey}

abbrev pub key_of : ℕ → RingId → RingKey
key_of net id = record { network = net; leader = id.leader; inc = id.inc; number = id.number }

abbrev pub same_key : RingKey → RingKey → Bool
same_key a b = (a.network == b.network) && ((a.leader == b.leader) && ((a.inc == b.inc) && (a.number == b.number)))

abbrev pub ring_at : RingKey → Line → ℕ → Option FirstRing
ring_at k (line.Ring n net id ms m) number = cond (same_key (key_of net id) k) (Some (record { members = ms; number = number })) None
ring_at k _ number = None

-- the entries are the first lines of rings
abbrev pub AreRings : List Line → List (RingKey × FirstRing) → Type 0
AreRings ls es = (k : RingKey) → lookup (same_key k) es ≡ first_given (ring_at k) ls

-- it has no first line, or one with these members
unfoldable pub like_first : Option FirstRing → List ℕ → Bool
like_first None ms = true
like_first (Some r) ms = bytes_eq ms r.members

-- the line keeps the rule on rings, where this is the ring's first line
unfoldable pub ring_keeps : Option FirstRing → ℕ → RingId → List ℕ → ℕ → Bool
ring_keeps first n id ms m = has_node ms n && (has_node ms id.leader && (has_node ms m && (id.number == last_u32 || like_first first ms)))

unfoldable pub line_of : Option FirstRing → Option ℕ
line_of None = None
line_of (Some r) = Some r.number
