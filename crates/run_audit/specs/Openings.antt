-- What is kept of phases that open: each node's last put that opens one, and who heard which open.
use Rattle.std.specs.Prelude.{ℕ, ◌≡◌, ◌+◌, ◌==◌, ◌&&◌, List, cond, Option, Some, None, is_some}
use Rattle.std.specs.Map.{lookup}
use Rattle.rsct_packet.specs.declared.ids.ProtoId.{ProtoId}
use Rattle.rsct_packet.specs.declared.ids.ViewId.{ViewId}
use Rattle.proposal_core.specs.declared.entry.Entry.{Entry}
use Rattle.proposal_core.specs.declared.entry.Entry.TheVariants as entry
use Rattle.record_lines.specs.declared.line.Line.{Line}
use Rattle.record_lines.specs.declared.line.Line.TheVariants as line
use Rattle.run_audit.specs.declared.keys.CastKey.{CastKey}
use Rattle.run_audit.specs.declared.lists.RowKey.{RowKey}
use Rattle.run_audit.specs.declared.openings.Opening.{Opening}
use Rattle.run_audit.specs.declared.openings.OpenPut.{OpenPut}
use Rattle.run_audit.specs.Keys.{provider_of, view_at, same_cast_key}
use Rattle.run_audit.specs.Kept.{last_given}
use Rattle.run_audit.specs.Lists.{RowAt, is_row_key}
use Rattle.run_audit.specs.Past.{is_list}
use Rattle.run_audit.specs.Table.{heard_open}

-- the phase that an entry at this place opens
unfoldable pub opening_of : ViewId → ℕ → Entry → Option Opening
opening_of v i (entry.Begin x) = Some (record { proto = record { view = v; place = i }; phase = 1 })
opening_of v i (entry.Phase c) = Some (record { proto = c.proto; phase = c.phase + 1 })
opening_of v i _ = None

unfoldable pub open_put : ℕ → ℕ → Option Opening → Option OpenPut
open_put i number None = None
open_put i number (Some o) = Some (record { place = i; opening = o; number = number })

abbrev pub open_put_at : RowAt → Line → ℕ → Option OpenPut
open_put_at r (line.Put m u h i e) number = cond ((m == r.node) && is_list r.view r.group u h) (open_put i number (opening_of u i e)) None
open_put_at r _ number = None

-- the entries are the last puts of nodes that open a phase
abbrev pub AreOpenings : List Line → List (RowKey × OpenPut) → Type 0
AreOpenings ls es = (r : RowAt) → lookup (is_row_key r) es ≡ last_given (open_put_at r) ls

unfoldable pub open_line : Option OpenPut → Option ℕ
open_line None = None
open_line (Some o) = Some o.number

-- what the put at this place opens
unfoldable pub opened_at : ℕ → Option OpenPut → Option Opening
opened_at i None = None
opened_at i (Some o) = cond (o.place == i) (Some o.opening) None

-- the protocol of a key
abbrev pub proto_of : CastKey → ProtoId
proto_of k = record { view = view_at k.view; place = k.place }

-- the entries are the phases that providers heard open
abbrev pub AreHeardOpen : List Line → List (CastKey × ℕ) → Type 0
AreHeardOpen ls es = (q : CastKey) → is_some (lookup (same_cast_key q) es) ≡ heard_open (provider_of q.provider) (proto_of q) q.phase ls
