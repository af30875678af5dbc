-- The first cast of each provider in each phase, as it is kept.
use Rattle.std.specs.Prelude.{ℕ, ◌≡◌, Bool, true, false, cond, List, Option, Some, None}
use Rattle.std.specs.List.{list_all}
use Rattle.std.specs.Map.{lookup}
use Rattle.rsct_packet.specs.declared.ids.ProtoId.{ProtoId}
use Rattle.proposal_core.specs.declared.entry.Closed.{Closed}
use Rattle.proposal_core.specs.declared.entry.Row.{Row}
use Rattle.proposal_core.specs.declared.entry.RowVote.{RowVote}
use Rattle.proposal_core.specs.declared.entry.RowVote.TheVariants as row_vote
use Rattle.proposal_core.specs.declared.entry.Vote.{Vote}
use Rattle.record_lines.specs.declared.line.Line.{Line}
use Rattle.record_lines.specs.declared.line.Line.TheVariants as line
use Rattle.run_audit.specs.declared.casts.FirstCast.{FirstCast}
use Rattle.run_audit.specs.declared.keys.CastKey.{CastKey}
use Rattle.run_audit.specs.Keys.{cast_key, same_cast_key}
use Rattle.run_audit.specs.Kept.{first_given}
use Rattle.run_audit.specs.Table.{same_vote}

abbrev pub cast_at : CastKey → Line → ℕ → Option FirstCast
cast_at key (line.Cast p o k v x) number = cond (same_cast_key (cast_key p o k) key) (Some (record { vote = v; number = number })) None
cast_at key _ number = None

-- the entries are the first casts
abbrev pub AreCasts : List Line → List (CastKey × FirstCast) → Type 0
AreCasts ls es = (key : CastKey) → lookup (same_cast_key key) es ≡ first_given (cast_at key) ls

unfoldable pub line_of : Option FirstCast → Option ℕ
line_of None = None
line_of (Some c) = Some c.number

-- this vote was cast
unfoldable pub is_vote : Vote → Option FirstCast → Bool
is_vote v None = false
is_vote v (Some c) = same_vote c.vote v

-- each row that has a cast vote has it from a cast
unfoldable pub row_kept : List (CastKey × FirstCast) → ProtoId → ℕ → Row → RowVote → Bool
row_kept es o k r (row_vote.Cast v) = is_vote v (lookup (same_cast_key (cast_key r.provider o k)) es)
row_kept es o k r _ = true

unfoldable pub rows_kept : List (CastKey × FirstCast) → Closed → Bool
rows_kept es c = list_all (λ (r : Row). row_kept es c.proto c.phase r r.vote) c.rows
