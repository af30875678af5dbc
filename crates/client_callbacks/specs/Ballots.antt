-- What ballots may be filled with, and when.
use Rattle.std.specs.Prelude.{ℕ, Bool, true, ◌==◌, ◌&&◌, ◌||◌, List, length, Option, Some, None, nat_le, is_none, if◌then◌else◌}
use Rattle.proposal_core.specs.declared.entry.Vote.{Vote}
use Rattle.client_callbacks.specs.declared.ballot.Filled.{Filled}

-- a ballot: whether a vote is asked for, the level that limits its value, and what it is filled with
pub record BallotView : Type 0 where
  pub votes : Bool
  pub level : ℕ
  pub filled : Option Filled

-- how many bytes a state value has at most at a level
abbrev pub value_limit : ℕ → ℕ
value_limit level = if level == 1 then 256 else 1024

abbrev pub message_limit : ℕ
message_limit = 1024

abbrev pub is_within : ℕ → Option (List ℕ) → Bool
is_within most None = true
is_within most (Some bytes) = nat_le (length bytes) most

abbrev pub filling : Vote → Option (List ℕ) → Option (List ℕ) → Filled
filling v value message = record { vote = v; value = value; message = message }

-- the value and the message are within their limits
abbrev pub filled_fits : ℕ → Filled → Bool
filled_fits level f = is_within (value_limit level) f.value && is_within message_limit f.message

abbrev pub is_level : ℕ → Bool
is_level level = level == 1 || level == 2

abbrev pub may_hold : Bool → ℕ → Option Filled → Bool
may_hold votes level None = true
may_hold votes level (Some f) = votes && filled_fits level f

-- a ballot is filled only where a vote is asked for, and within the limits
abbrev pub is_ballot : BallotView → Bool
is_ballot b = is_level b.level && may_hold b.votes b.level b.filled

abbrev pub new_ballot : Bool → ℕ → BallotView
new_ballot votes level = record { votes = votes; level = level; filled = None }

-- whether this can be put in
unfoldable pub can_fill : BallotView → Filled → Bool
can_fill b f = b.votes && is_none b.filled && filled_fits b.level f

-- with this put in, where it can be
unfoldable pub filled_with : BallotView → Filled → BallotView
filled_with b f = if can_fill b f then record b { filled = Some f } else b

-- opens each word of this file, for a computation
unfoldable pub ballots_opens : Unit {0}
unfolding can_fill filled_with
ballots_opens = tt
