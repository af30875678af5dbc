-- How many bytes an entry is spelled in.
use Rattle.std.specs.Prelude.{ℕ, ◌+◌, ◌*◌, ◌^◌, List, length, Option, Some, None, nat_lt, if◌then◌else◌}
use Rattle.group_attr.specs.declared.attrs.Attrs.{Attrs}
use Rattle.proposal_core.specs.declared.proposal.Proposal.{Proposal}
use Rattle.proposal_core.specs.declared.proposal.Proposal.TheVariants.{Join, Leave, Fail, Expel, State, Message, Attributes, Reflect}
use Rattle.proposal_core.specs.declared.entry.Closed.{Closed}
use Rattle.proposal_core.specs.declared.entry.Entry.{Entry}
use Rattle.proposal_core.specs.declared.entry.Entry.TheVariants.{Once, Begin, Phase, Approve, Reject, Late}

-- a name begins with its length, which is not 0
unfoldable pub name_option_len : Option (List ℕ) → ℕ
name_option_len None = 1
name_option_len (Some name) = 1 + length name

unfoldable pub text_option_len : Option (List ℕ) → ℕ
text_option_len None = 1
text_option_len (Some text) = 3 + length text

unfoldable pub number_option_len : Option ℕ → ℕ
number_option_len None = 1
number_option_len (Some n) = 5

-- phases 1, batch 1, default 1, limit 2, source phases 1, source limit 2, merge 1
unfoldable pub attrs_len : Attrs → ℕ
attrs_len a = 9 + name_option_len a.source

-- a provider has 11 bytes, a view 9, a protocol 13
unfoldable pub proposal_len : Proposal → ℕ
proposal_len (Join ps attrs n) = 2 + 11 * length ps + attrs_len attrs + number_option_len n
proposal_len (Leave p r) = 16
proposal_len (Fail out) = 2 + 12 * length out
proposal_len (Expel p r out) = 17 + 11 * length out
proposal_len (State p r value) = 18 + length value
proposal_len (Message p r bytes) = 18 + length bytes
proposal_len (Attributes p r attrs) = 16 + attrs_len attrs
proposal_len (Reflect view place value) = 16 + length value

unfoldable pub closed_len : Closed → ℕ
closed_len c = 17 + 12 * length c.rows + text_option_len c.value + text_option_len c.message

unfoldable pub entry_len : Entry → ℕ
entry_len (Once x) = 1 + proposal_len x
entry_len (Begin x) = 1 + proposal_len x
entry_len (Phase c) = closed_len c
entry_len (Approve c) = closed_len c
entry_len (Reject c) = closed_len c
entry_len (Late proto phase ps) = 17 + 11 * length ps

-- a number where it is at most 4,294,967,295
abbrev pub in_u32 : ℕ → Option ℕ
in_u32 n = if nat_lt n (2 ^ 32) then Some n else None

-- opens each word of this file, for a computation
unfoldable pub sizes_opens : Unit {0}
unfolding name_option_len text_option_len number_option_len attrs_len proposal_len closed_len entry_len
sizes_opens = tt
