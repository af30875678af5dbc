-- What clients that answer by what they heard keep of it, thing by thing.
use Rattle.std.specs.Prelude.{ℕ, List, [], ◌∷◌, Option, Some, None}
use Rattle.proposal_core.specs.declared.entry.Entry.{Entry}
use Rattle.proposal_core.specs.declared.entry.Entry.TheVariants.{Once, Begin, Phase, Approve, Reject, Late}
use Rattle.client_callbacks.specs.declared.ballot.Filled.{Filled}
use Rattle.client_callbacks.specs.Handed.{Handed, Notified, Informed}

-- the group's value after each entry
abbrev pub values_heard : List Handed → List (List ℕ)
values_heard [] = []
values_heard (Notified n b ∷ hs) = n.after.value ∷ values_heard hs
values_heard (Informed t ∷ hs) = values_heard hs

-- the message that the ballots of a phase leave
abbrev pub message_in : Entry → Option (List ℕ)
message_in (Once x) = None
message_in (Begin x) = None
message_in (Phase c) = c.message
message_in (Approve c) = c.message
message_in (Reject c) = c.message
message_in (Late proto phase ps) = None

abbrev pub messages_heard : List Handed → List (Option (List ℕ))
messages_heard [] = []
messages_heard (Notified n b ∷ hs) = message_in n.entry ∷ messages_heard hs
messages_heard (Informed t ∷ hs) = messages_heard hs

-- what was filled at each
abbrev pub ballots_filled : List Handed → List (Option Filled)
ballots_filled [] = []
ballots_filled (Notified n b ∷ hs) = b ∷ ballots_filled hs
ballots_filled (Informed t ∷ hs) = ballots_filled hs
