-- Which notices ask for a vote.
use Rattle.std.specs.Prelude.{◌≡◌, Bool, true, false, ◌&&◌, List, [], ◌∷◌}
use Rattle.rsct_packet.specs.Providers.{among}
use Rattle.proposal_core.specs.declared.entry.Entry.{Entry}
use Rattle.proposal_core.specs.declared.entry.Entry.TheVariants.{Begin, Phase}
use Rattle.proposal_core.specs.Fold.{voters}
use Rattle.client_callbacks.specs.Handed.{NoticeView, Handed, Notified, Informed}
use Rattle.node_state.specs.Handed.{Logged}
use Rattle.entry_delivery.specs.Received.{handed_by}

-- a protocol of many phases begins, or a phase closed and the next one opens
abbrev pub is_opening : Entry → Bool
is_opening (Begin x) = true
is_opening (Phase c) = true
is_opening _ = false

-- the notice asks for a vote just where its entry opens a phase and its provider votes in the state behind it
abbrev pub AsksItsVoter : NoticeView → Type 0
AsksItsVoter n = n.votes ≡ (is_opening n.entry && among (voters n.after) n.provider)

-- of each notice that was handed
abbrev pub EachNotice : (NoticeView → Type 0) → List Handed → Type 0
EachNotice P [] = Unit {0}
EachNotice P (Notified n filled ∷ hs) = P n × EachNotice P hs
EachNotice P (Informed t ∷ hs) = EachNotice P hs

-- so is each notice that a log tells, as those of every run are
abbrev pub NoticesAskVoters : Type 0
NoticesAskVoters = (log : List Logged) → EachNotice AsksItsVoter (handed_by log)
