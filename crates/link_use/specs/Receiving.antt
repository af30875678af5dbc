-- Receives, and the messages that they make whole.
use Rattle.std.specs.Prelude.{◌≡◌, ℕ, List, [], ◌∷◌, Option, option_map}
use Rattle.hags_io.specs.declared.link.LinkCall.{LinkCall}
use Rattle.hags_io.specs.declared.link.LinkCall.TheVariants as call
use Rattle.hags_io.specs.Deeds.{Exchanged}
use Rattle.hags_io.specs.Fronts.{WentFront}
use Rattle.hags_io.specs.Telling.{Telling, Did}
use Rattle.piece_link.specs.Joining.{Joining}
use Rattle.daemon_model.specs.Counts.{nothing_counted, counted_by}
use Rattle.daemon_model.specs.Daemon.{joined_by, failed_by, network_of}
use Rattle.link_use.specs.declared.receiving.Receiving.{Receiving}
use Rattle.link_use.specs.declared.receiving.Whole.{Whole}

abbrev pub IsReceive : LinkCall → Type 0
IsReceive (call.Sent node network bytes out) = ⊥
IsReceive _ = Unit {0}

abbrev pub nothing_received : Receiving
nothing_received = record { joiner = []; failed = 0; counts = nothing_counted }

-- the message that is whole by a receive, and the network on which it came
abbrev pub whole_by : LinkCall → Joining → Option (ℕ × List ℕ)
whole_by got joining = option_map (λ m. (network_of got, m)) (joined_by got joining).message

abbrev pub whole_in : Option Whole → Option (ℕ × List ℕ)
whole_in whole = option_map (λ (w : Whole). (w.network, w.message.items)) whole

abbrev pub received_by : LinkCall → Receiving → Receiving
received_by got r = record { joiner = (joined_by got r.joiner).joining; failed = failed_by got r.failed; counts = counted_by got r.counts }

-- one receive, and what is whole by it
pub record Receives (r s : Receiving) (whole : Option (ℕ × List ℕ)) (old new : Telling) : Type 0 where
  pub got : LinkCall
  pub receive : IsReceive got
  pub told : Did old new (Exchanged got ∷ [])
  pub is : s ≡ received_by got r
  pub whole_is : whole ≡ whole_by got r.joiner

-- a receive, or none
pub record ReceivesFront (old new : Telling) : Type 0 where
  pub got : LinkCall
  pub receive : IsReceive got
  pub front : WentFront old new (Exchanged got ∷ [])
