-- What a daemon counts. A count stays at the greatest number of 64 bits once it is there.
use Rattle.std.specs.Prelude.{ℕ, ◌+◌, min, Bool, true, false, List, length, is_none}
use Rattle.hags_io.specs.declared.link.LinkCall.{LinkCall}
use Rattle.hags_io.specs.declared.link.LinkCall.TheVariants as call
use Rattle.piece_link.specs.Pieces.{piece_at}
use Rattle.daemon_model.specs.declared.counts.ReceiveCounts.{ReceiveCounts}
use Rattle.daemon_model.specs.Sent.{Exchange}

abbrev pub last_u64 : ℕ
last_u64 = 18446744073709551615

-- so many more
abbrev pub more_by : ℕ → ℕ → ℕ
more_by n k = min (n + k) last_u64

abbrev pub one_more : ℕ → ℕ
one_more n = more_by n 1

abbrev pub one_more_if : Bool → ℕ → ℕ
one_more_if true n = one_more n
one_more_if false n = n

-- the datagrams of these sends, as if each went out
abbrev pub sent_more : ℕ → List Exchange → ℕ
sent_more n xs = more_by n (length xs)

abbrev pub nothing_counted : ReceiveCounts
nothing_counted = record { turns = 0; received = 0; strays = 0; failed = 0 }

-- a receive: of a datagram that is no piece comes no message
abbrev pub counted_by : LinkCall → ReceiveCounts → ReceiveCounts
counted_by (call.Received network bytes) n = record {
  turns = one_more n.turns;
  received = one_more n.received;
  strays = one_more_if (is_none (piece_at bytes)) n.strays;
  failed = n.failed;
}
counted_by call.Failed n = record n { turns = one_more n.turns; failed = one_more n.failed }
counted_by _ n = record n { turns = one_more n.turns }
