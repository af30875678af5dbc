-- Packets that are sent.
use Rattle.std.proofs.Common.{◌≡◌, ℕ, ◌+◌, ◌<◌, ◌≤◌, Bool, true, false, List, [], ◌∷◌, ◌++◌, map, Some, None, refl, sym, ap, ◌∙◌, arith}
use Rattle.std.specs.Prelude.{fold, nat_lt}
use Rattle.std.proofs.lemmas.Bool.{ltb-true, ltb-false}
use Rattle.rsct_packet.specs.Lists.{reverse_onto}
use Rattle.node_state.specs.declared.packet.Packet.{Packet}
use Rattle.node_state.specs.Bytes.{packet_len}
use Rattle.world_model.specs.World.{pairs_with, count_between, posted}
use Rattle.world_model.specs.World as world
use Rattle.world_model.specs.Kept.{Bytes, passed_if, with_packet}
use Rattle.world_packets.specs.Packets.{Kept, world_pairs, waits_as, waits_next}
use Rattle.play_state.specs.Posting.{bytes_after, PacketsStand}

waits_end : (xs : List world.Sent) (x : world.Sent) → map waits_as (xs ++ x ∷ []) ≡ map waits_as xs ++ waits_as x ∷ []
waits_end [] x = refl
waits_end (y ∷ xs) x = ap (λ ys. waits_as y ∷ ys) (waits_end xs x)

-- one that is sent
pub sent_stands : (k l : Kept) (w : world.World) (p : Packet) → PacketsStand k w → world_pairs l.pairs ≡ pairs_with p (world_pairs k.pairs) → l.waiting ≡ k.waiting ++ waits_next (world_pairs k.pairs) p ∷ [] → PacketsStand l (posted w p)
unfolding posted count_between
sent_stands k l w p h pairs waiting =
    (rw (h.0) (sym pairs), rw (h.0) (waits_end w.queue _ ∙ (ap (λ ys. ys ++ waits_next (world_pairs k.pairs) p ∷ []) h.1 ∙ sym waiting)))

-- what sending leaves as it is
pub record SentOnly (ps : List Packet) (w v : world.World) : Type 0 where
  pub config : v.config ≡ w.config
  pub nodes : v.nodes ≡ w.nodes
  pub starts : v.starts ≡ w.starts
  pub trace : v.trace ≡ w.trace
  pub sent : v.sent ≡ reverse_onto ps w.sent

pub sent_only : (ps : List Packet) (w : world.World) → SentOnly ps w (fold posted w ps)
unfolding posted
sent_only [] w = record { config = refl; nodes = refl; starts = refl; trace = refl; sent = refl }
sent_only (p ∷ ps) w =
    let rest : SentOnly ps (posted w p) (fold posted (posted w p) ps) = sent_only ps (posted w p) in
    record { config = rest.config; nodes = rest.nodes; starts = rest.starts; trace = rest.trace; sent = rest.sent }

-- ---- how many bytes they have

-- a sum that has passed the limit stays so
pub passed_stays : (limit : ℕ) (ps : List Packet) (b : Bytes) (n : ℕ) → b.passed ≡ Some n → (fold (with_packet limit) b ps).passed ≡ Some n
unfolding with_packet
passed_stays limit [] b n e = e
passed_stays limit (p ∷ ps) b n e =
    let keep : with_packet limit b p ≡ b = rw e refl in ap (λ z. (fold (with_packet limit) z ps).passed) keep ∙ passed_stays limit ps b n e

pub within_next : (limit sum : ℕ) (p : Packet) → sum + packet_len p ≤ limit → with_packet limit (record { sum = sum; passed = None }) p ≡ record { sum = sum + packet_len p; passed = None }
unfolding with_packet passed_if
within_next limit sum p le = by (nat_lt limit (sum + packet_len p)) refl
  where
    by : (t : Bool) → nat_lt limit (sum + packet_len p) ≡ t → passed_if (record { sum = sum; passed = None }) (sum + packet_len p) t ≡ record { sum = sum + packet_len p; passed = None }
    by true e = let lt : limit < sum + packet_len p = ltb-true limit (sum + packet_len p) e in absurd (omega (arith, lt, le))
    by false e = refl

pub passes_next : (limit sum : ℕ) (p : Packet) → limit < sum + packet_len p → (with_packet limit (record { sum = sum; passed = None }) p).passed ≡ Some (sum + packet_len p)
unfolding with_packet passed_if
passes_next limit sum p lt = by (nat_lt limit (sum + packet_len p)) refl
  where
    by : (t : Bool) → nat_lt limit (sum + packet_len p) ≡ t → (passed_if (record { sum = sum; passed = None }) (sum + packet_len p) t).passed ≡ Some (sum + packet_len p)
    by true e = refl
    by false e = let le : sum + packet_len p ≤ limit = ltb-false limit (sum + packet_len p) e in absurd (omega (arith, le, lt))

-- the first packet that passes the limit passes it for all
pub passes_all : (limit sum kept n : ℕ) (p : Packet) (rest left ps : List Packet) → bytes_after limit kept left ≡ bytes_after limit sum ps → left ≡ p ∷ rest → (with_packet limit (record { sum = kept; passed = None }) p).passed ≡ Some n
    → (bytes_after limit sum ps).passed ≡ Some n
passes_all limit sum kept n p rest left ps all front passed =
    ap (λ (b : Bytes). b.passed) (sym all ∙ ap (bytes_after limit kept) front) ∙ passed_stays limit rest (with_packet limit (record { sum = kept; passed = None }) p) n passed
