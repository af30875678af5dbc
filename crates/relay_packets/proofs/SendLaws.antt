-- Datagrams that leave nodes.
use Rattle.std.proofs.Common.{◌≡◌, ℕ, ◌+◌, ◌<◌, ◌≤◌, Bool, true, false, List, [], ◌∷◌, ◌++◌, map, Some, None, refl, sym, ap, ◌∙◌, arith}
use Rattle.std.specs.Prelude.{fold, nat_lt}
use Rattle.std.proofs.lemmas.Bool.{ltb-true, ltb-false}
use Rattle.world_model.specs.Kept.{Bytes, passed_if}
use Rattle.relay_model.specs.Leaving.{Parcel}
use Rattle.relay_model.specs.Limits.{parcel_len, with_parcel}
use Rattle.relay_model.specs.Relays.{Sent, Relayed, pairs_with, leaves}
use Rattle.relay_packets.specs.declared.leaving.Departure.{Departure}
use Rattle.relay_packets.specs.Leaving.{leaving_in}
use Rattle.relay_packets.specs.Datagrams.{Kept, relay_pairs, waits_as, waits_next}
use Rattle.relay_packets.specs.Sending.{DatagramsStand, bytes_after}

waits_end : (xs : List Sent) (x : Sent) → map waits_as (xs ++ x ∷ []) ≡ map waits_as xs ++ waits_as x ∷ []
waits_end [] x = refl
waits_end (y ∷ xs) x = ap (λ ys. waits_as y ∷ ys) (waits_end xs x)

-- one that leaves
pub sent_stands : (k l : Kept) (r : Relayed) (d : Departure) → DatagramsStand k r → relay_pairs l.pairs ≡ pairs_with d.from d.to d.parcel (relay_pairs k.pairs) → l.waiting ≡ k.waiting ++ waits_next (relay_pairs k.pairs) d ∷ []
    → DatagramsStand l (leaves r (leaving_in d))
unfolding leaves
sent_stands k l r d h pairs waiting =
    (rw (h.0) (sym pairs), rw (h.0) (waits_end r.queue _ ∙ (ap (λ ys. ys ++ waits_next (relay_pairs k.pairs) d ∷ []) h.1 ∙ sym waiting)))

-- ---- how many bytes they have

-- a sum that has passed the limit stays so
pub passed_stays : (limit : ℕ) (ds : List Parcel) (b : Bytes) (n : ℕ) → b.passed ≡ Some n → (fold (with_parcel limit) b ds).passed ≡ Some n
unfolding with_parcel
passed_stays limit [] b n e = e
passed_stays limit (d ∷ ds) b n e =
    let keep : with_parcel limit b d ≡ b = rw e refl in ap (λ z. (fold (with_parcel limit) z ds).passed) keep ∙ passed_stays limit ds b n e

pub within_next : (limit sum : ℕ) (d : Parcel) → sum + parcel_len d ≤ limit → with_parcel limit (record { sum = sum; passed = None }) d ≡ record { sum = sum + parcel_len d; passed = None }
unfolding with_parcel passed_if
within_next limit sum d le = by (nat_lt limit (sum + parcel_len d)) refl
  where
    by : (t : Bool) → nat_lt limit (sum + parcel_len d) ≡ t → passed_if (record { sum = sum; passed = None }) (sum + parcel_len d) t ≡ record { sum = sum + parcel_len d; passed = None }
    by true e = let lt : limit < sum + parcel_len d = ltb-true limit (sum + parcel_len d) e in absurd (omega (arith, lt, le))
    by false e = refl

pub passes_next : (limit sum : ℕ) (d : Parcel) → limit < sum + parcel_len d → (with_parcel limit (record { sum = sum; passed = None }) d).passed ≡ Some (sum + parcel_len d)
unfolding with_parcel passed_if
passes_next limit sum d lt = by (nat_lt limit (sum + parcel_len d)) refl
  where
    by : (t : Bool) → nat_lt limit (sum + parcel_len d) ≡ t → (passed_if (record { sum = sum; passed = None }) (sum + parcel_len d) t).passed ≡ Some (sum + parcel_len d)
    by true e = refl
    by false e = let le : sum + parcel_len d ≤ limit = ltb-false limit (sum + parcel_len d) e in absurd (omega (arith, le, lt))

-- the first datagram that passes the limit passes it for all
pub passes_all : (limit sum kept n : ℕ) (d : Parcel) (rest left ds : List Parcel) → bytes_after limit kept left ≡ bytes_after limit sum ds → left ≡ d ∷ rest → (with_parcel limit (record { sum = kept; passed = None }) d).passed ≡ Some n
    → (bytes_after limit sum ds).passed ≡ Some n
passes_all limit sum kept n d rest left ds all front passed =
    ap (λ (b : Bytes). b.passed) (sym all ∙ ap (bytes_after limit kept) front) ∙ passed_stays limit rest (with_parcel limit (record { sum = kept; passed = None }) d) n passed
