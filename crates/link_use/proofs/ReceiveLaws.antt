-- A receive, by what came.
use Rattle.std.proofs.Common.{◌≡◌, ℕ, ◌+◌, min, List, [], ◌∷◌, Option, Some, None, refl, ◌∙◌, ap}
use Rattle.std.specs.Prelude.{option_map}
use Rattle.hags_io.specs.declared.link.LinkCall.TheVariants as call
use Rattle.hags_io.specs.Deeds.{Exchanged}
use Rattle.hags_io.specs.Telling.{Telling, Did}
use Rattle.hags_io.proofs.FrontLaws.{all_went, still_went, went_as}
use Rattle.piece_link.specs.Joining.{Joining, Joined, joined_as, taken}
use Rattle.daemon_model.specs.declared.counts.ReceiveCounts.{ReceiveCounts}
use Rattle.daemon_model.specs.Counts.{counted_by}
use Rattle.link_use.specs.declared.receiving.Receiving.{Receiving}
use Rattle.link_use.specs.Receiving.{Receives, ReceivesFront}

-- the datagram is joined, and no message is whole by it, or one is
joins : (r : Receiving) (j : Joining) (n : ReceiveCounts) (m : Option (List ℕ)) (network : ℕ) (bytes : List ℕ) (t u : Telling) → joined_as j m ≡ taken r.joiner bytes → n ≡ counted_by (call.Received network bytes) r.counts → Did t u (Exchanged (call.Received network bytes) ∷ [])
    → Receives r (record { joiner = j; failed = 0; counts = n }) (option_map (λ x. (network, x)) m) t u
joins r j n m network bytes t u is counted told = record {
  got = call.Received network bytes;
  receive = tt;
  told = told;
  is = ap (λ (x : ReceiveCounts). record { joiner = j; failed = 0; counts = x }) counted ∙ ap (λ (x : Joined). record { joiner = x.joining; failed = 0; counts = counted_by (call.Received network bytes) r.counts }) is;
  whole_is = ap (λ (x : Joined). option_map (λ y. (network, y)) x.message) is;
}

pub receives_none : (r : Receiving) (j : Joining) (n : ReceiveCounts) (network : ℕ) (bytes : List ℕ) (t u : Telling) → joined_as j None ≡ taken r.joiner bytes → n ≡ counted_by (call.Received network bytes) r.counts → Did t u (Exchanged (call.Received network bytes) ∷ [])
    → Receives r (record { joiner = j; failed = 0; counts = n }) None t u
receives_none r j n network bytes t u is counted told = joins r j n None network bytes t u is counted told

pub receives_whole : (r : Receiving) (j : Joining) (n : ReceiveCounts) (message : List ℕ) (network : ℕ) (bytes : List ℕ) (t u : Telling) → joined_as j (Some message) ≡ taken r.joiner bytes → n ≡ counted_by (call.Received network bytes) r.counts → Did t u (Exchanged (call.Received network bytes) ∷ [])
    → Receives r (record { joiner = j; failed = 0; counts = n }) (Some (network, message)) t u
receives_whole r j n message network bytes t u is counted told = joins r j n (Some message) network bytes t u is counted told

pub receives_quiet : (r : Receiving) (n : ReceiveCounts) (t u : Telling) → n ≡ counted_by call.Quiet r.counts → Did t u (Exchanged call.Quiet ∷ []) → Receives r (record r { failed = 0; counts = n }) None t u
receives_quiet r n t u counted told = record {
  got = call.Quiet;
  receive = tt;
  told = told;
  is = ap (λ (x : ReceiveCounts). record { joiner = r.joiner; failed = 0; counts = x }) counted;
  whole_is = refl;
}

pub receives_failed : (r : Receiving) (n : ℕ) (m : ReceiveCounts) (t u : Telling) → n ≡ min (r.failed + 1) 16 → m ≡ counted_by call.Failed r.counts → Did t u (Exchanged call.Failed ∷ []) → Receives r (record r { failed = n; counts = m }) None t u
receives_failed r n m t u is counted told = record {
  got = call.Failed;
  receive = tt;
  told = told;
  is = ap (λ (x : ReceiveCounts). record { joiner = r.joiner; failed = n; counts = x }) counted ∙ ap (λ (k : ℕ). record { joiner = r.joiner; failed = k; counts = counted_by call.Failed r.counts }) is;
  whole_is = refl;
}

-- ---- no memory

pub front_none : (t u : Telling) → Did t u [] → ReceivesFront t u
front_none t u told = record { got = call.Quiet; receive = tt; front = still_went t u _ told }

pub front_lost : (network : ℕ) (bytes : List ℕ) (t u : Telling) → Did t u (Exchanged (call.Received network bytes) ∷ []) → ReceivesFront t u
front_lost network bytes t u told = record {
  got = call.Received network bytes;
  receive = tt;
  front = all_went t u _ (went_as t u (Exchanged (call.Received network bytes)) (Exchanged (call.Received network bytes)) refl told);
}
