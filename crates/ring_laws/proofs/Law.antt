-- In each life of a ring only the silent are missed.
use Rattle.std.proofs.Common.{◌≡◌, ◌≤◌, ℕ, ◌+◌, List, [], ◌∷◌, Bool, true, false, refl, arith}
use Rattle.std.specs.Prelude.{◌||◌, is_some, if◌then◌else◌}
use Rattle.adapter_ring.specs.declared.packet.RingEvent.{RingEvent}
use Rattle.adapter_ring.specs.declared.ring.Ring.{Ring}
use Rattle.adapter_ring.specs.declared.ring.RingSettings.{RingSettings}
use Rattle.adapter_ring.specs.Rings.{ring_step, ring_new}
use Rattle.ring_laws.specs.Missed.{after, ticks_of, is_beat, silence, OnlyTheSilentAreMissed}
use Rattle.ring_laws.proofs.Fair.{Fair, step_fair, beat_ends}

-- what a ring counts of silent ticks, after one event more
one_low : (s : Ring) (e : RingEvent) (k : ℕ) → s.silent ≤ k → (ring_step s e).ring.silent ≤ (if is_beat s e || is_some (ring_step s e).set then 0 else k + ticks_of e)
one_low s e k le = by (is_beat s e) (is_some (ring_step s e).set) refl refl
  where
    f : Fair s e k (ring_step s e)
    f = step_fair s e k le

    by : (a b : Bool) → is_beat s e ≡ a → is_some (ring_step s e).set ≡ b → (ring_step s e).ring.silent ≤ (if a || b then 0 else k + ticks_of e)
    by true b p q = let z = beat_ends s e p in omega (arith, z)
    by false true p q = let z = f.reset q in omega (arith, z)
    by false false p q = f.silent

-- it counts no more silent ticks than there were
pub low : (r : Ring) → r.silent ≡ 0 → (es : List RingEvent) → (after r es).silent ≤ silence r es
low r none [] = omega (arith, none)
low r none (e ∷ es) = one_low (after r es) e (silence r es) (low r none es)

pub new_silent : (net me inc : ℕ) (s : RingSettings) → (ring_new net me inc s).silent ≡ 0
unfolding ring_new
new_silent net me inc s = refl

pub only_the_silent_are_missed : OnlyTheSilentAreMissed
only_the_silent_are_missed net me inc s es e =
    let f = step_fair (after (ring_new net me inc s) es) e (silence (ring_new net me inc s) es) (low (ring_new net me inc s) (new_silent net me inc s) es) in
    record { sent = f.sends; set = f.sets }
