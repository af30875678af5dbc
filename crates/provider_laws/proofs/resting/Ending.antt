-- After the end of a step the node rests, where it is not frozen; and a node that rests stays as it is at the end of a step.
use Rattle.std.proofs.Common.{◌≡◌, ◌≤◌, ◌<◌, ◌⊎◌, ℕ, List, [], ◌∷◌, length, fold, Bool, true, false, refl, sym, ap, subst, inl, inr, arith}
use Rattle.rsct_packet.specs.Search.{Has}
use Rattle.view_state.specs.Views.{is_frozen}
use Rattle.node_state.specs.declared.group.GroupRow.{GroupRow}
use Rattle.node_state.specs.declared.state.Core.{Core}
use Rattle.node_state.specs.State.{frozen, led_groups}
use Rattle.node_state.specs.HandOn.{Answering}
use Rattle.node_state.specs.Ending.{quiet, group_begins, one_pass, passes, most_begun, end_step}
use Rattle.provider_laws.proofs.resting.Orderly.{Orderly}
use Rattle.provider_laws.proofs.resting.Onward.{led_few}
use Rattle.provider_laws.proofs.resting.Passing.{AllRest, room, room_most, passes_rest, passes_onward, passes_settle, passes_same}

rows_or_none : (rows : List GroupRow) → (length rows ≤ 0) ⊎ (1 ≤ length rows)
rows_or_none [] = inl (omega arith)
rows_or_none (row ∷ rows) = inr (omega arith)

none_led : (gs : List (List ℕ)) → length gs ≤ 0 → gs ≡ []
none_led [] k = refl
none_led (g ∷ gs) k = absurd (omega (arith, k))

-- where no group is led, nothing changes
passes_none : (n most : ℕ) (f : Answering) (s : Core) → led_groups s ≡ [] → passes n most f s ≡ s
unfolding one_pass
passes_none n most f s none = passes_same n most f s (ap (λ gs. (fold (λ q g. group_begins most f g q) (quiet s) gs).core) none)

led_none : (s : Core) → length s.groups ≤ 0 → led_groups s ≡ []
led_none s k = none_led (led_groups s) (let m = led_few s in omega (arith, k, m))

plenty : (s : Core) → 1 ≤ length s.groups → 128 < most_begun s
unfolding most_begun
plenty s k = omega (arith, k)

rooms : (s : Core) → room s (led_groups s) < most_begun s
unfolding most_begun
rooms s = let a = led_few s in let b = room_most s (led_groups s) in omega (arith, a, b)

passes_all : (f : Answering) (s : Core) → Orderly s → AllRest (passes (most_begun s) (most_begun s) f s)
passes_all f s k = by (rows_or_none s.groups)
  where
    by : (length s.groups ≤ 0) ⊎ (1 ≤ length s.groups) → AllRest (passes (most_begun s) (most_begun s) f s)
    by (inl z) =
        subst AllRest (sym (passes_none (most_begun s) (most_begun s) f s (led_none s z))) (λ g i. absurd (subst (Has g) (led_none s z) i))
    by (inr z) = passes_settle (most_begun s) (most_begun s) f s (plenty s z) k (rooms s)

pub ended_rests : (f : Answering) (s : Core) → Orderly s → frozen s ≡ false → AllRest (end_step f s)
unfolding end_step
ended_rests f s k thawed = subst (λ b. AllRest (elim b as (λ _. Core) [ true ↦ s | false ↦ passes (most_begun s) (most_begun s) f s ])) (sym thawed) (passes_all f s k)

pub ended_frozen : (f : Answering) (s : Core) → Orderly s → frozen (end_step f s) ≡ frozen s
unfolding end_step frozen
ended_frozen f s k = by (frozen s)
  where
    views : (b : Bool) → (length s.groups ≤ 0) ⊎ (1 ≤ length s.groups) → (passes (most_begun s) (most_begun s) f s).views ≡ s.views
    views b (inl z) = ap (λ (c : Core). c.views) (passes_none (most_begun s) (most_begun s) f s (led_none s z))
    views b (inr z) = (passes_onward (most_begun s) (most_begun s) f s (plenty s z) k).views

    by : (b : Bool) → frozen (elim b as (λ _. Core) [ true ↦ s | false ↦ passes (most_begun s) (most_begun s) f s ]) ≡ frozen s
    by true = refl
    by false = ap is_frozen (views false (rows_or_none s.groups))

pub ended_orderly : (f : Answering) (s : Core) → Orderly s → Orderly (end_step f s)
unfolding end_step
ended_orderly f s k = by (frozen s)
  where
    passed : (length s.groups ≤ 0) ⊎ (1 ≤ length s.groups) → Orderly (passes (most_begun s) (most_begun s) f s)
    passed (inl z) = subst Orderly (sym (passes_none (most_begun s) (most_begun s) f s (led_none s z))) k
    passed (inr z) = (passes_onward (most_begun s) (most_begun s) f s (plenty s z) k).orderly

    by : (b : Bool) → Orderly (elim b as (λ _. Core) [ true ↦ s | false ↦ passes (most_begun s) (most_begun s) f s ])
    by true = k
    by false = passed (rows_or_none s.groups)

pub ended_same : (f : Answering) (s : Core) → (frozen s ≡ false → AllRest s) → end_step f s ≡ s
unfolding end_step
ended_same f s all = by (frozen s) refl
  where
    rests : AllRest s → (length s.groups ≤ 0) ⊎ (1 ≤ length s.groups) → passes (most_begun s) (most_begun s) f s ≡ s
    rests r (inl z) = passes_none (most_begun s) (most_begun s) f s (led_none s z)
    rests r (inr z) = passes_rest (most_begun s) (most_begun s) f s (plenty s z) r

    by : (b : Bool) → frozen s ≡ b → (elim b as (λ _. Core) [ true ↦ s | false ↦ passes (most_begun s) (most_begun s) f s ]) ≡ s
    by true e = refl
    by false e = rests (all e) (rows_or_none s.groups)
