-- A limited run, part by part.
use Rattle.std.proofs.Common.{◌≡◌, ℕ, List, [], ◌∷◌, ◌++◌, append_assoc, Option, Some, None, refl, ap, ◌∙◌}
use Rattle.std.specs.Prelude.{fold}
use Rattle.rsct_packet.specs.Lists.{reverse_onto}
use Rattle.node_state.specs.declared.happened.Happened.{Happened}
use Rattle.node_state.specs.declared.packet.Packet.{Packet}
use Rattle.world_model.specs.declared.event.Event.{Event}
use Rattle.world_model.specs.World.{World, happens}
use Rattle.world_model.specs.Kept.{Bytes, with_packet, sent_since, Ended, runs_from}
use Rattle.world_laws.specs.world_runs.Runs.{Runs, Ends, Recorded, Tells}
use Rattle.world_laws.proofs.world_runs.Backwards.{reversed}
use Rattle.world_laws.proofs.world_runs.Traces.{sent_grew, run_grows}

-- ---- one event

goes_on : (limit total : ℕ) (w v : World) (fs : List Event) (b : Bytes) → b ≡ record { sum = total; passed = None } → elim b.passed [ Some n ↦ record { world = w; passed = Some n } | None ↦ runs_from limit b.sum v fs ] ≡ runs_from limit total v fs
goes_on limit total w v fs b e = ap (λ (z : Bytes). elim z.passed [ Some n ↦ record { world = w; passed = Some n } | None ↦ runs_from limit z.sum v fs ]) e

stops_at : (limit n : ℕ) (w v : World) (fs : List Event) (b : Bytes) → b.passed ≡ Some n → ◌≡◌ {A = Ended} (elim b.passed [ Some n ↦ record { world = w; passed = Some n } | None ↦ runs_from limit b.sum v fs ]) (record { world = w; passed = Some n })
stops_at limit n w v fs b e =
    let after : Option ℕ → Ended = λ o. elim o [ Some n ↦ record { world = w; passed = Some n } | None ↦ runs_from limit b.sum v fs ] in ap after e

-- one event within the limit
pub one_runs : (limit sum total : ℕ) (w : World) (e : Event) (ps : List Packet) → (happens w e).sent ≡ reverse_onto ps w.sent → fold (with_packet limit) (record { sum = sum; passed = None }) ps ≡ record { sum = total; passed = None }
    → Runs limit sum w (e ∷ []) total (happens w e)
unfolding runs_from
one_runs limit sum total w e ps sent within fs =
    let v : World = happens w e in
    goes_on limit total w v fs (fold (with_packet limit) (record { sum = sum; passed = None }) (sent_since w v)) (ap (fold (with_packet limit) (record { sum = sum; passed = None })) (sent_grew w v ps sent) ∙ within)

-- one event that passes the limit
pub one_ends : (limit sum n : ℕ) (w : World) (e : Event) (ps : List Packet) → (happens w e).sent ≡ reverse_onto ps w.sent → (fold (with_packet limit) (record { sum = sum; passed = None }) ps).passed ≡ Some n
    → Ends limit sum w (e ∷ []) n w
unfolding runs_from
one_ends limit sum n w e ps sent passes fs =
    let v : World = happens w e in
    stops_at limit n w v fs (fold (with_packet limit) (record { sum = sum; passed = None }) (sent_since w v)) (ap (λ qs. (fold (with_packet limit) (record { sum = sum; passed = None }) qs).passed) (sent_grew w v ps sent) ∙ passes)

-- ---- one part and then the next

pub runs_none : (limit sum : ℕ) (w : World) → Runs limit sum w [] sum w
runs_none limit sum w fs = refl

pub runs_then : (limit a b c : ℕ) (w v u : World) (es fs : List Event) → Runs limit a w es b v → Runs limit b v fs c u → Runs limit a w (es ++ fs) c u
runs_then limit a b c w v u es fs f g gs = ap (runs_from limit a w) (append_assoc es fs gs) ∙ (f (fs ++ gs) ∙ g gs)

pub runs_end : (limit a b n : ℕ) (w v u : World) (es fs : List Event) → Runs limit a w es b v → Ends limit b v fs n u → Ends limit a w (es ++ fs) n u
runs_end limit a b n w v u es fs f g gs = ap (runs_from limit a w) (append_assoc es fs gs) ∙ (f (fs ++ gs) ∙ g gs)

-- what comes after its end changes nothing
pub ends_on : (limit a n : ℕ) (w v : World) (es : List Event) → Ends limit a w es n v → (fs : List Event) → Ends limit a w (es ++ fs) n v
ends_on limit a n w v es f fs gs = ap (runs_from limit a w) (append_assoc es fs gs) ∙ f (fs ++ gs)

-- ---- what a run tells first

pub tells_none : (limit a : ℕ) (w : World) (es : List Event) → Tells limit a w es []
tells_none limit a w es fs = run_grows limit a w (es ++ fs)

pub tells_on : (limit a : ℕ) (w : World) (es : List Event) (rs : List Happened) → Tells limit a w es rs → (fs : List Event) → Tells limit a w (es ++ fs) rs
tells_on limit a w es rs t fs gs =
    let rest : (more : List Happened) × ((runs_from limit a w (es ++ (fs ++ gs))).world.trace ≡ reverse_onto more (reverse_onto rs w.trace)) = t (fs ++ gs) in
    (rest.0, ap (λ hs. (runs_from limit a w hs).world.trace) (append_assoc es fs gs) ∙ rest.1)

pub tells_then : (limit a b : ℕ) (w v : World) (es fs : List Event) (rs ts : List Happened) → Runs limit a w es b v → Recorded w v rs → Tells limit b v fs ts → Tells limit a w (es ++ fs) (rs ++ ts)
tells_then limit a b w v es fs rs ts f recorded t gs =
    let rest : (more : List Happened) × ((runs_from limit b v (fs ++ gs)).world.trace ≡ reverse_onto more (reverse_onto ts v.trace)) = t gs in (
      rest.0,
      ap (λ hs. (runs_from limit a w hs).world.trace) (append_assoc es fs gs)
          ∙ (ap (λ (z : Ended). z.world.trace) (f (fs ++ gs)) ∙ (rest.1 ∙ ap (reverse_onto rest.0) (ap (reverse_onto ts) recorded ∙ reversed rs ts w.trace))),
    )

pub tells_of_runs : (limit a b : ℕ) (w v : World) (es : List Event) (rs : List Happened) → Runs limit a w es b v → Recorded w v rs → Tells limit a w es rs
tells_of_runs limit a b w v es rs f recorded fs =
    let rest : (more : List Happened) × ((runs_from limit b v fs).world.trace ≡ reverse_onto more v.trace) = run_grows limit b v fs in
    (rest.0, ap (λ (z : Ended). z.world.trace) (f fs) ∙ (rest.1 ∙ ap (reverse_onto rest.0) recorded))
