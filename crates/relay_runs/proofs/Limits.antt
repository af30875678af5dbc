-- A limited run of answered events, part by part.
use Rattle.std.proofs.Common.{◌≡◌, ℕ, List, [], ◌∷◌, ◌++◌, ◌-◌, length, take, append_assoc, Option, Some, None, refl, ap, ◌∙◌}
use Rattle.std.specs.Prelude.{fold}
use Rattle.rsct_packet.specs.Lists.{reverse_onto}
use Rattle.node_state.specs.declared.happened.Happened.{Happened}
use Rattle.world_model.specs.Kept.{Bytes}
use Rattle.world_laws.specs.world_runs.Runs.{Recorded}
use Rattle.world_laws.proofs.world_runs.Backwards.{reversed, added_since}
use Rattle.world_laws.proofs.world_runs.Traces.{recorded_then}
use Rattle.world_laws.specs.world_answers.Answers.{Answered, events_in}
use Rattle.relay_model.specs.Leaving.{Parcel}
use Rattle.relay_model.specs.Relays.{Relayed, relays_on}
use Rattle.relay_model.specs.Limits.{with_parcel, left_since, Ended, runs_from}
use Rattle.relay_runs.specs.Limits.{answered_within, AnsweredRuns, AnsweredEnds, AnsweredTells, WordedFrom}
use Rattle.relay_runs.proofs.Grown.{Grows, grows_by}

-- the datagrams that left the nodes since
pub left_grew : (r v : Relayed) (ds : List Parcel) → v.left ≡ reverse_onto ds r.left → left_since r v ≡ ds
unfolding left_since
left_grew r v ds e = ap (λ zs. reverse_onto (take (length zs - length r.left) zs) []) e ∙ added_since ds r.left

-- ---- what is recorded

grows_then : (u v w : Relayed) → Grows u v → Grows v w → Grows u w
grows_then u v w f g = (f.0 ++ g.0, recorded_then u.world v.world w.world f.0 g.0 f.1 g.1)

ends_grow : (limit sum : ℕ) (w v : Relayed) (es : List Answered) (o : Option ℕ) → Grows w v → Grows v (answered_within limit sum v es).world
    → Grows w (elim o as (λ _. Ended) [ Some n ↦ record { world = w; passed = Some n } | None ↦ answered_within limit sum v es ]).world
ends_grow limit sum w v es None f g = grows_then w v (answered_within limit sum v es).world f g
ends_grow limit sum w v es (Some n) f g = ([], refl)

run_grows : (limit sum : ℕ) (w : Relayed) (es : List Answered) → (rs : List Happened) × ((answered_within limit sum w es).world.world.trace ≡ reverse_onto rs w.world.trace)
unfolding answered_within
run_grows limit sum w [] = ([], refl)
run_grows limit sum w (e ∷ es) =
    let v : Relayed = relays_on w e in
    let b : Bytes = fold (with_parcel limit) (record { sum = sum; passed = None }) (left_since w v) in
    ends_grow limit b.sum w v es b.passed (grows_by e.answers w e.event) (run_grows limit b.sum v es)

-- ---- one event

keeps_on : (limit total : ℕ) (w v : Relayed) (fs : List Answered) (b : Bytes) → b ≡ record { sum = total; passed = None } → elim b.passed [ Some n ↦ record { world = w; passed = Some n } | None ↦ answered_within limit b.sum v fs ] ≡ answered_within limit total v fs
keeps_on limit total w v fs b e = ap (λ (z : Bytes). elim z.passed [ Some n ↦ record { world = w; passed = Some n } | None ↦ answered_within limit z.sum v fs ]) e

stops_at : (limit n : ℕ) (w v : Relayed) (fs : List Answered) (b : Bytes) → b.passed ≡ Some n → ◌≡◌ {A = Ended} (elim b.passed [ Some n ↦ record { world = w; passed = Some n } | None ↦ answered_within limit b.sum v fs ]) (record { world = w; passed = Some n })
stops_at limit n w v fs b e =
    let after : Option ℕ → Ended = λ o. elim o [ Some n ↦ record { world = w; passed = Some n } | None ↦ answered_within limit b.sum v fs ] in ap after e

-- one event within the limit
pub one_runs : (limit sum total : ℕ) (w : Relayed) (e : Answered) (ps : List Parcel) → (relays_on w e).left ≡ reverse_onto ps w.left → fold (with_parcel limit) (record { sum = sum; passed = None }) ps ≡ record { sum = total; passed = None }
    → AnsweredRuns limit sum w (e ∷ []) total (relays_on w e)
unfolding answered_within
one_runs limit sum total w e ps sent within fs =
    let v : Relayed = relays_on w e in
    keeps_on limit total w v fs (fold (with_parcel limit) (record { sum = sum; passed = None }) (left_since w v)) (ap (fold (with_parcel limit) (record { sum = sum; passed = None })) (left_grew w v ps sent) ∙ within)

-- one event that passes the limit
pub one_ends : (limit sum n : ℕ) (w : Relayed) (e : Answered) (ps : List Parcel) → (relays_on w e).left ≡ reverse_onto ps w.left → (fold (with_parcel limit) (record { sum = sum; passed = None }) ps).passed ≡ Some n
    → AnsweredEnds limit sum w (e ∷ []) n w
unfolding answered_within
one_ends limit sum n w e ps sent passes fs =
    let v : Relayed = relays_on w e in
    stops_at limit n w v fs (fold (with_parcel limit) (record { sum = sum; passed = None }) (left_since w v)) (ap (λ qs. (fold (with_parcel limit) (record { sum = sum; passed = None }) qs).passed) (left_grew w v ps sent) ∙ passes)

-- ---- one part and then the next

pub runs_none : (limit sum : ℕ) (w : Relayed) → AnsweredRuns limit sum w [] sum w
runs_none limit sum w fs = refl

pub runs_then : (limit a b c : ℕ) (w v u : Relayed) (es fs : List Answered) → AnsweredRuns limit a w es b v → AnsweredRuns limit b v fs c u → AnsweredRuns limit a w (es ++ fs) c u
runs_then limit a b c w v u es fs f g gs = ap (answered_within limit a w) (append_assoc es fs gs) ∙ (f (fs ++ gs) ∙ g gs)

pub runs_end : (limit a b n : ℕ) (w v u : Relayed) (es fs : List Answered) → AnsweredRuns limit a w es b v → AnsweredEnds limit b v fs n u → AnsweredEnds limit a w (es ++ fs) n u
runs_end limit a b n w v u es fs f g gs = ap (answered_within limit a w) (append_assoc es fs gs) ∙ (f (fs ++ gs) ∙ g gs)

-- what comes after its end changes nothing
pub ends_on : (limit a n : ℕ) (w v : Relayed) (es : List Answered) → AnsweredEnds limit a w es n v → (fs : List Answered) → AnsweredEnds limit a w (es ++ fs) n v
ends_on limit a n w v es f fs gs = ap (answered_within limit a w) (append_assoc es fs gs) ∙ f (fs ++ gs)

-- ---- what a run tells first

pub tells_none : (limit a : ℕ) (w : Relayed) (es : List Answered) → AnsweredTells limit a w es []
tells_none limit a w es fs = run_grows limit a w (es ++ fs)

pub tells_on : (limit a : ℕ) (w : Relayed) (es : List Answered) (rs : List Happened) → AnsweredTells limit a w es rs → (fs : List Answered) → AnsweredTells limit a w (es ++ fs) rs
tells_on limit a w es rs t fs gs =
    let rest : (more : List Happened) × ((answered_within limit a w (es ++ (fs ++ gs))).world.world.trace ≡ reverse_onto more (reverse_onto rs w.world.trace)) = t (fs ++ gs) in
    (rest.0, ap (λ hs. (answered_within limit a w hs).world.world.trace) (append_assoc es fs gs) ∙ rest.1)

pub tells_then : (limit a b : ℕ) (w v : Relayed) (es fs : List Answered) (rs ts : List Happened) → AnsweredRuns limit a w es b v → Recorded w.world v.world rs → AnsweredTells limit b v fs ts → AnsweredTells limit a w (es ++ fs) (rs ++ ts)
tells_then limit a b w v es fs rs ts f recorded t gs =
    let rest : (more : List Happened) × ((answered_within limit b v (fs ++ gs)).world.world.trace ≡ reverse_onto more (reverse_onto ts v.world.trace)) = t gs in (
      rest.0,
      ap (λ hs. (answered_within limit a w hs).world.world.trace) (append_assoc es fs gs)
          ∙ (ap (λ (z : Ended). z.world.world.trace) (f (fs ++ gs)) ∙ (rest.1 ∙ ap (reverse_onto rest.0) (ap (reverse_onto ts) recorded ∙ reversed rs ts w.world.trace))),
    )

pub tells_of_runs : (limit a b : ℕ) (w v : Relayed) (es : List Answered) (rs : List Happened) → AnsweredRuns limit a w es b v → Recorded w.world v.world rs → AnsweredTells limit a w es rs
tells_of_runs limit a b w v es rs f recorded fs =
    let rest : (more : List Happened) × ((answered_within limit b v fs).world.world.trace ≡ reverse_onto more v.world.trace) = run_grows limit b v fs in
    (rest.0, ap (λ (z : Ended). z.world.world.trace) (f fs) ∙ (rest.1 ∙ ap (reverse_onto rest.0) recorded))

-- ---- where each client votes just as its word says

within_if : (limit sum : ℕ) (w v : Relayed) (es : List Answered) (o : Option ℕ) → answered_within limit sum v es ≡ runs_from limit sum v (events_in es)
    → (elim o as (λ _. Ended) [ Some n ↦ record { world = w; passed = Some n } | None ↦ answered_within limit sum v es ]) ≡ (elim o as (λ _. Ended) [ Some n ↦ record { world = w; passed = Some n } | None ↦ runs_from limit sum v (events_in es) ])
within_if limit sum w v es None e = e
within_if limit sum w v es (Some n) e = refl

pub within_worded : (limit sum : ℕ) (w : Relayed) (es : List Answered) → WordedFrom w es → answered_within limit sum w es ≡ runs_from limit sum w (events_in es)
unfolding answered_within runs_from
within_worded limit sum w [] h = refl
within_worded limit sum w (e ∷ es) h =
    let v : Relayed = relays_on w e in
    let b : Relayed → Bytes = λ z. fold (with_parcel limit) (record { sum = sum; passed = None }) (left_since w z) in
    within_if limit (b v).sum w v es (b v).passed (within_worded limit (b v).sum v es h.1)
    ∙ ap (λ (z : Relayed). elim (b z).passed as (λ _. Ended) [ Some n ↦ record { world = w; passed = Some n } | None ↦ runs_from limit (b z).sum z (events_in es) ]) h.0
