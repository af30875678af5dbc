-- Answered events whose datagrams may have so many bytes, and how such runs go on part by part.
use Rattle.std.specs.Prelude.{◌≡◌, ℕ, List, [], ◌∷◌, ◌++◌, fold, Some, None}
use Rattle.rsct_packet.specs.Lists.{reverse_onto}
use Rattle.node_state.specs.declared.config.Config.{Config}
use Rattle.node_state.specs.declared.happened.Happened.{Happened}
use Rattle.world_model.specs.Kept.{Bytes}
use Rattle.world_laws.specs.world_answers.Answers.{Answered}
use Rattle.relay_model.specs.Relays.{Relayed, relays_on, relayed_new}
use Rattle.relay_model.specs.Play.{relays}
use Rattle.relay_model.specs.Limits.{with_parcel, left_since, Ended}
use Rattle.relay_runs.specs.Plays.{AnsweredPlay}

-- the event that passes the limit leaves nothing
unfoldable pub answered_within : ℕ → ℕ → Relayed → List Answered → Ended
answered_within limit sum r [] = record { world = r; passed = None }
answered_within limit sum r (e ∷ es) =
    let v : Relayed = relays_on r e in
    let b : Bytes = fold (with_parcel limit) (record { sum = sum; passed = None }) (left_since r v) in
    elim b.passed [ Some n ↦ record { world = r; passed = Some n } | None ↦ answered_within limit b.sum v es ]

-- the events of a play, in order
abbrev pub answered_in : AnsweredPlay → List Answered
answered_in p = reverse_onto p.events []

-- how far the run of a play goes whose datagrams may have so many bytes
abbrev pub limited : ℕ → Config → AnsweredPlay → Ended
limited limit c p = answered_within limit 0 (relayed_new c) (answered_in p)

-- events lead on from one world to another: whatever comes after them, a limited run goes on from there
abbrev pub AnsweredRuns : ℕ → ℕ → Relayed → List Answered → ℕ → Relayed → Type 0
AnsweredRuns limit sum r es total v = (fs : List Answered) → answered_within limit sum r (es ++ fs) ≡ answered_within limit total v fs

-- among these events one passes the limit, with this sum: a limited run ends just before it
abbrev pub AnsweredEnds : ℕ → ℕ → Relayed → List Answered → ℕ → Relayed → Type 0
AnsweredEnds limit sum r es n v = (fs : List Answered) → answered_within limit sum r (es ++ fs) ≡ record { world = v; passed = Some n }

-- whatever comes after these events, the records of a limited run begin with these
abbrev pub AnsweredTells : ℕ → ℕ → Relayed → List Answered → List Happened → Type 0
AnsweredTells limit sum r es rs = (fs : List Answered) → (more : List Happened) × ((answered_within limit sum r (es ++ fs)).world.world.trace ≡ reverse_onto more (reverse_onto rs r.world.trace))

-- the events of a play grew by these, in order
abbrev pub Grew : AnsweredPlay → AnsweredPlay → List Answered → Type 0
Grew p q es = q.events ≡ reverse_onto es p.events

-- each of the events is the world's own, as where each client votes just as its word says
abbrev pub WordedFrom : Relayed → List Answered → Type 0
WordedFrom r [] = Unit {0}
WordedFrom r (e ∷ es) = (relays_on r e ≡ relays r e.event) × WordedFrom (relays_on r e) es
