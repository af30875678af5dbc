-- Answered events whose packets may have so many bytes, and how such runs go on part by part.
use Rattle.std.specs.Prelude.{◌≡◌, ℕ, List, [], ◌∷◌, ◌++◌, fold, Some, None}
use Rattle.rsct_packet.specs.Lists.{reverse_onto}
use Rattle.node_state.specs.declared.config.Config.{Config}
use Rattle.node_state.specs.declared.happened.Happened.{Happened}
use Rattle.world_model.specs.World.{World, happens, world_new}
use Rattle.world_model.specs.Kept.{Bytes, with_packet, sent_since, Ended}
use Rattle.world_laws.specs.world_answers.Answers.{Answered, goes_on}
use Rattle.world_laws.specs.world_answers.Plays.{AnsweredPlay}

-- the event that passes the limit leaves nothing
unfoldable pub answered_within : ℕ → ℕ → World → List Answered → Ended
answered_within limit sum w [] = record { world = w; passed = None }
answered_within limit sum w (e ∷ es) =
    let v : World = goes_on w e in
    let b : Bytes = fold (with_packet limit) (record { sum = sum; passed = None }) (sent_since w v) in
    elim b.passed [ Some n ↦ record { world = w; passed = Some n } | None ↦ answered_within limit b.sum v es ]

-- the events of a play, in order
abbrev pub answered_in : AnsweredPlay → List Answered
answered_in p = reverse_onto p.events []

-- how far the run of a play goes whose packets may have so many bytes
abbrev pub limited : ℕ → Config → AnsweredPlay → Ended
limited limit c p = answered_within limit 0 (world_new c) (answered_in p)

-- events lead on from one world to another: whatever comes after them, a limited run goes on from there
abbrev pub AnsweredRuns : ℕ → ℕ → World → List Answered → ℕ → World → Type 0
AnsweredRuns limit sum w es total v = (fs : List Answered) → answered_within limit sum w (es ++ fs) ≡ answered_within limit total v fs

-- among these events one passes the limit, with this sum: a limited run ends just before it
abbrev pub AnsweredEnds : ℕ → ℕ → World → List Answered → ℕ → World → Type 0
AnsweredEnds limit sum w es n v = (fs : List Answered) → answered_within limit sum w (es ++ fs) ≡ record { world = v; passed = Some n }

-- whatever comes after these events, the records of a limited run begin with these
abbrev pub AnsweredTells : ℕ → ℕ → World → List Answered → List Happened → Type 0
AnsweredTells limit sum w es rs = (fs : List Answered) → (more : List Happened) × ((answered_within limit sum w (es ++ fs)).world.trace ≡ reverse_onto more (reverse_onto rs w.trace))

-- the events of a play grew by these, in order
abbrev pub Grew : AnsweredPlay → AnsweredPlay → List Answered → Type 0
Grew p q es = q.events ≡ reverse_onto es p.events

-- each of the events is the world's own, as where each client votes just as its word says
abbrev pub WordedFrom : World → List Answered → Type 0
WordedFrom w [] = Unit {0}
WordedFrom w (e ∷ es) = (goes_on w e ≡ happens w e.event) × WordedFrom (goes_on w e) es
