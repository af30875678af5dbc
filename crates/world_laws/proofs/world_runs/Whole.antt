-- The run of a whole script.
use Rattle.std.proofs.Common.{◌≡◌, ℕ, ◌==◌, ◌+◌, Bool, true, false, List, [], ◌∷◌, ◌++◌, append-nil, Option, Some, None, refl, sym, ap, ◌∙◌}
use Rattle.std.specs.Prelude.{fold, find}
use Rattle.rsct_packet.specs.Lists.{reverse_onto}
use Rattle.rsct_packet.specs.Ids.{last_u32}
use Rattle.rsct_packet.specs.Mask.{nodes_of}
use Rattle.node_state.specs.declared.config.Config.{Config}
use Rattle.node_state.specs.declared.happened.Happened.{Happened}
use Rattle.node_state.specs.declared.config.Mode.{Mode}
use Rattle.node_state.specs.declared.config.Mode.TheVariants.{Fixed, Asked, Rings}
use Rattle.world_model.specs.declared.event.Event.{Event}
use Rattle.world_model.specs.declared.script.Script.{Script}
use Rattle.world_model.specs.World.{Node, Started, World, node_at, traced, inc_in, started_at, starts_if, node_starts, empty_world, world_of, world_new}
use Rattle.world_model.specs.Play.{plays, played, events_of}
use Rattle.world_model.specs.Kept.{Ended, runs_from, runs_within, ended, kept_past}
use Rattle.world_laws.specs.world_runs.Runs.{Runs, Ends, Recorded, Happens, Tells, unplayed}
use Rattle.world_laws.proofs.world_runs.Backwards.{reversed, reversed_back}

-- ---- a start sends nothing

abbrev SameSent : World → World → Type 0
SameSent w v = v.sent ≡ w.sent

start_sends : (w : World) (n last : ℕ) (t : Bool) → SameSent w (elim t [ true ↦ w | false ↦ started_at w n (last + 1) ])
unfolding started_at traced
start_sends w n last true = refl
start_sends w n last false = refl

starts_send : (w : World) (n last : ℕ) (o : Option Node) → (starts_if w n last o).sent ≡ w.sent
unfolding starts_if
starts_send w n last (Some x) = refl
starts_send w n last None = start_sends w n last (last == last_u32)

pub start_sends_nothing : (w : World) (n : ℕ) → (node_starts w n).sent ≡ w.sent
unfolding node_starts
start_sends_nothing w n = starts_send w n (inc_in (find (λ (x : Started). x.node == n) w.starts)) (node_at w n)

pub starts_send_nothing : (ns : List ℕ) (w : World) → (fold node_starts w ns).sent ≡ w.sent
starts_send_nothing [] w = refl
starts_send_nothing (n ∷ ns) w = starts_send_nothing ns (node_starts w n) ∙ start_sends_nothing w n

of_sends_nothing : (c : Config) (m : Mode) → (world_of c m).sent ≡ []
unfolding world_of
of_sends_nothing c Fixed = starts_send_nothing (nodes_of c.nodes) (empty_world c)
of_sends_nothing c Asked = refl
of_sends_nothing c Rings = refl

pub new_sends_nothing : (c : Config) → (world_new c).sent ≡ []
unfolding world_new
new_sends_nothing c = of_sends_nothing c c.mode

-- ---- at the end of the lines

-- the events of a script's lines
pub whole_events : (s : Script) (es : List Event) → Happens (unplayed s.config) (fold plays (unplayed s.config) s.lines) es → events_of s.config s.lines ≡ es
unfolding events_of played
whole_events s es h = ap (λ zs. reverse_onto zs []) h ∙ reversed_back es []

ended_by : (limit : ℕ) (s : Script) (es : List Event) → s.begun ≡ true → Happens (unplayed s.config) (fold plays (unplayed s.config) s.lines) es → ended limit s ≡ runs_from limit 0 (world_new s.config) (es ++ [])
unfolding ended runs_within
ended_by limit s es begun h =
    ap (λ (t : Bool). elim t [ true ↦ runs_within limit s.config (events_of s.config s.lines) | false ↦ record { world = world_new s.config; passed = None } ]) begun
    ∙ ap (runs_from limit 0 (world_new s.config)) (whole_events s es h ∙ sym (append-nil es))

-- none of them passes the limit
pub whole_runs : (limit total : ℕ) (s : Script) (es : List Event) (v : World) → s.begun ≡ true → Happens (unplayed s.config) (fold plays (unplayed s.config) s.lines) es → Runs limit 0 (world_new s.config) es total v
    → (kept_past limit s ≡ None) × ((ended limit s).world ≡ v)
unfolding kept_past runs_from
whole_runs limit total s es v begun h runs =
    let e : ended limit s ≡ record { world = v; passed = None } = ended_by limit s es begun h ∙ runs [] in (ap (λ (z : Ended). z.passed) e, ap (λ (z : Ended). z.world) e)

-- one of them passes the limit
pub whole_ends : (limit n : ℕ) (s : Script) (es : List Event) (v : World) → s.begun ≡ true → Happens (unplayed s.config) (fold plays (unplayed s.config) s.lines) es → Ends limit 0 (world_new s.config) es n v
    → (kept_past limit s ≡ Some n) × ((ended limit s).world ≡ v)
unfolding kept_past
whole_ends limit n s es v begun h ends =
    let e : ended limit s ≡ record { world = v; passed = Some n } = ended_by limit s es begun h ∙ ends [] in (ap (λ (z : Ended). z.passed) e, ap (λ (z : Ended). z.world) e)

-- what is recorded of them is told first
pub whole_tells : (limit : ℕ) (s : Script) (es : List Event) (rs : List Happened) → s.begun ≡ true → Happens (unplayed s.config) (fold plays (unplayed s.config) s.lines) es → Tells limit 0 (world_new s.config) es rs
    → (more : List Happened) × Recorded (world_new s.config) (ended limit s).world (rs ++ more)
whole_tells limit s es rs begun h tells =
    let t : (more : List Happened) × ((runs_from limit 0 (world_new s.config) (es ++ [])).world.trace ≡ reverse_onto more (reverse_onto rs (world_new s.config).trace)) = tells [] in
    (t.0, ap (λ (z : Ended). z.world.trace) (ended_by limit s es begun h) ∙ (t.1 ∙ reversed rs t.0 (world_new s.config).trace))
