-- Every step of a run sends few packets: by induction over the events, each node is ready for the next.
use Rattle.std.proofs.Common.{◌≡◌, ℕ, ◌+◌, List, [], ◌∷◌, fold, Option, Some, None, Bool, true, false, refl, subst}
use Rattle.std.specs.Prelude.{◌==◌}
use Rattle.rsct_packet.specs.Mask.{nodes_of}
use Rattle.node_state.specs.declared.config.Config.{Config}
use Rattle.node_state.specs.declared.state.Core.{Core}
use Rattle.node_state.specs.Step.{NodeEvent, at_work, stepped}
use Rattle.node_state.specs.Step.NodeEvent.{Ticks, Asks, Given, Calls, Garbage}
use Rattle.step_refinement.specs.Tied.{Scene, Tied}
use Rattle.step_refinement.specs.Rules.{Arises, starts_too, nothing_yet}
use Rattle.step_refinement.specs.Runs.{Reached, Nothing, AllStart, Starts, Stops, Steps, Notes}
use Rattle.step_refinement.proofs.Begins.{begin_tied}
use Rattle.step_refinement.proofs.RunLaw.{reached_rests}
use Rattle.send_laws.specs.Bound.{FineIf, brought, brought_in, brought_to, Ready}
use Rattle.send_laws.specs.Lasting.{FewBody}
use Rattle.send_laws.proofs.ViewKeeps.{gathered_few}
use Rattle.send_laws.proofs.Steps.{moves_stepped, step_few}
use Rattle.send_laws.specs.RunLaws.{RunsAreReady, StepsOfRunsSend, SentInstallsAreFew}
use Rattle.send_laws.proofs.Nodes.{rooms, lists_end, waits_at_led}
use Rattle.send_laws.proofs.Brought.{body_fine}
use Rattle.send_laws.proofs.Small.{SmallCore, Small, starts_small, started_sends, stops_small, steps_small}

-- what an event brings may be entered
event_fine : (w : Scene) (n : ℕ) (s : Core) (e : NodeEvent) → ((g : List ℕ) → Tied g w n s) → SmallCore s → Small w.cores w.sent → Arises w e → FineIf s.views.view (brought s e)
unfolding brought brought_to
event_fine w n s Ticks all k small arises = tt
event_fine w n s (Asks mask) all k small arises = tt
event_fine w n s (Calls c) all k small arises = tt
event_fine w n s Garbage all k small arises = tt
event_fine w n s (Given p) all k small arises = by (p.to == s.views.me)
  where
    by : (b : Bool) → FineIf s.views.view (elim b [ true ↦ brought_in s p p.body | false ↦ None ])
    by true = body_fine w n s all k.lasting.views.gathering p.body p refl arises (small.sent_few p arises)
    by false = tt

ready : (w : Scene) (n : ℕ) (s : Core) (e : NodeEvent) → ((g : List ℕ) → Tied g w n (at_work s)) → SmallCore s → Small w.cores w.sent → Arises w e → Ready (at_work s) e
ready w n s e all k small arises =
    record {
      stands = record { few = k.members; order = (all []).own.0.order; room = rooms w n (at_work s) all };
      rings = k.lasting.rings;
      waits = waits_at_led w n (at_work s) all k.lasting.waits;
      answers = gathered_few s.views.gathering k.lasting.views.gathering;
      fine = event_fine w n (at_work s) e all (record { members = k.members; lasting = k.lasting }) small arises;
      ends = lists_end w n (at_work s) all;
    }

-- ---- every scene

abbrev Few : Scene → Type 0
Few w = Small w.cores w.sent

nothing_few : (c : Config) → Few (nothing_yet c)
nothing_few c = record { nodes = λ n s q. absurd cc; sent_few = λ p h. absurd h }

all_few : (ns : List ℕ) (w : Scene) → Few w → Few (fold (λ (w : Scene) n. starts_too w n (w.cores n)) w ns)
all_few [] w k = k
all_few (n ∷ ns) w k = all_few ns (starts_too w n (w.cores n)) (by (w.cores n))
  where
    by : (o : Option Core) → Few (starts_too w n o)
    by (Some s) = k
    by None = starts_small w.config w.cores w.sent n (w.incs n + 1) k

tied_all : (c : Config) (w : Scene) → Reached c w → (n : ℕ) (s : Core) → w.cores n ≡ Some s → (g : List ℕ) → Tied g w n (at_work s)
tied_all c w k n s up g = begin_tied g w n s up (reached_rests c w k g)

reached_few : (c : Config) (w : Scene) → Reached c w → Few w
reached_few c _ Nothing = nothing_few c
reached_few c _ (AllStart fixed) =
    all_few (nodes_of c.nodes) (record (nothing_yet c) { before = record { event = None; records = [] } ∷ [] }) (record { nodes = λ n s q. absurd cc; sent_few = λ p h. absurd h })
reached_few c _ (Starts w n e k free real down) = started_sends w.config w.cores w.sent n (w.incs n + 1) (reached_few c w k)
reached_few c _ (Stops w n e s k up) = stops_small w.cores w.sent n (reached_few c w k)
reached_few c _ (Steps w n f s e v k up arises) =
    let old : Few w = reached_few c w k in
    let m = moves_stepped f s e (ready w n s e (tied_all c w k n s up) (old.nodes n s up) old arises) in
    steps_small w.cores w.sent n (stepped f s e) m.stands.few (m.lasts (old.nodes n s up).lasting) old
reached_few c _ (Notes w e rs k notes) = reached_few c w k

pub runs_ready : RunsAreReady
runs_ready c w k n s up e arises =
    let small : Few w = reached_few c w k in ready w n s e (tied_all c w k n s up) (small.nodes n s up) small arises

pub runs_send : StepsOfRunsSend
runs_send c w k n s up e arises f = step_few f s e (runs_ready c w k n s up e arises)

pub installs_few : SentInstallsAreFew
installs_few c w k p i sent is = subst FewBody is ((reached_few c w k).sent_few p sent)
