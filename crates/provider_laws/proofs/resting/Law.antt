-- In every scene: between events each node that is up and not frozen rests, so the event of a goodbye puts nothing.
use Rattle.std.proofs.Common.{◌≡◌, ℕ, ◌+◌, List, Some, false, refl, sym, ap, ◌∙◌, subst}
use Rattle.std.specs.Prelude.{find}
use Rattle.rsct_packet.specs.Search.{Has}
use Rattle.rsct_packet.proofs.HasLaws.{has_reverse}
use Rattle.view_state.specs.Views.{is_frozen}
use Rattle.node_state.specs.declared.call.CallLine.TheVariants.{Goodbye}
use Rattle.node_state.specs.declared.config.Config.{Config}
use Rattle.node_state.specs.declared.happened.Happened.{Happened}
use Rattle.node_state.specs.declared.happened.Happened.TheVariants as happened
use Rattle.node_state.specs.declared.group.GroupRow.{GroupRow}
use Rattle.node_state.specs.declared.state.Core.{Core}
use Rattle.node_state.specs.State.{row_of, led_of, row_found, frozen, led_groups, with_sessions, has_name}
use Rattle.node_state.specs.HandOn.{Answering}
use Rattle.node_state.specs.Step.{NodeEvent, Calls, at_work, started, stepped}
use Rattle.node_state.specs.Calls.{take_call}
use Rattle.world_model.specs.declared.event.Event.{Event}
use Rattle.world_model.specs.declared.event.Event.TheVariants as event
use Rattle.run_safety.specs.Past.{History, EachEvent}
use Rattle.step_refinement.specs.Tied.{Scene}
use Rattle.step_refinement.specs.Rules.{over}
use Rattle.step_refinement.specs.Runs.{Reached}
use Rattle.run_induction.proofs.Idle.{Idle}
use Rattle.run_induction.proofs.Ran.{anyhow, ran_reached, reached_ran}
use Rattle.run_induction.proofs.Laws.{UpClaim, UpLaw, up_holds, PastLaw, past_holds}
use Rattle.provider_laws.proofs.leaving.Law.{recounting, recounted_ran}
use Rattle.provider_laws.specs.leaving.Scenes.{IsCall}
use Rattle.provider_laws.specs.resting.Rest.{NodesRest, GoodbyePutsNothing, GoodbyesPutNothing}
use Rattle.provider_laws.proofs.resting.Orderly.{Orderly, alike}
use Rattle.provider_laws.proofs.resting.Calling.{NoPut, Parts, goodbye_parts}
use Rattle.provider_laws.proofs.resting.Walking.{before_end, on_before_end, stepped_is}
use Rattle.provider_laws.proofs.resting.Onward.{bones_of, led_same}
use Rattle.provider_laws.proofs.resting.Trying.{Rest, rest_on}
use Rattle.provider_laws.proofs.resting.Passing.{AllRest}
use Rattle.provider_laws.proofs.resting.Ending.{ended_rests, ended_frozen, ended_same, ended_orderly}

-- ---- a node

-- between events
pub record Resting (s : Core) : Type 0 where
  pub orderly : Orderly s
  pub rests : frozen s ≡ false → AllRest s

-- a state of the same groups, view and config
pub resting_same : (s t : Core) → t.groups ≡ s.groups → t.views ≡ s.views → t.config ≡ s.config → Resting s → Resting t
unfolding frozen row_of led_of
resting_same s t groups views config k =
    record { orderly = alike s t groups k.orderly; rests = λ thawed g i. rest_same g (k.rests (ap is_frozen (sym views) ∙ thawed) g (subst (Has g) (led_same s t (ap bones_of groups) views config) i)) }
  where
    rest_same : (g : List ℕ) → Rest s g → Rest t g
    rest_same g r = rest_on s t g (λ h. ap (λ (rows : List GroupRow). (row_found h (find (has_name h) rows)).list) groups) (ap (λ (rows : List GroupRow). (row_found g (find (has_name g) rows)).led.waiting) groups) r

-- a step leaves it so
pub stepped_rests : (f : Answering) (s : Core) (e : NodeEvent) → Orderly s → Resting (stepped f s e)
stepped_rests f s e k = subst Resting (sym (stepped_is f s e)) (record { orderly = ended_orderly f u o; rests = λ thawed. ended_rests f u o (sym (ended_frozen f u o) ∙ thawed) })
  where
    a : Core
    a = at_work s

    u : Core
    u = before_end f a e

    o : Orderly u
    o = on_before_end f {s = a} e (alike s a refl k)

-- a goodbye puts nothing
goodbye_quiet : (f : Answering) (s : Core) (client : List ℕ) → Resting s → (r : Happened) → Has r (stepped f s (Calls (Goodbye client))).records → NoPut r
goodbye_quiet f s client k r i = parts.none r (subst (λ (c : Core). Has r c.records) (stepped_is f s (Calls (Goodbye client)) ∙ ended_same f u now.rests) i)
  where
    u : Core
    u = take_call (at_work s) (Goodbye client)

    parts : Parts (at_work s) u
    parts = goodbye_parts (at_work s) client refl

    now : Resting u
    now = resting_same s u parts.groups parts.views parts.config k

-- ---- every scene

pub started_rests : (c : Config) (n j : ℕ) → Resting (started c n j)
unfolding started with_sessions led_groups
started_rests c n j = record { orderly = record { order = tt; few = λ row i. absurd i }; rests = λ thawed g i. absurd i }

-- nothing is said of what was sent
abbrev restful : UpClaim
restful = record { sent = λ h x. Unit {0}; node = λ m inc ps h s. Resting s; lines = λ h. Unit {0} }

rest_law : (c : Config) → UpLaw anyhow c restful
rest_law c =
    record {
      none = tt;
      sent_on = λ e h x k. tt;
      stays = λ w e t o m s up all k. k;
      comes = λ w e t o m came down. started_rests c m (w.incs m + 1);
      lines_on = λ w e t o k. tt;
      steps = λ w n f s e v r next up arises told h k. record { sends = λ x i. tt; node = stepped_rests f s e k.orderly; others = λ m ne d is a. a; lines = tt };
    }

rested_at : (c : Config) (w : Scene) → Reached c w → (n : ℕ) (s : Core) → w.cores n ≡ Some s → Resting s
rested_at c w k n s up = up_holds anyhow c restful (rest_law c) w (reached_ran c w k) n s up

pub nodes_rest : NodesRest
nodes_rest c w k n s up f = ended_same f s (rested_at c w k n s up).rests

-- ---- events

abbrev Quiet : History → Type 0
Quiet h = EachEvent (λ event before. GoodbyePutsNothing event) h

-- where no node takes a step nothing is put
idle_put : (r : Happened) → Idle r → NoPut r
idle_put (happened.Put m u g i e) a = a
idle_put _ a = tt

step_quiet : (n : ℕ) (f : Answering) (s : Core) (e : NodeEvent) (v : Event) → IsCall n e v → Resting s → GoodbyePutsNothing (over v (stepped f s e))
step_quiet n f s e v is k m client q taken l u g i x h =
    let c : v ≡ event.Call m (Goodbye client) = cc in
    let b = is m (Goodbye client) c in
    subst (λ (y : NodeEvent). (r : Happened) → Has r (stepped f s y).records → NoPut r) (sym b.1) (goodbye_quiet f s client k) (happened.Put l u g i x) (has_reverse (happened.Put l u g i x) (stepped f s e).records h)

quiet_law : (c : Config) → PastLaw recounting c Quiet
quiet_law c =
    record {
      none = tt;
      outer = λ w e t o k. (λ m client q taken l u g i x h. idle_put (happened.Put l u g i x) (o.idle (happened.Put l u g i x) h), k);
      steps = λ w n f s e v r next up arises told k. (step_quiet n f s e v told.1 (rested_at c w (ran_reached recounting c w r) n s up), k);
    }

pub goodbyes_put_nothing : GoodbyesPutNothing
goodbyes_put_nothing c w k = past_holds recounting c Quiet (quiet_law c) w (recounted_ran c w k)
