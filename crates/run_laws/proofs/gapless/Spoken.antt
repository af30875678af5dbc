-- In each scene that events lead to: no refusal that was sent, or that a leader keeps, is that a group was dissolved.
use Rattle.std.proofs.Common.{◌≡◌, ℕ, ◌+◌, Some, subst}
use Rattle.rsct_packet.specs.Search.{Has}
use Rattle.node_state.specs.declared.config.Config.{Config}
use Rattle.node_state.specs.declared.group.Decision.{Decision}
use Rattle.node_state.specs.declared.group.GroupRow.{GroupRow}
use Rattle.node_state.specs.declared.packet.Packet.{Packet}
use Rattle.node_state.specs.declared.state.Core.{Core}
use Rattle.node_state.specs.State.{with_sessions}
use Rattle.node_state.specs.HandOn.{Answering}
use Rattle.node_state.specs.Step.{NodeEvent, Ticks, Asks, Given, Calls, Garbage, at_work, started, stepped}
use Rattle.step_refinement.specs.Tied.{Scene}
use Rattle.step_refinement.specs.Rules.{Arises}
use Rattle.step_refinement.specs.Runs.{Reached}
use Rattle.run_induction.proofs.Ran.{anyhow, ran_reached, reached_ran}
use Rattle.run_induction.proofs.Laws.{IfUp, UpClaim, if_up, Holds, UpLaw, ups_hold}
use Rattle.row_laws.proofs.hearing.Listening.{reached_attends}
use Rattle.step_walk.proofs.Changes.{Fairly}
use Rattle.run_laws.proofs.gapless.Fair.{FairBody, Speaks}
use Rattle.run_laws.proofs.gapless.Moving.{Carries, Moves, Remains, Enters, NotCall, FairEvent, step_moves}

abbrev Decides : Core → Type 0
Decides s = (row : GroupRow) → Has row s.groups → (d : Decision) → Has d row.led.decided → Fairly d.why

pub record Spoken (w : Scene) : Type 0 where
  pub sent : (x : Packet) → Has x w.sent → FairBody x.body
  pub nodes : (m : ℕ) (s : Core) → w.cores m ≡ Some s → Decides s

started_speaks : (c : Config) (n j : ℕ) → Speaks (started c n j)
unfolding started with_sessions
started_speaks c n j = record { spoken = λ x h. absurd h; decided = λ row h d i. absurd h }

pub moves_speak : (Q : Core → Type 0) (X : Type 0) (c d : Core) → Moves Q X c d → Speaks d
moves_speak Q X c d (Remains k) = k.speaks
moves_speak Q X c d (Enters x t i y k q v lt z) = z.speaks

-- a step, from such a scene
pub spoken_moves : (Q : Core → Type 0) (c : Config) (w : Scene) (n : ℕ) (f : Answering) (s : Core) (e : NodeEvent) → Reached c w → w.cores n ≡ Some s → Arises w e → Spoken w → Carries Q f → Q (at_work s) → Moves Q (NotCall e) (at_work s) (stepped f s e)
spoken_moves Q c w n f s e k up arises old carries holds =
    step_moves Q f carries s e ((reached_attends c w k).up n s up).fit (record { spoken = λ x h. absurd h; decided = old.nodes n s up }) (fair e arises) holds
  where
    fair : (e : NodeEvent) → Arises w e → FairEvent e
    fair Ticks a = tt
    fair (Asks mask) a = tt
    fair (Given p) a = old.sent p a
    fair (Calls d) a = tt
    fair Garbage a = tt

-- of nothing
abbrev pub Nought : Core → Type 0
Nought s = Unit {0}

pub nought_carries : (f : Answering) → Carries Nought f
nought_carries f = record { alike = λ s t a b q. tt; rings = λ s q. tt; fills = λ s xs q. tt }

abbrev speaking : UpClaim
speaking = record { sent = λ h x. FairBody x.body; node = λ m inc ps h s. Decides s; lines = λ h. Unit {0} }

spoken_in : (w : Scene) → Holds (if_up speaking) w → Spoken w
spoken_in w h = record { sent = h.sent; nodes = λ m s up. subst (IfUp Decides) up (h.nodes m) }

speaks_law : (c : Config) → UpLaw anyhow c speaking
speaks_law c =
    record {
      none = tt;
      sent_on = λ e h x k. k;
      stays = λ w e t o m s up all k. k;
      comes = λ w e t o m came down. (started_speaks c m (w.incs m + 1)).decided;
      lines_on = λ w e t o k. tt;
      steps = λ w n f s e v r next up arises told h k. let new = moves_speak Nought (NotCall e) (at_work s) (stepped f s e) (spoken_moves Nought c w n f s e (ran_reached anyhow c w r) up arises (spoken_in w h) (nought_carries f) tt) in record { sends = new.spoken; node = new.decided; others = λ m ne d is a. a; lines = tt };
    }

pub reached_spoken : (c : Config) (w : Scene) → Reached c w → Spoken w
reached_spoken c w k = spoken_in w (ups_hold anyhow c speaking (speaks_law c) w (reached_ran c w k))
