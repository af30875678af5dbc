-- Laws of records alone: what holds of each packet that was sent, of each node that is up and of each record of every scene. What is
-- said of a node may speak of what was sent, too. It holds where it is kept as packets and records are added, holds of a node that
-- starts and of records that put nothing, and where each step that begins in it ends in it.
use Rattle.std.proofs.Common.{◌≡◌, ℕ, ◌+◌, List, ◌∷◌, ◌++◌, Some}
use Rattle.std.specs.Prelude.{reverse}
use Rattle.rsct_packet.specs.Search.{Has}
use Rattle.rsct_packet.proofs.HasLaws.{append_has_right}
use Rattle.node_state.specs.declared.config.Config.{Config}
use Rattle.node_state.specs.declared.happened.Happened.{Happened}
use Rattle.node_state.specs.declared.packet.Packet.{Packet}
use Rattle.node_state.specs.declared.state.Core.{Core}
use Rattle.node_state.specs.HandOn.{Answering}
use Rattle.node_state.specs.Step.{NodeEvent, started, stepped}
use Rattle.world_model.specs.declared.event.Event.{Event}
use Rattle.run_safety.specs.Past.{History, records_of, Within, EachRecord}
use Rattle.step_refinement.specs.Tied.{Scene, Rests}
use Rattle.step_refinement.specs.Rules.{over, ended, Arises}
use Rattle.step_refinement.specs.Runs.{Reached}
use Rattle.step_refinement.proofs.RunLaw.{reached_rests}
use Rattle.step_refinement.proofs.Turns.{has_turned}
use Rattle.run_induction.proofs.Quiet.{PutsNone, idle_puts_none}
use Rattle.run_induction.proofs.Idle.{within_idle}
use Rattle.run_induction.proofs.Ran.{anyhow, reached_ran, ran_reached}
use Rattle.run_induction.proofs.Laws as laws
use Rattle.run_induction.proofs.Laws.{UpClaim, UpLaw, UpDone, if_up, ups_hold, up_holds}

abbrev pub OfPackets : Type 1
OfPackets = List Happened → Packet → Type 0

abbrev pub OfNodes : Type 1
OfNodes = List Packet → List Happened → Core → Type 0

abbrev pub OfRecords : Type 1
OfRecords = List Happened → History → Happened → Type 0

abbrev pub claim : OfPackets → OfNodes → OfRecords → UpClaim
claim Sent Node Line = record { sent = λ h p. Sent (records_of h) p; node = λ m i ps h s. Node ps (records_of h) s; lines = EachRecord Line }

-- what holds of a scene
abbrev pub Holds : OfPackets → OfNodes → OfRecords → Scene → Type 0
Holds Sent Node Line = laws.Holds (if_up (claim Sent Node Line))

-- what holds of a node that a step has led to, of what it sent and of what it recorded, before the event is over
pub record Done (Sent : OfPackets) (Node : OfNodes) (Line : OfRecords) (w : Scene) (s : Core) : Type 0 where
  pub sends : (p : Packet) → Has p s.sends → Sent (s.records ++ records_of w.before) p
  pub node : Node (s.sends ++ w.sent) (s.records ++ records_of w.before) s
  pub lines : Within Line (reverse s.records) w.before

abbrev pub Among : List Happened → List Happened → Type 0
Among rs ts = (r : Happened) → Has r rs → Has r ts

abbrev pub Sends : List Packet → List Packet → Type 0
Sends ps qs = (p : Packet) → Has p ps → Has p qs

pub record Invariant (Sent : OfPackets) (Node : OfNodes) (Line : OfRecords) : Type 0 where
  pub sent_on : (rs ts : List Happened) → Among rs ts → (p : Packet) → Sent rs p → Sent ts p
  pub node_on : (ps qs : List Packet) → Sends ps qs → (rs ts : List Happened) → Among rs ts → (s : Core) → Node ps rs s → Node qs ts s
  pub starts : (ps : List Packet) (rs : List Happened) (c : Config) (n j : ℕ) → Node ps rs (started c n j)
  pub quiet : (r : Happened) (now : List Happened) (before : History) → PutsNone r → Line now before r
  pub steps : (w : Scene) (n : ℕ) (f : Answering) (s : Core) (e : NodeEvent) (v : Event) → w.cores n ≡ Some s → ((g : List ℕ) → Rests g w) → ((g : List ℕ) → Rests g (ended w n v (stepped f s e))) → Arises w e → Holds Sent Node Line w → Node w.sent (records_of w.before) s → Done Sent Node Line w (stepped f s e)

module _ (Sent : OfPackets) (Node : OfNodes) (Line : OfRecords) (law : Invariant Sent Node Line) (c : Config) where
  -- the event is over
  over_done : (w : Scene) (n : ℕ) (v : Event) (s : Core) → Done Sent Node Line w s → laws.Holds (if_up (claim Sent Node Line)) w → UpDone (claim Sent Node Line) w n v s
  over_done w n v s d k =
      record {
        sends = λ p i. law.sent_on (s.records ++ records_of w.before) (records_of (over v s ∷ w.before)) turned p (d.sends p i);
        node = law.node_on (s.sends ++ w.sent) (s.sends ++ w.sent) (λ p i. i) (s.records ++ records_of w.before) (records_of (over v s ∷ w.before)) turned s d.node;
        others = λ m ne o up a. law.node_on w.sent (s.sends ++ w.sent) (λ p i. append_has_right p s.sends w.sent i) (records_of w.before) (records_of (over v s ∷ w.before)) (λ r i. append_has_right r (reverse s.records) (records_of w.before) i) o a;
        lines = (d.lines, k.lines);
      }
    where
      turned : Among (s.records ++ records_of w.before) (records_of (over v s ∷ w.before))
      turned r i = has_turned r s.records (records_of w.before) i

  as_law : UpLaw anyhow c (claim Sent Node Line)
  as_law =
      record {
        none = tt;
        sent_on = λ e h p k. law.sent_on (records_of h) (e.records ++ records_of h) (λ r i. append_has_right r e.records (records_of h) i) p k;
        stays = λ w e t o m s up all k. law.node_on w.sent w.sent (λ p i. i) (records_of w.before) (e.records ++ records_of w.before) (λ r i. append_has_right r e.records (records_of w.before) i) s k;
        comes = λ w e t o m came down. law.starts w.sent (e.records ++ records_of w.before) c m (w.incs m + 1);
        lines_on = λ w e t o k. (within_idle Line (λ r now h idle. law.quiet r now h (idle_puts_none r idle)) e.records w.before o.idle, k);
        steps = λ w n f s e v r next up arises told k a. over_done w n v (stepped f s e) (law.steps w n f s e v up (λ g. reached_rests c w (ran_reached anyhow c w r) g) (λ g. reached_rests c (ended w n v (stepped f s e)) (ran_reached anyhow c (ended w n v (stepped f s e)) next) g) arises k a) k;
      }

module _ (Sent : OfPackets) (Node : OfNodes) (Line : OfRecords) (law : Invariant Sent Node Line) where
  pub reached_holds : (c : Config) (w : Scene) → Reached c w → Holds Sent Node Line w
  reached_holds c w k = ups_hold anyhow c (claim Sent Node Line) (as_law Sent Node Line law c) w (reached_ran c w k)

  -- of a node that is up
  pub node_holds : (c : Config) (w : Scene) → Reached c w → (n : ℕ) (s : Core) → w.cores n ≡ Some s → Node w.sent (records_of w.before) s
  node_holds c w k n s up = up_holds anyhow c (claim Sent Node Line) (as_law Sent Node Line law c) w (reached_ran c w k) n s up
