-- What holds in every scene of a run: of each packet that was sent, of the node of each number, up or down, and of the events that are
-- over. It does where it does before anything happened, lasts through events in which no node takes a step, and where each step that
-- begins in it ends in it.
use Rattle.std.proofs.Common.{◌≡◌, ◌≢◌, ◌⊎◌, ℕ, ◌+◌, List, [], ◌∷◌, ◌++◌, Option, Some, None, refl, sym, subst, inl, inr}
use Rattle.std.specs.Prelude.{reverse}
use Rattle.rsct_packet.specs.Search.{Has}
use Rattle.rsct_packet.proofs.HasLaws.{has_append}
use Rattle.node_state.specs.declared.config.Config.{Config}
use Rattle.node_state.specs.declared.happened.Happened.TheVariants as happened
use Rattle.node_state.specs.declared.packet.Packet.{Packet}
use Rattle.node_state.specs.declared.state.Core.{Core}
use Rattle.node_state.specs.HandOn.{Answering}
use Rattle.node_state.specs.Step.{NodeEvent, started, stepped}
use Rattle.world_model.specs.declared.event.Event.{Event}
use Rattle.world_model.specs.Run.{Happening}
use Rattle.run_safety.specs.Past.{History}
use Rattle.step_refinement.specs.Tied.{Scene}
use Rattle.step_refinement.specs.Rules.{over, ended, nothing_yet, all_started, start_with, stopped, Arises}
use Rattle.step_refinement.specs.Runs.{noted}
use Rattle.step_refinement.proofs.Changed.{each_set}
use Rattle.run_induction.proofs.Idle.{AllElsewhere, Came}
use Rattle.run_induction.proofs.Ran.{Telling, Ran, Nothing, AllStart, Starts, Stops, Steps, Notes, Moves, Stays, Comes, Goes, all_opened, Outer, all_start_outer, start_outer, stop_outer, note_outer}

-- of a node, if it is up
abbrev pub IfUp : (Core → Type 0) → Option Core → Type 0
IfUp P None = Unit {0}
IfUp P (Some s) = P s

pub if_up_on : (P Q : Core → Type 0) (o : Option Core) → ((s : Core) → o ≡ Some s → P s → Q s) → IfUp P o → IfUp Q o
if_up_on P Q None on a = tt
if_up_on P Q (Some s) on a = on s refl a

-- of a node is said what its number, its incarnation, the packets that were sent, the history and itself, if it is up, tell
pub record Claim : Type 1 where
  pub sent : History → Packet → Type 0
  pub node : ℕ → ℕ → List Packet → History → Option Core → Type 0
  pub lines : History → Type 0

pub record Holds (p : Claim) (w : Scene) : Type 0 where
  pub sent : (x : Packet) → Has x w.sent → p.sent w.before x
  pub nodes : (m : ℕ) → p.node m (w.incs m) w.sent w.before (w.cores m)
  pub lines : p.lines w.before

-- a step of node n has led to t: of what it sent, of itself, of each other node, and of the events with this one
pub record Done (p : Claim) (w : Scene) (n : ℕ) (v : Event) (t : Core) : Type 0 where
  pub sends : (x : Packet) → Has x t.sends → p.sent (over v t ∷ w.before) x
  pub node : p.node n (w.incs n) (t.sends ++ w.sent) (over v t ∷ w.before) (Some t)
  pub others : (m : ℕ) → m ≢ n → p.node m (w.incs m) w.sent w.before (w.cores m) → p.node m (w.incs m) (t.sends ++ w.sent) (over v t ∷ w.before) (w.cores m)
  pub lines : p.lines (over v t ∷ w.before)

pub record Law (k : Telling) (c : Config) (p : Claim) : Type 0 where
  pub waits : (m : ℕ) → p.node m 0 [] [] None
  pub none : p.lines []
  pub sent_on : (e : Happening) (h : History) (x : Packet) → p.sent h x → p.sent (e ∷ h) x
  pub stays : (w : Scene) (e : Happening) (t : Scene) → Outer k c w e t → (m : ℕ) → AllElsewhere m e.records → p.node m (w.incs m) w.sent w.before (w.cores m) → p.node m (w.incs m) w.sent (e ∷ w.before) (w.cores m)
  pub comes : (w : Scene) (e : Happening) (t : Scene) → Outer k c w e t → (m : ℕ) → Came c m (w.incs m + 1) e.records → w.cores m ≡ None → p.node m (w.incs m) w.sent w.before None → p.node m (w.incs m + 1) w.sent (e ∷ w.before) (Some (started c m (w.incs m + 1)))
  pub goes : (w : Scene) (e : Happening) (t : Scene) → Outer k c w e t → (m : ℕ) (s : Core) → e.records ≡ happened.Down m ∷ [] → w.cores m ≡ Some s → p.node m (w.incs m) w.sent w.before (Some s) → p.node m (w.incs m) w.sent (e ∷ w.before) None
  pub lines_on : (w : Scene) (e : Happening) (t : Scene) → Outer k c w e t → p.lines w.before → p.lines (e ∷ w.before)
  pub steps : (w : Scene) (n : ℕ) (f : Answering) (s : Core) (e : NodeEvent) (v : Event) → Ran k c w → Ran k c (ended w n v (stepped f s e)) → w.cores n ≡ Some s → Arises w e → k.steps n e v → Holds p w → Done p w n v (stepped f s e)

module _ (k : Telling) (c : Config) (p : Claim) (law : Law k c p) where
  outer_holds : (w : Scene) (e : Happening) (t : Scene) → Outer k c w e t → Holds p w → Holds p t
  outer_holds w e t o h =
      record {
        sent = λ x i. subst (λ b. p.sent b x) (sym o.before) (law.sent_on e w.before x (h.sent x (subst (Has x) o.sent i)));
        nodes = λ m. subst (λ (z : List Packet × History). p.node m (t.incs m) z.0 z.1 (t.cores m)) (λ i. (sym o.sent i, sym o.before i)) (by m (w.incs m) (w.cores m) (t.incs m) (t.cores m) refl refl (o.moves m) (h.nodes m));
        lines = subst p.lines (sym o.before) (law.lines_on w e t o h.lines);
      }
    where
      by : (m i : ℕ) (q : Option Core) (j : ℕ) (r : Option Core) → w.incs m ≡ i → w.cores m ≡ q → Moves c m e.records i q j r → p.node m (w.incs m) w.sent w.before (w.cores m) → p.node m j w.sent (e ∷ w.before) r
      by m _ _ _ _ inc is (Stays i q all) a =
          subst (λ (z : ℕ × Option Core). p.node m z.0 w.sent (e ∷ w.before) z.1) (λ d. (inc d, is d)) (law.stays w e t o m all a)
      by m _ _ _ _ inc is (Comes i came) a =
          subst (λ z. p.node m (z + 1) w.sent (e ∷ w.before) (Some (started c m (z + 1)))) inc (law.comes w e t o m (subst (λ z. Came c m (z + 1) e.records) (sym inc) came) is (subst (p.node m (w.incs m) w.sent w.before) is a))
      by m _ _ _ _ inc is (Goes i s down) a =
          subst (λ z. p.node m z w.sent (e ∷ w.before) None) inc (law.goes w e t o m s down is (subst (p.node m (w.incs m) w.sent w.before) is a))

  step_holds : (w : Scene) (n : ℕ) (v : Event) (t : Core) → Done p w n v t → Holds p w → Holds p (ended w n v t)
  step_holds w n v t d h =
      record {
        sent = λ x i. by x (has_append x t.sends w.sent i);
        nodes = each_set (λ m o. p.node m (w.incs m) (t.sends ++ w.sent) (over v t ∷ w.before) o) w.cores n (Some t) d.node (λ m ne. d.others m ne (h.nodes m));
        lines = d.lines;
      }
    where
      by : (x : Packet) → Has x t.sends ⊎ Has x w.sent → p.sent (over v t ∷ w.before) x
      by x (inl i) = d.sends x i
      by x (inr i) = law.sent_on (over v t) w.before x (h.sent x i)

  nothing_holds : Holds p (nothing_yet c)
  nothing_holds = record { sent = λ x i. absurd i; nodes = law.waits; lines = law.none }

  pub ran_holds : (w : Scene) → Ran k c w → Holds p w
  ran_holds _ Nothing = nothing_holds
  ran_holds _ (AllStart fixed) =
      outer_holds (nothing_yet c) (record { event = None; records = (all_opened c).records }) (all_started c) (all_start_outer k c fixed) nothing_holds
  ran_holds _ (Starts w n e r free real down told) =
      outer_holds w (over e (started w.config n (w.incs n + 1))) (start_with w n e (started w.config n (w.incs n + 1))) (start_outer k c w n e r free real down told) (ran_holds w r)
  ran_holds _ (Stops w n e s r up told) =
      outer_holds w (record { event = Some e; records = happened.Down n ∷ [] }) (stopped w n e) (stop_outer k c w n e s r up told) (ran_holds w r)
  ran_holds _ (Steps w n f s e v r up arises told) =
      step_holds w n v (stepped f s e) (law.steps w n f s e v r (Steps w n f s e v r up arises told) up arises told (ran_holds w r)) (ran_holds w r)
  ran_holds _ (Notes w e rs r notes told) =
      outer_holds w (record { event = Some e; records = reverse rs }) (noted w e rs) (note_outer k c w e rs r notes told) (ran_holds w r)

-- ---- where nothing is said of nodes that are down

pub record UpClaim : Type 1 where
  pub sent : History → Packet → Type 0
  pub node : ℕ → ℕ → List Packet → History → Core → Type 0
  pub lines : History → Type 0

abbrev pub if_up : UpClaim → Claim
if_up p = record { sent = p.sent; node = λ m i ps h o. IfUp (p.node m i ps h) o; lines = p.lines }

pub record UpDone (p : UpClaim) (w : Scene) (n : ℕ) (v : Event) (t : Core) : Type 0 where
  pub sends : (x : Packet) → Has x t.sends → p.sent (over v t ∷ w.before) x
  pub node : p.node n (w.incs n) (t.sends ++ w.sent) (over v t ∷ w.before) t
  pub others : (m : ℕ) → m ≢ n → (d : Core) → w.cores m ≡ Some d → p.node m (w.incs m) w.sent w.before d → p.node m (w.incs m) (t.sends ++ w.sent) (over v t ∷ w.before) d
  pub lines : p.lines (over v t ∷ w.before)

pub record UpLaw (k : Telling) (c : Config) (p : UpClaim) : Type 0 where
  pub none : p.lines []
  pub sent_on : (e : Happening) (h : History) (x : Packet) → p.sent h x → p.sent (e ∷ h) x
  pub stays : (w : Scene) (e : Happening) (t : Scene) → Outer k c w e t → (m : ℕ) (s : Core) → w.cores m ≡ Some s → AllElsewhere m e.records → p.node m (w.incs m) w.sent w.before s → p.node m (w.incs m) w.sent (e ∷ w.before) s
  pub comes : (w : Scene) (e : Happening) (t : Scene) → Outer k c w e t → (m : ℕ) → Came c m (w.incs m + 1) e.records → w.cores m ≡ None → p.node m (w.incs m + 1) w.sent (e ∷ w.before) (started c m (w.incs m + 1))
  pub lines_on : (w : Scene) (e : Happening) (t : Scene) → Outer k c w e t → p.lines w.before → p.lines (e ∷ w.before)
  pub steps : (w : Scene) (n : ℕ) (f : Answering) (s : Core) (e : NodeEvent) (v : Event) → Ran k c w → Ran k c (ended w n v (stepped f s e)) → w.cores n ≡ Some s → Arises w e → k.steps n e v → Holds (if_up p) w → p.node n (w.incs n) w.sent w.before s → UpDone p w n v (stepped f s e)

module _ (k : Telling) (c : Config) (p : UpClaim) (law : UpLaw k c p) where
  up_law : Law k c (if_up p)
  up_law =
      record {
        waits = λ m. tt;
        none = law.none;
        sent_on = law.sent_on;
        stays = λ w e t o m all a. if_up_on (p.node m (w.incs m) w.sent w.before) (p.node m (w.incs m) w.sent (e ∷ w.before)) (w.cores m) (λ s up k. law.stays w e t o m s up all k) a;
        comes = λ w e t o m came down a. law.comes w e t o m came down;
        goes = λ w e t o m s down up a. tt;
        lines_on = law.lines_on;
        steps = λ w n f s e v r next up arises told h. done w n v (stepped f s e) (law.steps w n f s e v r next up arises told h (subst (IfUp (p.node n (w.incs n) w.sent w.before)) up (h.nodes n)));
      }
    where
      done : (w : Scene) (n : ℕ) (v : Event) (t : Core) → UpDone p w n v t → Done (if_up p) w n v t
      done w n v t d =
          record {
            sends = d.sends;
            node = d.node;
            others = λ m ne a. if_up_on (p.node m (w.incs m) w.sent w.before) (p.node m (w.incs m) (t.sends ++ w.sent) (over v t ∷ w.before)) (w.cores m) (λ s up k. d.others m ne s up k) a;
            lines = d.lines;
          }

  pub ups_hold : (w : Scene) → Ran k c w → Holds (if_up p) w
  ups_hold w r = ran_holds k c (if_up p) up_law w r

  -- of a node that is up
  pub up_holds : (w : Scene) → Ran k c w → (n : ℕ) (s : Core) → w.cores n ≡ Some s → p.node n (w.incs n) w.sent w.before s
  up_holds w r n s up = subst (IfUp (p.node n (w.incs n) w.sent w.before)) up ((ups_hold w r).nodes n)

-- ---- where something is said of the events that are over alone

pub record PastLaw (k : Telling) (c : Config) (P : History → Type 0) : Type 0 where
  pub none : P []
  pub outer : (w : Scene) (e : Happening) (t : Scene) → Outer k c w e t → P w.before → P (e ∷ w.before)
  pub steps : (w : Scene) (n : ℕ) (f : Answering) (s : Core) (e : NodeEvent) (v : Event) → Ran k c w → Ran k c (ended w n v (stepped f s e)) → w.cores n ≡ Some s → Arises w e → k.steps n e v → P w.before → P (over v (stepped f s e) ∷ w.before)

module _ (k : Telling) (c : Config) (P : History → Type 0) (law : PastLaw k c P) where
  abbrev past : Claim
  past = record { sent = λ h x. Unit {0}; node = λ m i ps h o. Unit {0}; lines = P }

  past_law : Law k c past
  past_law =
      record {
        waits = λ m. tt;
        none = law.none;
        sent_on = λ e h x a. tt;
        stays = λ w e t o m all a. tt;
        comes = λ w e t o m came down a. tt;
        goes = λ w e t o m s down up a. tt;
        lines_on = law.outer;
        steps = λ w n f s e v r next up arises told h. record { sends = λ x i. tt; node = tt; others = λ m ne a. tt; lines = law.steps w n f s e v r next up arises told h.lines };
      }

  pub past_holds : (w : Scene) → Ran k c w → P w.before
  past_holds w r = (ran_holds k c past past_law w r).lines
