-- In each scene whose history names calls, and calls alone, as calls: who is told DISSOLVED was left behind.
use Rattle.std.proofs.Common.{◌≡◌, ◌⊎◌, ℕ, [], Some, true, false, refl, sym, ◌∙◌, subst, inl, inr}
use Rattle.std.specs.Prelude.{IsTrue, reverse}
use Rattle.std.specs.List.{list_any}
use Rattle.rsct_packet.specs.declared.ids.ProviderId.{ProviderId}
use Rattle.rsct_packet.specs.Search.{Has}
use Rattle.rsct_packet.proofs.HasLaws.{has_reverse}
use Rattle.client_callbacks.specs.declared.told.Why.TheVariants.{Dissolved}
use Rattle.session_state.specs.declared.state.Request.{Request}
use Rattle.node_state.specs.declared.config.Config.{Config}
use Rattle.node_state.specs.declared.happened.Happened.{Happened}
use Rattle.node_state.specs.declared.happened.Happened.TheVariants as happened
use Rattle.node_state.specs.declared.state.Core.{Core}
use Rattle.node_state.specs.HandOn.{Answering}
use Rattle.node_state.specs.Step.{NodeEvent, Ticks, Asks, Given, Calls, Garbage, at_work, stepped}
use Rattle.world_model.specs.declared.event.Event.{Event}
use Rattle.world_model.specs.Run.{Happening}
use Rattle.run_safety.specs.Past.{History, EachEvent, earlier}
use Rattle.run_safety.specs.SafeHeard.{LeftBehind, is_left_behind, enters}
use Rattle.run_safety.specs.Stays.{stays, was_let_go}
use Rattle.step_refinement.specs.Tied.{Scene, NodeIsIf, Rests}
use Rattle.step_refinement.specs.Rules.{over, Arises}
use Rattle.step_refinement.proofs.RunLaw.{reached_rests}
use Rattle.run_induction.proofs.Idle.{Idle}
use Rattle.run_induction.proofs.Ran.{Ran}
use Rattle.run_induction.proofs.Laws.{PastLaw, past_holds}
use Rattle.row_laws.proofs.failed_rows.Living.{IsLive}
use Rattle.row_laws.proofs.failed_rows.Origin.{root_of}
use Rattle.provider_laws.proofs.leaving.Left.{Known, Left, Says, left_stepped}
use Rattle.provider_laws.proofs.leaving.Law.{recounting, recounted_ran, reached, stay_in}
use Rattle.run_laws.specs.gapless.Left.{ToldWereLeft, TheToldWereLeftBehind}
use Rattle.run_laws.proofs.gapless.Moving.{Moves, Remains, Enters, NotCall}
use Rattle.run_laws.proofs.gapless.Spoken.{Nought, nought_carries, spoken_moves, reached_spoken}
use Rattle.run_laws.proofs.gapless.Entered.{WasLeft, entered, was_left}

-- nobody is told anything
abbrev Untold : Happened → Type 0
Untold (happened.Told p r y) = ⊥
Untold _ = Unit {0}

untold_law : (event : Happening) (before : History) → ((r : Happened) → Has r event.records → Untold r) → ToldWereLeft event before
untold_law event before none p r h = absurd (none (happened.Told p r Dissolved) h)

idle_untold : (r : Happened) → Idle r → Untold r
idle_untold (happened.Told p r y) a = a
idle_untold _ a = tt

-- ---- a step

-- before a step that is no call, whoever is known was not let go
known_lives : (c : Config) (w : Scene) → Ran recounting c w → (n : ℕ) (s : Core) → w.cores n ≡ Some s → (p : ProviderId) → Known s.sessions p → was_let_go p w.before ≡ false
known_lives c w k n s up p known = by known
  where
    live : IsLive s.sessions p → was_let_go p w.before ≡ false
    live l = subst (λ q. was_let_go q w.before ≡ false) l.2 (stay_in c w k n s up l.0 l.1)

    rests : Rests [] w
    rests = reached_rests c w (reached c w k) []

    here : NodeIsIf w.config rests.ghost [] n (w.incs n) (Some s)
    here = subst (NodeIsIf w.config rests.ghost [] n (w.incs n)) up (rests.nodes n)

    by : ((q : Request) × Has q s.sessions.requests × (q.provider ≡ p)) ⊎ IsLive s.sessions p → was_let_go p w.before ≡ false
    by (inl q) = let y = here.0.owes.attended q.0 q.1 in live (y.0, y.1, y.2 ∙ q.2)
    by (inr l) = live l

told_lives : (c : Config) (w : Scene) → Ran recounting c w → (n : ℕ) (f : Answering) (s : Core) (e : NodeEvent) → w.cores n ≡ Some s → NotCall e → (p : ProviderId) (r : ℕ) → Has (happened.Told p r Dissolved) (stepped f s e).records → was_let_go p w.before ≡ false
told_lives c w k n f s e up calm p r h = by e calm h
  where
    at : (e : NodeEvent) → root_of (at_work s) e ≡ at_work s → Has (happened.Told p r Dissolved) (stepped f s e).records → was_let_go p w.before ≡ false
    at e same h = said (left.fresh (happened.Told p r Dissolved) h)
      where
        left : Left (at_work s) (stepped f s e)
        left = subst (λ z. Left z (stepped f s e)) same (left_stepped f s e)

        said : Has (happened.Told p r Dissolved) [] ⊎ Says s.sessions (stepped f s e).sessions (happened.Told p r Dissolved) → was_let_go p w.before ≡ false
        said (inl z) = absurd z
        said (inr z) = known_lives c w k n s up p z.0

    by : (e : NodeEvent) → NotCall e → Has (happened.Told p r Dissolved) (stepped f s e).records → was_let_go p w.before ≡ false
    by Ticks a h = at Ticks refl h
    by (Asks mask) a h = at (Asks mask) refl h
    by (Given q) a h = at (Given q) refl h
    by (Calls d) a h = absurd a
    by Garbage a h = at Garbage refl h

step_told : (c : Config) (w : Scene) (n : ℕ) (f : Answering) (s : Core) (e : NodeEvent) (v : Event) → Ran recounting c w → w.cores n ≡ Some s → Arises w e → ToldWereLeft (over v (stepped f s e)) w.before
step_told c w n f s e v k up arises p r h =
    by (spoken_moves Nought c w n f s e (reached c w k) up arises (reached_spoken c w (reached c w k)) (nought_carries f) tt)
  where
    d : Core
    d = stepped f s e

    it : Happened
    it = happened.Told p r Dissolved

    by : Moves Nought (NotCall e) (at_work s) d → LeftBehind p (over v d) w.before
    by (Remains fair) = absurd (let z : true ≡ false = fair.mild it (subst (Has it) fair.is (has_reverse it d.records h)) in cc)
    by (Enters calm t i does fair q same lt rest) =
        let l : WasLeft n (earlier (reverse d.records) w.before) p = was_left c w n f s e v (reached c w k) up arises t i does fair same lt rest p r h in
        record {
          entered = subst (λ m. IsTrue (list_any (enters m) (reverse d.records))) (sym l.node) (entered c w n f s e v (reached c w k) up arises t i does fair same lt rest);
          group = l.group;
          left = subst (λ m. IsTrue (is_left_behind p (stays m l.group (earlier (reverse d.records) w.before)))) (sym l.node) l.left;
          lives = told_lives c w k n f s e up calm p r (has_reverse it d.records h);
        }

-- ---- every scene

left_law : (c : Config) → PastLaw recounting c (EachEvent ToldWereLeft)
left_law c =
    record {
      none = tt;
      outer = λ w e t o k. (untold_law e w.before (λ r i. idle_untold r (o.idle r i)), k);
      steps = λ w n f s e v r next up arises told k. (step_told c w n f s e v r up arises, k);
    }

pub told_were_left : TheToldWereLeftBehind
told_were_left c w k = past_holds recounting c (EachEvent ToldWereLeft) (left_law c) w (recounted_ran c w k)
