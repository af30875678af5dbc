-- Each request of a run has a spelling.
use Rattle.std.proofs.Common.{◌≡◌, ◌⊎◌, ℕ, ◌+◌, List, [], ◌∷◌, ◌++◌, Some, refl, sym, ◌∙◌, subst, inl, inr, arith}
use Rattle.std.specs.Prelude.{reverse}
use Rattle.rsct_packet.specs.declared.ids.ProviderId.{ProviderId}
use Rattle.rsct_packet.specs.Fields.{IsNode, IsU32}
use Rattle.rsct_packet.specs.Search.{Has}
use Rattle.rsct_packet.proofs.HasLaws.{has_append, append_has_right, has_reverse}
use Rattle.proposal_core.specs.declared.proposal.Proposal.{Proposal}
use Rattle.session_state.specs.declared.state.Request.{Request}
use Rattle.session_state.specs.declared.state.SessionState.{SessionState}
use Rattle.view_state.specs.Views.{views_new}
use Rattle.node_state.specs.declared.call.CallLine.{CallLine}
use Rattle.node_state.specs.declared.config.Config.{Config}
use Rattle.node_state.specs.declared.happened.Happened.{Happened}
use Rattle.node_state.specs.declared.happened.Happened.TheVariants as happened
use Rattle.node_state.specs.declared.state.Core.{Core}
use Rattle.node_state.specs.State.{with_sessions}
use Rattle.node_state.specs.HandOn.{Answering}
use Rattle.node_state.specs.Applying.{level_set}
use Rattle.node_state.specs.Step.{NodeEvent, Ticks, Asks, Given, Calls, Garbage, at_work, stepped, started}
use Rattle.world_model.specs.Run.{Happening}
use Rattle.world_model.specs.declared.event.Event.{Event}
use Rattle.world_model.specs.declared.event.Event.TheVariants.{Call}
use Rattle.run_safety.specs.Past.{History, records_of}
use Rattle.step_refinement.specs.Tied.{Scene, NodeIsIf, Rests}
use Rattle.step_refinement.specs.Rules.{over}
use Rattle.step_walk.proofs.Walking.{called}
use Rattle.run_induction.proofs.Idle.{Came, started_turned}
use Rattle.run_induction.proofs.Ran.{Ran}
use Rattle.run_induction.proofs.Laws.{UpClaim, UpLaw, ups_hold, up_holds}
use Rattle.row_laws.specs.failed_rows.Scenes.{Names}
use Rattle.row_laws.proofs.failed_rows.Law.{playing, played_ran, rests_in}
use Rattle.row_laws.proofs.failed_rows.Origin.{root_of}
use Rattle.call_laws.proofs.Walked.{Answers, Walked, walked_stepped}
use Rattle.asking_laws.specs.Requests.{CallFits, EventFits, HappeningFits, AllFit, IsRequest, RequestsAreSpelled, BodyFits, SentAreSpelled, RequestsOfScenesAreSpelled}
use Rattle.asking_laws.proofs.Calls.{RequestFits, Sound, IsOutstanding, called_sound, called_sent, called_asked}
use Rattle.asking_laws.proofs.Walked.{Holding, sound_stepped}

-- what is said of a node that is up: its number, its incarnation, and what it has of its clients
pub record Fitting (m inc : ℕ) (t : SessionState) : Type 0 where
  pub node : IsNode m
  pub number : IsU32 inc
  pub sound : Sound t

-- ---- a node that starts

started_sound : (c : Config) (n j : ℕ) → Sound (started c n j).sessions
unfolding started with_sessions level_set views_new
started_sound c n j = record { last = omega arith; providers = λ y i. absurd i; requests = λ q i. absurd i }

-- it is recorded
started_there : (c : Config) (n j : ℕ) (rs : List Happened) → Came c n j rs → Has (happened.Up n j) rs
started_there c n j rs k =
    subst (Has (happened.Up n j)) (sym k.is) (append_has_right (happened.Up n j) k.later (reverse (started c n j).records ++ k.first) (subst (Has (happened.Up n j)) (sym (started_turned c n j k.first)) (inr (append_has_right (happened.Up n j) _ (happened.Up n j ∷ k.first) (inl refl)))))

started_fits : (c : Config) (n j : ℕ) (e : Happening) → Came c n j e.records → HappeningFits e → Fitting n j (started c n j).sessions
started_fits c n j e k f =
    let a : IsNode n × IsU32 j = f.started (happened.Up n j) (started_there c n j e.records k) in
    record { node = a.0; number = a.1; sound = started_sound c n j }

-- ---- a step

module _ (c : Config) (w : Scene) (n : ℕ) (f : Answering) (s : Core) (e : NodeEvent) (v : Event) (k : Ran playing c w) (up : w.cores n ≡ Some s) (says : Names n e v) (fits : HappeningFits (over v (stepped f s e))) (own : Fitting n (w.incs n) s.sessions) where
  abbrev t : Core
  t = stepped f s e

  abbrev root : Core
  root = called (at_work s) e

  rests : (g : List ℕ) → Rests g w
  rests g = rests_in c w k g

  here : NodeIsIf w.config (rests []).ghost [] n (w.incs n) (Some s)
  here = subst (NodeIsIf w.config (rests []).ghost [] n (w.incs n)) up ((rests []).nodes n)

  node : IsNode s.sessions.me
  node = subst IsNode (sym here.0.owes.me) own.node

  inc : IsU32 s.sessions.inc
  inc = subst IsU32 (sym (here.0.owes.inc_of ∙ here.2)) own.number

  call_fits : (d : CallLine) → v ≡ Call n d → CallFits d
  call_fits d is = subst (λ (z : Event). EventFits (Some z)) is fits.called

  root_sound : (d : NodeEvent) → Names n d v → Sound (called (at_work s) d).sessions
  root_sound Ticks say = own.sound
  root_sound (Asks mask) say = own.sound
  root_sound (Given q) say = own.sound
  root_sound Garbage say = own.sound
  root_sound (Calls d) say = called_sound (at_work s) refl refl own.sound node inc d (call_fits d (say d refl))

  root_sent : (d : NodeEvent) → Names n d v → SentAreSpelled (called (at_work s) d).sends
  root_sent Ticks say q i = absurd i
  root_sent (Asks mask) say q i = absurd i
  root_sent (Given p) say q i = absurd i
  root_sent Garbage say q i = absurd i
  root_sent (Calls d) say q i = called_sent (at_work s) refl refl own.sound node inc d (call_fits d (say d refl)) q i

  holding : Holding t
  holding = sound_stepped f s e (record { sound = root_sound e says; sent = root_sent e says })

  root_asked : (d : NodeEvent) → Names n d v → (p : ProviderId) (r : ℕ) (g : List ℕ) (x : Proposal) → Has (happened.Asked p r g x) (called (at_work s) d).records → IsOutstanding (called (at_work s) d).sessions (happened.Asked p r g x)
  root_asked Ticks say p r g x i = absurd i
  root_asked (Asks mask) say p r g x i = absurd i
  root_asked (Given q) say p r g x i = absurd i
  root_asked Garbage say p r g x i = absurd i
  root_asked (Calls d) say p r g x i = called_asked (at_work s) refl refl own.sound node inc d (call_fits d (say d refl)) p r g x i

  -- what is recorded of requests is of the call
  from_root : (d : NodeEvent) → Walked (root_of (at_work s) d) (stepped f s d) → (p : ProviderId) (r : ℕ) (g : List ℕ) (x : Proposal) → Has (happened.Asked p r g x) (stepped f s d).records → Has (happened.Asked p r g x) (root_of (at_work s) d).records
  from_root d k p r g x i = by (k.fresh (happened.Asked p r g x) i)
    where
      by : Has (happened.Asked p r g x) (root_of (at_work s) d).records ⊎ Answers (stepped f s d).records (happened.Asked p r g x) → Has (happened.Asked p r g x) (root_of (at_work s) d).records
      by (inl h) = h
      by (inr z) = absurd z

  spelled : (p : ProviderId) (r : ℕ) (g : List ℕ) (x : Proposal) → Has (happened.Asked p r g x) t.records → IsRequest p r g x
  spelled p r g x i = by (root_asked e says p r g x (at_root e (from_root e (walked_stepped f s e) p r g x i)))
    where
      at_root : (d : NodeEvent) → Has (happened.Asked p r g x) (root_of (at_work s) d).records → Has (happened.Asked p r g x) (called (at_work s) d).records
      at_root Ticks h = h
      at_root (Asks mask) h = h
      at_root (Given q) h = h
      at_root (Calls d) h = h
      at_root Garbage h = h

      by : IsOutstanding root.sessions (happened.Asked p r g x) → IsRequest p r g x
      by o =
          let q : Request = o.0 in
          let fits : RequestFits q = (root_sound e says).requests q o.1 in
          let same : happened.Asked p r g x ≡ happened.Asked q.provider q.request q.group q.proposal = o.2 in
          let who : q.provider ≡ p = cc in
          let number : q.request ≡ r = cc in
          let group : q.group ≡ g = cc in
          let is : q.proposal ≡ x = cc in
          subst (λ (z : ProviderId × ℕ × List ℕ × Proposal). IsRequest z.0 z.1 z.2 z.3) (λ i. (who i, number i, group i, is i)) fits

-- ---- every scene

abbrev claim : UpClaim
claim = record { sent = λ h x. AllFit h → BodyFits x.body; node = λ m inc ps h s. AllFit h → Fitting m inc s.sessions; lines = λ h. AllFit h → RequestsAreSpelled h }

-- of an event with these records, where each of its own requests has a spelling
more : (e : Happening) (h : History) → ((p : ProviderId) (r : ℕ) (g : List ℕ) (x : Proposal) → Has (happened.Asked p r g x) e.records → IsRequest p r g x) → RequestsAreSpelled h → RequestsAreSpelled (e ∷ h)
more e h new old p r g x i = by (has_append (happened.Asked p r g x) e.records (records_of h) i)
  where
    by : Has (happened.Asked p r g x) e.records ⊎ Has (happened.Asked p r g x) (records_of h) → IsRequest p r g x
    by (inl j) = new p r g x j
    by (inr j) = old p r g x j

law : (c : Config) → UpLaw playing c claim
law c =
    record {
      none = λ f p r g x i. absurd i;
      sent_on = λ e h x k f. k f.1;
      stays = λ w e t o m s up all k f. k f.1;
      comes = λ w e t o m came down f. started_fits c m (w.incs m + 1) e came f.0;
      lines_on = λ w e t o k f. more e w.before (λ p r g x i. absurd (o.idle (happened.Asked p r g x) i)) (k f.1);
      steps = λ w n f s e v r next up arises says h k.
          record {
            sends = λ x i a. (holding c w n f s e v r up says a.0 (k a.1)).sent x i;
            node = λ a. let own : Fitting n (w.incs n) s.sessions = k a.1 in record { node = own.node; number = own.number; sound = (holding c w n f s e v r up says a.0 own).sound };
            others = λ m ne d is b a. b a.1;
            lines = λ a. more (over v (stepped f s e)) w.before (λ p q g x i. spelled c w n f s e v r up says a.0 (k a.1) p q g x (has_reverse (happened.Asked p q g x) (stepped f s e).records i)) (h.lines a.1);
          };
    }

pub requests_of_scenes_are_spelled : RequestsOfScenesAreSpelled
requests_of_scenes_are_spelled c w k f =
    let r : Ran playing c w = played_ran c w k in
    ((ups_hold playing c claim (law c) w r).lines f, λ n s up q i. (up_holds playing c claim (law c) w r n s up f).sound.requests q i, λ q i. (ups_hold playing c claim (law c) w r).sent q i f)
