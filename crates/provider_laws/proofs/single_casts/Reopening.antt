-- In every scene that events lead to, no provider hears a phase opened again, where it hears no place of a list twice in a row.
use Rattle.std.proofs.Common.{◌≡◌, ◌≤◌, ◌<◌, ℕ, ◌+◌, List, [], ◌∷◌, ◌++◌, Option, Some, Bool, true, false, refl, sym, ◌∙◌, subst, inl, inr, arith}
use Rattle.std.specs.Prelude.{◌&&◌, reverse, if◌then◌else◌}
use Rattle.std.specs.Str.{bytes_eq}
use Rattle.rsct_packet.specs.declared.ids.ViewId.{ViewId}
use Rattle.rsct_packet.specs.declared.ids.ProviderId.{ProviderId}
use Rattle.rsct_packet.specs.Ids.{same_view}
use Rattle.rsct_packet.specs.Providers.{same_provider}
use Rattle.rsct_packet.specs.Search.{Has}
use Rattle.proposal_core.specs.declared.entry.Entry.{Entry}
use Rattle.proposal_core.specs.declared.group_state.GroupState.{GroupState}
use Rattle.session_state.specs.declared.state.OpenPhase.{OpenPhase}
use Rattle.session_state.specs.State.{provider_of}
use Rattle.session_state.specs.declared.state.Provider.{Provider}
use Rattle.session_state.specs.declared.state.SessionState.{SessionState}
use Rattle.node_state.specs.declared.config.Config.{Config}
use Rattle.node_state.specs.declared.happened.Happened.{Happened}
use Rattle.node_state.specs.declared.happened.Happened.TheVariants as happened
use Rattle.node_state.specs.declared.state.Core.{Core}
use Rattle.node_state.specs.State.{row_of, list_of, len_of, state_of}
use Rattle.node_state.specs.HandOn.{Answering}
use Rattle.node_state.specs.Step.{NodeEvent, at_work, stepped, started}
use Rattle.world_model.specs.declared.event.Event.{Event}
use Rattle.world_model.specs.Run.{Happening}
use Rattle.run_safety.specs.Past.{History, EachRecord, records_of}
use Rattle.step_refinement.specs.Tied.{Scene}
use Rattle.step_refinement.specs.Rules.{over, ended}
use Rattle.step_refinement.specs.Runs.{Reached}
use Rattle.step_refinement.proofs.Changed.{set_here}
use Rattle.step_refinement.proofs.RunLaw.{reached_rests}
use Rattle.run_induction.proofs.Idle.{AllIdle, within_idle}
use Rattle.run_induction.proofs.Ran.{anyhow, ran_reached, reached_ran}
use Rattle.run_induction.proofs.Laws.{UpClaim, UpDone, UpLaw, ups_hold}
use Rattle.row_laws.specs.hearing.Hearing.{heard_after, last_heard}
use Rattle.row_laws.proofs.hearing.Viewing.{Makes, once_does, step_comes}
use Rattle.row_laws.proofs.hearing.Attending.{heard_own}
use Rattle.row_laws.proofs.hearing.Doing.{Hearing, hearing_does}
use Rattle.row_laws.proofs.hearing.Listening.{Rested, reached_attends}
use Rattle.provider_laws.specs.single_casts.Single.{HeardOpened, PhasesOpenOnce}
use Rattle.provider_laws.proofs.single_casts.Asking.{Silent}
use Rattle.provider_laws.proofs.single_casts.Heeding.{Anew, PlaceAnew, Heeding, silent_opened, silent_anew}
use Rattle.provider_laws.proofs.single_casts.Heeds.{step_heeds}
use Rattle.provider_laws.proofs.single_casts.Law.{idle_silent, Bare, nobody, start_bare}

-- ---- who heard something heard it last

some_after : (p : ProviderId) (u : ViewId) (g : List ℕ) (r : Happened) (o : Option ℕ) (j : ℕ) → o ≡ Some j → (i : ℕ) × (heard_after p u g r o ≡ Some i)
some_after p u g (happened.Heard q v h i e ms value) o j z = by (same_provider q p && (same_view v u && bytes_eq h g))
  where
    by : (b : Bool) → (k : ℕ) × ((if b then Some i else o) ≡ Some k)
    by true = (i, refl)
    by false = (j, z)
some_after p u g _ o j z = (j, z)

heard_some : (p : ProviderId) (u : ViewId) (g : List ℕ) (i : ℕ) (e : Entry) (ms : List ProviderId) (value : List ℕ) (rs : List Happened) → Has (happened.Heard p u g i e ms value) rs → (j : ℕ) × (last_heard p u g rs ≡ Some j)
heard_some p u g i e ms value [] h = absurd h
heard_some p u g i e ms value (r ∷ rs) (inl q) = (i, subst (λ z. last_heard p u g (z ∷ rs) ≡ Some i) q (heard_own p u g i e ms value rs))
heard_some p u g i e ms value (r ∷ rs) (inr h) = let k = heard_some p u g i e ms value rs h in some_after p u g r (last_heard p u g rs) k.0 k.1

-- ---- records by which nothing is heard

silents_opened : (rs xs : List Happened) (p : ProviderId) (o : OpenPhase) → ((r : Happened) → Has r rs → Silent r) → HeardOpened (rs ++ xs) p o → HeardOpened xs p o
silents_opened [] xs p o silent k = k
silents_opened (r ∷ rs) xs p o silent k = silents_opened rs xs p o (λ q i. silent q (inr i)) (silent_opened r (rs ++ xs) p o (silent r (inl refl)) k)

-- ---- between events

-- nothing of this node was heard since
heeding_on : (inc : ℕ) (before after : History) (m : ℕ) (v : ViewId) (t : SessionState) (lens : List ℕ → ℕ) (states : List ℕ → GroupState) → ((p : ProviderId) (x : Provider) → provider_of t p ≡ Some x → p.node ≡ m) → ((p : ProviderId) (o : OpenPhase) → p.node ≡ m → HeardOpened (records_of after) p o → HeardOpened (records_of before) p o) → Heeding m inc before v t [] lens states → Heeding m inc after v t [] lens states
heeding_on inc before after m v t lens states own same k =
    record {
      law = tt;
      others = λ p o ne h. h;
      unheard = λ p x o q z h. k.unheard p x o q z (same p o (own p x q) h);
      numbered = λ p o n h. k.numbered p o n (same p o n h);
      runs = k.runs;
      opened = λ p x o q z h. k.opened p x o q z (same p o (own p x q) h);
    }

heeding_bare : (m inc : ℕ) (before : History) (v : ViewId) (t : SessionState) (lens : List ℕ → ℕ) (states : List ℕ → GroupState) → Bare t → ((p : ProviderId) (o : OpenPhase) → p.node ≡ m → HeardOpened (records_of before) p o → p.inc < inc) → Heeding m inc before v t [] lens states
heeding_bare m inc before v t lens states idle over =
    record {
      law = tt;
      others = λ p o ne h. h;
      unheard = λ p x o q z h. nobody t idle p x q;
      numbered = λ p o n h. inl (over p o n h);
      runs = λ p x q z. absurd (nobody t idle p x q);
      opened = λ p x o q z h. absurd (nobody t idle p x q);
    }

-- ---- every scene, where no place is heard again

abbrev heeding : UpClaim
heeding = record { sent = λ h x. Unit {0}; node = λ m inc ps h c. Heeding m inc h c.views.view c.sessions [] (len_of c) (state_of c); lines = PhasesOpenOnce }

module _ (c : Config) (places : (w : Scene) → Reached c w → EachRecord PlaceAnew w.before) where
  own_of : (w : Scene) → Reached c w → (m : ℕ) (d : Core) → w.cores m ≡ Some d → (p : ProviderId) (x : Provider) → provider_of d.sessions p ≡ Some x → p.node ≡ m
  own_of w k m d up p x q = (((reached_attends c w k).up m d up).at.own p x q).0

  heard_before : (e : Happening) (h : History) → AllIdle e.records → (p : ProviderId) (o : OpenPhase) → HeardOpened (e.records ++ records_of h) p o → HeardOpened (records_of h) p o
  heard_before e h idle p o k = silents_opened e.records (records_of h) p o (λ r i. idle_silent r (idle r i)) k

  -- what was heard at a node that comes up is of incarnations before
  comes_heeding : (w : Scene) (e : Happening) (m : ℕ) → Reached c w → AllIdle e.records → Heeding m (w.incs m + 1) (e ∷ w.before) (started c m (w.incs m + 1)).views.view (started c m (w.incs m + 1)).sessions [] (len_of (started c m (w.incs m + 1))) (state_of (started c m (w.incs m + 1)))
  comes_heeding w e m k idle =
      heeding_bare m (w.incs m + 1) (e ∷ w.before) s.views.view s.sessions (len_of s) (state_of s) (start_bare c m (w.incs m + 1)) over
    where
      s : Core
      s = started c m (w.incs m + 1)

      over : (p : ProviderId) (o : OpenPhase) → p.node ≡ m → HeardOpened (e.records ++ records_of w.before) p o → p.inc < w.incs m + 1
      over p o node h =
          let there = heard_before e w.before idle p o h in
          let j = heard_some p there.view there.group there.place there.entry there.members there.value (records_of w.before) there.there in
          let le : p.inc ≤ w.incs m = subst (λ z. p.inc ≤ w.incs z) node ((reached_attends c w k).began p there.view there.group j.0 j.1) in omega (arith, le)

  -- a node takes a step
  step_done : (w : Scene) (n : ℕ) (f : Answering) (s : Core) (e : NodeEvent) (v : Event) → Reached c w → Reached c (ended w n v (stepped f s e)) → w.cores n ≡ Some s → PhasesOpenOnce w.before → Heeding n (w.incs n) w.before s.views.view s.sessions [] (len_of s) (state_of s) → UpDone heeding w n v (stepped f s e)
  unfolding len_of state_of list_of row_of
  step_done w n f s e v k next up law old =
      record {
        sends = λ x i. tt;
        node = record { law = tt; others = λ p o ne h. h; unheard = now.unheard; numbered = now.numbered; runs = now.runs; opened = now.opened };
        others = λ m ne d is a. heeding_on (w.incs m) w.before (over v t ∷ w.before) m d.views.view d.sessions (len_of d) (state_of d) (own_of w k m d is) (λ p o z h. now.others p o (λ q. ne (sym z ∙ q)) h) a;
        lines = (now.law, law);
      }
    where
      t : Core
      t = stepped f s e

      rested : Rested (w.incs n) w.before n s
      rested = (reached_attends c w k).up n s up

      makes : Makes (at_work s) t
      makes = step_comes f s e ((reached_rests c w k []).turns n s up).owner rested.fit

      began : Hearing n (w.incs n) w.before (at_work s)
      began = record { me = rested.me; inc_of = rested.inc_of; at = rested.at }

      hear : Hearing n (w.incs n) w.before t
      hear = hearing_does n (w.incs n) w.before (at_work s) t (once_does (at_work s) t makes.once) began

      now : Heeding n (w.incs n) w.before t.views.view t.sessions (reverse t.records) (len_of t) (state_of t)
      now = step_heeds c w (ended w n v t) k next n s t up (set_here w.cores n (Some t)) refl (hear.inc_of ∙ sym rested.inc_of) (w.incs n) makes.once began (places (ended w n v t) next).0 old

  heeds : UpLaw anyhow c heeding
  heeds =
      record {
        none = tt;
        sent_on = λ e h x k. tt;
        stays = λ w e t o m d up all k. heeding_on (w.incs m) w.before (e ∷ w.before) m d.views.view d.sessions (len_of d) (state_of d) (own_of w (ran_reached anyhow c w o.from) m d up) (λ p q z h. heard_before e w.before o.idle p q h) k;
        comes = λ w e t o m came down. comes_heeding w e m (ran_reached anyhow c w o.from) o.idle;
        lines_on = λ w e t o k. (within_idle Anew (λ r now h idle. silent_anew now h r (idle_silent r idle)) e.records w.before o.idle, k);
        steps = λ w n f s e v r next up arises told h k. step_done w n f s e v (ran_reached anyhow c w r) (ran_reached anyhow c (ended w n v (stepped f s e)) next) up h.lines k;
      }

  pub phases_once : (w : Scene) → Reached c w → PhasesOpenOnce w.before
  phases_once w k = (ups_hold anyhow c heeding heeds w (reached_ran c w k)).lines
