-- In every scene that events lead to, providers cast when a ballot is due.
use Rattle.std.proofs.Common.{◌≡◌, ℕ, ◌+◌, List, [], ◌∷◌, ◌++◌, Some, None, true, refl, sym, ◌∙◌, subst, inl, inr, ⊎_elim}
use Rattle.std.specs.Prelude.{reverse, find}
use Rattle.rsct_packet.specs.declared.ids.ProviderId.{ProviderId}
use Rattle.rsct_packet.specs.Search.{Has}
use Rattle.rsct_packet.proofs.HasLaws.{append_has_right}
use Rattle.session_state.specs.State.{is_provider, provider_of}
use Rattle.session_state.specs.declared.state.KeptBallot.{KeptBallot}
use Rattle.session_state.specs.declared.state.Provider.{Provider}
use Rattle.session_state.specs.declared.state.SessionState.{SessionState}
use Rattle.node_state.specs.declared.config.Config.{Config}
use Rattle.node_state.specs.declared.happened.Happened.{Happened}
use Rattle.node_state.specs.declared.happened.Happened.TheVariants as happened
use Rattle.node_state.specs.declared.state.Core.{Core}
use Rattle.node_state.specs.State.{row_of, list_of, len_of, state_of, with_sessions}
use Rattle.node_state.specs.HandOn.{Answering}
use Rattle.node_state.specs.Applying.{level_set}
use Rattle.node_state.specs.Step.{NodeEvent, at_work, stepped, started}
use Rattle.world_model.specs.declared.event.Event.{Event}
use Rattle.world_model.specs.Run.{Happening}
use Rattle.run_safety.specs.Past.{History, records_of}
use Rattle.step_refinement.specs.Tied.{Scene}
use Rattle.step_refinement.specs.Rules.{over, ended}
use Rattle.step_refinement.specs.Runs.{Reached}
use Rattle.step_refinement.proofs.Changed.{set_here}
use Rattle.step_refinement.proofs.Begins.{idle_start}
use Rattle.step_refinement.proofs.RunLaw.{reached_rests}
use Rattle.run_induction.proofs.Idle.{Idle, AllIdle, within_idle}
use Rattle.run_induction.proofs.Ran.{anyhow, ran_reached, reached_ran}
use Rattle.run_induction.proofs.Laws.{UpClaim, UpDone, UpLaw, ups_hold, up_holds}
use Rattle.row_laws.proofs.hearing.Rules.{OneOwner}
use Rattle.row_laws.proofs.hearing.Viewing.{Once, Makes, once_does, step_comes}
use Rattle.row_laws.proofs.hearing.Doing.{Hearing, hearing_does}
use Rattle.row_laws.proofs.hearing.Listening.{Rested, reached_attends}
use Rattle.provider_laws.specs.single_casts.Ballots.{ballot_due, open_phase, CastsWhenDue, ProvidersCastWhenDue, CastsInPhase, ProvidersCastInPhase}
use Rattle.provider_laws.proofs.single_casts.Asking.{Silent, Rightly, silent_law, silent_due}
use Rattle.provider_laws.proofs.single_casts.Casting.{Casting, Keeps, BallotRecorded, recorded_later}
use Rattle.provider_laws.proofs.single_casts.Opening.{Phased, silent_phased, silent_open}
use Rattle.provider_laws.proofs.single_casts.Doing.{casting_does}
use Rattle.provider_laws.proofs.single_casts.Naming.{Naming}
use Rattle.provider_laws.proofs.single_casts.Stepping.{step_names}
use Rattle.provider_laws.specs.single_casts.Single.{ProvidersCastAfterNotice}
use Rattle.provider_laws.proofs.single_casts.Single.{casts_after_notice}

-- ---- records by which nothing is heard or cast

pub idle_silent : (r : Happened) → Idle r → Silent r
idle_silent (happened.Heard p v g i e ms value) a = a
idle_silent (happened.Cast p proto phase vote value message) a = a
idle_silent _ a = tt

open_silent : (p : ProviderId) (rs xs : List Happened) → ((r : Happened) → Has r rs → Silent r) → open_phase p (rs ++ xs) ≡ open_phase p xs
open_silent p [] xs silent = refl
open_silent p (r ∷ rs) xs silent = silent_open p r (silent r (inl refl)) (rs ++ xs) ∙ open_silent p rs xs (λ q i. silent q (inr i))

due_silent : (p : ProviderId) (rs xs : List Happened) → ((r : Happened) → Has r rs → Silent r) → ballot_due p (rs ++ xs) ≡ ballot_due p xs
due_silent p [] xs silent = refl
due_silent p (r ∷ rs) xs silent = silent_due p r (silent r (inl refl)) (rs ++ xs) ∙ due_silent p rs xs (λ q i. silent q (inr i))

-- ---- between events

-- of node m, which is up
pub record Casts (m : ℕ) (before : History) (c : Core) : Type 0 where
  pub up : Casting m before c.sessions []
  pub named : Naming m before c.sessions []
  pub own : (p : ProviderId) (x : Provider) → provider_of c.sessions p ≡ Some x → p.node ≡ m

abbrev casting : UpClaim
casting = record { sent = λ h x. Unit {0}; node = λ m inc ps h c. Casts m h c; lines = λ h. CastsWhenDue h × CastsInPhase h }

-- nothing of this node was heard or cast since
casting_on : (before after : History) (m : ℕ) (t : SessionState) → ((p : ProviderId) (x : Provider) → provider_of t p ≡ Some x → p.node ≡ m) → ((p : ProviderId) → p.node ≡ m → ballot_due p (records_of after) ≡ ballot_due p (records_of before)) → ((r : Happened) → Has r (records_of before) → Has r (records_of after)) → Casting m before t [] → Casting m after t []
casting_on before after m t own same more k =
    record {
      law = tt;
      others = λ p ne. refl;
      ready = λ p x o q z. ⊎_elim (λ (a : ballot_due p (records_of before) ≡ true). inl (same p (own p x q) ∙ a)) (λ (a : Keeps t p o). inr a) (k.ready p x o q z);
      taking = k.taking;
      group = k.group;
      numbered = k.numbered;
      cast = λ b h. recorded_later (records_of before) (records_of after) b more (k.cast b h);
    }

naming_on : (before after : History) (m : ℕ) (t : SessionState) → ((p : ProviderId) (x : Provider) → provider_of t p ≡ Some x → p.node ≡ m) → ((p : ProviderId) → p.node ≡ m → open_phase p (records_of after) ≡ open_phase p (records_of before)) → Naming m before t [] → Naming m after t []
naming_on before after m t own same k = record { law = tt; others = λ p ne. refl; named = λ p x o q z. same p (own p x q) ∙ k.named p x o q z }

-- a node without providers
abbrev pub Bare : SessionState → Type 0
Bare t = (t.providers ≡ []) × (t.kept ≡ [])

pub nobody : (t : SessionState) → Bare t → (p : ProviderId) (x : Provider) → provider_of t p ≡ Some x → ⊥
unfolding provider_of
nobody t idle p x q = none (subst (λ (xs : List Provider). find (is_provider p) xs ≡ Some x) idle.0 q)
  where
    none : None ≡ Some x → ⊥
    none e = cc

nothing_kept : (t : SessionState) → Bare t → (k : KeptBallot) → Has k t.kept → ⊥
nothing_kept t idle k h = subst (λ (ks : List KeptBallot). Has k ks) idle.1 h

casting_bare : (m : ℕ) (before : History) (t : SessionState) → Bare t → Casting m before t []
casting_bare m before t idle =
    record {
      law = tt;
      others = λ p ne. refl;
      ready = λ p x o q z. absurd (nobody t idle p x q);
      taking = λ p x o q z. absurd (nobody t idle p x q);
      group = λ k x h q. absurd (nothing_kept t idle k h);
      numbered = λ k h. absurd (nothing_kept t idle k h);
      cast = λ k h. absurd (nothing_kept t idle k h);
    }

naming_bare : (m : ℕ) (before : History) (t : SessionState) → Bare t → Naming m before t []
naming_bare m before t idle = record { law = tt; others = λ p ne. refl; named = λ p x o q z. absurd (nobody t idle p x q) }

pub start_bare : (c : Config) (n j : ℕ) → Bare (started c n j).sessions
unfolding started with_sessions level_set
start_bare c n j = ((idle_start c n j).0, refl)

-- an event by which nothing is heard or cast
casts_on : (e : Happening) (h : History) (m : ℕ) (c : Core) → AllIdle e.records → Casts m h c → Casts m (e ∷ h) c
casts_on e h m c idle k =
    record {
      up = casting_on h (e ∷ h) m c.sessions k.own (λ p z. due_silent p e.records (records_of h) silent) (λ r i. append_has_right r e.records (records_of h) i) k.up;
      named = naming_on h (e ∷ h) m c.sessions k.own (λ p z. open_silent p e.records (records_of h) silent) k.named;
      own = k.own;
    }
  where
    silent : (r : Happened) → Has r e.records → Silent r
    silent r i = idle_silent r (idle r i)

-- a node takes a step
casts_step : (w : Scene) (n : ℕ) (f : Answering) (s : Core) (e : NodeEvent) (v : Event) → OneOwner s.sessions → Rested (w.incs n) w.before n s → (Once (at_work s) (stepped f s e) → (stepped f s e).views.inc ≡ s.views.inc → Hearing n (w.incs n) w.before (at_work s) → Naming n w.before s.sessions [] → Naming n w.before (stepped f s e).sessions (reverse (stepped f s e).records)) → CastsWhenDue w.before × CastsInPhase w.before → Casts n w.before s → UpDone casting w n v (stepped f s e)
unfolding len_of state_of list_of row_of
casts_step w n f s e v owner rested names laws k =
    record {
      sends = λ x i. tt;
      node = record {
        up = record { law = tt; others = λ p ne. refl; ready = held.ready; taking = held.taking; group = held.group; numbered = held.numbered; cast = held.cast };
        named = record { law = tt; others = λ p ne. refl; named = naming.named };
        own = λ p x z. (hear.at.own p x z).0;
      };
      others = λ m ne d up o. record {
        up = casting_on w.before (over v t ∷ w.before) m d.sessions o.own (λ p z. held.others p (λ a. ne (sym z ∙ a))) (λ r h. append_has_right r (reverse t.records) (records_of w.before) h) o.up;
        named = naming_on w.before (over v t ∷ w.before) m d.sessions o.own (λ p z. naming.others p (λ a. ne (sym z ∙ a))) o.named;
        own = o.own;
      };
      lines = ((held.law, laws.0), (naming.law, laws.1));
    }
  where
    t : Core
    t = stepped f s e

    makes : Makes (at_work s) t
    makes = step_comes f s e owner rested.fit

    began : Hearing n (w.incs n) w.before (at_work s)
    began = record { me = rested.me; inc_of = rested.inc_of; at = rested.at }

    hear : Hearing n (w.incs n) w.before t
    hear = hearing_does n (w.incs n) w.before (at_work s) t (once_does (at_work s) t makes.once) began

    held : Casting n w.before t.sessions (reverse t.records)
    held = casting_does n (w.incs n) w.before (at_work s) t (once_does (at_work s) t makes.once) began k.up

    naming : Naming n w.before t.sessions (reverse t.records)
    naming = names makes.once (hear.inc_of ∙ sym rested.inc_of) began k.named

-- ---- every scene

casts_law : (c : Config) → UpLaw anyhow c casting
casts_law c =
    record {
      none = (tt, tt);
      sent_on = λ e h x k. tt;
      stays = λ w e t o m d up all k. casts_on e w.before m d o.idle k;
      comes = λ w e t o m came down. let bare = start_bare c m (w.incs m + 1) in record {
        up = casting_bare m (e ∷ w.before) (started c m (w.incs m + 1)).sessions bare;
        named = naming_bare m (e ∷ w.before) (started c m (w.incs m + 1)).sessions bare;
        own = λ p x z. absurd (nobody (started c m (w.incs m + 1)).sessions bare p x z);
      };
      lines_on = λ w e t o k. ((within_idle Rightly (λ r now h idle. silent_law now h r (idle_silent r idle)) e.records w.before o.idle, k.0), (within_idle Phased (λ r now h idle. silent_phased now h r (idle_silent r idle)) e.records w.before o.idle, k.1));
      steps = λ w n f s e v r next up arises told h k. let here : Reached c w = ran_reached anyhow c w r in casts_step w n f s e v ((reached_rests c w here []).turns n s up).owner ((reached_attends c w here).up n s up) (λ once inc hear names. step_names c w (ended w n v (stepped f s e)) here (ran_reached anyhow c (ended w n v (stepped f s e)) next) n s (stepped f s e) up (set_here w.cores n (Some (stepped f s e))) refl inc (w.incs n) once hear names) h.lines k;
    }

pub node_casts : (c : Config) (w : Scene) → Reached c w → (n : ℕ) (s : Core) → w.cores n ≡ Some s → Casts n w.before s
node_casts c w k n s up = up_holds anyhow c casting (casts_law c) w (reached_ran c w k) n s up

casts_right : (c : Config) (w : Scene) → Reached c w → CastsWhenDue w.before × CastsInPhase w.before
casts_right c w k = (ups_hold anyhow c casting (casts_law c) w (reached_ran c w k)).lines

pub casts_when_due : ProvidersCastWhenDue
casts_when_due c w k = (casts_right c w k).0

pub casts_in_phase : ProvidersCastInPhase
casts_in_phase c w k = (casts_right c w k).1

pub cast_after_notice : ProvidersCastAfterNotice
cast_after_notice c w k = casts_after_notice w.before (casts_right c w k).1

-- each ballot that a node keeps was cast
pub kept_recorded : (c : Config) (w : Scene) → Reached c w → (n : ℕ) (s : Core) → w.cores n ≡ Some s → (k : KeptBallot) → Has k s.sessions.kept → BallotRecorded (records_of w.before) k
kept_recorded c w k n s up b h = (node_casts c w k n s up).up.cast b h
