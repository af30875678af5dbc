-- In every scene that events lead to, providers hear in a row.
use Rattle.std.proofs.Common.{◌≡◌, ◌≤◌, ◌<◌, ℕ, ◌+◌, List, [], ◌∷◌, ◌++◌, Option, Some, None, refl, sym, ap, ◌∙◌, subst, inl, inr, arith}
use Rattle.std.specs.Prelude.{find}
use Rattle.rsct_packet.specs.declared.ids.ViewId.{ViewId}
use Rattle.rsct_packet.specs.declared.ids.ProviderId.{ProviderId}
use Rattle.rsct_packet.specs.Search.{Has}
use Rattle.session_state.specs.State.{is_provider, provider_of}
use Rattle.session_state.specs.declared.state.Provider.{Provider}
use Rattle.view_state.specs.Views.{views_new}
use Rattle.view_core.proofs.Promises.{views_begin}
use Rattle.node_state.specs.declared.config.Config.{Config}
use Rattle.node_state.specs.declared.happened.Happened.{Happened}
use Rattle.node_state.specs.declared.happened.Happened.TheVariants as happened
use Rattle.node_state.specs.declared.state.Core.{Core}
use Rattle.node_state.specs.State.{row_of, list_of, len_of, state_of, with_sessions}
use Rattle.node_state.specs.HandOn.{Answering}
use Rattle.node_state.specs.Applying.{level_set}
use Rattle.node_state.specs.Step.{NodeEvent, at_work, stepped, started, first_view, first_members}
use Rattle.world_model.specs.declared.event.Event.{Event}
use Rattle.world_model.specs.Run.{Happening}
use Rattle.run_safety.specs.Past.{History, records_of}
use Rattle.step_refinement.specs.Tied.{Scene}
use Rattle.step_refinement.specs.Rules.{over}
use Rattle.step_refinement.specs.Runs.{Reached}
use Rattle.step_refinement.proofs.Begins.{idle_start}
use Rattle.step_refinement.proofs.RunLaw.{reached_rests}
use Rattle.run_induction.proofs.Idle.{Idle, AllIdle, within_idle}
use Rattle.run_induction.proofs.Ran.{anyhow, ran_reached, reached_ran}
use Rattle.run_induction.proofs.Laws.{IfUp, if_up_on, Claim, Holds, Done, Law, ran_holds}
use Rattle.row_laws.specs.hearing.Hearing.{last_heard, next_place, TakersHearAll, AtPut, HeardInARow, ProvidersHearInARow}
use Rattle.row_laws.specs.hearing.Changes.{Aside, StepsAreChanges}
use Rattle.row_laws.proofs.hearing.Rules.{OneOwner}
use Rattle.row_laws.proofs.hearing.Viewing.{Fit, Makes, once_does, step_comes}
use Rattle.row_laws.proofs.hearing.Attending.{Before, Attending, aside_law, aside_last}
use Rattle.row_laws.proofs.hearing.Doing.{Hearing, hearing_does}

-- ---- records of nothing put or heard

last_asides : (p : ProviderId) (u : ViewId) (g : List ℕ) (rs xs : List Happened) → ((r : Happened) → Has r rs → Aside r) → last_heard p u g (rs ++ xs) ≡ last_heard p u g xs
last_asides p u g [] xs aside = refl
last_asides p u g (r ∷ rs) xs aside = aside_last p u g r (aside r (inl refl)) (rs ++ xs) ∙ last_asides p u g rs xs (λ q i. aside q (inr i))

-- ---- between events

-- node m is up, in incarnation inc
pub record Rested (inc : ℕ) (before : History) (m : ℕ) (c : Core) : Type 0 where
  pub fit : Fit c
  pub me : c.views.me ≡ m
  pub inc_of : c.views.inc ≡ inc
  pub at : Attending m inc before c.views.view c.sessions [] (len_of c) (state_of c)

pub record Listens (cores : ℕ → Option Core) (incs : ℕ → ℕ) (before : History) : Type 0 where
  pub law : HeardInARow before
  pub began : (p : ProviderId) (u : ViewId) (g : List ℕ) (j : ℕ) → last_heard p u g (records_of before) ≡ Some j → p.inc ≤ incs p.node
  pub up : (m : ℕ) (c : Core) → cores m ≡ Some c → Rested (incs m) before m c

-- nothing of this node was heard since
rested_on : (inc : ℕ) (before after : History) (m : ℕ) (c : Core) → ((p : ProviderId) (u : ViewId) (g : List ℕ) → p.node ≡ m → last_heard p u g (records_of after) ≡ last_heard p u g (records_of before)) → Rested inc before m c → Rested inc after m c
rested_on inc before after m c same k =
    record {
      fit = k.fit;
      me = k.me;
      inc_of = k.inc_of;
      at = record {
        me = k.at.me;
        inc_is = k.at.inc_is;
        law = tt;
        others = λ p u g ne. refl;
        began = λ p u g j n q. k.at.began p u g j n (sym (same p u g n) ∙ q);
        own = k.at.own;
        here = k.at.here;
        heard = λ p u g j n q. k.at.heard p u g j n (sym (same p u g n) ∙ q);
        upto = λ p x q part. k.at.upto p x q part ∙ ap next_place (sym (same p c.views.view x.group (k.at.own p x q).0));
      };
    }

-- a node that starts has no providers
pub rested_start : (c : Config) (n j : ℕ) (before : History) → ((p : ProviderId) (u : ViewId) (g : List ℕ) (i : ℕ) → p.node ≡ n → last_heard p u g (records_of before) ≡ Some i → p.inc < j) → Rested j before n (started c n j)
unfolding started with_sessions level_set views_new provider_of
rested_start c n j before old =
    record {
      fit = start_fits;
      me = whose.0;
      inc_of = whose.1;
      at = record {
        me = whose.2;
        inc_is = whose.3;
        law = tt;
        others = λ p u g ne. refl;
        began = λ p u g i m q. let z = old p u g i m q in omega arith;
        own = λ p x q. absurd (nobody p x q);
        here = λ p x q part. absurd (nobody p x q);
        heard = λ p u g i m q. Before (old p u g i m q);
        upto = λ p x q part. absurd (nobody p x q);
      };
    }
  where
    start_fits : Fit (started c n j)
    start_fits = record { order = tt; views = views_begin n j (first_view c c.mode n j) (first_members c c.mode n j) }

    whose : ((started c n j).views.me ≡ n) × ((started c n j).views.inc ≡ j) × ((started c n j).sessions.me ≡ n) × ((started c n j).sessions.inc ≡ j)
    whose = (refl, refl, refl, refl)

    nobody : (p : ProviderId) (x : Provider) → provider_of (started c n j).sessions p ≡ Some x → ⊥
    nobody p x q = none (subst (λ (xs : List Provider). find (is_provider p) xs ≡ Some x) (idle_start c n j).0 q)
      where
        none : None ≡ Some x → ⊥
        none e = cc

-- ---- every scene

pub idle_aside : (r : Happened) → Idle r → Aside r
idle_aside (happened.Put n v g i e) a = a
idle_aside (happened.Heard p v g i e ms value) a = a
idle_aside _ a = tt

-- what was heard at node m is of incarnations up to this one
abbrev Began : ℕ → ℕ → List Happened → Type 0
Began m inc rs = (p : ProviderId) (u : ViewId) (g : List ℕ) (j : ℕ) → p.node ≡ m → last_heard p u g rs ≡ Some j → p.inc ≤ inc

abbrev listening : Claim
listening = record { sent = λ h x. Unit {0}; node = λ m inc ps h o. Began m inc (records_of h) × IfUp (Rested inc h m) o; lines = HeardInARow }

heard_before : (e : Happening) (h : History) → AllIdle e.records → (p : ProviderId) (u : ViewId) (g : List ℕ) → last_heard p u g (e.records ++ records_of h) ≡ last_heard p u g (records_of h)
heard_before e h idle p u g = last_asides p u g e.records (records_of h) (λ r i. idle_aside r (idle r i))

-- a node takes a step
step_done : (w : Scene) (n : ℕ) (f : Answering) (s : Core) (e : NodeEvent) (v : Event) → OneOwner s.sessions → Rested (w.incs n) w.before n s → HeardInARow w.before → Done listening w n v (stepped f s e)
unfolding len_of state_of list_of row_of
step_done w n f s e v owner rested law =
    record {
      sends = λ x i. tt;
      node = (λ p u g j a q. h.at.began p u g j a q, record { fit = makes.fit; me = h.me; inc_of = h.inc_of; at = record { me = h.at.me; inc_is = h.at.inc_is; law = tt; others = λ p u g ne. refl; began = h.at.began; own = h.at.own; here = h.at.here; heard = h.at.heard; upto = h.at.upto } });
      others = λ m ne k. (λ p u g j a q. k.0 p u g j a (sym (h.at.others p u g (λ z. ne (sym a ∙ z))) ∙ q), if_up_on (Rested (w.incs m) w.before m) (Rested (w.incs m) (over v t ∷ w.before) m) (w.cores m) (λ d up a. rested_on (w.incs m) w.before (over v t ∷ w.before) m d (λ p u g z. h.at.others p u g (λ y. ne (sym z ∙ y))) a) k.1);
      lines = (h.at.law, law);
    }
  where
    t : Core
    t = stepped f s e

    makes : Makes (at_work s) t
    makes = step_comes f s e owner rested.fit

    h : Hearing n (w.incs n) w.before t
    h = hearing_does n (w.incs n) w.before (at_work s) t (once_does (at_work s) t makes.once) (record { me = rested.me; inc_of = rested.inc_of; at = rested.at })

listens : (c : Config) → Law anyhow c listening
listens c =
    record {
      waits = λ m. (λ p u g j a q. absurd (cc), tt);
      none = tt;
      sent_on = λ e h x k. tt;
      stays = λ w e t o m all k. (λ p u g j a q. k.0 p u g j a (sym (heard_before e w.before o.idle p u g) ∙ q), if_up_on (Rested (w.incs m) w.before m) (Rested (w.incs m) (e ∷ w.before) m) (w.cores m) (λ d up a. rested_on (w.incs m) w.before (e ∷ w.before) m d (λ p u g z. heard_before e w.before o.idle p u g) a) k.1);
      comes = λ w e t o m came down k. (λ p u g j a q. (let z = k.0 p u g j a (sym (heard_before e w.before o.idle p u g) ∙ q) in omega arith), rested_start c m (w.incs m + 1) (e ∷ w.before) (λ p u g j a q. (let z = k.0 p u g j a (sym (heard_before e w.before o.idle p u g) ∙ q) in omega arith)));
      goes = λ w e t o m s down up k. (λ p u g j a q. k.0 p u g j a (sym (heard_before e w.before o.idle p u g) ∙ q), tt);
      lines_on = λ w e t o k. (within_idle AtPut (λ r now h idle. aside_law now h r (idle_aside r idle)) e.records w.before o.idle, k);
      steps = λ w n f s e v r next up arises told k. step_done w n f s e v ((reached_rests c w (ran_reached anyhow c w r) []).turns n s up).owner (subst (IfUp (Rested (w.incs n) w.before n)) up (k.nodes n).1) k.lines;
    }

pub reached_attends : (c : Config) (w : Scene) → Reached c w → Listens w.cores w.incs w.before
reached_attends c w k =
    record {
      law = now.lines;
      began = λ p u g j q. (now.nodes p.node).0 p u g j refl q;
      up = λ m d up. subst (IfUp (Rested (w.incs m) w.before m)) up (now.nodes m).1;
    }
  where
    now : Holds listening w
    now = ran_holds anyhow c listening (listens c) w (reached_ran c w k)

pub providers_hear : ProvidersHearInARow
providers_hear c w k = (reached_attends c w k).law

pub takers_hear : TakersHearAll
takers_hear c w k n s up p x found part = ((reached_attends c w k).up n s up).at.upto p x found part

pub steps_change : StepsAreChanges
steps_change c w k n s up f e =
    once_does (at_work s) (stepped f s e) (step_comes f s e ((reached_rests c w k []).turns n s up).owner ((reached_attends c w k).up n s up).fit).once
