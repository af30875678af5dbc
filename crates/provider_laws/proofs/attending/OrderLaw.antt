-- In each scene that events lead to, providers hear in order.
use Rattle.std.proofs.Common.{◌≡◌, ℕ, ◌+◌, List, [], ◌∷◌, ◌++◌, Some, None, refl, sym, ◌∙◌, subst, inl, inr, arith}
use Rattle.rsct_packet.specs.declared.ids.ViewId.{ViewId}
use Rattle.rsct_packet.specs.declared.ids.ProviderId.{ProviderId}
use Rattle.rsct_packet.specs.Search.{Has}
use Rattle.proposal_core.specs.Fold.{empty_state}
use Rattle.session_state.specs.declared.state.Provider.{Provider}
use Rattle.session_state.specs.State.{provider_of}
use Rattle.node_state.specs.declared.config.Config.{Config}
use Rattle.node_state.specs.declared.happened.Happened.{Happened}
use Rattle.node_state.specs.declared.state.Core.{Core}
use Rattle.node_state.specs.State.{list_of, state_of, len_of, row_of, with_sessions}
use Rattle.node_state.specs.HandOn.{Answering}
use Rattle.node_state.specs.Applying.{level_set}
use Rattle.node_state.specs.Step.{NodeEvent, at_work, started, stepped, first_view}
use Rattle.view_state.specs.Views.{views_new}
use Rattle.world_model.specs.declared.event.Event.{Event}
use Rattle.run_safety.specs.Past.{EachRecord, records_of}
use Rattle.run_safety.specs.SafeHeard.{heard_count}
use Rattle.run_safety.specs.Stays.{Stay, stays, part}
use Rattle.step_refinement.specs.Tied.{Scene}
use Rattle.step_refinement.specs.Rules.{over, Arises}
use Rattle.step_refinement.specs.Runs.{Reached}
use Rattle.run_induction.proofs.Idle.{within_idle, stays_elsewhere, Came, came_stays}
use Rattle.run_induction.proofs.Ran.{anyhow, ran_reached, reached_ran}
use Rattle.run_induction.proofs.Laws.{UpClaim, UpDone, UpLaw, ups_hold, up_holds}
use Rattle.row_laws.specs.hearing.Changes.{Aside}
use Rattle.row_laws.proofs.hearing.Listening.{idle_aside, steps_change}
use Rattle.provider_laws.specs.attending.Order.{HeardInOrder}
use Rattle.provider_laws.proofs.attending.Law.{begin_strict, step_fine}
use Rattle.row_laws.proofs.hearing.Incarnations.{incs_of}
use Rattle.provider_laws.proofs.attending.Staying.{InStay, Takes, Place, aside_count}
use Rattle.provider_laws.proofs.attending.Handed.{Order}
use Rattle.provider_laws.proofs.attending.Ordering.{Ordered, aside_order, ordered_does}
use Rattle.provider_laws.proofs.attending.Fresh.{fresh_now}
use Rattle.provider_laws.proofs.attending.Living.{lively_now}
use Rattle.row_laws.proofs.failed_rows.Bases.{new_stay}

-- node m stands in these records where its stays have it
abbrev pub Placed : List Happened → ℕ → Core → Type 0
Placed rs m c = Place m c.views.view c.sessions (λ n g. stays n g rs) (λ p u g. heard_count p u g rs) (len_of c) (state_of c)

abbrev pub Own : ℕ → Core → Type 0
Own m c = (p : ProviderId) (y : Provider) → provider_of c.sessions p ≡ Some y → p.node ≡ m

-- nothing is said of what was sent
abbrev orderly : UpClaim
orderly = record { sent = λ h x. Unit {0}; node = λ m inc ps h c. Placed (records_of h) m c × Own m c; lines = EachRecord Order }

-- what the records say of the node is as before
placed_on : (rs xs : List Happened) (m : ℕ) (c : Core) → ((g : List ℕ) → stays m g xs ≡ stays m g rs) → ((p : ProviderId) (u : ViewId) (g : List ℕ) → p.node ≡ m → heard_count p u g xs ≡ heard_count p u g rs) → Own m c → Placed rs m c → Placed xs m c
placed_on rs xs m c same count own k =
    record {
      stay = λ g. subst (λ z. InStay c.views.view z (len_of c g) (state_of c g)) (sym (same g)) (k.stay g);
      taking = λ p y q take. subst (λ (z : List Stay × ℕ). Takes (part p z.0) (len_of c y.group) z.1) (λ i. (sym (same y.group) i, sym (count p c.views.view y.group (own p y q)) i)) (k.taking p y q take);
      waiting = λ p y q wait. subst (λ (z : List Stay × ℕ). ((part p z.0).first ≡ None) × (z.1 ≡ 0)) (λ i. (sym (same y.group) i, sym (count p c.views.view y.group (own p y q)) i)) (k.waiting p y q wait);
    }

aside_all : (p : ProviderId) (u : ViewId) (g : List ℕ) (rs xs : List Happened) → ((r : Happened) → Has r rs → Aside r) → heard_count p u g (rs ++ xs) ≡ heard_count p u g xs
aside_all p u g [] xs all = refl
aside_all p u g (r ∷ rs) xs all = aside_count p u g r (rs ++ xs) (all r (inl refl)) ∙ aside_all p u g rs xs (λ q h. all q (inr h))

-- ---- a node that starts

bare : (c : Config) (n j : ℕ) (g : List ℕ) (xs : List Stay) → xs ≡ new_stay (first_view c c.mode n j) empty_state ∷ [] → InStay (started c n j).views.view xs (len_of (started c n j) g) (state_of (started c n j) g)
unfolding started with_sessions views_new len_of state_of list_of row_of
bare c n j g xs q = record { now = new_stay (first_view c c.mode n j) empty_state; older = []; is = q; view = refl; len_is = refl; state = refl }

module _ (c : Config) (n j : ℕ) where
  nobody : (p : ProviderId) (y : Provider) → provider_of (started c n j).sessions p ≡ Some y → ⊥
  unfolding started with_sessions level_set provider_of
  nobody p y q = cc

  pub came_placed : (rs xs : List Happened) → Came c n j rs → Placed (rs ++ xs) n (started c n j) × Own n (started c n j)
  came_placed rs xs came =
      (record { stay = λ g. bare c n j g (stays n g (rs ++ xs)) (came_stays c n j rs came g xs); taking = λ p y q take. absurd (nobody p y q); waiting = λ p y q wait. absurd (nobody p y q) }, λ p y q. absurd (nobody p y q))

-- ---- a step

pub begin_ordered : (c : Config) (w : Scene) → Reached c w → (n : ℕ) (s : Core) → w.cores n ≡ Some s → Placed (records_of w.before) n s → Ordered n (w.incs n) w.before s.views.view s.sessions.last_request (at_work s)
unfolding len_of state_of list_of row_of
begin_ordered c w k n s up place =
    record {
      strict = begin_strict c w n s k up (incs_of c w k n);
      place = place;
      law = tt;
      others = λ m g ne. refl;
      counts = λ p u g ne. refl;
      begins = λ all. refl;
      numbers = λ q. omega arith;
    }

orderly_step : (c : Config) (w : Scene) (n : ℕ) (f : Answering) (s : Core) (e : NodeEvent) (v : Event) → Reached c w → w.cores n ≡ Some s → Arises w e → EachRecord Order w.before → Placed (records_of w.before) n s × Own n s → UpDone orderly w n v (stepped f s e)
unfolding len_of state_of list_of row_of
orderly_step c w n f s e v k up arises law old =
    record {
      sends = λ x i. tt;
      node = (o.place, λ p y h. (o.strict.hearing.at.own p y h).0);
      others = λ m ne d is z. (placed_on (records_of w.before) (records_of (over v t ∷ w.before)) m d (λ g. o.others m g ne) (λ p u g node. o.counts p u g (λ a. ne (sym node ∙ a))) z.1 z.0, z.1);
      lines = (o.law, law);
    }
  where
    t : Core
    t = stepped f s e

    o : Ordered n (w.incs n) w.before s.views.view s.sessions.last_request t
    o =
        ordered_does n (w.incs n) w.before s.views.view s.sessions.last_request (at_work s) t (steps_change c w k n s up f e) t.records (λ r h. h) (step_fine c w n s k up f e v arises) (lively_now c w n f s e v k up arises) (fresh_now c w k n s up) (begin_ordered c w k n s up old.0)

order_law : (c : Config) → UpLaw anyhow c orderly
order_law c =
    record {
      none = tt;
      sent_on = λ e h x k. tt;
      stays = λ w e t o m d up all k. (placed_on (records_of w.before) (records_of (e ∷ w.before)) m d (λ g. stays_elsewhere m g e.records (records_of w.before) all) (λ p u g node. aside_all p u g e.records (records_of w.before) (λ r i. idle_aside r (o.idle r i))) k.1 k.0, k.1);
      comes = λ w e t o m came down. came_placed c m (w.incs m + 1) e.records (records_of w.before) came;
      lines_on = λ w e t o k. (within_idle Order (λ r now h idle. aside_order now h r (idle_aside r idle)) e.records w.before o.idle, k);
      steps = λ w n f s e v r next up arises told h k. orderly_step c w n f s e v (ran_reached anyhow c w r) up arises h.lines k;
    }

-- where each node that is up stands
pub node_placed : (c : Config) (w : Scene) → Reached c w → (n : ℕ) (s : Core) → w.cores n ≡ Some s → Placed (records_of w.before) n s × Own n s
node_placed c w k n s up = up_holds anyhow c orderly (order_law c) w (reached_ran c w k) n s up

pub heard_in_order : HeardInOrder
heard_in_order c w k = (ups_hold anyhow c orderly (order_law c) w (reached_ran c w k)).lines
