-- In every scene each leader that may begin something has nothing left to begin.
use Rattle.std.proofs.Common.{◌≡◌, ◌≤◌, ◌<◌, ◌⊎◌, ℕ, ◌+◌, List, [], length, Option, Some, None, Bool, true, false, refl, sym, ap, ◌∙◌, subst, inl, inr, arith}
use Rattle.std.specs.Prelude.{find, filter}
use Rattle.std.specs.Option.{option_map}
use Rattle.rsct_packet.specs.Search.{Has}
use Rattle.rsct_packet.proofs.HasLaws.{find_has, filter_has, map_has}
use Rattle.proposal_core.specs.declared.group_state.GroupState.{GroupState}
use Rattle.proposal_core.specs.GroupView.{GroupView}
use Rattle.proposal_core.specs.Lists.{list_or_new, state_in}
use Rattle.batch_rules.specs.Waiting.{WaitingView, batches_failures, nothing_waits}
use Rattle.source_target.specs.declared.Due.{Due}
use Rattle.source_target.specs.declared.Due.TheVariants as owed
use Rattle.source_target.specs.Due as target
use Rattle.node_state.specs.declared.config.Config.{Config}
use Rattle.node_state.specs.declared.group.GroupRow.{GroupRow}
use Rattle.node_state.specs.declared.state.Core.{Core}
use Rattle.node_state.specs.State.{new_row, row_found, has_name, row_of, led_of, list_of, state_of, leads_in, leads, led_groups}
use Rattle.node_state.specs.Step.{at_work}
use Rattle.node_state.proofs.NameOrder.{text_same}
use Rattle.run_safety.specs.Past.{records_of}
use Rattle.step_refinement.specs.Tied.{Scene, Tied}
use Rattle.step_refinement.specs.Runs.{Reached}
use Rattle.step_refinement.proofs.Begins.{begin_tied}
use Rattle.step_refinement.proofs.RunLaw.{reached_rests}
use Rattle.run_induction.proofs.Ran.{anyhow, reached_ran}
use Rattle.run_induction.proofs.Laws.{UpClaim, UpLaw, up_holds}
use Rattle.send_laws.specs.Bound.{Room}
use Rattle.send_laws.proofs.Nodes.{rooms}
use Rattle.entry_laws.proofs.closing_rows.At.{StateIs}
use Rattle.entry_laws.proofs.source_order.Tied.{states_tied}
use Rattle.provider_laws.proofs.resting.Trying.{lists_of, SettledDue, SettledBy, Settled}
use Rattle.provider_laws.proofs.resting.Law.{Resting, stepped_rests, started_rests}
use Rattle.rest_laws.specs.Leaders.{IsServed, state_here, MayBegin, AtRest, LeadersOfScenesAreAtRest}
use Rattle.rest_laws.proofs.Due.{may_begin_there, fail_fits, reflect_fits, casts_few, nothing_due}

-- ---- between events each node that is up rests

-- nothing is said of what was sent
abbrev restful : UpClaim
restful = record { sent = λ h x. Unit {0}; node = λ m inc ps h s. Resting s; lines = λ h. Unit {0} }

rest_law : (c : Config) → UpLaw anyhow c restful
rest_law c =
    record {
      none = tt;
      sent_on = λ e h x k. tt;
      stays = λ w e t o m s up all k. k;
      comes = λ w e t o m came down. started_rests c m (w.incs m + 1);
      lines_on = λ w e t o k. tt;
      steps = λ w n f s e v r next up arises told h k. record { sends = λ x i. tt; node = stepped_rests f s e k.orderly; others = λ m ne d is a. a; lines = tt };
    }

rested : (c : Config) (w : Scene) → Reached c w → (n : ℕ) (s : Core) → w.cores n ≡ Some s → Resting s
rested c w k n s up = up_holds anyhow c restful (rest_law c) w (reached_ran c w k) n s up

-- a group that a node leads is one of those, or it has no row
led_or_bare : (s : Core) (g : List ℕ) → leads s g ≡ true → Has g (led_groups s) ⊎ (row_of s g ≡ new_row g)
unfolding leads led_groups row_of
led_or_bare s g led = by (find (has_name g) s.groups) refl
  where
    by : (o : Option GroupRow) → find (has_name g) s.groups ≡ o → Has g (led_groups s) ⊎ (row_found g (find (has_name g) s.groups) ≡ new_row g)
    by None e = inr (ap (row_found g) e)
    by (Some row) e =
        let h = find_has (has_name g) s.groups row e in
        let there : leads_in s row ≡ true = ap (λ o. leads_in s (row_found g o)) (sym e) ∙ led in
        let i = map_has (λ (row : GroupRow). row.name) row (filter (leads_in s) s.groups) (filter_has (leads_in s) row s.groups h.0 there) in
        inl (subst (λ z. Has z (led_groups s)) (text_same row.name g h.1) i)

not_both : (b : Bool) → b ≡ true → b ≡ false → ⊥
not_both b p q = let z : true ≡ false = sym p ∙ q in cc

waits_none : (w : WaitingView) → w.failures ≡ [] → w.joins ≡ [] → w ≡ nothing_waits
waits_none w a b = λ i. record { joins = b i; failures = a i }

-- ---- one leader

module _ (c : Config) (w : Scene) (k : Reached c w) (n : ℕ) (s : Core) (up : w.cores n ≡ Some s) (g : List ℕ) (m : MayBegin s w.before g) where
  abbrev list : Option GroupView
  list = (row_of s g).list

  abbrev st : GroupState
  st = state_in list

  abbrev wait : WaitingView
  wait = (led_of s g).waiting

  tied : (h : List ℕ) → Tied h w n (at_work s)
  tied h = begin_tied h w n s up (reached_rests c w k h)

  -- the records say what each list comes to
  is_state : (h : List ℕ) → StateIs s.views.me s.views.view h (row_of s h).list (records_of w.before)
  unfolding row_of
  is_state h = states_tied h w n (at_work s) (tied h)

  idle : st.running ≡ None
  idle = ap (λ (z : GroupState). z.running) (is_state g).state ∙ m.idle

  len : (list_or_new list).len < 4096
  len = let e = (is_state g).len in let p = m.places in omega (arith, e, p)

  few : length st.members ≤ 64
  unfolding state_of list_of row_of
  few = let r : Room (state_of (at_work s) g) = rooms w n (at_work s) tied g in omega (arith, r)

  -- ---- what is settled

  abbrev Served : Option (List ℕ) → Type 0
  Served o = (wait.joins ≡ []) × ((h : List ℕ) → o ≡ Some h → IsServed st (state_in (row_of s h).list))

  by_due : (h : List ℕ) → st.attrs.source ≡ Some h → (o : Option Due) → target.due st (option_map (λ (x : GroupView). x.state) (row_of s h).list) ≡ o → SettledDue (lists_of s) g st wait.joins h o → Served (Some h)
  by_due h is None q a =
      (a, λ x z. let y : h ≡ x = cc in subst (λ z. IsServed st (state_in (row_of s z).list)) y (nothing_due st (row_of s h).list q))
  by_due h is (Some (owed.CastOut out)) q a =
      absurd (not_both _ (fail_fits (list_or_new list) (batches_failures st.attrs.batch) out st.attrs.phases idle len m.bytes (let z = casts_few st (option_map (λ (x : GroupView). x.state) (row_of s h).list) out q in omega (arith, z, few))) a)
  by_due h is (Some (owed.Reflect v i)) q a =
      absurd (not_both _ (reflect_fits (list_or_new list) v i (state_in (row_of s h).list).value st.attrs.source_phases idle len m.bytes short) a)
    where
      source : (state_here s w.before g).attrs.source ≡ Some h
      source = sym (ap (λ (z : GroupState). z.attrs.source) (is_state g).state) ∙ is

      short : length (state_in (row_of s h).list).value ≤ 2147483648
      short = let e = ap (λ (z : GroupState). length z.value) (is_state h).state in let p = m.short h source in omega (arith, e, p)

  by_source : (o : Option (List ℕ)) → st.attrs.source ≡ o → SettledBy (lists_of s) g st wait.joins o → Served o
  by_source None is a = (a, λ h z. absurd cc)
  by_source (Some h) is a = by_due h is (target.due st (option_map (λ (x : GroupView). x.state) (row_of s h).list)) refl a

  served : Has g (led_groups s) → (wait.failures ≡ []) × Served st.attrs.source
  served i =
      let a : (wait.failures ≡ []) × Settled (lists_of s) g wait.joins = (rested c w k n s up).rests m.thawed g i (may_begin_there (list_or_new list) idle len m.bytes) in
      (a.0, by_source st.attrs.source refl a.1)

  -- by the records
  told : ((h : List ℕ) → st.attrs.source ≡ Some h → IsServed st (state_in (row_of s h).list)) → (h : List ℕ) → (state_here s w.before g).attrs.source ≡ Some h → IsServed (state_here s w.before g) (state_here s w.before h)
  told all h is =
      let own : IsServed st (state_in (row_of s h).list) = all h (ap (λ (z : GroupState). z.attrs.source) (is_state g).state ∙ is) in
      subst (λ (z : GroupState × GroupState). IsServed z.0 z.1) (λ i. ((is_state g).state i, (is_state h).state i)) own

  -- a group without a row has no source, and nobody waits
  bare : row_of s g ≡ new_row g → AtRest s w.before g
  unfolding led_of
  bare e =
      record {
        waiting = ap (λ (row : GroupRow). row.led.waiting) e;
        served = told (λ h is. absurd (let z : None ≡ Some h = sym (ap (λ (row : GroupRow). (state_in row.list).attrs.source) e) ∙ is in cc));
      }

  at_rest : AtRest s w.before g
  at_rest = by (led_or_bare s g m.led)
    where
      by : Has g (led_groups s) ⊎ (row_of s g ≡ new_row g) → AtRest s w.before g
      by (inl i) = let a = served i in record { waiting = waits_none wait a.0 (a.1).0; served = told (a.1).1 }
      by (inr e) = bare e

pub leaders_of_scenes_are_at_rest : LeadersOfScenesAreAtRest
leaders_of_scenes_are_at_rest c w k n s up g m = at_rest c w k n s up g m
