-- VOTE and GONE.
use Rattle.std.proofs.Common.{◌≡◌, ◌≤◌, ℕ, List, [], ◌∷◌, length, Option, Some, None, Bool, true, false, refl, sym, ap, ◌∙◌, subst, arith}
use Rattle.std.specs.Prelude.{◌&&◌, ◌||◌, not, if◌then◌else◌}
use Rattle.std.proofs.lemmas.Bool.{and_parts}
use Rattle.rsct_packet.specs.declared.ids.ViewId.{ViewId}
use Rattle.rsct_packet.specs.declared.ids.ProtoId.{ProtoId}
use Rattle.rsct_packet.specs.declared.ids.ProviderId.{ProviderId}
use Rattle.rsct_packet.specs.Providers.{same_provider, among, differ, without}
use Rattle.proposal_core.specs.declared.proposal.Cause.TheVariants.{Gone}
use Rattle.proposal_core.specs.declared.entry.Vote.{Vote}
use Rattle.proposal_core.specs.Fold.{runs, present}
use Rattle.vote_phases.specs.Tally.{TallyView, tally_fail}
use Rattle.batch_rules.specs.Waiting.{add_failure, drop_join}
use Rattle.node_state.specs.declared.group.Led.{Led}
use Rattle.node_state.specs.declared.packet.Body.TheVariants as body
use Rattle.node_state.specs.declared.packet.Packet.{Packet}
use Rattle.node_state.specs.declared.state.Core.{Core}
use Rattle.node_state.specs.State.{row_of, with_led, led_of, state_of, leads, decision_of}
use Rattle.node_state.specs.HandOn.{Answering}
use Rattle.node_state.specs.Leading.{with_waiting, with_tally, closes}
use Rattle.node_state.specs.Following.{vote_cast, take_vote, tally_failed, wait_gone, marked, gone_present, gone_of, take_gone}
use Rattle.node_state.specs.Step.{is_used, used_if, take_body}
use Rattle.step_refinement.specs.Tied.{RowIs, LeaderKeeps, Scene, Tied}
use Rattle.step_refinement.proofs.Idle.{led_lightens}
use Rattle.step_refinement.proofs.RowWorks.{waits_of, tied_row}
use Rattle.step_refinement.proofs.Acks.{used_is}
use Rattle.step_refinement.proofs.Appending.{Leading, led_goes, waits_goes, closed_goes}

leads_itself : (g : List ℕ) (w : Scene) (n : ℕ) (s : Core) → Tied g w n s → Leading g w n s s
leads_itself g w n s t = record { tied = t; same = refl; leads = λ k. refl }

-- a ballot is cast: nothing of requests changes
cast_keeps : (p : ProviderId) (v : Vote) (value message : Option (List ℕ)) (l : Led) → ((vote_cast l p v value message l.tally).decided ≡ l.decided) × ((vote_cast l p v value message l.tally).waiting.joins ≡ l.waiting.joins) × ((vote_cast l p v value message l.tally).acked ≡ l.acked)
unfolding vote_cast
cast_keeps p v value message l = by l.tally
  where
    by : (o : Option TallyView) → ((vote_cast l p v value message o).decided ≡ l.decided) × ((vote_cast l p v value message o).waiting.joins ≡ l.waiting.joins) × ((vote_cast l p v value message o).acked ≡ l.acked)
    by None = (refl, refl, refl)
    by (Some t) = (refl, refl, refl)

pub vote_is_tied : (v : ViewId) (h : List ℕ) (proto : ProtoId) (phase : ℕ) (q : ProviderId) (ballot : Vote) (value message : Option (List ℕ)) (g : List ℕ) (w : Scene) (n : ℕ) (f : Answering) (s : Core) (p : Packet) → Tied g w n s → Tied g w n (take_body f s p (body.Vote v h proto phase q ballot value message))
unfolding take_body used_if take_vote
vote_is_tied v h proto phase q ballot value message g w n f s p t =
    by (is_used s p v) refl (leads s h && runs proto phase (state_of s h).running) refl
  where
    row : s.views.promise ≡ s.views.view → (b : Bool) → (leads s h && runs proto phase (state_of s h).running) ≡ b → Tied g w n (elim b as (λ _. Core) [ true ↦ closes f (with_led s h (λ l. vote_cast l q ballot value message l.tally)) h | false ↦ s ])
    row thawed false e = t
    row thawed true e =
        (closed_goes g w n s f thawed (with_led s h (λ l. vote_cast l q ballot value message l.tally)) h (λ q. (and_parts (leads s h) (runs proto phase (state_of s h).running) e).0) (led_goes g w n s s h (λ l. vote_cast l q ballot value message l.tally) (cast_keeps q ballot value message) (leads_itself g w n s t))).tied

    by : (a : Bool) → is_used s p v ≡ a → (b : Bool) → (leads s h && runs proto phase (state_of s h).running) ≡ b → Tied g w n (used_if s (elim b as (λ _. Core) [ true ↦ closes f (with_led s h (λ l. vote_cast l q ballot value message l.tally)) h | false ↦ s ]) a)
    by false e b d = t
    by true e b d = row (used_is s p v e).1 b d

-- ---- GONE

among_fewer : (xs : List ProviderId) (p q : ProviderId) → among (without xs p) q ≡ true → among xs q ≡ true
among_fewer [] p q e = e
among_fewer (x ∷ xs) p q e = by (same_provider x p) (same_provider x q) refl e (among_fewer xs p q)
  where
    by : (a b : Bool) → same_provider x q ≡ b → among (if not a then x ∷ without xs p else without xs p) q ≡ true → (among (without xs p) q ≡ true → among xs q ≡ true) → (b || among xs q) ≡ true
    by a true d e rest = refl
    by true false d e rest = rest e
    by false false d e rest = rest (subst (λ z. (z || among (without xs p) q) ≡ true) d e)

differ_without : (xs : List ProviderId) (p : ProviderId) → differ xs ≡ true → differ (without xs p) ≡ true
differ_without [] p e = refl
differ_without (x ∷ xs) p e = by (same_provider x p) (differ_without xs p (and_parts (not (among xs x)) (differ xs) e).1)
  where
    rest : (b : Bool) → among xs x ≡ false → among (without xs p) x ≡ b → not b ≡ true
    rest false e q = refl
    rest true e q = absurd (let k = among_fewer xs p x q in cc)

    new : (b : Bool) → among xs x ≡ b → not b ≡ true → among xs x ≡ false
    new false q e = q
    new true q e = absurd (cc)

    by : (a : Bool) → differ (without xs p) ≡ true → differ (if not a then x ∷ without xs p else without xs p) ≡ true
    by true k = k
    by false k =
        ap (λ b. b && differ (without xs p)) (rest (among (without xs p) x) (new (among xs x) refl (and_parts (not (among xs x)) (differ xs) e).0) refl) ∙ k

fewer_without : (xs : List ProviderId) (p : ProviderId) → length (without xs p) ≤ length xs
fewer_without [] p = omega arith
fewer_without (x ∷ xs) p = by (same_provider x p) (fewer_without xs p)
  where
    by : (b : Bool) → length (without xs p) ≤ length xs → length (if not b then x ∷ without xs p else without xs p) ≤ length (x ∷ xs)
    by true k = omega (arith, k)
    by false k = omega (arith, k)

-- a join waits no longer
drops_tied : (g : List ℕ) (w : Scene) (n : ℕ) (s : Core) (h : List ℕ) (p : ProviderId) → Tied g w n s → Tied g w n (with_waiting s h (drop_join p))
unfolding with_waiting with_led decision_of
drops_tied g w n s h p t =
    tied_row g w n s t h (λ row. record row { led = record (row.led) { waiting = drop_join p row.led.waiting } }) (λ x. refl) (led_lightens (λ l. record l { waiting = drop_join p l.waiting }) (λ l. fewer_without l.waiting.joins p)) (λ q i. waits_of g w n s t h q (among_fewer (row_of s h).led.waiting.joins p q i)) new
  where
    new : h ≡ g → RowIs t.ghost n s.views.view s.views.members (record (row_of s h) { led = record ((row_of s h).led) { waiting = drop_join p (row_of s h).led.waiting } }) × LeaderKeeps t.ghost n s.views.inc s.views.view (record ((row_of s h).led) { waiting = drop_join p (row_of s h).led.waiting })
    new e =
        let P : List ℕ → Type 0 = λ z. RowIs t.ghost n s.views.view s.views.members (record (row_of s z) { led = record ((row_of s z).led) { waiting = drop_join p (row_of s z).led.waiting } }) × LeaderKeeps t.ghost n s.views.inc s.views.view (record ((row_of s z).led) { waiting = drop_join p (row_of s z).led.waiting }) in
        let is = t.own.0 in
        let d = is.decides in
        subst P (sym e) (
          record { list = is.row_is.list; stable = is.row_is.stable; leader = is.row_is.leader; acked = is.row_is.acked; covers = is.row_is.covers },
          record {
            refused = λ q r a c i. let z = d.refused q r a c i in record { last = z.last; kept_it = z.kept_it; later = z.later };
            begun = λ q r i x a b c. let z = d.begun q r i x a b c in record { last = z.last; kept_it = z.kept_it; later = z.later };
            waiting = λ q a i. let z = d.waiting q a (among_fewer (row_of s g).led.waiting.joins p q i) in
                record { proposal = z.proposal; sent = z.sent; joins = z.joins; open_still = z.open_still; unbegun = z.unbegun; decided = record { last = z.decided.last; kept_it = z.decided.kept_it; later = z.decided.later } };
            later = d.later;
            again = d.again;
            leads_it = λ q i. d.leads_it q (among_fewer (row_of s g).led.waiting.joins p q i);
            apart = differ_without (row_of s g).led.waiting.joins p d.apart;
            lasts = λ q z i. d.lasts q z (among_fewer (row_of s g).led.waiting.joins p q i);
          },
        )

pub gone_is_tied : (v : ViewId) (h : List ℕ) (q : ProviderId) (g : List ℕ) (w : Scene) (n : ℕ) (f : Answering) (s : Core) (p : Packet) → Tied g w n s → Tied g w n (take_body f s p (body.Gone v h q))
unfolding take_body used_if take_gone gone_of gone_present wait_gone tally_failed with_tally
gone_is_tied v h q g w n f s p t = by (is_used s p v) refl (leads s h) refl
  where
    noted : Core
    noted = with_led s h (λ l. record l { gone = marked l.gone q })

    marks : Leading g w n s noted
    marks = led_goes g w n s s h (λ l. record l { gone = marked l.gone q }) (λ l. (refl, refl, refl)) (leads_itself g w n s t)

    fails : s.views.promise ≡ s.views.view → leads s h ≡ true → (o : Option TallyView) → Leading g w n s (tally_failed f noted h q o)
    fails thawed led None = marks
    fails thawed led (Some x) =
        closed_goes g w n s f thawed (with_tally noted h (Some (tally_fail q x))) h (λ z. led) (led_goes g w n s noted h (λ l. record l { tally = Some (tally_fail q x) }) (λ l. (refl, refl, refl)) marks)

    waits : (c : Core) → Leading g w n s c → (b : Bool) → Tied g w n (elim b as (λ _. Core) [ true ↦ with_waiting c h (add_failure q Gone) | false ↦ c ])
    waits c k true = (waits_goes g w n s c h q Gone k).tied
    waits c k false = k.tied

    there : s.views.promise ≡ s.views.view → leads s h ≡ true → (a b : Bool) → Tied g w n (gone_of f s h q a b)
    there thawed led true b =
        waits (tally_failed f noted h q (led_of noted h).tally) (fails thawed led (led_of noted h).tally) (among (state_of (tally_failed f noted h q (led_of noted h).tally) h).members q)
    there thawed led false true = drops_tied g w n s h q t
    there thawed led false false = t

    row : s.views.promise ≡ s.views.view → (b : Bool) → leads s h ≡ b → Tied g w n (elim b as (λ _. Core) [ true ↦ gone_of f s h q (among (present (state_of s h)) q) (among (led_of s h).waiting.joins q) | false ↦ s ])
    row thawed false e = t
    row thawed true e = there thawed e (among (present (state_of s h)) q) (among (led_of s h).waiting.joins q)

    by : (a : Bool) → is_used s p v ≡ a → (b : Bool) → leads s h ≡ b → Tied g w n (used_if s (elim b as (λ _. Core) [ true ↦ gone_of f s h q (among (present (state_of s h)) q) (among (led_of s h).waiting.joins q) | false ↦ s ]) a)
    by false e b d = t
    by true e b d = row (used_is s p v e).1 b d
