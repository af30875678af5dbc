-- Entering a view, and what a rule of views leaves.
use Rattle.std.proofs.Common.{◌≡◌, ◌⊎◌, ℕ, List, [], ◌∷◌, ◌++◌, length, Option, Some, None, Bool, true, false, refl, sym, ap, ◌∙◌, subst, inl, inr, append_assoc, append-nil, arith}
use Rattle.std.specs.Prelude.{◌==◌, ◌&&◌, map, filter, fold, find, reverse, is_some, if◌then◌else◌}
use Rattle.std.specs.Option.{option_map}
use Rattle.std.specs.Str.{bytes_eq}
use Rattle.std.proofs.lemmas.List.{reverse-append}
use Rattle.std.proofs.lemmas.Bool.Decides.{nat_tests}
use Rattle.rsct_packet.specs.declared.ids.ViewId.{ViewId}
use Rattle.rsct_packet.specs.Ids.{same_view}
use Rattle.rsct_packet.specs.Providers.{among}
use Rattle.rsct_packet.proofs.HasLaws.{append_has_right}
use Rattle.proposal_core.specs.declared.proposal.Cause.TheVariants.{Died}
use Rattle.proposal_core.specs.declared.group_state.GroupState.{GroupState}
use Rattle.proposal_core.specs.Fold.{empty_state}
use Rattle.batch_rules.specs.Waiting.{add_failure}
use Rattle.view_state.specs.declared.install.Install.{Install}
use Rattle.view_state.specs.declared.install.Base.{Base}
use Rattle.view_state.specs.Bases.{bases_of, base_named}
use Rattle.view_state.specs.declared.packet.ViewSend.{ViewSend}
use Rattle.view_state.specs.declared.views.ViewWork.{ViewWork}
use Rattle.view_state.specs.Views.{own_install, views_entered}
use Rattle.node_state.specs.declared.happened.Happened.{Happened}
use Rattle.node_state.specs.declared.happened.Happened.TheVariants as happened
use Rattle.node_state.specs.declared.packet.Body.TheVariants as body
use Rattle.node_state.specs.declared.state.Core.{Core}
use Rattle.node_state.specs.State.{InNameOrder, AllAfter, new_row, row_found, state_of, held_rows, recorded_all, with_sessions, has_name}
use Rattle.node_state.specs.Sending.{sent}
use Rattle.node_state.specs.HandOn.{Answering}
use Rattle.node_state.specs.Leading.{with_waiting, tally_opened}
use Rattle.node_state.specs.Applying.{Lacking, lacking, fill_lists, level_set, base_row, base_record, view_entered, sides_dissolved, entering_noted, taken_sent, owed_sent, wait_failed, phase_reopened, lead, lead_groups, entered, entered_if, apply_install, views_taken}
use Rattle.run_safety.specs.Past.{History, earlier, puts_of, base_of, fold_from, state_now}
use Rattle.node_state.proofs.NameOrder.{none_after, text_same}
use Rattle.step_refinement.proofs.BaseOrder.{bases_ordered, row_of_base, base_noted}
use Rattle.entry_laws.proofs.closing_rows.Quiet.{at_fold, at_rest_entered}
use Rattle.entry_laws.proofs.closing_rows.At.{Frame, seat, RowStarts, nothing_said, fresh_row, Fresh, Facts, StateIs, At, at_calm, at_views, keeps_quiet}
use Rattle.entry_laws.proofs.closing_rows.Calms.{calm_sent, calm_fold}
use Rattle.entry_laws.proofs.closing_rows.Leading.{at_waits, at_opened_anew, at_closes}
use Rattle.entry_laws.proofs.closing_rows.Ending.{Every, NoGroup, at_led_groups}
use Rattle.entry_laws.proofs.closing_rows.Works.{Stays}

-- ---- the bases of a view, as they are recorded

-- the base of a group, where one of these is its
abbrev last_state : List ℕ → List Base → GroupState → GroupState
last_state g [] old = old
last_state g (b ∷ bs) old = last_state g bs (if bytes_eq b.name g then b.state else old)

abbrev state_named : Option Base → GroupState → GroupState
state_named None old = old
state_named (Some b) old = b.state

no_other : (g : List ℕ) (bs : List Base) (old : GroupState) → find (has_name g) (map base_row bs) ≡ None → last_state g bs old ≡ old
unfolding base_row
no_other g [] old e = refl
no_other g (b ∷ bs) old e = by (bytes_eq b.name g) e (no_other g bs old)
  where
    by : (t : Bool) → (if t then Some (base_row b) else find (has_name g) (map base_row bs)) ≡ None → (find (has_name g) (map base_row bs) ≡ None → last_state g bs old ≡ old) → last_state g bs (if t then b.state else old) ≡ old
    by true q rest = absurd (cc)
    by false q rest = rest q

-- each group has one
last_is_named : (g : List ℕ) (bs : List Base) (old : GroupState) → InNameOrder (map base_row bs) → last_state g bs old ≡ state_named (base_named bs g) old
unfolding base_row base_named
last_is_named g [] old o = refl
last_is_named g (b ∷ bs) old o = by (bytes_eq b.name g) refl (last_is_named g bs old o.1)
  where
    by : (t : Bool) → bytes_eq b.name g ≡ t → last_state g bs old ≡ state_named (find (λ (b : Base). bytes_eq b.name g) bs) old → last_state g bs (if t then b.state else old) ≡ state_named (if t then Some b else find (λ (b : Base). bytes_eq b.name g) bs) old
    by true q rest = no_other g bs b.state (none_after g (map base_row bs) (subst (λ z. AllAfter z (map base_row bs)) (text_same b.name g q) o.0))
    by false q rest = rest

module _ (h : History) (n : ℕ) (v : ViewId) where
  abbrev pushed : List Happened → List Base → List Happened
  pushed rs bs = reverse (rs ++ map (base_noted n v) bs)

  pushed_more : (rs : List Happened) (b : Base) (bs : List Base) → pushed rs (b ∷ bs) ≡ pushed (rs ++ base_noted n v b ∷ []) bs
  pushed_more rs b bs = ap reverse (sym (append_assoc rs (base_noted n v b ∷ []) (map (base_noted n v) bs)))

  pushed_none : (rs : List Happened) → pushed rs [] ≡ reverse rs
  pushed_none rs = ap reverse (append-nil rs)

  turned_one : (rs : List Happened) (b : Base) → reverse (rs ++ base_noted n v b ∷ []) ≡ base_noted n v b ∷ reverse rs
  turned_one rs b = reverse-append rs (base_noted n v b ∷ [])

  based_facts : (bs : List Base) (rs : List Happened) → Facts h (reverse rs) → Facts h (pushed rs bs)
  based_facts [] rs k = subst (Facts h) (sym (pushed_none rs)) k
  based_facts (b ∷ bs) rs k = subst (Facts h) (sym (pushed_more rs b bs)) (based_facts bs (rs ++ base_noted n v b ∷ []) (subst (Facts h) (sym (turned_one rs b)) (tt, k)))

  based_fresh : (bs : List Base) (rs : List Happened) → Fresh (pushed rs bs) h → Fresh (reverse rs) h
  based_fresh [] rs k = subst (λ l. Fresh l h) (pushed_none rs) k
  based_fresh (b ∷ bs) rs k =
      (subst (λ l. Fresh l h) (turned_one rs b) (based_fresh bs (rs ++ base_noted n v b ∷ []) (subst (λ l. Fresh l h) (pushed_more rs b bs) k))).1

  based_puts : (g : List ℕ) (bs : List Base) (rs : List Happened) → puts_of n v g (earlier (pushed rs bs) h) ≡ puts_of n v g (earlier (reverse rs) h)
  based_puts g [] rs = ap (λ l. puts_of n v g (earlier l h)) (pushed_none rs)
  based_puts g (b ∷ bs) rs =
      ap (λ l. puts_of n v g (earlier l h)) (pushed_more rs b bs) ∙ based_puts g bs (rs ++ base_noted n v b ∷ []) ∙ ap (λ l. puts_of n v g (earlier l h)) (turned_one rs b)

  based_one : (g : List ℕ) (b : Base) (rs : List Happened) → base_of n v g (earlier (base_noted n v b ∷ reverse rs) h) ≡ (if bytes_eq b.name g then b.state else base_of n v g (earlier (reverse rs) h))
  based_one g b rs = by (bytes_eq b.name g) refl
    where
      old : GroupState
      old = base_of n v g (earlier (reverse rs) h)

      self : (n == n && same_view v v) ≡ true
      self = grind (arith, nat_tests)

      both : (a c d : Bool) → (a && c) ≡ true → (a && (c && d)) ≡ d
      both true true d e = refl
      both true false d e = absurd (cc)
      both false c d e = absurd (cc)

      by : (t : Bool) → bytes_eq b.name g ≡ t → (if n == n && (same_view v v && bytes_eq b.name g) then b.state else old) ≡ (if t then b.state else old)
      by t q = ap (λ c. if c then b.state else old) (both (n == n) (same_view v v) (bytes_eq b.name g) self ∙ q)

  based_base : (g : List ℕ) (bs : List Base) (rs : List Happened) → base_of n v g (earlier (pushed rs bs) h) ≡ last_state g bs (base_of n v g (earlier (reverse rs) h))
  based_base g [] rs = ap (λ l. base_of n v g (earlier l h)) (pushed_none rs)
  based_base g (b ∷ bs) rs =
      ap (λ l. base_of n v g (earlier l h)) (pushed_more rs b bs) ∙ based_base g bs (rs ++ base_noted n v b ∷ []) ∙ ap (λ l. last_state g bs (base_of n v g (earlier l h))) (turned_one rs b) ∙ ap (last_state g bs) (based_one g b rs)

module _ (h : Frame) where
  abbrev Full : Core → Type 0
  Full s = At h Every NoGroup s

  -- (7)
  at_group_led : (f : Answering) (G : List ℕ → Type 0) (s : Core) (g : List ℕ) → G g → At h Every G s → At h Every G (lead f s g)
  unfolding lead wait_failed phase_reopened
  at_group_led f G s g led a = by (is_some (state_of s g).running)
    where
      t : Core
      t = wait_failed s g (filter (among (state_of s g).members) (state_of s g).failed)

      waits : At h Every G t
      waits =
          at_fold (At h Every G) (λ t p. with_waiting t g (add_failure p Died)) (filter (among (state_of s g).members) (state_of s g).failed) (λ t p i k. at_waits h Every G t g (add_failure p Died) k) s a

      by : (b : Bool) → At h Every G (phase_reopened f t g b)
      by false = waits
      by true = at_closes h Every G f (tally_opened t g) g tt led (at_opened_anew h Every G t g led waits)

  at_groups_led : (f : Answering) (s : Core) → Full s → Full (lead_groups f s)
  unfolding lead_groups
  at_groups_led f s a = at_led_groups h (lead f) (at_group_led f) s a

-- the node has entered a view, in which nothing was told, led or acknowledged yet
abbrev pub entering : Frame → Frame
entering h = record h { entered = true; floors = nothing_said }

module _ (h : Frame) where
  abbrev Entered : Core → Type 0
  Entered s = At (entering h) Every NoGroup s

  abbrev Stayed : Core → Type 0
  Stayed s = At h Every NoGroup s

  -- (2) in a view that is entered lists are those of the bases, and nothing is counted yet
  at_view_entered : (s : Core) (i : Install) → Entered (view_entered s i (bases_of i))
  unfolding view_entered level_set base_record base_row views_entered own_install with_sessions recorded_all
  at_view_entered s i =
      record {
        came = (i.members, append_has_right enters s.records (enters ∷ map (base_noted s.views.me i.view) bs) (inl refl));
        rows = record { order = bases_ordered i; starts = start; tallies = λ g u. inl (tally g); led = λ g z. absurd z };
        facts = subst (λ l. Facts h.history (reverse l)) same (based_facts h.history s.views.me i.view bs rs (subst (Facts h.history) (sym entering) tt));
        states = λ fresh g. state g (fresh_there (subst (λ l. Fresh (reverse l) h.history) (sym same) fresh));
      }
    where
      bs : List Base
      bs = bases_of i

      enters : Happened
      enters = happened.In s.views.me i.view i.members

      rs : List Happened
      rs = s.records ++ enters ∷ []

      same : rs ++ map (base_noted s.views.me i.view) bs ≡ s.records ++ enters ∷ map (base_noted s.views.me i.view) bs
      same = append_assoc s.records (enters ∷ []) (map (base_noted s.views.me i.view) bs)

      entering : reverse rs ≡ enters ∷ reverse s.records
      entering = reverse-append s.records (enters ∷ [])

      tally : (g : List ℕ) → (row_found g (find (has_name g) (map base_row bs))).led.tally ≡ None
      tally g = ap (λ o. (row_found g o).led.tally) (row_of_base g bs) ∙ by (base_named bs g)
        where
          by : (o : Option Base) → (row_found g (option_map base_row o)).led.tally ≡ None
          by None = refl
          by (Some b) = refl

      start : (g : List ℕ) → RowStarts nothing_said (seat (view_entered s i (bases_of i))) g (row_found g (find (has_name g) (map base_row bs)))
      start g = subst (λ o. RowStarts nothing_said (seat (view_entered s i (bases_of i))) g (row_found g o)) (sym (row_of_base g bs)) (by (base_named bs g))
        where
          by : (o : Option Base) → RowStarts nothing_said (seat (view_entered s i (bases_of i))) g (row_found g (option_map base_row o))
          by None = fresh_row (seat (view_entered s i (bases_of i))) g (new_row g) refl refl refl
          by (Some b) = fresh_row (seat (view_entered s i (bases_of i))) g (base_row b) refl refl refl

      fresh_there : Fresh (reverse (rs ++ map (base_noted s.views.me i.view) bs)) h.history → (g : List ℕ) → (puts_of s.views.me i.view g (earlier (reverse s.records) h.history) ≡ []) × (base_of s.views.me i.view g (earlier (reverse s.records) h.history) ≡ empty_state)
      fresh_there k = (subst (λ l. Fresh l h.history) entering (based_fresh h.history s.views.me i.view bs rs k)).0

      state : (g : List ℕ) → ((k : List ℕ) → (puts_of s.views.me i.view k (earlier (reverse s.records) h.history) ≡ []) × (base_of s.views.me i.view k (earlier (reverse s.records) h.history) ≡ empty_state)) → StateIs s.views.me i.view g (row_found g (find (has_name g) (map base_row bs))).list (earlier (reverse (s.records ++ enters ∷ map (base_noted s.views.me i.view) bs)) h.history)
      state g k =
          subst (λ l. StateIs s.views.me i.view g (row_found g (find (has_name g) (map base_row bs))).list (earlier (reverse l) h.history)) same (subst (λ o. StateIs s.views.me i.view g (row_found g o).list (earlier (pushed h.history s.views.me i.view rs bs) h.history)) (sym (row_of_base g bs)) (of (base_named bs g) base))
        where
          puts : puts_of s.views.me i.view g (earlier (pushed h.history s.views.me i.view rs bs) h.history) ≡ []
          puts = based_puts h.history s.views.me i.view g bs rs ∙ ap (λ l. puts_of s.views.me i.view g (earlier l h.history)) entering ∙ (k g).0

          base : base_of s.views.me i.view g (earlier (pushed h.history s.views.me i.view rs bs) h.history) ≡ state_named (base_named bs g) empty_state
          base = based_base h.history s.views.me i.view g bs rs ∙ ap (λ l. last_state g bs (base_of s.views.me i.view g (earlier l h.history))) entering ∙ ap (last_state g bs) (k g).1 ∙ last_is_named g bs empty_state (bases_ordered i)

          state_is : state_now s.views.me i.view g (earlier (pushed h.history s.views.me i.view rs bs) h.history) ≡ base_of s.views.me i.view g (earlier (pushed h.history s.views.me i.view rs bs) h.history)
          state_is = ap (fold_from i.view (base_of s.views.me i.view g (earlier (pushed h.history s.views.me i.view rs bs) h.history)) 0) puts

          of : (o : Option Base) → base_of s.views.me i.view g (earlier (pushed h.history s.views.me i.view rs bs) h.history) ≡ state_named o empty_state → StateIs s.views.me i.view g (row_found g (option_map base_row o)).list (earlier (pushed h.history s.views.me i.view rs bs) h.history)
          of None e = record { state = sym (state_is ∙ e); len = sym (ap length puts) }
          of (Some b) e = record { state = sym (state_is ∙ e); len = sym (ap length puts) }

  at_entered : (f : Answering) (s : Core) (i : Install) (xs : List Lacking) → Entered (entered f s i xs)
  unfolding entered
  at_entered f s i xs =
      let t : Core = fill_lists f s xs in
      let bs : List Base = bases_of i in
      let v : Core = view_entered t i bs in
      let u : Core = owed_sent (taken_sent (entering_noted (sides_dissolved v (held_rows t) t.views.view bs) bs)) in
      at_groups_led (entering h) f u (at_rest_entered (keeps_quiet (entering h) Every NoGroup) v (held_rows t) t.views.view bs (at_view_entered t i))

  at_applied : (f : Answering) (s : Core) (o : Option Install) → Stayed s → Entered (apply_install f s o) ⊎ Stayed (apply_install f s o)
  unfolding apply_install entered_if
  at_applied f s None a = inr a
  at_applied f s (Some i) a = by (lacking s i)
    where
      by : (o : Option (List Lacking)) → Entered (entered_if f s i o) ⊎ Stayed (entered_if f s i o)
      by None = inr a
      by (Some xs) = inl (at_entered f s i xs)

  -- ---- a rule of views

  pub at_views_taken : (f : Answering) (s : Core) (w : ViewWork) → Stays s.views w → Stayed s → Entered (views_taken f s w) ⊎ Stayed (views_taken f s w)
  unfolding views_taken
  at_views_taken f s w k a =
      let c : Core = record s { views = w.views } in
      let d : Core = fold (λ t (x : ViewSend). sent t x.to (body.View x.packet)) c w.sends in
      at_applied f d w.install (at_calm h Every NoGroup c d (calm_fold (λ t (x : ViewSend). sent t x.to (body.View x.packet)) (λ t x. calm_sent t x.to (body.View x.packet)) w.sends c) (at_views h Every NoGroup s w.views k.me k.view k.members a))
