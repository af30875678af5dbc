-- Entering a view, and what a rule of views leaves.
use Rattle.std.proofs.Common.{◌≡◌, ℕ, List, [], ◌∷◌, ◌++◌, Option, Some, None, Bool, true, false, refl, sym, subst, inl, inr, append_assoc, append-nil}
use Rattle.std.specs.Prelude.{map, filter, fold, reverse, is_some, if◌then◌else◌}
use Rattle.std.specs.Str.{bytes_eq}
use Rattle.std.proofs.lemmas.List.{reverse-append}
use Rattle.rsct_packet.specs.declared.ids.ViewId.{ViewId}
use Rattle.rsct_packet.specs.Providers.{among}
use Rattle.rsct_packet.specs.Search.{Has}
use Rattle.rsct_packet.proofs.HasLaws.{has_map, append_has_right, reverse_has, map_has}
use Rattle.proposal_core.specs.declared.proposal.Cause.TheVariants.{Died}
use Rattle.batch_rules.specs.Waiting.{add_failure}
use Rattle.name_server.specs.Names.{node_of}
use Rattle.view_state.specs.declared.install.Install.{Install}
use Rattle.view_state.specs.declared.install.Base.{Base}
use Rattle.view_state.specs.Bases.{bases_of}
use Rattle.view_state.specs.declared.packet.ViewSend.{ViewSend}
use Rattle.view_state.specs.declared.views.ViewWork.{ViewWork}
use Rattle.view_state.specs.Views.{own_install, views_entered}
use Rattle.node_state.specs.declared.group.GroupRow.{GroupRow}
use Rattle.node_state.specs.declared.happened.Happened.{Happened}
use Rattle.node_state.specs.declared.happened.Happened.TheVariants as happened
use Rattle.node_state.specs.declared.packet.Body.TheVariants as body
use Rattle.node_state.specs.declared.state.Core.{Core}
use Rattle.node_state.specs.State.{state_of, held_rows, recorded_all, with_sessions, led_groups}
use Rattle.node_state.specs.Sending.{sent}
use Rattle.node_state.specs.HandOn.{Answering}
use Rattle.node_state.specs.Leading.{with_waiting, tally_opened}
use Rattle.node_state.specs.Applying.{Lacking, lacking, fill_lists, level_set, base_row, base_leader, base_record, view_entered, sides_dissolved, entering_noted, taken_sent, owed_sent, wait_failed, phase_reopened, lead, lead_groups, entered, entered_if, apply_install, views_taken}
use Rattle.step_refinement.proofs.BaseOrder.{base_noted}
use Rattle.node_state.proofs.NameOrder.{text_same}
use Rattle.entry_laws.proofs.closing_rows.Quiet.{at_fold, at_rest_entered}
use Rattle.entry_laws.specs.source_order.Sources.{RecordedBase}
use Rattle.entry_laws.proofs.closing_rows.Works.{Stays}
use Rattle.entry_laws.proofs.source_order.Holding.{Turn, Bare, holds_same, failure_fewer}
use Rattle.entry_laws.proofs.closing_rows.Calms.{calm_sent, calm_fold}
use Rattle.entry_laws.proofs.source_order.At.{Facts, At, at_calm, keeps_quiet}
use Rattle.entry_laws.proofs.source_order.Leading.{at_waits, at_tally_opened, at_closes}

-- who the table names is the leader of a base
named_base : (g : List ℕ) (m : ℕ) (bs : List Base) → node_of g (map base_leader bs) ≡ Some m → (b : Base) × Has b bs × (b.name ≡ g)
unfolding base_leader
named_base g m [] e = absurd (cc)
named_base g m (b ∷ bs) e = by (bytes_eq g b.name) refl e (named_base g m bs)
  where
    by : (t : Bool) → bytes_eq g b.name ≡ t → (if t then Some b.leader else node_of g (map base_leader bs)) ≡ Some m → (node_of g (map base_leader bs) ≡ Some m → (c : Base) × Has c bs × (c.name ≡ g)) → (c : Base) × Has c (b ∷ bs) × (c.name ≡ g)
    by true q e rest = (b, inl refl, sym (text_same g b.name q))
    by false q e rest = let z = rest e in (z.0, inr z.1, z.2)

module _ (h : Turn) (none_sent : h.sent ≡ []) where
  abbrev Full : Core → Type 0
  Full s = At h ⊥ s

  -- what was recorded of bases puts nothing
  based_facts : (n : ℕ) (v : ViewId) (bs : List Base) (rs : List Happened) → Facts h (reverse rs) → Facts h (reverse (rs ++ map (base_noted n v) bs))
  based_facts n v [] rs k = subst (λ l. Facts h (reverse l)) (sym (append-nil rs)) k
  based_facts n v (b ∷ bs) rs k =
      subst (λ l. Facts h (reverse l)) (append_assoc rs (base_noted n v b ∷ []) (map (base_noted n v) bs)) (based_facts n v bs (rs ++ base_noted n v b ∷ []) (subst (Facts h) (sym (reverse-append rs (base_noted n v b ∷ []))) (tt, k)))

  -- (2) what stands before it was put before
  at_view_entered : (s : Core) (i : Install) → Full (view_entered s i (bases_of i))
  unfolding view_entered level_set base_record base_row views_entered own_install with_sessions recorded_all
  at_view_entered s i =
      record {
        facts = subst (λ l. Facts h (reverse l)) (append_assoc s.records (enters ∷ []) (map (base_noted s.views.me i.view) (bases_of i))) (based_facts s.views.me i.view (bases_of i) (s.records ++ enters ∷ []) (subst (Facts h) (sym (reverse-append s.records (enters ∷ []))) tt));
        holds = inr (record { none = bare; named = named });
        sends = λ p k. absurd (subst (Has p) none_sent k);
        order = λ z. absurd z;
        states = λ z. absurd z;
      }
    where
      enters : Happened
      enters = happened.In s.views.me i.view i.members

      bare : (row : GroupRow) → Has row (map base_row (bases_of i)) → Bare row
      bare row k = let z = has_map base_row row (bases_of i) k in subst Bare (sym z.2) (refl, λ p e. absurd (cc))

      named : (g : List ℕ) (m : ℕ) → node_of g (map base_leader (bases_of i)) ≡ Some m → RecordedBase s.views.me i.view g (reverse (s.records ++ enters ∷ map (base_noted s.views.me i.view) (bases_of i)))
      named g m e =
          let b = named_base g m (bases_of i) e in
          record {
            old = b.0.from;
            len = b.0.len;
            base = b.0.state;
            there = reverse_has (happened.Base s.views.me i.view g b.0.from b.0.len b.0.state) (s.records ++ enters ∷ map (base_noted s.views.me i.view) (bases_of i)) (append_has_right (happened.Base s.views.me i.view g b.0.from b.0.len b.0.state) s.records (enters ∷ map (base_noted s.views.me i.view) (bases_of i)) (inr (subst (λ n. Has (happened.Base s.views.me i.view n b.0.from b.0.len b.0.state) (map (base_noted s.views.me i.view) (bases_of i))) b.2 (map_has (base_noted s.views.me i.view) b.0 (bases_of i) b.1))));
          }

  -- (7)
  at_group_led : (f : Answering) (s : Core) (g : List ℕ) → Full s → Full (lead f s g)
  unfolding lead wait_failed phase_reopened
  at_group_led f s g a = by (is_some (state_of s g).running)
    where
      t : Core
      t = wait_failed s g (filter (among (state_of s g).members) (state_of s g).failed)

      waits : Full t
      waits =
          at_fold (At h ⊥) (λ t p. with_waiting t g (add_failure p Died)) (filter (among (state_of s g).members) (state_of s g).failed) (λ t p i k. at_waits h ⊥ t g (add_failure p Died) (λ l. failure_fewer l p Died) k) s a

      by : (b : Bool) → Full (phase_reopened f t g b)
      by false = waits
      by true = at_closes h ⊥ f (tally_opened t g) g (at_tally_opened h ⊥ t g waits)

  at_entered : (f : Answering) (s : Core) (i : Install) (xs : List Lacking) → Full (entered f s i xs)
  unfolding entered lead_groups
  at_entered f s i xs =
      let t : Core = fill_lists f s xs in
      let bs : List Base = bases_of i in
      let v : Core = view_entered t i bs in
      let u : Core = owed_sent (taken_sent (entering_noted (sides_dissolved v (held_rows t) t.views.view bs) bs)) in
      at_fold (At h ⊥) (lead f) (led_groups u) (λ c g i k. at_group_led f c g k) u (at_rest_entered (keeps_quiet h ⊥) v (held_rows t) t.views.view bs (at_view_entered t i))

  at_applied : (f : Answering) (s : Core) (o : Option Install) → Full s → Full (apply_install f s o)
  unfolding apply_install entered_if
  at_applied f s None a = a
  at_applied f s (Some i) a = by (lacking s i)
    where
      by : (o : Option (List Lacking)) → Full (entered_if f s i o)
      by None = a
      by (Some xs) = at_entered f s i xs

  -- ---- a rule of views

  pub at_views_taken : (f : Answering) (s : Core) (w : ViewWork) → Stays s.views w → Full s → Full (views_taken f s w)
  unfolding views_taken
  at_views_taken f s w stays a =
      let c : Core = record s { views = w.views } in
      let d : Core = fold (λ t (x : ViewSend). sent t x.to (body.View x.packet)) c w.sends in
      at_applied f d w.install (at_calm h ⊥ c d (calm_fold (λ t (x : ViewSend). sent t x.to (body.View x.packet)) (λ t x. calm_sent t x.to (body.View x.packet)) w.sends c) (record { facts = a.facts; holds = holds_same h s c refl refl stays.me stays.view (λ r i. i) a.holds; sends = a.sends; order = λ z. absurd z; states = λ z. absurd z }))
