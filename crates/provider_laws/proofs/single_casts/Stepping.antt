-- A step, from one scene that events lead to to another: what it begins from, and what it enters.
use Rattle.std.proofs.Common.{◌≡◌, ◌<◌, ℕ, List, [], ◌∷◌, ◌++◌, length, Option, Some, None, Bool, true, false, refl, sym, ap, ◌∙◌, subst, inl, inr, ◌⊎◌, ⊎_elim, arith}
use Rattle.std.specs.Prelude.{◌&&◌, ◌==◌, reverse, find, is_none, if◌then◌else◌}
use Rattle.std.specs.Option.{option_map}
use Rattle.std.specs.Str.{bytes_eq}
use Rattle.rsct_packet.specs.declared.ids.ViewId.{ViewId}
use Rattle.rsct_packet.specs.declared.ids.Member.{Member}
use Rattle.rsct_packet.specs.Ids.{same_view}
use Rattle.rsct_packet.specs.Search.{Has}
use Rattle.rsct_packet.proofs.HasLaws.{has_append, append_has_left, append_has_right, find_has, find_none, has_reverse}
use Rattle.proposal_core.specs.declared.entry.Entry.{Entry}
use Rattle.proposal_core.specs.declared.group_state.GroupState.{GroupState}
use Rattle.proposal_core.specs.Fold.{empty_state}
use Rattle.proposal_core.specs.Lists.{list_or_new}
use Rattle.view_state.specs.declared.install.Install.{Install}
use Rattle.view_state.specs.declared.install.Base.{Base}
use Rattle.view_state.specs.Bases.{bases_of, base_named}
use Rattle.node_state.specs.declared.config.Config.{Config}
use Rattle.node_state.specs.declared.group.GroupRow.{GroupRow}
use Rattle.node_state.specs.declared.happened.Happened.{Happened}
use Rattle.node_state.specs.declared.happened.Happened.TheVariants as happened
use Rattle.node_state.specs.declared.state.Core.{Core}
use Rattle.node_state.specs.State.{row_found, row_of, list_of, state_of, len_of, held_rows, recorded_all, has_name}
use Rattle.node_state.specs.Applying.{base_row, view_entered}
use Rattle.node_state.specs.Step.{at_work}
use Rattle.run_safety.specs.ViewOrder.{Lt, Le}
use Rattle.run_safety.specs.Past.{earlier, records_of, puts_after, puts_of, fold_from}
use Rattle.run_safety.specs.Group.{Origin, In, kept}
use Rattle.run_safety.specs.GroupLists.{WasIn, From}
use Rattle.run_safety.specs.Bases.{Bases, base_state, state_of_list}
use Rattle.run_safety.specs.Sight.{inc_in}
use Rattle.run_safety.proofs.Order.{lt_not_same}
use Rattle.node_state.proofs.NameOrder.{text_same, text_self}
use Rattle.step_refinement.specs.Tied.{Scene}
use Rattle.step_refinement.specs.Runs.{Reached}
use Rattle.step_refinement.proofs.BaseOrder.{row_of_base}
use Rattle.step_refinement.proofs.Turns.{has_turned}
use Rattle.row_laws.specs.hearing.Changes.{Inner, entering, Does, Enters}
use Rattle.row_laws.proofs.hearing.Viewing.{Once, Stayed, Entered, sides_stand}
use Rattle.row_laws.proofs.hearing.Doing.{Hearing, hearing_does}
use Rattle.row_laws.proofs.hearing.Added.{does_grow}
use Rattle.provider_laws.proofs.single_casts.Lines.{ghost_of, in_line, line_read, runs_on, bases_in, noted_is, based_is, base_entered, put_entered, fitted_is, Seat, seat_of, single_is, entered_is}
use Rattle.provider_laws.proofs.single_casts.Adding.{Own, entering_view, does_me, quiet_adds, entering_adds}
use Rattle.provider_laws.proofs.single_casts.Folds.{Folded, puts_at, others_puts, entering_puts}
use Rattle.provider_laws.proofs.single_casts.Naming.{Naming}
use Rattle.provider_laws.proofs.single_casts.Going.{Fitted, Below, below_does, Going, going_does, naming_enters}
use Rattle.view_state.proofs.ViewOrder.{same_view_is}
use Rattle.std.proofs.lemmas.Bool.{eqb-true}
use Rattle.provider_laws.proofs.attending.Entering.{entered_records}

-- ---- what a group begins with in a view

abbrev pub begins_with : Option Base → GroupState
begins_with None = empty_state
begins_with (Some b) = b.state

entering_state : (s : Core) (i : Install) (g : List ℕ) → (state_of (entering s i) g ≡ begins_with (base_named (bases_of i) g)) × (len_of (entering s i) g ≡ 0)
unfolding state_of len_of list_of row_of base_row view_entered recorded_all
entering_state s i g = (ap (λ (row : GroupRow). (list_or_new row.list).state) found ∙ (by (base_named bs g)).0, ap (λ (row : GroupRow). (list_or_new row.list).len) found ∙ (by (base_named bs g)).1)
  where
    bs : List Base
    bs = bases_of i

    found : row_found g (find (has_name g) (entering s i).groups) ≡ row_found g (option_map base_row (base_named bs g))
    found =
        ap (λ (rows : List GroupRow). row_found g (find (has_name g) rows)) (sides_stand (view_entered s i bs) (held_rows s) s.views.view bs).groups ∙ ap (row_found g) (row_of_base g bs)

    by : (o : Option Base) → ((list_or_new (row_found g (option_map base_row o)).list).state ≡ begins_with o) × ((list_or_new (row_found g (option_map base_row o)).list).len ≡ 0)
    by None = (refl, refl)
    by (Some b) = (refl, refl)

-- who put nothing has no puts
puts_nothing : (n : ℕ) (v : ViewId) (g : List ℕ) (rs : List Happened) → ((i : ℕ) (e : Entry) → Has (happened.Put n v g i e) rs → ⊥) → puts_of n v g rs ≡ []
puts_nothing n v g [] none = refl
puts_nothing n v g (r ∷ rs) none = by r (λ i e q. none i e (inl q)) ∙ puts_nothing n v g rs (λ i e h. none i e (inr h))
  where
    by : (r : Happened) → ((i : ℕ) (e : Entry) → happened.Put n v g i e ≡ r → ⊥) → puts_after n v g r (puts_of n v g rs) ≡ puts_of n v g rs
    by (happened.Put m u h i e) ne = at (m == n) (same_view u v) (bytes_eq h g) refl refl refl
      where
        at : (a b c : Bool) → (m == n) ≡ a → same_view u v ≡ b → bytes_eq h g ≡ c → (if a && (b && c) then puts_of n v g rs ++ e ∷ [] else puts_of n v g rs) ≡ puts_of n v g rs
        at true true true x y z = absurd (ne i e (λ k. happened.Put (sym (eqb-true m n x) k) (sym (same_view_is u v y) k) (sym (text_same h g z) k) i e))
        at true true false x y z = refl
        at true false c x y z = refl
        at false b c x y z = refl
    by (happened.Up m j) ne = refl
    by (happened.Down m) ne = refl
    by (happened.Ring m k i ms o) ne = refl
    by (happened.In m u ms) ne = refl
    by (happened.Base m u h w len s) ne = refl
    by (happened.Heard p u h i e ms value) ne = refl
    by (happened.Cast p proto phase vote value message) ne = refl
    by (happened.Asked p q h x) ne = refl
    by (happened.Told p q why) ne = refl
    by (happened.Noted m c u i told) ne = refl
    by (happened.Refused m c fault) ne = refl
    by (happened.Shown m line) ne = refl

-- ---- a step from scene w to scene w'

module _ (c : Config) (w w' : Scene) (k : Reached c w) (k' : Reached c w') (n : ℕ) (s t : Core) (up : w.cores n ≡ Some s) (up' : w'.cores n ≡ Some t) (is : records_of w'.before ≡ reverse t.records ++ records_of w.before) (inc : t.views.inc ≡ s.views.inc) where
  abbrev rs : List Happened
  rs = records_of w'.before

  abbrev pub bases : List ℕ → Bases
  bases g = bases_in c w' k' g

  pub fitted : Fitted bases n rs
  fitted u g i e h le = fitted_is c w' k' g n u i e h le

  from_step : (r : Happened) → Has r t.records → Has r rs
  from_step r h = subst (Has r) (sym is) (has_turned r t.records (records_of w.before) (append_has_left r t.records (records_of w.before) h))

  from_past : (r : Happened) → Has r (records_of w.before) → Has r rs
  from_past r h = subst (Has r) (sym is) (append_has_right r (reverse t.records) (records_of w.before) h)

  came : (r : Happened) → Has r rs → Has r t.records ⊎ Has r (records_of w.before)
  came r h =
      ⊎_elim (λ (a : Has r (reverse t.records)). inl (has_reverse r t.records a)) (λ (a : Has r (records_of w.before)). inr a) (has_append r (reverse t.records) (records_of w.before) (subst (Has r) is h))

  -- of a base the step records none but of the view that it enters
  base_new : Once (at_work s) t → (m : ℕ) (u : ViewId) (g : List ℕ) (old : ViewId) (len : ℕ) (st : GroupState) → Has (happened.Base m u g old len st) t.records → Lt s.views.view u
  base_new (Stayed d e) m u g old len st h = absurd (none (quiet_adds (at_work s) t d e (happened.Base m u g old len st) h))
    where
      none : Has (happened.Base m u g old len st) [] ⊎ ⊥ → ⊥
      none (inl z) = z
      none (inr z) = z
  base_new (Entered a i d e lt anew d' e') m u g old len st h = at (quiet_adds (entering a i) t d' (e' ∙ sym (entering_view a i)) r h)
    where
      r : Happened
      r = happened.Base m u g old len st

      none : Has r [] ⊎ ⊥ → Lt s.views.view u
      none (inl z) = absurd z
      none (inr z) = absurd z

      by : Has r a.records ⊎ ((r ≡ happened.In a.views.me i.view i.members) ⊎ (((b : Base) × Has b (bases_of i) × (r ≡ happened.Base a.views.me i.view b.name b.from b.len b.state)) ⊎ Inner r)) → Lt s.views.view u
      by (inl z) = none (quiet_adds (at_work s) a d e r z)
      by (inr (inl z)) = absurd (cc)
      by (inr (inr (inl z))) = let q = z.2 in let v : u ≡ i.view = cc in subst (Lt s.views.view) (sym v) (subst (λ x. Lt x i.view) e lt)
      by (inr (inr (inr z))) = absurd z

      at : Has r (entering a i).records ⊎ ⊥ → Lt s.views.view u
      at (inl z) = by (entering_adds a i r z)
      at (inr z) = absurd z

  -- the base of the view in which the step begins
  same_base : Once (at_work s) t → (g : List ℕ) → base_state (bases_in c w k g s.views.view) ≡ base_state (bases g s.views.view)
  same_base once g = by (bases_in c w k g s.views.view) (bases g s.views.view) refl refl
    where
      seat : Seat c w k g n s
      seat = seat_of c w k g n s up

      by : (a b : Option Origin) → bases_in c w k g s.views.view ≡ a → bases g s.views.view ≡ b → base_state a ≡ base_state b
      by (Some x) b p q =
          let there = based_is c w k g n s.views.view s.views.members x seat.entered p in
          let same = noted_is c w' k' g n s.views.view x (from_past (happened.Base n s.views.view g x.old x.len x.state) there) in
          ap base_state (sym same ∙ q)
      by None None p q = refl
      by None (Some y) p q =
          let there = based_is c w' k' g n s.views.view s.views.members y (from_past (happened.In n s.views.view s.views.members) seat.entered) q in
          ⊎_elim (λ (z : Has (happened.Base n s.views.view g y.old y.len y.state) t.records). absurd (lt_not_same s.views.view s.views.view (base_new once n s.views.view g y.old y.len y.state z) refl)) (λ (z : Has (happened.Base n s.views.view g y.old y.len y.state) (records_of w.before)). let o = noted_is c w k g n s.views.view y z in absurd (let u : Some y ≡ None = sym o ∙ p in cc)) (came (happened.Base n s.views.view g y.old y.len y.state) there)

  pub begins_folded : Once (at_work s) t → (g : List ℕ) → Folded (bases g) n w.before g (at_work s)
  unfolding state_of len_of list_of row_of
  begins_folded once g =
      let seat : Seat c w k g n s = seat_of c w k g n s up in
      record { state = seat.state ∙ ap (λ b. fold_from s.views.view b 0 (puts_of n s.views.view g (records_of w.before))) (same_base once g); len = seat.len }

  -- ---- the view that it enters

  module _ (a : Core) (i : Install) (d : Does (at_work s) a) (e : a.views.view ≡ s.views.view) (lt : Lt a.views.view i.view) (d' : Does (entering a i) t) (e' : t.views.view ≡ i.view) where
    later : Lt s.views.view i.view
    later = subst (λ x. Lt x i.view) e lt

    me : a.views.me ≡ n
    me = does_me (at_work s) a d ∙ (seat_of c w k [] n s up).me

    -- the node was never in it
    fresh : (ms : List Member) → Has (happened.In n i.view ms) (records_of w.before) → ⊥
    fresh ms h =
        ⊎_elim (λ (z : inc_in n ms < (ghost_inc)). before z) (λ (z : (inc_in n ms ≡ ghost_inc) × Le i.view ghost_view). after z.1) (entered_is c w k [] n i.view ms h)
      where
        seat : Seat c w k [] n s
        seat = seat_of c w k [] n s up

        last : Seat c w' k' [] n t
        last = seat_of c w' k' [] n t up'

        ghost_inc : ℕ
        ghost_inc = ((ghost_of c w k []).nodes n).inc

        ghost_view : ViewId
        ghost_view = ((ghost_of c w k []).nodes n).view

        same : inc_in n ms ≡ t.views.inc
        same = single_is c w' k' [] n t.views.inc i.view ms t.views.members (from_past (happened.In n i.view ms) h) (subst (λ v. Has (In n t.views.inc v t.views.members) (kept (ghost_of c w' k' []).all)) e' last.line)

        before : inc_in n ms < ghost_inc → ⊥
        before z = let x = seat.inc in let y = same in let u = inc in omega (arith, z)

        after : Le i.view ghost_view → ⊥
        after z = let x : Le i.view s.views.view = subst (Le i.view) seat.view z in let y = later in absurd (cc)

    none_past : {A : Type 0} (r : Happened) → Has r a.records → (Own (at_work s).views.view r → A) → A
    none_past {A = A} r h own = by (quiet_adds (at_work s) a d e r h)
      where
        by : Has r [] ⊎ Own s.views.view r → A
        by (inl z) = absurd z
        by (inr z) = own z

    no_puts : (g : List ℕ) (j : ℕ) (x : Entry) → Has (happened.Put n i.view g j x) (earlier (reverse (entering a i).records) w.before) → ⊥
    no_puts g j x h =
        ⊎_elim (λ (z : Has r (reverse (entering a i).records)). new (entering_adds a i r (has_reverse r (entering a i).records z))) (λ (z : Has r (records_of w.before)). let m = put_entered c w k g n i.view j x z in fresh m.0 m.1) (has_append r (reverse (entering a i).records) (records_of w.before) h)
      where
        r : Happened
        r = happened.Put n i.view g j x

        new : Has r a.records ⊎ ((r ≡ happened.In a.views.me i.view i.members) ⊎ (((b : Base) × Has b (bases_of i) × (r ≡ happened.Base a.views.me i.view b.name b.from b.len b.state)) ⊎ Inner r)) → ⊥
        new (inl z) = none_past r z (λ q. lt_not_same s.views.view i.view later (sym q))
        new (inr (inl z)) = absurd (cc)
        new (inr (inr (inl z))) = let q = z.2 in absurd (cc)
        new (inr (inr (inr z))) = z

    recorded_base : (b : Base) → Has b (bases_of i) → Has (happened.Base n i.view b.name b.from b.len b.state) rs
    recorded_base b h =
        subst (λ m. Has (happened.Base m i.view b.name b.from b.len b.state) rs) me (from_step (happened.Base a.views.me i.view b.name b.from b.len b.state) (does_grow (entering a i) t d' (happened.Base a.views.me i.view b.name b.from b.len b.state) ((entered_records a i).base b h)))

    begins_based : (g : List ℕ) → begins_with (base_named (bases_of i) g) ≡ base_state (bases g i.view)
    unfolding base_named
    begins_based g = by (base_named (bases_of i) g) (bases g i.view) refl refl
      where
        by : (o : Option Base) (p : Option Origin) → base_named (bases_of i) g ≡ o → bases g i.view ≡ p → begins_with o ≡ base_state p
        by (Some b) p q z =
            let f = find_has (λ (x : Base). bytes_eq x.name g) (bases_of i) b q in
            let there = subst (λ x. Has (happened.Base n i.view x b.from b.len b.state) rs) (text_same b.name g f.1) (recorded_base b f.0) in
            let o : bases g i.view ≡ Some (record { old = b.from; len = b.len; state = b.state }) = noted_is c w' k' g n i.view (record { old = b.from; len = b.len; state = b.state }) there in
            ap base_state (sym o ∙ z)
        by None None q z = refl
        by None (Some y) q z = absurd (⊎_elim (λ (h : Has r t.records). new h) (λ (h : Has r (records_of w.before)). let m = base_entered c w k g n i.view y h in fresh m.0 m.1) (came r there))
          where
            r : Happened
            r = happened.Base n i.view g y.old y.len y.state

            entered : Has (happened.In n i.view i.members) rs
            entered = subst (λ m. Has (happened.In m i.view i.members) rs) me (from_step (happened.In a.views.me i.view i.members) (does_grow (entering a i) t d' (happened.In a.views.me i.view i.members) (entered_records a i).view))

            there : Has r rs
            there = based_is c w' k' g n i.view i.members y entered z

            named : (b : Base) → Has b (bases_of i) → b.name ≡ g → ⊥
            named b h name = find_none (λ (x : Base). bytes_eq x.name g) (bases_of i) b (ap (λ (o : Option Base). is_none o) q) h (ap (λ x. bytes_eq x g) name ∙ text_self g)

            old : Has r a.records ⊎ ((r ≡ happened.In a.views.me i.view i.members) ⊎ (((b : Base) × Has b (bases_of i) × (r ≡ happened.Base a.views.me i.view b.name b.from b.len b.state)) ⊎ Inner r)) → ⊥
            old (inl h) = none_past r h (λ x. x)
            old (inr (inl h)) = absurd (cc)
            old (inr (inr (inl h))) = let x = h.2 in let name : g ≡ (h.0).name = cc in named h.0 h.1 (sym name)
            old (inr (inr (inr h))) = h

            new : Has r t.records → ⊥
            new h = at (quiet_adds (entering a i) t d' (e' ∙ sym (entering_view a i)) r h)
              where
                at : Has r (entering a i).records ⊎ ⊥ → ⊥
                at (inl x) = old (entering_adds a i r x)
                at (inr x) = x

    pub enters_folded : (g : List ℕ) → Folded (bases g) n w.before g (entering a i)
    enters_folded g =
        let v = entering_view a i in
        let none : puts_of n i.view g (earlier (reverse (entering a i).records) w.before) ≡ [] = puts_nothing n i.view g (earlier (reverse (entering a i).records) w.before) (no_puts g) in
        let es = entering_state a i g in
        record {
          state = es.0 ∙ begins_based g ∙ ap (state_of_list (bases g) i.view) (sym none) ∙ ap (λ z. state_of_list (bases g) z (puts_at n z g w.before (entering a i))) (sym v);
          len = es.1 ∙ ap length (sym none) ∙ ap (λ z. length (puts_at n z g w.before (entering a i))) (sym v);
        }

    -- ---- from where it comes

    entered_line : (g : List ℕ) → Has (In n t.views.inc i.view t.views.members) (kept (ghost_of c w' k' g).all)
    entered_line g = subst (λ v. Has (In n t.views.inc v t.views.members) (kept (ghost_of c w' k' g).all)) e' (seat_of c w' k' g n t up').line

    came_from : (g : List ℕ) → From (kept (ghost_of c w' k' g).all) n t.views.inc i.view s.views.view
    came_from g = record { was = (s.views.members, was); less = later; last = last }
      where
        seat : Seat c w k g n s
        seat = seat_of c w k g n s up

        was : Has (In n t.views.inc s.views.view s.views.members) (kept (ghost_of c w' k' g).all)
        was =
            subst (λ j. Has (In n j s.views.view s.views.members) (kept (ghost_of c w' k' g).all)) (single_is c w k g n s.views.inc s.views.view s.views.members s.views.members seat.entered seat.line ∙ sym inc) (in_line c w' k' g n s.views.view s.views.members (from_past (happened.In n s.views.view s.views.members) seat.entered))

        last : (u : ViewId) → WasIn (kept (ghost_of c w' k' g).all) n t.views.inc u → Lt u i.view → Le u s.views.view
        last u z lt =
            let there : Has (happened.In n u z.0) rs = line_read c w' k' g n t.views.inc u z.0 z.1 in
            let j : inc_in n z.0 ≡ t.views.inc = single_is c w' k' g n t.views.inc u z.0 z.0 there z.1 in
            ⊎_elim (λ (h : Has (happened.In n u z.0) t.records). new (quiet_adds (entering a i) t d' (e' ∙ sym (entering_view a i)) (happened.In n u z.0) h)) (λ (h : Has (happened.In n u z.0) (records_of w.before)). past j (entered_is c w k g n u z.0 h)) (came (happened.In n u z.0) there)
          where
            past : inc_in n z.0 ≡ t.views.inc → (inc_in n z.0 < ((ghost_of c w k g).nodes n).inc) ⊎ ((inc_in n z.0 ≡ ((ghost_of c w k g).nodes n).inc) × Le u ((ghost_of c w k g).nodes n).view) → Le u s.views.view
            past j (inl y) = absurd (let x = seat.inc in let m = inc in omega (arith, y, j, x, m))
            past j (inr y) = subst (Le u) seat.view y.1

            by : Has (happened.In n u z.0) a.records ⊎ ((happened.In n u z.0 ≡ happened.In a.views.me i.view i.members) ⊎ (((b : Base) × Has b (bases_of i) × (happened.In n u z.0 ≡ happened.Base a.views.me i.view b.name b.from b.len b.state)) ⊎ Inner (happened.In n u z.0))) → Le u s.views.view
            by (inl h) = none_past (happened.In n u z.0) h (λ x. absurd x)
            by (inr (inl q)) = let v : u ≡ i.view = cc in absurd (lt_not_same u i.view lt v)
            by (inr (inr (inl h))) = let q = h.2 in absurd (cc)
            by (inr (inr (inr h))) = absurd h

            new : Has (happened.In n u z.0) (entering a i).records ⊎ ⊥ → Le u s.views.view
            new (inl h) = by (entering_adds a i (happened.In n u z.0) h)
            new (inr h) = absurd h

    -- who comes from the own side goes on with the protocol that runs there
    pub runs_same : (g : List ℕ) (b : Base) → base_named (bases_of i) g ≡ Some b → b.from ≡ s.views.view → Folded (bases g) n w.before g a → (state_of (entering a i) g).running ≡ (state_of a g).running
    unfolding base_named
    runs_same g b q from k =
        let f = find_has (λ (x : Base). bytes_eq x.name g) (bases_of i) b q in
        let o : Origin = record { old = b.from; len = b.len; state = b.state } in
        let there = subst (λ x. Has (happened.Base n i.view x b.from b.len b.state) rs) (text_same b.name g f.1) (recorded_base b f.0) in
        let base : bases g i.view ≡ Some o = noted_is c w' k' g n i.view o there in
        let law : b.state.running ≡ (state_of_list (bases g) s.views.view (puts_of n s.views.view g rs)).running = runs_on c w' k' g n t.views.inc s.views.view i.view t.views.members o (entered_line g) (came_from g) base from in
        ap (λ (x : GroupState). x.running) ((entering_state a i g).0 ∙ ap begins_with q) ∙ law ∙ ap (λ es. (state_of_list (bases g) s.views.view es).running) (puts g) ∙ ap (λ v. (state_of_list (bases g) v (puts_at n v g w.before a)).running) (sym e) ∙ ap (λ (x : GroupState). x.running) (sym k.state)
      where
        apart : (entering a i).views.view ≡ s.views.view → ⊥
        apart z = lt_not_same s.views.view i.view later (sym z ∙ entering_view a i)

        puts : (g : List ℕ) → puts_of n s.views.view g rs ≡ puts_at n s.views.view g w.before a
        puts g = ap (puts_of n s.views.view g) is ∙ others_puts n s.views.view g w.before (entering a i) t d' (e' ∙ sym (entering_view a i)) apart ∙ entering_puts n s.views.view g w.before a i

  -- ---- the whole step

  pub step_names : (j : ℕ) → Once (at_work s) t → Hearing n j w.before (at_work s) → Naming n w.before s.sessions [] → Naming n w.before t.sessions (reverse t.records)
  step_names j (Stayed d e) hear k0 =
      (going_does n j w.before bases rs fitted (at_work s) t d e (record { later = []; is = is }) (record { hearing = hear; folded = begins_folded (Stayed d e); naming = k0 })).naming
  step_names j (Entered a i d e lt none d' e') hear k0 =
      let once : Once (at_work s) t = Entered a i d e lt none d' e' in
      let top : Below rs w.before t = record { later = []; is = is } in
      let low : Below rs w.before (entering a i) = below_does rs w.before (entering a i) t d' top in
      let first : Going n j w.before bases rs fitted a = going_does n j w.before bases rs fitted (at_work s) a d e (below_does rs w.before a (entering a i) (Enters a i lt none) low) (record { hearing = hear; folded = begins_folded once; naming = k0 }) in
      (going_does n j w.before bases rs fitted (entering a i) t d' (e' ∙ sym (entering_view a i)) top (record { hearing = hearing_does n j w.before a (entering a i) (Enters a i lt none) first.hearing; folded = enters_folded a i d e lt d' e'; naming = naming_enters n w.before a i first.naming })).naming
