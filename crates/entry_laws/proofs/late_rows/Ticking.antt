-- A tick: each tally of a led group counts it once.
use Rattle.std.proofs.Common.{◌≡◌, ◌⊎◌, ℕ, List, [], ◌∷◌, ◌++◌, Option, Some, None, Bool, true, false, refl, sym, ap, ◌∙◌, subst, inl, inr, ⊎_elim, arith, append_assoc}
use Rattle.std.specs.Prelude.{◌==◌, ◌&&◌, map, filter, fold, reverse, if◌then◌else◌}
use Rattle.std.specs.List.{last_or}
use Rattle.std.specs.Str.{bytes_eq}
use Rattle.std.proofs.lemmas.List.{reverse-append}
use Rattle.std.proofs.lemmas.Bool.{and_parts, eq-eqb}
use Rattle.rsct_packet.specs.declared.ids.ProviderId.{ProviderId}
use Rattle.rsct_packet.specs.Text.{name_lt}
use Rattle.rsct_packet.specs.Search.{Has}
use Rattle.rsct_packet.proofs.HasLaws.{has_filter, has_map, has_reverse}
use Rattle.proposal_core.specs.declared.entry.Entry.{Entry}
use Rattle.proposal_core.specs.declared.entry.Entry.TheVariants.{Late}
use Rattle.proposal_core.specs.declared.group_state.GroupState.{GroupState}
use Rattle.proposal_core.specs.declared.group_state.Running.{Running}
use Rattle.proposal_core.specs.Lists.{list_or_new, state_in, entry_fits}
use Rattle.vote_phases.specs.Tally.{TallyView, expires, passes, has_open, open_voters, tally_tick}
use Rattle.node_state.specs.declared.group.GroupRow.{GroupRow}
use Rattle.node_state.specs.declared.happened.Happened.{Happened}
use Rattle.node_state.specs.declared.happened.Happened.TheVariants as happened
use Rattle.node_state.specs.declared.state.Core.{Core}
use Rattle.node_state.specs.State.{InNameOrder, row_of, led_of, list_of, state_of, len_of, fits_at_end, frozen, leads_in, led_groups, others, with_row, with_led}
use Rattle.node_state.specs.HandOn.{Answering}
use Rattle.node_state.specs.Leading.{appended, append_if_fits, with_tally, closing_entry, closes}
use Rattle.node_state.specs.Ticks.{late_appended, announced, ticked_in, tally_ticks, sent_again, tick_group, tick_led}
use Rattle.run_safety.specs.Past.{records_of}
use Rattle.run_safety.specs.Stays.{stays}
use Rattle.run_safety.specs.Stays as stay
use Rattle.node_state.proofs.NameOrder.{lt_self, text_self, row_here, after_has}
use Rattle.entry_laws.proofs.closing_rows.Calms.{AllSilent, calm_fold, again_calm}
use Rattle.entry_laws.specs.late_rows.Announced.{stay_entries, entries_here}
use Rattle.entry_laws.proofs.late_rows.At.{Turn, ticks_now, TallyIs, RowIs, Settled, late_voters, Folds, found, leads_row, At, at_for, at_row_for, silent_stays, keeps_quiet}
use Rattle.entry_laws.proofs.late_rows.Laters.{PutThen, later_appended}
use Rattle.entry_laws.proofs.late_rows.Rows.{row_kept}
use Rattle.entry_laws.proofs.late_rows.Tallies.{ticked_late, announced_late, Expired, ticked_settled, rows_told, announcement_fits}
use Rattle.entry_laws.proofs.late_rows.Leading.{But, MayLead, TellsAll, Ready, at_closes_ready, at_announces}
use Rattle.entry_laws.proofs.late_rows.Ending.{Every, NoGroup, Leads, at_leads, led_leads}

-- ---- the led groups differ

abbrev Apart : List (List ℕ) → Type 0
Apart [] = Unit {0}
Apart (g ∷ gs) = (Has g gs → ⊥) × Apart gs

names_apart : (test : GroupRow → Bool) (rows : List GroupRow) → InNameOrder rows → Apart (map (λ (row : GroupRow). row.name) (filter test rows))
names_apart test [] o = tt
names_apart test (row ∷ rows) o = by (test row) (names_apart test rows o.1)
  where
    later : Has row.name (map (λ (z : GroupRow). z.name) (filter test rows)) → ⊥
    later i =
        let a = has_map (λ (z : GroupRow). z.name) row.name (filter test rows) i in
        let b = has_filter test a.0 rows a.1 in
        let l : name_lt row.name row.name ≡ true = subst (λ z. name_lt row.name z ≡ true) (sym a.2) (after_has row.name rows a.0 o.0 b.0) in
        let k = lt_self row.name in absurd (cc)

    by : (b : Bool) → Apart (map (λ (z : GroupRow). z.name) (filter test rows)) → Apart (map (λ (z : GroupRow). z.name) (if b then row ∷ filter test rows else filter test rows))
    by true k = (later, k)
    by false k = k

-- before the tick is counted each tally has room for it
abbrev pub Unticked : List ℕ → ℕ → Type 0
Unticked g less = less ≡ 1

last_is : (xs : List Entry) (e : Entry) (o : Option Entry) → last_or o (xs ++ e ∷ []) ≡ Some e
last_is [] e o = refl
last_is (x ∷ xs) e o = last_is xs e (Some x)

stays_silent : (n : ℕ) (g : List ℕ) (rs old : List Happened) → AllSilent rs → stays n g (rs ++ old) ≡ stays n g old
stays_silent n g [] old silent = refl
stays_silent n g (r ∷ rs) old silent = silent_stays n g r (stays n g (rs ++ old)) (silent r (inl refl)) ∙ stays_silent n g rs old (λ y i. silent y (inr i))

some_same : (a b : Running) → Some a ≡ Some b → a ≡ b
some_same a b e = cc

module _ (h : Turn) where
  -- ---- what is led

  -- the tick is still to count in these groups
  abbrev Left : List (List ℕ) → List ℕ → ℕ → Type 0
  Left rest g less = (less ≡ 0) ⊎ ((less ≡ 1) × Has g rest)

  tally_down : (st : GroupState) (ticks : ℕ) (t : TallyView) → TallyIs st ticks 1 t → TallyIs st ticks 0 t
  tally_down st ticks t k = record { default = k.default; limit = k.limit; counted = (let a = k.counted in omega arith); voter = k.voter; vote = k.vote }

  row_down : (ticks : ℕ) (led : Bool) (row : GroupRow) → RowIs ticks 1 led row → RowIs ticks 0 led row
  row_down ticks led row k t e = let z = k t e in (z.0, λ run r. let w = z.1 run r in (tally_down (state_in row.list) ticks t w.0, w.1))

  at_down : (rest : List (List ℕ)) (G : List ℕ → Type 0) (s : Core) → At h Unticked G ⊥ s → At h (Left rest) G ⊥ s
  at_down rest G s a =
      record { me_is = a.me_is; config_is = a.config_is; level_is = a.level_is; puts = a.puts; told = a.told; mine = a.mine; order = a.order; folds = a.folds; tallies = λ g less t. by g less t; led = a.led; entered = a.entered }
    where
      by : (g : List ℕ) (less : ℕ) → Left rest g less → RowIs (ticks_now h g (reverse s.records)) less (leads_row s (found s g)) (found s g)
      by g less (inl e) =
          subst (λ k. RowIs (ticks_now h g (reverse s.records)) k (leads_row s (found s g)) (found s g)) (sym e) (row_down (ticks_now h g (reverse s.records)) (leads_row s (found s g)) (found s g) (a.tallies g 1 refl))
      by g less (inr k) = a.tallies g less k.0

  -- what is appended stands last
  last_put : {T : List ℕ → ℕ → Type 0} {G : List ℕ → Type 0} (f : Answering) (s : Core) (g : List ℕ) (e : Entry) → At h T G ⊥ s → last_or None (entries_here h.node g (reverse (appended f s g e).records ++ records_of h.before)) ≡ Some e
  last_put f s g e a =
      ap (λ l. last_or None (entries_here h.node g (reverse l ++ records_of h.before))) p.is ∙ ap (λ l. last_or None (entries_here h.node g (l ++ records_of h.before))) (reverse-append (s.records ++ r ∷ []) p.more ∙ ap (λ l. reverse p.more ++ l) (reverse-append s.records (r ∷ []))) ∙ ap (λ l. last_or None (entries_here h.node g l)) (append_assoc (reverse p.more) (r ∷ reverse s.records) (records_of h.before)) ∙ ap (λ l. last_or None (stay_entries l)) (stays_silent h.node g (reverse p.more) (r ∷ reverse s.records ++ records_of h.before) (λ y i. p.silent y (has_reverse y p.more i)) ∙ put_stays) ∙ last_is k.stay.entries e None
    where
      r : Happened
      r = happened.Put s.views.me s.views.view g (len_of s g) e

      p : PutThen s r (appended f s g e)
      p = later_appended f s g e

      k : Folds h g s.views.view (reverse s.records) (found s g).list
      k = a.folds g

      put_stays : stays h.node g (r ∷ reverse s.records ++ records_of h.before) ≡ record (k.stay) { entries = k.stay.entries ++ e ∷ [] } ∷ k.older
      put_stays =
          ap (λ b. if b then stay.with_entry e (stays h.node g (reverse s.records ++ records_of h.before)) else stays h.node g (reverse s.records ++ records_of h.before)) (ap (λ b. b && bytes_eq g g) (eq-eqb s.views.me h.node a.me_is) ∙ text_self g) ∙ ap (stay.with_entry e) k.is

  module _ (f : Answering) (G : List ℕ → Type 0) (g : List ℕ) (rest : List (List ℕ)) (apart : Has g rest → ⊥) (led : G g) where
    abbrev Before : Core → Type 0
    Before s = At h (Left (g ∷ rest)) G ⊥ s

    abbrev After : Core → Type 0
    After s = At h (Left rest) G ⊥ s

    own_row : (s : Core) → Before s → RowIs (ticks_now h g (reverse s.records)) 1 (leads_row s (found s g)) (found s g)
    own_row s a = a.tallies g 1 (inr (refl, inl refl))

    may : MayLead h (Left rest) G ⊥ g
    may = ((0, inl refl), λ less t. ⊎_elim (λ (z : less ≡ 0). inl z) (λ (z : (less ≡ 1) × Has g rest). absurd (apart z.1)) t, led)

    abbrev Entries : Core → List Entry
    Entries s = entries_here h.node g (reverse s.records ++ records_of h.before)

    abbrev ticked_row : GroupRow → GroupRow
    ticked_row row = record row { led = record (row.led) { tally = ticked_in row.led.tally } }

    -- what has to be known of a tally that expires: the announcement stands last, where the entry that closes the phase fits
    abbrev Said : Core → TallyView → Type 0
    Said s t =
        (run : Running) → (state_in (found s g).list).running ≡ Some run → Expired t → s.sessions.level ≡ 2 → (e : Entry) → closing_entry (ticked_row (found s g)).led (Some (tally_tick t)) (Some run) ≡ Some e → entry_fits (list_or_new (found s g).list) e ≡ true → last_or None (Entries s) ≡ Some (Late run.proto run.phase (open_voters t))

    abbrev RowReady : Core → GroupRow → Type 0
    RowReady s row =
        (t : TallyView) → row.led.tally ≡ Some t → (leads_row s row ≡ true) × ((run : Running) → (state_in row.list).running ≡ Some run → TallyIs (state_in row.list) (ticks_now h g (reverse s.records)) 0 t × (Settled row.led row.list t ⊎ ((has_open t ≡ false) × ((e : Entry) → closing_entry row.led (Some t) (Some run) ≡ Some e → entry_fits (list_or_new row.list) e ≡ true → TellsAll h s g e))))

    row_ready : (s : Core) (t : TallyView) → (found s g).led.tally ≡ Some t → Said s t → Before s → RowReady s (ticked_row (found s g))
    row_ready s t q said a u e =
        let z : tally_tick t ≡ u = cc in
        let k = own_row s a t q in
        (k.0, λ run r. let w = k.1 run r in subst (λ y. TallyIs (state_in (found s g).list) (ticks_now h g (reverse s.records)) 0 y × (Settled (ticked_row (found s g)).led (found s g).list y ⊎ ((has_open y ≡ false) × ((d : Entry) → closing_entry (ticked_row (found s g)).led (Some y) (Some run) ≡ Some d → entry_fits (list_or_new (found s g).list) d ≡ true → TellsAll h s g d)))) z (ticked_late (state_in (found s g).list) (ticks_now h g (reverse s.records)) t w.0, or_told run r (ticked_settled (found s g).led (ticked_row (found s g)).led (found s g).list t refl w.1)))
      where
        or_told : (run : Running) → (state_in (found s g).list).running ≡ Some run → (Settled (ticked_row (found s g)).led (found s g).list (tally_tick t) ⊎ Expired t) → (Settled (ticked_row (found s g)).led (found s g).list (tally_tick t) ⊎ ((has_open (tally_tick t) ≡ false) × ((d : Entry) → closing_entry (ticked_row (found s g)).led (Some (tally_tick t)) (Some run) ≡ Some d → entry_fits (list_or_new (found s g).list) d ≡ true → TellsAll h s g d)))
        or_told run r (inl y) = inl y
        or_told run r (inr x) =
            inr (x.none_open, λ d c fit two. rows_told (Entries s) (ticked_row (found s g)).led (tally_tick t) run d (inr (said run r x two d c fit ∙ ap (λ ps. Some (Late run.proto run.phase ps)) (sym x.late))) c)

    -- the tick is counted, and the phase closes where there is an outcome
    at_ticked : (s : Core) (t : TallyView) → (found s g).led.tally ≡ Some t → Said s t → Before s → After (closes f (with_tally s g (ticked_in (led_of s g).tally)) g)
    unfolding with_tally with_led led_of row_of with_row
    at_ticked s t q said a =
        at_closes_ready h (Left rest) G ⊥ f c g may ready (at_row_for h (Left (g ∷ rest)) (But h g (Left rest)) G ⊥ s g change (λ y. refl) (λ y. refl) (λ y. (refl, refl, refl)) (λ k less z ne. ⊎_elim (λ (y : less ≡ 0). inl y) (λ (y : (less ≡ 1) × Has k rest). inr (y.0, inr y.1)) z.0) (λ less z. absurd (z.1 refl)) a)
      where
        change : GroupRow → GroupRow
        change row = record row { led = record (row.led) { tally = ticked_in (found s g).led.tally } }

        c : Core
        c = with_row s g change

        here : found c g ≡ change (found s g)
        here = row_here g change (λ y. refl) s a.order

        row : RowReady c (found c g)
        row = subst (RowReady c) (sym here) (row_ready s t q said a)

        ready : Ready h (Left rest) G ⊥ f c g may
        ready less z u e = at z
          where
            at : Left rest g less → (leads_row c (found c g) ≡ true) × ((run : Running) → (state_in (found c g).list).running ≡ Some run → TallyIs (state_in (found c g).list) (ticks_now h g (reverse c.records)) less u × (Settled (found c g).led (found c g).list u ⊎ ((has_open u ≡ false) × ((d : Entry) → closing_entry (found c g).led (Some u) (Some run) ≡ Some d → entry_fits (list_or_new (found c g).list) d ≡ true → TellsAll h c g d))))
            at (inl y) =
                let k = row u e in
                (k.0, λ run r. let w = k.1 run r in (subst (λ n. TallyIs (state_in (found c g).list) (ticks_now h g (reverse c.records)) n u) (sym y) w.0, w.1))
            at (inr y) = absurd (apart y.1)

    at_tally_ticks : (s : Core) (o : Option TallyView) → (found s g).led.tally ≡ o → Before s → After (tally_ticks f s g o)
    unfolding tally_ticks announced late_appended append_if_fits fits_at_end state_of list_of row_of
    at_tally_ticks s None q a =
        at_for h (Left (g ∷ rest)) (Left rest) G G ⊥ ⊥ s (λ k less t. ⊎_elim (λ (z : less ≡ 0). inl z) (λ (z : (less ≡ 1) × Has k rest). inr (z.0, inr z.1)) t) (λ k z. a.led k z) (λ z. z) a
    at_tally_ticks s (Some t) q a = announces (s.sessions.level == 2 && expires t) refl
      where
        Done : Core → Type 0
        Done u = After (closes f (with_tally u g (ticked_in (led_of u g).tally)) g)

        late : Running → Entry
        late run = Late run.proto run.phase (open_voters t)

        told : (run : Running) → (state_in (found s g).list).running ≡ Some run → expires t ≡ true → Done (appended f s g (late run))
        told run r x = at_ticked (appended f s g (late run)) t (kept.0 ∙ q) said (at_announces h (Left (g ∷ rest)) G ⊥ f s g run.proto run.phase (open_voters t) (announced_late (state_in (found s g).list) (ticks_now h g (reverse s.records)) t own.0 x) nobody a)
          where
            own : TallyIs (state_in (found s g).list) (ticks_now h g (reverse s.records)) 1 t × Settled (found s g).led (found s g).list t
            own = (own_row s a t q).1 run r

            kept : ((found (appended f s g (late run)) g).led.tally ≡ (found s g).led.tally) × (state_in (found (appended f s g (late run)) g).list ≡ state_in (found s g).list)
            kept = row_kept f s g run.proto run.phase (open_voters t) a.order

            none : Settled (found s g).led (found s g).list t → late_voters t.voters ≡ []
            none (inl z) = z
            none (inr z) = absurd (let y : has_open t ≡ true = (and_parts (passes t.limit t.count) (has_open t) x).1 in let w : has_open t ≡ false = z.0 in cc)

            nobody : (u : TallyView) → (found s g).led.tally ≡ Some u → late_voters u.voters ≡ []
            nobody u e = let p : t ≡ u = cc in subst (λ (y : TallyView). late_voters y.voters ≡ []) p (none own.1)

            said : Said (appended f s g (late run)) t
            said other o z two e c fit =
                let same : run ≡ other = some_same run other (sym r ∙ ap (λ (st : GroupState). st.running) (sym kept.1) ∙ o) in
                last_put f s g (late run) a ∙ ap (λ y. Some (late y)) same

        quiet : (b : Bool) → ((run : Running) → (state_in (found s g).list).running ≡ Some run → Expired t → s.sessions.level ≡ 2 → (e : Entry) → closing_entry (ticked_row (found s g)).led (Some (tally_tick t)) (Some run) ≡ Some e → entry_fits (list_or_new (found s g).list) e ≡ true → ⊥) → Done s
        quiet b never = at_ticked s t q (λ run r x two e c fit. absurd (never run r x two e c fit)) a

        late_if : (run : Running) → (state_in (found s g).list).running ≡ Some run → expires t ≡ true → (b : Bool) → fits_at_end s g (late run) ≡ b → Done (append_if_fits f s g (late run) b)
        late_if run r x true fit = told run r x
        late_if run r x false fit = quiet true (λ other o z two e c d. unfit other o z e c d)
          where
            unfit : (other : Running) → (state_in (found s g).list).running ≡ Some other → Expired t → (e : Entry) → closing_entry (ticked_row (found s g)).led (Some (tally_tick t)) (Some other) ≡ Some e → entry_fits (list_or_new (found s g).list) e ≡ true → ⊥
            unfit other o z e c d =
                let same : run ≡ other = some_same run other (sym r ∙ o) in
                let k : entry_fits (list_or_new (found s g).list) (Late other.proto other.phase (late_voters (tally_tick t).voters)) ≡ true = announcement_fits (ticked_row (found s g)).led (found s g).list (tally_tick t) other e o c d in
                let j : entry_fits (list_or_new (found s g).list) (late run) ≡ true = subst (λ (y : Running × List ProviderId). entry_fits (list_or_new (found s g).list) (Late y.0.proto y.0.phase y.1) ≡ true) (λ i. (sym same i, z.late i)) k in
                cc

        running : (o : Option Running) → (state_in (found s g).list).running ≡ o → expires t ≡ true → Done (late_appended f s g t o)
        running None r x = quiet true (λ run o z two e c d. let y : None ≡ Some run = sym r ∙ o in cc)
        running (Some run) r x = late_if run r x (fits_at_end s g (late run)) refl

        announces : (b : Bool) → (s.sessions.level == 2 && expires t) ≡ b → Done (announced f s g t b)
        announces true e = running (state_in (found s g).list).running refl (and_parts (s.sessions.level == 2) (expires t) e).1
        announces false e = quiet true (λ run o z two d c fit. let y : (s.sessions.level == 2 && expires t) ≡ true = (λ i. eq-eqb s.sessions.level 2 two i && z.expires_now i) in cc)

    at_group_ticks : (s : Core) → Before s → After (tick_group f s g)
    unfolding tick_group led_of row_of
    at_group_ticks s a =
        let t : Core = tally_ticks f s g (found s g).led.tally in
        (keeps_quiet h (Left rest) G ⊥).calm t (fold (sent_again g) t (others t)) (calm_fold (sent_again g) (λ c n. again_calm g c n) (others t) t) (at_tally_ticks s (found s g).led.tally refl a)

  at_all_ticks : (f : Answering) (G : List ℕ → Type 0) (gs : List (List ℕ)) → Apart gs → ((g : List ℕ) → Has g gs → G g) → (s : Core) → At h (Left gs) G ⊥ s → At h (Left []) G ⊥ (fold (tick_group f) s gs)
  at_all_ticks f G [] apart led s a = a
  at_all_ticks f G (g ∷ gs) apart led s a =
      at_all_ticks f G gs apart.1 (λ k i. led k (inr i)) (tick_group f s g) (at_group_ticks f G g gs apart.0 (led g (inl refl)) s a)

  pub at_led_part : (f : Answering) (s : Core) → At h Unticked NoGroup ⊥ s → At h Every NoGroup ⊥ (tick_led f s)
  unfolding tick_led led_groups
  at_led_part f s a = by (frozen s)
    where
      none : (G : List ℕ → Type 0) (c : Core) → At h (Left []) G ⊥ c → At h Every NoGroup ⊥ c
      none G c k = at_for h (Left []) Every G NoGroup ⊥ ⊥ c (λ g less t. inl t) (λ g z. absurd z) (λ z. z) k

      ticked : At h (Left []) (Leads h s) ⊥ (fold (tick_group f) s (led_groups s))
      ticked =
          at_all_ticks f (Leads h s) (led_groups s) (names_apart (leads_in s) s.groups a.order) (λ g i. led_leads h Unticked ⊥ s a g i) s (at_down (led_groups s) (Leads h s) s (at_leads h Unticked ⊥ s a))

      by : (b : Bool) → At h Every NoGroup ⊥ (elim b as (λ _. Core) [ true ↦ s | false ↦ fold (tick_group f) s (led_groups s) ])
      by true = none NoGroup s (at_down [] NoGroup s a)
      by false = none (Leads h s) (fold (tick_group f) s (led_groups s)) ticked
