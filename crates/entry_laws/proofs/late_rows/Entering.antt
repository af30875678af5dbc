-- Entering a view, and what a rule of views leaves.
use Rattle.std.proofs.Common.{◌≡◌, ◌≤◌, ◌<◌, ◌⊎◌, ℕ, ◌+◌, List, [], ◌∷◌, ◌++◌, length, Option, Some, None, Bool, true, false, refl, sym, ap, ◌∙◌, subst, inl, inr, ⊎_elim, arith, append_assoc}
use Rattle.std.specs.Prelude.{◌==◌, ◌&&◌, ◌||◌, map, filter, fold, find, reverse, is_some, if◌then◌else◌}
use Rattle.std.specs.List.{list_any}
use Rattle.std.specs.Option.{option_map}
use Rattle.std.specs.Str.{bytes_eq}
use Rattle.std.proofs.lemmas.List.{reverse-append, reverse-reverse}
use Rattle.std.proofs.lemmas.Bool.{eq-eqb}
use Rattle.rsct_packet.specs.declared.ids.ViewId.{ViewId}
use Rattle.rsct_packet.specs.declared.ids.Member.{Member}
use Rattle.rsct_packet.specs.Providers.{among}
use Rattle.rsct_packet.specs.Search.{Has}
use Rattle.rsct_packet.proofs.HasLaws.{has_append, append_has_left, append_has_right}
use Rattle.proposal_core.specs.declared.proposal.Cause.TheVariants.{Died}
use Rattle.proposal_core.specs.declared.entry.Entry.{Entry}
use Rattle.proposal_core.specs.Fold.{empty_state}
use Rattle.proposal_core.specs.Lists.{list_or_new, with_entry}
use Rattle.batch_rules.specs.Waiting.{add_failure}
use Rattle.view_state.specs.declared.install.Install.{Install}
use Rattle.view_state.specs.declared.install.Base.{Base}
use Rattle.view_state.specs.Bases.{bases_of, base_named}
use Rattle.view_state.specs.declared.views.ViewWork.{ViewWork}
use Rattle.view_state.specs.Views.{views_entered}
use Rattle.node_state.specs.declared.group.GroupRow.{GroupRow}
use Rattle.node_state.specs.declared.happened.Happened.{Happened}
use Rattle.node_state.specs.declared.happened.Happened.TheVariants as happened
use Rattle.node_state.specs.declared.state.Core.{Core}
use Rattle.node_state.specs.Settings.{view_level}
use Rattle.node_state.specs.State.{AllAfter, InNameOrder, row_found, row_of, list_of, state_of, len_of, held_rows, recorded, recorded_all, with_row, has_name}
use Rattle.node_state.specs.HandOn.{Answering}
use Rattle.node_state.specs.Leading.{put, put_and_hand, with_waiting, tally_opened}
use Rattle.node_state.specs.Applying.{Lacking, lacking, fill_lists, level_set, base_row, base_record, view_entered, sides_dissolved, entering_noted, taken_sent, owed_sent, wait_failed, phase_reopened, lead, lead_groups, entered, entered_if, apply_install, views_taken}
use Rattle.run_safety.specs.Past.{History, records_of, Within}
use Rattle.run_safety.specs.Stays.{Stay, stays}
use Rattle.run_safety.specs.Stays as stay
use Rattle.run_safety.specs.SafeHeard.{enters}
use Rattle.node_state.proofs.NameOrder.{text_same, text_other, row_here, row_there, cases_text, text_self}
use Rattle.step_refinement.proofs.Appending.{handed_rows}
use Rattle.step_refinement.proofs.BaseOrder.{bases_ordered, row_of_base, base_noted, none_named}
use Rattle.step_refinement.proofs.Fills.{collected}
use Rattle.step_refinement.proofs.Founding.{Sent, sends_out, sends_are, lacking_same}
use Rattle.step_refinement.proofs.Turns.{has_turned}
use Rattle.entry_laws.proofs.closing_rows.Quiet.{at_fold, at_rest_entered}
use Rattle.entry_laws.specs.late_rows.Late.{PutBefore, RecordLate}
use Rattle.entry_laws.specs.late_rows.Announced.{members_now, RecordTold}
use Rattle.entry_laws.proofs.late_rows.At.{Turn, tick_here, Mine, Folds, found_in, AtOf, At, at_for, keeps_quiet}
use Rattle.entry_laws.proofs.late_rows.Puts.{put_record}
use Rattle.entry_laws.proofs.late_rows.Laters.{PutThen, later_put}
use Rattle.entry_laws.proofs.late_rows.Leading.{MayOpen, at_put_and_handed_for, at_waits, at_opened_anew, at_closes}
use Rattle.entry_laws.proofs.late_rows.Ending.{NoGroup, at_led_groups}
use Rattle.entry_laws.proofs.late_rows.ViewWorks.{Work}

-- no tally is claimed
abbrev pub NoTally : List ℕ → ℕ → Type 0
NoTally g less = ⊥

-- what an install brings was put before, and is not more than what is lacking of it
pub record Brought (before : History) (s : Core) (i : Install) : Type 0 where
  pub bound : List ℕ → ℕ
  pub put : (g : List ℕ) (j : ℕ) → j < bound g → PutBefore (reverse s.records ++ records_of before) s.views.view g j
  pub fits : (xs : List Lacking) → lacking s i ≡ Some xs → (g : List ℕ) → len_of s g + length (collected g xs) ≤ bound g

abbrev IfBrought : History → Core → Option Install → Type 0
IfBrought before s o = (i : Install) → o ≡ Some i → Brought before s i

-- ---- bases in the records

with_base_if : Option Base → Stay → Stay
with_base_if None s = s
with_base_if (Some b) s = record s { base = b.state }

bases_stay : (n m : ℕ) (v : ViewId) (g : List ℕ) → m ≡ n → (bs : List Base) → InNameOrder (map base_row bs) → (s : Stay) (older : List Stay) (rest : List Happened) → stays n g rest ≡ s ∷ older → stays n g (reverse (map (base_noted m v) bs) ++ rest) ≡ with_base_if (base_named bs g) s ∷ older
unfolding base_named base_row with_base_if
bases_stay n m v g me [] o s older rest q = q
bases_stay n m v g me (b ∷ bs) o s older rest q =
    ap (λ l. stays n g (l ++ rest)) (reverse-append (base_noted m v b ∷ []) (map (base_noted m v) bs)) ∙ ap (stays n g) (append_assoc (reverse (map (base_noted m v) bs)) (base_noted m v b ∷ []) rest) ∙ by (bytes_eq b.name g) refl (λ z q. bases_stay n m v g me bs o.1 z older (base_noted m v b ∷ rest) q)
  where
    now : List Happened
    now = base_noted m v b ∷ rest

    is_me : (m == n && bytes_eq b.name g) ≡ bytes_eq b.name g
    is_me = ap (λ t. t && bytes_eq b.name g) (eq-eqb m n me)

    by : (t : Bool) → bytes_eq b.name g ≡ t → ((z : Stay) → stays n g now ≡ z ∷ older → stays n g (reverse (map (base_noted m v) bs) ++ now) ≡ with_base_if (base_named bs g) z ∷ older) → stays n g (reverse (map (base_noted m v) bs) ++ now) ≡ with_base_if (if t then Some b else base_named bs g) s ∷ older
    by true e rest_is =
        let none : base_named bs g ≡ None = none_named g bs (subst (λ z. AllAfter z (map base_row bs)) (text_same b.name g e) o.0) in
        rest_is (record s { base = b.state }) (ap (λ t. if t then stay.with_base b.state (stays n g rest) else stays n g rest) (is_me ∙ e) ∙ ap (stay.with_base b.state) q) ∙ ap (λ z. with_base_if z (record s { base = b.state }) ∷ older) none
    by false e rest_is =
        rest_is s (ap (λ t. if t then stay.with_base b.state (stays n g rest) else stays n g rest) (is_me ∙ e) ∙ q)

-- ---- so much a list has after a put

len_put : (f : Answering) (s : Core) (g : List ℕ) (e : Entry) (k : List ℕ) → InNameOrder s.groups → len_of (put_and_hand f s None g e) k ≡ (if bytes_eq g k then len_of s k + 1 else len_of s k)
unfolding put_and_hand len_of list_of row_of put recorded with_row with_entry
len_put f s g e k o =
    ap (λ rows. (list_or_new (row_found k (find (has_name k) rows)).list).len) (handed_rows f (put s g e) None g (len_of s g) (state_of s g) (state_of (put s g e) g) e).0 ∙ by (cases_text g k)
  where
    change : GroupRow → GroupRow
    change row = record row { list = Some (with_entry (list_or_new row.list) s.views.view e) }

    by : (g ≡ k) ⊎ (g ≡ k → ⊥) → len_of (with_row s g change) k ≡ (if bytes_eq g k then len_of s k + 1 else len_of s k)
    by (inl q) =
        subst (λ z. len_of (with_row s g change) z ≡ (if bytes_eq g z then len_of s z + 1 else len_of s z)) q (ap (λ (row : GroupRow). (list_or_new row.list).len) (row_here g change (λ y. refl) s o) ∙ ap (λ b. if b then len_of s g + 1 else len_of s g) (sym (text_self g)))
    by (inr ne) = ap (λ (row : GroupRow). (list_or_new row.list).len) (row_there g change (λ y. refl) s k ne) ∙ ap (λ b. if b then len_of s k + 1 else len_of s k) (sym (text_other g k ne))

module _ (h : Turn) where
  module _ (E : Type 0) where
    abbrev Loose : Core → Type 0
    Loose s = At h NoTally NoGroup E s

    -- (1) what is filled in was put before
    module _ (f : Answering) (v : ViewId) (known : List Happened) (bound : List ℕ → ℕ) (old : (g : List ℕ) (j : ℕ) → j < bound g → PutBefore known v g j) where
      record Filling (xs : List Lacking) (s : Core) : Type 0 where
        at : Loose s
        view : s.views.view ≡ v
        knows : (r : Happened) → Has r known → Has r (reverse s.records ++ records_of h.before)
        fits : (g : List ℕ) → len_of s g + length (collected g xs) ≤ bound g

      one_filled : (g : List ℕ) (e : Entry) (es : List Entry) (xs : List Lacking) (s : Core) → Filling (record { name = g; entries = e ∷ es } ∷ xs) s → Filling (record { name = g; entries = es } ∷ xs) (put_and_hand f s None g e)
      one_filled g e es xs s a =
          record {
            at = at_put_and_handed_for h NoTally NoTally NoGroup E f s None g e late told (λ k less u ne. u) (λ less u. absurd u) a.at;
            view = ap (λ z. z.view) l.views ∙ a.view;
            knows = λ r i. more r (a.knows r i);
            fits = λ k. by k (bytes_eq g k) refl (a.fits k);
          }
        where
          t : Core
          t = put_and_hand f s None g e

          l : PutThen s (happened.Put s.views.me s.views.view g (len_of s g) e) t
          l = later_put f s None g e

          longer : (r : Happened) → Has r s.records → Has r t.records
          longer r k =
              subst (Has r) (sym l.is) (append_has_left r (s.records ++ happened.Put s.views.me s.views.view g (len_of s g) e ∷ []) l.more (append_has_left r s.records (happened.Put s.views.me s.views.view g (len_of s g) e ∷ []) k))

          more : (r : Happened) → Has r (reverse s.records ++ records_of h.before) → Has r (reverse t.records ++ records_of h.before)
          more r i =
              let j : Has r (s.records ++ records_of h.before) = subst (λ z. Has r (z ++ records_of h.before)) (reverse-reverse s.records) (has_turned r (reverse s.records) (records_of h.before) i) in
              has_turned r t.records (records_of h.before) (⊎_elim (λ (k : Has r s.records). append_has_left r t.records (records_of h.before) (longer r k)) (λ (k : Has r (records_of h.before)). append_has_right r t.records (records_of h.before) k) (has_append r s.records (records_of h.before) j))

          short : len_of s g < bound g
          short =
              let k : len_of s g + length ((e ∷ es) ++ collected g xs) ≤ bound g = subst (λ b. len_of s g + length (if b then (e ∷ es) ++ collected g xs else collected g xs) ≤ bound g) (text_self g) (a.fits g) in omega arith

          earlier_put : PutBefore (reverse s.records ++ records_of h.before) s.views.view g (len_of s g)
          earlier_put = let p = old g (len_of s g) short in (p.0, p.1, a.knows _ (subst (λ u. Has (happened.Put p.0 u g (len_of s g) p.1) known) (sym a.view) p.2))

          late : RecordLate h.event (reverse s.records) h.before (put_record h s g e)
          late first = absurd (first earlier_put)

          told : RecordTold h.config (reverse s.records) h.before (put_record h s g e)
          told first two = absurd (first earlier_put)

          by : (k : List ℕ) (b : Bool) → bytes_eq g k ≡ b → len_of s k + length (if b then (e ∷ es) ++ collected k xs else collected k xs) ≤ bound k → len_of t k + length (if b then es ++ collected k xs else collected k xs) ≤ bound k
          by k true q c = let z : len_of t k ≡ len_of s k + 1 = len_put f s g e k a.at.order ∙ ap (λ b. if b then len_of s k + 1 else len_of s k) q in omega arith
          by k false q c = let z : len_of t k ≡ len_of s k = len_put f s g e k a.at.order ∙ ap (λ b. if b then len_of s k + 1 else len_of s k) q in omega arith

      entries_filled : (g : List ℕ) (es : List Entry) (xs : List Lacking) (s : Core) → Filling (record { name = g; entries = es } ∷ xs) s → Filling xs (fold (λ u e. put_and_hand f u None g e) s es)
      entries_filled g [] xs s a = record { at = a.at; view = a.view; knows = a.knows; fits = λ k. by k (bytes_eq g k) (a.fits k) }
        where
          by : (k : List ℕ) (b : Bool) → len_of s k + length (if b then [] ++ collected k xs else collected k xs) ≤ bound k → len_of s k + length (collected k xs) ≤ bound k
          by k true c = c
          by k false c = c
      entries_filled g (e ∷ es) xs s a = entries_filled g es xs (put_and_hand f s None g e) (one_filled g e es xs s a)

      all_filled : (xs : List Lacking) (s : Core) → Filling xs s → Filling [] (fill_lists f s xs)
      unfolding fill_lists
      all_filled [] s a = a
      all_filled (y ∷ xs) s a =
          all_filled xs (fold (λ u e. put_and_hand f u None y.name e) s y.entries) (entries_filled y.name y.entries xs s (record { at = a.at; view = a.view; knows = a.knows; fits = a.fits }))

    -- (2) in a view that is entered nothing is counted yet
    bare_folds : (g : List ℕ) (me : ℕ) (v : ViewId) (ms : List Member) (now : List Happened) → me ≡ h.node → stays h.node g (happened.In me v ms ∷ now ++ records_of h.before) ≡ record { view = v; base = empty_state; entries = [] } ∷ stays h.node g (now ++ records_of h.before)
    bare_folds g me v ms now q =
        ap (λ b. if b then record { view = v; base = empty_state; entries = [] } ∷ stays h.node g (now ++ records_of h.before) else stays h.node g (now ++ records_of h.before)) (eq-eqb me h.node q)

    base_folds : (g : List ℕ) (me : ℕ) (v : ViewId) (ms : List Member) (bs : List Base) (now : List Happened) → me ≡ h.node → InNameOrder (map base_row bs) → Folds h g v (reverse (map (base_noted me v) bs) ++ happened.In me v ms ∷ now) (found_in (map base_row bs) g).list
    unfolding with_base_if base_row
    base_folds g me v ms bs now q o =
        subst (λ (z : Option GroupRow). Folds h g v (reverse (map (base_noted me v) bs) ++ happened.In me v ms ∷ now) (row_found g z).list) (sym (row_of_base g bs)) (by (base_named bs g) refl)
      where
        first : Stay
        first = record { view = v; base = empty_state; entries = [] }

        older : List Stay
        older = stays h.node g (now ++ records_of h.before)

        is : stays h.node g ((reverse (map (base_noted me v) bs) ++ happened.In me v ms ∷ now) ++ records_of h.before) ≡ with_base_if (base_named bs g) first ∷ older
        is =
            ap (stays h.node g) (append_assoc (reverse (map (base_noted me v) bs)) (happened.In me v ms ∷ now) (records_of h.before)) ∙ bases_stay h.node me v g q bs o first older (happened.In me v ms ∷ now ++ records_of h.before) (bare_folds g me v ms now q)

        by : (b : Option Base) → base_named bs g ≡ b → Folds h g v (reverse (map (base_noted me v) bs) ++ happened.In me v ms ∷ now) (row_found g (option_map base_row b)).list
        by None e = record { stay = first; older = older; is = is ∙ ap (λ z. with_base_if z first ∷ older) e; at_view = refl; state = refl; len = refl }
        by (Some b) e =
            record { stay = record first { base = b.state }; older = older; is = is ∙ ap (λ z. with_base_if z first ∷ older) e; at_view = refl; state = refl; len = refl }

    bases_on : (P : List Happened → Type 0) (me : ℕ) (v : ViewId) → ((b : Base) (l : List Happened) → P l → P (base_noted me v b ∷ l)) → (bs : List Base) (rest : List Happened) → P rest → P (reverse (map (base_noted me v) bs) ++ rest)
    bases_on P me v step [] rest p = p
    bases_on P me v step (b ∷ bs) rest p =
        subst P (sym (ap (λ l. l ++ rest) (reverse-append (base_noted me v b ∷ []) (map (base_noted me v) bs)) ∙ append_assoc (reverse (map (base_noted me v) bs)) (base_noted me v b ∷ []) rest)) (bases_on P me v step bs (base_noted me v b ∷ rest) (step b rest p))

    module _ (T : List ℕ → ℕ → Type 0) where
      abbrev Full : Core → Type 0
      Full s = At h T NoGroup (Unit {0}) s

      at_view_entered : (s : Core) (i : Install) → Loose s → Full (view_entered s i (bases_of i))
      unfolding view_entered base_record views_entered base_row recorded_all level_set
      at_view_entered s i a =
          subst (AtOf h T NoGroup (Unit {0}) s.config (view_level s.config i.members) me v rows) (sym turned) (record {
            me_is = a.me_is;
            config_is = a.config_is;
            level_is = ap (λ z. view_level z i.members) a.config_is ∙ ap (view_level h.config) (sym members);
            told = bases_on (λ l. Within (RecordTold h.config) l h.before) me v (λ b l k. (tt, k)) bs (first ∷ now) (tt, a.told);
            puts = bases_on (λ l. Within (RecordLate h.event) l h.before) me v (λ b l k. (tt, k)) bs (first ∷ now) (tt, a.puts);
            mine = bases_on (λ l. (r : Happened) → Has r l → Mine h.node r) me v (λ b l k r j. base_mine b l k r j) bs (first ∷ now) first_mine;
            order = bases_ordered i;
            folds = λ g. base_folds g me v i.members bs now a.me_is (bases_ordered i);
            tallies = λ g less t y e. absurd (let z = tally g in cc);
            led = λ g z. absurd z;
            entered = λ u. bases_on (λ l. list_any (enters h.node) l ≡ true) me v (λ b l k. k) bs (first ∷ now) (ap (λ b. b || list_any (enters h.node) now) (eq-eqb me h.node a.me_is));
          })
        where
          me : ℕ
          me = s.views.me

          v : ViewId
          v = i.view

          bs : List Base
          bs = bases_of i

          rows : List GroupRow
          rows = map base_row bs

          now : List Happened
          now = reverse s.records

          first : Happened
          first = happened.In me v i.members

          turned : reverse (s.records ++ first ∷ map (base_noted me v) bs) ≡ reverse (map (base_noted me v) bs) ++ first ∷ now
          turned =
              reverse-append s.records (first ∷ map (base_noted me v) bs) ∙ ap (λ l. l ++ now) (reverse-append (first ∷ []) (map (base_noted me v) bs)) ∙ append_assoc (reverse (map (base_noted me v) bs)) (first ∷ []) now

          base_mine : (b : Base) (l : List Happened) → ((r : Happened) → Has r l → Mine h.node r) → (r : Happened) → Has r (base_noted me v b ∷ l) → Mine h.node r
          base_mine b l k r (inl e) = subst (Mine h.node) (sym e) a.me_is
          base_mine b l k r (inr j) = k r j

          first_mine : (r : Happened) → Has r (first ∷ now) → Mine h.node r
          first_mine r (inl e) = subst (Mine h.node) (sym e) a.me_is
          first_mine r (inr j) = a.mine r j

          members : members_now h.node ((reverse (map (base_noted me v) bs) ++ first ∷ now) ++ records_of h.before) ≡ i.members
          members =
              bases_on (λ l. members_now h.node (l ++ records_of h.before) ≡ i.members) me v (λ b l k. k) bs (first ∷ now) (ap (λ b. if b then i.members else members_now h.node (now ++ records_of h.before)) (eq-eqb me h.node a.me_is))

          tally : (g : List ℕ) → (found_in rows g).led.tally ≡ None
          tally g = ap (λ o. (row_found g o).led.tally) (row_of_base g bs) ∙ by (base_named bs g)
            where
              by : (o : Option Base) → (row_found g (option_map base_row o)).led.tally ≡ None
              by None = refl
              by (Some b) = refl

      -- (7)
      module _ (some : (g : List ℕ) → (less : ℕ) × T g less) (may : (g : List ℕ) → MayOpen h T (Unit {0}) g) where
        at_group_led : (f : Answering) (G : List ℕ → Type 0) (s : Core) (g : List ℕ) → G g → At h T G (Unit {0}) s → At h T G (Unit {0}) (lead f s g)
        unfolding lead wait_failed phase_reopened
        at_group_led f G s g led a = by (is_some (state_of s g).running)
          where
            t : Core
            t = wait_failed s g (filter (among (state_of s g).members) (state_of s g).failed)

            waits : At h T G (Unit {0}) t
            waits =
                at_fold (At h T G (Unit {0})) (λ t p. with_waiting t g (add_failure p Died)) (filter (among (state_of s g).members) (state_of s g).failed) (λ t p i k. at_waits h T G (Unit {0}) t g (add_failure p Died) k) s a

            by : (b : Bool) → At h T G (Unit {0}) (phase_reopened f t g b)
            by false = waits
            by true = at_closes h T G (Unit {0}) f (tally_opened t g) g (some g, may g, led) (at_opened_anew h T G (Unit {0}) t g (may g) led waits)

        at_groups_led : (f : Answering) (s : Core) → Full s → Full (lead_groups f s)
        unfolding lead_groups
        at_groups_led f s a = at_led_groups h T (Unit {0}) (lead f) (at_group_led f) s a

        at_entered : (f : Answering) (s : Core) (i : Install) (xs : List Lacking) → Brought h.before s i → lacking s i ≡ Some xs → Loose s → Full (entered f s i xs)
        unfolding entered
        at_entered f s i xs brought lacks a =
            let t : Core = fill_lists f s xs in
            let k = all_filled f s.views.view (reverse s.records ++ records_of h.before) brought.bound brought.put xs s (record { at = a; view = refl; knows = λ r i. i; fits = brought.fits xs lacks }) in
            let bs : List Base = bases_of i in
            let v : Core = view_entered t i bs in
            let u : Core = owed_sent (taken_sent (entering_noted (sides_dissolved v (held_rows t) t.views.view bs) bs)) in
            at_groups_led f u (at_rest_entered (keeps_quiet h T NoGroup (Unit {0})) v (held_rows t) t.views.view bs (at_view_entered t i k.at))

  -- ---- a rule of views

  -- what is claimed of a group may be claimed of a view that is entered in this event
  abbrev pub Fresh : (List ℕ → ℕ → Type 0) → Type 0
  Fresh T = (g : List ℕ) → ((less : ℕ) × T g less) × ((less : ℕ) → T g less → less ≤ tick_here h)

  module _ (T : List ℕ → ℕ → Type 0) (fresh : Fresh T) where
    at_applied : (f : Answering) (s : Core) (o : Option Install) → IfBrought h.before s o → At h T NoGroup ⊥ s → At h T NoGroup ⊥ (apply_install f s o)
    unfolding apply_install entered_if
    at_applied f s None ok a = a
    at_applied f s (Some i) ok a = by (lacking s i) refl
      where
        by : (o : Option (List Lacking)) → lacking s i ≡ o → At h T NoGroup ⊥ (entered_if f s i o)
        by None q = a
        by (Some xs) q =
            at_for h T T NoGroup NoGroup (Unit {0}) ⊥ (entered f s i xs) (λ g less t. t) (λ g z. absurd z) (λ z. tt) (at_entered ⊥ T (λ g. (fresh g).0) (λ g less t. inr (tt, (fresh g).1 less t)) f s i xs (ok i refl) q (at_for h T NoTally NoGroup NoGroup ⊥ ⊥ s (λ g less z. absurd z) (λ g z. absurd z) (λ z. z) a))

    pub at_views_taken : (f : Answering) (s : Core) (w : ViewWork) → Work (Brought h.before s) s.views w → At h T NoGroup ⊥ s → At h T NoGroup ⊥ (views_taken f s w)
    unfolding views_taken lacking len_of list_of row_of
    at_views_taken f s w k a =
        subst (λ d. At h T NoGroup ⊥ (apply_install f d w.install)) (sym sent.is) (at_applied f (record c { sends = sent.ps }) w.install brought moved)
      where
        c : Core
        c = record s { views = w.views }

        sent : Sent c w.sends (sends_out c w.sends)
        sent = sends_are w.sends c

        moved : AtOf h T NoGroup ⊥ s.config s.sessions.level w.views.me w.views.view s.groups (reverse s.records)
        moved = subst (λ (z : ℕ × ViewId). AtOf h T NoGroup ⊥ s.config s.sessions.level z.0 z.1 s.groups (reverse s.records)) (λ i. (sym k.me i, sym k.view i)) a

        brought : IfBrought h.before (record c { sends = sent.ps }) w.install
        brought i e =
            let b = k.install i e in
            record {
              bound = b.bound;
              put = λ g j lt. subst (λ v. PutBefore (reverse s.records ++ records_of h.before) v g j) (sym k.view) (b.put g j lt);
              fits = λ xs q g. b.fits xs (lacking_same s (record c { sends = sent.ps }) i (sym k.view) refl ∙ q) g;
            }
