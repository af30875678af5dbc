-- A node puts an entry.
use Rattle.std.proofs.Common.{◌≡◌, ℕ, ◌+◌, List, [], ◌∷◌, ◌++◌, length, Option, Some, Bool, true, false, refl, sym, ap, ◌∙◌, subst, inl, inr, arith, length-append}
use Rattle.std.specs.Prelude.{◌==◌, ◌&&◌, reverse, if◌then◌else◌}
use Rattle.std.specs.Str.{bytes_eq}
use Rattle.std.proofs.lemmas.List.{reverse-append}
use Rattle.std.proofs.lemmas.Bool.{eq-eqb}
use Rattle.rsct_packet.specs.declared.ids.ViewId.{ViewId}
use Rattle.rsct_packet.specs.Search.{Has}
use Rattle.proposal_core.specs.declared.entry.Entry.{Entry}
use Rattle.proposal_core.specs.GroupView.{GroupView}
use Rattle.proposal_core.specs.Fold.{after}
use Rattle.proposal_core.specs.Lists.{list_or_new, with_entry}
use Rattle.node_state.specs.declared.group.GroupRow.{GroupRow}
use Rattle.node_state.specs.declared.happened.Happened.{Happened}
use Rattle.node_state.specs.declared.happened.Happened.TheVariants as happened
use Rattle.node_state.specs.declared.state.Core.{Core}
use Rattle.node_state.specs.State.{row_of, with_row, len_of, recorded}
use Rattle.node_state.specs.Leading.{put}
use Rattle.run_safety.specs.Past.{records_of, fold_from}
use Rattle.run_safety.specs.Stays.{Stay, stays}
use Rattle.run_safety.specs.Stays as stay
use Rattle.node_state.proofs.NameOrder.{text_self, text_other, rows_ordered}
use Rattle.entry_laws.proofs.closing_rows.At.{row_with}
use Rattle.entry_laws.specs.late_rows.Announced.{RecordTold}
use Rattle.entry_laws.specs.late_rows.Late.{opens, opens_phase, RecordLate}
use Rattle.entry_laws.proofs.late_rows.At.{Turn, ticks_now, RowIs, Folds, Mine, found, leads_row, AtOf, At, ticks_silent}
use Rattle.step_refinement.proofs.Puts.{fold_pushed}

and_false : (b : Bool) → (b && false) ≡ false
and_false true = refl
and_false false = refl

-- it opens no phase of another group
pub opens_other : (n m : ℕ) (v : ViewId) (g k : List ℕ) (i : ℕ) (e : Entry) → (g ≡ k → ⊥) → opens n k (happened.Put m v g i e) ≡ false
opens_other n m v g k i e ne = ap (λ b. m == n && (b && opens_phase e)) (text_other g k ne) ∙ and_false (m == n)

pub opens_none : (n m : ℕ) (v : ViewId) (g k : List ℕ) (i : ℕ) (e : Entry) → opens_phase e ≡ false → opens n k (happened.Put m v g i e) ≡ false
opens_none n m v g k i e q = ap (λ b. m == n && (bytes_eq g k && b)) q ∙ ap (λ b. m == n && b) (and_false (bytes_eq g k)) ∙ and_false (m == n)

module _ (x : Turn) where
  folds_other : (g k : List ℕ) (view : ViewId) (now : List Happened) (m i : ℕ) (e : Entry) (l : Option GroupView) → (g ≡ k → ⊥) → Folds x k view now l → Folds x k view (happened.Put m view g i e ∷ now) l
  folds_other g k view now m i e l ne f =
      let old : List Stay = stays x.node k (now ++ records_of x.before) in
      let b : (m == x.node && bytes_eq g k) ≡ false = ap (λ b. m == x.node && b) (text_other g k ne) ∙ and_false (m == x.node) in
      record { stay = f.stay; older = f.older; is = ap (λ b. if b then stay.with_entry e old else old) b ∙ f.is; at_view = f.at_view; state = f.state; len = f.len }

  folds_put : (g : List ℕ) (view : ViewId) (now : List Happened) (m i : ℕ) (e : Entry) (l : Option GroupView) → m ≡ x.node → Folds x g view now l → Folds x g view (happened.Put m view g i e ∷ now) (Some (with_entry (list_or_new l) view e))
  unfolding with_entry
  folds_put g view now m i e l me f =
      let old : List Stay = stays x.node g (now ++ records_of x.before) in
      let b : (m == x.node && bytes_eq g g) ≡ true = ap (λ b. b && bytes_eq g g) (eq-eqb m x.node me) ∙ text_self g in
      record {
        stay = record (f.stay) { entries = f.stay.entries ++ e ∷ [] };
        older = f.older;
        is = ap (λ b. if b then stay.with_entry e old else old) b ∙ ap (stay.with_entry e) f.is;
        at_view = f.at_view;
        state = state;
        len = len;
      }
    where
      len : (list_or_new l).len + 1 ≡ length (f.stay.entries ++ e ∷ [])
      len = let a = f.len in let b : length (f.stay.entries ++ e ∷ []) ≡ length f.stay.entries + 1 = length-append f.stay.entries (e ∷ []) in omega arith

      from_first : length f.stay.entries ≡ 0 + length f.stay.entries
      from_first = omega arith

      state : after (list_or_new l).state view (list_or_new l).len e ≡ fold_from f.stay.view f.stay.base 0 (f.stay.entries ++ e ∷ [])
      state = (λ i. after (f.state i) (sym f.at_view i) (f.len i) e) ∙ ap (λ k. after (fold_from f.stay.view f.stay.base 0 f.stay.entries) f.stay.view k e) from_first ∙ sym (fold_pushed f.stay.view f.stay.entries f.stay.base 0 e)

  abbrev pub put_row : Core → GroupRow → Entry → GroupRow
  put_row s row e = record row { list = Some (with_entry (list_or_new row.list) s.views.view e) }

  abbrev pub put_record : Core → List ℕ → Entry → Happened
  put_record s g e = happened.Put s.views.me s.views.view g (len_of s g) e

  module _ (T U : List ℕ → ℕ → Type 0) (G : List ℕ → Type 0) (E : Type 0) where
    pub at_put_for : (s : Core) (g : List ℕ) (e : Entry) → RecordLate x.event (reverse s.records) x.before (put_record s g e) → RecordTold x.config (reverse s.records) x.before (put_record s g e) → ((k : List ℕ) (less : ℕ) → U k less → (g ≡ k → ⊥) → T k less) → ((less : ℕ) → U g less → RowIs (ticks_now x g (put_record s g e ∷ reverse s.records)) less (leads_row s (found s g)) (put_row s (found s g) e)) → At x T G E s → At x U G E (put s g e)
    unfolding put with_row recorded row_of
    at_put_for s g e late told others own a =
        subst (AtOf x U G E s.config s.sessions.level s.views.me s.views.view (with_row s g f).groups) (sym (reverse-append s.records (put_record s g e ∷ []))) (record {
          me_is = a.me_is;
          config_is = a.config_is;
          level_is = a.level_is;
          puts = (late, a.puts);
          told = (told, a.told);
          mine = λ y i. by y i;
          order = rows_ordered g f (λ y. refl) s a.order;
          folds = row_with (λ k row. Folds x k s.views.view now row.list) s g f (λ y. refl) a.order (folds_put g s.views.view (reverse s.records) s.views.me (len_of s g) e (found s g).list a.me_is (a.folds g)) (λ k ne. folds_other g k s.views.view (reverse s.records) s.views.me (len_of s g) e (found s k).list ne (a.folds k));
          tallies = λ k less. row_with (λ k row. U k less → RowIs (ticks_now x k now) less (leads_row s row) row) s g f (λ y. refl) a.order (own less) (λ k ne u. subst (λ t. RowIs t less (leads_row s (found s k)) (found s k)) (sym (ticks_silent x k (put_record s g e) (reverse s.records) refl (opens_other x.node s.views.me s.views.view g k (len_of s g) e ne))) (a.tallies k less (others k less u ne))) k;
          led = row_with (λ k row. G k → leads_row s row ≡ true) s g f (λ y. refl) a.order (a.led g) (λ k ne. a.led k);
          entered = a.entered;
        })
      where
        f : GroupRow → GroupRow
        f row = put_row s row e

        now : List Happened
        now = put_record s g e ∷ reverse s.records

        by : (y : Happened) → Has y now → Mine x.node y
        by y (inl q) = subst (Mine x.node) (sym q) a.me_is
        by y (inr i) = a.mine y i
