-- What a node does leaves the phases that its providers heard opened past or running: change by change, and over a step.
use Rattle.std.proofs.Common.{◌≡◌, ℕ, ◌+◌, List, [], ◌∷◌, ◌++◌, Option, Some, None, true, refl, sym, ◌∙◌, subst}
use Rattle.std.specs.Prelude.{reverse}
use Rattle.std.proofs.lemmas.Bool.{and_parts}
use Rattle.std.proofs.lemmas.List.{reverse-append}
use Rattle.rsct_packet.specs.declared.ids.ViewId.{ViewId}
use Rattle.rsct_packet.specs.declared.ids.ProviderId.{ProviderId}
use Rattle.rsct_packet.specs.Ids.{same_view}
use Rattle.rsct_packet.specs.Providers.{among}
use Rattle.rsct_packet.specs.Search.{Has}
use Rattle.proposal_core.specs.declared.entry.Entry.{Entry}
use Rattle.proposal_core.specs.declared.group_state.GroupState.{GroupState}
use Rattle.proposal_core.specs.Fold.{present, fits, after}
use Rattle.proposal_core.specs.Lists.{state_in}
use Rattle.client_callbacks.specs.declared.ballot.Filled.{Filled}
use Rattle.session_state.specs.declared.state.Provider.{Provider}
use Rattle.session_state.specs.declared.state.SessionState.{SessionState}
use Rattle.session_state.specs.State.{provider_of}
use Rattle.session_state.specs.Calls.{keeps}
use Rattle.view_state.specs.declared.install.Install.{Install}
use Rattle.view_state.specs.declared.install.Base.{Base}
use Rattle.view_state.specs.Bases.{bases_of, base_named}
use Rattle.node_state.specs.declared.config.Config.{Config}
use Rattle.node_state.specs.declared.group.GroupRow.{GroupRow}
use Rattle.node_state.specs.declared.happened.Happened.{Happened}
use Rattle.node_state.specs.declared.happened.Happened.TheVariants as happened
use Rattle.node_state.specs.declared.state.Core.{Core}
use Rattle.node_state.specs.State.{row_of, list_of, state_of, len_of, held_rows, recorded, with_sessions}
use Rattle.node_state.specs.Leading.{put}
use Rattle.node_state.specs.Applying.{view_entered, is_in_base}
use Rattle.node_state.specs.Step.{at_work}
use Rattle.run_safety.specs.ViewOrder.{Lt}
use Rattle.run_safety.specs.Past.{History, Within, records_of}
use Rattle.run_safety.specs.Bases.{Bases}
use Rattle.step_refinement.specs.Tied.{Scene}
use Rattle.step_refinement.specs.Runs.{Reached}
use Rattle.row_laws.specs.hearing.Changes.{Same, handing, entering, Does, Stays, Then, Records, Hands, Loses, Joins, Votes, Enters}
use Rattle.row_laws.proofs.hearing.Viewing.{Once, Stayed, Entered}
use Rattle.row_laws.proofs.hearing.Doing.{Hearing, hearing_does, present_row, rows_stay}
use Rattle.provider_laws.proofs.single_casts.Asking.{inner_silent}
use Rattle.provider_laws.proofs.single_casts.Adding.{between, no_entering, entering_view}
use Rattle.provider_laws.proofs.single_casts.Folds.{Folded, folded_does, put_state}
use Rattle.provider_laws.proofs.single_casts.Going.{Fitted, Below, below_does, put_fits, put_there, within_does}
use Rattle.provider_laws.proofs.single_casts.Phases.{placed_later}
use Rattle.provider_laws.proofs.single_casts.Heeding.{PlaceAnew, Heeding, heeding_silent, heeding_fewer, heeding_joined, heeding_votes, heeding_handed}
use Rattle.provider_laws.proofs.single_casts.Stepping.{bases, fitted, begins_folded, enters_folded, runs_same}
use Rattle.view_state.proofs.ViewOrder.{same_view_is}
use Rattle.provider_laws.proofs.attending.Entering.{entering_back}
use Rattle.provider_laws.proofs.attending.Hands.{hands_keep, handing_said}
use Rattle.provider_laws.proofs.single_casts.Entering.{enters_keep}

-- ---- within a view

module _ (n inc : ℕ) (before : History) (bs : List ℕ → Bases) (rs : List Happened) (fits_all : Fitted bs n rs) where
  abbrev pub Heeds : Core → Type 0
  Heeds c = Heeding n inc before c.views.view c.sessions (reverse c.records) (len_of c) (state_of c)

  pub record Minding (c : Core) : Type 0 where
    pub hearing : Hearing n inc before c
    pub folded : (g : List ℕ) → Folded (bs g) n before g c
    pub heeds : Heeds c

  heeds_hands : (s c : Core) (h : List ℕ) (e : Entry) (xs : List (Option Filled)) → Same (put s h e) c → ((len_of (put s h e) h ≡ len_of s h + 1) × ((g : List ℕ) → (h ≡ g → ⊥) → (len_of (put s h e) g ≡ len_of s g) × (state_of (put s h e) g ≡ state_of s g))) → fits (state_of s h) e ≡ true → state_of (put s h e) h ≡ after (state_of s h) s.views.view (len_of s h) e → Within PlaceAnew (reverse (handing c h (len_of s h) (state_of s h) (state_of (put s h e) h) e xs).records) before → Minding s → Heeds (handing c h (len_of s h) (state_of s h) (state_of (put s h e) h) e xs)
  heeds_hands s c h e xs same lens fit is anew k =
      hands_keep n s c h e xs same k.hearing.me (λ v t now ls states. Heeding n inc before v t now ls states) (heeding_handed n inc before s.views.view s.sessions (reverse s.records) (len_of s) (len_of (put s h e)) (state_of s) (state_of (put s h e)) k.hearing.at k.heeds h e xs lens.0 lens.1 fit is (subst (λ l. Within PlaceAnew l before) (handing_said n s c h e xs same k.hearing.me) anew))

  heeds_does : (s t : Core) → Does s t → t.views.view ≡ s.views.view → Below rs before t → Within PlaceAnew (reverse t.records) before → Minding s → Heeds t
  unfolding recorded with_sessions len_of state_of list_of row_of
  heeds_does _ _ (Stays s t same) q below anew k =
      subst (λ (z : ViewId × SessionState × List Happened × (List ℕ → ℕ) × (List ℕ → GroupState)). Heeding n inc before z.0 z.1 (reverse z.2) z.3 z.4) (λ i. (sym same.view i, sym same.sessions i, sym same.records i, (λ g. sym (same.lens g) i), (λ g. sym (same.states g) i))) k.heeds
  heeds_does _ _ (Then s t u a b) q below anew k =
      let m : t.views.view ≡ s.views.view = between s t u a b q in
      let low : Below rs before t = below_does rs before t u b below in
      let early : Within PlaceAnew (reverse t.records) before = within_does PlaceAnew before t u b anew in
      heeds_does t u b (q ∙ sym m) below anew (record { hearing = hearing_does n inc before s t a k.hearing; folded = λ g. folded_does (bs g) n before g s t a m k.hearing.me (k.folded g); heeds = heeds_does s t a m low early k })
  heeds_does _ _ (Records s r a) q below anew k =
      subst (λ l. Heeding n inc before s.views.view s.sessions l (len_of s) (state_of s)) (sym (reverse-append s.records (r ∷ []))) (heeding_silent n inc before s.views.view (len_of s) (state_of s) s.sessions (reverse s.records) r (inner_silent r a) k.heeds)
  heeds_does _ _ (Hands s c h e xs o same) q below anew k =
      let p = put_state s h e o in
      let t : Core = handing c h (len_of s h) (state_of s h) (state_of (put s h e) h) e xs in
      let fit : fits (state_of s h) e ≡ true = put_fits n inc before bs rs fits_all s h e (below_does rs before s t (Hands s c h e xs o same) below) (put_there n inc before bs rs fits_all s c h e xs same k.hearing.me below) (k.folded h) in
      heeds_hands s c h e xs same (p.0.1, λ g ne. ((p.1 g ne).1, (p.1 g ne).0)) fit p.0.0 anew k
  heeds_does _ _ (Loses s t f) q below anew k = heeding_fewer n inc before s.views.view (len_of s) (state_of s) s.sessions t (reverse s.records) f k.heeds
  heeds_does _ _ (Joins s t g instance attrs none) q below anew k =
      heeding_joined n inc before s.views.view (len_of s) (state_of s) s.sessions t g instance attrs (reverse s.records) k.hearing.at.me k.hearing.at.inc_is k.heeds
  heeds_does _ _ (Votes s x o b found opened unkept) q below anew k =
      subst (λ l. Heeding n inc before s.views.view (keeps s.sessions x o b) l (len_of s) (state_of s)) (sym (reverse-append s.records (happened.Cast x.provider o.proto o.phase b.vote b.value b.message ∷ []))) (heeding_votes n inc before s.views.view (len_of s) (state_of s) s.sessions x o b (reverse s.records) k.heeds)
  heeds_does _ _ (Enters s i lt none) q below anew k = absurd (no_entering s i lt q)

-- ---- a view is entered

-- who takes part lives in the base of its group, which comes from the view that the node leaves
lives_on : (n inc : ℕ) (before : History) (s : Core) (i : Install) → Hearing n inc before s → (p : ProviderId) (x : Provider) → provider_of (entering s i).sessions p ≡ Some x → x.takes_part ≡ true → (b : Base) × (base_named (bases_of i) x.group ≡ Some b) × (b.from ≡ s.views.view)
unfolding is_in_base
lives_on n inc before s i k p x q part = by (base_named (bases_of i) x.group) refl in_base
  where
    r : (row : GroupRow) × Has row (held_rows s) × (row.name ≡ x.group) × Has p (present (state_in row.list))
    r = present_row s x.group p (k.at.here p x (entering_back s i p x q) part)

    in_base : is_in_base s.views.view p (base_named (bases_of i) x.group) ≡ true
    in_base =
        subst (λ z. is_in_base s.views.view p (base_named (bases_of i) z) ≡ true) r.2 (rows_stay s.views.view (bases_of i) p x part (held_rows s) (view_entered s i (bases_of i)) r.0 r.1 (sym r.2) r.3 q)

    by : (o : Option Base) → base_named (bases_of i) x.group ≡ o → is_in_base s.views.view p o ≡ true → (b : Base) × (base_named (bases_of i) x.group ≡ Some b) × (b.from ≡ s.views.view)
    by None e z = absurd (cc)
    by (Some b) e z = (b, e, same_view_is b.from s.views.view (and_parts (same_view b.from s.views.view) (among (present b.state) p) z).0)

heeds_enters : (n inc : ℕ) (before : History) (s : Core) (i : Install) → Lt s.views.view i.view → ((p : ProviderId) (x : Provider) → provider_of (entering s i).sessions p ≡ Some x → x.takes_part ≡ true → (state_of (entering s i) x.group).running ≡ (state_of s x.group).running) → Heeding n inc before s.views.view s.sessions (reverse s.records) (len_of s) (state_of s) → Heeding n inc before (entering s i).views.view (entering s i).sessions (reverse (entering s i).records) (len_of (entering s i)) (state_of (entering s i))
heeds_enters n inc before s i lt same k =
    subst (λ v. Heeding n inc before v (entering s i).sessions (reverse (entering s i).records) (len_of (entering s i)) (state_of (entering s i))) (sym (entering_view s i)) (record {
      law = all.law;
      others = all.others;
      unheard = all.unheard;
      numbered = all.numbered;
      runs = λ p x q part run z. all.runs p x q part run (sym (same p x q part) ∙ z);
      opened = λ p x o q part h. let a = all.opened p x o q part h in (a.0, λ run z. a.1 run (sym (same p x q part) ∙ z));
    })
  where
    lens : List ℕ → ℕ
    lens = len_of (entering s i)

    left : Heeding n inc before i.view s.sessions (reverse s.records) lens (state_of s)
    left =
        record {
          law = k.law;
          others = k.others;
          unheard = k.unheard;
          numbered = k.numbered;
          runs = λ p x q part run z. placed_later run.proto s.views.view (len_of s x.group) i.view (lens x.group) lt (k.runs p x q part run z);
          opened = λ p x o q part h. let a = k.opened p x o q part h in (placed_later o.proto s.views.view (len_of s x.group) i.view (lens x.group) lt a.0, a.1);
        }

    all : Heeding n inc before i.view (entering s i).sessions (reverse (entering s i).records) lens (state_of s)
    all = enters_keep (λ t now. Heeding n inc before i.view t now lens (state_of s)) (heeding_silent n inc before i.view lens (state_of s)) (heeding_fewer n inc before i.view lens (state_of s)) s i left

-- ---- a whole step

module _ (c : Config) (w w' : Scene) (k : Reached c w) (k' : Reached c w') (n : ℕ) (s t : Core) (up : w.cores n ≡ Some s) (up' : w'.cores n ≡ Some t) (is : records_of w'.before ≡ reverse t.records ++ records_of w.before) (same_inc : t.views.inc ≡ s.views.inc) where
  abbrev those : List ℕ → Bases
  those g = bases c w w' k k' n s t up up' is same_inc g

  all_fit : Fitted those n (records_of w'.before)
  all_fit = fitted c w w' k k' n s t up up' is same_inc

  pub step_heeds : (j : ℕ) → Once (at_work s) t → Hearing n j w.before (at_work s) → Within PlaceAnew (reverse t.records) w.before → Heeding n j w.before s.views.view s.sessions [] (len_of s) (state_of s) → Heeding n j w.before t.views.view t.sessions (reverse t.records) (len_of t) (state_of t)
  unfolding len_of state_of list_of row_of
  step_heeds j (Stayed d e) hear anew old =
      heeds_does n j w.before those (records_of w'.before) all_fit (at_work s) t d e (record { later = []; is = is }) anew (record { hearing = hear; folded = begins_folded c w w' k k' n s t up up' is same_inc (Stayed d e); heeds = old })
  step_heeds j (Entered a i d e lt none d' e') hear anew old =
      let rs : List Happened = records_of w'.before in
      let once : Once (at_work s) t = Entered a i d e lt none d' e' in
      let top : Below rs w.before t = record { later = []; is = is } in
      let low : Below rs w.before (entering a i) = below_does rs w.before (entering a i) t d' top in
      let begun : (g : List ℕ) → Folded (those g) n w.before g (at_work s) = begins_folded c w w' k k' n s t up up' is same_inc once in
      let early : Within PlaceAnew (reverse (entering a i).records) w.before = within_does PlaceAnew w.before (entering a i) t d' anew in
      let first : Heeding n j w.before a.views.view a.sessions (reverse a.records) (len_of a) (state_of a) = heeds_does n j w.before those rs all_fit (at_work s) a d e (below_does rs w.before a (entering a i) (Enters a i lt none) low) (within_does PlaceAnew w.before a (entering a i) (Enters a i lt none) early) (record { hearing = hear; folded = begun; heeds = old }) in
      let heard : Hearing n j w.before a = hearing_does n j w.before (at_work s) a d hear in
      let folds : (g : List ℕ) → Folded (those g) n w.before g a = λ g. folded_does (those g) n w.before g (at_work s) a d e hear.me (begun g) in
      let goes : (p : ProviderId) (x : Provider) → provider_of (entering a i).sessions p ≡ Some x → x.takes_part ≡ true → (state_of (entering a i) x.group).running ≡ (state_of a x.group).running = λ p x q part. let b = lives_on n j w.before a i heard p x q part in runs_same c w w' k k' n s t up up' is same_inc a i d e lt d' e' x.group b.0 b.1 (b.2 ∙ e) (folds x.group) in
      heeds_does n j w.before those rs all_fit (entering a i) t d' (e' ∙ sym (entering_view a i)) top anew (record { hearing = hearing_does n j w.before a (entering a i) (Enters a i lt none) heard; folded = enters_folded c w w' k k' n s t up up' is same_inc a i d e lt d' e'; heeds = heeds_enters n j w.before a i lt goes first })
