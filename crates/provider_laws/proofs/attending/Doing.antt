-- Each change of a step lets providers hear just the next place, and leaves nobody standing twice in a state.
use Rattle.std.proofs.Common.{◌≡◌, ◌⊎◌, ℕ, List, [], ◌∷◌, Option, Some, None, refl, sym, ap, ◌∙◌, subst, inl, inr}
use Rattle.std.specs.Prelude.{reverse, find, flat_map}
use Rattle.std.specs.Option.{option_map}
use Rattle.std.specs.Str.{bytes_eq}
use Rattle.std.proofs.lemmas.List.{reverse-append}
use Rattle.rsct_packet.specs.declared.ids.ProviderId.{ProviderId}
use Rattle.rsct_packet.specs.Search.{Has}
use Rattle.rsct_packet.proofs.HasLaws.{append_has_left, append_has_right, find_has}
use Rattle.proposal_core.specs.declared.entry.Entry.{Entry}
use Rattle.proposal_core.specs.declared.group_state.GroupState.{GroupState}
use Rattle.proposal_core.specs.Fold.{present}
use Rattle.proposal_core.specs.Lists.{list_or_new, with_entry}
use Rattle.client_callbacks.specs.declared.ballot.Filled.{Filled}
use Rattle.session_state.specs.declared.casts.Cast.{Cast}
use Rattle.session_state.specs.HandOn.{hearers, casts_out}
use Rattle.view_state.specs.declared.install.Install.{Install}
use Rattle.view_state.specs.declared.install.Base.{Base}
use Rattle.view_state.specs.Bases.{bases_of, base_named}
use Rattle.view_state.specs.Views.{views_entered}
use Rattle.node_state.specs.declared.group.GroupRow.{GroupRow}
use Rattle.node_state.specs.declared.happened.Happened.{Happened}
use Rattle.node_state.specs.declared.happened.Happened.TheVariants as happened
use Rattle.node_state.specs.declared.state.Core.{Core}
use Rattle.node_state.specs.State.{InNameOrder, row_found, row_of, with_row, list_of, state_of, len_of, held_rows, recorded, recorded_all, with_sessions, has_name}
use Rattle.node_state.specs.HandOn.{heard}
use Rattle.node_state.specs.Leading.{put}
use Rattle.node_state.specs.Applying.{base_row, view_entered, sides_dissolved}
use Rattle.run_safety.specs.Past.{History, Within, earlier, records_of, view_now, inc_now}
use Rattle.node_state.proofs.NameOrder.{cases_text, row_here, row_there}
use Rattle.step_refinement.proofs.BaseOrder.{row_of_base}
use Rattle.step_refinement.proofs.SessionLaws.{cast_has}
use Rattle.row_laws.specs.hearing.Hearing.{last_heard}
use Rattle.row_laws.specs.hearing.Changes.{Same, Aside, handing, voting, Does, Stays, Then, Records, Hands, Loses, Joins, Votes, Enters}
use Rattle.row_laws.proofs.hearing.Changes.{inner_aside}
use Rattle.row_laws.proofs.hearing.Attending.{pushed, pushed_reverse, heard_at}
use Rattle.row_laws.proofs.hearing.Handing.{hearer_found}
use Rattle.row_laws.proofs.hearing.Viewing.{sides_stand}
use Rattle.row_laws.proofs.hearing.Doing.{Hearing, hearing_does}
use Rattle.row_laws.proofs.hearing.Added.{Adds, enters_add, enters_inc, enters_view, handing_adds, still_adds, record_added, vote_added, does_grow}
use Rattle.provider_laws.specs.attending.Places.{Alone, Named, IsNext, IsUp, NextHeard}
use Rattle.provider_laws.proofs.attending.Alone.{after_alone}
use Rattle.provider_laws.proofs.attending.Turns.{aside_next, within_pushed, hearers_alone, casts_alone, all_next, hearer_next}
use Rattle.provider_laws.proofs.attending.Hands.{handing_said}
use Rattle.provider_laws.proofs.attending.Entering.{entered_records}

-- an entry that is put names no joiner twice, and nobody stands twice in a base
abbrev pub Fine : Happened → Type 0
Fine (happened.Put n v g i e) = Named e
Fine (happened.Base n v g old len s) = Alone (present s)
Fine _ = Unit {0}

abbrev pub AllFine : List Happened → Type 0
AllFine rs = (r : Happened) → Has r rs → Fine r

-- ---- every change

pub record Strict (n inc : ℕ) (before : History) (s : Core) : Type 0 where
  pub hearing : Hearing n inc before s
  pub law : Within NextHeard (reverse s.records) before
  pub view : view_now n (earlier (reverse s.records) before) ≡ Some s.views.view
  pub incs : (m : ℕ) → inc_now m (earlier (reverse s.records) before) ≡ inc_now m (records_of before)
  pub start : inc_now n (records_of before) ≡ inc
  pub alone : (g : List ℕ) → Alone (present (state_of s g))

module _ (n inc : ℕ) (before : History) where
  law_adds : (c d : Core) → Adds Aside c d → Within NextHeard (reverse c.records) before → Within NextHeard (reverse d.records) before
  law_adds c d a k =
      subst (λ z. Within NextHeard z before) (sym (ap reverse a.is ∙ pushed_reverse a.more c.records)) (within_pushed NextHeard Aside aside_next a.more (reverse c.records) before a.all k)

  put_state : (s : Core) (h : List ℕ) (e : Entry) → InNameOrder s.groups → Named e → ((g : List ℕ) → Alone (present (state_of s g))) → (g : List ℕ) → Alone (present (state_of (put s h e) g))
  unfolding put recorded state_of list_of with_entry with_row row_of
  put_state s h e o named k g = by (cases_text h g)
    where
      F : GroupRow → GroupRow
      F row = record row { list = Some (with_entry (list_or_new row.list) s.views.view e) }

      here : Alone (present (state_of (put s h e) h))
      here =
          subst (λ (row : GroupRow). Alone (present (list_or_new row.list).state)) (sym (row_here h F (λ x. refl) s o)) (after_alone (list_of s h).state s.views.view (list_of s h).len e (k h) named)

      by : (h ≡ g) ⊎ (h ≡ g → ⊥) → Alone (present (state_of (put s h e) g))
      by (inl q) = subst (λ z. Alone (present (state_of (put s h e) z))) q here
      by (inr ne) = subst (λ (row : GroupRow). Alone (present (list_or_new row.list).state)) (sym (row_there h F (λ x. refl) s g ne)) (k g)

  law_hands : (s c : Core) (h : List ℕ) (e : Entry) (bs : List (Option Filled)) → Same (put s h e) c → Named e → Strict n inc before s → Within NextHeard (reverse (handing c h (len_of s h) (state_of s h) (state_of (put s h e) h) e bs).records) before
  unfolding put recorded recorded_all with_sessions heard with_row casts_out
  law_hands s c h e bs same named k =
      subst (λ z. Within NextHeard z before) (sym (handing_said s.views.me s c h e bs same refl)) all
    where
      after : GroupState
      after = state_of (put s h e) h

      cs : List Cast
      cs = casts_out s.sessions h (state_of s h) after e bs

      rs : List Happened
      rs = flat_map (heard_at s.views.view h (len_of s h) e after) cs

      now : List Happened
      now = happened.Put s.views.me s.views.view h (len_of s h) e ∷ reverse s.records

      node : (p : ProviderId) → Has p (hearers s.sessions h (state_of s h) e) → (p.node ≡ n) × (p.inc ≡ inc)
      node p a = let f = hearer_found s.sessions h (state_of s h) e p a in let o = k.hearing.at.own p f.0 f.1 in (o.0, o.1)

      one : (x : Cast) → Has x cs → IsNext x.provider e (last_heard x.provider s.views.view h (earlier now before)) (len_of s h)
      one x i =
          hearer_next n inc before s.views.view s.sessions (reverse s.records) (len_of s) (state_of s) k.hearing.at h e x.provider (cast_has e after s.sessions.level (hearers s.sessions h (state_of s h) e) bs x i)

      next : (x : Cast) → Has x cs → IsNext x.provider e (last_heard x.provider s.views.view h (earlier now before)) (len_of s h) × IsUp x.provider s.views.view (earlier now before)
      next x i =
          let a = cast_has e after s.sessions.level (hearers s.sessions h (state_of s h) e) bs x i in
          let o = node x.provider a in
          (one x i, (ap (λ m. view_now m (earlier now before)) o.0 ∙ k.view, ap (λ m. inc_now m (earlier now before)) o.0 ∙ k.incs n ∙ k.start ∙ sym o.1))

      all : Within NextHeard (pushed rs now) before
      all =
          all_next before s.views.view h (len_of s h) e after cs now (tt, k.law) next (casts_alone e after s.sessions.level (hearers s.sessions h (state_of s h) e) bs (hearers_alone s.sessions h (state_of s h) e (k.alone h) named))

  pub put_recorded : (s c : Core) (h : List ℕ) (e : Entry) (bs : List (Option Filled)) → Same (put s h e) c → Has (happened.Put s.views.me s.views.view h (len_of s h) e) (handing c h (len_of s h) (state_of s h) (state_of (put s h e) h) e bs).records
  unfolding put recorded recorded_all with_sessions with_row
  put_recorded s c h e bs same =
      let r : Happened = happened.Put s.views.me s.views.view h (len_of s h) e in
      append_has_left r c.records _ (subst (Has r) (sym same.records) (append_has_right r s.records (r ∷ []) (inl refl)))

  enters_alone : (s : Core) (i : Install) → AllFine (sides_dissolved (view_entered s i (bases_of i)) (held_rows s) s.views.view (bases_of i)).records → (g : List ℕ) → Alone (present (state_of (sides_dissolved (view_entered s i (bases_of i)) (held_rows s) s.views.view (bases_of i)) g))
  unfolding state_of list_of row_of base_row view_entered recorded_all base_named
  enters_alone s i fine g =
      subst (λ (rows : List GroupRow). Alone (present (list_or_new (row_found g (find (has_name g) rows)).list).state)) (sym (sides_stand (view_entered s i bs) (held_rows s) s.views.view bs).groups) (subst (λ (o : Option GroupRow). Alone (present (list_or_new (row_found g o).list).state)) (sym (row_of_base g bs)) (by (base_named bs g) refl))
    where
      bs : List Base
      bs = bases_of i

      by : (o : Option Base) → base_named bs g ≡ o → Alone (present (list_or_new (row_found g (option_map base_row o)).list).state)
      by None q = tt
      by (Some b) q = fine (happened.Base s.views.me i.view b.name b.from b.len b.state) ((entered_records s i).base b (find_has (λ (x : Base). bytes_eq x.name g) bs b q).0)

  entered_view : (s : Core) (i : Install) (bs : List Base) → (view_entered s i bs).views.view ≡ i.view
  unfolding view_entered recorded_all views_entered
  entered_view s i bs = refl

  pub strict_does : (s t : Core) → Does s t → AllFine t.records → Strict n inc before s → Strict n inc before t
  unfolding recorded recorded_all with_sessions state_of list_of row_of put with_row
  strict_does _ _ (Stays s t same) fine k =
      record {
        hearing = hearing_does n inc before s t (Stays s t same) k.hearing;
        law = subst (λ z. Within NextHeard (reverse z) before) (sym same.records) k.law;
        view = ap (λ z. view_now n (earlier (reverse z) before)) same.records ∙ k.view ∙ ap (λ z. Some z) (sym same.view);
        incs = λ m. ap (λ z. inc_now m (earlier (reverse z) before)) same.records ∙ k.incs m;
        start = k.start;
        alone = λ g. subst (λ z. Alone (present z)) (sym (same.states g)) (k.alone g);
      }
  strict_does _ _ (Then s t u a b) fine k = strict_does t u b fine (strict_does s t a (λ r h. fine r (does_grow t u b r h)) k)
  strict_does _ _ (Records s r a) fine k =
      record {
        hearing = hearing_does n inc before s (recorded s r) (Records s r a) k.hearing;
        law = subst (λ z. Within NextHeard z before) (sym (reverse-append s.records (r ∷ []))) (aside_next (reverse s.records) before r (inner_aside r a), k.law);
        view = ap (λ z. z.0) (still_adds before n s (recorded s r) (record_added s r a)) ∙ k.view;
        incs = λ m. ap (λ z. z.1) (still_adds before m s (recorded s r) (record_added s r a)) ∙ k.incs m;
        start = k.start;
        alone = k.alone;
      }
  strict_does _ _ (Hands s c h e bs o same) fine k =
      let named : Named e = fine (happened.Put s.views.me s.views.view h (len_of s h) e) (put_recorded s c h e bs same) in
      record {
        hearing = hearing_does n inc before s (handing c h (len_of s h) (state_of s h) (state_of (put s h e) h) e bs) (Hands s c h e bs o same) k.hearing;
        law = law_hands s c h e bs same named k;
        view = ap (λ z. z.0) (still_adds before n s _ (handing_adds s c h e bs same)) ∙ k.view ∙ ap (λ z. Some z) (sym same.view);
        incs = λ m. ap (λ z. z.1) (still_adds before m s _ (handing_adds s c h e bs same)) ∙ k.incs m;
        start = k.start;
        alone = λ g. subst (λ z. Alone (present z)) (sym (same.states g)) (put_state s h e o named k.alone g);
      }
  strict_does _ _ (Loses s t f) fine k = record { hearing = hearing_does n inc before s (with_sessions s t) (Loses s t f) k.hearing; law = k.law; view = k.view; incs = k.incs; start = k.start; alone = k.alone }
  strict_does _ _ (Joins s t g instance attrs none) fine k = record { hearing = hearing_does n inc before s _ (Joins s t g instance attrs none) k.hearing; law = k.law; view = k.view; incs = k.incs; start = k.start; alone = k.alone }
  strict_does _ _ (Votes s x o b found opened unkept) fine k =
      let r : Happened = happened.Cast x.provider o.proto o.phase b.vote b.value b.message in
      record {
        hearing = hearing_does n inc before s (voting s x o b) (Votes s x o b found opened unkept) k.hearing;
        law = subst (λ z. Within NextHeard z before) (sym (reverse-append s.records (r ∷ []))) (aside_next (reverse s.records) before r tt, k.law);
        view = ap (λ z. z.0) (still_adds before n s (voting s x o b) (vote_added s x o b)) ∙ k.view;
        incs = λ m. ap (λ z. z.1) (still_adds before m s (voting s x o b) (vote_added s x o b)) ∙ k.incs m;
        start = k.start;
        alone = k.alone;
      }
  strict_does _ _ (Enters s i lt none) fine k =
      record {
        hearing = hearing_does n inc before s _ (Enters s i lt none) k.hearing;
        law = law_adds s _ (enters_add s i) k.law;
        view = enters_view s i n before k.hearing.me ∙ ap (λ z. Some z) (sym (ap (λ z. z.view) (sides_stand (view_entered s i (bases_of i)) (held_rows s) s.views.view (bases_of i)).views ∙ entered_view s i (bases_of i)));
        incs = λ m. enters_inc s i m before ∙ k.incs m;
        start = k.start;
        alone = enters_alone s i fine;
      }
