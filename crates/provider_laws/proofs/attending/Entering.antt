-- A node enters a view: its stays begin with the base there, and who stays takes part from 0 on.
use Rattle.std.proofs.Common.{◌≡◌, ◌≢◌, ℕ, List, [], ◌∷◌, Option, Some, None, Bool, true, false, refl, sym, ap, ◌∙◌, subst, inl, inr, arith, ◌++◌}
use Rattle.std.specs.Prelude.{◌==◌, ◌&&◌, reverse, map, find, if◌then◌else◌}
use Rattle.std.specs.Option.{option_map}
use Rattle.std.specs.Str.{bytes_eq}
use Rattle.std.proofs.lemmas.Bool.{and_parts, eqb-true}
use Rattle.rsct_packet.specs.declared.ids.ViewId.{ViewId}
use Rattle.rsct_packet.specs.declared.ids.ProviderId.{ProviderId}
use Rattle.rsct_packet.specs.Ids.{same_view}
use Rattle.rsct_packet.specs.Providers.{among}
use Rattle.rsct_packet.specs.Search.{Has}
use Rattle.rsct_packet.proofs.HasLaws.{find_has, append_has_left, append_has_right, map_has}
use Rattle.proposal_core.specs.Fold.{empty_state, present}
use Rattle.proposal_core.specs.Lists.{list_or_new}
use Rattle.session_state.specs.declared.state.Provider.{Provider}
use Rattle.session_state.specs.State.{provider_of}
use Rattle.view_state.specs.declared.install.Install.{Install}
use Rattle.view_state.specs.declared.install.Base.{Base}
use Rattle.view_state.specs.Bases.{bases_of, base_named}
use Rattle.view_state.specs.Views.{views_entered}
use Rattle.node_state.specs.declared.group.GroupRow.{GroupRow}
use Rattle.node_state.specs.declared.happened.Happened.{Happened}
use Rattle.node_state.specs.declared.happened.Happened.TheVariants as happened
use Rattle.node_state.specs.declared.state.Core.{Core}
use Rattle.node_state.specs.State.{row_found, row_of, list_of, state_of, len_of, held_rows, recorded_all, has_name, recorded, with_sessions}
use Rattle.node_state.specs.Applying.{level_set, base_row, base_record, view_entered, is_in_base, sides_dissolved, dissolved}
use Rattle.run_safety.specs.ViewOrder.{Lt}
use Rattle.run_safety.specs.Past.{History, earlier, records_of}
use Rattle.run_safety.specs.SafeHeard.{heard_count}
use Rattle.run_safety.specs.Stays.{stays, with_base, part}
use Rattle.run_safety.proofs.Order.{lt_not_same, lt_trans}
use Rattle.step_refinement.proofs.BaseOrder.{bases_ordered, row_of_base, base_noted}
use Rattle.row_laws.specs.hearing.Hearing.{last_heard}
use Rattle.row_laws.specs.hearing.Changes.{Aside, Inner}
use Rattle.row_laws.proofs.hearing.Attending.{Stance, Before, Left, Gone, Attends, pushed, pushed_reverse}
use Rattle.row_laws.proofs.hearing.Viewing.{sides_stand}
use Rattle.row_laws.proofs.hearing.Doing.{Hearing, rows_stay, present_row, base_len, entered_groups}
use Rattle.provider_laws.proofs.attending.Parts.{part_passes, part_enters}
use Rattle.provider_laws.proofs.attending.Staying.{InStay, Takes, Place, inner_stays, aside_count, none_count}
use Rattle.row_laws.proofs.hearing.Added.{Adds, sides_add, enters_add}
use Rattle.provider_laws.proofs.attending.Sides.{sides_keep}
use Rattle.row_laws.proofs.hearing.Sessions.{fewer_same, fewer_told}
use Rattle.client_callbacks.specs.declared.told.Why.TheVariants.{Dissolved}
use Rattle.row_laws.proofs.failed_rows.Bases.{base_is, new_stay, bases_entered}
use Rattle.std.proofs.lemmas.List.{reverse-append}

-- ---- records that are added

pub pushed_stays : (m : ℕ) (g : List ℕ) (rs now : List Happened) (before : History) → ((r : Happened) → Has r rs → Inner r) → stays m g (earlier (pushed rs now) before) ≡ stays m g (earlier now before)
pushed_stays m g [] now before all = refl
pushed_stays m g (r ∷ rs) now before all =
    pushed_stays m g rs (r ∷ now) before (λ q h. all q (inr h)) ∙ inner_stays m g r (earlier now before) (all r (inl refl))

pub pushed_count : (p : ProviderId) (v : ViewId) (g : List ℕ) (rs now : List Happened) (before : History) → ((r : Happened) → Has r rs → Aside r) → heard_count p v g (earlier (pushed rs now) before) ≡ heard_count p v g (earlier now before)
pushed_count p v g [] now before all = refl
pushed_count p v g (r ∷ rs) now before all =
    pushed_count p v g rs (r ∷ now) before (λ q h. all q (inr h)) ∙ aside_count p v g r (earlier now before) (all r (inl refl))

-- ---- the base of a stay

pub named_has : (bs : List Base) (g : List ℕ) (b : Base) → base_named bs g ≡ Some b → Has b bs
unfolding base_named
named_has bs g b e = (find_has (λ (x : Base). bytes_eq x.name g) bs b e).0

pub state_named : (c : Core) (bs : List Base) → c.groups ≡ map base_row bs → (g : List ℕ) → state_of c g ≡ base_is (base_named bs g)
unfolding state_of list_of row_of base_row
state_named c bs e g =
    ap (λ (rows : List GroupRow). (list_or_new (row_found g (find (has_name g) rows)).list).state) e ∙ ap (λ (o : Option GroupRow). (list_or_new (row_found g o).list).state) (row_of_base g bs) ∙ by (base_named bs g)
  where
    by : (o : Option Base) → (list_or_new (row_found g (option_map base_row o)).list).state ≡ base_is o
    by None = refl
    by (Some b) = refl

-- the view and its bases are recorded, after all that was
pub record Entered (s : Core) (i : Install) : Type 0 where
  pub older : (r : Happened) → Has r s.records → Has r (sides_dissolved (view_entered s i (bases_of i)) (held_rows s) s.views.view (bases_of i)).records
  pub view : Has (happened.In s.views.me i.view i.members) (sides_dissolved (view_entered s i (bases_of i)) (held_rows s) s.views.view (bases_of i)).records
  pub base : (b : Base) → Has b (bases_of i) → Has (happened.Base s.views.me i.view b.name b.from b.len b.state) (sides_dissolved (view_entered s i (bases_of i)) (held_rows s) s.views.view (bases_of i)).records

dissolved_grows : (c : Core) (p : ProviderId) (k : ℕ) (r : Happened) → Has r c.records → Has r (dissolved c p k).records
unfolding dissolved recorded with_sessions
dissolved_grows c p k r h = append_has_left r c.records _ h

pub entered_records : (s : Core) (i : Install) → Entered s i
unfolding view_entered views_entered recorded_all base_record
entered_records s i =
    record {
      older = λ r h. on r (append_has_left r s.records _ h);
      view = on (happened.In s.views.me i.view i.members) (append_has_right (happened.In s.views.me i.view i.members) s.records _ (inl refl));
      base = λ b h. on _ (append_has_right _ s.records _ (inr (map_has (λ (b : Base). happened.Base s.views.me i.view b.name b.from b.len b.state) b (bases_of i) h)));
    }
  where
    on : (r : Happened) → Has r (view_entered s i (bases_of i)).records → Has r (sides_dissolved (view_entered s i (bases_of i)) (held_rows s) s.views.view (bases_of i)).records
    on r h = sides_keep (λ c. Has r c.records) (λ c p k a. dissolved_grows c p k r a) (held_rows s) s.views.view (bases_of i) (view_entered s i (bases_of i)) h

-- who is there was there
pub entering_back : (s : Core) (i : Install) (p : ProviderId) (x : Provider) → provider_of (sides_dissolved (view_entered s i (bases_of i)) (held_rows s) s.views.view (bases_of i)).sessions p ≡ Some x → provider_of s.sessions p ≡ Some x
unfolding view_entered recorded_all level_set dissolved recorded with_sessions
entering_back s i p x =
    sides_keep (λ c. provider_of c.sessions p ≡ Some x → provider_of s.sessions p ≡ Some x) (λ c q r old z. old ((fewer_told c.sessions q r Dissolved).providers p x z)) (held_rows s) s.views.view (bases_of i) (view_entered s i (bases_of i)) (λ z. (fewer_same s.sessions (level_set s i.members) refl refl (omega arith) refl refl).providers p x z)

module _ (before : History) (s : Core) (i : Install) where
  abbrev new_bases : List Base
  new_bases = bases_of i

  abbrev inside : Core
  inside = view_entered s i new_bases

  abbrev pub entered_core : Core
  entered_core = sides_dissolved inside (held_rows s) s.views.view new_bases

  abbrev entering : Happened
  entering = happened.In s.views.me i.view i.members

  told : Adds Inner inside entered_core
  told = sides_add inside (held_rows s) s.views.view new_bases

  adds : Adds Aside s entered_core
  adds = enters_add s i

  to_inside : (m : ℕ) (g : List ℕ) → stays m g (earlier (reverse entered_core.records) before) ≡ stays m g (earlier (pushed (map (base_noted s.views.me i.view) new_bases) (entering ∷ reverse s.records)) before)
  unfolding view_entered recorded_all views_entered base_record
  to_inside m g =
      ap (λ z. stays m g (earlier z before)) (ap reverse told.is ∙ pushed_reverse told.more inside.records) ∙ pushed_stays m g told.more (reverse inside.records) before told.all ∙ ap (λ z. stays m g (earlier z before)) (pushed_reverse (entering ∷ map (base_noted s.views.me i.view) new_bases) s.records)

  -- the list of each group begins with its base
  pub inside_stays : (g : List ℕ) → stays s.views.me g (earlier (pushed (map (base_noted s.views.me i.view) new_bases) (entering ∷ reverse s.records)) before) ≡ new_stay i.view (base_is (base_named new_bases g)) ∷ stays s.views.me g (earlier (reverse s.records) before)
  inside_stays g =
      ap (λ z. stays s.views.me g (earlier z before)) (sym (pushed_reverse (map (base_noted s.views.me i.view) new_bases) (s.records ++ entering ∷ []) ∙ ap (pushed (map (base_noted s.views.me i.view) new_bases)) (reverse-append s.records (entering ∷ [])))) ∙ bases_entered s.views.me i.view i.members g new_bases s.records (records_of before) (bases_ordered i)

  pub entered_stays : (g : List ℕ) → stays s.views.me g (earlier (reverse entered_core.records) before) ≡ new_stay i.view (base_is (base_named new_bases g)) ∷ stays s.views.me g (earlier (reverse s.records) before)
  entered_stays g = to_inside s.views.me g ∙ inside_stays g

  pub other_stays : (m : ℕ) (g : List ℕ) → m ≢ s.views.me → stays m g (earlier (reverse entered_core.records) before) ≡ stays m g (earlier (reverse s.records) before)
  other_stays m g ne = to_inside m g ∙ all new_bases (entering ∷ reverse s.records) ∙ by (s.views.me == m) refl
    where
      differs : (b : Bool) → (s.views.me == m) ≡ b → b ≡ true → ⊥
      differs b q z = ne (sym (eqb-true s.views.me m (q ∙ z)))

      one : (b : Base) (now : List Happened) (t : Bool) → (s.views.me == m) ≡ t → (if t && bytes_eq b.name g then with_base b.state (stays m g (earlier now before)) else stays m g (earlier now before)) ≡ stays m g (earlier now before)
      one b now true q = absurd (differs true q refl)
      one b now false q = refl

      all : (bs : List Base) (now : List Happened) → stays m g (earlier (pushed (map (base_noted s.views.me i.view) bs) now) before) ≡ stays m g (earlier now before)
      all [] now = refl
      all (b ∷ bs) now = all bs (base_noted s.views.me i.view b ∷ now) ∙ one b now (s.views.me == m) refl

      by : (t : Bool) → (s.views.me == m) ≡ t → (if t then new_stay i.view empty_state ∷ stays m g (earlier (reverse s.records) before) else stays m g (earlier (reverse s.records) before)) ≡ stays m g (earlier (reverse s.records) before)
      by true q = absurd (differs true q refl)
      by false q = refl

  pub entered_count : (p : ProviderId) (u : ViewId) (g : List ℕ) → heard_count p u g (earlier (reverse entered_core.records) before) ≡ heard_count p u g (earlier (reverse s.records) before)
  entered_count p u g =
      ap (λ z. heard_count p u g (earlier z before)) (ap reverse adds.is ∙ pushed_reverse adds.more s.records) ∙ pushed_count p u g adds.more (reverse s.records) before adds.all

  module _ (n inc : ℕ) (k : Hearing n inc before s) (lt : Lt s.views.view i.view) (place : Place n s.views.view s.sessions (λ m g. stays m g (earlier (reverse s.records) before)) (λ p u g. heard_count p u g (earlier (reverse s.records) before)) (len_of s) (state_of s)) (lively : (b : Base) → Has b new_bases → same_view b.from s.views.view ≡ true → (p : ProviderId) → p.node ≡ n → p.inc ≡ inc → among b.state.failed p ≡ false) where
    -- nothing was heard of the view yet
    not_yet : (p : ProviderId) (y : Provider) → provider_of s.sessions p ≡ Some y → (g : List ℕ) → heard_count p i.view g (earlier (reverse entered_core.records) before) ≡ 0
    not_yet p y q g = entered_count p i.view g ∙ none_count p i.view g (earlier (reverse s.records) before) (by (last_heard p i.view g (earlier (reverse s.records) before)) refl)
      where
        out : (j : ℕ) → Stance inc s.views.view s.sessions (len_of s) p i.view g j → ⊥
        out j (Before a) = let z = (k.at.own p y q).1 in omega (arith, a, z)
        out j (Left a) = lt_not_same i.view i.view (lt_trans i.view s.views.view i.view a lt) refl
        out j (Gone a b) = let z : Some y ≡ None = sym q ∙ a in cc
        out j (Attends a b x c f h) = lt_not_same i.view i.view (subst (λ z. Lt z i.view) (sym a) lt) refl

        by : (o : Option ℕ) → last_heard p i.view g (earlier (reverse s.records) before) ≡ o → last_heard p i.view g (earlier (reverse s.records) before) ≡ None
        by None z = z
        by (Some j) z = absurd (out j (k.at.heard p i.view g j (k.at.own p y q).0 z))

    groups : entered_core.groups ≡ map base_row new_bases
    groups = (sides_stand inside (held_rows s) s.views.view new_bases).groups ∙ entered_groups s i new_bases

    stays_at : (g : List ℕ) → stays n g (earlier (reverse entered_core.records) before) ≡ new_stay i.view (base_is (base_named new_bases g)) ∷ stays n g (earlier (reverse s.records) before)
    stays_at g =
        subst (λ m. stays m g (earlier (reverse entered_core.records) before) ≡ new_stay i.view (base_is (base_named new_bases g)) ∷ stays m g (earlier (reverse s.records) before)) k.me (entered_stays g)

    in_base : (p : ProviderId) (y : Provider) → provider_of entered_core.sessions p ≡ Some y → y.takes_part ≡ true → is_in_base s.views.view p (base_named new_bases y.group) ≡ true
    in_base p y q take =
        let r = present_row s y.group p (k.at.here p y (entering_back s i p y q) take) in
        subst (λ z. is_in_base s.views.view p (base_named new_bases z) ≡ true) r.2 (rows_stay s.views.view new_bases p y take (held_rows s) inside r.0 r.1 (sym r.2) r.3 q)

    pub entered_place : Place n i.view entered_core.sessions (λ m g. stays m g (earlier (reverse entered_core.records) before)) (λ p u g. heard_count p u g (earlier (reverse entered_core.records) before)) (len_of entered_core) (state_of entered_core)
    unfolding is_in_base
    entered_place = record { stay = stay; taking = taking; waiting = waiting }
      where
        stay : (g : List ℕ) → InStay i.view (stays n g (earlier (reverse entered_core.records) before)) (len_of entered_core g) (state_of entered_core g)
        stay g =
            record {
              now = new_stay i.view (base_is (base_named new_bases g));
              older = stays n g (earlier (reverse s.records) before);
              is = stays_at g;
              view = refl;
              len_is = sym (base_len entered_core new_bases groups g);
              state = sym (state_named entered_core new_bases groups g);
            }

        taking : (p : ProviderId) (y : Provider) → provider_of entered_core.sessions p ≡ Some y → y.takes_part ≡ true → Takes (part p (stays n y.group (earlier (reverse entered_core.records) before))) (len_of entered_core y.group) (heard_count p i.view y.group (earlier (reverse entered_core.records) before))
        taking p y q take = by (base_named new_bases y.group) refl (in_base p y q take)
          where
            found : provider_of s.sessions p ≡ Some y
            found = entering_back s i p y q

            z : Takes (part p (stays n y.group (earlier (reverse s.records) before))) (len_of s y.group) (heard_count p s.views.view y.group (earlier (reverse s.records) before))
            z = place.taking p y found take

            by : (o : Option Base) → base_named new_bases y.group ≡ o → is_in_base s.views.view p o ≡ true → Takes (part p (stays n y.group (earlier (reverse entered_core.records) before))) (len_of entered_core y.group) (heard_count p i.view y.group (earlier (reverse entered_core.records) before))
            by None e t = absurd (cc)
            by (Some b) e t =
                let a = and_parts (same_view b.from s.views.view) (among (present b.state) p) t in
                let own = k.at.own p y found in
                let lives = lively b (named_has new_bases y.group b e) a.0 p own.0 own.1 in
                let r = part_passes p i.view b.state (stays n y.group (earlier (reverse s.records) before)) z.first z.is z.last a.1 lives in
                let at : stays n y.group (earlier (reverse entered_core.records) before) ≡ new_stay i.view b.state ∷ stays n y.group (earlier (reverse s.records) before) = stays_at y.group ∙ ap (λ o. new_stay i.view (base_is o) ∷ stays n y.group (earlier (reverse s.records) before)) e in
                record {
                  first = 0;
                  is = ap (λ x. (part p x).first) at ∙ r.0;
                  last = ap (λ x. (part p x).last) at ∙ r.1;
                  len_is = let l = base_len entered_core new_bases groups y.group in let c = not_yet p y found y.group in omega (arith, l, c);
                }

        waiting : (p : ProviderId) (y : Provider) → provider_of entered_core.sessions p ≡ Some y → y.takes_part ≡ false → ((part p (stays n y.group (earlier (reverse entered_core.records) before))).first ≡ None) × (heard_count p i.view y.group (earlier (reverse entered_core.records) before) ≡ 0)
        waiting p y q wait =
            let found = entering_back s i p y q in
            let z = place.waiting p y found wait in
            (ap (λ x. (part p x).first) (stays_at y.group) ∙ part_enters p i.view (base_is (base_named new_bases y.group)) (stays n y.group (earlier (reverse s.records) before)) z.0, not_yet p y found y.group)
