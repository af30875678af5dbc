-- What a node does leaves its providers hearing on: change by change.
use Rattle.std.proofs.Common.{◌≡◌, ℕ, ◌+◌, List, [], ◌∷◌, ◌++◌, Option, Some, None, Bool, true, false, refl, sym, ap, ◌∙◌, subst, inl, inr, append_assoc, arith}
use Rattle.std.specs.Prelude.{not, ◌&&◌, ◌||◌, reverse, filter, find, fold, flat_map, map, is_some, if◌then◌else◌}
use Rattle.std.specs.Option.{option_map}
use Rattle.std.specs.Str.{bytes_eq}
use Rattle.std.proofs.lemmas.Bool.{and_parts}
use Rattle.std.proofs.lemmas.List.{append-nil, reverse-append}
use Rattle.rsct_packet.specs.declared.ids.ViewId.{ViewId}
use Rattle.rsct_packet.specs.declared.ids.ProviderId.{ProviderId}
use Rattle.rsct_packet.specs.Ids.{same_view}
use Rattle.rsct_packet.specs.Providers.{among}
use Rattle.rsct_packet.specs.Search.{Has}
use Rattle.rsct_packet.proofs.HasLaws.{find_has, filter_has, has_map}
use Rattle.proposal_core.specs.declared.entry.Entry.{Entry}
use Rattle.proposal_core.specs.declared.group_state.GroupState.{GroupState}
use Rattle.proposal_core.specs.Fold.{present}
use Rattle.proposal_core.specs.GroupView.{GroupView}
use Rattle.proposal_core.specs.Lists.{list_or_new, state_in, len_in, with_entry}
use Rattle.client_callbacks.specs.declared.ballot.Filled.{Filled}
use Rattle.client_callbacks.specs.declared.told.Why.TheVariants.{Dissolved}
use Rattle.session_state.specs.declared.state.Provider.{Provider}
use Rattle.session_state.specs.declared.state.SessionState.{SessionState}
use Rattle.session_state.specs.State.{provider_of, outstanding, without_providers}
use Rattle.session_state.specs.Calls.{keeps}
use Rattle.session_state.specs.HandOn.{casts_out, handed_on, takes_telling, told_of, take_telling, is_numbered, is_join_request}
use Rattle.view_state.specs.declared.install.Install.{Install}
use Rattle.view_state.specs.declared.install.Base.{Base}
use Rattle.view_state.specs.Bases.{bases_of, base_named}
use Rattle.view_state.specs.Views.{views_entered}
use Rattle.node_state.specs.declared.group.GroupRow.{GroupRow}
use Rattle.node_state.specs.declared.happened.Happened.{Happened}
use Rattle.node_state.specs.declared.happened.Happened.TheVariants as happened
use Rattle.node_state.specs.declared.state.Core.{Core}
use Rattle.node_state.specs.State.{InNameOrder, row_found, row_of, with_row, list_of, state_of, len_of, held_rows, recorded, recorded_all, with_sessions, has_name}
use Rattle.node_state.specs.HandOn.{heard}
use Rattle.node_state.specs.Leading.{put}
use Rattle.node_state.specs.Applying.{level_set, base_row, base_record, view_entered, is_in_base, number_of, dissolved, dissolved_if, group_dissolved, sides_dissolved}
use Rattle.run_safety.specs.ViewOrder.{Lt}
use Rattle.run_safety.specs.Past.{History, earlier}
use Rattle.run_safety.proofs.Order.{lt_trans, lt_not_same}
use Rattle.node_state.proofs.NameOrder.{row_here, row_there, text_same, text_self}
use Rattle.step_refinement.proofs.BaseOrder.{row_of_base}
use Rattle.row_laws.specs.hearing.Hearing.{last_heard, next_place}
use Rattle.row_laws.specs.hearing.Changes.{Same, Aside, handing, Does, Stays, Then, Records, Hands, Loses, Joins, Votes, Enters}
use Rattle.row_laws.proofs.hearing.Changes.{inner_aside}
use Rattle.row_laws.proofs.hearing.Sessions.{found_is, fewer_same, fewer_told}
use Rattle.row_laws.proofs.hearing.Handing.{among_is, has_among, left_stays, some_is}
use Rattle.row_laws.proofs.hearing.Viewing.{Stands, sides_stand}
use Rattle.row_laws.proofs.hearing.Attending.{Stance, Before, Left, Gone, Attends, Attending, attends_aside, attends_fewer, attends_less, attends_joined, attends_handed, pushed, pushed_reverse, heard_at}

-- node n in incarnation inc, in the middle of an event that came after `before`
pub record Hearing (n inc : ℕ) (before : History) (s : Core) : Type 0 where
  pub me : s.views.me ≡ n
  pub inc_of : s.views.inc ≡ inc
  pub at : Attending n inc before s.views.view s.sessions (reverse s.records) (len_of s) (state_of s)

-- ---- entering a view

module _ (n inc : ℕ) (before : History) (v : ViewId) (lens : List ℕ → ℕ) (states : List ℕ → GroupState) where
  abbrev Held : Core → Type 0
  Held c = Attending n inc before v c.sessions (reverse c.records) lens states

  held_record : (c : Core) (r : Happened) → Aside r → Held c → Held (recorded c r)
  unfolding recorded
  held_record c r a k =
      subst (λ z. Attending n inc before v c.sessions z lens states) (sym (reverse-append c.records (r ∷ []))) (attends_aside n inc before v c.sessions (reverse c.records) lens states r a k)

  held_records : (rs : List Happened) (c : Core) → ((r : Happened) → Has r rs → Aside r) → Held c → Held (recorded_all c rs)
  unfolding recorded_all recorded
  held_records [] c aside k = subst (λ z. Attending n inc before v c.sessions (reverse z) lens states) (sym (append-nil c.records)) k
  held_records (r ∷ rs) c aside k =
      subst (λ z. Attending n inc before v c.sessions (reverse z) lens states) (append_assoc c.records (r ∷ []) rs) (held_records rs (recorded c r) (λ q i. aside q (inr i)) (held_record c r (aside r (inl refl)) k))

  held_dissolved : (c : Core) (h : List ℕ) (old : ViewId) (b : Option Base) (o : Option Provider) → Held c → Held (dissolved_if c h old b o)
  unfolding dissolved_if dissolved with_sessions
  held_dissolved c h old b None k = k
  held_dissolved c h old b (Some x) k = by (x.takes_part && bytes_eq x.group h && not (is_in_base old x.provider b))
    where
      r : ℕ
      r = number_of (outstanding c.sessions x.provider)

      d : Core
      d = with_sessions c (take_telling c.sessions x.provider r Dissolved)

      by : (t : Bool) → Held (elim t as (λ _. Core) [ true ↦ recorded d (happened.Told x.provider r Dissolved) | false ↦ c ])
      by false = k
      by true = held_record d (happened.Told x.provider r Dissolved) tt (attends_fewer n inc before v c.sessions (reverse c.records) lens states (take_telling c.sessions x.provider r Dissolved) (fewer_told c.sessions x.provider r Dissolved) k)

  held_fold : {A : Type 0} (f : Core → A → Core) → ((c : Core) (x : A) → Held c → Held (f c x)) → (xs : List A) (c : Core) → Held c → Held (fold f c xs)
  held_fold f one [] c k = k
  held_fold f one (x ∷ xs) c k = held_fold f one xs (f c x) (one c x k)

  held_sides : (rows : List GroupRow) (old : ViewId) (bs : List Base) (c : Core) → Held c → Held (sides_dissolved c rows old bs)
  unfolding sides_dissolved group_dissolved
  held_sides rows old bs c k =
      held_fold (group_dissolved old bs) (λ t row j. held_fold (λ (u : Core) p. dissolved_if u row.name old (base_named bs row.name) (provider_of u.sessions p)) (λ u p i. held_dissolved u row.name old (base_named bs row.name) (provider_of u.sessions p) i) (present (state_in row.list)) t j) rows c k

-- who is found after some were dissolved was found before
abbrev pub Back : Core → Core → Type 0
Back c d = (p : ProviderId) (x : Provider) → provider_of d.sessions p ≡ Some x → provider_of c.sessions p ≡ Some x

pub back_fold : {A : Type 0} (f : Core → A → Core) → ((c : Core) (x : A) → Back c (f c x)) → (xs : List A) (c : Core) → Back c (fold f c xs)
back_fold f one [] c p x q = q
back_fold f one (y ∷ ys) c p x q = one c y p x (back_fold f one ys (f c y) p x q)

pub dissolved_back : (c : Core) (h : List ℕ) (old : ViewId) (b : Option Base) (o : Option Provider) → Back c (dissolved_if c h old b o)
unfolding dissolved_if dissolved recorded with_sessions
dissolved_back c h old b None p x q = q
dissolved_back c h old b (Some y) p x q = by (y.takes_part && bytes_eq y.group h && not (is_in_base old y.provider b)) q
  where
    r : ℕ
    r = number_of (outstanding c.sessions y.provider)

    by : (t : Bool) → provider_of (elim t as (λ _. Core) [ true ↦ dissolved c y.provider r | false ↦ c ]).sessions p ≡ Some x → provider_of c.sessions p ≡ Some x
    by true q = (fewer_told c.sessions y.provider r Dissolved).providers p x q
    by false q = q

-- who is told DISSOLVED is dropped
dropped : (s : SessionState) (p : ProviderId) (r : ℕ) (y x : Provider) → provider_of s p ≡ Some y → provider_of (take_telling s p r Dissolved) p ≡ Some x → ⊥
unfolding take_telling told_of takes_telling
dropped s p r y x found q = by (is_numbered r (outstanding s p)) (is_join_request (outstanding s p)) there
  where
    there : provider_of (if is_some (Some y) && (is_numbered r (outstanding s p) || true) then (if is_join_request (outstanding s p) || true then without_providers s (p ∷ []) else record s { requests = filter (λ q. not (among (p ∷ []) q.provider)) s.requests }) else s) p ≡ Some x
    there = subst (λ o. provider_of (if is_some o && (is_numbered r (outstanding s p) || true) then (if is_join_request (outstanding s p) || true then without_providers s (p ∷ []) else record s { requests = filter (λ q. not (among (p ∷ []) q.provider)) s.requests }) else s) p ≡ Some x) found q

    out : provider_of (without_providers s (p ∷ [])) p ≡ Some x → ⊥
    out q = let a = left_stays s (p ∷ []) p x q in let b = ap not (has_among (p ∷ []) p (inl refl)) in let z : true ≡ false = sym a ∙ b in cc

    by : (a b : Bool) → provider_of (if true && (a || true) then (if b || true then without_providers s (p ∷ []) else record s { requests = filter (λ q. not (among (p ∷ []) q.provider)) s.requests }) else s) p ≡ Some x → ⊥
    by true true q = out q
    by true false q = out q
    by false true q = out q
    by false false q = out q

-- at its turn one that took part, and stays, lives in the base
turn_stays : (c : Core) (h : List ℕ) (old : ViewId) (b : Option Base) (p : ProviderId) (x : Provider) → provider_of (dissolved_if c h old b (provider_of c.sessions p)).sessions p ≡ Some x → x.takes_part ≡ true → x.group ≡ h → is_in_base old p b ≡ true
unfolding dissolved_if dissolved recorded with_sessions
turn_stays c h old b p x q part group = by (provider_of c.sessions p) refl q
  where
    at : (y : Provider) → provider_of c.sessions p ≡ Some y → (t : Bool) → (y.takes_part && bytes_eq y.group h && not (is_in_base old y.provider b)) ≡ t → provider_of (elim t as (λ _. Core) [ true ↦ dissolved c y.provider (number_of (outstanding c.sessions y.provider)) | false ↦ c ]).sessions p ≡ Some x → is_in_base old p b ≡ true
    at y e true k q =
        absurd (dropped c.sessions p (number_of (outstanding c.sessions y.provider)) y x e (subst (λ z. provider_of (take_telling c.sessions z (number_of (outstanding c.sessions y.provider)) Dissolved) p ≡ Some x) (found_is c.sessions p y e) q))
    at y e false k q =
        let same : y ≡ x = some_is (sym e ∙ q) in
        let test : (true && true && not (is_in_base old p b)) ≡ false = sym (λ i. (ap (λ (z : Provider). z.takes_part) same ∙ part) i && (ap (λ (z : Provider). bytes_eq z.group h) same ∙ ap (λ z. bytes_eq z h) group ∙ text_self h) i && not (is_in_base old (found_is c.sessions p y e i) b)) ∙ k in
        inside (is_in_base old p b) test
      where
        inside : (t : Bool) → (true && true && not t) ≡ false → t ≡ true
        inside true z = refl
        inside false z = absurd (cc)

    by : (o : Option Provider) → provider_of c.sessions p ≡ o → provider_of (dissolved_if c h old b o).sessions p ≡ Some x → is_in_base old p b ≡ true
    by None e q = absurd (let z : Some x ≡ None = sym q ∙ e in cc)
    by (Some y) e q = at y e (y.takes_part && bytes_eq y.group h && not (is_in_base old y.provider b)) refl q

-- so all who are left do
module _ (old : ViewId) (bs : List Base) (p : ProviderId) (x : Provider) (part : x.takes_part ≡ true) where
  row_stays : (h : List ℕ) → x.group ≡ h → (ps : List ProviderId) (c : Core) → Has p ps → provider_of (fold (λ (u : Core) p. dissolved_if u h old (base_named bs h) (provider_of u.sessions p)) c ps).sessions p ≡ Some x → is_in_base old p (base_named bs h) ≡ true
  row_stays h group [] c k q = absurd k
  row_stays h group (y ∷ ps) c (inr k) q = row_stays h group ps (dissolved_if c h old (base_named bs h) (provider_of c.sessions y)) k q
  row_stays h group (y ∷ ps) c (inl k) q =
      let d : Core = dissolved_if c h old (base_named bs h) (provider_of c.sessions y) in
      let f : Core → ProviderId → Core = λ (u : Core) p. dissolved_if u h old (base_named bs h) (provider_of u.sessions p) in
      let e : provider_of d.sessions p ≡ Some x = back_fold f (λ u z. dissolved_back u h old (base_named bs h) (provider_of u.sessions z)) ps d p x q in
      turn_stays c h old (base_named bs h) p x (subst (λ z. provider_of (dissolved_if c h old (base_named bs h) (provider_of c.sessions z)).sessions p ≡ Some x) (sym k) e) part group

  pub rows_stay : (rows : List GroupRow) (c : Core) (row : GroupRow) → Has row rows → x.group ≡ row.name → Has p (present (state_in row.list)) → provider_of (sides_dissolved c rows old bs).sessions p ≡ Some x → is_in_base old p (base_named bs row.name) ≡ true
  unfolding sides_dissolved group_dissolved
  rows_stay [] c row k group h q = absurd k
  rows_stay (y ∷ rows) c row (inr k) group h q = rows_stay rows (group_dissolved old bs c y) row k group h q
  rows_stay (y ∷ rows) c row (inl k) group h q =
      let f : Core → ProviderId → Core = λ (u : Core) p. dissolved_if u row.name old (base_named bs row.name) (provider_of u.sessions p) in
      let d : Core = fold f c (present (state_in row.list)) in
      let q' : provider_of (fold (group_dissolved old bs) d rows).sessions p ≡ Some x = subst (λ (z : GroupRow). provider_of (fold (group_dissolved old bs) (group_dissolved old bs c z) rows).sessions p ≡ Some x) (sym k) q in
      let e : provider_of d.sessions p ≡ Some x = back_fold (group_dissolved old bs) (λ u r. back_fold (λ (w : Core) p. dissolved_if w r.name old (base_named bs r.name) (provider_of w.sessions p)) (λ w z. dissolved_back w r.name old (base_named bs r.name) (provider_of w.sessions z)) (present (state_in r.list)) u) rows d p x q' in
      row_stays row.name group (present (state_in row.list)) c h e

-- who is present in a group is so in a row with a list
pub present_row : (s : Core) (g : List ℕ) (p : ProviderId) → Has p (present (state_of s g)) → (row : GroupRow) × Has row (held_rows s) × (row.name ≡ g) × Has p (present (state_in row.list))
unfolding state_of list_of row_of held_rows
present_row s g p h = by (find (has_name g) s.groups) refl h
  where
    by : (o : Option GroupRow) → find (has_name g) s.groups ≡ o → Has p (present (list_or_new (row_found g o).list).state) → (row : GroupRow) × Has row (filter (λ (row : GroupRow). is_some row.list) s.groups) × (row.name ≡ g) × Has p (present (state_in row.list))
    by None e h = absurd h
    by (Some row) e h = at row.list refl h
      where
        there : Has row s.groups × (bytes_eq row.name g ≡ true)
        there = find_has (has_name g) s.groups row e

        at : (l : Option GroupView) → row.list ≡ l → Has p (present (list_or_new l).state) → (row : GroupRow) × Has row (filter (λ (row : GroupRow). is_some row.list) s.groups) × (row.name ≡ g) × Has p (present (state_in row.list))
        at None q h = absurd h
        at (Some l) q h =
            (row, filter_has (λ (row : GroupRow). is_some row.list) row s.groups there.0 (ap (λ (o : Option GroupView). is_some o) q), text_same row.name g there.1, subst (λ (o : Option GroupView). Has p (present (list_or_new o).state)) (sym q) h)

-- the state of a group with a base is that of the base
pub base_state : (c : Core) (bs : List Base) → c.groups ≡ map base_row bs → (g : List ℕ) (b : Base) → base_named bs g ≡ Some b → state_of c g ≡ b.state
unfolding state_of list_of row_of base_row
base_state c bs e g b q =
    ap (λ (rows : List GroupRow). (list_or_new (row_found g (find (has_name g) rows)).list).state) e ∙ ap (λ (o : Option GroupRow). (list_or_new (row_found g o).list).state) (row_of_base g bs ∙ ap (option_map base_row) q)

-- and its list is empty, as any other
pub base_len : (c : Core) (bs : List Base) → c.groups ≡ map base_row bs → (g : List ℕ) → len_of c g ≡ 0
unfolding len_of list_of row_of base_row
base_len c bs e g = ap (λ (rows : List GroupRow). len_in (row_found g (find (has_name g) rows)).list) e ∙ by (find (has_name g) (map base_row bs)) (base_named bs g) (row_of_base g bs)
  where
    by : (o : Option GroupRow) (b : Option Base) → o ≡ option_map base_row b → len_in (row_found g o).list ≡ 0
    by o None q = ap (λ (z : Option GroupRow). len_in (row_found g z).list) q
    by o (Some b) q = ap (λ (z : Option GroupRow). len_in (row_found g z).list) q

pub entered_groups : (s : Core) (i : Install) (bs : List Base) → (view_entered s i bs).groups ≡ map base_row bs
unfolding view_entered recorded_all
entered_groups s i bs = refl

module _ (n inc : ℕ) (before : History) where
  hearing_enters : (s : Core) (i : Install) → Lt s.views.view i.view → Hearing n inc before s → Hearing n inc before (sides_dissolved (view_entered s i (bases_of i)) (held_rows s) s.views.view (bases_of i))
  unfolding view_entered views_entered recorded_all base_record level_set is_in_base
  hearing_enters s i lt k =
      record {
        me = ap (λ z. z.me) stands.views ∙ now_me;
        inc_of = ap (λ z. z.inc) stands.views ∙ now_inc;
        at = subst (λ z. Attending n inc before z e.sessions (reverse e.records) (len_of e) (state_of e)) (sym (ap (λ z. z.view) stands.views ∙ now_view)) (record {
          me = held.me;
          inc_is = held.inc_is;
          law = held.law;
          others = held.others;
          began = held.began;
          own = held.own;
          here = here;
          heard = held.heard;
          upto = held.upto;
        });
      }
    where
      bs : List Base
      bs = bases_of i

      d : Core
      d = view_entered s i bs

      e : Core
      e = sides_dissolved d (held_rows s) s.views.view bs

      stands : Stands d e
      stands = sides_stand d (held_rows s) s.views.view bs

      now_me : d.views.me ≡ n
      now_me = k.me

      now_inc : d.views.inc ≡ inc
      now_inc = k.inc_of

      now_view : d.views.view ≡ i.view
      now_view = refl

      -- all that was heard is of views before
      stance : (p : ProviderId) (u : ViewId) (g : List ℕ) (j : ℕ) → Stance inc s.views.view s.sessions (len_of s) p u g j → Stance inc i.view s.sessions (len_of e) p u g j
      stance p u g j (Before a) = Before a
      stance p u g j (Left a) = Left (lt_trans u s.views.view i.view a lt)
      stance p u g j (Gone a b) = Gone a b
      stance p u g j (Attends a b x c f h) = Left (subst (λ z. Lt z i.view) (sym a) lt)

      -- the lists of the view are empty, and nothing was heard of it
      empty : (g : List ℕ) → len_of e g ≡ 0
      empty g = base_len e bs (stands.groups ∙ entered_groups s i bs) g

      not_yet : (p : ProviderId) (x : Provider) (j : ℕ) → provider_of s.sessions p ≡ Some x → (g : List ℕ) → Stance inc s.views.view s.sessions (len_of s) p i.view g j → ⊥
      not_yet p x j q g (Before a) = let z = (k.at.own p x q).1 in omega (arith, a, z)
      not_yet p x j q g (Left a) = lt_not_same i.view i.view (lt_trans i.view s.views.view i.view a lt) refl
      not_yet p x j q g (Gone a b) = let z : Some x ≡ None = sym q ∙ a in cc
      not_yet p x j q g (Attends a b y c f h) = lt_not_same i.view i.view (subst (λ z. Lt z i.view) (sym a) lt) refl

      upto : (p : ProviderId) (x : Provider) → provider_of s.sessions p ≡ Some x → len_of e x.group ≡ next_place (last_heard p i.view x.group (earlier (reverse s.records) before))
      upto p x q = empty x.group ∙ by (last_heard p i.view x.group (earlier (reverse s.records) before)) refl
        where
          by : (o : Option ℕ) → last_heard p i.view x.group (earlier (reverse s.records) before) ≡ o → 0 ≡ next_place o
          by None z = refl
          by (Some j) z = absurd (not_yet p x j q x.group (k.at.heard p i.view x.group j (k.at.own p x q).0 z))

      left : Attending n inc before i.view s.sessions (reverse s.records) (len_of e) (state_of s)
      left =
          record {
            me = k.at.me;
            inc_is = k.at.inc_is;
            law = k.at.law;
            others = k.at.others;
            began = k.at.began;
            own = k.at.own;
            here = k.at.here;
            heard = λ p u g j m q. stance p u g j (k.at.heard p u g j m q);
            upto = λ p x q part. upto p x q;
          }

      t : Core
      t = record s { views = views_entered s.views i; sessions = level_set s i.members; groups = map base_row bs }

      aside : (r : Happened) → Has r (happened.In s.views.me i.view i.members ∷ map (base_record t) bs) → Aside r
      aside r (inl q) = subst Aside (sym q) tt
      aside r (inr h) = let q = has_map (base_record t) r bs h in subst Aside (sym q.2) tt

      levelled : Attending n inc before i.view (level_set s i.members) (reverse s.records) (len_of e) (state_of s)
      levelled = attends_fewer n inc before i.view s.sessions (reverse s.records) (len_of e) (state_of s) (level_set s i.members) (fewer_same s.sessions (level_set s i.members) refl refl (omega arith) refl refl) left

      entered : Attending n inc before i.view d.sessions (reverse d.records) (len_of e) (state_of s)
      entered = held_records n inc before i.view (len_of e) (state_of s) (happened.In s.views.me i.view i.members ∷ map (base_record t) bs) t aside levelled

      held : Attending n inc before i.view e.sessions (reverse e.records) (len_of e) (state_of s)
      held = held_sides n inc before i.view (len_of e) (state_of s) (held_rows s) s.views.view bs d entered

      here : (p : ProviderId) (x : Provider) → provider_of e.sessions p ≡ Some x → x.takes_part ≡ true → Has p (present (state_of e x.group))
      here p x q part = by (base_named bs x.group) refl in_base
        where
          r : (row : GroupRow) × Has row (held_rows s) × (row.name ≡ x.group) × Has p (present (state_in row.list))
          r = present_row s x.group p (held.here p x q part)

          in_base : is_in_base s.views.view p (base_named bs x.group) ≡ true
          in_base =
              subst (λ z. is_in_base s.views.view p (base_named bs z) ≡ true) r.2 (rows_stay s.views.view bs p x part (held_rows s) d r.0 r.1 (sym r.2) r.3 q)

          by : (o : Option Base) → base_named bs x.group ≡ o → is_in_base s.views.view p o ≡ true → Has p (present (state_of e x.group))
          by None f z = absurd (cc)
          by (Some b) f z =
              let there : Has p (present b.state) = among_is (present b.state) p (and_parts (same_view b.from s.views.view) (among (present b.state) p) z).1 in
              subst (λ (a : GroupState). Has p (present a)) (sym (base_state e bs (stands.groups ∙ entered_groups s i bs) x.group b f)) there

  -- ---- putting and handing on

  put_lens : (s : Core) (h : List ℕ) (e : Entry) → InNameOrder s.groups → (len_of (put s h e) h ≡ len_of s h + 1) × ((g : List ℕ) → (h ≡ g → ⊥) → (len_of (put s h e) g ≡ len_of s g) × (state_of (put s h e) g ≡ state_of s g))
  unfolding put recorded len_of state_of list_of with_entry with_row row_of
  put_lens s h e o =
      let F : GroupRow → GroupRow = λ row. record row { list = Some (with_entry (list_or_new row.list) s.views.view e) } in
      (ap (λ (row : GroupRow). len_in row.list) (row_here h F (λ x. refl) s o), λ g ne. (ap (λ (row : GroupRow). len_in row.list) (row_there h F (λ x. refl) s g ne), ap (λ (row : GroupRow). state_in row.list) (row_there h F (λ x. refl) s g ne)))

  hearing_hands : (s c : Core) (h : List ℕ) (e : Entry) (bs : List (Option Filled)) → InNameOrder s.groups → Same (put s h e) c → Hearing n inc before s → Hearing n inc before (handing c h (len_of s h) (state_of s h) (state_of (put s h e) h) e bs)
  unfolding put recorded recorded_all with_sessions heard with_row len_of state_of list_of row_of
  hearing_hands s c h e bs o same k =
      record {
        me = same.me ∙ k.me;
        inc_of = same.inc ∙ k.inc_of;
        at = subst Q (λ i. (sym same.view i, sym same.sessions i, sym same.records i, (λ g. sym (same.lens g) i), (λ g. sym (same.states g) i))) first;
      }
    where
      after : GroupState
      after = state_of (put s h e) h

      Q : (ViewId × SessionState × List Happened × (List ℕ → ℕ) × (List ℕ → GroupState)) → Type 0
      Q z =
          Attending n inc before z.0 (handed_on z.1 h (state_of s h) after e bs) (reverse (z.2 ++ flat_map (heard_at z.0 h (len_of s h) e after) (casts_out z.1 h (state_of s h) after e bs))) z.3 z.4

      lens : (len_of (put s h e) h ≡ len_of s h + 1) × ((g : List ℕ) → (h ≡ g → ⊥) → (len_of (put s h e) g ≡ len_of s g) × (state_of (put s h e) g ≡ state_of s g))
      lens = put_lens s h e o

      handed : Attending n inc before s.views.view (handed_on s.sessions h (state_of s h) after e bs) (pushed (flat_map (heard_at s.views.view h (len_of s h) e after) (casts_out s.sessions h (state_of s h) after e bs)) (happened.Put n s.views.view h (len_of s h) e ∷ reverse s.records)) (len_of (put s h e)) (state_of (put s h e))
      handed = attends_handed n inc before s.views.view s.sessions (reverse s.records) (len_of s) (len_of (put s h e)) (state_of s) (state_of (put s h e)) k.at h e bs lens.0 lens.1

      rs : List Happened
      rs = flat_map (heard_at s.views.view h (len_of s h) e after) (casts_out s.sessions h (state_of s h) after e bs)

      turned : reverse ((put s h e).records ++ rs) ≡ pushed rs (happened.Put n s.views.view h (len_of s h) e ∷ reverse s.records)
      turned =
          pushed_reverse rs (put s h e).records ∙ ap (pushed rs) (reverse-append s.records (happened.Put s.views.me s.views.view h (len_of s h) e ∷ [])) ∙ ap (λ m. pushed rs (happened.Put m s.views.view h (len_of s h) e ∷ reverse s.records)) k.me

      first : Q (s.views.view, s.sessions, (put s h e).records, len_of (put s h e), state_of (put s h e))
      first = subst (λ z. Attending n inc before s.views.view (handed_on s.sessions h (state_of s h) after e bs) z (len_of (put s h e)) (state_of (put s h e))) (sym turned) handed

  -- ---- every change

  hearing_same : (s t : Core) → Same s t → Hearing n inc before s → Hearing n inc before t
  hearing_same s t same k =
      record {
        me = same.me ∙ k.me;
        inc_of = same.inc ∙ k.inc_of;
        at = subst (λ (z : ViewId × SessionState × List Happened × (List ℕ → ℕ) × (List ℕ → GroupState)). Attending n inc before z.0 z.1 (reverse z.2) z.3 z.4) (λ i. (sym same.view i, sym same.sessions i, sym same.records i, (λ g. sym (same.lens g) i), (λ g. sym (same.states g) i))) k.at;
      }

  pub hearing_does : (s t : Core) → Does s t → Hearing n inc before s → Hearing n inc before t
  unfolding recorded with_sessions len_of state_of list_of row_of provider_of
  hearing_does _ _ (Stays s t same) k = hearing_same s t same k
  hearing_does _ _ (Then s t u a b) k = hearing_does t u b (hearing_does s t a k)
  hearing_does _ _ (Records s r a) k = record { me = k.me; inc_of = k.inc_of; at = held_record n inc before s.views.view (len_of s) (state_of s) s r (inner_aside r a) k.at }
  hearing_does _ _ (Hands s c h e bs o same) k = hearing_hands s c h e bs o same k
  hearing_does _ _ (Loses s t f) k =
      record { me = k.me; inc_of = k.inc_of; at = attends_fewer n inc before s.views.view s.sessions (reverse s.records) (len_of s) (state_of s) t f k.at }
  hearing_does _ _ (Joins s t g instance attrs none) k =
      record { me = k.me; inc_of = k.inc_of; at = attends_joined n inc before s.views.view s.sessions (reverse s.records) (len_of s) (state_of s) t g instance attrs k.at }
  hearing_does _ _ (Votes s x o b found opened unkept) k =
      let t : Core = with_sessions s (keeps s.sessions x o b) in
      let a : Attending n inc before s.views.view (keeps s.sessions x o b) (reverse s.records) (len_of s) (state_of s) = attends_less n inc before s.views.view s.sessions (reverse s.records) (len_of s) (state_of s) (keeps s.sessions x o b) refl refl (omega arith) (λ p y q. q) k.at in
      record { me = k.me; inc_of = k.inc_of; at = held_record n inc before s.views.view (len_of s) (state_of s) t (happened.Cast x.provider o.proto o.phase b.vote b.value b.message) tt a }
  hearing_does _ _ (Enters s i lt none) k = hearing_enters s i lt k
