-- Each change of a step lets providers hear in order.
use Rattle.std.proofs.Common.{◌≡◌, ◌≢◌, ◌≤◌, ◌<◌, ◌⊎◌, ℕ, ◌+◌, List, [], ◌∷◌, ◌++◌, Option, Some, None, true, false, refl, sym, ap, ◌∙◌, subst, inl, inr, ⊎_elim, arith}
use Rattle.std.specs.Prelude.{reverse, map, flat_map}
use Rattle.std.proofs.lemmas.List.{reverse-append}
use Rattle.rsct_packet.specs.declared.ids.ViewId.{ViewId}
use Rattle.rsct_packet.specs.declared.ids.Member.{Member}
use Rattle.rsct_packet.specs.declared.ids.ProviderId.{ProviderId}
use Rattle.rsct_packet.specs.Ids.{same_view}
use Rattle.rsct_packet.specs.Providers.{among}
use Rattle.rsct_packet.specs.Search.{Has}
use Rattle.rsct_packet.proofs.HasLaws.{has_append, append_has_left, has_map}
use Rattle.proposal_core.specs.declared.entry.Entry.{Entry}
use Rattle.proposal_core.specs.declared.group_state.GroupState.{GroupState}
use Rattle.proposal_core.specs.Fold.{after}
use Rattle.proposal_core.specs.Lists.{list_or_new, with_entry}
use Rattle.client_callbacks.specs.declared.ballot.Filled.{Filled}
use Rattle.session_state.specs.declared.casts.Cast.{Cast}
use Rattle.session_state.specs.declared.state.Provider.{Provider}
use Rattle.session_state.specs.declared.state.SessionState.{SessionState}
use Rattle.session_state.specs.State.{provider_of}
use Rattle.session_state.specs.Calls.{new_provider, join_asked, keeps}
use Rattle.session_state.specs.HandOn.{hearers, casts_of, casts_out, handed_on}
use Rattle.view_state.specs.declared.install.Install.{Install}
use Rattle.view_state.specs.declared.install.Base.{Base}
use Rattle.view_state.specs.Bases.{bases_of}
use Rattle.view_state.specs.Views.{views_entered}
use Rattle.node_state.specs.declared.group.GroupRow.{GroupRow}
use Rattle.node_state.specs.declared.happened.Happened.{Happened}
use Rattle.node_state.specs.declared.happened.Happened.TheVariants as happened
use Rattle.node_state.specs.declared.state.Core.{Core}
use Rattle.node_state.specs.State.{InNameOrder, row_of, with_row, list_of, state_of, len_of, held_rows, recorded, recorded_all, with_sessions}
use Rattle.node_state.specs.Leading.{put}
use Rattle.node_state.specs.Applying.{base_record, view_entered, sides_dissolved}
use Rattle.run_safety.specs.ViewOrder.{Lt}
use Rattle.run_safety.specs.Past.{History, Within, earlier, records_of}
use Rattle.run_safety.specs.SafeHeard.{heard_count}
use Rattle.run_safety.specs.Stays.{Stay, stays, part}
use Rattle.node_state.proofs.NameOrder.{row_here, row_there}
use Rattle.step_refinement.proofs.SessionLaws.{cast_has}
use Rattle.row_laws.specs.hearing.Changes.{Same, Aside, Inner, Unentered, handing, voting, Does, Stays, Then, Records, Hands, Loses, Joins, Votes, Enters}
use Rattle.row_laws.proofs.hearing.Changes.{inner_aside, calm_handing}
use Rattle.row_laws.proofs.hearing.Handing.{hearer_found}
use Rattle.row_laws.proofs.hearing.Viewing.{sides_stand}
use Rattle.row_laws.proofs.hearing.Attending.{pushed, pushed_reverse, heard_at}
use Rattle.provider_laws.specs.attending.Places.{Named}
use Rattle.provider_laws.proofs.attending.Turns.{CastsAlone, within_pushed, hearers_alone, casts_alone}
use Rattle.provider_laws.proofs.attending.Staying.{Place, inner_stays, aside_count, place_fewer, place_kept, place_joined, put_there}
use Rattle.provider_laws.proofs.attending.Handed.{Order, handed_order, handed_place, all_stay, count_out}
use Rattle.provider_laws.proofs.attending.Entering.{entered_core, entered_place, other_stays, entered_count, entered_records}
use Rattle.provider_laws.proofs.attending.Doing.{AllFine, Strict, strict_does, put_recorded}
use Rattle.row_laws.proofs.hearing.Added.{Adds, does_grow, sides_add, enters_add}
use Rattle.view_state.proofs.ViewOrder.{same_view_is}
use Rattle.provider_laws.proofs.attending.Hands.{hands_keep}

-- ---- the view that was entered

-- each view that was entered in the event is the one that the node is in
abbrev pub InsAt : Core → Type 0
InsAt s = (m : ℕ) (u : ViewId) (ms : List Member) → Has (happened.In m u ms) s.records → u ≡ s.views.view

enters_ins : (s : Core) (i : Install) → ((r : Happened) → Has r s.records → Unentered r) → InsAt (sides_dissolved (view_entered s i (bases_of i)) (held_rows s) s.views.view (bases_of i))
unfolding view_entered recorded_all views_entered base_record
enters_ins s i none m u ms h =
    by (has_append r inside.records told.more (subst (Has r) told.is h)) ∙ sym (ap (λ z. z.view) (sides_stand inside (held_rows s) s.views.view bs).views)
  where
    r : Happened
    r = happened.In m u ms

    bs : List Base
    bs = bases_of i

    inside : Core
    inside = view_entered s i bs

    told : Adds Inner inside (sides_dissolved inside (held_rows s) s.views.view bs)
    told = sides_add inside (held_rows s) s.views.view bs

    view_is : r ≡ happened.In s.views.me i.view i.members → u ≡ i.view
    view_is e = cc

    later : Has r (happened.In s.views.me i.view i.members ∷ map (base_record inside) bs) → u ≡ i.view
    later (inl e) = view_is e
    later (inr k) = let q = has_map (base_record inside) r bs k in absurd (let z = q.2 in cc)

    by : Has r inside.records ⊎ Has r told.more → u ≡ i.view
    by (inl k) =
        ⊎_elim (λ (a : Has r s.records). absurd (none r a)) later (has_append r s.records (happened.In s.views.me i.view i.members ∷ map (base_record inside) bs) k)
    by (inr k) = absurd (told.all r k)

pub does_ins : (s t : Core) → Does s t → InsAt s → InsAt t
unfolding recorded with_sessions put with_row recorded_all
does_ins _ _ (Stays s t same) k m u ms h = k m u ms (subst (Has (happened.In m u ms)) same.records h) ∙ sym same.view
does_ins _ _ (Then s t u a b) k m w ms h = does_ins t u b (does_ins s t a k) m w ms h
does_ins _ _ (Records s r a) k m u ms h =
    ⊎_elim (λ (i : Has (happened.In m u ms) s.records). k m u ms i) (λ (i : Has (happened.In m u ms) (r ∷ [])). absurd (⊎_elim (λ (e : happened.In m u ms ≡ r). subst Inner (sym e) a) (λ (z : ⊥). z) i)) (has_append (happened.In m u ms) s.records (r ∷ []) h)
does_ins _ _ (Hands s c g e bs o same) k m u ms h =
    ⊎_elim (λ (i : Has (happened.In m u ms) s.records). k m u ms i ∙ sym same.view) (λ (z : Unentered (happened.In m u ms)). absurd z) (calm_handing s c g e bs same (happened.In m u ms) h)
does_ins _ _ (Loses s t f) k m u ms h = k m u ms h
does_ins _ _ (Joins s t g instance attrs none) k m u ms h = k m u ms h
does_ins _ _ (Votes s x o b found opened unkept) k m u ms h =
    let r : Happened = happened.Cast x.provider o.proto o.phase b.vote b.value b.message in
    ⊎_elim (λ (i : Has (happened.In m u ms) s.records). k m u ms i) (λ (i : Has (happened.In m u ms) (r ∷ [])). absurd (⊎_elim (λ (e : happened.In m u ms ≡ r). let z = e in cc) (λ (z : ⊥). z) i)) (has_append (happened.In m u ms) s.records (r ∷ []) h)
does_ins _ _ (Enters s i lt none) k m u ms h = enters_ins s i none m u ms h

-- ---- every change

-- v: the view at the beginning of the event; last: the number that was given last then
pub record Ordered (n inc : ℕ) (before : History) (v : ViewId) (last : ℕ) (s : Core) : Type 0 where
  pub strict : Strict n inc before s
  pub place : Place n s.views.view s.sessions (λ m g. stays m g (earlier (reverse s.records) before)) (λ p u g. heard_count p u g (earlier (reverse s.records) before)) (len_of s) (state_of s)
  pub law : Within Order (reverse s.records) before
  pub others : (m : ℕ) (g : List ℕ) → m ≢ n → stays m g (earlier (reverse s.records) before) ≡ stays m g (records_of before)
  pub counts : (p : ProviderId) (u : ViewId) (g : List ℕ) → p.node ≢ n → heard_count p u g (earlier (reverse s.records) before) ≡ heard_count p u g (records_of before)
  pub begins : ((r : Happened) → Has r s.records → Unentered r) → s.views.view ≡ v
  pub numbers : s.records ≡ [] → last ≤ s.sessions.last_request

-- a provider that is to join was not put or heard
abbrev pub Fresh : ℕ → ℕ → History → ViewId → ℕ → Type 0
Fresh n inc before v last =
    (p : ProviderId) → p.node ≡ n → p.inc ≡ inc → last < p.join → (g : List ℕ) → ((part p (stays n g (records_of before))).first ≡ None) × (heard_count p v g (records_of before) ≡ 0)

-- no provider of the node is failed in a base that comes from the view that it was in
abbrev pub Lively : ℕ → ℕ → ViewId → List Happened → Type 0
Lively n inc v rs =
    (u : ViewId) (ms : List Member) (g : List ℕ) (len : ℕ) (st : GroupState) → Has (happened.In n u ms) rs → Has (happened.Base n u g v len st) rs → Lt v u → (p : ProviderId) → p.node ≡ n → p.inc ≡ inc → among st.failed p ≡ false

pub aside_order : (now : List Happened) (before : History) (r : Happened) → Aside r → Order now before r
aside_order now before (happened.Heard p v g i e ms value) a = absurd a
aside_order now before _ a = tt

-- the node that entered is in the view
enters_at : (s : Core) (i : Install) → (sides_dissolved (view_entered s i (bases_of i)) (held_rows s) s.views.view (bases_of i)).views.view ≡ i.view
unfolding view_entered recorded_all views_entered
enters_at s i = ap (λ z. z.view) (sides_stand (view_entered s i (bases_of i)) (held_rows s) s.views.view (bases_of i)).views

filled_now : {A : Type 0} (xs : List A) (x : A) → xs ++ x ∷ [] ≡ [] → ⊥
filled_now [] x e = cc
filled_now (y ∷ xs) x e = cc

-- what an entry that is put makes of the lists
pub put_made : (s : Core) (h : List ℕ) (e : Entry) → InNameOrder s.groups → (len_of (put s h e) h ≡ len_of s h + 1) × (state_of (put s h e) h ≡ after (state_of s h) s.views.view (len_of s h) e) × ((g : List ℕ) → (h ≡ g → ⊥) → (len_of (put s h e) g ≡ len_of s g) × (state_of (put s h e) g ≡ state_of s g))
unfolding put recorded len_of state_of list_of with_entry with_row row_of
put_made s h e o =
    let F : GroupRow → GroupRow = λ row. record row { list = Some (with_entry (list_or_new row.list) s.views.view e) } in
    (ap (λ (row : GroupRow). (list_or_new row.list).len) (row_here h F (λ x. refl) s o), ap (λ (row : GroupRow). (list_or_new row.list).state) (row_here h F (λ x. refl) s o), λ g ne. (ap (λ (row : GroupRow). (list_or_new row.list).len) (row_there h F (λ x. refl) s g ne), ap (λ (row : GroupRow). (list_or_new row.list).state) (row_there h F (λ x. refl) s g ne)))

module _ (n inc : ℕ) (before : History) (v : ViewId) (last : ℕ) where
  abbrev Core_place : ViewId → SessionState → List Happened → (List ℕ → ℕ) → (List ℕ → GroupState) → Type 0
  Core_place u t rs lens states =
      Place n u t (λ m g. stays m g (earlier (reverse rs) before)) (λ p w g. heard_count p w g (earlier (reverse rs) before)) lens states

  -- what stands of a node that is in view u, with these sessions, when this was said
  abbrev Stands : ViewId → SessionState → List Happened → (List ℕ → ℕ) → (List ℕ → GroupState) → Type 0
  Stands u t now lens states =
      Place n u t (λ m g. stays m g (earlier now before)) (λ p w g. heard_count p w g (earlier now before)) lens states × Within Order now before × ((m : ℕ) (g : List ℕ) → m ≢ n → stays m g (earlier now before) ≡ stays m g (records_of before)) × ((p : ProviderId) (w : ViewId) (g : List ℕ) → p.node ≢ n → heard_count p w g (earlier now before) ≡ heard_count p w g (records_of before))

  now_hands : (s c : Core) (h : List ℕ) (e : Entry) (bs : List (Option Filled)) → InNameOrder s.groups → Same (put s h e) c → Named e → Ordered n inc before v last s → let t : Core = handing c h (len_of s h) (state_of s h) (state_of (put s h e) h) e bs in Stands t.views.view t.sessions (reverse t.records) (len_of t) (state_of t)
  unfolding casts_out
  now_hands s c h e bs o same named k = hands_keep n s c h e bs same k.strict.hearing.me Stands (place, law, others, counts)
    where
      st : GroupState
      st = state_of (put s h e) h

      made : (len_of (put s h e) h ≡ len_of s h + 1) × (state_of (put s h e) h ≡ after (state_of s h) s.views.view (len_of s h) e) × ((g : List ℕ) → (h ≡ g → ⊥) → (len_of (put s h e) g ≡ len_of s g) × (state_of (put s h e) g ≡ state_of s g))
      made = put_made s h e o

      ps : List ProviderId
      ps = hearers s.sessions h (state_of s h) e

      cs : List Cast
      cs = casts_of e st s.sessions.level ps bs

      rs : List Happened
      rs = flat_map (heard_at s.views.view h (len_of s h) e st) cs

      now : List Happened
      now = reverse s.records

      put_now : List Happened
      put_now = happened.Put n s.views.view h (len_of s h) e ∷ now

      own : (p : ProviderId) (x : Provider) → provider_of s.sessions p ≡ Some x → p.node ≡ n
      own p x q = (k.strict.hearing.at.own p x q).0

      hears : (x : Cast) → Has x cs → x.provider.node ≡ n
      hears x i = let f = hearer_found s.sessions h (state_of s h) e x.provider (cast_has e st s.sessions.level ps bs x i) in own x.provider f.0 f.1

      alone : CastsAlone cs
      alone = casts_alone e st s.sessions.level ps bs (hearers_alone s.sessions h (state_of s h) e (k.strict.alone h) named)

      place : Place n s.views.view (handed_on s.sessions h (state_of s h) st e bs) (λ m g. stays m g (earlier (pushed rs put_now) before)) (λ p u g. heard_count p u g (earlier (pushed rs put_now) before)) (len_of (put s h e)) (state_of (put s h e))
      place =
          handed_place n before s.views.view s.sessions now (len_of s) (len_of (put s h e)) (state_of s) (state_of (put s h e)) k.place h e bs made.0 made.1 made.2 own k.strict.hearing.at.here alone

      law : Within Order (pushed rs put_now) before
      law =
          handed_order n before s.views.view s.sessions now (len_of s) (len_of (put s h e)) (state_of s) (state_of (put s h e)) k.place h e bs made.0 made.1 made.2 own k.strict.hearing.at.here alone k.law

      others : (m : ℕ) (g : List ℕ) → m ≢ n → stays m g (earlier (pushed rs put_now) before) ≡ stays m g (records_of before)
      others m g ne =
          all_stay before n s.views.view h (len_of s h) e st cs put_now m g ∙ put_there n m s.views.view h g (len_of s h) e (earlier now before) (λ a b. ne (sym a)) ∙ k.others m g ne

      counts : (p : ProviderId) (w : ViewId) (g : List ℕ) → p.node ≢ n → heard_count p w g (earlier (pushed rs put_now) before) ≡ heard_count p w g (records_of before)
      counts p w g ne =
          count_out before n s.views.view h (len_of s h) e st cs put_now p w g (λ x i q. ne (ap (λ (z : ProviderId). z.node) (sym q) ∙ hears x i)) ∙ k.counts p w g ne

  hands_some : (s c : Core) (h : List ℕ) (e : Entry) (bs : List (Option Filled)) → Same (put s h e) c → (handing c h (len_of s h) (state_of s h) (state_of (put s h e) h) e bs).records ≡ [] → ⊥
  hands_some s c h e bs same q = subst (Has (happened.Put s.views.me s.views.view h (len_of s h) e)) q (put_recorded n inc before s c h e bs same)

  ordered_enters : (s : Core) (i : Install) → Lt s.views.view i.view → ((r : Happened) → Has r s.records → Unentered r) → (rs : List Happened) → ((r : Happened) → Has r (entered_core before s i).records → Has r rs) → Lively n inc v rs → Strict n inc before (entered_core before s i) → Ordered n inc before v last s → Ordered n inc before v last (entered_core before s i)
  ordered_enters s i lt none rs more lively strict k =
      record {
        strict = strict;
        place = subst (λ u. Core_place u (entered_core before s i).sessions (entered_core before s i).records (len_of (entered_core before s i)) (state_of (entered_core before s i))) (sym view_is) (entered_place before s i n inc k.strict.hearing lt k.place lives);
        law = subst (λ z. Within Order z before) (sym (ap reverse adds.is ∙ pushed_reverse adds.more s.records)) (within_pushed Order Aside aside_order adds.more (reverse s.records) before adds.all k.law);
        others = λ m g ne. other_stays before s i m g (λ z. ne (z ∙ k.strict.hearing.me)) ∙ k.others m g ne;
        counts = λ p u g ne. entered_count before s i p u g ∙ k.counts p u g ne;
        begins = λ all. absurd (all (happened.In s.views.me i.view i.members) (entered_records s i).view);
        numbers = λ q. absurd (subst (Has (happened.In s.views.me i.view i.members)) q (entered_records s i).view);
      }
    where
      adds : Adds Aside s (entered_core before s i)
      adds = enters_add s i

      view_is : (entered_core before s i).views.view ≡ i.view
      view_is = enters_at s i

      lives : (b : Base) → Has b (bases_of i) → same_view b.from s.views.view ≡ true → (p : ProviderId) → p.node ≡ n → p.inc ≡ inc → among b.state.failed p ≡ false
      lives b h e p node inc_is =
          let at : s.views.view ≡ v = k.begins none in
          let from : b.from ≡ v = same_view_is b.from s.views.view e ∙ at in
          let me : s.views.me ≡ n = k.strict.hearing.me in
          lively i.view i.members b.name b.len b.state (subst (λ m. Has (happened.In m i.view i.members) rs) me (more _ (entered_records s i).view)) (subst (λ (z : ℕ × ViewId). Has (happened.Base z.0 i.view b.name z.1 b.len b.state) rs) (λ j. (me j, from j)) (more _ ((entered_records s i).base b h))) (subst (λ z. Lt z i.view) at lt) p node inc_is

  pub ordered_does : (s t : Core) → Does s t → (rs : List Happened) → ((r : Happened) → Has r t.records → Has r rs) → AllFine rs → Lively n inc v rs → Fresh n inc before v last → Ordered n inc before v last s → Ordered n inc before v last t
  unfolding recorded recorded_all with_sessions len_of state_of list_of row_of put with_row join_asked
  ordered_does _ _ (Stays s t same) rs more fine lively fresh k =
      record {
        strict = strict_does n inc before s t (Stays s t same) (λ r h. fine r (more r h)) k.strict;
        place = subst (λ (z : ViewId × SessionState × List Happened × (List ℕ → ℕ) × (List ℕ → GroupState)). Core_place z.0 z.1 z.2 z.3 z.4) (λ i. (sym same.view i, sym same.sessions i, sym same.records i, (λ g. sym (same.lens g) i), (λ g. sym (same.states g) i))) k.place;
        law = subst (λ z. Within Order (reverse z) before) (sym same.records) k.law;
        others = λ m g ne. ap (λ z. stays m g (earlier (reverse z) before)) same.records ∙ k.others m g ne;
        counts = λ p u g ne. ap (λ z. heard_count p u g (earlier (reverse z) before)) same.records ∙ k.counts p u g ne;
        begins = λ all. same.view ∙ k.begins (λ r h. all r (subst (Has r) (sym same.records) h));
        numbers = λ q. subst (λ (z : SessionState). last ≤ z.last_request) (sym same.sessions) (k.numbers (sym same.records ∙ q));
      }
  ordered_does _ _ (Then s t u a b) rs more fine lively fresh k =
      ordered_does t u b rs more fine lively fresh (ordered_does s t a rs (λ r h. more r (does_grow t u b r h)) fine lively fresh k)
  ordered_does _ _ (Records s r a) rs more fine lively fresh k =
      let turned : reverse (s.records ++ r ∷ []) ≡ r ∷ reverse s.records = reverse-append s.records (r ∷ []) in
      record {
        strict = strict_does n inc before s (recorded s r) (Records s r a) (λ q h. fine q (more q h)) k.strict;
        place = subst (λ (z : (ℕ → List ℕ → List Stay) × (ProviderId → ViewId → List ℕ → ℕ)). Place n s.views.view s.sessions z.0 z.1 (len_of s) (state_of s)) (λ i. ((λ m g. sym (ap (λ z. stays m g (earlier z before)) turned ∙ inner_stays m g r (earlier (reverse s.records) before) a) i), (λ p u g. sym (ap (λ z. heard_count p u g (earlier z before)) turned ∙ aside_count p u g r (earlier (reverse s.records) before) (inner_aside r a)) i))) k.place;
        law = subst (λ z. Within Order z before) (sym turned) (aside_order (reverse s.records) before r (inner_aside r a), k.law);
        others = λ m g ne. ap (λ z. stays m g (earlier z before)) turned ∙ inner_stays m g r (earlier (reverse s.records) before) a ∙ k.others m g ne;
        counts = λ p u g ne. ap (λ z. heard_count p u g (earlier z before)) turned ∙ aside_count p u g r (earlier (reverse s.records) before) (inner_aside r a) ∙ k.counts p u g ne;
        begins = λ all. k.begins (λ q h. all q (append_has_left q s.records (r ∷ []) h));
        numbers = λ q. absurd (filled_now s.records r q);
      }
  ordered_does _ _ (Hands s c h e bs o same) rs more fine lively fresh k =
      let t : Core = handing c h (len_of s h) (state_of s h) (state_of (put s h e) h) e bs in
      let put_it = put_recorded n inc before s c h e bs same in
      let named : Named e = fine (happened.Put s.views.me s.views.view h (len_of s h) e) (more _ put_it) in
      let z = now_hands s c h e bs o same named k in
      record {
        strict = strict_does n inc before s t (Hands s c h e bs o same) (λ q j. fine q (more q j)) k.strict;
        place = z.0;
        law = z.1;
        others = z.2;
        counts = z.3;
        begins = λ all. same.view ∙ k.begins (λ r j. all r (does_grow s t (Hands s c h e bs o same) r j));
        numbers = λ q. absurd (hands_some s c h e bs same q);
      }
  ordered_does _ _ (Loses s t f) rs more fine lively fresh k =
      record {
        strict = strict_does n inc before s (with_sessions s t) (Loses s t f) (λ q j. fine q (more q j)) k.strict;
        place = place_fewer n s.views.view s.sessions (λ m g. stays m g (earlier (reverse s.records) before)) (λ p u g. heard_count p u g (earlier (reverse s.records) before)) (len_of s) (state_of s) t f k.place;
        law = k.law;
        others = k.others;
        counts = k.counts;
        begins = k.begins;
        numbers = λ q. let a = k.numbers q in let b = f.last in omega (arith, a, b);
      }
  ordered_does _ _ (Joins s t g instance attrs none) rs more fine lively fresh k =
      let at = k.strict.hearing.at in
      let new : ProviderId = new_provider s.sessions instance in
      let view : s.views.view ≡ v = k.begins (λ r h. absurd (subst (Has r) none h)) in
      let later : last < new.join = let a = k.numbers none in omega (arith, a) in
      let z = fresh new at.me at.inc_is later g in
      record {
        strict = strict_does n inc before s _ (Joins s t g instance attrs none) (λ q j. fine q (more q j)) k.strict;
        place = place_joined n s.views.view s.sessions (λ m g. stays m g (earlier (reverse s.records) before)) (λ p u g. heard_count p u g (earlier (reverse s.records) before)) (len_of s) (state_of s) t g instance attrs (subst (λ (y : List Happened × ViewId). ((part new (stays n g (earlier (reverse y.0) before))).first ≡ None) × (heard_count new y.1 g (earlier (reverse y.0) before) ≡ 0)) (λ i. (sym none i, sym view i)) z) k.place;
        law = k.law;
        others = k.others;
        counts = k.counts;
        begins = k.begins;
        numbers = λ q. let a = k.numbers q in omega (arith, a);
      }
  ordered_does _ _ (Votes s x o b found opened unkept) rs more fine lively fresh k =
      let r : Happened = happened.Cast x.provider o.proto o.phase b.vote b.value b.message in
      let turned : reverse (s.records ++ r ∷ []) ≡ r ∷ reverse s.records = reverse-append s.records (r ∷ []) in
      record {
        strict = strict_does n inc before s (voting s x o b) (Votes s x o b found opened unkept) (λ q h. fine q (more q h)) k.strict;
        place = subst (λ (z : (ℕ → List ℕ → List Stay) × (ProviderId → ViewId → List ℕ → ℕ)). Place n s.views.view (keeps s.sessions x o b) z.0 z.1 (len_of s) (state_of s)) (λ i. ((λ m g. sym (ap (λ z. stays m g (earlier z before)) turned) i), (λ p u g. sym (ap (λ z. heard_count p u g (earlier z before)) turned) i))) (place_kept n s.views.view s.sessions (λ m g. stays m g (earlier (reverse s.records) before)) (λ p u g. heard_count p u g (earlier (reverse s.records) before)) (len_of s) (state_of s) x o b k.place);
        law = subst (λ z. Within Order z before) (sym turned) (aside_order (reverse s.records) before r tt, k.law);
        others = λ m g ne. ap (λ z. stays m g (earlier z before)) turned ∙ k.others m g ne;
        counts = λ p u g ne. ap (λ z. heard_count p u g (earlier z before)) turned ∙ k.counts p u g ne;
        begins = λ all. k.begins (λ q h. all q (append_has_left q s.records (r ∷ []) h));
        numbers = λ q. absurd (filled_now s.records r q);
      }
  ordered_does _ _ (Enters s i lt none) rs more fine lively fresh k =
      ordered_enters s i lt none rs more lively (strict_does n inc before s _ (Enters s i lt none) (λ q j. fine q (more q j)) k.strict) k
