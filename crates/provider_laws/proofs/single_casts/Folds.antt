-- At each moment of a step a node's state of each group is what its puts make of the base of its view.
use Rattle.std.proofs.Common.{◌≡◌, ◌⊎◌, ℕ, ◌+◌, List, [], ◌∷◌, ◌++◌, length, Option, Some, Bool, true, false, refl, sym, ap, ◌∙◌, subst, inl, inr, length-append, arith}
use Rattle.std.specs.Prelude.{◌&&◌, ◌==◌, reverse, flat_map, map, if◌then◌else◌}
use Rattle.std.specs.Str.{bytes_eq}
use Rattle.std.proofs.lemmas.Bool.Decides.{nat_tests}
use Rattle.std.proofs.lemmas.List.{reverse-append}
use Rattle.rsct_packet.specs.declared.ids.ViewId.{ViewId}
use Rattle.rsct_packet.specs.declared.ids.ProviderId.{ProviderId}
use Rattle.rsct_packet.specs.Ids.{same_view}
use Rattle.rsct_packet.specs.Search.{Has}
use Rattle.proposal_core.specs.declared.entry.Entry.{Entry}
use Rattle.proposal_core.specs.Fold.{after}
use Rattle.proposal_core.specs.Lists.{list_or_new, with_entry}
use Rattle.client_callbacks.specs.declared.ballot.Filled.{Filled}
use Rattle.client_callbacks.specs.declared.told.Why.TheVariants.{Dissolved}
use Rattle.session_state.specs.HandOn.{casts_out}
use Rattle.view_state.specs.declared.install.Install.{Install}
use Rattle.view_state.specs.declared.install.Base.{Base}
use Rattle.view_state.specs.Bases.{bases_of}
use Rattle.view_state.specs.Views.{views_entered}
use Rattle.node_state.specs.declared.group.GroupRow.{GroupRow}
use Rattle.node_state.specs.declared.happened.Happened.{Happened}
use Rattle.node_state.specs.declared.happened.Happened.TheVariants as happened
use Rattle.node_state.specs.declared.state.Core.{Core}
use Rattle.node_state.specs.State.{InNameOrder, row_of, with_row, list_of, state_of, len_of, held_rows, recorded, recorded_all, with_sessions}
use Rattle.node_state.specs.HandOn.{heard}
use Rattle.node_state.specs.Leading.{put}
use Rattle.node_state.specs.Applying.{base_record, view_entered, dissolved}
use Rattle.run_safety.specs.Past.{History, earlier, is_list, puts_after, puts_of}
use Rattle.run_safety.specs.Bases.{Bases, base_state, state_of_list}
use Rattle.node_state.proofs.NameOrder.{cases_text, text_self, text_other, row_here, row_there}
use Rattle.row_laws.specs.hearing.Changes.{Inner, Same, handing, entering, Does, Stays, Then, Records, Hands, Loses, Joins, Votes, Enters}
use Rattle.row_laws.proofs.hearing.Attending.{pushed, pushed_reverse, heard_at}
use Rattle.provider_laws.proofs.attending.Sides.{sides_keep}
use Rattle.provider_laws.proofs.single_casts.Adding.{Voiced, all_voiced, does_me, between, no_entering}
use Rattle.view_state.proofs.ViewOrder.{same_view_is}
use Rattle.std.proofs.lemmas.Bool.{eq-eqb}
use Rattle.step_refinement.proofs.Puts.{fold_pushed}

-- ---- puts

inner_puts : (n : ℕ) (v : ViewId) (g : List ℕ) (r : Happened) → Inner r → (old : List Entry) → puts_after n v g r old ≡ old
inner_puts n v g (happened.Put m u h i e) a old = absurd a
inner_puts n v g _ a old = refl

voiced_puts : (n : ℕ) (v : ViewId) (g : List ℕ) (r : Happened) → Voiced r → (old : List Entry) → puts_after n v g r old ≡ old
voiced_puts n v g (happened.Heard p u h i e ms value) a old = refl
voiced_puts n v g (happened.Cast p proto phase vote value message) a old = refl
voiced_puts n v g _ a old = absurd a

pushed_puts : (n : ℕ) (v : ViewId) (g : List ℕ) (before : History) (rs now : List Happened) → ((r : Happened) → Has r rs → Voiced r) → puts_of n v g (earlier (pushed rs now) before) ≡ puts_of n v g (earlier now before)
pushed_puts n v g before [] now k = refl
pushed_puts n v g before (r ∷ rs) now k =
    pushed_puts n v g before rs (r ∷ now) (λ q i. k q (inr i)) ∙ voiced_puts n v g r (k r (inl refl)) (puts_of n v g (earlier now before))

abbrev pub puts_at : ℕ → ViewId → List ℕ → History → Core → List Entry
puts_at n v g before c = puts_of n v g (earlier (reverse c.records) before)

-- the puts of a view after an entry was put and handed on
hands_puts : (n : ℕ) (u : ViewId) (g : List ℕ) (before : History) (s c : Core) (h : List ℕ) (e : Entry) (bs : List (Option Filled)) → Same (put s h e) c → puts_at n u g before (handing c h (len_of s h) (state_of s h) (state_of (put s h e) h) e bs) ≡ puts_after n u g (happened.Put s.views.me s.views.view h (len_of s h) e) (puts_at n u g before s)
unfolding put recorded recorded_all with_sessions heard with_row
hands_puts n u g before s c h e bs same =
    ap (λ z. puts_of n u g (earlier (reverse (z ++ rs)) before)) same.records ∙ ap (λ z. puts_of n u g (earlier z before)) turned ∙ pushed_puts n u g before rs (happened.Put s.views.me s.views.view h (len_of s h) e ∷ reverse s.records) (λ r k. all_voiced c.views.view h (len_of s h) e (state_of (put s h e) h) (casts_out c.sessions h (state_of s h) (state_of (put s h e) h) e bs) r k)
  where
    rs : List Happened
    rs = flat_map (heard_at c.views.view h (len_of s h) e (state_of (put s h e) h)) (casts_out c.sessions h (state_of s h) (state_of (put s h e) h) e bs)

    turned : reverse ((put s h e).records ++ rs) ≡ pushed rs (happened.Put s.views.me s.views.view h (len_of s h) e ∷ reverse s.records)
    turned = pushed_reverse rs (put s h e).records ∙ ap (pushed rs) (reverse-append s.records (happened.Put s.views.me s.views.view h (len_of s h) e ∷ []))

-- of another view nothing is put
pub others_puts : (n : ℕ) (u : ViewId) (g : List ℕ) (before : History) (s t : Core) → Does s t → t.views.view ≡ s.views.view → (s.views.view ≡ u → ⊥) → puts_at n u g before t ≡ puts_at n u g before s
unfolding recorded with_sessions
others_puts n u g before _ _ (Stays s t same) q ne = ap (λ z. puts_of n u g (earlier (reverse z) before)) same.records
others_puts n u g before _ _ (Then s t w a b) q ne =
    let m : t.views.view ≡ s.views.view = between s t w a b q in
    others_puts n u g before t w b (q ∙ sym m) (λ z. ne (sym m ∙ z)) ∙ others_puts n u g before s t a m ne
others_puts n u g before _ _ (Records s r a) q ne =
    ap (λ z. puts_of n u g (earlier z before)) (reverse-append s.records (r ∷ [])) ∙ inner_puts n u g r a (puts_at n u g before s)
others_puts n u g before _ _ (Hands s c h e bs o same) q ne =
    hands_puts n u g before s c h e bs same ∙ by (s.views.me == n) (same_view s.views.view u) (bytes_eq h g) refl
  where
    by : (a b d : Bool) → same_view s.views.view u ≡ b → (if a && (b && d) then puts_at n u g before s ++ e ∷ [] else puts_at n u g before s) ≡ puts_at n u g before s
    by a true d z = absurd (ne (same_view_is s.views.view u z))
    by true false d z = refl
    by false false d z = refl
others_puts n u g before _ _ (Loses s t f) q ne = refl
others_puts n u g before _ _ (Joins s t h instance attrs none) q ne = refl
others_puts n u g before _ _ (Votes s x o b found opened unkept) q ne = ap (λ z. puts_of n u g (earlier z before)) (reverse-append s.records (happened.Cast x.provider o.proto o.phase b.vote b.value b.message ∷ []))
others_puts n u g before _ _ (Enters s i lt none) q ne = absurd (no_entering s i lt q)

-- nor as a view is entered
pub entering_puts : (n : ℕ) (u : ViewId) (g : List ℕ) (before : History) (s : Core) (i : Install) → puts_at n u g before (entering s i) ≡ puts_at n u g before s
unfolding view_entered views_entered recorded_all base_record dissolved recorded with_sessions
entering_puts n u g before s i = sides_keep (λ c. puts_at n u g before c ≡ puts_at n u g before s) tells (held_rows s) s.views.view bs (view_entered s i bs) first
  where
    bs : List Base
    bs = bases_of i

    tells : (c : Core) (p : ProviderId) (r : ℕ) → puts_at n u g before c ≡ puts_at n u g before s → puts_at n u g before (dissolved c p r) ≡ puts_at n u g before s
    tells c p r k = ap (λ z. puts_of n u g (earlier z before)) (reverse-append c.records (happened.Told p r Dissolved ∷ [])) ∙ k

    all : (xs : List Base) (now : List Happened) → puts_of n u g (earlier (pushed (map (λ (b : Base). happened.Base s.views.me i.view b.name b.from b.len b.state) xs) now) before) ≡ puts_of n u g (earlier now before)
    all [] now = refl
    all (b ∷ xs) now = all xs (happened.Base s.views.me i.view b.name b.from b.len b.state ∷ now)

    first : puts_at n u g before (view_entered s i bs) ≡ puts_at n u g before s
    first =
        ap (λ z. puts_of n u g (earlier z before)) (pushed_reverse (happened.In s.views.me i.view i.members ∷ map (λ (b : Base). happened.Base s.views.me i.view b.name b.from b.len b.state) bs) s.records) ∙ all bs (happened.In s.views.me i.view i.members ∷ reverse s.records)

-- ---- states

pub record Folded (bases : Bases) (n : ℕ) (before : History) (g : List ℕ) (c : Core) : Type 0 where
  pub state : state_of c g ≡ state_of_list bases c.views.view (puts_at n c.views.view g before c)
  pub len : len_of c g ≡ length (puts_at n c.views.view g before c)

pub put_state : (s : Core) (h : List ℕ) (e : Entry) → InNameOrder s.groups → ((state_of (put s h e) h ≡ after (state_of s h) s.views.view (len_of s h) e) × (len_of (put s h e) h ≡ len_of s h + 1)) × ((g : List ℕ) → (h ≡ g → ⊥) → (state_of (put s h e) g ≡ state_of s g) × (len_of (put s h e) g ≡ len_of s g))
unfolding put recorded len_of state_of list_of with_entry with_row row_of
put_state s h e o =
    let F : GroupRow → GroupRow = λ row. record row { list = Some (with_entry (list_or_new row.list) s.views.view e) } in (
      (ap (λ (row : GroupRow). (list_or_new row.list).state) (row_here h F (λ x. refl) s o), ap (λ (row : GroupRow). (list_or_new row.list).len) (row_here h F (λ x. refl) s o)),
      λ g ne. (ap (λ (row : GroupRow). (list_or_new row.list).state) (row_there h F (λ x. refl) s g ne), ap (λ (row : GroupRow). (list_or_new row.list).len) (row_there h F (λ x. refl) s g ne)),
    )

-- handing on leaves the lists as they were put
handing_view : (s c : Core) (h : List ℕ) (e : Entry) (bs : List (Option Filled)) → Same (put s h e) c → (handing c h (len_of s h) (state_of s h) (state_of (put s h e) h) e bs).views.view ≡ s.views.view
unfolding put recorded recorded_all with_sessions with_row
handing_view s c h e bs same = same.view

handing_states : (s c : Core) (h : List ℕ) (e : Entry) (bs : List (Option Filled)) → Same (put s h e) c → (g : List ℕ) → (state_of (handing c h (len_of s h) (state_of s h) (state_of (put s h e) h) e bs) g ≡ state_of (put s h e) g) × (len_of (handing c h (len_of s h) (state_of s h) (state_of (put s h e) h) e bs) g ≡ len_of (put s h e) g)
unfolding state_of len_of list_of row_of recorded_all with_sessions
handing_states s c h e bs same g = (same.states g, same.lens g)

module _ (bases : Bases) (n : ℕ) (before : History) (g : List ℕ) where
  own_list : (v : ViewId) (h : List ℕ) → (h ≡ g) → is_list n v g n v h ≡ true
  own_list v h same = subst (λ z. is_list n v g n v z ≡ true) (sym same) (λ k. eq-eqb n n refl k && (view v k && text_self g k))
    where
      view : (a : ViewId) → same_view a a ≡ true
      view a = grind (arith, nat_tests)

  other_list : (v : ViewId) (h : List ℕ) → (h ≡ g → ⊥) → is_list n v g n v h ≡ false
  other_list v h ne = ap (λ b. n == n && (same_view v v && b)) (text_other h g ne) ∙ by (n == n) (same_view v v)
    where
      by : (a b : Bool) → (a && (b && false)) ≡ false
      by true true = refl
      by true false = refl
      by false b = refl

  folded_hands : (s c : Core) (h : List ℕ) (e : Entry) (bs : List (Option Filled)) → InNameOrder s.groups → Same (put s h e) c → s.views.me ≡ n → Folded bases n before g s → Folded bases n before g (handing c h (len_of s h) (state_of s h) (state_of (put s h e) h) e bs)
  folded_hands s c h e bs o same me k = by (cases_text h g)
    where
      t : Core
      t = handing c h (len_of s h) (state_of s h) (state_of (put s h e) h) e bs

      v : ViewId
      v = s.views.view

      old : List Entry
      old = puts_at n v g before s

      from_zero : (m : ℕ) → m ≡ 0 + m
      from_zero m = omega arith

      view : t.views.view ≡ v
      view = handing_view s c h e bs same

      states : state_of t g ≡ state_of (put s h e) g
      states = (handing_states s c h e bs same g).0

      lens : len_of t g ≡ len_of (put s h e) g
      lens = (handing_states s c h e bs same g).1

      now : (b : Bool) → is_list n v g n v h ≡ b → puts_at n v g before t ≡ (if b then old ++ e ∷ [] else old)
      now b q =
          hands_puts n v g before s c h e bs same ∙ ap (λ m. puts_after n v g (happened.Put m v h (len_of s h) e) old) me ∙ ap (λ z. if z then old ++ e ∷ [] else old) q

      with : (es : List Entry) → puts_at n v g before t ≡ es → state_of t g ≡ state_of_list bases v es → len_of t g ≡ length es → Folded bases n before g t
      with es puts state len =
          record {
            state = state ∙ ap (state_of_list bases v) (sym puts) ∙ ap (λ z. state_of_list bases z (puts_at n z g before t)) (sym view);
            len = len ∙ ap length (sym puts) ∙ ap (λ z. length (puts_at n z g before t)) (sym view);
          }

      by : (h ≡ g) ⊎ (h ≡ g → ⊥) → Folded bases n before g t
      by (inr ne) =
          let p = (put_state s h e o).1 g ne in with old (now false (other_list v h ne)) (states ∙ p.0 ∙ k.state) (lens ∙ p.1 ∙ k.len)
      by (inl q) =
          let p = (put_state s h e o).0 in
          let here : state_of (put s h e) g ≡ after (state_of s g) v (len_of s g) e = subst (λ z. state_of (put s h e) z ≡ after (state_of s z) v (len_of s z) e) q p.0 in
          let longer : len_of (put s h e) g ≡ len_of s g + 1 = subst (λ z. len_of (put s h e) z ≡ len_of s z + 1) q p.1 in
          with (old ++ e ∷ []) (now true (own_list v h q)) (states ∙ here ∙ (λ i. after (k.state i) v (k.len i) e) ∙ ap (λ m. after (state_of_list bases v old) v m e) (from_zero (length old)) ∙ sym (fold_pushed v old (base_state (bases v)) 0 e)) (lens ∙ longer ∙ ap (λ m. m + 1) k.len ∙ sym (length-append old (e ∷ [])))

  -- within a view
  pub folded_does : (s t : Core) → Does s t → t.views.view ≡ s.views.view → s.views.me ≡ n → Folded bases n before g s → Folded bases n before g t
  unfolding recorded with_sessions len_of state_of list_of row_of
  folded_does _ _ (Stays s t same) q me k =
      record {
        state = same.states g ∙ k.state ∙ (λ i. state_of_list bases (sym same.view i) (puts_of n (sym same.view i) g (earlier (reverse (sym same.records i)) before)));
        len = same.lens g ∙ k.len ∙ (λ i. length (puts_of n (sym same.view i) g (earlier (reverse (sym same.records i)) before)));
      }
  folded_does _ _ (Then s t u a b) q me k =
      let m : t.views.view ≡ s.views.view = between s t u a b q in
      folded_does t u b (q ∙ sym m) (does_me s t a ∙ me) (folded_does s t a m me k)
  folded_does _ _ (Records s r a) q me k =
      let same : puts_at n s.views.view g before s ≡ puts_at n s.views.view g before (recorded s r) = sym (ap (λ z. puts_of n s.views.view g (earlier z before)) (reverse-append s.records (r ∷ [])) ∙ inner_puts n s.views.view g r a (puts_at n s.views.view g before s)) in
      record { state = k.state ∙ ap (state_of_list bases s.views.view) same; len = k.len ∙ ap length same }
  folded_does _ _ (Hands s c h e bs o same) q me k = folded_hands s c h e bs o same me k
  folded_does _ _ (Loses s t f) q me k = record { state = k.state; len = k.len }
  folded_does _ _ (Joins s t h instance attrs none) q me k = record { state = k.state; len = k.len }
  folded_does _ _ (Votes s x o b found opened unkept) q me k =
      let same : puts_at n s.views.view g before s ≡ puts_at n s.views.view g before (recorded s (happened.Cast x.provider o.proto o.phase b.vote b.value b.message)) = sym (ap (λ z. puts_of n s.views.view g (earlier z before)) (reverse-append s.records (happened.Cast x.provider o.proto o.phase b.vote b.value b.message ∷ []))) in
      record { state = k.state ∙ ap (state_of_list bases s.views.view) same; len = k.len ∙ ap length same }
  folded_does _ _ (Enters s i lt none) q me k = absurd (no_entering s i lt q)
