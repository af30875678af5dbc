-- An entry that was put is handed on: each hears in order, and stands where its node's stay has it.
use Rattle.std.proofs.Common.{◌≡◌, ◌≤◌, ◌⊎◌, ℕ, ◌+◌, List, [], ◌∷◌, length, Option, Some, None, Bool, true, false, refl, sym, ap, ◌∙◌, subst, inl, inr, ⊎_elim, arith}
use Rattle.std.specs.Prelude.{not, flat_map, IsTrue, if◌then◌else◌}
use Rattle.std.proofs.lemmas.Bool.{eq-eqb}
use Rattle.rsct_packet.specs.declared.ids.ViewId.{ViewId}
use Rattle.rsct_packet.specs.declared.ids.ProviderId.{ProviderId}
use Rattle.rsct_packet.specs.declared.ids.ProtoId.{ProtoId}
use Rattle.rsct_packet.specs.Providers.{among}
use Rattle.rsct_packet.specs.Search.{Has}
use Rattle.proposal_core.specs.declared.entry.Entry.{Entry}
use Rattle.proposal_core.specs.declared.group_state.GroupState.{GroupState}
use Rattle.proposal_core.specs.Fold.{after, present}
use Rattle.client_callbacks.specs.declared.ballot.Filled.{Filled}
use Rattle.client_callbacks.specs.Ballots.{BallotView}
use Rattle.session_state.specs.declared.casts.Cast.{Cast}
use Rattle.session_state.specs.declared.state.Provider.{Provider}
use Rattle.session_state.specs.declared.state.SessionState.{SessionState}
use Rattle.session_state.specs.State.{provider_of}
use Rattle.session_state.specs.HandOn.{beginners, hearers, casts_of, handed_on}
use Rattle.node_state.specs.declared.happened.Happened.{Happened}
use Rattle.node_state.specs.declared.happened.Happened.TheVariants as happened
use Rattle.node_state.specs.HandOn.{cast_records}
use Rattle.run_safety.specs.Past.{History, Within, earlier, fold_from}
use Rattle.run_safety.specs.SafeHeard.{heard_count, is_after, InOrder}
use Rattle.run_safety.specs.Stays.{Stay, stays, is_join_of, part, takes_part}
use Rattle.node_state.proofs.NameOrder.{cases_text}
use Rattle.step_refinement.proofs.SessionLaws.{cast_has}
use Rattle.row_laws.proofs.hearing.Handing.{Kept, has_among, handed_kept, handed_begun, handed_present, hearer_found, present_hears, new_hears, some_is}
use Rattle.row_laws.proofs.hearing.Attending.{pushed, pushed_append, heard_at, has_cast}
use Rattle.provider_laws.proofs.attending.Parts.{pushed_stay, part_goes, part_joins, part_waits, takes_at}
use Rattle.provider_laws.proofs.attending.Turns.{CastsAlone, begins_by_join, casts_keep}
use Rattle.provider_laws.proofs.attending.Staying.{InStay, Takes, Place, count_own, count_other, count_apart, begins_waits, join_begins, put_here, put_there, stay_pushed}

abbrev pub Order : List Happened → History → Happened → Type 0
Order now before r = InOrder (earlier now before) r

-- ---- one after another

module _ (before : History) (n : ℕ) (v : ViewId) (h : List ℕ) (i : ℕ) (e : Entry) (st : GroupState) where
  abbrev heards : List Cast → List Happened → List Happened
  heards cs now = pushed (flat_map (heard_at v h i e st) cs) now

  casts_stay : (p : ProviderId) (o : Option (ProtoId × ℕ × BallotView)) (now : List Happened) (m : ℕ) (g : List ℕ) → stays m g (earlier (pushed (cast_records p o) now) before) ≡ stays m g (earlier now before)
  casts_stay p o now m g = casts_keep (λ z. stays m g (earlier z before) ≡ stays m g (earlier now before)) (λ w proto phase b z k. k) p o now refl

  casts_count : (p : ProviderId) (o : Option (ProtoId × ℕ × BallotView)) (now : List Happened) (q : ProviderId) (u : ViewId) (g : List ℕ) → heard_count q u g (earlier (pushed (cast_records p o) now) before) ≡ heard_count q u g (earlier now before)
  casts_count p o now q u g = casts_keep (λ z. heard_count q u g (earlier z before) ≡ heard_count q u g (earlier now before)) (λ w proto phase b z k. k) p o now refl

  abbrev one_heard : Cast → List Happened → List Happened
  one_heard c now = pushed (cast_records c.provider c.cast) (happened.Heard c.provider v h i e st.members st.value ∷ now)

  split : (c : Cast) (cs : List Cast) (now : List Happened) → heards (c ∷ cs) now ≡ heards cs (one_heard c now)
  split c cs now = pushed_append (heard_at v h i e st c) (flat_map (heard_at v h i e st) cs) now

  pub all_stay : (cs : List Cast) (now : List Happened) (m : ℕ) (g : List ℕ) → stays m g (earlier (heards cs now) before) ≡ stays m g (earlier now before)
  all_stay [] now m g = refl
  all_stay (c ∷ cs) now m g =
      ap (λ z. stays m g (earlier z before)) (split c cs now) ∙ all_stay cs (one_heard c now) m g ∙ casts_stay c.provider c.cast (happened.Heard c.provider v h i e st.members st.value ∷ now) m g

  one_out : (c : Cast) (now : List Happened) (p : ProviderId) (u : ViewId) (g : List ℕ) → (c.provider ≡ p → ⊥) → heard_count p u g (earlier (one_heard c now) before) ≡ heard_count p u g (earlier now before)
  one_out c now p u g ne =
      casts_count c.provider c.cast (happened.Heard c.provider v h i e st.members st.value ∷ now) p u g ∙ count_other p u g c.provider v h i e st.members st.value (earlier now before) ne

  pub count_out : (cs : List Cast) (now : List Happened) (p : ProviderId) (u : ViewId) (g : List ℕ) → ((c : Cast) → Has c cs → c.provider ≡ p → ⊥) → heard_count p u g (earlier (heards cs now) before) ≡ heard_count p u g (earlier now before)
  count_out [] now p u g ne = refl
  count_out (c ∷ cs) now p u g ne =
      ap (λ z. heard_count p u g (earlier z before)) (split c cs now) ∙ count_out cs (one_heard c now) p u g (λ d j. ne d (inr j)) ∙ one_out c now p u g (ne c (inl refl))

  pub count_far : (cs : List Cast) (now : List Happened) (p : ProviderId) (u : ViewId) (g : List ℕ) → (h ≡ g → ⊥) → heard_count p u g (earlier (heards cs now) before) ≡ heard_count p u g (earlier now before)
  count_far [] now p u g ne = refl
  count_far (c ∷ cs) now p u g ne =
      ap (λ z. heard_count p u g (earlier z before)) (split c cs now) ∙ count_far cs (one_heard c now) p u g ne ∙ casts_count c.provider c.cast (happened.Heard c.provider v h i e st.members st.value ∷ now) p u g ∙ count_apart p u g c.provider v h i e st.members st.value (earlier now before) ne

  pub count_in : (cs : List Cast) (now : List Happened) (p : ProviderId) → CastsAlone cs → (c : Cast) → Has c cs → c.provider ≡ p → heard_count p v h (earlier (heards cs now) before) ≡ heard_count p v h (earlier now before) + 1
  count_in [] now p alone c j is = absurd j
  count_in (d ∷ cs) now p alone c (inl q) is =
      let at : d.provider ≡ p = ap (λ (z : Cast). z.provider) (sym q) ∙ is in
      ap (λ z. heard_count p v h (earlier z before)) (split d cs now) ∙ count_out cs (one_heard d now) p v h (λ x j z. alone.0 x j (z ∙ sym at)) ∙ casts_count d.provider d.cast (happened.Heard d.provider v h i e st.members st.value ∷ now) p v h ∙ subst (λ z. heard_count z v h (happened.Heard d.provider v h i e st.members st.value ∷ earlier now before) ≡ heard_count z v h (earlier now before) + 1) at (count_own d.provider v h i e st.members st.value (earlier now before))
  count_in (d ∷ cs) now p alone c (inr j) is =
      ap (λ z. heard_count p v h (earlier z before)) (split d cs now) ∙ count_in cs (one_heard d now) p alone.1 c j is ∙ ap (λ z. z + 1) (one_out d now p v h (λ z. alone.0 c j (is ∙ sym z)))

  -- a provider that is to hear the entry, where its node's stays are xs
  pub record Ready (xs : List Stay) (p : ProviderId) (count : ℕ) : Type 0 where
    pub node : p.node ≡ n
    pub first : ℕ
    pub is : (part p xs).first ≡ Some first
    pub takes : IsTrue (takes_part i (part p xs))
    pub next : i ≡ first + count

  pub all_order : (xs : List Stay) (cs : List Cast) (now : List Happened) → stays n h (earlier now before) ≡ xs → Within Order now before → ((c : Cast) → Has c cs → Ready xs c.provider (heard_count c.provider v h (earlier now before))) → CastsAlone cs → Within Order (heards cs now) before
  all_order xs [] now at k ready alone = k
  all_order xs (c ∷ cs) now at k ready alone =
      let heard : List Happened = happened.Heard c.provider v h i e st.members st.value ∷ now in
      let r = ready c (inl refl) in
      let law : Within Order (one_heard c now) before = casts_keep (λ z. Within Order z before) (λ w proto phase b z i. (tt, i)) c.provider c.cast heard (one r, k) in
      subst (λ z. Within Order z before) (sym (split c cs now)) (all_order xs cs (one_heard c now) (casts_stay c.provider c.cast heard n h ∙ at) law (λ d j. subst (Ready xs d.provider) (sym (one_out c now d.provider v h (λ z. alone.0 d j (sym z)))) (ready d (inr j))) alone.1)
    where
      there : c.provider.node ≡ n → stays (c.provider).node h (earlier now before) ≡ xs
      there node = ap (λ m. stays m h (earlier now before)) node ∙ at

      one : Ready xs c.provider (heard_count c.provider v h (earlier now before)) → IsTrue (is_after (heard_count c.provider v h (earlier now before)) (part c.provider (stays (c.provider).node h (earlier now before))).first i) × IsTrue (takes_part i (part c.provider (stays (c.provider).node h (earlier now before))))
      one r =
          (ap (λ o. is_after (heard_count c.provider v h (earlier now before)) o i) (ap (λ z. (part c.provider z).first) (there r.node) ∙ r.is) ∙ eq-eqb i (r.first + heard_count c.provider v h (earlier now before)) r.next, subst (λ z. IsTrue (takes_part i (part c.provider z))) (sym (there r.node)) r.takes)

-- ---- the whole

module _ (n : ℕ) (before : History) (v : ViewId) (t : SessionState) (now : List Happened) (lens lens' : List ℕ → ℕ) (states states' : List ℕ → GroupState) (k : Place n v t (λ m g. stays m g (earlier now before)) (λ p u g. heard_count p u g (earlier now before)) lens states) (h : List ℕ) (e : Entry) (bs : List (Option Filled)) (more : lens' h ≡ lens h + 1) (made : states' h ≡ after (states h) v (lens h) e) (same : (g : List ℕ) → (h ≡ g → ⊥) → (lens' g ≡ lens g) × (states' g ≡ states g)) (own : (p : ProviderId) (x : Provider) → provider_of t p ≡ Some x → p.node ≡ n) (attends : (p : ProviderId) (x : Provider) → provider_of t p ≡ Some x → x.takes_part ≡ true → Has p (present (states x.group))) (alone : CastsAlone (casts_of e (states' h) t.level (hearers t h (states h) e) bs)) where
  abbrev i : ℕ
  i = lens h

  abbrev st : GroupState
  st = states' h

  abbrev cs : List Cast
  cs = casts_of e st t.level (hearers t h (states h) e) bs

  abbrev put_now : List Happened
  put_now = happened.Put n v h i e ∷ now

  abbrev after_now : List Happened
  after_now = pushed (flat_map (heard_at v h i e st) cs) put_now

  old : InStay v (stays n h (earlier now before)) (lens h) (states h)
  old = k.stay h

  abbrev xs : List Stay
  xs = pushed_stay old.now e ∷ old.older

  here : stays n h (earlier put_now before) ≡ xs
  here = put_here n v h i e (earlier now before) old.now old.older old.is

  state_is : after (fold_from old.now.view old.now.base 0 old.now.entries) old.now.view (length old.now.entries) e ≡ st
  state_is =
      ap (λ u. after (fold_from u old.now.base 0 old.now.entries) u (length old.now.entries) e) old.view ∙ (λ j. after (old.state j) v (old.len_is j) e) ∙ sym made

  abbrev Last : ProviderId → Option ℕ
  Last p = if not (among (present (after (fold_from old.now.view old.now.base 0 old.now.entries) old.now.view (length old.now.entries) e)) p) then Some (length old.now.entries) else None

  -- who took part keeps its first place
  goes : (p : ProviderId) (x : Provider) → provider_of t p ≡ Some x → x.takes_part ≡ true → x.group ≡ h → (f : ℕ) × ((part p xs).first ≡ Some f) × ((part p xs).last ≡ Last p) × (i ≡ f + heard_count p v h (earlier now before))
  goes p x found take group =
      let z : Takes (part p (stays n h (earlier now before))) (lens h) (heard_count p v h (earlier now before)) = subst (λ g. Takes (part p (stays n g (earlier now before))) (lens g) (heard_count p v g (earlier now before))) group (k.taking p x found take) in
      let first : (part p (old.now ∷ old.older)).first ≡ Some z.first = ap (λ a. (part p a).first) (sym old.is) ∙ z.is in
      let last : (part p (old.now ∷ old.older)).last ≡ None = ap (λ a. (part p a).last) (sym old.is) ∙ z.last in
      let le : z.first ≤ length old.now.entries = let a = z.len_is in let b = old.len_is in omega arith in
      let r = part_goes p old.now old.older e z.first first last le in (z.first, r.0, r.1, z.len_is)

  -- who begins gets one
  begins : (p : ProviderId) → Has p (beginners t h e) → ((part p xs).first ≡ Some i) × ((part p xs).last ≡ Last p) × (heard_count p v h (earlier now before) ≡ 0)
  begins p a =
      let f = hearer_found t h (states h) e p (new_hears t h (states h) e p a) in by f.0 f.1 f.2 ((f.0).takes_part) refl
    where
      by : (x : Provider) → provider_of t p ≡ Some x → x.group ≡ h → (b : Bool) → x.takes_part ≡ b → ((part p xs).first ≡ Some i) × ((part p xs).last ≡ Last p) × (heard_count p v h (earlier now before) ≡ 0)
      by x found group true take = absurd (begins_waits t h e p a x found take)
      by x found group false wait =
          let z : ((part p (stays n h (earlier now before))).first ≡ None) × (heard_count p v h (earlier now before) ≡ 0) = subst (λ g. ((part p (stays n g (earlier now before))).first ≡ None) × (heard_count p v g (earlier now before) ≡ 0)) group (k.waiting p x found wait) in
          let r = part_joins p old.now old.older e (ap (λ q. (part p q).first) (sym old.is) ∙ z.0) (begins_by_join t h e p a) in
          (r.0 ∙ ap (λ m. Some m) old.len_is, r.1, z.1)

  last_or : (p : ProviderId) → (part p xs).last ≡ Last p → ((part p xs).last ≡ None) ⊎ ((part p xs).last ≡ Some i)
  last_or p q = by (not (among (present (after (fold_from old.now.view old.now.base 0 old.now.entries) old.now.view (length old.now.entries) e)) p)) refl
    where
      by : (b : Bool) → not (among (present (after (fold_from old.now.view old.now.base 0 old.now.entries) old.now.view (length old.now.entries) e)) p) ≡ b → ((part p xs).last ≡ None) ⊎ ((part p xs).last ≡ Some i)
      by true r = inr (q ∙ ap (λ b. if b then Some (length old.now.entries) else None) r ∙ ap (λ m. Some m) old.len_is)
      by false r = inl (q ∙ ap (λ b. if b then Some (length old.now.entries) else None) r)

  ready : (p : ProviderId) → Has p (hearers t h (states h) e) → Ready before n v h i e st xs p (heard_count p v h (earlier put_now before))
  ready p a =
      let f = hearer_found t h (states h) e p a in
      ⊎_elim (λ (take : (f.0).takes_part ≡ true). let z = goes p f.0 f.1 take f.2 in record { node = own p f.0 f.1; first = z.0; is = z.1; takes = takes_at (part p xs) z.0 i z.1 (let q = z.3 in omega arith) (last_or p z.2); next = z.3 }) (λ (b : Has p (beginners t h e)). let z = begins p b in record { node = own p f.0 f.1; first = i; is = z.0; takes = takes_at (part p xs) i i z.0 (omega arith) (last_or p z.1); next = let q = z.2 in omega arith }) f.3

  pub handed_order : Within Order now before → Within Order after_now before
  handed_order law =
      all_order before n v h i e st xs cs put_now here (tt, law) (λ c j. ready c.provider (cast_has e st t.level (hearers t h (states h) e) bs c j)) alone

  stays_now : (g : List ℕ) → stays n g (earlier after_now before) ≡ stays n g (earlier put_now before)
  stays_now g = all_stay before n v h i e st cs put_now n g

  heard_now : (p : ProviderId) → Has p (hearers t h (states h) e) → heard_count p v h (earlier after_now before) ≡ heard_count p v h (earlier now before) + 1
  heard_now p a =
      let c = has_cast e st t.level (hearers t h (states h) e) bs p a in
      count_in before n v h i e st cs put_now p alone c.0 c.1 c.2

  gone_none : (p : ProviderId) → Has p (present st) → Last p ≡ None
  gone_none p a =
      ap (λ (z : GroupState). if not (among (present z) p) then Some (length old.now.entries) else None) state_is ∙ ap (λ b. if not b then Some (length old.now.entries) else None) (has_among (present st) p a)

  abbrev w : SessionState
  w = handed_on t h (states h) st e bs

  abbrev Taking : ProviderId → List ℕ → Type 0
  Taking p g = Takes (part p (stays n g (earlier after_now before))) (lens' g) (heard_count p v g (earlier after_now before))

  abbrev Waiting : ProviderId → List ℕ → Type 0
  Waiting p g = ((part p (stays n g (earlier after_now before))).first ≡ None) × (heard_count p v g (earlier after_now before) ≡ 0)

  there : (p : ProviderId) (g : List ℕ) → (h ≡ g → ⊥) → (stays n g (earlier after_now before) ≡ stays n g (earlier now before)) × (heard_count p v g (earlier after_now before) ≡ heard_count p v g (earlier now before))
  there p g ne = (stays_now g ∙ put_there n n v h g i e (earlier now before) (λ a b. ne b), count_far before n v h i e st cs put_now p v g ne)

  takes_here : (p : ProviderId) (y : Provider) → provider_of w p ≡ Some y → Has p (hearers t h (states h) e) → (f : ℕ) → (part p xs).first ≡ Some f → (part p xs).last ≡ Last p → i ≡ f + heard_count p v h (earlier now before) → Taking p h
  takes_here p y q a f first last len =
      let at : stays n h (earlier after_now before) ≡ xs = stays_now h ∙ here in
      record {
        first = f;
        is = ap (λ z. (part p z).first) at ∙ first;
        last = ap (λ z. (part p z).last) at ∙ last ∙ gone_none p (handed_present t h (states h) st e bs p a y q);
        len_is = let b = heard_now p a in omega (arith, more, len, b);
      }

  kept : Kept (beginners t h e) t w
  kept = handed_kept t h (states h) st e bs

  pub handed_place : Place n v w (λ m g. stays m g (earlier after_now before)) (λ p u g. heard_count p u g (earlier after_now before)) lens' states'
  handed_place = record { stay = stay; taking = taking; waiting = waiting }
    where
      stay : (g : List ℕ) → InStay v (stays n g (earlier after_now before)) (lens' g) (states' g)
      stay g = by (cases_text h g)
        where
          by : (h ≡ g) ⊎ (h ≡ g → ⊥) → InStay v (stays n g (earlier after_now before)) (lens' g) (states' g)
          by (inl q) =
              subst (λ z. InStay v (stays n z (earlier after_now before)) (lens' z) (states' z)) q (subst (λ (z : List Stay × ℕ × GroupState). InStay v z.0 z.1 z.2) (λ j. (sym (stays_now h ∙ here) j, sym more j, sym made j)) (stay_pushed v old.now old.older e (lens h) (states h) old.view old.len_is old.state))
          by (inr ne) =
              let a = same g ne in
              subst (λ (z : List Stay × ℕ × GroupState). InStay v z.0 z.1 z.2) (λ j. (sym (there (record { node = 0; inc = 0; instance = 0; join = 0 }) g ne).0 j, sym a.0 j, sym a.1 j)) (k.stay g)

      taking : (p : ProviderId) (y : Provider) → provider_of w p ≡ Some y → y.takes_part ≡ true → Taking p y.group
      taking p y q take = let b = kept.back p y q in by b.0 b.1 b.2 (b.4 take)
        where
          by : (x : Provider) → provider_of t p ≡ Some x → y.group ≡ x.group → (x.takes_part ≡ true) ⊎ Has p (beginners t h e) → Taking p y.group
          by x found g (inr a) =
              let hears = new_hears t h (states h) e p a in
              let f = hearer_found t h (states h) e p hears in
              let group : h ≡ y.group = sym (g ∙ ap (λ (z : Provider). z.group) (some_is (sym found ∙ f.1)) ∙ f.2) in
              let z = begins p a in
              subst (Taking p) group (takes_here p y q hears i z.0 z.1 (let c = z.2 in omega arith))
          by x found g (inl a) = at (cases_text h x.group)
            where
              at : (h ≡ x.group) ⊎ (h ≡ x.group → ⊥) → Taking p y.group
              at (inl d) =
                  let hears = present_hears t h (states h) e p x found a (sym d) (subst (λ z. Has p (present (states z))) (sym d) (attends p x found a)) in
                  let z = goes p x found a (sym d) in subst (Taking p) (d ∙ sym g) (takes_here p y q hears z.0 z.1 z.2 z.3)
              at (inr ne) =
                  let c = there p x.group ne in
                  let l = (same x.group ne).0 in
                  subst (Taking p) (sym g) (subst (λ (z : List Stay × ℕ × ℕ). Takes (part p z.0) z.1 z.2) (λ j. (sym c.0 j, sym l j, sym c.1 j)) (k.taking p x found a))

      waiting : (p : ProviderId) (y : Provider) → provider_of w p ≡ Some y → y.takes_part ≡ false → Waiting p y.group
      waiting p y q wait = let b = kept.back p y q in by b.0 b.1 b.2 (b.0).takes_part refl (b.3)
        where
          by : (x : Provider) → provider_of t p ≡ Some x → y.group ≡ x.group → (c : Bool) → x.takes_part ≡ c → (x.takes_part ≡ true → y.takes_part ≡ true) → Waiting p y.group
          by x found g true take on = absurd (let z : true ≡ false = sym (on take) ∙ wait in cc)
          by x found g false take on = at (cases_text h x.group)
            where
              no_begin : Has p (beginners t h e) → ⊥
              no_begin a = let z : true ≡ false = sym (handed_begun t h (states h) st e bs p a y q) ∙ wait in cc

              no_hear : (c : Cast) → Has c cs → c.provider ≡ p → ⊥
              no_hear c j is =
                  let f = hearer_found t h (states h) e p (subst (λ z. Has z (hearers t h (states h) e)) is (cast_has e st t.level (hearers t h (states h) e) bs c j)) in
                  ⊎_elim (λ (z : (f.0).takes_part ≡ true). let u : true ≡ false = sym z ∙ ap (λ (a : Provider). a.takes_part) (some_is (sym f.1 ∙ found)) ∙ take in cc) no_begin f.3

              at : (h ≡ x.group) ⊎ (h ≡ x.group → ⊥) → Waiting p y.group
              at (inl d) =
                  let z : ((part p (stays n h (earlier now before))).first ≡ None) × (heard_count p v h (earlier now before) ≡ 0) = subst (λ g. ((part p (stays n g (earlier now before))).first ≡ None) × (heard_count p v g (earlier now before) ≡ 0)) (sym d) (k.waiting p x found take) in
                  let r : (part p xs).first ≡ None = part_waits p old.now old.older e (ap (λ b. (part p b).first) (sym old.is) ∙ z.0) (other (is_join_of p e) refl) in
                  subst (Waiting p) (d ∙ sym g) (ap (λ b. (part p b).first) (stays_now h ∙ here) ∙ r, count_out before n v h i e st cs put_now p v h no_hear ∙ z.1)
                where
                  other : (b : Bool) → is_join_of p e ≡ b → is_join_of p e ≡ false
                  other false z = z
                  other true z = absurd (no_begin (join_begins t h e p x found take (sym d) z))
              at (inr ne) =
                  let c = there p x.group ne in
                  let z = k.waiting p x found take in subst (Waiting p) (sym g) (ap (λ b. (part p b).first) c.0 ∙ z.0, c.1 ∙ z.1)
