-- An entry is put and handed on: a provider that takes part hears it, and stands then where its node's stay has it.
use Rattle.std.proofs.Common.{◌≡◌, ◌⊎◌, ℕ, ◌+◌, List, [], ◌∷◌, ◌++◌, length, Option, Some, None, Bool, true, false, refl, sym, ap, ◌∙◌, subst, inl, inr}
use Rattle.std.specs.Prelude.{reverse, flat_map, IsTrue}
use Rattle.std.proofs.lemmas.List.{reverse-append}
use Rattle.rsct_packet.specs.declared.ids.ViewId.{ViewId}
use Rattle.rsct_packet.specs.declared.ids.ProviderId.{ProviderId}
use Rattle.rsct_packet.specs.Providers.{among}
use Rattle.rsct_packet.specs.Search.{Has}
use Rattle.rsct_packet.proofs.HasLaws.{append_has_right}
use Rattle.proposal_core.specs.declared.entry.Entry.{Entry}
use Rattle.proposal_core.specs.declared.entry.Entry.TheVariants.{Once, Begin}
use Rattle.proposal_core.specs.declared.proposal.Proposal.{Proposal}
use Rattle.proposal_core.specs.declared.group_state.GroupState.{GroupState}
use Rattle.proposal_core.specs.Fold.{after, joins_of, present}
use Rattle.client_callbacks.specs.declared.ballot.Filled.{Filled}
use Rattle.session_state.specs.declared.casts.Cast.{Cast}
use Rattle.session_state.specs.declared.state.SessionState.{SessionState}
use Rattle.session_state.specs.HandOn.{beginners, hearers, casts_of, handed_on}
use Rattle.node_state.specs.declared.happened.Happened.{Happened}
use Rattle.node_state.specs.declared.happened.Happened.TheVariants as happened
use Rattle.node_state.specs.HandOn.{cast_records}
use Rattle.run_safety.specs.Past.{History, earlier, fold_from}
use Rattle.run_safety.specs.Requests.{proposal_of, IsJoin}
use Rattle.run_safety.specs.Stays.{Stay, stays, is_join_of, part, takes_part}
use Rattle.node_state.proofs.NameOrder.{cases_text}
use Rattle.row_laws.proofs.hearing.Attending.{heard_at, has_cast}
use Rattle.row_laws.proofs.hearing.Handing.{among_is, new_hears, present_hears, some_is}
use Rattle.provider_laws.proofs.attending.Parts.{pushed_stay}
use Rattle.provider_laws.proofs.attending.Turns.{begins_by_join}
use Rattle.provider_laws.proofs.attending.Staying.{InStay, join_begins, put_here, put_there, stay_pushed}
use Rattle.run_laws.specs.seen_runs.Seen.{SeenAt, BeginsOnce}
use Rattle.run_laws.specs.gapless.Takers.{Taker, Stood, AskedJoin, Dissolving}
use Rattle.run_laws.proofs.gapless.Firsts.{taker_present, taker_came, part_came}
use Rattle.run_laws.proofs.gapless.Forward.{begins_group, stood_takes, stood_begins, stood_waits}
use Rattle.run_laws.proofs.gapless.Growing.{asked_back, Over, over_more, dissolving_more, Inert}
use Rattle.run_laws.proofs.gapless.Standing.{handed_joins, Heard_at, Law, Inv, inv_records}
use Rattle.provider_laws.proofs.single_casts.Adding.{Voiced, all_voiced}
use Rattle.row_laws.proofs.failed_rows.Asked.{join_carried}

join_named : (p : ProviderId) (e : Entry) (y : Proposal) → proposal_of e ≡ Some y → is_join_of p e ≡ true → among (joins_of y) p ≡ true
join_named p (Once x) y q j = ap (λ z. among (joins_of z) p) (sym (some_is q)) ∙ j
join_named p (Begin x) y q j = ap (λ z. among (joins_of z) p) (sym (some_is q)) ∙ j
join_named p _ y q j = absurd (cc)

-- so whoever it lets join is named by what was asked
pub asked_named : (rs : List Happened) (n : ℕ) (h : List ℕ) (p : ProviderId) (e : Entry) (once : BeginsOnce rs n h e p p.join) → is_join_of p e ≡ true → among (joins_of once.asked.0) p ≡ true
asked_named rs n h p e once join = meets once.asked.2.2
  where
    y : Proposal
    y = once.asked.2.0

    meets : ((y ≡ once.asked.0) ⊎ (IsJoin p once.asked.0 × IsJoin p y)) → among (joins_of once.asked.0) p ≡ true
    meets (inl q) = ap (λ (z : Proposal). among (joins_of z) p) (sym q) ∙ join_named p e y once.asked.2.1 join
    meets (inr q) = q.0

-- what is heard and cast
voiced_inert : (r : Happened) → Voiced r → Inert r
voiced_inert (happened.Heard p v g i e ms value) a = tt
voiced_inert (happened.Cast p proto phase vote value message) a = tt
voiced_inert _ a = absurd a

pub heards_inert : (v : ViewId) (h : List ℕ) (i : ℕ) (e : Entry) (st : GroupState) (cs : List Cast) (r : Happened) → Has r (flat_map (heard_at v h i e st) cs) → Inert r
heards_inert v h i e st cs r k = voiced_inert r (all_voiced v h i e st cs r k)

-- who casts is heard
heard_has : (v : ViewId) (h : List ℕ) (i : ℕ) (e : Entry) (st : GroupState) (cs : List Cast) (c : Cast) → Has c cs → Has (happened.Heard c.provider v h i e st.members st.value) (flat_map (heard_at v h i e st) cs)
heard_has v h i e st [] c k = absurd k
heard_has v h i e st (x ∷ cs) c (inl q) = inl (ap (λ (z : Cast). happened.Heard z.provider v h i e st.members st.value) q)
heard_has v h i e st (x ∷ cs) c (inr k) =
    inr (append_has_right (happened.Heard c.provider v h i e st.members st.value) (cast_records x.provider x.cast) (flat_map (heard_at v h i e st) cs) (heard_has v h i e st cs c k))

module _ (n : ℕ) (before : History) (p : ProviderId) (node : p.node ≡ n) (final : List Happened) (v : ViewId) (t : SessionState) (now : List Happened) (lens lens' : List ℕ → ℕ) (states states' : List ℕ → GroupState) (k : Inv n before p node final v t now lens states) (h : List ℕ) (e : Entry) (bs : List (Option Filled)) (more : lens' h ≡ lens h + 1) (made : states' h ≡ after (states h) v (lens h) e) (same : (g : List ℕ) → (h ≡ g → ⊥) → (lens' g ≡ lens g) × (states' g ≡ states g)) (at : SeenAt (earlier now before) (happened.Put n v h (lens h) e)) where
  abbrev i : ℕ
  i = lens h

  abbrev st : GroupState
  st = states' h

  abbrev w : SessionState
  w = handed_on t h (states h) st e bs

  abbrev cs : List Cast
  cs = casts_of e st t.level (hearers t h (states h) e) bs

  abbrev pub put_heards : List Happened
  put_heards = flat_map (heard_at v h i e st) cs

  abbrev rs : List Happened
  rs = earlier now before

  abbrev put_r : Happened
  put_r = happened.Put n v h i e

  old : InStay v (stays n h rs) (lens h) (states h)
  old = k.stay h

  abbrev xs : List Stay
  xs = pushed_stay old.now e ∷ old.older

  here : stays n h (put_r ∷ rs) ≡ xs
  here = put_here n v h i e rs old.now old.older old.is

  pushed : InStay v xs (lens h + 1) (after (states h) v (lens h) e)
  pushed = stay_pushed v old.now old.older e (lens h) (states h) old.view old.len_is old.state

  stay : (g : List ℕ) → InStay v (stays n g (put_r ∷ rs)) (lens' g) (states' g)
  stay g = by (cases_text h g)
    where
      by : (h ≡ g) ⊎ (h ≡ g → ⊥) → InStay v (stays n g (put_r ∷ rs)) (lens' g) (states' g)
      by (inl q) =
          subst (λ z. InStay v (stays n z (put_r ∷ rs)) (lens' z) (states' z)) q (subst (λ (z : List Stay × ℕ × GroupState). InStay v z.0 z.1 z.2) (λ j. (sym here j, sym more j, sym made j)) pushed)
      by (inr ne) =
          let a = same g ne in
          subst (λ (z : List Stay × ℕ × GroupState). InStay v z.0 z.1 z.2) (λ j. (sym (put_there n n v h g i e rs (λ x y. ne y)) j, sym a.0 j, sym a.1 j)) (k.stay g)

  -- who takes part after the entry is present then
  there : Taker p xs → Has p (present st)
  there a =
      let view : v ≡ old.now.view = sym old.view in
      let q : fold_from old.now.view old.now.base 0 (old.now.entries ++ e ∷ []) ≡ st = subst (λ u. fold_from u old.now.base 0 (old.now.entries ++ e ∷ []) ≡ st) view (state_is ∙ sym made) in
      among_is (present st) p (ap (λ (z : GroupState). among (present z) p) (sym q) ∙ taker_present p (pushed_stay old.now e) old.older a)
    where
      state_is : fold_from v old.now.base 0 (old.now.entries ++ e ∷ []) ≡ after (states h) v (lens h) e
      state_is = by pushed.is pushed.state
        where
          first : {a b : Stay} {ys zs : List Stay} → a ∷ ys ≡ b ∷ zs → b ≡ a
          first e = cc

          by : xs ≡ pushed.now ∷ pushed.older → fold_from v pushed.now.base 0 pushed.now.entries ≡ after (states h) v (lens h) e → fold_from v old.now.base 0 (old.now.entries ++ e ∷ []) ≡ after (states h) v (lens h) e
          by a b = ap (λ (z : Stay). fold_from v z.base 0 z.entries) (sym (first a)) ∙ b

  -- who takes part before it is present before
  was_there : Taker p (old.now ∷ old.older) → Has p (present (states h))
  was_there a =
      let q : fold_from old.now.view old.now.base 0 old.now.entries ≡ states h = subst (λ u. fold_from u old.now.base 0 old.now.entries ≡ states h) (sym old.view) old.state in
      among_is (present (states h)) p (ap (λ (z : GroupState). among (present z) p) (sym q) ∙ taker_present p old.now old.older a)

  -- whose join it is waited
  joiner : is_join_of p e ≡ true → Stood t p h false ⊎ Dissolving p rs
  joiner join = by (k.waits h asks)
    where
      once : BeginsOnce rs n h e p p.join
      once = at.once p p.join node (join_carried p e join)

      asks : AskedJoin h p rs
      asks = record { proposal = once.asked.0; there = once.asked.1; joins = asked_named rs n h p e once join }

      by : Stood t p h false ⊎ Over n h p rs → Stood t p h false ⊎ Dissolving p rs
      by (inl s) = inl s
      by (inr (inl q)) = absurd (once.once q.view h q.place q.entry q.there (join_carried p q.entry q.joins))
      by (inr (inr (inl q))) = absurd (once.untold q)
      by (inr (inr (inr q))) = inr q

  begins : is_join_of p e ≡ true → Stood t p h false → Has p (beginners t h e)
  begins join s = join_begins t h e p s.provider s.found s.part_is s.group join

  waits : (g : List ℕ) → AskedJoin g p (put_r ∷ rs) → Stood w p g false ⊎ Over n g p (put_r ∷ rs)
  waits g a = by (k.waits g (asked_back g p put_r rs tt a))
    where
      named : (b : Bool) → is_join_of p e ≡ b → Stood t p g false → (h ≡ g) ⊎ (h ≡ g → ⊥) → Stood w p g false ⊎ Over n g p (put_r ∷ rs)
      named true join s (inl q) = inr (inl (record { view = v; place = i; entry = e; there = inl (λ j. happened.Put n v (sym q j) i e); joins = join }))
      named true join s (inr ne) = inl (stood_waits t h (states h) st e bs p g s (λ b. ne (begins_group t h (states h) st e bs p g false s b)))
      named false join s c = inl (stood_waits t h (states h) st e bs p g s (λ b. let z : true ≡ false = sym (begins_by_join t h e p b) ∙ join in cc))

      by : Stood t p g false ⊎ Over n g p rs → Stood w p g false ⊎ Over n g p (put_r ∷ rs)
      by (inl s) = named (is_join_of p e) refl s (cases_text h g)
      by (inr o) = inr (over_more n g p put_r rs o)

  takes_here : Taker p xs → Stood w p h true ⊎ Dissolving p (put_r ∷ rs)
  takes_here a = by (taker_came p old.now old.older e a)
    where
      goes : Stood t p h true ⊎ Dissolving p rs → Stood w p h true ⊎ Dissolving p (put_r ∷ rs)
      goes (inl s) = inl (stood_takes t h (states h) st e bs p h s (λ q. there a))
      goes (inr d) = inr (dissolving_more p put_r rs d)

      starts : is_join_of p e ≡ true → Stood t p h false ⊎ Dissolving p rs → Stood w p h true ⊎ Dissolving p (put_r ∷ rs)
      starts join (inl s) = inl (stood_begins t h (states h) st e bs p h false s (begins join s) (there a))
      starts join (inr d) = inr (dissolving_more p put_r rs d)

      by : Taker p (old.now ∷ old.older) ⊎ (((part p (old.now ∷ old.older)).first ≡ None) × (is_join_of p e ≡ true)) → Stood w p h true ⊎ Dissolving p (put_r ∷ rs)
      by (inl b) = goes (k.takes h (subst (Taker p) (sym old.is) b))
      by (inr b) = starts b.1 (joiner b.1)

  takes : (g : List ℕ) → Taker p (stays n g (put_r ∷ rs)) → Stood w p g true ⊎ Dissolving p (put_r ∷ rs)
  takes g a = by (cases_text h g)
    where
      on : (h ≡ g → ⊥) → Stood t p g true ⊎ Dissolving p rs → Stood w p g true ⊎ Dissolving p (put_r ∷ rs)
      on ne (inl s) = inl (stood_takes t h (states h) st e bs p g s (λ q. absurd (ne q)))
      on ne (inr d) = inr (dissolving_more p put_r rs d)

      by : (h ≡ g) ⊎ (h ≡ g → ⊥) → Stood w p g true ⊎ Dissolving p (put_r ∷ rs)
      by (inl q) = subst (λ z. Stood w p z true ⊎ Dissolving p (put_r ∷ rs)) q (takes_here (subst (Taker p) (ap (λ z. stays n z (put_r ∷ rs)) (sym q) ∙ here) a))
      by (inr ne) = on ne (k.takes g (subst (Taker p) (put_there n n v h g i e rs (λ x y. ne y)) a))

  -- who hears is recorded
  heard_of : ((r : Happened) → Has r put_heards → Has r final) → Has p (hearers t h (states h) e) → Heard_at n before p node final v h i e
  heard_of all a =
      let c = has_cast e st t.level (hearers t h (states h) e) bs p a in
      (st.members, st.value, subst (λ z. Has (happened.Heard z v h i e st.members st.value) final) c.2 (all (happened.Heard (c.0).provider v h i e st.members st.value) (heard_has v h i e st cs c.0 c.1)))

  law : ((r : Happened) → Has r put_heards → Has r final) → Law n before p node final now before put_r
  law all own takes = by (part_came p old.now old.older e (subst IsTrue place takes))
    where
      place : takes_part i (part p (stays n h (put_r ∷ rs))) ≡ takes_part (length old.now.entries) (part p xs)
      place = λ j. takes_part (sym old.len_is j) (part p (here j))

      goes : Taker p (old.now ∷ old.older) → Stood t p h true ⊎ Dissolving p rs → Dissolving p rs ⊎ Heard_at n before p node final v h i e
      goes a (inl s) = inr (heard_of all (present_hears t h (states h) e p s.provider s.found s.part_is s.group (was_there a)))
      goes a (inr d) = inl d

      starts : is_join_of p e ≡ true → Stood t p h false ⊎ Dissolving p rs → Dissolving p rs ⊎ Heard_at n before p node final v h i e
      starts join (inl s) = inr (heard_of all (new_hears t h (states h) e p (begins join s)))
      starts join (inr d) = inl d

      by : Taker p (old.now ∷ old.older) ⊎ (((part p (old.now ∷ old.older)).first ≡ None) × (is_join_of p e ≡ true)) → Dissolving p rs ⊎ Heard_at n before p node final v h i e
      by (inl a) = goes a (k.takes h (subst (Taker p) (sym old.is) a))
      by (inr a) = starts a.1 (joiner a.1)

  pub inv_put : ((r : Happened) → Has r put_heards → Has r final) → Inv n before p node final v w (put_r ∷ now) lens' states'
  inv_put all = record { stay = stay; waits = waits; takes = takes; joins = handed_joins t h (states h) st e bs k.joins; law = (law all, k.law) }

  pub inv_handed : (recs : List Happened) → reverse recs ≡ now → ((r : Happened) → Has r put_heards → Has r final) → Inv n before p node final v w (reverse ((recs ++ put_r ∷ []) ++ put_heards)) lens' states'
  inv_handed recs q all =
      inv_records n before p node final v lens' states' w put_heards (recs ++ put_r ∷ []) (heards_inert v h i e st cs) (subst (λ z. Inv n before p node final v w z lens' states') (sym (reverse-append recs (put_r ∷ []) ∙ ap (λ z. put_r ∷ z) q)) (inv_put all))
