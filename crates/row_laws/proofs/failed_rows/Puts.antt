-- An entry is put: the stay grows by it.
use Rattle.std.proofs.Common.{◌≡◌, ◌⊎◌, ℕ, ◌+◌, List, [], ◌∷◌, ◌++◌, length, Option, Some, Bool, true, false, refl, sym, ap, ◌∙◌, subst, inl, inr, arith, length-append, ⊎_elim}
use Rattle.std.specs.Prelude.{◌==◌, ◌&&◌, reverse, if◌then◌else◌}
use Rattle.std.specs.Str.{bytes_eq}
use Rattle.std.proofs.lemmas.Bool.{eq-eqb}
use Rattle.std.proofs.lemmas.List.{reverse-append}
use Rattle.rsct_packet.specs.declared.ids.ViewId.{ViewId}
use Rattle.rsct_packet.specs.declared.ids.ProviderId.{ProviderId}
use Rattle.rsct_packet.specs.Providers.{among}
use Rattle.rsct_packet.specs.Search.{Has}
use Rattle.rsct_packet.proofs.HasLaws.{has_append, append_has_left}
use Rattle.proposal_core.specs.declared.entry.Entry.{Entry}
use Rattle.proposal_core.specs.declared.group_state.GroupState.{GroupState}
use Rattle.proposal_core.specs.Fold.{fits, after, after_if, joiners_fit, present, joiners_in}
use Rattle.proposal_core.proofs.FoldLaws.{joiners_fit_after, among_both}
use Rattle.proposal_core.specs.Lists.{list_or_new, state_in, len_in, with_entry}
use Rattle.node_state.specs.declared.group.GroupRow.{GroupRow}
use Rattle.node_state.specs.declared.happened.Happened.{Happened}
use Rattle.node_state.specs.declared.happened.Happened.TheVariants as happened
use Rattle.node_state.specs.declared.state.Core.{Core}
use Rattle.node_state.specs.State.{row_of, with_row, len_of, list_of, state_of, recorded}
use Rattle.node_state.specs.HandOn.{Answering}
use Rattle.node_state.specs.Leading.{put, put_and_hand}
use Rattle.run_safety.specs.Past.{History, records_of}
use Rattle.run_safety.specs.Stays.{Stay, stays, is_join_of, asks_join, is_refused}
use Rattle.run_safety.specs.Stays as kept
use Rattle.node_state.proofs.NameOrder.{cases_text, text_self, text_other, row_here, row_there, rows_ordered}
use Rattle.step_refinement.proofs.Puts.{fold_pushed}
use Rattle.row_laws.proofs.honest_votes.At.{found, leads_row}
use Rattle.row_laws.specs.failed_rows.Failures.{GoneCause, PutHolds, EntryFails, EachPut, state_held, state_of_stay, state_in_stays}
use Rattle.row_laws.proofs.failed_rows.Facts.{Whys, takers_pushed, TallyIs, QueueIs, Track, BasesFit, Stepped, BodyFails, body_on, Unasked, own_pushed, PutOff}
use Rattle.row_laws.proofs.failed_rows.Origin.{Origin, slim_more}
use Rattle.row_laws.proofs.failed_rows.At.{At}
use Rattle.session_state.specs.HandOn.{hearers, is_present}
use Rattle.row_laws.proofs.failed_rows.Living.{hearer_was}
use Rattle.row_laws.proofs.failed_rows.Hands.{at_handed}

abbrev pub put_row : Core → GroupRow → Entry → GroupRow
put_row s row e = record row { list = Some (with_entry (list_or_new row.list) s.views.view e) }

-- no joiner becomes a member twice
pub apart_after : (s : GroupState) (v : ViewId) (i : ℕ) (e : Entry) → joiners_fit s ≡ true → joiners_fit (after s v i e) ≡ true
unfolding after after_if
apart_after s v i e k = by (fits s e) refl
  where
    by : (b : Bool) → fits s e ≡ b → joiners_fit (after_if s v i e b) ≡ true
    by true f = joiners_fit_after s v i e f k
    by false f = k

-- with the entry, in its own list
own_stays : (n : ℕ) (v : ViewId) (g : List ℕ) (i : ℕ) (e : Entry) (xs : List Stay) → kept.stays_after n g (happened.Put n v g i e) xs ≡ kept.with_entry e xs
own_stays n v g i e xs = λ j. if (eq-eqb n n refl j && text_self g j) then kept.with_entry e xs else xs

other_stays : (n : ℕ) (v : ViewId) (g k : List ℕ) (i : ℕ) (e : Entry) (xs : List Stay) → (g ≡ k → ⊥) → kept.stays_after n k (happened.Put n v g i e) xs ≡ xs
other_stays n v g k i e xs ne = by (n == n)
  where
    by : (b : Bool) → (if (b && bytes_eq g k) then kept.with_entry e xs else xs) ≡ xs
    by true = ap (λ z. if z then kept.with_entry e xs else xs) (text_other g k ne)
    by false = refl

pub track_put : (xs : List Stay) (v : ViewId) (len : ℕ) (st : GroupState) (e : Entry) → Track xs v len st → Track (kept.with_entry e xs) v (len + 1) (after st v len e)
track_put xs v len st e t =
    record {
      stay = record (t.stay) { entries = (t.stay).entries ++ e ∷ [] };
      older = t.older;
      is = ap (kept.with_entry e) t.is;
      view = t.view;
      len_is = length-append (t.stay).entries (e ∷ []) ∙ ap (λ k. k + 1) t.len_is;
      state = fold_pushed (t.stay).view (t.stay).entries (t.stay).base 0 e ∙ ap (λ k. after (state_of_stay t.stay) (t.stay).view k e) zero_more ∙ (λ i. after (t.state i) (t.view i) (t.len_is i) e);
    }
  where
    zero_more : 0 + length (t.stay).entries ≡ length (t.stay).entries
    zero_more = omega arith

module _ (h : History) (said : ProviderId → Type 0) (origin : Origin) (P L M : Type 0) (T G Q : List ℕ → Type 0) where
  -- the state by the records is that of the row
  pub held_is : (s : Core) → L → At h said origin P L M T G Q s → (g : List ℕ) → state_held s.views.me g (reverse s.records ++ records_of h) ≡ state_in (found s g).list
  held_is s l a g = let t = a.tracks l g in ap (λ (xs : List Stay). state_in_stays xs) t.is ∙ t.state

  pub put_holds : (s : Core) (g : List ℕ) (e : Entry) (i : ℕ) → EntryFails (GoneCause h s.views.view g) (λ k. state_in (found s k).list) (state_in (found s g).list) e → At h said origin P L M T G Q s → L → PutHolds (reverse s.records) h (happened.Put s.views.me s.views.view g i e)
  put_holds s g e i ok a l first =
      subst (λ (z : (List ℕ → GroupState) × GroupState). EntryFails (GoneCause h s.views.view g) z.0 z.1 e) (λ j. ((λ k. sym (held_is s l a k) j), sym (held_is s l a g) j)) ok

  -- who is handed an entry and is not there after it was taken off by it
  pub taken_off : (s t : Core) (g : List ℕ) (e : Entry) → L → At h said origin P L M T G Q s → t.views.me ≡ s.views.me → t.sessions ≡ s.sessions → t.records ≡ (put s g e).records → ((k : List ℕ) → state_held s.views.me k (reverse (put s g e).records ++ records_of h) ≡ state_in (found (put s g e) k).list) → (p : ProviderId) → p.node ≡ t.views.me → Has p (hearers t.sessions g (state_of s g) e) → is_present (state_of (put s g e) g) p ≡ false → PutOff (reverse t.records ++ records_of h) p s.views.view g (len_of s g) e
  unfolding put recorded with_row state_of len_of list_of row_of is_present
  taken_off s t g e live a me sessions records held p node hears off =
      record {
        older = older;
        moment = ap (λ z. reverse z ++ records_of h) records ∙ turned ∙ ap (λ n. happened.Put n s.views.view g (len_in (found s g).list) e ∷ older) (sym here);
        was = ⊎_elim (λ (z : among (present before) p ≡ true). inl (ap (λ (x : GroupState). among (present x) p) (ap (λ n. state_held n g older) here ∙ held_is s live a g) ∙ z)) (λ (z : is_join_of p e ≡ true). inr z) (hearer_was s.sessions g before e p heard_by);
        off = ap (λ n. among (present (state_held n g (happened.Put n s.views.view g (len_in (found s g).list) e ∷ older))) p) here ∙ ap (λ z. among (present (state_held s.views.me g z)) p) (sym turned) ∙ ap (λ (x : GroupState). among (present x) p) (held g) ∙ among_both (state_in (found (put s g e) g).list).members (joiners_in (state_in (found (put s g e) g).list).running) p ∙ off;
      }
    where
      before : GroupState
      before = state_in (found s g).list

      older : List Happened
      older = reverse s.records ++ records_of h

      here : p.node ≡ s.views.me
      here = node ∙ me

      turned : reverse (s.records ++ happened.Put s.views.me s.views.view g (len_in (found s g).list) e ∷ []) ++ records_of h ≡ happened.Put s.views.me s.views.view g (len_in (found s g).list) e ∷ older
      turned = ap (λ z. z ++ records_of h) (reverse-append s.records (happened.Put s.views.me s.views.view g (len_in (found s g).list) e ∷ []))

      heard_by : Has p (hearers s.sessions g before e)
      heard_by = subst (λ z. Has p (hearers z g before e)) sessions hears

  module _ (U W : List ℕ → Type 0) where
    pub at_put_for : (s : Core) (g : List ℕ) (e : Entry) → (P → BasesFit s.records → PutHolds (reverse s.records) h (happened.Put s.views.me s.views.view g (len_in (found s g).list) e)) → ((k : List ℕ) → U k → (g ≡ k → ⊥) → T k) → ((k : List ℕ) → W k → (g ≡ k → ⊥) → Q k) → (U g → TallyIs (GoneCause h s.views.view g) (leads_row s (found s g)) (found s g).led.tally (state_in (put_row s (found s g) e).list)) → (BasesFit s.records → W g → QueueIs (GoneCause h s.views.view g) (leads_row s (found s g)) (found s g).led.waiting.failures (state_in (put_row s (found s g) e).list)) → At h said origin P L M T G Q s → At h said origin P L M U G W (put s g e)
    unfolding put with_row row_of recorded len_of list_of with_entry
    at_put_for s g e holds others rest tally queue a =
        record {
          inc = a.inc;
          counted = a.counted;
          own = own_pushed h said origin.born s.sessions s (r ∷ []) unasked a.own;
          slim = slim_more origin.root s.sessions s.records (r ∷ []) asks a.slim;
          sends = λ p i. subst (λ z. BodyFails said (z ++ records_of h) p.body) (sym turned) (body_on said (r ∷ []) (reverse s.records ++ records_of h) p.body (a.sends p i));
          puts = λ l fit. let was : BasesFit s.records = λ x i. fit x (append_has_left x s.records (r ∷ []) i) in subst (λ z. EachPut z h) (sym turned) (holds l was, a.puts l was);
          accepted = λ m x i. one m x (has_append x s.records (r ∷ []) i);
          whose = λ x i. own x (has_append x s.records (r ∷ []) i);
          order = rows_ordered g f (λ x. refl) s a.order;
          tracks = λ l k. subst (λ z. Track (stays s.views.me k (z ++ records_of h)) s.views.view (len_in (found c k).list) (state_in (found c k).list)) (sym turned) (track l k (cases_text g k));
          marks = λ l k. mark l k (cases_text g k);
          tallies = λ k u. counted k u (cases_text g k);
          queues = λ fit k w. waiting (λ x i. fit x (append_has_left x s.records (r ∷ []) i)) k w (cases_text g k);
          apart = λ l fit k. apart l (λ x i. fit x (append_has_left x s.records (r ∷ []) i)) k (cases_text g k);
          led = λ k i. leads k i (cases_text g k);
          whys = λ k. why k (cases_text g k);
          takers = takers_pushed h s.views.me s.sessions s.records (r ∷ []) a.takers;
        }
      where
        f : GroupRow → GroupRow
        f row = put_row s row e

        c : Core
        c = with_row s g f

        r : Happened
        r = happened.Put s.views.me s.views.view g (len_in (found s g).list) e

        turned : reverse (s.records ++ r ∷ []) ≡ r ∷ reverse s.records
        turned = reverse-append s.records (r ∷ [])

        one : M → (x : Happened) → Has x s.records ⊎ Has x (r ∷ []) → is_refused x ≡ false
        one m x (inl i) = a.accepted m x i
        one m x (inr (inl q)) = ap is_refused q
        one m x (inr (inr z)) = absurd z

        own : (x : Happened) → Has x s.records ⊎ Has x (r ∷ []) → Stepped s.views.me x
        own x (inl i) = a.whose x i
        own x (inr (inl q)) = subst (Stepped s.views.me) (sym q) refl
        own x (inr (inr z)) = absurd z

        unasked : (x : Happened) → Has x (r ∷ []) → (p : ProviderId) → asks_join p x ≡ false
        unasked x (inl q) p = ap (asks_join p) q
        unasked x (inr z) p = absurd z

        asks : (x : Happened) → Has x (r ∷ []) → Unasked x
        asks x (inl q) = subst Unasked (sym q) tt
        asks x (inr z) = absurd z

        here : found c g ≡ f (found s g)
        here = row_here g f (λ x. refl) s a.order

        there : (k : List ℕ) → (g ≡ k → ⊥) → found c k ≡ found s k
        there k ne = row_there g f (λ x. refl) s k ne

        past : List Happened
        past = reverse s.records ++ records_of h

        track : L → (k : List ℕ) → (g ≡ k) ⊎ (g ≡ k → ⊥) → Track (kept.stays_after s.views.me k r (stays s.views.me k past)) s.views.view (len_in (found c k).list) (state_in (found c k).list)
        track l k (inr ne) =
            subst (λ (z : GroupRow). Track (kept.stays_after s.views.me k r (stays s.views.me k past)) s.views.view (len_in z.list) (state_in z.list)) (sym (there k ne)) (subst (λ z. Track z s.views.view (len_in (found s k).list) (state_in (found s k).list)) (sym (other_stays s.views.me s.views.view g k (len_in (found s g).list) e (stays s.views.me k past) ne)) (a.tracks l k))
        track l k (inl q) =
            subst (λ z. Track (kept.stays_after s.views.me z r (stays s.views.me z past)) s.views.view (len_in (found c z).list) (state_in (found c z).list)) q (subst (λ (z : GroupRow). Track (kept.stays_after s.views.me g r (stays s.views.me g past)) s.views.view (len_in z.list) (state_in z.list)) (sym here) (subst (λ z. Track z s.views.view (len_in (f (found s g)).list) (state_in (f (found s g)).list)) (sym (own_stays s.views.me s.views.view g (len_in (found s g).list) e (stays s.views.me g past))) (put_track l)))
          where
            put_track : L → Track (kept.with_entry e (stays s.views.me g past)) s.views.view (len_in (f (found s g)).list) (state_in (f (found s g)).list)
            put_track l = track_put (stays s.views.me g past) s.views.view (len_in (found s g).list) (state_in (found s g).list) e (a.tracks l g)

        mark : L → (k : List ℕ) → (g ≡ k) ⊎ (g ≡ k → ⊥) → (p : ProviderId) → among (found c k).led.gone p ≡ true → GoneCause h s.views.view k p
        mark l k (inr ne) p i = a.marks l k p (subst (λ (z : GroupRow). among z.led.gone p ≡ true) (there k ne) i)
        mark l k (inl q) p i =
            subst (λ z. GoneCause h s.views.view z p) q (a.marks l g p (subst (λ (z : GroupRow). among z.led.gone p ≡ true) here (subst (λ z. among (found c z).led.gone p ≡ true) (sym q) i)))

        counted : (k : List ℕ) → U k → (g ≡ k) ⊎ (g ≡ k → ⊥) → TallyIs (GoneCause h s.views.view k) (leads_row s (found c k)) (found c k).led.tally (state_in (found c k).list)
        counted k u (inr ne) = subst (λ (z : GroupRow). TallyIs (GoneCause h s.views.view k) (leads_row s z) z.led.tally (state_in z.list)) (sym (there k ne)) (a.tallies k (others k u ne))
        counted k u (inl q) =
            subst (λ z. TallyIs (GoneCause h s.views.view z) (leads_row s (found c z)) (found c z).led.tally (state_in (found c z).list)) q (subst (λ (z : GroupRow). TallyIs (GoneCause h s.views.view g) (leads_row s z) z.led.tally (state_in z.list)) (sym here) (tally (subst U (sym q) u)))

        waiting : BasesFit s.records → (k : List ℕ) → W k → (g ≡ k) ⊎ (g ≡ k → ⊥) → QueueIs (GoneCause h s.views.view k) (leads_row s (found c k)) (found c k).led.waiting.failures (state_in (found c k).list)
        waiting fit k w (inr ne) = subst (λ (z : GroupRow). QueueIs (GoneCause h s.views.view k) (leads_row s z) z.led.waiting.failures (state_in z.list)) (sym (there k ne)) (a.queues fit k (rest k w ne))
        waiting fit k w (inl q) =
            subst (λ z. QueueIs (GoneCause h s.views.view z) (leads_row s (found c z)) (found c z).led.waiting.failures (state_in (found c z).list)) q (subst (λ (z : GroupRow). QueueIs (GoneCause h s.views.view g) (leads_row s z) z.led.waiting.failures (state_in z.list)) (sym here) (queue fit (subst W (sym q) w)))

        apart : L → BasesFit s.records → (k : List ℕ) → (g ≡ k) ⊎ (g ≡ k → ⊥) → joiners_fit (state_in (found c k).list) ≡ true
        apart l fit k (inr ne) = ap (λ (z : GroupRow). joiners_fit (state_in z.list)) (there k ne) ∙ a.apart l fit k
        apart l fit k (inl q) =
            subst (λ z. joiners_fit (state_in (found c z).list) ≡ true) q (ap (λ (z : GroupRow). joiners_fit (state_in z.list)) here ∙ put_apart (a.apart l fit g))
          where
            put_apart : joiners_fit (state_in (found s g).list) ≡ true → joiners_fit (state_in (f (found s g)).list) ≡ true
            put_apart z = apart_after (state_in (found s g).list) s.views.view (list_or_new (found s g).list).len e z

        why : (k : List ℕ) → (g ≡ k) ⊎ (g ≡ k → ⊥) → Whys (found c k).led
        why k (inr ne) = subst (λ (z : GroupRow). Whys z.led) (sym (there k ne)) (a.whys k)
        why k (inl q) = subst (λ z. Whys (found c z).led) q (subst (λ (z : GroupRow). Whys z.led) (sym here) (a.whys g))

        leads : (k : List ℕ) → G k → (g ≡ k) ⊎ (g ≡ k → ⊥) → leads_row s (found c k) ≡ true
        leads k i (inl q) = subst (λ z. leads_row s (found c z) ≡ true) q (ap (leads_row s) here ∙ a.led g (subst G (sym q) i))
        leads k i (inr ne) = ap (leads_row s) (there k ne) ∙ a.led k i

-- the put is recorded
pub put_there : (h : History) (s : Core) (g : List ℕ) (e : Entry) → Has (happened.Put s.views.me s.views.view g (len_of s g) e) (reverse (put s g e).records ++ records_of h)
unfolding put recorded with_row
put_there h s g e =
    subst (λ z. Has (happened.Put s.views.me s.views.view g (len_of s g) e) (z ++ records_of h)) (sym (reverse-append s.records (happened.Put s.views.me s.views.view g (len_of s g) e ∷ []))) (inl refl)

module _ (h : History) (said : ProviderId → Type 0) (origin : Origin) (P L M : Type 0) (T G Q U W : List ℕ → Type 0) where
  pub at_put_and_handed_for : (f : Answering) (s : Core) (to : Option ℕ) (g : List ℕ) (e : Entry) → L → (P → BasesFit s.records → PutHolds (reverse s.records) h (happened.Put s.views.me s.views.view g (len_in (found s g).list) e)) → ((k : List ℕ) → U k → (g ≡ k → ⊥) → T k) → ((k : List ℕ) → W k → (g ≡ k → ⊥) → Q k) → (U g → TallyIs (GoneCause h s.views.view g) (leads_row s (found s g)) (found s g).led.tally (state_in (put_row s (found s g) e).list)) → (BasesFit s.records → W g → QueueIs (GoneCause h s.views.view g) (leads_row s (found s g)) (found s g).led.waiting.failures (state_in (put_row s (found s g) e).list)) → At h said origin P L M T G Q s → At h said origin P L M U G W (put_and_hand f s to g e)
  unfolding put_and_hand put recorded with_row
  at_put_and_handed_for f s to g e live holds others rest tally queue a =
      let t : At h said origin P L M U G W (put s g e) = at_put_for h said origin P L M T G Q U W s g e holds others rest tally queue a in
      at_handed h said origin P L M U G W f (put s g e) to g (len_of s g) (state_of s g) (state_of (put s g e) g) e s.views.view refl (put_there h s g e) (taken_off h said origin P L M T G Q s (put s g e) g e live a refl refl refl (λ k. held_is h said origin P L M U G W (put s g e) live t k)) t
