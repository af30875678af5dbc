-- A node goes on within a view: what it puts fits, so that what is open for a provider is what it heard opened.
use Rattle.std.proofs.Common.{◌≡◌, ◌≤◌, ℕ, ◌+◌, List, [], ◌∷◌, ◌++◌, length, take, Option, true, refl, sym, ap, ◌∙◌, subst, inl, append_assoc, append-nil, length-append, arith}
use Rattle.std.specs.Prelude.{reverse, flat_map, map}
use Rattle.std.proofs.lemmas.List.{reverse-append}
use Rattle.rsct_packet.specs.declared.ids.ViewId.{ViewId}
use Rattle.rsct_packet.specs.Search.{Has}
use Rattle.rsct_packet.proofs.HasLaws.{append_has_left, append_has_right}
use Rattle.proposal_core.specs.declared.entry.Entry.{Entry}
use Rattle.proposal_core.specs.Fold.{fits}
use Rattle.client_callbacks.specs.declared.ballot.Filled.{Filled}
use Rattle.session_state.specs.declared.state.SessionState.{SessionState}
use Rattle.session_state.specs.Calls.{keeps}
use Rattle.session_state.specs.HandOn.{casts_out}
use Rattle.view_state.specs.declared.install.Install.{Install}
use Rattle.view_state.specs.declared.install.Base.{Base}
use Rattle.view_state.specs.Bases.{bases_of}
use Rattle.view_state.specs.Views.{views_entered}
use Rattle.client_callbacks.specs.declared.told.Why.TheVariants.{Dissolved}
use Rattle.node_state.specs.declared.happened.Happened.{Happened}
use Rattle.node_state.specs.declared.happened.Happened.TheVariants as happened
use Rattle.node_state.specs.declared.state.Core.{Core}
use Rattle.node_state.specs.State.{state_of, len_of, with_row, held_rows, recorded, recorded_all, with_sessions}
use Rattle.node_state.specs.HandOn.{heard}
use Rattle.node_state.specs.Leading.{put}
use Rattle.node_state.specs.Applying.{base_record, view_entered, dissolved}
use Rattle.run_safety.specs.Past.{History, earlier, records_of, puts_of, Within}
use Rattle.run_safety.specs.Bases.{Bases, state_of_list}
use Rattle.row_laws.specs.hearing.Changes.{Same, handing, entering, Does, Stays, Then, Records, Hands, Loses, Joins, Votes, Enters}
use Rattle.row_laws.proofs.hearing.Attending.{heard_at}
use Rattle.step_refinement.proofs.Turns.{has_turned}
use Rattle.row_laws.proofs.hearing.Doing.{Hearing, hearing_does}
use Rattle.provider_laws.proofs.single_casts.Asking.{inner_silent}
use Rattle.provider_laws.proofs.attending.Sides.{sides_keep}
use Rattle.provider_laws.proofs.single_casts.Adding.{between, no_entering}
use Rattle.provider_laws.proofs.single_casts.Folds.{Folded, folded_does, put_state, puts_at}
use Rattle.provider_laws.proofs.single_casts.Seen.{puts_first}
use Rattle.provider_laws.proofs.single_casts.Naming.{Naming, naming_silent, naming_fewer, naming_joined, naming_votes, naming_handed}
use Rattle.provider_laws.proofs.attending.Hands.{hands_keep}
use Rattle.provider_laws.proofs.single_casts.Entering.{enters_keep}

-- ---- records are only added, at the end

pub record More (s t : Core) : Type 0 where
  pub more : List Happened
  pub is : t.records ≡ s.records ++ more

more_of : (s t : Core) (more : List Happened) → t.records ≡ s.records ++ more → More s t
more_of s t more is = record { more = more; is = is }

pub does_more : (s t : Core) → Does s t → More s t
unfolding recorded with_sessions put recorded_all with_row heard view_entered views_entered base_record dissolved
does_more _ _ (Stays s t same) = more_of s t [] (same.records ∙ sym (append-nil s.records))
does_more _ _ (Then s t u a b) =
    let x = does_more s t a in
    let y = does_more t u b in
    more_of s u (x.more ++ y.more) (y.is ∙ ap (λ z. z ++ y.more) x.is ∙ append_assoc s.records x.more y.more)
does_more _ _ (Records s r a) = record { more = r ∷ []; is = refl }
does_more _ _ (Hands s c h e bs o same) = record { more = happened.Put s.views.me s.views.view h (len_of s h) e ∷ rs; is = ap (λ z. z ++ rs) same.records ∙ append_assoc s.records (happened.Put s.views.me s.views.view h (len_of s h) e ∷ []) rs }
  where
    rs : List Happened
    rs = flat_map (heard_at c.views.view h (len_of s h) e (state_of (put s h e) h)) (casts_out c.sessions h (state_of s h) (state_of (put s h e) h) e bs)
does_more _ _ (Loses s t f) = record { more = []; is = sym (append-nil s.records) }
does_more _ _ (Joins s t g instance attrs none) = record { more = []; is = sym (append-nil s.records) }
does_more _ _ (Votes s x o b found opened unkept) = record { more = happened.Cast x.provider o.proto o.phase b.vote b.value b.message ∷ []; is = refl }
does_more _ _ (Enters s i lt none) =
    sides_keep (More s) (λ c p r k. record { more = k.more ++ happened.Told p r Dissolved ∷ []; is = ap (λ z. z ++ happened.Told p r Dissolved ∷ []) k.is ∙ append_assoc s.records k.more (happened.Told p r Dissolved ∷ []) }) (held_rows s) s.views.view (bases_of i) (view_entered s i (bases_of i)) (record { more = happened.In s.views.me i.view i.members ∷ map (λ (b : Base). happened.Base s.views.me i.view b.name b.from b.len b.state) (bases_of i); is = refl })

-- so what holds of all records held before
within_front : (P : List Happened → History → Happened → Type 0) (xs ys : List Happened) (before : History) → Within P (xs ++ ys) before → Within P ys before
within_front P [] ys before k = k
within_front P (x ∷ xs) ys before k = within_front P xs ys before k.1

pub within_does : (P : List Happened → History → Happened → Type 0) (before : History) (s t : Core) → Does s t → Within P (reverse t.records) before → Within P (reverse s.records) before
within_does P before s t d k =
    let m = does_more s t d in
    within_front P (reverse m.more) (reverse s.records) before (subst (λ z. Within P z before) (ap reverse m.is ∙ reverse-append s.records m.more) k)

-- so much was recorded before all that the run has recorded
pub record Below (rs : List Happened) (before : History) (c : Core) : Type 0 where
  pub later : List Happened
  pub is : rs ≡ later ++ earlier (reverse c.records) before

pub below_does : (rs : List Happened) (before : History) (s t : Core) → Does s t → Below rs before t → Below rs before s
below_does rs before s t a k =
    let m = does_more s t a in
    record {
      later = k.later ++ reverse m.more;
      is = k.is ∙ ap (λ z. k.later ++ earlier (reverse z) before) m.is ∙ ap (λ z. k.later ++ (z ++ records_of before)) (turned s.records m.more) ∙ ap (λ z. k.later ++ z) (append_assoc (reverse m.more) (reverse s.records) (records_of before)) ∙ sym (append_assoc k.later (reverse m.more) (reverse s.records ++ records_of before));
    }
  where
    turned : (xs ys : List Happened) → reverse (xs ++ ys) ≡ reverse ys ++ reverse xs
    turned xs ys = reverse-append xs ys

-- ---- what is put fits

take_front : (xs ys : List Entry) → take (length xs) (xs ++ ys) ≡ xs
take_front [] ys = refl
take_front (x ∷ xs) ys = ap (λ zs. x ∷ zs) (take_front xs ys)

abbrev pub Fitted : (List ℕ → Bases) → ℕ → List Happened → Type 0
Fitted bases n rs =
    (u : ViewId) (g : List ℕ) (i : ℕ) (e : Entry) → Has (happened.Put n u g i e) rs → i ≤ length (puts_of n u g rs) → fits (state_of_list (bases g) u (take i (puts_of n u g rs))) e ≡ true

module _ (n inc : ℕ) (before : History) (bases : List ℕ → Bases) (rs : List Happened) (fitted : Fitted bases n rs) where
  pub record Going (c : Core) : Type 0 where
    pub hearing : Hearing n inc before c
    pub folded : (g : List ℕ) → Folded (bases g) n before g c
    pub naming : Naming n before c.sessions (reverse c.records)

  -- what was put fits the state before it
  pub put_fits : (s : Core) (h : List ℕ) (e : Entry) → Below rs before s → Has (happened.Put n s.views.view h (len_of s h) e) rs → Folded (bases h) n before h s → fits (state_of s h) e ≡ true
  put_fits s h e below there k =
      let old : List Entry = puts_at n s.views.view h before s in
      let m = puts_first n s.views.view h below.later (earlier (reverse s.records) before) in
      let all : puts_of n s.views.view h rs ≡ old ++ m.0 = ap (puts_of n s.views.view h) below.is ∙ m.1 in
      let len : length (puts_of n s.views.view h rs) ≡ length old + length m.0 = ap length all ∙ length-append old m.0 in
      let same = k.len in
      let le : len_of s h ≤ length (puts_of n s.views.view h rs) = omega arith in
      let f = fitted s.views.view h (len_of s h) e there le in
      let front : take (len_of s h) (puts_of n s.views.view h rs) ≡ old = (λ i. take (same i) (all i)) ∙ take_front old m.0 in
      subst (λ z. fits z e ≡ true) (sym k.state) (subst (λ es. fits (state_of_list (bases h) s.views.view es) e ≡ true) front f)

  pub put_there : (s c : Core) (h : List ℕ) (e : Entry) (bs : List (Option Filled)) → Same (put s h e) c → s.views.me ≡ n → Below rs before (handing c h (len_of s h) (state_of s h) (state_of (put s h e) h) e bs) → Has (happened.Put n s.views.view h (len_of s h) e) rs
  unfolding put recorded recorded_all with_sessions with_row
  put_there s c h e bs same me below =
      let r : Happened = happened.Put s.views.me s.views.view h (len_of s h) e in
      let last = append_has_left r c.records _ (subst (Has r) (sym same.records) (append_has_right r s.records (r ∷ []) (inl refl))) in
      subst (λ m. Has (happened.Put m s.views.view h (len_of s h) e) rs) me (subst (Has r) (sym below.is) (append_has_right r below.later _ (has_turned r _ (records_of before) (append_has_left r _ (records_of before) last))))

  naming_does : (s t : Core) → Does s t → t.views.view ≡ s.views.view → Below rs before t → Going s → Naming n before t.sessions (reverse t.records)
  unfolding recorded with_sessions
  naming_does _ _ (Stays s t same) q below k =
      subst (λ (z : SessionState × List Happened). Naming n before z.0 (reverse z.1)) (λ i. (sym same.sessions i, sym same.records i)) k.naming
  naming_does _ _ (Then s t u a b) q below k =
      let m : t.views.view ≡ s.views.view = between s t u a b q in
      let low : Below rs before t = below_does rs before t u b below in
      naming_does t u b (q ∙ sym m) below (record { hearing = hearing_does n inc before s t a k.hearing; folded = λ g. folded_does (bases g) n before g s t a m k.hearing.me (k.folded g); naming = naming_does s t a m low k })
  naming_does _ _ (Records s r a) q below k =
      subst (Naming n before s.sessions) (sym (reverse-append s.records (r ∷ []))) (naming_silent n before s.sessions (reverse s.records) r (inner_silent r a) k.naming)
  naming_does _ _ (Hands s c h e bs o same) q below k =
      hands_keep n s c h e bs same k.hearing.me (λ v t now lens states. Naming n before t now) (naming_handed n inc before s.views.view s.sessions (reverse s.records) (len_of s) (state_of s) k.hearing.at k.naming h (state_of (put s h e) h) e bs (put_fits s h e (below_does rs before s _ (Hands s c h e bs o same) below) (put_there s c h e bs same k.hearing.me below) (k.folded h)) (put_state s h e o).0.0)
  naming_does _ _ (Loses s t f) q below k = naming_fewer n before s.sessions t (reverse s.records) f k.naming
  naming_does _ _ (Joins s t g instance attrs none) q below k = naming_joined n before s.sessions t g instance attrs (reverse s.records) k.naming
  naming_does _ _ (Votes s x o b found opened unkept) q below k =
      subst (Naming n before (keeps s.sessions x o b)) (sym (reverse-append s.records (happened.Cast x.provider o.proto o.phase b.vote b.value b.message ∷ []))) (naming_votes n before s.sessions x o b (reverse s.records) found opened k.naming)
  naming_does _ _ (Enters s i lt none) q below k = absurd (no_entering s i lt q)

  -- within a view
  pub going_does : (s t : Core) → Does s t → t.views.view ≡ s.views.view → Below rs before t → Going s → Going t
  going_does s t d q below k =
      record {
        hearing = hearing_does n inc before s t d k.hearing;
        folded = λ g. folded_does (bases g) n before g s t d q k.hearing.me (k.folded g);
        naming = naming_does s t d q below k;
      }

-- as a view is entered
pub naming_enters : (n : ℕ) (before : History) (s : Core) (i : Install) → Naming n before s.sessions (reverse s.records) → Naming n before (entering s i).sessions (reverse (entering s i).records)
naming_enters n before = enters_keep (Naming n before) (naming_silent n before) (naming_fewer n before)
