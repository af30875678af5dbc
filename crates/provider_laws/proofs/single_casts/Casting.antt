-- Where a node stands with the ballots of its providers: whatever is open for one, its ballot is due or kept.
use Rattle.std.proofs.Common.{◌≡◌, ◌≢◌, ◌≤◌, ℕ, ◌+◌, List, [], ◌∷◌, Option, Some, None, Bool, true, false, refl, sym, ap, ◌∙◌, subst, inl, inr, ◌⊎◌, ⊎_elim, arith}
use Rattle.std.specs.Prelude.{◌&&◌, ◌==◌, find, flat_map, if◌then◌else◌}
use Rattle.std.specs.List.{list_any}
use Rattle.std.proofs.lemmas.Bool.Decides.{nat_tests}
use Rattle.rsct_packet.specs.declared.ids.ViewId.{ViewId}
use Rattle.rsct_packet.specs.declared.ids.ProviderId.{ProviderId}
use Rattle.rsct_packet.specs.declared.ids.ProtoId.{ProtoId}
use Rattle.rsct_packet.specs.Ids.{same_proto}
use Rattle.rsct_packet.specs.Providers.{same_provider}
use Rattle.rsct_packet.specs.Search.{Has}
use Rattle.rsct_packet.proofs.HasLaws.{has_append, append_has_left, append_has_right}
use Rattle.group_attr.specs.declared.attrs.Attrs.{Attrs}
use Rattle.proposal_core.specs.declared.entry.Entry.{Entry}
use Rattle.proposal_core.specs.declared.group_state.GroupState.{GroupState}
use Rattle.proposal_core.specs.Fold.{present}
use Rattle.client_callbacks.specs.declared.ballot.Filled.{Filled}
use Rattle.client_callbacks.specs.Ballots.{BallotView}
use Rattle.subscribe_core.specs.declared.subs.ClientToken.{ClientToken}
use Rattle.session_state.specs.declared.casts.Cast.{Cast}
use Rattle.session_state.specs.declared.state.KeptBallot.{KeptBallot}
use Rattle.session_state.specs.declared.state.OpenPhase.{OpenPhase}
use Rattle.session_state.specs.declared.state.Provider.{Provider}
use Rattle.session_state.specs.declared.state.SessionState.{SessionState}
use Rattle.session_state.specs.State.{is_provider, is_kept_for, provider_of}
use Rattle.session_state.specs.Calls.{new_provider, join_asked, keeps, ballot_of}
use Rattle.session_state.specs.HandOn.{asks, running_phase, is_late, beginners, hearers, casts_out, casts_of, kept_by, handed_on}
use Rattle.node_state.specs.declared.happened.Happened.{Happened}
use Rattle.node_state.specs.declared.happened.Happened.TheVariants as happened
use Rattle.node_state.specs.HandOn.{cast_record, cast_records}
use Rattle.run_safety.specs.Past.{History, Within, earlier, records_of}
use Rattle.step_refinement.proofs.SessionLaws.{provider_same, Later, handed_later, cast_has}
use Rattle.row_laws.specs.hearing.Changes.{Fewer}
use Rattle.row_laws.proofs.hearing.Sessions.{fewer_has}
use Rattle.row_laws.proofs.hearing.Handing.{Kept, handed_kept, handed_begun, hearer_found, present_hears, some_is}
use Rattle.row_laws.proofs.hearing.Attending.{Attending, pushed, heard_at, has_cast}
use Rattle.provider_laws.specs.single_casts.Ballots.{ballot_due}
use Rattle.provider_laws.proofs.single_casts.Handed.{Opening, brought, handed_open, handed_stays, handed_brings, handed_from}
use Rattle.provider_laws.proofs.single_casts.Asking.{Silent, Rightly, silent_law, silent_due, cast_another, late_opens, CastIn, run_other, run_late, run_own, run_law, InPhase, in_phase, filled_with, asks_opens}
use Rattle.run_safety.proofs.Tests.{has_any}
use Rattle.provider_laws.proofs.attending.Staying.{found_joined}

-- a ballot of the provider in that phase is kept
pub record Keeps (t : SessionState) (p : ProviderId) (o : OpenPhase) : Type 0 where
  pub ballot : KeptBallot
  pub there : Has ballot t.kept
  pub of : ballot.provider ≡ p
  pub proto : ballot.proto ≡ o.proto
  pub phase : ballot.phase ≡ o.phase

-- what a ballot is filled with was cast
pub record BallotRecorded (rs : List Happened) (k : KeptBallot) : Type 0 where
  pub filled : Filled
  pub is : k.ballot.filled ≡ Some filled
  pub there : Has (happened.Cast k.provider k.proto k.phase filled.vote filled.value filled.message) rs

pub recorded_later : (rs ts : List Happened) (k : KeptBallot) → ((r : Happened) → Has r rs → Has r ts) → BallotRecorded rs k → BallotRecorded ts k
recorded_later rs ts k more b = record { filled = b.filled; is = b.is; there = more _ b.there }

pub record Casting (n : ℕ) (before : History) (t : SessionState) (now : List Happened) : Type 0 where
  pub law : Within Rightly now before
  pub others : (p : ProviderId) → p.node ≢ n → ballot_due p (earlier now before) ≡ ballot_due p (records_of before)
  pub ready : (p : ProviderId) (x : Provider) (o : OpenPhase) → provider_of t p ≡ Some x → x.opened ≡ Some o → (ballot_due p (earlier now before) ≡ true) ⊎ Keeps t p o
  pub taking : (p : ProviderId) (x : Provider) (o : OpenPhase) → provider_of t p ≡ Some x → x.opened ≡ Some o → x.takes_part ≡ true
  pub group : (k : KeptBallot) (x : Provider) → Has k t.kept → provider_of t k.provider ≡ Some x → k.group ≡ x.group
  pub numbered : (k : KeptBallot) → Has k t.kept → k.provider.join ≤ t.last_request
  pub cast : (k : KeptBallot) → Has k t.kept → BallotRecorded (earlier now before) k

-- ---- what is kept, found by a test

pub any_kept : (p : ProviderId) (o : OpenPhase) (ks : List KeptBallot) (k : KeptBallot) → Has k ks → k.provider ≡ p → k.proto ≡ o.proto → k.phase ≡ o.phase → list_any (is_kept_for p o.proto o.phase) ks ≡ true
any_kept p o ks k h a b c = has_any (is_kept_for p o.proto o.phase) ks k h ((λ i. same_provider (a i) p && same_proto (b i) o.proto && c i == o.phase) ∙ same p o.proto o.phase)
  where
    same : (q : ProviderId) (r : ProtoId) (m : ℕ) → (same_provider q q && same_proto r r && m == m) ≡ true
    same q r m = grind (arith, nat_tests)

module _ (n : ℕ) (before : History) where
  -- ---- what is neither heard nor cast

  pub casting_silent : (t : SessionState) (now : List Happened) (r : Happened) → Silent r → Casting n before t now → Casting n before t (r ∷ now)
  casting_silent t now r a k =
      record {
        law = (silent_law now before r a, k.law);
        others = λ p ne. silent_due p r a (earlier now before) ∙ k.others p ne;
        ready = λ p x o f q. ⊎_elim (λ (z : ballot_due p (earlier now before) ≡ true). inl (silent_due p r a (earlier now before) ∙ z)) (λ (z : Keeps t p o). inr z) (k.ready p x o f q);
        taking = k.taking;
        group = k.group;
        numbered = k.numbered;
        cast = λ b h. recorded_later (earlier now before) (r ∷ earlier now before) b (λ x i. inr i) (k.cast b h);
      }

  -- ---- sessions

  pub casting_fewer : (t s : SessionState) (now : List Happened) → Fewer t s → Casting n before t now → Casting n before s now
  casting_fewer t s now f k =
      record {
        law = k.law;
        others = k.others;
        ready = λ p x o q z. ⊎_elim (λ (a : ballot_due p (earlier now before) ≡ true). inl a) (λ (a : Keeps t p o). inr (still p x o q a)) (k.ready p x o (f.providers p x q) z);
        taking = λ p x o q z. k.taking p x o (f.providers p x q) z;
        group = λ b x h q. k.group b x (fewer_has t s f b h) (f.providers b.provider x q);
        numbered = λ b h. let a = k.numbered b (fewer_has t s f b h) in let c = f.last in omega arith;
        cast = λ b h. k.cast b (fewer_has t s f b h);
      }
    where
      still : (p : ProviderId) (x : Provider) (o : OpenPhase) → provider_of s p ≡ Some x → Keeps t p o → Keeps s p o
      still p x o q a =
          record { ballot = a.ballot; there = f.still x a.ballot (subst (λ z. provider_of s z ≡ Some x) (sym a.of) q) a.there; of = a.of; proto = a.proto; phase = a.phase }

  pub casting_joined : (t : SessionState) (c : ClientToken) (h : List ℕ) (instance : ℕ) (attrs : Attrs) (now : List Happened) → Casting n before t now → Casting n before (join_asked t c h instance attrs) now
  unfolding join_asked provider_of
  casting_joined t c h instance attrs now k =
      record {
        law = k.law;
        others = k.others;
        ready = λ p x o q z. ⊎_elim (λ (a : find (is_provider p) t.providers ≡ Some x). ⊎_elim (λ (b : ballot_due p (earlier now before) ≡ true). inl b) (λ (b : Keeps t p o). inr (record { ballot = b.ballot; there = b.there; of = b.of; proto = b.proto; phase = b.phase })) (k.ready p x o a z)) (λ (a : (x ≡ y) × (p ≡ y.provider)). absurd (let b : None ≡ Some o = ap (λ (m : Provider). m.opened) (sym a.0) ∙ z in cc)) (found_joined y p t.providers x q);
        taking = λ p x o q z. ⊎_elim (λ (a : find (is_provider p) t.providers ≡ Some x). k.taking p x o a z) (λ (a : (x ≡ y) × (p ≡ y.provider)). absurd (let b : None ≡ Some o = ap (λ (m : Provider). m.opened) (sym a.0) ∙ z in cc)) (found_joined y p t.providers x q);
        group = λ b x there q. ⊎_elim (λ (a : find (is_provider b.provider) t.providers ≡ Some x). k.group b x there a) (λ (a : (x ≡ y) × (b.provider ≡ y.provider)). absurd (let le = k.numbered b there in let z : b.provider.join ≡ t.last_request + 1 = ap (λ (z : ProviderId). z.join) a.1 in omega arith)) (found_joined y b.provider t.providers x q);
        numbered = λ b there. let le = k.numbered b there in omega arith;
        cast = k.cast;
      }
    where
      y : Provider
      y = record { provider = new_provider t instance; client = c; group = h; takes_part = false; opened = None }

  -- a vote by a call: whatever is not kept was due
  pub casting_votes : (t : SessionState) (x : Provider) (o : OpenPhase) (f : Filled) (now : List Happened) → provider_of t x.provider ≡ Some x → x.opened ≡ Some o → list_any (is_kept_for x.provider o.proto o.phase) t.kept ≡ false → x.provider.node ≡ n → x.provider.join ≤ t.last_request → Casting n before t now → Casting n before (keeps t x o f) (happened.Cast x.provider o.proto o.phase f.vote f.value f.message ∷ now)
  unfolding provider_of
  casting_votes t x o f now found opened unkept node last k =
      record {
        law = (due, k.law);
        others = λ p ne. cast_another p x.provider o.proto o.phase f (earlier now before) (λ z. ne (ap (λ (m : ProviderId). m.node) (sym z) ∙ node)) ∙ k.others p ne;
        ready = λ p y q a b. ready p y q a b (same_provider x.provider p) refl;
        taking = k.taking;
        group = λ b y there q. ⊎_elim (λ (a : Has b t.kept). k.group b y a q) (λ (a : Has b (one ∷ [])). mine b y a q) (has_append b t.kept (one ∷ []) there);
        numbered = λ b there. ⊎_elim (λ (a : Has b t.kept). k.numbered b a) (λ (a : Has b (one ∷ [])). number b a) (has_append b t.kept (one ∷ []) there);
        cast = λ b there. ⊎_elim (λ (a : Has b t.kept). recorded_later (earlier now before) (told ∷ earlier now before) b (λ x i. inr i) (k.cast b a)) (λ (a : Has b (one ∷ [])). recorded_one b a) (has_append b t.kept (one ∷ []) there);
      }
    where
      one : KeptBallot
      one = record { provider = x.provider; group = x.group; proto = o.proto; phase = o.phase; ballot = ballot_of t.level f }

      told : Happened
      told = happened.Cast x.provider o.proto o.phase f.vote f.value f.message

      recorded_one : (b : KeptBallot) → Has b (one ∷ []) → BallotRecorded (told ∷ earlier now before) b
      recorded_one b (inl z) = subst (BallotRecorded (told ∷ earlier now before)) (sym z) (record { filled = f; is = refl; there = inl refl })
      recorded_one b (inr z) = absurd z

      due : ballot_due x.provider (earlier now before) ≡ true
      due = ⊎_elim (λ (a : ballot_due x.provider (earlier now before) ≡ true). a) (λ (a : Keeps t x.provider o). absurd (let z : true ≡ false = sym (any_kept x.provider o t.kept a.ballot a.there a.of a.proto a.phase) ∙ unkept in cc)) (k.ready x.provider x o found opened)

      mine : (b : KeptBallot) (y : Provider) → Has b (one ∷ []) → find (is_provider b.provider) t.providers ≡ Some y → b.group ≡ y.group
      mine b y (inr z) q = absurd z
      mine b y (inl z) q =
          let same : y ≡ x = some_is (sym q ∙ ap (λ (m : KeptBallot). find (is_provider m.provider) t.providers) z ∙ found) in
          ap (λ (m : KeptBallot). m.group) z ∙ ap (λ (m : Provider). m.group) (sym same)

      number : (b : KeptBallot) → Has b (one ∷ []) → b.provider.join ≤ t.last_request
      number b (inl z) = subst (λ (m : KeptBallot). m.provider.join ≤ t.last_request) (sym z) last
      number b (inr z) = absurd z

      ready : (p : ProviderId) (y : Provider) (q : OpenPhase) → find (is_provider p) t.providers ≡ Some y → y.opened ≡ Some q → (b : Bool) → same_provider x.provider p ≡ b → (ballot_due p (happened.Cast x.provider o.proto o.phase f.vote f.value f.message ∷ earlier now before) ≡ true) ⊎ Keeps (keeps t x o f) p q
      ready p y q a c true e =
          let at : x.provider ≡ p = provider_same x.provider p e in
          let same : y ≡ x = some_is (sym a ∙ ap (λ z. find (is_provider z) t.providers) (sym at) ∙ found) in
          let phase : q ≡ o = some_is (sym c ∙ ap (λ (m : Provider). m.opened) same ∙ opened) in
          inr (record { ballot = one; there = append_has_right one t.kept (one ∷ []) (inl refl); of = at; proto = ap (λ (m : OpenPhase). m.proto) (sym phase); phase = ap (λ (m : OpenPhase). m.phase) (sym phase) })
      ready p y q a c false e =
          ⊎_elim (λ (z : ballot_due p (earlier now before) ≡ true). inl (ap (λ b. if b then false else ballot_due p (earlier now before)) e ∙ z)) (λ (z : Keeps t p q). inr (record { ballot = z.ballot; there = append_has_left z.ballot t.kept (one ∷ []) z.there; of = z.of; proto = z.proto; phase = z.phase })) (k.ready p y q a c)

-- ---- handing on

pub flat_has : {A B : Type 0} (f : A → List B) (y : B) (xs : List A) → Has y (flat_map f xs) → (x : A) × Has x xs × Has y (f x)
flat_has f y [] h = absurd h
flat_has f y (x ∷ xs) h =
    ⊎_elim (λ (a : Has y (f x)). (x, inl refl, a)) (λ (a : Has y (flat_map f xs)). let k = flat_has f y xs a in (k.0, inr k.1, k.2)) (has_append y (f x) (flat_map f xs) h)

pub has_flat : {A B : Type 0} (f : A → List B) (y : B) (x : A) (xs : List A) → Has x xs → Has y (f x) → Has y (flat_map f xs)
has_flat f y x [] h k = absurd h
has_flat f y x (z ∷ xs) (inl e) k = append_has_left y (f z) (flat_map f xs) (subst (λ m. Has y (f m)) e k)
has_flat f y x (z ∷ xs) (inr h) k = append_has_right y (f z) (flat_map f xs) (has_flat f y x xs h k)

-- more records
has_later : (r : Happened) (rs now : List Happened) (before : History) → Has r (earlier now before) → Has r (earlier (pushed rs now) before)
has_later r [] now before h = h
has_later r (x ∷ rs) now before h = has_later r rs (x ∷ now) before (inr h)

pub has_pushed : (r : Happened) (rs now : List Happened) (before : History) → Has r rs → Has r (earlier (pushed rs now) before)
has_pushed r [] now before h = absurd h
has_pushed r (x ∷ rs) now before (inl e) = has_later r rs (x ∷ now) before (inl e)
has_pushed r (x ∷ rs) now before (inr h) = has_pushed r rs (x ∷ now) before h

-- a ballot that came with a notice is recorded
pub brought_recorded : (v : ViewId) (h : List ℕ) (i : ℕ) (e : Entry) (st : GroupState) (level : ℕ) (ps : List ProviderId) (bs : List (Option Filled)) (now : List Happened) (before : History) (b : KeptBallot) → Has b (flat_map (λ (c : Cast). kept_by h c.provider c.cast) (casts_of e st level ps bs)) → BallotRecorded (earlier (pushed (flat_map (heard_at v h i e st) (casts_of e st level ps bs)) now) before) b
unfolding cast_records cast_record
brought_recorded v h i e st level ps bs now before b there = let f = flat_has (λ (c : Cast). kept_by h c.provider c.cast) b (casts_of e st level ps bs) there in by f.0 f.1 (f.0).cast refl f.2
  where
    rs : List Happened
    rs = flat_map (heard_at v h i e st) (casts_of e st level ps bs)

    by : (c : Cast) → Has c (casts_of e st level ps bs) → (o : Option (ProtoId × ℕ × BallotView)) → c.cast ≡ o → Has b (kept_by h c.provider o) → BallotRecorded (earlier (pushed rs now) before) b
    by c k None q z = absurd z
    by c k (Some y) q (inr z) = absurd z
    by c k (Some y) q (inl z) =
        let f = filled_with e st level ps bs c k y q in
        let r : Happened = happened.Cast c.provider y.0 y.1 (f.0).vote (f.0).value (f.0).message in
        let said : Has r (cast_records c.provider (Some y)) = subst (λ m. Has r (cast_record c.provider y.0 y.1 m)) (sym f.1) (inl refl) in
        let mine : Has r (heard_at v h i e st c) = inr (subst (λ m. Has r (cast_records c.provider m)) (sym q) said) in
        let all : Has r rs = has_flat (heard_at v h i e st) r c (casts_of e st level ps bs) k mine in
        subst (BallotRecorded (earlier (pushed rs now) before)) (sym z) (record { filled = f.0; is = f.1; there = has_pushed r rs now before all })

pub casting_handed : (n inc : ℕ) (before : History) (v : ViewId) (t : SessionState) (now : List Happened) (lens : List ℕ → ℕ) (states : List ℕ → GroupState) → Attending n inc before v t now lens states → Casting n before t now → (h : List ℕ) (st : GroupState) (e : Entry) (bs : List (Option Filled)) → Casting n before (handed_on t h (states h) st e bs) (pushed (flat_map (heard_at v h (lens h) e st) (casts_out t h (states h) st e bs)) (happened.Put n v h (lens h) e ∷ now))
unfolding casts_out
casting_handed n inc before v t now lens states at k h st e bs =
    record {
      law = run_law v h (lens h) e st before cs first (λ c z y q. (phase c z y q).0) (tt, k.law);
      others = λ p ne. run_other v h (lens h) e st before cs p first (λ c z q. ne (ap (λ (m : ProviderId). m.node) (sym q) ∙ node c z)) ∙ k.others p ne;
      ready = ready;
      taking = taking;
      group = group;
      numbered = λ b there. ⊎_elim (λ (a : Has b t.kept). let le = k.numbered b a in let z = later.last in omega arith) (λ (a : Has b new). let c = cast_of b a in let f = hearer c.0 c.1 in let le = (at.own (c.0).provider f.0 f.1).2 in let z = later.last in let same : b.provider.join ≡ (c.0).provider.join = ap (λ (m : ProviderId). m.join) c.2.1 in omega arith) (handed_from t h (states h) st e bs b there);
      cast = λ b there. ⊎_elim (λ (a : Has b t.kept). recorded_later (earlier now before) (earlier last before) b (λ r i. has_later r (flat_map (heard_at v h (lens h) e st) cs) first before (inr i)) (k.cast b a)) (λ (a : Has b new). brought_recorded v h (lens h) e st t.level ps bs first before b a) (handed_from t h (states h) st e bs b there);
    }
  where
    ps : List ProviderId
    ps = hearers t h (states h) e

    cs : List Cast
    cs = casts_of e st t.level ps bs

    w : SessionState
    w = handed_on t h (states h) st e bs

    new : List KeptBallot
    new = brought t h (states h) st e bs

    first : List Happened
    first = happened.Put n v h (lens h) e ∷ now

    last : List Happened
    last = pushed (flat_map (heard_at v h (lens h) e st) cs) first

    later : Later t w
    later = handed_later t h (states h) st e bs

    stays : Kept (beginners t h e) t w
    stays = handed_kept t h (states h) st e bs

    phase : (c : Cast) → Has c cs → (y : ProtoId × ℕ × BallotView) → c.cast ≡ Some y → InPhase e st y
    phase c z y q = in_phase e st t.level ps bs c z y q

    hearer : (c : Cast) → Has c cs → (x : Provider) × (provider_of t c.provider ≡ Some x) × (x.group ≡ h) × ((x.takes_part ≡ true) ⊎ Has c.provider (beginners t h e))
    hearer c z = hearer_found t h (states h) e c.provider (cast_has e st t.level ps bs c z)

    node : (c : Cast) → Has c cs → c.provider.node ≡ n
    node c z = let f = hearer c z in (at.own c.provider f.0 f.1).0

    -- whose ballot came
    cast_of : (b : KeptBallot) → Has b new → (c : Cast) × Has c cs × ((b.group ≡ h) × (b.provider ≡ c.provider))
    cast_of b i = let f = flat_has (λ (c : Cast). kept_by h c.provider c.cast) b cs i in (f.0, f.1, by (f.0).provider (f.0).cast f.2)
      where
        by : (p : ProviderId) (o : Option (ProtoId × ℕ × BallotView)) → Has b (kept_by h p o) → (b.group ≡ h) × (b.provider ≡ p)
        by p None z = absurd z
        by p (Some y) (inl z) = (ap (λ (m : KeptBallot). m.group) z, ap (λ (m : KeptBallot). m.provider) z)
        by p (Some y) (inr z) = absurd z

    none : is_late e ≡ true → (c : Cast) → Has c cs → c.cast ≡ None
    none late c z = by c.cast refl
      where
        by : (o : Option (ProtoId × ℕ × BallotView)) → c.cast ≡ o → o ≡ None
        by None q = refl
        by (Some y) q = absurd (late_opens e late (phase c z y q).0)

    -- what was open stays so, with what was due or kept
    unchanged : (p : ProviderId) (y : Provider) (o : OpenPhase) → provider_of w p ≡ Some y → (x : Provider) → provider_of t p ≡ Some x → x.opened ≡ Some o → ballot_due p (earlier last before) ≡ ballot_due p (earlier first before) → ((b : KeptBallot) → Has b t.kept → b.provider ≡ p → (b.group ≡ h → ⊥) ⊎ (is_late e ≡ true)) → (ballot_due p (earlier last before) ≡ true) ⊎ Keeps w p o
    unchanged p y o found x was is due how =
        ⊎_elim (λ (a : ballot_due p (earlier now before) ≡ true). inl (due ∙ a)) (λ (a : Keeps t p o). inr (record { ballot = a.ballot; there = handed_stays t h (states h) st e bs a.ballot a.there (how a.ballot a.there a.of) y (subst (λ z. provider_of w z ≡ Some y) (sym a.of) found); of = a.of; proto = a.proto; phase = a.phase })) (k.ready p x o was is)

    -- the notice opened what is open
    opened_now : (p : ProviderId) (y : Provider) (o : OpenPhase) → provider_of w p ≡ Some y → Has p ps → (asks e st p ≡ true) × (running_phase st.running ≡ Some o) → (ballot_due p (earlier last before) ≡ true) ⊎ Keeps w p o
    opened_now p y o found hears asked = by (run_own v h (lens h) e st before cs p first (asks_opens e st p asked.0))
      where
        by : (ballot_due p (earlier last before) ≡ true) ⊎ (CastIn v h (lens h) e st before cs p ⊎ ((ballot_due p (earlier last before) ≡ ballot_due p (earlier first before)) × ((c : Cast) → Has c cs → c.provider ≡ p → ⊥))) → (ballot_due p (earlier last before) ≡ true) ⊎ Keeps w p o
        by (inl z) = inl z
        by (inr (inr z)) = let c = has_cast e st t.level ps bs p hears in absurd (z.1 c.0 c.1 c.2)
        by (inr (inl z)) =
            let b : KeptBallot = record { provider = z.cast.provider; group = h; proto = (z.given).0; phase = (z.given).1; ballot = (z.given).2 } in
            let there : Has b (kept_by h z.cast.provider z.cast.cast) = subst (λ m. Has b (kept_by h z.cast.provider m)) (sym z.is) (inl refl) in
            let same : o ≡ record { proto = (z.given).0; phase = (z.given).1 } = some_is (sym asked.1 ∙ (phase z.cast z.there z.given z.is).1) in
            inr (record { ballot = b; there = handed_brings t h (states h) st e bs b (has_flat (λ (c : Cast). kept_by h c.provider c.cast) b z.cast cs z.there there) y (subst (λ m. provider_of w m ≡ Some y) (sym z.by) found); of = z.by; proto = ap (λ (m : OpenPhase). m.proto) (sym same); phase = ap (λ (m : OpenPhase). m.phase) (sym same) })

    -- whoever did not hear is of another group, where it takes part
    elsewhere : (p : ProviderId) (x : Provider) (o : OpenPhase) → provider_of t p ≡ Some x → x.opened ≡ Some o → (Has p ps → ⊥) → x.group ≡ h → ⊥
    elsewhere p x o was is out same =
        let part : x.takes_part ≡ true = k.taking p x o was is in
        out (present_hears t h (states h) e p x was part same (subst (λ z. Has p (present (states z))) same (at.here p x was part)))

    of_open : (p : ProviderId) (o : OpenPhase) → (b : Bool) → (if b then running_phase st.running else None) ≡ Some o → (b ≡ true) × (running_phase st.running ≡ Some o)
    of_open p o true q = (refl, q)
    of_open p o false q = absurd (cc)

    ready : (p : ProviderId) (y : Provider) (o : OpenPhase) → provider_of w p ≡ Some y → y.opened ≡ Some o → (ballot_due p (earlier last before) ≡ true) ⊎ Keeps w p o
    ready p y o found is = let f = handed_open t h (states h) st e bs p y found in by f.0 f.1 f.2
      where
        by : (x : Provider) → provider_of t p ≡ Some x → Opening e st ps p x y → (ballot_due p (earlier last before) ≡ true) ⊎ Keeps w p o
        by x was (inl z) = opened_now p y o found z.1 (of_open p o (asks e st p) (sym z.0 ∙ is))
        by x was (inr z) = how z.1
          where
            old : x.opened ≡ Some o
            old = sym z.0 ∙ is

            how : (is_late e ≡ true) ⊎ (Has p ps → ⊥) → (ballot_due p (earlier last before) ≡ true) ⊎ Keeps w p o
            how (inl late) = unchanged p y o found x was old (run_late v h (lens h) e st before cs p first late (none late)) (λ b there of. inr late)
            how (inr out) =
                unchanged p y o found x was old (run_other v h (lens h) e st before cs p first (λ c z q. out (subst (λ m. Has m ps) q (cast_has e st t.level ps bs c z)))) (λ b there of. inl (λ same. elsewhere p x o was old out (sym (k.group b x there (subst (λ m. provider_of t m ≡ Some x) (sym of) was)) ∙ same)))

    taking : (p : ProviderId) (y : Provider) (o : OpenPhase) → provider_of w p ≡ Some y → y.opened ≡ Some o → y.takes_part ≡ true
    taking p y o found is = let f = handed_open t h (states h) st e bs p y found in by f.0 f.1 f.2
      where
        on : (x : Provider) → provider_of t p ≡ Some x → x.takes_part ≡ true → y.takes_part ≡ true
        on x was part = let b = stays.back p y found in b.3 (ap (λ (z : Provider). z.takes_part) (some_is (sym b.1 ∙ was)) ∙ part)

        by : (x : Provider) → provider_of t p ≡ Some x → Opening e st ps p x y → y.takes_part ≡ true
        by x was (inl z) =
            let f = hearer_found t h (states h) e p z.1 in
            ⊎_elim (λ (a : (f.0).takes_part ≡ true). on f.0 f.1 a) (λ (a : Has p (beginners t h e)). handed_begun t h (states h) st e bs p a y found) f.3
        by x was (inr z) = on x was (k.taking p x o was (sym z.0 ∙ is))

    group : (b : KeptBallot) (y : Provider) → Has b w.kept → provider_of w b.provider ≡ Some y → b.group ≡ y.group
    group b y there found = let f = stays.back b.provider y found in ⊎_elim (λ (a : Has b t.kept). k.group b f.0 a f.1 ∙ sym f.2) (λ (a : Has b new). let c = cast_of b a in let g = hearer c.0 c.1 in c.2.0 ∙ sym g.2 ∙ ap (λ (z : Provider). z.group) (some_is (sym g.1 ∙ ap (λ z. provider_of t z) (sym c.2.1) ∙ f.1)) ∙ sym f.2) (handed_from t h (states h) st e bs b there)
