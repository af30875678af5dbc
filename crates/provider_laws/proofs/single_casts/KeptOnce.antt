-- A node keeps at most one ballot of a provider for a phase of a protocol.
use Rattle.std.proofs.Common.{◌≡◌, ℕ, ◌+◌, List, [], ◌∷◌, ◌++◌, Option, Some, None, Bool, true, false, refl, sym, ap, ◌∙◌, subst, inl, inr, ⊎_elim}
use Rattle.std.specs.Prelude.{reverse, filter, flat_map, if◌then◌else◌}
use Rattle.std.specs.List.{list_any}
use Rattle.rsct_packet.specs.declared.ids.ViewId.{ViewId}
use Rattle.rsct_packet.specs.declared.ids.ProviderId.{ProviderId}
use Rattle.rsct_packet.specs.declared.ids.ProtoId.{ProtoId}
use Rattle.rsct_packet.specs.Search.{Has}
use Rattle.rsct_packet.proofs.HasLaws.{has_filter, has_append}
use Rattle.proposal_core.specs.declared.entry.Entry.{Entry}
use Rattle.proposal_core.specs.declared.group_state.GroupState.{GroupState}
use Rattle.client_callbacks.specs.declared.ballot.Filled.{Filled}
use Rattle.client_callbacks.specs.Ballots.{BallotView}
use Rattle.client_callbacks.specs.declared.told.Why.TheVariants.{Dissolved}
use Rattle.session_state.specs.declared.casts.Cast.{Cast}
use Rattle.session_state.specs.declared.state.OpenPhase.{OpenPhase}
use Rattle.session_state.specs.declared.state.KeptBallot.{KeptBallot}
use Rattle.session_state.specs.declared.state.Provider.{Provider}
use Rattle.session_state.specs.declared.state.SessionState.{SessionState}
use Rattle.session_state.specs.State.{is_kept_for}
use Rattle.session_state.specs.Calls.{join_asked, keeps, ballot_of}
use Rattle.session_state.specs.HandOn.{hearers, casts_out, casts_of, kept_by, handed_on}
use Rattle.view_state.specs.declared.install.Install.{Install}
use Rattle.view_state.specs.Bases.{bases_of}
use Rattle.node_state.specs.declared.config.Config.{Config}
use Rattle.node_state.specs.declared.happened.Happened.{Happened}
use Rattle.node_state.specs.declared.happened.Happened.TheVariants as happened
use Rattle.node_state.specs.declared.state.Core.{Core}
use Rattle.node_state.specs.State.{state_of, len_of, row_of, list_of, with_row, held_rows, recorded, recorded_all, with_sessions}
use Rattle.node_state.specs.HandOn.{Answering, cast_record, cast_records, heard}
use Rattle.node_state.specs.Leading.{put}
use Rattle.node_state.specs.Applying.{level_set, view_entered, dissolved}
use Rattle.node_state.specs.Step.{NodeEvent, at_work, stepped, started}
use Rattle.world_model.specs.declared.event.Event.{Event}
use Rattle.run_safety.specs.Past.{History, Within, earlier}
use Rattle.step_refinement.specs.Tied.{Scene}
use Rattle.step_refinement.specs.Rules.{ended}
use Rattle.step_refinement.specs.Runs.{Reached}
use Rattle.step_refinement.proofs.RunLaw.{reached_rests}
use Rattle.run_induction.proofs.Ran.{anyhow, ran_reached, reached_ran}
use Rattle.run_induction.proofs.Laws.{UpClaim, UpLaw, up_holds}
use Rattle.row_laws.specs.hearing.Changes.{Fewer, Same, handing, entering, Does, Stays, Then, Records, Hands, Loses, Joins, Votes, Enters}
use Rattle.row_laws.proofs.hearing.Sessions.{fewer_told}
use Rattle.row_laws.proofs.hearing.Attending.{pushed, pushed_append, heard_at}
use Rattle.row_laws.proofs.hearing.Viewing.{Makes, once_does, step_comes}
use Rattle.row_laws.proofs.hearing.Doing.{Hearing, hearing_does}
use Rattle.row_laws.proofs.hearing.Listening.{Rested, reached_attends}
use Rattle.provider_laws.specs.single_casts.Single.{NotCastBefore, SameBallot, Apart, OneBallotKept}
use Rattle.provider_laws.proofs.single_casts.Handed.{handed_apart}
use Rattle.provider_laws.proofs.single_casts.Asking.{filled_with}
use Rattle.provider_laws.proofs.single_casts.Casting.{any_kept, flat_has, has_flat, has_pushed}
use Rattle.provider_laws.proofs.attending.Sides.{sides_keep}
use Rattle.provider_laws.proofs.single_casts.Going.{within_does}
use Rattle.provider_laws.proofs.single_casts.Doing.{Held, casting_does}
use Rattle.provider_laws.proofs.single_casts.Law.{Bare, start_bare, node_casts}
use Rattle.provider_laws.proofs.single_casts.Once.{cast_once}
use Rattle.provider_laws.proofs.attending.Hands.{handing_said}

abbrev OnceCast : List Happened → History → Happened → Type 0
OnceCast now before r = NotCastBefore (earlier now before) r

abbrev Said : KeptBallot → Filled → Happened
Said k f = happened.Cast k.provider k.proto k.phase f.vote f.value f.message

-- ---- what is cast among later records was not cast before them

cast_new : (rs now : List Happened) (before : History) (p : ProviderId) (proto : ProtoId) (phase : ℕ) (f h : Filled) → Within OnceCast (pushed rs now) before → Has (happened.Cast p proto phase f.vote f.value f.message) rs → Has (happened.Cast p proto phase h.vote h.value h.message) (earlier now before) → ⊥
cast_new [] now before p proto phase f h k a b = a
cast_new (r ∷ rs) now before p proto phase f h k (inr a) b = cast_new rs (r ∷ now) before p proto phase f h k a (inr b)
cast_new (r ∷ rs) now before p proto phase f h k (inl a) b =
    subst (NotCastBefore (earlier now before)) (sym a) (tail rs (r ∷ now) k).0 h.vote h.value h.message b
  where
    tail : (rs now : List Happened) → Within OnceCast (pushed rs now) before → Within OnceCast now before
    tail [] now k = k
    tail (r ∷ rs) now k = (tail rs (r ∷ now) k).1

-- ---- the ballots that come with a notice

module _ (v : ViewId) (h : List ℕ) (i : ℕ) (e : Entry) (st : GroupState) (before : History) where
  abbrev all : List Cast → List Happened
  all cs = flat_map (heard_at v h i e st) cs

  abbrev come : List Cast → List KeptBallot
  come cs = flat_map (λ (c : Cast). kept_by h c.provider c.cast) cs

  abbrev Filled_in : List Cast → Type 0
  Filled_in cs = (c : Cast) → Has c cs → (y : ProtoId × ℕ × BallotView) → c.cast ≡ Some y → (f : Filled) × ((y.2).filled ≡ Some f)

  -- each is cast with it
  one_said : (p : ProviderId) (o : Option (ProtoId × ℕ × BallotView)) (b : KeptBallot) → ((y : ProtoId × ℕ × BallotView) → o ≡ Some y → (f : Filled) × ((y.2).filled ≡ Some f)) → Has b (kept_by h p o) → (f : Filled) × Has (Said b f) (happened.Heard p v h i e st.members st.value ∷ cast_records p o)
  unfolding cast_records cast_record
  one_said p None b filled z = absurd z
  one_said p (Some y) b filled (inr z) = absurd z
  one_said p (Some y) b filled (inl z) =
      let f = filled y refl in
      let r : Happened = happened.Cast p y.0 y.1 (f.0).vote (f.0).value (f.0).message in
      let said : Has r (cast_records p (Some y)) = subst (λ m. Has r (cast_record p y.0 y.1 m)) (sym f.1) (inl refl) in
      (f.0, inr (subst (λ (k : KeptBallot). Has (Said k f.0) (cast_records p (Some y))) (sym z) said))

  all_said : (cs : List Cast) (b : KeptBallot) → Filled_in cs → Has b (come cs) → (f : Filled) × Has (Said b f) (all cs)
  all_said cs b filled there =
      let k = flat_has (λ (c : Cast). kept_by h c.provider c.cast) b cs there in
      let s = one_said (k.0).provider (k.0).cast b (filled k.0 k.1) k.2 in
      (s.0, has_flat (heard_at v h i e st) (Said b s.0) k.0 cs k.1 s.1)

  -- so they are apart
  come_apart : (cs : List Cast) (now : List Happened) → Filled_in cs → Within OnceCast (pushed (all cs) now) before → Apart (come cs)
  come_apart [] now filled k = tt
  come_apart (c ∷ cs) now filled k =
      let rest : Within OnceCast (pushed (all cs) (pushed (heard_at v h i e st c) now)) before = subst (λ l. Within OnceCast l before) (pushed_append (heard_at v h i e st c) (all cs) now) k in
      with c.cast refl (come_apart cs (pushed (heard_at v h i e st c) now) (λ d z. filled d (inr z)) rest) rest
    where
      apart : (b d : KeptBallot) → Has b (kept_by h c.provider c.cast) → Within OnceCast (pushed (all cs) (pushed (heard_at v h i e st c) now)) before → Has d (come cs) → SameBallot b d → ⊥
      apart b d mine rest there same =
          let x = one_said c.provider c.cast b (filled c (inl refl)) mine in
          let y = all_said cs d (λ g z. filled g (inr z)) there in
          cast_new (all cs) (pushed (heard_at v h i e st c) now) before d.provider d.proto d.phase y.0 x.0 rest y.1 (subst (λ (z : ProviderId × ProtoId × ℕ). Has (happened.Cast z.0 z.1 z.2 (x.0).vote (x.0).value (x.0).message) (earlier (pushed (heard_at v h i e st c) now) before)) (λ k. (same.0 k, same.1 k, same.2 k)) (has_pushed (Said b x.0) (heard_at v h i e st c) now before x.1))

      with : (o : Option (ProtoId × ℕ × BallotView)) → c.cast ≡ o → Apart (come cs) → Within OnceCast (pushed (all cs) (pushed (heard_at v h i e st c) now)) before → Apart (kept_by h c.provider o ++ come cs)
      with None q old rest = old
      with (Some y) q old rest =
          (λ d there same. apart _ d (subst (λ o. Has (record { provider = c.provider; group = h; proto = y.0; phase = y.1; ballot = y.2 }) (kept_by h c.provider o)) (sym q) (inl refl)) rest there same, old)

-- ---- lists

apart_filter : (f : KeptBallot → Bool) (ks : List KeptBallot) → Apart ks → Apart (filter f ks)
apart_filter f [] k = tt
apart_filter f (x ∷ ks) k = by (f x) (apart_filter f ks k.1)
  where
    by : (b : Bool) → Apart (filter f ks) → Apart (if b then x ∷ filter f ks else filter f ks)
    by true rest = (λ l h. k.0 l (has_filter f l ks h).0, rest)
    by false rest = rest

apart_fewer : (s t : SessionState) → Fewer s t → Apart s.kept → Apart t.kept
apart_fewer s t f k = subst Apart (sym f.rest.1) (apart_filter f.rest.0 s.kept k)

apart_append : (xs ys : List KeptBallot) → Apart xs → Apart ys → ((a b : KeptBallot) → Has a xs → Has b ys → SameBallot a b → ⊥) → Apart (xs ++ ys)
apart_append [] ys a b cross = b
apart_append (x ∷ xs) ys a b cross =
    (λ l h. ⊎_elim (λ (z : Has l xs). a.0 l z) (λ (z : Has l ys). cross x l (inl refl) z) (has_append l xs ys h), apart_append xs ys a.1 b (λ y z i j. cross y z (inr i) j))

-- ---- changes

entering_apart : (s : Core) (i : Install) → Apart s.sessions.kept → Apart (entering s i).sessions.kept
unfolding view_entered recorded_all level_set dissolved recorded with_sessions
entering_apart s i k = sides_keep (λ c. Apart c.sessions.kept) (λ c p r a. apart_fewer c.sessions _ (fewer_told c.sessions p r Dissolved) a) (held_rows s) s.views.view (bases_of i) (view_entered s i (bases_of i)) k

module _ (n inc : ℕ) (before : History) where
  apart_hands : (s c : Core) (h : List ℕ) (e : Entry) (bs : List (Option Filled)) → Same (put s h e) c → Within OnceCast (reverse (handing c h (len_of s h) (state_of s h) (state_of (put s h e) h) e bs).records) before → Held n inc before s → Apart s.sessions.kept → Apart (handing c h (len_of s h) (state_of s h) (state_of (put s h e) h) e bs).sessions.kept
  unfolding put recorded recorded_all with_sessions heard with_row casts_out
  apart_hands s c h e bs same casts held k =
      subst (λ (z : SessionState). Apart (handed_on z h (state_of s h) st e bs).kept) (sym same.sessions) (handed_apart s.sessions h (state_of s h) st e bs apart_filter apart_append k (come_apart s.views.view h (len_of s h) e st before cs first filled said) cross)
    where
      st : GroupState
      st = state_of (put s h e) h

      cs : List Cast
      cs = casts_of e st s.sessions.level (hearers s.sessions h (state_of s h) e) bs

      first : List Happened
      first = happened.Put s.views.me s.views.view h (len_of s h) e ∷ reverse s.records

      filled : Filled_in s.views.view h (len_of s h) e st before cs
      filled x z y q = filled_with e st s.sessions.level (hearers s.sessions h (state_of s h) e) bs x z y q

      said : Within OnceCast (pushed (flat_map (heard_at s.views.view h (len_of s h) e st) cs) first) before
      said = subst (λ l. Within OnceCast l before) (handing_said s.views.me s c h e bs same refl) casts

      cross : (a b : KeptBallot) → Has a s.sessions.kept → Has b (flat_map (λ (x : Cast). kept_by h x.provider x.cast) cs) → SameBallot a b → ⊥
      cross a b i j q =
          let x = held.cast a i in
          let y = all_said s.views.view h (len_of s h) e st before cs b filled j in
          cast_new (flat_map (heard_at s.views.view h (len_of s h) e st) cs) first before b.provider b.proto b.phase y.0 x.filled said y.1 (inr (subst (λ (z : ProviderId × ProtoId × ℕ). Has (happened.Cast z.0 z.1 z.2 x.filled.vote x.filled.value x.filled.message) (earlier (reverse s.records) before)) (λ k. (q.0 k, q.1 k, q.2 k)) x.there))

  apart_votes : (t : SessionState) (x : Provider) (o : OpenPhase) (f : Filled) → list_any (is_kept_for x.provider o.proto o.phase) t.kept ≡ false → Apart t.kept → Apart (keeps t x o f).kept
  apart_votes t x o f unkept k = apart_append t.kept (one ∷ []) k ((λ l z. absurd z), tt) cross
    where
      one : KeptBallot
      one = record { provider = x.provider; group = x.group; proto = o.proto; phase = o.phase; ballot = ballot_of t.level f }

      cross : (a b : KeptBallot) → Has a t.kept → Has b (one ∷ []) → SameBallot a b → ⊥
      cross a b i (inr z) q = z
      cross a b i (inl z) q =
          let u : true ≡ false = sym (any_kept x.provider o t.kept a i (q.0 ∙ ap (λ (m : KeptBallot). m.provider) z) (q.1 ∙ ap (λ (m : KeptBallot). m.proto) z) (q.2 ∙ ap (λ (m : KeptBallot). m.phase) z)) ∙ unkept in absurd (cc)

  apart_does : (s t : Core) → Does s t → Within OnceCast (reverse t.records) before → Hearing n inc before s → Held n inc before s → Apart s.sessions.kept → Apart t.sessions.kept
  unfolding recorded with_sessions join_asked
  apart_does _ _ (Stays s t same) casts hear held k = subst (λ (z : SessionState). Apart z.kept) (sym same.sessions) k
  apart_does _ _ (Then s t u a b) casts hear held k =
      let early = within_does OnceCast before t u b casts in
      apart_does t u b casts (hearing_does n inc before s t a hear) (casting_does n inc before s t a hear held) (apart_does s t a early hear held k)
  apart_does _ _ (Records s r a) casts hear held k = k
  apart_does _ _ (Hands s c h e bs o same) casts hear held k = apart_hands s c h e bs same casts held k
  apart_does _ _ (Loses s t f) casts hear held k = apart_fewer s.sessions t f k
  apart_does _ _ (Joins s t g instance attrs none) casts hear held k = k
  apart_does _ _ (Votes s x o b found opened unkept) casts hear held k = apart_votes s.sessions x o b unkept k
  apart_does _ _ (Enters s i lt none) casts hear held k = entering_apart s i k

-- ---- every scene

kept_none : (t : SessionState) → Bare t → Apart t.kept
kept_none t bare = subst Apart (sym bare.1) tt

abbrev keeping : UpClaim
keeping = record { sent = λ h x. Unit {0}; node = λ m inc ps h d. Apart d.sessions.kept; lines = λ h. Unit {0} }

step_apart : (c : Config) (w : Scene) (n : ℕ) (f : Answering) (s : Core) (e : NodeEvent) (v : Event) → Reached c w → Reached c (ended w n v (stepped f s e)) → w.cores n ≡ Some s → Apart s.sessions.kept → Apart (stepped f s e).sessions.kept
unfolding len_of state_of list_of row_of
step_apart c w n f s e v k next up old =
    let t : Core = stepped f s e in
    let rested : Rested (w.incs n) w.before n s = (reached_attends c w k).up n s up in
    let makes : Makes (at_work s) t = step_comes f s e ((reached_rests c w k []).turns n s up).owner rested.fit in
    let began : Hearing n (w.incs n) w.before (at_work s) = record { me = rested.me; inc_of = rested.inc_of; at = rested.at } in
    apart_does n (w.incs n) w.before (at_work s) t (once_does (at_work s) t makes.once) (cast_once c (ended w n v t) next).0 began (node_casts c w k n s up).up old

kept_apart : (c : Config) → UpLaw anyhow c keeping
kept_apart c =
    record {
      none = tt;
      sent_on = λ e h x k. tt;
      stays = λ w e t o m d up all k. k;
      comes = λ w e t o m came down. kept_none (started c m (w.incs m + 1)).sessions (start_bare c m (w.incs m + 1));
      lines_on = λ w e t o k. tt;
      steps = λ w n f s e v r next up arises told h k. record { sends = λ x i. tt; node = step_apart c w n f s e v (ran_reached anyhow c w r) (ran_reached anyhow c (ended w n v (stepped f s e)) next) up k; others = λ m ne d is a. a; lines = tt };
    }

pub one_kept : OneBallotKept
one_kept c w k n s up = up_holds anyhow c keeping (kept_apart c) w (reached_ran c w k) n s up
