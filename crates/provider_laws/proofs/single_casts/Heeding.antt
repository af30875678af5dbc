-- Where a node stands with the phases that its providers heard opened: each is past, or runs.
use Rattle.std.proofs.Common.{◌≡◌, ◌≢◌, ◌≤◌, ◌<◌, ℕ, ◌+◌, List, [], ◌∷◌, Option, Some, None, Bool, true, false, refl, sym, ap, ◌∙◌, subst, inl, inr, ◌⊎◌, ⊎_elim, arith}
use Rattle.std.specs.Prelude.{◌&&◌, find, flat_map, if◌then◌else◌}
use Rattle.std.specs.Str.{bytes_eq}
use Rattle.rsct_packet.specs.declared.ids.ViewId.{ViewId}
use Rattle.rsct_packet.specs.declared.ids.ProviderId.{ProviderId}
use Rattle.rsct_packet.specs.declared.ids.ProtoId.{ProtoId}
use Rattle.rsct_packet.specs.Ids.{same_view}
use Rattle.rsct_packet.specs.Providers.{same_provider}
use Rattle.rsct_packet.specs.Search.{Has}
use Rattle.rsct_packet.proofs.HasLaws.{has_filter}
use Rattle.group_attr.specs.declared.attrs.Attrs.{Attrs}
use Rattle.proposal_core.specs.declared.entry.Entry.{Entry}
use Rattle.proposal_core.specs.declared.entry.Entry.TheVariants.{Begin, Phase}
use Rattle.proposal_core.specs.declared.group_state.GroupState.{GroupState}
use Rattle.proposal_core.specs.Fold.{fits, after}
use Rattle.client_callbacks.specs.declared.ballot.Filled.{Filled}
use Rattle.client_callbacks.specs.Ballots.{BallotView}
use Rattle.subscribe_core.specs.declared.subs.ClientToken.{ClientToken}
use Rattle.session_state.specs.declared.casts.Cast.{Cast}
use Rattle.session_state.specs.declared.state.OpenPhase.{OpenPhase}
use Rattle.session_state.specs.declared.state.Provider.{Provider}
use Rattle.session_state.specs.declared.state.SessionState.{SessionState}
use Rattle.session_state.specs.State.{is_provider, provider_of}
use Rattle.session_state.specs.Calls.{new_provider, join_asked, keeps}
use Rattle.session_state.specs.HandOn.{hears, hearers_in, brought_by, opens_phase, running_phase, beginners, hearers, casts_out, casts_of, handed_on}
use Rattle.node_state.specs.declared.happened.Happened.{Happened}
use Rattle.node_state.specs.declared.happened.Happened.TheVariants as happened
use Rattle.node_state.specs.HandOn.{cast_records}
use Rattle.run_safety.specs.Past.{History, Within, earlier, records_of}
use Rattle.node_state.proofs.NameOrder.{cases_text}
use Rattle.step_refinement.proofs.SessionLaws.{Later, handed_later, cast_has}
use Rattle.row_laws.specs.hearing.Hearing.{last_heard}
use Rattle.row_laws.specs.hearing.Changes.{Fewer}
use Rattle.row_laws.proofs.hearing.Handing.{Kept, handed_kept, handed_begun, hearer_found, new_hears, some_is}
use Rattle.row_laws.proofs.hearing.Attending.{Attending, pushed, pushed_append, heard_at, heard_own}
use Rattle.provider_laws.specs.single_casts.Ballots.{opens}
use Rattle.provider_laws.specs.single_casts.Single.{HeardOpened, NotReopened}
use Rattle.provider_laws.proofs.single_casts.Asking.{Silent}
use Rattle.provider_laws.proofs.single_casts.Opening.{opens_running}
use Rattle.provider_laws.proofs.single_casts.Phases.{Placed, placed_more, RunsPlaced, Beyond, after_changes, runs_on, beyond_on, opens_new, opens_placed, joins_idle}
use Rattle.provider_laws.proofs.attending.Staying.{found_joined}
use Rattle.provider_laws.proofs.attending.Turns.{casts_keep}

-- ---- what one record lets a provider hear opened

abbrev pub HeardBy : Happened → ProviderId → OpenPhase → Type 0
HeardBy (happened.Heard q v g i e ms value) p o = (q ≡ p) × (opens e v i ≡ Some o)
HeardBy _ p o = ⊥

pub opened_back : (r : Happened) (rs : List Happened) (p : ProviderId) (o : OpenPhase) → HeardOpened (r ∷ rs) p o → HeardOpened rs p o ⊎ HeardBy r p o
opened_back r rs p o k = by k.there
  where
    by : (happened.Heard p k.view k.group k.place k.entry k.members k.value ≡ r) ⊎ Has (happened.Heard p k.view k.group k.place k.entry k.members k.value) rs → HeardOpened rs p o ⊎ HeardBy r p o
    by (inl e) = inr (subst (λ z. HeardBy z p o) e (refl, k.opened))
    by (inr h) = inl (record { view = k.view; group = k.group; place = k.place; entry = k.entry; members = k.members; value = k.value; there = h; opened = k.opened })

silent_by : (r : Happened) (p : ProviderId) (o : OpenPhase) → Silent r → HeardBy r p o → ⊥
silent_by (happened.Heard q v g i e ms value) p o a h = a
silent_by (happened.Cast q proto phase vote value message) p o a h = a
silent_by _ p o a h = h

pub silent_opened : (r : Happened) (rs : List Happened) (p : ProviderId) (o : OpenPhase) → Silent r → HeardOpened (r ∷ rs) p o → HeardOpened rs p o
silent_opened r rs p o a k = ⊎_elim (λ (z : HeardOpened rs p o). z) (λ (z : HeardBy r p o). absurd (silent_by r p o a z)) (opened_back r rs p o k)

cast_opened : (q : ProviderId) (proto : ProtoId) (phase : ℕ) (f : Filled) (rs : List Happened) (p : ProviderId) (o : OpenPhase) → HeardOpened (happened.Cast q proto phase f.vote f.value f.message ∷ rs) p o → HeardOpened rs p o
cast_opened q proto phase f rs p o k = ⊎_elim (λ (z : HeardOpened rs p o). z) (λ (z : ⊥). absurd z) (opened_back (happened.Cast q proto phase f.vote f.value f.message) rs p o k)

abbrev pub Anew : List Happened → History → Happened → Type 0
Anew now before r = NotReopened (earlier now before) r

pub silent_anew : (now : List Happened) (before : History) (r : Happened) → Silent r → Anew now before r
silent_anew now before (happened.Heard p v g i e ms value) a = absurd a
silent_anew now before _ a = tt

-- ---- a node

pub record Heeding (n inc : ℕ) (before : History) (v : ViewId) (t : SessionState) (now : List Happened) (lens : List ℕ → ℕ) (states : List ℕ → GroupState) : Type 0 where
  pub law : Within Anew now before
  pub others : (p : ProviderId) (o : OpenPhase) → p.node ≢ n → HeardOpened (earlier now before) p o → HeardOpened (records_of before) p o
  pub unheard : (p : ProviderId) (x : Provider) (o : OpenPhase) → provider_of t p ≡ Some x → x.takes_part ≡ false → HeardOpened (earlier now before) p o → ⊥
  pub numbered : (p : ProviderId) (o : OpenPhase) → p.node ≡ n → HeardOpened (earlier now before) p o → (p.inc < inc) ⊎ (p.join ≤ t.last_request)
  pub runs : (p : ProviderId) (x : Provider) → provider_of t p ≡ Some x → x.takes_part ≡ true → RunsPlaced (states x.group).running v (lens x.group)
  pub opened : (p : ProviderId) (x : Provider) (o : OpenPhase) → provider_of t p ≡ Some x → x.takes_part ≡ true → HeardOpened (earlier now before) p o → Placed o.proto v (lens x.group) × Beyond o (states x.group).running

module _ (n inc : ℕ) (before : History) (v : ViewId) (lens : List ℕ → ℕ) (states : List ℕ → GroupState) where
  -- a record by which nothing is heard opened
  abbrev Mute : Happened → Type 0
  Mute r = (rs : List Happened) (p : ProviderId) (o : OpenPhase) → HeardOpened (r ∷ rs) p o → HeardOpened rs p o

  heeding_mute : (t : SessionState) (now : List Happened) (r : Happened) → Anew now before r → Mute r → Heeding n inc before v t now lens states → Heeding n inc before v t (r ∷ now) lens states
  heeding_mute t now r law mute k =
      record {
        law = (law, k.law);
        others = λ p o ne h. k.others p o ne (mute (earlier now before) p o h);
        unheard = λ p x o q z h. k.unheard p x o q z (mute (earlier now before) p o h);
        numbered = λ p o m h. k.numbered p o m (mute (earlier now before) p o h);
        runs = k.runs;
        opened = λ p x o q z h. k.opened p x o q z (mute (earlier now before) p o h);
      }

  pub heeding_silent : (t : SessionState) (now : List Happened) (r : Happened) → Silent r → Heeding n inc before v t now lens states → Heeding n inc before v t (r ∷ now) lens states
  heeding_silent t now r a k = heeding_mute t now r (silent_anew now before r a) (λ rs p o h. silent_opened r rs p o a h) k

  pub heeding_fewer : (t s : SessionState) (now : List Happened) → Fewer t s → Heeding n inc before v t now lens states → Heeding n inc before v s now lens states
  heeding_fewer t s now f k =
      record {
        law = k.law;
        others = k.others;
        unheard = λ p x o q z h. k.unheard p x o (f.providers p x q) z h;
        numbered = λ p o m h. ⊎_elim (λ (a : p.inc < inc). inl a) (λ (a : p.join ≤ t.last_request). inr (on p a)) (k.numbered p o m h);
        runs = λ p x q z. k.runs p x (f.providers p x q) z;
        opened = λ p x o q z h. k.opened p x o (f.providers p x q) z h;
      }
    where
      on : (p : ProviderId) → p.join ≤ t.last_request → p.join ≤ s.last_request
      on p le = let z = f.last in omega (arith, le, z)

  pub heeding_joined : (t : SessionState) (c : ClientToken) (h : List ℕ) (instance : ℕ) (attrs : Attrs) (now : List Happened) → t.me ≡ n → t.inc ≡ inc → Heeding n inc before v t now lens states → Heeding n inc before v (join_asked t c h instance attrs) now lens states
  unfolding join_asked provider_of
  heeding_joined t c h instance attrs now me inc_is k =
      record {
        law = k.law;
        others = k.others;
        unheard = λ p x o q z there. ⊎_elim (λ (a : find (is_provider p) t.providers ≡ Some x). k.unheard p x o a z there) (λ (a : (x ≡ y) × (p ≡ y.provider)). new p o a.1 there) (found_joined y p t.providers x q);
        numbered = λ p o m there. ⊎_elim (λ (a : p.inc < inc). inl a) (λ (a : p.join ≤ t.last_request). inr (omega (arith, a))) (k.numbered p o m there);
        runs = λ p x q z. ⊎_elim (λ (a : find (is_provider p) t.providers ≡ Some x). k.runs p x a z) (λ (a : (x ≡ y) × (p ≡ y.provider)). absurd (let b : false ≡ true = ap (λ (m : Provider). m.takes_part) (sym a.0) ∙ z in cc)) (found_joined y p t.providers x q);
        opened = λ p x o q z there. ⊎_elim (λ (a : find (is_provider p) t.providers ≡ Some x). k.opened p x o a z there) (λ (a : (x ≡ y) × (p ≡ y.provider)). absurd (let b : false ≡ true = ap (λ (m : Provider). m.takes_part) (sym a.0) ∙ z in cc)) (found_joined y p t.providers x q);
      }
    where
      y : Provider
      y = record { provider = new_provider t instance; client = c; group = h; takes_part = false; opened = None }

      -- under a number that none has
      new : (p : ProviderId) (o : OpenPhase) → p ≡ y.provider → HeardOpened (earlier now before) p o → ⊥
      new p o e there =
          let node : p.node ≡ n = ap (λ (z : ProviderId). z.node) e ∙ me in
          let same : p.inc ≡ inc = ap (λ (z : ProviderId). z.inc) e ∙ inc_is in
          let number : p.join ≡ t.last_request + 1 = ap (λ (z : ProviderId). z.join) e in
          ⊎_elim (λ (a : p.inc < inc). omega (arith, a, same)) (λ (a : p.join ≤ t.last_request). omega (arith, a, number)) (k.numbered p o node there)

  pub heeding_votes : (t : SessionState) (x : Provider) (o : OpenPhase) (f : Filled) (now : List Happened) → Heeding n inc before v t now lens states → Heeding n inc before v (keeps t x o f) (happened.Cast x.provider o.proto o.phase f.vote f.value f.message ∷ now) lens states
  unfolding provider_of
  heeding_votes t x o f now k =
      let a = heeding_mute t now (happened.Cast x.provider o.proto o.phase f.vote f.value f.message) tt (λ rs p q h. cast_opened x.provider o.proto o.phase f rs p q h) k in
      record { law = a.law; others = a.others; unheard = a.unheard; numbered = a.numbered; runs = a.runs; opened = a.opened }

-- ---- handing on

-- what a provider hears of a list is no place that it heard last
abbrev pub NoneAgain : Option ℕ → ℕ → Type 0
NoneAgain o i = o ≡ Some i → ⊥

abbrev pub PlaceAnew : List Happened → History → Happened → Type 0
PlaceAnew now before (happened.Heard p v g i e ms value) = NoneAgain (last_heard p v g (earlier now before)) i
PlaceAnew now before _ = Unit {0}

within_tail : (rs now : List Happened) (before : History) → Within PlaceAnew (pushed rs now) before → Within PlaceAnew now before
within_tail [] now before k = k
within_tail (r ∷ rs) now before k = (within_tail rs (r ∷ now) before k).1

opens_some : (e : Entry) (v : ViewId) (i : ℕ) (o : OpenPhase) → opens e v i ≡ Some o → opens_phase e ≡ true
opens_some (Begin x) v i o q = refl
opens_some (Phase c) v i o q = refl
opens_some _ v i o q = absurd (cc)

-- who begins is named by the entry's join
joiner : (t : SessionState) (h : List ℕ) (e : Entry) (p : ProviderId) → Has p (beginners t h e) → Has p (brought_by e)
unfolding beginners hearers_in
joiner t h e p new = (has_filter (λ p. hears h false (provider_of t p)) p (brought_by e) new).0

module _ (n inc : ℕ) (before : History) (v : ViewId) (t : SessionState) (now : List Happened) (lens lens' : List ℕ → ℕ) (states states' : List ℕ → GroupState) (at : Attending n inc before v t now lens states) (k : Heeding n inc before v t now lens states) (h : List ℕ) (e : Entry) (bs : List (Option Filled)) (more : lens' h ≡ lens h + 1) (same : (g : List ℕ) → (h ≡ g → ⊥) → (lens' g ≡ lens g) × (states' g ≡ states g)) (fit : fits (states h) e ≡ true) (is_after : states' h ≡ after (states h) v (lens h) e) where
  abbrev i : ℕ
  i = lens h

  abbrev st : GroupState
  st = states' h

  abbrev ps : List ProviderId
  ps = hearers t h (states h) e

  abbrev first : List Happened
  first = happened.Put n v h i e ∷ now

  old_of : (p : ProviderId) (o : OpenPhase) → HeardOpened (earlier first before) p o → HeardOpened (earlier now before) p o
  old_of p o z = silent_opened (happened.Put n v h i e) (earlier now before) p o tt z

  record Run (now' : List Happened) : Type 0 where
    law : Within Anew now' before
    from : (p : ProviderId) (o : OpenPhase) → HeardOpened (earlier now' before) p o → HeardOpened (earlier first before) p o ⊎ ((opens e v i ≡ Some o) × Has p ps × (last_heard p v h (earlier now' before) ≡ Some i))

  run_begins : Run first
  run_begins = record { law = (tt, k.law); from = λ p o z. inl z }

  -- what it heard opened before is another phase
  not_old : (q : ProviderId) (o : OpenPhase) → Has q ps → opens e v i ≡ Some o → HeardOpened (earlier first before) q o → ⊥
  not_old q o hears z there = by f.0 f.1 f.2 (f.0).takes_part refl
    where
      f : (x : Provider) × (provider_of t q ≡ Some x) × (x.group ≡ h) × ((x.takes_part ≡ true) ⊎ Has q (beginners t h e))
      f = hearer_found t h (states h) e q hears

      by : (x : Provider) → provider_of t q ≡ Some x → x.group ≡ h → (b : Bool) → x.takes_part ≡ b → ⊥
      by x found group false part = k.unheard q x o found part (old_of q o there)
      by x found group true part =
          let a = k.opened q x o found part (old_of q o there) in
          opens_new (states h) v i e o fit z (subst (λ g. Placed o.proto v (lens g)) group a.0) (subst (λ g. Beyond o (states g).running) group a.1)

  run_hears : (now' : List Happened) (q : ProviderId) → Has q ps → NoneAgain (last_heard q v h (earlier now' before)) i → Run now' → Run (happened.Heard q v h i e st.members st.value ∷ now')
  run_hears now' q hears anew r =
      record {
        law = (λ o z there. ⊎_elim (λ (a : HeardOpened (earlier first before) q o). not_old q o hears z a) (λ (a : (opens e v i ≡ Some o) × Has q ps × (last_heard q v h (earlier now' before) ≡ Some i)). anew a.2) (r.from q o there), r.law);
        from = λ p o there. ⊎_elim (λ (a : HeardOpened (earlier now' before) p o). ⊎_elim (λ (b : HeardOpened (earlier first before) p o). inl b) (λ (b : (opens e v i ≡ Some o) × Has p ps × (last_heard p v h (earlier now' before) ≡ Some i)). inr (b.0, b.1, on p b.2)) (r.from p o a)) (λ (a : (q ≡ p) × (opens e v i ≡ Some o)). inr (a.1, subst (λ z. Has z ps) a.0 hears, subst (λ z. last_heard z v h (happened.Heard q v h i e st.members st.value ∷ earlier now' before) ≡ Some i) a.0 (heard_own q v h i e st.members st.value (earlier now' before)))) (opened_back (happened.Heard q v h i e st.members st.value) (earlier now' before) p o there);
      }
    where
      on : (p : ProviderId) → last_heard p v h (earlier now' before) ≡ Some i → last_heard p v h (happened.Heard q v h i e st.members st.value ∷ earlier now' before) ≡ Some i
      on p z = by (same_provider q p && (same_view v v && bytes_eq h h))
        where
          by : (b : Bool) → (if b then Some i else last_heard p v h (earlier now' before)) ≡ Some i
          by true = refl
          by false = z

  run_casts : (now' : List Happened) (q : ProviderId) (o : Option (ProtoId × ℕ × BallotView)) → Run now' → Run (pushed (cast_records q o) now')
  run_casts now' q o r = casts_keep Run (λ w proto phase f z x. record { law = (tt, x.law); from = λ p b there. x.from p b (cast_opened w proto phase f (earlier z before) p b there) }) q o now' r

  run_all : (cs : List Cast) (now' : List Happened) → ((c : Cast) → Has c cs → Has c.provider ps) → Within PlaceAnew (pushed (flat_map (heard_at v h i e st) cs) now') before → Run now' → Run (pushed (flat_map (heard_at v h i e st) cs) now')
  run_all [] now' hears anew r = r
  run_all (c ∷ cs) now' hears anew r =
      let joined = pushed_append (heard_at v h i e st c) (flat_map (heard_at v h i e st) cs) now' in
      let rest : Within PlaceAnew (pushed (flat_map (heard_at v h i e st) cs) (pushed (heard_at v h i e st c) now')) before = subst (λ l. Within PlaceAnew l before) joined anew in
      let here : Within PlaceAnew (pushed (heard_at v h i e st c) now') before = within_tail (flat_map (heard_at v h i e st) cs) (pushed (heard_at v h i e st c) now') before rest in
      let head = (within_tail (cast_records c.provider c.cast) (happened.Heard c.provider v h i e st.members st.value ∷ now') before here).0 in
      let one : Run (pushed (heard_at v h i e st c) now') = run_casts (happened.Heard c.provider v h i e st.members st.value ∷ now') c.provider c.cast (run_hears now' c.provider (hears c (inl refl)) head r) in
      subst Run (sym joined) (run_all cs (pushed (heard_at v h i e st c) now') (λ d z. hears d (inr z)) rest one)

  pub heeding_handed : Within PlaceAnew (pushed (flat_map (heard_at v h i e st) (casts_out t h (states h) st e bs)) first) before → Heeding n inc before v (handed_on t h (states h) st e bs) (pushed (flat_map (heard_at v h i e st) (casts_out t h (states h) st e bs)) first) lens' states'
  unfolding casts_out
  heeding_handed anew =
      record {
        law = run.law;
        others = λ p o ne z. ⊎_elim (λ (a : HeardOpened (earlier first before) p o). k.others p o ne (old_of p o a)) (λ (a : (opens e v i ≡ Some o) × Has p ps × (last_heard p v h (earlier last before) ≡ Some i)). absurd (ne (owner p a.1).0)) (run.from p o z);
        unheard = unheard;
        numbered = λ p o m z. ⊎_elim (λ (a : HeardOpened (earlier first before) p o). ⊎_elim (λ (b : p.inc < inc). inl b) (λ (b : p.join ≤ t.last_request). inr (on p b)) (k.numbered p o m (old_of p o a))) (λ (a : (opens e v i ≡ Some o) × Has p ps × (last_heard p v h (earlier last before) ≡ Some i)). inr (on p (owner p a.1).1)) (run.from p o z);
        runs = runs;
        opened = opened;
      }
    where
      cs : List Cast
      cs = casts_of e st t.level ps bs

      w : SessionState
      w = handed_on t h (states h) st e bs

      last : List Happened
      last = pushed (flat_map (heard_at v h i e st) cs) first

      run : Run last
      run = run_all cs first (λ c z. cast_has e st t.level ps bs c z) anew run_begins

      later : Later t w
      later = handed_later t h (states h) st e bs

      stays : Kept (beginners t h e) t w
      stays = handed_kept t h (states h) st e bs

      on : (p : ProviderId) → p.join ≤ t.last_request → p.join ≤ w.last_request
      on p le = let z = later.last in omega (arith, le, z)

      owner : (p : ProviderId) → Has p ps → (p.node ≡ n) × (p.join ≤ t.last_request)
      owner p z = let f = hearer_found t h (states h) e p z in let o = at.own p f.0 f.1 in (o.0, o.2)

      -- whoever heard takes part
      takes : (p : ProviderId) → Has p ps → (y : Provider) → provider_of w p ≡ Some y → y.takes_part ≡ true
      takes p z y found =
          let f = hearer_found t h (states h) e p z in
          ⊎_elim (λ (a : (f.0).takes_part ≡ true). let b = stays.back p y found in b.3 (ap (λ (m : Provider). m.takes_part) (some_is (sym b.1 ∙ f.1)) ∙ a)) (λ (a : Has p (beginners t h e)). handed_begun t h (states h) st e bs p a y found) f.3

      unheard : (p : ProviderId) (y : Provider) (o : OpenPhase) → provider_of w p ≡ Some y → y.takes_part ≡ false → HeardOpened (earlier last before) p o → ⊥
      unheard p y o found part z =
          let b = stays.back p y found in
          ⊎_elim (λ (a : HeardOpened (earlier first before) p o). old b.0 b.1 b.3 (b.0).takes_part refl (old_of p o a)) (λ (a : (opens e v i ≡ Some o) × Has p ps × (last_heard p v h (earlier last before) ≡ Some i)). absurd (let u : true ≡ false = sym (takes p a.1 y found) ∙ part in cc)) (run.from p o z)
        where
          old : (x : Provider) → provider_of t p ≡ Some x → (x.takes_part ≡ true → y.takes_part ≡ true) → (b : Bool) → x.takes_part ≡ b → HeardOpened (earlier now before) p o → ⊥
          old x was go false q there = k.unheard p x o was q there
          old x was go true q there = absurd (let u : true ≡ false = sym (go q) ∙ part in cc)

      -- whoever takes part did, or begins to where nothing ran
      ran : (p : ProviderId) (x : Provider) → provider_of t p ≡ Some x → x.group ≡ h → (x.takes_part ≡ true) ⊎ Has p (beginners t h e) → RunsPlaced (states h).running v i
      ran p x was group (inl part) = subst (λ g. RunsPlaced (states g).running v (lens g)) group (k.runs p x was part)
      ran p x was group (inr new) = λ r q. absurd (let z : Some r ≡ None = sym q ∙ joins_idle (states h) e p fit (joining p new) in cc)
        where
          joining : (p : ProviderId) → Has p (beginners t h e) → Has p (brought_by e)
          joining p new = joiner t h e p new

      ran_on : (p : ProviderId) (x : Provider) → provider_of t p ≡ Some x → x.group ≡ h → (x.takes_part ≡ true) ⊎ Has p (beginners t h e) → RunsPlaced (states' h).running v (lens' h)
      ran_on p x was group how =
          subst (λ m. RunsPlaced (states' h).running v m) (sym more) (subst (λ (s : GroupState). RunsPlaced s.running v (i + 1)) (sym is_after) (runs_on v i (states h).running (after (states h) v i e).running (after_changes (states h) v i e) (ran p x was group how)))

      -- in another group it took part before
      apart : (p : ProviderId) (x : Provider) → provider_of t p ≡ Some x → (h ≡ x.group → ⊥) → (x.takes_part ≡ true) ⊎ Has p (beginners t h e) → x.takes_part ≡ true
      apart p x was ne (inl part) = part
      apart p x was ne (inr new) =
          let f = hearer_found t h (states h) e p (new_hears t h (states h) e p new) in
          absurd (ne (sym (ap (λ (m : Provider). m.group) (some_is (sym was ∙ f.1)) ∙ f.2)))

      runs : (p : ProviderId) (y : Provider) → provider_of w p ≡ Some y → y.takes_part ≡ true → RunsPlaced (states' y.group).running v (lens' y.group)
      runs p y found part = let b = stays.back p y found in by b.0 b.1 b.2 (b.4 part) (cases_text h y.group)
        where
          by : (x : Provider) → provider_of t p ≡ Some x → y.group ≡ x.group → (x.takes_part ≡ true) ⊎ Has p (beginners t h e) → (h ≡ y.group) ⊎ (h ≡ y.group → ⊥) → RunsPlaced (states' y.group).running v (lens' y.group)
          by x was group how (inl q) = subst (λ g. RunsPlaced (states' g).running v (lens' g)) q (ran_on p x was (sym group ∙ sym q) how)
          by x was group how (inr ne) =
              let s = same y.group ne in
              let old = subst (λ g. RunsPlaced (states g).running v (lens g)) (sym group) (k.runs p x was (apart p x was (λ z. ne (z ∙ sym group)) how)) in
              subst (λ (z : GroupState × ℕ). RunsPlaced (z.0).running v z.1) (λ j. (sym s.1 j, sym s.0 j)) old

      opened : (p : ProviderId) (y : Provider) (o : OpenPhase) → provider_of w p ≡ Some y → y.takes_part ≡ true → HeardOpened (earlier last before) p o → Placed o.proto v (lens' y.group) × Beyond o (states' y.group).running
      opened p y o found part z = let b = stays.back p y found in by b.0 b.1 b.2 (b.4 part) (cases_text h y.group) (run.from p o z)
        where
          New : Type 0
          New = (opens e v i ≡ Some o) × Has p ps × (last_heard p v h (earlier last before) ≡ Some i)

          -- what it heard before, in the group of the entry
          older : (x : Provider) → provider_of t p ≡ Some x → x.group ≡ h → (b : Bool) → x.takes_part ≡ b → HeardOpened (earlier now before) p o → Placed o.proto v (i + 1) × Beyond o (after (states h) v i e).running
          older x was group false q there = absurd (k.unheard p x o was q there)
          older x was group true q there =
              let a = k.opened p x o was q there in
              let placed : Placed o.proto v i = subst (λ g. Placed o.proto v (lens g)) group a.0 in
              let beyond : Beyond o (states h).running = subst (λ g. Beyond o (states g).running) group a.1 in
              (placed_more o.proto v i placed, beyond_on o v i (states h).running (after (states h) v i e).running (after_changes (states h) v i e) placed beyond)

          newer : (x : Provider) → provider_of t p ≡ Some x → x.group ≡ h → (x.takes_part ≡ true) ⊎ Has p (beginners t h e) → opens e v i ≡ Some o → Placed o.proto v (i + 1) × Beyond o (after (states h) v i e).running
          newer x was group how q = (opens_placed (states h) v i e o fit q (ran p x was group how), beyond)
            where
              beyond : Beyond o (after (states h) v i e).running
              beyond r is at =
                  let a : Some (record { proto = r.proto; phase = r.phase }) ≡ Some o = ap running_phase (sym is) ∙ opens_running (states h) v i e fit (opens_some e v i o q) ∙ q in
                  let same : o.phase ≡ r.phase = ap (λ (m : OpenPhase). m.phase) (sym (some_is a)) in
                  omega (arith, same)

          here : Placed o.proto v (i + 1) × Beyond o (after (states h) v i e).running → Placed o.proto v (lens' h) × Beyond o (states' h).running
          here a = (subst (Placed o.proto v) (sym more) a.0, subst (λ (s : GroupState). Beyond o s.running) (sym is_after) a.1)

          by : (x : Provider) → provider_of t p ≡ Some x → y.group ≡ x.group → (x.takes_part ≡ true) ⊎ Has p (beginners t h e) → (h ≡ y.group) ⊎ (h ≡ y.group → ⊥) → HeardOpened (earlier first before) p o ⊎ New → Placed o.proto v (lens' y.group) × Beyond o (states' y.group).running
          by x was group how (inl q) (inl a) = subst (λ g. Placed o.proto v (lens' g) × Beyond o (states' g).running) q (here (older x was (sym group ∙ sym q) x.takes_part refl (old_of p o a)))
          by x was group how (inl q) (inr a) = subst (λ g. Placed o.proto v (lens' g) × Beyond o (states' g).running) q (here (newer x was (sym group ∙ sym q) how a.0))
          by x was group how (inr ne) (inl a) =
              let s = same y.group ne in
              let old = k.opened p x o was (apart p x was (λ z. ne (z ∙ sym group)) how) (old_of p o a) in
              let moved = subst (λ g. Placed o.proto v (lens g) × Beyond o (states g).running) (sym group) old in
              (subst (Placed o.proto v) (sym s.0) moved.0, subst (λ (z : GroupState). Beyond o z.running) (sym s.1) moved.1)
          by x was group how (inr ne) (inr a) =
              let f = hearer_found t h (states h) e p a.1 in
              absurd (ne (sym (group ∙ ap (λ (m : Provider). m.group) (some_is (sym was ∙ f.1)) ∙ f.2)))
