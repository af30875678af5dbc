-- Where a node's stays and its providers stand: who takes part at the node has a first place by the records and no last one, and
-- heard each place from there on; who waits to take part has none.
use Rattle.std.proofs.Common.{◌≡◌, ◌⊎◌, ℕ, ◌+◌, List, [], ◌∷◌, ◌++◌, length, Some, None, Bool, true, false, refl, sym, ap, ◌∙◌, subst, inl, inr, ⊎_elim, arith, length-append}
use Rattle.std.specs.Prelude.{not, ◌==◌, ◌&&◌, find, if◌then◌else◌}
use Rattle.std.specs.Str.{bytes_eq}
use Rattle.std.proofs.lemmas.Bool.Decides.{nat_tests}
use Rattle.rsct_packet.specs.declared.ids.ViewId.{ViewId}
use Rattle.rsct_packet.specs.declared.ids.ProviderId.{ProviderId}
use Rattle.rsct_packet.specs.Ids.{same_view}
use Rattle.rsct_packet.specs.Providers.{same_provider}
use Rattle.rsct_packet.specs.Search.{Has}
use Rattle.rsct_packet.proofs.HasLaws.{has_filter, filter_has}
use Rattle.group_attr.specs.declared.attrs.Attrs.{Attrs}
use Rattle.proposal_core.specs.declared.entry.Entry.{Entry}
use Rattle.proposal_core.specs.declared.entry.Entry.TheVariants.{Once, Begin}
use Rattle.proposal_core.specs.declared.group_state.GroupState.{GroupState}
use Rattle.proposal_core.specs.Fold.{after, joins_of}
use Rattle.subscribe_core.specs.declared.subs.ClientToken.{ClientToken}
use Rattle.client_callbacks.specs.declared.ballot.Filled.{Filled}
use Rattle.session_state.specs.declared.state.OpenPhase.{OpenPhase}
use Rattle.session_state.specs.declared.state.Provider.{Provider}
use Rattle.session_state.specs.declared.state.SessionState.{SessionState}
use Rattle.session_state.specs.State.{is_provider, provider_of}
use Rattle.session_state.specs.Calls.{new_provider, join_asked, keeps}
use Rattle.session_state.specs.HandOn.{hears, hearers_in, brought_by, beginners}
use Rattle.node_state.specs.declared.happened.Happened.{Happened}
use Rattle.node_state.specs.declared.happened.Happened.TheVariants as happened
use Rattle.run_safety.specs.Past.{fold_from}
use Rattle.run_safety.specs.SafeHeard.{heard_count}
use Rattle.run_safety.specs.Stays.{Stay, stays, is_join_of, Part, part, with_entry}
use Rattle.node_state.proofs.NameOrder.{text_same, text_self}
use Rattle.step_refinement.proofs.SessionLaws.{provider_same, provider_self}
use Rattle.row_laws.specs.hearing.Hearing.{last_heard}
use Rattle.row_laws.specs.hearing.Changes.{Aside, Inner, Fewer}
use Rattle.row_laws.proofs.hearing.Handing.{among_is}
use Rattle.provider_laws.proofs.attending.Parts.{pushed_stay, zero_and}
use Rattle.std.proofs.lemmas.Bool.{eqb-true, eq-eqb}
use Rattle.step_refinement.proofs.Puts.{fold_pushed}

-- the latest stay is in the view, and what was put there makes the state
pub record InStay (v : ViewId) (xs : List Stay) (len : ℕ) (st : GroupState) : Type 0 where
  pub now : Stay
  pub older : List Stay
  pub is : xs ≡ now ∷ older
  pub view : now.view ≡ v
  pub len_is : length now.entries ≡ len
  pub state : fold_from v now.base 0 now.entries ≡ st

pub record Takes (x : Part) (len count : ℕ) : Type 0 where
  pub first : ℕ
  pub is : x.first ≡ Some first
  pub last : x.last ≡ None
  pub len_is : len ≡ first + count

-- S: the stays of each node, for each group; C: how often each provider heard something of a list
pub record Place (n : ℕ) (v : ViewId) (t : SessionState) (S : ℕ → List ℕ → List Stay) (C : ProviderId → ViewId → List ℕ → ℕ) (lens : List ℕ → ℕ) (states : List ℕ → GroupState) : Type 0 where
  pub stay : (g : List ℕ) → InStay v (S n g) (lens g) (states g)
  pub taking : (p : ProviderId) (y : Provider) → provider_of t p ≡ Some y → y.takes_part ≡ true → Takes (part p (S n y.group)) (lens y.group) (C p v y.group)
  pub waiting : (p : ProviderId) (y : Provider) → provider_of t p ≡ Some y → y.takes_part ≡ false → ((part p (S n y.group)).first ≡ None) × (C p v y.group ≡ 0)

-- ---- records that change nothing of it

pub inner_stays : (m : ℕ) (g : List ℕ) (r : Happened) (rs : List Happened) → Inner r → stays m g (r ∷ rs) ≡ stays m g rs
inner_stays m g (happened.Up n j) rs a = absurd a
inner_stays m g (happened.Down n) rs a = absurd a
inner_stays m g (happened.In n v ms) rs a = absurd a
inner_stays m g (happened.Base n v h old len s) rs a = absurd a
inner_stays m g (happened.Put n v h i e) rs a = absurd a
inner_stays m g (happened.Heard p v h i e ms value) rs a = absurd a
inner_stays m g _ rs a = refl

pub aside_count : (p : ProviderId) (v : ViewId) (g : List ℕ) (r : Happened) (rs : List Happened) → Aside r → heard_count p v g (r ∷ rs) ≡ heard_count p v g rs
aside_count p v g (happened.Put n u h i e) rs a = absurd a
aside_count p v g (happened.Heard q u h i e ms value) rs a = absurd a
aside_count p v g _ rs a = refl

-- who heard nothing of a list heard nothing
pub none_count : (p : ProviderId) (v : ViewId) (g : List ℕ) (rs : List Happened) → last_heard p v g rs ≡ None → heard_count p v g rs ≡ 0
none_count p v g [] q = refl
none_count p v g (happened.Heard w u h i e ms value ∷ rs) q = by (same_provider w p && (same_view u v && bytes_eq h g)) q (none_count p v g rs)
  where
    by : (b : Bool) → (if b then Some i else last_heard p v g rs) ≡ None → (last_heard p v g rs ≡ None → heard_count p v g rs ≡ 0) → (if b then heard_count p v g rs + 1 else heard_count p v g rs) ≡ 0
    by true z rest = absurd (cc)
    by false z rest = rest z
none_count p v g (_ ∷ rs) q = none_count p v g rs q

-- what is heard counts for the provider, in that list
pub count_own : (q : ProviderId) (v : ViewId) (h : List ℕ) (i : ℕ) (e : Entry) (ms : List ProviderId) (value : List ℕ) (rs : List Happened) → heard_count q v h (happened.Heard q v h i e ms value ∷ rs) ≡ heard_count q v h rs + 1
count_own q v h i e ms value rs = λ k. if provider_self q k && (view_self v k && text_self h k) then heard_count q v h rs + 1 else heard_count q v h rs
  where
    view_self : (a : ViewId) → same_view a a ≡ true
    view_self a = grind (arith, nat_tests)

pub count_other : (p : ProviderId) (u : ViewId) (g : List ℕ) (q : ProviderId) (v : ViewId) (h : List ℕ) (i : ℕ) (e : Entry) (ms : List ProviderId) (value : List ℕ) (rs : List Happened) → (q ≡ p → ⊥) → heard_count p u g (happened.Heard q v h i e ms value ∷ rs) ≡ heard_count p u g rs
count_other p u g q v h i e ms value rs ne = by (same_provider q p) refl
  where
    by : (b : Bool) → same_provider q p ≡ b → (if b && (same_view v u && bytes_eq h g) then heard_count p u g rs + 1 else heard_count p u g rs) ≡ heard_count p u g rs
    by true k = absurd (ne (provider_same q p k))
    by false k = refl

pub count_apart : (p : ProviderId) (u : ViewId) (g : List ℕ) (q : ProviderId) (v : ViewId) (h : List ℕ) (i : ℕ) (e : Entry) (ms : List ProviderId) (value : List ℕ) (rs : List Happened) → (h ≡ g → ⊥) → heard_count p u g (happened.Heard q v h i e ms value ∷ rs) ≡ heard_count p u g rs
count_apart p u g q v h i e ms value rs ne = by (same_provider q p) (same_view v u) (bytes_eq h g) refl
  where
    by : (a b c : Bool) → bytes_eq h g ≡ c → (if a && (b && c) then heard_count p u g rs + 1 else heard_count p u g rs) ≡ heard_count p u g rs
    by a b true k = absurd (ne (text_same h g k))
    by false b false k = refl
    by true false false k = refl
    by true true false k = refl

-- who is found with one provider more was found before, or is that one
pub found_joined : (x : Provider) (p : ProviderId) (xs : List Provider) (y : Provider) → find (is_provider p) (xs ++ x ∷ []) ≡ Some y → (find (is_provider p) xs ≡ Some y) ⊎ ((y ≡ x) × (p ≡ x.provider))
found_joined x p [] y e = last (is_provider p x) refl e
  where
    last : (b : Bool) → is_provider p x ≡ b → (if b then Some x else None) ≡ Some y → (find (is_provider p) [] ≡ Some y) ⊎ ((y ≡ x) × (p ≡ x.provider))
    last true q e = let z : y ≡ x = cc in inr (z, sym (provider_same x.provider p q))
    last false q e = absurd (cc)
found_joined x p (z ∷ xs) y e = by (is_provider p z) e (found_joined x p xs y)
  where
    by : (b : Bool) → (if b then Some z else find (is_provider p) (xs ++ x ∷ [])) ≡ Some y → (find (is_provider p) (xs ++ x ∷ []) ≡ Some y → (find (is_provider p) xs ≡ Some y) ⊎ ((y ≡ x) × (p ≡ x.provider))) → ((if b then Some z else find (is_provider p) xs) ≡ Some y) ⊎ ((y ≡ x) × (p ≡ x.provider))
    by true e rest = inl e
    by false e rest = rest e

module _ (n : ℕ) (v : ViewId) (t : SessionState) (S : ℕ → List ℕ → List Stay) (C : ProviderId → ViewId → List ℕ → ℕ) (lens : List ℕ → ℕ) (states : List ℕ → GroupState) where
  -- ---- sessions

  pub place_fewer : (s : SessionState) → Fewer t s → Place n v t S C lens states → Place n v s S C lens states
  place_fewer s f k =
      record { stay = k.stay; taking = λ p y q part. k.taking p y (f.providers p y q) part; waiting = λ p y q part. k.waiting p y (f.providers p y q) part }

  -- a ballot more is kept
  pub place_kept : (y : Provider) (o : OpenPhase) (b : Filled) → Place n v t S C lens states → Place n v (keeps t y o b) S C lens states
  unfolding provider_of
  place_kept y o b k = record { stay = k.stay; taking = k.taking; waiting = k.waiting }

  -- a provider more, of whom nothing was heard or put yet
  pub place_joined : (c : ClientToken) (h : List ℕ) (instance : ℕ) (attrs : Attrs) → ((part (new_provider t instance) (S n h)).first ≡ None) × (C (new_provider t instance) v h ≡ 0) → Place n v t S C lens states → Place n v (join_asked t c h instance attrs) S C lens states
  unfolding join_asked provider_of
  place_joined c h instance attrs fresh k =
      record {
        stay = k.stay;
        taking = λ p y q take. ⊎_elim (λ (a : find (is_provider p) t.providers ≡ Some y). k.taking p y a take) (λ (a : (y ≡ x) × (p ≡ x.provider)). absurd (let z : false ≡ true = ap (λ (z : Provider). z.takes_part) (sym a.0) ∙ take in cc)) (found_joined x p t.providers y q);
        waiting = λ p y q take. ⊎_elim (λ (a : find (is_provider p) t.providers ≡ Some y). k.waiting p y a take) (λ (a : (y ≡ x) × (p ≡ x.provider)). subst (λ (z : ProviderId × Provider). ((part z.0 (S n z.1.group)).first ≡ None) × (C z.0 v z.1.group ≡ 0)) (λ i. (sym a.1 i, sym a.0 i)) fresh) (found_joined x p t.providers y q);
      }
    where
      x : Provider
      x = record { provider = new_provider t instance; client = c; group = h; takes_part = false; opened = None }

-- ---- an entry is put

brings_join : (p : ProviderId) (e : Entry) → is_join_of p e ≡ true → Has p (brought_by e)
brings_join p (Once x) h = among_is (joins_of x) p h
brings_join p (Begin x) h = among_is (joins_of x) p h
brings_join p _ h = absurd (cc)

-- who begins did not take part
pub begins_waits : (t : SessionState) (h : List ℕ) (e : Entry) (p : ProviderId) → Has p (beginners t h e) → (x : Provider) → provider_of t p ≡ Some x → x.takes_part ≡ true → ⊥
unfolding beginners hearers_in
begins_waits t h e p k x found take =
    let a : hears h false (provider_of t p) ≡ true = (has_filter (λ p. hears h false (provider_of t p)) p (brought_by e) k).1 in
    let b : hears h false (provider_of t p) ≡ false = ap (hears h false) found ∙ ap (λ c. not c && bytes_eq x.group h) take in
    let z : true ≡ false = sym a ∙ b in cc

-- and who waits in the group and is named begins
pub join_begins : (t : SessionState) (h : List ℕ) (e : Entry) (p : ProviderId) (x : Provider) → provider_of t p ≡ Some x → x.takes_part ≡ false → x.group ≡ h → is_join_of p e ≡ true → Has p (beginners t h e)
unfolding beginners hearers_in
join_begins t h e p x found part group k =
    filter_has (λ p. hears h false (provider_of t p)) p (brought_by e) (brings_join p e k) (ap (hears h false) found ∙ (λ i. not (part i) && bytes_eq (group i) h) ∙ text_self h)

pub put_here : (n : ℕ) (v : ViewId) (h : List ℕ) (i : ℕ) (e : Entry) (rs : List Happened) (x : Stay) (older : List Stay) → stays n h rs ≡ x ∷ older → stays n h (happened.Put n v h i e ∷ rs) ≡ pushed_stay x e ∷ older
put_here n v h i e rs x older q = (λ k. if eq-eqb n n refl k && text_self h k then with_entry e (stays n h rs) else stays n h rs) ∙ ap (with_entry e) q

pub put_there : (n m : ℕ) (v : ViewId) (h g : List ℕ) (i : ℕ) (e : Entry) (rs : List Happened) → ((n ≡ m) → (h ≡ g) → ⊥) → stays m g (happened.Put n v h i e ∷ rs) ≡ stays m g rs
put_there n m v h g i e rs ne = by (n == m) (bytes_eq h g) refl refl
  where
    by : (a b : Bool) → (n == m) ≡ a → bytes_eq h g ≡ b → (if a && b then with_entry e (stays m g rs) else stays m g rs) ≡ stays m g rs
    by true true x y = absurd (ne (eqb-true n m x) (text_same h g y))
    by true false x y = refl
    by false b x y = refl

-- the group's stay with the entry
pub stay_pushed : (v : ViewId) (x : Stay) (older : List Stay) (e : Entry) (len : ℕ) (st : GroupState) → x.view ≡ v → length x.entries ≡ len → fold_from v x.base 0 x.entries ≡ st → InStay v (pushed_stay x e ∷ older) (len + 1) (after st v len e)
stay_pushed v x older e len st view ln state =
    record {
      now = pushed_stay x e;
      older = older;
      is = refl;
      view = view;
      len_is = length-append x.entries (e ∷ []) ∙ ap (λ z. z + 1) ln;
      state = fold_pushed v x.entries x.base 0 e ∙ ap (λ k. after (fold_from v x.base 0 x.entries) v k e) (zero_and (length x.entries)) ∙ (λ i. after (state i) v (ln i) e);
    }
