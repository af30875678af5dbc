-- Where a node stands with what its providers heard: each that heard hears on, or is over.
use Rattle.std.proofs.Common.{◌≡◌, ◌≢◌, ◌≤◌, ◌<◌, ℕ, ◌+◌, List, [], ◌∷◌, ◌++◌, Option, Some, None, Bool, true, false, refl, sym, ap, ◌∙◌, subst, inl, inr, ◌⊎◌, ⊎_elim, append_assoc, arith}
use Rattle.std.specs.Prelude.{◌&&◌, ◌==◌, reverse, find, flat_map, if◌then◌else◌}
use Rattle.std.specs.Str.{bytes_eq}
use Rattle.std.proofs.lemmas.Bool.Decides.{nat_tests}
use Rattle.std.proofs.lemmas.List.{append-nil, reverse-append}
use Rattle.rsct_packet.specs.declared.ids.ViewId.{ViewId}
use Rattle.rsct_packet.specs.declared.ids.ProviderId.{ProviderId}
use Rattle.rsct_packet.specs.declared.ids.ProtoId.{ProtoId}
use Rattle.rsct_packet.specs.Ids.{same_view}
use Rattle.rsct_packet.specs.Providers.{same_provider}
use Rattle.rsct_packet.specs.Search.{Has}
use Rattle.group_attr.specs.declared.attrs.Attrs.{Attrs}
use Rattle.proposal_core.specs.declared.entry.Entry.{Entry}
use Rattle.proposal_core.specs.declared.group_state.GroupState.{GroupState}
use Rattle.proposal_core.specs.Fold.{present}
use Rattle.client_callbacks.specs.declared.ballot.Filled.{Filled}
use Rattle.client_callbacks.specs.Ballots.{BallotView}
use Rattle.subscribe_core.specs.declared.subs.ClientToken.{ClientToken}
use Rattle.session_state.specs.declared.casts.Cast.{Cast}
use Rattle.session_state.specs.declared.state.Provider.{Provider}
use Rattle.session_state.specs.declared.state.SessionState.{SessionState}
use Rattle.session_state.specs.State.{is_provider, provider_of}
use Rattle.session_state.specs.Calls.{new_provider, join_asked}
use Rattle.session_state.specs.HandOn.{beginners, hearers, casts_out, casts_of, cast_of, handed_on}
use Rattle.node_state.specs.declared.happened.Happened.{Happened}
use Rattle.node_state.specs.declared.happened.Happened.TheVariants as happened
use Rattle.node_state.specs.HandOn.{cast_record, cast_records}
use Rattle.run_safety.specs.ViewOrder.{Lt}
use Rattle.run_safety.specs.Past.{History, Within, earlier, is_list, records_of}
use Rattle.run_safety.specs.SafeHeard.{latest_put}
use Rattle.run_safety.proofs.Order.{lt_not_same}
use Rattle.node_state.proofs.NameOrder.{cases_text, text_same, text_self}
use Rattle.step_refinement.proofs.SessionLaws.{provider_same, provider_self, Later, handed_later, cast_has}
use Rattle.row_laws.specs.hearing.Hearing.{last_heard, next_place, Follows, AtPut}
use Rattle.row_laws.specs.hearing.Changes.{Aside, Fewer}
use Rattle.row_laws.proofs.hearing.Handing.{Kept, handed_kept, handed_begun, handed_present, hearer_found, present_hears, new_hears, some_is}

-- what stands of a provider of this node that heard place j of view u and group g last: it is of an incarnation or a view that
-- are over, it is gone for good, or the list has no place after that one, and it takes part
pub data Stance (inc : ℕ) (v : ViewId) (t : SessionState) (lens : List ℕ → ℕ) (p : ProviderId) (u : ViewId) (g : List ℕ) (j : ℕ) : Type 0 where
  Before : p.inc < inc → Stance inc v t lens p u g j
  Left : Lt u v → Stance inc v t lens p u g j
  Gone : provider_of t p ≡ None → p.join ≤ t.last_request → Stance inc v t lens p u g j
  Attends : u ≡ v → lens g ≡ j + 1 → (x : Provider) → provider_of t p ≡ Some x → x.takes_part ≡ true → x.group ≡ g → Stance inc v t lens p u g j

-- of node n in incarnation inc, in the event that has recorded `now` and that came after `before`
pub record Attending (n inc : ℕ) (before : History) (v : ViewId) (t : SessionState) (now : List Happened) (lens : List ℕ → ℕ) (states : List ℕ → GroupState) : Type 0 where
  pub me : t.me ≡ n
  pub inc_is : t.inc ≡ inc
  pub law : Within AtPut now before
  pub others : (p : ProviderId) (u : ViewId) (g : List ℕ) → p.node ≢ n → last_heard p u g (earlier now before) ≡ last_heard p u g (records_of before)
  pub began : (p : ProviderId) (u : ViewId) (g : List ℕ) (j : ℕ) → p.node ≡ n → last_heard p u g (earlier now before) ≡ Some j → p.inc ≤ inc
  pub own : (p : ProviderId) (x : Provider) → provider_of t p ≡ Some x → (p.node ≡ n) × (p.inc ≡ inc) × (p.join ≤ t.last_request)
  pub here : (p : ProviderId) (x : Provider) → provider_of t p ≡ Some x → x.takes_part ≡ true → Has p (present (states x.group))
  pub heard : (p : ProviderId) (u : ViewId) (g : List ℕ) (j : ℕ) → p.node ≡ n → last_heard p u g (earlier now before) ≡ Some j → Stance inc v t lens p u g j
  pub upto : (p : ProviderId) (x : Provider) → provider_of t p ≡ Some x → x.takes_part ≡ true → lens x.group ≡ next_place (last_heard p v x.group (earlier now before))

-- ---- records of neither kind

pub aside_law : (now : List Happened) (before : History) (r : Happened) → Aside r → AtPut now before r
aside_law now before (happened.Put n v g i e) a = absurd a
aside_law now before (happened.Heard p v g i e ms value) a = absurd a
aside_law now before _ a = (tt, tt)

pub aside_last : (p : ProviderId) (u : ViewId) (g : List ℕ) (r : Happened) → Aside r → (rs : List Happened) → last_heard p u g (r ∷ rs) ≡ last_heard p u g rs
aside_last p u g (happened.Put n v h i e) a rs = absurd a
aside_last p u g (happened.Heard q v h i e ms value) a rs = absurd a
aside_last p u g _ a rs = refl

-- what is heard changes nothing of others
pub heard_other : (p : ProviderId) (u : ViewId) (g : List ℕ) (q : ProviderId) (v : ViewId) (h : List ℕ) (i : ℕ) (e : Entry) (ms : List ProviderId) (value : List ℕ) (rs : List Happened) → (p ≡ q → ⊥) → last_heard p u g (happened.Heard q v h i e ms value ∷ rs) ≡ last_heard p u g rs
heard_other p u g q v h i e ms value rs ne = by (same_provider q p) refl
  where
    by : (b : Bool) → same_provider q p ≡ b → (if b && (same_view v u && bytes_eq h g) then Some i else last_heard p u g rs) ≡ last_heard p u g rs
    by true k = absurd (ne (sym (provider_same q p k)))
    by false k = refl

-- nor of other groups
heard_apart : (p : ProviderId) (u : ViewId) (g : List ℕ) (q : ProviderId) (v : ViewId) (h : List ℕ) (i : ℕ) (e : Entry) (ms : List ProviderId) (value : List ℕ) (rs : List Happened) → (h ≡ g → ⊥) → last_heard p u g (happened.Heard q v h i e ms value ∷ rs) ≡ last_heard p u g rs
heard_apart p u g q v h i e ms value rs ne = by (same_provider q p) (same_view v u) (bytes_eq h g) refl
  where
    by : (a b c : Bool) → bytes_eq h g ≡ c → (if a && (b && c) then Some i else last_heard p u g rs) ≡ last_heard p u g rs
    by a b true k = absurd (ne (text_same h g k))
    by false b false k = refl
    by true false false k = refl
    by true true false k = refl

-- what was heard last after one thing more is heard: that, or what it was
heard_cases : (p : ProviderId) (u : ViewId) (g : List ℕ) (q : ProviderId) (v : ViewId) (h : List ℕ) (i : ℕ) (e : Entry) (ms : List ProviderId) (value : List ℕ) (rs : List Happened) (j : ℕ) → last_heard p u g (happened.Heard q v h i e ms value ∷ rs) ≡ Some j → (last_heard p u g rs ≡ Some j) ⊎ ((p ≡ q) × (u ≡ v) × (g ≡ h) × (j ≡ i))
heard_cases p u g q v h i e ms value rs j k = by (same_provider q p) (same_view v u) (bytes_eq h g) refl refl refl k
  where
    view_is : (a b : ViewId) → same_view a b ≡ true → a ≡ b
    view_is a b z = grind (arith, nat_tests)

    by : (a b c : Bool) → same_provider q p ≡ a → same_view v u ≡ b → bytes_eq h g ≡ c → (if a && (b && c) then Some i else last_heard p u g rs) ≡ Some j → (last_heard p u g rs ≡ Some j) ⊎ ((p ≡ q) × (u ≡ v) × (g ≡ h) × (j ≡ i))
    by true true true x y z k = let s : j ≡ i = cc in inr (sym (provider_same q p x), sym (view_is v u y), sym (text_same h g z), s)
    by false b c x y z k = inl k
    by true false c x y z k = inl k
    by true true false x y z k = inl k

pub heard_own : (q : ProviderId) (v : ViewId) (h : List ℕ) (i : ℕ) (e : Entry) (ms : List ProviderId) (value : List ℕ) (rs : List Happened) → last_heard q v h (happened.Heard q v h i e ms value ∷ rs) ≡ Some i
heard_own q v h i e ms value rs = λ k. if provider_self q k && (same_view_own v k && text_self h k) then Some i else last_heard q v h rs
  where
    same_view_own : (a : ViewId) → same_view a a ≡ true
    same_view_own a = grind (arith, nat_tests)

module _ (n inc : ℕ) (before : History) (v : ViewId) (t : SessionState) (now : List Happened) (lens : List ℕ → ℕ) (states : List ℕ → GroupState) where
  -- a record of neither kind
  pub attends_aside : (r : Happened) → Aside r → Attending n inc before v t now lens states → Attending n inc before v t (r ∷ now) lens states
  attends_aside r a k =
      record {
        me = k.me;
        inc_is = k.inc_is;
        law = (aside_law now before r a, k.law);
        others = λ p u g ne. aside_last p u g r a (earlier now before) ∙ k.others p u g ne;
        began = λ p u g j m q. k.began p u g j m (sym (aside_last p u g r a (earlier now before)) ∙ q);
        own = k.own;
        here = k.here;
        heard = λ p u g j m q. k.heard p u g j m (sym (aside_last p u g r a (earlier now before)) ∙ q);
        upto = λ p x q part. k.upto p x q part ∙ ap next_place (sym (aside_last p v x.group r a (earlier now before)));
      }

  -- ---- sessions

  -- no provider comes in or changes, whatever else does
  pub attends_less : (s : SessionState) → s.me ≡ t.me → s.inc ≡ t.inc → t.last_request ≤ s.last_request → ((p : ProviderId) (x : Provider) → provider_of s p ≡ Some x → provider_of t p ≡ Some x) → Attending n inc before v t now lens states → Attending n inc before v s now lens states
  attends_less s me inc_of last providers k =
      record {
        me = me ∙ k.me;
        inc_is = inc_of ∙ k.inc_is;
        law = k.law;
        others = k.others;
        began = k.began;
        own = λ p x q. let a = k.own p x (providers p x q) in (a.0, a.1, on p a.2);
        here = λ p x q part. k.here p x (providers p x q) part;
        heard = λ p u g j m q. stance p u g j (k.heard p u g j m q);
        upto = λ p x q part. k.upto p x (providers p x q) part;
      }
    where
      on : (p : ProviderId) → p.join ≤ t.last_request → p.join ≤ s.last_request
      on p le = omega arith

      none : (p : ProviderId) → provider_of t p ≡ None → (o : Option Provider) → provider_of s p ≡ o → o ≡ None
      none p e None q = refl
      none p e (Some y) q = absurd (let z : Some y ≡ None = sym (providers p y q) ∙ e in cc)

      stance : (p : ProviderId) (u : ViewId) (g : List ℕ) (j : ℕ) → Stance inc v t lens p u g j → Stance inc v s lens p u g j
      stance p u g j (Before a) = Before a
      stance p u g j (Left a) = Left a
      stance p u g j (Gone a b) = Gone (none p a (provider_of s p) refl) (on p b)
      stance p u g j (Attends a b x c d e) = by (provider_of s p) refl
        where
          by : (o : Option Provider) → provider_of s p ≡ o → Stance inc v s lens p u g j
          by None q = Gone q (on p (k.own p x c).2)
          by (Some y) q =
              let same : y ≡ x = some_is (sym (providers p y q) ∙ c) in
              Attends a b y q (ap (λ (z : Provider). z.takes_part) same ∙ d) (ap (λ (z : Provider). z.group) same ∙ e)

  pub attends_fewer : (s : SessionState) → Fewer t s → Attending n inc before v t now lens states → Attending n inc before v s now lens states
  attends_fewer s f k = attends_less s f.me f.inc f.last f.providers k

  -- a provider more, under a number that none has
  pub attends_joined : (c : ClientToken) (h : List ℕ) (instance : ℕ) (attrs : Attrs) → Attending n inc before v t now lens states → Attending n inc before v (join_asked t c h instance attrs) now lens states
  unfolding join_asked provider_of
  attends_joined c h instance attrs k =
      record {
        me = k.me;
        inc_is = k.inc_is;
        law = k.law;
        others = k.others;
        began = k.began;
        own = λ p x q. ⊎_elim (λ (a : find (is_provider p) t.providers ≡ Some x). let b = k.own p x a in (b.0, b.1, let z = b.2 in omega arith)) (λ (a : (x ≡ y) × (p ≡ y.provider)). (ap (λ (z : ProviderId). z.node) a.1 ∙ k.me, ap (λ (z : ProviderId). z.inc) a.1 ∙ k.inc_is, let z : p.join ≡ t.last_request + 1 = ap (λ (z : ProviderId). z.join) a.1 in omega arith)) (found p t.providers x q);
        here = λ p x q part. ⊎_elim (λ (a : find (is_provider p) t.providers ≡ Some x). k.here p x a part) (λ (a : (x ≡ y) × (p ≡ y.provider)). absurd (let z : false ≡ true = ap (λ (z : Provider). z.takes_part) (sym a.0) ∙ part in cc)) (found p t.providers x q);
        heard = λ p u g j m q. stance p u g j (k.heard p u g j m q);
        upto = λ p x q part. ⊎_elim (λ (a : find (is_provider p) t.providers ≡ Some x). k.upto p x a part) (λ (a : (x ≡ y) × (p ≡ y.provider)). absurd (let z : false ≡ true = ap (λ (z : Provider). z.takes_part) (sym a.0) ∙ part in cc)) (found p t.providers x q);
      }
    where
      y : Provider
      y = record { provider = new_provider t instance; client = c; group = h; takes_part = false; opened = None }

      found : (p : ProviderId) (xs : List Provider) (x : Provider) → find (is_provider p) (xs ++ y ∷ []) ≡ Some x → (find (is_provider p) xs ≡ Some x) ⊎ ((x ≡ y) × (p ≡ y.provider))
      found p [] x e = last (is_provider p y) refl e
        where
          last : (b : Bool) → is_provider p y ≡ b → (if b then Some y else None) ≡ Some x → (find (is_provider p) [] ≡ Some x) ⊎ ((x ≡ y) × (p ≡ y.provider))
          last true q e = let z : x ≡ y = cc in inr (z, sym (provider_same y.provider p q))
          last false q e = absurd (cc)
      found p (z ∷ xs) x e = by (is_provider p z) e (found p xs x)
        where
          by : (b : Bool) → (if b then Some z else find (is_provider p) (xs ++ y ∷ [])) ≡ Some x → (find (is_provider p) (xs ++ y ∷ []) ≡ Some x → (find (is_provider p) xs ≡ Some x) ⊎ ((x ≡ y) × (p ≡ y.provider))) → ((if b then Some z else find (is_provider p) xs) ≡ Some x) ⊎ ((x ≡ y) × (p ≡ y.provider))
          by true e rest = inl e
          by false e rest = rest e

      still : (p : ProviderId) (xs : List Provider) (x : Provider) → find (is_provider p) xs ≡ Some x → find (is_provider p) (xs ++ y ∷ []) ≡ Some x
      still p [] x e = absurd (cc)
      still p (z ∷ xs) x e = by (is_provider p z) e (still p xs x)
        where
          by : (b : Bool) → (if b then Some z else find (is_provider p) xs) ≡ Some x → (find (is_provider p) xs ≡ Some x → find (is_provider p) (xs ++ y ∷ []) ≡ Some x) → (if b then Some z else find (is_provider p) (xs ++ y ∷ [])) ≡ Some x
          by true e rest = e
          by false e rest = rest e

      none : (p : ProviderId) → find (is_provider p) t.providers ≡ None → p.join ≤ t.last_request → (o : Option Provider) → find (is_provider p) (t.providers ++ y ∷ []) ≡ o → o ≡ None
      none p e le None q = refl
      none p e le (Some x) q =
          ⊎_elim (λ (a : find (is_provider p) t.providers ≡ Some x). absurd (let z : Some x ≡ None = sym a ∙ e in cc)) (λ (a : (x ≡ y) × (p ≡ y.provider)). absurd (let z : p.join ≡ t.last_request + 1 = ap (λ (z : ProviderId). z.join) a.1 in omega (arith, le))) (found p t.providers x q)

      stance : (p : ProviderId) (u : ViewId) (g : List ℕ) (j : ℕ) → Stance inc v t lens p u g j → Stance inc v (join_asked t c h instance attrs) lens p u g j
      stance p u g j (Before a) = Before a
      stance p u g j (Left a) = Left a
      stance p u g j (Gone a b) = Gone (none p a b (find (is_provider p) (t.providers ++ y ∷ [])) refl) (omega (arith, b))
      stance p u g j (Attends a b x d e f) = Attends a b x (still p t.providers x d) e f

-- ---- handing on

-- more records, the latest first
abbrev pub pushed : List Happened → List Happened → List Happened
pushed [] now = now
pushed (r ∷ rs) now = pushed rs (r ∷ now)

pub pushed_reverse : (rs xs : List Happened) → reverse (xs ++ rs) ≡ pushed rs (reverse xs)
pushed_reverse [] xs = ap reverse (append-nil xs)
pushed_reverse (r ∷ rs) xs =
    ap reverse (sym (append_assoc xs (r ∷ []) rs)) ∙ pushed_reverse rs (xs ++ r ∷ []) ∙ ap (pushed rs) (reverse-append xs (r ∷ []))

pub pushed_append : (xs ys now : List Happened) → pushed (xs ++ ys) now ≡ pushed ys (pushed xs now)
pushed_append [] ys now = refl
pushed_append (x ∷ xs) ys now = pushed_append xs ys (x ∷ now)

-- a provider hears, and its ballot is recorded
abbrev pub heard_at : ViewId → List ℕ → ℕ → Entry → GroupState → Cast → List Happened
heard_at v g i e after c = happened.Heard c.provider v g i e after.members after.value ∷ cast_records c.provider c.cast

-- each who hears casts
pub has_cast : (e : Entry) (after : GroupState) (level : ℕ) (ps : List ProviderId) (bs : List (Option Filled)) (p : ProviderId) → Has p ps → (c : Cast) × Has c (casts_of e after level ps bs) × (c.provider ≡ p)
unfolding cast_of
has_cast e after level [] bs p h = absurd h
has_cast e after level (q ∷ ps) [] p (inl k) = (cast_of e after level q None, inl refl, sym k)
has_cast e after level (q ∷ ps) [] p (inr k) = let r = has_cast e after level ps [] p k in (r.0, inr r.1, r.2)
has_cast e after level (q ∷ ps) (b ∷ bs) p (inl k) = (cast_of e after level q b, inl refl, sym k)
has_cast e after level (q ∷ ps) (b ∷ bs) p (inr k) = let r = has_cast e after level ps bs p k in (r.0, inr r.1, r.2)

aside_put : (n : ℕ) (v : ViewId) (g : List ℕ) (r : Happened) → Aside r → (rs : List Happened) → latest_put n v g (r ∷ rs) ≡ latest_put n v g rs
aside_put n v g (happened.Put m u h i e) a rs = absurd a
aside_put n v g (happened.Heard q u h i e ms value) a rs = absurd a
aside_put n v g _ a rs = refl

list_self : (n : ℕ) (v : ViewId) (g : List ℕ) → is_list n v g n v g ≡ true
list_self n v g = λ k. number n k && (view v k && text_self g k)
  where
    number : (n : ℕ) → (n == n) ≡ true
    number n = grind (arith, nat_tests)

    view : (a : ViewId) → same_view a a ≡ true
    view a = grind (arith, nat_tests)

module _ (n inc : ℕ) (before : History) (v : ViewId) (t : SessionState) (now0 : List Happened) (lens : List ℕ → ℕ) (states : List ℕ → GroupState) (k : Attending n inc before v t now0 lens states) (h : List ℕ) (e : Entry) (st : GroupState) where
  abbrev i : ℕ
  i = lens h

  abbrev ps : List ProviderId
  ps = hearers t h (states h) e

  -- some have heard the entry that was put
  record Midway (done : List ProviderId) (now : List Happened) : Type 0 where
    law : Within AtPut now before
    put : latest_put n v h now ≡ Some (i, e)
    others : (p : ProviderId) (u : ViewId) (g : List ℕ) → p.node ≢ n → last_heard p u g (earlier now before) ≡ last_heard p u g (records_of before)
    cases : (p : ProviderId) (u : ViewId) (g : List ℕ) (j : ℕ) → last_heard p u g (earlier now before) ≡ Some j → (last_heard p u g (earlier now0 before) ≡ Some j) ⊎ ((u ≡ v) × (g ≡ h) × (j ≡ i) × Has p ps)
    said : (p : ProviderId) → Has p done → last_heard p v h (earlier now before) ≡ Some i
    apart : (p : ProviderId) (u : ViewId) (g : List ℕ) → (h ≡ g → ⊥) → last_heard p u g (earlier now before) ≡ last_heard p u g (earlier now0 before)

  put_midway : Midway [] (happened.Put n v h i e ∷ now0)
  put_midway =
      record {
        law = ((tt, tt), k.law);
        put = λ z. if list_self n v h z then Some (i, e) else latest_put n v h now0;
        others = k.others;
        cases = λ p u g j q. inl q;
        said = λ p z. absurd z;
        apart = λ p u g ne. refl;
      }

  aside_midway : (done : List ProviderId) (now : List Happened) (r : Happened) → Aside r → Midway done now → Midway done (r ∷ now)
  aside_midway done now r a m =
      record {
        law = (aside_law now before r a, m.law);
        put = aside_put n v h r a now ∙ m.put;
        others = λ p u g ne. aside_last p u g r a (earlier now before) ∙ m.others p u g ne;
        cases = λ p u g j q. m.cases p u g j (sym (aside_last p u g r a (earlier now before)) ∙ q);
        said = λ p z. aside_last p v h r a (earlier now before) ∙ m.said p z;
        apart = λ p u g ne. aside_last p u g r a (earlier now before) ∙ m.apart p u g ne;
      }

  hear_midway : (done : List ProviderId) (now : List Happened) (q : ProviderId) → Has q ps → Midway done now → Midway (q ∷ done) (happened.Heard q v h i e st.members st.value ∷ now)
  hear_midway done now q hears m =
      record {
        law = ((subst (λ z. latest_put z v h now ≡ Some (i, e)) (sym node) m.put, follows (last_heard q v h (earlier now before)) refl), m.law);
        put = m.put;
        others = λ p u g ne. heard_other p u g q v h i e st.members st.value (earlier now before) (λ z. ne (ap (λ (a : ProviderId). a.node) z ∙ node)) ∙ m.others p u g ne;
        cases = λ p u g j z. ⊎_elim (λ (a : last_heard p u g (earlier now before) ≡ Some j). m.cases p u g j a) (λ (a : (p ≡ q) × (u ≡ v) × (g ≡ h) × (j ≡ i)). inr (a.1, a.2, a.3, subst (λ b. Has b ps) (sym a.0) hears)) (heard_cases p u g q v h i e st.members st.value (earlier now before) j z);
        said = said;
        apart = λ p u g ne. heard_apart p u g q v h i e st.members st.value (earlier now before) ne ∙ m.apart p u g ne;
      }
    where
      found : (x : Provider) × (provider_of t q ≡ Some x) × (x.group ≡ h) × ((x.takes_part ≡ true) ⊎ Has q (beginners t h e))
      found = hearer_found t h (states h) e q hears

      node : q.node ≡ n
      node = (k.own q found.0 found.1).0

      next : (j : ℕ) → Stance inc v t lens q v h j → i ≡ j + 1
      next j (Before a) = absurd (let z = (k.own q found.0 found.1).1 in omega arith)
      next j (Left a) = absurd (lt_not_same v v a refl)
      next j (Gone a b) = absurd (let z : Some found.0 ≡ None = sym found.1 ∙ a in cc)
      next j (Attends a b x c d f) = b

      follows : (o : Option ℕ) → last_heard q v h (earlier now before) ≡ o → Follows o i
      follows None z = tt
      follows (Some j) z =
          ⊎_elim (λ (a : last_heard q v h (earlier now0 before) ≡ Some j). inl (next j (k.heard q v h j node a))) (λ (a : (v ≡ v) × (h ≡ h) × (j ≡ i) × Has q ps). inr (sym a.2)) (m.cases q v h j z)

      said : (p : ProviderId) → Has p (q ∷ done) → last_heard p v h (happened.Heard q v h i e st.members st.value ∷ earlier now before) ≡ Some i
      said p (inl z) = subst (λ a. last_heard a v h (happened.Heard q v h i e st.members st.value ∷ earlier now before) ≡ Some i) (sym z) (heard_own q v h i e st.members st.value (earlier now before))
      said p (inr z) = by (same_provider q p && (same_view v v && bytes_eq h h))
        where
          by : (b : Bool) → (if b then Some i else last_heard p v h (earlier now before)) ≡ Some i
          by true = refl
          by false = m.said p z

  cast_midway : (done : List ProviderId) (now : List Happened) (p : ProviderId) (o : Option (ProtoId × ℕ × BallotView)) → Midway done now → Midway done (pushed (cast_records p o) now)
  unfolding cast_records cast_record
  cast_midway done now p None m = m
  cast_midway done now p (Some c) m = by (c.2).filled
    where
      by : (b : Option Filled) → Midway done (pushed (cast_record p c.0 c.1 b) now)
      by None = m
      by (Some b) = aside_midway done now (happened.Cast p c.0 c.1 b.vote b.value b.message) tt m

  record AllHeard (done : List ProviderId) (cs : List Cast) (now : List Happened) : Type 0 where
    all : List ProviderId
    midway : Midway all now
    first : (p : ProviderId) → Has p done → Has p all
    each : (c : Cast) → Has c cs → Has c.provider all

  all_midway : (cs : List Cast) (done : List ProviderId) (now : List Happened) → ((c : Cast) → Has c cs → Has c.provider ps) → Midway done now → AllHeard done cs (pushed (flat_map (heard_at v h i e st) cs) now)
  all_midway [] done now hears m = record { all = done; midway = m; first = λ p z. z; each = λ c z. absurd z }
  all_midway (c ∷ cs) done now hears m =
      let one : Midway (c.provider ∷ done) (pushed (heard_at v h i e st c) now) = cast_midway (c.provider ∷ done) (happened.Heard c.provider v h i e st.members st.value ∷ now) c.provider c.cast (hear_midway done now c.provider (hears c (inl refl)) m) in
      let rest : AllHeard (c.provider ∷ done) cs (pushed (flat_map (heard_at v h i e st) cs) (pushed (heard_at v h i e st c) now)) = all_midway cs (c.provider ∷ done) (pushed (heard_at v h i e st c) now) (λ d z. hears d (inr z)) one in
      record {
        all = rest.all;
        midway = subst (Midway rest.all) (sym (pushed_append (heard_at v h i e st c) (flat_map (heard_at v h i e st) cs) now)) rest.midway;
        first = λ p z. rest.first p (inr z);
        each = λ d z. each rest.all d z (rest.first c.provider (inl refl)) rest.each;
      }
    where
      each : (all : List ProviderId) (d : Cast) → Has d (c ∷ cs) → Has c.provider all → ((d : Cast) → Has d cs → Has d.provider all) → Has d.provider all
      each all d (inl z) a b = subst (λ (x : Cast). Has x.provider all) (sym z) a
      each all d (inr z) a b = b d z

-- an entry is put, and handed on
pub attends_handed : (n inc : ℕ) (before : History) (v : ViewId) (t : SessionState) (now : List Happened) (lens lens' : List ℕ → ℕ) (states states' : List ℕ → GroupState) → Attending n inc before v t now lens states → (h : List ℕ) (e : Entry) (bs : List (Option Filled)) → lens' h ≡ lens h + 1 → ((g : List ℕ) → (h ≡ g → ⊥) → (lens' g ≡ lens g) × (states' g ≡ states g)) → Attending n inc before v (handed_on t h (states h) (states' h) e bs) (pushed (flat_map (heard_at v h (lens h) e (states' h)) (casts_out t h (states h) (states' h) e bs)) (happened.Put n v h (lens h) e ∷ now)) lens' states'
unfolding casts_out
attends_handed n inc before v t now lens lens' states states' k h e bs more same =
    record {
      me = later.me ∙ k.me;
      inc_is = later.inc ∙ k.inc_is;
      law = mid.law;
      others = mid.others;
      began = λ p u g j node q. ⊎_elim (λ (a : last_heard p u g (earlier now before) ≡ Some j). k.began p u g j node a) (λ (a : (u ≡ v) × (g ≡ h) × (j ≡ lens h) × Has p ps'). let f = hearer_found t h (states h) e p a.3 in let z = (k.own p f.0 f.1).1 in omega arith) (mid.cases p u g j q);
      own = λ p y q. let b = kept.back p y q in let a = k.own p b.0 b.1 in (a.0, a.1, on p a.2);
      here = here;
      heard = λ p u g j node q. ⊎_elim (λ (a : last_heard p u g (earlier now before) ≡ Some j). old p u g j q (k.heard p u g j node a)) (λ (a : (u ≡ v) × (g ≡ h) × (j ≡ lens h) × Has p ps'). new p u g j a.0 a.1 a.2 a.3) (mid.cases p u g j q);
      upto = upto;
    }
  where
    st : GroupState
    st = states' h

    ps' : List ProviderId
    ps' = hearers t h (states h) e

    w : SessionState
    w = handed_on t h (states h) st e bs

    later : Later t w
    later = handed_later t h (states h) st e bs

    kept : Kept (beginners t h e) t w
    kept = handed_kept t h (states h) st e bs

    cs : List Cast
    cs = casts_of e st t.level ps' bs

    all : AllHeard n inc before v t now lens states k h e st [] cs (pushed (flat_map (heard_at v h (lens h) e st) cs) (happened.Put n v h (lens h) e ∷ now))
    all = all_midway n inc before v t now lens states k h e st cs [] (happened.Put n v h (lens h) e ∷ now) (λ c z. cast_has e st t.level ps' bs c z) (put_midway n inc before v t now lens states k h e st)

    mid : Midway n inc before v t now lens states k h e st all.all (pushed (flat_map (heard_at v h (lens h) e st) cs) (happened.Put n v h (lens h) e ∷ now))
    mid = all.midway

    on : (p : ProviderId) → p.join ≤ t.last_request → p.join ≤ w.last_request
    on p le = let z = later.last in omega arith

    none : (p : ProviderId) → provider_of t p ≡ None → (o : Option Provider) → provider_of w p ≡ o → o ≡ None
    none p a None q = refl
    none p a (Some y) q = let b = kept.back p y q in absurd (let z : Some b.0 ≡ None = sym b.1 ∙ a in cc)

    -- who takes part in the group and is found in it hears
    hears : (p : ProviderId) (x : Provider) → provider_of t p ≡ Some x → x.takes_part ≡ true → x.group ≡ h → Has p ps'
    hears p x a b c = present_hears t h (states h) e p x a b c (subst (λ z. Has p (present (states z))) c (k.here p x a b))

    here : (p : ProviderId) (y : Provider) → provider_of w p ≡ Some y → y.takes_part ≡ true → Has p (present (states' y.group))
    here p y q part = let b = kept.back p y q in by b.0 b.1 b.2 (b.4 part)
      where
        heard_it : Has p ps' → y.group ≡ h → Has p (present (states' y.group))
        heard_it a b = subst (λ z. Has p (present (states' z))) (sym b) (handed_present t h (states h) st e bs p a y q)

        by : (x : Provider) → provider_of t p ≡ Some x → y.group ≡ x.group → (x.takes_part ≡ true) ⊎ Has p (beginners t h e) → Has p (present (states' y.group))
        by x a b (inr c) =
            let f = hearer_found t h (states h) e p (new_hears t h (states h) e p c) in
            heard_it (new_hears t h (states h) e p c) (b ∙ ap (λ (z : Provider). z.group) (some_is (sym a ∙ f.1)) ∙ f.2)
        by x a b (inl c) =
            ⊎_elim (λ (d : h ≡ x.group). heard_it (hears p x a c (sym d)) (b ∙ sym d)) (λ (d : h ≡ x.group → ⊥). subst (λ z. Has p (present (states' z))) (sym b) (subst (λ z. Has p (present z)) (sym (same x.group d).1) (k.here p x a c))) (cases_text h x.group)

    upto : (p : ProviderId) (y : Provider) → provider_of w p ≡ Some y → y.takes_part ≡ true → lens' y.group ≡ next_place (last_heard p v y.group (earlier (pushed (flat_map (heard_at v h (lens h) e st) cs) (happened.Put n v h (lens h) e ∷ now)) before))
    upto p y q part = let b = kept.back p y q in by b.0 b.1 b.2 (b.4 part)
      where
        heard_it : Has p ps' → y.group ≡ h → lens' y.group ≡ next_place (last_heard p v y.group (earlier (pushed (flat_map (heard_at v h (lens h) e st) cs) (happened.Put n v h (lens h) e ∷ now)) before))
        heard_it a b =
            let z = has_cast e st t.level ps' bs p a in
            let said : last_heard p v h (earlier (pushed (flat_map (heard_at v h (lens h) e st) cs) (happened.Put n v h (lens h) e ∷ now)) before) ≡ Some (lens h) = mid.said p (subst (λ r. Has r all.all) z.2 (all.each z.0 z.1)) in
            subst (λ g. lens' g ≡ next_place (last_heard p v g (earlier (pushed (flat_map (heard_at v h (lens h) e st) cs) (happened.Put n v h (lens h) e ∷ now)) before))) (sym b) (more ∙ ap next_place (sym said))

        by : (x : Provider) → provider_of t p ≡ Some x → y.group ≡ x.group → (x.takes_part ≡ true) ⊎ Has p (beginners t h e) → lens' y.group ≡ next_place (last_heard p v y.group (earlier (pushed (flat_map (heard_at v h (lens h) e st) cs) (happened.Put n v h (lens h) e ∷ now)) before))
        by x a b (inr c) =
            let f = hearer_found t h (states h) e p (new_hears t h (states h) e p c) in
            heard_it (new_hears t h (states h) e p c) (b ∙ ap (λ (z : Provider). z.group) (some_is (sym a ∙ f.1)) ∙ f.2)
        by x a b (inl c) =
            ⊎_elim (λ (d : h ≡ x.group). heard_it (hears p x a c (sym d)) (b ∙ sym d)) (λ (d : h ≡ x.group → ⊥). subst (λ g. lens' g ≡ next_place (last_heard p v g (earlier (pushed (flat_map (heard_at v h (lens h) e st) cs) (happened.Put n v h (lens h) e ∷ now)) before))) (sym b) ((same x.group d).0 ∙ k.upto p x a c ∙ ap next_place (sym (mid.apart p v x.group d)))) (cases_text h x.group)

    -- on or gone
    stance : (p : ProviderId) (u : ViewId) (g : List ℕ) (j : ℕ) (x : Provider) → provider_of t p ≡ Some x → u ≡ v → lens' g ≡ j + 1 → x.group ≡ g → ((y : Provider) → provider_of w p ≡ Some y → y.takes_part ≡ true) → (o : Option Provider) → provider_of w p ≡ o → Stance inc v w lens' p u g j
    stance p u g j x a at len group part None q = Gone q (on p (k.own p x a).2)
    stance p u g j x a at len group part (Some y) q =
        let b = kept.back p y q in
        Attends at len y q (part y q) (b.2 ∙ ap (λ (z : Provider). z.group) (some_is (sym b.1 ∙ a)) ∙ group)

    goes_on : (p : ProviderId) (x : Provider) → provider_of t p ≡ Some x → x.takes_part ≡ true → (y : Provider) → provider_of w p ≡ Some y → y.takes_part ≡ true
    goes_on p x a c y q = let b = kept.back p y q in b.3 (ap (λ (z : Provider). z.takes_part) (some_is (sym b.1 ∙ a)) ∙ c)

    old : (p : ProviderId) (u : ViewId) (g : List ℕ) (j : ℕ) → last_heard p u g (earlier (pushed (flat_map (heard_at v h (lens h) e st) cs) (happened.Put n v h (lens h) e ∷ now)) before) ≡ Some j → Stance inc v t lens p u g j → Stance inc v w lens' p u g j
    old p u g j q (Before a) = Before a
    old p u g j q (Left a) = Left a
    old p u g j q (Gone a b) = Gone (none p a (provider_of w p) refl) (on p b)
    old p u g j q (Attends at len x a c group) = by (cases_text h g)
      where
        by : (h ≡ g) ⊎ (h ≡ g → ⊥) → Stance inc v w lens' p u g j
        by (inr ne) = stance p u g j x a at ((same g ne).0 ∙ len) group (goes_on p x a c) (provider_of w p) refl
        by (inl s) =
            let z = has_cast e st t.level ps' bs p (hears p x a c (group ∙ sym s)) in
            let y : last_heard p v h (earlier (pushed (flat_map (heard_at v h (lens h) e st) cs) (happened.Put n v h (lens h) e ∷ now)) before) ≡ Some (lens h) = mid.said p (subst (λ r. Has r all.all) z.2 (all.each z.0 z.1)) in
            let r : last_heard p v h (earlier (pushed (flat_map (heard_at v h (lens h) e st) cs) (happened.Put n v h (lens h) e ∷ now)) before) ≡ Some j = subst (λ (b : ViewId × List ℕ). last_heard p b.0 b.1 (earlier (pushed (flat_map (heard_at v h (lens h) e st) cs) (happened.Put n v h (lens h) e ∷ now)) before) ≡ Some j) (λ i. (at i, sym s i)) q in
            let m : lens h ≡ j = some_is (sym y ∙ r) in
            let l : lens h ≡ j + 1 = ap lens s ∙ len in
            absurd (omega arith)

    new : (p : ProviderId) (u : ViewId) (g : List ℕ) (j : ℕ) → u ≡ v → g ≡ h → j ≡ lens h → Has p ps' → Stance inc v w lens' p u g j
    new p u g j at s m a =
        let f = hearer_found t h (states h) e p a in
        let len : lens' g ≡ j + 1 = ap lens' s ∙ more ∙ ap (λ z. z + 1) (sym m) in
        stance p u g j f.0 f.1 at len (f.2 ∙ sym s) (λ y q. ⊎_elim (λ (c : (f.0).takes_part ≡ true). goes_on p f.0 f.1 c y q) (λ (c : Has p (beginners t h e)). handed_begun t h (states h) st e bs p c y q) f.3) (provider_of w p) refl
