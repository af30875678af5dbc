-- How rows that are done one after another come together.
use Rattle.std.proofs.Common.{◌≡◌, ◌⊎◌, inl, inr, ℕ, ◌+◌, ◌<◌, ◌≤◌, List, [], ◌∷◌, ◌++◌, length, take, get_or, Option, None, refl, sym, ap, subst, ◌∙◌, arith, append_assoc, append-nil, length-append}
use Rattle.std.specs.Option.{unwrap_or}
use Rattle.std.specs.Prelude.{find}
use Rattle.std.specs.List.{fold}
use Rattle.std.proofs.lemmas.List.{take_all}
use Rattle.std.proofs.lemmas.List.Sums.{fold_more}
use Rattle.std.proofs.lemmas.List.Elements.{filter-append}
use Rattle.rsct_packet.specs.Search.{place_where}
use Rattle.proposal_core.specs.declared.group_state.GroupState.{GroupState}
use Rattle.subscribe_core.specs.declared.subs.ClientToken.{ClientToken}
use Rattle.client_callbacks.specs.declared.votes.VoteItem.{VoteItem}
use Rattle.client_callbacks.specs.Handed.{Handed}
use Rattle.session_state.specs.declared.state.Session.{Session}
use Rattle.session_state.specs.declared.state.SessionState.{SessionState}
use Rattle.session_state.specs.State.{is_session, provider_of, place_of, outstanding, name_in, client_name}
use Rattle.node_state.specs.declared.happened.Happened.{Happened}
use Rattle.node_state.specs.declared.happened.Happened.TheVariants as happened
use Rattle.node_state.specs.declared.state.Core.{Core}
use Rattle.node_state.specs.HandOn.{Answering}
use Rattle.session_state.specs.Owners.{StaysOf, IsDropped, KeepsOwners}
use Rattle.node_state.specs.State.{state_of}
use Rattle.node_state.specs.Handed.{is_handed, handed_in, state_then, state_along, Along, Logged, logged_in}
use Rattle.node_state.proofs.AlongLaws.{along_same, along_itself, along_then, logged_same, logged_both}
use Rattle.session_state.proofs.OwnerLaws.{owners_themselves, owners_then}
use Rattle.entry_delivery.specs.Received.{Handing, IsFor, AreFor, told_by, logged, logged_by, given_to, after_handings, Receive}
use Rattle.entry_delivery.specs.Doing.{Question, Agrees, Rise, AreFilled, Joins, IsNothing, Follows, Stated, Does, Ready}

-- ---- questions

pub rise_lower : (low mid high : ℕ) (qs : List Question) → low ≤ mid → Rise mid high qs → Rise low high qs
rise_lower low mid high [] l r = let h : mid ≤ high = r in omega arith
rise_lower low mid high (q ∷ qs) l r = let at : mid ≤ q.place = r.0 in (omega arith, r.1)

pub rise_upper : (low mid high : ℕ) (qs : List Question) → mid ≤ high → Rise low mid qs → Rise low high qs
rise_upper low mid high [] l r = let h : low ≤ mid = r in omega arith
rise_upper low mid high (q ∷ qs) l r = (r.0, rise_upper (q.place + 1) mid high qs l r.1)

rise_both : (low mid high : ℕ) (xs ys : List Question) → Rise low mid xs → Rise mid high ys → Rise low high (xs ++ ys)
rise_both low mid high [] ys a b = rise_lower low mid high ys a b
rise_both low mid high (q ∷ xs) ys a b = (a.0, rise_both (q.place + 1) mid high xs ys a.1 b)

filled_both : (scripts : List (Option (List (Option VoteItem)))) (lives : List Session) (xs ys : List Question) → AreFilled scripts lives xs → AreFilled scripts lives ys → AreFilled scripts lives (xs ++ ys)
filled_both scripts lives [] ys a b = b
filled_both scripts lives (q ∷ xs) ys a b = (a.0, (a.1.0, filled_both scripts lives xs ys a.1.1 b))

agrees_front : (f : Answering) (xs ys : List Question) → Agrees f (xs ++ ys) → Agrees f xs
agrees_front f [] ys h = tt
agrees_front f (q ∷ xs) ys h = (h.0, agrees_front f xs ys h.1)

agrees_rest : (f : Answering) (xs ys : List Question) → Agrees f (xs ++ ys) → Agrees f ys
agrees_rest f [] ys h = h
agrees_rest f (q ∷ xs) ys h = agrees_rest f xs ys h.1

-- ---- what is handed

pub told_both : (xs ys : List Handing) → told_by (xs ++ ys) ≡ told_by xs ++ told_by ys
told_both [] ys = refl
told_both (h ∷ xs) ys = ap (λ (rs : List Happened). h.what ∷ rs) (told_both xs ys)

name_back : (s t : SessionState) (c : ClientToken) → t.sessions ≡ s.sessions → client_name t c ≡ client_name s c
unfolding client_name
name_back s t c lives = ap (λ (xs : List Session). name_in (find (is_session c) xs)) lives

-- whose it is behind a change, its it is before
is_for_back : (s t : SessionState) (place : Option ℕ) (r : Happened) → KeepsOwners s t → t.sessions ≡ s.sessions → IsFor t place r → IsFor s place r
is_for_back s t place (happened.Heard p v g i e members value) keeps lives h = by (keeps p)
  where
    by : StaysOf s t p ⊎ IsDropped t p → (place ≡ place_of s p) × (provider_of s p ≡ None → ⊥)
    by (inl a) = (h.0 ∙ a.place, λ e. h.1 (a.live e))
    by (inr d) = absurd (h.1 d.live)
is_for_back s t place (happened.Cast p proto phase vote value message) keeps lives h = by (keeps p)
  where
    by : StaysOf s t p ⊎ IsDropped t p → (place ≡ place_of s p) × (provider_of s p ≡ None → ⊥)
    by (inl a) = (h.0 ∙ a.place, λ e. h.1 (a.live e))
    by (inr d) = absurd (h.1 d.live)
is_for_back s t place (happened.Told p r why) keeps lives h = by (keeps p)
  where
    by : StaysOf s t p ⊎ IsDropped t p → (place ≡ place_of s p) × (provider_of s p ≡ None → outstanding s p ≡ None → ⊥)
    by (inl a) = (h.0 ∙ a.place, λ e o. h.1 (a.live e) (a.asked o))
    by (inr d) = absurd (h.1 d.live d.asked)
is_for_back s t place (happened.Noted n name v i x) keeps lives h =
    (h.0, h.1 ∙ ap (λ (xs : List Session). place_where (is_session h.0) xs) lives, h.2 ∙ ap (λ (o : Option (List ℕ)). unwrap_or o []) (name_back s t h.0 lives))
is_for_back s t place (happened.Up n i) keeps lives h = absurd h
is_for_back s t place (happened.Down n) keeps lives h = absurd h
is_for_back s t place (happened.Ring n network ring members neighbour) keeps lives h = absurd h
is_for_back s t place (happened.In n v ms) keeps lives h = absurd h
is_for_back s t place (happened.Base n v g old len st) keeps lives h = absurd h
is_for_back s t place (happened.Put n v g i e) keeps lives h = absurd h
is_for_back s t place (happened.Asked p r g x) keeps lives h = absurd h
is_for_back s t place (happened.Refused n client fault) keeps lives h = absurd h
is_for_back s t place (happened.Shown n line) keeps lives h = absurd h

pub are_for_back : (s t : SessionState) (hs : List Handing) → KeepsOwners s t → t.sessions ≡ s.sessions → AreFor t hs → AreFor s hs
are_for_back s t [] keeps lives h = tt
are_for_back s t (x ∷ hs) keeps lives h = (is_for_back s t x.place x.what keeps lives h.0, are_for_back s t hs keeps lives h.1)

pub are_for_both : (s : SessionState) (xs ys : List Handing) → AreFor s xs → AreFor s ys → AreFor s (xs ++ ys)
are_for_both s [] ys a b = b
are_for_both s (x ∷ xs) ys a b = (a.0, are_for_both s xs ys a.1 b)

pub after_both : (xs ys : List Handing) (rss : List (List Logged)) → after_handings (xs ++ ys) rss ≡ after_handings ys (after_handings xs rss)
unfolding after_handings
after_both [] ys rss = refl
after_both (h ∷ xs) ys rss = after_both xs ys (given_to h.place (logged h) rss)

pub receive_then : {C : Type 0} (R : C → List Handed → Type 0) (cs ds es : List C) → Joins (Receive R cs ds) (Receive R ds es) (Receive R cs es)
receive_then R cs ds es xs ys a b firsts rss h = rw (after_both xs ys rss) (b firsts (after_handings xs rss) (a firsts rss h))

pub joins_nothing : (P : List Handing → Type 0) → Joins P IsNothing P
joins_nothing P xs ys p none = rw (none, append-nil xs) p

-- nothing is handed to anyone
pub receive_nothing : {C : Type 0} (R : C → List Handed → Type 0) (cs : List C) → Receive R cs cs []
unfolding after_handings
receive_nothing R cs firsts rss h = h

-- ---- the states of groups along the records of what is handed

pub logged_apart : (xs ys : List Handing) → logged_by (xs ++ ys) ≡ logged_by xs ++ logged_by ys
logged_apart [] ys = refl
logged_apart (h ∷ xs) ys = ap (λ (ls : List Logged). logged h ∷ ls) (logged_apart xs ys)

pub stated_then : (s t u : Core) (a : Along s t) (b : Along t u) (xs ys : List Handing) → Stated s a.records xs → Stated t b.records ys → Stated s (a.records ++ b.records) (xs ++ ys)
stated_then s t u a b xs ys first next o =
    logged_both a.records b.records (state_of s)
    ∙ (ap (λ (ls : List Logged). ls ++ logged_in b.records (λ g. state_along g a.records (state_of s g))) (first o)
    ∙ (ap (λ (ls : List Logged). logged_by xs ++ ls) (logged_same b.records (λ g. state_along g a.records (state_of s g)) (state_of t) (λ g. sym (a.states o g)) ∙ next (a.order o))
    ∙ sym (logged_apart xs ys)))

-- records that tell nothing that was handed
pub unlogged : (rs : List Happened) (states : List ℕ → GroupState) → handed_in rs ≡ [] → logged_in rs states ≡ []
unlogged [] states h = refl
unlogged (happened.Heard p v g i e members value ∷ rs) states h = absurd cc
unlogged (happened.Cast p proto phase vote value message ∷ rs) states h = absurd cc
unlogged (happened.Told p r why ∷ rs) states h = absurd cc
unlogged (happened.Noted node client v i told ∷ rs) states h = absurd cc
unlogged (happened.Up n i ∷ rs) states h = unlogged rs (λ k. state_then k (happened.Up n i) (states k)) h
unlogged (happened.Down n ∷ rs) states h = unlogged rs (λ k. state_then k (happened.Down n) (states k)) h
unlogged (happened.Ring n network ring members neighbour ∷ rs) states h = unlogged rs (λ k. state_then k (happened.Ring n network ring members neighbour) (states k)) h
unlogged (happened.In n v ms ∷ rs) states h = unlogged rs (λ k. state_then k (happened.In n v ms) (states k)) h
unlogged (happened.Base n v g old len st ∷ rs) states h = unlogged rs (λ k. state_then k (happened.Base n v g old len st) (states k)) h
unlogged (happened.Put n v g i e ∷ rs) states h = unlogged rs (λ k. state_then k (happened.Put n v g i e) (states k)) h
unlogged (happened.Asked p r g x ∷ rs) states h = unlogged rs (λ k. state_then k (happened.Asked p r g x) (states k)) h
unlogged (happened.Refused n client fault ∷ rs) states h = unlogged rs (λ k. state_then k (happened.Refused n client fault) (states k)) h
unlogged (happened.Shown n line ∷ rs) states h = unlogged rs (λ k. state_then k (happened.Shown n line) (states k)) h

-- nothing came behind
none_behind : {A : Type 0} (xs ys : List A) → xs ++ ys ≡ xs → ys ≡ []
none_behind xs [] e = refl
none_behind xs (y ∷ ys) e = let n : length (xs ++ y ∷ ys) ≡ length xs = ap length e in let m : length (xs ++ y ∷ ys) ≡ length xs + length (y ∷ ys) = length-append xs (y ∷ ys) in absurd (omega (arith, n, m))

-- where nothing is handed, the records tell nothing
pub unstated : (s t : Core) (a : Along s t) → handed_in t.records ≡ handed_in s.records → Stated s a.records []
unstated s t a handed o =
    unlogged a.records (state_of s)
    (none_behind (handed_in s.records) (handed_in a.records) (sym (filter-append is_handed s.records a.records) ∙ (ap handed_in (sym a.more) ∙ handed)))

pub stated_after : (s t u : Core) (a : Along s t) (b : Along t u) (hs : List Handing) → handed_in t.records ≡ handed_in s.records → Stated t b.records hs → Stated s (a.records ++ b.records) hs
stated_after s t u a b hs handed next = stated_then s t u a b [] hs (unstated s t a handed) next

pub stated_before : (s t u : Core) (a : Along s t) (b : Along t u) (hs : List Handing) → Stated s a.records hs → handed_in u.records ≡ handed_in t.records → Stated s (a.records ++ b.records) hs
stated_before s t u a b hs first handed o = stated_then s t u a b hs [] first (unstated t u b handed) o ∙ ap logged_by (append-nil hs)

-- ---- rows

pub follows_itself : (s : Core) → Follows s s
follows_itself s = record { grows = omega arith; lives = refl; handed = refl; owners = owners_themselves s.sessions; along = along_itself s }

pub follows_then : (s t u : Core) → Follows s t → Follows t u → Follows s u
follows_then s t u a b =
    let first : length s.records ≤ length t.records = a.grows in
    let next : length t.records ≤ length u.records = b.grows in
    record { grows = omega arith; lives = b.lives ∙ a.lives; handed = b.handed ∙ a.handed; owners = owners_then s.sessions t.sessions u.sessions a.owners b.owners; along = along_then s t u a.along b.along }

-- one row after another
pub does_then : (scripts : List (Option (List (Option VoteItem)))) (P Q W : List Handing → Type 0) → Joins P Q W → (s t u : Core) (a : Answering → Core) (b : Answering → Core → Core) → Does scripts P s t a → Does scripts Q t u (λ f. b f t) → Does scripts W s u (λ f. b f (a f))
unfolding along_then
does_then scripts P Q W join s t u a b first next =
    record {
      asked = first.asked ++ next.asked;
      filled = filled_both scripts s.sessions.sessions first.asked next.asked first.filled (subst (λ ss. AreFilled scripts ss next.asked) first.lives next.filled);
      placed = rise_both (length s.records) (length t.records) (length u.records) first.asked next.asked first.placed next.placed;
      lives = next.lives ∙ first.lives;
      does = λ f h. next.does f (agrees_rest f first.asked next.asked h) ∙ ap (b f) (first.does f (agrees_front f first.asked next.asked h));
      handings = first.handings ++ next.handings;
      told = next.told
          ∙ (ap (λ (rs : List Happened). rs ++ told_by next.handings) first.told
          ∙ (append_assoc (handed_in s.records) (told_by first.handings) (told_by next.handings)
          ∙ ap (λ (rs : List Happened). handed_in s.records ++ rs) (sym (told_both first.handings next.handings))));
      owned = are_for_both s.sessions first.handings next.handings first.owned (are_for_back s.sessions t.sessions next.handings first.owners first.lives next.owned);
      owners = owners_then s.sessions t.sessions u.sessions first.owners next.owners;
      along = along_then s t u first.along next.along;
      stated = stated_then s t u first.along next.along first.handings next.handings first.stated next.stated;
      received = join first.handings next.handings first.received next.received;
    }

-- what asks no client, and hands this to them
pub does_handing : (scripts : List (Option (List (Option VoteItem)))) (P : List Handing → Type 0) (s t k : Core) (hs : List Handing) → P hs → t ≡ k → length s.records ≤ length t.records → t.sessions.sessions ≡ s.sessions.sessions → handed_in t.records ≡ handed_in s.records ++ told_by hs
    → AreFor s.sessions hs → KeepsOwners s.sessions t.sessions → (along : Along s t) → Stated s along.records hs → Does scripts P s t (λ f. k)
does_handing scripts P s t k hs p e grows lives told owned owners along stated =
    record {
      asked = [];
      filled = tt;
      placed = grows;
      lives = lives;
      does = λ f h. e;
      handings = hs;
      told = told;
      owned = owned;
      owners = owners;
      along = along;
      stated = stated;
      received = p;
    }

-- what asks no client, and hands nothing to any
pub does_plain : (scripts : List (Option (List (Option VoteItem)))) (P : List Handing → Type 0) (s t k : Core) → P [] → t ≡ k → Follows s t → Does scripts P s t (λ f. k)
does_plain scripts P s t k p e on =
    does_handing scripts P s t k [] p e on.grows on.lives (on.handed ∙ sym (append-nil (handed_in s.records))) tt on.owners on.along (unstated s t on.along on.handed)

-- nothing at all
pub does_nothing : (scripts : List (Option (List (Option VoteItem)))) (P : List Handing → Type 0) (s : Core) → P [] → Does scripts P s s (λ f. s)
does_nothing scripts P s p = does_plain scripts P s s s p refl (follows_itself s)

-- a change before
pub does_after : (scripts : List (Option (List (Option VoteItem)))) (P : List Handing → Type 0) (s t u : Core) (a : Answering → Core) → Follows s t → Does scripts P t u a → Does scripts P s u a
unfolding along_then
does_after scripts P s t u a on next =
    record {
      asked = next.asked;
      filled = subst (λ ss. AreFilled scripts ss next.asked) on.lives next.filled;
      placed = rise_lower (length s.records) (length t.records) (length u.records) next.asked on.grows next.placed;
      lives = next.lives ∙ on.lives;
      does = next.does;
      handings = next.handings;
      told = next.told ∙ ap (λ (rs : List Happened). rs ++ told_by next.handings) on.handed;
      owned = are_for_back s.sessions t.sessions next.handings on.owners on.lives next.owned;
      owners = owners_then s.sessions t.sessions u.sessions on.owners next.owners;
      along = along_then s t u on.along next.along;
      stated = stated_after s t u on.along next.along next.handings on.handed next.stated;
      received = next.received;
    }

-- a change behind
pub does_before : (scripts : List (Option (List (Option VoteItem)))) (P : List Handing → Type 0) (s t u : Core) (a : Answering → Core) (k : Core → Core) → Does scripts P s t a → u ≡ k t → Follows t u → Does scripts P s u (λ f. k (a f))
unfolding along_then
does_before scripts P s t u a k first e on =
    record {
      asked = first.asked;
      filled = first.filled;
      placed = rise_upper (length s.records) (length t.records) (length u.records) first.asked on.grows first.placed;
      lives = on.lives ∙ first.lives;
      does = λ f h. e ∙ ap k (first.does f h);
      handings = first.handings;
      told = on.handed ∙ first.told;
      owned = first.owned;
      owners = owners_then s.sessions t.sessions u.sessions first.owners on.owners;
      along = along_then s t u first.along on.along;
      stated = stated_before s t u first.along on.along first.handings first.stated on.handed;
      received = first.received;
    }

-- the same row in other words, and this too holds of what is handed
pub does_with : (scripts : List (Option (List (Option VoteItem)))) (P Q : List Handing → Type 0) (s t : Core) (a b : Answering → Core) → ((f : Answering) → a f ≡ b f) → (done : Does scripts P s t a) → Q done.handings → Does scripts Q s t b
does_with scripts P Q s t a b same done q =
    record {
      asked = done.asked;
      filled = done.filled;
      placed = done.placed;
      lives = done.lives;
      does = λ f h. done.does f h ∙ same f;
      handings = done.handings;
      told = done.told;
      owned = done.owned;
      owners = done.owners;
      along = done.along;
      stated = done.stated;
      received = q;
    }

-- what is handed, in other words
pub does_weaker : (scripts : List (Option (List (Option VoteItem)))) (P Q : List Handing → Type 0) (s t : Core) (a : Answering → Core) → ((hs : List Handing) → P hs → Q hs) → Does scripts P s t a → Does scripts Q s t a
does_weaker scripts P Q s t a weaker done = does_with scripts P Q s t a a (λ f. refl) done (weaker done.handings done.received)

-- the same row in other words
pub does_as : (scripts : List (Option (List (Option VoteItem)))) (P : List Handing → Type 0) (s t : Core) (a b : Answering → Core) → ((f : Answering) → a f ≡ b f) → Does scripts P s t a → Does scripts P s t b
does_as scripts P s t a b same done = does_with scripts P P s t a b same done done.received

-- ---- one after another over a list

-- one more of a list
pub does_more : {X : Type 0} (scripts : List (Option (List (Option VoteItem)))) (P Q W : List Handing → Type 0) → Joins P Q W → (s t u : Core) (h : Answering → Core → X → Core) (xs : List X) (k : ℕ) (x : X) → k < length xs → x ≡ get_or xs k x
    → Does scripts P s t (λ f. fold (h f) s (take k xs)) → Does scripts Q t u (λ f. h f t x) → Does scripts W s u (λ f. fold (h f) s (take (k + 1) xs))
does_more scripts P Q W join s t u h xs k x lt is first next =
    does_as scripts W s u (λ f. h f (fold (h f) s (take k xs)) x) (λ f. fold (h f) s (take (k + 1) xs))
    (λ f. sym (fold_more (h f) s xs k x lt ∙ ap (h f (fold (h f) s (take k xs))) (sym is)))
    (does_then scripts P Q W join s t u (λ f. fold (h f) s (take k xs)) (λ f y. h f y x) first next)

-- and so all of it
pub does_all : {X : Type 0} (scripts : List (Option (List (Option VoteItem)))) (P : List Handing → Type 0) (s t : Core) (h : Answering → Core → X → Core) (xs : List X) (k : ℕ) → length xs ≤ k → Does scripts P s t (λ f. fold (h f) s (take k xs)) → Does scripts P s t (λ f. fold (h f) s xs)
does_all scripts P s t h xs k past done = subst (λ zs. Does scripts P s t (λ f. fold (h f) s zs)) (take_all k xs past) done

-- ---- what leaves records, sessions, views and groups as they are

pub record Beside (s t : Core) : Type 0 where
  pub records : t.records ≡ s.records
  pub sessions : t.sessions ≡ s.sessions
  pub views : t.views ≡ s.views
  pub groups : t.groups ≡ s.groups

pub beside_itself : (s : Core) → Beside s s
beside_itself s = record { records = refl; sessions = refl; views = refl; groups = refl }

pub beside_then : (s t u : Core) → Beside s t → Beside t u → Beside s u
beside_then s t u a b = record { records = b.records ∙ a.records; sessions = b.sessions ∙ a.sessions; views = b.views ∙ a.views; groups = b.groups ∙ a.groups }

pub beside_as : (s t u : Core) → u ≡ t → Beside s t → Beside s u
beside_as s t u e a =
    record { records = ap (λ (x : Core). x.records) e ∙ a.records; sessions = ap (λ (x : Core). x.sessions) e ∙ a.sessions; views = ap (λ (x : Core). x.views) e ∙ a.views; groups = ap (λ (x : Core). x.groups) e ∙ a.groups }

pub beside_grows : (s t : Core) → Beside s t → length s.records ≤ length t.records
beside_grows s t b = let e : length t.records ≡ length s.records = ap length b.records in omega arith

pub beside_follows : (s t : Core) → Beside s t → Follows s t
beside_follows s t b =
    record {
      grows = beside_grows s t b;
      lives = ap (λ (x : SessionState). x.sessions) b.sessions;
      handed = ap handed_in b.records;
      owners = subst (λ (x : SessionState). KeepsOwners s.sessions x) (sym b.sessions) (owners_themselves s.sessions);
      along = along_same s t b.records b.groups;
    }

-- as many clients as sessions, where the sessions are as before
pub ready_same : {C : Type 0} (s t : Core) (cs ds : List C) → t.sessions.sessions ≡ s.sessions.sessions → t.sessions.level ≡ s.sessions.level → length ds ≡ length cs → Ready s cs → Ready t ds
ready_same s t cs ds same level many r = record { level = rw level r.level; aligned = many ∙ (r.aligned ∙ ap length (sym same)) }

pub ready_beside : {C : Type 0} (s t : Core) (cs ds : List C) → Beside s t → length ds ≡ length cs → Ready s cs → Ready t ds
ready_beside s t cs ds b many r =
    ready_same s t cs ds (ap (λ (x : SessionState). x.sessions) b.sessions) (ap (λ (x : SessionState). x.level) b.sessions) many r
