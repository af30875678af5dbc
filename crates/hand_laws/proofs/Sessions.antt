-- Each log of a node belongs to a session, and has what the session's providers heard: so it is kept as sessions begin and end, and
-- as providers come and go.
use Rattle.std.proofs.Common.{◌≡◌, ◌⊎◌, inl, inr, ℕ, zero, suc, ◌+◌, ◌<◌, Bool, true, false, not, List, [], ◌∷◌, ◌++◌, length, Option, Some, None, refl, sym, ap, subst, ◌∙◌, arith}
use Rattle.std.specs.Prelude.{find, filter, is_none, slice_get, remove, if◌then◌else◌}
use Rattle.std.specs.Option.{option_map}
use Rattle.std.proofs.lemmas.Bool.{eqb-true, eq-eqb, not-true}
use Rattle.std.proofs.lemmas.List.{length-append}
use Rattle.rsct_packet.specs.declared.ids.ProviderId.{ProviderId}
use Rattle.rsct_packet.specs.Providers.{same_provider}
use Rattle.rsct_packet.specs.Search.{Has, place_where}
use Rattle.rsct_packet.proofs.HasLaws.{has_filter, find_has, find_none}
use Rattle.rsct_packet.proofs.SearchLaws.{place_is_in}
use Rattle.group_attr.specs.declared.attrs.Attrs.{Attrs}
use Rattle.subscribe_core.specs.declared.subs.ClientToken.{ClientToken}
use Rattle.session_state.specs.declared.state.Provider.{Provider}
use Rattle.session_state.specs.declared.state.Session.{Session}
use Rattle.session_state.specs.declared.state.SessionState.{SessionState}
use Rattle.session_state.specs.State.{is_session, is_provider, is_client_of, provider_of, client_place, place_for, place_of}
use Rattle.session_state.specs.Calls.{add_session, join_asked, new_provider, end_session, removed_at}

-- ---- lists that stand side by side

get_within : {A : Type 0} (i : ℕ) (x : A) (xs : List A) → slice_get xs i ≡ Some x → i < length xs
get_within i x [] h = absurd (cc)
get_within zero x (y ∷ xs) h = omega arith
get_within (suc i) x (y ∷ xs) h = let l = get_within i x xs h in omega (arith, l)

pub get_at : {A : Type 0} (i : ℕ) (xs : List A) → i < length xs → (x : A) × (slice_get xs i ≡ Some x)
get_at i [] l = absurd (omega arith)
get_at zero (x ∷ xs) l = (x, refl)
get_at (suc i) (x ∷ xs) l = get_at i xs (omega arith)

-- what stands in a longer list stands in the shorter one, or is the new one
get_last : {A : Type 0} (i : ℕ) (x y : A) (xs : List A) → slice_get (xs ++ y ∷ []) i ≡ Some x → (slice_get xs i ≡ Some x) ⊎ (x ≡ y)
get_last zero x y [] h = let same : y ≡ x = cc in inr (sym same)
get_last (suc i) x y [] h = absurd (cc)
get_last zero x y (z ∷ xs) h = inl h
get_last (suc i) x y (z ∷ xs) h = get_last i x y xs h

get_front : {A : Type 0} (i : ℕ) (x y : A) (xs : List A) → i < length xs → slice_get (xs ++ y ∷ []) i ≡ Some x → slice_get xs i ≡ Some x
get_front i x y [] l h = absurd (omega arith)
get_front zero x y (z ∷ xs) l h = h
get_front (suc i) x y (z ∷ xs) l h = get_front i x y xs (omega arith) h

-- a place is found in front
place_front : {A : Type 0} (test : A → Bool) (xs : List A) (y : A) (i : ℕ) → place_where test xs ≡ Some i → place_where test (xs ++ y ∷ []) ≡ Some i
place_front test [] y i e = absurd (cc)
place_front test (x ∷ xs) y i e = by (test x) (place_where test xs) (λ j k. place_front test xs y j k) e
  where
    by : (b : Bool) (o : Option ℕ) → ((j : ℕ) → o ≡ Some j → place_where test (xs ++ y ∷ []) ≡ Some j) → (if b then Some 0 else option_map suc o) ≡ Some i → (if b then Some 0 else option_map suc (place_where test (xs ++ y ∷ []))) ≡ Some i
    by true o rest q = q
    by false None rest q = absurd (cc)
    by false (Some j) rest q = ap (option_map suc) (rest j refl) ∙ q

-- where one passes, a place is found
pub place_found : {A : Type 0} (test : A → Bool) (xs : List A) (x : A) → Has x xs → test x ≡ true → (i : ℕ) × (place_where test xs ≡ Some i)
place_found test [] x h e = absurd h
place_found test (y ∷ ys) x h e = by (λ k. place_found test ys x k e) (test y) refl
  where
    by : (Has x ys → (i : ℕ) × (place_where test ys ≡ Some i)) → (b : Bool) → test y ≡ b → (i : ℕ) × ((if b then Some 0 else option_map suc (place_where test ys)) ≡ Some i)
    by rest true q = (0, refl)
    by rest false q = later h
      where
        later : Has x (y ∷ ys) → (i : ℕ) × (option_map suc (place_where test ys) ≡ Some i)
        later (inl same) = let no : true ≡ false = sym e ∙ ap test same ∙ q in absurd (cc)
        later (inr k) = let z = rest k in (suc z.0, ap (option_map suc) z.1)

-- one taken out of both
length_without : {A B : Type 0} (i : ℕ) (xs : List A) (ys : List B) → length xs ≡ length ys → length (remove xs i) ≡ length (remove ys i)
length_without zero [] [] e = refl
length_without (suc i) [] [] e = refl
length_without i [] (y ∷ ys) e = absurd (omega (arith, e))
length_without i (x ∷ xs) [] e = absurd (omega (arith, e))
length_without zero (x ∷ xs) (y ∷ ys) e = omega (arith, e)
length_without (suc i) (x ∷ xs) (y ∷ ys) e = let k : length (remove xs i) ≡ length (remove ys i) = length_without i xs ys (omega (arith, e)) in omega (arith, k)

removed_length : {A B : Type 0} (o : Option ℕ) (xs : List A) (ys : List B) → length xs ≡ length ys → length (removed_at o xs) ≡ length (removed_at o ys)
removed_length None xs ys e = e
removed_length (Some i) xs ys e = length_without i xs ys e

get_without : {A : Type 0} (k : ℕ) (xs : List A) (i : ℕ) (x : A) → slice_get (remove xs k) i ≡ Some x → (j : ℕ) × (slice_get xs j ≡ Some x)
get_without zero [] i x h = absurd (cc)
get_without (suc k) [] i x h = absurd (cc)
get_without zero (y ∷ ys) i x h = (suc i, h)
get_without (suc k) (y ∷ ys) zero x h = (0, h)
get_without (suc k) (y ∷ ys) (suc i) x h = let z = get_without k ys i x h in (suc z.0, z.1)

removed_get : {A : Type 0} (o : Option ℕ) (xs : List A) (i : ℕ) (x : A) → slice_get (removed_at o xs) i ≡ Some x → (j : ℕ) × (slice_get xs j ≡ Some x)
removed_get None xs i x h = (i, h)
removed_get (Some k) xs i x h = get_without k xs i x h

-- ---- sessions with their logs

module _ {L X : Type 0} (told : ProviderId → L → List X) (bare : L) (nothing : (p : ProviderId) → told p bare ≡ []) (heard : ProviderId → List X) where
  -- each log has all that the providers of its session heard, and nothing of whom nothing was heard of
  pub record HaveAll (s : SessionState) (logs : List L) : Type 0 where
    pub aligned : length logs ≡ length s.sessions
    pub all : (p : ProviderId) (i : ℕ) (log : L) → place_of s p ≡ Some i → slice_get logs i ≡ Some log → told p log ≡ heard p
    pub none : (i : ℕ) (log : L) → slice_get logs i ≡ Some log → (p : ProviderId) → heard p ≡ [] → told p log ≡ []

  abbrev InPlace : SessionState → ProviderId → ℕ → Type 0
  InPlace s p i = (x : Provider) × (find (is_provider p) s.providers ≡ Some x) × (place_where (is_session x.client) s.sessions ≡ Some i)

  pub placed : (s : SessionState) (p : ProviderId) (i : ℕ) → place_of s p ≡ Some i → InPlace s p i
  unfolding place_of provider_of
  placed s p i e = by (find (is_provider p) s.providers) refl e
    where
      by : (o : Option Provider) → find (is_provider p) s.providers ≡ o → place_for s o ≡ Some i → InPlace s p i
      by None q z = absurd (cc)
      by (Some x) q z = (x, q, z)

  pub in_place : (s : SessionState) (p : ProviderId) (i : ℕ) (x : Provider) → find (is_provider p) s.providers ≡ Some x → place_where (is_session x.client) s.sessions ≡ Some i → place_of s p ≡ Some i
  unfolding place_of provider_of
  in_place s p i x found at = ap (place_for s) found ∙ at

  -- the same sessions and providers
  pub have_same : (s t : SessionState) (logs : List L) → t.sessions ≡ s.sessions → t.providers ≡ s.providers → HaveAll s logs → HaveAll t logs
  have_same s t logs ses provs k =
      record {
        aligned = k.aligned ∙ ap (λ (xs : List Session). length xs) (sym ses);
        all = λ p i log e. let z = placed t p i e in k.all p i log (in_place s p i z.0 (ap (find (is_provider p)) (sym provs) ∙ z.1) (ap (place_where (is_session (z.0).client)) (sym ses) ∙ z.2));
        none = k.none;
      }

  -- a session begins
  pub have_begun : (s : SessionState) (name : List ℕ) (logs : List L) → ((x : Provider) → Has x s.providers → (y : Session) × Has y s.sessions × (y.token.number ≡ x.client.number)) → HaveAll s logs → HaveAll (add_session s name) (logs ++ bare ∷ [])
  unfolding add_session
  have_begun s name logs owner k =
      record {
        aligned = length-append logs (bare ∷ []) ∙ ap (λ z. z + 1) k.aligned ∙ sym (length-append s.sessions (new ∷ []));
        all = all;
        none = λ i log e p h. last i log p h (get_last i log bare logs e);
      }
    where
      new : Session
      new = record { token = record { number = s.last_client + 1 }; name = name }

      last : (i : ℕ) (log : L) (p : ProviderId) → heard p ≡ [] → (slice_get logs i ≡ Some log) ⊎ (log ≡ bare) → told p log ≡ []
      last i log p h (inl e) = k.none i log e p h
      last i log p h (inr e) = ap (told p) e ∙ nothing p

      all : (p : ProviderId) (i : ℕ) (log : L) → place_of (record s { last_client = s.last_client + 1; sessions = s.sessions ++ new ∷ [] }) p ≡ Some i → slice_get (logs ++ bare ∷ []) i ≡ Some log → told p log ≡ heard p
      all p i log e at =
          let z = placed (record s { last_client = s.last_client + 1; sessions = s.sessions ++ new ∷ [] }) p i e in
          let x : Provider = z.0 in
          let y = owner x (find_has (is_provider p) s.providers x z.1).0 in
          let j = place_found (is_session x.client) s.sessions y.0 y.1 (eq-eqb (y.0).token.number x.client.number y.2) in
          let both : Some i ≡ Some j.0 = sym z.2 ∙ place_front (is_session x.client) s.sessions new j.0 j.1 in
          let same : i ≡ j.0 = cc in
          let l : j.0 < length s.sessions = place_is_in (is_session x.client) s.sessions j.0 j.1 in
          let a = k.aligned in
          k.all p i log (in_place s p i x z.1 (j.1 ∙ ap Some (sym same))) (get_front i log bare logs (omega (arith, l, same, a)) at)

  -- a provider joins, of whom nothing was heard
  pub have_joined : (s : SessionState) (c : ClientToken) (g : List ℕ) (instance : ℕ) (attrs : Attrs) (logs : List L) → heard (new_provider s instance) ≡ [] → ((p q : ProviderId) → same_provider p q ≡ true → p ≡ q) → HaveAll s logs → HaveAll (join_asked s c g instance attrs) logs
  unfolding join_asked
  have_joined s c g instance attrs logs fresh same k = record { aligned = k.aligned; all = all; none = k.none }
    where
      new : Provider
      new = record { provider = new_provider s instance; client = c; group = g; takes_part = false; opened = None }

      with_new : (p : ProviderId) (xs : List Provider) (x : Provider) → find (is_provider p) (xs ++ new ∷ []) ≡ Some x → (find (is_provider p) xs ≡ Some x) ⊎ (is_provider p new ≡ true)
      with_new p [] x e = inr (by (is_provider p new) e)
        where
          by : (b : Bool) → (if b then Some new else None) ≡ Some x → b ≡ true
          by true q = refl
          by false q = absurd (cc)
      with_new p (y ∷ xs) x e = by (is_provider p y) (with_new p xs x) e
        where
          by : (b : Bool) → (find (is_provider p) (xs ++ new ∷ []) ≡ Some x → (find (is_provider p) xs ≡ Some x) ⊎ (is_provider p new ≡ true)) → (if b then Some y else find (is_provider p) (xs ++ new ∷ [])) ≡ Some x → ((if b then Some y else find (is_provider p) xs) ≡ Some x) ⊎ (is_provider p new ≡ true)
          by true rest q = inl q
          by false rest q = rest q

      of : (p : ProviderId) (i : ℕ) (log : L) (x : Provider) → place_where (is_session x.client) s.sessions ≡ Some i → slice_get logs i ≡ Some log → (find (is_provider p) s.providers ≡ Some x) ⊎ (is_provider p new ≡ true) → told p log ≡ heard p
      of p i log x place at (inl e) = k.all p i log (in_place s p i x e place) at
      of p i log x place at (inr e) =
          let own : heard p ≡ [] = ap heard (sym (same (new_provider s instance) p e)) ∙ fresh in
          k.none i log at p own ∙ sym own

      all : (p : ProviderId) (i : ℕ) (log : L) → place_of (join_asked s c g instance attrs) p ≡ Some i → slice_get logs i ≡ Some log → told p log ≡ heard p
      all p i log e at =
          let z = placed (join_asked s c g instance attrs) p i e in
          of p i log z.0 z.2 at (with_new p s.providers z.0 z.1)

  -- a session ends
  place_left : (t c : ClientToken) → (t.number ≡ c.number → ⊥) → (ses : List Session) (logs : List L) → length logs ≡ length ses → (i : ℕ) (log : L) → place_where (is_session c) (removed_at (place_where (is_session t) ses) ses) ≡ Some i → slice_get (removed_at (place_where (is_session t) ses) logs) i ≡ Some log → (j : ℕ) × (place_where (is_session c) ses ≡ Some j) × (slice_get logs j ≡ Some log)
  place_left t c apart [] logs l i log e at = absurd (cc)
  place_left t c apart (y ∷ ses) [] l i log e at = absurd (omega (arith, l))
  place_left t c apart (y ∷ ses) (z ∷ logs) l i log e at = by (is_session t y) (is_session c y) refl refl (place_where (is_session t) ses) (λ j q r. place_left t c apart ses logs (omega (arith, l)) j log q r) e at
    where
      by : (a b : Bool) → is_session t y ≡ a → is_session c y ≡ b → (o : Option ℕ) → ((j : ℕ) → place_where (is_session c) (removed_at o ses) ≡ Some j → slice_get (removed_at o logs) j ≡ Some log → (m : ℕ) × (place_where (is_session c) ses ≡ Some m) × (slice_get logs m ≡ Some log))
          → place_where (is_session c) (removed_at (if a then Some 0 else option_map suc o) (y ∷ ses)) ≡ Some i → slice_get (removed_at (if a then Some 0 else option_map suc o) (z ∷ logs)) i ≡ Some log
          → (j : ℕ) × ((if is_session c y then Some 0 else option_map suc (place_where (is_session c) ses)) ≡ Some j) × (slice_get (z ∷ logs) j ≡ Some log)
      by true true p q o rest e at = absurd (apart (sym (eqb-true y.token.number t.number p) ∙ eqb-true y.token.number c.number q))
      by true false p q o rest e at = (suc i, ap (λ b. if b then Some 0 else option_map suc (place_where (is_session c) ses)) q ∙ ap (option_map suc) e, at)
      by false b p q None rest e at = (i, e, at)
      by false true p q (Some k) rest e at =
          let first : (if is_session c y then Some 0 else option_map suc (place_where (is_session c) (remove ses k))) ≡ Some 0 = ap (λ b. if b then Some 0 else option_map suc (place_where (is_session c) (remove ses k))) q in
          let both : Some i ≡ Some 0 = sym e ∙ first in
          let zero_is : i ≡ 0 = cc in
          (0, ap (λ b. if b then Some 0 else option_map suc (place_where (is_session c) ses)) q, subst (λ n. slice_get (z ∷ remove logs k) n ≡ Some log) zero_is at)
      by false false p q (Some k) rest e at = behind i e at
        where
          later : (o : Option ℕ) → place_where (is_session c) (remove ses k) ≡ o → (n : ℕ) → option_map suc o ≡ Some n → slice_get (z ∷ remove logs k) n ≡ Some log → (j : ℕ) × ((if is_session c y then Some 0 else option_map suc (place_where (is_session c) ses)) ≡ Some j) × (slice_get (z ∷ logs) j ≡ Some log)
          later None f n r at = absurd (cc)
          later (Some j) f n r at =
              let same : n ≡ suc j = cc in
              let m = rest j f (subst (λ h. slice_get (z ∷ remove logs k) h ≡ Some log) same at) in
              (suc m.0, ap (λ b. if b then Some 0 else option_map suc (place_where (is_session c) ses)) q ∙ ap (option_map suc) m.1, m.2)

          behind : (n : ℕ) → (if is_session c y then Some 0 else option_map suc (place_where (is_session c) (remove ses k))) ≡ Some n → slice_get (z ∷ remove logs k) n ≡ Some log → (j : ℕ) × ((if is_session c y then Some 0 else option_map suc (place_where (is_session c) ses)) ≡ Some j) × (slice_get (z ∷ logs) j ≡ Some log)
          behind n e at = later (place_where (is_session c) (remove ses k)) refl n (ap (λ b. if b then Some 0 else option_map suc (place_where (is_session c) (remove ses k))) (sym q) ∙ e) at

  -- whose provider is found, under which client
  found_same : (xs : List Provider) (p : ProviderId) (x : Provider) → ((a b : Provider) → Has a xs → Has b xs → a.provider ≡ b.provider → a.client ≡ b.client) → ((p q : ProviderId) → same_provider p q ≡ true → p ≡ q) → Has x xs → is_provider p x ≡ true → (y : Provider) × (find (is_provider p) xs ≡ Some y) × (y.client ≡ x.client)
  found_same xs p x one same i e = by (find (is_provider p) xs) refl
    where
      by : (o : Option Provider) → find (is_provider p) xs ≡ o → (y : Provider) × (find (is_provider p) xs ≡ Some y) × (y.client ≡ x.client)
      by None q = absurd (find_none (is_provider p) xs x (ap is_none q) i e)
      by (Some y) q = let h = find_has (is_provider p) xs y q in (y, q, one y x h.0 i (same y.provider p h.1 ∙ sym (same x.provider p e)))

  pub have_ended : (s : SessionState) (t : ClientToken) (logs : List L) → ((a b : Provider) → Has a s.providers → Has b s.providers → a.provider ≡ b.provider → a.client ≡ b.client) → ((p q : ProviderId) → same_provider p q ≡ true → p ≡ q) → HaveAll s logs → HaveAll (end_session s t) (removed_at (client_place s t) logs)
  unfolding end_session
  have_ended s t logs one same k =
      record {
        aligned = removed_length (client_place s t) logs s.sessions k.aligned;
        all = all;
        none = λ i log e. let z = removed_get (client_place s t) logs i log e in k.none z.0 log z.1;
      }
    where
      all : (p : ProviderId) (i : ℕ) (log : L) → place_of (end_session s t) p ≡ Some i → slice_get (removed_at (client_place s t) logs) i ≡ Some log → told p log ≡ heard p
      all p i log e at =
          let z = placed (end_session s t) p i e in
          let x : Provider = z.0 in
          let h = find_has (is_provider p) (filter (λ (y : Provider). not (is_client_of t y)) s.providers) x z.1 in
          let was = has_filter (λ (y : Provider). not (is_client_of t y)) x s.providers h.0 in
          let apart : t.number ≡ x.client.number → ⊥ = λ q. let mine : is_client_of t x ≡ true = eq-eqb x.client.number t.number (sym q) in let no : is_client_of t x ≡ false = not-true (is_client_of t x) was.1 in absurd (let both : true ≡ false = sym mine ∙ no in cc) in
          let j = place_left t x.client apart s.sessions logs k.aligned i log z.2 at in
          let y = found_same s.providers p x one same was.0 h.1 in
          k.all p j.0 log (in_place s p j.0 y.0 y.1 (ap (λ (c : ClientToken). place_where (is_session c) s.sessions) y.2 ∙ j.1)) j.2

  -- providers leave, or change otherwise
  pub have_fewer : (s t : SessionState) (logs : List L) → t.sessions ≡ s.sessions → ((x : Provider) → Has x t.providers → (y : Provider) × Has y s.providers × (y.provider ≡ x.provider) × (y.client ≡ x.client)) → ((a b : Provider) → Has a s.providers → Has b s.providers → a.provider ≡ b.provider → a.client ≡ b.client) → ((p q : ProviderId) → same_provider p q ≡ true → p ≡ q) → HaveAll s logs → HaveAll t logs
  have_fewer s t logs ses were one same k =
      record {
        aligned = k.aligned ∙ ap (λ (xs : List Session). length xs) (sym ses);
        all = λ p i log e at. let z = placed t p i e in of p i log z.0 z.1 z.2 at;
        none = k.none;
      }
    where
      of : (p : ProviderId) (i : ℕ) (log : L) (x : Provider) → find (is_provider p) t.providers ≡ Some x → place_where (is_session x.client) t.sessions ≡ Some i → slice_get logs i ≡ Some log → told p log ≡ heard p
      of p i log x found place at =
          let h = find_has (is_provider p) t.providers x found in
          let was = were x h.0 in
          let mine : is_provider p was.0 ≡ true = ap (λ (q : ProviderId). same_provider q p) was.2 ∙ h.1 in
          let y = found_same s.providers p was.0 one same was.1 mine in
          k.all p i log (in_place s p i y.0 y.1 (ap (λ (c : ClientToken). place_where (is_session c) s.sessions) (y.2 ∙ was.3) ∙ ap (place_where (is_session x.client)) (sym ses) ∙ place)) at
