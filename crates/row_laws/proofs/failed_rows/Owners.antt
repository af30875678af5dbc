-- Of which client a provider is: each provider of a node is of a session of the client whose call joined it.
use Rattle.std.proofs.Common.{◌≡◌, ◌⊎◌, ◌≤◌, ℕ, ◌+◌, List, [], ◌∷◌, Option, Some, None, Bool, true, false, refl, sym, ap, ◌∙◌, subst, inl, inr, arith, suc}
use Rattle.std.specs.Prelude.{◌==◌, ◌||◌, not, find, if◌then◌else◌}
use Rattle.std.specs.Option.{option_map}
use Rattle.std.specs.List.{list_any}
use Rattle.std.proofs.lemmas.Bool.{eqb-true, not-true}
use Rattle.rsct_packet.specs.declared.ids.ProviderId.{ProviderId}
use Rattle.rsct_packet.specs.Search.{Has, place_where}
use Rattle.rsct_packet.proofs.HasLaws.{has_append, append_has_left, has_filter, find_has}
use Rattle.subscribe_core.specs.declared.subs.ClientToken.{ClientToken}
use Rattle.session_state.specs.declared.fault.GsFault.{GsFault}
use Rattle.session_state.specs.declared.fault.GsFault.TheVariants as fault
use Rattle.session_state.specs.declared.state.Provider.{Provider}
use Rattle.session_state.specs.declared.state.Session.{Session}
use Rattle.session_state.specs.declared.state.SessionState.{SessionState}
use Rattle.session_state.specs.State.{is_session, is_named, is_client_of, token_in, client_token, client_place}
use Rattle.session_state.specs.Calls.{or_fault, fault_if, no_session_fault, client_fault, add_session, end_session, removed_at}
use Rattle.run_safety.specs.Stays as stays
use Rattle.node_state.proofs.NameOrder.{text_same, text_self}
use Rattle.row_laws.proofs.failed_rows.Living.{Slimmer}

-- each provider has a session of its client; and tokens tell sessions apart
pub record Owned (of : ProviderId → Option (List ℕ)) (t : SessionState) : Type 0 where
  pub owner : (x : Provider) → Has x t.providers → (y : Session) × Has y t.sessions × (y.token.number ≡ x.client.number) × (of x.provider ≡ Some y.name)
  pub low : (y : Session) → Has y t.sessions → 1 ≤ y.token.number
  pub high : (y : Session) → Has y t.sessions → y.token.number ≤ t.last_client
  pub single : (y z : Session) → Has y t.sessions → Has z t.sessions → y.token.number ≡ z.token.number → y.name ≡ z.name

-- where nobody comes in
pub owned_slim : (of now : ProviderId → Option (List ℕ)) (t u : SessionState) → ((x : Provider) → Has x u.providers → now x.provider ≡ of x.provider) → Slimmer t u → Owned of t → Owned now u
owned_slim of now t u same s k =
    record {
      owner = owner;
      low = λ y i. k.low y (subst (Has y) s.names i);
      high = λ y i. subst (λ z. y.token.number ≤ z) (sym s.last) (k.high y (subst (Has y) s.names i));
      single = λ y z i j e. k.single y z (subst (Has y) s.names i) (subst (Has z) s.names j) e;
    }
  where
    owner : (x : Provider) → Has x u.providers → (y : Session) × Has y u.sessions × (y.token.number ≡ x.client.number) × (now x.provider ≡ Some y.name)
    owner x i =
        let a = s.provs x i in
        let b = k.owner a.0 a.1 in
        (b.0, subst (Has b.0) (sym s.names) b.1, b.2 ∙ ap (λ (c : ClientToken). c.number) a.3, same x i ∙ ap of (sym a.2) ∙ b.3)

-- ---- a goodbye is of the client of each provider that it ends

pub goodbye_named : (of : ProviderId → Option (List ℕ)) (s : SessionState) (client : List ℕ) → Owned of s → (x : Provider) → Has x s.providers → is_client_of (client_token s client) x ≡ true → stays.is_named client (of x.provider) ≡ true
unfolding client_token
goodbye_named of s client k x i mine = by (find (is_named client) s.sessions) refl (eqb-true x.client.number (client_token s client).number mine)
  where
    o : (y : Session) × Has y s.sessions × (y.token.number ≡ x.client.number) × (of x.provider ≡ Some y.name)
    o = k.owner x i

    by : (f : Option Session) → find (is_named client) s.sessions ≡ f → x.client.number ≡ (token_in f).number → stays.is_named client (of x.provider) ≡ true
    by None e token = absurd (let l = k.low o.0 o.1 in let z : (o.0).token.number ≡ 0 = o.2 ∙ token in omega (arith, l, z))
    by (Some y) e token =
        let h = find_has (is_named client) s.sessions y e in
        let same : (o.0).name ≡ client = k.single o.0 y o.1 h.0 (o.2 ∙ token) ∙ text_same y.name client h.1 in
        ap (stays.is_named client) (o.3 ∙ ap (λ (z : List ℕ). Some z) same) ∙ text_self client

-- ---- sessions that come and go

pub any_has : {A : Type 0} (test : A → Bool) (xs : List A) → list_any test xs ≡ true → (x : A) × Has x xs × (test x ≡ true)
any_has test [] e = absurd (cc)
any_has {A = A} test (x ∷ xs) e = by (test x) refl e (any_has test xs)
  where
    by : (b : Bool) → test x ≡ b → (b || list_any test xs) ≡ true → (list_any test xs ≡ true → (x : A) × Has x xs × (test x ≡ true)) → (y : A) × Has y (x ∷ xs) × (test y ≡ true)
    by true q e rest = (x, inl refl, q)
    by false q e rest = let k = rest e in (k.0, inr k.1, k.2)

-- a client that is known has a session of its name
pub known_session : (s : SessionState) (client : List ℕ) → ((y : Session) → Has y s.sessions → 1 ≤ y.token.number) → client_fault s (client_token s client) ≡ None → (y : Session) × Has y s.sessions × (y.token.number ≡ (client_token s client).number) × (y.name ≡ client)
unfolding client_fault no_session_fault client_token
known_session s client low ok = by (find (is_named client) s.sessions) refl (known ok)
  where
    second : (a b : Option GsFault) → or_fault a b ≡ None → b ≡ None
    second None b e = e
    second (Some f) b e = absurd (cc)

    tested : (b : Bool) (f : GsFault) → fault_if (not b) f ≡ None → b ≡ true
    tested true f e = refl
    tested false f e = absurd (cc)

    known : client_fault s (client_token s client) ≡ None → list_any (is_session (token_in (find (is_named client) s.sessions))) s.sessions ≡ true
    known e = tested (list_any (is_session (token_in (find (is_named client) s.sessions))) s.sessions) fault.BadClientToken (second (no_session_fault s) _ e)

    by : (o : Option Session) → find (is_named client) s.sessions ≡ o → list_any (is_session (token_in o)) s.sessions ≡ true → (y : Session) × Has y s.sessions × (y.token.number ≡ (token_in o).number) × (y.name ≡ client)
    by None e any =
        let k = any_has (is_session (record { number = 0 })) s.sessions any in
        absurd (let l = low k.0 k.1 in let z : (k.0).token.number ≡ 0 = eqb-true (k.0).token.number 0 k.2 in omega (arith, l, z))
    by (Some y) e any = let k = find_has (is_named client) s.sessions y e in (y, k.0, refl, text_same y.name client k.1)

-- a session begins
pub owned_added : (of : ProviderId → Option (List ℕ)) (s : SessionState) (name : List ℕ) → Owned of s → Owned of (add_session s name)
unfolding add_session
owned_added of s name k =
    record {
      owner = λ x i. let o = k.owner x i in (o.0, append_has_left o.0 s.sessions (new ∷ []) o.1, o.2, o.3);
      low = λ y i. low y (has_append y s.sessions (new ∷ []) i);
      high = λ y i. high y (has_append y s.sessions (new ∷ []) i);
      single = λ y z i j e. single y z (has_append y s.sessions (new ∷ []) i) (has_append z s.sessions (new ∷ []) j) e;
    }
  where
    new : Session
    new = record { token = record { number = s.last_client + 1 }; name = name }

    newest : (y : Session) → y ≡ new → y.token.number ≡ s.last_client + 1
    newest y e = ap (λ (z : Session). z.token.number) e

    low : (y : Session) → Has y s.sessions ⊎ Has y (new ∷ []) → 1 ≤ y.token.number
    low y (inl i) = k.low y i
    low y (inr (inl e)) = let z = newest y e in omega (arith, z)
    low y (inr (inr z)) = absurd z

    high : (y : Session) → Has y s.sessions ⊎ Has y (new ∷ []) → y.token.number ≤ s.last_client + 1
    high y (inl i) = let z = k.high y i in omega (arith, z)
    high y (inr (inl e)) = let z = newest y e in omega (arith, z)
    high y (inr (inr z)) = absurd z

    single : (y z : Session) → Has y s.sessions ⊎ Has y (new ∷ []) → Has z s.sessions ⊎ Has z (new ∷ []) → y.token.number ≡ z.token.number → y.name ≡ z.name
    single y z (inl i) (inl j) e = k.single y z i j e
    single y z (inl i) (inr (inl q)) e = absurd (let a = k.high y i in let b = newest z q in omega (arith, a, b, e))
    single y z (inl i) (inr (inr q)) e = absurd q
    single y z (inr (inl p)) (inl j) e = absurd (let a = k.high z j in let b = newest y p in omega (arith, a, b, e))
    single y z (inr (inl p)) (inr (inl q)) e = ap (λ (a : Session). a.name) (p ∙ sym q)
    single y z (inr (inl p)) (inr (inr q)) e = absurd q
    single y z (inr (inr p)) j e = absurd p

-- what stands at the first place of a kind is taken out: the rest stays, and so does all that is not of the kind
module _ {A : Type 0} (test : A → Bool) where
  pub removed_was : (y : A) (xs : List A) → Has y (removed_at (place_where test xs) xs) → Has y xs
  removed_was y [] i = i
  removed_was y (x ∷ xs) i = by (test x) i (removed_was y xs)
    where
      at : (o : Option ℕ) → (Has y (removed_at o xs) → Has y xs) → Has y (removed_at (option_map suc o) (x ∷ xs)) → Has y (x ∷ xs)
      at None rest i = i
      at (Some n) rest (inl e) = inl e
      at (Some n) rest (inr j) = inr (rest j)

      by : (b : Bool) → Has y (removed_at (if b then Some 0 else option_map suc (place_where test xs)) (x ∷ xs)) → (Has y (removed_at (place_where test xs) xs) → Has y xs) → Has y (x ∷ xs)
      by true i rest = inr i
      by false i rest = at (place_where test xs) rest i

  pub others_stay : (y : A) (xs : List A) → test y ≡ false → Has y xs → Has y (removed_at (place_where test xs) xs)
  others_stay y [] other i = i
  others_stay y (x ∷ xs) other i = by (test x) refl i (others_stay y xs other)
    where
      at : (o : Option ℕ) → (Has y xs → Has y (removed_at o xs)) → Has y (x ∷ xs) → Has y (removed_at (option_map suc o) (x ∷ xs))
      at None rest i = i
      at (Some n) rest (inl e) = inl e
      at (Some n) rest (inr j) = inr (rest j)

      by : (b : Bool) → test x ≡ b → Has y (x ∷ xs) → (Has y xs → Has y (removed_at (place_where test xs) xs)) → Has y (removed_at (if b then Some 0 else option_map suc (place_where test xs)) (x ∷ xs))
      by true e (inl q) rest = absurd (let z : true ≡ false = sym e ∙ ap test (sym q) ∙ other in cc)
      by true e (inr j) rest = j
      by false e i rest = at (place_where test xs) rest i

-- a session ends
pub owned_ended : (of : ProviderId → Option (List ℕ)) (s : SessionState) (t : ClientToken) → Owned of s → Owned of (end_session s t)
unfolding end_session
owned_ended of s t k =
    record {
      owner = λ x i. owner x (has_filter (λ (x : Provider). not (is_client_of t x)) x s.providers i);
      low = λ y i. k.low y (removed_was (is_session t) y s.sessions i);
      high = λ y i. k.high y (removed_was (is_session t) y s.sessions i);
      single = λ y z i j e. k.single y z (removed_was (is_session t) y s.sessions i) (removed_was (is_session t) z s.sessions j) e;
    }
  where
    owner : (x : Provider) → Has x s.providers × (not (is_client_of t x) ≡ true) → (y : Session) × Has y (removed_at (client_place s t) s.sessions) × (y.token.number ≡ x.client.number) × (of x.provider ≡ Some y.name)
    owner x i =
        let o = k.owner x i.0 in
        (o.0, others_stay (is_session t) o.0 s.sessions (ap (λ z. z == t.number) o.2 ∙ not-true (is_client_of t x) i.1) o.1, o.2, o.3)
