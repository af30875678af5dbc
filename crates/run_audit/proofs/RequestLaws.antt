-- What is kept of requests says what the lines say of them.
use Rattle.std.proofs.Common.{◌≡◌, ℕ, ◌+◌, ◌-◌, ◌<◌, ◌≤◌, Bool, true, false, List, [], ◌∷◌, length, map, take, drop, get_or, Option, Some, None, refl, sym, ◌∙◌, ap, arith, cond}
use Rattle.std.specs.Prelude.{◌==◌, ◌&&◌, ◌||◌, not, find, is_some, is_none, if◌then◌else◌}
use Rattle.std.specs.List.{list_any}
use Rattle.std.specs.Map.{lookup, IsKeyTest, KeepsOthers}
use Rattle.std.specs.Str.{bytes_eq}
use Rattle.std.proofs.lemmas.Bool.Decides.{nat_tests}
use Rattle.std.proofs.lemmas.List.{take_rest}
use Rattle.rsct_packet.specs.declared.ids.ProviderId.{ProviderId}
use Rattle.rsct_packet.specs.declared.ids.ViewId.{ViewId}
use Rattle.rsct_packet.specs.Providers.{same_provider}
use Rattle.proposal_core.specs.declared.entry.Entry.{Entry}
use Rattle.proposal_core.specs.declared.proposal.Proposal.{Proposal}
use Rattle.client_callbacks.specs.declared.told.Why.{Why}
use Rattle.word_laws.specs.declared.kind.Kind.{Kind}
use Rattle.word_laws.specs.declared.kind.Kind.TheVariants as kinds
use Rattle.word_laws.specs.Entries.{kind_of}
use Rattle.word_laws.proofs.ValueLaws.{and_parts}
use Rattle.record_lines.specs.declared.line.Line.{Line}
use Rattle.record_lines.specs.declared.line.Line.TheVariants as line
use Rattle.record_lines.specs.Writing.{kind_name}
use Rattle.run_audit.specs.declared.asked.AskedKey.{AskedKey}
use Rattle.run_audit.specs.declared.broken.Rule.TheVariants as rule
use Rattle.run_audit.specs.declared.keys.RequestKey.{RequestKey}
use Rattle.run_audit.specs.declared.requests.Requests.{Requests}
use Rattle.run_audit.specs.Keys.{provider_of, request_key, same_provider_key, same_request_key}
use Rattle.run_audit.specs.Kept.{fault_of, or_new}
use Rattle.run_audit.specs.Past.{first_no}
use Rattle.run_audit.specs.Requests.{kind_number, AskedAt, is_asked_key, same_asked_key, AreAsked, AreRequests, or_number, begins, fault_by}
use Rattle.run_audit.specs.Table.{carried_by, carries, holds, is_asked_of, is_due, is_told_of, is_undue, or_no, proposal_in, requests_of, same_kind, same_request, undue_in, undue_no, with_of}
use Rattle.run_audit.proofs.KeyLaws.{and_moved, provider_key_same, provider_same, provider_words, equal}
use Rattle.run_audit.proofs.FoundLaws.{put_found}
use Rattle.run_audit.proofs.KeptLaws.{or_none, any_line}
use Rattle.run_audit.proofs.ListLaws.{text_same}

request_words : (p q : ProviderId) (r s : ℕ) → same_request_key (request_key p r) (request_key q s) ≡ (same_provider p q && r == s)
request_words p q r s = ap (λ t. t && (r == s)) (provider_words p q)

pub request_key_same : (a b : RequestKey) → same_request_key a b ≡ true → a ≡ b
request_key_same a b e =
    let p = and_parts (same_provider_key a.provider b.provider) (a.request == b.request) e in
    λ i. record { provider = provider_key_same a.provider b.provider p.0 i; request = equal a.request b.request p.1 i }

-- ---- numbers under keys

module _ (key : RequestKey) (number : ℕ) (es : List (RequestKey × ℕ)) where
  pub number_again : (y : ℕ) → lookup (same_request_key key) es ≡ Some y → (q : RequestKey) → lookup (same_request_key q) es ≡ or_number (same_request_key key q) number (lookup (same_request_key q) es)
  number_again y some q = by (same_request_key key q) refl
    where
      by : (t : Bool) → same_request_key key q ≡ t → lookup (same_request_key q) es ≡ or_number t number (lookup (same_request_key q) es)
      by true e =
          let o : lookup (same_request_key q) es ≡ Some y = ap (λ z. lookup (same_request_key z) es) (sym (request_key_same key q e)) ∙ some in
          rw o refl
      by false e = sym (or_none (lookup (same_request_key q) es))

  pub number_comes : (fs : List (RequestKey × ℕ)) → lookup (same_request_key key) es ≡ None → ((q : RequestKey) → lookup (same_request_key q) fs ≡ cond (same_request_key key q) (Some number) (lookup (same_request_key q) es))
      → (q : RequestKey) → lookup (same_request_key q) fs ≡ or_number (same_request_key key q) number (lookup (same_request_key q) es)
  number_comes fs none up q = up q ∙ by (same_request_key key q) refl
    where
      by : (t : Bool) → same_request_key key q ≡ t → cond t (Some number) (lookup (same_request_key q) es) ≡ or_number t number (lookup (same_request_key q) es)
      by true e =
          let o : lookup (same_request_key q) es ≡ None = ap (λ z. lookup (same_request_key z) es) (sym (request_key_same key q e)) ∙ none in
          rw o refl
      by false e = sym (or_none (lookup (same_request_key q) es))

pub first_step : (test : Line → Bool) (l : Line) (ls : List Line) → first_no test (l ∷ ls) ≡ or_number (test l) (length ls + 1) (first_no test ls)
unfolding first_no
first_step test l ls = by (first_no test ls) (test l)
  where
    by : (o : Option ℕ) (t : Bool) → elim o [ Some k ↦ Some k | None ↦ elim t [ true ↦ Some (length ls + 1) | false ↦ None ] ] ≡ or_number t (length ls + 1) o
    by (Some k) t = refl
    by None true = refl
    by None false = refl

-- ---- asked

pub kinds_same : (a b : Kind) → (kind_number a == kind_number b) ≡ same_kind a b
unfolding kind_number same_kind kind_name
kinds_same kinds.Join kinds.Join = refl
kinds_same kinds.Join kinds.Leave = refl
kinds_same kinds.Join kinds.Fail = refl
kinds_same kinds.Join kinds.Expel = refl
kinds_same kinds.Join kinds.State = refl
kinds_same kinds.Join kinds.Message = refl
kinds_same kinds.Join kinds.Attributes = refl
kinds_same kinds.Join kinds.Reflect = refl
kinds_same kinds.Leave kinds.Join = refl
kinds_same kinds.Leave kinds.Leave = refl
kinds_same kinds.Leave kinds.Fail = refl
kinds_same kinds.Leave kinds.Expel = refl
kinds_same kinds.Leave kinds.State = refl
kinds_same kinds.Leave kinds.Message = refl
kinds_same kinds.Leave kinds.Attributes = refl
kinds_same kinds.Leave kinds.Reflect = refl
kinds_same kinds.Fail kinds.Join = refl
kinds_same kinds.Fail kinds.Leave = refl
kinds_same kinds.Fail kinds.Fail = refl
kinds_same kinds.Fail kinds.Expel = refl
kinds_same kinds.Fail kinds.State = refl
kinds_same kinds.Fail kinds.Message = refl
kinds_same kinds.Fail kinds.Attributes = refl
kinds_same kinds.Fail kinds.Reflect = refl
kinds_same kinds.Expel kinds.Join = refl
kinds_same kinds.Expel kinds.Leave = refl
kinds_same kinds.Expel kinds.Fail = refl
kinds_same kinds.Expel kinds.Expel = refl
kinds_same kinds.Expel kinds.State = refl
kinds_same kinds.Expel kinds.Message = refl
kinds_same kinds.Expel kinds.Attributes = refl
kinds_same kinds.Expel kinds.Reflect = refl
kinds_same kinds.State kinds.Join = refl
kinds_same kinds.State kinds.Leave = refl
kinds_same kinds.State kinds.Fail = refl
kinds_same kinds.State kinds.Expel = refl
kinds_same kinds.State kinds.State = refl
kinds_same kinds.State kinds.Message = refl
kinds_same kinds.State kinds.Attributes = refl
kinds_same kinds.State kinds.Reflect = refl
kinds_same kinds.Message kinds.Join = refl
kinds_same kinds.Message kinds.Leave = refl
kinds_same kinds.Message kinds.Fail = refl
kinds_same kinds.Message kinds.Expel = refl
kinds_same kinds.Message kinds.State = refl
kinds_same kinds.Message kinds.Message = refl
kinds_same kinds.Message kinds.Attributes = refl
kinds_same kinds.Message kinds.Reflect = refl
kinds_same kinds.Attributes kinds.Join = refl
kinds_same kinds.Attributes kinds.Leave = refl
kinds_same kinds.Attributes kinds.Fail = refl
kinds_same kinds.Attributes kinds.Expel = refl
kinds_same kinds.Attributes kinds.State = refl
kinds_same kinds.Attributes kinds.Message = refl
kinds_same kinds.Attributes kinds.Attributes = refl
kinds_same kinds.Attributes kinds.Reflect = refl
kinds_same kinds.Reflect kinds.Join = refl
kinds_same kinds.Reflect kinds.Leave = refl
kinds_same kinds.Reflect kinds.Fail = refl
kinds_same kinds.Reflect kinds.Expel = refl
kinds_same kinds.Reflect kinds.State = refl
kinds_same kinds.Reflect kinds.Message = refl
kinds_same kinds.Reflect kinds.Attributes = refl
kinds_same kinds.Reflect kinds.Reflect = refl

some_number : (t : Bool) (n : ℕ) (o : Option ℕ) → is_some (cond t (Some n) o) ≡ (t || is_some o)
some_number true n o = refl
some_number false n o = refl

pub asked_found : (p : ProviderId) (r : ℕ) (g : List ℕ) (k : Kind) (key : AskedKey) (es : List (AskedKey × ℕ)) (ls : List Line) → key.request ≡ request_key p r → key.group.items ≡ g → key.kind ≡ kind_number k → AreAsked ls es
    → is_some (lookup (same_asked_key key) es) ≡ list_any (is_asked_of p r g k) ls
asked_found p r g k key es ls a b c are =
    (λ i. is_some (lookup (λ (q : AskedKey). same_request_key (a i) q.request && (bytes_eq (b i) q.group.items && (c i == q.kind))) es)) ∙ are (record { provider = p; request = r; group = g; of_kind = k })

-- the key of what is asked, as a test of what it says
asked_parts : (a : AskedAt) (k : AskedKey) → is_asked_key a k ≡ true → (request_key a.provider a.request ≡ k.request) × (a.group ≡ k.group.items) × (kind_number a.of_kind ≡ k.kind)
asked_parts a k e =
    let x = and_parts (same_request_key (request_key a.provider a.request) k.request) (bytes_eq a.group k.group.items && (kind_number a.of_kind == k.kind)) e in
    let y = and_parts (bytes_eq a.group k.group.items) (kind_number a.of_kind == k.kind) x.1 in
    (request_key_same (request_key a.provider a.request) k.request x.0, text_same a.group k.group.items y.0, equal (kind_number a.of_kind) k.kind y.1)

asked_test : (a : AskedAt) → IsKeyTest same_asked_key (is_asked_key a)
asked_test a x y e = let s = asked_parts a x e in λ i. same_request_key (s.0 i) y.request && (bytes_eq (s.1 i) y.group.items && (s.2 i == y.kind))

same_asked : AskedAt → AskedAt → Bool
same_asked a b = same_request_key (request_key a.provider a.request) (request_key b.provider b.request) && (bytes_eq a.group b.group && (kind_number a.of_kind == kind_number b.of_kind))

asked_joined : (a q : AskedAt) (k : AskedKey) → is_asked_key a k ≡ true → is_asked_key q k ≡ true → same_asked a q ≡ true
unfolding same_asked
asked_joined a q k e f = let s = asked_parts q k f in (λ i. same_request_key (request_key a.provider a.request) (s.0 i) && (bytes_eq a.group (s.1 i) && (kind_number a.of_kind == s.2 i))) ∙ e

asked_equal : (a q : AskedAt) (es : List (AskedKey × ℕ)) → same_asked a q ≡ true → lookup (is_asked_key q) es ≡ lookup (is_asked_key a) es
unfolding same_asked
asked_equal a q es e =
    let x = and_parts (same_request_key (request_key a.provider a.request) (request_key q.provider q.request)) (bytes_eq a.group q.group && (kind_number a.of_kind == kind_number q.of_kind)) e in
    let y = and_parts (bytes_eq a.group q.group) (kind_number a.of_kind == kind_number q.of_kind) x.1 in
    let requests = request_key_same (request_key a.provider a.request) (request_key q.provider q.request) x.0 in
    let groups = text_same a.group q.group y.0 in
    let numbers = equal (kind_number a.of_kind) (kind_number q.of_kind) y.1 in
    sym (λ i. lookup (λ (z : AskedKey). same_request_key (requests i) z.request && (bytes_eq (groups i) z.group.items && (numbers i == z.kind))) es)

asked_words : (p q : ProviderId) (r s : ℕ) (g h : List ℕ) (k m : Kind)
    → (same_request_key (request_key p r) (request_key q s) && (bytes_eq g h && (kind_number k == kind_number m))) ≡ (same_provider p q && (r == s && (bytes_eq g h && same_kind k m)))
asked_words p q r s g h k m =
    (λ i. request_words p q r s i && (bytes_eq g h && kinds_same k m i)) ∙ sym (and_moved (same_provider p q) (r == s) (bytes_eq g h && same_kind k m))

pub asked_noted : (p : ProviderId) (r : ℕ) (g : List ℕ) (k : Kind) (number : ℕ) (key : AskedKey) (es fs : List (AskedKey × ℕ)) (ls : List Line) → key.request ≡ request_key p r → key.group.items ≡ g → key.kind ≡ kind_number k
    → lookup (same_asked_key key) fs ≡ Some number → KeepsOthers same_asked_key (same_asked_key key) es fs → AreAsked ls es → AreAsked (line.Asked p r g k ∷ ls) fs
unfolding is_asked_of same_asked
asked_noted p r g k number key es fs ls a b c put others are x =
    let here : AskedAt = record { provider = p; request = r; group = g; of_kind = k } in
    ap is_some (put_found same_asked_key is_asked_key same_asked here x key number es fs (asked_test x) (λ z i. same_request_key (a i) z.request && (bytes_eq (b i) z.group.items && (c i == z.kind))) (asked_joined here x) (asked_equal here x fs) put others)
    ∙ some_number (same_asked here x) number (lookup (is_asked_key x) es)
    ∙ (λ i. asked_words p x.provider r x.request g x.group k x.of_kind i || are x i)

-- ---- begun

and_false : (t : Bool) → (t && false) ≡ false
and_false true = refl
and_false false = refl

or_false : (t : Bool) → (t || false) ≡ t
or_false true = refl
or_false false = refl

and_or : (t a b : Bool) → ((t && a) || (t && b)) ≡ (t && (a || b))
and_or true a b = refl
and_or false a b = refl

numbers_swap : (a b : ℕ) → (a == b) ≡ (b == a)
numbers_swap a b = by (a == b) (b == a) refl refl
  where
    by : (t u : Bool) → (a == b) ≡ t → (b == a) ≡ u → t ≡ u
    by true true e f = refl
    by true false e f = grind (arith, nat_tests)
    by false true e f = grind (arith, nat_tests)
    by false false e f = refl

module _ (m : ℕ) (q : RequestKey) where
  same_begin : (x : ProviderId × ℕ) → begins m q x ≡ (m == q.provider.node && same_request (provider_of q.provider) q.request x)
  unfolding begins same_request
  same_begin x = ap (λ t. ((x.0).node == m) && t) (request_words x.0 (provider_of q.provider) x.1 q.request) ∙ by (same_provider x.0 (provider_of q.provider)) (x.1 == q.request) refl
    where
      by : (s t : Bool) → same_provider x.0 (provider_of q.provider) ≡ s → (((x.0).node == m) && (s && t)) ≡ (m == q.provider.node && (s && t))
      by true t e = ap (λ z. z && t) (ap (λ (z : ProviderId). z.node == m) (provider_same x.0 (provider_of q.provider) e) ∙ numbers_swap q.provider.node m)
      by false t e = and_false ((x.0).node == m) ∙ sym (and_false (m == q.provider.node))

  all_begin : (xs : List (ProviderId × ℕ)) → list_any (begins m q) xs ≡ (m == q.provider.node && list_any (same_request (provider_of q.provider) q.request) xs)
  all_begin [] = sym (and_false (m == q.provider.node))
  all_begin (x ∷ xs) = (λ i. same_begin x i || all_begin xs i) ∙ and_or (m == q.provider.node) (same_request (provider_of q.provider) q.request x) (list_any (same_request (provider_of q.provider) q.request) xs)

or_twice : (a b : Bool) (n : ℕ) (o : Option ℕ) → or_number b n (or_number a n o) ≡ or_number (a || b) n o
or_twice a b n (Some k) = refl
or_twice true b n None = refl
or_twice false true n None = refl
or_twice false false n None = refl

pub head_rest : {A : Type 0} (xs : List A) (x : A) → 1 ≤ length xs → x ≡ get_or xs 0 x → xs ≡ x ∷ drop 1 xs
head_rest [] x le read = absurd (omega arith)
head_rest (y ∷ ys) x le read = ap (λ z. z ∷ ys) (sym read)

-- the first of some is read alike, whatever stands for none
pub first_read : {A : Type 0} (xs : List A) (x : A) → 1 ≤ length xs → get_or xs 0 x ≡ get_or xs 0 (get_or xs 0 x)
first_read [] x le = absurd (omega arith)
first_read (y ∷ ys) x le = refl

joins_of : List ProviderId → List (ProviderId × ℕ)
joins_of ps = map (λ (p : ProviderId). (p, p.join)) ps

pub no_joins : (m number : ℕ) (ps : List ProviderId) (q : RequestKey) (es : List (RequestKey × ℕ)) → length ps < 1 → lookup (same_request_key q) es ≡ or_number (list_any (begins m q) (map (λ (p : ProviderId). (p, p.join)) ps)) number (lookup (same_request_key q) es)
no_joins m number [] q es e = sym (or_none (lookup (same_request_key q) es))
no_joins m number (p ∷ ps) q es e = absurd (omega arith)

more_begin : (m number : ℕ) (p : ProviderId) (ps : List ProviderId) (q : RequestKey) (es fs gs : List (RequestKey × ℕ)) → lookup (same_request_key q) fs ≡ or_number (list_any (begins m q) ((p, p.join) ∷ [])) number (lookup (same_request_key q) es)
    → lookup (same_request_key q) gs ≡ or_number (list_any (begins m q) (joins_of ps)) number (lookup (same_request_key q) fs) → lookup (same_request_key q) gs ≡ or_number (list_any (begins m q) ((p, p.join) ∷ joins_of ps)) number (lookup (same_request_key q) es)
more_begin m number p ps q es fs gs a b =
    b ∙ ap (or_number (list_any (begins m q) (joins_of ps)) number) (a ∙ ap (λ t. or_number t number (lookup (same_request_key q) es)) (or_false (begins m q (p, p.join))))
    ∙ or_twice (begins m q (p, p.join)) (list_any (begins m q) (joins_of ps)) number (lookup (same_request_key q) es)

-- the first of them, and then the others
pub more_joins : (m number : ℕ) (ps : List ProviderId) (p : ProviderId) (q : RequestKey) (es fs gs : List (RequestKey × ℕ)) → 1 ≤ length ps → p ≡ get_or ps 0 p → lookup (same_request_key q) fs ≡ or_number (list_any (begins m q) ((p, p.join) ∷ [])) number (lookup (same_request_key q) es)
    → lookup (same_request_key q) gs ≡ or_number (list_any (begins m q) (map (λ (p : ProviderId). (p, p.join)) (take (length ps - 1) (drop 1 ps)))) number (lookup (same_request_key q) fs)
    → lookup (same_request_key q) gs ≡ or_number (list_any (begins m q) (map (λ (p : ProviderId). (p, p.join)) ps)) number (lookup (same_request_key q) es)
unfolding joins_of
more_joins m number [] p q es fs gs le is a b = absurd (omega arith)
more_joins m number (y ∷ ys) p q es fs gs le is a b =
    let rest : lookup (same_request_key q) gs ≡ or_number (list_any (begins m q) (joins_of ys)) number (lookup (same_request_key q) fs) =
    b ∙ ap (λ (zs : List ProviderId). or_number (list_any (begins m q) (joins_of zs)) number (lookup (same_request_key q) fs)) (take_rest (y ∷ ys) 1) in
    more_begin m number p ys q es fs gs a rest ∙ ap (λ (z : ProviderId). or_number (list_any (begins m q) ((z, z.join) ∷ joins_of ys)) number (lookup (same_request_key q) es)) is

pub not_false : (t : Bool) → not t ≡ false → t ≡ true
not_false true e = refl
not_false false e = absurd cc

pub not_true : (t : Bool) → not t ≡ true → t ≡ false
not_true true e = absurd cc
not_true false e = refl

module _ (m number : ℕ) (p : ProviderId) (r : ℕ) (q : RequestKey) (es : List (RequestKey × ℕ)) (o : Bool) (other : o ≡ not (p.node == m)) where
  pub own_begins : (key : RequestKey) (fs : List (RequestKey × ℕ)) → o ≡ false → key ≡ request_key p r → lookup (same_request_key q) fs ≡ or_number (same_request_key key q) number (lookup (same_request_key q) es)
      → lookup (same_request_key q) fs ≡ or_number (list_any (begins m q) ((p, r) ∷ [])) number (lookup (same_request_key q) es)
  unfolding begins
  own_begins key fs own is up =
      let here : (p.node == m) ≡ true = not_false (p.node == m) (sym other ∙ own) in
      up ∙ ap (λ t. or_number t number (lookup (same_request_key q) es)) (ap (λ z. same_request_key z q) is ∙ sym (ap (λ t. (t && same_request_key (request_key p r) q) || false) here ∙ or_false (same_request_key (request_key p r) q)))

  pub other_begins : o ≡ true → lookup (same_request_key q) es ≡ or_number (list_any (begins m q) ((p, r) ∷ [])) number (lookup (same_request_key q) es)
  unfolding begins
  other_begins is =
      let there : (p.node == m) ≡ false = not_true (p.node == m) (sym other ∙ is) in
      sym (ap (λ t. or_number ((t && same_request_key (request_key p r) q) || false) number (lookup (same_request_key q) es)) there ∙ or_none (lookup (same_request_key q) es))

-- where no request is carried
pub none_begins : (m number : ℕ) (xs : List (ProviderId × ℕ)) (q : RequestKey) (es : List (RequestKey × ℕ)) → xs ≡ [] → lookup (same_request_key q) es ≡ or_number (list_any (begins m q) xs) number (lookup (same_request_key q) es)
none_begins m number xs q es none = sym (ap (λ zs. or_number (list_any (begins m q) zs) number (lookup (same_request_key q) es)) none ∙ or_none (lookup (same_request_key q) es))

-- where nothing is proposed
pub none_carried : (m number : ℕ) (o : Option Proposal) (q : RequestKey) (es : List (RequestKey × ℕ)) → None ≡ o → lookup (same_request_key q) es ≡ or_number (list_any (begins m q) (carried_by o)) number (lookup (same_request_key q) es)
unfolding carried_by
none_carried m number o q es none = sym (ap (λ z. or_number (list_any (begins m q) (carried_by z)) number (lookup (same_request_key q) es)) (sym none) ∙ or_none (lookup (same_request_key q) es))

-- ---- what the table says

module _ (n : ℕ) (g : List ℕ) (k : Kind) (p : ProviderId) (r : ℕ) (rs : Requests) (ls : List Line) where
  pub undue_elsewhere : (o : Bool) → o ≡ not (p.node == n) → o ≡ true → false ≡ is_undue n g k ls (p, r)
  unfolding is_undue
  undue_elsewhere o other is =
      let there : (p.node == n) ≡ false = not_true (p.node == n) (sym other ∙ is) in
      sym (ap (λ t. t && not (is_due n g k ls (p, r))) there)

  none_by : (test : Line → Bool) (o : Option ℕ) → o ≡ first_no test ls → is_none o ≡ not (list_any test ls)
  none_by test o e = by o ∙ ap (λ z. not (is_some z)) e ∙ ap not (sym (any_line test ls))
    where
      by : (o : Option ℕ) → is_none o ≡ not (is_some o)
      by None = refl
      by (Some x) = refl

  pub undue_here : (key : RequestKey) (asked b o : Bool) (told begun : Option ℕ) → o ≡ not (p.node == n) → o ≡ false → key ≡ request_key p r → asked ≡ list_any (is_asked_of p r g k) ls → told ≡ lookup (same_request_key key) rs.told → begun ≡ lookup (same_request_key key) rs.begun
      → b ≡ not (asked && (is_none told && is_none begun)) → AreRequests ls rs → b ≡ is_undue n g k ls (p, r)
  unfolding is_undue is_due
  undue_here key asked b o told begun other at_own is a t u e are =
      let here : (p.node == n) ≡ true = not_false (p.node == n) (sym other ∙ at_own) in
      let own : p.node ≡ n = equal p.node n here in
      let tells : is_none told ≡ not (list_any (is_told_of p r) ls) = none_by (is_told_of p r) told (t ∙ ap (λ z. lookup (same_request_key z) rs.told) is ∙ are.told (request_key p r)) in
      let starts : is_none begun ≡ not (list_any (carries n p r) ls) =
      none_by (carries n p r) begun (u ∙ ap (λ z. lookup (same_request_key z) rs.begun) is ∙ are.begun (request_key p r) ∙ ap (λ z. first_no (carries z p r) ls) own) in
      e ∙ (λ i. not (a i && (tells i && starts i))) ∙ sym (ap (λ z. z && not (list_any (is_asked_of p r g k) ls && (not (list_any (is_told_of p r) ls) && not (list_any (carries n p r) ls)))) here)

pub found_first : {A : Type 0} (test : A → Bool) (x : A) (xs : List A) → test x ≡ true → find test (x ∷ xs) ≡ Some x
found_first test x xs e = ap (λ t. cond t (Some x) (find test xs)) e

pub found_later : {A : Type 0} (test : A → Bool) (x : A) (xs : List A) → test x ≡ false → find test (x ∷ xs) ≡ find test xs
found_later test x xs e = ap (λ t. cond t (Some x) (find test xs)) e

no_join_found : (test : ProviderId × ℕ → Bool) (ps : List ProviderId) → length ps < 1 → None ≡ find test (joins_of ps)
unfolding joins_of
no_join_found test [] e = refl
no_join_found test (p ∷ ps) e = absurd (omega arith)

find_step : {A : Type 0} (test : A → Bool) (x : A) (xs : List A) (here later : Option A) → here ≡ find test (x ∷ []) → later ≡ find test xs → or_new here later ≡ find test (x ∷ xs)
find_step test x xs here later a b = (λ i. or_new (a i) (b i)) ∙ by (test x)
  where
    by : (t : Bool) → or_new (cond t (Some x) None) (find test xs) ≡ cond t (Some x) (find test xs)
    by true = refl
    by false = refl

module _ (test : ProviderId × ℕ → Bool) (ps : List ProviderId) where
  -- none of no joins
  pub undue_none : length ps < 1 → None ≡ find test (map (λ (p : ProviderId). (p, p.join)) ps)
  unfolding joins_of
  undue_none e = no_join_found test ps e

  -- the first join, else one of the others
  pub undue_next : (p : ProviderId) (here later : Option (ProviderId × ℕ)) → 1 ≤ length ps → p ≡ get_or ps 0 p → here ≡ find test ((p, p.join) ∷ []) → later ≡ find test (map (λ (p : ProviderId). (p, p.join)) (take (length ps - 1) (drop 1 ps)))
      → or_new here later ≡ find test (map (λ (p : ProviderId). (p, p.join)) ps)
  undue_next p here later le is a b =
      find_step test (p, p.join) (map (λ (p : ProviderId). (p, p.join)) (drop 1 ps)) here later a (b ∙ ap (λ (zs : List ProviderId). find test (map (λ (p : ProviderId). (p, p.join)) zs)) (take_rest ps 1))
      ∙ ap (λ (zs : List ProviderId). find test (map (λ (p : ProviderId). (p, p.join)) zs)) (sym (head_rest ps p le is))

find_passes : {A : Type 0} (test : A → Bool) (xs : List A) (x : A) → find test xs ≡ Some x → test x ≡ true
find_passes test [] x e = absurd cc
find_passes test (y ∷ ys) x e = by (test y) refl e (find_passes test ys x)
  where
    by : (t : Bool) → test y ≡ t → cond t (Some y) (find test ys) ≡ Some x → (find test ys ≡ Some x → test x ≡ true) → test x ≡ true
    by true h f later = let same : y ≡ x = cc in ap test (sym same) ∙ h
    by false h f later = later f

module _ (n : ℕ) (v : ViewId) (g : List ℕ) (i : ℕ) (e : Entry) (ls : List Line) where
  none_by_table : None ≡ undue_in n g ls (proposal_in e) → None ≡ fault_of rule.Once (line.Put n v g i e) ls
  unfolding holds
  none_by_table h = sym (ap (λ z. if is_none z then None else Some (record { rule = rule.Once; with_line = with_of rule.Once (line.Put n v g i e) ls })) (sym h))

  pub none_proposed : None ≡ proposal_in e → None ≡ fault_of rule.Once (line.Put n v g i e) ls
  unfolding undue_in
  none_proposed none = none_by_table (ap (undue_in n g ls) none)

  none_undue : (x : Proposal) → None ≡ undue_in n g ls (Some x) → Some x ≡ proposal_in e → None ≡ fault_of rule.Once (line.Put n v g i e) ls
  none_undue x h is = none_by_table (h ∙ ap (undue_in n g ls) is)

  one_undue : (p : ProviderId) (r : ℕ) (x : Proposal) (rs : Requests) (with_line : Option ℕ) → Some (p, r) ≡ undue_in n g ls (Some x) → Some x ≡ proposal_in e → AreRequests ls rs
      → with_line ≡ or_no (lookup (same_request_key (request_key p r)) rs.told) (lookup (same_request_key (request_key p r)) rs.begun)
      → Some (record { rule = rule.Once; with_line = with_line }) ≡ fault_of rule.Once (line.Put n v g i e) ls
  unfolding holds with_of undue_in undue_no is_undue
  one_undue p r x rs with_line h is are at =
      let own : p.node ≡ n = equal p.node n (and_parts (p.node == n) (not (is_due n g (kind_of x) ls (p, r))) (find_passes (is_undue n g (kind_of x) ls) (requests_of x) (p, r) (sym h))).0 in
      let found : undue_in n g ls (proposal_in e) ≡ Some (p, r) = ap (undue_in n g ls) (sym is) ∙ sym h in
      let told : with_line ≡ or_no (first_no (is_told_of p r) ls) (first_no (carries n p r) ls) =
      at ∙ (λ j. or_no (are.told (request_key p r) j) (are.begun (request_key p r) j)) ∙ ap (λ z. or_no (first_no (is_told_of p r) ls) (first_no (carries z p r) ls)) own in
      ap (λ z. Some (record { rule = rule.Once; with_line = z })) told
      ∙ sym (ap (λ z. if is_none z then None else Some (record { rule = rule.Once; with_line = undue_no n ls z })) found)

  -- what was found undue tells the fault
  pub once_fault : (x : Proposal) (o : Option (ProviderId × ℕ)) (rs : Requests) → o ≡ undue_in n g ls (Some x) → Some x ≡ proposal_in e → AreRequests ls rs → fault_by rs o ≡ fault_of rule.Once (line.Put n v g i e) ls
  unfolding fault_by
  once_fault x None rs h is are = none_undue x h is
  once_fault x (Some y) rs h is are = one_undue y.0 y.1 x rs (or_no (lookup (same_request_key (request_key y.0 y.1)) rs.told) (lookup (same_request_key (request_key y.0 y.1)) rs.begun)) h is are refl

-- ---- after one more line

pub no_requests : (rs : Requests) → AreAsked [] rs.asked → rs.told ≡ [] → rs.begun ≡ [] → AreRequests [] rs
unfolding first_no
no_requests rs a t b = record {
  asked = a;
  told = λ q. ap (λ z. lookup (same_request_key q) z) t;
  begun = λ q. ap (λ z. lookup (same_request_key q) z) b;
}

module _ (p : ProviderId) (r : ℕ) (ls : List Line) (rs ss : Requests) where
  pub asked_on : (g : List ℕ) (k : Kind) → ((ls : List Line) → AreAsked ls rs.asked → AreAsked (line.Asked p r g k ∷ ls) ss.asked) → ss.told ≡ rs.told → ss.begun ≡ rs.begun → AreRequests ls rs → AreRequests (line.Asked p r g k ∷ ls) ss
  unfolding is_told_of carries
  asked_on g k a t b are = record {
    asked = a ls are.asked;
    told = λ q. ap (λ z. lookup (same_request_key q) z) t ∙ are.told q ∙ sym (first_step (is_told_of (provider_of q.provider) q.request) (line.Asked p r g k) ls ∙ or_none (first_no (is_told_of (provider_of q.provider) q.request) ls));
    begun = λ q. ap (λ z. lookup (same_request_key q) z) b ∙ are.begun q ∙ sym (first_step (carries q.provider.node (provider_of q.provider) q.request) (line.Asked p r g k) ls ∙ or_none (first_no (carries q.provider.node (provider_of q.provider) q.request) ls));
  }

  pub told_on : (why : Why) (key : RequestKey) (number : ℕ) → key ≡ request_key p r → ((q : RequestKey) → lookup (same_request_key q) ss.told ≡ or_number (same_request_key key q) number (lookup (same_request_key q) rs.told)) → ss.asked ≡ rs.asked → ss.begun ≡ rs.begun → AreRequests ls rs → number ≡ length ls + 1
      → AreRequests (line.Told p r why ∷ ls) ss
  unfolding is_told_of carries is_asked_of
  told_on why key number is up a b are at = record {
    asked = λ x. ap (λ z. is_some (lookup (is_asked_key x) z)) a ∙ are.asked x;
    told = λ q. up q ∙ (λ i. or_number (same_request_key (is i) q) (at i) (are.told q i)) ∙ ap (λ t. or_number t (length ls + 1) (first_no (is_told_of (provider_of q.provider) q.request) ls)) (request_words p (provider_of q.provider) r q.request)
        ∙ sym (first_step (is_told_of (provider_of q.provider) q.request) (line.Told p r why) ls);
    begun = λ q. ap (λ z. lookup (same_request_key q) z) b ∙ are.begun q ∙ sym (first_step (carries q.provider.node (provider_of q.provider) q.request) (line.Told p r why) ls ∙ or_none (first_no (carries q.provider.node (provider_of q.provider) q.request) ls));
  }

pub put_on : (m : ℕ) (v : ViewId) (g : List ℕ) (i : ℕ) (e : Entry) (number : ℕ) (ls : List Line) (rs ss : Requests) → ((q : RequestKey) → lookup (same_request_key q) ss.begun ≡ or_number (list_any (begins m q) (carried_by (proposal_in e))) number (lookup (same_request_key q) rs.begun)) → ss.asked ≡ rs.asked → ss.told ≡ rs.told → AreRequests ls rs → number ≡ length ls + 1
    → AreRequests (line.Put m v g i e ∷ ls) ss
unfolding is_told_of carries is_asked_of
put_on m v g i e number ls rs ss up a t are at = record {
  asked = λ x. ap (λ z. is_some (lookup (is_asked_key x) z)) a ∙ are.asked x;
  told = λ q. ap (λ z. lookup (same_request_key q) z) t ∙ are.told q ∙ sym (first_step (is_told_of (provider_of q.provider) q.request) (line.Put m v g i e) ls ∙ or_none (first_no (is_told_of (provider_of q.provider) q.request) ls));
  begun = λ q. up q ∙ (λ j. or_number (all_begin m q (carried_by (proposal_in e)) j) (at j) (are.begun q j)) ∙ sym (first_step (carries q.provider.node (provider_of q.provider) q.request) (line.Put m v g i e) ls);
}
