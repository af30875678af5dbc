-- A request of a provider of the node begins once there, after it was asked and not after it was told a refusal.
use Rattle.std.proofs.Common.{◌≡◌, ◌⊎◌, ℕ, Bool, true, false, List, [], ◌∷◌, Option, Some, None, inl, inr, refl, sym, ◌∙◌, ap, subst}
use Rattle.std.specs.Prelude.{◌==◌, ◌&&◌, ◌||◌, not, is_none}
use Rattle.std.specs.List.{list_any}
use Rattle.std.specs.Str.{bytes_eq}
use Rattle.std.proofs.lemmas.Bool.{and_parts, eqb-true}
use Rattle.rsct_packet.specs.declared.ids.ProviderId.{ProviderId}
use Rattle.rsct_packet.specs.declared.ids.ViewId.{ViewId}
use Rattle.rsct_packet.specs.Providers.{same_provider}
use Rattle.rsct_packet.specs.Search.{Has}
use Rattle.proposal_core.specs.declared.proposal.Proposal.{Proposal}
use Rattle.proposal_core.specs.declared.proposal.Proposal.TheVariants as proposal
use Rattle.proposal_core.specs.declared.entry.Entry.{Entry}
use Rattle.proposal_core.specs.declared.entry.Entry.TheVariants as entry
use Rattle.word_laws.specs.declared.kind.Kind.{Kind}
use Rattle.word_laws.specs.declared.kind.Kind.TheVariants as kind
use Rattle.word_laws.specs.Entries.{kind_of}
use Rattle.record_lines.specs.Writing.{kind_name}
use Rattle.node_state.specs.declared.happened.Happened.{Happened}
use Rattle.node_state.specs.declared.happened.Happened.TheVariants as happened
use Rattle.run_safety.specs.Requests as requests
use Rattle.run_safety.specs.Requests.{carried, IsJoin, Meets}
use Rattle.run_safety.proofs.Tests.{any_has}
use Rattle.run_laws.specs.seen_runs.Seen.{WasTold, BeginsOnce, OnceSeen}
use Rattle.line_laws.specs.Shown.{entry_shown}
use Rattle.run_audit.specs.declared.broken.Rule.TheVariants as rule
use Rattle.run_audit.specs.Table.{same_kind, requests_of, proposal_in, carried_by, same_request, carries, is_told_of, is_asked_of, is_due, is_undue, undue_in, holds}
use Rattle.run_audit.proofs.KeyLaws.{provider_same}
use Rattle.audit_laws.specs.Lines.{shown, lines}
use Rattle.audit_laws.specs.Records.{Keeps}
use Rattle.audit_laws.proofs.Tests.{both, eq_self, text_self, provider_self, found_none, none_any}

-- ---- the same words, of records and of lines

requests_are : (x : Proposal) → requests_of x ≡ requests.requests_of x
unfolding requests_of
requests_are (proposal.Join ps attrs n) = refl
requests_are (proposal.Leave p r) = refl
requests_are (proposal.Fail out) = refl
requests_are (proposal.Expel p r out) = refl
requests_are (proposal.State p r value) = refl
requests_are (proposal.Message p r bytes) = refl
requests_are (proposal.Attributes p r attrs) = refl
requests_are (proposal.Reflect v i value) = refl

proposal_is : (e : Entry) → proposal_in (entry_shown e) ≡ requests.proposal_of e
unfolding proposal_in
proposal_is (entry.Once x) = refl
proposal_is (entry.Begin x) = refl
proposal_is (entry.Phase c) = refl
proposal_is (entry.Approve c) = refl
proposal_is (entry.Reject c) = refl
proposal_is (entry.Late proto phase ps) = refl

carried_is : (o : Option Proposal) → carried_by o ≡ requests.carried_by o
unfolding carried_by
carried_is None = refl
carried_is (Some x) = requests_are x

-- ---- it was asked

kind_self : (k : Kind) → same_kind k k ≡ true
unfolding same_kind
kind_self k = text_self (kind_name k)

or_true : (a b : Bool) → b ≡ true → (a || b) ≡ true
or_true true b e = refl
or_true false b e = e

asked_line : (p : ProviderId) (r : ℕ) (g : List ℕ) (x : Proposal) (k : Kind) (rs : List Happened) → kind_of x ≡ k → Has (happened.Asked p r g x) rs → list_any (is_asked_of p r g k) (lines rs) ≡ true
unfolding lines shown is_asked_of
asked_line p r g x k [] same h = absurd h
asked_line p r g x k (happened.Asked q s h y ∷ rs) same (inl e) =
    let a : p ≡ q = cc in
    let b : r ≡ s = cc in
    let c : g ≡ h = cc in
    let d : x ≡ y = cc in
    ap (λ z. z || list_any (is_asked_of p r g k) (lines rs))
    ((λ i. same_provider (sym a i) p && (sym b i == r && (bytes_eq (sym c i) g && same_kind ((ap kind_of (sym d) ∙ same) i) k)))
    ∙ both (same_provider p p) (r == r && (bytes_eq g g && same_kind k k)) (provider_self p) (both (r == r) (bytes_eq g g && same_kind k k) (eq_self r) (both (bytes_eq g g) (same_kind k k) (text_self g) (kind_self k))))
asked_line p r g x k (q ∷ rs) same (inr h) = or_true (is_asked_of p r g k (shown q)) (list_any (is_asked_of p r g k) (lines rs)) (asked_line p r g x k rs same h)
asked_line p r g x k (_ ∷ rs) same (inl e) = absurd cc

join_kind : (p : ProviderId) (x : Proposal) → IsJoin p x → kind_of x ≡ kind.Join
unfolding kind_of
join_kind p (proposal.Join ps attrs n) h = refl
join_kind p (proposal.Leave q r) h = absurd cc
join_kind p (proposal.Fail out) h = absurd cc
join_kind p (proposal.Expel q r out) h = absurd cc
join_kind p (proposal.State q r value) h = absurd cc
join_kind p (proposal.Message q r bytes) h = absurd cc
join_kind p (proposal.Attributes q r attrs) h = absurd cc
join_kind p (proposal.Reflect v i value) h = absurd cc

meets_kind : (p : ProviderId) (x y : Proposal) (e : Entry) → Meets p x e → requests.proposal_of e ≡ Some y → kind_of x ≡ kind_of y
meets_kind p x y e m is = let same : m.0 ≡ y = some_same (sym m.1 ∙ is) in by m.2 same
  where
    some_same : Some m.0 ≡ Some y → m.0 ≡ y
    some_same q = cc

    by : (m.0 ≡ x) ⊎ (IsJoin p x × IsJoin p m.0) → m.0 ≡ y → kind_of x ≡ kind_of y
    by (inl q) same = ap kind_of (sym q ∙ same)
    by (inr q) same = join_kind p x q.0 ∙ (sym (join_kind p m.0 q.1) ∙ ap kind_of same)

-- ---- it was told no refusal

told_line : (p : ProviderId) (r : ℕ) (rs : List Happened) → list_any (is_told_of p r) (lines rs) ≡ true → WasTold p r rs
unfolding lines shown is_told_of
told_line p r [] e = absurd cc
told_line p r (happened.Told q k why ∷ rs) e = by (same_provider q p && k == r) refl e (told_line p r rs)
  where
    by : (t : Bool) → (same_provider q p && k == r) ≡ t → (t || list_any (is_told_of p r) (lines rs)) ≡ true → (list_any (is_told_of p r) (lines rs) ≡ true → WasTold p r rs) → WasTold p r (happened.Told q k why ∷ rs)
    by true f h old = let a = and_parts (same_provider q p) (k == r) f in inl (provider_same q p a.0, eqb-true k r a.1)
    by false f h old = inr (old h)
told_line p r (_ ∷ rs) e = inr (told_line p r rs e)

-- ---- it did not begin

request_in : (p : ProviderId) (r : ℕ) (xs : List (ProviderId × ℕ)) → list_any (same_request p r) xs ≡ true → Has (p, r) xs
unfolding same_request
request_in p r xs e =
    let k = any_has (λ (x : ProviderId × ℕ). same_provider x.0 p && x.1 == r) xs e in
    let a = and_parts (same_provider k.0.0 p) (k.0.1 == r) k.2 in
    subst (λ z. Has z xs) (λ i. (provider_same k.0.0 p a.0 i, eqb-true k.0.1 r a.1 i)) k.1

-- a put of the node that began it
pub record Began (n : ℕ) (p : ProviderId) (r : ℕ) (rs : List Happened) : Type 0 where
  pub view : ViewId
  pub group : List ℕ
  pub place : ℕ
  pub entry : Entry
  pub there : Has (happened.Put n view group place entry) rs
  pub carries : Has (p, r) (carried entry)

began_later : (n : ℕ) (p : ProviderId) (r : ℕ) (x : Happened) (rs : List Happened) → Began n p r rs → Began n p r (x ∷ rs)
began_later n p r x rs k = record { view = k.view; group = k.group; place = k.place; entry = k.entry; there = inr k.there; carries = k.carries }

began_line : (n : ℕ) (p : ProviderId) (r : ℕ) (rs : List Happened) → list_any (carries n p r) (lines rs) ≡ true → Began n p r rs
unfolding lines shown carries
began_line n p r [] e = absurd cc
began_line n p r (happened.Put m v g i x ∷ rs) e = by (m == n && list_any (same_request p r) (carried_by (proposal_in (entry_shown x)))) refl e (began_line n p r rs)
  where
    by : (t : Bool) → (m == n && list_any (same_request p r) (carried_by (proposal_in (entry_shown x)))) ≡ t → (t || list_any (carries n p r) (lines rs)) ≡ true → (list_any (carries n p r) (lines rs) ≡ true → Began n p r rs) → Began n p r (happened.Put m v g i x ∷ rs)
    by true f h old =
        let a = and_parts (m == n) (list_any (same_request p r) (carried_by (proposal_in (entry_shown x)))) f in
        let same : carried_by (proposal_in (entry_shown x)) ≡ carried x = ap carried_by (proposal_is x) ∙ carried_is (requests.proposal_of x) in
        let its : m ≡ n = eqb-true m n a.0 in
        record { view = v; group = g; place = i; entry = x; there = inl (λ j. happened.Put (sym its j) v g i x); carries = subst (Has (p, r)) same (request_in p r (carried_by (proposal_in (entry_shown x))) a.1) }
    by false f h old = began_later n p r (happened.Put m v g i x) rs (old h)
began_line n p r (x ∷ rs) e = began_later n p r x rs (began_line n p r rs e)

-- ---- each request may begin

due : (n : ℕ) (g : List ℕ) (e : Entry) (y : Proposal) (rs : List Happened) (p : ProviderId) (r : ℕ) → requests.proposal_of e ≡ Some y → BeginsOnce rs n g e p r → is_due n g (kind_of y) (lines rs) (p, r) ≡ true
unfolding is_due
due n g e y rs p r is k =
    both (list_any (is_asked_of p r g (kind_of y)) (lines rs)) (not (list_any (is_told_of p r) (lines rs)) && not (list_any (carries n p r) (lines rs)))
    (asked_line p r g k.asked.0 (kind_of y) rs (meets_kind p k.asked.0 y e k.asked.2 is) k.asked.1)
    (both (not (list_any (is_told_of p r) (lines rs))) (not (list_any (carries n p r) (lines rs)))
    (ap not (none_any (is_told_of p r) (lines rs) (λ h. k.untold (told_line p r rs h))))
    (ap not (none_any (carries n p r) (lines rs) (λ h. let b = began_line n p r rs h in k.once b.view b.group b.place b.entry b.there b.carries))))

none_undue : (n : ℕ) (v : ViewId) (g : List ℕ) (i : ℕ) (e : Entry) (rs : List Happened) → OnceSeen rs (happened.Put n v g i e) → (o : Option Proposal) → requests.proposal_of e ≡ o → is_none (undue_in n g (lines rs) o) ≡ true
unfolding undue_in is_undue
none_undue n v g i e rs once None is = refl
none_undue n v g i e rs once (Some y) is = found_none (is_undue n g (kind_of y) (lines rs)) (requests_of y) (λ x h. one x h)
  where
    one : (x : ProviderId × ℕ) → Has x (requests_of y) → ((x.0).node == n && not (is_due n g (kind_of y) (lines rs) x)) ≡ false
    one x h = by ((x.0).node == n) refl
      where
        by : (t : Bool) → ((x.0).node == n) ≡ t → (t && not (is_due n g (kind_of y) (lines rs) x)) ≡ false
        by false f = refl
        by true f =
            let own : (x.0).node ≡ n = eqb-true (x.0).node n f in
            let there : Has (x.0, x.1) (carried e) = subst (Has x) (requests_are y ∙ ap requests.carried_by (sym is)) h in
            ap not (due n g e y rs x.0 x.1 is (once x.0 x.1 own there))

pub requests_kept : Keeps rule.Once
unfolding holds shown
requests_kept (happened.Put n v g i e) rs k = ap (λ o. is_none (undue_in n g (lines rs) o)) (proposal_is e) ∙ none_undue n v g i e rs k.seen.0.once (requests.proposal_of e) refl
requests_kept _ rs k = refl
