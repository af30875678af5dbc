-- What a leader keeps of the requests that it decides: decisions, and joins that wait.
use Rattle.std.proofs.Common.{◌≡◌, ◌≤◌, ◌<◌, ◌⊎◌, ℕ, List, [], ◌∷◌, ◌++◌, Option, Some, None, Bool, true, false, refl, sym, ap, ◌∙◌, subst, inl, inr, arith}
use Rattle.std.specs.Prelude.{◌&&◌, ◌||◌, not, find, slice_get, if◌then◌else◌}
use Rattle.std.proofs.lemmas.Bool.{and_parts}
use Rattle.std.proofs.lemmas.Bool.Decides.{nat_tests}
use Rattle.rsct_packet.specs.declared.ids.ViewId.{ViewId}
use Rattle.rsct_packet.specs.declared.ids.ProviderId.{ProviderId}
use Rattle.rsct_packet.specs.Providers.{same_provider, among, differ}
use Rattle.rsct_packet.specs.Search.{Has}
use Rattle.proposal_core.specs.declared.entry.Entry.{Entry}
use Rattle.batch_rules.specs.Waiting.{same_instance, has_instance}
use Rattle.client_callbacks.specs.declared.told.Why.{Why}
use Rattle.node_state.specs.declared.group.Decision.{Decision}
use Rattle.node_state.specs.declared.group.Led.{Led}
use Rattle.node_state.specs.State.{decision_of, decisions_with}
use Rattle.run_safety.specs.Group.{member}
use Rattle.run_safety.specs.Group as group
use Rattle.run_safety.specs.Requests.{carried}
use Rattle.step_refinement.specs.Ghost.{Ghost}
use Rattle.step_refinement.specs.Tied.{Decided, LeaderKeeps}
use Rattle.step_refinement.proofs.SessionLaws.{provider_self, provider_same}

-- ---- lists of providers

pub among_push : (xs : List ProviderId) (p q : ProviderId) → among (xs ++ p ∷ []) q ≡ true → (among xs q ≡ true) ⊎ (q ≡ p)
among_push [] p q e = inr (sym (provider_same p q (last (same_provider p q) e)))
  where
    last : (b : Bool) → (b || false) ≡ true → b ≡ true
    last true e = refl
    last false e = absurd (cc)
among_push (x ∷ xs) p q e = by (same_provider x q) refl e (among_push xs p q)
  where
    by : (b : Bool) → same_provider x q ≡ b → (b || among (xs ++ p ∷ []) q) ≡ true → (among (xs ++ p ∷ []) q ≡ true → (among xs q ≡ true) ⊎ (q ≡ p)) → ((b || among xs q) ≡ true) ⊎ (q ≡ p)
    by true k e rest = inl refl
    by false k e rest = rest e

among_none : (xs : List ProviderId) (p q : ProviderId) → among xs q ≡ false → (q ≡ p → ⊥) → among (xs ++ p ∷ []) q ≡ false
among_none xs p q e ne = by (among (xs ++ p ∷ []) q) refl
  where
    at : (among xs q ≡ true) ⊎ (q ≡ p) → ⊥
    at (inl k) = cc
    at (inr k) = ne k

    by : (b : Bool) → among (xs ++ p ∷ []) q ≡ b → b ≡ false
    by false k = refl
    by true k = absurd (at (among_push xs p q k))

pub differ_push : (xs : List ProviderId) (p : ProviderId) → differ xs ≡ true → among xs p ≡ false → differ (xs ++ p ∷ []) ≡ true
differ_push [] p d e = refl
differ_push (x ∷ xs) p d e =
    let k = and_parts (not (among xs x)) (differ xs) d in
    let a : among xs x ≡ false = no_longer (among xs x) k.0 in
    let ne : x ≡ p → ⊥ = λ q. other q in
    ap (λ b. not b && differ (xs ++ p ∷ [])) (among_none xs p x a ne) ∙ differ_push xs p k.1 (rest (same_provider x p) (among xs p) e)
  where
    no_longer : (b : Bool) → not b ≡ true → b ≡ false
    no_longer false q = refl
    no_longer true q = absurd (cc)

    rest : (a b : Bool) → (a || b) ≡ false → b ≡ false
    rest false b q = q
    rest true b q = absurd (cc)

    first : (a b : Bool) → (a || b) ≡ false → a ≡ false
    first false b q = refl
    first true b q = absurd (cc)

    other : x ≡ p → ⊥
    other q = let s : same_provider x p ≡ true = ap (λ z. same_provider z p) q ∙ provider_self p in
        let f = first (same_provider x p) (among xs p) e in cc

-- who has another instance is another
pub apart_instances : (xs ys : List ProviderId) (p : ProviderId) → has_instance (xs ++ ys) p ≡ false → among ys p ≡ false
apart_instances [] [] p e = refl
apart_instances [] (y ∷ ys) p e = by (same_provider y p) refl (apart_instances [] ys p (rest (same_instance y p) (has_instance ys p) e))
  where
    rest : (a b : Bool) → (a || b) ≡ false → b ≡ false
    rest false b q = q
    rest true b q = absurd (cc)

    instance : same_provider y p ≡ true → same_instance y p ≡ true
    instance s = grind (arith, nat_tests)

    by : (b : Bool) → same_provider y p ≡ b → among ys p ≡ false → (b || among ys p) ≡ false
    by false s k = k
    by true s k = absurd (let i = instance s in let f : (true || has_instance ys p) ≡ false = ap (λ b. b || has_instance ys p) (sym i) ∙ e in cc)
apart_instances (x ∷ xs) ys p e = apart_instances xs ys p (rest (same_instance x p) (has_instance (xs ++ ys) p) e)
  where
    rest : (a b : Bool) → (a || b) ≡ false → b ≡ false
    rest false b q = q
    rest true b q = absurd (cc)

-- ---- decisions

pub with_here : (d : Decision) (xs : List Decision) → find (λ (z : Decision). same_provider z.provider d.provider) (decisions_with d xs) ≡ Some d
unfolding decisions_with
with_here d [] = ap (λ b. if b then Some d else None) (provider_self d.provider)
with_here d (x ∷ xs) = by (same_provider x.provider d.provider) refl (with_here d xs)
  where
    by : (b : Bool) → same_provider x.provider d.provider ≡ b → find (λ (z : Decision). same_provider z.provider d.provider) (decisions_with d xs) ≡ Some d → find (λ (z : Decision). same_provider z.provider d.provider) (elim b as (λ _. List Decision) [ true ↦ d ∷ xs | false ↦ x ∷ decisions_with d xs ]) ≡ Some d
    by true q k = ap (λ b. if b then Some d else find (λ (z : Decision). same_provider z.provider d.provider) xs) (provider_self d.provider)
    by false q k = ap (λ b. if b then Some x else find (λ (z : Decision). same_provider z.provider d.provider) (decisions_with d xs)) q ∙ k

pub with_there : (d : Decision) (xs : List Decision) (q : ProviderId) → same_provider d.provider q ≡ false → find (λ (z : Decision). same_provider z.provider q) (decisions_with d xs) ≡ find (λ (z : Decision). same_provider z.provider q) xs
unfolding decisions_with
with_there d [] q ne = ap (λ b. if b then Some d else None) ne
with_there d (x ∷ xs) q ne = by (same_provider x.provider d.provider) refl (with_there d xs q ne)
  where
    by : (b : Bool) → same_provider x.provider d.provider ≡ b → find (λ (z : Decision). same_provider z.provider q) (decisions_with d xs) ≡ find (λ (z : Decision). same_provider z.provider q) xs → find (λ (z : Decision). same_provider z.provider q) (elim b as (λ _. List Decision) [ true ↦ d ∷ xs | false ↦ x ∷ decisions_with d xs ]) ≡ find (λ (z : Decision). same_provider z.provider q) (x ∷ xs)
    by true s k =
        ap (λ b. if b then Some d else find (λ (z : Decision). same_provider z.provider q) xs) ne ∙ ap (λ b. if b then Some x else find (λ (z : Decision). same_provider z.provider q) xs) (sym (ap (λ z. same_provider z q) (provider_same x.provider d.provider s) ∙ ne))
    by false s k = ap (λ z. if same_provider x.provider q then Some x else z) k

-- its number is greater than that of the last decision on its requester
abbrev pub Newer : Led → ProviderId → ℕ → Type 0
Newer l p r = (d : Decision) → decision_of l p ≡ Some d → d.request < r

-- or as great
abbrev pub NoOlder : Led → ProviderId → ℕ → Type 0
NoOlder l p r = (d : Decision) → decision_of l p ≡ Some d → d.request ≤ r

-- nor does an earlier join of the requester wait
abbrev pub Ripe : Led → ProviderId → ℕ → Type 0
Ripe l p r = among l.waiting.joins p ≡ true → r ≤ p.join

pub newer_no_older : (l : Led) (p : ProviderId) (r : ℕ) → Newer l p r → NoOlder l p r
newer_no_older l p r newer d e = let a = newer d e in omega arith

-- a request that neither began nor waits
pub record Unbegun (list : List Entry) (l : Led) (p : ProviderId) (r : ℕ) : Type 0 where
  pub unbegun : (i : ℕ) (e : Entry) → slice_get list i ≡ Some e → Has (p, r) (carried e) → ⊥
  pub unwaiting : among l.waiting.joins p ≡ true → p.join ≡ r → ⊥

-- and was not refused
pub record Fresh (x : Ghost) (v : ViewId) (list : List Entry) (l : Led) (p : ProviderId) (r : ℕ) : Type 0 where
  pub unrefused : Has (group.Refusal v p r) x.ps → ⊥
  pub unbegun : (i : ℕ) (e : Entry) → slice_get list i ≡ Some e → Has (p, r) (carried e) → ⊥
  pub unwaiting : among l.waiting.joins p ≡ true → p.join ≡ r → ⊥

pub fresh_unbegun : (x : Ghost) (v : ViewId) (list : List Entry) (l : Led) (p : ProviderId) (r : ℕ) → Fresh x v list l p r → Unbegun list l p r
fresh_unbegun x v list l p r h = record { unbegun = h.unbegun; unwaiting = h.unwaiting }

pub fresh_of : (x : Ghost) (n inc : ℕ) (v : ViewId) (l : Led) (p : ProviderId) (r : ℕ) → x.leads v ≡ Some (member n inc) → (Has v x.shut → ⊥) → LeaderKeeps x n inc v l → Newer l p r → Fresh x v (x.nodes n).list l p r
fresh_of x n inc v l p r led unshut k newer =
    record {
      unrefused = λ h. old r (k.refused p r led unshut h) (omega arith);
      unbegun = λ i e a b. old r (k.begun p r i e led a b) (omega arith);
      unwaiting = λ i q. old p.join (k.waiting p led i).decided (omega arith);
    }
  where
    old : (j : ℕ) → Decided l p j → r ≤ j → ⊥
    old j d le = let a = d.later in
        let b = newer d.last d.kept_it in omega arith

abbrev pub with_decision : ProviderId → ℕ → Option Why → Led → Led
with_decision p r why l = record l { decided = decisions_with (record { provider = p; request = r; why = why }) l.decided }

pub decided_now : (l : Led) (p : ProviderId) (r : ℕ) (why : Option Why) → Decided (with_decision p r why l) p r
unfolding decision_of
decided_now l p r why =
    record { last = record { provider = p; request = r; why = why }; kept_it = with_here (record { provider = p; request = r; why = why }) l.decided; later = omega arith }

-- no later one was kept
pub no_older_now : (l : Led) (p : ProviderId) (r : ℕ) (why : Option Why) → NoOlder (with_decision p r why l) p r
unfolding decision_of
no_older_now l p r why d e =
    let k : Some (record { provider = p; request = r; why = why }) ≡ Some d = sym (with_here (record { provider = p; request = r; why = why }) l.decided) ∙ e in
    let c : record { provider = p; request = r; why = why } ≡ d = cc in
    let n : d.request ≡ r = ap (λ (z : Decision). z.request) (sym c) in omega arith

-- earlier decisions stand, or a later one in their place
pub decided_still : (l : Led) (p : ProviderId) (r : ℕ) (why : Option Why) → NoOlder l p r → (q : ProviderId) (k : ℕ) → Decided l q k → Decided (with_decision p r why l) q k
unfolding decision_of
decided_still l p r why newer q k h = by (same_provider p q) refl
  where
    d : Decision
    d = record { provider = p; request = r; why = why }

    by : (b : Bool) → same_provider p q ≡ b → Decided (with_decision p r why l) q k
    by true e =
        let s : p ≡ q = provider_same p q e in
        let a : h.last.request ≤ r = newer h.last (ap (λ z. find (λ (y : Decision). same_provider y.provider z) l.decided) s ∙ h.kept_it) in
        let b = h.later in
        subst (λ z. Decided (with_decision p r why l) z k) s (record { last = record { provider = p; request = r; why = why }; kept_it = with_here (record { provider = p; request = r; why = why }) l.decided; later = omega arith })
    by false e =
        record { last = h.last; kept_it = with_there (record { provider = p; request = r; why = why }) l.decided q e ∙ h.kept_it; later = h.later }
