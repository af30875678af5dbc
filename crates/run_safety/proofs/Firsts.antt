-- Who puts an entry first is the leader: a layer over the moves.
use Rattle.std.proofs.Common.{refl, Some, ◌≡◌, ℕ, zero, suc, ◌+◌, ◌⊎◌, List, [], ◌∷◌, ◌++◌, length, sym, ap, ◌∙◌, subst, inl, inr, ⊎_elim, arith, length-append, append_assoc}
use Rattle.std.specs.Prelude.{slice_get}
use Rattle.rsct_packet.specs.declared.ids.ViewId.{ViewId}
use Rattle.rsct_packet.specs.declared.ids.Member.{Member}
use Rattle.proposal_core.specs.declared.entry.Entry.{Entry}
use Rattle.rsct_packet.specs.Search.{Has}
use Rattle.run_safety.specs.Group.{member, Record, In, Put, Begins, puts_from}
use Rattle.run_safety.specs.Moves.{Leads}
use Rattle.run_safety.specs.GroupLaws.{Earlier, ByLeader}
use Rattle.run_safety.proofs.Order.{cases_view}
use Rattle.run_safety.proofs.Prefix.{IsPrefix, prefix_get, at_end}
use Rattle.run_safety.proofs.Appends.{Extends}

pub record Firsts (trace : List Record) (log : ViewId → List Entry) (lead : Leads) : Type 0 where
  pub put : (v : ViewId) (i : ℕ) (e : Entry) → slice_get (log v) i ≡ Some e → Earlier trace v i
  pub first : ByLeader lead trace

-- a record that is no put
pub firsts_other : (trace trace' : List Record) (log : ViewId → List Entry) (lead : Leads) → (ByLeader lead trace → ByLeader lead trace') → ((r : Record) → Has r trace → Has r trace') → Firsts trace log lead → Firsts trace' log lead
firsts_other trace trace' log lead f g s =
    record { put = λ v i e h. let k = s.put v i e h in (k.0, k.1, g (Put k.0 v i k.1) k.2); first = f s.first }

-- a leader is settled
by_lead_on : (lead now : Leads) (tr : List Record) → ((v : ViewId) (l : Member) → lead v ≡ Some l → now v ≡ Some l) → ByLeader lead tr → ByLeader now tr
by_lead_on lead now [] on h = tt
by_lead_on lead now (Put n v i e ∷ tr) on h =
    (⊎_elim (λ (k : (j : ℕ) × (lead v ≡ Some (member n j))). inl (k.0, on v (member n k.0) k.1)) (λ (k : Earlier tr v i). inr k) h.0, by_lead_on lead now tr on h.1)
by_lead_on lead now (In n j v ms ∷ tr) on h = by_lead_on lead now tr on h
by_lead_on lead now (Begins ∷ tr) on h = by_lead_on lead now tr on h

pub firsts_name : (trace : List Record) (log : ViewId → List Entry) (lead now : Leads) → ((v : ViewId) (l : Member) → lead v ≡ Some l → now v ≡ Some l) → Firsts trace log lead → Firsts trace log now
firsts_name trace log lead now on s = record { put = s.put; first = by_lead_on lead now trace on s.first }

-- what is at a place of a list with one entry more
pub at_longer : (xs : List Entry) (e : Entry) (i : ℕ) (f : Entry) → slice_get (xs ++ e ∷ []) i ≡ Some f → (slice_get xs i ≡ Some f) ⊎ (i ≡ length xs)
at_longer [] e zero f h = inr refl
at_longer [] e (suc i) f h = absurd (cc)
at_longer (x ∷ xs) e zero f h = inl h
at_longer (x ∷ xs) e (suc i) f h = ⊎_elim (λ (a : slice_get xs i ≡ Some f). inl a) (λ (b : i ≡ length xs). inr (ap suc b)) (at_longer xs e i f h)

-- the leader appends
pub firsts_lead : (trace : List Record) (log log' : ViewId → List Entry) (lead : Leads) (n j : ℕ) (e : Entry) (v : ViewId) → lead v ≡ Some (member n j) → Extends log log' v e → Firsts trace log lead → Firsts (Put n v (length (log v)) e ∷ trace) log' lead
firsts_lead trace log log' lead n j e v leads ext s =
    record { put = λ u i f h. put u i f h (cases_view u v); first = (inl (j, leads), s.first) }
  where
    put : (u : ViewId) (i : ℕ) (f : Entry) → slice_get (log' u) i ≡ Some f → (u ≡ v) ⊎ (u ≡ v → ⊥) → Earlier (Put n v (length (log v)) e ∷ trace) u i
    put u i f h (inr ne) = let k = s.put u i f (subst (λ l. slice_get l i ≡ Some f) (ext.there u ne) h) in (k.0, k.1, inr k.2)
    put u i f h (inl q) =
        let h' : slice_get (log v ++ e ∷ []) i ≡ Some f = subst (λ l. slice_get l i ≡ Some f) (ap log' q ∙ ext.here) h in
        ⊎_elim (λ (a : slice_get (log v) i ≡ Some f). let k = s.put u i f (subst (λ w. slice_get (log w) i ≡ Some f) (sym q) a) in (k.0, k.1, inr k.2)) (λ (b : i ≡ length (log v)). (n, e, inl (λ z. Put n (q z) (b z) e))) (at_longer (log v) e i f h')

-- others put what was put before, one entry or many
pub firsts_many : (n : ℕ) (v : ViewId) (es xs : List Entry) (i : ℕ) (trace : List Record) (log : ViewId → List Entry) (lead : Leads) → i ≡ length xs → IsPrefix (xs ++ es) (log v) → Firsts trace log lead → Firsts (puts_from n v i es trace) log lead
firsts_many n v [] xs i trace log lead l p s = s
firsts_many n v (e ∷ es) xs i trace log lead l p s =
    let there : slice_get (log v) i ≡ Some e = prefix_get (xs ++ e ∷ es) (log v) p i e (subst (λ k. slice_get (xs ++ e ∷ es) k ≡ Some e) (sym l) (at_end xs e es)) in
    let p' : IsPrefix ((xs ++ e ∷ []) ++ es) (log v) = rw append_assoc p in
    let l' : i + 1 ≡ length (xs ++ e ∷ []) = omega (arith, length-append xs (e ∷ [])) in
    firsts_many n v es (xs ++ e ∷ []) (i + 1) (Put n v i e ∷ trace) log lead l' p' (record {
      put = λ u k f h. let q = s.put u k f h in (q.0, q.1, inr q.2);
      first = (inr (s.put v i e there), s.first);
    })
