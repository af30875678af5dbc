-- A node that starts, alone or with others in one event.
use Rattle.std.proofs.Common.{refl, ◌≡◌, ℕ, ◌<◌, ◌⊎◌, ⊎_elim, inl, inr, sym, ◌∙◌, ap, subst, true, List, [], ◌∷◌, ◌++◌, None, arith, append_assoc}
use Rattle.std.specs.Prelude.{reverse, map, IsTrue}
use Rattle.std.proofs.lemmas.List.{reverse-append}
use Rattle.std.proofs.lemmas.Bool.Decides.{nat_tests}
use Rattle.rsct_packet.specs.declared.ids.Member.{Member}
use Rattle.rsct_packet.specs.declared.ids.ViewId.{ViewId}
use Rattle.rsct_packet.specs.Ids.{is_member}
use Rattle.rsct_packet.specs.Search.{Has}
use Rattle.rsct_packet.proofs.HasLaws.{has_append, has_map, has_reverse}
use Rattle.adapter_ring.specs.declared.ring.Ring.{Ring}
use Rattle.node_state.specs.declared.config.Config.{Config}
use Rattle.node_state.specs.declared.happened.Happened.{Happened}
use Rattle.node_state.specs.declared.happened.Happened.TheVariants as happened
use Rattle.node_state.specs.State.{with_sessions}
use Rattle.node_state.specs.Step.{started, ring_record, own_rings, first_view, first_members}
use Rattle.run_safety.specs.Sight.{inc_in}
use Rattle.run_safety.specs.Past.{History, records_of, Within, view_now, inc_now}
use Rattle.run_safety.specs.SafeLists.{is_later}
use Rattle.run_laws.proofs.seen_runs.Nodes.{NodeShown}

abbrev pub AllIn : List Happened → History → Type 0
AllIn now before = Within (λ now before r. NodeShown (now ++ records_of before) r) now before

module _ (c : Config) (n j : ℕ) (now : List Happened) (before : History) where
  abbrev v : ViewId
  v = first_view c c.mode n j

  abbrev ms : List Member
  ms = first_members c c.mode n j

  abbrev rings : List Happened
  rings = map (ring_record n) (own_rings c c.mode n j)

  abbrev first : List Happened
  first = happened.Up n j ∷ now

  rings_over : (qs : List Happened) → ((r : Happened) → Has r qs → (x : Ring) × (r ≡ ring_record n x)) → AllIn first before → AllIn (qs ++ first) before × (inc_now n ((qs ++ first) ++ records_of before) ≡ inc_now n (first ++ records_of before)) × (view_now n ((qs ++ first) ++ records_of before) ≡ view_now n (first ++ records_of before))
  unfolding ring_record
  rings_over [] are old = (old, refl, refl)
  rings_over (r ∷ qs) are old =
      let k = rings_over qs (λ q h. are q (inr h)) old in
      let x = are r (inl refl) in
      ((subst (NodeShown ((qs ++ first) ++ records_of before)) (sym x.1) (record { later = tt; rising = tt; among = tt; started = tt; in_view = tt }), k.0), ap (λ z. inc_now n (z ∷ (qs ++ first) ++ records_of before)) x.1 ∙ k.1, ap (λ z. view_now n (z ∷ (qs ++ first) ++ records_of before)) x.1 ∙ k.2)

  -- all that is recorded at the start
  pub start_within : ((k : ℕ) → Has (happened.Up n k) (now ++ records_of before) → k < j) → is_member ms n j ≡ true → inc_in n ms ≡ j → 0 < j → AllIn now before → AllIn (happened.In n v ms ∷ (reverse rings ++ first)) before × (inc_now n ((happened.In n v ms ∷ (reverse rings ++ first)) ++ records_of before) ≡ j)
  start_within upto member own up old =
      ((record { later = tt; rising = subst (λ z. IsTrue (is_later z v)) (sym (over.2 ∙ none)) refl; among = subst (λ z. is_member ms n z ≡ true) (sym (over.1 ∙ here)) member; started = (subst (λ z. 0 < z) (sym (over.1 ∙ here)) up, own ∙ sym (over.1 ∙ here)); in_view = tt }, over.0), over.1 ∙ here)
    where
      over : AllIn (reverse rings ++ first) before × (inc_now n ((reverse rings ++ first) ++ records_of before) ≡ inc_now n (first ++ records_of before)) × (view_now n ((reverse rings ++ first) ++ records_of before) ≡ view_now n (first ++ records_of before))
      over = rings_over (reverse rings) (λ r h. let k = has_map (ring_record n) r (own_rings c c.mode n j) (has_reverse r rings h) in (k.0, k.2)) (record { later = upto; rising = tt; among = tt; started = tt; in_view = tt }, old)

      here : inc_now n (first ++ records_of before) ≡ j
      here = grind (arith, nat_tests)

      none : view_now n (first ++ records_of before) ≡ None
      none = grind (arith, nat_tests)

  -- as they stand, the latest first
  pub start_records : reverse (started c n j).records ++ now ≡ happened.In n v ms ∷ (reverse rings ++ first)
  unfolding started with_sessions
  start_records =
      ap (λ l. l ++ now) (reverse-append (happened.Up n j ∷ rings) (happened.In n v ms ∷ []) ∙ ap (λ l. happened.In n v ms ∷ l) (reverse-append (happened.Up n j ∷ []) rings)) ∙ ap (λ l. happened.In n v ms ∷ l) (append_assoc (reverse rings) (happened.Up n j ∷ []) now)

  -- no other node starts
  pub start_ups : (m k : ℕ) → Has (happened.Up m k) ((happened.In n v ms ∷ (reverse rings ++ first)) ++ records_of before) → ((m ≡ n) × (k ≡ j)) ⊎ Has (happened.Up m k) (now ++ records_of before)
  unfolding ring_record
  start_ups m k (inl e) = absurd (cc)
  start_ups m k (inr h) =
      ⊎_elim (λ (a : Has (happened.Up m k) (reverse rings)). absurd (let q = has_map (ring_record n) (happened.Up m k) (own_rings c c.mode n j) (has_reverse (happened.Up m k) rings a) in let z : happened.Up m k ≡ ring_record n q.0 = q.2 in cc)) (λ (a : Has (happened.Up m k) (first ++ records_of before)). at a) (has_append (happened.Up m k) (reverse rings) (first ++ records_of before) (subst (Has (happened.Up m k)) (append_assoc (reverse rings) first (records_of before)) h))
    where
      at : Has (happened.Up m k) (first ++ records_of before) → ((m ≡ n) × (k ≡ j)) ⊎ Has (happened.Up m k) (now ++ records_of before)
      at (inl e) = let a : m ≡ n = cc in let b : k ≡ j = cc in inl (a, b)
      at (inr a) = inr a
