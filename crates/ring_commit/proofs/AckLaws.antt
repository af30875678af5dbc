-- Whom acknowledgements add to a gathering.
use Rattle.std.proofs.Common.{◌≡◌, ℕ, ◌-◌, ◌⊎◌, Bool, true, false, List, [], ◌∷◌, refl, sym, ap, ◌∙◌, subst, inl, inr, ⊎_elim}
use Rattle.std.specs.Prelude.{◌==◌, ◌&&◌, ◌↔◌, not, IsTrue}
use Rattle.std.proofs.lemmas.Bool.{and_parts, and_from, or_cases, or_left, or_right, cases_Bool, eqb-true, eq-eqb, not_from_false}
use Rattle.std.specs.Int.{bit_at}
use Rattle.rsct_packet.specs.declared.ids.RingId.{RingId}
use Rattle.rsct_packet.specs.declared.mask.Mask.{Mask}
use Rattle.rsct_packet.specs.Mask.{is_node, no_nodes, has_node, with_node, common_of}
use Rattle.rsct_packet.specs.Search.{Has}
use Rattle.rsct_packet.proofs.MaskLaws.{has_is_node, has_no_nodes, has_with, has_common}
use Rattle.ring_commit.specs.declared.gather.Gather.{Gather}
use Rattle.ring_commit.specs.Gather.{gather_opened, is_awaited, gather_acked, all_acked}
use Rattle.ring_commit.specs.Closing.{after_acks}

-- what one acknowledgement adds
record Adds (g : Gather) (k : ℕ) (h : Gather) : Type 0 where
  asked : h.asked ≡ g.asked
  kept : (n : ℕ) → has_node g.acked n ≡ true → has_node h.acked n ≡ true
  added : has_node g.asked k ≡ true → has_node h.acked k ≡ true
  only : (n : ℕ) → has_node h.acked n ≡ true → (has_node g.acked n ≡ true) ⊎ ((n ≡ k) × (has_node g.asked n ≡ true))

adds : (g : Gather) (k : ℕ) → Adds g k (gather_acked g k)
unfolding gather_acked is_awaited
adds g k = by (has_node g.asked k && not (has_node g.acked k)) refl
  where
    by : (b : Bool) → (has_node g.asked k && not (has_node g.acked k)) ≡ b → Adds g k (elim b [ true ↦ record g { acked = with_node g.acked k } | false ↦ g ])
    by true e =
        let p = and_parts (has_node g.asked k) (not (has_node g.acked k)) e in
        record {
          asked = refl;
          kept = λ n h. has_with g.acked k n ∙ or_left (has_node g.acked n) (is_node k && n == k) h;
          added = λ h. has_with g.acked k k ∙ or_right (has_node g.acked k) (is_node k && k == k) (and_from (is_node k) (k == k) (has_is_node g.asked k p.0) (eq-eqb k k refl));
          only = λ n h.
              ⊎_elim
              (λ (f : has_node g.acked n ≡ true). inl f)
              (λ (f : (is_node k && n == k) ≡ true).
              (let s : n ≡ k = eqb-true n k (and_parts (is_node k) (n == k) f).1 in inr (s, subst (λ j. has_node g.asked j ≡ true) (sym s) p.0)))
              (or_cases (has_node g.acked n) (is_node k && n == k) (sym (has_with g.acked k n) ∙ h));
        }
    by false e =
        record {
          asked = refl;
          kept = λ n h. h;
          added = λ h.
              ⊎_elim
              (λ (f : has_node g.acked k ≡ true). f)
              (λ (f : has_node g.acked k ≡ false). absurd (let u : (has_node g.asked k && not (has_node g.acked k)) ≡ true = and_from (has_node g.asked k) (not (has_node g.acked k)) h (not_from_false (has_node g.acked k) f) in cc))
              (cases_Bool (has_node g.acked k));
          only = λ n h. inl h;
        }

after_to : (ns : List ℕ) (g : Gather) (n : ℕ) → has_node (after_acks g ns).acked n ≡ true → (has_node g.acked n ≡ true) ⊎ ((has_node g.asked n ≡ true) × Has n ns)
after_to [] g n h = inl h
after_to (k ∷ ns) g n h =
    let a = adds g k in
    ⊎_elim
    (λ (f : has_node (gather_acked g k).acked n ≡ true).
    ⊎_elim
    (λ (t : has_node g.acked n ≡ true). inl t)
    (λ (t : (n ≡ k) × (has_node g.asked n ≡ true)). inr (t.1, inl t.0))
    (a.only n f))
    (λ (f : (has_node (gather_acked g k).asked n ≡ true) × Has n ns). inr (subst (λ m. has_node m n ≡ true) a.asked f.0, inr f.1))
    (after_to ns (gather_acked g k) n h)

after_kept : (ns : List ℕ) (g : Gather) (n : ℕ) → has_node g.acked n ≡ true → has_node (after_acks g ns).acked n ≡ true
after_kept [] g n h = h
after_kept (k ∷ ns) g n h = after_kept ns (gather_acked g k) n ((adds g k).kept n h)

after_from : (ns : List ℕ) (g : Gather) (n : ℕ) → has_node g.asked n ≡ true → Has n ns → has_node (after_acks g ns).acked n ≡ true
after_from [] g n h t = absurd t
after_from (k ∷ ns) g n h (inl e) =
    after_kept ns (gather_acked g k) n (subst (λ j. has_node (gather_acked g k).acked j ≡ true) (sym e) ((adds g k).added (subst (λ j. has_node g.asked j ≡ true) e h)))
after_from (k ∷ ns) g n h (inr t) = after_from ns (gather_acked g k) n (subst (λ m. has_node m n ≡ true) (sym (adds g k).asked) h) t

pub closes_with_acked : (id : RingId) (asked : Mask) (me : ℕ) → IsTrue (is_node me) → (acks : List ℕ) (n : ℕ) → IsTrue (has_node (after_acks (gather_opened id asked me) acks).acked n) ↔ ((n ≡ me) ⊎ (IsTrue (has_node asked n) × Has n acks))
unfolding gather_opened
closes_with_acked id asked me i acks n =
    let g : Gather = record { id = id; asked = asked; acked = with_node no_nodes me } in
    let own : has_node g.acked me ≡ true = has_with no_nodes me me ∙ or_right (has_node no_nodes me) (is_node me && me == me) (and_from (is_node me) (me == me) i (eq-eqb me me refl)) in (
      λ h.
          ⊎_elim
          (λ (f : has_node g.acked n ≡ true).
          ⊎_elim
          (λ (t : has_node no_nodes n ≡ true). absurd (let z = has_no_nodes n in cc))
          (λ (t : (is_node me && n == me) ≡ true). inl (eqb-true n me (and_parts (is_node me) (n == me) t).1))
          (or_cases (has_node no_nodes n) (is_node me && n == me) (sym (has_with no_nodes me n) ∙ f)))
          (λ (f : (has_node asked n ≡ true) × Has n acks). inr f)
          (after_to acks g n h),
      λ h.
          ⊎_elim
          (λ (f : n ≡ me). after_kept acks g n (subst (λ j. has_node g.acked j ≡ true) (sym f) own))
          (λ (f : (has_node asked n ≡ true) × Has n acks). after_from acks g n f.0 f.1)
          h,
    )

same_has : (a b : Mask) (n : ℕ) → a.bits ≡ b.bits → has_node a n ≡ has_node b n
unfolding has_node
same_has a b n e = ap (λ k. is_node n && (bit_at k (n - 1) == 1)) e

-- the common nodes are the asked ones exactly where all asked are among the others
pub all_means : (g : Gather) → all_acked g ≡ true → (n : ℕ) → IsTrue (has_node g.asked n) → IsTrue (has_node g.acked n)
unfolding all_acked
all_means g h n k =
    let e : (common_of g.asked g.acked).bits ≡ g.asked.bits = eqb-true (common_of g.asked g.acked).bits g.asked.bits h in
    let c : has_node (common_of g.asked g.acked) n ≡ true = same_has (common_of g.asked g.acked) g.asked n e ∙ k in
    (and_parts (has_node g.asked n) (has_node g.acked n) (sym (has_common g.asked g.acked n) ∙ c)).1
