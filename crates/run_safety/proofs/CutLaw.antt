-- The cut is the longest list that a member held, and each that comes along has it.
use Rattle.std.proofs.Common.{◌≤◌, ◌≡◌, ℕ, ◌⊎◌, List, [], length, sym, ap, ◌∙◌, subst, inl, inr, arith}
use Rattle.rsct_packet.specs.declared.ids.ViewId.{ViewId}
use Rattle.rsct_packet.specs.declared.ids.Member.{Member}
use Rattle.proposal_core.specs.declared.entry.Entry.{Entry}
use Rattle.rsct_packet.specs.Search.{Has}
use Rattle.run_safety.specs.Group.{member, Standing, Reply, members_of, Packet, Answer, Install, Record, In}
use Rattle.run_safety.specs.GroupLists.{held, From, SameLists, IsCut, CutHolds, SameMembers}
use Rattle.run_safety.specs.Moves.{Opening, Born, Leads, Longest}
use Rattle.run_safety.proofs.Tracks.{from_one}
use Rattle.run_safety.proofs.Keep.{Inv}
use Rattle.run_safety.proofs.Past.{Past, member_reply, reply_member, Origin, born_number, born_member, born_same}

module _ (o : Opening) (nodes : ℕ → Standing) (packets : List Packet) (trace : List Record) (log : ViewId → List Entry) (lead : Leads) (inv : Inv nodes packets trace log lead) (past : Past o nodes packets trace lead) where
  pub law_same_lists : SameLists trace
  law_same_lists n m j i v w ms ns h g a b =
      let p = past.left n j w v ms h a in
      let q = past.left m i w v ns g b in
      p.2 ∙ ap (λ (ss : ViewId → List Entry). ss v) (inv.one w ms ns p.0 q.0 p.1 q.1).1 ∙ sym q.2

  is_member : (n j : ℕ) (v : ViewId) (ms : List Member) → Has (In n j v ms) trace → Has (member n j) ms
  is_member n j v ms h = at (past.origin n j v ms h)
    where
      at : Origin o packets n j v ms → Has (member n j) ms
      at (inl b) = born_member o n j v ms b
      at (inr k) = k.2

  pub law_same_members : SameMembers trace
  law_same_members n m j i v ms ns h g = (at (past.origin n j v ms h) (past.origin m i v ns g), is_member n j v ms h)
    where
      never : (k l : ℕ) (ps qs : List Member) (ss : ViewId → List Entry) → Born o k l v qs → Has (Install v ps ss) packets → ⊥
      never k l ps qs ss b h = let e = born_number o k l v qs b in let l' = (past.made v ps ss h).later in absurd (omega arith)

      at : Origin o packets n j v ms → Origin o packets m i v ns → ms ≡ ns
      at (inl b) (inl c) = born_same o n m j i v ms ns b c
      at (inl b) (inr k) = absurd (never n j ns ms k.0 b k.1)
      at (inr k) (inl c) = absurd (never m i ms ns k.0 c k.1)
      at (inr k) (inr l) = (inv.one v ms ns k.0 l.0 k.1 l.1).0

  -- the cut of each old view, from the answers that an install is made of
  pub cut_by : (v : ViewId) (ms : List Member) (ss : ViewId → List Entry) (rs : List Reply) → ms ≡ members_of rs → Longest rs ss → ((r : Reply) → Has r rs → Has (Answer v r) packets) → (u : ViewId) → ((r : Reply) × Has r rs × (r.view ≡ u)) → IsCut trace ms u v (length (ss u))
  cut_by v ms ss rs members longest sent u some = record { most = most; one = one (longest.one u) }
    where
      -- what a member's answer says
      said : (m i : ℕ) → Has (member m i) ms → From trace m i v u → (r : Reply) × Has r rs × (r.view ≡ u) × (held m u trace ≡ length r.list)
      said m i x f =
          let k = member_reply m i rs (subst (Has (member m i)) members x) in
          let a = past.answers v k.0 (sent k.0 k.1) in
          let f' : From trace k.0.node k.0.inc v u = subst (λ (q : ℕ × ℕ). From trace q.0 q.1 v u) (λ z. (sym k.2 z, sym k.3 z)) f in
          let e = from_one trace k.0.node k.0.inc v k.0.view u a.0 f' in
          (k.0, k.1, e, subst (λ (q : ℕ × ViewId). held q.0 q.1 trace ≡ length k.0.list) (λ z. (k.2 z, e z)) a.1)

      most : (m i : ℕ) → Has (member m i) ms → From trace m i v u → held m u trace ≤ length (ss u)
      most m i x f =
          let k = said m i x f in
          let le : length k.0.list ≤ length (ss u) = subst (λ w. length k.0.list ≤ length (ss w)) k.2 (longest.over k.0 k.1) in
          omega (arith, k.3)

      by : (r : Reply) → Has r rs → r.view ≡ u → length r.list ≡ length (ss u) → (m : ℕ) × (i : ℕ) × Has (member m i) ms × From trace m i v u × (held m u trace ≡ length (ss u))
      by r h s l =
          let a = past.answers v r (sent r h) in (
            r.node,
            r.inc,
            subst (Has (member r.node r.inc)) (sym members) (reply_member r rs h),
            subst (From trace r.node r.inc v) s a.0,
            subst (λ w. held r.node w trace ≡ length r.list) s a.1 ∙ l,
          )

      one : (ss u ≡ []) ⊎ ((r : Reply) × Has r rs × (r.view ≡ u) × (r.list ≡ ss u)) → (m : ℕ) × (i : ℕ) × Has (member m i) ms × From trace m i v u × (held m u trace ≡ length (ss u))
      one (inr k) = by k.0 k.1 k.2 (ap length k.3)
      one (inl e) =
          let q = some in
          let le : length q.0.list ≤ length (ss u) = subst (λ w. length q.0.list ≤ length (ss w)) q.2 (longest.over q.0 q.1) in
          let nil = ap length e in
          by q.0 q.1 q.2 (omega arith)

  pub law_cut : CutHolds trace
  law_cut n j u v ms h fr =
      let left = past.left n j v u ms h fr in
      let made = past.made v ms left.0 left.1 in
      let k = member_reply n j made.replies (subst (Has (member n j)) made.members (is_member n j v ms h)) in
      let a = past.answers v k.0 (made.sent k.0 k.1) in
      let f' : From trace k.0.node k.0.inc v u = subst (λ (q : ℕ × ℕ). From trace q.0 q.1 v u) (λ z. (sym k.2 z, sym k.3 z)) fr in
      let e = from_one trace k.0.node k.0.inc v k.0.view u a.0 f' in
      subst (IsCut trace ms u v) (sym (ap length left.2)) (cut_by v ms left.0 made.replies made.members made.longest made.sent u (k.0, k.1, e))
