-- An append of the leader, and one of a follower, keep the invariant.
use Rattle.std.proofs.Common.{refl, Some, None, ◌≡◌, ◌≢◌, ℕ, ◌⊎◌, List, [], ◌∷◌, ◌++◌, length, sym, ap, ◌∙◌, subst, inl, inr, arith}
use Rattle.std.specs.Prelude.{slice_get}
use Rattle.rsct_packet.specs.declared.ids.ViewId.{ViewId}
use Rattle.proposal_core.specs.declared.entry.Entry.{Entry}
use Rattle.rsct_packet.specs.Search.{Has}
use Rattle.run_safety.specs.Group.{member, Standing, Packet, Append, Record, Put}
use Rattle.run_safety.specs.Moves.{Leads, Changes}
use Rattle.run_safety.proofs.Order.{lt_refl, cases_view, lt_not_same}
use Rattle.run_safety.proofs.Prefix.{IsPrefix, prefix_refl, prefix_trans, prefix_push, prefix_next, at_end}
use Rattle.run_safety.proofs.Parts.{Onward, Unused, Growing, PacketOk, RecordOk, NodeOk, packet_on, record_on, added, member_parts}
use Rattle.run_safety.proofs.Keep.{Inv, each, onwards, same_logs, belows, one_more}

-- one entry more in one view's log
pub record Extends (log log' : ViewId → List Entry) (v : ViewId) (e : Entry) : Type 0 where
  pub here : log' v ≡ log v ++ e ∷ []
  pub there : (u : ViewId) → (u ≡ v → ⊥) → log' u ≡ log u

pub extends_grows : (log log' : ViewId → List Entry) (v : ViewId) (e : Entry) → Extends log log' v e → Growing log log'
extends_grows log log' v e x = record { at = λ u. at u (cases_view u v) }
  where
    at : (u : ViewId) → (u ≡ v) ⊎ (u ≡ v → ⊥) → IsPrefix (log u) (log' u)
    at u (inl s) =
        let P : ViewId → Type 0 = λ w. IsPrefix (log w) (log' w) in
        subst P (sym s) (subst (IsPrefix (log v)) (sym x.here) (prefix_push (log v) e))
    at u (inr ne) = subst (IsPrefix (log u)) (sym (x.there u ne)) (prefix_refl (log u))

module _ (nodes : ℕ → Standing) (packets : List Packet) (trace : List Record) (log : ViewId → List Entry) (lead : Leads) (inv : Inv nodes packets trace log lead) where
  longer_onward : (n : ℕ) (e : Entry) → (nodes n).view ≡ (nodes n).promise → Onward (nodes n) (record (nodes n) { list = (nodes n).list ++ e ∷ [] })
  longer_onward n e same =
      let x = nodes n in
      record { by = inr (refl, lt_refl x.view, lt_refl x.promise, inl (refl, λ l. absurd (lt_not_same x.view x.promise l same))) }

  -- the leader appends what it will
  pub keep_lead : (now : ℕ → Standing) (log' : ViewId → List Entry) (n : ℕ) (e : Entry) → lead (nodes n).view ≡ Some (member n (nodes n).inc) → (nodes n).view ≡ (nodes n).promise → Changes nodes now n (record (nodes n) { list = (nodes n).list ++ e ∷ [] }) → Extends log log' (nodes n).view e → Inv now (Append (nodes n).view (length (nodes n).list) e ∷ packets) (Put n (nodes n).view (length (nodes n).list) e ∷ trace) log' lead
  keep_lead now log' n e leads same c ext =
      let x = nodes n in
      let y : Standing = record x { list = x.list ++ e ∷ [] } in
      let ok = inv.node n in
      let o = onwards nodes now n y c (longer_onward n e same) in
      let g = extends_grows log log' x.view e ext in
      let whole : x.list ++ e ∷ [] ≡ log' x.view = ap (λ l. l ++ e ∷ []) (ok.whole x.inc leads) ∙ sym ext.here in
      let entry : slice_get (log' x.view) (length x.list) ≡ Some e = subst (λ l. slice_get l (length x.list) ≡ Some e) whole (at_end x.list e []) in
      record {
        node = each (NodeOk log' lead) nodes now n y c (record {
          below = ok.below;
          part = subst (IsPrefix y.list) whole (prefix_refl y.list);
          mine = ok.mine;
          whole = λ j _. whole;
          fresh = λ v j q un. ext.there v (λ s. own_used v j un s (sym (ap lead s) ∙ q)) ∙ ok.fresh v j q un;
        }) (λ m ne. other m ne (inv.node m));
        packet = added (PacketOk now log') (Append x.view (length x.list) e) packets entry (λ p h. packet_on nodes now log log' (belows nodes packets trace log lead inv) o g p (inv.packet p h));
        one = one_more nodes packets trace log lead inv (Append x.view (length x.list) e) tt;
        records = added (RecordOk now log') (Put n x.view (length x.list) e) trace entry (λ r h. record_on nodes now log log' o g r (inv.records r h));
        rises = inv.rises;
        none = λ v q. ext.there v (λ s. no_leader v q s) ∙ inv.none v q;
      }
    where
      no_leader : (v : ViewId) → lead v ≡ None → v ≡ (nodes n).view → ⊥
      no_leader v q s = let e : lead (nodes n).view ≡ None = ap lead (sym s) ∙ q in cc

      own_used : (v : ViewId) (j : ℕ) → Unused (nodes n) j v → v ≡ (nodes n).view → lead (nodes n).view ≡ Some (member n j) → ⊥
      own_used v j (inl lt) s q = let e : j ≡ (nodes n).inc = (inv.node n).mine j q in omega arith
      own_used v j (inr u) s q = lt_not_same (nodes n).view v u.1 (sym s)

      not_led : (m j : ℕ) → m ≢ n → lead (nodes n).view ≡ Some (member m j) → ⊥
      not_led m j ne q = ne (member_parts m n j (nodes n).inc (sym q ∙ leads)).0

      other : (m : ℕ) → m ≢ n → NodeOk log lead m (nodes m) → NodeOk log' lead m (nodes m)
      other m ne ok = record {
        below = ok.below;
        part = prefix_trans ok.part ((extends_grows log log' (nodes n).view e ext).at (nodes m).view);
        mine = ok.mine;
        whole = λ j q. ok.whole j q ∙ sym (ext.there (nodes m).view (λ s. not_led m j ne (sym (ap lead s) ∙ q)));
        fresh = λ v j q un. ext.there v (λ s. not_led m j ne (sym (ap lead s) ∙ q)) ∙ ok.fresh v j q un;
      }

  -- another node takes an entry that was sent
  pub keep_follow : (now : ℕ → Standing) (n : ℕ) (e : Entry) → (nodes n).view ≡ (nodes n).promise → Has (Append (nodes n).view (length (nodes n).list) e) packets → Changes nodes now n (record (nodes n) { list = (nodes n).list ++ e ∷ [] }) → Inv now packets (Put n (nodes n).view (length (nodes n).list) e ∷ trace) log lead
  keep_follow now n e same sent c =
      let x = nodes n in
      let y : Standing = record x { list = x.list ++ e ∷ [] } in
      let ok = inv.node n in
      let o = onwards nodes now n y c (longer_onward n e same) in
      let entry : slice_get (log x.view) (length x.list) ≡ Some e = inv.packet (Append x.view (length x.list) e) sent in
      record {
        node = each (NodeOk log lead) nodes now n y c (record {
          below = ok.below;
          part = prefix_next x.list (log x.view) e ok.part entry;
          mine = ok.mine;
          whole = λ j q. absurd (past x.list (log x.view) e (ok.whole j q) entry);
          fresh = ok.fresh;
        }) (λ m ne. inv.node m);
        packet = λ p h. packet_on nodes now log log (belows nodes packets trace log lead inv) o (same_logs log) p (inv.packet p h);
        one = inv.one;
        records = added (RecordOk now log) (Put n x.view (length x.list) e) trace entry (λ r h. record_on nodes now log log o (same_logs log) r (inv.records r h));
        rises = inv.rises;
        none = inv.none;
      }
    where
      past : (xs ys : List Entry) (e : Entry) → xs ≡ ys → slice_get ys (length xs) ≡ Some e → ⊥
      past [] [] e s h = cc
      past [] (y ∷ ys) e s h = cc
      past (x ∷ xs) [] e s h = cc
      past (x ∷ xs) (y ∷ ys) e s h = let tail : xs ≡ ys = cc in past xs ys e tail h
