-- A start, and the entering of a view, keep the invariant.
use Rattle.std.proofs.Common.{refl, Some, ◌≡◌, ℕ, ◌+◌, ◌<◌, ◌⊎◌, List, [], ◌∷◌, ◌++◌, length, drop, sym, subst, inl, inr, arith}
use Rattle.rsct_packet.specs.declared.ids.ViewId.{ViewId}
use Rattle.rsct_packet.specs.declared.ids.Member.{Member}
use Rattle.proposal_core.specs.declared.entry.Entry.{Entry}
use Rattle.rsct_packet.specs.Search.{Has}
use Rattle.run_safety.specs.ViewOrder.{Lt, Le}
use Rattle.run_safety.specs.Group.{member, Standing, Packet, Install, Record, In, Put, Begins, puts_from}
use Rattle.run_safety.specs.GroupLists.{OneInstall}
use Rattle.run_safety.specs.Moves.{Leads, Changes}
use Rattle.run_safety.proofs.Order.{lt_refl, lt_trans, le_lt_trans, lt_le}
use Rattle.run_safety.proofs.Prefix.{IsPrefix, prefix_nil, caught_up}
use Rattle.run_safety.proofs.Tracks.{rises_puts, records_puts}
use Rattle.run_safety.proofs.Parts.{Onward, Entered, Unused, PacketOk, RecordOk, NodeOk, packet_on, record_on, added}
use Rattle.run_safety.proofs.Keep.{Inv, each, onwards, same_logs, belows}

-- what the records so far say of the views that the node entered
abbrev Before : ℕ → ℕ → ViewId → Record → Type 0
Before n j v (In m i u ns) = m ≡ n → i ≡ j → Lt u v
Before n j v (Put m u i e) = Unit {0}
Before n j v Begins = Unit {0}

module _ (nodes : ℕ → Standing) (packets : List Packet) (trace : List Record) (log : ViewId → List Entry) (lead : Leads) (inv : Inv nodes packets trace log lead) where
  -- a node enters a view, by an install that is in flight now
  pub enter_onward : (n : ℕ) (v : ViewId) → (nodes n).promise ≡ v → Lt (nodes n).view v → Onward (nodes n) (record (nodes n) { view = v; promise = v; list = [] })
  enter_onward n v at lt =
      let le : Le (nodes n).promise v = subst (λ w. Le (nodes n).promise w) at (lt_refl (nodes n).promise) in
      record { by = inr (refl, lt_le (nodes n).view v lt, le, inr le) }

  entered_before : (n : ℕ) (v : ViewId) → Lt (nodes n).view v → (r : Record) → Has r trace → Before n (nodes n).inc v r
  entered_before n v lt r h = of r (inv.records r h)
    where
      of : (r : Record) → RecordOk nodes log r → Before n (nodes n).inc v r
      of (In m i u ns) (inl l) = λ e q. let l' : i < (nodes n).inc = subst (λ k. i < (nodes k).inc) e l in absurd (omega arith)
      of (In m i u ns) (inr l) = λ e q. le_lt_trans u (nodes n).view v (subst (λ k. Le u (nodes k).view) e l.1) lt
      of (Put m u i e) h = tt
      of Begins h = tt

  pub keep_enter : (now : ℕ → Standing) (n : ℕ) (v : ViewId) (ms : List Member) (ss : ViewId → List Entry) (packets' : List Packet) → (nodes n).promise ≡ v → Lt (nodes n).view v → IsPrefix (nodes n).list (ss (nodes n).view) → IsPrefix (ss (nodes n).view) (log (nodes n).view) → ((j : ℕ) → lead v ≡ Some (member n j) → j ≡ (nodes n).inc) → Changes nodes now n (record (nodes n) { view = v; promise = v; list = [] }) → ((p : Packet) → Has p packets → Has p packets') → ((p : Packet) → Has p packets' → PacketOk now log p) → OneInstall packets' → Has (Install v ms ss) packets' → Inv now packets' (In n (nodes n).inc v ms ∷ puts_from n (nodes n).view (length (nodes n).list) (drop (length (nodes n).list) (ss (nodes n).view)) trace) log lead
  keep_enter now n v ms ss packets' at lt front within mine c more oks one sent =
      let x = nodes n in
      let y : Standing = record x { view = v; promise = v; list = [] } in
      let ok = inv.node n in
      let es = drop (length x.list) (ss x.view) in
      let caught : x.list ++ es ≡ ss x.view = caught_up x.list (ss x.view) front in
      let tr' = puts_from n x.view (length x.list) es trace in
      let o = onwards nodes now n y c (enter_onward n v at lt) in
      record {
        node = each (NodeOk log lead) nodes now n y c (record {
          below = lt_refl v;
          part = prefix_nil (log v);
          mine = mine;
          whole = λ j q. sym (ok.fresh v j q (inr (sym (mine j q), lt)));
          fresh = λ u j q un. ok.fresh u j q (unused u j un);
        }) (λ m ne. inv.node m);
        packet = oks;
        one = one;
        records = added (RecordOk now log) (In n x.inc v ms) tr' (subst (λ (z : Standing). Entered z x.inc v) (sym c.here) (inr (refl, lt_refl v))) (records_puts (RecordOk now log) n x.view (log x.view) x.list es (length x.list) trace refl (subst (λ l. IsPrefix l (log x.view)) (sym caught) within) (λ k e g. g) (λ r h. record_on nodes now log log o (same_logs log) r (inv.records r h)));
        none = inv.none;
        rises = (λ u ns h. records_puts (Before n x.inc v) n x.view (log x.view) x.list es (length x.list) trace refl (subst (λ l. IsPrefix l (log x.view)) (sym caught) within) (λ k e g. tt) (entered_before n v lt) (In n x.inc u ns) h refl refl, rises_puts n x.view (length x.list) es trace inv.rises);
      }
    where
      unused : (u : ViewId) (j : ℕ) → Unused (record (nodes n) { view = v; promise = v; list = [] }) j u → Unused (nodes n) j u
      unused u j (inl l) = inl l
      unused u j (inr l) = inr (l.0, lt_trans (nodes n).view v u lt l.1)

  -- a node starts, in a view that nobody leads yet
  pub keep_start : (now : ℕ → Standing) (n : ℕ) (v : ViewId) (ms : List Member) → ((j : ℕ) → lead v ≡ Some (member n j) → ⊥) → Changes nodes now n (record { inc = (nodes n).inc + 1; view = v; promise = v; list = [] }) → Inv now packets (In n ((nodes n).inc + 1) v ms ∷ trace) log lead
  keep_start now n v ms unled c =
      let x = nodes n in
      let y : Standing = record { inc = x.inc + 1; view = v; promise = v; list = [] } in
      let ok = inv.node n in
      let o = onwards nodes now n y c (record { by = inl (omega arith) }) in
      record {
        node = each (NodeOk log lead) nodes now n y c (record {
          below = lt_refl v;
          part = prefix_nil (log v);
          mine = λ j q. absurd (unled j q);
          whole = λ j q. absurd (unled j q);
          fresh = λ u j q un. ok.fresh u j q (inl (later x.inc j un));
        }) (λ m ne. inv.node m);
        packet = λ p h. packet_on nodes now log log (belows nodes packets trace log lead inv) o (same_logs log) p (inv.packet p h);
        one = inv.one;
        records = added (RecordOk now log) (In n (x.inc + 1) v ms) trace (subst (λ (z : Standing). Entered z (x.inc + 1) v) (sym c.here) (inr (refl, lt_refl v))) (λ r h. record_on nodes now log log o (same_logs log) r (inv.records r h));
        none = inv.none;
        rises = (λ u ns h. absurd (none u (inv.records (In n (x.inc + 1) u ns) h)), inv.rises);
      }
    where
      later : (i k : ℕ) {P : Type 0} → ((i + 1 < k) ⊎ ((i + 1 ≡ k) × P)) → i < k
      later i k (inl l) = omega arith
      later i k (inr l) = omega (arith, l.0)

      none : (u : ViewId) → Entered (nodes n) ((nodes n).inc + 1) u → ⊥
      none u (inl l) = omega arith
      none u (inr l) = omega (arith, l.0)
