-- The invariant of one group's views and lists, and that each move keeps it.
use Rattle.std.proofs.Common.{refl, Some, None, ◌≡◌, ◌≢◌, ℕ, ◌⊎◌, List, [], ◌∷◌, sym, ap, ◌∙◌, subst, inl, inr, ⊎_elim}
use Rattle.std.proofs.lemmas.Bool.{cases_eq}
use Rattle.rsct_packet.specs.declared.ids.ViewId.{ViewId}
use Rattle.proposal_core.specs.declared.entry.Entry.{Entry}
use Rattle.rsct_packet.specs.Search.{Has}
use Rattle.run_safety.specs.ViewOrder.{Le}
use Rattle.run_safety.specs.Group.{member, Standing, Packet, Answer, Install, Append, Request, Refusal, Ack, Stable, Record, Begins}
use Rattle.run_safety.specs.GroupLists.{Rises, OneInstall}
use Rattle.run_safety.specs.Moves.{Leads, Changes}
use Rattle.run_safety.proofs.Order.{lt_refl, le_trans}
use Rattle.run_safety.proofs.Prefix.{IsPrefix, prefix_refl}
use Rattle.run_safety.proofs.Parts.{Onward, onward_refl, Growing, PacketOk, RecordOk, NodeOk, packet_on, record_on, added, member_parts}

pub record Inv (nodes : ℕ → Standing) (packets : List Packet) (trace : List Record) (log : ViewId → List Entry) (lead : Leads) : Type 0 where
  pub node : (n : ℕ) → NodeOk log lead n (nodes n)
  pub packet : (p : Packet) → Has p packets → PacketOk nodes log p
  pub one : OneInstall packets
  pub records : (r : Record) → Has r trace → RecordOk nodes log r
  pub rises : Rises trace
  pub none : (v : ViewId) → lead v ≡ None → log v ≡ []

-- what holds of the node that changed, and of each other, holds of each
pub each : (P : ℕ → Standing → Type 0) (nodes now : ℕ → Standing) (n : ℕ) (x : Standing) → Changes nodes now n x → P n x → ((m : ℕ) → m ≢ n → P m (nodes m)) → (m : ℕ) → P m (now m)
each P nodes now n x c new old m =
    ⊎_elim (λ (e : m ≡ n). subst (λ k. P k (now k)) (sym e) (subst (P n) (sym c.here) new)) (λ (ne : m ≢ n). subst (P m) (sym (c.there m ne)) (old m ne)) (cases_eq m n)

pub onwards : (nodes now : ℕ → Standing) (n : ℕ) (x : Standing) → Changes nodes now n x → Onward (nodes n) x → (m : ℕ) → Onward (nodes m) (now m)
onwards nodes now n x c o = each (λ m y. Onward (nodes m) y) nodes now n x c o (λ m ne. onward_refl (nodes m))

pub same_logs : (log : ViewId → List Entry) → Growing log log
same_logs log = record { at = λ v. prefix_refl (log v) }

-- a packet that is no install
abbrev pub Plain : Packet → Type 0
Plain (Install v ms ss) = ⊥
Plain (Answer v r) = Unit {0}
Plain (Append v i e) = Unit {0}
Plain (Request v p r x) = Unit {0}
Plain (Refusal v p r) = Unit {0}
Plain (Ack v n j k) = Unit {0}
Plain (Stable v k) = Unit {0}

module _ (nodes : ℕ → Standing) (packets : List Packet) (trace : List Record) (log : ViewId → List Entry) (lead : Leads) (inv : Inv nodes packets trace log lead) where
  pub belows : (m : ℕ) → Le (nodes m).view (nodes m).promise
  belows m = (inv.node m).below

  pub one_more : (p : Packet) → Plain p → OneInstall (p ∷ packets)
  one_more p q v ms ns ss ts (inl e) h = absurd (let P : Packet → Type 0 = Plain in subst P (sym e) q)
  one_more p q v ms ns ss ts (inr g) (inl e) = absurd (let P : Packet → Type 0 = Plain in subst P (sym e) q)
  one_more p q v ms ns ss ts (inr g) (inr h) = inv.one v ms ns ss ts g h

  -- a packet is sent
  pub keep_send : (p : Packet) → Plain p → PacketOk nodes log p → Inv nodes (p ∷ packets) trace log lead
  keep_send p q ok =
      record {
        node = inv.node;
        packet = added (PacketOk nodes log) p packets ok inv.packet;
        one = one_more p q;
        records = inv.records;
        rises = inv.rises;
        none = inv.none;
      }

  -- an event begins
  pub keep_turn : Inv nodes packets (Begins ∷ trace) log lead
  keep_turn =
      record {
        node = inv.node;
        packet = inv.packet;
        one = inv.one;
        records = added (RecordOk nodes log) Begins trace tt inv.records;
        rises = inv.rises;
        none = inv.none;
      }

  -- a node promises more
  pub keep_promise : (now : ℕ → Standing) (n : ℕ) (v : ViewId) → Le (nodes n).promise v → Changes nodes now n (record (nodes n) { promise = v }) → Inv now packets trace log lead
  keep_promise now n v le c =
      let x = nodes n in
      let ok = inv.node n in
      let o = onwards nodes now n (record x { promise = v }) c (record { by = inr (refl, lt_refl x.view, le, inl (refl, λ _. refl)) }) in
      record {
        node = each (NodeOk log lead) nodes now n (record x { promise = v }) c (record {
          below = le_trans x.view x.promise v ok.below le;
          part = ok.part;
          mine = ok.mine;
          whole = ok.whole;
          fresh = ok.fresh;
        }) (λ m ne. inv.node m);
        packet = λ p h. packet_on nodes now log log belows o (same_logs log) p (inv.packet p h);
        one = inv.one;
        records = λ r h. record_on nodes now log log o (same_logs log) r (inv.records r h);
        rises = inv.rises;
        none = inv.none;
      }

  -- a view gets its leader
  pub keep_name : (lead' : Leads) (v : ViewId) (n j : ℕ) → lead v ≡ None → lead' v ≡ Some (member n j) → ((u : ViewId) → (u ≡ v → ⊥) → lead' u ≡ lead u) → ((u : ViewId) → (u ≡ v) ⊎ (u ≡ v → ⊥)) → ((nodes n).view ≡ v → j ≡ (nodes n).inc) → Inv nodes packets trace log lead'
  keep_name lead' v n j was now rest cases mine =
      record {
        node = λ m. named m (inv.node m);
        packet = inv.packet;
        one = inv.one;
        records = inv.records;
        rises = inv.rises;
        none = λ u e. ⊎_elim (λ (s : u ≡ v). absurd (let f : lead' u ≡ Some (member n j) = ap lead' s ∙ now in cc)) (λ (d : u ≡ v → ⊥). inv.none u (sym (rest u d) ∙ e)) (cases u);
      }
    where
      empty : log v ≡ []
      empty = inv.none v was

      nil_of : (xs ys : List Entry) → IsPrefix xs ys → ys ≡ [] → xs ≡ ys
      nil_of [] ys p e = sym e
      nil_of (x ∷ xs) ys p e = let q = p.is in absurd (cc)

      pair : (m i : ℕ) → lead' v ≡ Some (member m i) → (m ≡ n) × (i ≡ j)
      pair m i e = member_parts m n i j (sym e ∙ now)

      named : (m : ℕ) → NodeOk log lead m (nodes m) → NodeOk log lead' m (nodes m)
      named m ok = record {
        below = ok.below;
        part = ok.part;
        mine = λ i e. ⊎_elim (λ (s : (nodes m).view ≡ v). let k = pair m i (ap lead' (sym s) ∙ e) in k.1 ∙ mine (ap (λ z. (nodes z).view) (sym k.0) ∙ s) ∙ ap (λ z. (nodes z).inc) (sym k.0)) (λ (d : (nodes m).view ≡ v → ⊥). ok.mine i (sym (rest (nodes m).view d) ∙ e)) (cases (nodes m).view);
        whole = λ i e. ⊎_elim (λ (s : (nodes m).view ≡ v). nil_of (nodes m).list (log (nodes m).view) ok.part (ap log s ∙ empty)) (λ (d : (nodes m).view ≡ v → ⊥). ok.whole i (sym (rest (nodes m).view d) ∙ e)) (cases (nodes m).view);
        fresh = λ u i e un. ⊎_elim (λ (s : u ≡ v). ap log s ∙ empty) (λ (d : u ≡ v → ⊥). ok.fresh u i (sym (rest u d) ∙ e) un) (cases u);
      }
